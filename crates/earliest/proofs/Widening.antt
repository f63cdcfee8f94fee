-- Delays as weights and starts in 16 bits: the rows are the same lists of numbers, entry by entry, and every start fits.
use mathlib.Core.Path.{◌≡◌, sym, ◌∙◌}
use mathlib.Core.List.{List}
use Prim.Native.Nat.{ℕ, ◌+◌, ◌≤◌, ◌<◌}
use native.Mathlib.Omega.{arith}
use borrow.Author.Count.{below_none, below_more}
use lib.ListN.{length, set, take, replicate, length-set, length-replicate}
use lib.Seq.{get_or-set_same, get_or-set_other}
use Rattle.std.proofs.Math.Seq.{take-append_seam}
use Rattle.maths.specs.Rows.{at, blank, over, over_is, same_row}
use Rattle.model.specs.Limits as limit
use Rattle.model.specs.Order.{ordered, Closed}
use Rattle.model.specs.Placing.{Placing}
use Rattle.theory.specs.order.PlacingOutcome.{placing_low}
use Rattle.theory.specs.refusals.SoundGraph.{closed_heavier}
use Rattle.earliest.specs.Widths.{heaviest}

-- the first i entries of a row are copied, and zeros stand after them
pub record Copied (source row : List ℕ) (i : ℕ) : Type 0 where
  pub long : length row ≡ limit.operations
  pub done : (k : ℕ) → k < i → at row k ≡ at source k
  pub rest : (k : ℕ) → i ≤ k → at row k ≡ 0

module _ {source : List ℕ} where
  -- nothing is copied yet
  pub copied_none : Copied source (replicate limit.operations 0) 0
  copied_none = record {
    long = length-replicate {A = ℕ} limit.operations 0;
    done = below_none (λ k. at (replicate limit.operations 0) k ≡ at source k);
    rest = λ k l. blank limit.operations k;
  }

  -- one entry more is the source's
  pub copied_step : {row : List ℕ} {i : ℕ} → Copied source row i → i < limit.operations → Copied source (set row i (at source i)) (i + 1)
  copied_step {row} {i} h l = record {
    long = length-set row i (at source i) ∙ h.long;
    done = below_more (λ k. at (set row i (at source i)) k ≡ at source k) i
        (λ k m. get_or-set_other row i k (at source i) 0 (omega arith) ∙ h.done k m)
        (get_or-set_same row i (at source i) 0 (omega (arith, h.long)));
    rest = λ k m. get_or-set_other row i k (at source i) 0 (omega arith) ∙ h.rest k (omega arith);
  }

  -- a short row is copied: zeros stand after it
  pub copied_short : {row : List ℕ} {i : ℕ} → length source ≤ limit.operations → i ≡ length source → Copied source row i → row ≡ over source (replicate limit.operations 0)
  copied_short {row} few e h =
      let zeros = length-replicate {A = ℕ} limit.operations 0 in
      over_is source (replicate limit.operations 0) (omega arith) row (h.long ∙ sym zeros) (λ k l. h.done k (omega arith))
      (λ k l. h.rest k (omega arith) ∙ sym (blank limit.operations k))

  -- a whole row is copied: the two are one
  pub copied_whole : {row : List ℕ} {i : ℕ} → length source ≡ limit.operations → limit.operations ≤ i → Copied source row i → row ≡ source
  copied_whole {row} long e h = same_row row source (h.long ∙ sym long) (λ k l. h.done k (omega (arith, h.long)))

module _ {delays from to weights : List ℕ} (c : Closed limit.longest (ordered delays from to)) (w : weights ≡ over delays (replicate limit.operations 0)) where
  -- the front of the row of weights is the delays
  front : take (length delays) weights ≡ delays
  front = rw w (take-append_seam delays _)

  -- so the order of weights is closed, up to the heaviest
  pub weights_closed : Closed heaviest (ordered (take (length delays) weights) from to)
  weights_closed = rw front (closed_heavier (ordered delays from to) (omega arith) c)

  module _ {starts : List ℕ} {placed : ℕ} (p : Placing (ordered (take (length delays) weights) from to) starts placed) where
    -- its placing is that of the delays
    pub delays_placed : Placing (ordered delays from to) starts placed
    delays_placed = rw front at p

    -- and no start is above what the longest delays add up to
    pub starts_low : (i : ℕ) → at starts i ≤ heaviest
    starts_low i = omega (arith, placing_low c delays_placed i, c.few)

    -- so in 16 bits they are the same placing
    pub delays_narrowed : {row : List ℕ} → row ≡ starts → Placing (ordered delays from to) row placed
    delays_narrowed e = rw e delays_placed
