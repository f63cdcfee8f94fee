-- The loop of `latest`: below i the row has the latest starts, after it zeros; at the end it is the latest row.
use mathlib.Core.Path.{◌≡◌, sym, ap, ◌∙◌}
use mathlib.Core.Logic.{⊎_elim}
use mathlib.Core.List.{List}
use Prim.Native.Nat.{ℕ, ◌+◌, ◌-◌, ◌≤◌, ◌<◌}
use native.Mathlib.Omega.{arith}
use lib.ListN.{length, set, replicate, length-set, length-replicate}
use lib.Seq.{get_or-set_same, get_or-set_other}
use Rattle.maths.specs.Cases.{same_or_not}
use Rattle.maths.specs.Rows.{at, blank}
use Rattle.model.specs.Limits as limit
use Rattle.model.specs.Order.{Order, turned, size, weight, Closed}
use Rattle.model.specs.Placing.{Placing}
use Rattle.model.specs.Tables.{Keeps, Earliest}
use Rattle.theory.specs.refusals.SoundGraph.{closed_turned}
use Rattle.theory.specs.order.PlacingOutcome.{placing_done, placing_cyclic}
use Rattle.theory.specs.tables.LatestTurned.{latest_turned, mirror, mirror_at, mirror_keeps}
use Rattle.theory.specs.tables.KeepingStarts.{keeps_acyclic}
use Rattle.tables.specs.LatestRow.{RoomWithin, LatestRow}

-- what a start within the bound is made of, from the start turned round
abbrev pub read : Order → ℕ → List ℕ → ℕ → ℕ
read o bound u i = bound + 2 - weight o i - at u i

pub record Reading (o : Order) (bound : ℕ) (u row : List ℕ) (i : ℕ) : Type 0 where
  pub long : length row ≡ limit.operations
  pub inside : i ≤ size o
  pub done : (k : ℕ) → k < i → at row k ≡ read o bound u k
  pub rest : (k : ℕ) → i ≤ k → at row k ≡ 0

module _ {o : Order} {bound : ℕ} {u : List ℕ} where
  pub reading_none : Reading o bound u (replicate limit.operations 0) 0
  reading_none = record {
    long = length-replicate {A = ℕ} limit.operations 0;
    inside = omega arith;
    done = λ k l. absurd (omega arith);
    rest = λ k l. blank limit.operations k;
  }

  pub reading_step : {row : List ℕ} {i heaviest : ℕ} → Closed heaviest o → Reading o bound u row i → i < size o
      → Reading o bound u (set row i (read o bound u i)) (i + 1)
  reading_step {row} {i} c h l =
      let room : i < length row = omega (arith, c.few, h.long) in
      record {
        long = length-set row i (read o bound u i) ∙ h.long;
        inside = omega arith;
        done = λ k m.
            ⊎_elim
            (λ e. ap (at (set row i (read o bound u i))) e ∙ get_or-set_same row i (read o bound u i) 0 room ∙ ap (read o bound u) (sym e))
            (λ n. get_or-set_other row i k (read o bound u i) 0 n ∙ h.done k (omega arith))
            (same_or_not k i);
        rest = λ k m. get_or-set_other row i k (read o bound u i) 0 (λ e. omega arith) ∙ h.rest k (omega arith);
      }

-- the order turned round has no cycle where some starts keep the order: so all of it is placed
module _ {heaviest : ℕ} {o : Order} {bound placed : ℕ} {u : List ℕ} (c : Closed heaviest o) (room : RoomWithin o bound) (p : Placing (turned o) u placed) where
  backwards : Keeps (turned o) (mirror o bound room.row)
  backwards = mirror_keeps o c bound room.row room.keeps room.within

  pub turned_earliest : Earliest (turned o) u
  turned_earliest =
      placing_done (closed_turned o c) p
      (⊎_elim
      (λ e. e)
      (λ n.
      absurd
      (keeps_acyclic (turned o) (closed_turned o c) (mirror o bound room.row) backwards (placing_cyclic (closed_turned o c) p n)))
      (same_or_not placed (size o)))

  -- a start turned round and its weight fit below the bound
  pub turned_fits : (i : ℕ) → i < size o → at u i + weight o i ≤ bound + 1
  turned_fits i l =
      omega (
        arith,
        turned_earliest.least (mirror o bound room.row) backwards i l,
        mirror_at o c bound room.row room.keeps room.within i l,
        room.keeps.from_one i l,
      )

  pub reading_end : {row : List ℕ} {i : ℕ} → Reading o bound u row i → size o ≤ i → LatestRow o bound row
  reading_end {row} h l = record {
    long = h.long;
    is = latest_turned o c bound room.row u row room.keeps room.within turned_earliest (λ k m. h.done k (omega arith));
    rest = λ k m. h.rest k (omega (arith, h.inside));
  }
