-- The cycle shown, entry by entry: each entry is the lowest kept predecessor of the next, and the last of the first.
use Rattle.std.specs.Prelude.{◌≡◌, refl, List, reverse, drop}
use Rattle.std.proofs.Math.Path.{sym, ap}
use Rattle.std.proofs.Common.{subst, ◌∙◌}
use Rattle.std.proofs.Math.Logic.{⊎_elim}
use Prim.Native.Nat.{ℕ, ◌+◌, ◌-◌, ◌≤◌, ◌<◌}
use native.Mathlib.Omega.{arith}
use Rattle.std.proofs.Math.ListN.{length, length-drop}
use Rattle.std.proofs.Math.Seq.{get_or-drop}
use Rattle.maths.specs.Cases.{lt_or_le}
use Rattle.maths.specs.Rows.{at}
use Rattle.maths.specs.Turning.{beginning_at, reverse_long, reverse_at, beginning_long, beginning_on, beginning_around}
use Rattle.maths.specs.Lowest.{Lowest}
use Rattle.model.specs.Order.{Order, size}
use Rattle.model.specs.Cycle.{Back, Trail, Shown}
use Rattle.theory.specs.cycle.OneTrail.{back_same, trail_inside}
use Rattle.theory.specs.cycle.TurnedRound.{Turn, on, around, turned_round, turn_to, turn_one, turn_back, turn_again}

-- i was met at `twice` or later
pub record Since (met : List ℕ) (twice i : ℕ) : Type 0 where
  pub place : ℕ
  pub late : twice ≤ place
  pub inside : place < length met
  pub is : at met place ≡ i

-- what was met since, in edge direction: each is the lowest kept predecessor of the one written after it, and the last of the first.
-- It begins with its lowest number
pub record Round (o : Order) (cycle : List ℕ) : Type 0 where
  pub met : List ℕ
  pub twice : ℕ
  pub trail : Trail o met twice
  pub long : length cycle + twice ≡ length met
  pub begins : Lowest (Since met twice) (size o) (at cycle 0)
  pub along : (k : ℕ) → k + 1 < length cycle → Back o (at cycle (k + 1)) (at cycle k)
  pub closes : Back o (at cycle 0) (at cycle (length cycle - 1))

-- entry by entry, what was met from t on, turned round and turned to begin at the place n that met's place q is turned to
module _ (m : List ℕ) (t q n : ℕ) (late : t ≤ q) (ends : n + q + 1 ≡ length m) where
  back_row : List ℕ
  back_row = reverse (drop t m)

  back_long : length back_row + t ≡ length m
  unfolding back_row
  back_long = omega (arith, reverse_long (drop t m), length-drop t m)

  back_at : (k : ℕ) → k + t < length m → at back_row k ≡ at m (length m - 1 - k)
  unfolding back_row
  back_at k l =
      let long = length-drop t m in
      let e : t + (length (drop t m) - 1 - k) ≡ length m - 1 - k = omega arith in
      reverse_at (drop t m) k (omega arith) ∙ get_or-drop t m (length (drop t m) - 1 - k) 0 ∙ ap (at m) e

  pub turned_long : length (beginning_at n (reverse (drop t m))) + t ≡ length m
  unfolding back_row
  turned_long = omega (arith, beginning_long back_row n, back_long)

  pub turned_turn : (k : ℕ) → k + t < length m → Turn m t (length m) q k (at (beginning_at n (reverse (drop t m))) k)
  unfolding back_row
  turned_turn k l =
      let long = back_long in
      ⊎_elim
      (λ r. record {
        steps = length m - t - k;
        round = omega arith;
        place = length m - 1 - (n + k);
        turned = around (omega arith) (omega arith);
        is = sym (beginning_on back_row n k (omega arith) ∙ back_at (n + k) (omega arith));
      })
      (λ r.
      let j : ℕ = n + k + t - length m in
      record {
        steps = length m - t - k;
        round = omega arith;
        place = length m - 1 - j;
        turned = on (omega arith) (omega arith);
        is = sym (beginning_around back_row n k j (omega arith) (omega arith) (omega arith) ∙ back_at j (omega arith));
      })
      (lt_or_le (n + k + t) (length m))

module _ {o : Order} {cycle : List ℕ} (s : Shown o cycle) where
  -- as many entries as were met since
  shown_since : length cycle + s.twice ≡ length s.met
  shown_since =
      omega (
        arith,
        ap length s.is,
        beginning_long (reverse (drop s.twice s.met)) s.place,
        reverse_long (drop s.twice s.met),
        length-drop s.twice s.met,
        s.trail.inside,
      )

  -- where the lowest was met
  lowest_place : ℕ
  lowest_place = length s.met - 1 - s.place

  lowest_late : s.twice ≤ lowest_place
  unfolding lowest_place
  lowest_late = omega (arith, shown_since, s.inside)

  lowest_ends : s.place + lowest_place + 1 ≡ length s.met
  unfolding lowest_place
  lowest_ends = omega (arith, shown_since, s.inside)

  lowest_inside : lowest_place < length s.met
  lowest_inside = omega (arith, lowest_ends)

  shown_entry : (k : ℕ) → k < length cycle → Turn s.met s.twice (length s.met) lowest_place k (at cycle k)
  shown_entry k l =
      subst (λ (c : List ℕ). Turn s.met s.twice (length s.met) lowest_place k (at c k)) (sym s.is)
      (turned_turn s.met s.twice lowest_place s.place lowest_late lowest_ends k (omega (arith, shown_since)))

  shown_first : at s.met lowest_place ≡ at cycle 0
  shown_first =
      let t = shown_entry 0 (omega (arith, s.inside)) in
      ap (at s.met) (sym (turned_round lowest_late lowest_inside (omega (arith, t.round)) t.turned)) ∙ t.is

  -- the cycle shown goes round
  pub shown_round : Round o cycle
  shown_round = record {
    met = s.met;
    twice = s.twice;
    trail = s.trail;
    long = shown_since;
    begins = record {
      inside = subst (λ (i : ℕ). i < size o) shown_first (trail_inside s.trail lowest_place lowest_inside);
      holds = record { place = lowest_place; late = lowest_late; inside = lowest_inside; is = shown_first };
      none_before = λ i l since.
          let (k, (few, turn)) = turn_to lowest_late lowest_inside s.met since.place since.late since.inside in
          let inside : k < length cycle = omega (arith, shown_since) in
          omega (arith, since.is, s.lowest k inside, turn_one lowest_late lowest_inside turn (shown_entry k inside));
    };
    along = λ k l. turn_back s.trail lowest_late lowest_inside (shown_entry (k + 1) l) (shown_entry k (omega arith));
    closes =
        let k : ℕ = length cycle - 1 in
        let again = turn_again s.trail lowest_late lowest_inside (k + 1) (omega (arith, shown_since, s.inside)) in
        back_same shown_first refl
        (turn_back s.trail lowest_late lowest_inside again (shown_entry k (omega (arith, s.inside))));
  }
