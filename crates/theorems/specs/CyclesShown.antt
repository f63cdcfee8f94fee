-- A cycle is shown exactly where there is one, and what is shown is one: edges lead round it, and its entries are operations, all different.
use Rattle.std.specs.Prelude.{◌≡◌, List, ℕ, zero, suc, ◌+◌, ◌-◌, ◌≤◌, ◌<◌, length}
use Rattle.std.proofs.Common.{sym, ap, subst, ◌∙◌, arith}
use Rattle.maths.specs.Rows.{at}
use Rattle.model.specs.Order.{Order, size, Edge, Closed, Cyclic}
use Rattle.model.specs.Cycle.{Shown}
use Rattle.theory.specs.cycle.OneTrail.{back_same, trail_place, trail_inside, trail_few}
use Rattle.theory.specs.cycle.TurnedRound.{Turn, turn_before, turn_again, turn_inside, turn_apart}
use Rattle.theory.specs.cycle.SomeShown.{SomeShown, shown_cyclic, cyclic_shown}
use Rattle.theory.specs.cycle.ClosedRound.{Round, shown_round}
use Rattle.theory.specs.order.Decided.{kept_decided}

-- ---- what is shown is a cycle
module _ {o : Order} {cycle : List ℕ} (shown : Shown o cycle) where
  s : Round o cycle
  s = shown_round shown

  -- an edge leads from each entry to the next
  pub shown_edges : (k : ℕ) → k + 1 < length cycle → Edge o (at cycle k) (at cycle (k + 1))
  shown_edges k l = (s.along k l).holds.edge

  -- and from the last to the first
  pub shown_closes : Edge o (at cycle (length cycle - 1)) (at cycle 0)
  shown_closes = s.closes.holds.edge

  -- it has an entry, and no more than the order has operations
  pub shown_long : (1 ≤ length cycle) × (length cycle ≤ size o)
  shown_long = (omega (arith, s.long, s.trail.inside), omega (arith, s.long, trail_few s.trail))

  -- where entry k was met: from the last entry on, each is the lowest kept predecessor of the one after it
  shown_turn : (d k : ℕ) → d + k + 1 ≡ length cycle → Turn s.met s.twice (length s.met) s.begins.holds.place k (at cycle k)
  shown_turn zero k e =
      let first = s.begins.holds in
      let last : length cycle - 1 ≡ k = omega arith in
      turn_before s.trail first.late first.inside
      (turn_again s.trail first.late first.inside (k + 1) (omega (arith, s.long)))
      (back_same (sym first.is) (ap (at cycle) last) s.closes)
  shown_turn (suc d) k e =
      let first = s.begins.holds in
      turn_before s.trail first.late first.inside (shown_turn d (k + 1) (omega arith)) (s.along k (omega arith))

  -- every entry is an operation
  pub shown_inside : (k : ℕ) → k < length cycle → at cycle k < size o
  shown_inside k l =
      let first = s.begins.holds in
      let t = shown_turn (length cycle - (k + 1)) k (omega arith) in
      subst (λ (i : ℕ). i < size o) t.is
      (trail_inside s.trail t.place (turn_inside s.trail first.late first.inside t))

  -- its entries are all different: they were met at different places of the trail
  pub shown_apart : (j k : ℕ) → j < k → k < length cycle → at cycle j ≡ at cycle k → ⊥
  shown_apart j k l r e =
      let first = s.begins.holds in
      let x = shown_turn (length cycle - (j + 1)) j (omega arith) in
      let y = shown_turn (length cycle - (k + 1)) k (omega arith) in
      turn_apart s.trail first.late first.inside x y l (omega (arith, s.long))
      (trail_place s.trail
      (turn_inside s.trail first.late first.inside x) (turn_inside s.trail first.late first.inside y)
      (x.is ∙ e ∙ sym y.is))

-- an order has a shown cycle exactly when it is cyclic
pub record ShownExactly (o : Order) : Type 0 where
  pub cyclic_is_shown : Cyclic o → SomeShown o
  pub shown_is_cyclic : (cycle : List ℕ) → Shown o cycle → Cyclic o

pub shown_exactly : {heaviest : ℕ} (o : Order) → Closed heaviest o → ShownExactly o
shown_exactly o c = record {
  cyclic_is_shown = cyclic_shown c (kept_decided c);
  shown_is_cyclic = λ cycle s. shown_cyclic s;
}
