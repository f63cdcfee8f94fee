-- What each part ensures gives what the next one asks for, and in the end the cycle shown.
use mathlib.Core.Path.{◌≡◌, sym}
use mathlib.Core.Logic.{⊎_elim}
use mathlib.Core.List.{List}
use Prim.Native.Nat.{ℕ, ◌-◌, ◌≤◌, ◌<◌}
use native.Mathlib.Omega.{arith}
use lib.ListN.{length, take}
use Rattle.maths.specs.Cases.{lt_or_le}
use Rattle.maths.specs.Rows.{take_at, take_long, over_is}
use Rattle.maths.specs.Lowest.{Lowest}
use Rattle.model.specs.Order.{Order, size, edge_count, Closed, Cyclic, Kept}
use Rattle.theory.specs.order.KeptOperations.{kept_inside, cyclic_kept}
use Rattle.theory.specs.cycle.OneTrail.{trail_few}
use Rattle.theory.specs.cycle.LowestPredecessors.{Backed, backed_end, Leads}
use Rattle.theory.specs.cycle.WalkUntilMetAgain.{NeverLeaves, leads_stays, MetAgain, trail_made}
use Rattle.theory.specs.cycle.WritingTheCycle.{LeastNumber, Wrote, shown_made}
use Rattle.cycle.specs.Show.{KeptAt, Shows}
use Rattle.cycle.specs.Parts.{Blank, FirstBlank, Trailed}

module _ {heaviest : ℕ} {o : Order} {starts back : List ℕ} {first : ℕ} (closed : Closed heaviest o) (marked : KeptAt o starts) (cyclic : Cyclic o)
    (backed : Backed o.from o.to (Blank starts) back (edge_count o)) (blank : FirstBlank starts (size o) first) where
  -- 0 marks the kept, so the row leads to the lowest kept predecessors
  leads : Leads o back
  leads = backed_end closed marked.zero marked.kept backed

  -- the operation on the cycle is kept, so the search for a blank ends before the order does
  start : Lowest (Kept o) (size o) first
  start =
      let inside : first < size o =
      ⊎_elim
      (λ l. l)
      (λ l. absurd (blank.none cyclic.operation (omega (arith, kept_inside closed (cyclic_kept cyclic))) (marked.kept cyclic.operation (cyclic_kept cyclic))))
      (lt_or_le first (size o)) in
      record {
        inside = inside;
        holds = marked.zero first inside (blank.found inside);
        none_before = λ k l x. blank.none k l (marked.kept k x);
      }

  -- from a kept operation the row leads to kept ones alone
  pub stays : NeverLeaves back first
  stays = leads_stays leads start closed

  -- along this row what is met until one comes again is the trail
  pub trailed : {met : List ℕ} {count twice : ℕ} → MetAgain back first met count twice → Trailed o met count twice
  trailed {met} {count} rounds =
      let trail = trail_made leads start rounds in
      record {
        long = rounds.long;
        few = omega (arith, trail_few trail, take_long count met (omega (arith, rounds.few, rounds.long)));
        inside = rounds.inside;
        trail = trail;
      }

-- what is written in front of the row is the cycle shown
pub shows : {o : Order} {met : List ℕ} {count twice lowest : ℕ} {before after : List ℕ} {heaviest : ℕ} → Closed heaviest o → Trailed o met count twice → size o ≤ length before
    → LeastNumber met twice count lowest → Wrote met twice count lowest before after (count - twice) → Shows o before after (count - twice)
shows {o} {met} {count} {twice} {lowest} {before} {after} closed t wide least wrote =
    let cycle : List ℕ = take (count - twice) after in
    let long : length cycle ≡ count - twice = take_long (count - twice) after (omega (arith, t.few, wrote.long)) in
    record {
      cycle = cycle;
      shown = shown_made t.trail (omega (arith, t.few, t.long, closed.few)) least wrote (omega (arith, t.few));
      long = omega arith;
      written =
          over_is cycle before (omega (arith, t.few)) after wrote.long
          (λ i l. sym (take_at (count - twice) after i (omega arith)))
          (λ i l. wrote.rest i (omega arith));
    }
