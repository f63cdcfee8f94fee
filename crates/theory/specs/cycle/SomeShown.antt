-- What is shown is a cycle, and where an order has a cycle one can be shown.
use Rattle.std.specs.Prelude.{◌≡◌, refl, ◌⊎◌, List, ℕ, zero, suc, ◌+◌, ◌-◌, ◌≤◌, ◌<◌, length, set, take, replicate}
use Rattle.std.proofs.Common.{subst, ⊎_elim, add-one, arith}
use Rattle.std.proofs.lemmas.List.{length-replicate}
use Rattle.maths.specs.Cases.{lt_or_le}
use Rattle.maths.specs.Rows.{at}
use Rattle.maths.specs.Lowest.{Lowest, find}
use Rattle.model.specs.Limits as limit
use Rattle.model.specs.Order.{Order, size, edge_count, source, target, Closed, Cyclic, Kept}
use Rattle.model.specs.Cycle.{Trail, Shown}
use Rattle.theory.specs.order.KeptOperations.{kept_inside, cyclic_kept}
use Rattle.theory.specs.cycle.TurnedRound.{turned_some}
use Rattle.theory.specs.cycle.LowestPredecessors.{Lower, Backed, backed_none, backed_step, backed_end}
use Rattle.theory.specs.cycle.WalkUntilMetAgain.{NeverLeaves, Walking, walking_none, walking_room, walking_step, walking_end, MetAgain, leads_stays, trail_made}
use Rattle.theory.specs.cycle.WritingTheCycle.{Lesser, LeastNumber, least_none, least_step, Wrote, wrote_none, wrote_step, shown_made}

-- ---- what is shown is a cycle
module _ {o : Order} {cycle : List ℕ} (s : Shown o cycle) where
  -- the trail starts at a kept operation, which a cycle reaches
  pub shown_cyclic : Cyclic o
  shown_cyclic = record { operation = s.trail.start.holds.origin; around = s.trail.start.holds.around }

-- ---- where a graph has a cycle, one can be shown
-- the lower of two numbers can be told, where P is decided
some_lower : {P : Type 0} → P ⊎ (P → ⊥) → (new old : ℕ) → (r : ℕ) × Lower P new old r
some_lower dec new old =
    ⊎_elim
    (λ p.
    ⊎_elim
    (λ l. (new, record { under_old = omega arith; under_new = λ x. omega arith; is_new = λ m. refl; has = λ m. p }))
    (λ l. (old, record { under_old = omega arith; under_new = λ x. l; is_new = λ m. absurd (omega arith); has = λ m. p }))
    (lt_or_le new old))
    (λ n. (old, record { under_old = omega arith; under_new = λ x. absurd (n x); is_new = λ m. absurd (omega arith); has = λ m. absurd (omega arith) }))
    dec

-- of two places, the one with the lesser number can be told
some_lesser : (met : List ℕ) (old new : ℕ) → (r : ℕ) × Lesser met old new r
some_lesser met old new =
    ⊎_elim
    (λ l. (new, record { take_new = λ m. refl; keep_old = λ m. omega arith }))
    (λ l. (old, record { take_new = λ m. omega arith; keep_old = λ m. refl }))
    (lt_or_le (at met new) (at met old))

-- what the edges before e say of each operation, where it is decided which are kept
some_backed : {o : Order} {heaviest : ℕ} → Closed heaviest o → ((i : ℕ) → i < size o → Kept o i ⊎ (Kept o i → ⊥)) → (e : ℕ) → e ≤ edge_count o
    → (back : List ℕ) × Backed o.from o.to (Kept o) back e
some_backed closed dec zero l = (replicate limit.operations limit.operations, backed_none)
some_backed {o} closed dec (suc e) l =
    let (back, backed) = some_backed closed dec e (omega arith) in
    let (v, lower) = some_lower (dec (source o e) (closed.source_in e l)) (source o e) (at back (target o e)) in (
      set back (target o e) v,
      subst (Backed o.from o.to (Kept o) (set back (target o e) v)) (add-one e)
          (backed_step backed (omega (arith, closed.target_in e l, closed.few)) lower),
    )

-- what is met until one comes again
record SomeRounds (back : List ℕ) (first : ℕ) : Type 0 where
  met : List ℕ
  count : ℕ
  twice : ℕ
  rounds : MetAgain back first met count twice

-- a walk that stays ends, since each step takes a place more
some_rounds : {back : List ℕ} {first : ℕ} → NeverLeaves back first → (left : ℕ) {met places : List ℕ} {count here : ℕ}
    → Walking back first met places count here → limit.operations ≤ count + left → SomeRounds back first
some_rounds stays zero {met} {places} {count} {here} w l =
    ⊎_elim
    (λ m. record { met = met; count = count; twice = at places here - 1; rounds = walking_end w m })
    (λ m. absurd (omega (arith, walking_room w stays (omega arith))))
    (lt_or_le 0 (at places here))
some_rounds stays (suc left) {met} {places} {count} {here} w l =
    ⊎_elim
    (λ m. record { met = met; count = count; twice = at places here - 1; rounds = walking_end w m })
    (λ m. some_rounds stays left (walking_step w stays (omega arith)) (omega arith))
    (lt_or_le 0 (at places here))

-- of places one after another, one has the least number
some_least : (met : List ℕ) (twice n : ℕ) → (best : ℕ) × LeastNumber met twice (twice + 1 + n) best
some_least met twice zero = (twice, subst (λ (n : ℕ). LeastNumber met twice n twice) (omega arith) least_none)
some_least met twice (suc n) =
    let (best, least) = some_least met twice n in
    let (r, lesser) = some_lesser met best (twice + 1 + n) in
    let e : twice + 1 + n + 1 ≡ twice + 1 + suc n = omega arith in
    (r, subst (λ (k : ℕ). LeastNumber met twice k r) e (least_step least lesser))

-- the cycle's first k entries can be written
some_wrote : (met : List ℕ) {twice count lowest : ℕ} → twice ≤ lowest → lowest < count → (before : List ℕ) → count - twice ≤ length before
    → (k : ℕ) → k ≤ count - twice → (after : List ℕ) × Wrote met twice count lowest before after k
some_wrote met late inside before wide zero l = (before, wrote_none)
some_wrote met {twice} {count} {lowest} late inside before wide (suc k) l =
    let (after, wrote) = some_wrote met late inside before wide k (omega arith) in
    let (place, turned) = turned_some late inside (count - twice - k) in (
      set after k (at met place),
      subst (Wrote met twice count lowest before (set after k (at met place))) (add-one k)
          (wrote_step wrote (omega arith) (record { steps = count - twice - k; round = omega arith; place = place; turned = turned; is = refl })),
    )

-- a cycle that is shown
pub record SomeShown (o : Order) : Type 0 where
  pub cycle : List ℕ
  pub shown : Shown o cycle

-- a trail closes a cycle, and it can be written
trail_shown : {o : Order} (met : List ℕ) (count : ℕ) {twice : ℕ} → Trail o (take count met) twice → count ≤ length met → twice < count → SomeShown o
trail_shown {o} met count {twice} trail room inside =
    let (lowest, found) = some_least met twice (count - (twice + 1)) in
    let e : twice + 1 + (count - (twice + 1)) ≡ count = omega arith in
    let least : LeastNumber met twice count lowest = subst (λ (n : ℕ). LeastNumber met twice n lowest) e found in
    let wide : count - twice ≤ length (replicate {A = ℕ} count 0) = omega (arith, length-replicate {A = ℕ} count 0) in
    let (after, wrote) = some_wrote met least.late least.inside (replicate count 0) wide (count - twice) (omega arith) in
    record { cycle = take (count - twice) after; shown = shown_made {after = after} trail room least wrote wide }

-- from the lowest kept operation back there is a trail
start_shown : {o : Order} {first heaviest : ℕ} → Closed heaviest o → ((i : ℕ) → i < size o → Kept o i ⊎ (Kept o i → ⊥)) → Lowest (Kept o) (size o) first → SomeShown o
start_shown {o} closed dec start =
    let (back, backed) = some_backed closed dec (edge_count o) (omega arith) in
    let leads = backed_end closed (λ j l k. k) (λ j k. k) backed in
    let r = some_rounds (leads_stays leads start closed) limit.operations walking_none (omega arith) in
    trail_shown r.met r.count (trail_made leads start r.rounds) (omega (arith, r.rounds.few, r.rounds.long)) r.rounds.inside

-- where it is decided which operations are kept, a graph with a cycle has one that is shown
pub cyclic_shown : {o : Order} {heaviest : ℕ} → Closed heaviest o → ((i : ℕ) → i < size o → Kept o i ⊎ (Kept o i → ⊥)) → Cyclic o → SomeShown o
cyclic_shown {o} closed dec c =
    ⊎_elim
    (λ f. start_shown closed dec f.lowest)
    (λ none. absurd (none c.operation (kept_inside closed (cyclic_kept c)) (cyclic_kept c)))
    (find (Kept o) (size o) dec)
