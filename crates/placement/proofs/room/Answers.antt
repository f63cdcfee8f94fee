-- Unit use is looked at where i starts and where others start within its run, and that is enough.
use Rattle.std.specs.Prelude.{◌≡◌, Bool, true, false, length, ◌<◌}
use Rattle.std.specs.Bool.{MatchBool}
use Rattle.std.specs.List.{range_with_len, AllWithin, HoldsAt}
use Rattle.std.proofs.Common.{rules, refl, subst, ℕ, arith}
use Rattle.std.proofs.lemmas.Iterator.{cases_from_all, YieldsList-from_range}
use Rattle.std.proofs.lemmas.List.FromFn.{length-range_with_len, get_or-range_with_len}
use borrow.Author.Tests.{tests}
use Rattle.maths.specs.Cases.{Tells, tells_yes, tells_no}
use Rattle.maths.specs.TellLaws.{tells_as}
use Rattle.maths.specs.Rows.{at}
use Rattle.placement.specs.Fit.{Calm}
use Rattle.placement.proofs.Counting.{room_starts, room_calm}
use Rattle.placement.proofs.room.Goals as goal

-- the numbers below n stand each at its own place
own : (n j : ℕ) → j < n → at (range_with_len 0 n) j ≡ j
own n j l = omega (arith, get_or-range_with_len 0 n j 0 l)

-- what `all` says of the numbers below n
all_below : {P : ℕ → Type 0} (n : ℕ) (r : Bool)
    → MatchBool r (AllWithin P (range_with_len 0 n) 0 (length (range_with_len 0 n)))
    ((k : ℕ) × (k < length (range_with_len 0 n)) × HoldsAt (λ j. P j → ⊥) (range_with_len 0 n) k)
    → Tells r ((j : ℕ) → j < n → P j)
all_below {P} n true h =
    tells_yes (λ j l. subst P (own n j l) (h j 0 (omega arith) (omega (arith, length-range_with_len 0 n))))
all_below {P} n false h =
    let inside : h.0 < n = omega (arith, h.1, length-range_with_len 0 n) in
    tells_no (λ all. subst (λ (x : ℕ). P x → ⊥) (own n h.0 inside) (h.2 0) (all h.0 inside))

pub returns-then-enough : goal.returns-then-enough
returns-then-enough c =
    let calm = λ (j : ℕ). Calm c.args.work.now.busy.now c.args.work.now.types.now c.args.work.now.units.now c.args.starts.now c.args.i j in
    let all = cases_from_all _ _ _ calm (λ j. calm j → ⊥) c.all.ensures.ran (YieldsList-from_range 0 c.args.i c.args.i refl (omega arith))
    (λ x q k. search (rules, tests)) (λ x q k. search (rules, tests)) in
    tells_as _ (room_starts _ _ _ _ _ (c.enough.ensures.yes c.if-enough.true)) (λ r j l. room_calm j r) (all_below c.args.i _ all)
