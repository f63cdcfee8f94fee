-- An edge from a kept operation makes the row's number at its end the lower of that and its own.
use Rattle.std.proofs.Common.{◌≡◌, ℕ, ◌+◌, ◌<◌, List, length, set, min, ap, ◌∙◌, subst, arith}
use Rattle.std.proofs.lemmas.List.{length_push}
use Rattle.std.proofs.lemmas.Slice.Zip.{zip_turn}
use Rattle.maths.specs.Rows.{at}
use Rattle.model.specs.Limits as limit
use Rattle.theory.specs.cycle.LowestPredecessors.{Backed, backed_none, backed_step}
use Rattle.cycle.proofs.backs.Goals as goal

-- one edge more, by its ends
backed_lower : {from to back : List ℕ} {P : ℕ → Type 0} {e n source target v : ℕ} → Backed from to P back e → source ≡ at from e → target ≡ at to e → at to e < limit.operations
    → P source → v ≡ min (at back target) source → n ≡ e + 1 → Backed from to P (set back target v) n
backed_lower {back = back} {P = P} h p q low holds is long =
    let there = ap (at back) q in
    rw (q, long) (backed_step h low (record { under_old = omega arith; under_new = λ _. omega arith; is_new = λ l. omega arith; has = λ l. subst P p holds }))

pub loop-source-init : goal.loop-source-init
loop-source-init c = backed_none

pub loop-source-preserved-then-starts-from-eq0 : goal.loop-source-preserved-then-starts-from-eq0
loop-source-preserved-then-starts-from-eq0 c =
    let order = c.args.order.now in
    let e = c.loop-source.yielded in
    let t = zip_turn order.from.now order.to.now e c.into_iter-source-iterator.result c.loop-source.source-iterator c.next.new.self _ (cc) (cc) c.loop-source.yielded_by _ c.in-Some.is c.next.ensures.steps in
    backed_lower c.loop-source.invariant (t.2 0) (c.from-target.ensures ∙ t.3 0) (omega (arith, order.closed.target_in (length e) t.0, order.closed.few)) (rw c.from.ensures at c.if-starts-from-eq0.true) (cc) (length_push e _)
