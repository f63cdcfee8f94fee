-- Each way out is an outcome that the contract allows, by what was asked on the way there.
use Rattle.std.proofs.Common.{◌≤◌, ◌<◌, ◌⊎◌, inl, inr, ⊎_elim, sym, ◌∙◌, arith}
use Rattle.std.specs.Range.{range_inclusive_end}
use Rattle.std.proofs.lemmas.Bool.Decides.{nat_tests}
use Rattle.model.specs.Limits as limit
use Rattle.std.proofs.lemmas.Result.{err_from_is_err_and}
use Rattle.list_schedule.proofs.Answering.{advance_even, advance_can, advance_refused, advance_whole, advance_outside, advance_moves}
use Rattle.list_schedule.proofs.State.advance.Goals as goal

pub returns-in_err-graph_with_units : goal.returns-in_err-graph_with_units
returns-in_err-graph_with_units c =
    let given = err_from_is_err_and c.from_residual.result c.from_residual.ensures.1 in rw (given.1, given.2) (advance_refused c.in_err-graph_with_units.ensures)

pub full-requires : goal.full-requires
full-requires c = (advance_can c.args.graph.now c.args.units.now c.in_ok-graph_with_units.ensures).sound.few

pub returns-then-full : goal.returns-then-full
returns-then-full c = advance_whole c.in_ok-graph_with_units.ensures (c.full.ensures.yes c.if-full.true)

pub returns-then-not-contains : goal.returns-then-not-contains
returns-then-not-contains c =
    let a = c.args in
    let told = sym c.contains.ensures.value ∙ c.if-not-contains.true in
    let out : (a.self.now.step < 1) ⊎ (range_inclusive_end c.new.result < a.self.now.step) = grind (arith, nat_tests) in
    advance_outside c.in_ok-graph_with_units.ensures (c.full.ensures.none c.if-full.false)
    (⊎_elim (λ l. inl l) (λ l. inr (omega (arith, c.new.ensures.end))) out)

pub work-work-requires-clause-sound : goal.work-work-requires-clause-sound
work-work-requires-clause-sound c = (advance_can c.args.graph.now c.args.units.now c.in_ok-graph_with_units.ensures).sound

pub work-work-requires-clause-units_len : goal.work-work-requires-clause-units_len
work-work-requires-clause-units_len c = advance_even c.args.graph.now c.args.units.now c.in_ok-graph_with_units.ensures

pub next_starts-self-requires-clause-doable : goal.next_starts-self-requires-clause-doable
next_starts-self-requires-clause-doable c = rw (c.work-work.ensures.graph, c.work-work.ensures.units) (advance_can c.args.graph.now c.args.units.now c.in_ok-graph_with_units.ensures)

pub returns : goal.returns
returns c =
    let a = c.args in
    let passed = c.in_ok-graph_with_units.ensures in
    let told = sym c.contains.ensures.value ∙ c.if-not-contains.false in
    let within : (1 ≤ a.self.now.step) × (a.self.now.step ≤ limit.steps) = (grind (arith, nat_tests), grind (arith, nat_tests)) in
    advance_moves passed (c.full.ensures.none c.if-full.false) within.0 within.1
    (rw (c.work-work.ensures.graph, c.work-work.ensures.units) at c.next_starts-self.ensures)
