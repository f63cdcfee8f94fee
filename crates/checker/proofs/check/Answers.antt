-- `check` meets its contract: refused, it hands the refusal on; else what no refusal leaves is what `judge` requires.
use Rattle.std.proofs.Common.{sym, ap, ◌∙◌}
use Rattle.std.proofs.lemmas.Result.{err_from_is_err_and}
use Rattle.model.specs.Graph.{many}
use Rattle.model.specs.Verdicts.{Reports}
use Rattle.checker.proofs.Refused.{check_sound, check_units, check_starts, check_bound}
use Rattle.checker.proofs.check.Goals as goal

pub returns-in_err-check_fault : goal.returns-in_err-check_fault
unfolding Reports
returns-in_err-check_fault c =
    let given = err_from_is_err_and c.from_residual.result c.from_residual.ensures.1 in
    rw (given.1, given.2) (record { first = c.in_err-check_fault.ensures; finds = tt })

pub work-requires-clause-sound : goal.work-requires-clause-sound
work-requires-clause-sound c = check_sound _ _ _ _ c.in_ok-check_fault.ensures

pub work-requires-clause-units_len : goal.work-requires-clause-units_len
work-requires-clause-units_len c = check_units _ _ _ _ c.in_ok-check_fault.ensures

pub judge-requires-clause-starts_len : goal.judge-requires-clause-starts_len
judge-requires-clause-starts_len c = check_starts _ _ _ _ c.in_ok-check_fault.ensures ∙ sym (ap many c.work.ensures.graph)

pub judge-requires-clause-bound_in : goal.judge-requires-clause-bound_in
judge-requires-clause-bound_in c = check_bound _ _ _ _ c.in_ok-check_fault.ensures

pub returns : goal.returns
unfolding Reports
returns c = record {
  first = c.in_ok-check_fault.ensures;
  finds = rw (c.work.ensures.graph, c.work.ensures.units) at c.judge.ensures;
}
