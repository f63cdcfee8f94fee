-- `check_fault` meets its contract: what admission refuses, or else the eighth decides.
use Rattle.std.proofs.lemmas.Result.{err_from_is_err_and}
use Rattle.theory.specs.refusals.FirstRefusal.{first_hit, first_pass}
use Rattle.checker.proofs.Refused.{check_front}
use Rattle.checker.proofs.check_fault.Goals as goal

pub returns-in_err-graph_with_units : goal.returns-in_err-graph_with_units
returns-in_err-graph_with_units c =
    let given = err_from_is_err_and c.from_residual.result c.from_residual.ensures.1 in
    rw (given.1, given.2) (first_hit _ _ _ (check_front _ c.args.units.now c.args.starts.now c.rows_match-even.ensures _ c.in_err-graph_with_units.ensures))

pub returns : goal.returns
returns c = first_pass _ _ _ (check_front _ c.args.units.now c.args.starts.now c.rows_match-even.ensures _ c.in_ok-graph_with_units.ensures) c.bound_fault.ensures
