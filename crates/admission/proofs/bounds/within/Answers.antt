-- `within` meets its contract: refusal 8 by the bound alone, 9 by the latency of the earliest starts.
use Rattle.std.proofs.Common.{arith}
use Rattle.std.proofs.lemmas.Result.{err_from_is_err_and}
use Rattle.admission.proofs.Bounded.{bounded_large, bounded_late, bounded_done}
use Rattle.admission.proofs.bounds.within.Goals as goal

pub returns-in_err-bound_fault : goal.returns-in_err-bound_fault
returns-in_err-bound_fault c =
    let given = err_from_is_err_and c.from_residual.result c.from_residual.ensures.1 in rw (given.1, given.2) (bounded_large c.in_err-bound_fault.ensures)

pub latency-requires : goal.latency-requires
latency-requires c = omega (arith, c.args.order.now.closed.few, c.requires.long)

pub returns-then-bound-latency : goal.returns-then-bound-latency
returns-then-bound-latency c = bounded_late c.requires c.in_ok-bound_fault.ensures (c.latency.ensures _ _) c.if-bound-latency.true

pub returns : goal.returns
returns c = bounded_done c.args.order.now.closed c.requires c.in_ok-bound_fault.ensures (c.latency.ensures _ _) c.if-bound-latency.false
