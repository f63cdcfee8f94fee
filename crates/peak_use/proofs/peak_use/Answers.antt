-- `peak_use` meets its contract: what admission refuses, or else each type's peak.
use Rattle.std.proofs.Common.{refl}
use Rattle.std.proofs.lemmas.Result.{err_from_is_err_and}
use Rattle.model.specs.Verdicts.{Counts}
use Rattle.peak_use.proofs.Refused.{peak_told, peak_countable}
use Rattle.peak_use.proofs.peak_use.Goals as goal

pub returns-in_err-graph : goal.returns-in_err-graph
unfolding Counts
returns-in_err-graph c =
    let given = err_from_is_err_and c.from_residual.result c.from_residual.ensures.1 in
    rw (given.1, given.2) (record { first = peak_told _ c.args.starts.now _ c.in_err-graph.ensures; counts = tt })

pub peaks-requires : goal.peaks-requires
peaks-requires c = peak_countable _ _ _ _ _ _ (peak_told _ c.args.starts.now _ c.in_ok-graph.ensures)

pub returns : goal.returns
unfolding Counts
returns c = record {
  first = peak_told _ c.args.starts.now _ c.in_ok-graph.ensures;
  counts = c.peaks.ensures _ _ _ _ refl;
}
