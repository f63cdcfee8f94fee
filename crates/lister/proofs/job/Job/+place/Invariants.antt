-- Each turn puts i at the next start, and where it fits the call behind it settles all rows that begin so. The number of operations still unplaced falls at each call.
use Rattle.std.proofs.Common.{◌-◌, length}
use Rattle.lister.specs.Lent.{job_in, asked_of}
use Rattle.lister.proofs.Turns.{Loop}
use Rattle.lister.proofs.job.Job.+place.Given as goal

-- how many operations are unplaced
abbrev pub decreases-place : goal.decreases-place
decreases-place l = length l.self.now.work.delays.now - l.i

abbrev pub invariant-loop-t : goal.invariant-loop-t
invariant-loop-t l = Loop (job_in l.self) l.initial.starts l.i (asked_of l.after) l.starts l.t
