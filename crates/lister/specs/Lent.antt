-- What the search is lent stands for.
use Rattle.std.specs.Prelude.{List, ℕ, Option, Some, None}
use Rattle.std.proofs.Math.Option as maybe
use Rattle.std.proofs.Common.{Bor}
use Rattle.model.specs.Lent.{work_in}
use Rattle.model.specs.declared.work.Work as work
use Rattle.lister.specs.Search.{Job}
use Rattle.lister.specs.declared.job.Job as job

-- the job of a graph with its units, and of the first and the last start of each operation's window
abbrev pub job_of : work.Work → List ℕ → List ℕ → Job
job_of w early late = record { graph = work_in w; units = w.units.now; early = early; late = late }

-- the job of the rows that it holds
abbrev pub job_in : job.Job → Job
job_in j = job_of j.work j.early j.late

-- the row that a question asks after, if it asks after one
abbrev pub asked_of : Option (Bor (List ℕ)) → maybe.Option (List ℕ)
asked_of (Some row) = maybe.some row.now
asked_of None = maybe.none
