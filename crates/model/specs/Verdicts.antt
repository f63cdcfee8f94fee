-- What the checker and peak use answer, for every input.
use Rattle.std.specs.Prelude.{◌≡◌, List, ℕ, ◌<◌, length, Result, Ok, Err}
use Rattle.maths.specs.Rows.{at}
use Rattle.maths.specs.Lowest.{Lowest, None}
use Rattle.model.specs.Limits as limit
use Rattle.model.specs.Graph.{Graph, many, edges_of}
use Rattle.model.specs.Refusals.{First}
use Rattle.model.specs.Checks.{check_checks, peak_checks}
use Rattle.model.specs.Answers.{refusal_of}
use Rattle.model.specs.Use.{Lawful, Peak}
use Rattle.model.specs.Faults as fault
use Rattle.model.specs.declared.Finding as finding
use Rattle.model.specs.declared.Finding.TheVariants as found
use Rattle.model.specs.declared.Refusal.{Refusal}

-- lawful, or the first fault: an untimely operation (the lowest), a broken edge (the lowest), over-use (the earliest step, then the lowest type)
unfoldable pub Finds : Graph → List ℕ → ℕ → List ℕ → finding.Finding → Type 0
Finds g units bound t found.Lawful = Lawful g units bound t
Finds g units bound t (found.Untimely i) = Lowest (fault.Untimely g bound t) (many g) i
Finds g units bound t (found.Broken e) = None (fault.Untimely g bound t) (many g) × Lowest (fault.Broken g t) (edges_of g) e
Finds g units bound t (found.OverUse l k) = fault.Timely g bound t × fault.FirstOver g units t l k

-- what an answer that is no refusal says of the schedule
unfoldable pub Reports : Graph → List ℕ → ℕ → List ℕ → Result finding.Finding Refusal → Type 0
Reports g units bound t (Ok f) = Finds g units bound t f
Reports g units bound t (Err why) = Unit {0}

-- what `check` answers
pub record Checked (g : Graph) (units : List ℕ) (bound : ℕ) (t : List ℕ) (v : Result finding.Finding Refusal) : Type 0 where
  pub first : First (check_checks g units bound t) (refusal_of v)
  pub finds : Reports g units bound t v

-- a number for each type: its peak
pub record AllPeaks (g : Graph) (t counts : List ℕ) : Type 0 where
  pub long : length counts ≡ limit.kinds
  pub each : (k : ℕ) → k < limit.kinds → Peak g t k (at counts k)

-- what an answer that is no refusal counts
unfoldable pub Counts : Graph → List ℕ → Result (List ℕ) Refusal → Type 0
Counts g t (Ok counts) = AllPeaks g t counts
Counts g t (Err why) = Unit {0}

-- what `peak_use` answers
pub record PeakAnswer (g : Graph) (t : List ℕ) (p : Result (List ℕ) Refusal) : Type 0 where
  pub first : First (peak_checks g t) (refusal_of p)
  pub counts : Counts g t p
