-- One answer: any two outcomes that a contract of this crate allows are equal.
use Rattle.std.specs.Prelude.{◌≡◌, List, ℕ, Result}
use Rattle.model.specs.Graph.{Graph}
use Rattle.model.specs.Verdicts.{AllPeaks, PeakAnswer}
use Rattle.model.specs.declared.Refusal.{Refusal}
use Rattle.theory.specs.unit_use.OneVerdict as verdict

-- of `peak_use`
pub peak_use_one : (g : Graph) (t : List ℕ) (p q : Result (List ℕ) Refusal) → PeakAnswer g t p → PeakAnswer g t q → p ≡ q
peak_use_one = verdict.peak_answer_one

-- of `peaks`
pub peaks_one : (g : Graph) (t c d : List ℕ) → AllPeaks g t c → AllPeaks g t d → c ≡ d
peaks_one = verdict.peaks_one
