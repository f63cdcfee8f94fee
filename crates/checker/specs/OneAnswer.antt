-- One answer: any two outcomes that a contract of this crate allows are equal.
use Rattle.std.specs.Prelude.{◌≡◌, List, ℕ, Result}
use Rattle.model.specs.Graph.{Graph}
use Rattle.model.specs.Refusals.{First}
use Rattle.model.specs.Answers.{refusal_of, Done}
use Rattle.theory.specs.refusals.RefusalNumbers.{answer_one}
use Rattle.model.specs.Verdicts.{Finds, Checked}
use Rattle.model.specs.Checks.{check_checks}
use Rattle.theory.specs.unit_use.OneVerdict.{checked_one, check_ones, finds_one}
use Rattle.model.specs.declared.Finding.{Finding}
use Rattle.model.specs.declared.Refusal.{Refusal}

-- of `check`
pub check_one : (g : Graph) (units : List ℕ) (bound : ℕ) (t : List ℕ) (v w : Result Finding Refusal) → Checked g units bound t v → Checked g units bound t w → v ≡ w
check_one = checked_one

-- of `check_fault`
pub check_fault_one : (g : Graph) (units : List ℕ) (bound : ℕ) (t : List ℕ) (r s : Done) → First (check_checks g units bound t) (refusal_of r)
    → First (check_checks g units bound t) (refusal_of s) → r ≡ s
check_fault_one g units bound t = answer_one (check_checks g units bound t) (check_ones g units bound t)

-- of `judge`
pub judge_one : (g : Graph) (units : List ℕ) (bound : ℕ) (t : List ℕ) (f h : Finding) → Finds g units bound t f → Finds g units bound t h → f ≡ h
judge_one = finds_one
