-- The checker says lawful exactly of lawful schedules.
use Rattle.std.specs.Prelude.{◌≡◌, List, ℕ, Result, Ok}
use Rattle.std.proofs.Math.Path.{subst}
use Rattle.std.proofs.Math.Option.{none}
use Rattle.model.specs.Graph.{Graph}
use Rattle.model.specs.Use.{Lawful}
use Rattle.model.specs.Answers.{refusal_of}
use Rattle.model.specs.Verdicts.{Finds, Reports, Checked}
use Rattle.model.specs.declared.Refusal.{Refusal}
use Rattle.model.specs.declared.Finding.{Finding}
use Rattle.model.specs.declared.Finding.TheVariants as found
use Rattle.theory.specs.refusals.RefusalNumbers.{answers_one}
use Rattle.theory.specs.unit_use.OneVerdict.{finds_one}

-- ---- the checker says lawful exactly for lawful schedules
module _ (g : Graph) (units : List ℕ) (bound : ℕ) (t : List ℕ) (v : Result Finding Refusal) (c : Checked g units bound t v) where
  -- where it says lawful the schedule is lawful
  pub says_lawful : v ≡ Ok found.Lawful → Lawful g units bound t
  unfolding Finds Reports
  says_lawful e = subst (Reports g units bound t) e c.finds

  -- unless it refuses
  pub lawful_found : refusal_of v ≡ none → (v ≡ Ok found.Lawful → Lawful g units bound t) × (Lawful g units bound t → v ≡ Ok found.Lawful)
  unfolding Finds Reports
  lawful_found asked = (
    says_lawful,
    λ h.
        answers_one v (Ok found.Lawful)
        (λ x y p q. finds_one g units bound t x y (subst (Reports g units bound t) p c.finds) (subst (Reports g units bound t) q h))
        asked,
  )
