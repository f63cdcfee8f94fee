-- The refusals of the checker: its own rows match where `even` tells so, and what no refusal leaves.
use mathlib.Core.Path.{◌≡◌}
use mathlib.Core.Logic.{inl, inr}
use mathlib.Core.Bool.{Bool, false}
use mathlib.Core.Option.{Option, none}
use mathlib.Core.List.{List, ◌++◌}
use Prim.Native.Nat.{ℕ, ◌≤◌, ◌<◌}
use lib.ListN.{length}
use Rattle.maths.specs.Cases.{Tells, at_most, equal}
use Rattle.model.specs.Limits as limit
use Rattle.model.specs.Graph.{Graph, Sound, order, many}
use Rattle.model.specs.Refusals.{First, CheckUneven, unitless, cyclic, large_bound}
use Rattle.model.specs.Checks.{check_checks}
use Rattle.theory.specs.refusals.FirstRefusal.{first_none_append, flat_not}
use Rattle.admission.specs.Admitted.{graph_unit_checks}
use Rattle.admission.specs.AdmissionLaws.{first_matched, matches_both, passed_sound, passed_own}

-- admission's refusals with `even` are the checker's but the last
pub check_front : (g : Graph) (units t : List ℕ) {even : Bool} → Tells even ((length units ≡ g.kinds) × (length t ≡ many g)) → (x : Option (ℕ × ℕ))
    → First (graph_unit_checks g (even ≡ false) units) x → First (graph_unit_checks g (CheckUneven g units t) units) x
check_front g units t tells x h = first_matched (matches_both tells) g (unitless g units ++ cyclic (order g)) x h

-- where none of the checker's says anything, the graph is sound, the rows match, and the bound is within the last step
module _ (g : Graph) (units : List ℕ) (bound : ℕ) (t : List ℕ) (h : First (check_checks g units bound t) none) where
  pub check_sound : Sound g
  check_sound = passed_sound g (CheckUneven g units t) (unitless g units ++ cyclic (order g) ++ large_bound bound) h

  even : CheckUneven g units t → ⊥
  even = passed_own g (CheckUneven g units t) (unitless g units ++ cyclic (order g) ++ large_bound bound) h

  pub check_units : length units ≡ g.kinds
  check_units = equal (λ n. even (inl n))

  pub check_starts : length t ≡ many g
  check_starts = equal (λ n. even (inr n))

  pub check_bound : bound ≤ limit.steps
  unfolding First
  check_bound =
      at_most
      (flat_not 8 (limit.steps < bound)
      (first_none_append (graph_unit_checks g (CheckUneven g units t) units) (large_bound bound) h).1.0)
