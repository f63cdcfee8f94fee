-- The refusals of peak use: its own row matches where the test tells so, and what no refusal leaves.
use mathlib.Core.Path.{◌≡◌}
use mathlib.Core.Bool.{false}
use mathlib.Core.Option.{Option, none}
use mathlib.Core.List.{List}
use Prim.Native.Nat.{ℕ}
use native.Mathlib.Omega.{arith}
use lib.Dec.{eqb}
use lib.ListN.{length}
use Rattle.maths.specs.Cases.{equal}
use Rattle.model.specs.Graph.{Graph, order, many, lent}
use Rattle.model.specs.Refusals.{First, cyclic}
use Rattle.model.specs.Checks.{peak_checks}
use Rattle.admission.specs.Admitted.{graph_checks}
use Rattle.admission.specs.AdmissionLaws.{first_matched, matches_equal, passed_sound, passed_own}
use Rattle.peak_use.specs.Peaking.{Countable}

-- admission's refusals with the test of the starts' number are peak use's
pub peak_told : (g : Graph) (t : List ℕ) (x : Option (ℕ × ℕ)) → First (graph_checks g (eqb (length t) (many g) ≡ false)) x → First (peak_checks g t) x
peak_told g t x h = first_matched (matches_equal (length t) (many g)) g (cyclic (order g)) x h

-- where none of them says anything, the peaks can be counted
pub peak_countable : (d ty : List ℕ) (kinds : ℕ) (from to t : List ℕ) → First (peak_checks (lent d ty kinds from to) t) none → Countable d ty t
peak_countable d ty kinds from to t h =
    let g = lent d ty kinds from to in
    let s = passed_sound g _ (cyclic (order g)) h in
    record {
      even_types = s.even_types;
      even_starts = equal (passed_own g _ (cyclic (order g)) h);
      type_in = λ i l. omega (arith, s.type_in i l, s.few_kinds);
    }
