-- The faults one after another, put together: what is found is the first, and where there is none the schedule is lawful.
use mathlib.Core.Path.{◌≡◌, sym, ◌∙◌}
use mathlib.Core.List.{List}
use Prim.Native.Nat.{ℕ, ◌≤◌, ◌<◌}
use native.Mathlib.Omega.{arith}
use lib.ListN.{length}
use Rattle.maths.specs.Lowest.{None}
use Rattle.model.specs.Limits as limit
use Rattle.model.specs.Graph.{graph_of, Sound, BusySound}
use Rattle.model.specs.Faults as fault
use Rattle.theory.specs.unit_use.OneVerdict.{timely_starts, timely_ends}
use Rattle.checker.specs.Findings.{Tallyable}

-- the tally can hold what is timely: a unit is kept no longer than the delay
pub timely_tallies : {d b ty from to units : List ℕ} {bound : ℕ} {t : List ℕ} → Sound (graph_of d b ty (length units) from to)
    → BusySound (graph_of d b ty (length units) from to) → length t ≡ length d → bound ≤ limit.steps
    → None (fault.Untimely (graph_of d b ty (length units) from to) bound t) (length d) → Tallyable b ty units bound t
timely_tallies {d} {b} sound busy long bound_in timely =
    let even = busy.even in
    let in_order : (i : ℕ) → i < length b → i < length d = λ i l. omega arith in
    record {
      few = omega (arith, sound.few);
      few_kinds = sound.few_kinds;
      even_types = even ∙ sound.even_types;
      even_starts = long ∙ sym even;
      type_in = λ i l. sound.type_in i (in_order i l);
      positive = λ i l. busy.from_one i (in_order i l);
      from_one = λ i l. timely_starts (timely i (in_order i l));
      ends = λ i l. omega (arith, busy.to_delay i (in_order i l), timely_ends (timely i (in_order i l)));
      bound_in = bound_in;
    }
