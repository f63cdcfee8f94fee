-- Refusals 8 and 9: the bound alone, and then the latency of the earliest starts, decide.
use mathlib.Core.Path.{refl}
use mathlib.Core.Option.{none, some}
use mathlib.Core.List.{List, []}
use Prim.Native.Nat.{ℕ, ◌≤◌, ◌<◌}
use native.Mathlib.Omega.{arith}
use Rattle.model.specs.Limits as limit
use Rattle.model.specs.Order.{Order, Closed}
use Rattle.model.specs.Tables.{Latency}
use Rattle.model.specs.Refusals.{First, large_bound, late_bound}
use Rattle.std.specs.Prelude.{Ok, Err}
use Rattle.model.specs.declared.Refusal.TheVariants.{BoundTooSmall}
use Rattle.theory.specs.tables.LatestTurned.{not_late}
use Rattle.theory.specs.refusals.FirstRefusal.{first_silent, first_end, flat_says, flat_silent}
use Rattle.theory.specs.refusals.RowAfterwards.{WritesNothing, answered_says, answered_passed, row_given}
use Rattle.admission.specs.Admitted.{bound_checks, StartsRow, Started, Admitted}
use Rattle.model.specs.Answers.{numbered}
use Rattle.model.specs.declared.Refusal.{Refusal}
use Rattle.admission.specs.AdmissionLaws.{Unchanged, admitted_stopped}

-- what the eighth says is said first
pub bounded_large : {o : Order} {bound : ℕ} {why : Refusal} → First (large_bound bound) (some (numbered why)) → (out : List ℕ)
    → Admitted o (bound_checks o bound) out (Err why) out
unfolding WritesNothing
bounded_large {o} {bound} h out = admitted_stopped (large_bound bound) (late_bound o bound) (λ r. refl, tt) h

module _ {o : Order} {bound l : ℕ} {s : List ℕ} where
  -- below the latency
  pub bounded_late : StartsRow o s → First (large_bound bound) none → Latency o s l → bound < l → (out : List ℕ)
      → Admitted o (bound_checks o bound) out (Err BoundTooSmall) out
  unfolding Started
  bounded_late row low ends below out = record {
    answered = answered_passed (large_bound bound) (late_bound o bound) out (Unchanged out) (some (9, 0)) out low
        (answered_says _ [] out (Unchanged out) 9 0 out
        (flat_says 9 _ (record { asap = s; latency = l; earliest = row.is; ends = ends; below = below }))
        refl);
    started = tt;
  }

  -- neither
  pub bounded_done : Closed limit.longest o → StartsRow o s → First (large_bound bound) none → Latency o s l → l ≤ bound → (out : List ℕ)
      → Admitted o (bound_checks o bound) out (Ok s) out
  unfolding Started
  bounded_done c row low ends up out = record {
    answered = answered_passed (large_bound bound) (late_bound o bound) out (Unchanged out) none out low
        (record {
          first = first_silent _ _ none (flat_silent 9 _ (not_late o c s row.is l bound ends up)) first_end;
          row = row_given (late_bound o bound) out (Unchanged out) out refl;
        });
    started = row;
  }
