-- The two outcomes of `place`: all are placed, so that there is no cycle; or the rest is what a cycle reaches, and one is shown.
use mathlib.Core.Path.{◌≡◌, refl}
use mathlib.Core.Option.{none}
use mathlib.Core.List.{List, []}
use Prim.Native.Nat.{ℕ}
use Rattle.model.specs.Order.{Order, size, Closed}
use Rattle.model.specs.Placing.{Placing}
use Rattle.model.specs.Refusals.{cyclic}
use Rattle.theory.specs.refusals.FirstRefusal.{first_silent, first_end}
use Rattle.theory.specs.refusals.RowAfterwards.{row_given, answered_says}
use Rattle.theory.specs.order.PlacingOutcome.{placing_kept, placing_free, placing_done, placing_acyclic}
use Rattle.theory.specs.cycle.SomeShown.{shown_cyclic}
use Rattle.std.specs.Prelude.{Ok, Err}
use Rattle.model.specs.declared.Refusal.TheVariants.{Cycle}
use Rattle.cycle.specs.Show.{KeptAt, Shows}
use Rattle.admission.specs.Admitted.{Started, Admitted}

module _ {heaviest : ℕ} {o : Order} {s : List ℕ} {placed : ℕ} (c : Closed heaviest o) (p : Placing o s placed) where
  -- what is not placed is what a cycle reaches
  pub kept_at : KeptAt o s
  kept_at = record { zero = placing_kept c p; kept = placing_free c p }

  pub tried_done : (before : List ℕ) → placed ≡ size o → Admitted o (cyclic o) before (Ok s) before
  unfolding Started
  tried_done before all = record {
    answered = record {
      first = first_silent _ [] none (λ n q h. placing_acyclic c p all (shown_cyclic h.shown)) first_end;
      row = row_given (cyclic o) before (λ a. a ≡ before) before refl;
    };
    started = record { long = p.long; is = placing_done c p all; rest = p.rest };
  }

-- the cycle shown is written, and there are no starts
pub tried_shown : {o : Order} {before after : List ℕ} {long : ℕ} → Shows o before after long → Admitted o (cyclic o) before (Err (Cycle long)) after
unfolding Started
tried_shown {before = before} {after} {long} h = record {
  answered = answered_says _ [] before (λ a. a ≡ before) 7 long after
      (record { is = refl; cycle = h.cycle; shown = h.shown; long = h.long })
      (record { row = h.cycle; is = h.shown; written = h.written });
  started = tt;
}
