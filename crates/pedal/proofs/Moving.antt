-- The two ways through `pedal_advance`: the row is no state's, or the advance's starts are written over it whole.
use mathlib.Core.Path.{◌≡◌, refl, ap, subst}
use mathlib.Core.Bool.{false}
use mathlib.Core.Option.{Option, none, some}
use mathlib.Core.Logic.{inl, inr, ⊎_elim}
use mathlib.Core.List.{List, ◌++◌}
use Prim.Native.Nat.{ℕ}
use lib.ListN.{length}
use Rattle.model.specs.Limits as limit
use Rattle.model.specs.Graph.{Graph, order}
use Rattle.model.specs.Refusals.{Check, First, Uneven, shape, cyclic}
use Rattle.theory.specs.refusals.FirstRefusal.{flat_not}
use Rattle.admission.specs.Admitted.{graph_checks}
use Rattle.theory.specs.refusals.SoundGraph.{shape_own}
use Rattle.model.specs.Answers.{refusal_of, Done}
use Rattle.model.specs.Scheduling.{AdvanceAnswer}
use Rattle.pedal.specs.Face.{AdvanceSaid, refusal_of_or0}

-- where the question's own rows do not match, one of refusals 1 and 2 is given, whatever follows
own_decides : (g : Graph) (Own : Type 0) (rest : List Check) (x : Option (ℕ × ℕ)) → Own → First (shape g Own ++ rest) x → First (shape g Own) x
unfolding First
own_decides g Own rest none own h = absurd (flat_not 2 _ h.1.0 (Uneven.own own))
own_decides g Own rest (some r) own h =
    ⊎_elim
    (λ k. inl k)
    (λ k. inr (k.0, ⊎_elim (λ m. inl m) (λ m. absurd (flat_not 2 _ m.0 (Uneven.own own))) k.1))
    h

module _ {g : Graph} {units before : List ℕ} {step : ℕ} where
  -- a row that is no state's stays, and the graph's refusal is said
  pub no_state_said : (a : Done) {said : ℕ × ℕ} → (length before ≡ limit.operations → ⊥) → First (graph_checks g (false ≡ false)) (refusal_of a) → said ≡ refusal_of_or0 a
      → AdvanceSaid g units before step (record { refusal = said.0; place = said.1; step = step }) before
  no_state_said a {said} n h e = record {
    no_state = λ x. record {
      answer = a;
      is = (shape_own g (false ≡ false) (Unit {0}) (λ q. tt) (λ q. refl) (refusal_of a) (own_decides g (false ≡ false) (cyclic (order g)) (refusal_of a) refl h), refl);
      said = ap (λ (f : ℕ × ℕ). record { refusal = f.0; place = f.1; step = step }) e;
    };
    state = λ x. absurd (n x);
  }

  -- a state's is advanced
  pub state_said : (a : Done) {said : ℕ × ℕ} {starts after : List ℕ} {next : ℕ} → length before ≡ limit.operations → starts ≡ before
      → AdvanceAnswer g units starts step (refusal_of a) after next → said ≡ refusal_of_or0 a
      → AdvanceSaid g units before step (record { refusal = said.0; place = said.1; step = next }) after
  state_said a {said} {starts} {after} {next} long copy h e = record {
    no_state = λ n. absurd (n long);
    state = λ x. record {
      answer = a;
      is = subst (λ (t : List ℕ). AdvanceAnswer g units t step (refusal_of a) after next) copy h;
      said = ap (λ (f : ℕ × ℕ). record { refusal = f.0; place = f.1; step = next }) e;
    };
  }
