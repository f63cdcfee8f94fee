-- A type that nobody uses peaks at 0; a row that keeps precedence and the bound is lawful for unit counts at or above its own peak use.
use Rattle.std.specs.Prelude.{◌≡◌, refl, List, ℕ, ◌≤◌, ◌<◌, length}
use Rattle.std.proofs.Common.{⊎_elim, arith}
use Rattle.maths.specs.Cases.{same_or_not}
use Rattle.maths.specs.Rows.{at}
use Rattle.maths.specs.Lowest.{None}
use Rattle.maths.specs.Greatest.{greatest}
use Rattle.model.specs.Graph.{Graph, order, many, type_of}
use Rattle.model.specs.Tables.{Keeps, Within}
use Rattle.model.specs.Use.{running, Lawful, Peak}
use Rattle.theory.specs.unit_use.RunningAndPeak.{Met, peak_starts, running_none}

-- a type that nobody uses has a peak of 0
pub peak_unused : (g : Graph) (t : List ℕ) (k p : ℕ) → None (λ i. type_of g i ≡ k) (many g) → Peak g t k p → p ≡ 0
peak_unused g t k p none h = omega (arith, h.met, running_none g t k h.at_step (λ i l r. none i l r.kind))

module _ (g : Graph) (t : List ℕ) (k : ℕ) where
  -- every type has a peak
  pub peak_exists : (p : ℕ) × Peak g t k p
  peak_exists =
      ⊎_elim
      (λ i. (running g t k (at t i.place), peak_starts g t k _ (record { bound = i.most }) (Met.once (at t i.place) refl)))
      (λ none. (0, peak_starts g t k 0 (record { bound = λ i b e. absurd (none i b e) }) (Met.nobody refl)))
      (greatest (λ i. type_of g i ≡ k) (λ i. running g t k (at t i)) (many g) (λ i b. same_or_not (type_of g i) k))

-- ---- a row of n starts that keeps precedence and the bound is lawful for unit counts at or above its own peak use
pub peak_lawful : (g : Graph) (units : List ℕ) (bound : ℕ) (t : List ℕ) → length t ≡ many g → Keeps (order g) t → Within (order g) bound t
    → ((k : ℕ) → k < g.kinds → (p : ℕ) → Peak g t k p → p ≤ at units k) → Lawful g units bound t
peak_lawful g units bound t long keeps within enough =
    record {
      long = long;
      keeps = keeps;
      within = within;
      room = λ k l b.
          let top = peak_exists g t k in
          omega (arith, enough k b top.0 top.1, top.1.never_more l);
    }
