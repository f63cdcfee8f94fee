-- Every row of starts has a latency; so a bound that is not below the ASAP latency has the earliest starts within it.
use Rattle.std.proofs.Common.{⊎_elim, arith, below_more}
use Rattle.std.specs.Prelude.{List, ℕ, zero, suc, ◌+◌, ◌-◌, ◌≤◌, ◌<◌}
use Rattle.maths.specs.Cases.{at_most, le_or_lt}
use Rattle.maths.specs.Rows.{at}
use Rattle.model.specs.Order.{Order, size, weight}
use Rattle.model.specs.Tables.{Within, Earliest, Latency}
use Rattle.model.specs.Refusals.{Late}
use Rattle.theory.specs.tables.LatestTurned.{latency_within}

-- every finish of the first n operations is within b
abbrev Ends : Order → List ℕ → ℕ → ℕ → Type 0
Ends o t n b = (i : ℕ) → i < n → at t i + weight o i ≤ b + 1

-- the least number that they are within
record LeastEnd (o : Order) (t : List ℕ) (n : ℕ) : Type 0 where
  number : ℕ
  within : Ends o t n number
  least : (b : ℕ) → Ends o t n b → number ≤ b

-- one operation more ends within it, or later: then its last step is the number
least_end : (o : Order) (t : List ℕ) (n : ℕ) → LeastEnd o t n
least_end o t zero = record { number = 0; within = λ i l. absurd (omega arith); least = λ b h. omega arith }
least_end o t (suc n) =
    let h = least_end o t n in
    ⊎_elim
    (λ l.
    record {
      number = h.number;
      within = λ i b. below_more (λ k. at t k + weight o k ≤ h.number + 1) n h.within l i (omega arith);
      least = λ b k. h.least b (λ i m. k i (omega arith));
    })
    (λ l.
    record {
      number = at t n + weight o n - 1;
      within = λ i b.
          below_more (λ k. at t k + weight o k ≤ at t n + weight o n - 1 + 1) n (λ k m. omega (arith, h.within k m)) (omega arith) i
          (omega arith);
      least = λ b k. omega (arith, k n (omega arith));
    })
    (le_or_lt (at t n + weight o n) (h.number + 1))

-- where the bound is not below the ASAP latency, the earliest starts are within it
pub not_late_within : (o : Order) (s : List ℕ) (bound : ℕ) → Earliest o s → (Late o bound → ⊥) → Within o bound s
not_late_within o s bound early not =
    let end = least_end o s (size o) in
    let ends : Latency o s end.number = record { within = record { ends = end.within }; least = λ b w. end.least b w.ends } in
    latency_within o s end.number bound ends
    (at_most (λ below. not (record { asap = s; latency = end.number; earliest = early; ends = ends; below = below })))
