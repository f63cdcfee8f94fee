-- A row of counters, one for each value below `values`: how many of the first n numbers have that value and pass a test.
use Rattle.std.specs.Prelude.{◌≡◌, Bool, List, ℕ, ◌<◌, eqb, length}
use Rattle.maths.specs.Tests.{◌and◌}
use Rattle.maths.specs.Rows.{at}
use Rattle.maths.specs.Count.{count}

pub record CountsByValue (value : ℕ → ℕ) (test : ℕ → Bool) (values : ℕ) (row : List ℕ) (n : ℕ) : Type 0 where
  pub long : length row ≡ values
  pub each : (k : ℕ) → k < values → at row k ≡ count (λ e. eqb (value e) k and test e) n
