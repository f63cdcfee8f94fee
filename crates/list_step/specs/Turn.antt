-- The tests that one operation's turn at a step is made of, on plain numbers.
use Rattle.std.specs.Prelude.{◌≡◌, Bool, List, ℕ, ◌+◌, ◌≤◌, ◌<◌, eqb, ltb, leb, length}
use Rattle.maths.specs.Tests.{◌and◌, ◌or◌}
use Rattle.maths.specs.Rows.{at}
use Rattle.model.specs.Limits as limit

-- placed, and t ≤ l < t + busy
abbrev pub runs_at : ℕ → ℕ → ℕ → Bool
runs_at start busy step = ltb 0 start and (leb start step and ltb step (start + busy))

-- operation i is running
abbrev pub uses_at : List ℕ → List ℕ → ℕ → ℕ → Bool
uses_at busy starts step i = runs_at (at starts i) (at busy i) step

-- the larger key comes first, then the lower number
abbrev pub ahead_at : ℕ → ℕ → ℕ → ℕ → Bool
ahead_at key j other i = ltb other key or (eqb key other and ltb j i)

-- a type for each of n operations, below the limit
pub record Typed (types : List ℕ) (n : ℕ) : Type 0 where
  pub few : n ≤ limit.operations
  pub long : length types ≡ n
  pub each : (i : ℕ) → i < n → at types i < limit.kinds
