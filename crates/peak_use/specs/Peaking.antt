-- What the count of peaks needs.
use Rattle.std.specs.Prelude.{◌≡◌, List, ℕ, ◌<◌, length}
use Rattle.maths.specs.Rows.{at}
use Rattle.model.specs.Limits as limit

-- as many types and starts as busy times, and every type below the limit
pub record Countable (busy types t : List ℕ) : Type 0 where
  pub even_types : length busy ≡ length types
  pub even_starts : length t ≡ length busy
  pub type_in : (i : ℕ) → i < length busy → at types i < limit.kinds
