-- What the frame has room for.
use Rattle.std.specs.Prelude.{ℕ, ◌+◌, ◌*◌, ◌≤◌}
use Rattle.engine.specs.Frame.{longest}
use Rattle.engine.specs.declared.cursor.Row.{Row}

-- the most bytes of a question after its size
abbrev pub most : ℕ
most = 65536

-- a row lies within so many bytes, and is no longer than a row may be
pub record Lies (size : ℕ) (row : Row) : Type 0 where
  pub inside : row.at + 2 * row.len ≤ size
  pub short : row.len ≤ longest
