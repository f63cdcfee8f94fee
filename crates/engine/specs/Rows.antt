-- What is known of the rows that are read from a question's bytes.
use Rattle.std.specs.Prelude.{◌≡◌, List, ℕ, ◌+◌, ◌≤◌, length, take}
use Rattle.engine.specs.Frame.{longest, four, words_at, past_words}
use Rattle.engine.specs.declared.cursor.Row.{Row}

-- the row of two-byte numbers that begins at `start` lies at `r`, was read over the first entries of `row`, and the next one begins at `next`
pub record WordsRead (b : List ℕ) (start : ℕ) (r : Row) (row : List ℕ) (next : ℕ) : Type 0 where
  pub at : r.at ≡ start + 4
  pub len : r.len ≡ four b start
  pub short : r.len ≤ longest
  pub room : r.len ≤ length row
  pub is : take r.len row ≡ words_at b start
  pub next_is : next ≡ past_words b start

-- and the bytes end with it
abbrev pub AtEnd : List ℕ → ℕ → Row → List ℕ → Type 0
AtEnd b start r row = WordsRead b start r row (length b)
