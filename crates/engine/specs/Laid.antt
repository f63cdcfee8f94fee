-- Numbers and rows written into bytes.
use Rattle.std.specs.Prelude.{◌≡◌, List, ℕ, ◌+◌, ◌*◌, ◌≤◌, ◌<◌, length}
use Rattle.maths.specs.Rows.{at}
use Rattle.engine.specs.Frame.{two, four, eight}

-- no byte but the `count` from `start` on is another one
pub record Within (before : List ℕ) (start count : ℕ) (after : List ℕ) : Type 0 where
  pub long : length after ≡ length before
  pub low : (k : ℕ) → k < start → at after k ≡ at before k
  pub high : (k : ℕ) → start + count ≤ k → at after k ≡ at before k

-- the bytes of `laid` were written
pub record BytesLaid (laid before : List ℕ) (start : ℕ) (after : List ℕ) : Type 0 where
  pub within : Within before start (length laid) after
  pub says : (k : ℕ) → k < length laid → at after (start + k) ≡ at laid k

-- a number was written as two bytes
pub record TwoLaid (number : ℕ) (before : List ℕ) (start : ℕ) (after : List ℕ) : Type 0 where
  pub within : Within before start 2 after
  pub says : two after start ≡ number

-- as four
pub record FourLaid (number : ℕ) (before : List ℕ) (start : ℕ) (after : List ℕ) : Type 0 where
  pub within : Within before start 4 after
  pub says : four after start ≡ number

-- as eight
pub record EightLaid (number : ℕ) (before : List ℕ) (start : ℕ) (after : List ℕ) : Type 0 where
  pub within : Within before start 8 after
  pub says : eight after start ≡ number

-- the first entries of a row were written, two bytes each
pub record WordsLaid (row : List ℕ) (count : ℕ) (before : List ℕ) (start : ℕ) (after : List ℕ) : Type 0 where
  pub within : Within before start (2 * count) after
  pub says : (k : ℕ) → k < count → two after (start + 2 * k) ≡ at row k
