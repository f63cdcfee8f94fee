-- A question's bytes (docs/ENGINE.md): its numbers, eight bytes each, then its rows, each a length in four bytes and then its entries.
use Rattle.std.specs.Prelude.{List, ℕ, ◌+◌, ◌*◌, take, drop}
use Rattle.maths.specs.Rows.{at, tabulate}
use Rattle.model.specs.Graph.{Graph, lent}

-- the most entries of a row
abbrev pub longest : ℕ
longest = 4096

-- the number in two bytes, the lowest byte first
abbrev pub two : List ℕ → ℕ → ℕ
two b i = at b i + 256 * at b (i + 1)

-- the number in four bytes
abbrev pub four : List ℕ → ℕ → ℕ
four b i = at b i + 256 * at b (i + 1) + 65536 * at b (i + 2) + 16777216 * at b (i + 3)

-- the number in eight bytes
abbrev pub eight : List ℕ → ℕ → ℕ
eight b i = four b i + 4294967296 * four b (i + 4)

-- the n bytes from i on
abbrev pub part : List ℕ → ℕ → ℕ → List ℕ
part b i n = take n (drop i b)

-- the n two-byte numbers from i on
abbrev pub words_in : List ℕ → ℕ → ℕ → List ℕ
words_in b i n = tabulate (λ k. two b (i + 2 * k)) n

-- the row of bytes that begins at i, with its length
abbrev pub bytes_at : List ℕ → ℕ → List ℕ
bytes_at b i = part b (i + 4) (four b i)

-- the row of two-byte numbers that begins at i, with its length
abbrev pub words_at : List ℕ → ℕ → List ℕ
words_at b i = words_in b (i + 4) (four b i)

-- where the next row begins, after one of bytes and after one of two-byte numbers
abbrev pub past_bytes : List ℕ → ℕ → ℕ
past_bytes b i = i + 4 + four b i

abbrev pub past_words : List ℕ → ℕ → ℕ
past_words b i = i + 4 + 2 * four b i

-- where each row of a graph begins, after so many numbers: delays, types, from, to, and what follows
abbrev pub delays_from : List ℕ → ℕ → ℕ
delays_from b count = 8 * count

unfoldable pub types_from : List ℕ → ℕ → ℕ
types_from b count = past_bytes b (delays_from b count)

unfoldable pub from_from : List ℕ → ℕ → ℕ
from_from b count = past_bytes b (types_from b count)

unfoldable pub to_from : List ℕ → ℕ → ℕ
to_from b count = past_words b (from_from b count)

unfoldable pub rest_from : List ℕ → ℕ → ℕ
rest_from b count = past_words b (to_from b count)

-- the graph of a question: the first number is K
unfoldable pub graph_at : List ℕ → ℕ → Graph
graph_at b count = lent (bytes_at b (delays_from b count)) (bytes_at b (types_from b count)) (eight b 0) (words_at b (from_from b count)) (words_at b (to_from b count))
