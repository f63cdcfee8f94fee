-- A row that was read entry by entry is the one that the bytes hold.
use Rattle.std.proofs.Common.{◌≡◌, List, ℕ, ◌+◌, ◌*◌, ◌<◌, ◌++◌, length, take, get_or, sym, ap, ◌∙◌, arith}
use lib.Seq.{take_at}
use Rattle.std.proofs.lemmas.Grind.{common_steps}
use Rattle.maths.specs.Rows.{at, tabulate, tabulate_at, tabulate_long, same_row}
use Rattle.engine.specs.Frame.{two, four, part, words_in, words_at}

-- an entry of a part stands in the whole
at_part : (b : List ℕ) (i n k j : ℕ) → k < n → j ≡ i + k → at (part b i n) k ≡ at b j
at_part b i n k j l e = grind (arith, common_steps)

-- so does a number in two bytes
two_part : (b : List ℕ) (i n k : ℕ) → k < n → two (part b i (2 * n)) (2 * k) ≡ two b (i + 2 * k)
two_part b i n k l =
    let low = at_part b i (2 * n) (2 * k) (i + 2 * k) (omega arith) (omega arith) in
    let high = at_part b i (2 * n) (2 * k + 1) (i + 2 * k + 1) (omega arith) (omega arith) in
    omega arith

-- the entries that were read, in front of what stood behind them, are the row in the bytes
pub read_is : (b entries items rest : List ℕ) (begin start len : ℕ) → entries ≡ part b begin (2 * len) → begin ≡ start + 4 → len ≡ four b start
    → length items ≡ len → ((k : ℕ) → k < len → get_or items k 0 ≡ two entries (2 * k)) → take len (items ++ rest) ≡ words_at b start
read_is b entries items rest begin start len e i n long each =
    let row : ℕ → ℕ = λ k. two b (begin + 2 * k) in
    take_at items rest len long
    ∙ same_row items (tabulate row len) (long ∙ sym (tabulate_long row len))
    (λ k l.
    each k (omega arith)
    ∙ ap (λ (x : List ℕ). two x (2 * k)) e
    ∙ two_part b begin len k (omega arith)
    ∙ sym (tabulate_at row len k (omega arith)))
    ∙ ap (λ (x : ℕ). words_in b x len) i
    ∙ ap (words_in b (start + 4)) n
