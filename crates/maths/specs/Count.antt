-- How many numbers below n pass a test: a sum of marks.
use Rattle.std.specs.Prelude.{◌≡◌, Bool, true, false, List, ℕ, zero, suc, ◌+◌, ◌≤◌, ◌<◌, ltb, length, set}
use Rattle.std.proofs.Common.{sym, ap, ⊎_elim, eq-or-lt_of_le, le_of_suc-le-suc, not-suc-le-zero, arith, lt-ltb, le-ltb, get_or-set_same, get_or-set_other}
use Rattle.maths.specs.Tests.{◌and◌}
use Rattle.maths.specs.Rows.{at}
use Rattle.maths.specs.Sum.{sum, sum_same, sum_change, sum_bound, sum_const, sum_step, sum_zero}

abbrev pub bit : Bool → ℕ
bit true = 1
bit false = 0

pub bit_le : (b : Bool) → bit b ≤ 1
bit_le true = omega arith
bit_le false = omega arith

abbrev pub count : (ℕ → Bool) → ℕ → ℕ
count p n = sum (λ i. bit (p i)) n

-- every number below n passes the test
unfoldable pub every : (ℕ → Bool) → ℕ → Bool
every p zero = true
every p (suc n) = every p n and p n

pub count_le : (p : ℕ → Bool) (n : ℕ) → count p n ≤ n
count_le p n = omega (arith, sum_bound (λ i. bit (p i)) 1 n (λ i l. bit_le (p i)))

-- one more passes
pub count_more : (p q : ℕ → Bool) (n i : ℕ) → i < n → p i ≡ false → q i ≡ true → ((j : ℕ) → (j ≡ i → ⊥) → p j ≡ q j) → count q n ≡ count p n + 1
count_more p q n i l pf qt h =
    omega (arith, sum_change (λ i. bit (p i)) (λ i. bit (q i)) n i l (λ j m. ap bit (h j m)), ap bit pf, ap bit qt)

-- one that fails is missing from the count
pub count_lt : (p : ℕ → Bool) (n i : ℕ) → i < n → p i ≡ false → count p n < n
unfolding sum
count_lt p zero i l e = absurd (not-suc-le-zero l)
count_lt p (suc n) i l e =
    ⊎_elim
    (λ q. omega (arith, ap (λ (k : ℕ). bit (p k)) q, ap bit e, count_le p n))
    (λ m. omega (arith, count_lt p n i m e, bit_le (p n)))
    (eq-or-lt_of_le (le_of_suc-le-suc l))

pub count_full : (p : ℕ → Bool) (n : ℕ) → ((i : ℕ) → i < n → p i ≡ true) → count p n ≡ n
count_full p n h = omega (arith, sum_same (λ i. bit (p i)) (λ i. 1) n (λ i l. ap bit (h i l)), sum_const 1 n)

pub count_none : (p : ℕ → Bool) (n : ℕ) → ((i : ℕ) → i < n → p i ≡ false) → count p n ≡ 0
count_none p n h = sum_zero (λ i. bit (p i)) n (λ i l. ap bit (h i l))

pub count_no : (p : ℕ → Bool) (n : ℕ) → p n ≡ false → count p (n + 1) ≡ count p n
count_no p n e = omega (arith, sum_step (λ i. bit (p i)) n, ap bit e)

-- one more number is looked at
pub count_step : (p : ℕ → Bool) (n : ℕ) → count p (n + 1) ≡ count p n + bit (p n)
count_step p n = omega (arith, sum_step (λ i. bit (p i)) n)

-- nothing is counted below 0
pub count_start : (p : ℕ → Bool) → count p 0 ≡ 0
count_start p = count_none p 0 (λ i l. absurd (omega arith))

-- ---- marks: how many of a row's first n entries are not 0
abbrev pub marks : List ℕ → ℕ → ℕ
marks row n = count (λ i. ltb 0 (at row i)) n

pub marks_le : (row : List ℕ) (n : ℕ) → marks row n ≤ n
marks_le row n = count_le (λ i. ltb 0 (at row i)) n

pub marks_lt : (row : List ℕ) (n i : ℕ) → i < n → at row i ≡ 0 → marks row n < n
marks_lt row n i l e = count_lt (λ i. ltb 0 (at row i)) n i l (le-ltb 0 (at row i) (omega arith))

pub marks_full : (row : List ℕ) (n : ℕ) → ((i : ℕ) → i < n → 1 ≤ at row i) → marks row n ≡ n
marks_full row n h = count_full (λ i. ltb 0 (at row i)) n (λ i l. lt-ltb 0 (at row i) (h i l))

pub marks_none : (row : List ℕ) (n : ℕ) → ((i : ℕ) → i < n → at row i ≡ 0) → marks row n ≡ 0
marks_none row n h = count_none (λ i. ltb 0 (at row i)) n (λ i l. le-ltb 0 (at row i) (omega (arith, h i l)))

-- a new mark counts one more
pub marks_set : (row : List ℕ) (n i v : ℕ) → i < n → i < length row → at row i ≡ 0 → 1 ≤ v → marks (set row i v) n ≡ marks row n + 1
marks_set row n i v l b e p =
    count_more (λ j. ltb 0 (at row j)) (λ j. ltb 0 (at (set row i v) j)) n i l
    (le-ltb 0 (at row i) (omega arith))
    (lt-ltb 0 (at (set row i v) i) (omega (arith, get_or-set_same row i v 0 b)))
    (λ j m. ap (ltb 0) (sym (get_or-set_other row i j v 0 m)))
