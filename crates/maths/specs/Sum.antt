-- The sum of f over 0 .. n - 1, and its laws. A count is a sum of marks. Assumes nothing.
use Rattle.std.specs.Prelude.{◌≡◌, refl, ℕ, zero, suc, ◌+◌, ◌*◌, ◌≤◌, ◌<◌}
use Rattle.std.proofs.Common.{ap, ⊎_elim, zero-le, eq-or-lt_of_le, le_of_suc-le-suc, not-suc-le-zero, mul-suc, add-one, arith}

unfoldable pub sum : (ℕ → ℕ) → ℕ → ℕ
sum f zero = 0
sum f (suc n) = f n + sum f n

pub sum_same : (f g : ℕ → ℕ) (n : ℕ) → ((i : ℕ) → i < n → f i ≡ g i) → sum f n ≡ sum g n
unfolding sum
sum_same f g zero h = refl
sum_same f g (suc n) h = omega (arith, h n (omega arith), sum_same f g n (λ i l. h i (omega arith)))

pub sum_le : (f g : ℕ → ℕ) (n : ℕ) → ((i : ℕ) → i < n → f i ≤ g i) → sum f n ≤ sum g n
unfolding sum
sum_le f g zero h = zero-le
sum_le f g (suc n) h = omega (arith, h n (omega arith), sum_le f g n (λ i l. h i (omega arith)))

-- f and g differ at i alone
pub sum_change : (f g : ℕ → ℕ) (n i : ℕ) → i < n → ((j : ℕ) → (j ≡ i → ⊥) → f j ≡ g j) → sum f n + g i ≡ sum g n + f i
unfolding sum
sum_change f g zero i l h = absurd (not-suc-le-zero l)
sum_change f g (suc n) i l h =
    ⊎_elim
    (λ q. omega (arith, ap f q, ap g q, sum_same f g n (λ j m. h j (λ z. omega arith))))
    (λ m. omega (arith, h n (λ z. omega arith), sum_change f g n i m h))
    (eq-or-lt_of_le (le_of_suc-le-suc l))

-- one term is at most the whole
pub sum_part : (f : ℕ → ℕ) (n i : ℕ) → i < n → f i ≤ sum f n
unfolding sum
sum_part f zero i l = absurd (not-suc-le-zero l)
sum_part f (suc n) i l =
    ⊎_elim (λ q. omega (arith, ap f q)) (λ m. omega (arith, sum_part f n i m)) (eq-or-lt_of_le (le_of_suc-le-suc l))

pub sum_const : (c n : ℕ) → sum (λ i. c) n ≡ c * n
unfolding sum
sum_const c zero = omega arith
sum_const c (suc n) = omega (arith, sum_const c n, mul-suc c n)

pub sum_bound : (f : ℕ → ℕ) (c n : ℕ) → ((i : ℕ) → i < n → f i ≤ c) → sum f n ≤ c * n
sum_bound f c n h = omega (arith, sum_le f (λ i. c) n h, sum_const c n)

pub sum_zero : (f : ℕ → ℕ) (n : ℕ) → ((i : ℕ) → i < n → f i ≡ 0) → sum f n ≡ 0
unfolding sum
sum_zero f zero h = refl
sum_zero f (suc n) h = omega (arith, h n (omega arith), sum_zero f n (λ i l. h i (omega arith)))

pub sum_add : (f g : ℕ → ℕ) (n : ℕ) → sum (λ i. f i + g i) n ≡ sum f n + sum g n
unfolding sum
sum_add f g zero = refl
sum_add f g (suc n) = omega (arith, sum_add f g n)

-- one term more, as code counts
pub sum_step : (f : ℕ → ℕ) (n : ℕ) → sum f (n + 1) ≡ f n + sum f n
unfolding sum
sum_step f n = rw add-one
