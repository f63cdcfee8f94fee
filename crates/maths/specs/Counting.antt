-- More laws of sums and counts: order, cover, split, a witness, pigeonhole, the least by a measure; and how many are the first m in an order.
use Rattle.std.specs.Prelude.{◌≡◌, refl, ◌⊎◌, Bool, true, false, ℕ, zero, suc, ◌+◌, ◌-◌, ◌≤◌, ◌<◌, min, eqb, ltb}
use Rattle.std.proofs.Common.{sym, ap, ◌∙◌, inl, inr, ⊎_elim, zero-le, eq-or-lt_of_le, le_of_suc-le-suc, not-suc-le-zero, arith, eq-eqb, eqb-true, lt-ltb, ltb-true, ltb-false}
use Rattle.std.proofs.lemmas.Bool.{eqb-false}
use Rattle.maths.specs.Cases.{same_or_not, lt_or_le}
use Rattle.maths.specs.Tests.{◌and◌, neg, two, off, and_true, and_left, and_right, and_right_false, neg_false}
use Rattle.maths.specs.Sum.{sum, sum_same, sum_le, sum_add, sum_zero, sum_part}
use Rattle.maths.specs.Count.{bit, bit_le, count}
use Rattle.maths.specs.Lowest.{Found, find}

-- ---- sums

-- less at one place, and nowhere more
pub sum_strict : (f g : ℕ → ℕ) (n k : ℕ) → k < n → ((i : ℕ) → i < n → f i ≤ g i) → f k < g k → sum f n < sum g n
unfolding sum
sum_strict f g zero k l h s = absurd (not-suc-le-zero l)
sum_strict f g (suc n) k l h s =
    ⊎_elim
    (λ q. omega (arith, ap f q, ap g q, sum_le f g n (λ i u. h i (omega arith))))
    (λ m. omega (arith, sum_strict f g n k m (λ i u. h i (omega arith)) s, h n (omega arith)))
    (eq-or-lt_of_le (le_of_suc-le-suc l))

-- f and g differ, below n, at i alone
pub sum_change_below : (f g : ℕ → ℕ) (n i : ℕ) → i < n → ((j : ℕ) → j < n → (j ≡ i → ⊥) → f j ≡ g j) → sum f n + g i ≡ sum g n + f i
unfolding sum
sum_change_below f g zero i l h = absurd (not-suc-le-zero l)
sum_change_below f g (suc n) i l h =
    ⊎_elim
    (λ q. omega (arith, ap f q, ap g q, sum_same f g n (λ j m. h j (omega arith) (λ z. omega arith))))
    (λ m. omega (arith, h n (omega arith) (λ z. omega arith), sum_change_below f g n i m (λ j u. h j (omega arith))))
    (eq-or-lt_of_le (le_of_suc-le-suc l))

-- a sum above 0 has a term above 0
pub sum_find : (f : ℕ → ℕ) (n : ℕ) → 0 < sum f n → Found (λ k. 0 < f k) n
sum_find f n h =
    ⊎_elim
    (λ found. found)
    (λ none. absurd (omega (arith, sum_zero f n (λ i l. omega (arith, none i l)))))
    (find (λ k. 0 < f k) n (λ k l. ⊎_elim (λ p. inl p) (λ z. inr (λ p. omega arith)) (lt_or_le 0 (f k))))

-- ---- marks
bit_mono : (a b : Bool) → (a ≡ true → b ≡ true) → bit a ≤ bit b
bit_mono true b h = omega (arith, ap bit (h refl))
bit_mono false b h = zero-le

bit_cover : (a b c : Bool) → (a ≡ true → (b ≡ true) ⊎ (c ≡ true)) → bit a ≤ bit b + bit c
bit_cover false b c h = zero-le
bit_cover true b c h = ⊎_elim (λ e. omega (arith, ap bit e)) (λ e. omega (arith, ap bit e)) (h refl)

bit_apart : (a b c : Bool) → (b ≡ true → a ≡ true) → (c ≡ true → a ≡ true) → (b ≡ true → c ≡ true → ⊥) → bit b + bit c ≤ bit a
bit_apart a true true f g h = absurd (h refl refl)
bit_apart a true false f g h = omega (arith, ap bit (f refl))
bit_apart a false true f g h = omega (arith, ap bit (g refl))
bit_apart a false false f g h = zero-le

bit_split : (a b : Bool) → bit a ≡ bit (a and b) + bit (a and neg b)
unfolding ◌and◌ neg
bit_split true true = refl
bit_split true false = refl
bit_split false b = refl

bit_yes : (b : Bool) → 0 < bit b → b ≡ true
bit_yes true l = refl
bit_yes false l = absurd (not-suc-le-zero l)

-- ---- counts
pub count_same : (p q : ℕ → Bool) (n : ℕ) → ((i : ℕ) → i < n → p i ≡ q i) → count p n ≡ count q n
count_same p q n h = sum_same (λ i. bit (p i)) (λ i. bit (q i)) n (λ i l. ap bit (h i l))

pub count_mono : (p q : ℕ → Bool) (n : ℕ) → ((i : ℕ) → i < n → p i ≡ true → q i ≡ true) → count p n ≤ count q n
count_mono p q n h = sum_le (λ i. bit (p i)) (λ i. bit (q i)) n (λ i l. bit_mono (p i) (q i) (h i l))

-- what passes p passes q or r
pub count_cover : (p q r : ℕ → Bool) (n : ℕ) → ((i : ℕ) → i < n → p i ≡ true → (q i ≡ true) ⊎ (r i ≡ true)) → count p n ≤ count q n + count r n
count_cover p q r n h =
    omega (
      arith,
      sum_le (λ i. bit (p i)) (λ i. bit (q i) + bit (r i)) n (λ i l. bit_cover (p i) (q i) (r i) (h i l)),
      sum_add (λ i. bit (q i)) (λ i. bit (r i)) n,
    )

-- what passes q, and what passes r, passes p, and nothing passes both
pub count_apart : (p q r : ℕ → Bool) (n : ℕ) → ((i : ℕ) → i < n → q i ≡ true → p i ≡ true) → ((i : ℕ) → i < n → r i ≡ true → p i ≡ true)
    → ((i : ℕ) → i < n → q i ≡ true → r i ≡ true → ⊥) → count q n + count r n ≤ count p n
count_apart p q r n f g h =
    omega (
      arith,
      sum_le (λ i. bit (q i) + bit (r i)) (λ i. bit (p i)) n (λ i l. bit_apart (p i) (q i) (r i) (f i l) (g i l) (h i l)),
      sum_add (λ i. bit (q i)) (λ i. bit (r i)) n,
    )

pub count_zero : (p : ℕ → Bool) (n : ℕ) → ((i : ℕ) → i < n → p i ≡ true → ⊥) → count p n ≡ 0
count_zero p n h = sum_zero (λ i. bit (p i)) n (λ i l. ap bit (off (p i) (h i l)))

pub count_strict : (p q : ℕ → Bool) (n k : ℕ) → k < n → ((i : ℕ) → i < n → p i ≡ true → q i ≡ true) → p k ≡ false → q k ≡ true → count p n < count q n
count_strict p q n k l h a b =
    sum_strict (λ i. bit (p i)) (λ i. bit (q i)) n k l (λ i u. bit_mono (p i) (q i) (h i u)) (omega (arith, ap bit a, ap bit b))

pub count_pos : (p : ℕ → Bool) (n k : ℕ) → k < n → p k ≡ true → 0 < count p n
count_pos p n k l h = omega (arith, sum_part (λ i. bit (p i)) n k l, ap bit h)

-- where none is counted, none passes
pub count_nowhere : (p : ℕ → Bool) (n k : ℕ) → count p n ≡ 0 → k < n → p k ≡ true → ⊥
count_nowhere p n k z l h = omega (arith, count_pos p n k l h)

-- a number below n that passes the test
pub record Passes (p : ℕ → Bool) (n : ℕ) : Type 0 where
  pub place : ℕ
  pub inside : place < n
  pub passes : p place ≡ true

pub count_find : (p : ℕ → Bool) (n : ℕ) → 0 < count p n → Passes p n
count_find p n h =
    let found = sum_find (λ i. bit (p i)) n h in
    record { place = found.place; inside = found.lowest.inside; passes = bit_yes (p found.place) found.lowest.holds }

-- one passes, or none does
pub some_or_none : (p : ℕ → Bool) (n : ℕ) → Passes p n ⊎ ((i : ℕ) → i < n → p i ≡ true → ⊥)
some_or_none p n =
    ⊎_elim (λ l. inl (count_find p n l)) (λ l. inr (λ i u. count_nowhere p n i (omega arith) u)) (lt_or_le 0 (count p n))

pub count_split : (p q : ℕ → Bool) (n : ℕ) → count p n ≡ count (λ i. p i and q i) n + count (λ i. p i and neg (q i)) n
count_split p q n =
    omega (
      arith,
      sum_same (λ i. bit (p i)) (λ i. bit (p i and q i) + bit (p i and neg (q i))) n (λ i l. bit_split (p i) (q i)),
      sum_add (λ i. bit (p i and q i)) (λ i. bit (p i and neg (q i))) n,
    )

-- ---- pigeonhole
at_most_one : (p : ℕ → Bool) (n : ℕ) → ((i j : ℕ) → i < n → j < n → p i ≡ true → p j ≡ true → i ≡ j) → count p n ≤ 1
unfolding sum
at_most_one p zero h = zero-le
at_most_one p (suc n) h =
    ⊎_elim
    (λ e.
    omega
    (arith, bit_le (p n), count_zero p n (λ i l q. omega (arith, h i n (omega arith) (omega arith) q e))))
    (λ e. omega (arith, ap bit e, at_most_one p n (λ i j a b. h i j (omega arith) (omega arith))))
    (two (p n))

-- those that pass have different values below m: they are m at most
pub pigeon : (m n : ℕ) (p : ℕ → Bool) (f : ℕ → ℕ) → ((i : ℕ) → i < n → p i ≡ true → f i < m)
    → ((i j : ℕ) → i < n → j < n → p i ≡ true → p j ≡ true → f i ≡ f j → i ≡ j) → count p n ≤ m
pigeon zero n p f b inj = omega (arith, count_zero p n (λ i l e. not-suc-le-zero (b i l e)))
pigeon (suc m) n p f b inj =
    let last : ℕ → Bool = λ i. eqb (f i) m in
    omega (
      arith,
      count_split p last n,
      at_most_one (λ i. p i and last i) n
          (λ i j a d u v.
          inj i j a d (and_left _ _ u) (and_left _ _ v) (eqb-true (f i) m (and_right _ _ u) ∙ sym (eqb-true (f j) m (and_right _ _ v)))),
      pigeon m n (λ i. p i and neg (last i)) f
          (λ i l u. omega (arith, b i l (and_left _ _ u), eqb-false (f i) m (neg_false _ (and_right _ _ u))))
          (λ i j a d u v e. inj i j a d (and_left _ _ u) (and_left _ _ v) e),
    )

-- ---- the least by a measure
-- of those that pass p, one with the least h
pub record LeastBy (p : ℕ → Bool) (h : ℕ → ℕ) (n : ℕ) : Type 0 where
  pub place : ℕ
  pub inside : place < n
  pub passes : p place ≡ true
  pub low : (j : ℕ) → j < n → p j ≡ true → h place ≤ h j

search_least : (p : ℕ → Bool) (h : ℕ → ℕ) (n fuel k : ℕ) → h k < fuel → k < n → p k ≡ true → LeastBy p h n
search_least p h n zero k b l e = absurd (not-suc-le-zero b)
search_least p h n (suc fuel) k b l e =
    ⊎_elim
    (λ w.
    search_least p h n fuel w.place (omega (arith, ltb-true (h w.place) (h k) (and_right _ _ w.passes))) w.inside
    (and_left _ _ w.passes))
    (λ none.
    record {
      place = k;
      inside = l;
      passes = e;
      low = λ j u q.
          ⊎_elim (λ s. absurd (none j u (and_true q (lt-ltb (h j) (h k) s)))) (λ s. s) (lt_or_le (h j) (h k));
    })
    (some_or_none (λ j. p j and ltb (h j) (h k)) n)

pub least : (p : ℕ → Bool) (h : ℕ → ℕ) (n k : ℕ) → k < n → p k ≡ true → LeastBy p h n
least p h n k l e = search_least p h n (suc (h k)) k (omega arith) l e

-- ---- the first m of those that pass c, in a strict total order

-- `bef j i`: j comes before i
pub record Linear (bef : ℕ → ℕ → Bool) : Type 0 where
  pub never_itself : (i : ℕ) → bef i i ≡ false
  pub onward : (i j k : ℕ) → bef i j ≡ true → bef j k ≡ true → bef i k ≡ true
  pub either : (i j : ℕ) → (i ≡ j → ⊥) → (bef i j ≡ true) ⊎ (bef j i ≡ true)

-- how many of those that pass c come before i
abbrev pub rank : (ℕ → Bool) → (ℕ → ℕ → Bool) → ℕ → ℕ → ℕ
rank c bef n i = count (λ j. c j and bef j i) n

module _ (n : ℕ) (c : ℕ → Bool) (bef : ℕ → ℕ → Bool) (line : Linear bef) where
  pub rank_lt : (i j : ℕ) → i < n → c i ≡ true → bef i j ≡ true → rank c bef n i < rank c bef n j
  rank_lt i j l ci b =
      count_strict (λ x. c x and bef x i) (λ x. c x and bef x j) n i l
      (λ x u e. and_true (and_left _ _ e) (line.onward x i j (and_right _ _ e) b))
      (and_right_false (c i) (line.never_itself i))
      (and_true ci b)

  -- who has a lower rank comes before
  pub rank_before : (i j : ℕ) → j < n → c j ≡ true → rank c bef n i < rank c bef n j → bef i j ≡ true
  rank_before i j d cj r =
      ⊎_elim
      (λ e. absurd (omega (arith, ap (rank c bef n) e)))
      (λ ne. ⊎_elim (λ b. b) (λ b. absurd (omega (arith, rank_lt j i d cj b))) (line.either i j ne))
      (same_or_not i j)

  pub rank_one : (i j : ℕ) → i < n → j < n → c i ≡ true → c j ≡ true → rank c bef n i ≡ rank c bef n j → i ≡ j
  rank_one i j a d ci cj e =
      ⊎_elim
      (λ s. s)
      (λ ne.
      absurd
      (⊎_elim (λ b. omega (arith, rank_lt i j a ci b)) (λ b. omega (arith, rank_lt j i d cj b)) (line.either i j ne)))
      (same_or_not i j)

  pub rank_below : (i : ℕ) → i < n → c i ≡ true → rank c bef n i < count c n
  rank_below i l ci =
      count_strict (λ x. c x and bef x i) c n i l (λ x u e. and_left _ _ e) (and_right_false (c i) (line.never_itself i)) ci

  firsts_le : (m : ℕ) → count (λ i. c i and ltb (rank c bef n i) m) n ≤ m
  firsts_le m =
      pigeon m n (λ i. c i and ltb (rank c bef n i) m) (rank c bef n)
      (λ i l e. ltb-true (rank c bef n i) m (and_right _ _ e))
      (λ i j a d u v e. rank_one i j a d (and_left _ _ u) (and_left _ _ v) e)

  rest_le : (m : ℕ) → count (λ i. c i and neg (ltb (rank c bef n i) m)) n ≤ count c n - m
  rest_le m =
      let late : (i : ℕ) → c i and neg (ltb (rank c bef n i) m) ≡ true → m ≤ rank c bef n i =
      λ i e. ltb-false (rank c bef n i) m (neg_false _ (and_right _ _ e)) in
      pigeon (count c n - m) n (λ i. c i and neg (ltb (rank c bef n i) m)) (λ i. rank c bef n i - m)
      (λ i l e. omega (arith, late i e, rank_below i l (and_left _ _ e)))
      (λ i j a d u v e. rank_one i j a d (and_left _ _ u) (and_left _ _ v) (omega (arith, late i u, late j v)))

  -- as many pass as there is room for
  pub firsts : (m : ℕ) → count (λ i. c i and ltb (rank c bef n i) m) n ≡ min m (count c n)
  firsts m = omega (arith, firsts_le m, rest_le m, count_split c (λ i. ltb (rank c bef n i) m) n)

  -- each rank below the count is met
  pub rank_met : (m : ℕ) → m < count c n → Passes (λ i. c i and eqb (rank c bef n i) m) n
  rank_met m l =
      count_find (λ i. c i and eqb (rank c bef n i) m) n
      (omega (
        arith,
        firsts m,
        firsts (m + 1),
        count_cover (λ i. c i and ltb (rank c bef n i) (m + 1)) (λ i. c i and ltb (rank c bef n i) m) (λ i. c i and eqb (rank c bef n i) m) n
            (λ i u e.
            ⊎_elim
            (λ s. inl (and_true (and_left _ _ e) (lt-ltb (rank c bef n i) m s)))
            (λ s.
            inr
            (and_true (and_left _ _ e)
            (eq-eqb (rank c bef n i) m (omega (arith, ltb-true (rank c bef n i) (m + 1) (and_right _ _ e))))))
            (lt_or_le (rank c bef n i) m)),
      ))
