-- Rows compared as words: a strict total order. All words over 1 to b stand in their list once each, rising; what is kept of a rising list rises.
use Rattle.std.specs.Prelude.{◌≡◌, refl, Bool, true, false, ◌⊎◌, ℕ, zero, suc, ◌+◌, ◌<◌, ◌≤◌, eqb, ltb, length, set}
use Rattle.std.proofs.Common.{sym, ap, subst, ◌∙◌, inl, inr, ⊎_elim, le_of_lt, not-suc-le-zero, le_of_suc-le-suc, eq-or-lt_of_le, arith, below_more, get_or-set_other}
use Rattle.std.proofs.lemmas.Bool.{false≢true}
use mathlib.Core.List.Memᴰ
use mathlib.Core.List.{List, [], ◌∷◌, ◌++◌, map, Memᴰ}
use Rattle.maths.specs.Cases.{Tells, tells_no, lt_or_le}
use Rattle.maths.specs.Tests.{◌and◌, ◌or◌}
use Rattle.maths.specs.TellLaws.{tells_as, tells_lt, tells_eq, tells_both, tells_either}
use Rattle.maths.specs.Rows.{at, same_row}
use Rattle.maths.specs.Words.{Same, Before, joined, words, keep_if, keep}

-- ---- rows that agree
pub same_none : (a b : List ℕ) → Same 0 a b
same_none a b = record { upto = λ j h. absurd (not-suc-le-zero h) }

-- to agree below k is to be equal as far as k: reflexive, symmetric, transitive
pub same_refl : (k : ℕ) (a : List ℕ) → Same k a a
same_refl k a = record { upto = λ j h. refl }

pub same_sym : {k : ℕ} {a b : List ℕ} → Same k a b → Same k b a
same_sym s = record { upto = λ j h. sym (s.upto j h) }

pub same_trans : {k : ℕ} {a b c : List ℕ} → Same k a b → Same k b c → Same k a c
same_trans s t = record { upto = λ j h. s.upto j h ∙ t.upto j h }

-- rows that agree below k agree below less, and below one more where they agree at k
pub same_down : {k m : ℕ} {a b : List ℕ} → m ≤ k → Same k a b → Same m a b
same_down l s = record { upto = λ j h. s.upto j (omega arith) }

pub same_more : {i : ℕ} {a b : List ℕ} → Same i a b → at a i ≡ at b i → Same (i + 1) a b
same_more {i} {a} {b} s e = record { upto = below_more (λ (j : ℕ). at a j ≡ at b j) i s.upto e }

-- an entry at i is set: nothing below i changes
pub same_set : (s : List ℕ) (i t : ℕ) → Same i (set s i t) s
same_set s i t = record { upto = λ j h. get_or-set_other s i j t 0 (omega arith) }

-- rows of n entries that agree below n are one row
pub same_list : {n : ℕ} {a b : List ℕ} → length a ≡ n → length b ≡ n → Same n a b → a ≡ b
same_list {n} {a} {b} p q s = same_row a b (p ∙ sym q) (λ i l. s.upto i (omega arith))

-- ---- the order
pub before_here : {n i : ℕ} {a b : List ℕ} → i < n → Same i a b → at a i < at b i → Before n a b
before_here {n} {i} h s l = record { place = i; inside = h; same = s; less = l }

-- what comes before among fewer entries does so among more
pub before_wide : {n m : ℕ} {a b : List ℕ} → n ≤ m → Before n a b → Before m a b
before_wide h x = record { place = x.place; inside = omega (arith, x.inside); same = x.same; less = x.less }

-- rows that agree do not come before each other
pub same_not_before : {n : ℕ} {a b : List ℕ} → Same n a b → Before n a b → ⊥
same_not_before s b = omega (arith, s.upto b.place b.inside, b.less)

-- no row comes before itself
pub before_not_self : {n : ℕ} (a : List ℕ) → Before n a a → ⊥
before_not_self {n} a b = same_not_before (same_refl n a) b

-- rows that agree below i, the first before the second: there the first is at most the second
pub before_at : {n i : ℕ} {a b : List ℕ} → Same i a b → Before n a b → at a i ≤ at b i
before_at {n} {i} {a} {b} s x =
    ⊎_elim
    (λ h. omega (arith, x.same.upto i h))
    (λ h.
    ⊎_elim
    (λ k. absurd (omega (arith, s.upto x.place k, x.less)))
    (λ k. let e : x.place ≡ i = omega arith in le_of_lt (subst (λ (k : ℕ). at a k < at b k) e x.less))
    (lt_or_le x.place i))
    (lt_or_le i x.place)

-- the place at which the rows part is the lower of the two
pub before_trans : {n : ℕ} {a b c : List ℕ} → Before n a b → Before n b c → Before n a c
before_trans {n} {a} {b} {c} x y =
    ⊎_elim first
    (λ h. ⊎_elim second (λ g. both (omega arith)) (lt_or_le y.place x.place))
    (lt_or_le x.place y.place)
  where
    first : x.place < y.place → Before n a c
    first h =
        before_here x.inside (same_trans x.same (same_down (omega arith) y.same))
        (omega (arith, x.less, y.same.upto x.place h))

    second : y.place < x.place → Before n a c
    second h =
        before_here y.inside (same_trans (same_down (omega arith) x.same) y.same)
        (omega (arith, y.less, x.same.upto y.place h))

    both : y.place ≡ x.place → Before n a c
    both e =
        before_here x.inside (same_trans x.same (same_down (omega arith) y.same))
        (omega (arith, x.less, subst (λ (k : ℕ). at b k < at c k) e y.less))

-- a row may stand for another that agrees with it
pub before_same : {n : ℕ} {a b c : List ℕ} → Before n a b → Same n b c → Before n a c
before_same x s =
    before_here x.inside (same_trans x.same (same_down (omega (arith, x.inside)) s))
    (omega (arith, x.less, s.upto x.place x.inside))

-- no row comes before one that comes before it
pub before_not_after : {n : ℕ} {a b : List ℕ} → Before n a b → Before n b a → ⊥
before_not_after {n} {a} x y = before_not_self a (before_trans x y)

same_suc : {n : ℕ} {a b : List ℕ} → Same n a b → at a n ≡ at b n → Same (suc n) a b
same_suc {n} {a} {b} s e = same_down (omega arith) (same_more s e)

-- of two rows one comes before the other, or they agree
pub compare : (n : ℕ) (a b : List ℕ) → Before n a b ⊎ (Same n a b ⊎ Before n b a)
compare zero a b = inr (inl (same_none a b))
compare (suc n) a b =
    ⊎_elim
    (λ x. inl (before_wide (omega arith) x))
    (λ y. ⊎_elim at_n (λ x. inr (inr (before_wide (omega arith) x))) y)
    (compare n a b)
  where
    at_n : Same n a b → Before (suc n) a b ⊎ (Same (suc n) a b ⊎ Before (suc n) b a)
    at_n s =
        ⊎_elim
        (λ h. inl (before_here (omega arith) s h))
        (λ h.
        ⊎_elim
        (λ g. inr (inr (before_here (omega arith) (same_sym s) g)))
        (λ g. inr (inl (same_suc s (omega arith))))
        (lt_or_le (at b n) (at a n)))
        (lt_or_le (at a n) (at b n))

-- ---- rising lists
-- the row stands in the list
abbrev pub Among : List ℕ → List (List ℕ) → Type 0
Among row rows = Memᴰ row rows

-- each row comes before all that stand behind it: so none stands twice
pub data Rising (n : ℕ) : List (List ℕ) → Type 0 where
  done : Rising n []
  ahead : {row : List ℕ} {rest : List (List ℕ)} → ((u : List ℕ) → Among u rest → Before n row u) → Rising n rest → Rising n (row ∷ rest)

-- the two parts of a rising list
pub rising_head : {n : ℕ} {row : List ℕ} {rest : List (List ℕ)} → Rising n (row ∷ rest) → (u : List ℕ) → Among u rest → Before n row u
rising_head (ahead h r) = h

pub rising_tail : {n : ℕ} {row : List ℕ} {rest : List (List ℕ)} → Rising n (row ∷ rest) → Rising n rest
rising_tail (ahead h r) = r

-- two rising lists rise as one where all of the first come before all of the second
pub rising_append : {n : ℕ} (a b : List (List ℕ)) → Rising n a → Rising n b → ((u v : List ℕ) → Among u a → Among v b → Before n u v) → Rising n (a ++ b)
rising_append [] b ra rb h = rb
rising_append (row ∷ rest) b ra rb h =
    ahead
    (λ u m. ⊎_elim (rising_head ra u) (h row u (Memᴰ.head refl)) (Memᴰ.append_cases rest m))
    (rising_append rest b (rising_tail ra) rb (λ u v m k. h u v (Memᴰ.tail m) k))

-- ---- the lists f 1, f 2, .. f k, one behind the other
pub record InJoined (f : ℕ → List (List ℕ)) (k : ℕ) (u : List ℕ) : Type 0 where
  pub number : ℕ
  pub low : 1 ≤ number
  pub high : number ≤ k
  pub inside : Among u (f number)

-- what stands there stands in one of them, and what stands in one of them stands there
pub joined_in : (f : ℕ → List (List ℕ)) (k : ℕ) (u : List ℕ) → Among u (joined f k) → InJoined f k u
unfolding joined
joined_in f zero u m = absurd (Memᴰ.not-nil m)
joined_in f (suc k) u m =
    ⊎_elim
    (λ h. wider (joined_in f k u h))
    (λ h. record { number = suc k; low = omega arith; high = omega arith; inside = h })
    (Memᴰ.append_cases (joined f k) m)
  where
    wider : InJoined f k u → InJoined f (suc k) u
    wider h = record { number = h.number; low = h.low; high = omega (arith, h.high); inside = h.inside }

pub joined_all : (f : ℕ → List (List ℕ)) (k : ℕ) (u : List ℕ) (s : ℕ) → 1 ≤ s → s ≤ k → Among u (f s) → Among u (joined f k)
unfolding joined
joined_all f zero u s low high m = absurd (omega arith)
joined_all f (suc k) u s low high m =
    ⊎_elim
    (λ e. Memᴰ.append_right (joined f k) (subst (λ (j : ℕ). Among u (f j)) e m))
    (λ l. Memᴰ.append_left (f (suc k)) (joined_all f k u s low (le_of_suc-le-suc l) m))
    (eq-or-lt_of_le high)

-- they rise as one where each rises, and each comes before the later ones
pub joined_rising : {n : ℕ} (f : ℕ → List (List ℕ)) (k : ℕ) → ((s : ℕ) → Rising n (f s))
    → ((s t : ℕ) → s < t → (u v : List ℕ) → Among u (f s) → Among v (f t) → Before n u v) → Rising n (joined f k)
unfolding joined
joined_rising f zero each step = done
joined_rising f (suc k) each step =
    rising_append (joined f k) (f (suc k)) (joined_rising f k each step) (each (suc k))
    (λ u v m h. let w = joined_in f k u m in step w.number (suc k) (omega (arith, w.high)) u v w.inside h)

-- ---- a letter in front of each row
pub record InMap (s : ℕ) (rows : List (List ℕ)) (u : List ℕ) : Type 0 where
  pub rest : List ℕ
  pub is : u ≡ s ∷ rest
  pub inside : Among rest rows

-- the rows of a list, each behind the letter s
abbrev pub front : ℕ → List (List ℕ) → List (List ℕ)
front s rows = map (λ (row : List ℕ). s ∷ row) rows

-- what stands there is s and a row of the list, and that is all that stands there
pub front_in : (s : ℕ) (rows : List (List ℕ)) (u : List ℕ) → Among u (front s rows) → InMap s rows u
front_in s [] u m = absurd (Memᴰ.not-nil m)
front_in s (row ∷ rows) u m =
    ⊎_elim
    (λ e. record { rest = row; is = e; inside = Memᴰ.head refl })
    (λ h. further (front_in s rows u h))
    (Memᴰ.cases_cons m)
  where
    further : InMap s rows u → InMap s (row ∷ rows) u
    further h = record { rest = h.rest; is = h.is; inside = Memᴰ.tail h.inside }

fronted : (s : ℕ) (u rest : List ℕ) (rows : List (List ℕ)) → u ≡ s ∷ rest → Among rest rows → Among u (front s rows)
fronted s u rest rows e (Memᴰ.head d) = Memᴰ.head (e ∙ ap (λ (row : List ℕ). s ∷ row) d)
fronted s u rest rows e (Memᴰ.tail m) = Memᴰ.tail (fronted s u rest _ e m)

pub front_all : (s : ℕ) (rows : List (List ℕ)) (u rest : List ℕ) → u ≡ s ∷ rest → Among rest rows → Among u (front s rows)
front_all s rows u rest e m = fronted s u rest rows e m

before_front : {n : ℕ} (s : ℕ) {a b : List ℕ} → Before n a b → Before (suc n) (s ∷ a) (s ∷ b)
before_front {n} s {a} {b} x = record {
  place = suc x.place;
  inside = omega (arith, x.inside);
  same = record { upto = agree };
  less = x.less;
}
  where
    agree : (j : ℕ) → j < suc x.place → at (s ∷ a) j ≡ at (s ∷ b) j
    agree zero h = refl
    agree (suc j) h = x.same.upto j (le_of_suc-le-suc h)

-- they rise as the rows behind the letter do
pub front_rising : {n : ℕ} (s : ℕ) (rows : List (List ℕ)) → Rising n rows → Rising (suc n) (front s rows)
front_rising s [] r = done
front_rising {n} s (row ∷ rows) r = ahead first (front_rising s rows (rising_tail r))
  where
    first : (u : List ℕ) → Among u (front s rows) → Before (suc n) (s ∷ row) u
    first u m =
        let h = front_in s rows u m in
        subst (λ (v : List ℕ). Before (suc n) (s ∷ row) v) (sym h.is) (before_front s (rising_head r h.rest h.inside))

-- a lower letter in front comes before a higher one
fronts_rise : {n : ℕ} (s t : ℕ) → s < t → (rows : List (List ℕ)) (u v : List ℕ) → Among u (front s rows) → Among v (front t rows) → Before (suc n) u v
fronts_rise s t l rows u v m k =
    let a = front_in s rows u m in
    let b = front_in t rows v k in
    before_here (omega arith) (same_none u v)
    (omega (arith, ap (λ (row : List ℕ). at row 0) a.is, ap (λ (row : List ℕ). at row 0) b.is))

-- ---- all words
-- a row of n entries, each from 1 to b
pub record Word (n b : ℕ) (row : List ℕ) : Type 0 where
  pub long : length row ≡ n
  pub low : (i : ℕ) → i < n → 1 ≤ at row i
  pub high : (i : ℕ) → i < n → at row i ≤ b

-- each word comes before all that stand behind it
pub words_rising : (n b : ℕ) → Rising n (words n b)
unfolding words
words_rising zero b = ahead (λ u m. absurd (Memᴰ.not-nil m)) done
words_rising (suc n) b =
    joined_rising (λ s. front s (words n b)) b
    (λ s. front_rising s (words n b) (words_rising n b))
    (λ s t l. fronts_rise s t l (words n b))

-- what stands there is a word
pub words_in : (n b : ℕ) (u : List ℕ) → Among u (words n b) → Word n b u
unfolding words
words_in zero b u m = ⊎_elim empty (λ h. absurd (Memᴰ.not-nil h)) (Memᴰ.cases_cons m)
  where
    empty : u ≡ [] → Word 0 b u
    empty e = record {
      long = ap length e;
      low = λ i l. absurd (not-suc-le-zero l);
      high = λ i l. absurd (not-suc-le-zero l);
    }
words_in (suc n) b u m = whole (joined_in (λ s. front s (words n b)) b u m) (words_in n b)
  where
    longer : (s : ℕ) → 1 ≤ s → s ≤ b → (rest : List ℕ) → Word n b rest → Word (suc n) b (s ∷ rest)
    longer s low high rest w = record { long = ap suc w.long; low = lows; high = highs }
      where
        lows : (i : ℕ) → i < suc n → 1 ≤ at (s ∷ rest) i
        lows zero l = low
        lows (suc i) l = w.low i (le_of_suc-le-suc l)

        highs : (i : ℕ) → i < suc n → at (s ∷ rest) i ≤ b
        highs zero l = high
        highs (suc i) l = w.high i (le_of_suc-le-suc l)

    whole : InJoined (λ s. front s (words n b)) b u → ((v : List ℕ) → Among v (words n b) → Word n b v) → Word (suc n) b u
    whole h shorter =
        let k = front_in h.number (words n b) u h.inside in
        subst (λ (v : List ℕ). Word (suc n) b v) (sym k.is)
        (longer h.number h.low h.high k.rest (shorter k.rest k.inside))

-- and every word stands there
pub words_all : (n b : ℕ) (u : List ℕ) → Word n b u → Among u (words n b)
unfolding words
words_all zero b [] w = Memᴰ.head refl
words_all zero b (s ∷ u) w = absurd (omega (arith, w.long))
words_all (suc n) b [] w = absurd (omega (arith, w.long))
words_all (suc n) b (s ∷ u) w =
    joined_all (λ s. front s (words n b)) b (s ∷ u) s (w.low 0 (omega arith)) (w.high 0 (omega arith))
    (front_all s (words n b) (s ∷ u) u refl
    (words_all n b u
    (record {
      long = omega (arith, w.long);
      low = λ i l. w.low (suc i) (omega arith);
      high = λ i l. w.high (suc i) (omega arith);
    })))

-- ---- what is kept
-- it stood in the list, and passes
pub record PassesAmong (p : List ℕ → Bool) (rows : List (List ℕ)) (u : List ℕ) : Type 0 where
  pub inside : Among u rows
  pub pass : p u ≡ true

-- what is kept stood in the list and passes
pub keep_in : (p : List ℕ → Bool) (rows : List (List ℕ)) (u : List ℕ) → Among u (keep p rows) → PassesAmong p rows u
unfolding keep
keep_in p [] u m = absurd (Memᴰ.not-nil m)
keep_in p (row ∷ rows) u m = go (p row) refl m (keep_in p rows u)
  where
    further : PassesAmong p rows u → PassesAmong p (row ∷ rows) u
    further h = record { inside = Memᴰ.tail h.inside; pass = h.pass }

    go : (b : Bool) → p row ≡ b → Among u (keep_if b row (keep p rows)) → (Among u (keep p rows) → PassesAmong p rows u) → PassesAmong p (row ∷ rows) u
    go true e m rest =
        ⊎_elim
        (λ d. record { inside = Memᴰ.head d; pass = ap p d ∙ e })
        (λ h. further (rest h))
        (Memᴰ.cases_cons m)
    go false e m rest = further (rest m)

-- and all that pass are kept
pub keep_all : (p : List ℕ → Bool) (rows : List (List ℕ)) (u : List ℕ) → Among u rows → p u ≡ true → Among u (keep p rows)
unfolding keep
keep_all p [] u m t = absurd (Memᴰ.not-nil m)
keep_all p (row ∷ rows) u m t = go (p row) refl (Memᴰ.cases_cons m) (λ h. keep_all p rows u h t)
  where
    go : (b : Bool) → p row ≡ b → (u ≡ row) ⊎ Among u rows → (Among u rows → Among u (keep p rows)) → Among u (keep_if b row (keep p rows))
    go true e c rest = ⊎_elim (λ d. Memᴰ.head d) (λ h. Memᴰ.tail (rest h)) c
    go false e c rest = ⊎_elim (λ d. absurd (false≢true (sym e ∙ sym (ap p d) ∙ t))) rest c

-- what is kept of a rising list rises
pub keep_rising : {n : ℕ} (p : List ℕ → Bool) (rows : List (List ℕ)) → Rising n rows → Rising n (keep p rows)
unfolding keep
keep_rising p [] r = done
keep_rising {n} p (row ∷ rows) r = go (p row) (keep_rising p rows (rising_tail r))
  where
    go : (b : Bool) → Rising n (keep p rows) → Rising n (keep_if b row (keep p rows))
    go true k = ahead (λ u m. rising_head r u (keep_in p rows u m).inside) k
    go false k = k

-- ---- the order as a test
unfoldable pub is_before : List ℕ → List ℕ → Bool
is_before [] b = false
is_before (x ∷ a) [] = false
is_before (x ∷ a) (y ∷ b) = ltb x y or (eqb x y and is_before a b)

-- of rows that are as long as each other it tells which comes before
pub is_before_tells : (n : ℕ) (a b : List ℕ) → length a ≡ n → length b ≡ n → Tells (is_before a b) (Before n a b)
unfolding is_before
is_before_tells n [] b p q = tells_no (λ x. omega (arith, p, x.inside))
is_before_tells n (x ∷ a) [] p q = absurd (omega (arith, p, q))
is_before_tells zero (x ∷ a) (y ∷ b) p q = absurd (omega (arith, p))
is_before_tells (suc n) (x ∷ a) (y ∷ b) p q =
    tells_as _ there back
    (tells_either _ _ (tells_lt x y) (tells_both _ _ (tells_eq x y) (is_before_tells n a b (omega (arith, p)) (omega (arith, q)))))
  where
    there : (x < y) ⊎ ((x ≡ y) × Before n a b) → Before (suc n) (x ∷ a) (y ∷ b)
    there (inl l) = before_here (omega arith) (same_none _ _) l
    there (inr h) = subst (λ (z : ℕ). Before (suc n) (x ∷ a) (z ∷ b)) h.0 (before_front x h.1)

    -- the place at which the rows part is the first, or a later one
    parted : (k : ℕ) → k < suc n → Same k (x ∷ a) (y ∷ b) → at (x ∷ a) k < at (y ∷ b) k → (x < y) ⊎ ((x ≡ y) × Before n a b)
    parted zero i s l = inl l
    parted (suc k) i s l =
        inr (
          s.upto 0 (omega arith),
          before_here (le_of_suc-le-suc i) (record { upto = λ j h. s.upto (suc j) (omega arith) }) l,
        )

    back : Before (suc n) (x ∷ a) (y ∷ b) → (x < y) ⊎ ((x ≡ y) × Before n a b)
    back h = parted h.place h.inside h.same h.less
