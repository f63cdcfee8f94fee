-- Where the entries of a row stand, kept in a second row. Of numbers below n at most n are different.
use Rattle.std.specs.Prelude.{◌≡◌, refl, List, ℕ, zero, suc, ◌+◌, ◌-◌, ◌≤◌, ◌<◌, length, set, replicate}
use Rattle.std.proofs.Common.{sym, ap, subst, ◌∙◌, ⊎_elim, add-one, arith, length-set, get_or-set_same, get_or-set_other}
use Rattle.std.proofs.lemmas.List.{length-replicate}
use Rattle.maths.specs.Cases.{same_or_not, lt_or_le}
use Rattle.maths.specs.Rows.{at, blank}
use Rattle.maths.specs.Count.{marks, marks_le, marks_none, marks_set}

-- at the number of each of met's first `count` entries, `places` has its place + 1, and nothing else is marked there
pub record Places (met places : List ℕ) (n count : ℕ) : Type 0 where
  pub long : length places ≡ n
  pub counts : marks places n ≡ count
  pub marked : (k : ℕ) → k < count → at places (at met k) ≡ k + 1
  pub inside : (i : ℕ) → 1 ≤ at places i → at places i ≤ count
  pub is : (i : ℕ) → 1 ≤ at places i → at met (at places i - 1) ≡ i

module _ {met : List ℕ} {n : ℕ} where
  pub places_none : Places met (replicate n 0) n 0
  places_none = record {
    long = length-replicate n 0;
    counts = marks_none (replicate n 0) n (λ i l. blank n i);
    marked = λ k l. absurd (omega arith);
    inside = λ i l. absurd (omega (arith, blank n i));
    is = λ i l. absurd (omega (arith, blank n i));
  }

  -- no more places than numbers below n
  pub places_few : {places : List ℕ} {count : ℕ} → Places met places n count → count ≤ n
  places_few {places} p = omega (arith, p.counts, marks_le places n)

  pub places_low : {places : List ℕ} {count : ℕ} → Places met places n count → (i : ℕ) → at places i ≤ n
  places_low {places} p i = ⊎_elim (λ l. omega (arith, p.inside i l, places_few p)) (λ l. omega arith) (lt_or_le 0 (at places i))

  -- two of the entries are two numbers
  pub places_apart : {places : List ℕ} {count : ℕ} → Places met places n count → (j k : ℕ) → j < k → k < count → at met j ≡ at met k → ⊥
  places_apart {places} p j k l r e = omega (arith, p.marked j (omega arith), p.marked k r, ap (at places) e)

  -- one entry more, that is not marked yet
  pub places_step : {met' places : List ℕ} {count i : ℕ} → Places met places n count → ((k : ℕ) → k < count → at met' k ≡ at met k) → at met' count ≡ i
      → i < n → at places i ≡ 0 → Places met' (set places i (count + 1)) n (count + 1)
  places_step {met'} {places} {count} {i} p same here l z =
      let places' : List ℕ = set places i (count + 1) in
      let hit : at places' i ≡ count + 1 = get_or-set_same places i (count + 1) 0 (omega (arith, p.long)) in
      let miss : (j : ℕ) → (j ≡ i → ⊥) → at places' j ≡ at places j = λ j x. get_or-set_other places i j (count + 1) 0 x in
      record {
        long = length-set places i (count + 1) ∙ p.long;
        counts = omega (arith, marks_set places n i (count + 1) l (omega (arith, p.long)) z (omega arith), p.counts);
        marked = λ k m.
            ⊎_elim
            (λ x.
            let other : at met' k ≡ i → ⊥ = λ e. omega (arith, p.marked k x, ap (at places) (sym (same k x) ∙ e)) in
            miss (at met' k) other ∙ ap (at places) (same k x) ∙ p.marked k x)
            (λ x. let e : k ≡ count = omega arith in ap (at places') (ap (at met') e ∙ here) ∙ hit ∙ omega arith)
            (lt_or_le k count);
        inside = λ j m.
            ⊎_elim
            (λ e. omega (arith, ap (at places') e, hit))
            (λ x. omega (arith, miss j x, p.inside j (omega (arith, miss j x))))
            (same_or_not j i);
        is = λ j m.
            ⊎_elim
            (λ e. let there : at places' j - 1 ≡ count = omega (arith, ap (at places') e, hit) in ap (at met') there ∙ here ∙ sym e)
            (λ x.
            let old : 1 ≤ at places j = omega (arith, miss j x) in
            ap (at met') (ap (λ (v : ℕ). v - 1) (miss j x)) ∙ same (at places j - 1) (omega (arith, p.inside j old)) ∙ p.is j old)
            (same_or_not j i);
      }

module _ (row : List ℕ) (n : ℕ) (within : (k : ℕ) → k < length row → at row k < n)
    (apart : (j k : ℕ) → j < k → k < length row → at row j ≡ at row k → ⊥) where
  -- each of the row's numbers can be given its place
  apart_places : (count : ℕ) → count ≤ length row → (places : List ℕ) × Places row places n count
  apart_places zero l = (replicate n 0, places_none)
  apart_places (suc count) l =
      let (places, placed) = apart_places count (omega arith) in
      let i : ℕ = at row count in
      let again : 1 ≤ at places i → ⊥ = λ x. apart (at places i - 1) count (omega (arith, placed.inside i x)) (omega arith) (placed.is i x) in (
        set places i (count + 1),
        subst (Places row (set places i (count + 1)) n) (add-one count)
            (places_step placed (λ k r. refl) refl (within count (omega arith)) (⊎_elim (λ x. absurd (again x)) (λ x. omega arith) (lt_or_le 0 (at places i)))),
      )

  -- of numbers below n at most n are different
  pub apart_few : length row ≤ n
  apart_few = places_few (apart_places (length row) (omega arith)).1
