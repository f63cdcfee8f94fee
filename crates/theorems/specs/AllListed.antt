-- The test for a lawful schedule tells, and from first, asking each time for the next, gives the definition's list: each lawful schedule once,
-- rising, and none left exactly when none is left.
use Rattle.std.specs.Prelude.{◌≡◌, refl, ℕ, ◌+◌, ◌≤◌, ◌<◌, length}
use Rattle.std.proofs.Common.{ap, subst, arith}
use mathlib.Core.List.Memᴰ
use mathlib.Core.List.{List, [], ◌∷◌}
use Rattle.std.proofs.Math.Logic.{⊎_elim}
use Rattle.std.proofs.Math.Option.{none, some}
use Rattle.maths.specs.Cases.{Tells}
use Rattle.maths.specs.TellLaws.{tells_as, tells_le, tells_both, tells_every, tells_true}
use Rattle.maths.specs.Rows.{at}
use Rattle.maths.specs.WordLaws.{Word, Among, Rising, rising_head, rising_tail, before_not_self, before_not_after, before_trans, words_in, words_all, words_rising, keep_in, keep_all, keep_rising, is_before, is_before_tells}
use Rattle.maths.specs.Words.{Before, words, keep}
use Rattle.model.specs.Order.{source, target}
use Rattle.model.specs.Graph.{Graph, order, many, edges_of, delay, Sound}
use Rattle.model.specs.Use.{running, Lawful}
use Rattle.model.specs.Listing.{is_lawful, all_lawful, Later, Least, NoneLeft, Asked, AskedAll}
use Rattle.theory.specs.unit_use.RunningAndPeak.{first_starts_enough}
use Rattle.theory.specs.lister.OneLeast.{least_left, least_one}

-- ---- what a lawful schedule is made of
module _ (g : Graph) (sound : Sound g) (units : List ℕ) (bound : ℕ) (t : List ℕ) where
  -- its starts are from 1 to the bound
  pub lawful_word : Lawful g units bound t → Word (many g) bound t
  lawful_word h = record {
    long = h.long;
    low = h.keeps.from_one;
    high = λ i l. omega (arith, h.within.ends i l, sound.delay_from i l);
  }

  -- the test tells: every start is within the bound, so steps up to the bound are enough
  pub is_lawful_tells : length t ≡ many g → Tells (is_lawful g units bound t) (Lawful g units bound t)
  unfolding is_lawful
  is_lawful_tells long =
      tells_as _ there
      (λ h. (h.keeps.from_one, (h.within.ends, (h.keeps.edges, λ l b k c. h.room k l c))))
      (tells_both _ _ (tells_every _ (λ i. 1 ≤ at t i) (many g) (λ i l. tells_le 1 (at t i)))
      (tells_both _ _
      (tells_every _ (λ i. at t i + delay g i ≤ bound + 1) (many g) (λ i l. tells_le (at t i + delay g i) (bound + 1)))
      (tells_both _ _
      (tells_every _ (λ e. at t (source (order g) e) + delay g (source (order g) e) ≤ at t (target (order g) e)) (edges_of g)
      (λ e l. tells_le (at t (source (order g) e) + delay g (source (order g) e)) (at t (target (order g) e))))
      (tells_every _ (λ l. (k : ℕ) → k < g.kinds → running g t k l ≤ at units k) (bound + 1)
      (λ l b. tells_every _ (λ k. running g t k l ≤ at units k) g.kinds (λ k c. tells_le (running g t k l) (at units k)))))))
    where
      there : ((i : ℕ) → i < many g → 1 ≤ at t i) × (((i : ℕ) → i < many g → at t i + delay g i ≤ bound + 1) × (((e : ℕ) → e < edges_of g → at t (source (order g) e) + delay g (source (order g) e) ≤ at t (target (order g) e)) × ((l : ℕ) → l < bound + 1 → (k : ℕ) → k < g.kinds → running g t k l ≤ at units k))) → Lawful g units bound t
      there h = record {
        long = long;
        keeps = record { from_one = h.0; edges = h.1.1.0 };
        within = record { ends = h.1.0 };
        room = λ k l c.
            first_starts_enough g t (many g) k l (at units k)
            (λ j b e. h.1.1.1 (at t j) (omega (arith, h.1.0 j b, sound.delay_from j b)) k c);
      }

module _ (g : Graph) (units : List ℕ) (bound : ℕ) where
  -- asking gives one list
  asked_one : {t : List ℕ} {rows : List (List ℕ)} → Asked g units bound t rows → (more : List (List ℕ)) → Asked g units bound t more → rows ≡ more
  asked_one (Asked.last n) more (Asked.last m) = refl
  asked_one (Asked.last n) more (Asked.then {u = u} l s) = absurd (least_left g units bound _ u l n)
  asked_one (Asked.then {u = u} l r) more (Asked.last n) = absurd (least_left g units bound _ u l n)
  asked_one (Asked.then {t = t} {u = u} l r) more (Asked.then {u = v} {rows = rest} k s) =
      ap (λ (rows : List (List ℕ)). t ∷ rows)
      (asked_one r rest
      (subst (λ (w : List ℕ). Asked g units bound w rest) (least_one g units bound (some t) v u k l) s))

  -- from the start on, too
  pub asked_all_one : (rows more : List (List ℕ)) → AskedAll g units bound rows → AskedAll g units bound more → rows ≡ more
  asked_all_one rows more (AskedAll.nothing n) (AskedAll.nothing m) = refl
  asked_all_one rows more (AskedAll.nothing n) (AskedAll.from {t = t} l s) = absurd (least_left g units bound none t l n)
  asked_all_one rows more (AskedAll.from {t = t} l r) (AskedAll.nothing n) = absurd (least_left g units bound none t l n)
  asked_all_one rows more (AskedAll.from {t = t} l r) (AskedAll.from {t = v} k s) =
      asked_one r more (subst (λ (w : List ℕ). Asked g units bound w more) (least_one g units bound none v t k l) s)

-- ---- the definition's list, and what asking gives
module _ (g : Graph) (sound : Sound g) (units : List ℕ) (bound : ℕ) where
  -- the definition's list has the lawful schedules and no other row
  pub listed_lawful : (t : List ℕ) → Among t (all_lawful g units bound) → Lawful g units bound t
  listed_lawful t m =
      let kept = keep_in (is_lawful g units bound) (words (many g) bound) t m in
      let word = words_in (many g) bound t kept.inside in
      (is_lawful_tells g sound units bound t word.long).yes kept.pass

  -- and all of them
  pub lawful_listed : (t : List ℕ) → Lawful g units bound t → Among t (all_lawful g units bound)
  lawful_listed t h =
      keep_all (is_lawful g units bound) (words (many g) bound) t
      (words_all (many g) bound t (lawful_word g sound units bound t h))
      (tells_true (is_lawful_tells g sound units bound t h.long) h)

  -- in increasing order, each once
  pub listed_rising : Rising (many g) (all_lawful g units bound)
  listed_rising = keep_rising (is_lawful g units bound) (words (many g) bound) (words_rising (many g) bound)

  -- from t on, asking gives what stands behind it
  asked_from : (t : List ℕ) (rows : List (List ℕ)) → Rising (many g) (t ∷ rows)
      → ((u : List ℕ) → Among u rows → Lawful g units bound u)
      → ((u : List ℕ) → Lawful g units bound u → Before (many g) t u → Among u rows)
      → Asked g units bound t (t ∷ rows)
  unfolding Later
  asked_from t [] rise lawful all = Asked.last (record { none_later = λ u h b. absurd (Memᴰ.not-nil (all u h b)) })
  asked_from t (v ∷ rows) rise lawful all =
      let behind = rising_tail rise in
      Asked.then
      (record {
        lawful = lawful v (Memᴰ.head refl);
        later = rising_head rise v (Memᴰ.head refl);
        none_between = λ u h b c.
            ⊎_elim
            (λ e. before_not_self v (subst (λ (w : List ℕ). Before (many g) w v) e c))
            (λ m. before_not_after c (rising_head behind u m))
            (Memᴰ.cases_cons (all u h b));
      })
      (asked_from v rows behind (λ u m. lawful u (Memᴰ.tail m))
      (λ u h b.
      ⊎_elim
      (λ e. absurd (before_not_self v (subst (λ (w : List ℕ). Before (many g) v w) e b)))
      (λ m. m)
      (Memᴰ.cases_cons (all u h (before_trans (rising_head rise v (Memᴰ.head refl)) b)))))

  asked_rows : (rows : List (List ℕ)) → Rising (many g) rows → ((u : List ℕ) → Among u rows → Lawful g units bound u)
      → ((u : List ℕ) → Lawful g units bound u → Among u rows) → AskedAll g units bound rows
  unfolding Later
  asked_rows [] rise lawful all = AskedAll.nothing (record { none_later = λ u h b. absurd (Memᴰ.not-nil (all u h)) })
  asked_rows (t ∷ rows) rise lawful all =
      AskedAll.from
      (record {
        lawful = lawful t (Memᴰ.head refl);
        later = tt;
        none_between = λ u h b c.
            ⊎_elim
            (λ e. before_not_self t (subst (λ (w : List ℕ). Before (many g) w t) e c))
            (λ m. before_not_after c (rising_head rise u m))
            (Memᴰ.cases_cons (all u h));
      })
      (asked_from t rows rise (λ u m. lawful u (Memᴰ.tail m))
      (λ u h b.
      ⊎_elim
      (λ e. absurd (before_not_self t (subst (λ (w : List ℕ). Before (many g) t w) e b)))
      (λ m. m)
      (Memᴰ.cases_cons (all u h))))

  -- from first, asking each time for the next until none is left, gives the definition's list
  pub asked_all : AskedAll g units bound (all_lawful g units bound)
  asked_all = asked_rows (all_lawful g units bound) listed_rising listed_lawful lawful_listed

  -- and no other list
  pub asked_is : (rows : List (List ℕ)) → AskedAll g units bound rows → rows ≡ all_lawful g units bound
  asked_is rows a = asked_all_one g units bound rows (all_lawful g units bound) a asked_all

-- ---- from any row of n numbers: the first of the definition's list that comes after it
unfoldable pub Gets : Graph → List ℕ → ℕ → List ℕ → List (List ℕ) → Type 0
Gets g units bound row [] = NoneLeft g units bound (some row)
Gets g units bound row (t ∷ rest) = Least g units bound (some row) t

module _ (g : Graph) (sound : Sound g) (units : List ℕ) (bound : ℕ) (row : List ℕ) (long : length row ≡ many g) where
  gets : (rows : List (List ℕ)) → Rising (many g) rows → ((u : List ℕ) → Among u rows → Lawful g units bound u × Before (many g) row u)
      → ((u : List ℕ) → Lawful g units bound u → Before (many g) row u → Among u rows) → Gets g units bound row rows
  unfolding Gets Later
  gets [] rise are all = record { none_later = λ u h b. absurd (Memᴰ.not-nil (all u h b)) }
  gets (t ∷ rows) rise are all = record {
    lawful = (are t (Memᴰ.head refl)).0;
    later = (are t (Memᴰ.head refl)).1;
    none_between = λ u h b c.
        ⊎_elim
        (λ e. before_not_self t (subst (λ (w : List ℕ). Before (many g) w t) e c))
        (λ m. before_not_after c (rising_head rise u m))
        (Memᴰ.cases_cons (all u h b));
  }

  -- what is kept of the definition's list behind the row has that schedule in front
  pub next_gets : Gets g units bound row (keep (is_before row) (all_lawful g units bound))
  next_gets =
      gets _ (keep_rising (is_before row) _ (listed_rising g sound units bound))
      (λ u m.
      let kept = keep_in (is_before row) (all_lawful g units bound) u m in
      let lawful = listed_lawful g sound units bound u kept.inside in
      (lawful, (is_before_tells (many g) row u long lawful.long).yes kept.pass))
      (λ u h b.
      keep_all (is_before row) (all_lawful g units bound) u (lawful_listed g sound units bound u h)
      (tells_true (is_before_tells (many g) row u long h.long) b))
