-- The rule as it is told, candidates starting one after another: however the types are interleaved it ends, and it ends at what `stepped` says.
use Rattle.std.specs.Prelude.{◌≡◌, refl, ◌⊎◌, Bool, true, List, eqb, ltb, length, set}
use Rattle.std.proofs.Common.{sym, ap, subst, ◌∙◌, inl, inr, not-suc-le-zero, arith, get_or-set_other}
use Rattle.std.proofs.Math.Logic.{⊎_elim}
use Prim.Native.Nat.{ℕ, zero, suc, ◌+◌, ◌≤◌, ◌<◌}
use Rattle.std.proofs.Math.ListN.{length-set}
use Rattle.std.proofs.Math.Seq.{get_or-set_same}
use borrow.Author.Tests.{eq-eqb, eqb-true, lt-ltb, le-ltb, ltb-true}
use Rattle.maths.specs.Cases.{same_or_not}
use Rattle.maths.specs.Tests.{◌and◌, off, and_true, and_left, and_right, and_right_false}
use Rattle.maths.specs.Rows.{at, same_row}
use Rattle.maths.specs.Count.{count}
use Rattle.maths.specs.Counting.{count_mono, count_cover, count_apart, count_strict, some_or_none, least, rank, rank_lt}
use Rattle.model.specs.Graph.{Graph, many, busy_time, type_of}
use Rattle.model.specs.Rule.{placed, candidate, in_use, ahead, starts_now, stepped, Next, OneByOne, stop, start}
use Rattle.theory.specs.list.OneStep.{uses, uses_is, is_uses, candidate_is, is_candidate, ahead_linear, is_starts, starts_is, starts_unplaced, stepped_long, starts_at, changed, typed, starter, is_starter, filled}

-- some of those that start at the step have started
record Part (g : Graph) (labels units t : List ℕ) (l : ℕ) (x : List ℕ) : Type 0 where
  long : length x ≡ length t
  each : (i : ℕ) → (at x i ≡ at t i) ⊎ ((starts_now g labels units t l i ≡ true) × (at x i ≡ l))

-- of type k, not placed in t, placed in x
abbrev since : Graph → List ℕ → List ℕ → ℕ → ℕ → Bool
since g t x k j = eqb (type_of g j) k and (eqb (at t j) 0 and placed x j)

-- a candidate of type k that is still unplaced in x
abbrev waits : Graph → List ℕ → ℕ → List ℕ → ℕ → ℕ → Bool
waits g t l x k j = typed g t l k j and eqb (at x j) 0

-- one that may start next
record Someone (g : Graph) (labels units t : List ℕ) (l : ℕ) (x : List ℕ) : Type 0 where
  number : ℕ
  next : Next g labels units t l x number

-- the row where starting one after another ends
pub record OneByOneEnds (g : Graph) (labels units t : List ℕ) (l : ℕ) (x : List ℕ) : Type 0 where
  pub row : List ℕ
  pub run : OneByOne g labels units t l x row

module _ (g : Graph) (labels units t : List ℕ) (l : ℕ) (wide : many g ≤ length t) (pos : 1 ≤ l) where
  -- where a candidate waits and its type has a unit free, the first of its type may start
  someone : (x : List ℕ) (i : ℕ) → i < many g → candidate g t l i ≡ true → at x i ≡ 0
      → in_use g x (type_of g i) l < at units (type_of g i) → Someone g labels units t l x
  someone x i b c z room =
      let k = type_of g i in
      let m = least (waits g t l x k) (rank (waits g t l x k) (ahead labels) (many g)) (many g) i b
      (and_true (and_true c (eq-eqb k k refl)) (eq-eqb (at x i) 0 z)) in
      let first = and_left _ _ m.passes in
      let e : type_of g m.place ≡ k = eqb-true (type_of g m.place) k (and_right _ _ first) in
      record {
        number = m.place;
        next = record {
          inside = m.inside;
          candidate_still = candidate_is g t l m.place (and_left _ _ first);
          waiting = eqb-true (at x m.place) 0 (and_right _ _ m.passes);
          first = λ j u cj zj q a.
              let wj = and_true (and_true (is_candidate g t l j cj) (eq-eqb (type_of g j) k (q ∙ e))) (eq-eqb (at x j) 0 zj) in
              omega (
                arith,
                m.low j u wj,
                rank_lt (many g) (waits g t l x k) (ahead labels) (ahead_linear labels) j m.place u wj a,
              );
          room = subst (λ (k : ℕ). in_use g x k l < at units k) (sym e) room;
        };
      }

  -- ---- it ends: each start leaves fewer unplaced
  opens : List ℕ → ℕ → Bool
  opens x i = candidate g t l i and (eqb (at x i) 0 and ltb (in_use g x (type_of g i) l) (at units (type_of g i)))

  unplaced : List ℕ → ℕ → Bool
  unplaced x i = eqb (at x i) 0

  next_opens : (x : List ℕ) (i : ℕ) → Next g labels units t l x i → opens x i ≡ true
  unfolding opens
  next_opens x i n =
      and_true (is_candidate g t l i n.candidate_still)
      (and_true (eq-eqb (at x i) 0 n.waiting) (lt-ltb (in_use g x (type_of g i) l) (at units (type_of g i)) n.room))

  fewer : (x : List ℕ) (i : ℕ) → many g ≤ length x → i < many g → at x i ≡ 0
      → count (unplaced (set x i l)) (many g) < count (unplaced x) (many g)
  unfolding unplaced
  fewer x i room b z =
      let here : at (set x i l) i ≡ l = get_or-set_same x i l 0 (omega arith) in
      count_strict (unplaced (set x i l)) (unplaced x) (many g) i b
      (λ j u h.
      ⊎_elim
      (λ e. eq-eqb (at x j) 0 (ap (at x) e ∙ z))
      (λ n. eq-eqb (at x j) 0 (sym (get_or-set_other x i j l 0 n) ∙ eqb-true (at (set x i l) j) 0 h))
      (same_or_not j i))
      (off _ (λ h. omega (arith, eqb-true (at (set x i l) i) 0 h)))
      (eq-eqb (at x i) 0 z)

  ends : (fuel : ℕ) (x : List ℕ) → many g ≤ length x → count (unplaced x) (many g) < fuel → OneByOneEnds g labels units t l x
  unfolding opens
  ends zero x room b = absurd (not-suc-le-zero b)
  ends (suc fuel) x room b =
      ⊎_elim
      (λ w.
      let rest = and_right _ _ w.passes in
      let k = type_of g w.place in
      let s = someone x w.place w.inside (and_left _ _ w.passes) (eqb-true (at x w.place) 0 (and_left _ _ rest))
      (ltb-true (in_use g x k l) (at units k) (and_right _ _ rest)) in
      let i = s.number in
      let more = ends fuel (set x i l) (omega (arith, length-set x i l))
      (omega (arith, fewer x i room s.next.inside s.next.waiting)) in
      record { row = more.row; run = start {u = more.row} s.next more.run })
      (λ none. record { row = x; run = stop (λ i n. none i n.inside (next_opens x i n)) })
      (some_or_none (opens x) (many g))

  pub one_by_one_ends : OneByOneEnds g labels units t l t
  one_by_one_ends = ends (suc (count (unplaced t) (many g))) t wide (omega arith)

  -- ---- it ends at what `stepped` says
  module _ (busy : (i : ℕ) → i < many g → 1 ≤ busy_time g i) where
    module _ (x : List ℕ) (part : Part g labels units t l x) where
      -- in use: what was, and what has started since
      at_least : (k : ℕ) → in_use g t k l + count (since g t x k) (many g) ≤ in_use g x k l
      at_least k =
          count_apart (uses g x k l) (uses g t k l) (since g t x k) (many g)
          (λ j u h.
          let r = uses_is g t l k j h in
          ⊎_elim
          (λ e.
          is_uses g x l k j
          (record {
            placed = omega (arith, r.placed);
            kind = r.kind;
            begun = omega (arith, r.begun);
            going = omega (arith, r.going);
          }))
          (λ w. absurd (omega (arith, r.placed, starts_unplaced g labels units t l j w.0)))
          (part.each j))
          (λ j u h.
          let z = eqb-true (at t j) 0 (and_left _ _ (and_right _ _ h)) in
          let p = ltb-true 0 (at x j) (and_right _ _ (and_right _ _ h)) in
          ⊎_elim
          (λ e. absurd (omega arith))
          (λ w.
          is_uses g x l k j
          (record {
            placed = p;
            kind = eqb-true (type_of g j) k (and_left _ _ h);
            begun = omega (arith, w.1);
            going = omega (arith, w.1, busy j u);
          }))
          (part.each j))
          (λ j u h q.
          omega
          (arith, (uses_is g t l k j h).placed, eqb-true (at t j) 0 (and_left _ _ (and_right _ _ q))))

      at_most : (k : ℕ) → in_use g x k l ≤ in_use g t k l + count (since g t x k) (many g)
      at_most k =
          count_cover (uses g x k l) (uses g t k l) (since g t x k) (many g)
          (λ j u h.
          let r = uses_is g x l k j h in
          ⊎_elim
          (λ e.
          inl
          (is_uses g t l k j
          (record {
            placed = omega (arith, r.placed);
            kind = r.kind;
            begun = omega (arith, r.begun);
            going = omega (arith, r.going);
          })))
          (λ w.
          inr
          (and_true (eq-eqb (type_of g j) k r.kind)
          (and_true (eq-eqb (at t j) 0 (starts_unplaced g labels units t l j w.0)) (lt-ltb 0 (at x j) r.placed))))
          (part.each j))

      -- who may start next is one that starts at the step
      next_starts : (i : ℕ) → Next g labels units t l x i → starts_now g labels units t l i ≡ true
      next_starts i n =
          let k = type_of g i in
          is_starts g labels units t l i
          (record {
            inside = n.inside;
            may = is_candidate g t l i n.candidate_still;
            room = omega (
              arith,
              n.room,
              at_least k,
              count_mono (λ j. candidate g t l j and (eqb (type_of g j) k and ahead labels j i)) (since g t x k) (many g)
                  (λ j u h.
                  let c = and_left _ _ h in
                  let s = and_left _ _ (and_right _ _ h) in
                  and_true s
                  (and_true (eq-eqb (at t j) 0 (candidate_is g t l j c).unplaced)
                  (lt-ltb 0 (at x j)
                  (let some : at x j ≡ 0 → ⊥ = λ z. n.first j u (candidate_is g t l j c) z (eqb-true (type_of g j) k s) (and_right _ _ (and_right _ _ h)) in
                  omega arith)))),
            );
          })

      part_next : (i : ℕ) → Next g labels units t l x i → Part g labels units t l (set x i l)
      part_next i n = record {
        long = length-set x i l ∙ part.long;
        each = λ j.
            ⊎_elim
            (λ e.
            inr
            (subst (λ (k : ℕ). (starts_now g labels units t l k ≡ true) × (at (set x i l) k ≡ l)) (sym e)
            (next_starts i n, get_or-set_same x i l 0 (omega (arith, n.inside, part.long)))))
            (λ ne.
            let o : at (set x i l) j ≡ at x j = get_or-set_other x i j l 0 ne in
            ⊎_elim (λ e. inl (o ∙ e)) (λ w. inr (w.0, o ∙ w.1)) (part.each j))
            (same_or_not j i);
      }

      -- where none may start, all have started
      all_started : ((i : ℕ) → Next g labels units t l x i → ⊥) → (i : ℕ) → starts_now g labels units t l i ≡ true → at x i ≡ l
      all_started none i h =
          let k = type_of g i in
          let s = starts_is g labels units t l i h in
          ⊎_elim
          (λ e.
          let z : at x i ≡ 0 = e ∙ starts_unplaced g labels units t l i h in
          let fewer_since : count (since g t x k) (many g) < count (starter g labels units t l k) (many g) =
          count_strict (since g t x k) (starter g labels units t l k) (many g) i s.inside
          (λ j u q.
          let zj = eqb-true (at t j) 0 (and_left _ _ (and_right _ _ q)) in
          let pj = ltb-true 0 (at x j) (and_right _ _ (and_right _ _ q)) in
          ⊎_elim
          (λ d. absurd (omega arith))
          (λ w. and_true (and_true (starts_is g labels units t l j w.0).may (and_left _ _ q)) w.0)
          (part.each j))
          (and_right_false (eqb (type_of g i) k) (and_right_false (eqb (at t i) 0) (le-ltb 0 (at x i) (omega arith))))
          (is_starter g labels units t l i h) in
          let found = someone x i s.inside s.may z (omega (arith, at_most k, filled g labels units t l k)) in
          absurd (none found.number found.next))
          (λ w. w.1)
          (part.each i)

      part_end : ((i : ℕ) → Next g labels units t l x i → ⊥) → x ≡ stepped g labels units t l
      part_end none =
          same_row x (stepped g labels units t l) (part.long ∙ sym (stepped_long g labels units t l))
          (λ i u.
          ⊎_elim
          (λ e. ⊎_elim (λ d. e ∙ sym d) (λ v. all_started none i v.0 ∙ sym v.1) (changed g labels units t l i wide))
          (λ w.
          w.1 ∙ sym (starts_at g labels units t l i (omega (arith, (starts_is g labels units t l i w.0).inside)) w.0))
          (part.each i))

    walk : {x u : List ℕ} → Part g labels units t l x → OneByOne g labels units t l x u → u ≡ stepped g labels units t l
    walk {x} part (stop none) = part_end x part none
    walk {x} part (start n more) = walk (part_next x part _ n) more

    -- starting candidates one after another gives exactly the advance
    pub one_by_one : (u : List ℕ) → OneByOne g labels units t l t u → u ≡ stepped g labels units t l
    one_by_one u run = walk (record { long = refl; each = λ i. inl refl }) run
