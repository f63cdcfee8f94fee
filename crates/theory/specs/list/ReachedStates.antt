-- What every state reached from fresh keeps: nothing placed at its step or later, precedence, and never more in use than there are units.
use Rattle.std.specs.Prelude.{◌≡◌, refl, List, length, replicate}
use Rattle.std.proofs.Common.{sym}
use Rattle.std.proofs.Math.Path.{subst}
use Rattle.std.proofs.Math.Logic.{⊎_elim}
use Prim.Native.Nat.{ℕ, zero, suc, ◌+◌, ◌-◌, ◌≤◌, ◌<◌}
use native.Mathlib.Omega.{arith}
use Rattle.std.proofs.lemmas.List.{length-replicate}
use Rattle.maths.specs.Cases.{lt_or_le}
use Rattle.maths.specs.Rows.{at, blank}
use Rattle.maths.specs.Counting.{count_mono, count_zero}
use Rattle.model.specs.Limits as limit
use Rattle.model.specs.Order.{source, target}
use Rattle.model.specs.Graph.{Graph, order, many, edges_of}
use Rattle.model.specs.Rule.{Finished, in_use, stepped, after}
use Rattle.theory.specs.list.OneStep.{uses, uses_is, is_uses, candidate_is, starts_is, stepped_long, changed, kept, units_kept}

-- the starts t before step l
pub record Reached (g : Graph) (units t : List ℕ) (l : ℕ) : Type 0 where
  pub wide : many g ≤ length t
  pub early : (i : ℕ) → i < many g → at t i < l
  pub after : (e : ℕ) → e < edges_of g → 1 ≤ at t (target (order g) e) → Finished g t (at t (target (order g) e)) (source (order g) e)
  pub room : (k m : ℕ) → m < l → in_use g t k m ≤ at units k

-- what is in use at m where all are placed before l, at or before m, was in use at any step between
fewer_later : (g : Graph) (units t : List ℕ) (l k m n : ℕ) → Reached g units t l → l ≤ n + 1 → n ≤ m → in_use g t k m ≤ in_use g t k n
fewer_later g units t l k m n r a b =
    count_mono (uses g t k m) (uses g t k n) (many g)
    (λ i u h.
    let w = uses_is g t m k i h in
    is_uses g t n k i
    (record {
      placed = w.placed;
      kind = w.kind;
      begun = omega (arith, r.early i u);
      going = omega (arith, w.going);
    }))

-- never more in use than there are units, at any step
pub room_always : (g : Graph) (units t : List ℕ) (l : ℕ) → 1 ≤ l → Reached g units t l → (k m : ℕ) → in_use g t k m ≤ at units k
room_always g units t l pos r k m =
    ⊎_elim
    (λ b. r.room k m b)
    (λ b.
    omega
    (arith, fewer_later g units t l k m (l - 1) r (omega arith) (omega arith), r.room k (l - 1) (omega arith)))
    (lt_or_le m l)

module _ (g : Graph) (labels units t : List ℕ) (l : ℕ) (pos : 1 ≤ l) (r : Reached g units t l) where
  next : List ℕ
  next = stepped g labels units t l

  -- before the step nothing changes
  same_before : (k m : ℕ) → m < l → in_use g next k m ≤ in_use g t k m
  unfolding next
  same_before k m b =
      count_mono (uses g next k m) (uses g t k m) (many g)
      (λ i u h.
      let w = uses_is g next m k i h in
      ⊎_elim
      (λ e.
      is_uses g t m k i
      (record {
        placed = omega (arith, w.placed);
        kind = w.kind;
        begun = omega (arith, w.begun);
        going = omega (arith, w.going);
      }))
      (λ v. absurd (omega (arith, w.begun, v.1)))
      (changed g labels units t l i r.wide))

  -- what was over stays over
  still_over : (m i : ℕ) → Finished g t m i → Finished g next m i
  unfolding next
  still_over m i h =
      let e = kept g labels units t l i h.placed in
      record { placed = omega (arith, h.placed); ended = omega (arith, h.ended) }

  -- the rule keeps it
  pub reached_next : Reached g units (stepped g labels units t l) (l + 1)
  unfolding next
  reached_next = record {
    wide = omega (arith, stepped_long g labels units t l, r.wide);
    early = λ i b.
        ⊎_elim
        (λ e. omega (arith, r.early i b))
        (λ w. omega (arith, w.1))
        (changed g labels units t l i r.wide);
    after = λ e b p.
        let j = target (order g) e in
        let i = source (order g) e in
        ⊎_elim
        (λ q. subst (λ (m : ℕ). Finished g next m i) (sym q) (still_over (at t j) i (r.after e b (omega arith))))
        (λ w.
        subst (λ (m : ℕ). Finished g next m i) (sym w.1)
        (still_over l i ((candidate_is g t l j (starts_is g labels units t l j w.0).may).ready e b refl)))
        (changed g labels units t l j r.wide);
    room = λ k m b.
        ⊎_elim
        (λ c. omega (arith, same_before k m c, r.room k m c))
        (λ c.
        let e : l ≡ m = omega arith in
        subst (λ (m : ℕ). in_use g next k m ≤ at units k) e
        (omega (arith, units_kept g labels units t l r.wide k, room_always g units t l pos r k l)))
        (lt_or_le m l);
  }

module _ (g : Graph) (labels units : List ℕ) (few : many g ≤ limit.operations) where
  fresh : Reached g units (replicate limit.operations 0) 1
  fresh =
      let none : (i : ℕ) → at (replicate limit.operations 0) i ≡ 0 = blank limit.operations in
      record {
        wide = omega (arith, length-replicate {A = ℕ} limit.operations 0);
        early = λ i b. omega (arith, none i);
        after = λ e b p. absurd (omega (arith, none (target (order g) e)));
        room = λ k m b.
            omega (
              arith,
              count_zero (uses g (replicate limit.operations 0) k m) (many g)
                  (λ i u h. omega (arith, (uses_is g (replicate limit.operations 0) m k i h).placed, none i)),
            );
      }

  -- after k advances the step is k + 1
  pub reached : (k : ℕ) → Reached g units (after g labels units k) (k + 1)
  unfolding after
  reached zero = fresh
  reached (suc k) =
      let e : k + 1 + 1 ≡ suc k + 1 = omega arith in
      subst (Reached g units (stepped g labels units (after g labels units k) (k + 1))) e
      (reached_next g labels units (after g labels units k) (k + 1) (omega arith) (reached k))
