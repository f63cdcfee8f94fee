-- The loop of `link`: the edges below e are linked. An edge becomes the last of its end alone, and keeps the one that was the last before.
use mathlib.Core.Path.{◌≡◌, refl, sym, subst, ◌∙◌}
use mathlib.Core.Logic.{⊎_elim}
use mathlib.Core.List.{List}
use Prim.Native.Nat.{ℕ, ◌+◌, ◌≤◌, ◌<◌}
use native.Mathlib.Omega.{arith}
use borrow.Author.Count.{below_more}
use lib.ListN.{length, set, length-set, replicate, length-replicate}
use lib.Seq.{get_or-set_same, get_or-set_other}
use Rattle.maths.specs.Cases.{same_or_not}
use Rattle.maths.specs.Rows.{at, blank}
use Rattle.model.specs.Limits as limit
use Rattle.edge_links.specs.Linking.{LinkableEnds, of_operation, of_edge, LastAt, Linked}

module _ {ends : List ℕ} {i : ℕ} where
  -- no edge lies below 0
  last_none : LastAt ends i 0 0
  last_none = record { within = omega arith; is = λ k q. absurd (omega arith); none = λ k a b. absurd (omega arith) }

  -- the end of edge e is i: it is the last
  last_here : (e : ℕ) → at ends e ≡ i → LastAt ends i (e + 1) (e + 1)
  last_here e q = record {
    within = omega arith;
    is = λ k r. let y : e ≡ k = omega arith in subst (λ (x : ℕ). at ends x ≡ i) y q;
    none = λ k a b. absurd (omega arith);
  }

  -- it is another: the last stays
  last_other : {e c : ℕ} → LastAt ends i e c → (at ends e ≡ i → ⊥) → LastAt ends i (e + 1) c
  last_other {e} {c} h n = record {
    within = omega (arith, h.within);
    is = h.is;
    none = λ k a b q.
        ⊎_elim
        (λ y. n (subst (λ (x : ℕ). at ends x ≡ i) y q))
        (λ y. h.none k a (omega arith) q)
        (same_or_not k e);
  }

-- what the loop knows before edge e
pub record Linking (ends : List ℕ) (e : ℕ) (links : List ℕ) : Type 0 where
  pub within : e ≤ length ends
  pub long : length links ≡ limit.operations + limit.edges
  pub lasts : (i : ℕ) → i < limit.operations → LastAt ends i e (of_operation links i)
  pub befores : (k : ℕ) → k < e → LastAt ends (at ends k) k (of_edge links k)
  pub rest : (k : ℕ) → e ≤ k → of_edge links k ≡ 0

-- two entries changed: where neither stands, the row is as before
twice : (row : List ℕ) (a b v w i : ℕ) → (i ≡ a → ⊥) → (i ≡ b → ⊥) → at (set (set row a v) b w) i ≡ at row i
twice row a b v w i m n = get_or-set_other (set row a v) b i w 0 n ∙ get_or-set_other row a i v 0 m

module _ {ends : List ℕ} where
  -- nothing is linked
  pub linking_none : Linking ends 0 (replicate (limit.operations + limit.edges) 0)
  linking_none = record {
    within = omega arith;
    long = length-replicate {A = ℕ} (limit.operations + limit.edges) 0;
    lasts = λ i l. subst (LastAt ends i 0) (sym (blank (limit.operations + limit.edges) i)) last_none;
    befores = λ k l. absurd (omega arith);
    rest = λ k l. blank (limit.operations + limit.edges) (limit.operations + k);
  }

  module _ {e : ℕ} {links : List ℕ} (all : LinkableEnds ends) (h : Linking ends e links) (l : e < length ends) where
    -- the edge's end, its own place, and the row with both links written
    abbrev end : ℕ
    end = at ends e

    abbrev own : ℕ
    own = limit.operations + e

    abbrev written : List ℕ
    written = set (set links own (at links end)) end (e + 1)

    inside : end < limit.operations
    inside = all.inside e l

    at_end : at written end ≡ e + 1
    at_end =
        get_or-set_same (set links own (at links end)) end (e + 1) 0
        (omega (arith, length-set links own (at links end), h.long, inside))

    at_own : at written own ≡ at links end
    at_own =
        get_or-set_other (set links own (at links end)) end own (e + 1) 0 (λ y. absurd (omega (arith, inside)))
        ∙ get_or-set_same links own (at links end) 0 (omega (arith, h.long, all.few))

    -- edge e is linked
    pub linking_step : Linking ends (e + 1) written
    linking_step = record {
      within = omega arith;
      long = length-set (set links own (at links end)) end (e + 1) ∙ length-set links own (at links end) ∙ h.long;
      lasts = λ i a.
          ⊎_elim
          (λ y. subst (λ (x : ℕ). LastAt ends x (e + 1) (at written x)) y (rw at_end (last_here e refl)))
          (λ n.
          rw (twice links own end (at links end) (e + 1) i (λ y. absurd (omega arith)) (λ y. n (sym y))) (last_other (h.lasts i a) n))
          (same_or_not end i);
      befores =
          below_more (λ k. LastAt ends (at ends k) k (of_edge written k)) e
          (λ k a.
          rw
          (twice links own end (at links end) (e + 1) (limit.operations + k) (λ y. absurd (omega arith)) (λ y. absurd (omega (arith, inside))))
          (h.befores k a))
          (rw at_own (h.lasts end inside));
      rest = λ k a.
          twice links own end (at links end) (e + 1) (limit.operations + k) (λ y. absurd (omega arith)) (λ y. absurd (omega (arith, inside)))
          ∙ h.rest k (omega arith);
    }

  -- every edge is linked
  pub linking_end : {e : ℕ} {links : List ℕ} → Linking ends e links → length ends ≤ e → Linked ends links
  linking_end {e} {links} h l =
      let q : e ≡ length ends = omega (arith, h.within) in
      record {
        long = h.long;
        lasts = λ i a. subst (λ (x : ℕ). LastAt ends i x (of_operation links i)) q (h.lasts i a);
        befores = λ k a. h.befores k (omega arith);
        rest = λ k a. h.rest k (omega arith);
      }
