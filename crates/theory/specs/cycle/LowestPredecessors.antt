-- The lowest kept predecessor of each operation, found edge by edge.
use Rattle.std.specs.Prelude.{◌≡◌, List, ℕ, ◌+◌, ◌≤◌, ◌<◌, length, set, replicate}
use Rattle.std.proofs.Common.{sym, ap, subst, ◌∙◌, ⊎_elim, arith, length-set, get_or-set_same, get_or-set_other}
use Rattle.std.proofs.lemmas.List.{length-replicate, get_or-replicate}
use Rattle.maths.specs.Cases.{same_or_not, lt_or_le}
use Rattle.maths.specs.Rows.{at}
use Rattle.model.specs.Limits as limit
use Rattle.model.specs.Order.{Order, size, edge_count, Closed, Kept}
use Rattle.model.specs.Cycle.{Behind, Back}
use Rattle.theory.specs.order.KeptOperations.{kept_behind, kept_inside}

-- of the edges before e, one leads from j, which has P, to i
pub record Entered (from to : List ℕ) (P : ℕ → Type 0) (i j e : ℕ) : Type 0 where
  pub number : ℕ
  pub inside : number < e
  pub leaves : at from number ≡ j
  pub enters : at to number ≡ i
  pub holds : P j

-- after e edges: for each operation the lowest with P that leads to it, and the limit where there is none
pub record Backed (from to : List ℕ) (P : ℕ → Type 0) (back : List ℕ) (e : ℕ) : Type 0 where
  pub long : length back ≡ limit.operations
  pub low : (d : ℕ) → d < e → P (at from d) → at back (at to d) ≤ at from d
  pub found : (i : ℕ) → i < limit.operations → at back i < limit.operations → Entered from to P i (at back i) e

-- the lower of an old number and a new one, where the new one counts only under P
pub record Lower (P : Type 0) (new old r : ℕ) : Type 0 where
  pub under_old : r ≤ old
  pub under_new : P → r ≤ new
  pub is_new : r < old → r ≡ new
  pub has : r < old → P

module _ {from to : List ℕ} {P : ℕ → Type 0} where
  pub backed_none : Backed from to P (replicate limit.operations limit.operations) 0
  backed_none = record {
    long = length-replicate {A = ℕ} limit.operations limit.operations;
    low = λ d l. absurd (omega arith);
    found = λ i l m. absurd (omega (arith, get_or-replicate limit.operations i limit.operations 0 l));
  }

  entered_more : {i j k e : ℕ} → j ≡ k → Entered from to P i j e → Entered from to P i k (e + 1)
  entered_more q h = record {
    number = h.number;
    inside = omega (arith, h.inside);
    leaves = h.leaves ∙ q;
    enters = h.enters;
    holds = subst P q h.holds;
  }

  pub backed_step : {back : List ℕ} {e v : ℕ} → Backed from to P back e → at to e < limit.operations
      → Lower (P (at from e)) (at from e) (at back (at to e)) v → Backed from to P (set back (at to e) v) (e + 1)
  backed_step {back} {e} {v} h l lower =
      let t : ℕ = at to e in
      let back' : List ℕ = set back t v in
      let hit : at back' t ≡ v = get_or-set_same back t v 0 (omega (arith, h.long)) in
      let miss : (i : ℕ) → (i ≡ t → ⊥) → at back i ≡ at back' i = λ i x. sym (get_or-set_other back t i v 0 x) in
      record {
        long = length-set back t v ∙ h.long;
        low = λ d m p.
            ⊎_elim
            (λ x.
            ⊎_elim
            (λ q. omega (arith, ap (at back') q, hit, lower.under_old, ap (at back) q, h.low d x p))
            (λ q. omega (arith, miss (at to d) q, h.low d x p))
            (same_or_not (at to d) t))
            (λ x.
            let q : d ≡ e = omega arith in
            omega (arith, ap (λ (k : ℕ). at back' (at to k)) q, hit, ap (at from) q, lower.under_new (subst (λ (k : ℕ). P (at from k)) q p)))
            (lt_or_le d e);
        found = λ i m r.
            ⊎_elim
            (λ q.
            let is : at back' i ≡ v = ap (at back') q ∙ hit in
            ⊎_elim
            (λ x. record {
              number = e;
              inside = omega arith;
              leaves = sym (is ∙ lower.is_new x);
              enters = sym q;
              holds = subst P (sym (is ∙ lower.is_new x)) (lower.has x);
            })
            (λ x.
            let old : at back i ≡ at back' i = omega (arith, lower.under_old, is, ap (at back) q) in
            entered_more old (h.found i m (omega arith)))
            (lt_or_le v (at back t)))
            (λ q. entered_more (miss i q) (h.found i m (omega (arith, miss i q))))
            (same_or_not i t);
      }

-- a row that leads from each kept operation to its lowest kept predecessor
pub record Leads (o : Order) (back : List ℕ) : Type 0 where
  pub each : (i : ℕ) → Kept o i → Back o i (at back i)

module _ {heaviest : ℕ} {o : Order} {P : ℕ → Type 0} {back : List ℕ} (closed : Closed heaviest o) (there : (j : ℕ) → j < size o → P j → Kept o j) (here : (j : ℕ) → Kept o j → P j)
    (h : Backed o.from o.to P back (edge_count o)) where
  backed_under : (i j : ℕ) → Behind o i j → at back i ≤ j
  backed_under i j b =
      let e = b.edge in
      omega (arith, ap (at back) e.enters, e.leaves, h.low e.number e.inside (subst P (sym e.leaves) (here j b.kept)))

  -- after all edges, where exactly the kept have P, the row leads back
  pub backed_end : Leads o back
  backed_end = record {
    each = λ i k.
        let b = kept_behind k in
        let low : at back i < size o = omega (arith, backed_under i b.operation b.behind, kept_inside closed b.behind.kept) in
        let f = h.found i (omega (arith, kept_inside closed k, closed.few)) (omega (arith, closed.few)) in
        record {
          inside = low;
          holds = record {
            kept = there (at back i) low f.holds;
            edge = record { number = f.number; inside = f.inside; leaves = f.leaves; enters = f.enters };
          };
          none_before = λ j l x. omega (arith, backed_under i j x);
        };
  }
