-- The lowest type in use that has no unit, over the operations passed.
use Rattle.std.specs.Prelude.{◌≡◌, refl, ◌⊎◌, List, ℕ, ◌+◌, ◌≤◌, ◌<◌, length, Option, None as Nothing, Some}
use Rattle.std.proofs.Common.{sym, ◌∙◌, ap, inl, inr, ⊎_elim, arith}
use Rattle.maths.specs.Cases.{lt_or_le}
use Rattle.maths.specs.Rows.{at}
use Rattle.maths.specs.Lowest.{None}
use Rattle.maths.specs.Search.{LowestIf}
use Rattle.model.specs.Graph.{lent}
use Rattle.model.specs.Refusals.{NoUnit}

-- one of the first i operations is of type k, and that has no unit
pub record User (types units : List ℕ) (i k : ℕ) : Type 0 where
  pub operation : ℕ
  pub inside : operation < i
  pub uses : at types operation ≡ k
  pub none : at units k ≡ 0

module _ {types units : List ℕ} where
  -- with one operation more, a type that is used without a unit was so before, or is that operation's
  user_more : {i k : ℕ} → User types units (i + 1) k → User types units i k ⊎ ((at types i ≡ k) × (at units (at types i) ≡ 0))
  user_more {i} {k} u =
      ⊎_elim
      (λ l. inl (record { operation = u.operation; inside = l; uses = u.uses; none = u.none }))
      (λ m.
      let e : u.operation ≡ i = omega (arith, u.inside) in
      let own : at types i ≡ k = ap (at types) (sym e) ∙ u.uses in
      inr (own, ap (at units) own ∙ u.none))
      (lt_or_le u.operation i)

  -- below a number that is not above that operation's type, where this has no unit, there is still none
  none_more : {i n : ℕ} → None (User types units i) n → (at units (at types i) ≡ 0 → n ≤ at types i) → None (User types units (i + 1)) n
  none_more h above k l u = ⊎_elim (h k l) (λ p. absurd (omega (arith, p.0, above p.1))) (user_more u)

-- `lowest` is the lowest such type of the first i operations, or the number of types
pub record SoFar (types units : List ℕ) (kinds lowest i : ℕ) : Type 0 where
  pub within : lowest ≤ kinds
  pub found : lowest < kinds → User types units i lowest
  pub none_before : None (User types units i) lowest

-- the operation's type becomes the lowest, where it has no unit and is below what was found
pub so_far_own : {types units : List ℕ} {kinds lowest i : ℕ} → SoFar types units kinds lowest i → at units (at types i) ≡ 0
    → at types i < lowest
    → SoFar types units kinds (at types i) (i + 1)
so_far_own {types} {units} {kinds} {lowest} {i} h z b = record {
  within = omega (arith, h.within);
  found = λ l. record { operation = i; inside = omega arith; uses = refl; none = z };
  none_before = none_more (λ k l. h.none_before k (omega arith)) (λ e. omega arith);
}

-- what was found stays, where the operation's type has a unit or is not below it
pub so_far_kept : {types units : List ℕ} {kinds lowest i : ℕ} → SoFar types units kinds lowest i
    → (at units (at types i) ≡ 0 → lowest ≤ at types i)
    → SoFar types units kinds lowest (i + 1)
so_far_kept h above = record {
  within = h.within;
  found = λ l. let u = h.found l in record { operation = u.operation; inside = omega (arith, u.inside); uses = u.uses; none = u.none };
  none_before = none_more h.none_before above;
}

-- what was found, where there is one
pub so_far_some : {types units : List ℕ} {kinds lowest i : ℕ} → SoFar types units kinds lowest i → lowest < kinds → LowestIf (User types units i) kinds (Some lowest)
so_far_some h l = record { inside = l; holds = h.found l; none_before = h.none_before }

-- none was found
pub so_far_nothing : {types units : List ℕ} {kinds lowest i : ℕ} → SoFar types units kinds lowest i → kinds ≤ lowest → LowestIf (User types units i) kinds Nothing
so_far_nothing h l = λ k m. h.none_before k (omega arith)

-- all operations are passed: what was found is the lowest type in use that has no unit
pub lowest_end : (delays types units from to : List ℕ) (kinds : ℕ) (r : Option ℕ) → LowestIf (User types units (length delays)) kinds r
    → LowestIf (NoUnit (lent delays types kinds from to) units) kinds r
lowest_end delays types units from to kinds Nothing h =
    λ k l u. h k l (record { operation = u.user; inside = u.inside; uses = u.uses; none = u.none })
lowest_end delays types units from to kinds (Some r) h = record {
  inside = h.inside;
  holds = record { none = h.holds.none; user = h.holds.operation; inside = h.holds.inside; uses = h.holds.uses };
  none_before = λ k l u. h.none_before k l (record { operation = u.user; inside = u.inside; uses = u.uses; none = u.none });
}
