-- The walk of `is_candidate`: where every predecessor passed is over and the walk ends, the operation is a candidate; where one is not, it is none.
use Rattle.std.specs.Prelude.{◌≡◌, true, false, List, ℕ, ◌+◌, ◌≤◌, length, Option, Some, None}
use Rattle.std.proofs.Common.{sym, arith}
use Rattle.maths.specs.Tests.{off}
use Rattle.maths.specs.Rows.{at}
use Rattle.model.specs.Graph.{Graph, edges_of}
use Rattle.model.specs.Rule.{candidate}
use Rattle.theory.specs.list.OneStep.{candidate_is, is_candidate}
use Rattle.edge_links.specs.Linking.{link_of}
use Rattle.edge_links.specs.WalkedBack.{WalkedBack, walk_at, walk_inside, walk_ends}

-- the edge leaves an operation that is over
pub record Clear (delays from t : List ℕ) (l e : ℕ) : Type 0 where
  pub placed : 1 ≤ at t (at from e)
  pub ended : at t (at from e) + at delays (at from e) ≤ l

module _ (g : Graph) (t : List ℕ) (l i : ℕ) where
  -- what is placed is no candidate
  pub placed_no_candidate : (at t i ≡ 0 → ⊥) → false ≡ candidate g t l i
  placed_no_candidate n = sym (off (candidate g t l i) (λ c. n (candidate_is g t l i c).unplaced))

  module _ (even : length g.to ≡ edges_of g) {edge : Option ℕ} (h : WalkedBack g.to i (Clear g.delays g.from t l) (link_of edge)) where
    -- what an operation that is not over enters is none either
    pub held_none : {e : ℕ} → edge ≡ Some e → (Clear g.delays g.from t l e → ⊥) → false ≡ candidate g t l i
    held_none {e} here n =
        sym
        (off (candidate g t l i)
        (λ c.
        let o = (candidate_is g t l i c).ready e (omega (arith, walk_inside h here)) (walk_at h here) in
        n (record { placed = o.placed; ended = o.ended })))

    -- every predecessor is over
    pub cleared : at t i ≡ 0 → edge ≡ None → true ≡ candidate g t l i
    cleared unplaced last =
        sym
        (is_candidate g t l i
        (record {
          unplaced = unplaced;
          ready = λ e b q.
              let c = walk_ends h last e (omega arith) q in
              record { placed = c.placed; ended = c.ended };
        }))
