-- Where walks begin and end, and what a cycle keeps from starting: every kept operation has a kept one behind it.
use Rattle.std.specs.Prelude.{◌≡◌, refl, ◌⊎◌, ℕ, ◌<◌}
use Rattle.std.proofs.Common.{subst, inl, inr, ⊎_elim}
use Rattle.model.specs.Order.{Order, Cyclic, Kept, size, Closed, Edge, Walk, one, more}
use Rattle.model.specs.Cycle.{Behind}

-- an operation on a cycle reaches itself
pub cyclic_kept : {o : Order} (c : Cyclic o) → Kept o c.operation
cyclic_kept c = record { origin = c.operation; around = c.around; reach = c.around }

-- the last edge of a walk, and what comes before it
record Last (o : Order) (i j : ℕ) : Type 0 where
  place : ℕ
  edge : Edge o place j
  way : (i ≡ place) ⊎ Walk o i place

last : {o : Order} {i j : ℕ} → Walk o i j → Last o i j
last (one {i = i} k) = record { place = i; edge = k; way = inl refl }
last {o} (more {i = i} k x) =
    let h = last x in
    record {
      place = h.place;
      edge = h.edge;
      way = inr (⊎_elim (λ e. subst (λ (j : ℕ). Walk o i j) e (one k)) (λ y. more k y) h.way);
    }

-- a kept operation with an edge to i
pub record KeptBehind (o : Order) (i : ℕ) : Type 0 where
  pub operation : ℕ
  pub behind : Behind o i operation

-- every kept operation has a kept predecessor: the last edge of the walk that reaches it leaves one
pub kept_behind : {o : Order} {i : ℕ} → Kept o i → KeptBehind o i
kept_behind {o} k =
    let h = last k.reach in
    record {
      operation = h.place;
      behind = record {
        kept = record {
          origin = k.origin;
          around = k.around;
          reach = ⊎_elim (λ e. subst (λ (j : ℕ). Walk o k.origin j) e k.around) (λ y. y) h.way;
        };
        edge = h.edge;
      };
    }

module _ {heaviest : ℕ} {o : Order} (c : Closed heaviest o) where
  -- an edge enters an operation
  pub edge_target : {i j : ℕ} → Edge o i j → j < size o
  edge_target k = subst (λ (n : ℕ). n < size o) k.enters (c.target_in k.number k.inside)

  -- a walk ends at an operation
  pub walk_target : {i j : ℕ} → Walk o i j → j < size o
  walk_target (one k) = edge_target k
  walk_target (more k x) = walk_target x

  -- what is kept is an operation
  pub kept_inside : {i : ℕ} → Kept o i → i < size o
  kept_inside k = walk_target k.reach
