-- A walk along the links: from the last edge with an end back to the first. What holds of each edge passed holds of all when the walk ends.
use Rattle.std.specs.Prelude.{◌≡◌, List, ℕ, zero, suc, ◌+◌, ◌-◌, ◌≤◌, ◌<◌, length, Option, Some, None}
use Rattle.std.proofs.Common.{sym, ap, refl, subst, ◌∙◌, ⊎_elim, arith}
use Rattle.maths.specs.Cases.{same_or_not, lt_or_le}
use Rattle.maths.specs.Rows.{at}
use Rattle.model.specs.Limits as limit
use Rattle.model.specs.Order.{Order, edge_count, source, Closed}
use Rattle.edge_links.specs.Linking.{LinkableEnds, of_operation, of_edge, LastAt, Linked, edge_of, link_of}

-- P holds of the edges past the link whose end is i, and the link leads to the one to pass next
pub record WalkedBack (ends : List ℕ) (i : ℕ) (P : ℕ → Type 0) (link : ℕ) : Type 0 where
  pub within : link ≤ length ends
  pub is : (k : ℕ) → k + 1 ≡ link → at ends k ≡ i
  pub each : (k : ℕ) → link ≤ k → k < length ends → at ends k ≡ i → P k

-- what holds of the edges passed may be said in other words
pub walked_back_as : {ends : List ℕ} {i : ℕ} {P Q : ℕ → Type 0} {link : ℕ} → ((k : ℕ) → P k → Q k) → WalkedBack ends i P link → WalkedBack ends i Q link
walked_back_as f h = record { within = h.within; is = h.is; each = λ k a b q. f k (h.each k a b q) }

-- the targets of a closed order can be linked
pub targets : {o : Order} {heaviest : ℕ} → Closed heaviest o → LinkableEnds o.to
targets c = record {
  few = omega (arith, c.few_edges, c.even);
  inside = λ e l. omega (arith, c.target_in e (omega (arith, c.even)), c.few);
}

-- an edge of it leaves within the rows of operations
pub source_room : {o : Order} {heaviest : ℕ} → Closed heaviest o → (e : ℕ) → e < edge_count o → source o e < limit.operations
source_room c e l = omega (arith, c.few, c.source_in e l)

-- an operation's link leads to one of the edges
pub operation_low : {ends links : List ℕ} → Linked ends links → (i : ℕ) → i < limit.operations → of_operation links i ≤ length ends
operation_low all i l = (all.lasts i l).within

-- the walk begins at the operation's link: no edge past it has that end
pub walked_back_none : {ends links : List ℕ} {P : ℕ → Type 0} → Linked ends links → (i : ℕ) → i < limit.operations → WalkedBack ends i P (of_operation links i)
walked_back_none all i l =
    let h = all.lasts i l in
    record { within = h.within; is = h.is; each = λ k a b q. absurd (h.none k a b q) }

module _ {ends : List ℕ} {i : ℕ} {P : ℕ → Type 0} {link : ℕ} (h : WalkedBack ends i P link) where
  -- at the end no edge is left
  pub walked_back_end : link ≡ 0 → (k : ℕ) → k < length ends → at ends k ≡ i → P k
  walked_back_end z k l q = h.each k (omega arith) l q

  module _ (more : link ≡ 0 → ⊥) where
    -- the next edge is one of the edges
    pub walked_back_inside : link - 1 < length ends
    walked_back_inside = omega (arith, h.within)

    -- and its end is i
    pub walked_back_at : at ends (link - 1) ≡ i
    walked_back_at = h.is (link - 1) (omega arith)

    module _ {links : List ℕ} (all : Linked ends links) where
      -- its own link is the last below it with the same end
      behind : LastAt ends i (link - 1) (of_edge links (link - 1))
      behind = subst (λ (x : ℕ). LastAt ends x (link - 1) (of_edge links (link - 1))) walked_back_at (all.befores (link - 1) walked_back_inside)

      -- so the walk goes back
      pub walked_back_falls : of_edge links (link - 1) < link
      walked_back_falls = omega (arith, behind.within)

      -- the edge is passed: none between it and the next has that end
      pub walked_back_step : P (link - 1) → WalkedBack ends i P (of_edge links (link - 1))
      walked_back_step here = record {
        within = omega (arith, walked_back_falls, h.within);
        is = behind.is;
        each = λ k a b q.
            ⊎_elim
            (λ l. absurd (behind.none k a l q))
            (λ l.
            ⊎_elim
            (λ e. subst P (sym e) here)
            (λ n. h.each k (omega arith) b q)
            (same_or_not k (link - 1)))
            (lt_or_le k (link - 1));
      }

-- the edge that a link leads to has that link
pub link_of_edge_of : (link : ℕ) → link_of (edge_of link) ≡ link
link_of_edge_of zero = refl
link_of_edge_of (suc e) = omega arith

-- an edge of a closed order may be asked for the one before it
pub edge_room : {o : Order} {heaviest : ℕ} → Closed heaviest o → {e : ℕ} → e < edge_count o → e < limit.edges
edge_room c l = omega (arith, c.few_edges)

-- the walk begins at the operation's last edge
pub walk_begins : {ends links : List ℕ} {P : ℕ → Type 0} {edge : Option ℕ} → Linked ends links → (i : ℕ) → i < limit.operations
    → edge ≡ edge_of (of_operation links i) → WalkedBack ends i P (link_of edge)
walk_begins {ends} {links} {P} {edge} all i l first =
    let from : of_operation links i ≡ link_of edge = sym (ap link_of first ∙ link_of_edge_of (of_operation links i)) in
    subst (WalkedBack ends i P) from (walked_back_none all i l)

module _ {ends : List ℕ} {i : ℕ} {P : ℕ → Type 0} {edge : Option ℕ} (h : WalkedBack ends i P (link_of edge)) where
  -- where none is left, P holds of each edge with that end
  pub walk_ends : edge ≡ None → (k : ℕ) → k < length ends → at ends k ≡ i → P k
  walk_ends none = walked_back_end h (ap link_of none)

  module _ {e : ℕ} (here : edge ≡ Some e) where
    -- its link is counted from 1
    counted : link_of edge ≡ e + 1
    counted = ap link_of here

    -- the edge to pass is one of the edges
    pub walk_inside : e < length ends
    walk_inside = omega (arith, h.within, counted)

    -- and its end is i
    pub walk_at : at ends e ≡ i
    walk_at = h.is e (sym counted)

    module _ {links : List ℕ} {next : Option ℕ} (all : Linked ends links) (before : next ≡ edge_of (of_edge links e)) where
      -- the next one has the link of this one
      onward : link_of next ≡ of_edge links e
      onward = ap link_of before ∙ link_of_edge_of (of_edge links e)

      -- this edge, as the laws of links name it
      this : link_of edge - 1 ≡ e
      this = omega (arith, counted)

      -- so the walk goes back
      pub walk_falls : link_of next < link_of edge
      walk_falls =
          omega (arith, onward, counted, (all.befores e walk_inside).within)

      -- the edge is passed
      pub walk_step : P e → WalkedBack ends i P (link_of next)
      walk_step holds =
          rw onward
          (subst (λ (x : ℕ). WalkedBack ends i P (of_edge links x)) this
          (walked_back_step h (λ z. absurd (omega (arith, counted))) all (subst P (sym this) holds)))
