-- What refusals 1 to 6 leave when they say nothing: a sound graph, room for the answer, and a unit for each type in use.
use Rattle.std.specs.Prelude.{◌≡◌, refl, false, List, [], ◌++◌, ℕ, ◌≤◌, ◌<◌, eqb, length}
use Rattle.std.proofs.Common.{sym, ⊎_elim, arith, ne_eqb}
use Rattle.std.proofs.Math.Logic.{inl, inr}
use Rattle.std.proofs.Math.Option.{Option, none, some}
use Rattle.std.proofs.lemmas.Bool.{eqb-false}
use Rattle.maths.specs.Cases.{at_most, less, equal}
use Rattle.maths.specs.Rows.{at}
use Rattle.maths.specs.Lowest.{None, Lowest}
use Rattle.model.specs.Limits as limit
use Rattle.model.specs.Order.{Order, Closed, turned}
use Rattle.model.specs.Graph.{Graph, Sound, order, many, edges_of, delay, type_of}
use Rattle.model.specs.Refusals.{Check, First, Flat, Large, Uneven, BadOperation, BadEdge, NoUnit, shape, output, unitless}
use Rattle.model.specs.Answers.{LeftBy, RowAfter, Answered}
use Rattle.theory.specs.refusals.FirstRefusal.{at_lowest_none, at_lowest_says, at_lowest_silent, first_head, first_rest, flat_not, flat_says, flat_silent}

-- ---- what keeps a graph from being refused
pub not_large : {g : Graph} → many g ≤ limit.operations → edges_of g ≤ limit.edges → g.kinds ≤ limit.kinds → Large g → ⊥
not_large a b c (Large.operations l) = omega arith
not_large a b c (Large.edges l) = omega arith
not_large a b c (Large.kinds l) = omega arith

pub not_uneven : {g : Graph} {Own : Type 0} → many g ≡ length g.types → edges_of g ≡ length g.to → (Own → ⊥) → Uneven g Own → ⊥
not_uneven a b c (Uneven.types n) = n a
not_uneven a b c (Uneven.ends n) = n b
not_uneven a b c (Uneven.own o) = c o

pub good_operation : {g : Graph} {i : ℕ} → 1 ≤ delay g i → delay g i ≤ limit.longest → type_of g i < g.kinds → BadOperation g i → ⊥
good_operation a b c (BadOperation.short l) = omega arith
good_operation a b c (BadOperation.long l) = omega arith
good_operation a b c (BadOperation.kind l) = omega arith

pub good_edge : {g : Graph} {e : ℕ} → at g.from e < many g → at g.to e < many g → BadEdge g e → ⊥
good_edge a b (BadEdge.from l) = omega arith
good_edge a b (BadEdge.to l) = omega arith

-- ---- the table's first four rows
-- rows that are not uneven match
pub even_types : {g : Graph} {Own : Type 0} → (Uneven g Own → ⊥) → many g ≡ length g.types
even_types even = equal (λ n. even (Uneven.types n))

pub even_ends : {g : Graph} {Own : Type 0} → (Uneven g Own → ⊥) → edges_of g ≡ length g.to
even_ends even = equal (λ n. even (Uneven.ends n))

-- which of them is given
module _ (g : Graph) (Own : Type 0) where
  pub large_says : Large g → First (shape g Own) (some (1, 0))
  unfolding First
  large_says h = inl (flat_says 1 (Large g) h)

  module _ (small : Large g → ⊥) where
    pub uneven_says : Uneven g Own → First (shape g Own) (some (2, 0))
    unfolding First
    uneven_says h = inr (flat_silent 1 _ small, inl (flat_says 2 _ h))

    module _ (even : Uneven g Own → ⊥) where
      pub operation_says : (i : ℕ) → Lowest (BadOperation g) (many g) i → First (shape g Own) (some (3, i))
      unfolding First
      operation_says i low = inr (flat_silent 1 _ small, inr (flat_silent 2 _ even, inl (at_lowest_says 3 _ _ i low)))

      module _ (good : None (BadOperation g) (many g)) where
        pub edge_says : (e : ℕ) → Lowest (BadEdge g) (edges_of g) e → First (shape g Own) (some (4, e))
        unfolding First
        edge_says e low =
            inr (
              flat_silent 1 _ small,
              inr (flat_silent 2 _ even, inr (at_lowest_silent 3 _ _ good, inl (at_lowest_says 4 _ _ e low))),
            )

        pub shape_silent : None (BadEdge g) (edges_of g) → First (shape g Own) none
        unfolding First
        shape_silent inner = (
          flat_silent 1 _ small,
          (flat_silent 2 _ even, (at_lowest_silent 3 _ _ good, (at_lowest_silent 4 _ _ inner, tt))),
        )

-- where they say nothing, the graph is sound
pub sound : (g : Graph) (Own : Type 0) → First (shape g Own) none → Sound g
unfolding First
sound g Own h =
    let small = flat_not 1 (Large g) h.0 in
    let even = flat_not 2 (Uneven g Own) h.1.0 in
    let good = at_lowest_none 3 (many g) (BadOperation g) h.1.1.0 in
    let inner = at_lowest_none 4 (edges_of g) (BadEdge g) h.1.1.1.0 in
    record {
      few = at_most (λ l. small (Large.operations l));
      few_edges = at_most (λ l. small (Large.edges l));
      few_kinds = at_most (λ l. small (Large.kinds l));
      even_types = even_types even;
      even_ends = even_ends even;
      delay_from = λ i l. at_most (λ b. good i l (BadOperation.short b));
      delay_to = λ i l. at_most (λ b. good i l (BadOperation.long b));
      type_in = λ i l. less (λ b. good i l (BadOperation.kind b));
      source_in = λ e l. less (λ b. inner e l (BadEdge.from b));
      target_in = λ e l. less (λ b. inner e l (BadEdge.to b));
    }

-- and the question's own rows match
pub own_not : (g : Graph) (Own : Type 0) → First (shape g Own) none → Own → ⊥
unfolding First
own_not g Own h own = flat_not 2 (Uneven g Own) h.1.0 (Uneven.own own)

-- the other rows are uneven, or the question's own are, in other words
uneven_own : (g : Graph) {P Q : Type 0} → (P → Q) → Uneven g P → Uneven g Q
uneven_own g f (Uneven.types n) = Uneven.types n
uneven_own g f (Uneven.ends n) = Uneven.ends n
uneven_own g f (Uneven.own p) = Uneven.own (f p)

-- a reason in other words
flat_same : {number : ℕ} {P Q : Type 0} → (P → Q) → (n p : ℕ) → Flat number P n p → Flat number Q n p
flat_same f n p h = record { is = h.is; nowhere = h.nowhere; why = f h.why }

-- a mismatch of the question's own rows may be said in other words, whatever follows
pub shape_own_then : (g : Graph) (P Q : Type 0) → (P → Q) → (Q → P) → (rest : List Check) (x : Option (ℕ × ℕ))
    → First (shape g P ++ rest) x → First (shape g Q ++ rest) x
shape_own_then g P Q there back rest x h =
    first_rest _ _ _ x (first_head _ _ _ x (flat_same (uneven_own g there)) (flat_same (uneven_own g back))) h

-- the row is left alike
left_own : (g : Graph) (P Q : Type 0) → (P → Q) → (Q → P) → (rest : List Check) (r : ℕ × ℕ) (before after : List ℕ)
    → LeftBy (shape g P ++ rest) r before after → LeftBy (shape g Q ++ rest) r before after
unfolding LeftBy
left_own g P Q there back rest r before after h =
    ⊎_elim
    (λ k. inl k)
    (λ k.
    inr (
      k.0,
      ⊎_elim
          (λ m. inl (flat_same (uneven_own g there) _ _ m.0, m.1))
          (λ m. inr (λ n p s. m.0 n p (flat_same (uneven_own g back) n p s), m.1))
          k.1,
    ))
    h

row_own : (g : Graph) (P Q : Type 0) → (P → Q) → (Q → P) → (rest : List Check) (before : List ℕ) (Given : List ℕ → Type 0) (x : Option (ℕ × ℕ)) (after : List ℕ)
    → RowAfter (shape g P ++ rest) before Given x after → RowAfter (shape g Q ++ rest) before Given x after
unfolding RowAfter
row_own g P Q there back rest before Given none after h = h
row_own g P Q there back rest before Given (some r) after h = left_own g P Q there back rest r before after h

-- so the whole answer may be said in other words
pub answered_own : (g : Graph) (P Q : Type 0) → (P → Q) → (Q → P) → (rest : List Check) (before : List ℕ) (Given : List ℕ → Type 0) (x : Option (ℕ × ℕ)) (after : List ℕ)
    → Answered (shape g P ++ rest) before Given x after → Answered (shape g Q ++ rest) before Given x after
answered_own g P Q there back rest before Given x after h = record {
  first = shape_own_then g P Q there back rest x h.first;
  row = row_own g P Q there back rest before Given x after h.row;
}

-- the same with nothing after it
pub shape_own : (g : Graph) (P Q : Type 0) → (P → Q) → (Q → P) → (x : Option (ℕ × ℕ)) → First (shape g P) x → First (shape g Q) x
shape_own g P Q there back x h = shape_own_then g P Q there back [] x h

-- where the question's own rows are one whose length must be another's: a test may tell that it is not, and where nothing is said it is
module _ (g : Graph) (a b : ℕ) where
  pub shape_test_then : (rest : List Check) (x : Option (ℕ × ℕ)) → First (shape g (eqb a b ≡ false) ++ rest) x → First (shape g (a ≡ b → ⊥) ++ rest) x
  shape_test_then rest x h = shape_own_then g (eqb a b ≡ false) (a ≡ b → ⊥) (eqb-false a b) (ne_eqb a b) rest x h

  pub own_equal : First (shape g (a ≡ b → ⊥)) none → a ≡ b
  own_equal h = equal (own_not g (a ≡ b → ⊥) h)

-- ---- the fifth and the sixth
-- where the fifth says nothing, the output has room
pub room_enough : (g : Graph) (room : ℕ) → First (output g room) none → many g ≤ room
unfolding First
room_enough g room h = at_most (flat_not 5 (room < many g) h.0)

-- where the sixth says nothing, each operation's type has a unit
pub has_unit : (g : Graph) (units : List ℕ) → Sound g → First (unitless g units) none → (i : ℕ) → i < many g → 1 ≤ at units (type_of g i)
unfolding First
has_unit g units s h i l =
    less
    (λ z.
    at_lowest_none 6 g.kinds (NoUnit g units) h.0 (type_of g i) (s.type_in i l)
    (record { none = omega arith; user = i; inside = l; uses = refl }))

-- ---- what precedence reads of a sound graph
-- it has all that the definitions over an order lean on
pub closed : (g : Graph) → Sound g → Closed limit.longest (order g)
closed g s = record {
  few = s.few;
  few_edges = s.few_edges;
  even = sym s.even_ends;
  source_in = s.source_in;
  target_in = s.target_in;
  positive = s.delay_from;
  small = s.delay_to;
}

-- the other way round the same holds
pub closed_turned : {heaviest : ℕ} (o : Order) → Closed heaviest o → Closed heaviest (turned o)
closed_turned o c = record {
  few = c.few;
  few_edges = omega (arith, c.few_edges, c.even);
  even = sym c.even;
  source_in = λ e l. c.target_in e (omega (arith, c.even));
  target_in = λ e l. c.source_in e (omega (arith, c.even));
  positive = c.positive;
  small = c.small;
}

-- and a heavier weight may be allowed
pub closed_heavier : {light heavy : ℕ} (o : Order) → light ≤ heavy → Closed light o → Closed heavy o
closed_heavier o l c = record {
  few = c.few;
  few_edges = c.few_edges;
  even = c.even;
  source_in = c.source_in;
  target_in = c.target_in;
  positive = c.positive;
  small = λ i m. omega (arith, c.small i m);
}
