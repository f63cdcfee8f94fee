-- Where an output row is lent, a cycle fills its first entries and the rest stays; any other refusal writes nothing. So of every question that lends one.
use Rattle.std.specs.Prelude.{◌≡◌, ◌⊎◌, List, [], ◌∷◌, ◌++◌, ℕ}
use Rattle.std.proofs.Common.{sym, inl, inr, ⊎_elim, arith}
use Rattle.std.proofs.Math.Option.{Option, some}
use Rattle.model.specs.Order.{Order}
use Rattle.model.specs.Graph.{Graph, order}
use Rattle.model.specs.Cycle.{Shown}
use Rattle.model.specs.Refusals.{Check, unwritten, Flat, AtLowest, shape, output, unitless, cyclic, large_bound, late_bound, many_windows}
use Rattle.model.specs.Checks.{asap_checks, alap_checks, list_checks, lister_checks}
use Rattle.model.specs.Answers.{Fills, Leaves, LeftBy, RowAfter, Answered}

-- a check that says another number than 7 and writes nothing
record Plain (R : Check) : Type 0 where
  other : (place : ℕ) → R.says 7 place → ⊥
  stays : (before after : List ℕ) → Leaves R.writes before after → after ≡ before

-- a check that says 7 and writes the cycle shown
record Seventh (o : Order) (R : Check) : Type 0 where
  seven : (number place : ℕ) → R.says number place → number ≡ 7
  fills : (before after : List ℕ) → Leaves R.writes before after → Fills (Shown o) before after

-- each check is one or the other
unfoldable Each : Order → List Check → Type 0
Each o [] = Unit {0}
Each o (R ∷ rest) = (Plain R ⊎ Seventh o R) × Each o rest

-- so the seventh writes the cycle
seventh_writes : (o : Order) (checks : List Check) → Each o checks → (place : ℕ) (before after : List ℕ) → LeftBy checks (7, place) before after
    → Fills (Shown o) before after
unfolding Each LeftBy
seventh_writes o [] each place before after h = absurd h
seventh_writes o (R ∷ rest) each place before after h =
    ⊎_elim
    (λ k. ⊎_elim (λ p. absurd (p.other place k.0)) (λ s. s.fills before after k.1) each.0)
    (λ k. seventh_writes o rest each.1 place before after k.1)
    h

-- and the others leave the row
others_stay : (o : Order) (checks : List Check) → Each o checks → (r : ℕ × ℕ) (before after : List ℕ) → (r.0 ≡ 7 → ⊥) → LeftBy checks r before after
    → after ≡ before
unfolding Each LeftBy
others_stay o [] each r before after not h = absurd h
others_stay o (R ∷ rest) each r before after not h =
    ⊎_elim
    (λ k. ⊎_elim (λ p. p.stays before after k.1) (λ s. absurd (not (s.seven r.0 r.1 k.0))) each.0)
    (λ k. others_stay o rest each.1 r before after not k.1)
    h

-- what a question with an output row leaves when it is refused
pub record Written (o : Order) (checks : List Check) : Type 1 where
  pub cycle : (Given : List ℕ → Type 0) (place : ℕ) (before after : List ℕ) → Answered checks before Given (some (7, place)) after
      → Fills (Shown o) before after
  pub nothing : (Given : List ℕ → Type 0) (r : ℕ × ℕ) (before after : List ℕ) → (r.0 ≡ 7 → ⊥) → Answered checks before Given (some r) after
      → after ≡ before

written : (o : Order) (checks : List Check) → Each o checks → Written o checks
unfolding RowAfter
written o checks each = record {
  cycle = λ Given place before after h. seventh_writes o checks each place before after h.row;
  nothing = λ Given r before after not h. others_stay o checks each r before after not h.row;
}

-- ---- the rows of the table
module _ {o : Order} (no : ℕ) (not : no ≡ 7 → ⊥) where
  flat : (P : Type 0) → Plain (unwritten (Flat no P)) ⊎ Seventh o (unwritten (Flat no P))
  flat P = inl (record { other = λ place h. not (sym h.is); stays = λ before after e. e })

  lowest : (among : ℕ) (P : ℕ → Type 0) → Plain (unwritten (AtLowest no among P)) ⊎ Seventh o (unwritten (AtLowest no among P))
  lowest among P = inl (record { other = λ place h. not (sym h.is); stays = λ before after e. e })

-- the first five, and what follows them
front_each : (g : Graph) (Own : Type 0) (room : ℕ) (rest : List Check) → Each (order g) rest → Each (order g) (shape g Own ++ output g room ++ rest)
unfolding Each
front_each g Own room rest each = (
  flat 1 (λ e. omega arith) _,
  (flat 2 (λ e. omega arith) _, (lowest 3 (λ e. omega arith) _ _, (lowest 4 (λ e. omega arith) _ _, (flat 5 (λ e. omega arith) _, each)))),
)

-- the sixth
unit_each : (g : Graph) (units : List ℕ) (rest : List Check) → Each (order g) rest → Each (order g) (unitless g units ++ rest)
unfolding Each
unit_each g units rest each = (lowest 6 (λ e. omega arith) _ _, each)

-- the seventh
cycle_each : (o : Order) (rest : List Check) → Each o rest → Each o (cyclic o ++ rest)
unfolding Each
cycle_each o rest each = (inr (record { seven = λ number place h. h.is; fills = λ before after f. f }), each)

-- the eighth and the ninth
bound_each : (o : Order) (bound : ℕ) (rest : List Check) → Each o rest → Each o (large_bound bound ++ late_bound o bound ++ rest)
unfolding Each
bound_each o bound rest each = (flat 8 (λ e. omega arith) _, (flat 9 (λ e. omega arith) _, each))

-- the tenth
windows_each : (g : Graph) (bound : ℕ) → Each (order g) (many_windows g bound)
unfolding Each
windows_each g bound = (flat 10 (λ e. omega arith) _, tt)

none_each : (o : Order) → Each o []
unfolding Each
none_each o = tt

-- ---- the questions
module _ (g : Graph) (room : ℕ) where
  pub asap_written : Written (order g) (asap_checks g room)
  asap_written = written (order g) (asap_checks g room) (front_each g ⊥ room _ (cycle_each (order g) [] (none_each (order g))))

  -- and mobility
  pub alap_written : (bound : ℕ) → Written (order g) (alap_checks g bound room)
  alap_written bound =
      written (order g) (alap_checks g bound room)
      (front_each g ⊥ room _ (cycle_each (order g) _ (bound_each (order g) bound [] (none_each (order g)))))

  pub list_written : (units : List ℕ) → Written (order g) (list_checks g units room)
  list_written units =
      written (order g) (list_checks g units room) (front_each g _ room _ (unit_each g units _ (cycle_each (order g) [] (none_each (order g)))))

  pub lister_written : (units : List ℕ) (bound : ℕ) (asked : Option (List ℕ)) → Written (order g) (lister_checks g units bound asked room)
  lister_written units bound asked =
      written (order g) (lister_checks g units bound asked room)
      (front_each g _ room _
      (unit_each g units _
      (cycle_each (order g) _ (bound_each (order g) bound _ (windows_each g bound)))))
