-- What an answer says in numbers, and what a question with an output row leaves behind: one frame for all of them.
use Rattle.std.specs.Prelude.{◌≡◌, ◌⊎◌, List, [], ◌∷◌, ℕ, length, Result, Ok, Err}
use Rattle.std.proofs.Math.Option.{Option, none, some}
use Rattle.maths.specs.Rows.{over}
use Rattle.model.specs.Graph.{Graph}
use Rattle.model.specs.Tables.{Asap, Alap, Mobility}
use Rattle.model.specs.Refusals.{Silent, Writes, Check, First}
use Rattle.model.specs.Checks.{asap_checks, alap_checks}
use Rattle.model.specs.declared.Refusal.{Refusal}
use Rattle.model.specs.declared.Refusal.TheVariants.{TooLarge, Uneven, Operation, Edge, ShortOutput, NoUnit, Cycle, BoundTooLarge, BoundTooSmall, TooManyWindows, Step, Channel, Range}

-- the number and the place of each refusal
abbrev pub numbered : Refusal → ℕ × ℕ
numbered TooLarge = (1, 0)
numbered Uneven = (2, 0)
numbered (Operation i) = (3, i)
numbered (Edge e) = (4, e)
numbered ShortOutput = (5, 0)
numbered (NoUnit k) = (6, k)
numbered (Cycle n) = (7, n)
numbered BoundTooLarge = (8, 0)
numbered BoundTooSmall = (9, 0)
numbered TooManyWindows = (10, 0)
numbered Step = (11, 0)
numbered Channel = (12, 0)
numbered Range = (13, 0)

-- the refusal that an answer gives, if it gives one
abbrev pub refusal_of : {A : Type 0} → Result A Refusal → Option (ℕ × ℕ)
refusal_of (Ok a) = none
refusal_of (Err r) = some (numbered r)

-- a row with `Is` fills the output's first entries, and the rest stays
pub record Fills (Is : List ℕ → Type 0) (before after : List ℕ) : Type 0 where
  pub row : List ℕ
  pub is : Is row
  pub written : after ≡ over row before

-- the output row after a refusal: where it writes nothing the row stays; else what it writes fills the first entries
abbrev pub Leaves : Writes → List ℕ → List ℕ → Type 0
Leaves Writes.nothing before after = after ≡ before
Leaves (Writes.some_row Is) before after = Fills Is before after

-- refused: the first check that says something says r, and the row is as it leaves it
unfoldable pub LeftBy : List Check → ℕ × ℕ → List ℕ → List ℕ → Type 0
LeftBy [] r before after = ⊥
LeftBy (R ∷ rest) r before after =
    (R.says r.0 r.1 × Leaves R.writes before after) ⊎ (Silent R.says × LeftBy rest r before after)

-- the output row afterwards: answered, it is as `Given` says; refused, as the check that decides leaves it
unfoldable pub RowAfter : List Check → List ℕ → (List ℕ → Type 0) → Option (ℕ × ℕ) → List ℕ → Type 0
RowAfter checks before Given none after = Given after
RowAfter checks before Given (some r) after = LeftBy checks r before after

-- a question with an output row: the first of its checks that applies is given, and the row is left accordingly
pub record Answered (checks : List Check) (before : List ℕ) (Given : List ℕ → Type 0) (refusal : Option (ℕ × ℕ)) (after : List ℕ) : Type 0 where
  pub first : First checks refusal
  pub row : RowAfter checks before Given refusal after

-- the answer of a question that gives nothing but a filled row: done, or refused
abbrev pub Done : Type 0
Done = Result (Unit {0}) Refusal

-- what `asap` answers and leaves
abbrev pub AsapAnswer : Graph → List ℕ → Done → List ℕ → Type 0
AsapAnswer g out r after = Answered (asap_checks g (length out)) out (Fills (Asap g) out) (refusal_of r) after

-- what `alap` answers and leaves
abbrev pub AlapAnswer : Graph → ℕ → List ℕ → Done → List ℕ → Type 0
AlapAnswer g bound out r after =
    Answered (alap_checks g bound (length out)) out (Fills (Alap g bound) out) (refusal_of r) after

-- what `mobility` answers and leaves
abbrev pub MobilityAnswer : Graph → ℕ → List ℕ → Done → List ℕ → Type 0
MobilityAnswer g bound out r after =
    Answered (alap_checks g bound (length out)) out (Fills (Mobility g bound) out) (refusal_of r) after
