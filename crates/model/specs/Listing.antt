-- All lawful schedules, in increasing order; and what the lister gives, for every input.
use Rattle.std.specs.Prelude.{◌≡◌, Bool, List, [], ◌∷◌, ℕ, ◌+◌, leb, length, Result, Ok, Err}
use Rattle.std.proofs.Math.Option.{Option, none, some}
use Rattle.maths.specs.Tests.{◌and◌}
use Rattle.maths.specs.Rows.{at}
use Rattle.maths.specs.Count.{every}
use Rattle.maths.specs.Words.{Before, words, keep}
use Rattle.model.specs.Order.{source, target}
use Rattle.model.specs.Graph.{Graph, order, many, edges_of, delay}
use Rattle.model.specs.Use.{running, Lawful}
use Rattle.model.specs.Checks.{lister_checks}
use Rattle.model.specs.Answers.{refusal_of, Fills, Answered}
use Rattle.model.specs.declared.Refusal.{Refusal}
use Rattle.model.specs.declared.Listed.{Listed}
use Rattle.model.specs.declared.Listed.TheVariants as answers

-- ---- the list
-- the four clauses of a lawful schedule, as a test
unfoldable pub is_lawful : Graph → List ℕ → ℕ → List ℕ → Bool
is_lawful g units bound t =
    every (λ i. leb 1 (at t i)) (many g)
    and (every (λ i. leb (at t i + delay g i) (bound + 1)) (many g)
    and (every (λ e. leb (at t (source (order g) e) + delay g (source (order g) e)) (at t (target (order g) e))) (edges_of g)
    and every (λ l. every (λ k. leb (running g t k l) (at units k)) g.kinds) (bound + 1)))

-- all lawful schedules: all rows of n starts from 1 to the bound, in increasing order, kept where lawful
abbrev pub all_lawful : Graph → List ℕ → ℕ → List (List ℕ)
all_lawful g units bound = keep (is_lawful g units bound) (words (many g) bound)

-- ---- one question
-- u comes after the row asked after; every row does where none is
unfoldable pub Later : ℕ → Option (List ℕ) → List ℕ → Type 0
Later n none u = Unit {0}
Later n (some row) u = Before n row u

-- t is the least lawful schedule after the row asked after
pub record Least (g : Graph) (units : List ℕ) (bound : ℕ) (asked : Option (List ℕ)) (t : List ℕ) : Type 0 where
  pub lawful : Lawful g units bound t
  pub later : Later (many g) asked t
  pub none_between : (u : List ℕ) → Lawful g units bound u → Later (many g) asked u → Before (many g) u t → ⊥

-- no lawful schedule comes after the row asked after
pub record NoneLeft (g : Graph) (units : List ℕ) (bound : ℕ) (asked : Option (List ℕ)) : Type 0 where
  pub none_later : (u : List ℕ) → Lawful g units bound u → Later (many g) asked u → ⊥

-- ---- the answers
-- none is left, and the output row stays as it was
pub record Ended (g : Graph) (units : List ℕ) (bound : ℕ) (asked : Option (List ℕ)) (before after : List ℕ) : Type 0 where
  pub none : NoneLeft g units bound asked
  pub kept : after ≡ before

-- what an answer that is no refusal leaves: the least schedule in the row's first entries, or none left
unfoldable pub Gives : Graph → List ℕ → ℕ → Option (List ℕ) → List ℕ → Result Listed Refusal → List ℕ → Type 0
Gives g units bound asked before (Ok answers.Found) after = Fills (Least g units bound asked) before after
Gives g units bound asked before (Ok answers.NoneLeft) after = Ended g units bound asked before after
Gives g units bound asked before (Err why) after = Unit {0}

-- what `first` (asked after none) and `next` (asked after a row) answer and leave
abbrev pub ListerAnswer : Graph → List ℕ → ℕ → Option (List ℕ) → List ℕ → Result Listed Refusal → List ℕ → Type 0
ListerAnswer g units bound asked out r after =
    Answered (lister_checks g units bound asked (length out)) out (Gives g units bound asked out r) (refusal_of r) after

-- ---- every lawful schedule, each once
-- what asking gives, from a schedule on: itself, then the next, and so on until none is left
pub data Asked (g : Graph) (units : List ℕ) (bound : ℕ) : List ℕ → List (List ℕ) → Type 0 where
  last : {t : List ℕ} → NoneLeft g units bound (some t) → Asked g units bound t (t ∷ [])
  then : {t u : List ℕ} {rows : List (List ℕ)} → Least g units bound (some t) u → Asked g units bound u rows → Asked g units bound t (t ∷ rows)

-- what asking gives from the start: the first, then the next, and so on until none is left
pub data AskedAll (g : Graph) (units : List ℕ) (bound : ℕ) : List (List ℕ) → Type 0 where
  nothing : NoneLeft g units bound none → AskedAll g units bound []
  from : {t : List ℕ} {rows : List (List ℕ)} → Least g units bound none t → Asked g units bound t rows → AskedAll g units bound rows
