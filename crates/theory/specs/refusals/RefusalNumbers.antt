-- No two refusals share a number and a place: a way back from the pair to the refusal. So answers that give the same value or refusal are one.
use Rattle.std.specs.Prelude.{◌≡◌, refl, List, [], ◌∷◌, ℕ, get_or, Result, Ok, Err}
use Rattle.std.proofs.Common.{sym, ap, subst, ◌∙◌}
use Rattle.std.proofs.Math.Option.{Option, none, some}
use Rattle.maths.specs.Cases.{none_some, some_one}
use Rattle.model.specs.Refusals.{Check, First}
use Rattle.model.specs.Answers.{numbered, refusal_of, Done}
use Rattle.model.specs.declared.Refusal.{Refusal}
use Rattle.model.specs.declared.Refusal.TheVariants.{TooLarge, Uneven, Operation, Edge, ShortOutput, NoUnit, Cycle, BoundTooLarge, BoundTooSmall, TooManyWindows, Step, Channel, Range}
use Rattle.theory.specs.refusals.OneRefusal.{Ones, first_one}

-- the refusal with this number and place. The table has no number 0; `Range` stands there for want of another
abbrev unnumbered : ℕ × ℕ → Refusal
unnumbered r =
    get_or
    (Range
    ∷ (TooLarge
    ∷ (Uneven
    ∷ (Operation r.1
    ∷ (Edge r.1
    ∷ (ShortOutput
    ∷ (NoUnit r.1
    ∷ (Cycle r.1
    ∷ (BoundTooLarge ∷ (BoundTooSmall ∷ (TooManyWindows ∷ (Step ∷ (Channel ∷ (Range ∷ []))))))))))))))
    r.0
    Range

-- the way back gives the refusal again
unnumbered_numbered : (r : Refusal) → unnumbered (numbered r) ≡ r
unnumbered_numbered TooLarge = refl
unnumbered_numbered Uneven = refl
unnumbered_numbered (Operation i) = refl
unnumbered_numbered (Edge e) = refl
unnumbered_numbered ShortOutput = refl
unnumbered_numbered (NoUnit k) = refl
unnumbered_numbered (Cycle n) = refl
unnumbered_numbered BoundTooLarge = refl
unnumbered_numbered BoundTooSmall = refl
unnumbered_numbered TooManyWindows = refl
unnumbered_numbered Step = refl
unnumbered_numbered Channel = refl
unnumbered_numbered Range = refl

-- no two refusals share a number and a place
pub numbered_one : (a b : Refusal) → numbered a ≡ numbered b → a ≡ b
numbered_one a b e = sym (unnumbered_numbered a) ∙ ap unnumbered e ∙ unnumbered_numbered b

-- an answer that refuses is no pass
pub refused_passes : (why : Refusal) {P : Type 0} → ◌≡◌ {A = Option (ℕ × ℕ)} (some (numbered why)) none → P
refused_passes why e = absurd (none_some (sym e))

-- what is said of an answer is said of the same answer in other words
pub first_told : {A : Type 0} (checks : List Check) {a b : Result A Refusal} → a ≡ b → First checks (refusal_of a) → First checks (refusal_of b)
first_told {A} checks e h = subst (λ (x : Result A Refusal). First checks (refusal_of x)) e h

-- ---- one answer
-- two answers with the same refusal are the same where two values that are given are
pub answers_one : {A : Type 0} (a b : Result A Refusal) → ((x y : A) → a ≡ Ok x → b ≡ Ok y → x ≡ y) → refusal_of a ≡ refusal_of b → a ≡ b
answers_one (Ok x) (Ok y) same e = ap Ok (same x y refl refl)
answers_one (Ok x) (Err w) same e = absurd (none_some e)
answers_one (Err v) (Ok y) same e = absurd (none_some (sym e))
answers_one (Err v) (Err w) same e = ap Err (numbered_one v w (some_one e))

-- no two answers that give nothing else give the same refusal
pub refusal_one : (a b : Done) → refusal_of a ≡ refusal_of b → a ≡ b
refusal_one a b = answers_one a b (λ x y p q. refl)

-- a question whose checks each say one thing has one answer
pub answer_one : (checks : List Check) → Ones checks → (a b : Done) → First checks (refusal_of a) → First checks (refusal_of b) → a ≡ b
answer_one checks ones a b h k = refusal_one a b (first_one checks ones (refusal_of a) (refusal_of b) h k)
