-- The contracts of `fresh` and `advance` leave one value: the answer, the starts and the step. (That of `list_schedule`: `list_answer_one` of theory.)
use Rattle.std.specs.Prelude.{◌≡◌, List, ℕ, replicate}
use Rattle.model.specs.Limits as limit
use Rattle.model.specs.Graph.{Graph}
use Rattle.model.specs.Answers.{refusal_of, Done}
use Rattle.theory.specs.refusals.RefusalNumbers.{refusal_one}
use Rattle.model.specs.Scheduling.{AdvanceAnswer}
use Rattle.theory.specs.list.OneListAnswer.{advance_answer_one}
use Rattle.list_schedule.specs.declared.State.{State}

-- what `fresh` gives
pub record Fresh (s : State) : Type 0 where
  pub step : s.step ≡ 1
  pub starts : s.starts ≡ replicate limit.operations 0

-- states with one step and the same starts are one state
state_one : (r s : State) → r.step ≡ s.step → r.starts ≡ s.starts → r ≡ s
state_one r s p q = rw (p, q)

pub fresh_one : (r s : State) → Fresh r → Fresh s → r ≡ s
fresh_one r s a b = state_one r s (cc (a.step, b.step)) (cc (a.starts, b.starts))

-- any two outcomes of an advance are equal: the answer, and the state that it leaves
pub advance_one : (g : Graph) (units : List ℕ) (before : State) (r s : Done) (a b : State)
    → AdvanceAnswer g units before.starts before.step (refusal_of r) a.starts a.step
    → AdvanceAnswer g units before.starts before.step (refusal_of s) b.starts b.step → (r ≡ s) × (a ≡ b)
advance_one g units before r s a b x y =
    let same = advance_answer_one g units before.starts before.step _ _ _ _ _ _ x y in
    (refusal_one r s same.0, state_one a b same.2 same.1)
