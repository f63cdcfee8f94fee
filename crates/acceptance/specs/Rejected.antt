-- Wrong answers, each at a concrete input where a contract does not allow it: the true answer is there, and the contract leaves one.
use Rattle.std.specs.Prelude.{◌≡◌, refl, List, [], ℕ, length, Result, Ok, Err}
use Rattle.std.proofs.Common.{ap, inr, arith}
use Rattle.std.proofs.Math.Option.{Option, none, some}
use Rattle.std.specs.declared.option.Option.TheVariants.{None, Some}
use Rattle.model.specs.Answers.{Done, AsapAnswer, AlapAnswer, MobilityAnswer}
use Rattle.theory.specs.tables.OneTableAnswer.{asap_answer_one, alap_answer_one, mobility_answer_one}
use Rattle.model.specs.Scheduling.{ListAnswer, AdvanceAnswer}
use Rattle.theory.specs.list.OneListAnswer.{list_answer_one, advance_answer_one}
use Rattle.model.specs.Verdicts.{Checked, PeakAnswer}
use Rattle.theory.specs.unit_use.OneVerdict.{checked_one, peak_answer_one}
use Rattle.model.specs.Listing.{ListerAnswer}
use Rattle.theory.specs.lister.OneListerAnswer.{lister_answer_one}
use Rattle.model.specs.Views.{PartOf, Viewed, ViewRefusal}
use Rattle.model.specs.Channels.{Table}
use Rattle.theory.specs.views.OneView.{Available, passes, view_refusal_one}
use Rattle.theorems.specs.Views.{view_long, not_the_other}
use Rattle.model.specs.declared.Refusal.{Refusal}
use Rattle.model.specs.declared.Finding.{Finding}
use Rattle.model.specs.declared.Finding.TheVariants as found
use Rattle.model.specs.declared.Listed.{Listed}
use Rattle.model.specs.declared.Listed.TheVariants as listed
use Rattle.acceptance.specs.Free.{two_starts}
use Rattle.acceptance.specs.Starred.{All, Holds, single, slow}
use Rattle.acceptance.specs.StarredHold.{thirteenth_holds}
use Rattle.acceptance.specs.TrueAnswers.{pair, sevens, state, peaks, asap_true, alap_true, mobility_true, list_true, advance_true, peak_true, first_true, next_true, last_true}

-- ---- case 13's verdicts
-- at 1 and 2 the unit is over-used at step 2
crowded : Checked (slow 2) single 4 (two_starts 1 2) (Ok (found.OverUse 2 0))
unfolding All Holds
crowded = thirteenth_holds.0

-- at 1 and 3 the schedule is lawful
spaced : Checked (slow 2) single 4 (two_starts 1 3) (Ok found.Lawful)
unfolding All Holds
spaced = thirteenth_holds.1.0

-- ---- always refusing: no entry point may, at case 9
pub asap_not_refused : (why : Refusal) (after : List ℕ) → AsapAnswer pair sevens (Err why) after → ⊥
asap_not_refused why after h =
    cc (asap_answer_one pair sevens (Ok tt) (Err why) (two_starts 1 1) after asap_true h).0

pub alap_not_refused : (why : Refusal) (after : List ℕ) → AlapAnswer pair 2 sevens (Err why) after → ⊥
alap_not_refused why after h =
    cc (alap_answer_one pair 2 sevens (Ok tt) (Err why) (two_starts 2 2) after alap_true h).0

pub mobility_not_refused : (why : Refusal) (after : List ℕ) → MobilityAnswer pair 2 sevens (Err why) after → ⊥
mobility_not_refused why after h =
    cc (mobility_answer_one pair 2 sevens (Ok tt) (Err why) (two_starts 1 1) after mobility_true h).0

pub list_not_refused : (why : Refusal) (after : List ℕ) → ListAnswer pair single sevens (Err why) after → ⊥
list_not_refused why after h =
    cc (list_answer_one pair single sevens (Ok 2) (Err why) (two_starts 1 2) after list_true h).0

pub advance_not_refused : (why : ℕ × ℕ) (after : List ℕ) (step : ℕ) → AdvanceAnswer pair single (state 0 0) 1 (some why) after step → ⊥
advance_not_refused why after step h =
    cc (advance_answer_one pair single (state 0 0) 1 none (some why) (state 1 0) after 2 step advance_true h).0

pub check_not_refused : (why : Refusal) → Checked (slow 2) single 4 (two_starts 1 3) (Err why) → ⊥
check_not_refused why h = cc (checked_one (slow 2) single 4 (two_starts 1 3) _ _ spaced h)

pub peak_not_refused : (why : Refusal) → PeakAnswer pair (two_starts 1 1) (Err why) → ⊥
peak_not_refused why h = cc (peak_answer_one pair (two_starts 1 1) _ _ peak_true h)

pub first_not_refused : (why : Refusal) (after : List ℕ) → ListerAnswer pair single 2 none sevens (Err why) after → ⊥
first_not_refused why after h =
    cc (lister_answer_one pair single 2 none sevens (Ok listed.Found) (Err why) (two_starts 1 2) after first_true h).0

pub next_not_refused : (why : Refusal) (after : List ℕ) → ListerAnswer pair single 2 (some (two_starts 1 2)) sevens (Err why) after → ⊥
next_not_refused why after h =
    cc (lister_answer_one pair single 2 (some (two_starts 1 2)) sevens (Ok listed.Found) (Err why) (two_starts 2 1) after next_true h).0

-- ---- always "none left", or the same schedule
pub first_not_none_left : (after : List ℕ) → ListerAnswer pair single 2 none sevens (Ok listed.NoneLeft) after → ⊥
first_not_none_left after h =
    cc (lister_answer_one pair single 2 none sevens (Ok listed.Found) (Ok listed.NoneLeft) (two_starts 1 2) after first_true h).0

pub next_not_none_left : (after : List ℕ) → ListerAnswer pair single 2 (some (two_starts 1 2)) sevens (Ok listed.NoneLeft) after → ⊥
next_not_none_left after h =
    cc (lister_answer_one pair single 2 (some (two_starts 1 2)) sevens (Ok listed.Found) (Ok listed.NoneLeft) (two_starts 2 1) after next_true h).0

-- after (1,2) comes not (1,2) again
pub next_not_the_same : (r : Result Listed Refusal) → ListerAnswer pair single 2 (some (two_starts 1 2)) sevens r (two_starts 1 2) → ⊥
next_not_the_same r h =
    cc (lister_answer_one pair single 2 (some (two_starts 1 2)) sevens (Ok listed.Found) r (two_starts 2 1) (two_starts 1 2) next_true h).1

-- and at the end "none left" is the one answer: a schedule, whichever, is not
pub last_not_found : (after : List ℕ) → ListerAnswer pair single 2 (some (two_starts 2 1)) sevens (Ok listed.Found) after → ⊥
last_not_found after h =
    cc (lister_answer_one pair single 2 (some (two_starts 2 1)) sevens (Ok listed.NoneLeft) (Ok listed.Found) sevens after last_true h).0

-- ---- a checker that accepts or rejects everything (case 13)
pub check_not_always_lawful : Checked (slow 2) single 4 (two_starts 1 2) (Ok found.Lawful) → ⊥
check_not_always_lawful h = cc (checked_one (slow 2) single 4 (two_starts 1 2) _ _ crowded h)

pub check_not_always_fault : (v : Result Finding Refusal) → Checked (slow 2) single 4 (two_starts 1 3) v → v ≡ Ok found.Lawful
check_not_always_fault v h = checked_one (slow 2) single 4 (two_starts 1 3) v _ h spaced

-- ---- an advance that places all at once, or does nothing
pub advance_not_all_at_once : (x : Option (ℕ × ℕ)) (step : ℕ) → AdvanceAnswer pair single (state 0 0) 1 x (state 1 2) step → ⊥
advance_not_all_at_once x step h =
    cc (advance_answer_one pair single (state 0 0) 1 none x (state 1 0) (state 1 2) 2 step advance_true h).1

-- nor both at the same step, on one unit
pub advance_not_both : (x : Option (ℕ × ℕ)) (step : ℕ) → AdvanceAnswer pair single (state 0 0) 1 x (state 1 1) step → ⊥
advance_not_both x step h =
    cc (advance_answer_one pair single (state 0 0) 1 none x (state 1 0) (state 1 1) 2 step advance_true h).1

pub advance_not_nothing : (x : Option (ℕ × ℕ)) (step : ℕ) → AdvanceAnswer pair single (state 0 0) 1 x (state 0 0) step → ⊥
advance_not_nothing x step h =
    cc (advance_answer_one pair single (state 0 0) 1 none x (state 1 0) (state 0 0) 2 step advance_true h).1

-- ---- a made-up latency or peak
pub latency_not_made_up : (l : ℕ) (after : List ℕ) → (l ≡ 2 → ⊥) → ListAnswer pair single sevens (Ok l) after → ⊥
latency_not_made_up l after other h =
    other (cc (list_answer_one pair single sevens (Ok l) (Ok 2) after (two_starts 1 2) h list_true).0)

pub peak_not_made_up : (p : Result (List ℕ) Refusal) → (p ≡ Ok peaks → ⊥) → PeakAnswer pair (two_starts 1 1) p → ⊥
peak_not_made_up p other h = other (peak_answer_one pair (two_starts 1 1) p _ h peak_true)

-- ---- returning the row unchanged: the row asked after is `next_not_the_same`; an output row stays for none of these
pub asap_not_unchanged : (r : Done) → AsapAnswer pair sevens r sevens → ⊥
asap_not_unchanged r h =
    cc (asap_answer_one pair sevens (Ok tt) r (two_starts 1 1) sevens asap_true h).1

pub alap_not_unchanged : (r : Done) → AlapAnswer pair 2 sevens r sevens → ⊥
alap_not_unchanged r h =
    cc (alap_answer_one pair 2 sevens (Ok tt) r (two_starts 2 2) sevens alap_true h).1

pub mobility_not_unchanged : (r : Done) → MobilityAnswer pair 2 sevens r sevens → ⊥
mobility_not_unchanged r h =
    cc (mobility_answer_one pair 2 sevens (Ok tt) r (two_starts 1 1) sevens mobility_true h).1

pub list_not_unchanged : (r : Result ℕ Refusal) → ListAnswer pair single sevens r sevens → ⊥
list_not_unchanged r h =
    cc (list_answer_one pair single sevens (Ok 2) r (two_starts 1 2) sevens list_true h).1

pub first_not_unchanged : (r : Result Listed Refusal) → ListerAnswer pair single 2 none sevens r sevens → ⊥
first_not_unchanged r h =
    cc (lister_answer_one pair single 2 none sevens (Ok listed.Found) r (two_starts 1 2) sevens first_true h).1

-- ---- a view of the other table's memory: two tables that lie apart and have the same entries today
module _ (a b : Table) (apart : a.ref_ptr.0 ≡ b.ref_ptr.0 → ⊥) (is_a : a.now ≡ two_starts 1 2) (is_b : b.now ≡ two_starts 1 2) where
  available : Available a b 1 0 2
  available = record { named = inr refl; reaches = omega (arith, ap length is_b) }

  -- the whole of A's is no view of channel 1
  pub view_not_the_other : (r : Table) → PartOf a 0 2 r → Viewed a b 1 0 2 r → ⊥
  view_not_the_other r p v = not_the_other a b 0 2 apart 0 2 r p v

  -- nor is the empty part, which is always refusing
  pub view_not_empty : (r : Table) → r.now ≡ [] → Viewed a b 1 0 2 r → ⊥
  view_not_empty r e v = omega (arith, view_long a b 1 0 2 available r v, ap length e)

  -- and the separate question names no refusal
  pub view_not_refused : (why : Refusal) → ViewRefusal a b 1 0 2 (Some why) → ⊥
  view_not_refused why h = cc (view_refusal_one a b 1 0 2 (Some why) None h (passes a b 1 0 2 available))
