-- Each fault rules a lawful schedule out, and the checker and peak use have one answer each.
use Rattle.std.specs.Prelude.{◌≡◌, List, ℕ, ◌+◌, ◌≤◌, ◌<◌, length, Result, Ok, Err}
use Rattle.std.proofs.Math.Path.{refl, ap}
use Rattle.std.proofs.Common.{sym, ap₂, subst, ◌∙◌, arith}
use Rattle.std.proofs.Math.Option.{Option, none, some}
use Rattle.maths.specs.Cases.{at_most, none_some, some_one}
use Rattle.maths.specs.Rows.{at, same_row}
use Rattle.maths.specs.Lowest.{None, lowest_one}
use Rattle.model.specs.Limits as limit
use Rattle.model.specs.Graph.{Graph, order, many, edges_of, delay}
use Rattle.model.specs.Answers.{refusal_of}
use Rattle.model.specs.Use.{Lawful}
use Rattle.model.specs.Faults as fault
use Rattle.model.specs.Verdicts.{Finds, Reports, Checked, AllPeaks, Counts, PeakAnswer}
use Rattle.model.specs.Checks.{check_checks, peak_checks}
use Rattle.model.specs.declared.Finding as finding
use Rattle.model.specs.declared.Finding.TheVariants as found
use Rattle.model.specs.declared.Refusal.{Refusal}
use Rattle.theory.specs.refusals.OneRefusal.{Ones, first_one, ones_append, shape_ones, unitless_ones}
use Rattle.theory.specs.refusals.CycleAndBounds.{cyclic_ones, large_bound_ones}
use Rattle.theory.specs.refusals.RefusalNumbers.{answers_one}
use Rattle.theory.specs.unit_use.RunningAndPeak.{peak_one}

-- numbers of which neither is below the other
apart : {a b : ℕ} → (a < b → ⊥) → (b < a → ⊥) → a ≡ b
apart h k = omega arith

-- a start from 1 on and a finish within the bound are timely
pub timely_operation : {g : Graph} {bound : ℕ} {t : List ℕ} {i : ℕ} → 1 ≤ at t i → at t i + delay g i ≤ bound + 1 → fault.Untimely g bound t i → ⊥
timely_operation from ends (fault.unplaced e) = omega arith
timely_operation from ends (fault.late p) = omega arith

-- and what is timely starts from 1 on and is over within the bound
pub timely_starts : {g : Graph} {bound : ℕ} {t : List ℕ} {i : ℕ} → (fault.Untimely g bound t i → ⊥) → 1 ≤ at t i
timely_starts h = at_most (λ z. h (fault.unplaced (omega arith)))

pub timely_ends : {g : Graph} {bound : ℕ} {t : List ℕ} {i : ℕ} → (fault.Untimely g bound t i → ⊥) → at t i + delay g i ≤ bound + 1
timely_ends h = at_most (λ z. h (fault.late z))

-- ---- each fault rules a lawful schedule out, and where there is none the schedule is lawful
module _ (g : Graph) (units : List ℕ) (bound : ℕ) (t : List ℕ) where
  pub lawful_timely : Lawful g units bound t → None (fault.Untimely g bound t) (many g)
  lawful_timely h i l = timely_operation (h.keeps.from_one i l) (h.within.ends i l)

  pub lawful_unbroken : Lawful g units bound t → None (fault.Broken g t) (edges_of g)
  lawful_unbroken h e l b = omega (arith, h.keeps.edges e l, b.early)

  pub lawful_room : Lawful g units bound t → (l k : ℕ) → fault.OverUsed g units t l k → ⊥
  lawful_room h l k o = omega (arith, h.room k l o.kind, o.more)

  -- where there is no fault the schedule is lawful
  pub faultless_lawful : length t ≡ many g → fault.Timely g bound t → ((l k : ℕ) → fault.OverUsed g units t l k → ⊥) → Lawful g units bound t
  faultless_lawful long timely under = record {
    long = long;
    keeps = record {
      from_one = λ i l. timely_starts (timely.operations i l);
      edges = λ e l. at_most (λ z. timely.edges e l (record { early = z }));
    };
    within = record { ends = λ i l. timely_ends (timely.operations i l) };
    room = λ k l b. at_most (λ z. under l k (record { kind = b; more = z }));
  }

  -- the earliest step with over-use is one step, and its lowest type one type
  pub over_one : (l k m j : ℕ) → fault.FirstOver g units t l k → fault.FirstOver g units t m j → found.OverUse l k ≡ found.OverUse m j
  over_one l k m j a b =
      let step : l ≡ m =
      apart (λ p. b.none_before l k p a.over) (λ p. a.none_before m j p b.over) in
      let moved = rw (← step) at b in
      let kind : k ≡ j =
      apart (λ p. moved.none_below k p a.over) (λ p. a.none_below j p moved.over) in
      ap₂ found.OverUse step kind

  -- what is found is one finding
  pub finds_one : (f h : finding.Finding) → Finds g units bound t f → Finds g units bound t h → f ≡ h
  unfolding Finds
  finds_one found.Lawful found.Lawful a b = refl
  finds_one found.Lawful (found.Untimely i) a b = absurd (lawful_timely a i b.inside b.holds)
  finds_one found.Lawful (found.Broken i) a b = absurd (lawful_unbroken a i b.1.inside b.1.holds)
  finds_one found.Lawful (found.OverUse l k) a b = absurd (lawful_room a l k b.1.over)
  finds_one (found.Untimely i) found.Lawful a b = absurd (lawful_timely b i a.inside a.holds)
  finds_one (found.Untimely i) (found.Untimely j) a b = ap found.Untimely (lowest_one _ _ i j a b)
  finds_one (found.Untimely i) (found.Broken j) a b = absurd (b.0 i a.inside a.holds)
  finds_one (found.Untimely i) (found.OverUse l k) a b = absurd (b.0.operations i a.inside a.holds)
  finds_one (found.Broken i) found.Lawful a b = absurd (lawful_unbroken b i a.1.inside a.1.holds)
  finds_one (found.Broken i) (found.Untimely j) a b = absurd (a.0 j b.inside b.holds)
  finds_one (found.Broken i) (found.Broken j) a b = ap found.Broken (lowest_one _ _ i j a.1 b.1)
  finds_one (found.Broken i) (found.OverUse l k) a b = absurd (b.0.edges i a.1.inside a.1.holds)
  finds_one (found.OverUse l k) found.Lawful a b = absurd (lawful_room b l k a.1.over)
  finds_one (found.OverUse l k) (found.Untimely j) a b = absurd (a.0.operations j b.inside b.holds)
  finds_one (found.OverUse l k) (found.Broken j) a b = absurd (a.0.edges j b.1.inside b.1.holds)
  finds_one (found.OverUse l k) (found.OverUse m j) a b = over_one l k m j a.1 b.1

-- ---- one answer
-- each of the checker's refusals says one thing at most, and each of peak use's
pub check_ones : (g : Graph) (units : List ℕ) (bound : ℕ) (t : List ℕ) → Ones (check_checks g units bound t)
check_ones g units bound t =
    ones_append _ _ (shape_ones g _)
    (ones_append _ _ (unitless_ones g units)
    (ones_append _ _ (cyclic_ones (order g)) (large_bound_ones bound)))

pub peak_ones : (g : Graph) (t : List ℕ) → Ones (peak_checks g t)
peak_ones g t = ones_append _ _ (shape_ones g _) (cyclic_ones (order g))

-- any two answers that the checker may give are one
pub checked_one : (g : Graph) (units : List ℕ) (bound : ℕ) (t : List ℕ) (v w : Result finding.Finding Refusal) → Checked g units bound t v
    → Checked g units bound t w → v ≡ w
unfolding Reports
checked_one g units bound t v w a b =
    answers_one v w
    (λ x y p q.
    finds_one g units bound t x y
    (subst (λ (r : Result finding.Finding Refusal). Reports g units bound t r) p a.finds)
    (subst (λ (r : Result finding.Finding Refusal). Reports g units bound t r) q b.finds))
    (first_one (check_checks g units bound t) (check_ones g units bound t) _ _ a.first b.first)

-- ---- peak use has one answer
-- the numbers are one row
pub peaks_one : (g : Graph) (t c d : List ℕ) → AllPeaks g t c → AllPeaks g t d → c ≡ d
peaks_one g t c d a b =
    same_row c d (a.long ∙ sym b.long)
    (λ k l. let inside : k < limit.kinds = rw (← a.long) l in peak_one g t k _ _ (a.each k inside) (b.each k inside))

-- so what is counted with the same refusal, or with none, is one answer
pub counts_one : (g : Graph) (t : List ℕ) (p q : Result (List ℕ) Refusal) → refusal_of p ≡ refusal_of q → Counts g t p → Counts g t q → p ≡ q
unfolding Counts
counts_one g t p q same a b =
    answers_one p q
    (λ x y e f.
    peaks_one g t x y
    (subst (λ (r : Result (List ℕ) Refusal). Counts g t r) e a)
    (subst (λ (r : Result (List ℕ) Refusal). Counts g t r) f b))
    same

-- any two answers that peak use may give are one
pub peak_answer_one : (g : Graph) (t : List ℕ) (p q : Result (List ℕ) Refusal) → PeakAnswer g t p → PeakAnswer g t q → p ≡ q
peak_answer_one g t p q a b =
    counts_one g t p q (first_one (peak_checks g t) (peak_ones g t) _ _ a.first b.first) a.counts b.counts
