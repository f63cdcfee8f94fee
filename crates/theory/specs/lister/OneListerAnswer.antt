-- What `first` and `next` answer is one answer.
use Rattle.std.specs.Prelude.{◌≡◌, List, ℕ, length, Result, Ok, Err}
use Rattle.std.proofs.Math.Path.{refl, sym, ap}
use Rattle.std.proofs.Common.{subst, ◌∙◌}
use Rattle.std.proofs.Math.Option.{Option, none, some}
use Rattle.maths.specs.Cases.{none_some, some_one}
use Rattle.model.specs.Graph.{Graph, order}
use Rattle.model.specs.Refusals.{Check, ManyWindows, ListerUneven}
use Rattle.model.specs.Answers.{numbered, refusal_of, RowAfter}
use Rattle.model.specs.Listing.{Gives, ListerAnswer}
use Rattle.model.specs.Checks.{lister_checks}
use Rattle.model.specs.declared.Refusal.{Refusal}
use Rattle.model.specs.declared.Listed.{Listed}
use Rattle.model.specs.declared.Listed.TheVariants as answers
use Rattle.theory.specs.refusals.OneRefusal.{Ones, first_one, flat_one, ones_single, ones_append, front_unit_ones}
use Rattle.theory.specs.refusals.RefusalNumbers.{numbered_one}
use Rattle.theory.specs.refusals.RowAfterwards.{answered_one, answered_again, fills_one}
use Rattle.theory.specs.refusals.CycleAndBounds.{cyclic_ones, large_bound_ones, late_bound_ones}
use Rattle.theory.specs.lister.OneLeast.{least_one, least_left}

-- ---- the lister's question has one answer
lister_ones : (g : Graph) (units : List ℕ) (bound : ℕ) (asked : Option (List ℕ)) (room : ℕ) → Ones (lister_checks g units bound asked room)
lister_ones g units bound asked room =
    ones_append _ _
    (ones_append _ _ (front_unit_ones g (ListerUneven g units asked) room units) (cyclic_ones (order g)))
    (ones_append _ _ (ones_append _ _ (large_bound_ones bound) (late_bound_ones (order g) bound))
    (ones_single _ (flat_one 10 (ManyWindows g bound))))

module _ (g : Graph) (units : List ℕ) (bound : ℕ) (asked : Option (List ℕ)) (out : List ℕ) where
  -- refusals 1 to 10 of this question
  abbrev checks : List Check
  checks = lister_checks g units bound asked (length out)

  ones : Ones checks
  ones = lister_ones g units bound asked (length out)

  same_answer : (r s : Result Listed Refusal) (a b : List ℕ) → refusal_of r ≡ refusal_of s → ListerAnswer g units bound asked out r a → ListerAnswer g units bound asked out s b → r ≡ s
  unfolding RowAfter Gives
  same_answer (Ok answers.Found) (Ok answers.Found) a b e x y = refl
  same_answer (Ok answers.Found) (Ok answers.NoneLeft) a b e x y = absurd (least_left g units bound asked _ x.row.is y.row.none)
  same_answer (Ok answers.Found) (Err w) a b e x y = absurd (none_some e)
  same_answer (Ok answers.NoneLeft) (Ok answers.Found) a b e x y = absurd (least_left g units bound asked _ y.row.is x.row.none)
  same_answer (Ok answers.NoneLeft) (Ok answers.NoneLeft) a b e x y = refl
  same_answer (Ok answers.NoneLeft) (Err w) a b e x y = absurd (none_some e)
  same_answer (Err v) (Ok answers.Found) a b e x y = absurd (none_some (sym e))
  same_answer (Err v) (Ok answers.NoneLeft) a b e x y = absurd (none_some (sym e))
  same_answer (Err v) (Err w) a b e x y = ap Err (numbered_one v w (some_one e))

  rows_one : (r : Result Listed Refusal) (a b : List ℕ) → ListerAnswer g units bound asked out r a → ListerAnswer g units bound asked out r b → a ≡ b
  unfolding Gives
  rows_one (Ok answers.Found) a b x y =
      (answered_one checks out _ ones none none a b (fills_one _ out a b (least_one g units bound asked)) x y).1
  rows_one (Ok answers.NoneLeft) a b x y =
      (answered_one checks out _ ones none none a b (λ p q. p.kept ∙ sym q.kept) x y).1
  rows_one (Err w) a b x y =
      (answered_one checks out (λ row. row ≡ out) ones (some (numbered w)) (some (numbered w)) a b (λ p q. p ∙ sym q)
      (answered_again checks out _ (λ row. row ≡ out) (numbered w) a x)
      (answered_again checks out _ (λ row. row ≡ out) (numbered w) b y)
      ).1

  -- any two outcomes that the contract of `first` or `next` allows are equal
  pub lister_answer_one : (r s : Result Listed Refusal) (a b : List ℕ) → ListerAnswer g units bound asked out r a → ListerAnswer g units bound asked out s b → (r ≡ s) × (a ≡ b)
  lister_answer_one r s a b x y =
      let refusals = first_one checks ones (refusal_of r) (refusal_of s) x.first y.first in
      let same = same_answer r s a b refusals x y in
      (same, rows_one r a b x (subst (λ (q : Result Listed Refusal). ListerAnswer g units bound asked out q b) (sym same) y))
