-- Of the answers: asked from the first on, they list exactly the definition's list, to its end.
use Rattle.std.specs.Prelude.{◌≡◌, refl, ℕ, length, drop, Result, Ok, Err}
use Rattle.std.proofs.Common.{sym, ◌∙◌}
use Rattle.std.proofs.Math.Path.{ap, subst}
use Rattle.std.proofs.Math.Option.{Option, none, some}
use mathlib.Core.List.{List, [], ◌∷◌}
use Rattle.std.proofs.Math.ListN.{take}
use Rattle.std.proofs.Math.Seq.{take_at}
use Rattle.model.specs.Graph.{Graph, order, many, Sound}
use Rattle.model.specs.Refusals.{First, output, unitless, cyclic, ListerUneven}
use Rattle.model.specs.Answers.{refusal_of, RowAfter}
use Rattle.model.specs.Listing.{all_lawful, Least, NoneLeft, Gives, ListerAnswer, Asked, AskedAll}
use Rattle.model.specs.Checks.{lister_checks}
use Rattle.model.specs.declared.Refusal.{Refusal}
use Rattle.model.specs.declared.Listed.{Listed}
use Rattle.model.specs.declared.Listed.TheVariants as answers
use Rattle.theory.specs.refusals.RefusalNumbers.{refused_passes}
use Rattle.theory.specs.refusals.FirstRefusal.{first_none_append}
use Rattle.theory.specs.refusals.SoundGraph.{sound}
use Rattle.theory.specs.lister.OneLeast.{least_one, least_left}
use Rattle.theorems.specs.AllListed.{asked_all, asked_is}

-- ---- what the answers list
-- what the answers list from a question on: nothing where none is left; else the schedule given, and what the questions after it list
pub data Lists (g : Graph) (units : List ℕ) (bound : ℕ) : Option (List ℕ) → List (List ℕ) → Type 0 where
  stops : {asked : Option (List ℕ)} {out after : List ℕ} → ListerAnswer g units bound asked out (Ok answers.NoneLeft) after → Lists g units bound asked []
  goes : {asked : Option (List ℕ)} {out after : List ℕ} {rows : List (List ℕ)} → ListerAnswer g units bound asked out (Ok answers.Found) after
      → Lists g units bound (some (take (many g) after)) rows → Lists g units bound asked (take (many g) after ∷ rows)

module _ {g : Graph} {units : List ℕ} {bound : ℕ} {asked : Option (List ℕ)} {out after : List ℕ} where
  -- what is given is the least schedule
  pub answer_least : ListerAnswer g units bound asked out (Ok answers.Found) after → Least g units bound asked (take (many g) after)
  unfolding RowAfter Gives
  answer_least x =
      let row = x.row.row in
      let long = x.row.is.lawful.long in
      let front : take (many g) after ≡ row =
      ap (take (many g)) x.row.written ∙ take_at row (drop (length row) out) (many g) long in
      subst (λ (t : List ℕ). Least g units bound asked t) (sym front) x.row.is

  -- none left means that none is left
  pub answer_left : ListerAnswer g units bound asked out (Ok answers.NoneLeft) after → NoneLeft g units bound asked
  unfolding RowAfter Gives
  answer_left x = x.row.none

-- a question that is not refused is asked of a sound graph
pub answer_sound : (g : Graph) (units : List ℕ) (bound : ℕ) (asked : Option (List ℕ)) (out after : List ℕ) (r : Result Listed Refusal) → refusal_of r ≡ none
    → ListerAnswer g units bound asked out r after → Sound g
answer_sound g units bound asked out after r e x =
    let passed = subst (λ (refusal : Option (ℕ × ℕ)). First (lister_checks g units bound asked (length out)) refusal) e x.first in
    let front = (first_none_append _ _ passed).0 in
    let six = (first_none_append _ (cyclic (order g)) front).0 in
    let five = (first_none_append _ (unitless g units) six).0 in
    sound g (ListerUneven g units asked) (first_none_append _ (output g (length out)) five).0

module _ (g : Graph) (units : List ℕ) (bound : ℕ) where
  lists_asked : {t : List ℕ} {rows : List (List ℕ)} → Lists g units bound (some t) rows → Asked g units bound t (t ∷ rows)
  lists_asked (Lists.stops x) = Asked.last (answer_left x)
  lists_asked (Lists.goes x l) = Asked.then (answer_least x) (lists_asked l)

  lists_sound : {asked : Option (List ℕ)} {rows : List (List ℕ)} → Lists g units bound asked rows → Sound g
  lists_sound (Lists.stops x) = answer_sound g units bound _ _ _ (Ok answers.NoneLeft) refl x
  lists_sound (Lists.goes x l) = answer_sound g units bound _ _ _ (Ok answers.Found) refl x

  lists_all : {rows : List (List ℕ)} → Lists g units bound none rows → AskedAll g units bound rows
  lists_all (Lists.stops x) = AskedAll.nothing (answer_left x)
  lists_all (Lists.goes x l) = AskedAll.from (answer_least x) (lists_asked l)

  -- from first, asking each time for the next until none is left: the answers list exactly the definition's list
  pub lists_is : (rows : List (List ℕ)) → Lists g units bound none rows → rows ≡ all_lawful g units bound
  lists_is rows l = asked_is g (lists_sound l) units bound rows (lists_all l)

-- an answer to a question that is not refused
pub record Reply (g : Graph) (units : List ℕ) (bound : ℕ) (asked : Option (List ℕ)) : Type 0 where
  pub out : List ℕ
  pub listed : Result Listed Refusal
  pub after : List ℕ
  pub answer : ListerAnswer g units bound asked out listed after
  pub passes : refusal_of listed ≡ none

-- the row asked after, if one is, has n entries
unfoldable pub Entries : ℕ → Option (List ℕ) → Type 0
Entries n none = Unit {0}
Entries n (some row) = length row ≡ n

-- what is supposed: whoever asks for the first schedule, or for the next after any row of n entries, is answered and not refused
pub record NeverRefused (g : Graph) (units : List ℕ) (bound : ℕ) : Type 0 where
  pub reply : (asked : Option (List ℕ)) → Entries (many g) asked → Reply g units bound asked

-- then the answers list the definition's list to its end
module _ (g : Graph) (units : List ℕ) (bound : ℕ) (never : NeverRefused g units bound) where
  goes_as : {asked : Option (List ℕ)} {out after u : List ℕ} {rows : List (List ℕ)} → take (many g) after ≡ u
      → ListerAnswer g units bound asked out (Ok answers.Found) after → Lists g units bound (some u) rows → Lists g units bound asked (u ∷ rows)
  goes_as {asked} {rows = rows} e x l =
      subst (λ (w : List ℕ). Lists g units bound asked (w ∷ rows)) e
      (Lists.goes x (subst (λ (w : List ℕ). Lists g units bound (some w) rows) (sym e) l))

  -- where there is a least schedule it is found
  finds : (asked : Option (List ℕ)) {u : List ℕ} {rows : List (List ℕ)} → Least g units bound asked u → Lists g units bound (some u) rows
      → (out : List ℕ) (r : Result Listed Refusal) (after : List ℕ) → ListerAnswer g units bound asked out r after → refusal_of r ≡ none → Lists g units bound asked (u ∷ rows)
  finds asked {u} least l out (Ok answers.Found) after x e = goes_as (least_one g units bound asked _ u (answer_least x) least) x l
  finds asked {u} least l out (Ok answers.NoneLeft) after x e = absurd (least_left g units bound asked u least (answer_left x))
  finds asked least l out (Err why) after x e = refused_passes why e

  -- and where none is left it is said
  ends : (asked : Option (List ℕ)) → NoneLeft g units bound asked
      → (out : List ℕ) (r : Result Listed Refusal) (after : List ℕ) → ListerAnswer g units bound asked out r after → refusal_of r ≡ none → Lists g units bound asked []
  ends asked n out (Ok answers.Found) after x e = absurd (least_left g units bound asked _ (answer_least x) n)
  ends asked n out (Ok answers.NoneLeft) after x e = Lists.stops x
  ends asked n out (Err why) after x e = refused_passes why e

  found : (asked : Option (List ℕ)) {u : List ℕ} {rows : List (List ℕ)} → Entries (many g) asked → Least g units bound asked u → Lists g units bound (some u) rows → Lists g units bound asked (u ∷ rows)
  found asked long least l = let r = never.reply asked long in finds asked least l r.out r.listed r.after r.answer r.passes

  ended : (asked : Option (List ℕ)) → Entries (many g) asked → NoneLeft g units bound asked → Lists g units bound asked []
  ended asked long n = let r = never.reply asked long in ends asked n r.out r.listed r.after r.answer r.passes

  lists_from : (asked : Option (List ℕ)) {u : List ℕ} {rows : List (List ℕ)} → Entries (many g) asked → Least g units bound asked u
      → Asked g units bound u rows → Lists g units bound asked rows
  unfolding Entries
  lists_from asked long least (Asked.last {t = u} n) = found asked long least (ended (some u) least.lawful.long n)
  lists_from asked long least (Asked.then {t = u} next r) = found asked long least (lists_from (some u) least.lawful.long next r)

  lists_rows : {rows : List (List ℕ)} → AskedAll g units bound rows → Lists g units bound none rows
  unfolding Entries
  lists_rows (AskedAll.nothing n) = ended none tt n
  lists_rows (AskedAll.from least r) = lists_from none tt least r

  sound_graph : Sound g
  unfolding Entries
  sound_graph =
      let r = never.reply none tt in
      answer_sound g units bound none r.out r.after r.listed r.passes r.answer

  -- each lawful schedule once, rising, and none left exactly when none is left
  pub lists_exactly : Lists g units bound none (all_lawful g units bound)
  lists_exactly = lists_rows (asked_all g sound_graph units bound)
