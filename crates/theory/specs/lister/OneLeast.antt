-- There is one least schedule after a row at most; where there is one, one is left.
use Rattle.std.specs.Prelude.{◌≡◌, List, ℕ}
use Rattle.std.proofs.Common.{⊎_elim}
use Rattle.std.proofs.Math.Option.{Option}
use Rattle.maths.specs.WordLaws.{compare, same_list}
use Rattle.model.specs.Graph.{Graph, many}
use Rattle.model.specs.Listing.{Least, NoneLeft}

module _ (g : Graph) (units : List ℕ) (bound : ℕ) where
  -- ---- one answer
  -- there is one least schedule at most
  pub least_one : (asked : Option (List ℕ)) (t u : List ℕ) → Least g units bound asked t → Least g units bound asked u → t ≡ u
  least_one asked t u a b =
      ⊎_elim
      (λ x. absurd (b.none_between t a.lawful a.later x))
      (λ y.
      ⊎_elim
      (λ s. same_list a.lawful.long b.lawful.long s)
      (λ x. absurd (a.none_between u b.lawful b.later x))
      y)
      (compare (many g) t u)

  -- where there is one, one is left
  pub least_left : (asked : Option (List ℕ)) (t : List ℕ) → Least g units bound asked t → NoneLeft g units bound asked → ⊥
  least_left asked t a n = n.none_later t a.lawful a.later
