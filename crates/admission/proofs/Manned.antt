-- What rules 1 to 4 leave where they say nothing: a sound graph, and a unit count for each type.
use mathlib.Core.Path.{◌≡◌}
use mathlib.Core.Bool.{Bool, true, false}
use mathlib.Core.Option.{none}
use mathlib.Core.List.{List, ◌++◌}
use Prim.Native.Nat.{ℕ}
use lib.ListN.{length}
use Rattle.maths.specs.TellLaws.{on}
use Rattle.model.specs.Graph.{Graph, Sound}
use Rattle.model.specs.Refusals.{First, shape, output}
use Rattle.theory.specs.refusals.FirstRefusal.{first_none_append}
use Rattle.theory.specs.refusals.SoundGraph.{own_not, sound}

module _ (g : Graph) (units : List ℕ) (matched : Bool) (counts : matched ≡ true → length units ≡ g.kinds) where
  -- the rows match, or the second had said so
  pub manned : First (shape g (matched ≡ false)) none → Sound g × (length units ≡ g.kinds)
  manned h = (sound g (matched ≡ false) h, counts (on matched (own_not g (matched ≡ false) h)))

  -- the same where the fifth says nothing either
  pub manned_front : (room : ℕ) → First (shape g (matched ≡ false) ++ output g room) none → Sound g × (length units ≡ g.kinds)
  manned_front room h = manned (first_none_append (shape g (matched ≡ false)) (output g room) h).0
