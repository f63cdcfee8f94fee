-- What the search leaves of a question.
use Rattle.std.specs.Prelude.{List, ℕ, Ok}
use Rattle.std.proofs.Math.Option.{Option}
use Rattle.model.specs.Graph.{order}
use Rattle.model.specs.Tables.{Earliest, Latest}
use Rattle.model.specs.Listing.{Gives}
use Rattle.model.specs.declared.Listed.{Listed}
use Rattle.lister.specs.Search.{Job}

-- the search has the least schedule in the output's first entries, or found none and left the output; whatever bound the windows have
pub record Sought (j : Job) (asked : Option (List ℕ)) (before : List ℕ) (r : Listed) (after : List ℕ) : Type 0 where
  pub gives : (bound : ℕ) → Earliest (order j.graph) j.early → Latest (order j.graph) bound j.late → Gives j.graph j.units bound asked before (Ok r) after
