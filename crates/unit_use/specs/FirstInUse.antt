-- Units in use, by all that unit use reads of a graph: busy times and types.
use Rattle.std.specs.Prelude.{◌≡◌, refl, List, [], ℕ}
use Rattle.model.specs.Graph.{Graph}
use Rattle.model.specs.Use.{runs}
use Rattle.theory.specs.unit_use.RunningAndPeak.{running_first}

-- what unit use reads of a graph
abbrev pub users : List ℕ → List ℕ → Graph
users busy types = record { delays = []; busy = busy; types = types; kinds = 0; from = []; to = [] }

-- how many of the first m operations are of type k and running at step l
abbrev pub first_in_use : List ℕ → List ℕ → List ℕ → ℕ → ℕ → ℕ → ℕ
first_in_use busy types t k l m = running_first (users busy types) t m k l

-- what unit use reads of a graph is all that it goes by
pub in_use_is : (g : Graph) (t : List ℕ) (k l m : ℕ) → first_in_use g.busy g.types t k l m ≡ running_first g t m k l
unfolding runs
in_use_is g t k l m = refl
