-- One answer: any two rows that the contract of `higher_links` allows are equal.
use Rattle.std.specs.Prelude.{◌≡◌, List, ℕ}
use Rattle.edge_links.specs.Linking.{Linked}
use Rattle.edge_links.specs.OneAnswer.{link_one}
use Rattle.placement.specs.Fit.{highers}

-- of `higher_links`: the higher ends are one row, and a row of ends has one row of links
pub higher_links_one : (from to a b : List ℕ) → Linked (highers from to) a → Linked (highers from to) b → a ≡ b
higher_links_one from to a b x y = link_one (highers from to) a b x y
