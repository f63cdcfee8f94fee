-- Which rows of the table each question checks. A question that is added adds a line here.
use Rattle.std.specs.Prelude.{◌≡◌, List, ◌++◌, ℕ, length}
use Rattle.std.proofs.Math.Option.{Option}
use Rattle.model.specs.Graph.{Graph, order, many}
use Rattle.model.specs.Refusals.{Check, CheckUneven, ListerUneven, shape, output, unitless, cyclic, large_bound, late_bound, many_windows, outside, unnamed_channel, past_table}
use Rattle.model.specs.Channels.{Table, chosen}

-- ASAP: 1 to 5 and 7
abbrev pub asap_checks : Graph → ℕ → List Check
asap_checks g room = shape g ⊥ ++ output g room ++ cyclic (order g)

-- ALAP and mobility: also 8 and 9
abbrev pub alap_checks : Graph → ℕ → ℕ → List Check
alap_checks g bound room = shape g ⊥ ++ output g room ++ cyclic (order g) ++ large_bound bound ++ late_bound (order g) bound

-- the list schedule: 1 to 7
abbrev pub list_checks : Graph → List ℕ → ℕ → List Check
list_checks g units room = shape g (length units ≡ g.kinds → ⊥) ++ output g room ++ unitless g units ++ cyclic (order g)

-- the checker: 1 to 4, 6, 7 and 8
abbrev pub check_checks : Graph → List ℕ → ℕ → List ℕ → List Check
check_checks g units bound t = shape g (CheckUneven g units t) ++ unitless g units ++ cyclic (order g) ++ large_bound bound

-- peak use: 1 to 4 and 7
abbrev pub peak_checks : Graph → List ℕ → List Check
peak_checks g t = shape g (length t ≡ many g → ⊥) ++ cyclic (order g)

-- the lister: 1 to 10
abbrev pub lister_checks : Graph → List ℕ → ℕ → Option (List ℕ) → ℕ → List Check
lister_checks g units bound asked room =
    shape g (ListerUneven g units asked)
    ++ output g room
    ++ unitless g units
    ++ cyclic (order g)
    ++ large_bound bound
    ++ late_bound (order g) bound
    ++ many_windows g bound

-- the advance: 1 to 4, 6, 7 and then 11
abbrev pub advance_checks : Graph → List ℕ → List ℕ → ℕ → List Check
advance_checks g units t step = shape g (length units ≡ g.kinds → ⊥) ++ unitless g units ++ cyclic (order g) ++ outside g t step

-- the views: 12 and 13
abbrev pub view_checks : Table → Table → ℕ → ℕ → ℕ → List Check
view_checks a b channel first count = unnamed_channel channel ++ past_table (length (chosen a b channel).now) first count
