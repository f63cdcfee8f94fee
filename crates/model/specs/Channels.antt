-- The two channels' start tables, as they are lent, and which one a channel names.
use Rattle.std.specs.Prelude.{Bool, true, false, List, ℕ, eqb}
use Rattle.std.specs.Borrow.{Bor}

-- a table as it is lent: where it lies, and its entries
abbrev pub Table : Type 0
Table = Bor (List ℕ)

-- one of two tables, by a test
abbrev pub pick : Bool → Table → Table → Table
pick true a b = b
pick false a b = a

-- the table that a channel names: B's for 1, A's otherwise
abbrev pub chosen : Table → Table → ℕ → Table
chosen a b channel = pick (eqb channel 1) a b
