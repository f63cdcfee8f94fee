-- The limits: the twins of src/limits.rt.
use Rattle.std.specs.Prelude.{ℕ, ◌+◌, ◌*◌}

-- the most operations
abbrev pub operations : ℕ
operations = 64

-- the most edges
abbrev pub edges : ℕ
edges = 256

-- the most types
abbrev pub kinds : ℕ
kinds = 4

-- the longest delay
abbrev pub longest : ℕ
longest = 16

-- the last step, and the largest bound
abbrev pub steps : ℕ
steps = 1024

-- the largest product of windows that the lister takes
abbrev pub windows : ℕ
windows = 1000000

-- the tally's counters, one for each step from 0 to the last and each type
abbrev pub cells : ℕ
cells = (steps + 1) * kinds
