-- How wide the numbers are: weights have 16 bits, starts have 32.
use Rattle.std.specs.Prelude.{ℕ, ◌+◌, ◌*◌, ◌≤◌}
use Rattle.std.proofs.Common.{arith}
use Rattle.model.specs.Limits as limit

-- the heaviest weight: what 16 bits hold. Whoever asks for earliest starts has weights up to some number below it
abbrev pub heaviest : ℕ
heaviest = 65535

-- the last step that 32 bits hold
abbrev pub last_step : ℕ
last_step = 4294967295

-- what all operations can add up to is such a step, with one weight more too
pub steps_fit : 1 + heaviest * limit.operations + heaviest ≤ last_step
steps_fit = omega arith
