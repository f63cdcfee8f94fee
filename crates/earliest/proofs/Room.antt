-- What the code adds up lies within the words.
use mathlib.Core.List.{List}
use Prim.Native.Nat.{ℕ, ◌+◌, ◌*◌, ◌≤◌}
use native.Mathlib.Omega.{arith}
use Rattle.maths.specs.Rows.{at}
use Rattle.maths.specs.Count.{marks_le}
use Rattle.model.specs.Limits as limit
use Rattle.model.specs.Order.{Order, size, Closed}
use Rattle.theory.specs.order.PlacingSteps.{Part}
use Rattle.earliest.specs.Widths.{heaviest}

-- no start is above what all operations can add up to
pub start_room : {o : Order} {s : List ℕ} → Closed heaviest o → Part heaviest o s → (i : ℕ) → at s i ≤ 1 + heaviest * limit.operations
start_room {o} {s} c h i = omega (arith, h.low i, marks_le s (size o), c.few)
