-- Busy times today: an operation keeps its unit for its delay, so what is sound for precedence is sound for unit use.
use Rattle.std.specs.Prelude.{refl, List, ℕ}
use Rattle.std.proofs.Common.{arith}
use Rattle.model.specs.Graph.{lent, Sound, BusySound}

-- the busy times of a graph that is lent are its delays
pub busy_lent : {delays types : List ℕ} {kinds : ℕ} {from to : List ℕ} → Sound (lent delays types kinds from to) → BusySound (lent delays types kinds from to)
busy_lent s = record { even = refl; from_one = s.delay_from; to_delay = λ i l. omega arith }
