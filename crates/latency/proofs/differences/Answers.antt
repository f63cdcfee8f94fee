-- Before the first entry the row is zeros.
use Rattle.std.proofs.Common.{rules, arith}
use Rattle.maths.specs.Rows.{blank}
use Rattle.model.specs.Limits as limit
use Rattle.latency.proofs.differences.Goals as goal

pub loop-i-init : goal.loop-i-init
loop-i-init c = record { long = search rules; less = λ i l. absurd (omega arith); rest = λ i l. blank limit.operations i }
