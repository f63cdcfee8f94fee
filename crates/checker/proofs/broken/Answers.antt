-- `broken` answers the lowest broken edge: one passed starts after its beginning is over.
use Rattle.std.proofs.Common.{arith}
use Rattle.maths.specs.Search.{none_further}
use Rattle.checker.proofs.broken.Goals as goal

pub loop-e-preserved : goal.loop-e-preserved
loop-e-preserved c = λ busy types kinds.
    none_further (c.loop-e.invariant busy types kinds) (λ b. omega (arith, b.early, c.if-starts-target.false))

pub returns : goal.returns
returns c = λ busy types kinds k l. c.loop-e.invariant busy types kinds k (omega arith)
