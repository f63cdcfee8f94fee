-- The product so far is at most the limit, so the next one fits; above the limit it stays above.
use Rattle.std.proofs.Common.{length}
use Rattle.lister.proofs.Product.{Multiplied}
use Rattle.lister.proofs.too_many.Given as goal

abbrev pub invariant-loop-first : goal.invariant-loop-first
invariant-loop-first l = Multiplied l.early l.late l.n l.windows (length l.yielded)
