-- Each arm gives a part of the table that the channel names, as `part` cut it.
use Rattle.std.proofs.Common.{rules, arith}
use Rattle.views.proofs.Answering.{viewed_a, viewed_b, viewed_none}
use Rattle.views.proofs.view.Goals as goal

pub returns-in-0 : goal.returns-in-0
returns-in-0 c = viewed_a _ _ _ _ _ _ c.in-0.is c.part.ensures

pub returns-in-1 : goal.returns-in-1
returns-in-1 c = viewed_b _ _ _ _ _ _ c.in-1.is c.part-in-1.ensures

pub returns-in_default : goal.returns-in_default
returns-in_default c = viewed_none _ _ _ _ _ _ (λ e. omega arith) (λ e. omega arith) (search rules)
