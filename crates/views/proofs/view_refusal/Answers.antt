-- Each arm gives what the checks say of the table that the channel names.
use Rattle.std.proofs.Common.{arith}
use Rattle.views.proofs.Answering.{refused_a, refused_b, refused_none}
use Rattle.views.proofs.view_refusal.Goals as goal

pub returns-in-0 : goal.returns-in-0
returns-in-0 c = refused_a _ _ _ _ _ _ c.in-0.is c.range_refusal.ensures

pub returns-in-1 : goal.returns-in-1
returns-in-1 c = refused_b _ _ _ _ _ _ c.in-1.is c.range_refusal-in-1.ensures

pub returns-in_default : goal.returns-in_default
returns-in_default c = refused_none _ _ _ _ _ (λ e. omega arith) (λ e. omega arith)
