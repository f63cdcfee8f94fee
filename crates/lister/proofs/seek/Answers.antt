-- The search answers for every row, and what it found is written.
use Rattle.std.proofs.Common.{rules, arith}
use Rattle.lister.proofs.Whole.{sought_found, sought_none}
use Rattle.lister.proofs.seek.Goals as goal

pub returns-then-found : goal.returns-then-found
returns-then-found c =
    sought_found c.args.work.now.sound c.place-found.ensures (search rules) (omega (arith, c.args.work.now.sound.few)) c.fill.ensures

pub returns : goal.returns
returns c = sought_none c.args.work.now.sound c.place-found.ensures c.if-found.false
