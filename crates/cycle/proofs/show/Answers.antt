-- What is written in front, read off the trail, is the cycle shown.
use Rattle.cycle.proofs.Showing.{shows}
use Rattle.cycle.proofs.show.Goals as goal

pub returns : goal.returns
returns c =
    rw c.long.ensures (shows c.args.order.now.closed c.trail-walked.ensures c.requires.room c.lowest.ensures c.write.ensures)
