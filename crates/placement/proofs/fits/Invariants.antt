-- The edges passed whose higher end is i are kept. The link falls.
use Rattle.edge_links.specs.Linking.{link_of}
use Rattle.edge_links.specs.WalkedBack.{WalkedBack}
use Rattle.placement.specs.Fit.{highers}
use Rattle.placement.proofs.HigherEnds.{EdgeInTime}
use Rattle.placement.proofs.fits.Given as goal

abbrev pub invariant-loop-edge : goal.invariant-loop-edge
invariant-loop-edge l = WalkedBack (highers l.work.from.now l.work.to.now) l.i (EdgeInTime l.work.delays.now l.work.from.now l.work.to.now l.starts) (link_of l.edge)

abbrev pub decreases-loop-edge : goal.decreases-loop-edge
decreases-loop-edge l = link_of l.edge
