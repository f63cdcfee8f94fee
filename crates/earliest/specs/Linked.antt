-- What the rows of a linked order stand for.
use Rattle.model.specs.Order.{Order, ordered}
use Rattle.earliest.specs.declared.LinkedOrder as linked

-- the order whose edges are linked
abbrev pub order_of : linked.LinkedOrder → Order
order_of o = ordered o.weights.now o.from.now o.to.now
