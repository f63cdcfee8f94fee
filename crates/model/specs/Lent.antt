-- What the rows that are lent stand for.
use Rattle.std.specs.Prelude.{◌≡◌, length, List, ℕ}
use Rattle.std.specs.Borrow.{Bor}
use Rattle.model.specs.Order.{Order, ordered}
use Rattle.model.specs.Graph.{Graph, graph_of, lent}
use Rattle.model.specs.declared.graph.Graph as graph
use Rattle.model.specs.declared.order.Order as order
use Rattle.model.specs.declared.work.Work as work

-- the graph of the rows that a caller lends: an operation keeps its unit for its delay
abbrev pub graph_in : graph.Graph → Graph
graph_in g = lent g.delays.now g.types.now g.kinds g.from.now g.to.now

-- the order of its rows
abbrev pub order_in : order.Order → Order
order_in o = ordered o.weights.now o.from.now o.to.now

-- the graph of its rows: it has as many types as there are unit counts
abbrev pub work_in : work.Work → Graph
work_in w = graph_of w.delays.now w.busy.now w.types.now (length w.units.now) w.from.now w.to.now

-- o's rows are g's own, each where it is lent: the same entries in the same memory
pub record OrderRows (g : graph.Graph) (o : order.Order) : Type 0 where
  pub weights : o.weights ≡ g.delays
  pub from : o.from ≡ g.from
  pub to : o.to ≡ g.to

-- w's rows are g's own and the unit counts, each where it is lent, and its busy times are the delays
pub record WorkRows (g : graph.Graph) (counts : Bor (List ℕ)) (w : work.Work) : Type 0 where
  pub delays : w.delays ≡ g.delays
  pub busy : w.busy ≡ g.delays
  pub types : w.types ≡ g.types
  pub units : w.units ≡ counts
  pub from : w.from ≡ g.from
  pub to : w.to ≡ g.to

-- t's rows are o's own, each where it is lent, the two rows of ends exchanged
pub record TurnedRows (o t : order.Order) : Type 0 where
  pub weights : t.weights ≡ o.weights
  pub from : t.from ≡ o.to
  pub to : t.to ≡ o.from
