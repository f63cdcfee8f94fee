-- One answer: any two orders, and any two works, that a contract of `model` allows are equal, in their entries and in where these lie.
use Rattle.std.specs.Prelude.{◌≡◌, List, ℕ, length}
use Rattle.std.specs.Borrow.{Bor}
use Rattle.std.proofs.Common.{sym, ◌∙◌}
use Rattle.std.proofs.Props.{props}
use mathlib.Core.HLevel.{is_prop→PathP}
use Rattle.model.specs.Limits as limit
use Rattle.model.specs.Order.{Closed, ordered}
use Rattle.model.specs.Graph.{Sound, BusySound, graph_of}
use Rattle.model.specs.Lent.{OrderRows, WorkRows, TurnedRows}
use Rattle.model.specs.declared.graph.Graph as graph
use Rattle.model.specs.declared.order.Order as order
use Rattle.model.specs.declared.work.Work as work

-- what is known of an order's rows is known in one way
closed_prop : (w f t : List ℕ) → IsProp (Closed limit.longest (ordered w f t))
closed_prop w f t = hlevel props

-- orders of the same rows are one order
same_order : (a b : order.Order) → a.weights ≡ b.weights → a.from ≡ b.from → a.to ≡ b.to → a ≡ b
same_order a b w f t = λ i. record {
  weights = w i;
  from = f i;
  to = t i;
  closed = is_prop→PathP (λ j. Closed limit.longest (ordered (w j).now (f j).now (t j).now)) (λ j. closed_prop (w j).now (f j).now (t j).now) a.closed b.closed i;
}

-- of `Graph::order`
pub order_one : (g : graph.Graph) (a b : order.Order) → OrderRows g a → OrderRows g b → a ≡ b
order_one g a b x y = same_order a b (x.weights ∙ sym y.weights) (x.from ∙ sym y.from) (x.to ∙ sym y.to)

-- of `Order::turned`
pub order_turned_one : (o a b : order.Order) → TurnedRows o a → TurnedRows o b → a ≡ b
order_turned_one o a b x y = same_order a b (x.weights ∙ sym y.weights) (x.from ∙ sym y.from) (x.to ∙ sym y.to)

-- the same of a work, whose graph and busy times are sound
sound_prop : (d b k u f t : List ℕ) → IsProp (Sound (graph_of d b k (length u) f t))
sound_prop d b k u f t = hlevel props

busy_prop : (d b k u f t : List ℕ) → IsProp (BusySound (graph_of d b k (length u) f t))
busy_prop d b k u f t = hlevel props

-- works of the same rows are one work
module _ (a b : work.Work) (d : a.delays ≡ b.delays) (y : a.busy ≡ b.busy) (k : a.types ≡ b.types) (u : a.units ≡ b.units) (f : a.from ≡ b.from)
    (t : a.to ≡ b.to) where
  same_work : a ≡ b
  same_work = λ i. record {
    delays = d i;
    busy = y i;
    types = k i;
    units = u i;
    from = f i;
    to = t i;
    sound = is_prop→PathP (λ j. Sound (graph_of (d j).now (y j).now (k j).now (length (u j).now) (f j).now (t j).now)) (λ j. sound_prop (d j).now (y j).now (k j).now (u j).now (f j).now (t j).now) a.sound b.sound i;
    busy_sound = is_prop→PathP (λ j. BusySound (graph_of (d j).now (y j).now (k j).now (length (u j).now) (f j).now (t j).now)) (λ j. busy_prop (d j).now (y j).now (k j).now (u j).now (f j).now (t j).now) a.busy_sound b.busy_sound i;
  }

-- of `Graph::work`
pub work_one : (g : graph.Graph) (counts : Bor (List ℕ)) (a b : work.Work) → WorkRows g counts a → WorkRows g counts b → a ≡ b
work_one g counts a b x y =
    same_work a b (x.delays ∙ sym y.delays) (x.busy ∙ sym y.busy) (x.types ∙ sym y.types) (x.units ∙ sym y.units) (x.from ∙ sym y.from) (x.to ∙ sym y.to)
