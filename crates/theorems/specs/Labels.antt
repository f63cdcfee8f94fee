-- What labels say: along an edge they fall by the weight at least, where no edge leaves they are the weight, and a graph's labels count operations.
use Rattle.std.specs.Prelude.{◌≡◌, refl, ℕ, ◌+◌, ◌≤◌, ◌<◌}
use Rattle.std.proofs.Common.{subst, arith}
use Rattle.model.specs.Order.{Order, weight, Closed, Edge}
use Rattle.model.specs.Graph.{Graph, order, many}
use Rattle.model.specs.Rule.{Chain, alone, then, Label, label_order}
use Rattle.theory.specs.list.LabelValues.{label_size, label_weight}

-- an operation is labelled with its own weight and more than the label of whatever it leads to
pub label_edge : (o : Order) (i j m n : ℕ) → Edge o i j → Label o i m → Label o j n → weight o i + n ≤ m
label_edge o i j m n e h k = h.longest (weight o i + n) (then e k.chain)

-- where no edge leaves, a chain ends at once
sink_chain : {o : Order} {i n : ℕ} → ((j : ℕ) → Edge o i j → ⊥) → Chain o i n → n ≡ weight o i
sink_chain none (alone l) = refl
sink_chain none (then e chain) = absurd (none _ e)

-- so the label is the weight, and two sinks of different weights do not tie
pub label_sink : (o : Order) (i n : ℕ) → ((j : ℕ) → Edge o i j → ⊥) → Label o i n → n ≡ weight o i
label_sink o i n none h = sink_chain none h.chain

-- ---- a graph's labels
-- a chain of operations along edges from i to the end, and how many they are
pub data CountedChain (g : Graph) : ℕ → ℕ → Type 0 where
  last : {i : ℕ} → i < many g → CountedChain g i 1
  before : {i j n : ℕ} → Edge (order g) i j → CountedChain g j n → CountedChain g i (n + 1)

module _ (g : Graph) {heaviest : ℕ} (c : Closed heaviest (order g)) where
  -- an edge leaves an operation
  leaves : {i j : ℕ} → Edge (order g) i j → i < many g
  leaves e = subst (λ (i : ℕ). i < many g) e.leaves (c.source_in e.number e.inside)

  -- the weights on a chain add up to the number of its operations
  pub chain_counts : {i n : ℕ} → Chain (label_order g) i n → CountedChain g i n
  chain_counts (alone {i = i} l) =
      let inside : i < many g = omega (arith, label_size g) in
      let one : 1 ≡ weight (label_order g) i = omega (arith, label_weight g i inside) in
      subst (CountedChain g i) one (last inside)
  chain_counts (then {i = i} {j = j} {n = n} e chain) =
      let edge : Edge (order g) i j = record { number = e.number; inside = e.inside; leaves = e.leaves; enters = e.enters } in
      let more : n + 1 ≡ weight (label_order g) i + n = omega (arith, label_weight g i (leaves edge)) in
      subst (CountedChain g i) more (before edge (chain_counts chain))

  -- and every chain of operations is one of weights
  pub counts_chain : {i n : ℕ} → CountedChain g i n → Chain (label_order g) i n
  counts_chain (last {i = i} l) =
      let one : weight (label_order g) i ≡ 1 = omega (arith, label_weight g i l) in
      subst (Chain (label_order g) i) one (alone (omega (arith, label_size g)))
  counts_chain (before {i = i} {j = j} {n = n} e chain) =
      let edge : Edge (label_order g) i j = record { number = e.number; inside = e.inside; leaves = e.leaves; enters = e.enters } in
      let more : weight (label_order g) i + n ≡ n + 1 = omega (arith, label_weight g i (leaves e)) in
      subst (Chain (label_order g) i) more (then edge (counts_chain chain))
