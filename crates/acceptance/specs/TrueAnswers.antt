-- Every entry point's answer at case 9 with one unit: two operations, one type, delay 1, bound 2. Each is built from the definitions, by computing where they compute.
use Rattle.std.specs.Prelude.{◌≡◌, refl, List, [], ◌∷◌, ◌++◌, ℕ, zero, suc, ◌+◌, ◌-◌, ◌≤◌, ◌<◌, replicate, Ok}
use Rattle.std.proofs.Math.Option.{Option, none, some}
use Rattle.std.proofs.Common.{⊎_elim, arith}
use Rattle.maths.specs.Tests.{◌and◌, ◌or◌, neg}
use Rattle.maths.specs.Rows.{at, tabulate}
use Rattle.maths.specs.Sum.{sum}
use Rattle.maths.specs.Count.{every}
use Rattle.maths.specs.Words.{joined, words, keep}
use Rattle.maths.specs.WordLaws.{is_before}
use Rattle.model.specs.Limits as limit
use Rattle.model.specs.Graph.{Graph, order, Sound}
use Rattle.model.specs.Tables.{Latency}
use Rattle.model.specs.Use.{runs, running, Peak}
use Rattle.theory.specs.unit_use.RunningAndPeak.{running_le, running_none}
use Rattle.model.specs.Refusals.{First, shape, output, unitless, cyclic, large_bound, late_bound, product, ListerUneven}
use Rattle.theory.specs.refusals.FirstRefusal.{first_pass, first_silent, first_end, flat_silent}
use Rattle.theory.specs.refusals.SoundGraph.{closed}
use Rattle.model.specs.Answers.{RowAfter, AsapAnswer, AlapAnswer, MobilityAnswer}
use Rattle.model.specs.Verdicts.{Counts, PeakAnswer}
use Rattle.model.specs.Order.{weight}
use Rattle.model.specs.Rule.{Chain, Label, Labels, label_order, finished, blocks, candidate, ahead, starts_now, stepped, after, ListStarts}
use Rattle.model.specs.Scheduling.{ListAnswer, StateAfter, AdvanceAnswer}
use Rattle.model.specs.Listing.{is_lawful, Least, Gives, ListerAnswer, Asked, AskedAll}
use Rattle.model.specs.Checks.{asap_checks, alap_checks, lister_checks}
use Rattle.theorems.specs.AllListed.{asked_all, Gets, next_gets}
use Rattle.model.specs.declared.Listed.TheVariants as listed
use Rattle.acceptance.specs.Passing.{is_sound, is_sound_tells, shape_passes, output_passes, units_pass, cyclic_passes, large_passes, late_passes, windows_pass, tenth_decides}
use Rattle.acceptance.specs.Free.{plain_graph, two_starts, free_asap, free_alap, free_mobility, below_two}
use Rattle.acceptance.specs.Starred.{single}

-- two operations of type 0 and delay 1, without edges
abbrev pub pair : Graph
pair = plain_graph 2 [] []

-- an output row, lent with sevens in it
abbrev pub sevens : List ℕ
sevens = two_starts 7 7

-- a start for each of the 64 that a state holds
abbrev pub state : ℕ → ℕ → List ℕ
state a b = a ∷ (b ∷ replicate (limit.operations - 2) 0)

pair_sound : Sound pair
unfolding is_sound every ◌and◌
pair_sound = is_sound_tells pair refl

-- ---- no refusal applies
pair_front : (Own : Type 0) → (Own → ⊥) → First (shape pair Own ++ output pair 2) none
pair_front Own even =
    first_pass (shape pair Own) (output pair 2) none (shape_passes pair Own pair_sound even) (output_passes pair 2 (omega arith))

pair_cyclic : First (cyclic (order pair)) none
pair_cyclic = cyclic_passes (order pair) (closed pair pair_sound) _ (free_asap 2).earliest.keeps

pair_units : First (unitless pair single) none
unfolding every ◌and◌
pair_units = units_pass pair single refl

asap_passes : First (asap_checks pair 2) none
asap_passes = first_pass (shape pair ⊥ ++ output pair 2) (cyclic (order pair)) none (pair_front ⊥ (λ x. x)) pair_cyclic

alap_passes : First (alap_checks pair 2 2) none
alap_passes =
    first_pass (asap_checks pair 2) _ none asap_passes
    (first_pass (large_bound 2) (late_bound (order pair) 2) none (large_passes 2 (omega arith))
    (late_passes (order pair) 2 _ (free_alap 2).latest.keeps (free_alap 2).latest.within))

-- ---- the tables
pub asap_true : AsapAnswer pair sevens (Ok tt) (two_starts 1 1)
unfolding RowAfter
asap_true = record { first = asap_passes; row = record { row = two_starts 1 1; is = free_asap 2; written = refl } }

pub alap_true : AlapAnswer pair 2 sevens (Ok tt) (two_starts 2 2)
unfolding RowAfter
alap_true = record { first = alap_passes; row = record { row = two_starts 2 2; is = free_alap 2; written = refl } }

pub mobility_true : MobilityAnswer pair 2 sevens (Ok tt) (two_starts 1 1)
unfolding RowAfter
mobility_true = record { first = alap_passes; row = record { row = two_starts 1 1; is = free_mobility 2; written = refl } }

-- ---- the list schedule and its advance
-- without edges every chain is of one operation
chain_alone : {i n : ℕ} → Chain (label_order pair) i n → n ≡ weight (label_order pair) i
chain_alone (Chain.alone l) = refl
chain_alone (Chain.then e c) = absurd (omega (arith, e.inside))

pair_labels : Labels (label_order pair) (two_starts 1 1)
pair_labels = record {
  each = λ i l.
      below_two (λ (i : ℕ). Label (label_order pair) i (at (two_starts 1 1) i))
      (record { chain = Chain.alone (omega arith); longest = λ m c. omega (arith, chain_alone c) })
      (record { chain = Chain.alone (omega arith); longest = λ m c. omega (arith, chain_alone c) })
      i
      l;
}

pair_latency : Latency (order pair) (two_starts 1 2) 2
pair_latency = record {
  within = record {
    ends = below_two (λ (i : ℕ). at (two_starts 1 2) i + at (two_starts 1 1) i ≤ 3) (omega arith) (omega arith);
  };
  least = λ b w. omega (arith, w.ends 1 (omega arith));
}

pair_list : ListStarts pair single (two_starts 1 2)
unfolding after stepped tabulate starts_now candidate blocks finished ahead runs sum ◌and◌ ◌or◌ neg
pair_list = record {
  labels = two_starts 1 1;
  are_labels = pair_labels;
  rounds = 2;
  all = record {
    each = below_two (λ (i : ℕ). 1 ≤ at (after pair (two_starts 1 1) single 2) i) (omega arith) (omega arith);
  };
  is = refl;
}

pub list_true : ListAnswer pair single sevens (Ok 2) (two_starts 1 2)
unfolding RowAfter
list_true = record {
  first = first_pass ((shape pair _ ++ output pair 2) ++ unitless pair single) (cyclic (order pair)) none
      (first_pass (shape pair _ ++ output pair 2) (unitless pair single) none (pair_front _ (λ n. n refl)) pair_units)
      pair_cyclic;
  row = record { starts = two_starts 1 2; are = pair_list; ends = pair_latency; written = refl };
}

-- the first of the two starts at step 1, and the second has no unit
pub advance_true : AdvanceAnswer pair single (state 0 0) 1 none (state 1 0) 2
unfolding StateAfter stepped tabulate starts_now candidate blocks finished ahead runs sum ◌and◌ ◌or◌ neg
advance_true = record {
  first = first_pass ((shape pair _ ++ unitless pair single) ++ cyclic (order pair)) _ none
      (first_pass (shape pair _ ++ unitless pair single) (cyclic (order pair)) none
      (first_pass (shape pair _) (unitless pair single) none (shape_passes pair _ pair_sound (λ n. n refl)) pair_units)
      pair_cyclic)
      (first_silent _ _ none (flat_silent 11 _ (λ h. ⊎_elim (λ l. omega arith) (λ l. omega arith) h.out)) first_end);
  state = (
    λ all. absurd (omega (arith, all.each 0 (omega arith))),
    λ not. record { labels = two_starts 1 1; are_labels = pair_labels; starts = refl; further = refl },
  );
}

-- ---- peak use of two that start together
-- only type 0 is in use
pair_unused : (k : ℕ) → 1 ≤ k → (l : ℕ) → running pair (two_starts 1 1) k l ≡ 0
pair_unused k p l =
    running_none pair (two_starts 1 1) k l
    (λ i b h. below_two (λ (i : ℕ). at (two_starts 0 0) i ≡ k → ⊥) (λ e. omega arith) (λ e. omega arith) i b h.kind)

pair_none : (k : ℕ) → 1 ≤ k → Peak pair (two_starts 1 1) k 0
pair_none k p = record {
  never_more = λ l. omega (arith, pair_unused k p l);
  at_step = 0;
  met = pair_unused k p 0;
}

-- two units of type 0, and none of the others
abbrev pub peaks : List ℕ
peaks = 2 ∷ (0 ∷ two_starts 0 0)

pub peak_true : PeakAnswer pair (two_starts 1 1) (Ok peaks)
unfolding Counts runs sum ◌and◌
peak_true = record {
  first = first_pass (shape pair _) (cyclic (order pair)) none (shape_passes pair _ pair_sound (λ n. n refl)) pair_cyclic;
  counts = record { long = refl; each = each };
}
  where
    each : (k : ℕ) → k < 4 → Peak pair (two_starts 1 1) k (at peaks k)
    each zero l = record { never_more = running_le pair (two_starts 1 1) 0; at_step = 1; met = refl }
    each (suc zero) l = pair_none 1 (omega arith)
    each (suc (suc zero)) l = pair_none 2 (omega arith)
    each (suc (suc (suc zero))) l = pair_none 3 (omega arith)
    each (suc (suc (suc (suc k)))) l = absurd (omega arith)

-- ---- the lister: (1,2), then (2,1), then none
-- what is asked first is in front of the definition's list
asked_first : {g : Graph} {units : List ℕ} {bound : ℕ} {t : List ℕ} {rows : List (List ℕ)} → AskedAll g units bound (t ∷ rows) → Least g units bound none t
asked_first (AskedAll.from least (Asked.last n)) = least
asked_first (AskedAll.from least (Asked.then next r)) = least

lister_passes : (asked : Option (List ℕ)) → (ListerUneven pair single asked → ⊥) → First (lister_checks pair single 2 asked 2) none
unfolding product every ◌and◌
lister_passes asked even =
    tenth_decides pair 2 _ (free_mobility 2) pair_sound (omega arith) single refl asked even 2 (omega arith) none
    (windows_pass pair 2 _ (free_mobility 2) (omega arith))

even_pair : (a b : ℕ) → ListerUneven pair single (some (two_starts a b)) → ⊥
unfolding ListerUneven
even_pair a b = ⊎_elim (λ n. n refl) (λ n. n refl)

pub first_true : ListerAnswer pair single 2 none sevens (Ok listed.Found) (two_starts 1 2)
unfolding RowAfter Gives ListerUneven is_lawful words joined keep every sum runs ◌and◌
first_true = record {
  first = lister_passes none (λ n. n refl);
  row = record { row = two_starts 1 2; is = asked_first (asked_all pair pair_sound single 2); written = refl };
}

pub next_true : ListerAnswer pair single 2 (some (two_starts 1 2)) sevens (Ok listed.Found) (two_starts 2 1)
unfolding RowAfter Gives Gets is_lawful words joined keep every sum runs is_before ◌and◌ ◌or◌
next_true = record {
  first = lister_passes (some (two_starts 1 2)) (even_pair 1 2);
  row = record { row = two_starts 2 1; is = next_gets pair pair_sound single 2 (two_starts 1 2) refl; written = refl };
}

pub last_true : ListerAnswer pair single 2 (some (two_starts 2 1)) sevens (Ok listed.NoneLeft) sevens
unfolding RowAfter Gives Gets is_lawful words joined keep every sum runs is_before ◌and◌ ◌or◌
last_true = record {
  first = lister_passes (some (two_starts 2 1)) (even_pair 2 1);
  row = record { none = next_gets pair pair_sound single 2 (two_starts 2 1) refl; kept = refl };
}
