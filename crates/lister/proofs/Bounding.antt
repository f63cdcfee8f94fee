-- Refusal 10: within a bound that leaves latest starts the windows are known, and their product decides.
use mathlib.Core.Path.{◌≡◌, sym, subst}
use mathlib.Core.Option.{none, some}
use mathlib.Core.List.{List}
use Prim.Native.Nat.{ℕ, ◌-◌, ◌≤◌, ◌<◌}
use native.Mathlib.Omega.{arith}
use Rattle.maths.specs.Rows.{at, tabulate, tabulate_long, tabulate_at}
use Rattle.model.specs.Limits as limit
use Rattle.model.specs.Order.{Closed}
use Rattle.model.specs.Graph.{Graph, order, many}
use Rattle.model.specs.Tables.{Earliest, Mobility}
use Rattle.model.specs.Refusals.{First, product, ManyWindows, many_windows}
use Rattle.theory.specs.tables.KeepingStarts.{earliest_same, latest_same}
use Rattle.theory.specs.tables.LatestTurned.{asap_alap}
use Rattle.theory.specs.tables.OneTable.{mobility_one}
use Rattle.theory.specs.refusals.FirstRefusal.{first_says, first_silent, first_end, flat_says, flat_silent}
use Rattle.tables.specs.LatestRow.{LatestRow}
use Rattle.lister.specs.Search.{spans, Windows}

module _ (g : Graph) (closed : Closed limit.longest (order g)) (bound : ℕ) (low : bound ≤ limit.steps) (early : List ℕ) (is_early : Earliest (order g) early) {late : List ℕ} (row : LatestRow (order g) bound late) where
  pub bound_windows : Windows early late (many g)
  bound_windows = record {
    ordered = asap_alap (order g) bound early late is_early row.is;
    few = λ i b. omega (arith, row.is.within.ends i b, low, closed.positive i b);
  }

  entries : (s : List ℕ) (i : ℕ) → i < many g → at s i ≡ at (tabulate (at s) (many g)) i
  entries s i b = sym (tabulate_at (at s) (many g) i b)

  -- the windows' spans are the mobility
  mobility : Mobility g bound (spans early late (many g))
  mobility = record {
    long = tabulate_long (λ i. at late i - at early i) (many g);
    asap = tabulate (at early) (many g);
    alap = tabulate (at late) (many g);
    is_asap = record {
      long = tabulate_long (at early) (many g);
      earliest = earliest_same (order g) closed early (tabulate (at early) (many g)) (entries early) is_early;
    };
    is_alap = record {
      long = tabulate_long (at late) (many g);
      latest = latest_same (order g) closed late (tabulate (at late) (many g)) (entries late) bound row.is;
    };
    less = λ i b.
        omega (
          arith,
          tabulate_at (λ i. at late i - at early i) (many g) i b,
          tabulate_at (at late) (many g) i b,
          tabulate_at (at early) (many g) i b,
        );
  }

  -- more windows than the limit: refusal 10
  pub windows_many : limit.windows < product (spans early late (many g)) (many g) → First (many_windows g bound) (some (10, 0))
  windows_many above =
      first_says _ _ 10 0 (flat_says 10 _ (record { mobility = spans early late (many g); is = mobility; above = above }))

  few_windows : (limit.windows < product (spans early late (many g)) (many g) → ⊥) → ManyWindows g bound → ⊥
  few_windows few h =
      few
      (subst (λ (m : List ℕ). limit.windows < product m (many g))
      (mobility_one g bound h.mobility (spans early late (many g)) h.is mobility)
      h.above)

  -- no more than that
  pub windows_few : (limit.windows < product (spans early late (many g)) (many g) → ⊥) → First (many_windows g bound) none
  windows_few few = first_silent _ _ none (flat_silent 10 _ (few_windows few)) first_end
