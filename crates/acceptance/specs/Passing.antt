-- What passes the checks: of a small graph, computing tells; and one schedule within the bound shows that there is no cycle and that the bound is not too small.
use Rattle.std.specs.Prelude.{◌≡◌, Bool, true, List, ℕ, ◌≤◌, ◌<◌, leb, ltb, eqb, length}
use Rattle.std.proofs.Common.{subst, arith}
use Rattle.std.proofs.Math.Option.{Option, none, some}
use Rattle.maths.specs.Tests.{◌and◌}
use Rattle.maths.specs.TellLaws.{tells_le, tells_lt, tells_eq, tells_both, tells_every}
use Rattle.maths.specs.Rows.{at}
use Rattle.maths.specs.Count.{every}
use Rattle.model.specs.Limits as limit
use Rattle.model.specs.Order.{Order, Closed}
use Rattle.model.specs.Graph.{Graph, order, many, edges_of, delay, type_of, Sound}
use Rattle.model.specs.Tables.{Keeps, Within, Mobility}
use Rattle.theory.specs.tables.KeepingStarts.{keeps_acyclic}
use Rattle.theory.specs.tables.OneTable.{mobility_one}
use Rattle.theory.specs.cycle.SomeShown.{shown_cyclic}
use Rattle.model.specs.Refusals.{First, Late, shape, output, unitless, cyclic, large_bound, late_bound, many_windows, product, ManyWindows, ListerUneven}
use Rattle.theory.specs.refusals.FirstRefusal.{first_pass, first_says, first_silent, first_end, flat_says, flat_silent, at_lowest_silent}
use Rattle.theory.specs.refusals.SoundGraph.{not_large, not_uneven, good_operation, good_edge, shape_silent, closed}
use Rattle.model.specs.Checks.{lister_checks}

-- within the limits, rows that match, and every entry in its range: `Sound`, as a test
unfoldable pub is_sound : Graph → Bool
is_sound g =
    leb (many g) limit.operations
    and (leb (edges_of g) limit.edges
    and (leb g.kinds limit.kinds
    and (eqb (many g) (length g.types)
    and (eqb (edges_of g) (length g.to)
    and (every (λ i. leb 1 (delay g i) and (leb (delay g i) limit.longest and ltb (type_of g i) g.kinds)) (many g)
    and every (λ e. ltb (at g.from e) (many g) and ltb (at g.to e) (many g)) (edges_of g))))))

-- the test tells
pub is_sound_tells : (g : Graph) → is_sound g ≡ true → Sound g
unfolding is_sound
is_sound_tells g e =
    let all =
    (tells_both _ _ (tells_le (many g) limit.operations)
    (tells_both _ _ (tells_le (edges_of g) limit.edges)
    (tells_both _ _ (tells_le g.kinds limit.kinds)
    (tells_both _ _ (tells_eq (many g) (length g.types))
    (tells_both _ _ (tells_eq (edges_of g) (length g.to))
    (tells_both _ _
    (tells_every _ (λ i. (1 ≤ delay g i) × ((delay g i ≤ limit.longest) × (type_of g i < g.kinds))) (many g)
    (λ i l. tells_both _ _ (tells_le 1 (delay g i)) (tells_both _ _ (tells_le (delay g i) limit.longest) (tells_lt (type_of g i) g.kinds))))
    (tells_every _ (λ e. (at g.from e < many g) × (at g.to e < many g)) (edges_of g)
    (λ e l. tells_both _ _ (tells_lt (at g.from e) (many g)) (tells_lt (at g.to e) (many g)))))))))
    ).yes e in
    record {
      few = all.0;
      few_edges = all.1.0;
      few_kinds = all.1.1.0;
      even_types = all.1.1.1.0;
      even_ends = all.1.1.1.1.0;
      delay_from = λ i l. (all.1.1.1.1.1.0 i l).0;
      delay_to = λ i l. (all.1.1.1.1.1.0 i l).1.0;
      type_in = λ i l. (all.1.1.1.1.1.0 i l).1.1;
      source_in = λ e l. (all.1.1.1.1.1.1 e l).0;
      target_in = λ e l. (all.1.1.1.1.1.1 e l).1;
    }

-- a sound graph whose other rows match passes refusals 1 to 4
pub shape_passes : (g : Graph) (Own : Type 0) → Sound g → (Own → ⊥) → First (shape g Own) none
shape_passes g Own s even =
    shape_silent g Own
    (not_large s.few s.few_edges s.few_kinds)
    (not_uneven s.even_types s.even_ends even)
    (λ i l. good_operation (s.delay_from i l) (s.delay_to i l) (s.type_in i l))
    (λ e l. good_edge (s.source_in e l) (s.target_in e l))

-- the fifth: the output has room
pub output_passes : (g : Graph) (room : ℕ) → many g ≤ room → First (output g room) none
output_passes g room l = first_silent _ _ none (flat_silent 5 _ (λ m. omega arith)) first_end

-- the sixth: every type has a unit
pub units_pass : (g : Graph) (units : List ℕ) → every (λ k. leb 1 (at units k)) g.kinds ≡ true → First (unitless g units) none
units_pass g units e =
    let each = (tells_every _ (λ k. 1 ≤ at units k) g.kinds (λ k l. tells_le 1 (at units k))).yes e in
    first_silent _ _ none (at_lowest_silent 6 g.kinds _ (λ k l h. omega (arith, each k l, h.none))) first_end

-- the seventh: starts that keep the order rise along every walk
pub cyclic_passes : {heaviest : ℕ} (o : Order) → Closed heaviest o → (t : List ℕ) → Keeps o t → First (cyclic o) none
cyclic_passes o c t k =
    first_silent _ _ none (λ number place h. keeps_acyclic o c t k (shown_cyclic h.shown)) first_end

-- the eighth: the bound is within the last step
pub large_passes : (bound : ℕ) → bound ≤ limit.steps → First (large_bound bound) none
large_passes bound l = first_silent _ _ none (flat_silent 8 _ (λ m. omega arith)) first_end

-- the ninth: starts that keep the order within the bound leave the earliest ones room
pub late_passes : (o : Order) (bound : ℕ) (t : List ℕ) → Keeps o t → Within o bound t → First (late_bound o bound) none
late_passes o bound t k w = first_silent _ _ none (flat_silent 9 _ late) first_end
  where
    late : Late o bound → ⊥
    late h =
        let within : Within o bound h.asap =
        record { ends = λ i l. omega (arith, h.earliest.least t k i l, w.ends i l) } in
        omega (arith, h.below, h.ends.least bound within)

module _ (g : Graph) (bound : ℕ) (m : List ℕ) (is : Mobility g bound m) where
  -- the product of the windows is within the limit
  pub windows_pass : product m (many g) ≤ limit.windows → First (many_windows g bound) none
  windows_pass low = first_silent _ _ none (flat_silent 10 _ (λ h. omega (arith, above h))) first_end
    where
      above : ManyWindows g bound → limit.windows < product m (many g)
      above h =
          subst (λ (row : List ℕ). limit.windows < product row (many g)) (mobility_one g bound h.mobility m h.is is) h.above

  -- or past it
  pub windows_refuse : limit.windows < product m (many g) → First (many_windows g bound) (some (10, 0))
  windows_refuse high = first_says _ _ 10 0 (flat_says 10 _ (record { mobility = m; is = is; above = high }))

  -- where there are latest starts within the bound, and nothing else is amiss, the tenth decides
  module _ (sound : Sound g) (low : bound ≤ limit.steps) (units : List ℕ) (manned : every (λ k. leb 1 (at units k)) g.kinds ≡ true) where
    pub tenth_decides : (asked : Option (List ℕ)) → (ListerUneven g units asked → ⊥) → (room : ℕ) → many g ≤ room → (x : Option (ℕ × ℕ))
        → First (many_windows g bound) x → First (lister_checks g units bound asked room) x
    tenth_decides asked even room enough x decides =
        let late = is.is_alap.latest in
        first_pass _ _ x
        (first_pass _ (cyclic (order g)) none
        (first_pass _ (unitless g units) none
        (first_pass _ (output g room) none (shape_passes g _ sound even) (output_passes g room enough))
        (units_pass g units manned))
        (cyclic_passes (order g) (closed g sound) is.alap late.keeps))
        (first_pass _ _ x
        (first_pass (large_bound bound) (late_bound (order g) bound) none (large_passes bound low)
        (late_passes (order g) bound is.alap late.keeps late.within))
        decides)
