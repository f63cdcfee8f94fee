-- Every starred case comes out: the cycles by walking back, the lists and lawful verdicts by computing, the windows by their product.
use Rattle.std.specs.Prelude.{◌≡◌, refl, true, List, [], ◌∷◌, ◌++◌, ℕ, zero, suc, ◌≤◌, ◌<◌, leb, length, replicate}
use Rattle.std.proofs.Math.Option.{Option, none, some}
use Rattle.std.proofs.Common.{⊎_elim, arith}
use Rattle.maths.specs.Tests.{◌and◌, ◌or◌}
use Rattle.maths.specs.Rows.{at, over}
use Rattle.maths.specs.Sum.{sum}
use Rattle.maths.specs.Count.{every}
use Rattle.maths.specs.Words.{joined, words, keep}
use Rattle.maths.specs.WordLaws.{is_before}
use Rattle.model.specs.Limits as limit
use Rattle.model.specs.Graph.{Graph, order, many, edges_of, Sound}
use Rattle.model.specs.Cycle.{Shown}
use Rattle.model.specs.Tables.{Mobility, Asap}
use Rattle.model.specs.Use.{runs}
use Rattle.model.specs.Refusals.{First, shape, output, unitless, cyclic, large_bound, CheckUneven, product, ListerUneven}
use Rattle.theory.specs.refusals.FirstRefusal.{first_pass}
use Rattle.theory.specs.refusals.SoundGraph.{closed}
use Rattle.model.specs.Answers.{Fills}
use Rattle.theory.specs.refusals.RowAfterwards.{answered_says, answered_passed}
use Rattle.model.specs.Faults as fault
use Rattle.model.specs.Verdicts.{Finds, Reports}
use Rattle.theorems.specs.AllListed.{is_lawful_tells}
use Rattle.theory.specs.unit_use.OneVerdict.{timely_operation}
use Rattle.model.specs.Listing.{is_lawful}
use Rattle.model.specs.Checks.{check_checks}
use Rattle.acceptance.specs.Passing.{is_sound, is_sound_tells, shape_passes, output_passes, units_pass, cyclic_passes, large_passes, windows_pass, windows_refuse, tenth_decides}
use Rattle.acceptance.specs.Free.{plain_graph, two_starts, free_mobility, empty_mobility, row_of_two, row_mobility, below_one, below_two}
use Rattle.acceptance.specs.Circles.{ring, ring_shown, tail, tail_shown}
use Rattle.acceptance.specs.Starred.{Case, cycle, listing, slow, single, double, sixth, seventh, eighth, ninth, tenth, eleventh, twelfth, thirteenth, fourteenth, starred, list_from, Holds, All}

-- ---- a case of each kind
-- a sound graph with this cycle shown is refused so
cycle_holds : (g : Graph) (c : List ℕ) → Sound g → Shown (order g) c → Holds (cycle g c)
unfolding Holds
cycle_holds g c sound shown out room =
    answered_passed (shape g ⊥ ++ output g (length out)) (cyclic (order g)) out (Fills (Asap g) out) (some (7, length c)) (over c out)
    (first_pass (shape g ⊥) (output g (length out)) none (shape_passes g ⊥ sound (λ x. x)) (output_passes g (length out) room))
    (answered_says _ [] out (Fills (Asap g) out) 7 (length c) (over c out)
    (record { is = refl; cycle = c; shown = shown; long = refl })
    (record { row = c; is = shown; written = refl }))

-- one row of units for one type is of the right length
even_first : (g : Graph) → g.kinds ≡ 1 → (u : ℕ) → ListerUneven g (u ∷ []) none → ⊥
unfolding ListerUneven
even_first g e u h = h (omega arith)

even_after : (g : Graph) → g.kinds ≡ 1 → (u : ℕ) (row : List ℕ) → length row ≡ many g → ListerUneven g (u ∷ []) (some row) → ⊥
unfolding ListerUneven
even_after g e u row long = ⊎_elim (λ n. n (omega arith)) (λ n. n long)

-- none of the ten refusals applies, and the definition's list is as computed
listing_holds : (g : Graph) (units : List ℕ) (bound : ℕ) (asked : Option (List ℕ)) (rows : List (List ℕ)) (m : List ℕ) → Mobility g bound m
    → is_sound g ≡ true → bound ≤ limit.steps → every (λ k. leb 1 (at units k)) g.kinds ≡ true → (ListerUneven g units asked → ⊥)
    → product m (many g) ≤ limit.windows → list_from g units bound asked ≡ rows → Holds (listing g units bound asked rows)
unfolding Holds
listing_holds g units bound asked rows m is sound low manned even few list = (
  tenth_decides g bound m is (is_sound_tells g sound) low units manned asked even (many g) (omega arith) none (windows_pass g bound m is few),
  list,
)

-- none of the checker's refusals applies to a graph without edges
checks_pass : (g : Graph) (units : List ℕ) (bound : ℕ) (t : List ℕ) → Sound g → edges_of g ≡ 0 → every (λ k. leb 1 (at units k)) g.kinds ≡ true
    → bound ≤ limit.steps → length units ≡ g.kinds → length t ≡ many g → ((i : ℕ) → i < many g → 1 ≤ at t i) → First (check_checks g units bound t) none
checks_pass g units bound t sound bare manned low p q from =
    first_pass (shape g (CheckUneven g units t)) _ none (shape_passes g _ sound (⊎_elim (λ n. n p) (λ n. n q)))
    (first_pass (unitless g units) _ none (units_pass g units manned)
    (first_pass (cyclic (order g)) (large_bound bound) none
    (cyclic_passes (order g) (closed g sound) t (record { from_one = from; edges = λ e l. absurd (omega arith) }))
    (large_passes bound low)))

-- ---- the cases
slow_sound : (n : ℕ) → is_sound (slow n) ≡ true → Sound (slow n)
slow_sound n = is_sound_tells (slow n)

cycles_hold : All (sixth ++ seventh)
unfolding All is_sound every ◌and◌
cycles_hold = (
  cycle_holds ring _ (is_sound_tells ring refl) ring_shown,
  (cycle_holds tail _ (is_sound_tells tail refl) tail_shown, tt),
)

eighth_holds : All eighth
unfolding All is_sound every ◌and◌ product list_from is_lawful words keep sum runs is_before ◌or◌ joined
eighth_holds = (
  listing_holds (plain_graph 0 [] []) single 0 none _ [] (empty_mobility 0) refl (omega arith) refl (even_first _ refl 1) (omega arith) refl,
  (listing_holds (plain_graph 0 [] []) single 0 (some []) _ [] (empty_mobility 0) refl (omega arith) refl (even_after _ refl 1 [] refl) (omega arith) refl, tt),
)

ninth_holds : All ninth
unfolding All is_sound every ◌and◌ product list_from is_lawful words keep sum runs is_before ◌or◌ joined
ninth_holds = (
  listing_holds (plain_graph 2 [] []) single 2 none _ (two_starts 1 1) (free_mobility 2) refl (omega arith) refl (even_first _ refl 1) (omega arith) refl,
  (listing_holds (plain_graph 2 [] []) double 2 none _ (two_starts 1 1) (free_mobility 2) refl (omega arith) refl (even_first _ refl 2) (omega arith) refl, tt),
)

tenth_holds : All tenth
unfolding All is_sound every ◌and◌ product list_from is_lawful words keep sum runs is_before ◌or◌ joined
tenth_holds = (
  listing_holds row_of_two double 3 none _ (two_starts 1 1) row_mobility refl (omega arith) refl (even_first _ refl 2) (omega arith) refl,
  (row_holds 1 3 _ refl, (row_holds 0 9 _ refl, (row_holds 65535 65535 _ refl, tt))),
)
  where
    row_holds : (a b : ℕ) (rows : List (List ℕ)) → list_from row_of_two double 3 (some (two_starts a b)) ≡ rows → Holds (listing row_of_two double 3 (some (two_starts a b)) rows)
    row_holds a b rows list =
        listing_holds row_of_two double 3 (some (two_starts a b)) rows (two_starts 1 1) row_mobility refl (omega arith) refl (even_after _ refl 2 (two_starts a b) refl)
        (omega arith)
        list

eleventh_holds : All eleventh
unfolding All is_sound every ◌and◌ product list_from is_lawful words keep sum runs is_before ◌or◌ joined
eleventh_holds = (
  listing_holds (plain_graph 3 [] []) single 2 none _ (replicate 3 1) (free_mobility 3) refl (omega arith) refl (even_first _ refl 1) (omega arith) refl,
  tt,
)

twelfth_holds : All twelfth
unfolding All Holds is_sound every ◌and◌ Finds Reports is_lawful sum runs
twelfth_holds = (
  record {
    first = checks_pass (slow 1) single 2 (1 ∷ []) (slow_sound 1 refl) refl refl (omega arith) refl refl one_starts;
    finds = (is_lawful_tells (slow 1) (slow_sound 1 refl) single 2 (1 ∷ []) refl).yes refl;
  },
  (
    record {
      first = checks_pass (slow 1) single 1 (1 ∷ []) (slow_sound 1 refl) refl refl (omega arith) refl refl one_starts;
      finds = record { inside = omega arith; holds = fault.late (omega arith); none_before = λ k l. absurd (omega arith) };
    },
    tt,
  ),
)
  where
    one_starts : (i : ℕ) → i < 1 → 1 ≤ at (1 ∷ []) i
    one_starts = below_one (λ (i : ℕ). 1 ≤ at (1 ∷ []) i) (omega arith)

pub thirteenth_holds : All thirteenth
unfolding All Holds is_sound every ◌and◌ Finds Reports is_lawful sum runs
thirteenth_holds = (
  record {
    first = checks_pass (slow 2) single 4 (two_starts 1 2) (slow_sound 2 refl) refl refl (omega arith) refl refl
        (below_two (λ (i : ℕ). 1 ≤ at (two_starts 1 2) i) (omega arith) (omega arith));
    finds = (timely, first_over);
  },
  (
    record {
      first = checks_pass (slow 2) single 4 (two_starts 1 3) (slow_sound 2 refl) refl refl (omega arith) refl refl
          (below_two (λ (i : ℕ). 1 ≤ at (two_starts 1 3) i) (omega arith) (omega arith));
      finds = (is_lawful_tells (slow 2) (slow_sound 2 refl) single 4 (two_starts 1 3) refl).yes refl;
    },
    tt,
  ),
)
  where
    timely : fault.Timely (slow 2) 4 (two_starts 1 2)
    timely = record {
      operations = below_two (λ (i : ℕ). fault.Untimely (slow 2) 4 (two_starts 1 2) i → ⊥)
          (timely_operation (omega arith) (omega arith))
          (timely_operation (omega arith) (omega arith));
      edges = λ e l. absurd (omega arith);
    }

    -- one runs at step 1, none at step 0
    none_before : (m j : ℕ) → m < 2 → fault.OverUsed (slow 2) single (two_starts 1 2) m j → ⊥
    none_before zero zero l h = let more = h.more in omega arith
    none_before (suc zero) zero l h = let more = h.more in omega arith
    none_before (suc (suc m)) zero l h = omega arith
    none_before m (suc j) l h = omega (arith, h.kind)

    first_over : fault.FirstOver (slow 2) single (two_starts 1 2) 2 0
    first_over = record {
      over = record { kind = omega arith; more = omega arith };
      none_before = none_before;
      none_below = λ j l. absurd (omega arith);
    }

fourteenth_holds : All fourteenth
unfolding All Holds is_sound every ◌and◌ product
fourteenth_holds = (
  tenth_decides (plain_graph 19 [] []) 2 _ (free_mobility 19) (is_sound_tells _ refl) (omega arith) single refl none (even_first _ refl 1) 19 (omega arith) none
      (windows_pass (plain_graph 19 [] []) 2 _ (free_mobility 19) (omega arith)),
  (
    tenth_decides (plain_graph 20 [] []) 2 _ (free_mobility 20) (is_sound_tells _ refl) (omega arith) single refl none (even_first _ refl 1) 20 (omega arith) (some (10, 0))
        (windows_refuse (plain_graph 20 [] []) 2 _ (free_mobility 20) (omega arith)),
    tt,
  ),
)

-- two parts of the table hold together
all_append : (a b : List Case) → All a → All b → All (a ++ b)
unfolding All
all_append [] b x y = y
all_append (c ∷ rest) b x y = (x.0, all_append rest b x.1 y)

-- every starred case comes out
pub starred_hold : All starred
starred_hold =
    all_append (sixth ++ seventh) _ cycles_hold
    (all_append eighth _ eighth_holds
    (all_append ninth _ ninth_holds
    (all_append tenth _ tenth_holds
    (all_append eleventh _ eleventh_holds
    (all_append twelfth _ twelfth_holds (all_append thirteenth _ thirteenth_holds fourteenth_holds))))))
