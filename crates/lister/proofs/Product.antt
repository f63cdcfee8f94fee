-- The product of the windows, one factor after another: it never falls, so the first product above the limit settles it.
use mathlib.Core.Path.{◌≡◌, refl, sym, ap, ap₂, subst, ◌∙◌}
use mathlib.Core.Logic.{⊎_elim}
use mathlib.Core.List.{List}
use Prim.Native.Nat.{ℕ, zero, suc, ◌+◌, ◌-◌, ◌*◌, ◌<◌, ◌≤◌}
use native.Mathlib.Nat.{eq-or-lt_of_le, le_of_suc-le-suc, mul-le-mul_left}
use native.Mathlib.Numerals.{add-one}
use native.Mathlib.Omega.{arith}
use lib.ListN.{length, take}
use Rattle.std.proofs.iter.Yields.{fronts}
use Rattle.std.proofs.lemmas.Iterator.{zips}
use Rattle.std.proofs.lemmas.Slice.Zip.{zip_turn}
use Rattle.std.proofs.Common.{Bor, Iter}
use Rattle.std.specs.Iterator.{Yields}
use Rattle.std.specs.Iterator.Adapters.{zip_first, zip_second}
use Rattle.std.specs.declared.iter.Zip.{Zip}
use Rattle.std.specs.Prelude.{Option, Some}
use Rattle.std.specs.Slice.Iter.{iter_rest}
use Rattle.maths.specs.Rows.{at, tabulate_at, take_at, take_long}
use Rattle.model.specs.Limits as limit
use Rattle.model.specs.Refusals.{product}
use Rattle.lister.specs.Search.{spans}

product_step : (m : List ℕ) (i : ℕ) → product m (i + 1) ≡ product m i * (at m i + 1)
unfolding product
product_step m i = rw add-one

-- no factor is below 1
product_up : (m : List ℕ) (i n : ℕ) → i ≤ n → product m i ≤ product m n
unfolding product
product_up m i zero l = let e : i ≡ 0 = omega arith in subst (λ (k : ℕ). product m k ≤ product m 0) (sym e) (omega arith)
product_up m i (suc n) l =
    ⊎_elim
    (λ e. subst (λ (k : ℕ). product m i ≤ product m k) e (omega arith))
    (λ h.
    let factor : product m n * 1 ≤ product m n * (at m n + 1) = mul-le-mul_left (product m n) (omega arith) in
    omega (arith, product_up m i n (le_of_suc-le-suc h)))
    (eq-or-lt_of_le l)

-- the product of the first i factors
pub record Multiplied (early late : List ℕ) (n windows i : ℕ) : Type 0 where
  pub inside : i ≤ n
  pub is : windows ≡ product (spans early late n) i
  pub small : windows ≤ limit.windows

module _ {early late : List ℕ} {n : ℕ} where
  pub multiplied_none : Multiplied early late n 1 0
  unfolding product
  multiplied_none = record { inside = omega arith; is = refl; small = omega arith }

  module _ {windows i : ℕ} (w : Multiplied early late n windows i) (inside : i < n) {r : ℕ} (is : r ≡ at late i - at early i + 1) where
    more : windows * r ≡ product (spans early late n) (i + 1)
    more =
        let factor : r ≡ at (spans early late n) i + 1 = omega (arith, tabulate_at (λ i. at late i - at early i) n i inside) in
        ap₂ ◌*◌ w.is factor ∙ sym (product_step (spans early late n) i)

    -- one factor more, within the limit
    pub multiplied_step : {k : ℕ} → k ≡ i + 1 → windows * r ≤ limit.windows → Multiplied early late n (windows * r) k
    multiplied_step e small = record { inside = omega arith; is = more ∙ ap (product (spans early late n)) (sym e); small = small }

    -- one factor more, above the limit: no later factor brings it back
    pub multiplied_above : limit.windows < windows * r → limit.windows < product (spans early late n) n
    multiplied_above above = omega (arith, more, product_up (spans early late n) (i + 1) n (omega arith))

-- a turn over the two rows' first n entries reads one window: its number is how many were read before
pub window_turn : (early late : List ℕ) (n : ℕ) → n ≤ length early → n ≤ length late
    → (xs : List (Bor ℕ × Bor ℕ)) (s t u : Zip (Iter ℕ) (Iter ℕ)) → {r : Option (Bor ℕ × Bor ℕ)} {p : Bor ℕ × Bor ℕ}
    → Yields (zips fronts fronts) s xs t → r ≡ Some p → zips fronts fronts t r u → iter_rest (zip_first s) ≡ take n early → iter_rest (zip_second s) ≡ take n late
    → (length xs < n) × (p.0.now ≡ at early (length xs)) × (p.1.now ≡ at late (length xs))
window_turn early late n a b xs s t u {r} {p} y is steps f g =
    let here = zip_turn (take n early) (take n late) xs s t u r f g y p is steps in
    let inside : length xs < n = omega (arith, take_long n early a, here.0) in
    (inside, here.2 0 ∙ take_at n early (length xs) inside, here.3 0 ∙ take_at n late (length xs) inside)
