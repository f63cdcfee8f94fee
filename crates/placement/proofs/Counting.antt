-- Units are enough all the while that an operation runs where they are at its start and at the starts within its run.
use mathlib.Core.Path.{◌≡◌, refl, ap, subst}
use mathlib.Core.Logic.{⊎_elim}
use mathlib.Core.List.{List}
use Prim.Native.Nat.{ℕ, ◌+◌, ◌≤◌, ◌<◌}
use native.Mathlib.Omega.{arith}
use Rattle.maths.specs.Cases.{same_or_not, lt_or_le}
use Rattle.maths.specs.Rows.{at}
use Rattle.maths.specs.Greatest.{Greatest, greatest}
use Rattle.model.specs.Graph.{Graph}
use Rattle.theory.specs.unit_use.RunningAndPeak.{Runs, runs_or_not, at_last_start}
use Rattle.unit_use.specs.FirstInUse.{users, first_in_use}
use Rattle.placement.specs.Fit.{Calm, UnitsEnough}

-- with enough units where i starts and where those of its type start within its run, there are enough all the while that i runs
pub room_starts : (busy types units t : List ℕ) (i : ℕ) → first_in_use busy types t (at types i) (at t i) (i + 1) ≤ at units (at types i)
    → ((j : ℕ) → j < i → Calm busy types units t i j) → UnitsEnough busy types units t i
room_starts busy types units t i own calms = record { enough = enough }
  where
    k : ℕ
    k = at types i

    u : Graph
    u = users busy types

    at_start : (l : ℕ) → at t i ≤ l → l < at t i + at busy i → (last : Greatest (Runs u t k l) (at t) (i + 1))
        → first_in_use busy types t k (at t last.place) (i + 1) ≤ at units k
    at_start l a b last =
        let reach = last.most i (omega arith) (record { kind = refl; started = a; unfinished = b }) in
        ⊎_elim
        (λ h.
        (calms last.place (other h)).calm last.holds.kind h (omega (arith, last.holds.started)))
        (λ h.
        let e : at t i ≡ at t last.place = omega arith in
        subst (λ (step : ℕ). first_in_use busy types t k step (i + 1) ≤ at units k) e own)
        (lt_or_le (at t i) (at t last.place))
      where
        other : at t i < at t last.place → last.place < i
        other h =
            ⊎_elim (λ e. absurd (omega (arith, ap (at t) e))) (λ n. omega (arith, last.inside)) (same_or_not last.place i)

    enough : (l : ℕ) → at t i ≤ l → l < at t i + at busy i → first_in_use busy types t k l (i + 1) ≤ at units k
    enough l a b =
        ⊎_elim
        (λ last. omega (arith, at_last_start u t (i + 1) k l last, at_start l a b last))
        (λ none. absurd (none i (omega arith) (record { kind = refl; started = a; unfinished = b })))
        (greatest (Runs u t k l) (at t) (i + 1) (λ j h. runs_or_not u t k l j))

-- enough all the while is enough at each start within the run
pub room_calm : {busy types units t : List ℕ} {i : ℕ} (j : ℕ) → UnitsEnough busy types units t i → Calm busy types units t i j
room_calm j r = record { calm = λ e a b. r.enough _ (omega arith) b }
