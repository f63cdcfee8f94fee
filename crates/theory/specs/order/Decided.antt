-- What is kept is decided, and where there is no cycle there are earliest starts: by placing as many as can be placed.
use Rattle.std.specs.Prelude.{◌⊎◌, List, ℕ, ◌<◌}
use Rattle.std.proofs.Common.{inl, inr, ⊎_elim}
use Rattle.maths.specs.Cases.{same_or_not}
use Rattle.maths.specs.Rows.{at}
use Rattle.model.specs.Order.{Order, size, Closed, Cyclic, Kept}
use Rattle.model.specs.Tables.{Earliest}
use Rattle.theory.specs.order.PlacingOutcome.{placing_exists, placing_kept, placing_free, placing_done, placing_cyclic}

-- a row of earliest starts
pub record EarliestRow (o : Order) : Type 0 where
  pub row : List ℕ
  pub earliest : Earliest o row

module _ {heaviest : ℕ} {o : Order} (c : Closed heaviest o) where
  -- whether a cycle reaches i is decided: i is left unplaced or it is not
  pub kept_decided : (i : ℕ) → i < size o → Kept o i ⊎ (Kept o i → ⊥)
  kept_decided i l =
      let p = placing_exists c in
      ⊎_elim
      (λ z. inl (placing_kept c p.is i l z))
      (λ n. inr (λ k. n (placing_free c p.is i k)))
      (same_or_not (at p.row i) 0)

  -- without a cycle all are placed, and the starts are the earliest
  pub acyclic_earliest : (Cyclic o → ⊥) → EarliestRow o
  acyclic_earliest free =
      let p = placing_exists c in
      ⊎_elim
      (λ e. record { row = p.row; earliest = placing_done c p.is e })
      (λ n. absurd (free (placing_cyclic c p.is n)))
      (same_or_not p.number (size o))
