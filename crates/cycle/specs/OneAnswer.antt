-- What `show` ensures leaves one answer and one content of the row.
use Rattle.std.specs.Prelude.{◌≡◌, List, ℕ, length}
use Rattle.std.proofs.Common.{sym, ap, ◌∙◌}
use Rattle.maths.specs.Rows.{over}
use Rattle.model.specs.Order.{Order}
use Rattle.theory.specs.cycle.OneShown.{shown_one}
use Rattle.cycle.specs.Show.{Shows}

-- an order has one cycle shown, so its length and the row with it in front are one
pub show_one : {o : Order} {before after after' : List ℕ} {r r' : ℕ} → Shows o before after r → Shows o before after' r'
    → (r ≡ r') × (after ≡ after')
show_one {o} {before} x y =
    let same = shown_one o x.cycle y.cycle x.shown y.shown in (
      x.long ∙ ap length same ∙ sym y.long,
      x.written ∙ ap (λ (cycle : List ℕ). over cycle before) same ∙ sym y.written,
    )
