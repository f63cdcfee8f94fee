-- One answer: any two rows that the contract of `link` allows are equal.
use Rattle.std.specs.Prelude.{◌≡◌, List, ℕ, ◌+◌, ◌-◌, ◌<◌, length}
use Rattle.std.proofs.Common.{sym, ap, ◌∙◌, ⊎_elim, arith}
use Rattle.maths.specs.Cases.{lt_or_le}
use Rattle.maths.specs.Rows.{at, same_row}
use Rattle.model.specs.Limits as limit
use Rattle.edge_links.specs.declared.Links.{Links}
use Rattle.edge_links.specs.Linking.{of_edge, LastAt, Linked}

-- no link lies past another: the edge that it leads to would be a later one
not_past : {ends : List ℕ} {i e c d : ℕ} → LastAt ends i e c → LastAt ends i e d → c < d → ⊥
not_past {d = d} a b l = a.none (d - 1) (omega arith) (omega (arith, b.within)) (b.is (d - 1) (omega arith))

-- there is one last edge
last_one : {ends : List ℕ} {i e c d : ℕ} → LastAt ends i e c → LastAt ends i e d → c ≡ d
last_one {c = c} {d = d} a b =
    ⊎_elim
    (λ l. absurd (not_past a b l))
    (λ l. ⊎_elim (λ m. absurd (not_past b a m)) (λ m. omega arith) (lt_or_le d c))
    (lt_or_le c d)

module _ {ends a b : List ℕ} (x : Linked ends a) (y : Linked ends b) where
  edge_one : (e : ℕ) → of_edge a e ≡ of_edge b e
  edge_one e =
      ⊎_elim (λ m. last_one (x.befores e m) (y.befores e m)) (λ m. x.rest e m ∙ sym (y.rest e m)) (lt_or_le e (length ends))

  entry_one : (k : ℕ) → at a k ≡ at b k
  entry_one k =
      ⊎_elim
      (λ m. last_one (x.lasts k m) (y.lasts k m))
      (λ m.
      let e : limit.operations + (k - limit.operations) ≡ k = omega arith in
      ap (at a) (sym e) ∙ edge_one (k - limit.operations) ∙ ap (at b) e)
      (lt_or_le k limit.operations)

-- of `link`
pub link_one : (ends a b : List ℕ) → Linked ends a → Linked ends b → a ≡ b
link_one ends a b x y = same_row a b (x.long ∙ sym y.long) (λ k l. entry_one x y k)

-- the same of the whole answer, which is nothing but its row
pub links_one : (ends : List ℕ) (a b : Links) → Linked ends a.row → Linked ends b.row → a ≡ b
links_one ends a b x y = ap (λ (row : List ℕ). let l : Links = record { row = row } in l) (link_one ends a.row b.row x y)
