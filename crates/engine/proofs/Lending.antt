-- What the face says of rows that were lent, it says of the rows in the bytes.
use Rattle.std.proofs.Common.{◌≡◌, List, ℕ, ◌++◌, length, take, sym, subst}
use lib.Seq.{take_at}

-- a row that is read, one that is written, and what that is afterwards, in front of what stands behind it
pub said_of : {R : Type 0} (P : List ℕ → List ℕ → List ℕ → R → Type 0) {read read' before before' : List ℕ} (after rest : List ℕ) (n : ℕ) {said : R}
    → P read before after said → read ≡ read' → before ≡ before' → length after ≡ n → P read' before' (take n (after ++ rest)) said
said_of P {read} {read'} {before} {before'} after rest n {said} h r b long =
    subst (λ (x : List ℕ). P read' before' x said) (sym (take_at after rest n long))
    (subst (λ (x : List ℕ). P read' x after said) b (subst (λ (x : List ℕ). P x before after said) r h))

-- two rows that are read, and one that is written
pub said_of_two : {R : Type 0} (P : List ℕ → List ℕ → List ℕ → List ℕ → R → Type 0) {one one' other other' before before' : List ℕ} (after rest : List ℕ) (n : ℕ)
    {said : R} → P one other before after said → one ≡ one' → other ≡ other' → before ≡ before' → length after ≡ n
    → P one' other' before' (take n (after ++ rest)) said
said_of_two P {one} {one'} {other} {other'} {before} {before'} after rest n {said} h r o b long =
    said_of (P one') after rest n (subst (λ (x : List ℕ). P x other before after said) r h) o b long
