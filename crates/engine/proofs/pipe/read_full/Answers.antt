-- `read_full`: what one more read brings stands right behind what came before it, and the input gave both.
use Rattle.std.proofs.Common.{◌≡◌, ℕ, ◌+◌, ◌≤◌, List, ◌++◌, length, take, rules, sym, ap, ◌∙◌, subst, length-take-le}
use Rattle.std.proofs.lemmas.List.{take-append-le}
use Rattle.std.proofs.Math.Seq.{take-append-add}
use Rattle.std.specs.Io.KnownBytes.{Consumes}
use Rattle.std.proofs.KnownBytes.{Consumes-trans}
use Rattle.engine.proofs.pipe.read_full.Goals as goal

-- the first entries of one list, then those of another that is put behind them
behind : (a n : ℕ) (xs ys rest : List ℕ) → a ≤ length xs → n ≤ length ys → take a xs ++ take n ys ≡ take (a + n) (take a xs ++ (ys ++ rest))
behind a n xs ys rest within fits =
    sym (ap (λ (l : List ℕ). take a xs ++ l) (take-append-le n ys rest fits))
    ∙ sym (take-append-add (take a xs) (ys ++ rest) n)
    ∙ ap (λ (m : ℕ). take (m + n) (take a xs ++ (ys ++ rest))) (length-take-le a xs within)

pub loop-got-preserved : goal.loop-got-preserved
loop-got-preserved g c = record {
  inside = search rules;
  same_length = search rules;
  came = subst (Consumes _ _) (behind c.loop-got.got c.in-Ok.some c.loop-got.bytes c.read.new.buf _ (search rules) (search rules))
      (Consumes-trans _ _ _ _ _ c.loop-got.invariant.came c.in-Ok.ensures.bytes.0);
}
