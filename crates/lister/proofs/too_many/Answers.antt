-- The product so far is at most the limit, so the next one fits; above the limit it stays above.
use Rattle.std.proofs.Common.{◌+◌, arith}
use Rattle.std.proofs.lemmas.List.{length_push}
use Rattle.maths.specs.Cases.{tells_yes}
use Rattle.lister.proofs.Product.{multiplied_none, multiplied_step, multiplied_above, window_turn}
use Rattle.lister.proofs.too_many.Goals as goal

pub loop-first-init : goal.loop-first-init
loop-first-init c = multiplied_none

pub overflow_sub-last : goal.overflow_sub-last
overflow_sub-last c =
    let a = c.args in
    let here = window_turn a.early.now a.late.now a.n (omega (arith, c.requires.0)) (omega (arith, c.requires.0)) c.loop-first.yielded c.into_iter-first-iterator.result c.loop-first.first-iterator
    c.next.new.self c.loop-first.yielded_by c.in-Some.is c.next.ensures.steps (cc) (cc) in
    omega (arith, here, c.requires.1.ordered _ here.0)

pub returns-then-windows-gt-WINDOWS : goal.returns-then-windows-gt-WINDOWS
returns-then-windows-gt-WINDOWS c =
    let a = c.args in
    let here = window_turn a.early.now a.late.now a.n (omega (arith, c.requires.0)) (omega (arith, c.requires.0)) c.loop-first.yielded c.into_iter-first-iterator.result c.loop-first.first-iterator
    c.next.new.self c.loop-first.yielded_by c.in-Some.is c.next.ensures.steps (cc) (cc) in
    tells_yes (multiplied_above c.loop-first.invariant here.0 {r = c.from.result + 1} (omega (arith, here, c.from.ensures)) (omega arith))

pub loop-first-preserved : goal.loop-first-preserved
loop-first-preserved c =
    let a = c.args in
    let here = window_turn a.early.now a.late.now a.n (omega (arith, c.requires.0)) (omega (arith, c.requires.0)) c.loop-first.yielded c.into_iter-first-iterator.result c.loop-first.first-iterator
    c.next.new.self c.loop-first.yielded_by c.in-Some.is c.next.ensures.steps (cc) (cc) in
    multiplied_step c.loop-first.invariant here.0 {r = c.from.result + 1} (omega (arith, here, c.from.ensures)) (length_push c.loop-first.yielded _) (omega arith)
