-- `judge` meets its contract: each kind of fault is looked for once there is none of the kinds before it.
use Rattle.std.proofs.Common.{sym}
use Rattle.model.specs.Verdicts.{Finds}
use Rattle.theory.specs.unit_use.OneVerdict.{faultless_lawful}
use Rattle.checker.specs.Findings.{Overs}
use Rattle.checker.proofs.Judged.{timely_tallies}
use Rattle.checker.proofs.judge.Goals as goal

pub returns-in-Some : goal.returns-in-Some
unfolding Finds
returns-in-Some c = c.in-Some.ensures _ _ _ _ _

pub returns-in-Some-broken : goal.returns-in-Some-broken
unfolding Finds
returns-in-Some-broken c = (c.in_default.ensures _ _ _ _ _, c.in-Some-broken.ensures _ _ _)

pub over_use-requires : goal.over_use-requires
over_use-requires c =
    let work = c.args.work.now in timely_tallies work.sound work.busy_sound c.requires.starts_len c.requires.bound_in (c.in_default.ensures _ _ _ _ _)

pub returns-in-Some-over_use : goal.returns-in-Some-over_use
unfolding Finds Overs
returns-in-Some-over_use c = (
  record { operations = c.in_default.ensures _ _ _ _ _; edges = c.in_default-broken.ensures _ _ _ },
  c.in-Some-over_use.ensures c.args.work.now.delays.now c.args.work.now.from.now c.args.work.now.to.now (sym c.args.work.now.busy_sound.even),
)

pub returns-in-None : goal.returns-in-None
unfolding Finds Overs
returns-in-None c =
    faultless_lawful _ _ _ _ c.requires.starts_len
    (record { operations = c.in_default.ensures _ _ _ _ _; edges = c.in_default-broken.ensures _ _ _ })
    (c.in-None.ensures c.args.work.now.delays.now c.args.work.now.from.now c.args.work.now.to.now (sym c.args.work.now.busy_sound.even))
