-- What admission refuses is refused, then by the windows; and else the search answers.
use Rattle.std.proofs.Common.{ap}
use Rattle.std.proofs.lemmas.Result.{err_from_is_err_and}
use Rattle.model.specs.Graph.{many}
use Rattle.model.specs.Lent.{graph_in}
use Rattle.lister.proofs.Asking.{matched_as, ask_refused, ask_closed, ask_low, ask_within, ask_sound, ask_counts, ask_reaches, ask_room, ask_windows, ask_many, ask_sought}
use Rattle.lister.proofs.ask.Goals as goal

pub returns-in_err-early : goal.returns-in_err-early
returns-in_err-early c =
    let given = err_from_is_err_and c.from_residual.result c.from_residual.ensures.1 in
    let m = matched_as (graph_in c.args.graph.now) c.args.units.now c.args.after c.rows_match-matched.ensures in
    rw (given.1, given.2) (ask_refused c.args.graph.now _ c.args.bound _ m c.in_err-early.ensures)

pub order-requires : goal.order-requires
order-requires c =
    let m = matched_as (graph_in c.args.graph.now) c.args.units.now c.args.after c.rows_match-matched.ensures in
    ask_closed c.args.graph.now _ c.args.bound _ m c.in_ok-early.ensures

pub latest-late-requires : goal.latest-late-requires
latest-late-requires c =
    let m = matched_as (graph_in c.args.graph.now) c.args.units.now c.args.after c.rows_match-matched.ensures in
    record {
      bound_le_steps = ask_low c.args.graph.now _ c.args.bound _ m c.in_ok-early.ensures;
      room_within = rw c.order.ensures.order (ask_within c.args.graph.now _ c.args.bound _ m c.in_ok-early.ensures);
    }

pub too_many-requires : goal.too_many-requires
too_many-requires c =
    let m = matched_as (graph_in c.args.graph.now) c.args.units.now c.args.after c.rows_match-matched.ensures in (
      (ask_sound c.args.graph.now _ c.args.bound _ m c.in_ok-early.ensures).few,
      ask_windows c.args.graph.now _ c.args.bound _ m c.in_ok-early.ensures (rw c.order.ensures.order at c.latest-late.ensures),
    )

pub returns-then-too_many : goal.returns-then-too_many
returns-then-too_many c =
    let m = matched_as (graph_in c.args.graph.now) c.args.units.now c.args.after c.rows_match-matched.ensures in
    ask_many c.args.graph.now _ c.args.bound _ m c.in_ok-early.ensures (rw c.order.ensures.order at c.latest-late.ensures) (c.too_many.ensures.yes c.if-too_many.true)

pub work-work-requires : goal.work-work-requires
work-work-requires c =
    let m = matched_as (graph_in c.args.graph.now) c.args.units.now c.args.after c.rows_match-matched.ensures in
    record {
      sound = ask_sound c.args.graph.now _ c.args.bound _ m c.in_ok-early.ensures;
      units_len = ask_counts c.args.graph.now _ c.args.bound _ m c.in_ok-early.ensures;
    }

pub seek-requires : goal.seek-requires
seek-requires c =
    let m = matched_as (graph_in c.args.graph.now) c.args.units.now c.args.after c.rows_match-matched.ensures in
    record {
      windows = rw (ap many c.work-work.ensures.graph) (ask_windows c.args.graph.now _ c.args.bound _ m c.in_ok-early.ensures (rw c.order.ensures.order at c.latest-late.ensures));
      reaches = rw (ap many c.work-work.ensures.graph) (ask_reaches c.args.graph.now _ c.args.bound _ m c.in_ok-early.ensures);
      room = rw (ap many c.work-work.ensures.graph) (ask_room c.args.graph.now _ c.args.bound _ m c.in_ok-early.ensures);
    }

pub returns : goal.returns
returns c =
    let m = matched_as (graph_in c.args.graph.now) c.args.units.now c.args.after c.rows_match-matched.ensures in
    ask_sought c.args.graph.now _ c.args.bound _ m c.in_ok-early.ensures (rw c.order.ensures.order at c.latest-late.ensures) (c.too_many.ensures.none c.if-too_many.false) (rw (c.work-work.ensures.graph, c.work-work.ensures.units) at c.seek.ensures)
