use Rattle.std.proofs.Common.{sym, ap, ◌∙◌}
use Rattle.session_order.proofs.Stated.{race_laws-right}
use Rattle.session_order.specs.Sessions.{start_of}
use Rattle.session_run.proofs.Joins.{split_start}
use Rattle.session_run.proofs.Races.{all_home, race_right}
use Rattle.session_run.specs.Callers.{callers_in}
use Rattle.vt_hub.specs.Views.{view_at_open}
use Rattle.vt_world.proofs.Stated.{nobody_waits_at_start}
use Rattle.vt_world.specs.State.{is_waiting}
use Rattle.session_run.proofs.racing.race_in.Goals as goal

pub open-requires-clause-start : goal.open-requires-clause-start
open-requires-clause-start g c = c.in_ok-world.ensures ∙ sym c.requires.start

pub open-requires-clause-free : goal.open-requires-clause-free
open-requires-clause-free g c = λ p.
    ap (λ w. is_waiting w p) c.in_ok-world.ensures
    ∙ nobody_waits_at_start (start_of c.args.s.now) c.session_laws.ensures.start p

pub split_all-requires : goal.split_all-requires
split_all-requires g c =
    split_start (start_of c.args.s.now) c.in_ok-hub.hub (callers_in c.in_ok-callers.callers) c.in_ok-hub.steward
    (c.in_ok-hub.ensures ∙ ap (λ w. view_at_open w c.in_ok-hub.hub) c.requires.start)

pub close-requires-clause-all : goal.close-requires-clause-all
close-requires-clause-all g c =
    all_home c.in_ok-callers.callers c.in_ok-hub.hub c.join_all.new.steward c.in_ok-join_all.ensures

pub returns : goal.returns
returns g c =
    race_right race_laws-right c.args.s.now _ _ c.in_ok-callers.callers c.in_ok-hub.hub c.join_all.new.steward c.close.result
    c.session_laws.ensures.programs c.session_laws.ensures.right
    c.requires.start c.requires.limits c.in_ok-callers.ensures c.close.ensures c.in_ok-join_all.ensures
