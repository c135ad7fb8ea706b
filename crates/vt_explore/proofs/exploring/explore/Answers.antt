use Rattle.std.proofs.Common.{length, map, sym, subst}
use Rattle.session_order.proofs.Stated.{meant_laws-replay, order_laws-legal, order_laws-turns}
use Rattle.vt_explore.proofs.Counts.{limit_passed}
use Rattle.vt_explore.proofs.Finding.{if_answered, if_whole, none_left}
use Rattle.vt_explore.proofs.Journals.{found_are_right, never_are_right}
use Rattle.vt_explore.specs.Questions.{HasStates}
use Rattle.vt_world.proofs.Stated.{legal_grows-replay}
use Rattle.vt_explore.proofs.exploring.explore.Goals as goal

pub returns-clause-found : goal.returns-clause-found
returns-clause-found g c =
    found_are_right order_laws-legal order_laws-turns meant_laws-replay legal_grows-replay
    (map g.Q.Question.wants c.args.questions.now) c.args.s.now c.go_through.new.findings (length c.args.questions.now)
    c.in_ok-found.found c.session_laws.ensures.setup c.in_ok-end.ensures.first c.in_ok-found.ensures

pub returns-clause-never : goal.returns-clause-never
returns-clause-never g c =
    if_whole c.in_ok-end.end
    (λ none. never_are_right order_laws-turns meant_laws-replay legal_grows-replay
    (map g.Q.Question.wants c.args.questions.now) c.args.s.now c.go_through.new.findings (length c.args.questions.now)
    c.in_ok-found.found c.session_laws.ensures.setup none c.in_ok-found.ensures)
    c.in_ok-end.ensures.none

pub returns-clause-answered : goal.returns-clause-answered
returns-clause-answered g c =
    if_answered c.in_ok-end.end
    (λ all. none_left c.go_through.new.findings (length c.args.questions.now) c.in_ok-found.found c.in_ok-found.ensures all)
    c.in_ok-end.ensures.answered

pub returns-clause-states : goal.returns-clause-states
returns-clause-states g c = subst (HasStates c.in_ok-end.end c.args.limit) (sym c.len.ensures) c.in_ok-end.ensures.states

pub returns-clause-limit : goal.returns-clause-limit
returns-clause-limit g c =
    limit_passed c.in_ok-end.end c.args.limit c.len.result
    (subst (HasStates c.in_ok-end.end c.args.limit) (sym c.len.ensures) c.in_ok-end.ensures.states)
