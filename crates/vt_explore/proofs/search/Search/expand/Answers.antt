use Rattle.std.proofs.Common.{ℕ, List, map, ⊎_elim, arith, below_more, subst}
use Rattle.std.proofs.lemmas.Bool.{OnTrue_at, cases_lt}
use Rattle.vt_explore.proofs.Finding.{adds_none, adds_trans, tried_longer}
use Rattle.vt_explore.proofs.Nevers.{extends_same, extends_trans, now_past, opened_none}
use Rattle.vt_explore.specs.Findings.{IsTried}
use Rattle.vt_explore.specs.Questions.{Wants}
use Rattle.vt_explore.specs.Searches.{IfKnown}
use Rattle.vt_explore.specs.declared.findings.Finding.{Finding}
use Rattle.session_order.specs.Ends.{Setup}
use Rattle.session_order.specs.Orders.{history_of}
use Rattle.session_order.specs.Sessions.{setup_of}
use Rattle.vt_events.specs.declared.entry.Entry.{Entry}
use Rattle.vt_explore.proofs.search.Search.expand.Goals as goal

pub loop-n-init : goal.loop-n-init
loop-n-init g c = record {
  pool = c.requires.pool;
  grows = extends_same c.args.self.now;
  sorted = c.requires.sorted;
  found =
      adds_none (map g.Q.Question.wants c.args.questions.now) (setup_of c.args.s.now) c.args.base.now.order
      c.args.findings.now;
  tried = λ p low. absurd (let no : ⊥ = omega (arith, low) in no);
  few = c.requires.few;
}

pub loop-n-preserved : goal.loop-n-preserved
loop-n-preserved g c =
    let all : List Wants = map g.Q.Question.wants c.args.questions.now in
    let o : Setup = setup_of c.args.s.now in
    let order : List ℕ = c.args.base.now.order in
    let h : List Entry = history_of o order in
    let a : List (List ℕ) = c.loop-n.self in
    let b : List (List ℕ) = c.try_caller.new.self in
    let old : List Finding = c.loop-n.findings in
    let new : List Finding = c.try_caller.new.findings in
    let known : IsTried all new o b h c.loop-n.n =
    subst (λ t. IfKnown t (IsTried all new o b h c.loop-n.n)) c.in-Known.is c.in_ok-tried.ensures.known in
    record {
      pool = c.in_ok-tried.ensures.pool;
      grows = extends_trans c.args.self.now a b c.loop-n.invariant.grows c.in_ok-tried.ensures.grows;
      sorted = c.in_ok-tried.ensures.sorted;
      found = adds_trans all o order c.args.findings.now old new c.loop-n.invariant.found c.in_ok-tried.ensures.found;
      tried = below_more _ _
          (λ p low. tried_longer all o a b h p order old new c.in_ok-tried.ensures.grows c.in_ok-tried.ensures.found
          (c.loop-n.invariant.tried p low))
          known;
      few = OnTrue_at c.if-not-has_at_most.false c.has_at_most.ensures.few;
    }

pub returns-in-Full-clause-grows : goal.returns-in-Full-clause-grows
returns-in-Full-clause-grows g c =
    extends_trans c.args.self.now c.loop-n.self c.try_caller.new.self c.loop-n.invariant.grows c.in_ok-tried.ensures.grows

pub returns-in-Full-clause-found : goal.returns-in-Full-clause-found
returns-in-Full-clause-found g c =
    adds_trans (map g.Q.Question.wants c.args.questions.now) (setup_of c.args.s.now) c.args.base.now.order c.args.findings.now
    c.loop-n.findings c.try_caller.new.findings c.loop-n.invariant.found c.in_ok-tried.ensures.found

pub returns-in-Full-clause-sorted : goal.returns-in-Full-clause-sorted
returns-in-Full-clause-sorted g c = c.in_ok-tried.ensures.sorted

pub returns-clause-grows : goal.returns-clause-grows
returns-clause-grows g c = c.loop-n.invariant.grows

pub returns-clause-sorted : goal.returns-clause-sorted
returns-clause-sorted g c = c.loop-n.invariant.sorted

pub returns-clause-found : goal.returns-clause-found
returns-clause-found g c = c.loop-n.invariant.found

pub returns-clause-known : goal.returns-clause-known
returns-clause-known g c = λ p i wants at none.
    let o : Setup = setup_of c.args.s.now in
    let h : List Entry = history_of o c.args.base.now.order in
    ⊎_elim
    (λ low. c.loop-n.invariant.tried p (omega (arith, low, c.loop-n-test.false)) i wants at none)
    (λ past. opened_none wants o c.loop-n.self h p
    (now_past o h p c.session_laws.ensures.programs (λ low. let no : ⊥ = omega (arith, low, past) in no)))
    (cases_lt p 68)

pub try_caller-requires-clause-base : goal.try_caller-requires-clause-base
try_caller-requires-clause-base g c = c.requires.base

pub try_caller-requires-clause-pool : goal.try_caller-requires-clause-pool
try_caller-requires-clause-pool g c = c.loop-n.invariant.pool

pub try_caller-requires-clause-sorted : goal.try_caller-requires-clause-sorted
try_caller-requires-clause-sorted g c = c.loop-n.invariant.sorted

pub returns-clause-pool : goal.returns-clause-pool
returns-clause-pool g c = c.loop-n.invariant.pool

pub returns-in-Full-clause-pool : goal.returns-in-Full-clause-pool
returns-in-Full-clause-pool g c = c.in_ok-tried.ensures.pool

pub try_caller-requires-clause-full : goal.try_caller-requires-clause-full
try_caller-requires-clause-full g c = c.requires.full

pub returns-then-not-has_at_most-clause-found : goal.returns-then-not-has_at_most-clause-found
returns-then-not-has_at_most-clause-found g c =
    adds_trans (map g.Q.Question.wants c.args.questions.now) (setup_of c.args.s.now) c.args.base.now.order c.args.findings.now
    c.loop-n.findings c.try_caller.new.findings c.loop-n.invariant.found c.in_ok-tried.ensures.found
