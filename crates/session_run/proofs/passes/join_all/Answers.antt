use Rattle.std.proofs.Common.{rules, ◌≡◌, ℕ, ◌<◌, arith, List, [], ◌∷◌, Ok, IfOk, get_or, length, sym, ◌∙◌, subst, length-append}
use Rattle.std.proofs.lemmas.Iterator.Adapters.{YieldsList-from_vec}
use Rattle.std.proofs.lemmas.Iterator.Consumers.{YieldsList-turn}
use Rattle.session_run.specs.Callers.{callers_in}
use Rattle.session_run.specs.Racing.{AreHome, IsAfterWorker}
use Rattle.session_run.proofs.Joins.{home_more}
use Rattle.session_run.proofs.passes.join_all.Goals as goal

pub loop-outcome-preserved : goal.loop-outcome-preserved
loop-outcome-preserved g c =
    let started = c.into_iter-outcome-iterator.ensures.into_iter_gives in
    let turn = YieldsList-turn (YieldsList-from_vec {s = c.into_iter-outcome-iterator.result} c.args.ran.items started.0 (started.1 ∙ c.args.ran.ok.0)) c.loop-outcome.yielded c.loop-outcome.outcome-iterator c.loop-outcome.yielded_by c.next.result c.next.new.self c.in-Some.outcome c.in-Some.is c.next.ensures.steps in
    let n : ℕ = length c.loop-outcome.yielded in
    let callers : List ℕ = callers_in c.args.callers.now in
    let within : n < length callers = omega (arith, turn.0, c.requires.len, c.args.ran.ok.0) in
    let all = c.requires.ran n c.in-Some.outcome within in
    let given = subst (λ o. IfOk o (λ q. IsAfterWorker c.args.callers.now c.args.hub.now (get_or callers n 0) q)) (sym turn.1) all in
    let is : c.in-Some.outcome ≡ Ok c.in_ok-pass.pass = search rules in
    let run : IsAfterWorker c.args.callers.now c.args.hub.now (get_or callers n 0) c.in_ok-pass.pass =
    subst (λ o. IfOk o (λ q. IsAfterWorker c.args.callers.now c.args.hub.now (get_or callers n 0) q)) is given in
    record {
      can_next = tt;
      is_finite = tt;
      home =
          subst (λ k. AreHome c.args.callers.now c.args.hub.now k c.join.new.s)
          (sym (length-append c.loop-outcome.yielded (c.in-Some.outcome ∷ [])))
          (home_more c.args.callers.now c.args.hub.now n c.loop-outcome.steward c.join.new.s c.in_ok-pass.pass within
          c.join.ensures.hub c.join.ensures.stands c.join.ensures.joined run c.loop-outcome.invariant.home);
    }
