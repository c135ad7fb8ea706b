use Rattle.std.proofs.Common.{ap}
use Rattle.vt_review.proofs.Behind.{is_left, moves, reviewed_more}
use Rattle.vt_world.proofs.Stated.{legal_grows-replay}
use Rattle.vt_world.specs.Step.{Outcome}
use Rattle.vt_review.proofs.reviewer.ReviewerWitness.see.Goals as goal

pub invariant_of-change : goal.invariant_of-change
invariant_of-change g c =
    record {
      left = is_left c.requires.start c.args.self.now.behind c.args.after.now c.requires.before c.args.place
          c.args.entry.now c.requires.seen.1.behind_is c.requires.next;
    }

pub returns-clause-seen : goal.returns-clause-seen
returns-clause-seen g c = λ first start before was next. (
  was.0,
  reviewed_more legal_grows-replay c.args.self.now.ears.now start before c.args.place c.args.entry.now
      c.args.self.now.behind c.args.after.now c.call.new.self c.args.self.now.text.bytes
      c.tell_entry.new.text.bytes was.1 next
      (moves c.args.self.now.behind c.call.new.self c.args.entry.now
      (ap (λ (o : Outcome). o.world) c.in_ok-_answer.ensures.ok))
      c.in_ok-tell_entry.ensures,
)
