use Rattle.std.proofs.Common.{◌≤◌, length, is_some, refl, ap, ◌∙◌, arith}
use Rattle.std.proofs.lemmas.Bool.{iff_false}
use Rattle.std.proofs.lemmas.List.{length_push}
use Rattle.vt_check.proofs.Growing.{taken, within_more}
use Rattle.vt_check.proofs.Tested.{answered_is, program_is}
use Rattle.vt_check.specs.Verdicts.{Passes}
use Rattle.vt_check.specs.Verdicts.FailsAt.{NoAnswer, NoCall, NoCaller, NoRoom}
use Rattle.vt_world.specs.Step.{Outcome}
use Rattle.vt_check.proofs.judge.Judge.judge.Goals as goal

pub returns-in_default-clause-fails : goal.returns-in_default-clause-fails
returns-in_default-clause-fails c = λ o h at.
    NoCaller (iff_false (c.counted.ensures.counted o h at) (ap is_some c.in_default.is))

pub returns-then-not-branch-clause-fails : goal.returns-then-not-branch-clause-fails
returns-then-not-branch-clause-fails c = λ o h at.
    NoCall ((c.counted.ensures.counted o h at).0 (ap is_some c.in-Some.is))
    (iff_false (c.in_ok-is_next.ensures o h at) c.if-not-branch.true)

pub returns-then-not-same_reply-clause-fails : goal.returns-then-not-same_reply-clause-fails
returns-then-not-same_reply-clause-fails c = λ o h at.
    NoAnswer ((c.counted.ensures.counted o h at).0 (ap is_some c.in-Some.is))
    ((c.in_ok-is_next.ensures o h at).0 c.if-not-branch.false)
    (iff_false
    (answered_is o h c.args.self.now c.args.entry.now c.call.new.self c.in_ok-reply.reply c.same_reply.result at
    c.in_ok-reply.ensures.ok c.same_reply.ensures)
    c.if-not-same_reply.true)

pub returns-then-not-room-clause-fails : goal.returns-then-not-room-clause-fails
returns-then-not-room-clause-fails c = λ o h at.
    NoRoom ((c.counted.ensures.counted o h at).0 (ap is_some c.in-Some.is))
    ((c.in_ok-is_next.ensures o h at).0 c.if-not-branch.false)
    ((answered_is o h c.args.self.now c.args.entry.now c.call.new.self c.in_ok-reply.reply c.same_reply.result at
    c.in_ok-reply.ensures.ok c.same_reply.ensures).0
    c.if-not-same_reply.false)
    (iff_false
    (within_more o.limits h c.args.entry.now c.charge-charge.result c.has_room-room.result c.charge-charge.ensures
    (c.has_room-room.ensures.room o h at))
    c.if-not-room.true)

pub returns-clause-passes : goal.returns-clause-passes
returns-clause-passes c = λ o h at.
    let passes : Passes o h c.args.entry.now = record {
      counted = (c.counted.ensures.counted o h at).0 (ap is_some c.in-Some.is);
      next = (c.in_ok-is_next.ensures o h at).0 c.if-not-branch.false;
      answered =
          (answered_is o h c.args.self.now c.args.entry.now c.call.new.self c.in_ok-reply.reply
          c.same_reply.result at c.in_ok-reply.ensures.ok c.same_reply.ensures).0
          c.if-not-same_reply.false;
      within =
          (within_more o.limits h c.args.entry.now c.charge-charge.result c.has_room-room.result
          c.charge-charge.ensures (c.has_room-room.ensures.room o h at)).0
          c.if-not-room.false;
    } in
    let few : length h ≤ 1_000_000 =
    omega (arith, passes.within.events, at.few, length_push h c.args.entry.now) in
    taken o h c.args.entry.now c.args.self.now c.call.new.self c.took.new.self _ at passes
    (ap (λ (x : Outcome). x.world) c.in_ok-reply.ensures.ok)
    (c.took.ensures o.programs h c.args.entry.now
    (program_is o h c.args.self.now c.args.entry.now.caller _ at c.in-Some.ensures.program)
    at.standing few refl passes.next.next refl)
    (c.from.ensures ∙ c.charge-charge.ensures)
