use Rattle.std.proofs.Common.{ap, cond, false, [], ◌∷◌, ◌∙◌, Bool}
use Rattle.vt_switch.specs.Acts.{End, SetKd}
use Rattle.vt_world.specs.Deeds.{By, apply_deed}
use Rattle.vt_world.specs.State.{WorldState}
use Rattle.vt_world.specs.Typing.{uses}
use Rattle.vt_world.proofs.Users.{ends_next}
use Rattle.vt_world.proofs.world.World.secure_attention.Goals as goal

pub loop-p-preserved : goal.loop-p-preserved
loop-p-preserved c =
    let w : WorldState = c.loop-p.self in
    record {
      done =
          ends_next (uses c.args.self.now c.args.n) c.loop-p.p c.loop-p-test.true
          (By (SetKd c.args.n false) ∷ []) w c.end_user.new.self
          (c.end_user.ensures.state
          ∙ ap (λ (b : Bool). cond b (apply_deed w (By (End c.loop-p.p))) w)
          (c.users-users.ensures c.loop-p.p c.loop-p-test.true))
          ∙ c.loop-p.invariant.done;
      room = c.end_user.ensures.room;
    }
