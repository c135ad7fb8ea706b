use Rattle.std.proofs.Common.{◌≡◌, ◌≤◌, ◌*◌, false, [], ◌∷◌, length}
use Rattle.vt_switch.specs.Acts.{SetKd}
use Rattle.vt_world.specs.Deeds.{By, apply_deeds}
use Rattle.vt_world.specs.Typing.{attention_deeds, ends_of, uses}
use Rattle.vt_world.proofs.Users.{users_from}
use Rattle.vt_world.proofs.world.World.secure_attention.Given as goal

abbrev pub invariant-loop-p : goal.invariant-loop-p
invariant-loop-p l = record {
  done : apply_deeds l.self (ends_of (users_from (uses l.fn.self l.n) l.p) (By (SetKd l.n false) ∷ []))
      ≡ apply_deeds l.fn.self (attention_deeds l.fn.self l.n);
  room : length l.self.trace.marks ≤ 3 * l.p;
}
