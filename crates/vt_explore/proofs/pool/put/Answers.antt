use Rattle.std.proofs.Common.{List, length, arith, refl, set, sym, ap, subst}
use Rattle.std.proofs.lemmas.Option.{slice_get_read}
use Rattle.vt_explore.proofs.Holding.{held_more, held_set}
use Rattle.vt_explore.specs.Held.{HeldState, IsHeld}
use Rattle.session_order.specs.Sessions.{setup_of}
use Rattle.vt_explore.proofs.pool.put.Goals as goal

pub returns-then-slot-len-clause-all : goal.returns-then-slot-len-clause-all
returns-then-slot-len-clause-all c =
    held_set (setup_of c.args.s.now) c.args.all.now.items _ c.args.slot c.args.held c.requires.all c.requires.at
    (ap (set c.args.all.now.items c.args.slot) c.replace.ensures.after)

pub returns-then-slot-len-clause-old : goal.returns-then-slot-len-clause-old
returns-then-slot-len-clause-old c =
    let all : List HeldState = c.args.all.now.items in
    subst (IsHeld (setup_of c.args.s.now)) (sym c.replace.ensures.value)
    (c.requires.all c.args.slot c.index_mut.result.now
    (slice_get_read all (length all) c.args.slot c.index_mut.result.now refl
    (omega (arith, c.if-slot-len.true, c.len.ensures)) c.index_mut.ensures.value))

pub returns-clause-all : goal.returns-clause-all
returns-clause-all c =
    held_more (setup_of c.args.s.now) c.args.all.now.items c.push.new.self.items c.args.held c.requires.all c.requires.at
    c.in_ok-push.ensures.items
