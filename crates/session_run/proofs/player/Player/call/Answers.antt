use Rattle.std.proofs.Common.{◌≡◌, false, arith, sym, ap, ◌∙◌, subst}
use Rattle.std.proofs.lemmas.Result.{on_ok_weaker}
use Rattle.session_run.proofs.Turns.{turn_enters, turn_fills}
use Rattle.vt_journal.specs.Log.{Logged}
use Rattle.vt_journal.specs.Room.{HasRoom, full_at, has_room}
use Rattle.vt_journal.specs.declared.full.Full.{Full}
use Rattle.session_run.proofs.player.Player.call.Goals as goal

pub returns-in-Some : goal.returns-in-Some
returns-in-Some c = λ o t is going now at.
    let log : Logged = c.args.self.now.log in
    let full : Full = c.in-Some.full in
    let none : has_room log.limits log.entries c.charge-charge.result ≡ false = grind (arith, c.stop.ensures, c.in-Some.is) in
    let numbers : full ≡ full_at log.entries c.charge-charge.result = grind (arith, c.stop.ensures, c.in-Some.is) in
    turn_fills o t c.args.p c.args.event c.args.self.now full
    (ap (has_room log.limits log.entries) (sym c.charge-charge.ensures) ∙ none)
    at going now (numbers ∙ ap (full_at log.entries) c.charge-charge.ensures)

pub returns : goal.returns
returns c =
    let room : HasRoom c.args.self.now.log c.charge-charge.result = grind (arith, c.stop.ensures, c.in_default.is) in
    on_ok_weaker c.enter.result
    (λ gives o t is going now at.
    turn_enters o t c.args.p c.args.event c.args.self.now c.enter.new.self
    (subst (HasRoom c.args.self.now.log) c.charge-charge.ensures room) at going now (gives o t is going now at))
    c.enter.ensures
