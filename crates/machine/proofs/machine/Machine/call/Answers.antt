use Rattle.std.proofs.Common.{◌≡◌, ◌<◌, ◌+◌, ℕ, arith, List, [], ◌∷◌, ◌++◌, get_or, set, refl, sym, ap, ◌∙◌, subst}
use Rattle.machine.specs.History.{IsAfter, Start}
use Rattle.machine.specs.MachineState.{HasCalled, MachineState}
use Rattle.vt_events.specs.declared.entry.Entry.{Entry}
use Rattle.vt_journal.specs.Log.{Logged}
use Rattle.machine.proofs.Continued.{after_more}
use Rattle.vt_world.proofs.Stated.{legal_grows-entered}
use Rattle.machine.proofs.machine.Machine.call.Goals as goal

pub invariant_of-self : goal.invariant_of-self
invariant_of-self c =
    let s : Start = record { config = c.self.inside.config; tables = c.self.inside.tables } in
    let l : Logged = c.self.inside.log in
    let made : List ℕ = c.self.inside.made in
    let same : c.from-at.result ≡ c.args.caller = c.from-at.ensures ∙ c.get.ensures.same in
    let low : c.args.caller < 68 = omega (arith, c.get.ensures.high, c.get.ensures.same) in
    let before : List Entry = c.self.invariant.before in record {
      before = before;
      size = c.self.invariant.size;
      after =
          subst
          (λ (es : List Entry). IsAfter s (before ++ es) c.call.new.self
          (set made c.from-at.result (get_or made c.from-at.result 0 + 1)))
          (sym (ap (λ (x : Logged). x.entries) c.push_counted.ensures))
          (subst
          (λ (k : ℕ). IsAfter s
          (before ++ (l.entries
          ++ record { caller = c.args.caller; seq = get_or made k 0; event = c.args.event; reply = c.in-Ok.reply } ∷ []))
          c.call.new.self (set made k (get_or made k 0 + 1)))
          (sym same)
          (after_more s before l.entries c.self.inside.world c.call.new.self made c.args.caller c.args.event c.in-Ok.reply
          legal_grows-entered c.self.invariant.after c.in-Ok.ensures.ok low (omega arith)));
    }

pub returns-in-Ok-clause-called : goal.returns-in-Ok-clause-called
returns-in-Ok-clause-called c =
    let s : Start = record { config = c.self.inside.config; tables = c.self.inside.tables } in
    let l : Logged = c.self.inside.log in
    let made : List ℕ = c.self.inside.made in
    let same : c.from-at.result ≡ c.args.caller = c.from-at.ensures ∙ c.get.ensures.same in
    let old : MachineState =
    record { start = s; world = c.self.inside.world; made = made; gone = c.self.inside.gone; log = l } in
    let new : MachineState = record {
      start = s;
      world = c.call.new.self;
      made = set made c.from-at.result (get_or made c.from-at.result 0 + 1);
      gone = c.self.inside.gone;
      log = c.push_counted.new.self;
    } in
    let here : HasCalled c.args.caller c.args.event old new = record {
      reply = c.in-Ok.reply;
      step = c.in-Ok.ensures.ok;
      bytes = c.in-Ok.ensures.bytes;
      start = refl;
      made = ap (λ (k : ℕ). set made k (get_or made k 0 + 1)) same;
      gone = refl;
      log =
          c.push_counted.ensures
          ∙ ap
          (λ (k : ℕ). record l {
            entries =
                l.entries
                ++ record { caller = c.args.caller; seq = get_or made k 0; event = c.args.event; reply = c.in-Ok.reply } ∷ [];
          })
          same;
    } in
    subst (λ (x : MachineState). HasCalled c.args.caller c.args.event x new) c.self.view_is here
