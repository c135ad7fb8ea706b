-- A play that makes one call more.
use Rattle.std.proofs.Common.{◌≡◌, ℕ, ◌≤◌, Bool, true, false, arith, List, [], ◌∷◌, ◌++◌, length, Option, Some, None, refl, sym, ap, ◌∙◌}
use Rattle.std.proofs.lemmas.List.{length-map, map-append}
use Rattle.std.proofs.lemmas.Option.{none-some}
use Rattle.std.specs.Prelude.{◌==◌, count_by, if◌then◌else◌}
use Rattle.session_order.specs.Calls.{calls_by, next_by, next_of}
use Rattle.session_order.specs.Ends.{Setup}
use Rattle.session_order.specs.Follows.{is_waiting}
use Rattle.session_order.specs.Meant.{NextIsPlain, plain_history}
use Rattle.session_order.specs.Serial.{Played, call_now, entry_at}
use Rattle.session_order.specs.Standing.{AreAfter}
use Rattle.session_run.specs.Playing.{IsAt}
use Rattle.session_run.specs.declared.player.Player.{Player}
use Rattle.session_text.specs.Programs.{next, program_of}
use Rattle.session_text.specs.declared.program.Program.{Program}
use Rattle.vt_events.specs.Plain.{plain_entry, plain_event, plain_reply}
use Rattle.vt_events.specs.declared.entry.Entry.{Entry}
use Rattle.vt_events.specs.declared.event.Event.{Event}
use Rattle.vt_events.specs.declared.reply.Reply.{Reply}
use Rattle.vt_events.specs.declared.reply.Reply.TheVariants as reply
use Rattle.vt_journal.specs.Log.{Logged}
use Rattle.vt_world.specs.History.{StepsAreEntered, replay}
use Rattle.vt_world.specs.Step.{HasOutcome, Outcome, step}

reply_twice : (r : Reply) → plain_reply (plain_reply r) ≡ plain_reply r
reply_twice (reply.Text b) = refl
reply_twice r = refl

next_now : (waits : Bool) (next : Option Event) (e : Event)
    → (if waits then None else next) ≡ Some e → next ≡ Some e
next_now true next e is = absurd (none-some e is)
next_now false next e is = is

-- the changes by a call of p
pub record Enters (p : ℕ) (e : Event) (program : Program) (before after : Player) : Type 0 where
  pub seq : ℕ
  pub reply : Reply
  pub few : length before.log.entries ≤ 1_000_000
  pub stepped : HasOutcome (step before.world p e) after.world reply
  pub logged :
      after.log ≡ record before.log { entries = before.log.entries ++ (record { caller = p; seq = seq; event = e; reply = reply }) ∷ [] }
  pub numbered :
      (programs : List Program) (h : List Entry) → AreAfter programs h before.standing
      → seq ≡ count_by (λ entry. entry.caller == p) h
  pub took :
      (programs : List Program) (h : List Entry) (entry : Entry)
      → program_of programs p ≡ Some program → AreAfter programs h before.standing
      → length h ≤ 1_000_000 → entry.caller ≡ p
      → next_by programs p h ≡ Some (plain_event entry.event)
      → plain_reply entry.reply ≡ plain_reply reply
      → AreAfter programs (h ++ entry ∷ []) after.standing
  pub stop : after.stop ≡ before.stop

pub entered : NextIsPlain → StepsAreEntered → (o : Setup) (t : Played) (p : ℕ) (e : Event) (program : Program) (before after : Player)
    → Enters p e program before after → program_of o.programs p ≡ Some program → t.stop ≡ None
    → call_now o t.history p ≡ Some e → IsAt o t before
    → IsAt o (record { history = t.history ++ entry_at o.start t.history p e ∷ []; stop = None }) after
entered is_plain steps o t p e program before after enters is going now at =
    let h : List Entry = t.history in
    let entry : Entry = record { caller = p; seq = enters.seq; event = e; reply = enters.reply } in
    let new : Entry = entry_at o.start h p e in
    let follows : next_by o.programs p h ≡ Some e =
    next_now (is_waiting (replay o.start h) p) (next_by o.programs p h) e now in
    let plain : plain_event e ≡ e =
    is_plain program (calls_by p h) e (ap (λ found. next_of found (calls_by p h)) (sym is) ∙ follows) in
    let answer : plain_reply enters.reply ≡ (step (replay o.start h) p e).reply =
    sym (ap (λ (x : Outcome). x.reply) enters.stepped) ∙ ap (λ w. (step w p e).reply) at.left.replayed in
    let replied : plain_reply new.reply ≡ plain_reply enters.reply =
    sym (ap plain_reply answer) ∙ reply_twice enters.reply in
    let number : enters.seq ≡ count_by (λ earlier. earlier.caller == p) h =
    enters.numbered o.programs h at.standing in
    let same : plain_entry entry ≡ new =
    λ i. record { caller = p; seq = number i; event = plain i; reply = answer i } in
    let few : length h ≤ 1_000_000 =
    omega (arith, enters.few, ap length at.history, length-map before.log.entries plain_entry) in
    record {
      history =
          ap (λ (log : Logged). plain_history log.entries) enters.logged
          ∙ map-append plain_entry before.log.entries (entry ∷ [])
          ∙ (λ i. at.history i ++ same i ∷ []);
      stop = enters.stop ∙ at.stop ∙ going;
      limits = ap (λ (log : Logged). log.limits) enters.logged ∙ at.limits;
      left =
          steps o.start before.world after.world h p e enters.reply new at.left enters.stepped
          (record { caller = refl; number = refl; event = refl; reply = replied });
      standing =
          enters.took o.programs h new is at.standing few refl (follows ∙ ap Some (sym plain)) replied;
    }
