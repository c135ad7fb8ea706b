-- The value that a pass finds under the lock, and the result of its look.
use Rattle.std.proofs.Common.{◌≡◌, ℕ, ◌+◌, ◌*◌, ◌<◌, ◌≤◌, ◌==◌, ◌&&◌, not, List, [], ◌∷◌, ◌++◌, length, Option, Some, None, refl, sym, ap, ◌∙◌, subst, arith, length-append}
use Rattle.std.proofs.lemmas.List.{length-map}
use Rattle.std.proofs.lemmas.List.Sums.{count_by-le-length, length-filter}
use Rattle.turn_lock.specs.History.{IsWordIn, word_of}
use Rattle.turn_lock.specs.Rule.{IsCaller}
use Rattle.turn_lock.specs.Views.{with_turn, with_published, without_turn}
use Rattle.turn_lock.specs.Told.{FindsHistory}
use Rattle.turn_lock.specs.Words.{AddsNext, HasMine}
use Rattle.turn_lock.specs.declared.seal.Seal.{Seal}
use Rattle.turn_lock.specs.declared.view.Role.{Role}
use Rattle.turn_lock.specs.declared.view.Role.TheVariants.{Caller}
use Rattle.turn_lock.specs.declared.view.View.{View}
use Rattle.atomic_table.specs.Seated.{TableId}
use Rattle.vt_events.specs.Charge.{charge_of}
use Rattle.vt_events.specs.declared.entry.Entry.{Entry}
use Rattle.vt_events.specs.declared.event.Event.{Event}
use Rattle.vt_events.specs.declared.reply.Reply.{Reply}
use Rattle.vt_hub.specs.Answers.{Called, Stopped, Waited, WakesEnded}
use Rattle.vt_hub.specs.Histories.{BeginsWith, IsRead, awaits, made_by}
use Rattle.vt_hub.specs.Places.{known_by}
use Rattle.vt_hub.specs.Shared.{Enters, IsSound, SharedView, Stops, Waits}
use Rattle.vt_hub.specs.Carrying.{Carried, display_of, plain, carried_entries, carried_entry}
use Rattle.vt_hub.specs.Views.{PassView}
use Rattle.vt_hub.specs.Waiters.{AreEnded, IsProcess, has_process}
use Rattle.vt_hub.proofs.Carried.{begins_more, begins_plain, first_display, front_after, made_carried_entries, plain_more, plain-carried_entries, read_carried_entries, carried_entries_more, word_grown, word_carried_entries}
use Rattle.vt_hub.proofs.Lists.{made_own}
use Rattle.vt_journal.specs.Room.{full_at, has_room}
use Rattle.vt_journal.specs.declared.full.Full.{Full}
use Rattle.vt_journal.specs.declared.limits.Limits.{Limits}
use Rattle.vt_world.specs.History.{IsLegal, replay}
use Rattle.vt_world.specs.State.{WorldState, is_waiting}
use Rattle.vt_world.specs.Step.{step}

-- the value that the pass of this number, with the view v of the lock, finds at its turn, and its view then
pub record Found (start : WorldState) (most : Limits) (number seq : ℕ) (v : View Entry Full)
    (s : SharedView) (held : View Entry Full) : Type 0 where
  pub sound : IsSound start most s
  pub named : v.role ≡ Caller number
  pub counted : seq ≡ length v.mine
  pub finds : FindsHistory (display_of start) (carried_entries start s.log.entries) s.stop v
  pub ticket : ℕ
  pub has : held ≡ with_turn ticket (carried_entries start s.log.entries) s.stop v

-- from the clauses of the lock on the value that it returns, which s is
pub found_from : (start : WorldState) (most : Limits) (number seq : ℕ) (v : View Entry Full)
    (old s : SharedView) (held : View Entry Full) → s ≡ old → IsSound start most s
    → v.role ≡ Caller number → seq ≡ length v.mine
    → FindsHistory (display_of start) (carried_entries start old.log.entries) old.stop v
    → ((ticket : ℕ) × (held ≡ with_turn ticket (carried_entries start old.log.entries) old.stop v))
    → Found start most number seq v s held
found_from start most number seq v old s held same sound named counted finds has = record {
  sound = sound;
  named = named;
  counted = counted;
  finds = subst (λ (o : SharedView). FindsHistory (display_of start) (carried_entries start o.log.entries) o.stop v)
      (sym same) finds;
  ticket = has.0;
  has = has.1 ∙ ap (λ (o : SharedView). with_turn has.0 (carried_entries start o.log.entries) o.stop v)
      (sym same);
}

-- the pass after its turn: it has seen this history
pub record Left (hub : TableId) (number : ℕ) (v : View Entry Full) (seen mine : List Entry)
    (stop : Option (Seal Full)) (w : PassView) : Type 0 where
  pub hub_is : w.hub ≡ hub
  pub number_is : w.number ≡ number
  pub known_is : w.known ≡ v.known
  pub read_is : w.read ≡ plain v.read
  pub seen_is : w.seen ≡ seen
  pub mine_is : w.mine ≡ mine
  pub stop_is : w.stop ≡ stop

-- a caller made no more calls than there are
pub few_made : (n : ℕ) (es : List Entry) → length (made_by n es) ≤ length es
few_made n es =
    let calls = length-filter (λ (x : Entry). x.caller == n) es in
    let few = count_by-le-length (λ (x : Entry). x.caller == n) es in omega (arith, calls, few)

-- the word that is computed is that of the history
pub front_is : (start : WorldState) (most : Limits) (s : SharedView) → IsSound start most s
    → 64 * length s.log.entries + s.world.display.front
    ≡ word_of (display_of start) (carried_entries start s.log.entries)
front_is start most s sound =
    ap (λ (w : WorldState). 64 * length s.log.entries + w.display.front) sound.replayed
    ∙ word_carried_entries start s.log.entries (first_display start sound.display_low sound.display_high)

no_seal : (a b : Option (Seal Full)) → ((z : Seal Full) → a ≡ Some z → b ≡ Some z) → b ≡ None
    → a ≡ None
no_seal None b sure none = refl
no_seal (Some z) b sure none = let bad : Some z ≡ None = sym (sure z refl) ∙ none in absurd cc

-- the stop of the hub is the answer
pub met_before : (p : ℕ) (e : Event) (v : SharedView) (z : Seal Full) → v.stop ≡ Some z
    → Stops p e v v z.what
met_before p e v z is = record {
  log = refl;
  world = refl;
  by = z.by;
  stop = is;
  again = λ y also. same_seal y z (sym also ∙ is);
  first = λ none. let bad : None ≡ Some z = sym none ∙ is in absurd cc;
}
  where
    same_seal : (a b : Seal Full) → Some a ≡ Some b → a ≡ b
    same_seal a b same = cc

module _ (start : WorldState) (most : Limits) (number seq : ℕ) (v : View Entry Full)
    (s : SharedView) (held : View Entry Full) (found : Found start most number seq v s held) where
  pub first : display_of start ≡ start.display.front
  first = first_display start found.sound.display_low found.sound.display_high

  pub made : plain v.mine ≡ made_by number s.log.entries
  made =
      ap plain (subst (λ (r : Role Entry Full). HasMine (carried_entries start s.log.entries) r v.mine)
      found.named found.finds.mine)
      ∙ made_carried_entries number start s.log.entries

  -- its number of calls is that of its entries
  pub count : seq ≡ length (made_by number s.log.entries)
  count =
      found.counted
      ∙ (sym (length-map v.mine (λ (e : Carried). e.what)) ∙ ap length made)

  pub later : List Entry
  later = plain found.finds.seen.0

  pub seen : s.log.entries ≡ plain v.seen ++ later
  unfolding later
  seen =
      sym (plain-carried_entries start s.log.entries)
      ∙ (ap plain found.finds.seen.1 ∙ plain_more v.seen found.finds.seen.0)

  -- the history that it had read is a prefix
  pub kept : BeginsWith s.log.entries (plain v.read)
  kept = begins_plain start s.log.entries v.read found.finds.read

  pub read : IsRead start s.log.entries v.known
  read = read_carried_entries start s.log.entries v.known first found.finds.known

  pub unmet : s.stop ≡ None → v.seal ≡ None
  unmet none = no_seal v.seal s.stop (λ z is. (found.finds.stands z is).0) none

  -- the entry that a call adds is the next one of the pass
  pub adds : (s' : SharedView) (e : Event) (place : ℕ) (r : Reply)
      → Enters number seq e s s' place r → IsSound start most s'
      → AddsNext (carried_entries start s'.log.entries) held
  adds s' e place r enters sound =
      let entry : Entry = enters.entry in
      let grown : carried_entries start s'.log.entries ≡ carried_entries start s.log.entries
      ++ carried_entry (front_after start s.log.entries entry) entry ∷ [] =
      ap (carried_entries start) enters.entries ∙ carried_entries_more start s.log.entries entry in
      let after : s'.world.display.front ≡ front_after start s.log.entries entry =
      ap (λ (w : WorldState). w.display.front)
      (sound.replayed ∙ (ap (replay start) enters.entries ∙ replay-one start s.log.entries entry))
      in subst (AddsNext (carried_entries start s'.log.entries)) (sym found.has) (
        carried_entry (front_after start s.log.entries entry) entry,
        grown,
        found.named ∙ ap (λ (n : ℕ). Caller n) (sym enters.caller),
        enters.number ∙ found.counted,
        (
          subst (λ (n : ℕ). 0 < n) after sound.shown_low,
          subst (λ (n : ℕ). n < 64) after sound.shown_high,
        ),
      )
    where
      replay-one : (w : WorldState) (es : List Entry) (x : Entry)
          → replay w (es ++ x ∷ []) ≡ (step (replay w es) x.caller x.event).world
      replay-one w [] x = refl
      replay-one w (y ∷ es) x = replay-one (step w y.caller y.event).world es x

  pub called : (hub : TableId) (s' : SharedView) (e : Event) (place : ℕ) (r : Reply) (w : PassView)
      → (enters : Enters number seq e s s' place r) → IsSound start most s'
      → Left hub number v s'.log.entries (plain v.mine ++ enters.entry ∷ []) None w
      → Called start most e (known_by hub number v) w place r
  unfolding later
  called hub s' e place r w enters sound left =
      let entry : Entry = enters.entry in
      let es : List Entry = s.log.entries in
      let whole : w.seen ≡ es ++ entry ∷ [] = left.seen_is ∙ enters.entries in
      let own : made_by number (es ++ entry ∷ []) ≡ made_by number es ++ entry ∷ [] =
      made_own number es entry enters.caller in record {
        hub = left.hub_is;
        number = left.number_is;
        known = left.known_is;
        read = left.read_is;
        between = later;
        entry = entry;
        seen = whole ∙ ap (λ (l : List Entry). l ++ entry ∷ []) seen;
        at = enters.at ∙ ap length seen;
        caller = enters.caller;
        event = enters.event;
        reply = enters.reply;
        mine = left.mine_is;
        before = made ∙ ap (made_by number) seen;
        own = left.mine_is
            ∙ (ap (λ (l : List Entry). l ++ entry ∷ []) made
            ∙ (sym own ∙ (sym (ap (made_by number) whole)
            ∙ ap (λ (n : ℕ). made_by n w.seen) (sym left.number_is))));
        legal = subst (IsLegal start) (sym left.seen_is) sound.legal;
        room = ap (λ (l : List Entry). has_room most l (charge_of e)) (sym seen)
            ∙ (ap (λ (m : Limits). has_room m es (charge_of e)) (sym found.sound.limits)
            ∙ enters.room);
        free = ap (λ (x : WorldState). is_waiting x number)
            (ap (replay start) (sym seen) ∙ sym found.sound.replayed) ∙ enters.free;
        met = unmet enters.met;
        goes_on = left.stop_is;
        word = subst (λ (l : List Entry). IsRead start l v.known) (sym left.seen_is)
            (read_carried_entries start s'.log.entries v.known first
            (subst (λ (l : List Carried). IsWordIn (display_of start) l v.known)
            (sym (ap (carried_entries start) enters.entries ∙ carried_entries_more start es entry))
            (word_grown (display_of start) (carried_entries start es)
            (carried_entry (front_after start es entry) entry ∷ []) v.known found.finds.known)));
        kept = begins_more w.seen es (plain v.read) (entry ∷ []) whole kept;
      }

  own_charge : (s' : SharedView) (e : Event) (full : Full) (stops : Stops number e s s' full)
      → v.seal ≡ None → stops.by ≡ number → full.charge ≡ charge_of e
  own_charge s' e full stops unmet by = go s.stop refl
    where
      go : (o : Option (Seal Full)) → s.stop ≡ o → full.charge ≡ charge_of e
      go None is = (stops.first is).1
      go (Some z) is =
          let named : z.by ≡ number = ap (λ (y : Seal Full). y.by) (stops.again z is) ∙ by in
          let mine : IsCaller z.by v.role =
          subst (IsCaller z.by) (sym found.named) (sym named) in
          let bad : None ≡ Some z = sym unmet ∙ found.finds.own z is mine in absurd cc

  pub stopped : (hub : TableId) (s' : SharedView) (e : Event) (full : Full) (w : PassView)
      → Stops number e s s' full → IsSound start most s'
      → Left hub number v s.log.entries (plain v.mine) s'.stop w
      → Stopped start most e (known_by hub number v) w full
  unfolding later
  stopped hub s' e full w stops sound left =
      let stop : Seal Full = record { by = stops.by; what = full } in
      let right = sound.stops stop stops.stop in
      let same : s'.log.entries ≡ w.seen =
      ap (λ l. l.entries) stops.log ∙ sym left.seen_is in record {
        hub = left.hub_is;
        number = left.number_is;
        known = left.known_is;
        read = left.read_is;
        mine = left.mine_is;
        later = later;
        seen = left.seen_is ∙ seen;
        own = left.mine_is
            ∙ (made ∙ (ap (made_by number) (sym left.seen_is)
            ∙ ap (λ (n : ℕ). made_by n w.seen) (sym left.number_is)));
        legal = subst (IsLegal start) (sym left.seen_is) found.sound.legal;
        by = stops.by;
        met = left.stop_is ∙ stops.stop;
        again = λ z is.
            let stands = found.finds.stands z is in (
              stops.again z stands.0,
              left.seen_is
                  ∙ (sym (plain-carried_entries start s.log.entries) ∙ ap plain stands.1),
            );
        numbers = right.numbers ∙ ap (λ (l : List Entry). full_at l full.charge) same;
        no_room = ap (λ (l : List Entry). has_room most l full.charge) (sym same)
            ∙ right.no_room;
        charge = λ unmet by. own_charge s' e full stops unmet by;
        goes = ap (λ (x : WorldState). is_waiting x stops.by)
            (ap (replay start) (sym same) ∙ sym sound.replayed) ∙ right.goes;
        word = subst (λ (l : List Entry). IsRead start l v.known) (sym left.seen_is) read;
        kept = subst (λ (l : List Entry). BeginsWith l (plain v.read)) (sym left.seen_is) kept;
      }

  pub waited : (hub : TableId) (s' : SharedView) (w : PassView) → Waits number s s'
      → Left hub number v s.log.entries (plain v.mine) None w
      → Waited start (known_by hub number v) w
  unfolding later
  waited hub s' w waits left = record {
    hub = left.hub_is;
    number = left.number_is;
    known = left.known_is;
    read = left.read_is;
    mine = left.mine_is;
    later = later;
    seen = left.seen_is ∙ seen;
    met = unmet waits.met;
    goes_on = left.stop_is;
    waits = ap awaits made ∙ found.sound.tickets number waits.waits;
    still = ap (λ (l : List Entry). is_waiting (replay start l) number) left.seen_is
        ∙ ap (λ (x : WorldState). is_waiting x number) (sym found.sound.replayed) ∙ waits.waits;
  }

  -- the result of its turn, with the views of the lock at its turn, after it published the entry, and
  -- after it left
  module _ (s' : SharedView) (after : View Entry Full) where
    module _ (e : Event) (place : ℕ) (r : Reply) (enters : Enters number seq e s s' place r)
        (shown : View Entry Full) (shows : shown ≡ with_published (carried_entries start s'.log.entries) held)
        (adds_one : (x : Carried) → carried_entries start s'.log.entries ≡ held.seen ++ x ∷ []
        → shown.mine ≡ held.mine ++ x ∷ [])
        (left : after ≡ without_turn s'.stop shown) where
      entry_carried : Carried
      entry_carried = carried_entry (front_after start s.log.entries enters.entry) enters.entry

      after-mine : after.mine ≡ v.mine ++ entry_carried ∷ []
      unfolding entry_carried
      after-mine =
          let grown : carried_entries start s'.log.entries ≡ held.seen ++ entry_carried ∷ [] =
          ap (carried_entries start) enters.entries
          ∙ (carried_entries_more start s.log.entries enters.entry
          ∙ ap (λ (x : View Entry Full). x.seen ++ entry_carried ∷ []) (sym found.has)) in
          ap (λ (x : View Entry Full). x.mine) left
          ∙ (adds_one entry_carried grown
          ∙ ap (λ (x : View Entry Full). x.mine ++ entry_carried ∷ []) found.has)

      after-whole : after ≡ without_turn s'.stop (with_published (carried_entries start s'.log.entries) held)
      after-whole = left ∙ ap (without_turn s'.stop) shows

      pub role_after : after.role ≡ Caller number
      role_after =
          ap (λ (x : View Entry Full). x.role) after-whole
          ∙ (ap (λ (x : View Entry Full). x.role) found.has ∙ found.named)

      pub counted_after : seq + 1 ≡ length after.mine
      unfolding entry_carried
      counted_after =
          let long = ap length after-mine in
          let one = length-append v.mine (entry_carried ∷ []) in
          let counted = found.counted in omega (arith, long, one, counted)

      pub done : (hub : TableId) (old : PassView) → known_by hub number v ≡ old → (here : TableId)
          → here ≡ hub → IsSound start most s' → Called start most e old (known_by here number after) place r
      unfolding entry_carried
      done hub old is here home sound = subst
          (λ (o : PassView). Called start most e o (known_by here number after) place r) is
          (called hub s' e place r (known_by here number after) enters sound (record {
            hub_is = home;
            number_is = refl;
            known_is = ap (λ (x : View Entry Full). x.known) after-whole
                ∙ ap (λ (x : View Entry Full). x.known) found.has;
            read_is = ap (λ (x : View Entry Full). plain x.read) after-whole
                ∙ ap (λ (x : View Entry Full). plain x.read) found.has;
            seen_is = ap (λ (x : View Entry Full). plain x.seen) after-whole
                ∙ plain-carried_entries start s'.log.entries;
            mine_is = ap plain after-mine ∙ plain_more v.mine (entry_carried ∷ []);
            stop_is = ap (λ (x : View Entry Full). x.seal) after-whole ∙ enters.goes_on;
          }))

      -- the processes that were woken are those whose tickets this call ended
      pub wakes : (here : TableId) → IsSound start most s' → (ended woken : ℕ) → AreEnded s.world s'.world ended
          → ((p : ℕ) → IsProcess p → has_process woken p ≡ has_process ended p)
          → WakesEnded start (known_by here number after) woken
      wakes here sound ended woken are same =
          let whole : plain after.seen ≡ s'.log.entries =
          ap (λ (x : View Entry Full). plain x.seen) after-whole ∙ plain-carried_entries start s'.log.entries in
          let old : s.world ≡ replay start s.log.entries = found.sound.replayed in
          let new : s'.world ≡ replay start (plain after.seen) =
          sound.replayed ∙ ap (replay start) (sym whole) in record {
            before = s.log.entries;
            entry = enters.entry;
            seen = whole ∙ enters.entries;
            ended = λ p process.
                same p process
                ∙ are p process
                ∙ (λ i. is_waiting (old i) p && not (is_waiting (new i) p));
          }

    module _ (left : after ≡ without_turn s'.stop held) where
      left-whole : after ≡ without_turn s'.stop (with_turn found.ticket (carried_entries start s.log.entries) s.stop v)
      left-whole = left ∙ ap (without_turn s'.stop) found.has

      module _ (hub : TableId) (old : PassView) (is : known_by hub number v ≡ old) (here : TableId)
          (home : here ≡ hub) where
        stays : Left hub number v s.log.entries (plain v.mine) s'.stop (known_by here number after)
        stays = record {
          hub_is = home;
          number_is = refl;
          known_is = ap (λ (x : View Entry Full). x.known) left-whole;
          read_is = ap (λ (x : View Entry Full). plain x.read) left-whole;
          seen_is = ap (λ (x : View Entry Full). plain x.seen) left-whole
              ∙ plain-carried_entries start s.log.entries;
          mine_is = ap (λ (x : View Entry Full). plain x.mine) left-whole;
          stop_is = ap (λ (x : View Entry Full). x.seal) left-whole;
        }

        pub full : (e : Event) (full : Full) → Stops number e s s' full → IsSound start most s'
            → Stopped start most e old (known_by here number after) full
        full e answer stops sound = subst
            (λ (o : PassView). Stopped start most e o (known_by here number after) answer) is
            (stopped hub s' e answer (known_by here number after) stops sound stays)

        pub waits : Waits number s s' → Waited start old (known_by here number after)
        waits waiting = subst (λ (o : PassView). Waited start o (known_by here number after)) is
            (waited hub s' (known_by here number after) waiting
            (subst (λ (z : Option (Seal Full)).
            Left hub number v s.log.entries (plain v.mine) z (known_by here number after))
            (ap (λ (x : SharedView). x.stop) waiting.same ∙ waiting.met) stays))
