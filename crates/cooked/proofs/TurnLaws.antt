-- A turn by its calls.
use Rattle.std.proofs.Common.{◌≡◌, ◌⊎◌, ◌≢◌, inl, inr, ℕ, Bool, false, List, [], ◌∷◌, ◌++◌, Some, None, refl, sym, ap, ◌∙◌, subst, append_assoc}
use Rattle.std.proofs.lemmas.List.{append-nil}
use Rattle.std.proofs.lemmas.Option.{none-some}
use Rattle.std.specs.Prelude.{Option, Result, Ok, Err}
use Rattle.turn_lock.specs.declared.seal.Seal.{Seal}
use Rattle.vt_base.specs.Bytes.{Text}
use Rattle.vt_base.specs.declared.errno.Errno.{Errno}
use Rattle.vt_events.specs.Kinds.{text}
use Rattle.vt_events.specs.Plain.{plain_event, plain_reply}
use Rattle.vt_events.specs.Waits.{is_wait}
use Rattle.vt_events.specs.declared.entry.Entry.{Entry}
use Rattle.vt_events.specs.declared.event.Event.{Event}
use Rattle.vt_events.specs.declared.event.Event.TheVariants as event
use Rattle.vt_events.specs.declared.reply.Reply.{Reply}
use Rattle.vt_events.specs.declared.reply.Reply.TheVariants as reply
use Rattle.vt_hub.specs.Answers.{Called, Stopped}
use Rattle.vt_hub.specs.Histories.{BeginsWith, IsRead, awaits, waits_by}
use Rattle.vt_hub.specs.Views.{PassView}
use Rattle.vt_journal.specs.declared.full.Full.{Full}
use Rattle.vt_journal.specs.declared.limits.Limits.{Limits}
use Rattle.vt_world.specs.History.{IsLegal}
use Rattle.vt_world.specs.State.{WorldState}
use Rattle.cooked.proofs.ReadLaws.{legal_read, legal_write}
use Rattle.cooked.specs.Cooked.{Typing, make_typing}
use Rattle.cooked.specs.Echo.{echo_of}
use Rattle.cooked.specs.Fresh.{fresh}
use Rattle.cooked.specs.Given.{items_after, items_of, line_in}
use Rattle.cooked.specs.Turn.{Echoes, GoesOn, MetFull, Meets, ReadAnswer, ReadResult, Reads, ReadsByte, ReadsNone, Refuses, Turns, Writes, Wrote, stop_of}
use Rattle.cooked.specs.declared.stop.Stop.{Stop}
use Rattle.cooked.specs.declared.stop.Stop.TheVariants as stop
use Rattle.cooked.specs.declared.termios.Termios.{Termios}
use Rattle.cooked.specs.declared.turn.Turn.{Turn}

last_waits : (known : Bool) (es : List Entry) (e : Entry) → waits_by known (es ++ e ∷ []) ≡ is_wait e.reply
last_waits known [] e = refl
last_waits known (x ∷ es) e = last_waits (is_wait x.reply) es e

-- the pass v, before the first call and after calls: the entries that it made so far
pub record Came (u v : PassView) (made : List Entry) : Type 0 where
  pub hub : v.hub ≡ u.hub
  pub number : v.number ≡ u.number
  pub known : v.known ≡ u.known
  pub read : v.read ≡ u.read
  pub mine : v.mine ≡ u.mine ++ made
  pub later : List Entry
  pub seen : v.seen ≡ u.seen ++ later

came_here : (v : PassView) → Came v v []
came_here v = record {
  hub = refl;
  number = refl;
  known = refl;
  read = refl;
  mine = sym (append-nil v.mine);
  later = [];
  seen = sym (append-nil v.seen);
}

came_on : (start : WorldState) (u v : PassView) (made : List Entry) → GoesOn start u v made → Came u v made
came_on start u v made g = record {
  hub = g.hub;
  number = g.number;
  known = g.known;
  read = g.read;
  mine = g.mine;
  later = g.later;
  seen = g.seen;
}

goes_done : (start : WorldState) (most : Limits) (e : Event) (u v w : PassView) (made : List Entry) (place : ℕ) (r : Reply)
    → Came u v made → (called : Called start most e v w place r) → GoesOn start u w (made ++ called.entry ∷ [])
goes_done start most e u v w made place r came called = record {
  hub = called.hub ∙ came.hub;
  number = called.number ∙ came.number;
  known = called.known ∙ came.known;
  read = called.read ∙ came.read;
  mine =
      called.mine
      ∙ ap (λ es. es ++ called.entry ∷ []) came.mine
      ∙ append_assoc u.mine made (called.entry ∷ []);
  later = came.later ++ (called.between ++ called.entry ∷ []);
  seen =
      called.seen
      ∙ append_assoc v.seen called.between (called.entry ∷ [])
      ∙ ap (λ es. es ++ (called.between ++ called.entry ∷ [])) came.seen
      ∙ append_assoc u.seen came.later (called.between ++ called.entry ∷ []);
  own = called.own;
  legal = called.legal;
  word = subst (λ k. IsRead start w.seen k) (sym called.known) called.word;
  kept = subst (λ k. BeginsWith w.seen k) (sym called.read) called.kept;
}

goes_full : (start : WorldState) (most : Limits) (e : Event) (u v w : PassView) (made : List Entry) (full : Full)
    → Came u v made → Stopped start most e v w full → GoesOn start u w (made ++ [])
goes_full start most e u v w made full came stopped = record {
  hub = stopped.hub ∙ came.hub;
  number = stopped.number ∙ came.number;
  known = stopped.known ∙ came.known;
  read = stopped.read ∙ came.read;
  mine = stopped.mine ∙ came.mine ∙ ap (λ es. u.mine ++ es) (sym (append-nil made));
  later = came.later ++ stopped.later;
  seen =
      stopped.seen
      ∙ ap (λ es. es ++ stopped.later) came.seen
      ∙ append_assoc u.seen came.later stopped.later;
  own = stopped.own;
  legal = stopped.legal;
  word = subst (λ k. IsRead start w.seen k) (sym stopped.known) stopped.word;
  kept = subst (λ k. BeginsWith w.seen k) (sym stopped.read) stopped.kept;
}

-- a call of a read of one is answered by a byte or an error
pub call_reads : (start : WorldState) (most : Limits) (fd : ℕ) (v w : PassView) (place : ℕ) (r : Reply)
    → Called start most (event.ReadIn fd 1) v w place r → ReadAnswer 1 r
call_reads start most fd v w place r called =
    legal_read start (v.seen ++ called.between) called.entry fd 1 r
    (subst (IsLegal start) called.seen called.legal) called.event called.reply

text_is : (a : Reply) (b : ℕ) → plain_reply a ≡ reply.Text (text (b ∷ [])) → is_wait a ≡ false
text_is reply.Wait b is = absurd (let wrong : ⊥ = cc in wrong)
text_is a b is = refl

err_is : (a r : Reply) (stopped : Stop) → plain_reply a ≡ plain_reply r → (refused : Refuses r stopped)
    → a ≡ reply.Err refused.errno
err_is a r stopped same refused = of_err a refused.errno (same ∙ ap plain_reply refused.told)
  where
    of_err : (a : Reply) (errno : Errno) → plain_reply a ≡ reply.Err errno → a ≡ reply.Err errno
    of_err (reply.Text b) errno is = absurd (let wrong : ⊥ = cc in wrong)
    of_err a errno is = is

err_waits : (a : Reply) (r : Reply) (stopped : Stop) → plain_reply a ≡ plain_reply r → Refuses r stopped → is_wait a ≡ false
err_waits a r stopped same refused = ap is_wait (err_is a r stopped same refused)

pub reads_byte : (start : WorldState) (most : Limits) (fd : ℕ) (v w : PassView) (place : ℕ) (r : Reply) (b : ℕ)
    → Called start most (event.ReadIn fd 1) v w place r → plain_reply r ≡ reply.Text (text (b ∷ []))
    → ReadsByte start fd v w b
reads_byte start most fd v w place r b called is = record {
  read = called.entry;
  reads = called.event;
  told = called.reply ∙ is;
  goes_on = goes_done start most (event.ReadIn fd 1) v v w [] place r (came_here v) called;
  met = called.goes_on;
  free =
      ap awaits called.mine
      ∙ last_waits false v.mine called.entry
      ∙ text_is called.entry.reply b (called.reply ∙ is);
}

pub reads_error : (start : WorldState) (most : Limits) (fd : ℕ) (v w : PassView) (place : ℕ) (r : Reply) (stopped : Stop)
    → Called start most (event.ReadIn fd 1) v w place r → Refuses r stopped → ReadsNone start fd v w stopped
reads_error start most fd v w place r stopped called refused = record {
  made = called.entry ∷ [];
  cause = inl (record {
    read = called.entry;
    reads = called.event;
    errno = refused.errno;
    told = err_is called.entry.reply r stopped called.reply refused;
    alone = refl;
    stop = ap Some refused.stop;
  });
  goes_on = goes_done start most (event.ReadIn fd 1) v v w [] place r (came_here v) called;
  met = subst (λ s. Meets (Some s) w.stop) (sym refused.stop) called.goes_on;
  free = λ met.
      ap awaits called.mine
      ∙ last_waits false v.mine called.entry
      ∙ err_waits called.entry.reply r stopped called.reply refused;
}

pub reads_full : (start : WorldState) (most : Limits) (fd : ℕ) (v w : PassView) (full : Full)
    → Stopped start most (event.ReadIn fd 1) v w full → ReadsNone start fd v w (stop.Full full)
reads_full start most fd v w full stopped = record {
  made = [];
  cause = inr (record { full = full; none = refl; stop = refl });
  goes_on = goes_full start most (event.ReadIn fd 1) v v w [] full (came_here v) stopped;
  met = (stopped.by, stopped.met);
  free = λ met. absurd (none-some _ (sym met ∙ stopped.met));
}

pub reads_done : (start : WorldState) (most : Limits) (fd : ℕ) (v w : PassView) (place : ℕ) (r : Reply) (result : Result ℕ Stop)
    → Called start most (event.ReadIn fd 1) v w place r → ReadResult r result → Reads start fd v w result
reads_done start most fd v w place r (Ok b) called is = reads_byte start most fd v w place r b called is
reads_done start most fd v w place r (Err stopped) called is = reads_error start most fd v w place r stopped called is

plain_stop : (r : Reply) → stop_of (plain_reply r) ≡ stop_of r
plain_stop (reply.Text b) = refl
plain_stop r = refl

meets_none : (r : Reply) (met : Option (Seal Full)) → met ≡ None → Meets (stop_of r) met
meets_none (reply.Err errno) met is = is
meets_none r met is = is

echo_by : (fd : ℕ) (bytes : List ℕ) (made : List Entry) (stopped : Option Stop) → bytes ≢ []
    → Wrote fd bytes made stopped ⊎ MetFull made stopped → Echoes fd bytes made stopped
echo_by fd [] made stopped some how = absurd (some refl)
echo_by fd (b ∷ more) made stopped some how = how

pub writes_none : (start : WorldState) (fd : ℕ) (v : PassView) (bytes : List ℕ) → bytes ≡ [] → v.stop ≡ None
    → awaits v.mine ≡ false → Writes start fd bytes v v None
writes_none start fd v bytes empty met free = record {
  made = [];
  echoes = subst (λ bs. Echoes fd bs [] None) (sym empty) (refl, refl);
  goes_on = λ first before goes. subst (GoesOn start first v) (sym (append-nil before)) goes;
  met = met;
  free = λ _. free;
}

pub writes_done : (start : WorldState) (most : Limits) (fd : ℕ) (bytes : List ℕ) (sent : Text) (v w : PassView) (place : ℕ) (r : Reply)
    → bytes ≢ [] → sent.bytes ≡ bytes → Called start most (event.Write fd sent) v w place r
    → Writes start fd bytes v w (stop_of r)
writes_done start most fd bytes sent v w place r some same called = record {
  made = called.entry ∷ [];
  echoes =
      echo_by fd bytes (called.entry ∷ []) (stop_of r) some
      (inl (record {
        entry = called.entry;
        alone = refl;
        event = ap plain_event called.event ∙ ap (λ bs. event.Write fd (text bs)) same;
        stop =
            sym (plain_stop r) ∙ ap stop_of (sym called.reply) ∙ plain_stop called.entry.reply;
      }));
  goes_on = λ first before goes.
      goes_done start most (event.Write fd sent) first v w before place r (came_on start first v before goes) called;
  met = meets_none r w.stop called.goes_on;
  free = λ met.
      ap awaits called.mine
      ∙ last_waits false v.mine called.entry
      ∙ legal_write start (v.seen ++ called.between) called.entry fd sent
      (subst (IsLegal start) called.seen called.legal) called.event;
}

pub writes_full : (start : WorldState) (most : Limits) (fd : ℕ) (bytes : List ℕ) (sent : Text) (v w : PassView) (full : Full)
    → bytes ≢ [] → Stopped start most (event.Write fd sent) v w full
    → Writes start fd bytes v w (Some (stop.Full full))
writes_full start most fd bytes sent v w full some stopped = record {
  made = [];
  echoes = echo_by fd bytes [] (Some (stop.Full full)) some (inr (record { full = full; none = refl; stop = refl }));
  goes_on = λ first before goes.
      goes_full start most (event.Write fd sent) first v w before full (came_on start first v before goes) stopped;
  met = (stopped.by, stopped.met);
  free = λ met. absurd (none-some _ (sym met ∙ stopped.met));
}

make_typing_is : (v : Typing) (t : Termios) (f line : List ℕ) → v.termios ≡ t → v.fresh ≡ f → v.line ≡ line
    → v ≡ make_typing t f line
make_typing_is v t f line termios typed given_line =
    ap (λ x. make_typing x v.fresh v.line) termios
    ∙ ap (λ x. make_typing t x v.line) typed
    ∙ ap (make_typing t f) given_line

-- a read of a byte, its push, and the write of its echo
pub typed_turn : (start : WorldState) (fd : ℕ) (old new : Typing) (turn : Turn) (v u w : PassView) (byte : ℕ) (echo : List ℕ)
    → ReadsByte start fd v u byte → new.termios ≡ old.termios
    → new.fresh ≡ fresh old.termios (old.fresh ++ byte ∷ [])
    → new.line ≡ line_in (items_after old.termios old.fresh byte)
    → items_of turn.given new.line ≡ items_after old.termios old.fresh byte
    → echo ≡ echo_of old.termios old.fresh byte
    → Writes start fd echo u w turn.stop
    → Turns start fd old new turn v w
typed_turn start fd old new turn v u w byte echo reads termios typed given_line gave shown writes = record {
  made = reads.read ∷ writes.made;
  is = inl (record {
    byte = byte;
    read = reads.read;
    reads = reads.reads;
    told = reads.told;
    writes = writes.made;
    made_are = refl;
    pushed =
        make_typing_is new old.termios (fresh old.termios (old.fresh ++ byte ∷ []))
        (line_in (items_after old.termios old.fresh byte)) termios typed given_line;
    gave = gave;
    echoes = subst (λ bs. Echoes fd bs writes.made turn.stop) shown writes.echoes;
  });
  goes_on = writes.goes_on v (reads.read ∷ []) reads.goes_on;
  met = writes.met;
  free = writes.free;
}
