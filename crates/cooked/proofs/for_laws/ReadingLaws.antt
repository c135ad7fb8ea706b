-- The bytes that turns read are the bytes that they pushed.
use Rattle.std.proofs.Common.{◌≡◌, ⊎_elim, ℕ, List, [], ◌∷◌, ◌++◌, refl, sym, ap, ◌∙◌, subst, append_assoc}
use Rattle.std.proofs.lemmas.List.{append-nil}
use Rattle.std.specs.Prelude.{Option}
use Rattle.cooked.proofs.for_laws.Pushes.{fresh_none, one_more}
use Rattle.cooked.specs.Cooked.{Typing, make_typing}
use Rattle.cooked.specs.Fresh.{fresh}
use Rattle.cooked.specs.Given.{Item, items_after, items_of}
use Rattle.cooked.specs.Reading.{Lead, Made, TurnsRead, bytes_read, items_given, read_by}
use Rattle.cooked.specs.Turn.{Echoes, MetFull, ReadsOne, Refused, Turns, Typed, Untyped, Wrote}
use Rattle.cooked.specs.Whole.{all_items}
use Rattle.cooked.specs.declared.given.Given.{Given}
use Rattle.cooked.specs.declared.stop.Stop.{Stop}
use Rattle.cooked.specs.declared.termios.Termios.{Termios}
use Rattle.cooked.specs.declared.turn.Turn.{Turn}
use Rattle.vt_events.specs.Charge.{text_of_reply}
use Rattle.vt_events.specs.Plain.{plain_event, plain_reply}
use Rattle.vt_events.specs.declared.entry.Entry.{Entry}
use Rattle.vt_events.specs.declared.event.Event.{Event}
use Rattle.vt_events.specs.declared.event.Event.TheVariants as event
use Rattle.vt_events.specs.declared.reply.Reply.{Reply}
use Rattle.vt_events.specs.declared.reply.Reply.TheVariants as reply
use Rattle.vt_hub.specs.Views.{PassView}
use Rattle.vt_world.specs.State.{WorldState}

plain_text : (r : Reply) → text_of_reply (plain_reply r) ≡ text_of_reply r
plain_text (reply.Text b) = refl
plain_text r = refl

plain_reads : (e : Event) (r : Reply) → read_by (plain_event e) r ≡ read_by e r
plain_reads (event.ReadIn fd most) r = refl
plain_reads e r = refl

read_appends : (xs ys : List Entry) → bytes_read (xs ++ ys) ≡ bytes_read xs ++ bytes_read ys
read_appends [] ys = refl
read_appends (x ∷ xs) ys =
    ap (λ bs. read_by x.event x.reply ++ bs) (read_appends xs ys)
    ∙ sym (append_assoc (read_by x.event x.reply) (bytes_read xs) (bytes_read ys))

-- a write reads nothing
wrote_none : (fd : ℕ) (bytes : List ℕ) (made : List Entry) (stopped : Option Stop) → Wrote fd bytes made stopped
    → bytes_read made ≡ []
wrote_none fd bytes made stopped wrote =
    ap bytes_read wrote.alone
    ∙ ap (λ bs. bs ++ [])
    (sym (plain_reads wrote.entry.event wrote.entry.reply)
    ∙ ap (λ e. read_by e wrote.entry.reply) wrote.event)

met_none : (made : List Entry) (stopped : Option Stop) → MetFull made stopped → bytes_read made ≡ []
met_none made stopped met = ap bytes_read met.none

echo_none : (fd : ℕ) (bytes : List ℕ) (made : List Entry) (stopped : Option Stop) → Echoes fd bytes made stopped
    → bytes_read made ≡ []
echo_none fd [] made stopped none = ap bytes_read none.0
echo_none fd (b ∷ more) made stopped how = ⊎_elim
    (λ wrote. wrote_none fd (b ∷ more) made stopped wrote)
    (λ met. met_none made stopped met)
    how

reads : (fd : ℕ) (entry : Entry) → ReadsOne fd entry → read_by entry.event entry.reply ≡ text_of_reply entry.reply
reads fd entry is = ap (λ e. read_by e entry.reply) is

typed_reads : (fd : ℕ) (old new : Typing) (turn : Turn) (made : List Entry) (typed : Typed fd old new turn made)
    → bytes_read made ≡ typed.byte ∷ []
typed_reads fd old new turn made typed =
    ap bytes_read typed.made_are
    ∙ ap (λ bs. bs ++ bytes_read typed.writes)
    (reads fd typed.read typed.reads
    ∙ sym (plain_text typed.read.reply)
    ∙ ap text_of_reply typed.told)
    ∙ ap (λ bs. typed.byte ∷ bs) (echo_none fd _ typed.writes turn.stop typed.echoes)

refused_none : (fd : ℕ) (made : List Entry) (stopped : Option Stop) → Refused fd made stopped → bytes_read made ≡ []
refused_none fd made stopped refused =
    ap bytes_read refused.alone
    ∙ ap (λ bs. bs ++ []) (reads fd refused.read refused.reads ∙ ap text_of_reply refused.told)

untyped_none : (fd : ℕ) (old new : Typing) (turn : Turn) (made : List Entry) → Untyped fd old new turn made
    → bytes_read made ≡ []
untyped_none fd old new turn made untyped = ⊎_elim
    (λ refused. refused_none fd made turn.stop refused)
    (λ met. met_none made turn.stop met)
    untyped.cause

-- the state of the discipline after bytes
pub record After (t : Termios) (bytes : List ℕ) (v : Typing) : Type 0 where
  pub termios : v.termios ≡ t
  pub fresh : v.fresh ≡ fresh t bytes

-- the effect of a turn after bytes that were pushed before
pub record Adds (t : Termios) (before read : List ℕ) (after : Typing) (given_now : List Item) : Type 0 where
  pub now : After t (before ++ read) after
  pub items : all_items t (before ++ read) ≡ all_items t before ++ given_now

typed_adds : (fd : ℕ) (t : Termios) (before : List ℕ) (old new : Typing) (turn : Turn) (made : List Entry)
    → After t before old → Typed fd old new turn made
    → Adds t before (bytes_read made) new (items_of turn.given new.line)
typed_adds fd t before old new turn made at typed =
    let b : ℕ = typed.byte in
    let more = one_more t before b in
    subst (λ bs. Adds t before bs new (items_of turn.given new.line)) (sym (typed_reads fd old new turn made typed))
    (record {
      now = record {
        termios = ap (λ (v : Typing). v.termios) typed.pushed ∙ at.termios;
        fresh =
            ap (λ (v : Typing). v.fresh) typed.pushed
            ∙ ap (λ x. fresh x (old.fresh ++ b ∷ [])) at.termios
            ∙ ap (λ f. fresh t (f ++ b ∷ [])) at.fresh
            ∙ sym more.left;
      };
      items =
          more.items
          ∙ ap (λ is. all_items t before ++ is)
          (ap (λ f. items_after t f b) (sym at.fresh)
          ∙ ap (λ x. items_after x old.fresh b) (sym at.termios)
          ∙ sym typed.gave);
    })

untyped_adds : (fd : ℕ) (t : Termios) (before : List ℕ) (old new : Typing) (turn : Turn) (made : List Entry)
    → After t before old → Untyped fd old new turn made
    → Adds t before (bytes_read made) new (items_of turn.given new.line)
untyped_adds fd t before old new turn made at untyped =
    subst (λ bs. Adds t before bs new (items_of turn.given new.line)) (sym (untyped_none fd old new turn made untyped))
    (record {
      now = record {
        termios = ap (λ (v : Typing). v.termios) untyped.same ∙ at.termios;
        fresh = ap (λ (v : Typing). v.fresh) untyped.same ∙ at.fresh ∙ ap (fresh t) (sym (append-nil before));
      };
      items =
          ap (all_items t) (append-nil before)
          ∙ sym (append-nil (all_items t before))
          ∙ ap (λ (g : Given). all_items t before ++ items_of g new.line) (sym untyped.nothing);
    })

turn_adds : (start : WorldState) (fd : ℕ) (t : Termios) (before : List ℕ) (old new : Typing) (turn : Turn) (p q : PassView)
    → After t before old → (turns : Turns start fd old new turn p q)
    → Adds t before (bytes_read turns.made) new (items_of turn.given new.line)
turn_adds start fd t before old new turn p q at turns = ⊎_elim
    (λ typed. typed_adds fd t before old new turn turns.made at typed)
    (λ untyped. untyped_adds fd t before old new turn turns.made at untyped)
    turns.is

-- the results of turns, after bytes that were pushed before
pub record CameOn (t : Termios) (before : List ℕ) (p q : PassView) (turns : List Made) (w : Typing) : Type 0 where
  pub made : List Entry
  pub mine : q.mine ≡ p.mine ++ made
  pub now : After t (before ++ bytes_read made) w
  pub items : all_items t (before ++ bytes_read made) ≡ all_items t before ++ items_given turns

come_on : (start : WorldState) (t : Termios) (before : List ℕ) (v : Typing) (p : PassView) (turns : List Made)
    (w : Typing) (q : PassView) → After t before v → Lead start v p turns w q → CameOn t before p q turns w
come_on start t before v p [] w q at lead = record {
  made = [];
  mine = ap (λ (x : PassView). x.mine) lead.1 ∙ sym (append-nil p.mine);
  now = record {
    termios = ap (λ (x : Typing). x.termios) lead.0 ∙ at.termios;
    fresh = ap (λ (x : Typing). x.fresh) lead.0 ∙ at.fresh ∙ ap (fresh t) (sym (append-nil before));
  };
  items = ap (all_items t) (append-nil before) ∙ sym (append-nil (all_items t before));
}
come_on start t before v p (s ∷ more) w q at lead =
    let first = lead.0 in
    let read : List ℕ = bytes_read first.made in
    let adds = turn_adds start s.fd t before v s.after s.turn p s.pass at first in
    let rest = come_on start t (before ++ read) s.after s.pass more w q adds.now lead.1 in
    let given_here : List Item = items_of s.turn.given s.after.line in
    let whole : before ++ bytes_read (first.made ++ rest.made) ≡ (before ++ read) ++ bytes_read rest.made =
    ap (λ bs. before ++ bs) (read_appends first.made rest.made)
    ∙ sym (append_assoc before read (bytes_read rest.made)) in
    record {
      made = first.made ++ rest.made;
      mine =
          rest.mine
          ∙ ap (λ es. es ++ rest.made) first.goes_on.mine
          ∙ append_assoc p.mine first.made rest.made;
      now = subst (λ bs. After t bs w) (sym whole) rest.now;
      items =
          ap (all_items t) whole
          ∙ rest.items
          ∙ ap (λ is. is ++ items_given more) adds.items
          ∙ append_assoc (all_items t before) given_here (items_given more);
    }

pub turns_read : TurnsRead
turns_read start t p turns w q lead =
    let came = come_on start t [] (make_typing t [] []) p turns w q (record { termios = refl; fresh = sym (fresh_none t) }) lead in
    record {
      made = came.made;
      mine = came.mine;
      termios = came.now.termios;
      typed = came.now.fresh;
      gave = sym came.items;
    }
