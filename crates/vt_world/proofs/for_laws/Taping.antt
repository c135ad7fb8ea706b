-- The tape of a console by deeds: after an event it has the items that the event adds.
use Rattle.std.proofs.Common.{◌≡◌, ℕ, ◌⊎◌, inl, inr, Bool, true, false, cond, List, [], ◌∷◌, ◌++◌, flat_map, map, Option, Some, None, is_some, refl, sym, ap, subst, ◌∙◌, append-nil}
use Rattle.std.specs.Prelude.{◌==◌, option_map, unwrap_or}
use Rattle.std.proofs.lemmas.Bool.{and_parts, false≢true}
use Rattle.call_bytes.specs.Colours.{colours_in}
use Rattle.call_bytes.specs.Words.{words_in}
use Rattle.vt_events.specs.declared.event.Event.{Event}
use Rattle.vt_events.specs.declared.event.Event.TheVariants as event
use Rattle.vt_events.specs.declared.reply.Reply.{Reply}
use Rattle.vt_events.specs.declared.reply.Reply.TheVariants as reply
use Rattle.vt_screen.specs.Tape.{Taped, byte, change}
use Rattle.vt_canvas.specs.Change.{palette, resize, user_map}
use Rattle.vt_canvas.specs.declared.out.Out.{Out}
use Rattle.vt_world.proofs.for_laws.Quiet.{are_quiet, is_quiet_act, is_quiet_own, outs_quiet, row_quiet}
use Rattle.vt_world.proofs.for_laws.RowDeeds.{frees_are}
use Rattle.vt_world.specs.Deeds.{Deed, Alters, Asks, By, Clears, Own, OwnDeed, Starts, Writes}
use Rattle.vt_world.specs.Events.{row}
use Rattle.vt_world.specs.Rows.{out_deeds}
use Rattle.vt_world.specs.State.{WorldState}
use Rattle.vt_world.specs.Tapes.{items_of, tape_after, unless_refused}
use Rattle.vt_world.specs.Terminals.{said_of, terminal_at}
use Rattle.vt_world.specs.Refusals.{console_by_number, target}

abbrev pub Tape : Type 0
Tape = Option (List Taped)

-- these items come after the others, if there is a tape
abbrev pub taped : List Taped → Tape → Tape
taped items tape = option_map (λ (old : List Taped). old ++ items) tape

abbrev pub begun : Tape → Tape
begun tape = Some (unwrap_or tape [])

-- a console that gets a terminal begins a tape, one that loses it has none, and writes and changes
-- are added
abbrev pub tape_by : ℕ → Tape → OwnDeed → Tape
tape_by c tape (Starts n) = cond (n == c) (begun tape) tape
tape_by c tape (Clears n) = cond (n == c) None tape
tape_by c tape (Writes n bytes) = cond (n == c) (taped (map byte bytes) tape) tape
tape_by c tape (Alters n m) = cond (n == c) (taped (change m ∷ []) tape) tape
tape_by c tape deed = tape

abbrev pub tape_of_deeds : ℕ → Tape → List Deed → Tape
tape_of_deeds c tape [] = tape
tape_of_deeds c tape (By act ∷ deeds) = tape_of_deeds c tape deeds
tape_of_deeds c tape (Asks wanted ∷ deeds) = tape_of_deeds c tape deeds
tape_of_deeds c tape (Own deed ∷ deeds) = tape_of_deeds c (tape_by c tape deed) deeds

quiet_own : (c : ℕ) (tape : Tape) (deed : OwnDeed) → is_quiet_own deed ≡ true
    → tape_by c tape deed ≡ tape
quiet_own c tape (Starts n) quiet = absurd (false≢true quiet)
quiet_own c tape (Clears n) quiet = absurd (false≢true quiet)
quiet_own c tape (Writes n bytes) quiet = absurd (false≢true quiet)
quiet_own c tape (Alters n m) quiet = absurd (false≢true quiet)
quiet_own c tape deed quiet = refl

-- quiet deeds leave the tape
leaves : (c : ℕ) (tape : Tape) (deeds : List Deed) → are_quiet deeds ≡ true
    → tape_of_deeds c tape deeds ≡ tape
leaves c tape [] quiet = refl
leaves c tape (By act ∷ deeds) quiet =
    leaves c tape deeds ((and_parts (is_quiet_act act) (are_quiet deeds) quiet).1)
leaves c tape (Asks wanted ∷ deeds) quiet = leaves c tape deeds quiet
leaves c tape (Own deed ∷ deeds) quiet =
    leaves c (tape_by c tape deed) deeds ((and_parts (is_quiet_own deed) (are_quiet deeds) quiet).1)
    ∙ quiet_own c tape deed ((and_parts (is_quiet_own deed) (are_quiet deeds) quiet).0)

-- the new tape is none, or the old one with these items at its end
abbrev Grows : List Taped → Tape → Tape → Type 0
Grows items tape new = (new ≡ None) ⊎ (new ≡ Some (unwrap_or tape [] ++ items))

grows_by : (items : List Taped) (tape : Tape) → Grows items tape (taped items tape)
grows_by items None = inl refl
grows_by items (Some old) = inr refl

stays : (tape : Tape) → Grows [] tape tape
stays None = inl refl
stays (Some old) = inr (ap (λ (items : List Taped). Some items) (sym (append-nil old)))

grows_if : (b : Bool) (items : List Taped) (tape : Tape)
    → Grows (cond b items []) tape (cond b (taped items tape) tape)
grows_if true items tape = grows_by items tape
grows_if false items tape = stays tape

begins_if : (b : Bool) (tape : Tape) → Grows [] tape (cond b (begun tape) tape)
begins_if true tape =
    inr (ap (λ (items : List Taped). Some items) (sym (append-nil (unwrap_or tape []))))
begins_if false tape = stays tape

cleared_if : (b : Bool) (tape new : Tape) → Grows [] tape new → Grows [] tape (cond b None new)
cleared_if true tape new grows = inl refl
cleared_if false tape new grows = grows

quiet_grows : (c : ℕ) (tape : Tape) (deeds : List Deed) → are_quiet deeds ≡ true
    → Grows [] tape (tape_of_deeds c tape deeds)
quiet_grows c tape deeds quiet = subst (Grows [] tape) (sym (leaves c tape deeds quiet)) (stays tape)

-- the tape after the deeds of an event's row
row_grows : (c : ℕ) (tape : Tape) (w : WorldState) (p : ℕ) (e : Event)
    → Grows (items_of w p c e) tape (tape_of_deeds c tape (row w p e).deeds)
row_grows c tape w p (event.OpenCon n) = begins_if (console_by_number w n == c) tape
row_grows c tape w p (event.Activate fd n) = begins_if (n == c) tape
row_grows c tape w p (event.Write fd b) =
    let n : ℕ = target w p fd in
    let items : List Taped = map byte b.bytes in
    let said : List Out = said_of (terminal_at w.terminals n) b.bytes in
    let new : Tape = cond (n == c) (taped items tape) tape in
    subst (Grows (cond (n == c) items []) tape)
    (sym (leaves c new (flat_map (out_deeds n) said) (outs_quiet n said)))
    (grows_if (n == c) items tape)
row_grows c tape w p (event.Disallocate fd n) =
    frees_are (λ deeds. (new : Tape) → Grows [] tape new → Grows [] tape (tape_of_deeds c new deeds))
    (λ new grows. grows)
    (λ k deeds later new grows. later (cond (k == c) None new) (cleared_if (k == c) tape new grows))
    w n tape (stays tape)
row_grows c tape w p (event.Resize fd rows cols) =
    grows_if (target w p fd == c) (change (resize rows cols) ∷ []) tape
row_grows c tape w p (event.SetMap fd b) =
    grows_if (target w p fd == c) (change (user_map (unwrap_or (words_in b.bytes) [])) ∷ []) tape
row_grows c tape w p (event.SetPal fd b) =
    grows_if (target w p fd == c) (change (palette (unwrap_or (colours_in b.bytes) [])) ∷ []) tape
row_grows c tape w p e = quiet_grows c tape (row w p e).deeds (row_quiet w p e (λ n scanner. refl))

-- a row that adds to a tape isn't answered by an error
nothing_added : (answer : Reply) → [] ≡ unless_refused answer []
nothing_added (reply.Err errno) = refl
nothing_added answer = refl

row_accepts : (c : ℕ) (w : WorldState) (p : ℕ) (e : Event)
    → items_of w p c e ≡ unless_refused (row w p e).reply (items_of w p c e)
row_accepts c w p (event.Write fd b) = refl
row_accepts c w p (event.Resize fd rows cols) = refl
row_accepts c w p (event.SetMap fd b) = refl
row_accepts c w p (event.SetPal fd b) = refl
row_accepts c w p e = nothing_added (row w p e).reply

-- a tape that is none, or has these items more, is the one after an event, if it exists exactly if
-- its console is allocated
is_after : (allocated : Bool) (items : List Taped) (tape new : Tape) → is_some new ≡ allocated
    → Grows items tape new → new ≡ tape_after allocated items tape
is_after true items tape new there (inl none) =
    absurd (false≢true (sym (ap (λ (t : Tape). is_some t) none) ∙ there))
is_after true items tape new there (inr more) = more
is_after false items tape new there (inl none) = none
is_after false items tape new there (inr more) =
    absurd (false≢true (sym there ∙ ap (λ (t : Tape). is_some t) more))

-- the tape after the deeds of an event that isn't refused, and of a refused one
pub accepted_tape : (c : ℕ) (tape : Tape) (w : WorldState) (p : ℕ) (e : Event) (allocated : Bool)
    → is_some (tape_of_deeds c tape (row w p e).deeds) ≡ allocated
    → tape_of_deeds c tape (row w p e).deeds
    ≡ tape_after allocated (unless_refused (row w p e).reply (items_of w p c e)) tape
accepted_tape c tape w p e allocated there =
    is_after allocated (items_of w p c e) tape (tape_of_deeds c tape (row w p e).deeds) there
    (row_grows c tape w p e)
    ∙ ap (λ (items : List Taped). tape_after allocated items tape) (row_accepts c w p e)

pub refused_tape : (tape : Tape) (allocated : Bool) → is_some tape ≡ allocated
    → tape ≡ tape_after allocated [] tape
refused_tape tape allocated there = is_after allocated [] tape tape there (stays tape)
