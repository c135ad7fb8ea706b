-- A turn of a play: its call is entered, finds no room, or isn't there.
use Rattle.std.proofs.Common.{◌≡◌, ℕ, ◌+◌, Bool, true, false, true≢false, cond, List, [], ◌∷◌, ◌++◌, filter, length, Option, Some, None, refl, sym, ap, ◌∙◌, subst}
use Rattle.std.proofs.lemmas.List.{length-map}
use Rattle.std.proofs.lemmas.List.Folds.{fold-map}
use Rattle.std.specs.List.{range_with_len, sum_by}
use Rattle.std.specs.Prelude.{◌&&◌, is_some, nat_le, nat_lt, if◌then◌else◌}
use Rattle.session_order.specs.Calls.{calls_by, next_by, next_of}
use Rattle.session_order.specs.Ends.{Setup}
use Rattle.session_order.specs.Follows.{is_waiting}
use Rattle.session_order.specs.Serial.{Played, call_now, calls, entry_at, round, turn, turns}
use Rattle.session_run.specs.Callers.{callers_in, has_program}
use Rattle.session_run.specs.Playing.{IsAt}
use Rattle.session_run.specs.declared.player.Player.{Player}
use Rattle.session_text.specs.Programs.{program_of}
use Rattle.session_text.specs.declared.program.Program.{Program}
use Rattle.vt_events.specs.Charge.{charge_of}
use Rattle.vt_events.specs.Plain.{plain_entry}
use Rattle.vt_events.specs.declared.entry.Entry.{Entry}
use Rattle.vt_events.specs.declared.event.Event.{Event}
use Rattle.vt_events.proofs.Meant.{charge-meant}
use Rattle.vt_journal.specs.Log.{charge_of_all}
use Rattle.vt_journal.specs.Room.{HasRoom, full_at, has_room}
use Rattle.vt_journal.specs.declared.full.Full.{Full}
use Rattle.vt_procs.specs.Callers.{caller_at}
use Rattle.vt_procs.specs.Tickets.{is_open}
use Rattle.vt_world.specs.History.{replay}

-- the next call of p is the one that it can make, unless it waits
pub now_is : (o : Setup) (t : Played) (view : Player) (p : ℕ) (e : Option Event)
    → e ≡ next_by o.programs p t.history
    → is_open (caller_at view.world.callers p).waiting ≡ false → IsAt o t view
    → e ≡ call_now o t.history p
now_is o t view p e next_is shut at =
    let waits : is_waiting (replay o.start t.history) p ≡ false =
    sym (ap (λ w. is_waiting w p) at.left.replayed) ∙ shut in
    next_is ∙ ap (λ b. if b then None else next_by o.programs p t.history) (sym waits)

-- and a caller without a program
none_of : (waits : Bool) → ◌≡◌ {A = Option Event} (if waits then None else None) None
none_of true = refl
none_of false = refl

turn_nobody : (o : Setup) (p : ℕ) (history : List Entry) (stop : Option Full) → program_of o.programs p ≡ None
    → turn o p (record { history = history; stop = stop }) ≡ record { history = history; stop = stop }
turn_nobody o p history (Some full) none = refl
turn_nobody o p history None none =
    ap (λ e. calls o p e history)
    (ap (λ found. if is_waiting (replay o.start history) p then None else next_of found (calls_by p history)) none
    ∙ none_of (is_waiting (replay o.start history) p))

-- so a round is as good without them
found_none : (found : Option Program) → is_some found ≡ false → found ≡ None
found_none None is = refl
found_none (Some p) is = absurd (true≢false is)

-- turns of those that are left, as of all
abbrev Skips : Setup → List ℕ → Type 0
Skips o callers = (t : Played) → turns o (filter (has_program o.programs) callers) t ≡ turns o callers t

skip_one : (o : Setup) (has : Bool) (p : ℕ) (callers : List ℕ) (t : Played) → has_program o.programs p ≡ has
    → Skips o callers
    → turns o (cond has (p ∷ filter (has_program o.programs) callers) (filter (has_program o.programs) callers)) t
    ≡ turns o (p ∷ callers) t
skip_one o true p callers t is more = more (turn o p t)
skip_one o false p callers t is more =
    more t
    ∙ ap (turns o callers) (sym (turn_nobody o p t.history t.stop (found_none (program_of o.programs p) is)))

turns_skip : (o : Setup) (callers : List ℕ) → Skips o callers
turns_skip o [] t = refl
turns_skip o (p ∷ callers) t =
    skip_one o (has_program o.programs p) p callers t refl (turns_skip o callers)

pub round_is : (o : Setup) (t : Played) → turns o (callers_in o.programs) t ≡ round o t
unfolding callers_in
round_is o t = turns_skip o (range_with_len 0 68) t

-- a play that goes on has not stopped
pub not_stopped : (stop : Option Full) → is_some stop ≡ false → stop ≡ None
not_stopped None is = refl
not_stopped (Some full) is = absurd (true≢false is)

-- the entries without rooms of bytes are as many, and have the same charge
pub lengths : (o : Setup) (t : Played) (view : Player) → IsAt o t view
    → length view.log.entries ≡ length t.history
lengths o t view at = sym (length-map view.log.entries plain_entry) ∙ ap length at.history

charges : (o : Setup) (t : Played) (view : Player) → IsAt o t view
    → charge_of_all view.log.entries ≡ charge_of_all t.history
charges o t view at =
    sym
    (fold-map (λ n (x : Entry). n + charge_of x.event) plain_entry 0 view.log.entries
    ∙ (λ i. sum_by (λ (x : Entry). charge-meant x.event i) view.log.entries))
    ∙ ap charge_of_all at.history

-- the log has room exactly if the play has
room_same : (o : Setup) (t : Played) (view : Player) (charge : ℕ) → IsAt o t view
    → has_room view.log.limits view.log.entries charge ≡ has_room o.limits t.history charge
room_same o t view charge at = λ i.
    nat_lt (lengths o t view at i) (at.limits i).events && nat_le (charges o t view at i + charge) (at.limits i).bytes

-- the turn of p, which makes this call
pub turn-calls : (o : Setup) (t : Played) (p : ℕ) (now : Option Event) → t.stop ≡ None
    → call_now o t.history p ≡ now → turn o p t ≡ calls o p now t.history
turn-calls o t p now going is =
    ap (λ stop. if is_some stop then t else calls o p (call_now o t.history p) t.history) going
    ∙ ap (λ e. calls o p e t.history) is

-- if nothing is called, nothing changes
pub turn_skips : (o : Setup) (t : Played) (p : ℕ) (view : Player) → view.stop ≡ None
    → None ≡ call_now o t.history p → IsAt o t view → IsAt o (turn o p t) view
turn_skips o t p view going none at =
    let stop : t.stop ≡ None = sym at.stop ∙ going in
    let same : t ≡ turn o p t =
    (λ i. record { history = t.history; stop = stop i }) ∙ sym (turn-calls o t p None stop (sym none)) in
    subst (λ x. IsAt o x view) same at

-- if there is room, the call is entered
pub turn_enters : (o : Setup) (t : Played) (p : ℕ) (e : Event) (before view : Player)
    → HasRoom before.log (charge_of e) → IsAt o t before → t.stop ≡ None
    → call_now o t.history p ≡ Some e
    → IsAt o (record { history = t.history ++ entry_at o.start t.history p e ∷ []; stop = None }) view
    → IsAt o (turn o p t) view
turn_enters o t p e before view room at going now entered =
    let enters : Played = record { history = t.history ++ entry_at o.start t.history p e ∷ []; stop = None } in
    let full : Played = record { history = t.history; stop = Some (full_at t.history (charge_of e)) } in
    let test : has_room o.limits t.history (charge_of e) ≡ true = sym (room_same o t before (charge_of e) at) ∙ room in
    let same : turn o p t ≡ enters =
    turn-calls o t p (Some e) going now ∙ ap (λ b. if b then enters else full) test in
    subst (λ x. IsAt o x view) (sym same) entered

-- if there is none, the play stops
pub turn_fills : (o : Setup) (t : Played) (p : ℕ) (e : Event) (before : Player) (full : Full)
    → has_room before.log.limits before.log.entries (charge_of e) ≡ false → IsAt o t before → t.stop ≡ None
    → call_now o t.history p ≡ Some e
    → full ≡ full_at before.log.entries (charge_of e)
    → IsAt o (turn o p t) (record before { stop = Some full })
turn_fills o t p e before full none at going now is =
    let enters : Played = record { history = t.history ++ entry_at o.start t.history p e ∷ []; stop = None } in
    let stops : Played = record { history = t.history; stop = Some (full_at t.history (charge_of e)) } in
    let test : has_room o.limits t.history (charge_of e) ≡ false =
    sym (room_same o t before (charge_of e) at) ∙ none in
    let same : turn o p t ≡ stops =
    turn-calls o t p (Some e) going now ∙ ap (λ b. if b then enters else stops) test in
    let full_is : full ≡ full_at t.history (charge_of e) =
    is ∙ (λ i. record { events = lengths o t before at i; bytes = charges o t before at i; charge = charge_of e }) in
    subst (λ x. IsAt o x (record before { stop = Some full })) (sym same)
    (record {
      history = at.history;
      stop = ap Some full_is;
      limits = at.limits;
      left = at.left;
      standing = at.standing;
    })
