-- A machine that makes a call.
use Rattle.std.proofs.Common.{◌≡◌, ℕ, ◌<◌, ◌≤◌, Bool, true, false, ⊎_elim, arith, List, [], ◌∷◌, ◌++◌, length, Option, Some, None, option_map, refl, sym, ap, ◌∙◌, subst}
use Rattle.std.proofs.lemmas.Bool.{cases_lt, or_parts}
use Rattle.std.proofs.lemmas.Bool.Decides.{nat_tests}
use Rattle.std.proofs.lemmas.Option.{none-some, same_Some}
use Rattle.std.specs.Prelude.{◌||◌, nat_lt, if◌then◌else◌}
use Rattle.vt_explore.proofs.Nevers.{now_nobody}
use Rattle.vt_explore.specs.Positions.{HasMade, IsAfter}
use Rattle.session_order.specs.Orders.{after_turn, with_call}
use Rattle.vt_explore.specs.declared.position.Position.{Position}
use Rattle.session_order.specs.Calls.{calls_by, next_by, next_of}
use Rattle.session_order.specs.Ends.{Setup}
use Rattle.session_order.specs.Follows.{is_waiting}
use Rattle.session_order.specs.Meant.{NextIsPlain}
use Rattle.session_order.specs.Serial.{call_now, entry_at}
use Rattle.session_order.specs.Standing.{AreAfter}
use Rattle.session_text.specs.Programs.{program_of}
use Rattle.session_text.specs.declared.program.Program.{Program}
use Rattle.vt_base.specs.Range.{in_range}
use Rattle.vt_events.specs.Plain.{plain_event, plain_reply}
use Rattle.vt_events.specs.declared.entry.Entry.{Entry}
use Rattle.vt_events.specs.declared.event.Event.{Event}
use Rattle.vt_events.specs.declared.reply.Reply.{Reply}
use Rattle.vt_events.specs.declared.reply.Reply.TheVariants as reply
use Rattle.vt_world.specs.History.{ReplayGrows, replay}
use Rattle.vt_world.specs.State.{WorldState}
use Rattle.vt_world.specs.Step.{Outcome, step}
use Rattle.vt_world.specs.TableLaws.{TablesStay, sets_tables}

reply_twice : (r : Reply) → plain_reply (plain_reply r) ≡ plain_reply r
reply_twice (reply.Text b) = refl
reply_twice r = refl

pub next_now : (waits : Bool) (next : Option Event) (e : Event)
    → (if waits then None else next) ≡ Some e → next ≡ Some e
next_now true next e is = absurd (none-some e is)
next_now false next e is = is

-- the call that p can make, by its walk
pub now_is : (o : Setup) (h : List Entry) (m : Position) (p : ℕ) (e : Option Event)
    → e ≡ next_by o.programs p h → is_waiting m.world p ≡ false → IsAfter o h m → e ≡ call_now o h p
now_is o h m p e next shut at =
    let waits : is_waiting (replay o.start h) p ≡ false =
    sym (ap (λ (w : WorldState). is_waiting w p) at.replayed) ∙ shut in
    next ∙ ap (λ b. if b then None else next_by o.programs p h) (sym waits)

-- a caller that waits can make none
pub now_waits : (o : Setup) (h : List Entry) (m : Position) (p : ℕ) → is_waiting m.world p ≡ true
    → IsAfter o h m → None ≡ call_now o h p
now_waits o h m p waits at =
    ap (λ b. if b then None else next_by o.programs p h)
    (sym waits ∙ ap (λ (w : WorldState). is_waiting w p) at.replayed)

-- the turn of a caller that can make no call
pub turn_none : (o : Setup) (h : List Entry) (m : Position) (p : ℕ) → call_now o h p ≡ None → IsAfter o h m
    → IsAfter o (after_turn o p h) m
turn_none o h m p none at = subst (λ now. IsAfter o (with_call o p now h) m) (sym none) at

pub turn_nobody : (o : Setup) (h : List Entry) (m : Position) (p : ℕ) → program_of o.programs p ≡ None
    → IsAfter o h m → IsAfter o (after_turn o p h) m
turn_nobody o h m p none at = turn_none o h m p (now_nobody o h p none) at

-- the turn of a caller that makes this one
pub turn_makes : (o : Setup) (h : List Entry) (m : Position) (p : ℕ) (e : Event) (r : Reply)
    → call_now o h p ≡ Some e → HasMade o h p e r m → IsAfter o (after_turn o p h) m
turn_makes o h m p e r now makes = subst (λ made. IsAfter o (with_call o p made h) m) (sym now) makes.after

-- the changes by a call
pub record Took (p : ℕ) (program : Program) (r : Reply) (before after : Position) : Type 0 where
  pub took :
      (programs : List Program) (h : List Entry) (entry : Entry)
      → program_of programs p ≡ Some program → AreAfter programs h before.standing
      → length h ≤ 1_000_000 → entry.caller ≡ p
      → next_by programs p h ≡ Some (plain_event entry.event)
      → plain_reply entry.reply ≡ plain_reply r
      → AreAfter programs (h ++ entry ∷ []) after.standing

-- the tables stay, unless the call sets them
made_tables : TablesStay → (o : Setup) (p : ℕ) (e : Event) (before after : Position)
    → after.world ≡ (step before.world p e).world → after.tables_set ≡ (before.tables_set || sets_tables e)
    → (before.tables_set ≡ false → before.world.board.tables ≡ o.start.board.tables)
    → after.tables_set ≡ false → after.world.board.tables ≡ o.start.board.tables
made_tables stay o p e before after world set tables unset =
    let parts : (before.tables_set ≡ false) × (sets_tables e ≡ false) =
    or_parts before.tables_set (sets_tables e) (sym set ∙ unset) in
    ap (λ (w : WorldState). w.board.tables) world ∙ stay before.world p e parts.1 ∙ tables parts.0

pub made : NextIsPlain → ReplayGrows → TablesStay → (o : Setup) (h : List Entry) (p : ℕ) (e : Event) (program : Program) (before after : Position) (r : Reply)
    → program_of o.programs p ≡ Some program → length h ≤ 1_000_000 → call_now o h p ≡ Some e
    → IsAfter o h before → step before.world p e ≡ record { world = after.world; reply = plain_reply r }
    → after.tables_set ≡ (before.tables_set || sets_tables e)
    → Took p program r before after → HasMade o h p e r after
made is_plain grows stay o h p e program before after r is few now at stepped set took =
    let w : WorldState = replay o.start h in
    let follows : next_by o.programs p h ≡ Some e =
    next_now (is_waiting w p) (next_by o.programs p h) e now in
    let plain : plain_event e ≡ e =
    is_plain program (calls_by p h) e (ap (λ found. next_of found (calls_by p h)) (sym is) ∙ follows) in
    let here : step w p e ≡ record { world = after.world; reply = plain_reply r } =
    subst (λ x. step x p e ≡ record { world = after.world; reply = plain_reply r }) at.replayed stepped in
    let answer : plain_reply r ≡ (step w p e).reply = sym (ap (λ (x : Outcome). x.reply) here) in
    let new : Entry = entry_at o.start h p e in
    record {
      reply = answer;
      world = sym (ap (λ (x : Outcome). x.world) here);
      after = record {
        replayed = sym (grows o.start h new ∙ ap (λ (x : Outcome). x.world) here);
        standing =
            took.took o.programs h new is at.standing few refl (follows ∙ ap Some (sym plain))
            (sym (ap plain_reply answer) ∙ reply_twice r);
        tables =
            made_tables stay o p e before after (sym (ap (λ (x : Outcome). x.world) stepped)) set at.tables;
      };
    }

-- the program that was found
pub program_none : {A : Type 0} (f : A → Program) (found : Option A) (program : Option Program)
    → option_map f found ≡ program → found ≡ None → program ≡ None
program_none f found program is none = sym is ∙ ap (option_map f) none

pub program_some : {A : Type 0} (f : A → Program) (found : Option A) (program : Option Program) (x : A)
    → option_map f found ≡ program → found ≡ Some x → program ≡ Some (f x)
program_some f found program x is some = sym is ∙ ap (option_map f) some

-- the caller of a number
caller_known : (n : ℕ) → n < 68 → in_range 0 67 n ≡ Some n
caller_known n low =
    let above : nat_lt n 0 ≡ false = grind (arith, nat_tests) in
    let below : nat_lt 67 n ≡ false = grind (arith, nat_tests) in
    λ i. if above i || below i then None else Some n

caller_past : (n : ℕ) → 67 < n → in_range 0 67 n ≡ None
caller_past n past =
    let above : nat_lt n 0 ≡ false = grind (arith, nat_tests) in
    let below : nat_lt 67 n ≡ true = grind (arith, nat_tests) in
    λ i. if above i || below i then None else Some n

pub caller_none : (n m : ℕ) (found : Option ℕ) → found ≡ in_range 0 67 m → m ≡ n → found ≡ None → n < 68 → ⊥
caller_none n m found is same none low =
    none-some n (sym none ∙ is ∙ ap (in_range 0 67) same ∙ caller_known n low)

pub caller_some : (n m p : ℕ) (found : Option ℕ) → found ≡ in_range 0 67 m → m ≡ n → found ≡ Some p → p ≡ n
caller_some n m p found is same some =
    let there : in_range 0 67 n ≡ Some p = sym (ap (in_range 0 67) same) ∙ sym is ∙ some in
    ⊎_elim
    (λ low. same_Some p n (sym there ∙ caller_known n low))
    (λ past. absurd (none-some p (sym (caller_past n (omega (arith, past))) ∙ there)))
    (cases_lt n 68)
