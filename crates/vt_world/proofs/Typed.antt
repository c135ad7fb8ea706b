-- The result of a key doesn't depend on what is done with its byte before.
use Rattle.std.proofs.Common.{◌≡◌, ℕ, zero, suc, Bool, true, false, cond, List, [], ◌∷◌, Option, Some, None, refl, sym, ap, ◌∙◌}
use Rattle.std.specs.Prelude.{◌==◌, ◌&&◌, ◌||◌, slice_set}
use Rattle.std.specs.List.{range_with_len}
use Rattle.std.proofs.lemmas.List.Elements.{filter_agree}
use Rattle.in_queue.specs.Queue.{Queue}
use Rattle.key_machine.specs.Keys.{Keys, State}
use Rattle.key_machine.specs.Step.{Step, key_step}
use Rattle.key_machine.specs.declared.key_modes.KeyModes.{KeyModes}
use Rattle.key_machine.specs.declared.key_out.KeyOut.{KeyOut}
use Rattle.key_machine.specs.declared.key_out.KeyOut.TheVariants as said
use Rattle.scan_codes.specs.Scan.{Scan, event_after}
use Rattle.scan_codes.specs.declared.key_event.KeyEvent.{KeyEvent}
use Rattle.vt_procs.specs.Callers.{Callers, caller_at, has_open}
use Rattle.vt_procs.specs.Tickets.{after_input_on}
use Rattle.vt_procs.specs.declared.process.Process.{Process}
use Rattle.vt_procs.specs.declared.waiting.Waiting.TheVariants.{Nothing}
use Rattle.vt_switch.specs.Acts.{SetKd}
use Rattle.vt_switch.specs.Calls.{owns}
use Rattle.vt_world.specs.Deeds.{By, Deed, Own, Puts, Scanned, Types, apply_deeds, apply_own_deed, with_input}
use Rattle.vt_world.specs.Inputs.{comes, input_at, with_key_state, with_bytes, with_queue}
use Rattle.vt_world.specs.State.{WorldState}
use Rattle.vt_world.specs.Terminals.{key_modes_of, terminal_at}
use Rattle.vt_world.specs.Typing.{ends_of, key_deeds, key_on, key_out_deeds, read_by, read_deeds, scan_deeds, scanner_of, spawn_deeds, typed_deeds, uses}
use Rattle.vt_world.specs.declared.keyboard_set.KeyboardSet.{KeyboardSet}
use Rattle.vt_world.specs.declared.input.Input.{Input}

-- the same processes use the console, and the same one accepts the key signal
pub record IsAlike (v w : WorldState) (n : ℕ) : Type 0 where
  pub accepter : v.callers.accepter ≡ w.callers.accepter
  pub users : (p : ℕ) → uses v n p ≡ uses w n p

pub key_out_alike : (v w : WorldState) (n : ℕ) (out : KeyOut) → IsAlike v w n
    → key_out_deeds v n out ≡ key_out_deeds w n out
key_out_alike v w n (said.Bytes bytes) alike = refl
key_out_alike v w n (said.Switch m) alike = refl
key_out_alike v w n said.Last alike = refl
key_out_alike v w n said.Next alike = refl
key_out_alike v w n said.Prev alike = refl
key_out_alike v w n said.Spawn alike = ap spawn_deeds alike.accepter
key_out_alike v w n said.Attention alike =
    ap (λ (ps : List ℕ). ends_of ps (By (SetKd n false) ∷ []))
    (filter_agree (uses v n) (uses w n) alike.users (range_with_len 1 64))
key_out_alike v w n said.Nothing alike = refl

-- a caller without its ticket
abbrev without_ticket : Process → Process
without_ticket process = record process { waiting = Nothing }

-- bytes that enter a queue only end tickets
same_after_input_on : (c p : ℕ) (accepter : Option (ℕ × ℕ)) (list : List Process)
    → without_ticket (caller_at (after_input_on c (record { list = list; accepter = accepter })) p)
    ≡ without_ticket (caller_at (record { list = list; accepter = accepter }) p)
same_after_input_on c p accepter [] = refl
same_after_input_on c zero accepter (caller ∷ list) = refl
same_after_input_on c (suc p) accepter (caller ∷ list) = same_after_input_on c p accepter list

same_either : (b : Bool) (c p : ℕ) (callers : Callers)
    → without_ticket (caller_at (cond b (after_input_on c callers) callers) p)
    ≡ without_ticket (caller_at callers p)
same_either true c p callers = same_after_input_on c p callers.accepter callers.list
same_either false c p callers = refl

accepter_either : (b : Bool) (c : ℕ) (callers : Callers)
    → (cond b (after_input_on c callers) callers).accepter ≡ callers.accepter
accepter_either true c callers = refl
accepter_either false c callers = refl

input_alike : (w : WorldState) (n : ℕ) (piece : List ℕ) → IsAlike (with_input n piece w) w n
input_alike w n piece =
    let some : Bool = comes (input_at w.inputs n).queue piece in
    record {
      accepter = accepter_either some n w.callers;
      users = λ p.
          ap (λ (process : Process). process.live && (owns w.display p n || has_open process.opens n))
          (same_either some n p w.callers);
    }

-- and its key state
keys_kept : (n : ℕ) (q : Queue) (inputs : List Input)
    → (input_at (with_queue n q inputs) n).keys ≡ (input_at inputs n).keys
keys_kept n q [] = refl
keys_kept zero q (input ∷ inputs) = refl
keys_kept (suc n) q (input ∷ inputs) = keys_kept n q inputs

key_alike : (w : WorldState) (k n : ℕ) (piece : List ℕ) (e : Option KeyEvent)
    → key_deeds (with_input n piece w) k n e ≡ key_deeds w k n e
key_alike w k n piece None = refl
key_alike w k n piece (Some e) =
    let v : WorldState = with_input n piece w in
    let q : Queue = with_bytes (input_at w.inputs n).queue piece in
    let step : State → Step = λ keys. key_step w.board.tables (key_modes_of (terminal_at w.terminals n)) k e w.board.keyboard keys in
    ap (λ (keys : State). typed_deeds v n (step keys)) (keys_kept n q w.inputs)
    ∙ ap (λ (deeds : List Deed). Own (Types n (key_on w k n e).keys (key_on w k n e).state) ∷ deeds)
    (key_out_alike v w n (key_on w k n e).out (input_alike w n piece))

-- so a byte does the same whether or not it went into the queue
pub read_alike : (w : WorldState) (k n : ℕ) (piece : List ℕ) (b : ℕ)
    → read_deeds (with_input n piece w) k n b ≡ read_deeds w k n b
read_alike w k n piece b =
    let scanner : Scan = scanner_of w.board.scanners k in
    ap (λ (deeds : List Deed). Own (Scanned k (read_by scanner b)) ∷ deeds)
    (key_alike w k n piece (event_after scanner.codes scanner.bytes b))

-- a key is typed: it leaves the keyboard and the key state, and its result is carried out
pub typed_told : (w v : WorldState) (k n : ℕ) (e : KeyEvent) (m : KeyModes) (before : State)
    (keys : Keys) (state : State) (out : KeyOut) (inputs : List Input)
    → m ≡ key_modes_of (terminal_at w.terminals n) → before ≡ (input_at w.inputs n).keys
    → keys ≡ (key_step w.board.tables m k e w.board.keyboard before).keys
    → state ≡ (key_step w.board.tables m k e w.board.keyboard before).state
    → out ≡ (key_step w.board.tables m k e w.board.keyboard before).out
    → inputs ≡ with_key_state n state w.inputs
    → let u : WorldState = record w { inputs = inputs; board = record w.board { keyboard = keys } } in
    v ≡ apply_deeds u (key_out_deeds u n out) → v ≡ apply_deeds w (typed_deeds w n (key_on w k n e))
typed_told w v k n e m before keys state out inputs m_is before_is keys_is state_is out_is inputs_is told =
    let s : Step = key_on w k n e in
    let step : key_step w.board.tables m k e w.board.keyboard before ≡ s =
    λ i. key_step w.board.tables (m_is i) k e w.board.keyboard (before_is i) in
    let state_s : state ≡ s.state = state_is ∙ ap (λ (x : Step). x.state) step in
    let keys_s : keys ≡ s.keys = keys_is ∙ ap (λ (x : Step). x.keys) step in
    let out_s : out ≡ s.out = out_is ∙ ap (λ (x : Step). x.out) step in
    let inputs_s : inputs ≡ with_key_state n s.state w.inputs =
    inputs_is ∙ ap (λ (x : State). with_key_state n x w.inputs) state_s in
    let typed : WorldState = apply_own_deed w (Types n s.keys s.state) in
    let given : List Input → Keys → WorldState = λ i k. record w { inputs = i; board = record w.board { keyboard = k } } in
    told
    ∙ (λ i. apply_deeds (given (inputs_s i) (keys_s i)) (key_out_deeds (given (inputs_s i) (keys_s i)) n (out_s i)))
    ∙ ap (apply_deeds typed)
    (key_out_alike typed w n s.out (record { accepter = refl; users = λ p. refl }))

-- the keyboards when a byte of keyboard k is read
abbrev with_read : WorldState → ℕ → ℕ → KeyboardSet
with_read w k b = record w.board {
  scanners = slice_set w.board.scanners k (read_by (scanner_of w.board.scanners k) b);
}

-- a byte is read that completes a key
pub read_told : (w v : WorldState) (k n b : ℕ) (e : KeyEvent) (board : KeyboardSet)
    → event_after (scanner_of w.board.scanners k).codes (scanner_of w.board.scanners k).bytes b ≡ Some e
    → board ≡ with_read w k b
    → let u : WorldState = record w { board = board } in
    v ≡ apply_deeds u (typed_deeds u n (key_on u k n e)) → v ≡ apply_deeds w (read_deeds w k n b)
read_told w v k n b e board event board_is told =
    let given : KeyboardSet → WorldState = λ x. record w { board = x } in
    let read : WorldState = given (with_read w k b) in
    let s : Step = key_on w k n e in
    told
    ∙ ap (λ (x : KeyboardSet). apply_deeds (given x) (typed_deeds (given x) n (key_on (given x) k n e))) board_is
    ∙ ap (λ (deeds : List Deed). apply_deeds read (Own (Types n s.keys s.state) ∷ deeds))
    (key_out_alike read w n s.out (record { accepter = refl; users = λ p. refl }))
    ∙ ap (λ (o : Option KeyEvent). apply_deeds read (key_deeds w k n o)) (sym event)

-- in K_RAW a byte goes into the queue first
pub scan_told : (w v put : WorldState) (k n b : ℕ) (keys : State) → keys ≡ (input_at w.inputs n).keys
    → keys.mode ≡ 0 → put ≡ with_input n (b ∷ []) w → v ≡ apply_deeds put (read_deeds put k n b)
    → v ≡ apply_deeds w (scan_deeds w k n b)
scan_told w v put k n b keys keys_is raw put_is told =
    let after : WorldState = with_input n (b ∷ []) w in
    let is_raw : (input_at w.inputs n).keys.mode == 0 ≡ true =
    ap (λ (k : State). k.mode == 0) (sym keys_is) ∙ ap (λ (m : ℕ). m == 0) raw in
    told
    ∙ ap (λ (u : WorldState). apply_deeds u (read_deeds u k n b)) put_is
    ∙ ap (apply_deeds after) (read_alike w k n (b ∷ []) b)
    ∙ ap (λ (is : Bool). apply_deeds w (cond is (Own (Puts n (b ∷ [])) ∷ read_deeds w k n b) (read_deeds w k n b)))
    (sym is_raw)
