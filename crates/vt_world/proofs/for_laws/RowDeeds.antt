-- What holds of the deeds of every event. A law shows it of the deeds that an event has in any case; those
-- that a choice gives, of a key, a text, a signal, a wait or freed consoles, are here for all laws.
use Rattle.std.proofs.Common.{◌≡◌, ℕ, Bool, true, false, List, [], ◌∷◌, ◌++◌, filter, flat_map, Option, Some, None, refl, ◌∙◌}
use Rattle.std.proofs.lemmas.Bool.{and_from}
use Rattle.std.proofs.lemmas.List.Folds.{list_all-append}
use Rattle.std.specs.List.{list_all, range_with_len}
use Rattle.std.specs.Prelude.{◌==◌, not, if◌then◌else◌, unwrap_or}
use Rattle.key_machine.specs.Step.{Step}
use Rattle.key_machine.specs.declared.key_out.KeyOut.{KeyOut}
use Rattle.key_machine.specs.declared.key_out.KeyOut.TheVariants as heard
use Rattle.scan_codes.specs.Scan.{Scan, event_after, start_scan}
use Rattle.scan_codes.specs.declared.key_event.KeyEvent.{KeyEvent}
use Rattle.vt_base.specs.Keyboards.{keyboard_of}
use Rattle.vt_events.specs.declared.event.Event.{Event}
use Rattle.vt_events.specs.declared.event.Event.TheVariants as event
use Rattle.vt_procs.specs.declared.ticket.Ticket.{Ticket}
use Rattle.vt_procs.specs.declared.ticket.Ticket.TheVariants.{Active, Input}
use Rattle.vt_canvas.specs.declared.out.Out.{Out}
use Rattle.vt_canvas.specs.declared.out.Out.TheVariants as outs
use Rattle.vt_switch.specs.Acts.{End, Free, SetKd}
use Rattle.vt_switch.specs.Moments.{is_request}
use Rattle.vt_world.specs.Deeds.{Deed, Asks, By, Clears, Lights, Own, Puts, Raises, Scanned, Types, Waits, Writes}
use Rattle.vt_world.specs.Events.{row}
use Rattle.vt_world.specs.Inputs.{input_at}
use Rattle.vt_world.specs.Refusals.{is_empty, is_in_use, target}
use Rattle.vt_world.specs.Rows.{disallocate_deeds, free_deeds, out_deeds, waits_unless}
use Rattle.vt_world.specs.State.{WorldState}
use Rattle.vt_world.specs.Terminals.{said_of, terminal_at}
use Rattle.vt_world.specs.Typing.{ends_of, key_deeds, key_on, key_out_deeds, read_by, read_deeds, scan_deeds, scanner_of, signal_deed, spawn_deeds, users}
use Rattle.vt_world.specs.declared.wanted.Wanted.TheVariants.{Above, Below, Last, Number}

-- a deed that asks for a console
abbrev pub asks : Deed → Bool
asks (By act) = is_request act
asks (Asks wanted) = true
asks (Own deed) = false

-- the deeds of keys, signals and what a text says
abbrev pub is_typed : Deed → Bool
is_typed (By (End p)) = true
is_typed (By (SetKd n graphics)) = true
is_typed (Asks wanted) = true
is_typed (Own (Puts n piece)) = true
is_typed (Own (Lights n lights)) = true
is_typed (Own (Types n keys state)) = true
is_typed (Own (Raises p signal)) = true
is_typed deed = false

-- the deeds that an event has in any case, and those of one read byte, one wait, one freed console
abbrev pub sure : ℕ → Scan → WorldState → ℕ → Event → List Deed
sure n scanner w p (event.Scan b) = Own (Scanned n scanner) ∷ []
sure n scanner w p (event.Write fd b) = Own (Writes (target w p fd) b.bytes) ∷ []
sure n scanner w p (event.WaitInput fd) = Own (Waits p (Input (target w p fd))) ∷ []
sure n scanner w p (event.WaitActive fd m) = Own (Waits p (Active m)) ∷ []
sure n scanner w p (event.Disallocate fd m) = free_deeds n
sure n scanner w p (event.Kill q s) = []
sure n scanner w p e = (row w p e).deeds

-- a fact of lists of deeds that holds of a list if it holds of its parts
pub record Composes (P : List Deed → Type 0) : Type 0 where
  pub nothing : P []
  pub typed : (deed : Deed) → is_typed deed ≡ true → P (deed ∷ [])
  pub joined : (a b : List Deed) → list_all (λ deed. not (asks deed)) a ≡ true → P a → P b → P (a ++ b)
  pub said : (c : ℕ) (said : List Out) → P (flat_map (out_deeds c) said)

-- consoles that are freed
module _ (P : List Deed → Type 0) (nothing : P [])
    (frees : (c : ℕ) (deeds : List Deed) → P deeds → P (By (Free c) ∷ Own (Clears c) ∷ deeds)) where
  each_freed : (consoles : List ℕ) → P (flat_map free_deeds consoles)
  each_freed [] = nothing
  each_freed (c ∷ consoles) = frees c (flat_map free_deeds consoles) (each_freed consoles)

  pub frees_are : (w : WorldState) (n : ℕ) → P (disallocate_deeds w n)
  frees_are w n =
      let consoles : List ℕ = filter (λ c. not (is_in_use w c)) (range_with_len 1 63) in
      elim (n == 0) as (λ b. P (if b then flat_map free_deeds consoles else free_deeds n))
      [ true ↦ each_freed consoles | false ↦ frees n [] nothing ]

module _ (P : List Deed → Type 0) (composes : Composes P) where
  sent : (p signal : ℕ) → P (signal_deed p signal ∷ [])
  sent p signal =
      elim (signal == 9) as (λ b. P ((if b then By (End p) else Own (Raises p signal)) ∷ []))
      [ true ↦ composes.typed (By (End p)) refl | false ↦ composes.typed (Own (Raises p signal)) refl ]

  spawned : (accepter : Option (ℕ × ℕ)) → P (spawn_deeds accepter)
  spawned None = composes.nothing
  spawned (Some accepter) = sent accepter.0 accepter.1

  ended : (n : ℕ) (processes : List ℕ) → P (ends_of processes (By (SetKd n false) ∷ []))
  ended n [] = composes.typed (By (SetKd n false)) refl
  ended n (p ∷ processes) =
      composes.joined (By (End p) ∷ []) (ends_of processes (By (SetKd n false) ∷ [])) refl
      (composes.typed (By (End p)) refl) (ended n processes)

  key_out : (w : WorldState) (n : ℕ) (out : KeyOut) → P (key_out_deeds w n out)
  key_out w n (heard.Bytes bytes) = composes.typed (Own (Puts n bytes)) refl
  key_out w n (heard.Switch m) = composes.typed (Asks (Number m)) refl
  key_out w n heard.Last = composes.typed (Asks Last) refl
  key_out w n heard.Next = composes.typed (Asks Above) refl
  key_out w n heard.Prev = composes.typed (Asks Below) refl
  key_out w n heard.Spawn = spawned w.callers.accepter
  key_out w n heard.Attention = ended n (users w n)
  key_out w n heard.Nothing = composes.nothing

  pub keys_are : (w : WorldState) (k n : ℕ) (e : Option KeyEvent) → P (key_deeds w k n e)
  keys_are w k n None = composes.nothing
  keys_are w k n (Some e) =
      let s : Step = key_on w k n e in
      composes.joined (Own (Types n s.keys s.state) ∷ []) (key_out_deeds w n s.out) refl
      (composes.typed (Own (Types n s.keys s.state)) refl) (key_out w n s.out)

  scanned : ((n : ℕ) (scanner : Scan) → P (Own (Scanned n scanner) ∷ [])) → (w : WorldState) (k n b : ℕ)
      → P (scan_deeds w k n b)
  scanned reads w k n b =
      let scanner : Scan = scanner_of w.board.scanners k in
      let later : List Deed = key_deeds w k n (event_after scanner.codes scanner.bytes b) in
      let read : P (read_deeds w k n b) =
      composes.joined (Own (Scanned k (read_by scanner b)) ∷ []) later refl (reads k (read_by scanner b))
      (keys_are w k n (event_after scanner.codes scanner.bytes b)) in
      elim ((input_at w.inputs n).keys.mode == 0) as (λ raw. P (if raw then Own (Puts n (b ∷ [])) ∷ read_deeds w k n b else read_deeds w k n b)) [
        | true ↦ composes.joined (Own (Puts n (b ∷ [])) ∷ []) (read_deeds w k n b) refl
            (composes.typed (Own (Puts n (b ∷ []))) refl) read
        | false ↦ read
      ]

  waited : (there : Bool) (p : ℕ) (ticket : Ticket) → P (Own (Waits p ticket) ∷ [])
      → P (waits_unless there p ticket).deeds
  waited true p ticket waits = composes.nothing
  waited false p ticket waits = waits

  -- of an event it holds if it holds of the deeds that the event has in any case
  pub row_is : (w : WorldState) (p : ℕ) (e : Event) → ((n : ℕ) (scanner : Scan) → P (sure n scanner w p e))
      → P (row w p e).deeds
  row_is w p (event.Scan b) given = scanned given w (unwrap_or (keyboard_of p) 0) w.display.front b
  row_is w p (event.Write fd b) given =
      let c : ℕ = target w p fd in
      let said : List Out = said_of (terminal_at w.terminals c) b.bytes in
      composes.joined (Own (Writes c b.bytes) ∷ []) (flat_map (out_deeds c) said) refl (given 0 start_scan)
      (composes.said c said)
  row_is w p (event.WaitInput fd) given =
      waited (not (is_empty w (target w p fd))) p (Input (target w p fd)) (given 0 start_scan)
  row_is w p (event.WaitActive fd n) given = waited (n == w.display.front) p (Active n) (given 0 start_scan)
  row_is w p (event.Disallocate fd n) given =
      frees_are P composes.nothing (λ c deeds. composes.joined (free_deeds c) deeds refl (given c start_scan)) w n
  row_is w p (event.Kill q s) given = sent q s
  row_is w p e given = given 0 start_scan

-- a test of each deed
module _ (test : Deed → Bool) (typed : (deed : Deed) → is_typed deed ≡ true → test deed ≡ true) where
  one_passes : (deed : Deed) → is_typed deed ≡ true → list_all test (deed ∷ []) ≡ true
  one_passes deed is = and_from (test deed) true (typed deed is) refl

  out_passes : (c : ℕ) (out : Out) → list_all test (out_deeds c out) ≡ true
  out_passes c (outs.Report text) = one_passes (Own (Puts c text)) refl
  out_passes c (outs.SwitchTo n) = one_passes (Asks (Number n)) refl
  out_passes c outs.SwitchLast = one_passes (Asks Last) refl
  out_passes c (outs.Lights lights) = one_passes (Own (Lights c lights)) refl
  out_passes c outs.Bell = refl

  both_pass : (a b : List Deed) → list_all test a ≡ true → list_all test b ≡ true → list_all test (a ++ b) ≡ true
  both_pass a b first second =
      list_all-append test a b ∙ and_from (list_all test a) (list_all test b) first second

  pub outs_pass : (c : ℕ) (said : List Out) → list_all test (flat_map (out_deeds c) said) ≡ true
  outs_pass c [] = refl
  outs_pass c (out ∷ said) =
      both_pass (out_deeds c out) (flat_map (out_deeds c) said) (out_passes c out) (outs_pass c said)

  pub passes : Composes (λ deeds. list_all test deeds ≡ true)
  passes = record {
    nothing = refl;
    typed = one_passes;
    joined = λ a b free. both_pass a b;
    said = outs_pass;
  }

  pub row_passes : (w : WorldState) (p : ℕ) (e : Event)
      → ((n : ℕ) (scanner : Scan) → list_all test (sure n scanner w p e) ≡ true)
      → list_all test (row w p e).deeds ≡ true
  row_passes = row_is (λ deeds. list_all test deeds ≡ true) passes
