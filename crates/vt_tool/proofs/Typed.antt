-- The output of scan bytes, one after another.
use Rattle.std.proofs.Common.{◌≡◌, ℕ, ◌+◌, List, [], ◌∷◌, ◌++◌, Some, None, refl, sym, ap, ◌∙◌, append_assoc, append-nil}
use Rattle.std.specs.Prelude.{option_to_list}
use Rattle.key_tables.specs.Tables.{Tables}
use Rattle.scan_codes.specs.Laws.{events, rest}
use Rattle.scan_codes.specs.Scan.{Scan, bytes_after, event_after, scan_of, start_codes}
use Rattle.scan_codes.specs.declared.key_event.KeyEvent.{KeyEvent}
use Rattle.vt_tool.specs.Commands.Typing.{Typing, after_typing, start_typing, typing_step, typed_on, make_typing}
use Rattle.vt_tool.specs.Commands.Typed.{HasTyped, TypistView}

-- one more byte is kept after the others
pub rest_more : (before bytes : List ℕ) (b : ℕ)
    → rest before (bytes ++ b ∷ []) ≡ bytes_after (rest before bytes) b
rest_more before [] b = refl
rest_more before (c ∷ bytes) b = rest_more (bytes_after before c) bytes b

-- the event of one byte more comes last
pub events_more : (codes before bytes : List ℕ) (b : ℕ)
    → events codes before (bytes ++ b ∷ [])
    ≡ events codes before bytes ++ option_to_list (event_after codes (rest before bytes) b)
events_more codes before [] b = append-nil _
events_more codes before (c ∷ bytes) b =
    ap (λ (more : List KeyEvent). option_to_list (event_after codes before c) ++ more)
    (events_more codes (bytes_after before c) bytes b)
    ∙ sym (append_assoc (option_to_list (event_after codes before c)) _ _)

-- an event is typed after others
pub after_typing_more : (tables : Tables) (t : Typing) (es : List KeyEvent) (e : KeyEvent)
    → after_typing tables t (es ++ e ∷ [])
    ≡ typed_on (typing_step tables (after_typing tables t es) e)
after_typing_more tables t [] e = refl
after_typing_more tables t (d ∷ es) e =
    after_typing_more tables (typed_on (typing_step tables t d)) es e

-- a scan byte that ends no event
pub typing_step_none : (tables : Tables) (mode : ℕ) (before : List ℕ) (b : ℕ) (t t' : TypistView)
    → HasTyped tables mode before t → event_after t.scanner.codes t.scanner.bytes b ≡ None
    → t'.scanner ≡ record t.scanner { bytes = bytes_after t.scanner.bytes b }
    → t'.keys ≡ t.keys → t'.state ≡ t.state → HasTyped tables mode (before ++ b ∷ []) t'
typing_step_none tables mode before b t t' has event scanned keys state =
    let none : event_after start_codes (rest [] before) b ≡ None =
    ap (λ (s : Scan). event_after s.codes s.bytes b) (sym has.scanned) ∙ event in
    let more : events start_codes [] (before ++ b ∷ []) ≡ events start_codes [] before =
    events_more start_codes [] before b
    ∙ ap (λ o. events start_codes [] before ++ option_to_list o) none
    ∙ append-nil _ in
    record {
      scanned =
          scanned
          ∙ ap (λ (s : Scan). record s { bytes = bytes_after s.bytes b }) has.scanned
          ∙ ap (λ bytes. scan_of bytes start_codes) (sym (rest_more [] before b));
      typed =
          (λ i. make_typing (keys i) (state i))
          ∙ has.typed
          ∙ ap (after_typing tables (start_typing mode)) (sym more);
    }

-- a scan byte that ends an event
pub typing_step_some : (tables : Tables) (mode : ℕ) (before : List ℕ) (b : ℕ) (t t' : TypistView)
    (e : KeyEvent) → HasTyped tables mode before t
    → event_after t.scanner.codes t.scanner.bytes b ≡ Some e
    → t'.scanner ≡ record t.scanner { bytes = bytes_after t.scanner.bytes b }
    → t'.keys ≡ (typing_step tables (make_typing t.keys t.state) e).keys
    → t'.state ≡ (typing_step tables (make_typing t.keys t.state) e).state
    → HasTyped tables mode (before ++ b ∷ []) t'
typing_step_some tables mode before b t t' e has event scanned keys state =
    let some : event_after start_codes (rest [] before) b ≡ Some e =
    ap (λ (s : Scan). event_after s.codes s.bytes b) (sym has.scanned) ∙ event in
    let more : events start_codes [] (before ++ b ∷ []) ≡ events start_codes [] before ++ e ∷ [] =
    events_more start_codes [] before b
    ∙ ap (λ o. events start_codes [] before ++ option_to_list o) some in
    record {
      scanned =
          scanned
          ∙ ap (λ (s : Scan). record s { bytes = bytes_after s.bytes b }) has.scanned
          ∙ ap (λ bytes. scan_of bytes start_codes) (sym (rest_more [] before b));
      typed =
          (λ i. make_typing (keys i) (state i))
          ∙ ap (λ (u : Typing). typed_on (typing_step tables u e)) has.typed
          ∙ sym (after_typing_more tables (start_typing mode) (events start_codes [] before) e)
          ∙ ap (after_typing tables (start_typing mode)) (sym more);
    }
