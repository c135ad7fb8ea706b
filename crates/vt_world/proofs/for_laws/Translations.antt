-- All keyboards have the same keycodes.
use Rattle.std.proofs.Common.{◌≡◌, ℕ, zero, suc, Bool, true, false, List, [], ◌∷◌, map, refl, sym, ap, ◌∙◌, subst}
use Rattle.std.proofs.lemmas.Bool.{false≢true}
use Rattle.std.specs.List.{list_all}
use Rattle.std.specs.Prelude.{◌==◌, slice_set, if◌then◌else◌, unwrap_or}
use Rattle.scan_codes.specs.Scan.{Scan, event_after, start_codes, with_code}
use Rattle.vt_base.specs.Keyboards.{keyboard_of}
use Rattle.vt_events.specs.declared.entry.Entry.{Entry}
use Rattle.vt_events.specs.declared.event.Event.{Event}
use Rattle.vt_events.specs.declared.event.Event.TheVariants as event
use Rattle.vt_world.proofs.for_laws.Kept.{deeds_keep, unmarked}
use Rattle.vt_world.proofs.for_laws.RowDeeds.{is_typed, keys_are, passes, row_passes}
use Rattle.vt_world.proofs.for_laws.Steps.{by_step}
use Rattle.vt_world.specs.Deeds.{Deed, Coded, Own, OwnDeed, Puts, Scanned, apply_deeds, apply_deed, apply_own_deed}
use Rattle.vt_world.specs.Heard.{without_marks}
use Rattle.vt_world.specs.History.{replay}
use Rattle.vt_world.specs.Inputs.{input_at}
use Rattle.vt_world.specs.Events.{row}
use Rattle.vt_world.specs.State.{WorldState}
use Rattle.vt_world.specs.Step.{Outcome, step}
use Rattle.vt_world.specs.StepLaws.{IsOneTranslation, OneTranslation, translations}
use Rattle.vt_world.specs.Typing.{key_deeds, read_by, read_deeds, scanner_of}

-- most deeds leave the scanners
abbrev scanners : WorldState → List Scan
scanners w = w.board.scanners

abbrev is_still : Deed → Bool
is_still (Own (Scanned k scanner)) = false
is_still (Own (Coded scan code)) = false
is_still deed = true

abbrev are_still : List Deed → Bool
are_still deeds = list_all is_still deeds

own : (w : WorldState) (deed : OwnDeed) → is_still (Own deed) ≡ true
    → scanners (unmarked w deed) ≡ scanners w
own w (Scanned k scanner) still = absurd (false≢true still)
own w (Coded scan code) still = absurd (false≢true still)
own w deed still = refl

all : (w : WorldState) (deeds : List Deed) → are_still deeds ≡ true → scanners (apply_deeds w deeds) ≡ scanners w
all = deeds_keep is_still (λ w v. scanners v ≡ scanners w)
    (record {
      itself = λ w. refl;
      then = λ u v w first second. second ∙ first;
      marked = λ w m. refl;
      shown = λ w display. refl;
      own = own;
    })

typed_still : (deed : Deed) → is_typed deed ≡ true → is_still deed ≡ true
typed_still (Own (Scanned k scanner)) typed = absurd (false≢true typed)
typed_still (Own (Coded scan code)) typed = absurd (false≢true typed)
typed_still deed typed = refl

-- a byte that is read leaves the translations
read_keeps : (xs : List Scan) (k b : ℕ)
    → map (λ (s : Scan). s.codes) (slice_set xs k (read_by (scanner_of xs k) b)) ≡ map (λ (s : Scan). s.codes) xs
read_keeps [] k b = refl
read_keeps (x ∷ xs) zero b = refl
read_keeps (x ∷ xs) (suc k) b = ap (λ (all : List (List ℕ)). x.codes ∷ all) (read_keeps xs k b)

reads : (w v : WorldState) (k n b : ℕ) → scanners v ≡ scanners w
    → translations (apply_deeds v (read_deeds w k n b)) ≡ translations w
reads w v k n b same =
    let scanner : Scan = scanner_of w.board.scanners k in
    let read : WorldState = apply_own_deed v (Scanned k (read_by scanner b)) in
    ap (map (λ (s : Scan). s.codes))
    (all read (key_deeds w k n (event_after scanner.codes scanner.bytes b))
    (keys_are (λ deeds. are_still deeds ≡ true) (passes is_still typed_still) w k n
    (event_after scanner.codes scanner.bytes b)))
    ∙ ap (λ (xs : List Scan). map (λ (s : Scan). s.codes) (slice_set xs k (read_by scanner b))) same
    ∙ read_keeps w.board.scanners k b

scans : (raw : Bool) (w : WorldState) (k n b : ℕ)
    → translations (apply_deeds w (if raw then Own (Puts n (b ∷ [])) ∷ read_deeds w k n b else read_deeds w k n b))
    ≡ translations w
scans true w k n b = reads w (apply_deed w (Own (Puts n (b ∷ [])))) k n b refl
scans false w k n b = reads w w k n b refl

-- keyboards with the same keycodes keep them the same
alike : (w v : WorldState) → translations v ≡ translations w → IsOneTranslation w → IsOneTranslation v
alike w v same one = (one.0, same ∙ one.1)

codes_set : (xs : List Scan) (scan code : ℕ)
    → map (λ (s : Scan). s.codes) (map (λ (s : Scan). with_code s scan code) xs)
    ≡ map (λ (codes : List ℕ). slice_set codes scan code) (map (λ (s : Scan). s.codes) xs)
codes_set [] scan code = refl
codes_set (x ∷ xs) scan code =
    ap (λ (all : List (List ℕ)). slice_set x.codes scan code ∷ all) (codes_set xs scan code)

row_keeps : (w : WorldState) (p : ℕ) (e : Event) → IsOneTranslation w
    → IsOneTranslation (apply_deeds w (row w p e).deeds)
row_keeps w p (event.Scan b) =
    let n : ℕ = w.display.front in
    alike w (apply_deeds w (row w p (event.Scan b)).deeds)
    (scans ((input_at w.inputs n).keys.mode == 0) w (unwrap_or (keyboard_of p) 0) n b)
row_keeps w p (event.SetCode fd scan code) = λ one. (
  slice_set one.0 scan code,
  codes_set w.board.scanners scan code ∙ ap (map (λ (codes : List ℕ). slice_set codes scan code)) one.1,
)
row_keeps w p e =
    alike w (apply_deeds w (row w p e).deeds)
    (ap (map (λ (s : Scan). s.codes))
    (all w (row w p e).deeds (row_passes is_still typed_still w p e (λ n scanner. refl))))

step_keeps : (w : WorldState) (p : ℕ) (e : Event) → IsOneTranslation w → IsOneTranslation (step w p e).world
step_keeps w p e one =
    by_step (λ (deeds : List Deed) (after : Outcome). IsOneTranslation after.world) w p e
    (λ errno. one) (λ accepted. row_keeps (without_marks w) p e one)

replays : (entries : List Entry) (w : WorldState) → IsOneTranslation w → IsOneTranslation (replay w entries)
replays [] w one = one
replays (entry ∷ entries) w one =
    replays entries (step w entry.caller entry.event).world (step_keeps w entry.caller entry.event one)

pub one_translation : OneTranslation
one_translation w entries start =
    replays entries w
    (subst IsOneTranslation (sym start.opened) (start_codes, refl))
