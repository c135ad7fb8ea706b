-- A text requests another console at most once in four bytes: a byte makes at most one byte more pending, and
-- a request takes three pending bytes and one more.
use Rattle.std.proofs.Common.{◌≡◌, ◌⊎◌, ℕ, ◌+◌, ◌*◌, ◌≤◌, ◌==◌, Bool, true, false, List, [], ◌∷◌, ◌++◌, length, cond, Some, None, refl, ap, ◌∙◌, inl, inr, arith}
use Rattle.std.specs.Prelude.{Option}
use Rattle.std.proofs.lemmas.List.{append-nil}
use Rattle.std.proofs.lemmas.List.Sums.{sum_by_push}
use Rattle.vt_screen.specs.Asking.{RequestsAreFew, asks, requests}
use Rattle.vt_canvas.specs.Effect.{control, effect}
use Rattle.vt_screen.specs.Run.{ScreenAndOuts, screen_effects, with_outs, outs_of_option, then_done}
use Rattle.vt_canvas.specs.Saying.{Effect}
use Rattle.vt_canvas.specs.Screen.{Screen, mode_of}
use Rattle.vt_canvas.specs.declared.out.Out.{Out}
use Rattle.vt_units.specs.Answer.{RestBefore, ByteOutcome, acts_in, answer, goes_on, outcome_of_text, outcome_by_reading, unbroken_rest, rest_before, rest_before_by, make_outcome, byte_outcome, vanishes_in}
use Rattle.vt_units.specs.Bytes.{interrupts}
use Rattle.vt_units.specs.Reading.{Reading, character, command, dropped, none, reading, sequence, string, string_end, unfinished, whole}
use Rattle.vt_units.specs.Rest.{Rest, fresh}
use Rattle.vt_units.specs.Run.{Reached, effect_of, run, step}
use Rattle.vt_units.specs.declared.mode.Mode.{Mode}
use Rattle.vt_units.specs.declared.read.Read.{Read}
use Rattle.vt_units.specs.declared.then.Then as then
use Rattle.vt_units.specs.declared.unit.Unit as units
use Rattle.vt_screen.proofs.for_laws.AskingTable.{asked, asking, control-without_out, counted, effect-asks, least}
use Rattle.vt_screen.proofs.for_laws.AskingTexts.{Tame, tame_reading}

-- how many bytes are pending, of which three count
abbrev pend : List ℕ → ℕ
pend [] = 0
pend (a ∷ []) = 1
pend (a ∷ b ∷ []) = 2
pend (a ∷ b ∷ c ∷ more) = 3

pend_few : (text : List ℕ) → pend text ≤ 3
pend_few [] = omega arith
pend_few (a ∷ []) = omega arith
pend_few (a ∷ b ∷ []) = omega arith
pend_few (a ∷ b ∷ c ∷ more) = omega arith

pend_grown : (text : List ℕ) (x : ℕ) → pend (text ++ x ∷ []) ≤ pend text + 1
pend_grown [] x = omega arith
pend_grown (a ∷ []) x = omega arith
pend_grown (a ∷ b ∷ []) x = omega arith
pend_grown (a ∷ b ∷ c ∷ more) x = omega arith

tame_or_full : (m : Mode) (text : List ℕ) (x : ℕ) → Tame (reading m (text ++ x ∷ [])) ⊎ (pend text ≡ 3)
tame_or_full m [] x = inl (tame_reading m (x ∷ []) (omega arith))
tame_or_full m (a ∷ []) x = inl (tame_reading m (a ∷ x ∷ []) (omega arith))
tame_or_full m (a ∷ b ∷ []) x = inl (tame_reading m (a ∷ b ∷ x ∷ []) (omega arith))
tame_or_full m (a ∷ b ∷ c ∷ more) x = inr refl

-- what is left of a rest before a byte has no more pending
rest_either : (test : Bool) (n : ℕ) (a b : Rest) → pend a.text ≤ n → pend b.text ≤ n → pend (cond test a b).text ≤ n
rest_either true n a b first second = first
rest_either false n a b first second = second

rest_before_either : (test : Bool) (n : ℕ) (a b : RestBefore) → pend a.rest.text ≤ n → pend b.rest.text ≤ n → pend (cond test a b).rest.text ≤ n
rest_before_either true n a b first second = first
rest_before_either false n a b first second = second

some_pending : (text : List ℕ) → (text ≡ [] → ⊥) → 1 ≤ pend text
some_pending [] h = absurd (h refl)
some_pending (a ∷ []) h = omega arith
some_pending (a ∷ b ∷ []) h = omega arith
some_pending (a ∷ b ∷ c ∷ more) h = omega arith

same : (n : ℕ) → n ≤ n
same n = omega arith

rest_before_pends_by : (r : Reading) (old : Rest) (m : Mode) (b : ℕ) → (r ≡ unfinished string_end → 1 ≤ pend old.text)
    → pend (rest_before_by r old m b).rest.text ≤ pend old.text
rest_before_pends_by (unfinished character) old m b h =
    rest_before_either (goes_on (reading old.mode (old.text ++ b ∷ []))) (pend old.text) (unbroken_rest old) _ (same (pend old.text)) (least (pend old.text))
rest_before_pends_by (unfinished sequence) old m b h =
    rest_either (interrupts old.mode b) (pend old.text) (fresh m) old (least (pend old.text)) (same (pend old.text))
rest_before_pends_by (unfinished command) old m b h =
    rest_either (interrupts old.mode b) (pend old.text) (fresh m) old (least (pend old.text)) (same (pend old.text))
rest_before_pends_by (unfinished string) old m b h =
    rest_either (b == 0x1B) (pend old.text) (record { mode = m; text = old.text }) old (same (pend old.text)) (same (pend old.text))
rest_before_pends_by (unfinished string_end) old m b h =
    let opened : Rest = record { mode = old.mode; text = 0x1B ∷ [] } in
    rest_either (b == 0x5C) (pend old.text) old _ (same (pend old.text))
    (rest_either (interrupts old.mode b) (pend old.text) (fresh m) opened (least (pend old.text)) (h refl))
rest_before_pends_by (whole u) old m b h = least (pend old.text)
rest_before_pends_by dropped old m b h = least (pend old.text)
rest_before_pends_by none old m b h = least (pend old.text)

rest_before_pends : (old : Rest) (m : Mode) (b : ℕ) → pend (rest_before old m b).rest.text ≤ pend old.text
rest_before_pends old m b =
    rest_before_pends_by (reading old.mode old.text) old m b (λ e. some_pending old.text (λ is. nothing-ends old.mode old.text is e))
  where
    nothing-ends : (n : Mode) (text : List ℕ) → text ≡ [] → reading n text ≡ unfinished string_end → ⊥
    nothing-ends n [] is e = cc
    nothing-ends n (x ∷ text) is e = cc

-- what a byte comes to asks as often
abbrev weight : then.Then → ℕ
weight (then.Then.Unit u) = counted (asking u)
weight (then.Then.Act c) = 0
weight then.Then.More = 0
weight then.Then.Dropped = 0

abbrev Fair : ℕ → ByteOutcome → Type 0
Fair n t = 4 * weight t.got + pend t.rest.text ≤ n

fair_either : (n : ℕ) (test : Bool) (a b : ByteOutcome) → Fair n a → Fair n b → Fair n (cond test a b)
fair_either n true a b first second = first
fair_either n false a b first second = second

counted_few : (test : Bool) → counted test ≤ 1
counted_few true = omega arith
counted_few false = omega arith

outcome_of_text_fair_by : (x : Reading) (r : Rest) (b : ℕ) → Tame x ⊎ (pend r.text ≡ 3) → Fair (pend r.text + 1) (outcome_by_reading x r b)
outcome_of_text_fair_by (whole u) r b (inl tame) = let h : counted (asking u) ≡ 0 = ap counted tame in omega (arith, h)
outcome_of_text_fair_by (whole u) r b (inr full) = let h = counted_few (asking u) in omega (arith, h, full)
outcome_of_text_fair_by (unfinished kind) r b h = let grows = pend_grown r.text b in omega (arith, grows)
outcome_of_text_fair_by dropped r b h = omega arith
outcome_of_text_fair_by none r b h = omega arith

byte_outcome_fair : (r : Rest) (b : ℕ) → Fair (pend r.text + 1) (byte_outcome r b)
byte_outcome_fair r b =
    let now = reading r.mode r.text in
    fair_either (pend r.text + 1) (acts_in now b) (make_outcome (then.Then.Act b) r) _ (omega arith)
    (fair_either (pend r.text + 1) (vanishes_in now b) (make_outcome then.Then.More r) (outcome_of_text r b) (omega arith)
    (outcome_of_text_fair_by (reading r.mode (r.text ++ b ∷ [])) r b (tame_or_full r.mode r.text b)))

-- what is done asks as often as what is said
abbrev one : Out → ℕ
one out = cond (asks out) 1 0

outs_of_option-asks : (outs : List Out) (out : Option Out) → requests (outs ++ outs_of_option out) ≡ requests outs + asked out
outs_of_option-asks outs None = ap requests (append-nil outs) ∙ omega arith
outs_of_option-asks outs (Some out) = sum_by_push one outs out

done_asks : (f : Screen → Effect) (t : ScreenAndOuts) → requests (then_done f t).outs ≡ requests t.outs + asked (f t.screen).said
done_asks f t = outs_of_option-asks t.outs (f t.screen).said

got_asks : (got : then.Then) (t : ScreenAndOuts) → requests (effect_of screen_effects got t).outs ≤ requests t.outs + weight got
got_asks (then.Then.Unit u) t =
    let h = done_asks (effect u) t in let k = effect-asks u t.screen in omega (arith, h, k)
got_asks (then.Then.Act c) t =
    let h = done_asks (control c) t in let k = control-without_out c t.screen in omega (arith, h, k)
got_asks then.Then.More t = omega arith
got_asks then.Then.Dropped t = omega arith

bad_asks : (bad : Bool) (t : ScreenAndOuts) → requests (cond bad (screen_effects.on_unit (units.Unit.Char 0xFFFD) t) t).outs ≡ requests t.outs
bad_asks true t = let h = done_asks (effect (units.Unit.Char 0xFFFD)) t in omega (arith, h)
bad_asks false t = refl

byte_fair : (b : ℕ) (at : Reached ScreenAndOuts)
    → 4 * requests (step screen_effects b at).state.outs + pend (step screen_effects b at).rest.text
    ≤ 4 * requests at.state.outs + pend at.rest.text + 1
byte_fair b at =
    let m = mode_of at.state.screen in
    let read : Read = answer at.rest m b in
    let before : ScreenAndOuts = cond read.bad (screen_effects.on_unit (units.Unit.Char 0xFFFD) at.state) at.state in
    let first = bad_asks read.bad at.state in
    let got = got_asks read.got before in
    let fair = byte_outcome_fair (rest_before at.rest m b).rest b in
    let left = rest_before_pends at.rest m b in
    omega (arith, first, got, fair, left)

bytes_fair : (bytes : List ℕ) (at : Reached ScreenAndOuts)
    → 4 * requests (run screen_effects bytes at).state.outs ≤ 4 * requests at.state.outs + pend at.rest.text + length bytes
bytes_fair [] at = omega arith
bytes_fair (b ∷ bytes) at =
    let one-byte = byte_fair b at in
    let others = bytes_fair bytes (step screen_effects b at) in
    omega (arith, one-byte, others)

pub requests_are_few : RequestsAreFew
requests_are_few m bytes =
    let all = bytes_fair bytes (with_outs [] m) in
    let few = pend_few m.rest.text in
    omega (arith, all, few)
