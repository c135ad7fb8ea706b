-- A session that is made of parts is the session of their value.
use Rattle.std.proofs.Common.{◌≡◌, ℕ, ◌+◌, List, [], ◌∷◌, ◌++◌, length, map, refl, subst, sym, ap, ◌∙◌}
use Rattle.std.proofs.lemmas.List.{length-map}
use Rattle.key_compile.specs.Compiled.{AreTablesOf}
use Rattle.vt_base.specs.Bytes.{Text}
use Rattle.vt_events.specs.Kinds.{text}
use Rattle.session_text.specs.Parts.{AreOf, IsMadeOf}
use Rattle.session_text.specs.Sessions.{IsSessionOf, SessionValue, SessionView, keys_of, script_of}
use Rattle.session_text.specs.declared.session_header.SessionHeader.{SessionHeader}
use Rattle.session_text.specs.declared.parts.SessionParts.{SessionParts}
use Rattle.session_text.specs.declared.process.Process.{Process}
use Rattle.session_text.specs.declared.program.Program.{Program}
use Rattle.session_text.specs.declared.program.Program.TheVariants as programs

-- the programs of keyboards with these scan bytes
keys_programs : (further : List (List ℕ)) → map (λ keys. programs.Keys keys) (map text further) ≡ map keys_of further
keys_programs [] = refl
keys_programs (keys ∷ further) = ap (λ ps. keys_of keys ∷ ps) (keys_programs further)

pub made_session : (parts : SessionParts) (value : SessionValue) (s : SessionView) → AreOf parts value → IsMadeOf parts s
    → IsSessionOf s value
made_session parts value s are made =
    let keys : List Text → List Program = map (λ keys. programs.Keys keys) in
    let further : keys parts.further.items ≡ map keys_of value.further =
    ap keys are.further ∙ keys_programs value.further in
    record {
      rows = made.rows ∙ ap (λ (o : SessionHeader). o.rows) are.opening;
      cols = made.cols ∙ ap (λ (o : SessionHeader). o.cols) are.opening;
      consoles = made.consoles ∙ ap (λ (o : SessionHeader). o.consoles) are.opening;
      front = made.front ∙ ap (λ (o : SessionHeader). o.front) are.opening;
      events = made.events ∙ ap (λ (o : SessionHeader). o.events) are.opening;
      bytes = made.bytes ∙ ap (λ (o : SessionHeader). o.bytes) are.opening;
      tables = subst (AreTablesOf value.typed.lines) (sym made.tables) are.keyboard.0;
      turns = made.turns ∙ are.turns;
      starts = made.starts ∙ ap (map (λ (process : Process). process.start)) are.processes;
      keyboards = made.keyboards ∙ ap (λ n. n + 1) (ap length are.further ∙ length-map value.further text);
      programs =
          made.programs
          ∙ (λ i. programs.Keys (are.keyboard.1 i) ∷ map script_of (are.processes i) ++ further i);
    }
