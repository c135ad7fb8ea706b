use Rattle.std.proofs.Common.{◌≡◌, ◌+◌, List, length, map, subst, sym, ap, ◌∙◌, true, arith}
use Rattle.std.proofs.lemmas.List.{length-map}
use Rattle.std.proofs.lemmas.List.Elements.{All-cons, All-map}
use Rattle.std.specs.List.{All}
use Rattle.vt_base.specs.Bytes.{Text}
use Rattle.session_text.specs.Sessions.{IsKeysProgram, IsScriptProgram, script_of}
use Rattle.session_text.specs.Turns.{is_there}
use Rattle.session_text.specs.declared.process.Process.{Process}
use Rattle.session_text.specs.declared.program.Program.TheVariants as programs
use Rattle.session_text.proofs.making.session.Goals as goal

pub make-requires : goal.make-requires
make-requires c =
    let list : List Process = c.args.parts.processes.items in
    let further : List Text = c.args.parts.further.items in
    let count : c.len.result ≡ length further =
    omega (arith, c.len.ensures, c.args.parts.further.ok.0) in
    let many : length list ≡ length c.starts.result =
    sym
    (ap length (c.starts.ensures ∙ ap (map (λ (p : Process). p.start)) c.as_slice.ensures.value)
    ∙ length-map list (λ (p : Process). p.start)) in
    record {
      fit = c.requires.opening.fit;
      keyboards = record { one = omega arith; four = omega (arith, count, c.requires.further.many) };
      events = c.requires.opening.events;
      bytes = c.requires.opening.bytes;
      turns = subst (λ k. All (λ t. is_there (length c.starts.result) (k + 1) t ≡ true) c.args.parts.turns.bytes) (sym count)
          (subst (λ n. All (λ t. is_there n (length further + 1) t ≡ true) c.args.parts.turns.bytes) many c.requires.turns);
      few_turns = c.requires.few_turns;
      programs = record {
        first = programs.Keys c.args.parts.keyboard.keys;
        scripts = map script_of list;
        further = map (λ keys. programs.Keys keys) further;
        are = c.in_ok-programs.ensures;
        many_scripts = length-map list script_of ∙ many;
        many_keys = ap (λ n. n + 1) (length-map further (λ keys. programs.Keys keys) ∙ sym count);
        each_script = All-map IsScriptProgram script_of list c.requires.scripts;
        each_keys = All-cons IsKeysProgram (programs.Keys c.args.parts.keyboard.keys) (map (λ keys. programs.Keys keys) further)
            c.requires.keys (All-map IsKeysProgram (λ keys. programs.Keys keys) further c.requires.further.keys);
      };
    }
