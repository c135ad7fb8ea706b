use Rattle.std.proofs.Common.{◌≡◌, ℕ, List, [], ◌∷◌, ◌++◌, map, refl, ap, ◌∙◌, rules}
use Rattle.std.proofs.lemmas.List.{map-append}
use Rattle.turn_lock.specs.declared.entry.Entry.{Entry}
use Rattle.console_tests.specs.declared.tests.lock.Line.{Line}
use Rattle.turn_lock.specs.History.{display_after}
use Rattle.console_tests.proofs.tests.lock.Lines.add.Goals as goal

display_end : (before : ℕ) (log : List (Entry ℕ)) (e : Entry ℕ) → display_after before (log ++ e ∷ []) ≡ e.display
display_end before [] e = refl
display_end before (x ∷ xs) e = display_end x.display xs e

pub invariant_of-self-2 : goal.invariant_of-self-2
invariant_of-self-2 c =
    let line = c.args.line in let old = c.args.self.now.lines.items in
    let items : c.push.new.self.items ≡ old ++ line ∷ [] = search rules in
    let entry : Line → Entry ℕ = λ l. record
    { by = l.by; seq = l.seq; display = l.display; what = l.what } in record {
      shown = line.shown.1;
      last = ap (λ xs. display_after 7 (map entry xs)) items
          ∙ (ap (display_after 7) (map-append entry old (line ∷ []))
          ∙ display_end 7 (map entry old) (entry line));
    }
