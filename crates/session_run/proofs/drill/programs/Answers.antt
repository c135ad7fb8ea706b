use Rattle.std.proofs.Common.{◌≡◌, [], ◌∷◌, ◌+◌, ◌++◌, List, sym, ap, subst, ◌∙◌, arith}
use Rattle.session_run.proofs.Drilling.{SoFar, all, begin, drill_programs, more}
use Rattle.session_run.specs.Drill.{keys, script}
use Rattle.session_text.specs.declared.program.Program.{Program}
use Rattle.session_text.specs.declared.program.Program.TheVariants as programs
use Rattle.vt_events.specs.Kinds.{text}
use Rattle.session_run.proofs.drill.programs.Goals as goal

pub loop-i-init : goal.loop-i-init
loop-i-init c =
    let first : List Program = programs.Keys (text (keys c.args.n)) ∷ [] in
    let keyed : c.new-list.result.items ++ programs.Keys c.in_ok-keys.field-0 ∷ [] ≡ first =
    λ j. c.new-list.ensures.items j ++ programs.Keys (c.in_ok-keys.ensures j) ∷ [] in
    subst (SoFar (script c.args.n) 0 1 c.args.seed first c.push.new.self.items) (sym c.new-draws.ensures)
    (begin (◌∙◌ {A = List Program} c.in_ok-push.ensures.items keyed))

pub loop-i-preserved : goal.loop-i-preserved
loop-i-preserved c =
    more c.loop-i.invariant
    (c.in_ok-script.ensures.value ∙ ap (λ k. (script c.args.n (1 + k) c.loop-i.draws).0) c.from.ensures)
    (c.in_ok-script.ensures.next ∙ ap (λ k. (script c.args.n (1 + k) c.loop-i.draws).1) c.from.ensures)
    c.in_ok-push-2.ensures.items

pub returns-clause-programs : goal.returns-clause-programs
returns-clause-programs c =
    let end : c.loop-i.i ≡ 8 = omega (arith, c.loop-i-test.false, c.loop-i.auto.i-end) in
    (all end c.loop-i.invariant).values

pub returns-clause-are : goal.returns-clause-are
returns-clause-are c =
    let end : c.loop-i.i ≡ 8 = omega (arith, c.loop-i-test.false, c.loop-i.auto.i-end) in
    drill_programs c.args.n c.args.seed c.loop-i.list.items c.requires (all end c.loop-i.invariant).values
