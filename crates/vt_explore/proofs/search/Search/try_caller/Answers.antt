use Rattle.std.proofs.Common.{◌≡◌, ℕ, List, length, map, None, Some, arith, sym, ap, ◌∙◌, subst}
use Rattle.std.specs.Prelude.{IfOk}
use Rattle.vt_explore.proofs.Calls.{program_none, program_some}
use Rattle.vt_explore.proofs.Finding.{adds_none}
use Rattle.vt_explore.proofs.Nevers.{extends_same, now_nobody, opened_none}
use Rattle.vt_explore.specs.Findings.{IsTried}
use Rattle.vt_explore.specs.Positions.{IsAfter}
use Rattle.vt_explore.specs.Questions.{Wants}
use Rattle.vt_explore.specs.Searches.{IfKnown}
use Rattle.session_order.specs.Ends.{Setup}
use Rattle.session_order.specs.Orders.{history_of}
use Rattle.session_order.specs.Sessions.{setup_of}
use Rattle.session_text.specs.Programs.{program_of}
use Rattle.vt_events.specs.declared.entry.Entry.{Entry}
use Rattle.vt_explore.proofs.search.Search.try_caller.Goals as goal

pub returns-in_default-clause-grows : goal.returns-in_default-clause-grows
returns-in_default-clause-grows g c = extends_same c.args.self.now

pub returns-in_default-clause-sorted : goal.returns-in_default-clause-sorted
returns-in_default-clause-sorted g c = c.requires.sorted

pub returns-in_default-clause-found : goal.returns-in_default-clause-found
returns-in_default-clause-found g c =
    adds_none (map g.Q.Question.wants c.args.questions.now) (setup_of c.args.s.now) c.args.base.now.order
    c.args.findings.now

pub returns-in_default-clause-known : goal.returns-in_default-clause-known
returns-in_default-clause-known g c =
    let all : List Wants = map g.Q.Question.wants c.args.questions.now in
    let o : Setup = setup_of c.args.s.now in
    let p : ℕ = c.numbered-p.result in
    let same : p ≡ c.args.n = c.numbered-p.ensures ∙ c.from.ensures in
    let none : program_of o.programs p ≡ None =
    ap (λ programs. program_of programs p) (sym c.programs.ensures.same)
    ∙ program_none (λ program. program.now) c.program_of.result _ c.program_of.ensures c.in_default.is in
    let h : List Entry = history_of o c.args.base.now.order in
    subst (IsTried all c.args.findings.now o c.args.self.now h) same
    (λ i wants at open_before. opened_none wants o c.args.self.now h p (now_nobody o h p none))

pub returns-in_default-2-clause-grows : goal.returns-in_default-2-clause-grows
returns-in_default-2-clause-grows g c = extends_same c.args.self.now

pub returns-in_default-2-clause-sorted : goal.returns-in_default-2-clause-sorted
returns-in_default-2-clause-sorted g c = c.requires.sorted

pub returns-in_default-2-clause-found : goal.returns-in_default-2-clause-found
returns-in_default-2-clause-found g c =
    adds_none (map g.Q.Question.wants c.args.questions.now) (setup_of c.args.s.now) c.args.base.now.order
    c.args.findings.now

pub returns-in_default-2-clause-known : goal.returns-in_default-2-clause-known
returns-in_default-2-clause-known g c =
    let all : List Wants = map g.Q.Question.wants c.args.questions.now in
    let o : Setup = setup_of c.args.s.now in
    let p : ℕ = c.numbered-p.result in
    let same : p ≡ c.args.n = c.numbered-p.ensures ∙ c.from.ensures in
    let h : List Entry = history_of o c.args.base.now.order in
    let is : program_of o.programs p ≡ Some c.in-Some.program.now =
    ap (λ programs. program_of programs p) (sym c.programs.ensures.same)
    ∙ program_some (λ program. program.now) c.program_of.result _ c.in-Some.program c.program_of.ensures c.in-Some.is in
    let at : IsAfter o h c.position.result.now = subst (IsAfter o h) (sym c.position.ensures) c.requires.base in
    subst (IsTried all c.args.findings.now o c.args.self.now h) same
    (λ i wants here open_before. opened_none wants o c.args.self.now h p
    (sym (c.in_ok-event.ensures o h is at) ∙ c.in_default-2.is))

pub returns-then-as_slice-ge-MOST_TURNS-clause-grows : goal.returns-then-as_slice-ge-MOST_TURNS-clause-grows
returns-then-as_slice-ge-MOST_TURNS-clause-grows g c = extends_same c.args.self.now

pub returns-then-as_slice-ge-MOST_TURNS-clause-sorted : goal.returns-then-as_slice-ge-MOST_TURNS-clause-sorted
returns-then-as_slice-ge-MOST_TURNS-clause-sorted g c = c.requires.sorted

pub returns-then-as_slice-ge-MOST_TURNS-clause-found : goal.returns-then-as_slice-ge-MOST_TURNS-clause-found
returns-then-as_slice-ge-MOST_TURNS-clause-found g c =
    adds_none (map g.Q.Question.wants c.args.questions.now) (setup_of c.args.s.now) c.args.base.now.order
    c.args.findings.now

pub try_call-requires-clause-program : goal.try_call-requires-clause-program
try_call-requires-clause-program g c =
    ap (λ programs. program_of programs c.numbered-p.result) (sym c.programs.ensures.same)
    ∙ program_some (λ program. program.now) c.program_of.result _ c.in-Some.program c.program_of.ensures c.in-Some.is

pub try_call-requires-clause-call : goal.try_call-requires-clause-call
try_call-requires-clause-call g c =
    let o : Setup = setup_of c.args.s.now in
    let p : ℕ = c.numbered-p.result in
    let is : program_of o.programs p ≡ Some c.in-Some.program.now =
    ap (λ programs. program_of programs p) (sym c.programs.ensures.same)
    ∙ program_some (λ program. program.now) c.program_of.result _ c.in-Some.program c.program_of.ensures c.in-Some.is in
    let h : List Entry = history_of o c.args.base.now.order in
    let at : IsAfter o h c.position.result.now = subst (IsAfter o h) (sym c.position.ensures) c.requires.base in
    sym (c.in_ok-event.ensures o h is at) ∙ c.in-Some-2.is

pub try_call-requires-clause-few : goal.try_call-requires-clause-few
try_call-requires-clause-few g c =
    omega (arith, c.if-as_slice-ge-MOST_TURNS.false, ap length (c.as_slice.ensures.callers ∙ c.order.ensures))

pub returns-clause-known : goal.returns-clause-known
returns-clause-known g c =
    let all : List Wants = map g.Q.Question.wants c.args.questions.now in
    let o : Setup = setup_of c.args.s.now in
    let h : List Entry = history_of o c.args.base.now.order in
    subst
    (λ q. IfOk c.try_call.result (λ t. IfKnown t (IsTried all c.try_call.new.findings o c.try_call.new.self h q)))
    (c.numbered-p.ensures ∙ c.from.ensures) c.try_call.ensures.known

pub try_call-requires-clause-full : goal.try_call-requires-clause-full
try_call-requires-clause-full g c = c.requires.full
