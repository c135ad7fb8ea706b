use Rattle.std.proofs.Common.{◌≡◌, List, Some, length, take, refl, sym, subst}
use Rattle.std.specs.Prelude.{slice_get}
use Rattle.std.proofs.lemmas.Bool.{iff_false}
use Rattle.std.proofs.lemmas.List.{take_all}
use Rattle.std.proofs.lemmas.Option.{slice_get_read}
use Rattle.vt_events.specs.declared.entry.Entry.{Entry}
use Rattle.vt_free.proofs.VerdictLaws.{legal_is_free, one_verdict}
use Rattle.vt_free.proofs.VerdictLaws.{next_take}
use Rattle.vt_free.specs.Judging.{IsAfter}
use Rattle.vt_free.specs.Verdicts.JudgesFree.{AtEnd, EntryFails, Right}
use Rattle.vt_free.proofs.judging.judge.Goals as goal

pub returns-in-Some-clause-judges : goal.returns-in-Some-clause-judges
returns-in-Some-clause-judges c =
    let entries : List Entry = c.args.entries.now in
    let here : slice_get entries c.loop-i.i ≡ Some c.index-entries-i.result =
    slice_get_read entries (length entries) c.loop-i.i c.index-entries-i.result refl c.loop-i-test.true
    c.index-entries-i.is in
    let fails = rw c.in-Some.is at c.in_ok-why.ensures.fails in
    EntryFails c.loop-i.i c.in-Some.why c.index-entries-i.result c.loop-i.invariant.left.legal here
    (fails c.args.start (take c.loop-i.i entries) c.loop-i.invariant)

pub returns-in-Some-clause-one : goal.returns-in-Some-clause-one
returns-in-Some-clause-one c = λ other judges.
    one_verdict c.args.start c.args.limits c.args.entries.now c.args.end.now other _ judges
    (returns-in-Some-clause-judges c)

pub returns-in-Some-clause-legal : goal.returns-in-Some-clause-legal
returns-in-Some-clause-legal c =
    legal_is_free c.args.start c.args.limits c.args.entries.now c.args.end.now _
    (returns-in-Some-clause-judges c)

pub loop-i-preserved : goal.loop-i-preserved
loop-i-preserved c =
    let entries : List Entry = c.args.entries.now in
    let here : slice_get entries c.loop-i.i ≡ Some c.index-entries-i.result =
    slice_get_read entries (length entries) c.loop-i.i c.index-entries-i.result refl c.loop-i-test.true
    c.index-entries-i.is in
    let passes = rw c.in_default.is at c.in_ok-why.ensures.passes in
    subst (λ (h : List Entry). IsAfter c.args.start h c.judge.new.self)
    (sym (next_take entries c.loop-i.i c.index-entries-i.result here))
    (passes c.args.start (take c.loop-i.i entries) c.loop-i.invariant)

pub returns-then-not-has_tail-clause-judges : goal.returns-then-not-has_tail-clause-judges
returns-then-not-has_tail-clause-judges c =
    let all = subst (λ (h : List Entry). IsAfter c.args.start h c.loop-i.judge)
    (take_all c.loop-i.i c.args.entries.now c.loop-i-test.false) c.loop-i.invariant in
    AtEnd all.left.legal
    (iff_false (c.has_tail.ensures c.args.start c.args.entries.now all) c.if-not-has_tail.true)

pub returns-then-not-has_tail-clause-one : goal.returns-then-not-has_tail-clause-one
returns-then-not-has_tail-clause-one c = λ other judges.
    one_verdict c.args.start c.args.limits c.args.entries.now c.args.end.now other _ judges
    (returns-then-not-has_tail-clause-judges c)

pub returns-then-not-has_tail-clause-legal : goal.returns-then-not-has_tail-clause-legal
returns-then-not-has_tail-clause-legal c =
    legal_is_free c.args.start c.args.limits c.args.entries.now c.args.end.now _
    (returns-then-not-has_tail-clause-judges c)

pub returns-clause-judges : goal.returns-clause-judges
returns-clause-judges c =
    let all = subst (λ (h : List Entry). IsAfter c.args.start h c.loop-i.judge)
    (take_all c.loop-i.i c.args.entries.now c.loop-i-test.false) c.loop-i.invariant in
    Right all.left.legal ((c.has_tail.ensures c.args.start c.args.entries.now all).0 c.if-not-has_tail.false)

pub returns-clause-one : goal.returns-clause-one
returns-clause-one c = λ other judges.
    one_verdict c.args.start c.args.limits c.args.entries.now c.args.end.now other _ judges
    (returns-clause-judges c)

pub returns-clause-legal : goal.returns-clause-legal
returns-clause-legal c =
    legal_is_free c.args.start c.args.limits c.args.entries.now c.args.end.now _
    (returns-clause-judges c)
