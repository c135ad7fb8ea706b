use Rattle.std.proofs.Common.{◌≡◌, ◌<◌, ℕ, List, inl, inr, arith, ap, Some, length, take, refl, sym, subst, ◌∙◌}
use Rattle.std.specs.Prelude.{OnErr, Result, Ok, Err, slice_get}
use Rattle.std.proofs.lemmas.List.{take_all}
use Rattle.std.proofs.lemmas.Option.{slice_get_read}
use Rattle.session_order.specs.Ends.{Setup}
use Rattle.session_order.specs.Sessions.{setup_of, start_of}
use Rattle.vt_check.proofs.Growing.{next_entry}
use Rattle.vt_check.proofs.VerdictLaws.{legal_is_right, next_take}
use Rattle.vt_check.specs.Judging.{IsAfter}
use Rattle.vt_check.specs.Verdicts.{Judges}
use Rattle.vt_check.specs.Verdicts.Judges.{AtEnd, EntryFails, Right}
use Rattle.vt_check.specs.Watching.{HasSeenSome}
use Rattle.vt_check.specs.Watching.HasSeenSome.{Part, Whole}
use Rattle.vt_check.specs.declared.verdict.Verdict.{Verdict}
use Rattle.vt_check.specs.declared.verdict.Verdict.TheVariants as verdict
use Rattle.vt_events.specs.declared.entry.Entry.{Entry}
use Rattle.vt_check.proofs.checking.watch.Goals as goal

pub returns-in-Some-clause-judges : goal.returns-in-Some-clause-judges
returns-in-Some-clause-judges g c =
    let o : Setup = setup_of c.args.s.now in
    let entries : List Entry = c.as_slice-entries.result.now in
    let here : slice_get entries c.loop-i.i ≡ Some c.index-entries-i.result =
    slice_get_read entries (length entries) c.loop-i.i c.index-entries-i.result refl c.loop-i-test.true
    c.index-entries-i.is in
    let fails = rw c.in-Some.is at c.in_ok-why.ensures.fails in
    subst (λ list. Judges o list c.args.j.now.tail (verdict.Illegal c.loop-i.i c.in-Some.why))
    c.as_slice-entries.ensures.same
    (EntryFails c.loop-i.i c.in-Some.why c.index-entries-i.result c.loop-i.invariant.after.passed here
    (fails o (take c.loop-i.i entries) c.loop-i.invariant.after))

pub see-requires : goal.see-requires
see-requires g c =
    let o : Setup = setup_of c.args.s.now in
    let entries : List Entry = c.as_slice-entries.result.now in
    let passes = rw c.in_default.is at c.in_ok-why.ensures.passes in
    record {
      first = c.args.witness.now;
      start = start_of c.args.s.now;
      before = take c.loop-i.i entries;
      seen = c.loop-i.invariant.saw;
      next =
          next_entry o entries c.loop-i.i c.index-entries-i.result c.judge.new.self c.loop-i-test.true
          (passes o (take c.loop-i.i entries) c.loop-i.invariant.after);
    }

pub loop-i-preserved : goal.loop-i-preserved
loop-i-preserved g c =
    let o : Setup = setup_of c.args.s.now in
    let entries : List Entry = c.as_slice-entries.result.now in
    let front : List Entry = take c.loop-i.i entries in
    let here : slice_get entries c.loop-i.i ≡ Some c.index-entries-i.result =
    slice_get_read entries (length entries) c.loop-i.i c.index-entries-i.result refl c.loop-i-test.true
    c.index-entries-i.is in
    let more = sym (next_take entries c.loop-i.i c.index-entries-i.result here) in
    let passes = rw c.in_default.is at c.in_ok-why.ensures.passes in
    let after = passes o front c.loop-i.invariant.after in
    record {
      after = subst (λ h. IsAfter o h c.judge.new.self) more after;
      saw =
          subst (λ h. g.W.Witness.saw c.args.witness.now (start_of c.args.s.now) h c.see.new.self) more
          (c.in_ok-see.ensures.seen c.args.witness.now (start_of c.args.s.now) front c.loop-i.invariant.saw
          (next_entry o entries c.loop-i.i c.index-entries-i.result c.judge.new.self c.loop-i-test.true after));
    }

pub returns-in-Some-2-clause-judges : goal.returns-in-Some-2-clause-judges
returns-in-Some-2-clause-judges g c =
    let o : Setup = setup_of c.args.s.now in
    let entries : List Entry = c.as_slice-entries.result.now in
    let after : IsAfter o entries c.loop-i.judge =
    subst (λ h. IsAfter o h c.loop-i.judge) (take_all c.loop-i.i entries c.loop-i-test.false)
    c.loop-i.invariant.after in
    let fails = rw c.in-Some-2.is at c.in_ok-why-2.ensures.fails in
    subst (λ list. Judges o list c.args.j.now.tail (verdict.Illegal (length entries) c.in-Some-2.why))
    c.as_slice-entries.ensures.same
    (AtEnd c.in-Some-2.why after.passed (fails o entries after))

pub returns-clause-judges : goal.returns-clause-judges
returns-clause-judges g c =
    let o : Setup = setup_of c.args.s.now in
    let entries : List Entry = c.as_slice-entries.result.now in
    let after : IsAfter o entries c.loop-i.judge =
    subst (λ h. IsAfter o h c.loop-i.judge) (take_all c.loop-i.i entries c.loop-i-test.false)
    c.loop-i.invariant.after in
    let passes = rw c.in-None.is at c.in_ok-why-2.ensures.passes in
    subst (λ list. Judges o list c.args.j.now.tail verdict.Legal) c.as_slice-entries.ensures.same
    (Right after.passed (passes o entries after))

pub returns-clause-right : goal.returns-clause-right
returns-clause-right g c = λ legal.
    let right =
    (legal_is_right (setup_of c.args.s.now) c.args.j.now.entries c.args.j.now.tail).0
    (returns-clause-judges g c) in
    c.session_laws.ensures.right c.args.j.now.entries c.args.j.now.tail right.legal right.follows right.ends

pub returns-clause-saw : goal.returns-clause-saw
returns-clause-saw g c = λ legal.
    subst (λ h. g.W.Witness.saw c.args.witness.now (start_of c.args.s.now) h c.loop-i.witness)
    (take_all c.loop-i.i c.as_slice-entries.result.now c.loop-i-test.false ∙ c.as_slice-entries.ensures.same)
    c.loop-i.invariant.saw

-- the place of the entry that fails
abbrev place_of : Verdict → ℕ
place_of verdict.Legal = 0
place_of (verdict.Illegal index why) = index

pub returns-in-Some-clause-before : goal.returns-in-Some-clause-before
returns-in-Some-clause-before g c = λ index why same.
    let here : c.loop-i.i ≡ index = ap place_of same in
    subst (λ n. g.W.Witness.saw c.args.witness.now (start_of c.args.s.now) (take n c.args.j.now.entries) c.loop-i.witness)
    here
    (subst (λ list. g.W.Witness.saw c.args.witness.now (start_of c.args.s.now) (take c.loop-i.i list) c.loop-i.witness)
    c.as_slice-entries.ensures.same c.loop-i.invariant.saw)

pub returns-in-Some-2-clause-before : goal.returns-in-Some-2-clause-before
returns-in-Some-2-clause-before g c = λ index why same.
    let entries : List Entry = c.as_slice-entries.result.now in
    let end : length entries ≡ index = ap place_of same in
    let here : c.loop-i.i ≡ index = omega (arith, end, c.loop-i-test.false, c.loop-i.auto.i-end) in
    subst (λ n. g.W.Witness.saw c.args.witness.now (start_of c.args.s.now) (take n c.args.j.now.entries) c.loop-i.witness)
    here
    (subst (λ list. g.W.Witness.saw c.args.witness.now (start_of c.args.s.now) (take c.loop-i.i list) c.loop-i.witness)
    c.as_slice-entries.ensures.same c.loop-i.invariant.saw)

-- after an error
at_fault : {T E : Type 0} {P : Type 0} (r : Result T E) → P → OnErr r P
at_fault (Ok x) p = tt
at_fault (Err e) p = p

pub returns-in_err-judge-clause-some : goal.returns-in_err-judge-clause-some
returns-in_err-judge-clause-some g c =
    at_fault c.from_residual.result (Whole 0 (omega arith) c.requires)

pub returns-in_err-why-clause-some : goal.returns-in_err-why-clause-some
returns-in_err-why-clause-some g c =
    at_fault c.from_residual-in_err-why.result
    (subst (λ list. HasSeenSome g.W.Witness.saw g.W.Witness.saw_part c.args.witness.now (start_of c.args.s.now) list c.loop-i.witness)
    c.as_slice-entries.ensures.same
    (Whole c.loop-i.i (omega (arith, c.loop-i-test.true)) c.loop-i.invariant.saw))

pub returns-in_err-see-clause-some : goal.returns-in_err-see-clause-some
returns-in_err-see-clause-some g c =
    let o : Setup = setup_of c.args.s.now in
    let entries : List Entry = c.as_slice-entries.result.now in
    let front : List Entry = take c.loop-i.i entries in
    let here : slice_get entries c.loop-i.i ≡ Some c.index-entries-i.result =
    slice_get_read entries (length entries) c.loop-i.i c.index-entries-i.result refl c.loop-i-test.true
    c.index-entries-i.is in
    let passes = rw c.in_default.is at c.in_ok-why.ensures.passes in
    at_fault c.from_residual-in_err-see.result
    (subst (λ list. HasSeenSome g.W.Witness.saw g.W.Witness.saw_part c.args.witness.now (start_of c.args.s.now) list c.see.new.self)
    c.as_slice-entries.ensures.same
    (Part c.loop-i.i c.index-entries-i.result here
    (c.in_err-see.ensures.part c.args.witness.now (start_of c.args.s.now) front c.loop-i.invariant.saw
    (next_entry o entries c.loop-i.i c.index-entries-i.result c.judge.new.self c.loop-i-test.true
    (passes o front c.loop-i.invariant.after)))))

pub returns-in_err-why-2-clause-some : goal.returns-in_err-why-2-clause-some
returns-in_err-why-2-clause-some g c =
    at_fault c.from_residual-in_err-why-2.result
    (subst (λ list. HasSeenSome g.W.Witness.saw g.W.Witness.saw_part c.args.witness.now (start_of c.args.s.now) list c.loop-i.witness)
    c.as_slice-entries.ensures.same
    (Whole c.loop-i.i (omega (arith, c.loop-i-test.false, c.loop-i.auto.i-end)) c.loop-i.invariant.saw))
