use Rattle.std.proofs.Common.{◌≡◌, List, subst, ◌∙◌}
use Rattle.session_order.specs.Sessions.{start_of}
use Rattle.vt_events.specs.declared.entry.Entry.{Entry}
use Rattle.vt_explain.specs.Certificates.{IsCertificate}
use Rattle.vt_free.specs.Verdicts.{JudgesFree}
use Rattle.vt_free.specs.declared.free_verdict.FreeVerdict.{FreeVerdict}
use Rattle.vt_journal.specs.declared.limits.Limits.{Limits}
use Rattle.vt_journal.specs.declared.tail.Tail.{Tail}
use Rattle.vt_world.specs.Laws.{moments}
use Rattle.vt_world.specs.State.{WorldState}
use Rattle.watch.specs.Texts.{watch_text}
use Rattle.watch.proofs.free.free_text.Goals as goal

-- the verdict on the same journal of the same start
judged : (a b : WorldState) (l m : Limits) (es fs : List Entry) (end : Tail) (v w : FreeVerdict)
    → a ≡ b → l ≡ m → es ≡ fs → v ≡ w → JudgesFree a l es end v → JudgesFree b m fs end w
judged a b l m es fs end v w starts limits entries verdicts judges =
    subst (λ (x : WorldState). JudgesFree x m fs end w) starts
    (subst (λ (x : Limits). JudgesFree a x fs end w) limits
    (subst (λ (x : List Entry). JudgesFree a l x end w) entries
    (subst (λ (x : FreeVerdict). JudgesFree a l es end x) verdicts judges)))

pub returns-in_ok-text-in-Legal-clause-judges : goal.returns-in_ok-text-in-Legal-clause-judges
returns-in_ok-text-in-Legal-clause-judges c =
    judged c.in_ok-start_of.field-0 _ c.limits.result _ c.as_slice-entries.result.now _ c.args.j.now.tail
    c.in_ok-judge.field-0 _ c.in_ok-start_of.ensures c.limits.ensures.same c.as_slice-entries.ensures.same c.in-Legal.is
    c.in_ok-judge.ensures.judges

pub returns-in_ok-text-in-Legal-clause-text : goal.returns-in_ok-text-in-Legal-clause-text
returns-in_ok-text-in-Legal-clause-text c = record {
  cert = c.in_ok-cert-in-Legal.cert.items;
  good =
      subst (λ (w : WorldState). IsCertificate (moments w c.args.j.now.entries) c.in_ok-cert-in-Legal.cert.items)
      c.in_ok-start_of-in-Legal.ensures
      (subst (λ (es : List Entry). IsCertificate (moments c.in_ok-start_of-in-Legal.field-0 es) c.in_ok-cert-in-Legal.cert.items)
      c.as_slice-entries.ensures.same c.in_ok-cert-in-Legal.ensures.cert);
  text_is =
      c.in_ok-text-in-Legal.ensures
      ∙ (λ k. watch_text c.args.form (c.as_slice.ensures.value k) (c.in_ok-world-in-Legal.ensures k) (c.as_slice-entries.ensures.same k));
}

pub returns-in-Illegal-clause-judges : goal.returns-in-Illegal-clause-judges
returns-in-Illegal-clause-judges c =
    judged c.in_ok-start_of.field-0 _ c.limits.result _ c.as_slice-entries.result.now _ c.args.j.now.tail
    c.in_ok-judge.field-0 _ c.in_ok-start_of.ensures c.limits.ensures.same c.as_slice-entries.ensures.same
    c.in-Illegal.is c.in_ok-judge.ensures.judges
