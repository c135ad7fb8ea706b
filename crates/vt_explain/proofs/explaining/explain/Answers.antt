use Rattle.std.proofs.Common.{◌≡◌, List, sym, ap, subst, ◌∙◌}
use Rattle.std.specs.Prelude.{count_by}
use Rattle.session_order.specs.Sessions.{setup_of, start_of}
use Rattle.vt_check.proofs.Stated.{one_verdict-one}
use Rattle.vt_check.specs.Verdicts.{Judges}
use Rattle.vt_explain.proofs.Certified.{certificate_is, found_is}
use Rattle.vt_explain.specs.Certificates.{IsCertificate}
use Rattle.vt_explain.specs.Finding.{Known, is_at, known_after}
use Rattle.vt_switch.proofs.Stated.{acts_tell_one_thing-hop, acts_tell_one_thing-news}
use Rattle.vt_switch.specs.Moments.{Moment}
use Rattle.vt_world.specs.Laws.{moments}
use Rattle.vt_explain.proofs.explaining.explain.Goals as goal

abbrev history : goal.After-into_items → List Moment
history c = moments (start_of c.args.s.now) c.args.j.now.entries

found : (c : goal.After-into_items) → c.into_items.result.items ≡ (known_after (history c)).items
found c =
    c.into_items.ensures ∙ ap (λ (k : Known). k.items) (c.in_ok-verdict.ensures.saw c.in-Legal.is).known_is

pub watch-requires : goal.watch-requires
watch-requires c = record {
  known_is = c.new-reader.ensures;
  fresh = λ j above. ap (λ (k : Known). count_by (is_at j) k.items) c.new-reader.ensures;
}

pub returns-in-Legal-clause-judges : goal.returns-in-Legal-clause-judges
returns-in-Legal-clause-judges c =
    subst (Judges (setup_of c.args.s.now) c.args.j.now.entries c.args.j.now.tail) c.in-Legal.is
    c.in_ok-verdict.ensures.judges

pub returns-in-Legal-clause-verdict : goal.returns-in-Legal-clause-verdict
returns-in-Legal-clause-verdict c = λ v is.
    one_verdict-one (setup_of c.args.s.now) c.args.j.now.entries c.args.j.now.tail v
    c.in_ok-verdict.verdict is c.in_ok-verdict.ensures.judges
    ∙ c.in-Legal.is

pub returns-in-Legal-clause-cert : goal.returns-in-Legal-clause-cert
returns-in-Legal-clause-cert c =
    subst (IsCertificate (history c)) (sym (found c))
    (found_is acts_tell_one_thing-news acts_tell_one_thing-hop (history c)
    (c.in_ok-verdict.ensures.right c.in-Legal.is).lawful)

pub returns-in-Legal-clause-only : goal.returns-in-Legal-clause-only
returns-in-Legal-clause-only c = λ other is.
    certificate_is acts_tell_one_thing-news (history c) other is ∙ sym (found c)

pub returns-in-Illegal-clause-judges : goal.returns-in-Illegal-clause-judges
returns-in-Illegal-clause-judges c =
    subst (Judges (setup_of c.args.s.now) c.args.j.now.entries c.args.j.now.tail) c.in-Illegal.is
    c.in_ok-verdict.ensures.judges

pub returns-in-Illegal-clause-verdict : goal.returns-in-Illegal-clause-verdict
returns-in-Illegal-clause-verdict c = λ v is.
    one_verdict-one (setup_of c.args.s.now) c.args.j.now.entries c.args.j.now.tail v
    c.in_ok-verdict.verdict is c.in_ok-verdict.ensures.judges
    ∙ c.in-Illegal.is
