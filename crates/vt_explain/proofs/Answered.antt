-- The answer on a list of items.
use Rattle.std.proofs.Common.{◌≡◌, ◌<◌, ◌≤◌, ℕ, Bool, true, false, true≢false, List, length, Some, refl, sym, ap, subst, ◌∙◌, ⊎_elim, arith}
use Rattle.std.specs.Prelude.{slice_get}
use Rattle.std.proofs.lemmas.Bool.{cases_lt}
use Rattle.std.proofs.lemmas.Option.{none-some, slice_get_past, slice_get_within}
use Rattle.session_order.specs.Ends.{Setup}
use Rattle.vt_check.specs.Verdicts.{Judges, OneVerdict}
use Rattle.vt_check.specs.declared.verdict.Verdict.{Verdict}
use Rattle.vt_check.specs.declared.verdict.Verdict.TheVariants as verdict
use Rattle.vt_events.specs.declared.entry.Entry.{Entry}
use Rattle.vt_explain.proofs.Certified.{certificate_is, certificates_are_good, good_is_found, one_first_bad}
use Rattle.vt_explain.proofs.Places.{HasAt, get_some, same_lists}
use Rattle.vt_explain.specs.Accepting.{Accepts, Compares, DiffersAt, OneAcceptance}
use Rattle.vt_explain.specs.Certificates.{Good, IsCertificate, IsFirstBad}
use Rattle.vt_explain.specs.declared.hop_why.HopWhy.{HopWhy}
use Rattle.vt_explain.specs.declared.judged.Judged.{Judged}
use Rattle.vt_explain.specs.declared.judged.Judged.TheVariants as judged
use Rattle.vt_journal.specs.declared.tail.Tail.{Tail}
use Rattle.vt_switch.specs.Moments.{Moment}
use Rattle.vt_switch.specs.News.{OneNewsIsTold}
use Rattle.vt_world.specs.Laws.{moments}

abbrev is_legal : Verdict → Bool
is_legal verdict.Legal = true
is_legal (verdict.Illegal index why) = false

abbrev as_judged : Verdict → Judged
as_judged verdict.Legal = judged.Yes
as_judged (verdict.Illegal index why) = judged.Illegal index why

apart : {X : Type 0} (index why : ℕ) → verdict.Legal ≡ verdict.Illegal index why → X
apart index why same = absurd (true≢false (ap is_legal same))

pub one_acceptance : OneVerdict → OneAcceptance
one_acceptance law o entries end c judged.Yes judged.Yes is also = refl
one_acceptance law o entries end c judged.Yes (judged.No index) is also =
    absurd (certificates_are_good (moments o.start entries) c index is.1 also.1)
one_acceptance law o entries end c judged.Yes (judged.Illegal index why) is also =
    apart index why (law o entries end verdict.Legal (verdict.Illegal index why) is.0 also)
one_acceptance law o entries end c (judged.No index) judged.Yes is also =
    absurd (certificates_are_good (moments o.start entries) c index also.1 is.1)
one_acceptance law o entries end c (judged.No i) (judged.No j) is also =
    ap judged.No (one_first_bad (moments o.start entries) c i j is.1 also.1)
one_acceptance law o entries end c (judged.No i) (judged.Illegal index why) is also =
    apart index why (law o entries end verdict.Legal (verdict.Illegal index why) is.0 also)
one_acceptance law o entries end c (judged.Illegal index why) judged.Yes is also =
    apart index why (law o entries end verdict.Legal (verdict.Illegal index why) also.0 is)
one_acceptance law o entries end c (judged.Illegal index why) (judged.No j) is also =
    apart index why (law o entries end verdict.Legal (verdict.Illegal index why) also.0 is)
one_acceptance law o entries end c (judged.Illegal i why) (judged.Illegal j other) is also =
    ap as_judged (law o entries end (verdict.Illegal i why) (verdict.Illegal j other) is also)

-- each good item is in the certificate
stands : OneNewsIsTold → (h : List Moment) (made : List HopWhy) → IsCertificate h made
    → (k : ℕ) (w : HopWhy) → Good h k w → slice_get made k ≡ Some w
stands law h made cert k w good =
    ap (λ (items : List HopWhy). slice_get items k) (certificate_is law h made cert)
    ∙ good_is_found law h k w good

first_bad : OneNewsIsTold → (h : List Moment) (made c : List HopWhy) (index : ℕ) → IsCertificate h made
    → DiffersAt made c index → IsFirstBad h c index
first_bad law h made c index cert differs = record {
  before = λ k w less is. cert.items k w (differs.before k less ∙ is);
  within = differs.within;
  here = λ w is good. differs.here (stands law h made cert index w good ∙ sym is);
  missing = λ end. ⊎_elim
      (λ less. omega (arith, less, end, cert.count))
      (λ past.
      absurd
      (differs.here
      (slice_get_past made index past
      ∙ sym (slice_get_past c index (let long : length c ≤ index = omega (arith, end) in long)))))
      (cases_lt index (length made));
}

-- the list that is made is compared
pub compared : OneNewsIsTold → (o : Setup) (entries : List Entry) (end : Tail) (made c : List HopWhy) (j : Judged)
    → Judges o entries end verdict.Legal → IsCertificate (moments o.start entries) made
    → Compares made c j → Accepts o entries end c j
compared law o entries end made c judged.Yes legal cert same =
    (legal, subst (IsCertificate (moments o.start entries)) same cert)
compared law o entries end made c (judged.No index) legal cert differs =
    (legal, first_bad law (moments o.start entries) made c index cert differs)
compared law o entries end made c (judged.Illegal index why) legal cert none = absurd none

-- lists that agree at all places
pub same_all : (made c : List HopWhy) (n : ℕ) → length made ≤ n → length c ≤ length made
    → ((k : ℕ) → k < n → slice_get made k ≡ slice_get c k) → made ≡ c
same_all made c n past few each =
    let many : length made ≡ length c =
    ⊎_elim
    (λ less.
    let has : HasAt made (length c) = get_some made (length c) less in
    absurd
    (none-some has.element
    (sym (slice_get_past c (length c) (let all : length c ≤ length c = omega arith in all))
    ∙ sym (each (length c) (omega (arith, less, past))) ∙ has.is)))
    (λ other. omega (arith, other, few)) (cases_lt (length c) (length made)) in
    same_lists made c many
    (λ k x is.
    sym (each k (omega (arith, past, slice_get_within made k x is))) ∙ is)
