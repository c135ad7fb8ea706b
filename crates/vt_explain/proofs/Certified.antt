-- Certificates: each lawful history has one, which is found; and a history that has one is lawful.
use Rattle.std.proofs.Common.{◌≡◌, ◌<◌, ⊎_elim, ℕ, List, length, take, Some, refl, sym, ap, subst, ◌∙◌, arith}
use Rattle.std.specs.Prelude.{slice_get}
use Rattle.std.proofs.lemmas.Option.{same_Some, slice_get_within}
use Rattle.std.proofs.lemmas.Bool.{cases_lt}
use Rattle.vt_explain.proofs.Causes.{SomeCause, cause_is, causes, lawful}
use Rattle.vt_explain.proofs.Knowing.{Finds, finds_all, item}
use Rattle.vt_explain.proofs.Places.{HasAt, get_some, same_lists}
use Rattle.vt_explain.specs.Certificates.{CertificatesAreGood, CertificatesExplain, Good, IsCertificate, IsFirstBad, OneCertificate, OneFirstBad}
use Rattle.vt_explain.specs.Finding.{known_after}
use Rattle.vt_explain.specs.Hops.{timed_hops}
use Rattle.vt_explain.specs.declared.hop_why.HopWhy.{HopWhy}
use Rattle.vt_switch.specs.Law.{HopsAreDue, IsLawful}
use Rattle.vt_switch.specs.Moments.{Moment}
use Rattle.vt_switch.specs.News.{OneHopIsTold, OneNewsIsTold}

-- a good item is the one that is found
good_is : (h : List Moment) (k : ℕ) (w : HopWhy) (good : Good h k w)
    → w ≡ item (take k (timed_hops h)) good.hop
good_is h k w good = λ j. record {
  at = good.at j;
  nth = good.nth j;
  from = good.from j;
  to = good.to j;
  cause = cause_is good.hop good.hop.hop.cause w.cause good.cause j;
}

pub good_is_found : OneNewsIsTold → (h : List Moment) (k : ℕ) (w : HopWhy) → Good h k w
    → slice_get (known_after h).items k ≡ Some w
good_is_found law h k w good =
    (finds_all law h).each k good.hop good.kth ∙ ap Some (sym (good_is h k w good))

pub certificate_is : OneNewsIsTold → (h : List Moment) (c : List HopWhy) → IsCertificate h c
    → c ≡ (known_after h).items
certificate_is law h c is =
    same_lists c (known_after h).items (is.count ∙ sym (finds_all law h).many)
    (λ k w at. good_is_found law h k w (is.items k w at))

pub one_certificate : OneNewsIsTold → OneCertificate
one_certificate law h c d is_c is_d =
    certificate_is law h c is_c ∙ sym (certificate_is law h d is_d)

-- the items that are found for a lawful history are a certificate
found_good : OneNewsIsTold → OneHopIsTold → (h : List Moment) → IsLawful h → (k : ℕ) (w : HopWhy)
    → slice_get (known_after h).items k ≡ Some w → Good h k w
found_good law one h is_lawful k w is =
    let finds : Finds (timed_hops h) (known_after h).items = finds_all law h in
    let has : HasAt (timed_hops h) k =
    get_some (timed_hops h) k
    (omega (arith, finds.many, slice_get_within (known_after h).items k w is)) in
    let same : item (take k (timed_hops h)) has.element ≡ w =
    same_Some (item (take k (timed_hops h)) has.element) w
    (sym (finds.each k has.element has.is) ∙ is) in
    subst (Good h k) same
    (record {
      hop = has.element;
      kth = has.is;
      at = refl;
      nth = refl;
      from = refl;
      to = refl;
      cause = causes one h is_lawful k has.element has.is;
    })

pub found_is : OneNewsIsTold → OneHopIsTold → (h : List Moment) → IsLawful h
    → IsCertificate h (known_after h).items
found_is law one h is_lawful = record {
  count = (finds_all law h).many;
  items = found_good law one h is_lawful;
}

-- a certificate proves the display law
pub certificates_explain : HopsAreDue → OneHopIsTold → CertificatesExplain
certificates_explain due one h c is =
    lawful due one h
    (λ k g at.
    let has : HasAt c k =
    get_some c k (omega (arith, is.count, slice_get_within (timed_hops h) k g at)) in
    let good : Good h k has.element = is.items k has.element has.is in
    let same : good.hop ≡ g = same_Some good.hop g (sym good.kth ∙ at) in
    subst SomeCause same (has.element.cause, good.cause))

-- no certificate has a bad place
pub certificates_are_good : CertificatesAreGood
certificates_are_good h c i is bad = ⊎_elim
    (λ within.
    let has : HasAt c i = get_some c i within in
    bad.here has.element has.is (is.items i has.element has.is))
    (λ past.
    let end : i ≡ length c = omega (arith, past, bad.within) in
    let no : ⊥ = omega (arith, bad.missing end, is.count) in no)
    (cases_lt i (length c))

-- a place before the first bad one is good
not_before : (h : List Moment) (c : List HopWhy) (i j : ℕ) → IsFirstBad h c i → IsFirstBad h c j
    → i < j → ⊥
not_before h c i j bad_i bad_j less =
    let has : HasAt c i = get_some c i (omega (arith, less, bad_j.within)) in
    bad_i.here has.element has.is (bad_j.before i has.element less has.is)

pub one_first_bad : OneFirstBad
one_first_bad h c i j bad_i bad_j = ⊎_elim
    (λ less. absurd (not_before h c i j bad_i bad_j less))
    (λ more. ⊎_elim
    (λ less. absurd (not_before h c j i bad_j bad_i less))
    (λ other. let same : i ≡ j = omega (arith, more, other) in same)
    (cases_lt j i))
    (cases_lt i j)
