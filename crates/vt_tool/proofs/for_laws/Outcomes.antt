-- The commands over a session and a journal give one outcome for an input.
use Rattle.std.proofs.Common.{refl, ◌≡◌, ℕ, inl, inr, List, [], ◌∷◌, length, Result, Ok, Err, sym, ap, ◌∙◌, subst}
use Rattle.key_compile.specs.Compiled.{OneValue}
use Rattle.session_order.specs.Ends.{Setup}
use Rattle.session_order.specs.Sessions.{setup_of, start_of}
use Rattle.session_text.specs.Sessions.{IsSessionOf, OneSession, SessionValue, SessionView, session_says}
use Rattle.table_fields.specs.declared.fault.TableFault.{TableFault}
use Rattle.vt_check.specs.Verdicts.{Judges, OneVerdict}
use Rattle.vt_check.specs.declared.verdict.Verdict.{Verdict}
use Rattle.vt_check.specs.declared.verdict.Verdict.TheVariants.{Legal, Illegal}
use Rattle.vt_events.specs.declared.entry.Entry.{Entry}
use Rattle.vt_explain.specs.Accepting.{Accepts, OneAcceptance}
use Rattle.vt_explain.specs.CertText.{OneCert, cert_text}
use Rattle.vt_explain.specs.Certificates.{IsCertificate, OneCertificate}
use Rattle.vt_explain.specs.declared.hop_why.HopWhy.{HopWhy}
use Rattle.vt_journal.specs.Says.{JournalSays, OneJournal}
use Rattle.vt_journal.specs.declared.j_fault.JFault.{JFault}
use Rattle.vt_journal.specs.declared.journal.Journal.{Journal}
use Rattle.vt_review.specs.Announcements.{review_text}
use Rattle.vt_tool.proofs.Cuts.{one_cut}
use Rattle.vt_tool.proofs.for_laws.Setups.{one_setup, one_start}
use Rattle.vt_tool.specs.Commands.Accept.{ComesOfCert, IsAnswered, accept_outcome}
use Rattle.vt_tool.specs.Commands.Check.{legal_text}
use Rattle.vt_tool.specs.Commands.Judging.{ComesOf, GivesFaultBefore, GivesMade, IsParted, IsReadAs, MakesOf, OneOutcomeOf}
use Rattle.vt_tool.specs.Commands.Review.{ear_of}
use Rattle.vt_tool.specs.Commands.Judged.{judged_text}
use Rattle.vt_tool.specs.Outcome.{Outcome}
use Rattle.vt_tool.specs.declared.commands.judge_request.JudgeRequest.{JudgeRequest}
use Rattle.vt_tool.specs.declared.commands.judge_request.JudgeRequest.TheVariants as asked
use Rattle.vt_tool.specs.declared.commands.cut.CutMark.TheVariants as mark
use Rattle.vt_world.specs.Laws.{moments}
use Rattle.vt_world.specs.State.{WorldState}

-- a journal has one outcome in sessions that begin alike
abbrev pub OneMade : JudgeRequest → Type 0
OneMade asked =
    (cert : List ℕ) (s t : SessionView) (j : Journal) (a b : Outcome) → setup_of s ≡ setup_of t
    → MakesOf asked cert s j a → MakesOf asked cert t j b → a ≡ b

-- one verdict
same_verdict : OneVerdict → (s t : SessionView) (j : Journal) (v w : Verdict)
    → setup_of s ≡ setup_of t → Judges (setup_of s) j.entries j.tail v
    → Judges (setup_of t) j.entries j.tail w → v ≡ w
same_verdict one_verdict s t j v w same mine yours =
    one_verdict (setup_of t) j.entries j.tail v w
    (subst (λ (o : Setup). Judges o j.entries j.tail v) same mine) yours

pub one_judged : OneVerdict → OneMade asked.Verdict
one_judged one_verdict cert s t j a b same x y =
    x.is
    ∙ ap (judged_text (legal_text (length j.entries)))
    (same_verdict one_verdict s t j x.verdict y.verdict same x.judged y.judged)
    ∙ sym y.is

pub one_reviewed : OneVerdict → (kinds console : ℕ) → OneMade (asked.Review kinds console)
one_reviewed one_verdict kinds console cert s t j a b same x y =
    x.is
    ∙ ap (λ (w : WorldState). judged_text (review_text (ear_of kinds console ∷ []) 0 w j.entries) x.verdict)
    (one_start s t same)
    ∙ ap (judged_text (review_text (ear_of kinds console ∷ []) 0 (start_of t) j.entries))
    (same_verdict one_verdict s t j x.verdict y.verdict same x.judged y.judged)
    ∙ sym y.is

-- the certificate is one if the journal is legal
same_told : OneCertificate → (start start' : WorldState) (entries : List Entry) (c d : List HopWhy)
    (v : Verdict) → start ≡ start'
    → (v ≡ Legal → IsCertificate (moments start entries) c)
    → (v ≡ Legal → IsCertificate (moments start' entries) d)
    → judged_text (cert_text c) v ≡ judged_text (cert_text d) v
same_told one_certificate start start' entries c d Legal same x y =
    ap (λ (items : List HopWhy). judged_text (cert_text items) Legal)
    (one_certificate (moments start' entries) c d
    (subst (λ (w : WorldState). IsCertificate (moments w entries) c) same (x refl)) (y refl))
same_told one_certificate start start' entries c d (Illegal index why) same x y = refl

pub one_explained : OneVerdict → OneCertificate → OneMade asked.Explanation
one_explained one_verdict one_certificate cert s t j a b same x y =
    let verdicts : x.verdict ≡ y.verdict =
    same_verdict one_verdict s t j x.verdict y.verdict same x.judged y.judged in
    x.is
    ∙ ap (judged_text (cert_text x.items)) verdicts
    ∙ same_told one_certificate (start_of s) (start_of t) j.entries x.items y.items y.verdict
    (one_start s t same) (λ legal. x.cert (verdicts ∙ legal)) y.cert
    ∙ sym y.is

one_accept_outcome : OneAcceptance → (c : List HopWhy) (s t : SessionView) (j : Journal) (a b : Outcome)
    → setup_of s ≡ setup_of t → IsAnswered c s j a → IsAnswered c t j b → a ≡ b
one_accept_outcome one_acceptance c s t j a b same x y =
    x.is
    ∙ ap (accept_outcome (length c))
    (one_acceptance (setup_of t) j.entries j.tail c x.judged y.judged
    (subst (λ (o : Setup). Accepts o j.entries j.tail c x.judged) same x.accepts) y.accepts)
    ∙ sym y.is

one_of_cert : OneAcceptance → (said : Result (List HopWhy) ℕ) (s t : SessionView) (j : Journal)
    (a b : Outcome) → setup_of s ≡ setup_of t → ComesOfCert said s j a → ComesOfCert said t j b → a ≡ b
one_of_cert one_acceptance (Ok c) s t j a b same x y = one_accept_outcome one_acceptance c s t j a b same x y
one_of_cert one_acceptance (Err line) s t j a b same x y = x ∙ sym y

pub one_accepted : OneAcceptance → OneCert → OneMade asked.Acceptance
one_accepted one_acceptance one_cert [] s t j a b same x y = x ∙ sym y
one_accepted one_acceptance one_cert (b ∷ more) s t j a c same (said, says, comes) (said', says', comes') =
    one_of_cert one_acceptance said' s t j a c same
    (subst (λ (r : Result (List HopWhy) ℕ). ComesOfCert r s j a)
    (one_cert (b ∷ more) said said' says says') comes) comes'

-- the text after a session is split in one way
one_parted : (what : JudgeRequest) (after a b c d : List ℕ) → IsParted what after a b
    → IsParted what after c d → (a ≡ c) × (b ≡ d)
one_parted asked.Acceptance after a b c d x y = one_cut mark.Certificate after a b c d x y
one_parted asked.Verdict after a b c d x y = (x.0 ∙ sym y.0, x.1 ∙ sym y.1)
one_parted (asked.Review kinds console) after a b c d x y = (x.0 ∙ sym y.0, x.1 ∙ sym y.1)
one_parted asked.Explanation after a b c d x y = (x.0 ∙ sym y.0, x.1 ∙ sym y.1)

module _ (one_session : OneSession) (one_value : OneValue) (one_journal : OneJournal) (what : JudgeRequest)
    (one_made : OneMade what)
  where
    one-comes : (cert : List ℕ) (s t : SessionView) (read : Result Journal JFault) (a b : Outcome)
        → setup_of s ≡ setup_of t → ComesOf what cert s read a → ComesOf what cert t read b → a ≡ b
    one-comes cert s t (Ok j) a b same x y = one_made cert s t j a b same x y
    one-comes cert s t (Err fault) a b same x y = x ∙ sym y

    one-read : (s t : SessionView) (after : List ℕ) (a b : Outcome) → setup_of s ≡ setup_of t
        → IsReadAs what s after a → IsReadAs what t after b → a ≡ b
    one-read s t after a b same x y =
        let (journals, certs) =
        one_parted what after x.journal x.cert y.journal y.cert x.parted y.parted in
        let reads : x.read ≡ y.read =
        one_journal y.journal x.read y.read
        (subst (λ (text : List ℕ). JournalSays text x.read) journals x.says) y.says in
        one-comes y.cert s t y.read a b same
        (subst (λ (cert : List ℕ). ComesOf what cert s y.read a) certs
        (subst (λ (r : Result Journal JFault). ComesOf what x.cert s r a) reads x.comes)) y.comes

    -- the text of a session determines the rest
    one-said : (x y : List ℕ) → x ≡ y → (p q : Result SessionValue TableFault) → session_says x p
        → session_says y q → p ≡ q
    one-said x y same p q said said' =
        one_session y p q (subst (λ (t : List ℕ). session_says t p) same said) said'

    both-made : (input : List ℕ) (a b : Outcome) → GivesMade what input a → GivesMade what input b
        → a ≡ b
    both-made input a b x y =
        let (texts, afters) =
        one_cut mark.Journal input x.text x.after y.text y.after x.cut y.cut in
        let oks : Ok x.value ≡ Ok y.value =
        one-said x.text y.text texts (Ok x.value) (Ok y.value) x.said y.said in
        let values : x.value ≡ y.value = cc in
        let is : IsSessionOf x.session y.value =
        subst (λ (v : SessionValue). IsSessionOf x.session v) values x.is in
        one-read x.session y.session y.after a b
        (one_setup one_value y.value x.session y.session is y.is)
        (subst (λ (j : List ℕ). IsReadAs what x.session j a) afters x.read) y.read

    not-both : (input : List ℕ) (a b : Outcome) → GivesMade what input a → GivesFaultBefore input b → ⊥
    not-both input a b x y =
        let (texts, afters) =
        one_cut mark.Journal input x.text x.after y.text y.after x.cut y.cut in
        let clash : Ok x.value ≡ Err y.refused.fault =
        one-said x.text y.text texts (Ok x.value) (Err y.refused.fault) x.said y.refused.found in
        let impossible : ⊥ = cc in
        impossible

    both-refused : (input : List ℕ) (a b : Outcome) → GivesFaultBefore input a
        → GivesFaultBefore input b → a ≡ b
    both-refused input a b x y =
        let (texts, afters) =
        one_cut mark.Journal input x.text x.after y.text y.after x.cut y.cut in
        let errs : Err x.refused.fault ≡ Err y.refused.fault =
        one-said x.text y.text texts (Err x.refused.fault) (Err y.refused.fault) x.refused.found
        y.refused.found in
        let faults : x.refused.fault ≡ y.refused.fault = cc in
        let mine = x.refused.refused in
        let yours = y.refused.refused in
        cc

    pub one_outcome : OneOutcomeOf what
    one_outcome input a b (inl x) (inl y) = both-made input a b x y
    one_outcome input a b (inl x) (inr y) = absurd (not-both input a b x y)
    one_outcome input a b (inr x) (inl y) = absurd (not-both input b a y x)
    one_outcome input a b (inr x) (inr y) = both-refused input a b x y
