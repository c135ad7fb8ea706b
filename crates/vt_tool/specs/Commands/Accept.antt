-- The outcome of `accept` for a journal of a session and the text after it: whether the text is the journal's
-- certificate. This project's own: docs/reference/explain.md.
use Rattle.std.specs.Prelude.{◌≡◌, ℕ, List, [], ◌∷◌, codes, decimal, length, Result, Ok, Err}
use Rattle.session_order.specs.Sessions.{setup_of}
use Rattle.session_text.specs.Sessions.{SessionView}
use Rattle.vt_explain.specs.Accepting.{Accepts}
use Rattle.vt_explain.specs.CertText.{CertSays}
use Rattle.vt_explain.specs.declared.hop_why.HopWhy.{HopWhy}
use Rattle.vt_explain.specs.declared.judged.Judged.{Judged}
use Rattle.vt_explain.specs.declared.judged.Judged.TheVariants as judged
use Rattle.vt_journal.specs.Journal.{line_text}
use Rattle.vt_journal.specs.declared.journal.Journal.{Journal}
use Rattle.vt_tool.specs.Outcome.{Outcome, fine_text, no_text}
use Rattle.vt_tool.specs.declared.status.Status.TheVariants as status

-- the fault code of a certificate
abbrev pub BAD_CERT : ℕ
BAD_CERT = 45

-- the reason of status 8 if the certificate isn't accepted
abbrev pub BAD_ITEM : ℕ
BAD_ITEM = 6

-- the outcome for this many items
abbrev pub accept_outcome : ℕ → Judged → Outcome
accept_outcome items judged.Yes = fine_text (line_text (codes "accepted" ∷ decimal items ∷ []))
accept_outcome items (judged.No index) = no_text (status.Illegal index BAD_ITEM)
accept_outcome items (judged.Illegal index why) = no_text (status.Illegal index why)

-- the outcome for these items: their number if they are the certificate of a legal journal; else the first
-- wrong item, or the verdict
pub record IsAnswered (c : List HopWhy) (s : SessionView) (j : Journal) (outcome : Outcome) : Type 0 where
  pub judged : Judged
  pub accepts : Accepts (setup_of s) j.entries j.tail c judged
  pub is : outcome ≡ accept_outcome (length c) judged

-- the outcome for a text that was read as a certificate: that of its items, or its first fault, in column 1
abbrev pub ComesOfCert : Result (List HopWhy) ℕ → SessionView → Journal → Outcome → Type 0
ComesOfCert (Ok c) s j outcome = IsAnswered c s j outcome
ComesOfCert (Err line) s j outcome = outcome ≡ no_text (status.Refused BAD_CERT line 1)

-- the outcome for this text as a certificate; an empty text is refused
abbrev pub IsAccepted : List ℕ → SessionView → Journal → Outcome → Type 0
IsAccepted [] s j outcome = outcome ≡ no_text (status.Refused BAD_CERT 0 0)
IsAccepted (b ∷ more) s j outcome =
    (said : Result (List HopWhy) ℕ) × CertSays (b ∷ more) said × ComesOfCert said s j outcome
