-- The result of watching a journal. This project's own.
use Rattle.std.specs.Prelude.{◌≡◌, ⊤, ℕ, List}
use Rattle.watch.specs.Texts.{watch_text}
use Rattle.watch.specs.declared.form.Form.{Form}
use Rattle.watch.specs.declared.watched.Watched.{Watched}
use Rattle.watch.specs.declared.watched.Watched.TheVariants as watched
use Rattle.vt_check.specs.declared.verdict.Verdict.{Verdict}
use Rattle.vt_check.specs.declared.verdict.Verdict.TheVariants as verdict
use Rattle.vt_events.specs.declared.entry.Entry.{Entry}
use Rattle.vt_explain.specs.Certificates.{IsCertificate}
use Rattle.vt_explain.specs.declared.hop_why.HopWhy.{HopWhy}
use Rattle.vt_free.specs.declared.free_verdict.FreeVerdict.{FreeVerdict}
use Rattle.vt_free.specs.declared.free_verdict.FreeVerdict.TheVariants as free
use Rattle.vt_world.specs.Laws.{moments}
use Rattle.vt_world.specs.State.{WorldState}

-- the text is that of the history, by its certificate
pub record IsWatched (f : Form) (start : WorldState) (entries : List Entry) (text : List ℕ) : Type 0 where
  pub cert : List HopWhy
  pub good : IsCertificate (moments start entries) cert
  pub text_is : text ≡ watch_text f cert start entries

-- the verdict on the journal
abbrev pub verdict_of : Watched → Verdict
verdict_of (watched.Text text) = verdict.Legal
verdict_of (watched.Illegal index why) = verdict.Illegal index why

-- the same of a free journal
abbrev pub free_verdict_of : Watched → FreeVerdict
free_verdict_of (watched.Text text) = free.Legal
free_verdict_of (watched.Illegal index why) = free.Illegal index why

-- a property of the text, if the journal is legal
abbrev pub IfText : Watched → (List ℕ → Type 0) → Type 0
IfText (watched.Text text) says = says text.bytes
IfText (watched.Illegal index why) says = ⊤
