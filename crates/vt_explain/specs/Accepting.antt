-- The answer about a journal's switches: the verdict comes first. This project's own.
use Rattle.std.specs.Prelude.{◌≡◌, ◌≢◌, ◌<◌, ◌≤◌, ⊤, ℕ, List, length, slice_get}
use Rattle.session_order.specs.Ends.{Setup}
use Rattle.vt_check.specs.Verdicts.{Judges}
use Rattle.vt_check.specs.declared.verdict.Verdict.{Verdict}
use Rattle.vt_check.specs.declared.verdict.Verdict.TheVariants as verdict
use Rattle.vt_events.specs.declared.entry.Entry.{Entry}
use Rattle.vt_explain.specs.Certificates.{IsCertificate, IsFirstBad}
use Rattle.vt_explain.specs.declared.explained.Explained.{Explained}
use Rattle.vt_explain.specs.declared.explained.Explained.TheVariants as explained
use Rattle.vt_explain.specs.declared.hop_why.HopWhy.{HopWhy}
use Rattle.vt_explain.specs.declared.judged.Judged.{Judged}
use Rattle.vt_explain.specs.declared.judged.Judged.TheVariants as judged
use Rattle.vt_journal.specs.declared.tail.Tail.{Tail}
use Rattle.vt_world.specs.Laws.{moments}

-- the verdict that an explanation has
abbrev pub verdict_of : Explained → Verdict
verdict_of (explained.Cert c) = verdict.Legal
verdict_of (explained.Illegal index why) = verdict.Illegal index why

-- the items, if there are any, have this property
abbrev pub IfCert : Explained → (List HopWhy → Type 0) → Type 0
IfCert (explained.Cert c) P = P c.items
IfCert (explained.Illegal index why) P = ⊤

-- the answer for a list of items: whether it is the certificate of a legal journal, otherwise its first bad
-- place; for a journal that isn't legal, the verdict
abbrev pub Accepts : Setup → List Entry → Tail → List HopWhy → Judged → Type 0
Accepts o entries end c judged.Yes =
    Judges o entries end verdict.Legal × IsCertificate (moments o.start entries) c
Accepts o entries end c (judged.No index) =
    Judges o entries end verdict.Legal × IsFirstBad (moments o.start entries) c index
Accepts o entries end c (judged.Illegal index why) =
    Judges o entries end (verdict.Illegal index why)

-- the first place at which two lists differ
pub record DiffersAt (made c : List HopWhy) (index : ℕ) : Type 0 where
  pub before : (k : ℕ) → k < index → slice_get made k ≡ slice_get c k
  pub within : index ≤ length c
  pub here : slice_get made index ≢ slice_get c index

-- two lists compared: they are the same, or there is such a place
abbrev pub Compares : List HopWhy → List HopWhy → Judged → Type 0
Compares made c judged.Yes = made ≡ c
Compares made c (judged.No index) = DiffersAt made c index
Compares made c (judged.Illegal index why) = ⊥

-- there is one answer for a list of items
abbrev pub OneAcceptance : Type 0
OneAcceptance =
    (o : Setup) (entries : List Entry) (end : Tail) (c : List HopWhy) (a b : Judged)
    → Accepts o entries end c a → Accepts o entries end c b → a ≡ b
