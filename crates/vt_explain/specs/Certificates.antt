-- Certificates: one good item for each switch. This project's own.
use Rattle.std.specs.Prelude.{◌≡◌, ◌<◌, ◌≤◌, ⊤, ℕ, List, count_by, length, take, Some, slice_get}
use Rattle.vt_explain.specs.Hops.{TimedHop, is_in, timed_hops}
use Rattle.vt_explain.specs.declared.hop_cause.HopCause.{HopCause}
use Rattle.vt_explain.specs.declared.hop_cause.HopCause.TheVariants as why
use Rattle.vt_explain.specs.declared.hop_why.HopWhy.{HopWhy}
use Rattle.vt_switch.specs.Law.{IsLawful, Quiet, Raises, Since}
use Rattle.vt_switch.specs.Moments.{Moment}
use Rattle.vt_switch.specs.declared.cause.Cause.{Cause}
use Rattle.vt_switch.specs.declared.cause.Cause.TheVariants as cause

-- the moment was in entry `asked`, before entry i; console a was in front, this signal, which is its release
-- signal, was raised to its owner p, and n became the pending console
pub record AsksAt (i a p n asked signal : ℕ) (m : Moment) : Type 0 where
  pub raises : Raises i a p n m
  pub entry : m.entry ≡ asked
  pub by : raises.signal ≡ signal

-- that was the last request before the switch, and since then all was quiet: no accepted set mode and no
-- accepted refusal of the console in front, no switch, no other request to an owner, and the same console is
-- pending
abbrev pub WasAsked : TimedHop → ℕ → ℕ → ℕ → Type 0
WasAsked h p asked signal =
    Since (Quiet h.hop.from h.hop.to) (AsksAt h.moment.entry h.hop.from p h.hop.to asked signal)
    h.earlier

-- the cause that an item names is that of the switch
abbrev pub IsCause : TimedHop → Cause → HopCause → Type 0
IsCause h cause.Free why.Free = ⊤
IsCause h (cause.Released p) (why.Released owner asked signal) =
    (owner ≡ p) × WasAsked h p asked signal
IsCause h (cause.Died p) (why.Died owner asked signal) = (owner ≡ p) × WasAsked h p asked signal
IsCause h c w = ⊥

-- the item has the place, the consoles and the cause of the history's k-th switch
pub record Good (history : List Moment) (k : ℕ) (w : HopWhy) : Type 0 where
  pub hop : TimedHop
  pub kth : slice_get (timed_hops history) k ≡ Some hop
  pub at : w.at ≡ hop.moment.entry
  pub nth : w.nth ≡ count_by (is_in hop.moment.entry) (take k (timed_hops history))
  pub from : w.from ≡ hop.hop.from
  pub to : w.to ≡ hop.hop.to
  pub cause : IsCause hop hop.hop.cause w.cause

-- there are as many items as switches, and each is good
pub record IsCertificate (history : List Moment) (c : List HopWhy) : Type 0 where
  pub count : length c ≡ length (timed_hops history)
  pub items : (k : ℕ) (w : HopWhy) → slice_get c k ≡ Some w → Good history k w

-- the items before this place are good, and the one there isn't; or there is none, and a switch lacks one
pub record IsFirstBad (history : List Moment) (c : List HopWhy) (index : ℕ) : Type 0 where
  pub before : (k : ℕ) (w : HopWhy) → k < index → slice_get c k ≡ Some w → Good history k w
  pub within : index ≤ length c
  pub here : (w : HopWhy) → slice_get c index ≡ Some w → Good history index w → ⊥
  pub missing : index ≡ length c → length c < length (timed_hops history)

-- for every history, a certificate proves that each of its switches was allowed
abbrev pub CertificatesExplain : Type 0
CertificatesExplain =
    (history : List Moment) (c : List HopWhy) → IsCertificate history c → IsLawful history

-- a history has at most one certificate
abbrev pub OneCertificate : Type 0
OneCertificate =
    (history : List Moment) (c d : List HopWhy) → IsCertificate history c
    → IsCertificate history d → c ≡ d

-- a list of items is a certificate, or it has one first place that is bad
abbrev pub OneFirstBad : Type 0
OneFirstBad =
    (history : List Moment) (c : List HopWhy) (i j : ℕ) → IsFirstBad history c i
    → IsFirstBad history c j → i ≡ j

abbrev pub CertificatesAreGood : Type 0
CertificatesAreGood =
    (history : List Moment) (c : List HopWhy) (i : ℕ) → IsCertificate history c
    → IsFirstBad history c i → ⊥
