-- Answers by their kinds: the name, the numbers and the bytes of their words. This project's own.
use Rattle.std.specs.Prelude.{◌≡◌, ℕ, ◌<◌, ◌≤◌, ◌^◌, Bool, true, false, List, [], ◌∷◌, Option, Some, None, IfSome, codes, length, if◌then◌else◌}
use Rattle.std.specs.List.{All, slice_index}
use Rattle.vt_base.specs.Errno.{number_of}
use Rattle.vt_events.specs.Plain.{plain_reply}
use Rattle.vt_events.specs.declared.reply.Reply.{Reply}
use Rattle.vt_events.specs.declared.reply.Reply.TheVariants as reply
use Rattle.vt_journal.specs.declared.reply_kind.ReplyKind.{ReplyKind}
use Rattle.vt_journal.specs.declared.reply_kind.ReplyKind.TheVariants as kind

abbrev pub kind_of : Reply → ReplyKind
kind_of reply.Done = kind.Done
kind_of (reply.Num n) = kind.Num
kind_of (reply.State front mask) = kind.State
kind_of (reply.Text b) = kind.Text
kind_of (reply.Mode m) = kind.Mode
kind_of (reply.Act action value) = kind.Act
kind_of reply.Wait = kind.Wait
kind_of (reply.Sigs signals) = kind.Sigs
kind_of (reply.Err errno) = kind.Err

-- its numbers
abbrev pub reply_numbers : Reply → List ℕ
reply_numbers (reply.Num n) = n ∷ []
reply_numbers (reply.State front mask) = front ∷ mask ∷ []
reply_numbers (reply.Mode m) = m.mode ∷ m.waitv ∷ m.relsig ∷ m.acqsig ∷ m.frsig ∷ []
reply_numbers (reply.Act action value) = action ∷ value ∷ []
reply_numbers (reply.Sigs signals) = signals ∷ []
reply_numbers (reply.Err errno) = number_of errno ∷ []
reply_numbers r = []

-- the bytes that it holds
abbrev pub reply_held : Reply → Option (List ℕ)
reply_held (reply.Text b) = Some b.bytes
reply_held r = None

-- the name of the answers of a kind
abbrev pub reply_name : ReplyKind → List ℕ
reply_name kind.Done = codes "ok"
reply_name kind.Num = codes "num"
reply_name kind.State = codes "state"
reply_name kind.Text = codes "bytes"
reply_name kind.Mode = codes "mode"
reply_name kind.Act = codes "act"
reply_name kind.Wait = codes "wait"
reply_name kind.Sigs = codes "sigs"
reply_name kind.Err = codes "err"

-- the greatest value of each of its numbers
abbrev pub mosts : ReplyKind → List ℕ
mosts kind.Done = []
mosts kind.Num = 4294967295 ∷ []
mosts kind.State = 255 ∷ 18446744073709551615 ∷ []
mosts kind.Text = []
mosts kind.Mode = 65535 ∷ 65535 ∷ 65535 ∷ 65535 ∷ 65535 ∷ []
mosts kind.Act = 255 ∷ 65535 ∷ []
mosts kind.Wait = []
mosts kind.Sigs = 18446744073709551615 ∷ []
mosts kind.Err = 65535 ∷ []

-- whether they hold bytes
abbrev pub reply_holds : ReplyKind → Bool
reply_holds kind.Text = true
reply_holds k = false

-- as many numbers as greatest values, each at most its own
pub record Within (most numbers : List ℕ) : Type 0 where
  pub many : length numbers ≡ length most
  pub each : (i : ℕ) → i < length numbers → slice_index numbers i ≤ slice_index most i

-- an answer's numbers are those of its kind, the bytes that it holds have 8 bits, and they have no room
pub record IsFitReply (r : Reply) : Type 0 where
  pub numbers : Within (mosts (kind_of r)) (reply_numbers r)
  pub bytes : IfSome (reply_held r) (λ bytes. All (λ b. b < 2 ^ 8) bytes)
  pub plain : plain_reply r ≡ r

-- an answer of this kind, these numbers, and these bytes if its kind holds any
pub record IsAnswer (k : ReplyKind) (n b : List ℕ) (r : Reply) : Type 0 where
  pub kind : kind_of r ≡ k
  pub numbers : reply_numbers r ≡ n
  pub held : reply_held r ≡ (if reply_holds k then Some b else None)
  pub plain : plain_reply r ≡ r
