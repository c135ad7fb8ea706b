-- The words of calls and answers. This project's own; `decimal` is a number's digits, without sign or
-- leading zeros.
use Rattle.std.specs.Prelude.{◌≡◌, ℕ, ◌<◌, ◌^◌, List, [], ◌∷◌, ◌++◌, Option, Some, None, IfSome, codes, decimal, map}
use Rattle.std.specs.List.{All, join_with_byte}
use Rattle.vt_base.specs.Errno.{number_of}
use Rattle.vt_events.specs.Calls.{held_of, kind_of, numbers_of}
use Rattle.vt_events.specs.Kinds.{name_of}
use Rattle.vt_events.specs.Plain.{plain_event}
use Rattle.vt_events.specs.declared.event.Event.{Event}
use Rattle.vt_events.specs.declared.reply.Reply.{Reply}
use Rattle.vt_events.specs.declared.reply.Reply.TheVariants as reply
use Rattle.vt_journal.specs.Cut.{words_of_text}
use Rattle.vt_journal.specs.Hex.{hex_text}

-- the word of a number
abbrev pub one_number : ℕ → List (List ℕ)
one_number n = decimal n ∷ []

-- the word of the bytes that a call holds, if it holds any
abbrev pub held_words : Option (List ℕ) → List (List ℕ)
held_words None = []
held_words (Some bytes) = hex_text bytes ∷ []

-- the words of a call: its name, its numbers, and the bytes that it holds
abbrev pub event_words : Event → List (List ℕ)
event_words e = name_of (kind_of e) ∷ (map decimal (numbers_of e) ++ held_words (held_of e))

-- an answer's name and its numbers
abbrev name_and_numbers : List ℕ → List ℕ → List (List ℕ)
name_and_numbers name numbers = name ∷ map decimal numbers

-- the words of an answer
abbrev pub reply_words : Reply → List (List ℕ)
reply_words reply.Done = name_and_numbers (codes "ok") []
reply_words (reply.Num n) = name_and_numbers (codes "num") (n ∷ [])
reply_words (reply.State front mask) = name_and_numbers (codes "state") (front ∷ mask ∷ [])
reply_words (reply.Text b) = codes "bytes" ∷ hex_text b.bytes ∷ []
reply_words (reply.Mode m) =
    name_and_numbers (codes "mode") (m.mode ∷ m.waitv ∷ m.relsig ∷ m.acqsig ∷ m.frsig ∷ [])
reply_words (reply.Act kind value) = name_and_numbers (codes "act") (kind ∷ value ∷ [])
reply_words reply.Wait = name_and_numbers (codes "wait") []
reply_words (reply.Sigs signals) = name_and_numbers (codes "sigs") (signals ∷ [])
reply_words (reply.Err errno) = name_and_numbers (codes "err") (number_of errno ∷ [])

-- words with one blank between each and the next
abbrev pub joined_by_blanks : List (List ℕ) → List ℕ
joined_by_blanks words = join_with_byte 0x20 words

-- the numbers of a call have 16 bits, and the bytes that it holds have 8
pub record IsFit (e : Event) : Type 0 where
  pub numbers : All (λ n. n < 2 ^ 16) (numbers_of e)
  pub bytes : IfSome (held_of e) (λ bytes. All (λ b. b < 2 ^ 8) bytes)

-- the call is fit, and its bytes have no room
abbrev pub IsFitCall : Event → Type 0
IsFitCall e = IsFit e × (plain_event e ≡ e)

-- the text is the one spelling of the call, which is fit and has no room
pub record Spells (text : List ℕ) (e : Event) : Type 0 where
  pub fit : IsFit e
  pub plain : plain_event e ≡ e
  pub spelled : joined_by_blanks (event_words e) ≡ text

-- a text spells one call at most
abbrev pub OneCall : Type 0
OneCall = (text : List ℕ) (d e : Event) → Spells text d → Spells text e → d ≡ e

-- cut at its blanks, a text is the words of the call that it spells
abbrev pub CallsAreCut : Type 0
CallsAreCut = (text : List ℕ) (e : Event) → Spells text e → words_of_text text ≡ event_words e
