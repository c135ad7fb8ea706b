-- The texts of script items. This project's own.
use Rattle.std.specs.Prelude.{◌≡◌, ℕ, ◌+◌, ◌<◌, ◌^◌, Bool, true, false, Result, Ok, Err, List, ◌∷◌, ◌⊎◌, codes, decimal, length}
use Rattle.table_fields.specs.FaultCodes.{SCRIPT_ITEM}
use Rattle.table_fields.specs.Checked.{fault}
use Rattle.table_fields.specs.declared.fault.TableFault.{TableFault}
use Rattle.vt_events.specs.Kinds.{text as bytes_of}
use Rattle.vt_events.specs.declared.event.Event.{Event}
use Rattle.vt_events.specs.declared.event.Event.TheVariants as event
use Rattle.vt_journal.specs.Words.{Spells, joined_by_blanks}
use Rattle.session_text.specs.HookTexts.{words_of}
use Rattle.session_text.specs.declared.item_texts.Said.{Said}

-- the calls that a script may have: all except the keyboard's and those that a program makes by itself
abbrev pub is_item : Event → Bool
is_item (event.Scan b) = false
is_item event.Exit = false
is_item event.WaitEnd = false
is_item event.TakeSignals = false
is_item e = true

-- words that begin with `say`, a number, and one more
pub record AreSay (words : List (List ℕ)) (fd : ℕ) : Type 0 where
  pub first : List ℕ
  pub more : List (List ℕ)
  pub fits : fd < 2 ^ 16
  pub are : words ≡ codes "say" ∷ decimal fd ∷ first ∷ more

-- `say FD TEXT`: a write of the text after the second blank, with the blanks in it
pub record IsSay (text : List ℕ) (e : Event) : Type 0 where
  pub fd : ℕ
  pub say : AreSay (words_of text) fd
  pub write : e ≡ event.Write fd (bytes_of (joined_by_blanks (say.first ∷ say.more)))

-- a text is the words of a call that a script may have, or a `say`
abbrev pub IsItem : List ℕ → Event → Type 0
IsItem text e = (Spells text e × (is_item e ≡ true)) ⊎ IsSay text e

-- the n-th text of process p is an item; otherwise the fault is 25 at its place
abbrev pub item_says : ℕ → ℕ → List ℕ → Result Event TableFault → Type 0
item_says p n text (Ok e) = IsItem text e
item_says p n text (Err f) = ((e : Event) → ¬ IsItem text e) × (f ≡ fault SCRIPT_ITEM p n)

-- the words of a `say`, and the place at which its text starts
pub record IsSaid (words : List (List ℕ)) (said : Said) : Type 0 where
  pub say : AreSay words said.fd
  pub start : said.start ≡ length (decimal said.fd) + 5
