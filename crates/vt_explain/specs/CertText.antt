-- The text of a certificate, and the meaning of a text as a certificate. This project's own.
use Rattle.std.specs.Prelude.{◌≡◌, ◌≢◌, ◌≤◌, ⊤, ℕ, ◌+◌, List, [], ◌∷◌, ◌++◌, Result, Ok, Err, codes, decimal, length, map, min}
use Rattle.std.specs.List.{All, flat_map}
use Rattle.vt_explain.specs.declared.hop_cause.HopCause.{HopCause}
use Rattle.vt_explain.specs.declared.hop_cause.HopCause.TheVariants as why
use Rattle.vt_explain.specs.declared.hop_why.HopWhy.{HopWhy}
use Rattle.vt_journal.specs.Journal.{line_text}

-- the owner, the entry that asked it, and the signal
abbrev pub asked_words : ℕ → ℕ → ℕ → List (List ℕ)
asked_words owner asked signal =
    decimal owner ∷ codes "asked" ∷ decimal asked ∷ codes "signal" ∷ decimal signal ∷ []

abbrev pub cause_words : HopCause → List (List ℕ)
cause_words why.Free = codes "free" ∷ []
cause_words (why.Released owner asked signal) =
    codes "released" ∷ asked_words owner asked signal
cause_words (why.Died owner asked signal) = codes "died" ∷ asked_words owner asked signal

-- the words of an item: the entry, how many switches it made before, the two consoles, and the cause
abbrev pub item_words : HopWhy → List (List ℕ)
item_words w = decimal w.at ∷ decimal w.nth ∷ decimal w.from ∷ decimal w.to ∷ cause_words w.cause

-- the words of the first line, with the number of items
abbrev pub head_words : ℕ → List (List ℕ)
head_words count = codes "%explain" ∷ decimal count ∷ []

abbrev pub item_lines : List HopWhy → List ℕ
item_lines c = flat_map line_text (map item_words c)

-- the text of a certificate: a line with the number of items, and a line for each item
abbrev pub cert_text : List HopWhy → List ℕ
cert_text c = line_text (head_words (length c)) ++ item_lines c

-- the numbers of a cause, and of an item, are within their types
abbrev pub IsFitAsk : ℕ → ℕ → ℕ → Type 0
IsFitAsk owner asked signal =
    (owner ≤ 67) × (asked ≤ 4294967295) × (1 ≤ signal) × (signal ≤ 64)

abbrev pub IsFitCause : HopCause → Type 0
IsFitCause why.Free = ⊤
IsFitCause (why.Released owner asked signal) = IsFitAsk owner asked signal
IsFitCause (why.Died owner asked signal) = IsFitAsk owner asked signal

abbrev pub IsConsole : ℕ → Type 0
IsConsole c = (1 ≤ c) × (c ≤ 63)

pub record IsFit (w : HopWhy) : Type 0 where
  pub at : w.at ≤ 4294967295
  pub nth : w.nth ≤ 4294967295
  pub from : IsConsole w.from
  pub to : IsConsole w.to
  pub cause : IsFitCause w.cause

-- a text is a first line, the lines of these items, and the rest
pub record Begins (text : List ℕ) (count : ℕ) (c : List HopWhy) (rest : List ℕ) : Type 0 where
  pub head : count ≤ 4294967295
  pub fit : All IsFit c
  pub parts : text ≡ line_text (head_words count) ++ (item_lines c ++ rest)

-- the text doesn't begin with a first line
abbrev pub IsNoHead : List ℕ → Type 0
IsNoHead text =
    (count : ℕ) (rest : List ℕ) → count ≤ 4294967295 → text ≢ line_text (head_words count) ++ rest

-- the text doesn't begin with an item's line
abbrev pub IsNoItem : List ℕ → Type 0
IsNoItem text = (w : HopWhy) (rest : List ℕ) → IsFit w → text ≢ line_text (item_words w) ++ rest

-- the number by which a fault names a line: the greatest one for each line past it
abbrev pub line_number : ℕ → ℕ
line_number line = min line 4294967295

-- the meaning of the text: the items, if it is their text; otherwise the number of the first line that isn't
-- well formed, or of the last line if lines are missing or too many
pub data CertSays (text : List ℕ) : Result (List HopWhy) ℕ → Type 0 where
  Whole : (c : List HopWhy) → Begins text (length c) c [] → CertSays text (Ok c)
  BadHead : IsNoHead text → CertSays text (Err 1)
  BadLine : (count : ℕ) (c : List HopWhy) (rest : List ℕ) → Begins text count c rest → rest ≢ [] → IsNoItem rest → CertSays text (Err (line_number (length c + 2)))
  OtherCount : (count : ℕ) (c : List HopWhy) → Begins text count c [] → count ≢ length c → CertSays text (Err (line_number (length c + 1)))

-- a text has one meaning
abbrev pub OneCert : Type 0
OneCert = (text : List ℕ) (a b : Result (List HopWhy) ℕ) → CertSays text a → CertSays text b → a ≡ b

-- the text of items that are fit has these items as its meaning, and no other text does
abbrev pub PrintedIsRead : Type 0
PrintedIsRead =
    (c : List HopWhy) → All IsFit c → length c ≤ 4294967295 → CertSays (cert_text c) (Ok c)

abbrev pub ReadIsPrinted : Type 0
ReadIsPrinted =
    (text : List ℕ) (c : List HopWhy) → CertSays text (Ok c) → text ≡ cert_text c
