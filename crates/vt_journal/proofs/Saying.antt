-- A text has one meaning as a journal.
use Rattle.std.proofs.Common.{◌≡◌, ◌≢◌, ℕ, ◌+◌, ◌≤◌, ◌⊎◌, inl, inr, List, [], ◌∷◌, ◌++◌, Result, Ok, codes, decimal, length, map, refl, sym, ap, subst, ◌∙◌, arith}
use Rattle.std.specs.List.{All, flat_map}
use Rattle.std.proofs.lemmas.List.{append_cancel_left, length-map}
use Rattle.std.proofs.lemmas.List.Concat.{flat_map-append}
use Rattle.vt_events.specs.Plain.{plain_entry, plain_event, plain_reply}
use Rattle.vt_events.specs.declared.entry.Entry.{Entry}
use Rattle.vt_events.specs.declared.event.Event.{Event}
use Rattle.vt_events.specs.declared.event.Event.TheVariants as event
use Rattle.vt_events.specs.declared.reply.Reply.{Reply}
use Rattle.vt_events.specs.declared.reply.Reply.TheVariants as reply
use Rattle.vt_journal.specs.Callers.{IsVersion, caller_word}
use Rattle.vt_journal.specs.Journal.{entry_words, first_words, journal_text, line_text, tail_words}
use Rattle.vt_journal.specs.Says.{Begins, HasFirst, IsFitEntry, IsFitTail, IsNoEntry, IsNoFirst, IsNoTail, JournalSays, fault, most_entries}
use Rattle.vt_journal.specs.Says.JournalSays.{BadLine, More, NoFirst, NoLast, TooMany, Whole}
use Rattle.vt_journal.specs.Words.{event_words, reply_words}
use Rattle.vt_journal.specs.declared.j_fault.JFault.{JFault}
use Rattle.vt_journal.specs.declared.journal.Journal.{Journal}
use Rattle.vt_journal.specs.declared.tail.Tail.{Tail}
use Rattle.vt_journal.proofs.Firsts.{version_spelling}
use Rattle.vt_journal.proofs.Once.{entry_spelling, lines_apart, tail_spelling}
use Rattle.vt_journal.proofs.OneSpelling.{IsSoFar, body, first_once, no_longer, same_front, some_line}

-- the text after the entries, if no entry follows
data Follows (version : ℕ) (entries : List Entry) (u : List ℕ) : Result Journal JFault → Type 0 where
  Ends : (end : Tail) → IsFitTail end → u ≡ line_text (tail_words end) ++ [] → Follows version entries u (Ok (record { version = version; entries = entries; tail = end }))
  Fails : u ≢ [] → IsNoTail u → Follows version entries u (fault 41 (length entries + 2))
  Stops : u ≡ [] → Follows version entries u (fault 42 (length entries + 1))
  Goes : (end : Tail) (rest : List ℕ) → IsFitTail end → u ≡ line_text (tail_words end) ++ rest → rest ≢ [] → Follows version entries u (fault 43 (length entries + 2))

follows_once : (version : ℕ) (entries : List Entry) (u : List ℕ) (a b : Result Journal JFault)
    → Follows version entries u a → Follows version entries u b → a ≡ b
follows_once version entries u a b (Ends d fit_d is_d) (Ends e fit_e is_e) =
    ap (λ (end : Tail). Ok (record { version = version; entries = entries; tail = end }))
    (first_once tail_spelling d e [] [] fit_d fit_e (sym is_d ∙ is_e)).0
follows_once version entries u a b (Ends d fit_d is_d) (Fails some none) = absurd (none d [] fit_d is_d)
follows_once version entries u a b (Ends d fit_d is_d) (Stops none) =
    absurd (some_line (tail_words d) [] (sym is_d ∙ none))
follows_once version entries u a b (Ends d fit_d is_d) (Goes e rest fit_e is_e some) =
    absurd (some (sym (first_once tail_spelling d e [] rest fit_d fit_e (sym is_d ∙ is_e)).1))
follows_once version entries u a b (Fails some none) (Ends e fit_e is_e) = absurd (none e [] fit_e is_e)
follows_once version entries u a b (Fails some none) (Fails other others) = refl
follows_once version entries u a b (Fails some none) (Stops is) = absurd (some is)
follows_once version entries u a b (Fails some none) (Goes e rest fit_e is_e more) =
    absurd (none e rest fit_e is_e)
follows_once version entries u a b (Stops none) (Ends e fit_e is_e) =
    absurd (some_line (tail_words e) [] (sym is_e ∙ none))
follows_once version entries u a b (Stops none) (Fails some other) = absurd (some none)
follows_once version entries u a b (Stops none) (Stops other) = refl
follows_once version entries u a b (Stops none) (Goes e rest fit_e is_e more) =
    absurd (some_line (tail_words e) rest (sym is_e ∙ none))
follows_once version entries u a b (Goes d rest fit_d is_d some) (Ends e fit_e is_e) =
    absurd (some (first_once tail_spelling d e rest [] fit_d fit_e (sym is_d ∙ is_e)).1)
follows_once version entries u a b (Goes d rest fit_d is_d some) (Fails more none) =
    absurd (none d rest fit_d is_d)
follows_once version entries u a b (Goes d rest fit_d is_d some) (Stops none) =
    absurd (some_line (tail_words d) rest (sym is_d ∙ none))
follows_once version entries u a b (Goes d rest fit_d is_d some) (Goes e others fit_e is_e more) = refl

-- the meaning of a text, in three cases
data Said (text : List ℕ) : Result Journal JFault → Type 0 where
  Lacks : IsNoFirst text → Said text (fault 40 0)
  Many : (version : ℕ) (entries : List Entry) (rest : List ℕ) → Begins version text entries rest → length entries ≡ most_entries + 1 → Said text (fault 44 (length entries + 1))
  Has : (version : ℕ) (entries : List Entry) (u : List ℕ) (said : Result Journal JFault) → Begins version text entries u → IsNoEntry version u → length entries ≤ most_entries → Follows version entries u said → Said text said

-- the text of a journal after its entries
pub parts_of : (version : ℕ) (entries : List Entry) (end : Tail)
    → journal_text version entries end
    ≡ line_text (first_words version) ++ body (entry_words version) entries (line_text (tail_words end) ++ [])
parts_of version entries end =
    ap (λ text. line_text (first_words version) ++ text)
    (flat_map-append line_text (map (entry_words version) entries) (tail_words end ∷ []))

no_entry_end : (version : ℕ) (end : Tail) (rest : List ℕ) → IsFitTail end
    → IsNoEntry version (line_text (tail_words end) ++ rest)
no_entry_end version end rest fit entry more fit_e same = lines_apart version entry end more rest fit_e fit (sym same)

no_entry_none : (version : ℕ) → IsNoEntry version []
no_entry_none version entry rest fit same = some_line (entry_words version entry) rest (sym same)

said : (text : List ℕ) (a : Result Journal JFault) → JournalSays text a → Said text a
said text a (Whole version entries end known fit fit_e few is) =
    Has version entries (line_text (tail_words end) ++ [])
    (Ok (record { version = version; entries = entries; tail = end }))
    (record { known = known; fit = fit; parts = is ∙ parts_of version entries end })
    (no_entry_end version end [] fit_e) few (Ends end fit_e refl)
said text a (NoFirst none) = Lacks none
said text a (BadLine version entries rest begins few some none no_tail) =
    Has version entries rest (fault 41 (length entries + 2)) begins none few (Fails some no_tail)
said text a (NoLast version entries begins few) =
    Has version entries [] (fault 42 (length entries + 1)) begins (no_entry_none version) few (Stops refl)
said text a (More version entries end rest begins few fit_e some) =
    Has version entries (line_text (tail_words end) ++ rest) (fault 43 (length entries + 2)) begins
    (no_entry_end version end rest fit_e) few (Goes end rest fit_e refl some)
said text a (TooMany version entries rest begins many) = Many version entries rest begins many

-- a text has the first line of at most one version
one_version : (v w : ℕ) (text : List ℕ) (a b : List Entry) (u t : List ℕ) → Begins v text a u
    → Begins w text b t → v ≡ w
one_version v w text a b u t one other =
    (first_once version_spelling v w (body (entry_words v) a u) (body (entry_words w) b t) one.known other.known
    (sym one.parts ∙ other.parts)).0

bodies : (version : ℕ) (text : List ℕ) (a b : List Entry) (u v : List ℕ) → Begins version text a u → Begins version text b v
    → body (entry_words version) a u ≡ body (entry_words version) b v
bodies version text a b u v one other =
    append_cancel_left (line_text (first_words version)) (body (entry_words version) a u) (body (entry_words version) b v)
    (sym one.parts ∙ other.parts)

first_of : (version : ℕ) (text : List ℕ) (entries : List Entry) (rest : List ℕ)
    → Begins version text entries rest → HasFirst version text
first_of version text entries rest begins = record {
  known = begins.known;
  rest = body (entry_words version) entries rest;
  parts = begins.parts;
}

crowded : (v w : ℕ) (text : List ℕ) (a b : List Entry) (u t : List ℕ) → Begins v text a u
    → Begins w text b t → IsNoEntry v u → length a ≤ most_entries → length b ≡ most_entries + 1 → ⊥
crowded v w text a b u t one other none few many =
    let begins = subst (λ (n : ℕ). Begins n text b t) (sym (one_version v w text a b u t one other)) other in
    omega (arith, few, many, no_longer (entry_spelling v) a b u t one.fit begins.fit none (bodies v text a b u t one begins))

-- two readings of one version are one
both_has : (version : ℕ) (text : List ℕ) (a b : Result Journal JFault) (entries others : List Entry)
    (u v : List ℕ) → Begins version text entries u → Begins version text others v
    → IsNoEntry version u → IsNoEntry version v → Follows version entries u a
    → Follows version others v b → a ≡ b
both_has version text a b entries others u v begins begins_b no_entry none_b follows follows_b =
    let same =
    same_front (entry_spelling version) entries others u v begins.fit begins_b.fit no_entry none_b
    (bodies version text entries others u v begins begins_b) in
    follows_once version entries u a b follows
    (subst (λ entries. Follows version entries u b) (sym same.0)
    (subst (λ u. Follows version others u b) (sym same.1) follows_b))

said_once : (text : List ℕ) (a b : Result Journal JFault) → Said text a → Said text b → a ≡ b
said_once text a b (Lacks none) (Lacks other) = refl
said_once text a b (Lacks none) (Many v entries rest begins many) =
    absurd (none v (first_of v text entries _ begins))
said_once text a b (Lacks none) (Has v entries u text_says begins no_entry few follows) =
    absurd (none v (first_of v text entries _ begins))
said_once text a b (Many v entries rest begins many) (Lacks none) =
    absurd (none v (first_of v text entries _ begins))
said_once text a b (Many v entries rest begins many) (Many w others more begins_b many_b) =
    ap (λ n. fault 44 (n + 1)) (many ∙ sym many_b)
said_once text a b (Many v entries rest begins many) (Has w others u text_says begins_b no_entry few follows) =
    absurd (crowded w v text others entries u rest begins_b begins no_entry few many)
said_once text a b (Has v entries u text_says begins no_entry few follows) (Lacks none) =
    absurd (none v (first_of v text entries _ begins))
said_once text a b (Has v entries u text_says begins no_entry few follows) (Many w others rest begins_b many) =
    absurd (crowded v w text entries others u rest begins begins_b no_entry few many)
said_once text a b (Has n entries u text_says begins no_entry few follows) (Has m others v also_says begins_b none_b few_b follows_b) =
    let same : m ≡ n = one_version m n text others entries v u begins_b begins in
    both_has n text a b entries others u v begins
    (subst (λ (k : ℕ). Begins k text others v) same begins_b) no_entry
    (subst (λ (k : ℕ). IsNoEntry k v) same none_b) follows
    (subst (λ (k : ℕ). Follows k others v b) same follows_b)

pub one_journal : (text : List ℕ) (a b : Result Journal JFault) → JournalSays text a
    → JournalSays text b → a ≡ b
one_journal text a b says_a says_b = said_once text a b (said text a says_a) (said text b says_b)

-- the room of bytes is not printed
plain_words : (e : Event) → event_words (plain_event e) ≡ event_words e
plain_words event.Exit = refl
plain_words e = refl

plain_answer : (r : Reply) → reply_words (plain_reply r) ≡ reply_words r
plain_answer (reply.Text b) = refl
plain_answer r = refl

plain_entries : (version : ℕ) (entries : List Entry)
    → map (entry_words version) (map plain_entry entries) ≡ map (entry_words version) entries
plain_entries version [] = refl
plain_entries version (e ∷ entries) =
    λ j.
    (caller_word version e.caller ∷ decimal e.seq
    ∷ plain_words e.event j ++ codes "=" ∷ plain_answer e.reply j)
    ∷ plain_entries version entries j

pub printed_is_read : (version : ℕ) (entries : List Entry) (end : Tail) → IsVersion version
    → All (IsFitEntry version) (map plain_entry entries) → IsFitTail end
    → length entries ≤ most_entries
    → JournalSays (journal_text version entries end)
    (Ok (record { version = version; entries = map plain_entry entries; tail = end }))
printed_is_read version entries end known fit fit_e few =
    Whole version (map plain_entry entries) end known fit fit_e
    (omega (arith, few, length-map entries plain_entry))
    (ap (λ lines. line_text (first_words version) ++ flat_map line_text (lines ++ tail_words end ∷ []))
    (sym (plain_entries version entries)))

-- these entries were read, and the rest is left
abbrev pub AreSoFar : ℕ → List ℕ → List Entry → List ℕ → Type 0
AreSoFar version = IsSoFar (entry_words version) (IsFitEntry version)

pub begun : (version : ℕ) (whole text : List ℕ) (entries : List Entry) (rest : List ℕ)
    → IsVersion version → whole ≡ line_text (first_words version) ++ text → AreSoFar version text entries rest → Begins version whole entries rest
begun version whole text entries rest known is so_far = record {
  known = known;
  fit = so_far.fit;
  parts = is ∙ ap (λ text. line_text (first_words version) ++ text) so_far.parts;
}

-- the whole text was read
pub whole_is : (version : ℕ) (whole text : List ℕ) (entries : List Entry) (rest : List ℕ) (end : Tail)
    → IsVersion version → whole ≡ line_text (first_words version) ++ text → AreSoFar version text entries rest → IsFitTail end
    → rest ≡ line_text (tail_words end) ++ [] → length entries ≤ most_entries
    → JournalSays whole (Ok (record { version = version; entries = entries; tail = end }))
whole_is version whole text entries rest end known is so_far fit next few =
    Whole version entries end known so_far.fit fit few
    (is
    ∙ ap (λ text. line_text (first_words version) ++ text) (so_far.parts ∙ ap (body (entry_words version) entries) next)
    ∙ sym (parts_of version entries end))

-- a text follows the last line
pub more_is : (version : ℕ) (whole text : List ℕ) (entries : List Entry) (rest : List ℕ) (end : Tail) (behind : List ℕ)
    → IsVersion version → whole ≡ line_text (first_words version) ++ text → AreSoFar version text entries rest → IsFitTail end
    → rest ≡ line_text (tail_words end) ++ behind → length entries ≤ most_entries → behind ≢ []
    → JournalSays whole (fault 43 (length entries + 2))
more_is version whole text entries rest end behind known is so_far fit next few some =
    More version entries end behind
    (begun version whole text entries (line_text (tail_words end) ++ behind) known is
    (subst (AreSoFar version text entries) next so_far))
    few fit some

-- a text is empty, or it isn't
pub nothing_or_some : (text : List ℕ) → (text ≡ []) ⊎ (text ≢ [])
nothing_or_some [] = inl refl
nothing_or_some (b ∷ text) = inr (λ same. cc)
