-- A line is one entry or one end.
use Rattle.std.proofs.Common.{◌≡◌, ◌≢◌, ℕ, ◌<◌, ◌≤◌, ◌^◌, true, ◌&&◌, List, [], ◌∷◌, ◌++◌, codes, decimal, sym, ap, ◌∙◌, append_assoc, arith}
use Rattle.std.proofs.lemmas.Bool.{false≢true}
use Rattle.std.proofs.lemmas.Fmt.{decimal_injective}
use Rattle.vt_events.specs.declared.entry.Entry.{Entry}
use Rattle.vt_events.specs.declared.event.Event.{Event}
use Rattle.vt_journal.specs.Callers.{caller_word}
use Rattle.vt_journal.specs.Journal.{entry_words, line_text, tail_words}
use Rattle.vt_journal.specs.Says.{IsFitEntry, IsFitTail}
use Rattle.vt_journal.specs.Words.{IsFitCall, event_words, reply_words}
use Rattle.vt_journal.specs.declared.tail.Tail.{Tail}
use Rattle.vt_journal.specs.declared.tail.Tail.TheVariants as tail
use Rattle.vt_journal.proofs.CallerWords.{is_clear_caller, is_high_caller, same_caller}
use Rattle.vt_journal.proofs.Clear.{are_clear-append, are_clear-event, is_clear-decimal, is_clear_line, is_high}
use Rattle.vt_journal.proofs.OneSpelling.{OneSpelling, words_once}
use Rattle.vt_journal.proofs.ReplyWords.{are_clear-reply, reply_once}
use Rattle.vt_journal.proofs.Spellings.{event_once}

-- numbers within their types
pub small : (n : ℕ) → n ≤ 4294967295 → n < 2 ^ 64
small n fit = omega (arith, fit)

large : (n : ℕ) → n ≤ 18446744073709551615 → n < 2 ^ 64
large n fit = omega (arith, fit)

pub same_number : (m n : ℕ) → m ≤ 4294967295 → n ≤ 4294967295 → decimal m ≡ decimal n → m ≡ n
same_number m n fit_m fit_n = decimal_injective m n (small m fit_m) (small n fit_n)

pub same_long : (m n : ℕ) → m ≤ 18446744073709551615 → n ≤ 18446744073709551615
    → decimal m ≡ decimal n → m ≡ n
same_long m n fit_m fit_n = decimal_injective m n (large m fit_m) (large n fit_n)

-- the words after the call of an entry are those after a call that was read
behind_call : (version : ℕ) (d : Event) (u : List (List ℕ)) (e : Entry) (rest : List (List ℕ)) → IsFitCall d
    → IsFitEntry version e
    → event_words d ++ u ≡ (event_words e.event ++ codes "=" ∷ reply_words e.reply) ++ rest
    → (d ≡ e.event) × (u ≡ codes "=" ∷ (reply_words e.reply ++ rest))
behind_call version d u e rest fit fit_e same =
    event_once d e.event u (codes "=" ∷ (reply_words e.reply ++ rest)) fit (fit_e.call, fit_e.plain)
    (same ∙ append_assoc (event_words e.event) (codes "=" ∷ reply_words e.reply) rest)

-- words are one entry and the words after it
entry_once : (version : ℕ) (d e : Entry) (u v : List (List ℕ)) → IsFitEntry version d → IsFitEntry version e
    → entry_words version d ++ u ≡ entry_words version e ++ v → (d ≡ e) × (u ≡ v)
entry_once version d e u v fit_d fit_e same =
    let callers : caller_word version d.caller ≡ caller_word version e.caller = cc in
    let seqs : decimal d.seq ≡ decimal e.seq = cc in
    let others : (event_words d.event ++ codes "=" ∷ reply_words d.reply) ++ u
    ≡ (event_words e.event ++ codes "=" ∷ reply_words e.reply) ++ v = cc in
    let call =
    behind_call version d.event (codes "=" ∷ (reply_words d.reply ++ u)) e v (fit_d.call, fit_d.plain) fit_e
    (sym (append_assoc (event_words d.event) (codes "=" ∷ reply_words d.reply) u) ∙ others) in
    let answers : reply_words d.reply ++ u ≡ reply_words e.reply ++ v = cc in
    let answer = reply_once d.reply e.reply u v fit_d.answer fit_e.answer answers in (
      (λ j. record {
        caller = same_caller version d.caller e.caller fit_d.caller fit_e.caller callers j;
        seq = same_number d.seq e.seq fit_d.seq fit_e.seq seqs j;
        event = call.0 j;
        reply = answer.0 j;
      }),
      answer.1,
    )

-- words are one end and the words after it
tail_once : (d e : Tail) (u v : List (List ℕ)) → IsFitTail d → IsFitTail e
    → tail_words d ++ u ≡ tail_words e ++ v → (d ≡ e) × (u ≡ v)
tail_once (tail.End m b) (tail.End n c) u v fit_d fit_e same =
    let events : decimal m ≡ decimal n = cc in
    let bytes : decimal b ≡ decimal c = cc in
    let others : u ≡ v = cc in (
      (λ j. tail.End (same_number m n fit_d.0 fit_e.0 events j) (same_long b c fit_d.1 fit_e.1 bytes j)),
      others,
    )
tail_once (tail.Full f) (tail.Full g) u v fit_d fit_e same =
    let events : decimal f.events ≡ decimal g.events = cc in
    let bytes : decimal f.bytes ≡ decimal g.bytes = cc in
    let charges : decimal f.charge ≡ decimal g.charge = cc in
    let others : u ≡ v = cc in (
      (λ j. tail.Full (record {
        events = same_number f.events g.events fit_d.0 fit_e.0 events j;
        bytes = same_long f.bytes g.bytes fit_d.1 fit_e.1 bytes j;
        charge = same_number f.charge g.charge fit_d.2 fit_e.2 charges j;
      })),
      others,
    )
tail_once (tail.End m b) (tail.Full g) u v fit_d fit_e same =
    let names : codes "%end" ≡ codes "%full" = cc in
    cc
tail_once (tail.Full f) (tail.End n c) u v fit_d fit_e same =
    let names : codes "%full" ≡ codes "%end" = cc in
    cc

apart : (version : ℕ) (e : Entry) (d : Tail) (u v : List (List ℕ)) → IsFitEntry version e
    → entry_words version e ++ u ≢ tail_words d ++ v
apart version e (tail.End events bytes) u v fit same =
    let first : caller_word version e.caller ≡ codes "%end" = cc in
    false≢true (sym (ap is_high first) ∙ is_high_caller version e.caller fit.caller)
apart version e (tail.Full full) u v fit same =
    let first : caller_word version e.caller ≡ codes "%full" = cc in
    false≢true (sym (ap is_high first) ∙ is_high_caller version e.caller fit.caller)

-- the words of entries and of ends are clear
clear_entry : (version : ℕ) (e : Entry) → IsFitEntry version e → is_clear_line (entry_words version e) ≡ true
clear_entry version e fit =
    let caller = is_clear_caller version e.caller fit.caller in
    let seq = is_clear-decimal e.seq (small e.seq fit.seq) in
    let others =
    are_clear-append (event_words e.event) (codes "=" ∷ reply_words e.reply)
    (are_clear-event e.event fit.call) (are_clear-reply e.reply fit.answer) in
    λ j. caller j && (seq j && others j)

clear_tail : (d : Tail) → IsFitTail d → is_clear_line (tail_words d) ≡ true
clear_tail (tail.End events bytes) fit =
    let first = is_clear-decimal events (small events fit.0) in
    let second = is_clear-decimal bytes (large bytes fit.1) in
    λ j. first j && (second j && true)
clear_tail (tail.Full full) fit =
    let first = is_clear-decimal full.events (small full.events fit.0) in
    let second = is_clear-decimal full.bytes (large full.bytes fit.1) in
    let third = is_clear-decimal full.charge (small full.charge fit.2) in
    λ j. first j && (second j && (third j && true))

pub entry_spelling : (version : ℕ) → OneSpelling (entry_words version) (IsFitEntry version)
entry_spelling version = record { clear = clear_entry version; once = entry_once version }

pub tail_spelling : OneSpelling tail_words IsFitTail
tail_spelling = record { clear = clear_tail; once = tail_once }

pub lines_apart : (version : ℕ) (e : Entry) (d : Tail) (u v : List ℕ) → IsFitEntry version e → IsFitTail d
    → line_text (entry_words version e) ++ u ≢ line_text (tail_words d) ++ v
lines_apart version e d u v fit_e fit_d same =
    let words = (words_once (entry_words version e) (tail_words d) u v (clear_entry version e fit_e) (clear_tail d fit_d) same).0 in
    apart version e d [] [] fit_e (ap (λ words. words ++ []) words)

-- the words of an entry after its caller
pub behind_word : (version : ℕ) (w0 w1 : List (List ℕ)) (p : ℕ) (e : Entry) (rest : List (List ℕ))
    → w0 ≡ caller_word version p ∷ w1 → w0 ≡ entry_words version e ++ rest
    → w1 ≡ decimal e.seq ∷ ((event_words e.event ++ codes "=" ∷ reply_words e.reply) ++ rest)
behind_word version w0 w1 p e rest is0 is = cc

-- the words of an entry after its call
pub behind_caller : (version : ℕ) (w0 w1 w2 w3 : List (List ℕ)) (p s : ℕ) (d : Event) (e : Entry)
    (rest : List (List ℕ)) → IsFitCall d → IsFitEntry version e → w0 ≡ caller_word version p ∷ w1
    → w1 ≡ decimal s ∷ w2 → w2 ≡ event_words d ++ w3 → w0 ≡ entry_words version e ++ rest
    → w3 ≡ codes "=" ∷ (reply_words e.reply ++ rest)
behind_caller version w0 w1 w2 w3 p s d e rest fit fit_e is0 is1 is2 is =
    let others : w1
    ≡ decimal e.seq ∷ ((event_words e.event ++ codes "=" ∷ reply_words e.reply) ++ rest) = cc in
    let left : w2 ≡ (event_words e.event ++ codes "=" ∷ reply_words e.reply) ++ rest = cc in
    (behind_call version d w3 e rest fit fit_e (sym is2 ∙ left)).1

-- the charge of an end that is full
pub behind_bytes : (w0 w1 w2 : List (List ℕ)) (m b : ℕ) (d : Tail) (rest : List (List ℕ))
    → IsFitTail d → w0 ≡ decimal m ∷ w1 → w1 ≡ decimal b ∷ w2
    → codes "%full" ∷ w0 ≡ tail_words d ++ rest
    → (n : ℕ) × (more : List (List ℕ)) × (n ≤ 4294967295) × (w2 ≡ decimal n ∷ more)
behind_bytes w0 w1 w2 m b (tail.Full full) rest fit is0 is1 is =
    let others : w0 ≡ decimal full.events ∷ decimal full.bytes ∷ decimal full.charge ∷ rest = cc in
    let behind : w1 ≡ decimal full.bytes ∷ decimal full.charge ∷ rest = cc in
    let left : w2 ≡ decimal full.charge ∷ rest = cc in
    (full.charge, rest, fit.2, left)
behind_bytes w0 w1 w2 m b (tail.End events bytes) rest fit is0 is1 is =
    let names : codes "%full" ≡ codes "%end" = cc in
    cc
