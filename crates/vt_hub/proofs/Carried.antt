-- Histories as the lock carries them, against those of the journal.
use Rattle.std.proofs.Common.{◌≡◌, ℕ, zero, suc, ◌+◌, ◌*◌, ◌/◌, ◌%◌, ◌<◌, arith, Bool, true, false, cond, ◌==◌, List, [], ◌∷◌, ◌++◌, length, take, refl, sym, ap, ◌∙◌, subst, length-append}
use Rattle.std.proofs.lemmas.List.{append_assoc, length-map, length-take-le, map-append, take-append-le}
use Rattle.std.proofs.Math.Seq.{take-append_seam}
use Rattle.turn_lock.specs.History.{IsWordIn, StartsWith, display_after, entries_by, word_of}
use Rattle.vt_events.specs.declared.entry.Entry.{Entry}
use Rattle.vt_hub.specs.Histories.{BeginsWith, IsRead, made_by}
use Rattle.vt_hub.specs.Carrying.{Carried, IsCarried, display_of, plain, carried_entries, carried_entry}
use Rattle.vt_world.specs.History.{IsLegal, replay}
use Rattle.vt_world.specs.State.{WorldState}
use Rattle.vt_world.specs.Step.{step}

pub plain-carried_entries : (w : WorldState) (es : List Entry) → plain (carried_entries w es) ≡ es
plain-carried_entries w [] = refl
plain-carried_entries w (e ∷ es) =
    ap (λ (xs : List Entry). e ∷ xs) (plain-carried_entries (step w e.caller e.event).world es)

pub length-carried_entries : (w : WorldState) (es : List Entry) → length (carried_entries w es) ≡ length es
length-carried_entries w [] = refl
length-carried_entries w (e ∷ es) = ap suc (length-carried_entries (step w e.caller e.event).world es)

-- the display after the last entry
abbrev pub front_after : WorldState → List Entry → Entry → ℕ
front_after w es e = (step (replay w es) e.caller e.event).world.display.front

pub carried_entries_more : (w : WorldState) (es : List Entry) (e : Entry)
    → carried_entries w (es ++ e ∷ []) ≡ carried_entries w es ++ carried_entry (front_after w es e) e ∷ []
carried_entries_more w [] e = refl
carried_entries_more w (x ∷ es) e =
    ap (λ (xs : List Carried).
    carried_entry (step w x.caller x.event).world.display.front x ∷ xs)
    (carried_entries_more (step w x.caller x.event).world es e)

pub display_carried_entries : (w : WorldState) (es : List Entry)
    → display_after w.display.front (carried_entries w es) ≡ (replay w es).display.front
display_carried_entries w [] = refl
display_carried_entries w (e ∷ es) = display_carried_entries (step w e.caller e.event).world es

pub take-carried_entries : (n : ℕ) (w : WorldState) (es : List Entry)
    → take n (carried_entries w es) ≡ carried_entries w (take n es)
take-carried_entries zero w es = refl
take-carried_entries (suc n) w [] = refl
take-carried_entries (suc n) w (e ∷ es) =
    ap (λ (xs : List Carried).
    carried_entry (step w e.caller e.event).world.display.front e ∷ xs)
    (take-carried_entries n (step w e.caller e.event).world es)

-- the entries of a number
pub made_carried_entries : (n : ℕ) (w : WorldState) (es : List Entry)
    → plain (entries_by n (carried_entries w es)) ≡ made_by n es
made_carried_entries n w [] = refl
made_carried_entries n w (e ∷ es) =
    let after : WorldState = (step w e.caller e.event).world in
    go (e.caller == n) (entries_by n (carried_entries after es)) (made_by n es) (made_carried_entries n after es)
  where
    go : (b : Bool) (xs : List Carried) (ys : List Entry) → plain xs ≡ ys
        → plain (cond b
        (carried_entry (step w e.caller e.event).world.display.front e ∷ xs) xs)
        ≡ cond b (e ∷ ys) ys
    go true xs ys same = ap (λ (zs : List Entry). e ∷ zs) same
    go false xs ys same = same

pub plain_more : (xs ys : List Carried) → plain (xs ++ ys) ≡ plain xs ++ plain ys
plain_more xs ys = map-append (λ (e : Carried). e.what) xs ys

-- a prefix of the carried history is a prefix of the journal
pub plain_begins : (log xs : List Carried) → StartsWith log xs → BeginsWith (plain log) (plain xs)
plain_begins log xs is = (plain is.0, ap plain is.1 ∙ plain_more xs is.0)

pub begins_plain : (w : WorldState) (es : List Entry) (xs : List Carried)
    → StartsWith (carried_entries w es) xs → BeginsWith es (plain xs)
begins_plain w es xs is =
    subst (λ (l : List Entry). BeginsWith l (plain xs)) (plain-carried_entries w es)
    (plain_begins (carried_entries w es) xs is)

-- and one that is longer
pub begins_more : (longer es xs more : List Entry) → longer ≡ es ++ more → BeginsWith es xs
    → BeginsWith longer xs
begins_more longer es xs more is begins = (
  begins.0 ++ more,
  is ∙ (ap (λ (l : List Entry). l ++ more) begins.1 ∙ append_assoc xs begins.0 more),
)

-- the journal of a shared value is carried
pub is_carried_entries : (w : WorldState) (es : List Entry) → IsLegal w es → display_of w ≡ w.display.front
    → IsCarried w (carried_entries w es)
is_carried_entries w es legal first = record {
  is = ap (carried_entries w) (sym (plain-carried_entries w es));
  legal = subst (IsLegal w) (sym (plain-carried_entries w es)) legal;
  first = first;
}

-- the word of the carried history
pub word_shown : (w : WorldState) (log : List Carried) (word : ℕ) → IsCarried w log
    → word ≡ word_of (display_of w) log → word / 64 ≡ length log
    → (word ≡ 64 * length (plain log) + (replay w (plain log)).display.front)
    × (word % 64 ≡ (replay w (plain log)).display.front)
word_shown w log word right is count =
    let shown : display_after (display_of w) log ≡ (replay w (plain log)).display.front =
    ap (λ n. display_after n log) right.first
    ∙ (ap (display_after w.display.front) right.is ∙ display_carried_entries w (plain log)) in
    let long : length (plain log) ≡ length log = length-map log (λ (e : Carried). e.what) in
    (omega (arith, is, shown, long), omega (arith, is, shown, count))

-- it is a word of every history that begins so
pub word_stands : (w : WorldState) (read history : List Entry) (word : ℕ)
    → word / 64 ≡ length read → word % 64 ≡ (replay w read).display.front
    → BeginsWith history read → IsRead w history word
word_stands w read history word count shown begins =
    let taken : take (word / 64) history ≡ read =
    ap (λ n. take n history) count
    ∙ (ap (take (length read)) begins.1 ∙ take-append_seam read begins.0) in
    let long = ap length begins.1 ∙ length-append read begins.0 in record {
      within = omega (arith, count, long);
      shown = shown ∙ ap (λ (l : List Entry). (replay w l).display.front) (sym taken);
    }

-- a display from 1 to 63 is the one that the lock begins with
pub first_display : (w : WorldState) → 0 < w.display.front → w.display.front < 64
    → display_of w ≡ w.display.front
first_display w low high = omega (arith, low, high)

pub word_carried_entries : (w : WorldState) (es : List Entry) → display_of w ≡ w.display.front
    → 64 * length es + (replay w es).display.front ≡ word_of (display_of w) (carried_entries w es)
word_carried_entries w es first =
    let shown : display_after (display_of w) (carried_entries w es) ≡ (replay w es).display.front =
    ap (λ n. display_after n (carried_entries w es)) first ∙ display_carried_entries w es in
    let long = length-carried_entries w es in omega (arith, shown, long)

-- a word of a prefix of a history is one of the history
pub word_grown : (before : ℕ) (log more : List Carried) (word : ℕ) → IsWordIn before log word
    → IsWordIn before (log ++ more) word
word_grown before log more word is = record {
  within = omega (arith, is.within, length-append log more);
  is = ap (word_of before) (take-append-le (word / 64) log more is.within) ∙ is.is;
}

-- a word that the lock knows
pub read_carried_entries : (w : WorldState) (es : List Entry) (word : ℕ) → display_of w ≡ w.display.front
    → IsWordIn (display_of w) (carried_entries w es) word → IsRead w es word
read_carried_entries w es word first is =
    let n : ℕ = word / 64 in
    let long = length-carried_entries w es in
    let taken : length (take n (carried_entries w es)) ≡ n = length-take-le n (carried_entries w es) is.within in
    let shown : display_after (display_of w) (take n (carried_entries w es))
    ≡ (replay w (take n es)).display.front =
    ap (λ d. display_after d (take n (carried_entries w es))) first
    ∙ (ap (display_after w.display.front) (take-carried_entries n w es) ∙ display_carried_entries w (take n es)) in
    let whole : 64 * length (take n (carried_entries w es))
    + display_after (display_of w) (take n (carried_entries w es)) ≡ word = is.is in record {
      within = omega (arith, is.within, long);
      shown = omega (arith, taken, shown, whole);
    }
