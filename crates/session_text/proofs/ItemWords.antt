-- The words of script items.
use Rattle.std.proofs.Common.{◌≡◌, ℕ, ◌+◌, ◌<◌, ◌≤◌, ◌^◌, List, [], ◌∷◌, ◌++◌, Bor, Option, Some, None, Result, Ok, Err, IfOk, IfNone, codes, decimal, length, get_or, map, drop, false, inl, inr, sym, ap, ◌∙◌, true≢false, arith}
use Rattle.std.proofs.Math.Seq.{drop-append_seam}
use Rattle.std.proofs.lemmas.List.{append_assoc, length-append}
use Rattle.std.proofs.lemmas.List.Splits.{join_with_byte-slice_split}
use Rattle.vt_base.specs.declared.no_memory.NoMemory.{NoMemory}
use Rattle.vt_events.specs.declared.event.Event.{Event}
use Rattle.vt_journal.specs.Words.{Spells, joined_by_blanks}
use Rattle.session_text.specs.HookTexts.{words_of}
use Rattle.session_text.specs.ItemTexts.{AreSay, IsItem, IsSaid, IsSay, is_item}
use Rattle.session_text.specs.declared.item_texts.Said.{Said}

pub say_words : (words : List (Bor (List ℕ))) (d : Bor (List ℕ)) (fd : ℕ) → 3 ≤ length words
    → (get_or words 0 d).now ≡ codes "say" → decimal fd ≡ (get_or words 1 d).now → fd < 2 ^ 16
    → IsSaid (map (λ (word : Bor (List ℕ)). word.now) words) (record {
      fd = fd;
      start = length (get_or words 1 d).now + 5;
    })
say_words [] d fd many name number fits = absurd (omega (arith, many))
say_words (a ∷ []) d fd many name number fits = absurd (omega (arith, many))
say_words (a ∷ b ∷ []) d fd many name number fits = absurd (omega (arith, many))
say_words (a ∷ b ∷ x ∷ more) d fd many name number fits = record {
  say = record {
    first = x.now;
    more = map (λ (word : Bor (List ℕ)). word.now) more;
    fits = fits;
    are = λ i. name i ∷ sym number i ∷ x.now ∷ map (λ (word : Bor (List ℕ)). word.now) more;
  };
  start = ap (λ (word : List ℕ). length word + 5) (sym number);
}

-- a text is its words with the blanks between them
pub text_of_words : (text : List ℕ) → joined_by_blanks (words_of text) ≡ text
text_of_words text = join_with_byte-slice_split 0x20 text

-- the words of a `say` begin its text
pub say_text : (text : List ℕ) (fd : ℕ) (say : AreSay (words_of text) fd)
    → text ≡ 115 ∷ 97 ∷ 121 ∷ 32 ∷ (decimal fd ++ 32 ∷ joined_by_blanks (say.first ∷ say.more))
say_text text fd say = sym (text_of_words text) ∙ ap joined_by_blanks say.are

-- the place at which the text of a `say` starts
pub say_start : (text : List ℕ) (said : Said) (s : IsSaid (words_of text) said)
    → (said.start ≤ length text) × (drop said.start text ≡ joined_by_blanks (s.say.first ∷ s.say.more))
say_start text said s =
    let front : List ℕ = 115 ∷ 97 ∷ 121 ∷ 32 ∷ (decimal said.fd ++ 32 ∷ []) in
    let tail : List ℕ = joined_by_blanks (s.say.first ∷ s.say.more) in
    let is : text ≡ front ++ tail =
    say_text text said.fd s.say
    ∙ ap (λ (end : List ℕ). 115 ∷ 97 ∷ 121 ∷ 32 ∷ end) (sym (append_assoc (decimal said.fd) (32 ∷ []) tail)) in
    let front_len = length-append (decimal said.fd) (32 ∷ []) in
    let long : length front ≡ said.start = omega (arith, front_len, s.start) in
    let whole = ap length is ∙ length-append front tail in (
      omega (arith, whole, long),
      (λ i. drop (sym long i) (is i)) ∙ drop-append_seam front tail,
    )

-- a text that is no `say` and spells no call of a script is no item
pub no_item : (text : List ℕ) (r : Result (Option Event) NoMemory)
    → ((e : Event) → IsSay text e → ⊥)
    → IfOk r (λ found. IfNone found ((e : Event) → Spells text e → is_item e ≡ false))
    → IfOk r (λ found. IfNone found ((e : Event) → IsItem text e → ⊥))
no_item text (Ok None) no_say none = λ e item.
    elim item [ inl call ↦ true≢false (sym call.1 ∙ none e call.0) | inr say ↦ no_say e say ]
no_item text (Ok (Some found)) no_say none = tt
no_item text (Err e) no_say none = tt
