-- A line has the meaning of one item.
use Rattle.std.proofs.Common.{◌≡◌, ℕ, ◌<◌, ◌≤◌, ◌^◌, Bool, true, false, true≢false, ◌&&◌, Option, Some, None, is_some, List, [], ◌∷◌, ◌++◌, codes, decimal, refl, ap, arith}
use Rattle.std.specs.Borrow.{Bor}
use Rattle.std.specs.Option.{MatchOption}
use Rattle.std.specs.Prelude.{◌==◌}
use Rattle.std.proofs.lemmas.Fmt.{decimal_injective}
use Rattle.vt_explain.specs.CertText.{IsFit, IsFitAsk, IsFitCause, asked_words, cause_words, head_words, item_words}
use Rattle.vt_explain.specs.declared.hop_cause.HopCause.{HopCause}
use Rattle.vt_explain.specs.declared.hop_cause.HopCause.TheVariants as why
use Rattle.vt_explain.specs.declared.hop_why.HopWhy.{HopWhy}
use Rattle.vt_journal.proofs.Clear.{are_clear, is_clear, is_clear-decimal}
use Rattle.vt_journal.proofs.Once.{same_number, small}
use Rattle.vt_journal.proofs.OneSpelling.{OneSpelling}
use Rattle.vt_journal.specs.Readers.{if_none_left}

clear_number : (n : ℕ) → n ≤ 4294967295 → is_clear (decimal n) ≡ true
clear_number n fit = is_clear-decimal n (small n fit)

clear_ask : (owner asked signal : ℕ) → IsFitAsk owner asked signal
    → are_clear (asked_words owner asked signal) ≡ true
clear_ask owner asked signal fit =
    let first = clear_number owner (omega (arith, fit.0)) in
    let second = clear_number asked fit.1 in
    let third = clear_number signal (omega (arith, fit.3)) in
    λ j. first j && (true && (second j && (true && (third j && true))))

clear_cause : (c : HopCause) → IsFitCause c → are_clear (cause_words c) ≡ true
clear_cause why.Free fit = refl
clear_cause (why.Released owner asked signal) fit =
    ap (λ b. true && b) (clear_ask owner asked signal fit)
clear_cause (why.Died owner asked signal) fit =
    ap (λ b. true && b) (clear_ask owner asked signal fit)

-- the words of an item after its first one
abbrev later_words : HopWhy → List (List ℕ)
later_words w = decimal w.nth ∷ decimal w.from ∷ decimal w.to ∷ cause_words w.cause

clear_later : (w : HopWhy) → IsFit w → are_clear (later_words w) ≡ true
clear_later w fit =
    let nth = clear_number w.nth fit.nth in
    let from = clear_number w.from (omega (arith, fit.from.1)) in
    let to = clear_number w.to (omega (arith, fit.to.1)) in
    let cause = clear_cause w.cause fit.cause in
    λ j. nth j && (from j && (to j && cause j))

-- words are one ask and the words after it, in one way
record SameAsk (p a s q b t : ℕ) (u v : List (List ℕ)) : Type 0 where
  owner : p ≡ q
  asked : a ≡ b
  signal : s ≡ t
  rest : u ≡ v

ask_once : (p a s q b t : ℕ) (u v : List (List ℕ)) → IsFitAsk p a s → IsFitAsk q b t
    → asked_words p a s ++ u ≡ asked_words q b t ++ v → SameAsk p a s q b t u v
ask_once p a s q b t u v fit_p fit_q same =
    let owners : decimal p ≡ decimal q = cc in
    let asks : decimal a ≡ decimal b = cc in
    let signals : decimal s ≡ decimal t = cc in
    let others : u ≡ v = cc in
    record {
      owner = same_number p q (omega (arith, fit_p.0)) (omega (arith, fit_q.0)) owners;
      asked = same_number a b fit_p.1 fit_q.1 asks;
      signal = same_number s t (omega (arith, fit_p.3)) (omega (arith, fit_q.3)) signals;
      rest = others;
    }

abbrev begins_with : ℕ → List ℕ → Bool
begins_with b [] = false
begins_with b (first ∷ word) = first == b

-- words are one cause and the words after it, in one way
cause_once : (c d : HopCause) (u v : List (List ℕ)) → IsFitCause c → IsFitCause d
    → cause_words c ++ u ≡ cause_words d ++ v → (c ≡ d) × (u ≡ v)
cause_once why.Free why.Free u v fit_c fit_d same =
    let others : u ≡ v = cc in
    (refl, others)
cause_once (why.Released p a s) (why.Released q b t) u v fit_c fit_d same =
    let rest : asked_words p a s ++ u ≡ asked_words q b t ++ v = cc in
    let one : SameAsk p a s q b t u v = ask_once p a s q b t u v fit_c fit_d rest in
    (λ j. why.Released (one.owner j) (one.asked j) (one.signal j), one.rest)
cause_once (why.Died p a s) (why.Died q b t) u v fit_c fit_d same =
    let rest : asked_words p a s ++ u ≡ asked_words q b t ++ v = cc in
    let one : SameAsk p a s q b t u v = ask_once p a s q b t u v fit_c fit_d rest in
    (λ j. why.Died (one.owner j) (one.asked j) (one.signal j), one.rest)
cause_once why.Free (why.Released q b t) u v fit_c fit_d same =
    let names : codes "free" ≡ codes "released" = cc in
    absurd (true≢false (ap (begins_with 102) names))
cause_once why.Free (why.Died q b t) u v fit_c fit_d same =
    let names : codes "free" ≡ codes "died" = cc in
    absurd (true≢false (ap (begins_with 102) names))
cause_once (why.Released p a s) why.Free u v fit_c fit_d same =
    let names : codes "released" ≡ codes "free" = cc in
    absurd (true≢false (ap (begins_with 114) names))
cause_once (why.Released p a s) (why.Died q b t) u v fit_c fit_d same =
    let names : codes "released" ≡ codes "died" = cc in
    absurd (true≢false (ap (begins_with 114) names))
cause_once (why.Died p a s) why.Free u v fit_c fit_d same =
    let names : codes "died" ≡ codes "free" = cc in
    absurd (true≢false (ap (begins_with 100) names))
cause_once (why.Died p a s) (why.Released q b t) u v fit_c fit_d same =
    let names : codes "died" ≡ codes "released" = cc in
    absurd (true≢false (ap (begins_with 100) names))

-- words are one item and the words after it, in one way
item_once : (w x : HopWhy) (u v : List (List ℕ)) → IsFit w → IsFit x
    → item_words w ++ u ≡ item_words x ++ v → (w ≡ x) × (u ≡ v)
item_once w x u v fit_w fit_x same =
    let ats : decimal w.at ≡ decimal x.at = cc in
    let nths : decimal w.nth ≡ decimal x.nth = cc in
    let froms : decimal w.from ≡ decimal x.from = cc in
    let tos : decimal w.to ≡ decimal x.to = cc in
    let others : cause_words w.cause ++ u ≡ cause_words x.cause ++ v = cc in
    let at : w.at ≡ x.at = same_number w.at x.at fit_w.at fit_x.at ats in
    let nth : w.nth ≡ x.nth = same_number w.nth x.nth fit_w.nth fit_x.nth nths in
    let from : w.from ≡ x.from =
    same_number w.from x.from (omega (arith, fit_w.from.1)) (omega (arith, fit_x.from.1)) froms in
    let to : w.to ≡ x.to =
    same_number w.to x.to (omega (arith, fit_w.to.1)) (omega (arith, fit_x.to.1)) tos in
    let cause = cause_once w.cause x.cause u v fit_w.cause fit_x.cause others in (
      λ j. record { at = at j; nth = nth j; from = from j; to = to j; cause = cause.0 j },
      cause.1,
    )

pub item_spelling : OneSpelling item_words IsFit
item_spelling = record {
  clear = λ w fit. (let at = clear_number w.at fit.at in let others = clear_later w fit in λ j. at j && others j);
  once = item_once;
}

head_once : (m n : ℕ) (u v : List (List ℕ)) → m ≤ 4294967295 → n ≤ 4294967295
    → head_words m ++ u ≡ head_words n ++ v → (m ≡ n) × (u ≡ v)
head_once m n u v fit_m fit_n same =
    let numbers : decimal m ≡ decimal n = cc in
    let others : u ≡ v = cc in
    (same_number m n fit_m fit_n numbers, others)

pub head_spelling : OneSpelling head_words (λ n. n ≤ 4294967295)
head_spelling = record { clear = λ n fit. ap (λ b. b && true) (clear_number n fit); once = head_once }

-- if there is a next word some are left, and otherwise none
pub left_some : {X : Type 0} (r : Option (Bor (List ℕ))) (old new : List (List ℕ)) (taken : Option X)
    → MatchOption r ((old ≡ []) × (new ≡ [])) (λ word. old ≡ word.now ∷ new) → is_some r ≡ true
    → if_none_left old taken ≡ None
left_some (Some word) old new taken is some = ap (λ words. if_none_left words taken) is
left_some None old new taken is some = cc

pub left_none : {X : Type 0} (r : Option (Bor (List ℕ))) (old new : List (List ℕ)) (taken : Option X)
    → MatchOption r ((old ≡ []) × (new ≡ [])) (λ word. old ≡ word.now ∷ new) → is_some r ≡ false
    → if_none_left old taken ≡ taken
left_none (Some word) old new taken is none = cc
left_none None old new taken is none = ap (λ words. if_none_left words taken) is.0

-- the words that are left after the first words
pub after_three : (w0 w1 w2 w3 : List (List ℕ)) (a b c d e f : List ℕ) (u : List (List ℕ))
    → w0 ≡ a ∷ w1 → w1 ≡ b ∷ w2 → w2 ≡ c ∷ w3 → w0 ≡ d ∷ e ∷ f ∷ u → w3 ≡ u
after_three w0 w1 w2 w3 a b c d e f u first second third same = cc

-- no number from 1 on has the spelling of 0
pub not_zero : (m n : ℕ) (u v w : List (List ℕ)) → m ≡ 0 → 1 ≤ n → n < 2 ^ 64
    → w ≡ decimal m ∷ u → w ≡ decimal n ∷ v → ⊥
not_zero m n u v w zero low fits found is =
    let words : decimal m ≡ decimal n = cc in
    let same : m ≡ n = decimal_injective m n (omega (arith, zero)) fits words in
    omega (arith, same, zero, low)
