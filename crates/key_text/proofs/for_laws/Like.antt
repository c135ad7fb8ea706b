-- Words that stand for the same, and rows of such words.
use Rattle.std.proofs.Common.{◌≡◌, ℕ, ◌==◌, Bool, false, not, IsTrue, Option, Some, None, Ok, Err, List, [], ◌∷◌, length, refl, sym, subst}
use Rattle.key_syms.specs.Names.{symbol}
use Rattle.key_syms.specs.Numbers.{is_between, number_of}
use Rattle.std.specs.Str.Lossy.{utf8_valid_len}
use Rattle.key_text.proofs.for_laws.Same.{Same, pick}
use Rattle.key_text.specs.FaultKinds.{BAD_TEXT}
use Rattle.key_text.specs.Fault.{fault}
use Rattle.key_text.specs.Fields.{is_quoted}
use Rattle.key_text.specs.Lines.{tables_in}
use Rattle.key_text.specs.Quoted.{character_of, text_of}
use Rattle.key_text.specs.SameWords.{SameWords, ended, word}
use Rattle.key_text.specs.Words.{bytes, is_word, next, nth_place, required_word, whole, word_at}
use Rattle.key_text.specs.declared.placed.Place.{Place}
use Rattle.key_text.specs.declared.placed.Placed.{Placed}

-- the text of a keyword: it begins with no digit
abbrev pub begins_key : List ℕ → Bool
begins_key [] = false
begins_key (b ∷ bs) = not (is_between 0x30 0x39 b)

-- two words are read alike wherever they stand
pub record Like (v w : List Placed) : Type 0 where
  pub valid : (utf8_valid_len (bytes v) == length v) ≡ (utf8_valid_len (bytes w) == length w)
  pub keyword : (text : List ℕ) → IsTrue (begins_key text) → is_word text v ≡ is_word text w
  pub number : number_of (bytes v) ≡ number_of (bytes w)
  pub symbol : symbol (bytes v) ≡ symbol (bytes w)
  pub text : text_of v ≡ text_of w
  pub character : character_of v ≡ character_of w
  pub quoted : is_quoted v ≡ is_quoted w
  pub tables : Same (λ x y. x ≡ y) (tables_in v (bytes v)) (tables_in w (bytes w))

-- rows of words that are read alike
abbrev pub Alike : List Placed → List Placed → Type 0
Alike i j = SameWords Like i j

-- a word and what follows it
abbrev pub Words : List Placed × List Placed → List Placed × List Placed → Type 0
Words v w = Like v.0 w.0 × Alike v.1 w.1

abbrev pub Nexts : Option (List Placed × List Placed) → Option (List Placed × List Placed) → Type 0
Nexts None None = Unit {0}
Nexts None (Some w) = ⊥
Nexts (Some v) None = ⊥
Nexts (Some v) (Some w) = Words v w

pub nexts : (i j : List Placed) → Alike i j → Nexts (word_at i) (word_at j)
nexts i j (ended _ _ e f) = subst (λ (x : Option (List Placed × List Placed)). Nexts x (word_at j)) (sym e) (subst (λ (y : Option (List Placed × List Placed)). Nexts None y) (sym f) tt)
nexts i j (word _ _ v w e f l s) = subst (λ (x : Option (List Placed × List Placed)). Nexts x (word_at j)) (sym e) (subst (λ (y : Option (List Placed × List Placed)). Nexts (Some v) y) (sym f) (l, s))

pub wholes : (v w : List Placed × List Placed) → Words v w → Same Words (whole v) (whole w)
unfolding whole
wholes v w l =
    pick Words (utf8_valid_len (bytes v.0) == length v.0) (utf8_valid_len (bytes w.0) == length w.0)
    (Ok v) (Err (fault BAD_TEXT (nth_place v.0 (utf8_valid_len (bytes v.0)))))
    (Ok w) (Err (fault BAD_TEXT (nth_place w.0 (utf8_valid_len (bytes w.0)))))
    (l.0).valid l refl

takens : (kind : ℕ) (d e : Place) (x y : Option (List Placed × List Placed)) → Nexts x y → Same Words (required_word kind d x) (required_word kind e y)
takens kind d e None None l = refl
takens kind d e None (Some w) l = absurd l
takens kind d e (Some v) None l = absurd l
takens kind d e (Some v) (Some w) l = wholes v w l

pub taking : (kind : ℕ) (d e : Place) (i j : List Placed) → Alike i j → Same Words (next kind d i) (next kind e j)
unfolding next
taking kind d e i j s = takens kind d e (word_at i) (word_at j) (nexts i j s)
