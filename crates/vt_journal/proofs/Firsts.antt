-- A first line is that of one version.
use Rattle.std.proofs.Common.{◌≡◌, ◌≢◌, ℕ, ◌+◌, ◌<◌, ◌^◌, ◌&&◌, ◌⊎◌, inl, inr, ⊎_elim, true, List, [], ◌∷◌, ◌++◌, codes, decimal, sym, ap, ◌∙◌, arith}
use Rattle.std.proofs.lemmas.Bool.{cases_lt}
use Rattle.std.proofs.lemmas.Fmt.{decimal_digit, decimal_injective}
use Rattle.vt_journal.specs.Callers.{IsVersion}
use Rattle.vt_journal.specs.Journal.{first_words, line_text}
use Rattle.vt_journal.specs.Says.{HasFirst, IsNoFirst}
use Rattle.vt_journal.proofs.Clear.{is_clear-decimal}
use Rattle.vt_journal.proofs.OneSpelling.{OneSpelling, first_once}

small : (version : ℕ) → IsVersion version → version < 2 ^ 64
small version known = omega (arith, known.1)

version_once : (v w : ℕ) (rest more : List (List ℕ)) → IsVersion v → IsVersion w
    → first_words v ++ rest ≡ first_words w ++ more → (v ≡ w) × (rest ≡ more)
version_once v w rest more known_v known_w same =
    let digits : decimal v ≡ decimal w = cc in
    let others : rest ≡ more = cc in
    (decimal_injective v w (small v known_v) (small w known_w) digits, others)

pub version_spelling : OneSpelling first_words IsVersion
version_spelling = record {
  clear = λ version known. ap (λ b. b && true) (is_clear-decimal version (small version known));
  once = version_once;
}

-- there are two versions
two : (version : ℕ) → IsVersion version → (version ≡ 1) ⊎ (version ≡ 2)
two version known =
    ⊎_elim (λ below. inl (omega (arith, known.0, below))) (λ above. inr (omega (arith, known.1, above)))
    (cases_lt version 2)

-- a first line by its digit
pub first_is : (version : ℕ) → version < 10
    → line_text (first_words version) ≡ codes "%journal " ++ (48 + version) ∷ 0x0A ∷ []
first_is version few = ap (λ digits. codes "%journal " ++ (digits ++ 0x0A ∷ [])) (decimal_digit version few)

pub first_line : line_text (first_words 1) ≡ codes "%journal 1\n"
first_line = first_is 1 (omega arith)

pub second_line : line_text (first_words 2) ≡ codes "%journal 2\n"
second_line = first_is 2 (omega arith)

-- a text that begins with neither line has no first line
pub no_first : (text : List ℕ) → ((rest : List ℕ) → text ≢ codes "%journal 1\n" ++ rest)
    → ((rest : List ℕ) → text ≢ codes "%journal 2\n" ++ rest) → IsNoFirst text
no_first text old new version has =
    ⊎_elim
    (λ one. old has.rest
    (has.parts ∙ ap (λ v. line_text (first_words v) ++ has.rest) one
    ∙ ap (λ line. line ++ has.rest) first_line))
    (λ other. new has.rest
    (has.parts ∙ ap (λ v. line_text (first_words v) ++ has.rest) other
    ∙ ap (λ line. line ++ has.rest) second_line))
    (two version has.known)

-- a text names one version
pub names_one : (text : List ℕ) (v : ℕ) (rest : List ℕ) → IsVersion v
    → text ≡ line_text (first_words v) ++ rest → (version : ℕ) → HasFirst version text → v ≡ version
names_one text v rest known is version has =
    (first_once version_spelling v version rest has.rest known has.known (sym is ∙ has.parts)).0
