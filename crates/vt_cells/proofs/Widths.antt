-- The widths of low codes, read off the steps of the kit's table.
use Rattle.std.proofs.Common.{◌≡◌, ℕ, ◌<◌, ◌≤◌, Bool, true, false, ◌&&◌, ◌||◌, nat_lt, nat_le, List, [], ◌∷◌, inl, inr, refl, sym, ap, ◌∙◌, cond, arith, leb-true, Option, Some, None}
use Rattle.std.proofs.lemmas.Bool.{and_parts, cases_lt, cond-true, cond-false}
use Rattle.std.proofs.lemmas.Bool.Decides.{nat_tests}
use Rattle.std.specs.Prelude.{min, unwrap_or}
use Rattle.ucd_table.specs.Steps.{Step, step_value}
use Rattle.ucd_table.proofs.StepsLemmas.{skip, step_value-skip, step_value-here, step_value-later}
use Rattle.unicode_width.proofs.Computing.{unicode_width}
use Rattle.unicode_width.proofs.KindLemmas.{kind_stepped}
use Rattle.unicode_width.specs.Kind.{kind}
use Rattle.unicode_width.specs.Width.{alone, char_width, of_kind}
use Rattle.unicode_width.specs.declared.kind.Kind.{Kind}
use Rattle.unicode_width.specs.declared.kind.Kind.TheVariants as kinds
use Rattle.vt_cells.specs.Width.{AtMostTwo, LowTakeOne, PrivateTakeOne, WorkedColumns, columns, is_character}

-- the kind of a character that takes one column
abbrev pub is_one : Kind → Bool
is_one kinds.Narrow = true
is_one kinds.Ambiguous = true
is_one _ = false

pub worked : WorkedColumns
unfolding columns unicode_width
worked = record {
  letter = refl;
  accent = refl;
  soft_hyphen = refl;
  joiner = refl;
  selector = refl;
  han = refl;
  face = refl;
  replacement = refl;
  right_half = refl;
  surrogate = refl;
  heart = refl;
  flag = refl;
  tone = refl;
  widest = refl;
  diamond = refl;
  lines = (refl, refl, refl, refl);
}

-- the steps up to n pass
abbrev pub passes_to : {V : Type 0} → (V → Bool) → ℕ → List (Step V) → Bool
passes_to p n [] = false
passes_to p n (s ∷ ss) = p s.1 && (nat_le n s.0 || passes_to p n ss)

-- the value of a code below n passes, where the steps up to n pass
value_passes : {V : Type 0} (p : V → Bool) (d : V) (n c : ℕ) → c < n → (ss : List (Step V))
    → passes_to p n ss ≡ true → p (step_value d ss c) ≡ true
value_passes p d n c below [] h = cc
value_passes p d n c below (s ∷ ss) h =
    let parts = and_parts (p s.1) (nat_le n s.0 || passes_to p n ss) h in
    elim (cases_lt c s.0) [
      | inl here ↦ ap p (step_value-here d s ss c here) ∙ parts.0
      | inr later ↦
          ap p (step_value-later d s ss c later)
          ∙ value_passes p d n c below ss (on (nat_le n s.0) refl later parts.1)
    ]
  where
    on : (test : Bool) → nat_le n s.0 ≡ test → s.0 ≤ c → (test || passes_to p n ss) ≡ true
        → passes_to p n ss ≡ true
    on true is later either = absurd (omega (arith, leb-true n s.0 is, later, below))
    on false is later either = either

-- each kind from a code on up to another passes
passes_between : (p : Kind → Bool) (low high c : ℕ) → low ≤ c → c < high
    → passes_to p high (skip kind_stepped.steps low) ≡ true → p (kind c) ≡ true
passes_between p low high c from below h =
    ap p (kind_stepped.gives c)
    ∙ sym (ap p (step_value-skip kind_stepped.default kind_stepped.steps low c from))
    ∙ value_passes p kind_stepped.default high c below (skip kind_stepped.steps low) h

pub kinds_between : (low high c : ℕ) → low ≤ c → c < high
    → passes_to is_one high (skip kind_stepped.steps low) ≡ true → is_one (kind c) ≡ true
kinds_between = passes_between is_one

-- such a kind takes one column
of_one : (k : Kind) (c : ℕ) → is_one k ≡ true → (of_kind false c k).0 ≡ 1
of_one kinds.Narrow c h = refl
of_one kinds.Ambiguous c h = refl
of_one kinds.Zero c h = cc
of_one kinds.Wide c h = cc
of_one kinds.Alef c h = cc
of_one kinds.KhmerLetter c h = cc
of_one kinds.TifinaghConsonant c h = cc
of_one kinds.LisuTone c h = cc
of_one kinds.RegionalIndicator c h = cc
of_one kinds.EmojiModifier c h = cc
of_one kinds.Emoji c h = cc
of_one kinds.Single c h = cc

-- a character beyond the controls is as wide as its kind, cut to 2
kind_gives : (c width : ℕ) → 0xA0 ≤ c → is_character c ≡ true → (of_kind false c (kind c)).0 ≡ width
    → columns c ≡ min 2 width
unfolding columns char_width alone
kind_gives c width from known h =
    let past : nat_lt c 0x7F ≡ false = grind (arith, nat_tests) in
    let shown : nat_le 0xA0 c ≡ true = grind (arith, nat_tests) in
    let taken : Option ℕ = Some (of_kind false c (kind c)).0 in
    let wide : char_width false c ≡ taken =
    cond-false (nat_lt c 0x7F) (cond (nat_le 0x20 c) (Some 1) None) (cond (nat_le 0xA0 c) taken None) past
    ∙ cond-true (nat_le 0xA0 c) taken None shown in
    cond-true (is_character c) (min 2 (unwrap_or (char_width false c) 1)) 1 known
    ∙ ap (λ w. min 2 (unwrap_or w 1)) wide
    ∙ ap (min 2) h

before_surrogates : (c : ℕ) → c < 0xD800 → is_character c ≡ true
before_surrogates c below = grind (arith, nat_tests)

pub kind_takes : (c : ℕ) → 0xA0 ≤ c → c < 0xD800 → is_one (kind c) ≡ true → columns c ≡ 1
kind_takes c from below h = kind_gives c 1 from (before_surrogates c below) (of_one (kind c) c h)

-- a wide kind takes two columns
abbrev is_two : Kind → Bool
is_two kinds.Wide = true
is_two _ = false

of_two : (k : Kind) (c : ℕ) → is_two k ≡ true → (of_kind false c k).0 ≡ 2
of_two kinds.Wide c h = refl
of_two kinds.Zero c h = cc
of_two kinds.Narrow c h = cc
of_two kinds.Ambiguous c h = cc
of_two kinds.Alef c h = cc
of_two kinds.KhmerLetter c h = cc
of_two kinds.TifinaghConsonant c h = cc
of_two kinds.LisuTone c h = cc
of_two kinds.RegionalIndicator c h = cc
of_two kinds.EmojiModifier c h = cc
of_two kinds.Emoji c h = cc
of_two kinds.Single c h = cc

han_passes : passes_to is_two 0xA000 (skip kind_stepped.steps 0x3400) ≡ true
unfolding unicode_width
han_passes = refl

hangul_passes : passes_to is_two 0xD7A4 (skip kind_stepped.steps 0xAC00) ≡ true
unfolding unicode_width
hangul_passes = refl

pub han : (c : ℕ) → 0x3400 ≤ c → c ≤ 0x9FFF → columns c ≡ 2
han c from to =
    let below : c < 0xA000 = omega (arith, to) in
    kind_gives c 2 (omega (arith, from)) (before_surrogates c (omega (arith, to)))
    (of_two (kind c) c (passes_between is_two 0x3400 0xA000 c from below han_passes))

pub hangul : (c : ℕ) → 0xAC00 ≤ c → c ≤ 0xD7A3 → columns c ≡ 2
hangul c from to =
    let below : c < 0xD7A4 = omega (arith, to) in
    kind_gives c 2 (omega (arith, from)) (before_surrogates c (omega (arith, to)))
    (of_two (kind c) c (passes_between is_two 0xAC00 0xD7A4 c from below hangul_passes))

-- from these steps of the table on, up to the first that doesn't end below a code
latin_passes : passes_to is_one 0xAD (skip kind_stepped.steps 0xA0) ≡ true
unfolding unicode_width
latin_passes = refl

letters_pass : passes_to is_one 0x300 (skip kind_stepped.steps 0xAE) ≡ true
unfolding unicode_width
letters_pass = refl

-- the codes below A0 that the table isn't asked for
pub control_takes : (c : ℕ) → c < 0xA0 → columns c ≡ 1
unfolding columns char_width
control_takes c below =
    grind (arith, nat_tests)

pub low : LowTakeOne
low c below other =
    elim (cases_lt c 0xA0) [
      | inl first ↦ control_takes c first
      | inr from ↦
          elim (cases_lt c 0xAD) [
            | inl second ↦ kind_takes c from (omega (arith, second)) (kinds_between 0xA0 0xAD c from second latin_passes)
            | inr third ↦
                kind_takes c from (omega (arith, below))
                (kinds_between 0xAE 0x300 c (omega (arith, third, other)) below letters_pass)
          ]
    ]

private_passes : passes_to is_one 0xF900 (skip kind_stepped.steps 0xE000) ≡ true
unfolding unicode_width
private_passes = refl

after_surrogates : (c : ℕ) → 0xE000 ≤ c → c < 0xF900 → is_character c ≡ true
after_surrogates c from below = grind (arith, nat_tests)

pub private_take : PrivateTakeOne
private_take c from below =
    kind_gives c 1 (omega (arith, from)) (after_surrogates c from below)
    (of_one (kind c) c (kinds_between 0xE000 0xF900 c from below private_passes))

pub most : AtMostTwo
unfolding columns
most c = grind arith

pub hyphen : columns 0xAD ≡ 0
hyphen = worked.soft_hyphen

pub ruleset widths = (worked, low, private_take, most, hyphen, han, hangul)
