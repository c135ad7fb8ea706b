-- The actions that the symbol table names.
use Rattle.std.proofs.Common.{◌≡◌, ℕ, zero, suc, ◌+◌, ◌<◌, ◌≤◌, Bool, true, ◌==◌, ◌&&◌, ◌||◌, leb, ◌⊎◌, inl, inr, refl, sym, subst, arith}
use Rattle.std.proofs.lemmas.Bool.{and_parts, eqb-true, leb-true, or_cases}
use Rattle.std.proofs.lemmas.Bool.Decides.{eqb_tells}
use Rattle.std.specs.List.{list_any}
use Rattle.key_syms.specs.Act.{act, is_action, is_character}
use Rattle.key_syms.specs.Names.{same_act}
use Rattle.key_syms.specs.Symbols.{symbols}

-- a symbol has the action
unfoldable pub is_named : ℕ → ℕ → Bool
is_named kind value = list_any (λ s. same_act s.act (act kind value)) symbols

-- n values of a kind, from a first one on, are named
abbrev pub are_named : ℕ → ℕ → ℕ → Bool
are_named kind from zero = true
are_named kind from (suc n) = is_named kind from && are_named kind (suc from) n

named_hole : are_named 0 0 1 ≡ true
unfolding is_named symbols
named_hole = refl

named_metas : are_named 3 0 128 ≡ true
unfolding is_named symbols
named_metas = refl

named_functions : are_named 4 0 256 ≡ true
unfolding is_named symbols
named_functions = refl

named_pads : are_named 5 0 17 ≡ true
unfolding is_named symbols
named_pads = refl

named_cursors : are_named 6 0 4 ≡ true
unfolding is_named symbols
named_cursors = refl

named_dead : are_named 7 0 6 ≡ true
unfolding is_named symbols
named_dead = refl

named_modifiers : are_named 8 0 8 ≡ true
unfolding is_named symbols
named_modifiers = refl

named_locks : are_named 9 0 8 ≡ true
unfolding is_named symbols
named_locks = refl

named_sticky : are_named 10 0 8 ≡ true
unfolding is_named symbols
named_sticky = refl

named_consoles : are_named 11 1 63 ≡ true
unfolding is_named symbols
named_consoles = refl

named_special : are_named 12 1 19 ≡ true
unfolding is_named symbols
named_special = refl

named_digits : are_named 13 0 10 ≡ true
unfolding is_named symbols
named_digits = refl

one_named : (kind n from value : ℕ) → are_named kind from n ≡ true → from ≤ value → value < from + n → is_named kind value ≡ true
one_named kind zero from value e h k = absurd (omega arith)
one_named kind (suc n) from value e h k =
    let parts = and_parts (is_named kind from) (are_named kind (suc from) n) e in
    elim (eqb_tells from value) [
      | inl same ↦ subst (λ (v : ℕ). is_named kind v ≡ true) same.1 parts.0
      | inr other ↦
          one_named kind n (suc from) value parts.1 (above from value h other.1) (let e : suc from + n ≡ from + suc n = omega arith in omega (arith, e, k))
    ]
  where
    above : (a b : ℕ) → a ≤ b → (a ≡ b → ⊥) → suc a ≤ b
    above a b h ne = omega arith

-- the action is named, or it is a character or a letter
abbrev pub NamedOrCharacter : ℕ → ℕ → Type 0
NamedOrCharacter kind value =
    (is_named kind value ≡ true)
    ⊎ (((kind ≡ 1) ⊎ (kind ≡ 2)) × (is_character value ≡ true))

listed : (kind value k n from : ℕ) (test : Bool) → are_named k from n ≡ true → (kind == k && test) ≡ true → (test ≡ true → from ≤ value) → (test ≡ true → value < from + n) → NamedOrCharacter kind value
listed kind value k n from test all e low high =
    let parts = and_parts (kind == k) test e in
    let same : k ≡ kind = sym (eqb-true kind k parts.0) in
    inl (subst (λ (x : ℕ). is_named x value ≡ true) same (one_named k n from value all (low parts.1) (high parts.1)))

up_to : (kind value k most : ℕ) → are_named k 0 (suc most) ≡ true → (kind == k && leb value most) ≡ true → NamedOrCharacter kind value
up_to kind value k most all e =
    listed kind value k (suc most) 0 (leb value most) all e (λ _. omega arith) (λ t. omega (arith, leb-true value most t))

between : (kind value k most : ℕ) → are_named k 1 most ≡ true → ((kind == k && leb 1 value) && leb value most) ≡ true → NamedOrCharacter kind value
between kind value k most all e =
    let parts = and_parts (kind == k && leb 1 value) (leb value most) e in
    let low = and_parts (kind == k) (leb 1 value) parts.0 in
    listed kind value k most 1 true all (rw low.0 refl) (λ _. leb-true 1 value low.1) (λ _. omega (arith, leb-true value most parts.1))

character : (kind value k : ℕ) → ((k ≡ 1) ⊎ (k ≡ 2)) → (kind == k && is_character value) ≡ true → NamedOrCharacter kind value
character kind value k which e =
    let parts = and_parts (kind == k) (is_character value) e in
    inr (subst (λ (x : ℕ). (x ≡ 1) ⊎ (x ≡ 2)) (sym (eqb-true kind k parts.0)) which, parts.1)

pub named_or_character : (kind value : ℕ) → is_action kind value ≡ true → NamedOrCharacter kind value
named_or_character kind value e = elim (or_cases _ (kind == 13 && leb value 9) e) [
  | inr h ↦ up_to kind value 13 9 named_digits h
  | inl e ↦ elim (or_cases _ (kind == 12 && leb 1 value && leb value 19) e) [
    | inr h ↦ between kind value 12 19 named_special h
    | inl e ↦ elim (or_cases _ (kind == 11 && leb 1 value && leb value 63) e) [
      | inr h ↦ between kind value 11 63 named_consoles h
      | inl e ↦ elim (or_cases _ (kind == 10 && leb value 7) e) [
        | inr h ↦ up_to kind value 10 7 named_sticky h
        | inl e ↦ elim (or_cases _ (kind == 9 && leb value 7) e) [
          | inr h ↦ up_to kind value 9 7 named_locks h
          | inl e ↦ first_kinds e
        ]
      ]
    ]
  ]
]
  where
    first_kinds : ((kind == 0 && value == 0) || (kind == 1 && is_character value) || (kind == 2 && is_character value) || (kind == 3 && leb value 127) || (kind == 4 && leb value 255) || (kind == 5 && leb value 16) || (kind == 6 && leb value 3) || (kind == 7 && leb value 5) || (kind == 8 && leb value 7)) ≡ true → NamedOrCharacter kind value
    first_kinds e = elim (or_cases _ (kind == 8 && leb value 7) e) [
      | inr h ↦ up_to kind value 8 7 named_modifiers h
      | inl e ↦ elim (or_cases _ (kind == 7 && leb value 5) e) [
        | inr h ↦ up_to kind value 7 5 named_dead h
        | inl e ↦ elim (or_cases _ (kind == 6 && leb value 3) e) [
          | inr h ↦ up_to kind value 6 3 named_cursors h
          | inl e ↦ elim (or_cases _ (kind == 5 && leb value 16) e) [
            | inr h ↦ up_to kind value 5 16 named_pads h
            | inl e ↦ elim (or_cases _ (kind == 4 && leb value 255) e) [
              | inr h ↦ up_to kind value 4 255 named_functions h
              | inl e ↦ elim (or_cases _ (kind == 3 && leb value 127) e) [
                | inr h ↦ up_to kind value 3 127 named_metas h
                | inl e ↦ elim (or_cases _ (kind == 2 && is_character value) e) [
                  | inr h ↦ character kind value 2 (inr refl) h
                  | inl e ↦ elim (or_cases (kind == 0 && value == 0) (kind == 1 && is_character value) e) [
                    | inr h ↦ character kind value 1 (inl refl) h
                    | inl h ↦
                        let parts = and_parts (kind == 0) (value == 0) h in
                        up_to kind value 0 0 named_hole (rw (parts.0, eqb-true value 0 parts.1) refl)
                  ]
                ]
              ]
            ]
          ]
        ]
      ]
    ]
