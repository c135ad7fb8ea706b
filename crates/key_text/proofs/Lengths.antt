-- The length of the prefix of a list that passes a test, and of a quoted text.
use Rattle.std.proofs.Common.{◌≡◌, ℕ, suc, zero, ◌+◌, Bool, true, false, cond, nat_lt, List, [], ◌∷◌, length, drop, refl, sym, ap, ◌∙◌, subst, arith}
use Rattle.std.proofs.lemmas.List.Sums.{prefix_len-le-length}
use Rattle.std.proofs.lemmas.Bool.{ltb-true}
use Rattle.std.proofs.lemmas.List.{length-map}
use Rattle.std.proofs.lemmas.Str.{IsUtf8-from_ascii, utf8_valid_len-IsUtf8}
use Rattle.std.specs.List.{prefix_len}
use Rattle.std.specs.Option.{option_map}
use Rattle.std.specs.Str.{IsAscii, IsUtf8}
use Rattle.std.specs.Str.Lossy.{utf8_valid_len}
use Rattle.key_text.specs.Words.{bytes, close_at}
use Rattle.key_text.specs.declared.placed.Placed.{Placed}

-- the whole of a text is UTF-8
pub whole_text : (text bytes : List ℕ) → text ≡ bytes → IsUtf8 bytes → length text ≡ utf8_valid_len bytes
whole_text text bytes e h = ap length e ∙ sym (utf8_valid_len-IsUtf8 bytes h)

-- a prefix is no longer than its list
pub ruleset prefixes_end = (prefix_len-le-length)

-- the items before i pass
abbrev pub PassesBelow : {X : Type 0} → (X → Bool) → List X → ℕ → Type 0
PassesBelow test items i = i + prefix_len test (drop i items) ≡ prefix_len test items

-- the first i items don't close the text
abbrev pub OpenBelow : ℕ → List Placed → ℕ → Bool → Type 0
OpenBelow q items i escaped =
    close_at q false items ≡ option_map (λ n. i + n) (close_at q escaped (drop i items))

-- a word of bytes below 128
plain_cons : (p : Placed) (ps : List Placed) (b : Bool) → nat_lt p.byte 128 ≡ b → prefix_len (λ p. nat_lt p.byte 128) (p ∷ ps) ≡ suc (length ps) → (prefix_len (λ p. nat_lt p.byte 128) ps ≡ length ps → IsAscii (bytes ps)) → IsAscii (bytes (p ∷ ps))
plain_cons p ps true low e rest zero = ltb-true p.byte 128 low
plain_cons p ps true low e rest (suc i) =
    rest (let f : cond true (1 + prefix_len (λ p. nat_lt p.byte 128) ps) 0 ≡ suc (length ps) = subst (λ (b : Bool). cond b (1 + prefix_len (λ p. nat_lt p.byte 128) ps) 0 ≡ suc (length ps)) low e in omega arith) i
plain_cons p ps false high e rest i =
    absurd (let f : cond false (1 + prefix_len (λ p. nat_lt p.byte 128) ps) 0 ≡ suc (length ps) = subst (λ (b : Bool). cond b (1 + prefix_len (λ p. nat_lt p.byte 128) ps) 0 ≡ suc (length ps)) high e in omega arith)

plain_bytes : (word : List Placed) → prefix_len (λ p. nat_lt p.byte 128) word ≡ length word → IsAscii (bytes word)
plain_bytes [] e = λ i. omega arith
plain_bytes (p ∷ ps) e = plain_cons p ps (nat_lt p.byte 128) refl e (plain_bytes ps)

-- is UTF-8
pub plain_text : (word : List Placed) → prefix_len (λ p. nat_lt p.byte 128) word ≡ length word → length word ≡ utf8_valid_len (bytes word)
plain_text word e =
    sym (utf8_valid_len-IsUtf8 (bytes word) (IsUtf8-from_ascii (bytes word) (plain_bytes word e)) ∙ length-map word (λ p. p.byte))
