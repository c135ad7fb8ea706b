-- The usual pairs, and the pairs of the lines, in order.
use Rattle.std.specs.Prelude.{ℕ, List, [], ◌∷◌, ◌++◌, codes}
use Rattle.std.specs.List.{flat_map}
use Rattle.key_syms.specs.declared.pair.Pair.{Pair}
use Rattle.key_text.specs.KeymapLine.{LineMeaning, KeymapLine, keymaps, keys, one, string, compose, alt_is_meta, usual_strings, usual_pairs}

-- the pairs of accents, bases and results that stand at the same places of three texts
abbrev pub pairs_of : List ℕ → List ℕ → List ℕ → List Pair
pairs_of [] bases results = []
pairs_of (accent ∷ accents) [] results = []
pairs_of (accent ∷ accents) (base ∷ bases) [] = []
pairs_of (accent ∷ accents) (base ∷ bases) (result ∷ results) =
    record { accent = accent; base = base; result = result } ∷ pairs_of accents bases results

-- the pairs of one accent
abbrev pub with_bases : ℕ → List ℕ → List ℕ → List Pair
with_bases accent [] results = []
with_bases accent (base ∷ bases) [] = []
with_bases accent (base ∷ bases) (result ∷ results) =
    record { accent = accent; base = base; result = result } ∷ with_bases accent bases results

-- the usual pairs: grave, acute, circumflex, tilde, diaeresis and cedilla, then two characters each
unfoldable pub usual : List Pair
usual =
    with_bases 0x60 (codes "AEIOUaeiou") (codes "ÀÈÌÒÙàèìòù")
    ++ with_bases 0x27 (codes "AEIOUYaeiouy") (codes "ÁÉÍÓÚÝáéíóúý")
    ++ with_bases 0x5E (codes "AEIOUaeiou") (codes "ÂÊÎÔÛâêîôû")
    ++ with_bases 0x7E (codes "ANOano") (codes "ÃÑÕãñõ")
    ++ with_bases 0x22 (codes "AEIOUaeiouy") (codes "ÄËÏÖÜäëïöüÿ")
    ++ with_bases 0x2C (codes "Cc") (codes "Çç")
    ++ pairs_of (codes "AaOosAa--Tt<>?!") (codes "Ee//sAaDdHh<>?!") (codes "ÆæØøßÅåÐðÞþ«»¿¡")

abbrev pub pairs_by : LineMeaning → List Pair
pairs_by (keymaps tables) = []
pairs_by (keys code actions) = []
pairs_by (one table code action) = []
pairs_by (string func bytes) = []
pairs_by (compose pair) = pair ∷ []
pairs_by alt_is_meta = []
pairs_by usual_strings = []
pairs_by usual_pairs = usual

abbrev pub pairs_in : List KeymapLine → List Pair
pairs_in lines = flat_map (λ l. pairs_by l.meaning) lines
