-- The rows of a dump as texts of parts.
use Rattle.std.proofs.Common.{◌≡◌, ℕ, ◌/◌, ◌%◌, false, ◌==◌, cond, List, [], ◌++◌, codes, decimal, map, append_assoc, append-nil, sym, ap, ◌∙◌, arith}
use Rattle.std.specs.List.{flat_map}
use Rattle.key_syms.specs.Act.{Act, act}
use Rattle.key_syms.specs.Names.{name_text}
use Rattle.key_syms.specs.declared.pair.Pair.{Pair}
use Rattle.key_tables.specs.Tables.{Tables}
use Rattle.key_syms.specs.Kinds.{FUNCTION}
use Rattle.key_dump.specs.Dump.{dump_of, dump_rows, entry_words, escape_of, keymaps_words, modifier_words, modifiers, pair_words, row_text, rows_from, string_rows, string_words, table_rows}
use Rattle.key_dump.specs.Spaced.{blank_after_each}
use Rattle.std.proofs.lemmas.Grind.{flat_map-append}
use Rattle.key_dump.proofs.Adding.{join_blank_after_each, blank_after_each_each}

pub entry_text : (t c : ℕ) (a : Act) (name : List ℕ) → name ≡ name_text a → blank_after_each (modifier_words t) ++ (codes "keycode " ++ (decimal c ++ (codes " = " ++ (name ++ codes "\n")))) ≡ row_text (entry_words t c a)
entry_text t c a name e = grind (arith, codes, decimal, append_assoc, join_blank_after_each)

pub string_text : (i : ℕ) (text name : List ℕ) → name ≡ name_text (act FUNCTION i) → codes "string " ++ (name ++ (codes " = \"" ++ (flat_map escape_of text ++ codes "\"\n"))) ≡ row_text (string_words i text)
string_text i text name e = grind (arith, codes, append_assoc)

pub weighed_words : (t : ℕ) → (t == 0) ≡ false → cond (t / 1 % 2 == 1) (codes "shift ") [] ++ (cond (t / 2 % 2 == 1) (codes "altgr ") [] ++ (cond (t / 4 % 2 == 1) (codes "control ") [] ++ (cond (t / 8 % 2 == 1) (codes "alt ") [] ++ (cond (t / 16 % 2 == 1) (codes "shiftl ") [] ++ (cond (t / 32 % 2 == 1) (codes "shiftr ") [] ++ (cond (t / 64 % 2 == 1) (codes "ctrll ") [] ++ (cond (t / 128 % 2 == 1) (codes "ctrlr ") []))))))) ≡ blank_after_each (modifier_words t)
weighed_words t e =
    rw e
    (ap (λ last. cond (t / 1 % 2 == 1) (codes "shift ") [] ++ (cond (t / 2 % 2 == 1) (codes "altgr ") [] ++ (cond (t / 4 % 2 == 1) (codes "control ") [] ++ (cond (t / 8 % 2 == 1) (codes "alt ") [] ++ (cond (t / 16 % 2 == 1) (codes "shiftl ") [] ++ (cond (t / 32 % 2 == 1) (codes "shiftr ") [] ++ (cond (t / 64 % 2 == 1) (codes "ctrll ") [] ++ (last)))))))) (sym (append-nil (cond (t / 128 % 2 == 1) (codes "ctrlr ") [])))
    ∙ sym (blank_after_each_each (λ m. t / m.weight % 2 == 1) modifiers))

-- four texts, one behind another
four_more : (start a b c d w x y z : List ℕ) → a ≡ start ++ w → b ≡ a ++ x → c ≡ b ++ y → d ≡ c ++ z → d ≡ start ++ (w ++ (x ++ (y ++ z)))
four_more start a b c d w x y z p q r s = rw (s, r, q, p) (simp append_assoc)

pub dump_text : (t : Tables) (start a b c d : List ℕ) (pairs : List Pair) → start ≡ [] → pairs ≡ t.pairs → a ≡ start ++ row_text (keymaps_words t) → b ≡ a ++ flat_map row_text (rows_from table_rows 0 t.maps) → c ≡ b ++ flat_map row_text (rows_from string_rows 0 t.funcs) → d ≡ c ++ flat_map row_text (map pair_words pairs) → d ≡ dump_of t
unfolding dump_rows
dump_text t start a b c d pairs none same p q r s =
    let tables = rows_from table_rows 0 t.maps in
    let strings = rows_from string_rows 0 t.funcs in
    four_more start a b c d (row_text (keymaps_words t)) (flat_map row_text tables) (flat_map row_text strings) (flat_map row_text (map pair_words pairs)) p q r s
    ∙ ap (λ u. u ++ (row_text (keymaps_words t) ++ (flat_map row_text tables ++ (flat_map row_text strings ++ flat_map row_text (map pair_words pairs))))) none
    ∙ ap (λ ps. row_text (keymaps_words t) ++ (flat_map row_text tables ++ (flat_map row_text strings ++ flat_map row_text (map pair_words ps)))) same
    ∙ ap (λ rest. row_text (keymaps_words t) ++ (flat_map row_text tables ++ rest)) (sym (flat_map-append row_text strings (map pair_words t.pairs)))
    ∙ ap (λ rest. row_text (keymaps_words t) ++ rest) (sym (flat_map-append row_text tables (strings ++ map pair_words t.pairs)))
