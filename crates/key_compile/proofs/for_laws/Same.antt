-- The lines of a keymap have one value of tables.
use Rattle.std.proofs.Common.{◌≡◌, ℕ, suc, zero, ◌<◌, ◌≤◌, Option, Some, None, is_some, IfSome, List, [], get_or, ext_get_or, refl, sym, ap, ◌∙◌, arith}
use Rattle.std.proofs.lemmas.Bool.{false≢true}
use Rattle.std.specs.Option.{option_map}
use Rattle.key_syms.specs.Act.{Act}
use Rattle.key_tables.specs.Tables.{IsMap, hole, map_of, tables_of}
use Rattle.key_compile.specs.Compiled.{OneValue}

some_same : {X : Type 0} (x y : X) → Some x ≡ Some y → x ≡ y
some_same x y e = cc

-- maps with the same entries
same_map : (m n : List Act) → IsMap m → IsMap n → ((c : ℕ) → 1 ≤ c → c < 256 → get_or m c hole ≡ get_or n c hole) → m ≡ n
same_map m n p q same = ext_get_or hole m n (p.full ∙ sym q.full) (λ c low. at c (let e = p.full in omega (arith, low, e)))
  where
    at : (c : ℕ) → c < 256 → get_or m c hole ≡ get_or n c hole
    at zero h = p.no_key ∙ sym q.no_key
    at (suc c) h = same (suc c) (omega arith) h

same_maybe : (m n : Option (List Act)) → IfSome m IsMap → IfSome n IsMap → is_some m ≡ is_some n → ((c : ℕ) → 1 ≤ c → c < 256 → option_map (λ map. get_or map c hole) m ≡ option_map (λ map. get_or map c hole) n) → m ≡ n
same_maybe None None p q e same = refl
same_maybe None (Some n) p q e same = absurd (false≢true e)
same_maybe (Some m) None p q e same = absurd (false≢true (sym e))
same_maybe (Some m) (Some n) p q e same = ap Some (same_map m n p q (λ c h j. some_same (get_or m c hole) (get_or n c hole) (same c h j)))

pub one_value : OneValue
one_value lines a b p q =
    ap (λ maps. tables_of maps a.funcs a.pairs) maps
    ∙ ap (λ funcs. tables_of b.maps funcs a.pairs) funcs
    ∙ ap (tables_of b.maps b.funcs) (p.pairs ∙ sym q.pairs)
  where
    at : (t : ℕ) → t < 256 → map_of a t ≡ map_of b t
    at t h =
        same_maybe (map_of a t) (map_of b t)
        (p.whole.maps t None (let e = p.whole.tall in omega (arith, h, e)))
        (q.whole.maps t None (let e = q.whole.tall in omega (arith, h, e)))
        (p.exist t h ∙ sym (q.exist t h))
        (λ c i j. p.entries t c h i j ∙ sym (q.entries t c h i j))

    maps : a.maps ≡ b.maps
    maps = ext_get_or None a.maps b.maps (p.whole.tall ∙ sym q.whole.tall) (λ t low. at t (let e = p.whole.tall in omega (arith, low, e)))

    funcs : a.funcs ≡ b.funcs
    funcs = ext_get_or [] a.funcs b.funcs (p.whole.strings ∙ sym q.whole.strings) (λ i low. p.strings i ∙ sym (q.strings i))
