-- Tables with Alt that are filled code by code and table by table.
use Rattle.std.proofs.Common.{◌≡◌, ℕ, ◌+◌, ◌-◌, ◌<◌, ◌≤◌, Bool, true, false, ◌==◌, ◌&&◌, cond, nat_lt, Option, None, unwrap_or, refl, sym, ap, ◌∙◌, arith, rules}
use Rattle.std.proofs.lemmas.Bool.{and_parts, cases_lt, false≢true, le-leb, le-ltb, lt-leb, lt-ltb}
use Rattle.std.proofs.lemmas.Bool.Decides.{eqb_tells}
use Rattle.std.specs.Option.{option_map, option_or}
use Rattle.key_syms.specs.Act.{Act}
use Rattle.key_tables.specs.Tables.{Tables, entry_of}
use Rattle.key_compile.specs.Metas.{meta_at, meta_of, metas_below}
use Rattle.key_compile.specs.Puts.{Puts}
use Rattle.key_compile.proofs.Steps.{kept, puts_join, puts_nothing, puts_same}

-- what is given to the table above t, for the codes below one
abbrev pub given_below : Tables → ℕ → ℕ → ℕ → ℕ → Option Act
given_below k t n u d = cond (u == t + 8 && nat_lt d n) (meta_at k t d) None

-- where nothing is given the entry is as it was
untouched : (f : ℕ → ℕ → Option Act) (old new : Tables) → Puts f old new → (u d : ℕ) → f u d ≡ None → entry_of new u d ≡ entry_of old u d
untouched f old new puts u d none = puts.entries u d ∙ ap (λ g. option_map (λ a. unwrap_or g a) (entry_of old u d)) none ∙ sym (kept (entry_of old u d))

first_code : (k : Tables) (t d : ℕ) → nat_lt d 1 ≡ true → meta_at k t d ≡ None
unfolding meta_at
first_code k t d h = grind (arith, cases_lt, lt-leb, false≢true, le-ltb)

none_if : (b : Bool) (x : Option Act) → (b ≡ true → x ≡ None) → None ≡ cond b x None
none_if true x h = sym (h refl)
none_if false x h = refl

pub metas_start : (k : Tables) (t : ℕ) → Puts (given_below k t 1) k k
metas_start k t =
    search (rules, puts_same, none_if, first_code, and_parts, puts_nothing)

at_keycode : (k : Tables) (t c : ℕ) → 1 ≤ c → c < 256 → meta_of (entry_of k t c) (entry_of k (t + 8) c) ≡ meta_at k t c
unfolding meta_at
at_keycode k t c h j =
    cc (le-leb 1 c h, lt-ltb c 256 j)

other_table : (k : Tables) (t n d : ℕ) → given_below k t n t d ≡ None
other_table k t n d = grind (arith, eqb_tells)

not_yet : (k : Tables) (t c : ℕ) → given_below k t c (t + 8) c ≡ None
not_yet k t c = grind (arith, le-ltb)

pub metas_more : (k now new : Tables) (t c : ℕ) → 1 ≤ c → c < 256 → Puts (given_below k t c) k now → Puts (λ u d. cond (u == t + 8 && d == c) (meta_of (entry_of now t c) (entry_of now (t + 8) c)) None) now new → Puts (given_below k t (c + 1)) k new
metas_more k now new t c h j before step =
    grind (arith, puts_same, puts_join, untouched, other_table, not_yet, at_keycode, eqb_tells, lt-ltb, false≢true, cases_lt, le-ltb)

no_code_past : (k : Tables) (t d : ℕ) → 256 ≤ d → meta_at k t d ≡ None
unfolding meta_at
no_code_past k t d h = grind (arith, le-ltb)

pub metas_table : (k now : Tables) (t c : ℕ) → c ≡ 256 → Puts (given_below k t c) k now → Puts (λ u d. cond (u == t + 8) (meta_at k t d) None) k now
metas_table k now t c e puts =
    grind (arith, puts_same, cases_lt, lt-ltb, le-ltb, no_code_past)

-- no table with Alt yet
pub alt_start : (k : Tables) → Puts (metas_below k 0) k k
unfolding metas_below
alt_start k =
    grind (arith, puts_same, none_if, puts_nothing, cases_lt, false≢true, lt-leb, le-ltb, and_parts)

below_it : (k : Tables) (n t c : ℕ) → t < 8 → metas_below k n t c ≡ None
unfolding metas_below
below_it k n t c h = ap (λ b. cond (b && nat_lt t (8 + n)) (meta_at k (t - 8) c) None) (lt-leb 8 t h)

above_it : (k : Tables) (t c : ℕ) → metas_below k t (t + 8) c ≡ None
unfolding metas_below
above_it k t c = grind (arith, le-ltb)

same_meta : (k now : Tables) (t c : ℕ) → t < 8 → Puts (metas_below k t) k now → meta_at now t c ≡ meta_at k t c
unfolding meta_at
same_meta k now t c h before =
    grind (arith, untouched, below_it, above_it)

alt_next : (k now : Tables) (t u d : ℕ) → t < 8 → Puts (metas_below k t) k now → option_or (cond (u == t + 8) (meta_at now t d) None) (metas_below k t u d) ≡ metas_below k (t + 1) u d
unfolding metas_below
alt_next k now t u d h before = grind (arith, eqb_tells, same_meta, le-ltb, le-leb, lt-ltb, cases_lt)

pub alt_more : (k now new : Tables) (t : ℕ) → t < 8 → Puts (metas_below k t) k now → Puts (λ u d. cond (u == t + 8) (meta_at now t d) None) now new → Puts (metas_below k (t + 1)) k new
alt_more k now new t h before step =
    puts_same (λ u d. option_or (cond (u == t + 8) (meta_at now t d) None) (metas_below k t u d)) (metas_below k (t + 1)) k new
    (λ u d. alt_next k now t u d h before)
    (puts_join (metas_below k t) (λ u d. cond (u == t + 8) (meta_at now t d) None) k now new before step)
