-- Entries that are set one by one.
use Rattle.std.proofs.Common.{◌≡◌, ℕ, zero, suc, ◌+◌, ◌<◌, Bool, true, false, ◌==◌, ◌&&◌, ◌||◌, cond, Option, Some, None, is_some, unwrap_or, List, [], ◌∷◌, ◌++◌, length, get_or, take, refl, sym, ap, ◌∙◌, inl, inr, arith, rules}
use Rattle.std.proofs.lemmas.Bool.{false≢true}
use Rattle.std.proofs.lemmas.Bool.Decides.{eqb_tells}
use Rattle.std.proofs.lemmas.List.{length-take, take_more}
use Rattle.std.proofs.lemmas.List.Folds.{list_any_more}
use Rattle.std.specs.List.{list_any}
use Rattle.std.specs.Option.{option_map, option_or}
use Rattle.key_syms.specs.Act.{Act}
use Rattle.key_tables.specs.Tables.{Tables, entry_of, exists_in, with_entry}
use Rattle.key_text.specs.KeymapLine.{KeymapLine}
use Rattle.key_compile.specs.Entries.{by_symbols, last_action, everywhere, gives, action_of_table}
use Rattle.key_compile.specs.Fill.{filled_action}
use Rattle.key_compile.specs.Puts.{Puts}

-- what no line gives stays
pub kept : (e : Option Act) → e ≡ option_map (λ a. unwrap_or None a) e
kept None = refl
kept (Some a) = refl

pub puts_nothing : (k : Tables) → Puts (λ t c. None) k k
puts_nothing k = record { entries = λ t c. kept (entry_of k t c); funcs = refl; pairs = refl }

pub puts_same : (f g : ℕ → ℕ → Option Act) (old new : Tables) → ((t c : ℕ) → f t c ≡ g t c) → Puts f old new → Puts g old new
puts_same f g old new same puts = search rules

twice : (first second : Option Act) (e : Option Act) → option_map (λ a. unwrap_or second a) (option_map (λ a. unwrap_or first a) e) ≡ option_map (λ a. unwrap_or (option_or second first) a) e
twice first second None = refl
twice first None (Some a) = refl
twice first (Some b) (Some a) = refl

pub puts_join : (f g : ℕ → ℕ → Option Act) (old middle new : Tables) → Puts f old middle → Puts g middle new → Puts (λ t c. option_or (g t c) (f t c)) old new
puts_join f g old middle new first second = search (rules, twice)

-- after some entries others are set
pub puts_next : (f step g : ℕ → ℕ → Option Act) (old middle new : Tables) → ((t c : ℕ) → option_or (step t c) (f t c) ≡ g t c) → Puts f old middle → Puts step middle new → Puts g old new
puts_next f step g old middle new same before now =
    puts_same (λ t c. option_or (step t c) (f t c)) g old new same (puts_join f step old middle new before now)

-- a table exists where it has entries
existing : (k : Tables) (t : ℕ) → exists_in k t ≡ is_some (entry_of k t 0)
existing k t = grind (arith, is_some)

pub puts_exist : (f : ℕ → ℕ → Option Act) (old new : Tables) → Puts f old new → (t : ℕ) → exists_in new t ≡ exists_in old t
puts_exist f old new puts t =
    grind (arith, existing, is_some)

-- one entry, if its table exists
set_one : (here : Bool) (a : Act) (e : Option Act) → option_map (λ b. cond here a b) e ≡ option_map (λ b. unwrap_or (cond here (Some a) None) b) e
set_one here a None = refl
set_one true a (Some b) = refl
set_one false a (Some b) = refl

pub puts_one : (old new : Tables) (table code : ℕ) (a : Act) → ((t c : ℕ) → entry_of new t c ≡ option_map (λ b. cond (t == table && c == code) a b) (entry_of old t c)) → new ≡ with_entry old table code a → Puts (λ t c. cond (t == table && c == code) (Some a) None) old new
puts_one old new table code a each is = record {
  entries = λ t c. each t c ∙ set_one (t == table && c == code) a (entry_of old t c);
  funcs = ap (λ (k : Tables). k.funcs) is;
  pairs = ap (λ (k : Tables). k.pairs) is;
}

pub or_moved : {X : Type 0} (x y z : Option X) → option_or (option_or x y) z ≡ option_or x (option_or y z)
or_moved None y z = refl
or_moved (Some a) y z = refl

-- the lines so far, and one more
decided_more : (union : List ℕ) (lines : List KeymapLine) (l : KeymapLine) (t c : ℕ) → last_action union (lines ++ l ∷ []) t c ≡ option_or (gives union l.meaning t c) (last_action union lines t c)
decided_more union [] l t c = search rules
decided_more union (m ∷ lines) l t c = ap (λ x. option_or x (gives union m.meaning t c)) (decided_more union lines l t c) ∙ or_moved (gives union l.meaning t c) (last_action union lines t c) (gives union m.meaning t c)

pub decided_next : (union : List ℕ) (lines : List KeymapLine) (i : ℕ) (d : KeymapLine) → i < length lines → (t c : ℕ) → option_or (gives union (get_or lines i d).meaning t c) (last_action union (take i lines) t c) ≡ last_action union (take (i + 1) lines) t c
decided_next union lines i d h t c =
    sym (ap (λ ls. last_action union ls t c) (take_more lines i d h) ∙ decided_more union (take i lines) (get_or lines i d) t c)

-- one more table of a symbol that stands alone
pub everywhere_next : (union : List ℕ) (action : Act) (code i : ℕ) → i < length union → (t c : ℕ) → option_or (cond (t == get_or union i 0 && c == code) (Some (filled_action (get_or union i 0) action)) None) (cond (c == code) (everywhere (take i union) action t) None) ≡ cond (c == code) (everywhere (take (i + 1) union) action t) None
everywhere_next union action code i h t c =
    by_tests (c == code) (t == get_or union i 0) (list_any (λ u. t == u) (take i union)) (λ e. elim (eqb_tells t (get_or union i 0)) [
      | inl same ↦ ap (λ u. filled_action u action) (sym same.1)
      | inr other ↦ absurd (false≢true (sym other.0 ∙ e))
    ])
    ∙ ap (λ b. cond (c == code) (cond b (Some (filled_action t action)) None) None) (sym (list_any_more (λ u. t == u) union i 0 h))
  where
    by_tests : (here now before : Bool) → (now ≡ true → filled_action (get_or union i 0) action ≡ filled_action t action) → option_or (cond (now && here) (Some (filled_action (get_or union i 0) action)) None) (cond here (cond before (Some (filled_action t action)) None) None) ≡ cond here (cond (before || now) (Some (filled_action t action)) None) None
    by_tests true true true e = ap Some (e refl)
    by_tests true true false e = ap Some (e refl)
    by_tests true false true e = refl
    by_tests true false false e = refl
    by_tests false true before e = refl
    by_tests false false before e = refl

-- one more symbol of many
paired_more : (us : List ℕ) (acts : List Act) (u : ℕ) (a : Act) (t : ℕ) → length us ≡ length acts → action_of_table (us ++ u ∷ []) (acts ++ a ∷ []) t ≡ option_or (cond (t == u) (Some a) None) (action_of_table us acts t)
paired_more [] [] u a t e = search rules
paired_more [] (b ∷ acts) u a t e = absurd (omega arith)
paired_more (v ∷ us) [] u a t e = absurd (omega arith)
paired_more (v ∷ us) (b ∷ acts) u a t e =
    ap (λ x. option_or x (cond (t == v) (Some b) None)) (paired_more us acts u a t (omega arith))
    ∙ or_moved (cond (t == u) (Some a) None) (action_of_table us acts t) (cond (t == v) (Some b) None)

pub paired_next : (union : List ℕ) (actions : List Act) (code i : ℕ) (d : Act) → i < length union → i < length actions → (t c : ℕ) → option_or (cond (t == get_or union i 0 && c == code) (Some (get_or actions i d)) None) (cond (c == code) (action_of_table (take i union) (take i actions) t) None) ≡ cond (c == code) (action_of_table (take (i + 1) union) (take (i + 1) actions) t) None
paired_next union actions code i d h k t c =
    by_tests (c == code) (t == get_or union i 0) (action_of_table (take i union) (take i actions) t)
    ∙ ap (λ x. cond (c == code) x None)
    (sym (ap (λ us. action_of_table us (take (i + 1) actions) t) (take_more union i 0 h)
    ∙ ap (λ acts. action_of_table (take i union ++ get_or union i 0 ∷ []) acts t) (take_more actions i d k)
    ∙ paired_more (take i union) (take i actions) (get_or union i 0) (get_or actions i d) t (omega (arith, length-take i union, length-take i actions))))
  where
    by_tests : (here now : Bool) (before : Option Act) → option_or (cond (now && here) (Some (get_or actions i d)) None) (cond here before None) ≡ cond here (option_or (cond now (Some (get_or actions i d)) None) before) None
    by_tests true true before = refl
    by_tests true false before = refl
    by_tests false true before = refl
    by_tests false false before = refl

-- tables past the symbols, and symbols past the tables, give no action
pub paired_all : (us : List ℕ) (acts : List Act) (i t : ℕ) → (i < length us → i < length acts → ⊥) → action_of_table (take i us) (take i acts) t ≡ action_of_table us acts t
paired_all [] acts zero t h = refl
paired_all [] acts (suc i) t h = refl
paired_all (u ∷ us) [] zero t h = refl
paired_all (u ∷ us) [] (suc i) t h = refl
paired_all (u ∷ us) (a ∷ acts) zero t h = absurd (h (omega arith) (omega arith))
paired_all (u ∷ us) (a ∷ acts) (suc i) t h =
    ap (λ x. option_or x (cond (t == u) (Some a) None))
    (paired_all us acts i t (λ p q. h (omega (arith, p)) (omega (arith, q))))

pub by_symbols_many : (union : List ℕ) (actions : List Act) (t : ℕ) → (length actions ≡ 1 → ⊥) → action_of_table union actions t ≡ by_symbols union actions t
by_symbols_many [] [] t h = refl
by_symbols_many (u ∷ us) [] t h = refl
by_symbols_many union (a ∷ []) t h = absurd (h refl)
by_symbols_many union (a ∷ b ∷ rest) t h = refl
