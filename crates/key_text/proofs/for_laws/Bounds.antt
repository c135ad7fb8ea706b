-- A bound on the bytes of the included texts changes nothing but that reading may end with its fault.
use Rattle.std.proofs.Common.{◌≡◌, ◌⊎◌, inl, inr, ℕ, zero, suc, ◌+◌, ◌-◌, Bool, true, false, nat_le, cond, Option, Some, None, Result, Ok, Err, List, [], ◌∷◌, ◌++◌, length, refl, sym, ap, ◌∙◌}
use Rattle.std.proofs.lemmas.Bool.{false≢true}
use Rattle.std.specs.Option.{option_map}
use Rattle.key_text.specs.Bounded.{BoundsStop}
use Rattle.key_text.specs.Fault.{fault, ◌>>=◌}
use Rattle.key_text.specs.FaultKinds.{TOO_LONG_INCLUDES, TOO_MANY_INCLUDES}
use Rattle.key_text.specs.Included.{Named, text_named}
use Rattle.key_text.specs.KeymapLine.{KeymapLine}
use Rattle.key_text.specs.Lines.{StatementView, nothing, means, includes, statement_from}
use Rattle.key_text.specs.Reading.{Deeper, Got, at_outer_include, blamed_fault, got_from_include, got_from_row, lines_of, lines_within, most_deep, read_row, read_row_by, read_rows, start, unless, with_lines, within}
use Rattle.key_text.specs.Rows.{Row, rows_of}
use Rattle.key_text.specs.Tally.{MOST_INCLUDES, is_too_long, none_included, tally_after}
use Rattle.key_text.specs.Words.{place_of_word, word_at}
use Rattle.key_text.specs.declared.fault.KeyFault.{KeyFault}
use Rattle.key_text.specs.declared.placed.Place.{Place}
use Rattle.key_text.specs.declared.placed.Placed.{Placed}
use Rattle.key_text.specs.declared.tally.Tally.{Tally}

-- as many texts were included, and the second tally has no bound
abbrev Tallies : Tally → Tally → Type 0
Tallies t u = (t.texts ≡ u.texts) × (u.room ≡ None)

-- the first reading has what the second has, or the fault of the bound
abbrev IsBounded : Result Got KeyFault → Result Got KeyFault → Type 0
IsBounded (Ok g) (Ok h) = (g.lines ≡ h.lines) × Tallies g.tally h.tally
IsBounded (Ok g) (Err e) = ⊥
IsBounded (Err f) (Ok h) = f.kind ≡ TOO_LONG_INCLUDES
IsBounded (Err f) (Err e) = (f ≡ e) ⊎ (f.kind ≡ TOO_LONG_INCLUDES)

-- the same of two ways to read an included text
abbrev AreBounded : Deeper → Deeper → Type 0
AreBounded x y = (p q : Place) (b : Option KeyFault) (t u : Tally) → Tallies t u → (text : List ℕ) → IsBounded (x p q b t text) (y p q b u text)

stopped : (f : KeyFault) (s : Result Got KeyFault) → f.kind ≡ TOO_LONG_INCLUDES → IsBounded (Err f) s
stopped f (Ok h) e = e
stopped f (Err g) e = inr e

include_bounded : (x y : List ℕ → Result Got KeyFault) (p : Place) (text : Option (List ℕ)) → ((t : List ℕ) → IsBounded (x t) (y t)) → IsBounded (got_from_include x p text) (got_from_include y p text)
include_bounded x y p None h = inl refl
include_bounded x y p (Some text) h = h text

said_bounded : (x y : Deeper) (texts : List Named) (outer : Option Place) (first : Place) (t u : Tally) → AreBounded x y → Tallies t u → (s : StatementView) → IsBounded (got_from_row x texts outer first t s) (got_from_row y texts outer first u s)
said_bounded x y texts outer first t u deep l nothing = (refl, l)
said_bounded x y texts outer first t u deep l (means meaning) = (refl, l)
said_bounded x y texts outer first t u deep l (includes name quoted bad_end) =
    include_bounded _ _ _ (text_named name texts) (λ text. deep _ _ _ t u l text)

word_bounded : (x y : Deeper) (texts : List Named) (outer : Option Place) (t u : Tally) (end : Place) → AreBounded x y → Tallies t u → (word : Option (List Placed × List Placed)) → IsBounded (read_row_by x texts outer t end word) (read_row_by y texts outer u end word)
word_bounded x y texts outer t u end deep l None = (refl, l)
word_bounded x y texts outer t u end deep l (Some word) = by_said (at_outer_include outer (statement_from end word))
  where
    by_said : (r : Result StatementView KeyFault) → IsBounded (r >>= λ said. got_from_row x texts outer (place_of_word word.0) t said) (r >>= λ said. got_from_row y texts outer (place_of_word word.0) u said)
    by_said (Ok said) = said_bounded x y texts outer (place_of_word word.0) t u deep l said
    by_said (Err f) = inl refl

row_bounded : (x y : Deeper) (texts : List Named) (outer : Option Place) (t u : Tally) (r : Row) → AreBounded x y → Tallies t u → IsBounded (read_row x texts outer t r.end r.items) (read_row y texts outer u r.end r.items)
unfolding read_row
row_bounded x y texts outer t u r deep l = word_bounded x y texts outer t u r.end deep l (word_at r.items)

lines_bounded : (xs ys : List KeymapLine) → xs ≡ ys → (r s : Result Got KeyFault) → IsBounded r s → IsBounded (with_lines xs r) (with_lines ys s)
lines_bounded xs ys e (Ok g) (Ok h) l = (ap (λ zs. zs ++ g.lines) e ∙ ap (λ zs. ys ++ zs) l.0, l.1)
lines_bounded xs ys e (Ok g) (Err f) l = absurd l
lines_bounded xs ys e (Err f) (Ok h) l = l
lines_bounded xs ys e (Err f) (Err g) l = l

rows_bounded : (x y : Deeper) (texts : List Named) (outer : Option Place) → AreBounded x y → (rs : List Row) (t u : Tally) → Tallies t u → IsBounded (read_rows x texts outer t rs) (read_rows y texts outer u rs)
rows_bounded x y texts outer deep [] t u l = (refl, l)
rows_bounded x y texts outer deep (r ∷ rs) t u l =
    by_row (read_row x texts outer t r.end r.items) (read_row y texts outer u r.end r.items) (row_bounded x y texts outer t u r deep l)
    (λ t u l. rows_bounded x y texts outer deep rs t u l)
  where
    by_row : (a b : Result Got KeyFault) → IsBounded a b → ((t u : Tally) → Tallies t u → IsBounded (read_rows x texts outer t rs) (read_rows y texts outer u rs))
        → IsBounded (a >>= λ g. with_lines g.lines (read_rows x texts outer g.tally rs)) (b >>= λ g. with_lines g.lines (read_rows y texts outer g.tally rs))
    by_row (Ok g) (Ok h) l rest = lines_bounded g.lines h.lines l.0 _ _ (rest g.tally h.tally l.1)
    by_row (Ok g) (Err e) l rest = absurd l
    by_row (Err f) (Ok h) l rest = stopped f _ l
    by_row (Err f) (Err e) l rest = l

same_choice : (b c : Bool) (f : KeyFault) (r s : Result Got KeyFault) → b ≡ c → IsBounded r s → IsBounded (cond b (Err f) r) (cond c (Err f) s)
same_choice true true f r s e l = inl refl
same_choice true false f r s e l = absurd (false≢true (sym e))
same_choice false true f r s e l = absurd (false≢true e)
same_choice false false f r s e l = l

bound_choice : (b c : Bool) (f : KeyFault) (r s : Result Got KeyFault) → f.kind ≡ TOO_LONG_INCLUDES → c ≡ false → IsBounded r s → IsBounded (cond b (Err f) r) (cond c (Err f) s)
bound_choice b true f r s k e l = absurd (false≢true (sym e))
bound_choice true false f r s k e l = stopped f s k
bound_choice false false f r s k e l = l

unless_bounded : (b : Option KeyFault) (r s : Result Got KeyFault) → IsBounded r s → IsBounded (unless b r) (unless b s)
unless_bounded None r s l = l
unless_bounded (Some f) r s l = inl refl

deeper_bounded : (n : ℕ) (texts : List Named) → AreBounded (within n texts) (within n texts)
deeper_bounded zero texts = λ p q b t u l text. inl refl
deeper_bounded (suc n) texts = λ p q b t u l text.
    let bytes = length text in
    let more : Tallies (tally_after t bytes) (tally_after u bytes) = (ap (λ m. m + 1) l.0, ap (option_map (λ room. room - bytes)) l.1) in
    same_choice (nat_le MOST_INCLUDES t.texts) (nat_le MOST_INCLUDES u.texts) (fault TOO_MANY_INCLUDES p) _ _ (ap (nat_le MOST_INCLUDES) l.0)
    (bound_choice (is_too_long t.room bytes) (is_too_long u.room bytes) (fault TOO_LONG_INCLUDES p) _ _ refl (ap (λ room. is_too_long room bytes) l.1)
    (unless_bounded b _ _
    (rows_bounded (within n texts) (within n texts) texts (Some q) (deeper_bounded n texts) (rows_of start text) (tally_after t bytes) (tally_after u bytes) more)))

pub bounds_stop : BoundsStop
unfolding lines_of lines_within
bounds_stop most texts text =
    by_end _ _ (rows_bounded (within most_deep texts) (within most_deep texts) texts None (deeper_bounded most_deep texts) (rows_of start text) (none_included (Some most)) (none_included None) (refl, refl))
  where
    by_end : (r s : Result Got KeyFault) → IsBounded r s
        → ((r >>= λ g. Ok g.lines) ≡ (s >>= λ g. Ok g.lines)) ⊎ ((f : KeyFault) × ((r >>= λ g. Ok g.lines) ≡ Err f) × (f.kind ≡ TOO_LONG_INCLUDES))
    by_end (Ok g) (Ok h) l = inl (ap Ok l.0)
    by_end (Ok g) (Err e) l = absurd l
    by_end (Err f) (Ok h) l = inr (f, refl, l)
    by_end (Err f) (Err e) (inl same) = inl (ap Err same)
    by_end (Err f) (Err e) (inr kind) = inr (f, refl, kind)
