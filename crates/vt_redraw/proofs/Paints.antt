-- The effect on a pen of SGR for an attribute byte.
use Rattle.std.proofs.Common.{◌≡◌, ◌⊎◌, inl, inr, ℕ, zero, suc, ◌+◌, ◌/◌, ◌%◌, ◌<◌, ◌≤◌, ◌==◌, nat_lt, Bool, true, false, List, [], ◌∷◌, ◌++◌, length, refl, sym, ap, ◌∙◌, cond, arith}
use Rattle.std.specs.List.{list_all, range_with_len}
use Rattle.std.specs.Prelude.{if◌then◌else◌}
use Rattle.std.proofs.lemmas.Bool.{cond-true, eqb-true, ltb-true}
use Rattle.vt_cells.specs.AttrByte.{vga}
use Rattle.vt_cells.specs.Rendition.{Rendition, Tints}
use Rattle.vt_cells.specs.declared.intensity.Intensity.{Intensity}
use Rattle.vt_cells.specs.declared.intensity.Intensity.TheVariants.{Bold, Dim, Normal}
use Rattle.vt_redraw.proofs.Does.{Does, does_from, does_nothing}
use Rattle.vt_redraw.proofs.Numbers.{AreSmall, below_holds, sequence_does}
use Rattle.vt_redraw.specs.Cells.{byte_change, is_ground}
use Rattle.vt_redraw.specs.Sequences.{byte_numbers, byte_text}
use Rattle.vt_redraw.specs.State.{attributes_text, intensity_number}
use Rattle.vt_canvas.specs.Effect.{control_sequence}
use Rattle.vt_canvas.specs.Saying.{without_out}
use Rattle.vt_canvas.specs.Screen.{Screen, erased_byte, printed_byte}
use Rattle.vt_canvas.specs.Settings.{after_sgr, with_pen}
use Rattle.vt_sgr.specs.PenState.{PenState, with_attributes, with_bg, with_blink, with_fg, with_intensity, with_italic, with_reverse, with_underline}
use Rattle.vt_sgr.specs.Sgr.{sgr, sgr_skipping}
use Rattle.vt_units.specs.Laws.{SequencesAreUnits}

-- the attributes of a byte
pub attr_of : ℕ → Rendition
attr_of b = record {
  fg = vga (b % 8);
  bg = vga (b / 16 % 8);
  intensity = cond (b / 8 % 2 == 1) Bold Normal;
  italic = false;
  underline = false;
  blink = b / 128 == 1;
  reverse = false;
}

module _ (l : Tints) where
  prints-itself : ℕ → Bool
  prints-itself b = printed_byte (attr_of b) l == b

  all-print : list_all prints-itself (range_with_len 0 256) ≡ true
  unfolding prints-itself attr_of printed_byte
  all-print = refl

pub attr_prints : (b : ℕ) (l : Tints) → b < 256 → printed_byte (attr_of b) l ≡ b
unfolding prints-itself
attr_prints b l h = eqb-true (printed_byte (attr_of b) l) b (below_holds (prints-itself l) 256 (all-print l) b h)

erases_itself : ℕ → Bool
erases_itself b = cond (is_ground b) (erased_byte (attr_of b) == b) true

all_erase : list_all erases_itself (range_with_len 0 256) ≡ true
unfolding erases_itself attr_of erased_byte
all_erase = refl

pub attr_erases : (b : ℕ) → b < 256 → is_ground b ≡ true → erased_byte (attr_of b) ≡ b
unfolding erases_itself
attr_erases b h is =
    eqb-true (erased_byte (attr_of b)) b
    (sym (cond-true (is_ground b) (erased_byte (attr_of b) == b) true is) ∙ below_holds erases_itself 256 all_erase b h)

vga_small : ℕ → Bool
vga_small c = nat_lt (vga c) 8

all_small : list_all vga_small (range_with_len 0 8) ≡ true
unfolding vga_small
all_small = refl

-- colours below 8 by their numbers
pub fg_number : (c : ℕ) → c < 8 → (rest : List ℕ) (p : PenState)
    → sgr_skipping 0 ((30 + c) ∷ rest) p ≡ sgr_skipping 0 rest (with_fg p c)
fg_number zero h rest p = refl
fg_number (suc zero) h rest p = refl
fg_number (suc (suc zero)) h rest p = refl
fg_number (suc (suc (suc zero))) h rest p = refl
fg_number (suc (suc (suc (suc zero)))) h rest p = refl
fg_number (suc (suc (suc (suc (suc zero))))) h rest p = refl
fg_number (suc (suc (suc (suc (suc (suc zero)))))) h rest p = refl
fg_number (suc (suc (suc (suc (suc (suc (suc zero))))))) h rest p = refl
fg_number (suc (suc (suc (suc (suc (suc (suc (suc c)))))))) h rest p = absurd (omega (arith, h))

pub bg_number : (c : ℕ) → c < 8 → (rest : List ℕ) (p : PenState)
    → sgr_skipping 0 ((40 + c) ∷ rest) p ≡ sgr_skipping 0 rest (with_bg p c)
bg_number zero h rest p = refl
bg_number (suc zero) h rest p = refl
bg_number (suc (suc zero)) h rest p = refl
bg_number (suc (suc (suc zero))) h rest p = refl
bg_number (suc (suc (suc (suc zero)))) h rest p = refl
bg_number (suc (suc (suc (suc (suc zero))))) h rest p = refl
bg_number (suc (suc (suc (suc (suc (suc zero)))))) h rest p = refl
bg_number (suc (suc (suc (suc (suc (suc (suc zero))))))) h rest p = refl
bg_number (suc (suc (suc (suc (suc (suc (suc (suc c)))))))) h rest p = absurd (omega (arith, h))

intensity_done : (i : Intensity) (rest : List ℕ) (p : PenState)
    → sgr_skipping 0 (intensity_number i ∷ rest) p ≡ sgr_skipping 0 rest (with_intensity p i)
intensity_done Dim rest p = refl
intensity_done Normal rest p = refl
intensity_done Bold rest p = refl

italic_done : (on : Bool) (rest : List ℕ) (p : PenState)
    → sgr_skipping 0 ((if on then 3 else 23) ∷ rest) p ≡ sgr_skipping 0 rest (with_italic p on)
italic_done true rest p = refl
italic_done false rest p = refl

underline_done : (on : Bool) (rest : List ℕ) (p : PenState)
    → sgr_skipping 0 ((if on then 4 else 24) ∷ rest) p ≡ sgr_skipping 0 rest (with_underline p on)
underline_done true rest p = refl
underline_done false rest p = refl

blink_done : (on : Bool) (rest : List ℕ) (p : PenState)
    → sgr_skipping 0 ((if on then 5 else 25) ∷ rest) p ≡ sgr_skipping 0 rest (with_blink p on)
blink_done true rest p = refl
blink_done false rest p = refl

reverse_done : (on : Bool) (rest : List ℕ) (p : PenState)
    → sgr_skipping 0 ((if on then 7 else 27) ∷ rest) p ≡ sgr_skipping 0 rest (with_reverse p on)
reverse_done true rest p = refl
reverse_done false rest p = refl

-- the numbers of an attribute byte, by its parts
abbrev numbers_by : Bool → Bool → ℕ → ℕ → List ℕ
numbers_by bold blink f g =
    (if bold then 1 ∷ [] else []) ++ ((if blink then 5 ∷ [] else []) ++ (30 + f) ∷ (40 + g) ∷ [])

abbrev attr_by : Bool → Bool → ℕ → ℕ → Rendition
attr_by bold blink f g = record {
  fg = f;
  bg = g;
  intensity = cond bold Bold Normal;
  italic = false;
  underline = false;
  blink = blink;
  reverse = false;
}

numbers_paint : (bold blink : Bool) (f g : ℕ) → f < 8 → g < 8 → (p : PenState)
    → sgr (0 ∷ numbers_by bold blink f g) p ≡ with_attributes p (attr_by bold blink f g)
numbers_paint true true f g low high p = fg_number f low ((40 + g) ∷ []) _ ∙ bg_number g high [] _
numbers_paint true false f g low high p = fg_number f low ((40 + g) ∷ []) _ ∙ bg_number g high [] _
numbers_paint false true f g low high p = fg_number f low ((40 + g) ∷ []) _ ∙ bg_number g high [] _
numbers_paint false false f g low high p = fg_number f low ((40 + g) ∷ []) _ ∙ bg_number g high [] _

numbers_small : (bold blink : Bool) (f g : ℕ) → f < 8 → g < 8 → AreSmall (numbers_by bold blink f g)
numbers_small true true f g low high = (omega arith, (omega arith, (omega (arith, low), (omega (arith, high), tt))))
numbers_small true false f g low high = (omega arith, (omega (arith, low), (omega (arith, high), tt)))
numbers_small false true f g low high = (omega arith, (omega (arith, low), (omega (arith, high), tt)))
numbers_small false false f g low high = (omega (arith, low), (omega (arith, high), tt))

numbers_few : (bold blink : Bool) (f g : ℕ) → length (numbers_by bold blink f g) ≤ 15
numbers_few true true f g = omega arith
numbers_few true false f g = omega arith
numbers_few false true f g = omega arith
numbers_few false false f g = omega arith

low_colour : (b : ℕ) → vga (b % 8) < 8
unfolding vga_small
low_colour b = ltb-true (vga (b % 8)) 8 (below_holds vga_small 8 all_small (b % 8) (let e : b % 8 < 8 = omega arith in e))

-- the numbers of all attributes but the first
abbrev others_of : Rendition → List ℕ
others_of a =
    (40 + a.bg)
    ∷ intensity_number a.intensity
    ∷ (if a.italic then 3 else 23)
    ∷ (if a.underline then 4 else 24)
    ∷ (if a.blink then 5 else 25)
    ∷ (if a.reverse then 7 else 27)
    ∷ []

two_small : (t : Bool) (m n : ℕ) → m < 256 → n < 256 → (if t then m else n) < 256
two_small true m n h k = h
two_small false m n h k = k

three_small : (i : Intensity) → intensity_number i < 256
three_small Dim = omega arith
three_small Normal = omega arith
three_small Bold = omega arith

others_small : (a : Rendition) → a.bg < 8 → AreSmall (others_of a)
others_small a high = (
  omega (arith, high),
  (
    three_small a.intensity,
    (
      two_small a.italic 3 23 (omega arith) (omega arith),
      (
        two_small a.underline 4 24 (omega arith) (omega arith),
        (
          two_small a.blink 5 25 (omega arith) (omega arith),
          (two_small a.reverse 7 27 (omega arith) (omega arith), tt),
        ),
      ),
    ),
  ),
)

all_done : (a : Rendition) → a.fg < 8 → a.bg < 8 → (p : PenState) → sgr ((30 + a.fg) ∷ others_of a) p ≡ with_attributes p a
all_done a low high p =
    let n4 : List ℕ = (if a.reverse then 7 else 27) ∷ [] in
    let n3 : List ℕ = (if a.blink then 5 else 25) ∷ n4 in
    let n2 : List ℕ = (if a.underline then 4 else 24) ∷ n3 in
    let n1 : List ℕ = (if a.italic then 3 else 23) ∷ n2 in
    let n0 : List ℕ = intensity_number a.intensity ∷ n1 in
    let p1 : PenState = with_fg p a.fg in
    let p2 : PenState = with_bg p1 a.bg in
    let p3 : PenState = with_intensity p2 a.intensity in
    let p4 : PenState = with_italic p3 a.italic in
    let p5 : PenState = with_underline p4 a.underline in
    let p6 : PenState = with_blink p5 a.blink in
    fg_number a.fg low ((40 + a.bg) ∷ n0) p
    ∙ bg_number a.bg high n0 p1
    ∙ intensity_done a.intensity n1 p2
    ∙ italic_done a.italic n2 p3
    ∙ underline_done a.underline n3 p4
    ∙ blink_done a.blink n4 p5
    ∙ reverse_done a.reverse [] p6

-- the pen of a screen with other attributes
abbrev pub painted : Screen → Rendition → Screen
painted s a = with_pen s (with_attributes s.state.pen a)

module _ (law : SequencesAreUnits) where
  pub byte_does : (b : ℕ) (s : Screen) → Does (byte_text b) s (painted s (attr_of b))
  unfolding byte_text attr_of control_sequence after_sgr
  byte_does b s =
      let bold : Bool = b / 8 % 2 == 1 in
      let blink : Bool = b / 128 == 1 in
      let f : ℕ = vga (b % 8) in
      let g : ℕ = vga (b / 16 % 8) in
      sequence_does law 0 (byte_numbers b) 0x6D (omega arith) (numbers_small bold blink f g (low_colour b) (low_colour (b / 16)))
      (numbers_few bold blink f g) refl refl s (painted s (attr_of b))
      (ap (λ (p : PenState). without_out (with_pen s p)) (numbers_paint bold blink f g (low_colour b) (low_colour (b / 16)) s.state.pen))

  pub attributes_does : (a : Rendition) → a.fg < 8 → a.bg < 8 → (s : Screen) → Does (attributes_text a) s (painted s a)
  unfolding attributes_text control_sequence after_sgr
  attributes_does a low high s =
      sequence_does law (30 + a.fg) (others_of a) 0x6D (omega (arith, low)) (others_small a high) (omega arith) refl refl s (painted s a)
      (ap (λ (p : PenState). without_out (with_pen s p)) (all_done a low high s.state.pen))

  -- the pen's byte is known to be this one, or not known
  pub change_does : (now b : ℕ) (s : Screen) → b < 256 → (now ≡ 256) ⊎ (s.state.pen.attr ≡ attr_of now)
      → Does (byte_change now b) s (painted s (attr_of b))
  change_does now b s h is = by (now == b) refl is
    where
      by : (t : Bool) → (now == b) ≡ t → (now ≡ 256) ⊎ (s.state.pen.attr ≡ attr_of now)
          → Does (if t then [] else byte_text b) s (painted s (attr_of b))
      by false test k = byte_does b s
      by true test (inl none) = absurd (omega (arith, h, none, eqb-true now b test))
      by true test (inr known) =
          let same : s.state.pen.attr ≡ attr_of b = known ∙ ap attr_of (eqb-true now b test) in
          does_from (ap (λ (a : Rendition). painted s a) same) (does_nothing (painted s (attr_of b)))
