-- Tab stops past the columns change nothing that is seen.
use Rattle.std.proofs.Common.{◌≡◌, ℕ, zero, suc, ◌+◌, ◌-◌, ◌≤◌, ◌==◌, ◌&&◌, nat_le, nat_lt, min, not, Bool, true, false, List, [], ◌∷◌, ◌++◌, length, take, drop, set, replicate, Some, inl, inr, refl, sym, subst, ap, ◌∙◌, cond, arith}
use Rattle.std.specs.Prelude.{codes, if◌then◌else◌, slice_set}
use Rattle.std.specs.List.{prefix_len, range_with_len}
use Rattle.std.proofs.lemmas.Bool.{cases_lt}
use Rattle.std.proofs.lemmas.List.{drop-take, length-append, length-drop, length-map, length-replicate, length-set, length-take-le, take_at}
use Rattle.std.proofs.lemmas.List.FromFn.{length-range_with_len}
use Rattle.vt_cells.specs.Width.{columns}
use Rattle.vt_redraw.proofs.for_laws.Keeps.{Computes, Keeps, plain, byte_keeps, coding_keeps, colour_keeps, column_keeps, dl_keeps, each_keeps, ed_keeps, el_keeps, il_keeps, keeps_if, keeps_nothing, linefeed_keeps, mode_keeps, newline_keeps, next_keeps, print_keeps, private_keeps, region_keeps, reverse_keeps}
use Rattle.vt_redraw.specs.Behind.{IsAlike, TextsFollow, with_stops}
use Rattle.vt_redraw.specs.Redraw.{IsStored, redrawn_on}
use Rattle.vt_canvas.specs.Cursor.{tab, cursor_to, cursor_to_in_region}
use Rattle.vt_canvas.specs.Erasing.{insert_characters, delete_characters, erase_characters}
use Rattle.vt_canvas.specs.Effect.{control, control_sequence, count_of, effect, escape, number_at, plain_escape, private_sequence}
use Rattle.vt_screen.specs.Run.{ScreenAndOuts, screen_effects, with_outs, outs_of_option, then_done}
use Rattle.vt_canvas.specs.Saying.{Effect, console_setting, cursor_text, device_report, device_text, lights, without_out, with_out, status_report}
use Rattle.vt_canvas.specs.Screen.{Screen, is_start_stop, mode_of, with_state}
use Rattle.vt_canvas.specs.Settings.{alignment_pattern, clear_stops, reset, set_stop, with_mode, with_private_mode, after_sgr, after_shift, save, restore, with_keypad, with_g0, with_g1, with_start_palette}
use Rattle.vt_canvas.specs.declared.out.Out.{Out}
use Rattle.vt_canvas.specs.declared.out.Out.TheVariants.{Bell, Lights, Report, SwitchLast, SwitchTo}
use Rattle.vt_units.specs.Answer.{answer, rest_after}
use Rattle.vt_units.specs.Rest.{fresh}
use Rattle.vt_units.specs.Run.{Reached, effect_of, effects_of, make_reached, run, step}
use Rattle.vt_units.specs.declared.read.Read.{Read}
use Rattle.vt_units.specs.declared.then.Then as then
use Rattle.vt_units.specs.declared.unit.Unit as units

-- the screens after, and what is said
pub record AreAlike (d e : Effect) : Type 0 where
  pub screens : IsAlike d.screen e.screen
  pub said : d.said ≡ e.said

pub record Row (f : Screen → Effect) : Type 0 where
  pub row : (s t : Screen) → IsAlike s t → AreAlike (f s) (f t)

keeps_alike : (f : Screen → Screen) → Keeps f → (s t : Screen) → IsAlike s t → IsAlike (f s) (f t)
keeps_alike f k s t a = record {
  stops = a.stops;
  is = ap f a.is ∙ k.commutes a.stops s;
  same =
      (λ i. take (k.cols s i) a.stops) ∙ a.same ∙ (λ i. take (sym (k.cols s) i) (sym (k.stops s) i));
  many = omega (arith, k.cols s, a.many);
  all = omega (arith, k.cols s, ap (λ (stops : List Bool). length stops) (k.stops s), a.all);
  few = omega (arith, k.cols s, a.few);
}

without_out_row : (f : Screen → Screen) → Keeps f → Row (λ s. without_out (f s))
without_out_row f k = record { row = λ s t a. record { screens = keeps_alike f k s t a; said = refl } }

computes_row : (f : Screen → Screen) → Computes f → Row (λ s. without_out (f s))
computes_row f same = without_out_row f (plain f same)

with_out_row : (out : Screen → Out) → ((st : List Bool) (s : Screen) → out (with_stops st s) ≡ out s) → Row (λ s. with_out (out s) s)
with_out_row out same = record {
  row =
      λ s t a.
      record { screens = a; said = ap Some (sym (ap out a.is ∙ same a.stops s)) };
}

if_row : (b : Bool) (f g : Screen → Effect) → Row f → Row g → Row (λ s. if b then f s else g s)
if_row true f g x y = record { row = λ s t a. x.row s t a }
if_row false f g x y = record { row = λ s t a. y.row s t a }

nothing_row : Row without_out
nothing_row = without_out_row (λ s. s) keeps_nothing

-- the tab stops of the columns decide where a tab goes
prefix_take : (n : ℕ) (a b : List Bool) → take n a ≡ take n b → n ≤ length a → n ≤ length b
    → min (prefix_len not a) n ≡ min (prefix_len not b) n
prefix_take zero a b same many all = omega arith
prefix_take (suc n) [] b same many all = absurd (omega (arith, many))
prefix_take (suc n) (x ∷ a) [] same many all = absurd (omega (arith, all))
prefix_take (suc n) (x ∷ a) (y ∷ b) same many all =
    let others : take n a ≡ take n b = cc in
    by x y (let e : x ≡ y = cc in e) (prefix_take n a b others (omega (arith, many)) (omega (arith, all)))
  where
    by : (x y : Bool) → x ≡ y → min (prefix_len not a) n ≡ min (prefix_len not b) n
        → min (prefix_len not (x ∷ a)) (suc n) ≡ min (prefix_len not (y ∷ b)) (suc n)
    by true true e next = refl
    by true false e next = absurd (let clash : ⊥ = cc in clash)
    by false true e next = absurd (let clash : ⊥ = cc in clash)
    by false false e next = omega (arith, next)

take-drop : (m n : ℕ) (a b : List Bool) → take (m + n) a ≡ take (m + n) b → take n (drop m a) ≡ take n (drop m b)
take-drop m n a b same = sym (drop-take m n a) ∙ ap (drop m) same ∙ drop-take m n b

tab_column : (x cols : ℕ) (a b : List Bool) → take cols a ≡ take cols b → cols ≤ length a → cols ≤ length b
    → min (x + 1 + prefix_len not (drop (x + 1) a)) (cols - 1) ≡ min (x + 1 + prefix_len not (drop (x + 1) b)) (cols - 1)
tab_column x cols a b same many all = elim (cases_lt (x + 1) cols) [
  | inl low ↦
      let n : ℕ = cols - (x + 1) in
      let whole : cols ≡ x + 1 + n = omega (arith, low) in
      let parts : take n (drop (x + 1) a) ≡ take n (drop (x + 1) b) =
      take-drop (x + 1) n a b (ap (λ (k : ℕ). take k a) (sym whole) ∙ same ∙ ap (λ (k : ℕ). take k b) whole) in
      let stops = prefix_take n (drop (x + 1) a) (drop (x + 1) b) parts (omega (arith, length-drop (x + 1) a, many, whole)) (omega (arith, length-drop (x + 1) b, all, whole)) in
      omega (arith, stops, whole)
  | inr high ↦ omega (arith, high)
]

tab_row : Row (λ s. without_out (tab s))
unfolding tab
tab_row = record {
  row =
      λ s t a.
      let column = tab_column s.state.x s.grid.cols a.stops s.state.stops a.same a.many a.all in
      record {
        screens =
            record {
              stops = a.stops;
              is = ap tab a.is ∙ (λ i. with_state s (record s.state { x = column i; stops = a.stops }));
              same = a.same;
              many = a.many;
              all = a.all;
              few = a.few;
            };
        said = refl;
      };
}

take-set : (n x : ℕ) (v : Bool) (a b : List Bool) → take n a ≡ take n b → take n (set a x v) ≡ take n (set b x v)
take-set zero x v a b same = refl
take-set (suc n) x v [] [] same = refl
take-set (suc n) x v [] (y ∷ b) same = absurd (let e : ⊥ = cc in e)
take-set (suc n) x v (z ∷ a) [] same = absurd (let e : ⊥ = cc in e)
take-set (suc n) zero v (z ∷ a) (y ∷ b) same =
    let others : take n a ≡ take n b = cc in ap (λ (more : List Bool). v ∷ more) others
take-set (suc n) (suc x) v (z ∷ a) (y ∷ b) same =
    let first : z ≡ y = cc in
    let others : take n a ≡ take n b = cc in
    λ i. first i ∷ take-set n x v a b others i

-- a stop in the cursor's column is set or cleared
stop_alike : (v : Bool) (s t : Screen) → IsAlike s t
    → IsAlike (with_state s (record s.state { stops = slice_set s.state.stops s.state.x v })) (with_state t (record t.state { stops = slice_set t.state.stops t.state.x v }))
stop_alike v s t a = record {
  stops = set a.stops s.state.x v;
  is = ap (λ (u : Screen). with_state u (record u.state { stops = slice_set u.state.stops u.state.x v })) a.is;
  same = take-set s.grid.cols s.state.x v a.stops s.state.stops a.same;
  many = omega (arith, length-set a.stops s.state.x v, a.many);
  all = omega (arith, length-set s.state.stops s.state.x v, a.all);
  few = a.few;
}

-- both have the same tab stops
one_alike : (s : Screen) → s.grid.cols ≤ length s.state.stops → s.grid.cols ≤ 255 → IsAlike s s
one_alike s all few = record { stops = s.state.stops; is = refl; same = refl; many = all; all = all; few = few }

stop_row : Row (λ s. without_out (set_stop s))
unfolding set_stop
stop_row = record { row = λ s t a. record { screens = stop_alike true s t a; said = refl } }

no_stops_alike : (s t : Screen) → IsAlike s t
    → IsAlike (with_state s (record s.state { stops = replicate 255 false })) (with_state t (record t.state { stops = replicate 255 false }))
no_stops_alike s t a =
    let u : Screen = with_state s (record s.state { stops = replicate 255 false }) in
    subst (λ (w : Screen). IsAlike u w) (ap (λ (w : Screen). with_state w (record w.state { stops = replicate 255 false })) (sym a.is))
    (one_alike u (omega (arith, length-replicate 255 false, a.few)) a.few)

clear_row : (n : ℕ) → Row (λ s. without_out (clear_stops n s))
unfolding clear_stops
clear_row n = by (n == 0) (n == 3)
  where
    by : (b c : Bool) → Row (λ s. without_out (cond b (with_state s (record s.state { stops = slice_set s.state.stops s.state.x false })) (cond c (with_state s (record s.state { stops = replicate 255 false })) s)))
    by true c = record { row = λ s t a. record { screens = stop_alike false s t a; said = refl } }
    by false true = record { row = λ s t a. record { screens = no_stops_alike s t a; said = refl } }
    by false false = nothing_row

reset_row : Row (λ s. without_out (reset s))
unfolding reset
reset_row = record {
  row =
      λ s t a.
      record {
        screens =
            subst (λ (w : Screen). IsAlike (reset s) w) (ap reset (sym a.is))
            (one_alike (reset s) (omega (arith, length-map (range_with_len 0 255) is_start_stop, length-range_with_len 0 255, a.few)) a.few);
        said = refl;
      };
}

control_row : (code : ℕ) → Row (control code)
unfolding control after_shift
control_row code =
    if_row (code == 0x07) _ _ (with_out_row (λ s. Bell) (λ st s. refl))
    (if_row (code == 0x08) _ _ (computes_row _ (λ st s. refl))
    (if_row (code == 0x09) _ _ (tab_row)
    (if_row (code == 0x0A) _ _ (without_out_row _ newline_keeps)
    (if_row (code == 0x0B) _ _ (without_out_row _ newline_keeps)
    (if_row (code == 0x0C) _ _ (without_out_row _ newline_keeps)
    (if_row (code == 0x0D) _ _ (without_out_row _ (column_keeps 0))
    (if_row (code == 0x0E) _ _ (computes_row _ (λ st s. refl))
    (if_row (code == 0x0F) _ _ (computes_row _ (λ st s. refl))
    (nothing_row)))))))))

device_row : (which : ℕ) → Row (device_report which)
unfolding device_report
device_row which = if_row (which == 0) _ _ (with_out_row (λ s. Report (0x1B ∷ device_text)) (λ st s. refl)) nothing_row

plain_row : (last : ℕ) → Row (plain_escape last)
unfolding plain_escape save restore cursor_to with_keypad
plain_row last =
    if_row (last == 0x63) _ _ (reset_row)
    (if_row (last == 0x44) _ _ (without_out_row _ linefeed_keeps)
    (if_row (last == 0x45) _ _ (without_out_row _ next_keeps)
    (if_row (last == 0x48) _ _ (stop_row)
    (if_row (last == 0x4D) _ _ (without_out_row _ reverse_keeps)
    (if_row (last == 0x5A) _ _ (device_row 0)
    (if_row (last == 0x37) _ _ (computes_row _ (λ st s. refl))
    (if_row (last == 0x38) _ _ (computes_row _ (λ st s. refl))
    (if_row (last == 0x3E) _ _ (computes_row _ (λ st s. refl))
    (if_row (last == 0x3D) _ _ (computes_row _ (λ st s. refl))
    (nothing_row))))))))))

escape_row : (mid last : ℕ) → Row (escape mid last)
unfolding escape alignment_pattern with_g0 with_g1
escape_row mid last =
    if_row (mid == 0) _ _ (plain_row last)
    (if_row (mid == 0x25) _ _ (without_out_row _ (coding_keeps last))
    (if_row (mid == 0x23) _ _ (without_out_row _ (keeps_if (λ s. last == 0x38) alignment_pattern (λ s. s) (λ st s. refl) (plain _ (λ st s. refl)) keeps_nothing))
    (if_row (mid == 0x28) _ _ (computes_row _ (λ st s. refl))
    (if_row (mid == 0x29) _ _ (computes_row _ (λ st s. refl))
    (nothing_row)))))

status_row : (which : ℕ) → Row (status_report which)
unfolding status_report
status_row which =
    if_row (which == 5) _ _ (with_out_row (λ s. Report (0x1B ∷ codes "[0n")) (λ st s. refl))
    (if_row (which == 6) _ _ (with_out_row (λ s. Report (0x1B ∷ cursor_text s)) (λ st s. refl))
    (nothing_row))

lights_row : (which : ℕ) → Row (lights which)
unfolding lights
lights_row which =
    if_row (which == 0) _ _ (with_out_row (λ s. Lights 0) (λ st s. refl))
    (if_row (which == 1) _ _ (with_out_row (λ s. Lights 1) (λ st s. refl))
    (if_row (which == 2) _ _ (with_out_row (λ s. Lights 2) (λ st s. refl))
    (if_row (which == 3) _ _ (with_out_row (λ s. Lights 4) (λ st s. refl))
    (nothing_row))))

setting_row : (which value : ℕ) → Row (console_setting which value)
unfolding console_setting
setting_row which value =
    if_row (which == 1) _ _ (without_out_row _ (keeps_if (λ s. nat_lt value 16) _ (λ s. s) (λ st s. refl) (plain _ (λ st s. refl)) keeps_nothing))
    (if_row (which == 2) _ _ (without_out_row _ (keeps_if (λ s. nat_lt value 16) _ (λ s. s) (λ st s. refl) (plain _ (λ st s. refl)) keeps_nothing))
    (if_row (which == 8) _ _ (computes_row _ (λ st s. refl))
    (if_row (which == 12) _ _ (if_row (nat_le 1 value && nat_le value 63) _ _ (with_out_row (λ s. SwitchTo value) (λ st s. refl)) nothing_row)
    (if_row (which == 15) _ _ (with_out_row (λ s. SwitchLast) (λ st s. refl))
    (nothing_row)))))

sequence_row : (params : List ℕ) (last : ℕ) → Row (control_sequence params last)
unfolding control_sequence cursor_to cursor_to_in_region insert_characters delete_characters erase_characters after_sgr save restore
sequence_row params last =
    let n : ℕ = count_of params in
    let first : ℕ = number_at params 0 in
    let second : ℕ = number_at params 1 in
    if_row (last == 0x40) _ _ (computes_row _ (λ st s. refl))
    (if_row (last == 0x41) _ _ (computes_row _ (λ st s. refl))
    (if_row (last == 0x42) _ _ (computes_row _ (λ st s. refl))
    (if_row (last == 0x43) _ _ (computes_row _ (λ st s. refl))
    (if_row (last == 0x44) _ _ (computes_row _ (λ st s. refl))
    (if_row (last == 0x45) _ _ (computes_row _ (λ st s. refl))
    (if_row (last == 0x46) _ _ (computes_row _ (λ st s. refl))
    (if_row (last == 0x47) _ _ (computes_row _ (λ st s. refl))
    (if_row (last == 0x48) _ _ (computes_row _ (λ st s. refl))
    (if_row (last == 0x4A) _ _ (without_out_row _ (ed_keeps first))
    (if_row (last == 0x4B) _ _ (without_out_row _ (el_keeps first))
    (if_row (last == 0x4C) _ _ (without_out_row _ (il_keeps n))
    (if_row (last == 0x4D) _ _ (without_out_row _ (dl_keeps n))
    (if_row (last == 0x50) _ _ (computes_row _ (λ st s. refl))
    (if_row (last == 0x58) _ _ (computes_row _ (λ st s. refl))
    (if_row (last == 0x61) _ _ (computes_row _ (λ st s. refl))
    (if_row (last == 0x63) _ _ (device_row first)
    (if_row (last == 0x64) _ _ (computes_row _ (λ st s. refl))
    (if_row (last == 0x65) _ _ (computes_row _ (λ st s. refl))
    (if_row (last == 0x66) _ _ (computes_row _ (λ st s. refl))
    (if_row (last == 0x67) _ _ (clear_row first)
    (if_row (last == 0x68) _ _ (without_out_row _ (each_keeps (with_mode true) (mode_keeps true) params))
    (if_row (last == 0x6C) _ _ (without_out_row _ (each_keeps (with_mode false) (mode_keeps false) params))
    (if_row (last == 0x6D) _ _ (computes_row _ (λ st s. refl))
    (if_row (last == 0x6E) _ _ (status_row first)
    (if_row (last == 0x71) _ _ (lights_row first)
    (if_row (last == 0x72) _ _ (without_out_row _ (region_keeps n second))
    (if_row (last == 0x73) _ _ (computes_row _ (λ st s. refl))
    (if_row (last == 0x75) _ _ (computes_row _ (λ st s. refl))
    (if_row (last == 0x60) _ _ (computes_row _ (λ st s. refl))
    (if_row (last == 0x5D) _ _ (setting_row first second)
    (nothing_row)))))))))))))))))))))))))))))))

private_row : (params : List ℕ) (last : ℕ) → Row (private_sequence params last)
unfolding private_sequence
private_row params last =
    if_row (last == 0x68) _ _ (without_out_row _ (each_keeps (with_private_mode true) (private_keeps true) params))
    (if_row (last == 0x6C) _ _ (without_out_row _ (each_keeps (with_private_mode false) (private_keeps false) params))
    (nothing_row))

unit_row : (u : units.Unit) → Row (effect u)
unfolding with_start_palette
unit_row (units.Unit.Char code) = without_out_row _ (print_keeps (columns code) code)
unit_row (units.Unit.Byte b) = without_out_row _ (byte_keeps b)
unit_row (units.Unit.Control code) = control_row code
unit_row (units.Unit.Esc mid last) = escape_row mid last
unit_row (units.Unit.Csi private params last) =
    if_row private (private_sequence params last) (control_sequence params last) (private_row params last) (sequence_row params last)
unit_row (units.Unit.Colour n rgb) = without_out_row _ (colour_keeps n rgb)
unit_row units.Unit.ColourReset = computes_row _ (λ st s. refl)
unit_row units.Unit.Ignored = nothing_row

-- screens, what was said, and the rest
pub record RunAlike (a b : Reached ScreenAndOuts) : Type 0 where
  pub screens : IsAlike a.state.screen b.state.screen
  pub outs : b.state.outs ≡ a.state.outs
  pub rest : b.rest ≡ a.rest

done_alike : (f : Screen → Effect) → Row f → (a b : ScreenAndOuts) → IsAlike a.screen b.screen → b.outs ≡ a.outs
    → IsAlike (then_done f a).screen (then_done f b).screen × ((then_done f b).outs ≡ (then_done f a).outs)
done_alike f row a b screens outs =
    let done = row.row a.screen b.screen screens in (
      done.screens,
      λ i. outs i ++ outs_of_option (sym done.said i),
    )

effect_alike : (got : then.Then) (a b : ScreenAndOuts) → IsAlike a.screen b.screen → b.outs ≡ a.outs
    → IsAlike (effect_of screen_effects got a).screen (effect_of screen_effects got b).screen × ((effect_of screen_effects got b).outs ≡ (effect_of screen_effects got a).outs)
effect_alike (then.Then.Unit u) a b screens outs = done_alike (effect u) (unit_row u) a b screens outs
effect_alike (then.Then.Act c) a b screens outs = done_alike (control c) (control_row c) a b screens outs
effect_alike then.Then.More a b screens outs = (screens, outs)
effect_alike then.Then.Dropped a b screens outs = (screens, outs)

effects_alike : (read : Read) (a b : ScreenAndOuts) → IsAlike a.screen b.screen → b.outs ≡ a.outs
    → IsAlike (effects_of screen_effects read a).screen (effects_of screen_effects read b).screen × ((effects_of screen_effects read b).outs ≡ (effects_of screen_effects read a).outs)
effects_alike read a b screens outs = by read.bad
  where
    by : (bad : Bool)
        → let c = cond bad (then_done (effect (units.Unit.Char 0xFFFD)) a) a in
        let d = cond bad (then_done (effect (units.Unit.Char 0xFFFD)) b) b in
        IsAlike (effect_of screen_effects read.got c).screen (effect_of screen_effects read.got d).screen
        × ((effect_of screen_effects read.got d).outs ≡ (effect_of screen_effects read.got c).outs)
    by true =
        let first = done_alike (effect (units.Unit.Char 0xFFFD)) (unit_row (units.Unit.Char 0xFFFD)) a b screens outs in
        effect_alike read.got _ _ first.0 first.1
    by false = effect_alike read.got a b screens outs

pub run_alike : (bytes : List ℕ) (a b : Reached ScreenAndOuts) → RunAlike a b → RunAlike (run screen_effects bytes a) (run screen_effects bytes b)
run_alike [] a b alike = alike
run_alike (x ∷ bytes) a b alike =
    let mode : mode_of b.state.screen ≡ mode_of a.state.screen = ap mode_of alike.screens.is in
    let answers : answer b.rest (mode_of b.state.screen) x ≡ answer a.rest (mode_of a.state.screen) x = λ i. answer (alike.rest i) (mode i) x in
    let read : Read = answer a.rest (mode_of a.state.screen) x in
    let done = effects_alike read a.state b.state alike.screens alike.outs in
    run_alike bytes (step screen_effects x a) (step screen_effects x b)
    (record {
      screens =
          subst (λ (r : Read). IsAlike (effects_of screen_effects read a.state).screen (effects_of screen_effects r b.state).screen) (sym answers) done.0;
      outs = ap (λ (r : Read). (effects_of screen_effects r b.state).outs) answers ∙ done.1;
      rest = λ i. rest_after (alike.rest i) (mode i) x;
    })

start_alike : (s other : Screen) → IsStored s → s.state.map ≡ other.state.map → IsAlike s (redrawn_on other s)
start_alike s other stored map =
    let stops : List Bool = take s.grid.cols s.state.stops ++ replicate (255 - s.grid.cols) false in
    let many : length (take s.grid.cols s.state.stops) ≡ s.grid.cols =
    length-take-le s.grid.cols s.state.stops (omega (arith, stored.stops, stored.cols)) in
    record {
      stops = stops;
      is = λ i. with_state s (record s.state { stops = stops; map = sym map i });
      same = take_at (take s.grid.cols s.state.stops) (replicate (255 - s.grid.cols) false) s.grid.cols many;
      many = omega (arith, length-append (take s.grid.cols s.state.stops) (replicate (255 - s.grid.cols) false), many);
      all = omega (arith, stored.stops, stored.cols);
      few = stored.cols;
    }

pub texts_follow : TextsFollow
texts_follow s other m bytes stored map =
    let all = run_alike bytes (with_outs [] (make_reached s (fresh m))) (with_outs [] (make_reached (redrawn_on other s) (fresh m)))
    (record { screens = start_alike s other stored map; outs = refl; rest = refl }) in
    (all.screens, all.outs, all.rest)
