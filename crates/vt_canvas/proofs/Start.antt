-- The user's table at the start is one list.
use Rattle.std.proofs.Common.{◌≡◌, ◌<◌, ℕ, Bool, List, get_or, length, arith, ◌∙◌, sym}
use Rattle.std.proofs.lemmas.Grind.{same_number_lists}
use Rattle.std.proofs.lemmas.List.{same_lists}
use Rattle.std.proofs.lemmas.List.FromFn.{get_or-map-range_with_len, length-map-range_with_len}
use Rattle.std.specs.Prelude.{EachIndex, slice_index}
use Rattle.vt_chars.specs.CharMap.{font_place}
use Rattle.vt_canvas.specs.Screen.{is_start_stop, start_stops, start_user}

pub user_is : (user : List ℕ) → length user ≡ 256 → EachIndex user (λ b. slice_index user b ≡ font_place b)
    → user ≡ start_user
user_is user len each =
    same_number_lists user start_user (len ∙ sym (length-map-range_with_len font_place 0 256))
    (λ k within. each k within ∙ sym (get_or-map-range_with_len font_place 0 256 k k 0 (omega (arith, len)) (omega arith)))

pub stops_are : (stops : List Bool) → length stops ≡ 255
    → ((k : ℕ) (d : Bool) → k < 255 → get_or stops k d ≡ is_start_stop k) → stops ≡ start_stops
stops_are stops len each =
    same_lists stops start_stops (len ∙ sym (length-map-range_with_len is_start_stop 0 255))
    (λ k d within. each k d (omega (arith, within, len))
    ∙ sym (get_or-map-range_with_len is_start_stop 0 255 k k d (omega (arith, within, len)) (omega arith)))
