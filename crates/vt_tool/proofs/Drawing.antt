-- The part of a source that is drawn on a screen so far.
use Rattle.std.proofs.Common.{◌≡◌, ℕ, ◌+◌, ◌<◌, ◌≤◌, List, ◌++◌, length, take, Option, sym, ap, ◌∙◌, arith, length-append, take-take}
use Rattle.std.proofs.Math.Seq.{take-append-add}
use Rattle.std.proofs.lemmas.List.{length-take-le}
use Rattle.std.specs.Io.KnownBytes.{Consumes}
use Rattle.vt_screen.specs.Run.{AnyCut, after}
use Rattle.vt_canvas.specs.Screen.{Screen}
use Rattle.vt_tool.proofs.Streams.{consumes_append}
use Rattle.vt_units.specs.Run.{Reached}

-- these bytes were taken and drawn, and so many may come yet
pub record HasDrawn (told told' : Option (List ℕ)) (emu emu' : Reached Screen) (limit left : ℕ) : Type 0 where
  pub taken : List ℕ
  pub consumed : Consumes told told' taken
  pub counted : length taken + left ≡ limit
  pub drawn : emu' ≡ after emu taken

-- one more piece that passes the limit, of which the front is drawn
pub drawn_past : AnyCut → (told told' told'' : Option (List ℕ)) (emu emu' emu'' : Reached Screen)
    (limit left count : ℕ) (piece : List ℕ)
    → HasDrawn told told' emu emu' limit left → Consumes told' told'' (take count piece)
    → left < count → count ≤ length piece → emu'' ≡ after emu' (take left piece)
    → (taken : List ℕ) × Consumes told told'' taken × (limit < length taken)
    × (emu'' ≡ after emu (take limit taken))
drawn_past any_cut told told' told'' emu emu' emu'' limit left count piece so_far took past fits draws =
    let taken : List ℕ = so_far.taken in
    let bytes : List ℕ = take count piece in
    let cut : take (length taken + left) (taken ++ bytes) ≡ taken ++ take left bytes =
    take-append-add taken bytes left in
    let front : take left bytes ≡ take left piece = take-take left count piece (omega (arith, past)) in
    let kept : take limit (taken ++ bytes) ≡ taken ++ take left piece =
    ap (λ (n : ℕ). take n (taken ++ bytes)) (sym so_far.counted)
    ∙ cut ∙ ap (λ (xs : List ℕ). taken ++ xs) front in (
      taken ++ bytes,
      consumes_append told told' told'' taken bytes so_far.consumed took,
      omega (arith, length-append taken bytes, length-take-le count piece fits, so_far.counted, past),
      draws ∙ ap (λ (m : Reached Screen). after m (take left piece)) so_far.drawn
          ∙ sym (any_cut emu taken (take left piece)).0
          ∙ ap (after emu) (sym kept),
    )
