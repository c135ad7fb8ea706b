-- The entry of a call that a machine took, and what is written of it.
use Rattle.std.proofs.Common.{◌≡◌, ℕ, ◌-◌, List, [], ◌∷◌, ◌++◌, Some, length, ap, ◌∙◌, arith}
use Rattle.std.proofs.lemmas.List.{get_or_push, length_push}
use Rattle.std.proofs.lemmas.Option.{slice_get-get_or}
use Rattle.std.specs.List.{slice_get}
use Rattle.machine.specs.MachineState.{HasCalled, MachineState, next_entry}
use Rattle.vt_events.specs.declared.entry.Entry.{Entry}
use Rattle.vt_events.specs.declared.event.Event.{Event}
use Rattle.vt_journal.specs.Log.{Logged}

last_added : (es : List Entry) (e : Entry) → slice_get (es ++ e ∷ []) (length (es ++ e ∷ []) - 1) ≡ Some e
last_added es e =
    let size : length (es ++ e ∷ []) ≡ _ = length_push es e in
    slice_get-get_or (es ++ e ∷ []) (length (es ++ e ∷ []) - 1) e (omega (arith, size))
    ∙ ap (λ (x : Entry). Some x) (get_or_push es e e (length (es ++ e ∷ []) - 1) (omega (arith, size)))

pub last_called : (p : ℕ) (event : Event) (old new : MachineState) (called : HasCalled p event old new)
    → slice_get new.log.entries (length new.log.entries - 1) ≡ Some (next_entry old p event called.reply)
last_called p event old new called =
    ap (λ (l : Logged). slice_get l.entries (length l.entries - 1)) called.log
    ∙ last_added old.log.entries (next_entry old p event called.reply)

pub some_same : (x y : Entry) → Some x ≡ Some y → x ≡ y
some_same x y e = cc
