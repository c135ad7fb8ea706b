use Rattle.std.proofs.Common.{◌≡◌, ◌+◌, true, List, Result, drop, length, map}
use Rattle.std.specs.List.{All}
use Rattle.table_fields.specs.Collecting.{found_before}
use Rattle.table_fields.specs.declared.fault.TableFault.{TableFault}
use Rattle.vt_events.specs.declared.event.Event.{Event}
use Rattle.session_text.specs.ItemTexts.{is_item, item_says}
use Rattle.session_text.specs.Says.{each_says}
use Rattle.session_text.proofs.script_items.items.Given as goal

abbrev pub invariant-loop-i : goal.invariant-loop-i
invariant-loop-i l =
    (l.items.room + l.i ≡ length l.texts)
    × (length l.items.events ≡ l.i)
    × All (λ e. is_item e ≡ true) l.items.events
    × ((said : Result (List Event) TableFault)
    → each_says (item_says l.part) (l.i + 1) (map (λ text. text.now) (drop l.i l.texts)) said
    → each_says (item_says l.part) 1 (map (λ text. text.now) l.texts) (found_before l.items.events said))
