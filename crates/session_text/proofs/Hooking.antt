-- A process whose hooks have a fault.
use Rattle.std.proofs.Common.{◌≡◌, ℕ, List, Option, Ok, Err, codes, refl, sym, ap, ◌∙◌}
use Rattle.table_fields.specs.Arrays.{array_of}
use Rattle.table_fields.specs.declared.fault.TableFault.{TableFault}
use Rattle.toml.specs.Data.{Data, Members, as_str, get_member}
use Rattle.vt_events.specs.declared.event.Event.{Event}
use Rattle.session_text.specs.HookTexts.{hooks_say, no_hooks}
use Rattle.session_text.specs.ItemTexts.{item_says}
use Rattle.session_text.specs.Processes.{Head, head_of}
use Rattle.session_text.specs.Says.{each_says}
use Rattle.session_text.specs.Scripts.{process_says}

pub process_fault : (p : ℕ) (members : Members) (head : Head) (items : List Event) (h : Option Data)
    (texts : List (List ℕ)) (f : TableFault) → head_of p members ≡ Ok head
    → each_says (item_says p) 1 head.script (Ok items) → h ≡ get_member (codes "hooks") members
    → array_of as_str p 4 h ≡ Ok texts → hooks_say p 1 no_hooks texts (Err f)
    → process_says p members (Err f)
process_fault p members head items h texts f head_is items_say h_is texts_are said = (
  Ok head,
  sym head_is,
  (
    Ok items,
    items_say,
    (Ok texts, sym texts_are ∙ ap (array_of as_str p 4) h_is, (Err f, said, refl)),
  ),
)
