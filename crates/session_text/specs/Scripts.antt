-- The programs of processes, read from a session's table. This project's own.
use Rattle.std.specs.Prelude.{◌≡◌, ℕ, ◌≤◌, true, Result, Ok, List, length, codes}
use Rattle.std.specs.List.{All}
use Rattle.table_fields.specs.Arrays.{array_of}
use Rattle.table_fields.specs.declared.fault.TableFault.{TableFault}
use Rattle.toml.specs.Data.{Members, as_str, get_member}
use Rattle.vt_events.specs.declared.event.Event.{Event}
use Rattle.session_text.specs.HookTexts.{hooks_say, no_hooks}
use Rattle.session_text.specs.ItemTexts.{is_item, item_says}
use Rattle.session_text.specs.Items.{Listed}
use Rattle.session_text.specs.Processes.{head_of, most_items}
use Rattle.session_text.specs.Says.{each_says, is, ◌>>=◌}
use Rattle.session_text.specs.declared.process.Process.{Process}

-- these calls, with no room for more
abbrev pub make_listed : List Event → Listed
make_listed events = record { events = events; room = 0 }

-- the keys of process p, in the order of the checks
abbrev pub process_says : ℕ → Members → Result Process TableFault → Type 0
process_says p members = do
  head ← is (head_of p members)
  items ← each_says (item_says p) 1 head.script
  texts ← is (array_of as_str p 4 (get_member (codes "hooks") members))
  hooked ← hooks_say p 1 no_hooks texts
  is (Ok (record { start = head.start; items = make_listed items; hooks = hooked.acts }))

-- a script has at most the greatest number of items, each of which a script may have
pub record IsScript (items : Listed) : Type 0 where
  pub few : length items.events ≤ most_items
  pub all : All (λ e. is_item e ≡ true) items.events
