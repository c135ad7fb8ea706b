use Rattle.std.proofs.Common.{◌≡◌, take}
use Rattle.std.specs.List.{flat_map}
use Rattle.cooked.specs.Fresh.{fresh}
use Rattle.cooked.specs.Termios.{usual}
use Rattle.cooked.specs.Whole.{all_echo, all_items}
use Rattle.vt_tool.specs.Commands.Cook.{item_line}
use Rattle.vt_tool.proofs.commands.cook.cook.Given as goal

abbrev pub invariant-loop-b : goal.invariant-loop-b
invariant-loop-b l = record {
  termios : l.cooked.termios ≡ usual;
  fresh : l.cooked.fresh ≡ fresh usual (take l.b-index l.typed);
  text : l.text.bytes ≡ flat_map item_line (all_items usual (take l.b-index l.typed));
  echo : l.echo.bytes ≡ all_echo usual (take l.b-index l.typed);
}
