use Rattle.std.proofs.Common.{◌≡◌, ◌++◌, take, drop}
use Rattle.vt_tool.specs.Commands.Typed.{HasTyped}
use Rattle.vt_tool.specs.Commands.Typing.{lines_after, typed_text}
use Rattle.vt_tool.proofs.commands.typing.lines.add_typed.Given as goal

abbrev pub invariant-loop-b : goal.invariant-loop-b
invariant-loop-b l =
    HasTyped l.tables l.mode (take l.b-index l.keys) l.typist
    × (l.text.bytes ++ lines_after l.tables l.mode (take l.b-index l.keys) (drop l.b-index l.keys)
    ≡ l.fn.text.bytes ++ typed_text l.tables l.mode l.keys)
