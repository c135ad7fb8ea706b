use Rattle.std.proofs.Common.{take}
use Rattle.key_compile.specs.Puts.{PutsTexts}
use Rattle.key_compile.specs.Strings.{last_text}
use Rattle.key_compile.proofs.strings.put_strings.Given as goal

abbrev pub invariant-loop-i : goal.invariant-loop-i
invariant-loop-i l = PutsTexts (last_text (take l.i l.lines)) l.initial.tables l.tables
