use Rattle.std.proofs.Common.{◌≡◌, ◌++◌, drop}
use Rattle.std.specs.List.{flat_map}
use Rattle.watch.specs.States.{owner_text_at, owners_text}
use Rattle.watch.proofs.states.owners_text.Given as goal

abbrev pub invariant-loop-console : goal.invariant-loop-console
invariant-loop-console l =
    l.text.bytes ++ flat_map (owner_text_at l.form l.world) (drop l.console-index l.all) ≡ owners_text l.form l.world
