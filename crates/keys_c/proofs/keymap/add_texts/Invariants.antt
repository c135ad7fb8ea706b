use Rattle.std.proofs.Common.{◌≡◌, drop}
use Rattle.keys_c.specs.Keymaps.{with_texts}
use Rattle.keys_c.proofs.keymap.add_texts.Given as goal

abbrev pub invariant-loop-t : goal.invariant-loop-t
invariant-loop-t l = with_texts l.includes (drop l.t-index l.texts) ≡ with_texts l.fn.includes l.texts
