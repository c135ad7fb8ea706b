use Rattle.std.proofs.Common.{◌≡◌, ◌++◌, drop}
use Rattle.watch.specs.Texts.{head_text, sights_text}
use Rattle.vt_world.specs.History.{replay}
use Rattle.watch.proofs.watcher.history_text.Given as goal

abbrev pub invariant-loop-i : goal.invariant-loop-i
invariant-loop-i l = record {
  text : l.text.bytes ++ sights_text l.form l.cert l.i l.following.since l.following.world (drop l.i l.entries)
      ≡ head_text l.form l.fn.world ++ sights_text l.form l.cert 0 0 l.fn.world l.entries;
  world : replay l.following.world (drop l.i l.entries) ≡ replay l.fn.world l.entries;
}
