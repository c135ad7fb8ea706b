use Rattle.std.proofs.Common.{◌≡◌, take}
use Rattle.vt_explain.specs.Finding.{HasRead}
use Rattle.vt_world.specs.History.{replay}
use Rattle.vt_explain.proofs.certifying.certificate.Given as goal

abbrev pub invariant-loop-i : goal.invariant-loop-i
invariant-loop-i l = record {
  read : HasRead l.fn.start (take l.i l.entries) l.reader;
  world : l.world ≡ replay l.fn.start (take l.i l.entries);
}
