use Rattle.std.proofs.Common.{refl, ap}
use Rattle.vt_base.specs.ConsoleSet.{is_among}
use Rattle.vt_world.specs.Laws.{IsStart}
use Rattle.example_hub.proofs.opening.started.Goals as goal

pub returns : goal.returns
returns c = λ p.
    let start : IsStart c.in_ok-world.world = record {
      rows = 2;
      cols = 20;
      consoles = 6;
      front = c.numbered.result;
      keyboards = 1;
      processes = c.processes.result;
      tables = c.in_ok-tables.tables;
      fit = record { no_zero = refl; has_front = ap (is_among 6) c.numbered.ensures };
      opened = c.in_ok-world.ensures;
    } in
    c.nobody_waits_at_start.ensures c.in_ok-world.world start p
