use Rattle.vt_procs.specs.declared.config.Config.{Config}
use Rattle.vt_world.specs.Laws.{IsStart}
use Rattle.console_tests.proofs.tests.shared.started.Goals as goal

pub returns : goal.returns
returns c = λ p.
    let config : Config = c.config.result.now in
    let start : IsStart c.in_ok-world.world = record {
      rows = config.size.rows;
      cols = config.size.cols;
      consoles = config.consoles;
      front = config.front;
      keyboards = config.keyboards;
      processes = config.procs;
      tables = c.key_tables.result.now;
      fit = c.config.ensures.fit;
      opened = c.in_ok-world.ensures;
    } in
    c.nobody_waits_at_start.ensures c.in_ok-world.world start p
