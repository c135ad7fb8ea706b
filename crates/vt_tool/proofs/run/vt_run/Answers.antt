use Rattle.std.proofs.Common.{map, string_bytes}
use Rattle.vt_tool.proofs.Complete.{run_completes}
use Rattle.vt_tool.proofs.Journals.{tells_displays}
use Rattle.vt_tool.proofs.Knows.{begun}
use Rattle.vt_tool.specs.Commands.{all_forms}
use Rattle.vt_tool.specs.declared.command.Command.TheVariants as command
use Rattle.vt_tool.proofs.run.vt_run.Goals as goal

pub returns-clause-complete : goal.returns-clause-complete
returns-clause-complete g c =
    run_completes all_forms (map string_bytes c.args.words.now)
    (record {
      src = g.S.Source.stream c.args.src.now;
      out = g.O.Sink.stream c.args.out.now;
      err = g.E.Sink.stream c.args.err.now;
    })
    (record {
      src = g.S.Source.stream c.do_race-first.new.src;
      out = g.O.Sink.stream c.do_race-first.new.out;
      err = g.E.Sink.stream c.write_status.new.err;
    })
    c.write_status.result
    (record {
      first = c.do_race-first.result;
      begins =
          begun all_forms (map string_bytes c.args.words.now) command.Race _ _ _ _ c.do_race-first.result
          (c.is_race.ensures.race c.if-not-is_race.false) c.do_race-first.ensures;
      tells = c.write_status.ensures;
    })

pub returns-clause-displays : goal.returns-clause-displays
returns-clause-displays g c =
    tells_displays all_forms (map string_bytes c.args.words.now)
    (record {
      src = g.S.Source.stream c.args.src.now;
      out = g.O.Sink.stream c.args.out.now;
      err = g.E.Sink.stream c.args.err.now;
    })
    (record {
      src = g.S.Source.stream c.do_race-first.new.src;
      out = g.O.Sink.stream c.do_race-first.new.out;
      err = g.E.Sink.stream c.write_status.new.err;
    })
    c.write_status.result
    (record {
      first = c.do_race-first.result;
      begins =
          begun all_forms (map string_bytes c.args.words.now) command.Race _ _ _ _ c.do_race-first.result
          (c.is_race.ensures.race c.if-not-is_race.false) c.do_race-first.ensures;
      tells = c.write_status.ensures;
    })
