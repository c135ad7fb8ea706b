use Rattle.std.proofs.Common.{map, string_bytes}
use Rattle.vt_tool.proofs.Complete.{run_completes}
use Rattle.vt_tool.proofs.Journals.{tells_displays}
use Rattle.vt_tool.specs.Commands.{serial_forms}
use Rattle.vt_tool.proofs.tool.vt_command.Goals as goal

pub returns-clause-complete : goal.returns-clause-complete
returns-clause-complete g c =
    run_completes serial_forms (map string_bytes c.args.words.now)
    (record {
      src = g.S.Source.stream c.args.src.now;
      out = g.O.Sink.stream c.args.out.now;
      err = g.E.Sink.stream c.args.err.now;
    })
    (record {
      src = g.S.Source.stream c.begin-first.new.src;
      out = g.O.Sink.stream c.begin-first.new.out;
      err = g.E.Sink.stream c.write_status.new.err;
    })
    c.write_status.result
    (record { first = c.begin-first.result; begins = c.begin-first.ensures; tells = c.write_status.ensures })

pub returns-clause-displays : goal.returns-clause-displays
returns-clause-displays g c =
    tells_displays serial_forms (map string_bytes c.args.words.now)
    (record {
      src = g.S.Source.stream c.args.src.now;
      out = g.O.Sink.stream c.args.out.now;
      err = g.E.Sink.stream c.args.err.now;
    })
    (record {
      src = g.S.Source.stream c.begin-first.new.src;
      out = g.O.Sink.stream c.begin-first.new.out;
      err = g.E.Sink.stream c.write_status.new.err;
    })
    c.write_status.result
    (record { first = c.begin-first.result; begins = c.begin-first.ensures; tells = c.write_status.ensures })
