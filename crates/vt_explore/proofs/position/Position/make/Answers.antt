use Rattle.std.proofs.Common.{[], ◌∷◌, ◌++◌, ap}
use Rattle.std.specs.Prelude.{◌||◌}
use Rattle.session_order.proofs.Stated.{meant_laws-plain}
use Rattle.vt_explore.proofs.Calls.{made}
use Rattle.vt_explore.specs.declared.position.Position.{Position}
use Rattle.vt_world.proofs.Stated.{legal_grows-replay}
use Rattle.vt_world.proofs.for_laws.Mapping.{tables_stay}
use Rattle.vt_explore.proofs.position.Position.make.Goals as goal

pub returns : goal.returns
returns c = λ o h is few now at.
    let after : Position = record { world = c.call.new.self; standing = c.forget.new.self; tables_set = c.args.self.now.tables_set || c.sets_tables.result } in
    made meant_laws-plain legal_grows-replay tables_stay o h c.args.p c.args.event.now c.args.program.now
    c.args.self.now after c.in_ok-reply.reply is few now at c.in_ok-reply.ensures.ok
    (ap (λ sets. c.args.self.now.tables_set || sets) c.sets_tables.ensures) (record {
      took = λ programs h entry is_program stands short by follows answer.
          c.forget.ensures programs (h ++ entry ∷ []) is_program
          (c.took.ensures programs h entry is_program stands short by follows answer);
    })
