use Rattle.std.proofs.Common.{◌∙◌, ap}
use Rattle.std.specs.Map.{lookup}
use Rattle.key_text.proofs.Naming.{at_text, inserted}
use Rattle.key_text.proofs.includes.put_place.Goals as goal

pub returns-clause-ok : goal.returns-clause-ok
returns-clause-ok c = λ other.
    ap (lookup (at_text other)) c.in_ok-insert.ensures.entries
    ∙ inserted c.args.places.now.entries c.args.name c.args.place other
