use Rattle.std.proofs.Common.{List, Option, subst}
use Rattle.key_syms.specs.Act.{Act}
use Rattle.key_tables.specs.Tables.{AreMaps}
use Rattle.key_tables.proofs.Places.{kept_maps}
use Rattle.key_tables.proofs.maps.Maps.exists.Goals as goal

pub returns-clause-whole : goal.returns-clause-whole
returns-clause-whole c =
    subst (λ (ms : List (Option (List Act))). AreMaps ms) c.self.view_is
    (kept_maps c.self.inside.places.items c.self.inside.kept.items c.self.invariant)
