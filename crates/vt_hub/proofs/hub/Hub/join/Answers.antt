use Rattle.std.proofs.Common.{max, ap, subst, ◌∙◌}
use Rattle.turn_lock.specs.Words.{view}
use Rattle.vt_hub.specs.Carrying.{plain}
use Rattle.vt_hub.specs.Histories.{BeginsWith}
use Rattle.vt_hub.specs.Views.{PassView, StewardView}
use Rattle.vt_hub.proofs.Carried.{plain_begins}
use Rattle.vt_hub.proofs.hub.Hub.join.Goals as goal

pub returns-clause-own_seen : goal.returns-clause-own_seen
returns-clause-own_seen g c =
    subst (λ (s : StewardView). BeginsWith (plain (view c.join.new.p).seen) s.seen) c.s.view_is
    (plain_begins (view c.join.new.p).seen (view c.s.inside.place).seen c.join.ensures.own_seen)

pub returns-clause-other_seen : goal.returns-clause-other_seen
returns-clause-other_seen g c =
    subst (λ (v : PassView). BeginsWith (plain (view c.join.new.p).seen) v.seen) c.p.view_is
    (plain_begins (view c.join.new.p).seen (view c.p.inside.place).seen c.join.ensures.other_seen)

pub returns-clause-known : goal.returns-clause-known
returns-clause-known g c =
    ap (λ v. v.known) c.join.ensures.own.1
    ∙ (ap (λ (s : StewardView). max s.known (view c.p.inside.place).known) c.s.view_is
    ∙ ap (λ (v : PassView). max c.args.s.now.known v.known) c.p.view_is)

pub returns-clause-own_read : goal.returns-clause-own_read
returns-clause-own_read g c =
    subst (λ (s : StewardView). BeginsWith (plain (view c.join.new.p).read) s.read) c.s.view_is
    (plain_begins (view c.join.new.p).read (view c.s.inside.place).read c.join.ensures.own_read)

pub returns-clause-other_read : goal.returns-clause-other_read
returns-clause-other_read g c =
    subst (λ (v : PassView). BeginsWith (plain (view c.join.new.p).read) v.read) c.p.view_is
    (plain_begins (view c.join.new.p).read (view c.p.inside.place).read c.join.ensures.other_read)
