use Rattle.std.proofs.Common.{◌≡◌, [], ◌∷◌, Some, ◌∙◌, ap, subst, rules}
use Rattle.turn_lock.specs.History.{word_of}
use Rattle.turn_lock.proofs.Steps.{opens_ok}
use Rattle.turn_lock.proofs.lock.TurnLock.open.Goals as goal

pub new-requires : goal.new-requires
new-requires g c =
    let items : c.push.new.self.items ≡ Some c.args.value ∷ [] = search rules in
    opens_ok g.K.Kept.before g.K.Kept.entries g.K.Kept.seal g.K.Kept.right
    (subst g.K.Kept.right c.requires.entries c.front-front.ensures.right) g.met.K.Kept.display c.args.value
    c.front-front.result _
    (c.front-front.ensures.word ∙ ap (word_of g.K.Kept.before) c.requires.entries) c.requires.entries
    c.requires.seal items
