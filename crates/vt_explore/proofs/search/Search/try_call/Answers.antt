use Rattle.std.proofs.Common.{◌≡◌, ℕ, ◌+◌, ◌≤◌, Bool, List, [], ◌∷◌, ◌++◌, length, map, Some, arith, sym, ap, ◌∙◌, subst}
use Rattle.std.proofs.lemmas.List.{length-map, length_push}
use Rattle.vt_events.specs.Plain.{plain_reply}
use Rattle.vt_explore.proofs.Finding.{found_passed, tried_passed}
use Rattle.vt_explore.proofs.Nevers.{longer_is}
use Rattle.vt_explore.specs.Alike.{Extends, HasLike}
use Rattle.vt_explore.specs.Findings.{AddsPassed, IsTried}
use Rattle.vt_explore.specs.Held.{HeldState, IsHeld}
use Rattle.vt_explore.specs.Positions.{HasMade, IsAfter}
use Rattle.vt_explore.specs.Questions.{Wants}
use Rattle.vt_explore.specs.Searches.{AreSorted}
use Rattle.vt_explore.specs.declared.position.Position.{Position}
use Rattle.session_order.specs.Ends.{Setup}
use Rattle.session_order.specs.Orders.{history_of}
use Rattle.session_order.specs.Serial.{call_now, entry_at}
use Rattle.session_order.specs.Sessions.{setup_of}
use Rattle.vt_events.specs.declared.entry.Entry.{Entry}
use Rattle.vt_events.specs.declared.event.Event.{Event}
use Rattle.vt_explore.proofs.search.Search.try_call.Goals as goal

pub returns-clause-pool : goal.returns-clause-pool
returns-clause-pool g c = c.in_ok-enter.ensures.pool

pub returns-clause-grows : goal.returns-clause-grows
returns-clause-grows g c =
    subst (Extends c.args.self.now) (sym c.count.ensures) c.in_ok-enter.ensures.grows

pub returns-clause-one : goal.returns-clause-one
returns-clause-one g c =
    subst (λ known. length known ≤ length c.args.self.now + 1) (sym c.count.ensures) c.in_ok-enter.ensures.one

pub enter-requires-clause-pool : goal.enter-requires-clause-pool
enter-requires-clause-pool g c = c.in_ok-held.ensures.pool

pub enter-requires-clause-at : goal.enter-requires-clause-at
enter-requires-clause-at g c =
    let o : Setup = setup_of c.args.s.now in
    let p : ℕ = c.args.p in
    let e : Event = c.args.event.now in
    let order : List ℕ = c.args.base.now.order in
    let h : List Entry = history_of o order in
    let longer : List ℕ = c.make.new.self.order in
    let copied : IsHeld o c.in_ok-held.held = subst (IsHeld o) (sym c.in_ok-held.ensures.same) c.requires.base in
    let same : c.in_ok-held.held.order ≡ order = ap (λ (held : HeldState). held.order) c.in_ok-held.ensures.same in
    let made : HasMade o h p e c.in_ok-reply.reply c.make.new.self.position =
    subst (λ turns. HasMade o (history_of o turns) p e c.in_ok-reply.reply c.make.new.self.position) same
    (c.in_ok-reply.ensures.made o c.requires.program
    (subst (λ turns. call_now o (history_of o turns) p ≡ Some e) (sym same) c.requires.call) copied) in
    let parts : longer ≡ order ++ p ∷ [] =
    c.in_ok-reply.ensures.order ∙ ap (λ turns. turns ++ p ∷ []) same in
    let new : Entry = entry_at o.start h p e in
    let grown : history_of o longer ≡ h ++ new ∷ [] = longer_is o order longer p e parts c.requires.call in
    let calls : length (history_of o longer) ≡ length h + 1 = ap length grown ∙ length_push h new in
    subst (λ made. IsAfter o made c.make.new.self.position) (sym grown) made.after

pub enter-requires-clause-full : goal.enter-requires-clause-full
enter-requires-clause-full g c =
    let o : Setup = setup_of c.args.s.now in
    let p : ℕ = c.args.p in
    let e : Event = c.args.event.now in
    let order : List ℕ = c.args.base.now.order in
    let h : List Entry = history_of o order in
    let longer : List ℕ = c.make.new.self.order in
    let copied : IsHeld o c.in_ok-held.held = subst (IsHeld o) (sym c.in_ok-held.ensures.same) c.requires.base in
    let same : c.in_ok-held.held.order ≡ order = ap (λ (held : HeldState). held.order) c.in_ok-held.ensures.same in
    let made : HasMade o h p e c.in_ok-reply.reply c.make.new.self.position =
    subst (λ turns. HasMade o (history_of o turns) p e c.in_ok-reply.reply c.make.new.self.position) same
    (c.in_ok-reply.ensures.made o c.requires.program
    (subst (λ turns. call_now o (history_of o turns) p ≡ Some e) (sym same) c.requires.call) copied) in
    let parts : longer ≡ order ++ p ∷ [] =
    c.in_ok-reply.ensures.order ∙ ap (λ turns. turns ++ p ∷ []) same in
    let new : Entry = entry_at o.start h p e in
    let grown : history_of o longer ≡ h ++ new ∷ [] = longer_is o order longer p e parts c.requires.call in
    let calls : length (history_of o longer) ≡ length h + 1 = ap length grown ∙ length_push h new in
    let more = length_push order p in
    let turns = ap length parts in
    omega (arith, calls, more, turns, c.requires.full)

pub enter-requires-clause-sorted : goal.enter-requires-clause-sorted
enter-requires-clause-sorted g c =
    let o : Setup = setup_of c.args.s.now in
    let p : ℕ = c.args.p in
    let e : Event = c.args.event.now in
    let order : List ℕ = c.args.base.now.order in
    let h : List Entry = history_of o order in
    let longer : List ℕ = c.make.new.self.order in
    let copied : IsHeld o c.in_ok-held.held = subst (IsHeld o) (sym c.in_ok-held.ensures.same) c.requires.base in
    let same : c.in_ok-held.held.order ≡ order = ap (λ (held : HeldState). held.order) c.in_ok-held.ensures.same in
    let made : HasMade o h p e c.in_ok-reply.reply c.make.new.self.position =
    subst (λ turns. HasMade o (history_of o turns) p e c.in_ok-reply.reply c.make.new.self.position) same
    (c.in_ok-reply.ensures.made o c.requires.program
    (subst (λ turns. call_now o (history_of o turns) p ≡ Some e) (sym same) c.requires.call) copied) in
    let parts : longer ≡ order ++ p ∷ [] =
    c.in_ok-reply.ensures.order ∙ ap (λ turns. turns ++ p ∷ []) same in
    let new : Entry = entry_at o.start h p e in
    let grown : history_of o longer ≡ h ++ new ∷ [] = longer_is o order longer p e parts c.requires.call in
    let calls : length (history_of o longer) ≡ length h + 1 = ap length grown ∙ length_push h new in
    subst (AreSorted o c.args.self.now) (sym calls) c.requires.sorted

pub returns-clause-sorted : goal.returns-clause-sorted
returns-clause-sorted g c =
    let o : Setup = setup_of c.args.s.now in
    let p : ℕ = c.args.p in
    let e : Event = c.args.event.now in
    let order : List ℕ = c.args.base.now.order in
    let h : List Entry = history_of o order in
    let longer : List ℕ = c.make.new.self.order in
    let copied : IsHeld o c.in_ok-held.held = subst (IsHeld o) (sym c.in_ok-held.ensures.same) c.requires.base in
    let same : c.in_ok-held.held.order ≡ order = ap (λ (held : HeldState). held.order) c.in_ok-held.ensures.same in
    let made : HasMade o h p e c.in_ok-reply.reply c.make.new.self.position =
    subst (λ turns. HasMade o (history_of o turns) p e c.in_ok-reply.reply c.make.new.self.position) same
    (c.in_ok-reply.ensures.made o c.requires.program
    (subst (λ turns. call_now o (history_of o turns) p ≡ Some e) (sym same) c.requires.call) copied) in
    let parts : longer ≡ order ++ p ∷ [] =
    c.in_ok-reply.ensures.order ∙ ap (λ turns. turns ++ p ∷ []) same in
    let new : Entry = entry_at o.start h p e in
    let grown : history_of o longer ≡ h ++ new ∷ [] = longer_is o order longer p e parts c.requires.call in
    let calls : length (history_of o longer) ≡ length h + 1 = ap length grown ∙ length_push h new in
    subst (λ known. AreSorted o known (length h + 1)) (sym c.count.ensures)
    (subst (AreSorted o c.enter.new.self) calls c.in_ok-enter.ensures.sorted)

pub returns-clause-found : goal.returns-clause-found
returns-clause-found g c =
    let all : List Wants = map g.Q.Question.wants c.args.questions.now in
    let o : Setup = setup_of c.args.s.now in
    let p : ℕ = c.args.p in
    let e : Event = c.args.event.now in
    let order : List ℕ = c.args.base.now.order in
    let h : List Entry = history_of o order in
    let longer : List ℕ = c.make.new.self.order in
    let copied : IsHeld o c.in_ok-held.held = subst (IsHeld o) (sym c.in_ok-held.ensures.same) c.requires.base in
    let same : c.in_ok-held.held.order ≡ order = ap (λ (held : HeldState). held.order) c.in_ok-held.ensures.same in
    let made : HasMade o h p e c.in_ok-reply.reply c.make.new.self.position =
    subst (λ turns. HasMade o (history_of o turns) p e c.in_ok-reply.reply c.make.new.self.position) same
    (c.in_ok-reply.ensures.made o c.requires.program
    (subst (λ turns. call_now o (history_of o turns) p ≡ Some e) (sym same) c.requires.call) copied) in
    let parts : longer ≡ order ++ p ∷ [] =
    c.in_ok-reply.ensures.order ∙ ap (λ turns. turns ++ p ∷ []) same in
    let new : Entry = entry_at o.start h p e in
    let grown : history_of o longer ≡ h ++ new ∷ [] = longer_is o order longer p e parts c.requires.call in
    let calls : length (history_of o longer) ≡ length h + 1 = ap length grown ∙ length_push h new in
    let adds : AddsPassed all (λ wants. wants p e (plain_reply c.in_ok-reply.reply) c.make.new.self.position.world) longer
    (length c.args.questions.now) c.args.findings.now c.ask.new.self =
    (subst (λ (m : Position). AddsPassed all (λ wants. wants p e (plain_reply c.in_ok-reply.reply) m.world) longer
    (length c.args.questions.now) c.args.findings.now c.ask.new.self) c.position.ensures
    (subst (λ turns. AddsPassed all (λ wants. wants p e (plain_reply c.in_ok-reply.reply) c.position.result.now.world) turns
    (length c.args.questions.now) c.args.findings.now c.ask.new.self) c.order.ensures c.in_ok-ask.ensures)) in
    found_passed all o order longer (length c.args.questions.now) p e c.in_ok-reply.reply c.make.new.self.position
    c.args.findings.now c.ask.new.self c.requires.call made parts c.requires.full adds

pub returns-clause-known : goal.returns-clause-known
returns-clause-known g c =
    let all : List Wants = map g.Q.Question.wants c.args.questions.now in
    let o : Setup = setup_of c.args.s.now in
    let p : ℕ = c.args.p in
    let e : Event = c.args.event.now in
    let order : List ℕ = c.args.base.now.order in
    let h : List Entry = history_of o order in
    let longer : List ℕ = c.make.new.self.order in
    let copied : IsHeld o c.in_ok-held.held = subst (IsHeld o) (sym c.in_ok-held.ensures.same) c.requires.base in
    let same : c.in_ok-held.held.order ≡ order = ap (λ (held : HeldState). held.order) c.in_ok-held.ensures.same in
    let made : HasMade o h p e c.in_ok-reply.reply c.make.new.self.position =
    subst (λ turns. HasMade o (history_of o turns) p e c.in_ok-reply.reply c.make.new.self.position) same
    (c.in_ok-reply.ensures.made o c.requires.program
    (subst (λ turns. call_now o (history_of o turns) p ≡ Some e) (sym same) c.requires.call) copied) in
    let parts : longer ≡ order ++ p ∷ [] =
    c.in_ok-reply.ensures.order ∙ ap (λ turns. turns ++ p ∷ []) same in
    let new : Entry = entry_at o.start h p e in
    let grown : history_of o longer ≡ h ++ new ∷ [] = longer_is o order longer p e parts c.requires.call in
    let calls : length (history_of o longer) ≡ length h + 1 = ap length grown ∙ length_push h new in
    let passes : Wants → Bool = λ wants. wants p e (plain_reply c.in_ok-reply.reply) c.make.new.self.position.world in
    let adds : AddsPassed all passes longer (length all) c.args.findings.now c.ask.new.self =
    subst (λ n. AddsPassed all passes longer n c.args.findings.now c.ask.new.self)
    (sym (length-map c.args.questions.now g.Q.Question.wants)) (subst (λ (m : Position). AddsPassed all (λ wants. wants p e (plain_reply c.in_ok-reply.reply) m.world) longer
    (length c.args.questions.now) c.args.findings.now c.ask.new.self) c.position.ensures
    (subst (λ turns. AddsPassed all (λ wants. wants p e (plain_reply c.in_ok-reply.reply) c.position.result.now.world) turns
    (length c.args.questions.now) c.args.findings.now c.ask.new.self) c.order.ensures c.in_ok-ask.ensures)) in
    subst (λ known. IsTried all c.ask.new.self o known h p) (sym c.count.ensures)
    (tried_passed all o c.enter.new.self h longer p e c.in_ok-reply.reply c.make.new.self.position
    c.args.findings.now c.ask.new.self c.requires.call made (subst (HasLike o c.enter.new.self) grown c.in_ok-enter.ensures.known) adds)
