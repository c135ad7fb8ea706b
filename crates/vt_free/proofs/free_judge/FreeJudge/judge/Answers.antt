use Rattle.std.proofs.Common.{◌≡◌, ◌<◌, ◌≤◌, ◌+◌, ℕ, ◌==◌, arith, List, [], ◌∷◌, ◌++◌, get_or, set, length, sym, ap, ◌∙◌, subst}
use Rattle.std.proofs.lemmas.Bool.{iff_false}
use Rattle.std.proofs.lemmas.List.Sums.{count_by-le-length}
use Rattle.vt_events.specs.Charge.{charge_of}
use Rattle.vt_events.specs.declared.entry.Entry.{Entry}
use Rattle.vt_free.proofs.Charges.{most, most_of_all}
use Rattle.vt_free.proofs.Judged.{answered_is, taken}
use Rattle.vt_free.specs.Judging.{IsAfter}
use Rattle.vt_free.specs.Verdicts.{calls_before}
use Rattle.vt_free.specs.Verdicts.FailsAt.{OtherAnswer, OtherNumber}
use Rattle.vt_world.proofs.Stated.{legal_grows-entered}
use Rattle.vt_free.proofs.free_judge.FreeJudge.judge.Goals as goal

pub returns-then-entry-self-clause-fails : goal.returns-then-entry-self-clause-fails
returns-then-entry-self-clause-fails c = λ start h at.
    let entry : Entry = c.args.entry.now in
    let made : List ℕ = c.args.self.now.made in
    let same : c.from-at.result ≡ entry.caller = c.from-at.ensures ∙ c.get.ensures.same in
    let low : entry.caller < 68 = omega (arith, c.get.ensures.high, c.get.ensures.same) in
    let number : get_or made c.from-at.result 0 ≡ calls_before h entry =
    ap (λ (k : ℕ). get_or made k 0) same ∙ at.made entry.caller low in
    OtherNumber (λ is. c.if-entry-self.true (is ∙ sym number))

pub returns-then-not-same_reply-clause-fails : goal.returns-then-not-same_reply-clause-fails
returns-then-not-same_reply-clause-fails c = λ start h at.
    let entry : Entry = c.args.entry.now in
    let made : List ℕ = c.args.self.now.made in
    let same : c.from-at.result ≡ entry.caller = c.from-at.ensures ∙ c.get.ensures.same in
    let low : entry.caller < 68 = omega (arith, c.get.ensures.high, c.get.ensures.same) in
    let number : get_or made c.from-at.result 0 ≡ calls_before h entry =
    ap (λ (k : ℕ). get_or made k 0) same ∙ at.made entry.caller low in
    OtherAnswer (c.if-entry-self.false ∙ number)
    (iff_false
    (answered_is start c.args.self.now.world c.call.new.self h entry c.in_ok-reply.reply c.same_reply.result
    at.left.replayed c.in_ok-reply.ensures.ok c.same_reply.ensures)
    c.if-not-same_reply.true)

pub returns-clause-passes : goal.returns-clause-passes
returns-clause-passes c = λ start h at.
    let entry : Entry = c.args.entry.now in
    let made : List ℕ = c.args.self.now.made in
    let same : c.from-at.result ≡ entry.caller = c.from-at.ensures ∙ c.get.ensures.same in
    let low : entry.caller < 68 = omega (arith, c.get.ensures.high, c.get.ensures.same) in
    let number : get_or made c.from-at.result 0 ≡ calls_before h entry =
    ap (λ (k : ℕ). get_or made k 0) same ∙ at.made entry.caller low in
    let few : calls_before h entry ≤ length h = count_by-le-length (λ (e : Entry). e.caller == entry.caller) h in
    let sum = most_of_all h in
    let charge : c.from.result ≡ charge_of entry.event = c.from.ensures ∙ c.charge.ensures in
    let one : c.saturating_add.result ≡ get_or made c.from-at.result 0 + 1 =
    omega (arith, c.saturating_add.ensures, number, few, at.events, c.requires.few) in
    let more : c.saturating_add-self.result ≡ c.args.self.now.events + 1 =
    omega (arith, c.saturating_add-self.ensures, c.requires.few) in
    let charged : c.saturating_add-self-2.result ≡ c.args.self.now.bytes + charge_of entry.event =
    omega (arith, c.saturating_add-self-2.ensures, charge, most entry.event, sum, at.bytes, at.events, c.requires.few) in
    subst
    (λ (k : ℕ). IsAfter start (h ++ entry ∷ [])
    (record {
      world = c.call.new.self;
      made = set made k c.saturating_add.result;
      events = c.saturating_add-self.result;
      bytes = c.saturating_add-self-2.result;
    }))
    (sym same)
    (taken start h entry c.args.self.now c.call.new.self c.in_ok-reply.reply c.saturating_add.result
    c.saturating_add-self.result c.saturating_add-self-2.result legal_grows-entered at
    c.in_ok-reply.ensures.ok (c.same_reply.ensures.0 c.if-not-same_reply.false) low
    (c.if-entry-self.false ∙ ap (λ (k : ℕ). get_or made k 0) same)
    (one ∙ ap (λ (k : ℕ). get_or made k 0 + 1) same) more charged)
