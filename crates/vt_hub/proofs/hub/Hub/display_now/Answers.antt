use Rattle.std.proofs.Common.{◌≡◌, ◌%◌, ◌/◌, ap, sym, subst, ◌∙◌, arith, rules}
use Rattle.std.proofs.lemmas.List.{length-map}
use Rattle.turn_lock.specs.Words.{view}
use Rattle.vt_hub.specs.Carrying.{Carried, plain}
use Rattle.vt_hub.specs.Histories.{BeginsWith}
use Rattle.vt_hub.specs.Views.{PassView}
use Rattle.vt_hub.proofs.Carried.{plain_begins, word_shown, word_stands}
use Rattle.vt_hub.proofs.hub.Hub.display_now.Goals as goal

pub returns-clause-legal : goal.returns-clause-legal
returns-clause-legal g c = c.front-word.ensures.reads.right.legal

pub returns-clause-shown : goal.returns-clause-shown
returns-clause-shown g c =
    let answer : c.unwrap.result ≡ c.front-word.result % 64 = search rules in
    answer
    ∙ (word_shown g.J.Opening.start (view c.front-word.new.p).read c.front-word.result
    c.front-word.ensures.reads.right c.front-word.ensures.reads.is c.front-word.ensures.reads.count).1

pub returns-clause-seen : goal.returns-clause-seen
returns-clause-seen g c =
    subst (λ (v : PassView). BeginsWith (plain (view c.front-word.new.p).read) v.seen) c.p.view_is
    (plain_begins (view c.front-word.new.p).read (view c.p.inside.place).seen c.front-word.ensures.reads.after)

pub returns-clause-read : goal.returns-clause-read
returns-clause-read g c =
    subst (λ (v : PassView). BeginsWith (plain (view c.front-word.new.p).read) v.read) c.p.view_is
    (plain_begins (view c.front-word.new.p).read (view c.p.inside.place).read c.front-word.ensures.reads.read)

pub returns-clause-word : goal.returns-clause-word
returns-clause-word g c =
    let answer : c.unwrap.result ≡ c.front-word.result % 64 = search rules in
    let known = ap (λ v. v.known) c.front-word.ensures.own.1 in
    let count = c.front-word.ensures.reads.count in
    let long = length-map (view c.front-word.new.p).read (λ (e : Carried). e.what) in
    omega (arith, answer, known, count, long)

pub returns-clause-stands : goal.returns-clause-stands
returns-clause-stands g c = λ history begins.
    let start = g.J.Opening.start in
    let read = (view c.front-word.new.p).read in
    let known = ap (λ v. v.known) c.front-word.ensures.own.1 in
    let long = length-map read (λ (e : Carried). e.what) in
    let shown = word_shown start read c.front-word.result c.front-word.ensures.reads.right
    c.front-word.ensures.reads.is c.front-word.ensures.reads.count in
    word_stands start (plain read) history (view c.front-word.new.p).known
    (ap (λ n. n / 64) known ∙ (c.front-word.ensures.reads.count ∙ sym long))
    (ap (λ n. n % 64) known ∙ shown.1) begins
