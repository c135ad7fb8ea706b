use Rattle.std.proofs.Common.{ℕ, List, length, sym, ap, ◌∙◌, subst, true≢false}
use Rattle.vt_events.specs.Calls.{held_of}
use Rattle.vt_events.specs.Kinds.{call_of, takes}
use Rattle.vt_events.specs.declared.event.Event.{Event}
use Rattle.vt_journal.proofs.Spellings.{IsRead, bytes_are, call_is, fit_bytes, kind_is, named_kind, takes_all}
use Rattle.vt_journal.proofs.reading.take_event.Goals as goal

pub returns-in_default-clause-takes : goal.returns-in_default-clause-takes
returns-in_default-clause-takes c =
    λ e rest fit is.
    let begins = named_kind e rest in
    c.in_default.ensures begins.0 begins.1 tt (is ∙ begins.2)

pub returns-in_default-read_numbers-clause-takes : goal.returns-in_default-read_numbers-clause-takes
returns-in_default-read_numbers-clause-takes c =
    λ e rest fit is.
    let kind = kind_is _ c.read_kind.new.words c.in-Some.kind e rest is c.in-Some.ensures in
    c.in_default-read_numbers.ensures.takes _ _
    (kind.kind.many ∙ sym c.count.ensures.same, fit.0.numbers) kind.words

pub returns-in_default-2-clause-takes : goal.returns-in_default-2-clause-takes
returns-in_default-2-clause-takes c =
    λ e rest fit is.
    let are =
    bytes_are _ c.read_kind.new.words c.read_numbers.new.words c.in-Some.kind
    c.in-Some-read_numbers.numbers.items c.holds_bytes.result e rest is c.in-Some.ensures
    c.in-Some-read_numbers.ensures.takes
    (c.in-Some-read_numbers.ensures.many ∙ c.count.ensures.same) c.holds_bytes.ensures in
    let none = rw c.in_default-2.is at c.in_ok-bytes.ensures.takes in
    none _ rest (fit_bytes (held_of e) fit.0.bytes) are

pub returns-then-not-takes-clause-takes : goal.returns-then-not-takes-clause-takes
returns-then-not-takes-clause-takes c =
    λ e rest fit is.
    let found = rw c.in-Some-2.is at c.in_ok-bytes.ensures.takes in
    let fit_b = rw c.in-Some-2.is at c.in_ok-bytes.ensures.fit in
    let all =
    takes_all _ c.read_kind.new.words c.read_numbers.new.words c.read_bytes.new.words c.in-Some.kind
    c.in-Some-read_numbers.numbers.items c.in-Some-2.bytes.bytes c.holds_bytes.result e rest is
    c.in-Some.ensures c.in-Some-read_numbers.ensures.takes found
    (c.in-Some-read_numbers.ensures.many ∙ c.count.ensures.same) c.holds_bytes.ensures fit_b fit.0 in
    true≢false
    (sym all
    ∙ ap (λ (bs : List ℕ). takes c.in-Some.kind (length bs)) (sym c.as_slice.ensures)
    ∙ sym c.takes.ensures
    ∙ c.if-not-takes.true)

read : (c : goal.After-call) → IsRead c.args.words.now c.call.result c.read_bytes.new.words
read c =
    let found = rw c.in-Some-2.is at c.in_ok-bytes.ensures.takes in
    let fit = rw c.in-Some-2.is at c.in_ok-bytes.ensures.fit in
    subst (λ (e : Event). IsRead c.args.words.now e c.read_bytes.new.words)
    (sym
    (c.call.ensures
    ∙ ap (λ n. call_of c.in-Some.kind n c.in-Some-2.bytes.bytes) c.as_slice-2.ensures.value))
    (call_is c.args.words.now c.read_kind.new.words c.read_numbers.new.words c.read_bytes.new.words
    c.in-Some.kind c.in-Some-read_numbers.numbers.items c.in-Some-2.bytes.bytes c.holds_bytes.result
    c.in-Some.ensures c.in-Some-read_numbers.ensures.takes found
    (c.in-Some-read_numbers.ensures.many ∙ c.count.ensures.same) c.holds_bytes.ensures
    (ap (λ (bs : List ℕ). takes c.in-Some.kind (length bs)) (sym c.as_slice.ensures)
    ∙ sym c.takes.ensures
    ∙ c.if-not-takes.false)
    c.in-Some-read_numbers.ensures.fit fit)

pub returns-clause-takes : goal.returns-clause-takes
returns-clause-takes c = (read c).parts

pub returns-clause-fit : goal.returns-clause-fit
returns-clause-fit c = (read c).fit
