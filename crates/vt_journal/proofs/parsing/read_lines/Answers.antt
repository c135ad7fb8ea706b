use Rattle.std.proofs.Common.{◌≡◌, ◌+◌, ◌≤◌, ◌++◌, ⊎_elim, eqb, List, [], length, sym, ap, subst, ◌∙◌, arith}
use Rattle.std.proofs.lemmas.Bool.{both_ways, eq-eqb, eqb-true}
use Rattle.std.proofs.lemmas.List.{length_push, nil_from_length}
use Rattle.vt_events.specs.declared.entry.Entry.{Entry}
use Rattle.vt_journal.specs.Journal.{entry_words, line_text, tail_words}
use Rattle.vt_journal.specs.Says.{IsFitEntry, JournalSays, fault, most_entries}
use Rattle.vt_journal.specs.Says.JournalSays.{BadLine, NoLast, TooMany}
use Rattle.vt_journal.proofs.OneSpelling.{one_more}
use Rattle.vt_journal.proofs.Saying.{AreSoFar, begun, more_is, nothing_or_some, whole_is}
use Rattle.vt_journal.proofs.parsing.read_lines.Goals as goal

pub returns-then-is_empty : goal.returns-then-is_empty
returns-then-is_empty c =
    rw c.refused.ensures
    (λ whole is.
    let few : length c.loop-read.entries.items ≤ most_entries =
    omega (arith, c.loop-read.invariant.many, c.loop-read-test.true) in
    let empty : c.loop-read.rest.now ≡ [] =
    nil_from_length c.loop-read.rest.now
    (eqb-true (length c.loop-read.rest.now) 0 (sym c.is_empty.ensures ∙ c.if-is_empty.true)) in
    subst (λ n. JournalSays whole (fault 42 (n + 1))) c.loop-read.invariant.many
    (NoLast c.args.version c.loop-read.entries.items
    (begun c.args.version whole c.args.text.now c.loop-read.entries.items [] c.requires is
    (subst (AreSoFar c.args.version c.args.text.now c.loop-read.entries.items) empty c.loop-read.invariant.so_far))
    few))

pub returns-in-Tail : goal.returns-in-Tail
returns-in-Tail c =
    λ whole is.
    let next = rw c.in-Tail.is at c.in_ok-entry.ensures in
    let few : length c.loop-read.entries.items ≤ most_entries =
    omega (arith, c.loop-read.invariant.many, c.loop-read-test.true) in
    ⊎_elim
    (λ none.
    rw (c.journal.ensures.whole none)
    (whole_is c.args.version whole c.args.text.now c.loop-read.entries.items c.loop-read.rest.now c.in-Tail.end c.requires is
    c.loop-read.invariant.so_far next.0
    (next.1 ∙ ap (λ behind. line_text (tail_words c.in-Tail.end) ++ behind) none) few))
    (λ some.
    rw (c.journal.ensures.more some)
    (more_is c.args.version whole c.args.text.now c.loop-read.entries.items c.loop-read.rest.now c.in-Tail.end
    c.in-Tail.behind.now c.requires is c.loop-read.invariant.so_far next.0 next.1 few some))
    (nothing_or_some c.in-Tail.behind.now)

pub returns-in-Other : goal.returns-in-Other
returns-in-Other c =
    rw c.refused-in-Other.ensures
    (λ whole is.
    let next = rw c.in-Other.is at c.in_ok-entry.ensures in
    let few : length c.loop-read.entries.items ≤ most_entries =
    omega (arith, c.loop-read.invariant.many, c.loop-read-test.true) in
    subst (λ n. JournalSays whole (fault 41 (n + 2))) c.loop-read.invariant.many
    (BadLine c.args.version c.loop-read.entries.items c.loop-read.rest.now
    (begun c.args.version whole c.args.text.now c.loop-read.entries.items c.loop-read.rest.now c.requires is
    c.loop-read.invariant.so_far)
    few
    (λ none.
    both_ways (eqb (length c.loop-read.rest.now) 0) (sym c.is_empty.ensures ∙ c.if-is_empty.false)
    (eq-eqb (length c.loop-read.rest.now) 0 (ap length none)))
    next.0 next.1))

pub loop-read-preserved : goal.loop-read-preserved
loop-read-preserved c =
    let next = rw c.in-Entry.is at c.in_ok-entry.ensures in
    record {
      so_far =
          subst (λ (entries : List Entry). AreSoFar c.args.version c.args.text.now entries c.in-Entry.behind.now)
          (sym c.in_ok-push-in-Entry.ensures.items)
          (one_more (entry_words c.args.version) (IsFitEntry c.args.version) c.args.text.now c.loop-read.entries.items c.loop-read.rest.now c.in-Entry.entry
          c.in-Entry.behind.now c.loop-read.invariant.so_far next.0 next.1);
      many =
          ap length c.in_ok-push-in-Entry.ensures.items
          ∙ length_push c.loop-read.entries.items c.in-Entry.entry
          ∙ ap (λ n. n + 1) c.loop-read.invariant.many;
    }

pub returns : goal.returns
returns c =
    rw c.refused-2.ensures
    (λ whole is.
    let many : length c.loop-read.entries.items ≡ most_entries + 1 =
    omega (arith, c.loop-read.invariant.many, c.loop-read-test.false, c.loop-read.auto.read-end) in
    subst (λ n. JournalSays whole (fault 44 (n + 1))) many
    (TooMany c.args.version c.loop-read.entries.items c.loop-read.rest.now
    (begun c.args.version whole c.args.text.now c.loop-read.entries.items c.loop-read.rest.now c.requires is
    c.loop-read.invariant.so_far)
    many))
