use Rattle.std.proofs.Common.{◌≡◌, ◌+◌, ◌≢◌, ℕ, eqb, List, [], length, sym, ap, subst, ◌∙◌, arith}
use Rattle.std.proofs.lemmas.Bool.{both_ways, eq-eqb, eqb-true}
use Rattle.std.proofs.lemmas.List.{nil_from_length}
use Rattle.vt_journal.proofs.OneSpelling.{one_more}
use Rattle.vt_explain.proofs.Certs.{AreSoFar, begun, reads_fault}
use Rattle.vt_explain.specs.CertText.{Begins, CertSays, IsFit, item_words}
use Rattle.vt_explain.specs.CertText.CertSays.{BadLine, OtherCount, Whole}
use Rattle.vt_explain.specs.Reading.{IsFaultAt}
use Rattle.vt_explain.specs.declared.hop_why.HopWhy.{HopWhy}
use Rattle.vt_explain.proofs.parsing.read_items.Goals as goal

pub loop-rest-preserved : goal.loop-rest-preserved
loop-rest-preserved c =
    subst (λ (items : List HopWhy). AreSoFar c.args.text.now items c.in-Some.next.behind.now)
    (sym c.in_ok-push.ensures)
    (one_more item_words IsFit c.args.text.now c.loop-rest.items.items c.loop-rest.rest.now c.in-Some.next.item
    c.in-Some.next.behind.now c.loop-rest.invariant c.in-Some.ensures.fit c.in-Some.ensures.found)

pub returns-in_default : goal.returns-in_default
returns-in_default c = λ whole is.
    let items : List HopWhy = c.loop-rest.items.items in
    let rest : List ℕ = c.loop-rest.rest.now in
    reads_fault c.fault_at.result (length items + 2) (CertSays whole)
    (subst (λ (list : List HopWhy). IsFaultAt (length list + 2) c.fault_at.result)
    c.as_slice.ensures.value c.fault_at.ensures)
    (BadLine c.args.count items rest
    (begun whole c.args.text.now c.args.count items rest (omega (arith, c.ranges.count.fits)) is
    c.loop-rest.invariant)
    (λ none.
    both_ways (eqb (length rest) 0) (sym c.is_empty.ensures ∙ c.loop-rest-test.true)
    (eq-eqb (length rest) 0 (ap length none)))
    (rw c.in_default.is at c.read_line.ensures.none))

pub returns-then-as_slice-count : goal.returns-then-as_slice-count
returns-then-as_slice-count c = λ whole is.
    let items : List HopWhy = c.loop-rest.items.items in
    let rest : List ℕ = c.loop-rest.rest.now in
    let empty : rest ≡ [] =
    nil_from_length rest (eqb-true (length rest) 0 (sym c.is_empty.ensures ∙ c.loop-rest-test.false)) in
    let isnt : c.args.count ≢ length items =
    λ same. c.if-as_slice-count.true (ap length c.as_slice-2.ensures.value ∙ sym same) in
    reads_fault c.fault_at-then-as_slice-count.result (length items + 1) (CertSays whole)
    (subst (λ (list : List HopWhy). IsFaultAt (length list + 1) c.fault_at-then-as_slice-count.result)
    c.as_slice-then-as_slice-count.ensures.value c.fault_at-then-as_slice-count.ensures)
    (OtherCount c.args.count items
    (subst (Begins whole c.args.count items) empty
    (begun whole c.args.text.now c.args.count items rest (omega (arith, c.ranges.count.fits)) is
    c.loop-rest.invariant))
    isnt)

pub returns : goal.returns
returns c = λ whole is.
    let items : List HopWhy = c.loop-rest.items.items in
    let rest : List ℕ = c.loop-rest.rest.now in
    let empty : rest ≡ [] =
    nil_from_length rest (eqb-true (length rest) 0 (sym c.is_empty.ensures ∙ c.loop-rest-test.false)) in
    let count : c.args.count ≡ length items =
    sym c.if-as_slice-count.false ∙ ap length c.as_slice-2.ensures.value in
    Whole items
    (subst (λ (n : ℕ). Begins whole n items []) count
    (subst (Begins whole c.args.count items) empty
    (begun whole c.args.text.now c.args.count items rest (omega (arith, c.ranges.count.fits)) is
    c.loop-rest.invariant)))
