use Rattle.std.proofs.Common.{◌∙◌, Ok, List, ℕ, ap, sym, subst, arith}
use Rattle.std.proofs.lemmas.Result.{err_from_is_err_and}
use Rattle.key_text.specs.Lines.{range_of}
use Rattle.key_text.specs.Tables.{is_table_set}
use Rattle.key_text.proofs.Faults.{fails_as}
use Rattle.key_text.proofs.Marks.{AreRanged, are_set, marked_set, ranged_bad, ranged_last, ranged_more, ranged_start}
use Rattle.key_text.proofs.keymaps_line.tables_in.Goals as goal

pub pieces-init : goal.pieces-init
pieces-init c = ranged_start c.args.word.now c.args.text.now c.in_ok-tables.tables.items c.in_ok-tables.ensures

pub returns-in_err-range-clause-value : goal.returns-in_err-range-clause-value
returns-in_err-range-clause-value c =
    let p = err_from_is_err_and c.from_residual-in_err-range.result c.from_residual-in_err-range.ensures.1 in
    rw (p.1, p.2) (fails_as c.in_err-range.field-0.0 (range_of c.args.word.now c.start_of.result.now) _
    (λ f bad. ranged_bad c.args.word.now c.args.text.now c.pieces.tables.items c.pieces.rest.now c.pieces.invariant c.before-n.result c.before-n.ensures.value c.before-n.ensures.within f (ap (range_of c.args.word.now) (sym c.start_of.ensures) ∙ bad)) c.in_err-range.ensures.value)

pub of-requires : goal.of-requires
of-requires c =
    marked_set c.pieces.tables.items c.mark.new.tables.items c.in_ok-range.range c.mark.ensures.full c.mark.ensures.each c.in_ok-range.ensures.order (omega arith)

pub returns-then-n-rest-clause-value : goal.returns-then-n-rest-clause-value
returns-then-n-rest-clause-value c =
    ranged_last c.args.word.now c.args.text.now c.pieces.tables.items c.pieces.rest.now c.pieces.invariant c.before-n.result c.before-n.ensures.value c.if-n-rest.true
    c.in_ok-range.range (ap (range_of c.args.word.now) (sym c.start_of.ensures) ∙ c.in_ok-range.ensures.value) c.mark.new.tables.items c.mark.ensures.full c.mark.ensures.each
    ∙ ap Ok (sym c.of.ensures)

pub pieces-preserved : goal.pieces-preserved
pieces-preserved c =
    subst (λ (rest : List ℕ). AreRanged c.args.word.now c.args.text.now c.mark.new.tables.items rest) (sym c.rest_of-rest.ensures)
    (ranged_more c.args.word.now c.args.text.now c.pieces.tables.items c.pieces.rest.now c.pieces.invariant c.before-n.result c.before-n.ensures.value (omega (arith, c.before-n.ensures.within, c.if-n-rest.false))
    c.in_ok-range.range (ap (range_of c.args.word.now) (sym c.start_of.ensures) ∙ c.in_ok-range.ensures.value) c.mark.new.tables.items c.mark.ensures.full c.mark.ensures.each)

pub returns-then-n-rest-clause-set : goal.returns-then-n-rest-clause-set
returns-then-n-rest-clause-set c =
    let set = marked_set c.pieces.tables.items c.mark.new.tables.items c.in_ok-range.range c.mark.ensures.full c.mark.ensures.each c.in_ok-range.ensures.order (omega arith) in
    ap is_table_set c.of.ensures ∙ are_set c.mark.new.tables.items set
