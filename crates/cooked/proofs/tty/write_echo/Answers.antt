use Rattle.std.proofs.Common.{◌≡◌, ◌≢◌, ◌++◌, [], length, sym, ap, ◌∙◌, subst}
use Rattle.std.proofs.lemmas.Bool.{eq-eqb, eqb-true, false≢true}
use Rattle.cooked.proofs.SizeLaws.{no_bytes}
use Rattle.cooked.proofs.TurnLaws.{writes_done, writes_full, writes_none}
use Rattle.cooked.proofs.tty.write_echo.Goals as goal
use Rattle.cooked.specs.Turn.{Writes}

pub returns-then-is_empty : goal.returns-then-is_empty
returns-then-is_empty g c =
    let none : length c.as_slice-bytes.result.now ≡ 0 =
    eqb-true (length c.as_slice-bytes.result.now) 0 (sym c.is_empty.ensures ∙ c.if-is_empty.true) in
    writes_none g.J.Opening.start c.args.fd c.args.pass.now c.args.echo.now
    (sym c.as_slice-bytes.ensures.list ∙ no_bytes c.as_slice-bytes.result.now none)
    c.requires.met c.requires.free

pub returns-in-Done : goal.returns-in-Done
returns-in-Done g c =
    let some : c.args.echo.now ≢ [] =
    λ none.
    false≢true
    (sym (sym c.is_empty.ensures ∙ c.if-is_empty.false)
    ∙ eq-eqb (length c.as_slice-bytes.result.now) 0 (ap length (c.as_slice-bytes.ensures.list ∙ none))) in
    let same : c.append.new.self.bytes ≡ c.args.echo.now =
    c.append.ensures.bytes
    ∙ ap (λ bs. bs ++ c.as_slice-bytes.result.now) c.requires.empty
    ∙ c.as_slice-bytes.ensures.list in
    subst (λ s. Writes g.J.Opening.start c.args.fd c.args.echo.now c.args.pass.now c.call.new.p s) (sym c.stop_of.ensures)
    (writes_done _ _ _ _ c.append.new.self _ _ _ _ some same c.in-Done.ensures)

pub returns-in-Full : goal.returns-in-Full
returns-in-Full g c =
    let some : c.args.echo.now ≢ [] =
    λ none.
    false≢true
    (sym (sym c.is_empty.ensures ∙ c.if-is_empty.false)
    ∙ eq-eqb (length c.as_slice-bytes.result.now) 0 (ap length (c.as_slice-bytes.ensures.list ∙ none))) in
    writes_full _ _ _ c.args.echo.now c.append.new.self _ _ _ some c.in-Full.ensures
