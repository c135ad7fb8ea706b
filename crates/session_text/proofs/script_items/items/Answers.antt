use Rattle.std.proofs.Common.{◌≡◌, ◌+◌, ◌∷◌, [], length, List, ℕ, Bor, true, sym, subst, ap, ◌∙◌, arith}
use Rattle.std.proofs.lemmas.List.{length-append}
use Rattle.std.proofs.lemmas.List.Elements.{All-append, All-cons, All-nil}
use Rattle.std.specs.List.{All}
use Rattle.session_text.specs.ItemTexts.{is_item, item_says}
use Rattle.session_text.proofs.Saying.{SoFar, reads_err, so_far_end, so_far_fault, so_far_more}
use Rattle.session_text.proofs.script_items.items.Goals as goal

pub returns-in-Err-clause-says : goal.returns-in-Err-clause-says
returns-in-Err-clause-says c =
    let (room, many, all, so_far) = c.loop-i.invariant in
    reads_err c.in-Err.e _ _
    (λ f said.
    so_far_fault (item_says c.args.part) (λ (text : Bor (List ℕ)). text.now) c.args.texts.now _ c.loop-i.i
    c.loop-i.items.events f c.loop-i-test.true so_far said)
    c.in-Err.ensures.says

pub loop-i-preserved : goal.loop-i-preserved
loop-i-preserved c =
    let (room, many, all, so_far) = c.loop-i.invariant in
    let longer : length c.push.new.self.events ≡ c.loop-i.i + 1 =
    ap length c.push.ensures.events ∙ length-append c.loop-i.items.events (c.in-Ok.e ∷ []) ∙ ap (λ n. n + 1) many in (
      omega (arith, room, c.push.ensures.room),
      longer,
      subst (All (λ e. is_item e ≡ true)) (sym c.push.ensures.events)
          (All-append (λ e. is_item e ≡ true) c.loop-i.items.events (c.in-Ok.e ∷ []) all
          (All-cons (λ e. is_item e ≡ true) c.in-Ok.e [] c.in-Ok.ensures.item (All-nil (λ e. is_item e ≡ true)))),
      subst (SoFar (item_says c.args.part) (λ (text : Bor (List ℕ)). text.now) c.args.texts.now (c.loop-i.i + 1))
          (sym c.push.ensures.events)
          (so_far_more (item_says c.args.part) (λ (text : Bor (List ℕ)). text.now) c.args.texts.now _ c.loop-i.i
          c.loop-i.items.events c.in-Ok.e c.loop-i-test.true c.in-Ok.ensures.says so_far),
    )

pub returns-clause-says : goal.returns-clause-says
returns-clause-says c =
    let (room, many, all, so_far) = c.loop-i.invariant in
    so_far_end (item_says c.args.part) (λ (text : Bor (List ℕ)). text.now) c.args.texts.now c.loop-i.i
    c.loop-i.items.events (omega arith) so_far
