use Rattle.std.proofs.Common.{◌≡◌, ◌≤◌, ℕ, ◌+◌, ◌-◌, ◌*◌, ◌++◌, List, length, take, drop, sym, ap, ◌∙◌, subst, arith}
use Rattle.std.proofs.Math.Seq.{take-add}
use Rattle.std.proofs.lemmas.List.{length-drop, length-take, take_all}
use Rattle.vt_screen.proofs.Stated.{any_cut}
use Rattle.vt_screen.proofs.for_laws.Asking.{requests_are_few}
use Rattle.vt_screen.specs.Asking.{requests}
use Rattle.vt_canvas.specs.declared.out.Out.{Out}
use Rattle.vt_world.specs.State.{WorldState}
use Rattle.vt_world.specs.Terminals.{said_of, terminal_at}
use Rattle.vt_world.proofs.Writes.{asks_few, ran, ran-append, ran-asks}
use Rattle.vt_world.proofs.world.World.run.Goals as goal

-- what a text says when it is written to the console
abbrev up_to : WorldState → ℕ → List ℕ → List Out
up_to w c text = said_of (terminal_at w.terminals c) text

-- the rest of a text, as a slice of it
rest_is : (at : ℕ) (text : List ℕ) → take (length text - at) (drop at text) ≡ drop at text
rest_is at text = take_all (length text - at) (drop at text) (omega (arith, length-drop at text))

pub run_part-at-requires : goal.run_part-at-requires
run_part-at-requires c = record {
  room = λ n.
      let few = asks_few requests_are_few (terminal_at c.args.self.now.terminals c.args.c) (take n c.args.b.now) in
      omega (arith, few, length-take n c.args.b.now, c.requires.short, ap length c.requires.clear);
}

pub run_part-at-requires-in-loop-at : goal.run_part-at-requires-in-loop-at
run_part-at-requires-in-loop-at c =
    let at : ℕ = c.loop-at.at in
    let text : List ℕ = c.args.b.now in
    let start : WorldState = c.args.self.now in
    record {
      room = λ n.
          let piece : List ℕ = take n (drop at text) in
          let fed : take (at + n) text ≡ take at text ++ piece = take-add at n text in
          let asked =
          ap (λ (w : WorldState). requests (up_to start c.args.c (take at text)) + requests (up_to w c.args.c piece))
          c.loop-at.invariant.done
          ∙ ran-asks any_cut start c.args.c (take at text) piece
          ∙ ap (λ (bytes : List ℕ). requests (up_to start c.args.c bytes)) (sym fed) in
          let few = asks_few requests_are_few (terminal_at start.terminals c.args.c) (take (at + n) text) in
          let short : length (take (at + n) text) ≤ 4096 = omega (arith, length-take (at + n) text, c.requires.short) in
          let now : requests (up_to c.loop-at.self c.args.c (take n (take (length text - at) (drop at text)))) ≡ requests (up_to c.loop-at.self c.args.c piece) =
          ap (λ (bytes : List ℕ). requests (up_to c.loop-at.self c.args.c (take n bytes))) (rest_is at text) in
          omega (arith, asked, few, short, now, c.loop-at.invariant.room);
    }

pub loop-at-preserved : goal.loop-at-preserved
loop-at-preserved c =
    let at : ℕ = c.loop-at.at in
    let n : ℕ = c.run_part-at-in-loop-at.result in
    let text : List ℕ = c.args.b.now in
    let start : WorldState = c.args.self.now in
    let piece : List ℕ = take n (drop at text) in
    let cut : take n (take (length text - at) (drop at text)) ≡ piece = ap (take n) (rest_is at text) in
    let fed : take (at + n) text ≡ take at text ++ piece = take-add at n text in
    let asked =
    ap (λ (w : WorldState). requests (up_to start c.args.c (take at text)) + requests (up_to w c.args.c piece))
    c.loop-at.invariant.done
    ∙ ran-asks any_cut start c.args.c (take at text) piece
    ∙ ap (λ (bytes : List ℕ). requests (up_to start c.args.c bytes)) (sym fed) in
    let room = subst
    (λ (bytes : List ℕ). length c.run_part-at-in-loop-at.new.self.trace.marks
    ≤ length c.loop-at.self.trace.marks + 3 * requests (up_to c.loop-at.self c.args.c bytes)) cut
    c.run_part-at-in-loop-at.ensures.room in
    record {
      within = omega (arith, length-drop at text, ap length (rest_is at text), c.run_part-at-in-loop-at.ensures.within, c.loop-at.invariant.within);
      done =
          c.run_part-at-in-loop-at.ensures.state
          ∙ ap (ran c.loop-at.self c.args.c) cut
          ∙ ap (λ (w : WorldState). ran w c.args.c piece) c.loop-at.invariant.done
          ∙ ran-append any_cut start c.args.c (take at text) piece
          ∙ ap (ran start c.args.c) (sym fed);
      room = omega (arith, asked, room, c.loop-at.invariant.room);
    }
