use Rattle.std.proofs.Common.{◌≡◌, ℕ, ◌≤◌, true, arith, length, sym, ap, ◌∙◌, subst}
use Rattle.std.proofs.lemmas.List.Elements.{All-weaker}
use Rattle.session_order.specs.Ends.{Setup}
use Rattle.session_order.specs.Serial.{nothing_played}
use Rattle.session_order.specs.Sessions.{setup_of}
use Rattle.session_run.specs.Playing.{IsEnd}
use Rattle.session_text.proofs.Turning.{turn_low}
use Rattle.session_text.specs.Turns.{is_there}
use Rattle.vt_journal.specs.declared.limits.Limits.{Limits}
use Rattle.vt_procs.specs.declared.config.Config.{Config}
use Rattle.session_run.proofs.serial.play_by.Goals as goal

pub turns-requires : goal.turns-requires
turns-requires g c =
    let n : ℕ = length c.args.s.now.config.procs in
    let k : ℕ = c.args.s.now.config.keyboards in
    let starts : length c.as_slice-starts.result.now ≡ n =
    ap length c.as_slice-starts.ensures.list ∙ ap (λ (config : Config). length config.procs) c.config.ensures.same in
    let few : n ≤ 64 = omega (arith, starts, c.as_slice-starts.ensures.bound) in
    let four : k ≤ 4 = subst (λ (config : Config). config.keyboards ≤ 4) c.config.ensures.same c.config.ensures.keyboards.four in
    All-weaker (λ t. is_there n k t ≡ true) (λ t. t ≤ 67) (λ t there. turn_low n k t four there few)
    c.turns-first.result.now c.turns-first.ensures.callers

pub end-requires : goal.end-requires
end-requires g c =
    let o : Setup = setup_of c.args.s.now in
    let same = sym c.in_ok-callers.ensures in
    subst (λ first. IsEnd o first c.rounds.new.self) c.turns-first.ensures.same
    (c.in_ok-rounds.ensures o c.turns-first.result.now c.session_laws.ensures.setup same
    (ap (λ (l : Limits). l.events) (sym c.limits-limits.ensures.same))
    (c.in_ok-turns.ensures o nothing_played same c.in_ok-player.ensures))
