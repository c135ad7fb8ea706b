-- A refused event has no other effect. The proof keeps the row as a variable: it may be about all
-- consoles.
use Rattle.std.proofs.Common.{◌≡◌, ℕ, Option, Some, Err, ap, sym, ◌∙◌}
use Rattle.std.specs.Prelude.{Result}
use Rattle.vt_base.specs.declared.errno.Errno.{Errno}
use Rattle.vt_events.specs.declared.event.Event.{Event}
use Rattle.vt_events.specs.declared.reply.Reply.{Reply}
use Rattle.vt_world.specs.Events.{own_refusals, row}
use Rattle.vt_world.specs.State.{WorldState}
use Rattle.vt_world.specs.Step.{RowResult, HasRowResult, row_result, own_row_result, plain_answer}
use Rattle.vt_world.specs.Refusals.{first_refusal}

abbrev unchanged : WorldState → Result Reply Errno → RowResult
unchanged w answer = record { world = w; answer = answer }

pub is_refused : (w : WorldState) (p : ℕ) (e : Event) (errno : Errno) (given : Result Reply Errno)
    → Some errno ≡ first_refusal (own_refusals w p e) → Err errno ≡ plain_answer given
    → HasRowResult (own_row_result w p e) w given
is_refused w p e errno given is same =
    ap (λ (refused : Option Errno). row_result w refused (row w p e)) (sym is) ∙ ap (unchanged w) same
