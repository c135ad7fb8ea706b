-- The marks of an end and of a hop.
use Rattle.std.proofs.Common.{◌≡◌, ℕ, [], ◌∷◌, Option, Some, sym, ap, ◌∙◌}
use Rattle.vt_switch.specs.Acts.{End}
use Rattle.vt_switch.specs.Deaths.{after_process_end, ended_hop}
use Rattle.vt_switch.specs.Display.{console}
use Rattle.vt_switch.specs.Moments.{Core, core_after, hop_marks, raise, raise_acquire}
use Rattle.vt_switch.specs.declared.handling.Handling.{Handling}
use Rattle.vt_switch.specs.declared.handling.Handling.TheVariants.{Process as HandledBy}
use Rattle.vt_switch.specs.declared.handshake.Handshake.{Handshake}
use Rattle.vt_switch.specs.declared.hop.Hop.{Hop}
use Rattle.vt_switch.specs.declared.mark.Mark.TheVariants as mark
use Rattle.vt_world.proofs.Cores.{tells}
use Rattle.vt_world.specs.Deeds.{after_switch_act}
use Rattle.vt_world.specs.Heard.{apply_mark, apply_marks}
use Rattle.vt_world.specs.State.{WorldState, core}

-- the marks of an end, and of the hop that it makes
pub end_told : (w v : WorldState) (p : ℕ) (hop : Option Hop)
    → v ≡ apply_mark (record w { display = after_process_end w.display p }) (mark.Ended p)
    → hop ≡ ended_hop w.display p
    → apply_marks v (hop_marks (core v) hop) ≡ after_switch_act w (End p)
end_told w v p hop heard_it is =
    let dead_process : WorldState = record w { display = after_process_end w.display p } in
    let after : WorldState = apply_mark dead_process (mark.Ended p) in
    ap (λ (u : WorldState). apply_marks u (hop_marks (core u) hop)) heard_it
    ∙ ap (λ (k : Core). apply_marks after (hop_marks k hop)) (tells dead_process (mark.Ended p ∷ []))
    ∙ ap (λ (h : Option Hop). apply_marks after (hop_marks (core_after (core w) (End p)) h)) is

-- the marks of a hop are the hop and the acquire signal after it
pub hop_told : (w v : WorldState) (hop : Hop) (handshake : Handshake)
    → v ≡ apply_mark w (mark.Hopped hop)
    → (console w.display hop.to).handling ≡ HandledBy handshake
    → apply_marks v (raise (core v) handshake.owner handshake.acqsig) ≡ apply_marks w (hop_marks (core w) (Some hop))
hop_told w v hop handshake heard_it handling =
    let after : WorldState = apply_mark w (mark.Hopped hop) in
    ap (λ (u : WorldState). apply_marks u (raise (core u) handshake.owner handshake.acqsig)) heard_it
    ∙ ap (λ (k : Core). apply_marks after (raise k handshake.owner handshake.acqsig)) (tells w (mark.Hopped hop ∷ []))
    ∙ ap (λ (h : Handling). apply_marks after (raise_acquire (core w) h)) (sym handling)
