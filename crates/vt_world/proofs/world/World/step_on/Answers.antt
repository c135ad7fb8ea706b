use Rattle.std.proofs.Common.{◌≡◌, ℕ, Option, refl, sym, ap, ◌∙◌}
use Rattle.vt_base.specs.declared.errno.Errno.{Errno}
use Rattle.vt_events.specs.declared.event.Event.{Event}
use Rattle.vt_events.specs.declared.event.Event.TheVariants as event
use Rattle.vt_events.specs.declared.reply.Reply.{Reply}
use Rattle.vt_events.specs.declared.reply.Reply.TheVariants as reply
use Rattle.vt_grid.specs.Grid.{GridView}
use Rattle.vt_world.specs.Heard.{without_marks}
use Rattle.vt_world.specs.Lent.{grid_after}
use Rattle.vt_world.specs.State.{Trace, WorldState}
use Rattle.vt_world.specs.Step.{outcome_of_row, row_result_after, step}
use Rattle.vt_world.specs.Refusals.{common_refusals, error_of, first_refusal}
use Rattle.vt_world.specs.contracts.world.World.{the_view}
use Rattle.vt_world.proofs.world.World.step_on.Goals as goal

-- a step whose trace is cleared first
stepped : (w u : WorldState) (trace : Trace) (p : ℕ) (e : Event) (refused : Option Errno)
    → w ≡ u → trace.marks ≡ (without_marks w).trace.marks → trace.hops ≡ w.trace.hops
    → let v : WorldState = record w { trace = trace } in
    refused ≡ first_refusal (common_refusals v p e)
    → step u p e ≡ outcome_of_row (row_result_after v p e refused)
stepped w u trace p e refused same marks hops first =
    let v : WorldState = record w { trace = trace } in
    let clear : v ≡ without_marks w =
    λ i. record w { trace = record { marks = marks i; hops = hops i } } in
    sym
    (ap (λ (r : Option Errno). outcome_of_row (row_result_after v p e r)) first
    ∙ ap (λ (x : WorldState). outcome_of_row (row_result_after x p e (first_refusal (common_refusals x p e))))
    (clear ∙ ap without_marks same))

pub returns-in-Ok-clause-step : goal.returns-in-Ok-clause-step
returns-in-Ok-clause-step c =
    stepped (the_view c.self.inside) c.args.self.now c.clear.new.self c.args.caller c.args.event.now _
    c.self.view_is c.clear.ensures.marks c.clear.ensures.hops
    (sym (ap error_of c.in-Ok.is) ∙ c.may_take.ensures.first)
    ∙ ap outcome_of_row c.carry_out-answer.ensures.effect
    ∙ c.finish.ensures.step

pub returns-in-Err-clause-step : goal.returns-in-Err-clause-step
returns-in-Err-clause-step c =
    stepped (the_view c.self.inside) c.args.self.now c.clear.new.self c.args.caller c.args.event.now _
    c.self.view_is c.clear.ensures.marks c.clear.ensures.hops
    (sym (ap error_of c.in-Err.is) ∙ c.may_take.ensures.first)

-- the grid that is left doesn't depend on the trace
grid_alike : (w : WorldState) (trace : Trace) (p : ℕ) (e : Event) (answer : Reply) (grid : Option GridView)
    → grid_after (record w { trace = trace }) p e answer grid ≡ grid_after w p e answer grid
grid_alike w trace p (event.OpenCon n) answer grid = refl
grid_alike w trace p (event.Activate fd n) answer grid = refl
grid_alike w trace p (event.Resize fd rows cols) answer grid = refl
grid_alike w trace p e answer grid = refl

-- a refused call leaves the grid
grid_kept : (w : WorldState) (p : ℕ) (e : Event) (errno : Errno) (grid : Option GridView)
    → grid ≡ grid_after w p e (reply.Err errno) grid
grid_kept w p (event.OpenCon n) errno grid = refl
grid_kept w p (event.Activate fd n) errno grid = refl
grid_kept w p (event.Resize fd rows cols) errno grid = refl
grid_kept w p e errno grid = refl

pub returns-in-Ok-clause-grid : goal.returns-in-Ok-clause-grid
returns-in-Ok-clause-grid c =
    let w : WorldState = the_view c.self.inside in
    c.carry_out-answer.ensures.grid
    ∙ ap (λ (r : Reply). grid_after (record w { trace = c.clear.new.self }) c.args.caller c.args.event.now r c.args.grid.now)
    (sym c.finish.ensures.answer)
    ∙ grid_alike w c.clear.new.self c.args.caller c.args.event.now c.finish.result c.args.grid.now
    ∙ ap (λ (v : WorldState). grid_after v c.args.caller c.args.event.now c.finish.result c.args.grid.now) c.self.view_is

pub returns-in-Err-clause-grid : goal.returns-in-Err-clause-grid
returns-in-Err-clause-grid c = grid_kept c.args.self.now c.args.caller c.args.event.now c.in-Err.errno c.args.grid.now
