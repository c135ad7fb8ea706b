-- What a walk can forget: the calls that are left stay.
use Rattle.std.proofs.Common.{◌≡◌, ℕ, ◌≤◌, true, List, Option, cond, drop, sym, ap, ◌∙◌, subst}
use Rattle.sig_hooks.specs.declared.act.Act.{Act}
use Rattle.vt_events.specs.declared.event.Event.{Event}
use Rattle.vt_events.specs.declared.event.Event.TheVariants as event
use Rattle.session_text.proofs.LeftSignals.{calls_left}
use Rattle.session_text.specs.Items.{Listed}
use Rattle.session_text.specs.Programs.{Call, all_calls, calls, calls_from, nothing, script, takes}
use Rattle.session_text.specs.Walks.{AreLeft, Place, Stands, ahead, rest_of_calls}
use Rattle.session_text.specs.declared.program.Program.{Program}
use Rattle.session_text.specs.declared.program.Program.TheVariants as program

-- a program that is over has no call left
none_left : (p : Program) (w : Place) → w.over ≡ true → rest_of_calls p w ≡ nothing
none_left p w over =
    λ i. cond (over i) nothing (cond w.waiting (calls event.WaitEnd (ahead p w)) (ahead p w))

pub over_stays : (p : Program) (w moved : Place) (made : List Call) → w.over ≡ true → moved.over ≡ true
    → Stands p w made → Stands p moved made
over_stays p w moved made over still stands = record {
  same = λ more. stands.same more ∙ ap (λ left. left more) (none_left p w over ∙ sym (none_left p moved still));
}

-- signals without an act that is left
pub signals_go : (items : Listed) (table : List Act) (w moved : Place) (given : ℕ) (made : List Call) → 1 ≤ w.signal
    → moved ≡ record w { given = given; signal = 1 } → AreLeft table w.given w.signal given
    → Stands (program.Script items table) w made → Stands (program.Script items table) moved made
signals_go items table w moved given made low is are stands =
    let left : List Event → List Call → Option Event = λ acts.
    cond w.taking (takes table) (all_calls acts) (script table (drop w.item items.events)) in
    let same : calls_from table w.given w.signal ≡ calls_from table given 1 =
    sym (calls_left table w.given w.signal given low are) in
    subst (λ (x : Place). Stands (program.Script items table) x made) (sym is)
    (record {
      same = λ more.
          stands.same more
          ∙ ap
          (λ (acts : List Event). cond w.over nothing (cond w.waiting (calls event.WaitEnd (left acts)) (left acts)) more)
          same;
    })
