use Rattle.std.proofs.Common.{◌≡◌, ◌<◌, ◌≤◌, ◌-◌, ℕ, arith, List, ◌++◌, get_or, set, length, sym, ap, ◌∙◌, subst}
use Rattle.std.proofs.lemmas.Bool.{eqb-true}
use Rattle.machine.specs.Admissions.{with_process}
use Rattle.machine.specs.History.{IsAfter, Start}
use Rattle.machine.specs.MachineState.{MachineState}
use Rattle.vt_events.specs.declared.entry.Entry.{Entry}
use Rattle.vt_procs.specs.declared.config.Config.{Config}
use Rattle.vt_procs.specs.declared.proc_start.ProcStart.{ProcStart}
use Rattle.vt_world.proofs.Stated.{rights_are_own-first, rights_are_own-starts}
use Rattle.vt_world.specs.State.{WorldState}
use Rattle.machine.proofs.Admitted.{after_admission}
use Rattle.machine.proofs.machine.Machine.start_as.Goals as goal

pub invariant_of-self : goal.invariant_of-self
invariant_of-self c =
    let cfg : Config = c.self.inside.config in
    let s : Start = record { config = cfg; tables = c.self.inside.tables } in
    let same : c.from-n.result ≡ c.args.p = c.from-n.ensures ∙ c.get.ensures.same in
    let within : c.args.p < 68 = omega (arith, c.get.ensures.high, c.get.ensures.same) in
    let low : 1 ≤ c.args.p = c.requires.process in
    let listed : c.args.p ≤ length cfg.procs =
    subst (λ (m : MachineState). c.args.p ≤ length m.start.config.procs) (sym c.self.view_is) c.requires.listed in
    let zero : get_or c.self.inside.made c.args.p 0 ≡ 0 =
    ap (λ (m : MachineState). get_or m.made c.args.p 0) c.self.view_is
    ∙ eqb-true (get_or c.args.self.now.made c.args.p 0) 0 c.requires.silent in
    let procs : c.with_rights-self-inside.result ≡ set cfg.procs (c.args.p - 1) c.args.rights =
    c.with_rights-self-inside.ensures
    ∙ (ap (λ (l : List ProcStart). set l (c.from-n.result - 1) c.args.rights) c.as_slice.ensures.list
    ∙ ap (λ (k : ℕ). set cfg.procs (k - 1) c.args.rights) same) in
    let all : List Entry = c.self.invariant.before ++ c.self.inside.log.entries in record {
      before = c.self.invariant.before;
      size = c.self.invariant.size;
      after =
          subst
          (λ (l : List ProcStart). IsAfter (record { config = record cfg { procs = l }; tables = c.self.inside.tables })
          all c.admit.new.self c.self.inside.made)
          (sym procs)
          (subst (λ (w : WorldState). IsAfter (with_process c.args.p c.args.rights s) all w c.self.inside.made)
          (sym c.admit.ensures)
          (after_admission s all c.self.inside.world c.self.inside.made c.args.p c.args.rights
          rights_are_own-first rights_are_own-starts c.self.invariant.after low listed within zero));
    }
