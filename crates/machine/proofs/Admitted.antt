-- A machine stays what its history leaves when a process is admitted.
use Rattle.std.proofs.Common.{◌≡◌, ◌<◌, ◌≤◌, ℕ, List, get_or, length, sym, ap, ◌∙◌, subst}
use Rattle.std.proofs.lemmas.List.{length-set}
use Rattle.machine.specs.Admissions.{with_process}
use Rattle.machine.specs.History.{IsAfter, Start, world_of}
use Rattle.vt_events.specs.declared.entry.Entry.{Entry}
use Rattle.vt_procs.specs.declared.proc_start.ProcStart.{ProcStart}
use Rattle.vt_world.specs.History.{IsLegal, replay}
use Rattle.vt_world.specs.Rights.{AdmissionsAreStarts, AdmissionsComeFirst, IsAlike, admitted}
use Rattle.vt_world.specs.State.{WorldState}

pub after_admission : (s : Start) (history : List Entry) (world : WorldState) (made : List ℕ) (p : ℕ) (r : ProcStart)
    → AdmissionsComeFirst → AdmissionsAreStarts → IsAfter s history world made → 1 ≤ p → p ≤ length s.config.procs
    → p < 68 → get_or made p 0 ≡ 0 → IsAfter (with_process p r s) history (admitted p r world) made
after_admission s history world made p r come are before low listed within none =
    let c = s.config in
    let first : world_of (with_process p r s) ≡ admitted p r (world_of s) =
    are c.size.rows c.size.cols c.consoles c.front c.keyboards c.procs s.tables p r low listed before.fit.processes in
    let alike : IsAlike p r (world_of s) history =
    come p r (world_of s) history before.left.legal (sym (before.counted p within) ∙ none) in record {
      fit = record {
        consoles = before.fit.consoles;
        keyboards = before.fit.keyboards;
        processes = simp length-set before.fit.processes;
      };
      left = record {
        legal = subst (λ (w : WorldState). IsLegal w history) (sym first) alike.legal;
        replayed =
            ap (admitted p r) before.left.replayed
            ∙ (sym alike.world ∙ ap (λ (w : WorldState). replay w history) (sym first));
      };
      counted = before.counted;
    }
