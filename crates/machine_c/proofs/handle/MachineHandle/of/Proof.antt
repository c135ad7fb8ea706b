-- The parts of a box that was taken apart are a handle's.
use Rattle.std.proofs.Common.{◌≡◌, List, [], ◌∷◌, ◌++◌, refl, sym, subst}
use base.Fml.{ftrue}
use base.Logic.{SProp, ent, emp, id⊢}
use contract.Monad.{fact, fact_i}
use contract.Running.{tables}
use denote.Exit.{yes}
use denote.RattleType.{RattleType, owns}
use denote.RawPtr.{block_ptr}
use denote.Signature.{types_at, plain}
use denote.Steps.{nothing}
use denote.Triple.Walked.{Stays, stay_dropped, walk_of}
use mir.Val.{Val, vptr}
use prog.Wp.{WpFn}
use types.ByLocal.{alloc_all, pass_all, free_all, look_at, get, get_in, sets}
use types.Kit.{‵, raw, ◌⊛◌, ◌$◌, ◌∵◌, !, qed, by, move, keep, split, fsplit, fjoin, suffices, use0}
use types.Part.{agg, sub, whole}
use types.Run.{stop, fld, of_opd, no_more, and_then, returns, enter}
use Rattle.core.proofs.alloc.Calls.{Goes-blank}
use Rattle.raw_box.proofs.Parts as raw_box
use Rattle.raw_box.proofs.Parts.{pair}
use Rattle.machine_c.proofs.HandleParts.{Owned, Heap, is_typed, together}
use Rattle.machine_c.proofs.handle.MachineHandle.of.Code as code
use Rattle.machine_c.proofs.handle.MachineHandle.of.Statement.{statement}
use Rattle.machine_c.specs.contracts.handle.MachineHandle.of.Key.{name as own_name}
use Rattle.machine_c.specs.contracts.handle.MachineHandle.of.{ended, clauses}
use Rattle.std.proofs.alloc.Global.TheLaws as heap_laws
use Rattle.std.proofs.raw_atomic.Walks.{proved_at, leaves}
use Rattle.std.specs.Prelude.{Some}
use Rattle.std.specs.contracts.impls.GlobalAllocator.TheImpl.{ghosts}

pub of_spec : {M : Type 1} → statement M
of_spec 𝓤 𝓛 𝓜 𝓡 wired =
    let machine = tables 𝓤 𝓛.H 𝓜 𝓡 𝓡.env in
    let its = clauses 𝓛 𝓜.mem 𝓡.returns in
    let fn = code.function in
    let Raw : RattleType = raw_box.Row Owned Heap heap_laws.the_row_laws ghosts in
    let stays : Stays ended.signature.params ended.kept = (stay_dropped (plain (λ _. Raw)) yes, tt) in
    proved_at 𝓛 ended stays its 𝓜 𝓡 (Goes-blank 𝓛 0 (plain (λ _. Raw)) yes (λ κs x f. tt), tt) own_name fn
    (code.unfolded 𝓤 𝓛.H 𝓜 𝓡 wired) (λ z are.
    let κs = z.0.0 in
    let r = z.0.3.0 in
    let Post : Val → SProp 𝓤 = (walk_of 𝓛 ended stays its).post z in
    let Run : List Val → SProp 𝓤 = λ vs. WpFn 𝓤 𝓛.H machine.C machine.Λ fn vs Post in
    qed 𝓛 ((‵ ftrue ⊛ ‵ (owns (types_at ended.signature.params κs) z.0.3 z.0.4))
    ∷ raw ((its κs z.0.3).requires z.1) ∷ []) ∵
    split ! $ move ! (1 ∷ []) $ fsplit ! $
    raw_box.apart Owned Heap heap_laws.the_row_laws ghosts ! r z.0.4.0 (λ b o h place spelled good.
    let w : Val = pair (vptr b o) h in
    let typed = is_typed (block_ptr b o) h good in
    suffices ! (Run (w ∷ []))
    (subst (λ (us : List Val). ent 𝓤 (Run (w ∷ [])) (Run us)) (sym (λ i. spelled i ++ [])) (id⊢ 𝓤 (Run (w ∷ [])))) $
    enter ! machine.C machine.Λ fn (w ∷ []) Post $ alloc_all ! (λ l. pass_all ! refl (typed, tt) $
    -- [the box; its allocator; nothing; nothing; the requires]
    sets ! (of_opd ! (get_in ! (fld ! refl (stop !)) (sub ! 0 refl (whole !)))) refl (tt, tt) $
    sets ! (of_opd ! (get_in ! (fld ! refl (stop !)) (sub ! 1 refl (whole !)))) refl good $
    sets ! (of_opd ! (get ! refl)) refl (tt, tt) $
    sets ! (agg ! (and_then ! (get ! refl) (and_then ! (get ! refl) (no_more !)))) refl typed $
    together ! (block_ptr b o) h r.alloc (Some r.value) $
    use0 𝓛 (raw (fact 𝓤 (Some r.value ≡ Some r.value))) (fact_i 𝓤 (Some r.value ≡ Some r.value) (emp 𝓤) refl) $
    nothing ! $ nothing ! $ fjoin ! $
    returns ! (look_at ! 0 refl) $ free_all ! refl $ keep ! (4 ∷ 0 ∷ 2 ∷ 1 ∷ []) $
    by ! (leaves 𝓛 ended stays its z w
    (record { at = block_ptr b o; alloc = r.alloc; value = Some r.value }) (tt, tt) (tt, tt)))))
