-- The pointer is null, and it has no contents, or it is a block's, with what a box of it owns.
use Rattle.std.proofs.Common.{◌≡◌, List, [], ◌∷◌, ◌++◌, refl, sym, ap, subst, lit<}
use base.Logic.{SProp, ent, emp, id⊢}
use base.Fml.{ftrue}
use contract.Monad.{fact, fact_i}
use contract.Running.{tables}
use denote.Exit.{yes}
use denote.Param.{layout}
use denote.RattleType.{RattleType, owns}
use denote.RawPtr.{block_ptr, null_ptr, ptr_val, tests_null}
use denote.Signature.{types_at, type_at, plain}
use denote.Steps.{nothing}
use denote.Triple.Walked.{Stays, stay_dropped, walk_of}
use mir.Val.{Val, vptr, vcons, vnil}
use prog.Wp.{WpFn}
use types.ByLocal.{is, alloc_all, pass_all, free_all, look_at, get, get_in, sets, sets_last, env}
use types.Kit.{‵, raw, ◌⊛◌, at_ret, ◌$◌, ◌∵◌, !, qed, by, move, keep, split, fsplit, fjoin, suffices, use0, use1}
use types.Match.{live}
use types.Part.{agg, sub, whole}
use types.Run.{stop, fld, lit, of_opd, bin, no_more, and_then, first, branches, exec, returns, enter}
use Rattle.core.proofs.alloc.Calls.{Goes-blank}
use Rattle.core.proofs.alloc.Shapes.{after}
use Rattle.core.proofs.atomic.Steps.{Ptr-Good}
use Rattle.core.proofs.cell.Inside.{Good}
use Rattle.core.proofs.option.Made.{Some-of, none_of}
use Rattle.raw_box.proofs.Contents.{by_null}
use Rattle.raw_box.proofs.Parts as raw_box
use Rattle.raw_box.proofs.Parts.{pair}
use Rattle.machine_c.proofs.HandleParts.{Owned, Heap, Handle, is_typed, apart}
use Rattle.machine_c.proofs.handle.MachineHandle.open.Code as code
use Rattle.machine_c.proofs.handle.MachineHandle.open.Statement.{statement}
use Rattle.machine_c.specs.contracts.handle.MachineHandle.open.Key.{name as own_name}
use Rattle.machine_c.specs.contracts.handle.MachineHandle.open.{ended, clauses}
use Rattle.std.proofs.alloc.Global.TheLaws as heap_laws
use Rattle.std.proofs.raw_atomic.Walks.{proved_at, leaves}
use Rattle.std.specs.Prelude.{Some, None}
use Rattle.std.specs.contracts.impls.GlobalAllocator.TheImpl.{ghosts}
use Rattle.std_alloc.proofs.ResultValues.{and_tt}

pub open_spec : {M : Type 1} → statement M
open_spec 𝓤 𝓛 𝓜 𝓡 wired =
    let machine = tables 𝓤 𝓛.H 𝓜 𝓡 𝓡.env in
    let its = clauses 𝓛 𝓜.mem 𝓡.returns in
    let fn = code.function in
    let Raw : RattleType = raw_box.Row Owned Heap heap_laws.the_row_laws ghosts in
    let stays : Stays ended.signature.params ended.kept = (stay_dropped (plain (λ _. Handle)) yes, tt) in
    proved_at 𝓛 ended stays its 𝓜 𝓡 (Goes-blank 𝓛 0 (plain (λ _. Handle)) yes (λ κs x f. tt), tt) own_name fn
    (code.unfolded 𝓤 𝓛.H 𝓜 𝓡 wired) (λ z are.
    let κs = z.0.0 in
    let d = z.0.3.0 in
    let Post : Val → SProp 𝓤 = (walk_of 𝓛 ended stays its).post z in
    let Run : List Val → SProp 𝓤 = λ vs. WpFn 𝓤 𝓛.H machine.C machine.Λ fn vs Post in
    let Out : RattleType = type_at ended.signature.result κs in
    qed 𝓛 ((‵ ftrue ⊛ ‵ (owns (types_at ended.signature.params κs) z.0.3 z.0.4))
    ∷ raw ((its κs z.0.3).requires z.1) ∷ []) ∵
    split ! $ move ! (1 ∷ []) $ fsplit ! $
    apart ! d z.0.4.0 (λ h spelled good.
    let w : Val = pair (ptr_val d.at) h in
    suffices ! (Run (w ∷ []))
    (subst (λ (us : List Val). ent 𝓤 (Run (w ∷ [])) (Run us)) (sym (λ i. spelled i ++ [])) (id⊢ 𝓤 (Run (w ∷ [])))) $
    enter ! machine.C machine.Λ fn (w ∷ []) Post $ alloc_all ! (λ l. pass_all ! refl (is_typed d.at h good, tt) $
    let E = env fn.locals l in
    -- [the contents; its allocator; nothing; nothing; the requires]
    by_null Owned ! d.alloc d.at d.value
    (λ place empty.
    let nothing_typed : Good (layout Out) (live 0 vnil) = (tt, (record { fits = lit< tt }, tt)) in
    sets ! (is ! (of_opd ! (get_in ! (fld ! refl (stop !)) (sub ! 0 refl (whole !)))) (ap ptr_val place))
    refl (Ptr-Good null_ptr) $
    sets ! (of_opd ! (get_in ! (fld ! refl (stop !)) (sub ! 1 refl (whole !)))) refl good $
    sets ! (bin ! (get ! refl) (lit ! tt) tt) refl (tt, tt) $
    first ! $ branches ! (get ! refl)
    (λ _. sets_last ! (agg ! (and_then ! (lit ! tt) (no_more !))) refl nothing_typed $
    exec ! machine.C machine.Λ E (after 4 fn.body) (at_ret E Post) $ sets ! (of_opd ! (get ! refl)) refl nothing_typed $
    use0 𝓛 (‵ (Out.own_val None (live 0 vnil ∷ []))) (none_of 𝓛 Raw) $
    use0 𝓛 (raw (fact 𝓤 (d.value ≡ None))) (fact_i 𝓤 (d.value ≡ None) (emp 𝓤) empty) $ nothing ! $ nothing ! $ fjoin ! $
    returns ! (look_at ! 0 refl) $ free_all ! refl $ keep ! (4 ∷ 0 ∷ 2 ∷ 1 ∷ []) $
    by ! (leaves 𝓛 ended stays its z (live 0 vnil) None (tt, tt) (tt, tt)))
    (λ never. absurd never))
    (λ b o m place full testable.
    let made : Val = pair (vptr b o) h in
    let made_typed = raw_box.is_typed Owned Heap heap_laws.the_row_laws ghosts b o h good in
    let v : Val = live 1 (vcons made vnil) in
    let v_typed : Good (layout Out) v = (and_tt _ made_typed.0, (record { fits = lit< tt }, (made_typed.1, tt))) in
    let r : Raw.Denot = record { at = block_ptr b o; alloc = d.alloc; value = m } in
    sets ! (is ! (of_opd ! (get_in ! (fld ! refl (stop !)) (sub ! 0 refl (whole !)))) (ap ptr_val place))
    refl (tt, tt) $
    sets ! (of_opd ! (get_in ! (fld ! refl (stop !)) (sub ! 1 refl (whole !)))) refl good $
    sets ! (bin ! (get ! refl) (lit ! tt) (tests_null (block_ptr b o) testable)) refl (tt, tt) $
    first ! $ branches ! (get ! refl) (λ never. absurd never)
    (λ _. sets ! (of_opd ! (get ! refl)) refl (tt, tt) $
    sets ! (agg ! (and_then ! (get ! refl) (and_then ! (get ! refl) (no_more !)))) refl made_typed $
    sets_last ! (agg ! (and_then ! (lit ! tt) (and_then ! (get ! refl) (no_more !)))) refl v_typed $
    exec ! machine.C machine.Λ E (after 4 fn.body) (at_ret E Post) $ sets ! (of_opd ! (get ! refl)) refl v_typed $
    raw_box.together Owned Heap heap_laws.the_row_laws ghosts ! b o h d.alloc m $
    use1 𝓛 (‵ (Out.own_val (Some r) (v ∷ []))) (Some-of 𝓛 Raw r made) $
    use0 𝓛 (raw (fact 𝓤 (d.value ≡ Some m))) (fact_i 𝓤 (d.value ≡ Some m) (emp 𝓤) full) $
    nothing ! $ nothing ! $ fjoin ! $
    returns ! (look_at ! 0 refl) $ free_all ! refl $ keep ! (3 ∷ 0 ∷ 2 ∷ 1 ∷ []) $
    by ! (leaves 𝓛 ended stays its z v (Some r) (tt, tt) (tt, tt)))))))
