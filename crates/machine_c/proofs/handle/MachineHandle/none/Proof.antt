-- A null pointer with the allocator is a handle that holds nothing.
use Rattle.std.proofs.Common.{◌≡◌, List, [], ◌∷◌, ◌++◌, refl, sym, subst}
use base.Fml.{ftrue}
use base.Logic.{SProp, ent, emp, id⊢}
use contract.Monad.{fact, fact_i}
use contract.Running.{tables}
use denote.Exit.{yes}
use denote.RattleType.{owns}
use denote.RawPtr.{Ptr, null_ptr, ptr_val}
use denote.Signature.{types_at, plain}
use denote.Steps.{nothing}
use denote.Triple.Walked.{Stays, stay_dropped, walk_of}
use mir.Val.{Val}
use prog.Wp.{WpFn}
use types.ByLocal.{alloc_all, pass_all, free_all, look_at, get, sets}
use types.Kit.{‵, raw, ◌⊛◌, ◌$◌, ◌∵◌, !, qed, by, move, keep, split, fsplit, fjoin, feq_i, suffices, use0}
use types.Part.{agg}
use types.Run.{lit, no_more, and_then, returns, enter}
use Rattle.core.proofs.alloc.Calls.{Goes-blank, handle_tells}
use Rattle.raw_box.proofs.Parts.{pair}
use Rattle.machine_c.proofs.HandleParts.{Heap, allocator, is_typed, together}
use Rattle.machine_c.proofs.handle.MachineHandle.none.Code as code
use Rattle.machine_c.proofs.handle.MachineHandle.none.Statement.{statement}
use Rattle.machine_c.specs.contracts.handle.MachineHandle.none.Key.{name as own_name}
use Rattle.machine_c.specs.contracts.handle.MachineHandle.none.{ended, clauses}
use Rattle.std.proofs.raw_atomic.Walks.{proved_at, leaves}
use Rattle.std.specs.Prelude.{None}

pub none_spec : {M : Type 1} → statement M
none_spec 𝓤 𝓛 𝓜 𝓡 wired =
    let machine = tables 𝓤 𝓛.H 𝓜 𝓡 𝓡.env in
    let its = clauses 𝓛 𝓜.mem 𝓡.returns in
    let fn = code.function in
    let stays : Stays ended.signature.params ended.kept = (stay_dropped (plain (λ _. Heap)) yes, tt) in
    proved_at 𝓛 ended stays its 𝓜 𝓡 (Goes-blank 𝓛 0 (plain (λ _. Heap)) yes (λ κs x f. tt), tt) own_name fn
    (code.unfolded 𝓤 𝓛.H 𝓜 𝓡 wired) (λ z are.
    let κs = z.0.0 in
    let a = z.0.3.0 in
    let Post : Val → SProp 𝓤 = (walk_of 𝓛 ended stays its).post z in
    let Run : List Val → SProp 𝓤 = λ vs. WpFn 𝓤 𝓛.H machine.C machine.Λ fn vs Post in
    qed 𝓛 ((‵ ftrue ⊛ ‵ (owns (types_at ended.signature.params κs) z.0.3 z.0.4))
    ∷ raw ((its κs z.0.3).requires z.1) ∷ []) ∵
    split ! $ move ! (1 ∷ []) $ fsplit ! $
    handle_tells allocator ! a z.0.4.0 (λ h alone good.
    let v : Val = pair (ptr_val null_ptr) h in
    suffices ! (Run (h ∷ []))
    (subst (λ (us : List Val). ent 𝓤 (Run (h ∷ [])) (Run us)) (sym (λ i. alone i ++ [])) (id⊢ 𝓤 (Run (h ∷ [])))) $
    enter ! machine.C machine.Λ fn (h ∷ []) Post $ alloc_all ! (λ l. pass_all ! refl (good, tt) $
    -- [the allocator; nothing; nothing; the requires]
    sets ! (agg ! (and_then ! (lit ! tt) (and_then ! (get ! refl) (no_more !)))) refl (is_typed null_ptr h good) $
    feq_i ! Ptr null_ptr null_ptr refl $ together ! null_ptr h a None $
    use0 𝓛 (raw (fact 𝓤 (None ≡ None))) (fact_i 𝓤 (None ≡ None) (emp 𝓤) refl) $
    nothing ! $ nothing ! $ fjoin ! $
    returns ! (look_at ! 0 refl) $ free_all ! refl $ keep ! (4 ∷ 0 ∷ 2 ∷ 1 ∷ []) $
    by ! (leaves 𝓛 ended stays its z v (record { at = null_ptr; alloc = a; value = None }) (tt, tt) (tt, tt)))))
