-- The loan's pointer is that of a loan that is read.
use Rattle.std.proofs.Common.{◌≡◌, List, [], ◌∷◌, ◌++◌, refl, sym, subst, lit<}
use base.Fml.{ftrue}
use base.Logic.{SProp, ent, emp, id⊢}
use contract.Monad.{fact, fact_i}
use contract.Running.{tables}
use denote.Exit.{yes}
use denote.Param.{layout}
use denote.RattleType.{Valss, owns}
use denote.RawPtr.{Ptr, block_ptr, null_ptr, ptr_val}
use denote.Signature.{types_at, plain}
use denote.Steps.{nothing}
use denote.Struct.Owning.{shape, to, fields}
use denote.Struct.Struct.{within}
use denote.Triple.Walked.{Stays, stay_dropped, walk_of}
use mir.Val.{Val, vstruct, of_list}
use prog.Wp.{WpFn}
use types.ByLocal.{alloc_all, pass_all, free_all, look_at, get, get_in, sets}
use types.Kit.{‵, raw, ◌⊛◌, ◌$◌, ◌∵◌, !, qed, by, move, keep, drop, split, fsplit, fjoin, fpick, fpack, feq_i, feq_l, suffices, use0}
use types.Part.{agg, sub, whole}
use types.Run.{stop, fld, of_opd, no_more, and_then, returns, enter}
use Rattle.core.proofs.alloc.Calls.{Goes-blank}
use Rattle.core.proofs.atomic.Steps.{Ptr-Good}
use Rattle.core.proofs.cell.Inside.{Good}
use Rattle.raw_box.proofs.LoanParts.{word}
use Rattle.machine_c.proofs.loan.MachineLoan.open.Code as code
use Rattle.machine_c.proofs.loan.MachineLoan.open.Statement.{statement}
use Rattle.machine_c.specs.contracts.lent_machine.LentMachine as reading
use Rattle.machine_c.specs.contracts.loan.MachineLoan as loan
use Rattle.machine_c.specs.contracts.loan.MachineLoan.open.Key.{name as own_name}
use Rattle.machine_c.specs.contracts.loan.MachineLoan.open.{ended, clauses}
use Rattle.std.proofs.raw_atomic.Walks.{proved_at, leaves}

is_typed : (p : Ptr) → Good (layout loan.the_row) (word p)
is_typed null_ptr = (tt, (record { fits = lit< tt }, tt))
is_typed (block_ptr b o) = (tt, (tt, tt))

is_typed_read : (p : Ptr) → Good (layout reading.the_row) (word p)
is_typed_read null_ptr = (tt, (record { fits = lit< tt }, tt))
is_typed_read (block_ptr b o) = (tt, (tt, tt))

pub open_spec : {M : Type 1} → statement M
open_spec 𝓤 𝓛 𝓜 𝓡 wired =
    let machine = tables 𝓤 𝓛.H 𝓜 𝓡 𝓡.env in
    let its = clauses 𝓛 𝓜.mem 𝓡.returns in
    let fn = code.function in
    let stays : Stays ended.signature.params ended.kept = (stay_dropped (plain (λ _. loan.the_row)) yes, tt) in
    proved_at 𝓛 ended stays its 𝓜 𝓡 (Goes-blank 𝓛 0 (plain (λ _. loan.the_row)) yes (λ κs x f. tt), tt) own_name fn
    (code.unfolded 𝓤 𝓛.H 𝓜 𝓡 wired) (λ z are.
    let κs = z.0.0 in
    let d = z.0.3.0 in
    let p = d.at in
    let w : Val = word p in
    let made : reading.the_row.Denot = record { at = p; value = d.value; life = d.life; part = d.part } in
    let Kept : Type 0 = (d.value ≡ d.value) × (d.life ≡ d.life) × (d.part ≡ d.part) in
    let Post : Val → SProp 𝓤 = (walk_of 𝓛 ended stays its).post z in
    let Run : List Val → SProp 𝓤 = λ vs. WpFn 𝓤 𝓛.H machine.C machine.Λ fn vs Post in
    qed 𝓛 ((‵ ftrue ⊛ ‵ (owns (types_at ended.signature.params κs) z.0.3 z.0.4))
    ∷ raw ((its κs z.0.3).requires z.1) ∷ []) ∵
    split ! $ move ! (1 ∷ []) $ fsplit ! $
    fsplit ! $ fpick ! (λ parts. fsplit ! $ feq_l ! (λ all. fsplit ! $ feq_l ! (λ pointer. drop ! $
    -- [what is lent; nothing; nothing; the requires]
    let spelled : z.0.4.0 ≡ w ∷ [] = subst (λ (ps : List Val). z.0.4.0 ≡ vstruct (of_list (ps ++ [])) ∷ []) pointer all in
    suffices ! (Run (w ∷ []))
    (subst (λ (us : List Val). ent 𝓤 (Run (w ∷ [])) (Run us)) (sym (λ i. spelled i ++ [])) (id⊢ 𝓤 (Run (w ∷ [])))) $
    enter ! machine.C machine.Λ fn (w ∷ []) Post $ alloc_all ! (λ l. pass_all ! refl (is_typed p, tt) $
    sets ! (of_opd ! (get_in ! (fld ! refl (stop !)) (sub ! 0 refl (whole !)))) refl (Ptr-Good p) $
    sets ! (agg ! (and_then ! (get ! refl) (no_more !))) refl (is_typed_read p) $
    nothing ! $ feq_i ! (List Val) (ptr_val p ∷ []) (ptr_val p ∷ []) refl $ fjoin ! $
    feq_i ! (List Val) (w ∷ []) (w ∷ []) refl $ fjoin ! $
    fpack ! (Valss (fields reading.the_type)) (within (shape reading.the_type) (to reading.the_type made) (w ∷ []))
    (ptr_val p ∷ [], tt) $ fjoin ! $
    use0 𝓛 (raw (fact 𝓤 Kept)) (fact_i 𝓤 Kept (emp 𝓤) (refl, refl, refl)) $
    nothing ! $ nothing ! $ fjoin ! $
    returns ! (look_at ! 0 refl) $ free_all ! refl $ keep ! (4 ∷ 0 ∷ 2 ∷ 1 ∷ []) $
    by ! (leaves 𝓛 ended stays its z w made (tt, tt) (tt, tt)))))))
