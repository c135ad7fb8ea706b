-- A null pointer is a loan of nothing.
use Rattle.std.proofs.Common.{◌≡◌, List, [], ◌∷◌, refl, lit<}
use base.Fml.{ftrue}
use base.Logic.{SProp, emp}
use contract.Monad.{fact, fact_i}
use contract.Running.{tables}
use denote.Param.{layout}
use denote.RattleType.{Valss, owns}
use denote.RawPtr.{Ptr, null_ptr, ptr_val}
use denote.Signature.{types_at}
use denote.Steps.{nothing}
use denote.Struct.Owning.{shape, to, fields}
use denote.Struct.Struct.{within}
use denote.Triple.Walked.{walk_of}
use mir.Val.{Val}
use types.ByLocal.{alloc_all, pass_all, free_all, look_at, sets}
use types.Kit.{‵, raw, ◌⊛◌, ◌$◌, ◌∵◌, !, qed, by, keep, split, fjoin, fpack, feq_i, use0}
use types.Part.{agg}
use types.Run.{lit, no_more, and_then, returns, enter}
use Rattle.core.proofs.cell.Inside.{Good}
use Rattle.raw_box.proofs.LoanParts.{word}
use Rattle.machine_c.proofs.loan.MachineLoan.none.Code as code
use Rattle.machine_c.proofs.loan.MachineLoan.none.Statement.{statement}
use Rattle.machine_c.specs.contracts.loan.MachineLoan as loan
use Rattle.machine_c.specs.contracts.loan.MachineLoan.none.Key.{name as own_name}
use Rattle.machine_c.specs.contracts.loan.MachineLoan.none.{ended, clauses}
use Rattle.std.proofs.raw_atomic.Walks.{proved_at, leaves}
use Rattle.std.specs.Prelude.{None}

abbrev nothing_lent : loan.the_row.Denot
nothing_lent = record { at = null_ptr; value = None; life = 0; part = 0 }

is_typed : Good (layout loan.the_row) (word null_ptr)
is_typed = (tt, (record { fits = lit< tt }, tt))

pub none_spec : {M : Type 1} → statement M
none_spec 𝓤 𝓛 𝓜 𝓡 wired =
    let machine = tables 𝓤 𝓛.H 𝓜 𝓡 𝓡.env in
    let its = clauses 𝓛 𝓜.mem 𝓡.returns in
    let fn = code.function in
    let w : Val = word null_ptr in
    proved_at 𝓛 ended tt its 𝓜 𝓡 tt own_name fn (code.unfolded 𝓤 𝓛.H 𝓜 𝓡 wired) (λ z are.
    let κs = z.0.0 in
    let Post : Val → SProp 𝓤 = (walk_of 𝓛 ended tt its).post z in
    qed 𝓛 ((‵ ftrue ⊛ ‵ (owns (types_at ended.signature.params κs) z.0.3 z.0.4))
    ∷ raw ((its κs z.0.3).requires z.1) ∷ []) ∵
    split ! $
    -- [the tokens; nothing; the requires]
    enter ! machine.C machine.Λ fn [] Post $ alloc_all ! (λ l. pass_all ! refl tt $
    sets ! (agg ! (and_then ! (lit ! tt) (no_more !))) refl is_typed $
    feq_i ! Ptr null_ptr null_ptr refl $
    nothing ! $ feq_i ! (List Val) (ptr_val null_ptr ∷ []) (ptr_val null_ptr ∷ []) refl $ fjoin ! $
    feq_i ! (List Val) (w ∷ []) (w ∷ []) refl $ fjoin ! $
    fpack ! (Valss (fields loan.the_type)) (within (shape loan.the_type) (to loan.the_type nothing_lent) (w ∷ []))
    (ptr_val null_ptr ∷ [], tt) $ fjoin ! $
    use0 𝓛 (raw (fact 𝓤 (nothing_lent.value ≡ None))) (fact_i 𝓤 (nothing_lent.value ≡ None) (emp 𝓤) refl) $
    nothing ! $
    returns ! (look_at ! 0 refl) $ free_all ! refl $ keep ! (3 ∷ 0 ∷ 2 ∷ 1 ∷ []) $
    by ! (leaves 𝓛 ended tt its z w nothing_lent tt tt)))
