-- The pointer is null if nothing is lent, and else a block's.
use Rattle.std.proofs.Common.{◌≡◌, ℕ, true, false, List, [], ◌∷◌, refl, sym, ap, ◌∙◌}
use base.Fml.{Lft, ftrue, flft, fhide}
use base.Logic.{SProp, emp}
use contract.Monad.{fact, fact_i}
use contract.Running.{tables}
use denote.Builtin.{RefOf}
use denote.Copied.{Struct-Copied, plain_Copied}
use denote.Exit.{yes}
use denote.Laws.{Is, shows}
use denote.Memory.{cell_at, hidden_shr}
use denote.Opens.{unhide}
use denote.RattleType.{RattleType, owns}
use denote.RawPtr.{Ptr, block_ptr, null_ptr, ptr_val, coded_ptr, ptr_own, rawptr_pure, tests_null}
use denote.Ref.{shr_vals, shr_Tells}
use denote.Signature.{types_at, plain}
use denote.Steps.{nothing, looks, shuts, peeks}
use denote.Struct.Field.{RawPtr-field}
use denote.Struct.Laws.{RawPtr-laws, spells, tellss}
use denote.Struct.Lending.{lent_out}
use denote.Struct.Owning.{shape}
use denote.Struct.Struct.{Struct, Struct-Tells}
use denote.Triple.Walked.{Stays, stay_dropped, walk_of, Goes-dropped}
use mir.Syntax.{named, ty_ptr}
use mir.Val.{Val, vptr, vbool}
use types.ByLocal.{alloc_all, pass_all, free_all, look_at, get, through, sets}
use types.Kit.{‵, raw, ◌⊛◌, ◌$◌, ◌∵◌, !, qed, by, move, keep, drop, split, join, fsplit, fjoin, feq_i, rewrite, use0, use1}
use types.Part.{sub, whole, look_in}
use types.Run.{stop, fld, lit, load, bin, of_opd, returns, enter}
use Rattle.core.proofs.atomic.Steps.{Ptr-Good}
use Rattle.raw_box.proofs.LoanParts.{word, by_null}
use Rattle.machine_c.proofs.lent_machine.LentMachine.is_empty.Code as code
use Rattle.machine_c.proofs.lent_machine.LentMachine.is_empty.Statement.{statement}
use Rattle.raw_box.specs.Contents.{contents_lent}
use Rattle.machine_c.specs.contracts.lent_machine.LentMachine as reading
use Rattle.machine_c.specs.contracts.lent_machine.LentMachine.is_empty.Key.{name as own_name}
use Rattle.machine_c.specs.contracts.lent_machine.LentMachine.is_empty.{ended, clauses}
use Rattle.machine.specs.contracts.machine.Machine.{the_row as R}
use Rattle.std.proofs.raw_atomic.Walks.{proved, leaves}
use Rattle.std.specs.Option.{is_none}

abbrev Row : RattleType
Row = reading.the_row

abbrev D : RattleType
D = Struct (shape reading.the_type)

is_word : (p : Ptr) (vs : List Val) → Is D (p, tt) vs → vs ≡ word p ∷ []
is_word p =
    Struct-Tells (shape reading.the_type) (spells (RawPtr-field ∷ []) (RawPtr-laws, tt)) (tellss (RawPtr-field ∷ []) (RawPtr-laws, tt))
    (p, tt)

pub is_empty_spec : {M : Type 1} → statement M
is_empty_spec 𝓤 𝓛 𝓜 𝓡 wired =
    let 𝓣 = tables 𝓤 𝓛.H 𝓜 𝓡 𝓡.env in
    let its = clauses 𝓛 𝓜.mem 𝓡.returns in
    let fn = code.function in
    let self = RefOf (0 ∷ []) tt (plain (λ _. Row)) (λ _. tt) in
    let stays : Stays ended.signature.params ended.kept = (stay_dropped self yes, tt) in
    let copied = Struct-Copied 𝓛 (shape reading.the_type) (refl, tt)
    (plain_Copied 𝓛 Ptr coded_ptr (ty_ptr ∷ []) ptr_own rawptr_pure ptr_val RawPtr-laws.tells, tt) in
    proved 𝓛 ended stays its 𝓜 𝓡 (Goes-dropped 𝓛 1 self yes (λ κs x f. refl), tt) own_name fn
    (code.unfolded 𝓤 𝓛.H 𝓜 𝓡 wired) (λ κs. (shr_vals, tt)) (λ κs. (shr_Tells (named 0) κs.0 Row, tt)) (λ κs qs bounds a gh are.
    let b : ℕ = a.0.ref_ptr.0 in
    let o : ℕ = a.0.ref_ptr.1 in
    let κ : Lft = κs.0 in
    let d = a.0.now in
    let p : Ptr = d.at in
    let y : (walk_of 𝓛 ended stays its).Ghost = ((κs, qs, bounds, a, (vptr b o ∷ [], tt)), gh) in
    let Post : Val → SProp 𝓤 = (walk_of 𝓛 ended stays its).post y in
    qed 𝓛 (((‵ (flft κ qs.0) ⊛ ‵ ftrue) ⊛ ‵ (owns (types_at ended.signature.params κs) a y.0.4))
    ∷ raw ((its κs a).requires gh) ∷ []) ∵
    split ! $ split ! $ move ! (2 ∷ []) $ fsplit ! $ fsplit ! $ keep ! (1 ∷ 3 ∷ 4 ∷ []) $
    -- [the `&`; the token; nothing]
    enter ! 𝓣.C 𝓣.Λ fn (vptr b o ∷ []) Post $ alloc_all ! (λ l. pass_all ! refl ((tt, tt), tt) $
    use1 𝓛 (‵ (hidden_shr D κ (p, tt) b o) ⊛ ‵ (fhide (contents_lent R p d.value κ)))
    (lent_out 𝓛 reading.struct reading.the_codes reading.the_heap reading.the_lent κ d b o) $
    split ! $ move ! (1 ∷ []) $ unhide ! $ by_null R ! p d.value κ
    -- [the fields; the token; nothing]
    (λ place empty. looks ! tt D copied.opens (p, tt) b o (λ s vs. move ! (1 ∷ []) $ peeks ! D (Is D) (shows 𝓛 D) (p, tt) vs (λ is.
    let spelled : vs ≡ word null_ptr ∷ [] = is_word p vs is ∙ ap (λ (r : Ptr). word r ∷ []) place in
    rewrite ! 1 (λ (ws : List Val). ‵ (cell_at s D.mir ws b o)) spelled refl $
    sets ! (of_opd ! (load ! (through ! refl (fld ! refl (stop !))) (look_in ! 1 (sub ! 0 refl (whole !))))) refl (Ptr-Good null_ptr) $
    sets ! (bin ! (get ! refl) (lit ! tt) tt) refl (tt, tt) $
    rewrite ! 1 (λ (ws : List Val). ‵ (cell_at s D.mir ws b o)) (sym spelled) refl $
    move ! (1 ∷ 0 ∷ 2 ∷ []) $ shuts ! tt D s (p, tt) vs b o $
    -- [the token; the fields; nothing]
    move ! (0 ∷ 2 ∷ []) $ join ! $
    feq_i ! (List Val) (vbool true ∷ []) (vbool true ∷ []) refl $
    use0 𝓛 (raw (fact 𝓤 (true ≡ is_none d.value))) (fact_i 𝓤 (true ≡ is_none d.value) (emp 𝓤) (ap is_none (sym empty))) $
    nothing ! $ nothing ! $ fjoin ! $ returns ! (look_at ! 0 refl) $ free_all ! refl $ keep ! (3 ∷ 0 ∷ 2 ∷ 1 ∷ []) $
    by ! (leaves 𝓛 ended stays its y (vbool true) true (tt, tt) (tt, tt)))))
    (λ b' o' machine place full testable. drop ! $
    looks ! tt D copied.opens (p, tt) b o (λ s vs. move ! (1 ∷ []) $ peeks ! D (Is D) (shows 𝓛 D) (p, tt) vs (λ is.
    let spelled : vs ≡ word (block_ptr b' o') ∷ [] = is_word p vs is ∙ ap (λ (r : Ptr). word r ∷ []) place in
    rewrite ! 1 (λ (ws : List Val). ‵ (cell_at s D.mir ws b o)) spelled refl $
    sets ! (of_opd ! (load ! (through ! refl (fld ! refl (stop !))) (look_in ! 1 (sub ! 0 refl (whole !))))) refl (tt, tt) $
    sets ! (bin ! (get ! refl) (lit ! tt) (tests_null (block_ptr b' o') testable)) refl (tt, tt) $
    rewrite ! 1 (λ (ws : List Val). ‵ (cell_at s D.mir ws b o)) (sym spelled) refl $
    move ! (1 ∷ 0 ∷ 2 ∷ []) $ shuts ! tt D s (p, tt) vs b o $
    move ! (0 ∷ 2 ∷ []) $ join ! $
    feq_i ! (List Val) (vbool false ∷ []) (vbool false ∷ []) refl $
    use0 𝓛 (raw (fact 𝓤 (false ≡ is_none d.value))) (fact_i 𝓤 (false ≡ is_none d.value) (emp 𝓤) (ap is_none (sym full))) $
    nothing ! $ nothing ! $ fjoin ! $ returns ! (look_at ! 0 refl) $ free_all ! refl $ keep ! (3 ∷ 0 ∷ 2 ∷ 1 ∷ []) $
    by ! (leaves 𝓛 ended stays its y (vbool false) false (tt, tt) (tt, tt)))))))
