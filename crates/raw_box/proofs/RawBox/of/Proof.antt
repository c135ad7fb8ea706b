-- The box is taken apart by the callee; its two parts are the struct's fields.
use Rattle.std.proofs.Common.{◌≡◌, List, [], ◌∷◌, ◌++◌, refl, sym, ap, ◌∙◌, subst}
use base.Fml.{ftrue, fsep, flft}
use base.Logic.{SProp, ent, emp, never, id⊢, fst∗}
use contract.Monad.{fact, fact_i}
use contract.Running.{tables}
use denote.Builtin.{RawPtr}
use denote.Exit.{no}
use denote.Param.Laws.{param_laws}
use denote.Param.{param, layout, bounded}
use denote.RattleType.{RattleType, owns}
use denote.RawPtr.{Ptr, block_ptr, null_ptr, ptr_val, in_a_block}
use denote.Signature.{types_at, plain}
use denote.Steps.{nothing, only, heard}
use denote.Struct.Tuple.{Tuple}
use denote.Triple.Call.{calls_at}
use denote.Triple.Spec.{triple_of}
use denote.Triple.Walked.{Stays, stay_dropped, walk_of}
use mir.MapTy.{inst_fn}
use mir.Raw.{raw as bare}
use mir.Syntax.{Args, a_type, dcons, dnil}
use mir.Val.{Val, vptr, vstruct, of_list}
use prog.Wp.{WpFn}
use types.ByLocal.{alloc_all, pass_all, free_all, look_at, get, get_in, sets, lands_as}
use types.Kit.{‵, raw, ◌⊛◌, some, later, ◌$◌, ◌∵◌, !, qed, by, move, keep, drop, split, split3, join, fsplit, fjoin, fpick, pick, suffices, use0, use1, await, rewrite, feq_l}
use types.Logic.{sem}
use types.Part.{agg, sub, whole}
use types.Run.{stop, fld, of_opd, no_more, and_then, returns, enter}
use Rattle.core.proofs.alloc.Calls.{Goes-blank, handle_tells}
use Rattle.core.proofs.atomic.Steps.{fm}
use Rattle.raw_box.proofs.Parts.{pair, owned_at, is_typed, together}
use Rattle.raw_box.proofs.RawBox.of.Code as code
use Rattle.raw_box.proofs.RawBox.of.Statement.{statement}
use Rattle.raw_box.specs.contracts.RawBox.of.Key.{name as own_name}
use Rattle.raw_box.specs.contracts.RawBox.of.{ended, clauses}
use Rattle.std.proofs.raw_atomic.Walks.{proved_at, leaves}
use Rattle.std_alloc.proofs.BoxSteps.Form as box
use Rattle.std_alloc.proofs.BoxSteps.Steps.{box_out, box_in}
use Rattle.std_alloc.proofs.boxed.Box.into_raw_with_allocator.Met.{met}
use Rattle.std_alloc.specs.contracts.boxed.Box.into_raw_with_allocator as callee

pub of_spec : {M : Type 1} → statement M
of_spec 𝓤 𝓛 𝓜 𝓡 wired T A T-laws A-laws g d T-drops A-drops allocator T-glued A-glued =
    let machine = tables 𝓤 𝓛.H 𝓜 𝓡 𝓡.env in
    let R : RattleType = param 0 T in
    let Z : RattleType = param 1 A in
    let Z-laws = param_laws 1 A A-laws in
    let Boxed : box.Bx = record {
      row = T;
      laws = T-laws;
      al = record { row = A; laws = A-laws; g = g; d = d; drops = A-drops };
    } in
    let passed : Args = bounded (a_type ∷ a_type ∷ []) (T, (A, tt)) (dcons d (dcons T-drops (dcons A-drops dnil))) in
    let own = ended T A g d T-drops A-drops in
    let its = clauses T A g d T-drops A-drops 𝓛 𝓜.mem 𝓡.returns in
    let fn = inst_fn passed code.function in
    let stays : Stays own.signature.params own.kept = (stay_dropped (plain (λ _. box.B Boxed)) no, tt) in
    proved_at 𝓛 own stays its 𝓜 𝓡 (Goes-blank 𝓛 2 (plain (λ _. box.B Boxed)) no (λ κs x f. tt), tt) (own_name passed) fn
    (code.unfolded 𝓤 𝓛.H 𝓜 𝓡 wired (T, (A, tt)) d T-drops A-drops) (λ z are.
    let κs = z.0.0 in
    let qs = z.0.1 in
    let boxed = z.0.3.0 in
    let a = boxed.alloc in
    let Post : Val → SProp 𝓤 = (walk_of 𝓛 own stays its).post z in
    let Run : List Val → SProp 𝓤 = λ vs. WpFn 𝓤 𝓛.H machine.C machine.Λ fn vs Post in
    let tokens = ‵ (flft κs.0 qs.0) ⊛ ‵ (flft κs.1.0 qs.1.0) ⊛ ‵ ftrue in
    qed 𝓛 ((tokens ⊛ ‵ (owns (types_at own.signature.params κs) z.0.3 z.0.4)) ∷ raw ((its κs z.0.3).requires z.1) ∷ []) ∵
    split ! $ move ! (1 ∷ []) $ fsplit ! $
    -- [the box; nothing; the tokens; the requires]
    box_out Boxed ! boxed z.0.4.0 (λ b o h place spelled good.
    box_in Boxed ! boxed b o boxed.value place refl $
    let w : Val = box.word Boxed h b o in
    let typed = is_typed R Z Z-laws g b o h good in
    let called = triple_of 𝓛 (callee.signature T A g d A-drops T-drops) (callee.spec T A g d A-drops T-drops 𝓛 𝓜.mem 𝓡.returns) in
    let y : called.Ghost = ((κs, qs, tt, (boxed, tt), (w ∷ [], tt)), tt) in
    let Parts = Tuple (RawPtr ∷ Z ∷ []) in
    fjoin ! $ move ! (1 ∷ 0 ∷ []) $ join ! $ join ! $ use1 𝓛 (raw (called.pre y)) (id⊢ 𝓤 _) $
    suffices ! (Run (w ∷ [])) (subst (λ (us : List Val). ent 𝓤 (Run (w ∷ [])) (Run us)) (sym (λ i. spelled i ++ [])) (id⊢ 𝓤 (Run (w ∷ [])))) $
    enter ! machine.C machine.Λ fn (w ∷ []) Post $ alloc_all ! (λ l. pass_all ! refl (typed, tt) $
    sets ! (of_opd ! (get ! refl)) refl typed $
    calls_at ! (fm 𝓛 𝓜 𝓡) called
    (met 𝓤 𝓛 𝓜 𝓡 (code.calls-std_alloc::boxed::Box::into_raw_with_allocator 𝓡.env wired) T A T-laws A-laws g d A-drops T-drops allocator A-glued T-glued)
    y (and_then ! (get ! refl) (no_more !)) (λ u.
    use1 𝓛 (later (some (λ (r : Ptr × A.Denot).
    (tokens ⊛ ‵ (Parts.own_val r (u ∷ [])))
    ⊛ some (λ (_ : (Unit {0} × (Unit {0} × Unit {0})) × Unit {0}).
    ‵ (fsep (fsep ftrue (fsep ftrue ftrue)) ftrue) ⊛ (raw (fact 𝓤 (r.1 ≡ a)) ⊛ ‵ (owned_at R Z Z-laws g a boxed.value r.0)))))) (id⊢ 𝓤 _) $
    await ! tt $ pick ! (λ r. split ! $ move ! (1 ∷ []) $ pick ! (λ _. split3 ! $ drop ! $ heard ! (r.1 ≡ a) (λ same.
    in_a_block ! r.0 (owned_at R Z Z-laws g a boxed.value)
    (fst∗ 𝓤 (never 𝓤) (sem 𝓛 (g.dealloc_token a (bare (layout T)) null_ptr))) (λ b' o' place'.
    -- [what the box owned; the tokens with the callee's result]
    move ! (1 ∷ []) $ split ! $ move ! (1 ∷ []) $ fpick ! (λ parts. fsplit ! $ feq_l ! (λ both. fsplit ! $ feq_l ! (λ pointer.
    fsplit ! $ rewrite ! 0 (λ (s : A.Denot). ‵ (A.own_val s parts.1.0)) same refl $
    handle_tells Boxed.al ! a parts.1.0 (λ h' alone good'.
    let made = is_typed R Z Z-laws g b' o' h' good' in
    let result : u ≡ pair (vptr b' o') h' =
    ap only (both ∙ (λ j. vstruct (of_list ((pointer ∙ ap (λ (p : Ptr). ptr_val p ∷ []) place') j ++ (alone j ++ []))) ∷ [])) in
    lands_as ! result refl made $
    sets ! (of_opd ! (get_in ! (fld ! refl (stop !)) (sub ! 0 refl (whole !)))) refl (tt, tt) $
    sets ! (of_opd ! (get_in ! (fld ! refl (stop !)) (sub ! 1 refl (whole !)))) refl good' $
    sets ! (of_opd ! (get ! refl)) refl good' $
    sets ! (agg ! (and_then ! (get ! refl) (and_then ! (get ! refl) (no_more !)))) refl made $
    move ! (3 ∷ 0 ∷ []) $ together R Z Z-laws g ! b' o' h' a boxed.value $
    use0 𝓛 (raw (fact 𝓤 (boxed.value ≡ boxed.value))) (fact_i 𝓤 (boxed.value ≡ boxed.value) (emp 𝓤) refl) $
    nothing ! $ nothing ! $ fjoin ! $ returns ! (look_at ! 0 refl) $ free_all ! refl $ keep ! (4 ∷ 0 ∷ 2 ∷ 1 ∷ []) $
    by ! (leaves 𝓛 own stays its z (pair (vptr b' o') h')
    (record { at = block_ptr b' o'; alloc = a; value = boxed.value }) ((tt, (tt, tt)), tt) (tt, tt))))))))))))))
