-- The callee makes a box of the struct's pointer and its allocator.
use Rattle.std.proofs.Common.{◌≡◌, List, [], ◌∷◌, ◌++◌, refl, sym, ap, subst}
use base.Fml.{ftrue, flft}
use base.Logic.{SProp, ent, id⊢}
use contract.BorrowLft.{◌⊑◌}
use contract.Monad.{fact}
use contract.Running.{tables}
use denote.Exit.{no}
use denote.Param.Laws.{param_laws}
use denote.Param.{param, layout, bounded}
use denote.RattleType.{RattleType, owns}
use denote.RawPtr.{block_ptr}
use denote.Signature.{types_at, plain}
use denote.Steps.{nothing, only}
use denote.Triple.Call.{calls_at_last}
use denote.Triple.Clauses.{Lasts, lasts}
use denote.Triple.Spec.{triple_of}
use denote.Triple.Walked.{Stays, stay_dropped, walk_of}
use mir.MapTy.{inst_fn}
use mir.Syntax.{Args, a_type, dcons, dnil}
use mir.Val.{Val, vptr}
use prog.Wp.{WpFn}
use types.ByLocal.{alloc_all, pass_all, free_all, look_at, get, get_in, sets, lands_last, env}
use types.Kit.{‵, raw, ◌⊛◌, some, later, at_ret, ◌$◌, ◌∵◌, !, qed, by, move, keep, drop, split, split3, join, fsplit, fjoin, pick, suffices, use1, await, rewrite, feq_i}
use types.Part.{sub, whole}
use types.Run.{stop, fld, of_opd, no_more, and_then, first, blocks, exec, returns, enter}
use Rattle.core.proofs.alloc.Calls.{Goes-blank}
use Rattle.core.proofs.alloc.Shapes.{after}
use Rattle.core.proofs.atomic.Steps.{fm}
use Rattle.core.proofs.cell.Inside.{Good}
use Rattle.raw_box.proofs.Parts.{pair, Row, is_typed, apart}
use Rattle.raw_box.proofs.RawBox.into_box.Code as code
use Rattle.raw_box.proofs.RawBox.into_box.Statement.{statement}
use Rattle.raw_box.specs.contracts.RawBox.into_box.Key.{name as own_name}
use Rattle.raw_box.specs.contracts.RawBox.into_box.{ended, clauses}
use Rattle.std.proofs.raw_atomic.Walks.{proved_at, leaves}
use Rattle.std_alloc.proofs.BoxSteps.Form as box
use Rattle.std_alloc.proofs.BoxSteps.Steps.{box_out, box_in}
use Rattle.std_alloc.proofs.boxed.Box.from_raw.Met.{met}
use Rattle.std_alloc.specs.contracts.boxed.Box.from_raw as callee

pub into_box_spec : {M : Type 1} → statement M
into_box_spec 𝓤 𝓛 𝓜 𝓡 wired T A T-laws A-laws g d T-drops A-drops allocator T-glued A-glued =
    let machine = tables 𝓤 𝓛.H 𝓜 𝓡 𝓡.env in
    let R : RattleType = param 0 T in
    let Z : RattleType = param 1 A in
    let Z-laws = param_laws 1 A A-laws in
    let Boxed : box.Bx = record {
      row = T;
      laws = T-laws;
      al = record { row = A; laws = A-laws; g = g; d = d; drops = A-drops };
    } in
    let B : RattleType = box.B Boxed in
    let passed : Args = bounded (a_type ∷ a_type ∷ []) (T, (A, tt)) (dcons d (dcons T-drops (dcons A-drops dnil))) in
    let own = ended T A g d T-drops A-drops in
    let its = clauses T A g d T-drops A-drops 𝓛 𝓜.mem 𝓡.returns in
    let fn = inst_fn passed code.function in
    let stays : Stays own.signature.params own.kept = (stay_dropped (plain (λ _. Row R Z Z-laws g)) no, tt) in
    proved_at 𝓛 own stays its 𝓜 𝓡 (Goes-blank 𝓛 2 (plain (λ _. Row R Z Z-laws g)) no (λ κs x f. tt), tt) (own_name passed) fn
    (code.unfolded 𝓤 𝓛.H 𝓜 𝓡 wired (T, (A, tt)) d T-drops A-drops) (λ z are.
    let κs = z.0.0 in
    let qs = z.0.1 in
    let parts = z.0.3.0 in
    let a = parts.alloc in
    let Post : Val → SProp 𝓤 = (walk_of 𝓛 own stays its).post z in
    let Run : List Val → SProp 𝓤 = λ vs. WpFn 𝓤 𝓛.H machine.C machine.Λ fn vs Post in
    let tokens = ‵ (flft κs.0 qs.0) ⊛ ‵ (flft κs.1.0 qs.1.0) ⊛ ‵ ftrue in
    qed 𝓛 ((tokens ⊛ ‵ (owns (types_at own.signature.params κs) z.0.3 z.0.4)) ∷ raw ((its κs z.0.3).requires z.1) ∷ []) ∵
    split ! $ move ! (1 ∷ []) $ fsplit ! $
    apart R Z Z-laws g ! parts z.0.4.0 (λ b o h place spelled good.
    -- [what the box owned; its allocator; nothing; the tokens; the requires]
    let w : Val = pair (vptr b o) h in
    let typed = is_typed R Z Z-laws g b o h good in
    let called = triple_of 𝓛 (callee.signature T A g d A-drops) (callee.spec T A g d A-drops 𝓛 𝓜.mem 𝓡.returns) in
    let y : called.Ghost = ((κs, qs, tt, (a, (block_ptr b o, tt)), (h ∷ [], (vptr b o ∷ [], tt))), parts.value) in
    move ! (4 ∷ []) $ use1 𝓛 (raw (fact 𝓤 (κs.0 ⊑ T.lives)) ⊛ raw (fact 𝓤 (κs.1.0 ⊑ A.lives)) ⊛ ‵ ftrue) (id⊢ 𝓤 _) $
    split3 ! $ move ! (2 ∷ []) $ drop ! $ move ! (1 ∷ 2 ∷ []) $ join ! $ move ! (1 ∷ 0 ∷ []) $ join ! $
    move ! (2 ∷ []) $ feq_i ! (List Val) (vptr b o ∷ []) (vptr b o ∷ []) refl $ fjoin ! $ move ! (2 ∷ 0 ∷ []) $ fjoin ! $
    move ! (2 ∷ 0 ∷ []) $ join ! $ join ! $ use1 𝓛 (raw (called.pre y)) (id⊢ 𝓤 _) $
    suffices ! (Run (w ∷ [])) (subst (λ (us : List Val). ent 𝓤 (Run (w ∷ [])) (Run us)) (sym (λ i. spelled i ++ [])) (id⊢ 𝓤 (Run (w ∷ [])))) $
    enter ! machine.C machine.Λ fn (w ∷ []) Post $ alloc_all ! (λ l. pass_all ! refl (typed, tt) $
    let E = env fn.locals l in
    sets ! (of_opd ! (get_in ! (fld ! refl (stop !)) (sub ! 0 refl (whole !)))) refl (tt, tt) $
    sets ! (of_opd ! (get_in ! (fld ! refl (stop !)) (sub ! 1 refl (whole !)))) refl good $
    first ! $ blocks ! $ sets ! (of_opd ! (get ! refl)) refl good $
    calls_at_last ! (fm 𝓛 𝓜 𝓡) called
    (met 𝓤 𝓛 𝓜 𝓡 (code.calls-std_alloc::boxed::Box::from_raw 𝓡.env wired) T A T-laws A-laws g d A-drops allocator A-glued)
    y (and_then ! (get ! refl) (and_then ! (get ! refl) (no_more !))) (λ u.
    use1 𝓛 (later (some (λ (r : B.Denot).
    (tokens ⊛ ‵ (B.own_val r (u ∷ [])))
    ⊛ some (λ (ls : Lasts (callee.ended T A g d A-drops) κs y.0.3).
    ‵ (lasts (callee.ended T A g d A-drops) κs y.0.3 ls) ⊛ (raw (fact 𝓤 (r.value ≡ parts.value)) ⊛ raw (fact 𝓤 (r.alloc ≡ a)))))))
    (id⊢ 𝓤 (called.post y u)) $
    await ! tt $ pick ! (λ r. split ! $ move ! (1 ∷ []) $ pick ! (λ _. split3 ! $ drop ! $ move ! (2 ∷ []) $ split ! $ move ! (1 ∷ []) $
    box_out Boxed ! r (u ∷ []) (λ b' o' h' place' spelled' good'. box_in Boxed ! r b' o' r.value place' refl $
    rewrite ! 0 (λ (vs : List Val). ‵ (B.own_val r vs)) (sym spelled') refl $
    -- [the box; the tokens; that its value is the old one]
    let made : Good (layout B) u = subst (Good (layout B)) (sym (ap only spelled')) (is_typed R Z Z-laws g b' o' h' good') in
    lands_last ! refl made $ exec ! machine.C machine.Λ E (after 3 fn.body) (at_ret E Post) $ sets ! (of_opd ! (get ! refl)) refl made $
    nothing ! $ nothing ! $ fjoin ! $ returns ! (look_at ! 0 refl) $ free_all ! refl $ keep ! (2 ∷ 0 ∷ 1 ∷ 3 ∷ []) $
    by ! (leaves 𝓛 own stays its z u r ((tt, (tt, tt)), tt) (tt, tt)))))))))
