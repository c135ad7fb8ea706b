-- A `RawBox` by value: its pointer and its allocator, with the box that they own. Assumes `Logic`.
use Rattle.std.proofs.Common.{◌≡◌, ℕ, List, [], ◌∷◌, ◌++◌, refl, subst}
use base.Fml.{Fml}
use denote.Builtin.{RawPtr}
use base.Logic.{never, fst∗}
use denote.Param.Laws.{Laws}
use denote.Param.{layout}
use denote.RattleType.{RattleType, Valss}
use denote.RawPtr.{Ptr, block_ptr, null_ptr, ptr_val, in_a_block}
use denote.Steps.{nothing}
use denote.Struct.Owning.{shape}
use denote.Struct.Struct.{within}
use lib.Dec.{T}
use mathlib.Core.Bool.{true, ◌&&◌}
use mir.Raw.{raw as bare}
use mir.Syntax.{impl, tnil, dnil}
use mir.Val.{Val, vptr, vstruct, vcons, vnil, of_list, has_ty, WT}
use seplogic.Ra.Ura.{Ura}
use types.Kit.{Item, Goal, Seq, Step, step, ‵, ◌$◌, move, drop, fsplit, fjoin, fpick, fpack, feq_i, feq_l}
use types.Logic.{Logic, sem}
use denote.Memory.{lone}
use Rattle.core.proofs.alloc.Calls.{Al, handle_tells}
use Rattle.core.proofs.cell.Inside.{Good}
use Rattle.core.specs.declared.alloc.Allocator.{Ghosts}
use Rattle.raw_box.specs.contracts.RawBox as raw_box
use Rattle.std_alloc.proofs.ResultValues.{and_tt}
use Rattle.std_alloc.specs.Box.Ownership.{box_owns}

-- the machine value of two fields
abbrev pub pair : Val → Val → Val
pair first second = vstruct (vcons first (vcons second vnil))

module _ (R Z : RattleType) (Z-laws : Laws Z) (g : Ghosts Z.Denot) where
  abbrev pub Row : RattleType
  Row = raw_box.the_row R Z g

  abbrev allocator : Al
  allocator = record { row = Z; laws = Z-laws; g = g; d = impl [] tnil dnil; drops = impl [] tnil dnil }

  -- what a box owns that lies at a pointer
  abbrev pub owned_at : Z.Denot → R.Denot → Ptr → Fml
  owned_at a x p = box_owns (g.dealloc_token a) R p x

  -- a pointer into a block, with an allocator, is such a struct's machine value
  pub is_typed : (b o : ℕ) (h : Val) → Good (layout Z) h → T (has_ty (layout Z) h && true) × WT (pair (vptr b o) h)
  is_typed b o h good = (and_tt (has_ty (layout Z) h) good.0, (tt, (good.1, tt)))

  module _ {M : Type 1} {𝓤 : Ura M} {𝓛 : Logic 𝓤} {K : Type 0} {Γ : List (Item 𝓤)} {G : Goal 𝓤 𝓛.H} where
    -- taken apart: [the box that it owns; its allocator]
    pub apart : K → (r : Row.Denot) (vs : List Val)
        → ((b o : ℕ) (h : Val) → r.at ≡ block_ptr b o → vs ≡ pair (vptr b o) h ∷ [] → Good (layout Z) h
        → Seq K 𝓛 (‵ (owned_at r.alloc r.value (block_ptr b o)) ∷ ‵ (Z.own_val r.alloc (h ∷ [])) ∷ Γ) G)
        → Seq K 𝓛 (‵ (Row.own_val r vs) ∷ Γ) G
    apart t r vs next =
        fsplit t $ fpick t (λ fields. fsplit t $ feq_l t (λ whole. fsplit t $ feq_l t (λ pointer. fsplit t $
        handle_tells allocator t r.alloc fields.1.0 (λ h alone good. move t (1 ∷ []) $ drop t $ move t (1 ∷ []) $
        in_a_block t r.at (owned_at r.alloc r.value)
        (fst∗ 𝓤 (never 𝓤) (sem 𝓛 (g.dealloc_token r.alloc (bare (lone R.mir)) null_ptr))) (λ b o place.
        let with_pointer : vs ≡ vstruct (of_list (ptr_val r.at ∷ (fields.1.0 ++ []))) ∷ [] =
        subst (λ (ps : List Val). vs ≡ vstruct (of_list (ps ++ (fields.1.0 ++ []))) ∷ []) pointer whole in
        let with_both : vs ≡ pair (ptr_val r.at) h ∷ [] =
        subst (λ (hs : List Val). vs ≡ vstruct (of_list (ptr_val r.at ∷ (hs ++ []))) ∷ []) alone with_pointer in
        next b o h place (subst (λ (p : Ptr). vs ≡ pair (ptr_val p) h ∷ []) place with_both) good)))))

    -- put together: from [the box that it owns; its allocator]
    pub together : K → (b o : ℕ) (h : Val) (a : Z.Denot) (x : R.Denot)
        → Step K 𝓛 (‵ (Row.own_val (record { at = block_ptr b o; alloc = a; value = x }) (pair (vptr b o) h ∷ [])) ∷ Γ) G
        (‵ (owned_at a x (block_ptr b o)) ∷ ‵ (Z.own_val a (h ∷ [])) ∷ Γ) G
    together t b o h a x = step (λ rest.
        let v : Val = pair (vptr b o) h in
        nothing t $ move t (2 ∷ 0 ∷ []) $ fjoin t $ feq_i t (List Val) (vptr b o ∷ []) (vptr b o ∷ []) refl $ fjoin t $
        feq_i t (List Val) (v ∷ []) (v ∷ []) refl $ fjoin t $
        fpack t (Valss (RawPtr ∷ Z ∷ []))
        (within (shape (raw_box.the_type R Z g)) (block_ptr b o, (a, tt)) (v ∷ [])) (vptr b o ∷ [], (h ∷ [], tt)) $
        fjoin t $ rest)
