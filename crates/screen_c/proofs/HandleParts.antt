-- A screen's handle by value: its pointer and its allocator, with what they own. Assumes `Logic`.
use Rattle.std.proofs.Common.{◌≡◌, List, [], ◌∷◌, ◌++◌, refl, subst, lit<}
use denote.Param.{layout}
use denote.RattleType.{RattleType, Valss}
use denote.RawPtr.{Ptr, block_ptr, null_ptr, ptr_val}
use denote.Steps.{nothing}
use denote.Struct.Owning.{shape, to, fields}
use denote.Struct.Struct.{within}
use mir.Syntax.{impl, tnil, dnil}
use mir.Val.{Val, vstruct, of_list, has_ty}
use seplogic.Ra.Ura.{Ura}
use types.Kit.{Item, Goal, Seq, Step, step, ‵, ◌$◌, move, drop, fsplit, fjoin, fpick, fpack, feq_i, feq_l}
use types.Logic.{Logic}
use Rattle.core.proofs.alloc.Calls.{Al, handle_tells}
use Rattle.core.proofs.cell.Inside.{Good}
use Rattle.raw_box.proofs.Parts.{pair}
use Rattle.raw_box.specs.Contents.{contents}
use Rattle.screen_c.specs.contracts.handle.ScreenHandle as handle
use Rattle.screen_c.specs.contracts.owned_screen.OwnedScreen as owned
use Rattle.std.proofs.alloc.Global.TheLaws as heap_laws
use Rattle.std.specs.Prelude.{Option}
use Rattle.std.specs.contracts.alloc.Global as heap
use Rattle.std.specs.contracts.impls.GlobalAllocator.TheImpl.{ghosts}
use Rattle.std.specs.declared.alloc.Global.{Global}
use Rattle.std_alloc.proofs.ResultValues.{and_tt}

-- what is owned, the allocator, and the handle
abbrev pub Owned : RattleType
Owned = owned.the_row

abbrev pub Heap : RattleType
Heap = heap.the_row

abbrev pub Handle : RattleType
Handle = handle.the_row

abbrev pub allocator : Al
allocator = record {
  row = Heap;
  laws = heap_laws.the_row_laws;
  g = ghosts;
  d = impl [] tnil dnil;
  drops = impl [] tnil dnil;
}

-- a pointer with an allocator is a handle's machine value
pub is_typed : (p : Ptr) (h : Val) → Good (layout Heap) h → Good (layout Handle) (pair (ptr_val p) h)
is_typed null_ptr h good = (and_tt (has_ty (layout Heap) h) good.0, (record { fits = lit< tt }, (good.1, tt)))
is_typed (block_ptr b o) h good = (and_tt (has_ty (layout Heap) h) good.0, (tt, (good.1, tt)))

module _ {M : Type 1} {𝓤 : Ura M} {𝓛 : Logic 𝓤} {K : Type 0} {Γ : List (Item 𝓤)} {G : Goal 𝓤 𝓛.H} where
  -- taken apart: [what it holds; its allocator]
  pub apart : K → (d : Handle.Denot) (vs : List Val)
      → ((h : Val) → vs ≡ pair (ptr_val d.at) h ∷ [] → Good (layout Heap) h
      → Seq K 𝓛 (‵ (contents Owned d.alloc d.at d.value) ∷ ‵ (Heap.own_val d.alloc (h ∷ [])) ∷ Γ) G)
      → Seq K 𝓛 (‵ (Handle.own_val d vs) ∷ Γ) G
  apart t d vs next =
      fsplit t $ fpick t (λ parts. fsplit t $ feq_l t (λ whole. fsplit t $ feq_l t (λ pointer. fsplit t $
      handle_tells allocator t d.alloc parts.1.0 (λ h alone good. move t (1 ∷ []) $ drop t $ move t (1 ∷ []) $
      let with_pointer : vs ≡ vstruct (of_list (ptr_val d.at ∷ (parts.1.0 ++ []))) ∷ [] =
      subst (λ (ps : List Val). vs ≡ vstruct (of_list (ps ++ (parts.1.0 ++ []))) ∷ []) pointer whole in
      next h
      (subst (λ (hs : List Val). vs ≡ vstruct (of_list (ptr_val d.at ∷ (hs ++ []))) ∷ []) alone with_pointer)
      good))))

  -- put together: from [what it holds; its allocator]
  pub together : K → (p : Ptr) (h : Val) (a : Global) (x : Option Owned.Denot)
      → Step K 𝓛 (‵ (Handle.own_val (record { at = p; alloc = a; value = x }) (pair (ptr_val p) h ∷ [])) ∷ Γ) G
      (‵ (contents Owned a p x) ∷ ‵ (Heap.own_val a (h ∷ [])) ∷ Γ) G
  together t p h a x = step (λ rest.
      let v : Val = pair (ptr_val p) h in
      let d : Handle.Denot = record { at = p; alloc = a; value = x } in
      nothing t $ move t (2 ∷ 0 ∷ []) $ fjoin t $ feq_i t (List Val) (ptr_val p ∷ []) (ptr_val p ∷ []) refl $ fjoin t $
      feq_i t (List Val) (v ∷ []) (v ∷ []) refl $ fjoin t $
      fpack t (Valss (fields handle.the_type)) (within (shape handle.the_type) (to handle.the_type d) (v ∷ []))
      (ptr_val p ∷ [], (h ∷ [], tt)) $
      fjoin t $ rest)
