-- A loan by value, and what it lends. Assumes `Logic`.
--     word       the machine value of a struct of one pointer
--     by_null    what is lent: null and nothing, or a value in a block
use Rattle.std.proofs.Common.{◌≡◌, ℕ, List, ◌∷◌, [], refl, subst}
use base.Fml.{Lft}
use base.Logic.{never, fst∗}
use denote.Memory.{shared_of}
use denote.RattleType.{RattleType}
use denote.RawPtr.{Ptr, block_ptr, null_ptr, ptr_val, in_a_block, Testable}
use denote.Struct.Lending.{lent_at}
use mir.Val.{Val, vstruct, vcons, vnil}
use seplogic.Ra.Ura.{Ura}
use types.Kit.{Item, Goal, Seq, ‵, ◌$◌, move, fsplit, feq_l, flt_l}
use types.Logic.{Logic, sem}
use Rattle.raw_box.specs.Contents.{contents_lent}
use Rattle.std.specs.Prelude.{Option, Some, None}

-- the machine value of a struct of one pointer
abbrev pub word : Ptr → Val
word p = vstruct (vcons (ptr_val p) vnil)

module _ (R : RattleType) {M : Type 1} {𝓤 : Ura M} {𝓛 : Logic 𝓤} {K : Type 0} {Γ : List (Item 𝓤)} {G : Goal 𝓤 𝓛.H} where
  -- null and nothing, or a block whose value is lent
  pub by_null : K → (p : Ptr) (x : Option R.Denot) (κ : Lft)
      → (p ≡ null_ptr → x ≡ None → Seq K 𝓛 Γ G)
      → ((b o : ℕ) (y : R.Denot) → p ≡ block_ptr b o → x ≡ Some y → Testable (block_ptr b o)
      → Seq K 𝓛 (‵ (lent_at R (block_ptr b o) y κ) ∷ Γ) G)
      → Seq K 𝓛 (‵ (contents_lent R p x κ) ∷ Γ) G
  by_null t p None κ at_null in_block = feq_l t (λ place. at_null place refl)
  by_null t p (Some y) κ at_null in_block =
      fsplit t $ move t (1 ∷ []) $ flt_l t (λ testable.
      in_a_block t p (λ r. lent_at R r y κ) (fst∗ 𝓤 (never 𝓤) (sem 𝓛 (shared_of R y 0 0 κ))) (λ b o place.
      in_block b o y place refl (subst Testable place testable)))
