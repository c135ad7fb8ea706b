-- A pointer that is null or a box's, in its two cases. Assumes `Logic`.
use Rattle.std.proofs.Common.{◌≡◌, ℕ, List, ◌∷◌, refl}
use base.Fml.{Fml}
use base.Fraction.{full_share}
use base.Logic.{ent, guard, guard_i, via, never, fst∗, snd∗}
use contract.Monad.{fact_use}
use denote.Memory.{lone}
use denote.RattleType.{RattleType}
use denote.RawPtr.{Ptr, block_ptr, null_ptr, lies_at, in_a_block, Testable}
use mir.Raw.{raw as bare}
use seplogic.Ra.Ura.{Ura}
use types.Kit.{Item, Goal, Seq, ‵, given, ◌$◌, feq_l, learn, use1}
use types.Logic.{Logic, sem}
use Rattle.raw_box.specs.Contents.{contents}
use Rattle.std.proofs.GlobalToken.{dealloc_token-Testable}
use Rattle.std.specs.Prelude.{Option, Some, None}
use Rattle.std.specs.contracts.impls.GlobalAllocator.TheImpl.{ghosts}
use Rattle.std.specs.declared.alloc.Global.{Global}

module _ (R : RattleType) where
  -- what a box of the value owns
  abbrev pub box_contents : Global → R.Denot → Ptr → Fml
  box_contents alloc x p = contents R alloc p (Some x)

  -- who may free a block may test the pointer to it
  pub tested : {M : Type 1} {𝓤 : Ura M} (𝓛 : Logic 𝓤) (alloc : Global) (p : Ptr) (x : R.Denot)
      → ent 𝓤 (sem 𝓛 (box_contents alloc x p)) (guard 𝓤 (Testable p) (sem 𝓛 (box_contents alloc x p)))
  tested {𝓤 = 𝓤} 𝓛 alloc p x =
      let free_right : Fml = ghosts.dealloc_token alloc (bare (lone R.mir)) p in
      fact_use 𝓤 (Testable p)
      (via 𝓤 (sem 𝓛 free_right) (snd∗ 𝓤 (sem 𝓛 (lies_at R full_share p x)) (sem 𝓛 free_right))
      (dealloc_token-Testable 𝓛 alloc (bare (lone R.mir)) p))
      (guard_i 𝓤 (Testable p) (sem 𝓛 (box_contents alloc x p)))

  module _ {M : Type 1} {𝓤 : Ura M} {𝓛 : Logic 𝓤} {K : Type 0} {Γ : List (Item 𝓤)} {G : Goal 𝓤 𝓛.H} where
    -- null and nothing, or a block that holds a value
    pub by_null : K → (alloc : Global) (p : Ptr) (x : Option R.Denot)
        → (p ≡ null_ptr → x ≡ None → Seq K 𝓛 Γ G)
        → ((b o : ℕ) (y : R.Denot) → p ≡ block_ptr b o → x ≡ Some y → Testable (block_ptr b o)
        → Seq K 𝓛 (‵ (box_contents alloc y (block_ptr b o)) ∷ Γ) G)
        → Seq K 𝓛 (‵ (contents R alloc p x) ∷ Γ) G
    by_null t alloc p None at_null in_block = feq_l t (λ place. at_null place refl)
    by_null t alloc p (Some y) at_null in_block =
        in_a_block t p (box_contents alloc y)
        (fst∗ 𝓤 (never 𝓤) (sem 𝓛 (ghosts.dealloc_token alloc (bare (lone R.mir)) null_ptr))) (λ b o place.
        use1 𝓛 (given (Testable (block_ptr b o)) (‵ (box_contents alloc y (block_ptr b o)))) (tested 𝓛 alloc (block_ptr b o) y) $
        learn t (λ testable. in_block b o y place refl testable))
