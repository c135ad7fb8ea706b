-- The contents of a pointer that is null or a box's, owned or lent.
use Rattle.std.specs.Box.Ownership.{box_owns}
use Rattle.std.specs.Prelude.{ℕ, zero, suc, [], ◌∷◌, Option, Some, None, ◌^◌}
use Rattle.std.specs.contracts.impls.GlobalAllocator.TheImpl.{ghosts}
use Rattle.std.specs.declared.alloc.Global.{Global}
use base.Fml.{Lft, Share, Fml, feq, flft, flt, fsep}
use base.Fraction.{full_share}
use base.Share as half
use denote.RattleType.{RattleType}
use denote.RawPtr.{Ptr, count_of, null_ptr}
use denote.Sharing.{beside, said}
use denote.Struct.Lending.{lent_at}

-- a null pointer has no contents, and those of any other are what a box of the value owns
abbrev pub contents : (R : RattleType) → Global → Ptr → Option R.Denot → Fml
contents R alloc at None = feq Ptr at null_ptr
contents R alloc at (Some value) = box_owns (ghosts.dealloc_token alloc) R at value

-- the same contents lent for a lifetime: a `&` to the value, through a pointer that may be compared with null
abbrev pub contents_lent : (R : RattleType) → Ptr → Option R.Denot → Lft → Fml
contents_lent R at None = said (feq Ptr at null_ptr)
contents_lent R at (Some value) = beside (lent_at R at value) (said (flt (count_of at) (2 ^ 63)))

-- part n of a right is the half of what parts 0 to n - 1 leave, so there is one for each of any number of loans
pub part_of : Share → ℕ → Share
part_of right zero = half.right right
part_of right (suc n) = part_of (half.left right) n

-- a loan: the contents lent for a lifetime, with a part of the right to end that lifetime
abbrev pub loan : (R : RattleType) → Ptr → Option R.Denot → ℕ → ℕ → Fml
loan R at None life part = feq Ptr at null_ptr
loan R at (Some value) life part =
    fsep (fsep (flft (life ∷ []) (part_of full_share part)) (lent_at R at value (life ∷ [])))
    (flt (count_of at) (2 ^ 63))
