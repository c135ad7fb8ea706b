-- A `&` to a struct that keeps a loan. Assumes `Logic`.
--     lent_laws     what is lent may be copied, and used at a shorter lifetime
--     Lends-loan    it is had from a borrow of a loan
use Rattle.std.proofs.Common.{ℕ, ◌^◌, [], ◌∷◌}
use base.Fraction.{full_share}
use base.Fml.{Lft, Fml, feq, flft, flt, fsep}
use denote.RattleType.{RattleType, RowLaws}
use denote.RawPtr.{Ptr, count_of, null_ptr}
use denote.Sharing.{ShrLaws, said}
use denote.SharingLaws.{said_shr_laws, beside_shr_laws}
use denote.Struct.Lending.{lent_at, lent_at_shr_laws, Lends, Lends-said, Lends-both}
use seplogic.Ra.Ura.{Ura}
use types.Logic.{Logic}
use Rattle.lru.proofs.Sharing as lru
use Rattle.raw_box.specs.Contents.{contents_lent, loan, part_of}
use Rattle.std.specs.Prelude.{Option, Some, None}

abbrev is_testable : Ptr → Fml
is_testable p = flt (count_of p) (2 ^ 63)

pub lent_laws : (R : RattleType) → RowLaws R → (p : Ptr) (x : Option R.Denot) → ShrLaws (contents_lent R p x)
lent_laws R laws p None = said_shr_laws (feq Ptr p null_ptr) tt
lent_laws R laws p (Some y) =
    beside_shr_laws (lent_at R p y) (said (is_testable p)) (lent_at_shr_laws R laws p y) (said_shr_laws (is_testable p) tt)

pub Lends-loan : {M : Type 1} {𝓤 : Ura M} (𝓛 : Logic 𝓤) (R : RattleType) → RowLaws R → (l : Lft) (p : Ptr) (x : Option R.Denot) (life part : ℕ)
    → Lends 𝓛 (loan R p x life part) (contents_lent R p x) l
Lends-loan 𝓛 R laws l p None life part = Lends-said 𝓛 (feq Ptr p null_ptr) tt l
Lends-loan 𝓛 R laws l p (Some y) life part =
    Lends-both 𝓛 (fsep (flft (life ∷ []) (part_of full_share part)) (lent_at R p y (life ∷ []))) (is_testable p) (lent_at R p y) (said (is_testable p)) l
    (lru.Lends-loan 𝓛 (lent_at R p y) (lent_at_shr_laws R laws p y) life (part_of full_share part) l) (Lends-said 𝓛 (is_testable p) tt l)
