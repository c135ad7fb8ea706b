-- The facts of the index about the names, by their places and ranks.
use Rattle.std.proofs.Common.{◌≡◌, ℕ, ◌+◌, ◌-◌, ◌<◌, ◌≤◌, List, [], length, get_or, take, drop, map, refl, sym, ap, ◌∙◌, subst, inl, inr, ltb, arith}
use Rattle.std.proofs.lemmas.Bool.{cases_order, ltb-true}
use Rattle.std.proofs.lemmas.Cmp.{nat_list_cmp_total, tied_itself}
use Rattle.std.proofs.lemmas.List.{get_or-map}
use Rattle.std.proofs.lemmas.List.Sums.{AllPass-from_list_all}
use Rattle.std.specs.Cmp.Lexicographic.{slice_cmp}
use Rattle.std.specs.Ordering.{nat_cmp}
use Rattle.std.specs.declared.cmp.Ordering.TheVariants.{Less, Equal}
use Rattle.std.specs.List.{slice_index}
use Rattle.key_syms.specs.Index.{name_at, place_of_rank}
use Rattle.key_syms.specs.declared.index.TheConstants.{LENGTHS, ORDER, STARTS}
use Rattle.key_syms.specs.declared.table.TheConstants.{NAMES, NAMES_SIZE, NAME_COUNT}
use Rattle.key_syms.proofs.Computed.{length-names, names, names_lie, names_rise, ranks_all, ranks_within}
use Rattle.key_syms.proofs.Ranks.{IsBefore, LiesAt, counts_among_rank, lie_at_each, rises_each}

length-ORDER : length ORDER ≡ NAME_COUNT
length-ORDER = refl

pub order_is_within : (rank : ℕ) → rank < NAME_COUNT → slice_index ORDER rank < NAME_COUNT
order_is_within rank h =
    ltb-true _ _ (AllPass-from_list_all (λ p. ltb p NAME_COUNT) ORDER ranks_within rank 0 (subst (λ (n : ℕ). rank < n) (sym length-ORDER) h))

name_lies : (place : ℕ) → place < NAME_COUNT → LiesAt NAMES (get_or names place []) (slice_index STARTS place) (slice_index LENGTHS place)
name_lies place h = lie_at_each names STARTS LENGTHS 0 NAMES names_lie place (subst (λ (n : ℕ). place < n) (sym length-names) h)

pub name_is_within : (place : ℕ) → place < NAME_COUNT → slice_index STARTS place + slice_index LENGTHS place ≤ NAMES_SIZE
name_is_within place h = (name_lies place h).within

part : (start len : ℕ) (text : List ℕ) → take (start + len - start) (drop start text) ≡ take len (drop start text)
part start len text = ap (λ n. take n (drop start text)) (omega arith)

pub name_at-names : (place : ℕ) → place < NAME_COUNT → name_at place ≡ get_or names place []
unfolding name_at
name_at-names place h = part (slice_index STARTS place) (slice_index LENGTHS place) NAMES ∙ (name_lies place h).spells

pub ranks_in_order : (r s : ℕ) → r < s → s < NAME_COUNT → IsBefore (name_at (place_of_rank r)) (name_at (place_of_rank s))
unfolding place_of_rank
ranks_in_order r s h k =
    let at : (i : ℕ) → i < NAME_COUNT → get_or (map (λ p. get_or names p []) ORDER) i [] ≡ name_at (slice_index ORDER i) =
    λ i q. get_or-map (λ p. get_or names p []) ORDER i 0 [] (subst (λ (n : ℕ). i < n) (sym length-ORDER) q) ∙ sym (name_at-names _ (order_is_within i q)) in
    let long : s < length (map (λ p. get_or names p []) ORDER) = k in
    subst (λ (y : List ℕ). IsBefore (name_at (slice_index ORDER r)) y) (at s k)
    (subst (λ (x : List ℕ). IsBefore x (get_or (map (λ p. get_or names p []) ORDER) s [])) (at r (omega arith))
    (rises_each (map (λ p. get_or names p []) ORDER) names_rise r s h long))

pub rank_of : (place : ℕ) → place < NAME_COUNT → (r : ℕ) × (r < NAME_COUNT) × (place_of_rank r ≡ place)
unfolding place_of_rank
rank_of place h = counts_among_rank NAME_COUNT 0 ORDER ranks_all place (omega arith) h

before_itself : (x y : List ℕ) → x ≡ y → IsBefore x y → Less ≡ Equal
before_itself x y e h = sym h ∙ ap (λ z. slice_cmp nat_cmp z y) e ∙ tied_itself nat_list_cmp_total y

pub apart_from : (x y : List ℕ) → x ≡ y → IsBefore x y → ⊥
apart_from x y e h = let q : Less ≡ Equal = before_itself x y e h in cc

same_rank : (r s : ℕ) → r < NAME_COUNT → s < NAME_COUNT → name_at (place_of_rank r) ≡ name_at (place_of_rank s) → r ≡ s
same_rank r s h k e = elim (cases_order r s) [
  | inl eq ↦ eq
  | inr (inl lt) ↦ absurd (apart_from _ _ e (ranks_in_order r s lt k))
  | inr (inr gt) ↦ absurd (apart_from _ _ (sym e) (ranks_in_order s r gt h))
]

pub names_apart : (p q : ℕ) → p < NAME_COUNT → q < NAME_COUNT → name_at p ≡ name_at q → p ≡ q
names_apart p q h k e =
    let rp = rank_of p h in
    let rq = rank_of q k in
    let same = same_rank rp.0 rq.0 rp.1 rq.1 (ap name_at rp.2 ∙ e ∙ ap name_at (sym rq.2)) in
    sym rp.2 ∙ ap place_of_rank same ∙ rq.2
