-- The items that are known after a history: one for each switch.
use Rattle.std.proofs.Common.{◌≡◌, ◌≤◌, ⊎_elim, ℕ, ◌+◌, cond, List, [], ◌∷◌, ◌++◌, length, take, map, flat_map, Some, refl, sym, ap, subst, ◌∙◌, arith, append-nil, length-append}
use Rattle.std.specs.Prelude.{◌==◌, count_by, slice_get}
use Rattle.std.proofs.Math.Seq.{take-append_seam}
use Rattle.std.proofs.lemmas.List.{take-append-le}
use Rattle.std.proofs.lemmas.List.Sums.{sum_by_push}
use Rattle.std.proofs.lemmas.Option.{slice_get_within}
use Rattle.vt_explain.proofs.Places.{get_last, get_left}
use Rattle.vt_explain.specs.Finding.{hear_all, is_at, item_of, known_after}
use Rattle.vt_explain.specs.Hops.{TimedHop, at_time, is_in, timed_hops}
use Rattle.vt_explain.specs.declared.hop_why.HopWhy.{HopWhy}
use Rattle.vt_switch.specs.Moments.{Moment, hops, trace}
use Rattle.vt_switch.specs.News.{News, Asking, Going, OneNewsIsTold, news}
use Rattle.vt_switch.specs.declared.hop.Hop.{Hop}
use Rattle.vt_switch.specs.declared.mark.Mark.{Mark}
use Rattle.vt_switch.specs.declared.mark.Mark.TheVariants as mark
use Rattle.vt_world.proofs.Histories.{at_either}

-- the switches among some news
abbrev pub going : News → List Hop
going (Asking ask) = []
going (Going hop) = hop ∷ []

request_hops : (n : ℕ) (told : List Mark) → hops told ≡ flat_map going (news told)
    → hops told ≡ flat_map going (news (mark.Asked n ∷ told))
request_hops n [] same = same
request_hops n (mark.Asked m ∷ told) same = same
request_hops n (mark.Raised p signal ∷ told) same = same
request_hops n (mark.Hopped hop ∷ told) same = same
request_hops n (mark.Ended p ∷ told) same = same

hops_of_news : (told : List Mark) → hops told ≡ flat_map going (news told)
hops_of_news [] = refl
hops_of_news (mark.Asked n ∷ told) = request_hops n told (hops_of_news told)
hops_of_news (mark.Raised p signal ∷ told) = hops_of_news told
hops_of_news (mark.Hopped hop ∷ told) =
    ap (λ (list : List Hop). hop ∷ list) (hops_of_news told)
hops_of_news (mark.Ended p ∷ told) = hops_of_news told

-- the item of a switch after these
abbrev pub item : List TimedHop → TimedHop → HopWhy
item before h =
    item_of h.moment.entry (count_by (is_in h.moment.entry) before) h.hop (known_after h.earlier).last

-- these are the items of these switches
pub record Finds (timed : List TimedHop) (items : List HopWhy) : Type 0 where
  pub many : length items ≡ length timed
  pub counted : (n : ℕ) → count_by (is_at n) items ≡ count_by (is_in n) timed
  pub each :
      (k : ℕ) (h : TimedHop) → slice_get timed k ≡ Some h
      → slice_get items k ≡ Some (item (take k timed) h)

finds_one : (timed : List TimedHop) (items : List HopWhy) (h : TimedHop) → Finds timed items
    → Finds (timed ++ h ∷ []) (items ++ item timed h ∷ [])
finds_one timed items h finds = record {
  many = omega (arith, finds.many, length-append items (item timed h ∷ []), length-append timed (h ∷ []));
  counted = λ n.
      sum_by_push (λ w. cond (is_at n w) 1 0) items (item timed h)
      ∙ ap (λ count. count + cond (h.moment.entry == n) 1 0) (finds.counted n)
      ∙ sym (sum_by_push (λ g. cond (is_in n g) 1 0) timed h);
  each = λ k g is. ⊎_elim
      (λ old.
      get_left items (item timed h ∷ []) k (item (take k timed) g) (finds.each k g old)
      ∙ ap (λ (before : List TimedHop). Some (item before g))
      (sym (take-append-le k timed (h ∷ []) (omega (arith, slice_get_within timed k g old)))))
      (λ new.
      let place : k ≡ length items = omega (arith, new.0, finds.many) in
      ap (λ n. slice_get (items ++ item timed h ∷ []) n) place
      ∙ get_last items (item timed h)
      ∙ ap (λ (before : List TimedHop). Some (item before h)) (sym (take-append_seam timed (h ∷ [])))
      ∙ (λ i. Some (item (take (sym new.0 i) (timed ++ h ∷ [])) (new.1 i))))
      (at_either timed h k g is);
}

finds_told : (m : Moment) (earlier : List Moment) (told : List News) → length told ≤ 1
    → Finds (timed_hops earlier) (known_after earlier).items
    → Finds (timed_hops earlier ++ map (at_time earlier m) (flat_map going told))
    (hear_all m.entry told (known_after earlier)).items
finds_told m earlier [] few finds =
    subst (λ (timed : List TimedHop). Finds timed (known_after earlier).items)
    (sym (append-nil (timed_hops earlier))) finds
finds_told m earlier (Asking ask ∷ []) few finds =
    subst (λ (timed : List TimedHop). Finds timed (known_after earlier).items)
    (sym (append-nil (timed_hops earlier))) finds
finds_told m earlier (Going hop ∷ []) few finds =
    let timed : List TimedHop = timed_hops earlier in
    let h : TimedHop = at_time earlier m hop in
    subst
    (λ n.
    Finds (timed ++ h ∷ [])
    ((known_after earlier).items ++ item_of m.entry n hop (known_after earlier).last ∷ []))
    (sym (finds.counted m.entry)) (finds_one timed (known_after earlier).items h finds)
finds_told m earlier (one ∷ (other ∷ told)) few finds =
    absurd (let no : ⊥ = omega (arith, few) in no)

-- after every history the items of its switches are known
pub finds_all : OneNewsIsTold → (h : List Moment) → Finds (timed_hops h) (known_after h).items
finds_all law [] = record {
  many = refl;
  counted = λ n. refl;
  each = λ k h is. absurd (nothing k h is);
}
  where
    nothing : (k : ℕ) (h : TimedHop) → slice_get {X = TimedHop} [] k ≡ Some h → ⊥
    nothing k h is = cc
finds_all law (m ∷ earlier) =
    subst
    (λ (list : List Hop).
    Finds (timed_hops earlier ++ map (at_time earlier m) list) (known_after (m ∷ earlier)).items)
    (sym (hops_of_news (trace m)))
    (finds_told m earlier (news (trace m)) (law m.before m.act) (finds_all law earlier))
