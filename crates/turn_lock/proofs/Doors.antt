-- Each step on the counts of the door keeps its rule.
use Rattle.std.proofs.Common.{◌≡◌, ◌≢◌, ◌==◌, ℕ, ◌+◌, ◌%◌, ◌^◌, ◌<◌, ◌≤◌, true, false, cond, List, [], ◌∷◌, ◌++◌, length}
use Rattle.std.proofs.Common.{get_or, set, sym, refl, ap, ◌∙◌, subst, arith, length-set, get_or-set_same, get_or-set_other}
use Rattle.std.proofs.lemmas.List.Sums.{sum_by-set, sum_by_push}
use Rattle.std.proofs.lemmas.List.{set-get_or}
use mathlib.Core.Logic.{dite}
use native.Mathlib.Decide.{ℕ_discrete, dec_le}
use mathlib.Core.Option.{some}
use lib.ListN.{get_elem?}
use prog.Atomic.{either}
use Rattle.atomic_table.specs.Table.{Me, Allows, Enters, keeps}
use Rattle.atomic_table.proofs.Lists.{at_longer, exchanged, set_here, set_else}
use Rattle.turn_lock.specs.declared.at_door.AtDoor.{AtDoor}
use Rattle.turn_lock.specs.declared.at_door.AtDoor.TheVariants as at_door
use Rattle.turn_lock.specs.Door.{HoldsNumber, Knows, IsInOrder, DoorHolds, DoorRule, number_at, has_drawn, came_of}
use Rattle.turn_lock.specs.Door.{Arrives, DrawsNumber, LooksForCall, ComesIn, ReadsEntered, ReadsCame, CallsIn}
use Rattle.turn_lock.proofs.Lists.{put, put_here, put_else, in_range, element, same_at, each_set, each_end, each_one}
use Rattle.turn_lock.proofs.Seats.{some_step}

module _ (callers : List AtDoor) (id : ℕ) (v w : AtDoor) (at : get_elem? callers id ≡ some v) where
  -- some caller at j has the number n, also after caller id changed
  has_after : (n : ℕ) → (HoldsNumber n v → HoldsNumber n w) → (j : ℕ)
      → (u : AtDoor) × (get_elem? callers j ≡ some u) × HoldsNumber n u
      → (u : AtDoor) × (get_elem? (set callers id w) j ≡ some u) × HoldsNumber n u
  has_after n goes j h = dite (ℕ_discrete j id)
      (λ e. (
        w,
        subst (λ (k : ℕ). get_elem? (set callers id w) k ≡ some w) (sym e)
            (set_here callers id w (in_range callers id v at)),
        goes (subst (HoldsNumber n)
            (sym (same_at callers id v h.0 at (subst (λ (k : ℕ). get_elem? callers k ≡ some h.0) e h.1)))
            h.2),
      ))
      (λ ne. (h.0, set_else callers id j w ne ∙ h.1, h.2))

  module _ (came called entered : ℕ) (c : IsInOrder came called entered callers) where
    -- the caller learns more, and the counts stay
    learns : Knows came called entered c.holder id w → ((n : ℕ) → HoldsNumber n v → HoldsNumber n w)
        → IsInOrder came called entered (set callers id w)
    learns own goes = record {
      was_called = c.was_called;
      one = c.one;
      has_come = c.has_come;
      holder = c.holder;
      each = each_set (Knows came called entered c.holder) callers id w own (λ j u ne is. c.each j u is);
      each_number = λ n low high. has_after n (goes n) (c.holder n) (c.each_number n low high);
    }

    -- the caller draws the next number
    draws : ((n : ℕ) → HoldsNumber n v → ⊥) → w ≡ at_door.Waits came
        → IsInOrder (came + 1) called entered (set callers id w)
    draws free is =
        let a = c.was_called in let b = c.has_come in let holder : ℕ → ℕ = put c.holder came id in record {
          was_called = a;
          one = c.one;
          has_come = omega (arith, b);
          holder = holder;
          each = each_set (Knows (came + 1) called entered holder) callers id w
              (subst (Knows (came + 1) called entered holder id) (sym is)
              (omega (arith, a, b), omega arith, put_here c.holder came id))
              (λ j u ne at_j. other j u (c.each j u at_j));
          each_number = λ n low high. dite (ℕ_discrete n came)
              (λ e. (
                w,
                subst (λ (k : ℕ). get_elem? (set callers id w) k ≡ some w)
                    (sym (ap holder e ∙ put_here c.holder came id))
                    (set_here callers id w (in_range callers id v at)),
                subst (HoldsNumber n) (sym is) (sym e),
              ))
              (λ ne. subst (λ (k : ℕ).
              (u : AtDoor) × (get_elem? (set callers id w) k ≡ some u) × HoldsNumber n u)
              (sym (put_else c.holder came id n ne))
              (has_after n (λ h. absurd (free n h)) (c.holder n)
              (c.each_number n low (omega (arith, high, ne)))));
        }
      where
        other : (j : ℕ) (u : AtDoor) → Knows came called entered c.holder j u
            → Knows (came + 1) called entered (put c.holder came id) j u
        other j at_door.Away s = tt
        other j at_door.Entered s = tt
        other j (at_door.Waits n) s = let l = s.1 in
            (s.0, omega (arith, l), put_else c.holder came id n (λ e. omega (arith, e, l)) ∙ s.2)
        other j (at_door.Called n) s = let l = s.1 in let b = c.has_come in
            (s.0, s.1, put_else c.holder came id n (λ e. omega (arith, e, l, b)) ∙ s.2)
        other j (at_door.ReadsEntered n) s = s
        other j (at_door.MayCall n) s = let l = s.1 in (s.0, omega (arith, l))

    -- the caller was called in, and comes in
    comes_in : (m : ℕ) → v ≡ at_door.Called m → w ≡ at_door.Entered
        → IsInOrder came called (entered + 1) (set callers id w)
    comes_in m was is =
        let own : Knows came called entered c.holder id (at_door.Called m) =
        subst (Knows came called entered c.holder id) was (c.each id v at) in
        let low = own.0 in let high = own.1 in let one = c.one in
        record {
          was_called = omega (arith, low, high);
          one = omega (arith, one);
          has_come = c.has_come;
          holder = c.holder;
          each = each_set (Knows came called (entered + 1) c.holder) callers id w
              (subst (Knows came called (entered + 1) c.holder id) (sym is) tt)
              (λ j u ne at_j. other own j u ne (c.each j u at_j));
          each_number = λ n least most.
              has_after n
              (λ h. absurd (let e : m ≡ n = subst (HoldsNumber n) was h in omega (arith, e, least, low, high, one)))
              (c.holder n) (c.each_number n (omega (arith, least)) most);
        }
      where
        next : (own : Knows came called entered c.holder id (at_door.Called m)) (j n : ℕ) → j ≢ id
            → entered ≤ n → c.holder n ≡ j → entered + 1 ≤ n
        next own j n ne least of =
            let low = own.0 in let high = own.1 in let one = c.one in
            let other : n ≢ m = λ e. ne (sym of ∙ (ap c.holder e ∙ own.2)) in
            omega (arith, least, low, high, one, other)

        other : (own : Knows came called entered c.holder id (at_door.Called m)) (j : ℕ) (u : AtDoor)
            → j ≢ id → Knows came called entered c.holder j u → Knows came called (entered + 1) c.holder j u
        other own j at_door.Away ne s = tt
        other own j at_door.Entered ne s = tt
        other own j (at_door.Waits n) ne s = (next own j n ne s.0 s.2, s.1, s.2)
        other own j (at_door.Called n) ne s = (next own j n ne s.0 s.2, s.1, s.2)
        other own j (at_door.ReadsEntered n) ne s = omega (arith, s)
        other own j (at_door.MayCall n) ne s = let l = s.0 in (omega (arith, l), s.1)

    -- the caller calls in the next one
    calls_in : v ≡ at_door.MayCall called → w ≡ at_door.Away
        → IsInOrder came (called + 1) entered (set callers id w)
    calls_in was is =
        let own : Knows came called entered c.holder id (at_door.MayCall called) =
        subst (Knows came called entered c.holder id) was (c.each id v at) in
        let low = own.0 in let high = own.1 in let a = c.was_called in record {
          was_called = omega (arith, a);
          one = omega (arith, low);
          has_come = omega (arith, high);
          holder = c.holder;
          each = each_set (Knows came (called + 1) entered c.holder) callers id w
              (subst (Knows came (called + 1) entered c.holder id) (sym is) tt)
              (λ j u ne at_j. other j u (c.each j u at_j));
          each_number = λ n least most.
              has_after n (λ h. absurd (subst (HoldsNumber n) was h)) (c.holder n) (c.each_number n least most);
        }
      where
        other : (j : ℕ) (u : AtDoor) → Knows came called entered c.holder j u
            → Knows came (called + 1) entered c.holder j u
        other j at_door.Away s = tt
        other j at_door.Entered s = tt
        other j (at_door.Waits n) s = s
        other j (at_door.Called n) s = let l = s.1 in (s.0, omega (arith, l), s.2)
        other j (at_door.ReadsEntered n) s = s
        other j (at_door.MayCall n) s = s

-- a new caller without a number
comes : (callers : List AtDoor) (w : AtDoor) (came called entered : ℕ)
    → (c : IsInOrder came called entered callers) → ((j : ℕ) → Knows came called entered c.holder j w)
    → IsInOrder came called entered (callers ++ w ∷ [])
comes callers w came called entered c own = record {
  was_called = c.was_called;
  one = c.one;
  has_come = c.has_come;
  holder = c.holder;
  each = each_end (Knows came called entered c.holder) callers w (own (length callers)) c.each;
  each_number = λ n low high. let h = c.each_number n low high in
      (h.0, at_longer callers (w ∷ []) (c.holder n) h.0 h.1, h.2);
}

-- the words stay at a load
loaded : (words : List ℕ) (i : ℕ) (callers : List AtDoor) → DoorHolds words callers
    → DoorHolds (set words i (get_or words i 0)) callers
loaded words i callers = subst (λ (ws : List ℕ). DoorHolds ws callers) (sym (set-get_or words i 0))

module _ (callers : List AtDoor) (id : ℕ) (v w : AtDoor) (at : get_elem? callers id ≡ some v) where
  counted : came_of (set callers id w) + cond (has_drawn v) 1 0 ≡ came_of callers + cond (has_drawn w) 1 0
  counted = subst (λ (u : AtDoor).
      came_of (set callers id w) + cond (has_drawn u) 1 0 ≡ came_of callers + cond (has_drawn w) 1 0)
      (element callers id v at)
      (sum_by-set (λ c. cond (has_drawn c) 1 0) callers id w v (in_range callers id v at))

  -- as many callers drew a number as before
  as_many : has_drawn v ≡ has_drawn w → came_of (set callers id w) ≡ came_of callers
  as_many same = let h = counted in let e = ap {B = ℕ} (λ b. cond b 1 0) same in omega (arith, h, e)

  -- one more caller drew a number
  one_more : has_drawn v ≡ false → has_drawn w ≡ true → came_of (set callers id w) ≡ came_of callers + 1
  one_more old new =
      let h = counted in let e = ap {B = ℕ} (λ b. cond b 1 0) old in let f = ap {B = ℕ} (λ b. cond b 1 0) new in
      omega (arith, h, e, f)

-- a new caller drew no number
as_many_with : (callers : List AtDoor) (w : AtDoor) → has_drawn w ≡ false
    → came_of (callers ++ w ∷ []) ≡ came_of callers
as_many_with callers w none =
    let h = sum_by_push (λ c. cond (has_drawn c) 1 0) callers w in let e = ap {B = ℕ} (λ b. cond b 1 0) none in
    omega (arith, h, e)

-- the rule, by the number of the callers that came
by_count : (words : List ℕ) (callers : List AtDoor) (came : ℕ) → came_of callers ≡ came → length words ≡ 3
    → get_or words 0 0 ≡ came % 2 ^ 64
    → (came < 2 ^ 64 → IsInOrder came (get_or words 1 0) (get_or words 2 0) callers) → DoorHolds words callers
by_count words callers came is wide word order =
    subst (λ (n : ℕ). (length words ≡ 3) × (get_or words 0 0 ≡ n % 2 ^ 64)
    × (n < 2 ^ 64 → IsInOrder n (get_or words 1 0) (get_or words 2 0) callers)) (sym is) (wide, word, order)

pub opens : DoorHolds (0 ∷ 0 ∷ 0 ∷ []) (at_door.Away ∷ [])
opens = by_count (0 ∷ 0 ∷ 0 ∷ []) (at_door.Away ∷ []) 0 refl refl refl
    (λ few. record {
      was_called = omega arith;
      one = omega arith;
      has_come = omega arith;
      holder = λ n. 0;
      each = each_one (Knows 0 0 0 (λ n. 0)) at_door.Away tt;
      each_number = λ n low high. absurd (omega (arith, high));
    })

module _ {S : Type 0} where
  pub arrives_ok : (slots word : ℕ) (me : Me S AtDoor) → me.1 ≡ []
      → Enters (DoorRule {S = S}) slots word (λ n w. Arrives some_step me n (w, []))
  arrives_ok slots word me none s rule deep small = (
    at_door.Away,
    by_count s.words (s.views ++ at_door.Away ∷ []) (came_of s.views) (as_many_with s.views at_door.Away refl)
        rule.0 rule.1
        (λ few.
        comes s.views at_door.Away (came_of s.views) (get_or s.words 1 0) (get_or s.words 2 0) (rule.2 few) (λ j. tt)),
    ap (λ l. (at_door.Away, l)) (sym none),
  )

  pub reads_entered_ok : (slots : ℕ) (me : Me S AtDoor) → me.1 ≡ []
      → Enters (DoorRule {S = S}) slots 2 (λ n w. ReadsEntered some_step me n (w, []))
  reads_entered_ok slots me none s rule deep small =
      let n : ℕ = get_or s.words 2 0 in let w : AtDoor = at_door.ReadsEntered n in (
        w,
        by_count s.words (s.views ++ w ∷ []) (came_of s.views) (as_many_with s.views w refl) rule.0 rule.1
            (λ few. comes s.views w (came_of s.views) (get_or s.words 1 0) n (rule.2 few) (λ j. omega arith)),
        ap (λ l. (w, l)) (sym none),
      )

  pub draws_ok : (slots id : ℕ) (me : Me S AtDoor) → me.0 ≡ at_door.Away
      → Allows (DoorRule {S = S}) slots id me 0 (λ n. (n + 1) % 2 ^ 64) (DrawsNumber some_step me)
  draws_ok slots id me away s rule deep at small =
      let wide : length s.words ≡ 3 = rule.0 in let came : ℕ = came_of s.views in
      let word : ℕ = get_or s.words 0 0 in let is : word ≡ came % 2 ^ 64 = rule.1 in
      let more : ℕ = (word + 1) % 2 ^ 64 in
      let words' : List ℕ = set s.words 0 more in
      let w : AtDoor = at_door.Waits word in (
        w,
        keeps,
        tt,
        by_count words' (set s.views id w) (came + 1) (one_more s.views id me.0 w at (ap has_drawn away) refl)
            (length-set s.words 0 more ∙ wide)
            (get_or-set_same s.words 0 more 0 (omega (arith, wide)) ∙ omega (arith, is))
            (λ few.
            subst (λ (k : ℕ). IsInOrder (came + 1) k (get_or words' 2 0) (set s.views id w))
            (sym (get_or-set_other s.words 0 1 more 0 (λ e. omega (arith, e))))
            (subst (λ (k : ℕ). IsInOrder (came + 1) (get_or s.words 1 0) k (set s.views id w))
            (sym (get_or-set_other s.words 0 2 more 0 (λ e. omega (arith, e))))
            (draws s.views id me.0 w at came (get_or s.words 1 0) (get_or s.words 2 0)
            (rule.2 (omega (arith, few)))
            (λ n h. subst (HoldsNumber n) away h)
            (ap at_door.Waits (omega (arith, is, few)))))),
        refl,
      )

  pub looks_ok : (slots id : ℕ) (me : Me S AtDoor) (m : ℕ) → me.0 ≡ at_door.Waits m
      → Allows (DoorRule {S = S}) slots id me 1 (λ n. n) (LooksForCall some_step me)
  looks_ok slots id me m waits s rule deep at small =
      let came : ℕ = came_of s.views in let called : ℕ = get_or s.words 1 0 in let entered : ℕ = get_or s.words 2 0 in
      let number : number_at me.0 ≡ m = ap number_at waits in
      dite (dec_le (m + 1) called)
      (λ high. (
        at_door.Called m,
        keeps,
        tt,
        loaded s.words 1 (set s.views id (at_door.Called m))
            (by_count s.words (set s.views id (at_door.Called m)) came
            (as_many s.views id me.0 (at_door.Called m) at (ap has_drawn waits)) rule.0 rule.1
            (λ few.
            let c = rule.2 few in
            let own : Knows came called entered c.holder id (at_door.Waits m) =
            subst (Knows came called entered c.holder id) waits (c.each id me.0 at) in
            learns s.views id me.0 (at_door.Called m) at came called entered c
            (own.0, omega (arith, high), own.2) (λ n h. subst (HoldsNumber n) waits h))),
        (
          (λ less. ap (λ k. (at_door.Called k, me.1)) (sym number)),
          (λ least. absurd (omega (arith, least, number, high))),
        ),
      ))
      (λ low. (
        me.0,
        keeps,
        tt,
        loaded s.words 1 (set s.views id me.0)
            (by_count s.words (set s.views id me.0) came
            (as_many s.views id me.0 me.0 at refl) rule.0 rule.1
            (λ few.
            let c = rule.2 few in
            learns s.views id me.0 me.0 at came called entered c (c.each id me.0 at) (λ n h. h))),
        ((λ less. absurd (low (omega (arith, less, number)))), (λ least. refl)),
      ))

  pub comes_in_ok : (slots id : ℕ) (me : Me S AtDoor) (m : ℕ) → me.0 ≡ at_door.Called m
      → Allows (DoorRule {S = S}) slots id me 2 (λ n. (n + 1) % 2 ^ 64) (ComesIn some_step me)
  comes_in_ok slots id me m was s rule deep at small =
      let wide : length s.words ≡ 3 = rule.0 in let came : ℕ = came_of s.views in
      let called : ℕ = get_or s.words 1 0 in let entered : ℕ = get_or s.words 2 0 in
      let more : ℕ = (entered + 1) % 2 ^ 64 in
      let words' : List ℕ = set s.words 2 more in
      let callers : List AtDoor = set s.views id at_door.Entered in (
        at_door.Entered,
        keeps,
        tt,
        by_count words' callers came (as_many s.views id me.0 at_door.Entered at (ap has_drawn was))
            (length-set s.words 2 more ∙ wide)
            (get_or-set_other s.words 2 0 more 0 (λ e. omega (arith, e)) ∙ rule.1)
            (λ few.
            let c = rule.2 few in
            let own : Knows came called entered c.holder id (at_door.Called m) =
            subst (Knows came called entered c.holder id) was (c.each id me.0 at) in
            let low = own.0 in let high = own.1 in let come = c.has_come in
            let next : more ≡ entered + 1 = omega (arith, low, high, come, few) in
            subst (λ (k : ℕ). IsInOrder came k (get_or words' 2 0) callers)
            (sym (get_or-set_other s.words 2 1 more 0 (λ e. omega (arith, e))))
            (subst (λ (k : ℕ). IsInOrder came called k callers)
            (sym (get_or-set_same s.words 2 more 0 (omega (arith, wide)) ∙ next))
            (comes_in s.views id me.0 at_door.Entered at came called entered c m was refl))),
        refl,
      )

  pub reads_came_ok : (slots id : ℕ) (me : Me S AtDoor) (m : ℕ) → me.0 ≡ at_door.ReadsEntered m
      → Allows (DoorRule {S = S}) slots id me 0 (λ n. n) (ReadsCame some_step me)
  reads_came_ok slots id me m read s rule deep at small =
      let word : ℕ = get_or s.words 0 0 in let came : ℕ = came_of s.views in let is : word ≡ came % 2 ^ 64 = rule.1 in
      let called : ℕ = get_or s.words 1 0 in let entered : ℕ = get_or s.words 2 0 in
      let number : number_at me.0 ≡ m = ap number_at read in
      dite (ℕ_discrete word m)
      (λ same. (
        me.0,
        keeps,
        tt,
        loaded s.words 0 (set s.views id me.0)
            (by_count s.words (set s.views id me.0) came
            (as_many s.views id me.0 me.0 at refl) rule.0 rule.1
            (λ few.
            let c = rule.2 few in
            learns s.views id me.0 me.0 at came called entered c (c.each id me.0 at) (λ n h. h))),
        ((λ other. absurd (other (same ∙ sym number))), (λ e. refl)),
      ))
      (λ other. (
        at_door.MayCall m,
        keeps,
        tt,
        loaded s.words 0 (set s.views id (at_door.MayCall m))
            (by_count s.words (set s.views id (at_door.MayCall m)) came
            (as_many s.views id me.0 (at_door.MayCall m) at (ap has_drawn read)) rule.0 rule.1
            (λ few.
            let c = rule.2 few in
            let own : Knows came called entered c.holder id (at_door.ReadsEntered m) =
            subst (Knows came called entered c.holder id) read (c.each id me.0 at) in
            let called_in = c.was_called in let come = c.has_come in
            learns s.views id me.0 (at_door.MayCall m) at came called entered c
            (own, omega (arith, own, called_in, come, other, is, few))
            (λ n h. absurd (subst (HoldsNumber n) read h)))),
        ((λ e. ap (λ k. (at_door.MayCall k, me.1)) (sym number)), (λ e. absurd (other (e ∙ number)))),
      ))

  pub calls_ok : (slots id : ℕ) (me : Me S AtDoor) (old new : ℕ) → me.0 ≡ at_door.MayCall old
      → new ≡ (old + 1) % 2 ^ 64
      → Allows (DoorRule {S = S}) slots id me 1 (λ n. either (n == old) new n) (CallsIn some_step me)
  calls_ok slots id me old new may next s rule deep at small =
      let wide : length s.words ≡ 3 = rule.0 in let came : ℕ = came_of s.views in
      let called : ℕ = get_or s.words 1 0 in let entered : ℕ = get_or s.words 2 0 in
      let words' : List ℕ = set s.words 1 new in
      let callers : List AtDoor = set s.views id at_door.Away in (
        at_door.Away,
        keeps,
        tt,
        exchanged called old new (λ n. DoorHolds (set s.words 1 n) callers)
            (λ same. by_count (set s.words 1 new) callers came
            (as_many s.views id me.0 at_door.Away at (ap has_drawn may))
            (length-set s.words 1 new ∙ wide)
            (get_or-set_other s.words 1 0 new 0 (λ e. omega (arith, e)) ∙ rule.1)
            (λ few.
            let c = rule.2 few in
            let own : Knows came called entered c.holder id (at_door.MayCall old) =
            subst (Knows came called entered c.holder id) may (c.each id me.0 at) in
            let high = own.1 in
            let more : new ≡ called + 1 = omega (arith, next, same, high, few) in
            subst (λ (k : ℕ). IsInOrder came (get_or words' 1 0) k callers)
            (sym (get_or-set_other s.words 1 2 new 0 (λ e. omega (arith, e))))
            (subst (λ (k : ℕ). IsInOrder came k entered callers)
            (sym (get_or-set_same s.words 1 new 0 (omega (arith, wide)) ∙ more))
            (calls_in s.views id me.0 at_door.Away at came called entered c
            (may ∙ ap at_door.MayCall (sym same)) refl))))
            (λ other. loaded s.words 1 callers (by_count s.words callers came
            (as_many s.views id me.0 at_door.Away at (ap has_drawn may)) rule.0 rule.1
            (λ few.
            let c = rule.2 few in
            learns s.views id me.0 at_door.Away at came called entered c tt
            (λ n h. absurd (subst (HoldsNumber n) may h))))),
        refl,
      )
