-- The calls at signals, one signal after another.
use Rattle.std.proofs.Common.{◌≡◌, ℕ, ◌+◌, ◌-◌, ◌<◌, ◌≤◌, zero, suc, false, if◌then◌else◌, List, [], ◌++◌, Option, None, Some, filter_map, option_to_list, refl, sym, ap, ◌∙◌, arith, true, is_none, true≢false}
use Rattle.std.specs.List.{range_with_len, cons_option}
use Rattle.sig_hooks.specs.Hooks.{act_of}
use Rattle.sig_hooks.specs.declared.act.Act.{Act}
use Rattle.sig_hooks.specs.declared.act.Act.TheVariants as acts
use Rattle.vt_base.specs.Signals.{HasNoneFrom, IsFirstFrom, has_signal}
use Rattle.vt_events.specs.declared.event.Event.{Event}
use Rattle.session_text.specs.Programs.{act_at, act_call, calls_from}

before : (o : Option Event) (events : List Event) → cons_option o events ≡ option_to_list o ++ events
before None events = refl
before (Some e) events = refl

-- the calls from a signal on are that at the signal, if there is one, and those from the next one on
pub calls_from_next : (table : List Act) (set s : ℕ) → s ≤ 64
    → calls_from table set s
    ≡ option_to_list (act_call (act_at table set s)) ++ calls_from table set (s + 1)
unfolding calls_from
calls_from_next table set s low =
    let at : ℕ → Option Event = λ n. act_call (act_at table set n) in
    let more : 65 - s ≡ suc (65 - (s + 1)) = omega arith in
    ap (λ n. filter_map at (range_with_len s n)) more
    ∙ before (at s) (filter_map at (range_with_len (s + 1) (65 - (s + 1))))

pub calls_from_end : (table : List Act) (set s : ℕ) → 65 ≤ s → calls_from table set s ≡ []
unfolding calls_from
calls_from_end table set s high =
    let none : 65 - s ≡ 0 = omega arith in
    ap (λ n. filter_map (λ i. act_call (act_at table set i)) (range_with_len s n)) none

-- if the set has no signal in a range, the calls from the range's start on are those from its end on
pub calls_from_until : (k : ℕ) (table : List Act) (set s : ℕ) → s + k ≤ 65
    → ((t : ℕ) → s ≤ t → t < s + k → has_signal set t ≡ false)
    → calls_from table set (s + k) ≡ calls_from table set s
calls_from_until zero table set s within none = ap (calls_from table set) (omega arith)
calls_from_until (suc k) table set s within none =
    let here : has_signal set s ≡ false = none s (omega arith) (omega arith) in
    let quiet : act_at table set s ≡ acts.Nothing =
    ap (λ b. if b then act_of table s else acts.Nothing) here in
    let one : calls_from table set s ≡ calls_from table set (s + 1) =
    calls_from_next table set s (omega (arith, within))
    ∙ ap (λ act. option_to_list (act_call act) ++ calls_from table set (s + 1)) quiet in
    ap (calls_from table set) (omega arith)
    ∙ (calls_from_until k table set (s + 1) (omega (arith, within))
    (λ t low high. none t (omega (arith, low)) (omega (arith, high)))
    ∙ sym one)

-- the calls from one on are that at the set's first signal, if there is one, and those after it
pub calls_from_first : (table : List Act) (set n s : ℕ) (act : Act) → IsFirstFrom set n s → s ≤ 64
    → act ≡ act_of table s
    → calls_from table set n ≡ option_to_list (act_call act) ++ calls_from table set (s + 1)
calls_from_first table set n s act first within is =
    let to : n + (s - n) ≡ s = omega (arith, first.from) in
    let asked : act_at table set s ≡ act =
    ap (λ b. if b then act_of table s else acts.Nothing) first.here ∙ sym is in
    sym (calls_from_until (s - n) table set n (omega (arith, first.from, within))
    (λ t low high. first.none_before t low (omega (arith, high, first.from))))
    ∙ (ap (calls_from table set) to
    ∙ (calls_from_next table set s within
    ∙ ap (λ a. option_to_list (act_call a) ++ calls_from table set (s + 1)) asked))

-- after the last signal of the set nothing is called
pub calls_from_none : (table : List Act) (set n : ℕ) → n ≤ 64 → HasNoneFrom set n
    → calls_from table set n ≡ []
calls_from_none table set n within none =
    sym (calls_from_until (65 - n) table set n (omega (arith, within))
    (λ t low high. none t low (omega (arith, high, within))))
    ∙ calls_from_end table set (n + (65 - n)) (omega (arith, within))

-- if the first signal brings no call, the calls from one on are those after it
pub calls_from_past : (table : List Act) (set n s : ℕ) (act : Act) → IsFirstFrom set n s → s ≤ 64
    → act ≡ act_of table s → is_none (act_call act) ≡ true
    → calls_from table set (s + 1) ≡ calls_from table set n
calls_from_past table set n s act first within is quiet =
    sym (calls_from_first table set n s act first within is
    ∙ ap (λ o. option_to_list o ++ calls_from table set (s + 1)) (none_is (act_call act) quiet))
  where
    none_is : (o : Option Event) → is_none o ≡ true → o ≡ None
    none_is None h = refl
    none_is (Some e) h = absurd (true≢false (sym h))
