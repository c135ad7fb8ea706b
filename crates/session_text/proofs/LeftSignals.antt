-- The signals with an act that is left: their calls are those of all signals that were given.
use Rattle.std.proofs.Common.{◌≡◌, ◌≢◌, ℕ, ◌+◌, ◌-◌, ◌<◌, ◌≤◌, zero, suc, Bool, true, false, if◌then◌else◌, List, [], Option, None, Some, filter_map, is_none, refl, sym, ap, ◌∙◌, arith, true≢false, ⊎_elim, subst}
use Rattle.std.proofs.lemmas.Bool.{cases_eq, cases_lt}
use Rattle.std.specs.List.{range_with_len, cons_option}
use Rattle.std.specs.Prelude.{is_some}
use Rattle.sig_hooks.specs.Hooks.{act_of}
use Rattle.sig_hooks.specs.declared.act.Act.{Act}
use Rattle.sig_hooks.specs.declared.act.Act.TheVariants as acts
use Rattle.vt_base.specs.Signals.{HasNoneFrom, IsFirstFrom, IsWith, WithAddsOne, has_signal, with_signal}
use Rattle.vt_events.specs.declared.event.Event.{Event}
use Rattle.session_text.specs.Programs.{act_at, act_call, calls_from}
use Rattle.session_text.specs.Walks.{AreLeft}
use Rattle.session_text.proofs.Acts.{calls_from_end, calls_from_until}

-- the signal has an act that makes a call, and is in the set
abbrev has_call : List Act → ℕ → ℕ → Bool
has_call table set s = is_some (act_call (act_at table set s))

lacks_call : (table : List Act) (set s : ℕ) → has_signal set s ≡ false → has_call table set s ≡ false
lacks_call table set s lacks = ap (λ b. is_some (act_call (if b then act_of table s else acts.Nothing))) lacks

-- the signals below `at` are looked at
pub record AreLeftBelow (table : List Act) (given from at left : ℕ) : Type 0 where
  pub begun : from ≤ at
  pub these : (s : ℕ) → from ≤ s → s < at → has_signal left s ≡ is_some (act_call (act_at table given s))
  pub before : (s : ℕ) → 1 ≤ s → s < from → has_signal left s ≡ false
  pub after : (s : ℕ) → 1 ≤ s → at ≤ s → has_signal left s ≡ false

pub none_left : (table : List Act) (given from left : ℕ) → ((s : ℕ) → has_signal left s ≡ false)
    → AreLeftBelow table given from from left
none_left table given from left empty = record {
  begun = omega arith;
  these = λ s low high. absurd (let no : ⊥ = omega (arith, low, high) in no);
  before = λ s low high. empty s;
  after = λ s low high. empty s;
}

-- the set gets the signal, if its act makes a call
record Adds (table : List Act) (signal left with : ℕ) : Type 0 where
  pub here : has_signal with signal ≡ is_some (act_call (act_of table signal))
  pub others : (t : ℕ) → 1 ≤ t → t ≢ signal → has_signal with t ≡ has_signal left t

adds : (table : List Act) (signal left : ℕ) (made : Option Event) → WithAddsOne → 1 ≤ signal
    → has_signal left signal ≡ false → act_call (act_of table signal) ≡ made
    → Adds table signal left (if is_none made then left else with_signal left signal)
adds table signal left None with_adds low lacks is = record {
  here = lacks ∙ sym (ap is_some is);
  others = λ t from apart. refl;
}
adds table signal left (Some e) with_adds low lacks is = record {
  here = (with_adds left signal low).here ∙ sym (ap is_some is);
  others = (with_adds left signal low).others;
}

-- one signal more is looked at: the first from `at` on
pub left_more : (table : List Act) (given from at signal left : ℕ) (act : Act) → WithAddsOne → 1 ≤ from
    → AreLeftBelow table given from at left → IsFirstFrom given at signal → act ≡ act_of table signal
    → AreLeftBelow table given from (signal + 1) (if is_none (act_call act) then left else with_signal left signal)
left_more table given from at signal left act with_adds low so_far first is =
    let begun = so_far.begun in
    let reached = first.from in
    let with : ℕ = if is_none (act_call act) then left else with_signal left signal in
    let added : Adds table signal left with =
    subst (λ o. Adds table signal left (if is_none o then left else with_signal left signal))
    (ap act_call (sym is))
    (adds table signal left (act_call (act_of table signal)) with_adds (omega (arith, low, begun, reached))
    (so_far.after signal (omega (arith, low, begun, reached)) reached) refl) in
    let here : has_signal with signal ≡ has_call table given signal =
    added.here
    ∙ ap (λ b. is_some (act_call (if b then act_of table signal else acts.Nothing))) (sym first.here) in
    record {
      begun = omega (arith, begun, reached);
      these = λ s above below. ⊎_elim
          (λ same. subst (λ t. has_signal with t ≡ has_call table given t) (sym same) here)
          (λ apart.
          added.others s (omega (arith, low, above)) apart
          ∙ ⊎_elim
          (λ looked_at. so_far.these s above looked_at)
          (λ next. so_far.after s (omega (arith, low, above)) next
          ∙ sym (lacks_call table given s (first.none_before s next (between s signal below apart))))
          (cases_lt s at))
          (cases_eq s signal);
      before = λ s above below.
          added.others s above (λ same. let no : ⊥ = omega (arith, below, begun, reached, same) in no)
          ∙ so_far.before s above below;
      after = λ s above past.
          added.others s above (λ same. let no : ⊥ = omega (arith, past, same) in no)
          ∙ so_far.after s above (omega (arith, past, reached));
    }
  where
    between : (s signal : ℕ) → s < signal + 1 → s ≢ signal → s < signal
    between s signal below apart =
        ⊎_elim (λ less. less) (λ more. absurd (apart (omega (arith, more, below)))) (cases_lt s signal)

-- no signal is left
pub left_all : (table : List Act) (given from at left : ℕ) → 1 ≤ from → AreLeftBelow table given from at left
    → HasNoneFrom given at → AreLeft table given from left
left_all table given from at left low so_far none = record {
  these = λ s above within. ⊎_elim
      (λ looked_at. so_far.these s above looked_at)
      (λ next. so_far.after s (omega (arith, low, above)) next
      ∙ sym (lacks_call table given s (none s next within)))
      (cases_lt s at);
  others = so_far.before;
}

pub left_past : (table : List Act) (given from at left : ℕ) → 65 ≤ at → AreLeftBelow table given from at left
    → AreLeft table given from left
left_past table given from at left past so_far = record {
  these = λ s above within. so_far.these s above (omega (arith, within, past));
  others = so_far.before;
}

-- the same acts make the same calls
same_at : (act : Act) (given left : Bool)
    → left ≡ is_some (act_call (if given then act else acts.Nothing))
    → act_call (if left then act else acts.Nothing) ≡ act_call (if given then act else acts.Nothing)
same_at act true left is = pick left (act_call act) refl is
  where
    pick : (b : Bool) (made : Option Event) → act_call act ≡ made → b ≡ is_some made
        → act_call (if b then act else acts.Nothing) ≡ act_call act
    pick true made made_is same = refl
    pick false None made_is same = sym made_is
    pick false (Some e) made_is same = absurd (true≢false (sym same))
same_at act false true is = absurd (true≢false is)
same_at act false false is = refl

same_calls : (f g : ℕ → Option Event) (s k : ℕ) → ((n : ℕ) → s ≤ n → n < s + k → f n ≡ g n)
    → filter_map f (range_with_len s k) ≡ filter_map g (range_with_len s k)
same_calls f g s zero same = refl
same_calls f g s (suc k) same =
    let rest : filter_map f (range_with_len (s + 1) k) ≡ filter_map g (range_with_len (s + 1) k) =
    same_calls f g (s + 1) k (λ n low high. same n (omega (arith, low)) (omega (arith, high))) in
    λ i. cons_option (same s (omega arith) (omega arith) i) (rest i)

same_from : (table : List Act) (given from left : ℕ) → AreLeft table given from left
    → calls_from table left from ≡ calls_from table given from
unfolding calls_from
same_from table given from left are =
    same_calls (λ n. act_call (act_at table left n)) (λ n. act_call (act_at table given n)) from (65 - from)
    (λ n low high.
    same_at (act_of table n) (has_signal given n) (has_signal left n) (are.these n low (omega (arith, low, high))))

-- the calls of the signals that are left are those of the signals that were given, from one on
pub calls_left : (table : List Act) (given from left : ℕ) → 1 ≤ from → AreLeft table given from left
    → calls_from table left 1 ≡ calls_from table given from
calls_left table given from left low are = ⊎_elim
    (λ within.
    sym (calls_from_until (from - 1) table left 1 (omega (arith, low, within))
    (λ t above below. are.others t above (omega (arith, below, low))))
    ∙ ap (calls_from table left) (omega (arith, low))
    ∙ same_from table given from left are)
    (λ past.
    sym (calls_from_until 64 table left 1 (omega arith)
    (λ t above below. are.others t above (omega (arith, below, past))))
    ∙ calls_from_end table left 65 (omega arith)
    ∙ sym (calls_from_end table given from (omega (arith, past))))
    (cases_lt from 66)
