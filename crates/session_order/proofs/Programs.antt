-- The next call of a program: the parts of answers that it doesn't depend on, when there is one, and when the
-- program is over.
use Rattle.std.proofs.Common.{◌≡◌, ℕ, true, false, List, [], ◌∷◌, ◌++◌, map, Option, Some, None, refl, sym, ap, ◌∙◌, subst}
use Rattle.std.proofs.lemmas.Option.{none-some, same_Some}
use Rattle.std.specs.Prelude.{⊤, ◌-◌, not, ◌&&◌, ◌||◌}
use Rattle.sig_hooks.specs.declared.act.Act.{Act}
use Rattle.session_order.specs.Calls.{as_meant}
use Rattle.session_text.proofs.NextCalls.{Carries, behind_first, of_next, taken}
use Rattle.session_text.specs.Programs.{Call, call, calls, ends, exits, is_exit, is_gone, is_kill, next, nothing, signals_in, takes}
use Rattle.vt_events.specs.Waits.{is_wait}
use Rattle.session_text.specs.declared.program.Program.{Program}
use Rattle.vt_events.specs.Plain.{plain_event, plain_reply}
use Rattle.vt_events.specs.declared.event.Event.{Event}
use Rattle.vt_events.specs.declared.reply.Reply.{Reply}
use Rattle.vt_events.specs.declared.event.Event.TheVariants as event
use Rattle.vt_events.specs.declared.reply.Reply.TheVariants as reply

pub exit_plain : (e : Event) → is_exit (plain_event e) ≡ is_exit e
exit_plain event.Exit = refl
exit_plain e = refl

kill_plain : (e : Event) → is_kill (plain_event e) ≡ is_kill e
kill_plain event.Exit = refl
kill_plain e = refl

pub gone_plain : (r : Reply) → is_gone (plain_reply r) ≡ is_gone r
gone_plain (reply.Text b) = refl
gone_plain r = refl

pub wait_plain : (r : Reply) → is_wait (plain_reply r) ≡ is_wait r
wait_plain (reply.Text b) = refl
wait_plain r = refl

signals_plain : (r : Reply) → signals_in (plain_reply r) ≡ signals_in r
signals_plain (reply.Text b) = refl
signals_plain r = refl

ends_plain : (c : Call) → ends (as_meant c).event (as_meant c).reply ≡ ends c.event c.reply
ends_plain c = λ i.
    exit_plain c.event i || (not (kill_plain c.event i) && gone_plain c.reply i)

-- how the next calls depend on those that were made: without spare room, and through waits
pub record Fine (f : List Call → Option Event) : Type 0 where
  pub same : (made : List Call) → f (map as_meant made) ≡ f made
  pub plain : (made : List Call) (e : Event) → f made ≡ Some e → plain_event e ≡ e
  pub waits :
      (made : List Call) (e : Event) (r : Reply) → f made ≡ Some e → ends e r ≡ false
      → is_wait r ≡ true → f (made ++ call e r ∷ []) ≡ Some event.WaitEnd

nothing_fine : Fine nothing
nothing_fine = record {
  same = λ made. refl;
  plain = λ made e is. absurd (none-some e is);
  waits = λ made e r is going wait. absurd (none-some e is);
}

same_calls : (e : Event) (behind : List Call → Option Event) → Fine behind → (made : List Call)
    → calls e behind (map as_meant made) ≡ calls e behind made
same_calls e behind fine [] = refl
same_calls e behind fine (c ∷ made) =
    (λ i. behind_first (ends_plain c i) (wait_plain c.reply i) behind (map as_meant made))
    ∙ elim (ends c.event c.reply) as (λ b. behind_first b (is_wait c.reply) behind (map as_meant made) ≡ behind_first b (is_wait c.reply) behind made) [
      | true ↦ refl
      | false ↦ elim (is_wait c.reply) as (λ b. behind_first false b behind (map as_meant made) ≡ behind_first false b behind made)
          [ true ↦ same_calls event.WaitEnd behind fine made | false ↦ fine.same made ]
    ]

plain_calls : (e : Event) (behind : List Call → Option Event) → plain_event e ≡ e → Fine behind
    → (made : List Call) (next : Event) → calls e behind made ≡ Some next
    → plain_event next ≡ next
plain_calls e behind is fine [] next = λ here.
    subst (λ x. plain_event x ≡ x) (same_Some e next here) is
plain_calls e behind is fine (c ∷ made) next =
    elim (ends c.event c.reply) as (λ b. behind_first b (is_wait c.reply) behind made ≡ Some next → plain_event next ≡ next) [
      | true ↦ λ none. absurd (none-some next none)
      | false ↦ elim (is_wait c.reply) as (λ b. behind_first false b behind made ≡ Some next → plain_event next ≡ next)
          [ true ↦ plain_calls event.WaitEnd behind refl fine made next | false ↦ fine.plain made next ]
    ]

waits_calls : (e : Event) (behind : List Call → Option Event) → Fine behind
    → (made : List Call) (next : Event) (r : Reply) → calls e behind made ≡ Some next
    → ends next r ≡ false → is_wait r ≡ true
    → calls e behind (made ++ call next r ∷ []) ≡ Some event.WaitEnd
waits_calls e behind fine [] next r = λ here going wait i.
    behind_first (going i) (wait i) behind []
waits_calls e behind fine (c ∷ made) next r =
    elim (ends c.event c.reply) as (λ b. behind_first b (is_wait c.reply) behind made ≡ Some next → ends next r ≡ false → is_wait r ≡ true → behind_first b (is_wait c.reply) behind (made ++ call next r ∷ []) ≡ Some event.WaitEnd) [
      | true ↦ λ none going wait. absurd (none-some next none)
      | false ↦ elim (is_wait c.reply) as (λ b. behind_first false b behind made ≡ Some next → ends next r ≡ false → is_wait r ≡ true → behind_first false b behind (made ++ call next r ∷ []) ≡ Some event.WaitEnd)
          [ true ↦ waits_calls event.WaitEnd behind fine made next r | false ↦ fine.waits made next r ]
    ]

calls_fine : (e : Event) (behind : List Call → Option Event) → plain_event e ≡ e → Fine behind
    → Fine (calls e behind)
calls_fine e behind is fine = record {
  same = same_calls e behind fine;
  plain = plain_calls e behind is fine;
  waits = waits_calls e behind fine;
}

takes_same : (table : List Act) (behind : List Call → Option Event) → ((set : ℕ) → Fine (taken table behind set))
    → (made : List Call) → takes table behind (map as_meant made) ≡ takes table behind made
takes_same table behind each [] = refl
takes_same table behind each (c ∷ made) =
    ap (λ set. taken table behind set (map as_meant (c ∷ made))) (signals_plain c.reply)
    ∙ (each (signals_in c.reply)).same (c ∷ made)

takes_plain : (table : List Act) (behind : List Call → Option Event) → ((set : ℕ) → Fine (taken table behind set))
    → (made : List Call) (e : Event) → takes table behind made ≡ Some e → plain_event e ≡ e
takes_plain table behind each [] e is =
    subst (λ x. plain_event x ≡ x) (same_Some event.TakeSignals e is) refl
takes_plain table behind each (c ∷ made) e is =
    (each (signals_in c.reply)).plain (c ∷ made) e is

takes_waits : (table : List Act) (behind : List Call → Option Event) → ((set : ℕ) → Fine (taken table behind set))
    → (made : List Call) (e : Event) (r : Reply) → takes table behind made ≡ Some e
    → ends e r ≡ false → is_wait r ≡ true
    → takes table behind (made ++ call e r ∷ []) ≡ Some event.WaitEnd
takes_waits table behind each [] e r is going wait =
    (each (signals_in r)).waits [] e r is going wait
takes_waits table behind each (c ∷ made) e r is going wait =
    (each (signals_in c.reply)).waits (c ∷ made) e r is going wait

fine_carries : Carries Fine
fine_carries = record {
  exit = calls_fine event.Exit nothing refl nothing_fine;
  first = calls_fine;
  handlers = λ table behind each. record {
    same = takes_same table behind each;
    plain = takes_plain table behind each;
    waits = takes_waits table behind each;
  };
}

pub next_fine : (p : Program) → Fine (next p)
next_fine p = of_next Fine fine_carries p

-- each of these calls was the next one after those before it
abbrev pub Walked : (List Call → Option Event) → List Call → Type 0
Walked f [] = ⊤
Walked f (c ∷ made) = (f [] ≡ Some c.event) × Walked (λ more. f (c ∷ more)) made

pub walked_more : (f : List Call → Option Event) (made : List Call) (e : Event) (r : Reply)
    → Walked f made → f made ≡ Some e → Walked f (made ++ call e r ∷ [])
walked_more f [] e r walked is = (is, tt)
walked_more f (c ∷ made) e r walked is =
    (walked.0, walked_more (λ more. f (c ∷ more)) made e r walked.1 is)

-- the next calls go on until one ends them
pub record Alive (f : List Call → Option Event) : Type 0 where
  pub starts : f [] ≡ None → ⊥
  pub goes :
      (made : List Call) (e : Event) (r : Reply) → Walked f made → f made ≡ Some e
      → f (made ++ call e r ∷ []) ≡ None → ends e r ≡ true

some_none : (e : Event) → Some e ≡ None → ⊥
some_none e is = none-some e (sym is)

goes_calls : (e : Event) (behind : List Call → Option Event) → Alive behind → (made : List Call)
    (next : Event) (r : Reply) → Walked (calls e behind) made → calls e behind made ≡ Some next
    → calls e behind (made ++ call next r ∷ []) ≡ None → ends next r ≡ true
goes_calls e behind alive [] next r = λ walked here.
    elim (ends next r) as (λ b. behind_first b (is_wait r) behind [] ≡ None → b ≡ true) [
      | true ↦ λ none. refl
      | false ↦ elim (is_wait r) as (λ b. behind_first false b behind [] ≡ None → false ≡ true) [
        | true ↦ λ none. absurd (some_none event.WaitEnd none)
        | false ↦ λ none. absurd (alive.starts none)
      ]
    ]
goes_calls e behind alive (c ∷ made) next r = λ walked.
    (elim (ends c.event c.reply) as (λ b. Walked (λ more. behind_first b (is_wait c.reply) behind more) made → behind_first b (is_wait c.reply) behind made ≡ Some next → behind_first b (is_wait c.reply) behind (made ++ call next r ∷ []) ≡ None → ends next r ≡ true) [
      | true ↦ λ more here none. absurd (none-some next here)
      | false ↦ elim (is_wait c.reply) as (λ b. Walked (λ more. behind_first false b behind more) made → behind_first false b behind made ≡ Some next → behind_first false b behind (made ++ call next r ∷ []) ≡ None → ends next r ≡ true) [
        | true ↦ goes_calls event.WaitEnd behind alive made next r
        | false ↦ alive.goes made next r
      ]
    ])
    walked.1

calls_alive : (e : Event) (behind : List Call → Option Event) → plain_event e ≡ e → Alive behind
    → Alive (calls e behind)
calls_alive e behind is alive = record {
  starts = some_none e;
  goes = goes_calls e behind alive;
}

goes_exits : (made : List Call) (e : Event) (r : Reply) → Walked exits made → exits made ≡ Some e
    → exits (made ++ call e r ∷ []) ≡ None → ends e r ≡ true
goes_exits [] e r walked here none =
    subst (λ x. ends x r ≡ true) (same_Some event.Exit e here) refl
goes_exits (c ∷ made) e r walked here none =
    let last : ends c.event c.reply ≡ true =
    subst (λ x. ends x c.reply ≡ true) (same_Some event.Exit c.event walked.0) refl in
    let over : exits (c ∷ made) ≡ None =
    ap (λ b. behind_first b (is_wait c.reply) nothing made) last in
    absurd (none-some e (sym over ∙ here))

exits_alive : Alive exits
exits_alive = record { starts = some_none event.Exit; goes = goes_exits }

goes_takes : (table : List Act) (behind : List Call → Option Event) → ((set : ℕ) → Alive (taken table behind set))
    → (made : List Call) (e : Event) (r : Reply) → Walked (takes table behind) made
    → takes table behind made ≡ Some e → takes table behind (made ++ call e r ∷ []) ≡ None
    → ends e r ≡ true
goes_takes table behind each [] e r = (each (signals_in r)).goes [] e r
goes_takes table behind each (c ∷ made) e r = (each (signals_in c.reply)).goes (c ∷ made) e r

alive_carries : Carries Alive
alive_carries = record {
  exit = exits_alive;
  first = calls_alive;
  handlers = λ table behind each.
      record { starts = some_none event.TakeSignals; goes = goes_takes table behind each };
}

pub next_alive : (p : Program) → Alive (next p)
next_alive p = of_next Alive alive_carries p
