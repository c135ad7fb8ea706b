-- A text that is run on a console piece by piece.
use Rattle.std.proofs.Common.{◌≡◌, ◌≤◌, ℕ, zero, suc, ◌+◌, ◌*◌, cond, arith, List, [], ◌∷◌, ◌++◌, length, get_or, set, Option, Some, None, true, leb, refl, sym, ap, ◌∙◌}
use Rattle.std.proofs.lemmas.Grind.{flat_map-append}
use Rattle.std.proofs.lemmas.List.Sums.{sum_by-append}
use Rattle.std.specs.List.{flat_map}
use Rattle.std.specs.Prelude.{Ok, option_map}
use Rattle.vt_screen.specs.Asking.{RequestsAreFew, asks, requests}
use Rattle.vt_screen.specs.Run.{AnyCut}
use Rattle.vt_canvas.specs.declared.out.Out.{Out}
use Rattle.vt_canvas.specs.declared.out.Out.TheVariants as outs
use Rattle.vt_world.specs.Rows.{out_deeds, write_deeds}
use Rattle.vt_world.specs.Deeds.{Asks, Deed, Lights, Own, Puts, Writes, apply_deeds, apply_deed, after_request}
use Rattle.vt_switch.specs.Acts.{Request}
use Rattle.vt_switch.specs.Moments.{core_after, marks}
use Rattle.vt_switch.specs.declared.mark.Mark.{Mark}
use Rattle.vt_world.specs.Heard.{apply_mark as heard_mark, apply_marks}
use Rattle.vt_world.specs.State.{WorldState, core}
use Rattle.vt_world.specs.Wanted.{wanted_in}
use Rattle.vt_base.specs.Bytes.{Text}
use Rattle.vt_events.specs.declared.event.Event.TheVariants as event
use Rattle.vt_events.specs.declared.reply.Reply.TheVariants as reply
use Rattle.vt_procs.specs.Callers.{console_of}
use Rattle.vt_world.specs.Step.{own_row_result}
use Rattle.vt_world.specs.Terminals.{TerminalState, said_of, terminal_at, after_write, written_on}
use Rattle.vt_world.specs.declared.wanted.Wanted.TheVariants.{Last, Number}
use Rattle.vt_world.proofs.Bells.{written_more}

-- deeds, and then more of them
pub apply_deeds-append : (w : WorldState) (xs ys : List Deed)
    → apply_deeds w (xs ++ ys) ≡ apply_deeds (apply_deeds w xs) ys
apply_deeds-append w [] ys = refl
apply_deeds-append w (x ∷ xs) ys = apply_deeds-append (apply_deed w x) xs ys

-- side effects, one after another
abbrev pub heard : ℕ → List Out → WorldState → WorldState
heard c said w = apply_deeds w (flat_map (out_deeds c) said)

pub heard-append : (c : ℕ) (xs ys : List Out) (w : WorldState)
    → heard c ys (heard c xs w) ≡ heard c (xs ++ ys) w
heard-append c xs ys w =
    sym (apply_deeds-append w (flat_map (out_deeds c) xs) (flat_map (out_deeds c) ys))
    ∙ ap (apply_deeds w) (sym (flat_map-append (out_deeds c) xs ys))

-- marks draw nothing
apply_marks_terminals : (w : WorldState) (marks : List Mark) → (apply_marks w marks).terminals ≡ w.terminals
apply_marks_terminals w [] = refl
apply_marks_terminals w (m ∷ marks) = apply_marks_terminals (heard_mark w m) marks

after_request_terminals : (w : WorldState) (n : Option ℕ) → (after_request w n).terminals ≡ w.terminals
after_request_terminals w None = refl
after_request_terminals w (Some n) =
    apply_marks_terminals (record w { display = (core_after (core w) (Request n)).display })
    (marks (core w) (Request n))

-- so a text may be drawn before
apply_marks_writes : (c : ℕ) (bytes : List ℕ) (w : WorldState) (marks : List Mark)
    → apply_deed (apply_marks w marks) (Own (Writes c bytes)) ≡ apply_marks (apply_deed w (Own (Writes c bytes))) marks
apply_marks_writes c bytes w [] = refl
apply_marks_writes c bytes w (m ∷ marks) = apply_marks_writes c bytes (heard_mark w m) marks

after_request_writes : (c : ℕ) (bytes : List ℕ) (w : WorldState) (n : Option ℕ)
    → apply_deed (after_request w n) (Own (Writes c bytes)) ≡ after_request (apply_deed w (Own (Writes c bytes))) n
after_request_writes c bytes w None = refl
after_request_writes c bytes w (Some n) =
    apply_marks_writes c bytes (record w { display = (core_after (core w) (Request n)).display })
    (marks (core w) (Request n))

-- side effects draw nothing
heard_terminals : (c : ℕ) (said : List Out) (w : WorldState)
    → (heard c said w).terminals ≡ w.terminals
heard_terminals c [] w = refl
heard_terminals c (outs.Report text ∷ more) w = heard_terminals c more (apply_deed w (Own (Puts c text)))
heard_terminals c (outs.SwitchTo n ∷ more) w =
    heard_terminals c more (apply_deed w (Asks (Number n)))
    ∙ after_request_terminals w (wanted_in w.display (Number n))
heard_terminals c (outs.SwitchLast ∷ more) w =
    heard_terminals c more (apply_deed w (Asks Last)) ∙ after_request_terminals w (wanted_in w.display Last)
heard_terminals c (outs.Lights lights ∷ more) w =
    heard_terminals c more (apply_deed w (Own (Lights c lights)))
heard_terminals c (outs.Bell ∷ more) w = heard_terminals c more w

-- so a text may be drawn before it
heard_writes : (c : ℕ) (bytes : List ℕ) (said : List Out) (w : WorldState)
    → apply_deed (heard c said w) (Own (Writes c bytes)) ≡ heard c said (apply_deed w (Own (Writes c bytes)))
heard_writes c bytes [] w = refl
heard_writes c bytes (outs.Report text ∷ more) w =
    heard_writes c bytes more (apply_deed w (Own (Puts c text)))
heard_writes c bytes (outs.SwitchTo n ∷ more) w =
    heard_writes c bytes more (apply_deed w (Asks (Number n)))
    ∙ ap (heard c more) (after_request_writes c bytes w (wanted_in w.display (Number n)))
heard_writes c bytes (outs.SwitchLast ∷ more) w =
    heard_writes c bytes more (apply_deed w (Asks Last))
    ∙ ap (heard c more) (after_request_writes c bytes w (wanted_in w.display Last))
heard_writes c bytes (outs.Lights lights ∷ more) w =
    heard_writes c bytes more (apply_deed w (Own (Lights c lights)))
heard_writes c bytes (outs.Bell ∷ more) w = heard_writes c bytes more w

-- the contents of a place after a change
at_changed : (n : ℕ) (f : TerminalState → TerminalState) (ts : List (Option TerminalState))
    → get_or (set ts n (option_map f (get_or ts n None))) n None ≡ option_map f (get_or ts n None)
at_changed n f [] = refl
at_changed zero f (t ∷ ts) = refl
at_changed (suc n) f (t ∷ ts) = at_changed n f ts

-- a place that changes twice
changed_twice : (n : ℕ) (f g : TerminalState → TerminalState) (ts : List (Option TerminalState))
    (o : Option TerminalState) → o ≡ option_map f (get_or ts n None)
    → set (set ts n o) n (option_map g o) ≡ set ts n (option_map g o)
changed_twice n f g [] o is = refl
changed_twice zero f g (t ∷ ts) o is = refl
changed_twice (suc n) f g (t ∷ ts) o is = ap (λ more. t ∷ more) (changed_twice n f g ts o is)

both_written : AnyCut → (a b : List ℕ) (o : Option TerminalState)
    → option_map (written_on b) (option_map (written_on a) o) ≡ option_map (written_on (a ++ b)) o
both_written law a b None = refl
both_written law a b (Some t) = ap Some (written_more law t a b _ _ _ refl refl refl)

-- two pieces draw the same as the whole
after_write-append : AnyCut → (c : ℕ) (a b : List ℕ) (ts : List (Option TerminalState))
    → after_write c b (after_write c a ts) ≡ after_write c (a ++ b) ts
after_write-append law c a b ts =
    ap (λ o. set (after_write c a ts) c (option_map (written_on b) o)) (at_changed c (written_on a) ts)
    ∙ changed_twice c (written_on a) (written_on b) ts (option_map (written_on a) (get_or ts c None))
    refl
    ∙ ap (set ts c) (both_written law a b (get_or ts c None))

both_said : AnyCut → (a b : List ℕ) (o : Option TerminalState)
    → said_of o a ++ said_of (option_map (written_on a) o) b ≡ said_of o (a ++ b)
both_said law a b None = refl
both_said law a b (Some t) = sym (law t.emu a b).1

-- and have the same side effects as the whole
outs_of_run-append : AnyCut → (c : ℕ) (a b : List ℕ) (ts : List (Option TerminalState))
    → said_of (terminal_at ts c) a ++ said_of (terminal_at (after_write c a ts) c) b
    ≡ said_of (terminal_at ts c) (a ++ b)
outs_of_run-append law c a b ts =
    ap (λ o. said_of (terminal_at ts c) a ++ said_of o b) (at_changed c (written_on a) ts)
    ∙ both_said law a b (terminal_at ts c)

abbrev pub ran : WorldState → ℕ → List ℕ → WorldState
ran w c bytes = apply_deeds w (write_deeds w c bytes)

-- a text that is run in two pieces is run
pub ran-append : AnyCut → (w : WorldState) (c : ℕ) (a b : List ℕ)
    → ran (ran w c a) c b ≡ ran w c (a ++ b)
ran-append law w c a b =
    let drawn : WorldState = apply_deed w (Own (Writes c a)) in
    let said_a : List Out = said_of (terminal_at w.terminals c) a in
    let said_b : List Out = said_of (terminal_at drawn.terminals c) b in
    ap (λ ts. heard c (said_of (terminal_at ts c) b) (apply_deed (heard c said_a drawn) (Own (Writes c b))))
    (heard_terminals c said_a drawn)
    ∙ ap (heard c said_b) (heard_writes c b said_a drawn)
    ∙ heard-append c said_a said_b (apply_deed drawn (Own (Writes c b)))
    ∙ (λ i. heard c (outs_of_run-append law c a b w.terminals i)
    (record w { terminals = after_write-append law c a b w.terminals i }))

-- both texts together request what each of them requests, and no more
requests-append : (xs ys : List Out) → requests (xs ++ ys) ≡ requests xs + requests ys
requests-append xs ys = sum_by-append (λ (o : Out). cond (asks o) 1 0) xs ys

-- the whole requests what a text requests after another one
pub ran-asks : AnyCut → (w : WorldState) (c : ℕ) (a b : List ℕ)
    → requests (said_of (terminal_at w.terminals c) a)
    + requests (said_of (terminal_at (ran w c a).terminals c) b)
    ≡ requests (said_of (terminal_at w.terminals c) (a ++ b))
ran-asks law w c a b =
    let drawn : WorldState = apply_deed w (Own (Writes c a)) in
    let said_a : List Out = said_of (terminal_at w.terminals c) a in
    ap (λ ts. requests said_a + requests (said_of (terminal_at ts c) b))
    (heard_terminals c said_a drawn)
    ∙ sym (requests-append said_a (said_of (terminal_at drawn.terminals c) b))
    ∙ ap requests (outs_of_run-append law c a b w.terminals)

-- a text requests few consoles, with and without a terminal to which it is written
pub asks_few : RequestsAreFew → (o : Option TerminalState) (bytes : List ℕ)
    → 4 * requests (said_of o bytes) ≤ length bytes + 3
asks_few law None bytes = omega arith
asks_few law (Some t) bytes = law t.emu bytes

-- a write that isn't refused
pub write_has : (w : WorldState) (p fd : ℕ) (b : Text) (c : ℕ) (text : List ℕ) (w' : WorldState)
    → console_of w.callers p fd ≡ Some c → text ≡ b.bytes → leb (length text) 4096 ≡ true
    → w' ≡ ran w c text
    → own_row_result w p (event.Write fd b)
    ≡ record { world = w'; answer = Ok (reply.Num (length text)) }
write_has w p fd b c text w' found is short ran_is =
    let within : leb (length b.bytes) 4096 ≡ true =
    ap (λ (t : List ℕ). leb (length t) 4096) (sym is) ∙ short in
    rw (found, within)
    (λ i. record {
      world = (ap (ran w c) (sym is) ∙ sym ran_is) i;
      answer = Ok (reply.Num (length (sym is i)));
    })
