-- Facts of a call and of the machine after it, and the questions that they make. This project's own.
use Rattle.std.specs.List.{list_all, list_any, range_with_len}
use Rattle.std.specs.Prelude.{ℕ, Bool, true, false, not, ◌==◌, ◌&&◌, ◌||◌, List, [], ◌∷◌, Option, Some, None, is_some, slice_get, if◌then◌else◌}
use Rattle.vt_base.specs.Errno.{number_of}
use Rattle.vt_base.specs.Limits.{callers}
use Rattle.vt_base.specs.Signals.{has_signal}
use Rattle.vt_events.specs.Calls.{kind_of, numbers_of}
use Rattle.vt_events.specs.Kinds.{name_of}
use Rattle.vt_events.specs.declared.event.Event.{Event}
use Rattle.vt_events.specs.declared.reply.Reply.{Reply}
use Rattle.vt_events.specs.declared.reply.Reply.TheVariants as reply
use Rattle.vt_explore.specs.Questions.{Wants}
use Rattle.vt_explore.specs.Shows.{shows}
use Rattle.vt_explore.specs.declared.fact.Condition.{Condition}
use Rattle.vt_explore.specs.declared.fact.Fact.{Fact}
use Rattle.vt_explore.specs.declared.fact.Fact.TheVariants as fact
use Rattle.vt_explore.specs.declared.pattern.AnswerKind.{AnswerKind}
use Rattle.vt_explore.specs.declared.pattern.AnswerKind.TheVariants as answer
use Rattle.vt_explore.specs.declared.pattern.AnswerPattern.{AnswerPattern}
use Rattle.vt_explore.specs.declared.pattern.CallPattern.{CallPattern}
use Rattle.vt_explore.specs.declared.pattern.NumberAt.{NumberAt}
use Rattle.vt_procs.specs.Callers.{caller_at, has_open, is_live}
use Rattle.vt_switch.specs.Display.{console, owner_of}
use Rattle.vt_world.specs.State.{WorldState, is_waiting}

-- whether both names have the same bytes
abbrev pub are_equal : List ℕ → List ℕ → Bool
are_equal [] [] = true
are_equal (b ∷ name) (c ∷ other) = (b == c) && are_equal name other
are_equal name other = false

-- the number, if there is one, is this one
abbrev pub is_number : ℕ → Option ℕ → Bool
is_number n None = false
is_number n (Some m) = m == n

-- the number of a list at this place is this one
abbrev pub has_number : List ℕ → NumberAt → Bool
has_number numbers n = is_number n.number (slice_get numbers n.place)

-- each number that is named is at its place
abbrev pub fits : List NumberAt → List ℕ → Bool
fits named numbers = list_all (has_number numbers) named

-- a call of this kind, with these numbers
abbrev pub fits_call : CallPattern → Event → Bool
fits_call pattern e =
    are_equal (name_of pattern.kind) (name_of (kind_of e)) && fits pattern.numbers (numbers_of e)

-- an answer of this name (docs/reference/journal.md, "The words of answers")
abbrev pub is_answer : AnswerKind → Reply → Bool
is_answer answer.Done reply.Done = true
is_answer answer.Num (reply.Num n) = true
is_answer answer.State (reply.State front mask) = true
is_answer answer.Bytes (reply.Text b) = true
is_answer answer.Mode (reply.Mode m) = true
is_answer answer.Act (reply.Act kind value) = true
is_answer answer.Wait reply.Wait = true
is_answer answer.Sigs (reply.Sigs signals) = true
is_answer answer.Err (reply.Err errno) = true
is_answer kind r = false

-- the numbers of an answer, in the order of its words
abbrev pub answer_numbers : Reply → List ℕ
answer_numbers (reply.Num n) = n ∷ []
answer_numbers (reply.State front mask) = front ∷ mask ∷ []
answer_numbers (reply.Mode m) = m.mode ∷ m.waitv ∷ m.relsig ∷ m.acqsig ∷ m.frsig ∷ []
answer_numbers (reply.Act kind value) = kind ∷ value ∷ []
answer_numbers (reply.Sigs signals) = signals ∷ []
answer_numbers (reply.Err errno) = number_of errno ∷ []
answer_numbers r = []

-- an answer of this name, with these numbers
abbrev pub fits_answer : AnswerPattern → Reply → Bool
fits_answer pattern r = is_answer pattern.kind r && fits pattern.numbers (answer_numbers r)

-- there is a number, and it is this one if one is asked for
abbrev pub is_this : Option ℕ → Option ℕ → Bool
is_this None found = is_some found
is_this (Some n) found = is_number n found

-- this signal is in the set, or any if none is asked for
abbrev pub has_this : Option ℕ → ℕ → Bool
has_this None set = not (set == 0)
has_this (Some s) set = has_signal set s

-- nobody is alive
abbrev pub is_ended : WorldState → Bool
is_ended w = not (list_any (is_live w.callers) (range_with_len 0 callers))

-- nobody is alive, and either a console waits for the display or the one in front shows graphics
abbrev pub is_stuck : WorldState → Bool
is_stuck w = is_ended w && (is_some w.display.pending || (console w.display w.display.front).graphics)

-- the fact holds of the call e of caller p, of its answer r, and of the machine w after it
abbrev pub fact_holds : Fact → ℕ → Event → Reply → WorldState → Bool
fact_holds (fact.By q) p e r w = p == q
fact_holds (fact.Call pattern) p e r w = fits_call pattern e
fact_holds (fact.Answer pattern) p e r w = fits_answer pattern r
fact_holds (fact.Front n) p e r w = w.display.front == n
fact_holds (fact.Pending n) p e r w = is_this n w.display.pending
fact_holds (fact.Graphics n) p e r w = (console w.display n).graphics
fact_holds (fact.Owner n q) p e r w = is_this q (owner_of (console w.display n).handling)
fact_holds fact.Locked p e r w = w.display.locked
fact_holds (fact.Lives q) p e r w = is_live w.callers q
fact_holds (fact.Waiting q) p e r w = is_waiting w q
fact_holds (fact.Signals q s) p e r w = has_this s (caller_at w.callers q).pending
fact_holds (fact.Open q n) p e r w = has_open (caller_at w.callers q).opens n
fact_holds (fact.Shows n text) p e r w = shows w n text.bytes
fact_holds fact.Ended p e r w = is_ended w
fact_holds fact.Stuck p e r w = is_stuck w

-- the condition is met
abbrev pub is_met : ℕ → Event → Reply → WorldState → Condition → Bool
is_met p e r w c = if c.holds then fact_holds c.fact p e r w else not (fact_holds c.fact p e r w)

-- the calls that meet all conditions
abbrev pub wants_of : List Condition → Wants
wants_of conditions p e r w = list_all (is_met p e r w) conditions
