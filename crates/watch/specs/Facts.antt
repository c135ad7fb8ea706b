-- The facts of an entry: a line for each, or an object of JSON with a comma before it. This project's own.
use Rattle.std.specs.Prelude.{ℕ, ◌+◌, min, List, [], ◌∷◌, ◌++◌, Option, Some, None, codes, decimal, map, slice_get, slice_index_or}
use Rattle.std.specs.List.{flat_map, range_with_len}
use Rattle.watch.specs.Sights.{Sight}
use Rattle.watch.specs.Words.{by_form, caller_text, joined}
use Rattle.watch.specs.declared.form.Form.{Form}
use Rattle.vt_base.specs.Limits.{callers}
use Rattle.vt_explain.specs.declared.hop_cause.HopCause.{HopCause}
use Rattle.vt_explain.specs.declared.hop_cause.HopCause.TheVariants as why
use Rattle.vt_explain.specs.declared.hop_why.HopWhy.{HopWhy}
use Rattle.vt_procs.specs.Callers.{caller_at}
use Rattle.vt_procs.specs.declared.waiting.Waiting.{Waiting}
use Rattle.vt_procs.specs.declared.waiting.Waiting.TheVariants as waiting
use Rattle.vt_switch.specs.declared.mark.Mark.{Mark}
use Rattle.vt_switch.specs.declared.mark.Mark.TheVariants as mark
use Rattle.vt_world.specs.State.{WorldState}

-- how an owner let the display go, and in which entry and by which signal it was asked
unfoldable pub ask_text : Form → List ℕ → List ℕ → ℕ → ℕ → ℕ → List ℕ
ask_text f in_lines in_json owner asked signal =
    joined (by_form f in_lines in_json
    ∷ caller_text owner
    ∷ by_form f (codes ", asked in entry ") (codes "\",\"asked\":")
    ∷ decimal asked
    ∷ by_form f (codes " by signal ") (codes ",\"signal\":")
    ∷ decimal signal
    ∷ by_form f (codes "\n") (codes "}")
    ∷ [])

unfoldable pub cause_text : Form → HopCause → List ℕ
cause_text f why.Free = joined (by_form f (codes "free\n") (codes "free\"}") ∷ [])
cause_text f (why.Released owner asked signal) =
    ask_text f (codes "released by ") (codes "released\",\"owner\":\"") owner asked signal
cause_text f (why.Died owner asked signal) =
    ask_text f (codes "died with ") (codes "died\",\"owner\":\"") owner asked signal

unfoldable pub switch_text : Form → HopWhy → List ℕ
switch_text f w =
    joined (by_form f (codes "    switch from ") (codes ",{\"what\":\"switch\",\"from\":")
    ∷ decimal w.from
    ∷ by_form f (codes " to ") (codes ",\"to\":")
    ∷ decimal w.to
    ∷ by_form f (codes ": ") (codes ",\"cause\":\"")
    ∷ [])
    ++ cause_text f w.cause

-- the switch of a certificate's item, if there is one
abbrev pub hop_text : Form → Option HopWhy → List ℕ
hop_text f None = []
hop_text f (Some w) = switch_text f w

-- the fact of a mark of the trace, after so many switches of the history: the switch is the item of the
-- certificate at that place
abbrev pub mark_text : Form → ℕ → List HopWhy → ℕ → Mark → List ℕ
mark_text f caller cert count (mark.Asked n) =
    joined (by_form f (codes "    ") (codes ",{\"what\":\"request\",\"caller\":\"")
    ∷ caller_text caller
    ∷ by_form f (codes " requests console ") (codes "\",\"console\":")
    ∷ decimal n
    ∷ by_form f (codes "\n") (codes "}")
    ∷ [])
mark_text f caller cert count (mark.Raised p signal) =
    joined (by_form f (codes "    signal ") (codes ",{\"what\":\"signal\",\"signal\":")
    ∷ decimal signal
    ∷ by_form f (codes " to ") (codes ",\"to\":\"")
    ∷ caller_text p
    ∷ by_form f (codes "\n") (codes "\"}")
    ∷ [])
mark_text f caller cert count (mark.Hopped hop) = hop_text f (slice_get cert count)
mark_text f caller cert count (mark.Ended p) =
    joined (by_form f (codes "    ") (codes ",{\"what\":\"end\",\"caller\":\"")
    ∷ caller_text p
    ∷ by_form f (codes " ends\n") (codes "\"}")
    ∷ [])

-- switches are counted up to the greatest number, as the machine counts them
abbrev pub count_after : Mark → ℕ → ℕ
count_after (mark.Hopped hop) count = min 18446744073709551615 (count + 1)
count_after m count = count

-- the facts of an entry's trace
abbrev pub trace_text : Form → ℕ → List HopWhy → ℕ → List Mark → List ℕ
trace_text f caller cert count [] = []
trace_text f caller cert count (m ∷ marks) =
    mark_text f caller cert count m ++ trace_text f caller cert (count_after m count) marks

-- the state of each caller's wait
abbrev pub wait_of : WorldState → ℕ → Waiting
wait_of w p = (caller_at w.callers p).waiting

abbrev pub waits_of : WorldState → List Waiting
waits_of w = map (wait_of w) (range_with_len 0 callers)

unfoldable pub ended_text : Form → ℕ → List ℕ → List ℕ
ended_text f p how =
    joined (by_form f (codes "    wait of ") (codes ",{\"what\":\"wait\",\"caller\":\"")
    ∷ caller_text p
    ∷ by_form f (codes ": ") (codes "\",\"how\":\"")
    ∷ how
    ∷ by_form f (codes "\n") (codes "\"}")
    ∷ [])

-- a wait that ended, from its state before and after the entry
abbrev pub wait_text : Form → ℕ → Waiting → Waiting → List ℕ
wait_text f p waiting.Nothing waiting.Done = ended_text f p (codes "ok")
wait_text f p waiting.Nothing waiting.Broken = ended_text f p (codes "EINTR")
wait_text f p (waiting.Open ticket) waiting.Done = ended_text f p (codes "ok")
wait_text f p (waiting.Open ticket) waiting.Broken = ended_text f p (codes "EINTR")
wait_text f p (waiting.Open ticket) waiting.Nothing = ended_text f p (codes "gone")
wait_text f p before after = []

-- the same from the states of all waits before it
abbrev pub wait_text_at : Form → List Waiting → WorldState → ℕ → List ℕ
wait_text_at f before after p = wait_text f p (slice_index_or before p waiting.Nothing) (wait_of after p)

-- the waits that ended, by rising callers
unfoldable pub waits_text : Form → List Waiting → WorldState → List ℕ
waits_text f before after = flat_map (wait_text_at f before after) (range_with_len 0 callers)

-- the facts of an entry, and the waits that ended
abbrev pub facts_text : Form → List HopWhy → Sight → List ℕ
facts_text f cert s =
    trace_text f s.entry.caller cert s.before.trace.hops s.after.trace.marks
    ++ waits_text f (waits_of s.before) s.after
