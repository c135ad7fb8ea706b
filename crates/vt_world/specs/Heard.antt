-- The effect of each mark on the callers and on the trace. The rules are this project's own.
use Rattle.std.specs.Prelude.{ℕ, ◌+◌, min, List, [], ◌∷◌, ◌++◌}
use Rattle.vt_procs.specs.Callers.{Callers, after_exit}
use Rattle.vt_procs.specs.Tickets.{after_raise, after_display_of}
use Rattle.vt_switch.specs.declared.mark.Mark.{Mark}
use Rattle.vt_switch.specs.declared.mark.Mark.TheVariants as mark
use Rattle.vt_world.specs.State.{Trace, WorldState}

-- a raised signal is pending, and ends its process's open ticket; open tickets for a console that
-- gets the display end; and a caller that ended is dead
abbrev pub callers_after_mark : Mark → Callers → Callers
callers_after_mark (mark.Asked n) callers = callers
callers_after_mark (mark.Raised p signal) callers = after_raise p signal callers
callers_after_mark (mark.Hopped hop) callers = after_display_of hop.to callers
callers_after_mark (mark.Ended p) callers = after_exit p callers

-- switches of the display are counted, up to the greatest number of 64 bits
abbrev pub hops_after : Mark → ℕ → ℕ
hops_after (mark.Hopped hop) hops = min 18446744073709551615 (hops + 1)
hops_after m hops = hops

abbrev pub with_mark : Mark → Trace → Trace
with_mark m trace = record {
  marks = trace.marks ++ m ∷ [];
  hops = hops_after m trace.hops;
}

-- a mark has its effect on the callers, and the trace gets it
abbrev pub apply_mark : WorldState → Mark → WorldState
apply_mark w m = record w { callers = callers_after_mark m w.callers; trace = with_mark m w.trace }

-- one mark after another
abbrev pub apply_marks : WorldState → List Mark → WorldState
apply_marks w [] = w
apply_marks w (m ∷ marks) = apply_marks (apply_mark w m) marks

-- the trace is empty
abbrev pub without_marks : WorldState → WorldState
without_marks w = record w { trace = record w.trace { marks = [] } }
