-- The laws of every history from a start: the cause of each switch of the display, and the contents
-- of each screen. They are this project's own.
use Rattle.std.specs.Prelude.{◌≡◌, ◌<◌, ⊤, ℕ, Bool, true, false, List, [], ◌∷◌, ◌++◌, length, Option, Some, None, option_map}
use Rattle.std.specs.List.{list_all}
use Rattle.key_tables.specs.Tables.{Tables}
use Rattle.vt_base.specs.ConsoleSet.{IsFitSet}
use Rattle.vt_base.specs.declared.vt_mode.VtMode.{VtMode}
use Rattle.vt_events.specs.declared.entry.Entry.{Entry}
use Rattle.vt_events.specs.declared.event.Event.{Event}
use Rattle.vt_events.specs.declared.event.Event.TheVariants as event
use Rattle.vt_procs.specs.declared.proc_start.ProcStart.{ProcStart}
use Rattle.vt_switch.specs.Acts.{SwitchAct, Release, Request, SetMode}
use Rattle.vt_switch.specs.Law.{IsExplained, IsLawful, OwnersLive}
use Rattle.vt_switch.specs.Moments.{Core, Moment, all_after, core_after, history, hops, marks, raise, with_acts}
use Rattle.vt_switch.specs.News.{news, news_of}
use Rattle.vt_switch.specs.declared.hop.Hop.{Hop}
use Rattle.vt_switch.specs.declared.mark.Mark.{Mark}
use Rattle.vt_switch.specs.declared.mark.Mark.TheVariants as mark
use Rattle.vt_world.specs.Acts.{event_acts, event_deeds, history_acts}
use Rattle.vt_world.specs.Deeds.{Deed, Asks, By, Own, Raises, apply_deed}
use Rattle.vt_world.specs.Heard.{without_marks}
use Rattle.vt_world.specs.History.{replay}
use Rattle.vt_world.specs.Start.{start_world}
use Rattle.vt_world.specs.State.{WorldState, HasTerminals, core}
use Rattle.vt_world.specs.Step.{step}
use Rattle.vt_world.specs.Tapes.{screen_of, tape_of}
use Rattle.vt_world.specs.Terminals.{emu_of, terminal_at}
use Rattle.vt_world.specs.Refusals.{target}
use Rattle.vt_world.specs.Wanted.{wanted_in}

-- the machine at a start
pub record IsStart (w : WorldState) : Type 0 where
  pub rows : ℕ
  pub cols : ℕ
  pub consoles : ℕ
  pub front : ℕ
  pub keyboards : ℕ
  pub processes : List ProcStart
  pub tables : Tables
  pub fit : IsFitSet consoles front
  pub opened : w ≡ start_world rows cols consoles front keyboards processes tables

-- the acts of a history, each at its time; the newest comes first
abbrev pub moments : WorldState → List Entry → List Moment
moments w entries = history 0 (core w) (history_acts w entries) []

-- one entry more adds the moments of its acts, at the machine that the earlier entries leave
abbrev pub MomentsGrow : Type 0
MomentsGrow =
    (w : WorldState) (entries : List Entry) (entry : Entry)
    → moments w (entries ++ entry ∷ [])
    ≡ with_acts (length entries) (core (replay w entries))
    (event_acts (replay w entries) entry.caller entry.event) (moments w entries)

-- the display law: in every history from a start each switch of the display was allowed
abbrev pub DisplaysAreLawful : Type 0
DisplaysAreLawful =
    (w : WorldState) (entries : List Entry) → IsStart w → IsLawful (moments w entries)

-- the same of every history from this machine, if no console waits for the display in it
abbrev pub DisplaysAreLawfulFrom : WorldState → Type 0
DisplaysAreLawfulFrom w =
    w.display.pending ≡ None → (entries : List Entry) → IsLawful (moments w entries)

-- a console that waits for the display after a history from a start was requested in that history
abbrev pub TargetsAreExplained : Type 0
TargetsAreExplained =
    (w : WorldState) (entries : List Entry) → IsStart w
    → IsExplained (length entries) (core (replay w entries)) (moments w entries)

-- after every history from a start, each process that handles the switches of a console is alive
abbrev pub OwnersAreLive : Type 0
OwnersAreLive =
    (w : WorldState) (entries : List Entry) → IsStart w → OwnersLive (core (replay w entries))

-- acts alone change the display and which callers are alive: an event leaves both as its acts leave
-- them
abbrev pub ActsMakeCores : Type 0
ActsMakeCores =
    (w : WorldState) (p : ℕ) (e : Event)
    → core (step w p e).world ≡ all_after (core w) (event_acts w p e)

abbrev pub is_raise : Mark → Bool
is_raise (mark.Asked n) = false
is_raise (mark.Raised p signal) = true
is_raise (mark.Hopped hop) = false
is_raise (mark.Ended p) = false

-- a trace has some raised signals, then these marks, and then the rest
pub record TellsFirst (own : List Mark) (IsRest : List Mark → Type 0) (trace : List Mark) : Type 0 where
  pub signals : List Mark
  pub more : List Mark
  pub raised : list_all is_raise signals ≡ true
  pub parts : trace ≡ signals ++ (own ++ more)
  pub rest : IsRest more

-- a trace has the marks of these acts, in order, and in addition only raised signals
abbrev pub TellsActs : Core → List SwitchAct → List Mark → Type 0
TellsActs k [] trace = list_all is_raise trace ≡ true
TellsActs k (act ∷ acts) trace =
    TellsFirst (marks k act) (λ more. TellsActs (core_after k act) acts more) trace

abbrev pub TracesTellActs : Type 0
TracesTellActs =
    (w : WorldState) (p : ℕ) (e : Event)
    → TellsActs (core w) (event_acts w p e) (step w p e).world.trace.marks

-- the marks of a deed: those of its acts, or of the signal that it raises without an act
abbrev pub marks_of_request : WorldState → Option ℕ → List Mark
marks_of_request w None = []
marks_of_request w (Some n) = marks (core w) (Request n)

abbrev pub marks_by : WorldState → Deed → List Mark
marks_by w (By act) = marks (core w) act
marks_by w (Asks wanted) = marks_of_request w (wanted_in w.display wanted)
marks_by w (Own (Raises p signal)) = raise (core w) p signal
marks_by w (Own deed) = []

abbrev pub all_marks : WorldState → List Deed → List Mark
all_marks w [] = []
all_marks w (deed ∷ deeds) = marks_by w deed ++ all_marks (apply_deed w deed) deeds

-- the trace of an event has the marks of its deeds
abbrev pub TracesTellDeeds : Type 0
TracesTellDeeds =
    (w : WorldState) (p : ℕ) (e : Event)
    → (step w p e).world.trace.marks ≡ all_marks (without_marks w) (event_deeds (without_marks w) p e)

-- the switches that acts make, in order
abbrev pub hops_of : Core → List SwitchAct → List Hop
hops_of k [] = []
hops_of k (act ∷ acts) = hops (marks k act) ++ hops_of (core_after k act) acts

-- the switches in an event's trace are those of its acts, in order
abbrev pub TracesTellHops : Type 0
TracesTellHops =
    (w : WorldState) (p : ℕ) (e : Event)
    → hops (step w p e).world.trace.marks ≡ hops_of (core w) (event_acts w p e)

-- the marks of an event about the display, which owner is asked and which console gets it, are
-- those of its acts: no other signal stands right after a request
abbrev pub TracesTellNews : Type 0
TracesTellNews =
    (w : WorldState) (p : ℕ) (e : Event)
    → news (step w p e).world.trace.marks ≡ news_of (core w) (event_acts w p e)

-- p called to release console c, with this argument
pub record CallsRelease (w : WorldState) (p : ℕ) (e : Event) (c arg : ℕ) : Type 0 where
  pub fd : ℕ
  pub call : e ≡ event.RelDisp fd arg
  pub console : c ≡ target w p fd

-- p called to set these words of console c
pub record CallsSetMode (w : WorldState) (p : ℕ) (e : Event) (c : ℕ) (m : VtMode) : Type 0 where
  pub fd : ℕ
  pub call : e ≡ event.SetMode fd m.mode m.waitv m.relsig m.acqsig m.frsig
  pub console : c ≡ target w p fd

-- an act that is a release or a set mode is of the caller, whose call asked for it
abbrev pub IsCalled : WorldState → ℕ → Event → SwitchAct → Type 0
IsCalled w p e (Release c q arg) = (q ≡ p) × CallsRelease w p e c arg
IsCalled w p e (SetMode c q m) = (q ≡ p) × CallsSetMode w p e c m
IsCalled w p e act = ⊤

abbrev pub AllCalled : WorldState → ℕ → Event → List SwitchAct → Type 0
AllCalled w p e [] = ⊤
AllCalled w p e (act ∷ acts) = IsCalled w p e act × AllCalled w p e acts

-- every release and every set mode in a history is a call of its entry's caller
abbrev pub ActsAreCalls : Type 0
ActsAreCalls = (w : WorldState) (p : ℕ) (e : Event) → AllCalled w p e (event_acts w p e)

-- after every history from a start, the consoles that have a terminal are those that are allocated
abbrev pub TerminalsAreAllocated : Type 0
TerminalsAreAllocated =
    (w : WorldState) (entries : List Entry) → IsStart w → HasTerminals (replay w entries)

-- the screen law: after every history from a start the screen of each console, with the rest of its
-- text, is its tape, run from the start screen; a console that isn't allocated has neither
abbrev pub ScreensAreTapes : Type 0
ScreensAreTapes =
    (w : WorldState) (entries : List Entry) (start : IsStart w) (c : ℕ) → c < 64
    → emu_of (terminal_at (replay w entries).terminals c)
    ≡ option_map (screen_of start.rows start.cols) (tape_of c w entries)
