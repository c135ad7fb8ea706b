-- The table of events: for each event of caller p, the tests that refuse it, in order, and the answer
-- and the deeds of an event that passes them (ioctl_console(2), vcs(4)). The order of the tests is this
-- project's own, and so are waits, `accept`, signals and the dump of code points.
use Rattle.std.specs.Prelude.{ℕ, ◌==◌, ◌&&◌, ◌||◌, ◌%◌, true, not, nat_le, List, [], ◌∷◌, length, false, is_some, unwrap_or, if◌then◌else◌, ◌+◌, ◌*◌, ◌/◌, slice_index}
use Rattle.call_bytes.specs.Colours.{colours_in, colours_text}
use Rattle.call_bytes.specs.Pairs.{pairs_in, pairs_text}
use Rattle.call_bytes.specs.Words.{words_in, words_text}
use Rattle.key_syms.specs.Act.{is_action, act}
use Rattle.key_tables.specs.Tables.{exists_in, entry_of, func_of, with_entry, with_func, with_pairs}
use Rattle.scan_codes.specs.Groups.{is_scan}
use Rattle.vt_base.specs.Keyboards.{keyboard_of}
use Rattle.vt_base.specs.declared.errno.Errno.TheVariants.{Srch, Nxio, Again, Busy, Perm}
use Rattle.vt_events.specs.declared.event.Event.{Event}
use Rattle.vt_events.specs.declared.event.Event.TheVariants as event
use Rattle.vt_events.specs.declared.reply.Reply.TheVariants as reply
use Rattle.vt_procs.specs.Callers.{free_fd, is_live}
use Rattle.vt_procs.specs.Tickets.{is_open}
use Rattle.vt_procs.specs.declared.ticket.Ticket.TheVariants.{Active, AnySignal, Input}
use Rattle.vt_canvas.specs.Change.{palette, resize, user_map}
use Rattle.vt_switch.specs.Acts.{End, Lock, Release, Request, SetKd, SetMode}
use Rattle.vt_switch.specs.Calls.{handling_of, release_result, words_of}
use Rattle.vt_switch.specs.Display.{is_allocated, console}
use Rattle.vt_world.specs.Deeds.{Accepts, Alters, By, Collects, Keyed, Mapped, Opens, Own, Receives, Coded, Shuts, Unplugs, Waits}
use Rattle.vt_world.specs.Refusals.{caller, is_empty, is_in_use, mode_of, console_by_number, target, Refusal, refusal, needs_open, needs_right, needs_privilege, needs_sight, needs_console, needs_console_or_0, needs_sense, needs_no_signal, is_taken, transfer_limit, is_signal, is_process, is_flags, is_keycode, holds_ticket, sets, gets}
use Rattle.vt_world.specs.Rows.{EventRow, row_of, does, tells, tells_bytes, waits_unless, read_count, takes_front, ended_reply, with_allocation, disallocate_deeds, lowest_unopened, allocated_mask, write_deeds, keys, lights_of, act_of, act_reply, dump_of, tells_screen}
use Rattle.vt_world.specs.Spare.{is_extent}
use Rattle.vt_world.specs.State.{WorldState}
use Rattle.vt_world.specs.Typing.{scan_deeds, scanner_of, signal_deed}

-- the rule of an event: the tests that may refuse it, and the row of an event that none refuses
pub record Rule : Type 0 where
  pub refusals : List Refusal
  pub row : EventRow

-- the rule of these tests and of this row
abbrev pub on : List Refusal → EventRow → Rule
on refusals row = record { refusals = refusals; row = row }

-- the table of events
abbrev pub rule : WorldState → ℕ → Event → Rule
rule w p (event.Scan b) =
    on [] (row_of reply.Done (scan_deeds w (unwrap_or (keyboard_of p) 0) w.display.front b))
rule w p event.Exit = on [] (row_of reply.Done (By (End p) ∷ Own (Unplugs p) ∷ []))
rule w p (event.OpenCon n) =
    on (needs_console_or_0 n ∷ refusal (not (is_some (free_fd w.callers p))) Busy ∷ [])
    (row_of (reply.Num (unwrap_or (free_fd w.callers p) 0))
    (with_allocation (console_by_number w n) (Own (Opens p (console_by_number w n)) ∷ [])))
rule w p (event.CloseFd fd) = on (needs_open w p fd ∷ []) (does (Own (Shuts p fd)))
rule w p (event.Write fd b) =
    on (gets w p fd (nat_le (length b.bytes) transfer_limit))
    (row_of (reply.Num (length b.bytes)) (write_deeds w (target w p fd) b.bytes))
rule w p (event.ReadIn fd most) =
    on
    (needs_open w p fd ∷ needs_sense (nat_le 1 most && nat_le most transfer_limit)
    ∷ refusal (is_empty w (target w p fd)) Again ∷ [])
    (takes_front w (target w p fd) (read_count w (target w p fd) most))
rule w p (event.WaitInput fd) =
    on (needs_open w p fd ∷ needs_no_signal w p (is_empty w (target w p fd)) ∷ [])
    (waits_unless (not (is_empty w (target w p fd))) p (Input (target w p fd)))
rule w p (event.WaitActive fd n) =
    on
    (needs_open w p fd ∷ needs_right w p fd ∷ needs_console n
    ∷ needs_no_signal w p (not (n == w.display.front)) ∷ [])
    (waits_unless (n == w.display.front) p (Active n))
rule w p event.WaitSignal =
    on (needs_no_signal w p true ∷ []) (row_of reply.Wait (Own (Waits p AnySignal) ∷ []))
rule w p event.WaitEnd =
    on (needs_sense (holds_ticket w p) ∷ refusal (is_open (caller w p).waiting) Again ∷ [])
    (row_of (ended_reply (caller w p).waiting) (Own (Collects p) ∷ []))
rule w p (event.Activate fd n) =
    on (needs_open w p fd ∷ needs_right w p fd ∷ needs_console n ∷ refusal w.display.locked Busy ∷ [])
    (row_of reply.Done (with_allocation n (By (Request n) ∷ [])))
rule w p (event.Disallocate fd n) =
    on
    (needs_open w p fd ∷ needs_right w p fd ∷ needs_console_or_0 n
    ∷ refusal (not (n == 0) && is_in_use w n) Busy ∷ [])
    (row_of reply.Done (disallocate_deeds w n))
rule w p (event.OpenQry fd) = on (needs_open w p fd ∷ []) (tells (lowest_unopened w))
rule w p (event.GetState fd) =
    on (needs_open w p fd ∷ []) (row_of (reply.State w.display.front (allocated_mask w.display)) [])
rule w p (event.Resize fd rows cols) =
    on (sets w p fd (is_extent rows cols)) (does (Own (Alters (target w p fd) (resize rows cols))))
rule w p (event.LockSwitch fd) =
    on (needs_open w p fd ∷ needs_privilege w p ∷ []) (does (By (Lock true)))
rule w p (event.UnlockSwitch fd) =
    on (needs_open w p fd ∷ needs_privilege w p ∷ []) (does (By (Lock false)))
rule w p (event.SetKd fd m) =
    on (sets w p fd (nat_le m 1)) (does (By (SetKd (target w p fd) (m == 1))))
rule w p (event.GetKd fd) =
    on (needs_open w p fd ∷ [])
    (tells (if (console w.display (target w p fd)).graphics then 1 else 0))
rule w p (event.SetMode fd m wait r a f) =
    on (sets w p fd (is_some (handling_of p (mode_of m wait r a f))))
    (does (By (SetMode (target w p fd) p (mode_of m wait r a f))))
rule w p (event.GetMode fd) =
    on (needs_open w p fd ∷ [])
    (row_of (reply.Mode (words_of (console w.display (target w p fd)).handling)) [])
rule w p (event.RelDisp fd arg) =
    on (sets w p fd (is_taken (release_result w.display (target w p fd) p arg)))
    (does (By (Release (target w p fd) p arg)))
rule w p (event.SetKb fd m) =
    on (sets w p fd (nat_le m 4))
    (does (Own (Keyed (target w p fd) (record (keys w (target w p fd)) { mode = m }))))
rule w p (event.GetKb fd) = on (needs_open w p fd ∷ []) (tells (keys w (target w p fd)).mode)
rule w p (event.SetMeta fd m) =
    on (sets w p fd (m == 3 || m == 4))
    (does (Own (Keyed (target w p fd) (record (keys w (target w p fd)) { meta = m }))))
rule w p (event.GetMeta fd) = on (needs_open w p fd ∷ []) (tells (keys w (target w p fd)).meta)
rule w p (event.SetLed fd v) =
    on (needs_open w p fd ∷ needs_right w p fd ∷ [])
    (does (Own (Keyed (target w p fd) (record (keys w (target w p fd)) { lights = lights_of v }))))
rule w p (event.GetLed fd) =
    on (needs_open w p fd ∷ [])
    (tells (unwrap_or (keys w (target w p fd)).lights (keys w (target w p fd)).flags))
rule w p (event.SetFlags fd v) =
    on (sets w p fd (is_flags v))
    (does (Own (Keyed (target w p fd) (record (keys w (target w p fd)) {
      flags = v % 16;
      defaults = v / 16;
    }))))
rule w p (event.GetFlags fd) =
    on (needs_open w p fd ∷ [])
    (tells ((keys w (target w p fd)).flags + 16 * (keys w (target w p fd)).defaults))
rule w p (event.SetEntry fd t code k v) =
    on (sets w p fd (exists_in w.board.tables t && (is_keycode code && is_action k v)))
    (does (Own (Mapped (with_entry w.board.tables t code (act k v)))))
rule w p (event.GetEntry fd t code) =
    on (gets w p fd (nat_le t 255 && is_keycode code))
    (row_of (act_reply (act_of (entry_of w.board.tables t code))) [])
rule w p (event.SetFunc fd i b) =
    on (sets w p fd (nat_le i 255 && nat_le (length b.bytes) 255))
    (does (Own (Mapped (with_func w.board.tables i b.bytes))))
rule w p (event.GetFunc fd i) =
    on (gets w p fd (nat_le i 255)) (tells_bytes (func_of w.board.tables i))
rule w p (event.SetDia fd b) =
    on (sets w p fd (is_some (pairs_in b.bytes)))
    (does (Own (Mapped (with_pairs w.board.tables (unwrap_or (pairs_in b.bytes) [])))))
rule w p (event.GetDia fd) =
    on (needs_open w p fd ∷ []) (tells_bytes (pairs_text w.board.tables.pairs))
rule w p (event.SetCode fd scan code) =
    on (sets w p fd (is_scan scan && nat_le code 255)) (does (Own (Coded scan code)))
rule w p (event.GetCode fd scan) =
    on (gets w p fd (is_scan scan)) (tells (slice_index (scanner_of w.board.scanners 0).codes scan))
rule w p (event.Accept fd s) =
    on (sets w p fd (is_signal s && not (s == 9))) (does (Own (Accepts p s)))
rule w p (event.SetMap fd b) =
    on (sets w p fd (is_some (words_in b.bytes)))
    (does (Own (Alters (target w p fd) (user_map (unwrap_or (words_in b.bytes) [])))))
rule w p (event.GetMap fd) =
    on (needs_open w p fd ∷ []) (tells_screen w (target w p fd) (λ s. words_text s.state.map))
rule w p (event.SetPal fd b) =
    on (sets w p fd (is_some (colours_in b.bytes)))
    (does (Own (Alters (target w p fd) (palette (unwrap_or (colours_in b.bytes) [])))))
rule w p (event.GetPal fd) =
    on (needs_open w p fd ∷ []) (tells_screen w (target w p fd) (λ s. colours_text s.state.palette))
rule w p (event.Dump kind n) =
    on
    (needs_sight w p (console_by_number w n) ∷ needs_console_or_0 n
    ∷ needs_sense (nat_le kind 2 && is_allocated w.display (console_by_number w n)) ∷ [])
    (tells_screen w (console_by_number w n) (dump_of kind))
rule w p event.TakeSignals =
    on [] (row_of (reply.Sigs (caller w p).pending) (Own (Receives p) ∷ []))
rule w p (event.Kill q s) =
    on
    (refusal (not ((caller w p).privileged || q == p)) Perm ∷ refusal (not (is_process q)) Nxio
    ∷ needs_sense (is_signal s) ∷ refusal (not (is_live w.callers q)) Srch ∷ [])
    (does (signal_deed q s))

-- the tests of an event, in order
abbrev pub own_refusals : WorldState → ℕ → Event → List Refusal
own_refusals w p e = (rule w p e).refusals

-- the answer and the deeds of an event that isn't refused
abbrev pub row : WorldState → ℕ → Event → EventRow
row w p e = (rule w p e).row
