-- A caller's rights matter to its own calls alone.
use Rattle.std.proofs.Common.{◌≡◌, ◌≢◌, ℕ, zero, suc, Bool, true, false, List, [], ◌∷◌, get_or, set, map, filter, flat_map, Option, Some, None, Result, Ok, Err, refl, ap, ◌∙◌}
use Rattle.std.proofs.lemmas.List.{get_or-set_other}
use Rattle.std.specs.List.{list_any, range_with_len}
use Rattle.std.specs.Prelude.{◌==◌, ◌&&◌, ◌||◌, not, find, is_some, unwrap_or, if◌then◌else◌}
use Rattle.key_machine.specs.declared.key_out.KeyOut.{KeyOut}
use Rattle.key_machine.specs.declared.key_out.KeyOut.TheVariants as key_out
use Rattle.scan_codes.specs.Scan.{Scan, event_after}
use Rattle.scan_codes.specs.declared.key_event.KeyEvent.{KeyEvent}
use Rattle.vt_base.specs.Keyboards.{keyboard_of}
use Rattle.vt_base.specs.declared.errno.Errno.{Errno}
use Rattle.vt_base.specs.declared.errno.Errno.TheVariants.{Srch, Nxio, Badf, Inval, Notty, Busy, Perm}
use Rattle.vt_events.specs.declared.event.Event.{Event}
use Rattle.vt_events.specs.declared.event.Event.TheVariants as event
use Rattle.vt_events.specs.declared.reply.Reply.{Reply}
use Rattle.vt_events.specs.declared.reply.Reply.TheVariants as reply
use Rattle.vt_procs.specs.Callers.{Callers, adds_open, caller_at, dead_process, has_open, is_live, is_opened, loses_open, no_caller}
use Rattle.vt_procs.specs.Rights.{after_admission, with_rights}
use Rattle.vt_procs.specs.Tickets.{after_idle_rule, after_input_on, after_signal, after_success, can_go, is_for_display, is_for_input, waited_of, waiting_after_report, with_signal_pending, with_waiting, without_pending}
use Rattle.vt_procs.specs.declared.proc_start.ProcStart.{ProcStart}
use Rattle.vt_procs.specs.declared.process.Process.{Process}
use Rattle.vt_procs.specs.declared.waiting.Waiting.TheVariants.{Open}
use Rattle.vt_switch.specs.Acts.{SwitchAct, Request, SetKd}
use Rattle.vt_switch.specs.Calls.{is_held, owns}
use Rattle.vt_switch.specs.Moments.{Core, core_after, marks, raise}
use Rattle.vt_switch.specs.declared.mark.Mark.{Mark}
use Rattle.vt_switch.specs.declared.mark.Mark.TheVariants as mark
use Rattle.vt_world.specs.Deeds.{Deed, By, Asks, Own, OwnDeed, Puts, Opens, Shuts, Waits, Collects, Receives, Raises, Scanned, after_switch_act, apply_deeds, apply_deed, apply_own_deed, after_request, with_input}
use Rattle.vt_world.specs.Events.{Rule, on, rule}
use Rattle.vt_world.specs.Heard.{apply_mark, apply_marks, callers_after_mark, without_marks}
use Rattle.vt_world.specs.Inputs.{comes, input_at}
use Rattle.vt_world.specs.Refusals.{Refusal, common_refusals, ends_wait, first_refusal, has_ticket, is_process, is_signal, may_make, needs_console_or_0, needs_sense, refusal}
use Rattle.vt_world.specs.Rights.{RightsAreOwn, admitted}
use Rattle.vt_world.specs.Rows.{EventRow, does, free_deeds, row_of, tells}
use Rattle.vt_world.specs.State.{WorldState, core}
use Rattle.vt_world.specs.Step.{RowResult, outcome_of_result, outcome_of_row, row_result, row_result_after, step}
use Rattle.vt_world.specs.Typing.{ends_of, key_deeds, key_on, key_out_deeds, read_by, read_deeds, scan_deeds, scanner_of, signal_deed, users}
use Rattle.vt_world.specs.Wanted.{wanted_in}

-- the caller at a place, changed
abbrev pub alter : (Process → Process) → ℕ → List Process → List Process
alter f p l = set l p (f (get_or l p no_caller))

alter_alter : (f g : Process → Process) → ((x : Process) → f (g x) ≡ g (f x)) → (p q : ℕ) (l : List Process)
    → alter f q (alter g p l) ≡ alter g p (alter f q l)
alter_alter f g same p q [] = refl
alter_alter f g same zero zero (x ∷ l) = ap (λ (y : Process). y ∷ l) (same x)
alter_alter f g same zero (suc q) (x ∷ l) = refl
alter_alter f g same (suc p) zero (x ∷ l) = refl
alter_alter f g same (suc p) (suc q) (x ∷ l) = ap (λ (xs : List Process). x ∷ xs) (alter_alter f g same p q l)

map_alter : (f g : Process → Process) → ((x : Process) → f (g x) ≡ g (f x)) → (p : ℕ) (l : List Process)
    → map f (alter g p l) ≡ alter g p (map f l)
map_alter f g same p [] = refl
map_alter f g same zero (x ∷ l) = ap (λ (y : Process). y ∷ map f l) (same x)
map_alter f g same (suc p) (x ∷ l) = ap (λ (xs : List Process). f x ∷ xs) (map_alter f g same p l)

any_alter : (t : Process → Bool) (g : Process → Process) → ((x : Process) → t (g x) ≡ t x) → (p : ℕ)
    (l : List Process) → list_any t (alter g p l) ≡ list_any t l
any_alter t g same p [] = refl
any_alter t g same zero (x ∷ l) = ap (λ (b : Bool). b || list_any t l) (same x)
any_alter t g same (suc p) (x ∷ l) = ap (λ (b : Bool). t x || b) (any_alter t g same p l)

map_kept : {A : Type 0} (t : Process → A) (g : Process → Process) → ((x : Process) → t (g x) ≡ t x) → (p : ℕ)
    (l : List Process) → map t (alter g p l) ≡ map t l
map_kept t g same p [] = refl
map_kept {A} t g same zero (x ∷ l) = ap (λ (y : A). y ∷ map t l) (same x)
map_kept {A} t g same (suc p) (x ∷ l) = ap (λ (ys : List A). t x ∷ ys) (map_kept t g same p l)

at_kept : {A : Type 0} (t : Process → A) (g : Process → Process) → ((x : Process) → t (g x) ≡ t x) → (p q : ℕ)
    (l : List Process) → t (get_or (alter g p l) q no_caller) ≡ t (get_or l q no_caller)
at_kept t g same p q [] = refl
at_kept t g same zero zero (x ∷ l) = same x
at_kept t g same zero (suc q) (x ∷ l) = refl
at_kept t g same (suc p) zero (x ∷ l) = refl
at_kept t g same (suc p) (suc q) (x ∷ l) = at_kept t g same p q l

module _ (p : ℕ) (r : ProcStart) where
  abbrev given : Process → Process
  given x = with_rights r x

  abbrev a : Callers → Callers
  a c = after_admission p r c

  abbrev A : WorldState → WorldState
  A w = admitted p r w

  -- callers with another list
  abbrev listed : Callers → List Process → Callers
  listed c l = record c { list = l }

  -- marks
  mark_commutes : (m : Mark) (c : Callers) → callers_after_mark m (a c) ≡ a (callers_after_mark m c)
  mark_commutes (mark.Asked n) c = refl
  mark_commutes (mark.Raised q s) c =
      ap (listed c) (alter_alter (λ x. with_signal_pending x s) given (λ x. refl) p q c.list)
  mark_commutes (mark.Hopped hop) c =
      ap (listed c) (map_alter (λ x. with_waiting x (after_success (is_for_display hop.to) x.waiting)) given (λ x. refl) p c.list)
  mark_commutes (mark.Ended q) c =
      ap (listed (callers_after_mark (mark.Ended q) c)) (alter_alter dead_process given (λ x. refl) p q c.list)

  marks_commute : (ms : List Mark) (w : WorldState) → apply_marks (A w) ms ≡ A (apply_marks w ms)
  marks_commute [] w = refl
  marks_commute (m ∷ ms) w =
      ap (λ (c : Callers). apply_marks (record (apply_mark w m) { callers = c }) ms) (mark_commutes m w.callers)
      ∙ marks_commute ms (apply_mark w m)

  -- deeds
  core_same : (w : WorldState) → core (A w) ≡ core w
  core_same w =
      ap (λ (live : List Bool). record (core w) { live = live })
      (map_kept (λ x. x.live) given (λ x. refl) p w.callers.list)

  act_commutes : (w : WorldState) (act : SwitchAct) → after_switch_act (A w) act ≡ A (after_switch_act w act)
  act_commutes w act =
      ap (λ (k : Core). apply_marks (record (A w) { display = (core_after k act).display }) (marks k act))
      (core_same w)
      ∙ marks_commute (marks (core w) act) (record w { display = (core_after (core w) act).display })

  request_commutes : (w : WorldState) (n : Option ℕ) → after_request (A w) n ≡ A (after_request w n)
  request_commutes w None = refl
  request_commutes w (Some n) = act_commutes w (Request n)

  input_commutes : (b : Bool) (n : ℕ) (c : Callers)
      → (if b then after_input_on n (a c) else a c) ≡ a (if b then after_input_on n c else c)
  input_commutes true n c =
      ap (listed c) (map_alter (λ x. with_waiting x (after_success (is_for_input n) x.waiting)) given (λ x. refl) p c.list)
  input_commutes false n c = refl

  -- one caller changes in the same way
  one : (w : WorldState) (f : Process → Process) (q : ℕ) → ((x : Process) → f (given x) ≡ given (f x))
      → record (A w) { callers = listed w.callers (alter f q (a w.callers).list) }
      ≡ record w { callers = listed w.callers (alter given p (alter f q w.callers.list)) }
  one w f q same =
      ap (λ (l : List Process). record w { callers = listed w.callers l })
      (alter_alter f given same p q w.callers.list)

  own_commutes : (w : WorldState) (deed : OwnDeed) → apply_own_deed (A w) deed ≡ A (apply_own_deed w deed)
  own_commutes w (Puts n piece) =
      ap (λ (c : Callers). record (with_input n piece w) { callers = c })
      (input_commutes (comes (input_at w.inputs n).queue piece) n w.callers)
  own_commutes w (Opens q n) = one w (λ x. adds_open x n) q (λ x. refl)
  own_commutes w (Shuts q fd) = one w (λ x. loses_open x fd) q (λ x. refl)
  own_commutes w (Waits q ticket) = one w (λ x. with_waiting x (Open ticket)) q (λ x. refl)
  own_commutes w (Collects q) = one w (λ x. with_waiting x (waiting_after_report x.waiting)) q (λ x. refl)
  own_commutes w (Receives q) = one w without_pending q (λ x. refl)
  own_commutes w (Raises q s) =
      ap (λ (k : Core). apply_marks (A w) (raise k q s)) (core_same w) ∙ marks_commute (raise (core w) q s) w
  own_commutes w deed = refl

  deed_commutes : (w : WorldState) (deed : Deed) → apply_deed (A w) deed ≡ A (apply_deed w deed)
  deed_commutes w (By act) = act_commutes w act
  deed_commutes w (Asks wanted) = request_commutes w (wanted_in w.display wanted)
  deed_commutes w (Own deed) = own_commutes w deed

  deeds_commute : (deeds : List Deed) (w : WorldState) → apply_deeds (A w) deeds ≡ A (apply_deeds w deeds)
  deeds_commute [] w = refl
  deeds_commute (deed ∷ deeds) w =
      ap (λ (v : WorldState). apply_deeds v deeds) (deed_commutes w deed) ∙ deeds_commute deeds (apply_deed w deed)

  -- the idle rule
  abbrev idled : Callers → Callers
  idled c = listed c (map (λ x. with_waiting x (after_signal x.waiting)) c.list)

  idle_either : (b : Bool) (c : Callers) → (if b then a c else idled (a c)) ≡ a (if b then c else idled c)
  idle_either true c = refl
  idle_either false c =
      ap (listed c) (map_alter (λ x. with_waiting x (after_signal x.waiting)) given (λ x. refl) p c.list)

  idle_commutes : (c : Callers) → after_idle_rule (a c) ≡ a (after_idle_rule c)
  idle_commutes c =
      ap (λ (b : Bool). if b then a c else idled (a c)) (any_alter can_go given (λ x. refl) p c.list)
      ∙ idle_either (list_any can_go c.list) c

  -- what events read of the callers
  live_same : (c : Callers) (q : ℕ) → is_live (a c) q ≡ is_live c q
  live_same c q = at_kept (λ x. x.live) given (λ x. refl) p q c.list

  opened_same : (c : Callers) (n : ℕ) → is_opened (a c) n ≡ is_opened c n
  opened_same c n = any_alter (λ x. has_open x.opens n) given (λ x. refl) p c.list

  has_same : (c : Callers) (q n : ℕ) → has_open (caller_at (a c) q).opens n ≡ has_open (caller_at c q).opens n
  has_same c q n = at_kept (λ x. has_open x.opens n) given (λ x. refl) p q c.list

  -- scans
  users_same : (w : WorldState) (n : ℕ) → users (A w) n ≡ users w n
  users_same w n = λ i. filter
      (λ q. live_same w.callers q i && (owns w.display q n || has_same w.callers q n i)) (range_with_len 1 64)

  heard_same : (w : WorldState) (n : ℕ) (out : KeyOut) → key_out_deeds (A w) n out ≡ key_out_deeds w n out
  heard_same w n key_out.Attention = λ i. ends_of (users_same w n i) (By (SetKd n false) ∷ [])
  heard_same w n out = refl

  key_same : (w : WorldState) (k n : ℕ) (e : Option KeyEvent) → key_deeds (A w) k n e ≡ key_deeds w k n e
  key_same w k n None = refl
  key_same w k n (Some e) =
      ap (λ (deeds : List Deed). Own (OwnDeed.Types n (key_on w k n e).keys (key_on w k n e).state) ∷ deeds)
      (heard_same w n (key_on w k n e).out)

  read_same : (w : WorldState) (k n b : ℕ) → read_deeds (A w) k n b ≡ read_deeds w k n b
  read_same w k n b =
      let scanner : Scan = scanner_of w.board.scanners k in
      ap (λ (deeds : List Deed). Own (Scanned k (read_by scanner b)) ∷ deeds)
      (key_same w k n (event_after scanner.codes scanner.bytes b))

  scan_same : (w : WorldState) (k n b : ℕ) → scan_deeds (A w) k n b ≡ scan_deeds w k n b
  scan_same w k n b =
      ap (λ (deeds : List Deed). if (input_at w.inputs n).keys.mode == 0 then Own (Puts n (b ∷ [])) ∷ deeds else deeds)
      (read_same w k n b)

  -- a rule of another caller
  own_same : (c : Callers) (q : ℕ) → q ≢ p → caller_at (a c) q ≡ caller_at c q
  own_same c q other = get_or-set_other c.list p q (given (get_or c.list p no_caller)) no_caller other

  rule_same : (w : WorldState) (q : ℕ) (e : Event) → q ≢ p → rule (A w) q e ≡ rule w q e
  rule_same w q (event.Scan b) other =
      ap (λ (deeds : List Deed). on [] (row_of reply.Done deeds))
      (scan_same w (unwrap_or (keyboard_of q) 0) w.display.front b)
  rule_same w q event.Exit other = refl
  rule_same w q (event.Disallocate fd n) other =
      let own = own_same w.callers q other in
      let used : (c : ℕ) → (c == 1 || is_held w.display c || is_opened (a w.callers) c)
      ≡ (c == 1 || is_held w.display c || is_opened w.callers c) =
      λ c i. c == 1 || is_held w.display c || opened_same w.callers c i in
      λ i. on
      (refusal (not (is_some (get_or (own i).opens fd None))) Badf
      ∷ refusal (not ((own i).privileged || unwrap_or (get_or (own i).opens fd None) 0 == (own i).home)) Perm
      ∷ needs_console_or_0 n ∷ refusal (not (n == 0) && used n i) Busy ∷ [])
      (row_of reply.Done
      (if n == 0 then flat_map free_deeds (filter (λ c. not (used c i)) (range_with_len 1 63)) else free_deeds n))
  rule_same w q (event.OpenQry fd) other =
      let own = own_same w.callers q other in
      λ i. on (refusal (not (is_some (get_or (own i).opens fd None))) Badf ∷ [])
      (tells (unwrap_or (find (λ c. not (opened_same w.callers c i)) (range_with_len 1 63)) 0))
  rule_same w q (event.Kill k s) other =
      let own = own_same w.callers q other in
      λ i. on
      (refusal (not ((own i).privileged || k == q)) Perm ∷ refusal (not (is_process k)) Nxio
      ∷ needs_sense (is_signal s) ∷ refusal (not (live_same w.callers k i)) Srch ∷ [])
      (does (signal_deed k s))
  rule_same w q e other =
      let own : caller_at (a w.callers) q ≡ caller_at w.callers q = own_same w.callers q other in rw own refl

  common_same : (w : WorldState) (q : ℕ) (e : Event) → q ≢ p → common_refusals (A w) q e ≡ common_refusals w q e
  common_same w q e other =
      let own = own_same w.callers q other in
      λ i. refusal (not (own i).live) Srch ∷ refusal (not (may_make q e)) Notty
      ∷ refusal (has_ticket (waited_of (own i).waiting) && not (ends_wait e)) Inval ∷ []

  -- a step of another caller
  abbrev moved : RowResult → RowResult
  moved x = record x { world = A x.world }

  row_moved : (w : WorldState) (refused : Option Errno) (r : EventRow)
      → row_result (A w) refused r ≡ moved (row_result w refused r)
  row_moved w (Some errno) r = refl
  row_moved w None r = ap (λ (v : WorldState). record (row_result w None r) { world = v }) (deeds_commute r.deeds w)

  after_moved : (w : WorldState) (q : ℕ) (e : Event) (refused : Option Errno) → q ≢ p
      → row_result_after (A w) q e refused ≡ moved (row_result_after w q e refused)
  after_moved w q e (Some errno) other = refl
  after_moved w q e None other =
      ap (λ (x : Rule). row_result (A w) (first_refusal x.refusals) x.row) (rule_same w q e other)
      ∙ row_moved w (first_refusal (rule w q e).refusals) (rule w q e).row

  outcome_moved : (w : WorldState) (answer : Result Reply Errno)
      → outcome_of_result (A w) answer
      ≡ record { world = A (outcome_of_result w answer).world; reply = (outcome_of_result w answer).reply }
  outcome_moved w (Err errno) = refl
  outcome_moved w (Ok x) =
      ap (λ (c : Callers). record (outcome_of_result w (Ok x)) { world = record w { callers = c } })
      (idle_commutes w.callers)

  step_moved : (w : WorldState) (q : ℕ) (e : Event) → q ≢ p
      → step (A w) q e ≡ record { world = A (step w q e).world; reply = (step w q e).reply }
  step_moved w q e other =
      let v : WorldState = without_marks w in
      let none : Option Errno = first_refusal (common_refusals v q e) in
      ap (λ (refusals : List Refusal). outcome_of_row (row_result_after (A v) q e (first_refusal refusals)))
      (common_same v q e other)
      ∙ ap outcome_of_row (after_moved v q e none other)
      ∙ outcome_moved (row_result_after v q e none).world (row_result_after v q e none).answer

pub rights_are_own : RightsAreOwn
rights_are_own p r w q e other = step_moved p r w q e other
