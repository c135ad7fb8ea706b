-- Sessions that begin alike.
use Rattle.std.proofs.Common.{◌≡◌, ℕ, List, sym, ap, ◌∙◌}
use Rattle.key_compile.specs.Compiled.{OneValue}
use Rattle.session_order.specs.Ends.{Setup}
use Rattle.session_order.specs.Sessions.{setup_of, start_of}
use Rattle.session_text.specs.Sessions.{IsSessionOf, SessionValue, SessionView}
use Rattle.session_text.specs.declared.program.Program.{Program}
use Rattle.vt_journal.specs.declared.limits.Limits.{Limits}
use Rattle.vt_world.specs.Start.{start_world}
use Rattle.vt_world.specs.State.{WorldState}

-- a function gives one value for seven arguments
same7 : {A B C D E F G H : Type 0} (f : A → B → C → D → E → F → G → H) (a a' : A) (b b' : B)
    (c c' : C) (d d' : D) (e e' : E) (g g' : F) (h h' : G)
    → a ≡ a' → b ≡ b' → c ≡ c' → d ≡ d' → e ≡ e' → g ≡ g' → h ≡ h'
    → f a b c d e g h ≡ f a' b' c' d' e' g' h'
same7 f a a' b b' c c' d d' e e' g g' h h' p q r s t u v = cc

abbrev limits_of : ℕ → ℕ → Limits
limits_of events bytes = record { events = events; bytes = bytes }

abbrev setup : WorldState → List Program → Limits → Setup
setup start programs limits = record { start = start; programs = programs; limits = limits }

-- all parts of a session except its turns
pub record AreAlike (s t : SessionView) : Type 0 where
  pub rows : s.config.size.rows ≡ t.config.size.rows
  pub cols : s.config.size.cols ≡ t.config.size.cols
  pub consoles : s.config.consoles ≡ t.config.consoles
  pub front : s.config.front ≡ t.config.front
  pub keyboards : s.config.keyboards ≡ t.config.keyboards
  pub starts : s.config.procs ≡ t.config.procs
  pub tables : s.tables ≡ t.tables
  pub programs : s.programs ≡ t.programs
  pub events : s.limits.events ≡ t.limits.events
  pub bytes : s.limits.bytes ≡ t.limits.bytes

pub alike_setup : (s t : SessionView) → AreAlike s t → setup_of s ≡ setup_of t
alike_setup s t x =
    let starts : start_of s ≡ start_of t =
    same7 start_world s.config.size.rows t.config.size.rows s.config.size.cols t.config.size.cols
    s.config.consoles t.config.consoles s.config.front t.config.front
    s.config.keyboards t.config.keyboards s.config.procs t.config.procs s.tables t.tables
    x.rows x.cols x.consoles x.front x.keyboards x.starts x.tables in
    let limits : s.limits ≡ t.limits =
    ap (λ (n : ℕ). limits_of n s.limits.bytes) x.events
    ∙ ap (λ (n : ℕ). limits_of t.limits.events n) x.bytes in
    ap (λ (w : WorldState). setup w s.programs s.limits) starts
    ∙ ap (λ (p : List Program). setup (start_of t) p s.limits) x.programs
    ∙ ap (λ (l : Limits). setup (start_of t) t.programs l) limits

-- a value is of sessions that begin alike
pub one_setup : OneValue → (value : SessionValue) (s t : SessionView) → IsSessionOf s value
    → IsSessionOf t value → setup_of s ≡ setup_of t
one_setup one_value value s t x y = alike_setup s t (record {
  rows = x.rows ∙ sym y.rows;
  cols = x.cols ∙ sym y.cols;
  consoles = x.consoles ∙ sym y.consoles;
  front = x.front ∙ sym y.front;
  keyboards = x.keyboards ∙ sym y.keyboards;
  starts = x.starts ∙ sym y.starts;
  tables = one_value value.typed.lines s.tables t.tables x.tables y.tables;
  programs = x.programs ∙ sym y.programs;
  events = x.events ∙ sym y.events;
  bytes = x.bytes ∙ sym y.bytes;
})

-- and they start alike
pub one_start : (s t : SessionView) → setup_of s ≡ setup_of t → start_of s ≡ start_of t
one_start s t same = ap (λ (o : Setup). o.start) same
