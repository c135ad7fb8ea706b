-- The commands that play a session give one outcome for it.
use Rattle.std.proofs.Common.{◌≡◌, ◌⊎◌, inl, inr, ℕ, List, [], Option, Ok, Err, codes, sym, ap, ◌∙◌, subst}
use Rattle.key_compile.specs.Compiled.{AreTablesOf, OneValue}
use Rattle.key_text.specs.KeymapLine.{KeymapLine}
use Rattle.session_order.specs.Ends.{Setup}
use Rattle.session_order.specs.Laws.{SerialIsOne}
use Rattle.session_order.specs.Meant.{ReplayIsMeant, plain_history}
use Rattle.session_order.specs.Serial.{IsSerial, Played}
use Rattle.session_order.specs.Sessions.{setup_of, start_of}
use Rattle.session_run.specs.Drill.{IsDrill}
use Rattle.session_run.specs.Final.{final_text}
use Rattle.session_text.specs.Sessions.{IsSessionOf, OneSession, SessionValue, SessionView, session_says}
use Rattle.table_fields.specs.Fields.{keymap_of}
use Rattle.vt_events.specs.declared.entry.Entry.{Entry}
use Rattle.vt_journal.specs.Room.{tail_at}
use Rattle.vt_journal.specs.declared.full.Full.{Full}
use Rattle.vt_tool.proofs.for_laws.Meant.{drill_meant, run_text, tail_meant, text_meant}
use Rattle.vt_tool.proofs.for_laws.Once.{ok_once}
use Rattle.vt_tool.proofs.for_laws.Setups.{alike_setup, one_setup, one_start}
use Rattle.vt_tool.specs.Commands.Drill.{GivesDrill, drill_text}
use Rattle.vt_tool.specs.Commands.Play.{GivesPlayed}
use Rattle.vt_tool.specs.Commands.Session.{GivesSessionFault, IsPrinted, run_outcome, status_of}
use Rattle.vt_tool.specs.Laws.{RaceMayPlay, RunDecides}
use Rattle.vt_tool.specs.Outcome.{Outcome}
use Rattle.vt_world.specs.History.{replay}
use Rattle.vt_world.specs.State.{WorldState}

same_outcome : (a b : Outcome) → a.status ≡ b.status → a.text ≡ b.text → a ≡ b
same_outcome a b p q = λ i. record { status = p i; text = q i }

-- the plain form of a history, and its stop
abbrev played : List Entry → Option Full → Played
played history stop = record { history = plain_history history; stop = stop }

-- two runs are the same as they are meant
pub record IsSameRun (h k : List Entry) (p q : Option Full) : Type 0 where
  pub meant : plain_history h ≡ plain_history k
  pub stop : p ≡ q

same_status : (h k : List Entry) (p q : Option Full) → IsSameRun h k p q
    → status_of (tail_at h p) ≡ status_of (tail_at k q)
same_status h k p q same =
    ap status_of
    (sym (tail_meant h p)
    ∙ ap (λ (entries : List Entry). tail_at entries p) same.meant
    ∙ ap (tail_at (plain_history k)) same.stop
    ∙ tail_meant k q)

module _ (replay_meant : ReplayIsMeant) (start start' : WorldState) (starts : start ≡ start')
    (h k : List Entry) (p q : Option Full) (same : IsSameRun h k p q)
  where
    pub same_text : run_text start h p ≡ run_text start' k q
    same_text =
        sym (text_meant replay_meant start h p)
        ∙ ap (λ (entries : List Entry). run_text start entries p) same.meant
        ∙ ap (run_text start (plain_history k)) same.stop
        ∙ ap (λ (w : WorldState). run_text w (plain_history k) q) starts
        ∙ text_meant replay_meant start' k q

    pub same_drill : drill_text h (replay start h) ≡ drill_text k (replay start' k)
    same_drill =
        sym (drill_meant replay_meant start h)
        ∙ ap (λ (entries : List Entry). drill_text entries (replay start entries)) same.meant
        ∙ ap (λ (w : WorldState). drill_text (plain_history k) (replay w (plain_history k))) starts
        ∙ drill_meant replay_meant start' k

-- one run is printed in one way
same_printed : ReplayIsMeant → (s t : SessionView) → start_of s ≡ start_of t → (h k : List Entry)
    (p q : Option Full) → IsSameRun h k p q → (a b : Outcome)
    → IsPrinted s h (tail_at h p) a → IsPrinted t k (tail_at k q) b → a ≡ b
same_printed replay_meant s t starts h k p q same a b x y =
    x
    ∙ same_outcome (run_outcome h (tail_at h p) (final_text (replay (start_of s) h)))
    (run_outcome k (tail_at k q) (final_text (replay (start_of t) k)))
    (same_status h k p q same)
    (same_text replay_meant (start_of s) (start_of t) starts h k p q same)
    ∙ sym y

-- the serial schedule has one run
same_run : SerialIsOne → (o o' : Setup) (first first' : List ℕ) (h k : List Entry) (p q : Option Full)
    → o ≡ o' → first ≡ first' → IsSerial o first (played h p) → IsSerial o' first' (played k q)
    → IsSameRun h k p q
same_run serial_one o o' first first' h k p q setups turns x y =
    let one : played h p ≡ played k q =
    serial_one o' first' (played h p) (played k q)
    (subst (λ (f : List ℕ). IsSerial o' f (played h p)) turns
    (subst (λ (o : Setup). IsSerial o first (played h p)) setups x)) y in
    record {
      meant = ap (λ (t : Played). t.history) one;
      stop = ap (λ (t : Played). t.stop) one;
    }

module _ (one_session : OneSession) (input : List ℕ)
  where
    pub one_said : (v w : SessionValue) → session_says input (Ok v) → session_says input (Ok w) → v ≡ w
    one_said v w x y =
        let same : Ok v ≡ Ok w = one_session input (Ok v) (Ok w) x y in
        let values : v ≡ w = cc in
        values

    pub not_refused : (v : SessionValue) (b : Outcome) → session_says input (Ok v) → GivesSessionFault input b → ⊥
    not_refused v b x y =
        let clash : Ok v ≡ Err y.fault = one_session input (Ok v) (Err y.fault) x y.found in
        let impossible : ⊥ = cc in
        impossible

    pub both_refused : (a b : Outcome) → GivesSessionFault input a → GivesSessionFault input b → a ≡ b
    both_refused a b x y =
        let same : Err x.fault ≡ Err y.fault = one_session input (Err x.fault) (Err y.fault) x.found y.found in
        let faults : x.fault ≡ y.fault = cc in
        let mine = x.refused in
        let yours = y.refused in
        cc

    -- the sessions of one input begin alike
    pub same_setup : OneValue → (v w : SessionValue) (s t : SessionView) → session_says input (Ok v)
        → session_says input (Ok w) → IsSessionOf s v → IsSessionOf t w → setup_of s ≡ setup_of t
    same_setup one_value v w s t said said' is is' =
        one_setup one_value w s t
        (subst (λ (value : SessionValue). IsSessionOf s value) (one_said v w said said') is) is'

module _ (one_session : OneSession) (one_value : OneValue) (serial_one : SerialIsOne)
    (replay_meant : ReplayIsMeant)
  where
    both-played : (input : List ℕ) (a b : Outcome) → GivesPlayed input a → GivesPlayed input b → a ≡ b
    both-played input a b x y =
        let setups : setup_of x.session ≡ setup_of y.session =
        same_setup one_session input one_value x.value y.value x.session y.session x.said y.said x.is y.is in
        let values : x.value ≡ y.value = one_said one_session input x.value y.value x.said y.said in
        let turns : x.session.turns ≡ y.session.turns =
        x.is.turns ∙ ap (λ (v : SessionValue). v.turns) values ∙ sym y.is.turns in
        same_printed replay_meant x.session y.session (one_start x.session y.session setups)
        x.played.history y.played.history x.played.stop y.played.stop
        (same_run serial_one (setup_of x.session) (setup_of y.session) x.session.turns y.session.turns
        x.played.history y.played.history x.played.stop y.played.stop setups turns x.played.serial
        y.played.serial)
        a b x.played.printed y.played.printed

    pub one_played : (input : List ℕ) (a b : Outcome) → GivesPlayed input a ⊎ GivesSessionFault input a
        → GivesPlayed input b ⊎ GivesSessionFault input b → a ≡ b
    one_played input a b (inl x) (inl y) = both-played input a b x y
    one_played input a b (inl x) (inr y) = absurd (not_refused one_session input x.value b x.said y)
    one_played input a b (inr x) (inl y) = absurd (not_refused one_session input y.value a y.said x)
    one_played input a b (inr x) (inr y) = both_refused one_session input a b x y

pub run_decides : OneSession → OneValue → ReplayIsMeant → RunDecides
run_decides one_session one_value replay_meant input a b x y meant stops =
    let setups : setup_of x.session ≡ setup_of y.session =
    same_setup one_session input one_value x.value y.value x.session y.session x.said y.said x.is y.is in
    same_printed replay_meant x.session y.session (one_start x.session y.session setups)
    x.raced.history y.raced.history x.raced.stop y.raced.stop
    (record { meant = meant; stop = stops })
    a b x.raced.printed y.raced.printed

pub race_may_play : RaceMayPlay
race_may_play input outcome (inl x) = inl (record {
  value = x.value;
  session = x.session;
  said = x.said;
  is = x.is;
  raced = record {
    history = x.played.history;
    stop = x.played.stop;
    right = x.played.right;
    printed = x.played.printed;
  };
})
race_may_play input outcome (inr y) = inr y

-- the sessions that a seed makes begin alike
drill_setup : OneValue → (n seed : ℕ) (s t : SessionView) → IsDrill n seed s → IsDrill n seed t
    → setup_of s ≡ setup_of t
drill_setup one_value n seed s t x y =
    let lines : x.tables.lines ≡ y.tables.lines =
    ok_once (keymap_of [] (codes "keycode 30 = a")) x.tables.lines y.tables.lines x.tables.keymap y.tables.keymap in
    alike_setup s t (record {
      rows = x.rows ∙ sym y.rows;
      cols = x.cols ∙ sym y.cols;
      consoles = x.consoles ∙ sym y.consoles;
      front = x.front ∙ sym y.front;
      keyboards = x.keyboards ∙ sym y.keyboards;
      starts = x.starts ∙ sym y.starts;
      tables =
          one_value y.tables.lines s.tables t.tables
          (subst (λ (l : List KeymapLine). AreTablesOf l s.tables) lines x.tables.are) y.tables.are;
      programs = x.programs ∙ sym y.programs;
      events = x.events ∙ sym y.events;
      bytes = x.bytes ∙ sym y.bytes;
    })

pub one_drill : OneValue → SerialIsOne → ReplayIsMeant → (n seed : ℕ) (a b : Outcome)
    → GivesDrill n seed a → GivesDrill n seed b → a ≡ b
one_drill one_value serial_one replay_meant n seed a b x y =
    let setups : setup_of x.session ≡ setup_of y.session =
    drill_setup one_value n seed x.session y.session x.is y.is in
    let same : IsSameRun x.history y.history x.stop y.stop =
    same_run serial_one (setup_of x.session) (setup_of y.session) x.session.turns y.session.turns
    x.history y.history x.stop y.stop setups (x.is.turns ∙ sym y.is.turns) x.serial y.serial in
    same_outcome a b
    (x.status_is ∙ same_status x.history y.history x.stop y.stop same ∙ sym y.status_is)
    (x.text
    ∙ same_drill replay_meant (start_of x.session) (start_of y.session)
    (one_start x.session y.session setups) x.history y.history x.stop y.stop same
    ∙ sym y.text)
