-- A session that is made from a number, draw by draw. This project's own.
use Rattle.std.specs.Prelude.{◌≡◌, ℕ, zero, suc, ◌+◌, ◌-◌, ◌*◌, ◌/◌, ◌%◌, ◌^◌, ◌==◌, true, List, [], ◌∷◌, ◌++◌, Ok, codes, decimal, map, replicate, if◌then◌else◌}
use Rattle.std.specs.List.{range_with_len}
use Rattle.key_compile.specs.Compiled.{AreTablesOf}
use Rattle.key_tables.specs.Tables.{Tables}
use Rattle.key_text.specs.KeymapLine.{KeymapLine}
use Rattle.session_text.specs.Scripts.{make_listed}
use Rattle.session_text.specs.Sessions.{SessionView}
use Rattle.session_text.specs.declared.program.Program.{Program}
use Rattle.session_text.specs.declared.program.Program.TheVariants as program
use Rattle.sig_hooks.specs.Hooks.{with_act}
use Rattle.sig_hooks.specs.declared.act.Act.{Act}
use Rattle.sig_hooks.specs.declared.act.Act.TheVariants as act
use Rattle.table_fields.specs.Fields.{keymap_of}
use Rattle.vt_events.specs.Kinds.{text}
use Rattle.vt_events.specs.declared.event.Event.{Event}
use Rattle.vt_events.specs.declared.event.Event.TheVariants as event

-- the number that a draw makes of the number that was drawn last
abbrev pub next_draw : ℕ → ℕ
next_draw x = (x * 6364136223846793005 + 1442695040888963407) % 2 ^ 64

-- a value made by draws: from the number drawn last, the value and the number drawn last then
abbrev pub Draws : Type 0 → Type 0
Draws A = ℕ → A × ℕ

-- a number below m, by one draw
abbrev pub below : ℕ → Draws ℕ
below m x = (next_draw x / 2 ^ 33 % m, next_draw x)

-- a value by no draw
abbrev pub just : {A : Type 0} → A → Draws A
just a x = (a, x)

-- the draws of one, and then those that follow from its value
infixl 10 ◌>>=◌
abbrev pub ◌>>=◌ : {A B : Type 0} → Draws A → (A → Draws B) → Draws B
(first >>= more) x = more (first x).0 (first x).1

-- so many values, one after another; the first is number p
abbrev pub each : {A : Type 0} → (ℕ → Draws A) → ℕ → ℕ → Draws (List A)
each draws zero p = just []
each draws (suc n) p = do
  a ← draws p
  others ← each draws n (p + 1)
  just (a ∷ others)

-- a write of bytes to the first descriptor, and one of a control sequence
abbrev write : List ℕ → Event
write bytes = event.Write 0 (text bytes)

abbrev csi : List ℕ → Event
csi rest = write (0x1B ∷ 0x5B ∷ rest)

-- a printed byte
abbrev pub letter : ℕ → Draws ℕ
letter p = do
  b ← below 95
  just (32 + b)

-- the kinds of items, in the order of their numbers: 1 to 32 printed bytes
abbrev pub print_item : Draws Event
print_item = do
  n ← below 32
  bytes ← each letter (1 + n) 0
  just (write bytes)

-- the cursor to a place: the row is drawn before the column
abbrev pub cursor_item : Draws Event
cursor_item = do
  r ← below 25
  c ← below 80
  just (csi (decimal (1 + r) ++ 0x3B ∷ decimal (1 + c) ++ 0x48 ∷ []))

-- a request for a console, and a wait for one
abbrev pub activate_item : Draws Event
activate_item = do
  n ← below 8
  just (event.Activate 0 (1 + n))

abbrev pub wait_item : Draws Event
wait_item = do
  n ← below 8
  just (event.WaitActive 0 (1 + n))

-- a colour
abbrev pub colour_item : Draws Event
colour_item = do
  k ← below 8
  just (csi (decimal (30 + k) ++ 0x6D ∷ []))

-- the item of a kind
abbrev pub item_of : ℕ → Draws Event
item_of kind =
    if kind == 0 then print_item
    else if kind == 1 then cursor_item
    else if kind == 2 then activate_item
    else if kind == 3 then just (event.ReadIn 0 64)
    else if kind == 4 then wait_item
    else if kind == 5 then colour_item
    else if kind == 6 then just (event.RelDisp 0 1)
    else just (csi (codes "6n"))

abbrev pub item : ℕ → Draws Event
item p = do
  kind ← below 8
  item_of kind

-- the first calls of process p: an odd one handles its console's switches
abbrev pub opening_calls : ℕ → List Event
opening_calls p =
    event.OpenCon p ∷ (if p % 2 == 1 then event.SetMode 0 1 0 10 12 0 ∷ [] else [])

-- it lets the display go at signal 10, and acknowledges it at 12
abbrev pub drill_hooks : List Act
drill_hooks = with_act (with_act (replicate 64 act.Nothing) 10 (act.Disp 0 1)) 12 (act.Disp 0 2)

-- the script of process p, with n items
abbrev pub script : ℕ → ℕ → Draws Program
script n p = do
  items ← each item n 0
  just (program.Script (make_listed (opening_calls p ++ items)) drill_hooks)

-- a key that goes down and up, so many times
abbrev pub keys : ℕ → List ℕ
keys zero = []
keys (suc n) = 0x1E ∷ 0x9E ∷ keys n

-- the tables of a keymap with one key
pub record HasDrillKeymap (tables : Tables) : Type 0 where
  pub lines : List KeymapLine
  pub keymap : keymap_of [] (codes "keycode 30 = a") ≡ Ok lines
  pub are : AreTablesOf lines tables

-- the session of n items a process, made from a seed: eight processes, each privileged and at home on the
-- console of its number
pub record IsDrill (n seed : ℕ) (s : SessionView) : Type 0 where
  pub rows : s.config.size.rows ≡ 25
  pub cols : s.config.size.cols ≡ 80
  -- consoles 1 to 8
  pub consoles : s.config.consoles ≡ 2 ^ 9 - 2
  pub front : s.config.front ≡ 1
  pub keyboards : s.config.keyboards ≡ 1
  pub starts :
      s.config.procs ≡ map (λ p. record { home = p; privileged = true }) (range_with_len 1 8)
  pub events : s.limits.events ≡ 1000000
  pub bytes : s.limits.bytes ≡ 1073741824
  pub tables : HasDrillKeymap s.tables
  pub turns : s.turns ≡ []
  pub programs : s.programs ≡ program.Keys (text (keys n)) ∷ (each (script n) 8 1 seed).0
