-- The parts of calls: a line for each call. This project's own.
use Rattle.std.specs.Prelude.{ℕ, List, [], ◌∷◌, Option, Some, None, unwrap_or}
use Rattle.vt_events.specs.declared.event.Event.{Event}
use Rattle.vt_events.specs.declared.event.Event.TheVariants as event
use Rattle.vt_events.specs.declared.kind.Kind.{Kind}
use Rattle.vt_events.specs.declared.kind.Kind.TheVariants as kind

-- the model of `Parts`: a call's kind, its numbers, and the bytes that it holds, if it holds any
pub record PartsView : Type 0 where
  pub kind : Kind
  pub numbers : List ℕ
  pub held : Option (List ℕ)

-- a kind, numbers and bytes as parts
abbrev pub make_parts : Kind → List ℕ → Option (List ℕ) → PartsView
make_parts kind numbers held = record { kind = kind; numbers = numbers; held = held }

-- the parts of a call; the byte of a scan is bytes
abbrev pub parts_of : Event → PartsView
parts_of (event.Scan hh) = make_parts kind.Scan [] (Some (hh ∷ []))
parts_of event.Exit = make_parts kind.Exit [] None
parts_of (event.OpenCon n) = make_parts kind.OpenCon (n ∷ []) None
parts_of (event.CloseFd fd) = make_parts kind.CloseFd (fd ∷ []) None
parts_of (event.Write fd b) = make_parts kind.Write (fd ∷ []) (Some b.bytes)
parts_of (event.ReadIn fd m) = make_parts kind.ReadIn (fd ∷ m ∷ []) None
parts_of (event.WaitInput fd) = make_parts kind.WaitInput (fd ∷ []) None
parts_of (event.WaitActive fd n) = make_parts kind.WaitActive (fd ∷ n ∷ []) None
parts_of event.WaitSignal = make_parts kind.WaitSignal [] None
parts_of event.WaitEnd = make_parts kind.WaitEnd [] None
parts_of (event.Activate fd n) = make_parts kind.Activate (fd ∷ n ∷ []) None
parts_of (event.Disallocate fd n) = make_parts kind.Disallocate (fd ∷ n ∷ []) None
parts_of (event.OpenQry fd) = make_parts kind.OpenQry (fd ∷ []) None
parts_of (event.GetState fd) = make_parts kind.GetState (fd ∷ []) None
parts_of (event.Resize fd r c) = make_parts kind.Resize (fd ∷ r ∷ c ∷ []) None
parts_of (event.LockSwitch fd) = make_parts kind.LockSwitch (fd ∷ []) None
parts_of (event.UnlockSwitch fd) = make_parts kind.UnlockSwitch (fd ∷ []) None
parts_of (event.SetKd fd m) = make_parts kind.SetKd (fd ∷ m ∷ []) None
parts_of (event.GetKd fd) = make_parts kind.GetKd (fd ∷ []) None
parts_of (event.SetMode fd m w r a f) = make_parts kind.SetMode (fd ∷ m ∷ w ∷ r ∷ a ∷ f ∷ []) None
parts_of (event.GetMode fd) = make_parts kind.GetMode (fd ∷ []) None
parts_of (event.RelDisp fd a) = make_parts kind.RelDisp (fd ∷ a ∷ []) None
parts_of (event.SetKb fd m) = make_parts kind.SetKb (fd ∷ m ∷ []) None
parts_of (event.GetKb fd) = make_parts kind.GetKb (fd ∷ []) None
parts_of (event.SetMeta fd m) = make_parts kind.SetMeta (fd ∷ m ∷ []) None
parts_of (event.GetMeta fd) = make_parts kind.GetMeta (fd ∷ []) None
parts_of (event.SetLed fd v) = make_parts kind.SetLed (fd ∷ v ∷ []) None
parts_of (event.GetLed fd) = make_parts kind.GetLed (fd ∷ []) None
parts_of (event.SetFlags fd v) = make_parts kind.SetFlags (fd ∷ v ∷ []) None
parts_of (event.GetFlags fd) = make_parts kind.GetFlags (fd ∷ []) None
parts_of (event.SetEntry fd t c k v) = make_parts kind.SetEntry (fd ∷ t ∷ c ∷ k ∷ v ∷ []) None
parts_of (event.GetEntry fd t c) = make_parts kind.GetEntry (fd ∷ t ∷ c ∷ []) None
parts_of (event.SetFunc fd i b) = make_parts kind.SetFunc (fd ∷ i ∷ []) (Some b.bytes)
parts_of (event.GetFunc fd i) = make_parts kind.GetFunc (fd ∷ i ∷ []) None
parts_of (event.SetDia fd b) = make_parts kind.SetDia (fd ∷ []) (Some b.bytes)
parts_of (event.GetDia fd) = make_parts kind.GetDia (fd ∷ []) None
parts_of (event.SetCode fd s c) = make_parts kind.SetCode (fd ∷ s ∷ c ∷ []) None
parts_of (event.GetCode fd s) = make_parts kind.GetCode (fd ∷ s ∷ []) None
parts_of (event.Accept fd s) = make_parts kind.Accept (fd ∷ s ∷ []) None
parts_of (event.SetMap fd b) = make_parts kind.SetMap (fd ∷ []) (Some b.bytes)
parts_of (event.GetMap fd) = make_parts kind.GetMap (fd ∷ []) None
parts_of (event.SetPal fd b) = make_parts kind.SetPal (fd ∷ []) (Some b.bytes)
parts_of (event.GetPal fd) = make_parts kind.GetPal (fd ∷ []) None
parts_of (event.Dump k n) = make_parts kind.Dump (k ∷ n ∷ []) None
parts_of event.TakeSignals = make_parts kind.TakeSignals [] None
parts_of (event.Kill p s) = make_parts kind.Kill (p ∷ s ∷ []) None

-- the kind of a call
abbrev pub kind_of : Event → Kind
kind_of e = (parts_of e).kind

-- its numbers
abbrev pub numbers_of : Event → List ℕ
numbers_of e = (parts_of e).numbers

-- the bytes that it holds, if it holds any
abbrev pub held_of : Event → Option (List ℕ)
held_of e = (parts_of e).held

-- the bytes that it holds, or none
abbrev pub bytes_of : Event → List ℕ
bytes_of e = unwrap_or (held_of e) []
