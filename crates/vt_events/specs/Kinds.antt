-- The kinds of calls: the name of each, and the call of a kind, of numbers and of bytes. This project's own.
use Rattle.std.specs.Prelude.{ℕ, ◌==◌, Bool, true, List, [], codes}
use Rattle.std.specs.List.{slice_index}
use Rattle.vt_base.specs.Bytes.{Text}
use Rattle.vt_events.specs.declared.event.Event.{Event}
use Rattle.vt_events.specs.declared.event.Event.TheVariants as event
use Rattle.vt_events.specs.declared.kind.Kind.{Kind}
use Rattle.vt_events.specs.declared.kind.Kind.TheVariants as kind

-- these bytes with no room
abbrev pub text : List ℕ → Text
text bytes = record { bytes = bytes; room = 0 }

-- the name of the calls of a kind
abbrev pub name_of : Kind → List ℕ
name_of kind.Scan = codes "scan"
name_of kind.Exit = codes "exit"
name_of kind.OpenCon = codes "open"
name_of kind.CloseFd = codes "close"
name_of kind.Write = codes "write"
name_of kind.ReadIn = codes "read"
name_of kind.WaitInput = codes "waitinput"
name_of kind.WaitActive = codes "waitactive"
name_of kind.WaitSignal = codes "waitsignal"
name_of kind.WaitEnd = codes "waitend"
name_of kind.Activate = codes "activate"
name_of kind.Disallocate = codes "disallocate"
name_of kind.OpenQry = codes "openqry"
name_of kind.GetState = codes "getstate"
name_of kind.Resize = codes "resize"
name_of kind.LockSwitch = codes "lock"
name_of kind.UnlockSwitch = codes "unlock"
name_of kind.SetKd = codes "setkd"
name_of kind.GetKd = codes "getkd"
name_of kind.SetMode = codes "setmode"
name_of kind.GetMode = codes "getmode"
name_of kind.RelDisp = codes "reldisp"
name_of kind.SetKb = codes "setkb"
name_of kind.GetKb = codes "getkb"
name_of kind.SetMeta = codes "setmeta"
name_of kind.GetMeta = codes "getmeta"
name_of kind.SetLed = codes "setled"
name_of kind.GetLed = codes "getled"
name_of kind.SetFlags = codes "setflags"
name_of kind.GetFlags = codes "getflags"
name_of kind.SetEntry = codes "setent"
name_of kind.GetEntry = codes "getent"
name_of kind.SetFunc = codes "setfunc"
name_of kind.GetFunc = codes "getfunc"
name_of kind.SetDia = codes "setdia"
name_of kind.GetDia = codes "getdia"
name_of kind.SetCode = codes "setcode"
name_of kind.GetCode = codes "getcode"
name_of kind.Accept = codes "accept"
name_of kind.SetMap = codes "setmap"
name_of kind.GetMap = codes "getmap"
name_of kind.SetPal = codes "setpal"
name_of kind.GetPal = codes "getpal"
name_of kind.Dump = codes "dump"
name_of kind.TakeSignals = codes "signals"
name_of kind.Kill = codes "kill"

-- the element at an index, from 0
abbrev at : List ℕ → ℕ → ℕ
at list i = slice_index list i

-- the call of a kind, of numbers and of bytes
abbrev pub call_of : Kind → List ℕ → List ℕ → Event
call_of kind.Scan n b = event.Scan (at b 0)
call_of kind.Exit n b = event.Exit
call_of kind.OpenCon n b = event.OpenCon (at n 0)
call_of kind.CloseFd n b = event.CloseFd (at n 0)
call_of kind.Write n b = event.Write (at n 0) (text b)
call_of kind.ReadIn n b = event.ReadIn (at n 0) (at n 1)
call_of kind.WaitInput n b = event.WaitInput (at n 0)
call_of kind.WaitActive n b = event.WaitActive (at n 0) (at n 1)
call_of kind.WaitSignal n b = event.WaitSignal
call_of kind.WaitEnd n b = event.WaitEnd
call_of kind.Activate n b = event.Activate (at n 0) (at n 1)
call_of kind.Disallocate n b = event.Disallocate (at n 0) (at n 1)
call_of kind.OpenQry n b = event.OpenQry (at n 0)
call_of kind.GetState n b = event.GetState (at n 0)
call_of kind.Resize n b = event.Resize (at n 0) (at n 1) (at n 2)
call_of kind.LockSwitch n b = event.LockSwitch (at n 0)
call_of kind.UnlockSwitch n b = event.UnlockSwitch (at n 0)
call_of kind.SetKd n b = event.SetKd (at n 0) (at n 1)
call_of kind.GetKd n b = event.GetKd (at n 0)
call_of kind.SetMode n b = event.SetMode (at n 0) (at n 1) (at n 2) (at n 3) (at n 4) (at n 5)
call_of kind.GetMode n b = event.GetMode (at n 0)
call_of kind.RelDisp n b = event.RelDisp (at n 0) (at n 1)
call_of kind.SetKb n b = event.SetKb (at n 0) (at n 1)
call_of kind.GetKb n b = event.GetKb (at n 0)
call_of kind.SetMeta n b = event.SetMeta (at n 0) (at n 1)
call_of kind.GetMeta n b = event.GetMeta (at n 0)
call_of kind.SetLed n b = event.SetLed (at n 0) (at n 1)
call_of kind.GetLed n b = event.GetLed (at n 0)
call_of kind.SetFlags n b = event.SetFlags (at n 0) (at n 1)
call_of kind.GetFlags n b = event.GetFlags (at n 0)
call_of kind.SetEntry n b = event.SetEntry (at n 0) (at n 1) (at n 2) (at n 3) (at n 4)
call_of kind.GetEntry n b = event.GetEntry (at n 0) (at n 1) (at n 2)
call_of kind.SetFunc n b = event.SetFunc (at n 0) (at n 1) (text b)
call_of kind.GetFunc n b = event.GetFunc (at n 0) (at n 1)
call_of kind.SetDia n b = event.SetDia (at n 0) (text b)
call_of kind.GetDia n b = event.GetDia (at n 0)
call_of kind.SetCode n b = event.SetCode (at n 0) (at n 1) (at n 2)
call_of kind.GetCode n b = event.GetCode (at n 0) (at n 1)
call_of kind.Accept n b = event.Accept (at n 0) (at n 1)
call_of kind.SetMap n b = event.SetMap (at n 0) (text b)
call_of kind.GetMap n b = event.GetMap (at n 0)
call_of kind.SetPal n b = event.SetPal (at n 0) (text b)
call_of kind.GetPal n b = event.GetPal (at n 0)
call_of kind.Dump n b = event.Dump (at n 0) (at n 1)
call_of kind.TakeSignals n b = event.TakeSignals
call_of kind.Kill n b = event.Kill (at n 0) (at n 1)

-- the call of a kind with the number 0 for each number, and with no bytes or the byte 0
abbrev pub blank : Kind → Event
blank k = call_of k [] []

-- whether a call of a kind may hold that many bytes: a scan holds one, and no other kind has a limit
abbrev pub takes : Kind → ℕ → Bool
takes kind.Scan n = n == 1
takes k n = true
