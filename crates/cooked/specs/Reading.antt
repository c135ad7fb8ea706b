-- Turns one after another, and the bytes that they read. This project's own.
use Rattle.std.specs.Prelude.{◌≡◌, ℕ, List, [], ◌∷◌, ◌++◌}
use Rattle.cooked.specs.Cooked.{Typing, make_typing}
use Rattle.cooked.specs.Fresh.{fresh}
use Rattle.cooked.specs.Given.{Item, items_of}
use Rattle.cooked.specs.Turn.{Turns}
use Rattle.cooked.specs.Whole.{all_items}
use Rattle.cooked.specs.declared.termios.Termios.{Termios}
use Rattle.cooked.specs.declared.turn.Turn.{Turn}
use Rattle.vt_events.specs.Charge.{text_of_reply}
use Rattle.vt_events.specs.declared.entry.Entry.{Entry}
use Rattle.vt_events.specs.declared.event.Event.{Event}
use Rattle.vt_events.specs.declared.event.Event.TheVariants as event
use Rattle.vt_events.specs.declared.reply.Reply.{Reply}
use Rattle.vt_hub.specs.Views.{PassView}
use Rattle.vt_world.specs.State.{WorldState}

-- the bytes that a call read: those of its answer, if it is a read
abbrev pub read_by : Event → Reply → List ℕ
read_by (event.ReadIn fd most) r = text_of_reply r
read_by e r = []

-- the bytes that these entries read, in order
abbrev pub bytes_read : List Entry → List ℕ
bytes_read [] = []
bytes_read (entry ∷ entries) = read_by entry.event entry.reply ++ bytes_read entries

-- one turn of several: its descriptor, its result, and the discipline and the pass after it
pub record Made : Type 0 where
  pub fd : ℕ
  pub turn : Turn
  pub after : Typing
  pub pass : PassView

-- these turns lead from the discipline v and the pass p to w and q
abbrev pub Lead : WorldState → Typing → PassView → List Made → Typing → PassView → Type 0
Lead start v p [] w q = (w ≡ v) × (q ≡ p)
Lead start v p (s ∷ more) w q =
    Turns start s.fd v s.after s.turn p s.pass × Lead start s.after s.pass more w q

-- the items that they gave
abbrev pub items_given : List Made → List Item
items_given [] = []
items_given (s ∷ more) = items_of s.turn.given s.after.line ++ items_given more

-- the entries that turns from the start made, whose bytes determine the result
pub record CameTo (t : Termios) (p q : PassView) (turns : List Made) (w : Typing) : Type 0 where
  pub made : List Entry
  pub mine : q.mine ≡ p.mine ++ made
  pub termios : w.termios ≡ t
  pub typed : w.fresh ≡ fresh t (bytes_read made)
  pub gave : items_given turns ≡ all_items t (bytes_read made)

-- over turns from the start the bytes that were pushed are those that the pass's entries read
abbrev pub TurnsRead : Type 0
TurnsRead =
    (start : WorldState) (t : Termios) (p : PassView) (turns : List Made) (w : Typing) (q : PassView)
    → Lead start (make_typing t [] []) p turns w q → CameTo t p q turns w
