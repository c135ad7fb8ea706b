-- The news of a trace about the display: the requests to processes to let it go, and its hops. This project's
-- own.
use Rattle.std.specs.Prelude.{◌≡◌, ◌≤◌, ℕ, List, [], ◌∷◌, ◌++◌, length, option_to_list}
use Rattle.vt_switch.specs.Acts.{SwitchAct, hop_of}
use Rattle.vt_switch.specs.Moments.{Core, core_after, hops, marks}
use Rattle.vt_switch.specs.declared.hop.Hop.{Hop}
use Rattle.vt_switch.specs.declared.mark.Mark.{Mark}
use Rattle.vt_switch.specs.declared.mark.Mark.TheVariants as mark

-- a process is asked, by a signal, to let the display go to a console
pub record Ask : Type 0 where
  pub to : ℕ
  pub owner : ℕ
  pub signal : ℕ

pub data News : Type 0 where
  Asking : Ask → News
  Going : Hop → News

-- the news of a trace, in order; the raise of the signal to the asked process stands right after its request
abbrev pub news : List Mark → List News
news [] = []
news (mark.Asked n ∷ mark.Raised p signal ∷ told) =
    Asking (record { to = n; owner = p; signal = signal }) ∷ news told
news (mark.Hopped hop ∷ told) = Going hop ∷ news told
news (m ∷ told) = news told

-- the news of acts, one after another
abbrev pub news_of : Core → List SwitchAct → List News
news_of k [] = []
news_of k (act ∷ acts) = news (marks k act) ++ news_of (core_after k act) acts

-- the hops of an act's trace are exactly the hop that the act makes
abbrev pub OneHopIsTold : Type 0
OneHopIsTold =
    (k : Core) (act : SwitchAct) → hops (marks k act) ≡ option_to_list (hop_of k.display act)

-- an act asks a process, or moves the display, at most once
abbrev pub OneNewsIsTold : Type 0
OneNewsIsTold = (k : Core) (act : SwitchAct) → length (news (marks k act)) ≤ 1
