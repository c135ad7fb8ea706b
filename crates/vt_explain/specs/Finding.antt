-- How the items of switches are found, entry by entry: each takes its cause from the last request to an owner.
-- This project's own.
use Rattle.std.specs.Prelude.{◌≡◌, ◌≤◌, ℕ, ◌==◌, Bool, List, [], ◌∷◌, ◌++◌, count_by, length, Option, Some, None}
use Rattle.vt_events.specs.declared.entry.Entry.{Entry}
use Rattle.vt_explain.specs.declared.hop_cause.HopCause.{HopCause}
use Rattle.vt_explain.specs.declared.hop_cause.HopCause.TheVariants as why
use Rattle.vt_explain.specs.declared.hop_why.HopWhy.{HopWhy}
use Rattle.vt_explain.specs.declared.last_ask.LastAsk.{LastAsk}
use Rattle.vt_switch.specs.Moments.{Moment, trace}
use Rattle.vt_switch.specs.News.{News, Asking, Going, news}
use Rattle.vt_switch.specs.declared.cause.Cause.{Cause}
use Rattle.vt_switch.specs.declared.cause.Cause.TheVariants as cause
use Rattle.vt_switch.specs.declared.hop.Hop.{Hop}
use Rattle.vt_switch.specs.declared.mark.Mark.{Mark}
use Rattle.vt_switch.specs.declared.mark.Mark.TheVariants as mark
use Rattle.vt_world.specs.Laws.{moments}
use Rattle.vt_world.specs.State.{WorldState}

-- the items so far, and the owner that was asked last
pub record Known : Type 0 where
  pub items : List HopWhy
  pub last : Option LastAsk

-- if no owner was asked, only a free console lets the display go
abbrev pub cause_of : Cause → Option LastAsk → HopCause
cause_of (cause.Released p) (Some ask) = why.Released p ask.entry ask.signal
cause_of (cause.Died p) (Some ask) = why.Died p ask.entry ask.signal
cause_of c last = why.Free

abbrev pub item_of : ℕ → ℕ → Hop → Option LastAsk → HopWhy
item_of at nth hop last = record {
  at = at;
  nth = nth;
  from = hop.from;
  to = hop.to;
  cause = cause_of hop.cause last;
}

abbrev pub is_at : ℕ → HopWhy → Bool
is_at at w = w.at == at

-- the items after one more piece of news in an entry
abbrev pub hear : ℕ → News → Known → Known
hear at (Asking ask) k = record k { last = Some (record { entry = at; signal = ask.signal }) }
hear at (Going hop) k = record k {
  items = k.items ++ item_of at (count_by (is_at at) k.items) hop k.last ∷ [];
}

abbrev pub hear_all : ℕ → List News → Known → Known
hear_all at [] k = k
hear_all at (one ∷ told) k = hear_all at told (hear at one k)

-- the items after a trace, mark by mark: the console that a mark requests; a signal that is raised, with the
-- console that the mark before it requested, if any; and the news of that mark
abbrev pub asked_by : Mark → Option ℕ
asked_by (mark.Asked n) = Some n
asked_by m = None

abbrev pub with_last_signal : ℕ → Option ℕ → ℕ → Known → Known
with_last_signal at None signal k = k
with_last_signal at (Some n) signal k = record k { last = Some (record { entry = at; signal = signal }) }

abbrev pub news_after : Option ℕ → List Mark → List News
news_after None told = news told
news_after (Some n) told = news (mark.Asked n ∷ told)

-- the items and the last request after a history
abbrev pub known_after : List Moment → Known
known_after [] = record { items = []; last = None }
known_after (m ∷ earlier) = hear_all m.entry (news (trace m)) (known_after earlier)

-- these are the items of these entries, from this machine on; no item is of a later entry
pub record HasRead (start : WorldState) (entries : List Entry) (k : Known) : Type 0 where
  pub known_is : k ≡ known_after (moments start entries)
  pub fresh : (j : ℕ) → length entries ≤ j → count_by (is_at j) k.items ≡ 0
