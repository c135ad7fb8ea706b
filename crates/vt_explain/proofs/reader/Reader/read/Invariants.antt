use Rattle.std.proofs.Common.{◌≡◌, ◌≤◌, drop}
use Rattle.std.specs.Prelude.{count_by}
use Rattle.vt_explain.specs.Finding.{hear_all, is_at, news_after}
use Rattle.vt_switch.specs.News.{news}
use Rattle.vt_explain.proofs.reader.Reader.read.Given as goal

abbrev pub invariant-loop-mark : goal.invariant-loop-mark
invariant-loop-mark l = record {
  heard : hear_all l.at (news_after l.asked (drop l.mark-index l.trace)) l.self
      ≡ hear_all l.at (news l.trace) l.fn.self;
  nth : l.nth ≡ count_by (is_at l.at) l.self.items;
  few : l.nth ≤ l.mark-index;
}
