-- Which ear hears which notice. This project's own.
use Rattle.std.specs.Prelude.{◌≡◌, ℕ, ◌<◌, ◌≤◌, ◌==◌, ◌&&◌, Bool}
use Rattle.std.specs.Int.{bit_at}
use Rattle.vt_base.specs.ConsoleSet.{is_among}
use Rattle.vt_review.specs.declared.ear_table.EarTable.{EarTable}
use Rattle.vt_review.specs.declared.notice.Notice.{Notice}

-- the kind is one of these: its bit is set
abbrev pub is_kind : ℕ → ℕ → Bool
is_kind kinds kind = bit_at kinds kind == 1

-- the table contains the notice: the bit of its kind is set, and that of its console
abbrev pub says : EarTable → Notice → Bool
says table n = is_kind table.kinds n.kind && is_among table.consoles n.console

-- one of the three kinds, of a console
pub record IsNotice (n : Notice) : Type 0 where
  pub kind : n.kind < 3
  pub low : 1 ≤ n.console
  pub high : n.console ≤ 63

-- it may be called on each notice, and answers whether the table contains it
abbrev pub Answers : (Notice → Type 0) → (Notice → Bool → Type 0) → EarTable → Type 0
Answers may_call gives table =
    (n : Notice) → IsNotice n → may_call n × ((b : Bool) → gives n b → b ≡ says table n)
