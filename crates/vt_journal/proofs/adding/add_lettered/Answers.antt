use Rattle.itoa.proofs.Decimal.{decimal_two}
use Rattle.std.proofs.Common.{append_assoc, refl}
use Rattle.std.proofs.lemmas.Fmt.{decimal_digit}
use Rattle.vt_journal.proofs.Lines.{decimal_three}
use Rattle.vt_journal.proofs.adding.add_lettered.Goals as goal

pub returns-then-n-lt10 : goal.returns-then-n-lt10
returns-then-n-lt10 c =
    rw (c.push-then-n-lt10.ensures.bytes, c.push.ensures.bytes, c.in_ok-make_room.ensures.bytes)
    (rw (decimal_digit c.args.n c.if-n-lt10.true) (simp append_assoc))

pub returns-then-n-lt100 : goal.returns-then-n-lt100
returns-then-n-lt100 c =
    rw (c.append.ensures.bytes, c.in_ok-make_room.ensures.bytes)
    (rw (decimal_two c.args.n c.if-n-lt10.false c.if-n-lt100.true) refl)

pub returns : goal.returns
returns c =
    rw (c.append-2.ensures.bytes, c.in_ok-make_room.ensures.bytes)
    (rw (decimal_three c.args.n c.if-n-lt100.false c.if-n-ge1000.false) refl)
