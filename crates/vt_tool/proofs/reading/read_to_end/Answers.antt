use Rattle.std.proofs.Common.{◌≡◌, ℕ, ◌++◌, length, List, take, ap, arith, length-append}
use Rattle.std.proofs.lemmas.List.{length-take-le}
use Rattle.std.proofs.lemmas.Result.{err_from_is_err_and}
use Rattle.vt_tool.proofs.Streams.{consumes_append}
use Rattle.vt_tool.proofs.reading.read_to_end.Goals as goal

pub returns-then-count-limit : goal.returns-then-count-limit
returns-then-count-limit g c =
    let bytes : List ℕ = c.reads.input.bytes in
    let piece : List ℕ = take c.in_ok-count.count c.read.new.buf in
    let len : length piece ≡ c.in_ok-count.count =
    length-take-le c.in_ok-count.count c.read.new.buf c.in_ok-count.ensures.bound.0 in
    let before : length c.as_slice.result.now ≡ length bytes = ap length c.as_slice.ensures in (
      bytes ++ piece,
      consumes_append _ _ _ bytes piece c.reads.invariant.taken c.in_ok-count.ensures.bytes.0,
      omega (
        arith,
        length-append bytes piece,
        len,
        before,
        c.if-count-limit.true,
        c.reads.invariant.within,
      ),
    )

pub returns-in_err-grow : goal.returns-in_err-grow
returns-in_err-grow g c =
    let bytes : List ℕ = c.reads.input.bytes in
    let piece : List ℕ = take c.in_ok-count.count c.read.new.buf in
    let end = err_from_is_err_and c.from_residual-in_err-grow.result
    c.from_residual-in_err-grow.ensures.1 in
    rw (end.1, end.2) (
      bytes ++ piece,
      consumes_append _ _ _ bytes piece c.reads.invariant.taken c.in_ok-count.ensures.bytes.0,
    )
