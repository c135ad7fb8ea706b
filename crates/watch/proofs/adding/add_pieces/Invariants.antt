use Rattle.std.proofs.Common.{◌≡◌, ◌++◌, drop}
use Rattle.std.specs.List.{flat_map}
use Rattle.watch.specs.Words.{piece_text}
use Rattle.watch.proofs.adding.add_pieces.Given as goal

abbrev pub invariant-loop-piece : goal.invariant-loop-piece
invariant-loop-piece l =
    l.text.bytes ++ flat_map (piece_text l.form) (drop l.piece-index l.pieces)
    ≡ l.fn.text.bytes ++ flat_map (piece_text l.form) l.pieces
