-- The numbers of bytes of a line's end and of a join.
use Rattle.std.specs.Prelude.{ℕ, ◌+◌, ◌==◌, cond, List, [], ◌∷◌}
use Rattle.key_text.specs.Rows.{backslash, carriage_return, line_feed}

-- 1 if the bytes begin with LF
abbrev pub lf_len : List ℕ → ℕ
lf_len [] = 0
lf_len (b ∷ bs) = cond (b == line_feed) 1 0

-- the number of bytes of the line's end that the bytes begin with
abbrev pub end_len : List ℕ → ℕ
end_len [] = 0
end_len (b ∷ bs) =
    cond (b == line_feed) 1 (cond (b == carriage_return) (lf_len bs + lf_len bs) 0)

-- the number of bytes of a join, given that of its line's end
abbrev pub len_with_backslash : ℕ → ℕ
len_with_backslash n = cond (n == 0) 0 (n + 1)

abbrev pub join_len : List ℕ → ℕ
join_len [] = 0
join_len (b ∷ bs) = cond (b == backslash) (len_with_backslash (end_len bs)) 0
