-- The blocks of plain codes, read off the steps of the kit's table.
use Rattle.std.proofs.Common.{◌≡◌, ℕ, ◌<◌, ◌≤◌, ◌+◌, ◌*◌, ◌/◌, Bool, true, false, ◌&&◌, ◌||◌, nat_lt, nat_le, List, [], ◌∷◌, refl, arith, ◌++◌, replicate, slice_index_or, leb-true, ltb-true}
use Rattle.std.proofs.lemmas.Bool.{agree_below_at, and_parts}
use Rattle.std.specs.List.{list_any}
use Rattle.ucd_table.proofs.StepsLemmas.{skip}
use Rattle.unicode_width.proofs.Computing.{unicode_width}
use Rattle.unicode_width.proofs.KindLemmas.{kind_stepped}
use Rattle.vt_cells.proofs.Widths.{control_takes, is_one, kind_takes, kinds_between, passes_to}
use Rattle.vt_cells.specs.Width.{PlainTakeOne, columns, plain_blocks}

-- the block is from this one to that one
abbrev in_blocks : ℕ × ℕ → ℕ → Bool
in_blocks blocks n = nat_le blocks.0 n && nat_le n blocks.1

-- the table has single columns from a block to another
abbrev table_passes : ℕ × ℕ → Bool
table_passes blocks =
    passes_to is_one (64 * (blocks.1 + 1)) (skip kind_stepped.steps (64 * blocks.0))

-- the blocks end before the surrogates, and are of single columns where the table is asked
abbrev block_passes : ℕ × ℕ → Bool
block_passes blocks =
    nat_lt blocks.1 0x360 && (nat_le blocks.1 1 || (nat_le 3 blocks.0 && table_passes blocks))

abbrev blocks_pass : List (ℕ × ℕ) → Bool
blocks_pass [] = true
blocks_pass (blocks ∷ more) = block_passes blocks && blocks_pass more

all_pass : blocks_pass plain_blocks ≡ true
unfolding unicode_width
all_pass = refl

block_takes : (blocks : ℕ × ℕ) (code : ℕ) → block_passes blocks ≡ true
    → in_blocks blocks (code / 64) ≡ true → columns code ≡ 1
block_takes blocks code pass within =
    let parts = and_parts (nat_lt blocks.1 0x360) (nat_le blocks.1 1 || (nat_le 3 blocks.0 && table_passes blocks)) pass in
    let ends = and_parts (nat_le blocks.0 (code / 64)) (nat_le (code / 64) blocks.1) within in
    on (nat_le blocks.1 1) refl (ltb-true _ _ parts.0) (leb-true _ _ ends.0) (leb-true _ _ ends.1) parts.1
  where
    on : (test : Bool) → nat_le blocks.1 1 ≡ test → blocks.1 < 0x360 → blocks.0 ≤ code / 64 → code / 64 ≤ blocks.1
        → (test || (nat_le 3 blocks.0 && table_passes blocks)) ≡ true → columns code ≡ 1
    on true is below from to either = control_takes code (omega (arith, leb-true blocks.1 1 is, to))
    on false is below from to either =
        let last = and_parts (nat_le 3 blocks.0) (table_passes blocks) either in
        let third : 3 ≤ blocks.0 = leb-true _ _ last.0 in
        let first : 64 * blocks.0 ≤ code = omega (arith, from) in
        let behind : code < 64 * (blocks.1 + 1) = omega (arith, to) in
        kind_takes code (omega (arith, third, first)) (omega (arith, below, behind))
        (kinds_between (64 * blocks.0) (64 * (blocks.1 + 1)) code first behind last.1)

any_takes : (blocks : List (ℕ × ℕ)) (code : ℕ) → blocks_pass blocks ≡ true
    → list_any (λ each. in_blocks each (code / 64)) blocks ≡ true → columns code ≡ 1
any_takes [] code pass within = cc
any_takes (first ∷ more) code pass within =
    let parts = and_parts (block_passes first) (blocks_pass more) pass in
    on (in_blocks first (code / 64)) refl within parts.0 (any_takes more code parts.1)
  where
    on : (test : Bool) → in_blocks first (code / 64) ≡ test
        → (test || list_any (λ each. in_blocks each (code / 64)) more) ≡ true
        → block_passes first ≡ true
        → (list_any (λ each. in_blocks each (code / 64)) more ≡ true → columns code ≡ 1)
        → columns code ≡ 1
    on true is either passes others = block_takes first code passes is
    on false is either passes others = others either

pub plain_take : PlainTakeOne
plain_take code is = any_takes plain_blocks code all_pass is

-- the flags of the blocks, from the first on
abbrev flags : List Bool
flags =
    replicate 2 true ++ replicate 1 false ++ replicate 9 true ++ replicate 2 false ++ replicate 4 true
    ++ replicate 1 false ++ replicate 2 true ++ replicate 99 false ++ replicate 8 true ++ replicate 2 false
    ++ replicate 1 true ++ replicate 1 false ++ replicate 8 true ++ replicate 4 false ++ replicate 7 true
    ++ replicate 9 false

pub flag_is : (n : ℕ) → n < 160 → slice_index_or flags n false ≡ list_any (λ each. in_blocks each n) plain_blocks
flag_is n below =
    agree_below_at (λ n. slice_index_or flags n false) (λ n. list_any (λ each. in_blocks each n) plain_blocks) 160 n refl below

pub ruleset blocks = (plain_take)
