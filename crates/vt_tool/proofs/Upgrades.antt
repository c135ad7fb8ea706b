-- A journal of version 1, by its first line.
use Rattle.std.proofs.Common.{◌≡◌, ◌≢◌, ◌++◌, ℕ, List, ◌∷◌, [], Ok, map, subst, arith}
use Rattle.std.specs.List.{flat_map}
use Rattle.vt_journal.specs.Journal.{entry_words, line_text, tail_words}
use Rattle.vt_journal.specs.Says.{HasFirst, JournalSays}
use Rattle.vt_journal.specs.Says.JournalSays.{Whole}
use Rattle.vt_journal.specs.declared.journal.Journal.{Journal}

-- a journal's text begins with the first line of its version
pub first_line : (text : List ℕ) (j : Journal) → JournalSays text (Ok j) → HasFirst j.version text
first_line text j (Whole version entries end known fit fit_e few is) = record {
  known = known;
  rest = flat_map line_text (map (entry_words version) entries ++ tail_words end ∷ []);
  parts = is;
}

-- so a journal that doesn't begin with that of version 2 is of version 1
pub is_old : (text : List ℕ) (j : Journal) → ¬ HasFirst 2 text → JournalSays text (Ok j)
    → JournalSays text (Ok (record { version = 1; entries = j.entries; tail = j.tail }))
is_old text j other says =
    let first : HasFirst j.version text = first_line text j says in
    let not_two : j.version ≢ 2 = λ two. other (subst (λ v. HasFirst v text) two first) in
    let one : j.version ≡ 1 = omega (arith, first.known.0, first.known.1, not_two) in
    subst (λ (v : ℕ). JournalSays text (Ok (record { version = v; entries = j.entries; tail = j.tail }))) one says
