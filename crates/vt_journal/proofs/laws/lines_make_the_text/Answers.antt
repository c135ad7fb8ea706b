use Rattle.std.proofs.Common.{◌≡◌, ℕ, List, [], ◌∷◌, ◌++◌, ap, ◌∙◌, map, flat_map}
use Rattle.std.proofs.lemmas.List.{append-nil, append_assoc, map-append}
use Rattle.std.proofs.lemmas.List.Concat.{flat_map-append}
use Rattle.vt_journal.specs.Journal.{entry_words, first_words, line_text, tail_words}
use Rattle.vt_journal.proofs.laws.lines_make_the_text.Goals as goal

lines_cut : {A : Type 0} (f : A → List ℕ) (first : A) (middle : List A) (last : A)
    → flat_map f ((first ∷ middle) ++ (last ∷ [])) ≡ f first ++ (flat_map f middle ++ f last)
lines_cut f first middle last =
    flat_map-append f (first ∷ middle) (last ∷ [])
    ∙ (append_assoc (f first) (flat_map f middle) (f last ++ [])
    ∙ ap (λ (text : List ℕ). f first ++ (flat_map f middle ++ text)) (append-nil (f last)))

pub returns-clause-text : goal.returns-clause-text
returns-clause-text c version entries end =
    lines_cut line_text (first_words version) (map (entry_words version) entries) (tail_words end)

pub returns-clause-later : goal.returns-clause-later
returns-clause-later c version entries later = simp (map-append, flat_map-append)

pub returns-clause-line : goal.returns-clause-line
returns-clause-line c version entry = append-nil (line_text (entry_words version entry))
