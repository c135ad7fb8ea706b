-- `upgrade` gives one outcome for an input.
use Rattle.std.proofs.Common.{◌≡◌, ℕ, ◌+◌, ◌<◌, inl, inr, List, [], ◌∷◌, ◌++◌, Ok, Err, codes, sym, ap, ◌∙◌, arith}
use Rattle.std.proofs.lemmas.Fmt.{decimal_digit}
use Rattle.std.specs.Prelude.{slice_index}
use Rattle.vt_journal.specs.Journal.{first_words, journal_text, line_text}
use Rattle.vt_journal.specs.Says.{HasFirst, OneJournal}
use Rattle.vt_journal.specs.declared.j_fault.JFault.{JFault}
use Rattle.vt_journal.specs.declared.journal.Journal.{Journal}
use Rattle.vt_tool.proofs.Upgrades.{first_line}
use Rattle.vt_tool.specs.Commands.Judging.{column_of}
use Rattle.vt_tool.specs.Commands.Upgrade.{GivesUpgraded, IsNewer, IsNoJournal, IsUpgraded}
use Rattle.vt_tool.specs.Outcome.{Outcome, fine_text, no_text}
use Rattle.vt_tool.specs.declared.status.Status.TheVariants as status

-- a first line, with its digit
first_is : (version : ℕ) → version < 10
    → line_text (first_words version) ≡ codes "%journal " ++ (48 + version) ∷ 0x0A ∷ []
first_is version few = ap (λ digits. codes "%journal " ++ (digits ++ 0x0A ∷ [])) (decimal_digit version few)

-- no text begins with the first lines of both versions
one_version : (text : List ℕ) → HasFirst 1 text → HasFirst 2 text → ⊥
one_version text x y =
    let same : codes "%journal 1\n" ++ x.rest ≡ codes "%journal 2\n" ++ y.rest =
    ap (λ (line : List ℕ). line ++ x.rest) (sym (first_is 1 (omega arith)))
    ∙ sym x.parts ∙ y.parts
    ∙ ap (λ (line : List ℕ). line ++ y.rest) (first_is 2 (omega arith)) in
    let digits : 49 ≡ 50 = ap (λ (t : List ℕ). slice_index t 9) same in
    omega (arith, digits)

abbrev printed : Journal → Outcome
printed j = fine_text (journal_text 2 j.entries j.tail)

abbrev refused : JFault → Outcome
refused fault = no_text (status.Refused fault.kind fault.line (column_of fault.line))

module _ (one_journal : OneJournal) (input : List ℕ) (a b : Outcome)
  where
    pub both_upgraded : IsUpgraded input a → IsUpgraded input b → a ≡ b
    both_upgraded x y =
        let j : Journal = record { version = 1; entries = x.entries; tail = x.end } in
        let k : Journal = record { version = 1; entries = y.entries; tail = y.end } in
        let same : Ok j ≡ Ok k = one_journal input (Ok j) (Ok k) x.says y.says in
        let journals : j ≡ k = cc in
        x.is ∙ ap printed journals ∙ sym y.is

    pub both_refused : IsNoJournal input a → IsNoJournal input b → a ≡ b
    both_refused x y =
        let same : Err x.fault ≡ Err y.fault = one_journal input (Err x.fault) (Err y.fault) x.says y.says in
        let faults : x.fault ≡ y.fault = cc in
        x.is ∙ ap refused faults ∙ sym y.is

-- a journal of version 1 is no newer one, and has no fault
not_newer : (input : List ℕ) (a b : Outcome) → IsUpgraded input a → IsNewer input b → ⊥
not_newer input a b x y =
    one_version input
    (first_line input (record { version = 1; entries = x.entries; tail = x.end }) x.says) y.first

not-refused : OneJournal → (input : List ℕ) (a b : Outcome) → IsUpgraded input a → IsNoJournal input b → ⊥
not-refused one_journal input a b x y =
    let j : Journal = record { version = 1; entries = x.entries; tail = x.end } in
    let clash : Ok j ≡ Err y.fault = one_journal input (Ok j) (Err y.fault) x.says y.says in
    let impossible : ⊥ = cc in
    impossible

pub one_upgraded : OneJournal → (input : List ℕ) (a b : Outcome) → GivesUpgraded input a
    → GivesUpgraded input b → a ≡ b
one_upgraded one input a b (inl x) (inl y) = both_upgraded one input a b x y
one_upgraded one input a b (inl x) (inr (inl y)) = absurd (not_newer input a b x y)
one_upgraded one input a b (inl x) (inr (inr y)) = absurd (not-refused one input a b x y)
one_upgraded one input a b (inr (inl x)) (inl y) = absurd (not_newer input b a y x)
one_upgraded one input a b (inr (inl x)) (inr (inl y)) = x.is ∙ sym y.is
one_upgraded one input a b (inr (inl x)) (inr (inr y)) = absurd (y.other x.first)
one_upgraded one input a b (inr (inr x)) (inl y) = absurd (not-refused one input b a y x)
one_upgraded one input a b (inr (inr x)) (inr (inl y)) = absurd (x.other y.first)
one_upgraded one input a b (inr (inr x)) (inr (inr y)) = both_refused one input a b x y
