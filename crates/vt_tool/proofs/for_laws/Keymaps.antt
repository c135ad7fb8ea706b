-- The commands over a keymap text, and over a table with one, give one outcome for an input.
use Rattle.std.proofs.Common.{◌≡◌, ◌⊎◌, inl, inr, ℕ, List, [], None, Ok, sym, ap, ◌∙◌, subst}
use Rattle.key_compile.specs.Compiled.{AreTablesOf, OneValue}
use Rattle.key_compile.specs.Faults.{compile_fault}
use Rattle.key_dump.specs.Dump.{dump_of}
use Rattle.key_tables.specs.Listing.{listing_of}
use Rattle.key_tables.specs.Tables.{Tables}
use Rattle.key_text.specs.KeymapLine.{KeymapLine}
use Rattle.key_text.specs.Reading.{lines_of}
use Rattle.key_text.specs.declared.fault.KeyFault.{KeyFault}
use Rattle.table_fields.specs.declared.fault.TableFault.{TableFault}
use Rattle.vt_tool.proofs.for_laws.Once.{err_once, none_or_some, ok_once, ok_or_err, some_once}
use Rattle.vt_tool.specs.Commands.Dump.{GivesDump}
use Rattle.vt_tool.specs.Commands.Keys.{GivesKeyFault, GivesListing, HasKeyFault}
use Rattle.vt_tool.specs.Commands.Typing.{GivesTableFault, GivesTyped, TypeTable, type_table_of, typed_text}
use Rattle.vt_tool.specs.Outcome.{Outcome, fine_text, no_text}
use Rattle.vt_tool.specs.declared.status.Status.TheVariants as status

abbrev refused : KeyFault → Outcome
refused fault = no_text (status.Refused fault.kind fault.line fault.column)

abbrev refused_table : TableFault → Outcome
refused_table fault = no_text (status.Refused fault.kind fault.part fault.item)

-- a text of the tables of a keymap text without a fault
pub record IsOfTables (text_of : Tables → List ℕ) (input : List ℕ) (outcome : Outcome) : Type 0 where
  pub lines : List KeymapLine
  pub tables : Tables
  pub read : lines_of [] input ≡ Ok lines
  pub fine : compile_fault lines ≡ None
  pub compiled : AreTablesOf lines tables
  pub is : outcome ≡ fine_text (text_of tables)

of_listing : (input : List ℕ) (a : Outcome) → GivesListing input a → IsOfTables listing_of input a
of_listing input a x = record {
  lines = x.lines;
  tables = x.tables;
  read = x.read;
  fine = x.fine;
  compiled = x.compiled;
  is = x.listed;
}

of_dump : (input : List ℕ) (a : Outcome) → GivesDump input a → IsOfTables dump_of input a
of_dump input a x = record {
  lines = x.lines;
  tables = x.tables;
  read = x.read;
  fine = x.fine;
  compiled = x.compiled;
  is = x.dumped;
}

one_fault : (input : List ℕ) (f g : KeyFault) → HasKeyFault input f → HasKeyFault input g → f ≡ g
one_fault input f g (inl x) (inl y) = err_once (lines_of [] input) f g x y
one_fault input f g (inl x) (inr (lines, read, fault)) = absurd (ok_or_err (lines_of [] input) lines f read x)
one_fault input f g (inr (lines, read, fault)) (inl y) = absurd (ok_or_err (lines_of [] input) lines g read y)
one_fault input f g (inr (lines, read, fault)) (inr (lines', read', fault')) =
    let same : lines ≡ lines' = ok_once (lines_of [] input) lines lines' read read' in
    some_once (compile_fault lines') f g (ap compile_fault (sym same) ∙ fault) fault'

no_fault : (input : List ℕ) (lines : List KeymapLine) (f : KeyFault) → lines_of [] input ≡ Ok lines
    → compile_fault lines ≡ None → HasKeyFault input f → ⊥
no_fault input lines f read fine (inl x) = ok_or_err (lines_of [] input) lines f read x
no_fault input lines f read fine (inr (lines', read', fault)) =
    let same : lines ≡ lines' = ok_once (lines_of [] input) lines lines' read read' in
    none_or_some (compile_fault lines) f fine (ap compile_fault same ∙ fault)

-- tables of the same lines are the same
same_tables : OneValue → (lines lines' : List KeymapLine) (a b : Tables) → lines ≡ lines'
    → AreTablesOf lines a → AreTablesOf lines' b → a ≡ b
same_tables one_value lines lines' a b same x y =
    one_value lines' a b (subst (λ (l : List KeymapLine). AreTablesOf l a) same x) y

module _ (one_value : OneValue) (text_of : Tables → List ℕ)
  where
    one-text : (input : List ℕ) (a b : Outcome) → IsOfTables text_of input a
        → IsOfTables text_of input b → a ≡ b
    one-text input a b x y =
        x.is
        ∙ ap (λ (t : Tables). fine_text (text_of t))
        (same_tables one_value x.lines y.lines x.tables y.tables
        (ok_once (lines_of [] input) x.lines y.lines x.read y.read) x.compiled y.compiled)
        ∙ sym y.is

    pub one_of_keymap : (input : List ℕ) (a b : Outcome)
        → IsOfTables text_of input a ⊎ GivesKeyFault input a
        → IsOfTables text_of input b ⊎ GivesKeyFault input b → a ≡ b
    one_of_keymap input a b (inl x) (inl y) = one-text input a b x y
    one_of_keymap input a b (inl x) (inr y) = absurd (no_fault input x.lines y.fault x.read x.fine y.found)
    one_of_keymap input a b (inr x) (inl y) = absurd (no_fault input y.lines x.fault y.read y.fine x.found)
    one_of_keymap input a b (inr x) (inr y) =
        x.refused ∙ ap refused (one_fault input x.fault y.fault x.found y.found) ∙ sym y.refused

either : {A B C : Type 0} → (A → B) → A ⊎ C → B ⊎ C
either f (inl a) = inl (f a)
either f (inr c) = inr c

pub one_keys : OneValue → (input : List ℕ) (a b : Outcome) → GivesListing input a ⊎ GivesKeyFault input a
    → GivesListing input b ⊎ GivesKeyFault input b → a ≡ b
one_keys one_value input a b x y =
    one_of_keymap one_value listing_of input a b (either (of_listing input a) x) (either (of_listing input b) y)

pub one_dump : OneValue → (input : List ℕ) (a b : Outcome) → GivesDump input a ⊎ GivesKeyFault input a
    → GivesDump input b ⊎ GivesKeyFault input b → a ≡ b
one_dump one_value input a b x y =
    one_of_keymap one_value dump_of input a b (either (of_dump input a) x) (either (of_dump input b) y)

-- `type`
both_typed : OneValue → (input : List ℕ) (a b : Outcome) → GivesTyped input a → GivesTyped input b → a ≡ b
both_typed one_value input a b x y =
    let table : x.table ≡ y.table = ok_once (type_table_of input) x.table y.table x.read y.read in
    let tables : x.tables ≡ y.tables =
    same_tables one_value x.table.lines y.table.lines x.tables y.tables
    (ap (λ (t : TypeTable). t.lines) table) x.compiled y.compiled in
    x.written
    ∙ ap (λ (t : TypeTable). fine_text (typed_text x.tables t.mode t.keys)) table
    ∙ ap (λ (t : Tables). fine_text (typed_text t y.table.mode y.table.keys)) tables
    ∙ sym y.written

pub one_typed : OneValue → (input : List ℕ) (a b : Outcome) → GivesTyped input a ⊎ GivesTableFault input a
    → GivesTyped input b ⊎ GivesTableFault input b → a ≡ b
one_typed one_value input a b (inl x) (inl y) = both_typed one_value input a b x y
one_typed one_value input a b (inl x) (inr y) = absurd (ok_or_err (type_table_of input) x.table y.fault x.read y.found)
one_typed one_value input a b (inr x) (inl y) = absurd (ok_or_err (type_table_of input) y.table x.fault y.read x.found)
one_typed one_value input a b (inr x) (inr y) =
    x.refused
    ∙ ap refused_table (err_once (type_table_of input) x.fault y.fault x.found y.found)
    ∙ sym y.refused
