use Rattle.std.proofs.Common.{◌≡◌, ◌+◌, ◌≤◌, true, List, Bor, BTreeMap, String, Global, length, map, refl, subst, sym, ◌∙◌, arith}
use Rattle.std.proofs.lemmas.List.{length-map}
use Rattle.std.specs.List.{All}
use Rattle.toml.specs.Data.{Members, as_table}
use Rattle.toml.specs.View.{table_view}
use Rattle.toml.specs.declared.value.Value.{Value}
use Rattle.session_text.specs.Turns.{is_there}
use Rattle.session_text.proofs.Counting.{array_count, further_count}
use Rattle.session_text.proofs.TopReading.{top_read}
use Rattle.session_text.proofs.tops.read_top.Goals as goal

abbrev Entries : Type 0
Entries = Bor (BTreeMap (String Global) Value)

abbrev views : List Entries → List Members
views tables = map (λ (table : Entries). table_view table.now) tables

pub returns-clause-top : goal.returns-clause-top
returns-clause-top c =
    let (typed, typed_is, keyboard) = c.in_ok-keyboard.ensures.keyboard in
    let (turns, turns_are, are) = c.in_ok-turns.ensures.turns in
    let (further, further_is, further_are) = c.in_ok-further.ensures.further in
    let tables : List Members = views c.in_ok-tables.tables.items in
    let long : length tables ≡ length c.in_ok-tables.tables.items =
    length-map c.in_ok-tables.tables.items (λ (table : Entries). table_view table.now) in
    let few : length tables ≤ 64 = omega (arith, long, c.in_ok-tables.tables.ok.0) in
    let many : length tables ≡ c.count.result =
    array_count as_table 0 11 _ tables c.in_ok-tables.ensures ∙ sym c.count.ensures in (
      record {
        opening = c.in_ok-opening.opening;
        typed = typed;
        turns = turns;
        tables = tables;
        further = further;
      },
      top_read (table_view c.args.table.now) _ _ _ c.in_ok-opening.opening typed c.count.result c.keyboard_count-keyboards.result turns
          tables further (sym c.knows_keys.ensures ∙ c.if-not-knows_keys.false) c.in_ok-opening.ensures.opening typed_is
          c.at-list.ensures c.count.ensures c.at-more.ensures c.keyboard_count-keyboards.ensures c.at.ensures turns_are
          c.in_ok-tables.ensures few further_is,
      record {
        opening = refl;
        keyboard = keyboard;
        turns = are.1 (omega (arith, few, many));
        tables = refl;
        further = further_are;
      },
    )

pub returns-clause-fit : goal.returns-clause-fit
returns-clause-fit c =
    let (turns, turns_are, are) = c.in_ok-turns.ensures.turns in
    let (further, further_is, further_are) = c.in_ok-further.ensures.further in
    let tables : List Members = views c.in_ok-tables.tables.items in
    let long : length tables ≡ length c.in_ok-tables.tables.items =
    length-map c.in_ok-tables.tables.items (λ (table : Entries). table_view table.now) in
    let many : length tables ≡ c.count.result =
    array_count as_table 0 11 _ tables c.in_ok-tables.ensures ∙ sym c.count.ensures in
    let same : c.count.result ≡ length c.in_ok-tables.tables.items = sym many ∙ long in
    let keyboards : c.keyboard_count-keyboards.result ≡ length c.in_ok-further.further.items + 1 =
    c.keyboard_count-keyboards.ensures ∙ further_count _ further c.in_ok-further.further.items further_is further_are in
    record {
      opening = c.in_ok-opening.ensures.fit;
      keys = c.in_ok-keyboard.ensures.few;
      turns = subst (λ k. All (λ t. is_there (length c.in_ok-tables.tables.items) k t ≡ true) c.in_ok-turns.turns.bytes)
          keyboards
          (subst (λ n. All (λ t. is_there n c.keyboard_count-keyboards.result t ≡ true) c.in_ok-turns.turns.bytes) same
          c.in_ok-turns.ensures.each);
      few_turns = are.0;
      tables = omega (arith, c.in_ok-tables.tables.ok.0);
      further = c.in_ok-further.ensures.fit;
    }
