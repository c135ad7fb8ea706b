-- A session's table, read key by key.
use Rattle.std.proofs.Common.{◌≡◌, ℕ, ◌≤◌, nat_le, true, List, Option, Ok, length, codes, refl, sym, ap, ◌∙◌, arith}
use Rattle.std.proofs.lemmas.Bool.Decides.{nat_tests}
use Rattle.table_fields.specs.Arrays.{array_of, count_of}
use Rattle.table_fields.specs.Fields.{keys_pass}
use Rattle.toml.specs.Data.{Data, Members, as_table, get_member}
use Rattle.session_text.specs.Keyboards.{Typed, further_of, keyboards_of, typed_of}
use Rattle.session_text.specs.Openings.{opening_of}
use Rattle.session_text.specs.Tops.{is_top_key, top_of}
use Rattle.session_text.specs.Turns.{turns_of}
use Rattle.session_text.specs.declared.session_header.SessionHeader.{SessionHeader}

pub top_read : (table : Members) (p m t : Option Data) (opening : SessionHeader) (typed : Typed) (n k : ℕ)
    (turns : List ℕ) (tables : List Members) (further : List (List ℕ))
    → keys_pass is_top_key table ≡ true → opening_of table ≡ Ok opening → typed_of table ≡ Ok typed
    → p ≡ get_member (codes "process") table → n ≡ count_of p
    → m ≡ get_member (codes "more_keys") table → k ≡ keyboards_of m
    → t ≡ get_member (codes "turns") table
    → turns_of n k t ≡ Ok turns → array_of as_table 0 11 p ≡ Ok tables → length tables ≤ 64
    → further_of m ≡ Ok further
    → top_of table
    ≡ Ok (record {
      opening = opening;
      typed = typed;
      turns = turns;
      tables = tables;
      further = further;
    })
top_read table p m t opening typed n k turns tables further known opening_is typed_is p_is n_is m_is k_is t_is turns_are tables_are few further_is =
    let turns' =
    (λ i. turns_of ((sym (ap count_of p_is) ∙ sym n_is) i) ((sym (ap keyboards_of m_is) ∙ sym k_is) i) (sym t_is i))
    ∙ turns_are in
    let tables' = ap (array_of as_table 0 11) (sym p_is) ∙ tables_are in
    let within : nat_le (length tables) 64 ≡ true = grind (arith, nat_tests) in
    let further' = ap further_of (sym m_is) ∙ further_is in
    rw (known, opening_is, typed_is, turns', tables', within, further') refl
