use Rattle.std.proofs.Common.{◌≡◌, ◌≤◌, ℕ, List, Bor, length, map, option_map, sym, ap, ◌∙◌, arith}
use Rattle.std.proofs.lemmas.List.{length-map}
use Rattle.table_fields.specs.Checked.{collect}
use Rattle.table_fields.specs.Fields.{few_items_of}
use Rattle.toml.specs.View.{view}
use Rattle.toml.specs.declared.value.Value.{Value}
use Rattle.session_text.proofs.FurtherReading.{further_read}
use Rattle.session_text.proofs.further.further.Goals as goal

pub returns-clause-further : goal.returns-clause-further
returns-clause-further c =
    let now : List (Bor (List ℕ)) → List (List ℕ) = map (λ (text : Bor (List ℕ)). text.now) in
    let texts : List (Bor (List ℕ)) = c.in_ok-texts.texts.items in
    let long : length (now texts) ≡ length texts = length-map texts (λ (text : Bor (List ℕ)). text.now) in
    let few : length (now texts) ≤ 3 = omega (arith, long, c.in_ok-texts.texts.ok.0) in
    let read = ap (λ ts. collect (λ k text. few_items_of 0 12 text) 1 (now ts)) (sym c.as_slice.ensures.value)
    ∙ c.in_ok-items.ensures.items in
    further_read (λ found. found.items) (option_map (λ (v : Bor Value). view v.now) c.args.value) (now texts) _ c.all_bytes.result c.in_ok-texts.ensures few read
    (rw c.as_slice-2.ensures.value at c.all_bytes.ensures.bytes)
    c.all_bytes.ensures.room
