-- The further keyboards of a session, read text by text.
use Rattle.std.proofs.Common.{◌≡◌, ℕ, ◌≤◌, nat_le, true, List, [], ◌∷◌, Option, Result, Ok, Err, IfOk, length, map, refl, ◌∙◌, arith}
use Rattle.std.proofs.lemmas.Bool.Decides.{nat_tests}
use Rattle.std.proofs.lemmas.List.Elements.{All-head, All-tail}
use Rattle.std.specs.List.{All}
use Rattle.table_fields.specs.Arrays.{array_of}
use Rattle.table_fields.specs.Checked.{Gives, GivesBy, collect}
use Rattle.table_fields.specs.Fields.{bytes_of, few_items_of}
use Rattle.table_fields.specs.declared.fault.TableError.{TableError}
use Rattle.table_fields.specs.declared.fault.TableError.TheVariants as errors
use Rattle.toml.specs.Data.{Data, as_str}
use Rattle.vt_base.specs.Bytes.{Text}
use Rattle.vt_events.specs.Kinds.{text}
use Rattle.session_text.specs.Keyboards.{further_of}

-- texts without spare room are equal to the texts of their bytes
texts_are : (list : List Text) → All (λ (keys : Text). keys.room ≡ 0) list
    → list ≡ map text (map (λ (keys : Text). keys.bytes) list)
texts_are [] none = refl
texts_are (keys ∷ list) none = λ i.
    record keys { room = All-head (λ (keys : Text). keys.room ≡ 0) keys list none i }
    ∷ texts_are list (All-tail (λ (keys : Text). keys.room ≡ 0) keys list none) i

further_is : (d : Option Data) (texts : List (List ℕ)) (items : List (List (List ℕ)))
    → array_of as_str 0 12 d ≡ Ok texts → length texts ≤ 3
    → collect (λ k text. few_items_of 0 12 text) 1 texts ≡ Ok items
    → further_of d ≡ collect (bytes_of 30) 1 items
further_is d texts items read few items_are =
    let within : nat_le (length texts) 3 ≡ true = grind (arith, nat_tests) in
    rw (read, within, items_are) refl

pub further_read : {X : Type 0} (list_of : X → List Text) (d : Option Data) (texts : List (List ℕ))
    (items : List (List (List ℕ))) (r : Result X TableError)
    → array_of as_str 0 12 d ≡ Ok texts → length texts ≤ 3
    → collect (λ k text. few_items_of 0 12 text) 1 texts ≡ Ok items
    → Gives (λ x. map (λ (keys : Text). keys.bytes) (list_of x)) r (collect (bytes_of 30) 1 items)
    → IfOk r (λ x. All (λ (keys : Text). keys.room ≡ 0) (list_of x))
    → GivesBy (λ x texts. list_of x ≡ map text texts) r (further_of d)
further_read list_of d texts items (Ok x) read few items_are gives none = (
  map (λ (keys : Text). keys.bytes) (list_of x),
  further_is d texts items read few items_are ∙ gives,
  texts_are (list_of x) none,
)
further_read list_of d texts items (Err (errors.Fault f)) read few items_are gives none =
    further_is d texts items read few items_are ∙ gives
further_read list_of d texts items (Err errors.NoMemory) read few items_are gives none = tt
