-- Texts that may be included, by name.
use Rattle.std.specs.Prelude.{ℕ, cond, is_some, Option, List, [], ◌∷◌, ◌++◌, find}
use Rattle.std.specs.Option.{option_map}
use Rattle.std.specs.Str.{bytes_eq}

-- a text and its name
pub record Named : Type 0 where
  pub name : List ℕ
  pub text : List ℕ

abbrev pub make_named : List ℕ → List ℕ → Named
make_named name text = record { name = name; text = text }

-- the first text of a name
abbrev pub text_named : List ℕ → List Named → Option (List ℕ)
text_named name texts = option_map (λ n. n.text) (find (λ n. bytes_eq n.name name) texts)

-- a text is added, unless its name is there already
abbrev pub with_text : List ℕ → List ℕ → List Named → List Named
with_text name text texts =
    cond (is_some (text_named name texts)) texts (texts ++ make_named name text ∷ [])
