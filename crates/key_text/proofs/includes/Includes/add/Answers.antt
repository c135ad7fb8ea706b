use Rattle.std.proofs.Common.{◌≡◌, ◌++◌, ◌∷◌, [], ◌∙◌, ap, sym, length, is_some, false, arith}
use Rattle.key_text.specs.Included.{make_named, text_named}
use Rattle.key_text.proofs.Naming.{copied_some, places_more}
use Rattle.key_text.proofs.includes.Includes.add.Goals as goal

pub invariant_of-self-2 : goal.invariant_of-self-2
invariant_of-self-2 c =
    let name = c.args.name.now in
    let text = c.args.text.now in
    let texts = c.self.inside.texts.items in
    let absent : is_some (text_named name texts) ≡ false =
    ap (λ ts. is_some (text_named name ts)) c.self.view_is ∙ ap is_some (sym c.text_named.ensures)
    ∙ copied_some c.text_named.result ∙ sym c.is_some.ensures ∙ c.if-is_some.false in
    let place : c.len.result ≡ length texts = grind (arith, c.len.ensures, c.reserve.ensures.len, c.reserve.ensures.items, c.self.inside.texts.ok.0) in
    let added : c.add_last.new.texts.items ≡ texts ++ make_named name text ∷ [] =
    c.add_last.ensures ∙ ap (λ ts. ts ++ c.in_ok-included.included ∷ []) c.reserve.ensures.items
    ∙ ap (λ t. texts ++ t ∷ []) c.in_ok-included.ensures in
    places_more c.self.inside.places c.put_place.new.places texts c.add_last.new.texts.items name text c.in_ok-key.key.items c.len.result
    c.self.invariant absent c.in_ok-put_place.ensures.ok c.in_ok-key.ensures.items place added
