-- The text of a script item has one meaning.
use Rattle.std.proofs.Common.{◌≡◌, ℕ, Bool, false, eqb, refl, true≢false, List, ◌∷◌, codes, decimal, Ok, Err, inl, inr, ap, sym, ◌∙◌, arith}
use lib.Pointwise.{pointwise}
use Rattle.std.proofs.lemmas.Fmt.{decimal_injective}
use Rattle.vt_events.specs.Calls.{kind_of}
use Rattle.vt_events.specs.Kinds.{name_of, text as bytes_of}
use Rattle.vt_events.specs.declared.event.Event.{Event}
use Rattle.vt_events.specs.declared.event.Event.TheVariants as event
use Rattle.vt_events.specs.declared.kind.Kind.{Kind}
use Rattle.vt_events.specs.declared.kind.Kind.TheVariants as kind
use Rattle.vt_journal.specs.Words.{CallsAreCut, OneCall, Spells, joined_by_blanks}
use Rattle.session_text.specs.ItemTexts.{IsItem, IsSay, item_says}
use Rattle.session_text.proofs.for_laws.OneResult.{IsOne}

abbrev is_say : List ℕ → Bool
is_say name = pointwise eqb name (codes "say")

-- no kind of calls has the name `say`
other_name : (k : Kind) → is_say (name_of k) ≡ false
other_name kind.Exit = refl
other_name k = refl

-- the text of a `say` spells no call
say_spells : CallsAreCut → (text : List ℕ) (d e : Event) → Spells text d → IsSay text e → ⊥
say_spells cut text d e call say =
    let is = cut text d call in
    let are = say.say.are in
    let name : name_of (kind_of d) ≡ codes "say" = cc in
    true≢false (sym (ap is_say name) ∙ other_name (kind_of d))

-- the text of a `say` is one write
one_say : (text : List ℕ) (d e : Event) → IsSay text d → IsSay text e → d ≡ e
one_say text d e this other =
    let is = this.say.are in
    let are = other.say.are in
    let low = this.say.fits in
    let lower = other.say.fits in
    let number : decimal this.fd ≡ decimal other.fd = cc in
    let fds = decimal_injective this.fd other.fd (omega arith) (omega arith) number in
    let words : this.say.first ∷ this.say.more ≡ other.say.first ∷ other.say.more = cc in
    this.write ∙ (λ i. event.Write (fds i) (bytes_of (joined_by_blanks (words i)))) ∙ sym other.write

one_item : OneCall → CallsAreCut → (text : List ℕ) (d e : Event) → IsItem text d → IsItem text e → d ≡ e
one_item one cut text d e this other =
    elim this [
      | inl call ↦ elim other [
        | inl again ↦ one text d e call.0 again.0
        | inr say ↦ absurd (say_spells cut text d e call.0 say)
      ]
      | inr say ↦ elim other [
        | inl call ↦ absurd (say_spells cut text e d call.0 say)
        | inr again ↦ one_say text d e say again
      ]
    ]

pub item_one : OneCall → CallsAreCut → (p n : ℕ) (text : List ℕ) → IsOne (item_says p n text)
item_one one cut p n text (Ok d) (Ok e) this other = ap Ok (one_item one cut text d e this other)
item_one one cut p n text (Ok d) (Err f) this other = absurd (other.0 d this)
item_one one cut p n text (Err f) (Ok e) this other = absurd (this.0 e other)
item_one one cut p n text (Err e) (Err f) this other = ap Err (this.1 ∙ sym other.1)
