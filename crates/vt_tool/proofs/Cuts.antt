-- The place at which an input is cut.
use Rattle.std.proofs.Common.{refl, ◌≡◌, ℕ, ◌<◌, ◌≤◌, ◌-◌, inl, inr, List, [], length, take, drop, sym, ap, ◌∙◌, subst, arith, length-append, length-drop, length-take, take_all, ⊎_elim}
use Rattle.std.proofs.Math.Seq.{take-append_seam, drop-append_seam}
use Rattle.std.proofs.lemmas.Bool.{cases_lt}
use Rattle.std.proofs.lemmas.List.{take-append-drop}
use Rattle.vt_journal.specs.Journal.{first_words, line_text}
use Rattle.vt_tool.specs.Commands.Cut.{BeginsLine, HasMark, IsCut, IsCutFirst, IsMarked, cert_mark}
use Rattle.vt_tool.specs.declared.commands.cut.CutMark.{CutMark}
use Rattle.vt_tool.specs.declared.commands.cut.CutMark.TheVariants as mark

-- a text that begins with a mark is not empty
some : (what : CutMark) (text : List ℕ) → HasMark what text → 0 < length text
some mark.Journal text (version, has) =
    omega (arith, ap length has.parts, length-append (line_text (first_words version)) has.rest, first version)
  where
    first : (version : ℕ) → 0 < length (line_text (first_words version))
    first version = grind arith
some mark.Certificate text (rest, is) = omega (arith, ap length is, length-append cert_mark rest)

-- no mark is at a place before this one
abbrev pub NoneBefore : CutMark → List ℕ → ℕ → Type 0
NoneBefore what input at =
    (k : ℕ) → k < at → ¬ IsMarked what input (take k input) (drop k input)

module _ (what : CutMark)
  where
    -- the place of the mark determines the text before it and after it
    taken : (input text after : List ℕ) → IsMarked what input text after
        → text ≡ take (length text) input
    taken input text after has =
        sym (ap (take (length text)) has.parts ∙ take-append_seam text after)

    left : (input text after : List ℕ) → IsMarked what input text after
        → after ≡ drop (length text) input
    left input text after has =
        sym (ap (drop (length text)) has.parts ∙ drop-append_seam text after)

    -- so a mark is at that place or after it
    pub at_least : (input : List ℕ) (at : ℕ) → NoneBefore what input at → (text after : List ℕ)
        → IsMarked what input text after → at ≤ length text
    at_least input at none text after has = ⊎_elim
        (λ before.
        absurd (none (length text) before
        (subst (λ (t : List ℕ). IsMarked what input t (drop (length text) input)) (taken input text after has)
        (subst (λ (j : List ℕ). IsMarked what input text j) (left input text after has) has))))
        (λ not. not)
        (cases_lt (length text) at)

    -- and none is at the end
    within : (input text after : List ℕ) → IsMarked what input text after → length text < length input
    within input text after has =
        omega (arith, ap length has.parts, length-append text after, some what after has.first)

    pub nowhere : (input : List ℕ) → NoneBefore what input (length input) → (text after : List ℕ)
        → ¬ IsMarked what input text after
    nowhere input none text after has =
        omega (arith, at_least input (length input) none text after has, within input text after has)

    -- an input is cut at one place
    one-first : (input a b c d : List ℕ) → IsCutFirst what input a b → IsCutFirst what input c d
        → (a ≡ c) × (b ≡ d)
    one-first input a b c d x y =
        let same : length a ≡ length c = omega (arith, x.first c d y.has, y.first a b x.has) in (
          taken input a b x.has ∙ ap (λ n. take n input) same ∙ sym (taken input c d y.has),
          left input a b x.has ∙ ap (λ n. drop n input) same ∙ sym (left input c d y.has),
        )

    pub one_cut : (input a b c d : List ℕ) → IsCut what input a b → IsCut what input c d → (a ≡ c) × (b ≡ d)
    one_cut input a b c d (inl x) (inl y) = one-first input a b c d x y
    one_cut input a b c d (inl x) (inr y) = absurd (y.none a b x.has)
    one_cut input a b c d (inr x) (inl y) = absurd (x.none c d y.has)
    one_cut input a b c d (inr x) (inr y) = (x.all ∙ sym y.all, x.nothing ∙ sym y.nothing)

    -- the input is cut at the place that the code finds
    pub cut_here : (input : List ℕ) (at : ℕ) → at < length input → NoneBefore what input at
        → IsMarked what input (take at input) (drop at input)
        → IsCut what input (take at input) (take (length input - at) (drop at input))
    cut_here input at inside none has =
        let whole : take (length input - at) (drop at input) ≡ drop at input =
        take_all (length input - at) (drop at input) (omega (arith, length-drop at input)) in
        subst (λ (after : List ℕ). IsCut what input (take at input) after) (sym whole)
        (inl (record {
          has = has;
          first = λ before rest other.
              omega (arith, length-take at input, at_least input at none before rest other);
        }))

    pub cut_nowhere : (input : List ℕ) (at : ℕ) → length input ≤ at → NoneBefore what input at
        → IsCut what input input []
    cut_nowhere input at past none = inr (record {
      none = nowhere input (λ k before. none k (omega (arith, before, past)));
      all = refl;
      nothing = refl;
    })

    -- a mark is at a place if a line begins there and the text goes on with the mark
    pub mark_here : (input front after : List ℕ) (at : ℕ) → front ≡ take at input
        → after ≡ drop at input → BeginsLine front → HasMark what after
        → IsMarked what input (take at input) (drop at input)
    mark_here input front after at fronts backs begins is = record {
      parts = sym (take-append-drop at input);
      line = subst BeginsLine fronts begins;
      first = subst (HasMark what) backs is;
    }

    -- and is not if the text goes on otherwise
    pub no_mark : (input after : List ℕ) (at : ℕ) → after ≡ drop at input → ¬ HasMark what after
        → ¬ IsMarked what input (take at input) (drop at input)
    no_mark input after at backs none has = none (subst (HasMark what) (sym backs) has.first)
