-- Known bytes that are consumed or appended in two steps.
use Rattle.std.proofs.Common.{ℕ, List, ◌++◌, Option, Some, None, sym, ap, ◌∙◌, append_assoc, ◌≡◌, ◌+◌, ◌-◌, ◌≤◌, length, take, drop, subst, arith, take-take, length-take}
use Rattle.std.proofs.Math.Seq.{take-add}
use Rattle.std.specs.Io.KnownBytes.{Appends, Consumes}

pub consumes_append : (a b c : Option (List ℕ)) (xs ys : List ℕ)
    → Consumes a b xs → Consumes b c ys → Consumes a c (xs ++ ys)
consumes_append None b c xs ys first second = tt
consumes_append (Some a) None c xs ys first second = absurd first
consumes_append (Some a) (Some b) None xs ys first second = absurd second
consumes_append (Some a) (Some b) (Some c) xs ys first second =
    first ∙ ap (λ rest. xs ++ rest) second ∙ sym (append_assoc xs ys c)

pub appends_append : (a b c : Option (List ℕ)) (xs ys : List ℕ)
    → Appends a b xs → Appends b c ys → Appends a c (xs ++ ys)
appends_append None b c xs ys first second = tt
appends_append (Some a) None c xs ys first second = absurd first
appends_append (Some a) (Some b) None xs ys first second = absurd second
appends_append (Some a) (Some b) (Some c) xs ys first second =
    second ∙ ap (λ front. front ++ ys) first ∙ append_assoc a xs ys

-- a text of which so much is written, and then some of the rest
pub written_more : (held held' held'' : Option (List ℕ)) (text : List ℕ) (at count : ℕ)
    → Appends held held' (take at text)
    → Appends held' held'' (take count (take (length text - at) (drop at text)))
    → count ≤ length (take (length text - at) (drop at text))
    → Appends held held'' (take (at + count) text)
written_more held held' held'' text at count before piece fits =
    let left : count ≤ length text - at =
    omega (arith, fits, length-take (length text - at) (drop at text)) in
    let taken : take (at + count) text
    ≡ take at text ++ take count (take (length text - at) (drop at text)) =
    take-add at count text
    ∙ ap (λ more. take at text ++ more)
    (sym (take-take count (length text - at) (drop at text) left)) in
    subst (Appends held held'') (sym taken)
    (appends_append held held' held'' (take at text)
    (take count (take (length text - at) (drop at text))) before piece)
