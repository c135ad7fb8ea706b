-- The words of an answer, and the answer of words.
use Rattle.std.proofs.Common.{◌≡◌, ℕ, ◌<◌, ◌≤◌, ◌^◌, Bool, true, ◌&&◌, cond, eqb, ltb, Option, Some, None, Result, Ok, Err, List, [], ◌∷◌, ◌++◌, find, get_or, length, map, decimal, refl, sym, ap, subst, ◌∙◌, append_assoc, arith}
use Rattle.std.specs.List.{All, list_all}
use Rattle.std.specs.Prelude.{◌≢◌, IfNone, IfSome, OnOk, unwrap_or}
use Rattle.std.proofs.lemmas.List.{get_or-replicate}
use Rattle.vt_base.specs.Bytes.{Text}
use Rattle.vt_base.specs.declared.vt_mode.VtMode.{VtMode}
use Rattle.std.specs.Str.{bytes_eq}
use Rattle.std.proofs.lemmas.Bool.{ltb-true}
use Rattle.std.proofs.lemmas.List.Elements.{All-from_get_or, All-weaker}
use Rattle.std.proofs.lemmas.List.Sums.{AllPass-from_list_all}
use Rattle.std.proofs.lemmas.Option.{same_Some}
use Rattle.vt_base.specs.Errno.{number_of}
use Rattle.vt_base.specs.declared.errno.Errno.{Errno}
use Rattle.vt_base.specs.declared.errno.Errno.TheVariants as errno
use Rattle.vt_events.specs.Kinds.{text}
use Rattle.vt_events.specs.Plain.{plain_reply}
use Rattle.vt_events.specs.declared.reply.Reply.{Reply}
use Rattle.vt_events.specs.declared.reply.Reply.TheVariants as reply
use Rattle.vt_journal.specs.Replies.{IsFitReply, Within, kind_of, mosts, reply_held, reply_holds, reply_name, reply_numbers}
use Rattle.vt_journal.specs.Readers.{Takes}
use Rattle.vt_journal.specs.Words.{held_words, reply_words}
use Rattle.vt_journal.specs.declared.reply_kind.ReplyKind.{ReplyKind}
use Rattle.vt_journal.specs.declared.reply_kind.ReplyKind.TheVariants as kind
use Rattle.vt_events.proofs.Calls.{held_if}
use Rattle.vt_journal.proofs.Clear.{are_clear, are_clear-append, are_clear_decimals, are_clear_held, is_clear}
use Rattle.vt_journal.proofs.Spellings.{decimals_injective, fit_bytes, held_injective, split_numbers}

-- an answer is its name, its numbers and its bytes
pub reply_parts : (r : Reply)
    → reply_words r
    ≡ reply_name (kind_of r) ∷ (map decimal (reply_numbers r) ++ held_words (reply_held r))
reply_parts (reply.Text b) = refl
reply_parts r = refl

-- the bytes that an answer holds, if it holds any
abbrev pub reply_bytes : Reply → List ℕ
reply_bytes r = unwrap_or (reply_held r) []

pub reply-held : (r : Reply) → reply_held r ≡ held_if (reply_holds (kind_of r)) (reply_bytes r)
reply-held (reply.Text b) = refl
reply-held r = refl

-- all kinds
abbrev kinds : List ReplyKind
kinds =
    kind.Done ∷ kind.Num ∷ kind.State ∷ kind.Text ∷ kind.Mode ∷ kind.Act ∷ kind.Wait ∷ kind.Sigs
    ∷ kind.Err ∷ []

-- the kind of a name
abbrev named : List ℕ → Option ReplyKind
named name = find (λ k. bytes_eq (reply_name k) name) kinds

named_name : (k : ReplyKind) → named (reply_name k) ≡ Some k
named_name kind.Done = refl
named_name k = refl

pub same_kind : (j k : ReplyKind) → reply_name j ≡ reply_name k → j ≡ k
same_kind j k same =
    same_Some j k (sym (named_name j) ∙ ap named same ∙ named_name k)

-- the error of a number
abbrev error_of : ℕ → Errno
error_of n =
    cond (eqb n 1) errno.Perm (cond (eqb n 3) errno.Srch (cond (eqb n 4) errno.Intr
    (cond (eqb n 6) errno.Nxio (cond (eqb n 9) errno.Badf (cond (eqb n 11) errno.Again
    (cond (eqb n 16) errno.Busy (cond (eqb n 22) errno.Inval errno.Notty)))))))

error_of_number : (e : Errno) → error_of (number_of e) ≡ e
error_of_number errno.Perm = refl
error_of_number e = refl

-- an answer is made of its kind, its numbers and its bytes again
abbrev remade : ReplyKind → List ℕ → Option (List ℕ) → Reply
remade kind.Done n held = reply.Done
remade kind.Num n held = reply.Num (get_or n 0 0)
remade kind.State n held = reply.State (get_or n 0 0) (get_or n 1 0)
remade kind.Text n held = reply.Text (text (unwrap_or held []))
remade kind.Mode n held = reply.Mode (record {
  mode = get_or n 0 0;
  waitv = get_or n 1 0;
  relsig = get_or n 2 0;
  acqsig = get_or n 3 0;
  frsig = get_or n 4 0;
})
remade kind.Act n held = reply.Act (get_or n 0 0) (get_or n 1 0)
remade kind.Wait n held = reply.Wait
remade kind.Sigs n held = reply.Sigs (get_or n 0 0)
remade kind.Err n held = reply.Err (error_of (get_or n 0 0))

remade_parts : (r : Reply)
    → remade (kind_of r) (reply_numbers r) (reply_held r) ≡ plain_reply r
remade_parts (reply.Text b) = refl
remade_parts (reply.Err e) = ap reply.Err (error_of_number e)
remade_parts r = refl

-- answers with the same kind, numbers and bytes are the same
pub same_reply_of : (r s : Reply) → plain_reply r ≡ r → plain_reply s ≡ s → kind_of r ≡ kind_of s
    → reply_numbers r ≡ reply_numbers s → reply_held r ≡ reply_held s → r ≡ s
same_reply_of r s plain_r plain_s kinds numbers held =
    sym plain_r
    ∙ sym (remade_parts r)
    ∙ (λ j. remade (kinds j) (numbers j) (held j))
    ∙ remade_parts s
    ∙ plain_s

-- their numbers have 64 bits
wide_mosts : (k : ReplyKind) → list_all (λ n. ltb n (2 ^ 64)) (mosts k) ≡ true
wide_mosts kind.Done = refl
wide_mosts k = refl

pub wide_within : (k : ReplyKind) (ns : List ℕ) → Within (mosts k) ns
    → All (λ n. n < 2 ^ 64) ns
wide_within k ns is =
    let all =
    All-weaker (λ n. ltb n (2 ^ 64) ≡ true) (λ n. n < 2 ^ 64) (λ n below. ltb-true n (2 ^ 64) below)
    (mosts k) (AllPass-from_list_all (λ n. ltb n (2 ^ 64)) (mosts k) (wide_mosts k)) in
    All-from_get_or (λ n. n < 2 ^ 64) ns 0
    (λ i within. one i (is.each i within) (all i 0 (inside i within is.many)))
  where
    inside : (i : ℕ) → i < length ns → length ns ≡ length (mosts k) → i < length (mosts k)
    inside i within many = omega (arith, within, many)

    one : (i : ℕ) → get_or ns i 0 ≤ get_or (mosts k) i 0 → get_or (mosts k) i 0 < 2 ^ 64
        → get_or ns i 0 < 2 ^ 64
    one i below most = omega (arith, below, most)

-- the words of an answer are clear
is_clear-reply_name : (k : ReplyKind) → is_clear (reply_name k) ≡ true
is_clear-reply_name kind.Done = refl
is_clear-reply_name k = refl

pub are_clear-reply : (r : Reply) → IsFitReply r → are_clear (reply_words r) ≡ true
are_clear-reply r fit =
    let others =
    are_clear-append (map decimal (reply_numbers r)) (held_words (reply_held r))
    (are_clear_decimals (reply_numbers r) (wide_within (kind_of r) (reply_numbers r) fit.numbers))
    (are_clear_held (reply_held r)) in
    ap are_clear (reply_parts r) ∙ (λ j. is_clear-reply_name (kind_of r) j && others j)

-- the words after the name of a kind
pub record ReplyIs (k : ReplyKind) (u : List (List ℕ)) (r : Reply) (rest : List (List ℕ)) : Type 0 where
  pub kind : kind_of r ≡ k
  pub words : u ≡ map decimal (reply_numbers r) ++ (held_words (reply_held r) ++ rest)

pub reply_is : (words u : List (List ℕ)) (k : ReplyKind) (r : Reply) (rest : List (List ℕ))
    → words ≡ reply_words r ++ rest → words ≡ reply_name k ∷ u → ReplyIs k u r rest
reply_is words u k r rest is named =
    let both : reply_name k ∷ u
    ≡ reply_name (kind_of r)
    ∷ ((map decimal (reply_numbers r) ++ held_words (reply_held r)) ++ rest) =
    sym named ∙ is ∙ ap (λ words. words ++ rest) (reply_parts r) in
    let name : reply_name (kind_of r) ≡ reply_name k = cc in
    let others : u ≡ (map decimal (reply_numbers r) ++ held_words (reply_held r)) ++ rest = cc in
    record {
      kind = same_kind (kind_of r) k name;
      words =
          others ∙ append_assoc (map decimal (reply_numbers r)) (held_words (reply_held r)) rest;
    }

-- after the numbers that were read come the bytes
pub record NumbersAre (ns : List ℕ) (v : List (List ℕ)) (r : Reply) (rest : List (List ℕ)) : Type 0 where
  pub numbers : ns ≡ reply_numbers r
  pub words : v ≡ held_words (reply_held r) ++ rest

pub numbers_are : (k : ReplyKind) (most ns : List ℕ) (u v : List (List ℕ)) (r : Reply)
    (rest : List (List ℕ)) → ReplyIs k u r rest → IsFitReply r → most ≡ mosts k → Within most ns
    → u ≡ map decimal ns ++ v → NumbersAre ns v r rest
numbers_are k most ns u v r rest is fit its_most within_most numbers =
    let within : Within (mosts k) ns = subst (λ most. Within most ns) its_most within_most in
    let within_r : Within (mosts k) (reply_numbers r) =
    subst (λ k. Within (mosts k) (reply_numbers r)) is.kind fit.numbers in
    let both =
    split_numbers ns (reply_numbers r) v _ (within.many ∙ sym within_r.many) (sym numbers ∙ is.words) in
    record {
      numbers =
          decimals_injective ns (reply_numbers r) (wide_within k ns within)
          (wide_within k (reply_numbers r) within_r) both.0;
      words = both.1;
    }

-- the word of the bytes, if the kind holds any
pub held_are : (k : ReplyKind) (u v : List (List ℕ)) (r : Reply) (rest : List (List ℕ)) (held : Bool)
    → kind_of r ≡ k → held ≡ reply_holds k → v ≡ held_words (reply_held r) ++ rest
    → v ≡ held_words (held_if held (reply_bytes r)) ++ rest
held_are k u v r rest held is same words =
    words
    ∙ ap (λ held. held_words held ++ rest)
    (reply-held r ∙ ap (λ h. held_if h (reply_bytes r)) (ap reply_holds is ∙ sym same))

-- words are one answer and the words after it
pub reply_once : (r s : Reply) (u v : List (List ℕ)) → IsFitReply r → IsFitReply s
    → reply_words r ++ u ≡ reply_words s ++ v → (r ≡ s) × (u ≡ v)
reply_once r s u v fit_r fit_s same =
    let parts : reply_words r ++ u
    ≡ reply_name (kind_of r) ∷ ((map decimal (reply_numbers r) ++ held_words (reply_held r)) ++ u) =
    ap (λ words. words ++ u) (reply_parts r) in
    let is = reply_is (reply_words r ++ u) _ (kind_of r) s v same parts in
    let are =
    numbers_are (kind_of r) _ (reply_numbers r) _ (held_words (reply_held r) ++ u) s v is fit_s refl
    fit_r.numbers (append_assoc (map decimal (reply_numbers r)) (held_words (reply_held r)) u) in
    let holds : Bool = reply_holds (kind_of r) in
    let held =
    held_injective holds (reply_bytes r) (reply_bytes s) u v (fit_bytes (reply_held r) fit_r.bytes)
    (fit_bytes (reply_held s) fit_s.bytes)
    (ap (λ held. held_words held ++ u) (sym (reply-held r))
    ∙ held_are (kind_of r) u (held_words (reply_held r) ++ u) s v holds is.kind refl are.words) in
    let held_s : reply_held s ≡ held_if holds (reply_bytes s) =
    reply-held s ∙ ap (λ k. held_if (reply_holds k) (reply_bytes s)) is.kind in (
      same_reply_of r s fit_r.plain fit_s.plain (sym is.kind) are.numbers
          (reply-held r ∙ held.0 ∙ sym held_s),
      held.1,
    )

-- words of an answer begin with the name of its kind
pub named_reply : (r : Reply) (rest : List (List ℕ))
    → (more : List (List ℕ)) × (reply_words r ++ rest ≡ reply_name (kind_of r) ∷ more)
named_reply r rest = (
  (map decimal (reply_numbers r) ++ held_words (reply_held r)) ++ rest,
  ap (λ words. words ++ rest) (reply_parts r),
)

-- an answer that is made of what was read is the one that the words spell
pub takes_answer : (old new : List (List ℕ)) (made : Option Reply) (Other : Type 0)
    → IfSome made (λ r. old ≡ reply_words r ++ new) → IfNone made Other
    → (Other → (r : Reply) (rest : List (List ℕ)) → IsFitReply r → old ≢ reply_words r ++ rest)
    → Takes reply_words IsFitReply old new made
takes_answer old new (Some r) Other found none more = found
takes_answer old new None Other found none more = more none

-- a fact that holds for every result of a call holds after Ok
pub always : {T E P : Type 0} (r : Result T E) → P → OnOk r P
always (Ok x) holds = holds
always (Err e) holds = tt

-- an answer that holds bytes is fit, and one of a mode
pub fit_text : (b : Text) → All (λ x. x < 2 ^ 8) b.bytes → IsFitReply (plain_reply (reply.Text b))
fit_text b fit = record {
  numbers = record { many = refl; each = λ i within. absurd (omega (arith, within)) };
  bytes = fit;
  plain = refl;
}

pub fit_mode : (m : VtMode)
    → All (λ n. n < 2 ^ 16) (m.mode ∷ m.waitv ∷ m.relsig ∷ m.acqsig ∷ m.frsig ∷ [])
    → IsFitReply (plain_reply (reply.Mode m))
fit_mode m fit = record {
  numbers = record {
    many = refl;
    each = λ i within. omega (arith, fit i 0 within, get_or-replicate {A = ℕ} 5 i 65535 0 within);
  };
  bytes = tt;
  plain = refl;
}
