-- The bytes that are held stand for the fresh ones, after one more byte.
use Rattle.std.proofs.Common.{◌≡◌, ℕ, ◌+◌, ◌<◌, ◌≤◌, Bool, true, false, cond, ◌&&◌, List, [], ◌∷◌, ◌++◌, length, refl, sym, ap, ◌∙◌, subst, arith, append_assoc, length-append}
use Rattle.std.proofs.lemmas.Bool.{false≢true}
use Rattle.std.proofs.lemmas.List.{append-nil}
use Rattle.std.proofs.lemmas.List.Folds.{concat-append}
use Rattle.std.specs.List.{concat}
use Rattle.cooked.proofs.FreshLaws.{fresh_added, fresh_ended}
use Rattle.cooked.proofs.KeptLaws.{kept_data, kept_erase, with_data}
use Rattle.cooked.proofs.KindLaws.{data_differs, erase_byte, erase_is}
use Rattle.cooked.specs.Cooked.{Stands, Typing, ends_open, make_typing}
use Rattle.cooked.specs.Fresh.{fresh}
use Rattle.cooked.specs.KeptText.{but_last, kept_characters, last_of}
use Rattle.cooked.specs.Kinds.{ends_line, kind, kind_of}
use Rattle.cooked.specs.Sizes.{with_joined, with_put}
use Rattle.cooked.specs.Termios.{mapped_byte}
use Rattle.cooked.specs.declared.kind.Kind.{Kind}
use Rattle.cooked.specs.declared.kind.Kind.TheVariants.{Erase, Data}
use Rattle.cooked.specs.declared.termios.Termios.{Termios}
use Rattle.vt_base.specs.Bytes.{Text}
use Rattle.vt_chars.specs.Characters.{AsciiCuts, ByteMore, is_part, with_byte}

-- a character that goes on has at most three bytes
pub part_few : (c : List ℕ) (b : ℕ) → is_part (c ++ b ∷ []) ≡ true → length c < 4
part_few [] b is = omega arith
part_few (a ∷ []) b is = omega arith
part_few (a ∷ d ∷ []) b is = omega arith
part_few (a ∷ d ∷ g ∷ []) b is = omega arith
part_few (a ∷ d ∷ g ∷ h ∷ []) b is = absurd (false≢true is)
part_few (a ∷ d ∷ g ∷ h ∷ k ∷ c) b is = absurd (false≢true is)

-- a byte more of characters, by the last of them
with_byte_is : (cs : List (List ℕ)) (b : ℕ)
    → with_byte cs b ≡ cond (is_part (last_of cs ++ b ∷ [])) (with_joined cs b) (cs ++ (b ∷ []) ∷ [])
with_byte_is [] b = same (is_part (b ∷ []))
  where
    same : (p : Bool) → (b ∷ []) ∷ [] ≡ cond p ((b ∷ []) ∷ []) ((b ∷ []) ∷ [])
    same true = refl
    same false = refl
with_byte_is (c ∷ []) b = refl
with_byte_is (c ∷ d ∷ cs) b =
    ap (λ xs. c ∷ xs) (with_byte_is (d ∷ cs) b) ∙ push-in (is_part (last_of (d ∷ cs) ++ b ∷ []))
  where
    push-in : (p : Bool)
        → c ∷ cond p (with_joined (d ∷ cs) b) ((d ∷ cs) ++ (b ∷ []) ∷ [])
        ≡ cond p (with_joined (c ∷ d ∷ cs) b) ((c ∷ d ∷ cs) ++ (b ∷ []) ∷ [])
    push-in true = refl
    push-in false = refl

with_data_is : (open_end : Bool) (cs : List (List ℕ)) (b : ℕ)
    → with_data open_end cs b ≡ with_put (open_end && is_part (last_of cs ++ b ∷ [])) cs b
with_data_is true cs b = with_byte_is cs b
with_data_is false cs b = refl

-- the bytes of characters with one more
joined_bytes : (cs : List (List ℕ)) (b : ℕ) → concat (with_joined cs b) ≡ concat cs ++ b ∷ []
joined_bytes [] b = refl
joined_bytes (c ∷ []) b =
    append-nil (c ++ b ∷ []) ∙ ap (λ xs. xs ++ b ∷ []) (sym (append-nil c))
joined_bytes (c ∷ d ∷ cs) b =
    ap (λ xs. c ++ xs) (joined_bytes (d ∷ cs) b) ∙ sym (append_assoc c (concat (d ∷ cs)) (b ∷ []))

put_bytes : (joins : Bool) (cs : List (List ℕ)) (b : ℕ) → concat (with_put joins cs b) ≡ concat cs ++ b ∷ []
put_bytes true cs b = joined_bytes cs b
put_bytes false cs b = concat-append cs ((b ∷ []) ∷ [])

joined_count : (cs : List (List ℕ)) (b : ℕ) → length (with_joined cs b) ≤ length cs + 1
joined_count [] b = omega arith
joined_count (c ∷ []) b = omega arith
joined_count (c ∷ d ∷ cs) b = omega (arith, joined_count (d ∷ cs) b)

put_count : (joins : Bool) (cs : List (List ℕ)) (b : ℕ) → length (with_put joins cs b) ≤ length cs + 1
put_count true cs b = joined_count cs b
put_count false cs b = omega (arith, length-append cs ((b ∷ []) ∷ []))

but_last_bytes : (cs : List (List ℕ)) → length (concat (but_last cs)) ≤ length (concat cs)
but_last_bytes [] = omega arith
but_last_bytes (c ∷ []) = omega arith
but_last_bytes (c ∷ d ∷ cs) =
    omega
    (arith, but_last_bytes (d ∷ cs), length-append c (concat (but_last (d ∷ cs))), length-append c (concat (d ∷ cs)))

but_last_count : (cs : List (List ℕ)) → length (but_last cs) ≤ length cs
but_last_count [] = omega arith
but_last_count (c ∷ []) = omega arith
but_last_count (c ∷ d ∷ cs) = omega (arith, but_last_count (d ∷ cs))

-- one more byte is fresh, in a place that was left for it
module _ (t : Termios) (typed later : Text) (held : List (List ℕ)) (line : Text) (b : ℕ)
    (stands : Stands t typed held line) (canonical : t.icanon ≡ true)
    (goes_on : ends_line (kind t b) ≡ false) (bytes : later.bytes ≡ typed.bytes ++ b ∷ [])
    (room : later.room + 1 ≡ typed.room) where
  one-more : length later.bytes ≡ length typed.bytes + 1
  one-more = omega (arith, ap length bytes, length-append typed.bytes (b ∷ []))

  pub fresh_later : fresh t (typed.bytes ++ b ∷ []) ≡ typed.bytes ++ b ∷ []
  fresh_later =
      fresh_added t typed.bytes b canonical stands.stays goes_on
      (omega (arith, stands.typed_room, room))

  -- the held bytes stand for the fresh ones, if they are the kept ones
  later-stands : (now : List (List ℕ)) → now ≡ kept_characters t (typed.bytes ++ b ∷ [])
      → length (concat now) ≤ length typed.bytes + 1 → length now ≤ length typed.bytes + 1
      → Stands t later now line
  later-stands now is few fewer = record {
    valid = stands.valid;
    stays = subst (λ bs. fresh t bs ≡ bs) (sym bytes) fresh_later;
    held_are = is ∙ ap (kept_characters t) (sym bytes);
    bytes = omega (arith, few, one-more);
    characters = omega (arith, fewer, one-more);
    typed_room = omega (arith, stands.typed_room, room, one-more);
    line_room = stands.line_room;
  }

  pub put_stands : ByteMore → AsciiCuts → kind t b ≡ Data → (joins : Bool)
      → joins ≡ (ends_open t.erase typed.bytes && is_part (last_of (kept_characters t typed.bytes) ++ b ∷ []))
      → Stands t later (with_put joins held b) line
  put_stands byte_more ascii_cuts is joins test =
      later-stands (with_put joins held b)
      (ap (λ j. with_put j held b) test
      ∙ ap (λ cs. with_put (ends_open t.erase typed.bytes && is_part (last_of (kept_characters t typed.bytes) ++ b ∷ [])) cs b) stands.held_are
      ∙ sym
      (kept_data ascii_cuts byte_more t.erase typed.bytes b
      (erase_byte t stands.valid).low
      (data_differs t b stands.valid canonical is)
      ∙ with_data_is (ends_open t.erase typed.bytes) (kept_characters t typed.bytes) b))
      (omega (arith, ap length (put_bytes joins held b), length-append (concat held) (b ∷ []), stands.bytes))
      (omega (arith, put_count joins held b, stands.characters))

  pub erase_stands : AsciiCuts → kind t b ≡ Erase → Stands t later (but_last held) line
  erase_stands ascii_cuts is =
      let byte : b ≡ t.erase = erase_is t b stands.valid is in
      later-stands (but_last held)
      (ap but_last stands.held_are
      ∙ sym (kept_erase ascii_cuts t.erase typed.bytes (erase_byte t stands.valid).low)
      ∙ ap (λ x. kept_characters t (typed.bytes ++ x ∷ [])) (sym byte))
      (omega (arith, but_last_bytes held, stands.bytes))
      (omega (arith, but_last_count held, stands.characters))

-- another line in place of the old one
pub with_line : (t : Termios) (typed : Text) (held : List (List ℕ)) (line later : Text)
    → Stands t typed held line → length later.bytes + later.room ≡ 4096 → Stands t typed held later
with_line t typed held line later stands room = record {
  valid = stands.valid;
  stays = stands.stays;
  held_are = stands.held_are;
  bytes = stands.bytes;
  characters = stands.characters;
  typed_room = stands.typed_room;
  line_room = room;
}

-- a byte that ends the fresh bytes, by its kind
pub pushed_ended : (t : Termios) (f line : List ℕ) (v : Typing) (b h : ℕ) (k : Kind) → make_typing t f line ≡ v
    → h ≡ mapped_byte t b → k ≡ kind_of t h → ends_line k ≡ true → fresh v.termios (v.fresh ++ b ∷ []) ≡ []
pushed_ended t f line v b h k view heard_as found ends =
    ap (λ (x : Typing). fresh x.termios (x.fresh ++ b ∷ [])) (sym view)
    ∙ fresh_ended t f b (ap ends_line (ap (kind_of t) (sym heard_as) ∙ sym found) ∙ ends)
