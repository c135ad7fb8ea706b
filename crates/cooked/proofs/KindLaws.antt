-- The byte of an erase, which is no data.
use Rattle.std.proofs.Common.{◌≡◌, ◌≢◌, ⊎_elim, ℕ, ◌<◌, Bool, true, false, cond, ◌==◌, ◌&&◌, not, refl, sym, ap, ◌∙◌, arith}
use Rattle.std.proofs.lemmas.Bool.{and_parts, cases_Bool, cond-true, cond-false, eqb-true, eq-eqb, false≢true, not-false}
use Rattle.std.proofs.lemmas.Bool.Decides.{nat_tests}
use Rattle.std.specs.List.{list_all}
use Rattle.cooked.specs.Kinds.{kind, kind_of}
use Rattle.cooked.specs.Termios.{IsValid, all_differ, mapped_byte, may_be_named, named_bytes}
use Rattle.cooked.specs.declared.kind.Kind.{Kind}
use Rattle.cooked.specs.declared.kind.Kind.TheVariants.{Interrupt, Quit, Kill, Erase, Eof, End, Data}
use Rattle.cooked.specs.declared.termios.Termios.{Termios}

-- the erase byte of valid settings
pub record IsEraseByte (e : ℕ) : Type 0 where
  pub low : e < 0x80
  pub no_feed : e ≢ 0x0A
  pub no_return : e ≢ 0x0D

named : (b : ℕ) → may_be_named b ≡ true → IsEraseByte b
named b is = record {
  low = grind (arith, nat_tests);
  no_feed = λ feed. false≢true (ap may_be_named (sym feed) ∙ is);
  no_return = λ back. false≢true (ap may_be_named (sym back) ∙ is);
}

pub erase_byte : (t : Termios) → IsValid t → IsEraseByte t.erase
erase_byte t valid =
    let all = and_parts (list_all may_be_named (named_bytes t)) (all_differ (named_bytes t)) valid in
    let past_intr = and_parts _ _ all.0 in
    let past_quit = and_parts _ _ past_intr.1 in
    named t.erase (and_parts _ _ past_quit.1).0

-- the kind by the tests, in their order
chain : (i q r k e f n : Bool) → Kind
chain i q r k e f n =
    cond i Interrupt (cond q Quit (cond r Data (cond k Kill (cond e Erase (cond f Eof (cond n End Data))))))

erase_in : (i q r k e f n : Bool) → chain i q r k e f n ≡ Erase → e ≡ true
unfolding chain
erase_in i q r k true f n is = refl
erase_in true q r k false f n is = absurd (let wrong : ⊥ = cc in wrong)
erase_in false true r k false f n is = absurd (let wrong : ⊥ = cc in wrong)
erase_in false false true k false f n is = absurd (let wrong : ⊥ = cc in wrong)
erase_in false false false true false f n is = absurd (let wrong : ⊥ = cc in wrong)
erase_in false false false false false true n is = absurd (let wrong : ⊥ = cc in wrong)
erase_in false false false false false false true is = absurd (let wrong : ⊥ = cc in wrong)
erase_in false false false false false false false is = absurd (let wrong : ⊥ = cc in wrong)

data_in : (i q r k e f n : Bool) → r ≡ false → chain i q r k e f n ≡ Data → e ≡ false
unfolding chain
data_in i q r k false f n lines is = refl
data_in true q r k true f n lines is = absurd (let wrong : ⊥ = cc in wrong)
data_in false true r k true f n lines is = absurd (let wrong : ⊥ = cc in wrong)
data_in false false true k true f n lines is = absurd (false≢true (sym lines))
data_in false false false true true f n lines is = absurd (let wrong : ⊥ = cc in wrong)
data_in false false false false true f n lines is = absurd (let wrong : ⊥ = cc in wrong)

-- the kind of a byte that counts as b, by the chain
by_chain : (t : Termios) (b : ℕ)
    → kind_of t b
    ≡ chain (t.isig && b == t.intr) (t.isig && b == t.quit) (not t.icanon) (b == t.kill) (b == t.erase) (b == t.eof) (b == 0x0A)
unfolding chain
by_chain t b = refl

mapped_byte_feed : (t : Termios) (b : ℕ) → (t.icrnl && b == 0x0D) ≡ true → (mapped_byte t b ≡ 0x0A) × (b ≡ 0x0D)
mapped_byte_feed t b is = (cond-true _ _ _ is, eqb-true b 0x0D (and_parts t.icrnl (b == 0x0D) is).1)

-- an erase is the erase byte that was typed
pub erase_is : (t : Termios) (b : ℕ) → IsValid t → kind t b ≡ Erase → b ≡ t.erase
erase_is t b valid is =
    let e = erase_byte t valid in
    let counts : mapped_byte t b ≡ t.erase =
    eqb-true (mapped_byte t b) t.erase (erase_in _ _ _ _ (mapped_byte t b == t.erase) _ _ (sym (by_chain t (mapped_byte t b)) ∙ is)) in
    ⊎_elim
    (λ (feed : (t.icrnl && b == 0x0D) ≡ true).
    absurd (e.no_feed (sym counts ∙ (mapped_byte_feed t b feed).0)))
    (λ (other : (t.icrnl && b == 0x0D) ≡ false). sym (cond-false _ _ _ other) ∙ counts)
    (cases_Bool (t.icrnl && b == 0x0D))

-- data of a line isn't the erase byte
pub data_differs : (t : Termios) (b : ℕ) → IsValid t → t.icanon ≡ true → kind t b ≡ Data → b ≢ t.erase
data_differs t b valid canonical is same =
    let e = erase_byte t valid in
    let counts : (mapped_byte t b == t.erase) ≡ false =
    data_in _ _ (not t.icanon) _ (mapped_byte t b == t.erase) _ _ (ap not canonical) (sym (by_chain t (mapped_byte t b)) ∙ is) in
    ⊎_elim
    (λ (feed : (t.icrnl && b == 0x0D) ≡ true).
    e.no_return (sym same ∙ (mapped_byte_feed t b feed).1))
    (λ (other : (t.icrnl && b == 0x0D) ≡ false).
    false≢true (sym counts ∙ eq-eqb (mapped_byte t b) t.erase (cond-false _ _ _ other ∙ same)))
    (cases_Bool (t.icrnl && b == 0x0D))

canonical_in : (i q r k e f n : Bool) → chain i q r k e f n ≡ Erase → r ≡ false
unfolding chain
canonical_in i q false k e f n is = refl
canonical_in true q true k e f n is = absurd (let wrong : ⊥ = cc in wrong)
canonical_in false true true k e f n is = absurd (let wrong : ⊥ = cc in wrong)
canonical_in false false true k e f n is = absurd (let wrong : ⊥ = cc in wrong)

-- an erase occurs only if lines are edited
pub erase_canonical : (t : Termios) (b : ℕ) → kind t b ≡ Erase → t.icanon ≡ true
erase_canonical t b is =
    not-false t.icanon
    (canonical_in _ _ (not t.icanon) _ _ _ _ (sym (by_chain t (mapped_byte t b)) ∙ is))
