-- Groups one after another, and the beginnings of groups.
use Rattle.std.proofs.Common.{◌≡◌, ◌≢◌, ◌↔◌, ◌⊎◌, ℕ, ◌==◌, Bool, true, false, List, [], ◌∷◌, ◌++◌, None, refl, sym, ap, ◌∙◌, ⊎_elim, inl, inr, append_assoc, arith}
use Rattle.std.specs.Prelude.{IsTrue, option_to_list}
use Rattle.std.specs.List.{flat_map, list_all}
use Rattle.std.proofs.lemmas.Bool.{and_parts, cases_Bool, eqb-true, false≢true}
use Rattle.scan_codes.specs.Groups.{Begins, is_group, named_by}
use Rattle.scan_codes.specs.ScanPrefix.{bytes_of}
use Rattle.scan_codes.specs.Laws.{AnyCut, GroupsAreRead, events, rest}
use Rattle.scan_codes.specs.Scan.{bytes_after, event_after}
use Rattle.scan_codes.specs.declared.key_event.KeyEvent.{KeyEvent}
use Rattle.scan_codes.specs.declared.scanner.ScanPrefix.{ScanPrefix}
use Rattle.scan_codes.specs.declared.scanner.ScanPrefix.TheVariants.{Nothing, E0, E1, E1And}

pub events-append : AnyCut
events-append codes before [] b = refl
events-append codes before (x ∷ a) b =
    rw (events-append codes (bytes_after before x) a b) (sym (append_assoc (option_to_list (event_after codes before x)) (events codes (bytes_after before x) a) (events codes (rest (bytes_after before x) a) b)))

-- a group is read whole
events_group : (codes group bytes : List ℕ) → is_group group ≡ true
    → events codes [] (group ++ bytes)
    ≡ option_to_list (named_by codes group) ++ events codes [] bytes
events_group codes [] bytes is = absurd (false≢true is)
events_group codes (a ∷ []) bytes is = rw is refl
events_group codes (a ∷ b ∷ []) bytes is =
    let e0 : a ≡ 0xE0 = eqb-true a 0xE0 is in rw e0 refl
events_group codes (a ∷ b ∷ c ∷ []) bytes is =
    let e1 : a ≡ 0xE1 = eqb-true a 0xE1 is in rw e1 refl
events_group codes (a ∷ b ∷ c ∷ d ∷ group) bytes is = absurd (false≢true is)

pub events_groups : GroupsAreRead
events_groups codes [] are = refl
events_groups codes (group ∷ groups) are =
    let parts = and_parts (is_group group) (list_all is_group groups) are in
    events_group codes group (flat_map (λ (g : List ℕ). g) groups) parts.0
    ∙ ap (λ (tail : List KeyEvent). option_to_list (named_by codes group) ++ tail) (events_groups codes groups parts.1)

some : (x : ℕ) (xs : List ℕ) → x ∷ xs ≢ []
some x xs e = cc

-- E0 or E1 alone begins a group
begun_one : (b : ℕ) → is_group (b ∷ []) ≡ false → Begins (b ∷ [])
begun_one b alone = ⊎_elim
    (λ (e0 : b == 0xE0 ≡ true). (0 ∷ [], some 0 [], e0))
    (λ (other : b == 0xE0 ≡ false). (0 ∷ 0 ∷ [], some 0 (0 ∷ []), grind arith))
    (cases_Bool (b == 0xE0))

-- a group of one byte begins no other
ended_one : (b : ℕ) → is_group (b ∷ []) ≡ true → (more : List ℕ) → more ≢ []
    → is_group (b ∷ more) ≡ true → ⊥
ended_one b one [] longer is = longer refl
ended_one b one (x ∷ []) longer is = let e : b ≡ 0xE0 = eqb-true b 0xE0 is in false≢true (rw e at one)
ended_one b one (x ∷ y ∷ []) longer is = let e : b ≡ 0xE1 = eqb-true b 0xE1 is in false≢true (rw e at one)
ended_one b one (x ∷ y ∷ z ∷ more) longer is = false≢true is

ended_two : (b : ℕ) (more : List ℕ) → more ≢ [] → is_group (0xE0 ∷ b ∷ more) ≡ true → ⊥
ended_two b [] longer is = longer refl
ended_two b (x ∷ []) longer is = false≢true is
ended_two b (x ∷ y ∷ more) longer is = false≢true is

ended_three : (a b : ℕ) (more : List ℕ) → more ≢ [] → is_group (0xE1 ∷ a ∷ b ∷ more) ≡ true → ⊥
ended_three a b [] longer is = longer refl
ended_three a b (x ∷ more) longer is = false≢true is

-- no event comes exactly where no group ends, or where it names no key
abbrev pub NoneExactly : List ℕ → List ℕ → ℕ → Type 0
NoneExactly codes before b =
    let all = before ++ b ∷ [] in
    (event_after codes before b ≡ None)
    ↔ (Begins all ⊎ (IsTrue (is_group all) × (named_by codes all ≡ None)))

none_first : (codes : List ℕ) (b : ℕ) (r : Bool) → is_group (b ∷ []) ≡ r → NoneExactly codes [] b
none_first codes b false is =
    (λ _. inl (begun_one b is), λ _. rw is refl)
none_first codes b true is = (
  λ h. inr (is, rw is at h),
  λ h. ⊎_elim
      (λ (begins : Begins (b ∷ [])). absurd (ended_one b is begins.0 begins.1 begins.2))
      (λ (named : IsTrue (is_group (b ∷ [])) × (named_by codes (b ∷ []) ≡ None)). rw is named.1)
      h,
)

pub none_exactly : (codes : List ℕ) (kept : ScanPrefix) (b : ℕ) → NoneExactly codes (bytes_of kept) b
none_exactly codes Nothing b = none_first codes b (is_group (b ∷ [])) refl
none_exactly codes E0 b = (
  λ h. inr (refl, h),
  λ h. ⊎_elim
      (λ (begins : Begins (0xE0 ∷ b ∷ [])). absurd (ended_two b begins.0 begins.1 begins.2))
      (λ (named : IsTrue true × (named_by codes (0xE0 ∷ b ∷ []) ≡ None)). named.1)
      h,
)
none_exactly codes E1 b = (λ _. inl (0 ∷ [], some 0 [], refl), λ _. refl)
none_exactly codes (E1And a) b = (
  λ h. inr (refl, h),
  λ h. ⊎_elim
      (λ (begins : Begins (0xE1 ∷ a ∷ b ∷ [])). absurd (ended_three a b begins.0 begins.1 begins.2))
      (λ (named : IsTrue true × (named_by codes (0xE1 ∷ a ∷ b ∷ []) ≡ None)). named.1)
      h,
)
