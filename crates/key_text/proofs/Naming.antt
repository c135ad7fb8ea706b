-- Names and the places of their texts.
use Rattle.std.proofs.Common.{Bor, ◌≡◌, ℕ, suc, ◌<◌, Bool, true, false, cond, Option, Some, None, is_some, List, [], ◌∷◌, ◌++◌, length, get_or, refl, sym, ap, ◌∙◌, subst, arith}
use Rattle.std.proofs.lemmas.Bool.{false≢true}
use Rattle.std.proofs.lemmas.Map.Text.{is_eq-slice_cmp}
use Rattle.std.proofs.lemmas.Slice.Eq.{bytes_eq-Decides}
use Rattle.std.specs.BTreeMap.{BTreeMap, insert_entry, is_at}
use Rattle.std.specs.Cmp.Lexicographic.{slice_cmp}
use Rattle.std.specs.Map.{lookup}
use Rattle.std.specs.Option.{option_copied, option_map}
use Rattle.std.specs.Ordering.{is_eq, nat_cmp}
use Rattle.std.specs.Str.{bytes_eq}
use Rattle.std.specs.declared.cmp.Ordering.{Ordering}
use Rattle.std.specs.declared.cmp.Ordering.TheVariants.{Less, Equal, Greater}
use Rattle.std.specs.declared.vec.Vec.{Vec}
use Rattle.key_text.specs.Included.{Named, make_named, text_named}
use Rattle.key_text.specs.Places.{HasPlaces, at_name, place_of}

-- the text of a name that has a place
pub record StandsAt (texts : List Named) (name : List ℕ) (place : ℕ) (d : Named) : Type 0 where
  pub within : place < length texts
  pub text : text_named name texts ≡ Some (get_or texts place d).text

pub stands_at : (texts : List Named) (name : List ℕ) (place : ℕ) (d : Named) → place_of name texts ≡ Some place → StandsAt texts name place d
stands_at [] name place d e = absurd (let none : None ≡ Some place = e in cc)
stands_at (n ∷ ns) name place d e = by_name (λ i found. stands_at ns name i d found) (bytes_eq n.name name) refl
  where
    from_rest : ((i : ℕ) → place_of name ns ≡ Some i → StandsAt ns name i d) → (rest : Option ℕ) → place_of name ns ≡ rest → option_map suc rest ≡ Some place → bytes_eq n.name name ≡ false → StandsAt (n ∷ ns) name place d
    from_rest stands None found same other = absurd (let none : None ≡ Some place = same in cc)
    from_rest stands (Some i) found same other =
        let later = stands i found in
        let next : suc i ≡ place = (let s : Some (suc i) ≡ Some place = same in cc) in
        subst (λ (p : ℕ). StandsAt (n ∷ ns) name p d) next
        (record { within = omega (arith, later.within); text = rw other later.text })

    by_name : ((i : ℕ) → place_of name ns ≡ Some i → StandsAt ns name i d) → (b : Bool) → bytes_eq n.name name ≡ b → StandsAt (n ∷ ns) name place d
    by_name stands true same =
        let first : 0 ≡ place = (let s : Some 0 ≡ Some place = sym (ap (λ t. cond t (Some 0) (option_map suc (place_of name ns))) same) ∙ e in cc) in
        subst (λ (p : ℕ). StandsAt (n ∷ ns) name p d) first
        (record { within = omega arith; text = rw same refl })
    by_name stands false other =
        from_rest stands (place_of name ns) refl (sym (ap (λ t. cond t (Some 0) (option_map suc (place_of name ns))) other) ∙ e) other

pub stands_nowhere : (texts : List Named) (name : List ℕ) → place_of name texts ≡ None → text_named name texts ≡ None
stands_nowhere [] name e = refl
stands_nowhere (n ∷ ns) name e = by_name (stands_nowhere ns name) (bytes_eq n.name name) refl
  where
    none_left : (rest : Option ℕ) → option_map suc rest ≡ None → rest ≡ None
    none_left None h = refl
    none_left (Some i) h = absurd (let s : Some (suc i) ≡ None = h in cc)

    by_name : (place_of name ns ≡ None → text_named name ns ≡ None) → (b : Bool) → bytes_eq n.name name ≡ b → text_named name (n ∷ ns) ≡ None
    by_name rest true same = absurd (let s : Some 0 ≡ None = sym (ap (λ t. cond t (Some 0) (option_map suc (place_of name ns))) same) ∙ e in cc)
    by_name rest false other =
        rw other (rest (none_left (place_of name ns) (sym (ap (λ t. cond t (Some 0) (option_map suc (place_of name ns))) other) ∙ e)))

pub place_none : (texts : List Named) (name : List ℕ) → is_some (text_named name texts) ≡ false → place_of name texts ≡ None
place_none texts name none = by_place (place_of name texts) refl
  where
    by_place : (p : Option ℕ) → place_of name texts ≡ p → p ≡ None
    by_place None e = refl
    by_place (Some i) e = absurd (false≢true (sym none ∙ ap is_some (stands_at texts name i (make_named [] []) e).text))

-- a text more, of a name that wasn't there
pub place_more : (texts : List Named) (name text other : List ℕ) → place_of name texts ≡ None → place_of other (texts ++ make_named name text ∷ []) ≡ cond (bytes_eq name other) (Some (length texts)) (place_of other texts)
place_more [] name text other e = refl
place_more (n ∷ ns) name text other e = by_name (place_more ns name text other) (bytes_eq n.name name) refl
  where
    none_left : (rest : Option ℕ) → option_map suc rest ≡ None → rest ≡ None
    none_left None h = refl
    none_left (Some i) h = absurd (let s : Some (suc i) ≡ None = h in cc)

    by_same : (b : Bool) → bytes_eq name other ≡ b → bytes_eq n.name name ≡ false → cond (bytes_eq n.name other) (Some 0) (option_map suc (cond b (Some (length ns)) (place_of other ns))) ≡ cond b (Some (suc (length ns))) (cond (bytes_eq n.name other) (Some 0) (option_map suc (place_of other ns)))
    by_same true same apart =
        let texts_same : name ≡ other = (bytes_eq-Decides name other).0 same in
        let not_other : bytes_eq n.name other ≡ false = subst (λ (t : List ℕ). bytes_eq n.name t ≡ false) texts_same apart in
        rw not_other refl
    by_same false unlike apart = refl

    by_name : (place_of name ns ≡ None → place_of other (ns ++ make_named name text ∷ []) ≡ cond (bytes_eq name other) (Some (length ns)) (place_of other ns)) → (b : Bool) → bytes_eq n.name name ≡ b → place_of other ((n ∷ ns) ++ make_named name text ∷ []) ≡ cond (bytes_eq name other) (Some (length (n ∷ ns))) (place_of other (n ∷ ns))
    by_name more true same = absurd (let s : Some 0 ≡ None = sym (ap (λ t. cond t (Some 0) (option_map suc (place_of name ns))) same) ∙ e in cc)
    by_name more false apart =
        let rest = more (none_left (place_of name ns) (sym (ap (λ t. cond t (Some 0) (option_map suc (place_of name ns))) apart) ∙ e)) in
        ap (λ p. cond (bytes_eq n.name other) (Some 0) (option_map suc p)) rest
        ∙ by_same (bytes_eq name other) refl apart

abbrev pub by_items : {A : Type 0} → Vec ℕ A → Vec ℕ A → Ordering
by_items a b = slice_cmp nat_cmp a.items b.items

abbrev pub at_text : {A : Type 0} → List ℕ → Vec ℕ A → Bool
at_text text = is_at (λ key. slice_cmp nat_cmp text key.items)

same_items : (x y : List ℕ) → slice_cmp nat_cmp x y ≡ Equal → x ≡ y
same_items x y e = (bytes_eq-Decides x y).0 (sym (is_eq-slice_cmp x y) ∙ ap is_eq e)

turned : (x y : List ℕ) → bytes_eq x y ≡ bytes_eq y x
turned x y = by_test (bytes_eq x y) refl
  where
    by_test : (b : Bool) → bytes_eq x y ≡ b → b ≡ bytes_eq y x
    by_test true same = sym ((bytes_eq-Decides y x).1 (sym ((bytes_eq-Decides x y).0 same)))
    by_test false other = by_back (bytes_eq y x) refl
      where
        by_back : (b : Bool) → bytes_eq y x ≡ b → false ≡ b
        by_back true same = absurd (false≢true (sym other ∙ (bytes_eq-Decides x y).1 (sym ((bytes_eq-Decides y x).0 same))))
        by_back false unlike = refl

test_at : {A : Type 0} (text : List ℕ) (key : Vec ℕ A) → at_text text key ≡ bytes_eq key.items text
test_at text key = is_eq-slice_cmp text key.items ∙ turned text key.items

-- a look-up after a key was put among others
pub inserted : {A : Type 0} (es : List (Vec ℕ A × ℕ)) (key : Vec ℕ A) (place : ℕ) (text : List ℕ) → lookup (at_text text) (insert_entry by_items es key place) ≡ cond (bytes_eq key.items text) (Some place) (lookup (at_text text) es)
inserted [] key place text = ap (λ t. cond t (Some place) None) (test_at text key)
inserted (e ∷ es) key place text = by_order (inserted es key place text) (by_items key e.0) refl
  where
    equal : (b : Bool) → bytes_eq key.items text ≡ b → key.items ≡ e.0.items → cond (at_text text e.0) (Some place) (lookup (at_text text) es) ≡ cond b (Some place) (lookup (at_text text) (e ∷ es))
    equal true same items =
        let at : at_text text e.0 ≡ true = test_at text e.0 ∙ subst (λ (t : List ℕ). bytes_eq t text ≡ true) items same in
        ap (λ t. cond t (Some place) (lookup (at_text text) es)) at
    equal false other items =
        let at : at_text text e.0 ≡ false = test_at text e.0 ∙ subst (λ (t : List ℕ). bytes_eq t text ≡ false) items other in
        ap (λ t. cond t (Some place) (lookup (at_text text) es)) at
        ∙ sym (ap (λ t. cond t (Some e.1) (lookup (at_text text) es)) at)

    later : (b : Bool) → bytes_eq key.items text ≡ b → by_items key e.0 ≡ Greater → cond (at_text text e.0) (Some e.1) (cond b (Some place) (lookup (at_text text) es)) ≡ cond b (Some place) (lookup (at_text text) (e ∷ es))
    later true same greater = by_here (at_text text e.0) refl
      where
        by_here : (b : Bool) → at_text text e.0 ≡ b → cond b (Some e.1) (Some place) ≡ Some place
        by_here true at =
            let items : key.items ≡ e.0.items = (bytes_eq-Decides key.items text).0 same ∙ sym ((bytes_eq-Decides e.0.items text).0 (sym (test_at text e.0) ∙ at)) in
            let tied : is_eq (by_items key e.0) ≡ true = is_eq-slice_cmp key.items e.0.items ∙ (bytes_eq-Decides key.items e.0.items).1 items in
            absurd (false≢true (sym (ap is_eq greater) ∙ tied))
        by_here false at = refl
    later false other greater = refl

    by_order : lookup (at_text text) (insert_entry by_items es key place) ≡ cond (bytes_eq key.items text) (Some place) (lookup (at_text text) es) → (o : Ordering) → by_items key e.0 ≡ o → lookup (at_text text) (insert_entry by_items (e ∷ es) key place) ≡ cond (bytes_eq key.items text) (Some place) (lookup (at_text text) (e ∷ es))
    by_order rest Less o = rw o (ap (λ t. cond t (Some place) (lookup (at_text text) (e ∷ es))) (test_at text key))
    by_order rest Equal o = rw o (equal (bytes_eq key.items text) refl (same_items key.items e.0.items o))
    by_order rest Greater o =
        rw o (ap (λ rest. cond (at_text text e.0) (Some e.1) rest) rest ∙ later (bytes_eq key.items text) refl o)

-- the places after a text more
pub places_more : {A : Type 0} (places new : BTreeMap (Vec ℕ A) ℕ) (texts grown : List Named) (name text key : List ℕ) (place : ℕ) → HasPlaces places texts → is_some (text_named name texts) ≡ false → ((other : List ℕ) → at_name new other ≡ cond (bytes_eq key other) (Some place) (at_name places other)) → key ≡ name → place ≡ length texts → grown ≡ texts ++ make_named name text ∷ [] → HasPlaces new grown
places_more places new texts grown name text key place has absent put same last added = λ other.
    put other
    ∙ ap (λ k. cond (bytes_eq k other) (Some place) (at_name places other)) same
    ∙ ap (λ n. cond (bytes_eq name other) (Some n) (at_name places other)) last
    ∙ ap (cond (bytes_eq name other) (Some (length texts))) (has other)
    ∙ sym (place_more texts name text other (place_none texts name absent))
    ∙ ap (place_of other) (sym added)

pub copied_some : {X : Type 0} (found : Option (Bor X)) → is_some (option_copied found) ≡ is_some found
copied_some None = refl
copied_some (Some x) = refl
