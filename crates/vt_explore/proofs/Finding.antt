-- What is found for questions, call by call.
use Rattle.std.proofs.Common.{◌≡◌, ◌⊎◌, inl, inr, ℕ, ◌+◌, ◌<◌, Bool, true, false, ⊎_elim, arith, List, [], ◌∷◌, ◌++◌, length, get_or, map, Option, Some, None, refl, sym, ap, ◌∙◌, subst, append-nil}
use Rattle.std.proofs.lemmas.Bool.{cases_eq, eq-eqb, true≢false}
use Rattle.std.proofs.lemmas.List.{append_assoc}
use Rattle.std.proofs.lemmas.List.Folds.{list_any-append}
use Rattle.std.proofs.lemmas.Option.{none-some, same_Some, slice_get-map, slice_get_read, slice_get_within}
use Rattle.std.specs.Prelude.{◌==◌, ◌&&◌, ◌||◌, not, if◌then◌else◌, option_map, slice_get}
use Rattle.vt_explore.proofs.Nevers.{none_before, opened_longer, opened_more}
use Rattle.vt_explore.proofs.Opening.{found_call, opened_call}
use Rattle.vt_explore.proofs.Sorted.{get_either, get_only}
use Rattle.vt_explore.specs.Alike.{Extends, HasLike}
use Rattle.vt_explore.specs.Findings.{AddsFound, AddsPassed, AreFirst, AreFoundFor, AreTried, IsFoundAfter, IsTried, PassesNow, after_asking, is_for, is_found}
use Rattle.vt_explore.specs.Positions.{HasMade}
use Rattle.vt_explore.specs.Questions.{IfAnswered, IfWhole, Wants}
use Rattle.vt_explore.specs.declared.outcome.End.{End}
use Rattle.vt_explore.specs.declared.outcome.End.TheVariants as stop
use Rattle.vt_explore.specs.Searches.{AreSorted, EndsAsked}
use Rattle.vt_explore.specs.declared.findings.Finding.{Finding}
use Rattle.vt_explore.specs.declared.position.Position.{Position}
use Rattle.session_order.specs.Ends.{Setup}
use Rattle.session_order.specs.Orders.{history_of}
use Rattle.session_order.specs.Serial.{call_now, entry_at}
use Rattle.vt_events.specs.Plain.{plain_reply}
use Rattle.vt_events.specs.declared.entry.Entry.{Entry}
use Rattle.vt_events.specs.declared.event.Event.{Event}
use Rattle.vt_events.specs.declared.reply.Reply.{Reply}

or_left : (a b : Bool) → (a || b) ≡ false → a ≡ false
or_left true b is = is
or_left false b is = refl

or_right : (a b : Bool) → b ≡ true → (a || b) ≡ true
or_right true b is = refl
or_right false b is = is

-- a question without a finding had none before
pub found_before : (old more new : List Finding) (i : ℕ) → new ≡ old ++ more → is_found new i ≡ false
    → is_found old i ≡ false
found_before old more new i is none =
    or_left (is_found old i) (is_found more i)
    (sym (list_any-append (is_for i) old more) ∙ sym (ap (λ all. is_found all i) is) ∙ none)

found_last : (old : List Finding) (i : ℕ) (order : List ℕ)
    → is_found (old ++ record { question = i; order = order } ∷ []) i ≡ true
found_last old i order =
    list_any-append (is_for i) old (record { question = i; order = order } ∷ [])
    ∙ or_right (is_found old i) ((i == i) || false) (λ j. eq-eqb i i refl j || false)

-- the question at a place
pub question_at : {Q : Type 0} (wants : Q → Wants) (questions : List Q) (n : ℕ) (q : Q) → n < length questions
    → q ≡ get_or questions n q → slice_get (map wants questions) n ≡ Some (wants q)
question_at wants questions n q low is =
    slice_get-map wants questions n
    ∙ ap (option_map wants) (slice_get_read questions (length questions) n q refl low is)

-- no question was asked
pub passed_none : (all : List Wants) (passes : Wants → Bool) (order : List ℕ) (old : List Finding)
    → AddsPassed all passes order 0 old old
passed_none all passes order old = record {
  more = [];
  is = sym (append-nil old);
  each = λ k f at. absurd (none-some f at);
  rest = λ i wants low. absurd (let no : ⊥ = omega (arith, low) in no);
}

-- the next question was asked
pub passed_more : (all : List Wants) (passes : Wants → Bool) (order : List ℕ) (n : ℕ) (old mid new : List Finding)
    (wants : Wants) → slice_get all n ≡ Some wants → AddsPassed all passes order n old mid
    → new ≡ after_asking mid n (passes wants) order → AddsPassed all passes order (n + 1) old new
passed_more all passes order n old mid new wants here adds asked =
    subst (AddsPassed all passes order (n + 1) old) (sym asked)
    (by_cases (is_found mid n) (passes wants) refl refl)
  where
    last_or_before : (i : ℕ) → i < n + 1 → (i < n) ⊎ (i ≡ n)
    last_or_before i low = ⊎_elim (λ same. inr same) (λ apart. inl (omega (arith, low, apart))) (cases_eq i n)

    stays : (is_found mid n ≡ false → passes wants ≡ false) → AddsPassed all passes order (n + 1) old mid
    stays fails = record {
      more = adds.more;
      is = adds.is;
      each = adds.each;
      rest = λ i other low at none.
          ⊎_elim
          (λ before. adds.rest i other before at none)
          (λ same.
          let one : wants ≡ other = same_Some wants other (sym here ∙ subst (λ j. slice_get all j ≡ Some other) same at) in
          sym (ap passes one) ∙ fails (subst (λ j. is_found mid j ≡ false) same none))
          (last_or_before i low);
    }

    by_cases : (has passed : Bool) → is_found mid n ≡ has → passes wants ≡ passed
        → AddsPassed all passes order (n + 1) old (if not has && passed then mid ++ record { question = n; order = order } ∷ [] else mid)
    by_cases true passed has is = stays (λ none. absurd (true≢false (sym has ∙ none)))
    by_cases false false has is = stays (λ none. is)
    by_cases false true has is =
        let f : Finding = record { question = n; order = order } in
        record {
          more = adds.more ++ f ∷ [];
          is = ap (λ made. made ++ f ∷ []) adds.is ∙ append_assoc old adds.more (f ∷ []);
          each = λ k g at.
              ⊎_elim
              (λ first. adds.each k g first)
              (λ last. subst (PassesNow all passes order old) (get_only f g last.1.0 last.1.1) (record {
                wants = wants;
                question = here;
                passed = is;
                order_is = refl;
                open_before = found_before old adds.more mid n adds.is has;
              }))
              (get_either adds.more (f ∷ []) k g at);
          rest = λ i other low at none.
              ⊎_elim
              (λ before. adds.rest i other before at (found_before mid (f ∷ []) (mid ++ f ∷ []) i refl none))
              (λ same. absurd (true≢false (sym (found_last mid n order) ∙ subst (λ j. is_found (mid ++ f ∷ []) j ≡ false) same none)))
              (last_or_before i low);
        }

pub adds_none : (all : List Wants) (o : Setup) (before : List ℕ) (old : List Finding)
    → AddsFound all o before old old
adds_none all o before old = record {
  more = [];
  is = sym (append-nil old);
  each = λ k f at. absurd (none-some f at);
}

pub adds_trans : (all : List Wants) (o : Setup) (before : List ℕ) (a b c : List Finding)
    → AddsFound all o before a b → AddsFound all o before b c → AddsFound all o before a c
adds_trans all o before a b c one two = record {
  more = one.more ++ two.more;
  is = two.is ∙ ap (λ x. x ++ two.more) one.is ∙ append_assoc a one.more two.more;
  each = λ k f at.
      ⊎_elim
      (λ first. one.each k f first)
      (λ second.
      let later : IsFoundAfter all o before b f = two.each second.1.0 f second.1.1 in
      record {
        wants = later.wants;
        question = later.question;
        ends = later.ends;
        open_before = found_before a one.more b f.question one.is later.open_before;
      })
      (get_either one.more two.more k f at);
}

-- what a call was found for
pub found_passed : (all : List Wants) (o : Setup) (order longer : List ℕ) (n p : ℕ) (e : Event) (r : Reply) (m : Position)
    (old new : List Finding) → call_now o (history_of o order) p ≡ Some e
    → HasMade o (history_of o order) p e r m → longer ≡ order ++ p ∷ [] → length (history_of o order) ≡ length order
    → AddsPassed all (λ (wants : Wants). wants p e (plain_reply r) m.world) longer n old new
    → AddsFound all o order old new
found_passed all o order longer n p e r m old new now made parts full adds = record {
  more = adds.more;
  is = adds.is;
  each = λ k f at.
      let passed : PassesNow all (λ (wants : Wants). wants p e (plain_reply r) m.world) longer old f = adds.each k f at in
      record {
        wants = passed.wants;
        question = passed.question;
        ends = subst (EndsAsked passed.wants o order) (sym passed.order_is)
            (found_call passed.wants o order longer p e r m now made passed.passed parts full);
        open_before = passed.open_before;
      };
}

-- what it was not found for
pub tried_passed : (all : List Wants) (o : Setup) (known : List (List ℕ)) (h : List Entry) (longer : List ℕ) (p : ℕ)
    (e : Event) (r : Reply) (m : Position) (old new : List Finding) → call_now o h p ≡ Some e → HasMade o h p e r m
    → HasLike o known (h ++ entry_at o.start h p e ∷ [])
    → AddsPassed all (λ (wants : Wants). wants p e (plain_reply r) m.world) longer (length all) old new
    → IsTried all new o known h p
tried_passed all o known h longer p e r m old new now made like adds i wants at none =
    opened_call wants o known h p e r m now made (adds.rest i wants (slice_get_within all i wants at) at none) like

pub tried_longer : (all : List Wants) (o : Setup) (a b : List (List ℕ)) (h : List Entry) (p : ℕ) (before : List ℕ)
    (old new : List Finding) → Extends a b → AddsFound all o before old new → IsTried all old o a h p
    → IsTried all new o b h p
tried_longer all o a b h p before old new grows adds tried i wants at none =
    opened_longer wants o a b h p grows (tried i wants at (found_before old adds.more new i adds.is none))

-- the known orders after the one at n was tried
pub tried_more : (all : List Wants) (o : Setup) (a b : List (List ℕ)) (n : ℕ) (last : List ℕ) (old new : List Finding)
    → Extends a b → AddsFound all o last old new → AreTried all old o a n → slice_get a n ≡ Some last
    → ((p : ℕ) → IsTried all new o b (history_of o last) p) → AreTried all new o b (n + 1)
tried_more all o a b n last old new grows adds tried here next i wants at none =
    opened_more wants o a b n last grows (tried i wants at (found_before old adds.more new i adds.is none)) here
    (λ p. next p i wants at none)

-- what is found after the order at n is a first one
pub first_more : (all : List Wants) (o : Setup) (known : List (List ℕ)) (n most : ℕ) (last : List ℕ) (old new : List Finding)
    → HasLike o known [] → AreTried all old o known n → AreSorted o known most → slice_get known n ≡ Some last
    → AddsFound all o last old new → AreFirst all o old → AreFirst all o new
first_more all o known n most last old new start tried sorted here adds first k f at =
    ⊎_elim
    (λ before. first k f before)
    (λ added.
    let found : IsFoundAfter all o last old f = adds.each added.1.0 f added.1.1 in
    record {
      wants = found.wants;
      question = found.question;
      first = record {
        before = last;
        ends = found.ends;
        first =
            none_before found.wants o known n most last start
            (tried f.question found.wants found.question found.open_before) sorted here;
      };
    })
    (get_either old adds.more k f (subst (λ all. slice_get all k ≡ Some f) adds.is at))

pub if_whole : {A B : Type 0} (end : End) → (A → B) → IfWhole end A → IfWhole end B
if_whole stop.Whole f fact = f fact
if_whole stop.Answered f fact = fact
if_whole stop.Limit f fact = fact
if_whole stop.Long f fact = fact

pub if_answered : {A B : Type 0} (end : End) → (A → B) → IfAnswered end A → IfAnswered end B
if_answered stop.Whole f fact = fact
if_answered stop.Answered f fact = f fact
if_answered stop.Limit f fact = fact
if_answered stop.Long f fact = fact

-- if each question has a finding, each has an order
pub none_left : (findings : List Finding) (n : ℕ) (found : List (Option (List ℕ))) → AreFoundFor findings n found
    → ((i : ℕ) → i < n → is_found findings i ≡ true) → (i : ℕ) → slice_get found i ≡ Some None → ⊥
none_left findings n found has all i is =
    let within = slice_get_within found i None is in
    true≢false (sym (all i (omega (arith, within, has.count))) ∙ has.none i is)
