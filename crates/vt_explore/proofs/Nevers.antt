-- If each call after each known order isn't asked for and leads to a known one, none is asked for in any order.
use Rattle.std.proofs.Common.{◌≡◌, ℕ, ◌+◌, ◌<◌, ◌≤◌, zero, suc, Bool, true, false, ⊎_elim, arith, List, [], ◌∷◌, ◌++◌, length, Option, Some, None, refl, sym, ap, ◌∙◌, subst, append-nil}
use Rattle.std.proofs.lemmas.Bool.{cases_eq, cases_lt, true≢false}
use Rattle.std.proofs.lemmas.List.{append_assoc, length_push}
use Rattle.std.proofs.lemmas.Option.{none-some, same_Some}
use Rattle.std.specs.Prelude.{is_some, slice_get, if◌then◌else◌}
use Rattle.vt_explore.proofs.Likes.{alike_more, alike_same, alike_trans, now_alike, step_alike}
use Rattle.vt_explore.specs.Alike.{Extends, HasLike}
use Rattle.session_order.specs.Orders.{after_turn, after_turns, history_of, with_call}
use Rattle.vt_explore.specs.Questions.{Wants}
use Rattle.vt_explore.specs.Searches.{AreOpened, AreSorted, IsOpened, Makes, NoneMakes, NoneMakesBefore, is_wanted}
use Rattle.session_order.specs.Calls.{calls_by, next_of}
use Rattle.session_order.specs.Ends.{Setup}
use Rattle.session_order.specs.Follows.{is_waiting}
use Rattle.session_order.specs.Sessions.{AreOfCallers}
use Rattle.session_order.specs.Serial.{call_now, entry_at}
use Rattle.session_text.specs.Programs.{program_of}
use Rattle.session_text.specs.declared.program.Program.{Program}
use Rattle.vt_events.specs.declared.entry.Entry.{Entry}
use Rattle.vt_events.specs.declared.event.Event.{Event}
use Rattle.vt_world.specs.History.{replay}
use Rattle.vt_world.specs.Step.{Outcome}

-- the last element
pub get_last : {A : Type 0} (xs : List A) (x : A) → slice_get (xs ++ x ∷ []) (length xs) ≡ Some x
get_last [] x = refl
get_last (y ∷ xs) x = get_last xs x

-- places of longer lists
pub get_first : {A : Type 0} (xs ys : List A) (k : ℕ) (x : A) → slice_get xs k ≡ Some x
    → slice_get (xs ++ ys) k ≡ Some x
get_first [] ys k x is = absurd (none-some x is)
get_first (y ∷ xs) ys zero x is = is
get_first (y ∷ xs) ys (suc k) x is = get_first xs ys k x is

pub get_within : {A : Type 0} (xs ys : List A) (k n : ℕ) (x y : A) → slice_get xs n ≡ Some y → k < n + 1
    → slice_get (xs ++ ys) k ≡ Some x → slice_get xs k ≡ Some x
get_within [] ys k n x y last low is = absurd (none-some y last)
get_within (z ∷ xs) ys zero n x y last low is = is
get_within (z ∷ xs) ys (suc k) zero x y last low is = absurd (let no : ⊥ = omega (arith, low) in no)
get_within (z ∷ xs) ys (suc k) (suc n) x y last low is =
    get_within xs ys k n x y last (omega (arith, low)) is

pub none_past : {A : Type 0} (xs : List A) (n k : ℕ) (x : A) → slice_get xs n ≡ None
    → slice_get xs k ≡ Some x → k < n
none_past [] n k x none is = absurd (none-some x is)
none_past (y ∷ xs) zero k x none is = absurd (none-some y (sym none))
none_past (y ∷ xs) (suc n) zero x none is = omega arith
none_past (y ∷ xs) (suc n) (suc k) x none is =
    let low : k < n = none_past xs n k x none is in
    omega (arith, low)

pub get_past : {A : Type 0} (xs : List A) (n : ℕ) → length xs ≤ n → slice_get xs n ≡ None
get_past [] n few = refl
get_past (x ∷ xs) zero few = absurd (let no : ⊥ = omega (arith, few) in no)
get_past (x ∷ xs) (suc n) few = get_past xs n (omega (arith, few))

pub extends_same : (a : List (List ℕ)) → Extends a a
extends_same a = record { more = []; is = sym (append-nil a) }

pub extends_trans : (a b c : List (List ℕ)) → Extends a b → Extends b c → Extends a c
extends_trans a b c one two = record {
  more = one.more ++ two.more;
  is = two.is ∙ ap (λ x. x ++ two.more) one.is ∙ append_assoc a one.more two.more;
}

pub like_longer : (o : Setup) (a b : List (List ℕ)) (h : List Entry) → Extends a b → HasLike o a h
    → HasLike o b h
like_longer o a b h longer like = record {
  place = like.place;
  order = like.order;
  at = subst (λ x. slice_get x like.place ≡ Some like.order) (sym longer.is)
      (get_first a longer.more like.place like.order like.at);
  alike = like.alike;
  few = like.few;
}

pub opened_longer : (wants : Wants) (o : Setup) (a b : List (List ℕ)) (h : List Entry) (p : ℕ) → Extends a b
    → IsOpened wants o a h p → IsOpened wants o b h p
opened_longer wants o a b h p longer opened = record {
  other = opened.other;
  leads = λ e now. like_longer o a b (h ++ entry_at o.start h p e ∷ []) longer (opened.leads e now);
}

-- a caller that can make no call
pub opened_none : (wants : Wants) (o : Setup) (known : List (List ℕ)) (h : List Entry) (p : ℕ)
    → call_now o h p ≡ None → IsOpened wants o known h p
opened_none wants o known h p none = record {
  other = λ e now. absurd (none-some e (sym none ∙ now));
  leads = λ e now. absurd (none-some e (sym none ∙ now));
}

none_by : (waits : Bool) → ◌≡◌ {A = Option Event} (if waits then None else None) None
none_by true = refl
none_by false = refl

-- a caller without a program makes none
pub now_nobody : (o : Setup) (h : List Entry) (p : ℕ) → program_of o.programs p ≡ None
    → call_now o h p ≡ None
now_nobody o h p none =
    ap (λ found. if is_waiting (replay o.start h) p then None else next_of found (calls_by p h)) none
    ∙ none_by (is_waiting (replay o.start h) p)

program_cases : (program : Option Program) → (is_some program ≡ true → ⊥) → program ≡ None
program_cases None isnt = refl
program_cases (Some program) isnt = absurd (isnt refl)

pub now_past : (o : Setup) (h : List Entry) (p : ℕ) → AreOfCallers o.programs → (p < 68 → ⊥)
    → call_now o h p ≡ None
now_past o h p few past =
    now_nobody o h p (program_cases (program_of o.programs p) (λ is. past (few p is)))

-- the known orders with fewer calls than this are among the first n
abbrev AreAmong : Setup → List (List ℕ) → ℕ → ℕ → Type 0
AreAmong o known n most =
    (k : ℕ) (order : List ℕ) → slice_get known k ≡ Some order → length (history_of o order) < most → k < n

-- turns take nothing away
turn_grows : (o : Setup) (p : ℕ) (h : List Entry) → length h ≤ length (after_turn o p h)
turn_grows o p h = by_call (call_now o h p)
  where
    by_call : (now : Option Event) → length h ≤ length (with_call o p now h)
    by_call None = omega arith
    by_call (Some e) = let more = length_push h (entry_at o.start h p e) in omega (arith, more)

turns_grow : (o : Setup) (order : List ℕ) (h : List Entry) → length h ≤ length (after_turns o order h)
turns_grow o [] h = omega arith
turns_grow o (p ∷ order) h =
    let one = turn_grows o p h in
    let more = turns_grow o order (after_turn o p h) in
    omega (arith, one, more)

-- the turn of p leads on to a known order
turn_like : (wants : Wants) (o : Setup) (known : List (List ℕ)) (n most p : ℕ) (h : List Entry) → AreOpened wants o known n
    → AreAmong o known n most → length (after_turn o p h) ≤ most
    → HasLike o known h → HasLike o known (after_turn o p h)
turn_like wants o known n most p h opened all few like =
    by_call (call_now o h p) refl few
  where
    by_call : (now : Option Event) → call_now o h p ≡ now → length (with_call o p now h) ≤ most
        → HasLike o known (with_call o p now h)
    by_call None none small = like
    by_call (Some e) is small =
        let there : List Entry = history_of o like.order in
        let longer = length_push h (entry_at o.start h p e) in
        let low : length there < most = omega (arith, like.few, longer, small) in
        let shown : IsOpened wants o known there p =
        opened like.place like.order p (all like.place like.order like.at low) like.at in
        let next : HasLike o known (there ++ entry_at o.start there p e ∷ []) =
        shown.leads e (now_alike o there h p like.alike ∙ is) in
        let more = length_push there (entry_at o.start there p e) in
        record {
          place = next.place;
          order = next.order;
          at = next.at;
          alike =
              alike_trans o (history_of o next.order) (there ++ entry_at o.start there p e ∷ []) (h ++ entry_at o.start h p e ∷ [])
              next.alike (alike_more o there h p e like.alike);
          few = omega (arith, next.few, more, longer, like.few);
        }

reach : (wants : Wants) (o : Setup) (known : List (List ℕ)) (n most : ℕ) (order : List ℕ) (h : List Entry)
    → AreOpened wants o known n → AreAmong o known n most → length (after_turns o order h) ≤ most
    → HasLike o known h → HasLike o known (after_turns o order h)
reach wants o known n most [] h opened all few like = like
reach wants o known n most (p ∷ order) h opened all few like =
    let grows = turns_grow o order (after_turn o p h) in
    reach wants o known n most order (after_turn o p h) opened all few
    (turn_like wants o known n most p h opened all (omega (arith, grows, few)) like)

none_among : (wants : Wants) (o : Setup) (known : List (List ℕ)) (n most : ℕ) → HasLike o known []
    → AreOpened wants o known n → AreAmong o known n most → (order : List ℕ) (p : ℕ)
    → length (history_of o order) < most → Makes wants o (history_of o order) p → ⊥
none_among wants o known n most start opened all order p few makes =
    let h : List Entry = history_of o order in
    let like : HasLike o known h = reach wants o known n most order [] opened all (omega (arith, few)) start in
    let there : List Entry = history_of o like.order in
    let low : length there < most = omega (arith, like.few, few) in
    let shown : IsOpened wants o known there p =
    opened like.place like.order p (all like.place like.order like.at low) like.at in
    let other : is_wanted wants (replay o.start there) p makes.call ≡ false =
    shown.other makes.call (now_alike o there h p like.alike ∙ makes.now) in
    let same : is_wanted wants (replay o.start there) p makes.call ≡ is_wanted wants (replay o.start h) p makes.call =
    ap (λ (x : Outcome). wants p makes.call x.reply x.world)
    (step_alike (replay o.start there) (replay o.start h) p makes.call like.alike.world) in
    true≢false (sym makes.wanted ∙ sym same ∙ other)

-- if all known orders are opened, no order makes a call that is asked for
pub never_from : (wants : Wants) (o : Setup) (known : List (List ℕ)) (n : ℕ) → HasLike o known []
    → AreOpened wants o known n → slice_get known n ≡ None → NoneMakes wants o
never_from wants o known n start opened none order p makes =
    none_among wants o known n (length (history_of o order) + 1) start opened
    (λ k other is few. none_past known n k other none is) order p (omega arith) makes

-- if the first n known orders are opened, none makes one after fewer calls than the next one has
pub none_before : (wants : Wants) (o : Setup) (known : List (List ℕ)) (n most : ℕ) (last : List ℕ) → HasLike o known []
    → AreOpened wants o known n → AreSorted o known most → slice_get known n ≡ Some last
    → NoneMakesBefore wants o (length (history_of o last))
none_before wants o known n most last start opened sorted here order p makes =
    let few : ℕ = length (history_of o last) in
    ⊎_elim
    (λ low. absurd (none_among wants o known n few start opened among order p low makes))
    (λ past. omega (arith, past))
    (cases_lt (length (history_of o order)) few)
  where
    among : AreAmong o known n (length (history_of o last))
    among k other is low =
        ⊎_elim
        (λ before. before)
        (λ past.
        let rises = sorted.rises n k last other (omega (arith, past)) here is in
        absurd (let no : ⊥ = omega (arith, rises, low) in no))
        (cases_lt k n)

below : (k n : ℕ) → k < n + 1 → (k ≡ n → ⊥) → k < n
below k n low apart = omega (arith, low, apart)

-- the known orders after the one at n was opened
pub opened_more : (wants : Wants) (o : Setup) (a b : List (List ℕ)) (n : ℕ) (last : List ℕ) → Extends a b
    → AreOpened wants o a n → slice_get a n ≡ Some last
    → ((p : ℕ) → IsOpened wants o b (history_of o last) p) → AreOpened wants o b (n + 1)
opened_more wants o a b n last longer opened here new k order p low is =
    let at : slice_get a k ≡ Some order =
    get_within a longer.more k n order last here low
    (subst (λ x. slice_get x k ≡ Some order) longer.is is) in
    ⊎_elim
    (λ same. subst (λ x. IsOpened wants o b (history_of o x) p)
    (same_Some last order (sym here ∙ subst (λ x. slice_get a x ≡ Some order) same at)) (new p))
    (λ apart. opened_longer wants o a b (history_of o order) p longer
    (opened k order p (below k n low apart) at))
    (cases_eq k n)

-- one more turn at the end of an order
pub turns_append : (o : Setup) (order : List ℕ) (p : ℕ) (h : List Entry)
    → after_turns o (order ++ p ∷ []) h ≡ after_turn o p (after_turns o order h)
turns_append o [] p h = refl
turns_append o (q ∷ order) p h = turns_append o order p (after_turn o q h)

pub longer_is : (o : Setup) (order longer : List ℕ) (p : ℕ) (e : Event) → longer ≡ order ++ p ∷ []
    → call_now o (history_of o order) p ≡ Some e
    → history_of o longer ≡ history_of o order ++ entry_at o.start (history_of o order) p e ∷ []
longer_is o order longer p e is now =
    ap (history_of o) is
    ∙ turns_append o order p []
    ∙ ap (λ made. with_call o p made (history_of o order)) now

pub like_itself : (o : Setup) (known : List (List ℕ)) (order : List ℕ) (h : List Entry) → history_of o order ≡ h
    → HasLike o (known ++ order ∷ []) h
like_itself o known order h is = record {
  place = length known;
  order = order;
  at = get_last known order;
  alike = alike_same o (history_of o order) h is;
  few = let same = ap length is in omega (arith, same);
}
