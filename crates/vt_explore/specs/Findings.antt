-- What a search found for its questions, which are named by their places in a list. No public clause names this.
use Rattle.std.specs.List.{list_any}
use Rattle.std.specs.Prelude.{◌≡◌, ◌<◌, ◌==◌, ℕ, Bool, true, false, not, ◌&&◌, if◌then◌else◌, List, [], ◌∷◌, ◌++◌, length, Option, Some, None, slice_get}
use Rattle.vt_explore.specs.Questions.{Wants}
use Rattle.vt_explore.specs.Searches.{AreOpened, EndsAsked, IsFirst, IsOpened, NoneMakes}
use Rattle.vt_explore.specs.declared.findings.Finding.{Finding}
use Rattle.session_order.specs.Ends.{Setup}
use Rattle.vt_events.specs.declared.entry.Entry.{Entry}

-- the finding is for the question at this place
abbrev pub is_for : ℕ → Finding → Bool
is_for i f = f.question == i

-- something was found for the question at this place
abbrev pub is_found : List Finding → ℕ → Bool
is_found findings i = list_any (is_for i) findings

-- this order was found for the question at this place
pub record HasFinding (findings : List Finding) (i : ℕ) (order : List ℕ) : Type 0 where
  pub place : ℕ
  pub finding : Finding
  pub at : slice_get findings place ≡ Some finding
  pub question : finding.question ≡ i
  pub order_is : finding.order ≡ order

-- the finding is this order, and its question, which had none before, passes the test
pub record PassesNow (all : List Wants) (passes : Wants → Bool) (order : List ℕ) (old : List Finding)
    (f : Finding) : Type 0 where
  pub wants : Wants
  pub question : slice_get all f.question ≡ Some wants
  pub passed : passes wants ≡ true
  pub order_is : f.order ≡ order
  pub open_before : is_found old f.question ≡ false

-- the findings after a question was asked about a call: `passes` is whether it asks for it
abbrev pub after_asking : List Finding → ℕ → Bool → List ℕ → List Finding
after_asking old i passes order =
    if not (is_found old i) && passes then old ++ record { question = i; order = order } ∷ [] else old

-- the order was added for each of the first n questions that passes the test and had no order
pub record AddsPassed (all : List Wants) (passes : Wants → Bool) (order : List ℕ) (n : ℕ) (old new : List Finding) : Type 0 where
  pub more : List Finding
  pub is : new ≡ old ++ more
  pub each : (k : ℕ) (f : Finding) → slice_get more k ≡ Some f → PassesNow all passes order old f
  pub rest :
      (i : ℕ) (wants : Wants) → i < n → slice_get all i ≡ Some wants → is_found new i ≡ false
      → passes wants ≡ false

-- the finding is for a question that had none before: one turn after `before` a call is made that it asks for
pub record IsFoundAfter (all : List Wants) (o : Setup) (before : List ℕ) (old : List Finding) (f : Finding) : Type 0 where
  pub wants : Wants
  pub question : slice_get all f.question ≡ Some wants
  pub ends : EndsAsked wants o before f.order
  pub open_before : is_found old f.question ≡ false

-- the findings that were added are such ones
pub record AddsFound (all : List Wants) (o : Setup) (before : List ℕ) (old new : List Finding) : Type 0 where
  pub more : List Finding
  pub is : new ≡ old ++ more
  pub each : (k : ℕ) (f : Finding) → slice_get more k ≡ Some f → IsFoundAfter all o before old f

-- for each question that nothing was found for, the calls of p after this history are opened
abbrev pub IsTried : List Wants → List Finding → Setup → List (List ℕ) → List Entry → ℕ → Type 0
IsTried all findings o known history p =
    (i : ℕ) (wants : Wants) → slice_get all i ≡ Some wants → is_found findings i ≡ false
    → IsOpened wants o known history p

-- for each question that nothing was found for, the first n known orders are opened
abbrev pub AreTried : List Wants → List Finding → Setup → List (List ℕ) → ℕ → Type 0
AreTried all findings o known n =
    (i : ℕ) (wants : Wants) → slice_get all i ≡ Some wants → is_found findings i ≡ false
    → AreOpened wants o known n

-- the finding's order is a first one for its question
pub record IsFirstFor (all : List Wants) (o : Setup) (f : Finding) : Type 0 where
  pub wants : Wants
  pub question : slice_get all f.question ≡ Some wants
  pub first : IsFirst wants o f.order

-- each finding is such a one
abbrev pub AreFirst : List Wants → Setup → List Finding → Type 0
AreFirst all o findings = (k : ℕ) (f : Finding) → slice_get findings k ≡ Some f → IsFirstFor all o f

-- for each question that nothing was found for, no order makes a call that it asks for
abbrev pub AreNone : List Wants → Setup → List Finding → Type 0
AreNone all o findings =
    (i : ℕ) (wants : Wants) → slice_get all i ≡ Some wants → is_found findings i ≡ false → NoneMakes wants o

-- an order for each of the first n questions that one was found for, and none for the others
pub record AreFoundFor (findings : List Finding) (n : ℕ) (found : List (Option (List ℕ))) : Type 0 where
  pub count : length found ≡ n
  pub some : (i : ℕ) (order : List ℕ) → slice_get found i ≡ Some (Some order) → HasFinding findings i order
  pub none : (i : ℕ) → slice_get found i ≡ Some None → is_found findings i ≡ false
