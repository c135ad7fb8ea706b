-- The entries that the moments of a history come from, and the moments before each.
use Rattle.std.proofs.Common.{◌≡◌, ◌⊎◌, inl, inr, ⊎_elim, ℕ, zero, suc, ◌+◌, List, [], ◌∷◌, ◌++◌, Some, take, refl, sym, ap, ◌∙◌, subst, arith, append_assoc}
use Rattle.std.specs.Prelude.{slice_get}
use Rattle.std.proofs.lemmas.Option.{none-some, same_Some}
use Rattle.vt_tool.specs.Displays.{IsAmong, StandsBehind}
use Rattle.vt_switch.specs.Acts.{SwitchAct}
use Rattle.vt_switch.specs.Law.{EachAllowed, IsAllowed, IsLawful, Since}
use Rattle.vt_switch.specs.Moments.{Core, Moment, after_entries, all_after, core_after, history, hops, marks, trace, with_acts}
use Rattle.vt_switch.specs.declared.hop.Hop.{Hop}
use Rattle.vt_switch.specs.declared.mark.Mark.{Mark}
use Rattle.vt_world.specs.Laws.{TellsActs, hops_of}

-- among these acts, done one after another, is this one, and the core just before it is this
abbrev pub IsDone : Core → List SwitchAct → Core → SwitchAct → Type 0
IsDone k [] before act = ⊥
IsDone k (first ∷ acts) before act =
    ((k ≡ before) × (first ≡ act)) ⊎ IsDone (core_after k first) acts before act

-- the moment of an act of the i-th entry that made this hop
pub record MadeAt (list : List Moment) (i : ℕ) (k : Core) (acts : List SwitchAct) (hop : Hop) : Type 0 where
  pub earlier : List Moment
  pub moment : Moment
  pub stands : StandsBehind earlier moment list
  pub entry : moment.entry ≡ i
  pub done : IsDone k acts moment.before moment.act
  pub made : IsAmong hop (hops (trace moment))

-- the act of the k-th list of acts that this moment is
pub record IsFrom (core : Core) (entries : List (List SwitchAct)) (i : ℕ) (m : Moment) : Type 0 where
  pub place : ℕ
  pub acts : List SwitchAct
  pub is : slice_get entries place ≡ Some acts
  pub entry : m.entry ≡ i + place
  pub done : IsDone (after_entries core (take place entries)) acts m.before m.act

-- a trace has these marks in it
pub record HasMarks (own : List Mark) (trace : List Mark) : Type 0 where
  pub front : List Mark
  pub back : List Mark
  pub is : trace ≡ front ++ (own ++ back)

-- a hop of two lists is one of the first or one of the second
among_either : (hop : Hop) (xs ys : List Hop) → IsAmong hop (xs ++ ys)
    → IsAmong hop xs ⊎ IsAmong hop ys
among_either hop [] ys is = inr is
among_either hop (x ∷ xs) ys (inl here) = inl (inl here)
among_either hop (x ∷ xs) ys (inr more) =
    ⊎_elim (λ (left : IsAmong hop xs). inl (inr left)) (λ (right : IsAmong hop ys). inr right)
    (among_either hop xs ys more)

-- a moment of a history is also one of the history with more acts, and with more entries
stands_acts : (i : ℕ) (k : Core) (acts : List SwitchAct) (list earlier : List Moment) (m : Moment)
    → StandsBehind earlier m list → StandsBehind earlier m (with_acts i k acts list)
stands_acts i k [] list earlier m is = is
stands_acts i k (act ∷ acts) list earlier m is =
    stands_acts i (core_after k act) acts (record { entry = i; before = k; act = act } ∷ list) earlier m
    (inr is)

stands_entries : (i : ℕ) (k : Core) (entries : List (List SwitchAct)) (list earlier : List Moment)
    (m : Moment) → StandsBehind earlier m list → StandsBehind earlier m (history i k entries list)
stands_entries i k [] list earlier m is = is
stands_entries i k (acts ∷ entries) list earlier m is =
    stands_entries (i + 1) (all_after k acts) entries (with_acts i k acts list) earlier m
    (stands_acts i k acts list earlier m is)

-- a hop of acts is made at one of their moments
made_acts : (i : ℕ) (k : Core) (acts : List SwitchAct) (list : List Moment) (hop : Hop)
    → IsAmong hop (hops_of k acts) → MadeAt (with_acts i k acts list) i k acts hop
made_acts i k [] list hop is = absurd is
made_acts i k (act ∷ acts) list hop is =
    let m : Moment = record { entry = i; before = k; act = act } in
    ⊎_elim
    (λ (here : IsAmong hop (hops (marks k act))). record {
      earlier = list;
      moment = m;
      stands = stands_acts i (core_after k act) acts (m ∷ list) list m (inl (refl, refl));
      entry = refl;
      done = inl (refl, refl);
      made = here;
    })
    (λ (later : IsAmong hop (hops_of (core_after k act) acts)).
    let found : MadeAt (with_acts i (core_after k act) acts (m ∷ list)) i (core_after k act) acts hop =
    made_acts i (core_after k act) acts (m ∷ list) hop later in
    record {
      earlier = found.earlier;
      moment = found.moment;
      stands = found.stands;
      entry = found.entry;
      done = inr found.done;
      made = found.made;
    })
    (among_either hop (hops (marks k act)) (hops_of (core_after k act) acts) is)

made_entries : (i : ℕ) (core : Core) (entries : List (List SwitchAct)) (list : List Moment) (k : ℕ)
    (acts : List SwitchAct) (hop : Hop) → slice_get entries k ≡ Some acts
    → IsAmong hop (hops_of (after_entries core (take k entries)) acts)
    → MadeAt (history i core entries list) (i + k) (after_entries core (take k entries)) acts hop
made_entries i core [] list k acts hop is made = absurd (none-some acts is)
made_entries i core (first ∷ entries) list zero acts hop is made =
    let same : first ≡ acts = same_Some first acts is in
    let found : MadeAt (with_acts i core first list) i core first hop =
    made_acts i core first list hop (subst (λ (a : List SwitchAct). IsAmong hop (hops_of core a)) (sym same) made) in
    record {
      earlier = found.earlier;
      moment = found.moment;
      stands = stands_entries (i + 1) (all_after core first) entries (with_acts i core first list) found.earlier found.moment found.stands;
      entry = found.entry ∙ omega arith;
      done = subst (λ (a : List SwitchAct). IsDone core a found.moment.before found.moment.act) same found.done;
      made = found.made;
    }
made_entries i core (first ∷ entries) list (suc k) acts hop is made =
    let found : MadeAt (history (i + 1) (all_after core first) entries (with_acts i core first list)) (i + 1 + k) (after_entries (all_after core first) (take k entries)) acts hop =
    made_entries (i + 1) (all_after core first) entries (with_acts i core first list) k acts hop is made in
    record {
      earlier = found.earlier;
      moment = found.moment;
      stands = found.stands;
      entry = found.entry ∙ omega arith;
      done = found.done;
      made = found.made;
    }

-- each hop of the k-th entry's acts is made at one of the moments of these
pub every_hop : (core : Core) (entries : List (List SwitchAct)) (k : ℕ) (acts : List SwitchAct)
    (hop : Hop) → slice_get entries k ≡ Some acts
    → IsAmong hop (hops_of (after_entries core (take k entries)) acts)
    → MadeAt (history 0 core entries []) k (after_entries core (take k entries)) acts hop
every_hop core entries k acts hop is made =
    let found : MadeAt (history 0 core entries []) (0 + k) (after_entries core (take k entries)) acts hop =
    made_entries 0 core entries [] k acts hop is made in
    record {
      earlier = found.earlier;
      moment = found.moment;
      stands = found.stands;
      entry = found.entry ∙ omega arith;
      done = found.done;
      made = found.made;
    }

-- a hop of a moment of a lawful history was allowed
among_allowed : (earlier : List Moment) (m : Moment) (list : List Hop) (hop : Hop)
    → EachAllowed earlier m list → IsAmong hop list → IsAllowed earlier m hop
among_allowed earlier m [] hop each is = absurd is
among_allowed earlier m (first ∷ list) hop each (inl here) = subst (IsAllowed earlier m) here each.0
among_allowed earlier m (first ∷ list) hop each (inr more) =
    among_allowed earlier m list hop each.1 more

each_at : (list earlier : List Moment) (m : Moment) → IsLawful list → StandsBehind earlier m list
    → EachAllowed earlier m (hops (trace m))
each_at [] earlier m lawful stands = absurd stands
each_at (x ∷ list) earlier m lawful (inl here) =
    subst (λ (e : List Moment). EachAllowed e m (hops (trace m))) here.1
    (subst (λ (y : Moment). EachAllowed list y (hops (trace y))) here.0 lawful.0)
each_at (x ∷ list) earlier m lawful (inr more) = each_at list earlier m lawful.1 more

pub allowed_at : (list earlier : List Moment) (m : Moment) (hop : Hop) → IsLawful list
    → StandsBehind earlier m list → IsAmong hop (hops (trace m)) → IsAllowed earlier m hop
allowed_at list earlier m hop lawful stands is =
    among_allowed earlier m (hops (trace m)) hop (each_at list earlier m lawful stands) is

-- a moment before one of a list is in that list
pub stands_deeper : (list earlier deeper : List Moment) (m old : Moment) → StandsBehind earlier m list
    → StandsBehind deeper old earlier → StandsBehind deeper old list
stands_deeper [] earlier deeper m old stands is = absurd stands
stands_deeper (x ∷ list) earlier deeper m old (inl here) is =
    inr (subst (StandsBehind deeper old) (sym here.1) is)
stands_deeper (x ∷ list) earlier deeper m old (inr more) is =
    inr (stands_deeper list earlier deeper m old more is)

-- a further fact of each cause among the moments
pub since_more : (IsQuiet IsCause IsMore : Moment → Type 0) (list : List Moment)
    → ((earlier : List Moment) (m : Moment) → StandsBehind earlier m list → IsCause m → IsMore m)
    → Since IsQuiet IsCause list → Since IsQuiet IsMore list
since_more IsQuiet IsCause IsMore [] more since = absurd since
since_more IsQuiet IsCause IsMore (m ∷ list) more (inl cause) =
    inl (more list m (inl (refl, refl)) cause)
since_more IsQuiet IsCause IsMore (m ∷ list) more (inr later) = inr (
  later.0,
  since_more IsQuiet IsCause IsMore list (λ earlier x stands cause. more earlier x (inr stands) cause)
      later.1,
)

-- a moment after acts is one of the earlier moments or one of these acts
from_acts : (i : ℕ) (k : Core) (acts : List SwitchAct) (list earlier : List Moment) (m : Moment)
    → StandsBehind earlier m (with_acts i k acts list)
    → StandsBehind earlier m list ⊎ ((m.entry ≡ i) × IsDone k acts m.before m.act)
from_acts i k [] list earlier m stands = inl stands
from_acts i k (act ∷ acts) list earlier m stands =
    let here : Moment = record { entry = i; before = k; act = act } in
    ⊎_elim
    (λ (old : StandsBehind earlier m (here ∷ list)). ⊎_elim
    (λ (is : (here ≡ m) × (list ≡ earlier)). inr (
      ap (λ (x : Moment). x.entry) (sym is.0),
      inl (ap (λ (x : Moment). x.before) is.0, ap (λ (x : Moment). x.act) is.0),
    ))
    (λ (more : StandsBehind earlier m list). inl more) old)
    (λ (done : (m.entry ≡ i) × IsDone (core_after k act) acts m.before m.act). inr (done.0, inr done.1))
    (from_acts i (core_after k act) acts (here ∷ list) earlier m stands)

from_entries : (i : ℕ) (core : Core) (entries : List (List SwitchAct)) (list earlier : List Moment)
    (m : Moment) → StandsBehind earlier m (history i core entries list)
    → StandsBehind earlier m list ⊎ IsFrom core entries i m
from_entries i core [] list earlier m stands = inl stands
from_entries i core (acts ∷ entries) list earlier m stands = ⊎_elim
    (λ (old : StandsBehind earlier m (with_acts i core acts list)). ⊎_elim
    (λ (older : StandsBehind earlier m list). inl older)
    (λ (done : (m.entry ≡ i) × IsDone core acts m.before m.act). inr (record {
      place = 0;
      acts = acts;
      is = refl;
      entry = done.0 ∙ omega arith;
      done = done.1;
    })) (from_acts i core acts list earlier m old))
    (λ (later : IsFrom (all_after core acts) entries (i + 1) m). inr (record {
      place = suc later.place;
      acts = later.acts;
      is = later.is;
      entry = later.entry ∙ omega arith;
      done = later.done;
    }))
    (from_entries (i + 1) (all_after core acts) entries (with_acts i core acts list) earlier m stands)

-- each moment of a history is an act of one of its entries
pub from_history : (core : Core) (entries : List (List SwitchAct)) (earlier : List Moment) (m : Moment)
    → StandsBehind earlier m (history 0 core entries []) → IsFrom core entries 0 m
from_history core entries earlier m stands = ⊎_elim
    (λ (old : StandsBehind earlier m []). absurd old)
    (λ (from : IsFrom core entries 0 m). from) (from_entries 0 core entries [] earlier m stands)

-- the marks of an act are in the trace of its entry
pub marks_in : (k : Core) (acts : List SwitchAct) (before : Core) (act : SwitchAct) (trace : List Mark)
    → IsDone k acts before act → TellsActs k acts trace → HasMarks (marks before act) trace
marks_in k [] before act trace done tells = absurd done
marks_in k (first ∷ acts) before act trace (inl here) tells = record {
  front = tells.signals;
  back = tells.more;
  is = tells.parts
      ∙ ap (λ (own : List Mark). tells.signals ++ (own ++ tells.more))
      (λ j. marks (here.0 j) (here.1 j));
}
marks_in k (first ∷ acts) before act trace (inr more) tells =
    let found : HasMarks (marks before act) tells.more =
    marks_in (core_after k first) acts before act tells.more more tells.rest in
    record {
      front = tells.signals ++ (marks k first ++ found.front);
      back = found.back;
      is = tells.parts
          ∙ ap (λ (rest : List Mark). tells.signals ++ (marks k first ++ rest)) found.is
          ∙ ap (λ (rest : List Mark). tells.signals ++ rest)
          (sym (append_assoc (marks k first) found.front (marks before act ++ found.back)))
          ∙ sym (append_assoc tells.signals (marks k first ++ found.front) (marks before act ++ found.back));
    }
