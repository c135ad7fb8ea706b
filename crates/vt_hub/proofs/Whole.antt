-- The result of closing a hub, from that of closing the lock.
use Rattle.std.proofs.Common.{◌≡◌, ⊎_elim, ℕ, zero, suc, true, cond, arith, List, [], ◌∷◌, map, Option, Some, None, refl, sym, ap, ◌∙◌, subst, get_or}
use Rattle.std.proofs.lemmas.List.Elements.{All-map}
use Rattle.std.proofs.lemmas.List.Sums.{sum_by-cons}
use Rattle.std.proofs.lemmas.Option.{get_or_from_slice_get, slice_get_within}
use Rattle.std.specs.List.{All, count_by}
use Rattle.std.specs.Prelude.{option_map, slice_get, slice_index_or}
use mathlib.Core.Option.{some, some-injective, some-ne-none}
use lib.ListN.{get_elem?}
use Rattle.turn_lock.specs.History.{StartsWith}
use Rattle.turn_lock.specs.Views.{among, joined_of, made_of}
use Rattle.turn_lock.specs.Told.{Closes}
use Rattle.turn_lock.specs.Words.{IsPartOf}
use Rattle.turn_lock.specs.declared.seal.Seal.{Seal}
use Rattle.turn_lock.specs.declared.view.Joined.{Joined}
use Rattle.turn_lock.specs.declared.view.View.{View}
use Rattle.atomic_table.specs.Seated.{TableId}
use Rattle.vt_events.specs.declared.entry.Entry.{Entry}
use Rattle.vt_hub.specs.Closed.{IsPart, IsStopped, IsWhole}
use Rattle.vt_hub.specs.Histories.{BeginsWith}
use Rattle.vt_hub.specs.Places.{joined_by, kept_by}
use Rattle.vt_hub.specs.Shared.{IsSound, IsStop, SharedView}
use Rattle.vt_hub.specs.Carrying.{Carried, display_of, plain, carried_entries}
use Rattle.vt_hub.specs.Views.{PassView, is_home, is_made, is_out, stand_at}
use Rattle.vt_hub.specs.declared.pass_place.PassPlace.{PassPlace}
use Rattle.vt_hub.specs.declared.pass_place.PassPlace.TheVariants.{Unmade, Out, Home}
use Rattle.vt_hub.proofs.Carried.{first_display, made_carried_entries, plain_more, plain-carried_entries, read_carried_entries}
use Rattle.vt_journal.specs.Log.{Logged}
use Rattle.vt_journal.specs.Room.{IsWithin, full_at, has_room}
use Rattle.vt_journal.specs.declared.full.Full.{Full}
use Rattle.vt_journal.specs.declared.limits.Limits.{Limits}
use Rattle.vt_world.specs.Laws.{ScreensAreTapes}
use Rattle.vt_world.specs.State.{WorldState, is_waiting}
use Rattle.vt_world.specs.Tapes.{screen_of, tape_of}
use Rattle.vt_world.specs.Terminals.{emu_of, terminal_at}

-- if no pass is out, each that was made was joined
pub all_home : (stands : List PassPlace) → count_by is_out stands ≡ 0 → (n : ℕ)
    → is_made (stand_at stands n) ≡ true → is_home (stand_at stands n) ≡ true
all_home [] none n made = made
all_home (x ∷ xs) none zero made = first x none made
  where
    first : (y : PassPlace) → count_by is_out (y ∷ xs) ≡ 0 → is_made y ≡ true → is_home y ≡ true
    first Unmade no_one is = is
    first Out no_one is =
        let more = sum_by-cons (λ z. cond (is_out z) 1 0) Out xs in
        absurd (let z : ⊥ = omega (arith, more, no_one) in z)
    first Home no_one is = refl
all_home (x ∷ xs) none (suc n) made =
    let more = sum_by-cons (λ z. cond (is_out z) 1 0) x xs in
    all_home xs (let z : count_by is_out xs ≡ 0 = omega (arith, more, none) in z) n made

module _ {A B : Type 0} where
  -- an element's image stands at its place
  at-map : (f : A → B) (xs : List A) (i : ℕ) (x : A) → get_elem? xs i ≡ some x
      → slice_get (map f xs) i ≡ Some (f x)
  at-map f [] i x is = absurd (some-ne-none x (sym is))
  at-map f (y ∷ ys) zero x is = ap (λ (z : A). Some (f z)) (some-injective y x is)
  at-map f (y ∷ ys) (suc i) x is = at-map f ys i x is

module _ {B : Type 0} where
  -- a fact of each element is one of the element at a place
  all-at : (P : B → Type 0) (xs : List B) (i : ℕ) (x : B) → All P xs → slice_get xs i ≡ Some x → P x
  all-at P xs i x all is =
      subst P (get_or_from_slice_get xs i x x is) (all i x (slice_get_within xs i x is))

seal_is : (z : Seal Full) (n : ℕ) (f : Full) → z.by ≡ n → z.what ≡ f
    → z ≡ record { by = n; what = f }
seal_is z n f p q k = record { by = p k; what = q k }

-- where the hub stopped, without the caller
abbrev pub stop_of : Option (Seal Full) → Option Full
stop_of seal = option_map (λ (z : Seal Full). z.what) seal

module _ (start : WorldState) (most : Limits) (hub : TableId) (stands : List PassPlace)
    (v : View Entry Full) (s : SharedView) (sound : IsSound start most s)
    (known_at : Closes (display_of start) (carried_entries start s.log.entries) s.stop v) where
  log : List Carried
  log = carried_entries start s.log.entries

  first : display_of start ≡ start.display.front
  first = first_display start sound.display_low sound.display_high

  begins : (seen : List Carried) → StartsWith log seen → BeginsWith s.log.entries (plain seen)
  unfolding log
  begins seen is = (
    plain is.0,
    sym (plain-carried_entries start s.log.entries) ∙ (ap plain is.1 ∙ plain_more seen is.0),
  )

  part : (x : Joined Entry Full) → IsPartOf (display_of start) log s.stop x
      → IsPart start s.log.entries (stop_of s.stop) (joined_by hub x)
  unfolding log
  part x is = record {
    seen = begins x.seen is.seen;
    mine = ap plain is.mine ∙ made_carried_entries x.number start s.log.entries;
    word = read_carried_entries start s.log.entries x.known first is.known;
    read = begins x.read is.read;
    met = λ z has. ⊎_elim
        (λ unmet. let bad : None ≡ Some z = sym unmet ∙ has in absurd cc)
        (λ m. (
          ap stop_of (sym m.0 ∙ has),
          ap plain m.1 ∙ plain-carried_entries start s.log.entries,
        ))
        is.met;
  }

  parts : All (IsPart start s.log.entries (stop_of s.stop)) (map (joined_by hub) (joined_of v.role))
  unfolding log
  parts = All-map (IsPart start s.log.entries (stop_of s.stop)) (joined_by hub) (joined_of v.role)
      (λ k d low. part (get_or (joined_of v.role) k d) (known_at.joined k d low))

  stops : (full : Full) → stop_of s.stop ≡ Some full
      → IsStopped most s.world s.log.entries (map (joined_by hub) (joined_of v.role)) full
  stops full is = go s.stop refl is
    where
      go : (o : Option (Seal Full)) → s.stop ≡ o → stop_of o ≡ Some full
          → IsStopped most s.world s.log.entries (map (joined_by hub) (joined_of v.role)) full
      go None stop e = absurd cc
      go (Some z) stop e =
          let what : z.what ≡ full = cc in
          let it = known_at.named z stop in
          let right : IsStop most s.world s.log.entries z = sound.stops z stop in record {
            place = it.0;
            pass = joined_by hub it.1;
            here = at-map (joined_by hub) (joined_of v.role) it.0 it.1 it.2;
            met = it.4 ∙ ap Some (seal_is z it.1.number full (sym it.3) what);
            goes = ap (is_waiting s.world) it.3 ∙ right.goes;
            numbers = sym what ∙ (right.numbers ∙ ap (λ (c : Full). full_at s.log.entries c.charge) what);
            no_room = ap (λ (c : Full). has_room most s.log.entries c.charge) (sym what) ∙ right.no_room;
          }

  unstopped-all : stop_of s.stop ≡ None
      → All (λ x. x.stop ≡ None) (map (joined_by hub) (joined_of v.role))
  unstopped-all unmet k d low =
      let x : PassView = slice_index_or (map (joined_by hub) (joined_of v.role)) k d in
      go x.stop refl (parts k d low).met
    where
      go : (o : Option (Seal Full)) → (slice_index_or (map (joined_by hub) (joined_of v.role)) k d).stop ≡ o
          → ((z : Seal Full)
          → (slice_index_or (map (joined_by hub) (joined_of v.role)) k d).stop ≡ Some z
          → (stop_of s.stop ≡ Some z.what)
          × ((slice_index_or (map (joined_by hub) (joined_of v.role)) k d).seen ≡ s.log.entries))
          → (slice_index_or (map (joined_by hub) (joined_of v.role)) k d).stop ≡ None
      go None is met = is
      go (Some z) is met =
          let bad : None ≡ Some z.what = sym unmet ∙ (met z is).0 in absurd cc

  all-unstopped : All (λ x. x.stop ≡ None) (map (joined_by hub) (joined_of v.role))
      → stop_of s.stop ≡ None
  all-unstopped all = go (stop_of s.stop) refl
    where
      go : (o : Option Full) → stop_of s.stop ≡ o → o ≡ None
      go None is = refl
      go (Some full) is =
          let it = stops full is in
          let unmet : it.pass.stop ≡ None =
          all-at (λ (x : PassView). x.stop ≡ None) (map (joined_by hub) (joined_of v.role))
          it.place it.pass all it.here in
          let own : Seal Full = record { by = it.pass.number; what = full } in
          let bad : None ≡ Some own = sym unmet ∙ it.met in absurd cc

  pub whole : (world : WorldState) (l : Logged) (stop : Option Full) → world ≡ s.world
      → l ≡ s.log → stop ≡ stop_of s.stop → IsWithin most s.log.entries
      → ((n : ℕ) → among n (made_of v.role) ≡ is_made (stand_at stands n))
      → ScreensAreTapes
      → IsWhole start most (kept_by hub stands v) world l stop
  unfolding log
  whole world l stop same_world same_log same_stop within made tapes =
      subst (λ (t : Option Full). IsWhole start most (kept_by hub stands v) world l t)
      (sym same_stop)
      (subst (λ (t : Logged). IsWhole start most (kept_by hub stands v) world t (stop_of s.stop))
      (sym same_log)
      (subst (λ (t : WorldState).
      IsWhole start most (kept_by hub stands v) t s.log (stop_of s.stop))
      (sym same_world) it))
    where
      it : IsWhole start most (kept_by hub stands v) s.world s.log (stop_of s.stop)
      it = record {
        legal = sound.legal;
        replayed = sound.replayed;
        free = sound.free;
        limits = sound.limits;
        within = within;
        seen = begins v.seen known_at.seen;
        word = read_carried_entries start s.log.entries v.known first known_at.known;
        read = begins v.read known_at.read;
        parts = parts;
        unmade = λ n at. sym (made_carried_entries n start s.log.entries)
            ∙ ap plain (known_at.unmade n (made n ∙ ap is_made at));
        stops = stops;
        unstopped = (unstopped-all, all-unstopped);
        lawful = λ nothing. sound.lawful nothing s.log.entries;
        screens = λ opens c low.
            ap (λ (w : WorldState). emu_of (terminal_at w.terminals c)) sound.replayed
            ∙ (tapes start s.log.entries opens c low
            ∙ ap (λ (w : WorldState). option_map (screen_of w.rows w.cols) (tape_of c start s.log.entries))
            (sym opens.opened));
      }
