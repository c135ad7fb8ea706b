-- Consoles that are freed one by one.
use Rattle.std.proofs.Common.{◌≡◌, ◌≢◌, ◌≤◌, ◌<◌, ℕ, ◌+◌, ◌-◌, Bool, true, false, cond, not, List, ◌∷◌, set, map, Option, None, refl, sym, ap, ◌∙◌, arith}
use Rattle.std.proofs.lemmas.List.{get_or-set_other, map-set}
use Rattle.std.specs.List.{flat_map, range_with_len}
use Rattle.std.specs.Prelude.{◌==◌, ◌||◌, filter, is_some}
use Rattle.vt_procs.specs.Callers.{is_opened}
use Rattle.vt_switch.specs.Calls.{without_console, is_held, names}
use Rattle.vt_switch.specs.Display.{Display, or_fresh, owner_of}
use Rattle.vt_switch.specs.declared.console.Console.{Console}
use Rattle.vt_world.specs.Deeds.{apply_deeds}
use Rattle.vt_world.specs.Rows.{free_deeds}
use Rattle.vt_world.specs.State.{WorldState}
use Rattle.vt_world.specs.Terminals.{TerminalState}
use Rattle.vt_world.specs.Refusals.{is_in_use}
use Rattle.vt_world.proofs.Requests.{range_first}

-- a console that is freed has no terminal
pub freed_alike : (n : ℕ) (terminals : List (Option TerminalState)) (d : Display)
    → map is_some terminals ≡ map is_some d.consoles
    → map is_some (set terminals n None) ≡ map is_some (without_console d n).consoles
freed_alike n terminals d alike =
    map-set is_some terminals n None
    ∙ ap (λ taken. set taken n false) alike
    ∙ sym (map-set is_some d.consoles n None)

held_kept : (b : Bool) (d : Display) (n k : ℕ) → k ≢ n
    → is_held (cond b d (without_console d n)) k ≡ is_held d k
held_kept true d n k other = refl
held_kept false d n k other =
    ap (λ (o : Option Console). (k == d.front || names k d.pending) || is_some (owner_of (or_fresh o).handling))
    (get_or-set_other d.consoles n k None None other)

-- another console stays in use, or out of use
in_use_kept : (w : WorldState) (n k : ℕ) → k ≢ n
    → is_in_use (apply_deeds w (free_deeds n)) k ≡ is_in_use w k
in_use_kept w n k other =
    ap (λ (held : Bool). (k == 1 || held) || is_opened w.callers k)
    (held_kept (is_held w.display n) w.display n k other)

abbrev pub unused_from : WorldState → ℕ → List ℕ
unused_from w n = filter (λ c. not (is_in_use w c)) (range_with_len n (64 - n))

unused_next : (w : WorldState) (n : ℕ) → n < 64
    → unused_from w n
    ≡ cond (not (is_in_use w n)) (n ∷ unused_from w (n + 1)) (unused_from w (n + 1))
unused_next w n within = ap (filter (λ c. not (is_in_use w c))) (range_first n n 64 within)

abbrev pub freed_if_unused : WorldState → ℕ → WorldState
freed_if_unused u n = cond (is_in_use u n) u (apply_deeds u (free_deeds n))

either_frees : (b : Bool) (n : ℕ) (ns : List ℕ) (u v : WorldState)
    → v ≡ cond b u (apply_deeds u (free_deeds n))
    → apply_deeds v (flat_map free_deeds ns) ≡ apply_deeds u (flat_map free_deeds (cond (not b) (n ∷ ns) ns))
either_frees true n ns u v is = ap (λ (x : WorldState). apply_deeds x (flat_map free_deeds ns)) is
either_frees false n ns u v is = ap (λ (x : WorldState). apply_deeds x (flat_map free_deeds ns)) is

-- one more console is freed, if it isn't in use
pub frees_next : (w u v : WorldState) (n : ℕ) → n < 64 → is_in_use u n ≡ is_in_use w n
    → v ≡ freed_if_unused u n
    → apply_deeds v (flat_map free_deeds (unused_from w (n + 1)))
    ≡ apply_deeds u (flat_map free_deeds (unused_from w n))
frees_next w u v n within same is =
    either_frees (is_in_use w n) n (unused_from w (n + 1)) u v
    (is ∙ ap (λ (b : Bool). cond b u (apply_deeds u (free_deeds n))) same)
    ∙ ap (λ (ns : List ℕ). apply_deeds u (flat_map free_deeds ns)) (sym (unused_next w n within))

either_kept : (b : Bool) (u v : WorldState) (n k : ℕ) → k ≢ n
    → v ≡ cond b u (apply_deeds u (free_deeds n)) → is_in_use v k ≡ is_in_use u k
either_kept true u v n k other is = ap (λ (x : WorldState). is_in_use x k) is
either_kept false u v n k other is = ap (λ (x : WorldState). is_in_use x k) is ∙ in_use_kept u n k other

-- and the consoles above stay in use, or out of use
pub rest_kept : (w u v : WorldState) (n : ℕ)
    → ((k : ℕ) → n ≤ k → is_in_use u k ≡ is_in_use w k)
    → v ≡ freed_if_unused u n
    → (k : ℕ) → n + 1 ≤ k → is_in_use v k ≡ is_in_use w k
rest_kept w u v n before is k above =
    either_kept (is_in_use u n) u v n k (λ same. absurd (let no : ⊥ = omega (arith, above, same) in no)) is
    ∙ before k (omega (arith, above))
