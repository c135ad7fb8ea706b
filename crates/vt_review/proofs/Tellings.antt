-- The lines of an entry, by the console that it touches.
use Rattle.std.proofs.Common.{◌≡◌, ◌≢◌, ℕ, ◌≤◌, Bool, true, false, cond, List, [], ◌∷◌, ◌++◌, map, filter, flat_map, refl, sym, ap, subst, ◌∙◌, append-nil, append_assoc}
use Rattle.std.proofs.lemmas.List.Concat.{flat_map-append}
use Rattle.vt_review.proofs.Rings.{no_console, one_console}
use Rattle.vt_review.proofs.Stills.{is_shown, is_still}
use Rattle.vt_review.specs.Announcements.{bell_told, consoles, display_told, entry_lines, left_by, has_rung, rows_told}
use Rattle.vt_review.specs.Lines.{Told, ear_lines}
use Rattle.vt_review.specs.Seen.{IsLeft, OthersAreLeft}
use Rattle.vt_review.specs.declared.ear_table.EarTable.{EarTable}
use Rattle.vt_events.specs.declared.entry.Entry.{Entry}
use Rattle.vt_switch.specs.Moments.{hops}
use Rattle.vt_world.specs.State.{WorldState}
use Rattle.vt_world.specs.StepLaws.{TerminalsStay, touches}
use Rattle.vt_world.specs.Terminals.{terminal_at}

-- three parts, one after another
in_parts : (f : Told → List ℕ) (switches bells rows : List Told) (old a b d : List ℕ)
    → a ≡ old ++ flat_map f switches → b ≡ a ++ flat_map f bells → d ≡ b ++ flat_map f rows
    → d ≡ old ++ flat_map f (switches ++ (bells ++ rows))
in_parts f switches bells rows old a b d first second third =
    third
    ∙ ap (λ (text : List ℕ). text ++ flat_map f rows)
    (second ∙ ap (λ (text : List ℕ). text ++ flat_map f bells) first)
    ∙ append_assoc (old ++ flat_map f switches) (flat_map f bells) (flat_map f rows)
    ∙ append_assoc old (flat_map f switches) (flat_map f bells ++ flat_map f rows)
    ∙ ap (λ (text : List ℕ). old ++ text)
    (sym (flat_map-append f switches (bells ++ rows)
    ∙ ap (λ (text : List ℕ). flat_map f switches ++ text) (flat_map-append f bells rows)))

-- no more notices
nothing_more : (f : Told → List ℕ) (told : List Told) (text : List ℕ) → told ≡ []
    → text ≡ text ++ flat_map f told
nothing_more f told text none =
    sym (append-nil text) ∙ ap (λ (ts : List Told). text ++ flat_map f ts) (sym none)

map_one : (b : Bool) (c : ℕ)
    → map bell_told (cond b (c ∷ []) []) ≡ cond b (bell_told c ∷ []) []
map_one true c = refl
map_one false c = refl

-- an entry that touches console c at most
pub told_at : (tables : List EarTable) (e : ℕ) (w v : WorldState) (c : ℕ) (old a b d : List ℕ)
    → 1 ≤ c → c ≤ 63 → OthersAreLeft c w v
    → a ≡ old ++ flat_map (ear_lines 0 e tables) (map display_told (hops v.trace.marks))
    → b ≡ a ++ flat_map (ear_lines 0 e tables) (cond (has_rung w v c) (bell_told c ∷ []) [])
    → d ≡ b ++ flat_map (ear_lines 0 e tables) (rows_told w v v.display.front)
    → d ≡ old ++ entry_lines tables e w v
told_at tables e w v c old a b d low high left first second third =
    let f : Told → List ℕ = ear_lines 0 e tables in
    let bells : map bell_told (filter (has_rung w v) consoles) ≡ cond (has_rung w v c) (bell_told c ∷ []) [] =
    ap (map bell_told)
    (one_console (has_rung w v) c low high (λ n above below other. is_still w v n (left n above below other)))
    ∙ map_one (has_rung w v c) c in
    in_parts f (map display_told (hops v.trace.marks)) (map bell_told (filter (has_rung w v) consoles))
    (rows_told w v v.display.front) old a b d first
    (second ∙ ap (λ (ts : List Told). a ++ flat_map f ts) (sym bells)) third

-- an entry that touches console c at most, after which another console has the display
pub told_aside : (tables : List EarTable) (e : ℕ) (w v : WorldState) (c : ℕ) (old a b : List ℕ)
    → 1 ≤ c → c ≤ 63 → OthersAreLeft c w v
    → 1 ≤ v.display.front → v.display.front ≤ 63 → v.display.front ≢ c
    → a ≡ old ++ flat_map (ear_lines 0 e tables) (map display_told (hops v.trace.marks))
    → b ≡ a ++ flat_map (ear_lines 0 e tables) (cond (has_rung w v c) (bell_told c ∷ []) [])
    → b ≡ old ++ entry_lines tables e w v
told_aside tables e w v c old a b low high left from to other first second =
    told_at tables e w v c old a b b low high left first second
    (nothing_more (ear_lines 0 e tables) (rows_told w v v.display.front) b
    (is_shown w v v.display.front (left v.display.front from to other)))

-- an entry that touches no console
pub told_elsewhere : (tables : List EarTable) (e : ℕ) (w v : WorldState) (old a : List ℕ)
    → ((n : ℕ) → 1 ≤ n → n ≤ 63 → IsLeft (terminal_at w.terminals n) (terminal_at v.terminals n))
    → 1 ≤ v.display.front → v.display.front ≤ 63
    → a ≡ old ++ flat_map (ear_lines 0 e tables) (map display_told (hops v.trace.marks))
    → a ≡ old ++ entry_lines tables e w v
told_elsewhere tables e w v old a left from to first =
    let f : Told → List ℕ = ear_lines 0 e tables in
    let bells : map bell_told (filter (has_rung w v) consoles) ≡ [] =
    ap (map bell_told)
    (no_console (has_rung w v) (λ n above below. is_still w v n (left n above below))) in
    in_parts f (map display_told (hops v.trace.marks)) (map bell_told (filter (has_rung w v) consoles))
    (rows_told w v v.display.front) old a a a first
    (nothing_more f (map bell_told (filter (has_rung w v) consoles)) a bells)
    (nothing_more f (rows_told w v v.display.front) a
    (is_shown w v v.display.front (left v.display.front from to)))

-- an entry leaves the consoles that it doesn't touch unchanged
pub left_alone : TerminalsStay → (w v : WorldState) (entry : Entry) (n : ℕ)
    → v ≡ left_by w entry → touches w entry.caller entry.event n ≡ false
    → IsLeft (terminal_at w.terminals n) (terminal_at v.terminals n)
unfolding left_by
left_alone stay w v entry n is untouched =
    subst (λ (u : WorldState). IsLeft (terminal_at w.terminals n) (terminal_at u.terminals n)) (sym is)
    (stay w entry.caller entry.event n untouched)
