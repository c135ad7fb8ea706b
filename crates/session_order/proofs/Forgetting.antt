-- A walk that forgets what no call that is left depends on.
use Rattle.std.proofs.Common.{◌≡◌, ℕ, ◌≤◌, ◌<◌, ⊎_elim, arith, List, length, get_or, set, Some, sym, ap, ◌∙◌, subst}
use Rattle.std.proofs.lemmas.Bool.{cases_eq}
use Rattle.std.proofs.lemmas.List.{get_or-set_same, get_or-set_other, length-set}
use Rattle.std.proofs.lemmas.Option.{same_Some}
use Rattle.session_order.specs.Calls.{calls_by}
use Rattle.session_order.specs.Standing.{AreAfter, SessionProgressView, IsWalkAfter}
use Rattle.session_text.specs.Programs.{Call, program_of}
use Rattle.session_text.specs.Walks.{Place, Stands}
use Rattle.session_text.specs.declared.program.Program.{Program}
use Rattle.vt_events.specs.declared.entry.Entry.{Entry}

-- the walk of p stands for the same calls, and nothing else changes
pub record Forgot (p : ℕ) (program : Program) (before after : SessionProgressView) : Type 0 where
  pub walk : Place
  pub moved : Place
  pub known : p ≤ 67
  pub read : walk ≡ get_or before.walks p walk
  pub walks : after.walks ≡ set before.walks p moved
  pub counts : after.counts ≡ before.counts
  pub stands : (made : List Call) → Stands program walk made → Stands program moved made

pub forgot : (programs : List Program) (h : List Entry) (p : ℕ) (program : Program)
    (before after : SessionProgressView) → Forgot p program before after
    → program_of programs p ≡ Some program → AreAfter programs h before → AreAfter programs h after
forgot programs h p program before after change is at =
    let within : p < length before.walks = omega (arith, change.known, at.walks) in
    let there : IsWalkAfter program change.walk (calls_by p h) =
    at.stand p program change.walk change.known is change.read in
    let stands : IsWalkAfter program change.moved (calls_by p h) = record {
      calls = there.calls;
      stands = change.stands there.calls there.stands;
      meant = there.meant;
    } in
    record {
      walks = ap length change.walks ∙ length-set before.walks p change.moved ∙ at.walks;
      stand = λ q other walk known is_other read_other. ⊎_elim
          (λ mine.
          let same_program : program ≡ other =
          same_Some program other (sym is ∙ ap (program_of programs) mine ∙ is_other) in
          let same_walk : walk ≡ change.moved =
          read_other
          ∙ (λ i. get_or (change.walks i) (sym mine i) walk)
          ∙ get_or-set_same before.walks p change.moved walk within in
          subst (λ k. IsWalkAfter other walk (calls_by k h)) mine
          (subst (λ w. IsWalkAfter other w (calls_by p h)) (sym same_walk)
          (subst (λ x. IsWalkAfter x change.moved (calls_by p h)) same_program stands)))
          (λ apart.
          at.stand q other walk known is_other
          (read_other
          ∙ ap (λ walks. get_or walks q walk) change.walks
          ∙ get_or-set_other before.walks p q change.moved walk (λ same. apart (sym same))))
          (cases_eq p q);
      places = ap length change.counts ∙ at.places;
      counted = λ q within. ap (λ counts. get_or counts q 0) change.counts ∙ at.counted q within;
    }
