use Rattle.std.proofs.Common.{ℕ, List, get_or, length, refl, ap, ◌∙◌}
use Rattle.std.proofs.lemmas.List.{length-replicate}
use Rattle.vt_free.proofs.Judged.{none_made}
use Rattle.vt_world.proofs.Stated.{legal_grows-nothing}
use Rattle.vt_free.proofs.free_judge.FreeJudge.open.Goals as goal

pub returns : goal.returns
returns c = record {
  left = record { legal = legal_grows-nothing c.args.start; replayed = refl };
  size = ap (λ (made : List ℕ). length made) c.no_calls.ensures ∙ length-replicate {A = ℕ} 68 0;
  made = λ p low. ap (λ (made : List ℕ). get_or made p 0) c.no_calls.ensures ∙ none_made 68 p;
  events = refl;
  bytes = refl;
}
