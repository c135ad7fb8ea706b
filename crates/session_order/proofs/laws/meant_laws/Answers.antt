use Rattle.session_order.proofs.for_laws.Meant.{ends_meant, follows_meant, legal_meant, next-meant, next_plain, replay_meant}
use Rattle.session_order.proofs.laws.meant_laws.Goals as goal

pub returns : goal.returns
returns c = record {
  next = next-meant;
  plain = next_plain;
  replay = replay_meant;
  legal = legal_meant;
  follows = follows_meant;
  ends = ends_meant;
}
