-- The laws that other crates cite, as the functions state them.
pub use Rattle.session_order.proofs.Races.{race_right as race_laws-right, runs_grow as race_laws-grows}
pub use Rattle.session_order.proofs.Turns.{finished_stays as serial_laws-stays, rounds_more as serial_laws-sum}
pub use Rattle.session_order.proofs.Turns.{serial_one as serial_laws-one, serial_right as serial_laws-right}
pub use Rattle.session_order.proofs.for_laws.Meant.{ends_meant as meant_laws-ends, follows_meant as meant_laws-follows}
pub use Rattle.session_order.proofs.for_laws.Meant.{legal_meant as meant_laws-legal, next-meant as meant_laws-next}
pub use Rattle.session_order.proofs.for_laws.Meant.{next_plain as meant_laws-plain, replay_meant as meant_laws-replay}
pub use Rattle.session_order.proofs.for_laws.Orders.{entries_are_turns as order_laws-turns}
pub use Rattle.session_order.proofs.for_laws.Orders.{orders_are_legal as order_laws-legal}
pub use Rattle.session_order.proofs.for_laws.Progress.{rounds-go-on as serial_laws-goes_on}
pub use Rattle.session_order.proofs.for_laws.Progress.{serial_ends as serial_laws-ends}
