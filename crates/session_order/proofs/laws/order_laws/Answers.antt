use Rattle.session_order.proofs.for_laws.Orders.{entries_are_turns, histories_are_orders, orders_are_legal}
use Rattle.session_order.proofs.laws.order_laws.Goals as goal

pub returns-clause-legal : goal.returns-clause-legal
returns-clause-legal c = orders_are_legal

pub returns-clause-histories : goal.returns-clause-histories
returns-clause-histories c = histories_are_orders

pub returns-clause-turns : goal.returns-clause-turns
returns-clause-turns c = entries_are_turns
