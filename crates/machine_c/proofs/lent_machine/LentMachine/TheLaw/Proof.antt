-- A `&` to a loan that is read is made of a borrow of it. Assumes `Logic`.
use denote.Param.Shared.{copy_shared}
use denote.Struct.Field.{RawPtr-field}
use denote.Struct.Laws.{RawPtr-copy}
use denote.Struct.Lending.{of_Lends}
use Rattle.raw_box.proofs.Lent.{lent_laws, Lends-loan}
use Rattle.machine_c.proofs.lent_machine.LentMachine.TheLaw.Statement.{statement}
use Rattle.machine.proofs.machine.Machine.TheLaws as machine
use Rattle.machine_c.specs.contracts.lent_machine.LentMachine as C
use Rattle.machine.specs.contracts.machine.Machine as Machine

pub shares : statement
shares =
    of_Lends C.struct C.the_codes C.the_heap C.the_lent (λ d p. lent_laws Machine.the_row machine.the_row_laws.shr_laws d.at d.value)
    (copy_shared RawPtr-field RawPtr-copy, tt)
    (λ M 𝓤 𝓛 d p. Lends-loan 𝓛 Machine.the_row machine.the_row_laws.shr_laws C.the_row.lives d.at d.value d.life d.part)
