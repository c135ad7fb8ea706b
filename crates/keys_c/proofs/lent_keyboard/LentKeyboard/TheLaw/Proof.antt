-- A `&` to a loan that is read is made of a borrow of it. Assumes `Logic`.
use denote.Param.Shared.{copy_shared}
use denote.Struct.Field.{RawPtr-field}
use denote.Struct.Laws.{RawPtr-copy}
use denote.Struct.Lending.{of_Lends}
use Rattle.raw_box.proofs.Lent.{lent_laws, Lends-loan}
use Rattle.keys_c.proofs.lent_keyboard.LentKeyboard.TheLaw.Statement.{statement}
use Rattle.keys_c.proofs.keymap_keyboard.KeymapKeyboard.TheLaws as keyboard
use Rattle.keys_c.specs.contracts.lent_keyboard.LentKeyboard as C
use Rattle.keys_c.specs.contracts.keymap_keyboard.KeymapKeyboard as Keyboard

pub shares : statement
shares =
    of_Lends C.struct C.the_codes C.the_heap C.the_lent (λ d p. lent_laws Keyboard.the_row keyboard.the_row_laws.shr_laws d.at d.value)
    (copy_shared RawPtr-field RawPtr-copy, tt)
    (λ M 𝓤 𝓛 d p. Lends-loan 𝓛 Keyboard.the_row keyboard.the_row_laws.shr_laws C.the_row.lives d.at d.value d.life d.part)
