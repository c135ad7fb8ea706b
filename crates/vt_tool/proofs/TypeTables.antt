-- The table of `type`, read field by field.
use Rattle.std.proofs.Common.{◌≡◌, ℕ, true, List, Option, Ok, codes, refl, sym, ap, ◌∙◌}
use Rattle.key_text.specs.Included.{Named}
use Rattle.key_text.specs.KeymapLine.{KeymapLine}
use Rattle.toml.specs.Data.{Data, Members, get_member}
use Rattle.table_fields.specs.Fields.{keymap_of, keys_pass, number_of, scan_bytes_of, text_of, texts_of}
use Rattle.vt_tool.specs.Commands.Typing.{is_type_key, type_table_at}

pub type_table_read : (members : Members) (m t k s : Option Data) (mode : ℕ) (texts : List Named)
    (keymap : List ℕ) (lines : List KeymapLine) (text keys : List ℕ)
    → keys_pass is_type_key members ≡ true
    → m ≡ get_member (codes "mode") members → number_of 0 1 3 0 4 m ≡ Ok mode
    → t ≡ get_member (codes "include") members → texts_of 0 2 t ≡ Ok texts
    → k ≡ get_member (codes "keymap") members → text_of 0 3 k ≡ Ok keymap
    → keymap_of texts keymap ≡ Ok lines
    → s ≡ get_member (codes "keys") members → text_of 0 4 s ≡ Ok text
    → scan_bytes_of 0 4 text ≡ Ok keys
    → type_table_at members ≡ Ok (record { mode = mode; lines = lines; keys = keys })
type_table_read members m t k s mode texts keymap lines text keys known m_is number t_is included k_is
    map lines_are s_is scans bytes =
    let number' = ap (number_of 0 1 3 0 4) (sym m_is) ∙ number in
    let included' = ap (texts_of 0 2) (sym t_is) ∙ included in
    let map' = ap (text_of 0 3) (sym k_is) ∙ map in
    let scans' = ap (text_of 0 4) (sym s_is) ∙ scans in
    rw (known, number', included', map', lines_are, scans', bytes) refl
