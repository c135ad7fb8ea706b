-- The keyboard of a session, read key by key.
use Rattle.std.proofs.Common.{◌≡◌, ℕ, List, Option, Ok, codes, refl, sym, ap, ◌∙◌}
use Rattle.key_text.specs.Included.{Named}
use Rattle.key_text.specs.KeymapLine.{KeymapLine}
use Rattle.table_fields.specs.Fields.{keymap_of, scan_bytes_of, text_of, texts_of}
use Rattle.toml.specs.Data.{Data, Members, get_member}
use Rattle.session_text.specs.Keyboards.{typed_of}

pub typed_read : (members : Members) (t k s : Option Data) (texts : List Named) (keymap : List ℕ)
    (lines : List KeymapLine) (items keys : List ℕ)
    → t ≡ get_member (codes "include") members → texts_of 0 7 t ≡ Ok texts
    → k ≡ get_member (codes "keymap") members → text_of 0 8 k ≡ Ok keymap
    → keymap_of texts keymap ≡ Ok lines
    → s ≡ get_member (codes "keys") members → text_of 0 9 s ≡ Ok items
    → scan_bytes_of 0 9 items ≡ Ok keys
    → typed_of members ≡ Ok (record { lines = lines; keys = keys })
typed_read members t k s texts keymap lines items keys t_is included k_is map lines_are s_is scans bytes =
    let included' = ap (texts_of 0 7) (sym t_is) ∙ included in
    let map' = ap (text_of 0 8) (sym k_is) ∙ map in
    let scans' = ap (text_of 0 9) (sym s_is) ∙ scans in
    rw (included', map', lines_are, scans', bytes) refl
