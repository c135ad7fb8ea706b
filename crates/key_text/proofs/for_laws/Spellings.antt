-- All spellings of the same rows of words have the same content.
use Rattle.key_text.proofs.for_laws.HasWords.{same_rows}
use Rattle.key_text.proofs.for_laws.LikeReading.{words_decide}
use Rattle.key_text.proofs.for_laws.RowBytes.{spelled_rows}
use Rattle.key_text.specs.Reading.{start}
use Rattle.key_text.specs.Rows.{rows_of}
use Rattle.key_text.specs.Spelled.{SpellingsAgree}

pub spellings_agree : SpellingsAgree
spellings_agree texts rows a b s t =
    words_decide texts a b (same_rows rows (rows_of start a) (spelled_rows rows a s start) (rows_of start b) (spelled_rows rows b t start))
