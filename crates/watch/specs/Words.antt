-- The words of the text, and the pieces that it is made of. This project's own.
use Rattle.std.specs.Prelude.{ℕ, List, [], ◌∷◌, ◌++◌, codes, decimal}
use Rattle.watch.specs.declared.form.Form.{Form}
use Rattle.watch.specs.declared.form.Form.TheVariants as form
use Rattle.watch.specs.declared.piece.Piece.{Piece}
use Rattle.watch.specs.declared.piece.Piece.TheVariants as piece
use Rattle.vt_base.specs.declared.errno.Errno.{Errno}
use Rattle.vt_base.specs.declared.errno.Errno.TheVariants as errno
use Rattle.vt_journal.specs.Callers.{caller_word}

-- a caller as a journal of version 2 has it
abbrev pub caller_text : ℕ → List ℕ
caller_text caller = caller_word 2 caller

-- of two texts, the one of the form
abbrev pub by_form : Form → List ℕ → List ℕ → List ℕ
by_form form.Lines in_lines in_json = in_lines
by_form form.Json in_lines in_json = in_json

-- a list, from its elements with a separator of one byte before each: without the first separator; and a text for none
abbrev pub list_text : Form → List ℕ → List ℕ
list_text f [] = by_form f (codes " none") []
list_text f (separator ∷ list) = list

abbrev pub piece_text : Form → Piece → List ℕ
piece_text f (piece.Text bytes) = bytes.now
piece_text f (piece.ByForm in_lines in_json) = by_form f in_lines.now in_json.now
piece_text f (piece.List elements) = list_text f elements.now
piece_text f (piece.Caller caller) = caller_text caller
piece_text f (piece.Console console) = decimal console
piece_text f (piece.Signal signal) = decimal signal
piece_text f (piece.Number n) = decimal n

-- texts, one after another
abbrev pub joined : List (List ℕ) → List ℕ
joined [] = []
joined (text ∷ texts) = text ++ joined texts

-- the names of errors (errno(3))
abbrev pub error_name : Errno → List ℕ
error_name errno.Srch = codes "ESRCH"
error_name errno.Intr = codes "EINTR"
error_name errno.Nxio = codes "ENXIO"
error_name errno.Badf = codes "EBADF"
error_name errno.Again = codes "EAGAIN"
error_name errno.Busy = codes "EBUSY"
error_name errno.Inval = codes "EINVAL"
error_name errno.Notty = codes "ENOTTY"
error_name errno.Perm = codes "EPERM"
