use Rattle.std.proofs.Common.{arith}
use Rattle.session_text.proofs.ItemWords.{say_words}
use Rattle.session_text.proofs.item_texts.read_say.Goals as goal

pub returns-clause-found : goal.returns-clause-found
returns-clause-found c =
    say_words c.args.words.now _ c.in_ok-fd.fd c.in-say.len_at_least c.in-say.is-say
    c.in_ok-fd.ensures.found (omega arith)
