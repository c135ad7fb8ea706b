use Rattle.std.proofs.Common.{◌++◌, ◌∙◌, List, ap, map, arith}
use Rattle.std.proofs.lemmas.List.{take_all}
use Rattle.std.specs.List.{flat_map}
use Rattle.key_syms.specs.declared.pair.Pair.{Pair}
use Rattle.key_dump.specs.Dump.{pair_words, row_text}
use Rattle.key_dump.proofs.Adding.{mapped_more}
use Rattle.key_dump.proofs.dumping.add_pairs.Goals as goal

pub loop-i-preserved : goal.loop-i-preserved
loop-i-preserved c =
    mapped_more row_text pair_words c.args.pairs.now c.loop-i.i _ c.args.text.now.bytes c.loop-i.text.bytes c.add_pair.new.text.bytes c.loop-i-test.true
    c.in_ok-add_pair.ensures c.loop-i.invariant

pub returns : goal.returns
returns c =
    c.loop-i.invariant
    ∙ ap (λ (ps : List Pair). c.args.text.now.bytes ++ flat_map row_text (map pair_words ps)) (take_all c.loop-i.i c.args.pairs.now (omega arith))
