use Rattle.std.proofs.Common.{ℕ, List, subst, sym}
use Rattle.key_dump.proofs.for_laws.ReadsBack.{dump_reads_back}
use Rattle.key_dump.specs.ReadsBack.{ReadsAs}
use Rattle.key_dump.proofs.Rows.{dump_text}
use Rattle.key_syms.proofs.Stated.{names_are_their_own-code_points, names_are_their_own-names}
use Rattle.key_dump.proofs.dumping.dump.Goals as goal

pub returns-clause-text : goal.returns-clause-text
returns-clause-text c =
    dump_text c.args.tables.now _ _ _ _ _ _ c.new-text.ensures.bytes c.pairs.ensures.pairs c.in_ok-add_keymaps.ensures c.in_ok-add_tables.ensures c.in_ok-add_strings.ensures c.in_ok-add_pairs.ensures

pub returns-clause-back : goal.returns-clause-back
returns-clause-back c =
    subst (λ (bytes : List ℕ). ReadsAs bytes c.args.tables.now) (sym (returns-clause-text c))
    (dump_reads_back names_are_their_own-names names_are_their_own-code_points c.args.tables.now c.stays_whole.ensures
    c.requires)
