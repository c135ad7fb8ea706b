use Rattle.std.proofs.Common.{◌≡◌, ◌≤◌, ℕ, List, [], ◌∷◌, ◌++◌, length, sym, ap, ◌∙◌, subst, arith}
use Rattle.std.proofs.lemmas.Bool.{OnTrue_at}
use Rattle.cooked.proofs.FreshLaws.{fresh_full}
use Rattle.cooked.proofs.KindLaws.{erase_canonical}
use Rattle.cooked.proofs.StandLaws.{erase_stands, fresh_later, with_line}
use Rattle.vt_chars.proofs.Stated.{ascii_cuts}
use Rattle.cooked.proofs.cooked_line.Cooked.erase.Goals as goal
use Rattle.cooked.specs.Cooked.{Stands, Typing, make_typing}
use Rattle.cooked.specs.Fresh.{fresh}
use Rattle.cooked.specs.KeptText.{but_last}
use Rattle.cooked.specs.Kinds.{ends_line, kind}
use Rattle.cooked.specs.declared.kind.Kind.TheVariants.{Erase}
use Rattle.cooked.specs.declared.termios.Termios.{Termios}

pub returns-then-is_full-clause-state : goal.returns-then-is_full-clause-state
returns-then-is_full-clause-state c =
    let t : Termios = c.self.inside.termios in
    let f : List ℕ = c.self.inside.fresh.bytes in
    let is : kind t c.args.b ≡ Erase = ap (λ (v : Typing). kind v.termios c.args.b) c.self.view_is ∙ c.requires.kind in
    let full : 4095 ≤ length f = OnTrue_at c.if-is_full.true c.is_full.ensures.full in
    let same : fresh t (f ++ c.args.b ∷ []) ≡ f =
    fresh_full t f c.args.b (erase_canonical t c.args.b is) c.self.invariant.stays (ap ends_line is) full in
    ap (make_typing t f) c.truncate.ensures.bytes
    ∙ ap (λ g. make_typing t g []) (sym same)
    ∙ ap (λ (v : Typing). make_typing v.termios (fresh v.termios (v.fresh ++ c.args.b ∷ [])) []) c.self.view_is

pub invariant_of-self-2 : goal.invariant_of-self-2
invariant_of-self-2 c =
    let t : Termios = c.self.inside.termios in
    let is : kind t c.args.b ≡ Erase = ap (λ (v : Typing). kind v.termios c.args.b) c.self.view_is ∙ c.requires.kind in
    let erased : Stands t c.push.new.self (but_last c.self.inside.kept) c.self.inside.line =
    erase_stands t c.self.inside.fresh c.push.new.self c.self.inside.kept c.self.inside.line c.args.b
    c.self.invariant (erase_canonical t c.args.b is) (ap ends_line is) c.push.ensures.bytes c.push.ensures.room
    ascii_cuts is in
    subst (λ held. Stands t c.push.new.self held c.truncate.new.self) (sym c.drop_last.ensures)
    (with_line t c.push.new.self (but_last c.self.inside.kept) c.self.inside.line c.truncate.new.self erased
    (omega (arith, c.truncate.ensures.room, c.self.invariant.line_room)))

pub returns-clause-state : goal.returns-clause-state
returns-clause-state c =
    let t : Termios = c.self.inside.termios in
    let f : List ℕ = c.self.inside.fresh.bytes in
    let is : kind t c.args.b ≡ Erase = ap (λ (v : Typing). kind v.termios c.args.b) c.self.view_is ∙ c.requires.kind in
    let later : fresh t (f ++ c.args.b ∷ []) ≡ f ++ c.args.b ∷ [] =
    fresh_later t c.self.inside.fresh c.push.new.self c.self.inside.kept c.self.inside.line c.args.b
    c.self.invariant (erase_canonical t c.args.b is) (ap ends_line is) c.push.ensures.bytes c.push.ensures.room in
    ap (make_typing t c.push.new.self.bytes) c.truncate.ensures.bytes
    ∙ ap (λ g. make_typing t g []) (c.push.ensures.bytes ∙ sym later)
    ∙ ap (λ (v : Typing). make_typing v.termios (fresh v.termios (v.fresh ++ c.args.b ∷ [])) []) c.self.view_is
