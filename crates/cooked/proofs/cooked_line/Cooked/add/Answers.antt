use Rattle.std.proofs.Common.{◌≡◌, ◌≤◌, ℕ, ◌&&◌, Bool, true, List, [], ◌∷◌, ◌++◌, length, sym, ap, ◌∙◌, subst}
use Rattle.std.proofs.lemmas.Bool.{OnTrue_at, and_parts}
use Rattle.vt_chars.proofs.Stated.{ascii_cuts, byte_more}
use Rattle.vt_chars.specs.Characters.{is_part}
use Rattle.cooked.proofs.FreshLaws.{fresh_full}
use Rattle.cooked.proofs.StandLaws.{fresh_later, part_few, put_stands}
use Rattle.cooked.proofs.cooked_line.Cooked.add.Goals as goal
use Rattle.cooked.specs.Cooked.{Stands, Typing, ends_open, make_typing}
use Rattle.cooked.specs.Fresh.{fresh}
use Rattle.cooked.specs.KeptText.{kept_characters, last_of}
use Rattle.cooked.specs.Kinds.{ends_line, kind}
use Rattle.cooked.specs.declared.kind.Kind.TheVariants.{Data}
use Rattle.cooked.specs.declared.termios.Termios.{Termios}

-- a byte goes on with the kept characters
abbrev goes_on : ℕ → Typing → Bool
goes_on b v = ends_open v.termios.erase v.fresh && is_part (last_of (kept_characters v.termios v.fresh) ++ b ∷ [])

pub returns-then-is_full : goal.returns-then-is_full
returns-then-is_full c =
    let t : Termios = c.self.inside.termios in
    let f : List ℕ = c.self.inside.fresh.bytes in
    let is : kind t c.args.b ≡ Data = ap (λ (v : Typing). kind v.termios c.args.b) c.self.view_is ∙ c.requires.kind in
    let lines : t.icanon ≡ true = ap (λ (v : Typing). v.termios.icanon) c.self.view_is ∙ c.requires.canonical in
    let full : 4095 ≤ length f =
    subst (λ (v : Typing). 4095 ≤ length v.fresh) (sym c.self.view_is) (OnTrue_at c.if-is_full.true c.is_full.ensures.full) in
    let same : fresh t (f ++ c.args.b ∷ []) ≡ f =
    fresh_full t f c.args.b lines c.self.invariant.stays (ap ends_line is) full in
    sym c.self.view_is
    ∙ ap (λ g. make_typing t g c.self.inside.line.bytes) (sym same)
    ∙ ap (λ (v : Typing). make_typing v.termios (fresh v.termios (v.fresh ++ c.args.b ∷ [])) v.line) c.self.view_is

pub put-requires-clause-few : goal.put-requires-clause-few
put-requires-clause-few c joins =
    let test : goes_on c.args.b (make_typing c.self.inside.termios c.self.inside.fresh.bytes c.self.inside.line.bytes) ≡ true =
    ap (goes_on c.args.b) c.self.view_is ∙ sym c.goes_on-joins.ensures ∙ joins in
    part_few (last_of c.self.inside.kept) c.args.b
    (ap (λ cs. is_part (last_of cs ++ c.args.b ∷ [])) c.self.invariant.held_are ∙ (and_parts _ _ test).1)

pub invariant_of-self : goal.invariant_of-self
invariant_of-self c =
    let t : Termios = c.self.inside.termios in
    let is : kind t c.args.b ≡ Data = ap (λ (v : Typing). kind v.termios c.args.b) c.self.view_is ∙ c.requires.kind in
    let lines : t.icanon ≡ true = ap (λ (v : Typing). v.termios.icanon) c.self.view_is ∙ c.requires.canonical in
    subst (λ held. Stands t c.push.new.self held c.self.inside.line) (sym c.put.ensures)
    (put_stands t c.self.inside.fresh c.push.new.self c.self.inside.kept c.self.inside.line c.args.b
    c.self.invariant lines (ap ends_line is) c.push.ensures.bytes c.push.ensures.room
    byte_more ascii_cuts is c.goes_on-joins.result
    (c.goes_on-joins.ensures ∙ ap (goes_on c.args.b) (sym c.self.view_is)))

pub returns : goal.returns
returns c =
    let t : Termios = c.self.inside.termios in
    let f : List ℕ = c.self.inside.fresh.bytes in
    let is : kind t c.args.b ≡ Data = ap (λ (v : Typing). kind v.termios c.args.b) c.self.view_is ∙ c.requires.kind in
    let lines : t.icanon ≡ true = ap (λ (v : Typing). v.termios.icanon) c.self.view_is ∙ c.requires.canonical in
    let later : fresh t (f ++ c.args.b ∷ []) ≡ f ++ c.args.b ∷ [] =
    fresh_later t c.self.inside.fresh c.push.new.self c.self.inside.kept c.self.inside.line c.args.b
    c.self.invariant lines (ap ends_line is) c.push.ensures.bytes c.push.ensures.room in
    ap (λ g. make_typing t g c.self.inside.line.bytes) (c.push.ensures.bytes ∙ sym later)
    ∙ ap (λ (v : Typing). make_typing v.termios (fresh v.termios (v.fresh ++ c.args.b ∷ [])) v.line) c.self.view_is
