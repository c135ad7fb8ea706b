use Rattle.std.proofs.Common.{◌≡◌, ℕ, ◌+◌, List, [], length, map, Some, None, arith, refl, sym, ap, ◌∙◌, subst}
use Rattle.std.proofs.lemmas.Option.{none-some}
use Rattle.std.specs.Prelude.{slice_get}
use Rattle.vt_explore.proofs.Finding.{first_more, tried_more}
use Rattle.vt_explore.proofs.Holding.{found_none, found_some}
use Rattle.vt_explore.proofs.Likes.{alike_same}
use Rattle.vt_explore.proofs.Nevers.{get_first, get_past, like_longer, never_from}
use Rattle.vt_explore.proofs.Sorted.{sorted_more, sorted_start}
use Rattle.vt_explore.specs.Alike.{HasLike}
use Rattle.vt_explore.specs.Findings.{IsTried}
use Rattle.vt_explore.specs.Questions.{Wants}
use Rattle.vt_explore.specs.Searches.{AreSorted, HasCount, IfAll}
use Rattle.vt_explore.specs.declared.findings.Finding.{Finding}
use Rattle.session_order.specs.Ends.{Setup}
use Rattle.session_order.specs.Orders.{history_of}
use Rattle.session_order.specs.Sessions.{setup_of}
use Rattle.vt_explore.proofs.exploring.go_through.Goals as goal

pub loop-next-init : goal.loop-next-init
loop-next-init g c =
    let o : Setup = setup_of c.args.s.now in
    record {
      pool = c.requires.pool;
      start = subst (λ known. HasLike o known []) (sym c.requires.search)
          (record { place = 0; order = []; at = refl; alike = alike_same o [] [] refl; few = omega arith });
      tried = λ i wants at none k order p low. absurd (let no : ⊥ = omega (arith, low) in no);
      sorted = λ last at. subst (λ known. AreSorted o known (length (history_of o last) + 1)) (sym c.requires.search)
          (sorted_start o last (subst (λ known. slice_get known 0 ≡ Some last) c.requires.search at));
      first = λ k f at. absurd (none-some f (subst (λ all. slice_get all k ≡ Some f) c.requires.findings at));
      few = omega (arith, ap length c.requires.search, c.if-limit-eq0.false);
    }

pub loop-next-preserved : goal.loop-next-preserved
loop-next-preserved g c =
    let all : List Wants = map g.Q.Question.wants c.args.questions.now in
    let o : Setup = setup_of c.args.s.now in
    let a : List (List ℕ) = c.loop-next.search in
    let b : List (List ℕ) = c.expand.new.self in
    let old : List Finding = c.loop-next.findings in
    let new : List Finding = c.expand.new.findings in
    let last : List ℕ = c.in_ok-base.base.order in
    let n : ℕ = c.loop-next.next in
    let here : slice_get a n ≡ Some last =
    found_some (λ order. order.now) c.at.result _ c.in-Some.order c.at.ensures c.in-Some.is
    ∙ ap Some (sym c.in_ok-base.ensures.order) in
    let known : (p : ℕ) → IsTried all new o b (history_of o last) p =
    subst (λ t. IfAll t ((p : ℕ) → IsTried all new o b (history_of o last) p)) c.in-All.is c.in_ok-opened.ensures.known in
    record {
      pool = c.in_ok-give.ensures;
      start = like_longer o a b [] c.in_ok-opened.ensures.grows c.loop-next.invariant.start;
      tried =
          tried_more all o a b n last old new c.in_ok-opened.ensures.grows c.in_ok-opened.ensures.found
          c.loop-next.invariant.tried here known;
      sorted = λ next at.
          let there : slice_get b n ≡ Some last =
          subst (λ known. slice_get known n ≡ Some last) (sym c.in_ok-opened.ensures.grows.is)
          (get_first a c.in_ok-opened.ensures.grows.more n last here) in
          let rises = c.in_ok-opened.ensures.sorted.rises n (n + 1) last next (omega arith) there at in
          sorted_more o b (length (history_of o last) + 1) (length (history_of o next) + 1) (omega (arith, rises))
          c.in_ok-opened.ensures.sorted;
      first =
          first_more all o a n (length (history_of o last) + 1) last old new c.loop-next.invariant.start c.loop-next.invariant.tried
          (c.loop-next.invariant.sorted last here) here c.in_ok-opened.ensures.found c.loop-next.invariant.first;
      few = subst (λ t. HasCount t c.args.limit (length b)) c.in-All.is c.in_ok-opened.ensures.count;
    }

pub returns-in_default-clause-none : goal.returns-in_default-clause-none
returns-in_default-clause-none g c = λ i wants at none.
    never_from wants (setup_of c.args.s.now) c.loop-next.search c.loop-next.next c.loop-next.invariant.start
    (c.loop-next.invariant.tried i wants at none) (found_none (λ order. order.now) c.at.result _ c.at.ensures c.in_default.is)

pub returns-in-Long-clause-first : goal.returns-in-Long-clause-first
returns-in-Long-clause-first g c =
    let all : List Wants = map g.Q.Question.wants c.args.questions.now in
    let o : Setup = setup_of c.args.s.now in
    let last : List ℕ = c.in_ok-base.base.order in
    let n : ℕ = c.loop-next.next in
    let here : slice_get c.loop-next.search n ≡ Some last =
    found_some (λ order. order.now) c.at.result _ c.in-Some.order c.at.ensures c.in-Some.is
    ∙ ap Some (sym c.in_ok-base.ensures.order) in
    first_more all o c.loop-next.search n (length (history_of o last) + 1) last c.loop-next.findings c.expand.new.findings
    c.loop-next.invariant.start c.loop-next.invariant.tried (c.loop-next.invariant.sorted last here) here c.in_ok-opened.ensures.found
    c.loop-next.invariant.first

pub returns-then-have_all-clause-first : goal.returns-then-have_all-clause-first
returns-then-have_all-clause-first g c =
    let all : List Wants = map g.Q.Question.wants c.args.questions.now in
    let o : Setup = setup_of c.args.s.now in
    let last : List ℕ = c.in_ok-base.base.order in
    let n : ℕ = c.loop-next.next in
    let here : slice_get c.loop-next.search n ≡ Some last =
    found_some (λ order. order.now) c.at.result _ c.in-Some.order c.at.ensures c.in-Some.is
    ∙ ap Some (sym c.in_ok-base.ensures.order) in
    first_more all o c.loop-next.search n (length (history_of o last) + 1) last c.loop-next.findings c.expand.new.findings
    c.loop-next.invariant.start c.loop-next.invariant.tried (c.loop-next.invariant.sorted last here) here c.in_ok-opened.ensures.found
    c.loop-next.invariant.first

pub returns-clause-none : goal.returns-clause-none
returns-clause-none g c = λ i wants at none.
    let past : slice_get c.loop-next.search c.args.limit ≡ None =
    get_past c.loop-next.search c.args.limit c.loop-next.invariant.few in
    never_from wants (setup_of c.args.s.now) c.loop-next.search c.args.limit c.loop-next.invariant.start
    (λ k order p low is.
    c.loop-next.invariant.tried i wants at none k order p (omega (arith, low, c.loop-next-test.false)) is)
    past

pub returns-in-Many-clause-first : goal.returns-in-Many-clause-first
returns-in-Many-clause-first g c =
    let all : List Wants = map g.Q.Question.wants c.args.questions.now in
    let o : Setup = setup_of c.args.s.now in
    let last : List ℕ = c.in_ok-base.base.order in
    let n : ℕ = c.loop-next.next in
    let here : slice_get c.loop-next.search n ≡ Some last =
    found_some (λ order. order.now) c.at.result _ c.in-Some.order c.at.ensures c.in-Some.is
    ∙ ap Some (sym c.in_ok-base.ensures.order) in
    first_more all o c.loop-next.search n (length (history_of o last) + 1) last c.loop-next.findings c.expand.new.findings
    c.loop-next.invariant.start c.loop-next.invariant.tried (c.loop-next.invariant.sorted last here) here c.in_ok-opened.ensures.found
    c.loop-next.invariant.first

pub expand-requires-clause-full : goal.expand-requires-clause-full
expand-requires-clause-full g c =
    let last : List ℕ = c.in_ok-base.base.order in
    let n : ℕ = c.loop-next.next in
    let here : slice_get c.loop-next.search n ≡ Some last =
    found_some (λ order. order.now) c.at.result _ c.in-Some.order c.at.ensures c.in-Some.is
    ∙ ap Some (sym c.in_ok-base.ensures.order) in
    (c.loop-next.invariant.sorted last here).full n last here
