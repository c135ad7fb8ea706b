use Rattle.std.proofs.Common.{◌≡◌, ◌<◌, ◌≤◌, ◌+◌, ℕ, List, [], ◌∷◌, ◌++◌, get_or, length, take, refl, sym, ap, subst, ◌∙◌, arith}
use Rattle.std.specs.Prelude.{count_by}
use Rattle.std.proofs.lemmas.List.{length-take, take_all, take_more}
use Rattle.vt_check.specs.Watching.{IsNextEntry}
use Rattle.vt_events.specs.declared.entry.Entry.{Entry}
use Rattle.vt_explain.proofs.Certified.{certificate_is, found_is}
use Rattle.vt_explain.specs.Certificates.{IsCertificate}
use Rattle.vt_explain.specs.Finding.{HasRead, Known, is_at, known_after}
use Rattle.vt_explain.specs.declared.hop_why.HopWhy.{HopWhy}
use Rattle.vt_switch.proofs.Stated.{acts_tell_one_thing-hop, acts_tell_one_thing-news}
use Rattle.vt_switch.specs.Moments.{Moment}
use Rattle.vt_world.proofs.Histories.{replay_grows}
use Rattle.vt_world.specs.History.{replay}
use Rattle.vt_world.specs.Laws.{moments}
use Rattle.vt_world.specs.State.{WorldState}
use Rattle.vt_world.specs.Step.{Outcome, step}
use Rattle.vt_explain.proofs.certifying.certificate.Goals as goal

-- the entries so far, and the next one
more : (entries : List Entry) (i : ℕ) (entry : Entry) → i < length entries → entry ≡ get_or entries i entry
    → take i entries ++ entry ∷ [] ≡ take (i + 1) entries
more entries i entry within is =
    ap (λ (e : Entry). take i entries ++ e ∷ []) is ∙ sym (take_more entries i entry within)

next : (start w v : WorldState) (entries : List Entry) (i : ℕ) (entry : Entry) (o : Outcome)
    → i < length entries → w ≡ replay start (take i entries) → step w entry.caller entry.event ≡ o → o.world ≡ v
    → IsNextEntry start (take i entries) i entry v
next start w v entries i entry o within replayed stepped left = record {
  place_is = omega (arith, within, length-take i entries);
  after_is =
      sym left
      ∙ ap (λ (x : Outcome). x.world) (sym stepped)
      ∙ ap (λ (x : WorldState). (step x entry.caller entry.event).world) replayed;
}

found : (start : WorldState) (entries : List Entry) (i : ℕ) (items : List HopWhy) (k : Known) → length entries ≤ i
    → items ≡ k.items → HasRead start (take i entries) k → items ≡ (known_after (moments start entries)).items
found start entries i items k over are read =
    are
    ∙ ap (λ (x : Known). x.items) read.known_is
    ∙ ap (λ (es : List Entry). (known_after (moments start es)).items) (take_all i entries over)

pub loop-i-init : goal.loop-i-init
loop-i-init c = record {
  read = record {
    known_is = c.new-reader.ensures;
    fresh = λ j above. ap (λ (k : Known). count_by (is_at j) k.items) c.new-reader.ensures;
  };
  world = refl;
}

pub see-requires : goal.see-requires
see-requires c = record {
  first = c.loop-i.reader;
  start = c.args.start;
  before = take c.loop-i.i c.args.entries.now;
  seen = c.loop-i.invariant.read;
  next =
      next c.args.start c.loop-i.world c.call.new.self c.args.entries.now c.loop-i.i c.index-entries-i.result _
      c.loop-i-test.true c.loop-i.invariant.world c.in_ok-_reply.ensures.ok refl;
}

pub loop-i-preserved : goal.loop-i-preserved
loop-i-preserved c =
    let entry : Entry = c.index-entries-i.result in
    let front : List Entry = take c.loop-i.i c.args.entries.now in
    let is : IsNextEntry c.args.start front c.loop-i.i entry c.call.new.self =
    next c.args.start c.loop-i.world c.call.new.self c.args.entries.now c.loop-i.i entry _
    c.loop-i-test.true c.loop-i.invariant.world c.in_ok-_reply.ensures.ok refl in
    let longer : front ++ entry ∷ [] ≡ take (c.loop-i.i + 1) c.args.entries.now =
    more c.args.entries.now c.loop-i.i entry c.loop-i-test.true c.index-entries-i.is in
    record {
      read =
          subst (λ (es : List Entry). HasRead c.args.start es c.see.new.self) longer
          (c.in_ok-see.ensures.seen c.loop-i.reader c.args.start front c.loop-i.invariant.read is);
      world =
          is.after_is
          ∙ sym (replay_grows c.args.start front entry)
          ∙ ap (replay c.args.start) longer;
    }

pub returns-clause-cert : goal.returns-clause-cert
returns-clause-cert c =
    let history : List Moment = moments c.args.start c.args.entries.now in
    subst (IsCertificate history)
    (sym (found c.args.start c.args.entries.now c.loop-i.i c.into_items.result.items c.loop-i.reader c.loop-i-test.false
    c.into_items.ensures c.loop-i.invariant.read))
    (found_is acts_tell_one_thing-news acts_tell_one_thing-hop history
    (c.displays_are_lawful_from.ensures c.requires.quiet c.args.entries.now))

pub returns-clause-only : goal.returns-clause-only
returns-clause-only c = λ other is.
    certificate_is acts_tell_one_thing-news (moments c.args.start c.args.entries.now) other is
    ∙ sym (found c.args.start c.args.entries.now c.loop-i.i c.into_items.result.items c.loop-i.reader c.loop-i-test.false
    c.into_items.ensures c.loop-i.invariant.read)
