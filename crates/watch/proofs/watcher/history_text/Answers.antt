use Rattle.watch.proofs.Histories.{replay_more, sights_more, whole_text}
use Rattle.watch.proofs.watcher.history_text.Goals as goal

pub loop-i-preserved : goal.loop-i-preserved
loop-i-preserved c = record {
  text =
      rw (c.in_ok-follow.ensures.since, c.in_ok-follow.ensures.world)
      (sights_more c.args.form c.args.cert.now c.loop-i.i c.loop-i.following.since c.loop-i.following.world
      c.args.entries.now c.index-entries-i.result c.loop-i.text.bytes c.follow.new.text.bytes _ c.loop-i-test.true
      c.index-entries-i.is c.in_ok-follow.ensures.text c.loop-i.invariant.text);
  world =
      rw c.in_ok-follow.ensures.world
      (replay_more c.loop-i.i c.loop-i.following.world c.args.entries.now c.index-entries-i.result _
      c.loop-i-test.true c.index-entries-i.is c.loop-i.invariant.world);
}

pub returns : goal.returns
returns c =
    whole_text c.args.form c.args.cert.now c.args.world c.args.entries.now c.loop-i.i c.loop-i.following.since
    c.loop-i.following.world c.loop-i.text.bytes c.add_end_text.new.text.bytes c.loop-i-test.false
    c.loop-i.invariant.text c.loop-i.invariant.world c.in_ok-add_end_text.ensures
