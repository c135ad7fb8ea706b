use Rattle.std.proofs.Common.{◌+◌, length, ap, ◌∙◌, arith}
use Rattle.std.proofs.lemmas.List.{drop_all, drop_more}
use Rattle.vt_events.specs.Waits.{is_wait}
use Rattle.session_text.specs.Walks.{Place}
use Rattle.session_text.proofs.Walks.{scan_exit_moves, scan_moves}
use Rattle.session_text.proofs.walk.Walk.took_scan.Goals as goal

pub returns-then-as_slice-self : goal.returns-then-as_slice-self
returns-then-as_slice-self c =
    let item = ap (λ (w : Place). w.item) c.self.view_is in
    let len = ap length c.as_slice.ensures in
    scan_exit_moves c.args.bytes.now c.args.self.now _ c.args.r.now
    (drop_all c.args.self.now.item c.args.bytes.now.bytes (omega (arith, item, len)))
    c.answered.ensures

pub returns : goal.returns
returns c =
    let item = ap (λ (w : Place). w.item) c.self.view_is in
    let len = ap length c.as_slice.ensures in
    scan_moves c.args.bytes.now c.args.self.now _ c.args.r.now _
    (drop_more c.args.bytes.now.bytes c.args.self.now.item 0 (omega (arith, item, len)))
    (c.answered-2.ensures
    ∙ (λ i. record (c.self.view_is i) {
      item = (c.self.view_is i).item + 1;
      waiting = is_wait c.args.r.now;
      over = c.is_gone.ensures i;
    }))
