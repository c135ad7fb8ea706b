use Rattle.scan_codes.proofs.Reading.{none_exactly}
use Rattle.scan_codes.proofs.scanner.Scanner.push.Goals as goal

pub returns-clause-none : goal.returns-clause-none
returns-clause-none c =
    rw (← c.self.view_is) (rw c.step-event.ensures.event (none_exactly c.self.inside.codes c.self.inside.kept c.args.b))
