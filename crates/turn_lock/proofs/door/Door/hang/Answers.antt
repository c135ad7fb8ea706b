use Rattle.turn_lock.proofs.Doors.{opens}
use Rattle.turn_lock.proofs.door.Door.hang.Goals as goal

pub of_words-requires : goal.of_words-requires
of_words-requires c = opens
