mod Edited
mod Entered
mod HandleParts
