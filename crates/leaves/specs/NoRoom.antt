-- The error of every writer: there was no room.
use Rattle.leaves.specs.declared.NoRoom.{NoRoom}

abbrev pub no_room : NoRoom
no_room = record {}
