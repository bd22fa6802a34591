use Rattle.account.proofs.FileCounts.{header_cast}
use Rattle.drawing.proofs.file_format.set_tally.Goals as goal

pub overflow_cast-tally : goal.overflow_cast-tally
overflow_cast-tally c = header_cast c.args.header.now c.requires.0 14

pub overflow_cast-tally-2 : goal.overflow_cast-tally-2
overflow_cast-tally-2 c = header_cast c.args.header.now c.requires.0 15

pub overflow_cast-tally-3 : goal.overflow_cast-tally-3
overflow_cast-tally-3 c = header_cast c.args.header.now c.requires.0 13
