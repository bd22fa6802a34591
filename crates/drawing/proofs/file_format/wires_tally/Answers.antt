use Rattle.account.proofs.FileCounts.{header_cast}
use Rattle.drawing.proofs.file_format.wires_tally.Goals as goal

pub overflow_cast-tally : goal.overflow_cast-tally
overflow_cast-tally c = header_cast c.args.header.now c.requires.0 70
