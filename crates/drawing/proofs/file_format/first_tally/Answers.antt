use Rattle.account.proofs.FileCounts.{header_cast}
use Rattle.drawing.proofs.file_format.first_tally.Goals as goal

pub overflow_cast-header : goal.overflow_cast-header
overflow_cast-header c = header_cast c.args.header.now c.requires.0 38
