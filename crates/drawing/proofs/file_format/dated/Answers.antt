use Rattle.account.proofs.FileCounts.{header_cast}
use Rattle.drawing.proofs.file_format.dated.Goals as goal

pub overflow_cast-header : goal.overflow_cast-header
overflow_cast-header c = header_cast c.args.header.now c.requires.0 68

pub overflow_cast-result : goal.overflow_cast-result
overflow_cast-result c = header_cast c.args.header.now c.requires.0 69
