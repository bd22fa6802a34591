use Rattle.account.proofs.FileCounts.{header_cast}
use Rattle.drawing.proofs.file_format.close_file.Goals as goal

pub overflow_cast-name : goal.overflow_cast-name
overflow_cast-name c = header_cast c.args.header.now c.requires.0 66

pub overflow_cast-name-2 : goal.overflow_cast-name-2
overflow_cast-name-2 c = header_cast c.args.header.now c.requires.0 67
