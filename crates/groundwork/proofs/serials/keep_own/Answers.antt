use Rattle.groundwork.proofs.Raised.{own-goes}
use Rattle.groundwork.proofs.serials.keep_own.Goals as goal

pub returns : goal.returns
returns c =
    let told = c.in-Err.ensures in
    own-goes c.args.here c.args.own c.args.at c.args.tally.now c.args.serials.now told.2 _ _ _ told.1 c.kept_number.ensures c.requires.1 c.copy_within.ensures.after
