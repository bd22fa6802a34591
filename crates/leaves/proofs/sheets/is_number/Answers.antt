use Rattle.std.proofs.Common.{◌+◌, ◌/◌, ◌%◌, [], ◌∷◌}
use Rattle.leaves.proofs.Scan.{same_is}
use Rattle.leaves.proofs.Drawings.{one-digit, both-digits}
use Rattle.leaves.proofs.sheets.is_number.Goals as goal

pub returns-then-tens-eq48 : goal.returns-then-tens-eq48
returns-then-tens-eq48 c =
    let n = c.args.n in
    rw (c.eq.ensures, c.as_slice.ensures, one-digit n c.if-tens-eq48.true) (same_is c.args.s.now ((48 + n % 10) ∷ []))

pub returns : goal.returns
returns c =
    let n = c.args.n in
    rw (c.eq-2.ensures, c.as_slice-2.ensures, both-digits n c.if-tens-eq48.false) (same_is c.args.s.now ((48 + n / 10 % 10) ∷ (48 + n % 10) ∷ []))
