use mathlib.Core.Path.{refl}
use Rattle.elements.proofs.KeyedLines.{opens-line, equals-line}
use Rattle.elements.proofs.placed.on_placed_own.Goals as goal
use Rattle.elements.proofs.placed.on_placed_own.Goals.{in-Opens, in-Equals}

pub returns-in-Ignored : goal.returns-in-Ignored
returns-in-Ignored c = rw c.in-Ignored.is (refl, refl, refl)

pub returns-in-Close : goal.returns-in-Close
returns-in-Close c = rw c.in-Close.is (c.close_placed.ensures, refl)

pub returns-in-Eof : goal.returns-in-Eof
returns-in-Eof c = rw c.in-Eof.is refl

pub returns-in-Refused : goal.returns-in-Refused
returns-in-Refused c = rw c.in-Refused.is refl

pub returns : goal.returns
returns c = elim c.match-form.branch [ in-Opens w ↦ opens-line _ _ _ _ _ _ _ _ _ _ _ _ _ c.key_of.ensures c.rest_of.ensures c.on_key.ensures _ w.in-Opens.is | in-Equals w ↦ equals-line _ _ _ _ _ _ _ _ _ _ _ _ _ c.key_of.ensures c.rest_of.ensures c.on_key.ensures _ w.in-Equals.is ]
