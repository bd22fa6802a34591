-- The sets of demand 3's witnesses and what they are answered, computed.
use mathlib.Core.Path.{refl}
use Rattle.rules.specs.Answers.{read_answer, read_records}
use Rattle.promises.specs.LowerWitnesses.{wire418, wire408, three_direcs, twice_wrong, partners_with, LowerWitnesses}

pub lower-witnesses : LowerWitnesses
unfolding wire418 wire408 three_direcs twice_wrong partners_with read_answer read_records
lower-witnesses = record {
  full = refl;
  five = refl;
  two = refl;
  eleven = refl;
  none = refl;
  five_below = refl;
  none_below = refl;
  counts = refl;
  edges = refl;
  too_many = refl;
  before = refl;
  partners = refl;
  found = refl;
  twice = refl;
}
