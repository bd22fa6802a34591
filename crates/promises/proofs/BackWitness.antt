-- The wire and its fixed form, computed.
use mathlib.Core.Path.{refl}
use Rattle.rules.specs.Answers.{read_answer, read_records, rewrite_outcome, written}
use Rattle.promises.specs.BackWitnesses.{as_read, as_written, BackWitnesses}

pub back-witnesses : BackWitnesses
unfolding as_read as_written read_answer read_records rewrite_outcome written
back-witnesses = record {
  taken = refl;
  fixed = refl;
  taken_again = refl;
  fixed_again = refl;
  shown = refl;
  shown_again = refl;
  texts = refl;
  texts_again = refl;
}
