-- The small set and what it is answered, computed.
use mathlib.Core.Path.{refl}
use Rattle.rules.specs.Answers.{read_outcome, read_answer, written, rewrite_answer, check_answer, read_records}
use Rattle.promises.specs.Witnesses.{small, cut, wired_of, serials_with, linked_with, circles_of, Witnesses}

pub witnesses : Witnesses
unfolding small cut wired_of serials_with linked_with circles_of read_outcome read_answer read_records written rewrite_answer check_answer
witnesses = record {
  accepted = refl;
  checked = refl;
  full = refl;
  fixed = refl;
  rewritten = refl;
  short = refl;
  no_eof = refl;
  no_byte = refl;
  no_class = refl;
  no_wire_part = refl;
  wires = refl;
  wires_fixed = refl;
  joins = refl;
  apart = refl;
  deep = refl;
  too_deep = refl;
  serials = refl;
  serials_taken = refl;
  serial_twice = refl;
  linked_taken = refl;
  linked_own = refl;
  linked_ends = refl;
  linked_tests = refl;
  linked_fixed = refl;
  linked_twice = refl;
  symbol_alone = refl;
  start_alone = refl;
  end_alone = refl;
  edges = refl;
  turns = refl;
  turns_fixed = refl;
  arc_turns = refl;
}
