-- Demand 2 is not empty where wires have attributes: a wire whose attributes stand in another order than that of the fixed form, with needless
-- zeros, with an empty partner, a key that repeats with other keys between, and two texts; and its fixed form, line by line.
use Rattle.std.specs.Prelude.{ℕ, ◌*◌, List, [], ◌∷◌, ◌++◌, ◌≡◌, take, drop, Ok}
use Prim.Native.String as S
use Rattle.rules.specs.Base.{bytes}
use Rattle.rules.specs.LineByLine.{Outcome, refused, accepted}
use Rattle.rules.specs.RecordTable.{width}
use Rattle.rules.specs.Answers.{read_answer, read_records, full_number, full_wire, rewrite_outcome, written}
use Rattle.promises.specs.TableTexts.{texts_of}
use Rattle.promises.specs.TextsKept.{Kept, texts_of_wires}
use Rattle.promises.specs.Witnesses.{one_volume, file_lines, other_lines}

-- a layer with one wire of these lines, in a file of E_wire 418
abbrev pub one_wire : List S.String → List ℕ
one_wire inside =
    one_volume
    (file_lines ("elec=001:{" ∷ "E_sym=000" ∷ "E_wire=418" ∷ "E_cirno=000" ∷ "}" ∷ []) ("all_line=67" ∷ "this_line=67" ∷ "all_ele=1" ∷ "this_ele=1" ∷ [])
    ++ other_lines ("E_001=" ∷ []) ("LAYER=E_001:{" ∷ "E_wire:{" ∷ inside ++ "}" ∷ "}" ∷ []) ++ "EOF" ∷ [])

unfoldable pub as_read : List ℕ
as_read =
    one_wire
    ("line=1307,0,0,10,5" ∷ "serial=0007,,09" ∷ "text:{" ∷ "character=A=B" ∷ "type=1307,1,2,3,4,0.5,90,0" ∷ "}" ∷ "num=1,02,9,10,30" ∷ "power=1,2,0100"
    ∷ "piend=7,8,45" ∷ "circuit=" ∷ "direc=1,2.0,3,90" ∷ "text:{" ∷ "type=1307,5,2,3,4,0.5,90,0" ∷ "character=SECOND" ∷ "}" ∷ "piend=7.50,8,45" ∷ "length=12.50"
    ∷ "direc=4,5,6.5,0" ∷ "num=1,2,11,12,060" ∷ [])

unfoldable pub as_written : List ℕ
as_written =
    one_wire
    ("line=1307,0,0,10,5" ∷ "direc=1,2,3,90" ∷ "direc=4,5,6.5,0" ∷ "piend=7,8,45" ∷ "piend=7.5,8,45" ∷ "num=1,2,9,10,30" ∷ "num=1,2,11,12,60"
    ∷ "text:{" ∷ "type=1307,1,2,3,4,0.5,90,0" ∷ "character=A=B" ∷ "}" ∷ "text:{" ∷ "type=1307,5,2,3,4,0.5,90,0" ∷ "character=SECOND" ∷ "}"
    ∷ "length=12.5" ∷ "circuit=" ∷ "power=1,2,100" ∷ "serial=7,,9" ∷ [])

-- the texts of the wires of the set that was read
abbrev pub wires_of_outcome : Outcome → List Kept
wires_of_outcome (refused n v l) = []
wires_of_outcome (accepted s) = texts_of_wires s

-- those that the wire's two records point at
abbrev pub wire_shown : List ℕ → List Kept
wire_shown spool = texts_of spool (take 2 (drop 4 (read_records full_number full_wire (7 * width) spool)))

pub record BackWitnesses : Type 0 where
  pub taken : read_answer full_number full_wire (7 * width) as_read ≡ Ok 7
  pub fixed : written as_read ≡ as_written
  pub taken_again : read_answer full_number full_wire (7 * width) as_written ≡ Ok 7
  pub fixed_again : written as_written ≡ as_written
  -- the first text and the circuit, which is empty, are shown; both texts are there
  pub shown : wire_shown as_read ≡ [] ∷ (bytes "A=B" ∷ [] ∷ []) ∷ []
  pub shown_again : wire_shown as_written ≡ [] ∷ (bytes "A=B" ∷ [] ∷ []) ∷ []
  pub texts : wires_of_outcome (rewrite_outcome as_read) ≡ (bytes "A=B" ∷ bytes "SECOND" ∷ [] ∷ []) ∷ []
  pub texts_again : wires_of_outcome (rewrite_outcome as_written) ≡ (bytes "A=B" ∷ bytes "SECOND" ∷ [] ∷ []) ∷ []
