-- The promises are not empty: a small set, written line by line, that every class accepts, and what it takes for it to be refused.
use Rattle.std.specs.Prelude.{ℕ, ◌*◌, ◌-◌, List, [], ◌∷◌, ◌++◌, map, ◌≡◌, length, take, drop, Bool, true, false, cond, eqb, ℤ, pos, Result, Ok}
use Prim.Native.String as S
use Rattle.rules.specs.Base.{bytes, flat}
use Rattle.rules.specs.Spool.{unlines, volume_bytes}
use Rattle.rules.specs.RecordTable.{width}
use Rattle.rules.specs.Answers.{refusal, read_answer, written, rewrite_answer, check_answer, full_number, full_wire, read_outcome, read_records}
use Rattle.rules.specs.Numbers.{minus}
use Rattle.rules.specs.LineByLine.{Outcome, refused, accepted}
use Rattle.promises.specs.OwnNumbers.{own_numbers}
use Rattle.promises.specs.Partners.{tested, ends_of}
use Rattle.promises.specs.WiresJoined.{element_in}
use Rattle.promises.specs.TableTexts.{number_at}
use Rattle.rules.specs.declared.Refusal.{Refusal}

-- "1 to 5 or 11 to 15"
abbrev pub classes : List ℕ
classes = 1 ∷ 2 ∷ 3 ∷ 4 ∷ 5 ∷ 11 ∷ 12 ∷ 13 ∷ 14 ∷ 15 ∷ []

-- "1 to 8 or 11 to 18, or 0"
abbrev pub wire_parts : List ℕ
wire_parts = 0 ∷ 1 ∷ 2 ∷ 3 ∷ 4 ∷ 5 ∷ 6 ∷ 7 ∷ 8 ∷ 11 ∷ 12 ∷ 13 ∷ 14 ∷ 15 ∷ 16 ∷ 17 ∷ 18 ∷ []

-- "any other is 1": those next to them
abbrev pub no_wire_parts : List ℕ
no_wire_parts = 9 ∷ 10 ∷ 19 ∷ 20 ∷ []

-- something of every class with every wire part
abbrev pub at_each : {A : Type 0} → (ℕ → ℕ → A) → List (List A)
at_each f = map (λ class. map (f class) wire_parts) classes

abbrev pub one_volume : List S.String → List ℕ
one_volume ls = volume_bytes (bytes "SMALL") (unlines (map bytes ls))

-- the lines of a set with no symbol: its ranges but base, its counts, its layers, what ELEMENT holds
abbrev pub file_lines : List S.String → List S.String → List S.String
file_lines ranges counts =
    "FILE_FORMAT:{" ∷ "range:{" ∷ "base=001:{" ∷ "B_sym=000" ∷ "}" ∷ ranges ++ "}" ∷ counts
    ++ "next_file=" ∷ "date=19970401" ∷ "time=120000" ∷ "cad=C" ∷ "os=D" ∷ "hard=P" ∷ "ver=1" ∷ "corp=" ∷ "make=" ∷ "tel=" ∷ "name=" ∷ "}" ∷ []

abbrev pub lines_with : List S.String → List S.String → List S.String → List S.String
lines_with symbols layers inside =
    "DRAWING_FORMAT:{" ∷ "size=A4" ∷ "scale=1" ∷ "project=P" ∷ "drawname=D" ∷ "date=19970401" ∷ "drawer=" ∷ "layer_name:{" ∷ layers ++ "}" ∷ "}"
    ∷ "SYMBOL_DEFINE:{" ∷ symbols ++ "}" ∷ "ELEMENT:{" ∷ inside ++ "}" ∷ []

abbrev pub other_lines : List S.String → List S.String → List S.String
other_lines layers inside = lines_with ("NON=" ∷ []) layers inside

-- no layer, no figure
abbrev pub before_eof : List S.String
before_eof = file_lines [] ("all_line=38" ∷ "this_line=38" ∷ "all_ele=0" ∷ "this_ele=0" ∷ []) ++ other_lines [] []

unfoldable pub small : List ℕ
small = one_volume (before_eof ++ "EOF" ∷ [])

-- the same without its last line, number 38
unfoldable pub cut : List ℕ
cut = one_volume before_eof

-- a layer with one wire of these lines, the first of them number 45, in a file of E_wire 401
unfoldable pub wired_of : List S.String → List ℕ
wired_of inside =
    one_volume
    (file_lines ("elec=001:{" ∷ "E_sym=000" ∷ "E_wire=401" ∷ "E_cirno=000" ∷ "}" ∷ []) ("all_line=51" ∷ "this_line=51" ∷ "all_ele=1" ∷ "this_ele=1" ∷ [])
    ++ other_lines ("E_001=" ∷ []) ("LAYER=E_001:{" ∷ "E_wire:{" ∷ inside ++ "}" ∷ "}" ∷ []) ++ "EOF" ∷ [])

-- a line, this line, and an arc
abbrev pub wired_with : S.String → List ℕ
wired_with second = wired_of ("line=1307,0,0,10,5" ∷ second ∷ "circle=1307,-5,5,3,0,90,1" ∷ [])

abbrev pub joined_line : S.String
joined_line = "line=1307,10,5,10,9"

abbrev pub apart_line : S.String
apart_line = "line=1307,10,6,10,9"

-- four blocks, each in the one before it, and five
abbrev pub four_deep : List S.String
four_deep = "a:{" ∷ "b:{" ∷ "c:{" ∷ "d:{" ∷ "}" ∷ "}" ∷ "}" ∷ "}" ∷ []

abbrev pub five_deep : List S.String
five_deep = "a:{" ∷ "b:{" ∷ "c:{" ∷ "d:{" ∷ "e:{" ∷ "}" ∷ "}" ∷ "}" ∷ "}" ∷ "}" ∷ []

-- two placed symbols in a file of E_sym 011, the first of own number 7, the second of this one, at line 61
unfoldable pub serials_with : S.String → List ℕ
serials_with second =
    one_volume
    (file_lines ("elec=001:{" ∷ "E_sym=011" ∷ "E_wire=000" ∷ "E_cirno=000" ∷ "}" ∷ "sym=001:{" ∷ "S_base=000" ∷ "S_elec=001" ∷ "}" ∷ [])
    ("all_line=65" ∷ "this_line=65" ∷ "all_ele=2" ∷ "this_ele=2" ∷ [])
    ++ lines_with ("E_symbol:{" ∷ "name=LAMP" ∷ "element:{" ∷ "circle=1307,0,0,2,0,360,0" ∷ "}" ∷ "hide:{" ∷ "}" ∷ "}" ∷ []) ("E_001=" ∷ [])
    ("LAYER=E_001:{" ∷ "E_symbol:{" ∷ "symbol=LAMP,1,2,90,1.5" ∷ "serial=7" ∷ "}" ∷ "E_symbol:{" ∷ "symbol=LAMP,3,2,90,1.5" ∷ second ∷ "}" ∷ "}" ∷ [])
    ++ "EOF" ∷ [])

-- the own numbers that a class shows of it
abbrev pub field_own : ℕ → List ℕ → List ℕ
field_own class spool = own_numbers (read_records class full_wire (8 * width) spool)

-- a symbol of two circles, the first at line 46
unfoldable pub circles_of : S.String → S.String → List ℕ
circles_of first second =
    one_volume
    (file_lines ("elec=001:{" ∷ "E_sym=001" ∷ "E_wire=000" ∷ "E_cirno=000" ∷ "}" ∷ "sym=001:{" ∷ "S_base=000" ∷ "S_elec=001" ∷ "}" ∷ [])
    ("all_line=55" ∷ "this_line=55" ∷ "all_ele=0" ∷ "this_ele=0" ∷ [])
    ++ lines_with ("E_symbol:{" ∷ "name=LAMP" ∷ "element:{" ∷ first ∷ second ∷ "}" ∷ "hide:{" ∷ "}" ∷ "}" ∷ []) [] [] ++ "EOF" ∷ [])

-- whole, without a turn; and with one
abbrev pub circles : List ℕ
circles = circles_of "circle=1307,0,0,2,0,360" "circle=1307,0,0,1,0,360,1"

-- a placed symbol and a wire of one line, in a file of E_sym 011 and E_wire 011, with these serials, the wire's at line 61
unfoldable pub linked_with : S.String → S.String → List ℕ
linked_with symbol wire =
    one_volume
    (file_lines ("elec=001:{" ∷ "E_sym=011" ∷ "E_wire=011" ∷ "E_cirno=000" ∷ "}" ∷ "sym=001:{" ∷ "S_base=000" ∷ "S_elec=001" ∷ "}" ∷ [])
    ("all_line=65" ∷ "this_line=65" ∷ "all_ele=2" ∷ "this_ele=2" ∷ [])
    ++ lines_with ("E_symbol:{" ∷ "name=LAMP" ∷ "element:{" ∷ "circle=1307,0,0,2,0,360,0" ∷ "}" ∷ "hide:{" ∷ "}" ∷ "}" ∷ []) ("E_001=" ∷ [])
    ("LAYER=E_001:{" ∷ "E_symbol:{" ∷ "symbol=LAMP,1,2,90,1.5" ∷ symbol ∷ "}" ∷ "E_wire:{" ∷ "line=1307,0,0,10,5" ∷ wire ∷ "}" ∷ "}" ∷ [])
    ++ "EOF" ∷ [])

-- each a partner of the other, the symbol's named before the wire stands; the wire's end has none
abbrev pub linked : List ℕ
linked = linked_with "serial=7,8" "serial=08,7,"

-- what classes and wire parts answer, and what they show: own numbers, and partners of wires
abbrev pub parts : List (ℕ × ℕ)
parts = (15, 18) ∷ (11, 11) ∷ (15, 8) ∷ (5, 18) ∷ (15, 0) ∷ []

abbrev pub answers_to : List ℕ → List (Result ℕ Refusal)
answers_to spool = map (λ p. read_answer p.0 p.1 (10 * width) spool) parts

abbrev pub shown_at : (List (List ℤ) → List ℕ) → List ℕ → List (List ℕ)
shown_at show spool = map (λ p. show (read_records p.0 p.1 (10 * width) spool)) parts

abbrev pub tested_in : ℕ → ℕ → Outcome → Bool
tested_in class wire (refused n v l) = false
tested_in class wire (accepted s) = tested class wire s

-- where a partner is missing: only the first two know serials of both; a class that skips the wire has one record less
abbrev pub tested_by : Result ℕ Refusal → List (Result ℕ Refusal)
tested_by a = a ∷ a ∷ Ok 10 ∷ Ok 10 ∷ Ok 9 ∷ []

-- a class with 0 keeps the wire's own two records alone
abbrev pub records_with : ℕ → ℕ
records_with wire = cond (eqb wire 0) 6 9

pub record Witnesses : Type 0 where
  -- its three records fit a table of 96 numbers: accepted at each of the ten classes with each of the 17 wire parts, by the check too
  pub accepted : at_each (λ class wire. read_answer class wire (3 * width) small) ≡ at_each (λ _ _. Ok 3)
  pub checked : at_each (λ class wire. check_answer class wire small) ≡ at_each (λ _ _. 0)
  -- the third, the drawing's, does not fit a table of 95
  pub full : read_answer full_number full_wire (3 * width - 1) small ≡ refusal 19 1 23
  -- it is in the fixed form; an output one byte shorter is too short
  pub fixed : written small ≡ small
  pub rewritten : rewrite_answer (length small) small ≡ Ok (length small)
  pub short : rewrite_answer (length small - 1) small ≡ refusal 20 0 0
  -- without EOF its volume ends early, without its last byte its length is wrong; class 6 is none, nor is wire part 9, 10, 19 or 20
  pub no_eof : read_answer full_number full_wire (3 * width) cut ≡ refusal 9 1 37
  pub no_byte : read_answer full_number full_wire (3 * width) (take (length small - 1) small) ≡ refusal 2 0 0
  pub no_class : read_answer 6 full_wire (3 * width) small ≡ refusal 1 0 0
  pub no_wire_part : map (λ wire. read_answer full_number wire (3 * width) small) no_wire_parts ≡ map (λ _. refusal 1 0 0) no_wire_parts
  -- a wire is read with every wire part but 0, which skips it, and accepted where its lines meet; it is in the fixed form
  pub wires : map (λ wire. read_answer full_number wire (9 * width) (wired_with joined_line)) wire_parts ≡ map (λ wire. Ok (records_with wire)) wire_parts
  pub wires_fixed : written (wired_with joined_line) ≡ wired_with joined_line
  -- its first line is joined to none, the second was tested, the arc was not
  pub joins : map (λ r. number_at r 11) (drop 6 (read_records full_number full_wire (9 * width) (wired_with joined_line))) ≡ pos 0 ∷ pos 1 ∷ pos 2 ∷ []
  -- where they do not meet it is 11 at the later line, but for the class that skips it
  pub apart : map (λ wire. read_answer full_number wire (9 * width) (wired_with apart_line)) wire_parts
      ≡ map (λ wire. cond (eqb wire 0) (Ok 6) (refusal 11 1 46)) wire_parts
  -- "an opener directly in the wire's block has depth 1" where it is skipped, and 4 is the most
  pub deep : read_answer full_number 0 (6 * width) (wired_of four_deep) ≡ Ok 6
  pub too_deep : read_answer full_number 0 (6 * width) (wired_of five_deep) ≡ refusal 18 1 49
  -- own numbers are shown as they were written, at a class that knows them; one that was used is 15, as a number, and a partner's is none
  pub serials : map (λ class. field_own class (serials_with "serial=08,7")) (11 ∷ 15 ∷ 5 ∷ []) ≡ (7 ∷ 8 ∷ []) ∷ (7 ∷ 8 ∷ []) ∷ [] ∷ []
  pub serials_taken : read_answer full_number full_wire (8 * width) (serials_with "serial=08,7") ≡ Ok 8
  pub serial_twice : read_answer full_number full_wire (8 * width) (serials_with "serial=007") ≡ refusal 15 1 61
  -- a wire's own number and its partner are shown where the wire part knows them, a symbol's own number where the class knows it
  pub linked_taken : answers_to linked ≡ tested_by (Ok 10)
  pub linked_own : shown_at own_numbers linked ≡ (7 ∷ 8 ∷ []) ∷ (7 ∷ 8 ∷ []) ∷ (7 ∷ []) ∷ (8 ∷ []) ∷ (7 ∷ []) ∷ []
  pub linked_ends : shown_at (λ rs. flat (map ends_of rs)) linked ≡ (7 ∷ []) ∷ (7 ∷ []) ∷ [] ∷ (7 ∷ []) ∷ [] ∷ []
  pub linked_tests : map (λ p. tested_in p.0 p.1 (read_outcome p.0 p.1 (10 * width) linked)) parts ≡ true ∷ true ∷ false ∷ false ∷ false ∷ []
  pub linked_fixed : written linked ≡ linked_with "serial=7,8" "serial=8,7,"
  -- a wire's number that a symbol has is 15, at the wire's line; a partner that none has is 21, at EOF: a symbol's, a wire's start's, its end's
  pub linked_twice : read_answer full_number full_wire (10 * width) (linked_with "serial=7,8" "serial=007,,") ≡ refusal 15 1 61
  pub symbol_alone : answers_to (linked_with "serial=7,9" "serial=8,7,") ≡ tested_by (refusal 21 1 65)
  pub start_alone : answers_to (linked_with "serial=7,8" "serial=8,9,7") ≡ tested_by (refusal 21 1 65)
  pub end_alone : answers_to (linked_with "serial=7,8" "serial=8,7,9") ≡ tested_by (refusal 21 1 65)
  -- a line of a wire is shown with its values, and an arc
  pub edges : flat (map element_in (read_records full_number full_wire (9 * width) (wired_with joined_line)))
      ≡ map (map pos) ((20 ∷ 1307 ∷ 0 ∷ 0 ∷ 100000 ∷ 50000 ∷ []) ∷ (20 ∷ 1307 ∷ 100000 ∷ 50000 ∷ 100000 ∷ 90000 ∷ []) ∷ [])
      ++ (pos 21 ∷ pos 1307 ∷ minus 50000 ∷ map pos (50000 ∷ 30000 ∷ 0 ∷ 900000 ∷ 1 ∷ [])) ∷ []
  -- a circle's turn at place 10: -1 where six values stand, and the seventh where seven do, at the least class too; each is written back with as many
  pub turns : map (λ class. map (λ r. number_at r 10) (drop 4 (read_records class 0 (6 * width) circles))) (15 ∷ 1 ∷ [])
      ≡ (minus 1 ∷ pos 1 ∷ []) ∷ (minus 1 ∷ pos 1 ∷ []) ∷ []
  pub turns_fixed : written circles ≡ circles
  -- an arc needs its turn
  pub arc_turns : read_answer full_number full_wire (6 * width) (circles_of "circle=1307,0,0,2,0,90" "circle=1307,0,0,1,0,360") ≡ refusal 10 1 46
