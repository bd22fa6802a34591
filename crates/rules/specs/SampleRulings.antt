-- Document 01, "Sample rulings" (the cases marked P) and "Three readings to keep out": one table, one theorem, computed.
use Rattle.std.specs.Prelude.{ℕ, ◌+◌, ◌*◌, List, [], ◌∷◌, ◌++◌, map, ◌≡◌, refl, ℤ, pos, take, replicate, Result, Ok, Err}
use Prim.Native.String as S
use Rattle.rules.specs.Base.{bytes, flat}
use Rattle.rules.specs.Numbers.{minus}
use Rattle.rules.specs.RefusalNumbers.{Got, got, bad}
use Rattle.rules.specs.Spool.{unlines, volume_bytes}
use Rattle.rules.specs.Values.{Num, decimal, any_sign, read_part}
use Rattle.rules.specs.Answers.{read_answer, read_records, own_records, written}
use Rattle.rules.specs.RecordTable.{width}
use Rattle.rules.specs.declared.Refusal.{Refusal}

-- ── spools in plain writing ──
abbrev pub Lines : Type 0
Lines = List S.String

-- a volume's name and lines
abbrev pub volume : S.String → Lines → List ℕ
volume n ls = volume_bytes (bytes n) (unlines (map bytes ls))

-- FILE_FORMAT of a first volume: E_sym, E_wire, all_line, the two counts of elements, next_file
abbrev pub file_lines_with : S.String → S.String → S.String → S.String → S.String → S.String → Lines
file_lines_with esym ewire allLine allEle thisEle next =
    "FILE_FORMAT:{" ∷ "range:{" ∷ "base=001:{" ∷ "B_sym=001" ∷ "}" ∷ "elec=001:{" ∷ esym ∷ ewire ∷ "E_cirno=000" ∷ "}"
    ∷ "sym=001:{" ∷ "S_base=000" ∷ "S_elec=001" ∷ "}" ∷ "}" ∷ allLine ∷ "this_line=70" ∷ allEle ∷ thisEle ∷ next
    ∷ "date=19970401" ∷ "time=235959" ∷ "cad=C-CADEC" ∷ "os=DOS" ∷ "hard=PC" ∷ "ver=1.0" ∷ "corp=" ∷ "make=" ∷ "tel=(03)1-2" ∷ "name=" ∷ "}" ∷ []

-- .. without wires
abbrev pub file_lines : S.String → S.String → S.String → S.String → Lines
file_lines esym allEle thisEle next = file_lines_with esym "E_wire=000" "all_line=0070" allEle thisEle next

-- DRAWING_FORMAT and SYMBOL_DEFINE: size, and the first figure of the one symbol (at line 47)
abbrev pub drawing_with : S.String → S.String → Lines
drawing_with size figure =
    "DRAWING_FORMAT:{" ∷ size ∷ "scale=1/100" ∷ "project=LAB" ∷ "drawname=FLOOR" ∷ "date=19970331" ∷ "drawer="
    ∷ "layer_name:{" ∷ "E_151=POWER" ∷ "}" ∷ "}"
    ∷ "SYMBOL_DEFINE:{" ∷ "E_symbol:{" ∷ "name=LAMP" ∷ "element:{" ∷ figure ∷ "}" ∷ "hide:{" ∷ "}" ∷ "}" ∷ "}" ∷ []

abbrev pub drawing_lines : S.String → Lines
drawing_lines size = drawing_with size "circle=1307,-1,0,2,0,360,0"

-- ELEMENT with one layer
abbrev pub element_lines : Lines → Lines
element_lines figures = ("ELEMENT:{" ∷ "LAYER=E_151:{" ∷ []) ++ figures ++ ("}" ∷ "}" ∷ [])

abbrev pub ending : Lines
ending = "EOF" ∷ []

-- a set in one volume: size, E_sym, the counts, and the lines in its layer (the first of them is line 55)
abbrev pub one_volume : S.String → S.String → S.String → S.String → Lines → List ℕ
one_volume size esym allEle thisEle figures =
    volume "TEST" (file_lines esym allEle thisEle "next_file=" ++ drawing_lines size ++ element_lines figures ++ ending)

-- a drawing in a file of E_sym 015, of one element
abbrev pub drawn : S.String → List ℕ
drawn figure = one_volume "size=A1" "E_sym=015" "all_ele=1" "this_ele=1" (figure ∷ [])

-- a drawing of no element on a sheet
abbrev pub on_sheet : S.String → List ℕ
on_sheet size = one_volume size "E_sym=015" "all_ele=0" "this_ele=0" []

abbrev pub sound : List ℕ
sound =
    one_volume "size=A1" "E_sym=015" "all_ele=2" "this_ele=2"
    ("line=1307,0,0,5.25,10"
    ∷ "E_symbol:{" ∷ "symbol=LAMP,1,2,90,1.5" ∷ "text:{" ∷ "type=1301,1,2,3,4,0,45,1" ∷ "character=a b" ∷ "}"
    ∷ "hight=-2.5" ∷ "pos=3" ∷ "circuit=A-1" ∷ "serial=7,8,9" ∷ "}" ∷ [])

-- a placed symbol of range 013: hight and serial, and neither pos nor circuit
abbrev pub range_thirteen : List ℕ
range_thirteen =
    one_volume "size=A1" "E_sym=013" "all_ele=1" "this_ele=1"
    ("E_symbol:{" ∷ "symbol=LAMP,1,2,90,1.5" ∷ "hight=" ∷ "serial=1" ∷ "}" ∷ [])

-- a text whose characters end in `:{`
abbrev pub ends_in_brace : List ℕ
ends_in_brace =
    one_volume "size=A1" "E_sym=002" "all_ele=2" "this_ele=2"
    ("E_symbol:{" ∷ "symbol=LAMP,1,2,90,1.5" ∷ "text:{" ∷ "type=1301,1,2,3,4,0,45,1" ∷ "character=a:{" ∷ "}" ∷ "}"
    ∷ "point=1307,1,1" ∷ [])

abbrev pub two_serials : List ℕ
two_serials =
    one_volume "size=A1" "E_sym=011" "all_ele=2" "this_ele=2"
    ("E_symbol:{" ∷ "symbol=LAMP,1,2,90,1.5" ∷ "serial=1" ∷ "}"
    ∷ "E_symbol:{" ∷ "symbol=LAMP,3,2,90,1.5" ∷ "serial=01" ∷ "}" ∷ [])

-- two volumes, TEST2 and then TEST10
abbrev pub first_of_two : List ℕ
first_of_two =
    volume "TEST2"
    (file_lines "E_sym=015" "all_ele=2" "this_ele=1" "next_file=Test10" ++ drawing_lines "size=A1" ++ element_lines ("point=1307,1,1" ∷ []))

abbrev pub second_of_two : List ℕ
second_of_two =
    volume "TEST10"
    (("FILE_FORMAT:{" ∷ "this_line=9" ∷ "this_ele=1" ∷ "next_file=" ∷ "date=19970401" ∷ "time=235959" ∷ "}" ∷ [])
    ++ element_lines ("point=1307,2,2" ∷ []) ++ ending)

-- ── document 02, wish 3: circles with six values ──
-- a drawing of no element, in whose symbol this figure stands; .. as it is written in the fixed form
abbrev pub symbol_with : S.String → S.String → List ℕ
symbol_with allLine figure =
    volume "TEST"
    (file_lines_with "E_sym=015" "E_wire=000" allLine "all_ele=0" "this_ele=0" "next_file=" ++ drawing_with "size=A1" figure ++ element_lines [] ++ ending)

abbrev pub symbol_of : S.String → List ℕ
symbol_of figure = symbol_with "all_line=0070" figure

abbrev pub written_symbol : S.String → List ℕ
written_symbol figure = symbol_with "all_line=70" figure

-- its lines up to this figure alone
abbrev pub ends_at : S.String → List ℕ
ends_at figure =
    volume "TEST" (file_lines "E_sym=015" "all_ele=0" "this_ele=0" "next_file=" ++ take 16 (drawing_with "size=A1" figure))

-- ── a set written carelessly, and its fixed form ──
-- comments, blanks and an empty line, keys in another order, `hide` before `element`, `-0`, needless zeros, small letters in next_file
abbrev pub careless : List ℕ
careless =
    volume "TEST2"
    ("# the floor" ∷ "FILE_FORMAT:{" ∷ "  name=" ∷ "tel=(03)1-2" ∷ "make=" ∷ "corp=" ∷ "ver=1.0" ∷ "hard=PC" ∷ "os=DOS" ∷ "cad=C-CADEC"
    ∷ "time=235959" ∷ "date=19970401" ∷ "next_file=Test10" ∷ "this_ele=01" ∷ "all_ele=002" ∷ "this_line=70" ∷ "all_line=0070"
    ∷ "range:{" ∷ "sym=001:{" ∷ "S_elec=001" ∷ "S_base=000" ∷ "}" ∷ "elec=001:{" ∷ "E_cirno=000" ∷ "E_wire=000" ∷ "E_sym=015" ∷ "}"
    ∷ "base=001:{" ∷ "B_sym=001" ∷ "}" ∷ "}" ∷ "}" ∷ ""
    ∷ "DRAWING_FORMAT:{" ∷ "layer_name:{" ∷ "E_151=POWER " ∷ "}" ∷ "drawer=" ∷ "date=19970331" ∷ "drawname=FLOOR" ∷ "project=LAB"
    ∷ "scale=01/0100" ∷ "size=A1" ∷ "}"
    ∷ "SYMBOL_DEFINE:{" ∷ "E_symbol:{" ∷ "hide:{" ∷ "point=1307,-0,1.50" ∷ "}" ∷ "element:{" ∷ "circle=1307,-1.0,0,02,0,360.0,0" ∷ "}"
    ∷ "name=LAMP" ∷ "}" ∷ "}"
    ∷ "ELEMENT:{" ∷ "LAYER=E_151:{" ∷ "E_symbol:{" ∷ "serial=007,08,0" ∷ "circuit=A-1" ∷ "pos=3" ∷ "hight=-0.50"
    ∷ "text:{" ∷ "character= a b" ∷ "type=0101,01,2,3.0000,4,0,45,1" ∷ "}" ∷ "symbol=LAMP,0001,2.0,090,1.5" ∷ "}" ∷ "}" ∷ "}" ∷ [])
    ++ volume "TEST10"
    ("FILE_FORMAT:{" ∷ "time=235959" ∷ "date=19970401" ∷ "next_file=" ∷ "this_ele=1" ∷ "this_line=09" ∷ "}"
    ∷ "ELEMENT:{" ∷ "LAYER=E_151:{" ∷ "# one point" ∷ "   point=1307,2.50,0002" ∷ "}" ∷ "}" ∷ "EOF" ∷ [])

abbrev pub careful : List ℕ
careful =
    volume "TEST2"
    ("FILE_FORMAT:{" ∷ "range:{" ∷ "base=001:{" ∷ "B_sym=001" ∷ "}" ∷ "elec=001:{" ∷ "E_sym=015" ∷ "E_wire=000" ∷ "E_cirno=000" ∷ "}"
    ∷ "sym=001:{" ∷ "S_base=000" ∷ "S_elec=001" ∷ "}" ∷ "}" ∷ "all_line=70" ∷ "this_line=70" ∷ "all_ele=2" ∷ "this_ele=1"
    ∷ "next_file=TEST10" ∷ "date=19970401" ∷ "time=235959" ∷ "cad=C-CADEC" ∷ "os=DOS" ∷ "hard=PC" ∷ "ver=1.0" ∷ "corp=" ∷ "make="
    ∷ "tel=(03)1-2" ∷ "name=" ∷ "}"
    ∷ "DRAWING_FORMAT:{" ∷ "size=A1" ∷ "scale=1/100" ∷ "project=LAB" ∷ "drawname=FLOOR" ∷ "date=19970331" ∷ "drawer="
    ∷ "layer_name:{" ∷ "E_151=POWER " ∷ "}" ∷ "}"
    ∷ "SYMBOL_DEFINE:{" ∷ "E_symbol:{" ∷ "name=LAMP" ∷ "hide:{" ∷ "point=1307,0,1.5" ∷ "}" ∷ "element:{" ∷ "circle=1307,-1,0,2,0,360,0" ∷ "}"
    ∷ "}" ∷ "}"
    ∷ "ELEMENT:{" ∷ "LAYER=E_151:{" ∷ "E_symbol:{" ∷ "symbol=LAMP,1,2,90,1.5" ∷ "text:{" ∷ "type=0101,1,2,3,4,0,45,1" ∷ "character= a b" ∷ "}"
    ∷ "hight=-0.5" ∷ "pos=3" ∷ "circuit=A-1" ∷ "serial=7,8,0" ∷ "}" ∷ "}" ∷ "}" ∷ [])
    ++ volume "TEST10"
    ("FILE_FORMAT:{" ∷ "this_line=9" ∷ "this_ele=1" ∷ "next_file=" ∷ "date=19970401" ∷ "time=235959" ∷ "}"
    ∷ "ELEMENT:{" ∷ "LAYER=E_151:{" ∷ "point=1307,2.5,2" ∷ "}" ∷ "}" ∷ "EOF" ∷ [])

-- ── records in plain writing ──
-- numbers that are not negative
abbrev pub whole : List ℕ → List ℤ
whole ns = map pos ns

-- a record's start: kind, owner, volume, line, type
abbrev pub from : ℕ → ℕ → ℕ → ℕ → ℕ → List ℤ
from kind owner volume line type = whole (kind ∷ owner ∷ volume ∷ line ∷ type ∷ [])

-- a text: "byte place in the spool, from 0, and length; 0 and 0 if empty"
abbrev pub text : ℕ → ℕ → List ℤ
text place size = whole (place ∷ size ∷ [])

abbrev pub no_text : List ℤ
no_text = text 0 0

-- "32 numbers each", "unused 0": groups of numbers, and zeros behind them
abbrev pub entry : List (List ℤ) → List ℤ
entry groups = take width (flat groups ++ replicate width (pos 0))

-- header: ranges, counts, date and time, texts. A set here: its E_sym and all_ele; `more` bytes than in the sound set stand before its texts.
abbrev pub header_entry : ℕ → ℕ → ℕ → List ℤ
header_entry esym allEle more =
    entry
    (from 1 0 1 1 0
    ∷ whole (1 ∷ 0 ∷ []) ∷ whole (1 ∷ esym ∷ []) ∷ whole (1 ∷ 0 ∷ 1 ∷ [])  -- B_sym, arc; elec, E_sym; sym, S_base, S_elec
    ∷ whole (70 ∷ allEle ∷ 19970401 ∷ 235959 ∷ [])  -- all_line, all_ele, date, time
    ∷ text (250 + more) 7 ∷ text (262 + more) 3 ∷ text (272 + more) 2 ∷ text (280 + more) 3  -- cad, os, hard, ver
    ∷ no_text ∷ no_text ∷ text (303 + more) 7 ∷ no_text ∷ [])  -- corp, make, tel, name

-- volume: its number, this_line, this_ele
abbrev pub volume_entry : ℕ → ℕ → ℕ → List ℤ
volume_entry number thisLine thisEle = entry (from 2 0 number 1 0 ∷ whole (thisLine ∷ thisEle ∷ []) ∷ [])

-- drawing: n of the sheet n A1, scale 1/100, date, no floor, project, drawname, drawer
abbrev pub drawing_entry : ℕ → ℕ → List ℤ
drawing_entry n more =
    entry
    (from 3 0 1 32 0 ∷ whole (n ∷ 1 ∷ []) ∷ whole (1 ∷ 100 ∷ []) ∷ whole (19970331 ∷ []) ∷ whole (0 ∷ 0 ∷ [])
    ∷ text (370 + more) 3 ∷ text (384 + more) 5 ∷ no_text ∷ [])

-- layer E_151, POWER; symbol LAMP, no wall; the circle in it
abbrev pub layer_entry : ℕ → List ℤ
layer_entry more = entry (from 5 0 1 40 0 ∷ whole (69 ∷ 151 ∷ []) ∷ text (435 + more) 5 ∷ [])

abbrev pub symbol_entry : ℕ → List ℤ
symbol_entry more = entry (from 4 0 1 44 0 ∷ text (482 + more) 4 ∷ [])

-- its seventh number is its turn
abbrev pub circle_turned : ℤ → List ℤ
circle_turned turn = entry (from 31 0 1 47 1307 ∷ (minus 10000 ∷ pos 0 ∷ []) ∷ whole (20000 ∷ []) ∷ whole (0 ∷ 3600000 ∷ []) ∷ (turn ∷ []) ∷ [])

abbrev pub circle_entry : List ℤ
circle_entry = circle_turned (pos 0)

-- the six records before the elements: E_sym, all_ele, this_ele, n of the sheet, and how many bytes more than in the sound set stand before
-- the header's texts and before the drawing's
abbrev pub six_entries : ℕ → ℕ → ℕ → ℕ → ℕ → ℕ → List (List ℤ)
six_entries esym allEle thisEle n before more =
    header_entry esym allEle before ∷ volume_entry 1 70 thisEle ∷ drawing_entry n more ∷ layer_entry more ∷ symbol_entry more ∷ circle_entry ∷ []

-- of a drawing of no element, whose symbol has this circle
abbrev pub turned_entries : ℤ → List (List ℤ)
turned_entries turn =
    header_entry 15 0 0 ∷ volume_entry 1 70 0 ∷ drawing_entry 1 0 ∷ layer_entry 0 ∷ symbol_entry 0 ∷ circle_turned turn ∷ []

-- a point of a layer: volume, line, x and y alike
abbrev pub point_entry : ℕ → ℕ → ℕ → List ℤ
point_entry number line x = entry (from 13 0 number line 1307 ∷ whole (x ∷ x ∷ []) ∷ [])

-- LAMP placed at 1,2 by 90 degrees and 1.5: its line, what its attributes give, and the states of text, hight, pos, circuit, serial
abbrev pub placed_entry : ℕ → List (List ℤ) → List ℕ → List ℤ
placed_entry line attributes states =
    entry (from 16 0 1 line 0 ∷ whole (0 ∷ []) ∷ whole (10000 ∷ 20000 ∷ []) ∷ whole (900000 ∷ 15000 ∷ []) ∷ flat attributes ∷ whole states ∷ [])

-- "a sound one-volume set": a line, and a placed symbol with all attributes
abbrev pub sound_entries : List (List ℤ)
sound_entries =
    six_entries 15 2 2 1 0 0
    ++ entry (from 10 0 1 55 1307 ∷ whole (0 ∷ 0 ∷ []) ∷ whole (52500 ∷ 100000 ∷ []) ∷ [])
    ∷ placed_entry 56
    ((minus 25000 ∷ []) ∷ whole (3 ∷ []) ∷ text 711 3 ∷ whole (7 ∷ 2 ∷ [])  -- hight, pos, circuit, serial and how many partners
    ∷ whole (1301 ∷ 10000 ∷ 20000 ∷ 30000 ∷ 40000 ∷ 0 ∷ 450000 ∷ 1 ∷ []) ∷ text 676 3 ∷ [])  -- text
    (2 ∷ 2 ∷ 2 ∷ 2 ∷ 2 ∷ []) ∷ []

abbrev pub ellipse_entries : List (List ℤ)
ellipse_entries =
    six_entries 15 1 1 1 0 0
    ++ entry (from 12 0 1 55 1307 ∷ whole (0 ∷ 0 ∷ []) ∷ whole (10000000 ∷ 9000000 ∷ []) ∷ whole (0 ∷ 3600000 ∷ []) ∷ whole (0 ∷ 0 ∷ []) ∷ []) ∷ []

-- at 013: hight is empty, serial is 1 with no partner; text may be missing, pos and circuit are not asked for
abbrev pub thirteen_entries : List (List ℤ)
thirteen_entries =
    six_entries 13 1 1 1 0 0
    ++ placed_entry 55 (whole (0 ∷ []) ∷ whole (0 ∷ []) ∷ no_text ∷ whole (1 ∷ 0 ∷ []) ∷ replicate 10 (pos 0) ∷ []) (0 ∷ 1 ∷ 0 ∷ 0 ∷ 2 ∷ []) ∷ []

-- at class 1 the text is unread (3), and the point behind the placed symbol is read
abbrev pub unread_entries : List (List ℤ)
unread_entries = six_entries 2 2 2 1 0 0 ++ placed_entry 55 (replicate 16 (pos 0) ∷ []) (3 ∷ []) ∷ point_entry 1 62 10000 ∷ []

-- `next_file=Test10` is six bytes longer than `next_file=`
abbrev pub two_volumes_entries : List (List ℤ)
two_volumes_entries = six_entries 15 2 1 1 6 6 ++ point_entry 1 55 10000 ∷ volume_entry 2 9 1 ∷ point_entry 2 10 20000 ∷ []

-- ── questions and rulings ──
pub data Question : Type 0 where
  spool : ℕ → ℕ → List ℕ → Question  -- a spool read at a class with its wire part, with a table of 256 records
  number : S.String → Question  -- a decimal by itself
  fixed : List ℕ → Question  -- the fixed form of a spool

pub data Ruling : Type 0 where
  accepted : ℕ → List (List ℤ) → Ruling  -- how many records, and these
  refused : ℕ → ℕ → ℕ → Ruling  -- number, volume, line
  worth : ℤ → Ruling  -- in ten-thousandths
  broken : ℕ → Ruling  -- the number of the rule that a decimal breaks
  writes : List ℕ → Ruling  -- every byte of it

-- a question and what document 01 says of it
pub data Case : Type 0 where
  ruled : Question → Ruling → Case

abbrev pub asked : Case → Question
asked (ruled q r) = q

abbrev pub expected : Case → Ruling
expected (ruled q r) = r

abbrev pub of_reading : Result ℕ Refusal → List (List ℤ) → Ruling
of_reading (Ok n) rs = accepted n rs
of_reading (Err r) rs = refused r.number r.volume r.line

abbrev pub of_number : Got Num → Ruling
of_number (got n) = worth n.value
of_number (bad n) = broken n

abbrev pub ruling : Question → Ruling
ruling (spool c w s) = of_reading (read_answer c w (own_records * width) s) (read_records c w (own_records * width) s)
ruling (number s) = of_number (read_part (record { symbols = []; layers = [] }) (decimal any_sign) (bytes s))
ruling (fixed s) = writes (written s)

pub cases : List Case
cases =
    -- "a sound one-volume set, accepted"
    ruled (spool 15 18 sound) (accepted 8 sound_entries)
    -- "empty spool, 2"
    ∷ ruled (spool 15 18 []) (refused 2 0 0)
    -- document 02: "1 to 8 or 11 to 18, or 0; any other is 1"
    ∷ ruled (spool 15 0 []) (refused 2 0 0)
    ∷ ruled (spool 15 8 []) (refused 2 0 0)
    ∷ ruled (spool 15 11 []) (refused 2 0 0)
    ∷ ruled (spool 15 9 []) (refused 1 0 0)
    ∷ ruled (spool 15 10 []) (refused 1 0 0)
    ∷ ruled (spool 15 19 []) (refused 1 0 0)
    ∷ ruled (spool 16 18 []) (refused 1 0 0)
    -- "`1234.56` is 12,345,600; `9999999.9999` is 99,999,999,999; `-0` is 0; `12345678` and `5.` are 10", the last two in a set as well
    ∷ ruled (number "1234.56") (worth (pos 12345600))
    ∷ ruled (number "9999999.9999") (worth (pos 99999999999))
    ∷ ruled (number "-0") (worth (pos 0))
    ∷ ruled (number "12345678") (broken 10)
    ∷ ruled (number "5.") (broken 10)
    ∷ ruled (spool 15 18 (drawn "line=1307,0,0,12345678,10")) (refused 10 1 55)
    ∷ ruled (spool 15 18 (drawn "line=1307,0,0,5.,10")) (refused 10 1 55)
    -- "axes 1000,900 accepted; 900,900 is 11"
    ∷ ruled (spool 15 18 (drawn "ellipse=1307,0,0,1000,900,0,360,0,0")) (accepted 7 ellipse_entries)
    ∷ ruled (spool 15 18 (drawn "ellipse=1307,0,0,900,900,0,360,0,0")) (refused 11 1 55)
    -- "`line=1307,5,5,5.0,5` is 11"
    ∷ ruled (spool 15 18 (drawn "line=1307,5,5,5.0,5")) (refused 11 1 55)
    -- "4A1 accepted, 8A1 is 11": `size=4A1` is a byte longer than `size=A1`
    ∷ ruled (spool 15 18 (on_sheet "size=4A1")) (accepted 6 (six_entries 15 0 0 4 0 1))
    ∷ ruled (spool 15 18 (on_sheet "size=8A1")) (refused 11 1 33)
    -- "serials 1 and 01 together, 15"
    ∷ ruled (spool 15 18 two_serials) (refused 15 1 61)
    -- to keep out: "Volumes sorted by name: TEST10 before TEST2". They stand in spool order; in order by name the set is refused.
    ∷ ruled (spool 15 18 (first_of_two ++ second_of_two)) (accepted 9 two_volumes_entries)
    ∷ ruled (spool 15 18 (second_of_two ++ first_of_two)) (refused 8 1 7)
    -- to keep out: "013 taken as a number above 005: pos and circuit would be demanded"
    ∷ ruled (spool 15 18 range_thirteen) (accepted 7 thirteen_entries)
    -- to keep out: "A skipped text whose `character` ends in `:{` swallowing the rest"
    ∷ ruled (spool 1 0 ends_in_brace) (accepted 8 unread_entries)
    -- document 02, wish 3: "Inside a symbol's `element`, a circle from 0 to 360 may have six values. Its turn is recorded as -1": at the
    -- newer plotter's class and at the older's, 0 and 360 by value; with seven values the turn is the one written
    ∷ ruled (spool 15 18 (symbol_of "circle=1307,-1,0,2,0,360")) (accepted 6 (turned_entries (minus 1)))
    ∷ ruled (spool 3 0 (symbol_of "circle=1307,-1,0,2,0,360")) (accepted 6 (turned_entries (minus 1)))
    ∷ ruled (spool 15 18 (symbol_of "circle=1307,-1.0,0,02,-0.0,0360.00")) (accepted 6 (turned_entries (minus 1)))
    ∷ ruled (spool 15 18 (symbol_of "circle=1307,-1,0,2,0,360,0")) (accepted 6 (turned_entries (pos 0)))
    ∷ ruled (spool 15 18 (symbol_of "circle=1307,-1,0,2,0,360,1")) (accepted 6 (turned_entries (pos 1)))
    -- "six values for an arc are 10"; 10 is the smaller where the radius is 0 too
    ∷ ruled (spool 15 18 (symbol_of "circle=1307,-1,0,2,0,90")) (refused 10 1 47)
    ∷ ruled (spool 15 18 (symbol_of "circle=1307,-1,0,2,1,360")) (refused 10 1 47)
    ∷ ruled (spool 15 18 (symbol_of "circle=1307,-1,0,2,360,0")) (refused 10 1 47)
    ∷ ruled (spool 15 18 (symbol_of "circle=1307,-1,0,2,0,361")) (refused 10 1 47)
    ∷ ruled (spool 15 18 (symbol_of "circle=1307,-1,0,0,0,90")) (refused 10 1 47)
    -- what document 01 says of the first six values of a circle: the type has four digits, decimals are such, the radius is above zero
    ∷ ruled (spool 15 18 (symbol_of "circle=137,-1,0,2,0,360")) (refused 10 1 47)
    ∷ ruled (spool 15 18 (symbol_of "circle=1307,-1,,2,0,360")) (refused 10 1 47)
    ∷ ruled (spool 15 18 (symbol_of "circle=1307,-1,0,2,0,36O")) (refused 10 1 47)
    ∷ ruled (spool 15 18 (symbol_of "circle=1307,-1,0,0,0,360")) (refused 11 1 47)
    ∷ ruled (spool 15 18 (symbol_of "circle=1307,-1,0,-2,0,360")) (refused 11 1 47)
    ∷ ruled (spool 15 18 (ends_at "circle=1307,-1,0,2,0,360")) (refused 9 1 47)
    ∷ ruled (spool 15 18 (ends_at "circle=1307,-1,0,0,0,360")) (refused 9 1 47)
    -- five, seven and eight values: a seventh is one digit, 0 or 1
    ∷ ruled (spool 15 18 (symbol_of "circle=1307,-1,0,2,0")) (refused 10 1 47)
    ∷ ruled (spool 15 18 (symbol_of "circle=1307,-1,0,2,0,360,")) (refused 10 1 47)
    ∷ ruled (spool 15 18 (symbol_of "circle=1307,-1,0,2,0,360,-1")) (refused 10 1 47)
    ∷ ruled (spool 15 18 (symbol_of "circle=1307,-1,0,2,0,360,2")) (refused 11 1 47)
    ∷ ruled (spool 15 18 (symbol_of "circle=1307,-1,0,2,0,360,0,0")) (refused 10 1 47)
    ∷ ruled (spool 15 18 (symbol_of "circle=1307,-1,0,2,360,360,0")) (refused 11 1 47)
    -- "`cirllce` in the printed examples stays an unknown key"; an ellipse keeps its nine values; layers keep seven (and wires: WireRulings)
    ∷ ruled (spool 15 18 (symbol_of "cirllce=1307,-1,0,2,0,360")) (refused 6 1 47)
    ∷ ruled (spool 15 18 (symbol_of "ellipse=1307,-1,0,2,1,0,360,0")) (refused 10 1 47)
    ∷ ruled (spool 15 18 (drawn "circle=1307,-1,0,2,0,360")) (refused 10 1 55)
    -- "it is written back with six"; seven stay seven
    ∷ ruled (fixed (symbol_of "circle=1307,-1.0,0,02,-0,360.0")) (writes (written_symbol "circle=1307,-1,0,2,0,360"))
    ∷ ruled (fixed (symbol_of "circle=1307,-1.0,0,02,0,360.0,0")) (writes (written_symbol "circle=1307,-1,0,2,0,360,0"))
    -- "no comments, blanks or empty lines; keys in the order above; .. no needless zeros .. `-0` as `0`; next_file in capitals"
    ∷ ruled (fixed careless) (writes careful)
    ∷ []

pub sample_rulings : map (λ c. ruling (asked c)) cases ≡ map expected cases
unfolding cases read_answer read_records written
sample_rulings = refl
