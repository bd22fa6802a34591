-- Document 02, wish 1: rulings on wires, one table, one theorem, computed.
use Rattle.std.specs.Prelude.{ℕ, zero, suc, ◌+◌, ◌*◌, Bool, true, false, cond, ◌&&◌, ◌||◌, not, List, [], ◌∷◌, ◌++◌, map, ◌≡◌, refl, eqb, leb, ℤ, pos, negsuc, set, replicate}
use Prim.Native.String as S
use Rattle.std.proofs.lemmas.List.Edits.{sets}
use Rattle.rules.specs.declared.Digits.{Digits}
use Rattle.rules.specs.Base.{flat, all, is_nil, has_number}
use Rattle.rules.specs.Numbers.{minus}
use Rattle.rules.specs.Values.{equal_z}
use Rattle.rules.specs.RangeClass.{digits, digits_of, reaches, hides}
use Rattle.rules.specs.Answers.{read_answer, read_records, written, answer_number, answer_line, own_records}
use Rattle.rules.specs.RecordTable.{width}
use Rattle.rules.specs.SampleRulings.{Lines, volume, file_lines_with, drawing_lines, element_lines, ending, whole, from, entry, six_entries}
use Rattle.rules.specs.SampleRulings.{point_entry, placed_entry, Case, ruled}
use Rattle.rules.specs.SampleRulings.{asked, expected, ruling, spool, fixed, accepted, refused, writes}

-- a set in one volume, in a file of this E_sym and E_wire, of up to nine elements: the lines in its layer, the first of them line 55
abbrev pub sheet_with : S.String → S.String → S.String → S.String → S.String → Lines → List ℕ
sheet_with esym allLine ewire allEle thisEle figures =
    volume "TEST" (file_lines_with esym ewire allLine allEle thisEle "next_file=" ++ drawing_lines "size=A1" ++ element_lines figures ++ ending)

abbrev pub sheet_of : S.String → S.String → S.String → Lines → List ℕ
sheet_of ewire allEle thisEle figures = sheet_with "E_sym=015" "all_line=0070" ewire allEle thisEle figures

abbrev pub wire_lines : Lines → Lines
wire_lines inside = "E_wire:{" ∷ inside ++ "}" ∷ []

-- one wire that holds these lines, the first of them line 56
abbrev pub wire_of : S.String → Lines → List ℕ
wire_of ewire inside = sheet_of ewire "all_ele=1" "this_ele=1" (wire_lines inside)

-- .. as it is written in the fixed form
abbrev pub written_wire : S.String → Lines → List ℕ
written_wire ewire inside = sheet_with "E_sym=015" "all_line=70" ewire "all_ele=1" "this_ele=1" (wire_lines inside)

-- a line and an arc, and a point behind the wire
abbrev pub line_and_arc : S.String → List ℕ
line_and_arc ewire =
    sheet_of ewire "all_ele=2" "this_ele=2"
    ("E_wire:{" ∷ "line=1307,0,0,10,20.5" ∷ "circle=1307,-5,5,3,0,90,1" ∷ "}" ∷ "point=1307,1,1" ∷ [])

-- two lines, the second of which starts where these values say
abbrev pub two_lines : S.String → S.String → List ℕ
two_lines ewire second = wire_of ewire ("line=1307,0,0,100,50" ∷ second ∷ [])

-- ── attributes ──
-- a wire with two of what may stand twice, each attribute after another that the fixed form has behind it
abbrev pub mixed : Lines
mixed =
    "line=1307,0,0,1,0" ∷ "serial=0007,,007" ∷ "power=3,4,0173" ∷ "num=1,03,0,0,180" ∷ "circuit=A-1.b" ∷ "piend=2.50,3,9"
    ∷ "text:{" ∷ "character=b " ∷ "type=1307,1,2,3,4,0,45,1" ∷ "}" ∷ "direc=0,4,5,360.0" ∷ "length=" ∷ "num=1,3,0010,0,0"
    ∷ "text:{" ∷ "type=1301,1,2,3,4,0,45,0" ∷ "character=a" ∷ "}" ∷ "direc=4,-0,1,0" ∷ "piend=1,1,1" ∷ []

abbrev pub in_order : Lines
in_order =
    "line=1307,0,0,1,0" ∷ "direc=0,4,5,360" ∷ "direc=4,0,1,0" ∷ "piend=2.5,3,9" ∷ "piend=1,1,1" ∷ "num=1,3,0,0,180" ∷ "num=1,3,10,0,0"
    ∷ "text:{" ∷ "type=1307,1,2,3,4,0,45,1" ∷ "character=b " ∷ "}" ∷ "text:{" ∷ "type=1301,1,2,3,4,0,45,0" ∷ "character=a" ∷ "}"
    ∷ "length=" ∷ "circuit=A-1.b" ∷ "power=3,4,173" ∷ "serial=7,,7" ∷ []

-- at E_wire 008: what a file must have, and this power
abbrev pub powered : S.String → List ℕ
powered power = wire_of "E_wire=008" ("length=" ∷ "circuit=" ∷ power ∷ [])

-- `key:{` so many deep
abbrev pub nested : ℕ → Lines
nested n = replicate n "a:{" ++ replicate n "}"

-- ── document 000's tenth example, at E_wire 418 ──
-- LAMP with this serial, at E_sym 011
abbrev pub lamp : S.String → Lines
lamp serial = "E_symbol:{" ∷ "symbol=LAMP,1,2,90,1.5" ∷ serial ∷ "}" ∷ []

-- as printed but for its `direc`, which has three values there, and its last line, which is `seriarl`: this direc, this last line
abbrev pub tenth : S.String → S.String → Lines
tenth direc last =
    wire_lines
    ("line=5307,5,10,5,100" ∷ "line=0000,5,100,5,105" ∷ "line=5307,5,105,5,145" ∷ "circle=5307,10,145,5,180,90,1" ∷ "line=5307,10,150,150,150"
    ∷ direc ∷ "piend=100,150,180" ∷ "num=0,2,70,150,0"
    ∷ "text:{" ∷ "type=1307,65,170,2.5,2.5,2.5,0,0" ∷ "character=2.0" ∷ "}" ∷ "length=180" ∷ "circuit=100014" ∷ "power=1,2,200" ∷ last ∷ [])

-- in a file whose symbols have serials too, behind this symbol's (it starts at line 59)
abbrev pub tenth_behind : S.String → S.String → S.String → List ℕ
tenth_behind direc last serial =
    sheet_with "E_sym=011" "all_line=0070" "E_wire=418" "all_ele=2" "this_ele=2" (lamp serial ++ tenth direc last)

abbrev pub mended : List ℕ
mended = tenth_behind "direc=1,150,150,0" "serial=2,1," "serial=1"

-- ── serials ──
-- at E_sym 011 and E_wire 011, these elements; what the file says of how many
abbrev pub counted : S.String → S.String → Lines → List ℕ
counted allEle thisEle figures = sheet_with "E_sym=011" "all_line=0070" "E_wire=011" allEle thisEle figures

abbrev pub two : Lines → Lines → List ℕ
two a b = counted "all_ele=2" "this_ele=2" (a ++ b)

-- at these ranges one element, whose partner isn't there
abbrev pub astray : S.String → S.String → Lines → List ℕ
astray esym ewire figures = sheet_with esym "all_line=0070" ewire "all_ele=1" "this_ele=1" figures

-- a wire with a serial: three lines
abbrev pub numbered : S.String → Lines
numbered serial = wire_lines (serial ∷ [])

-- EOF's line behind so many lines in the layer
abbrev pub eof_behind : ℕ → ℕ
eof_behind lines = 55 + lines + 2

-- ── records ──
-- a line of a wire: its line, its type, where it goes, how it is joined
abbrev pub typed_edge : ℕ → ℕ → List ℕ → ℕ → List ℤ
typed_edge line type values join = entry (from 20 0 1 line type ∷ whole values ∷ whole (0 ∷ 0 ∷ join ∷ []) ∷ [])

abbrev pub edge_entry : ℕ → List ℕ → ℕ → List ℤ
edge_entry line values join = typed_edge line 1307 values join

-- the two of a wire at its line: the numbers from place 5 on
abbrev pub wire_pair : ℕ → List (List ℕ) → List (List ℕ) → List (List ℤ)
wire_pair line one more = entry (from 18 0 1 line 0 ∷ whole (flat one) ∷ []) ∷ entry (from 19 0 1 line 0 ∷ whole (flat more) ∷ []) ∷ []

abbrev pub zeros : ℕ → List ℕ
zeros n = replicate n 0

-- of a wire without attributes: how many elements it has, and E_wire's first digit
abbrev pub wire_entries : ℕ → ℕ → List (List ℤ)
wire_entries elements digit = wire_pair 55 ((elements ∷ []) ∷ zeros 24 ∷ (digit ∷ 0 ∷ []) ∷ []) []

-- "marked unread, zeros from place 4 on but for that mark and the states": those of direc, piend, num, length and of text, circuit, power, serial
abbrev pub unread_with : ℕ → List ℕ → List ℕ → List (List ℤ)
unread_with line one more = wire_pair line (zeros 21 ∷ one ∷ (0 ∷ 3 ∷ []) ∷ []) (zeros 21 ∷ more ∷ (0 ∷ 3 ∷ []) ∷ [])

abbrev pub unread_entries : List (List ℤ)
unread_entries = unread_with 55 (zeros 4) (zeros 4)

-- of the mended example: elements; direc, piend, num, length; their states; E_wire's first digit
abbrev pub mended_one : List ℕ → List ℕ → List (List ℕ)
mended_one length states =
    (5 ∷ []) ∷ (1 ∷ 1 ∷ 1500000 ∷ 1500000 ∷ 0 ∷ []) ∷ zeros 4 ∷ (1 ∷ 1000000 ∷ 1500000 ∷ 1800000 ∷ [])
    ∷ (1 ∷ 0 ∷ 2 ∷ 700000 ∷ 1500000 ∷ 0 ∷ []) ∷ length ∷ states ∷ (4 ∷ 0 ∷ []) ∷ []

-- its text; circuit, power, serial; the states of these four
abbrev pub mended_more : List ℕ → List ℕ → List ℕ → List ℕ → List (List ℕ)
mended_more circuit power serial states =
    (1 ∷ 1307 ∷ 650000 ∷ 1700000 ∷ 25000 ∷ 25000 ∷ 25000 ∷ 0 ∷ 0 ∷ 865 ∷ 3 ∷ []) ∷ circuit ∷ power ∷ serial ∷ states ∷ []

abbrev pub mended_edges : List (List ℤ)
mended_edges =
    typed_edge 60 5307 (50000 ∷ 100000 ∷ 50000 ∷ 1000000 ∷ []) 0 ∷ typed_edge 61 0 (50000 ∷ 1000000 ∷ 50000 ∷ 1050000 ∷ []) 1
    ∷ typed_edge 62 5307 (50000 ∷ 1050000 ∷ 50000 ∷ 1450000 ∷ []) 1
    ∷ entry (from 21 0 1 63 5307 ∷ whole (100000 ∷ 1450000 ∷ 50000 ∷ 1800000 ∷ 900000 ∷ 1 ∷ 2 ∷ []) ∷ [])
    ∷ typed_edge 64 5307 (100000 ∷ 1500000 ∷ 1500000 ∷ 1500000 ∷ []) 2 ∷ []

-- the symbol before it: its own number and its state
abbrev pub lamp_entry : ℕ → ℕ → List ℤ
lamp_entry own state = placed_entry 55 (whole (zeros 4) ∷ whole (own ∷ 0 ∷ []) ∷ whole (zeros 10) ∷ []) (0 ∷ 0 ∷ 0 ∷ 0 ∷ state ∷ [])

-- .. with number 1 alone, at another line; with number 1 and a partner
abbrev pub lamp_at : ℕ → List ℤ
lamp_at line = placed_entry line (whole (zeros 4) ∷ whole (1 ∷ 0 ∷ []) ∷ whole (zeros 10) ∷ []) (0 ∷ 0 ∷ 0 ∷ 0 ∷ 2 ∷ [])

abbrev pub partnered_lamp : List ℤ
partnered_lamp = placed_entry 55 (whole (zeros 4) ∷ whole (1 ∷ 1 ∷ []) ∷ whole (zeros 10) ∷ []) (0 ∷ 0 ∷ 0 ∷ 0 ∷ 2 ∷ [])

-- a wire of E_wire 011 alone, at its line: own number, the start's and the end's state and partner; serial's state
abbrev pub serial_entries : ℕ → List ℕ → ℕ → List (List ℤ)
serial_entries line serial state = wire_pair line [] (zeros 16 ∷ serial ∷ (0 ∷ 0 ∷ 0 ∷ state ∷ []) ∷ [])

-- .. of E_wire 008: power, and the states of length and of circuit and power
abbrev pub powered_entries : List ℕ → ℕ → List (List ℤ)
powered_entries power state = wire_pair 55 (zeros 24 ∷ (1 ∷ []) ∷ []) (zeros 13 ∷ power ∷ zeros 5 ∷ (0 ∷ 1 ∷ state ∷ 0 ∷ []) ∷ [])

-- the wire of `mixed`: counts, both direcs, the first of what repeats
abbrev pub mixed_entries : List (List ℤ)
mixed_entries =
    wire_pair 55
    ((1 ∷ []) ∷ (2 ∷ 0 ∷ 40000 ∷ 50000 ∷ 3600000 ∷ 4 ∷ 0 ∷ 10000 ∷ 0 ∷ []) ∷ (2 ∷ 25000 ∷ 30000 ∷ 90000 ∷ [])
    ∷ (2 ∷ 1 ∷ 3 ∷ 0 ∷ 0 ∷ 1800000 ∷ []) ∷ (0 ∷ []) ∷ (2 ∷ 2 ∷ 2 ∷ 1 ∷ []) ∷ (2 ∷ 0 ∷ []) ∷ [])
    ((2 ∷ 1307 ∷ 10000 ∷ 20000 ∷ 30000 ∷ 40000 ∷ 0 ∷ 450000 ∷ 1 ∷ 703 ∷ 2 ∷ []) ∷ (662 ∷ 5 ∷ []) ∷ (3 ∷ 4 ∷ 173 ∷ [])
    ∷ (7 ∷ 1 ∷ 0 ∷ 2 ∷ 7 ∷ []) ∷ (2 ∷ 2 ∷ 2 ∷ 2 ∷ []) ∷ [])
    ++ edge_entry 56 (0 ∷ 0 ∷ 10000 ∷ 0 ∷ []) 0 ∷ []

abbrev pub arc_entry : ℕ → List ℤ
arc_entry join = entry (from 21 0 1 57 1307 ∷ (minus 50000 ∷ []) ∷ whole (50000 ∷ 30000 ∷ 0 ∷ 900000 ∷ 1 ∷ join ∷ []) ∷ [])

abbrev pub line_and_arc_entries : ℕ → ℕ → List (List ℤ)
line_and_arc_entries digit join =
    six_entries 15 2 2 1 0 0 ++ wire_entries 2 digit ++ edge_entry 56 (0 ∷ 0 ∷ 100000 ∷ 205000 ∷ []) 0 ∷ arc_entry join ∷ point_entry 1 59 10000 ∷ []

abbrev pub two_lines_entries : ℕ → ℕ → ℕ → ℕ → List (List ℤ)
two_lines_entries digit join x y =
    six_entries 15 1 1 1 0 0 ++ wire_entries 2 digit ++ edge_entry 56 (0 ∷ 0 ∷ 1000000 ∷ 500000 ∷ []) 0 ∷ edge_entry 57 (x ∷ y ∷ 0 ∷ 0 ∷ []) join ∷ []

pub cases : List Case
cases =
    -- every wire part but 0 reads a wire's lines and arcs; its two records stand before theirs
    ruled (spool 15 18 (line_and_arc "E_wire=001")) (accepted 11 (line_and_arc_entries 0 0))
    ∷ ruled (spool 1 1 (line_and_arc "E_wire=001")) (accepted 11 (line_and_arc_entries 0 0))
    ∷ ruled (spool 11 11 (line_and_arc "E_wire=001")) (accepted 11 (line_and_arc_entries 0 0))
    -- 0 skips it whole, and counts it: the point behind it is read
    ∷ ruled (spool 15 0 (line_and_arc "E_wire=001")) (accepted 9 (six_entries 15 2 2 1 0 0 ++ unread_entries ++ point_entry 1 59 10000 ∷ []))
    -- a wire without elements
    ∷ ruled (spool 15 18 (wire_of "E_wire=301" [])) (accepted 8 (six_entries 15 1 1 1 0 0 ++ wire_entries 0 3))
    -- "At 4 every end is joined to the next start": by value, untested where an arc takes part; at the others neither tested nor recorded
    ∷ ruled (spool 15 18 (two_lines "E_wire=401" "line=1307,100.00,50,0,0")) (accepted 10 (two_lines_entries 4 1 1000000 500000))
    ∷ ruled (spool 15 18 (two_lines "E_wire=401" "line=1307,100,51,0,0")) (refused 11 1 57)
    ∷ ruled (spool 15 18 (two_lines "E_wire=401" "line=1307,101,50,0,0")) (refused 11 1 57)
    ∷ ruled (spool 15 18 (two_lines "E_wire=301" "line=1307,100,51,0,0")) (accepted 10 (two_lines_entries 3 0 1000000 510000))
    ∷ ruled (spool 15 18 (two_lines "E_wire=201" "line=1307,101,50,0,0")) (accepted 10 (two_lines_entries 2 0 1010000 500000))
    ∷ ruled (spool 15 18 (line_and_arc "E_wire=401")) (accepted 11 (line_and_arc_entries 4 2))
    ∷ ruled (spool 15 0 (two_lines "E_wire=401" "line=1307,100,51,0,0")) (accepted 8 (six_entries 15 1 1 1 0 0 ++ unread_entries))
    ∷ ruled (spool 15 18 (wire_of "E_wire=411" ("line=1307,0,0,100,50" ∷ "line=1307,100,51,0,0" ∷ "serial=1,," ∷ []))) (refused 11 1 57)
    ∷ ruled (spool 15 18 (wire_of "E_wire=211" ("line=1307,0,0,100,50" ∷ "line=1307,100,51,0,0" ∷ "serial=1" ∷ []))) (refused 10 1 58)
    -- "12, for E_wire, now covers values other than 000 and those above, last digit 1 to 8"
    ∷ ruled (spool 15 18 (wire_of "E_wire=501" [])) (refused 12 1 8)
    ∷ ruled (spool 15 18 (wire_of "E_wire=009" [])) (refused 12 1 8)
    ∷ ruled (spool 15 18 (wire_of "E_wire=419" [])) (refused 12 1 8)
    ∷ ruled (spool 15 18 (wire_of "E_wire=010" [])) (refused 12 1 8)
    ∷ ruled (spool 15 18 (wire_of "E_wire=020" [])) (refused 12 1 8)
    ∷ ruled (spool 15 18 (wire_of "E_wire=100" [])) (refused 12 1 8)
    ∷ ruled (spool 15 18 (wire_of "E_wire=01" [])) (refused 10 1 8)
    -- at E_wire 000 there are no wires, at every wire part; elsewhere than in a layer there are none; its own line is never a skipped one
    ∷ ruled (spool 15 18 (wire_of "E_wire=000" [])) (refused 6 1 55)
    ∷ ruled (spool 15 0 (wire_of "E_wire=000" [])) (refused 6 1 55)
    ∷ ruled (spool 15 0 (sheet_of "E_wire=001" "all_ele=1" "this_ele=1" ("E_wire=1" ∷ []))) (refused 5 1 55)
    ∷ ruled (spool 15 18 (wire_of "E_wire=001" ("E_wire:{" ∷ "}" ∷ []))) (refused 6 1 56)
    -- wish 3: six values are for a circle in a symbol; in a wire a circle has seven
    ∷ ruled (spool 15 18 (wire_of "E_wire=001" ("circle=1307,-1,0,2,0,360" ∷ []))) (refused 10 1 56)
    -- values as in figures; other keys are not allowed, and skipped in a wire that is skipped whole
    ∷ ruled (spool 15 18 (wire_of "E_wire=001" ("line=1307,0,0,0,0.0" ∷ []))) (refused 11 1 56)
    ∷ ruled (spool 15 18 (wire_of "E_wire=001" ("line=1307,-1,0,0,0.0" ∷ []))) (refused 11 1 56)
    ∷ ruled (spool 15 18 (wire_of "E_wire=001" ("point=1307,1,1" ∷ []))) (refused 6 1 56)
    ∷ ruled (spool 1 1 (wire_of "E_wire=001" ("length=" ∷ []))) (refused 6 1 56)
    ∷ ruled (spool 15 0 (wire_of "E_wire=001" ("point=nothing" ∷ "character=a:{" ∷ []))) (accepted 8 (six_entries 15 1 1 1 0 0 ++ unread_entries))
    -- "in such a wire an opener directly in the wire's block has depth 1"
    ∷ ruled (spool 15 0 (wire_of "E_wire=001" ("a:{" ∷ "b:{" ∷ "c:{" ∷ "d:{" ∷ "}" ∷ "}" ∷ "}" ∷ "}" ∷ [])))
    (accepted 8 (six_entries 15 1 1 1 0 0 ++ unread_entries))
    ∷ ruled (spool 15 0 (wire_of "E_wire=001" ("a:{" ∷ "b:{" ∷ "c:{" ∷ "d:{" ∷ "e:{" ∷ []))) (refused 18 1 60)
    -- "elements in the order written"
    ∷ ruled (fixed (wire_of "E_wire=401" ("# a comment" ∷ "line=1307,00,0,100.0,50" ∷ "  line=1307,100,50.00,0,0" ∷ [])))
    (writes (written_wire "E_wire=401" ("line=1307,0,0,100,50" ∷ "line=1307,100,50,0,0" ∷ [])))
    -- ── attributes ──
    -- document 000's tenth example: `direc` with three values, `seriarl`, and, these two mended, a partner that is there
    ∷ ruled (spool 15 18 (tenth_behind "direc=1,150,150.0" "seriarl=2,1," "serial=1")) (refused 10 1 65)
    ∷ ruled (spool 15 18 (tenth_behind "direc=1,150,150,0" "seriarl=2,1," "serial=1")) (refused 6 1 75)
    ∷ ruled (spool 15 18 (tenth_behind "direc=1,150,150,0" "serial=2,1," "serial=3")) (refused 21 1 79)
    ∷ ruled (spool 15 18 mended)
    (accepted 14
    (six_entries 11 2 2 1 0 0 ++ lamp_entry 1 2
    ∷ wire_pair 59 (mended_one (1800000 ∷ []) (2 ∷ 2 ∷ 2 ∷ 2 ∷ [])) (mended_more (893 ∷ 6 ∷ []) (1 ∷ 2 ∷ 200 ∷ []) (2 ∷ 2 ∷ 1 ∷ 1 ∷ 0 ∷ []) (2 ∷ 2 ∷ 2 ∷ 2 ∷ []))
    ++ mended_edges))
    -- "with states as in kind 16": 3 where E_wire allows an attribute and the wire part doesn't know it, by each digit for itself
    ∷ ruled (spool 11 16 mended)
    (accepted 14
    (six_entries 11 2 2 1 0 0 ++ lamp_entry 1 2
    ∷ wire_pair 59 (mended_one (1800000 ∷ []) (2 ∷ 2 ∷ 2 ∷ 2 ∷ [])) (mended_more (zeros 2) (zeros 3) (2 ∷ 2 ∷ 1 ∷ 1 ∷ 0 ∷ []) (2 ∷ 3 ∷ 3 ∷ 2 ∷ []))
    ++ mended_edges))
    ∷ ruled (spool 1 5 mended)
    (accepted 14
    (six_entries 11 2 2 1 0 0 ++ lamp_entry 0 3
    ∷ wire_pair 59 (mended_one (0 ∷ []) (2 ∷ 2 ∷ 2 ∷ 3 ∷ [])) (mended_more (zeros 2) (zeros 3) (zeros 5) (2 ∷ 3 ∷ 3 ∷ 3 ∷ [])) ++ mended_edges))
    -- at 0 both are marked, and an attribute that E_wire allows has state 3, another 0
    ∷ ruled (spool 11 0 mended)
    (accepted 9 (six_entries 11 2 2 1 0 0 ++ lamp_entry 1 2 ∷ unread_with 59 (3 ∷ 3 ∷ 3 ∷ 3 ∷ []) (3 ∷ 3 ∷ 3 ∷ 3 ∷ [])))
    ∷ ruled (spool 15 0 (wire_of "E_wire=003" [])) (accepted 8 (six_entries 15 1 1 1 0 0 ++ unread_with 55 (3 ∷ 3 ∷ 0 ∷ 0 ∷ []) (zeros 4)))
    -- counts and the first of what repeats; all of it in the fixed form, by key, "several of one key in the order written"
    ∷ ruled (spool 15 18 (wire_of "E_wire=218" mixed)) (accepted 9 (six_entries 15 1 1 1 0 0 ++ mixed_entries))
    ∷ ruled (fixed (wire_of "E_wire=218" mixed)) (writes (written_wire "E_wire=218" in_order))
    ∷ ruled (fixed (wire_of "E_wire=218" in_order)) (writes (written_wire "E_wire=218" in_order))
    -- "exactly three items"
    ∷ ruled (spool 15 18 (wire_of "E_wire=011" ("serial=2,1" ∷ []))) (refused 10 1 56)
    ∷ ruled (spool 15 18 (wire_of "E_wire=011" ("serial=,1," ∷ []))) (refused 10 1 56)
    ∷ ruled (spool 15 18 (wire_of "E_wire=011" ("serial=2,1,3,4" ∷ []))) (refused 10 1 56)
    ∷ ruled (spool 15 18 (wire_of "E_wire=011" ("serial=2,," ∷ []))) (accepted 8 (six_entries 15 1 1 1 0 0 ++ serial_entries 55 (2 ∷ 1 ∷ 0 ∷ 1 ∷ 0 ∷ []) 2))
    -- power: a row of document 000's table 5, or empty
    ∷ ruled (spool 15 18 (powered "power=1,2,105")) (refused 11 1 58)
    ∷ ruled (spool 15 18 (powered "power=3,4,173")) (accepted 8 (six_entries 15 1 1 1 0 0 ++ powered_entries (3 ∷ 4 ∷ 173 ∷ []) 2))
    ∷ ruled (spool 15 18 (powered "power=")) (accepted 8 (six_entries 15 1 1 1 0 0 ++ powered_entries (zeros 3) 1))
    ∷ ruled (spool 15 18 (powered "power=0,0,0")) (refused 11 1 58)
    ∷ ruled (spool 15 18 (powered "power=1,2,")) (refused 10 1 58)
    ∷ ruled (spool 15 18 (powered "power=1,2,100.0")) (refused 10 1 58)
    ∷ ruled (spool 15 18 (powered "power=01,2,100")) (refused 10 1 58)
    -- num: "all with equal earth and power", at the later line; its angle goes to 180
    ∷ ruled (spool 15 18 (wire_of "E_wire=004" ("num=0,2,1,1,1" ∷ "num=1,2,1,1,1" ∷ []))) (refused 11 1 57)
    ∷ ruled (spool 15 18 (wire_of "E_wire=004" ("num=0,2,1,1,1" ∷ "num=0,3,1,1,1" ∷ []))) (refused 11 1 57)
    ∷ ruled (spool 15 18 (wire_of "E_wire=004" ("num=0,2,1,1,1" ∷ "num=0,02,9,9,9" ∷ "num=0,3,1,1" ∷ []))) (refused 10 1 58)
    ∷ ruled (spool 15 18 (wire_of "E_wire=004" ("num=0,2,1,1,180.0001" ∷ []))) (refused 11 1 56)
    ∷ ruled (spool 15 18 (wire_of "E_wire=004" ("num=2,2,1,1,1" ∷ []))) (refused 11 1 56)
    -- direc: two at most
    ∷ ruled (spool 15 18 (wire_of "E_wire=002" ("direc=1,0,0,0" ∷ "direc=1,0,0,0" ∷ "direc=1,0,0,0" ∷ []))) (refused 11 1 58)
    ∷ ruled (spool 15 18 (wire_of "E_wire=002" ("direc=1,0,0,0" ∷ "direc=1,0,0,0" ∷ "direc=1,0,0" ∷ []))) (refused 10 1 58)
    ∷ ruled (spool 15 18 (wire_of "E_wire=002" ("direc=5,0,0,0" ∷ []))) (refused 11 1 56)
    ∷ ruled (spool 15 18 (wire_of "E_wire=002" ("direc=1,0,0,360.0001" ∷ []))) (refused 11 1 56)
    -- "lines and arcs first, nothing else before or among them", a skipped key neither; whatever the form, where there is one
    ∷ ruled (spool 15 18 (wire_of "E_wire=002" ("direc=1,0,0,0" ∷ "line=1307,0,0,1,0" ∷ []))) (refused 6 1 57)
    ∷ ruled (spool 15 18 (wire_of "E_wire=002" ("line=1307,0,0,1,0" ∷ "direc=1,0,0,0" ∷ "circle=1" ∷ []))) (refused 6 1 58)
    ∷ ruled (spool 15 18 (wire_of "E_wire=002" ("direc=1,0,0,0" ∷ "line=:{" ∷ []))) (refused 5 1 57)
    ∷ ruled (spool 15 1 (wire_of "E_wire=002" ("a=1" ∷ "line=1307,0,0,1,0" ∷ []))) (refused 6 1 57)
    ∷ ruled (spool 15 1 (wire_of "E_wire=002" ("a:{" ∷ "}" ∷ "circle=1307,5,5,3,0,90,1" ∷ []))) (refused 6 1 58)
    ∷ ruled (spool 15 0 (wire_of "E_wire=002" ("a=1" ∷ "line=1307,0,0,1,0" ∷ []))) (accepted 8 (six_entries 15 1 1 1 0 0 ++ unread_with 55 (3 ∷ 0 ∷ 0 ∷ 0 ∷ []) (zeros 4)))
    -- once each, and there where E_wire allows it and the wire part knows it
    ∷ ruled (spool 15 18 (wire_of "E_wire=006" ("length=1" ∷ "length=" ∷ []))) (refused 7 1 57)
    ∷ ruled (spool 15 18 (wire_of "E_wire=006" [])) (refused 8 1 56)
    ∷ ruled (spool 15 18 (wire_of "E_wire=007" ("length=" ∷ []))) (refused 8 1 57)
    ∷ ruled (spool 15 18 (wire_of "E_wire=008" ("length=" ∷ "circuit=" ∷ []))) (refused 8 1 58)
    ∷ ruled (spool 15 18 (wire_of "E_wire=011" [])) (refused 8 1 56)
    ∷ ruled (spool 15 6 (wire_of "E_wire=018" ("circuit=_" ∷ []))) (refused 8 1 57)
    ∷ ruled (spool 15 8 (wire_of "E_wire=011" ("serial=x" ∷ []))) (accepted 8 (six_entries 15 1 1 1 0 0 ++ serial_entries 55 (zeros 5) 3))
    -- values: length is not negative, circuit as a symbol's; `character` is the only free text
    ∷ ruled (spool 15 18 (wire_of "E_wire=006" ("length=-0.0001" ∷ []))) (refused 11 1 56)
    ∷ ruled (spool 15 18 (wire_of "E_wire=007" ("circuit=A_1" ∷ []))) (refused 11 1 56)
    ∷ ruled (spool 15 18 (wire_of "E_wire=007" ("circuit=A:{" ∷ []))) (refused 5 1 56)
    ∷ ruled (spool 15 18 (wire_of "E_wire=005" ("text:{" ∷ "hight=1" ∷ []))) (refused 6 1 57)
    ∷ ruled (spool 15 18 (wire_of "E_wire=005" ("text:{" ∷ "character=a:{" ∷ "}" ∷ []))) (refused 8 1 58)
    -- "document 01's range class rules, with E_wire's last two digits and the wire part": known and not allowed; unknown, and a digit exceeds or not
    ∷ ruled (spool 15 18 (wire_of "E_wire=001" ("direc=1,0,0,0" ∷ []))) (refused 6 1 56)
    ∷ ruled (spool 15 18 (wire_of "E_wire=008" ("serial=1,," ∷ []))) (refused 6 1 56)
    ∷ ruled (spool 15 18 (wire_of "E_wire=002" ("a=1" ∷ []))) (refused 6 1 56)
    ∷ ruled (spool 15 2 (wire_of "E_wire=402" ("a=1" ∷ []))) (refused 6 1 56)
    ∷ ruled (spool 15 11 (wire_of "E_wire=003" ("direc=x" ∷ "a:{" ∷ "}" ∷ [])))
    (accepted 8 (six_entries 15 1 1 1 0 0 ++ wire_pair 55 (zeros 21 ∷ (3 ∷ 3 ∷ []) ∷ []) []))
    -- "a direct opener has depth 1", in a wire that is read and in one that is skipped whole
    ∷ ruled (spool 15 1 (wire_of "E_wire=002" (nested 4))) (accepted 8 (six_entries 15 1 1 1 0 0 ++ wire_pair 55 (zeros 21 ∷ (3 ∷ []) ∷ []) []))
    ∷ ruled (spool 15 1 (wire_of "E_wire=002" (nested 5))) (refused 18 1 60)
    ∷ ruled (spool 15 0 (wire_of "E_wire=002" (nested 4))) (accepted 8 (six_entries 15 1 1 1 0 0 ++ unread_with 55 (3 ∷ 0 ∷ 0 ∷ 0 ∷ []) (zeros 4)))
    ∷ ruled (spool 15 0 (wire_of "E_wire=002" (nested 5))) (refused 18 1 60)
    ∷ ruled (spool 15 1 (wire_of "E_wire=005" ("text:{" ∷ "character=a:{" ∷ "}" ∷ [])))
    (accepted 8 (six_entries 15 1 1 1 0 0 ++ wire_pair 55 (zeros 21 ∷ (3 ∷ 3 ∷ 3 ∷ []) ∷ []) (zeros 21 ∷ (3 ∷ []) ∷ [])))
    -- ── serials ──
    -- "A wire's serial must differ from every symbol's and wire's", as numbers, where both are read
    ∷ ruled (spool 15 18 (two (lamp "serial=1") (numbered "serial=01,,"))) (refused 15 1 60)
    ∷ ruled (spool 15 18 (two (numbered "serial=1,,") (lamp "serial=01"))) (refused 15 1 60)
    ∷ ruled (spool 15 18 (two (numbered "serial=1,,") (numbered "serial=1,,"))) (refused 15 1 59)
    ∷ ruled (spool 1 11 (two (lamp "serial=1") (numbered "serial=01,,")))
    (accepted 9 (six_entries 11 2 2 1 0 0 ++ lamp_entry 0 3 ∷ serial_entries 59 (1 ∷ 1 ∷ 0 ∷ 1 ∷ 0 ∷ []) 2))
    ∷ ruled (spool 11 1 (two (lamp "serial=1") (numbered "serial=01,,"))) (accepted 9 (six_entries 11 2 2 1 0 0 ++ lamp_entry 1 2 ∷ serial_entries 59 (zeros 5) 3))
    -- "partners must exist by the end of the set": behind the one that names it too, its own number; 0 is a number
    ∷ ruled (spool 15 18 (two (numbered "serial=2,1,02") (lamp "serial=1")))
    (accepted 9 (six_entries 11 2 2 1 0 0 ++ serial_entries 55 (2 ∷ 2 ∷ 1 ∷ 2 ∷ 2 ∷ []) 2 ++ lamp_at 58 ∷ []))
    ∷ ruled (spool 15 18 (counted "all_ele=1" "this_ele=1" (numbered "serial=2,3,"))) (refused 21 1 (eof_behind 3))
    ∷ ruled (spool 15 18 (counted "all_ele=1" "this_ele=1" (numbered "serial=2,,0"))) (refused 21 1 (eof_behind 3))
    -- a symbol's partner, where no wire stands too
    ∷ ruled (spool 15 18 (counted "all_ele=1" "this_ele=1" (lamp "serial=1,3"))) (refused 21 1 (eof_behind 4))
    -- "at EOF after 17"
    ∷ ruled (spool 15 18 (counted "all_ele=2" "this_ele=1" (numbered "serial=2,3,"))) (refused 17 1 (eof_behind 3))
    -- "where file and class both know serials of symbols and of wires"
    ∷ ruled (spool 5 18 (counted "all_ele=1" "this_ele=1" (numbered "serial=2,3,")))
    (accepted 8 (six_entries 11 1 1 1 0 0 ++ serial_entries 55 (2 ∷ 2 ∷ 3 ∷ 1 ∷ 0 ∷ []) 2))
    ∷ ruled (spool 15 8 (counted "all_ele=1" "this_ele=1" (lamp "serial=1,3"))) (accepted 7 (six_entries 11 1 1 1 0 0 ++ partnered_lamp ∷ []))
    ∷ ruled (spool 15 18 (astray "E_sym=001" "E_wire=011" (numbered "serial=2,3,")))
    (accepted 8 (six_entries 1 1 1 1 0 0 ++ serial_entries 55 (2 ∷ 2 ∷ 3 ∷ 1 ∷ 0 ∷ []) 2))
    ∷ ruled (spool 15 18 (astray "E_sym=011" "E_wire=008" (lamp "serial=1,3"))) (accepted 7 (six_entries 11 1 1 1 0 0 ++ partnered_lamp ∷ []))
    ∷ []

pub wire_rulings : map (λ c. ruling (asked c)) cases ≡ map expected cases
unfolding cases read_answer read_records written
wire_rulings = refl

-- ── demand 3, tried on short wires: "If the higher accepts, the lower accepts with the same records, except that attributes the file's range
-- allows and the lower doesn't know are marked unread" ──
-- an attribute: its record's kind, the digits from which on it is known, its first place, how many it has, its state's place; two lines of it,
-- or one
pub record Tried : Type 0 where
  pub kind : ℕ
  pub least : Digits
  pub place : ℕ
  pub wide : ℕ
  pub state : ℕ
  pub lines : Lines

abbrev pub tried : ℕ → Digits → ℕ → ℕ → ℕ → Lines → Tried
tried k l p n q ls = record { kind = k; least = l; place = p; wide = n; state = q; lines = ls }

abbrev pub every_attribute : List Tried
every_attribute =
    tried 18 (digits 0 2) 6 9 26 ("direc=1,2,3,4" ∷ "direc=4,3,2,1" ∷ [])
    ∷ tried 18 (digits 0 3) 15 4 27 ("piend=1,2,3" ∷ "piend=3,2,1" ∷ [])
    ∷ tried 18 (digits 0 4) 19 6 28 ("num=1,2,3,4,5" ∷ "num=1,2,5,4,3" ∷ [])
    ∷ tried 19 (digits 0 5) 5 11 26 ("text:{" ∷ "character=a:{" ∷ "type=1307,1,2,3,4,5,6,1" ∷ "}" ∷ [])
    ∷ tried 18 (digits 0 6) 25 1 29 ("length=1.5" ∷ [])
    ∷ tried 19 (digits 0 7) 16 2 27 ("circuit=A-1" ∷ [])
    ∷ tried 19 (digits 0 8) 18 3 28 ("power=3,3,66000" ∷ [])
    ∷ tried 19 (digits 1 0) 21 5 29 ("serial=2,2," ∷ []) ∷ []

-- the wire that has all that E_wire's digits allow
abbrev pub allowed_lines : Digits → List Tried → Lines
allowed_lines d [] = []
allowed_lines d (a ∷ as') = cond (reaches d a.least) a.lines [] ++ allowed_lines d as'

abbrev pub rich_wire : S.String → ℕ → List ℕ
rich_wire ewire range =
    sheet_of ewire "all_ele=2" "this_ele=2"
    (wire_lines ("line=1307,0,0,1,0" ∷ "circle=1307,5,5,3,0,90,1" ∷ allowed_lines (digits_of range) every_attribute) ++ "point=1307,1,1" ∷ [])

abbrev pub is_kind : List ℕ → List ℤ → Bool
is_kind ks [] = false
is_kind ks (pos k ∷ r) = has_number k ks
is_kind ks (negsuc k ∷ r) = false

abbrev pub lower_one : Digits → Digits → Tried → List ℤ → List ℤ
lower_one part file a r =
    cond (is_kind (a.kind ∷ []) r && hides part file a.least) (set (sets r a.place (replicate a.wide (pos 0))) a.state (pos 3)) r

abbrev pub lower_each : Digits → Digits → List Tried → List ℤ → List ℤ
lower_each part file [] r = r
lower_each part file (a ∷ as') r = lower_one part file a (lower_each part file as' r)

-- "the records at its own line stand as said for 0": no elements, no first digit, the mark
abbrev pub pass_over : ℕ → List ℤ → List ℤ
pass_over zero r = cond (is_kind (18 ∷ 19 ∷ []) r) (set (set (set r 5 (pos 0)) 30 (pos 0)) 31 (pos 3)) r
pass_over (suc n) r = r

-- "and those of later lines are left out of its list"
abbrev pub left_out : ℕ → List ℤ → Bool
left_out zero r = is_kind (20 ∷ 21 ∷ []) r
left_out (suc n) r = false

abbrev pub lowered : ℕ → ℕ → List (List ℤ) → List (List ℤ)
lowered part range [] = []
lowered part range (r ∷ rs) =
    cond (left_out part r) [] (pass_over part (lower_each (digits_of part) (digits_of range) every_attribute r) ∷ []) ++ lowered part range rs

-- a file's E_wire, as its line and as a number; a higher and a lower wire part
pub record Trial : Type 0 where
  pub line : S.String
  pub range : ℕ
  pub higher : ℕ
  pub lower : ℕ

abbrev pub trial : S.String → ℕ → ℕ → ℕ → Trial
trial l r h w = record { line = l; range = r; higher = h; lower = w }

abbrev pub records_at : ℕ → List ℕ → List (List ℤ)
records_at part s = read_records 15 part (own_records * width) s

abbrev pub at_lower : Trial → List (List ℤ)
at_lower t = records_at t.lower (rich_wire t.line t.range)

abbrev pub from_higher : Trial → List (List ℤ)
from_higher t = lowered t.lower t.range (records_at t.higher (rich_wire t.line t.range))

pub trials : List Trial
trials =
    trial "E_wire=018" 18 18 0 ∷ trial "E_wire=018" 18 18 1 ∷ trial "E_wire=018" 18 18 11 ∷ trial "E_wire=018" 18 18 8
    ∷ trial "E_wire=018" 18 18 14 ∷ trial "E_wire=018" 18 15 4 ∷ trial "E_wire=418" 418 8 6 ∷ trial "E_wire=418" 418 17 0
    ∷ trial "E_wire=005" 5 18 11 ∷ trial "E_wire=005" 5 18 3 ∷ trial "E_wire=105" 105 11 0 ∷ trial "E_wire=311" 311 18 8
    ∷ trial "E_wire=001" 1 18 0 ∷ trial "E_wire=302" 302 2 1 ∷ []

abbrev pub same_numbers : List ℤ → List ℤ → Bool
same_numbers [] [] = true
same_numbers [] (y ∷ v) = false
same_numbers (x ∷ u) [] = false
same_numbers (x ∷ u) (y ∷ v) = equal_z x y && same_numbers u v

abbrev pub same_records : List (List ℤ) → List (List ℤ) → Bool
same_records [] [] = true
same_records [] (y ∷ v) = false
same_records (x ∷ u) [] = false
same_records (x ∷ u) (y ∷ v) = same_numbers x y && same_records u v

-- every one of them is accepted: none has no records
abbrev pub demanded : Trial → Bool
demanded t = not (is_nil (at_lower t)) && same_records (at_lower t) (from_higher t)

pub short_wires : all demanded trials ≡ true
unfolding trials read_records
short_wires = refl

-- "If the lower refuses, the higher refuses too, at the same line or before it": odd wires, at each pair of a higher and a lower wire part
abbrev pub odd_wires : List Lines
odd_wires =
    ("a=1" ∷ "line=1307,0,0,1,0" ∷ [])
    ∷ ("direc=1" ∷ "circle=" ∷ [])
    ∷ ("piend=x" ∷ "length=1" ∷ "length=2" ∷ [])
    ∷ ("text:{" ∷ "character=a:{" ∷ "b:{" ∷ "}" ∷ "}" ∷ [])
    ∷ ("serial=1" ∷ "power=:{" ∷ [])
    ∷ ("circuit=a:{" ∷ "c:{" ∷ "d:{" ∷ "e:{" ∷ "f:{" ∷ [])
    ∷ ("line=1307,0,0,1,0" ∷ "EOF" ∷ []) ∷ []

abbrev pub no_later : ℕ → ℕ → ℕ → ℕ → Bool
no_later lowNumber lowLine highNumber highLine = eqb lowNumber 0 || (not (eqb highNumber 0) && leb highLine lowLine)

abbrev pub holds_of : ℕ → ℕ → List ℕ → Bool
holds_of high low s =
    let h = read_answer 15 high (own_records * width) s in
    let l = read_answer 15 low (own_records * width) s in
    no_later (answer_number l) (answer_line l) (answer_number h) (answer_line h)

pub oddWiresRefused :
    all (λ inside. holds_of 18 1 (wire_of "E_wire=018" inside) && (holds_of 18 14 (wire_of "E_wire=018" inside) && holds_of 14 0 (wire_of "E_wire=018" inside)))
    odd_wires ≡ true
unfolding read_answer
oddWiresRefused = refl
