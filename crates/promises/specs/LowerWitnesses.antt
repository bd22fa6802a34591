-- Demand 3 is not empty where wires have attributes: one wire with all of them, read at several wire parts, number by number; sets that a
-- lower class accepts and a higher refuses, and one that the higher refuses at an earlier line.
use Rattle.std.specs.Prelude.{ℕ, ◌*◌, List, [], ◌∷◌, ◌++◌, map, ◌≡◌, ℤ, pos, replicate, Result, Ok}
use Prim.Native.String as S
use Rattle.rules.specs.Numbers.{minus}
use Rattle.rules.specs.RecordTable.{width}
use Rattle.rules.specs.Answers.{refusal, read_answer, read_records, full_number, full_wire}
use Rattle.promises.specs.DemandThree.{is_of, filter}
use Rattle.promises.specs.Witnesses.{one_volume, file_lines, lines_with, other_lines}
use Rattle.rules.specs.declared.Refusal.{Refusal}

-- ── sets of one wire ──
-- a layer with one wire of these lines, the first of them number 45, in a file of this E_wire and so many lines
abbrev pub wire_set : S.String → S.String → S.String → List S.String → List ℕ
wire_set range allLine thisLine inside =
    one_volume
    (file_lines ("elec=001:{" ∷ "E_sym=000" ∷ range ∷ "E_cirno=000" ∷ "}" ∷ []) (allLine ∷ thisLine ∷ "all_ele=1" ∷ "this_ele=1" ∷ [])
    ++ other_lines ("E_001=" ∷ []) ("LAYER=E_001:{" ∷ "E_wire:{" ∷ inside ++ "}" ∷ "}" ∷ []) ++ "EOF" ∷ [])

-- every attribute, direc and num twice; the serial at middle digit 1 alone
abbrev pub attribute_lines : List S.String
attribute_lines =
    "line=1307,0,0,10,5" ∷ "circle=1307,-5,5,3,0,90,1" ∷ "direc=1,2,3,90" ∷ "direc=4,5,6.5,0" ∷ "piend=7,8,45" ∷ "num=1,2,9,10,30" ∷ "num=1,2,11,12,60"
    ∷ "text:{" ∷ "type=1307,1,2,3,4,0.5,90,0" ∷ "character=AB" ∷ "}" ∷ "length=12.5" ∷ "circuit=A-1" ∷ "power=1,2,100" ∷ []

unfoldable pub wire418 : List ℕ
wire418 = wire_set "E_wire=418" "all_line=63" "this_line=63" (attribute_lines ++ "serial=7,,9" ∷ [])

unfoldable pub wire408 : List ℕ
wire408 = wire_set "E_wire=408" "all_line=62" "this_line=62" attribute_lines

-- ── its two records, at a wire part ──
abbrev pub wire_records_at : ℕ → List ℕ → List (List ℤ)
wire_records_at wire spool = filter (is_of (18 ∷ 19 ∷ [])) (read_records full_number wire (8 * width) spool)

abbrev pub zeros : ℕ → List ℕ
zeros n = replicate n 0

-- the first: how many elements; direc, piend, num, length; their states; E_wire's first digit, the mark
abbrev pub first_numbers : ℕ → (direc piend num length states : List ℕ) → (digit mark : ℕ) → List ℤ
first_numbers elements direc piend num length states digit mark =
    map pos (18 ∷ 0 ∷ 1 ∷ 44 ∷ 0 ∷ elements ∷ (direc ++ piend ++ num ++ length ++ states ++ digit ∷ mark ∷ []))

-- the second: text, circuit, power, serial; their states, the mark
abbrev pub second_numbers : (text circuit power serial states : List ℕ) → ℕ → List ℤ
second_numbers text circuit power serial states mark = map pos (19 ∷ 0 ∷ 1 ∷ 44 ∷ 0 ∷ (text ++ circuit ++ power ++ serial ++ states ++ 0 ∷ mark ∷ []))

abbrev pub direcs : List ℕ
direcs = 2 ∷ 1 ∷ 20000 ∷ 30000 ∷ 900000 ∷ 4 ∷ 50000 ∷ 65000 ∷ 0 ∷ []

abbrev pub piends : List ℕ
piends = 1 ∷ 70000 ∷ 80000 ∷ 450000 ∷ []

abbrev pub nums : List ℕ
nums = 2 ∷ 1 ∷ 2 ∷ 90000 ∷ 100000 ∷ 300000 ∷ []

-- how many, the first's type, and where its characters stand in the spool
abbrev pub texts : List ℕ
texts = 1 ∷ 1307 ∷ 10000 ∷ 20000 ∷ 30000 ∷ 40000 ∷ 5000 ∷ 900000 ∷ 0 ∷ 612 ∷ 2 ∷ []

abbrev pub circuits : List ℕ
circuits = 640 ∷ 3 ∷ []

abbrev pub powers : List ℕ
powers = 1 ∷ 2 ∷ 100 ∷ []

-- the own number, an empty start, a given end
abbrev pub serials : List ℕ
serials = 7 ∷ 1 ∷ 0 ∷ 2 ∷ 9 ∷ []

abbrev pub states : (a b c d : ℕ) → List ℕ
states a b c d = a ∷ b ∷ c ∷ d ∷ []

-- its line and its arc, at lines 45 and 46: nothing is joined to the first, how the second is joined is untested
abbrev pub edges_at : ℕ → List ℕ → List (List ℤ)
edges_at wire spool = filter (is_of (20 ∷ 21 ∷ [])) (read_records full_number wire (8 * width) spool)

abbrev pub line_and_arc : List (List ℤ)
line_and_arc =
    map pos (20 ∷ 0 ∷ 1 ∷ 45 ∷ 1307 ∷ 0 ∷ 0 ∷ 100000 ∷ 50000 ∷ zeros 23)
    ∷ (map pos (21 ∷ 0 ∷ 1 ∷ 46 ∷ 1307 ∷ []) ++ minus 50000 ∷ map pos (50000 ∷ 30000 ∷ 0 ∷ 900000 ∷ 1 ∷ 2 ∷ zeros 20)) ∷ []

-- ── other sets ──
-- one direc too many: 11 at line 47
unfoldable pub three_direcs : List ℕ
three_direcs = wire_set "E_wire=402" "all_line=51" "this_line=51" ("direc=1,2,3,90" ∷ "direc=1,2,3,90" ∷ "direc=1,2,3,90" ∷ [])

-- no such power, 11 at line 45, and behind it an angle above 180, 11 at line 46
unfoldable pub twice_wrong : List ℕ
twice_wrong = wire_set "E_wire=408" "all_line=50" "this_line=50" ("power=1,2,105" ∷ "num=1,2,9,10,200" ∷ [])

-- a placed symbol of own number 7 and a wire of this serial, both middle digits 1; EOF is line 64
unfoldable pub partners_with : S.String → List ℕ
partners_with serial =
    one_volume
    (file_lines ("elec=001:{" ∷ "E_sym=011" ∷ "E_wire=011" ∷ "E_cirno=000" ∷ "}" ∷ "sym=001:{" ∷ "S_base=000" ∷ "S_elec=001" ∷ "}" ∷ [])
    ("all_line=64" ∷ "this_line=64" ∷ "all_ele=2" ∷ "this_ele=2" ∷ [])
    ++ lines_with ("E_symbol:{" ∷ "name=LAMP" ∷ "element:{" ∷ "circle=1307,0,0,2,0,360,0" ∷ "}" ∷ "hide:{" ∷ "}" ∷ "}" ∷ []) ("E_001=" ∷ [])
    ("LAYER=E_001:{" ∷ "E_symbol:{" ∷ "symbol=LAMP,1,2,90,1.5" ∷ "serial=7" ∷ "}" ∷ "E_wire:{" ∷ serial ∷ "}" ∷ "}" ∷ [])
    ++ "EOF" ∷ [])

-- at the classes with and without serials of symbols, with and without those of wires, and without wires
abbrev pub at_serials : List ℕ → List (Result ℕ Refusal)
at_serials spool =
    read_answer 15 18 (9 * width) spool ∷ read_answer 11 11 (9 * width) spool ∷ read_answer 11 8 (9 * width) spool ∷ read_answer 5 18 (9 * width) spool
    ∷ read_answer 5 8 (9 * width) spool ∷ read_answer 15 0 (9 * width) spool ∷ []

pub record LowerWitnesses : Type 0 where
  -- the fullest class reads all of it; 5 knows direc, piend, num and texts, 2 direc alone, 11 the serial alone; 0 skips the wire whole
  pub full : wire_records_at full_wire wire418
      ≡ first_numbers 2 direcs piends nums (125000 ∷ []) (states 2 2 2 2) 4 0 ∷ second_numbers texts circuits powers serials (states 2 2 2 2) 0 ∷ []
  pub five : wire_records_at 5 wire418
      ≡ first_numbers 2 direcs piends nums (zeros 1) (states 2 2 2 3) 4 0 ∷ second_numbers texts (zeros 2) (zeros 3) (zeros 5) (states 2 3 3 3) 0 ∷ []
  pub two : wire_records_at 2 wire418
      ≡ first_numbers 2 direcs (zeros 4) (zeros 6) (zeros 1) (states 2 3 3 3) 4 0 ∷ second_numbers (zeros 11) (zeros 2) (zeros 3) (zeros 5) (states 3 3 3 3) 0 ∷ []
  pub eleven : wire_records_at 11 wire418
      ≡ first_numbers 2 (zeros 9) (zeros 4) (zeros 6) (zeros 1) (states 3 3 3 3) 4 0 ∷ second_numbers (zeros 11) (zeros 2) (zeros 3) serials (states 3 3 3 2) 0 ∷ []
  pub none : wire_records_at 0 wire418
      ≡ first_numbers 0 (zeros 9) (zeros 4) (zeros 6) (zeros 1) (states 3 3 3 3) 0 3 ∷ second_numbers (zeros 11) (zeros 2) (zeros 3) (zeros 5) (states 3 3 3 3) 3 ∷ []
  -- E_wire's first digit is no digit of the range: where the middle is 0 no serial is allowed, so none is unread
  pub five_below : wire_records_at 5 wire408
      ≡ first_numbers 2 direcs piends nums (zeros 1) (states 2 2 2 3) 4 0 ∷ second_numbers texts (zeros 2) (zeros 3) (zeros 5) (states 2 3 3 0) 0 ∷ []
  pub none_below : wire_records_at 0 wire408
      ≡ first_numbers 0 (zeros 9) (zeros 4) (zeros 6) (zeros 1) (states 3 3 3 3) 0 3 ∷ second_numbers (zeros 11) (zeros 2) (zeros 3) (zeros 5) (states 3 3 3 0) 3 ∷ []
  -- the line and the arc are left out by 0 alone, and are the same at the others
  pub counts : map (λ wire. read_answer full_number wire (8 * width) wire418) (full_wire ∷ 5 ∷ 2 ∷ 11 ∷ 1 ∷ 0 ∷ []) ≡ map Ok (8 ∷ 8 ∷ 8 ∷ 8 ∷ 8 ∷ 6 ∷ [])
  pub edges : map (λ wire. edges_at wire wire418) (full_wire ∷ 1 ∷ 0 ∷ []) ≡ line_and_arc ∷ line_and_arc ∷ [] ∷ []
  -- a class that doesn't know direc doesn't count them; one that refuses may be above one that accepts, not below
  pub too_many : map (λ wire. read_answer full_number wire (6 * width) three_direcs) (full_wire ∷ 2 ∷ 11 ∷ 1 ∷ 0 ∷ [])
      ≡ refusal 11 1 47 ∷ refusal 11 1 47 ∷ Ok 6 ∷ Ok 6 ∷ Ok 6 ∷ []
  -- "at the same line or before it"
  pub before : map (λ wire. read_answer full_number wire (6 * width) twice_wrong) (full_wire ∷ 7 ∷ 4 ∷ 3 ∷ 0 ∷ [])
      ≡ refusal 11 1 45 ∷ refusal 11 1 46 ∷ refusal 11 1 46 ∷ Ok 6 ∷ Ok 6 ∷ []
  -- partners are tested where both serials are known; own numbers where either is
  pub partners : at_serials (partners_with "serial=8,7,9") ≡ refusal 21 1 64 ∷ refusal 21 1 64 ∷ map Ok (9 ∷ 9 ∷ 9 ∷ 9 ∷ [])
  pub found : at_serials (partners_with "serial=8,7,8") ≡ map Ok (9 ∷ 9 ∷ 9 ∷ 9 ∷ 9 ∷ 9 ∷ [])
  pub twice : at_serials (partners_with "serial=7,7,") ≡ refusal 15 1 60 ∷ refusal 15 1 60 ∷ map Ok (9 ∷ 9 ∷ 9 ∷ 9 ∷ [])
