-- What a key may hold: the values between commas, texts, words; how they are read, with the numbers 10 to 14, and written.
-- (Document 01, "Lines", "Blocks" and "Figures"; the tables of keys in Blocks and Figures are made of these.)
use Rattle.std.specs.Prelude.{ℕ, ◌+◌, ◌-◌, ◌/◌, ◌%◌, Bool, true, false, cond, ◌&&◌, ◌||◌, not, List, [], ◌∷◌, ◌++◌, map, eqb, leb, ltb, ℤ, pos, negsuc, length, get_or, take, drop, Option, Some, None}
use Rattle.std.specs.Int.Signed.{lt_z, le_z}
use Rattle.rules.specs.Base.{bytes, all, flat, among, same, index_of, has_number, within, Cut, whole, parts, cut, split, join}
use Rattle.rules.specs.RefusalNumbers.{Got, got, bad, unless, map_g, or_bad, keep, cons_g}
use Rattle.rules.specs.Numbers.{is_digit, digit_run, value, read_count, read_fixed, is_day, is_clock, read_decimal, fixed_onto, fixed, show_count, show_decimal}

-- ── what is kept ──
-- A number as read. (Wish 5 adds how many fraction digits were written.)
pub record Num : Type 0 where
  pub value : ℤ

abbrev pub num : ℤ → Num
num z = record { value = z }

-- What one line holds: nothing ("empty"); numbers; a text, its place in the spool and its bytes; a serial number and its partners.
pub data Value : Type 0 where
  empty : Value
  nums : List Num → Value
  chars : ℕ → List ℕ → Value
  linked : ℕ → List ℕ → Value

-- What a value may name: the symbols' names and the layers' ids, in the order of their definition.
pub record Known : Type 0 where
  pub symbols : List (List ℕ)
  pub layers : List (List ℕ)

-- ── sets of bytes ──
abbrev pub is_letter : ℕ → Bool
is_letter b = within 65 90 b || within 97 122 b

pub data Bytes : Type 0 where
  any_bytes ascii letters_and_digits telephone circuit_bytes : Bytes

abbrev pub byte_in : Bytes → ℕ → Bool
byte_in any_bytes b = true
byte_in ascii b = within 32 126 b
byte_in letters_and_digits b = is_letter b || is_digit b
byte_in telephone b = is_digit b || (eqb b 45 || (eqb b 40 || eqb b 41))
byte_in circuit_bytes b = is_letter b || (is_digit b || (eqb b 45 || eqb b 46))

-- "a-z read as A-Z"
abbrev pub capital : ℕ → ℕ
capital b = cond (within 97 122 b) (b - 32) b

-- a layer's id: "one of B A E P M, `_`, three digits"
abbrev pub is_layer_id : List ℕ → Bool
is_layer_id [] = false
is_layer_id (l ∷ s) = has_number l (bytes "BAEPM") && (same (take 1 s) (bytes "_") && digit_run 3 3 (drop 1 s))

-- ── one value between commas ──
-- the sign and limit of a decimal: "Angles are 0 to 360 inclusive"; "Radius, axes, width, height above zero; gap not negative";
-- "In layers no coordinate is negative but the two centres; in symbols any sign."
pub data Bound : Type 0 where
  any_sign not_negative above_zero angle half_turn : Bound

abbrev pub in_bound : Bound → ℤ → Bool
in_bound any_sign z = true
in_bound not_negative z = le_z (pos 0) z
in_bound above_zero z = lt_z (pos 0) z
in_bound angle z = le_z (pos 0) z && le_z z (pos 3600000)
in_bound half_turn z = le_z (pos 0) z && le_z z (pos 1800000)

pub data Part : Type 0 where
  count : Part  -- 1 to 9 digits
  digit : ℕ → ℕ → Part  -- one digit, lo to hi (else 11): turn, upright, pos
  type_digits : Part  -- "Type is four digits": the first value of a figure
  range : ℕ → ℕ → Part  -- three digits, lo to hi (else 12)
  range_of_symbols : Part  -- E_sym: three digits, 000 to 005 or 011 to 015 (else 12)
  range_of_wires : Part  -- E_wire: three digits, 000 or those of `served_wires` (else 12)
  day clock : Part  -- a date, a time
  decimal : Bound → Part  -- a decimal, within the bound (else 11)
  exactly : ℕ → Part  -- a decimal of this value, in ten-thousandths (else 10): the angles of a whole circle
  symbol_name : Part  -- a defined symbol's name (else 13): its number
  layer_id : Part  -- a layer's id (else 11) that is declared (else 14): its number

abbrev pub served_symbols : ℕ → Bool
served_symbols n = within 0 5 n || within 11 15 n

-- "12, for E_wire, now covers values other than 000 and those above": the first digit 0 to 4, the middle and the last
-- 0 or 1 and 1 to 8
abbrev pub most_join_digit : ℕ
most_join_digit = 4

abbrev pub most_wire_middle : ℕ
most_wire_middle = 1

abbrev pub most_wire_last : ℕ
most_wire_last = 8

abbrev pub served_wires : ℕ → Bool
served_wires n = eqb n 0 || (leb (n / 100) most_join_digit && (leb (n / 10 % 10) most_wire_middle && within 1 most_wire_last (n % 10)))

abbrev pub equal_z : ℤ → ℤ → Bool
equal_z a b = le_z a b && le_z b a

abbrev pub natural : Got ℕ → Got Num
natural g = map_g (λ n. num (pos n)) g

abbrev pub read_part : Known → Part → List ℕ → Got Num
read_part k count s = natural (or_bad 10 (read_count 9 s))
read_part k (digit lo hi) s = natural (keep 11 (within lo hi) (or_bad 10 (read_fixed 1 s)))
read_part k type_digits s = natural (or_bad 10 (read_fixed 4 s))
read_part k (range lo hi) s = natural (keep 12 (within lo hi) (or_bad 10 (read_fixed 3 s)))
read_part k range_of_symbols s = natural (keep 12 served_symbols (or_bad 10 (read_fixed 3 s)))
read_part k range_of_wires s = natural (keep 12 served_wires (or_bad 10 (read_fixed 3 s)))
read_part k day s = natural (keep 10 is_day (or_bad 10 (read_fixed 8 s)))
read_part k clock s = natural (keep 10 is_clock (or_bad 10 (read_fixed 6 s)))
read_part k (decimal b) s = map_g num (keep 11 (in_bound b) (or_bad 10 (read_decimal s)))
read_part k (exactly n) s = map_g num (keep 10 (equal_z (pos n)) (or_bad 10 (read_decimal s)))
read_part k symbol_name s = natural (or_bad 13 (index_of s k.symbols))
read_part k layer_id s = unless (is_layer_id s) 11 (natural (or_bad 14 (index_of s k.layers)))

-- the number as a natural one
abbrev pub amount : Num → ℕ
amount n = size_of n.value
  where
    size_of : ℤ → ℕ
    size_of (pos n) = n
    size_of (negsuc n) = 0

abbrev pub show_part : Known → Part → Num → List ℕ
show_part k count n = show_count 9 (amount n)
show_part k (digit lo hi) n = fixed 1 (amount n)
show_part k type_digits n = fixed 4 (amount n)
show_part k (range lo hi) n = fixed 3 (amount n)
show_part k range_of_symbols n = fixed 3 (amount n)
show_part k range_of_wires n = fixed 3 (amount n)
show_part k day n = fixed 8 (amount n)
show_part k clock n = fixed 6 (amount n)
show_part k (decimal b) n = show_decimal n.value
show_part k (exactly m) n = show_decimal n.value
show_part k symbol_name n = get_or k.symbols (amount n) []
show_part k layer_id n = get_or k.layers (amount n) []

-- "a wrong count of values" is 10
abbrev pub read_all : Known → List Part → List (List ℕ) → Got (List Num)
read_all k [] [] = got []
read_all k [] (s ∷ ss) = bad 10
read_all k (p ∷ ps) [] = bad 10
read_all k (p ∷ ps) (s ∷ ss) = cons_g (read_part k p s) (read_all k ps ss)

abbrev pub show_all : Known → List Part → List Num → List (List ℕ)
show_all k [] v = []
show_all k (p ∷ ps) [] = []
show_all k (p ∷ ps) (n ∷ v) = show_part k p n ∷ show_all k ps v

-- ── rules across the values of a line (11) ──
pub data Across : Type 0 where
  nothing_more : Across
  ends_differ : Across  -- line: "ends differ in value"
  arc_of_circle : Across  -- circle: "start and end differ"
  axes_of_ellipse : Across  -- ellipse: "long > short", start and end differ
  served_power : Across  -- a wire's power: phase, wires and volts are a row of document 000's table

abbrev pub value_at : List Num → ℕ → ℤ
value_at v i = (get_or v i (num (pos 0))).value

-- document 000, table 5: phase, wires, volts
abbrev pub powers : List (List ℕ)
powers =
    (1 ∷ 2 ∷ 100 ∷ []) ∷ (1 ∷ 2 ∷ 200 ∷ []) ∷ (1 ∷ 2 ∷ 231 ∷ []) ∷ (1 ∷ 3 ∷ 200 ∷ []) ∷ (3 ∷ 3 ∷ 200 ∷ []) ∷ (3 ∷ 3 ∷ 400 ∷ [])
    ∷ (3 ∷ 3 ∷ 3300 ∷ []) ∷ (3 ∷ 3 ∷ 6600 ∷ []) ∷ (3 ∷ 3 ∷ 22000 ∷ []) ∷ (3 ∷ 3 ∷ 33000 ∷ []) ∷ (3 ∷ 3 ∷ 66000 ∷ []) ∷ (3 ∷ 4 ∷ 173 ∷ [])
    ∷ (3 ∷ 4 ∷ 400 ∷ []) ∷ []

abbrev pub agree : Across → List Num → Bool
agree nothing_more v = true
agree ends_differ v = not (equal_z (value_at v 1) (value_at v 3) && equal_z (value_at v 2) (value_at v 4))
agree arc_of_circle v = not (equal_z (value_at v 4) (value_at v 5))
agree axes_of_ellipse v = lt_z (value_at v 4) (value_at v 3) && not (equal_z (value_at v 5) (value_at v 6))
agree served_power v = among (map amount v) powers

-- ── circles ──
-- a centre's x or y; "Radius, axes, width, height above zero", a factor too; "Angles are 0 to 360 inclusive"; "Turn and upright are 0 or 1"
abbrev pub centre : Part
centre = decimal any_sign

abbrev pub measure : Part
measure = decimal above_zero

abbrev pub degrees : Part
degrees = decimal angle

abbrev pub flag : Part
flag = digit 0 1

-- type,cx,cy,radius,start,end,turn: those behind the type, and all
abbrev pub arc_rest : List Part
arc_rest = centre ∷ centre ∷ measure ∷ degrees ∷ degrees ∷ flag ∷ []

abbrev pub arc_parts : List Part
arc_parts = type_digits ∷ arc_rest

-- Document 02, wish 3: "Inside a symbol's `element`, a circle from 0 to 360 may have six values. Its turn is recorded as -1 and it is written
-- back with six. Arcs still need seven .. six values for an arc are 10."
abbrev pub whole_turn : ℕ
whole_turn = 3600000

abbrev pub whole_parts : List Part
whole_parts = type_digits ∷ centre ∷ centre ∷ measure ∷ exactly 0 ∷ exactly whole_turn ∷ []

abbrev pub no_turn : Num
no_turn = num (negsuc 0)

abbrev pub read_circle : Known → List (List ℕ) → Got (List Num)
read_circle k ss =
    cond (eqb (length ss) 6)
    (map_g (λ v. v ++ no_turn ∷ []) (read_all k whole_parts ss))
    (keep 11 (agree arc_of_circle) (read_all k arc_parts ss))

-- no turn was written: nothing that is written reads as a turn below 0
abbrev pub is_turnless : List Num → Bool
is_turnless v = lt_z (value_at v 6) (pos 0)

abbrev pub show_circle : Known → List Num → List (List ℕ)
show_circle k v = show_all k (cond (is_turnless v) whole_parts arc_parts) v

-- ── a key's content ──
pub data Kind : Type 0 where
  values : Part → List Part → Across → Kind  -- one value or more, between commas
  text : ℕ → Bytes → Kind  -- free text of at most so many bytes of a set
  word : ℕ → Bytes → Kind  -- the same, not free text
  volume_name : Kind  -- next_file
  sheet : Kind  -- size
  ratio : Kind  -- scale
  serials : Kind  -- serial: own number and partners
  wire_serial : Kind  -- a wire's serial: own number, and the start's and the end's partner, each of which may be empty
  symbol_circle : Kind  -- a circle in a symbol: the seven values of an arc, or the six of a whole circle
  nothing : Kind  -- `NON=`
  opens : ℕ → Kind  -- `key:{`; the number of the inner block
  headed : ℕ → Part → Kind  -- `key=content:{`
  either : ℕ → Kind  -- `key=000` alone, or `key=001:{`

abbrev pub is_free : Kind → Bool
is_free (values p ps a) = false
is_free (text n b) = true
is_free (word n b) = false
is_free volume_name = false
is_free sheet = false
is_free ratio = false
is_free serials = false
is_free wire_serial = false
is_free symbol_circle = false
is_free nothing = false
is_free (opens i) = false
is_free (headed i p) = false
is_free (either i) = false

-- "`size` A0 to A4, or n then A0 or A1 with n one of 4, 9, 16, 25, 36, 49, 64, 81"
abbrev pub multipliers : List ℕ
multipliers = 4 ∷ 9 ∷ 16 ∷ 25 ∷ 36 ∷ 49 ∷ 64 ∷ 81 ∷ []

-- each sheet's name, with its n (1 if none) and its A number
abbrev pub plain_sheets : List (List ℕ × ℕ × ℕ)
plain_sheets =
    (bytes "A0", 1, 0) ∷ (bytes "A1", 1, 1) ∷ (bytes "A2", 1, 2) ∷ (bytes "A3", 1, 3) ∷ (bytes "A4", 1, 4) ∷ []

abbrev pub large_sheets : List ℕ → List (List ℕ × ℕ × ℕ)
large_sheets [] = []
large_sheets (n ∷ ns) = (show_count 2 n ++ bytes "A0", n, 0) ∷ (show_count 2 n ++ bytes "A1", n, 1) ∷ large_sheets ns

unfoldable pub sheets : List (List ℕ × ℕ × ℕ)
unfolding fixed_onto
sheets = plain_sheets ++ large_sheets multipliers

abbrev pub two_nums : ℕ → ℕ → List Num
two_nums a b = num (pos a) ∷ num (pos b) ∷ []

abbrev pub find_sheet : List ℕ → List (List ℕ × ℕ × ℕ) → Option (List Num)
find_sheet s [] = None
find_sheet s (a ∷ as') = cond (same s a.0) (Some (two_nums a.1 a.2)) (find_sheet s as')

abbrev pub show_sheet : ℕ → ℕ → List ℕ
show_sheet n a = cond (eqb n 1) [] (show_count 2 n) ++ 65 ∷ fixed 1 a

-- "`scale` p, or p/q with p < q, counts 1 to 99,999"; q is 1 if none
abbrev pub good_ratio : List Num → Bool
good_ratio [] = false
good_ratio (p ∷ []) = within 1 99999 (amount p)
good_ratio (p ∷ q ∷ []) = within 1 99999 (amount p) && (within 1 99999 (amount q) && ltb (amount p) (amount q))
good_ratio (p ∷ q ∷ r ∷ v) = false

abbrev pub with_one : List Num → List Num
with_one [] = []
with_one (p ∷ []) = p ∷ num (pos 1) ∷ []
with_one (p ∷ q ∷ v) = p ∷ q ∷ v

-- one or two counts joined by `/`
abbrev pub ratio_parts : Cut → List (List ℕ) → List (List ℕ)
ratio_parts whole s = s
ratio_parts (parts a b) s = a ∷ b ∷ []

abbrev pub read_counts : List (List ℕ) → Got (List Num)
read_counts [] = got []
read_counts (s ∷ ss) = cons_g (natural (or_bad 10 (read_count 9 s))) (read_counts ss)

abbrev pub read_ratio : List ℕ → Got (List Num)
read_ratio s = map_g with_one (keep 11 good_ratio (read_counts (ratio_parts (cut 47 s) (s ∷ []))))

abbrev pub show_ratio : ℕ → ℕ → List ℕ
show_ratio p q = cond (eqb q 1) (show_count 9 p) (show_count 9 p ++ 47 ∷ show_count 9 q)

-- "`serial`, own number then 0 to 100 partners, 1 to 10 digits each"
abbrev pub most_partners : ℕ
most_partners = 100

abbrev pub read_serials : List (List ℕ) → Got (List ℕ)
read_serials [] = got []
read_serials (s ∷ ss) = cons_g (or_bad 10 (read_count 10 s)) (read_serials ss)

abbrev pub linked_of : List ℕ → Value
linked_of [] = empty
linked_of (n ∷ ps) = linked n ps

abbrev pub show_serials : List ℕ → List (List ℕ)
show_serials [] = []
show_serials (n ∷ ns) = show_count 10 n ∷ show_serials ns

-- "own,start,end": the own number, and of each partner its state (1 empty, 2 given) and number
abbrev pub read_partner : List ℕ → Got (List Num)
read_partner [] = got (two_nums 1 0)
read_partner (b ∷ s) = map_g (λ n. two_nums 2 n) (or_bad 10 (read_count 10 (b ∷ s)))

abbrev pub read_wire_serial : List (List ℕ) → Got (List Num)
read_wire_serial [] = bad 10
read_wire_serial (o ∷ []) = bad 10
read_wire_serial (o ∷ a ∷ []) = bad 10
read_wire_serial (o ∷ a ∷ b ∷ []) = cons_g (natural (or_bad 10 (read_count 10 o))) (map_g flat (cons_g (read_partner a) (cons_g (read_partner b) (got []))))
read_wire_serial (o ∷ a ∷ b ∷ c ∷ s) = bad 10

abbrev pub show_partner : ℕ → ℕ → List ℕ
show_partner state n = cond (eqb state 2) (show_count 10 n) []

abbrev pub read_text : ℕ → Bytes → ℕ → List ℕ → Got Value
read_text n b at c = unless (all (byte_in b) c && leb (length c) n) 11 (got (chars at c))

-- content that is not empty, at a place; `nothing` and `opens` have none, so their 5 is never reached (`Rows: fits` refuses the line before)
abbrev pub read_kind : Known → Kind → ℕ → List ℕ → Got Value
read_kind k (values p ps a) at c = map_g nums (keep 11 (agree a) (read_all k (p ∷ ps) (split 44 c)))
read_kind k (text n b) at c = read_text n b at c
read_kind k (word n b) at c = read_text n b at c
read_kind k volume_name at c = unless (all (byte_in letters_and_digits) c) 11 (got (chars at (map capital c)))
read_kind k sheet at c = map_g nums (or_bad 11 (find_sheet c sheets))
read_kind k ratio at c = map_g nums (read_ratio c)
read_kind k serials at c = map_g linked_of (keep 11 (λ ns. leb (length ns) (most_partners + 1)) (read_serials (split 44 c)))
read_kind k wire_serial at c = map_g nums (read_wire_serial (split 44 c))
read_kind k symbol_circle at c = map_g nums (read_circle k (split 44 c))
read_kind k nothing at c = bad 5
read_kind k (opens i) at c = bad 5
read_kind k (headed i p) at c = map_g (λ n. nums (n ∷ [])) (read_part k p c)
read_kind k (either i) at c = map_g (λ n. nums (n ∷ [])) (read_part k (range 0 1) c)

-- ── written ──
abbrev pub nums_of : Value → List Num
nums_of empty = []
nums_of (nums v) = v
nums_of (chars at c) = []
nums_of (linked n ps) = []

abbrev pub chars_of : Value → List ℕ
chars_of empty = []
chars_of (nums v) = []
chars_of (chars at c) = c
chars_of (linked n ps) = []

abbrev pub serials_of : Value → List ℕ
serials_of empty = []
serials_of (nums v) = []
serials_of (chars at c) = []
serials_of (linked n ps) = n ∷ ps

abbrev pub amount_at : Value → ℕ → ℕ
amount_at v i = amount (get_or (nums_of v) i (num (pos 0)))

-- what stands behind the `=`, without a `:{`
abbrev pub show_kind : Known → Kind → Value → List ℕ
show_kind k (values p ps a) v = join 44 (show_all k (p ∷ ps) (nums_of v))
show_kind k (text n b) v = chars_of v
show_kind k (word n b) v = chars_of v
show_kind k volume_name v = chars_of v
show_kind k sheet v = show_sheet (amount_at v 0) (amount_at v 1)
show_kind k ratio v = show_ratio (amount_at v 0) (amount_at v 1)
show_kind k serials v = join 44 (show_serials (serials_of v))
show_kind k wire_serial v =
    join 44 (show_count 10 (amount_at v 0) ∷ show_partner (amount_at v 1) (amount_at v 2) ∷ show_partner (amount_at v 3) (amount_at v 4) ∷ [])
show_kind k symbol_circle v = join 44 (show_circle k (nums_of v))
show_kind k nothing v = []
show_kind k (opens i) v = []
show_kind k (headed i p) v = show_part k p (get_or (nums_of v) 0 (num (pos 0)))
show_kind k (either i) v = fixed 3 (amount_at v 0)

abbrev pub show_content : Known → Kind → Value → List ℕ
show_content k d empty = []
show_content k d (nums v) = show_kind k d (nums v)
show_content k d (chars at c) = show_kind k d (chars at c)
show_content k d (linked n ps) = show_kind k d (linked n ps)
