-- What is computed of a placed symbol's tables, and which values its lines have: those of the row `serial` are serial numbers, no others.
use Rattle.std.specs.Prelude.{None}
use Prim.Native.Nat.{ℕ, zero, suc, ◌<◌}
use mathlib.Core.Bool.{Bool, true, false, ◌&&◌, not}
use mathlib.Core.List.{List, [], ◌∷◌, map}
use mathlib.Core.Path.{◌≡◌, refl, sym, ◌∙◌, ap}
use native.Mathlib.Omega.{arith}
use lib.Dec.{eqb, leb}
use lib.ListN.{length, get_or, replicate}
use Rattle.rules.specs.Base.{all, split}
use Rattle.rules.specs.RefusalNumbers.{Got, got, unless, map_g, keep, or_bad}
use Rattle.rules.specs.Lines.{Shape, opener, no_content, content, opening, formless}
use Rattle.rules.specs.Values.{Num, Value, empty, nums, chars, Known, byte_in, letters_and_digits, capital, Kind, values, text, word, volume_name, sheet, ratio, serials, wire_serial, symbol_circle, nothing, opens, headed, either, range, read_part, read_all, read_ratio, read_wire_serial, find_sheet, sheets, agree, read_kind, serials_of, read_circle}
use Rattle.rules.specs.Rows.{Rule, blank, Held, part_of, rows_there, slot_value, entry, begin, inner_of, read_shape}
use Rattle.rules.specs.Figures.{placed_table, text_table, placed_tables}
use Rattle.rules.specs.RecordTable.{rule_at}
use Rattle.rules.specs.Sets.{placed}
use Rattle.standing.specs.Standing.{symbol_links, figure_links}
use Rattle.rules.proofs.Chains.{clash, never, map-got, unless-got}
use Rattle.tables.specs.Tables.{table_of}
use Rattle.entries.specs.Acts.{value_of}
use Rattle.account.specs.Placing.{clear_parts}
use Rattle.standing.proofs.Openers.{plain_kind}
use Rattle.standing.proofs.OwnLines.{housed}

-- ── the tables ──
pub placed-rows : table_of 18 ≡ placed_table
unfolding table_of
placed-rows = refl

pub text-rows : table_of 19 ≡ text_table true 16 24
unfolding table_of
text-rows = refl

pub placed-rows-six : length placed_table ≡ 6
unfolding placed_table
placed-rows-six = refl

pub clear-placed : clear_parts placed_tables ≡ true
unfolding placed_table text_table
clear-placed = refl

pub plain-text : all (λ r. plain_kind r.holds) (text_table true 16 24) ≡ true
unfolding text_table
plain-text = refl

pub placed-places : all housed placed_table ≡ true
unfolding placed_table
placed-places = refl

pub text-places : all housed (text_table true 16 24) ≡ true
unfolding text_table
text-places = refl

-- ── serial numbers ──
abbrev pub is_serials : Kind → Bool
is_serials (values p ps a) = false
is_serials (text n b) = false
is_serials (word n b) = false
is_serials volume_name = false
is_serials sheet = false
is_serials ratio = false
is_serials serials = true
is_serials wire_serial = false
is_serials symbol_circle = false
is_serials nothing = false
is_serials (opens i) = false
is_serials (headed i p) = false
is_serials (either i) = false

nums-plain : (g : Got (List Num)) (v : Value) → map_g nums g ≡ got v → serials_of v ≡ []
nums-plain g v e = let (w, p, q) = map-got nums g v e in ap serials_of (sym q)

one_plain : (g : Got Num) (v : Value) → map_g (λ n. nums (n ∷ [])) g ≡ got v → serials_of v ≡ []
one_plain g v e = let (w, p, q) = map-got (λ n. nums (n ∷ [])) g v e in ap serials_of (sym q)

chars-plain : (t : Bool) (at : ℕ) (c : List ℕ) (v : Value) → unless t 11 (got (chars at c)) ≡ got v → serials_of v ≡ []
chars-plain t at c v e = let (a, b) = unless-got t 11 (got (chars at c)) v e in let q : chars at c ≡ v = cc in ap serials_of (sym q)

read_plain : (k : Known) (d : Kind) (at : ℕ) (c : List ℕ) (v : Value) → is_serials d ≡ false → read_kind k d at c ≡ got v → serials_of v ≡ []
read_plain k (values p ps a) at c v i e = nums-plain (keep 11 (agree a) (read_all k (p ∷ ps) (split 44 c))) v e
read_plain k (text n b) at c v i e = chars-plain (all (byte_in b) c && leb (length c) n) at c v e
read_plain k (word n b) at c v i e = chars-plain (all (byte_in b) c && leb (length c) n) at c v e
read_plain k volume_name at c v i e = chars-plain (all (byte_in letters_and_digits) c) at (map capital c) v e
read_plain k sheet at c v i e = nums-plain (or_bad 11 (find_sheet c sheets)) v e
read_plain k ratio at c v i e = nums-plain (read_ratio c) v e
read_plain k serials at c v i e = clash refl i
read_plain k wire_serial at c v i e = nums-plain (read_wire_serial (split 44 c)) v e
read_plain k symbol_circle at c v i e = nums-plain (read_circle k (split 44 c)) v e
read_plain k nothing at c v i e = never e
read_plain k (opens n) at c v i e = never e
read_plain k (headed n p) at c v i e = one_plain (read_part k p c) v e
read_plain k (either n) at c v i e = one_plain (read_part k (range 0 1) c) v e

-- a row of another kind
pub entry-plain : (k : Known) (i j : ℕ) (r : Rule) (s : Shape) (v : Value) → is_serials r.holds ≡ false → read_shape k i r s ≡ got (entry j v) → serials_of v ≡ []
entry-plain k i j r opener v h e = absurd (let z : ◌≡◌ {A = ℕ} 0 1 = cc in omega arith)
entry-plain k i j r no_content v h e = let q : empty ≡ v = cc in ap serials_of (sym q)
entry-plain k i j r (content at c) v h e =
    let (w, p, q) = map-got (entry i) (read_kind k r.holds at c) (entry j v) e in
    let y : w ≡ v = ap value_of q in
    read_plain k r.holds at c v h (p ∙ ap got y)
entry-plain k i j r (opening at c) v h e =
    let (w, p, q) = map-got (begin (inner_of r.holds) i) (read_kind k r.holds at c) (entry j v) e in absurd (let z : ◌≡◌ {A = ℕ} 0 1 = cc in omega arith)
entry-plain k i j r formless v h e = never e

-- ── the rows by number ──
pub serial-rule : ((rule_at placed_table 5).holds ≡ serials) × ((rule_at placed_table 5).may ≡ false) × (length (rule_at placed_table 5).key ≡ 6)
unfolding placed_table
serial-rule = (refl, refl, refl)

pub other-rule : (j : ℕ) → j < 6 → eqb j 5 ≡ false → is_serials (rule_at placed_table j).holds ≡ false
unfolding placed_table
other-rule zero h e = refl
other-rule (suc zero) h e = refl
other-rule (suc (suc zero)) h e = refl
other-rule (suc (suc (suc zero))) h e = refl
other-rule (suc (suc (suc (suc zero)))) h e = refl
other-rule (suc (suc (suc (suc (suc zero))))) h e = clash refl e
other-rule (suc (suc (suc (suc (suc (suc j)))))) h e = absurd (omega arith)

pub text-rule : all (λ r. not (is_serials r.holds)) (text_table true 16 24) ≡ true
unfolding text_table
text-rule = refl

-- ── the row that opens a block ──
pub opening-row : (j : ℕ) → j < 6 → plain_kind (rule_at placed_table j).holds ≡ false → j ≡ 1
unfolding placed_table
opening-row zero h e = clash refl e
opening-row (suc zero) h e = refl
opening-row (suc (suc zero)) h e = clash refl e
opening-row (suc (suc (suc zero))) h e = clash refl e
opening-row (suc (suc (suc (suc zero)))) h e = clash refl e
opening-row (suc (suc (suc (suc (suc zero))))) h e = clash refl e
opening-row (suc (suc (suc (suc (suc (suc j)))))) h e = absurd (omega (arith, h))

-- the text
pub begin-inner : inner_of (rule_at placed_table 1).holds ≡ 1
unfolding placed_table
begin-inner = refl

pub blank-marks : (n : ℕ) → n ≡ 2 → replicate n false ≡ rows_there (blank (text_table true 16 24))
unfolding text_table
blank-marks n e = ap (λ (m : ℕ). replicate m false) e

-- ── the serial number of a placed symbol ──
pub figure-serial : (n : ℕ) (o : Held) → figure_links (placed n o) ≡ symbol_links (serials_of (slot_value (get_or (part_of o 0) 5 None)))
unfolding placed_table
figure-serial n o = refl
