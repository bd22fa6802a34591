-- Whatever E_wire a good FILE_FORMAT has, wire part 18 knows all of it.
use Rattle.std.specs.Prelude.{Some, None}
use Prim.Native.Nat.{ℕ, ◌/◌, ◌%◌}
use mathlib.Core.Bool.{Bool, true, false}
use mathlib.Core.List.{List, [], ◌∷◌}
use mathlib.Core.Path.{◌≡◌, refl, sym, subst}
use native.Mathlib.Omega.{arith}
use lib.Dec.{eqb, leb}
use lib.IntN.{pos}
use lib.ListN.{get_or}
use borrow.Author.Tests.{eqb-true, leb-true, lt-leb}
use Rattle.rules.specs.Base.{split}
use Rattle.rules.specs.RefusalNumbers.{got, or_bad, keep}
use Rattle.rules.specs.RangeClass.{digits_of, exceeds}
use Rattle.rules.specs.Numbers.{read_fixed}
use Rattle.rules.specs.Values.{Num, num, Value, nums, Known, amount_at, values, range_of_wires, most_join_digit, most_wire_middle, most_wire_last, served_wires, read_part, read_all, agree, nothing_more, read_kind}
use Rattle.rules.specs.Rows.{Slots, Held, part_of, number_of, entry, shape_for}
use Rattle.rules.specs.Blocks.{elec_table}
use Rattle.rules.specs.RecordTable.{rule_at}
use Rattle.rules.specs.Answers.{full_class}
use Rattle.rules.proofs.Chains.{and_left, and_right, never, map-got, keep-got, cons-got}
use Rattle.rules.proofs.Rows.{row-did}
use Rattle.promises.specs.PlacesApart.{bare_value}
use Rattle.promises.proofs.Bare.{amount-bare}
use Rattle.promises.proofs.Good.{Always, rest_of, none0, GoodSlots, GoodPart, GoodFile, is_one}
use Rattle.promises.proofs.InvRows.{read-entry}
use Rattle.promises.proofs.Numbers.{within_both}
use Rattle.promises.proofs.Stands.{or_cases}

-- a value that was read as E_wire is one that is served
read-served : (k : Known) (at : ℕ) (c : List ℕ) (v : Value) → read_kind k (values range_of_wires [] nothing_more) at c ≡ got v → served_wires (amount_at v 0) ≡ true
read-served k at c v e =
    let (u, g, q) = map-got nums (keep 11 (agree nothing_more) (read_all k (range_of_wires ∷ []) (split 44 c))) v e in
    let (o, t) = keep-got 11 (agree nothing_more) (read_all k (range_of_wires ∷ []) (split 44 c)) u g in
    subst (λ (v : Value). served_wires (amount_at v 0) ≡ true) q (parts (split 44 c) u o)
  where
    parts : (ss : List (List ℕ)) (u : List Num) → read_all k (range_of_wires ∷ []) ss ≡ got u → served_wires (amount_at (nums u) 0) ≡ true
    parts [] u o = never o
    parts (s ∷ ss) u o =
        let (a, r, x, y, q) = cons-got (read_part k range_of_wires s) (read_all k [] ss) u o in
        let (n, g, z) = map-got (λ n. num (pos n)) (keep 12 served_wires (or_bad 10 (read_fixed 3 s))) a x in
        let (f, t) = keep-got 12 served_wires (or_bad 10 (read_fixed 3 s)) n g in
        subst (λ (u : List Num). served_wires (amount_at (nums u) 0) ≡ true) q (subst (λ (a : Num). served_wires (amount_at (nums (a ∷ r)) 0) ≡ true) z t)

-- such digits are within those of wire part 18
served-known : (n : ℕ) → served_wires n ≡ true → exceeds (digits_of n) full_class.wires ≡ false
served-known n e =
    or_cases (eqb n 0) _ (λ z. let q = eqb-true n 0 z in rw q)
    (λ z.
    let rest = and_right (leb (n / 100) most_join_digit) _ z in
    let middle = leb-true (n / 10 % 10) most_wire_middle (and_left (leb (n / 10 % 10) most_wire_middle) _ rest) in
    let (least, most) = within_both 1 most_wire_last (n % 10) (and_right (leb (n / 10 % 10) most_wire_middle) _ rest) in
    rw (lt-leb 2 (n / 10 % 10) (omega arith), lt-leb 9 (n % 10) (omega arith))) e

-- the row of E_wire, written and read again
slot-served : (v : Value) → Always none0 (rule_at elec_table 1) v → served_wires (amount_at v 0) ≡ true
unfolding elec_table
slot-served v g =
    let k : Known = record { symbols = []; layers = [] } in
    let r = rule_at elec_table 1 in
    let x = rest_of k r v in
    let did = row-did k none0 false 0 r x (entry 0 (bare_value v)) refl ((g k).again 0) in
    let (at, c, q) = read-entry k 0 r (shape_for r x) 0 (bare_value v) did.read refl did.fit in
    subst (λ (n : ℕ). served_wires n ≡ true) (amount-bare v 0) (read-served k at c (bare_value v) q)

slots-served : (s : Slots) → GoodSlots (Always none0) elec_table s → served_wires (number_of "E_wire" elec_table s) ≡ true
unfolding elec_table
slots-served [] g = absurd g
slots-served (o ∷ []) g = refl
slots-served (o ∷ None ∷ s) g = refl
slots-served (None ∷ Some v ∷ s) g = slot-served v g.0
slots-served (Some u ∷ Some v ∷ s) g = slot-served v g.1.0

part-served : (b : Bool) (s : Slots) → GoodPart b (Always none0) none0 elec_table s → served_wires (number_of "E_wire" elec_table s) ≡ true
unfolding elec_table
part-served true s g = slots-served s g.good
part-served false s g = rw g

pub wires-known : (f : Held) → GoodFile f → exceeds (digits_of (number_of "E_wire" elec_table (part_of f 3))) full_class.wires ≡ false
wires-known f g =
    served-known (number_of "E_wire" elec_table (part_of f 3))
    (subst (λ (f : Held). served_wires (number_of "E_wire" elec_table (part_of f 3)) ≡ true) (sym g.is) (part-served (is_one (get_or g.range 2 None)) g.elec g.elec-good))
