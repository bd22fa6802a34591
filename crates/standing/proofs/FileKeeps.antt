-- What a line leaves in the header kept apart: in the records, and in the numbers behind them.
use Prim.Native.Nat.{ℕ, zero, suc, ◌+◌, ◌≤◌, ◌<◌}
use mathlib.Core.Bool.{Bool, true, false, cond, ◌&&◌}
use mathlib.Core.List.{List, [], ◌∷◌}
use mathlib.Core.Path.{◌≡◌, refl, sym, ◌∙◌, ap}
use native.Mathlib.Omega.{arith}
use borrow.Author.Tests.{leb-true, eqb-true, ne_eqb}
use lib.Dec.{eqb, leb}
use lib.IntN.{ℤ, pos}
use lib.ListN.{length, get_or, set, take, length-set}
use lib.Seq.{sets, get_or-set_other}
use Rattle.rules.specs.Base.{all}
use Rattle.rules.specs.Values.{Value, opens}
use Rattle.rules.specs.Rows.{Rule, row}
use Rattle.rules.specs.RecordTable.{numbers, given, columns, put_numbers, put_state, rule_at}
use Rattle.rules.specs.Blocks.{file_table, range_table, base_table, elec_table, sym_table, later_table, file_tables}
use Rattle.rules.proofs.Chains.{and_left, and_right, by_cond}
use Rattle.entries.specs.Acts.{place_of, put_line}
use Rattle.account.specs.Placing.{put_value, fills}
use Rattle.account.specs.FileLines.{PartOpen, kept_name, kept, kept_wires, kept_in, file_width}
use Rattle.standing.proofs.Puts.{all-at, fills-le}
use Rattle.standing.proofs.ForeParts.{fore_sets}

-- ── the first numbers of a list ──
take-set : (n : ℕ) (l : List ℤ) (i : ℕ) (a : ℤ) → take n (set l i a) ≡ set (take n l) i a
take-set zero l i a = refl
take-set (suc n) [] i a = refl
take-set (suc n) (x ∷ l) zero a = refl
take-set (suc n) (x ∷ l) (suc i) a = ap (λ (u : List ℤ). x ∷ u) (take-set n l i a)

take_sets : (vs : List ℤ) (n : ℕ) (l : List ℤ) (i : ℕ) → take n (sets l i vs) ≡ sets (take n l) i vs
take_sets [] n l i = refl
take_sets (v ∷ vs) n l i = take_sets vs n (set l i v) (suc i) ∙ ap (λ (u : List ℤ). sets u (suc i) vs) (take-set n l i v)

pub width-most : (first : Bool) → file_width first ≤ 64
width-most true = omega arith
width-most false = omega arith

-- ── a line's numbers, in the records ──
place-taken : (first : Bool) (p : ℕ) (zs h : List ℤ) → take (file_width first) (sets h (place_of p 64) zs) ≡ put_numbers p zs (take (file_width first) h)
place-taken first zero zs h = fore_sets (file_width first) 64 zs h (width-most first)
place-taken first (suc p) zs h = take_sets zs (file_width first) h (suc p)

state-taken : (n q : ℕ) (z : ℤ) (h : List ℤ) → take n (put_state q z h) ≡ put_state q z (take n h)
state-taken n zero z h = refl
state-taken n (suc q) z h = take-set n h (suc q) z

line_taken : (first : Bool) (r : Rule) (v : Value) (h : List ℤ) → take (file_width first) (put_line r 64 v h) ≡ put_value r v (take (file_width first) h)
line_taken first r v h =
    state-taken (file_width first) r.state (given v) (sets h (place_of r.place 64) (numbers v))
    ∙ ap (put_state r.state (given v)) (place-taken first r.place (numbers v) h)

-- what is kept of a row without a place lies behind the records
stored-behind : (first : Bool) (vs h : List ℤ) (i : ℕ) → 64 ≤ i → take (file_width first) (sets h i vs) ≡ take (file_width first) h
stored-behind first vs h i l = fore_sets (file_width first) i vs h (omega (arith, l, width-most first))

kept-taken : (first b : Bool) (j : ℕ) (h : List ℤ) → take (file_width first) (kept b j h) ≡ take (file_width first) h
kept-taken first true j h =
    by_cond (λ (u : List ℤ). take (file_width first) u ≡ take (file_width first) h) (eqb j 5) (λ _. stored-behind first (get_or h 64 (pos 0) ∷ get_or h 65 (pos 0) ∷ []) h 66 (omega arith)) (λ _. refl)
kept-taken first false j h =
    let P : List ℤ → Type 0 = λ u. take (file_width first) u ≡ take (file_width first) h in
    by_cond P (eqb j 2) (λ _. stored-behind first (get_or h 64 (pos 0) ∷ get_or h 65 (pos 0) ∷ []) h 66 (omega arith)) λ _.
    by_cond P (eqb j 3) (λ _. stored-behind first (get_or h 64 (pos 0) ∷ []) h 68 (omega arith)) λ _.
    by_cond P (eqb j 4) (λ _. stored-behind first (get_or h 64 (pos 0) ∷ []) h 69 (omega arith)) λ _. refl

wires-taken : (first : Bool) (p j : ℕ) (h : List ℤ) → take (file_width first) (kept_wires p j h) ≡ take (file_width first) h
wires-taken first p j h =
    by_cond (λ (u : List ℤ). take (file_width first) u ≡ take (file_width first) h) (eqb p 3 && eqb j 1) (λ _. stored-behind first (get_or h 64 (pos 0) ∷ []) h 70 (omega arith)) (λ _. refl)

pub records-taken : (first : Bool) (p j : ℕ) (r : Rule) (v : Value) (h : List ℤ) → take (file_width first) (kept_in first p j (put_line r 64 v h)) ≡ put_value r v (take (file_width first) h)
records-taken first zero j r v h = kept-taken first first j (put_line r 64 v h) ∙ line_taken first r v h
records-taken first (suc p) j r v h = wires-taken first (suc p) j (put_line r 64 v h) ∙ line_taken first r v h

-- ── a line's numbers, behind the records ──
sets-before : (vs l : List ℤ) (i q : ℕ) → i + length vs ≤ q → get_or (sets l i vs) q (pos 0) ≡ get_or l q (pos 0)
sets-before [] l i q h = refl
sets-before (v ∷ vs) l i q h = sets-before vs (set l i v) (suc i) q (omega (arith, h)) ∙ get_or-set_other l i q v (pos 0) (λ e. absurd (omega (arith, e, h)))

-- a row that leaves the numbers from n on alone
abbrev pub short : ℕ → Rule → Bool
short n r = eqb r.state 0 && leb (place_of r.place 64 + columns r.holds) n

pub short-put : (n : ℕ) (r : Rule) (v : Value) (h : List ℤ) (q : ℕ) → short n r ≡ true → fills r.holds (numbers v) ≡ true → n ≤ q → get_or (put_line r 64 v h) q (pos 0) ≡ get_or h q (pos 0)
short-put n r v h q e f l =
    let s = eqb-true r.state 0 (and_left (eqb r.state 0) _ e) in
    let w = leb-true (place_of r.place 64 + columns r.holds) n (and_right (eqb r.state 0) _ e) in
    ap (λ (m : ℕ). get_or (put_state m (given v) (sets h (place_of r.place 64) (numbers v))) q (pos 0)) s
    ∙ sets-before (numbers v) h (place_of r.place 64) q (omega (arith, w, l, fills-le r.holds (numbers v) f))

-- all rows but next_file's are short
abbrev pub next_row : Bool → ℕ
next_row true = 5
next_row false = 2

abbrev any_row : Rule
any_row = row "" (opens 0) 0

but : (t : List Rule) (i j : ℕ) → all (short 65) (set t i any_row) ≡ true → j < length t → (j ≡ i → ⊥) → short 65 (rule_at t j) ≡ true
but t i j e l n =
    ap (short 65) (sym (get_or-set_other t i j any_row (row "" (opens 0) 0) n)) ∙ all-at (short 65) (set t i any_row) j (omega (arith, l, length-set t i any_row)) e

pub short_row : (first : Bool) (p j : ℕ) → PartOpen first p → j < length (get_or (file_tables first) p []) → (p ≡ 0 → j ≡ next_row first → ⊥) → short 65 (rule_at (get_or (file_tables first) p []) j) ≡ true
unfolding file_table range_table base_table elec_table sym_table later_table
short_row false zero j o l n = but later_table 2 j refl l (n refl)
short_row false (suc p) j o l n = absurd (omega (arith, o.later refl))
short_row true zero j o l n = but file_table 5 j refl l (n refl)
short_row true (suc zero) j o l n = all-at (short 65) range_table j l refl
short_row true (suc (suc zero)) j o l n = all-at (short 65) base_table j l refl
short_row true (suc (suc (suc zero))) j o l n = all-at (short 65) elec_table j l refl
short_row true (suc (suc (suc (suc zero)))) j o l n = all-at (short 65) sym_table j l refl
short_row true (suc (suc (suc (suc (suc p))))) j o l n = absurd (omega (arith, o.five))

pub later-row : (j : ℕ) → j < length later_table → short 66 (rule_at later_table j) ≡ true
unfolding later_table
later-row j l = all-at (short 66) later_table j l refl

pub first-row : (p j : ℕ) → PartOpen true p → j < length (get_or (file_tables true) p []) → short 66 (rule_at (get_or (file_tables true) p []) j) ≡ true
unfolding file_table range_table base_table elec_table sym_table
first-row zero j o l = all-at (short 66) file_table j l refl
first-row (suc zero) j o l = all-at (short 66) range_table j l refl
first-row (suc (suc zero)) j o l = all-at (short 66) base_table j l refl
first-row (suc (suc (suc zero))) j o l = all-at (short 66) elec_table j l refl
first-row (suc (suc (suc (suc zero)))) j o l = all-at (short 66) sym_table j l refl
first-row (suc (suc (suc (suc (suc p))))) j o l = absurd (omega (arith, o.five))

-- what is kept of such a row lies behind 67
kept_else : (first : Bool) (j q : ℕ) (h : List ℤ) → (j ≡ next_row first → ⊥) → q ≤ 67 → get_or (kept first j h) q (pos 0) ≡ get_or h q (pos 0)
kept_else true j q h n l = ap (λ (b : Bool). get_or (cond b (kept_name h) h) q (pos 0)) (ne_eqb j 5 n)
kept_else false j q h n l =
    let z : ℤ = get_or h 64 (pos 0) in
    let P : List ℤ → Type 0 = λ u. get_or u q (pos 0) ≡ get_or h q (pos 0) in
    ap (λ (b : Bool). get_or (cond b (kept_name h) (cond (eqb j 3) (set h 68 z) (cond (eqb j 4) (set h 69 z) h))) q (pos 0)) (ne_eqb j 2 n)
    ∙ by_cond P (eqb j 3) (λ _. get_or-set_other h 68 q z (pos 0) (λ e. absurd (omega (arith, e, l)))) λ _.
    by_cond P (eqb j 4) (λ _. get_or-set_other h 69 q z (pos 0) (λ e. absurd (omega (arith, e, l)))) λ _. refl

pub kept_in_else : (first : Bool) (p j q : ℕ) (h : List ℤ) → (p ≡ 0 → j ≡ next_row first → ⊥) → q ≤ 67 → get_or (kept_in first p j h) q (pos 0) ≡ get_or h q (pos 0)
kept_in_else first zero j q h n l = kept_else first j q h (n refl) l
kept_in_else first (suc p) j q h n l =
    by_cond (λ (u : List ℤ). get_or u q (pos 0) ≡ get_or h q (pos 0)) (eqb (suc p) 3 && eqb j 1) (λ _. get_or-set_other h 70 q (get_or h 64 (pos 0)) (pos 0) (λ e. absurd (omega (arith, e, l)))) (λ _. refl)

-- a later volume's date and time
pub later_else : (j q : ℕ) (h : List ℤ) → (q ≡ 68 → j ≡ 3 → ⊥) → (q ≡ 69 → j ≡ 4 → ⊥) → 68 ≤ q → get_or (kept false j h) q (pos 0) ≡ get_or h q (pos 0)
later_else j q h a b l =
    let z : ℤ = get_or h 64 (pos 0) in
    let P : List ℤ → Type 0 = λ u. get_or u q (pos 0) ≡ get_or h q (pos 0) in
    by_cond P (eqb j 2) (λ _. sets-before (z ∷ get_or h 65 (pos 0) ∷ []) h 66 q (omega (arith, l))) λ _.
    by_cond P (eqb j 3) (λ e. get_or-set_other h 68 q z (pos 0) (λ w. a w (eqb-true j 3 e))) λ _.
    by_cond P (eqb j 4) (λ e. get_or-set_other h 69 q z (pos 0) (λ w. b w (eqb-true j 4 e))) λ _. refl

-- the first one's E_wire
pub wires_else : (p j : ℕ) (h : List ℤ) → (p ≡ 3 → j ≡ 1 → ⊥) → get_or (kept_in true p j h) 70 (pos 0) ≡ get_or h 70 (pos 0)
wires_else zero j h n =
    by_cond (λ (u : List ℤ). get_or u 70 (pos 0) ≡ get_or h 70 (pos 0)) (eqb j 5) (λ _. sets-before (get_or h 64 (pos 0) ∷ get_or h 65 (pos 0) ∷ []) h 66 70 (omega arith)) (λ _. refl)
wires_else (suc p) j h n =
    by_cond (λ (u : List ℤ). get_or u 70 (pos 0) ≡ get_or h 70 (pos 0)) (eqb (suc p) 3 && eqb j 1)
    (λ e. absurd (n (eqb-true (suc p) 3 (and_left (eqb (suc p) 3) _ e)) (eqb-true j 1 (and_right (eqb (suc p) 3) _ e)))) (λ _. refl)
