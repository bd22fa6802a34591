-- From one line of FILE_FORMAT to the next: what a line finds is found again behind it.
use Prim.Native.Nat.{ℕ, zero, suc, ◌≤◌}
use mathlib.Core.Bool.{Bool, true, false, ◌&&◌}
use mathlib.Core.List.{List, [], ◌∷◌}
use mathlib.Core.Path.{◌≡◌, refl, sym, ◌∙◌, subst}
use native.Mathlib.Omega.{arith}
use lib.Dec.{eqb}
use lib.IntN.{ℤ, pos}
use lib.ListN.{get_or, set, length-set}
use lib.Seq.{sets}
use Rattle.rules.specs.Base.{all}
use Rattle.rules.specs.Lines.{Form}
use Rattle.rules.specs.Values.{Known, Value, empty, nums, chars, linked}
use Rattle.rules.specs.RangeClass.{digits}
use Rattle.rules.specs.Rows.{Rule, Act, act, stay, entry, begin, shut, refuse}
use Rattle.rules.specs.RecordTable.{numbers, given, put_state, rule_at}
use Rattle.rules.specs.Blocks.{around, later_table}
use Rattle.rules.proofs.Chains.{and_left, and_right, and_true, clash, by_cond}
use Rattle.tables.specs.Tables.{table_of}
use Rattle.entries.specs.Acts.{place_of, put_line}
use Rattle.account.specs.FileLines.{PartOpen, file_table_of, part_marks, is_count, Header, kept_name, kept, kept_in, FileHeader}
use Rattle.standing.proofs.Openers.{is_begin, plain_kind, no-begin}
use Rattle.account.proofs.FileCounts.{header-count}
use Rattle.standing.proofs.FileHeld.{PlacedForm, Holds, file-holds}

-- ── the header's numbers stay counts ──
set-counts : (h : List ℤ) (i : ℕ) (z : ℤ) → all is_count h ≡ true → is_count z ≡ true → all is_count (set h i z) ≡ true
set-counts [] i z a b = refl
set-counts (x ∷ h) zero z a b = and_true (is_count z) (all is_count h) b (and_right (is_count x) _ a)
set-counts (x ∷ h) (suc i) z a b = and_true (is_count x) (all is_count (set h i z)) (and_left (is_count x) _ a) (set-counts h i z (and_right (is_count x) _ a) b)

set-header : (h : List ℤ) (i : ℕ) (z : ℤ) → Header h → is_count z ≡ true → Header (set h i z)
set-header h i z g b = record { long = length-set h i z ∙ g.long; counts = set-counts h i z g.counts b }

sets-header : (zs h : List ℤ) (i : ℕ) → Header h → all is_count zs ≡ true → Header (sets h i zs)
sets-header [] h i g a = g
sets-header (z ∷ zs) h i g a = sets-header zs (set h i z) (suc i) (set-header h i z g (and_left (is_count z) _ a)) (and_right (is_count z) _ a)

given-count : (v : Value) → is_count (given v) ≡ true
given-count empty = refl
given-count (nums v) = refl
given-count (chars at c) = refl
given-count (linked n ps) = refl

state-header : (q : ℕ) (z : ℤ) (h : List ℤ) → Header h → is_count z ≡ true → Header (put_state q z h)
state-header zero z h g a = g
state-header (suc q) z h g a = set-header h (suc q) z g a

line-header : (r : Rule) (v : Value) (h : List ℤ) → Header h → all is_count (numbers v) ≡ true → Header (put_line r 64 v h)
line-header r v h g a =
    state-header r.state (given v) (sets h (place_of r.place 64) (numbers v)) (sets-header (numbers v) h (place_of r.place 64) g a) (given-count v)

name-header : (h : List ℤ) → Header h → Header (kept_name h)
name-header h g =
    sets-header (get_or h 64 (pos 0) ∷ get_or h 65 (pos 0) ∷ []) h 66 g
    (and_true (is_count (get_or h 64 (pos 0))) _ (header-count h g 64) (and_true (is_count (get_or h 65 (pos 0))) true (header-count h g 65) refl))

kept-header : (first : Bool) (row : ℕ) (h : List ℤ) → Header h → Header (kept first row h)
kept-header true row h g = by_cond Header (eqb row 5) (λ _. name-header h g) (λ _. g)
kept-header false row h g =
    by_cond Header (eqb row 2) (λ _. name-header h g) λ _.
    by_cond Header (eqb row 3) (λ _. set-header h 68 (get_or h 64 (pos 0)) g (header-count h g 64)) λ _.
    by_cond Header (eqb row 4) (λ _. set-header h 69 (get_or h 64 (pos 0)) g (header-count h g 64)) λ _. g

kept_in-header : (first : Bool) (p row : ℕ) (h : List ℤ) → Header h → Header (kept_in first p row h)
kept_in-header first zero row h g = kept-header first row h g
kept_in-header first (suc p) row h g = by_cond Header (eqb (suc p) 3 && eqb row 1) (λ _. set-header h 70 (get_or h 64 (pos 0)) g (header-count h g 64)) (λ _. g)

-- what the next line finds of the header and the open part; after a refusal there is none
abbrev pub Behind : Bool → ℕ → List ℤ → Act → Type 0
Behind first p h₁ stay = Header h₁ × PartOpen first p
Behind first p h₁ (entry j v) = Header h₁ × PartOpen first p
Behind first p h₁ (begin i j v) = Header h₁ × PartOpen first i
Behind first p h₁ shut = Header h₁ × PartOpen first (around p)
Behind first p h₁ (refuse n) = Unit {0}

around_open : (first : Bool) (p : ℕ) → PartOpen first p → PartOpen first (around p)
around_open first zero o = record { five = omega arith; later = λ _. refl }
around_open first (suc zero) o = record { five = omega arith; later = λ _. refl }
around_open first (suc (suc p)) o = record { five = omega arith; later = λ e. absurd (omega (arith, o.later e)) }

begun : (first : Bool) (i : ℕ) → i ≤ 4 → (first ≡ false → ⊥) → PartOpen first i
begun first i h n = record { five = h; later = λ e. absurd (n e) }

-- a later volume opens nothing
later-plain : (p : ℕ) → all (λ r. plain_kind r.holds) (table_of (file_table_of false p)) ≡ true
unfolding table_of later_table
later-plain p = refl

opens-first : (k : Known) (first : Bool) (p : ℕ) (full : List Bool) (f : Form) → is_begin (act k (table_of (file_table_of first p)) (digits 0 0) full f) ≡ true → first ≡ false → ⊥
opens-first k true p full f b e = clash refl e
opens-first k false p full f b e = clash b (no-begin k (table_of (file_table_of false p)) (digits 0 0) full f (later-plain p))

behind-act : (first : Bool) (p : ℕ) (h₀ h₁ : List ℤ) (a : Act) → PartOpen first p → Header h₀ → Holds a → (is_begin a ≡ true → first ≡ false → ⊥) → FileHeader first p h₀ h₁ a → Behind first p h₁ a
behind-act first p h₀ h₁ stay o g c b e = (subst Header (sym e) g, o)
behind-act first p h₀ h₁ (entry j v) o g c b e =
    (subst Header (sym e) (kept_in-header first p j _ (line-header (rule_at (table_of (file_table_of first p)) j) v h₀ g c)), o)
behind-act first p h₀ h₁ (begin i j v) o g c b e =
    (subst Header (sym e) (line-header (rule_at (table_of (file_table_of first p)) j) v h₀ g c.0), begun first i c.1 (b refl))
behind-act first p h₀ h₁ shut o g c b e = (subst Header (sym e) g, around_open first p o)
behind-act first p h₀ h₁ (refuse n) o g c b e = tt

-- the header and the part behind a line, for the line that follows it
pub file-behind : (k : Known) (f : Form) (first : Bool) (p : ℕ) (m : List Bool) (h₀ h₁ : List ℤ) → PartOpen first p → Header h₀ → PlacedForm f
    → FileHeader first p h₀ h₁ (act k (table_of (file_table_of first p)) (digits 0 0) (part_marks first p m) f) → Behind first p h₁ (act k (table_of (file_table_of first p)) (digits 0 0) (part_marks first p m) f)
file-behind k f first p m h₀ h₁ o g w e =
    behind-act first p h₀ h₁ (act k (table_of (file_table_of first p)) (digits 0 0) (part_marks first p m) f) o g
    (file-holds k first p (digits 0 0) (part_marks first p m) f o w) (opens-first k first p (part_marks first p m) f) e
