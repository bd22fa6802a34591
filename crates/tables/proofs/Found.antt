-- The row that the code finds is that of the definitions' table.
use Rattle.std.specs.Prelude.{ℕ, zero, suc, ◌+◌, Bool, true, false, cond, List, [], ◌∷◌, ◌≡◌, Option, Some, option_map, find as first}
use Rattle.std.proofs.Common.{add-zero, arith}
use mathlib.Core.Path.{refl, ap, ◌∙◌}
use Rattle.rules.specs.Base.{same}
use Rattle.rules.specs.Rows.{Rule, Found, absent, found, further, find}
use Rattle.tables.specs.declared.rows.Entry.{Entry}
use Rattle.tables.specs.Rows.{rule_of, for_line, found_of, found_for_line}
use Rattle.tables.specs.Entries.{Line, listed, numbered}

-- so many rows further
abbrev behind : ℕ → Found → Found
behind zero f = f
behind (suc n) f = behind n (further f)

absent_behind : (n : ℕ) → behind n absent ≡ absent
absent_behind zero = refl
absent_behind (suc n) = absent_behind n

row_behind : (n j : ℕ) (r : Rule) → behind n (found j r) ≡ found (n + j) r
row_behind zero j r = ap (λ i. found i r) (omega arith)
row_behind (suc n) j r = row_behind n (suc j) r ∙ ap (λ i. found i r) (omega arith)

further-line : (f : Found) → found_for_line (further f) ≡ further (found_for_line f)
further-line absent = refl
further-line (found j r) = refl

heads : (l m : Line) (ls ms : List Line) → ◌≡◌ {A = List Line} (l ∷ ls) (m ∷ ms) → (l ≡ m) × (ls ≡ ms)
heads l m ls ms e = (cc, cc)

-- at one row
tested : (b : Bool) (n : ℕ) (r : Rule) (x : Entry) (f : Found) (o : Option Entry) → x.row.number ≡ n → rule_of x.row ≡ for_line r
    → behind (suc n) (found_for_line f) ≡ found_of (option_map (λ e. e.row) o)
    → behind n (found_for_line (cond b (found 0 r) (further f))) ≡ found_of (option_map (λ e. e.row) (cond b (Some x) o))
tested true n r x f o i l h = rw (row_behind n 0 (for_line r), add-zero, i, l)
tested false n r x f o i l h = rw (further-line f) h

found_behind : (k : List ℕ) (n : ℕ) (t : List Rule) (es : List Entry) → listed es ≡ numbered n t
    → behind n (found_for_line (find k t)) ≡ found_of (option_map (λ e. e.row) (first (λ e. same k e.key.now) es))
found_behind k n [] [] e = absent_behind n
found_behind k n [] (x ∷ es) e = cc
found_behind k n (r ∷ t) [] e = cc
found_behind k n (r ∷ t) (x ∷ es) e =
    let (l, rest) = heads _ _ _ _ e in
    rw (ap (same k) (ap (λ i. i.key) l))
    (tested (same k r.key) n r x (find k t) (first (λ e. same k e.key.now) es) (ap (λ i. i.number) l) (ap (λ i. i.rule) l) (found_behind k (suc n) t es rest))

pub found_first : (k : List ℕ) (t : List Rule) (es : List Entry) → listed es ≡ numbered 0 t
    → found_for_line (find k t) ≡ found_of (option_map (λ e. e.row) (first (λ e. same k e.key.now) es))
found_first k t es e = found_behind k 0 t es e
