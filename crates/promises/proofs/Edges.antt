-- A wire's lines and arcs, one behind the other: what holds of each and the one before it; and which of its rows are full.
use Rattle.std.specs.Prelude.{Option, Some, None}
use Prim.Native.Nat.{ℕ, zero, suc, ◌/◌, ◌≤◌}
use mathlib.Core.Bool.{true, false, ◌&&◌}
use mathlib.Core.List.{List, [], ◌∷◌, ◌++◌}
use mathlib.Core.Path.{◌≡◌, refl, ◌∙◌, ap}
use Rattle.rules.specs.Sets.{Edge, Wire}
use native.Mathlib.Omega.{arith}
use lib.Dec.{leb, ltb}
use lib.ListN.{get_or}
use lib.Seq.{get_or-drop}
use Rattle.rules.specs.Rows.{rows_there}
use borrow.Author.Tests.{ltb-true, lt-ltb, lt-leb}
use Rattle.rules.specs.Figures.{first_group_row, num_row, wire_text_row}
use Rattle.rules.proofs.Chains.{and_false}
use Rattle.rules.specs.Wires.{joins_ends, last_edge, join_of, joined, wire_full, is_element_row, is_group_row}

-- each behind the one before it, the first behind `former`
abbrev pub Behind : (Option Edge → Edge → Type 0) → Option Edge → List Edge → Type 0
Behind P former [] = Unit {0}
Behind P former (e ∷ es) = P former e × Behind P (Some e) es

-- in a file of this E_wire it is joined as its first digit says, and the join is the one recorded
pub record Joins (wires : ℕ) (former : Option Edge) (e : Edge) : Type 0 where
  pub meets : joined (joins_ends (wires / 100)) former e.row e.values ≡ true
  pub join : e.join ≡ join_of (joins_ends (wires / 100)) former e.row

-- ── one element more ──
-- the last of these, or the one before them
abbrev last_from : Option Edge → List Edge → Option Edge
last_from former [] = former
last_from former (e ∷ es) = last_from (Some e) es

last-from : (es : List Edge) → last_from None es ≡ last_edge es
last-from [] = refl
last-from (e ∷ []) = refl
last-from (e ∷ f ∷ es) = last-from (f ∷ es)

module _ (P : Option Edge → Edge → Type 0) where
  from_more : (former : Option Edge) (es : List Edge) (e : Edge) → Behind P former es → P (last_from former es) e → Behind P former (es ++ e ∷ [])
  from_more former [] e g z = (z, tt)
  from_more former (f ∷ es) e g z = (g.0, from_more (Some f) es e g.1 z)

  pub behind_more : (es : List Edge) (e : Edge) → Behind P None es → P (last_edge es) e → Behind P None (es ++ e ∷ [])
  behind_more es e g z = from_more None es e g (rw (last-from es) z)

pub last_snoc : (es : List Edge) (e : Edge) → last_edge (es ++ e ∷ []) ≡ Some e
last_snoc [] e = refl
last_snoc (f ∷ []) e = refl
last_snoc (f ∷ g ∷ es) e = last_snoc (g ∷ es) e

-- ── rows from the text's on: full where they are there ──
pub full-once : (w : Wire) (i : ℕ) → wire_text_row ≤ i → get_or (wire_full w) i false ≡ get_or (rows_there w.own) i false
full-once w zero l = absurd (omega arith)
full-once w (suc zero) l = absurd (omega arith)
full-once w (suc (suc zero)) l = absurd (omega arith)
full-once w (suc (suc (suc zero))) l = absurd (omega arith)
full-once w (suc (suc (suc (suc zero)))) l = absurd (omega arith)
full-once w (suc (suc (suc (suc (suc i))))) l =
    get_or-drop wire_text_row (rows_there w.own) i false ∙ ap (λ (k : ℕ). get_or (rows_there w.own) k false) (omega arith)

-- they are none of those that repeat; those of elements stand before them
pub once-alone : (i : ℕ) → wire_text_row ≤ i → is_group_row i ≡ false
once-alone i l = ap (λ b. leb first_group_row i && b) (lt-leb i num_row (omega arith)) ∙ and_false (leb first_group_row i)

pub element-first : (i : ℕ) → is_element_row i ≡ true → ltb i wire_text_row ≡ true
element-first i e = let few = ltb-true i first_group_row e in lt-ltb i wire_text_row (omega arith)
