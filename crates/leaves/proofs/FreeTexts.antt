-- The rules of the free texts: the two tables side by side, and the definitions' tables of keys.
use Prim.Native.Nat.{ℕ, zero, suc}
use mathlib.Core.Path.{◌≡◌, refl}
use mathlib.Core.List.{List, [], ◌∷◌, ◌++◌, map}
use mathlib.Core.Bool.{Bool, cond}
use lib.ListN.{get_or}
use Rattle.rules.specs.Rows.{Rule}
use Rattle.rules.specs.Values.{Bytes, any_bytes, ascii, letters_and_digits, telephone, circuit_bytes, Kind, is_free}
use Rattle.rules.specs.Blocks.{file_table, drawing_table, layer_name_kind}
use Rattle.rules.specs.Figures.{text_table}
use Rattle.leaves.specs.Bytes.{bytes_of}
use Rattle.leaves.specs.Texts.{text_rules, no_text, text_kind, set_number}
use Rattle.leaves.specs.declared.TextRule.{TextRule}

-- the set that a number stands for
pub set-number : (b : Bytes) → bytes_of (set_number b) ≡ b
set-number any_bytes = refl
set-number ascii = refl
set-number letters_and_digits = refl
set-number telephone = refl
set-number circuit_bytes = refl

-- ── the rules by columns, as the code has them ──
pub by-columns : (t : List TextRule) (k : ℕ) → record { most = get_or (map (λ r. r.most) t) k 0; set = get_or (map (λ r. r.set) t) k 0 } ≡ get_or t k no_text
by-columns [] k = refl
by-columns (r ∷ t) zero = refl
by-columns (r ∷ t) (suc k) = by-columns t k

-- ── the tables of keys ──
abbrev pub free_kinds : List Rule → List Kind
free_kinds [] = []
free_kinds (r ∷ rs) = cond (is_free r.holds) (r.holds ∷ free_kinds rs) (free_kinds rs)

-- the rules are those of FILE_FORMAT, DRAWING_FORMAT and a text, in the order of their keys, and of a layer's name
pub text-rules : (in_layer : Bool) (p q : ℕ) → map text_kind text_rules ≡ free_kinds (file_table ++ drawing_table ++ text_table in_layer p q) ++ layer_name_kind ∷ []
unfolding text_rules file_table drawing_table text_table
text-rules in_layer p q = refl
