-- The free texts of document 01, "Blocks" and "Figures": the most bytes of each, and the set that they are of.
use Rattle.std.specs.Prelude.{ℕ, List, [], ◌∷◌}
use Rattle.rules.specs.Values.{Bytes, any_bytes, ascii, letters_and_digits, telephone, circuit_bytes, Kind, text}
use Rattle.leaves.specs.Bytes.{bytes_of}
use Rattle.leaves.specs.declared.TextRule.{TextRule}

-- a set of bytes by its number, as `bytes_of` reads it
abbrev pub set_number : Bytes → ℕ
set_number any_bytes = 0
set_number ascii = 1
set_number letters_and_digits = 2
set_number telephone = 3
set_number circuit_bytes = 4

abbrev pub at_most : ℕ → Bytes → TextRule
at_most n b = record { most = n; set = set_number b }

unfoldable pub text_rules : List TextRule
text_rules =
    at_most 20 ascii  -- cad
    ∷ at_most 20 ascii  -- os
    ∷ at_most 20 ascii  -- hard
    ∷ at_most 10 ascii  -- ver
    ∷ at_most 40 any_bytes  -- corp
    ∷ at_most 40 any_bytes  -- make
    ∷ at_most 20 telephone  -- tel
    ∷ at_most 20 any_bytes  -- name
    ∷ at_most 60 any_bytes  -- project
    ∷ at_most 60 any_bytes  -- drawname
    ∷ at_most 20 any_bytes  -- drawer
    ∷ at_most 200 any_bytes  -- character
    ∷ at_most 20 any_bytes ∷ []  -- a layer's name

-- the answer for a key that is none of these
abbrev pub no_text : TextRule
no_text = at_most 0 any_bytes

-- what a rule's numbers mean
abbrev pub text_kind : TextRule → Kind
text_kind r = text r.most (bytes_of r.set)
