-- Document 01, "Range class": the classes with their wire parts (document 02), what a class knows, what a file's range allows, and skipped
-- lines.
use Rattle.std.specs.Prelude.{ℕ, ◌/◌, ◌%◌, min, Bool, cond, ◌&&◌, ◌||◌, not, List, leb, ltb, Option, Some, None}
use Rattle.rules.specs.declared.Digits.{Digits}
use Rattle.rules.specs.declared.Class.{Class}
use Rattle.rules.specs.Base.{bytes, same, within}
use Rattle.rules.specs.Lines.{Rest, brace, equals, Shape, opener, no_content, content, opening, formless, shape_of}

abbrev pub digits : ℕ → ℕ → Digits
digits m l = record { middle = m; last = l }

-- a three-digit value as its middle and last digit
abbrev pub digits_of : ℕ → Digits
digits_of n = digits (n / 10 % 10) (n % 10)

-- "1 to 5 or 11 to 15, last and middle digit as above."
abbrev pub is_symbol_part : ℕ → Bool
is_symbol_part n = within 1 5 n || within 11 15 n

-- "The class gets a wire part of the same two digits, 1 to 8 or 11 to 18, or 0": with 0 both digits are 0, and no wire is known
abbrev pub is_wire_part : ℕ → Bool
is_wire_part n = within 0 8 n || within 11 18 n

-- "any other is 1": a class by its number and its wire part
unfoldable pub class_of : ℕ → ℕ → Option Class
class_of n w = cond (is_symbol_part n && is_wire_part w) (Some (record { symbols = digits_of n; wires = digits_of w })) None

-- "Digits count one by one": d has at least the digits that l asks for.
-- Said of the file's range it is "allows", said of the class it is "knows".
abbrev pub reaches : Digits → Digits → Bool
reaches d l = leb l.middle d.middle && leb l.last d.last

-- "when a digit of E_sym exceeds the class's"
abbrev pub exceeds : Digits → Digits → Bool
exceeds d c = ltb c.middle d.middle || ltb c.last d.last

-- what the file allows and the class knows
abbrev pub both : Digits → Digits → Digits
both c d = digits (min c.middle d.middle) (min c.last d.last)

-- "An attribute E_sym allows and the class doesn't know"
abbrev pub hides : Digits → Digits → Digits → Bool
hides c d l = reaches d l && not (reaches c l)

-- "A class with 0 skips whole wires where the file's E_wire isn't 000": any other wire part has the least digits of E_wire, 001's, at least
abbrev pub knows_wires : Class → Bool
knows_wires c = reaches c.wires (digits 0 1)

-- serials are known from middle digit 1 on
abbrev pub knows_serials : Digits → Bool
knows_serials d = reaches d (digits 1 0)

-- ── skipped lines ──
-- what a skipped line does: nothing, or it opens a block; or it has no form (5)
pub data Skip : Type 0 where
  passes : Skip
  deeper : Skip
  no_form : Skip

abbrev pub skip_shape : Shape → Skip
skip_shape opener = deeper
skip_shape no_content = passes
skip_shape (content at c) = passes
skip_shape (opening at c) = deeper
skip_shape formless = no_form

-- "on any skipped line `character=` never opens"
abbrev pub skip_of : List ℕ → Rest → Skip
skip_of k brace = deeper
skip_of k (equals at c) = cond (same k (bytes "character")) passes (skip_shape (shape_of (equals at c)))

-- "blocks nest to depth 4, the opener being 1"
abbrev pub most_depth : ℕ
most_depth = 4
