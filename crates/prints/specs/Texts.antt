-- What is written of a line's parts, whatever they are: that it is the fixed form, where they were read, is a law.
use Rattle.std.specs.Prelude.{ℕ, ◌/◌, ◌%◌, Bool, true, false, cond, ◌&&◌, ◌||◌, List, [], ◌∷◌, ◌++◌, map, eqb, leb, ltb, Option, Some, None}
use Rattle.rules.specs.Base.{bytes, split, join}
use Rattle.rules.specs.RefusalNumbers.{Got, got, bad}
use Rattle.rules.specs.Numbers.{read_count, read_decimal, show_count, show_decimal}
use Rattle.rules.specs.Lines.{Rest, brace, equals, Shape, opener, no_content, content, opening, formless}
use Rattle.rules.specs.Values.{Num, capital, sheets, find_sheet, show_sheet, read_ratio, show_ratio}
use Rattle.leaves.specs.Drawing.{number_at}
use Rattle.tables.specs.declared.Row.{Row}
use Rattle.tables.specs.Numbering.{holds_values, holds_volume_name, holds_sheet, holds_ratio, holds_serials, holds_headed, holds_either}
use Rattle.tables.specs.Numbering.{holds_wire_serial, holds_circle, part_count, part_any_sign, arc_forms}

-- what was read is written anew, what was not stands as it is
abbrev pub anew : {A : Type 0} → List ℕ → (A → List ℕ) → Option A → List ℕ
anew c show None = c
anew c show (Some a) = show a

-- one piece by its form's number: decimals, counts
abbrev pub piece_text : ℕ → List ℕ → List ℕ
piece_text form c = cond (leb part_any_sign form) (anew c show_decimal (read_decimal c)) (cond (eqb form part_count) (anew c (show_count 20) (read_count 10 c)) c)

-- the next piece's form is behind two decimal digits, or the same
abbrev pub next_forms : ℕ → Bool → ℕ
next_forms forms alike = cond alike forms (forms / 100)

abbrev pub piece_texts : ℕ → Bool → List (List ℕ) → List (List ℕ)
piece_texts forms alike [] = []
piece_texts forms alike (p ∷ ps) = piece_text (forms % 100) p ∷ piece_texts (next_forms forms alike) alike ps

unfoldable pub pieces_text : ℕ → Bool → List ℕ → List ℕ
pieces_text forms alike c = join 44 (piece_texts forms alike (split 44 c))

-- a sheet and a scale, by their two numbers
abbrev pub sheet_text : List ℕ → Option (List Num) → List ℕ
sheet_text c o = anew c (λ v. show_sheet (number_at v 0) (number_at v 1)) o

abbrev pub ratio_text : List ℕ → Got (List Num) → List ℕ
ratio_text c (bad n) = c
ratio_text c (got v) = show_ratio (number_at v 0) (number_at v 1)

-- the forms of a row's values: of a circle in a symbol those of an arc, whose first six are written as a whole circle's
abbrev pub forms_of : Row → ℕ
forms_of row = cond (eqb row.kind holds_circle) arc_forms row.parts

-- a content that is not empty, by its row; texts and words stand as they are, and so does an empty partner of a wire
unfoldable pub content_text : Row → List ℕ → List ℕ
content_text row c =
    cond (eqb row.kind holds_volume_name) (map capital c)
    (cond (eqb row.kind holds_sheet) (sheet_text c (find_sheet c sheets))
    (cond (eqb row.kind holds_ratio) (ratio_text c (read_ratio c))
    (cond (eqb row.kind holds_serials || eqb row.kind holds_wire_serial) (pieces_text part_count true c)
    (cond (eqb row.kind holds_headed) (piece_text row.parts c)
    (cond (ltb holds_values row.kind && leb row.kind holds_either) c
    (pieces_text (forms_of row) false c))))))

unfoldable pub behind_text : Row → Shape → List ℕ
behind_text row opener = bytes ":{"
behind_text row no_content = bytes "="
behind_text row (content at c) = bytes "=" ++ content_text row c
behind_text row (opening at c) = (bytes "=" ++ content_text row c) ++ bytes ":{"
behind_text row formless = bytes "="

abbrev pub line_end : List ℕ
line_end = 13 ∷ 10 ∷ []

-- what follows an `=`
abbrev pub rest_text : Rest → List ℕ
rest_text brace = []
rest_text (equals at c) = c
