-- What a line with a key is, by places.
use Rattle.std.specs.Prelude.{ℕ, Bool, cond, List}
use Rattle.rules.specs.Lines.{Rest, brace, equals, Shape, opener, no_content, content, opening, formless, shape_of, free_shape_of, bytes_at}
use Rattle.rules.specs.declared.Span.{Span}
use Rattle.rules.specs.declared.LineForm.{LineForm}
use Rattle.rules.specs.declared.LineForm.TheVariants as L
use Rattle.entries.specs.declared.Rest.{Rest as Behind}
use Rattle.entries.specs.declared.Rest.TheVariants as B
use Rattle.entries.specs.declared.Shape.{Shape as Placed}
use Rattle.entries.specs.declared.Shape.TheVariants as P

-- a line's key and what stands behind it; of a line without a key it does not matter what
abbrev pub nothing_at : Span
nothing_at = record { at = 0; len = 0 }

abbrev pub key_of : LineForm → Span
key_of L.Ignored = nothing_at
key_of L.Close = nothing_at
key_of L.Eof = nothing_at
key_of (L.Opens o) = o.key
key_of (L.Equals q) = q.key
key_of (L.Refused r) = nothing_at

abbrev pub rest_of : LineForm → Behind
rest_of L.Ignored = B.Brace
rest_of L.Close = B.Brace
rest_of L.Eof = B.Brace
rest_of (L.Opens o) = B.Brace
rest_of (L.Equals q) = B.Equals q.rest
rest_of (L.Refused r) = B.Brace

abbrev pub rest_in : List ℕ → Behind → Rest
rest_in s B.Brace = brace
rest_in s (B.Equals p) = equals p.at (bytes_at s p)

abbrev pub shape_in : List ℕ → Placed → Shape
shape_in s P.Opener = opener
shape_in s P.NoContent = no_content
shape_in s (P.Content p) = content p.at (bytes_at s p)
shape_in s (P.Opening p) = opening p.at (bytes_at s p)
shape_in s P.Formless = formless

-- which of the five, in their order, under the code's names
abbrev pub sort_opener : ℕ
sort_opener = 0

abbrev pub sort_no_content : ℕ
sort_no_content = 1

abbrev pub sort_content : ℕ
sort_content = 2

abbrev pub sort_opening : ℕ
sort_opening = 3

abbrev pub sort_formless : ℕ
sort_formless = 4

abbrev pub sort_of : Placed → ℕ
sort_of P.Opener = sort_opener
sort_of P.NoContent = sort_no_content
sort_of (P.Content p) = sort_content
sort_of (P.Opening p) = sort_opening
sort_of P.Formless = sort_formless

-- with free text behind the key, or without
abbrev pub shape_by : Bool → Rest → Shape
shape_by free c = cond free (free_shape_of c) (shape_of c)
