-- Document 01, "Lines": comments, leading blanks, allowed bytes, the forms.
use Rattle.std.specs.Prelude.{ℕ, ◌+◌, ◌-◌, Bool, true, false, cond, ◌&&◌, ◌||◌, not, List, [], ◌∷◌, eqb, length, take, drop, Option, Some, None}
use Rattle.rules.specs.declared.Span.{Span}
use Rattle.rules.specs.declared.LineForm.{LineForm}
use Rattle.rules.specs.declared.LineForm.TheVariants as L
use Rattle.rules.specs.Base.{choose, bytes, map_o, is_nil, same, within}

-- "Leading 20, 09 and the pair 81 40 hex are dropped"
abbrev pub unindent : List ℕ → List ℕ
unindent [] = []
unindent (b ∷ []) = cond (eqb b 32 || eqb b 9) [] (b ∷ [])
unindent (b ∷ c ∷ s) =
    choose (eqb b 32 || eqb b 9) (λ _. unindent (c ∷ s)) λ _.
    choose (eqb b 129 && eqb c 64) (λ _. unindent s) λ _.
    b ∷ c ∷ s

-- "The rest is bytes 20-7E, A1-DF, or pairs of lead 81-9F or E0-FC and trail 40-7E or 80-FC"
abbrev pub single_byte : ℕ → Bool
single_byte b = within 32 126 b || within 161 223 b

abbrev pub lead_byte : ℕ → Bool
lead_byte b = within 129 159 b || within 224 252 b

abbrev pub trail_byte : ℕ → Bool
trail_byte b = within 64 126 b || within 128 252 b

-- the first argument: a lead was just read
abbrev pub allowed_from : Bool → List ℕ → Bool
allowed_from lead [] = not lead
allowed_from lead (b ∷ s) = cond lead (trail_byte b) (single_byte b || lead_byte b) && allowed_from (not lead && lead_byte b) s

abbrev pub allowed : List ℕ → Bool
allowed s = allowed_from false s

-- ── "The key ends at the first `=` or `:{`" ──
pub data Scan : Type 0 where
  neither : Scan
  at_equal : List ℕ → List ℕ → Scan
  at_brace : List ℕ → List ℕ → Scan

abbrev pub key_onto : ℕ → Scan → Scan
key_onto b neither = neither
key_onto b (at_equal k c) = at_equal (b ∷ k) c
key_onto b (at_brace k c) = at_brace (b ∷ k) c

abbrev pub after_colon : List ℕ → Scan → Scan
after_colon [] r = key_onto 58 r
after_colon (b ∷ s) r = cond (eqb b 123) (at_brace [] s) (key_onto 58 r)

abbrev pub scan : List ℕ → Scan
scan [] = neither
scan (b ∷ s) = cond (eqb b 61) (at_equal [] s) (cond (eqb b 58) (after_colon s (scan s)) (key_onto b (scan s)))

-- What follows a key: `:{`, or `=` and the rest of the line, with the place of that rest's first byte in the spool.
pub data Rest : Type 0 where
  brace : Rest
  equals : ℕ → List ℕ → Rest

-- A line: one that is ignored, one that is wrong in every block (4 or 5), `}`, `EOF`, or a key and what follows it.
-- Whether the rest is text, a value or an opener goes by the key and the place, so it is told in Values.
pub data Form : Type 0 where
  ignored : Form
  wrong : ℕ → Form  -- its number
  close : Form
  eof : Form
  keyed : List ℕ → Rest → Form

-- the key "isn't empty"
abbrev pub with_key : List ℕ → Rest → Form
with_key [] r = wrong 5
with_key (b ∷ k) r = keyed (b ∷ k) r

-- the second argument: the place just behind the line
abbrev pub form_from : List ℕ → ℕ → Scan → Form
form_from s end neither = cond (same s (bytes "}")) close (cond (same s (bytes "EOF")) eof (wrong 5))
form_from s end (at_equal k c) = with_key k (equals (end - length c) c)
form_from s end (at_brace k c) = cond (is_nil c) (with_key k brace) (wrong 5)

-- a line without its leading blanks; "A line then empty is ignored"
abbrev pub form_of_rest : List ℕ → ℕ → Form
form_of_rest [] end = ignored
form_of_rest (b ∷ s) end = cond (allowed (b ∷ s)) (form_from (b ∷ s) end (scan (b ∷ s))) (wrong 4)

-- the form of the line that starts at a place; "First byte `#`: comment, ignored unread"
unfoldable pub form_of : ℕ → List ℕ → Form
form_of at [] = ignored
form_of at (b ∷ s) = choose (eqb b 35) (λ _. ignored) (λ _. form_of_rest (unindent (b ∷ s)) (at + length (b ∷ s)))

-- ── content ──
-- content that ends in `:{`, without that end
abbrev pub stem : List ℕ → Option (List ℕ)
stem [] = None
stem (b ∷ s) = cond (same (b ∷ s) (bytes ":{")) (Some []) (map_o (λ t. b ∷ t) (stem s))

-- What a line with a key is, where the rest is not free text: `key:{`, `key=`, `key=content`, `key=content:{`;
-- "nor is content [empty], so `key=:{` is no form". With it the place of its content.
pub data Shape : Type 0 where
  opener : Shape
  no_content : Shape
  content : ℕ → List ℕ → Shape
  opening : ℕ → List ℕ → Shape
  formless : Shape

abbrev pub by_stem : ℕ → List ℕ → Option (List ℕ) → Shape
by_stem at c None = content at c
by_stem at c (Some []) = formless
by_stem at c (Some (b ∷ t)) = opening at (b ∷ t)

abbrev pub shape_of : Rest → Shape
shape_of brace = opener
shape_of (equals at []) = no_content
shape_of (equals at (b ∷ c)) = by_stem at (b ∷ c) (stem (b ∷ c))

-- "Free-text content runs to the end of the line, so `character=a:{` opens nothing."
abbrev pub free_shape_of : Rest → Shape
free_shape_of brace = opener
free_shape_of (equals at []) = no_content
free_shape_of (equals at (b ∷ c)) = content at (b ∷ c)

abbrev pub has_form : Shape → Bool
has_form opener = true
has_form no_content = true
has_form (content at c) = true
has_form (opening at c) = true
has_form formless = false

-- ── forms by places ──
-- the bytes of a part of the spool
abbrev pub bytes_at : List ℕ → Span → List ℕ
bytes_at s p = take p.len (drop p.at s)

-- the form that a line's places stand for in a spool; of a refusal with its volume and line, the number
abbrev pub form_in : List ℕ → LineForm → Form
form_in s L.Ignored = ignored
form_in s L.Close = close
form_in s L.Eof = eof
form_in s (L.Opens o) = keyed (bytes_at s o.key) brace
form_in s (L.Equals q) = keyed (bytes_at s q.key) (equals q.rest.at (bytes_at s q.rest))
form_in s (L.Refused r) = wrong r.number

abbrev pub span : ℕ → ℕ → Span
span at len = record { at = at; len = len }

-- a form with the places of its parts: the line's volume and number, and the place just behind it
abbrev pub with_places : ℕ → ℕ → ℕ → Form → LineForm
with_places volume line end ignored = L.Ignored
with_places volume line end (wrong n) = L.Refused (record { number = n; volume = volume; line = line })
with_places volume line end close = L.Close
with_places volume line end eof = L.Eof
with_places volume line end (keyed k brace) = L.Opens (record { key = span (end - 2 - length k) (length k) })
with_places volume line end (keyed k (equals at c)) = L.Equals (record { key = span (at - 1 - length k) (length k); rest = span at (length c) })

-- the whole answer about a line: its form with places, or the refusal with volume and line
unfoldable pub line_form_of : ℕ → ℕ → ℕ → List ℕ → LineForm
line_form_of volume line at l = with_places volume line (at + length l) (form_of at l)
