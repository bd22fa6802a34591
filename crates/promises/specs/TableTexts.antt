-- The texts of a table of records, by the table and the spool alone (demand 2, "the same records and texts").
-- Document 01, "Record table": "Text is byte place in the spool, from 0, and length; 0 and 0 if empty."
use Rattle.std.specs.Prelude.{ℕ, zero, suc, ◌+◌, List, [], ◌∷◌, ◌++◌, map, ◌≡◌, ℤ, pos, negsuc, length, get_or, take, drop}
use Rattle.rules.specs.RecordTable.{width}
use Rattle.promises.specs.PlacesApart.{text_places, kind_of}

-- the first n records of a table
abbrev pub first_records : ℕ → List ℤ → List (List ℤ)
first_records zero t = []
first_records (suc n) t = take width t ∷ first_records n (drop width t)

-- a number of a record
abbrev pub number_at : List ℤ → ℕ → ℤ
number_at r p = get_or r p (pos 0)

-- a number as a place or a length
abbrev pub amount_of : ℤ → ℕ
amount_of (pos n) = n
amount_of (negsuc n) = 0

-- the bytes that a record points at: from the place that it has at p on, as many as it has behind that
abbrev pub text_at : List ℕ → List ℤ → ℕ → List ℕ
text_at spool r p = take (amount_of (number_at r (suc p))) (drop (amount_of (number_at r p)) spool)

-- all of a record, in the order of their places in it
abbrev pub texts_of_record : List ℕ → List ℤ → List (List ℕ)
texts_of_record spool r = map (text_at spool r) (text_places (kind_of r))

-- those of each record
abbrev pub texts_of : List ℕ → List (List ℤ) → List (List (List ℕ))
texts_of spool rs = map (texts_of_record spool) rs

-- ── that a record points at a text, and at the whole of it ──
-- "0 and 0 if empty"; otherwise the place of the text's first byte in the spool, which stands just behind the `=`, and its length, behind
-- which its line ends
pub data Shows (spool : List ℕ) : ℤ → ℤ → List ℕ → Type 0 where
  empty : Shows spool (pos 0) (pos 0) []
  stands : (before text after : List ℕ) → spool ≡ before ++ (61 ∷ text ++ (13 ∷ 10 ∷ after)) → Shows spool (pos (length before + 1)) (pos (length text)) text

-- a record shows these texts at these places
abbrev pub ShowsAt : List ℕ → List ℤ → List ℕ → List (List ℕ) → Type 0
ShowsAt spool r [] [] = Unit {0}
ShowsAt spool r [] (c ∷ cs) = ⊥
ShowsAt spool r (p ∷ ps) [] = ⊥
ShowsAt spool r (p ∷ ps) (c ∷ cs) = Shows spool (number_at r p) (number_at r (suc p)) c × ShowsAt spool r ps cs

-- each record shows its texts
abbrev pub ShowTexts : List ℕ → List (List ℤ) → List (List (List ℕ)) → Type 0
ShowTexts spool [] [] = Unit {0}
ShowTexts spool [] (cs ∷ css) = ⊥
ShowTexts spool (r ∷ rs) [] = ⊥
ShowTexts spool (r ∷ rs) (cs ∷ css) = ShowsAt spool r (text_places (kind_of r)) cs × ShowTexts spool rs css
