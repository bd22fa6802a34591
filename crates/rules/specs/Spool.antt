-- Document 01, "Spool (H)": the volumes of a spool, the lines of a volume.
use Rattle.std.specs.Prelude.{ℕ, zero, suc, ◌+◌, ◌*◌, ◌/◌, ◌%◌, Bool, true, false, cond, ◌&&◌, ◌||◌, not, List, [], ◌∷◌, ◌++◌, map, eqb, leb, length, get_or, take, drop, replicate, Option, Some, None}
use Rattle.rules.specs.Base.{choose, map_o, is_nil, all, same, distinct, within}

-- "1 to 61,440 bytes; 1 to 12 volumes, nothing after."
abbrev pub most_bytes : ℕ
most_bytes = 61440

abbrev pub most_volumes : ℕ
most_volumes = 12

-- "A line has at most 512 bytes before CR LF."
abbrev pub most_in_line : ℕ
most_in_line = 512

-- A volume: its name without the spaces behind it, the place of its first byte in the spool, and its bytes.
pub record Volume : Type 0 where
  pub name : List ℕ
  pub place : ℕ
  pub body : List ℕ

-- "8 name bytes (1 to 8 of A-Z, 0-9, then spaces)"
abbrev pub name_byte : ℕ → Bool
name_byte b = within 65 90 b || within 48 57 b

abbrev pub name_of : List ℕ → List ℕ
name_of [] = []
name_of (b ∷ s) = cond (eqb b 32) [] (b ∷ name_of s)

abbrev pub padded_name : List ℕ → List ℕ
padded_name n = take 8 (n ++ replicate 8 32)

abbrev pub good_name : List ℕ → Bool
good_name s = not (is_nil (name_of s)) && all name_byte (name_of s) && same s (padded_name (name_of s))

-- "length as 2 bytes, high first; that many bytes"
abbrev pub length_of : List ℕ → ℕ
length_of h = get_or h 10 0 * 256 + get_or h 11 0

-- "Each volume: mark 56 50 hex; 8 name bytes; length; that many bytes": the twelve bytes before a volume, and what follows them.
abbrev pub good_head : List ℕ → List ℕ → Bool
good_head h s =
    eqb (length h) 12 && same (take 2 h) (86 ∷ 80 ∷ []) && good_name (take 8 (drop 2 h)) && leb (length_of h) (length s)

abbrev pub volume_at : ℕ → List ℕ → List ℕ → Volume
volume_at at h s = record { name = name_of (take 8 (drop 2 h)); place = at + 12; body = take (length_of h) s }

-- the volumes from a place on, k at most; none where something there is no volume, or one too many
abbrev pub volumes_from : ℕ → ℕ → List ℕ → Option (List Volume)
volumes_from zero at [] = Some []
volumes_from zero at (b ∷ s) = None
volumes_from (suc k) at [] = Some []
volumes_from (suc k) at (b ∷ s) =
    let h = take 12 (b ∷ s) in
    let r = drop 12 (b ∷ s) in
    choose (good_head h r)
    (λ _. map_o (λ vs. volume_at at h r ∷ vs) (volumes_from k (at + 12 + length_of h) (drop (length_of h) r)))
    (λ _. None)

abbrev pub names_of : List Volume → List (List ℕ)
names_of vs = map (λ v. v.name) vs

-- at least one volume, and "Names in the spool differ (else 2)."
abbrev pub sound_volumes : Option (List Volume) → Option (List Volume)
sound_volumes None = None
sound_volumes (Some vs) = cond (not (is_nil vs) && distinct (names_of vs)) (Some vs) None

-- none is refusal 2
unfoldable pub volumes_of : List ℕ → Option (List Volume)
volumes_of s = choose (within 1 most_bytes (length s)) (λ _. sound_volumes (volumes_from most_volumes 0 s)) (λ _. None)

-- ── the lines of a volume ──
-- "A volume is zero or more lines, each ended by CR LF, then one byte 1A hex. No other 1A, CR or LF."
abbrev pub head_line : ℕ → Option (List (List ℕ)) → Option (List (List ℕ))
head_line b None = None
head_line b (Some []) = None
head_line b (Some (l ∷ ls)) = Some ((b ∷ l) ∷ ls)

-- the first argument: a CR was just read
abbrev pub lines_from : Bool → List ℕ → Option (List (List ℕ))
lines_from true [] = None
lines_from true (b ∷ s) = choose (eqb b 10) (λ _. map_o (λ ls. [] ∷ ls) (lines_from false s)) (λ _. None)
lines_from false [] = None
lines_from false (b ∷ s) =
    choose (eqb b 13) (λ _. lines_from true s) λ _.
    choose (eqb b 26) (λ _. cond (is_nil s) (Some []) None) λ _.
    choose (eqb b 10) (λ _. None) λ _.
    head_line b (lines_from false s)

abbrev pub short_lines : Option (List (List ℕ)) → Option (List (List ℕ))
short_lines None = None
short_lines (Some ls) = cond (all (λ l. leb (length l) most_in_line) ls) (Some ls) None

-- none is refusal 3
unfoldable pub lines_of : List ℕ → Option (List (List ℕ))
lines_of s = short_lines (lines_from false s)

-- ── written back ──
abbrev pub unlines : List (List ℕ) → List ℕ
unlines [] = 26 ∷ []
unlines (l ∷ ls) = l ++ 13 ∷ 10 ∷ unlines ls

abbrev pub volume_bytes : List ℕ → List ℕ → List ℕ
volume_bytes n body = (86 ∷ 80 ∷ padded_name n) ++ (length body / 256 % 256 ∷ length body % 256 ∷ body)
