-- FILE_FORMAT's records at its close: two in the first volume, one in the others. Its numbers are kept apart till then.
use Prim.Native.Nat.{ℕ, suc, ◌*◌}
use mathlib.Core.Bool.{true, false, cond}
use mathlib.Core.List.{List, [], ◌∷◌, ◌++◌, append-nil}
use mathlib.Core.Path.{◌≡◌, refl, sym, ◌∙◌, ap}
use lib.IntN.{ℤ}
use lib.ListN.{length, take, drop, take-append-drop}
use Rattle.rules.specs.declared.Class.{Class}
use Rattle.rules.specs.Base.{flat}
use Rattle.rules.specs.Rows.{Held}
use Rattle.rules.specs.Blocks.{file_tables}
use Rattle.rules.specs.Sets.{Drawing, Symbol, Contents, Set, is_first, with_now}
use Rattle.rules.specs.Machine.{State, top, file}
use Rattle.rules.specs.RecordTable.{put_held}
use Rattle.rules.proofs.RecordLengths.{length-held}
use Rattle.account.specs.FileLines.{file_width}
use Rattle.standing.specs.SoFar.{volume_of, closed_records, empty_records}
use Rattle.standing.specs.FileStanding.{file_head}
use Rattle.standing.specs.Kept.{FillsAll}

-- the state behind its close
abbrev pub file_closed : Set → ℕ → Held → State
file_closed s n h = top (with_now (record { line = n; file = h; blocks = [] }) s) (cond (is_first s) 1 3)

module _ (c : Class) (d : Drawing) (ys : List Symbol) (now : Contents) (taken n : ℕ) (h : Held) (p own : ℕ) (hd : List ℤ) where
  abbrev with : List Contents → Set
  with vs = record { drawing = d; symbols = ys; volumes = vs; now = now; taken = taken }

  abbrev Filled : Set → Type 0
  Filled s = take (file_width (is_first s)) hd ≡ put_held (file_tables (is_first s)) h (file_head (is_first s) (volume_of s) n)

  abbrev Closes : Set → Type 0
  Closes s = FillsAll c (file s n h p) (file_closed s n h) 0 own (take (file_width (is_first s)) hd)

  closes : (vs : List Contents) → Filled (with vs) → length (flat (closed_records c (with vs))) ≡ 32 * own → Closes (with vs)
  closes [] f o =
      let us : List ℤ = put_held (file_tables true) h (file_head true 1 n) in
      record {
        fore = [];
        made = take 32 us ∷ drop 32 us ∷ [];
        behind = [];
        before = refl;
        after = refl;
        are = ap (λ (u : List ℤ). take 32 us ++ u) (append-nil (drop 32 us)) ∙ take-append-drop 32 us ∙ sym f;
        size = o;
        long = ap length f ∙ length-held (file_tables true) h (file_head true 1 n);
      }
  closes (v ∷ vs) f o =
      let fore : List (List ℤ) = closed_records c (with (v ∷ vs)) in
      let us : List ℤ = put_held (file_tables false) h (file_head false (suc (suc (length vs))) n) in
      record {
        fore = fore;
        made = us ∷ [];
        behind = [];
        before = append-nil (fore ++ empty_records false);
        after = refl;
        are = append-nil us ∙ sym f;
        size = o;
        long = ap length f ∙ length-held (file_tables false) h (file_head false (suc (suc (length vs))) n);
      }

-- own: how many records stand before them; hd: the numbers kept apart, of which the records' own are the first
pub file-fills : (c : Class) (s : Set) (n : ℕ) (h : Held) (p own : ℕ) (hd : List ℤ)
    → take (file_width (is_first s)) hd ≡ put_held (file_tables (is_first s)) h (file_head (is_first s) (volume_of s) n) → length (flat (closed_records c s)) ≡ 32 * own
    → FillsAll c (file s n h p) (file_closed s n h) 0 own (take (file_width (is_first s)) hd)
file-fills c s n h p own hd f o = closes c s.drawing s.symbols s.now s.taken n h p own hd s.volumes f o
