-- Lines that open a block: a place for each record taken, of zeros till it is complete, and the head of the open record on the scratch.
use Prim.Native.Nat.{ℕ, ◌+◌}
use mathlib.Core.Bool.{Bool, true, false}
use mathlib.Core.List.{List, [], ◌∷◌, ◌++◌, map, append-nil}
use mathlib.Core.Path.{◌≡◌, refl, sym, ◌∙◌, ap}
use lib.IntN.{ℤ}
use lib.ListN.{length, replicate}
use Rattle.rules.specs.declared.Class.{Class}
use Rattle.rules.specs.Base.{flat}
use Rattle.rules.specs.Rows.{blank}
use Rattle.rules.specs.Blocks.{file_tables, blank_held, drawing_table}
use Rattle.rules.specs.Figures.{text_table, placed_tables}
use Rattle.rules.specs.Sets.{Figure, Symbol, LayerBlock, Set, is_first, with_records}
use Rattle.rules.specs.Machine.{Home, in_element, in_layer, is_layer, State, top, file, drawing, defines, symbol, elements, figures, successive, texts, placing, symbol_block, file_kinds, new_symbol, kind_in}
use Rattle.rules.specs.RecordTable.{start, symbol_records, block_records, view_of, kind_drawing, kind_symbol, kind_successive, kind_text, kind_placed}
use Rattle.account.specs.Records.{with_part}
use Rattle.standing.specs.SoFar.{volume_of, closed_records, sheet_records, base_records, home_owner, home_volume, home_more, empty_record, empty_records}
use Rattle.standing.specs.Kept.{home_own, shut_so_far, figure_open, Scratch, Begins, Enters}
use Rattle.standing.proofs.MoreRecords.{closed-taken}
use Rattle.standing.proofs.OpenRecords.{begun-drawing, blank_record}
use Rattle.standing.proofs.FigureRows.{text-begun, placed-begun}
use Rattle.standing.proofs.ClosesKept.{shut-taken}
use Rattle.standing.proofs.ScratchKept.{scratch-same, scratch-own, scratch-figure}

-- ── at the top level ──
-- its numbers are kept apart from the scratch
pub file-opens : (c : Class) (s : Set) (line : ℕ) (t : List ℤ) → Scratch t (top s 0)
    → Begins c (top s 0) (file (with_records (file_kinds (is_first s)) s) line (blank_held (file_tables (is_first s))) 0) (length (file_kinds (is_first s))) t
file-opens c s line t x = record {
  opens = ap (λ (r : List (List ℤ)). r ++ empty_records (is_first s)) (closed-taken c s (file_kinds (is_first s))) ∙ ap (λ (r : List (List ℤ)). closed_records c s ++ r) (zeros_for (is_first s));
  scratch = scratch-same t (top s 0) (file (with_records (file_kinds (is_first s)) s) line (blank_held (file_tables (is_first s))) 0) x refl refl refl;
}
  where
    zeros_for : (b : Bool) → empty_records b ≡ replicate (length (file_kinds b)) empty_record
    zeros_for true = refl
    zeros_for false = refl

pub drawing-opens : (c : Class) (s : Set) (line : ℕ) (t : List ℤ) → Scratch t (top s 1)
    → Begins c (top s 1) (drawing (with_records (kind_drawing ∷ []) s) (record { line = line; own = blank drawing_table; layers = [] })) 1 (with_part 0 (start kind_drawing 0 1 line) t)
drawing-opens c s line t x = record {
  opens = refl;
  scratch =
      scratch-own t (top s 1) (drawing (with_records (kind_drawing ∷ []) s) (record { line = line; own = blank drawing_table; layers = [] })) x (start kind_drawing 0 1 line) refl
      (sym (begun-drawing line)) refl refl;
}

-- SYMBOL_DEFINE, where no symbol is closed yet
pub defines-opens : (c : Class) (s : Set) (t : List ℤ) → s.symbols ≡ [] → Scratch t (top s 2) → Enters c (top s 2) (defines s false) t
defines-opens c s t none x = record {
  same = ap (λ (ys : List Symbol). sheet_records s s.drawing ++ symbol_records 0 ys) none ∙ append-nil (sheet_records s s.drawing);
  scratch = scratch-same t (top s 2) (defines s false) x refl refl refl;
}

pub symbol-opens : (c : Class) (s : Set) (b : Bool) (line : ℕ) (t : List ℤ) → Scratch t (defines s b)
    → Begins c (defines s b) (symbol (with_records (kind_symbol ∷ []) s) (new_symbol line)) 1 (with_part 0 (start kind_symbol (length s.symbols) 1 line) t)
symbol-opens c s b line t x = record {
  opens = refl;
  scratch =
      scratch-own t (defines s b) (symbol (with_records (kind_symbol ∷ []) s) (new_symbol line)) x (start kind_symbol (length s.symbols) 1 line) refl
      (sym (blank_record (length s.symbols) line)) refl refl;
}

-- ELEMENT, where no layer is closed yet
pub elements-opens : (c : Class) (s : Set) (t : List ℤ) → s.now.blocks ≡ [] → Scratch t (top s 3) → Enters c (top s 3) (elements s) t
elements-opens c s t none x = record {
  same =
      ap (λ (us : List LayerBlock). base_records c s (is_first s) ++ flat (map (block_records (view_of c s) (volume_of s)) us)) none
      ∙ append-nil (base_records c s (is_first s));
  scratch = scratch-same t (top s 3) (elements s) x refl refl refl;
}

pub layer-opens : (c : Class) (s : Set) (k : ℕ) (t : List ℤ) → Scratch t (elements s) → Enters c (elements s) (figures s (in_layer k) []) t
layer-opens c s k t x = record { same = append-nil (shut_so_far c (elements s)); scratch = scratch-same t (elements s) (figures s (in_layer k) []) x refl refl refl }

-- ── figures that are blocks ──
-- the count of records says nothing of what is open
pub own-taken : (s : Set) (ks : List ℕ) (h : Home) → home_own s h ≡ home_own (with_records ks s) h
own-taken s ks (in_element y) = refl
own-taken s ks (in_layer k) = refl

-- their head, by where they stand
abbrev pub head_of : Set → Home → ℕ → ℕ → List ℤ
head_of s h kind line = start (kind + home_more h) (home_owner s h) (home_volume s h) line

pub chain-opens : (c : Class) (s : Set) (h : Home) (fs : List Figure) (line : ℕ) (t : List ℤ) → Scratch t (figures s h fs)
    → Begins c (figures s h fs) (successive (with_records (kind_in h kind_successive ∷ []) s) h fs line []) 1 (with_part 32 (head_of s h kind_successive line) t)
chain-opens c s h fs line t x =
    let ks : List ℕ = kind_in h kind_successive ∷ [] in
    let st' : State = successive (with_records ks s) h fs line [] in
    record {
      opens = ap (λ (r : List (List ℤ)). r ++ empty_record ∷ []) (shut-taken c s ks h fs);
      scratch = scratch-figure t (figures s h fs) st' x (head_of s h kind_successive line) refl (head-is ks h) (own-taken s ks h) refl;
    }
  where
    head-is : (ks : List ℕ) (h : Home) → head_of s h kind_successive line ≡ figure_open (successive (with_records ks s) h fs line [])
    head-is ks (in_element y) = refl
    head-is ks (in_layer k) = refl

pub text-opens : (c : Class) (s : Set) (h : Home) (fs : List Figure) (line : ℕ) (t : List ℤ) → Scratch t (figures s h fs)
    → Begins c (figures s h fs) (texts (with_records (kind_in h kind_text ∷ []) s) h fs line (blank (text_table (is_layer h) 4 12))) 1 (with_part 32 (head_of s h kind_text line) t)
text-opens c s h fs line t x =
    let ks : List ℕ = kind_in h kind_text ∷ [] in
    let st' : State = texts (with_records ks s) h fs line (blank (text_table (is_layer h) 4 12)) in
    record {
      opens = ap (λ (r : List (List ℤ)). r ++ empty_record ∷ []) (shut-taken c s ks h fs);
      scratch = scratch-figure t (figures s h fs) st' x (head_of s h kind_text line) refl (head-is ks h) (own-taken s ks h) refl;
    }
  where
    head-is : (ks : List ℕ) (h : Home) → head_of s h kind_text line ≡ figure_open (texts (with_records ks s) h fs line (blank (text_table (is_layer h) 4 12)))
    head-is ks (in_element y) = sym (text-begun false 20 (length s.symbols) 1 line)
    head-is ks (in_layer k) = sym (text-begun true 0 k (volume_of s) line)

pub placed-opens : (c : Class) (s : Set) (k : ℕ) (fs : List Figure) (line : ℕ) (t : List ℤ) → Scratch t (figures s (in_layer k) fs)
    → Begins c (figures s (in_layer k) fs) (placing (with_records (kind_placed ∷ []) s) k fs line (symbol_block (blank_held placed_tables)) 0) 1 (with_part 32 (start kind_placed k (volume_of s) line) t)
placed-opens c s k fs line t x = record {
  opens = ap (λ (r : List (List ℤ)). r ++ empty_record ∷ []) (shut-taken c s (kind_placed ∷ []) (in_layer k) fs);
  scratch =
      scratch-figure t (figures s (in_layer k) fs) (placing (with_records (kind_placed ∷ []) s) k fs line (symbol_block (blank_held placed_tables)) 0) x (start kind_placed k (volume_of s) line) refl
      (sym (placed-begun k (volume_of s) line)) refl refl;
}
