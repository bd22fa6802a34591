-- A figure on one line, and one that is a block and has just begun: what the set says of it, its kind, and its marks.
use Rattle.std.specs.Prelude.{None}
use Prim.Native.Nat.{ℕ, ◌+◌}
use mathlib.Core.Bool.{Bool, true, false}
use mathlib.Core.List.{List, [], ◌∷◌, ◌++◌, append-nil}
use mathlib.Core.Path.{◌≡◌, refl, sym, ◌∙◌, ap}
use native.Mathlib.Omega.{arith}
use lib.IntN.{pos}
use lib.ListN.{length, take, replicate}
use Rattle.rules.specs.Values.{Num, nums}
use Rattle.rules.specs.Rows.{Rule, blank, part_of, rows_there}
use Rattle.rules.specs.Blocks.{blank_held}
use Rattle.rules.specs.Figures.{text_table, placed_table, placed_tables, wire_table}
use Rattle.rules.specs.Sets.{Figure, plain, placed, Set, with_records}
use Rattle.rules.specs.Machine.{Home, in_element, in_layer, is_layer, elements, figures, successive, texts, placing, symbol_block, wire_block, no_wire}
use Rattle.rules.specs.RecordTable.{put_state}
use Rattle.entries.specs.Acts.{put_line}
use Rattle.account.specs.Placing.{Shaped}
use Rattle.standing.specs.SoFar.{home_more, empty_record}
use Rattle.standing.specs.Standing.{home_used, links_with, serial_bytes, figure_links}
use Rattle.account.specs.FigureLines.{block_kind}
use Rattle.standing.proofs.FigureSights.{plain-serials}
use Rattle.standing.proofs.Standings.{Sight, sight}

-- ── what a begun or a plain figure leaves alone ──
abbrev sighted : Set → List (List ℕ) → List ℕ → Bool → Sight
sighted s serials used inside =
    record { set = (sight (elements s)).set; layers = s.drawing.layers; serials = serials; used = used; inside = inside; counts = true }

pub plain_sight : (kind : ℕ) (s : Set) (h : Home) (fs : List Figure) (n j : ℕ) (v : List Num) → sight (figures s h fs) ≡ sight (figures (with_records (kind ∷ []) s) h (fs ++ plain n j v ∷ []))
plain_sight kind s (in_element y) fs n j v = refl
plain_sight kind s (in_layer m) fs n j v = ap (λ (u : List (List ℕ)). sighted s u (home_used s (in_layer m)) true) (plain-serials s (in_layer m) fs (plain n j v) refl)

pub chain-sight : (kind : ℕ) (s : Set) (h : Home) (fs : List Figure) (n : ℕ) → sight (figures s h fs) ≡ sight (successive (with_records (kind ∷ []) s) h fs n [])
chain-sight kind s (in_element y) fs n = refl
chain-sight kind s (in_layer m) fs n = refl

pub text-sight : (kind : ℕ) (s : Set) (h : Home) (fs : List Figure) (n : ℕ) → sight (figures s h fs) ≡ sight (texts (with_records (kind ∷ []) s) h fs n (blank (text_table (is_layer h) 4 12)))
text-sight kind s (in_element y) fs n = refl
text-sight kind s (in_layer m) fs n = refl

no-serial : (n : ℕ) → figure_links (placed n (blank_held placed_tables)) ≡ []
unfolding placed_table
no-serial n = refl

pub placed-sight : (kind : ℕ) (s : Set) (m : ℕ) (fs : List Figure) (n : ℕ) → sight (figures s (in_layer m) fs) ≡ sight (placing (with_records (kind ∷ []) s) m fs n (symbol_block (blank_held placed_tables)) 0)
placed-sight kind s m fs n =
    ap (λ (u : List (List ℕ)). sighted s u (home_used s (in_layer m)) true)
    (sym (ap (λ (u : List (List ℕ)). links_with s fs ++ u) (no-serial n) ∙ append-nil (links_with s fs)))

-- ── the kinds of the figures that are blocks ──
pub chain-kind : (h : Home) → block_kind (is_layer h) 1 ≡ 14 + home_more h
chain-kind (in_element y) = refl
chain-kind (in_layer m) = refl

pub text-kind : (h : Home) → block_kind (is_layer h) 2 ≡ 15 + home_more h
text-kind (in_element y) = refl
text-kind (in_layer m) = refl

-- a line that holds nothing leaves its record empty but for its head
pub empty-line : (r : Rule) → r.state ≡ 0 → put_line r 0 (nums []) empty_record ≡ empty_record
empty-line r q = ap (λ (m : ℕ). put_state m (pos 2) empty_record) q

-- ── marks ──
pub two-unmarked : (b : Bool) (i : List Bool) → length i ≡ 2 → replicate (length i) false ≡ rows_there (blank (text_table b 4 12))
unfolding text_table
two-unmarked b i q = ap (λ (m : ℕ). replicate m false) q

pub two-slots : (b : Bool) → length (blank (text_table b 4 12)) ≡ 2
unfolding text_table
two-slots b = refl

pub unmarked : (ms : List Bool) → length ms ≡ 28 → take 6 (replicate (length ms) false) ≡ rows_there (part_of (blank_held placed_tables) 0)
unfolding placed_table
unmarked ms q = ap (λ (m : ℕ). take 6 (replicate m false)) q

pub blank-shaped : Shaped 0 placed_tables (blank_held placed_tables)
unfolding placed_table text_table
blank-shaped = (omega arith, refl, (omega arith, refl, tt))

-- `E_symbol:{` is read, the line of its serial number isn't
pub placed-bytes : (s : Set) (m : ℕ) (fs : List Figure) (n : ℕ) → serial_bytes (placing s m fs n (symbol_block (blank_held placed_tables)) 0) ≡ 15
unfolding placed_table
placed-bytes s m fs n = refl

-- ── a wire of which nothing is read ──
pub wire-unmarked : (ms : List Bool) → length ms ≡ 28 → take 10 (replicate (length ms) false) ≡ rows_there no_wire.own
unfolding wire_table
wire-unmarked ms q = ap (λ (m : ℕ). take 10 (replicate m false)) q

pub wire-blank : (length no_wire.own ≡ 10) × (take 6 no_wire.own ≡ replicate 6 None)
unfolding wire_table
wire-blank = (refl, refl)

-- `E_wire:{` is read, the line of its serial number isn't
pub wire-bytes : (s : Set) (m : ℕ) (fs : List Figure) (n : ℕ) → serial_bytes (placing s m fs n (wire_block no_wire) 0) ≡ 13
unfolding wire_table
wire-bytes s m fs n = refl
