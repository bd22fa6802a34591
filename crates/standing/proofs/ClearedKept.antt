-- The scratch behind a line that makes a record complete: the record is in the table, and its part of the scratch is zeros again.
use Prim.Native.Nat.{ℕ}
use mathlib.Core.Bool.{false}
use mathlib.Core.List.{List, [], ◌∷◌, ◌++◌}
use mathlib.Core.Path.{◌≡◌, refl, ◌∙◌}
use native.Mathlib.Omega.{arith}
use lib.IntN.{ℤ}
use lib.ListN.{length, set, take, drop, length-take}
use Rattle.rules.specs.Rows.{Slots, Held}
use Rattle.rules.specs.Sets.{Point, Figure, chain, lettering, placed, Layer, Drawing, Symbol, Set, with_drawing, with_symbol, with_layer, with_records}
use Rattle.rules.specs.Machine.{Home, in_element, in_layer, State, top, file, drawing, layer_names, defines, symbol, hide, figures, successive, texts, placing, symbol_block}
use Rattle.rules.specs.RecordTable.{first_type}
use Rattle.account.specs.Records.{part_at, with_part}
use Rattle.standing.specs.SoFar.{empty_record}
use Rattle.standing.specs.Kept.{home_own, figure_open, Scratch}
use Rattle.standing.proofs.LaidTables.{part_of}
use Rattle.standing.proofs.FileKept.{file_closed}
use Rattle.standing.proofs.OpenersKept.{own-taken}
use Rattle.standing.proofs.ScratchKept.{scratch-long, scratch-same, scratch-own, scratch-figure, scratch-cleared, put-point}

-- ── at a `}` ──
pub file-cleared : (s : Set) (n : ℕ) (h : Held) (p : ℕ) (t : List ℤ) → Scratch t (file s n h p) → Scratch t (file_closed s n h)
file-cleared s n h p t x = scratch-same t (file s n h p) (file_closed s n h) x refl refl refl

pub drawing-cleared : (s : Set) (d : Drawing) (t : List ℤ) → Scratch t (drawing s d) → Scratch (with_part 0 empty_record t) (top (with_drawing d s) 2)
drawing-cleared s d t x = scratch-own t (drawing s d) (top (with_drawing d s) 2) x empty_record refl refl refl refl

pub symbol-cleared : (s : Set) (y : Symbol) (t : List ℤ) → Scratch t (symbol s y) → Scratch (with_part 0 empty_record t) (defines (with_symbol y s) false)
symbol-cleared s y t x = scratch-own t (symbol s y) (defines (with_symbol y s) false) x empty_record refl refl refl refl

pub text-cleared : (s : Set) (h : Home) (fs : List Figure) (n : ℕ) (o : Slots) (t : List ℤ) → Scratch t (texts s h fs n o) → Scratch (with_part 32 empty_record t) (figures s h (fs ++ lettering n o ∷ []))
text-cleared s h fs n o t x = scratch-figure t (texts s h fs n o) (figures s h (fs ++ lettering n o ∷ [])) x empty_record refl refl refl refl

-- u: the record as the line made it, with the count of points or the states of unread attributes
pub chain-cleared : (s : Set) (h : Home) (fs : List Figure) (n : ℕ) (ps : List Point) (t u : List ℤ) → length u ≡ 32 → Scratch t (successive s h fs n ps)
    → Scratch (with_part 32 empty_record (with_part 32 u t)) (figures s h (fs ++ chain n ps ∷ []))
chain-cleared s h fs n ps t u k x = scratch-cleared t (successive s h fs n ps) (figures s h (fs ++ chain n ps ∷ [])) x u k refl refl refl

pub placed-cleared : (s : Set) (m : ℕ) (fs : List Figure) (n : ℕ) (o : Held) (p : ℕ) (t u : List ℤ) → length u ≡ 32 → Scratch t (placing s m fs n (symbol_block o) p)
    → Scratch (with_part 32 empty_record (with_part 32 u t)) (figures s (in_layer m) (fs ++ placed n o ∷ []))
placed-cleared s m fs n o p t u k x = scratch-cleared t (placing s m fs n (symbol_block o) p) (figures s (in_layer m) (fs ++ placed n o ∷ [])) x u k refl refl refl

-- ── at its own line ──
-- the record that the line made
pub line-there : (t u : List ℤ) (st : State) → length u ≡ 32 → Scratch t st → part_at 32 (with_part 32 u t) ≡ u
line-there t u st k x = part_of (take 32 t) u (drop 64 t) 32 (omega (arith, length-take 32 t, scratch-long t st x)) k

pub line-cleared : (s : Set) (ks : List ℕ) (h : Home) (fs fs' : List Figure) (t u : List ℤ) → length u ≡ 32 → Scratch t (figures s h fs)
    → Scratch (with_part 32 empty_record (with_part 32 u t)) (figures (with_records ks s) h fs')
line-cleared s ks h fs fs' t u k x = scratch-cleared t (figures s h fs) (figures (with_records ks s) h fs') x u k (own-taken s ks h) refl refl

pub layer-cleared : (s : Set) (ks : List ℕ) (d : Drawing) (y : Layer) (t u : List ℤ) → length u ≡ 32 → Scratch t (layer_names s d)
    → Scratch (with_part 32 empty_record (with_part 32 u t)) (layer_names (with_records ks s) (with_layer y d))
layer-cleared s ks d y t u k x = scratch-cleared t (layer_names s d) (layer_names (with_records ks s) (with_layer y d)) x u k refl refl refl

pub hidden-cleared : (s : Set) (ks : List ℕ) (y : Symbol) (ps ps' : List Point) (t u : List ℤ) → length u ≡ 32 → Scratch t (hide s y ps)
    → Scratch (with_part 32 empty_record (with_part 32 u t)) (hide (with_records ks s) y ps')
hidden-cleared s ks y ps ps' t u k x = scratch-cleared t (hide s y ps) (hide (with_records ks s) y ps') x u k refl refl refl

-- ── a chain's point ──
-- the first one puts its type into the chain's record, the others leave that as it is
pub first_typed : (s : Set) (ks : List ℕ) (h : Home) (fs : List Figure) (n : ℕ) (p : Point)
    → set (figure_open (successive s h fs n [])) 4 (first_type (p ∷ [])) ≡ figure_open (successive (with_records ks s) h fs n (p ∷ []))
first_typed s ks (in_element y) fs n p = refl
first_typed s ks (in_layer k) fs n p = refl

pub later_typed : (s : Set) (ks : List ℕ) (h : Home) (fs : List Figure) (n : ℕ) (q : Point) (ps : List Point) (p : Point)
    → figure_open (successive s h fs n (q ∷ ps)) ≡ figure_open (successive (with_records ks s) h fs n ((q ∷ ps) ++ p ∷ []))
later_typed s ks (in_element y) fs n q ps p = refl
later_typed s ks (in_layer k) fs n q ps p = refl

-- t: the scratch behind the block's part of the line
pub point-cleared : (s : Set) (ks : List ℕ) (h : Home) (fs : List Figure) (n : ℕ) (ps : List Point) (t : List ℤ) → length t ≡ 96 → part_at 0 t ≡ home_own s h
    → part_at 32 t ≡ figure_open (successive (with_records ks s) h fs n ps) → Scratch (with_part 64 empty_record t) (successive (with_records ks s) h fs n ps)
point-cleared s ks h fs n ps t long own figure = put-point t long (successive (with_records ks s) h fs n ps) (own ∙ own-taken s ks h) figure refl
