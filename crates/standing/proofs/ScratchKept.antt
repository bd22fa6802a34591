-- The scratch with another record in one of its three parts.
use Rattle.std.specs.Prelude.{Option, Some, None}
use Prim.Native.Nat.{ℕ, zero, suc}
use mathlib.Core.List.{List, [], ◌∷◌, ◌++◌, append-nil}
use mathlib.Core.Path.{◌≡◌, refl, sym, ◌∙◌, ap, subst}
use native.Mathlib.Omega.{arith}
use lib.IntN.{ℤ, pos}
use lib.ListN.{length, set, take, drop, replicate, length-set, length-append, length-take, length-drop, drop_of_length-le}
use lib.Seq.{sets, length-sets, take_at, drop_at, drop-drop}
use Rattle.rules.specs.Values.{Num, value_at}
use Rattle.rules.specs.Rows.{Slots}
use Rattle.rules.specs.Figures.{wire_table}
use Rattle.rules.specs.Sets.{Edge, Wire, Set}
use Rattle.rules.specs.Machine.{State, top, file, drawing, layer_names, defines, symbol, hide, elements, figures, successive, texts, placing, skipping, ended}
use Rattle.rules.specs.Machine.{Owned, symbol_block, wire_block, wire_unread}
use Rattle.rules.specs.RecordTable.{wire_start, Shelf, shelves, shown_lines, state_of_many, put_groups, text_numbers, first_text, put_texts, put_slots}
use Rattle.rules.proofs.RecordLengths.{length-slots}
use Rattle.rules.specs.Wires.{last_edge}
use Rattle.account.specs.Records.{part_at, with_part}
use Rattle.standing.specs.SoFar.{volume_of, former_numbers, wire_read, text_begun, wire_so_far, empty_record}
use Rattle.standing.specs.Kept.{own_open, figure_open, second_in, second_open, Scratch}
use Rattle.standing.proofs.LaidTables.{part_of, behind_of, with_of}
use Rattle.standing.proofs.ForeParts.{part-fore, fore-part}

-- ── it is three records long ──
-- an open wire's two are, whatever is known of it
pub former-long : (o : Option Edge) (t : List ℤ) → length t ≡ 64 → length (former_numbers o t) ≡ 64
former-long None t e = e
former-long (Some e) t h =
    let x : ℤ = value_at e.values 3 in
    let y : ℤ = value_at e.values 4 in
    length-set (set (set t 4 x) 36 y) 62 (pos (suc e.row)) ∙ length-set (set t 4 x) 36 y ∙ length-set t 4 x ∙ h

groups-long : (hs : List Shelf) (gs : List (List (List Num))) (t : List ℤ) → length (put_groups hs gs t) ≡ length t
groups-long [] gs t = refl
groups-long (h ∷ hs) [] t = refl
groups-long (h ∷ hs) (g ∷ gs) t =
    length-set (sets (put_groups hs gs t) h.place (pos (length g) ∷ shown_lines h.shown h.wide g)) h.state (state_of_many (length g))
    ∙ length-sets (put_groups hs gs t) h.place (pos (length g) ∷ shown_lines h.shown h.wide g) ∙ groups-long hs gs t

texts-long : (ts : List Slots) (t : List ℤ) → length (put_texts ts t) ≡ length t
texts-long ts t =
    length-set (sets t 37 (pos (length ts) ∷ text_numbers (first_text ts))) 58 (state_of_many (length ts)) ∙ length-sets t 37 (pos (length ts) ∷ text_numbers (first_text ts))

begun-long : (p : ℕ) (t : List ℤ) → length t ≡ 64 → length (text_begun p t) ≡ 64
begun-long zero t e = e
begun-long (suc p) t e = length-set t 58 (pos 2) ∙ e

pub wire-long : (s : Set) (k n : ℕ) (w : Wire) (p : ℕ) → length (wire_so_far s k n w p) ≡ 64
wire-long s k n w p =
    former-long (last_edge w.elements) (text_begun p (wire_read w (wire_start k (volume_of s) n)))
    (begun-long p (wire_read w (wire_start k (volume_of s) n))
    (groups-long shelves w.groups (put_texts w.texts (put_slots wire_table w.own (wire_start k (volume_of s) n)))
    ∙ texts-long w.texts (put_slots wire_table w.own (wire_start k (volume_of s) n)) ∙ length-slots wire_table w.own (wire_start k (volume_of s) n)))

second_of_lem : (s : Set) (k n : ℕ) (o : Owned) (p : ℕ) → length (second_in s k n o p) ≡ 32
second_of_lem s k n (symbol_block o) p = refl
second_of_lem s k n (wire_block w) p = omega (arith, length-drop 32 (wire_so_far s k n w p), wire-long s k n w p)
second_of_lem s k n wire_unread p = refl

second-long : (st : State) → length (second_open st) ≡ 32
second-long (top s k) = refl
second-long (file s n h p) = refl
second-long (drawing s d) = refl
second-long (layer_names s d) = refl
second-long (defines s b) = refl
second-long (symbol s y) = refl
second-long (hide s y ps) = refl
second-long (elements s) = refl
second-long (figures s h fs) = refl
second-long (successive s h fs n ps) = refl
second-long (texts s h fs n o) = refl
second-long (placing s k fs n o p) = second_of_lem s k n o p
second-long (skipping s k fs n o d) = second_of_lem s k n o 0
second-long (ended s) = refl

pub scratch-long : (t : List ℤ) (st : State) → Scratch t st → length t ≡ 96
scratch-long t st x =
    let behind : length (drop 64 t) ≡ 32 = ap length x.rest ∙ second-long st in
    omega (arith, behind, length-drop 64 t)

-- where nothing is open it is zeros
pub scratch-zeros : (st : State) → empty_record ≡ own_open st → empty_record ≡ figure_open st → empty_record ≡ second_open st → Scratch (replicate 96 (pos 0)) st
scratch-zeros st own figure second = record { own = own; figure = figure; rest = second }

-- what is said of one state is said of another in which the same is open
pub scratch-same : (t : List ℤ) (st st' : State) → Scratch t st → own_open st ≡ own_open st' → figure_open st ≡ figure_open st' → second_open st ≡ second_open st' → Scratch t st'
scratch-same t st st' x own figure second = record { own = x.own ∙ own; figure = x.figure ∙ figure; rest = x.rest ∙ second }

-- ── a part put, where the others are as they should be ──
module _ (t : List ℤ) (long : length t ≡ 96) (st : State) where
  -- the drawing's or the symbol's
  pub put-own : (u : List ℤ) → u ≡ own_open st → length u ≡ 32 → part_at 32 t ≡ figure_open st → drop 64 t ≡ second_open st → Scratch (with_part 0 u t) st
  put-own u is k figure rest = record {
    own = take_at u (drop 32 t) 32 k ∙ is;
    figure = ap (take 32) (drop_at u (drop 32 t) 32 k) ∙ figure;
    rest = sym (drop-drop 32 32 (u ++ drop 32 t)) ∙ ap (drop 32) (drop_at u (drop 32 t) 32 k) ∙ drop-drop 32 32 t ∙ rest;
  }

  -- the figure's
  pub put-figure : (u : List ℤ) → u ≡ figure_open st → length u ≡ 32 → part_at 0 t ≡ own_open st → drop 64 t ≡ second_open st → Scratch (with_part 32 u t) st
  put-figure u is k own rest =
      let first : length (take 32 t) ≡ 32 = omega (arith, length-take 32 t, long) in
      record {
        own = take_at (take 32 t) (u ++ drop 64 t) 32 first ∙ own;
        figure = part_of (take 32 t) u (drop 64 t) 32 first k ∙ is;
        rest = behind_of (take 32 t) u (drop 64 t) 32 first k ∙ rest;
      }

  -- the point's is zeros again when it is in the table
  pub put-point : part_at 0 t ≡ own_open st → part_at 32 t ≡ figure_open st → empty_record ≡ second_open st → Scratch (with_part 64 empty_record t) st
  put-point own figure second = record {
    own = part-fore 0 (with_part 64 empty_record t) t (fore-part 32 64 empty_record t (omega arith) (omega (arith, long))) ∙ own;
    figure = part-fore 32 (with_part 64 empty_record t) t (fore-part 64 64 empty_record t (omega arith) (omega (arith, long))) ∙ figure;
    rest =
        drop_at (take 64 t) (empty_record ++ drop 96 t) 64 (omega (arith, length-take 64 t, long))
        ∙ ap (λ (u : List ℤ). empty_record ++ u) (drop_of_length-le t {i = 96} (omega (arith, long))) ∙ append-nil empty_record ∙ second;
  }

-- A chain is lent two parts at once, its own and the point's: r, on return.
module _ (t : List ℤ) (long : length t ≡ 96) (r : List ℤ) (k : length r ≡ 64) where
  abbrev pub chain_back : List ℤ
  chain_back = take 32 t ++ r

  first : length (take 32 t) ≡ 32
  first = omega (arith, length-take 32 t, long)

  pub chain-long : length chain_back ≡ 96
  chain-long = omega (arith, length-append (take 32 t) r, first, k)

  pub chain-own : part_at 0 chain_back ≡ part_at 0 t
  chain-own = take_at (take 32 t) r 32 first

  behind-own : drop 32 chain_back ≡ r
  behind-own = drop_at (take 32 t) r 32 first

  pub chain-figure-part : part_at 32 chain_back ≡ part_at 0 r
  chain-figure-part = ap (take 32) behind-own

  pub chain-point : part_at 64 chain_back ≡ part_at 32 r
  chain-point = ap (take 32) (sym (drop-drop 32 32 chain_back) ∙ ap (drop 32) behind-own)

-- ── .. behind a line that leaves the others alone ──
module _ (t : List ℤ) (st st' : State) (x : Scratch t st) (u : List ℤ) (k : length u ≡ 32) where
  pub scratch-own : u ≡ own_open st' → figure_open st ≡ figure_open st' → second_open st ≡ second_open st' → Scratch (with_part 0 u t) st'
  scratch-own is figure second = put-own t (scratch-long t st x) st' u is k (x.figure ∙ figure) (x.rest ∙ second)

  pub scratch-figure : u ≡ figure_open st' → own_open st ≡ own_open st' → second_open st ≡ second_open st' → Scratch (with_part 32 u t) st'
  scratch-figure is own second = put-figure t (scratch-long t st x) st' u is k (x.own ∙ own) (x.rest ∙ second)

  -- zeros again, whatever the line put there: its record is in the table
  pub scratch-cleared : own_open st ≡ own_open st' → empty_record ≡ figure_open st' → second_open st ≡ second_open st' → Scratch (with_part 32 empty_record (with_part 32 u t)) st'
  scratch-cleared own gone second =
      let first : length (take 32 t) ≡ 32 = omega (arith, length-take 32 t, scratch-long t st x) in
      subst (λ (y : List ℤ). Scratch y st') (sym (with_of (take 32 t) u (drop 64 t) 32 first k empty_record)) (put-figure t (scratch-long t st x) st' empty_record gone refl (x.own ∙ own) (x.rest ∙ second))
