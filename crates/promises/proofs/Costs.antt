-- What a state of the reading has for the fixed form so far: its weight as if every open block were closed here, and the closing lines it owes.
use Prim.Native.Nat.{ℕ, zero, suc, ◌+◌, ◌≤◌}
use mathlib.Core.Bool.{Bool, true, false, cond}
use mathlib.Core.List.{List, [], ◌∷◌, ◌++◌}
use mathlib.Core.Path.{◌≡◌, refl, ap}
use native.Mathlib.Omega.{arith}
use lib.ListN.{length}
use Rattle.rules.specs.Base.{bytes, is_nil}
use Rattle.rules.specs.Values.{Known}
use Rattle.rules.specs.Rows.{Rule, Held}
use Rattle.rules.specs.Blocks.{symbol_table}
use Rattle.rules.specs.Figures.{text_table, placed_tables}
use Rattle.rules.specs.Sets.{Wire, Figure, Drawing, Symbol, Contents, Set, with_now, with_symbol, with_volume, with_block, is_first, known_of}
use Rattle.rules.specs.Machine.{Home, in_element, in_layer, State, top, file, drawing, layer_names, defines, symbol, hide, elements, figures, successive, texts, placing, skipping, ended, is_layer, home_table, wire_block, wire_unread}
use Rattle.rules.specs.Machine.{symbol_block, Owned}
use Rattle.rules.specs.Sets.{layer_table_of}
use Rattle.rules.proofs.Chains.{total-more}
use Rattle.promises.proofs.Weights.{slots_cost, held_cost, block_cost, points_cost, figures_cost, drawing_cost, symbol_cost, own_cost, symbols_cost, own-cost, non_cost, layer_head, blocks_cost, file_cost, element_cost, head_cost, laters_cost, volumes_cost, text_cost, wire_cost}

-- the closing lines of the inner parts that are open
abbrev pub depth : ℕ → ℕ
depth zero = 0
depth (suc zero) = 3
depth (suc (suc p)) = 6

-- the first volume is at hand, before its ELEMENT
abbrev pub First : Set → Type 0
First s = (s.volumes ≡ []) × (s.now.blocks ≡ [])

abbrev with_volumes : List Contents → Set → Set
with_volumes vs s = record { drawing = s.drawing; symbols = s.symbols; volumes = vs; now = s.now; taken = s.taken }

-- K: what is known where the set is written. What names nothing weighs the same with it; layers are weighed with what is known where they are read.
module _ (K : Known) where
  -- the closed volumes, and the symbols that are closed
  abbrev pub closed_cost : Set → ℕ
  closed_cost s = volumes_cost K (known_of s) (layer_table_of s) s.drawing s.symbols s.volumes

  -- the blocks before ELEMENT of the volume at hand
  abbrev pub now_cost : Set → ℕ
  now_cost s = cond (is_first s) (head_cost K s.drawing s.symbols s.now.file) (file_cost K false s.now.file)

  abbrev pub top_cost : Set → ℕ → ℕ
  top_cost s zero = closed_cost s
  top_cost s (suc zero) = closed_cost s + file_cost K true s.now.file
  top_cost s (suc (suc zero)) = closed_cost s + file_cost K true s.now.file + block_cost (bytes "DRAWING_FORMAT") (drawing_cost K s.drawing)
  top_cost s (suc (suc (suc zero))) = closed_cost s + now_cost s
  top_cost s (suc (suc (suc (suc k)))) = closed_cost s

  abbrev pub in_drawing : Set → Drawing → ℕ
  in_drawing s d = top_cost s 1 + block_cost (bytes "DRAWING_FORMAT") (drawing_cost K d)

  abbrev pub in_defines : Set → Bool → ℕ
  in_defines s b = top_cost s 2 + block_cost (bytes "SYMBOL_DEFINE") (non_cost b)

  abbrev pub in_symbol : Set → Symbol → ℕ
  in_symbol s y = in_defines s false + symbol_cost K (slots_cost K symbol_table y.own) y

  abbrev pub in_elements : Set → ℕ
  in_elements s = top_cost s 3 + element_cost (known_of s) (layer_table_of s) s.now.blocks

  -- figures are weighed at home
  abbrev pub home_known : Set → Home → Known
  home_known s (in_element y) = K
  home_known s (in_layer n) = known_of s

  abbrev pub home_cost : Set → Home → ℕ
  home_cost s (in_element y) = in_symbol s y
  home_cost s (in_layer n) = in_elements s + layer_head (known_of s) n

  abbrev pub in_figures : Set → Home → List Figure → ℕ
  in_figures s h fs = home_cost s h + figures_cost (home_known s h) (is_layer h) (home_table s h) fs

  -- a wire's text that is open
  abbrev pub open_cost : Known → Wire → ℕ → ℕ
  open_cost k w zero = 0
  open_cost k w (suc p) = text_cost k w.writing

  abbrev pub in_owned : Set → ℕ → List Figure → Owned → ℕ → ℕ
  in_owned s n fs (symbol_block o) p = in_figures s (in_layer n) fs + block_cost (bytes "E_symbol") (held_cost (known_of s) placed_tables o)
  in_owned s n fs (wire_block w) p = in_figures s (in_layer n) fs + (block_cost (bytes "E_wire") (wire_cost (known_of s) w) + open_cost (known_of s) w p)
  in_owned s n fs wire_unread p = in_figures s (in_layer n) fs + block_cost (bytes "E_wire") 0

  abbrev pub cost : State → ℕ
  cost (top s k) = top_cost s k
  cost (file s n h p) = closed_cost s + file_cost K (is_first s) h
  cost (drawing s d) = in_drawing s d
  cost (layer_names s d) = in_drawing s d
  cost (defines s b) = in_defines s b
  cost (symbol s y) = in_symbol s y
  cost (hide s y ps) = in_symbol s y + points_cost K false ps
  cost (elements s) = in_elements s
  cost (figures s h fs) = in_figures s h fs
  cost (successive s h fs n ps) = in_figures s h fs + block_cost (bytes "successive") (points_cost (home_known s h) (is_layer h) ps)
  cost (texts s h fs n o) = in_figures s h fs + block_cost (bytes "text") (slots_cost (home_known s h) (text_table (is_layer h) 4 12) o)
  cost (placing s n fs m b p) = in_owned s n fs b p
  cost (skipping s n fs m b d) = in_owned s n fs b 0
  cost (ended s) = closed_cost s + 5

  -- the next volume begins with what is closed
  pub closed-least : (s : Set) (k : ℕ) → closed_cost s ≤ top_cost s k
  closed-least s zero = omega arith
  closed-least s (suc zero) = omega arith
  closed-least s (suc (suc zero)) = omega arith
  closed-least s (suc (suc (suc zero))) = omega arith
  closed-least s (suc (suc (suc (suc k)))) = omega arith

  -- ── the set, where one thing of it changes ──
  laters-more : (k : Known) (t : List Rule) (vs : List Contents) (v : Contents)
      → laters_cost K k t (vs ++ v ∷ []) ≡ laters_cost K k t vs + (file_cost K false v.file + element_cost k t v.blocks)
  laters-more k t vs v = total-more (λ v. file_cost K false v.file + element_cost k t v.blocks) vs v

  -- before the first volume is closed, the symbols alone
  pub closed-first : (s : Set) → s.volumes ≡ [] → closed_cost s ≡ symbols_cost K s.symbols
  closed-first s e = ap (λ vs. volumes_cost K (known_of s) (layer_table_of s) s.drawing s.symbols vs) e

  pub now-first : (s : Set) → s.volumes ≡ [] → now_cost s ≡ head_cost K s.drawing s.symbols s.now.file
  now-first s e = ap (λ (vs : List Contents). cond (is_nil vs) (head_cost K s.drawing s.symbols s.now.file) (file_cost K false s.now.file)) e

  -- ELEMENT closes: the volume at hand is one of the closed
  pub volume-cost : (s : Set) → closed_cost (with_volume s) ≤ in_elements s
  volume-cost s = go s.volumes
    where
      go : (vs : List Contents) → closed_cost (with_volume (with_volumes vs s)) ≤ in_elements (with_volumes vs s)
      go [] = omega arith
      go (u ∷ us) = omega (arith, laters-more (known_of s) (layer_table_of (with_volumes (u ∷ us) s)) us s.now)

  -- LAYER closes
  pub layer-cost : (s : Set) (n : ℕ) (fs : List Figure) → in_elements (with_block (record { layer = n; figures = fs }) s) ≤ in_figures s (in_layer n) fs
  layer-cost s n fs = go s.volumes
    where
      more : (t : List Rule) → blocks_cost (known_of s) t (s.now.blocks ++ record { layer = n; figures = fs } ∷ [])
          ≡ blocks_cost (known_of s) t s.now.blocks + (layer_head (known_of s) n + figures_cost (known_of s) true t fs)
      more t = total-more (λ u. layer_head (known_of s) u.layer + figures_cost (known_of s) true t u.figures) s.now.blocks (record { layer = n; figures = fs })

      go : (vs : List Contents) → in_elements (with_block (record { layer = n; figures = fs }) (with_volumes vs s)) ≤ in_figures (with_volumes vs s) (in_layer n) fs
      go [] = omega (arith, more (layer_table_of (with_volumes [] s)))
      go (u ∷ us) = omega (arith, more (layer_table_of (with_volumes (u ∷ us) s)))

  -- FILE_FORMAT closes
  pub file-cost : (s : Set) (n : ℕ) (h : Held) → top_cost (with_now (record { line = n; file = h; blocks = [] }) s) (cond (is_first s) 1 3) ≤ closed_cost s + file_cost K (is_first s) h
  file-cost s n h = go s.volumes
    where
      go : (vs : List Contents) → top_cost (with_now (record { line = n; file = h; blocks = [] }) (with_volumes vs s)) (cond (is_nil vs) 1 3) ≤ closed_cost (with_volumes vs s) + file_cost K (is_nil vs) h
      go [] = omega arith
      go (u ∷ us) = omega arith

  -- a symbol closes
  pub symbol-cost : (s : Set) (y : Symbol) → First s → 3 ≤ length y.own → in_defines (with_symbol y s) false ≤ in_symbol s y
  symbol-cost s y f e =
      omega (
        arith,
        closed-first s f.0,
        closed-first (with_symbol y s) f.0,
        total-more (λ y. symbol_cost K (own_cost K y) y) s.symbols y,
        own-cost K y e,
      )

-- the closing lines that are owed
abbrev pub home_owes : Home → ℕ
home_owes (in_element y) = 9
home_owes (in_layer n) = 6

-- a wire has no inner parts but its text
abbrev pub text_depth : ℕ → ℕ
text_depth zero = 0
text_depth (suc p) = 3

abbrev pub owned_depth : Owned → ℕ → ℕ
owned_depth (symbol_block o) p = depth p
owned_depth (wire_block w) p = text_depth p
owned_depth wire_unread p = 0

abbrev pub owed : State → ℕ
owed (top s k) = 0
owed (file s n h p) = 3 + depth p
owed (drawing s d) = 3
owed (layer_names s d) = 6
owed (defines s b) = 3
owed (symbol s y) = 6
owed (hide s y ps) = 9
owed (elements s) = 3
owed (figures s h fs) = home_owes h
owed (successive s h fs n ps) = home_owes h + 3
owed (texts s h fs n o) = home_owes h + 3
owed (placing s n fs m o p) = 9 + owned_depth o p
owed (skipping s n fs m o d) = 9
owed (ended s) = 0

-- ── what is true of every state that is reached ──
abbrev pub HomeOk : Set → Home → Type 0
HomeOk s (in_element y) = First s × (3 ≤ length y.own)
HomeOk s (in_layer n) = Unit {0}

abbrev pub TopOk : Set → ℕ → Type 0
TopOk s zero = Unit {0}
TopOk s (suc zero) = First s
TopOk s (suc (suc zero)) = First s
TopOk s (suc (suc (suc zero))) = s.now.blocks ≡ []
TopOk s (suc (suc (suc (suc k)))) = Unit {0}

-- FILE_FORMAT closes: DRAWING_FORMAT comes next in the first volume, ELEMENT in others
pub file_ok : (s : Set) (n : ℕ) (h : Held) → TopOk (with_now (record { line = n; file = h; blocks = [] }) s) (cond (is_first s) 1 3)
file_ok s n h = go s.volumes
  where
    go : (vs : List Contents) → TopOk (with_now (record { line = n; file = h; blocks = [] }) (with_volumes vs s)) (cond (is_nil vs) 1 3)
    go [] = (refl, refl)
    go (u ∷ us) = refl

abbrev pub Ok : State → Type 0
Ok (top s k) = TopOk s k
Ok (file s n h p) = Unit {0}
Ok (drawing s d) = First s
Ok (layer_names s d) = First s
Ok (defines s b) = First s
Ok (symbol s y) = HomeOk s (in_element y)
Ok (hide s y ps) = HomeOk s (in_element y)
Ok (elements s) = Unit {0}
Ok (figures s h fs) = HomeOk s h
Ok (successive s h fs n ps) = HomeOk s h
Ok (texts s h fs n o) = HomeOk s h
Ok (placing s n fs m o p) = Unit {0}
Ok (skipping s n fs m o d) = Unit {0}
Ok (ended s) = Unit {0}

-- after a line of n bytes: no more to write than was read
abbrev pub Next : Known → State → ℕ → State → Type 0
Next K st n st' = Ok st' × (cost K st' + owed st ≤ cost K st + owed st' + (n + 2))
