-- Lines that are written at once, lines that are noted, and what stands where figures do.
use Rattle.std.specs.Prelude.{None, Result}
use Prim.Native.Nat.{ℕ, ◌+◌}
use mathlib.Core.Bool.{Bool, true, false, cond}
use mathlib.Core.List.{List, [], ◌∷◌, ◌++◌, append_assoc, append-nil}
use mathlib.Core.Path.{◌≡◌, refl, sym, ◌∙◌, ap, subst}
use native.Mathlib.Omega.{arith}
use lib.ListN.{length, get_or}
use Rattle.rules.specs.Base.{bytes}
use Rattle.rules.specs.RefusalNumbers.{Got, got}
use Rattle.rules.specs.Values.{Value, Known, Kind}
use Rattle.rules.specs.Rows.{Rule, inner_of, shut, refuse}
use Rattle.rules.specs.RecordTable.{rule_at}
use Rattle.rules.specs.Blocks.{symbol_table}
use Rattle.rules.specs.Sets.{Figure, Contents, Set, LayerBlock, Symbol, with_records, with_block, with_volume, known_of, layer_table_of}
use Rattle.rules.specs.Machine.{Home, in_element, in_layer, State, is_layer, home_table, by_act}
use Rattle.rules.specs.FixedForm.{Text, open_line, opens_block, line_of, show_figure, show_figures, show_blocks}
use Rattle.rules.proofs.Chains.{never}
use Rattle.entries.specs.declared.Rest.{Rest as CodeRest}
use Rattle.pens.specs.declared.Pen.{Pen}
use Rattle.pens.specs.Texts.{ended, line_bytes, Draws}
use Rattle.pens.specs.Moves.{moved, at_once, key_pen}
use Rattle.pens.specs.Noting.{Noted, key_notes}
use Rattle.pens.specs.Shown.{front_text, home_text, home_known, home_rows, figures_text, shown}
use Rattle.pens.specs.Standing.{Served, Front, InSymbol, InHome, Here, Pens}
use Rattle.pens.specs.Keys.{key_text, KeyDone}
use Rattle.pens.specs.Closing.{shut_bytes}
use Rattle.pens.specs.Drawing.{LineOut}
use Rattle.pens.proofs.Laying.{on_draws}
use Rattle.pens.proofs.ShownLaws.{figures-last}
use Rattle.leaves.specs.declared.NoRoom.{NoRoom}

-- ── answers ──
-- a record that was taken

-- a block that was closed
pub shut-did : {P : Type 0} (here : State) (en : ℕ → Value → Got State) (op : ℕ → ℕ → Value → Got State) (cl : Got State) (b : Bool) (st : State)
    → by_act here en op (λ _. cl) (cond b shut (refuse 8)) ≡ got st → (cl ≡ got st → P) → P
shut-did here en op cl true st q f = f q
shut-did here en op cl false st q f = never q

-- ── what a line does to the output ──
module _ (K : Known) (spool : List ℕ) (first : Bool) (p : Pen) (ns out : List ℕ) (st : State) (z : Pens K spool first p ns out st)
    (st' : State) (next : Pen) (ns' out' : List ℕ) (d : Result Pen NoRoom) (size : length out' ≡ length out) (many : length ns' ≡ 28) where
  -- one line more
  pub on_line : (w : List ℕ) → shown K first st' ≡ shown K first st ++ w ∷ [] → Draws (ended w) p.at next out out' d → next.at ≡ p.at + length (ended w)
      → Here K spool first next ns' st' → LineOut K spool first st' ns' out' d
  on_line w e x a h =
      let q : ended w ≡ line_bytes (w ∷ []) = sym (append-nil (ended w)) in
      on_draws K spool first p ns out st z (w ∷ []) st' next ns' out' d size e
      (subst (λ (u : List ℕ). Draws u p.at next out out' d) q x) (a ∙ ap (λ (u : List ℕ). p.at + length u) q) many h

  -- nothing more
  pub on-nothing : shown K first st' ≡ shown K first st → Draws [] p.at next out out' d → next.at ≡ p.at → Here K spool first next ns' st' → LineOut K spool first st' ns' out' d
  on-nothing e x a h =
      on_draws K spool first p ns out st z [] st' next ns' out' d size (e ∙ sym (append-nil (shown K first st))) x (omega (arith, a)) many h

  -- a line with a key, written at once
  pub key-line : (t : ℕ) (rest : CodeRest) (k : Known) (j : ℕ) (r : Rule) (v : Value) → KeyDone t p rest k j r v ns ns' out out' d
      → at_once p j ≡ true → key_pen p j r.holds (opens_block r.holds v) (inner_of r.holds) (length (ended (line_of k r v))) ≡ next
      → next.at ≡ p.at + length (ended (line_of k r v))
      → shown K first st' ≡ shown K first st ++ line_of k r v ∷ [] → Here K spool first next ns' st' → LineOut K spool first st' ns' out' d
  key-line t rest k j r v done once pen a e h =
      let w : List ℕ = line_of k r v in
      let q : key_text p j w ≡ ended w = ap (λ (b : Bool). cond b (ended w) []) once in
      let to : List ℕ → Pen = λ u. key_pen p j r.holds (opens_block r.holds v) (inner_of r.holds) (length u) in
      on_line w e (subst (λ (n : Pen). Draws (ended w) p.at n out out' d) pen (subst (λ (u : List ℕ). Draws u p.at (to u) out out' d) q done.draws)) a h

  -- a line with a key, noted
  pub key-noted : (t : ℕ) (rest : CodeRest) (k : Known) (j : ℕ) (r : Rule) (v : Value) → KeyDone t p rest k j r v ns ns' out out' d
      → at_once p j ≡ false → key_pen p j r.holds (opens_block r.holds v) (inner_of r.holds) 0 ≡ next
      → next.at ≡ p.at
      → shown K first st' ≡ shown K first st → Here K spool first next ns' st' → LineOut K spool first st' ns' out' d
  key-noted t rest k j r v done later pen a e h =
      let w : List ℕ = line_of k r v in
      let q : key_text p j w ≡ [] = ap (λ (b : Bool). cond b (ended w) []) later in
      let to : List ℕ → Pen = λ u. key_pen p j r.holds (opens_block r.holds v) (inner_of r.holds) (length u) in
      on-nothing e (subst (λ (n : Pen). Draws [] p.at n out out' d) pen (subst (λ (u : List ℕ). Draws u p.at (to u) out out' d) q done.draws)) a h

  -- `}` alone
  pub shut-line : Draws shut_bytes p.at next out out' d → next.at ≡ p.at + 3 → shown K first st' ≡ shown K first st ++ bytes "}" ∷ [] → Here K spool first next ns' st'
      → LineOut K spool first st' ns' out' d
  shut-line x a e h = on_line (bytes "}") e x a h

-- the notes behind a line with a key, by the block that is open
pub notes-at : (p : Pen) (b : ℕ) → p.block ≡ b → (t j : ℕ) (d : Kind) (inner n : ℕ) (ns : List ℕ) → key_notes p t j d inner n ns ≡ key_notes (moved p 0 b p.part) t j d inner n ns
notes-at p b h t j d inner n ns = ap (λ (a : ℕ). key_notes (moved p 0 a p.part) t j d inner n ns) h

-- ── the set, where one thing of it changes ──
abbrev with_volumes : Set → List Contents → Set
with_volumes s vs = record { drawing = s.drawing; symbols = s.symbols; volumes = vs; now = s.now; taken = s.taken }

pub served-block : (u : LayerBlock) (s : Set) → Served s → Served (with_block u s)
served-block u s z = go s.volumes z
  where
    go : (vs : List Contents) → Served (with_volumes s vs) → Served (with_block u (with_volumes s vs))
    go [] x = x
    go (v ∷ vs) x = x

pub served-volume : (s : Set) → Served s → Served (with_volume s)
served-volume s z = go s.volumes z
  where
    go : (vs : List Contents) → Served (with_volumes s vs) → Served (with_volume (with_volumes s vs))
    go [] x = x
    go (v ∷ vs) x = x

-- the table of a layer stays
pub block-table : (u : LayerBlock) (s : Set) → layer_table_of (with_block u s) ≡ layer_table_of s
block-table u s = go s.volumes
  where
    go : (vs : List Contents) → layer_table_of (with_block u (record { drawing = s.drawing; symbols = s.symbols; volumes = vs; now = s.now; taken = s.taken }))
        ≡ layer_table_of (record { drawing = s.drawing; symbols = s.symbols; volumes = vs; now = s.now; taken = s.taken })
    go [] = refl
    go (v ∷ vs) = refl

pub volume-table : (s : Set) → layer_table_of (with_volume s) ≡ layer_table_of s
volume-table s = go s.volumes
  where
    go : (vs : List Contents) → layer_table_of (with_volume (record { drawing = s.drawing; symbols = s.symbols; volumes = vs; now = s.now; taken = s.taken }))
        ≡ layer_table_of (record { drawing = s.drawing; symbols = s.symbols; volumes = vs; now = s.now; taken = s.taken })
    go [] = refl
    go (v ∷ vs) = refl

module _ (K : Known) (first : Bool) where
  pub front-block : (u : LayerBlock) (s : Set) → front_text K first (with_block u s) ≡ front_text K first s
  front-block u s = go first
    where
      go : (b : Bool) → front_text K b (with_block u s) ≡ front_text K b s
      go true = refl
      go false = refl

  pub front-volume : (s : Set) → front_text K first (with_volume s) ≡ front_text K first s
  front-volume s = go first
    where
      go : (b : Bool) → front_text K b (with_volume s) ≡ front_text K b s
      go true = refl
      go false = refl

  front-records : (ks : List ℕ) (s : Set) → front_text K first (with_records ks s) ≡ front_text K first s
  front-records ks s = go first
    where
      go : (b : Bool) → front_text K b (with_records ks s) ≡ front_text K b s
      go true = refl
      go false = refl

  -- ── a record taken changes nothing of what is shown ──
  pub known-records : (ks : List ℕ) (s : Set) (h : Home) → home_known K (with_records ks s) h ≡ home_known K s h
  known-records ks s (in_element y) = refl
  known-records ks s (in_layer m) = refl

  pub text-records : (ks : List ℕ) (s : Set) (h : Home) (fs : List Figure) → figures_text K first (with_records ks s) h fs ≡ figures_text K first s h fs
  text-records ks s (in_element y) fs = refl
  text-records ks s (in_layer m) fs =
      ap (λ (f : Text). ((f ++ open_line (bytes "ELEMENT") ∷ show_blocks (known_of s) (layer_table_of s) s.now.blocks []) ++ (bytes "LAYER=" ++ open_line (get_or (known_of s).layers m [])) ∷ [])
      ++ show_figures (known_of s) true (layer_table_of s) fs []) (front-records ks s)

  -- a figure more
  pub text-more : (s : Set) (h : Home) (fs : List Figure) (f : Figure)
      → figures_text K first s h (fs ++ f ∷ []) ≡ figures_text K first s h fs ++ show_figure (home_known K s h) (is_layer h) (home_rows K s h) f []
  text-more s h fs f =
      ap (λ (u : Text). home_text K first s h ++ u) (figures-last (home_known K s h) (is_layer h) (home_rows K s h) fs f)
      ∙ sym (append_assoc (home_text K first s h) (show_figures (home_known K s h) (is_layer h) (home_rows K s h) fs []) (show_figure (home_known K s h) (is_layer h) (home_rows K s h) f []))

  pub rows-table : (s : Set) (h : Home) → home_rows K s h ≡ home_table s h
  rows-table s (in_element y) = refl
  rows-table s (in_layer m) = refl

  module _ (spool : List ℕ) where
    -- ── what stands where figures do ──
    pub home-layered : (p : Pen) (ns : List ℕ) (s : Set) (h : Home) → InHome K spool first p ns s h → p.layered ≡ is_layer h
    home-layered p ns s (in_element y) z = z.layered
    home-layered p ns s (in_layer m) z = z.1

    front_at : (ks : List ℕ) (s : Set) → Front first s → Front first (with_records ks s)
    front_at ks s z = record { volume = z.volume; alone = z.alone; empty = z.empty; served = z.served }

    pub symbol-at : (p p' : Pen) (ns ns' : List ℕ) (s : Set) (y : Symbol) → p'.start ≡ p.start → get_or ns' 0 0 ≡ get_or ns 0 0 → get_or ns' 3 0 ≡ get_or ns 3 0
        → InSymbol K spool first p ns s y → InSymbol K spool first p' ns' s y
    symbol-at p p' ns ns' s y a b c z = record {
      front = z.front;
      start = a ∙ z.start;
      slots = z.slots;
      name = subst (λ (n : ℕ). Noted spool K (rule_at symbol_table 0) n (get_or y.own 0 None)) (sym b) z.name;
      wall = subst (λ (n : ℕ). Noted spool K (rule_at symbol_table 3) n (get_or y.own 3 None)) (sym c) z.wall;
      order = z.order;
    }

    -- the pen goes on, and other notes are taken
    pub home_at : (p p' : Pen) (ns ns' : List ℕ) (s : Set) (h : Home) → p'.start ≡ p.start → p'.layered ≡ p.layered → get_or ns' 0 0 ≡ get_or ns 0 0 → get_or ns' 3 0 ≡ get_or ns 3 0
        → InHome K spool first p ns s h → InHome K spool first p' ns' s h
    home_at p p' ns ns' s (in_element y) a l b c z =
        record { in-symbol = symbol-at p p' ns ns' s y a b c z.in-symbol; layered = l ∙ z.layered; read = z.read; order = z.order }
    home_at p p' ns ns' s (in_layer m) a l b c z = (z.0, l ∙ z.1)

    -- a record is taken
    pub home-records : (p : Pen) (ns : List ℕ) (ks : List ℕ) (s : Set) (h : Home) → InHome K spool first p ns s h → InHome K spool first p ns (with_records ks s) h
    home-records p ns ks s (in_element y) z =
        let w = z.in-symbol in
        record {
          in-symbol = record { front = front_at ks s w.front; start = w.start; slots = w.slots; name = w.name; wall = w.wall; order = w.order };
          layered = z.layered;
          read = z.read;
          order = z.order;
        }
    home-records p ns ks s (in_layer m) z = (record { volume = z.0.volume; served = z.0.served }, z.1)
