-- The other records that are complete at a `}`: the drawing's, a symbol's, a placed symbol's. And a figure's of one line.
use Prim.Native.Nat.{ℕ, ◌+◌, ◌*◌, ◌-◌}
use mathlib.Core.Bool.{true, false}
use mathlib.Core.List.{List, [], ◌∷◌, ◌++◌, map, append-nil, append_assoc}
use mathlib.Core.Path.{◌≡◌, refl, sym, ◌∙◌, ap}
use native.Mathlib.Omega.{arith}
use lib.IntN.{ℤ}
use lib.ListN.{length, length-append}
use Rattle.rules.specs.declared.Class.{Class}
use Rattle.rules.specs.Base.{flat}
use Rattle.rules.specs.Rows.{Held}
use Rattle.rules.specs.Blocks.{symbol_table, drawing_table}
use Rattle.rules.specs.Figures.{placed_table, placed_tables}
use Rattle.rules.specs.Sets.{Figure, placed, Drawing, Symbol, Set, range_of, with_drawing, with_symbol, with_records}
use Rattle.rules.specs.Machine.{Home, in_element, in_layer, top, drawing, defines, symbol, figures, placing, symbol_block}
use Rattle.rules.specs.RecordTable.{start, put_held, mark_unread, file_records, layer_records, inner_records}
use Rattle.rules.proofs.RecordLengths.{length-slots, length-held, length-unread}
use Rattle.account.specs.Records.{part_at}
use Rattle.standing.specs.SoFar.{volume_of, front_records, layers_records, home_figure, empty_record}
use Rattle.standing.specs.Kept.{home_shut, figures_shut, shut_so_far, Scratch, Fills}
use Rattle.standing.proofs.LaidTables.{flat-more}
use Rattle.standing.proofs.MoreRecords.{flat_map_more, symbol-more, layers-taken}
use Rattle.standing.proofs.KeptLaws.{fills_one}

-- own: how many records stand before it
pub drawing-fills : (c : Class) (s : Set) (d : Drawing) (own : ℕ) (t : List ℤ) → Scratch t (drawing s d) → length (flat (file_records true 1 s.now)) ≡ 32 * own
    → Fills c (drawing s d) (top (with_drawing d s) 2) 0 0 own t
drawing-fills c s d own t x o = record {
  fore = file_records true 1 s.now;
  behind = layer_records 0 d.layers;
  before = append-nil (file_records true 1 s.now ++ empty_record ∷ layer_records 0 d.layers);
  after = ap (λ (u : List ℤ). file_records true 1 s.now ++ u ∷ layer_records 0 d.layers) (sym x.own);
  size = o;
  long = ap length x.own ∙ length-slots drawing_table d.own (start 3 0 1 d.line);
}

pub symbol-fills : (c : Class) (s : Set) (y : Symbol) (own : ℕ) (t : List ℤ) → Scratch t (symbol s y) → length (flat (front_records s)) ≡ 32 * own
    → Fills c (symbol s y) (defines (with_symbol y s) false) 0 0 own t
symbol-fills c s y own t x o = record {
  fore = front_records s;
  behind = inner_records (length s.symbols) y;
  before = append-nil (front_records s ++ empty_record ∷ inner_records (length s.symbols) y);
  after = symbol-more s y ∙ ap (λ (u : List ℤ). front_records s ++ u ∷ inner_records (length s.symbols) y) (sym x.own);
  size = o;
  long = ap length x.own ∙ length-slots symbol_table y.own (start 4 (length s.symbols) 1 y.line);
}

-- its states of unread attributes come at its `}`
pub placed-fills : (c : Class) (s : Set) (m : ℕ) (fs : List Figure) (n : ℕ) (o : Held) (records : ℕ) → length (flat (shut_so_far c (placing s m fs n (symbol_block o) 0))) ≡ 32 * records
    → (t₀ t₁ : List ℤ) → Scratch t₀ (placing s m fs n (symbol_block o) 0) → part_at 32 t₁ ≡ mark_unread c.symbols (range_of s) placed_table (part_at 32 t₀)
    → Fills c (placing s m fs n (symbol_block o) 0) (figures s (in_layer m) (fs ++ placed n o ∷ [])) 0 32 (records - 1) t₁
placed-fills c s m fs n o records all t₀ t₁ x put =
    let fore : List (List ℤ) = figures_shut c s (in_layer m) fs in
    let closed : part_at 32 t₁ ≡ mark_unread c.symbols (range_of s) placed_table (put_held placed_tables o (start 16 m (volume_of s) n)) = put ∙ ap (mark_unread c.symbols (range_of s) placed_table) x.figure in
    record {
      fore = fore;
      behind = [];
      before = append-nil (fore ++ empty_record ∷ []);
      after =
          ap (λ (r : List (List ℤ)). layers_records c s ++ r) (flat_map_more (home_figure c s (in_layer m)) fs (placed n o))
          ∙ sym (append_assoc (layers_records c s) (flat (map (home_figure c s (in_layer m)) fs)) (home_figure c s (in_layer m) (placed n o)))
          ∙ ap (λ (u : List ℤ). fore ++ u ∷ []) (sym closed);
      size =
          let before : length (flat fore) + 32 ≡ 32 * records = sym (length-append (flat fore) empty_record) ∙ ap length (sym (flat-more fore empty_record)) ∙ all in
          omega (arith, before);
      long = ap length closed ∙ length-unread c.symbols (range_of s) placed_table (put_held placed_tables o (start 16 m (volume_of s) n)) ∙ length-held placed_tables o (start 16 m (volume_of s) n);
    }

-- ── of one line ──
-- the count of records says nothing of what they are
pub shut-taken : (c : Class) (s : Set) (ks : List ℕ) (h : Home) (fs : List Figure) → figures_shut c (with_records ks s) h fs ≡ figures_shut c s h fs
shut-taken c s ks (in_element y) fs = refl
shut-taken c s ks (in_layer m) fs = ap (λ (r : List (List ℤ)). r ++ flat (map (home_figure c s (in_layer m)) fs)) (layers-taken c s ks)

-- a figure, whose record is the whole of it
pub line-fills : (c : Class) (s : Set) (kind : ℕ) (h : Home) (fs : List Figure) (f : Figure) (records : ℕ) → length (flat (shut_so_far c (figures s h fs))) ≡ 32 * records → (t : List ℤ)
    → length (part_at 32 t) ≡ 32 → home_figure c s h f ≡ part_at 32 t ∷ [] → Fills c (figures s h fs) (figures (with_records (kind ∷ []) s) h (fs ++ f ∷ [])) 1 32 records t
line-fills c s kind h fs f records all t long made =
    fills_one c records (figures s h fs) (figures (with_records (kind ∷ []) s) h (fs ++ f ∷ [])) all 32 t long
    (shut-taken c s (kind ∷ []) h (fs ++ f ∷ [])
    ∙ ap (λ (r : List (List ℤ)). home_shut c s h ++ r) (flat_map_more (home_figure c s h) fs f)
    ∙ sym (append_assoc (home_shut c s h) (flat (map (home_figure c s h) fs)) (home_figure c s h f))
    ∙ ap (λ (r : List (List ℤ)). figures_shut c s h fs ++ r) made)
