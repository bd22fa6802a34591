-- Every figure that is one line, and every line and arc of a wire, came of a line of the volume that its record will show: a state's invariant.
-- L says of a volume, a line number and a form that this line has this form.
use Rattle.std.specs.Prelude.{Some}
use Prim.Native.Nat.{ℕ, zero, suc, ◌+◌, ◌≤◌, ◌<◌}
use mathlib.Core.Bool.{Bool, true, false, cond, ◌&&◌, ◌||◌, not}
use mathlib.Core.List.{List, [], ◌∷◌, ◌++◌}
use mathlib.Core.Path.{◌≡◌, refl, sym, ◌∙◌, ap, subst}
use native.Mathlib.Omega.{arith}
use lib.Dec.{eqb, leb, ltb}
use lib.ListN.{length, get_or, set}
use borrow.Author.Tests.{eqb-true}
use Rattle.rules.specs.declared.Digits.{Digits}
use Rattle.rules.specs.Base.{is_nil, has_number}
use Rattle.rules.specs.RefusalNumbers.{Got, got, bad, also}
use Rattle.rules.specs.Lines.{Rest, Form, ignored, wrong, close, eof, keyed}
use Rattle.rules.specs.RangeClass.{digits, digits_of, reaches, exceeds, knows_wires, skip_of, most_depth, both}
use Rattle.rules.specs.Values.{Num, Value, Known, nums_of, amount_at}
use Rattle.rules.specs.Rows.{Rule, Found, absent, found, find, Slots, Held, part_of, rows_there, rows_at_limit, Act, stay, entry, begin, shut, refuse, act_row, act_unknown, act}
use Rattle.rules.specs.Blocks.{top_table, file_tables, drawing_table, defines_table, symbol_table, element_table}
use Rattle.rules.specs.Figures.{layer_table, figure_table, point_table, text_table, placed_table, placed_tables, wire_table, least_points}
use Rattle.rules.specs.Sets.{Point, Edge, Wire, Figure, plain, chain, lettering, placed, wired, passed, Drawing, Symbol, LayerBlock, Contents, Set, nothing_yet, is_first, is_single, is_wired, arc_of, range_of, define_range, join_digit, known_of, used_in, symbol_own}
use Rattle.rules.specs.VolumesAndTotals.{chained, dated, counted_here}
use Rattle.rules.specs.Machine.{Line, Env, Home, in_element, in_layer, Owned, symbol_block, wire_block, wire_unread, State, top, file, drawing, layer_names, defines, symbol, hide, elements, figures, successive, texts, placing, skipping, ended, by_act, open_top, on_top, close_file, on_file, on_drawing, on_layer_names, on_defines, new_name, open_symbol, on_symbol, on_hide, on_elements, is_layer, home_table, close_figures, begin_wire, open_figure, on_figures, on_successive, on_texts, file_kinds}
use Rattle.rules.specs.PlacedSymbol.{on_unknown, new_serial, on_placed, on_placed_key, on_placing, skip_ended, unread_shut, skip_shut, on_skipping}
use Rattle.rules.specs.Wires.{joins_ends, last_edge, joined, on_wire}
use Rattle.rules.specs.LineByLine.{step_in, completes, next_volume, step, accepted, then_run, run}
use Rattle.rules.proofs.Chains.{On, on-unless, on-cond, on-map, on-also, on-got, on_weaken}
use Rattle.promises.proofs.ClosedActs.{on-by_act}
use Rattle.rules.proofs.OnActs.{on-layers, on-taking, on-shut, on_skip}
use Rattle.rules.proofs.Rows.{Row, row_below}
use Rattle.rules.proofs.Runs.{not-accepted, finish-ended}
use Rattle.promises.proofs.Count.{add_step, added, inv-start}
use Rattle.promises.proofs.CountActs.{act-begin}
use Rattle.promises.proofs.CountState.{number, volume_of, Kept, Tied, Inv, Adds}
use Rattle.promises.proofs.Fitting.{in-volume}
use Rattle.promises.proofs.FitRows.{each_more}
use Rattle.promises.proofs.FitSets.{Each}
use Rattle.promises.proofs.Listing.{Running}
use Rattle.promises.proofs.OnEof.{on-eof}
use Rattle.promises.proofs.OnWires.{by-line}

-- an act, with what it entered
on-entry : (P : State → Type 0) (now : State) (entered : ℕ → Value → Got State) (opened : ℕ → ℕ → Value → Got State) (closed : Got State) (a : Act)
    → P now → ((j : ℕ) (v : Value) → a ≡ entry j v → On P (entered j v)) → ((i j : ℕ) (v : Value) → On P (opened i j v)) → On P closed
    → On P (by_act now entered opened (λ _. closed) a)
on-entry P now entered opened closed stay p q r s = p
on-entry P now entered opened closed (entry j v) p q r s = q j v refl
on-entry P now entered opened closed (begin i j v) p q r s = r i j v
on-entry P now entered opened closed shut p q r s = s
on-entry P now entered opened closed (refuse n) p q r s = tt

top-row : {j : ℕ} {r : Rule} → Row top_table j r → j < 4
unfolding top_table
top-row w = row_below w

module _ (L : ℕ → ℕ → Form → Type 0) where
  -- line n of a volume enters row j of a table with these numbers
  pub record Came (volume : ℕ) (t : List Rule) (n j : ℕ) (v : List Num) : Type 0 where
    pub known : Known
    pub range : Digits
    pub full : List Bool
    pub form : Form
    pub value : Value
    pub stands : L volume n form
    pub entered : act known t range full form ≡ entry j value
    pub numbers : nums_of value ≡ v

  -- ── a set ──
  -- in a symbol, or in a layer of a file of some range
  abbrev pub CameLine : Bool → ℕ → ℕ → ℕ → List Num → Type 0
  CameLine false k n j v = Came k figure_table n j v
  CameLine true k n j v = (single : Bool) × (wires : Bool) × Came k (layer_table single wires) n j v

  abbrev pub CameEdge : ℕ → Edge → Type 0
  CameEdge k e = Came k wire_table e.line e.row e.values

  abbrev pub CameFigure : Bool → ℕ → Figure → Type 0
  CameFigure b k (plain n j v) = CameLine b k n j v
  CameFigure b k (chain n ps) = Unit {0}
  CameFigure b k (lettering n s) = Unit {0}
  CameFigure b k (placed n h) = Unit {0}
  CameFigure b k (wired n w) = Each (CameEdge k) w.elements
  CameFigure b k (passed n) = Unit {0}

  -- symbols stand in the first volume
  abbrev pub CameSymbol : Symbol → Type 0
  CameSymbol y = Each (CameFigure false 1) y.figures

  abbrev pub CameBlock : ℕ → LayerBlock → Type 0
  CameBlock k u = Each (CameFigure true k) u.figures

  abbrev pub CameContents : ℕ → Contents → Type 0
  CameContents k v = Each (CameBlock k) v.blocks

  abbrev pub CameVolumes : ℕ → List Contents → Type 0
  CameVolumes k [] = Unit {0}
  CameVolumes k (v ∷ vs) = CameContents k v × CameVolumes (suc k) vs

  abbrev pub CameSet : Set → Type 0
  CameSet s = Each CameSymbol s.symbols × CameVolumes 1 s.volumes

  -- ── a state ──
  abbrev CameNow : Set → Type 0
  CameNow s = CameContents (number s) s.now

  -- figures that are open, in volume k
  abbrev CameHome : ℕ → Home → List Figure → Type 0
  CameHome k (in_element y) fs = Each (CameFigure false 1) fs
  CameHome k (in_layer m) fs = Each (CameFigure true k) fs

  abbrev CameOwned : ℕ → Owned → Type 0
  CameOwned k (symbol_block o) = Unit {0}
  CameOwned k (wire_block w) = Each (CameEdge k) w.elements
  CameOwned k wire_unread = Unit {0}

  abbrev CameOpen : Set → Type 0
  CameOpen s = CameSet s × CameNow s

  -- between blocks the volume at hand is open from FILE_FORMAT's end to ELEMENT's
  abbrev CameState : State → Type 0
  CameState (top s k) = CameSet s × (1 ≤ k → k < 4 → CameNow s)
  CameState (file s n h p) = CameSet s
  CameState (drawing s d) = CameOpen s
  CameState (layer_names s d) = CameOpen s
  CameState (defines s b) = CameOpen s
  CameState (symbol s y) = CameOpen s × CameSymbol y
  CameState (hide s y ps) = CameOpen s × CameSymbol y
  CameState (elements s) = CameOpen s
  CameState (figures s h fs) = CameOpen s × CameHome (number s) h fs
  CameState (successive s h fs n ps) = CameOpen s × CameHome (number s) h fs
  CameState (texts s h fs n o) = CameOpen s × CameHome (number s) h fs
  CameState (placing s k fs n b p) = CameOpen s × Each (CameFigure true (number s)) fs × CameOwned (number s) b
  CameState (skipping s k fs n b d) = CameOpen s × Each (CameFigure true (number s)) fs × CameOwned (number s) b
  CameState (ended s) = CameSet s

  -- a figure of which nothing is asked
  home-more : (s : Set) (h : Home) (fs : List Figure) (f : Figure) → ((b : Bool) (k : ℕ) → CameFigure b k f) → CameState (figures s h fs) → CameState (figures s h (fs ++ f ∷ []))
  home-more s (in_element y) fs f g i = (i.0, each_more (CameFigure false 1) fs f i.1 (g false 1))
  home-more s (in_layer k) fs f g i = (i.0, each_more (CameFigure true (number s)) fs f i.1 (g true (number s)))

  -- a volume closes
  volume-more : (k n : ℕ) (vs : List Contents) (v : Contents) → k + length vs ≡ n → CameVolumes k vs → CameContents n v → CameVolumes k (vs ++ v ∷ [])
  volume-more k n [] v e g x = let z : n ≡ k = omega (arith, e) in (subst (λ (m : ℕ). CameContents m v) z x, tt)
  volume-more k n (u ∷ vs) v e g x = (g.0, volume-more (suc k) n vs v (omega (arith, e)) g.1 x)

  module _ (e : Env) (l : Line) (has : L l.volume l.line l.form) where
    abbrev J : State → Type 0
    J = CameState

    -- ── blocks that hold no figures ──
    open-top : (s : Set) (k : ℕ) → k < 4 → J (top s k) → On J (open_top e l s k)
    open-top s zero h i = on-taking J e (length (file_kinds (is_first s))) s _ λ _. i.0
    open-top s (suc zero) h i = on-taking J e 1 s _ λ _. (i.0, i.1 (omega arith) h)
    open-top s (suc (suc zero)) h i = (i.0, i.1 (omega arith) h)
    open-top s (suc (suc (suc k))) h i = (i.0, i.1 (omega arith) h)

    in_top : (s : Set) (k : ℕ) (f : Form) → J (top s k) → On J (on_top e l s k f)
    in_top s k ignored i = i
    in_top s k (wrong n) i = tt
    in_top s k close i = tt
    in_top s k eof i = on-eof J e l s k λ _. i.0
    in_top s k (keyed key c) i =
        on-by_act J _ _ _ _ (act (known_of s) top_table (digits 0 0) (rows_at_limit 0 top_table) (keyed key c)) i (λ j v. tt)
        (λ m j v b. on-unless J (eqb j k) 9 _ λ q.
        open-top s j (top-row (act-begin (known_of s) top_table (digits 0 0) (rows_at_limit 0 top_table) (keyed key c) b).row) (subst (λ (m : ℕ). J (top s m)) (sym (eqb-true j k q)) i)) tt

    in-file : (s : Set) (n : ℕ) (h : Held) (p : ℕ) (f : Form) → J (file s n h p) → On J (on_file l s n h p f)
    in-file s n h p f i =
        on-by_act J _ _ _ _ (act (known_of s) (get_or (file_tables (is_first s)) p []) (digits 0 0) (rows_there (part_of h p)) f) i (λ j v. i) (λ m j v b. i)
        (on-shut J p (close_file l s n h) _ (on-unless J (chained (is_first s) l.next h && dated s (is_first s) h) 16 _ λ _. (i, λ a b. tt)) (λ q. i))

    in-drawing : (s : Set) (d : Drawing) (f : Form) → J (drawing s d) → On J (on_drawing s d f)
    in-drawing s d f i =
        on-by_act J _ _ _ _ (act (known_of s) drawing_table (digits_of (arc_of s)) (rows_there d.own) f) i (λ j v. i) (λ m j v b. i) (i.0, λ a b. i.1)

    in-layers : (s : Set) (d : Drawing) (f : Form) → J (layer_names s d) → On J (on_layer_names e l s d f)
    in-layers s d f i = on-layers J e l s d f i i λ k v _. i

    in-defines : (s : Set) (b : Bool) (f : Form) → J (defines s b) → On J (on_defines e l s b f)
    in-defines s b f i =
        on-by_act J _ _ _ _ (act (known_of s) defines_table (digits_of (define_range s)) (b ∷ false ∷ []) f) i
        (λ j v. on-unless J (is_nil s.symbols) 6 _ λ _. i)
        (λ m j v q. on-unless J (not b) 6 _ λ _. on-taking J e 1 s _ λ _. (i, tt))
        (on-unless J (b || not (is_nil s.symbols)) 8 _ λ _. (i.0, λ a b. i.1))

    open-symbol : (s : Set) (y : Symbol) (m : ℕ) → J (symbol s y) → On J (open_symbol s y m)
    open-symbol s y zero i = tt
    open-symbol s y (suc zero) i = (i.0, tt)
    open-symbol s y (suc (suc m)) i = i

    in-symbol : (s : Set) (y : Symbol) (f : Form) → J (symbol s y) → On J (on_symbol s y f)
    in-symbol s y f i =
        on-by_act J _ _ _ _ (act (known_of s) symbol_table (digits_of (define_range s)) (rows_there y.own) f) i
        (λ j v. on-unless J (new_name s (symbol_own (set y.own j (Some v)) y)) 15 _ λ _. i) (λ m j v b. open-symbol s (symbol_own (set y.own j (Some v)) y) m i)
        ((each_more CameSymbol s.symbols y i.0.0.0 i.1, i.0.0.1), i.0.1)

    in-hide : (s : Set) (y : Symbol) (ps : List Point) (f : Form) → J (hide s y ps) → On J (on_hide e l s y ps f)
    in-hide s y ps f i =
        on-by_act J _ _ _ _ (act (known_of s) (point_table false) (digits 0 0) (rows_at_limit (length ps) (point_table false)) f) i
        (λ j v. on-taking J e 1 s _ λ _. i) (λ m j v b. tt) i

    in-elements : (s : Set) (f : Form) → J (elements s) → On J (on_elements s f)
    in-elements s f i =
        on-by_act J _ _ _ _ (act (known_of s) element_table (digits 0 0) (rows_at_limit 0 element_table) f) i (λ j v. tt)
        (λ m j v b. on-unless J (not (has_number (amount_at v 0) (used_in s.now))) 14 _ λ _. (i, tt))
        (on-unless J (counted_here s) 17 _ λ _.
        ((i.0.0, volume-more 1 (number s) s.volumes s.now (omega arith) i.0.1 i.1), λ a b. absurd (let z : 4 < 4 = b in omega arith)))

    -- ── figures: the one place where a line becomes a figure ──
    close-figures : (s : Set) (h : Home) (fs : List Figure) → J (figures s h fs) → On J (close_figures s h fs)
    close-figures s (in_element y) fs i = on-unless J (not (is_nil fs)) 8 _ λ _. i
    close-figures s (in_layer k) fs i = (i.0.0, each_more (CameBlock (number s)) s.now.blocks (record { layer = k; figures = fs }) i.0.1 i.1)

    wire-begins : (b : Bool) (s : Set) (k : ℕ) (fs : List Figure) → J (figures s (in_layer k) fs) → J (begin_wire b s k fs l.line)
    wire-begins true s k fs i = (i.0, i.1, tt)
    wire-begins false s k fs i = (i.0, i.1, tt)

    open-figure : (s : Set) (h : Home) (fs : List Figure) (m : ℕ) → J (figures s h fs) → On J (open_figure e l s h fs m)
    open-figure s h fs zero i = tt
    open-figure s h fs (suc zero) i = on-taking J e 1 s _ λ _. i
    open-figure s h fs (suc (suc zero)) i = on-taking J e 1 s _ λ _. i
    open-figure s (in_element y) fs (suc (suc (suc zero))) i = tt
    open-figure s (in_layer k) fs (suc (suc (suc zero))) i = on-taking J e 1 s _ λ _. (i.0, i.1, tt)
    open-figure s (in_element y) fs (suc (suc (suc (suc m)))) i = tt
    open-figure s (in_layer k) fs (suc (suc (suc (suc m)))) i = on-taking J e 2 s _ λ _. wire-begins (knows_wires e.class) _ k fs i

    came : (k : ℕ) → k ≡ l.volume → (known : Known) (t : List Rule) (range : Digits) (full : List Bool) (j : ℕ) (v : Value) → act known t range full l.form ≡ entry j v
        → Came k t l.line j (nums_of v)
    came k z known t range full j v q =
        record { known = known; range = range; full = full; form = l.form; value = v; stands = subst (λ (m : ℕ). L m l.line l.form) (sym z) has; entered = q; numbers = refl }

    -- in a symbol the volume is the first
    abbrev At : Set → Home → Type 0
    At s (in_element y) = 1 ≡ l.volume
    At s (in_layer k) = number s ≡ l.volume

    line-more : (s : Set) (h : Home) → At s h → (fs : List Figure) (j : ℕ) (v : Value) → act (known_of s) (home_table s h) (range_of s) (rows_at_limit 0 (home_table s h)) l.form ≡ entry j v
        → J (figures s h fs) → J (figures s h (fs ++ plain l.line j (nums_of v) ∷ []))
    line-more s (in_element y) z fs j v q i =
        (i.0, each_more (CameFigure false 1) fs (plain l.line j (nums_of v)) i.1 (came 1 z (known_of s) figure_table (range_of s) (rows_at_limit 0 figure_table) j v q))
    line-more s (in_layer k) z fs j v q i = (
      i.0,
      each_more (CameFigure true (number s)) fs (plain l.line j (nums_of v)) i.1
          (is_single s, is_wired s, came (number s) z (known_of s) (home_table s (in_layer k)) (range_of s) (rows_at_limit 0 (home_table s (in_layer k))) j v q),
    )

    in-figures : (s : Set) (h : Home) → At s h → (fs : List Figure) → J (figures s h fs) → On J (on_figures e l s h fs l.form)
    in-figures s h z fs i =
        on-entry J _ _ _ _ (act (known_of s) (home_table s h) (range_of s) (rows_at_limit 0 (home_table s h)) l.form) i
        (λ j v q. on-taking J e 1 s _ λ _. line-more s h z fs j v q i)
        (λ m j v. open-figure s h fs m i) (close-figures s h fs i)

    in-successive : (s : Set) (h : Home) (fs : List Figure) (n : ℕ) (ps : List Point) (f : Form) → J (successive s h fs n ps) → On J (on_successive e l s h fs n ps f)
    in-successive s h fs n ps f i =
        on-by_act J _ _ _ _ (act (known_of s) (point_table (is_layer h)) (digits 0 0) (rows_at_limit (length ps) (point_table (is_layer h))) f) i
        (λ j v. on-taking J e 1 s _ λ _. i) (λ m j v b. tt)
        (on-unless J (leb least_points (length ps)) 8 _ λ _. home-more s h fs (chain n ps) (λ b k. tt) i)

    in-texts : (s : Set) (h : Home) (fs : List Figure) (n : ℕ) (o : Slots) (f : Form) → J (texts s h fs n o) → On J (on_texts s h fs n o f)
    in-texts s h fs n o f i =
        on-by_act J _ _ _ _ (act (known_of s) (text_table (is_layer h) 4 12) (digits 0 0) (rows_there o) f) i (λ j v. i) (λ m j v b. tt)
        (home-more s h fs (lettering n o) (λ b k. tt) i)

    -- ── blocks with attributes ──
    by-placed : (s : Set) (k : ℕ) (fs : List Figure) (n : ℕ) (o : Held) (p : ℕ) (a : Act) → J (placing s k fs n (symbol_block o) p) → On J (on_placed s k fs n o p a)
    by-placed s k fs n o p a i =
        on-by_act J _ _ _ _ a i (λ j v. on-unless J (new_serial s fs v) 15 _ λ _. i) (λ m j v b. i)
        (on-shut J p _ _ (home-more s (in_layer k) fs (placed n o) (λ b k. tt) (i.0, i.1)) (λ q. i))

    by-unknown : (s : Set) (k : ℕ) (fs : List Figure) (n : ℕ) (o : Held) (key : List ℕ) (c : Rest) → J (placing s k fs n (symbol_block o) 0) → On J (on_unknown e s k fs n o key c)
    by-unknown s k fs n o key c i =
        on-cond J (exceeds (range_of s) e.class.symbols) _ _ (λ _. on_skip J (skip_of key c) _ _ i i)
        (λ _. on-by_act J _ _ _ _ (act_unknown c) i (λ j v. tt) (λ m j v b. tt) tt)

    by_key : (s : Set) (k : ℕ) (fs : List Figure) (n : ℕ) (o : Held) (key : List ℕ) (c : Rest) (f : Found) → J (placing s k fs n (symbol_block o) 0) → On J (on_placed_key e s k fs n o key c f)
    by_key s k fs n o key c absent i = by-unknown s k fs n o key c i
    by_key s k fs n o key c (found j r) i =
        on-cond J (reaches e.class.symbols r.least) _ _
        (λ _. by-placed s k fs n o 0 (act_row (known_of s) (range_of s) (get_or (rows_there (part_of o 0)) j false) j r c) i) (λ _. by-unknown s k fs n o key c i)

    in-placing : (s : Set) (k : ℕ) (fs : List Figure) (n : ℕ) (o : Held) (p : ℕ) (f : Form) → J (placing s k fs n (symbol_block o) p) → On J (on_placing e s k fs n o p f)
    in-placing s k fs n o zero ignored i = i
    in-placing s k fs n o zero (wrong m) i = tt
    in-placing s k fs n o zero close i = by-placed s k fs n o 0 (act (known_of s) placed_table (both e.class.symbols (range_of s)) (rows_there (part_of o 0)) close) i
    in-placing s k fs n o zero eof i = tt
    in-placing s k fs n o zero (keyed key c) i = by_key s k fs n o key c (find key placed_table) i
    in-placing s k fs n o (suc p) f i = by-placed s k fs n o (suc p) (act (known_of s) (get_or placed_tables (suc p) []) (digits 0 0) (rows_there (part_of o (suc p))) f) i

    -- the one place where a line becomes a wire's element
    in-wire : (s : Set) (k : ℕ) (fs : List Figure) (n : ℕ) (w : Wire) (p : ℕ) → number s ≡ l.volume → J (placing s k fs n (wire_block w) p) → On J (on_wire e l s k fs n w p l.form)
    in-wire s k fs n w p z i =
        by-line J e l s k fs n w l.form
        (record {
          other = λ gs ts o b q. i;
          element = λ row v r q.
              on-unless J (joined (joins_ends (join_digit s)) (last_edge w.elements) row (nums_of v)) 11 _ λ _.
              on-taking J e 1 s _ λ _. (i.0, i.1, each_more (CameEdge (number s)) w.elements _ i.2 (came (number s) z _ wire_table _ _ row v q));
          once = λ j v r q. i;
          shut = (i.0, each_more (CameFigure true (number s)) fs (wired n w) i.1 i.2);
          skipped = i;
        })
        p

    skip-ended : (s : Set) (k : ℕ) (fs : List Figure) (n : ℕ) (b : Owned) (d : ℕ) → J (skipping s k fs n b d) → J (skip_ended s k fs n b)
    skip-ended s k fs n (symbol_block o) d i = i
    skip-ended s k fs n (wire_block w) d i = i
    skip-ended s k fs n wire_unread d i = i

    unread-shut : (s : Set) (k : ℕ) (fs : List Figure) (n : ℕ) (b : Owned) (d : ℕ) → J (skipping s k fs n b d) → On J (unread_shut s k fs n b)
    unread-shut s k fs n (symbol_block o) d i = tt
    unread-shut s k fs n (wire_block w) d i = tt
    unread-shut s k fs n wire_unread d i = home-more s (in_layer k) fs (passed n) (λ b k. tt) (i.0, i.1)

    skip-shut : (s : Set) (k : ℕ) (fs : List Figure) (n : ℕ) (b : Owned) (d : ℕ) → J (skipping s k fs n b d) → On J (skip_shut s k fs n b d)
    skip-shut s k fs n b zero i = unread-shut s k fs n b 0 i
    skip-shut s k fs n b (suc zero) i = skip-ended s k fs n b 1 i
    skip-shut s k fs n b (suc (suc d)) i = i

    in-skipping : (s : Set) (k : ℕ) (fs : List Figure) (n : ℕ) (b : Owned) (d : ℕ) (f : Form) → J (skipping s k fs n b d) → On J (on_skipping s k fs n b d f)
    in-skipping s k fs n b d ignored i = i
    in-skipping s k fs n b d (wrong m) i = tt
    in-skipping s k fs n b d close i = skip-shut s k fs n b d i
    in-skipping s k fs n b d eof i = tt
    in-skipping s k fs n b d (keyed key c) i = on_skip J (skip_of key c) _ _ i (on-unless J (ltb d most_depth) 18 _ λ _. i)

    -- ── one line ──
    in-home : (s : Set) (h : Home) (fs : List Figure) → number s ≡ l.volume → Kept (figures s h fs) → At s h
    in-home s (in_element y) fs z k = ap (λ vs. suc (length vs)) (sym k.0.0) ∙ z
    in-home s (in_layer m) fs z k = z

    in-state : (st : State) → volume_of st ≡ l.volume → Kept st → J st → On J (step_in e l st)
    in-state (top s k) z q i = in_top s k l.form i
    in-state (file s n h p) z q i = in-file s n h p l.form i
    in-state (drawing s d) z q i = in-drawing s d l.form i
    in-state (layer_names s d) z q i = in-layers s d l.form i
    in-state (defines s b) z q i = in-defines s b l.form i
    in-state (symbol s y) z q i = in-symbol s y l.form i
    in-state (hide s y ps) z q i = in-hide s y ps l.form i
    in-state (elements s) z q i = in-elements s l.form i
    in-state (figures s h fs) z q i = in-figures s h (in-home s h fs z q) fs i
    in-state (successive s h fs n ps) z q i = in-successive s h fs n ps l.form i
    in-state (texts s h fs n o) z q i = in-texts s h fs n o l.form i
    in-state (placing s h fs n (symbol_block o) p) z q i = in-placing s h fs n o p l.form i
    in-state (placing s h fs n (wire_block w) p) z q i = in-wire s h fs n w p z i
    in-state (placing s h fs n wire_unread p) z q i = tt
    in-state (skipping s h fs n b d) z q i = in-skipping s h fs n b d l.form i
    in-state (ended s) z q i = tt

    next-state : (st : State) → J st → J (next_volume st)
    next-state (top s k) i = (i.0, λ a b. absurd (let z : 1 ≤ 0 = a in omega arith))
    next-state (file s n h p) i = i
    next-state (drawing s d) i = i
    next-state (layer_names s d) i = i
    next-state (defines s b) i = i
    next-state (symbol s y) i = i
    next-state (hide s y ps) i = i
    next-state (elements s) i = i
    next-state (figures s h fs) i = i
    next-state (successive s h fs n ps) i = i
    next-state (texts s h fs n o) i = i
    next-state (placing s h fs n o p) i = i
    next-state (skipping s h fs n o d) i = i
    next-state (ended s) i = i

    step-came : (st : State) → volume_of st ≡ l.volume → Kept st → J st → On J (step e l st)
    step-came st z q i =
        on-cond J l.last _ _
        (λ _. on-map J next_volume (also (completes l st) 9 (step_in e l st))
        (on-also (λ u. J (next_volume u)) (completes l st) 9 (step_in e l st) λ _. on_weaken J (λ u. J (next_volume u)) next-state (step_in e l st) (in-state st z q i)))
        (λ _. in-state st z q i)

  -- ── all lines ──
  abbrev pub Lines : List Line → Type 0
  Lines ls = Each (λ (l : Line). L l.volume l.line l.form) ls

  run-came : (e : Env) (k : ℕ) (ls : List Line) (st : State) (s : Set) → Lines ls → Running k ls → Tied k st → Inv e st → CameState st → run e st ls ≡ accepted s → CameSet s
  run-came e k [] st s has r t i c q = subst CameState (finish-ended st s q) c
  run-came e k (l ∷ ls) st s has r t i c q = go (step e l st) refl (on_weaken (Adds e l.line (cond l.last (suc (volume_of st)) (volume_of st)) st) _ (λ u w. (w.ties, added e l (cond l.last (suc (volume_of st)) (volume_of st)) st u i w)) (step e l st) (add_step e l st i)) (λ k' st'. run-came e k' ls st' s has.1) q
    where
      go : (g : Got State) → step e l st ≡ g → On (λ u. Tied (cond l.last (suc (volume_of st)) (volume_of st)) u × Inv e u) g
          → ((k' : ℕ) (st' : State) → Running k' ls → Tied k' st' → Inv e st' → CameState st' → run e st' ls ≡ accepted s → CameSet s)
          → then_run g l (λ st'. run e st' ls) ≡ accepted s → CameSet s
      go (bad n) p w ih q = not-accepted q
      go (got st') p w ih q =
          let here = in-volume e l k st st' t p in
          let now = on-got CameState (step e l st) st' (step-came e l has.0 st (here ∙ sym r.0) i.kept c) p in
          ih (cond l.last (suc k) k) st' r.1 (subst (λ (v : ℕ). Tied (cond l.last (suc v) v) st') here w.0) w.1 now q

  pub accepted-came : (e : Env) (ls : List Line) (s : Set) → Lines ls → Running 1 ls → run e (top nothing_yet 0) ls ≡ accepted s → CameSet s
  accepted-came e ls s has r q = run-came e 1 ls (top nothing_yet 0) s has r refl (inv-start e) ((tt, tt), λ a b. tt) q
