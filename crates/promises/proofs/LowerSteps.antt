-- One line at two classes, with no limit: what the higher accepts the lower accepts, with the same state but for what it leaves out, and, where
-- the line takes a record, but for the count.
use Prim.Native.Nat.{ℕ, zero, suc}
use mathlib.Core.Bool.{Bool, true, false, cond}
use mathlib.Core.List.{List, [], ◌∷◌, ◌++◌}
use mathlib.Core.Path.{◌≡◌, refl, sym, ◌∙◌, ap}
use Rattle.rules.specs.declared.Class.{Class}
use Rattle.rules.specs.RefusalNumbers.{Got, got, map_g}
use Rattle.rules.specs.Lines.{Form, ignored, wrong, close, eof, keyed}
use Rattle.rules.specs.RangeClass.{knows_wires, Skip, passes, deeper, no_form}
use Rattle.rules.specs.Values.{Num}
use Rattle.rules.specs.Rows.{Slots, Held}
use Rattle.rules.specs.Sets.{Point, Figure, plain, chain, lettering, passed, Drawing, Symbol, Contents, Wire, Set, with_now, with_volume, with_block, with_records, wires_of}
use Rattle.rules.specs.VolumesAndTotals.{dated}
use Rattle.rules.specs.Machine.{unlimited, Line, Env, Home, in_element, in_layer, State, file, elements, figures, placing, skipping, open_top, at_eof, on_top, close_file, shut_part, on_file, on_drawing, on_layer_names, on_defines, open_symbol, on_symbol, on_hide, on_elements, home_table, close_figures, open_figure, on_figures, on_successive, on_texts}
use Rattle.rules.specs.PlacedSymbol.{by_skip, skip_ended, skip_shut, on_skipping}
use Rattle.rules.specs.Machine.{Owned, symbol_block, wire_block, wire_unread, begin_wire}
use Rattle.rules.specs.RecordTable.{kind_wire, kind_wire_more}
use Rattle.rules.proofs.Chains.{clash, never, map-append, nil-map, through}
use Rattle.rules.proofs.Runs.{map-act, head-file, head-snoc}
use Rattle.promises.proofs.BackSlots.{retaken}
use Rattle.promises.proofs.Lower.{ranges_of, lower_read, read-blank, Goes, count-via, lower_figure, lower_figures, lower_in, lower_set, lower_so_far, lower, uncounted, lower-blank, file-same, elements_same, used-same, lower_owned}

-- ── the set, where one thing of it changes ──
module _ (took : ℕ) (c : Class) where
  pub dated-same : (d : Class) (s : Set) (b : Bool) (h : Held) → dated (lower_in took c d s) b h ≡ dated s b h
  dated-same d s true h = refl
  dated-same d s false h = simp (file-same c d s.now s.volumes)

  -- a new volume at hand, with no layer yet
  pub now-same : (s : Set) (n : ℕ) (h : Held) → with_now (record { line = n; file = h; blocks = [] }) (lower_set took c s) ≡ lower_set took c (with_now (record { line = n; file = h; blocks = [] }) s)
  now-same s n h = go s.volumes
    where
      go : (vs : List Contents) → with_now (record { line = n; file = h; blocks = [] }) (lower_set took c (record { drawing = s.drawing; symbols = s.symbols; volumes = vs; now = s.now; taken = s.taken }))
          ≡ lower_set took c (with_now (record { line = n; file = h; blocks = [] }) (record { drawing = s.drawing; symbols = s.symbols; volumes = vs; now = s.now; taken = s.taken }))
      go [] = refl
      go (u ∷ us) = refl

  -- the first volume's file, where the volume at hand is closed, or has one layer more
  pub volume-same : (s : Set) → with_volume (lower_set took c s) ≡ lower_set took c (with_volume s)
  volume-same s = simp (head-snoc s.now s.now s.volumes, map-append)

  pub block_same : (s : Set) (k : ℕ) (fs : List Figure)
      → with_block (record { layer = k; figures = lower_figures c (ranges_of s) fs }) (lower_set took c s) ≡ lower_set took c (with_block (record { layer = k; figures = fs }) s)
  block_same s k fs =
      simp (head-file (record { line = s.now.line; file = s.now.file; blocks = s.now.blocks ++ record { layer = k; figures = fs } ∷ [] }) s.now s.volumes refl, map-append)

  so_far-one : (d : Class) (h : Home) (fs : List Figure) (f : Figure) → lower_figure c d f ≡ f → lower_so_far c d h (fs ++ f ∷ []) ≡ lower_so_far c d h fs ++ f ∷ []
  so_far-one d (in_element y) fs f e = refl
  so_far-one d (in_layer k) fs f e = map-append (lower_figure c d) fs (f ∷ []) ∙ ap (λ g. lower_figures c d fs ++ g ∷ []) e

-- ── steps that do not look at the class, and a wire's own line ──
-- a higher class knows wires too
module _ (low high : Class) (up : knows_wires low ≡ true → knows_wires high ≡ true) (took : ℕ) where
  abbrev lo : Env
  lo = unlimited low

  abbrev hi : Env
  hi = unlimited high

  pub sim-open_top : (l : Line) (s : Set) (j : ℕ) → map_g uncounted (open_top lo l (lower_set took low s) j) ≡ map_g (lower 0 low) (open_top hi l s j)
  sim-open_top l s zero = simp (through, nil-map)
  sim-open_top l s (suc zero) = simp through
  sim-open_top l s (suc (suc zero)) = refl
  sim-open_top l s (suc (suc (suc j))) = refl

  -- at EOF the lower class may test less (`ends`: what is asked of it there)
  pub sim-top : (l : Line) (s : Set) (k : ℕ) (f : Form) (s' : State) → (at_eof hi l s k ≡ got s' → at_eof lo l (lower_set took low s) k ≡ got (lower took low s'))
      → on_top hi l s k f ≡ got s' → Goes low (on_top lo l (lower_set took low s) k f) s'
  sim-top l s k ignored s' ends e = count-via low refl e
  sim-top l s k (wrong n) s' ends e = never e
  sim-top l s k close s' ends e = never e
  sim-top l s k eof s' ends e = (took, ends e)
  sim-top l s k (keyed key x) s' ends e = count-via low keyed-same e
    where
      keyed-same : map_g uncounted (on_top lo l (lower_set took low s) k (keyed key x)) ≡ map_g (lower 0 low) (on_top hi l s k (keyed key x))
      keyed-same = simp (through, map-act, sim-open_top)

  pub sim-file : (l : Line) (s : Set) (n : ℕ) (h : Held) (p : ℕ) (f : Form) → on_file l (lower_set took low s) n h p f ≡ map_g (lower took low) (on_file l s n h p f)
  sim-file l s n h p f = simp (map-act, sim-shut p) (simp nil-map)
    where
      sim-close : close_file l (lower_set took low s) n h ≡ map_g (lower took low) (close_file l s n h)
      sim-close = simp (through, nil-map, dated-same, now-same)

      sim-shut : (p : ℕ) → shut_part p (close_file l (lower_set took low s) n h) (λ q. file (lower_set took low s) n h q) ≡ map_g (lower took low) (shut_part p (close_file l s n h) (λ q. file s n h q))
      sim-shut zero = sim-close
      sim-shut (suc p) = refl

  pub sim-drawing : (s : Set) (d : Drawing) (f : Form) → on_drawing (lower_set took low s) d f ≡ map_g (lower took low) (on_drawing s d f)
  sim-drawing s d f = simp (map-act, file-same)

  pub sim-layer_names : (l : Line) (s : Set) (d : Drawing) (f : Form) → map_g uncounted (on_layer_names lo l (lower_set took low s) d f) ≡ map_g (lower 0 low) (on_layer_names hi l s d f)
  sim-layer_names l s d ignored = refl
  sim-layer_names l s d (wrong n) = refl
  sim-layer_names l s d close = refl
  sim-layer_names l s d eof = refl
  sim-layer_names l s d (keyed k x) = simp through

  pub sim-defines : (l : Line) (s : Set) (b : Bool) (f : Form) → map_g uncounted (on_defines lo l (lower_set took low s) b f) ≡ map_g (lower 0 low) (on_defines hi l s b f)
  sim-defines l s b f = simp (through, map-act, file-same)

  pub sim-open_symbol : (s : Set) (y : Symbol) (i : ℕ) → open_symbol (lower_set took low s) y i ≡ map_g (lower took low) (open_symbol s y i)
  sim-open_symbol s y zero = refl
  sim-open_symbol s y (suc zero) = refl
  sim-open_symbol s y (suc (suc i)) = refl

  pub sim-symbol : (s : Set) (y : Symbol) (f : Form) → on_symbol (lower_set took low s) y f ≡ map_g (lower took low) (on_symbol s y f)
  sim-symbol s y f = simp (through, map-act, file-same, sim-open_symbol)

  pub sim-hide : (l : Line) (s : Set) (y : Symbol) (ps : List Point) (f : Form) → map_g uncounted (on_hide lo l (lower_set took low s) y ps f) ≡ map_g (lower 0 low) (on_hide hi l s y ps f)
  sim-hide l s y ps f = simp (through, map-act)

  pub sim-elements : (s : Set) (f : Form) → on_elements (lower_set took low s) f ≡ map_g (lower took low) (on_elements s f)
  sim-elements s f = simp (through, map-act, nil-map, elements_same, used-same, volume-same)

  pub sim-close_figures : (s : Set) (h : Home) (fs : List Figure) → map_g uncounted (close_figures (lower_set took low s) h (lower_so_far low (ranges_of s) h fs)) ≡ map_g (lower 0 low) (close_figures s h fs)
  sim-close_figures s (in_element y) fs = simp through
  sim-close_figures s (in_layer k) fs = ap (λ z. got (elements (retaken 0 z))) (block_same took low s k fs)

  pub sim-open_figure : (l : Line) (s : Set) (h : Home) (fs : List Figure) (i : ℕ)
      → map_g uncounted (open_figure lo l (lower_set took low s) h (lower_so_far low (ranges_of s) h fs) i) ≡ map_g (lower 0 low) (open_figure hi l s h fs i)
  sim-open_figure l s h fs zero = refl
  sim-open_figure l s h fs (suc zero) = simp through
  sim-open_figure l s h fs (suc (suc zero)) = simp through
  sim-open_figure l s (in_element y) fs (suc (suc (suc zero))) = refl
  sim-open_figure l s (in_layer k) fs (suc (suc (suc zero))) = simp (through, lower-blank)
  sim-open_figure l s (in_element y) fs (suc (suc (suc (suc i)))) = refl
  sim-open_figure l s (in_layer k) fs (suc (suc (suc (suc i)))) = ap got (begins (knows_wires low) refl (knows_wires high) refl)
    where
      begins : (b : Bool) → knows_wires low ≡ b → (a : Bool) → knows_wires high ≡ a
          → uncounted (begin_wire b (with_records (kind_wire ∷ kind_wire_more ∷ []) (lower_set took low s)) k (lower_figures low (ranges_of s) fs) l.line) ≡ lower 0 low (begin_wire a (with_records (kind_wire ∷ kind_wire_more ∷ []) s) k fs l.line)
      begins true p true q = rw (p, read-blank low.wires (wires_of s))
      begins true p false q = clash (up p) q
      begins false p true q = rw p
      begins false p false q = refl

  table_same : (s : Set) (h : Home) → home_table (lower_set took low s) h ≡ home_table s h
  table_same s (in_element y) = refl
  table_same s (in_layer k) = simp file-same

  pub sim-figures : (l : Line) (s : Set) (h : Home) (fs : List Figure) (f : Form)
      → map_g uncounted (on_figures lo l (lower_set took low s) h (lower_so_far low (ranges_of s) h fs) f) ≡ map_g (lower 0 low) (on_figures hi l s h fs f)
  sim-figures l s h fs f = simp (through, map-act, table_same, file-same, sim-open_figure, sim-close_figures, so_far-plain)
    where
      so_far-plain : (d : Class) (n j : ℕ) (v : List Num) → lower_so_far low d h (fs ++ plain n j v ∷ []) ≡ lower_so_far low d h fs ++ plain n j v ∷ []
      so_far-plain d n j v = so_far-one took low d h fs (plain n j v) refl

  pub sim-successive : (l : Line) (s : Set) (h : Home) (fs : List Figure) (n : ℕ) (ps : List Point) (f : Form)
      → map_g uncounted (on_successive lo l (lower_set took low s) h (lower_so_far low (ranges_of s) h fs) n ps f) ≡ map_g (lower 0 low) (on_successive hi l s h fs n ps f)
  sim-successive l s h fs n ps f = simp (through, map-act, so_far-one took low (ranges_of s) h fs (chain n ps) refl)

  pub sim-texts : (s : Set) (h : Home) (fs : List Figure) (n : ℕ) (o : Slots) (f : Form)
      → on_texts (lower_set took low s) h (lower_so_far low (ranges_of s) h fs) n o f ≡ map_g (lower took low) (on_texts s h fs n o f)
  sim-texts s h fs n o f = simp (map-act, so_far-one took low (ranges_of s) h fs (lettering n o) refl)

  map_skip : (g : State → State) (z : Skip) (a b : Got State) → map_g g (by_skip z a b) ≡ by_skip z (map_g g a) (map_g g b)
  map_skip g passes a b = refl
  map_skip g deeper a b = refl
  map_skip g no_form a b = refl

  -- the lines of a skipped block: where the higher goes on, the lower does
  abbrev skipped : Set → ℕ → List Figure → ℕ → Owned → ℕ → Form → Got State
  skipped s k fs n b d f = on_skipping (lower_set took low s) k (lower_figures low (ranges_of s) fs) n (lower_owned low (ranges_of s) b) d f

  along : {g : Got State} {s' : State} → g ≡ got s' → map_g (lower took low) g ≡ got (lower took low s')
  along e = ap (map_g (lower took low)) e

  sim-shut : (s : Set) (k : ℕ) (fs : List Figure) (n : ℕ) (b : Owned) (d : ℕ) (s' : State) → skip_shut s k fs n b d ≡ got s'
      → skip_shut (lower_set took low s) k (lower_figures low (ranges_of s) fs) n (lower_owned low (ranges_of s) b) d ≡ got (lower took low s')
  sim-shut s k fs n (symbol_block o) zero s' e = never e
  sim-shut s k fs n (wire_block w) zero s' e = never e
  sim-shut s k fs n wire_unread zero s' e =
      ap (λ gs. got (figures (lower_set took low s) (in_layer k) gs)) (sym (map-append (lower_figure low (ranges_of s)) fs (passed n ∷ []))) ∙ along e
  sim-shut s k fs n (symbol_block o) (suc zero) s' e = along e
  sim-shut s k fs n (wire_block w) (suc zero) s' e = back (knows_wires low) (lower_read low.wires (wires_of s) w) ∙ along e
    where
      back : (b : Bool) (v : Wire) → got (skip_ended (lower_set took low s) k (lower_figures low (ranges_of s) fs) n (cond b (wire_block v) wire_unread))
          ≡ got (cond b (placing (lower_set took low s) k (lower_figures low (ranges_of s) fs) n (wire_block v) 0) (skipping (lower_set took low s) k (lower_figures low (ranges_of s) fs) n wire_unread 0))
      back true v = refl
      back false v = refl
  sim-shut s k fs n wire_unread (suc zero) s' e = along e
  sim-shut s k fs n b (suc (suc d)) s' e = along e

  pub sim-skipping : (s : Set) (k : ℕ) (fs : List Figure) (n : ℕ) (b : Owned) (d : ℕ) (f : Form) (s' : State) → on_skipping s k fs n b d f ≡ got s'
      → skipped s k fs n b d f ≡ got (lower took low s')
  sim-skipping s k fs n b d ignored s' e = along e
  sim-skipping s k fs n b d (wrong m) s' e = never e
  sim-skipping s k fs n b d close s' e = sim-shut s k fs n b d s' e
  sim-skipping s k fs n b d eof s' e = never e
  sim-skipping s k fs n b d (keyed key x) s' e = keyed-same ∙ along e
    where
      keyed-same : skipped s k fs n b d (keyed key x) ≡ map_g (lower took low) (on_skipping s k fs n b d (keyed key x))
      keyed-same = simp (through, map_skip)
