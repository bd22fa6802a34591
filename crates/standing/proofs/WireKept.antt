-- The table behind a line of a wire: a place for each of its two records from its own line on, its elements' records behind them, and the
-- two put at its end.
use Rattle.std.specs.Prelude.{Some}
use Prim.Native.Nat.{ℕ, ◌+◌, ◌*◌, ◌-◌}
use mathlib.Core.Bool.{true}
use mathlib.Core.List.{List, [], ◌∷◌, ◌++◌, map, append-nil, append_assoc}
use mathlib.Core.Path.{◌≡◌, refl, sym, ◌∙◌, ap}
use native.Mathlib.Omega.{arith}
use lib.IntN.{ℤ, pos}
use lib.ListN.{length, take, drop, take-append-drop, length-append, length-set}
use Rattle.rules.specs.declared.Class.{Class}
use Rattle.rules.specs.Base.{flat}
use Rattle.rules.specs.RangeClass.{digits, digits_of}
use Rattle.rules.specs.Values.{nums}
use Rattle.rules.specs.Figures.{wire_table}
use Rattle.rules.specs.Sets.{Edge, Wire, Figure, wired, passed, Set, wire_range, with_records}
use Rattle.rules.specs.Machine.{in_layer, elements, figures, placing, skipping, wire_block, wire_unread, no_wire}
use Rattle.rules.specs.RecordTable.{put_slot, rule_at, start, two_of, mark_unread, view_of, wire_start, wire_values, unread_numbers, edge_record, edge_records, kind_edge}
use Rattle.rules.specs.Wires.{with_element}
use Rattle.rules.proofs.Chains.{flat_append, map-append}
use Rattle.rules.proofs.RecordLengths.{length-slot}
use Rattle.account.specs.Records.{part_at}
use Rattle.standing.specs.SoFar.{volume_of, layers_records, home_figure, empty_record}
use Rattle.standing.specs.Kept.{figures_shut, shut_so_far, Opens, Fills, FillsAll}
use Rattle.standing.specs.Standing.{home_used, links_with, links_in, figure_links}
use Rattle.standing.proofs.KeptLaws.{fills_one}
use Rattle.standing.proofs.MoreRecords.{flat_map_more}
use Rattle.standing.proofs.ClosesKept.{shut-taken}
use Rattle.standing.proofs.FigureSights.{plain-serials}
use Rattle.standing.proofs.Standings.{Sight, sight}

-- ── its elements' records ──
pub edge-long : (k volume : ℕ) (e : Edge) → length (edge_record k volume e) ≡ 32
edge-long k volume e =
    length-set (put_slot (rule_at wire_table e.row) (Some (nums e.values)) (start (kind_edge + e.row) k volume e.line)) 11 (pos e.join)
    ∙ length-slot (rule_at wire_table e.row) (Some (nums e.values)) (start (kind_edge + e.row) k volume e.line)

edges-size : (k volume : ℕ) (es : List Edge) → length (flat (edge_records k volume es)) ≡ 32 * length es
edges-size k volume [] = refl
edges-size k volume (e ∷ es) =
    omega (arith, length-append (edge_record k volume e) (flat (edge_records k volume es)), edge-long k volume e, edges-size k volume es)

-- ── its line: two records are taken ──
pub wire-opens : (c : Class) (s : Set) (ks : List ℕ) (m : ℕ) (fs : List Figure) (n : ℕ) → Opens c (figures s (in_layer m) fs) (placing (with_records ks s) m fs n (wire_block no_wire) 0) 2
wire-opens c s ks m fs n = ap (λ (r : List (List ℤ)). r ++ empty_record ∷ empty_record ∷ []) (shut-taken c s ks (in_layer m) fs)

pub unread-opens : (c : Class) (s : Set) (ks : List ℕ) (m : ℕ) (fs : List Figure) (n : ℕ) → Opens c (figures s (in_layer m) fs) (skipping (with_records ks s) m fs n wire_unread 0) 2
unread-opens c s ks m fs n = ap (λ (r : List (List ℤ)). r ++ empty_record ∷ empty_record ∷ []) (shut-taken c s ks (in_layer m) fs)

-- ── an element's: a record more behind the others ──
pub edge-fills : (c : Class) (s : Set) (ks : List ℕ) (m : ℕ) (fs : List Figure) (n : ℕ) (w : Wire) (e : Edge) (records : ℕ) → length (flat (shut_so_far c (placing s m fs n (wire_block w) 0))) ≡ 32 * records → (t : List ℤ)
    → part_at 0 t ≡ edge_record m (volume_of s) e → Fills c (placing s m fs n (wire_block w) 0) (placing (with_records ks s) m fs n (wire_block (with_element w e)) 0) 1 0 records t
edge-fills c s ks m fs n w e records all t put =
    let fore : List (List ℤ) = figures_shut c s (in_layer m) fs in
    let old : List (List ℤ) = edge_records m (volume_of s) w.elements in
    fills_one c records (placing s m fs n (wire_block w) 0) (placing (with_records ks s) m fs n (wire_block (with_element w e)) 0) all 0 t (ap length put ∙ edge-long m (volume_of s) e)
    (ap (λ (r : List (List ℤ)). r ++ empty_record ∷ empty_record ∷ edge_records m (volume_of s) (w.elements ++ e ∷ [])) (shut-taken c s ks (in_layer m) fs)
    ∙ ap (λ (r : List (List ℤ)). fore ++ empty_record ∷ empty_record ∷ r)
    (map-append (edge_record m (volume_of s)) w.elements (e ∷ []) ∙ ap (λ (u : List ℤ). old ++ u ∷ []) (sym put))
    ∙ sym (append_assoc fore (empty_record ∷ empty_record ∷ old) (part_at 0 t ∷ [])))

-- ── its end: its two are complete, before its elements' ──
-- of a wire that is skipped whole
abbrev pub unread_of : ℕ → ℕ → ℕ → ℕ → List ℤ
unread_of range k volume n = unread_numbers (mark_unread (digits 0 0) (digits_of range) wire_table (wire_start k volume n))

two_of_lem : (x : List ℤ) → flat (two_of x) ≡ x
two_of_lem x = ap (λ (u : List ℤ). take 32 x ++ u) (append-nil (drop 32 x)) ∙ take-append-drop 32 x

module _ (c : Class) (s : Set) (m : ℕ) (fs : List Figure) (n : ℕ) where
  abbrev fore : List (List ℤ)
  fore = figures_shut c s (in_layer m) fs

  -- how many stand before the two
  before-two : (behind : List (List ℤ)) (many records : ℕ) → length (flat behind) ≡ 32 * many → length (flat (fore ++ empty_record ∷ empty_record ∷ behind)) ≡ 32 * records
      → length (flat fore) ≡ 32 * (records - (many + 2))
  before-two behind many records size all =
      omega (
        arith,
        all,
        size,
        ap length (flat_append fore (empty_record ∷ empty_record ∷ behind)),
        length-append (flat fore) (empty_record ++ (empty_record ++ flat behind)),
        length-append empty_record (empty_record ++ flat behind),
        length-append empty_record (flat behind),
      )

  -- a closed figure behind the others
  one_more : (f : Figure) → figures_shut c s (in_layer m) (fs ++ f ∷ []) ≡ fore ++ home_figure c s (in_layer m) f
  one_more f =
      ap (λ (r : List (List ℤ)). layers_records c s ++ r) (flat_map_more (home_figure c s (in_layer m)) fs f)
      ∙ sym (append_assoc (layers_records c s) (flat (map (home_figure c s (in_layer m)) fs)) (home_figure c s (in_layer m) f))

  pub wire-fills : (w : Wire) (records : ℕ) → length (flat (shut_so_far c (placing s m fs n (wire_block w) 0))) ≡ 32 * records → (us : List ℤ)
      → us ≡ wire_values (view_of c s) w (wire_start m (volume_of s) n) → length us ≡ 64
      → FillsAll c (placing s m fs n (wire_block w) 0) (figures s (in_layer m) (fs ++ wired n w ∷ [])) 0 (records - (length w.elements + 2)) us
  wire-fills w records all us q long =
      let old : List (List ℤ) = edge_records m (volume_of s) w.elements in
      record {
        fore = fore;
        made = two_of (wire_values (view_of c s) w (wire_start m (volume_of s) n));
        behind = old;
        before = append-nil (fore ++ empty_record ∷ empty_record ∷ old);
        after = one_more (wired n w);
        are = two_of_lem (wire_values (view_of c s) w (wire_start m (volume_of s) n)) ∙ sym q;
        size = before-two old (length w.elements) records (edges-size m (volume_of s) w.elements) all;
        long = long;
      }

  pub unread-fills : (records : ℕ) → length (flat (shut_so_far c (skipping s m fs n wire_unread 0))) ≡ 32 * records → (us : List ℤ) → us ≡ unread_of (wire_range s) m (volume_of s) n → length us ≡ 64
      → FillsAll c (skipping s m fs n wire_unread 0) (figures s (in_layer m) (fs ++ passed n ∷ [])) 0 (records - 2) us
  unread-fills records all us q long =
      let size : length (flat fore) ≡ 32 * (records - (0 + 2)) = before-two [] 0 records refl all in
      record {
        fore = fore;
        made = two_of (unread_of (wire_range s) m (volume_of s) n);
        behind = [];
        before = append-nil (fore ++ empty_record ∷ empty_record ∷ []);
        after = one_more (passed n);
        are = two_of_lem (unread_of (wire_range s) m (volume_of s) n) ∙ sym q;
        size = omega (arith, size);
        long = long;
      }

-- ── what a wire leaves alone ──
abbrev sighted : Set → List (List ℕ) → ℕ → Sight
sighted s serials m = record { set = (sight (elements s)).set; layers = s.drawing.layers; serials = serials; used = home_used s (in_layer m); inside = true; counts = true }

module _ (ks : List ℕ) (s : Set) (m : ℕ) (fs : List Figure) (n : ℕ) where
  pub wire-sight : sight (figures s (in_layer m) fs) ≡ sight (placing (with_records ks s) m fs n (wire_block no_wire) 0)
  unfolding wire_table
  wire-sight = ap (λ (u : List (List ℕ)). sighted s u m) (sym (append-nil (links_with s fs)))

  pub unread-sight : (d : ℕ) → sight (figures s (in_layer m) fs) ≡ sight (skipping (with_records ks s) m fs n wire_unread d)
  unread-sight d = ap (λ (u : List (List ℕ)). sighted s u m) (sym (append-nil (links_with s fs)))

-- the closed wire's serial number is that of a figure of the layer
pub wire-shut-sight : (s : Set) (m : ℕ) (fs : List Figure) (n : ℕ) (w : Wire) → sight (placing s m fs n (wire_block w) 0) ≡ sight (figures s (in_layer m) (fs ++ wired n w ∷ []))
wire-shut-sight s m fs n w =
    ap (λ (u : List (List ℕ)). sighted s u m)
    (append_assoc (links_in s) (flat (map figure_links fs)) (figure_links (wired n w)) ∙ ap (λ (u : List (List ℕ)). links_in s ++ u) (sym (flat_map_more figure_links fs (wired n w))))

pub unread-shut-sight : (s : Set) (m : ℕ) (fs : List Figure) (n d : ℕ) → sight (skipping s m fs n wire_unread d) ≡ sight (figures s (in_layer m) (fs ++ passed n ∷ []))
unread-shut-sight s m fs n d = ap (λ (u : List (List ℕ)). sighted s u m) (append-nil (links_with s fs) ∙ plain-serials s (in_layer m) fs (passed n) refl)
