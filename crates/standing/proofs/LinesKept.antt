-- A layer's line and a point's, of a `successive` or of a symbol's `hide`: each is a record, complete where it is taken.
use Rattle.std.specs.Prelude.{Some}
use Prim.Native.Nat.{ℕ, ◌+◌, ◌*◌}
use mathlib.Core.Bool.{true}
use mathlib.Core.List.{List, [], ◌∷◌, ◌++◌, append_assoc}
use mathlib.Core.Path.{◌≡◌, refl, sym, ◌∙◌, ap}
use native.Mathlib.Omega.{arith}
use lib.IntN.{ℤ}
use lib.ListN.{length, length-append}
use Rattle.rules.specs.declared.Class.{Class}
use Rattle.rules.specs.Base.{flat}
use Rattle.rules.specs.Values.{nums}
use Rattle.rules.specs.Figures.{point_table}
use Rattle.rules.specs.Sets.{Point, Figure, Layer, Drawing, Symbol, Set, with_layer, with_records}
use Rattle.rules.specs.Machine.{Home, in_element, in_layer, kind_in, layer_names, hide, successive}
use Rattle.rules.specs.RecordTable.{put_slot, rule_at, start, file_records, layer_record, layer_records, point_records, kind_layer, kind_point, kind_hidden}
use Rattle.rules.proofs.RecordLengths.{length-slot}
use Rattle.account.specs.Records.{part_at}
use Rattle.standing.specs.SoFar.{home_owner, home_volume, home_more, empty_record}
use Rattle.standing.specs.Kept.{figures_shut, symbol_shut, shut_so_far, Fills}
use Rattle.standing.proofs.MoreRecords.{more-layers, more-points}
use Rattle.standing.proofs.OpenRecords.{layer-length}
use Rattle.standing.proofs.KeptLaws.{fills_one}
use Rattle.standing.proofs.ClosesKept.{shut-taken}

-- records: how many were taken before the line; t: the scratch behind the block's part of it
pub layer-fills : (c : Class) (s : Set) (d : Drawing) (y : Layer) (records : ℕ) → length (flat (shut_so_far c (layer_names s d))) ≡ 32 * records → (t : List ℤ)
    → part_at 32 t ≡ layer_record (length d.layers) y → Fills c (layer_names s d) (layer_names (with_records (kind_layer ∷ []) s) (with_layer y d)) 1 32 records t
layer-fills c s d y records all t put =
    let fore : List (List ℤ) = file_records true 1 s.now in
    let from_zero : 0 + length d.layers ≡ length d.layers = omega arith in
    fills_one c records (layer_names s d) (layer_names (with_records (kind_layer ∷ []) s) (with_layer y d)) all 32 t (ap length put ∙ layer-length (length d.layers) y)
    (ap (λ (r : List (List ℤ)). fore ++ empty_record ∷ r)
    (more-layers 0 d.layers y ∙ ap (λ (m : ℕ). layer_records 0 d.layers ++ layer_record m y ∷ []) from_zero ∙ ap (λ (u : List ℤ). layer_records 0 d.layers ++ u ∷ []) (sym put))
    ∙ sym (append_assoc fore (empty_record ∷ layer_records 0 d.layers) (part_at 32 t ∷ [])))

-- a point's record
abbrev pub point_record : ℕ → ℕ → ℕ → Point → List ℤ
point_record kind owner volume p = put_slot (rule_at (point_table true) 0) (Some (nums p.values)) (start kind owner volume p.line)

pub point-long : (kind owner volume : ℕ) (p : Point) → length (point_record kind owner volume p) ≡ 32
point-long kind owner volume p = length-slot (rule_at (point_table true) 0) (Some (nums p.values)) (start kind owner volume p.line)

pub points-size : (kind owner volume : ℕ) (ps : List Point) → length (flat (point_records kind owner volume ps)) ≡ 32 * length ps
points-size kind owner volume [] = refl
points-size kind owner volume (p ∷ ps) =
    omega (arith, length-append (point_record kind owner volume p) (flat (point_records kind owner volume ps)), point-long kind owner volume p, points-size kind owner volume ps)

-- one more behind others
behind-points : (fore : List (List ℤ)) (kind owner volume : ℕ) (ps : List Point) (p : Point) (u : List ℤ) → u ≡ point_record kind owner volume p
    → fore ++ point_records kind owner volume (ps ++ p ∷ []) ≡ fore ++ point_records kind owner volume ps ++ u ∷ []
behind-points fore kind owner volume ps p u put =
    ap (λ (r : List (List ℤ)). fore ++ r) (more-points kind owner volume ps p ∙ ap (λ (y : List ℤ). point_records kind owner volume ps ++ y ∷ []) (sym put))
    ∙ sym (append_assoc fore (point_records kind owner volume ps) (u ∷ []))

pub hidden-fills : (c : Class) (s : Set) (y : Symbol) (ps : List Point) (p : Point) (records : ℕ) → length (flat (shut_so_far c (hide s y ps))) ≡ 32 * records → (t : List ℤ)
    → part_at 32 t ≡ point_record kind_hidden (length s.symbols) 1 p → Fills c (hide s y ps) (hide (with_records (kind_hidden ∷ []) s) y (ps ++ p ∷ [])) 1 32 records t
hidden-fills c s y ps p records all t put =
    fills_one c records (hide s y ps) (hide (with_records (kind_hidden ∷ []) s) y (ps ++ p ∷ [])) all 32 t (ap length put ∙ point-long kind_hidden (length s.symbols) 1 p)
    (behind-points (symbol_shut s y) kind_hidden (length s.symbols) 1 ps p (part_at 32 t) put)

-- how many were taken says nothing of a chain
chain-taken : (c : Class) (s : Set) (ks : List ℕ) (h : Home) (fs : List Figure) (n : ℕ) (ps : List Point)
    → shut_so_far c (successive (with_records ks s) h fs n ps) ≡ shut_so_far c (successive s h fs n ps)
chain-taken c s ks (in_element y) fs n ps = refl
chain-taken c s ks (in_layer m) fs n ps =
    ap (λ (r : List (List ℤ)). r ++ empty_record ∷ point_records (kind_point + home_more (in_layer m)) m (home_volume s (in_layer m)) ps) (shut-taken c s ks (in_layer m) fs)

-- its own record stays where it is, and open
pub point-fills : (c : Class) (s : Set) (h : Home) (fs : List Figure) (n : ℕ) (ps : List Point) (p : Point) (records : ℕ) → length (flat (shut_so_far c (successive s h fs n ps))) ≡ 32 * records → (t : List ℤ)
    → part_at 64 t ≡ point_record (kind_point + home_more h) (home_owner s h) (home_volume s h) p
    → Fills c (successive s h fs n ps) (successive (with_records (kind_in h kind_point ∷ []) s) h fs n (ps ++ p ∷ [])) 1 64 records t
point-fills c s h fs n ps p records all t put =
    let kind : ℕ = kind_point + home_more h in
    let fore : List (List ℤ) = figures_shut c s h fs in
    let old : List (List ℤ) = point_records kind (home_owner s h) (home_volume s h) ps in
    fills_one c records (successive s h fs n ps) (successive (with_records (kind_in h kind_point ∷ []) s) h fs n (ps ++ p ∷ [])) all 64 t
    (ap length put ∙ point-long kind (home_owner s h) (home_volume s h) p)
    (chain-taken c s (kind_in h kind_point ∷ []) h fs n (ps ++ p ∷ [])
    ∙ ap (λ (r : List (List ℤ)). fore ++ empty_record ∷ r) (behind-points [] kind (home_owner s h) (home_volume s h) ps p (part_at 64 t) put)
    ∙ sym (append_assoc fore (empty_record ∷ old) (part_at 64 t ∷ [])))
