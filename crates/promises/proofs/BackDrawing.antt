-- DRAWING_FORMAT with its layers, written and read again.
use Rattle.std.specs.Prelude.{Some}
use Prim.Native.Nat.{ℕ, ◌+◌, ◌≤◌}
use mathlib.Core.Bool.{Bool, true, false, not}
use mathlib.Core.List.{List, [], ◌∷◌, ◌++◌, map, append-nil, append_assoc}
use mathlib.Core.Path.{◌≡◌, refl}
use native.Mathlib.Omega.{arith}
use lib.Dec.{ltb}
use lib.ListN.{length, set, length-append}
use borrow.Author.Tests.{lt-ltb, leb-true}
use Rattle.rules.specs.declared.Digits.{Digits}
use Rattle.rules.specs.Base.{bytes, among}
use Rattle.rules.specs.RefusalNumbers.{got}
use Rattle.rules.specs.RangeClass.{digits_of}
use Rattle.rules.specs.Values.{Value, Known, chars_of}
use Rattle.rules.specs.Rows.{Rule, Slots, blank, rows_there}
use Rattle.rules.specs.Blocks.{drawing_table, most_layers}
use Rattle.rules.specs.Sets.{Layer, Drawing, Set, arc_of, known_of, with_drawing}
use Rattle.rules.specs.Machine.{State, top, drawing, layer_names}
use Rattle.rules.specs.LineByLine.{step_in}
use Rattle.rules.specs.FixedForm.{Text, opens_block, show_value, show_layers, show_drawing}
use Rattle.rules.proofs.Chains.{and_left, and_right, map-append}
use Rattle.rules.proofs.Rows.{Row, here, there, row-all, reaches-none}
use Rattle.promises.specs.PlacesApart.{bare_value, bare_slots, bare_layer, bare_drawing}
use Rattle.promises.proofs.Good.{Always, GoodLayer, GoodLayers, GoodDrawing, fresh, ids_of}
use Rattle.promises.proofs.Forms.{layer-key, form_equal}
use Rattle.promises.proofs.BackSlots.{line_for, plain_env, close-form, retaken, Reads, one_line, no_lines, ◌and◌, Free, free-mark, Takes, read-slots, act-entry, act-begin, opens_at, still, filled, unfilled, entered, opened, opens-needed}
use Rattle.promises.proofs.BackFile.{sound, sound-differ, sound-plain}
use Rattle.promises.proofs.Bare.{marks-bare}
use Rattle.promises.proofs.Nameless.{nameless, line_any}

-- ── the layers ──
abbrev pub taken_layers : ℕ → List Layer → ℕ
taken_layers n [] = n
taken_layers n (l ∷ ls) = taken_layers (n + 1) ls

abbrev drawing_of : Slots → List Layer → Drawing
drawing_of o ls = record { line = 0; own = o; layers = ls }

module _ (next : List ℕ) (k : Known) (S : Set) (o : Slots) where
  one-layer : (n : ℕ) (D : List Layer) (l : Layer) → GoodLayer l → ltb (length D) most_layers ≡ true → not (among l.id (ids_of D)) ≡ true
      → step_in plain_env (line_for next false (l.id ++ 61 ∷ chars_of l.name)) (layer_names (retaken n S) (drawing_of o D)) ≡ got (layer_names (retaken (n + 1) S) (drawing_of o (D ++ bare_layer l ∷ [])))
  one-layer n D l g few new =
      rw (form_equal l.id (chars_of l.name) 0 (layer-key l.id g.named) g.okay, g.named, g.again, few, new)

  read-layers : (n : ℕ) (D ls : List Layer) → GoodLayers ls → length D + length ls ≤ most_layers → fresh (ids_of D) (ids_of ls) ≡ true
      → Reads next (layer_names (retaken n S) (drawing_of o D)) (show_layers k ls) (layer_names (retaken (taken_layers n ls) S) (drawing_of o (D ++ map bare_layer ls)))
  read-layers n D [] g m f = rw (append-nil D) (no_lines next (layer_names (retaken n S) (drawing_of o D)))
  read-layers n D (l ∷ ls) g m f =
      one_line next (l.id ++ 61 ∷ chars_of l.name) (layer_names (retaken n S) (drawing_of o D)) (layer_names (retaken (n + 1) S) (drawing_of o (D ++ bare_layer l ∷ [])))
      (one-layer n D l g.0 (lt-ltb (length D) most_layers (omega arith)) (and_left (not (among l.id (ids_of D))) _ f))
      and rw (← append_assoc D (bare_layer l ∷ []) (map bare_layer ls))
      (read-layers (n + 1) (D ++ bare_layer l ∷ []) ls g.1 (rw (length-append D (bare_layer l ∷ [])) (omega arith))
      (rw (map-append (λ (y : Layer). y.id) D (bare_layer l ∷ [])) (and_right (not (among l.id (ids_of D))) _ f)))

-- ── DRAWING_FORMAT ──
drawing-sound : sound drawing_table ≡ true
unfolding drawing_table
drawing-sound = refl

abbrev layers_if : Bool → List Layer → List Layer
layers_if true ls = map bare_layer ls
layers_if false ls = []

abbrev count_if : Bool → ℕ → List Layer → ℕ
count_if true n ls = taken_layers n ls
count_if false n ls = n

module _ (next : List ℕ) (k : Known) (S : Set) (n : ℕ) (d : Drawing) (g : GoodDrawing (arc_of S) d) where
  abbrev range : Digits
  range = digits_of (arc_of S)

  abbrev so : Slots → State
  so u = drawing (retaken (count_if (opens_at drawing_table u 7) n d.layers) S) (drawing_of u (layers_if (opens_at drawing_table u 7) d.layers))

  abbrev in_drawing : ℕ → Text → Text
  in_drawing i rest = show_layers k d.layers rest

  enters-drawing : (i : ℕ) (r : Rule) (v : Value) → Row drawing_table i r → Always range r v → (u : Slots) → Free u i → opens_block r.holds v ≡ false
      → Reads next (so u) (show_value k r v in_drawing) (so (set u i (Some (bare_value v))))
  enters-drawing i r v w h u f o =
      entered next k in_drawing r v (so u) (so (set u i (Some (bare_value v)))) o
      (rw (
        line_any r (row-all (λ r. nameless r.holds) w (sound-plain drawing_table drawing-sound)) k (known_of S) v,
        act-entry (known_of S) range drawing_table i r v w (h (known_of S)) (sound-differ drawing_table drawing-sound) (rows_there u) (free-mark u i f) o,
        still w u f v o 7,
      ))

  opens-layers : (r : Rule) (v : Value) → Row drawing_table 7 r → Always range r v → (u : Slots) → Free u 7 → opens_block r.holds v ≡ true
      → Reads next (so u) (show_value k r v in_drawing) (so (set u 7 (Some (bare_value v))))
  opens-layers r v w h u f o =
      let x = set u 7 (Some (bare_value v)) in
      rw (unfilled drawing_table u 7 f, filled w u f v o)
      (opened next k in_drawing r v (drawing (retaken n S) (drawing_of u [])) (layer_names (retaken n S) (drawing_of x [])) (drawing (retaken (taken_layers n d.layers) S) (drawing_of x (map bare_layer d.layers))) o
      (rw (
        line_any r (row-all (λ r. nameless r.holds) w (sound-plain drawing_table drawing-sound)) k (known_of S) v,
        act-begin (known_of S) range drawing_table 7 r v w (h (known_of S)) (sound-differ drawing_table drawing-sound) (rows_there u) (free-mark u 7 f) o,
      ))
      (read-layers next k S x n [] d.layers g.layers (let m = leb-true (length d.layers) most_layers g.most in omega arith) g.differ
      and one_line next (bytes "}") (layer_names (retaken (taken_layers n d.layers) S) (drawing_of x (map bare_layer d.layers))) (drawing (retaken (taken_layers n d.layers) S) (drawing_of x (map bare_layer d.layers))) shut))
    where
      shut : step_in plain_env (line_for next false (bytes "}")) (layer_names (retaken (taken_layers n d.layers) S) (drawing_of (set u 7 (Some (bare_value v))) (map bare_layer d.layers)))
          ≡ got (drawing (retaken (taken_layers n d.layers) S) (drawing_of (set u 7 (Some (bare_value v))) (map bare_layer d.layers)))
      shut = rw close-form

  takes-drawing : Takes next k in_drawing (Always range) so drawing_table d.own
  unfolding drawing_table
  takes-drawing i r v here e h u f = enters-drawing i r v here h u f refl
  takes-drawing i r v (there here) e h u f = enters-drawing i r v (there here) h u f refl
  takes-drawing i r v (there (there here)) e h u f = enters-drawing i r v (there (there here)) h u f refl
  takes-drawing i r v (there (there (there here))) e h u f = enters-drawing i r v (there (there (there here))) h u f refl
  takes-drawing i r v (there (there (there (there here)))) e h u f = enters-drawing i r v (there (there (there (there here)))) h u f refl
  takes-drawing i r v (there (there (there (there (there here))))) e h u f = enters-drawing i r v (there (there (there (there (there here))))) h u f refl
  takes-drawing i r v (there (there (there (there (there (there here)))))) e h u f = enters-drawing i r v (there (there (there (there (there (there here)))))) h u f refl
  takes-drawing i r v (there (there (there (there (there (there (there here))))))) e h u f = opens-layers r v (there (there (there (there (there (there (there here))))))) h u f refl
  takes-drawing _ r v (there (there (there (there (there (there (there (there w)))))))) e h u f = elim w [ ]

  layers-read : opens_at drawing_table (bare_slots d.own) 7 ≡ true
  unfolding drawing_table
  layers-read =
      opens-needed (Always range) range {t = drawing_table} (there (there (there (there (there (there (there here))))))) d.own g.own-good.good g.own-good.all (reaches-none range) (λ v. refl)

  pub read-drawing : Reads next (drawing (retaken n S) (drawing_of (blank drawing_table) [])) (λ ls. show_drawing k d (bytes "}" ∷ ls)) (top (with_drawing (bare_drawing d) (retaken (taken_layers n d.layers) S)) 2)
  unfolding drawing_table
  read-drawing =
      read-slots next k in_drawing (Always range) so drawing_table d.own g.own-good.good takes-drawing
      and rw layers-read
      (one_line next (bytes "}") (drawing (retaken (taken_layers n d.layers) S) (bare_drawing d)) (top (with_drawing (bare_drawing d) (retaken (taken_layers n d.layers) S)) 2)
      shut)
    where
      shut : step_in plain_env (line_for next false (bytes "}")) (drawing (retaken (taken_layers n d.layers) S) (bare_drawing d)) ≡ got (top (with_drawing (bare_drawing d) (retaken (taken_layers n d.layers) S)) 2)
      shut = rw (close-form, marks-bare d.own, g.own-good.all)
