-- The LAYER blocks of a volume written and read again.
use Rattle.std.specs.Prelude.{Some}
use Prim.Native.Nat.{ℕ}
use mathlib.Core.Bool.{true, false, not, Bool}
use mathlib.Core.List.{List, [], ◌∷◌, ◌++◌, map, append-nil, append_assoc}
use mathlib.Core.Path.{◌≡◌, refl, sym, ◌∙◌, ap, subst₂}
use lib.ListN.{get_or}
use Rattle.rules.specs.Base.{bytes, is_nil, flat, has_number, index_of}
use Rattle.rules.specs.RefusalNumbers.{got}
use Rattle.rules.specs.Values.{Known, is_layer_id}
use Rattle.rules.specs.Rows.{Rule, complete, rows_at_limit}
use Rattle.rules.specs.Blocks.{element_table}
use Rattle.rules.specs.Figures.{layer_table}
use Rattle.rules.specs.Sets.{Figure, LayerBlock, Set, with_now, with_block, range_of, is_single, known_of, serials_of_block, serials_of_volume, serials_in, used_in, is_wired}
use Rattle.rules.specs.Machine.{in_layer, elements, figures}
use Rattle.rules.specs.LineByLine.{step_in}
use Rattle.rules.specs.FixedForm.{Text, open_line, show_figures, show_blocks}
use Rattle.rules.specs.Sets.{layer_table_of}
use Rattle.rules.proofs.Chains.{and_left, and_right, clash, map-append, flat_append}
use Rattle.rules.proofs.Runs.{head-file}
use Rattle.promises.specs.PlacesApart.{bare_figure, bare_block}
use Rattle.promises.proofs.Good.{GoodBlock, GoodBlocks, fresh_numbers, Ranges, ranges_of, layer_rows, ranges_in}
use Rattle.promises.proofs.Forms.{layer-key, allowed-key, form_equal}
use Rattle.promises.proofs.RowGood.{shape-opening}
use Rattle.promises.proofs.BackSlots.{line_for, plain_env, close-form, retaken, Reads, one_line, no_lines, ◌and◌}
use Rattle.promises.proofs.BackFigures.{taken_figures}
use Rattle.promises.proofs.BackPlaced.{fresh-parts, read-figures}
use Rattle.promises.proofs.Bare.{figures-serials}
use Rattle.rules.specs.declared.Digits.{Digits}

-- ── the line `LAYER=id:{` ──
id-filled : (id : List ℕ) → is_layer_id id ≡ true → is_nil id ≡ false
id-filled [] e = clash e refl
id-filled (b ∷ id) e = refl

layer-line : (next : List ℕ) (S : Set) (m : ℕ) (id : List ℕ) → is_layer_id id ≡ true → index_of id (known_of S).layers ≡ Some m → not (has_number m (used_in S.now)) ≡ true
    → step_in plain_env (line_for next false (bytes "LAYER=" ++ open_line id)) (elements S) ≡ got (figures S (in_layer m) [])
unfolding element_table
layer-line next S m id e i new =
    rw (form_equal (bytes "LAYER") (id ++ bytes ":{") 0 refl (allowed-key id (bytes ":{") (layer-key id e) refl), shape-opening id (id-filled id e), e, i, new)

-- a layer asks for none of its figures
layer-whole : (d : Digits) (single wires : Bool) → complete d (layer_table single wires) (rows_at_limit 0 (layer_table single wires)) ≡ true
unfolding layer_table
layer-whole d single true = refl
layer-whole d single false = refl

close-layer : (next : List ℕ) (S : Set) (m : ℕ) (fs : List Figure)
    → step_in plain_env (line_for next false (bytes "}")) (figures S (in_layer m) fs) ≡ got (elements (with_block (record { layer = m; figures = fs }) S))
close-layer next S m fs = rw (close-form, layer-whole (range_of S) (is_single S) (is_wired S))

-- ── a block ──
abbrev show_block : Known → List Rule → LayerBlock → Text → Text
show_block k t u ls = (bytes "LAYER=" ++ open_line (get_or k.layers u.layer [])) ∷ show_figures k true t u.figures (bytes "}" ∷ ls)

block_here : (next : List ℕ) (S : Set) (n : ℕ) (u : LayerBlock) → GoodBlock (known_of S) (ranges_of S) u
    → not (has_number u.layer (used_in S.now)) ≡ true → fresh_numbers (serials_in S) (serials_of_block u) ≡ true
    → Reads next (elements (retaken n S)) (show_block (known_of S) (layer_table_of S) u) (elements (retaken (taken_figures n u.figures) (with_block (bare_block u) S)))
block_here next S n u g new f =
    one_line next (bytes "LAYER=" ++ open_line (get_or (known_of S).layers u.layer [])) (elements (retaken n S)) (figures (retaken n S) (in_layer u.layer) [])
    (layer-line next (retaken n S) u.layer (get_or (known_of S).layers u.layer []) g.id g.here new)
    and read-figures next S u.layer n [] u.figures g.figures (rw (append-nil (serials_in S)) f)
    and one_line next (bytes "}") (figures (retaken (taken_figures n u.figures) S) (in_layer u.layer) (map bare_figure u.figures)) (elements (retaken (taken_figures n u.figures) (with_block (bare_block u) S)))
    (close-layer next (retaken (taken_figures n u.figures) S) u.layer (map bare_figure u.figures))

-- ── all blocks of a volume ──
abbrev pub taken_blocks : ℕ → List LayerBlock → ℕ
taken_blocks n [] = n
taken_blocks n (u ∷ us) = taken_blocks (taken_figures n u.figures) us

abbrev pub with_blocks : List LayerBlock → Set → Set
with_blocks us s = with_now (record { line = s.now.line; file = s.now.file; blocks = s.now.blocks ++ us }) s

block-serials : (S : Set) (u : LayerBlock) → serials_in (with_block (bare_block u) S) ≡ serials_in S ++ serials_of_block u
block-serials S u =
    ap (λ (x : List ℕ). flat (map serials_of_volume S.volumes) ++ x)
    (ap flat (map-append serials_of_block S.now.blocks (bare_block u ∷ [])) ∙ flat_append (map serials_of_block S.now.blocks) (serials_of_block (bare_block u) ∷ [])
    ∙ ap (λ (x : List ℕ). serials_of_volume S.now ++ x) (append-nil (serials_of_block (bare_block u)) ∙ figures-serials u.figures))
    ∙ sym (append_assoc (flat (map serials_of_volume S.volumes)) (serials_of_volume S.now) (serials_of_block u))

pub read-blocks : (next : List ℕ) (k : Known) (x : Ranges) (S : Set) (n : ℕ) (us : List LayerBlock) → known_of S ≡ k → ranges_of S ≡ x → GoodBlocks k x us
    → fresh_numbers (used_in S.now) (map (λ u. u.layer) us) ≡ true → fresh_numbers (serials_in S) (flat (map serials_of_block us)) ≡ true
    → Reads next (elements (retaken n S)) (show_blocks k (layer_rows x) us) (elements (retaken (taken_blocks n us) (with_blocks (map bare_block us) S)))
read-blocks next k x S n [] p q g f z = rw (append-nil S.now.blocks) (no_lines next (elements (retaken n S)))
read-blocks next k x S n (u ∷ us) p q g f z =
    let (z₁, z₂) = fresh-parts (serials_in S) (serials_of_block u) (flat (map serials_of_block us)) z in
    subst₂ (λ (k : Known) (x : Ranges). GoodBlock k x u
    → Reads next (elements (retaken n S)) (show_block k (layer_rows x) u) (elements (retaken (taken_figures n u.figures) (with_block (bare_block u) S)))) p q
    (λ g. block_here next S n u g (and_left (not (has_number u.layer (used_in S.now))) _ f) z₁) g.0
    and rw (← append_assoc S.now.blocks (bare_block u ∷ []) (map bare_block us))
    (read-blocks next k x (with_block (bare_block u) S) (taken_figures n u.figures) us p
    (ap ranges_in (head-file (with_block (bare_block u) S).now S.now S.volumes refl) ∙ q) g.1
    (rw (map-append (λ (u : LayerBlock). u.layer) S.now.blocks (bare_block u ∷ [])) (and_right (not (has_number u.layer (used_in S.now))) _ f))
    (rw (block-serials S u) z₂))
