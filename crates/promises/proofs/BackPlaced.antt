-- Placed symbols written and read again, and with them all figures of a layer.
use Rattle.std.specs.Prelude.{Option, Some, None}
use Prim.Native.Nat.{ℕ, ◌+◌}
use mathlib.Core.Bool.{Bool, true, false, cond, ◌&&◌, not}
use mathlib.Core.List.{List, [], ◌∷◌, ◌++◌, map, append-nil, append_assoc}
use mathlib.Core.Path.{◌≡◌, refl, sym, ◌∙◌, ap, subst}
use lib.Dec.{leb}
use lib.ListN.{length, get_or, set}
use borrow.Author.Tests.{not-true}
use Rattle.rules.specs.declared.Digits.{Digits}
use Rattle.rules.specs.Base.{bytes, all, is_some, flat, has_number, split}
use Rattle.rules.specs.RefusalNumbers.{Got, got, bad, unless, map_g, and_then, or_bad, keep}
use Rattle.rules.specs.Lines.{Rest, form_of, Shape, opener, no_content, content, opening, formless, has_form}
use Rattle.rules.specs.RangeClass.{digits, reaches, both}
use Rattle.rules.specs.Values.{Num, Value, nums, chars, Known, Kind, values, text, word, volume_name, sheet, ratio, serials, wire_serial, symbol_circle, nothing, opens, headed, either, letters_and_digits, byte_in, capital, agree, range, read_part, read_all, read_ratio, find_sheet, sheets, read_kind, serials_of, read_wire_serial, read_circle}
use Rattle.rules.specs.Rows.{Rule, Slots, blank, Held, part_of, rows_there, slot_value, held, fits, shape_for, Act, stay, entry, begin, shut, refuse, or_refuse, inner_of, read_shape, not_twice, act_row}
use Rattle.rules.specs.Blocks.{blank_held}
use Rattle.rules.specs.Figures.{layer_table, text_table, placed_table, placed_tables, wire_serial_row}
use Rattle.rules.specs.Sets.{Figure, plain, chain, lettering, placed, Set, range_of, is_single, known_of, own_serial, figure_serial, serials_in, layer_table_of, wired, passed, own_number}
use Rattle.rules.specs.Machine.{in_layer, State, figures, placing, symbol_block}
use Rattle.rules.specs.PlacedSymbol.{none_of, new_serial}
use Rattle.rules.specs.LineByLine.{step_in}
use Rattle.rules.specs.FixedForm.{Text, opens_block, line_of, no_inner, open_line, show_inner, show_held, show_slots, show_value, show_figure, show_figures}
use Rattle.rules.specs.Answers.{full_class}
use Rattle.rules.specs.RecordTable.{rule_at}
use Rattle.rules.proofs.Chains.{and_left, and_right, and_true, clash, map-append, On, on-map, flat_append}
use Rattle.rules.proofs.Rows.{Row, here, there, differ, row-all, row-find, row_at}
use Rattle.promises.specs.PlacesApart.{bare_value, bare_slots, bare_held, bare_figure}
use Rattle.promises.proofs.Good.{GoodRow, Always, rest_of, none0, Closed, GoodPart, GoodFigure, GoodFigures, fresh_numbers, ranges_of}
use Rattle.promises.proofs.BackSlots.{line_for, plain_env, close-form, retaken, Reads, one_line, no_lines, ◌and◌, Free, free-mark, Takes, read-slots, act-entry, opens_in, opens_at, still, filled, unfilled, opens-end, entered, opened, read-calm}
use Rattle.promises.proofs.BackFile.{inner_slots, inner-whole, sound-differ}
use Rattle.promises.proofs.BackFigures.{taken_figure, taken_figures, plain-line, read-chain, read-text, text-sound}
use Rattle.promises.proofs.Bare.{serials-bare, marks-bare, serial-bare}
use Rattle.promises.proofs.BackWires.{read-wire}

-- ── only the row of serial numbers holds serial numbers ──
abbrev is_serials : Kind → Bool
is_serials (values p ps a) = false
is_serials (text n b) = false
is_serials (word n b) = false
is_serials volume_name = false
is_serials sheet = false
is_serials ratio = false
is_serials serials = true
is_serials wire_serial = false
is_serials symbol_circle = false
is_serials nothing = false
is_serials (opens i) = false
is_serials (headed i p) = false
is_serials (either i) = false

abbrev NoSerials : Value → Type 0
NoSerials v = serials_of v ≡ []

abbrev Serialless : Act → Type 0
Serialless stay = Unit {0}
Serialless (entry j v) = NoSerials v
Serialless (begin i j v) = NoSerials v
Serialless shut = Unit {0}
Serialless (refuse n) = Unit {0}

nums_serialless : (g : Got (List Num)) → On NoSerials (map_g nums g)
nums_serialless (got v) = refl
nums_serialless (bad n) = tt

one_serialless : (g : Got Num) → On NoSerials (map_g (λ n. nums (n ∷ [])) g)
one_serialless (got v) = refl
one_serialless (bad n) = tt

chars_serialless : (b : Bool) (at : ℕ) (c : List ℕ) → On NoSerials (unless b 11 (got (chars at c)))
chars_serialless true at c = refl
chars_serialless false at c = tt

read_serialless : (k : Known) (d : Kind) (at : ℕ) (c : List ℕ) → is_serials d ≡ false → On NoSerials (read_kind k d at c)
read_serialless k (values p ps a) at c e = nums_serialless (keep 11 (agree a) (read_all k (p ∷ ps) (split 44 c)))
read_serialless k (text n b) at c e = chars_serialless (all (byte_in b) c && leb (length c) n) at c
read_serialless k (word n b) at c e = chars_serialless (all (byte_in b) c && leb (length c) n) at c
read_serialless k volume_name at c e = chars_serialless (all (byte_in letters_and_digits) c) at (map capital c)
read_serialless k sheet at c e = nums_serialless (or_bad 11 (find_sheet c sheets))
read_serialless k ratio at c e = nums_serialless (read_ratio c)
read_serialless k serials at c e = clash refl e
read_serialless k wire_serial at c e = nums_serialless (read_wire_serial (split 44 c))
read_serialless k symbol_circle at c e = nums_serialless (read_circle k (split 44 c))
read_serialless k nothing at c e = tt
read_serialless k (opens i) at c e = tt
read_serialless k (headed i p) at c e = one_serialless (read_part k p c)
read_serialless k (either i) at c e = one_serialless (read_part k (range 0 1) c)

shape_serialless : (k : Known) (j : ℕ) (r : Rule) (s : Shape) → is_serials r.holds ≡ false → On Serialless (read_shape k j r s)
shape_serialless k j r opener e = refl
shape_serialless k j r no_content e = refl
shape_serialless k j r (content at c) e = on-map Serialless (entry j) (read_kind k r.holds at c) (read_serialless k r.holds at c e)
shape_serialless k j r (opening at c) e = on-map Serialless (begin (inner_of r.holds) j) (read_kind k r.holds at c) (read_serialless k r.holds at c e)
shape_serialless k j r formless e = tt

act_serialless : (k : Known) (d : Digits) (full : Bool) (j : ℕ) (r : Rule) (c : Rest) → is_serials r.holds ≡ false → Serialless (act_row k d full j r c)
act_serialless k d full j r c e =
    go (has_form (shape_for r c)) (reaches d r.least) (fits r.holds r.may (shape_for r c)) (not_twice r.times full) (read_shape k j r (shape_for r c)) full
    (shape_serialless k j r (shape_for r c) e)
  where
    go : (a b c' d' : Bool) (g : Got Act) (full' : Bool) → On Serialless g
        → Serialless (or_refuse (unless a 5 (unless b 6 (unless c' 5 (unless d' 7 (and_then g λ x. unless (not full') 11 (got x)))))))
    go false b c' d' g z h = tt
    go true false c' d' g z h = tt
    go true true false d' g z h = tt
    go true true true false g z h = tt
    go true true true true (bad n) z h = tt
    go true true true true (got x) true h = tt
    go true true true true (got x) false h = h

row_serialless : (k : Known) (d : Digits) (r : Rule) (v : Value) → GoodRow k d r v → is_serials r.holds ≡ false → NoSerials (bare_value v)
row_serialless k d r v g e = go (opens_block r.holds v) (rw (g.again 0) at (act_serialless k d false 0 r (rest_of k r v) e))
  where
    go : (b : Bool) → Serialless (cond b (begin (inner_of r.holds) 0 (bare_value v)) (entry 0 (bare_value v))) → NoSerials (bare_value v)
    go true h = h
    go false h = h

-- ── a placed symbol ──
placed-sound : (differ placed_table ≡ true) × (all (λ r. reaches full_class.symbols r.least) placed_table ≡ true) × (all (λ r. not (is_serials r.holds)) (text_table true 16 24) ≡ true)
unfolding placed_table text_table
placed-sound = (refl, refl, refl)

module _ (next : List ℕ) (S : Set) (n m : ℕ) (fs : List Figure) (own inner : Slots)
    (own-good : Closed (GoodRow (known_of S) (range_of S)) (both full_class.symbols (range_of S)) placed_table own)
    (inner-good : GoodPart (is_some (get_or own 1 None)) (Always none0) none0 (text_table true 16 24) inner)
    (new : none_of (figure_serial (placed n (own ∷ inner ∷ []))) (serials_in S ++ flat (map figure_serial fs)) ≡ true) where
  abbrev letters_table : List Rule
  letters_table = text_table true 16 24

  abbrev seen : List ℕ
  seen = serials_in S ++ flat (map figure_serial fs)

  none-new : (v : Value) → NoSerials v → new_serial (retaken n S) fs v ≡ true
  none-new v e = rw e

  abbrev with_text : Slots → Held
  with_text u = u ∷ inner_slots (opens_at placed_table u 1) letters_table inner ∷ []

  abbrev own-so : Slots → State
  own-so u = placing (retaken n S) m fs 0 (symbol_block (with_text u)) 0

  abbrev in_placed : ℕ → Text → Text
  in_placed = show_inner (known_of S) placed_tables (own ∷ inner ∷ []) (show_inner (known_of S) placed_tables (own ∷ inner ∷ []) no_inner)

  enters-placed : (i : ℕ) (r : Rule) (v : Value) → Row placed_table i r → GoodRow (known_of S) (range_of S) r v → (u : Slots) → Free u i → opens_block r.holds v ≡ false
      → new_serial (retaken n S) fs (bare_value v) ≡ true → Reads next (own-so u) (show_value (known_of S) r v in_placed) (own-so (set u i (Some (bare_value v))))
  enters-placed i r v w g u f o z =
      entered next (known_of S) in_placed r v (own-so u) (own-so (set u i (Some (bare_value v)))) o
      (rw (g.form 0, row-find w placed-sound.0, row-all (λ r. reaches full_class.symbols r.least) w placed-sound.1, free-mark u i f, g.again i, o, z, still w u f v o 1))

  opens-placed : (r : Rule) (v : Value) → Row placed_table 1 r → GoodRow (known_of S) (range_of S) r v → (u : Slots) → Free u 1 → opens_block r.holds v ≡ true → inner_of r.holds ≡ 1
      → Closed (Always none0) none0 letters_table inner → Reads next (own-so u) (show_value (known_of S) r v in_placed) (own-so (set u 1 (Some (bare_value v))))
  opens-placed r v w g u f o q c =
      let x = set u 1 (Some (bare_value v)) in
      rw (unfilled placed_table u 1 f, filled w u f v o)
      (opened next (known_of S) in_placed r v (placing (retaken n S) m fs 0 (symbol_block (u ∷ blank letters_table ∷ [])) 0) (placing (retaken n S) m fs 0 (symbol_block (x ∷ blank letters_table ∷ [])) (inner_of r.holds))
      (placing (retaken n S) m fs 0 (symbol_block (x ∷ bare_slots inner ∷ [])) 0) o
      (rw (g.form 0, row-find w placed-sound.0, row-all (λ r. reaches full_class.symbols r.least) w placed-sound.1, free-mark u 1 f, g.again 1, o))
      (rw q (letters x)))
    where
      letters : (x : Slots)
          → Reads next (placing (retaken n S) m fs 0 (symbol_block (x ∷ blank letters_table ∷ [])) 1) (λ ls. show_slots (known_of S) letters_table inner (show_inner (known_of S) placed_tables (own ∷ inner ∷ []) no_inner) (bytes "}" ∷ ls))
          (placing (retaken n S) m fs 0 (symbol_block (x ∷ bare_slots inner ∷ [])) 0)
      letters x =
          read-calm next (known_of S) (show_inner (known_of S) placed_tables (own ∷ inner ∷ []) no_inner) (Always none0) (λ u. placing (retaken n S) m fs 0 (symbol_block (x ∷ u ∷ [])) 1) letters_table inner (text-sound true 16 24).1
          (λ i r v w g u f z. rw (
            act-entry (known_of S) none0 letters_table i r v w (g (known_of S)) (sound-differ letters_table (text-sound true 16 24).0) (rows_there u) (free-mark u i f) z,
            none-new (bare_value v) (row_serialless (known_of S) none0 r v (g (known_of S)) (not-true (is_serials r.holds) (row-all (λ r. not (is_serials r.holds)) w placed-sound.2))),
          )) c.good
          and one_line next (bytes "}") (placing (retaken n S) m fs 0 (symbol_block (x ∷ bare_slots inner ∷ [])) 1) (placing (retaken n S) m fs 0 (symbol_block (x ∷ bare_slots inner ∷ [])) 0) (rw (close-form, marks-bare inner, c.all))

  takes-placed : Takes next (known_of S) in_placed (GoodRow (known_of S) (range_of S)) own-so placed_table own
  unfolding placed_table
  takes-placed i r v here e g u f = enters-placed i r v here g u f refl (none-new (bare_value v) (row_serialless (known_of S) (range_of S) r v g refl))
  takes-placed i r v (there here) e g u f =
      opens-placed r v (there here) g u f refl refl (rw e at inner-good)
  takes-placed i r v (there (there here)) e g u f =
      enters-placed i r v (there (there here)) g u f refl (none-new (bare_value v) (row_serialless (known_of S) (range_of S) r v g refl))
  takes-placed i r v (there (there (there here))) e g u f =
      enters-placed i r v (there (there (there here))) g u f refl (none-new (bare_value v) (row_serialless (known_of S) (range_of S) r v g refl))
  takes-placed i r v (there (there (there (there here)))) e g u f =
      enters-placed i r v (there (there (there (there here)))) g u f refl (none-new (bare_value v) (row_serialless (known_of S) (range_of S) r v g refl))
  takes-placed i r v (there (there (there (there (there here))))) e g u f =
      enters-placed i r v (there (there (there (there (there here))))) g u f refl
      (ap (λ s. none_of (own_serial s) seen) (serials-bare v) ∙ ap (λ o. none_of (own_serial (serials_of (slot_value o))) seen) (sym e) ∙ new)
  takes-placed _ r v (there (there (there (there (there (there w)))))) e g u f = elim w [ ]

  placed_end : with_text (bare_slots own) ≡ bare_slots own ∷ bare_slots inner ∷ []
  unfolding placed_table
  placed_end =
      rw (
        opens-end (GoodRow (known_of S) (range_of S)) {t = placed_table} (there here) own own-good.good,
        is-some (get_or own 1 None),
        inner-whole (is_some (get_or own 1 None)) (Always none0) none0 letters_table inner inner-good,
      )
    where
      is-some : (o : Option Value) → opens_in (opens 1) o ≡ is_some o
      is-some None = refl
      is-some (Some v) = refl

  read-placed : Reads next (placing (retaken n S) m fs 0 (symbol_block (blank_held placed_tables)) 0) (λ ls. show_held (known_of S) placed_tables (own ∷ inner ∷ []) (bytes "}" ∷ ls))
      (figures (retaken n S) (in_layer m) (fs ++ placed 0 (bare_held (own ∷ inner ∷ [])) ∷ []))
  unfolding placed_table
  read-placed =
      read-slots next (known_of S) in_placed (GoodRow (known_of S) (range_of S)) own-so placed_table own own-good.good takes-placed
      and rw placed_end
      (one_line next (bytes "}") (placing (retaken n S) m fs 0 (symbol_block (bare_held (own ∷ inner ∷ []))) 0) (figures (retaken n S) (in_layer m) (fs ++ placed 0 (bare_held (own ∷ inner ∷ [])) ∷ [])) shuts)
    where
      shuts : step_in plain_env (line_for next false (bytes "}")) (placing (retaken n S) m fs 0 (symbol_block (bare_held (own ∷ inner ∷ []))) 0)
          ≡ got (figures (retaken n S) (in_layer m) (fs ++ placed 0 (bare_held (own ∷ inner ∷ [])) ∷ []))
      shuts = rw (close-form, marks-bare own, own-good.all)

-- ── a figure of a layer ──
opens-symbol : (next : List ℕ) (S : Set) (n m : ℕ) (fs : List Figure) → is_single S ≡ false → reaches (range_of S) (digits 0 1) ≡ true
    → step_in plain_env (line_for next false (open_line (bytes "E_symbol"))) (figures (retaken n S) (in_layer m) fs) ≡ got (placing (retaken (n + 1) S) m fs 0 (symbol_block (blank_held placed_tables)) 0)
unfolding form_of layer_table
opens-symbol next S n m fs e d = rw (e, d)

-- numbers that are new one after the other
pub fresh-parts : (seen a b : List ℕ) → fresh_numbers seen (a ++ b) ≡ true → (fresh_numbers seen a ≡ true) × (fresh_numbers (seen ++ a) b ≡ true)
fresh-parts seen [] b e = (refl, rw (append-nil seen) e)
fresh-parts seen (n ∷ a) b e =
    let (p, q) = fresh-parts (seen ++ n ∷ []) a b (and_right (not (has_number n seen)) _ e) in
    (and_true _ _ (and_left (not (has_number n seen)) _ e) p, rw (← append_assoc seen (n ∷ []) a) q)

serials_grow : (fs : List Figure) (f : Figure) → flat (map figure_serial (fs ++ bare_figure f ∷ [])) ≡ flat (map figure_serial fs) ++ figure_serial f
serials_grow fs f =
    ap flat (map-append figure_serial fs (bare_figure f ∷ [])) ∙ flat_append (map figure_serial fs) (figure_serial (bare_figure f) ∷ [])
    ∙ ap (λ (u : List ℕ). flat (map figure_serial fs) ++ u) (append-nil (figure_serial (bare_figure f)) ∙ serial-bare f)

fresh-none : (s seen : List ℕ) → fresh_numbers seen (own_serial s) ≡ true → none_of (own_serial s) seen ≡ true
fresh-none [] seen e = refl
fresh-none (a ∷ s) seen e = e

own_fresh : (o : Option Value) (seen : List ℕ) → fresh_numbers seen (own_number o) ≡ true → none_of (own_number o) seen ≡ true
own_fresh None seen e = refl
own_fresh (Some v) seen e = e

figure-fresh : (f : Figure) (seen : List ℕ) → fresh_numbers seen (figure_serial f) ≡ true → none_of (figure_serial f) seen ≡ true
figure-fresh (plain l j v) seen e = refl
figure-fresh (chain l ps) seen e = refl
figure-fresh (lettering l o) seen e = refl
figure-fresh (wired l w) seen e = own_fresh (get_or w.own wire_serial_row None) seen e
figure-fresh (passed l) seen e = refl
figure-fresh (placed l h) seen e = fresh-none (serials_of (slot_value (held "serial" placed_table (part_of h 0)))) seen e

module _ (next : List ℕ) (S : Set) (m : ℕ) where
  abbrev good : Figure → Type 0
  good f = GoodFigure (known_of S) (ranges_of S) f

  abbrev layered : Figure → Text → Text
  layered f = show_figure (known_of S) true (layer_table_of S) f

  read-figure : (n : ℕ) (fs : List Figure) (f : Figure) → good f → none_of (figure_serial f) (serials_in S ++ flat (map figure_serial fs)) ≡ true
      → Reads next (figures (retaken n S) (in_layer m) fs) (layered f) (figures (retaken (taken_figure n f) S) (in_layer m) (fs ++ bare_figure f ∷ []))
  read-figure n fs (plain l j v) g z =
      let q : rule_at (layer_table_of S) j ≡ g.rule = row_at g.row (rule_at [] 0) in
      subst (λ (r : Rule). Reads next (figures (retaken n S) (in_layer m) fs) (λ ls. line_of (known_of S) r (nums v) ∷ ls) (figures (retaken (n + 1) S) (in_layer m) (fs ++ plain 0 j v ∷ []))) (sym q)
      (one_line next (line_of (known_of S) g.rule (nums v)) (figures (retaken n S) (in_layer m) fs) (figures (retaken (n + 1) S) (in_layer m) (fs ++ plain 0 j v ∷ []))
      (plain-line next S n (in_layer m) fs j v g.rule g.row g.good g.alone))
  read-figure n fs (chain l ps) g z = read-chain next (known_of S) S n (in_layer m) fs ps g
  read-figure n fs (lettering l o) g z = read-text next (known_of S) S n (in_layer m) fs o g
  read-figure n fs (placed l h) g z =
      one_line next (open_line (bytes "E_symbol")) (figures (retaken n S) (in_layer m) fs) (placing (retaken (n + 1) S) m fs 0 (symbol_block (blank_held placed_tables)) 0) (opens-symbol next S n m fs g.1 g.2)
      and subst (λ (h : Held). none_of (figure_serial (placed l h)) (serials_in S ++ flat (map figure_serial fs)) ≡ true
      → Reads next (placing (retaken (n + 1) S) m fs 0 (symbol_block (blank_held placed_tables)) 0) (λ ls. show_held (known_of S) placed_tables h (bytes "}" ∷ ls)) (figures (retaken (n + 1) S) (in_layer m) (fs ++ placed 0 (bare_held h) ∷ [])))
      (sym g.0.is) (λ z. read-placed next S (n + 1) m fs g.0.own g.0.text g.0.own-good g.0.text-good z) z
  read-figure n fs (wired l w) g z = read-wire next S n m fs w g.1 z g.0
  read-figure n fs (passed l) g z = absurd g

  -- all figures of a layer
  pub read-figures : (n : ℕ) (fs gs : List Figure) → GoodFigures (known_of S) (ranges_of S) gs
      → fresh_numbers (serials_in S ++ flat (map figure_serial fs)) (flat (map figure_serial gs)) ≡ true
      → Reads next (figures (retaken n S) (in_layer m) fs) (show_figures (known_of S) true (layer_table_of S) gs) (figures (retaken (taken_figures n gs) S) (in_layer m) (fs ++ map bare_figure gs))
  read-figures n fs [] g z = rw (append-nil fs) (no_lines next (figures (retaken n S) (in_layer m) fs))
  read-figures n fs (f ∷ gs) g z =
      let seen = serials_in S ++ flat (map figure_serial fs) in
      let (z₁, z₂) = fresh-parts seen (figure_serial f) (flat (map figure_serial gs)) z in
      read-figure n fs f g.0 (figure-fresh f seen z₁)
      and rw (← append_assoc fs (bare_figure f ∷ []) (map bare_figure gs))
      (read-figures (taken_figure n f) (fs ++ bare_figure f ∷ []) gs g.1 (subst (λ (u : List ℕ). fresh_numbers u (flat (map figure_serial gs)) ≡ true) (append_assoc (serials_in S) (flat (map figure_serial fs)) (figure_serial f) ∙ ap (λ (u : List ℕ). serials_in S ++ u) (sym (serials_grow fs f))) z₂))
