-- SYMBOL_DEFINE written and read again.
use Rattle.std.specs.Prelude.{Option, Some, None}
use Prim.Native.Nat.{ℕ, ◌+◌}
use mathlib.Core.Bool.{Bool, true, false, ◌&&◌, ◌||◌, not}
use mathlib.Core.List.{List, [], ◌∷◌, ◌++◌, map, append-nil, append_assoc}
use mathlib.Core.Path.{◌≡◌, refl, sym, ◌∙◌, ap, subst}
use lib.Dec.{leb}
use lib.ListN.{length, get_or, set}
use Rattle.rules.specs.declared.Digits.{Digits}
use Rattle.rules.specs.Base.{bytes, all, is_nil, is_none, among}
use Rattle.rules.specs.RefusalNumbers.{got}
use Rattle.rules.specs.Lines.{form_of}
use Rattle.rules.specs.RangeClass.{digits, digits_of, reaches}
use Rattle.rules.specs.Values.{Value, nums, Known, chars_of}
use Rattle.rules.specs.Rows.{Rule, Slots, blank, rows_there, slot_value, inner_of, present, complete}
use Rattle.rules.specs.Blocks.{defines_table, symbol_table}
use Rattle.rules.specs.Figures.{figure_table, most_points, point_table}
use Rattle.rules.specs.Sets.{Point, Figure, plain, chain, lettering, placed, Symbol, Set, with_symbol, symbol_own, symbol_figures, symbol_hidden, symbol_order, range_of, define_range, symbol_name_of, known_of, wired, passed}
use Rattle.rules.specs.Machine.{in_element, top, defines, symbol, hide, figures, open_symbol, new_name}
use Rattle.rules.specs.LineByLine.{step_in}
use Rattle.rules.specs.FixedForm.{Text, opens_block, line_of, open_line, show_slots, show_value, show_slot, show_figure, show_figures, symbol_inner, exchanged, show_symbol, show_symbols, show_defines}
use Rattle.rules.specs.RecordTable.{rule_at}
use Rattle.rules.proofs.Chains.{and_left, and_right, or_true, clash, map-append, nil-map}
use Rattle.rules.proofs.Rows.{Row, here, there, row-all, row_at, reaches-none}
use Rattle.promises.specs.PlacesApart.{bare_value, bare_slots, bare_point, bare_figure, bare_symbol}
use Rattle.promises.proofs.Good.{Always, GoodSlots, GoodShape, GoodShapes, GoodPoints, GoodSymbol, GoodSymbols, GoodDefines, fresh, InSlot}
use Rattle.promises.proofs.BackSlots.{line_for, plain_env, close-form, retaken, Reads, one_line, no_lines, ◌and◌, act-entry, act-begin, entered, opened}
use Rattle.promises.proofs.BackFile.{sound, sound-differ, sound-plain}
use Rattle.promises.proofs.BackFigures.{taken_points, taken_figure, taken_figures, plain-line, read-chain, read-text, read-hidden}
use Rattle.promises.proofs.Bare.{chars-bare, marks-bare, name-bare}
use Rattle.promises.proofs.Nameless.{nameless, line_any}

figure-plain : all (λ r. nameless r.holds) figure_table ≡ true
unfolding figure_table
figure-plain = refl

-- ── the figures of a symbol ──
module _ (next : List ℕ) (k : Known) (S : Set) (y : Symbol) where
  read-shape : (n : ℕ) (fs : List Figure) (f : Figure) → GoodShape (range_of S) f
      → Reads next (figures (retaken n S) (in_element y) fs) (show_figure k false figure_table f) (figures (retaken (taken_figure n f) S) (in_element y) (fs ++ bare_figure f ∷ []))
  read-shape n fs (plain l j v) g =
      let q : rule_at figure_table j ≡ g.rule = row_at g.row (rule_at [] 0) in
      subst (λ (c : List ℕ). Reads next (figures (retaken n S) (in_element y) fs) (λ ls. c ∷ ls) (figures (retaken (n + 1) S) (in_element y) (fs ++ plain 0 j v ∷ [])))
      (line_any g.rule (row-all (λ r. nameless r.holds) g.row figure-plain) (known_of S) k (nums v) ∙ ap (λ (r : Rule). line_of k r (nums v)) (sym q))
      (one_line next (line_of (known_of S) g.rule (nums v)) (figures (retaken n S) (in_element y) fs) (figures (retaken (n + 1) S) (in_element y) (fs ++ plain 0 j v ∷ []))
      (plain-line next S n (in_element y) fs j v g.rule g.row (g.good (known_of S)) g.alone))
  read-shape n fs (chain l ps) g = read-chain next k S n (in_element y) fs ps g
  read-shape n fs (lettering l o) g = read-text next k S n (in_element y) fs o g
  read-shape n fs (placed l h) g = absurd g
  read-shape n fs (wired l w) g = absurd g
  read-shape n fs (passed l) g = absurd g

  read_shapes : (n : ℕ) (fs gs : List Figure) → GoodShapes (range_of S) gs
      → Reads next (figures (retaken n S) (in_element y) fs) (show_figures k false figure_table gs) (figures (retaken (taken_figures n gs) S) (in_element y) (fs ++ map bare_figure gs))
  read_shapes n fs [] g = rw (append-nil fs) (no_lines next (figures (retaken n S) (in_element y) fs))
  read_shapes n fs (f ∷ gs) g =
      read-shape n fs f g.0
      and rw (← append_assoc fs (bare_figure f ∷ []) (map bare_figure gs)) (read_shapes (taken_figure n f) (fs ++ bare_figure f ∷ []) gs g.1)

-- ── the lines of a symbol ──
symbol-sound : sound symbol_table ≡ true
unfolding symbol_table
symbol-sound = refl

close-figures : (next : List ℕ) (S : Set) (y : Symbol) (fs : List Figure) → is_nil fs ≡ false
    → step_in plain_env (line_for next false (bytes "}")) (figures S (in_element y) fs) ≡ got (symbol S (symbol_figures fs y))
unfolding figure_table
close-figures next S y fs e = rw (close-form, e)

close-hide : (next : List ℕ) (S : Set) (y : Symbol) (ps : List Point) → step_in plain_env (line_for next false (bytes "}")) (hide S y ps) ≡ got (symbol S (symbol_hidden ps y))
unfolding point_table
close-hide next S y ps = rw close-form

module _ (next : List ℕ) (k : Known) (S : Set) (Y : Symbol) (n : ℕ) (y : Symbol) (r : Rule) (v : Value) (g : Always (digits_of (define_range S)) r v) where
  abbrev having : ℕ → Symbol
  having i = symbol_own (set y.own i (Some (bare_value v))) y

  abbrev in_symbol : ℕ → Text → Text
  in_symbol = symbol_inner k Y

  symbol-entry : (i : ℕ) → Row symbol_table i r → get_or (rows_there y.own) i false ≡ false → opens_block r.holds v ≡ false → new_name S (having i) ≡ true
      → Reads next (symbol (retaken n S) y) (show_value k r v in_symbol) (symbol (retaken n S) (having i))
  symbol-entry i w m o new =
      entered next k in_symbol r v (symbol (retaken n S) y) (symbol (retaken n S) (having i)) o
      (rw (
        line_any r (row-all (λ r. nameless r.holds) w (sound-plain symbol_table symbol-sound)) k (known_of S) v,
        act-entry (known_of S) (digits_of (define_range S)) symbol_table i r v w (g (known_of S)) (sound-differ symbol_table symbol-sound) (rows_there y.own) m o,
        new,
      ))

  symbol-opens : (i : ℕ) → Row symbol_table i r → get_or (rows_there y.own) i false ≡ false → opens_block r.holds v ≡ true
      → step_in plain_env (line_for next false (line_of k r v)) (symbol (retaken n S) y) ≡ open_symbol (retaken n S) (having i) (inner_of r.holds)
  symbol-opens i w m o =
      rw (
        line_any r (row-all (λ r. nameless r.holds) w (sound-plain symbol_table symbol-sound)) k (known_of S) v,
        act-begin (known_of S) (digits_of (define_range S)) symbol_table i r v w (g (known_of S)) (sound-differ symbol_table symbol-sound) (rows_there y.own) m o,
      )

  symbol-element : Row symbol_table 1 r → get_or (rows_there y.own) 1 false ≡ false → opens_block r.holds v ≡ true → inner_of r.holds ≡ 1
      → GoodShapes (range_of S) Y.figures → is_nil Y.figures ≡ false
      → Reads next (symbol (retaken n S) y) (show_value k r v in_symbol) (symbol (retaken (taken_figures n Y.figures) S) (symbol_figures (map bare_figure Y.figures) (having 1)))
  symbol-element w m o i good some' =
      opened next k in_symbol r v (symbol (retaken n S) y) (figures (retaken n S) (in_element (having 1)) []) (symbol (retaken (taken_figures n Y.figures) S) (symbol_figures (map bare_figure Y.figures) (having 1))) o
      (symbol-opens 1 w m o ∙ ap (open_symbol (retaken n S) (having 1)) i)
      (rw i
      (read_shapes next k S (having 1) n [] Y.figures good
      and one_line next (bytes "}") (figures (retaken (taken_figures n Y.figures) S) (in_element (having 1)) (map bare_figure Y.figures))
      (symbol (retaken (taken_figures n Y.figures) S) (symbol_figures (map bare_figure Y.figures) (having 1)))
      (close-figures next (retaken (taken_figures n Y.figures) S) (having 1) (map bare_figure Y.figures) (nil-map bare_figure Y.figures ∙ some'))))

  abbrev ordered : Symbol
  ordered = symbol_order (is_none (get_or (having 2).own 1 None)) (having 2)

  symbol-hide : Row symbol_table 2 r → get_or (rows_there y.own) 2 false ≡ false → opens_block r.holds v ≡ true → inner_of r.holds ≡ 2 → GoodPoints false Y.hidden → leb (length Y.hidden) most_points ≡ true
      → Reads next (symbol (retaken n S) y) (show_value k r v in_symbol) (symbol (retaken (taken_points n Y.hidden) S) (symbol_hidden (map bare_point Y.hidden) ordered))
  symbol-hide w m o i good few =
      opened next k in_symbol r v (symbol (retaken n S) y) (hide (retaken n S) ordered []) (symbol (retaken (taken_points n Y.hidden) S) (symbol_hidden (map bare_point Y.hidden) ordered)) o
      (symbol-opens 2 w m o ∙ ap (open_symbol (retaken n S) (having 2)) i)
      (rw i
      (read-hidden next k S ordered n Y.hidden good few
      and one_line next (bytes "}") (hide (retaken (taken_points n Y.hidden) S) ordered (map bare_point Y.hidden)) (symbol (retaken (taken_points n Y.hidden) S) (symbol_hidden (map bare_point Y.hidden) ordered))
      (close-hide next (retaken (taken_points n Y.hidden) S) ordered (map bare_point Y.hidden))))

-- ── a symbol: name, `element`, `hide` in the order written, `wall` ──
-- a slot that must be there, and what stands behind it
take-needed : (P : Rule → Value → Type 0) (d : Digits) (r : Rule) (t : List Rule) (s : Slots) → GoodSlots P (r ∷ t) s → complete d (r ∷ t) (rows_there s) ≡ true → (r.must && reaches d r.least) ≡ true
    → (v : Value) × (u : Slots) × (s ≡ Some v ∷ u) × P r v × GoodSlots P t u × (complete d t (rows_there u) ≡ true)
take-needed P d r t [] g c e = absurd g
take-needed P d r t (None ∷ s) g c e = absurd (go r.must (reaches d r.least) e (and_left (present d r false) _ c))
  where
    go : (a b : Bool) → (a && b) ≡ true → (not a || (not b || false)) ≡ true → ⊥
    go true true e f = clash f refl
    go true false e f = clash e refl
    go false b e f = clash e refl
take-needed P d r t (Some v ∷ s) g c e = (v, s, refl, g.0, g.1, and_right (present d r true) _ c)

take_last : (P : Rule → Value → Type 0) (r : Rule) (s : Slots) → GoodSlots P (r ∷ []) s → (o : Option Value) × (s ≡ o ∷ []) × InSlot P r o
take_last P r [] g = absurd g
take_last P r (None ∷ []) g = (None, refl, tt)
take_last P r (None ∷ o ∷ s) g = absurd g
take_last P r (Some v ∷ []) g = (Some v, refl, g.0)
take_last P r (Some v ∷ o ∷ s) g = absurd g.1

abbrev taken_inner : Bool → ℕ → List Figure → List Point → ℕ
taken_inner false n fs ps = taken_points (taken_figures n fs) ps
taken_inner true n fs ps = taken_figures (taken_points n ps) fs

abbrev symbol_of : Slots → List Figure → List Point → Bool → Symbol
symbol_of own fs ps b = record { line = 0; own = own; figures = fs; hidden = ps; hide_first = b }

abbrev rule_of : ℕ → Rule
rule_of i = rule_at symbol_table i

module _ (next : List ℕ) (k : Known) (S : Set) (Y : Symbol) (n : ℕ) (shown : GoodShapes (range_of S) Y.figures) (some-shown : is_nil Y.figures ≡ false)
    (hidden : GoodPoints false Y.hidden) (few : leb (length Y.hidden) most_points ≡ true) where
  abbrev Good : Rule → Value → Type 0
  Good = Always (digits_of (define_range S))

  abbrev fs : List Figure
  fs = map bare_figure Y.figures

  abbrev ps : List Point
  ps = map bare_point Y.hidden

  new-name : (y : Symbol) (c : List ℕ) → symbol_name_of y ≡ c → not (among c (known_of S).symbols) ≡ true → new_name S y ≡ true
  new-name y c e h = rw (e, h) (or_true (is_nil c))

  module _ (a b c : Value) (w : Option Value) (ga : Good (rule_of 0) a) (gb : Good (rule_of 1) b) (gc : Good (rule_of 2) c) (gw : InSlot Good (rule_of 3) w)
      (new : not (among (chars_of a) (known_of S).symbols) ≡ true) where
    abbrev va : Option Value
    va = Some (bare_value a)

    abbrev vb : Option Value
    vb = Some (bare_value b)

    abbrev vc : Option Value
    vc = Some (bare_value c)

    read_name : Reads next (symbol (retaken n S) (symbol_of (blank symbol_table) [] [] false)) (show_value k (rule_of 0) a (symbol_inner k Y)) (symbol (retaken n S) (symbol_of (va ∷ None ∷ None ∷ None ∷ []) [] [] false))
    unfolding symbol_table
    read_name =
        symbol-entry next k S Y n (symbol_of (blank symbol_table) [] [] false) (rule_of 0) a ga 0 here refl refl
        (new-name (symbol_of (va ∷ None ∷ None ∷ None ∷ []) [] [] false) (chars_of a) (chars-bare a) new)

    read-wall : (m : ℕ) (w : Option Value) → InSlot Good (rule_of 3) w → (h : Bool)
        → Reads next (symbol (retaken m S) (symbol_of (va ∷ vb ∷ vc ∷ None ∷ []) fs ps h)) (show_slot k (rule_of 3) w (symbol_inner k Y)) (symbol (retaken m S) (symbol_of (va ∷ vb ∷ vc ∷ bare_slots (w ∷ [])) fs ps h))
    unfolding symbol_table
    read-wall m None g h = no_lines next (symbol (retaken m S) (symbol_of (va ∷ vb ∷ vc ∷ None ∷ []) fs ps h))
    read-wall m (Some v) g h =
        symbol-entry next k S Y m (symbol_of (va ∷ vb ∷ vc ∷ None ∷ []) fs ps h) (rule_of 3) v g 3 (there (there (there here))) refl refl
        (new-name (symbol_of (va ∷ vb ∷ vc ∷ Some (bare_value v) ∷ []) fs ps h) (chars_of a) (chars-bare a) new)

    read-symbol-slots : (b' : Bool)
        → Reads next (symbol (retaken n S) (symbol_of (blank symbol_table) [] [] false)) (show_slots k (exchanged b' symbol_table) (exchanged b' (Some a ∷ Some b ∷ Some c ∷ w ∷ [])) (symbol_inner k Y))
        (symbol (retaken (taken_inner b' n Y.figures Y.hidden) S) (symbol_of (bare_slots (Some a ∷ Some b ∷ Some c ∷ w ∷ [])) fs ps b'))
    unfolding symbol_table
    read-symbol-slots false =
        read_name
        and symbol-element next k S Y n (symbol_of (va ∷ None ∷ None ∷ None ∷ []) [] [] false) (rule_of 1) b gb (there here) refl refl refl shown some-shown
        and symbol-hide next k S Y (taken_figures n Y.figures) (symbol_of (va ∷ vb ∷ None ∷ None ∷ []) fs [] false) (rule_of 2) c gc (there (there here)) refl refl refl hidden few
        and read-wall (taken_points (taken_figures n Y.figures) Y.hidden) w gw false
    read-symbol-slots true =
        read_name
        and symbol-hide next k S Y n (symbol_of (va ∷ None ∷ None ∷ None ∷ []) [] [] false) (rule_of 2) c gc (there (there here)) refl refl refl hidden few
        and symbol-element next k S Y (taken_points n Y.hidden) (symbol_of (va ∷ None ∷ vc ∷ None ∷ []) [] ps true) (rule_of 1) b gb (there here) refl refl refl shown some-shown
        and read-wall (taken_figures (taken_points n Y.hidden) Y.figures) w gw true

-- the slots of a symbol: only `wall` may be missing
record SymbolSlots (P : Rule → Value → Type 0) (own : Slots) : Type 0 where
  name : Value
  element : Value
  hide : Value
  wall : Option Value
  is : own ≡ Some name ∷ Some element ∷ Some hide ∷ wall ∷ []
  name-good : P (rule_at symbol_table 0) name
  element-good : P (rule_at symbol_table 1) element
  hide-good : P (rule_at symbol_table 2) hide
  wall-good : InSlot P (rule_at symbol_table 3) wall

four : (own s₀ s₁ s₂ : Slots) (a b c o : Option Value) → own ≡ a ∷ s₀ → s₀ ≡ b ∷ s₁ → s₁ ≡ c ∷ s₂ → s₂ ≡ o ∷ [] → own ≡ a ∷ b ∷ c ∷ o ∷ []
four own s₀ s₁ s₂ a b c o e₀ e₁ e₂ e₃ = rw (e₀, e₁, e₂, e₃)

symbol-slots : (P : Rule → Value → Type 0) (d : Digits) (own : Slots) → GoodSlots P symbol_table own → complete d symbol_table (rows_there own) ≡ true → SymbolSlots P own
unfolding symbol_table
symbol-slots P d own g c =
    let (v₀, s₀, e₀, g₀, h₀, c₀) = take-needed P d (rule_of 0) (rule_of 1 ∷ rule_of 2 ∷ rule_of 3 ∷ []) own g c (reaches-none d) in
    let (v₁, s₁, e₁, g₁, h₁, c₁) = take-needed P d (rule_of 1) (rule_of 2 ∷ rule_of 3 ∷ []) s₀ h₀ c₀ (reaches-none d) in
    let (v₂, s₂, e₂, g₂, h₂, c₂) = take-needed P d (rule_of 2) (rule_of 3 ∷ []) s₁ h₁ c₁ (reaches-none d) in
    let (o, e₃, g₃) = take_last P (rule_of 3) s₂ h₂ in
    record {
      name = v₀;
      element = v₁;
      hide = v₂;
      wall = o;
      is = four own s₀ s₁ s₂ (Some v₀) (Some v₁) (Some v₂) o e₀ e₁ e₂ e₃;
      name-good = g₀;
      element-good = g₁;
      hide-good = g₂;
      wall-good = g₃;
    }

symbol-name : (P : Rule → Value → Type 0) (y : Symbol) (x : SymbolSlots P y.own) → symbol_name_of y ≡ chars_of x.name
unfolding symbol_table
symbol-name P y x = ap (λ (u : Slots). chars_of (slot_value (get_or u 0 None))) x.is

opens_define : (next : List ℕ) (S : Set) (n : ℕ) → reaches (digits_of (define_range S)) (digits 0 1) ≡ true
    → step_in plain_env (line_for next false (open_line (bytes "E_symbol"))) (defines (retaken n S) false) ≡ got (symbol (retaken (n + 1) S) (symbol_of (blank symbol_table) [] [] false))
unfolding form_of defines_table
opens_define next S n e = rw e

abbrev pub taken_symbol : ℕ → Symbol → ℕ
taken_symbol n y = taken_inner y.hide_first (n + 1) y.figures y.hidden

abbrev pub taken_symbols : ℕ → List Symbol → ℕ
taken_symbols n [] = n
taken_symbols n (y ∷ ys) = taken_symbols (taken_symbol n y) ys

read-symbol : (next : List ℕ) (k : Known) (S : Set) (n : ℕ) (Y : Symbol) → GoodSymbol (define_range S) (range_of S) Y → not (among (symbol_name_of Y) (known_of S).symbols) ≡ true
    → reaches (digits_of (define_range S)) (digits 0 1) ≡ true
    → Reads next (defines (retaken n S) false) (show_symbol k Y) (defines (retaken (taken_symbol n Y) (with_symbol (bare_symbol Y) S)) false)
read-symbol next k S n Y g new level =
    one_line next (open_line (bytes "E_symbol")) (defines (retaken n S) false) (symbol (retaken (n + 1) S) (symbol_of (blank symbol_table) [] [] false)) (opens_define next S n level)
    and inside
    and one_line next (bytes "}") (symbol (retaken (taken_symbol n Y) S) (bare_symbol Y)) (defines (retaken (taken_symbol n Y) (with_symbol (bare_symbol Y) S)) false)
    (rw (close-form, marks-bare Y.own, g.own-good.all))
  where
    slots : SymbolSlots (Always (digits_of (define_range S))) Y.own
    slots = symbol-slots (Always (digits_of (define_range S))) (digits_of (define_range S)) Y.own g.own-good.good g.own-good.all

    inside : Reads next (symbol (retaken (n + 1) S) (symbol_of (blank symbol_table) [] [] false)) (show_slots k (exchanged Y.hide_first symbol_table) (exchanged Y.hide_first Y.own) (symbol_inner k Y))
        (symbol (retaken (taken_symbol n Y) S) (bare_symbol Y))
    inside =
        subst (λ (o : Slots). Reads next (symbol (retaken (n + 1) S) (symbol_of (blank symbol_table) [] [] false)) (show_slots k (exchanged Y.hide_first symbol_table) (exchanged Y.hide_first o) (symbol_inner k Y))
        (symbol (retaken (taken_symbol n Y) S) (symbol_of (bare_slots o) (map bare_figure Y.figures) (map bare_point Y.hidden) Y.hide_first)))
        (sym slots.is)
        (read-symbol-slots next k S Y (n + 1) g.shown g.some-shown g.hidden g.few-hidden slots.name slots.element slots.hide slots.wall slots.name-good slots.element-good
        slots.hide-good slots.wall-good (rw (symbol-name (Always (digits_of (define_range S))) Y slots) at new) Y.hide_first)

-- ── SYMBOL_DEFINE ──
abbrev pub with_symbols : List Symbol → Set → Set
with_symbols ys s = record { drawing = s.drawing; symbols = s.symbols ++ ys; volumes = s.volumes; now = s.now; taken = s.taken }

read-symbols : (next : List ℕ) (k : Known) (S : Set) (n : ℕ) (ys : List Symbol) → GoodSymbols (define_range S) (range_of S) ys
    → fresh (map symbol_name_of S.symbols) (map symbol_name_of ys) ≡ true → (is_nil ys || reaches (digits_of (define_range S)) (digits 0 1)) ≡ true
    → Reads next (defines (retaken n S) false) (show_symbols k ys) (defines (retaken (taken_symbols n ys) (with_symbols (map bare_symbol ys) S)) false)
read-symbols next k S n [] g f e = rw (append-nil S.symbols) (no_lines next (defines (retaken n S) false))
read-symbols next k S n (y ∷ ys) g f e =
    read-symbol next k S n y g.0 (and_left (not (among (symbol_name_of y) (map symbol_name_of S.symbols))) _ f) e
    and rw (← append_assoc S.symbols (bare_symbol y ∷ []) (map bare_symbol ys))
    (read-symbols next k (with_symbol (bare_symbol y) S) (taken_symbol n y) ys g.1
    (rw (map-append symbol_name_of S.symbols (bare_symbol y ∷ []), name-bare y) (and_right (not (among (symbol_name_of y) (map symbol_name_of S.symbols))) _ f)) (rw e (or_true (is_nil ys))))

non-line : (next : List ℕ) (S : Set) → is_nil S.symbols ≡ true → step_in plain_env (line_for next false (bytes "NON=")) (defines S false) ≡ got (defines S true)
unfolding form_of defines_table
non-line next S e = rw (reaches-none (digits_of (define_range S)), e)

close-defines : (next : List ℕ) (S : Set) (b : Bool) → (b || not (is_nil S.symbols)) ≡ true → step_in plain_env (line_for next false (bytes "}")) (defines S b) ≡ got (top S 3)
unfolding defines_table
close-defines next S b e = rw (close-form, e)

pub read-defines : (next : List ℕ) (k : Known) (S : Set) (n : ℕ) (ys : List Symbol) → is_nil S.symbols ≡ true → GoodDefines (define_range S) (range_of S) ys
    → Reads next (defines (retaken n S) false) (λ ls. show_defines k ys (bytes "}" ∷ ls)) (top (retaken (taken_symbols n ys) (with_symbols (map bare_symbol ys) S)) 3)
read-defines next k S n [] z g =
    rw (append-nil S.symbols)
    (one_line next (bytes "NON=") (defines (retaken n S) false) (defines (retaken n S) true) (non-line next (retaken n S) z)
    and one_line next (bytes "}") (defines (retaken n S) true) (top (retaken n S) 3) (close-defines next (retaken n S) true refl))
read-defines next k S n (y ∷ ys) z g =
    let T = retaken (taken_symbols n (y ∷ ys)) (with_symbols (map bare_symbol (y ∷ ys)) S) in
    read-symbols next k S n (y ∷ ys) g.0 (subst (λ (u : List (List ℕ)). fresh u (map symbol_name_of (y ∷ ys)) ≡ true) (nil S.symbols z) g.1) g.2
    and one_line next (bytes "}") (defines T false) (top T 3) (close-defines next T false (some' S.symbols))
  where
    nil : (s : List Symbol) → is_nil s ≡ true → [] ≡ map symbol_name_of s
    nil [] e = refl
    nil (x ∷ s) e = clash e refl

    some' : (s : List Symbol) → not (is_nil (s ++ map bare_symbol (y ∷ ys))) ≡ true
    some' [] = refl
    some' (x ∷ s) = refl
