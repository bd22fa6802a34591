-- The rows `serial` of placed symbols and of wires, and what their records show of them: own numbers, and the partners of wires.
use Rattle.std.specs.Prelude.{Option, Some, None}
use Prim.Native.Nat.{ℕ, zero, suc, ◌<◌}
use mathlib.Core.Bool.{Bool, true, false, cond, ◌||◌}
use mathlib.Core.List.{List, [], ◌∷◌, ◌++◌, map, append-nil}
use mathlib.Core.Path.{◌≡◌, refl, sym, ◌∙◌, ap, ap₂, subst}
use native.Mathlib.Omega.{arith}
use lib.Dec.{eqb}
use lib.IntN.{ℤ, pos}
use lib.ListN.{get_or, take, drop}
use borrow.Author.Tests.{not-true, ne_eqb}
use Rattle.rules.specs.declared.Digits.{Digits}
use Rattle.rules.specs.declared.Class.{Class}
use Rattle.rules.specs.Base.{flat, within}
use Rattle.rules.specs.RangeClass.{digits, reaches, hides, knows_serials}
use Rattle.rules.specs.Values.{Num, Value, empty, nums, chars, linked}
use Rattle.rules.specs.Rows.{Held, part_of}
use Rattle.rules.specs.Figures.{text_table, placed_table, wire_table}
use Rattle.rules.specs.Sets.{Edge, Wire, wired, passed, Set, wire_range, wires_of}
use Rattle.rules.specs.RecordTable.{View, view_of, first_or0, numbers_of, state_of, mark_unread, placed_record, wire_start, unread_numbers, edge_record, edge_records, figure_records}
use Rattle.rules.proofs.Chains.{and_false, clash}
use Rattle.promises.specs.PlacesApart.{kind_of}
use Rattle.promises.specs.TableTexts.{number_at, amount_of}
use Rattle.promises.specs.OwnNumbers.{own_number, first_of}
use Rattle.promises.specs.Partners.{given_at, partners_of, end_at, ends_of}
use Rattle.promises.proofs.Distinct.{or_false}
use Rattle.promises.proofs.FitSets.{Each}
use Rattle.promises.proofs.FigureState.{IsSerial, KnownSlot, EdgeRow, SymbolSlot, SoundWire}
use Rattle.promises.proofs.OnWires.{IsNums}
use Rattle.promises.proofs.ShownNumbers.{is_other, Shown}
use Rattle.promises.proofs.WireRecords.{slot_at, past_numbers, amount-at, both, unknown, wire-shows, skip-shows}

-- ── kinds ──
pub other-kinds : (k : ℕ) → is_other k ≡ true → (eqb k 16 ≡ false) × (within 18 21 k ≡ false)
other-kinds k e = or_false (eqb k 16) (within 18 21 k) (not-true (eqb k 16 || within 18 21 k) e)

pub not-kind : (k m : ℕ) → within 18 21 m ≡ true → within 18 21 k ≡ false → eqb k m ≡ false
not-kind k m p q = ne_eqb k m (λ z. clash p (ap (within 18 21) (sym z) ∙ q))

-- what a record of a kind shows
own-none : (r : List ℤ) (k : ℕ) → kind_of r ≡ k → eqb k 16 ≡ false → eqb k 19 ≡ false → own_number r ≡ []
own-none r k e p q = rw (e, p, q)

own-more : (r : List ℤ) → kind_of r ≡ 19 → own_number r ≡ cond (eqb (amount_of (number_at r 29)) 2) (amount_of (number_at r 21) ∷ []) []
own-more r e = rw e

ends-none : (r : List ℤ) (k : ℕ) → kind_of r ≡ k → eqb k 19 ≡ false → ends_of r ≡ []
ends-none r k e q = rw (e, q)

ends_more : (r : List ℤ) → kind_of r ≡ 19 → ends_of r ≡ cond (eqb (amount_of (number_at r 29)) 2) (end_at r 22 ++ end_at r 24) []
ends_more r e = rw e

pub own-quiet : (r : List ℤ) → is_other (kind_of r) ≡ true → own_number r ≡ []
own-quiet r e = let w = other-kinds (kind_of r) e in own-none r (kind_of r) refl w.0 (not-kind (kind_of r) 19 refl w.1)

pub ends-quiet : (r : List ℤ) → is_other (kind_of r) ≡ true → ends_of r ≡ []
ends-quiet r e = ends-none r (kind_of r) refl (not-kind (kind_of r) 19 refl (other-kinds (kind_of r) e).1)

-- ── a slot, by whether the class does not know it ──
abbrev shown_of : Bool → Option Value → List ℕ
shown_of hidden o = cond (eqb (amount_of (cond hidden (pos 3) (state_of o))) 2) (amount_of (first_or0 (numbers_of o)) ∷ []) []

-- a class that knows it hides none
known-shown : (c d : Digits) → knows_serials c ≡ true → hides c d (digits 1 0) ≡ false
known-shown c d e = rw e (and_false (reaches d (digits 1 0)))

symbol-slot : (hidden known : Bool) (o : Option Value) → (known ≡ true → hidden ≡ false) → KnownSlot known IsSerial o → shown_of hidden o ≡ first_of o
symbol-slot true known None h g = refl
symbol-slot false known None h g = refl
symbol-slot hidden known (Some empty) h g = rw (h g.0)
symbol-slot hidden known (Some (nums v)) h g = absurd g.1
symbol-slot hidden known (Some (chars at c)) h g = absurd g.1
symbol-slot hidden known (Some (linked n ps)) h g = rw (h g.0)

wire-slot : (hidden known : Bool) (o : Option Value) → (known ≡ true → hidden ≡ false) → KnownSlot known IsNums o → shown_of hidden o ≡ first_of o
wire-slot true known None h g = refl
wire-slot false known None h g = refl
wire-slot hidden known (Some empty) h g = absurd g.1
wire-slot hidden known (Some (nums v)) h g = rw (h g.0) (ap (λ (n : ℕ). n ∷ []) (amount-at 0 v))
wire-slot hidden known (Some (chars at c)) h g = absurd g.1
wire-slot hidden known (Some (linked n ps)) h g = absurd g.1

-- the number of an end, by its state
abbrev end_of : ℤ → ℤ → List ℕ
end_of a b = cond (eqb (amount_of a) 2) (amount_of b ∷ []) []

abbrev ends_in : List ℤ → List ℕ
ends_in zs = end_of (first_or0 (past_numbers 1 zs)) (first_or0 (past_numbers 2 zs)) ++ end_of (first_or0 (past_numbers 3 zs)) (first_or0 (past_numbers 4 zs))

abbrev ends_shown : Bool → Option Value → List ℕ
ends_shown hidden o = cond (eqb (amount_of (cond hidden (pos 3) (state_of o))) 2) (ends_in (numbers_of o)) []

wire-ends : (hidden known : Bool) (o : Option Value) → (known ≡ true → hidden ≡ false) → KnownSlot known IsNums o → ends_shown hidden o ≡ partners_of o
wire-ends true known None h g = refl
wire-ends false known None h g = refl
wire-ends hidden known (Some empty) h g = absurd g.1
wire-ends hidden known (Some (nums v)) h g = rw (h g.0) (ap₂ ◌++◌ (one 1) (one 3))
  where
    one : (i : ℕ) → end_of (first_or0 (past_numbers i (map (λ n. n.value) v))) (first_or0 (past_numbers (suc i) (map (λ n. n.value) v))) ≡ given_at v i
    one i = rw (amount-at i v, amount-at (suc i) v)
wire-ends hidden known (Some (chars at c)) h g = absurd g.1
wire-ends hidden known (Some (linked n ps)) h g = absurd g.1

-- ── what is taken of symbols and of wires ──
abbrev pub symbol_first : Held → List ℕ
symbol_first h = first_of (get_or (part_of h 0) 5 None)

abbrev pub wire_first : Wire → List ℕ
wire_first w = first_of (get_or w.own 9 None)

abbrev pub no_ends : Held → List ℕ
no_ends h = []

abbrev pub wire_ends : Wire → List ℕ
wire_ends w = partners_of (get_or w.own 9 None)

-- ── a placed symbol ──
module _ (c : Class) (s : Set) where
  abbrev view : View
  view = view_of c s

  symbol-own : (owner volume n : ℕ) (h : Held) → SymbolSlot c h → own_number (placed_record view 0 owner volume n h) ≡ first_of (get_or (part_of h 0) 5 None)
  unfolding placed_table text_table
  symbol-own owner volume n h g =
      let hidden = hides c.symbols view.symbols (digits 1 0) in
      subst (λ (q : Option Value). shown_of hidden q ≡ first_of (get_or (part_of h 0) 5 None)) (sym (slot_at 5 (part_of h 0)))
      (symbol-slot hidden (knows_serials c.symbols) (get_or (part_of h 0) 5 None) (known-shown c.symbols view.symbols) g)

  single-own : (owner volume n : ℕ) (v : List Num) → own_number (placed_record view 0 owner volume n ((Some (nums v) ∷ []) ∷ [])) ≡ []
  unfolding placed_table
  single-own owner volume n v = symbol-own owner volume n ((Some (nums v) ∷ []) ∷ []) tt

  pub symbol-kind : (owner volume n : ℕ) (h : Held) → kind_of (placed_record view 0 owner volume n h) ≡ 16
  unfolding placed_table text_table
  symbol-kind owner volume n h = refl

  -- ── a wire ──
  edge-kind : (owner volume n row : ℕ) (v : List Num) (j : ℕ) → row < 2 → (k : ℕ) × (kind_of (edge_record owner volume (record { line = n; row = row; values = v; join = j })) ≡ k) × (eqb k 16 ≡ false) × (eqb k 19 ≡ false)
  unfolding wire_table
  edge-kind owner volume n zero v j h = (20, refl, refl, refl)
  edge-kind owner volume n (suc zero) v j h = (21, refl, refl, refl)
  edge-kind owner volume n (suc (suc row)) v j h = absurd (omega arith)

  edges-own : (owner volume : ℕ) (es : List Edge) → Each EdgeRow es → flat (map own_number (edge_records owner volume es)) ≡ []
  edges-own owner volume [] h = refl
  edges-own owner volume (e ∷ es) h =
      let (k, is, p, q) = edge-kind owner volume e.line e.row e.values e.join h.0 in
      ap₂ ◌++◌ (own-none (edge_record owner volume e) k is p q) (edges-own owner volume es h.1)

  edges-ends : (owner volume : ℕ) (es : List Edge) → Each EdgeRow es → flat (map ends_of (edge_records owner volume es)) ≡ []
  edges-ends owner volume [] h = refl
  edges-ends owner volume (e ∷ es) h =
      let (k, is, p, q) = edge-kind owner volume e.line e.row e.values e.join h.0 in
      ap₂ ◌++◌ (ends-none (edge_record owner volume e) k is q) (edges-ends owner volume es h.1)

  -- its own two records, and those of its elements behind them
  two_show : {X : Type 0} (own more elements shown : List X) → own ≡ [] → more ≡ shown → elements ≡ [] → own ++ (more ++ elements) ≡ shown
  two_show own more elements shown p q r = ap₂ ◌++◌ p (ap₂ ◌++◌ q r) ∙ append-nil shown

  wire-own : (owner volume n : ℕ) (w : Wire) → SoundWire c (wire_range s) w → flat (map own_number (figure_records view 0 owner volume (wired n w))) ≡ first_of (get_or w.own 9 None)
  wire-own owner volume n w i =
      let r = wire-shows view w owner volume n in
      let own = take 32 (both view w owner volume n) in
      let more = drop 32 (both view w owner volume n) in
      two_show (own_number own) (own_number more) (flat (map own_number (edge_records owner volume w.elements))) (first_of (get_or w.own 9 None)) (own-none own 18 r.kind refl refl)
      (own-more more r.kind_too ∙ ap₂ (λ (a b : ℤ). cond (eqb (amount_of a) 2) (amount_of b ∷ []) []) r.state r.serial
      ∙ wire-slot (unknown view w owner volume n) (knows_serials c.wires) (get_or w.own 9 None) (known-shown c.wires (wires_of s)) i.serial)
      (edges-own owner volume w.elements i.rows)

  wire-ends-shown : (owner volume n : ℕ) (w : Wire) → SoundWire c (wire_range s) w → flat (map ends_of (figure_records view 0 owner volume (wired n w))) ≡ partners_of (get_or w.own 9 None)
  wire-ends-shown owner volume n w i =
      let r = wire-shows view w owner volume n in
      let ends = ap₂ ◌++◌ (ap₂ end_of r.start r.start_too) (ap₂ end_of r.end r.end_too) in
      let own = take 32 (both view w owner volume n) in
      let more = drop 32 (both view w owner volume n) in
      two_show (ends_of own) (ends_of more) (flat (map ends_of (edge_records owner volume w.elements))) (partners_of (get_or w.own 9 None)) (ends-none own 18 r.kind refl)
      (ends_more more r.kind_too ∙ ap₂ (λ (a : ℤ) (ns : List ℕ). cond (eqb (amount_of a) 2) ns []) r.state ends
      ∙ wire-ends (unknown view w owner volume n) (knows_serials c.wires) (get_or w.own 9 None) (known-shown c.wires (wires_of s)) i.serial)
      (edges-ends owner volume w.elements i.rows)

  -- ── one that was skipped ──
  not-given : {X : Type 0} (hidden : Bool) (z : ℤ) (x : List X) → z ≡ cond hidden (pos 3) (pos 0) → cond (eqb (amount_of z) 2) x [] ≡ []
  not-given true z x e = rw e
  not-given false z x e = rw e

  abbrev unread_two : ℕ → ℕ → ℕ → List ℤ
  unread_two owner volume n = unread_numbers (mark_unread (digits 0 0) (wires_of s) wire_table (wire_start owner volume n))

  skip-own : (owner volume n : ℕ) → flat (map own_number (figure_records view 0 owner volume (passed n))) ≡ []
  skip-own owner volume n =
      let r = skip-shows view owner volume n in
      let own = take 32 (unread_two owner volume n) in
      let more = drop 32 (unread_two owner volume n) in
      two_show (own_number own) (own_number more) [] [] (own-none own 18 r.kind refl refl)
      (own-more more r.kind_too ∙ not-given r.hidden (number_at more 29) (amount_of (number_at more 21) ∷ []) r.state) refl

  skip-ends : (owner volume n : ℕ) → flat (map ends_of (figure_records view 0 owner volume (passed n))) ≡ []
  skip-ends owner volume n =
      let r = skip-shows view owner volume n in
      let own = take 32 (unread_two owner volume n) in
      let more = drop 32 (unread_two owner volume n) in
      two_show (ends_of own) (ends_of more) [] [] (ends-none own 18 r.kind refl)
      (ends_more more r.kind_too ∙ not-given r.hidden (number_at more 29) (end_at more 22 ++ end_at more 24) r.state) refl

  pub own-shown : Shown own_number own-quiet symbol_first wire_first c s
  own-shown = record {
    symbols = symbol-own;
    single = single-own;
    wires = λ owner volume n w i. record { are = wire-own owner volume n w i };
    skipped = λ owner volume n. record { are = skip-own owner volume n };
  }

  pub ends-shown : Shown ends_of ends-quiet no_ends wire_ends c s
  ends-shown = record {
    symbols = λ owner volume n h g. ends-none (placed_record view 0 owner volume n h) 16 (symbol-kind owner volume n h) refl;
    single = λ owner volume n v. ends-none (placed_record view 0 owner volume n ((Some (nums v) ∷ []) ∷ [])) 16 (symbol-kind owner volume n ((Some (nums v) ∷ []) ∷ [])) refl;
    wires = λ owner volume n w i. record { are = wire-ends-shown owner volume n w i };
    skipped = λ owner volume n. record { are = skip-ends owner volume n };
  }
