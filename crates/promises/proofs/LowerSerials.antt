-- Own serial numbers: the lower class has read no other ones than the higher. Partners: where the lower tests them, both have read the same.
use Rattle.std.specs.Prelude.{Option, Some, None}
use Prim.Native.Nat.{ℕ}
use mathlib.Core.Bool.{Bool, true, false, cond, ◌&&◌, ◌||◌, not}
use mathlib.Core.List.{List, [], ◌∷◌, ◌++◌, map}
use mathlib.Core.Path.{◌≡◌, refl, ◌∙◌, ap, ap₂}
use lib.Dec.{eqb}
use lib.ListN.{get_or, drop}
use borrow.Author.Tests.{not-true}
use Rattle.rules.specs.declared.Digits.{Digits}
use Rattle.rules.specs.declared.Class.{Class}
use Rattle.rules.specs.Base.{all, flat, has_number}
use Rattle.rules.specs.RefusalNumbers.{got}
use Rattle.rules.specs.RangeClass.{digits, hides, knows_wires, knows_serials}
use Rattle.rules.specs.Values.{Value, serials_of}
use Rattle.rules.specs.Rows.{Held, part_of, slot_value, held}
use Rattle.rules.specs.Figures.{placed_table, wire_table, wire_serial_row}
use Rattle.rules.specs.Sets.{Wire, Figure, plain, chain, lettering, placed, wired, passed, LayerBlock, Contents, Set, range_of, wires_of, own_serial, own_number, figure_serial, figure_partners, wire_partners, serials_of_block, serials_of_volume, serials_in}
use Rattle.rules.specs.VolumesAndTotals.{counted_all, layers_used, partners_exist}
use Rattle.rules.specs.Machine.{Line, unlimited, State, tests_partners, at_eof}
use Rattle.rules.specs.PlacedSymbol.{none_of, numbers_so_far, new_serial}
use Rattle.rules.specs.Wires.{new_number}
use Rattle.rules.proofs.Chains.{and_left, and_right, and_true, or_true, clash, on-got, map_compose, map_same}
use Rattle.rules.proofs.Rows.{here, there}
use Rattle.promises.specs.DemandThree.{ClassNotAbove}
use Rattle.promises.proofs.OnEof.{on-eof}
use Rattle.promises.proofs.Lower.{reaches-up, known-shows, lower_held, lower_read, ranges_of, lower_figure, lower_figures, lower_block, lower_contents, lower_in, lower_set, lower, mask_at, part-own, file-same, totals-same, all-used-same}

-- ── own serial numbers: the lower class has read no other ones ──
abbrev Sub : List ℕ → List ℕ → Type 0
Sub a b = (n : ℕ) → has_number n a ≡ true → has_number n b ≡ true

has-append : (n : ℕ) (a b : List ℕ) → has_number n (a ++ b) ≡ (has_number n a || has_number n b)
has-append n [] b = refl
has-append n (m ∷ a) b = go (eqb n m) (has-append n a b)
  where
    go : (t : Bool) → has_number n (a ++ b) ≡ (has_number n a || has_number n b) → (t || has_number n (a ++ b)) ≡ (t || has_number n a || has_number n b)
    go true e = refl
    go false e = e

sub-append : (a b a' b' : List ℕ) → Sub a b → Sub a' b' → Sub (a ++ a') (b ++ b')
sub-append a b a' b' f g n e = rw (has-append n b b') (go (has_number n a) refl (rw (has-append n a a') at e))
  where
    go : (t : Bool) → has_number n a ≡ t → (t || has_number n a') ≡ true → (has_number n b || has_number n b') ≡ true
    go true p q = rw (f n p)
    go false p q = rw (g n q) (or_true (has_number n b))

sub-flat : {A : Type 0} (f g : A → List ℕ) → ((a : A) → Sub (f a) (g a)) → (s : List A) → Sub (flat (map f s)) (flat (map g s))
sub-flat f g h [] n e = e
sub-flat f g h (a ∷ s) n e = sub-append (f a) (g a) (flat (map f s)) (flat (map g s)) (h a) (sub-flat f g h s) n e

none_sub : (ns a b : List ℕ) → Sub a b → none_of ns b ≡ true → none_of ns a ≡ true
none_sub [] a b f e = refl
none_sub (n ∷ ns) a b f e = and_true _ _ (go (has_number n a) refl) (none_sub ns a b f (and_right (not (has_number n b)) _ e))
  where
    go : (t : Bool) → has_number n a ≡ t → not t ≡ true
    go false p = refl
    go true p = clash (f n p) (not-true (has_number n b) (and_left (not (has_number n b)) _ e))

-- ── the serial's row, of a placed symbol and of a wire ──
abbrev serial_least : Digits
serial_least = digits 1 0

module _ (c d : Digits) where
  placed-serial : (h : Held) → held "serial" placed_table (part_of (lower_held c d h) 0) ≡ cond (hides c d serial_least) None (held "serial" placed_table (part_of h 0))
  unfolding placed_table
  placed-serial h = rw (part-own c d h) (mask_at None c d {t = placed_table} (there (there (there (there (there here))))) (part_of h 0))

  wire-serial : (w : Wire) → get_or (lower_read c d w).own wire_serial_row None ≡ cond (hides c d serial_least) None (get_or w.own wire_serial_row None)
  unfolding wire_table
  wire-serial w = mask_at None c d {t = wire_table} (there (there (there (there (there (there (there (there (there here))))))))) w.own

-- what is read of a slot that may be left out is among what is read of it
sub-slot : (f : Option Value → List ℕ) → f None ≡ [] → (b : Bool) (o o' : Option Value) → o' ≡ cond b None o → Sub (f o') (f o)
sub-slot f z true o o' q m e = clash e (rw (q, z))
sub-slot f z false o o' q m e = rw q at e

module _ (c d : Class) where
  serial_sub : (f : Figure) → Sub (figure_serial (lower_figure c d f)) (figure_serial f)
  serial_sub (plain n j v) m e = e
  serial_sub (chain n ps) m e = e
  serial_sub (lettering n s) m e = e
  serial_sub (wired n w) m e = none_read (knows_wires c) e
    where
      none_read : (b : Bool) → has_number m (figure_serial (cond b (wired n (lower_read c.wires d.wires w)) (passed n))) ≡ true → has_number m (figure_serial (wired n w)) ≡ true
      none_read true e =
          sub-slot own_number refl (hides c.wires d.wires serial_least) (get_or w.own wire_serial_row None) (get_or (lower_read c.wires d.wires w).own wire_serial_row None)
          (wire-serial c.wires d.wires w) m e
      none_read false e = clash e refl
  serial_sub (passed n) m e = e
  serial_sub (placed n h) m e =
      sub-slot (λ o. own_serial (serials_of (slot_value o))) refl (hides c.symbols d.symbols serial_least) (held "serial" placed_table (part_of h 0))
      (held "serial" placed_table (part_of (lower_held c.symbols d.symbols h) 0)) (placed-serial c.symbols d.symbols h) m e

  figures_sub : (fs : List Figure) → Sub (flat (map figure_serial (lower_figures c d fs))) (flat (map figure_serial fs))
  figures_sub fs = rw (map_compose figure_serial (lower_figure c d) fs) (sub-flat (λ f. figure_serial (lower_figure c d f)) figure_serial serial_sub fs)

  block_sub : (u : LayerBlock) → Sub (serials_of_block (lower_block c d u)) (serials_of_block u)
  block_sub u = figures_sub u.figures

  contents_sub : (v : Contents) → Sub (serials_of_volume (lower_contents c d v)) (serials_of_volume v)
  contents_sub v = rw (map_compose serials_of_block (lower_block c d) v.blocks) (sub-flat (λ u. serials_of_block (lower_block c d u)) serials_of_block block_sub v.blocks)

  set_sub : (took : ℕ) (s : Set) → Sub (serials_in (lower_in took c d s)) (serials_in s)
  set_sub took s =
      rw (map_compose serials_of_volume (lower_contents c d) s.volumes)
      (sub-append (flat (map (λ v. serials_of_volume (lower_contents c d v)) s.volumes)) (flat (map serials_of_volume s.volumes)) (serials_of_volume (lower_contents c d s.now)) (serials_of_volume s.now)
      (sub-flat (λ v. serials_of_volume (lower_contents c d v)) serials_of_volume contents_sub s.volumes) (contents_sub s.now))

  -- those so far, of the set and of the layer that is open
  so-far_sub : (took : ℕ) (s : Set) (fs : List Figure) → Sub (numbers_so_far (lower_in took c d s) (lower_figures c d fs)) (numbers_so_far s fs)
  so-far_sub took s fs =
      sub-append (serials_in (lower_in took c d s)) (serials_in s) (flat (map figure_serial (lower_figures c d fs))) (flat (map figure_serial fs)) (set_sub took s) (figures_sub fs)

  pub serial-new : (took : ℕ) (s : Set) (fs : List Figure) (v : Value) → new_serial s fs v ≡ true → new_serial (lower_in took c d s) (lower_figures c d fs) v ≡ true
  serial-new took s fs v e =
      none_sub (own_serial (serials_of v)) (numbers_so_far (lower_in took c d s) (lower_figures c d fs)) (numbers_so_far s fs) (so-far_sub took s fs) e

  pub number-new : (took : ℕ) (s : Set) (fs : List Figure) (j : ℕ) (v : Value) → new_number s fs j v ≡ true → new_number (lower_in took c d s) (lower_figures c d fs) j v ≡ true
  number-new took s fs j v e = go (not (eqb j wire_serial_row)) e
    where
      go : (b : Bool) → (b || none_of (own_number (Some v)) (numbers_so_far s fs)) ≡ true → (b || none_of (own_number (Some v)) (numbers_so_far (lower_in took c d s) (lower_figures c d fs))) ≡ true
      go true e = refl
      go false e = none_sub (own_number (Some v)) (numbers_so_far (lower_in took c d s) (lower_figures c d fs)) (numbers_so_far s fs) (so-far_sub took s fs) e

-- ── a class that knows both serials has read the same own numbers and partners ──
module _ (c d : Class) (symbols : knows_serials c.symbols ≡ true) (wires : knows_serials c.wires ≡ true) (reads : knows_wires c ≡ true) where
  placed-kept : (h : Held) → held "serial" placed_table (part_of (lower_held c.symbols d.symbols h) 0) ≡ held "serial" placed_table (part_of h 0)
  placed-kept h = placed-serial c.symbols d.symbols h ∙ rw (known-shows c.symbols d.symbols serial_least symbols)

  wire-kept : (w : Wire) → get_or (lower_read c.wires d.wires w).own wire_serial_row None ≡ get_or w.own wire_serial_row None
  wire-kept w = wire-serial c.wires d.wires w ∙ rw (known-shows c.wires d.wires serial_least wires)

  serial-same : (f : Figure) → figure_serial (lower_figure c d f) ≡ figure_serial f
  serial-same (plain n j v) = refl
  serial-same (chain n ps) = refl
  serial-same (lettering n s) = refl
  serial-same (placed n h) = ap (λ o. own_serial (serials_of (slot_value o))) (placed-kept h)
  serial-same (wired n w) = rw reads (ap own_number (wire-kept w))
  serial-same (passed n) = refl

  partner-same : (f : Figure) → figure_partners (lower_figure c d f) ≡ figure_partners f
  partner-same (plain n j v) = refl
  partner-same (chain n ps) = refl
  partner-same (lettering n s) = refl
  partner-same (placed n h) = ap (λ o. drop 1 (serials_of (slot_value o))) (placed-kept h)
  partner-same (wired n w) = rw reads (ap (λ o. wire_partners (slot_value o)) (wire-kept w))
  partner-same (passed n) = refl

  -- what is read of each figure, over the layers of all volumes
  volumes-same : (f : Figure → List ℕ) → ((g : Figure) → f (lower_figure c d g) ≡ f g) → (vs : List Contents)
      → flat (map (λ v. flat (map (λ u. flat (map f u.figures)) v.blocks)) (map (lower_contents c d) vs)) ≡ flat (map (λ v. flat (map (λ u. flat (map f u.figures)) v.blocks)) vs)
  volumes-same f h vs =
      ap flat
      (map_same (λ v. flat (map (λ u. flat (map f u.figures)) v.blocks)) (lower_contents c d)
      (λ v. ap flat (map_same (λ u. flat (map f u.figures)) (lower_block c d) (λ u. ap flat (map_same f (lower_figure c d) h u.figures)) v.blocks)) vs)

  pub partners-same : (took : ℕ) (s : Set) → partners_exist (lower_in took c d s) ≡ partners_exist s
  partners-same took s =
      ap₂ (λ own ps. all (λ n. has_number n own) ps) (volumes-same figure_serial serial-same s.volumes) (volumes-same figure_partners partner-same s.volumes)

-- ── EOF: the lower class tests no more than the higher ──
module _ (low high : Class) (le : ClassNotAbove low high) (reads : knows_serials low.wires ≡ true → knows_wires low ≡ true) (took : ℕ) where
  tests-up : (s : Set) → tests_partners low s ≡ true → tests_partners high s ≡ true
  tests-up s e =
      let file = and_left (knows_serials (range_of s) && knows_serials (wires_of s)) _ e in
      let both = and_right (knows_serials (range_of s) && knows_serials (wires_of s)) _ e in
      and_true _ _ file
      (and_true _ _ (reaches-up low.symbols high.symbols le.symbols serial_least (and_left (knows_serials low.symbols) _ both))
      (reaches-up low.wires high.wires le.wires serial_least (and_right (knows_serials low.symbols) _ both)))

  tests_same : (s : Set) → tests_partners low (lower_set took low s) ≡ tests_partners low s
  tests_same s = simp (file-same low (ranges_of s) s.now s.volumes)

  -- where the lower tests, so did the higher, and of the same numbers
  found_too : (s : Set) → (not (tests_partners high s) || partners_exist s) ≡ true → (not (tests_partners low (lower_set took low s)) || partners_exist (lower_set took low s)) ≡ true
  found_too s e = rw (tests_same s) (go (tests_partners low s) refl)
    where
      go : (b : Bool) → tests_partners low s ≡ b → (not b || partners_exist (lower_set took low s)) ≡ true
      go false q = refl
      go true q =
          let both = and_right (knows_serials (range_of s) && knows_serials (wires_of s)) _ q in
          let wires = and_right (knows_serials low.symbols) _ both in
          partners-same low (ranges_of s) (and_left (knows_serials low.symbols) _ both) wires (reads wires) took s ∙ tested (tests_partners high s) (tests-up s q) e
        where
          tested : (t : Bool) → t ≡ true → (not t || partners_exist s) ≡ true → partners_exist s ≡ true
          tested true p e = e
          tested false p e = clash p refl

  pub sim-eof : (l : Line) (s : Set) (k : ℕ) (s' : State) → at_eof (unlimited high) l s k ≡ got s' → at_eof (unlimited low) l (lower_set took low s) k ≡ got (lower took low s')
  sim-eof l s k s' e =
      on-got Sim (at_eof (unlimited high) l s k) s'
      (on-eof Sim (unlimited high) l s k λ m. rw (m.behind, m.last, used ∙ m.used, counted ∙ m.counted, found_too s m.partners)) e
    where
      Sim : State → Type 0
      Sim u = at_eof (unlimited low) l (lower_set took low s) k ≡ got (lower took low u)

      used : layers_used (lower_set took low s) ≡ layers_used s
      used = simp all-used-same

      counted : counted_all (lower_set took low s) ≡ counted_all s
      counted = simp (file-same, totals-same)
