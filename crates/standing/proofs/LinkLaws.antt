-- The links of a set's serial numbers are its own numbers and its partners, as the definitions collect them.
use Rattle.std.specs.Prelude.{Option, Some, None}
use Prim.Native.Nat.{ℕ}
use mathlib.Core.List.{List, [], ◌∷◌, ◌++◌, map, append-nil}
use mathlib.Core.Path.{◌≡◌, refl, ◌∙◌, ap}
use lib.ListN.{get_or, drop}
use Rattle.rules.specs.Base.{flat}
use Rattle.rules.specs.Values.{Value, serials_of}
use Rattle.rules.specs.Rows.{part_of, slot_value, held}
use Rattle.rules.specs.Figures.{placed_table, wire_serial_row}
use Rattle.rules.specs.Sets.{Figure, plain, chain, lettering, placed, wired, passed, LayerBlock, Contents, Set, own_serial, own_number, figure_serial}
use Rattle.rules.specs.Sets.{serials_of_volume, wire_partners, figure_partners, partners_of_volume}
use Rattle.rules.specs.PlacedSymbol.{numbers_so_far}
use Rattle.rules.proofs.Chains.{flat_append, map-append}
use Rattle.standing.specs.Standing.{wire_links, symbol_links, figure_links, links_of_block, links_of_volume, closed_links, links_in, links_with, owns_in, partners_of}

-- ── what each link gives ──
pub flat-both : {A B : Type 0} (g : A → List B) (a b : List A) → flat (map g (a ++ b)) ≡ flat (map g a) ++ flat (map g b)
flat-both {A} {B} g a b = ap flat (map-append g a b) ∙ flat_append (map g a) (map g b)

-- of what is collected: what each of the collected gives
flat-each : {A B C : Type 0} (g : B → List C) (f : A → List B) (h : A → List C) → ((a : A) → flat (map g (f a)) ≡ h a) → (s : List A) → flat (map g (flat (map f s))) ≡ flat (map h s)
flat-each {A} {B} {C} g f h e [] = refl
flat-each {A} {B} {C} g f h e (a ∷ s) =
    flat-both g (f a) (flat (map f s)) ∙ ap (λ (u : List C). u ++ flat (map g (flat (map f s)))) (e a) ∙ ap (λ (u : List C). h a ++ u) (flat-each g f h e s)

module _ (g : List ℕ → List ℕ) (figure : Figure → List ℕ) (e : (f : Figure) → flat (map g (figure_links f)) ≡ figure f) where
  abbrev of_block : LayerBlock → List ℕ
  of_block u = flat (map figure u.figures)

  abbrev of_volume : Contents → List ℕ
  of_volume v = flat (map of_block v.blocks)

  by-block : (u : LayerBlock) → flat (map g (links_of_block u)) ≡ of_block u
  by-block u = flat-each g figure_links figure e u.figures

  by-volume : (v : Contents) → flat (map g (links_of_volume v)) ≡ of_volume v
  by-volume v = flat-each g links_of_block of_block by-block v.blocks

  by-closed : (s : Set) → flat (map g (closed_links s)) ≡ flat (map of_volume s.volumes)
  by-closed s = flat-each g links_of_volume of_volume by-volume s.volumes

  by-set : (s : Set) → flat (map g (links_in s)) ≡ flat (map of_volume s.volumes) ++ of_volume s.now
  by-set s =
      flat-both g (closed_links s) (links_of_volume s.now)
      ∙ ap (λ (u : List ℕ). u ++ flat (map g (links_of_volume s.now))) (by-closed s)
      ∙ ap (λ (u : List ℕ). flat (map of_volume s.volumes) ++ u) (by-volume s.now)

  by-layer : (s : Set) (fs : List Figure) → flat (map g (links_with s fs)) ≡ (flat (map of_volume s.volumes) ++ of_volume s.now) ++ flat (map figure fs)
  by-layer s fs =
      flat-both g (links_in s) (flat (map figure_links fs))
      ∙ ap (λ (u : List ℕ). u ++ flat (map g (flat (map figure_links fs)))) (by-set s)
      ∙ ap (λ (u : List ℕ). (flat (map of_volume s.volumes) ++ of_volume s.now) ++ u) (flat-each g figure_links figure e fs)

-- ── own numbers ──
own-symbol : (ns : List ℕ) → owns_in (symbol_links ns) ≡ own_serial ns
own-symbol [] = refl
own-symbol (n ∷ ps) = refl

own-wire : (o : Option Value) → owns_in (wire_links o) ≡ own_number o
own-wire None = refl
own-wire (Some v) = refl

own-figure : (f : Figure) → owns_in (figure_links f) ≡ figure_serial f
own-figure (plain n j v) = refl
own-figure (chain n ps) = refl
own-figure (lettering n s) = refl
own-figure (placed n h) = own-symbol (serials_of (slot_value (held "serial" placed_table (part_of h 0))))
own-figure (wired n w) = own-wire (get_or w.own wire_serial_row None)
own-figure (passed n) = refl

-- of the set and of the layer that is open: those that a new number must differ from
pub links-own : (s : Set) (fs : List Figure) → owns_in (links_with s fs) ≡ numbers_so_far s fs
links-own s fs = by-layer own_serial figure_serial own-figure s fs

-- of the volumes that are closed
pub closed-own : (s : Set) → owns_in (closed_links s) ≡ flat (map serials_of_volume s.volumes)
closed-own s = by-closed own_serial figure_serial own-figure s

-- ── partners ──
partners-symbol : (ns : List ℕ) → partners_of (symbol_links ns) ≡ drop 1 ns
partners-symbol [] = refl
partners-symbol (n ∷ ps) = append-nil ps

partners-wire : (o : Option Value) → partners_of (wire_links o) ≡ wire_partners (slot_value o)
partners-wire None = refl
partners-wire (Some v) = append-nil (wire_partners v)

partners-figure : (f : Figure) → partners_of (figure_links f) ≡ figure_partners f
partners-figure (plain n j v) = refl
partners-figure (chain n ps) = refl
partners-figure (lettering n s) = refl
partners-figure (placed n h) = partners-symbol (serials_of (slot_value (held "serial" placed_table (part_of h 0))))
partners-figure (wired n w) = partners-wire (get_or w.own wire_serial_row None)
partners-figure (passed n) = refl

pub links-partners : (s : Set) → partners_of (closed_links s) ≡ flat (map partners_of_volume s.volumes)
links-partners s = by-closed (λ l. drop 1 l) figure_partners partners-figure s
