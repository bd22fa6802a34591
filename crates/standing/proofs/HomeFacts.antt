-- Where figures stand, as the code has it: the layer's or the symbol's number, the volume, the table of points.
use Prim.Native.Nat.{ℕ}
use mathlib.Core.Bool.{Bool}
use mathlib.Core.Path.{◌≡◌, ◌∙◌}
use mathlib.Core.List.{List}
use Rattle.rules.specs.Sets.{Symbol, Set, with_records}
use Rattle.rules.specs.Machine.{Home, in_element, in_layer, is_layer}
use Rattle.account.specs.declared.Now.{Now}
use Rattle.standing.specs.SoFar.{home_owner, home_volume}
use Rattle.standing.specs.Standing.{InSymbol, InHome}

module _ (spool : List ℕ) (k : ℕ) (n : Now) (ms is : List Bool) (s : Set) where
  pub home-layered : (h : Home) → InHome spool k n ms is s h → n.layered ≡ is_layer h
  home-layered (in_element y) x = x.1
  home-layered (in_layer m) x = x.1

  pub home-owner : (h : Home) → InHome spool k n ms is s h → n.owner ≡ home_owner s h
  home-owner (in_element y) x = x.0.owner
  home-owner (in_layer m) x = x.2

  pub home-volume : (h : Home) → InHome spool k n ms is s h → k ≡ home_volume s h
  home-volume (in_element y) x = x.0.phase.volume
  home-volume (in_layer m) x = x.0

-- ── from line to line ──
module _ (spool : List ℕ) (k : ℕ) (n n' : Now) (ms is is' : List Bool) (s : Set) (ks : List ℕ) where
  -- records taken, and another place in the same symbol
  pub symbol-on : (y : Symbol) → n'.owner ≡ n.owner → InSymbol spool k n ms is s y → InSymbol spool k n' ms is' (with_records ks s) y
  symbol-on y a x = record {
    phase = record { volume = x.phase.volume; first = x.phase.first; blocks = x.phase.blocks };
    owner = a ∙ x.owner;
    slots = x.slots;
    marked = x.marked;
    fresh = x.fresh;
    name = x.name;
    is-text = x.is-text;
    element-first = x.element-first;
    hide-first = x.hide-first;
  }

  pub home-on : (h : Home) → n'.layered ≡ n.layered → n'.owner ≡ n.owner → InHome spool k n ms is s h → InHome spool k n' ms is' (with_records ks s) h
  home-on (in_element y) l a x = (symbol-on y a x.0, l ∙ x.1, x.2, x.3, x.4)
  home-on (in_layer i) l a x = (x.0, l ∙ x.1, a ∙ x.2, x.3)

-- another place in the same symbol or layer, and no record taken
module _ (spool : List ℕ) (k : ℕ) (n n' : Now) (ms is is' : List Bool) (s : Set) where
  pub symbol-stays : (y : Symbol) → n'.owner ≡ n.owner → InSymbol spool k n ms is s y → InSymbol spool k n' ms is' s y
  symbol-stays y a x = record {
    phase = x.phase;
    owner = a ∙ x.owner;
    slots = x.slots;
    marked = x.marked;
    fresh = x.fresh;
    name = x.name;
    is-text = x.is-text;
    element-first = x.element-first;
    hide-first = x.hide-first;
  }

  pub home_stays : (h : Home) → n'.layered ≡ n.layered → n'.owner ≡ n.owner → InHome spool k n ms is s h → InHome spool k n' ms is' s h
  home_stays (in_element y) l a x = (symbol-stays y a x.0, l ∙ x.1, x.2, x.3, x.4)
  home_stays (in_layer i) l a x = (x.0, l ∙ x.1, a ∙ x.2, x.3)
