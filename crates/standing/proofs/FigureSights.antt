-- A closed figure without a serial number changes nothing of what the set says.
use Prim.Native.Nat.{ℕ}
use mathlib.Core.List.{List, [], ◌∷◌, ◌++◌, map, append-nil}
use mathlib.Core.Path.{◌≡◌, refl, sym, ◌∙◌, ap}
use Rattle.rules.specs.Base.{flat}
use Rattle.rules.specs.Sets.{Figure, Set}
use Rattle.rules.specs.Machine.{Home, in_element, in_layer}
use Rattle.standing.specs.Standing.{home_links, figure_links, links_in}
use Rattle.standing.proofs.MoreRecords.{flat_map_more}

pub plain-serials : (s : Set) (h : Home) (fs : List Figure) (f : Figure) → figure_links f ≡ [] → home_links s h fs ≡ home_links s h (fs ++ f ∷ [])
plain-serials s (in_element y) fs f e = refl
plain-serials s (in_layer k) fs f e =
    ap (λ (u : List (List ℕ)). links_in s ++ u) (sym (flat_map_more figure_links fs f ∙ ap (λ (u : List (List ℕ)). flat (map figure_links fs) ++ u) e ∙ append-nil (flat (map figure_links fs))))
