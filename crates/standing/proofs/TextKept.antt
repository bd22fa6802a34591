-- A figure's text on the scratch: its record at its end.
use Prim.Native.Nat.{ℕ, ◌+◌, ◌*◌, ◌-◌}
use mathlib.Core.List.{List, [], ◌∷◌, ◌++◌, append-nil, append_assoc}
use mathlib.Core.Path.{◌≡◌, sym, ◌∙◌, ap}
use native.Mathlib.Omega.{arith}
use lib.IntN.{ℤ}
use lib.ListN.{length, length-append}
use Rattle.rules.specs.declared.Class.{Class}
use Rattle.rules.specs.Base.{flat}
use Rattle.rules.specs.Rows.{Slots}
use Rattle.rules.specs.Sets.{Figure, lettering, Set}
use Rattle.rules.specs.Machine.{Home, figures, texts}
use Rattle.standing.specs.SoFar.{home_owner, home_volume, home_more, home_figure, empty_record}
use Rattle.standing.specs.Kept.{figures_shut, shut_so_far, home_shut, Scratch, Fills}
use Rattle.standing.proofs.LaidTables.{flat-more}
use Rattle.standing.proofs.MoreRecords.{flat_map_more}
use Rattle.standing.proofs.OpenRecords.{text-length, text-figure}

module _ (c : Class) (s : Set) (h : Home) (fs : List Figure) (n : ℕ) (o : Slots) (records : ℕ) (all : length (flat (shut_so_far c (texts s h fs n o))) ≡ 32 * records) (t : List ℤ) (x : Scratch t (texts s h fs n o)) where
  abbrev fore : List (List ℤ)
  fore = figures_shut c s h fs

  -- at its `}` the record is complete: it is the last one taken
  pub text-fills : Fills c (texts s h fs n o) (figures s h (fs ++ lettering n o ∷ [])) 0 32 (records - 1) t
  text-fills = record {
    fore = fore;
    behind = [];
    before = append-nil (fore ++ empty_record ∷ []);
    after =
        ap (λ (r : List (List ℤ)). home_shut c s h ++ r) (flat_map_more (home_figure c s h) fs (lettering n o))
        ∙ sym (append_assoc (home_shut c s h) _ (home_figure c s h (lettering n o)))
        ∙ ap (λ (r : List (List ℤ)). fore ++ r) (text-figure c s h n o ∙ ap (λ (u : List ℤ). u ∷ []) (sym x.figure));
    size =
        let before : length (flat fore) + 32 ≡ 32 * records = sym (length-append (flat fore) empty_record) ∙ ap length (sym (flat-more fore empty_record)) ∙ all in
        omega (arith, before);
    long = ap length x.figure ∙ text-length (home_more h) (home_owner s h) (home_volume s h) n o;
  }
