-- A list that is taken from the figures of a set, volume by volume and layer by layer, is the one that is taken from all of them.
use Prim.Native.Nat.{ℕ}
use mathlib.Core.List.{List, [], ◌∷◌, ◌++◌, map}
use mathlib.Core.Path.{◌≡◌, refl, sym, ◌∙◌, ap, ap₂}
use Rattle.rules.specs.declared.Class.{Class}
use Rattle.rules.specs.Base.{flat}
use Rattle.rules.specs.Sets.{Figure, LayerBlock, Contents}
use Rattle.rules.proofs.Chains.{map-append, flat_append}
use Rattle.promises.proofs.FitSets.{Each}
use Rattle.promises.proofs.FigureState.{SoundFigure, SoundBlock, SoundContents}

module _ (c : Class) (wires : ℕ) (g h : Figure → List ℕ) (same : (f : Figure) → SoundFigure c wires f → g f ≡ h f) where
  abbrev taken : List Figure → List ℕ
  taken fs = flat (map h fs)

  abbrev in_blocks : List LayerBlock → List Figure
  in_blocks us = flat (map (λ u. u.figures) us)

  taken-append : (a b : List Figure) → taken (a ++ b) ≡ taken a ++ taken b
  taken-append a b = ap flat (map-append h a b) ∙ flat_append (map h a) (map h b)

  figures_list : (fs : List Figure) → Each (SoundFigure c wires) fs → flat (map g fs) ≡ taken fs
  figures_list [] i = refl
  figures_list (f ∷ fs) i = ap₂ ◌++◌ (same f i.0) (figures_list fs i.1)

  blocks_list : (us : List LayerBlock) → Each (SoundBlock c wires) us → flat (map (λ u. flat (map g u.figures)) us) ≡ taken (in_blocks us)
  blocks_list [] i = refl
  blocks_list (u ∷ us) i = ap₂ ◌++◌ (figures_list u.figures i.0) (blocks_list us i.1) ∙ sym (taken-append u.figures (in_blocks us))

  pub volumes_list : (vs : List Contents) → Each (SoundContents c wires) vs
      → flat (map (λ v. flat (map (λ u. flat (map g u.figures)) v.blocks)) vs) ≡ taken (flat (map (λ v. in_blocks v.blocks) vs))
  volumes_list [] i = refl
  volumes_list (v ∷ vs) i = ap₂ ◌++◌ (blocks_list v.blocks i.0) (volumes_list vs i.1) ∙ sym (taken-append (in_blocks v.blocks) (flat (map (λ v. in_blocks v.blocks) vs)))
