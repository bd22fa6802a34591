-- A line in ELEMENT, outside its layers: what it answers, and what it leaves in the tally and among the layers in use.
use Rattle.std.specs.Prelude.{ℕ, ◌+◌, Bool, true, false, cond, ◌≡◌, List, eqb, get_or, set}
use Rattle.rules.specs.Values.{amount_at}
use Rattle.rules.specs.Rows.{Act, stay, entry, begin, shut, refuse}
use Rattle.account.specs.declared.Now.{Now}
use Rattle.account.specs.declared.Step.{Step}
use Rattle.account.specs.declared.Step.TheVariants as S
use Rattle.account.specs.Account.{at_block}
use Rattle.account.specs.Numbering.{block_top, block_figures, turn_eof, tally_here, tally_elements_here, tally_total}

-- ── a layer opens ──
-- it has no figures yet
abbrev pub layer_opened : Now → ℕ → Now
layer_opened n layer = record { block = block_figures; part = 0; layered = true; owner = layer; records = n.records; figures = 0; points = 0 }

-- "14: layer used twice"
abbrev pub open_layer : Now → ℕ → List Bool → Step
open_layer n layer used = cond (get_or used layer false) (S.Stop 14) (S.Go (layer_opened n layer))

-- in use in this volume, and in the set; after a refusal nothing is said of them
pub record LayerOpens (n : Now) (layer : ℕ) (used₀ used₁ all₀ all₁ : List Bool) (r : Step) : Type 0 where
  pub answer : r ≡ open_layer n layer used₀
  pub used : get_or used₀ layer false ≡ false → used₁ ≡ set used₀ layer true
  pub all : get_or used₀ layer false ≡ false → all₁ ≡ set all₀ layer true

-- ── a layer's figures, and ELEMENT's close ──
abbrev pub tallied : List ℕ → ℕ → List ℕ
tallied tally figures = set tally tally_elements_here (get_or tally tally_elements_here 0 + figures)

abbrev pub agrees : List ℕ → Bool
agrees tally = eqb (get_or tally tally_here 0) (get_or tally tally_elements_here 0)

-- "17: this_ele at ELEMENT's close"
abbrev pub element_closed : Now → List ℕ → Step
element_closed n tally = cond (agrees tally) (S.Go (at_block n block_top turn_eof)) (S.Stop 17)

pub record ElementCloses (n : Now) (t₀ t₁ : List ℕ) (r : Step) : Type 0 where
  pub answer : r ≡ element_closed n t₀
  pub tally : agrees t₀ ≡ true → t₁ ≡ set t₀ tally_total (get_or t₀ tally_total 0 + get_or t₀ tally_elements_here 0)

-- ── the line ──
-- `LAYER=id:{` has the layer's number; nothing stands in ELEMENT but layers
abbrev pub element_step : Now → List ℕ → List Bool → Act → Step
element_step n tally used stay = S.Go n
element_step n tally used (entry j v) = S.Stop 5
element_step n tally used (begin i j v) = open_layer n (amount_at v 0) used
element_step n tally used shut = element_closed n tally
element_step n tally used (refuse k) = S.Stop k

abbrev pub ElementTally : List ℕ → List ℕ → Act → Type 0
ElementTally t₀ t₁ stay = t₁ ≡ t₀
ElementTally t₀ t₁ (entry j v) = t₁ ≡ t₀
ElementTally t₀ t₁ (begin i j v) = t₁ ≡ t₀
ElementTally t₀ t₁ shut = agrees t₀ ≡ true → t₁ ≡ set t₀ tally_total (get_or t₀ tally_total 0 + get_or t₀ tally_elements_here 0)
ElementTally t₀ t₁ (refuse k) = t₁ ≡ t₀

-- the layers in use, where those of the volume tell whether the layer is used twice
abbrev pub LayersInUse : List Bool → List Bool → List Bool → Act → Type 0
LayersInUse used₀ b₀ b₁ stay = b₁ ≡ b₀
LayersInUse used₀ b₀ b₁ (entry j v) = b₁ ≡ b₀
LayersInUse used₀ b₀ b₁ (begin i j v) = get_or used₀ (amount_at v 0) false ≡ false → b₁ ≡ set b₀ (amount_at v 0) true
LayersInUse used₀ b₀ b₁ shut = b₁ ≡ b₀
LayersInUse used₀ b₀ b₁ (refuse k) = b₁ ≡ b₀

-- what `on_elements` promises
pub record ElementLine (a : Act) (n : Now) (tally₀ tally₁ : List ℕ) (used₀ used₁ all₀ all₁ : List Bool) (r : Step) : Type 0 where
  pub answer : r ≡ element_step n tally₀ used₀ a
  pub tally : ElementTally tally₀ tally₁ a
  pub used : LayersInUse used₀ used₀ used₁ a
  pub all : LayersInUse used₀ all₀ all₁ a
