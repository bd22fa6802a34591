-- What is shown behind each volume is what the fixed form writes of it.
use Prim.Native.Nat.{ℕ}
use mathlib.Core.Bool.{Bool, true, false, not}
use mathlib.Core.List.{List, [], ◌∷◌, ◌++◌, map, append_assoc, append-nil}
use mathlib.Core.Path.{◌≡◌, refl, sym, ◌∙◌, ap}
use native.Mathlib.Omega.{arith}
use lib.Dec.{eqb}
use lib.ListN.{length}
use Rattle.rules.specs.Base.{bytes}
use Rattle.rules.specs.Spool.{unlines, volume_bytes}
use Rattle.rules.specs.Values.{Known}
use Rattle.rules.specs.Rows.{Rule, number_of, part_of}
use Rattle.rules.specs.Blocks.{file_tables, elec_table}
use Rattle.rules.specs.Figures.{layer_table}
use Rattle.rules.specs.Sets.{Drawing, Symbol, Contents, Set, head_or, symbol_name_of, known_of, layer_table_of}
use Rattle.rules.specs.FixedForm.{Text, block, show_held, show_drawing, show_defines, show_blocks, show_first, show_later, ending, later_lines, volume_lines, volumes_bytes}
use Rattle.rules.specs.Machine.{Env, top, ended}
use Rattle.pens.specs.Shown.{file_text, drawing_text, defines_text, front_text, element_text, shown}
use Rattle.pens.proofs.ShownLaws.{Before, block_more, held_more, drawing-more, defines-more, blocks_more}
use Rattle.volumes.proofs.VolumeSound.{Closed}
use Rattle.volumes.proofs.VolumeRuns.{Final}

module _ (e : Env) (set : Set) where
  abbrev k : Known
  k = known_of set

  abbrev t : List Rule
  t = layer_table_of set

  -- a volume's text, with these lines behind it
  abbrev body_text : Bool → Contents → Text → Text
  body_text true c ls = show_first k t set c ls
  body_text false c ls = show_later k t c ls

  -- the texts of the volumes that are left
  abbrev pub rest_lines : Bool → List Contents → List Text
  rest_lines true cs = volume_lines set cs
  rest_lines false cs = later_lines k t cs

  rest-cons : (first : Bool) (c : Contents) (cs : List Contents) → rest_lines first (c ∷ cs) ≡ body_text first c (ending cs) ∷ rest_lines false cs
  rest-cons true c cs = refl
  rest-cons false c cs = refl

  -- blocks in each other's tails are blocks one behind the other
  onto : (key : List ℕ) (f : Text → Text) → Before f → (x y : Text) → x ≡ y → block key f x ≡ block key f [] ++ y
  onto key f h x y q = block_more key f h x ∙ ap (λ (u : Text). block key f [] ++ u) q

  module _ (s : Set) (d : set.drawing ≡ s.drawing) (y : set.symbols ≡ s.symbols) (r : layer_table_of set ≡ layer_table_of s) where
    known_is : known_of s ≡ k
    known_is = ap (λ (x : List Symbol). record { symbols = map symbol_name_of x; layers = map (λ l. l.id) s.drawing.layers }) (sym y)
        ∙ ap (λ (x : Drawing). record { symbols = map symbol_name_of set.symbols; layers = map (λ l. l.id) x.layers }) (sym d)

    element-is : (ls : Text) → block (bytes "ELEMENT") (show_blocks k t s.now.blocks) ls ≡ element_text k s ++ ls
    element-is ls =
        block_more (bytes "ELEMENT") (show_blocks k t s.now.blocks) (blocks_more k t s.now.blocks) ls
        ∙ ap (λ (x : Known). block (bytes "ELEMENT") (show_blocks x t s.now.blocks) [] ++ ls) (sym known_is)
        ∙ ap (λ (x : List Rule). block (bytes "ELEMENT") (show_blocks (known_of s) x s.now.blocks) [] ++ ls) r

    body_is : (first : Bool) (ls : Text) → body_text first s.now ls ≡ front_text k first s ++ (element_text k s ++ ls)
    body_is true ls =
        let F = file_text k true s.now.file in
        let D = drawing_text k s.drawing in
        let Y = defines_text k s.symbols in
        let E = element_text k s ++ ls in
        onto (bytes "FILE_FORMAT") (show_held k (file_tables true) s.now.file) (held_more k (file_tables true) s.now.file) _ (D ++ (Y ++ E))
        (ap (λ (x : Drawing). block (bytes "DRAWING_FORMAT") (show_drawing k x) (block (bytes "SYMBOL_DEFINE") (show_defines k set.symbols) (block (bytes "ELEMENT") (show_blocks k t s.now.blocks) ls))) d
        ∙ onto (bytes "DRAWING_FORMAT") (show_drawing k s.drawing) (drawing-more k s.drawing) _ (Y ++ E)
        (ap (λ (x : List Symbol). block (bytes "SYMBOL_DEFINE") (show_defines k x) (block (bytes "ELEMENT") (show_blocks k t s.now.blocks) ls)) y
        ∙ onto (bytes "SYMBOL_DEFINE") (show_defines k s.symbols) (defines-more k s.symbols) _ E (element-is ls)))
        ∙ sym (append_assoc (F ++ D) Y E ∙ append_assoc F D (Y ++ E))
    body_is false ls =
        onto (bytes "FILE_FORMAT") (show_held k (file_tables false) s.now.file) (held_more k (file_tables false) s.now.file) _ (element_text k s ++ ls) (element-is ls)

  -- the first volume stays the first
  head-same : (v w u : Contents) (a cs : List Contents) → head_or v ((a ++ u ∷ []) ++ cs) ≡ head_or w (a ++ u ∷ [])
  head-same v w u [] cs = refl
  head-same v w u (b ∷ a) cs = refl

  table_same : (first : Bool) (s s₁ : Set) (cs : List Contents) → Closed first s s₁ → set.volumes ≡ s₁.volumes ++ cs → layer_table_of set ≡ layer_table_of s₁
  table_same first s s₁ cs c q =
      ap (λ (x : Contents). layer_table (eqb (number_of "E_sym" elec_table (part_of x.file 3)) 1) (not (eqb (number_of "E_wire" elec_table (part_of x.file 3)) 0)))
      (ap (head_or set.now) (q ∙ ap (λ (vs : List Contents). vs ++ cs) c.volumes) ∙ head-same set.now s₁.now s₁.now s.volumes cs ∙ ap (head_or s₁.now) (sym c.volumes))

  -- another volume follows
  pub text-between : (first : Bool) (s s₁ : Set) (c : Contents) (cs : List Contents) → Closed first s s₁ → Final e set s₁ (c ∷ cs)
      → rest_lines first (s₁.now ∷ c ∷ cs) ≡ shown k first (top s₁ 4) ∷ rest_lines false (c ∷ cs)
  text-between first s s₁ c cs x f =
      rest-cons first s₁.now (c ∷ cs)
      ∙ ap (λ (u : Text). u ∷ rest_lines false (c ∷ cs))
      (body_is s₁ f.drawing f.symbols (table_same first s s₁ (c ∷ cs) x f.volumes) first [] ∙ ap (λ (u : Text). front_text k first s₁ ++ u) (append-nil (element_text k s₁)))

  -- the last one
  pub text-last : (first : Bool) (s : Set) → Closed first s set → rest_lines first (set.now ∷ []) ≡ shown k first (ended set) ∷ []
  text-last first s x =
      rest-cons first set.now []
      ∙ ap (λ (u : Text). u ∷ []) (body_is set refl refl refl first (bytes "EOF" ∷ []) ∙ sym (append_assoc (front_text k first set) (element_text k set) (bytes "EOF" ∷ [])))

-- ── volumes one behind the other ──
pub volumes-append : (a b : List (List ℕ)) (x y : List Text) → length a ≡ length x → volumes_bytes (a ++ b) (x ++ y) ≡ volumes_bytes a x ++ volumes_bytes b y
volumes-append [] b [] y q = refl
volumes-append [] b (u ∷ x) y q = absurd (omega (arith, q))
volumes-append (n ∷ a) b [] y q = absurd (omega (arith, q))
volumes-append (n ∷ a) b (u ∷ x) y q =
    ap (λ (r : List ℕ). volume_bytes n (unlines u) ++ r) (volumes-append a b x y (omega (arith, q))) ∙ sym (append_assoc (volume_bytes n (unlines u)) (volumes_bytes a x) (volumes_bytes b y))
