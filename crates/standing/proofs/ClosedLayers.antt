-- A layer that closes, and a volume: what the set then says of serial numbers, layers in use, figures and the tally.
use Prim.Native.Nat.{ℕ, ◌+◌}
use mathlib.Core.List.{List, [], ◌∷◌, ◌++◌, map, append_assoc, append-nil}
use mathlib.Core.Path.{◌≡◌, sym, ◌∙◌, ap}
use lib.ListN.{length, get_or, set}
use Rattle.rules.specs.Base.{flat, total}
use Rattle.rules.specs.Rows.{Held, part_of, number_of}
use Rattle.rules.specs.Blocks.{file_table, range_table, elec_table, sym_table}
use Rattle.rules.specs.Sets.{Figure, LayerBlock, Contents, Set, first_contents, with_block, elements_of, used_in, with_volume}
use Rattle.rules.specs.Machine.{in_layer}
use Rattle.rules.proofs.Chains.{map-append, total-more}
use Rattle.rules.proofs.Runs.{head-snoc}
use Rattle.standing.specs.Standing.{home_used, links_with, closed_links, tally_of, links_of_block, links_of_volume, links_in}
use Rattle.standing.proofs.MoreRecords.{flat_map_more, file-block}

-- the tally, by what FILE_FORMAT of the first volume holds
abbrev tally_by : Held → ℕ → ℕ → ℕ → ℕ → ℕ → ℕ → List ℕ
tally_by f here now closed symbols layers serials =
    number_of "arc" range_table (part_of f 1) ∷ number_of "E_sym" elec_table (part_of f 3) ∷ number_of "S_elec" sym_table (part_of f 4)
    ∷ number_of "date" file_table (part_of f 0) ∷ number_of "time" file_table (part_of f 0) ∷ number_of "all_ele" file_table (part_of f 0)
    ∷ here ∷ now ∷ closed ∷ symbols ∷ layers ∷ serials ∷ number_of "E_wire" elec_table (part_of f 3) ∷ []

-- ── a closed layer ──
module _ (s : Set) (m : ℕ) (fs : List Figure) where
  abbrev pub closed_layer : LayerBlock
  closed_layer = record { layer = m; figures = fs }

  abbrev pub with_closed : Set
  with_closed = with_block closed_layer s

  pub serials-closed : links_with s fs ≡ links_in with_closed
  serials-closed =
      let bs : List LayerBlock = s.now.blocks in
      append_assoc (closed_links s) (links_of_volume s.now) (links_of_block closed_layer)
      ∙ ap (λ (y : List (List ℕ)). closed_links s ++ y)
      (sym (flat_map_more links_of_block bs closed_layer))

  pub used-closed : home_used s (in_layer m) ≡ used_in with_closed.now
  used-closed = sym (map-append (λ (y : LayerBlock). y.layer) s.now.blocks (closed_layer ∷ []))

  pub elements-closed : elements_of with_closed.now ≡ elements_of s.now + length fs
  elements-closed = total-more (λ (y : LayerBlock). length y.figures) s.now.blocks closed_layer

  pub tally-closed : (t : List ℕ) (here n : ℕ) → n ≡ length fs → t ≡ tally_of s here (length s.drawing.layers) (length (links_with s fs))
      → set t 7 (get_or t 7 0 + n) ≡ tally_of with_closed here (length s.drawing.layers) (length (links_in with_closed))
  tally-closed t here n q e =
      let told : Held → ℕ → ℕ → List ℕ = λ f now serials. tally_by f here now (total elements_of s.volumes) (length s.symbols) (length s.drawing.layers) serials in
      ap (λ (y : List ℕ). set y 7 (get_or y 7 0 + n)) e
      ∙ ap (λ (y : ℕ). told (first_contents s).file (elements_of s.now + y) (length (links_with s fs))) q
      ∙ ap (λ (y : ℕ). told (first_contents s).file y (length (links_with s fs))) (sym elements-closed)
      ∙ ap (λ (y : List (List ℕ)). told (first_contents s).file (elements_of with_closed.now) (length y)) serials-closed
      ∙ ap (λ (y : Held). told y (elements_of with_closed.now) (length (links_in with_closed))) (sym (file-block closed_layer s))

-- ── a closed volume ──
pub closed-serials : (s : Set) → closed_links (with_volume s) ≡ links_in s
closed-serials s = flat_map_more links_of_volume s.volumes s.now

pub closed-tally : (s : Set) (here layers : ℕ)
    → tally_of (with_volume s) here layers (length (closed_links (with_volume s))) ≡ tally_by (first_contents s).file here (elements_of s.now) (total elements_of s.volumes + elements_of s.now) (length s.symbols) layers (length (links_in s))
closed-tally s here layers =
    let v : Set = with_volume s in
    ap (λ (n : ℕ). tally_of v here layers n) (ap length (closed-serials s))
    ∙ ap (λ (n : ℕ). tally_by (first_contents v).file here (elements_of s.now) n (length s.symbols) layers (length (links_in s))) (total-more elements_of s.volumes s.now)
    ∙ ap (λ (u : Contents). tally_by u.file here (elements_of s.now) (total elements_of s.volumes + elements_of s.now) (length s.symbols) layers (length (links_in s))) (head-snoc s.now s.now s.volumes)

pub closed-used : (s : Set) → flat (map used_in s.volumes) ++ used_in s.now ≡ flat (map used_in (with_volume s).volumes) ++ []
closed-used s = sym (append-nil (flat (map used_in (with_volume s).volumes)) ∙ flat_map_more used_in s.volumes s.now)
