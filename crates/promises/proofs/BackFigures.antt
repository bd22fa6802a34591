-- Figures written and read again: lines, points, texts.
use Prim.Native.Nat.{ℕ, ◌+◌, ◌≤◌, ◌<◌}
use mathlib.Core.Bool.{Bool, true, false, not}
use mathlib.Core.List.{List, [], ◌∷◌, ◌++◌, map, append-nil, append_assoc}
use mathlib.Core.Path.{◌≡◌, refl, ◌∙◌, ap}
use native.Mathlib.Omega.{arith}
use lib.Dec.{leb}
use lib.ListN.{length, get_or, length-append, length-map}
use borrow.Author.Tests.{not-true, lt-leb, leb-true}
use Rattle.rules.specs.Base.{bytes, all}
use Rattle.rules.specs.RefusalNumbers.{got}
use Rattle.rules.specs.Lines.{form_of}
use Rattle.rules.specs.Values.{Num, nums, Known}
use Rattle.rules.specs.Rows.{Rule, Slots, blank, rows_there, limit_reached, rows_at_limit, act, entry, complete}
use Rattle.rules.specs.Figures.{layer_table, figure_table, most_points, point_table, text_table}
use Rattle.rules.specs.Sets.{Point, Figure, plain, chain, lettering, placed, Symbol, Set, range_of, is_single, known_of, Edge, wired, passed, is_wired}
use Rattle.rules.specs.Machine.{Home, in_element, in_layer, State, hide, figures, successive, texts, is_layer, home_table}
use Rattle.rules.specs.LineByLine.{step_in}
use Rattle.rules.specs.FixedForm.{opens_block, line_of, no_inner, open_line, block, show_slots, show_points}
use Rattle.rules.specs.RecordTable.{rule_at}
use Rattle.rules.proofs.Rows.{Row, here, there, differ, row-all, reaches-none}
use Rattle.promises.specs.PlacesApart.{bare_slots, bare_form, bare_point}
use Rattle.promises.proofs.Good.{GoodRow, Always, none0, GoodPoints, GoodChain, GoodText}
use Rattle.promises.proofs.BackSlots.{line_for, plain_env, close-form, retaken, Reads, one_line, no_lines, ◌and◌, free-mark, act-entry, calm, read-calm}
use Rattle.promises.proofs.BackFile.{sound, sound-differ, sound-plain}
use Rattle.promises.proofs.Bare.{marks-bare}
use Rattle.promises.proofs.Nameless.{nameless, line_any}

-- how many records have been taken when n had been before
abbrev pub taken_points : ℕ → List Point → ℕ
taken_points n [] = n
taken_points n (p ∷ ps) = taken_points (n + 1) ps

abbrev pub taken_edges : ℕ → List Edge → ℕ
taken_edges n [] = n
taken_edges n (e ∷ es) = taken_edges (n + 1) es

abbrev pub taken_figure : ℕ → Figure → ℕ
taken_figure n (plain m j v) = n + 1
taken_figure n (chain m ps) = taken_points (n + 1) ps
taken_figure n (lettering m s) = n + 1
taken_figure n (placed m h) = n + 1
taken_figure n (wired m w) = taken_edges (n + 2) w.elements
taken_figure n (passed m) = n + 2

abbrev pub taken_figures : ℕ → List Figure → ℕ
taken_figures n [] = n
taken_figures n (f ∷ fs) = taken_figures (taken_figure n f) fs

-- ── rows that may stand again and again ──
pub full_at : (n : ℕ) {t : List Rule} {i : ℕ} {r : Rule} → Row t i r → get_or (rows_at_limit n t) i false ≡ limit_reached n r.times
full_at n here = refl
full_at n (there w) = full_at n w

abbrev pub endless : List Rule → Bool
endless t = all (λ r. not (limit_reached 0 r.times)) t

home-endless : (S : Set) (h : Home) → (endless (home_table S h) ≡ true) × (differ (home_table S h) ≡ true)
unfolding figure_table layer_table
home-endless S (in_element y) = (refl, refl)
home-endless S (in_layer m) = go (is_single S) (is_wired S)
  where
    go : (b w : Bool) → (endless (layer_table b w) ≡ true) × (differ (layer_table b w) ≡ true)
    go true true = (refl, refl)
    go true false = (refl, refl)
    go false true = (refl, refl)
    go false false = (refl, refl)

-- ── a figure that is one line ──
module _ (next : List ℕ) (S : Set) (n : ℕ) (h : Home) (fs : List Figure) where
  abbrev table : List Rule
  table = home_table (retaken n S) h

  pub plain-line : (j : ℕ) (v : List Num) (r : Rule) → Row table j r → GoodRow (known_of S) (range_of S) r (nums v) → opens_block r.holds (nums v) ≡ false
      → step_in plain_env (line_for next false (line_of (known_of S) r (nums v))) (figures (retaken n S) h fs) ≡ got (figures (retaken (n + 1) S) h (fs ++ plain 0 j v ∷ []))
  plain-line j v r w g c =
      rw (act-entry (known_of S) (range_of S) table j r (nums v) w g (home-endless (retaken n S) h).1 (rows_at_limit 0 table)
      (full_at 0 w ∙ not-true (limit_reached 0 r.times) (row-all (λ r. not (limit_reached 0 r.times)) w (home-endless (retaken n S) h).0)) c)

-- ── points ──
point-sound : (b : Bool) → sound (point_table b) ≡ true
unfolding point_table
point-sound true = refl
point-sound false = refl

point-act : (k k' : Known) (b : Bool) (m : ℕ) (v : List Num) → Always none0 (rule_at (point_table b) 0) (nums v) → m < most_points
    → act k (point_table b) none0 (rows_at_limit m (point_table b)) (bare_form (form_of 0 (line_of k' (rule_at (point_table b) 0) (nums v)))) ≡ entry 0 (nums v)
unfolding point_table
point-act k k' b m v g l =
    let w : Row (point_table b) 0 (rule_at (point_table b) 0) = here in
    ap (λ c. act k (point_table b) none0 (rows_at_limit m (point_table b)) (bare_form (form_of 0 c))) (line_any (rule_at (point_table b) 0) (row-all (λ r. nameless r.holds) w (sound-plain (point_table b) (point-sound b))) k' k (nums v))
    ∙ act-entry k none0 (point_table b) 0 (rule_at (point_table b) 0) (nums v) w (g k) (sound-differ (point_table b) (point-sound b)) (rows_at_limit m (point_table b)) (lt-leb most_points m l) refl

-- in a state that holds points
read-points : (next : List ℕ) (k : Known) (b : Bool) (K : ℕ → List Point → State)
    → ((n : ℕ) (ps : List Point) (v : List Num) → Always none0 (rule_at (point_table b) 0) (nums v) → length ps < most_points
    → step_in plain_env (line_for next false (line_of k (rule_at (point_table b) 0) (nums v))) (K n ps) ≡ got (K (n + 1) (ps ++ record { line = 0; values = v } ∷ [])))
    → (n : ℕ) (ps qs : List Point) → GoodPoints b qs → length ps + length qs ≤ most_points → Reads next (K n ps) (show_points k b qs) (K (taken_points n qs) (ps ++ map bare_point qs))
read-points next k b K s n ps [] g l = rw (append-nil ps) (no_lines next (K n ps))
read-points next k b K s n ps (q ∷ qs) g l =
    one_line next (line_of k (rule_at (point_table b) 0) (nums q.values)) (K n ps) (K (n + 1) (ps ++ bare_point q ∷ [])) (s n ps q.values g.0 (omega arith))
    and rw (← append_assoc ps (bare_point q ∷ []) (map bare_point qs))
    (read-points next k b K s (n + 1) (ps ++ bare_point q ∷ []) qs g.1 (rw (length-append ps (bare_point q ∷ [])) (omega arith)))

pub read-hidden : (next : List ℕ) (k : Known) (S : Set) (y : Symbol) (n : ℕ) (qs : List Point) → GoodPoints false qs → leb (length qs) most_points ≡ true
    → Reads next (hide (retaken n S) y []) (show_points k false qs) (hide (retaken (taken_points n qs) S) y (map bare_point qs))
read-hidden next k S y n qs g l =
    read-points next k false (λ n ps. hide (retaken n S) y ps) (λ n ps v g l. rw (point-act (known_of S) k false (length ps) v g l)) n [] qs g
    (let m = leb-true (length qs) most_points l in omega arith)

-- ── figures that are blocks, in a layer or in a symbol ──
opens-chain : (next : List ℕ) (S : Set) (n : ℕ) (h : Home) (fs : List Figure)
    → step_in plain_env (line_for next false (open_line (bytes "successive"))) (figures (retaken n S) h fs) ≡ got (successive (retaken (n + 1) S) h fs 0 [])
unfolding form_of figure_table layer_table
opens-chain next S n (in_element y) fs = rw (reaches-none (range_of S))
opens-chain next S n (in_layer m) fs = rw (reaches-none (range_of S))

opens-text : (next : List ℕ) (S : Set) (n : ℕ) (h : Home) (fs : List Figure)
    → step_in plain_env (line_for next false (open_line (bytes "text"))) (figures (retaken n S) h fs) ≡ got (texts (retaken (n + 1) S) h fs 0 (blank (text_table (is_layer h) 4 12)))
unfolding form_of figure_table layer_table
opens-text next S n (in_element y) fs = rw (reaches-none (range_of S))
opens-text next S n (in_layer m) fs = rw (reaches-none (range_of S))

-- the table of texts, whatever the record's places
pub text-sound : (b : Bool) (p q : ℕ) → (sound (text_table b p q) ≡ true) × (calm (text_table b p q) ≡ true)
unfolding text_table
text-sound true p q = (refl, refl)
text-sound false p q = (refl, refl)

point-complete : (b : Bool) (m : ℕ) → complete none0 (point_table b) (rows_at_limit m (point_table b)) ≡ true
unfolding point_table
point-complete b m = refl

module _ (next : List ℕ) (k : Known) (S : Set) (n : ℕ) (h : Home) (fs : List Figure) where
  pub read-chain : (qs : List Point) → GoodChain (is_layer h) qs
      → Reads next (figures (retaken n S) h fs) (block (bytes "successive") (show_points k (is_layer h) qs)) (figures (retaken (taken_points (n + 1) qs) S) h (fs ++ chain 0 (map bare_point qs) ∷ []))
  read-chain qs g =
      one_line next (open_line (bytes "successive")) (figures (retaken n S) h fs) (successive (retaken (n + 1) S) h fs 0 []) (opens-chain next S n h fs)
      and read-points next k (is_layer h) (λ n ps. successive (retaken n S) h fs 0 ps) (λ n ps v g l. rw (point-act (known_of S) k (is_layer h) (length ps) v g l)) (n + 1) [] qs g.points
      (let l = leb-true (length qs) most_points g.most in omega arith)
      and one_line next (bytes "}") (successive (retaken (taken_points (n + 1) qs) S) h fs 0 (map bare_point qs)) (figures (retaken (taken_points (n + 1) qs) S) h (fs ++ chain 0 (map bare_point qs) ∷ []))
      (rw (close-form, point-complete (is_layer h) (length (map bare_point qs)), length-map qs bare_point, g.least))

  pub read-text : (o : Slots) → GoodText (is_layer h) o
      → Reads next (figures (retaken n S) h fs) (block (bytes "text") (show_slots k (text_table (is_layer h) 4 12) o no_inner)) (figures (retaken (n + 1) S) h (fs ++ lettering 0 (bare_slots o) ∷ []))
  read-text o g =
      let t = text_table (is_layer h) 4 12 in
      let d = text-sound (is_layer h) 4 12 in
      one_line next (open_line (bytes "text")) (figures (retaken n S) h fs) (texts (retaken (n + 1) S) h fs 0 (blank t)) (opens-text next S n h fs)
      and read-calm next k no_inner (Always none0) (λ u. texts (retaken (n + 1) S) h fs 0 u) t o d.1
      (λ i r v w g u f z. rw (line_any r (row-all (λ r. nameless r.holds) w (sound-plain t d.0)) k (known_of S) v, act-entry (known_of S) none0 t i r v w (g (known_of S)) (sound-differ t d.0) (rows_there u) (free-mark u i f) z)) g.good
      and one_line next (bytes "}") (texts (retaken (n + 1) S) h fs 0 (bare_slots o)) (figures (retaken (n + 1) S) h (fs ++ lettering 0 (bare_slots o) ∷ []))
      (rw (close-form, marks-bare o, g.all))
