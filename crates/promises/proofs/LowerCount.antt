-- The lower class shows no more records than the higher.
use Prim.Native.Nat.{ℕ, zero, suc, ◌≤◌}
use mathlib.Core.Bool.{Bool, true, false, cond}
use mathlib.Core.List.{List, [], ◌∷◌, ◌++◌, map}
use mathlib.Core.Path.{◌≡◌}
use native.Mathlib.Nat.{le_refl}
use native.Mathlib.Omega.{arith}
use lib.ListN.{length, length-append, length-map}
use Rattle.rules.specs.declared.Class.{Class}
use Rattle.rules.specs.Base.{flat}
use Rattle.rules.specs.RangeClass.{hides, knows_wires}
use Rattle.rules.specs.Sets.{Wire, Figure, plain, chain, lettering, placed, wired, passed, Drawing, Symbol, Contents, Set, range_of, wires_of}
use Rattle.rules.specs.Machine.{Home, in_element, in_layer, State, top, file, drawing, layer_names, defines, symbol, hide, elements, figures, successive, texts, placing, skipping, ended, symbol_block, wire_block, wire_unread, Owned}
use Rattle.rules.proofs.Chains.{by_cond, nil-map}
use Rattle.promises.specs.Acceptance.{Place, place}
use Rattle.promises.proofs.RecordLines.{point_places, figure_places, figures_places, symbol_places, drawn_places, head_places, block_places, body_places, later_places, front_places, set_places}
use Rattle.promises.proofs.CountState.{number, file_places, open_places, within, in_figures, owned_places, shown}
use Rattle.promises.proofs.Lower.{text_least, wire_text_least, lower_read, ranges_of, lower_text, read_on, skips_on, lower_figure, lower_figures, lower_block, lower_contents, lower_set, lower_so_far, lower_owned, lower_wire, lower}

abbrev Fewer : List Place → List Place → Type 0
Fewer a b = length a ≤ length b

fewer-append : (a b a' b' : List Place) → Fewer a a' → Fewer b b' → Fewer (a ++ b) (a' ++ b')
fewer-append a b a' b' p q = rw (length-append a b, length-append a' b') (omega (arith, p, q))

fewer-flat : {A : Type 0} (f : A → List Place) (g : A → A) → ((a : A) → Fewer (f (g a)) (f a)) → (s : List A) → Fewer (flat (map f (map g s))) (flat (map f s))
fewer-flat f g h [] = le_refl 0
fewer-flat f g h (a ∷ s) = fewer-append (f (g a)) (flat (map f (map g s))) (f a) (flat (map f s)) (h a) (fewer-flat f g h s)

-- ── what is read of layers ──
module _ (c d : Class) where
  figure-fewer : (k : ℕ) (f : Figure) → Fewer (figure_places k (lower_figure c d f)) (figure_places k f)
  figure-fewer k (plain n j v) = le_refl 1
  figure-fewer k (chain n ps) = le_refl (length (figure_places k (chain n ps)))
  figure-fewer k (lettering n s) = le_refl 1
  figure-fewer k (placed n h) = le_refl 1
  figure-fewer k (wired n w) =
      by_cond (λ f. Fewer (figure_places k f) (figure_places k (wired n w))) (knows_wires c) (λ _. le_refl (length (figure_places k (wired n w)))) (λ _. omega arith)
  figure-fewer k (passed n) = le_refl 2

  -- a block that is open in a layer: a wire that is skipped whole has the two records at its own line alone
  owned-fewer : (k n : ℕ) (b : Owned) → Fewer (owned_places k n (lower_owned c d b)) (owned_places k n b)
  owned-fewer k n (symbol_block o) = le_refl 1
  owned-fewer k n (wire_block w) =
      by_cond (λ b. Fewer (owned_places k n b) (owned_places k n (wire_block w))) (knows_wires c) (λ _. le_refl (length (owned_places k n (wire_block w)))) (λ _. omega arith)
  owned-fewer k n wire_unread = le_refl 2

  figures-fewer : (k : ℕ) (fs : List Figure) → Fewer (figures_places k (lower_figures c d fs)) (figures_places k fs)
  figures-fewer k fs = fewer-flat (figure_places k) (lower_figure c d) (figure-fewer k) fs

  body-fewer : (k : ℕ) (v : Contents) → Fewer (body_places k (lower_contents c d v)) (body_places k v)
  body-fewer k v = fewer-flat (block_places k) (lower_block c d) (λ u. figures-fewer k u.figures) v.blocks

  abbrev lowered : List Contents → List Contents
  lowered vs = map (lower_contents c d) vs

  later-fewer : (k : ℕ) (vs : List Contents) → Fewer (later_places k (lowered vs)) (later_places k vs)
  later-fewer k [] = le_refl 0
  later-fewer k (v ∷ vs) =
      fewer-append (place k v.line ∷ body_places k (lower_contents c d v)) (later_places (suc k) (lowered vs)) (place k v.line ∷ body_places k v) (later_places (suc k) vs)
      (omega (arith, body-fewer k v)) (later-fewer (suc k) vs)

  set-fewer : (dr : Drawing) (ys : List Symbol) (vs : List Contents) → Fewer (set_places dr ys (lowered vs)) (set_places dr ys vs)
  set-fewer dr ys [] = le_refl 0
  set-fewer dr ys (v ∷ vs) =
      fewer-append (front_places 1 dr ys v ++ body_places 1 (lower_contents c d v)) (later_places 2 (lowered vs)) (front_places 1 dr ys v ++ body_places 1 v) (later_places 2 vs)
      (fewer-append (front_places 1 dr ys v) (body_places 1 (lower_contents c d v)) (front_places 1 dr ys v) (body_places 1 v) (le_refl (length (front_places 1 dr ys v))) (body-fewer 1 v))
      (later-fewer 2 vs)

  open-fewer : (dr : Drawing) (ys : List Symbol) (vs : List Contents) (v : Contents) → Fewer (open_places dr ys (lowered vs) (lower_contents c d v)) (open_places dr ys vs v)
  open-fewer dr ys [] v = le_refl (length (front_places 1 dr ys v))
  open-fewer dr ys (u ∷ us) v =
      fewer-append (set_places dr ys (lowered (u ∷ us))) (place (suc (length (lowered (u ∷ us)))) v.line ∷ []) (set_places dr ys (u ∷ us)) (place (suc (length (u ∷ us))) v.line ∷ [])
      (set-fewer dr ys (u ∷ us)) (le_refl 1)

-- ── a state ──
module _ (took : ℕ) (c : Class) where
  number_same : (s : Set) → number (lower_set took c s) ≡ number s
  number_same s = rw (length-map s.volumes (lower_contents c (ranges_of s)))

  -- places that go by the volume's number
  by-number : (at : ℕ → List Place) (s : Set) → Fewer (at (number (lower_set took c s))) (at (number s))
  by-number at s = rw (number_same s) (le_refl (length (at (number s))))

  closed-fewer : (s : Set) → Fewer (set_places s.drawing s.symbols (lower_set took c s).volumes) (set_places s.drawing s.symbols s.volumes)
  closed-fewer s = set-fewer c (ranges_of s) s.drawing s.symbols s.volumes

  within-fewer : (s : Set) → Fewer (within (lower_set took c s)) (within s)
  within-fewer s =
      rw (number_same s)
      (fewer-append (open_places s.drawing s.symbols (lower_set took c s).volumes (lower_set took c s).now) (body_places (number s) (lower_set took c s).now)
      (open_places s.drawing s.symbols s.volumes s.now) (body_places (number s) s.now)
      (open-fewer c (ranges_of s) s.drawing s.symbols s.volumes s.now) (body-fewer c (ranges_of s) (number s) s.now))

  in-fewer : (s : Set) (h : Home) (fs : List Figure) → Fewer (in_figures (lower_set took c s) h (lower_so_far c (ranges_of s) h fs)) (in_figures s h fs)
  in-fewer s (in_element y) fs = by-number (λ k. (front_places k s.drawing s.symbols s.now ++ (place k y.line ∷ point_places k y.hidden)) ++ figures_places k fs) s
  in-fewer s (in_layer k) fs =
      fewer-append (within (lower_set took c s)) (figures_places (number (lower_set took c s)) (lower_figures c (ranges_of s) fs)) (within s) (figures_places (number s) fs)
      (within-fewer s) (rw (number_same s) (figures-fewer c (ranges_of s) (number s) fs))

  -- with an open figure's own records behind
  open-figure : (s : Set) (h : Home) (fs : List Figure) (a b : List Place) → Fewer a b → Fewer (in_figures (lower_set took c s) h (lower_so_far c (ranges_of s) h fs) ++ a) (in_figures s h fs ++ b)
  open-figure s h fs a b e = fewer-append (in_figures (lower_set took c s) h (lower_so_far c (ranges_of s) h fs)) a (in_figures s h fs) b (in-fewer s h fs) e

  open_owned : (s : Set) (k : ℕ) (fs : List Figure) (n : ℕ) (b : Owned)
      → Fewer (in_figures (lower_set took c s) (in_layer k) (lower_figures c (ranges_of s) fs) ++ owned_places (number (lower_set took c s)) n (lower_owned c (ranges_of s) b)) (in_figures s (in_layer k) fs ++ owned_places (number s) n b)
  open_owned s k fs n b =
      open-figure s (in_layer k) fs (owned_places (number (lower_set took c s)) n (lower_owned c (ranges_of s) b)) (owned_places (number s) n b)
      (rw (number_same s) (owned-fewer c (ranges_of s) (number s) n b))

  -- in a wire the lower class is in the wire too, in a text of it that it skips, or in one that it skips whole
  open-wire : (s : Set) (k : ℕ) (fs : List Figure) (n : ℕ) (w : Wire) (p : ℕ) → Fewer (shown (lower_wire took c s k fs n w p)) (shown (placing s k fs n (wire_block w) p))
  open-wire s k fs n w p = go (knows_wires c) p (open_owned s k fs n (wire_block w))
    where
      behind : Owned → List Place
      behind b = in_figures (lower_set took c s) (in_layer k) (lower_figures c (ranges_of s) fs) ++ owned_places (number (lower_set took c s)) n b

      in-text : (t : Bool) (p : ℕ) → Fewer (behind (wire_block (lower_read c.wires (wires_of s) w))) (shown (placing s k fs n (wire_block w) p))
          → Fewer (shown (lower_text t (lower_set took c s) k (lower_figures c (ranges_of s) fs) n (lower_read c.wires (wires_of s) w) p)) (shown (placing s k fs n (wire_block w) p))
      in-text true p e = e
      in-text false p e = e

      go : (t : Bool) (p : ℕ) → Fewer (behind (cond t (wire_block (lower_read c.wires (wires_of s) w)) wire_unread)) (shown (placing s k fs n (wire_block w) p))
          → Fewer (shown (cond t (read_on c.wires (wires_of s) (lower_set took c s) k (lower_figures c (ranges_of s) fs) n (lower_read c.wires (wires_of s) w) p) (skips_on (lower_set took c s) k (lower_figures c (ranges_of s) fs) n p)))
          (shown (placing s k fs n (wire_block w) p))
      go true zero e = e
      go true (suc p) e = in-text (hides c.wires (wires_of s) wire_text_least) (suc p) e
      go false zero e = e
      go false (suc p) e = e

  pub fewer : (st : State) → Fewer (shown (lower took c st)) (shown st)
  fewer (top s zero) = closed-fewer s
  fewer (top s (suc zero)) = le_refl 2
  fewer (top s (suc (suc zero))) = by-number (λ k. head_places k s.now ++ drawn_places k s.drawing) s
  fewer (top s (suc (suc (suc zero)))) = within-fewer s
  fewer (top s (suc (suc (suc (suc k))))) = closed-fewer s
  fewer (file s n h p) =
      fewer-append (set_places s.drawing s.symbols (lower_set took c s).volumes) (file_places (lower_set took c s).volumes n) (set_places s.drawing s.symbols s.volumes) (file_places s.volumes n)
      (closed-fewer s) (rw (number_same s, nil-map (lower_contents c (ranges_of s)) s.volumes) (le_refl (length (file_places s.volumes n))))
  fewer (drawing s d) = by-number (λ k. head_places k s.now ++ drawn_places k d) s
  fewer (layer_names s d) = by-number (λ k. head_places k s.now ++ drawn_places k d) s
  fewer (defines s b) = by-number (λ k. front_places k s.drawing s.symbols s.now) s
  fewer (symbol s y) = by-number (λ k. front_places k s.drawing s.symbols s.now ++ symbol_places k y) s
  fewer (hide s y ps) = by-number (λ k. front_places k s.drawing s.symbols s.now ++ (place k y.line ∷ (figures_places k y.figures ++ point_places k ps))) s
  fewer (elements s) = within-fewer s
  fewer (figures s h fs) = in-fewer s h fs
  fewer (successive s h fs n ps) =
      open-figure s h fs (place (number (lower_set took c s)) n ∷ point_places (number (lower_set took c s)) ps) (place (number s) n ∷ point_places (number s) ps)
      (by-number (λ k. place k n ∷ point_places k ps) s)
  fewer (texts s h fs n o) = open-figure s h fs (place (number (lower_set took c s)) n ∷ []) (place (number s) n ∷ []) (le_refl 1)
  fewer (placing s k fs n (symbol_block o) zero) = open_owned s k fs n (symbol_block o)
  fewer (placing s k fs n (symbol_block o) (suc p)) =
      by_cond (λ st. Fewer (shown st) (shown (placing s k fs n (symbol_block o) (suc p)))) (hides c.symbols (range_of s) text_least)
      (λ _. open_owned s k fs n (symbol_block o))
      (λ _. open_owned s k fs n (symbol_block o))
  fewer (placing s k fs n (wire_block w) p) = open-wire s k fs n w p
  fewer (placing s k fs n wire_unread p) = open_owned s k fs n wire_unread
  fewer (skipping s k fs n b d) = open_owned s k fs n b
  fewer (ended s) = closed-fewer s
