-- Two classes on the same lines: what the higher one's state is for the lower one, and that each line keeps it so.
use Rattle.std.specs.Prelude.{Option, Some, None}
use Prim.Native.Nat.{ℕ, zero, suc, ◌≤◌}
use mathlib.Core.Bool.{Bool, true, false, cond, ◌&&◌, ◌||◌, not}
use mathlib.Core.List.{List, [], ◌∷◌, map}
use mathlib.Core.Path.{◌≡◌, refl, sym, ◌∙◌, ap}
use native.Mathlib.Omega.{arith}
use lib.Dec.{leb, ltb}
use lib.ListN.{length, get_or, set, drop, replicate, length-map}
use lib.Seq.{set-get_or}
use borrow.Author.Tests.{le-leb, lt-ltb, leb-true, leb-false, ltb-true}
use Rattle.rules.specs.declared.Digits.{Digits}
use Rattle.rules.specs.declared.Class.{Class}
use Rattle.rules.specs.Base.{total}
use Rattle.rules.specs.RefusalNumbers.{Got, got, map_g}
use Rattle.rules.specs.RangeClass.{digits, reaches, exceeds, hides, knows_wires}
use Rattle.rules.specs.Values.{Value}
use Rattle.rules.specs.Rows.{Rule, Slots, blank, Held, part_of, enter}
use Rattle.rules.specs.Blocks.{blank_held}
use Rattle.rules.specs.Figures.{placed_table, placed_tables, text_table, wire_table, first_group_row}
use Rattle.rules.specs.Sets.{Wire, Figure, plain, chain, lettering, placed, wired, passed, LayerBlock, Contents, Set, head_or, range_of, wires_of, elements_of, used_in}
use Rattle.rules.specs.Wires.{past_elements}
use Rattle.rules.specs.Machine.{Home, in_element, in_layer, State, top, file, drawing, layer_names, defines, symbol, hide, elements, figures, successive, texts, placing, skipping, ended, set_of}
use Rattle.rules.specs.Machine.{symbol_block, wire_block, wire_unread, Owned, no_wire}
use Rattle.rules.proofs.Chains.{and_left, and_right, and_true, and_false, or_true, clash, cond_same, ap-cond, map-got, map_compose, map-agree}
use Rattle.rules.proofs.Rows.{Row, here, there}
use Rattle.promises.specs.DemandThree.{NotAbove}
use Rattle.promises.proofs.BackSlots.{retaken}

-- ── digits ──
module _ (low high : Digits) (le : NotAbove low high) where
  pub reaches-up : (l : Digits) → reaches low l ≡ true → reaches high l ≡ true
  reaches-up l e =
      and_true _ _
      (le-leb l.middle high.middle (omega (arith, leb-true l.middle low.middle (and_left (leb l.middle low.middle) _ e), le.middles)))
      (le-leb l.last high.last (omega (arith, leb-true l.last low.last (and_right (leb l.middle low.middle) _ e), le.lasts)))

  pub exceeds-down : (d : Digits) → exceeds d high ≡ true → exceeds d low ≡ true
  exceeds-down d e = go (ltb high.middle d.middle) refl (ltb high.last d.last) refl e
    where
      go : (a : Bool) → ltb high.middle d.middle ≡ a → (b : Bool) → ltb high.last d.last ≡ b → (a || b) ≡ true → exceeds d low ≡ true
      go true p b q e = rw (lt-ltb low.middle d.middle (omega (arith, ltb-true high.middle d.middle p, le.middles)))
      go false p true q e =
          rw (lt-ltb low.last d.last (omega (arith, ltb-true high.last d.last q, le.lasts))) (or_true (ltb low.middle d.middle))
      go false p false q e = clash e refl

  pub hides-up : (d l : Digits) → hides low d l ≡ false → hides high d l ≡ false
  hides-up d l e = go (reaches d l) (reaches low l) refl e
    where
      go : (a b : Bool) → reaches low l ≡ b → (a && not b) ≡ false → (a && not (reaches high l)) ≡ false
      go false b q e = refl
      go true true q e = rw (reaches-up l q)
      go true false q e = clash refl e

-- a class that knows wires: none above it is without
pub knows-up : (low high : Class) → NotAbove low.wires high.wires → knows_wires low ≡ true → knows_wires high ≡ true
knows-up low high le e = reaches-up low.wires high.wires le _ e

-- a level that the class knows is not left out; one that it doesn't know, and the file has, is, and a digit exceeds there
pub known-shows : (c d l : Digits) → reaches c l ≡ true → hides c d l ≡ false
known-shows c d l e = rw e (and_false (reaches d l))

pub unknown-hides : (c d l : Digits) → reaches d l ≡ true → reaches c l ≡ false → hides c d l ≡ true
unknown-hides c d l p q = rw (p, q)

pub unknown-exceeds : (c d l : Digits) → reaches d l ≡ true → reaches c l ≡ false → exceeds d c ≡ true
unknown-exceeds c d l p q = go (leb l.middle c.middle) refl (leb l.last c.last) refl q
  where
    dm : l.middle ≤ d.middle
    dm = leb-true l.middle d.middle (and_left (leb l.middle d.middle) _ p)

    dl : l.last ≤ d.last
    dl = leb-true l.last d.last (and_right (leb l.middle d.middle) _ p)

    go : (a : Bool) → leb l.middle c.middle ≡ a → (b : Bool) → leb l.last c.last ≡ b → (a && b) ≡ false → exceeds d c ≡ true
    go true x true y e = clash refl e
    go true x false y e = rw (lt-ltb c.last d.last (omega (arith, leb-false l.last c.last y, dl))) (or_true (ltb c.middle d.middle))
    go false x b y e = rw (lt-ltb c.middle d.middle (omega (arith, leb-false l.middle c.middle x, dm)))

-- ── what a class leaves out of a block, in a file of the range d ──
-- a list aligned with the rows of a table, with z for what is left out
abbrev pub mask_rows : {A : Type 0} → A → Digits → Digits → List Rule → List A → List A
mask_rows z c d t [] = []
mask_rows z c d [] (o ∷ s) = o ∷ s
mask_rows z c d (r ∷ rs) (o ∷ s) = cond (hides c d r.least) z o ∷ mask_rows z c d rs s

abbrev pub mask_slots : Digits → Digits → List Rule → Slots → Slots
mask_slots c d t s = mask_rows None c d t s

abbrev pub wiped : Slots → Slots
wiped s = map (λ o. None) s

-- the digits from which on a placed symbol has a text
abbrev pub text_least : Digits
text_least = digits 0 2

abbrev pub inner_part : Digits → Digits → Slots → Slots
inner_part c d s = cond (hides c d text_least) (wiped s) s

abbrev pub lower_held : Digits → Digits → Held → Held
lower_held c d [] = []
lower_held c d (s ∷ h) = mask_slots c d placed_table s ∷ map (inner_part c d) h

-- .. and of a wire. Its table's rows from `direc` on have a list each in `groups`; from these digits on it has texts.
abbrev pub group_table : List Rule
group_table = drop first_group_row wire_table

abbrev pub wire_text_least : Digits
wire_text_least = digits 0 5

abbrev pub shown_texts : {A : Type 0} → Digits → Digits → List A → List A
shown_texts c d ss = cond (hides c d wire_text_least) [] ss

abbrev pub lower_read : Digits → Digits → Wire → Wire
lower_read c d w =
    record {
      elements = w.elements;
      groups = mask_rows [] c d group_table w.groups;
      texts = shown_texts c d w.texts;
      own = mask_slots c d wire_table w.own;
      writing = shown_texts c d w.writing;
      past = w.past;
    }

-- the file's ranges, as a class has its parts
abbrev pub ranges_of : Set → Class
ranges_of s = record { symbols = range_of s; wires = wires_of s }

abbrev pub lower_figure : Class → Class → Figure → Figure
lower_figure c d (plain n j v) = plain n j v
lower_figure c d (chain n ps) = chain n ps
lower_figure c d (lettering n s) = lettering n s
lower_figure c d (placed n h) = placed n (lower_held c.symbols d.symbols h)
lower_figure c d (wired n w) = cond (knows_wires c) (wired n (lower_read c.wires d.wires w)) (passed n)
lower_figure c d (passed n) = passed n

abbrev pub lower_figures : Class → Class → List Figure → List Figure
lower_figures c d fs = map (lower_figure c d) fs

abbrev pub lower_block : Class → Class → LayerBlock → LayerBlock
lower_block c d u = record { layer = u.layer; figures = lower_figures c d u.figures }

abbrev pub lower_contents : Class → Class → Contents → Contents
lower_contents c d v = record { line = v.line; file = v.file; blocks = map (lower_block c d) v.blocks }

-- with so many records taken: the count is the lower class's own, for it takes no record of what it leaves out
abbrev pub lower_in : ℕ → Class → Class → Set → Set
lower_in took c d s =
    record { drawing = s.drawing; symbols = s.symbols; volumes = map (lower_contents c d) s.volumes; now = lower_contents c d s.now; taken = took }

abbrev pub lower_set : ℕ → Class → Set → Set
lower_set took c s = lower_in took c (ranges_of s) s

-- the figures so far: those of an element stay
abbrev pub lower_so_far : Class → Class → Home → List Figure → List Figure
lower_so_far c d (in_element y) fs = fs
lower_so_far c d (in_layer k) fs = lower_figures c d fs

-- inside a text that the class leaves out, so many skipped blocks are open
abbrev pub depth_in : ℕ → ℕ
depth_in zero = 1
depth_in (suc zero) = 1
depth_in (suc (suc p)) = 2

abbrev pub lower_owned : Class → Class → Owned → Owned
lower_owned c d (symbol_block o) = symbol_block (lower_held c.symbols d.symbols o)
lower_owned c d (wire_block w) = cond (knows_wires c) (wire_block (lower_read c.wires d.wires w)) wire_unread
lower_owned c d wire_unread = wire_unread

abbrev pub lower_placing : ℕ → Class → Set → ℕ → List Figure → ℕ → Held → ℕ → State
lower_placing took c s k fs n o zero = placing (lower_set took c s) k (lower_figures c (ranges_of s) fs) n (symbol_block (lower_held c.symbols (range_of s) o)) 0
lower_placing took c s k fs n o (suc p) =
    cond (hides c.symbols (range_of s) text_least)
    (skipping (lower_set took c s) k (lower_figures c (ranges_of s) fs) n (symbol_block (lower_held c.symbols (range_of s) o)) (depth_in (suc p)))
    (placing (lower_set took c s) k (lower_figures c (ranges_of s) fs) n (symbol_block (lower_held c.symbols (range_of s) o)) (suc p))

-- in a wire that is read: a class that knows wires is there too, another skips it whole. A text that the class doesn't know is a skipped
-- block, something behind the elements; in a wire that is skipped whole any text is one.
abbrev pub lower_text : Bool → Set → ℕ → List Figure → ℕ → Wire → ℕ → State
lower_text true s k fs n w p = skipping s k fs n (wire_block (past_elements w)) 1
lower_text false s k fs n w p = placing s k fs n (wire_block w) p

abbrev pub read_on : Digits → Digits → Set → ℕ → List Figure → ℕ → Wire → ℕ → State
read_on c d s k fs n w zero = placing s k fs n (wire_block w) 0
read_on c d s k fs n w (suc p) = lower_text (hides c d wire_text_least) s k fs n w (suc p)

abbrev pub skips_on : Set → ℕ → List Figure → ℕ → ℕ → State
skips_on s k fs n zero = skipping s k fs n wire_unread 0
skips_on s k fs n (suc p) = skipping s k fs n wire_unread 1

abbrev pub lower_wire : ℕ → Class → Set → ℕ → List Figure → ℕ → Wire → ℕ → State
lower_wire took c s k fs n w p =
    cond (knows_wires c)
    (read_on c.wires (wires_of s) (lower_set took c s) k (lower_figures c (ranges_of s) fs) n (lower_read c.wires (wires_of s) w) p)
    (skips_on (lower_set took c s) k (lower_figures c (ranges_of s) fs) n p)

abbrev pub lower : ℕ → Class → State → State
lower took c (top s k) = top (lower_set took c s) k
lower took c (file s n h p) = file (lower_set took c s) n h p
lower took c (drawing s d) = drawing (lower_set took c s) d
lower took c (layer_names s d) = layer_names (lower_set took c s) d
lower took c (defines s b) = defines (lower_set took c s) b
lower took c (symbol s y) = symbol (lower_set took c s) y
lower took c (hide s y ps) = hide (lower_set took c s) y ps
lower took c (elements s) = elements (lower_set took c s)
lower took c (figures s h fs) = figures (lower_set took c s) h (lower_so_far c (ranges_of s) h fs)
lower took c (successive s h fs n ps) = successive (lower_set took c s) h (lower_so_far c (ranges_of s) h fs) n ps
lower took c (texts s h fs n o) = texts (lower_set took c s) h (lower_so_far c (ranges_of s) h fs) n o
lower took c (placing s k fs n (symbol_block o) p) = lower_placing took c s k fs n o p
lower took c (placing s k fs n (wire_block w) p) = lower_wire took c s k fs n w p
lower took c (placing s k fs n wire_unread p) = placing (lower_set took c s) k (lower_figures c (ranges_of s) fs) n wire_unread p
lower took c (skipping s k fs n b d) = skipping (lower_set took c s) k (lower_figures c (ranges_of s) fs) n (lower_owned c (ranges_of s) b) d
lower took c (ended s) = ended (lower_set took c s)

-- ── the count ──
-- a state with so many records taken, and one with the count left out
abbrev pub recounted : ℕ → State → State
recounted took (top s k) = top (retaken took s) k
recounted took (file s n h p) = file (retaken took s) n h p
recounted took (drawing s d) = drawing (retaken took s) d
recounted took (layer_names s d) = layer_names (retaken took s) d
recounted took (defines s b) = defines (retaken took s) b
recounted took (symbol s y) = symbol (retaken took s) y
recounted took (hide s y ps) = hide (retaken took s) y ps
recounted took (elements s) = elements (retaken took s)
recounted took (figures s h fs) = figures (retaken took s) h fs
recounted took (successive s h fs n ps) = successive (retaken took s) h fs n ps
recounted took (texts s h fs n o) = texts (retaken took s) h fs n o
recounted took (placing s k fs n b p) = placing (retaken took s) k fs n b p
recounted took (skipping s k fs n b d) = skipping (retaken took s) k fs n b d
recounted took (ended s) = ended (retaken took s)

abbrev pub uncounted : State → State
uncounted st = recounted 0 st

-- a state is what is left of it without the count, with its own count
count-back : (st : State) → recounted (set_of st).taken (uncounted st) ≡ st
count-back (top s k) = refl
count-back (file s n h p) = refl
count-back (drawing s d) = refl
count-back (layer_names s d) = refl
count-back (defines s b) = refl
count-back (symbol s y) = refl
count-back (hide s y ps) = refl
count-back (elements s) = refl
count-back (figures s h fs) = refl
count-back (successive s h fs n ps) = refl
count-back (texts s h fs n o) = refl
count-back (placing s k fs n b p) = refl
count-back (skipping s k fs n b d) = refl
count-back (ended s) = refl

count-lower : (took : ℕ) (c : Class) (st : State) → recounted took (lower 0 c st) ≡ lower took c st
count-lower took c (top s k) = refl
count-lower took c (file s n h p) = refl
count-lower took c (drawing s d) = refl
count-lower took c (layer_names s d) = refl
count-lower took c (defines s b) = refl
count-lower took c (symbol s y) = refl
count-lower took c (hide s y ps) = refl
count-lower took c (elements s) = refl
count-lower took c (figures s h fs) = refl
count-lower took c (successive s h fs n ps) = refl
count-lower took c (texts s h fs n o) = refl
count-lower took c (placing s k fs n (symbol_block o) zero) = refl
count-lower took c (placing s k fs n (symbol_block o) (suc p)) = ap-cond (recounted took) (hides c.symbols (range_of s) text_least) _ _
count-lower took c (placing s k fs n (wire_block w) p) = ap-cond (recounted took) (knows_wires c) _ _ ∙ again p
  where
    in-text : (b : Bool) (w : Wire) (p : ℕ) → recounted took (lower_text b (lower_set 0 c s) k (lower_figures c (ranges_of s) fs) n w p)
        ≡ lower_text b (lower_set took c s) k (lower_figures c (ranges_of s) fs) n w p
    in-text true w p = refl
    in-text false w p = refl

    again : (p : ℕ) → cond (knows_wires c)
        (recounted took (read_on c.wires (wires_of s) (lower_set 0 c s) k (lower_figures c (ranges_of s) fs) n (lower_read c.wires (wires_of s) w) p))
        (recounted took (skips_on (lower_set 0 c s) k (lower_figures c (ranges_of s) fs) n p))
        ≡ lower_wire took c s k fs n w p
    again zero = refl
    again (suc p) = ap (λ st. cond (knows_wires c) st (skipping (lower_set took c s) k (lower_figures c (ranges_of s) fs) n wire_unread 1)) (in-text (hides c.wires (wires_of s) wire_text_least) (lower_read c.wires (wires_of s) w) (suc p))
count-lower took c (placing s k fs n wire_unread p) = refl
count-lower took c (skipping s k fs n b d) = refl
count-lower took c (ended s) = refl

-- so a state that is a lower class's but for the count is one of its states
pub lower-counted : (c : Class) (a st : State) → uncounted a ≡ lower 0 c st → a ≡ lower (set_of a).taken c st
lower-counted c a st e = sym (count-back a) ∙ ap (recounted (set_of a).taken) e ∙ count-lower (set_of a).taken c st

-- ── masked slots ──
module _ {A : Type 0} (z : A) (c d : Digits) where
  pub mask_at : {t : List Rule} {i : ℕ} {r : Rule} → Row t i r → (s : List A) → get_or (mask_rows z c d t s) i z ≡ cond (hides c d r.least) z (get_or s i z)
  mask_at (here {r = r}) [] = sym (cond_same (hides c d r.least) z)
  mask_at here (o ∷ s) = refl
  mask_at (there {r = r} w) [] = sym (cond_same (hides c d r.least) z)
  mask_at (there w) (o ∷ s) = mask_at w s

  pub mask-slot : {t : List Rule} {i : ℕ} {r : Rule} → Row t i r → hides c d r.least ≡ false → (s : List A) → get_or (mask_rows z c d t s) i z ≡ get_or s i z
  mask-slot w h s = mask_at w s ∙ rw h

  pub mask_in : {t : List Rule} {i : ℕ} {r : Rule} → Row t i r → hides c d r.least ≡ false → (s : List A) (x : A)
      → set (mask_rows z c d t s) i x ≡ mask_rows z c d t (set s i x)
  mask_in here h [] x = refl
  mask_in here h (o ∷ s) x = rw h
  mask_in (there w) h [] x = refl
  mask_in (there w) h (o ∷ s) x = rw (mask_in w h s x)

  pub mask-out : {t : List Rule} {i : ℕ} {r : Rule} → Row t i r → hides c d r.least ≡ true → (s : List A) (x : A)
      → mask_rows z c d t (set s i x) ≡ mask_rows z c d t s
  mask-out here h [] x = refl
  mask-out here h (o ∷ s) x = rw h
  mask-out (there w) h [] x = refl
  mask-out (there w) h (o ∷ s) x = rw (mask-out w h s x)

module _ (c d : Digits) where
  pub mask-blank : (t : List Rule) → mask_slots c d t (blank t) ≡ blank t
  mask-blank [] = refl
  mask-blank (r ∷ t) = rw (cond_same {A = Option Value} (hides c d r.least) None, mask-blank t)

  pub wiped-blank : (t : List Rule) → wiped (blank t) ≡ blank t
  wiped-blank [] = refl
  wiped-blank (r ∷ t) = rw (wiped-blank t)

  pub wiped-set : (s : Slots) (j : ℕ) (x : Option Value) → wiped (set s j x) ≡ wiped s
  wiped-set [] j x = refl
  wiped-set (o ∷ s) zero x = refl
  wiped-set (o ∷ s) (suc j) x = rw (wiped-set s j x)

  -- ── the parts of what a placed symbol holds ──
  pub part-own : (h : Held) → part_of (lower_held c d h) 0 ≡ mask_slots c d placed_table (part_of h 0)
  part-own [] = refl
  part-own (s ∷ h) = refl

  inner-at : (h : Held) (p : ℕ) → get_or (map (inner_part c d) h) p [] ≡ inner_part c d (get_or h p [])
  inner-at [] p = sym (cond_same (hides c d text_least) [])
  inner-at (s ∷ h) zero = refl
  inner-at (s ∷ h) (suc p) = inner-at h p

  pub part-inner : (h : Held) (p : ℕ) → part_of (lower_held c d h) (suc p) ≡ inner_part c d (part_of h (suc p))
  part-inner [] p = sym (cond_same (hides c d text_least) [])
  part-inner (s ∷ h) p = inner-at h p

  pub set_own : (h : Held) (s : Slots) → set (lower_held c d h) 0 (mask_slots c d placed_table s) ≡ lower_held c d (set h 0 s)
  set_own [] s = refl
  set_own (u ∷ h) s = refl

  inner-set : (h : Held) (p : ℕ) (s : Slots) → set (map (inner_part c d) h) p (inner_part c d s) ≡ map (inner_part c d) (set h p s)
  inner-set [] p s = refl
  inner-set (u ∷ h) zero s = refl
  inner-set (u ∷ h) (suc p) s = rw (inner-set h p s)

  pub set-inner : (h : Held) (p : ℕ) (s : Slots) → set (lower_held c d h) (suc p) (inner_part c d s) ≡ lower_held c d (set h (suc p) s)
  set-inner [] p s = refl
  set-inner (u ∷ h) p s = rw (inner-set h p s)

  -- a line of a row that the class knows
  pub enter-own : {j : ℕ} {r : Rule} → Row placed_table j r → hides c d r.least ≡ false → (h : Held) (v : Value)
      → enter (lower_held c d h) 0 j v ≡ lower_held c d (enter h 0 j v)
  enter-own {j = j} w e h v = rw (part-own h, mask_in None c d w e (part_of h 0) (Some v)) (set_own h (set (part_of h 0) j (Some v)))

  -- a line of a row that the class leaves out
  pub enter-hidden : {j : ℕ} {r : Rule} → Row placed_table j r → hides c d r.least ≡ true → (h : Held) (v : Value)
      → lower_held c d (enter h 0 j v) ≡ lower_held c d h
  enter-hidden {j = j} w e h v =
      sym (set_own h (set (part_of h 0) j (Some v))) ∙ rw (mask-out None c d w e (part_of h 0) (Some v)) (set_own h (part_of h 0) ∙ ap (lower_held c d) (set-get_or h 0 []))

  pub enter-inner : hides c d text_least ≡ false → (h : Held) (p j : ℕ) (v : Value) → enter (lower_held c d h) (suc p) j v ≡ lower_held c d (enter h (suc p) j v)
  enter-inner e h p j v =
      rw (part-inner h p, e) (ap (set (lower_held c d h) (suc p)) (sym (shown (set (part_of h (suc p)) j (Some v)))) ∙ set-inner h p (set (part_of h (suc p)) j (Some v)))
    where
      shown : (s : Slots) → inner_part c d s ≡ s
      shown s = rw e

  pub enter-wiped : hides c d text_least ≡ true → (h : Held) (p j : ℕ) (v : Value) → lower_held c d (enter h (suc p) j v) ≡ lower_held c d h
  enter-wiped e h p j v =
      sym (set-inner h p (set (part_of h (suc p)) j (Some v)))
      ∙ ap (set (lower_held c d h) (suc p)) (wipes (set (part_of h (suc p)) j (Some v)) ∙ wiped-set (part_of h (suc p)) j (Some v) ∙ sym (wipes (part_of h (suc p))))
      ∙ set-inner h p (part_of h (suc p)) ∙ ap (lower_held c d) (set-get_or h (suc p) [])
    where
      wipes : (s : Slots) → inner_part c d s ≡ wiped s
      wipes s = rw e

  pub lower-blank : lower_held c d (blank_held placed_tables) ≡ blank_held placed_tables
  lower-blank = rw (mask-blank placed_table, wiped-blank (text_table true 16 24), cond_same (hides c d text_least) (blank (text_table true 16 24)))

-- ── a wire that has nothing yet ──
module _ (c d : Digits) where
  mask-none : {A : Type 0} (z : A) (t : List Rule) (n : ℕ) → mask_rows z c d t (replicate n z) ≡ replicate n z
  mask-none z t zero = refl
  mask-none z [] (suc n) = refl
  mask-none z (r ∷ t) (suc n) = rw (cond_same (hides c d r.least) z, mask-none z t n)

  pub read-blank : lower_read c d no_wire ≡ no_wire
  read-blank = λ i.
      record {
        elements = [];
        groups = mask-none [] group_table 3 i;
        texts = cond_same {A = List Slots} (hides c d wire_text_least) [] i;
        own = mask-blank c d wire_table i;
        writing = cond_same {A = Slots} (hides c d wire_text_least) [] i;
        past = false;
      }

-- ── one line at two classes ──
module _ (low : Class) where
  -- the lower class goes on as well, to what the higher's next state is for it, with whatever records it has taken
  abbrev pub Goes : Got State → State → Type 0
  Goes g s' = (took : ℕ) × (g ≡ got (lower took low s'))

  -- an equation between the two answers is enough, or one but for the count
  pub via : (took : ℕ) {g g' : Got State} {s' : State} → g' ≡ map_g (lower took low) g → g ≡ got s' → Goes g' s'
  via took q e = (took, q ∙ ap (map_g (lower took low)) e)

  pub count-via : {g g' : Got State} {s' : State} → map_g uncounted g' ≡ map_g (lower 0 low) g → g ≡ got s' → Goes g' s'
  count-via {g' = g'} {s' = s'} q e =
      let (a, p, r) = map-got uncounted g' (lower 0 low s') (q ∙ ap (map_g (lower 0 low)) e) in
      ((set_of a).taken, p ∙ ap got (lower-counted low a s' r))

-- ── what is not looked at by the class ──
module _ (c d : Class) where
  pub file-same : (now : Contents) (vs : List Contents) → (head_or (lower_contents c d now) (map (lower_contents c d) vs)).file ≡ (head_or now vs).file
  file-same now [] = refl
  file-same now (v ∷ vs) = refl

  block-count : (us : List LayerBlock) → total (λ u. length u.figures) (map (lower_block c d) us) ≡ total (λ u. length u.figures) us
  block-count [] = refl
  block-count (u ∷ us) = rw (length-map u.figures (lower_figure c d), block-count us)

  pub elements_same : (v : Contents) → elements_of (lower_contents c d v) ≡ elements_of v
  elements_same v = block-count v.blocks

  pub totals-same : (vs : List Contents) → total elements_of (map (lower_contents c d) vs) ≡ total elements_of vs
  totals-same [] = refl
  totals-same (v ∷ vs) = rw (block-count v.blocks, totals-same vs)

  pub used-same : (v : Contents) → used_in (lower_contents c d v) ≡ used_in v
  used-same v = map_compose (λ u. u.layer) (lower_block c d) v.blocks

  pub all-used-same : (vs : List Contents) → map used_in (map (lower_contents c d) vs) ≡ map used_in vs
  all-used-same vs = map_compose used_in (lower_contents c d) vs ∙ map-agree (λ v. used_in (lower_contents c d v)) used_in used-same vs
