-- A line enters a row with what its kind holds: text in rows of text alone, and of that what S says where the line's content has it.
use Rattle.std.specs.Prelude.{Option, Some, None}
use Prim.Native.Nat.{ℕ, zero, suc, ◌+◌}
use mathlib.Core.Bool.{Bool, true, false, ◌&&◌, not}
use mathlib.Core.List.{List, [], ◌∷◌, ◌++◌, map}
use mathlib.Core.Path.{◌≡◌, refl}
use lib.Dec.{leb}
use lib.ListN.{length, get_or, set}
use Rattle.rules.specs.declared.Digits.{Digits}
use Rattle.rules.specs.Base.{is_nil, all, split}
use Rattle.rules.specs.RefusalNumbers.{Got, got, bad, unless, map_g, and_then, or_bad, keep}
use Rattle.rules.specs.Lines.{Rest, brace, equals, Form, ignored, wrong, close, eof, keyed, stem, Shape, opener, no_content, content, opening, formless, by_stem, shape_of, free_shape_of, has_form}
use Rattle.rules.specs.RangeClass.{reaches}
use Rattle.rules.specs.Values.{Value, nums, chars, Known, Kind, values, text, word, volume_name, sheet, ratio, serials, wire_serial, symbol_circle, nothing, opens, headed, either, is_free, byte_in, letters_and_digits, capital, read_all, agree, read_part, range, find_sheet, sheets, read_ratio, most_partners, read_serials, read_kind, linked_of, read_wire_serial, read_circle}
use Rattle.rules.specs.Rows.{Rule, Found, absent, found, find, Slots, blank, Held, part_of, enter, is_content, is_empty, fits, shape_for, Act, stay, entry, begin, shut, refuse, or_refuse, inner_of, read_shape, not_twice, act_row, act_unknown, act_found, complete, act}
use Rattle.rules.specs.Blocks.{blank_held, layer_name_kind}
use Rattle.rules.specs.Sets.{Contents}
use Rattle.rules.specs.Machine.{layer_value}
use Rattle.rules.proofs.Chains.{On, on-unless, on-map, by_cond, on_weaken, on-all, and_false, clash}
use Rattle.rules.proofs.Rows.{Row, here, there, found-row}
use Rattle.promises.proofs.FitSets.{is_shown, FitValue, FitSlots, FitHeld, Each, FitContents, FitVolumes}

pub each_more : {A : Type 0} (P : A → Type 0) (s : List A) (a : A) → Each P s → P a → Each P (s ++ a ∷ [])
each_more P [] a g x = (x, tt)
each_more P (b ∷ s) a g x = (g.0, each_more P s a g.1 x)

-- a line that is neither content nor empty is none of a row that shows text
no_text : (d : Kind) (may : Bool) (s : Shape) → is_content s ≡ false → is_empty s ≡ false → fits d may s ≡ true → is_shown d ≡ false
no_text (values p ps a) may s x y e = refl
no_text (text n b) may s x y e = clash e (rw (x, y) (and_false may))
no_text (word n b) may s x y e = clash e (rw (x, y) (and_false may))
no_text volume_name may s x y e = refl
no_text sheet may s x y e = refl
no_text ratio may s x y e = refl
no_text serials may s x y e = refl
no_text wire_serial may s x y e = refl
no_text symbol_circle may s x y e = refl
no_text nothing may s x y e = refl
no_text (opens i) may s x y e = refl
no_text (headed i p) may s x y e = refl
no_text (either i) may s x y e = refl

module _ (S : ℕ → List ℕ → Type 0) where
  -- ── slots ──
  pub volume-more : (vs : List Contents) (v : Contents) → FitVolumes S vs → FitContents S (is_nil vs) v → FitVolumes S (vs ++ v ∷ [])
  volume-more [] v g x = (x, tt)
  volume-more (u ∷ us) v g x = (g.0, each_more (FitContents S false) us v g.1 x)

  pub fit-nil : (t : List Rule) → FitSlots S t []
  fit-nil [] = tt
  fit-nil (r ∷ t) = (tt, fit-nil t)

  pub fit-blank : (t : List Rule) → FitSlots S t (blank t)
  fit-blank [] = tt
  fit-blank (r ∷ t) = (tt, fit-blank t)

  pub fit-set : {t : List Rule} {j : ℕ} {r : Rule} → Row t j r → (s : Slots) (v : Value) → FitSlots S t s → FitValue S r.holds v → FitSlots S t (set s j (Some v))
  fit-set here [] v g x = g
  fit-set here (o ∷ s) v g x = (x, g.1)
  fit-set (there w) [] v g x = g
  fit-set (there w) (o ∷ s) v g x = (g.0, fit-set w s v g.1 x)

  pub fit_blanks : (ts : List (List Rule)) → FitHeld S ts (blank_held ts)
  fit_blanks [] p = tt
  fit_blanks (t ∷ ts) zero = fit-blank t
  fit_blanks (t ∷ ts) (suc p) = fit_blanks ts p

  pub fit-enter : (ts : List (List Rule)) (h : Held) (p : ℕ) {j : ℕ} {r : Rule} → Row (get_or ts p []) j r → (v : Value) → FitHeld S ts h → FitValue S r.holds v → FitHeld S ts (enter h p j v)
  fit-enter ts h p {j} w v g x = go (λ q s. FitSlots S (get_or ts q []) s) h p (set (part_of h p) j (Some v)) g (fit-set w (part_of h p) v (g p) x)
    where
      go : (Q : ℕ → Slots → Type 0) (h : Held) (p : ℕ) (s : Slots) → ((q : ℕ) → Q q (get_or h q [])) → Q p s → (q : ℕ) → Q q (get_or (set h p s) q [])
      go Q [] p s k y q = k q
      go Q (o ∷ h) zero s k y zero = y
      go Q (o ∷ h) zero s k y (suc q) = k (suc q)
      go Q (o ∷ h) (suc p) s k y zero = k 0
      go Q (o ∷ h) (suc p) s k y (suc q) = go (λ q. Q (suc q)) h p s (λ q. k (suc q)) y q

  -- ── what a line has behind its `=` ──
  abbrev pub FitRest : Rest → Type 0
  FitRest brace = Unit {0}
  FitRest (equals at c) = S at c

  abbrev pub FitForm : Form → Type 0
  FitForm ignored = Unit {0}
  FitForm (wrong n) = Unit {0}
  FitForm close = Unit {0}
  FitForm eof = Unit {0}
  FitForm (keyed k c) = FitRest c

  abbrev FitShape : Shape → Type 0
  FitShape opener = Unit {0}
  FitShape no_content = Unit {0}
  FitShape (content at c) = S at c
  FitShape (opening at c) = Unit {0}
  FitShape formless = Unit {0}

  free-shape : (c : Rest) → FitRest c → FitShape (free_shape_of c)
  free-shape brace h = tt
  free-shape (equals at []) h = tt
  free-shape (equals at (b ∷ c)) h = h

  plain-shape : (c : Rest) → FitRest c → FitShape (shape_of c)
  plain-shape brace h = tt
  plain-shape (equals at []) h = tt
  plain-shape (equals at (b ∷ c)) h = go (stem (b ∷ c))
    where
      go : (o : Option (List ℕ)) → FitShape (by_stem at (b ∷ c) o)
      go None = h
      go (Some []) = tt
      go (Some (a ∷ t)) = tt

  row-shape : (r : Rule) (c : Rest) → FitRest c → FitShape (shape_for r c)
  row-shape r c h = by_cond FitShape (is_free r.holds) (λ _. free-shape c h) (λ _. plain-shape c h)

  -- ── what is read ──
  numbers_fit : {A : Type 0} (d : Kind) (f : A → Value) → ((a : A) → FitValue S d (f a)) → (g : Got A) → On (FitValue S d) (map_g f g)
  numbers_fit d f h g = on-map (FitValue S d) f g (on-all (λ a. FitValue S d (f a)) h g)

  kind-fit : (k : Known) (d : Kind) (at : ℕ) (c : List ℕ) → (is_shown d ≡ true → S at c) → On (FitValue S d) (read_kind k d at c)
  kind-fit k (values p ps a) at c h = numbers_fit (values p ps a) nums (λ v. refl) (keep 11 (agree a) (read_all k (p ∷ ps) (split 44 c)))
  kind-fit k (text n b) at c h = on-unless (FitValue S (text n b)) (all (byte_in b) c && leb (length c) n) 11 (got (chars at c)) (λ e. (refl, h))
  kind-fit k (word n b) at c h = on-unless (FitValue S (word n b)) (all (byte_in b) c && leb (length c) n) 11 (got (chars at c)) (λ e. (refl, h))
  kind-fit k volume_name at c h = on-unless (FitValue S volume_name) (all (byte_in letters_and_digits) c) 11 (got (chars at (map capital c))) (λ e. (refl, λ x. clash x refl))
  kind-fit k sheet at c h = numbers_fit sheet nums (λ v. refl) (or_bad 11 (find_sheet c sheets))
  kind-fit k ratio at c h = numbers_fit ratio nums (λ v. refl) (read_ratio c)
  kind-fit k serials at c h = numbers_fit serials linked_of linked-fit (keep 11 (λ ns. leb (length ns) (most_partners + 1)) (read_serials (split 44 c)))
    where
      linked-fit : (ns : List ℕ) → FitValue S serials (linked_of ns)
      linked-fit [] = tt
      linked-fit (n ∷ ps) = refl
  kind-fit k wire_serial at c h = numbers_fit wire_serial nums (λ v. refl) (read_wire_serial (split 44 c))
  kind-fit k symbol_circle at c h = numbers_fit symbol_circle nums (λ v. refl) (read_circle k (split 44 c))
  kind-fit k nothing at c h = tt
  kind-fit k (opens i) at c h = tt
  kind-fit k (headed i p) at c h = numbers_fit (headed i p) (λ n. nums (n ∷ [])) (λ v. refl) (read_part k p c)
  kind-fit k (either i) at c h = numbers_fit (either i) (λ n. nums (n ∷ [])) (λ v. refl) (read_part k (range 0 1) c)

  -- a layer's name
  pub layer-fit : (k : List ℕ) (c : Rest) → FitRest c → On (FitValue S layer_name_kind) (layer_value k (free_shape_of c))
  layer-fit k c h = go (free_shape_of c) (free-shape c h)
    where
      go : (s : Shape) → FitShape s → On (FitValue S layer_name_kind) (layer_value k s)
      go opener x = tt
      go no_content x = tt
      go (content at c) x = kind-fit (record { symbols = []; layers = [] }) layer_name_kind at c (λ _. x)
      go (opening at c) x = tt
      go formless x = tt

  -- ── what a line does: the row is one of the table, and what it holds is of the row's kind ──
  abbrev pub FitRow : List Rule → ℕ → Value → Type 0
  FitRow t j v = (r : Rule) × Row t j r × FitValue S r.holds v

  abbrev pub FitAct : List Rule → Act → Type 0
  FitAct t stay = Unit {0}
  FitAct t (entry j v) = FitRow t j v
  FitAct t (begin i j v) = FitRow t j v
  FitAct t shut = Unit {0}
  FitAct t (refuse n) = Unit {0}

  shape-fit : (k : Known) {t : List Rule} {j : ℕ} {r : Rule} → Row t j r → (s : Shape) → fits r.holds r.may s ≡ true → FitShape s → On (FitAct t) (read_shape k j r s)
  shape-fit k {r = r} w opener e h = (r, w, no_text r.holds r.may opener refl refl e)
  shape-fit k {r = r} w no_content e h = (r, w, tt)
  shape-fit k {t} {j} {r} w (content at c) e h =
      on-map (FitAct t) (entry j) (read_kind k r.holds at c)
      (on_weaken (FitValue S r.holds) _ (λ v x. (r, w, x)) (read_kind k r.holds at c) (kind-fit k r.holds at c (λ _. h)))
  shape-fit k {t} {j} {r} w (opening at c) e h =
      on-map (FitAct t) (begin (inner_of r.holds) j) (read_kind k r.holds at c)
      (on_weaken (FitValue S r.holds) _ (λ v x. (r, w, x)) (read_kind k r.holds at c)
      (kind-fit k r.holds at c (λ x. clash x (no_text r.holds r.may (opening at c) refl refl e))))
  shape-fit k w formless e h = tt

  fit-unless : (t : List Rule) (b : Bool) (n : ℕ) (g : Got Act) → (b ≡ true → FitAct t (or_refuse g)) → FitAct t (or_refuse (unless b n g))
  fit-unless t true n g h = h refl
  fit-unless t false n g h = tt

  pub row-fit : (k : Known) (d : Digits) (full : Bool) {t : List Rule} {j : ℕ} {r : Rule} → Row t j r → (c : Rest) → FitRest c → FitAct t (act_row k d full j r c)
  row-fit k d full {t} {j} {r} w c h =
      fit-unless t (has_form (shape_for r c)) 5 _ λ _.
      fit-unless t (reaches d r.least) 6 _ λ _.
      fit-unless t (fits r.holds r.may (shape_for r c)) 5 _ λ e.
      fit-unless t (not_twice r.times full) 7 _ λ _. last (read_shape k j r (shape_for r c)) (shape-fit k w (shape_for r c) e (row-shape r c h))
    where
      last : (g : Got Act) → On (FitAct t) g → FitAct t (or_refuse (and_then g λ a. unless (not full) 11 (got a)))
      last (got a) h = fit-unless t (not full) 11 (got a) (λ _. h)
      last (bad n) h = tt

  pub unknown-fit : (t : List Rule) (c : Rest) → FitAct t (act_unknown c)
  unknown-fit t c = fit-unless t (has_form (shape_of c)) 5 (bad 6) (λ _. tt)

  pub act-fit : (k : Known) (t : List Rule) (d : Digits) (full : List Bool) (f : Form) → FitForm f → FitAct t (act k t d full f)
  act-fit k t d full ignored h = tt
  act-fit k t d full (wrong n) h = tt
  act-fit k t d full close h = by_cond (FitAct t) (complete d t full) (λ e. tt) (λ e. tt)
  act-fit k t d full eof h = tt
  act-fit k t d full (keyed key c) h = go (find key t) refl
    where
      go : (f : Found) → find key t ≡ f → FitAct t (act_found k d full c f)
      go absent e = unknown-fit t c
      go (found j r) e = row-fit k d (get_or full j false) (found-row key t j r e).0 c h
