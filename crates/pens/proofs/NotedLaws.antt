-- Notes: what a note stands for, and what noting a row or forgetting all notes does to the rows of a table and to a block's parts.
use Rattle.std.specs.Prelude.{Option, Some, None}
use Prim.Native.Nat.{ℕ, zero, suc, ◌+◌, ◌*◌, ◌/◌, ◌%◌, ◌≤◌, ◌<◌}
use mathlib.Core.Bool.{Bool, true, false, cond, ◌&&◌}
use mathlib.Core.List.{List, [], ◌∷◌}
use mathlib.Core.Path.{◌≡◌, refl, sym, ◌∙◌, ap, subst}
use native.Mathlib.Omega.{arith}
use borrow.Author.Tests.{lt-ltb, leb-true, eqb-true, eqb-false, ltb-true, ltb-false}
use lib.Dec.{eqb, leb, ltb}
use lib.ListN.{length, get_or, set, replicate, length-set, get_or-map}
use lib.Seq.{get_or-set_same, get_or-set_other}
use Rattle.rules.specs.Lines.{Rest, brace, equals, bytes_at, Shape, opener, by_stem, stem, shape_of, free_shape_of}
use Rattle.rules.specs.Values.{Value, Known, Kind, values, text, word, volume_name, sheet, ratio, serials, wire_serial, symbol_circle, nothing, opens, headed, either, is_free}
use Rattle.rules.specs.Rows.{Rule, Slots, blank, Held, part_of, enter, is_opener as isOpenerShape, fits, shape_for}
use Rattle.rules.specs.Blocks.{file_table, range_table, base_table, elec_table, sym_table, later_table, file_tables, blank_held}
use Rattle.rules.specs.Figures.{text_table, placed_table}
use Rattle.rules.specs.RecordTable.{rule_at}
use Rattle.rules.proofs.Chains.{and_left, and_right, clash}
use Rattle.rules.proofs.Rows.{Row, row_at, row_below}
use Rattle.entries.specs.declared.Rest.{Rest as CodeRest}
use Rattle.entries.specs.declared.Rest.TheVariants as R
use Rattle.entries.specs.Shapes.{rest_in}
use Rattle.prints.specs.Reading.{Reads}
use Rattle.pens.specs.Moves.{is_opener}
use Rattle.pens.specs.Noting.{note_of, rest_of, notes_from, forgotten, text_forgotten, Noted, NotedRows, tables_of, part_table, NotedParts}
use Rattle.pens.specs.Keys.{PlacedRest}

-- ── a note ──
pub note-some : (rest : CodeRest) → PlacedRest rest → 0 < note_of rest
note-some R.Brace h = omega arith
note-some (R.Equals q) h = rw (lt-ltb q.at 65536 h.1, lt-ltb q.len 65536 h.2) (omega (arith, h.0))

-- a line `key:{` is one of a row that holds an opener alone, and no other line is
opens-alone : (d : Kind) (may : Bool) → fits d may opener ≡ true → is_opener d ≡ true
opens-alone (values p ps a) may e = and_right may false e
opens-alone (text n b) may e = and_right may false e
opens-alone (word n b) may e = and_right may false e
opens-alone volume_name may e = and_right may false e
opens-alone sheet may e = and_right may false e
opens-alone ratio may e = and_right may false e
opens-alone serials may e = and_right may false e
opens-alone wire_serial may e = and_right may false e
opens-alone symbol_circle may e = and_right may false e
opens-alone nothing may e = e
opens-alone (opens i) may e = refl
opens-alone (headed i p) may e = e
opens-alone (either i) may e = e

holds_more : (d : Kind) (may : Bool) (s : Shape) → isOpenerShape s ≡ false → fits d may s ≡ true → is_opener d ≡ false
holds_more (values p ps a) may s n e = refl
holds_more (text m b) may s n e = refl
holds_more (word m b) may s n e = refl
holds_more volume_name may s n e = refl
holds_more sheet may s n e = refl
holds_more ratio may s n e = refl
holds_more serials may s n e = refl
holds_more wire_serial may s n e = refl
holds_more symbol_circle may s n e = refl
holds_more nothing may s n e = refl
holds_more (opens i) may s n e = clash e n
holds_more (headed i p) may s n e = refl
holds_more (either i) may s n e = refl

stem-closed : (at : ℕ) (c : List ℕ) (o : Option (List ℕ)) → isOpenerShape (by_stem at c o) ≡ false
stem-closed at c None = refl
stem-closed at c (Some []) = refl
stem-closed at c (Some (b ∷ t)) = refl

equals-closed : (free : Bool) (at : ℕ) (c : List ℕ) → isOpenerShape (cond free (free_shape_of (equals at c)) (shape_of (equals at c))) ≡ false
equals-closed true at [] = refl
equals-closed true at (b ∷ c) = refl
equals-closed false at [] = refl
equals-closed false at (b ∷ c) = stem-closed at (b ∷ c) (stem (b ∷ c))

-- what a note keeps of a line that was read
pub note-rest : (spool : List ℕ) (k : Known) (r : Rule) (rest : CodeRest) (v : Value) → PlacedRest rest → Reads k r (rest_in spool rest) v
    → rest_of spool r.holds (note_of rest) ≡ rest_in spool rest
note-rest spool k r R.Brace v h z = rw (opens-alone r.holds r.may (opener-fits (is_free r.holds) z.fit))
  where
    opener-fits : (free : Bool) → fits r.holds r.may (cond free (free_shape_of brace) (shape_of brace)) ≡ true → fits r.holds r.may opener ≡ true
    opener-fits true e = e
    opener-fits false e = e
note-rest spool k r (R.Equals q) v h z =
    let n : ℕ = q.at + 65536 * q.len in
    let a : n % 65536 ≡ q.at = omega (arith, h.1) in
    let b : n / 65536 ≡ q.len = omega (arith, h.1) in
    rw (
      holds_more r.holds r.may (shape_for r (equals q.at (bytes_at spool q))) (equals-closed (is_free r.holds) q.at (bytes_at spool q)) z.fit,
      lt-ltb q.at 65536 h.1,
      lt-ltb q.len 65536 h.2,
      a,
      b,
    )

pub noted-line : (spool : List ℕ) (k : Known) (r : Rule) (rest : CodeRest) (v : Value) → PlacedRest rest → Reads k r (rest_in spool rest) v → Noted spool k r (note_of rest) (Some v)
noted-line spool k r rest v h z = (note-some rest h, subst (λ (x : Rest). Reads k r x v) (sym (note-rest spool k r rest v h z)) z)

-- ── notes that are forgotten ──
pub zeros-at : (n i : ℕ) → ◌≡◌ {A = ℕ} (get_or (replicate n 0) i 0) 0
zeros-at zero i = refl
zeros-at (suc n) zero = refl
zeros-at (suc n) (suc i) = zeros-at n i

pub blank-long : (t : List Rule) → length (blank t) ≡ length t
blank-long [] = refl
blank-long (r ∷ t) = ap suc (blank-long t)

pub blank-at : (t : List Rule) (j : ℕ) → get_or (blank t) j None ≡ None
blank-at [] j = refl
blank-at (r ∷ t) zero = refl
blank-at (r ∷ t) (suc j) = blank-at t j

-- two numbers are the same, or not
by_eqb : {P : Type 0} (i j : ℕ) → (i ≡ j → P) → ((i ≡ j → ⊥) → P) → P
by_eqb {P} i j f g = go (eqb i j) refl
  where
    go : (t : Bool) → eqb i j ≡ t → P
    go true e = f (eqb-true i j e)
    go false e = g (eqb-false i j e)

module _ (spool : List ℕ) (k : Known) where
  -- rows without notes are blank
  pub unnoted-rows : (t : List Rule) (from : ℕ) (ns : List ℕ) → ((j : ℕ) → j < length t → get_or ns (from + j) 0 ≡ 0) → NotedRows spool k t from ns (blank t)
  unnoted-rows t from ns h = record { long = blank-long t; rows = λ j l. subst (Noted spool k (rule_at t j) (get_or ns (from + j) 0)) (sym (blank-at t j)) (h j l) }

  pub blank-rows : (t : List Rule) (from : ℕ) (ns : List ℕ) → NotedRows spool k t from (forgotten ns) (blank t)
  blank-rows t from ns = unnoted-rows t from (forgotten ns) (λ j l. zeros-at (length ns) (from + j))

  pub blank-parts : (b : ℕ) (ns : List ℕ) → NotedParts spool k b (forgotten ns) (blank_held (tables_of b))
  blank-parts b ns = record {
    parts = λ p l.
        subst (NotedRows spool k (get_or (tables_of b) p []) (notes_from (part_table b p)) (forgotten ns)) (sym (get_or-map blank (tables_of b) p []))
        (blank-rows (get_or (tables_of b) p []) (notes_from (part_table b p)) ns);
  }

  -- a text's two notes
  pub blank-text : (t : List Rule) (ns : List ℕ) → length t ≤ 2 → 6 ≤ length ns → NotedRows spool k t 4 (text_forgotten ns) (blank t)
  blank-text t ns few many = unnoted-rows t 4 (text_forgotten ns) at
    where
      at : (j : ℕ) → j < length t → get_or (text_forgotten ns) (4 + j) 0 ≡ 0
      at zero l = get_or-set_other (set ns 4 0) 5 4 0 0 (λ e. omega (arith, e)) ∙ get_or-set_same ns 4 0 0 (omega (arith, many))
      at (suc zero) l = get_or-set_same (set ns 4 0) 5 0 0 (omega (arith, many, length-set ns 4 0))
      at (suc (suc j)) l = absurd (omega (arith, l, few))

  -- ── a row more ──
  pub set-rows : (t : List Rule) (from : ℕ) (ns : List ℕ) (s : Slots) (j n : ℕ) (v : Value) → j < length t → from + length t ≤ length ns → Noted spool k (rule_at t j) n (Some v)
      → NotedRows spool k t from ns s → NotedRows spool k t from (set ns (from + j) n) (set s j (Some v))
  set-rows t from ns s j n v l room w z = record { long = length-set s j (Some v) ∙ z.long; rows = at }
    where
      at : (i : ℕ) → i < length t → Noted spool k (rule_at t i) (get_or (set ns (from + j) n) (from + i) 0) (get_or (set s j (Some v)) i None)
      at i m = by_eqb i j
          (λ e. rw (e, get_or-set_same ns (from + j) n 0 (omega (arith, l, room)), get_or-set_same s j (Some v) None (omega (arith, l, z.long))) w)
          (λ e. rw (get_or-set_other ns (from + j) (from + i) n 0 (λ f. e (omega (arith, f))), get_or-set_other s j i (Some v) None e) (z.rows i m))

  -- a note that stands elsewhere
  pub other-rows : (t : List Rule) (from : ℕ) (ns : List ℕ) (s : Slots) (m n : ℕ) → ((j : ℕ) → j < length t → from + j ≡ m → ⊥)
      → NotedRows spool k t from ns s → NotedRows spool k t from (set ns m n) s
  other-rows t from ns s m n h z = record { long = z.long; rows = λ j l. rw (get_or-set_other ns m (from + j) n 0 (h j l)) (z.rows j l) }

-- ── parts, whose notes stand one behind the other ──
abbrev below : ℕ → (ℕ → Bool) → Bool
below zero f = true
below (suc n) f = f n && below n f

below_at : (n : ℕ) (f : ℕ → Bool) (i : ℕ) → below n f ≡ true → i < n → f i ≡ true
below_at zero f i e l = absurd (omega (arith, l))
below_at (suc n) f i e l = by_eqb i n (λ q. rw q (and_left (f n) _ e)) (λ q. below_at n f i (and_right (f n) _ e) (omega (arith, l, q)))

-- just behind a part's notes
abbrev pub part_end : ℕ → ℕ → ℕ
part_end b p = notes_from (part_table b p) + length (get_or (tables_of b) p [])

abbrev pub laid_out : ℕ → Bool
laid_out b = below (length (tables_of b)) (λ q. leb (part_end b q) 28 && below q (λ p. leb (part_end b p) (notes_from (part_table b q))))

pub file-laid : (first : Bool) → laid_out (cond first 1 6) ≡ true
unfolding file_table range_table base_table elec_table sym_table later_table
file-laid true = refl
file-laid false = refl

pub placed-laid : laid_out 18 ≡ true
unfolding placed_table text_table
placed-laid = refl

-- the tables of FILE_FORMAT's parts
pub file-tables_of : (first : Bool) → tables_of (cond first 1 6) ≡ file_tables first
file-tables_of true = refl
file-tables_of false = refl

module _ (b : ℕ) (laid : laid_out b ≡ true) where
  laid-at : (q : ℕ) → q < length (tables_of b) → (leb (part_end b q) 28 && below q (λ p. leb (part_end b p) (notes_from (part_table b q)))) ≡ true
  laid-at q l = below_at (length (tables_of b)) (λ q. leb (part_end b q) 28 && below q (λ p. leb (part_end b p) (notes_from (part_table b q)))) q laid l

  part_room : (q : ℕ) → q < length (tables_of b) → part_end b q ≤ 28
  part_room q l = leb-true (part_end b q) 28 (and_left (leb (part_end b q) 28) _ (laid-at q l))

  part_apart : (p q : ℕ) → p < q → q < length (tables_of b) → part_end b p ≤ notes_from (part_table b q)
  part_apart p q m l =
      leb-true (part_end b p) (notes_from (part_table b q))
      (below_at q (λ p. leb (part_end b p) (notes_from (part_table b q))) p (and_right (leb (part_end b q) 28) _ (laid-at q l)) m)

held-part : (h : Held) (p : ℕ) → 0 < length (part_of h p) → p < length h
held-part [] p l = absurd (omega (arith, l))
held-part (s ∷ h) zero l = omega arith
held-part (s ∷ h) (suc p) l = omega (arith, held-part h p l)

-- row j of part p is noted
module _ (spool : List ℕ) (k : Known) (b : ℕ) (ns : List ℕ) (h : Held) (p j : ℕ) (r : Rule) (n : ℕ) (v : Value) (laid : laid_out b ≡ true) (many : length ns ≡ 28) (l : p < length (tables_of b)) (w : Row (get_or (tables_of b) p []) j r) (note : Noted spool k r n (Some v)) (z : NotedParts spool k b ns h) where
  abbrev table : ℕ → List Rule
  table q = get_or (tables_of b) q []

  abbrev start : ℕ → ℕ
  start q = notes_from (part_table b q)

  same-part : NotedRows spool k (table p) (start p) (set ns (start p + j) n) (part_of (enter h p j v) p)
  same-part =
      let here : j < length (table p) = row_below w in
      let long : length (part_of h p) ≡ length (table p) = (z.parts p l).long in
      subst (NotedRows spool k (table p) (start p) (set ns (start p + j) n)) (sym (get_or-set_same h p (set (part_of h p) j (Some v)) [] (held-part h p (omega (arith, here, long)))))
      (set-rows spool k (table p) (start p) ns (part_of h p) j n v here (omega (arith, part_room b laid p l, many))
      (subst (λ (x : Rule). Noted spool k x n (Some v)) (sym (row_at w _)) note) (z.parts p l))

  other-part : (q : ℕ) → q < length (tables_of b) → (q ≡ p → ⊥) → NotedRows spool k (table q) (start q) (set ns (start p + j) n) (part_of (enter h p j v) q)
  other-part q m e =
      subst (NotedRows spool k (table q) (start q) (set ns (start p + j) n)) (sym (get_or-set_other h p q (set (part_of h p) j (Some v)) [] e))
      (other-rows spool k (table q) (start q) ns (part_of h q) (start p + j) n apart (z.parts q m))
    where
      apart : (i : ℕ) → i < length (table q) → start q + i ≡ start p + j → ⊥
      apart i u f = go (ltb p q) refl
        where
          go : (t : Bool) → ltb p q ≡ t → ⊥
          go true g = omega (arith, f, row_below w, part_apart b laid p q (ltb-true p q g) m)
          go false g = let g' : q < p = omega (arith, ltb-false p q g, e) in omega (arith, f, u, part_apart b laid q p g' l)

  pub set-parts : NotedParts spool k b (set ns (notes_from (part_table b p) + j) n) (enter h p j v)
  set-parts = record { parts = λ q m. by_eqb q p (λ e. rw e same-part) (λ e. other-part q m e) }
