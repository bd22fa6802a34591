-- What the numbers behind the records say after a line: next_file's place and length, and a later volume's date and time.
use Rattle.std.specs.Prelude.{Option, Some, None}
use Prim.Native.Nat.{ℕ, ◌+◌, ◌≤◌, ◌<◌}
use mathlib.Core.Bool.{Bool, true, false}
use mathlib.Core.List.{List, [], ◌∷◌, map}
use mathlib.Core.Path.{◌≡◌, refl, sym, ◌∙◌, ap, ap₂, subst}
use native.Mathlib.Omega.{arith}
use borrow.Author.Tests.{eqb-true, eqb-false}
use lib.Dec.{eqb}
use lib.IntN.{ℤ, pos, nat_abs}
use lib.ListN.{length, get_or, set, length-set}
use lib.Seq.{sets, get_or-set_same, get_or-set_other, length-sets}
use Rattle.rules.specs.Base.{all}
use Rattle.rules.specs.Lines.{span, bytes_at}
use Rattle.rules.specs.Values.{Num, Value, empty, nums, chars, linked, capital, chars_of, amount_at}
use Rattle.rules.specs.Rows.{Slots, Held, part_of, enter, rows_there, slot_value, held, number_of}
use Rattle.rules.specs.RecordTable.{numbers, rule_at}
use Rattle.rules.specs.Blocks.{file_table, later_table, file_tables}
use Rattle.rules.specs.VolumesAndTotals.{own_table}
use Rattle.rules.proofs.Chains.{and_left, none-some}
use Rattle.entries.specs.Acts.{put_line}
use Rattle.account.specs.Placing.{Shaped}
use Rattle.account.specs.Numbering.{header_length}
use Rattle.account.specs.FileLines.{PartOpen, Header, is_count, count_at, kept_name, kept_in}
use Rattle.account.proofs.RowsTaken.{Taken}
use Rattle.standing.proofs.Marks.{mark-free}
use Rattle.standing.proofs.FileKeeps.{short-put, next_row, short_row, later-row, kept_in_else, later_else}
use Rattle.standing.proofs.FilePartMarks.{part-number}
use Rattle.standing.proofs.FileEntries.{NameHere, amount-back}
use Rattle.standing.proofs.HeldParts.{enter-other, enter-own, shaped-at}

-- ── by number of the row ──
pub next-slot : (first : Bool) (o : Slots) → held "next_file" (own_table first) o ≡ get_or o (next_row first) None
unfolding file_table later_table
next-slot true o = refl
next-slot false o = refl

pub date-slot : (o : Slots) → number_of "date" later_table o ≡ amount_at (slot_value (get_or o 3 None)) 0
unfolding later_table
date-slot o = refl

pub time-slot : (o : Slots) → number_of "time" later_table o ≡ amount_at (slot_value (get_or o 4 None)) 0
unfolding later_table
time-slot o = refl

-- another slot than the one that is entered
pub slot_else : (h : Held) (p q j i : ℕ) (v : Value) → p < length h → (p ≡ q → i ≡ j → ⊥) → get_or (part_of (enter h p j v) q) i None ≡ get_or (part_of h q) i None
slot_else h p q j i v l n = go (eqb q p) refl
  where
    go : (b : Bool) → eqb q p ≡ b → get_or (part_of (enter h p j v) q) i None ≡ get_or (part_of h q) i None
    go true e =
        let w = eqb-true q p e in
        ap (λ (m : ℕ). get_or (part_of (enter h p j v) m) i None) w ∙ ap (λ (o : Slots). get_or o i None) (enter-own h p j v l)
        ∙ get_or-set_other (part_of h p) j i (Some v) None (n (sym w)) ∙ ap (λ (m : ℕ). get_or (part_of h m) i None) (sym w)
    go false e = ap (λ (o : Slots). get_or o i None) (enter-other h p q j v (eqb-false q p e))

-- a name's two numbers, kept
name-kept : (x : List ℤ) → length x ≡ header_length → (get_or (kept_name x) 65 (pos 0) ≡ get_or x 65 (pos 0)) × (get_or (kept_name x) 66 (pos 0) ≡ get_or x 64 (pos 0)) × (get_or (kept_name x) 67 (pos 0) ≡ get_or x 65 (pos 0))
name-kept x l =
    let a : ℤ = get_or x 64 (pos 0) in
    let b : ℤ = get_or x 65 (pos 0) in (
      get_or-set_other (set x 66 a) 67 65 b (pos 0) (λ e. absurd (omega (arith, e))) ∙ get_or-set_other x 66 65 a (pos 0) (λ e. absurd (omega (arith, e))),
      get_or-set_other (set x 66 a) 67 66 b (pos 0) (λ e. absurd (omega (arith, e))) ∙ get_or-set_same x 66 a (pos 0) (omega (arith, l)),
      get_or-set_same (set x 66 a) 67 b (pos 0) (omega (arith, l, length-set x 66 a)),
    )

-- next_file's row has no place of its own
next-put : (first : Bool) (v : Value) (h : List ℤ) → kept_in first 0 (next_row first) (put_line (rule_at (get_or (file_tables first) 0 []) (next_row first)) 64 v h) ≡ kept_name (sets h 64 (numbers v))
unfolding file_table later_table
next-put true v h = refl
next-put false v h = refl

date-put : (v : Value) (h : List ℤ) → kept_in false 0 3 (put_line (rule_at later_table 3) 64 v h) ≡ set (sets h 64 (numbers v)) 68 (get_or (sets h 64 (numbers v)) 64 (pos 0))
unfolding later_table
date-put v h = refl

time-put : (v : Value) (h : List ℤ) → kept_in false 0 4 (put_line (rule_at later_table 4) 64 v h) ≡ set (sets h 64 (numbers v)) 69 (get_or (sets h 64 (numbers v)) 64 (pos 0))
unfolding later_table
time-put v h = refl

-- ── after a line ──
module _ (spool : List ℕ) (first : Bool) (p j : ℕ) (h : Held) (v : Value) (h₀ h₁ : List ℤ) (o : PartOpen first p) (sh : Shaped 0 (file_tables first) h) (tk : Taken (get_or (file_tables first) p []) (rows_there (part_of h p)) j v)
    (g : Header h₀) (e : h₁ ≡ kept_in first p j (put_line (rule_at (get_or (file_tables first) p []) j) 64 v h₀)) where
  abbrev put : List ℤ
  put = put_line (rule_at (get_or (file_tables first) p []) j) 64 v h₀

  part-there : p < length h
  part-there = let w = shaped-at (file_tables first) 0 p h sh (part-number first p o) in omega (arith, w.0)

  abbrev Named : Held → List ℤ → Type 0
  Named h t = chars_of (slot_value (held "next_file" (own_table first) (part_of h 0))) ≡ map capital (bytes_at spool (span (count_at t 66) (count_at t 67)))

  abbrev Unnamed : Held → List ℤ → Type 0
  Unnamed h t = held "next_file" (own_table first) (part_of h 0) ≡ None → count_at t 65 ≡ 0

  -- another row than next_file's
  module _ (n : p ≡ 0 → j ≡ next_row first → ⊥) where
    same_number : (q : ℕ) → 65 ≤ q → q ≤ 67 → count_at h₁ q ≡ count_at h₀ q
    same_number q a b =
        ap (λ (t : List ℤ). count_at t q) e ∙ ap nat_abs (kept_in_else first p j q put n b)
        ∙ ap nat_abs (short-put 65 (rule_at (get_or (file_tables first) p []) j) v h₀ q (short_row first p j o tk.row n) tk.fill a)

    same-slot : held "next_file" (own_table first) (part_of (enter h p j v) 0) ≡ held "next_file" (own_table first) (part_of h 0)
    same-slot =
        next-slot first (part_of (enter h p j v) 0) ∙ slot_else h p 0 j (next_row first) v part-there (λ z w. n z (sym w)) ∙ sym (next-slot first (part_of h 0))

    next_else : Named h h₀ → Named (enter h p j v) h₁
    next_else y =
        ap (λ (u : Option Value). chars_of (slot_value u)) same-slot ∙ y
        ∙ ap₂ (λ (a l : ℕ). map capital (bytes_at spool (span a l))) (sym (same_number 66 (omega arith) (omega arith))) (sym (same_number 67 (omega arith) (omega arith)))

    unnamed_else : Unnamed h h₀ → Unnamed (enter h p j v) h₁
    unnamed_else y z = same_number 65 (omega arith) (omega arith) ∙ y (sym same-slot ∙ z)

  -- next_file's own
  module _ (z : p ≡ 0) (w : j ≡ next_row first) where
    abbrev x : List ℤ
    x = sets h₀ 64 (numbers v)

    is-put : h₁ ≡ kept_name x
    is-put =
        e ∙ ap (λ (i : ℕ). kept_in first i j (put_line (rule_at (get_or (file_tables first) i []) j) 64 v h₀)) z
        ∙ ap (λ (i : ℕ). kept_in first 0 i (put_line (rule_at (get_or (file_tables first) 0 []) i) 64 v h₀)) w ∙ next-put first v h₀

    rows : (i : ℕ) → p ≡ i → j < length (part_of h i)
    rows i q = let u = shaped-at (file_tables first) 0 p h sh (part-number first p o) in let y : 0 + p ≡ i = omega (arith, q) in omega (arith, tk.row, u.1, ap (λ (m : ℕ). length (part_of h m)) y)

    new-slot : held "next_file" (own_table first) (part_of (enter h p j v) 0) ≡ Some v
    new-slot =
        next-slot first (part_of (enter h p j v) 0) ∙ ap (λ (i : ℕ). get_or (part_of (enter h i j v) 0) (next_row first) None) z
        ∙ ap (λ (s : Slots). get_or s (next_row first) None) (enter-own h 0 j v (omega (arith, part-there))) ∙ ap (λ (i : ℕ). get_or (set (part_of h 0) j (Some v)) i None) (sym w)
        ∙ get_or-set_same (part_of h 0) j (Some v) None (rows 0 z)

    old-slot : held "next_file" (own_table first) (part_of h 0) ≡ None
    old-slot = next-slot first (part_of h 0) ∙ ap₂ (λ (a b : ℕ). get_or (part_of h a) b None) (sym z) (sym w) ∙ mark-free (part_of h p) j tk.free

    long : length x ≡ header_length
    long = length-sets h₀ 64 (numbers v) ∙ g.long

    at_66 : count_at h₁ 66 ≡ count_at x 64
    at_66 = ap (λ (t : List ℤ). count_at t 66) is-put ∙ ap nat_abs (name-kept x long).1

    at_67 : count_at h₁ 67 ≡ count_at x 65
    at_67 = ap (λ (t : List ℤ). count_at t 67) is-put ∙ ap nat_abs (name-kept x long).2

    next-own : NameHere spool v → Unnamed h h₀ → Named (enter h p j v) h₁
    next-own y u =
        ap (λ (s : Option Value). chars_of (slot_value s)) new-slot ∙ of-value v refl y
        ∙ ap₂ (λ (a l : ℕ). map capital (bytes_at spool (span a l))) (sym at_66) (sym at_67)
      where
        of-value : (i : Value) → v ≡ i → NameHere spool i → chars_of v ≡ map capital (bytes_at spool (span (count_at x 64) (count_at x 65)))
        of-value empty q y =
            let zero-long : count_at x 65 ≡ 0 = ap (λ (i : Value). count_at (sets h₀ 64 (numbers i)) 65) q ∙ u old-slot in
            ap chars_of q ∙ ap (λ (l : ℕ). map capital (bytes_at spool (span (count_at x 64) l))) (sym zero-long)
        of-value (nums w) q y = absurd y
        of-value (chars at c) q y =
            let t : List ℤ = set (set h₀ 64 (pos at)) 65 (pos (length c)) in
            let is : x ≡ t = ap (λ (i : Value). sets h₀ 64 (numbers i)) q in
            let a : count_at x 64 ≡ at = ap (λ (t : List ℤ). count_at t 64) is ∙ ap nat_abs (get_or-set_other (set h₀ 64 (pos at)) 65 64 (pos (length c)) (pos 0) (λ e. absurd (omega (arith, e))) ∙ get_or-set_same h₀ 64 (pos at) (pos 0) (omega (arith, g.long))) in
            let b : count_at x 65 ≡ length c = ap (λ (t : List ℤ). count_at t 65) is ∙ ap nat_abs (get_or-set_same (set h₀ 64 (pos at)) 65 (pos (length c)) (pos 0) (omega (arith, g.long, length-set h₀ 64 (pos at)))) in
            ap chars_of q ∙ y ∙ ap₂ (λ (a l : ℕ). map capital (bytes_at spool (span a l))) (sym a) (sym b)
        of-value (linked n ps) q y = absurd y

    unnamed-own : Unnamed (enter h p j v) h₁
    unnamed-own q = none-some (sym q ∙ new-slot)

  pub next-on : (p ≡ 0 → j ≡ next_row first → NameHere spool v) → Named h h₀ → Unnamed h h₀ → Named (enter h p j v) h₁ × Unnamed (enter h p j v) h₁
  next-on y a u = go (eqb p 0) refl (eqb j (next_row first)) refl
    where
      go : (b : Bool) → eqb p 0 ≡ b → (d : Bool) → eqb j (next_row first) ≡ d → Named (enter h p j v) h₁ × Unnamed (enter h p j v) h₁
      go true q true r =
          let z = eqb-true p 0 q in
          let w = eqb-true j (next_row first) r in
          (next-own z w (y z w) u, unnamed-own z w)
      go true q false r = let n : p ≡ 0 → j ≡ next_row first → ⊥ = λ z w. eqb-false j (next_row first) r w in (next_else n a, unnamed_else n u)
      go false q d r = let n : p ≡ 0 → j ≡ next_row first → ⊥ = λ z w. eqb-false p 0 q z in (next_else n a, unnamed_else n u)

-- ── a number, kept ──
pub kept-number : (n : Num) (h : List ℤ) (q : ℕ) → length h ≡ header_length → q < header_length → is_count n.value ≡ true → count_at (set (sets h 64 (n.value ∷ [])) q (get_or (sets h 64 (n.value ∷ [])) 64 (pos 0))) q ≡ amount_at (nums (n ∷ [])) 0
kept-number n h q l m c =
    let z : ℤ = n.value in
    ap nat_abs (get_or-set_same (set h 64 z) q (get_or (set h 64 z) 64 (pos 0)) (pos 0) (omega (arith, l, m, length-set h 64 z)) ∙ get_or-set_same h 64 z (pos 0) (omega (arith, l)))
    ∙ amount-back n c

-- ── a later volume's date and time ──
module _ (j : ℕ) (h : Held) (v : Value) (h₀ h₁ : List ℤ) (sh : Shaped 0 (file_tables false) h) (tk : Taken later_table (rows_there (part_of h 0)) j v)
    (g : Header h₀) (c : all is_count (numbers v) ≡ true) (e : h₁ ≡ kept_in false 0 j (put_line (rule_at later_table j) 64 v h₀)) where
  later_same : (i q : ℕ) → (i ≡ j → ⊥) → (q ≡ 68 → j ≡ 3 → ⊥) → (q ≡ 69 → j ≡ 4 → ⊥) → 68 ≤ q → count_at h₀ q ≡ amount_at (slot_value (get_or (part_of h 0) i None)) 0
      → count_at h₁ q ≡ amount_at (slot_value (get_or (part_of (enter h 0 j v) 0) i None)) 0
  later_same i q n a b l y =
      ap (λ (t : List ℤ). count_at t q) e ∙ ap nat_abs (later_else j q (put_line (rule_at later_table j) 64 v h₀) a b l ∙ short-put 66 (rule_at later_table j) v h₀ q (later-row j tk.row) tk.fill (omega (arith, l)))
      ∙ y ∙ ap (λ (o : Option Value). amount_at (slot_value o) 0) (sym (slot_else h 0 0 j i v sh.0 (λ _. n)))

  new-number : (i q : ℕ) (n : Num) → j ≡ i → q < header_length → v ≡ nums (n ∷ []) → ((v : Value) (h : List ℤ) → kept_in false 0 i (put_line (rule_at later_table i) 64 v h) ≡ set (sets h 64 (numbers v)) q (get_or (sets h 64 (numbers v)) 64 (pos 0)))
      → count_at h₁ q ≡ amount_at (slot_value (get_or (part_of (enter h 0 j v) 0) i None)) 0
  new-number i q n w m u f =
      let is-count : is_count n.value ≡ true = and_left (is_count n.value) _ (subst (λ (x : Value). all is_count (numbers x) ≡ true) u c) in
      let slot : get_or (part_of (enter h 0 j v) 0) i None ≡ Some (nums (n ∷ [])) =
      ap (λ (o : Slots). get_or o i None) (enter-own h 0 j v sh.0) ∙ ap (λ (m : ℕ). get_or (set (part_of h 0) j (Some v)) m None) (sym w)
      ∙ get_or-set_same (part_of h 0) j (Some v) None (omega (arith, tk.row, sh.1)) ∙ ap Some u in
      ap (λ (t : List ℤ). count_at t q) (e ∙ ap (λ (m : ℕ). kept_in false 0 m (put_line (rule_at later_table m) 64 v h₀)) w ∙ f v h₀ ∙ ap (λ (x : Value). set (sets h₀ 64 (numbers x)) q (get_or (sets h₀ 64 (numbers x)) 64 (pos 0))) u)
      ∙ kept-number n h₀ q g.long m is-count ∙ ap (λ (o : Option Value). amount_at (slot_value o) 0) (sym slot)

  pub date-on : (j ≡ 3 → (n : Num) × (v ≡ nums (n ∷ []))) → count_at h₀ 68 ≡ number_of "date" later_table (part_of h 0) → count_at h₁ 68 ≡ number_of "date" later_table (part_of (enter h 0 j v) 0)
  date-on y a = go (eqb j 3) refl ∙ sym (date-slot (part_of (enter h 0 j v) 0))
    where
      go : (b : Bool) → eqb j 3 ≡ b → count_at h₁ 68 ≡ amount_at (slot_value (get_or (part_of (enter h 0 j v) 0) 3 None)) 0
      go true q = let w = eqb-true j 3 q in let (n, u) = y w in new-number 3 68 n w (omega arith) u date-put
      go false q = later_same 3 68 (λ w. eqb-false j 3 q (sym w)) (λ _. eqb-false j 3 q) (λ w. absurd (omega (arith, w))) (omega arith) (a ∙ date-slot (part_of h 0))

  pub time-on : (j ≡ 4 → (n : Num) × (v ≡ nums (n ∷ []))) → count_at h₀ 69 ≡ number_of "time" later_table (part_of h 0) → count_at h₁ 69 ≡ number_of "time" later_table (part_of (enter h 0 j v) 0)
  time-on y a = go (eqb j 4) refl ∙ sym (time-slot (part_of (enter h 0 j v) 0))
    where
      go : (b : Bool) → eqb j 4 ≡ b → count_at h₁ 69 ≡ amount_at (slot_value (get_or (part_of (enter h 0 j v) 0) 4 None)) 0
      go true q = let w = eqb-true j 4 q in let (n, u) = y w in new-number 4 69 n w (omega arith) u time-put
      go false q = later_same 4 69 (λ w. eqb-false j 4 q (sym w)) (λ w. absurd (omega (arith, w))) (λ _. eqb-false j 4 q) (omega arith) (a ∙ time-slot (part_of h 0))
