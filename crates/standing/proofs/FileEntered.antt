-- FILE_FORMAT behind a line that entered one of its rows, or opened one of its parts.
use Rattle.std.specs.Prelude.{Some, None}
use Prim.Native.Nat.{ℕ, zero, suc, ◌+◌, ◌<◌}
use mathlib.Core.Bool.{Bool, true, false}
use mathlib.Core.List.{List, [], ◌∷◌, map}
use mathlib.Core.Path.{◌≡◌, refl, sym, ◌∙◌, ap, ap₂, subst}
use native.Mathlib.Omega.{arith}
use borrow.Author.Tests.{eqb-true, eqb-false}
use lib.Dec.{eqb}
use lib.IntN.{ℤ}
use lib.ListN.{length, get_or, set, take}
use lib.Seq.{get_or-set_same, get_or-set_other}
use Rattle.rules.specs.Base.{all}
use Rattle.rules.specs.Lines.{span, bytes_at}
use Rattle.rules.specs.Values.{Num, Value, nums, capital, range_of_wires, day, clock, values, volume_name, nothing_more}
use Rattle.rules.specs.Rows.{Rule, Slots, Held, part_of, enter, rows_there, number_of}
use Rattle.rules.specs.Blocks.{file_table, range_table, base_table, elec_table, sym_table, later_table, file_tables}
use Rattle.rules.specs.Sets.{Set, is_first}
use Rattle.rules.specs.RecordTable.{numbers, columns, put_held, rule_at}
use Rattle.rules.proofs.Chains.{clash}
use Rattle.entries.specs.Acts.{put_line}
use Rattle.account.specs.declared.Now.{Now}
use Rattle.account.specs.Placing.{Shaped, clear_parts, put_value}
use Rattle.standing.specs.Standing.{Desk, desk_now}
use Rattle.account.specs.FileLines.{PartOpen, marks_from, part_marks, Header, is_count, count_at, kept_in, file_width}
use Rattle.standing.specs.FileStanding.{file_head, is_numbers, InFile}
use Rattle.account.proofs.RowsTaken.{Taken}
use Rattle.standing.proofs.Puts.{held-set}
use Rattle.standing.proofs.Marks.{marks-set, mark-free}
use Rattle.standing.proofs.Openers.{plain_kind}
use Rattle.account.proofs.FileParts.{first-other, wires-other-part}
use Rattle.standing.proofs.FileKeeps.{next_row, records-taken}
use Rattle.standing.proofs.FilePartMarks.{part_open, part-number, mark-own, mark-other}
use Rattle.standing.proofs.FileEntries.{NameHere}
use Rattle.standing.proofs.FileNames.{next-on, date-on, time-on}
use Rattle.standing.proofs.FileWires.{wires-on}
use Rattle.standing.proofs.FileClosing.{file_desk}
use Rattle.standing.proofs.HeldParts.{enter-other, enter-own, shaped-enter, shaped-at}

-- ── what is computed of the tables ──
clear-parts : (first : Bool) → clear_parts (file_tables first) ≡ true
unfolding file_table range_table base_table elec_table sym_table later_table
clear-parts true = refl
clear-parts false = refl

name_of-first : (rule_at file_table 5).holds ≡ volume_name
unfolding file_table
name_of-first = refl

name_of-later : (rule_at later_table 2).holds ≡ volume_name
unfolding later_table
name_of-later = refl

pub name-kind : (first : Bool) (p j : ℕ) → p ≡ 0 → j ≡ next_row first → (rule_at (get_or (file_tables first) p []) j).holds ≡ volume_name
name-kind first p j z w = ap (λ (i : ℕ). (rule_at (get_or (file_tables first) i []) j).holds) z ∙ ap (λ (i : ℕ). (rule_at (get_or (file_tables first) 0 []) i).holds) w ∙ own first
  where
    own : (first : Bool) → (rule_at (get_or (file_tables first) 0 []) (next_row first)).holds ≡ volume_name
    own true = name_of-first
    own false = name_of-later

-- a later volume's date and time are numbers
date_of : ((rule_at later_table 3).holds ≡ values day [] nothing_more) × ((rule_at later_table 3).may ≡ false)
unfolding later_table
date_of = (refl, refl)

time_of : ((rule_at later_table 4).holds ≡ values clock [] nothing_more) × ((rule_at later_table 4).may ≡ false)
unfolding later_table
time_of = (refl, refl)

pub date-kind : (first : Bool) (p j : ℕ) → first ≡ false → PartOpen first p → j ≡ 3 → ((rule_at (get_or (file_tables first) p []) j).holds ≡ values day [] nothing_more) × ((rule_at (get_or (file_tables first) p []) j).may ≡ false)
date-kind true p j e o w = clash refl e
date-kind false zero j e o w = (ap (λ (i : ℕ). (rule_at later_table i).holds) w ∙ date_of.0, ap (λ (i : ℕ). (rule_at later_table i).may) w ∙ date_of.1)
date-kind false (suc p) j e o w = absurd (omega (arith, o.later refl))

pub time-kind : (first : Bool) (p j : ℕ) → first ≡ false → PartOpen first p → j ≡ 4 → ((rule_at (get_or (file_tables first) p []) j).holds ≡ values clock [] nothing_more) × ((rule_at (get_or (file_tables first) p []) j).may ≡ false)
time-kind true p j e o w = clash refl e
time-kind false zero j e o w = (ap (λ (i : ℕ). (rule_at later_table i).holds) w ∙ time_of.0, ap (λ (i : ℕ). (rule_at later_table i).may) w ∙ time_of.1)
time-kind false (suc p) j e o w = absurd (omega (arith, o.later refl))

-- E_wire is a number; it stands in `elec`, which opens nothing
wires_of_lem : ((rule_at elec_table 1).holds ≡ values range_of_wires [] nothing_more) × ((rule_at elec_table 1).may ≡ false)
unfolding elec_table
wires_of_lem = (refl, refl)

pub wires-kind : (first : Bool) (p j : ℕ) → PartOpen first p → p ≡ 3 → j ≡ 1
    → ((rule_at (get_or (file_tables first) p []) j).holds ≡ values range_of_wires [] nothing_more) × ((rule_at (get_or (file_tables first) p []) j).may ≡ false)
wires-kind true p j o z w = (
  ap₂ (λ (a b : ℕ). (rule_at (get_or (file_tables true) a []) b).holds) z w ∙ wires_of_lem.0,
  ap₂ (λ (a b : ℕ). (rule_at (get_or (file_tables true) a []) b).may) z w ∙ wires_of_lem.1,
)
wires-kind false p j o z w = absurd (omega (arith, z, o.later refl))

elec-plain : all (λ r. plain_kind r.holds) elec_table ≡ true
unfolding elec_table
elec-plain = refl

pub plain-elec : (first : Bool) (p : ℕ) → PartOpen first p → p ≡ 3 → all (λ r. plain_kind r.holds) (get_or (file_tables first) p []) ≡ true
plain-elec true p o z = ap (λ (a : ℕ). all (λ r. plain_kind r.holds) (get_or (file_tables true) a [])) z ∙ elec-plain
plain-elec false p o z = absurd (omega (arith, z, o.later refl))

-- a later volume's FILE_FORMAT opens nothing
pub plain-later : (first : Bool) (p : ℕ) → first ≡ false → PartOpen first p → all (λ r. plain_kind r.holds) (get_or (file_tables first) p []) ≡ true
unfolding later_table
plain-later true p e o = clash refl e
plain-later false zero e o = refl
plain-later false (suc p) e o = absurd (omega (arith, o.later refl))

-- of a row that opens a part nothing is kept
pub kept_open : (first : Bool) (p j : ℕ) (t : List ℤ) → (first ≡ false → ⊥) → (p ≡ 0 → j ≡ next_row first → ⊥) → (p ≡ 3 → ⊥) → kept_in first p j t ≡ t
kept_open true zero j t f n w = sym (first-other j t (n refl))
kept_open false zero j t f n w = absurd (f refl)
kept_open first (suc p) j t f n w = sym (wires-other-part (suc p) j t w)

-- ── a later volume's date and time, and the first one's E_wire, by what the parts are ──
module _ (j : ℕ) (h : Held) (v : Value) (h₀ h₁ : List ℤ) (g : Header h₀) (c : all is_count (numbers v) ≡ true) where
  abbrev One : Type 0
  One = (n : Num) × (v ≡ nums (n ∷ []))

  date-by : (first : Bool) (p : ℕ) → PartOpen first p → Shaped 0 (file_tables first) h → Taken (get_or (file_tables first) p []) (rows_there (part_of h p)) j v
      → h₁ ≡ kept_in first p j (put_line (rule_at (get_or (file_tables first) p []) j) 64 v h₀) → (first ≡ false → j ≡ 3 → One) → first ≡ false
      → count_at h₀ 68 ≡ number_of "date" later_table (part_of h 0) → count_at h₁ 68 ≡ number_of "date" later_table (part_of (enter h p j v) 0)
  date-by true p o sh tk e y f a = clash refl f
  date-by false zero o sh tk e y f a = date-on j h v h₀ h₁ sh tk g c e (y f) a
  date-by false (suc p) o sh tk e y f a = absurd (omega (arith, o.later refl))

  time-by : (first : Bool) (p : ℕ) → PartOpen first p → Shaped 0 (file_tables first) h → Taken (get_or (file_tables first) p []) (rows_there (part_of h p)) j v
      → h₁ ≡ kept_in first p j (put_line (rule_at (get_or (file_tables first) p []) j) 64 v h₀) → (first ≡ false → j ≡ 4 → One) → first ≡ false
      → count_at h₀ 69 ≡ number_of "time" later_table (part_of h 0) → count_at h₁ 69 ≡ number_of "time" later_table (part_of (enter h p j v) 0)
  time-by true p o sh tk e y f a = clash refl f
  time-by false zero o sh tk e y f a = time-on j h v h₀ h₁ sh tk g c e (y f) a
  time-by false (suc p) o sh tk e y f a = absurd (omega (arith, o.later refl))

  wires-by : (first : Bool) (p : ℕ) → PartOpen first p → Shaped 0 (file_tables first) h → Taken (get_or (file_tables first) p []) (rows_there (part_of h p)) j v
      → h₁ ≡ kept_in first p j (put_line (rule_at (get_or (file_tables first) p []) j) 64 v h₀) → (p ≡ 3 → j ≡ 1 → One) → first ≡ true
      → count_at h₀ 70 ≡ number_of "E_wire" elec_table (part_of h 3) → count_at h₁ 70 ≡ number_of "E_wire" elec_table (part_of (enter h p j v) 3)
  wires-by true p o sh tk e y f a = wires-on p j h v h₀ h₁ o sh tk g c e y a
  wires-by false p o sh tk e y f a = clash f refl

-- ── what FILE_FORMAT holds then ──
module _ (spool : List ℕ) (k : ℕ) (d : Desk) (s : Set) (n : ℕ) (h : Held) (p : ℕ) (f : InFile spool k d s n h p) (tally₁ : List ℕ) (m₁ : List Bool) (h₁ : List ℤ) (now : Now) where
  abbrev first : Bool
  first = is_first s

  abbrev rows : List Rule
  rows = get_or (file_tables first) p []

  abbrev Then : Held → ℕ → Type 0
  Then h q = InFile spool k (desk_now (file_desk d tally₁ m₁ h₁) now) s n h q

  -- the same, with another part open
  pub part_moved : (q : ℕ) → now.part ≡ q → PartOpen first q → m₁ ≡ d.marks → h₁ ≡ d.header → Then h q
  part_moved q e o em eh = record {
    volume = f.volume;
    bare = f.bare;
    part = e;
    parts = o;
    header = subst Header (sym eh) f.header;
    shaped = f.shaped;
    filled = ap (take (file_width first)) eh ∙ f.filled;
    marked = λ i l. ap (part_marks first i) em ∙ f.marked i l;
    next = f.next ∙ ap (λ (t : List ℤ). map capital (bytes_at spool (span (count_at t 66) (count_at t 67)))) (sym eh);
    date = λ w. ap (λ (t : List ℤ). count_at t 68) eh ∙ f.date w;
    time = λ w. ap (λ (t : List ℤ). count_at t 69) eh ∙ f.time w;
    wires = λ w. ap (λ (t : List ℤ). count_at t 70) eh ∙ f.wires w;
    counted = f.counted;
    unnamed = λ w. ap (λ (t : List ℤ). count_at t 65) eh ∙ f.unnamed w;
  }

  -- with one more row
  module _ (j : ℕ) (v : Value) (tk : Taken rows (rows_there (part_of h p)) j v) (c : all is_count (numbers v) ≡ true) (em : m₁ ≡ set d.marks (marks_from p + j) true)
      (eh : h₁ ≡ kept_in first p j (put_line (rule_at rows j) 64 v d.header)) (g : Header h₁) (name : p ≡ 0 → j ≡ next_row first → NameHere spool v)
      (date : first ≡ false → j ≡ 3 → (i : Num) × (v ≡ nums (i ∷ []))) (time : first ≡ false → j ≡ 4 → (i : Num) × (v ≡ nums (i ∷ [])))
      (wires : p ≡ 3 → j ≡ 1 → (i : Num) × (v ≡ nums (i ∷ [])))
      (one : columns (rule_at rows j).holds ≡ 1 → is_numbers (Some v) ≡ true) where
    there : (p < length h) × (length (part_of h p) ≡ length rows)
    there =
        let w = shaped-at (file_tables first) 0 p h f.shaped (part-number first p f.parts) in
        let e : 0 + p ≡ p = omega arith in
        (omega (arith, w.0), ap (λ (i : ℕ). length (part_of h i)) (sym e) ∙ w.1)

    put-filled : take (file_width first) h₁ ≡ put_held (file_tables first) (enter h p j v) (file_head first k n)
    put-filled =
        ap (take (file_width first)) eh ∙ records-taken first p j (rule_at rows j) v d.header ∙ ap (put_value (rule_at rows j) v) f.filled
        ∙ sym (held-set (file_tables first) h p j v (file_head first k n) f.shaped (part-number first p f.parts) tk.row (mark-free (part_of h p) j tk.free) tk.fill (clear-parts first))

    put-marked : (q : ℕ) → q < length (file_tables first) → part_marks first q m₁ ≡ rows_there (part_of (enter h p j v) q)
    put-marked q l = ap (part_marks first q) em ∙ go (eqb q p) refl
      where
        go : (b : Bool) → eqb q p ≡ b → part_marks first q (set d.marks (marks_from p + j) true) ≡ rows_there (part_of (enter h p j v) q)
        go true e =
            let w = eqb-true q p e in
            ap (λ (i : ℕ). part_marks first i (set d.marks (marks_from p + j) true)) w ∙ mark-own first p j f.parts tk.row d.marks
            ∙ ap (λ (o : List Bool). set o j true) (f.marked p (part-number first p f.parts))
            ∙ sym (marks-set (part_of h p) j v) ∙ ap rows_there (sym (enter-own h p j v there.0)) ∙ ap (λ (i : ℕ). rows_there (part_of (enter h p j v) i)) (sym w)
        go false e =
            let w = eqb-false q p e in
            mark-other first p j f.parts tk.row d.marks q (part_open first q l) w ∙ f.marked q l ∙ ap rows_there (sym (enter-other h p q j v w))

    put-counted : (q i : ℕ) → columns (rule_at (get_or (file_tables first) q []) i).holds ≡ 1 → is_numbers (get_or (part_of (enter h p j v) q) i None) ≡ true
    put-counted q i l = go (eqb q p) refl (eqb i j) refl
      where
        go : (a : Bool) → eqb q p ≡ a → (b : Bool) → eqb i j ≡ b → is_numbers (get_or (part_of (enter h p j v) q) i None) ≡ true
        go true e true r =
            let w = eqb-true q p e in
            let u = eqb-true i j r in
            ap (λ (m : ℕ). is_numbers (get_or (part_of (enter h p j v) m) i None)) w ∙ ap (λ (o : Slots). is_numbers (get_or o i None)) (enter-own h p j v there.0)
            ∙ ap (λ (m : ℕ). is_numbers (get_or (set (part_of h p) j (Some v)) m None)) u
            ∙ ap is_numbers (get_or-set_same (part_of h p) j (Some v) None (omega (arith, tk.row, there.1)))
            ∙ one (ap (λ (m : ℕ). columns (rule_at (get_or (file_tables first) m []) j).holds) (sym w) ∙ ap (λ (m : ℕ). columns (rule_at (get_or (file_tables first) q []) m).holds) (sym u) ∙ l)
        go true e false r =
            let w = eqb-true q p e in
            ap (λ (m : ℕ). is_numbers (get_or (part_of (enter h p j v) m) i None)) w ∙ ap (λ (o : Slots). is_numbers (get_or o i None)) (enter-own h p j v there.0)
            ∙ ap is_numbers (get_or-set_other (part_of h p) j i (Some v) None (eqb-false i j r)) ∙ ap (λ (m : ℕ). is_numbers (get_or (part_of h m) i None)) (sym w) ∙ f.counted q i l
        go false e b r = ap (λ (o : Slots). is_numbers (get_or o i None)) (enter-other h p q j v (eqb-false q p e)) ∙ f.counted q i l

    pub row-entered : (q : ℕ) → now.part ≡ q → PartOpen first q → Then (enter h p j v) q
    row-entered q e o =
        let named = next-on spool first p j h v d.header h₁ f.parts f.shaped tk f.header eh name f.next f.unnamed in
        record {
          volume = f.volume;
          bare = f.bare;
          part = e;
          parts = o;
          header = g;
          shaped = shaped-enter (file_tables first) 0 h p j v f.shaped;
          filled = put-filled;
          marked = put-marked;
          next = named.0;
          date = λ w. date-by j h v d.header h₁ f.header c first p f.parts f.shaped tk eh date w (f.date w);
          time = λ w. time-by j h v d.header h₁ f.header c first p f.parts f.shaped tk eh time w (f.time w);
          wires = λ w. wires-by j h v d.header h₁ f.header c first p f.parts f.shaped tk eh wires w (f.wires w);
          counted = put-counted;
          unnamed = named.1;
        }
