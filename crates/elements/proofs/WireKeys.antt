-- A line of a wire with a key: of an element or a key that repeats, of a key that stands once, of a key that is not known; and a line of its
-- text.
use Prim.Native.Nat.{ℕ, zero, suc, ◌+◌, ◌/◌, ◌≤◌, ◌<◌}
use mathlib.Core.Bool.{Bool, true, false, cond, ◌&&◌}
use mathlib.Core.List.{List, [], ◌∷◌, ◌++◌}
use mathlib.Core.Path.{◌≡◌, refl, sym, ◌∙◌, ap, subst}
use native.Mathlib.Omega.{arith}
use lib.Dec.{eqb}
use lib.IntN.{ℤ, pos}
use lib.ListN.{length, get_or, set, take, drop, replicate, length-append, length-drop, take-append-drop}
use lib.Seq.{get_or-append-add, get_or-drop, get_or-take, get_or-set_other, length-take-le, sets}
use borrow.Author.Tests.{lt-ltb, le-ltb, ne_eqb}
use Rattle.rules.specs.declared.Class.{Class}
use Rattle.rules.specs.declared.Digits.{Digits}
use Rattle.rules.specs.declared.Span.{Span}
use Rattle.rules.specs.declared.Opener.{Opener}
use Rattle.rules.specs.declared.Equation.{Equation}
use Rattle.rules.specs.declared.LineForm.{LineForm}
use Rattle.rules.specs.declared.LineForm.TheVariants as L
use Rattle.rules.specs.Base.{all}
use Rattle.rules.specs.RefusalNumbers.{got}
use Rattle.rules.specs.Lines.{Rest, Form, Shape, opener, no_content, content, opening, formless, bytes_at, form_in}
use Rattle.rules.specs.RangeClass.{digits, digits_of, reaches}
use Rattle.rules.specs.Values.{Known, Value, wire_serial, read_kind}
use Rattle.rules.specs.Rows.{Rule, Found, absent, found, find, Act, stay, entry, begin, shut, refuse, inner_of, read_shape, shape_for, act_row, act}
use Rattle.rules.specs.RecordTable.{numbers, given, rule_at}
use Rattle.rules.specs.Figures.{wire_table, text_table}
use Rattle.rules.specs.Wires.{joins_ends, is_element_row}
use Rattle.rules.proofs.Chains.{never, map-got, and_left, and_right}
use Rattle.rules.proofs.Rows.{found-row, row_at, row_below, row-did}
use Rattle.tables.specs.Tables.{table_of}
use Rattle.tables.specs.Rows.{rule_of, for_line, found_for_line}
use Rattle.tables.specs.declared.Row.{Row}
use Rattle.entries.specs.declared.Inner.{Inner}
use Rattle.entries.specs.declared.Next.{Next}
use Rattle.entries.specs.declared.Next.TheVariants as N
use Rattle.entries.specs.Acts.{roomy, put_line, Acts}
use Rattle.entries.specs.Shapes.{key_of, rest_of, rest_in}
use Rattle.entries.proofs.TableActs.{found-line}
use Rattle.entries.proofs.Took.{Took, took}
use Rattle.account.specs.declared.Now.{Now}
use Rattle.account.specs.declared.Where.{Where}
use Rattle.account.specs.declared.Step.{Step}
use Rattle.account.specs.declared.Step.TheVariants as S
use Rattle.account.specs.declared.Skipped.{Skipped}
use Rattle.account.specs.Account.{at_block}
use Rattle.account.specs.Records.{part_at, with_part}
use Rattle.account.specs.Points.{more_points}
use Rattle.account.specs.SkippedLines.{skipped_by}
use Rattle.account.specs.SerialNumbers.{content_at, in_use, SerialLine}
use Rattle.account.specs.PlacedLines.{Lent, lent, lent_with, with_inner, OwnGiven, unknown_step, not_here}
use Rattle.account.specs.WireLines.{front_read, own_read, join_holds, element_put, past_now, group_agrees, shelved, shelf_of, EntryRecords, FrontLine}
use Rattle.account.specs.WireLines.{own_in, OnceEntered, OnceLine, full_at, misplaced, UnknownInWire, RowInWire, FoundInWire, KeyInWire, ReadLine}
use Rattle.account.specs.WireLines.{text_act, text_from, text_shelf, TextInWire, RowOfWire, CountGiven, ShelvesReady}
use Rattle.account.proofs.Lent.{with-same}
use Rattle.account.proofs.PlacedLaws.{read-row, entry_first, wire-serial-first, OwnFirst, own-given, sets_first}
use Rattle.elements.proofs.BlocksActs.{row_of}
use Rattle.elements.proofs.WireActs.{Tested, wire-ten, behind-whole, behind-lent}

-- ── the table ──
at_all : (p : Rule → Bool) (t : List Rule) (j : ℕ) → all p t ≡ true → j < length t → p (rule_at t j) ≡ true
at_all p [] j e h = absurd (omega (arith, h))
at_all p (r ∷ t) zero e h = and_left (p r) (all p t) e
at_all p (r ∷ t) (suc j) e h = at_all p t j (and_right (p r) (all p t) e) (omega (arith, h))

-- the first five rows have places at the front
front-rows : all (roomy 0 32) (take 5 (table_of 20)) ≡ true
unfolding table_of wire_table
front-rows = refl

wire-rows : all (roomy 0 64) (table_of 20) ≡ true
unfolding table_of wire_table
wire-rows = refl

wire-text-rows : all (roomy 0 32) (table_of 16) ≡ true
unfolding table_of text_table
wire-text-rows = refl

pub wire-text-room : (n : ℕ) → n ≡ 32 → all (roomy 0 n) (table_of 16) ≡ true
wire-text-room n e = subst (λ (m : ℕ). all (roomy 0 m) (table_of 16) ≡ true) (sym e) wire-text-rows

pub wire-text-two : length (table_of 16) ≡ 2
unfolding table_of text_table
wire-text-two = refl

serial-row : (r : Rule) → rule_at (table_of 20) 9 ≡ r → (r.holds ≡ wire_serial) × (r.may ≡ false)
unfolding table_of wire_table
serial-row r e = rw (sym e) (refl, refl)

-- ── the wire's numbers behind the front ──
module _ (t u v : List ℤ) (e : v ≡ with_part 0 u t) (h : length t ≡ 96) (l : length v ≡ 96) where
  front_long : length u ≡ 32
  front_long = omega (arith, ap length (sym e) ∙ l, length-append u (drop 32 t), length-drop 32 t, h)

  behind-same : (i : ℕ) → get_or v (32 + i) (pos 0) ≡ get_or t (32 + i) (pos 0)
  behind-same i =
      ap (λ (y : List ℤ). get_or y (32 + i) (pos 0)) e
      ∙ ap (λ (m : ℕ). get_or (u ++ drop 32 t) (m + i) (pos 0)) (sym front_long)
      ∙ get_or-append-add u (drop 32 t) i (pos 0)
      ∙ get_or-drop 32 t i (pos 0)

  -- a line at the front leaves the counts
  pub shelves-kept : ShelvesReady t → ShelvesReady v
  shelves-kept r =
      record {
        scratch = l;
        direcs = subst CountGiven (sym (behind-same 6)) r.direcs;
        piends = subst CountGiven (sym (behind-same 15)) r.piends;
        nums = subst CountGiven (sym (behind-same 19)) r.nums;
        texts = subst CountGiven (sym (behind-same 37)) r.texts;
      }

-- ── a row of the table, as the code has it ──
at-end : (j : ℕ) (b : Bool) → get_or (replicate j false ++ b ∷ []) j false ≡ b
at-end zero b = refl
at-end (suc j) b = at-end j b

line_row : (k : Known) (d : Digits) (b : Bool) (j : ℕ) (r : Rule) (c : Rest) → act_row k d b j (for_line r) c ≡ act_row k d b j r c
line_row k d b j r c =
    subst (λ (b : Bool). act_row k d b j (for_line r) c ≡ act_row k d b j r c) (at-end j b) (found-line k d (replicate j false ++ b ∷ []) c (found j r))

begin-row : (k : Known) (i j m : ℕ) (r : Rule) (s : Shape) (v : Value) → read_shape k i r s ≡ got (begin m j v) → i ≡ j
begin-row k i j m r opener v e = cc
begin-row k i j m r no_content v e = cc
begin-row k i j m r (content at c) v e = let w = map-got (entry i) (read_kind k r.holds at c) (begin m j v) e in let q = w.2 in cc
begin-row k i j m r (opening at c) v e = let w = map-got (begin (inner_of r.holds) i) (read_kind k r.holds at c) (begin m j v) e in let q = w.2 in cc
begin-row k i j m r formless v e = never e

module _ (row : Row) (same_row : RowOfWire row) where
  row-roomy : (n : ℕ) → roomy 0 n (rule_at (table_of 20) row.number) ≡ true → roomy 0 n (rule_of row) ≡ true
  row-roomy n h = subst (λ (r : Rule). roomy 0 n r ≡ true) (sym same_row) h

  pub front-room : (n : ℕ) → n ≡ 32 → row.number < 5 → roomy 0 n (rule_of row) ≡ true
  front-room n e h =
      let j = row.number in
      let a = at_all (roomy 0 32) (take 5 (table_of 20)) j front-rows (omega (arith, length-take-le 5 (table_of 20) (omega (arith, wire-ten)), h)) in
      subst (λ (m : ℕ). roomy 0 m (rule_of row) ≡ true) (sym e)
      (row-roomy 32 (subst (λ (r : Rule). roomy 0 32 r ≡ true) (get_or-take 5 (table_of 20) j (rule_at [] 0) h) a))

  pub own_room : (n : ℕ) → n ≡ 64 → row.number < 10 → roomy 0 n (rule_of row) ≡ true
  own_room n e h =
      subst (λ (m : ℕ). roomy 0 m (rule_of row) ≡ true) (sym e) (row-roomy 64 (at_all (roomy 0 64) (table_of 20) row.number wire-rows (omega (arith, wire-ten, h))))

  -- its line's places are those of the definitions' row
  put_as : (j : ℕ) → row.number ≡ j → (v : Value) (u : List ℤ) → put_line (rule_of row) 0 v u ≡ put_line (rule_at (table_of 20) j) 0 v u
  put_as j e v u = ap (λ (r : Rule). put_line r 0 v u) same_row ∙ ap (λ (i : ℕ). put_line (rule_at (table_of 20) i) 0 v u) e

  module _ (k : Known) (d : Digits) (full : Bool) (c : Rest) where
    abbrev does : Act
    does = act_row k d full row.number (rule_of row) c

    entry-number : (j : ℕ) (v : Value) → does ≡ entry j v → row.number ≡ j
    entry-number j v e =
        let w = row-did k d full row.number (rule_of row) c (entry j v) refl e in read-row k row.number j (rule_of row) (shape_for (rule_of row) c) v w.read

    begin-number : (i j : ℕ) (v : Value) → does ≡ begin i j v → row.number ≡ j
    begin-number i j v e =
        let w = row-did k d full row.number (rule_of row) c (begin i j v) refl e in begin-row k row.number j i (rule_of row) (shape_for (rule_of row) c) v w.read

    -- a line of the row `serial` has an own number first
    own_first : (v : Value) → does ≡ entry 9 v → OwnFirst v
    own_first v e =
        let w = row-did k d full row.number (rule_of row) c (entry 9 v) refl e in
        let (o, m) = serial-row (rule_at (table_of 20) row.number) (ap (rule_at (table_of 20)) (sym (entry-number 9 v e))) in
        let holds : (rule_of row).holds ≡ wire_serial = ap (λ (r : Rule). r.holds) same_row ∙ o in
        let may : (rule_of row).may ≡ false = ap (λ (r : Rule). r.may) same_row ∙ m in
        entry_first k row.number 9 (rule_of row) v may (λ at c q. wire-serial-first k at c v (rw holds at q)) (shape_for (rule_of row) c) w.fit (rw holds) (rw holds) w.read

    -- ── a line at the front ──
    module _ (range : ℕ) (n : Now) (at : Where) (t₀ rec₁ t₁ : List ℤ) (x : Next) (d-is : d ≡ digits_of range)
        (m : Acts (λ _. rule_of row) 0 (part_at 0 t₀) does rec₁ x) (l : t₁ ≡ with_part 0 rec₁ t₀) where
      abbrev Front : Act → List ℤ → Step → Type 0
      Front a t r = FrontLine a range n at t₀ t r

      abbrev ours : Act
      ours = act_row k (digits_of range) full row.number (rule_of row) c

      in-range : does ≡ ours
      in-range = ap (λ (d : Digits). act_row k d full row.number (rule_of row) c) d-is

      -- what a caller's match knows
      told : (y : Next) → x ≡ y → Took (λ _. rule_of row) 0 (part_at 0 t₀) does rec₁ y
      told y e = subst (Took (λ _. rule_of row) 0 (part_at 0 t₀) does rec₁) e (took (λ _. rule_of row) 0 (part_at 0 t₀) rec₁ does x m)

      as-does : (a : Act) (t : List ℤ) (r : Step) → does ≡ a → Front a t r → Front ours t r
      as-does a t r e h = subst (λ (b : Act). Front b t r) (sym (sym in-range ∙ e)) h

      pub front-stay : x ≡ N.Stay → Front ours t₁ (S.Go n)
      front-stay e =
          let (a, b) = told N.Stay e in
          as-does stay t₁ (S.Go n) a (record { answer = refl; records = l ∙ ap (λ (u : List ℤ). with_part 0 u t₀) b ∙ with-same 0 t₀ })

      pub front-number : (j : ℕ) → x ≡ N.Entry j → row.number ≡ j
      front-number j e = let (v, a, b) = told (N.Entry j) e in entry-number j v a

      front-is : (j : ℕ) (v : Value) → does ≡ entry j v → rec₁ ≡ put_line (rule_of row) 0 v (part_at 0 t₀) → t₁ ≡ front_read j v t₀
      front-is j v a b = l ∙ ap (λ (u : List ℤ). with_part 0 u t₀) (b ∙ put_as j (entry-number j v a) v (part_at 0 t₀))

      abbrev joins : Bool
      joins = joins_ends (range / 100)

      pub front-element : (j : ℕ) (ends : Bool) (t₂ : List ℤ) (r : Step) → x ≡ N.Entry j → j < 2 → ends ≡ joins → Tested (join_holds ends j t₁) (more_points n) (element_put ends n at j t₁) t₂ r → Front ours t₂ r
      front-element j ends t₂ r e h q p =
          let (v, a, b) = told (N.Entry j) e in
          let is = front-is j v a b in
          let p₁ = subst (λ (y : Bool). Tested (join_holds y j t₁) (more_points n) (element_put y n at j t₁) t₂ r) q p in
          let p₂ = subst (λ (y : List ℤ). Tested (join_holds joins j y) (more_points n) (element_put joins n at j y) t₂ r) is p₁ in
          let el : true ≡ is_element_row j = sym (lt-ltb j 2 h) in
          as-does (entry j v) t₂ r a (record {
            answer = p₂.0 ∙ ap (λ (y : Bool). cond y (cond (join_holds joins j (front_read j v t₀)) (S.Go (more_points n)) (S.Stop 11)) (cond (group_agrees j (front_read j v t₀)) (S.Go (past_now n)) (S.Stop 11))) el;
            records = subst (EntryRecords range n at t₀ t₂ j v) el p₂.1;
          })

      pub front-group : (j : ℕ) (t₂ : List ℤ) (r : Step) → x ≡ N.Entry j → 2 ≤ j → Tested (group_agrees j t₁) (past_now n) (shelved 0 (shelf_of j) t₁) t₂ r → Front ours t₂ r
      front-group j t₂ r e h p =
          let (v, a, b) = told (N.Entry j) e in
          let is = front-is j v a b in
          let p₂ = subst (λ (y : List ℤ). Tested (group_agrees j y) (past_now n) (shelved 0 (shelf_of j) y) t₂ r) is p in
          let el : false ≡ is_element_row j = sym (le-ltb j 2 h) in
          as-does (entry j v) t₂ r a (record {
            answer = p₂.0 ∙ ap (λ (y : Bool). cond y (cond (join_holds joins j (front_read j v t₀)) (S.Go (more_points n)) (S.Stop 11)) (cond (group_agrees j (front_read j v t₀)) (S.Go (past_now n)) (S.Stop 11))) el;
            records = subst (EntryRecords range n at t₀ t₂ j v) el p₂.1;
          })

      pub front-begin : (i : Inner) (t₂ : List ℤ) → x ≡ N.Begin i → Front ours t₂ (S.Stop 5)
      front-begin i t₂ e = let (v, a, b) = told (N.Begin i) e in as-does (begin i.block i.row v) t₂ (S.Stop 5) a (record { answer = refl; records = tt })

      pub front-shut : (t₂ : List ℤ) → x ≡ N.Shut → Front ours t₂ (S.Stop 8)
      front-shut t₂ e = let (a, b) = told N.Shut e in as-does shut t₂ (S.Stop 8) a (record { answer = refl; records = tt })

      pub front-refuse : (i : ℕ) (t₂ : List ℤ) → x ≡ N.Refuse i → Front ours t₂ (S.Stop i)
      front-refuse i t₂ e = as-does (refuse i) t₂ (S.Stop i) (told (N.Refuse i) e) (record { answer = refl; records = tt })

    -- ── a line of a key that stands once ──
    module _ (range : ℕ) (n : Now) (content-at : Span) (x₀ : Lent) (t₀ rec₁ t₁ : List ℤ) (x : Next) (d-is : d ≡ digits_of range) (long : length t₀ ≡ 96)
        (e : ℕ) (e-is : e ≡ 64) (m : Acts (λ _. rule_of row) 0 (take e (drop 32 t₀)) does rec₁ x) (l : t₁ ≡ take 32 t₀ ++ (rec₁ ++ drop e (drop 32 t₀))) where
      m-own : Acts (λ _. rule_of row) 0 (drop 32 t₀) does rec₁ x
      m-own = subst (λ (u : List ℤ). Acts (λ _. rule_of row) 0 u does rec₁ x) (behind-whole t₀ e e-is long) m

      l-own : t₁ ≡ take 32 t₀ ++ rec₁
      l-own = l ∙ behind-lent t₀ e e-is long rec₁

      abbrev Once : Act → Lent → Step → Type 0
      Once a x₁ r = OnceLine a n content-at x₀ x₁ t₀ t₁ r

      abbrev its : Act
      its = act_row k (digits_of range) full row.number (rule_of row) c

      its-told : (y : Next) → x ≡ y → Took (λ _. rule_of row) 0 (drop 32 t₀) does rec₁ y
      its-told y e = subst (Took (λ _. rule_of row) 0 (drop 32 t₀) does rec₁) e (took (λ _. rule_of row) 0 (drop 32 t₀) rec₁ does x m-own)

      as-its : (a : Act) (x₁ : Lent) (r : Step) → does ≡ a → Once a x₁ r → Once its x₁ r
      as-its a x₁ r e h = subst (λ (b : Act). Once b x₁ r) (sym (ap (λ (d : Digits). act_row k d full row.number (rule_of row) c) (sym d-is) ∙ e)) h

      own_is : (j : ℕ) (v : Value) → row.number ≡ j → rec₁ ≡ put_line (rule_of row) 0 v (drop 32 t₀) → t₁ ≡ own_read j v t₀
      own_is j v e b = l-own ∙ ap (λ (u : List ℤ). take 32 t₀ ++ u) (b ∙ put_as j e v (drop 32 t₀))

      pub once-number : (j : ℕ) → x ≡ N.Entry j → row.number ≡ j
      once-number j e = let (v, a, b) = its-told (N.Entry j) e in entry-number j v a

      -- the own number of a line `serial`
      own_put : (v : Value) (i : ℕ) (zs : List ℤ) → numbers v ≡ pos i ∷ zs → get_or (put_line (rule_at (table_of 20) 9) 0 v (drop 32 t₀)) 53 (pos 0) ≡ pos i
      unfolding table_of wire_table
      own_put v i zs e =
          let u : List ℤ = drop 32 t₀ in
          ap (λ (ys : List ℤ). get_or (set (sets u 53 ys) 61 (given v)) 53 (pos 0)) e
          ∙ get_or-set_other (sets u 53 (pos i ∷ zs)) 61 53 (given v) (pos 0) (λ q. omega (arith, q))
          ∙ sets_first u 53 (pos i) zs (omega (arith, length-drop 32 t₀, long))

      pub once-own : (j : ℕ) → x ≡ N.Entry j → j ≡ 9 → OwnGiven (get_or t₁ 85 (pos 0))
      once-own j e q =
          let (v, a, b) = its-told (N.Entry 9) (e ∙ ap N.Entry q) in
          let f = own_first v a in
          let p = put_line (rule_at (table_of 20) 9) 0 v (drop 32 t₀) in
          let is : t₁ ≡ take 32 t₀ ++ p = own_is 9 v (entry-number 9 v a) b in
          let front : length (take 32 t₀) ≡ 32 = length-take-le 32 t₀ (omega (arith, long)) in
          own-given (get_or t₁ 85 (pos 0)) f.own
          (ap (λ (y : List ℤ). get_or y 85 (pos 0)) is
          ∙ ap (λ (i : ℕ). get_or (take 32 t₀ ++ p) (i + 53) (pos 0)) (sym front)
          ∙ get_or-append-add (take 32 t₀) p 53 (pos 0)
          ∙ own_put v f.own f.others f.first) f.most

      pub once-stay : x ≡ N.Stay → Once its x₀ (S.Go n)
      once-stay e =
          let (a, b) = its-told N.Stay e in
          as-its stay x₀ (S.Go n) a (record { answer = refl; records = l-own ∙ ap (λ (u : List ℤ). take 32 t₀ ++ u) b ∙ whole; lent = refl })
        where
          whole : take 32 t₀ ++ drop 32 t₀ ≡ t₀
          whole = take-append-drop 32 t₀

      pub once-entry : (j : ℕ) (x₁ : Lent) (r : Step) → x ≡ N.Entry j → x₁.inner ≡ x₀.inner
          → OnceEntered n j (own_in t₁) content-at (with_inner [] x₀) (with_inner [] x₁) r → Once its x₁ r
      once-entry j x₁ r e i h =
          let (v, a, b) = its-told (N.Entry j) e in
          let is = own_is j v (entry-number j v a) b in
          let h₁ = subst (λ (y : List ℤ). OnceEntered n j (own_in y) content-at (with_inner [] x₀) (with_inner [] x₁) r) is h in
          as-its (entry j v) x₁ r a (record {
            answer = h₁.answer;
            records = is;
            lent = λ q. inner_back x₁ (lent_with (eqb j 9) x₀ j (own_in (own_read j v t₀)) content-at) i (h₁.lent q);
          })
        where
          inner_back : (y z : Lent) → y.inner ≡ z.inner → with_inner [] y ≡ with_inner [] z → y ≡ z
          inner_back y z i e = ap (λ (w : List Bool). with_inner w y) i ∙ ap (with_inner z.inner) e

      pub once-begin : (i : Inner) (inner : List Bool) (r : Now) → x ≡ N.Begin i → inner ≡ replicate (length x₀.inner) false → r ≡ at_block n 12 1 → Once its (with_inner inner x₀) (S.Go r)
      once-begin i inner r e q g =
          let (v, a, b) = its-told (N.Begin i) e in
          as-its (begin i.block i.row v) (with_inner inner x₀) (S.Go r) a
          (record { answer = ap S.Go g; records = own_is i.row v (begin-number i.block i.row v a) b; lent = ap (λ (w : List Bool). with_inner w x₀) q })

      pub once-shut : (x₁ : Lent) → x ≡ N.Shut → Once its x₁ (S.Stop 8)
      once-shut x₁ e = let (a, b) = its-told N.Shut e in as-its shut x₁ (S.Stop 8) a (record { answer = refl; records = tt; lent = tt })

      pub once-refuse : (i : ℕ) (x₁ : Lent) → x ≡ N.Refuse i → Once its x₁ (S.Stop i)
      once-refuse i x₁ e = as-its (refuse i) x₁ (S.Stop i) (its-told (N.Refuse i) e) (record { answer = refl; records = tt; lent = tt })

-- the row is marked, and its own number is in use
module _ (n : Now) (j own : ℕ) (at : Span) where
  pub entered-serial : (m : Now) (t₀ t₁ s₀ s₁ : List ℕ) (marks inner : List Bool) (r : Step) → j ≡ 9 → m ≡ past_now n → SerialLine m own at t₀ t₁ s₀ s₁ r
      → OnceEntered n j own at (lent t₀ s₀ marks inner) (lent t₁ s₁ (set marks j true) inner) r
  entered-serial m t₀ t₁ s₀ s₁ marks inner r e q h =
      rw e (record { answer = h.answer ∙ ap (λ (m : Now). cond (in_use t₀ s₀ own) (S.Stop 15) (S.Go m)) q; lent = λ y. rw (h.tally y, h.serials y) })

  pub entered-other : (m : Now) (t s : List ℕ) (marks inner : List Bool) → (j ≡ 9 → ⊥) → m ≡ past_now n
      → OnceEntered n j own at (lent t s marks inner) (lent t s (set marks j true) inner) (S.Go m)
  entered-other m t s marks inner h q =
      let e = sym (ne_eqb j 9 h) in
      record {
        answer = ap S.Go q ∙ ap (λ (b : Bool). cond (b && in_use t s own) (S.Stop 15) (S.Go (past_now n))) e;
        lent = λ y. ap (λ (b : Bool). lent_with b (lent t s marks inner) j own at) e;
      }

-- ── which row it is ──

module _ (key : List ℕ) (row : Row) (same : found_for_line (find key (table_of 20)) ≡ found row.number (rule_of row)) where
  pub wire-row : (row.number < 10) × RowOfWire row
  wire-row = go (find key (table_of 20)) refl same
    where
      go : (f : Found) → find key (table_of 20) ≡ f → found_for_line f ≡ found row.number (rule_of row) → (row.number < 10) × RowOfWire row
      go absent q e = absurd (let z : ◌≡◌ {A = ℕ} 0 1 = cc in omega arith)
      go (found j r) q e =
          let w = (found-row key (table_of 20) j r q).0 in
          let i : j ≡ row.number = cc in
          let y : rule_of row ≡ for_line r = cc in
          (omega (arith, i, row_below w, wire-ten), y ∙ ap for_line (sym (row_at w _)) ∙ ap (λ (n : ℕ). for_line (rule_at (table_of 20) n)) i)

  module _ (k : Known) (c : Class) (range : ℕ) (n : Now) (at : Where) (x₀ x₁ : Lent) (t₀ t₁ : List ℤ) (r : Step) (skip : Skipped) (rest : Rest) where
    abbrev Key : Found → Type 0
    Key f = KeyInWire k c range n at x₀ x₁ t₀ t₁ r skip rest f

    -- from what holds of the row that was found
    by_row : ((q : Rule) → rule_of row ≡ for_line q → FoundInWire k c range n at x₀ x₁ t₀ t₁ r skip rest row.number q (misplaced n row.number) (reaches c.wires row.least))
        → Key (find key (table_of 20))
    by_row h = go (find key (table_of 20)) same
      where
        go : (f : Found) → found_for_line f ≡ found row.number (rule_of row) → Key f
        go absent e = absurd (let z : ◌≡◌ {A = ℕ} 0 1 = cc in omega arith)
        go (found j q) e =
            let y : rule_of row ≡ for_line q = cc in
            let i : row.number ≡ j = cc in
            let l : reaches c.wires row.least ≡ reaches c.wires q.least = ap (λ (x : Rule). reaches c.wires x.least) y in
            subst (λ (b : Bool). FoundInWire k c range n at x₀ x₁ t₀ t₁ r skip rest j q (misplaced n j) b) l
            (subst (λ (m : ℕ). FoundInWire k c range n at x₀ x₁ t₀ t₁ r skip rest m q (misplaced n m) (reaches c.wires row.least)) i (h q y))

    abbrev Its : Rule → Bool → Bool → Type 0
    Its q = FoundInWire k c range n at x₀ x₁ t₀ t₁ r skip rest row.number q

    pub key-misplaced : (b : Bool) → b ≡ misplaced n row.number → b ≡ true → r ≡ not_here rest → Key (find key (table_of 20))
    key-misplaced b q e h =
        by_row λ w y. subst (λ (b : Bool). Its w b (reaches c.wires row.least)) (sym e ∙ q) h

    module _ (b : Bool) (q : b ≡ misplaced n row.number) (e : b ≡ false) (a : Bool) (p : a ≡ reaches c.wires row.least) where
      its-place : (w : Rule) (a : Bool) → a ≡ reaches c.wires row.least → Its w false a → Its w (misplaced n row.number) (reaches c.wires row.least)
      its-place w a p h = subst (λ (b : Bool). Its w b (reaches c.wires row.least)) (sym e ∙ q) (subst (Its w false) p h)

      pub key-hidden : a ≡ false → UnknownInWire k c range n at x₀ x₁ t₀ t₁ r skip rest → Key (find key (table_of 20))
      key-hidden f h = by_row λ w y. its-place w false (sym f ∙ p) h

      module _ (f : a ≡ true) (full : Bool) (u : full ≡ full_at x₀.marks t₀ row.number) where
        by-act : (w : Rule) → rule_of row ≡ for_line w → act_row k (digits_of range) full row.number (rule_of row) rest ≡ act_row k (digits_of range) (full_at x₀.marks t₀ row.number) row.number w rest
        by-act w y =
            ap (λ (v : Rule). act_row k (digits_of range) full row.number v rest) y
            ∙ line_row k (digits_of range) full row.number w rest
            ∙ ap (λ (v : Bool). act_row k (digits_of range) v row.number w rest) u

        pub key-front : row.number < 5 → FrontLine (act_row k (digits_of range) full row.number (rule_of row) rest) range n at t₀ t₁ r → x₁ ≡ x₀ → Key (find key (table_of 20))
        key-front h g z =
            by_row λ w y. its-place w true (sym f ∙ p)
            (subst (λ (b : Bool). RowInWire k c range n at x₀ x₁ t₀ t₁ r rest b (act_row k (digits_of range) (full_at x₀.marks t₀ row.number) row.number w rest)) (sym (lt-ltb row.number 5 h))
            (subst (λ (a : Act). FrontLine a range n at t₀ t₁ r) (by-act w y) g, z))

        pub key-once : 5 ≤ row.number → OnceLine (act_row k (digits_of range) full row.number (rule_of row) rest) n (content_at rest) x₀ x₁ t₀ t₁ r → Key (find key (table_of 20))
        key-once h g =
            by_row λ w y. its-place w true (sym f ∙ p)
            (subst (λ (b : Bool). RowInWire k c range n at x₀ x₁ t₀ t₁ r rest b (act_row k (digits_of range) (full_at x₀.marks t₀ row.number) row.number w rest)) (sym (le-ltb row.number 5 h))
            (subst (λ (a : Act). OnceLine a n (content_at rest) x₀ x₁ t₀ t₁ r) (by-act w y) g))

-- a key that is not known, as the code answers it
pub unknown_in-wire : (k : Known) (c : Class) (range : ℕ) (n : Now) (at : Where) (x : Lent) (t : List ℤ) (r : Step) (skip : Skipped) (rest : Rest) (d : Digits) (m : Now)
    → d ≡ digits_of range → m ≡ past_now n → r ≡ unknown_step c.wires d m skip rest → UnknownInWire k c range n at x x t t r skip rest
unknown_in-wire k c range n at x t r skip rest d m p q e =
    record { answer = e ∙ ap (λ (d : Digits). unknown_step c.wires d m skip rest) p ∙ ap (λ (m : Now). unknown_step c.wires (digits_of range) m skip rest) q; lent = refl; rec = refl }

-- ── a line with a key, by its form ──
module _ (k : Known) (c : Class) (range : ℕ) (n : Now) (at : Where) (x₀ x₁ : Lent) (t₀ t₁ : List ℤ) (r : Step) (s : List ℕ) (form : LineForm)
    (h : KeyInWire k c range n at x₀ x₁ t₀ t₁ r (skipped_by (form_in s form)) (rest_in s (rest_of form)) (find (bytes_at s (key_of form)) (table_of 20))) where
  pub wire-opens : (o : Opener) → form ≡ L.Opens o → ReadLine k c range n at x₀ x₁ t₀ t₁ r (form_in s form)
  wire-opens o e = rw e (rw e at h)

  pub wire-equals : (q : Equation) → form ≡ L.Equals q → ReadLine k c range n at x₀ x₁ t₀ t₁ r (form_in s form)
  wire-equals q e = rw e (rw e at h)

-- ── a line in its text ──
module _ (k : Known) (d : Digits) (full : List Bool) (f : Form) (n : Now) (t₀ rec₁ t₁ : List ℤ) (x : Next) (w : d ≡ digits 0 0)
    (h : Acts (rule_at (table_of 16)) 0 (part_at 0 t₀) (act k (table_of 16) d full f) rec₁ x) (l : t₁ ≡ with_part 0 rec₁ t₀) where
  abbrev text : Act
  text = text_act k full f

  acts : Acts (rule_at (table_of 16)) 0 (part_at 0 t₀) text rec₁ x
  acts = subst (λ (y : Digits). Acts (rule_at (table_of 16)) 0 (part_at 0 t₀) (act k (table_of 16) y full f) rec₁ x) w h

  pub wire-text-row : (j : ℕ) → x ≡ N.Entry j → j < 2
  wire-text-row j q =
      let w : j < length (table_of 16) = row_of k (table_of 16) (digits 0 0) full f (N.Entry j) (sym q ∙ acts.eq) in omega (arith, w, wire-text-two)

  took-text : (y : Next) → x ≡ y → Took (rule_at (table_of 16)) 0 (part_at 0 t₀) text rec₁ y
  took-text y e = subst (Took (rule_at (table_of 16)) 0 (part_at 0 t₀) text rec₁) e (took (rule_at (table_of 16)) 0 (part_at 0 t₀) rec₁ text x acts)

  abbrev InText : Act → List Bool → List ℤ → Step → Type 0
  InText a m t r = TextInWire a n full m t₀ t r

  put_back : rec₁ ≡ part_at 0 t₀ → t₁ ≡ t₀
  put_back b = l ∙ ap (λ (u : List ℤ). with_part 0 u t₀) b ∙ with-same 0 t₀

  pub wire-text-stay : x ≡ N.Stay → InText text full t₁ (S.Go n)
  wire-text-stay e = let (a, b) = took-text N.Stay e in subst (λ (a : Act). InText a full t₁ (S.Go n)) (sym a) (record { answer = refl; inner = refl; records = put_back b })

  pub wire-text-entry : (j : ℕ) → x ≡ N.Entry j → InText text (set full j true) t₁ (S.Go n)
  wire-text-entry j e =
      let (v, a, b) = took-text (N.Entry j) e in
      subst (λ (a : Act). InText a (set full j true) t₁ (S.Go n)) (sym a) (record { answer = refl; inner = refl; records = l ∙ ap (λ (u : List ℤ). with_part 0 u t₀) b })

  pub wire-text-begin : (i : Inner) (m : List Bool) (t₂ : List ℤ) → x ≡ N.Begin i → InText text m t₂ (S.Stop 5)
  wire-text-begin i m t₂ e =
      let (v, a, b) = took-text (N.Begin i) e in subst (λ (a : Act). InText a m t₂ (S.Stop 5)) (sym a) (record { answer = refl; inner = tt; records = tt })

  pub wire-text-shut : (t₂ : List ℤ) (r : Now) → x ≡ N.Shut → t₂ ≡ shelved text_from text_shelf t₁ → r ≡ past_now n → InText text full t₂ (S.Go r)
  wire-text-shut t₂ r e p g =
      let (a, b) = took-text N.Shut e in
      subst (λ (a : Act). InText a full t₂ (S.Go r)) (sym a) (record { answer = ap S.Go g; inner = refl; records = p ∙ ap (shelved text_from text_shelf) (put_back b) })

  pub wire-text-refuse : (i : ℕ) (m : List Bool) (t₂ : List ℤ) → x ≡ N.Refuse i → InText text m t₂ (S.Stop i)
  wire-text-refuse i m t₂ e = subst (λ (a : Act). InText a m t₂ (S.Stop i)) (sym (took-text (N.Refuse i) e)) (record { answer = refl; inner = tt; records = tt })
