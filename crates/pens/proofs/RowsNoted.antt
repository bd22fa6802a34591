-- Rows that were noted: the row of a number, whether its line opens a block, and the text of a part's rows taken apart at one of them.
use Rattle.std.specs.Prelude.{Option, Some, None, Result}
use Prim.Native.Nat.{ℕ, ◌≤◌, ◌<◌}
use mathlib.Core.Bool.{Bool, true, false, cond, ◌||◌, not}
use mathlib.Core.List.{List, [], ◌∷◌, ◌++◌, append_assoc}
use mathlib.Core.Path.{◌≡◌, refl, sym, ◌∙◌, ap, subst}
use native.Mathlib.Omega.{arith}
use borrow.Author.Tests.{ne_eqb}
use lib.Dec.{eqb}
use lib.ListN.{length, length-append}
use Rattle.rules.specs.Base.{bytes, same}
use Rattle.rules.specs.RefusalNumbers.{got}
use Rattle.rules.specs.Lines.{Rest, Shape, opener, no_content, content, opening, formless}
use Rattle.rules.specs.Numbers.{fixed}
use Rattle.rules.specs.Values.{Value, Known, Kind, either, is_free, read_kind}
use Rattle.rules.specs.Rows.{Rule, found, inner_of, is_opener as isOpenerShape, is_opening, fits, shape_for, Act, entry, begin, read_shape}
use Rattle.rules.specs.FixedForm.{opens_block, behind, line_of}
use Rattle.rules.proofs.Chains.{and_false, clash, never, map-got}
use Rattle.promises.proofs.RowGood.{Sort, plain, empty_only, brace_only, heads, switch, sort, either-read, either-alone, either-opened}
use Rattle.leaves.specs.Writing.{put_memory}
use Rattle.tables.specs.declared.Row.{Row as CodeRow}
use Rattle.tables.specs.Rows.{kind_of, rule_of, for_line, found_of}
use Rattle.tables.specs.Tables.{table_of}
use Rattle.entries.specs.declared.Rest.{Rest as CodeRest}
use Rattle.entries.specs.declared.Shape.{Shape as Placed}
use Rattle.entries.specs.declared.Shape.TheVariants as P
use Rattle.entries.specs.Shapes.{rest_in, shape_in, sort_of, shape_by}
use Rattle.entries.specs.Acts.{value_of}
use Rattle.entries.proofs.ByShape.{free-is}
use Rattle.prints.specs.Reading.{Reads, PrintsRow}
use Rattle.keywords.specs.Keys.{key_at}
use Rattle.prints.specs.Printing.{Within}
use Rattle.pens.specs.Moves.{is_opener}
use Rattle.pens.specs.Noting.{rest_of, part_table}
use Rattle.pens.specs.Closing.{row_bytes}
use Rattle.pens.specs.Writing.{Named, IsRow, RestIs, FoundRow, RowAt, Opens, Spared, PrintsNoted, TellsInner}
use Rattle.pens.proofs.Laying.{room}
use Rattle.pens.proofs.Behind.{spared-same, spared-prints, key_spared}
use Rattle.leaves.specs.declared.NoRoom.{NoRoom}
use Rattle.tables.specs.declared.Row.{Row}

-- ── a note ──

-- a row of any other kind holds more than an opener
pub kind-closed : (r : CodeRow) → (r.kind ≡ 8 → ⊥) → is_opener (kind_of r) ≡ false
kind-closed r h =
    step (eqb r.kind 1) _ _ refl (step (eqb r.kind 2) _ _ refl (step (eqb r.kind 3) _ _ refl (step (eqb r.kind 4) _ _ refl
    (step (eqb r.kind 5) _ _ refl (step (eqb r.kind 6) _ _ refl (step (eqb r.kind 7) _ _ refl
    (rw (ne_eqb r.kind 8 h) (step (eqb r.kind 9) _ _ refl (step (eqb r.kind 10) _ _ refl (step (eqb r.kind 11) _ _ refl
    (step (eqb r.kind 12) _ _ refl refl)))))))))))
  where
    step : (t : Bool) (a b : Kind) → is_opener a ≡ false → is_opener b ≡ false → is_opener (cond t a b) ≡ false
    step true a b p q = p
    step false a b p q = q

-- ── does a line open a block? ──
abbrev opens_shape : Shape → Bool
opens_shape s = isOpenerShape s || is_opening s

module _ (k : Known) (j : ℕ) (q : Rule) (a : Act) where
  opened-by : (d : Kind) (s : Shape) → q.holds ≡ d → Sort d → fits d q.may s ≡ true → read_shape k j q s ≡ got a → opens_block d (value_of a) ≡ opens_shape s
  opened-by d opener h (plain p b o) f e = clash f (p q.may opener ∙ and_false q.may)
  opened-by d no_content h (plain p b o) f e = o (value_of a)
  opened-by d (content at c) h (plain p b o) f e = o (value_of a)
  opened-by d (opening at c) h (plain p b o) f e = clash f (p q.may (opening at c) ∙ and_false q.may)
  opened-by d formless h (plain p b o) f e = never e
  opened-by d opener h empty_only f e = clash f refl
  opened-by d no_content h empty_only f e = refl
  opened-by d (content at c) h empty_only f e = clash f refl
  opened-by d (opening at c) h empty_only f e = clash f refl
  opened-by d formless h empty_only f e = never e
  opened-by d opener h brace_only f e = refl
  opened-by d no_content h brace_only f e = clash f refl
  opened-by d (content at c) h brace_only f e = clash f refl
  opened-by d (opening at c) h brace_only f e = clash f refl
  opened-by d formless h brace_only f e = never e
  opened-by d opener h heads f e = clash f refl
  opened-by d no_content h heads f e = clash f refl
  opened-by d (content at c) h heads f e = clash f refl
  opened-by d (opening at c) h heads f e = refl
  opened-by d formless h heads f e = never e
  opened-by d opener h switch f e = clash f refl
  opened-by d no_content h switch f e = clash f refl
  opened-by d (content at c) h (switch {i = i}) f e =
      let (v, g, z) = map-got (entry j) (read_kind k q.holds at c) a e in
      let (m, l, y, w) = either-read k i at c v (ap (λ (u : Kind). read_kind k u at c) (sym h) ∙ g) in
      let f' : not (same (fixed 3 m) (bytes "001")) ≡ true = rw (← w) at f in
      ap (λ (b : Act). opens_block (either i) (value_of b)) (sym z) ∙ ap (opens_block (either i)) (sym y) ∙ either-alone m l f'
  opened-by d (opening at c) h (switch {i = i}) f e =
      let (v, g, z) = map-got (begin (inner_of q.holds) j) (read_kind k q.holds at c) a e in
      let (m, l, y, w) = either-read k i at c v (ap (λ (u : Kind). read_kind k u at c) (sym h) ∙ g) in
      let f' : not (same (fixed 3 m) (bytes "000")) ≡ true = rw (← w) at f in
      ap (λ (b : Act). opens_block (either i) (value_of b)) (sym z) ∙ ap (opens_block (either i)) (sym y) ∙ either-opened m l f'
  opened-by d formless h switch f e = never e

opened-so : (k : Known) (q : Rule) (c : Rest) (v : Value) → Reads k q c v → opens_block q.holds v ≡ opens_shape (shape_for q c)
opened-so k q c v z = ap (opens_block q.holds) (sym z.value) ∙ opened-by k z.number q z.act q.holds (shape_for q c) refl (sort q.holds) z.fit z.read

opens-sort : (s : List ℕ) (x : Placed) → opens_shape (shape_in s x) ≡ (eqb (sort_of x) 0 || eqb (sort_of x) 3)
opens-sort s P.Opener = refl
opens-sort s P.NoContent = refl
opens-sort s (P.Content p) = refl
opens-sort s (P.Opening p) = refl
opens-sort s P.Formless = refl

-- as the code asks it
pub opens-so : (s : List ℕ) (row : CodeRow) (c : Rest) (x : Placed) (n : ℕ) → shape_in s x ≡ shape_by (eqb row.kind 1) c → n ≡ sort_of x → (b : Bool) → b ≡ (eqb n 0 || eqb n 3) → Opens row c b
opens-so s row c x n e m b w k q v h z =
    let holds : kind_of row ≡ q.holds = ap (λ (r : Rule). r.holds) h in
    let shape : shape_in s x ≡ shape_for q c = e ∙ ap (λ (t : Bool). shape_by t c) (free-is row ∙ ap is_free holds) in
    w ∙ ap (λ (i : ℕ). eqb i 0 || eqb i 3) m ∙ sym (opens-sort s x) ∙ ap opens_shape shape ∙ sym (opened-so k q c v z)

-- ── the row of a number ──
found-row : (table number : ℕ) (q : Rule) (r : Option Row) → Named table number q → found number (for_line q) ≡ found_of r → FoundRow table number q r
found-row table number q None w e = absurd (let z : ◌≡◌ {A = ℕ} 0 1 = cc in omega arith)
found-row table number q (Some row) w e =
    let a : number ≡ row.number = cc in
    let b : for_line q ≡ rule_of row = cc in
    record { rule = sym b; key = sym w.key ∙ ap (key_at (table_of table)) a; number_is = sym a }

module _ (table number : ℕ) (before after : List ℕ) where
  abbrev key : List ℕ
  key = key_at (table_of table) number

-- ── one row, where it was noted ──
-- a row's line is longer than its key
line-long : (k : Known) (q : Rule) (v : Value) → length q.key ≤ length (row_bytes k q (Some v))
line-long k q v = omega (arith, length-append (line_of k q v) (13 ∷ 10 ∷ []), length-append q.key (behind k q.holds v))

line_spared : (k : Known) (q : Rule) (v : Value) (before after : List ℕ) → after ≡ put_memory q.key before → Spared (row_bytes k q (Some v)) before after
line_spared k q v before after e =
    let more : List ℕ = behind k q.holds v in
    subst (λ (u : List ℕ). Spared u before after) (sym (append_assoc q.key more (13 ∷ 10 ∷ []))) (key_spared q.key (more ++ 13 ∷ 10 ∷ []) before after e)

-- the inner block of a row that opens one
pub inner-is : (r : CodeRow) (v : Value) → opens_block (kind_of r) v ≡ true → inner_of (kind_of r) ≡ r.inner
inner-is r v =
    step (eqb r.kind 1) _ _ shut (step (eqb r.kind 2) _ _ shut (step (eqb r.kind 3) _ _ shut (step (eqb r.kind 4) _ _ shut
    (step (eqb r.kind 5) _ _ shut (step (eqb r.kind 6) _ _ shut (step (eqb r.kind 7) _ _ shut
    (step (eqb r.kind 8) _ _ (λ _. refl) (step (eqb r.kind 9) _ _ (λ _. refl) (step (eqb r.kind 10) _ _ (λ _. refl) (step (eqb r.kind 11) _ _ shut
    (step (eqb r.kind 12) _ _ shut shut)))))))))))
  where
    shut : {P : Type 0} → false ≡ true → P
    shut e = clash e refl

    step : (t : Bool) (a b : Kind) → (opens_block a v ≡ true → inner_of a ≡ r.inner) → (opens_block b v ≡ true → inner_of b ≡ r.inner)
        → opens_block (cond t a b) v ≡ true → inner_of (cond t a b) ≡ r.inner
    step true a b p q = p
    step false a b p q = q

module _ (spool : List ℕ) (table number note : ℕ) (before : List ℕ) where
  pub inner-none : (base : ℕ) → note ≡ 0 → TellsInner spool base table number note before before 255
  inner-none base e k q None w z = (spared-same [] before, λ _. refl)
  inner-none base e k q (Some v) w z = absurd (omega (arith, e, z.0))

  module _ (mid : List ℕ) (r : Option Row) (there : note ≡ 0 → ⊥) (a : RowAt table number before mid r) where
    mid-long : length mid ≡ length before
    mid-long = (key_spared (key_at (table_of table) number) [] before mid a.memory).long

    mid_spared : (k : Known) (q : Rule) (v : Value) → Named table number q → Spared (row_bytes k q (Some v)) before mid
    mid_spared k q v w = line_spared k q v before mid (a.memory ∙ ap (λ (u : List ℕ). put_memory u before) w.key)

    module _ (e : r ≡ None) where
      room-lacks : (q : Rule) → Named table number q → length q.key ≤ length before → ⊥
      room-lacks q w l = rw e at (a.row q w l)

    module _ (row : CodeRow) (e : r ≡ Some row) (rest : CodeRest) (m : RestIs row note rest) where
      -- the row is found where there is room for its key
      row_is : (q : Rule) → Named table number q → length q.key ≤ length before → IsRow table number q row
      row_is q w l = subst (FoundRow table number q) e (a.row q w l)

      has_room : (q : Rule) → Named table number q → length before < length q.key → ⊥
      has_room q w l = let f : None ≡ Some row = sym (a.none-there q w l) ∙ e in let z : ◌≡◌ {A = ℕ} 0 1 = cc in omega (arith, z)

      reads_so : (k : Known) (q : Rule) (v : Value) → IsRow table number q row → Reads k q (rest_of spool q.holds note) v → Reads k q (rest_in spool rest) v
      reads_so k q v w z =
          subst (λ (x : Rest). Reads k q x v) (sym (m spool ∙ ap (λ (u : Rule). rest_of spool u.holds note) w.rule)) z

      pub noted-line : (after : List ℕ) (wrote : Result ℕ NoRoom) → Within mid after wrote
          → PrintsRow table row (rest_in spool rest) mid after wrote
          → Within before after wrote × PrintsNoted spool table number note before after wrote
      noted-line after wrote y p =
          (record { long = y.long ∙ mid-long; within = λ n z. omega (arith, y.within n z, mid-long) }, prints)
        where
          prints : PrintsNoted spool table number note before after wrote
          prints k q None w z = absurd (there z)
          prints k q (Some v) w z =
              room (length q.key) (length before)
              (λ l.
              let x : IsRow table number q row = row_is q w l in
              spared-prints (row_bytes k q (Some v)) before mid after wrote (mid_spared k q v w) (p k q v x.rule x.key (reads_so k q v x z.1)))
              (λ l. absurd (has_room q w l))

      module _ (base : ℕ) (b : Bool) (o : Opens row (rest_in spool rest) b) where
        opens-is : (k : Known) (q : Rule) (v : Value) → IsRow table number q row → Reads k q (rest_of spool q.holds note) v → b ≡ opens_block q.holds v
        opens-is k q v x z = o k q v x.rule (reads_so k q v x z)

        pub inner-shut : b ≡ false → TellsInner spool base table number note before mid 255
        inner-shut s k q None w z = absurd (there z)
        inner-shut s k q (Some v) w z = (
          mid_spared k q v w,
          λ l. let x : IsRow table number q row = row_is q w (omega (arith, l, line-long k q v)) in
              sym (rw (sym (opens-is k q v x z.1) ∙ s)),
        )

        pub inner_open : b ≡ true → (t : ℕ) → t ≡ part_table base row.inner → TellsInner spool base table number note before mid t
        inner_open s t g k q None w z = absurd (there z)
        inner_open s t g k q (Some v) w z = (
          mid_spared k q v w,
          λ l. let x : IsRow table number q row = row_is q w (omega (arith, l, line-long k q v)) in
              let does : opens_block q.holds v ≡ true = sym (opens-is k q v x z.1) ∙ s in
              let holds : kind_of row ≡ q.holds = ap (λ (u : Rule). u.holds) x.rule in
              let inner : inner_of q.holds ≡ row.inner = ap inner_of (sym holds) ∙ inner-is row v (ap (λ (d : Kind). opens_block d v) holds ∙ does) in
              g ∙ ap (part_table base) (sym inner) ∙ sym (ap (λ (u : Bool). cond u (part_table base (inner_of q.holds)) 255) does),
        )
