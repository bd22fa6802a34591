-- A wire's lines gone over for one key: what one line writes, and all of them.
use Rattle.std.specs.Prelude.{Option, Some, None, Result, Ok, Err}
use Prim.Native.Nat.{ℕ, zero, suc, ◌+◌, ◌-◌, ◌≤◌, ◌<◌}
use mathlib.Core.Bool.{Bool, true, false, cond, not}
use mathlib.Core.List.{List, [], ◌∷◌, ◌++◌, append_assoc, append-nil}
use mathlib.Core.Path.{◌≡◌, refl, sym, ◌∙◌, ap, subst}
use native.Mathlib.Omega.{arith}
use borrow.Author.Tests.{not-true, not-false}
use borrow.Rule.Slice.PartMut.{put_mid}
use lib.Dec.{eqb}
use lib.ListN.{length, take, drop, set, length-append, length-drop}
use lib.Seq.{take_at, drop-append-add, drop-drop}
use Rattle.rules.specs.declared.LineForm.{LineForm}
use Rattle.rules.specs.declared.LineForm.TheVariants as L
use Rattle.rules.specs.declared.Span.{Span}
use Rattle.rules.specs.Base.{bytes}
use Rattle.rules.specs.Lines.{Rest as LineRest, Form, keyed, form_in, bytes_at}
use Rattle.rules.specs.Values.{Known}
use Rattle.rules.specs.Rows.{Rule, Slots, blank, found, find}
use Rattle.rules.specs.Figures.{text_table, wire_table, wire_text_table}
use Rattle.rules.specs.FixedForm.{Text, no_inner, line_of, show_slots}
use Rattle.rules.proofs.Chains.{clash}
use Rattle.rules.proofs.Rows.{found-row, row_at, row_below}
use Rattle.lines.specs.LineLook.{look_in}
use Rattle.lines.specs.declared.Seen.{Seen}
use Rattle.tables.specs.declared.Row.{Row}
use Rattle.tables.specs.Rows.{found_of, found_for_line}
use Rattle.tables.specs.Tables.{table_of}
use Rattle.entries.specs.declared.Rest.{Rest}
use Rattle.entries.specs.declared.Rest.TheVariants as R
use Rattle.entries.specs.Shapes.{rest_in}
use Rattle.prints.specs.Printing.{Prints, Within}
use Rattle.pens.specs.declared.groups.Opened.{Opened}
use Rattle.pens.specs.Texts.{ended, line_bytes}
use Rattle.pens.specs.Noting.{note_of, Noted, NotedRows}
use Rattle.pens.specs.Writing.{IsRow}
use Rattle.pens.specs.Keys.{PlacedRest}
use Rattle.pens.specs.Passing.{LinesAt, forms_of, Amid, outside, inside, amid_by, OwnLine, TextLine, PassLine, Pass}
use Rattle.pens.specs.Groups.{no_text, text_notes, Holds, noted_row, is_close, rest_here, FoundUnder, FoundHere, opened_behind}
use Rattle.pens.specs.Groups.{PrintsOwn, PrintsShut, Printed, is_over, PrintsLine, PrintsPass}
use Rattle.pens.proofs.Laying.{bytes-append}
use Rattle.pens.proofs.ShownLaws.{more-with, slots-more, none_more}
use Rattle.pens.proofs.Behind.{prints-none, prints-fit, prints-full}
use Rattle.pens.proofs.Writers.{lays, room-lacks, kept-long, room-left}
use Rattle.pens.proofs.KeyRows.{found-is, found_none}
use Rattle.pens.proofs.NotedLaws.{noted-line, set-rows, blank-rows}
use Rattle.pens.proofs.LinesLeft.{line-next, forms-next, forms-end}
use Rattle.leaves.specs.declared.NoRoom.{NoRoom}
use Rattle.leaves.specs.NoRoom.{no_room}

-- ── the tables ──
wire-rows : table_of 20 ≡ wire_table
unfolding table_of
wire-rows = refl

text-rows : table_of 16 ≡ wire_text_table
unfolding table_of
text-rows = refl

text-two : length wire_text_table ≡ 2
unfolding text_table
text-two = refl

-- ── nothing is written ──
module _ (spool : List ℕ) (k : Known) (on : Amid → Text → Type 0) (o : Opened) (t : Text) (before after : List ℕ) (r : Result ℕ NoRoom) where
  nothing : (a : Amid) → Prints [] before after r → Holds spool k a o → on a t → Printed spool k on o false t before after r
  nothing a p h g = record { text = []; rest = t; is = refl; prints = p; behind = a; holds = h; goes = λ _. g; ends = λ e. clash e refl }

-- ── a text's notes ──
-- a row more
noted_more : (o : Opened) (j n : ℕ) → j < 2 → text_notes (noted_row o j n) ≡ set (text_notes o) (4 + j) n
noted_more o zero n l = refl
noted_more o (suc zero) n l = refl
noted_more o (suc (suc j)) n l = absurd (omega (arith, l))

noted-text : (o : Opened) (j n : ℕ) → (noted_row o j n).text ≡ true
noted-text o j n = go (eqb j 0)
  where
    go : (b : Bool) → (cond {A = Opened} b (record { text = true; first = n; second = o.second }) (record { text = true; first = o.first; second = n })).text ≡ true
    go true = refl
    go false = refl

module _ (spool : List ℕ) (j : ℕ) (o : Opened) (before after : List ℕ) (r : Result ℕ NoRoom) (k : Known) (on : Amid → Text → Type 0) where
  -- ── a line with a key ──
  module _ (key : Span) (rest : Rest) (place : PlacedRest rest) (row : Row) (e : FoundUnder spool o key (Some row)) (w : PrintsOwn spool j o row rest before after r) where
    -- what is open behind it
    abbrev next : Opened
    next = cond o.text (noted_row o row.number (note_of rest)) (record { text = eqb row.number 5; first = 0; second = 0 })

    own_line : (t : Text) → o.text ≡ false → OwnLine k j on (bytes_at spool key) (rest_in spool rest) t → Printed spool k on next false t before after r
    own_line t h p =
        let f : find (bytes_at spool key) (table_of 20) ≡ found p.row p.rule = ap (find (bytes_at spool key)) wire-rows ∙ p.found-so in
        let here : found_for_line (find (bytes_at spool key) (table_of 20)) ≡ found_of (Some row) = subst (λ (b : Bool). found_for_line (find (bytes_at spool key) (table_of (cond b 16 20))) ≡ found_of (Some row)) h e in
        let is = found-is (bytes_at spool key) 20 p.row p.rule row here f in
        let holds : Holds spool k (amid_by p.row) next = subst (λ (n : ℕ). Holds spool k (amid_by n) next) is.number_is (rw h (begun row.number)) in
        go holds is (eqb row.number j) refl
      where
        begun : (n : ℕ) → Holds spool k (amid_by n) (record { text = eqb n 5; first = 0; second = 0 })
        begun n = by (eqb n 5)
          where
            by : (b : Bool) → Holds spool k (cond b (inside (blank wire_text_table)) outside) (record { text = b; first = 0; second = 0 })
            by true = (refl, blank-rows spool k wire_text_table 4 (0 ∷ 0 ∷ 0 ∷ 0 ∷ 0 ∷ 0 ∷ []))
            by false = refl

        go : Holds spool k (amid_by p.row) next → IsRow 20 p.row p.rule row → (b : Bool) → eqb row.number j ≡ b → Printed spool k on next false t before after r
        go holds is true q = record {
          text = line_of k p.rule p.value ∷ [];
          rest = p.rest;
          is = p.text ∙ ap (λ (n : ℕ). cond (eqb n j) (line_of k p.rule p.value ∷ p.rest) p.rest) (sym is.number_is) ∙ rw q;
          prints = subst (λ (x : List ℕ). Prints x before after r) (sym (append-nil (ended (line_of k p.rule p.value)))) (w.mine h q k p.rule p.value is.rule is.key p.reads);
          behind = amid_by p.row;
          holds = holds;
          goes = λ _. p.goes;
          ends = λ x. clash x refl;
        }
        go holds is false q = record {
          text = [];
          rest = p.rest;
          is = p.text ∙ ap (λ (n : ℕ). cond (eqb n j) (line_of k p.rule p.value ∷ p.rest) p.rest) (sym is.number_is) ∙ rw q;
          prints = w.other h q;
          behind = amid_by p.row;
          holds = holds;
          goes = λ _. p.goes;
          ends = λ x. clash x refl;
        }

    text-line : (s : Slots) (t : Text) → o.text ≡ true → NotedRows spool k wire_text_table 4 (text_notes o) s → TextLine k j on s (bytes_at spool key) (rest_in spool rest) t
        → Printed spool k on next false t before after r
    text-line s t h z p =
        let f : find (bytes_at spool key) (table_of 16) ≡ found p.row p.rule = ap (find (bytes_at spool key)) text-rows ∙ p.found-so in
        let here : found_for_line (find (bytes_at spool key) (table_of 16)) ≡ found_of (Some row) = subst (λ (b : Bool). found_for_line (find (bytes_at spool key) (table_of (cond b 16 20))) ≡ found_of (Some row)) h e in
        let is = found-is (bytes_at spool key) 16 p.row p.rule row here f in
        let (stands, _) = found-row (bytes_at spool key) wire_text_table p.row p.rule p.found-so in
        let two : p.row < 2 = omega (arith, row_below stands, text-two) in
        let note = noted-line spool k p.rule rest p.value place p.reads in
        let noted : NotedRows spool k wire_text_table 4 (set (text_notes o) (4 + p.row) (note_of rest)) (set s p.row (Some p.value)) =
        set-rows spool k wire_text_table 4 (text_notes o) s p.row (note_of rest) p.value (row_below stands) (omega (arith, text-two))
        (subst (λ (q : Rule). Noted spool k q (note_of rest) (Some p.value)) (sym (row_at stands _)) note) z in
        let holds : Holds spool k (inside (set s p.row (Some p.value))) (noted_row o p.row (note_of rest)) =
        (noted-text o p.row (note_of rest), subst (λ (ns : List ℕ). NotedRows spool k wire_text_table 4 ns (set s p.row (Some p.value))) (sym (noted_more o p.row (note_of rest) two)) noted) in
        nothing spool k on next t before after r (inside (set s p.row (Some p.value))) (w.in-text h)
        (rw h (subst (λ (n : ℕ). Holds spool k (inside (set s p.row (Some p.value))) (noted_row o n (note_of rest))) (sym is.number_is) holds))
        p.goes

    key-line : (a : Amid) (t : Text) → Holds spool k a o → PassLine k j on a (keyed (bytes_at spool key) (rest_in spool rest)) t → Printed spool k on next false t before after r
    key-line outside t h p = own_line t h p
    key-line (inside s) t h p = text-line s t h.0 h.1 p

  -- a key that was not found
  unfound : {P : Type 0} (key : Span) (x : LineRest) → FoundUnder spool o key None → (a : Amid) (t : Text) → Holds spool k a o → PassLine k j on a (keyed (bytes_at spool key) x) t → P
  unfound key x e outside t h p =
      found_none (bytes_at spool key) 20 p.row p.rule (subst (λ (b : Bool). found_for_line (find (bytes_at spool key) (table_of (cond b 16 20))) ≡ found_of None) h e)
      (ap (find (bytes_at spool key)) wire-rows ∙ p.found-so)
  unfound key x e (inside s) t h p =
      found_none (bytes_at spool key) 16 p.row p.rule (subst (λ (b : Bool). found_for_line (find (bytes_at spool key) (table_of (cond b 16 20))) ≡ found_of None) h.0 e)
      (ap (find (bytes_at spool key)) text-rows ∙ p.found-so)

  -- ── a `}` ──
  shut-line : PrintsShut spool j o before after r → (a : Amid) (t : Text) → Holds spool k a o → PassLine k j on a (form_in spool L.Close) t
      → Printed spool k on no_text (is_over o L.Close) t before after r
  shut-line w outside t h p =
      rw h (record { text = []; rest = []; is = p; prints = w.wire h; behind = outside; holds = refl; goes = λ e. clash refl e; ends = λ _. refl })
  shut-line w (inside s) t h p = rw h.0 (go (eqb j 5) refl)
    where
      go : (b : Bool) → eqb j 5 ≡ b → Printed spool k on no_text false t before after r
      go true q = record {
        text = show_slots k wire_text_table s no_inner (bytes "}" ∷ []);
        rest = p.rest;
        is = p.text ∙ rw q (more-with (show_slots k wire_text_table s no_inner)
            (slots-more k no_inner (none_more k) wire_text_table s) (bytes "}" ∷ []) p.rest);
        prints = w.mine h.0 q k s h.1;
        behind = outside;
        holds = refl;
        goes = λ _. p.goes;
        ends = λ e. clash e refl;
      }
      go false q = record { text = []; rest = p.rest; is = p.text ∙ rw q; prints = w.other h.0 q; behind = outside; holds = refl; goes = λ _. p.goes; ends = λ e. clash e refl }

-- ── the code's functions of a line ──

pub behind-shut : (o : Opened) (f : LineForm) (g : Option Row) (x : Opened) → is_close f ≡ true → x ≡ no_text → x ≡ opened_behind o f g
behind-shut o f g x e n = n ∙ sym (rw e)

pub behind-none : (o : Opened) (f : LineForm) (g : Option Row) → is_close f ≡ false → g ≡ None → o ≡ opened_behind o f g
behind-none o f g e n = sym (rw (e, n))

pub behind-text : (o : Opened) (f : LineForm) (g : Option Row) (row : Row) (rest : Rest) (note : ℕ) (x : Opened) → is_close f ≡ false → g ≡ Some row → o.text ≡ true → rest ≡ rest_here f → note ≡ note_of rest
    → x ≡ noted_row o row.number note → x ≡ opened_behind o f g
behind-text o f g row rest note x e n h a b c = c ∙ ap (noted_row o row.number) (b ∙ ap note_of a) ∙ sym (rw (e, n, h))

pub behind-own : (o : Opened) (f : LineForm) (g : Option Row) (row : Row) → is_close f ≡ false → g ≡ Some row → o.text ≡ false
    → ◌≡◌ {A = Opened} (record { text = eqb row.number 5; first = 0; second = 0 }) (opened_behind o f g)
behind-own o f g row e n h = sym (rw (e, n, h))

-- ── any line ──
pub line-shut : (spool : List ℕ) (j : ℕ) (o : Opened) (f : LineForm) (g : Option Row) (before after : List ℕ) (r : Result ℕ NoRoom) → is_close f ≡ true → PrintsShut spool j o before after r
    → PrintsLine spool j o f g before after r
line-shut spool j o L.Ignored g before after r c w = clash c refl
line-shut spool j o L.Close g before after r c w = λ k fs a t place e h p. shut-line spool j o before after r k (Pass k j fs) w a t h p
line-shut spool j o L.Eof g before after r c w = clash c refl
line-shut spool j o (L.Opens x) g before after r c w = clash c refl
line-shut spool j o (L.Equals x) g before after r c w = clash c refl
line-shut spool j o (L.Refused x) g before after r c w = clash c refl

pub line-none : (spool : List ℕ) (j : ℕ) (o : Opened) (f : LineForm) (g : Option Row) (before : List ℕ) → is_close f ≡ false → g ≡ None
    → PrintsLine spool j o f g before before (Ok 0)
line-none spool j o L.Ignored g before c n = λ k fs a t place e h p. rw n (nothing spool k (Pass k j fs) o t before before (Ok 0) a (prints-none before) h p)
line-none spool j o L.Close g before c n = clash refl c
line-none spool j o L.Eof g before c n = λ k fs a t place e h p. absurd p
line-none spool j o (L.Opens x) g before c n = λ k fs a t place e h p. unfound spool j o before before (Ok 0) k (Pass k j fs) x.key _ (subst (FoundUnder spool o x.key) n e) a t h p
line-none spool j o (L.Equals x) g before c n = λ k fs a t place e h p. unfound spool j o before before (Ok 0) k (Pass k j fs) x.key _ (subst (FoundUnder spool o x.key) n e) a t h p
line-none spool j o (L.Refused x) g before c n = λ k fs a t place e h p. absurd p

pub line-own : (spool : List ℕ) (j : ℕ) (o : Opened) (f : LineForm) (g : Option Row) (row : Row) (before after : List ℕ) (r : Result ℕ NoRoom) → is_close f ≡ false → g ≡ Some row
    → PrintsOwn spool j o row (rest_here f) before after r → PrintsLine spool j o f g before after r
line-own spool j o L.Ignored g row before after r c n w = λ k fs a t place e h p. none_such (sym e ∙ n)
  where
    none_such : {P : Type 0} → None ≡ Some row → P
    none_such z = absurd (let y : ◌≡◌ {A = ℕ} 0 1 = cc in omega arith)
line-own spool j o L.Close g row before after r c n w = clash refl c
line-own spool j o L.Eof g row before after r c n w = λ k fs a t place e h p. absurd p
line-own spool j o (L.Opens x) g row before after r c n w =
    λ k fs a t place e h p. rw n (key-line spool j o before after r k (Pass k j fs) x.key R.Brace tt row (subst (FoundUnder spool o x.key) n e) w a t h p)
line-own spool j o (L.Equals x) g row before after r c n w =
    λ k fs a t place e h p. rw n (key-line spool j o before after r k (Pass k j fs) x.key (R.Equals x.rest) place row (subst (FoundUnder spool o x.key) n e) w a t h p)
line-own spool j o (L.Refused x) g row before after r c n w = λ k fs a t place e h p. absurd p

-- ── all lines ──
-- what is written so far: n bytes at the front, and they are x
pub record Front (x : List ℕ) (n : ℕ) (before out : List ℕ) : Type 0 where
  pub size : n ≡ length x
  pub room : n ≤ length before
  pub lies : out ≡ x ++ drop n before

module _ (x : List ℕ) (n : ℕ) (before out : List ℕ) (h : n ≤ length out) (z : Front x n before out) (y mid : List ℕ) (r : Result ℕ NoRoom) (p : Prints y (take (length out - n) (drop n out)) mid r) where
  front_long : length out ≡ length before
  front_long = ap length z.lies ∙ length-append x (drop n before) ∙ omega (arith, z.size, z.room, length-drop n before)

  pub front-more : (m : ℕ) → r ≡ Ok m → Front (x ++ y) (n + m) before (put_mid n (length out - n) out mid)
  front-more m e =
      let l = lays out n h mid r y p m e in
      let front : take n out ≡ x = ap (take n) z.lies ∙ take_at x (drop n before) n (sym z.size) in
      let rest : drop (n + length y) out ≡ drop (n + m) before =
      ap (drop (n + length y)) z.lies ∙ ap (λ (i : ℕ). drop (i + length y) (x ++ drop n before)) z.size
      ∙ drop-append-add x (drop n before) (length y) ∙ drop-drop (length y) n before ∙ ap (λ (i : ℕ). drop (n + i) before) (sym l.size) in
      record {
        size = omega (arith, z.size, l.size, length-append x y);
        room = omega (arith, l.room, l.size, front_long);
        lies = l.lies ∙ ap (λ (u : List ℕ). u ++ (y ++ drop (n + length y) out)) front ∙ ap (λ (u : List ℕ). x ++ (y ++ u)) rest ∙ sym (append_assoc x y (drop (n + m) before));
      }

  pub front-full : r ≡ Err no_room → length before < length (x ++ y)
  front-full e = omega (arith, room-lacks out n h mid r y p e, length-append x y, z.size, front_long)

pub front-prints : (x : List ℕ) (n : ℕ) (before out : List ℕ) → Front x n before out → Prints x before out (Ok n)
front-prints x n before out z =
    prints-fit x before out n (sym z.size) (omega (arith, z.size, z.room)) (z.lies ∙ ap (λ (m : ℕ). x ++ drop m before) z.size)

-- how far a pass has come
pub record Come (spool body : List ℕ) (start from j : ℕ) (before : List ℕ) (k : Known) (ls : List (List ℕ)) (t : Text) (o : Opened) (at n : ℕ) (going : Bool) (out : List ℕ) : Type 0 where
  pub left : List (List ℕ)
  pub there : LinesAt spool body start at left
  pub done : Text
  pub rest : Text
  pub is : t ≡ done ++ rest
  pub front : Front (line_bytes done) n before out
  pub behind : Amid
  pub holds : Holds spool k behind o
  pub goes : going ≡ true → Pass k j (forms_of at left) behind rest
  pub ends : going ≡ false → rest ≡ []

pub record Passing (spool body : List ℕ) (start from j : ℕ) (before : List ℕ) (o : Opened) (at n : ℕ) (going : Bool) (out : List ℕ) : Type 0 where
  pub small : length before ≤ 18446744073709551615
  pub long : length out ≡ length before
  pub within : n ≤ length before
  pub come : (k : Known) (ls : List (List ℕ)) (t : Text) → LinesAt spool body start from ls → Pass k j (forms_of from ls) outside t
      → Come spool body start from j before k ls t o at n going out

module _ (spool body : List ℕ) (start from j : ℕ) (before : List ℕ) where
  pub pass-begins : (o : Opened) → o ≡ no_text → length before ≤ 18446744073709551615 → Passing spool body start from j before o from 0 true before
  pass-begins o e s = record {
    small = s;
    long = refl;
    within = omega arith;
    come = λ k ls t a p.
        record {
          left = ls;
          there = a;
          done = [];
          rest = t;
          is = refl;
          front = record { size = refl; room = omega arith; lies = refl };
          behind = outside;
          holds = ap (λ (x : Opened). x.text) e;
          goes = λ _. p;
          ends = λ h. clash refl h;
        };
  }

  module _ (o : Opened) (at n : ℕ) (going : Bool) (out : List ℕ) (w : Passing spool body start from j before o at n going out) where
    -- no line was seen
    pub pass-ends : going ≡ true → look_in 1 1 start at body ≡ None → Passing spool body start from j before o at n false out
    pass-ends g q = record {
      small = w.small;
      long = w.long;
      within = w.within;
      come = λ k ls t a p. let c = w.come k ls t a p in absurd (subst (λ (fs : List Form). Pass k j fs c.behind c.rest) (forms-end spool body start at c.left c.there q) (c.goes g));
    }

    pub pass-within : Within before out (Ok n)
    pass-within = record { long = w.long; within = λ m e. let z : n ≡ m = cc in omega (arith, z, w.within) }

    pub pass-over : going ≡ false → PrintsPass spool body start from j before out (Ok n)
    pass-over g k ls t a p =
        let c = w.come k ls t a p in
        subst (λ (u : Text). Prints (line_bytes u) before out (Ok n)) (sym (c.is ∙ ap (λ (u : Text). c.done ++ u) (c.ends g) ∙ append-nil c.done)) (front-prints (line_bytes c.done) n before out c.front)

    -- a line was seen
    module _ (g : going ≡ true) (f : Seen) (q : look_in 1 1 start at body ≡ Some f) (h : Option Row) (here : FoundHere spool o f.form h) (mid : List ℕ) (r : Result ℕ NoRoom)
        (line : PrintsLine spool j o f.form h (take (length out - n) (drop n out)) mid r) where
      room-there : n ≤ length out
      room-there = omega (arith, w.within, w.long)

      -- what it writes
      lined : (k : Known) (ls : List (List ℕ)) (t : Text) (a : LinesAt spool body start from ls) (p : Pass k j (forms_of from ls) outside t)
          → let c = w.come k ls t a p in let z = line-next spool body start at c.left c.there f q in
          Printed spool k (Pass k j (forms_of f.next z.others)) (opened_behind o f.form h) (is_over o f.form) c.rest (take (length out - n) (drop n out)) mid r
      lined k ls t a p =
          let c = w.come k ls t a p in
          let z = line-next spool body start at c.left c.there f q in
          line k (forms_of f.next z.others) c.behind c.rest z.placed here c.holds
          (subst (λ (fs : List Form). Pass k j fs c.behind c.rest) (forms-next spool body start at c.left c.there f q) (c.goes g))

      pub pass-full : r ≡ Err no_room → (after : List ℕ) → PrintsPass spool body start from j before after (Err no_room)
      pass-full e after k ls t a p =
          let c = w.come k ls t a p in
          let x = lined k ls t a p in
          let y : line_bytes t ≡ (line_bytes c.done ++ line_bytes x.text) ++ line_bytes x.rest =
          ap line_bytes (c.is ∙ ap (λ (u : Text). c.done ++ u) x.is) ∙ bytes-append c.done (x.text ++ x.rest)
          ∙ ap (λ (u : List ℕ). line_bytes c.done ++ u) (bytes-append x.text x.rest) ∙ sym (append_assoc (line_bytes c.done) (line_bytes x.text) (line_bytes x.rest)) in
          prints-full (line_bytes t) before after
          (omega (
            arith,
            ap length y,
            length-append (line_bytes c.done ++ line_bytes x.text) (line_bytes x.rest),
            front-full (line_bytes c.done) n before out room-there c.front (line_bytes x.text) mid r x.prints e,
          ))

      pub pass_on : (o' : Opened) (over : Bool) (m : ℕ) → r ≡ Ok m → o' ≡ opened_behind o f.form h → over ≡ is_over o f.form
          → Within (take (length out - n) (drop n out)) mid r → Passing spool body start from j before o' f.next (n + m) (not over) (put_mid n (length out - n) out mid)
      pass_on o' over m e eo ev i = record {
        small = w.small;
        long = kept-long out n room-there mid r i ∙ w.long;
        within = omega (arith, room-left out n room-there mid r i m e, w.long);
        come = λ k ls t a p.
            let c = w.come k ls t a p in
            let z = line-next spool body start at c.left c.there f q in
            let x = lined k ls t a p in
            record {
              left = z.others;
              there = z.left;
              done = c.done ++ x.text;
              rest = x.rest;
              is = c.is ∙ ap (λ (u : Text). c.done ++ u) x.is ∙ sym (append_assoc c.done x.text x.rest);
              front = subst (λ (u : List ℕ). Front u (n + m) before (put_mid n (length out - n) out mid)) (sym (bytes-append c.done x.text))
                  (front-more (line_bytes c.done) n before out room-there c.front (line_bytes x.text) mid r x.prints m e);
              behind = x.behind;
              holds = subst (Holds spool k x.behind) (sym eo) x.holds;
              goes = λ v. x.goes (sym ev ∙ not-true over v);
              ends = λ v. x.ends (sym ev ∙ not-false over v);
            };
      }
