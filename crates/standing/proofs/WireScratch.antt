-- The scratch of an open wire: an element's record at its front, for the length of its line, and behind it the wire's two. What the line of
-- its opener, of an element and of its end leaves there.
use Rattle.std.specs.Prelude.{Option, Some, None}
use Prim.Native.Nat.{ℕ, zero, suc, ◌+◌, ◌<◌}
use mathlib.Core.Bool.{Bool, true, false, cond, ◌&&◌, ◌||◌, not}
use mathlib.Core.List.{List, [], ◌∷◌, ◌++◌, append_assoc}
use mathlib.Core.Path.{◌≡◌, refl, sym, ◌∙◌, ap, subst}
use native.Mathlib.Omega.{arith}
use borrow.Author.Tests.{eqb-true, ne_eqb, lt-leb}
use lib.Dec.{leb}
use lib.IntN.{ℤ, pos}
use lib.ListN.{length, get_or, set, take, drop, replicate, take-append-drop, length-append, length-drop, drop_of_length-le}
use lib.Seq.{sets, take_at, drop_at, drop-drop}
use Rattle.rules.specs.Values.{Num, nums, equal_z}
use Rattle.rules.specs.Rows.{Rule}
use Rattle.rules.specs.Figures.{wire_table, wire_text_table, text_table}
use Rattle.rules.specs.Sets.{Edge, Wire, Figure, Set}
use Rattle.rules.specs.Machine.{in_layer, figures, placing, skipping, wire_block, wire_unread, no_wire}
use Rattle.rules.specs.RecordTable.{numbers, rule_at, start, padded, mark_unread, wire_start, unread_numbers, edge_record, kind_wire, kind_wire_more, kind_edge}
use Rattle.rules.specs.Wires.{is_line_row, meets, join_none, join_tested, join_untested, join_of, joined}
use Rattle.tables.specs.Tables.{table_of}
use Rattle.entries.specs.Acts.{put_line}
use Rattle.account.specs.declared.Now.{Now}
use Rattle.account.specs.declared.Where.{Where}
use Rattle.account.specs.Placing.{fills}
use Rattle.account.specs.Records.{part_at, with_part}
use Rattle.account.specs.Account.{head_at}
use Rattle.account.specs.WireLines.{front_read, join_holds, join_number, former_kept, element_put, marked_unread}
use Rattle.standing.specs.SoFar.{volume_of, former_numbers, wire_so_far, writing_record, empty_record}
use Rattle.rules.specs.RangeClass.{digits, digits_of}
use Rattle.rules.proofs.RecordLengths.{length-slots}
use Rattle.standing.specs.Kept.{Scratch}
use Rattle.standing.proofs.WireCells.{spelt}

-- ── as a whole ──
-- a front record, and the wire's two behind it: o is the last element
abbrev pub wire_scratch : List ℤ → Option Edge → List ℤ → List ℤ
wire_scratch front o x = front ++ former_numbers o x

-- two records behind one
whole : (t front x : List ℤ) → part_at 0 t ≡ front → part_at 32 t ≡ take 32 x → drop 64 t ≡ drop 32 x → t ≡ front ++ x
whole t front x own figure rest =
    sym (take-append-drop 32 t) ∙ ap (λ (u : List ℤ). u ++ drop 32 t) own
    ∙ ap (λ (u : List ℤ). front ++ u)
    (sym (take-append-drop 32 (drop 32 t)) ∙ ap (λ (u : List ℤ). u ++ drop 32 (drop 32 t)) figure ∙ ap (λ (u : List ℤ). take 32 x ++ u) (drop-drop 32 32 t ∙ rest)
    ∙ take-append-drop 32 x)

pub wire-scratch : (t : List ℤ) (s : Set) (k : ℕ) (fs : List Figure) (n : ℕ) (w : Wire) (p : ℕ) → Scratch t (placing s k fs n (wire_block w) p) → t ≡ writing_record w ++ wire_so_far s k n w p
wire-scratch t s k fs n w p x = whole t (writing_record w) (wire_so_far s k n w p) x.own x.figure x.rest

pub unread-scratch : (t : List ℤ) (s : Set) (k : ℕ) (fs : List Figure) (n d : ℕ) → Scratch t (skipping s k fs n wire_unread d) → t ≡ empty_record ++ wire_start k (volume_of s) n
unread-scratch t s k fs n d x = whole t empty_record (wire_start k (volume_of s) n) x.own x.figure x.rest

-- .. and back
back : (front x : List ℤ) → length front ≡ 32 → (part_at 0 (front ++ x) ≡ front) × (part_at 32 (front ++ x) ≡ take 32 x) × (drop 64 (front ++ x) ≡ drop 32 x)
back front x long = (
  take_at front x 32 long,
  ap (take 32) (drop_at front x 32 long),
  sym (drop-drop 32 32 (front ++ x)) ∙ ap (drop 32) (drop_at front x 32 long),
)

pub writing-long : (w : Wire) → length (writing_record w) ≡ 32
writing-long w = length-slots wire_text_table w.writing empty_record

pub scratch-wire : (s : Set) (k : ℕ) (fs : List Figure) (n : ℕ) (w : Wire) (p : ℕ) (t : List ℤ) → t ≡ writing_record w ++ wire_so_far s k n w p → Scratch t (placing s k fs n (wire_block w) p)
scratch-wire s k fs n w p t e =
    let (a, b, c) = back (writing_record w) (wire_so_far s k n w p) (writing-long w) in
    subst (λ (u : List ℤ). Scratch u (placing s k fs n (wire_block w) p)) (sym e) (record { own = a; figure = b; rest = c })

pub scratch-unread : (s : Set) (k : ℕ) (fs : List Figure) (n d : ℕ) → Scratch (empty_record ++ wire_start k (volume_of s) n) (skipping s k fs n wire_unread d)
scratch-unread s k fs n d = record { own = refl; figure = refl; rest = refl }

-- ── as it begins ──
-- rec: the first record, which has its head; the second's is put behind it
pub wire-begun : (s : Set) (m : ℕ) (fs : List Figure) (line : ℕ) (t rec : List ℤ) → Scratch t (figures s (in_layer m) fs) → (owner : ℕ) (w : Where) → rec ≡ start kind_wire m (volume_of s) line → owner ≡ m
    → w.volume ≡ volume_of s → w.line ≡ line → head_at 64 kind_wire_more owner w (with_part 32 rec t) ≡ empty_record ++ wire_start m (volume_of s) line
wire-begun s m fs line t rec x owner w q o v l =
    let put : with_part 32 rec t ≡ empty_record ++ (start kind_wire m (volume_of s) line ++ empty_record) =
    ap (λ (u : List ℤ). u ++ (rec ++ drop 64 t)) x.own ∙ ap (λ (u : List ℤ). empty_record ++ (u ++ drop 64 t)) q
    ∙ ap (λ (u : List ℤ). empty_record ++ (start kind_wire m (volume_of s) line ++ u)) x.rest in
    let head : ℕ → ℕ → ℕ → List ℤ = λ a b c. sets (empty_record ++ (start kind_wire m (volume_of s) line ++ empty_record)) 64 (pos kind_wire_more ∷ pos a ∷ pos b ∷ pos c ∷ []) in
    ap (head_at 64 kind_wire_more owner w) put ∙ ap (λ (i : ℕ). head i w.volume w.line) o ∙ ap (λ (i : ℕ). head m i w.line) v ∙ ap (head m (volume_of s)) l

pub none-scratch : (s : Set) (m n : ℕ) → empty_record ++ wire_start m (volume_of s) n ≡ writing_record no_wire ++ wire_so_far s m n no_wire 0
unfolding wire_table text_table
none-scratch s m n = refl

-- ── an element ──
-- the values of a line and of an arc
pub data Filled : ℕ → List Num → Type 0 where
  no_line : Filled 0 []
  no_arc : Filled 1 []
  a-line : (a b c d e : Num) → Filled 0 (a ∷ b ∷ c ∷ d ∷ e ∷ [])
  an_arc : (a b c d e f g : Num) → Filled 1 (a ∷ b ∷ c ∷ d ∷ e ∷ f ∷ g ∷ [])

-- a row's numbers are all there, or none is
five : (v : List Num) → fills (rule_at wire_table 0).holds (numbers (nums v)) ≡ true → Filled 0 v
unfolding wire_table
five [] q = no_line
five (a ∷ []) q = absurd (omega (arith, eqb-true 1 5 q))
five (a ∷ b ∷ []) q = absurd (omega (arith, eqb-true 2 5 q))
five (a ∷ b ∷ c ∷ []) q = absurd (omega (arith, eqb-true 3 5 q))
five (a ∷ b ∷ c ∷ d ∷ []) q = absurd (omega (arith, eqb-true 4 5 q))
five (a ∷ b ∷ c ∷ d ∷ e ∷ []) q = a-line a b c d e
five (a ∷ b ∷ c ∷ d ∷ e ∷ f ∷ v) q = absurd (omega (arith, eqb-true (length (numbers (nums (a ∷ b ∷ c ∷ d ∷ e ∷ f ∷ v)))) 5 q))

seven : (v : List Num) → fills (rule_at wire_table 1).holds (numbers (nums v)) ≡ true → Filled 1 v
unfolding wire_table
seven [] q = no_arc
seven (a ∷ []) q = absurd (omega (arith, eqb-true 1 7 q))
seven (a ∷ b ∷ []) q = absurd (omega (arith, eqb-true 2 7 q))
seven (a ∷ b ∷ c ∷ []) q = absurd (omega (arith, eqb-true 3 7 q))
seven (a ∷ b ∷ c ∷ d ∷ []) q = absurd (omega (arith, eqb-true 4 7 q))
seven (a ∷ b ∷ c ∷ d ∷ e ∷ []) q = absurd (omega (arith, eqb-true 5 7 q))
seven (a ∷ b ∷ c ∷ d ∷ e ∷ f ∷ []) q = absurd (omega (arith, eqb-true 6 7 q))
seven (a ∷ b ∷ c ∷ d ∷ e ∷ f ∷ g ∷ []) q = an_arc a b c d e f g
seven (a ∷ b ∷ c ∷ d ∷ e ∷ f ∷ g ∷ h ∷ v) q = absurd (omega (arith, eqb-true (length (numbers (nums (a ∷ b ∷ c ∷ d ∷ e ∷ f ∷ g ∷ h ∷ v)))) 7 q))

pub filled : (j : ℕ) (v : List Num) → j < 2 → fills (rule_at wire_table j).holds (numbers (nums v)) ≡ true → Filled j v
filled zero v h q = five v q
filled (suc zero) v h q = seven v q
filled (suc (suc j)) v h q = absurd (omega (arith, h))

-- its values read, by the table of its rows
abbrev read_row : List Rule → ℕ → List Num → List ℤ → List ℤ
read_row rows j v t = with_part 0 (put_line (rule_at rows j) 0 (nums v) (part_at 0 t)) t

pub wire-rows : table_of 20 ≡ wire_table
unfolding table_of
wire-rows = refl

-- its head, how it is joined, and what the next one must know
abbrev put_edge : ℕ → ℕ → ℕ → ℕ → ℕ → List ℤ → List ℤ
put_edge owner volume line join j t = former_kept j (set (sets t 0 (pos (kind_edge + j) ∷ pos owner ∷ pos volume ∷ pos line ∷ [])) 11 (pos join))

abbrev pub edge_of : ℕ → ℕ → List Num → ℕ → Edge
edge_of line j v join = record { line = line; row = j; values = v; join = join }

abbrev pub edge_scratch : ℕ → ℕ → Edge → List ℤ → List ℤ
edge_scratch k volume e x = edge_record k volume e ++ former_numbers (Some e) x

-- ── what is known of the element before it: 1 for a line, 2 for an arc ──
known-row : (r : ℕ) → equal_z (pos (suc r)) (pos 0) ≡ false
known-row r = ap (λ (b : Bool). b && leb 0 (suc r)) (lt-leb (suc r) 0 (omega arith))

line_row : (r : ℕ) → equal_z (pos (suc r)) (pos 1) ≡ is_line_row r
line_row zero = refl
line_row (suc r) = ap (λ (b : Bool). b && leb 1 (suc (suc r))) (lt-leb (suc (suc r)) 1 (omega arith)) ∙ sym (ne_eqb (suc r) 0 (λ q. absurd (omega (arith, q))))

join_by : (r : ℕ) (this : Bool) → ◌≡◌ {A = ℕ} (cond (equal_z (pos (suc r)) (pos 0)) join_none (cond (equal_z (pos (suc r)) (pos 1) && this) join_tested join_untested)) (cond (is_line_row r && this) join_tested join_untested)
join_by r this =
    ap (λ (b : Bool). cond b join_none (cond (equal_z (pos (suc r)) (pos 1) && this) join_tested join_untested)) (known-row r) ∙ ap (λ (b : Bool). cond (b && this) join_tested join_untested) (line_row r)

lines_meet : (r : ℕ) (meet : Bool) → cond (equal_z (pos (suc r)) (pos 1) && true) meet true ≡ (not (is_line_row r && true) || meet)
lines_meet r meet = ap (λ (b : Bool). cond (b && true) meet true) (line_row r) ∙ by (is_line_row r)
  where
    by : (b : Bool) → cond (b && true) meet true ≡ (not (b && true) || meet)
    by true = refl
    by false = refl

arc-meets : (r : ℕ) (this meet : Bool) → cond (equal_z (pos (suc r)) (pos 1) && false) this true ≡ (not (is_line_row r && false) || meet)
arc-meets r this meet = ap (λ (b : Bool). cond (b && false) this true) (line_row r) ∙ by (is_line_row r)
  where
    by : (b : Bool) → cond (b && false) this true ≡ (not (b && false) || meet)
    by true = refl
    by false = refl

-- none before it
unjoined : {z : ℤ} → z ≡ pos 0 → (m : ℕ) → ◌≡◌ {A = ℕ} (cond (equal_z z (pos 0)) join_none m) join_none
unjoined e m = rw e

unmet : {z : ℤ} → z ≡ pos 0 → (this meet : Bool) → cond (equal_z z (pos 1) && this) meet true ≡ true
unmet e this meet = rw e

-- y: the wire's two numbers, spelt out
module _ (k volume : ℕ) (y : List ℤ) where
  abbrev spelt₂ : List ℤ
  spelt₂ = padded 64 y

  abbrev before : Option Edge → List ℤ
  before o = wire_scratch empty_record o spelt₂

  -- its record, and behind it the wire's two
  put-edge : (line join : ℕ) (j : ℕ) (v : List Num) (o : Option Edge) → Filled j v → put_edge k volume line join j (read_row wire_table j v (before o)) ≡ edge_scratch k volume (edge_of line j v join) spelt₂
  unfolding wire_table
  put-edge line join _ _ None no_line = refl
  put-edge line join _ _ None no_arc = refl
  put-edge line join _ _ None (a-line a b c d e) = refl
  put-edge line join _ _ None (an_arc a b c d e f g) = refl
  put-edge line join _ _ (Some u) no_line = refl
  put-edge line join _ _ (Some u) no_arc = refl
  put-edge line join _ _ (Some u) (a-line a b c d e) = refl
  put-edge line join _ _ (Some u) (an_arc a b c d e f g) = refl

  -- how it is joined: by what is known of the one before it
  abbrev Unjoined : Type 0
  Unjoined = get_or spelt₂ 62 (pos 0) ≡ pos 0

  read_join : Unjoined → (ends : Bool) (j : ℕ) (v : List Num) (o : Option Edge) → Filled j v → join_number ends j (read_row wire_table j v (before o)) ≡ join_of ends o j
  unfolding wire_table
  read_join z false _ _ o no_line = refl
  read_join z false _ _ o no_arc = refl
  read_join z false _ _ o (a-line a b c d e) = refl
  read_join z false _ _ o (an_arc a b c d e f g) = refl
  read_join z true _ _ None no_line = unjoined z _
  read_join z true _ _ None no_arc = unjoined z _
  read_join z true _ _ None (a-line a b c d e) = unjoined z _
  read_join z true _ _ None (an_arc a b c d e f g) = unjoined z _
  read_join z true _ _ (Some u) no_line = join_by u.row true
  read_join z true _ _ (Some u) no_arc = join_by u.row false
  read_join z true _ _ (Some u) (a-line a b c d e) = join_by u.row true
  read_join z true _ _ (Some u) (an_arc a b c d e f g) = join_by u.row false

  -- .. and whether they meet
  read-holds : Unjoined → (ends : Bool) (j : ℕ) (v : List Num) (o : Option Edge) → Filled j v → join_holds ends j (read_row wire_table j v (before o)) ≡ joined ends o j v
  unfolding wire_table
  read-holds z false _ _ o no_line = refl
  read-holds z false _ _ o no_arc = refl
  read-holds z false _ _ o (a-line a b c d e) = refl
  read-holds z false _ _ o (an_arc a b c d e f g) = refl
  read-holds z true _ _ None no_line = unmet z _ _
  read-holds z true _ _ None no_arc = unmet z _ _
  read-holds z true _ _ None (a-line a b c d e) = unmet z _ _
  read-holds z true _ _ None (an_arc a b c d e f g) = unmet z _ _
  read-holds z true _ _ (Some u) no_line = lines_meet u.row (meets u.values [])
  read-holds z true _ _ (Some u) no_arc = arc-meets u.row _ _
  read-holds z true _ _ (Some u) (a-line a b c d e) = lines_meet u.row (meets u.values (a ∷ b ∷ c ∷ d ∷ e ∷ []))
  read-holds z true _ _ (Some u) (an_arc a b c d e f g) = arc-meets u.row _ _

-- ── as the code says it ──
-- x: the wire's two numbers, of which that of the last element's row is 0
module _ (k volume : ℕ) (x : List ℤ) (long : length x ≡ 64) (free : get_or x 62 (pos 0) ≡ pos 0) where
  spelt_x : padded 64 x ≡ x
  spelt_x = spelt 64 x long

  abbrev read : ℕ → List Num → Option Edge → List ℤ
  read j v o = front_read j (nums v) (wire_scratch empty_record o x)

  read_is : (j : ℕ) (v : List Num) (o : Option Edge) → read j v o ≡ read_row wire_table j v (wire_scratch empty_record o (padded 64 x))
  read_is j v o =
      ap (λ (rows : List Rule). read_row rows j v (wire_scratch empty_record o x)) wire-rows ∙ ap (λ (u : List ℤ). read_row wire_table j v (wire_scratch empty_record o u)) (sym spelt_x)

  no_row : get_or (padded 64 x) 62 (pos 0) ≡ pos 0
  no_row = ap (λ (u : List ℤ). get_or u 62 (pos 0)) spelt_x ∙ free

  pub element-holds : (ends : Bool) (j : ℕ) (v : List Num) (o : Option Edge) → Filled j v → join_holds ends j (read j v o) ≡ joined ends o j v
  element-holds ends j v o f = ap (join_holds ends j) (read_is j v o) ∙ read-holds k volume x no_row ends j v o f

  pub element-put : (ends : Bool) (now : Now) (w : Where) (line j : ℕ) (v : List Num) (o : Option Edge) → Filled j v → now.owner ≡ k → w.volume ≡ volume → w.line ≡ line
      → element_put ends now w j (read j v o) ≡ edge_scratch k volume (edge_of line j v (join_of ends o j)) x
  element-put ends now w line j v o f ow vo li =
      let t : List ℤ = read j v o in
      ap (λ (i : ℕ). put_edge i w.volume w.line (join_number ends j t) j t) ow ∙ ap (λ (i : ℕ). put_edge k i w.line (join_number ends j t) j t) vo
      ∙ ap (λ (i : ℕ). put_edge k volume i (join_number ends j t) j t) li
      ∙ ap (λ (i : ℕ). put_edge k volume line i j t) (ap (join_number ends j) (read_is j v o) ∙ read_join k volume x no_row ends j v o f)
      ∙ ap (put_edge k volume line (join_of ends o j) j) (read_is j v o)
      ∙ put-edge k volume x line (join_of ends o j) j v o f
      ∙ ap (edge_scratch k volume (edge_of line j v (join_of ends o j))) spelt_x

-- ── a wire that is skipped whole ──
pub unread-closed : (k volume n range : ℕ) → marked_unread range (empty_record ++ wire_start k volume n) ≡ empty_record ++ unread_numbers (mark_unread (digits 0 0) (digits_of range) wire_table (wire_start k volume n))
unfolding wire_table
unread-closed k volume n range = refl

-- they are in the table, and the scratch is zeros again
pub cleared-two : (x : List ℤ) → length x ≡ 64 → with_part 64 empty_record (with_part 32 empty_record (empty_record ++ x)) ≡ replicate 96 (pos 0)
cleared-two x long =
    let one : with_part 32 empty_record (empty_record ++ x) ≡ empty_record ++ (empty_record ++ drop 32 x) =
    ap (λ (u : List ℤ). u ++ (empty_record ++ drop 64 (empty_record ++ x))) (take_at empty_record x 32 refl)
    ∙ ap (λ (u : List ℤ). empty_record ++ (empty_record ++ u)) (sym (drop-drop 32 32 (empty_record ++ x)) ∙ ap (drop 32) (drop_at empty_record x 32 refl)) in
    let none_left : drop 96 (empty_record ++ (empty_record ++ drop 32 x)) ≡ [] = drop_of_length-le (empty_record ++ (empty_record ++ drop 32 x)) {i = 96}
    (omega (arith, length-append empty_record (empty_record ++ drop 32 x), length-append empty_record (drop 32 x), length-drop 32 x, long)) in
    ap (with_part 64 empty_record) one
    ∙ ap (λ (u : List ℤ). u ++ (empty_record ++ drop 96 (empty_record ++ (empty_record ++ drop 32 x))))
    (ap (take 64) (sym (append_assoc empty_record empty_record (drop 32 x))) ∙ take_at (empty_record ++ empty_record) (drop 32 x) 64 refl)
    ∙ ap (λ (u : List ℤ). (empty_record ++ empty_record) ++ (empty_record ++ u)) none_left
