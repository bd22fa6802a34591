-- A line in a wire keeps the invariant: each of its lines and arcs is good, and joined to the one before it where E_wire says so; each of its
-- attributes and texts is good, and what it has is all that stood there.
use Rattle.std.specs.Prelude.{Some, None}
use Prim.Native.Nat.{ℕ, zero, suc, ◌≤◌, ◌-◌}
use mathlib.Core.Bool.{Bool, true, false, cond, ◌&&◌, ◌||◌, not}
use mathlib.Core.List.{List, [], ◌∷◌, ◌++◌, append-nil, append_assoc}
use mathlib.Core.Path.{◌≡◌, refl, sym, subst}
use native.Mathlib.Omega.{arith}
use lib.Dec.{eqb, ltb}
use lib.ListN.{length, get_or, set}
use lib.Seq.{get_or-set_other}
use borrow.Author.Tests.{eqb-true, eqb-false}
use Rattle.rules.specs.declared.Digits.{Digits}
use Rattle.rules.specs.Base.{is_none, is_nil}
use Rattle.rules.specs.RangeClass.{reaches, both}
use Rattle.rules.specs.Lines.{Rest, Form, ignored, wrong, close, eof, keyed, shape_of, has_form}
use Rattle.rules.specs.RefusalNumbers.{bad, unless}
use Rattle.rules.specs.Values.{Num, Value, Known, nums_of}
use Rattle.rules.specs.Rows.{Rule, Slots, blank, Found, absent, found, find, rows_there, Act, stay, entry, begin, shut, refuse, or_refuse, act_row, act_unknown, complete}
use Rattle.rules.specs.Figures.{wire_table, wire_text_table, wire_text_row, wire_serial_row, first_group_row, num_row}
use Rattle.rules.specs.Sets.{Edge, Wire, Figure, wired, Set, join_digit, wire_range, wires_of, known_of, serials_in, own_number, first_contents}
use Rattle.rules.specs.Machine.{Line, in_layer, State, placing, wire_block}
use Rattle.rules.specs.PlacedSymbol.{none_of}
use Rattle.rules.specs.Wires.{joins_ends, last_edge, join_of, joined, like_first, group_at, wire_full, is_element_row, nums_alike, new_number, with_attribute, with_groups, with_once, with_texts, on_element, on_wire_act, on_wire_unknown, on_wire_key, on_wire_own, on_wire}
use Rattle.rules.specs.RecordTable.{rule_at}
use Rattle.rules.specs.Answers.{full_class}
use Rattle.rules.proofs.Chains.{On, on-unless, on-cond, clash, and_left, and_right, and_true, or_true, nil-snoc}
use Rattle.rules.proofs.Rows.{Row, here, there, row-all, found-row}
use Rattle.promises.proofs.Forms.{table-keys, Tells}
use Rattle.promises.proofs.Good.{Always, none0, GoodSlots, GoodText, GoodLine, GoodEdge, GoodNext, group_full, GoodGroup, GoodTexts, none_below, once_rows, any_line, any_slot, GoodWire, good-blank}
use Rattle.promises.proofs.InvRows.{Took, ActTold, is_shut, row-shuts, row_told, on-act, entry-numbers, numbers-row, open_at, opened-at, level_by, good-set, slot-set}
use Rattle.promises.proofs.InvParts.{all_nameless, took-set}
use Rattle.promises.proofs.InvState.{Inv, WireInv, figure_serials}
use Rattle.promises.proofs.InvHead.{full_env}
use Rattle.promises.proofs.InvBody.{add-figure, texts-nameless}
use Rattle.promises.proofs.Nameless.{nameless}
use Rattle.promises.proofs.Edges.{behind_more, once-alone, element-first}
use Rattle.promises.proofs.ServedWires.{wires-known}

-- ── the line of an element, or of a row that repeats: numbers alone ──
wire-nameless : all_nameless wire_table ≡ true
unfolding wire_table
wire-nameless = refl

numbers-line : (s : Set) (w : Wire) (j : ℕ) (v : Value) → Took (known_of s) (wires_of s) wire_table (wire_full w) j v false (entry j v) → ltb j wire_text_row ≡ true
    → GoodLine (Always (wires_of s)) wire_table j (nums_of v)
numbers-line s w j v t low =
    let e = entry-numbers (known_of s) (wires_of s) (get_or (wire_full w) j false) j t.rule t.rest j v (numbers-row t.row low) t.from in
    record { rule = t.rule; row = t.row; good = rw e (t.always (row-all (λ r. nameless r.holds) t.row wire-nameless)); alone = rw e t.opened-is }

-- ── one more of what a wire has ──
group-more : (d : Digits) (j : ℕ) (before vs : List (List Num)) (v : List Num) → GoodGroup d j before vs → GoodNext d j (before ++ vs) v
    → GoodGroup d j before (vs ++ v ∷ [])
group-more d j before [] v g x = (rw (append-nil before) at x, tt)
group-more d j before (u ∷ vs) v g x = (g.0, group-more d j (before ++ u ∷ []) vs v g.1 (rw (← (append_assoc before (u ∷ []) vs)) at x))

texts-more : (d : Digits) (ss : List Slots) (s : Slots) → GoodTexts d ss → reaches d (rule_at wire_table wire_text_row).least ≡ true → GoodText true s
    → GoodTexts d (ss ++ s ∷ [])
texts-more d [] s g l x = (l, x, tt)
texts-more d (u ∷ ss) s g l x = (g.0, g.1, texts-more d ss s g.2 l x)

none-set : (n j : ℕ) (s : Slots) (v : Value) → n ≤ j → none_below n s ≡ true → none_below n (set s j (Some v)) ≡ true
none-set zero j s v l e = refl
none-set (suc n) j [] v l e = refl
none-set (suc n) zero (o ∷ s) v l e = absurd (omega arith)
none-set (suc n) (suc j) (o ∷ s) v l e = and_true _ _ (and_left (is_none o) _ e) (none-set n j s v (omega arith) (and_right (is_none o) _ e))

any-set : (P : Rule → Value → Type 0) {t : List Rule} {j : ℕ} {r : Rule} → Row t j r → (s : Slots) (v : Value) → GoodSlots P t s → any_slot (set s j (Some v)) ≡ true
any-set P here [] v g = absurd g
any-set P here (o ∷ s) v g = refl
any-set P (there w) [] v g = absurd g
any-set P (there w) (None ∷ s) v g = any-set P w s v g
any-set P (there w) (Some u ∷ s) v g = refl

some_first : (a x y : Bool) → a ≡ true → ((a || x) || y) ≡ true
some_first a x y e = rw e

or_third : (a b : Bool) → (a || (b || true)) ≡ true
or_third a b = rw (or_true b) (or_true a)

-- a line with a key closes nothing
row_open : (k : Known) (d : Digits) (full : Bool) (j : ℕ) (r : Rule) (c : Rest) → is_shut (act_row k d full j r c) ≡ false
row_open k d full j r c = go (act_row k d full j r c) refl
  where
    go : (a : Act) → act_row k d full j r c ≡ a → is_shut a ≡ false
    go stay e = refl
    go (entry i v) e = refl
    go (begin i i' v) e = refl
    go shut e = row-shuts k d full j r c e
    go (refuse m) e = refl

-- ── the attributes ──
module _ (s : Set) (fs : List Figure) (w : Wire) (i : WireInv (wire_range s) (serials_in s ++ figure_serials fs) 0 w) where
  abbrev d : Digits
  d = wires_of s

  abbrev used : List ℕ
  used = serials_in s ++ figure_serials fs

  abbrev Took' : ℕ → Value → Bool → Act → Type 0
  Took' j v b a = Took (known_of s) d wire_table (wire_full w) j v b a

  abbrev After : ℕ → Value → Type 0
  After j v = WireInv (wire_range s) used 0 (with_attribute w j v)

  -- a line of the row that repeats: its group is longer by it
  in_group : (j : ℕ) (v : Value) (before : List (List Num)) → Took' j v false (entry j v) → ltb j wire_text_row ≡ true
      → (not (eqb j num_row) || like_first before (nums_of v)) ≡ true → group_full j (length before) ≡ false → GoodNext d j ([] ++ before) (nums_of v)
  in_group j v before t low like room = record { line = numbers-line s w j v t low; alike = like; room = room }

  -- the wire with other groups, of which one has a line
  with-groups : (a b c : List (List Num)) → GoodGroup d 2 [] a → GoodGroup d 3 [] b → GoodGroup d 4 [] c → any_line (a ∷ b ∷ c ∷ []) ≡ true
      → WireInv (wire_range s) used 0 (with_groups (a ∷ b ∷ c ∷ []) w)
  with-groups a b c x y z e =
      record {
        holds =
            record {
              elements = i.holds.elements;
              groups = record { direcs = a; piends = b; counts = c; are = refl; direcs-good = x; piends-good = y; counts-good = z };
              texts = i.holds.texts;
              own = i.holds.own;
              once = i.holds.once;
            };
        writing = (i.writing.0, sym (some_first (any_line (a ∷ b ∷ c ∷ [])) (not (is_nil w.texts)) (any_slot w.own) e));
        serial = i.serial;
      }

  serial-set : (j : ℕ) (v : Value) → Took' j v false (entry j v) → new_number s fs j v ≡ true → none_of (own_number (get_or (set w.own j (Some v)) wire_serial_row None)) used ≡ true
  serial-set j v t new = go (eqb j wire_serial_row) refl new
    where
      go : (b : Bool) → eqb j wire_serial_row ≡ b → (not b || none_of (own_number (Some v)) used) ≡ true → none_of (own_number (get_or (set w.own j (Some v)) wire_serial_row None)) used ≡ true
      go true q e = rw (← (eqb-true j wire_serial_row q), slot-set (Always d) t.row w.own (Some v) i.holds.own) e
      go false q e = rw (get_or-set_other w.own j wire_serial_row (Some v) None (λ x. eqb-false j wire_serial_row q (sym x))) i.serial

  -- a row that stands once
  with-once : (j : ℕ) (v : Value) → once_rows ≤ j → Took' j v false (entry j v) → new_number s fs j v ≡ true → WireInv (wire_range s) used 0 (with_once (set w.own j (Some v)) w)
  with-once j v l t new =
      record {
        holds =
            record {
              elements = i.holds.elements;
              groups = i.holds.groups;
              texts = i.holds.texts;
              own = good-set (Always d) t.row w.own v i.holds.own (t.always (row-all (λ r. nameless r.holds) t.row wire-nameless));
              once = none-set once_rows j w.own v l i.holds.once;
            };
        writing = (i.writing.0, sym (rw (any-set (Always d) t.row w.own v i.holds.own) (or_true (any_line w.groups || not (is_nil w.texts)))));
        serial = serial-set j v t new;
      }

  grown-direcs : (v : Value) → Took' 2 v false (entry 2 v) → After 2 v
  grown-direcs v t =
      let h = i.holds.groups in
      rw h.are
      (with-groups (h.direcs ++ nums_of v ∷ []) h.piends h.counts
      (group-more d 2 [] h.direcs (nums_of v) h.direcs-good (in_group 2 v h.direcs t refl refl (rw h.are at t.new)))
      h.piends-good h.counts-good (rw (nil-snoc h.direcs (nums_of v))))

  grown-piends : (v : Value) → Took' 3 v false (entry 3 v) → After 3 v
  grown-piends v t =
      let h = i.holds.groups in
      rw h.are
      (with-groups h.direcs (h.piends ++ nums_of v ∷ []) h.counts h.direcs-good
      (group-more d 3 [] h.piends (nums_of v) h.piends-good (in_group 3 v h.piends t refl refl refl))
      h.counts-good (rw (nil-snoc h.piends (nums_of v)) (or_true (not (is_nil h.direcs)))))

  grown-counts : (v : Value) → Took' 4 v false (entry 4 v) → nums_alike w 4 (nums_of v) ≡ true → After 4 v
  grown-counts v t like =
      let h = i.holds.groups in
      rw h.are
      (with-groups h.direcs h.piends (h.counts ++ nums_of v ∷ []) h.direcs-good h.piends-good
      (group-more d 4 [] h.counts (nums_of v) h.counts-good (in_group 4 v h.counts t refl (rw h.are at like) refl))
      (rw (nil-snoc h.counts (nums_of v)) (or_third (not (is_nil h.direcs)) (not (is_nil h.piends)))))

  attribute-after : (j : ℕ) (v : Value) → Took' j v false (entry j v) → is_element_row j ≡ false → nums_alike w j (nums_of v) ≡ true → new_number s fs j v ≡ true → After j v
  unfolding wire_table
  attribute-after zero v t e like new = clash refl e
  attribute-after (suc zero) v t e like new = clash refl e
  attribute-after (suc (suc zero)) v t e like new = grown-direcs v t
  attribute-after (suc (suc (suc zero))) v t e like new = grown-piends v t
  attribute-after (suc (suc (suc (suc zero)))) v t e like new = grown-counts v t like
  attribute-after (suc (suc (suc (suc (suc zero))))) v t e like new = clash refl (opened-at t)
  attribute-after (suc (suc (suc (suc (suc (suc m)))))) v t e like new =
      let j = suc (suc (suc (suc (suc (suc m))))) in
      subst (λ b. WireInv (wire_range s) used 0 (cond b (with_groups (set w.groups (j - first_group_row) (group_at w j ++ nums_of v ∷ [])) w) (with_once (set w.own j (Some v)) w))) (sym (once-alone j (omega arith)))
      (with-once j v (omega arith) t new)

  text-begins : {i' j : ℕ} {v : Value} → Took' j v true (begin i' j v) → WireInv (wire_range s) used 1 (with_texts w.texts (blank wire_text_table) w)
  unfolding wire_table
  text-begins t =
      record {
        holds = i.holds;
        writing = (good-blank (Always none0) wire_text_table, level_by t wire_text_row (eqb-true _ wire_text_row (open_at (λ j. eqb j wire_text_row) t refl)));
        serial = i.serial;
      }

  -- closed: it is good, and its number is new
  wire-good : complete (both full_class.wires d) wire_table (rows_there w.own) ≡ true → GoodWire (wire_range s) w
  wire-good e = record { holds = i.holds; all = e; shut = i.writing.0; past = i.writing.1 }

-- ── one line ──
module _ (done fin : List (List ℕ)) (l : Line) (n : ℕ) (fit : n ≤ 512) where
  abbrev J : State → Type 0
  J st = Inv done l.next fin st

  element-good : (s : Set) (k : ℕ) (fs : List Figure) (m : ℕ) (w : Wire) (j : ℕ) (v : Value) → J (placing s k fs m (wire_block w) 0)
      → Took (known_of s) (wires_of s) wire_table (wire_full w) j v false (entry j v) → is_element_row j ≡ true → On J (on_element full_env l s k fs m w j (nums_of v))
  element-good s k fs m w j v i t low =
      let former = last_edge w.elements in
      let ends = joins_ends (join_digit s) in
      let new : Edge = record { line = l.line; row = j; values = nums_of v; join = join_of ends former j } in
      let h = i.2.holds in
      let line = numbers-line s w j v t (element-first j low) in
      on-unless J (joined ends former j (nums_of v)) 11 _ λ e. (
        i.0,
        i.1,
        record {
          holds =
              record {
                elements = behind_more (GoodEdge (wire_range s)) w.elements new h.elements (record { line = line; row = low; joins = record { meets = e; join = refl } });
                groups = h.groups;
                texts = h.texts;
                own = h.own;
                once = h.once;
              };
          writing = i.2.writing;
          serial = i.2.serial;
        },
      )

  row-act : (s : Set) (k : ℕ) (fs : List Figure) (m : ℕ) (w : Wire) (a : Act) → ActTold (known_of s) (wires_of s) (wires_of s) wire_table (wire_full w) a
      → is_shut a ≡ false → J (placing s k fs m (wire_block w) 0) → On J (on_wire_act full_env l s k fs m w a)
  row-act s k fs m w stay told o i = i
  row-act s k fs m w (entry j v) told o i =
      on-cond J (is_element_row j) _ _ (λ e. element-good s k fs m w j v i told e)
      (λ e. on-unless J (nums_alike w j (nums_of v)) 11 _ λ like.
      on-unless J (new_number s fs j v) 15 _ λ new. (i.0, i.1, attribute-after s fs w i.2 j v told e like new))
  row-act s k fs m w (begin i' j v) told o i = (i.0, i.1, text-begins s fs w i.2 told)
  row-act s k fs m w shut told o i = clash refl o
  row-act s k fs m w (refuse p) told o i = tt

  refused-act : (s : Set) (k : ℕ) (fs : List Figure) (m : ℕ) (w : Wire) (c : Rest) → On J (on_wire_act full_env l s k fs m w (act_unknown c))
  refused-act s k fs m w c = go (has_form (shape_of c))
    where
      go : (b : Bool) → On J (on_wire_act full_env l s k fs m w (or_refuse (unless b 5 (bad 6))))
      go true = tt
      go false = tt

  -- at wire part 18 nothing in a wire is skipped
  on-unknown : (s : Set) (k : ℕ) (fs : List Figure) (m : ℕ) (w : Wire) (key : List ℕ) (c : Rest) → J (placing s k fs m (wire_block w) 0) → On J (on_wire_unknown full_env l s k fs m w key c)
  on-unknown s k fs m w key c i =
      rw (wires-known (first_contents s).file i.0.0.fixed.file) (refused-act s k fs m w c)

  wire-key : (s : Set) (k : ℕ) (fs : List Figure) (m : ℕ) (w : Wire) (key : List ℕ) (c : Rest) (f : Found) → find key wire_table ≡ f → Tells n (keyed key c) → J (placing s k fs m (wire_block w) 0)
      → On J (on_wire_key full_env l s k fs m w key c f)
  wire-key s k fs m w key c absent e t i = on-unknown s k fs m w key c i
  wire-key s k fs m w key c (found j r) e t i =
      let (at, q) = found-row key wire_table j r e in
      on-cond J (is_element_row j && w.past) _ _ (λ _. refused-act s k fs m w c)
      (λ _. on-cond J (reaches full_class.wires r.least) _ _
      (λ _. row-act s k fs m w (act_row (known_of s) (wires_of s) (get_or (wire_full w) j false) j r c)
      (row_told (known_of s) (wires_of s) (wires_of s) wire_table (wire_full w) n key c j r at q (table-keys true 0 0).11 t fit)
      (row_open (known_of s) (wires_of s) (get_or (wire_full w) j false) j r c) i)
      (λ _. on-unknown s k fs m w key c i))

  wire-close : (s : Set) (k : ℕ) (fs : List Figure) (m : ℕ) (w : Wire) → J (placing s k fs m (wire_block w) 0) → On J (on_wire_own full_env l s k fs m w close)
  wire-close s k fs m w i = go (complete (both full_class.wires (wires_of s)) wire_table (rows_there w.own)) refl
    where
      go : (b : Bool) → complete (both full_class.wires (wires_of s)) wire_table (rows_there w.own) ≡ b → On J (on_wire_act full_env l s k fs m w (cond b shut (refuse 8)))
      go true e = add-figure done l.next s (in_layer k) fs (wired m w) i.0 (i.1, wire-good s fs w i.2 e) i.2.serial
      go false e = tt

  wire-own : (s : Set) (k : ℕ) (fs : List Figure) (m : ℕ) (w : Wire) (f : Form) → Tells n f → J (placing s k fs m (wire_block w) 0) → On J (on_wire_own full_env l s k fs m w f)
  wire-own s k fs m w ignored t i = i
  wire-own s k fs m w (wrong p) t i = tt
  wire-own s k fs m w close t i = wire-close s k fs m w i
  wire-own s k fs m w eof t i = tt
  wire-own s k fs m w (keyed key c) t i = wire-key s k fs m w key c (find key wire_table) refl t i

  -- in its text
  text-set : (s : Set) (fs : List Figure) (w : Wire) (p j : ℕ) (v : Value) {a : Act} → WireInv (wire_range s) (serials_in s ++ figure_serials fs) (suc p) w
      → Took (known_of s) none0 wire_text_table (rows_there w.writing) j v false a
      → WireInv (wire_range s) (serials_in s ++ figure_serials fs) (suc p) (with_texts w.texts (set w.writing j (Some v)) w)
  text-set s fs w p j v i t =
      record { holds = i.holds; writing = (took-set w.writing none0 (texts-nameless true) t i.writing.0, i.writing.1); serial = i.serial }

  text-ends : (s : Set) (fs : List Figure) (w : Wire) (p : ℕ) → WireInv (wire_range s) (serials_in s ++ figure_serials fs) (suc p) w
      → complete none0 wire_text_table (rows_there w.writing) ≡ true
      → WireInv (wire_range s) (serials_in s ++ figure_serials fs) 0 (with_texts (w.texts ++ w.writing ∷ []) [] w)
  text-ends s fs w p i e =
      let h = i.holds in
      record {
        holds =
            record {
              elements = h.elements;
              groups = h.groups;
              texts = texts-more (wires_of s) w.texts w.writing h.texts i.writing.1 (record { good = i.writing.0; all = e });
              own = h.own;
              once = h.once;
            };
        writing = (refl, sym (rw (nil-snoc w.texts w.writing, or_true (any_line w.groups))));
        serial = i.serial;
      }

  pub on-wire : (s : Set) (k : ℕ) (fs : List Figure) (m : ℕ) (w : Wire) (p : ℕ) → Tells n l.form → J (placing s k fs m (wire_block w) p) → On J (on_wire full_env l s k fs m w p l.form)
  on-wire s k fs m w zero t i = wire-own s k fs m w l.form t i
  on-wire s k fs m w (suc p) t i =
      on-act J (known_of s) none0 wire_text_table (rows_there w.writing) n l.form (table-keys true 4 12).14 t fit _ _ _ _ i
      (λ j v u. (i.0, i.1, text-set s fs w p j v i.2 u))
      (λ i' j v u. tt)
      (λ e. (i.0, i.1, text-ends s fs w p i.2 e))
