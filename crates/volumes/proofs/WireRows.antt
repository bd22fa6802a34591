-- A wire's rows: what a line with a key does, by its row; the text of all rows, one behind the other.
use Rattle.std.specs.Prelude.{Some, None}
use Prim.Native.Nat.{ℕ, zero, suc, ◌/◌, ◌%◌, ◌≤◌, ◌<◌}
use mathlib.Core.Bool.{Bool, true, false, cond, ◌&&◌, ◌||◌}
use mathlib.Core.List.{List, [], ◌∷◌, ◌++◌, append_assoc}
use mathlib.Core.Path.{◌≡◌, refl, sym, ◌∙◌, ap, subst}
use native.Mathlib.Omega.{arith}
use borrow.Author.Tests.{leb-true, le-ltb, eqb-true, ltb-true, ltb-false}
use lib.Dec.{eqb, leb}
use lib.ListN.{length, get_or, set}
use Rattle.rules.specs.declared.Class.{Class}
use Rattle.rules.specs.Base.{all, within}
use Rattle.rules.specs.RefusalNumbers.{got}
use Rattle.rules.specs.Lines.{Rest, keyed, shape_of, has_form}
use Rattle.rules.specs.RangeClass.{digits, digits_of, reaches, exceeds}
use Rattle.rules.specs.Values.{Num, Value, Known, nums_of, served_wires}
use Rattle.rules.specs.Rows.{Rule, Slots, blank, Found, absent, found, find, rows_there, act_row, act_unknown}
use Rattle.rules.specs.Figures.{text_table, wire_table, wire_text_table}
use Rattle.rules.specs.RecordTable.{rule_at}
use Rattle.rules.specs.Sets.{Wire, Figure, Set, wire_range, wires_of, known_of}
use Rattle.rules.specs.Machine.{Line, Env, State, placing, wire_block}
use Rattle.rules.specs.Wires.{group_at, with_texts, wire_full, is_element_row, on_element, on_attribute, on_wire_act, on_wire_unknown, on_wire_key, on_wire_own, on_wire_text}
use Rattle.rules.specs.Answers.{full_class}
use Rattle.rules.specs.FixedForm.{Text, no_inner, opens_block, show_group, show_groups, show_slot, show_slots, show_wire_texts}
use Rattle.rules.proofs.Chains.{clash, same-eq, and_left, and_right, cond_true}
use Rattle.rules.proofs.Rows.{Row, found-row, row-all, row_at, row_below}
use Rattle.promises.proofs.Forms.{key_ok, table-keys}
use Rattle.promises.proofs.RowGood.{numbers_only}
use Rattle.prints.specs.Reading.{Reads}
use Rattle.pens.specs.Drawing.{FormFits}
use Rattle.pens.specs.Groups.{keys_text}
use Rattle.pens.proofs.ShownLaws.{Before, opens_nothing, opens_not, group-more, texts-more, slot-more, none_more}
use Rattle.volumes.proofs.Acted.{acted, row-acted}
use Rattle.volumes.proofs.PlacedLaws.{unknown}

-- ── wire part 18 knows every key, and no E_wire that is served exceeds it ──
pub wires-full : (n : ℕ) → served_wires n ≡ true → exceeds (digits_of n) full_class.wires ≡ false
wires-full n e = go (eqb n 0) refl e
  where
    few : n / 10 % 10 ≤ 1 → n % 10 ≤ 8 → exceeds (digits_of n) full_class.wires ≡ false
    few m l = rw (le-ltb 1 (n / 10 % 10) m, le-ltb 8 (n % 10) l)

    go : (b : Bool) → eqb n 0 ≡ b → (b || (leb (n / 100) 4 && (leb (n / 10 % 10) 1 && within 1 8 (n % 10)))) ≡ true → exceeds (digits_of n) full_class.wires ≡ false
    go true q e = let z = eqb-true n 0 q in few (omega (arith, z)) (omega (arith, z))
    go false q e =
        let rest = and_right (leb (n / 100) 4) _ e in
        few (leb-true (n / 10 % 10) 1 (and_left (leb (n / 10 % 10) 1) _ rest)) (leb-true (n % 10) 8 (and_right (leb 1 (n % 10)) _ (and_right (leb (n / 10 % 10) 1) _ rest)))

-- ── the rows by their numbers ──
pub row_is : {j : ℕ} {r : Rule} → Row wire_table j r → rule_at wire_table j ≡ r
row_is w = row_at w _

pub rows-ten : length wire_table ≡ 10
unfolding wire_table
rows-ten = refl

pub row-ten : {j : ℕ} {r : Rule} → Row wire_table j r → j < 10
row-ten w = omega (arith, row_below w, rows-ten)

known-rows : all (λ r. reaches full_class.wires r.least) wire_table ≡ true
unfolding wire_table
known-rows = refl

pub texts-flat : all opens_nothing wire_text_table ≡ true
unfolding text_table
texts-flat = refl

-- elements and groups hold numbers
pub number-row : (j : ℕ) → j ≤ 4 → numbers_only (rule_at wire_table j).holds ≡ true
unfolding wire_table
number-row zero h = refl
number-row (suc zero) h = refl
number-row (suc (suc zero)) h = refl
number-row (suc (suc (suc zero))) h = refl
number-row (suc (suc (suc (suc zero)))) h = refl
number-row (suc (suc (suc (suc (suc j))))) h = absurd (omega (arith, h))

-- `text` alone opens
pub opens-five : (j : ℕ) (v : Value) → j < 10 → opens_block (rule_at wire_table j).holds v ≡ true → j ≡ 5
unfolding wire_table
opens-five zero v h e = clash e refl
opens-five (suc zero) v h e = clash e refl
opens-five (suc (suc zero)) v h e = clash e refl
opens-five (suc (suc (suc zero))) v h e = clash e refl
opens-five (suc (suc (suc (suc zero)))) v h e = clash e refl
opens-five (suc (suc (suc (suc (suc zero))))) v h e = refl
opens-five (suc (suc (suc (suc (suc (suc zero)))))) v h e = clash e refl
opens-five (suc (suc (suc (suc (suc (suc (suc zero))))))) v h e = clash e refl
opens-five (suc (suc (suc (suc (suc (suc (suc (suc zero)))))))) v h e = clash e refl
opens-five (suc (suc (suc (suc (suc (suc (suc (suc (suc zero))))))))) v h e = clash e refl
opens-five (suc (suc (suc (suc (suc (suc (suc (suc (suc (suc j)))))))))) v h e = absurd (omega (arith, h))

pub five-opens : (v : Value) → opens_block (rule_at wire_table 5).holds v ≡ true
unfolding wire_table
five-opens v = refl

-- ── a line with a key ──
module _ {P : Type 0} (e : Env) (l : Line) (c : e.class ≡ full_class) (s : Set) (m : ℕ) (fs : List Figure) (n : ℕ) (w : Wire) (key : List ℕ) (x : Rest) (fits : FormFits (keyed key x)) (st' : State) where
  -- directly in the wire
  pub wire-acted : served_wires (wire_range s) ≡ true → on_wire_own e l s m fs n w (keyed key x) ≡ got st'
      → ((j : ℕ) (r : Rule) (v : Value) → find key wire_table ≡ found j r → Row wire_table j r → Reads (known_of s) r x v → j < 2 → on_element e l s m fs n w j (nums_of v) ≡ got st' → P)
      → ((j : ℕ) (r : Rule) (v : Value) → find key wire_table ≡ found j r → Row wire_table j r → Reads (known_of s) r x v → 2 ≤ j → (j ≡ 5 → ⊥) → opens_block r.holds v ≡ false
      → on_attribute s m fs n w j v ≡ got st' → P)
      → ((j : ℕ) (r : Rule) (v : Value) → find key wire_table ≡ found j r → Row wire_table j r → Reads (known_of s) r x v → j ≡ 5
      → got (placing s m fs n (wire_block (with_texts w.texts (blank wire_text_table) w)) 1) ≡ got st' → P)
      → P
  wire-acted served q element attribute text = by (find key wire_table) refl q
    where
      not_known : on_wire_act e l s m fs n w (act_unknown x) ≡ got st' → P
      not_known u = unknown (placing s m fs n (wire_block w) 0) _ _ _ (has_form (shape_of x)) st' u

      unread : on_wire_unknown e l s m fs n w key x ≡ got st' → P
      unread u = not_known (rw (c, wires-full (wire_range s) served) at u)

      entered : (j : ℕ) (r : Rule) (v : Value) → find key wire_table ≡ found j r → Row wire_table j r → Reads (known_of s) r x v → opens_block r.holds v ≡ false
          → (b : Bool) → is_element_row j ≡ b → cond b (on_element e l s m fs n w j (nums_of v)) (on_attribute s m fs n w j v) ≡ got st' → P
      entered j r v f z u o true b a = element j r v f z u (ltb-true j 2 b) a
      entered j r v f z u o false b a =
          attribute j r v f z u (ltb-false j 2 b)
          (λ i. clash (five-opens v) (five_false i z)) o a
        where
          five_false : j ≡ 5 → Row wire_table j r → opens_block (rule_at wire_table 5).holds v ≡ false
          five_false i z = ap (λ (q : Rule). opens_block q.holds v) (ap (rule_at wire_table) (sym i) ∙ row_is z) ∙ o

      rows : (j : ℕ) (r : Rule) → find key wire_table ≡ found j r → on_wire_act e l s m fs n w (act_row (known_of s) (wires_of s) (get_or (wire_full w) j false) j r x) ≡ got st' → P
      rows j r f u =
          let (z, same_key) = found-row key wire_table j r f in
          row-acted (placing s m fs n (wire_block w) 0) _ _ _ (known_of s) (wires_of s) st' (get_or (wire_full w) j false) j r x
          (row-all (λ r. key_ok r.key) z (table-keys true 0 0).11)
          (subst (λ (k : List ℕ). FormFits (keyed k x)) (same-eq key r.key same_key) fits) u
          (λ v y o full a. entered j r v f z y o (is_element_row j) refl a)
          (λ v y o full a. text j r v f z y (opens-five j v (row-ten z) (ap (λ (q : Rule). opens_block q.holds v) (row_is z) ∙ o)) a)

      by : (g : Found) → find key wire_table ≡ g → on_wire_key e l s m fs n w key x g ≡ got st' → P
      by absent f u = unread u
      by (found j r) f u = past (is_element_row j && w.past) u
        where
          knows : reaches e.class.wires r.least ≡ true
          knows = ap (λ (y : Class). reaches y.wires r.least) c ∙ row-all (λ r. reaches full_class.wires r.least) (found-row key wire_table j r f).0 known-rows

          past : (b : Bool) → cond b (on_wire_act e l s m fs n w (act_unknown x))
              (cond (reaches e.class.wires r.least) (on_wire_act e l s m fs n w (act_row (known_of s) (wires_of s) (get_or (wire_full w) j false) j r x)) (on_wire_unknown e l s m fs n w key x)) ≡ got st' → P
          past true u = not_known u
          past false u = rows j r f (cond_true (reaches e.class.wires r.least) _ _ (got st') knows u)

  -- in its text
  pub text-acted : (i : ℕ) → on_wire_text s m fs n w i (keyed key x) ≡ got st'
      → ((j : ℕ) (r : Rule) (v : Value) → find key wire_text_table ≡ found j r → Row wire_text_table j r → Reads (known_of s) r x v
      → got (placing s m fs n (wire_block (with_texts w.texts (set w.writing j (Some v)) w)) i) ≡ got st' → P)
      → P
  text-acted i q f =
      acted (placing s m fs n (wire_block w) i) _ _ _ (known_of s) (digits 0 0) st' wire_text_table (rows_there w.writing) key x (table-keys true 4 12).14 fits q
      (λ j r v g z u o full a. f j r v g z u a) (λ j r v g z u o full a. clash o (opens_not r v (row-all opens_nothing z texts-flat)))

-- ── the text of its rows ──
-- two lists that have the same at each place
same_lists : {A : Type 0} (d : A) (a b : List A) → length a ≡ length b → ((j : ℕ) → j < length a → get_or a j d ≡ get_or b j d) → a ≡ b
same_lists d [] [] e f = refl
same_lists d [] (y ∷ b) e f = absurd (omega (arith, e))
same_lists d (x ∷ a) [] e f = absurd (omega (arith, e))
same_lists d (x ∷ a) (y ∷ b) e f = let head : x ≡ y = f 0 (omega arith) in rw head (ap (λ u. y ∷ u) (same_lists d a b (omega (arith, e)) (λ j l. f (suc j) (omega (arith, l)))))

three-are : {A : Type 0} (d : A) (a : List A) → length a ≡ 3 → a ≡ get_or a 0 d ∷ get_or a 1 d ∷ get_or a 2 d ∷ []
three-are d a e = same_lists d a (get_or a 0 d ∷ get_or a 1 d ∷ get_or a 2 d ∷ []) e at
  where
    at : (j : ℕ) → j < length a → get_or a j d ≡ get_or (get_or a 0 d ∷ get_or a 1 d ∷ get_or a 2 d ∷ []) j d
    at zero l = refl
    at (suc zero) l = refl
    at (suc (suc zero)) l = refl
    at (suc (suc (suc j))) l = absurd (omega (arith, l, e))

-- the slots of a wire's rows, of which the first six hold nothing
abbrev once_slots : Slots → Slots
once_slots o = None ∷ None ∷ None ∷ None ∷ None ∷ None ∷ get_or o 6 None ∷ get_or o 7 None ∷ get_or o 8 None ∷ get_or o 9 None ∷ []

once-are : (o : Slots) → length o ≡ 10 → ((j : ℕ) → j ≤ 5 → get_or o j None ≡ None) → o ≡ once_slots o
once-are o e f = same_lists None o (once_slots o) e at
  where
    at : (j : ℕ) → j < length o → get_or o j None ≡ get_or (once_slots o) j None
    at zero l = f 0 (omega arith)
    at (suc zero) l = f 1 (omega arith)
    at (suc (suc zero)) l = f 2 (omega arith)
    at (suc (suc (suc zero))) l = f 3 (omega arith)
    at (suc (suc (suc (suc zero)))) l = f 4 (omega arith)
    at (suc (suc (suc (suc (suc zero))))) l = f 5 (omega arith)
    at (suc (suc (suc (suc (suc (suc zero)))))) l = refl
    at (suc (suc (suc (suc (suc (suc (suc zero))))))) l = refl
    at (suc (suc (suc (suc (suc (suc (suc (suc zero)))))))) l = refl
    at (suc (suc (suc (suc (suc (suc (suc (suc (suc zero))))))))) l = refl
    at (suc (suc (suc (suc (suc (suc (suc (suc (suc (suc j)))))))))) l = absurd (omega (arith, l, e))

module _ (k : Known) where
  -- what is written of a row
  abbrev pub key_of : Wire → ℕ → Text
  key_of w j =
      cond (leb j 4) (show_group k (rule_at wire_table j) (group_at w j) [])
      (cond (eqb j 5) (show_wire_texts k w.texts []) (show_slot k (rule_at wire_table j) (get_or w.own j None) no_inner []))

  abbrev slot : Slots → ℕ → Text → Text
  slot o j ls = show_slot k (rule_at wire_table j) (get_or o j None) no_inner ls

  slot-before : (o : Slots) (j : ℕ) → Before (slot o j)
  slot-before o j ls = slot-more k no_inner (none_more k) (rule_at wire_table j) (get_or o j None) ls

  slots-four : (o : Slots) → show_slots k wire_table (once_slots o) no_inner [] ≡ slot o 6 (slot o 7 (slot o 8 (slot o 9 [])))
  unfolding wire_table
  slots-four o = refl

  -- a writer behind a text
  onto : (a : Text) (f : Text → Text) → Before f → (x : Text) → a ++ f x ≡ (a ++ f []) ++ x
  onto a f h x = ap (λ (u : Text). a ++ u) (h x) ∙ sym (append_assoc a (f []) x)

  pub keys-are : (w : Wire) → length w.groups ≡ 3 → length w.own ≡ 10 → ((j : ℕ) → j ≤ 5 → get_or w.own j None ≡ None)
      → show_groups k 2 w.groups (show_wire_texts k w.texts (show_slots k wire_table w.own no_inner [])) ≡ keys_text (key_of w) 8
  keys-are w three ten others =
      let o = w.own in
      let G : ℕ → Text → Text = λ j. show_group k (rule_at wire_table j) (group_at w j) in
      let T : Text → Text = show_wire_texts k w.texts in
      let g : (j : ℕ) → Before (G j) = λ j. group-more k (rule_at wire_table j) (group_at w j) in
      let A2 : Text = [] ++ G 2 [] in
      let A3 : Text = A2 ++ G 3 [] in
      let A4 : Text = A3 ++ G 4 [] in
      let A5 : Text = A4 ++ T [] in
      let A6 : Text = A5 ++ slot o 6 [] in
      let A7 : Text = A6 ++ slot o 7 [] in
      let A8 : Text = A7 ++ slot o 8 [] in
      ap (λ (gs : List (List (List Num))). show_groups k 2 gs (T (show_slots k wire_table o no_inner []))) (three-are [] w.groups three)
      ∙ ap (λ (u : Text). G 2 (G 3 (G 4 (T u)))) (ap (λ (x : Slots). show_slots k wire_table x no_inner []) (once-are o ten others) ∙ slots-four o)
      ∙ onto [] (G 2) (g 2) (G 3 (G 4 (T (slot o 6 (slot o 7 (slot o 8 (slot o 9 [])))))))
      ∙ onto A2 (G 3) (g 3) (G 4 (T (slot o 6 (slot o 7 (slot o 8 (slot o 9 []))))))
      ∙ onto A3 (G 4) (g 4) (T (slot o 6 (slot o 7 (slot o 8 (slot o 9 [])))))
      ∙ onto A4 T (texts-more k w.texts) (slot o 6 (slot o 7 (slot o 8 (slot o 9 []))))
      ∙ onto A5 (slot o 6) (slot-before o 6) (slot o 7 (slot o 8 (slot o 9 [])))
      ∙ onto A6 (slot o 7) (slot-before o 7) (slot o 8 (slot o 9 []))
      ∙ onto A7 (slot o 8) (slot-before o 8) (slot o 9 [])
