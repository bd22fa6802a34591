-- A line of a key that stands once, or the opener of a text, directly in a wire that is read: from the code's answer to the step that the
-- definitions make.
use Rattle.std.specs.Prelude.{Option, Some, None}
use Prim.Native.Nat.{ℕ, zero, suc, ◌+◌, ◌-◌, ◌≤◌, ◌<◌}
use mathlib.Core.Bool.{Bool, true, false, cond, ◌&&◌, ◌||◌, not}
use mathlib.Core.List.{List, [], ◌∷◌, ◌++◌}
use mathlib.Core.Path.{◌≡◌, refl, sym, ◌∙◌, ap, subst}
use native.Mathlib.Omega.{arith}
use borrow.Author.Tests.{eqb-true, eqb-false}
use lib.Dec.{eqb}
use lib.IntN.{ℤ, pos}
use lib.ListN.{length, get_or, set, take, drop, replicate, length-set, length-replicate}
use lib.Seq.{get_or-set_same, get_or-set_other, take-set-lt}
use Rattle.rules.specs.declared.Class.{Class}
use Rattle.rules.specs.declared.LineForm.{LineForm}
use Rattle.rules.specs.Base.{is_nil, has_number, flat, split}
use Rattle.rules.specs.RefusalNumbers.{got, unless, map_g, or_bad, cons_g}
use Rattle.rules.specs.Lines.{Rest, keyed, span, Shape, opener, no_content, content, opening, formless}
use Rattle.rules.specs.Values.{Known, Num, num, natural, read_partner, Value, nums, nums_of, amount_at, wire_serial, read_wire_serial, read_kind}
use Rattle.rules.specs.Rows.{Rule, found, find, Slots, blank, Held, rows_there, shape_for, fits, read_shape, Act, stay, entry, begin, shut, refuse, act}
use Rattle.rules.specs.Figures.{wire_table, wire_text_table, text_table}
use Rattle.rules.specs.Sets.{Edge, Wire, Figure, Set, wires_of, known_of, own_number, wire_partners}
use Rattle.rules.specs.Machine.{Line, in_layer, State, placing, wire_block, unlimited}
use Rattle.rules.specs.PlacedSymbol.{none_of, numbers_so_far}
use Rattle.rules.specs.LineByLine.{step_in}
use Rattle.rules.specs.Wires.{last_edge, is_element_row, on_element, on_attribute, with_once, with_texts, wire_full, new_number, on_wire_act}
use Rattle.rules.specs.Numbers.{read_count}
use Rattle.rules.specs.RecordTable.{numbers, put_slots, rule_at}
use Rattle.rules.proofs.Chains.{clash, never, map-got, cons-got}
use Rattle.rules.proofs.Rows.{row_at, row-did}
use Rattle.account.specs.declared.Now.{Now}
use Rattle.account.specs.declared.Where.{Where}
use Rattle.account.specs.declared.Step.{Step}
use Rattle.account.specs.declared.Step.TheVariants as S
use Rattle.account.specs.Placing.{fills}
use Rattle.account.specs.Account.{at_block}
use Rattle.account.specs.SerialNumbers.{content_at, in_use}
use Rattle.account.specs.PlacedLines.{Lent, lent, lent_with, with_inner}
use Rattle.account.specs.WireLines.{own_read, past_now, own_in, clashes_in, once_step, OnceRecords, OnceLent, OnceLine}
use Rattle.account.proofs.PlacedLaws.{read-row}
use Rattle.account.proofs.RowsTaken.{Taken, entry-taken}
use Rattle.standing.specs.SoFar.{volume_of, former_numbers, text_begun, wire_so_far, writing_record, empty_record}
use Rattle.standing.specs.Kept.{Scratch}
use Rattle.standing.specs.Standing.{Desk, wire_links, links_with, due_of, InRead, Stands, StandsAt, LineHere, StepOut, desk_now, form_size}
use Rattle.standing.specs.Reading.{PlacedForm}
use Rattle.standing.proofs.LineOrigins.{From, entry-from, begin-from}
use Rattle.standing.proofs.LineSizes.{read-shut}
use Rattle.standing.proofs.Marks.{marks-set, mark-free}
use Rattle.standing.proofs.Openers.{plain_kind}
use Rattle.standing.proofs.RowOpeners.{begin-row}
use Rattle.standing.proofs.Completing.{goes-still}
use Rattle.standing.proofs.WireCells.{spelled, once_slots, once_of, Fill, fill_none, fill_one, fill-two, fill-three, fill-five, length-put, circuit-put, power-put, serial-put, text-begin}
use Rattle.standing.proofs.WireParts.{direcs_of, piends_of, nums_in, slot_of, own-slots, cells_of, so-far-cells}
use Rattle.standing.proofs.WireScratch.{wire_scratch, scratch-wire}
use Rattle.standing.proofs.WireRows.{lent_by, wire_desk, begin-at, cells, before, still, did, row_act, below, row-act, whole}
use Rattle.standing.proofs.SerialKept.{SerialRead, SerialTaken, number-used, one_of, serial-stands}
use Rattle.standing.proofs.SerialContents.{LineContent, line-content, wire-serial-content, wire-content}
use Rattle.standing.proofs.Standings.{sight, stands_on, stands-still}
use Rattle.standing.proofs.HomeFacts.{home_stays}

-- ── what is computed of a wire's table ──
fill_1 : (zs : List ℤ) → (is_nil zs || eqb (length zs) 1) ≡ true → Fill 1 zs
fill_1 [] q = fill_none 1
fill_1 (a ∷ []) q = fill_one a
fill_1 (a ∷ b ∷ zs) q = absurd (omega (arith, eqb-true (length (a ∷ b ∷ zs)) 1 q))

fill_2 : (zs : List ℤ) → (is_nil zs || eqb (length zs) 2) ≡ true → Fill 2 zs
fill_2 [] q = fill_none 2
fill_2 (a ∷ []) q = absurd (omega (arith, eqb-true 1 2 q))
fill_2 (a ∷ b ∷ []) q = fill-two a b
fill_2 (a ∷ b ∷ c ∷ zs) q = absurd (omega (arith, eqb-true (length (a ∷ b ∷ c ∷ zs)) 2 q))

fill_3 : (zs : List ℤ) → (is_nil zs || eqb (length zs) 3) ≡ true → Fill 3 zs
fill_3 [] q = fill_none 3
fill_3 (a ∷ []) q = absurd (omega (arith, eqb-true 1 3 q))
fill_3 (a ∷ b ∷ []) q = absurd (omega (arith, eqb-true 2 3 q))
fill_3 (a ∷ b ∷ c ∷ []) q = fill-three a b c
fill_3 (a ∷ b ∷ c ∷ d ∷ zs) q = absurd (omega (arith, eqb-true (length (a ∷ b ∷ c ∷ d ∷ zs)) 3 q))

fill_5 : (zs : List ℤ) → (is_nil zs || eqb (length zs) 5) ≡ true → Fill 5 zs
fill_5 [] q = fill_none 5
fill_5 (a ∷ []) q = absurd (omega (arith, eqb-true 1 5 q))
fill_5 (a ∷ b ∷ []) q = absurd (omega (arith, eqb-true 2 5 q))
fill_5 (a ∷ b ∷ c ∷ []) q = absurd (omega (arith, eqb-true 3 5 q))
fill_5 (a ∷ b ∷ c ∷ d ∷ []) q = absurd (omega (arith, eqb-true 4 5 q))
fill_5 (a ∷ b ∷ c ∷ d ∷ e ∷ []) q = fill-five a b c d e
fill_5 (a ∷ b ∷ c ∷ d ∷ e ∷ f ∷ zs) q = absurd (omega (arith, eqb-true (length (a ∷ b ∷ c ∷ d ∷ e ∷ f ∷ zs)) 5 q))

-- the numbers of a row that stands once
abbrev FillOf : ℕ → Value → Type 0
FillOf zero v = Fill 1 (numbers v)
FillOf (suc zero) v = Fill 2 (numbers v)
FillOf (suc (suc zero)) v = Fill 3 (numbers v)
FillOf (suc (suc (suc i))) v = Fill 5 (numbers v)

once-fills : (i : ℕ) (v : Value) → i < 4 → fills (rule_at wire_table (6 + i)).holds (numbers v) ≡ true → FillOf i v
unfolding wire_table
once-fills zero v h q = fill_1 (numbers v) q
once-fills (suc zero) v h q = fill_2 (numbers v) q
once-fills (suc (suc zero)) v h q = fill_3 (numbers v) q
once-fills (suc (suc (suc zero))) v h q = fill_5 (numbers v) q
once-fills (suc (suc (suc (suc i)))) v h q = absurd (omega (arith, h))

serial-rule : ((rule_at wire_table 9).holds ≡ wire_serial) × ((rule_at wire_table 9).may ≡ false) × (length (rule_at wire_table 9).key ≡ 6)
unfolding wire_table
serial-rule = (refl, refl, refl)

-- a line of `text` enters nothing
text-opens : (k : Known) (i j : ℕ) (r : Rule) (s : Shape) (v : Value) → rule_at wire_table 5 ≡ r → fits r.holds r.may s ≡ true → read_shape k i r s ≡ got (entry j v) → ⊥
unfolding wire_table
text-opens k i j r s v e f h = go s (subst (λ (u : Rule). fits u.holds u.may s ≡ true) (sym e) f) h
  where
    go : (s : Shape) → fits (rule_at wire_table 5).holds (rule_at wire_table 5).may s ≡ true → read_shape k i r s ≡ got (entry j v) → ⊥
    go opener f h = absurd (let q : ◌≡◌ {A = ℕ} 0 1 = cc in omega arith)
    go no_content f h = clash f refl
    go (content at c) f h = clash f refl
    go (opening at c) f h = clash f refl
    go formless f h = clash f refl

text-value : (k : Known) (j : ℕ) (r : Rule) (s : Shape) (i : ℕ) (v : Value) → rule_at wire_table 5 ≡ r → fits r.holds r.may s ≡ true → read_shape k j r s ≡ got (begin i j v) → v ≡ nums []
unfolding wire_table
text-value k j r s i v e f h = go s (subst (λ (u : Rule). fits u.holds u.may s ≡ true) (sym e) f) h
  where
    go : (s : Shape) → fits (rule_at wire_table 5).holds (rule_at wire_table 5).may s ≡ true → read_shape k j r s ≡ got (begin i j v) → v ≡ nums []
    go opener f h = cc
    go no_content f h = clash f refl
    go (content at c) f h = clash f refl
    go (opening at c) f h = clash f refl
    go formless f h = clash f refl

-- a text that opens has nothing yet
blank-front : empty_record ≡ put_slots wire_text_table (blank wire_text_table) empty_record
unfolding text_table
blank-front = refl

blank-two : length (blank wire_text_table) ≡ 2
unfolding text_table
blank-two = refl

blank-marks : (n : ℕ) → n ≡ 2 → replicate n false ≡ rows_there (blank wire_text_table)
unfolding text_table
blank-marks n e = ap (λ (m : ℕ). replicate m false) e

opener-row : (j : ℕ) → 5 ≤ j → j < 10 → plain_kind (rule_at wire_table j).holds ≡ false → j ≡ 5
unfolding wire_table
opener-row (suc (suc (suc (suc (suc zero))))) h g e = refl
opener-row (suc (suc (suc (suc (suc (suc zero)))))) h g e = clash refl e
opener-row (suc (suc (suc (suc (suc (suc (suc zero))))))) h g e = clash refl e
opener-row (suc (suc (suc (suc (suc (suc (suc (suc zero)))))))) h g e = clash refl e
opener-row (suc (suc (suc (suc (suc (suc (suc (suc (suc zero))))))))) h g e = clash refl e
opener-row (suc (suc (suc (suc (suc (suc (suc (suc (suc (suc j)))))))))) h g e = absurd (omega (arith, g))
opener-row zero h g e = absurd (omega (arith, h))
opener-row (suc zero) h g e = absurd (omega (arith, h))
opener-row (suc (suc zero)) h g e = absurd (omega (arith, h))
opener-row (suc (suc (suc zero))) h g e = absurd (omega (arith, h))
opener-row (suc (suc (suc (suc zero)))) h g e = absurd (omega (arith, h))

-- a serial's first value is its own number
serial-first : (k : Known) (at : ℕ) (c : List ℕ) (v : Value) → read_kind k wire_serial at c ≡ got v → (n : ℕ) × (ns : List Num) × (v ≡ nums (num (pos n) ∷ ns))
serial-first k at c v e =
    let (w, p, q) = map-got nums (read_wire_serial (split 44 c)) v e in
    let (n, ns, is) = go (split 44 c) w p in
    (n, ns, sym q ∙ ap nums is)
  where
    go : (ps : List (List ℕ)) (w : List Num) → read_wire_serial ps ≡ got w → (n : ℕ) × (ns : List Num) × (w ≡ num (pos n) ∷ ns)
    go [] w f = never f
    go (p ∷ []) w f = never f
    go (p ∷ a ∷ []) w f = never f
    go (p ∷ a ∷ b ∷ q ∷ t) w f = never f
    go (p ∷ a ∷ b ∷ []) w f =
        let u = cons-got (natural (or_bad 10 (read_count 10 p))) (map_g flat (cons_g (read_partner a) (cons_g (read_partner b) (got [])))) w f in
        let own = map-got (λ n. num (pos n)) (or_bad 10 (read_count 10 p)) u.0 u.2 in
        (own.0, u.1, sym u.4 ∙ ap (λ (y : Num). y ∷ u.1) (sym own.2))

own_cell : (s : Set) (m n : ℕ) (w : Wire) (a : length w.own ≡ 10) (b : take 6 w.own ≡ replicate 6 None) (e : length w.groups ≡ 3) (o : Option Edge) (v : Value) → get_or w.own 9 None ≡ Some v
    → (i : ℕ) (ns : List Num) → v ≡ nums (num (pos i) ∷ ns) → own_in (wire_scratch empty_record o (cells_of s m n w a b e)) ≡ amount_at v 0
unfolding wire_table
own_cell s m n w a b e o v there i ns is =
    ap (λ (u : Option Value). own_in (wire_scratch empty_record o (spelled (direcs_of w) (piends_of w) (nums_in w) w.texts (once_of m (volume_of s) n (slot_of 6 w) (slot_of 7 w) (slot_of 8 w) u)))) (there ∙ ap Some is)
    ∙ go o ∙ ap (λ (u : Value). amount_at u 0) (sym is)
  where
    go : (o : Option Edge) → own_in (wire_scratch empty_record o (spelled (direcs_of w) (piends_of w) (nums_in w) w.texts (once_of m (volume_of s) n (slot_of 6 w) (slot_of 7 w) (slot_of 8 w) (Some (nums (num (pos i) ∷ ns)))))) ≡ amount_at (nums (num (pos i) ∷ ns)) 0
    go None = refl
    go (Some u) = refl

module _ (c : Class) (spool : List ℕ) (k : ℕ) (FileHere : Desk → Set → ℕ → Held → ℕ → Type 0) (d : Desk) (at to own : ℕ) (l : Line) (w : Where) (form : LineForm)
    (x : LineHere spool k at to form w l) (s : Set) (m : ℕ) (fs : List Figure) (n : ℕ) (wire : Wire) (z : Stands c spool k d (FileHere d) at (placing s m fs n (wire_block wire) 0)) where
  abbrev st₀ : State
  st₀ = placing s m fs n (wire_block wire) 0

  read₀ : InRead spool k d.now d.marks d.inner s m fs wire 0
  read₀ = z.block.1

  here : at ≤ to
  here = omega (arith, x.bytes)

  abbrev formerly : Option Edge
  formerly = last_edge wire.elements

  slots-are : wire.own ≡ once_slots (slot_of 6 wire) (slot_of 7 wire) (slot_of 8 wire) (slot_of 9 wire)
  slots-are = own-slots s m n wire read₀.slots read₀.repeats read₀.groups

  -- ── a row's line, i being its number among those that stand once ──
  module _ (i : ℕ) (few : i < 4) (v : Value) (fill : FillOf i v) (free : get_or wire.own (6 + i) None ≡ None) where
    abbrev slots' : Slots
    slots' = set wire.own (6 + i) (Some v)

    abbrev wire' : Wire
    wire' = with_once slots' wire

    abbrev st' : State
    st' = placing s m fs n (wire_block wire') 0

    ten' : length slots' ≡ 10
    ten' = length-set wire.own (6 + i) (Some v) ∙ read₀.slots

    repeats' : take 6 slots' ≡ replicate 6 None
    repeats' = ap (λ (u : Slots). take 6 (set u (6 + i) (Some v))) slots-are ∙ go i few
      where
        go : (i : ℕ) → i < 4 → take 6 (set (once_slots (slot_of 6 wire) (slot_of 7 wire) (slot_of 8 wire) (slot_of 9 wire)) (6 + i) (Some v)) ≡ replicate 6 None
        go zero h = refl
        go (suc zero) h = refl
        go (suc (suc zero)) h = refl
        go (suc (suc (suc zero))) h = refl
        go (suc (suc (suc (suc i)))) h = absurd (omega (arith, h))

    marked' : take 10 (set d.marks (6 + i) true) ≡ rows_there slots'
    marked' =
        take-set-lt 10 d.marks (6 + i) true (omega (arith, few)) ∙ ap (λ (b : List Bool). set b (6 + i) true) read₀.marked ∙ sym (marks-set wire.own (6 + i) v)

    -- the other slots stay
    other : (j : ℕ) → (j ≡ 6 + i → ⊥) → slot_of j wire ≡ slot_of j wire'
    other j h = sym (get_or-set_other wire.own (6 + i) j (Some v) None h)

    this : Some v ≡ slot_of (6 + i) wire'
    this = sym (get_or-set_same wire.own (6 + i) (Some v) None (omega (arith, few, read₀.slots)))

    abbrev by : Option Value → Option Value → Option Value → Option Value → List ℤ
    by o₆ o₇ o₈ o₉ = wire_scratch empty_record formerly (spelled (direcs_of wire) (piends_of wire) (nums_in wire) wire.texts (once_of m (volume_of s) n o₆ o₇ o₈ o₉))

    entered : own_read (6 + i) v d.scratch ≡ wire_scratch empty_record formerly (cells_of s m n wire' ten' repeats' read₀.groups)
    entered = ap (own_read (6 + i) v) (before c spool k FileHere d at to own l w form x s m fs n wire z) ∙ go i few fill free other this
      where
        go : (i : ℕ) (few : i < 4) → FillOf i v → get_or wire.own (6 + i) None ≡ None
            → ((j : ℕ) → (j ≡ 6 + i → ⊥) → slot_of j wire ≡ get_or (set wire.own (6 + i) (Some v)) j None) → Some v ≡ get_or (set wire.own (6 + i) (Some v)) (6 + i) None
            → own_read (6 + i) v (by (slot_of 6 wire) (slot_of 7 wire) (slot_of 8 wire) (slot_of 9 wire))
            ≡ by (get_or (set wire.own (6 + i) (Some v)) 6 None) (get_or (set wire.own (6 + i) (Some v)) 7 None) (get_or (set wire.own (6 + i) (Some v)) 8 None) (get_or (set wire.own (6 + i) (Some v)) 9 None)
        go zero few f e other this =
            ap (λ (o : Option Value). own_read 6 v (by o (slot_of 7 wire) (slot_of 8 wire) (slot_of 9 wire))) e
            ∙ length-put m (volume_of s) n (direcs_of wire) (piends_of wire) (nums_in wire) wire.texts formerly v (slot_of 7 wire) (slot_of 8 wire) (slot_of 9 wire) f
            ∙ ap (λ (o : Option Value). by o (slot_of 7 wire) (slot_of 8 wire) (slot_of 9 wire)) this
            ∙ ap (λ (o : Option Value). by (get_or (set wire.own 6 (Some v)) 6 None) o (slot_of 8 wire) (slot_of 9 wire)) (other 7 (λ q. omega (arith, q)))
            ∙ ap (λ (o : Option Value). by (get_or (set wire.own 6 (Some v)) 6 None) (get_or (set wire.own 6 (Some v)) 7 None) o (slot_of 9 wire)) (other 8 (λ q. omega (arith, q)))
            ∙ ap (by (get_or (set wire.own 6 (Some v)) 6 None) (get_or (set wire.own 6 (Some v)) 7 None) (get_or (set wire.own 6 (Some v)) 8 None)) (other 9 (λ q. omega (arith, q)))
        go (suc zero) few f e other this =
            ap (λ (o : Option Value). own_read 7 v (by (slot_of 6 wire) o (slot_of 8 wire) (slot_of 9 wire))) e
            ∙ circuit-put m (volume_of s) n (direcs_of wire) (piends_of wire) (nums_in wire) wire.texts formerly v (slot_of 6 wire) (slot_of 8 wire) (slot_of 9 wire) f
            ∙ ap (λ (o : Option Value). by o (Some v) (slot_of 8 wire) (slot_of 9 wire)) (other 6 (λ q. omega (arith, q)))
            ∙ ap (λ (o : Option Value). by (get_or (set wire.own 7 (Some v)) 6 None) o (slot_of 8 wire) (slot_of 9 wire)) this
            ∙ ap (λ (o : Option Value). by (get_or (set wire.own 7 (Some v)) 6 None) (get_or (set wire.own 7 (Some v)) 7 None) o (slot_of 9 wire)) (other 8 (λ q. omega (arith, q)))
            ∙ ap (by (get_or (set wire.own 7 (Some v)) 6 None) (get_or (set wire.own 7 (Some v)) 7 None) (get_or (set wire.own 7 (Some v)) 8 None)) (other 9 (λ q. omega (arith, q)))
        go (suc (suc zero)) few f e other this =
            ap (λ (o : Option Value). own_read 8 v (by (slot_of 6 wire) (slot_of 7 wire) o (slot_of 9 wire))) e
            ∙ power-put m (volume_of s) n (direcs_of wire) (piends_of wire) (nums_in wire) wire.texts formerly v (slot_of 6 wire) (slot_of 7 wire) (slot_of 9 wire) f
            ∙ ap (λ (o : Option Value). by o (slot_of 7 wire) (Some v) (slot_of 9 wire)) (other 6 (λ q. omega (arith, q)))
            ∙ ap (λ (o : Option Value). by (get_or (set wire.own 8 (Some v)) 6 None) o (Some v) (slot_of 9 wire)) (other 7 (λ q. omega (arith, q)))
            ∙ ap (λ (o : Option Value). by (get_or (set wire.own 8 (Some v)) 6 None) (get_or (set wire.own 8 (Some v)) 7 None) o (slot_of 9 wire)) this
            ∙ ap (by (get_or (set wire.own 8 (Some v)) 6 None) (get_or (set wire.own 8 (Some v)) 7 None) (get_or (set wire.own 8 (Some v)) 8 None)) (other 9 (λ q. omega (arith, q)))
        go (suc (suc (suc zero))) few f e other this =
            ap (λ (o : Option Value). own_read 9 v (by (slot_of 6 wire) (slot_of 7 wire) (slot_of 8 wire) o)) e
            ∙ serial-put m (volume_of s) n (direcs_of wire) (piends_of wire) (nums_in wire) wire.texts formerly v (slot_of 6 wire) (slot_of 7 wire) (slot_of 8 wire) f
            ∙ ap (λ (o : Option Value). by o (slot_of 7 wire) (slot_of 8 wire) (Some v)) (other 6 (λ q. omega (arith, q)))
            ∙ ap (λ (o : Option Value). by (get_or (set wire.own 9 (Some v)) 6 None) o (slot_of 8 wire) (Some v)) (other 7 (λ q. omega (arith, q)))
            ∙ ap (λ (o : Option Value). by (get_or (set wire.own 9 (Some v)) 6 None) (get_or (set wire.own 9 (Some v)) 7 None) o (Some v)) (other 8 (λ q. omega (arith, q)))
            ∙ ap (by (get_or (set wire.own 9 (Some v)) 6 None) (get_or (set wire.own 9 (Some v)) 7 None) (get_or (set wire.own 9 (Some v)) 8 None)) this
        go (suc (suc (suc (suc i)))) few f e other this = absurd (omega (arith, few))

    scratch' : (t₁ : List ℤ) → t₁ ≡ own_read (6 + i) v d.scratch → Scratch t₁ st'
    scratch' t₁ q = still c spool k FileHere d at to own l w form x s m fs n wire z wire' ten' repeats' read₀.groups (read₀.shut refl) t₁ (q ∙ entered)

    in-wire : (ms : List Bool) → ms ≡ set d.marks (6 + i) true → InRead spool k (past_now d.now) ms d.inner s m fs wire' 0
    in-wire ms e = record {
      wire = record {
        home = home_stays spool k d.now (past_now d.now) d.marks d.inner d.inner s (in_layer m) refl refl read₀.wire.home;
        figures = read₀.wire.figures;
        part = refl;
        points = read₀.wire.points;
      };
      parts = read₀.parts;
      slots = ten';
      marked = ap (take 10) e ∙ marked';
      repeats = repeats';
      groups = read₀.groups;
      shut = read₀.shut;
      writes = λ q. absurd (omega (arith, q));
    }

    -- a row but `serial`: its numbers and its mark, nothing else
    module _ (plain : 9 ≡ 6 + i → ⊥) (t₁ : List ℤ) (q : t₁ ≡ own_read (6 + i) v d.scratch) where
      serial-kept : slot_of 9 wire ≡ slot_of 9 wire'
      serial-kept = other 9 plain

      same-sight : sight st₀ ≡ sight st'
      same-sight =
          ap (λ (o : Option Value). record { set = (sight st₀).set; layers = s.drawing.layers; serials = links_with s fs ++ wire_links o; used = (sight st₀).used; inside = true; counts = true }) serial-kept

      once-stands : StandsAt c spool k FileHere (desk_now (wire_desk d (lent d.tally d.serials (set d.marks (6 + i) true) d.inner) t₁) (past_now d.now)) to st'
      once-stands =
          stands_on c spool k FileHere d at to st₀ st' z (past_now d.now) (set d.marks (6 + i) true) d.inner t₁ same-sight (length-set d.marks (6 + i) true ∙ z.lengths.marks) z.lengths.inner
          (scratch' t₁ q) (omega (arith, z.counted, here)) (omega (arith, z.named, here)) (omega (arith, z.numbered, here, ap (due_of 10) serial-kept)) (refl, in-wire (set d.marks (6 + i) true) refl)

  -- ── a row's line ──
  module _ (key : List ℕ) (rest : Rest) (row : ℕ) (rule : Rule) (keyed-so : l.form ≡ keyed key rest) (place : find key wire_table ≡ found row rule) (in-spool : PlacedForm l.form)
      (behind : 5 ≤ row) (h : step_in (unlimited c) l st₀ ≡ on_wire_act (unlimited c) l s m fs n wire (did c spool k FileHere d at to own l w form x s m fs n wire z key rest row rule keyed-so place))
      (x₁ : Lent) (t₁ : List ℤ) where
    abbrev does : Act
    does = did c spool k FileHere d at to own l w form x s m fs n wire z key rest row rule keyed-so place

    abbrev Out : Step → Type 0
    Out r = StepOut c spool k FileHere own l to st₀ (wire_desk d x₁ t₁) r

    row-few : row < 10
    row-few = below c spool k FileHere d at to own l w form x s m fs n wire z key rest row rule keyed-so place

    all_of : act (known_of s) wire_table (wires_of s) (wire_full wire) l.form ≡ does
    all_of = whole c spool k FileHere d at to own l w form x s m fs n wire z key rest row rule keyed-so place

    -- ── a line entered ──
    module _ (i : ℕ) (v : Value) (a : does ≡ entry i v) where
      from : From (known_of s) wire_table (wires_of s) (wire_full wire) l.form i (entry i v)
      from = entry-from (known_of s) wire_table (wires_of s) (wire_full wire) l.form i v (all_of ∙ a)

      taken : Taken wire_table (wire_full wire) i v
      taken = entry-taken (known_of s) wire_table (wires_of s) (wire_full wire) l.form i v (all_of ∙ a)

      is_row : i ≡ row
      is_row = sym (read-row (known_of s) row i rule (shape_for rule rest) v (row-did (known_of s) (wires_of s) (get_or (wire_full wire) row false) row rule rest (entry i v) refl a).read)

      is-rule : rule_at wire_table i ≡ from.rule
      is-rule = row_at from.row _

      not-text : i ≡ 5 → ⊥
      not-text e = text-opens (known_of s) i i from.rule (shape_for from.rule from.rest) v (ap (rule_at wire_table) (sym e) ∙ is-rule) from.did.fit from.did.read

      -- j: its number among those that stand once
      module _ (j : ℕ) (e : i ≡ 6 + j) where
        few : j < 4
        few = omega (arith, e, is_row, row-few)

        fill : FillOf j v
        fill = once-fills j v few (subst (λ (u : ℕ). fills (rule_at wire_table u).holds (numbers v) ≡ true) e taken.fill)

        free : get_or wire.own (6 + j) None ≡ None
        free =
            mark-free wire.own (6 + j)
            (full-free j few (subst (λ (u : ℕ). get_or (wire_full wire) u false ≡ false) e taken.free))
          where
            full-free : (j : ℕ) → j < 4 → get_or (wire_full wire) (6 + j) false ≡ false → get_or (rows_there wire.own) (6 + j) false ≡ false
            full-free j h q = dropped j h ∙ q
              where
                dropped : (j : ℕ) → j < 4 → get_or (rows_there wire.own) (6 + j) false ≡ get_or (wire_full wire) (6 + j) false
                dropped zero h = ap (λ (u : Slots). get_or (rows_there u) 6 false) slots-are ∙ sym (ap (λ (u : Slots). get_or (drop 5 (rows_there u)) 1 false) slots-are)
                dropped (suc zero) h = ap (λ (u : Slots). get_or (rows_there u) 7 false) slots-are ∙ sym (ap (λ (u : Slots). get_or (drop 5 (rows_there u)) 2 false) slots-are)
                dropped (suc (suc zero)) h = ap (λ (u : Slots). get_or (rows_there u) 8 false) slots-are ∙ sym (ap (λ (u : Slots). get_or (drop 5 (rows_there u)) 3 false) slots-are)
                dropped (suc (suc (suc zero))) h = ap (λ (u : Slots). get_or (rows_there u) 9 false) slots-are ∙ sym (ap (λ (u : Slots). get_or (drop 5 (rows_there u)) 4 false) slots-are)
                dropped (suc (suc (suc (suc j)))) h = absurd (omega (arith, h))

        -- what the definitions do
        stepped : step_in (unlimited c) l st₀ ≡ unless (new_number s fs (6 + j) v) 15 (got (st' j few v fill free))
        stepped =
            h ∙ ap (on_wire_act (unlimited c) l s m fs n wire) a
            ∙ ap (λ (u : ℕ). cond (is_element_row u) (on_element (unlimited c) l s m fs n wire u (nums_of v)) (on_attribute s m fs n wire u v)) e
            ∙ by j few fill free
          where
            by : (j : ℕ) (few : j < 4) (fill : FillOf j v) (free : get_or wire.own (6 + j) None ≡ None)
                → cond (is_element_row (6 + j)) (on_element (unlimited c) l s m fs n wire (6 + j) (nums_of v)) (on_attribute s m fs n wire (6 + j) v) ≡ unless (new_number s fs (6 + j) v) 15 (got (st' j few v fill free))
            by zero few fill free = refl
            by (suc zero) few fill free = refl
            by (suc (suc zero)) few fill free = refl
            by (suc (suc (suc zero))) few fill free = refl
            by (suc (suc (suc (suc j)))) few fill free = absurd (omega (arith, few))

        -- of another row than `serial`
        on-other : eqb i 9 ≡ false → t₁ ≡ own_read i v d.scratch → x₁ ≡ lent_with (eqb i 9) (lent_by d) i (own_in (own_read i v d.scratch)) (content_at rest) → Out (S.Go (past_now d.now))
        on-other b q y =
            let plain : 9 ≡ 6 + j → ⊥ = λ u. eqb-false i 9 b (e ∙ sym u) in
            let lent_is : x₁ ≡ lent d.tally d.serials (set d.marks (6 + j) true) d.inner =
            y ∙ ap (λ (t : Bool). lent_with t (lent_by d) i (own_in (own_read i v d.scratch)) (content_at rest)) b ∙ ap (λ (u : ℕ). lent d.tally d.serials (set d.marks u true) d.inner) e in
            let quiet : new_number s fs (6 + j) v ≡ true = ap (λ (t : Bool). not t || none_of (own_number (Some v)) (numbers_so_far s fs)) (ap (λ (u : ℕ). eqb u 9) (sym e) ∙ b) in
            goes-still c spool k FileHere own l to st₀ (wire_desk d x₁ t₁) (past_now d.now) (st' j few v fill free) (stepped ∙ ap (λ (t : Bool). unless t 15 (got (st' j few v fill free))) quiet) z.block.0 refl refl refl
            (subst (λ (u : Lent). StandsAt c spool k FileHere (desk_now (wire_desk d u t₁) (past_now d.now)) to (st' j few v fill free)) (sym lent_is)
            (once-stands j few v fill free plain t₁ (q ∙ ap (λ (u : ℕ). own_read u v d.scratch) e)))

      -- of the row `serial`
      module _ (nine : i ≡ 9) where
        r₉ : rule_at wire_table 9 ≡ from.rule
        r₉ = ap (rule_at wire_table) (sym nine) ∙ is-rule

        line : LineContent spool (known_of s) wire_serial (length from.rule.key) (form_size l.form) from.rest v
        line =
            line-content spool form (known_of s) wire_table (wires_of s) (wire_full wire) l.form i v from x.is in-spool wire_serial wire-serial-content
            (ap (λ (r : Rule). r.holds) (sym r₉) ∙ serial-rule.0) (ap (λ (r : Rule). r.may) (sym r₉) ∙ serial-rule.1)

        abbrev number : ℕ
        number = amount_at v 0

        serial : SerialRead spool 2 number (wire_partners v) line.place line.bytes
        serial = wire-content spool line.place line.bytes line.here line.low (known_of s) v line.read

        content-is : content_at rest ≡ span line.place (length line.bytes)
        content-is = let same = sym keyed-so ∙ from.form in let q : rest ≡ from.rest = cc in ap content_at (q ∙ line.behind)

        e : i ≡ 6 + 3
        e = nine

        abbrev free₉ : get_or wire.own 9 None ≡ None
        free₉ = free 3 e

        abbrev wire₉ : Wire
        wire₉ = wire' 3 (few 3 e) v (fill 3 e) free₉

        slot-now : get_or wire₉.own 9 None ≡ Some v
        slot-now = get_or-set_same wire.own 9 (Some v) None (omega (arith, read₀.slots))

        taken-so : SerialTaken spool at to n (wire_block wire) (wire_block wire₉) number (wire_partners v) line.place line.bytes
        taken-so = record {
          extra = 2;
          opener = 10;
          read = serial;
          none_yet = ap wire_links free₉;
          one = ap wire_links slot-now;
          due = ap (due_of 10) free₉;
          spent = ap (due_of 10) slot-now;
          whole = refl;
          bytes = omega (arith, x.bytes, line.size, ap (λ (r : Rule). length r.key) r₉, serial-rule.2);
          most = x.most;
        }

        first : (n : ℕ) × (ns : List Num) × (v ≡ nums (num (pos n) ∷ ns))
        first = serial-first (known_of s) line.place line.bytes v line.read

        -- the own number that the line leaves among the wire's
        number_is : own_in (own_read 9 v d.scratch) ≡ number
        number_is = ap own_in (entered 3 (few 3 e) v (fill 3 e) free₉) ∙ own_cell s m n wire₉ (ten' 3 (few 3 e) v (fill 3 e) free₉) (repeats' 3 (few 3 e) v (fill 3 e) free₉) read₀.groups formerly v slot-now first.0 first.1 first.2

        used-so : in_use d.tally d.serials number ≡ has_number number (numbers_so_far s fs)
        used-so = number-used c spool k FileHere d at to s m fs n (wire_block wire) (wire_block wire₉) 0 0 z number (wire_partners v) line.place line.bytes taken-so

        new-so : new_number s fs 9 v ≡ not (has_number number (numbers_so_far s fs))
        new-so = one_of number (numbers_so_far s fs)

        on-used : in_use d.tally d.serials number ≡ true → Out (S.Stop 15)
        on-used b = stepped 3 e ∙ ap (λ (t : Bool). unless t 15 (got (st' 3 (few 3 e) v (fill 3 e) free₉))) (new-so ∙ ap not (sym used-so ∙ b))

        on-new : in_use d.tally d.serials number ≡ false → t₁ ≡ own_read 9 v d.scratch → x₁ ≡ lent_with true (lent_by d) 9 number (span line.place (length line.bytes)) → Out (S.Go (past_now d.now))
        on-new b q y =
            goes-still c spool k FileHere own l to st₀ (wire_desk d x₁ t₁) (past_now d.now) (st' 3 (few 3 e) v (fill 3 e) free₉)
            (stepped 3 e ∙ ap (λ (t : Bool). unless t 15 (got (st' 3 (few 3 e) v (fill 3 e) free₉))) (new-so ∙ ap not (sym used-so ∙ b))) z.block.0 refl refl refl
            (subst (λ (u : Lent). StandsAt c spool k FileHere (desk_now (wire_desk d u t₁) (past_now d.now)) to (st' 3 (few 3 e) v (fill 3 e) free₉)) (sym y)
            (serial-stands c spool k FileHere d at to s m fs n (wire_block wire) (wire_block wire₉) 0 0 z number (wire_partners v) line.place line.bytes taken-so (sym used-so ∙ b) (past_now d.now)
            (set d.marks 9 true) d.inner t₁ (length-set d.marks 9 true ∙ z.lengths.marks) z.lengths.inner (scratch' 3 (few 3 e) v (fill 3 e) free₉ t₁ q) (omega arith)
            (refl, in-wire 3 (few 3 e) v (fill 3 e) free₉ (set d.marks 9 true) refl)))

        by_use : (t : Bool) → in_use d.tally d.serials number ≡ t → t₁ ≡ own_read 9 v d.scratch → (t ≡ false → x₁ ≡ lent_with true (lent_by d) 9 number (span line.place (length line.bytes))) → Out (cond t (S.Stop 15) (S.Go (past_now d.now)))
        by_use true b q y = on-used b
        by_use false b q y = on-new b q (y refl)

        on-serial : t₁ ≡ own_read 9 v d.scratch → (clashes_in (lent_by d) 9 (own_in (own_read 9 v d.scratch)) ≡ false → x₁ ≡ lent_with true (lent_by d) 9 (own_in (own_read 9 v d.scratch)) (content_at rest))
            → Out (cond (clashes_in (lent_by d) 9 (own_in (own_read 9 v d.scratch))) (S.Stop 15) (S.Go (past_now d.now)))
        on-serial q y =
            let same : clashes_in (lent_by d) 9 (own_in (own_read 9 v d.scratch)) ≡ in_use d.tally d.serials number = ap (in_use d.tally d.serials) number_is in
            subst (λ (b : Bool). Out (cond b (S.Stop 15) (S.Go (past_now d.now)))) (sym same)
            (by_use (in_use d.tally d.serials number) refl q
            (λ f. y (same ∙ f) ∙ ap (λ (u : ℕ). lent_with true (lent_by d) 9 u (content_at rest)) number_is ∙ ap (lent_with true (lent_by d) 9 number) content-is))

      abbrev Answer : Type 0
      Answer = Out (cond (clashes_in (lent_by d) i (own_in (own_read i v d.scratch))) (S.Stop 15) (S.Go (past_now d.now)))

      on-entry : t₁ ≡ own_read i v d.scratch
          → (clashes_in (lent_by d) i (own_in (own_read i v d.scratch)) ≡ false → x₁ ≡ lent_with (eqb i 9) (lent_by d) i (own_in (own_read i v d.scratch)) (content_at rest)) → Answer
      on-entry q y = go (eqb i 9) refl
        where
          go : (b : Bool) → eqb i 9 ≡ b → Answer
          go true b =
              let nine : i ≡ 9 = eqb-true i 9 b in
              subst (λ (u : ℕ). Out (cond (clashes_in (lent_by d) u (own_in (own_read u v d.scratch))) (S.Stop 15) (S.Go (past_now d.now)))) (sym nine)
              (on-serial nine (q ∙ ap (λ (u : ℕ). own_read u v d.scratch) nine)
              (subst (λ (u : ℕ). clashes_in (lent_by d) u (own_in (own_read u v d.scratch)) ≡ false → x₁ ≡ lent_with (eqb u 9) (lent_by d) u (own_in (own_read u v d.scratch)) (content_at rest)) nine y))
          go false b =
              let quiet : clashes_in (lent_by d) i (own_in (own_read i v d.scratch)) ≡ false = ap (λ (t : Bool). t && in_use d.tally d.serials (own_in (own_read i v d.scratch))) b in
              let more : (6 ≤ i) = ge-six in
              subst (λ (t : Bool). Out (cond t (S.Stop 15) (S.Go (past_now d.now)))) (sym quiet) (on-other (i - 6) (omega (arith, ge-six)) b q (y quiet))
            where
              ge-six : 6 ≤ i
              ge-six = go-six i is_row behind not-text
                where
                  go-six : (u : ℕ) → u ≡ row → 5 ≤ row → (u ≡ 5 → ⊥) → 6 ≤ u
                  go-six u e f g = omega (arith, e, f, g)

    -- ── its text opened ──
    module _ (i j : ℕ) (v : Value) (a : does ≡ begin i j v) where
      from-begin : From (known_of s) wire_table (wires_of s) (wire_full wire) l.form j (begin i j v)
      from-begin = begin-from (known_of s) wire_table (wires_of s) (wire_full wire) l.form i j v (all_of ∙ a)

      five : j ≡ 5
      five =
          let is_row : j ≡ row = begin-at (known_of s) (wires_of s) (get_or (wire_full wire) row false) row rule rest i j v a in
          let (opens-so, inner-so) = begin-row (known_of s) wire_table (wires_of s) (wire_full wire) l.form j i v from-begin in
          opener-row j (omega (arith, is_row, behind)) (omega (arith, is_row, row-few)) opens-so

      -- what an opener enters
      nothing-more : v ≡ nums []
      nothing-more = text-value (known_of s) j from-begin.rule (shape_for from-begin.rule from-begin.rest) i v (ap (rule_at wire_table) (sym five) ∙ row_at from-begin.row _) from-begin.did.fit from-begin.did.read

      abbrev writing : Wire
      writing = with_texts wire.texts (blank wire_text_table) wire

      abbrev st₁ : State
      st₁ = placing s m fs n (wire_block writing) 1

      on-begin : t₁ ≡ own_read j v d.scratch → x₁ ≡ with_inner (replicate (length d.inner) false) (lent_by d) → Out (S.Go (at_block d.now 12 1))
      on-begin q y =
          let now : Now = at_block d.now 12 1 in
          let put : t₁ ≡ empty_record ++ former_numbers formerly (text_begun 1 (cells c spool k FileHere d at to own l w form x s m fs n wire z)) =
          q ∙ ap (λ (u : ℕ). own_read u v d.scratch) five ∙ ap (λ (u : Value). own_read 5 u d.scratch) nothing-more ∙ ap (own_read 5 (nums [])) (before c spool k FileHere d at to own l w form x s m fs n wire z)
          ∙ text-begin (direcs_of wire) (piends_of wire) (nums_in wire) wire.texts (once_of m (volume_of s) n (slot_of 6 wire) (slot_of 7 wire) (slot_of 8 wire) (slot_of 9 wire)) formerly in
          let there : t₁ ≡ writing_record writing ++ wire_so_far s m n writing 1 =
          put ∙ ap (λ (u : List ℤ). u ++ former_numbers formerly (text_begun 1 (cells c spool k FileHere d at to own l w form x s m fs n wire z))) blank-front
          ∙ ap (λ (u : List ℤ). writing_record writing ++ u) (sym (so-far-cells s m n writing read₀.slots read₀.repeats read₀.groups 1)) in
          goes-still c spool k FileHere own l to st₀ (wire_desk d x₁ t₁) now st₁ (h ∙ ap (on_wire_act (unlimited c) l s m fs n wire) a) z.block.0 refl refl refl
          (subst (λ (u : Lent). StandsAt c spool k FileHere (desk_now (wire_desk d u t₁) now) to st₁) (sym y)
          (stands_on c spool k FileHere d at to st₀ st₁ z now d.marks (replicate (length d.inner) false) t₁ refl z.lengths.marks (length-replicate (length d.inner) false ∙ z.lengths.inner)
          (scratch-wire s m fs n writing 1 t₁ there) (omega (arith, z.counted, here)) (omega (arith, z.named, here)) (omega (arith, z.numbered, here)) (
            refl,
            record {
              wire = record {
                home = home_stays spool k d.now now d.marks d.inner (replicate (length d.inner) false) s (in_layer m) refl refl read₀.wire.home;
                figures = read₀.wire.figures;
                part = refl;
                points = read₀.wire.points;
              };
              parts = omega arith;
              slots = read₀.slots;
              marked = read₀.marked;
              repeats = read₀.repeats;
              groups = read₀.groups;
              shut = λ e. absurd (omega (arith, e));
              writes = λ e. (refl, blank-two, blank-marks (length d.inner) z.lengths.inner);
            },
          )))

    on-stay : does ≡ stay → x₁ ≡ lent_by d → t₁ ≡ d.scratch → Out (S.Go d.now)
    on-stay a y q =
        goes-still c spool k FileHere own l to st₀ (wire_desk d x₁ t₁) d.now st₀ (h ∙ ap (on_wire_act (unlimited c) l s m fs n wire) a) refl refl refl refl
        (subst (λ (u : Lent). StandsAt c spool k FileHere (desk_now (wire_desk d u t₁) d.now) to st₀) (sym y)
        (stands-still c spool k FileHere d at to st₀ z here d.tally d.marks d.inner d.header t₁ refl refl refl refl q))

    by-act : (f : Act) → does ≡ f → OnceRecords d.scratch t₁ f → OnceLent (lent_by d) x₁ d.scratch (content_at rest) f → Out (once_step d.now (lent_by d) d.scratch f)
    by-act stay a q y = on-stay a y q
    by-act (entry i v) a q y = on-entry i v a q y
    by-act (begin i j v) a q y = on-begin i j v a q y
    by-act shut a q y = clash refl (read-shut (known_of s) row rule (shape_for rule rest) shut (row-did (known_of s) (wires_of s) (get_or (wire_full wire) row false) row rule rest shut refl a).read)
    by-act (refuse i) a q y = h ∙ ap (on_wire_act (unlimited c) l s m fs n wire) a

    pub once-line : (r : Step) → OnceLine (row_act c spool k FileHere d at to own l w form x s m fs n wire z key rest row rule keyed-so place) d.now (content_at rest) (lent_by d) x₁ d.scratch t₁ r → Out r
    once-line r f =
        let same = row-act c spool k FileHere d at to own l w form x s m fs n wire z key rest row rule keyed-so place in
        subst Out (sym (f.answer ∙ ap (once_step d.now (lent_by d) d.scratch) same))
        (by-act does refl (subst (OnceRecords d.scratch t₁) same f.records) (subst (OnceLent (lent_by d) x₁ d.scratch (content_at rest)) same f.lent))
