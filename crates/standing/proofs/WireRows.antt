-- A line of an element or of a key that repeats, directly in a wire that is read: from the code's answer to the step that the definitions make.
use Rattle.std.specs.Prelude.{Option, Some, None}
use Prim.Native.Nat.{ℕ, zero, suc, ◌+◌, ◌≤◌, ◌<◌}
use mathlib.Core.Bool.{Bool, true, false, cond}
use mathlib.Core.List.{List, [], ◌∷◌, ◌++◌}
use mathlib.Core.Path.{◌≡◌, refl, sym, ◌∙◌, ap, subst}
use native.Mathlib.Omega.{arith}
use borrow.Author.Tests.{eqb-true, lt-ltb, le-ltb}
use lib.Dec.{eqb, leb}
use lib.IntN.{ℤ, pos, nat_abs}
use lib.ListN.{length, get_or, set, take, drop, replicate, length-set, length-append}
use lib.Seq.{get_or-set_same, get_or-set_other, get_or-take, take_at, drop_at}
use Rattle.rules.specs.declared.Digits.{Digits}
use Rattle.rules.specs.declared.Class.{Class}
use Rattle.rules.specs.declared.LineForm.{LineForm}
use Rattle.rules.specs.Base.{total}
use Rattle.rules.specs.RefusalNumbers.{got, unless}
use Rattle.rules.specs.RangeClass.{digits_of}
use Rattle.rules.specs.Lines.{Rest, keyed, Shape, opener, no_content, content, opening, formless}
use Rattle.rules.specs.Values.{Known, Num, Value, nums, nums_of, read_kind}
use Rattle.rules.specs.Rows.{Rule, found, find, Slots, Held, rows_there, shape_for, read_shape, inner_of, Act, stay, entry, begin, shut, refuse, act_row, act_found, act}
use Rattle.rules.specs.Figures.{wire_table, wire_text_table, text_table}
use Rattle.rules.specs.Sets.{Edge, Wire, Figure, Set, wire_range, wires_of, join_digit, known_of, with_records}
use Rattle.rules.specs.Machine.{Line, in_layer, State, placing, wire_block, unlimited}
use Rattle.rules.specs.LineByLine.{step_in}
use Rattle.rules.specs.Wires.{joins_ends, last_edge, join_of, joined, is_element_row, on_element, on_attribute, with_element, with_groups, wire_full, nums_alike, new_number, with_attribute, on_wire_act}
use Rattle.rules.specs.RecordTable.{numbers, put_slots, rule_at, edge_record, kind_edge}
use Rattle.rules.proofs.Chains.{clash, never, map-got}
use Rattle.rules.proofs.Rows.{found-row, row_at, row_below, row-did}
use Rattle.entries.specs.Names.{known_in}
use Rattle.account.specs.declared.Now.{Now}
use Rattle.account.specs.declared.Where.{Where}
use Rattle.account.specs.declared.Step.{Step}
use Rattle.account.specs.declared.Step.TheVariants as S
use Rattle.account.specs.Placing.{fills}
use Rattle.account.specs.Records.{part_at, with_part}
use Rattle.account.specs.Points.{more_points}
use Rattle.account.specs.PlacedLines.{Lent, lent}
use Rattle.account.specs.WireLines.{front_read, join_holds, element_put, past_now, group_agrees, shelved, shelf_of, count_at, front_step, EntryRecords, FrontRecords, FrontLine, full_at}
use Rattle.account.proofs.PlacedLaws.{read-row}
use Rattle.account.proofs.RowsTaken.{Taken, entry-taken}
use Rattle.standing.specs.SoFar.{volume_of, former_numbers, wire_so_far, writing_record, empty_record}
use Rattle.standing.specs.Kept.{Scratch}
use Rattle.standing.specs.Standing.{Desk, desk, InRead, Stands, Counted, LineHere, StepOut}
use Rattle.standing.proofs.LineOrigins.{From, is_values, entry-from, begin-from, entry-nums}
use Rattle.standing.proofs.LineSizes.{read-shut}
use Rattle.standing.proofs.Openers.{plain_kind}
use Rattle.standing.proofs.RowOpeners.{begin-row}
use Rattle.standing.proofs.Completing.{goes-still, goes_filling, completed-line, number_same}
use Rattle.standing.proofs.WireCells.{spelled, once_slots, once_of, GroupLine, no-direc, no-piend, no-num, a-direc, a-piend, a-num, direc-put, piend-put, num-put, num-agrees, counts-at}
use Rattle.standing.proofs.WireParts.{direcs_of, piends_of, nums_in, slot_of, own-slots, cells_of, so-far-cells}
use Rattle.standing.proofs.WireScratch.{wire_scratch, wire-scratch, scratch-wire, Filled, filled, edge_of, edge_scratch, element-holds, element-put}
use Rattle.standing.proofs.WireKept.{edge-long, edge-fills}
use Rattle.standing.proofs.Standings.{stands_on, known, stands-still}
use Rattle.standing.proofs.HomeFacts.{home-owner, home-volume, home-on, home_stays}

-- ── what is computed of a wire's table ──
pub ten-rows : length wire_table ≡ 10
unfolding wire_table
ten-rows = refl

-- the rows of elements and of keys that repeat hold values, and are never empty
front-values : (j : ℕ) → j < 5 → (is_values (rule_at wire_table j).holds ≡ true) × ((rule_at wire_table j).may ≡ false)
unfolding wire_table
front-values zero h = (refl, refl)
front-values (suc zero) h = (refl, refl)
front-values (suc (suc zero)) h = (refl, refl)
front-values (suc (suc (suc zero))) h = (refl, refl)
front-values (suc (suc (suc (suc zero)))) h = (refl, refl)
front-values (suc (suc (suc (suc (suc j))))) h = absurd (omega (arith, h))

front-plain : (j : ℕ) → j < 5 → plain_kind (rule_at wire_table j).holds ≡ true
unfolding wire_table
front-plain zero h = refl
front-plain (suc zero) h = refl
front-plain (suc (suc zero)) h = refl
front-plain (suc (suc (suc zero))) h = refl
front-plain (suc (suc (suc (suc zero)))) h = refl
front-plain (suc (suc (suc (suc (suc j))))) h = absurd (omega (arith, h))

-- a row's numbers are all there, or none is
direc-filled : (v : List Num) → fills (rule_at wire_table 2).holds (numbers (nums v)) ≡ true → GroupLine 2 v
unfolding wire_table
direc-filled [] q = no-direc
direc-filled (a ∷ []) q = absurd (omega (arith, eqb-true 1 4 q))
direc-filled (a ∷ b ∷ []) q = absurd (omega (arith, eqb-true 2 4 q))
direc-filled (a ∷ b ∷ c ∷ []) q = absurd (omega (arith, eqb-true 3 4 q))
direc-filled (a ∷ b ∷ c ∷ d ∷ []) q = a-direc a b c d
direc-filled (a ∷ b ∷ c ∷ d ∷ e ∷ v) q = absurd (omega (arith, eqb-true (length (numbers (nums (a ∷ b ∷ c ∷ d ∷ e ∷ v)))) 4 q))

piend-filled : (v : List Num) → fills (rule_at wire_table 3).holds (numbers (nums v)) ≡ true → GroupLine 3 v
unfolding wire_table
piend-filled [] q = no-piend
piend-filled (a ∷ []) q = absurd (omega (arith, eqb-true 1 3 q))
piend-filled (a ∷ b ∷ []) q = absurd (omega (arith, eqb-true 2 3 q))
piend-filled (a ∷ b ∷ c ∷ []) q = a-piend a b c
piend-filled (a ∷ b ∷ c ∷ d ∷ v) q = absurd (omega (arith, eqb-true (length (numbers (nums (a ∷ b ∷ c ∷ d ∷ v)))) 3 q))

num-filled : (v : List Num) → fills (rule_at wire_table 4).holds (numbers (nums v)) ≡ true → GroupLine 4 v
unfolding wire_table
num-filled [] q = no-num
num-filled (a ∷ []) q = absurd (omega (arith, eqb-true 1 5 q))
num-filled (a ∷ b ∷ []) q = absurd (omega (arith, eqb-true 2 5 q))
num-filled (a ∷ b ∷ c ∷ []) q = absurd (omega (arith, eqb-true 3 5 q))
num-filled (a ∷ b ∷ c ∷ d ∷ []) q = absurd (omega (arith, eqb-true 4 5 q))
num-filled (a ∷ b ∷ c ∷ d ∷ e ∷ []) q = a-num a b c d e
num-filled (a ∷ b ∷ c ∷ d ∷ e ∷ f ∷ v) q = absurd (omega (arith, eqb-true (length (numbers (nums (a ∷ b ∷ c ∷ d ∷ e ∷ f ∷ v)))) 5 q))

-- the row of an opener is the one whose line it is
pub begin-at : (k : Known) (g : Digits) (full : Bool) (row : ℕ) (rule : Rule) (rest : Rest) (i j : ℕ) (v : Value) → act_row k g full row rule rest ≡ begin i j v → j ≡ row
begin-at k g full row rule rest i j v a = go (shape_for rule rest) (row-did k g full row rule rest (begin i j v) refl a).read
  where
    go : (s : Shape) → read_shape k row rule s ≡ got (begin i j v) → j ≡ row
    go opener e = cc
    go no_content e = absurd (let q : ◌≡◌ {A = ℕ} 0 1 = cc in omega arith)
    go (content at c) e = let m = map-got (entry row) (read_kind k rule.holds at c) (begin i j v) e in absurd (let q = m.2 in let y : ◌≡◌ {A = ℕ} 0 1 = cc in omega arith)
    go (opening at c) e = let m = map-got (begin (inner_of rule.holds) row) (read_kind k rule.holds at c) (begin i j v) e in let q = m.2 in cc
    go formless e = never e

-- ── the last element ──
last_more : (es : List Edge) (e : Edge) → last_edge (es ++ e ∷ []) ≡ Some e
last_more [] e = refl
last_more (f ∷ []) e = refl
last_more (f ∷ g ∷ es) e = last_more (g ∷ es) e

-- ── a wire's desk: what a line is lent, and the scratch ──
abbrev pub lent_by : Desk → Lent
lent_by d = lent d.tally d.serials d.marks d.inner

abbrev pub wire_desk : Desk → Lent → List ℤ → Desk
wire_desk d x t = desk d.now x.tally d.symbols d.layers x.serials d.used d.used_all x.marks x.inner d.header t

module _ (c : Class) (spool : List ℕ) (k : ℕ) (FileHere : Desk → Set → ℕ → Held → ℕ → Type 0) (d : Desk) (at to own : ℕ) (l : Line) (w : Where) (form : LineForm)
    (x : LineHere spool k at to form w l) (s : Set) (m : ℕ) (fs : List Figure) (n : ℕ) (wire : Wire) (z : Stands c spool k d (FileHere d) at (placing s m fs n (wire_block wire) 0)) where
  abbrev pub st : State
  st = placing s m fs n (wire_block wire) 0

  abbrev pub es : List Edge
  es = wire.elements

  pub inr : InRead spool k d.now d.marks d.inner s m fs wire 0
  inr = z.block.1

  pub later : at ≤ to
  later = omega (arith, x.bytes)

  abbrev pub former : Option Edge
  former = last_edge es

  abbrev pub volume : ℕ
  volume = volume_of s

  -- ── the scratch ──
  abbrev pub cells : List ℤ
  cells = cells_of s m n wire inr.slots inr.repeats inr.groups

  nothing_open : writing_record wire ≡ empty_record
  unfolding text_table
  nothing_open = ap (λ (u : Slots). writing_of u) (inr.shut refl)
    where
      writing_of : Slots → List ℤ
      writing_of u = put_slots wire_text_table u empty_record

  pub before : d.scratch ≡ wire_scratch empty_record former cells
  before =
      wire-scratch d.scratch s m fs n wire 0 z.scratch ∙ ap (λ (u : List ℤ). u ++ wire_so_far s m n wire 0) nothing_open
      ∙ ap (λ (u : List ℤ). empty_record ++ u) (so-far-cells s m n wire inr.slots inr.repeats inr.groups 0)

  -- the scratch of a wire with nothing open, by its cells
  pub after : (ks : List ℕ) (v : Wire) (a : length v.own ≡ 10) (b : take 6 v.own ≡ replicate 6 None) (e : length v.groups ≡ 3) → v.writing ≡ [] → (t : List ℤ)
      → t ≡ wire_scratch empty_record (last_edge v.elements) (cells_of s m n v a b e) → Scratch t (placing (with_records ks s) m fs n (wire_block v) 0)
  unfolding text_table
  after ks v a b e q t p =
      scratch-wire (with_records ks s) m fs n v 0 t
      (p ∙ ap (λ (u : List ℤ). empty_record ++ u) (sym (so-far-cells s m n v a b e 0))
      ∙ ap (λ (u : Slots). put_slots wire_text_table u empty_record ++ wire_so_far s m n v 0) (sym q))

  pub still : (v : Wire) (a : length v.own ≡ 10) (b : take 6 v.own ≡ replicate 6 None) (e : length v.groups ≡ 3) → v.writing ≡ [] → (t : List ℤ)
      → t ≡ wire_scratch empty_record (last_edge v.elements) (cells_of s m n v a b e) → Scratch t (placing s m fs n (wire_block v) 0)
  unfolding text_table
  still v a b e q t p =
      scratch-wire s m fs n v 0 t
      (p ∙ ap (λ (u : List ℤ). empty_record ++ u) (sym (so-far-cells s m n v a b e 0))
      ∙ ap (λ (u : Slots). put_slots wire_text_table u empty_record ++ wire_so_far s m n v 0) (sym q))

  pub cells-long : length cells ≡ 64
  cells-long = refl

  pub owner-is : d.now.owner ≡ m
  owner-is = home-owner spool k d.now d.marks d.inner s (in_layer m) inr.wire.home

  pub volume-is : w.volume ≡ volume
  volume-is = x.volume ∙ home-volume spool k d.now d.marks d.inner s (in_layer m) inr.wire.home

  no-former : get_or cells 62 (pos 0) ≡ pos 0
  unfolding wire_table
  no-former = refl

  abbrev pub ends : Bool
  ends = joins_ends (join_digit s)

  -- ── an element ──
  module _ (j : ℕ) (vs : List Num) (full : Filled j vs) (t₁ : List ℤ) where
    abbrev read : List ℤ
    read = front_read j (nums vs) d.scratch

    read_is : read ≡ front_read j (nums vs) (wire_scratch empty_record former cells)
    read_is = ap (front_read j (nums vs)) before

    pub holds-is : join_holds ends j read ≡ joined ends former j vs
    holds-is = ap (join_holds ends j) read_is ∙ element-holds m volume cells cells-long no-former ends j vs former full

    abbrev pub edge : Edge
    edge = edge_of l.line j vs (join_of ends former j)

    abbrev pub ks : List ℕ
    ks = (kind_edge + j) ∷ []

    abbrev pub st₁ : State
    st₁ = placing (with_records ks s) m fs n (wire_block (with_element wire edge)) 0

    pub on-element : wire.past ≡ false → Counted c own d st → step_in (unlimited c) l st ≡ got st₁ → t₁ ≡ element_put ends d.now w j read
        → StepOut c spool k FileHere own l to st (wire_desk d (lent_by d) t₁) (S.Go (more_points d.now))
    on-element fresh y step p =
        let now : Now = more_points d.now in
        let put : t₁ ≡ edge_scratch m volume edge cells =
        p ∙ ap (element_put ends d.now w j) read_is ∙ element-put m volume cells cells-long no-former ends d.now w l.line j vs former full owner-is volume-is x.line in
        let two : List ℤ = former_numbers (Some edge) cells in
        let long : length (edge_record m volume edge) ≡ 32 = edge-long m volume edge in
        let there : part_at 0 t₁ ≡ edge_record m volume edge = ap (take 32) put ∙ take_at (edge_record m volume edge) two 32 long in
        let cleared : with_part 0 empty_record t₁ ≡ wire_scratch empty_record (Some edge) cells =
        ap (λ (u : List ℤ). empty_record ++ u) (ap (drop 32) put ∙ drop_at (edge_record m volume edge) two 32 long) in
        goes_filling c spool k FileHere own l to st (wire_desk d (lent_by d) t₁) now st₁ step 0 d.now.records
        (completed-line d.now now 12 0 z.block.0 refl z.block.0 refl) (number_same d.now now own refl) 1 refl refl
        (edge-fills c s ks m fs n wire edge d.now.records y.size t₁ there)
        (stands_on c spool k FileHere d at to st st₁ z now d.marks d.inner (with_part 0 empty_record t₁) refl z.lengths.marks z.lengths.inner
        (after ks (with_element wire edge) inr.slots inr.repeats inr.groups (inr.shut refl) (with_part 0 empty_record t₁)
        (cleared ∙ ap (λ (o : Option Edge). wire_scratch empty_record o cells) (sym (last_more es edge))))
        (omega (arith, z.counted, x.bytes, length-append es (edge ∷ []))) (omega (arith, z.named, later)) (omega (arith, z.numbered, later)) (
          z.block.0,
          record {
            wire = record {
              home = home-on spool k d.now now d.marks d.inner d.inner s ks (in_layer m) refl refl inr.wire.home;
              figures = inr.wire.figures;
              part = inr.wire.part;
              points = ap (λ (i : ℕ). i + 1) inr.wire.points ∙ sym (length-append es (edge ∷ []));
            };
            parts = inr.parts;
            slots = inr.slots;
            marked = inr.marked;
            repeats = inr.repeats;
            groups = inr.groups;
            shut = inr.shut;
            writes = λ e. absurd (omega (arith, e));
          },
        ))

  -- ── a key that repeats ──
  -- i: its number among the three
  module _ (i : ℕ) (few : i < 3) (vs : List Num) (t₁ : List ℤ) where
    abbrev pub gs : List (List (List Num))
    gs = set wire.groups i (get_or wire.groups i [] ++ vs ∷ [])

    abbrev pub grown : Wire
    grown = with_groups gs wire

    abbrev pub st₂ : State
    st₂ = placing s m fs n (wire_block grown) 0

    pub gs-three : length gs ≡ 3
    gs-three = length-set wire.groups i (get_or wire.groups i [] ++ vs ∷ []) ∙ inr.groups

    -- one line more in all
    one_more : total length gs ≡ total length wire.groups + 1
    one_more = go wire.groups i (omega (arith, few, inr.groups))
      where
        go : (u : List (List (List Num))) (i : ℕ) → i < length u → total length (set u i (get_or u i [] ++ vs ∷ [])) ≡ total length u + 1
        go [] i h = absurd (omega (arith, h))
        go (g ∷ u) zero h = omega (arith, length-append g (vs ∷ []))
        go (g ∷ u) (suc i) h = omega (arith, go u i (omega (arith, h)))

    pub on-group : (t₁ ≡ wire_scratch empty_record former (cells_of s m n grown inr.slots inr.repeats gs-three)) → step_in (unlimited c) l st ≡ got st₂
        → StepOut c spool k FileHere own l to st (wire_desk d (lent_by d) t₁) (S.Go (past_now d.now))
    on-group put step =
        let now : Now = past_now d.now in
        goes-still c spool k FileHere own l to st (wire_desk d (lent_by d) t₁) now st₂ step z.block.0 refl refl refl
        (stands_on c spool k FileHere d at to st st₂ z now d.marks d.inner t₁ refl z.lengths.marks z.lengths.inner
        (still grown inr.slots inr.repeats gs-three (inr.shut refl) t₁ put)
        (omega (arith, z.counted, x.bytes, one_more)) (omega (arith, z.named, later)) (omega (arith, z.numbered, later)) (
          refl,
          record {
            wire = record {
              home = home_stays spool k d.now now d.marks d.inner d.inner s (in_layer m) refl refl inr.wire.home;
              figures = inr.wire.figures;
              part = refl;
              points = inr.wire.points;
            };
            parts = inr.parts;
            slots = inr.slots;
            marked = inr.marked;
            repeats = inr.repeats;
            groups = gs-three;
            shut = inr.shut;
            writes = λ e. absurd (omega (arith, e));
          },
        ))

  -- the cells of a wire with one line more of a key
  abbrev cells_by : List (List Num) → List (List Num) → List (List Num) → List ℤ
  cells_by g₀ g₁ g₂ = spelled g₀ g₁ g₂ wire.texts (once_of m volume n (slot_of 6 wire) (slot_of 7 wire) (slot_of 8 wire) (slot_of 9 wire))

  same_at : (i j : ℕ) (vs : List Num) → (j ≡ i → ⊥) → get_or wire.groups j [] ≡ get_or (set wire.groups i (get_or wire.groups i [] ++ vs ∷ [])) j []
  same_at i j vs h = sym (get_or-set_other wire.groups i j (get_or wire.groups i [] ++ vs ∷ []) [] h)

  more-at : (i : ℕ) (vs : List Num) → i < 3 → get_or wire.groups i [] ++ vs ∷ [] ≡ get_or (set wire.groups i (get_or wire.groups i [] ++ vs ∷ [])) i []
  more-at i vs h = sym (get_or-set_same wire.groups i (get_or wire.groups i [] ++ vs ∷ []) [] (omega (arith, h, inr.groups)))

  abbrev scratch_by : List (List Num) → List (List Num) → List (List Num) → List ℤ
  scratch_by g₀ g₁ g₂ = wire_scratch empty_record former (cells_by g₀ g₁ g₂)

  group-shelved : (j : ℕ) (vs : List Num) → GroupLine j vs → (i : ℕ) → j ≡ suc (suc i) → (few : i < 3)
      → shelved 0 (shelf_of j) (front_read j (nums vs) d.scratch) ≡ wire_scratch empty_record former (cells_of s m n (grown i few vs d.scratch) inr.slots inr.repeats (gs-three i few vs d.scratch))
  group-shelved j vs g i e few = ap (λ (u : List ℤ). shelved 0 (shelf_of j) (front_read j (nums vs) u)) before ∙ go j vs g i e few
    where
      direc : (vs : List Num) → GroupLine 2 vs → (few : 0 < 3) → shelved 0 (shelf_of 2) (front_read 2 (nums vs) (wire_scratch empty_record former cells))
          ≡ wire_scratch empty_record former (cells_of s m n (grown 0 few vs d.scratch) inr.slots inr.repeats (gs-three 0 few vs d.scratch))
      direc vs g few =
          direc-put (direcs_of wire) (piends_of wire) (nums_in wire) wire.texts (once_of m volume n (slot_of 6 wire) (slot_of 7 wire) (slot_of 8 wire) (slot_of 9 wire)) former vs g
          ∙ ap (λ (u : List (List Num)). scratch_by u (piends_of wire) (nums_in wire)) (more-at 0 vs few)
          ∙ ap (λ (u : List (List Num)). scratch_by (get_or (set wire.groups 0 (get_or wire.groups 0 [] ++ vs ∷ [])) 0 []) u (nums_in wire)) (same_at 0 1 vs (λ e. omega (arith, e)))
          ∙ ap (λ (u : List (List Num)). scratch_by (get_or (set wire.groups 0 (get_or wire.groups 0 [] ++ vs ∷ [])) 0 []) (get_or (set wire.groups 0 (get_or wire.groups 0 [] ++ vs ∷ [])) 1 []) u) (same_at 0 2 vs (λ e. omega (arith, e)))

      piend : (vs : List Num) → GroupLine 3 vs → (few : 1 < 3) → shelved 0 (shelf_of 3) (front_read 3 (nums vs) (wire_scratch empty_record former cells))
          ≡ wire_scratch empty_record former (cells_of s m n (grown 1 few vs d.scratch) inr.slots inr.repeats (gs-three 1 few vs d.scratch))
      piend vs g few =
          piend-put (direcs_of wire) (piends_of wire) (nums_in wire) wire.texts (once_of m volume n (slot_of 6 wire) (slot_of 7 wire) (slot_of 8 wire) (slot_of 9 wire)) former vs g
          ∙ ap (λ (u : List (List Num)). scratch_by u (piends_of wire ++ vs ∷ []) (nums_in wire)) (same_at 1 0 vs (λ e. omega (arith, e)))
          ∙ ap (λ (u : List (List Num)). scratch_by (get_or (set wire.groups 1 (get_or wire.groups 1 [] ++ vs ∷ [])) 0 []) u (nums_in wire)) (more-at 1 vs few)
          ∙ ap (λ (u : List (List Num)). scratch_by (get_or (set wire.groups 1 (get_or wire.groups 1 [] ++ vs ∷ [])) 0 []) (get_or (set wire.groups 1 (get_or wire.groups 1 [] ++ vs ∷ [])) 1 []) u) (same_at 1 2 vs (λ e. omega (arith, e)))

      numb : (vs : List Num) → GroupLine 4 vs → (few : 2 < 3) → shelved 0 (shelf_of 4) (front_read 4 (nums vs) (wire_scratch empty_record former cells))
          ≡ wire_scratch empty_record former (cells_of s m n (grown 2 few vs d.scratch) inr.slots inr.repeats (gs-three 2 few vs d.scratch))
      numb vs g few =
          num-put (direcs_of wire) (piends_of wire) (nums_in wire) wire.texts (once_of m volume n (slot_of 6 wire) (slot_of 7 wire) (slot_of 8 wire) (slot_of 9 wire)) former vs g
          ∙ ap (λ (u : List (List Num)). scratch_by u (piends_of wire) (nums_in wire ++ vs ∷ [])) (same_at 2 0 vs (λ e. omega (arith, e)))
          ∙ ap (λ (u : List (List Num)). scratch_by (get_or (set wire.groups 2 (get_or wire.groups 2 [] ++ vs ∷ [])) 0 []) u (nums_in wire ++ vs ∷ [])) (same_at 2 1 vs (λ e. omega (arith, e)))
          ∙ ap (λ (u : List (List Num)). scratch_by (get_or (set wire.groups 2 (get_or wire.groups 2 [] ++ vs ∷ [])) 0 []) (get_or (set wire.groups 2 (get_or wire.groups 2 [] ++ vs ∷ [])) 1 []) u) (more-at 2 vs few)

      go : (j : ℕ) (vs : List Num) → GroupLine j vs → (i : ℕ) → j ≡ suc (suc i) → (few : i < 3)
          → shelved 0 (shelf_of j) (front_read j (nums vs) (wire_scratch empty_record former cells))
          ≡ wire_scratch empty_record former (cells_of s m n (grown i few vs d.scratch) inr.slots inr.repeats (gs-three i few vs d.scratch))
      go j vs g zero e few =
          ap (λ (i : ℕ). shelved 0 (shelf_of i) (front_read i (nums vs) (wire_scratch empty_record former cells))) e ∙ direc vs (subst (λ (i : ℕ). GroupLine i vs) e g) few
      go j vs g (suc zero) e few =
          ap (λ (i : ℕ). shelved 0 (shelf_of i) (front_read i (nums vs) (wire_scratch empty_record former cells))) e ∙ piend vs (subst (λ (i : ℕ). GroupLine i vs) e g) few
      go j vs g (suc (suc zero)) e few =
          ap (λ (i : ℕ). shelved 0 (shelf_of i) (front_read i (nums vs) (wire_scratch empty_record former cells))) e ∙ numb vs (subst (λ (i : ℕ). GroupLine i vs) e g) few
      go j vs g (suc (suc (suc i))) e few = absurd (omega (arith, few))

  -- "all with equal earth and power"
  pub agrees-is : (vs : List Num) → GroupLine 4 vs → group_agrees 4 (front_read 4 (nums vs) d.scratch) ≡ nums_alike wire 4 vs
  agrees-is vs g =
      ap (λ (u : List ℤ). group_agrees 4 (front_read 4 (nums vs) u)) before
      ∙ num-agrees (direcs_of wire) (piends_of wire) (nums_in wire) wire.texts (once_of m volume n (slot_of 6 wire) (slot_of 7 wire) (slot_of 8 wire) (slot_of 9 wire)) former vs g

  -- ── the rows that may take no more ──
  direc-count : count_at 38 d.scratch ≡ length (direcs_of wire)
  direc-count =
      ap (λ (u : List ℤ). nat_abs (get_or u 38 (pos 0))) before
      ∙ ap nat_abs (counts-at (direcs_of wire) (piends_of wire) (nums_in wire) wire.texts (once_of m volume n (slot_of 6 wire) (slot_of 7 wire) (slot_of 8 wire) (slot_of 9 wire)) empty_record former refl).0

  abbrev full_by : Bool → Slots → ℕ → Bool
  full_by b o j = get_or (false ∷ false ∷ b ∷ false ∷ false ∷ drop 5 (rows_there o)) j false

  full-slots : (o₆ o₇ o₈ o₉ : Option Value) (b : Bool) (j : ℕ) → j < 10 → cond (eqb j 2) b (get_or (rows_there (once_slots o₆ o₇ o₈ o₉)) j false) ≡ full_by b (once_slots o₆ o₇ o₈ o₉) j
  full-slots o₆ o₇ o₈ o₉ b zero h = refl
  full-slots o₆ o₇ o₈ o₉ b (suc zero) h = refl
  full-slots o₆ o₇ o₈ o₉ b (suc (suc zero)) h = refl
  full-slots o₆ o₇ o₈ o₉ b (suc (suc (suc zero))) h = refl
  full-slots o₆ o₇ o₈ o₉ b (suc (suc (suc (suc zero)))) h = refl
  full-slots o₆ o₇ o₈ o₉ b (suc (suc (suc (suc (suc zero))))) h = refl
  full-slots o₆ o₇ o₈ o₉ b (suc (suc (suc (suc (suc (suc zero)))))) h = refl
  full-slots o₆ o₇ o₈ o₉ b (suc (suc (suc (suc (suc (suc (suc zero))))))) h = refl
  full-slots o₆ o₇ o₈ o₉ b (suc (suc (suc (suc (suc (suc (suc (suc zero)))))))) h = refl
  full-slots o₆ o₇ o₈ o₉ b (suc (suc (suc (suc (suc (suc (suc (suc (suc zero))))))))) h = refl
  full-slots o₆ o₇ o₈ o₉ b (suc (suc (suc (suc (suc (suc (suc (suc (suc (suc j)))))))))) h = absurd (omega (arith, h))

  pub full_is : (j : ℕ) → j < 10 → full_at d.marks d.scratch j ≡ get_or (wire_full wire) j false
  full_is j h =
      ap (λ (i : ℕ). cond (eqb j 2) (leb 2 i) (get_or d.marks j false)) direc-count
      ∙ ap (cond (eqb j 2) (leb 2 (length (direcs_of wire)))) (sym (get_or-take 10 d.marks j false h) ∙ ap (λ (u : List Bool). get_or u j false) inr.marked)
      ∙ ap (λ (o : Slots). cond (eqb j 2) (leb 2 (length (direcs_of wire))) (get_or (rows_there o) j false)) (own-slots s m n wire inr.slots inr.repeats inr.groups)
      ∙ full-slots (slot_of 6 wire) (slot_of 7 wire) (slot_of 8 wire) (slot_of 9 wire) (leb 2 (length (direcs_of wire))) j h
      ∙ ap (λ (o : Slots). full_by (leb 2 (length (direcs_of wire))) o j) (sym (own-slots s m n wire inr.slots inr.repeats inr.groups))

  -- ── a row's line ──
  module _ (key : List ℕ) (rest : Rest) (row : ℕ) (rule : Rule) (keyed-so : l.form ≡ keyed key rest) (place : find key wire_table ≡ found row rule) where
    -- what the definitions do, and what the code goes by
    abbrev pub did : Act
    did = act_row (known_of s) (wires_of s) (get_or (wire_full wire) row false) row rule rest

    abbrev pub row_act : Act
    row_act =
        act_row (known_in spool (take (get_or d.tally 9 0) d.symbols) (take (get_or d.tally 10 0) d.layers)) (digits_of (get_or d.tally 12 0)) (full_at d.marks d.scratch row) row rule rest

    pub below : row < 10
    below = omega (arith, row_below (found-row key wire_table row rule place).0, ten-rows)

    pub row-act : row_act ≡ did
    row-act =
        ap (λ (y : Known). act_row y (digits_of (get_or d.tally 12 0)) (full_at d.marks d.scratch row) row rule rest) (known c spool k FileHere d at to st st z refl)
        ∙ ap (λ (y : ℕ). act_row (known_of s) (digits_of y) (full_at d.marks d.scratch row) row rule rest) (ap (λ (u : List ℕ). get_or u 12 0) z.tally)
        ∙ ap (λ (y : Bool). act_row (known_of s) (wires_of s) y row rule rest) (full_is row below)

    pub whole : act (known_of s) wire_table (wires_of s) (wire_full wire) l.form ≡ did
    whole = ap (act (known_of s) wire_table (wires_of s) (wire_full wire)) keyed-so ∙ ap (act_found (known_of s) (wires_of s) (wire_full wire) rest) place

    module _ (front : row < 5) (fresh : is_element_row row ≡ true → wire.past ≡ false) (h : step_in (unlimited c) l st ≡ on_wire_act (unlimited c) l s m fs n wire did) (y : Counted c own d st) (t₁ : List ℤ) where
      abbrev Out : Step → Type 0
      Out r = StepOut c spool k FileHere own l to st (wire_desk d (lent_by d) t₁) r

      -- ── a line entered ──
      module _ (i : ℕ) (v : Value) (a : did ≡ entry i v) where
        from : From (known_of s) wire_table (wires_of s) (wire_full wire) l.form i (entry i v)
        from = entry-from (known_of s) wire_table (wires_of s) (wire_full wire) l.form i v (whole ∙ a)

        taken : Taken wire_table (wire_full wire) i v
        taken = entry-taken (known_of s) wire_table (wires_of s) (wire_full wire) l.form i v (whole ∙ a)

        is_row : i ≡ row
        is_row = sym (read-row (known_of s) row i rule (shape_for rule rest) v (row-did (known_of s) (wires_of s) (get_or (wire_full wire) row false) row rule rest (entry i v) refl a).read)

        abbrev vs : List Num
        vs = nums_of v

        is-rule : rule_at wire_table i ≡ from.rule
        is-rule = row_at from.row _

        is-nums : v ≡ nums vs
        is-nums =
            let f = front-values i (omega (arith, is_row, front)) in
            entry-nums (known_of s) wire_table (wires_of s) (wire_full wire) l.form i v from (ap (λ (r : Rule). is_values r.holds) (sym is-rule) ∙ f.0) (ap (λ (r : Rule). r.may) (sym is-rule) ∙ f.1)

        fill : fills (rule_at wire_table i).holds (numbers (nums vs)) ≡ true
        fill = subst (λ (u : Value). fills (rule_at wire_table i).holds (numbers u) ≡ true) is-nums taken.fill

        read_as : front_read i v d.scratch ≡ front_read i (nums vs) d.scratch
        read_as = ap (λ (u : Value). front_read i u d.scratch) is-nums

        -- an element
        module _ (first : i < 2) where
          full : Filled i vs
          full = filled i vs first fill

          element-row : is_element_row i ≡ true
          element-row = lt-ltb i 2 first

          now-is : (b : Bool) → joined ends former i vs ≡ b → step_in (unlimited c) l st ≡ unless b 11 (got (st₁ i vs full t₁))
          now-is b e =
              h ∙ ap (on_wire_act (unlimited c) l s m fs n wire) a
              ∙ ap (λ (t : Bool). cond t (on_element (unlimited c) l s m fs n wire i vs) (on_attribute s m fs n wire i v)) element-row
              ∙ ap (λ (t : Bool). unless t 11 (got (st₁ i vs full t₁))) e

          on-first : (b : Bool) → join_holds ends i (front_read i v d.scratch) ≡ b → (b ≡ true → t₁ ≡ element_put ends d.now w i (front_read i v d.scratch)) → Out (cond b (S.Go (more_points d.now)) (S.Stop 11))
          on-first true e q =
              on-element i vs full t₁ (fresh (ap is_element_row (sym is_row) ∙ element-row)) y (now-is true (sym (holds-is i vs full t₁) ∙ ap (join_holds ends i) (sym read_as) ∙ e))
              (q refl ∙ ap (element_put ends d.now w i) read_as)
          on-first false e q = now-is false (sym (holds-is i vs full t₁) ∙ ap (join_holds ends i) (sym read_as) ∙ e)

        -- a key that repeats
        group-line : (j : ℕ) → j < 3 → i ≡ suc (suc j) → GroupLine i vs
        group-line zero few e = subst (λ (u : ℕ). GroupLine u vs) (sym e) (direc-filled vs (subst (λ (u : ℕ). fills (rule_at wire_table u).holds (numbers (nums vs)) ≡ true) e fill))
        group-line (suc zero) few e = subst (λ (u : ℕ). GroupLine u vs) (sym e) (piend-filled vs (subst (λ (u : ℕ). fills (rule_at wire_table u).holds (numbers (nums vs)) ≡ true) e fill))
        group-line (suc (suc zero)) few e = subst (λ (u : ℕ). GroupLine u vs) (sym e) (num-filled vs (subst (λ (u : ℕ). fills (rule_at wire_table u).holds (numbers (nums vs)) ≡ true) e fill))
        group-line (suc (suc (suc j))) few e = absurd (omega (arith, few))

        -- j: its number among the three
        module _ (j : ℕ) (few : j < 3) (e : i ≡ suc (suc j)) where
          stepped : (b : Bool) → nums_alike wire i vs ≡ b → step_in (unlimited c) l st ≡ unless b 11 (got (st₂ j few vs t₁))
          stepped b q =
              h ∙ ap (on_wire_act (unlimited c) l s m fs n wire) a
              ∙ ap (λ (t : Bool). cond t (on_element (unlimited c) l s m fs n wire i vs) (on_attribute s m fs n wire i v)) (le-ltb i 2 (omega (arith, e)))
              ∙ ap (λ (t : Bool). unless t 11 (unless (new_number s fs i v) 15 (got (placing s m fs n (wire_block (with_attribute wire i v)) 0)))) q
              ∙ ap (unless b 11) (by j e few)
            where
              by : (j : ℕ) → i ≡ suc (suc j) → (few : j < 3) → unless (new_number s fs i v) 15 (got (placing s m fs n (wire_block (with_attribute wire i v)) 0)) ≡ got (st₂ j few vs t₁)
              by zero e few = ap (λ (u : ℕ). unless (new_number s fs u v) 15 (got (placing s m fs n (wire_block (with_attribute wire u v)) 0))) e
              by (suc zero) e few = ap (λ (u : ℕ). unless (new_number s fs u v) 15 (got (placing s m fs n (wire_block (with_attribute wire u v)) 0))) e
              by (suc (suc zero)) e few = ap (λ (u : ℕ). unless (new_number s fs u v) 15 (got (placing s m fs n (wire_block (with_attribute wire u v)) 0))) e
              by (suc (suc (suc j))) e few = absurd (omega (arith, few))

          alike : group_agrees i (front_read i v d.scratch) ≡ nums_alike wire i vs
          alike = ap (group_agrees i) read_as ∙ by j e few (group-line j few e)
            where
              by : (j : ℕ) → i ≡ suc (suc j) → j < 3 → GroupLine i vs → group_agrees i (front_read i (nums vs) d.scratch) ≡ nums_alike wire i vs
              by zero e few g = rw e
              by (suc zero) e few g = rw e
              by (suc (suc zero)) e few g =
                  ap (λ (u : ℕ). group_agrees u (front_read u (nums vs) d.scratch)) e ∙ agrees-is vs (subst (λ (u : ℕ). GroupLine u vs) e g) ∙ ap (λ (u : ℕ). nums_alike wire u vs) (sym e)
              by (suc (suc (suc j))) e few g = absurd (omega (arith, few))

          on-more : (b : Bool) → group_agrees i (front_read i v d.scratch) ≡ b → (b ≡ true → t₁ ≡ shelved 0 (shelf_of i) (front_read i v d.scratch)) → Out (cond b (S.Go (past_now d.now)) (S.Stop 11))
          on-more true q p =
              on-group j few vs t₁ (p refl ∙ ap (shelved 0 (shelf_of i)) read_as ∙ group-shelved i vs (group-line j few e) j e few) (stepped true (sym alike ∙ q))
          on-more false q p = stepped false (sym alike ∙ q)

        on-entry : EntryRecords (wire_range s) d.now w d.scratch t₁ i v (is_element_row i)
            → Out (cond (is_element_row i) (cond (join_holds ends i (front_read i v d.scratch)) (S.Go (more_points d.now)) (S.Stop 11)) (cond (group_agrees i (front_read i v d.scratch)) (S.Go (past_now d.now)) (S.Stop 11)))
        on-entry q = go i refl q
          where
            at-element : i < 2 → EntryRecords (wire_range s) d.now w d.scratch t₁ i v (is_element_row i)
                → Out (cond (is_element_row i) (cond (join_holds ends i (front_read i v d.scratch)) (S.Go (more_points d.now)) (S.Stop 11)) (cond (group_agrees i (front_read i v d.scratch)) (S.Go (past_now d.now)) (S.Stop 11)))
            at-element f q =
                let e : is_element_row i ≡ true = lt-ltb i 2 f in
                subst (λ (b : Bool). Out (cond b (cond (join_holds ends i (front_read i v d.scratch)) (S.Go (more_points d.now)) (S.Stop 11)) (cond (group_agrees i (front_read i v d.scratch)) (S.Go (past_now d.now)) (S.Stop 11)))) (sym e)
                (on-first f (join_holds ends i (front_read i v d.scratch)) refl (subst (EntryRecords (wire_range s) d.now w d.scratch t₁ i v) e q))

            at-group : (j : ℕ) → j < 3 → i ≡ suc (suc j) → EntryRecords (wire_range s) d.now w d.scratch t₁ i v (is_element_row i)
                → Out (cond (is_element_row i) (cond (join_holds ends i (front_read i v d.scratch)) (S.Go (more_points d.now)) (S.Stop 11)) (cond (group_agrees i (front_read i v d.scratch)) (S.Go (past_now d.now)) (S.Stop 11)))
            at-group j f e q =
                let b : is_element_row i ≡ false = le-ltb i 2 (omega (arith, e)) in
                subst (λ (b : Bool). Out (cond b (cond (join_holds ends i (front_read i v d.scratch)) (S.Go (more_points d.now)) (S.Stop 11)) (cond (group_agrees i (front_read i v d.scratch)) (S.Go (past_now d.now)) (S.Stop 11)))) (sym b)
                (on-more j f e (group_agrees i (front_read i v d.scratch)) refl (subst (EntryRecords (wire_range s) d.now w d.scratch t₁ i v) b q))

            go : (u : ℕ) → i ≡ u → EntryRecords (wire_range s) d.now w d.scratch t₁ i v (is_element_row i)
                → Out (cond (is_element_row i) (cond (join_holds ends i (front_read i v d.scratch)) (S.Go (more_points d.now)) (S.Stop 11)) (cond (group_agrees i (front_read i v d.scratch)) (S.Go (past_now d.now)) (S.Stop 11)))
            go zero e q = at-element (omega (arith, e)) q
            go (suc zero) e q = at-element (omega (arith, e)) q
            go (suc (suc j)) e q = at-group j (omega (arith, e, is_row, front)) e q

      on-stay : did ≡ stay → t₁ ≡ d.scratch → Out (S.Go d.now)
      on-stay a q =
          goes-still c spool k FileHere own l to st (wire_desk d (lent_by d) t₁) d.now st (h ∙ ap (on_wire_act (unlimited c) l s m fs n wire) a) refl refl refl refl
          (stands-still c spool k FileHere d at to st z later d.tally d.marks d.inner d.header t₁ refl refl refl refl q)

      on-begin : (i j : ℕ) (v : Value) → did ≡ begin i j v → Out (S.Stop 5)
      on-begin i j v a =
          let from : From (known_of s) wire_table (wires_of s) (wire_full wire) l.form j (begin i j v) = begin-from (known_of s) wire_table (wires_of s) (wire_full wire) l.form i j v (whole ∙ a) in
          let (opens-so, inner-so) = begin-row (known_of s) wire_table (wires_of s) (wire_full wire) l.form j i v from in
          let is_row : j ≡ row = begin-at (known_of s) (wires_of s) (get_or (wire_full wire) row false) row rule rest i j v a in
          clash (front-plain j (omega (arith, is_row, front))) opens-so

      by-act : (f : Act) → did ≡ f → FrontRecords (wire_range s) d.now w d.scratch t₁ f → Out (front_step ends d.now d.scratch f)
      by-act stay a q = on-stay a q
      by-act (entry i v) a q = on-entry i v a q
      by-act (begin i j v) a q = on-begin i j v a
      by-act shut a q = clash refl (read-shut (known_of s) row rule (shape_for rule rest) shut (row-did (known_of s) (wires_of s) (get_or (wire_full wire) row false) row rule rest shut refl a).read)
      by-act (refuse i) a q = h ∙ ap (on_wire_act (unlimited c) l s m fs n wire) a

      pub front-line : (r : Step) → FrontLine row_act (get_or d.tally 12 0) d.now w d.scratch t₁ r → Out r
      front-line r f =
          let g : FrontLine row_act (wire_range s) d.now w d.scratch t₁ r = subst (λ (i : ℕ). FrontLine row_act i d.now w d.scratch t₁ r) (ap (λ (u : List ℕ). get_or u 12 0) z.tally) f in
          subst Out (sym (g.answer ∙ ap (front_step ends d.now d.scratch) row-act)) (by-act did refl (subst (FrontRecords (wire_range s) d.now w d.scratch t₁) row-act g.records))
