-- A line at the top level: from the code's answer to the step that the definitions make.
use Prim.Native.Nat.{ℕ, zero, suc, ◌+◌, ◌*◌, ◌≤◌, ◌<◌}
use mathlib.Core.Bool.{Bool, true, false, cond, ◌&&◌, not}
use mathlib.Core.List.{List, [], ◌∷◌, ◌++◌, map, append-nil}
use mathlib.Core.Path.{◌≡◌, refl, sym, ◌∙◌, ap, subst}
use native.Mathlib.Omega.{arith}
use borrow.Author.Tests.{eqb-true}
use lib.Dec.{eqb}
use lib.IntN.{ℤ, pos}
use lib.ListN.{length, get_or, take, replicate, length-replicate, get_or-replicate}
use Rattle.rules.specs.declared.Class.{Class}
use Rattle.rules.specs.declared.LineForm.{LineForm}
use Rattle.rules.specs.Base.{all, flat, is_nil, has_number}
use Rattle.rules.specs.RefusalNumbers.{Got, got, bad, unless}
use Rattle.rules.specs.RangeClass.{digits}
use Rattle.rules.specs.Lines.{Rest, Form, ignored, wrong, close, eof, keyed, form_in}
use Rattle.rules.specs.Values.{Known}
use Rattle.rules.specs.Rows.{Rule, blank, rows_there, rows_at_limit, Act, stay, entry, begin, shut, refuse, act}
use Rattle.rules.specs.Blocks.{top_table, file_tables, blank_held, drawing_table}
use Rattle.rules.specs.Sets.{Layer, Drawing, Contents, LayerBlock, Set, is_first, with_records, known_of, used_in}
use Rattle.rules.specs.VolumesAndTotals.{all_used, layers_used, counted_all}
use Rattle.rules.specs.Machine.{Line, State, top, file, drawing, defines, elements, ended, by_act, open_top, on_top, file_kinds, unlimited}
use Rattle.rules.specs.LineByLine.{step_in}
use Rattle.rules.specs.RecordTable.{kind_drawing}
use Rattle.rules.proofs.Chains.{and_left}
use Rattle.tables.specs.Tables.{table_of}
use Rattle.entries.specs.Names.{known_in}
use Rattle.account.specs.declared.Where.{Where}
use Rattle.account.specs.declared.Now.{Now}
use Rattle.account.specs.declared.Step.{Step}
use Rattle.account.specs.declared.Step.TheVariants as S
use Rattle.account.specs.Records.{part_at, with_part}
use Rattle.account.specs.Account.{at_block, head_at}
use Rattle.standing.specs.Kept.{Begins, Enters}
use Rattle.account.specs.SerialNumbers.{bytes_lent, partners_met}
use Rattle.standing.specs.Standing.{Numbers, Desk, Lengths, Bare, First, Stands, LineHere, Counted, StepOut, closed_links, tally_of, links_in, links_of_block}
use Rattle.standing.specs.FileStanding.{InFile}
use Rattle.account.specs.TopLines.{step_of, Answered, all_of, total_of, layers_of, eof_now, TopLent, top_lent, records_taken, unmarked, header_begun, file_takes, opened_now, opened_lent, block_now, key_now, key_lent, top_act, top_now, top_lent_by}
use Rattle.account.proofs.RowsTaken.{begin-taken}
use Rattle.account.proofs.Lent.{with-same}
use Rattle.standing.proofs.Standings.{sight, desk_kept, stands_on, known, first-volume, stands-with, stands-still}
use Rattle.standing.proofs.HeadRecords.{head-put}
use Rattle.standing.proofs.Completing.{completed-by, goes-still, goes_entering, goes-opening}
use Rattle.standing.proofs.OpenersKept.{file-opens, drawing-opens, defines-opens, elements-opens}
use Rattle.standing.proofs.EntriesKept.{eof-enters}
use Rattle.standing.proofs.PartnersMet as partners
use Rattle.standing.proofs.FileOpening.{begun-long, header-same, file-begins}

-- ── what is computed of the tables ──
top-table : table_of 0 ≡ top_table
unfolding table_of
top-table = refl

none-full : replicate 4 false ≡ rows_at_limit 0 top_table
unfolding top_table
none-full = refl

four-rows : length top_table ≡ 4
unfolding top_table
four-rows = refl

blank-drawing : (length (blank drawing_table) ≡ 8) × (take 8 (replicate 28 false) ≡ rows_there (blank drawing_table))
unfolding drawing_table
blank-drawing = (refl, refl)

-- ── the layers in use ──
all-marked : (ls : List (List ℕ)) (n : ℕ) (bs : List Bool) (us : List ℕ) → length ls ≤ length bs → ((j : ℕ) → j < length bs → get_or bs j false ≡ has_number (n + j) us)
    → all_used n ls us ≡ all (λ b. b) (take (length ls) bs)
all-marked [] n bs us h f = refl
all-marked (y ∷ ls) n [] us h f = absurd (omega arith)
all-marked (y ∷ ls) n (b ∷ bs) us h f =
    let e : n + 0 ≡ n = omega arith in
    let first : has_number n us ≡ b = sym (f 0 (omega arith) ∙ ap (λ (i : ℕ). has_number i us) e) in
    let others : all_used (suc n) ls us ≡ all (λ b. b) (take (length ls) bs) =
    all-marked ls (suc n) bs us (omega arith) (λ j q. f (suc j) (omega (arith, q)) ∙ ap (λ (i : ℕ). has_number i us) (up n j)) in
    ap (λ (t : Bool). t && all_used (suc n) ls us) first ∙ ap (λ (t : Bool). b && t) others
  where
    up : (n j : ℕ) → n + suc j ≡ suc n + j
    up n j = omega arith

-- ── a volume of which nothing is read ──
blockless-serials : (s : Set) → s.now.blocks ≡ [] → links_in s ≡ closed_links s
blockless-serials s e = ap (λ (y : List LayerBlock). closed_links s ++ flat (map links_of_block y)) e ∙ append-nil (closed_links s)

blockless-used : (v : Contents) → v.blocks ≡ [] → used_in v ≡ []
blockless-used v e = ap (λ (y : List LayerBlock). map (λ (i : LayerBlock). i.layer) y) e

-- how many records FILE_FORMAT takes
file_takes_lem : (f : Bool) → file_takes f ≡ length (file_kinds f)
file_takes_lem true = refl
file_takes_lem false = refl

-- ── a block opens ──
-- the same things lent, but for those that the line of a block's opening may change
abbrev top_desk : Desk → List Bool → List Bool → List ℤ → List ℤ → Desk
top_desk d marks used header t = record {
  now = d.now;
  tally = d.tally;
  symbols = d.symbols;
  layers = d.layers;
  serials = d.serials;
  used = used;
  used_all = d.used_all;
  marks = marks;
  inner = d.inner;
  header = header;
  scratch = t;
}

abbrev pub desk_top : Desk → TopLent → Desk
desk_top d b = top_desk d b.marks b.used b.header (with_part 0 b.rec d.scratch)

abbrev lent_of : Desk → TopLent
lent_of d = top_lent d.marks d.used d.header (part_at 0 d.scratch)

module _ (c : Class) (spool : List ℕ) (k : ℕ) (d : Desk) (at to own : ℕ) (l : Line) (w : Where) (form : LineForm) (x : LineHere spool k at to form w l) (s : Set) where
  abbrev Stood : ℕ → Type 0
  Stood m = Stands c spool k d (InFile spool k d) at (top s m)

  abbrev From : ℕ → Desk → Step → Type 0
  From m d' r = StepOut c spool k (InFile spool k) own l to (top s m) d' r

  abbrev step_from : ℕ → Got State
  step_from m = step_in (unlimited c) l (top s m)

  -- where the lent record comes back as it was, so does the scratch
  record_same : (m : ℕ) (marks used : List Bool) (header : List ℤ) (r : Step) → From m (top_desk d marks used header d.scratch) r → From m (desk_top d (top_lent marks used header (part_at 0 d.scratch))) r
  record_same m marks used header r o = subst (λ (t : List ℤ). From m (top_desk d marks used header t) r) (sym (with-same 0 d.scratch)) o

  later : at ≤ to
  later = omega (arith, x.bytes)

  unmarked-length : Lengths d → length (unmarked d.marks) ≡ 28
  unmarked-length y = length-replicate (length d.marks) false ∙ y.marks

  unmarked_28 : Lengths d → unmarked d.marks ≡ replicate 28 false
  unmarked_28 y = ap (λ (n : ℕ). replicate n false) y.marks

  -- EOF
  set-ends : Stood 4 → step_from 4 ≡ got (ended s) → From 4 (top_desk d d.marks d.used d.header d.scratch) (S.Go (at_block d.now 15 0))
  set-ends z step =
      let n : Now = at_block d.now 15 0 in
      let entered : Enters c (top s 4) (ended s) d.scratch = eof-enters c s d.scratch z.scratch in
      goes_entering c spool k (InFile spool k) own l to (top s 4) (top_desk d d.marks d.used d.header d.scratch) n (ended s) step (completed-by d.now n 0 15 z.block.0 refl) refl refl
      entered.same
      (stands_on c spool k (InFile spool k) d at to (top s 4) (ended s) z n d.marks d.inner d.scratch refl z.lengths.marks z.lengths.inner entered.scratch
      (omega (arith, z.counted, later)) (omega (arith, z.named, later)) (omega (arith, z.numbered, later)) refl)

  -- SYMBOL_DEFINE
  defines-begin : Stood 2 → step_from 2 ≡ got (defines s false) → From 2 (top_desk d d.marks d.used d.header d.scratch) (S.Go (at_block d.now 4 0))
  defines-begin z step =
      let n : Now = at_block d.now 4 0 in
      let entered : Enters c (top s 2) (defines s false) d.scratch = defines-opens c s d.scratch z.block.2.1 z.scratch in
      goes_entering c spool k (InFile spool k) own l to (top s 2) (top_desk d d.marks d.used d.header d.scratch) n (defines s false) step (completed-by d.now n 0 4 z.block.0 refl)
      refl refl entered.same
      (stands_on c spool k (InFile spool k) d at to (top s 2) (defines s false) z n d.marks d.inner d.scratch refl z.lengths.marks z.lengths.inner entered.scratch
      (omega (arith, z.counted, later)) (omega (arith, z.named, later)) (omega (arith, z.numbered, later)) (refl, refl, z.block.2.0))

  -- ELEMENT
  elements-begin : Stood 3 → step_from 3 ≡ got (elements s) → From 3 (top_desk d d.marks (unmarked d.used) d.header d.scratch) (S.Go (at_block d.now 7 0))
  elements-begin z step =
      let n : Now = at_block d.now 7 0 in
      let none : s.now.blocks ≡ [] = z.block.2.1 in
      let serial : closed_links s ≡ links_in s = sym (blockless-serials s none) in
      let entered : Enters c (top s 3) (elements s) d.scratch = elements-opens c s d.scratch none z.scratch in
      goes_entering c spool k (InFile spool k) own l to (top s 3) (top_desk d d.marks (unmarked d.used) d.header d.scratch) n (elements s) step
      (completed-by d.now n 0 7 z.block.0 refl) refl refl entered.same
      (record {
        lengths = record {
          symbols = z.lengths.symbols;
          layers = z.lengths.layers;
          serials = z.lengths.serials;
          used = length-replicate (length d.used) false ∙ z.lengths.used;
          used_all = z.lengths.used_all;
          marks = z.lengths.marks;
          inner = z.lengths.inner;
          header = z.lengths.header;
          scratch = z.lengths.scratch;
        };
        scratch = entered.scratch;
        here = z.here;
        this = z.this;
        tally = z.tally ∙ ap (λ (y : List (List ℕ)). tally_of s z.here (length s.drawing.layers) (length y)) serial;
        symbols = z.symbols;
        layers = z.layers;
        few-layers = z.few-layers;
        serials = subst (λ (y : List (List ℕ)). Numbers spool (take (length y) d.serials) y) serial z.serials;
        used = λ _ j h. get_or-replicate (length d.used) j false false (omega (arith, h, z.lengths.used)) ∙ ap (has_number j) (sym (blockless-used s.now none));
        used_all = λ j h. z.used_all j h ∙ ap (λ (y : List ℕ). has_number j (flat (map used_in s.volumes) ++ y)) (sym (blockless-used s.now none));
        counted = omega (arith, z.counted, later);
        named = omega (arith, z.named, later);
        numbered = subst (λ (y : List (List ℕ)). 27 * length y + 3 ≤ to + 3 + bytes_lent (take (length y) d.serials)) serial (omega (arith, z.numbered, later));
        block = (refl, z.block.2.0);
      })

  -- DRAWING_FORMAT
  abbrev begun_drawing : Drawing
  begun_drawing = record { line = l.line; own = blank drawing_table; layers = [] }

  drawing-begin : Stood 1 → step_from 1 ≡ got (drawing (with_records (kind_drawing ∷ []) s) begun_drawing)
      → From 1 (desk_top d (top_lent (unmarked d.marks) d.used d.header (head_at 0 3 0 w (part_at 0 d.scratch)))) (S.Go (records_taken d.now 2 1))
  drawing-begin z step =
      let phase : First k s = z.block.2.0 in
      let bare : Bare s = z.block.2.1 in
      let n : Now = records_taken d.now 2 1 in
      let st' : State = drawing (with_records (kind_drawing ∷ []) s) begun_drawing in
      let rec₁ : List ℤ = head_at 0 3 0 w (part_at 0 d.scratch) in
      let t₁ : List ℤ = with_part 0 rec₁ d.scratch in
      let v : sight (top s 1) ≡ sight st' =
      ap (λ (y : List Layer). record { set = (sight st').set; layers = y; serials = closed_links s; used = []; inside = false; counts = true }) bare.layers in
      let begun : Begins c (top s 1) st' 1 t₁ =
      subst (λ (u : List ℤ). Begins c (top s 1) st' 1 (with_part 0 u d.scratch))
      (sym (head-put 3 0 1 l.line w (part_at 0 d.scratch) z.scratch.own (x.volume ∙ phase.volume) x.line)) (drawing-opens c s l.line d.scratch z.scratch) in
      goes-opening c spool k (InFile spool k) own l to (top s 1) (top_desk d (unmarked d.marks) d.used d.header t₁) n st' step (completed-by d.now n 0 2 z.block.0 refl) 1 refl refl
      begun.opens
      (stands_on c spool k (InFile spool k) d at to (top s 1) st' z n (unmarked d.marks) d.inner t₁ v (unmarked-length z.lengths) z.lengths.inner begun.scratch
      (omega (arith, z.counted, later)) (omega (arith, z.named, later)) (omega (arith, z.numbered, later)) (
        refl,
        record {
          phase = record { volume = phase.volume; first = phase.first; blocks = phase.blocks };
          bare = record { layers = bare.layers; symbols = bare.symbols };
          slots = blank-drawing.0;
          marked = ap (take 8) (unmarked_28 z.lengths) ∙ blank-drawing.1;
        },
      ))

  -- FILE_FORMAT
  abbrev begun_file : State
  begun_file = file (with_records (file_kinds (is_first s)) s) l.line (blank_held (file_tables (is_first s))) 0

  file-begin : w.volume < 4294967296 → w.line < 4294967296 → Stood 0 → step_from 0 ≡ got begun_file
      → From 0 (top_desk d (unmarked d.marks) d.used (header_begun (is_first s) w d.header) d.scratch) (S.Go (records_taken d.now 1 (file_takes (is_first s))))
  file-begin fv fl z step =
      let f : Bool = is_first s in
      let s' : Set = with_records (file_kinds f) s in
      let n : Now = records_taken d.now 1 (file_takes f) in
      let ms : List Bool = unmarked d.marks in
      let h₁ : List ℤ = header_begun f w d.header in
      let begun : h₁ ≡ header_begun f w (replicate 71 (pos 0)) = header-same f w d.header z.lengths.header in
      let bare : is_first s' ≡ true → Bare s' = λ q. let y : Bare s = z.block.2.1 q in record { layers = y.layers; symbols = y.symbols } in
      let opened : Begins c (top s 0) begun_file (length (file_kinds f)) d.scratch = file-opens c s l.line d.scratch z.scratch in
      goes-opening c spool k (InFile spool k) own l to (top s 0) (top_desk d ms d.used h₁ d.scratch) n begun_file step (completed-by d.now n 0 1 z.block.0 refl) (length (file_kinds f))
      (ap (λ (i : ℕ). d.now.records + i) (file_takes_lem f)) refl opened.opens
      (stands-with c spool k (InFile spool k) d at to (top s 0) begun_file z n ms d.inner h₁ d.scratch refl (unmarked-length z.lengths) z.lengths.inner (ap length begun ∙ begun-long w f)
      opened.scratch (omega (arith, z.counted, later)) (omega (arith, z.named, later)) (omega (arith, z.numbered, later))
      (refl, file-begins spool k (desk_kept d n d.tally ms d.inner h₁ d.scratch) s' w l.line x.volume x.line fv fl z.block.2.0 bare refl (unmarked_28 z.lengths) begun))

  -- ── a line ──
  module _ (m : ℕ) (z : Stood m) (y : Counted c own d (top s m)) (b : TopLent) (fv : w.volume < 4294967296) (fl : w.line < 4294967296) where
    abbrev st : State
    st = top s m

    abbrev OutOf : ℕ → Step → Type 0
    OutOf i r = From i (desk_top d b) r

    abbrev Out : Step → Type 0
    Out r = OutOf m r

    -- by what is lent on return
    lent_is : (i : ℕ) (b' : TopLent) (n : Now) (r : Step) → Answered (got n) (b ≡ b') r → From i (desk_top d b') (S.Go n) → OutOf i r
    lent_is i b' n r v o = subst (OutOf i) (sym v.answer) (subst (λ (q : TopLent). From i (desk_top d q) (S.Go n)) (sym v.lent) o)

    -- nothing but the place in the spool
    on-stay : step_in (unlimited c) l st ≡ got st → (r : Step) → Answered (got d.now) (b ≡ lent_of d) r → Out r
    on-stay a r v =
        lent_is m (lent_of d) d.now r v
        (record_same m d.marks d.used d.header (S.Go d.now)
        (goes-still c spool k (InFile spool k) own l to st (top_desk d d.marks d.used d.header d.scratch) d.now st a refl refl refl refl
        (stands-still c spool k (InFile spool k) d at to st z later d.tally d.marks d.inner d.header d.scratch refl refl refl refl refl)))

    -- ── EOF ──
    used-layers : layers_used s ≡ all (λ t. t) (take (layers_of d.tally) d.used_all)
    used-layers =
        let us : List ℕ = flat (map used_in s.volumes) in
        let ids : List (List ℕ) = map (λ (y : Layer). y.id) s.drawing.layers in
        let n : length ids ≡ length s.drawing.layers = map-length s.drawing.layers in
        let from_zero : (j : ℕ) → j ≡ 0 + j = λ j. omega arith in
        all-marked ids 0 d.used_all us (omega (arith, n, z.few-layers, z.lengths.used_all))
        (λ j h. z.used_all j (omega (arith, h, z.lengths.used_all)) ∙ ap (has_number j) (append-nil us) ∙ ap (λ (i : ℕ). has_number i us) (from_zero j))
        ∙ ap (λ (i : ℕ). all (λ t. t) (take i d.used_all)) (n ∙ sym (ap (λ (t : List ℕ). get_or t 10 0) z.tally))
      where
        map-length : (ys : List Layer) → length (map (λ (y : Layer). y.id) ys) ≡ length ys
        map-length [] = refl
        map-length (y ∷ ys) = ap suc (map-length ys)

    all-counted : counted_all s ≡ eqb (all_of d.tally) (total_of d.tally)
    all-counted = sym (ap (λ (t : List ℕ). eqb (get_or t 5 0) (get_or t 8 0)) z.tally)

    abbrev ends : Bool
    ends = eqb m 4 && (is_nil l.next && l.last)

    code-ends : (eqb d.now.part 4 && w.ends) ≡ ends
    code-ends = ap (λ (i : ℕ). eqb i 4 && w.ends) z.block.1 ∙ ap (λ (t : Bool). eqb m 4 && t) x.ends

    -- ── then partners ──
    abbrev fails : Bool
    fails = partners.fails c spool k d (InFile spool k d) at s m z

    -- "21, partner not found, at EOF after 17"
    abbrev met : Step → Step
    met y = partners_met c spool d.tally d.serials y

    -- a line that does not end the set
    abbrev ends_set : Step → Bool
    ends_set (S.Go n) = eqb n.block 15
    ends_set (S.Skip n) = false
    ends_set (S.Stop n) = false

    goes_on : (y : Step) → ends_set y ≡ false → Out y → Out (met y)
    goes_on (S.Go n) e o = subst Out (sym (ap (λ (t : Bool). cond (t && fails) (S.Stop 21) (S.Go n)) e)) o
    goes_on (S.Skip n) e o = o
    goes_on (S.Stop n) e o = o

    abbrev ended_now : Now
    ended_now = at_block d.now 15 0

    by-eof : (p q r t : Bool) → ends ≡ p → fails ≡ t → step_in (unlimited c) l st ≡ unless p 9 (unless q 14 (unless r 17 (unless (not t) 21 (got (ended s))))) → (y : Step)
        → Answered (unless p 9 (unless q 14 (unless r 17 (got ended_now)))) (b ≡ lent_of d) y → Out (met y)
    by-eof false q r t h f a y v = subst (λ (i : Step). Out (met i)) (sym v.answer) a
    by-eof true false r t h f a y v = subst (λ (i : Step). Out (met i)) (sym v.answer) a
    by-eof true true false t h f a y v = subst (λ (i : Step). Out (met i)) (sym v.answer) a
    by-eof true true true true h f a y v =
        subst (λ (i : Step). Out (met i)) (sym v.answer) (subst Out (sym (ap (λ (t : Bool). cond t (S.Stop 21) (S.Go ended_now)) f)) a)
    by-eof true true true false h f a y v =
        let four : m ≡ 4 = eqb-true m 4 (and_left (eqb m 4) (is_nil l.next && l.last) h) in
        let goes : Out y =
        lent_is m (lent_of d) ended_now y v
        (record_same m d.marks d.used d.header (S.Go ended_now)
        (subst (λ (i : ℕ). Stood i → step_from i ≡ got (ended s) → From i (top_desk d d.marks d.used d.header d.scratch) (S.Go ended_now)) (sym four) set-ends z a)) in
        subst (λ (i : Step). Out (met i)) (sym v.answer) (subst Out (sym (ap (λ (t : Bool). cond t (S.Stop 21) (S.Go ended_now)) f)) (subst Out v.answer goes))

    on-eof : l.form ≡ eof → (y : Step) → Answered (eof_now d.now w d.tally d.used_all) (b ≡ lent_of d) y → Out (met y)
    on-eof a y v =
        by-eof ends (layers_used s) (counted_all s) fails refl refl
        (ap (on_top (unlimited c) l s m) a
        ∙ ap (λ (t : Bool). unless ends 9 (unless (layers_used s) 14 (unless (counted_all s) 17 (unless t 21 (got (ended s)))))) (partners.fails-so c spool k d (InFile spool k d) at s m z)) y
        (subst (λ (t : Bool). Answered (unless t 9 (unless (layers_used s) 14 (unless (counted_all s) 17 (got ended_now)))) (b ≡ lent_of d) y) code-ends
        (subst (λ (t : Bool). Answered (unless (eqb d.now.part 4 && w.ends) 9 (unless t 14 (unless (counted_all s) 17 (got ended_now)))) (b ≡ lent_of d) y) (sym used-layers)
        (subst (λ (t : Bool). Answered (unless (eqb d.now.part 4 && w.ends) 9 (unless (all (λ t. t) (take (layers_of d.tally) d.used_all)) 14 (unless t 17 (got ended_now)))) (b ≡ lent_of d) y)
        (sym all-counted) v)))

    -- ── a block opens ──
    -- the code's word for the first volume
    abbrev first : Bool
    first = eqb k 1

    opened : (j : ℕ) → j < 4 → Stood j → step_from j ≡ open_top (unlimited c) l s j → (r : Step) → Answered (got (opened_now first d.now j)) (b ≡ opened_lent first w j (lent_of d)) r → OutOf j r
    opened zero h z₀ a r v =
        let f : Bool = is_first s in
        lent_is 0 (opened_lent f w 0 (lent_of d)) (records_taken d.now 1 (file_takes f)) r
        (subst (λ (t : Bool). Answered (got (opened_now t d.now 0)) (b ≡ opened_lent t w 0 (lent_of d)) r) (first-volume k s z₀.block.2.0) v)
        (record_same 0 (unmarked d.marks) d.used (header_begun f w d.header) (S.Go (records_taken d.now 1 (file_takes f))) (file-begin fv fl z₀ a))
    opened (suc zero) h z₁ a r v = lent_is 1 (opened_lent first w 1 (lent_of d)) (records_taken d.now 2 1) r v (drawing-begin z₁ a)
    opened (suc (suc zero)) h z₂ a r v =
        lent_is 2 (lent_of d) (at_block d.now 4 0) r v (record_same 2 d.marks d.used d.header (S.Go (at_block d.now 4 0)) (defines-begin z₂ a))
    opened (suc (suc (suc zero))) h z₃ a r v =
        lent_is 3 (opened_lent first w 3 (lent_of d)) (at_block d.now 7 0) r v
        (record_same 3 d.marks (unmarked d.used) d.header (S.Go (at_block d.now 7 0)) (elements-begin z₃ a))
    opened (suc (suc (suc (suc j)))) h z₄ a r v = absurd (omega arith)

    -- "each once in this order"
    on-begin : (j : ℕ) → j < 4 → step_in (unlimited c) l st ≡ unless (eqb j m) 9 (open_top (unlimited c) l s j) → (r : Step)
        → Answered (block_now first d.now j) (b ≡ opened_lent first w j (lent_of d)) r → Out r
    on-begin j h a r v =
        go (eqb j m) refl a (subst (λ (i : ℕ). Answered (unless (eqb j i) 9 (got (opened_now first d.now j))) (b ≡ opened_lent first w j (lent_of d)) r) z.block.1 v)
      where
        go : (t : Bool) → eqb j m ≡ t → step_in (unlimited c) l st ≡ unless t 9 (open_top (unlimited c) l s j) → Answered (unless t 9 (got (opened_now first d.now j))) (b ≡ opened_lent first w j (lent_of d)) r → Out r
        go false q a v = subst Out (sym v.answer) a
        go true q a v = subst (λ (i : ℕ). Stood i → step_from i ≡ open_top (unlimited c) l s j → OutOf i r) (eqb-true j m q) (λ z a. opened j h z a r v) z a

    -- ── a line with a key ──
    module _ (key : List ℕ) (rest : Rest) (a : l.form ≡ keyed key rest) where
      abbrev did : Act
      did = act (known_of s) top_table (digits 0 0) (rows_at_limit 0 top_table) (keyed key rest)

      abbrev judged : Act → Got State
      judged y = by_act st (λ j v. bad 5) (λ i j v. unless (eqb j m) 9 (open_top (unlimited c) l s j)) (λ _. bad 9) y

      by-act : (o : Act) → did ≡ o → (y : Step) → Answered (key_now first d.now o) (b ≡ key_lent first w (lent_of d) o) y → Out y
      by-act stay q y v = on-stay (ap (on_top (unlimited c) l s m) a ∙ ap judged q) y v
      by-act (entry j o) q y v = subst Out (sym v.answer) (ap (on_top (unlimited c) l s m) a ∙ ap judged q)
      by-act (begin i j o) q y v =
          on-begin j (omega (arith, (begin-taken (known_of s) top_table (digits 0 0) (rows_at_limit 0 top_table) (keyed key rest) i j o q).row, four-rows)) (ap (on_top (unlimited c) l s m) a ∙ ap judged q) y v
      by-act shut q y v = subst Out (sym v.answer) (ap (on_top (unlimited c) l s m) a ∙ ap judged q)
      by-act (refuse n) q y v = subst Out (sym v.answer) (ap (on_top (unlimited c) l s m) a ∙ ap judged q)

    -- the names that the code knows
    abbrev pub code_known : Known
    code_known = known_in spool (take (get_or d.tally 9 0) d.symbols) (take (get_or d.tally 10 0) d.layers)

    top-act : (f : Form) → top_act code_known f ≡ act (known_of s) top_table (digits 0 0) (rows_at_limit 0 top_table) f
    top-act f =
        ap (λ (y : Known). top_act y f) (known c spool k (InFile spool k) d at to st st z refl)
        ∙ ap (λ (t : List Rule). act (known_of s) t (digits 0 0) (replicate 4 false) f) top-table
        ∙ ap (λ (t : List Bool). act (known_of s) top_table (digits 0 0) t f) none-full

    still-top : eqb d.now.block 15 ≡ false
    still-top = ap (λ (i : ℕ). eqb i 15) z.block.0

    -- no key ends the set
    key-goes : (o : Act) → ends_set (step_of (key_now first d.now o)) ≡ false
    key-goes stay = still-top
    key-goes (entry j v) = refl
    key-goes (begin i j v) = go (eqb j d.now.part) j
      where
        go : (t : Bool) (j : ℕ) → ends_set (step_of (unless t 9 (got (opened_now first d.now j)))) ≡ false
        go false j = refl
        go true zero = refl
        go true (suc zero) = refl
        go true (suc (suc zero)) = refl
        go true (suc (suc (suc j))) = refl
    key-goes shut = refl
    key-goes (refuse n) = refl

    by_form : (f : Form) → l.form ≡ f → (y : Step)
        → Answered (top_now code_known first d.now w d.tally d.used_all f) (b ≡ top_lent_by code_known first w (lent_of d) f) y → Out (met y)
    by_form ignored a y v = goes_on y (ap ends_set v.answer ∙ still-top) (on-stay (ap (on_top (unlimited c) l s m) a) y v)
    by_form (wrong n) a y v = goes_on y (ap ends_set v.answer) (subst Out (sym v.answer) (ap (on_top (unlimited c) l s m) a))
    by_form close a y v = goes_on y (ap ends_set v.answer) (subst Out (sym v.answer) (ap (on_top (unlimited c) l s m) a))
    by_form eof a y v = on-eof a y v
    by_form (keyed key rest) a y v =
        goes_on y (ap ends_set v.answer ∙ key-goes (top_act code_known (keyed key rest)))
        (by-act key rest a (act (known_of s) top_table (digits 0 0) (rows_at_limit 0 top_table) (keyed key rest)) refl y
        (subst (λ (o : Act). Answered (key_now first d.now o) (b ≡ key_lent first w (lent_of d) o) y) (top-act (keyed key rest)) v))

    -- y: what the line did by itself, r: with the partners tested where it ended the set
    pub top-line : (y r : Step)
        → Answered (top_now code_known (eqb k 1) d.now w d.tally d.used_all (form_in spool form))
        (b ≡ top_lent_by code_known (eqb k 1) w (top_lent d.marks d.used d.header (part_at 0 d.scratch)) (form_in spool form)) y
        → r ≡ partners_met c spool d.tally d.serials y → Out r
    top-line y r v e = subst Out (sym e) (by_form (form_in spool form) x.is y v)
