-- A line in a placed symbol: the laws that the proofs of its functions use.
use Rattle.std.specs.Prelude.{Some}
use Prim.Native.Nat.{ℕ, suc, ◌+◌, ◌<◌}
use mathlib.Core.Bool.{Bool, true, false, cond, ◌&&◌}
use mathlib.Core.List.{List, [], ◌∷◌, map}
use mathlib.Core.Path.{◌≡◌, refl, sym, ◌∙◌, ap, subst}
use native.Mathlib.Omega.{arith}
use lib.Dec.{T, leb}
use lib.IntN.{ℤ, pos, negsuc, nat_abs}
use lib.ListN.{length, get_or, set, take, drop}
use lib.Seq.{sets, get_or-set_same, get_or-set_other, set-get_or}
use lib.Signed.{non_neg}
use mir.Syntax.{w64}
use mir.Val.{SFits, Fits, to_z, of_z}
use mir.Facts.{to_z-of_z}
use borrow.Author.Tests.{ne_eqb}
use Rattle.rules.specs.declared.Digits.{Digits}
use Rattle.rules.specs.declared.Span.{Span}
use Rattle.rules.specs.Base.{all, flat, split}
use Rattle.rules.specs.RefusalNumbers.{got, bad, unless, map_g, keep, or_bad, cons_g}
use Rattle.rules.specs.Lines.{Rest, Form, keyed, Shape, opener, no_content, content, opening, formless, shape_of, has_form}
use Rattle.rules.specs.RangeClass.{digits, reaches, exceeds, both, hides}
use Rattle.rules.specs.Numbers.{read_count}
use Rattle.rules.specs.Values.{Num, num, natural, Known, Value, nums, linked, serials, wire_serial, most_partners, read_serials, linked_of, read_partner, read_wire_serial, read_kind}
use Rattle.rules.specs.Rows.{Rule, Found, absent, found, find, Act, stay, entry, begin, shut, refuse, or_refuse, inner_of, fits, read_shape, shape_for, act_found, act, complete}
use Rattle.rules.specs.RecordTable.{numbers, given, rule_at, unread_state, mark_unread}
use Rattle.rules.specs.Figures.{placed_table, text_table}
use Rattle.rules.proofs.Rows.{found-row, row_at, row_below, row-did}
use Rattle.rules.proofs.Chains.{clash, never, map-got, keep-got, or-got, cons-got}
use Rattle.tables.specs.Tables.{table_of}
use Rattle.tables.specs.Rows.{rule_of, for_line, found_for_line}
use Rattle.tables.specs.declared.Row.{Row}
use Rattle.entries.specs.Acts.{roomy, put_line, next_of, Entered, Acts}
use Rattle.leaves.specs.Bytes.{up_to}
use Rattle.leaves.proofs.Bounds.{count-below}
use Rattle.entries.proofs.ByKind.{split-head}
use Rattle.entries.proofs.Took.{took}
use Rattle.entries.specs.declared.Inner.{Inner}
use Rattle.entries.specs.declared.Next.{Next}
use Rattle.entries.specs.declared.Next.TheVariants as N
use Rattle.account.specs.declared.Now.{Now}
use Rattle.account.specs.declared.Step.{Step}
use Rattle.account.specs.declared.Step.TheVariants as S
use Rattle.account.specs.declared.Skipped.{Skipped}
use Rattle.account.specs.Account.{at_block, figure_done}
use Rattle.account.specs.SerialNumbers.{own_numbers, content_at, in_use, SerialLine}
use Rattle.account.specs.PlacedLines.{Lent, lent, own_number, OwnGiven, lent_with, serial_row, with_inner, hidden_at, PlacedDone, RowReady, unknown_step, skip_step, UnknownLine, KeyLine, is_whole, CloseLine, PlacedTextLine}
use Rattle.account.proofs.RowsTaken.{TableTaken, act-taken}

-- ── the tables ──
pub placed-six : length (table_of 18) ≡ 6
unfolding table_of placed_table
placed-six = refl

pub text-two : length (table_of 19) ≡ 2
unfolding table_of text_table
text-two = refl

pub placed-room : (n : ℕ) → n ≡ 32 → all (roomy 0 n) (table_of 18) ≡ true
unfolding table_of placed_table
placed-room n e = rw e

pub text-room : (n : ℕ) → n ≡ 32 → all (roomy 0 n) (table_of 19) ≡ true
unfolding table_of text_table
text-room n e = rw e

-- ── what the class doesn't know ──
hidden-set : (q : ℕ) (h : Bool) (t : List ℤ) → hidden_at q h t ≡ set t q (cond h (pos 3) (get_or t q (pos 0)))
hidden-set q true t = refl
hidden-set q false t = sym (set-get_or t q (pos 0))

module _ (c d : Digits) where
  -- a row's state behind those of the rows after it
  pub one-marked : (r : Rule) (rs : List Rule) (q : ℕ) (t₀ t u : List ℤ) → r.state ≡ suc q → u ≡ mark_unread c d rs t₀ → t ≡ hidden_at (suc q) (hides c d r.least) u
      → t ≡ mark_unread c d (r ∷ rs) t₀
  one-marked r rs q t₀ t u e f g =
      g ∙ hidden-set (suc q) (hides c d r.least) u
      ∙ ap (unread_state (suc q) (hides c d r.least)) f
      ∙ ap (λ (s : ℕ). unread_state s (hides c d r.least) (mark_unread c d rs t₀)) (sym e)

  abbrev at : ℕ → ℕ → ℕ → List ℤ → List ℤ
  at m l q t = hidden_at q (hides c d (digits m l)) t

  abbrev from : ℕ → List ℤ → List ℤ
  from i t = mark_unread c d (drop i placed_table) t

  pub hidden-all : (t₀ t₁ t₂ t₃ t₄ t₅ : List ℤ) → t₁ ≡ at 1 0 30 t₀ → t₂ ≡ at 0 5 29 t₁ → t₃ ≡ at 0 4 28 t₂ → t₄ ≡ at 0 3 27 t₃ → t₅ ≡ at 0 2 26 t₄ → t₅ ≡ mark_unread c d placed_table t₀
  unfolding placed_table
  hidden-all t₀ t₁ t₂ t₃ t₄ t₅ e₁ e₂ e₃ e₄ e₅ =
      let f₁ : t₁ ≡ from 5 t₀ = one-marked (rule_at placed_table 5) [] 29 t₀ t₁ t₀ refl refl e₁ in
      let f₂ : t₂ ≡ from 4 t₀ = one-marked (rule_at placed_table 4) (drop 5 placed_table) 28 t₀ t₂ t₁ refl f₁ e₂ in
      let f₃ : t₃ ≡ from 3 t₀ = one-marked (rule_at placed_table 3) (drop 4 placed_table) 27 t₀ t₃ t₂ refl f₂ e₃ in
      let f₄ : t₄ ≡ from 2 t₀ = one-marked (rule_at placed_table 2) (drop 3 placed_table) 26 t₀ t₄ t₃ refl f₃ e₄ in
      one-marked (rule_at placed_table 1) (drop 2 placed_table) 25 t₀ t₅ t₄ refl f₄ e₅

-- ── own numbers ──
-- as the machine reads a signed number back
module _ (z : ℤ) (f : SFits w64 z) where
  pub own_back : nat_abs (to_z w64 (of_z w64 z)) ≡ nat_abs z
  own_back = ap nat_abs (to_z-of_z f)

  pub own_cast : non_neg z ≡ true → T (non_neg (to_z w64 (of_z w64 z))) × Fits w64 (nat_abs (to_z w64 (of_z w64 z)))
  own_cast h = subst (λ (y : ℤ). T (non_neg y) × Fits w64 (nat_abs y)) (sym (to_z-of_z f)) (go z f h)
    where
      go : (z : ℤ) → SFits w64 z → non_neg z ≡ true → T (non_neg z) × Fits w64 (nat_abs z)
      go (pos n) f h = (tt, record { fits = omega (arith, f.sfits) })
      go (negsuc n) f h = clash h refl

module _ (now : Now) (row n : ℕ) (at : Span) where
  pub entry-serial : (t₀ t₁ s₀ s₁ : List ℕ) (marks inner : List Bool) (r : Step) → row ≡ serial_row → SerialLine now n at t₀ t₁ s₀ s₁ r
      → PlacedDone now (lent t₀ s₀ marks inner) (lent t₁ s₁ (set marks row true) inner) n at (N.Entry row) r
  entry-serial t₀ t₁ s₀ s₁ marks inner r e h = rw e (record { answer = h.answer; lent = λ q. rw (h.tally q, h.serials q) })

  pub entry_other : (t s : List ℕ) (marks inner : List Bool) → (row ≡ serial_row → ⊥) → PlacedDone now (lent t s marks inner) (lent t s (set marks row true) inner) n at (N.Entry row) (S.Go now)
  entry_other t s marks inner h =
      let e = sym (ne_eqb row 5 h) in
      record {
        answer = ap (λ (b : Bool). cond (b && in_use t s n) (S.Stop 15) (S.Go now)) e;
        lent = λ q. ap (λ (b : Bool). lent_with b (lent t s marks inner) row n at) e;
      }

  -- whatever its text's marks are
  pub entry_done : (t₀ t₁ s₀ s₁ : List ℕ) (m₀ m₁ inner : List Bool) (next : Next) (r : Step) → next ≡ N.Entry row
      → PlacedDone now (lent t₀ s₀ m₀ []) (lent t₁ s₁ m₁ []) n at (N.Entry row) r → PlacedDone now (lent t₀ s₀ m₀ inner) (lent t₁ s₁ m₁ inner) n at next r
  entry_done t₀ t₁ s₀ s₁ m₀ m₁ inner next r e h = rw e (record { answer = h.answer; lent = λ q. ap (with_inner inner) (h.lent q) })

-- ── an own number as it is read ──
-- it has up to ten digits
own_below : (s : List ℕ) (n : ℕ) → read_count 10 s ≡ Some n → n < own_numbers
own_below s n e = count-below 10 s n (e)

own_in : (s : List ℕ) (n : ℕ) → or_bad 10 (read_count 10 s) ≡ got n → n < own_numbers
own_in s n e = own_below s n (or-got 10 (read_count 10 s) n e)

-- a value's numbers begin with an own number
pub record OwnFirst (v : Value) : Type 0 where
  pub own : ℕ
  pub others : List ℤ
  pub first : numbers v ≡ pos own ∷ others
  pub most : own < own_numbers

own_first : (c : List ℕ) (ss : List (List ℕ)) (ns : List ℕ) → read_serials (c ∷ ss) ≡ got ns → OwnFirst (linked_of ns)
own_first c ss ns e =
    let (n, ps, g, h, q) = cons-got (or_bad 10 (read_count 10 c)) (read_serials ss) ns e in
    subst (λ (ns : List ℕ). OwnFirst (linked_of ns)) q (record { own = n; others = pos (length ps) ∷ []; first = refl; most = own_in c n g })

-- of a placed symbol
pub serial-first : (k : Known) (at : ℕ) (c : List ℕ) (v : Value) → read_kind k serials at c ≡ got v → OwnFirst v
serial-first k at c v e =
    let few : List ℕ → Bool = λ ns. leb (length ns) (most_partners + 1) in
    let (ns, p, q) = map-got linked_of (keep 11 few (read_serials (split 44 c))) v e in
    let r = (keep-got 11 few (read_serials (split 44 c)) ns p).0 in
    subst OwnFirst q (own_first (up_to 44 c) (drop 1 (split 44 c)) ns (ap read_serials (sym (split-head c)) ∙ r))

-- of a wire
wire-first : (ss : List (List ℕ)) (v : List Num) → read_wire_serial ss ≡ got v → OwnFirst (nums v)
wire-first [] v e = never e
wire-first (o ∷ []) v e = never e
wire-first (o ∷ a ∷ []) v e = never e
wire-first (o ∷ a ∷ b ∷ c ∷ ss) v e = never e
wire-first (o ∷ a ∷ b ∷ []) v e =
    let (z, w, g, h, q) = cons-got (natural (or_bad 10 (read_count 10 o))) (map_g flat (cons_g (read_partner a) (cons_g (read_partner b) (got [])))) v e in
    let (n, i, y) = map-got (λ n. num (pos n)) (or_bad 10 (read_count 10 o)) z g in
    subst (λ (v : List Num). OwnFirst (nums v)) q (record { own = n; others = map (λ n. n.value) w; first = ap (λ (z : Num). z.value ∷ map (λ n. n.value) w) (sym y); most = own_in o n i })

pub wire-serial-first : (k : Known) (at : ℕ) (c : List ℕ) (v : Value) → read_kind k wire_serial at c ≡ got v → OwnFirst v
wire-serial-first k at c v e = let (w, p, q) = map-got nums (read_wire_serial (split 44 c)) v e in subst OwnFirst q (wire-first (split 44 c) w p)

-- a line that enters such a value
module _ (k : Known) (i j : ℕ) (r : Rule) (v : Value) (m : r.may ≡ false) (first : (at : ℕ) (c : List ℕ) → read_kind k r.holds at c ≡ got v → OwnFirst v) where
  entry_value : (at : ℕ) (c : List ℕ) → map_g (entry i) (read_kind k r.holds at c) ≡ got (entry j v) → OwnFirst v
  entry_value at c h =
      let (w, p, q) = map-got (entry i) (read_kind k r.holds at c) (entry j v) h in
      let x : w ≡ v = cc in
      first at c (p ∙ ap got x)

  pub entry_first : (s : Shape) → fits r.holds r.may s ≡ true → (fits r.holds false opener ≡ false) → (fits r.holds false no_content ≡ false)
      → read_shape k i r s ≡ got (entry j v) → OwnFirst v
  entry_first opener f a b h = clash (rw m at f) a
  entry_first no_content f a b h = clash (rw m at f) b
  entry_first (content at c) f a b h = entry_value at c h
  entry_first (opening at c) f a b h = let q = (map-got (begin (inner_of r.holds) i) (read_kind k r.holds at c) (entry j v) h).2 in absurd (let z : ◌≡◌ {A = ℕ} 0 1 = cc in omega arith)
  entry_first formless f a b h = never h

-- ── the row of a line is one of its table's, and a line of the row `serial` puts its own number first ──
-- the row of an entry is the one whose line it is
pub read-row : (k : Known) (i j : ℕ) (r : Rule) (s : Shape) (v : Value) → read_shape k i r s ≡ got (entry j v) → i ≡ j
read-row k i j r opener v e = cc
read-row k i j r no_content v e = cc
read-row k i j r (content at c) v e = let m = map-got (entry i) (read_kind k r.holds at c) (entry j v) e in let q = m.2 in cc
read-row k i j r (opening at c) v e = let m = map-got (begin (inner_of r.holds) i) (read_kind k r.holds at c) (entry j v) e in let q = m.2 in cc
read-row k i j r formless v e = never e

serial-row : (r : Rule) → rule_at (table_of 18) 5 ≡ r → (r.holds ≡ serials) × (r.may ≡ false)
unfolding table_of placed_table
serial-row r e = rw (sym e) (refl, refl)

-- what stands before those that are put stays
sets-before : (t : List ℤ) (p q : ℕ) (zs : List ℤ) → q < p → get_or (sets t p zs) q (pos 0) ≡ get_or t q (pos 0)
sets-before t p q [] h = refl
sets-before t p q (z ∷ zs) h = sets-before (set t p z) (suc p) q zs (omega (arith, h)) ∙ get_or-set_other t p q z (pos 0) (λ e. omega (arith, e, h))

pub sets_first : (t : List ℤ) (p : ℕ) (z : ℤ) (zs : List ℤ) → p < length t → get_or (sets t p (z ∷ zs)) p (pos 0) ≡ z
sets_first t p z zs h = sets-before (set t p z) (suc p) p zs (omega arith) ∙ get_or-set_same t p z (pos 0) h

put-own : (t : List ℤ) (n : ℕ) (zs : List ℤ) (g : ℤ) → length t ≡ 32 → get_or (set (sets t 14 (pos n ∷ zs)) 30 g) 14 (pos 0) ≡ pos n
put-own t n zs g h =
    get_or-set_other (sets t 14 (pos n ∷ zs)) 30 14 g (pos 0) (λ e. omega (arith, e)) ∙ sets_first t 14 (pos n) zs (omega (arith, h))

own_line : (t : List ℤ) (v : Value) (n : ℕ) (zs : List ℤ) → length t ≡ 32 → numbers v ≡ pos n ∷ zs → get_or (put_line (rule_at (table_of 18) 5) 0 v t) 14 (pos 0) ≡ pos n
unfolding table_of placed_table
own_line t v n zs h e = ap (λ (zs : List ℤ). get_or (set (sets t 14 zs) 30 (given v)) 14 (pos 0)) e ∙ put-own t n zs (given v) h

pub own-given : (z : ℤ) (n : ℕ) → z ≡ pos n → n < own_numbers → OwnGiven z
own-given z n e h = record { positive = ap non_neg e; most = subst (λ (m : ℕ). m < own_numbers) (ap nat_abs (sym e)) h }

-- the own number that a line `serial` leaves in the record
pub own_is : (t : List ℤ) (n : ℕ) (ps : List ℕ) → length t ≡ 32 → own_number (put_line (rule_at (table_of 18) serial_row) 0 (linked n ps) t) ≡ n
own_is t n ps h = ap nat_abs (own_line t (linked n ps) n (pos (length ps) ∷ []) h refl)

module _ (k : Known) (d : Digits) (full : List Bool) (key : List ℕ) (c : Rest) (t₀ t₁ : List ℤ) (long : length t₀ ≡ 32) where
  unknown-not : (b : Bool) (j : ℕ) (v : Value) → or_refuse (unless b 5 (bad 6)) ≡ entry j v → ⊥
  unknown-not true j v e = absurd (let z : ◌≡◌ {A = ℕ} 0 1 = cc in omega arith)
  unknown-not false j v e = absurd (let z : ◌≡◌ {A = ℕ} 0 1 = cc in omega arith)

  own-entered : (v : Value) (f : Found) → find key (table_of 18) ≡ f → act_found k d full c f ≡ entry 5 v → t₁ ≡ put_line (rule_at (table_of 18) 5) 0 v t₀ → OwnGiven (get_or t₁ 14 (pos 0))
  own-entered v absent q e h = absurd (unknown-not (has_form (shape_of c)) 5 v e)
  own-entered v (found i r) q e h =
      let w = row-did k d (get_or full i false) i r c (entry 5 v) refl e in
      let x : i ≡ 5 = read-row k i 5 r (shape_for r c) v w.read in
      let y = row_at (found-row key (table_of 18) i r q).0 _ in
      let (o, m) = serial-row r (ap (rule_at (table_of 18)) (sym x) ∙ y) in
      let f = entry_first k i 5 r v m (λ at c q. serial-first k at c v (rw o at q)) (shape_for r c) w.fit (rw o) (rw o) w.read in
      own-given (get_or t₁ 14 (pos 0)) f.own (ap (λ (u : List ℤ). get_or u 14 (pos 0)) h ∙ own_line t₀ v f.own f.others long f.first) f.most

  pub found_ready : (a : Next) → Acts (rule_at (table_of 18)) 0 t₀ (act_found k d full c (find key (table_of 18))) t₁ a → RowReady t₁ a
  found_ready a h = subst (RowReady t₁) (sym h.eq) (go (act_found k d full c (find key (table_of 18))) refl (act-taken k (table_of 18) d full (keyed key c)) h.entered)
    where
      go : (b : Act) → act_found k d full c (find key (table_of 18)) ≡ b → TableTaken (table_of 18) full b → Entered (rule_at (table_of 18)) 0 t₀ b t₁ → RowReady t₁ (next_of b)
      go stay e w q = tt
      go (entry j v) e w q =
          (omega (arith, w.row, placed-six), λ x. own-entered v (find key (table_of 18)) refl (rw x at e) (rw x at q))
      go (begin i j v) e w q = omega (arith, w.row, placed-six)
      go shut e w q = tt
      go (refuse n) e w q = tt

-- ── a line with a key ──
module _ (key : List ℕ) (row : Row) (same_row : found_for_line (find key (table_of 18)) ≡ found row.number (rule_of row)) where
  pub row_number : row.number < 6
  row_number = go (find key (table_of 18)) refl same_row
    where
      go : (f : Found) → find key (table_of 18) ≡ f → found_for_line f ≡ found row.number (rule_of row) → row.number < 6
      go absent q e = absurd (let z : ◌≡◌ {A = ℕ} 0 1 = cc in omega arith)
      go (found j r) q e = let x : j ≡ row.number = cc in omega (arith, x, row_below (found-row key (table_of 18) j r q).0, placed-six)

  module _ (known : Known) (class range : Digits) (now : Now) (x₀ x₁ : Lent) (rec₀ rec₁ : List ℤ) (r : Step) (k : Skipped) (c : Rest) where
    pub key-known : (a : Next) → reaches class row.least ≡ true → Acts (rule_at (table_of 18)) 0 rec₀ (act_found known range x₀.marks c (find key (table_of 18))) rec₁ a
        → PlacedDone now x₀ x₁ (own_number rec₁) (content_at c) a r → KeyLine known class range now x₀ x₁ rec₀ rec₁ r k c (find key (table_of 18))
    key-known a h w p = go (find key (table_of 18)) same_row w
      where
        go : (f : Found) → found_for_line f ≡ found row.number (rule_of row) → Acts (rule_at (table_of 18)) 0 rec₀ (act_found known range x₀.marks c f) rec₁ a → KeyLine known class range now x₀ x₁ rec₀ rec₁ r k c f
        go absent e w = absurd (let z : ◌≡◌ {A = ℕ} 0 1 = cc in omega arith)
        go (found j q) e w =
            let y : rule_of row ≡ for_line q = cc in
            let l : reaches class q.least ≡ true = ap (λ (x : Rule). reaches class x.least) (sym y) ∙ h in
            rw l (record {
              entered = w.entered;
              did = subst (λ (b : Next). PlacedDone now x₀ x₁ (own_number rec₁) (content_at c) b r) w.eq p;
            })

    pub key-hidden : reaches class row.least ≡ false → UnknownLine class range now x₀ x₁ rec₀ rec₁ r k c → KeyLine known class range now x₀ x₁ rec₀ rec₁ r k c (find key (table_of 18))
    key-hidden h w = go (find key (table_of 18)) same_row
      where
        go : (f : Found) → found_for_line f ≡ found row.number (rule_of row) → KeyLine known class range now x₀ x₁ rec₀ rec₁ r k c f
        go absent e = w
        go (found j q) e =
            let y : rule_of row ≡ for_line q = cc in
            let l : reaches class q.least ≡ false = ap (λ (x : Rule). reaches class x.least) (sym y) ∙ h in
            rw l w

-- ── a key that the class doesn't know ──
module _ (class range : Digits) (now : Now) (k : Skipped) (c : Rest) (b : Bool) (e : b ≡ exceeds range class) where
  pub unknown-skipped : (a d : Skipped) → b ≡ true → a ≡ k → a ≡ d → skip_step now d ≡ unknown_step class range now k c
  unknown-skipped a d t p q = ap (skip_step now) (sym q ∙ p) ∙ ap (λ (x : Bool). cond x (skip_step now k) (cond (has_form (shape_of c)) (S.Stop 6) (S.Stop 5))) (sym t ∙ e)

  pub unknown-refused : (f : Bool) → b ≡ false → has_form (shape_of c) ≡ f → cond f (S.Stop 6) (S.Stop 5) ≡ unknown_step class range now k c
  unknown-refused f t h =
      ap (λ (x : Bool). cond x (S.Stop 6) (S.Stop 5)) (sym h)
      ∙ ap (λ (x : Bool). cond x (skip_step now k) (cond (has_form (shape_of c)) (S.Stop 6) (S.Stop 5))) (sym t ∙ e)

-- ── the closing line ──
module _ (class range : Digits) (now : Now) (marks : List Bool) (d : Digits) (b : Bool) (e : d ≡ both class range) (h : b ≡ complete d (table_of 18) (take 6 marks)) where
  whole : is_whole class range marks ≡ b
  whole = ap (λ (x : Digits). complete x (table_of 18) (take 6 marks)) (sym e) ∙ sym h

  pub close-short : (rec₀ rec₁ : List ℤ) → b ≡ false → CloseLine class range now marks rec₀ rec₁ (S.Stop 8)
  close-short rec₀ rec₁ t =
      record { answer = ap (λ (x : Bool). cond x (S.Go (figure_done now)) (S.Stop 8)) (sym (whole ∙ t)); rec = λ q. clash q (whole ∙ t) }

  pub close-whole : (rec₀ rec₁ : List ℤ) (n : Now) → b ≡ true → rec₁ ≡ mark_unread class range placed_table rec₀ → n ≡ figure_done now → CloseLine class range now marks rec₀ rec₁ (S.Go n)
  close-whole rec₀ rec₁ n t m f =
      record { answer = ap S.Go f ∙ ap (λ (x : Bool). cond x (S.Go (figure_done now)) (S.Stop 8)) (sym (whole ∙ t)); rec = λ q. m }

-- ── a line in the text ──
abbrev text_row : Next → Type 0
text_row N.Stay = Unit {0}
text_row (N.Entry j) = j < 2
text_row (N.Begin b) = Unit {0}
text_row N.Shut = Unit {0}
text_row (N.Refuse n) = Unit {0}

module _ (k : Known) (d e : Digits) (full : List Bool) (f : Form) (here : Now) (t₀ t₁ : List ℤ) (next : Next) (w : d ≡ e) (h : Acts (rule_at (table_of 19)) 0 t₀ (act k (table_of 19) d full f) t₁ next) where
  abbrev does : Act
  does = act k (table_of 19) e full f

  here-acts : Acts (rule_at (table_of 19)) 0 t₀ does t₁ next
  here-acts = subst (λ (x : Digits). Acts (rule_at (table_of 19)) 0 t₀ (act k (table_of 19) x full f) t₁ next) w h

  pub text-row : (j : ℕ) → next ≡ N.Entry j → j < 2
  text-row j q = subst text_row (sym here-acts.eq ∙ q) (go does (act-taken k (table_of 19) e full f))
    where
      go : (a : Act) → TableTaken (table_of 19) full a → text_row (next_of a)
      go stay x = tt
      go (entry j v) x = omega (arith, x.row, text-two)
      go (begin i j v) x = tt
      go shut x = tt
      go (refuse n) x = tt

  pub text-stay : next ≡ N.Stay → PlacedTextLine does here full full t₀ t₁ (S.Go here)
  text-stay q = let (a, b) = rw q at (took (rule_at (table_of 19)) 0 t₀ t₁ does next here-acts) in rw a (record { answer = refl; inner = refl; rec = b })

  pub text-entry : (j : ℕ) → next ≡ N.Entry j → PlacedTextLine does here full (set full j true) t₀ t₁ (S.Go here)
  text-entry j q = let (v, a, b) = rw q at (took (rule_at (table_of 19)) 0 t₀ t₁ does next here-acts) in rw a (record { answer = refl; inner = refl; rec = b })

  pub text-begin : (i : Inner) → next ≡ N.Begin i → PlacedTextLine does here full full t₀ t₁ (S.Stop 5)
  text-begin i q = let (v, a, b) = rw q at (took (rule_at (table_of 19)) 0 t₀ t₁ does next here-acts) in rw a (record { answer = refl; inner = tt; rec = b })

  pub text-shut : (n : Now) → next ≡ N.Shut → n ≡ at_block here 11 0 → PlacedTextLine does here full full t₀ t₁ (S.Go n)
  text-shut n q m = let (a, b) = rw q at (took (rule_at (table_of 19)) 0 t₀ t₁ does next here-acts) in rw a (record { answer = ap S.Go m; inner = refl; rec = b })

  pub text-refuse : (n : ℕ) → next ≡ N.Refuse n → PlacedTextLine does here full full t₀ t₁ (S.Stop n)
  text-refuse n q = let a = rw q at (took (rule_at (table_of 19)) 0 t₀ t₁ does next here-acts) in rw a (record { answer = refl; inner = tt; rec = tt })
