-- What a line that was read in a block says: the row that it entered, what it held, and that the block's slots stay good.
use Rattle.std.specs.Prelude.{Option, Some, None}
use Prim.Native.Nat.{ℕ, zero, suc, ◌≤◌, ◌<◌}
use mathlib.Core.Bool.{Bool, true, false, cond, ◌&&◌, ◌||◌, not}
use mathlib.Core.List.{List, [], ◌∷◌}
use mathlib.Core.Path.{◌≡◌, refl, sym, ◌∙◌, ap, subst}
use native.Mathlib.Omega.{arith}
use lib.Dec.{ltb}
use lib.ListN.{length, get_or, set, get_or-map}
use borrow.Author.Tests.{not-true}
use Rattle.rules.specs.declared.Digits.{Digits}
use Rattle.rules.specs.Base.{is_some, same, split}
use Rattle.rules.specs.RefusalNumbers.{Got, got, bad, unless, keep}
use Rattle.rules.specs.Lines.{Rest, Form, ignored, wrong, close, eof, keyed, Shape, opener, no_content, content, opening, formless, shape_of, has_form}
use Rattle.rules.specs.RangeClass.{reaches}
use Rattle.rules.specs.Values.{Value, nums, Known, Kind, values, text, word, volume_name, sheet, ratio, serials, wire_serial, symbol_circle, nothing, opens, headed, either, read_kind, read_all, agree, nums_of, read_circle}
use Rattle.rules.specs.Rows.{Rule, Found, absent, found, find, Slots, rows_there, fits, shape_for, Act, stay, entry, begin, shut, refuse, or_refuse, inner_of, read_shape, act_row, act_unknown, act_found, present, complete, act}
use Rattle.rules.specs.Figures.{wire_table, wire_text_row}
use Rattle.rules.specs.Machine.{State, by_act}
use Rattle.rules.specs.FixedForm.{opens_block}
use Rattle.rules.specs.RecordTable.{rule_at}
use Rattle.rules.proofs.Chains.{and_left, and_right, clash, same-eq, never, map-got, On, on-map, on-all, on-got, or_left}
use Rattle.rules.proofs.Rows.{Row, here, there, found-row, row-all, row_at, row-did}
use Rattle.promises.proofs.Forms.{key_ok, keys_ok, Tells}
use Rattle.promises.proofs.Good.{GoodRow, Always, GoodSlots}
use Rattle.promises.proofs.RowGood.{entry-good, begin-good, entry-always, begin-always, numbers_only}
use Rattle.promises.proofs.Nameless.{nameless}

-- ── what an act says of the block ──
-- the number of the inner block is the row's
abbrev pub Inside : Act → Kind → Type 0
Inside stay d = Unit {0}
Inside (entry j v) d = Unit {0}
Inside (begin i j v) d = i ≡ inner_of d
Inside shut d = Unit {0}
Inside (refuse n) d = Unit {0}

-- the row j of the table took the value v; its line opens an inner block or does not
pub record Took (k : Known) (d : Digits) (t : List Rule) (full : List Bool) (j : ℕ) (v : Value) (opened : Bool) (a : Act) : Type 0 where
  pub rule : Rule
  pub row : Row t j rule
  pub opened-is : opens_block rule.holds v ≡ opened
  pub new : get_or full j false ≡ false
  pub good : GoodRow k d rule v
  pub always : nameless rule.holds ≡ true → Always d rule v
  pub inside : Inside a rule.holds
  pub rest : Rest
  pub from : act_row k d (get_or full j false) j rule rest ≡ a

-- the rows are judged at d, what is required at c
abbrev pub ActTold : Known → Digits → Digits → List Rule → List Bool → Act → Type 0
ActTold k d c t full stay = Unit {0}
ActTold k d c t full (entry j v) = Took k d t full j v false (entry j v)
ActTold k d c t full (begin i j v) = Took k d t full j v true (begin i j v)
ActTold k d c t full shut = complete c t full ≡ true
ActTold k d c t full (refuse n) = Unit {0}

-- a line with a key enters a row, and it opens a block or does not; it closes nothing
abbrev is_begin : Act → Bool
is_begin stay = false
is_begin (entry j v) = false
is_begin (begin i j v) = true
is_begin shut = false
is_begin (refuse n) = false

abbrev pub is_shut : Act → Bool
is_shut stay = false
is_shut (entry j v) = false
is_shut (begin i j v) = false
is_shut shut = true
is_shut (refuse n) = false

abbrev begins : Got Act → Bool
begins (got a) = is_begin a
begins (bad n) = false

shape_open : (k : Known) (j : ℕ) (r : Rule) (s : Shape) → On (λ a. is_shut a ≡ false) (read_shape k j r s)
shape_open k j r opener = refl
shape_open k j r no_content = refl
shape_open k j r (content at c) =
    on-map (λ a. is_shut a ≡ false) (entry j) (read_kind k r.holds at c) (on-all (λ v. is_shut (entry j v) ≡ false) (λ v. refl) (read_kind k r.holds at c))
shape_open k j r (opening at c) =
    on-map (λ a. is_shut a ≡ false) (begin (inner_of r.holds) j) (read_kind k r.holds at c)
    (on-all (λ v. is_shut (begin (inner_of r.holds) j v) ≡ false) (λ v. refl) (read_kind k r.holds at c))
shape_open k j r formless = tt

-- what was read of a line that enters a row, and of one that opens a block
pub read-entry : (k : Known) (j : ℕ) (r : Rule) (s : Shape) (m : ℕ) (v : Value) → read_shape k j r s ≡ got (entry m v) → fits r.holds r.may no_content ≡ false → fits r.holds r.may s ≡ true
    → (at : ℕ) × (c : List ℕ) × (read_kind k r.holds at c ≡ got v)
read-entry k j r opener m v e n f = clash refl (ap begins e)
read-entry k j r no_content m v e n f = clash f n
read-entry k j r (content at c) m v e n f = let (u, g, q) = map-got (entry j) (read_kind k r.holds at c) (entry m v) e in let z : u ≡ v = cc in (at, c, g ∙ ap got z)
read-entry k j r (opening at c) m v e n f = let (u, g, q) = map-got (begin (inner_of r.holds) j) (read_kind k r.holds at c) (entry m v) e in clash refl (ap is_begin q)
read-entry k j r formless m v e n f = never e

pub read-begin : (k : Known) (j : ℕ) (r : Rule) (s : Shape) (i m : ℕ) (v : Value) → read_shape k j r s ≡ got (begin i m v) → fits r.holds r.may opener ≡ false → fits r.holds r.may s ≡ true
    → (at : ℕ) × (c : List ℕ) × (read_kind k r.holds at c ≡ got v)
read-begin k j r opener i m v e n f = clash f n
read-begin k j r no_content i m v e n f = clash refl (sym (ap begins e))
read-begin k j r (content at c) i m v e n f = let (u, g, q) = map-got (entry j) (read_kind k r.holds at c) (begin i m v) e in clash refl (sym (ap is_begin q))
read-begin k j r (opening at c) i m v e n f =
    let (u, g, q) = map-got (begin (inner_of r.holds) j) (read_kind k r.holds at c) (begin i m v) e in let z : u ≡ v = cc in (at, c, g ∙ ap got z)
read-begin k j r formless i m v e n f = never e

-- a line with a key closes nothing
pub row-shuts : {A : Type 0} (k : Known) (d : Digits) (full : Bool) (j : ℕ) (r : Rule) (x : Rest) → act_row k d full j r x ≡ shut → A
row-shuts k d full j r x e =
    clash refl (on-got (λ a. is_shut a ≡ false) (read_shape k j r (shape_for r x)) shut (shape_open k j r (shape_for r x)) (row-did k d full j r x shut refl e).read)

unknown-told : (k : Known) (d c : Digits) (t : List Rule) (full : List Bool) (x : Rest) → ActTold k d c t full (act_unknown x)
unknown-told k d c t full x = go (has_form (shape_of x))
  where
    go : (b : Bool) → ActTold k d c t full (or_refuse (unless b 5 (bad 6)))
    go true = tt
    go false = tt

-- what an act does, from what it says
pub on-by_act : (P : State → Type 0) (k : Known) (d c : Digits) (t : List Rule) (full : List Bool) (stays : State) (en : ℕ → Value → Got State) (op : ℕ → ℕ → Value → Got State)
    (cl : Got State) (a : Act) → ActTold k d c t full a → P stays → ((j : ℕ) (v : Value) → Took k d t full j v false (entry j v) → On P (en j v))
    → ((i j : ℕ) (v : Value) → Took k d t full j v true (begin i j v) → On P (op i j v)) → (complete c t full ≡ true → On P cl) → On P (by_act stays en op (λ _. cl) a)
on-by_act P k d c t full stays en op cl stay w p x y z = p
on-by_act P k d c t full stays en op cl (entry j v) w p x y z = x j v w
on-by_act P k d c t full stays en op cl (begin i j v) w p x y z = y i j v w
on-by_act P k d c t full stays en op cl shut w p x y z = z w
on-by_act P k d c t full stays en op cl (refuse n) w p x y z = tt

pub row_told : (k : Known) (d c : Digits) (t : List Rule) (full : List Bool) (n : ℕ) (key : List ℕ) (x : Rest) (j : ℕ) (r : Rule)
    → Row t j r → same key r.key ≡ true → keys_ok t ≡ true → Tells n (keyed key x) → n ≤ 512 → ActTold k d c t full (act_row k d (get_or full j false) j r x)
row_told k d c t full n key x j r w q ok tells fit = go (act_row k d (get_or full j false) j r x) refl
  where
    is_key : key_ok r.key ≡ true
    is_key = row-all (λ r. key_ok r.key) w ok

    at_key : Tells n (keyed r.key x)
    at_key = subst (λ (m : List ℕ). Tells n (keyed m x)) (same-eq key r.key q) tells

    go : (a : Act) → act_row k d (get_or full j false) j r x ≡ a → ActTold k d c t full a
    go stay e = tt
    go (entry j' v) e =
        let (p, o, f, g) = entry-good k d (get_or full j false) j r x n j' v is_key at_key fit e in
        subst (λ (m : ℕ). Took k d t full m v false (entry m v)) p
        (record {
          rule = r;
          row = w;
          opened-is = o;
          new = f;
          good = g.row;
          always = λ z. (entry-always k d (get_or full j false) j r x n j' v z is_key at_key fit e).3;
          inside = tt;
          rest = x;
          from = e ∙ ap (λ (m : ℕ). entry m v) (sym p);
        })
    go (begin i j' v) e =
        let (y, p, o, f, g) = begin-good k d (get_or full j false) j r x n i j' v is_key at_key fit e in
        subst (λ (m : ℕ). Took k d t full m v true (begin i m v)) p
        (record {
          rule = r;
          row = w;
          opened-is = o;
          new = f;
          good = g.row;
          always = λ z. (begin-always k d (get_or full j false) j r x n i j' v z is_key at_key fit e).4;
          inside = y;
          rest = x;
          from = e ∙ ap (λ (m : ℕ). begin i m v) (sym p);
        })
    go shut e = row-shuts k d (get_or full j false) j r x e
    go (refuse m) e = tt

pub act-told : (k : Known) (d : Digits) (t : List Rule) (full : List Bool) (n : ℕ) (f : Form) → keys_ok t ≡ true → Tells n f → n ≤ 512 → ActTold k d d t full (act k t d full f)
act-told k d t full n ignored ok tells fit = tt
act-told k d t full n (wrong m) ok tells fit = tt
act-told k d t full n close ok tells fit = go (complete d t full) refl
  where
    go : (b : Bool) → complete d t full ≡ b → ActTold k d d t full (cond b shut (refuse 8))
    go true e = e
    go false e = tt
act-told k d t full n eof ok tells fit = tt
act-told k d t full n (keyed key x) ok tells fit = go (find key t) refl
  where
    go : (f : Found) → find key t ≡ f → ActTold k d d t full (act_found k d full x f)
    go absent e = unknown-told k d d t full x
    go (found j r) e = let (w, q) = found-row key t j r e in row_told k d d t full n key x j r w q ok tells fit

-- a line in a block of the table t
pub on-act : (P : State → Type 0) (k : Known) (d : Digits) (t : List Rule) (full : List Bool) (n : ℕ) (f : Form) → keys_ok t ≡ true → Tells n f → n ≤ 512 → (stays : State)
    (en : ℕ → Value → Got State) (op : ℕ → ℕ → Value → Got State) (cl : Got State) → P stays → ((j : ℕ) (v : Value) → Took k d t full j v false (entry j v) → On P (en j v))
    → ((i j : ℕ) (v : Value) → Took k d t full j v true (begin i j v) → On P (op i j v)) → (complete d t full ≡ true → On P cl) → On P (by_act stays en op (λ _. cl) (act k t d full f))
on-act P k d t full n f ok tells fit stays en op cl = on-by_act P k d d t full stays en op cl (act k t d full f) (act-told k d t full n f ok tells fit)

-- ── a test over a table's rows, with their numbers ──
abbrev pub all_at : (ℕ → Rule → Bool) → List Rule → Bool
all_at p [] = true
all_at p (r ∷ t) = p 0 r && all_at (λ j. p (suc j)) t

pub row-all-at : (p : ℕ → Rule → Bool) {t : List Rule} {j : ℕ} {r : Rule} → Row t j r → all_at p t ≡ true → p j r ≡ true
row-all-at p (here {r = r}) e = and_left (p 0 r) _ e
row-all-at p (there {q = q} w) e = row-all-at (λ j. p (suc j)) w (and_right (p 0 q) _ e)

-- ── slots ──
pub good-set : (P : Rule → Value → Type 0) {t : List Rule} {j : ℕ} {r : Rule} → Row t j r → (s : Slots) (v : Value) → GoodSlots P t s → P r v → GoodSlots P t (set s j (Some v))
good-set P here [] v g x = absurd g
good-set P here (None ∷ s) v g x = (x, g)
good-set P here (Some u ∷ s) v g x = (x, g.1)
good-set P (there w) [] v g x = absurd g
good-set P (there w) (None ∷ s) v g x = good-set P w s v g x
good-set P (there w) (Some u ∷ s) v g x = (g.0, good-set P w s v g.1 x)

-- the slot that was filled
pub slot-set : (P : Rule → Value → Type 0) {t : List Rule} {j : ℕ} {r : Rule} → Row t j r → (s : Slots) (o : Option Value) → GoodSlots P t s → get_or (set s j o) j None ≡ o
slot-set P here [] o g = absurd g
slot-set P here (u ∷ s) o g = refl
slot-set P (there w) [] o g = absurd g
slot-set P (there w) (None ∷ s) o g = slot-set P w s o g
slot-set P (there w) (Some u ∷ s) o g = slot-set P w s o g.1

-- a row that is not marked holds nothing
pub unmarked : (s : Slots) (j : ℕ) → get_or (rows_there s) j false ≡ false → is_some (get_or s j None) ≡ false
unmarked s j e = sym (get_or-map is_some s j None) ∙ e

-- a row of a complete block is there, where it must be
pub complete-at : (P : Rule → Value → Type 0) (d : Digits) (t : List Rule) (j : ℕ) (s : Slots) → j < length t → GoodSlots P t s → complete d t (rows_there s) ≡ true
    → present d (rule_at t j) (is_some (get_or s j None)) ≡ true
complete-at P d [] j s l g e = absurd (omega arith)
complete-at P d (r ∷ t) j [] l g e = absurd g
complete-at P d (r ∷ t) zero (o ∷ s) l g e = and_left (present d r (is_some o)) _ e
complete-at P d (r ∷ t) (suc j) (None ∷ s) l g e = complete-at P d t j s (omega arith) g (and_right (present d r false) _ e)
complete-at P d (r ∷ t) (suc j) (Some u ∷ s) l g e = complete-at P d t j s (omega arith) g.1 (and_right (present d r true) _ e)

-- ── rows that hold numbers alone ──
abbrev pub only_numbers : Rule → Bool
only_numbers r = numbers_only r.holds && not r.may

pub not-empty : (d : Kind) (may : Bool) → numbers_only d ≡ true → may ≡ false → fits d may no_content ≡ false
not-empty (values p ps a) may e q = rw q
not-empty (text n b) may e q = clash e refl
not-empty (word n b) may e q = clash e refl
not-empty volume_name may e q = clash e refl
not-empty sheet may e q = clash e refl
not-empty ratio may e q = clash e refl
not-empty serials may e q = clash e refl
not-empty wire_serial may e q = clash e refl
not-empty symbol_circle may e q = rw q
not-empty nothing may e q = clash e refl
not-empty (opens i) may e q = refl
not-empty (headed i p) may e q = clash e refl
not-empty (either i) may e q = clash e refl

read-numbers : (k : Known) (d : Kind) (at : ℕ) (c : List ℕ) (v : Value) → numbers_only d ≡ true → read_kind k d at c ≡ got v → nums (nums_of v) ≡ v
read-numbers k (values p ps a) at c v o e = let (u, g, q) = map-got nums (keep 11 (agree a) (read_all k (p ∷ ps) (split 44 c))) v e in subst (λ (v : Value). nums (nums_of v) ≡ v) q refl
read-numbers k (text n b) at c v o e = clash o refl
read-numbers k (word n b) at c v o e = clash o refl
read-numbers k volume_name at c v o e = clash o refl
read-numbers k sheet at c v o e = clash o refl
read-numbers k ratio at c v o e = clash o refl
read-numbers k serials at c v o e = clash o refl
read-numbers k wire_serial at c v o e = clash o refl
read-numbers k symbol_circle at c v o e = let (u, g, q) = map-got nums (read_circle k (split 44 c)) v e in subst (λ (v : Value). nums (nums_of v) ≡ v) q refl
read-numbers k nothing at c v o e = clash o refl
read-numbers k (opens i) at c v o e = never e
read-numbers k (headed i p) at c v o e = clash o refl
read-numbers k (either i) at c v o e = clash o refl

-- an entry of such a row is its numbers
pub entry-numbers : (k : Known) (d : Digits) (full : Bool) (j : ℕ) (r : Rule) (x : Rest) (m : ℕ) (v : Value) → only_numbers r ≡ true → act_row k d full j r x ≡ entry m v → nums (nums_of v) ≡ v
entry-numbers k d full j r x m v o e =
    let w = row-did k d full j r x (entry m v) refl e in
    let kind = and_left (numbers_only r.holds) _ o in
    let (at, c, q) = read-entry k j r (shape_for r x) m v w.read (not-empty r.holds r.may kind (not-true r.may (and_right (numbers_only r.holds) _ o))) w.fit in
    read-numbers k r.holds at c v kind q

-- a wire's rows before its text, those of elements and those that repeat, are such rows
abbrev of_numbers : ℕ → Rule → Bool
of_numbers j r = not (ltb j wire_text_row) || only_numbers r

wire-numbers : all_at of_numbers wire_table ≡ true
unfolding wire_table
wire-numbers = refl

pub numbers-row : {j : ℕ} {r : Rule} → Row wire_table j r → ltb j wire_text_row ≡ true → only_numbers r ≡ true
numbers-row at low = rw low at (row-all-at of_numbers at wire-numbers)

-- ── the row that took a value, by its number ──
pub opened-at : {k : Known} {d : Digits} {t : List Rule} {full : List Bool} {j : ℕ} {v : Value} {o : Bool} {a : Act} → Took k d t full j v o a → opens_block (rule_at t j).holds v ≡ o
opened-at {v = v} w = ap (λ (r : Rule). opens_block r.holds v) (row_at w.row _) ∙ w.opened-is

pub inner-at : {k : Known} {d : Digits} {t : List Rule} {full : List Bool} {i j : ℕ} {v : Value} {o : Bool} → Took k d t full j v o (begin i j v) → i ≡ inner_of (rule_at t j).holds
inner-at w = w.inside ∙ sym (ap (λ (r : Rule). inner_of r.holds) (row_at w.row _))

-- only these rows open a block
pub open_at : {k : Known} {d : Digits} {t : List Rule} {full : List Bool} {j : ℕ} {v : Value} {a : Act} (ok : ℕ → Bool) → Took k d t full j v true a
    → all_at (λ j r. ok j || not (opens_block r.holds v)) t ≡ true → ok j ≡ true
open_at {j = j} {v = v} ok w e = or_left (ok j) _ (ap not w.opened-is) (row-all-at (λ j r. ok j || not (opens_block r.holds v)) w.row e)

pub level_by : {k : Known} {d : Digits} {t : List Rule} {full : List Bool} {j : ℕ} {v : Value} {o : Bool} {a : Act} → Took k d t full j v o a → (q : ℕ) → j ≡ q → reaches d (rule_at t q).least ≡ true
level_by {d = d} {t = t} w q e =
    subst (λ (q : ℕ). reaches d (rule_at t q).least ≡ true) e (ap (λ (r : Rule). reaches d r.least) (row_at w.row _) ∙ w.good.level)
