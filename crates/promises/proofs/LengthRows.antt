-- One line in a block of rows: what it adds to the weight of what is held.
use Rattle.std.specs.Prelude.{Some}
use Prim.Native.Nat.{ℕ, ◌+◌, ◌≤◌}
use mathlib.Core.Bool.{Bool, true, false, cond}
use mathlib.Core.List.{List, [], ◌∷◌, ◌++◌}
use mathlib.Core.Path.{◌≡◌, refl, sym, ap, subst}
use native.Mathlib.Omega.{arith}
use lib.Dec.{leb}
use lib.ListN.{length, get_or, set, length-append}
use borrow.Author.Tests.{leb-true}
use Rattle.rules.specs.declared.Digits.{Digits}
use Rattle.rules.specs.Base.{bytes, all, same}
use Rattle.rules.specs.RefusalNumbers.{Got, bad, unless}
use Rattle.rules.specs.Lines.{Rest, brace, equals, Form, ignored, wrong, close, eof, keyed, Shape, opener, no_content, content, opening, formless, shape_of, has_form}
use Rattle.rules.specs.Values.{Value, empty, nums, chars, linked, Known, Part, Kind, values, text, word, volume_name, sheet, ratio, serials, wire_serial, symbol_circle, nothing, opens, headed, either, read_part, read_kind, nums_of, show_content}
use Rattle.rules.specs.Rows.{Rule, row, Found, absent, found, find, Slots, Held, part_of, enter, rows_there, shape_for, Act, stay, entry, begin, shut, refuse, or_refuse, inner_of, read_shape, act_row, act_unknown, act_found, act, complete}
use Rattle.rules.specs.Machine.{State, by_act}
use Rattle.rules.specs.RecordTable.{rule_at}
use Rattle.rules.specs.FixedForm.{open_line, opens_block, behind, line_of}
use Rattle.rules.proofs.Chains.{On, on-map, on-all, on-got, same-eq, clash}
use Rattle.rules.proofs.Rows.{Row, found-row, row-all, row_at, row-did}
use Rattle.promises.proofs.Forms.{Told, key_ok, keys_ok}
use Rattle.promises.proofs.RowGood.{entry-good, begin-good, numbers_only}
use Rattle.promises.proofs.Weights.{open-kind, inner_cost, inner_open, slots_cost, set-cost, held_cost, set-held}

-- ── a line that opens ──
-- it has its key and `:{` at least
pub open-line : (k : Known) (r : Rule) (v : Value) → opens_block r.holds v ≡ true → length r.key + 2 ≤ length (line_of k r v)
open-line k r v o =
    open-kind (λ d. opens_block d v ≡ true → length r.key + 2 ≤ length (r.key ++ behind k d v))
    (λ i e. omega (arith, length-append r.key (bytes ":{")))
    (λ i p e. omega (arith, length-append r.key (61 ∷ open_line (show_content k (headed i p) v)), length-append (show_content k (headed i p) v) (bytes ":{")))
    (λ i e. rw e (omega (arith, length-append r.key (61 ∷ open_line (show_content k (either i) v)), length-append (show_content k (either i) v) (bytes ":{"))))
    r.holds v o o

-- ── what a line did that was taken under a row: it opened a block or not ──
abbrev pub Took : Known → Rule → Bool → Value → ℕ → Bool → Type 0
Took k r full v n b = (full ≡ false) × (opens_block r.holds v ≡ b) × (length (line_of k r v) ≤ n) × (length r.key + 1 ≤ n)

-- a `}` more, where it opened one
abbrev pub owes : Bool → ℕ
owes b = cond b 3 0

pub slots-took : {t : List Rule} {j : ℕ} {r : Rule} → Row t j r → (k : Known) (s : Slots) (v : Value) (n : ℕ) (b : Bool) → Took k r (get_or (rows_there s) j false) v n b
    → slots_cost k t (set s j (Some v)) ≤ slots_cost k t s + (n + 2) + owes b
slots-took w k s v n b (f, o, l, m) = omega (arith, set-cost w k s v f, ap owes o)

pub held-took : (ts : List (List Rule)) (p : ℕ) {j : ℕ} {r : Rule} → Row (get_or ts p []) j r → (k : Known) (h : Held) (v : Value) (n : ℕ) (b : Bool)
    → Took k r (get_or (rows_there (part_of h p)) j false) v n b → held_cost k ts (enter h p j v) ≤ held_cost k ts h + (n + 2) + owes b
held-took ts p {j} w k h v n b u = omega (arith, set-held k ts h p (set (part_of h p) j (Some v)), slots-took w k (part_of h p) v n b u)

-- the opening lines of a table's inner blocks, by their numbers
abbrev pub heads : (ℕ → ℕ) → List Rule → Bool
heads w t = all (λ r. leb (inner_cost w r.holds) (length r.key + 2)) t

pub head-took : (w : ℕ → ℕ) {t : List Rule} {j : ℕ} {r : Rule} → Row t j r → heads w t ≡ true → (k : Known) (full : Bool) (v : Value) (n : ℕ) → Took k r full v n true
    → w (inner_of r.holds) ≤ n
head-took w {r = r} at e k full v n (f, o, l, m) =
    omega (arith, leb-true (inner_cost w r.holds) (length r.key + 2) (row-all (λ r. leb (inner_cost w r.holds) (length r.key + 2)) at e), inner_open w r.holds v o, open-line k r v o, l)

-- figures and points: their values are kept as numbers
pub behind-nums : (k : Known) (d : Kind) (v : Value) → numbers_only d ≡ true → behind k d (nums (nums_of v)) ≡ behind k d v
behind-nums k (values p ps a) empty e = refl
behind-nums k (values p ps a) (nums v) e = refl
behind-nums k (values p ps a) (chars at c) e = refl
behind-nums k (values p ps a) (linked n ns) e = refl
behind-nums k (text n b) v e = clash e refl
behind-nums k (word n b) v e = clash e refl
behind-nums k volume_name v e = clash e refl
behind-nums k sheet v e = clash e refl
behind-nums k ratio v e = clash e refl
behind-nums k serials v e = clash e refl
behind-nums k wire_serial v e = clash e refl
behind-nums k symbol_circle empty e = refl
behind-nums k symbol_circle (nums v) e = refl
behind-nums k symbol_circle (chars at c) e = refl
behind-nums k symbol_circle (linked n ns) e = refl
behind-nums k nothing v e = clash e refl
behind-nums k (opens i) v e = refl
behind-nums k (headed i p) v e = clash e refl
behind-nums k (either i) v e = clash e refl

abbrev pub figure_rows : List Rule → Bool
figure_rows t = all (λ r. numbers_only r.holds) t

pub row-took : {t : List Rule} {j : ℕ} {r : Rule} → Row t j r → numbers_only r.holds ≡ true → (k : Known) (full : Bool) (v : Value) (n : ℕ) (b : Bool) → Took k r full v n b
    → length (line_of k (rule_at t j) (nums (nums_of v))) ≤ n
row-took {r = r} w e k full v n b (f, o, l, m) = rw (row_at w (row "" (opens 0) 0), behind-nums k r.holds v e) l

pub nums-took : {t : List Rule} {j : ℕ} {r : Rule} → Row t j r → figure_rows t ≡ true → (k : Known) (full : Bool) (v : Value) (n : ℕ) (b : Bool) → Took k r full v n b
    → length (line_of k (rule_at t j) (nums (nums_of v))) ≤ n
nums-took w e k full v n b u = row-took w (row-all (λ r. numbers_only r.holds) w e) k full v n b u

-- ── a line in a block of rows ──
key-least : (n : ℕ) (k : List ℕ) (x : Rest) → Told n (keyed k x) → length k + 1 ≤ n
key-least n k brace t = omega arith
key-least n k (equals p c) t = omega (arith, t.0)

module _ (P : State → Type 0) (here : State) (en : ℕ → Value → Got State) (op : ℕ → ℕ → Value → Got State) (cl : Got State) (k k' : Known) (d : Digits) (n : ℕ) where
  -- under a row that was found, read with k, weighed with k'
  pub on_row : (full : Bool) (j : ℕ) (r : Rule) (x : Rest) → key_ok r.key ≡ true → ((v : Value) → line_of k r v ≡ line_of k' r v) → Told n (keyed r.key x)
      → P here
      → ((v : Value) → Took k' r full v n false → On P (en j v))
      → ((v : Value) → Took k' r full v n true → act_row k d full j r x ≡ begin (inner_of r.holds) j v → On P (op (inner_of r.holds) j v))
      → (1 ≤ n → On P cl)
      → On P (by_act here en op (λ _. cl) (act_row k d full j r x))
  on_row full j r x key same t st ent beg clo = go (act_row k d full j r x) refl
    where
      go : (a : Act) → act_row k d full j r x ≡ a → On P (by_act here en op (λ _. cl) a)
      go stay e = st
      go (entry j' v) e =
          let (p, o, f, w) = entry-good k d full j r x n j' v key t.0 t.1 e in
          subst (λ (m : ℕ). On P (en m v)) p (ent v (f, o, omega (arith, ap length (same v), w.no_longer), key-least n r.key x t))
      go (begin i j' v) e =
          let (a, p, o, f, w) = begin-good k d full j r x n i j' v key t.0 t.1 e in
          let q : act_row k d full j r x ≡ begin (inner_of r.holds) j v = cc in
          subst (λ (m : ℕ). On P (op m j' v)) (sym a)
          (subst (λ (m : ℕ). On P (op (inner_of r.holds) m v)) p (beg v (f, o, omega (arith, ap length (same v), w.no_longer), key-least n r.key x t) q))
      go shut e = clo (omega (arith, key-least n r.key x t))
      go (refuse m) e = tt

  -- a key that is not known is refused
  pub on-unknown : (x : Rest) → On P (by_act here en op (λ _. cl) (act_unknown x))
  on-unknown x = go (has_form (shape_of x))
    where
      go : (b : Bool) → On P (by_act here en op (λ _. cl) (or_refuse (unless b 5 (bad 6))))
      go true = tt
      go false = tt

  pub on-act : (t : List Rule) (full : List Bool) (f : Form) → keys_ok t ≡ true → ((j : ℕ) (r : Rule) → Row t j r → (v : Value) → line_of k r v ≡ line_of k' r v) → Told n f
      → P here
      → ((j : ℕ) (r : Rule) (v : Value) → Row t j r → Took k' r (get_or full j false) v n false → On P (en j v))
      → ((j : ℕ) (r : Rule) (v : Value) → Row t j r → Took k' r (get_or full j false) v n true → (x : Rest) → act_row k d (get_or full j false) j r x ≡ begin (inner_of r.holds) j v → On P (op (inner_of r.holds) j v))
      → (1 ≤ n → On P cl)
      → On P (by_act here en op (λ _. cl) (act k t d full f))
  on-act t full ignored keys same tells st ent beg clo = st
  on-act t full (wrong m) keys same tells st ent beg clo = tt
  on-act t full close keys same tells st ent beg clo = go (complete d t full)
    where
      go : (b : Bool) → On P (by_act here en op (λ _. cl) (cond b shut (refuse 8)))
      go true = clo tells.0
      go false = tt
  on-act t full eof keys same tells st ent beg clo = tt
  on-act t full (keyed key x) keys same tells st ent beg clo = go (find key t) refl
    where
      go : (g : Found) → find key t ≡ g → On P (by_act here en op (λ _. cl) (act_found k d full x g))
      go absent e = on-unknown x
      go (found j r) e =
          let (w, q) = found-row key t j r e in
          on_row (get_or full j false) j r x (row-all (λ r. key_ok r.key) w keys) (same j r w) (subst (λ (s : List ℕ). Told n (keyed s x)) (same-eq key r.key q) tells) st
          (λ v. ent j r v w) (λ v u. beg j r v w u x) clo

-- ── a value behind a key that opens is never empty ──
abbrev pub is_written : Value → Bool
is_written empty = false
is_written (nums v) = true
is_written (chars at c) = true
is_written (linked n ps) = true

abbrev Opened : Act → Type 0
Opened stay = Unit {0}
Opened (entry j v) = Unit {0}
Opened (begin i j v) = is_written v ≡ true
Opened shut = Unit {0}
Opened (refuse n) = Unit {0}

shape-opened : (k : Known) (j : ℕ) (r : Rule) (s : Shape) → ((at : ℕ) (c : List ℕ) → On (λ v. is_written v ≡ true) (read_kind k r.holds at c)) → On Opened (read_shape k j r s)
shape-opened k j r opener h = refl
shape-opened k j r no_content h = tt
shape-opened k j r (content at c) h = on-map Opened (entry j) (read_kind k r.holds at c) (on-all (λ v. Unit {0}) (λ v. tt) (read_kind k r.holds at c))
shape-opened k j r (opening at c) h = on-map Opened (begin (inner_of r.holds) j) (read_kind k r.holds at c) (h at c)
shape-opened k j r formless h = tt

pub head-written : (k : Known) (d : Digits) (full : Bool) (j : ℕ) (r : Rule) (x : Rest) (i : ℕ) (p : Part) (v : Value) → r.holds ≡ headed i p
    → act_row k d full j r x ≡ begin (inner_of r.holds) j v → is_written v ≡ true
head-written k d full j r x i p v q e =
    on-got Opened (read_shape k j r (shape_for r x)) (begin (inner_of r.holds) j v)
    (shape-opened k j r (shape_for r x) λ at c. subst (λ d. On (λ v. is_written v ≡ true) (read_kind k d at c)) (sym q)
    (on-map (λ v. is_written v ≡ true) (λ n. nums (n ∷ [])) (read_part k p c) (on-all _ (λ n. refl) (read_part k p c))))
    (row-did k d full j r x (begin (inner_of r.holds) j v) refl e).read
