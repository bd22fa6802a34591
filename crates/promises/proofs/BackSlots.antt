-- Lines written and read again, one after the other: the lines of a volume, what a text leads to, and the slots of a block.
use Rattle.std.specs.Prelude.{Option, Some, None}
use Prim.Native.Nat.{ℕ, zero, suc}
use mathlib.Core.Bool.{Bool, true, false, cond, ◌&&◌, ◌||◌, not}
use mathlib.Core.List.{List, [], ◌∷◌}
use mathlib.Core.Path.{◌≡◌, refl, sym, ◌∙◌, ap, subst}
use lib.ListN.{get_or, set}
use borrow.Author.Tests.{not-true}
use Rattle.rules.specs.declared.Digits.{Digits}
use Rattle.rules.specs.Base.{bytes, all, is_nil, is_some}
use Rattle.rules.specs.RefusalNumbers.{got}
use Rattle.rules.specs.Lines.{close, form_of}
use Rattle.rules.specs.RangeClass.{reaches}
use Rattle.rules.specs.Values.{Value, empty, nums, chars, linked, Known, Kind, values, text, word, volume_name, sheet, ratio, serials, wire_serial, symbol_circle, nothing, opens, headed, either}
use Rattle.rules.specs.Rows.{Rule, Slots, blank, rows_there, entry, begin, inner_of, act, present, complete}
use Rattle.rules.specs.Sets.{Set}
use Rattle.rules.specs.Machine.{unlimited, Line, Env, State}
use Rattle.rules.specs.LineByLine.{step_in, run}
use Rattle.rules.specs.FixedForm.{Text, opens_block, line_of, show_value, show_slots}
use Rattle.rules.specs.Answers.{full_class}
use Rattle.rules.proofs.Chains.{and_left, and_right, clash}
use Rattle.rules.proofs.Rows.{Row, here, there, differ, row-all, row-find}
use Rattle.promises.specs.PlacesApart.{bare_value, bare_slots, bare_form}
use Rattle.promises.proofs.Good.{GoodRow, GoodSlots, written_act}

-- ── the lines ──
-- a text line as a line of the reading, with no places: the last of its volume or not, and the name of the volume that follows
abbrev pub line_for : List ℕ → Bool → List ℕ → Line
line_for next last l = record { volume = 0; line = 0; last = last; next = next; form = bare_form (form_of 0 l) }

-- the lines of one volume, before the lines of further volumes
abbrev pub lay : List ℕ → Text → List Line → List Line
lay next [] more = more
lay next (l ∷ ls) more = line_for next (is_nil ls) l ∷ lay next ls more

-- all volumes
abbrev pub lay_all : List (List ℕ) → List Text → List Line
lay_all [] vs = []
lay_all (n ∷ ns) [] = []
lay_all (n ∷ ns) (v ∷ vs) = lay n v (lay_all ns vs)

abbrev pub plain_env : Env
plain_env = unlimited full_class

pub close-form : bare_form (form_of 0 (bytes "}")) ≡ close
unfolding form_of
close-form = refl

-- the set with another count of records taken
abbrev pub retaken : ℕ → Set → Set
retaken n s = record { drawing = s.drawing; symbols = s.symbols; volumes = s.volumes; now = s.now; taken = n }

-- ── a text that leads from a state to a state ──
-- whatever lines follow it, and there are some: so no line of it is the last of its volume
pub record Reads (next : List ℕ) (st : State) (f : Text → Text) (st' : State) : Type 0 where
  pub goes : (ls : Text) → is_nil ls ≡ false → is_nil (f ls) ≡ false
  pub leads : (ls : Text) (more : List Line) → is_nil ls ≡ false → run plain_env st (lay next (f ls) more) ≡ run plain_env st' (lay next ls more)

pub one_line : (next l : List ℕ) (st st' : State) → step_in plain_env (line_for next false l) st ≡ got st' → Reads next st (λ ls. l ∷ ls) st'
one_line next l st st' e =
    record {
      goes = λ ls p. refl;
      leads = λ ls more p. rw (p, e);
    }

pub no_lines : (next : List ℕ) (st : State) → Reads next st (λ ls. ls) st
no_lines next st = record { goes = λ ls p. p; leads = λ ls more p. refl }

pub ◌and◌ : {next : List ℕ} {st st' st'' : State} {f g : Text → Text} → Reads next st f st' → Reads next st' g st'' → Reads next st (λ ls. f (g ls)) st''
◌and◌ {g = g} p q =
    record {
      goes = λ ls e. p.goes (g ls) (q.goes ls e);
      leads = λ ls more e. p.leads (g ls) more (q.goes ls e) ∙ q.leads ls more e;
    }

infixr 20 ◌and◌
-- ── slots ──
-- a row that is there and holds nothing yet
abbrev pub Free : Slots → ℕ → Type 0
Free [] i = ⊥
Free (o ∷ u) zero = o ≡ None
Free (o ∷ u) (suc i) = Free u i

pub free-mark : (u : Slots) (i : ℕ) → Free u i → get_or (rows_there u) i false ≡ false
free-mark [] i f = refl
free-mark (o ∷ u) zero f = rw f
free-mark (o ∷ u) (suc i) f = free-mark u i f

-- each row that is written, with its inner lines, is read and entered
abbrev pub Takes : List ℕ → Known → (ℕ → Text → Text) → (Rule → Value → Type 0) → (Slots → State) → List Rule → Slots → Type 0
Takes next k inner P K t s =
    (i : ℕ) (r : Rule) (v : Value) → Row t i r → get_or s i None ≡ Some v → P r v → (u : Slots) → Free u i
    → Reads next (K u) (show_value k r v inner) (K (set u i (Some (bare_value v))))

pub read-slots : (next : List ℕ) (k : Known) (inner : ℕ → Text → Text) (P : Rule → Value → Type 0) (K : Slots → State) (t : List Rule) (s : Slots)
    → GoodSlots P t s → Takes next k inner P K t s → Reads next (K (blank t)) (show_slots k t s inner) (K (bare_slots s))
read-slots next k inner P K [] [] g a = no_lines next (K [])
read-slots next k inner P K [] (o ∷ s) g a = absurd g
read-slots next k inner P K (r ∷ t) [] g a = absurd g
read-slots next k inner P K (r ∷ t) (None ∷ s) g a =
    read-slots next k inner P (λ u. K (None ∷ u)) t s g (λ i q v w e p u f. a (suc i) q v (there w) e p (None ∷ u) f)
read-slots next k inner P K (r ∷ t) (Some v ∷ s) g a =
    a 0 r v here refl g.0 (None ∷ blank t) refl
    and read-slots next k inner P (λ u. K (Some (bare_value v) ∷ u)) t s g.1 (λ i q w x e p u f. a (suc i) q w (there x) e p (Some (bare_value v) ∷ u) f)

-- ── what the line of a row does ──
module _ (k : Known) (d : Digits) (t : List Rule) (i : ℕ) (r : Rule) (v : Value) (w : Row t i r) (g : GoodRow k d r v) where
  act-row : differ t ≡ true → (full : List Bool) → get_or full i false ≡ false → act k t d full (bare_form (form_of 0 (line_of k r v))) ≡ written_act i r v
  act-row e full f = rw (g.form 0, row-find w e, f) (g.again i)

  pub act-entry : differ t ≡ true → (full : List Bool) → get_or full i false ≡ false → opens_block r.holds v ≡ false
      → act k t d full (bare_form (form_of 0 (line_of k r v))) ≡ entry i (bare_value v)
  act-entry e full f o = rw (act-row e full f, o)

  pub act-begin : differ t ≡ true → (full : List Bool) → get_or full i false ≡ false → opens_block r.holds v ≡ true
      → act k t d full (bare_form (form_of 0 (line_of k r v))) ≡ begin (inner_of r.holds) i (bare_value v)
  act-begin e full f o = rw (act-row e full f, o)

-- ── rows that open inner blocks ──
abbrev pub opens_in : Kind → Option Value → Bool
opens_in d None = false
opens_in d (Some v) = opens_block d v

-- is the inner block of row j open or behind us?
abbrev pub opens_at : List Rule → Slots → ℕ → Bool
opens_at [] u j = false
opens_at (r ∷ t) [] j = false
opens_at (r ∷ t) (o ∷ u) zero = opens_in r.holds o
opens_at (r ∷ t) (o ∷ u) (suc j) = opens_at t u j

opens-bare : (d : Kind) (v : Value) → opens_block d (bare_value v) ≡ opens_block d v
opens-bare (values p ps a) v = refl
opens-bare (text n b) v = refl
opens-bare (word n b) v = refl
opens-bare volume_name v = refl
opens-bare sheet v = refl
opens-bare ratio v = refl
opens-bare serials v = refl
opens-bare wire_serial v = refl
opens-bare symbol_circle v = refl
opens-bare nothing v = refl
opens-bare (opens i) v = refl
opens-bare (headed i p) v = refl
opens-bare (either i) empty = refl
opens-bare (either i) (nums v) = refl
opens-bare (either i) (chars at c) = refl
opens-bare (either i) (linked n ps) = refl

-- a row that opens nothing changes none of this
pub still : {t : List Rule} {i : ℕ} {r : Rule} → Row t i r → (u : Slots) → Free u i → (v : Value) → opens_block r.holds v ≡ false → (j : ℕ)
    → opens_at t (set u i (Some (bare_value v))) j ≡ opens_at t u j
still here [] f v e j = refl
still (here {r = r}) (o ∷ u) f v e zero = opens-bare r.holds v ∙ e ∙ sym (ap (opens_in r.holds) f)
still here (o ∷ u) f v e (suc j) = refl
still (there w) [] f v e j = refl
still (there w) (o ∷ u) f v e zero = refl
still (there w) (o ∷ u) f v e (suc j) = still w u f v e j

-- the one that does opens its own
pub filled : {t : List Rule} {i : ℕ} {r : Rule} → Row t i r → (u : Slots) → Free u i → (v : Value) → opens_block r.holds v ≡ true
    → opens_at t (set u i (Some (bare_value v))) i ≡ true
filled here [] f v e = absurd f
filled (here {r = r}) (o ∷ u) f v e = opens-bare r.holds v ∙ e
filled (there w) [] f v e = absurd f
filled (there w) (o ∷ u) f v e = filled w u f v e

pub unfilled : (t : List Rule) (u : Slots) (i : ℕ) → Free u i → opens_at t u i ≡ false
unfilled [] u i f = refl
unfilled (r ∷ t) [] i f = refl
unfilled (r ∷ t) (o ∷ u) zero f = ap (opens_in r.holds) f
unfilled (r ∷ t) (o ∷ u) (suc i) f = unfilled t u i f

pub unmoved : (t : List Rule) (u : Slots) (i j : ℕ) (x : Option Value) → (i ≡ j → ⊥) → opens_at t (set u i x) j ≡ opens_at t u j
unmoved [] u i j x n = refl
unmoved (r ∷ t) [] i j x n = refl
unmoved (r ∷ t) (o ∷ u) zero zero x n = absurd (n refl)
unmoved (r ∷ t) (o ∷ u) zero (suc j) x n = refl
unmoved (r ∷ t) (o ∷ u) (suc i) zero x n = refl
unmoved (r ∷ t) (o ∷ u) (suc i) (suc j) x n = unmoved t u i j x (λ e. n (ap suc e))

-- at the end: as what was written says
pub opens-end : (P : Rule → Value → Type 0) {t : List Rule} {i : ℕ} {r : Rule} → Row t i r → (s : Slots) → GoodSlots P t s
    → opens_at t (bare_slots s) i ≡ opens_in r.holds (get_or s i None)
opens-end P here [] g = refl
opens-end P here (None ∷ s) g = refl
opens-end P (here {r = r}) (Some v ∷ s) g = opens-bare r.holds v
opens-end P (there w) [] g = refl
opens-end P (there w) (None ∷ s) g = opens-end P w s g
opens-end P (there w) (Some v ∷ s) g = opens-end P w s g.1

-- ── tables no row of which opens anything ──
abbrev pub may_open : Kind → Bool
may_open (values p ps a) = false
may_open (text n b) = false
may_open (word n b) = false
may_open volume_name = false
may_open sheet = false
may_open ratio = false
may_open serials = false
may_open wire_serial = false
may_open symbol_circle = false
may_open nothing = false
may_open (opens i) = true
may_open (headed i p) = true
may_open (either i) = true

pub calm-kind : (d : Kind) (v : Value) → may_open d ≡ false → opens_block d v ≡ false
calm-kind (values p ps a) v e = refl
calm-kind (text n b) v e = refl
calm-kind (word n b) v e = refl
calm-kind volume_name v e = refl
calm-kind sheet v e = refl
calm-kind ratio v e = refl
calm-kind serials v e = refl
calm-kind wire_serial v e = refl
calm-kind symbol_circle v e = refl
calm-kind nothing v e = refl
calm-kind (opens i) v e = clash refl e
calm-kind (headed i p) v e = clash refl e
calm-kind (either i) v e = clash refl e

abbrev pub calm : List Rule → Bool
calm t = all (λ r. not (may_open r.holds)) t

pub calm-row : {t : List Rule} {i : ℕ} {r : Rule} → Row t i r → calm t ≡ true → (v : Value) → opens_block r.holds v ≡ false
calm-row {r = r} w e v = calm-kind r.holds v (not-true (may_open r.holds) (row-all (λ r. not (may_open r.holds)) w e))

-- each row that opens nothing is entered by its line
abbrev pub Enters : List ℕ → Known → (Rule → Value → Type 0) → (Slots → State) → List Rule → Type 0
Enters next k P K t =
    (i : ℕ) (r : Rule) (v : Value) → Row t i r → P r v → (u : Slots) → Free u i → opens_block r.holds v ≡ false
    → step_in plain_env (line_for next false (line_of k r v)) (K u) ≡ got (K (set u i (Some (bare_value v))))

pub entered : (next : List ℕ) (k : Known) (inner : ℕ → Text → Text) (r : Rule) (v : Value) (st st' : State) → opens_block r.holds v ≡ false
    → step_in plain_env (line_for next false (line_of k r v)) st ≡ got st' → Reads next st (show_value k r v inner) st'
entered next k inner r v st st' o e =
    subst (λ b. Reads next st (λ ls. line_of k r v ∷ cond b (inner (inner_of r.holds) (bytes "}" ∷ ls)) ls) st') (sym o) (one_line next (line_of k r v) st st' e)

pub opened : (next : List ℕ) (k : Known) (inner : ℕ → Text → Text) (r : Rule) (v : Value) (st mid st' : State) → opens_block r.holds v ≡ true
    → step_in plain_env (line_for next false (line_of k r v)) st ≡ got mid → Reads next mid (λ ls. inner (inner_of r.holds) (bytes "}" ∷ ls)) st'
    → Reads next st (show_value k r v inner) st'
opened next k inner r v st mid st' o e q =
    subst (λ b. Reads next st (λ ls. line_of k r v ∷ cond b (inner (inner_of r.holds) (bytes "}" ∷ ls)) ls) st') (sym o) (one_line next (line_of k r v) st mid e and q)

pub read-calm : (next : List ℕ) (k : Known) (inner : ℕ → Text → Text) (P : Rule → Value → Type 0) (K : Slots → State) (t : List Rule) (s : Slots) → calm t ≡ true
    → Enters next k P K t → GoodSlots P t s → Reads next (K (blank t)) (show_slots k t s inner) (K (bare_slots s))
read-calm next k inner P K t s c a g =
    read-slots next k inner P K t s g
    (λ i r v w e p u f. entered next k inner r v (K u) (K (set u i (Some (bare_value v)))) (calm-row w c v) (a i r v w p u f (calm-row w c v)))

-- what a closed block must have is there
needed : (P : Rule → Value → Type 0) (d : Digits) {t : List Rule} {i : ℕ} {r : Rule} → Row t i r → (s : Slots) → GoodSlots P t s → complete d t (rows_there s) ≡ true
    → (r.must && reaches d r.least) ≡ true → is_some (get_or s i None) ≡ true
needed P d here [] g c e = absurd g
needed P d (here {r = r}) (o ∷ s) g c e = go r.must (reaches d r.least) (is_some o) e (and_left (present d r (is_some o)) _ c)
  where
    go : (a b z : Bool) → (a && b) ≡ true → (not a || (not b || z)) ≡ true → z ≡ true
    go true true z e f = f
    go true false z e f = clash e refl
    go false b z e f = clash e refl
needed P d (there w) [] g c e = absurd g
needed P d (there {q = q} w) (None ∷ s) g c e = needed P d w s g (and_right (present d q false) _ c) e
needed P d (there {q = q} w) (Some v ∷ s) g c e = needed P d w s g.1 (and_right (present d q true) _ c) e

-- so the inner block of a row that always opens one has been opened
pub opens-needed : (P : Rule → Value → Type 0) (d : Digits) {t : List Rule} {i : ℕ} {r : Rule} → Row t i r → (s : Slots) → GoodSlots P t s → complete d t (rows_there s) ≡ true
    → (r.must && reaches d r.least) ≡ true → ((v : Value) → opens_block r.holds v ≡ true) → opens_at t (bare_slots s) i ≡ true
opens-needed P d {i = i} {r = r} w s g c e always = opens-end P w s g ∙ go (get_or s i None) (needed P d w s g c e)
  where
    go : (o : Option Value) → is_some o ≡ true → opens_in r.holds o ≡ true
    go None z = clash z refl
    go (Some v) z = always v
