-- A line's value put into a record that its block's rows filled: the same as the rows with that slot set.
use Rattle.std.specs.Prelude.{Option, Some, None}
use Prim.Native.Nat.{ℕ, zero, suc, ◌+◌, ◌<◌, ◌≤◌}
use mathlib.Core.Bool.{Bool, true, false, ◌&&◌, ◌||◌}
use mathlib.Core.List.{List, [], ◌∷◌}
use mathlib.Core.Path.{◌≡◌, refl, sym, ◌∙◌, ap}
use native.Mathlib.Omega.{arith}
use lib.Dec.{eqb, leb}
use lib.IntN.{ℤ, pos}
use lib.ListN.{length, get_or, set}
use lib.Seq.{sets, get_or-set_same, get_or-set_other, set-set, set_comm}
use borrow.Author.Tests.{eqb-true, leb-true}
use Rattle.rules.specs.Base.{all}
use Rattle.rules.specs.Values.{Value, Kind}
use Rattle.rules.specs.Rows.{Rule, Slots, Held, part_of, enter}
use Rattle.rules.specs.RecordTable.{numbers, numbers_of, given, state_of, columns, others, padded, put_numbers, put_state, put_slot, first_slot, other_slots, put_slots, put_parts, put_held, rule_at}
use Rattle.rules.proofs.Chains.{and_left, and_right, clash}
use Rattle.account.specs.Placing.{put_value, fills, clear, clear_rows, clear_row, clear_table, clear_parts, Shaped}

-- ── stores at different places ──
set-low : (l : List ℤ) (i j : ℕ) (a b : ℤ) → i < j → set (set l j b) i a ≡ set (set l i a) j b
set-low l i j a b h = sym (set_comm l i j a b (λ e. absurd (omega (arith, h, e))))

-- a store before a run of stores, and one behind it
sets-low : (vs l : List ℤ) (i j : ℕ) (a : ℤ) → i < j → set (sets l j vs) i a ≡ sets (set l i a) j vs
sets-low [] l i j a h = refl
sets-low (b ∷ vs) l i j a h = sets-low vs (set l j b) i (suc j) a (omega arith) ∙ ap (λ (u : List ℤ). sets u (suc j) vs) (set-low l i j a b h)

-- two runs, the first of them before the second
pub runs-low : (ws vs l : List ℤ) (i j : ℕ) → i + length ws ≤ j → sets (sets l j vs) i ws ≡ sets (sets l i ws) j vs
runs-low [] vs l i j h = refl
runs-low (a ∷ ws) vs l i j h = ap (λ (u : List ℤ). sets u (suc i) ws) (sets-low vs l i j a (omega arith)) ∙ runs-low ws vs (set l i a) (suc i) j (omega arith)

-- a run over a run of the same length
sets-again : (ys zs l : List ℤ) (i : ℕ) → length ys ≡ length zs → sets (sets l i ys) i zs ≡ sets l i zs
sets-again [] [] l i h = refl
sets-again [] (z ∷ zs) l i h = absurd (omega arith)
sets-again (y ∷ ys) [] l i h = absurd (omega arith)
sets-again (y ∷ ys) (z ∷ zs) l i h =
    ap (λ (u : List ℤ). sets u (suc i) zs) (sets-low ys (set l i y) i (suc i) z (omega arith) ∙ ap (λ (u : List ℤ). sets u (suc i) ys) (set-set l i y z))
    ∙ sets-again ys zs (set l i z) (suc i) (omega arith)

-- ── at a row's places ──
length-padded : (n : ℕ) (zs : List ℤ) → length (padded n zs) ≡ n
length-padded zero zs = refl
length-padded (suc n) zs = ap suc (length-padded n (others zs))

padded-full : (zs : List ℤ) → padded (length zs) zs ≡ zs
padded-full [] = refl
padded-full (z ∷ zs) = ap (λ (u : List ℤ). z ∷ u) (padded-full zs)

-- what was said with `clear`
data Clear (p m q n : ℕ) : Type 0 where
  first_nowhere : p ≡ 0 → Clear p m q n
  second_nowhere : q ≡ 0 → Clear p m q n
  before : p + m ≤ q → Clear p m q n
  behind : q + n ≤ p → Clear p m q n

cleared : (p m q n : ℕ) → clear p m q n ≡ true → Clear p m q n
cleared p m q n e = a (eqb p 0) refl e
  where
    d : (t : Bool) → leb (q + n) p ≡ t → t ≡ true → Clear p m q n
    d true h e = behind (leb-true (q + n) p h)
    d false h e = clash e refl

    c : (t : Bool) → leb (p + m) q ≡ t → (t || leb (q + n) p) ≡ true → Clear p m q n
    c true h e = before (leb-true (p + m) q h)
    c false h e = d (leb (q + n) p) refl e

    b : (t : Bool) → eqb q 0 ≡ t → (t || (leb (p + m) q || leb (q + n) p)) ≡ true → Clear p m q n
    b true h e = second_nowhere (eqb-true q 0 h)
    b false h e = c (leb (p + m) q) refl e

    a : (t : Bool) → eqb p 0 ≡ t → (t || (eqb q 0 || (leb (p + m) q || leb (q + n) p))) ≡ true → Clear p m q n
    a true h e = first_nowhere (eqb-true p 0 h)
    a false h e = b (eqb q 0) refl e

-- numbers and numbers
numbers_comm : (p q m n : ℕ) (vs ws l : List ℤ) → length vs ≤ m → length ws ≤ n → Clear p m q n → put_numbers p vs (put_numbers q ws l) ≡ put_numbers q ws (put_numbers p vs l)
numbers_comm zero q m n vs ws l a b c = refl
numbers_comm (suc p) zero m n vs ws l a b c = refl
numbers_comm (suc p) (suc q) m n vs ws l a b (first_nowhere e) = absurd (omega arith)
numbers_comm (suc p) (suc q) m n vs ws l a b (second_nowhere e) = absurd (omega arith)
numbers_comm (suc p) (suc q) m n vs ws l a b (before h) = runs-low vs ws l (suc p) (suc q) (omega arith)
numbers_comm (suc p) (suc q) m n vs ws l a b (behind h) = sym (runs-low ws vs l (suc q) (suc p) (omega arith))

-- a state is a run of one
state-run : (q : ℕ) (z : ℤ) (l : List ℤ) → put_state q z l ≡ put_numbers q (z ∷ []) l
state-run zero z l = refl
state-run (suc q) z l = refl

state_comm : (p q m : ℕ) (vs : List ℤ) (z : ℤ) (l : List ℤ) → length vs ≤ m → Clear p m q 1 → put_numbers p vs (put_state q z l) ≡ put_state q z (put_numbers p vs l)
state_comm p q m vs z l a c =
    ap (put_numbers p vs) (state-run q z l) ∙ numbers_comm p q m 1 vs (z ∷ []) l a (omega arith) c ∙ sym (state-run q z (put_numbers p vs l))

numbers-state : (p q n : ℕ) (ws : List ℤ) (z : ℤ) (l : List ℤ) → length ws ≤ n → Clear p 1 q n → put_state p z (put_numbers q ws l) ≡ put_numbers q ws (put_state p z l)
numbers-state p q n ws z l a c =
    state-run p z (put_numbers q ws l) ∙ numbers_comm p q 1 n (z ∷ []) ws l (omega arith) a c ∙ sym (ap (put_numbers q ws) (state-run p z l))

states_comm : (p q : ℕ) (y z : ℤ) (l : List ℤ) → Clear p 1 q 1 → put_state p y (put_state q z l) ≡ put_state q z (put_state p y l)
states_comm p q y z l c =
    state-run p y (put_state q z l) ∙ state_comm p q 1 (y ∷ []) z l (omega arith) c ∙ sym (ap (put_state q z) (state-run p y l))

state-again : (q : ℕ) (y z : ℤ) (l : List ℤ) → put_state q z (put_state q y l) ≡ put_state q z l
state-again zero y z l = refl
state-again (suc q) y z l = set-set l (suc q) y z

numbers-again : (p : ℕ) (ys zs l : List ℤ) → length ys ≡ length zs → put_numbers p zs (put_numbers p ys l) ≡ put_numbers p zs l
numbers-again zero ys zs l h = refl
numbers-again (suc p) ys zs l h = sets-again ys zs l (suc p) h

-- ── a row ──
pub fills-le : (d : Kind) (zs : List ℤ) → fills d zs ≡ true → length zs ≤ columns d
fills-le d [] e = omega arith
fills-le d (z ∷ zs) e = omega (arith, eqb-true (length (z ∷ zs)) (columns d) e)

-- over the zeros of a row with nothing in it, its numbers are all that it has
numbers-first : (p : ℕ) (d : Kind) (zs l : List ℤ) → fills d zs ≡ true → put_numbers p zs (put_numbers p (padded (columns d) []) l) ≡ put_numbers p (padded (columns d) zs) l
numbers-first zero d zs l e = refl
numbers-first (suc p) d [] l e = refl
numbers-first (suc p) d (z ∷ zs) l e =
    let h = eqb-true (length (z ∷ zs)) (columns d) e in
    numbers-again (suc p) (padded (columns d) []) (z ∷ zs) l (length-padded (columns d) [] ∙ sym h)
    ∙ ap (λ (u : List ℤ). sets l (suc p) u) (sym (ap (λ (n : ℕ). padded n (z ∷ zs)) (sym h) ∙ padded-full (z ∷ zs)))

-- a slot that was empty
pub first-put : (r : Rule) (v : Value) (l : List ℤ) → fills r.holds (numbers v) ≡ true → clear_row r ≡ true → put_value r v (put_slot r None l) ≡ put_slot r (Some v) l
first-put r v l f c =
    let p = r.place in
    let q = r.state in
    let k = columns r.holds in
    let blank = put_numbers p (padded k []) l in
    ap (put_state q (given v)) (state_comm p q k (numbers v) (pos 0) blank (fills-le r.holds (numbers v) f) (cleared p k q 1 c))
    ∙ state-again q (pos 0) (given v) (put_numbers p (numbers v) blank)
    ∙ ap (put_state q (given v)) (numbers-first p r.holds (numbers v) l f)

-- a row and the value of another row
module _ (r q : Rule) (c : clear_rows r q ≡ true) where
  abbrev k : ℕ
  k = columns r.holds

  abbrev m : ℕ
  m = columns q.holds

  abbrev c₁ : Bool
  c₁ = clear r.place k q.place m

  abbrev c₂ : Bool
  c₂ = clear r.place k q.state 1

  abbrev c₃ : Bool
  c₃ = clear r.state 1 q.place m

  abbrev c₄ : Bool
  c₄ = clear r.state 1 q.state 1

  places : Clear r.place k q.place m
  places = cleared _ _ _ _ (and_left c₁ (c₂ && (c₃ && c₄)) c)

  place-state : Clear r.place k q.state 1
  place-state = cleared _ _ _ _ (and_left c₂ (c₃ && c₄) (and_right c₁ (c₂ && (c₃ && c₄)) c))

  state-place : Clear r.state 1 q.place m
  state-place = cleared _ _ _ _ (and_left c₃ c₄ (and_right c₂ (c₃ && c₄) (and_right c₁ (c₂ && (c₃ && c₄)) c)))

  states : Clear r.state 1 q.state 1
  states = cleared _ _ _ _ (and_right c₃ c₄ (and_right c₂ (c₃ && c₄) (and_right c₁ (c₂ && (c₃ && c₄)) c)))

  slot_comm : (o : Option Value) (v : Value) (l : List ℤ) → fills q.holds (numbers v) ≡ true → put_slot r o (put_value q v l) ≡ put_value q v (put_slot r o l)
  slot_comm o v l f =
      let zs = padded k (numbers_of o) in
      let ws = numbers v in
      let kz : length zs ≤ k = omega (arith, length-padded k (numbers_of o)) in
      let kw = fills-le q.holds ws f in
      ap (put_state r.state (state_of o))
      (state_comm r.place q.state k zs (given v) (put_numbers q.place ws l) kz place-state
      ∙ ap (put_state q.state (given v)) (numbers_comm r.place q.place k m zs ws l kz kw places))
      ∙ states_comm r.state q.state (state_of o) (given v) (put_numbers q.place ws (put_numbers r.place zs l)) states
      ∙ ap (put_state q.state (given v)) (numbers-state r.state q.place m ws (state_of o) (put_numbers r.place zs l) kw state-place)

-- ── a table ──
-- the rows of a table and the value of a row that is none of them
pub slots_comm : (t : List Rule) (q : Rule) (s : Slots) (v : Value) (l : List ℤ) → all (λ r. clear_rows r q) t ≡ true → fills q.holds (numbers v) ≡ true
    → put_slots t s (put_value q v l) ≡ put_value q v (put_slots t s l)
slots_comm [] q s v l c f = refl
slots_comm (r ∷ t) q s v l c f =
    ap (put_slot r (first_slot s)) (slots_comm t q (other_slots s) v l (and_right (clear_rows r q) _ c) f)
    ∙ slot_comm r q (and_left (clear_rows r q) _ c) (first_slot s) v (put_slots t (other_slots s) l) f

all_of : {A : Type 0} (p : A → Bool) (t : List A) (d : A) (j : ℕ) → j < length t → all p t ≡ true → p (get_or t j d) ≡ true
all_of p [] d j h e = absurd (omega arith)
all_of p (r ∷ t) d zero h e = and_left (p r) (all p t) e
all_of p (r ∷ t) d (suc j) h e = all_of p t d j (omega arith) (and_right (p r) (all p t) e)

pub all-at : (p : Rule → Bool) (t : List Rule) (j : ℕ) → j < length t → all p t ≡ true → p (rule_at t j) ≡ true
all-at p t j h e = all_of p t _ j h e

-- the value of a row whose slot was empty
pub slots_set : (t : List Rule) (s : Slots) (j : ℕ) (v : Value) (b : List ℤ) → length s ≡ length t → j < length t → get_or s j None ≡ None
    → fills (rule_at t j).holds (numbers v) ≡ true → clear_table t ≡ true → put_slots t (set s j (Some v)) b ≡ put_value (rule_at t j) v (put_slots t s b)
slots_set [] s j v b n h e f c = absurd (omega arith)
slots_set (r ∷ t) [] j v b n h e f c = absurd (omega arith)
slots_set (r ∷ t) (o ∷ s) zero v b n h e f c =
    sym (ap (λ (x : Option Value). put_value r v (put_slot r x (put_slots t s b))) e ∙ first-put r v (put_slots t s b) f (and_left (clear_row r) _ c))
slots_set (r ∷ t) (o ∷ s) (suc j) v b n h e f c =
    let d = and_right (clear_row r) _ c in
    let a = all-at (clear_rows r) t j (omega arith) (and_left (all (clear_rows r) t) _ d) in
    ap (put_slot r o) (slots_set t s j v b (omega arith) (omega arith) e f (and_right (all (clear_rows r) t) _ d))
    ∙ slot_comm r (rule_at t j) a o v (put_slots t s b) f

-- ── a block with inner parts ──
-- the parts behind the one that changes
parts-other : (ts : List (List Rule)) (h : Held) (q p : ℕ) (x : Slots) (b : List ℤ) → p < q → put_parts q ts (set h p x) b ≡ put_parts q ts h b
parts-other [] h q p x b l = refl
parts-other (t ∷ ts) h q p x b l =
    ap (λ (s : Slots). put_slots t s (put_parts (suc q) ts (set h p x) b)) (get_or-set_other h p q x [] (λ e. absurd (omega arith)))
    ∙ ap (put_slots t (part_of h q)) (parts-other ts h (suc q) p x b (omega arith))

parts-set : (ts : List (List Rule)) (h : Held) (q i j : ℕ) (v : Value) (b : List ℤ) → Shaped q ts h → i < length ts → j < length (get_or ts i [])
    → get_or (part_of h (q + i)) j None ≡ None → fills (rule_at (get_or ts i []) j).holds (numbers v) ≡ true → clear_parts ts ≡ true
    → put_parts q ts (enter h (q + i) j v) b ≡ put_value (rule_at (get_or ts i []) j) v (put_parts q ts h b)
parts-set [] h q i j v b s l m e f c = absurd (omega arith)
parts-set (t ∷ ts) h q zero j v b s l m e f c =
    let z : q + 0 ≡ q = omega arith in
    let o = part_of h q in
    let x = set o j (Some v) in
    ap (λ (p : ℕ). put_parts q (t ∷ ts) (enter h p j v) b) z
    ∙ ap (λ (u : Slots). put_slots t u (put_parts (suc q) ts (set h q x) b)) (get_or-set_same h q x [] s.0)
    ∙ ap (put_slots t x) (parts-other ts h (suc q) q x b (omega arith))
    ∙ slots_set t o j v (put_parts (suc q) ts h b) s.1 m (rw (← z) e) f (and_left (clear_table t) _ c)
parts-set (t ∷ ts) h q (suc i) j v b s l m e f c =
    let z : q + suc i ≡ suc q + i = omega arith in
    let p = suc q + i in
    let x = set (part_of h p) j (Some v) in
    let d = and_right (clear_table t) _ c in
    let r = rule_at (get_or ts i []) j in
    let k = all-at (λ u. all (λ w. clear_rows w u) t) (get_or ts i []) j m
    (all_of (λ u. all (λ y. all (λ w. clear_rows w y) t) u) ts [] i (omega arith) (and_left (all (λ u. all (λ y. all (λ w. clear_rows w y) t) u) ts) _ d)) in
    ap (λ (n : ℕ). put_parts q (t ∷ ts) (enter h n j v) b) z
    ∙ ap (λ (u : Slots). put_slots t u (put_parts (suc q) ts (set h p x) b)) (get_or-set_other h p q x [] (λ w. absurd (omega arith)))
    ∙ ap (put_slots t (part_of h q))
    (parts-set ts h (suc q) i j v b s.2 (omega arith) m (rw (← z) e) f (and_right (all (λ u. all (λ y. all (λ w. clear_rows w y) t) u) ts) _ d))
    ∙ slots_comm t r (part_of h q) v (put_parts (suc q) ts h b) k f

pub held-set : (ts : List (List Rule)) (h : Held) (p j : ℕ) (v : Value) (b : List ℤ) → Shaped 0 ts h → p < length ts → j < length (get_or ts p [])
    → get_or (part_of h p) j None ≡ None → fills (rule_at (get_or ts p []) j).holds (numbers v) ≡ true → clear_parts ts ≡ true
    → put_held ts (enter h p j v) b ≡ put_value (rule_at (get_or ts p []) j) v (put_held ts h b)
held-set ts h p j v b s l m e f c =
    let z : 0 + p ≡ p = omega arith in
    ap (λ (n : ℕ). put_held ts (enter h n j v) b) (sym z) ∙ parts-set ts h 0 p j v b s l m (rw z e) f c
