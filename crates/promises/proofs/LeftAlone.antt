-- What is put into a record leaves other places alone.
use Rattle.std.specs.Prelude.{Option}
use Prim.Native.Nat.{ℕ, zero, suc, ◌+◌, ◌*◌, ◌/◌, ◌≤◌, ◌<◌}
use mathlib.Core.Bool.{Bool, true, false, ◌&&◌, ◌||◌, not}
use mathlib.Core.List.{List, [], ◌∷◌, map}
use mathlib.Core.Path.{◌≡◌, refl, ◌∙◌, ap}
use native.Mathlib.Omega.{arith}
use lib.Dec.{eqb, leb, ltb}
use lib.IntN.{ℤ, pos}
use lib.ListN.{length, get_or, set, drop, replicate, length-append, length-take, length-drop}
use lib.Seq.{sets, get_or-set_other}
use borrow.Author.Tests.{ltb-true, leb-true, eqb-false, not-true}
use Rattle.rules.specs.declared.Digits.{Digits}
use Rattle.rules.specs.Base.{all}
use Rattle.rules.specs.RangeClass.{digits_of, hides}
use Rattle.rules.specs.Values.{Num, Value}
use Rattle.rules.specs.Rows.{Rule, Slots, Held, part_of}
use Rattle.rules.specs.Figures.{wire_table, wire_text_table}
use Rattle.rules.specs.Sets.{Wire}
use Rattle.rules.specs.RecordTable.{numbers_of, state_of, columns, others, padded, put_numbers, put_state, put_slot, first_slot, other_slots, put_slots, put_parts, unread_state, mark_unread, rule_at, width, View}
use Rattle.rules.specs.RecordTable.{Shelf, shelves, state_of_many, shown_lines, put_group, put_groups, place_texts, place_text_state, text_shown, first_text, text_numbers, put_texts, place_elements, place_join_digit, wire_numbers, wire_values}
use Rattle.rules.proofs.Chains.{and_left, and_right, and_true}
use Rattle.rules.proofs.RecordLengths.{length-slots}

-- numbers from place p on, n of them, are not at i; a state is not at i; place 0 is nowhere
abbrev pub outside : ℕ → ℕ → ℕ → Bool
outside i zero n = true
outside i (suc p) n = ltb i (suc p) || leb (suc p + n) i

abbrev pub apart : ℕ → ℕ → Bool
apart i zero = true
apart i (suc q) = not (eqb i (suc q))

abbrev pub misses : ℕ → Rule → Bool
misses i r = outside i r.place (columns r.holds) && apart i r.state

pub sets_behind : (vs l : List ℤ) (p i : ℕ) → i < p → get_or (sets l p vs) i (pos 0) ≡ get_or l i (pos 0)
sets_behind [] l p i h = refl
sets_behind (v ∷ vs) l p i h = sets_behind vs (set l p v) (suc p) i (omega (arith, h)) ∙ get_or-set_other l p i v (pos 0) (λ e. absurd (omega (arith, e, h)))

pub sets-before : (vs l : List ℤ) (p i : ℕ) → p + length vs ≤ i → get_or (sets l p vs) i (pos 0) ≡ get_or l i (pos 0)
sets-before [] l p i h = refl
sets-before (v ∷ vs) l p i h = sets-before vs (set l p v) (suc p) i (omega (arith, h)) ∙ get_or-set_other l p i v (pos 0) (λ e. absurd (omega (arith, e, h)))

pub padded-length : (n : ℕ) (zs : List ℤ) → length (padded n zs) ≡ n
padded-length zero zs = refl
padded-length (suc n) zs = ap suc (padded-length n (others zs))

-- n numbers from place p on
run-misses : (p n i : ℕ) (zs t : List ℤ) → (ltb i p || leb (p + n) i) ≡ true → length zs ≡ n → get_or (sets t p zs) i (pos 0) ≡ get_or t i (pos 0)
run-misses p n i zs t e h = go (ltb i p) refl e
  where
    go : (b : Bool) → ltb i p ≡ b → (b || leb (p + n) i) ≡ true → get_or (sets t p zs) i (pos 0) ≡ get_or t i (pos 0)
    go true q e = sets_behind zs t p i (ltb-true i p q)
    go false q e = let w = leb-true (p + n) i e in sets-before zs t p i (omega (arith, w, h))

pub numbers_miss : (p n i : ℕ) (zs t : List ℤ) → outside i p n ≡ true → length zs ≡ n → get_or (put_numbers p zs t) i (pos 0) ≡ get_or t i (pos 0)
numbers_miss zero n i zs t e h = refl
numbers_miss (suc p) n i zs t e h = run-misses (suc p) n i zs t e h

pub set_miss : (q i : ℕ) (z : ℤ) (t : List ℤ) → not (eqb i q) ≡ true → get_or (set t q z) i (pos 0) ≡ get_or t i (pos 0)
set_miss q i z t e = get_or-set_other t q i z (pos 0) (eqb-false i q (not-true (eqb i q) e))

pub state_miss : (q i : ℕ) (z : ℤ) (t : List ℤ) → apart i q ≡ true → get_or (put_state q z t) i (pos 0) ≡ get_or t i (pos 0)
state_miss zero i z t e = refl
state_miss (suc q) i z t e = set_miss (suc q) i z t e

pub slot_miss : (i : ℕ) (r : Rule) (o : Option Value) (t : List ℤ) → misses i r ≡ true → get_or (put_slot r o t) i (pos 0) ≡ get_or t i (pos 0)
slot_miss i r o t e =
    let out = and_left (outside i r.place (columns r.holds)) _ e in
    state_miss r.state i (state_of o) _ (and_right (outside i r.place (columns r.holds)) _ e)
    ∙ numbers_miss r.place (columns r.holds) i _ t out (padded-length (columns r.holds) (numbers_of o))

pub slots_miss : (i : ℕ) (rs : List Rule) (s : Slots) (t : List ℤ) → all (misses i) rs ≡ true → get_or (put_slots rs s t) i (pos 0) ≡ get_or t i (pos 0)
slots_miss i [] s t e = refl
slots_miss i (r ∷ rs) s t e =
    slot_miss i r (first_slot s) _ (and_left (misses i r) _ e) ∙ slots_miss i rs (other_slots s) t (and_right (misses i r) _ e)

pub parts_miss : (i p : ℕ) (ts : List (List Rule)) (h : Held) (t : List ℤ) → all (all (misses i)) ts ≡ true → get_or (put_parts p ts h t) i (pos 0) ≡ get_or t i (pos 0)
parts_miss i p [] h t e = refl
parts_miss i p (r ∷ ts) h t e =
    slots_miss i r (part_of h p) _ (and_left (all (misses i) r) _ e) ∙ parts_miss i (suc p) ts h t (and_right (all (misses i) r) _ e)

-- states of what is unread are put at the rows' places for states alone
abbrev pub state_misses : ℕ → Rule → Bool
state_misses i r = apart i r.state

pub unread-apart : (i : ℕ) (c d : Digits) (rs : List Rule) (t : List ℤ) → all (state_misses i) rs ≡ true → get_or (mark_unread c d rs t) i (pos 0) ≡ get_or t i (pos 0)
unread-apart i c d [] t e = refl
unread-apart i c d (r ∷ rs) t e = one r.state (and_left (state_misses i r) _ e) ∙ unread-apart i c d rs t (and_right (state_misses i r) _ e)
  where
    one : (q : ℕ) → apart i q ≡ true → get_or (unread_state q (hides c d r.least) (mark_unread c d rs t)) i (pos 0) ≡ get_or (mark_unread c d rs t) i (pos 0)
    one zero e = refl
    one (suc q) e = set_miss (suc q) i _ (mark_unread c d rs t) e

pub unread_miss : (i : ℕ) (c d : Digits) (rs : List Rule) (t : List ℤ) → all (misses i) rs ≡ true → get_or (mark_unread c d rs t) i (pos 0) ≡ get_or t i (pos 0)
unread_miss i c d rs t e = unread-apart i c d rs t (states rs e)
  where
    states : (rs : List Rule) → all (misses i) rs ≡ true → all (state_misses i) rs ≡ true
    states [] e = refl
    states (r ∷ rs) e =
        and_true (state_misses i r) (all (state_misses i) rs) (and_right (outside i r.place (columns r.holds)) _ (and_left (misses i r) _ e)) (states rs (and_right (misses i r) _ e))

-- a row by its number, one that there is not too
pub at-misses : (i : ℕ) (t : List Rule) (j : ℕ) → all (misses i) t ≡ true → misses i (rule_at t j) ≡ true
at-misses i [] j e = refl
at-misses i (r ∷ t) zero e = and_left (misses i r) _ e
at-misses i (r ∷ t) (suc j) e = at-misses i t j (and_right (misses i r) _ e)

-- ── what a wire's rows that repeat, its texts and its counts leave alone ──
shown-length : (n wide : ℕ) (vs : List (List Num)) → length (shown_lines n wide vs) ≡ n * wide
shown-length zero wide vs = omega arith
shown-length (suc n) wide [] = omega (arith, length-append (padded wide []) (shown_lines n wide []), padded-length wide [], shown-length n wide [])
shown-length (suc n) wide (v ∷ vs) =
    let first = padded wide (map (λ m. m.value) v) in
    omega (arith, length-append first (shown_lines n wide vs), padded-length wide (map (λ m. m.value) v), shown-length n wide vs)

-- a shelf stands at places behind 0
abbrev pub shelf_misses : ℕ → Shelf → Bool
shelf_misses i h = (ltb i h.place || leb (h.place + suc (h.shown * h.wide)) i) && not (eqb i h.state)

group_miss : (i : ℕ) (h : Shelf) (vs : List (List Num)) (t : List ℤ) → shelf_misses i h ≡ true → get_or (put_group h vs t) i (pos 0) ≡ get_or t i (pos 0)
group_miss i h vs t e =
    let zs = pos (length vs) ∷ shown_lines h.shown h.wide vs in
    let out = ltb i h.place || leb (h.place + suc (h.shown * h.wide)) i in
    set_miss h.state i (state_of_many (length vs)) (sets t h.place zs) (and_right out (not (eqb i h.state)) e)
    ∙ run-misses h.place (suc (h.shown * h.wide)) i zs t (and_left out (not (eqb i h.state)) e) (ap suc (shown-length h.shown h.wide vs))

pub groups_miss : (i : ℕ) (hs : List Shelf) (gs : List (List (List Num))) (t : List ℤ) → all (shelf_misses i) hs ≡ true → get_or (put_groups hs gs t) i (pos 0) ≡ get_or t i (pos 0)
groups_miss i [] gs t e = refl
groups_miss i (h ∷ hs) [] t e = refl
groups_miss i (h ∷ hs) (g ∷ gs) t e = group_miss i h g (put_groups hs gs t) (and_left (shelf_misses i h) _ e) ∙ groups_miss i hs gs t (and_right (shelf_misses i h) _ e)

text-length : (s : Slots) → length (text_numbers s) ≡ text_shown
text-length s =
    let t = replicate width (pos 0) in
    let u = put_slots wire_text_table s t in
    omega (arith, length-take text_shown (drop 4 u), length-drop 4 u, length-slots wire_text_table s t)

abbrev texts_miss : ℕ → Bool
texts_miss i = (ltb i place_texts || leb (place_texts + suc text_shown) i) && not (eqb i place_text_state)

texts_miss_lem : (i : ℕ) (ss : List Slots) (t : List ℤ) → texts_miss i ≡ true → get_or (put_texts ss t) i (pos 0) ≡ get_or t i (pos 0)
texts_miss_lem i ss t e =
    let zs = pos (length ss) ∷ text_numbers (first_text ss) in
    let out = ltb i place_texts || leb (place_texts + suc text_shown) i in
    set_miss place_text_state i (state_of_many (length ss)) (sets t place_texts zs) (and_right out (not (eqb i place_text_state)) e)
    ∙ run-misses place_texts (suc text_shown) i zs t (and_left out (not (eqb i place_text_state)) e) (ap suc (text-length (first_text ss)))

-- what is put behind the rows that stand once
abbrev pub more_misses : ℕ → Bool
more_misses i = (all (shelf_misses i) shelves && texts_miss i) && (not (eqb i place_elements) && not (eqb i place_join_digit))

pub more_miss : (i range n : ℕ) (gs : List (List (List Num))) (ss : List Slots) (t : List ℤ) → more_misses i ≡ true
    → get_or (wire_numbers range n (put_groups shelves gs (put_texts ss t))) i (pos 0) ≡ get_or t i (pos 0)
more_miss i range n gs ss t e =
    let many = and_left (all (shelf_misses i) shelves && texts_miss i) _ e in
    let counts = and_right (all (shelf_misses i) shelves && texts_miss i) _ e in
    let texts = put_texts ss t in
    let groups = put_groups shelves gs texts in
    set_miss place_join_digit i (pos (range / 100)) (set groups place_elements (pos n)) (and_right (not (eqb i place_elements)) (not (eqb i place_join_digit)) counts)
    ∙ set_miss place_elements i (pos n) groups (and_left (not (eqb i place_elements)) (not (eqb i place_join_digit)) counts)
    ∙ groups_miss i shelves gs texts (and_left (all (shelf_misses i) shelves) (texts_miss i) many)
    ∙ texts_miss_lem i ss t (and_right (all (shelf_misses i) shelves) (texts_miss i) many)

-- a place that nothing of a wire is put at
pub wire_miss : (i : ℕ) (w : View) (x : Wire) (t : List ℤ) → all (misses i) wire_table ≡ true → more_misses i ≡ true → get_or (wire_values w x t) i (pos 0) ≡ get_or t i (pos 0)
wire_miss i w x t e m =
    let own = put_slots wire_table x.own t in
    unread_miss i w.class.wires (digits_of w.wires) wire_table _ e ∙ more_miss i w.wires (length x.elements) x.groups x.texts own m
    ∙ slots_miss i wire_table x.own t e
