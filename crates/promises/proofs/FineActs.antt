-- Every refusal of a value, of a row and of an act has a number from 4 to 19, or 21.
use Rattle.std.specs.Prelude.{Option, Some, None}
use Prim.Native.Nat.{ℕ, ◌≤◌, min}
use mathlib.Core.Bool.{Bool, true, false, cond, ◌&&◌, not}
use mathlib.Core.List.{List, [], ◌∷◌}
use native.Mathlib.Omega.{arith}
use mathlib.Core.Path.{◌≡◌, refl, subst}
use lib.Dec.{T, eqb, leb, leb→le}
use borrow.Author.Tests.{leb-true, leb-false}
use lib.ListN.{get_or}
use Rattle.rules.specs.declared.Digits.{Digits}
use Rattle.rules.specs.Base.{within, split}
use Rattle.rules.specs.RefusalNumbers.{Got, got, bad, unless, map_g, and_then, or_bad, keep, cons_g, also}
use Rattle.rules.specs.Lines.{Rest, Form, ignored, wrong, close, eof, keyed, Shape, opener, no_content, content, opening, formless, has_form, shape_of}
use Rattle.rules.specs.RangeClass.{reaches}
use Rattle.rules.specs.Values.{Value, Known, Part, count, digit, type_digits, range, range_of_symbols, range_of_wires, day, clock, decimal, exactly, symbol_name, layer_id, read_part, read_all, Kind, values, text, word, volume_name, sheet, ratio, serials, wire_serial, symbol_circle, nothing, opens, headed, either, read_counts, read_serials, read_partner, read_wire_serial, read_kind, arc_parts, whole_parts, read_circle}
use Rattle.rules.specs.Rows.{Rule, Found, absent, found, find, Act, stay, entry, begin, shut, refuse, or_refuse, inner_of, fits, shape_for, read_shape, not_twice, act_row, act_unknown, act_found, complete, act}
use Rattle.rules.specs.Machine.{State, by_act}
use Rattle.rules.proofs.Chains.{by_cond, On, on-unless, on-map, on_then, on-got, on-all}

-- ── a refusal at a line ──
abbrev AtLine : ℕ → Type 0
AtLine n = T (within 4 21 n && not (eqb n 20))

each_true : (a b : Bool) → T (a && b) → T a × T b
each_true true b p = (tt, p)
each_true false b p = absurd p

-- 20 is no number of a line
pub at-line : (n : ℕ) → AtLine n → (4 ≤ n) × (n ≤ 21) × (not (eqb n 20) ≡ true)
at-line n h =
    let w = each_true (within 4 21 n) (not (eqb n 20)) h in
    let v = each_true (leb 4 n) (leb n 21) w.0 in
    (leb→le 4 n v.0, leb→le n 21 v.1, T_true (not (eqb n 20)) w.1)
  where
    T_true : (b : Bool) → T b → b ≡ true
    T_true true p = refl
    T_true false p = absurd p

at_min : (m n : ℕ) → AtLine m → AtLine n → AtLine (min m n)
at_min m n p q = go (leb m n) refl
  where
    go : (b : Bool) → leb m n ≡ b → AtLine (min m n)
    go true e = let h = leb-true m n e in let z : m ≡ min m n = omega (arith, h) in subst AtLine z p
    go false e = let h = leb-false m n e in let z : n ≡ min m n = omega (arith, h) in subst AtLine z q

pub data Fine {A : Type 0} : Got A → Type 0 where
  answers : {a : A} → Fine (got a)
  refuses : (n : ℕ) → AtLine n → Fine (bad n)

module _ {A : Type 0} where
  pub fine-unless : (t : Bool) (n : ℕ) (g : Got A) → AtLine n → Fine g → Fine (unless t n g)
  fine-unless true n g h w = w
  fine-unless false n g h w = refuses n h

  pub fine-cond : (t : Bool) (g h : Got A) → Fine g → Fine h → Fine (cond t g h)
  fine-cond true g h p q = p
  fine-cond false g h p q = q

  pub fine-or : (n : ℕ) (o : Option A) → AtLine n → Fine (or_bad n o)
  fine-or n None h = refuses n h
  fine-or n (Some a) h = answers

  pub fine-keep : (n : ℕ) (p : A → Bool) (g : Got A) → AtLine n → Fine g → Fine (keep n p g)
  fine-keep n p (got a) h w = fine-unless (p a) n _ h answers
  fine-keep n p (bad m) h w = w

  pub fine-cons : (g : Got A) (h : Got (List A)) → Fine g → Fine h → Fine (cons_g g h)
  fine-cons (got a) (got s) p q = answers
  fine-cons (got a) (bad n) p (refuses _ q) = refuses n q
  fine-cons (bad m) (got s) (refuses _ p) q = refuses m p
  fine-cons (bad m) (bad n) (refuses _ p) (refuses _ q) = refuses (min m n) (at_min m n p q)

  pub fine-also : (t : Bool) (n : ℕ) (g : Got A) → AtLine n → Fine g → Fine (also t n g)
  fine-also true n g h w = w
  fine-also false n (got a) h w = refuses n h
  fine-also false n (bad m) h (refuses _ w) = refuses (min m n) (at_min m n w h)

module _ {A B : Type 0} where
  pub fine-map : (f : A → B) (g : Got A) → Fine g → Fine (map_g f g)
  fine-map f (got a) w = answers
  fine-map f (bad n) (refuses _ w) = refuses n w

  pub fine_then : (g : Got A) (f : A → Got B) → Fine g → ((a : A) → Fine (f a)) → Fine (and_then g f)
  fine_then (got a) f w h = h a
  fine_then (bad n) f (refuses _ w) h = refuses n w

pub ruleset fines = (answers, refuses, fine-unless, fine-cond, fine-or, fine-keep, fine-cons, fine-also, fine-map, fine_then)

-- ── values ──
fine-part : (k : Known) (p : Part) (s : List ℕ) → Fine (read_part k p s)
fine-part k count s = search fines
fine-part k (digit lo hi) s = search fines
fine-part k type_digits s = search fines
fine-part k (range lo hi) s = search fines
fine-part k range_of_symbols s = search fines
fine-part k range_of_wires s = search fines
fine-part k day s = search fines
fine-part k clock s = search fines
fine-part k (decimal b) s = search fines
fine-part k (exactly n) s = search fines
fine-part k symbol_name s = search fines
fine-part k layer_id s = search fines

fine-parts : (k : Known) (ps : List Part) (ss : List (List ℕ)) → Fine (read_all k ps ss)
fine-parts k [] [] = answers
fine-parts k [] (s ∷ ss) = refuses 10 tt
fine-parts k (p ∷ ps) [] = refuses 10 tt
fine-parts k (p ∷ ps) (s ∷ ss) = fine-cons (read_part k p s) (read_all k ps ss) (fine-part k p s) (fine-parts k ps ss)

fine_circle : (k : Known) (ss : List (List ℕ)) → Fine (read_circle k ss)
fine_circle k ss =
    let six = fine-parts k whole_parts ss in
    let seven = fine-parts k arc_parts ss in
    search fines

fine-counts : (ss : List (List ℕ)) → Fine (read_counts ss)
fine-counts [] = answers
fine-counts (s ∷ ss) = let rest = fine-counts ss in search fines

fine-serials : (ss : List (List ℕ)) → Fine (read_serials ss)
fine-serials [] = answers
fine-serials (s ∷ ss) = let rest = fine-serials ss in search fines

fine_partner : (s : List ℕ) → Fine (read_partner s)
fine_partner [] = answers
fine_partner (b ∷ s) = search fines

fine-wire-serial : (ss : List (List ℕ)) → Fine (read_wire_serial ss)
fine-wire-serial [] = refuses 10 tt
fine-wire-serial (o ∷ []) = refuses 10 tt
fine-wire-serial (o ∷ a ∷ []) = refuses 10 tt
fine-wire-serial (o ∷ a ∷ b ∷ []) = search (fines, fine_partner) depth 8
fine-wire-serial (o ∷ a ∷ b ∷ c ∷ s) = refuses 10 tt

pub fine-kind : (k : Known) (d : Kind) (at : ℕ) (c : List ℕ) → Fine (read_kind k d at c)
fine-kind k (values p ps a) at c = let w = fine-parts k (p ∷ ps) (split 44 c) in search fines
fine-kind k (text n b) at c = search fines
fine-kind k (word n b) at c = search fines
fine-kind k volume_name at c = search fines
fine-kind k sheet at c = search fines
fine-kind k ratio at c = search (fines, fine-counts)
fine-kind k serials at c = search (fines, fine-serials)
fine-kind k wire_serial at c = search (fines, fine-wire-serial)
fine-kind k symbol_circle at c = search (fines, fine_circle)
fine-kind k nothing at c = search fines
fine-kind k (opens i) at c = search fines
fine-kind k (headed i p) at c = search (fines, fine-part)
fine-kind k (either i) at c = search (fines, fine-part)

-- ── acts ──
pub data FineAct : Act → Type 0 where
  stays : FineAct stay
  enters : {j : ℕ} {v : Value} → FineAct (entry j v)
  begins : {i j : ℕ} {v : Value} → FineAct (begin i j v)
  shuts : FineAct shut
  denies : (n : ℕ) → AtLine n → FineAct (refuse n)

pub data FineForm : Form → Type 0 where
  passed : FineForm ignored
  broken : (n : ℕ) → AtLine n → FineForm (wrong n)
  closing : FineForm close
  ending : FineForm eof
  keying : {k : List ℕ} {c : Rest} → FineForm (keyed k c)

fine-refuse : (g : Got Act) → On FineAct g → Fine g → FineAct (or_refuse g)
fine-refuse (got a) h w = h
fine-refuse (bad n) h (refuses _ w) = denies n w

fine-shape : (k : Known) (j : ℕ) (r : Rule) (s : Shape) → Fine (read_shape k j r s)
fine-shape k j r opener = answers
fine-shape k j r no_content = answers
fine-shape k j r (content at c) = fine-map _ _ (fine-kind k r.holds at c)
fine-shape k j r (opening at c) = fine-map _ _ (fine-kind k r.holds at c)
fine-shape k j r formless = refuses 5 tt

shape-act : (k : Known) (j : ℕ) (r : Rule) (s : Shape) → On FineAct (read_shape k j r s)
shape-act k j r opener = begins
shape-act k j r no_content = enters
shape-act k j r (content at c) = on-map FineAct (entry j) (read_kind k r.holds at c) (on-all _ (λ v. enters) (read_kind k r.holds at c))
shape-act k j r (opening at c) = on-map FineAct (begin (inner_of r.holds) j) (read_kind k r.holds at c) (on-all _ (λ v. begins) (read_kind k r.holds at c))
shape-act k j r formless = tt

pub fine-row : (k : Known) (d : Digits) (full : Bool) (j : ℕ) (r : Rule) (c : Rest) → FineAct (act_row k d full j r c)
fine-row k d full j r c =
    fine-refuse _
    (on-unless FineAct (has_form (shape_for r c)) 5 _ λ _.
    on-unless FineAct (reaches d r.least) 6 _ λ _.
    on-unless FineAct (fits r.holds r.may (shape_for r c)) 5 _ λ _.
    on-unless FineAct (not_twice r.times full) 7 _ λ _.
    on_then FineAct (read_shape k j r (shape_for r c)) _ λ a e.
    on-unless FineAct (not full) 11 (got a) λ _. on-got FineAct (read_shape k j r (shape_for r c)) a (shape-act k j r (shape_for r c)) e)
    (fine-unless (has_form (shape_for r c)) 5 _ tt
    (fine-unless (reaches d r.least) 6 _ tt
    (fine-unless (fits r.holds r.may (shape_for r c)) 5 _ tt
    (fine-unless (not_twice r.times full) 7 _ tt
    (fine_then (read_shape k j r (shape_for r c)) _ (fine-shape k j r (shape_for r c)) (λ a. fine-unless (not full) 11 _ tt answers))))))

pub fine-unknown : (c : Rest) → FineAct (act_unknown c)
fine-unknown c = fine-refuse _ (on-unless FineAct (has_form (shape_of c)) 5 (bad 6) λ _. tt) (fine-unless (has_form (shape_of c)) 5 (bad 6) tt (refuses 6 tt))

fine-found : (k : Known) (d : Digits) (full : List Bool) (c : Rest) (f : Found) → FineAct (act_found k d full c f)
fine-found k d full c absent = fine-unknown c
fine-found k d full c (found j r) = fine-row k d (get_or full j false) j r c

pub fine-act : (k : Known) (t : List Rule) (d : Digits) (full : List Bool) {f : Form} → FineForm f → FineAct (act k t d full f)
fine-act k t d full passed = stays
fine-act k t d full (broken n h) = denies n h
fine-act k t d full closing = by_cond FineAct (complete d t full) (λ _. shuts) (λ _. denies 8 tt)
fine-act k t d full ending = denies 9 tt
fine-act k t d full (keying {k = key} {c = c}) = fine-found k d full c (find key t)

pub fine-by_act : (st : State) (entered : ℕ → Value → Got State) (opened : ℕ → ℕ → Value → Got State) (closed : Unit {0} → Got State) (a : Act)
    → FineAct a → ((j : ℕ) (v : Value) → Fine (entered j v)) → ((i j : ℕ) (v : Value) → Fine (opened i j v)) → Fine (closed tt) → Fine (by_act st entered opened closed a)
fine-by_act st entered opened closed stay h p q r = answers
fine-by_act st entered opened closed (entry j v) h p q r = p j v
fine-by_act st entered opened closed (begin i j v) h p q r = q i j v
fine-by_act st entered opened closed shut h p q r = r
fine-by_act st entered opened closed (refuse n) (denies _ h) p q r = refuses n h
