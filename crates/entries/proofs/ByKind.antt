-- A content by what its row holds: texts, sheets, scales, serial numbers, one value.
use Rattle.std.specs.Prelude.{Option, Some, None, is_some, Result, Ok, Err, ⊤}
use Rattle.std.specs.List.{list_all, slice_split}
use Prim.Native.Nat.{ℕ, suc, ◌+◌, ◌-◌, ◌<◌, ◌≤◌}
use mathlib.Core.Path.{◌≡◌, refl, ap, sym, subst, ◌∙◌}
use mathlib.Core.Bool.{Bool, true, false, cond, ◌&&◌}
use mathlib.Core.List.{List, [], ◌∷◌, map}
use native.Mathlib.Omega.{arith}
use lib.Dec.{eqb, leb}
use lib.IntN.{ℤ, pos}
use lib.ListN.{length, take, drop}
use lib.Seq.{sets}
use borrow.Author.Tests.{leb-true, leb-false, le-leb, lt-leb}
use Rattle.rules.specs.Base.{same, Cut, whole, parts, cut, split}
use Rattle.rules.specs.RefusalNumbers.{Got, got, bad, unless, map_g, or_bad, keep, cons_g}
use Rattle.rules.specs.Numbers.{read_count}
use Rattle.rules.specs.Values.{Num, num, natural, two_nums, Known, Kind, read_kind, Value, nums, linked, linked_of, chars, capital, find_sheet, good_ratio, with_one, ratio_parts, read_counts, read_ratio, read_serials, most_partners}
use Rattle.rules.specs.RecordTable.{numbers}
use Rattle.rules.proofs.Chains.{by_cond, and_left, and_right}
use Rattle.leaves.specs.Bytes.{up_to, past}
use Rattle.leaves.specs.Drawing.{number_at, sheet_of}
use Rattle.leaves.specs.declared.SheetSize.{SheetSize}
use Rattle.leaves.proofs.Cuts.{up_to-none, up_to-take, past-drop, split-last, split-more}
use Rattle.tables.specs.Rows.{values_of, kind_of}
use Rattle.tables.specs.declared.Row.{Row}
use Rattle.entries.specs.Parts.{val_of}
use Rattle.entries.proofs.Commas.{split-is}
use Rattle.entries.specs.Entering.{On, Puts, done_of, put_val, long_of, serials_in}

-- ── texts ──
-- ── texts ──
capital-long : (c : List ℕ) → length (map capital c) ≡ length c
capital-long [] = refl
capital-long (b ∷ c) = ap suc (capital-long c)

-- a name is entered alike in capitals and without: by its place and length
pub name-put : (b : Bool) (at : ℕ) (c : List ℕ) (t t₁ : List ℤ) (p : ℕ) (a : Result ⊤ ℕ) → Puts (unless b 11 (got (chars at c))) (λ v. sets t p (numbers v)) t₁ a
    → Puts (unless b 11 (got (chars at (map capital c)))) (λ v. sets t p (numbers v)) t₁ a
name-put true at c t t₁ p a h = record { eq = h.eq; filled = rw (capital-long c) h.filled }
name-put false at c t t₁ p a h = record { eq = h.eq; filled = tt }

-- ── sheets and scales: two natural numbers ──
abbrev pub Two : List Num → Type 0
Two v = v ≡ two_nums (number_at v 0) (number_at v 1)

abbrev pub OnSome : Option (List Num) → Type 0
OnSome None = Unit {0}
OnSome (Some v) = Two v

two-filled : (v : List Num) (t : List ℤ) (p a b : ℕ) → Two v → number_at v 0 ≡ a → number_at v 1 ≡ b → sets t p (pos a ∷ pos b ∷ []) ≡ sets t p (numbers (nums v))
two-filled v t p a b h e f = rw (← e, ← f) (ap (λ (u : List Num). sets t p (numbers (nums u))) (sym h))

pub sheets-two : (c : List ℕ) (l : List (List ℕ × ℕ × ℕ)) → OnSome (find_sheet c l)
sheets-two c [] = tt
sheets-two c (a ∷ l) = elim (same c a.0) as (λ t. OnSome (cond t (Some (two_nums a.1 a.2)) (find_sheet c l))) [ true ↦ refl | false ↦ sheets-two c l ]

module _ (c : List ℕ) (l : List (List ℕ × ℕ × ℕ)) (t t₁ : List ℤ) (p : ℕ) where
  pub sheet-done : (z : SheetSize) → Some z ≡ sheet_of (find_sheet c l) → t₁ ≡ sets t p (pos z.multiplier ∷ pos z.number ∷ []) → Puts (map_g nums (or_bad 11 (find_sheet c l))) (λ v. sets t p (numbers v)) t₁ (Ok tt)
  sheet-done z e f = go (find_sheet c l) (sheets-two c l) e
    where
      go : (o : Option (List Num)) → OnSome o → Some z ≡ sheet_of o → Puts (map_g nums (or_bad 11 o)) (λ v. sets t p (numbers v)) t₁ (Ok tt)
      go None h e = absurd (let q : ◌≡◌ {A = ℕ} 0 1 = cc in omega arith)
      go (Some v) h e =
          let q : record { multiplier = number_at v 0; number = number_at v 1 } ≡ z = cc in
          record { eq = refl; filled = f ∙ two-filled v t p z.multiplier z.number h (ap (λ (z : SheetSize). z.multiplier) q) (ap (λ (z : SheetSize). z.number) q) }

one_kept : (n : ℕ) (t : Bool) → On Two (map_g with_one (unless t 11 (got (num (pos n) ∷ []))))
one_kept n true = refl
one_kept n false = tt

two-kept : (m n : ℕ) (t : Bool) → On Two (map_g with_one (unless t 11 (got (two_nums m n))))
two-kept m n true = refl
two-kept m n false = tt

one-count : (o : Option ℕ) → On Two (map_g with_one (keep 11 good_ratio (cons_g (natural (or_bad 10 o)) (got []))))
one-count None = tt
one-count (Some n) = one_kept n (good_ratio (num (pos n) ∷ []))

two-counts : (o u : Option ℕ) → On Two (map_g with_one (keep 11 good_ratio (cons_g (natural (or_bad 10 o)) (cons_g (natural (or_bad 10 u)) (got [])))))
two-counts None None = tt
two-counts None (Some n) = tt
two-counts (Some m) None = tt
two-counts (Some m) (Some n) = two-kept m n (good_ratio (two_nums m n))

pub ratio-two : (s : List ℕ) → On Two (read_ratio s)
ratio-two s = go (cut 47 s)
  where
    go : (k : Cut) → On Two (map_g with_one (keep 11 good_ratio (read_counts (ratio_parts k (s ∷ [])))))
    go whole = one-count (read_count 9 s)
    go (parts a b) = two-counts (read_count 9 a) (read_count 9 b)

-- ── one value ──
pub one-put : (g : Got Num) (v : Result ℤ ℕ) (t t₁ : List ℤ) (p : ℕ) (a : Result ⊤ ℕ) → v ≡ val_of g → a ≡ done_of v → t₁ ≡ put_val v p t → Puts (map_g (λ n. nums (n ∷ [])) g) (λ v. sets t p (numbers v)) t₁ a
one-put (got n) v t t₁ p a e d f = rw (d, e) (record { eq = refl; filled = rw e at f })
one-put (bad m) v t t₁ p a e d f = rw (d, e) (record { eq = refl; filled = tt })

-- ── serial numbers ──
pub split-head : (d : List ℕ) → split 44 d ≡ up_to 44 d ∷ drop 1 (split 44 d)
split-head d = go (leb (length d) (length (up_to 44 d))) refl
  where
    go : (t : Bool) → leb (length d) (length (up_to 44 d)) ≡ t → split 44 d ≡ up_to 44 d ∷ drop 1 (split 44 d)
    go true e = let h = leb-true (length d) (length (up_to 44 d)) e in rw (split-last 44 d h, up_to-none 44 d h)
    go false e = let h = leb-false (length d) (length (up_to 44 d)) e in rw (split-more 44 d h)

abbrev pub add_to : ℕ → Option ℕ → Option ℕ
add_to n (Some m) = Some (n + m)
add_to n None = None

pub add_none : (k : Option ℕ) → k ≡ add_to 0 k
add_none (Some m) = let e : m ≡ 0 + m = omega arith in ap Some e
add_none None = refl

add_twice : (n : ℕ) (k : Option ℕ) → add_to n (add_to 1 k) ≡ add_to (n + 1) k
add_twice n (Some m) = let e : n + (1 + m) ≡ n + 1 + m = omega arith in ap Some e
add_twice n None = refl

long-cons : (o : Option ℕ) (x : Got (List ℕ)) (v : ℕ) → o ≡ Some v → long_of (cons_g (or_bad 10 o) x) ≡ add_to 1 (long_of x)
long-cons None x v e = absurd (let q : ◌≡◌ {A = ℕ} 0 1 = cc in omega arith)
long-cons (Some n) (got ns) v e = let q : suc (length ns) ≡ 1 + length ns = omega arith in ap Some q
long-cons (Some n) (bad m) v e = refl

long-not : (o : Option ℕ) (x : Got (List ℕ)) → o ≡ None → long_of (cons_g (or_bad 10 o) x) ≡ None
long-not (Some n) x e = absurd (let q : ◌≡◌ {A = ℕ} 0 1 = cc in omega arith)
long-not None (got ns) e = refl
long-not None (bad m) e = refl

module _ (d : List ℕ) where
  serial-not : (read_count 10 (up_to 44 d)) ≡ None → serials_in d ≡ None
  unfolding serials_in
  serial-not e = ap (λ (ss : List (List ℕ)). long_of (read_serials ss)) (split-head d) ∙ long-not (read_count 10 (up_to 44 d)) (read_serials (drop 1 (split 44 d))) e

  serial-more : (v : ℕ) → length (up_to 44 d) < length d → read_count 10 (up_to 44 d) ≡ Some v → serials_in d ≡ add_to 1 (serials_in (past 44 d))
  unfolding serials_in
  serial-more v l e = rw (split-more 44 d l) (long-cons (read_count 10 (up_to 44 d)) (read_serials (split 44 (past 44 d))) v e)

  serial-last : (v : ℕ) → length d ≤ length (up_to 44 d) → read_count 10 d ≡ Some v → serials_in d ≡ Some 1
  unfolding serials_in
  serial-last v l e = rw (split-last 44 d l) (long-cons (read_count 10 d) (got []) v e)

-- n numbers were counted before what is left of c, and e is the end of the piece there
module _ (c d : List ℕ) (n e : ℕ) (q : e ≡ length (up_to 44 d)) (k : serials_in c ≡ add_to n (serials_in d)) where
  piece_is : take e d ≡ up_to 44 d
  piece_is = rw q (up_to-take 44 d)

  pub count-more : (v : ℕ) → e < length d → Some v ≡ read_count 10 (take e d) → serials_in c ≡ add_to (n + 1) (serials_in (drop (e + 1) d))
  count-more v l r =
      let l₁ : length (up_to 44 d) < length d = omega (arith, q, l) in
      let z : suc (length (up_to 44 d)) ≡ e + 1 = omega (arith, q) in
      k ∙ ap (add_to n) (serial-more d v l₁ (ap (read_count 10) (sym piece_is) ∙ sym r))
      ∙ add_twice n (serials_in (past 44 d))
      ∙ ap (λ (u : List ℕ). add_to (n + 1) (serials_in u)) (past-drop 44 d l₁ ∙ ap (λ (m : ℕ). drop m d) z)

  pub count-not : None ≡ read_count 10 (take e d) → None ≡ serials_in c
  count-not r = sym (k ∙ ap (add_to n) (serial-not d (ap (read_count 10) (sym piece_is) ∙ sym r)))

  pub count-end : (v : ℕ) → length d ≤ e → Some v ≡ read_count 10 d → Some (n + 1) ≡ serials_in c
  count-end v l r = sym (k ∙ ap (add_to n) (serial-last d v (omega (arith, q, l)) (sym r)))

  pub count-last : length d ≤ e → None ≡ read_count 10 d → None ≡ serials_in c
  count-last l r = sym (k ∙ ap (add_to n) (serial-not d (ap (read_count 10) (up_to-none 44 d (omega (arith, q, l))) ∙ sym r)))

-- all parts between commas are numbers, or one is not
abbrev pub is_read : List ℕ → Bool
is_read s = is_some (read_count 10 s)

all-read : (ss : List (List ℕ)) → list_all is_read ss ≡ true → long_of (read_serials ss) ≡ Some (length ss)
all-read [] e = refl
all-read (s ∷ ss) e = go (read_count 10 s) (read_serials ss) (and_left (is_read s) (list_all is_read ss) e) (all-read ss (and_right (is_read s) (list_all is_read ss) e))
  where
    go : (o : Option ℕ) (x : Got (List ℕ)) → is_some o ≡ true → long_of x ≡ Some (length ss) → long_of (cons_g (or_bad 10 o) x) ≡ Some (suc (length ss))
    go None x e h = absurd (let q : ◌≡◌ {A = ℕ} 0 1 = cc in omega arith)
    go (Some n) (got ns) e h = let q : length ns ≡ length ss = cc in ap (λ (k : ℕ). Some (suc k)) q
    go (Some n) (bad m) e h = absurd (let q : ◌≡◌ {A = ℕ} 0 1 = cc in omega arith)

not-read : (ss : List (List ℕ)) → list_all is_read ss ≡ false → long_of (read_serials ss) ≡ None
not-read [] e = absurd (let q : ◌≡◌ {A = ℕ} 0 1 = cc in omega arith)
not-read (s ∷ ss) e = go (read_count 10 s) (read_serials ss) e (not-read ss)
  where
    go : (o : Option ℕ) (x : Got (List ℕ)) → (is_some o && list_all is_read ss) ≡ false → (list_all is_read ss ≡ false → long_of x ≡ None) → long_of (cons_g (or_bad 10 o) x) ≡ None
    go None (got ns) e h = refl
    go None (bad m) e h = refl
    go (Some n) (got ns) e h = absurd (let q : long_of (got ns) ≡ None = h e in let z : ◌≡◌ {A = ℕ} 0 1 = cc in omega arith)
    go (Some n) (bad m) e h = refl

pub serials-all : (c : List ℕ) → list_all is_read (slice_split (λ b. eqb b 44) c) ≡ true → serials_in c ≡ Some (length (split 44 c))
unfolding serials_in
serials-all c e = all-read (split 44 c) (rw (split-is c) e)

pub serials-not : (c : List ℕ) → list_all is_read (slice_split (λ b. eqb b 44) c) ≡ false → serials_in c ≡ None
unfolding serials_in
serials-not c e = not-read (split 44 c) (rw (split-is c) e)

abbrev linked_in : Got (List ℕ) → Got Value
linked_in g = map_g linked_of (keep 11 (λ ns. leb (length ns) (most_partners + 1)) g)

-- a refusal of a serial number is 10
ten-cons : (o : Option ℕ) (x : Got (List ℕ)) → (long_of x ≡ None → x ≡ bad 10) → long_of (cons_g (or_bad 10 o) x) ≡ None → cons_g (or_bad 10 o) x ≡ bad 10
ten-cons None (got ns) h e = refl
ten-cons None (bad m) h e = let q : m ≡ 10 = bad-is m 10 (h refl) in rw q
  where
    bad-is : (m n : ℕ) → ◌≡◌ {A = Got (List ℕ)} (bad m) (bad n) → m ≡ n
    bad-is m n e = cc
ten-cons (Some n) (got ns) h e = absurd (let q : ◌≡◌ {A = ℕ} 0 1 = cc in omega arith)
ten-cons (Some n) (bad m) h e = h refl

only-ten : (ss : List (List ℕ)) → long_of (read_serials ss) ≡ None → read_serials ss ≡ bad 10
only-ten [] e = absurd (let q : ◌≡◌ {A = ℕ} 0 1 = cc in omega arith)
only-ten (s ∷ ss) e = ten-cons (read_count 10 s) (read_serials ss) (only-ten ss) e

module _ (c : List ℕ) (t t₁ : List ℤ) (p : ℕ) where
  pub linked-ten : None ≡ serials_in c → Puts (linked_in (read_serials (split 44 c))) (λ v. sets t p (numbers v)) t₁ (Err 10)
  unfolding serials_in
  linked-ten e = rw (only-ten (split 44 c) (sym e)) (record { eq = refl; filled = tt })

  pub linked-own : (e : ℕ) → e ≡ length (up_to 44 c) → None ≡ read_count 10 (take e c) → Puts (linked_in (read_serials (split 44 c))) (λ v. sets t p (numbers v)) t₁ (Err 10)
  linked-own e q r = linked-ten (sym (serial-not c (ap (λ (u : List ℕ). (read_count 10 u)) (sym (up_to-take 44 c) ∙ ap (λ (n : ℕ). take n c) (sym q)) ∙ sym r)))

  pub linked-eleven : (n : ℕ) → Some n ≡ serials_in c → 101 < n → Puts (linked_in (read_serials (split 44 c))) (λ v. sets t p (numbers v)) t₁ (Err 11)
  unfolding serials_in
  linked-eleven n e l = go (read_serials (split 44 c)) e
    where
      go : (g : Got (List ℕ)) → Some n ≡ long_of g → Puts (linked_in g) (λ v. sets t p (numbers v)) t₁ (Err 11)
      go (got ns) e = let q : n ≡ length ns = cc in rw (lt-leb (length ns) 101 (omega arith)) (record { eq = refl; filled = tt })
      go (bad m) e = absurd (let q : ◌≡◌ {A = ℕ} 0 1 = cc in omega arith)

  pub linked-done : (e n v : ℕ) → e ≡ length (up_to 44 c) → Some n ≡ serials_in c → n ≤ 101 → Some v ≡ read_count 10 (take e c) → t₁ ≡ sets t p (pos v ∷ pos (n - 1) ∷ [])
      → Puts (linked_in (read_serials (split 44 c))) (λ v. sets t p (numbers v)) t₁ (Ok tt)
  unfolding serials_in
  linked-done e n v q r l s f =
      subst (λ (ss : List (List ℕ)). Some n ≡ long_of (read_serials ss) → Puts (linked_in (read_serials ss)) (λ v. sets t p (numbers v)) t₁ (Ok tt)) (sym (split-head c))
      (go (read_count 10 (up_to 44 c)) (read_serials (drop 1 (split 44 c))) (s ∙ ap (λ (u : List ℕ). (read_count 10 u)) (ap (λ (n : ℕ). take n c) q ∙ up_to-take 44 c))) r
    where
      go : (o : Option ℕ) (x : Got (List ℕ)) → Some v ≡ o → Some n ≡ long_of (cons_g (or_bad 10 o) x) → Puts (linked_in (cons_g (or_bad 10 o) x)) (λ v. sets t p (numbers v)) t₁ (Ok tt)
      go None x a b = absurd (let q : ◌≡◌ {A = ℕ} 0 1 = cc in omega arith)
      go (Some m) (got ns) a b =
          let z : n ≡ suc (length ns) = cc in
          let y : v ≡ m = cc in
          let w : n - 1 ≡ length ns = omega arith in
          rw (le-leb (suc (length ns)) 101 (omega arith)) (record { eq = refl; filled = rw (y, w) at f })
      go (Some m) (bad k) a b = absurd (let q : ◌≡◌ {A = ℕ} 0 1 = cc in omega arith)

  pub some-serials : (n : ℕ) → Some n ≡ serials_in c → 1 ≤ n
  unfolding serials_in
  some-serials n e =
      go (read_count 10 (up_to 44 c)) (read_serials (drop 1 (split 44 c))) (e ∙ ap (λ (ss : List (List ℕ)). long_of (read_serials ss)) (split-head c))
    where
      go : (o : Option ℕ) (x : Got (List ℕ)) → Some n ≡ long_of (cons_g (or_bad 10 o) x) → 1 ≤ n
      go None (got ns) b = absurd (let q : ◌≡◌ {A = ℕ} 0 1 = cc in omega arith)
      go None (bad m) b = absurd (let q : ◌≡◌ {A = ℕ} 0 1 = cc in omega arith)
      go (Some m) (got ns) b = let z : n ≡ suc (length ns) = cc in omega arith
      go (Some m) (bad k) b = absurd (let q : ◌≡◌ {A = ℕ} 0 1 = cc in omega arith)

-- what holds of every serial number with partners holds of what is read
module _ (Q : Value → Type 0) (every : (n : ℕ) (ns : List ℕ) → Q (linked n ns)) where
  on-linked : (n : ℕ) (ns : List ℕ) (t : Bool) → On Q (map_g linked_of (unless t 11 (got (n ∷ ns))))
  on-linked n ns true = every n ns
  on-linked n ns false = tt

  on-serials : (q : List ℕ → Bool) (o : Option ℕ) (x : Got (List ℕ)) → On Q (map_g linked_of (keep 11 q (cons_g (or_bad 10 o) x)))
  on-serials q None (got ns) = tt
  on-serials q None (bad m) = tt
  on-serials q (Some n) (got ns) = on-linked n ns (q (n ∷ ns))
  on-serials q (Some n) (bad m) = tt

  pub on-linked_in : (c : List ℕ) → On Q (linked_in (read_serials (split 44 c)))
  on-linked_in c =
      let q : List ℕ → Bool = λ ns. leb (length ns) (most_partners + 1) in
      subst (λ (ss : List (List ℕ)). On Q (map_g linked_of (keep 11 q (read_serials ss)))) (sym (split-head c)) (on-serials q (read_count 10 (up_to 44 c)) (read_serials (drop 1 (split 44 c))))

-- ── a row that holds values ──
-- numbers are read alike wherever they stand
values-anywhere : (r : Row) (k : Known) (at : ℕ) (c : List ℕ) → read_kind k (values_of r) 0 c ≡ read_kind k (values_of r) at c
values-anywhere r k at c = by_cond (λ d. read_kind k d 0 c ≡ read_kind k d at c) (eqb r.kind 12) (λ _. refl) (λ _. refl)

pub puts-values : (r : Row) → kind_of r ≡ values_of r → (k : Known) (at : ℕ) (c : List ℕ) (t t₁ : List ℤ) (p : ℕ) (a : Result ⊤ ℕ)
    → Puts (read_kind k (values_of r) 0 c) (λ v. sets t p (numbers v)) t₁ a → Puts (read_kind k (kind_of r) at c) (λ v. sets t p (numbers v)) t₁ a
puts-values r e k at c t t₁ p a h =
    subst (λ (g : Got Value). Puts g (λ v. sets t p (numbers v)) t₁ a) (values-anywhere r k at c ∙ ap (λ (d : Kind). read_kind k d at c) (sym e)) h
