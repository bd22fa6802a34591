-- The values of a line, one after the other, and the rules across them.
use Rattle.std.specs.Prelude.{Option, Some, None, Result, Ok, Err, ⊤}
use Prim.Native.Nat.{ℕ, zero, suc, ◌+◌, ◌-◌, ◌/◌, ◌%◌, ◌<◌, ◌≤◌, min}
use mathlib.Core.Path.{◌≡◌, refl, ap, sym, ◌∙◌}
use mathlib.Core.Bool.{Bool, true, false, cond}
use mathlib.Core.List.{List, [], ◌∷◌, map}
use native.Mathlib.Omega.{arith}
use native.Mathlib.Numerals.{add-one, sub-one}
use lib.IntN.{ℤ, pos}
use lib.Dec.{eqb}
use lib.ListN.{length, get_or, take, drop, set, length-set, length-drop}
use lib.Seq.{sets, get_or-set_same, get_or-set_other, drop-drop}
use borrow.Author.Tests.{eqb-true, leb-true}
use Rattle.rules.specs.Base.{split, head_onto, is_nil, within, index_of}
use Rattle.rules.specs.Numbers.{read_count, read_fixed, is_day, is_clock, read_decimal}
use Rattle.rules.specs.RefusalNumbers.{Got, got, bad, unless, map_g, or_bad, keep, cons_g}
use Rattle.rules.specs.Values.{Num, num, amount, natural, Known, Part, count, digit, type_digits, range, range_of_symbols, range_of_wires, day, clock, decimal, exactly, symbol_name, layer_id, read_part, read_all, nums, Across, nothing_more, ends_differ, arc_of_circle, axes_of_ellipse, served_power, value_at, agree, is_layer_id, served_symbols, served_wires, equal_z, in_bound}
use Rattle.rules.specs.RecordTable.{numbers}
use Rattle.leaves.specs.Bytes.{up_to, past}
use Rattle.leaves.proofs.Scan.{rest_all}
use Rattle.leaves.proofs.Cuts.{up_to-le, up_to-none, past-drop, split-last, split-more}
use Rattle.tables.specs.Rows.{part_of, parts_of}
use Rattle.entries.specs.Parts.{val_of, PieceIs}
use Rattle.entries.specs.Entering.{On, Puts, done_of, put_val, least_of, plainly, last_of, covered, number_from, amount_from, agree_from}
use Rattle.entries.specs.declared.Piece.{Piece}

-- ── the numbers at the places from p on ──
module _ (d : ℤ) where
  sets_below : (t : List ℤ) (p q : ℕ) (vs : List ℤ) → q < p → get_or (sets t p vs) q d ≡ get_or t q d
  sets_below t p q [] h = refl
  sets_below t p q (z ∷ vs) h = sets_below (set t p z) (suc p) q vs (omega arith) ∙ get_or-set_other t p q z d (λ (e : q ≡ p). omega arith)

  pub sets-at : (vs t : List ℤ) (p i : ℕ) → i < length vs → p + length vs ≤ length t → get_or (sets t p vs) (p + i) d ≡ get_or vs i d
  sets-at [] t p i h l = absurd (omega arith)
  sets-at (z ∷ vs) t p zero h l =
      let e : p + 0 ≡ p = omega arith in
      rw e (sets_below (set t p z) (suc p) p vs (omega arith) ∙ get_or-set_same t p z d (omega arith))
  sets-at (z ∷ vs) t p (suc i) h l =
      let e : p + suc i ≡ suc p + i = omega arith in
      rw e (sets-at vs (set t p z) (suc p) i (omega arith) (omega (arith, length-set t p z)))

value-map : (v : List Num) (i : ℕ) → get_or (plainly v) i (pos 0) ≡ value_at v i
value-map [] i = refl
value-map (n ∷ v) zero = refl
value-map (n ∷ v) (suc i) = value-map v i

pub map-long : (v : List Num) → length (plainly v) ≡ length v
map-long [] = refl
map-long (n ∷ v) = ap suc (map-long v)

pub covered-last : (a : Across) (n : ℕ) → covered a n ≡ true → last_of a ≤ n
covered-last nothing_more n e = omega arith
covered-last ends_differ n e = leb-true 4 n e
covered-last arc_of_circle n e = leb-true 5 n e
covered-last axes_of_ellipse n e = leb-true 6 n e
covered-last served_power n e = let h = eqb-true n 2 e in omega (arith, h)

module _ (v : List Num) (t : List ℤ) (p : ℕ) (l : p + length v ≤ length t) where
  number-at : (i : ℕ) → i < length v → number_from p (sets t p (plainly v)) i ≡ value_at v i
  number-at i h = sets-at (pos 0) (plainly v) t p i (omega (arith, h, map-long v)) (omega (arith, l, map-long v)) ∙ value-map v i

  amount-at : (i : ℕ) → i < length v → amount_from p (sets t p (plainly v)) i ≡ amount (num (value_at v i))
  amount-at i h = ap (λ (z : ℤ). amount (num z)) (number-at i h)

  three_amounts : length v ≡ 3 → map amount v ≡ amount (num (value_at v 0)) ∷ amount (num (value_at v 1)) ∷ amount (num (value_at v 2)) ∷ []
  three_amounts e = go v e
    where
      go : (v : List Num) → length v ≡ 3 → map amount v ≡ amount (num (value_at v 0)) ∷ amount (num (value_at v 1)) ∷ amount (num (value_at v 2)) ∷ []
      go [] e = absurd (omega arith)
      go (a ∷ []) e = absurd (omega arith)
      go (a ∷ b ∷ []) e = absurd (omega arith)
      go (a ∷ b ∷ c ∷ []) e = refl
      go (a ∷ b ∷ c ∷ d ∷ v) e = absurd (omega arith)

  agree-most : (a : Across) (n : ℕ) → length v ≡ suc n → covered a n ≡ true → last_of a < length v
  agree-most a n e h = omega (arith, e, covered-last a n h)

  agree-is : (a : Across) (n : ℕ) → length v ≡ suc n → covered a n ≡ true → agree_from a p (sets t p (plainly v)) ≡ agree a v
  agree-is nothing_more n e k = refl
  agree-is ends_differ n e k = let h = agree-most ends_differ n e k in rw (number-at 1 (omega arith), number-at 2 (omega arith), number-at 3 (omega arith), number-at 4 (omega arith))
  agree-is arc_of_circle n e k = let h = agree-most arc_of_circle n e k in rw (number-at 4 (omega arith), number-at 5 (omega arith))
  agree-is axes_of_ellipse n e k = let h = agree-most axes_of_ellipse n e k in rw (number-at 3 (omega arith), number-at 4 (omega arith), number-at 5 (omega arith), number-at 6 (omega arith))
  agree-is served_power n e k =
      let h = eqb-true n 2 k in
      let q : length v ≡ 3 = omega (arith, e, h) in
      rw (amount-at 0 (omega arith), amount-at 1 (omega arith), amount-at 2 (omega arith), three_amounts q)

-- ── no value has a smaller number than 10 ──
abbrev TenUp : {A : Type 0} → Got A → Type 0
TenUp (got a) = Unit {0}
TenUp (bad n) = 10 ≤ n

ten-unless : {A : Type 0} (t : Bool) (n : ℕ) (g : Got A) → 10 ≤ n → TenUp g → TenUp (unless t n g)
ten-unless true n g h k = k
ten-unless false n g h k = h

ten-or : (n : ℕ) (o : Option ℕ) → 10 ≤ n → TenUp (natural (or_bad n o))
ten-or n None h = h
ten-or n (Some a) h = tt

ten-kept : (n : ℕ) (p : ℕ → Bool) (o : Option ℕ) → 10 ≤ n → TenUp (natural (keep n p (or_bad 10 o)))
ten-kept n p None h = omega arith
ten-kept n p (Some a) h = go (p a)
  where
    go : (t : Bool) → TenUp (natural (unless t n (got a)))
    go true = tt
    go false = h

ten-decimal : (n : ℕ) (p : ℤ → Bool) (o : Option ℤ) → 10 ≤ n → TenUp (map_g num (keep n p (or_bad 10 o)))
ten-decimal n p None h = omega arith
ten-decimal n p (Some a) h = go (p a)
  where
    go : (t : Bool) → TenUp (map_g num (unless t n (got a)))
    go true = tt
    go false = h

ten-part : (k : Known) (p : Part) (s : List ℕ) → TenUp (read_part k p s)
ten-part k count s = ten-or 10 (read_count 9 s) (omega arith)
ten-part k (digit lo hi) s = ten-kept 11 (within lo hi) (read_fixed 1 s) (omega arith)
ten-part k type_digits s = ten-or 10 (read_fixed 4 s) (omega arith)
ten-part k (range lo hi) s = ten-kept 12 (within lo hi) (read_fixed 3 s) (omega arith)
ten-part k range_of_symbols s = ten-kept 12 served_symbols (read_fixed 3 s) (omega arith)
ten-part k range_of_wires s = ten-kept 12 served_wires (read_fixed 3 s) (omega arith)
ten-part k day s = ten-kept 10 is_day (read_fixed 8 s) (omega arith)
ten-part k clock s = ten-kept 10 is_clock (read_fixed 6 s) (omega arith)
ten-part k (decimal b) s = ten-decimal 11 (in_bound b) (read_decimal s) (omega arith)
ten-part k (exactly n) s = ten-decimal 10 (equal_z (pos n)) (read_decimal s) (omega arith)
ten-part k symbol_name s = ten-or 13 (index_of s k.symbols) (omega arith)
ten-part k layer_id s = ten-unless (is_layer_id s) 11 (natural (or_bad 14 (index_of s k.layers))) (omega arith) (ten-or 14 (index_of s k.layers) (omega arith))

ten-cons : (g : Got Num) → TenUp g → cons_g g (bad 10) ≡ bad 10
ten-cons (got n) h = refl
ten-cons (bad m) h = let e : min m 10 ≡ 10 = omega arith in rw e

-- ── one after the other ──
cons-put : (g : Got Num) (x : Got (List Num)) (t t₂ : List ℤ) (p : ℕ) (r : Result ⊤ ℕ) → Puts x (λ v. sets (put_val (val_of g) p t) (suc p) (plainly v)) t₂ r
    → Puts (cons_g g x) (λ v. sets t p (plainly v)) t₂ (least_of (done_of (val_of g)) r)
cons-put (got n) (got s) t t₂ p r h = record { eq = h.eq; filled = h.filled }
cons-put (got n) (bad m) t t₂ p r h = record { eq = h.eq; filled = tt }
cons-put (bad m) (got s) t t₂ p r h = record { eq = ap (least_of (Err m)) h.eq; filled = tt }
cons-put (bad m) (bad n) t t₂ p r h = record { eq = ap (least_of (Err m)) h.eq; filled = tt }

last-put : (g : Got Num) (t : List ℤ) (p : ℕ) → Puts (cons_g g (got [])) (λ v. sets t p (plainly v)) (put_val (val_of g) p t) (done_of (val_of g))
last-put (got n) t p = record { eq = refl; filled = refl }
last-put (bad m) t p = record { eq = refl; filled = tt }

pub put-long : (v : Result ℤ ℕ) (p : ℕ) (t : List ℤ) → length (put_val v p t) ≡ length t
put-long (Ok z) p t = length-set t p z
put-long (Err n) p t = refl

parts_none : (n c : ℕ) → n ≡ 0 → parts_of n c ≡ []
unfolding parts_of
parts_none n c e = rw e

parts_more : (n c : ℕ) → (n ≡ 0 → ⊥) → parts_of n c ≡ part_of (c % 100) ∷ parts_of (n - 1) (c / 100)
unfolding parts_of
parts_more zero c h = absurd (h refl)
parts_more (suc n) c h = rw sub-one

head-some : (b : ℕ) (ss : List (List ℕ)) → is_nil (head_onto b ss) ≡ false
head-some b [] = refl
head-some b (u ∷ us) = refl

some-split : (s : List ℕ) → is_nil (split 44 s) ≡ false
some-split [] = refl
some-split (b ∷ s) = elim (eqb b 44) as (λ t. is_nil (cond t ([] ∷ split 44 s) (head_onto b (split 44 s))) ≡ false) [ true ↦ refl | false ↦ head-some b (split 44 s) ]

split-some : (s : List ℕ) (k : Known) → read_all k [] (split 44 s) ≡ bad 10
split-some s k = go (split 44 s) (some-split s)
  where
    go : (ss : List (List ℕ)) → is_nil ss ≡ false → read_all k [] ss ≡ bad 10
    go [] e = absurd (let z : ◌≡◌ {A = ℕ} 0 1 = cc in omega arith)
    go (u ∷ us) e = refl

module _ (k : Known) (parts more : ℕ) (c : List ℕ) where
  abbrev pub wanted : Got (List Num)
  wanted = read_all k (part_of (parts % 100) ∷ parts_of more (parts / 100)) (split 44 c)

  too_many : (w : List Num → List ℤ) (t : List ℤ) → length (up_to 44 c) < length c → more ≡ 0 → Puts wanted w t (Err 10)
  too_many w t l z =
      rw (parts_none more (parts / 100) z, split-more 44 c l, split-some (past 44 c) k, ten-cons (read_part k (part_of (parts % 100)) (up_to 44 c)) (ten-part k (part_of (parts % 100)) (up_to 44 c)))
      (record { eq = refl; filled = tt })

  too_few : (w : List Num → List ℤ) (t : List ℤ) → length c ≤ length (up_to 44 c) → (more ≡ 0 → ⊥) → Puts wanted w t (Err 10)
  too_few w t l z =
      rw (parts_more more (parts / 100) z, split-last 44 c l, ten-cons (read_part k (part_of (parts % 100)) c) (ten-part k (part_of (parts % 100)) c))
      (record { eq = refl; filled = tt })

  module _ (v : Result ℤ ℕ) (p : ℕ) (t : List ℤ) (told : v ≡ val_of (read_part k (part_of (parts % 100)) (up_to 44 c))) where
    the_last : (t₂ : List ℤ) (a : Result ⊤ ℕ) → length c ≤ length (up_to 44 c) → more ≡ 0 → a ≡ done_of v → t₂ ≡ put_val v p t → Puts wanted (λ v. sets t p (plainly v)) t₂ a
    the_last t₂ a l z e f =
        rw (parts_none more (parts / 100) z, split-last 44 c l, e, f, told, up_to-none 44 c l) (last-put (read_part k (part_of (parts % 100)) c) t p)

    and-more : (e : ℕ) (t₁ t₂ : List ℤ) (a r : Result ⊤ ℕ) → e ≡ length (up_to 44 c) → e < length c → (more ≡ 0 → ⊥) → a ≡ done_of v → t₁ ≡ put_val v p t
        → Puts (read_all k (part_of (parts / 100 % 100) ∷ parts_of (more - 1) (parts / 100 / 100)) (split 44 (drop (e + 1) c))) (λ v. sets t₁ (p + 1) (plainly v)) t₂ r
        → Puts wanted (λ v. sets t p (plainly v)) t₂ (least_of a r)
    and-more e t₁ t₂ a r q l z d f h =
        let l₁ : length (up_to 44 c) < length c = omega arith in
        let h₁ = rw (add-one e, q, add-one p, f, told) at h in
        rw (parts_more more (parts / 100) z, split-more 44 c l₁, past-drop 44 c l₁, d, told)
        (cons-put (read_part k (part_of (parts % 100)) (up_to 44 c)) (read_all k (part_of (parts / 100 % 100) ∷ parts_of (more - 1) (parts / 100 / 100)) (split 44 (drop (suc (length (up_to 44 c))) c))) t t₂ p r h₁)

-- ── the loop over them ──
least-behind : (a b r : Result ⊤ ℕ) → least_of a (least_of b r) ≡ least_of (least_of a b) r
least-behind (Ok tt) b r = refl
least-behind (Err l) (Ok tt) r = refl
least-behind (Err l) (Err m) (Ok tt) = refl
least-behind (Err l) (Err m) (Err n) = let e : min l (min m n) ≡ min (min l m) n = omega arith in rw e

-- What is left of the values of c: those from place i on, by their forms in `codes` (one, and `left` more), to the places from q on.
-- Whatever they answer, all of c answers that or the smallest number so far.
pub record Going (k : Known) (parts more : ℕ) (c : List ℕ) (p : ℕ) (t : List ℤ) (codes left q i : ℕ) (worst : Result ⊤ ℕ) (t₁ : List ℤ) : Type 0 where
  pub within : i ≤ length c
  pub room : q + left < length t₁
  pub kept : length t₁ ≡ length t
  pub whole : (t₂ : List ℤ) (r : Result ⊤ ℕ) → Puts (wanted k codes left (drop i c)) (λ v. sets t₁ q (plainly v)) t₂ r → Puts (wanted k parts more c) (λ v. sets t p (plainly v)) t₂ (least_of worst r)

pub going_start : (k : Known) (parts more : ℕ) (c : List ℕ) (p : ℕ) (t : List ℤ) → p + more < length t → Going k parts more c p t parts more p 0 (Ok tt) t
going_start k parts more c p t h = record { within = omega arith; room = h; kept = refl; whole = λ t₂ r x. x }

module _ (k : Known) (parts more : ℕ) (c : List ℕ) (p : ℕ) (t : List ℤ) (codes left q i : ℕ) (worst : Result ⊤ ℕ) (t₁ : List ℤ) (g : Going k parts more c p t codes left q i worst t₁) (a : Piece)
    (h : PieceIs k (codes % 100) (take (length c - i) (drop i c)) a) where
  piece-val : a.val ≡ val_of (read_part k (part_of (codes % 100)) (up_to 44 (drop i c)))
  piece-val = rw (rest_all i c) at h.val

  piece-end : a.end ≡ length (up_to 44 (drop i c))
  piece-end = rw (rest_all i c) at h.end

  pub piece-within : i + a.end ≤ length c
  piece-within = omega (arith, piece-end, up_to-le 44 (drop i c), length-drop i c, g.within)

  pub going-few : (t₂ : List ℤ) (b : Result ⊤ ℕ) → length c ≤ i + a.end → (left ≡ 0 → ⊥) → b ≡ least_of worst (Err 10) → Puts (wanted k parts more c) (λ v. sets t p (plainly v)) t₂ b
  going-few t₂ b l z o = rw o (g.whole t₂ (Err 10) (too_few k codes left (drop i c) (λ v. sets t₁ q (plainly v)) t₂ (omega (arith, piece-end, length-drop i c)) z))

  pub going-many : (t₂ : List ℤ) (b : Result ⊤ ℕ) → i + a.end < length c → left ≡ 0 → b ≡ least_of worst (Err 10) → Puts (wanted k parts more c) (λ v. sets t p (plainly v)) t₂ b
  going-many t₂ b l z o = rw o (g.whole t₂ (Err 10) (too_many k codes left (drop i c) (λ v. sets t₁ q (plainly v)) t₂ (omega (arith, piece-end, length-drop i c)) z))

  pub going-last : (t₂ : List ℤ) (r b : Result ⊤ ℕ) → length c ≤ i + a.end → left ≡ 0 → r ≡ done_of a.val → t₂ ≡ put_val a.val q t₁ → b ≡ least_of worst r
      → Puts (wanted k parts more c) (λ v. sets t p (plainly v)) t₂ b
  going-last t₂ r b l z d f o = rw o (g.whole t₂ r (the_last k codes left (drop i c) a.val q t₁ piece-val t₂ r (omega (arith, piece-end, length-drop i c)) z d f))

  pub going_more : (t₂ : List ℤ) (r b : Result ⊤ ℕ) → i + a.end < length c → (left ≡ 0 → ⊥) → r ≡ done_of a.val → t₂ ≡ put_val a.val q t₁ → b ≡ least_of worst r
      → Going k parts more c p t (codes / 100) (left - 1) (q + 1) (i + a.end + 1) b t₂
  going_more t₂ r b l z d f o =
      record {
        within = omega arith;
        room = omega (arith, g.room, ap length f, put-long a.val q t₁);
        kept = ap length f ∙ put-long a.val q t₁ ∙ g.kept;
        whole = λ t₃ x y.
            let n : i + a.end + 1 ≡ i + (a.end + 1) = omega arith in
            let e : drop (i + a.end + 1) c ≡ drop (a.end + 1) (drop i c) = ap (λ (m : ℕ). drop m c) n ∙ sym (drop-drop (a.end + 1) i c) in
            rw (o, sym (least-behind worst r x))
            (g.whole t₃ (least_of r x) (and-more k codes left (drop i c) a.val q t₁ piece-val a.end t₂ t₃ r x piece-end (omega (arith, length-drop i c)) z d f (rw e at y)));
      }

-- ── the rules across them ──
long-cons : (g : Got Num) (x : Got (List Num)) (n : ℕ) → On (λ v. length v ≡ n) x → On (λ v. length v ≡ suc n) (cons_g g x)
long-cons (got a) (got s) n h = ap suc h
long-cons (got a) (bad m) n h = tt
long-cons (bad m) (got s) n h = tt
long-cons (bad m) (bad o) n h = tt

pub long-all : (k : Known) (ps : List Part) (ss : List (List ℕ)) → On (λ v. length v ≡ length ps) (read_all k ps ss)
long-all k [] [] = refl
long-all k [] (s ∷ ss) = tt
long-all k (p ∷ ps) [] = tt
long-all k (p ∷ ps) (s ∷ ss) = long-cons (read_part k p s) (read_all k ps ss) (length ps) (long-all k ps ss)

pub parts-long : (n c : ℕ) → length (parts_of n c) ≡ n
unfolding parts_of
parts-long zero c = refl
parts-long (suc n) c = ap suc (parts-long n (c / 100))

pub done-not : {P : Type 0} (n : ℕ) → ◌≡◌ {A = Result ⊤ ℕ} (Ok tt) (Err n) → P
done-not n e = absurd (let z : ◌≡◌ {A = ℕ} 0 1 = cc in omega arith)

module _ (ac : Across) (t t₁ : List ℤ) (p n : ℕ) (a : Result ⊤ ℕ) where
  pub across-by : (g : Got (List Num)) (b : Bool) → On (λ v. length v ≡ n) g → Puts g (λ v. sets t p (plainly v)) t₁ a → a ≡ Ok tt → (m : ℕ) → n ≡ suc m → covered ac m ≡ true → p + n ≤ length t → agree_from ac p t₁ ≡ b
      → Puts (map_g nums (keep 11 (agree ac) g)) (λ v. sets t p (numbers v)) t₁ (cond b (Ok tt) (Err 11))
  across-by (bad k) b s h d m z l r e = done-not k (sym d ∙ h.eq)
  across-by (got v) b s h d m z l r e = go b (sym (agree-is v t p (omega (arith, s, r)) ac m (s ∙ z) l) ∙ ap (agree_from ac p) (sym h.filled) ∙ e)
    where
      go : (b : Bool) → agree ac v ≡ b → Puts (map_g nums (keep 11 (agree ac) (got v))) (λ v. sets t p (numbers v)) t₁ (cond b (Ok tt) (Err 11))
      go true q = rw q (record { eq = refl; filled = h.filled })
      go false q = rw q (record { eq = refl; filled = tt })
