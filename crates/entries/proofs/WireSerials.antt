-- A wire's serial: its own number and two partners, each of which may be empty. Whatever is wrong is 10.
use Rattle.std.specs.Prelude.{Option, Some, None, Result, Ok, Err, ⊤}
use Prim.Native.Nat.{ℕ, suc, ◌+◌, ◌<◌, ◌≤◌}
use mathlib.Core.Path.{◌≡◌, refl, ap, sym, ◌∙◌}
use mathlib.Core.List.{List, [], ◌∷◌, ◌++◌}
use native.Mathlib.Omega.{arith}
use native.Mathlib.Numerals.{add-one}
use lib.IntN.{ℤ, pos}
use lib.ListN.{length, take, drop, set}
use lib.Seq.{sets}
use Rattle.rules.specs.Base.{flat, split}
use Rattle.rules.specs.RefusalNumbers.{Got, got, bad, map_g, or_bad, cons_g}
use Rattle.rules.specs.Numbers.{read_count}
use Rattle.rules.specs.Values.{Num, natural, two_nums, Value, nums, read_partner, read_wire_serial}
use Rattle.rules.specs.RecordTable.{numbers}
use Rattle.leaves.specs.Bytes.{up_to, past}
use Rattle.leaves.proofs.Cuts.{split-last, split-more, piece-first, piece-more}
use Rattle.entries.specs.Entering.{On, Puts, plainly, read_ends}
use Rattle.entries.proofs.EachValue.{done-not}
use Rattle.entries.proofs.ByKind.{Two, split-head}

-- ── one partner ──
-- its state and number, or 10
abbrev Partner : Got (List Num) → Type 0
Partner (got v) = Two v
Partner (bad n) = n ≡ 10

partner-by : (o : Option ℕ) → Partner (map_g (λ n. two_nums 2 n) (or_bad 10 o))
partner-by None = refl
partner-by (Some n) = refl

partner-is : (c : List ℕ) → Partner (read_partner c)
partner-is [] = refl
partner-is (b ∷ s) = partner-by (read_count 10 (b ∷ s))

-- ── both partners ──
abbrev both : Got (List Num) → Got (List Num) → Got (List Num)
both x y = map_g flat (cons_g x (cons_g y (got [])))

both-filled : (v w : List Num) (t : List ℤ) (p : ℕ) → Two v → Two w → sets (sets t p (plainly v)) (p + 2) (plainly w) ≡ sets t p (plainly (v ++ (w ++ [])))
both-filled v w t p h k =
    let e : p + 2 ≡ suc (suc p) = omega arith in
    rw (e, h, k)

both-put : (x y : Got (List Num)) → Partner x → Partner y → (t t₁ t₂ : List ℤ) (p : ℕ) (b : Result ⊤ ℕ) → Puts x (λ v. sets t p (plainly v)) t₁ (Ok tt)
    → Puts y (λ v. sets t₁ (p + 2) (plainly v)) t₂ b → Puts (both x y) (λ v. sets t p (plainly v)) t₂ b
both-put (bad m) y h k t t₁ t₂ p b f g = done-not m f.eq
both-put (got v) (bad n) h k t t₁ t₂ p b f g = record { eq = g.eq; filled = tt }
both-put (got v) (got w) h k t t₁ t₂ p b f g =
    record { eq = g.eq; filled = g.filled ∙ ap (λ (u : List ℤ). sets u (p + 2) (plainly w)) f.filled ∙ both-filled v w t p h k }

both-bad : (x y : Got (List Num)) → Partner x → Partner y → (w w' : List Num → List ℤ) (t t' : List ℤ) (n : ℕ) → Puts x w t (Err n) → Puts (both x y) w' t' (Err n)
both-bad (got v) y h k w w' t t' n f = done-not n (sym f.eq)
both-bad (bad m) (got u) h k w w' t t' n f = record { eq = f.eq; filled = tt }
both-bad (bad m) (bad l) h k w w' t t' n f = let e = f.eq ∙ ap Err h in rw (h, k) (record { eq = e; filled = tt })

-- ── by the commas ──
-- the piece in front of the first comma, and what is behind it
front-piece : (c : List ℕ) (e : ℕ) → e ≡ length (up_to 44 c) → e < length c → split 44 c ≡ take e c ∷ split 44 (drop (e + 1) c)
front-piece c e q h = piece-more 44 c e q h ∙ ap (λ (u : List ℕ). u ∷ split 44 (drop (e + 1) c)) (sym (piece-first 44 c e q))

many_items : (a b c : List ℕ) → read_ends (a ∷ b ∷ split 44 c) ≡ bad 10
many_items a b c = ap (λ (ss : List (List ℕ)). read_ends (a ∷ b ∷ ss)) (split-head c)

module _ (a b : List ℕ) (t : List ℤ) (p f : ℕ) (q : f ≡ length (up_to 44 b)) where
  pub ends-many : (t₁ : List ℤ) → f < length b → Puts (read_ends (a ∷ split 44 b)) (λ v. sets t p (plainly v)) t₁ (Err 10)
  ends-many t₁ h = rw (split-more 44 b (omega (arith, q, h)), many_items a (up_to 44 b) (past 44 b)) (record { eq = refl; filled = tt })

  pub ends-bad : (t₁ t₂ : List ℤ) (n : ℕ) → length b ≤ f → Puts (read_partner a) (λ v. sets t p (plainly v)) t₁ (Err n)
      → Puts (read_ends (a ∷ split 44 b)) (λ v. sets t p (plainly v)) t₂ (Err n)
  ends-bad t₁ t₂ n h x =
      rw (split-last 44 b (omega (arith, q, h)))
      (both-bad (read_partner a) (read_partner b) (partner-is a) (partner-is b) (λ v. sets t p (plainly v)) (λ v. sets t p (plainly v)) t₁ t₂ n x)

  pub ends-put : (t₁ t₂ : List ℤ) (r : Result ⊤ ℕ) → length b ≤ f → Puts (read_partner a) (λ v. sets t p (plainly v)) t₁ (Ok tt) → Puts (read_partner b) (λ v. sets t₁ (p + 2) (plainly v)) t₂ r
      → Puts (read_ends (a ∷ split 44 b)) (λ v. sets t p (plainly v)) t₂ r
  ends-put t₁ t₂ r h x y = rw (split-last 44 b (omega (arith, q, h))) (both-put (read_partner a) (read_partner b) (partner-is a) (partner-is b) t t₁ t₂ p r x y)

module _ (c : List ℕ) (t t₁ : List ℤ) (p e : ℕ) (q : e ≡ length (up_to 44 c)) where
  pub ends-few : length c ≤ e → Puts (read_ends (split 44 c)) (λ v. sets t p (plainly v)) t₁ (Err 10)
  ends-few h = rw (split-last 44 c (omega (arith, q, h))) (record { eq = refl; filled = tt })

  pub ends-two : (r : Result ⊤ ℕ) → e < length c → Puts (read_ends (take e c ∷ split 44 (drop (e + 1) c))) (λ v. sets t p (plainly v)) t₁ r → Puts (read_ends (split 44 c)) (λ v. sets t p (plainly v)) t₁ r
  ends-two r h x = rw (front-piece c e q h) x

-- ── the own number in front of them ──
own-ten : (o : Option ℕ) → bad 10 ≡ cons_g (natural (or_bad 10 o)) (bad 10)
own-ten None = refl
own-ten (Some n) = refl

wire-by : (o : List ℕ) (ss : List (List ℕ)) → read_wire_serial (o ∷ ss) ≡ cons_g (natural (or_bad 10 (read_count 10 o))) (read_ends ss)
wire-by o [] = own-ten (read_count 10 o)
wire-by o (a ∷ []) = own-ten (read_count 10 o)
wire-by o (a ∷ b ∷ []) = refl
wire-by o (a ∷ b ∷ c ∷ ss) = own-ten (read_count 10 o)

-- a refusal of the partners is 10
abbrev OnlyTen : Got (List Num) → Type 0
OnlyTen (got v) = Unit {0}
OnlyTen (bad n) = n ≡ 10

ends-ten : (ss : List (List ℕ)) → OnlyTen (read_ends ss)
ends-ten [] = refl
ends-ten (a ∷ []) = refl
ends-ten (a ∷ b ∷ []) = go (read_partner a) (read_partner b) (partner-is a) (partner-is b)
  where
    go : (x y : Got (List Num)) → Partner x → Partner y → OnlyTen (both x y)
    go (got v) (got w) h k = tt
    go (got v) (bad n) h k = k
    go (bad m) (got w) h k = h
    go (bad m) (bad n) h k = rw (h, k)
ends-ten (a ∷ b ∷ c ∷ ss) = refl

own-not : (o : Option ℕ) (x : Got (List Num)) (w : Value → List ℤ) (t : List ℤ) → OnlyTen x → None ≡ o → Puts (map_g nums (cons_g (natural (or_bad 10 o)) x)) w t (Err 10)
own-not (Some n) x w t h e = absurd (let q : ◌≡◌ {A = ℕ} 0 1 = cc in omega arith)
own-not None (got v) w t h e = record { eq = refl; filled = tt }
own-not None (bad m) w t h e = rw h (record { eq = refl; filled = tt })

own_is : (o : Option ℕ) (x : Got (List Num)) (n : ℕ) (t t₁ : List ℤ) (p : ℕ) (b : Result ⊤ ℕ) → Some n ≡ o → Puts x (λ v. sets (set t p (pos n)) (p + 1) (plainly v)) t₁ b
    → Puts (map_g nums (cons_g (natural (or_bad 10 o)) x)) (λ v. sets t p (numbers v)) t₁ b
own_is None x n t t₁ p b e f = absurd (let q : ◌≡◌ {A = ℕ} 0 1 = cc in omega arith)
own_is (Some m) (got v) n t t₁ p b e f = let q : n ≡ m = cc in record { eq = f.eq; filled = rw (q, add-one p) at f.filled }
own_is (Some m) (bad k) n t t₁ p b e f = record { eq = f.eq; filled = tt }

module _ (c : List ℕ) (t : List ℤ) (p : ℕ) where
  pub serial-few : (t₁ : List ℤ) (e : ℕ) → e ≡ length (up_to 44 c) → length c ≤ e → Puts (map_g nums (read_wire_serial (split 44 c))) (λ v. sets t p (numbers v)) t₁ (Err 10)
  serial-few t₁ e q h = rw (split-last 44 c (omega (arith, q, h))) (record { eq = refl; filled = tt })

  module _ (e : ℕ) (q : e ≡ length (up_to 44 c)) (h : e < length c) where
    own-and-ends : read_wire_serial (split 44 c) ≡ cons_g (natural (or_bad 10 (read_count 10 (take e c)))) (read_ends (split 44 (drop (e + 1) c)))
    own-and-ends = ap read_wire_serial (front-piece c e q h) ∙ wire-by (take e c) (split 44 (drop (e + 1) c))

    pub serial-own : (t₁ : List ℤ) → None ≡ read_count 10 (take e c) → Puts (map_g nums (read_wire_serial (split 44 c))) (λ v. sets t p (numbers v)) t₁ (Err 10)
    serial-own t₁ r =
        rw own-and-ends (own-not (read_count 10 (take e c)) (read_ends (split 44 (drop (e + 1) c))) (λ v. sets t p (numbers v)) t₁ (ends-ten (split 44 (drop (e + 1) c))) r)

    pub serial-put : (n : ℕ) (t₁ : List ℤ) (b : Result ⊤ ℕ) → Some n ≡ read_count 10 (take e c)
        → Puts (read_ends (split 44 (drop (e + 1) c))) (λ v. sets (set t p (pos n)) (p + 1) (plainly v)) t₁ b
        → Puts (map_g nums (read_wire_serial (split 44 c))) (λ v. sets t p (numbers v)) t₁ b
    serial-put n t₁ b r f = rw own-and-ends (own_is (read_count 10 (take e c)) (read_ends (split 44 (drop (e + 1) c))) n t t₁ p b r f)

-- ── how many numbers it has ──
pub wire-long : (ss : List (List ℕ)) → On (λ v. length v ≡ 5) (read_wire_serial ss)
wire-long [] = tt
wire-long (o ∷ []) = tt
wire-long (o ∷ a ∷ []) = tt
wire-long (o ∷ a ∷ b ∷ c ∷ ss) = tt
wire-long (o ∷ a ∷ b ∷ []) = go (read_count 10 o) (read_partner a) (read_partner b) (partner-is a) (partner-is b)
  where
    go : (o : Option ℕ) (x y : Got (List Num)) → Partner x → Partner y → On (λ v. length v ≡ 5) (cons_g (natural (or_bad 10 o)) (both x y))
    go None (got v) (got w) h k = tt
    go None (got v) (bad n) h k = tt
    go None (bad m) (got w) h k = tt
    go None (bad m) (bad n) h k = tt
    go (Some i) (got v) (got w) h k = rw (h, k)
    go (Some i) (got v) (bad n) h k = tt
    go (Some i) (bad m) (got w) h k = tt
    go (Some i) (bad m) (bad n) h k = tt
