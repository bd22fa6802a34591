-- A part of a list; and a table that holds records and zeros behind them: one more record, of zeros, and records with other numbers.
use Prim.Native.Nat.{ℕ, ◌+◌, ◌-◌, ◌≤◌}
use mathlib.Core.List.{List, [], ◌∷◌, ◌++◌, append_assoc, append-nil}
use mathlib.Core.Path.{◌≡◌, refl, sym, ◌∙◌, ap, subst}
use native.Mathlib.Omega.{arith}
use lib.IntN.{ℤ, pos}
use lib.ListN.{length, take, drop, replicate, length-append, length-replicate, replicate-append-replicate}
use lib.Seq.{take_at, drop_at, drop-drop}
use Rattle.rules.specs.Base.{flat}
use Rattle.rules.specs.RecordTable.{table_of}
use Rattle.rules.proofs.Chains.{flat_append}
use Rattle.account.specs.Records.{part_at, with_part, with_numbers}
use Rattle.standing.specs.Laid.{Laid}
use Rattle.account.proofs.Lent.{with-same}

-- ── a part of a list ──
module _ (p u q : List ℤ) (a : ℕ) (ha : length p ≡ a) (hu : length u ≡ 32) where
  pub part_of : part_at a (p ++ (u ++ q)) ≡ u
  part_of = ap (take 32) (drop_at p (u ++ q) a ha) ∙ take_at u q 32 hu

  pub behind_of : drop (a + 32) (p ++ (u ++ q)) ≡ q
  behind_of = sym (drop-drop 32 a (p ++ (u ++ q))) ∙ ap (drop 32) (drop_at p (u ++ q) a ha) ∙ drop_at u q 32 hu

  pub with_of : (x : List ℤ) → with_part a x (p ++ (u ++ q)) ≡ p ++ (x ++ q)
  with_of x = ap (λ (y : List ℤ). y ++ (x ++ drop (a + 32) (p ++ (u ++ q)))) (take_at p (u ++ q) a ha) ∙ ap (λ (y : List ℤ). p ++ (x ++ y)) behind_of

-- a part put back as it was
pub with-back : (n : ℕ) (u t : List ℤ) → u ≡ part_at n t → with_part n u t ≡ t
with-back n u t q = ap (λ (y : List ℤ). with_part n y t) q ∙ with-same n t

-- ── lists of records ──
pub flat-more : (fore : List (List ℤ)) (u : List ℤ) → flat (fore ++ u ∷ []) ≡ flat fore ++ u
flat-more fore u = flat_append fore (u ∷ []) ∙ ap (λ (x : List ℤ). flat fore ++ x) (append-nil u)

-- zeros that are at least 32 are 32 and others
zeros : (n : ℕ) → 32 ≤ n → replicate n (pos 0) ≡ replicate 32 (pos 0) ++ replicate (n - 32) (pos 0)
zeros n h =
    let e : n ≡ 32 + (n - 32) = omega (arith, h) in
    ap (λ (m : ℕ). replicate m (pos 0)) e ∙ sym (replicate-append-replicate 32 (n - 32) (pos 0))

pub laid_same : (t : List ℤ) (rs rs' : List (List ℤ)) (w : ℕ) → rs ≡ rs' → Laid t rs w → Laid t rs' w
laid_same t rs rs' w e l = subst (λ (x : List (List ℤ)). Laid t x w) e l

-- ── one more record, of zeros ──
module _ (t : List ℤ) (rs : List (List ℤ)) (w : ℕ) (l : Laid t rs w) where
  long : length t ≡ w + l.rest
  long = ap length l.eq ∙ length-append (flat rs) (replicate l.rest (pos 0)) ∙ omega (arith, l.size, length-replicate l.rest (pos 0))

  module _ (h : w + 32 ≤ length t) where
    cut : t ≡ flat rs ++ (replicate 32 (pos 0) ++ replicate (l.rest - 32) (pos 0))
    cut = l.eq ∙ ap (λ (x : List ℤ). flat rs ++ x) (zeros l.rest (omega (arith, long, h)))

    pub laid-empty : Laid t (rs ++ replicate 32 (pos 0) ∷ []) (w + 32)
    laid-empty = record {
      rest = l.rest - 32;
      eq =
          cut ∙ sym (append_assoc (flat rs) (replicate 32 (pos 0)) (replicate (l.rest - 32) (pos 0)))
          ∙ ap (λ (x : List ℤ). x ++ replicate (l.rest - 32) (pos 0)) (sym (flat-more rs (replicate 32 (pos 0))));
      size = ap length (flat-more rs (replicate 32 (pos 0))) ∙ length-append (flat rs) (replicate 32 (pos 0)) ∙ omega (arith, l.size);
      many = omega (arith, l.many, length-append rs (replicate 32 (pos 0) ∷ []));
    }

-- ── records with other numbers ──
-- how many numbers there are, by those before, these, and those behind
pub flat-size : (fore rs bs : List (List ℤ)) → length (flat (fore ++ (rs ++ bs))) ≡ length (flat fore) + (length (flat rs) + length (flat bs))
flat-size fore rs bs =
    ap length (flat_append fore (rs ++ bs) ∙ ap (λ (x : List ℤ). flat fore ++ x) (flat_append rs bs)) ∙ length-append (flat fore) (flat rs ++ flat bs)
    ∙ ap (λ (n : ℕ). length (flat fore) + n) (length-append (flat rs) (flat bs))

module _ (t : List ℤ) (fore us vs bs : List (List ℤ)) (w a : ℕ) (l : Laid t (fore ++ (us ++ bs)) w) (ha : length (flat fore) ≡ a) (same : length (flat vs) ≡ length (flat us)) (few : length vs ≡ length us) where
  abbrev zs : List ℤ
  zs = replicate l.rest (pos 0)

  -- the records before these, these, and what stands behind
  parts : (rs : List (List ℤ)) (z : List ℤ) → flat (fore ++ (rs ++ bs)) ++ z ≡ flat fore ++ (flat rs ++ (flat bs ++ z))
  parts rs z =
      ap (λ (x : List ℤ). x ++ z) (flat_append fore (rs ++ bs)) ∙ append_assoc (flat fore) (flat (rs ++ bs)) z
      ∙ ap (λ (x : List ℤ). flat fore ++ (x ++ z)) (flat_append rs bs) ∙ ap (λ (x : List ℤ). flat fore ++ x) (append_assoc (flat rs) (flat bs) z)

  count_of : (rs : List (List ℤ)) → length (fore ++ (rs ++ bs)) ≡ length fore + (length rs + length bs)
  count_of rs = length-append fore (rs ++ bs) ∙ ap (λ (n : ℕ). length fore + n) (length-append rs bs)

  old : t ≡ flat fore ++ (flat us ++ (flat bs ++ zs))
  old = l.eq ∙ parts us zs

  back : drop (a + length (flat vs)) t ≡ flat bs ++ zs
  back =
      ap (drop (a + length (flat vs))) old ∙ sym (drop-drop (length (flat vs)) a (flat fore ++ (flat us ++ (flat bs ++ zs))))
      ∙ ap (drop (length (flat vs))) (drop_at (flat fore) (flat us ++ (flat bs ++ zs)) a ha) ∙ drop_at (flat us) (flat bs ++ zs) (length (flat vs)) (sym same)

  pub laid_changes : Laid (with_numbers a (flat vs) t) (fore ++ (vs ++ bs)) w
  laid_changes = record {
    rest = l.rest;
    eq =
        ap (λ (x : List ℤ). x ++ (flat vs ++ drop (a + length (flat vs)) t)) (ap (take a) old ∙ take_at (flat fore) (flat us ++ (flat bs ++ zs)) a ha)
        ∙ ap (λ (x : List ℤ). flat fore ++ (flat vs ++ x)) back ∙ sym (parts vs zs);
    size = omega (arith, flat-size fore vs bs, flat-size fore us bs, l.size, same);
    many = omega (arith, l.many, count_of vs, count_of us, few);
  }

-- ── the whole table ──
pub laid_table : (t : List ℤ) (rs : List (List ℤ)) (w : ℕ) → Laid t rs w → t ≡ table_of (length t) rs
unfolding table_of
laid_table t rs w l =
    let n = length t in
    let e : n ≡ length (flat rs) + l.rest = ap length l.eq ∙ length-append (flat rs) (replicate l.rest (pos 0)) ∙ ap (λ (m : ℕ). length (flat rs) + m) (length-replicate l.rest (pos 0)) in
    let f : n ≡ l.rest + (n - l.rest) = omega (arith, e) in
    let z : replicate n (pos 0) ≡ replicate l.rest (pos 0) ++ replicate (n - l.rest) (pos 0) =
    ap (λ (m : ℕ). replicate m (pos 0)) f ∙ sym (replicate-append-replicate l.rest (n - l.rest) (pos 0)) in
    sym
    (ap (λ (x : List ℤ). take n (flat rs ++ x)) z ∙ ap (take n) (sym (append_assoc (flat rs) (replicate l.rest (pos 0)) (replicate (n - l.rest) (pos 0))))
    ∙ take_at (flat rs ++ replicate l.rest (pos 0)) (replicate (n - l.rest) (pos 0)) n (sym (ap length l.eq)) ∙ sym l.eq)

-- a table of zeros holds no records
pub laid_none : (n : ℕ) → Laid (replicate n (pos 0)) [] 0
laid_none n = record { rest = n; eq = refl; size = refl; many = refl }
