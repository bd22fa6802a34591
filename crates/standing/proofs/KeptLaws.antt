-- The table behind a line: what the line took has its place, and what it made complete stands there.
use Prim.Native.Nat.{ℕ, zero, suc, ◌+◌, ◌*◌, ◌/◌, ◌≤◌}
use mathlib.Core.List.{List, [], ◌∷◌, ◌++◌, append_assoc, append-nil}
use mathlib.Core.Path.{◌≡◌, refl, sym, ◌∙◌, ap, subst}
use native.Mathlib.Omega.{arith}
use lib.IntN.{ℤ}
use lib.ListN.{length, take, drop, replicate, length-append, length-replicate}
use Rattle.rules.specs.declared.Class.{Class}
use Rattle.rules.specs.Base.{flat}
use Rattle.rules.specs.Machine.{State, set_of}
use Rattle.account.specs.Records.{part_at, with_part, with_numbers}
use Rattle.standing.specs.Laid.{Laid}
use Rattle.standing.specs.SoFar.{empty_record}
use Rattle.standing.specs.Kept.{shut_so_far, Fills, FillsAll, Opens}
use Rattle.standing.specs.Reading.{Kept}
use Rattle.rules.proofs.Chains.{flat_append}
use Rattle.standing.proofs.LaidTables.{flat-size, laid_same, laid-empty, laid_changes}

-- so many records more, of zeros
laid_more : (more : ℕ) (t : List ℤ) (rs : List (List ℤ)) (w : ℕ) → Laid t rs w → w + 32 * more ≤ length t → Laid t (rs ++ replicate more empty_record) (w + 32 * more)
laid_more zero t rs w l h = laid_same t rs (rs ++ []) (w + 0) (sym (append-nil rs)) (subst (Laid t rs) (omega arith) l)
laid_more (suc m) t rs w l h =
    let e : w + 32 + 32 * m ≡ w + 32 * suc m = omega arith in
    subst (Laid t (rs ++ empty_record ∷ replicate m empty_record)) e
    (laid_same t ((rs ++ empty_record ∷ []) ++ replicate m empty_record) (rs ++ empty_record ∷ replicate m empty_record) (w + 32 + 32 * m) (append_assoc rs (empty_record ∷ []) (replicate m empty_record))
    (laid_more m t (rs ++ empty_record ∷ []) (w + 32) (laid-empty t rs w l (omega (arith, h))) (omega (arith, h))))

-- what they come to
pub size-empty : (more : ℕ) → length (flat (replicate more empty_record)) ≡ 32 * more
size-empty zero = refl
size-empty (suc m) = length-append empty_record (flat (replicate m empty_record)) ∙ omega (arith, size-empty m)

size-more : (rs : List (List ℤ)) (more : ℕ) → length (flat (rs ++ replicate more empty_record)) ≡ length (flat rs) + 32 * more
size-more rs more = ap length (flat_append rs (replicate more empty_record)) ∙ length-append (flat rs) (flat (replicate more empty_record)) ∙ omega (arith, size-empty more)

-- one record is a list of one
pub fills-all : (c : Class) (st st' : State) (more from number : ℕ) (t : List ℤ) → Fills c st st' more from number t → FillsAll c st st' more number (part_at from t)
fills-all c st st' more from number t f = record {
  fore = f.fore;
  made = part_at from t ∷ [];
  behind = f.behind;
  before = f.before;
  after = f.after;
  are = append-nil (part_at from t);
  size = f.size;
  long = f.long;
}

module _ (c : Class) (limit : ℕ) (table : List ℤ) (records more : ℕ) (st st' : State) (k : Kept c limit table records st) (taken : (set_of st').taken ≡ records + more) (fits : records + more ≤ limit) where
  grown : length table / 32 ≡ limit → Laid table (shut_so_far c st ++ replicate more empty_record) (32 * (records + more))
  grown w =
      let e : 32 * records + 32 * more ≡ 32 * (records + more) = omega arith in
      subst (Laid table (shut_so_far c st ++ replicate more empty_record)) e (laid_more more table (shut_so_far c st) (32 * records) (k.laid w) (omega (arith, w, fits)))

  pub sized : length (flat (shut_so_far c st ++ replicate more empty_record)) ≡ 32 * (records + more)
  sized = omega (arith, size-more (shut_so_far c st) more, k.size)

  -- a line that makes none complete leaves the table as it is
  pub kept-opens : Opens c st st' more → Kept c limit table (records + more) st'
  kept-opens o = record { taken = taken; fits = fits; size = ap (λ (rs : List (List ℤ)). length (flat rs)) o ∙ sized; laid = λ w. laid_same table _ _ _ (sym o) (grown w) }

  -- one that makes records complete puts them at their numbers' places, where there is a table
  pub kept-fills-all : (number : ℕ) (us table₁ : List ℤ) → FillsAll c st st' more number us → length table₁ ≡ length table
      → (length table / 32 ≡ limit → table₁ ≡ with_numbers (32 * number) us table) → Kept c limit table₁ (records + more) st'
  kept-fills-all number us table₁ f long put =
      let zs : List (List ℤ) = replicate (length f.made) empty_record in
      let same : length (flat f.made) ≡ length (flat zs) = ap length f.are ∙ f.long ∙ sym (size-empty (length f.made)) in
      record {
        taken = taken;
        fits = fits;
        size =
            ap (λ (rs : List (List ℤ)). length (flat rs)) f.after ∙ omega (arith, flat-size f.fore f.made f.behind, flat-size f.fore zs f.behind, same)
            ∙ ap (λ (rs : List (List ℤ)). length (flat rs)) (sym f.before) ∙ sized;
        laid = λ w.
            let v : length table / 32 ≡ limit = ap (λ (n : ℕ). n / 32) (sym long) ∙ w in
            subst (λ (u : List ℤ). Laid u (shut_so_far c st') (32 * (records + more))) (ap (λ (u : List ℤ). with_numbers (32 * number) u table) f.are ∙ sym (put v))
            (laid_same _ _ _ _ (sym f.after)
            (laid_changes table f.fore zs f.made f.behind (32 * (records + more)) (32 * number) (laid_same table _ _ _ f.before (grown v)) f.size same
            (sym (length-replicate (length f.made) empty_record))));
      }

  -- .. and so of one
  pub kept_fills : (from number : ℕ) (t table₁ : List ℤ) → Fills c st st' more from number t → length table₁ ≡ length table
      → (length table / 32 ≡ limit → table₁ ≡ with_part (32 * number) (part_at from t) table) → Kept c limit table₁ (records + more) st'
  kept_fills from number t table₁ f long put =
      let u : List ℤ = part_at from t in
      kept-fills-all number u table₁ (fills-all c st st' more from number t f) long
      (λ w. put w ∙ ap (λ (n : ℕ). take (32 * number) table ++ (u ++ drop (32 * number + n) table)) (sym f.long))

-- a record of one line is complete where it is taken: it is the next one
pub fills_one : (c : Class) (records : ℕ) (st st' : State) → length (flat (shut_so_far c st)) ≡ 32 * records → (from : ℕ) (t : List ℤ) → length (part_at from t) ≡ 32
    → shut_so_far c st' ≡ shut_so_far c st ++ part_at from t ∷ [] → Fills c st st' 1 from records t
fills_one c records st st' size from t long grown = record { fore = shut_so_far c st; behind = []; before = refl; after = grown; size = size; long = long }
