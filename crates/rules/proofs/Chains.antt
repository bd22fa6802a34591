-- Laws of chains of tests: taking them apart, and moving a function through them. Each is said once, here.
use Rattle.std.specs.Prelude.{Option, Some, None}
use Prim.Native.Nat.{ℕ, zero, suc, ◌+◌}
use mathlib.Core.Bool.{Bool, true, false, cond, ◌&&◌, ◌||◌, true≢false}
use mathlib.Core.List.{List, [], ◌∷◌, ◌++◌, map, append_assoc}
use mathlib.Core.Path.{◌≡◌, refl, sym, ◌∙◌, ap}
use native.Mathlib.Omega.{arith}
use lib.Dec.{eqb}
use lib.ListN.{set}
use borrow.Author.Tests.{eqb-true, eq-eqb}
use Rattle.rules.specs.Base.{total, flat, all, same, is_nil, map_o}
use Rattle.rules.specs.RefusalNumbers.{Got, got, bad, unless, map_g, and_then, or_bad, keep, cons_g, also}

-- ── tests ──
pub and_left : (a b : Bool) → (a && b) ≡ true → a ≡ true
and_left true b e = refl
and_left false b e = e

pub and_right : (a b : Bool) → (a && b) ≡ true → b ≡ true
and_right true b e = e
and_right false b e = cc

pub and_true : (a b : Bool) → a ≡ true → b ≡ true → (a && b) ≡ true
and_true a b p q = rw (p, q)

pub and_false : (b : Bool) → (b && false) ≡ false
and_false true = refl
and_false false = refl

pub or_true : (b : Bool) → (b || true) ≡ true
or_true true = refl
or_true false = refl

-- a test is not both true and false
pub clash : {P : Type 0} {b : Bool} → b ≡ true → b ≡ false → P
clash p q = absurd (true≢false (sym p ∙ q))

pub or_left : (a b : Bool) → b ≡ false → (a || b) ≡ true → a ≡ true
or_left true b q e = refl
or_left false b q e = clash e q

pub by_cond : {A : Type 0} (P : A → Type 0) (t : Bool) {x y : A} → (t ≡ true → P x) → (t ≡ false → P y) → P (cond t x y)
by_cond P true f g = f refl
by_cond P false f g = g refl

pub cond_same : {A : Type 0} (t : Bool) (a : A) → cond t a a ≡ a
cond_same true a = refl
cond_same false a = refl

pub cond_true : {A : Type 0} (t : Bool) (x y z : A) → t ≡ true → cond t x y ≡ z → x ≡ z
cond_true true x y z p e = e
cond_true false x y z p e = clash p refl

pub ap-cond : {A B : Type 0} (f : A → B) (t : Bool) (a b : A) → f (cond t a b) ≡ cond t (f a) (f b)
ap-cond f true a b = refl
ap-cond f false a b = refl

-- ── byte strings ──
pub same-eq : (a b : List ℕ) → same a b ≡ true → a ≡ b
same-eq [] [] e = refl
same-eq [] (b ∷ t) e = absurd (true≢false (sym e))
same-eq (a ∷ s) [] e = absurd (true≢false (sym e))
same-eq (a ∷ s) (b ∷ t) e = let p = eqb-true a b (and_left (eqb a b) _ e) in let q = same-eq s t (and_right (eqb a b) _ e) in cc

pub same_refl : (k : List ℕ) → same k k ≡ true
same_refl [] = refl
same_refl (b ∷ k) = rw (eq-eqb b b refl, same_refl k)

-- ── answers ──
-- a refusal is no answer
pub never : {A : Type 0} {P : Type 0} {n : ℕ} {a : A} → bad n ≡ got a → P
never e = absurd (let z : ◌≡◌ {A = ℕ} 0 1 = cc in omega arith)

pub none-some : {A : Type 0} {P : Type 0} {a : A} → None ≡ Some a → P
none-some e = absurd (let z : ◌≡◌ {A = ℕ} 0 1 = cc in omega arith)

pub cond-some : {A : Type 0} (t : Bool) (x y : A) → cond t (Some x) None ≡ Some y → (t ≡ true) × (x ≡ y)
cond-some true x y e = (refl, cc)
cond-some false x y e = none-some e

pub map-some : {A B : Type 0} (f : A → B) (o : Option A) (b : B) → map_o f o ≡ Some b → (a : A) × (o ≡ Some a) × (f a ≡ b)
map-some f None b e = none-some e
map-some f (Some a) b e = (a, refl, cc)

pub unless-got : {A : Type 0} (t : Bool) (n : ℕ) (g : Got A) (a : A) → unless t n g ≡ got a → (t ≡ true) × (g ≡ got a)
unless-got true n g a e = (refl, e)
unless-got false n g a e = (cc, cc)

pub map-got : {A B : Type 0} (f : A → B) (g : Got A) (b : B) → map_g f g ≡ got b → (a : A) × (g ≡ got a) × (f a ≡ b)
map-got f (got a) b e = (a, refl, cc)
map-got f (bad n) b e = never e

pub then-got : {A B : Type 0} (g : Got A) (f : A → Got B) (b : B) → and_then g f ≡ got b → (a : A) × (g ≡ got a) × (f a ≡ got b)
then-got (got a) f b e = (a, refl, e)
then-got (bad n) f b e = never e

pub keep-got : {A : Type 0} (n : ℕ) (p : A → Bool) (g : Got A) (a : A) → keep n p g ≡ got a → (g ≡ got a) × (p a ≡ true)
keep-got n p (got b) a e = let u = unless-got (p b) n (got b) a e in let q : b ≡ a = cc in (u.1, rw q at u.0)
keep-got n p (bad m) a e = never e

pub or-got : {A : Type 0} (n : ℕ) (o : Option A) (a : A) → or_bad n o ≡ got a → o ≡ Some a
or-got n None a e = never e
or-got n (Some b) a e = cc

pub cons-got : {A : Type 0} (g : Got A) (h : Got (List A)) (v : List A) → cons_g g h ≡ got v → (a : A) × (s : List A) × (g ≡ got a) × (h ≡ got s) × (a ∷ s ≡ v)
cons-got (got a) (got s) v e = (a, s, refl, refl, cc)
cons-got (got a) (bad n) v e = never e
cons-got (bad m) (got s) v e = never e
cons-got (bad m) (bad n) v e = never e

pub also-got : {A : Type 0} (t : Bool) (n : ℕ) (g : Got A) (a : A) → also t n g ≡ got a → (t ≡ true) × (g ≡ got a)
also-got true n g a e = (refl, e)
also-got false n (got b) a e = never e
also-got false n (bad m) a e = never e

-- ── moving a function through the tests ──
module _ {A B : Type 0} (f : A → B) where
  pub map-cond : (t : Bool) (a b : Got A) → map_g f (cond t a b) ≡ cond t (map_g f a) (map_g f b)
  map-cond true a b = refl
  map-cond false a b = refl

  pub map-unless : (t : Bool) (n : ℕ) (g : Got A) → map_g f (unless t n g) ≡ unless t n (map_g f g)
  map-unless true n g = refl
  map-unless false n g = refl

  pub map-map : {C : Type 0} (e : C → A) (g : Got C) → map_g f (map_g e g) ≡ map_g (λ c. f (e c)) g
  map-map e (got c) = refl
  map-map e (bad n) = refl

  pub map_then : {C : Type 0} (g : Got C) (e : C → Got A) → map_g f (and_then g e) ≡ and_then g (λ c. map_g f (e c))
  map_then (got c) e = refl
  map_then (bad n) e = refl

  pub then_map : {C : Type 0} (g : Got A) (e : B → Got C) → and_then (map_g f g) e ≡ and_then g (λ a. e (f a))
  then_map (got a) e = refl
  then_map (bad n) e = refl

  pub map-also : (t : Bool) (n : ℕ) (g : Got A) → map_g f (also t n g) ≡ also t n (map_g f g)
  map-also true n g = refl
  map-also false n (got a) = refl
  map-also false n (bad m) = refl

pub ruleset through = (map-cond, map-unless, map-map, map_then, then_map, map-also)

-- ── what holds of the answer, where there is one ──
abbrev pub On : {A : Type 0} → (A → Type 0) → Got A → Type 0
On P (got a) = P a
On P (bad n) = Unit {0}

module _ {A : Type 0} (P : A → Type 0) where
  pub on-unless : (t : Bool) (n : ℕ) (g : Got A) → (t ≡ true → On P g) → On P (unless t n g)
  on-unless true n g h = h refl
  on-unless false n g h = tt

  pub on-cond : (t : Bool) (g h : Got A) → (t ≡ true → On P g) → (t ≡ false → On P h) → On P (cond t g h)
  on-cond true g h p q = p refl
  on-cond false g h p q = q refl

  pub on-map : {B : Type 0} (f : B → A) (g : Got B) → On (λ b. P (f b)) g → On P (map_g f g)
  on-map f (got b) h = h
  on-map f (bad n) h = tt

  pub on_then : {B : Type 0} (g : Got B) (f : B → Got A) → ((b : B) → g ≡ got b → On P (f b)) → On P (and_then g f)
  on_then (got b) f h = h b refl
  on_then (bad n) f h = tt

  pub on-also : (t : Bool) (n : ℕ) (g : Got A) → (t ≡ true → On P g) → On P (also t n g)
  on-also true n g h = h refl
  on-also false n (got a) h = tt
  on-also false n (bad m) h = tt

  pub on-all : ((a : A) → P a) → (g : Got A) → On P g
  on-all h (got a) = h a
  on-all h (bad n) = tt

  pub on-got : (g : Got A) (a : A) → On P g → g ≡ got a → P a
  on-got (got b) a h e = let q : b ≡ a = cc in rw (← q) h
  on-got (bad n) a h e = never e

pub on_weaken : {A : Type 0} (P Q : A → Type 0) → ((a : A) → P a → Q a) → (g : Got A) → On P g → On Q g
on_weaken P Q f (got a) h = f a h
on_weaken P Q f (bad n) h = tt

-- ── lists ──
pub all_weaken : {A : Type 0} (p q : A → Bool) → ((a : A) → p a ≡ true → q a ≡ true) → (s : List A) → all p s ≡ true → all q s ≡ true
all_weaken p q f [] e = refl
all_weaken p q f (a ∷ s) e = and_true _ _ (f a (and_left (p a) _ e)) (all_weaken p q f s (and_right (p a) _ e))

pub all_append : {A : Type 0} (p : A → Bool) (s t : List A) → all p (s ++ t) ≡ (all p s && all p t)
all_append p [] t = refl
all_append p (a ∷ s) t = go (p a) (all_append p s t)
  where
    go : (b : Bool) → all p (s ++ t) ≡ (all p s && all p t) → (b && all p (s ++ t)) ≡ (b && all p s && all p t)
    go true e = e
    go false e = refl

pub map-append : {A B : Type 0} (f : A → B) (s t : List A) → map f (s ++ t) ≡ map f s ++ map f t
map-append f [] t = refl
map-append f (a ∷ s) t = ap (λ l. f a ∷ l) (map-append f s t)

pub map_compose : {A B C : Type 0} (f : B → C) (g : A → B) (s : List A) → map f (map g s) ≡ map (λ a. f (g a)) s
map_compose f g [] = refl
map_compose f g (a ∷ s) = ap (λ l. f (g a) ∷ l) (map_compose f g s)

pub nil-map : {A B : Type 0} (f : A → B) (s : List A) → is_nil (map f s) ≡ is_nil s
nil-map f [] = refl
nil-map f (a ∷ s) = refl

-- two functions that agree everywhere
pub map-agree : {A B : Type 0} (f g : A → B) → ((a : A) → f a ≡ g a) → (s : List A) → map f s ≡ map g s
map-agree f g h [] = refl
map-agree f g h (a ∷ s) = rw (h a, map-agree f g h s)

pub map_same : {A B : Type 0} (g : A → B) (f : A → A) → ((a : A) → g (f a) ≡ g a) → (s : List A) → map g (map f s) ≡ map g s
map_same g f e s = map_compose g f s ∙ map-agree (λ a. g (f a)) g e s

pub map-set : {A B : Type 0} (f : A → B) (s : List A) (i : ℕ) (a : A) → map f (set s i a) ≡ set (map f s) i (f a)
map-set f [] i a = refl
map-set f (b ∷ s) zero a = refl
map-set f (b ∷ s) (suc i) a = ap (λ u. f b ∷ u) (map-set f s i a)

pub nil-snoc : {A : Type 0} (s : List A) (a : A) → is_nil (s ++ a ∷ []) ≡ false
nil-snoc [] a = refl
nil-snoc (b ∷ s) a = refl

pub flat_append : {A : Type 0} (a b : List (List A)) → flat (a ++ b) ≡ flat a ++ flat b
flat_append [] b = refl
flat_append (u ∷ a) b = ap (λ (s : List _). u ++ s) (flat_append a b) ∙ sym (append_assoc u (flat a) (flat b))

-- ── sums ──
pub total-append : {A : Type 0} (f : A → ℕ) (s t : List A) → total f (s ++ t) ≡ total f s + total f t
total-append f [] t = omega arith
total-append f (a ∷ s) t = omega (arith, total-append f s t)

pub total-more : {A : Type 0} (f : A → ℕ) (s : List A) (a : A) → total f (s ++ a ∷ []) ≡ total f s + f a
total-more f s a = omega (arith, total-append f s (a ∷ []))

pub total-same : {A : Type 0} (g : A → ℕ) (f : A → A) → ((a : A) → g (f a) ≡ g a) → (s : List A) → total g (map f s) ≡ total g s
total-same g f e [] = refl
total-same g f e (a ∷ s) = rw (e a, total-same g f e s)
