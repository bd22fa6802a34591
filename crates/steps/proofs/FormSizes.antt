-- A line has at least the bytes that its form tells of.
use Prim.Native.Nat.{ℕ, suc, ◌+◌, ◌-◌, ◌≤◌}
use mathlib.Core.Bool.{Bool, true, false, ◌||◌, ◌&&◌}
use mathlib.Core.List.{List, [], ◌∷◌}
use mathlib.Core.Path.{◌≡◌, ap}
use native.Mathlib.Omega.{arith}
use lib.Dec.{eqb}
use lib.ListN.{length}
use Rattle.rules.specs.Base.{choose, bytes, same, is_nil}
use Rattle.rules.specs.Lines.{unindent, allowed, Scan, neither, at_equal, at_brace, key_onto, after_colon, scan, Rest, brace, equals, Form, ignored, with_key, form_from, form_of_rest, form_of}
use Rattle.rules.proofs.Chains.{by_cond, same-eq}
use Rattle.standing.specs.Standing.{rest_size, form_size}

abbrev ScanFits : ℕ → Scan → Type 0
ScanFits n neither = Unit {0}
ScanFits n (at_equal k c) = length k + suc (length c) ≤ n
ScanFits n (at_brace k c) = length k + 2 ≤ n

onto-fits : (n b : ℕ) (r : Scan) → ScanFits n r → ScanFits (suc n) (key_onto b r)
onto-fits n b neither h = tt
onto-fits n b (at_equal k c) h = omega arith
onto-fits n b (at_brace k c) h = omega arith

colon-fits : (s : List ℕ) (r : Scan) → ScanFits (length s) r → ScanFits (suc (length s)) (after_colon s r)
colon-fits [] r h = onto-fits 0 58 r h
colon-fits (b ∷ s) r h = by_cond (ScanFits (suc (suc (length s)))) (eqb b 123) (λ q. omega arith) (λ q. onto-fits (suc (length s)) 58 r h)

scan-fits : (s : List ℕ) → ScanFits (length s) (scan s)
scan-fits [] = tt
scan-fits (b ∷ s) =
    by_cond (ScanFits (suc (length s))) (eqb b 61) (λ q. omega arith)
    (λ q. by_cond (ScanFits (suc (length s))) (eqb b 58) (λ p. colon-fits s (scan s) (scan-fits s)) (λ p. onto-fits (length s) b (scan s) (scan-fits s)))

key_fits : (n : ℕ) (k : List ℕ) (r : Rest) → length k + rest_size r ≤ n → form_size (with_key k r) ≤ n
key_fits n [] r h = omega arith
key_fits n (b ∷ k) r h = h

same_length : (s t : List ℕ) → same s t ≡ true → length s ≡ length t
same_length s t e = ap length (same-eq s t e)

from-fits : (s : List ℕ) (end : ℕ) (r : Scan) → ScanFits (length s) r → form_size (form_from s end r) ≤ length s
from-fits s end neither h =
    by_cond (λ (f : Form). form_size f ≤ length s) (same s (bytes "}")) (λ q. omega (arith, same_length s (bytes "}") q))
    (λ q. by_cond (λ (f : Form). form_size f ≤ length s) (same s (bytes "EOF")) (λ p. omega (arith, same_length s (bytes "EOF") p)) (λ p. omega arith))
from-fits s end (at_equal k c) h = key_fits (length s) k (equals (end - length c) c) h
from-fits s end (at_brace k c) h = by_cond (λ (f : Form). form_size f ≤ length s) (is_nil c) (λ q. key_fits (length s) k brace h) (λ q. omega arith)

rest-fits : (s : List ℕ) (end : ℕ) → form_size (form_of_rest s end) ≤ length s
rest-fits [] end = omega arith
rest-fits (b ∷ s) end = by_cond (λ (f : Form). form_size f ≤ length (b ∷ s)) (allowed (b ∷ s)) (λ q. from-fits (b ∷ s) end (scan (b ∷ s)) (scan-fits (b ∷ s))) (λ q. omega arith)

by-choose : {A : Type 0} (P : A → Type 0) (b : Bool) (f g : Unit {0} → A) → P (f tt) → P (g tt) → P (choose b f g)
by-choose P true f g x y = x
by-choose P false f g x y = y

unindent-fits : (s : List ℕ) → length (unindent s) ≤ length s
unindent-fits [] = omega arith
unindent-fits (b ∷ []) = by_cond (λ (u : List ℕ). length u ≤ 1) (eqb b 32 || eqb b 9) (λ q. omega arith) (λ q. omega arith)
unindent-fits (b ∷ c ∷ s) =
    by-choose (λ (u : List ℕ). length u ≤ suc (suc (length s))) (eqb b 32 || eqb b 9) (λ _. unindent (c ∷ s)) (λ _. choose (eqb b 129 && eqb c 64) (λ _. unindent s) (λ _. b ∷ c ∷ s))
    (omega (arith, unindent-fits (c ∷ s)))
    (by-choose (λ (u : List ℕ). length u ≤ suc (suc (length s))) (eqb b 129 && eqb c 64) (λ _. unindent s) (λ _. b ∷ c ∷ s) (omega (arith, unindent-fits s)) (omega arith))

pub form-fits : (at : ℕ) (l : List ℕ) → form_size (form_of at l) ≤ length l
unfolding form_of
form-fits at [] = omega arith
form-fits at (b ∷ s) =
    by-choose (λ (f : Form). form_size f ≤ length (b ∷ s)) (eqb b 35) (λ _. ignored) (λ _. form_of_rest (unindent (b ∷ s)) (at + length (b ∷ s))) (omega arith)
    (omega (arith, rest-fits (unindent (b ∷ s)) (at + length (b ∷ s)), unindent-fits (b ∷ s)))
