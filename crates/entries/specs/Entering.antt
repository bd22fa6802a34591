-- What is entered into the lent numbers, and what is answered about it.
use Rattle.std.specs.Prelude.{ℕ, ◌+◌, min, ◌≡◌, Bool, true, ◌&&◌, not, List, [], ◌∷◌, map, eqb, leb, ℤ, pos, length, get_or, set, Option, Some, None, Result, Ok, Err, ⊤}
use Rattle.std.specs.Int.Signed.{lt_z}
use Rattle.rules.specs.RefusalNumbers.{Got, got, bad, map_g, cons_g}
use Rattle.rules.specs.Base.{flat, among, split}
use Rattle.rules.specs.Values.{Num, num, amount, Across, nothing_more, ends_differ, arc_of_circle, axes_of_ellipse, served_power, equal_z, powers, Kind, values, text, word}
use Rattle.rules.specs.Values.{volume_name, sheet, ratio, serials, wire_serial, symbol_circle, nothing, opens, headed, either, read_serials, read_partner}

abbrev pub put_of : {A : Type 0} → Got A → Result ⊤ ℕ
put_of (got a) = Ok tt
put_of (bad n) = Err n

abbrev pub On : {A : Type 0} → (A → Type 0) → Got A → Type 0
On P (got a) = P a
On P (bad n) = Unit {0}

-- the answer is that of g, and where g has a value the lent numbers are what it makes of them
pub record Puts {A : Type 0} (g : Got A) (w : A → List ℤ) (t : List ℤ) (a : Result ⊤ ℕ) : Type 0 where
  pub eq : a ≡ put_of g
  pub filled : On (λ v. t ≡ w v) g

-- ── one value ──
abbrev pub done_of : Result ℤ ℕ → Result ⊤ ℕ
done_of (Ok z) = Ok tt
done_of (Err n) = Err n

abbrev pub put_val : Result ℤ ℕ → ℕ → List ℤ → List ℤ
put_val (Ok z) p t = set t p z
put_val (Err n) p t = t

-- of two numbers on one line the smaller
abbrev pub least_of : Result ⊤ ℕ → Result ⊤ ℕ → Result ⊤ ℕ
least_of (Ok tt) r = r
least_of (Err m) (Ok tt) = Err m
least_of (Err m) (Err n) = Err (min m n)

-- ── several ──
abbrev pub plainly : List Num → List ℤ
plainly v = map (λ n. n.value) v

-- the last value that a rule across values speaks of
abbrev pub last_of : Across → ℕ
last_of nothing_more = 0
last_of ends_differ = 4
last_of arc_of_circle = 5
last_of axes_of_ellipse = 6
last_of served_power = 2

-- a row of one value and n more has those that its rule speaks of; power's speaks of all of them
abbrev pub covered : Across → ℕ → Bool
covered nothing_more n = true
covered ends_differ n = leb 4 n
covered arc_of_circle n = leb 5 n
covered axes_of_ellipse n = leb 6 n
covered served_power n = eqb n 2

abbrev pub number_from : ℕ → List ℤ → ℕ → ℤ
number_from p t i = get_or t (p + i) (pos 0)

-- a number as a natural one
abbrev pub amount_from : ℕ → List ℤ → ℕ → ℕ
amount_from p t i = amount (num (number_from p t i))

-- the rules across values, of the numbers from place p on
abbrev pub agree_from : Across → ℕ → List ℤ → Bool
agree_from nothing_more p t = true
agree_from ends_differ p t = not (equal_z (number_from p t 1) (number_from p t 3) && equal_z (number_from p t 2) (number_from p t 4))
agree_from arc_of_circle p t = not (equal_z (number_from p t 4) (number_from p t 5))
agree_from axes_of_ellipse p t = lt_z (number_from p t 4) (number_from p t 3) && not (equal_z (number_from p t 5) (number_from p t 6))
agree_from served_power p t = among (amount_from p t 0 ∷ amount_from p t 1 ∷ amount_from p t 2 ∷ []) powers

-- ── kinds ──
-- the rule across a row's values speaks of values that the row has
abbrev pub settled : Kind → Bool
settled (values p ps a) = covered a (length ps)
settled (text n b) = true
settled (word n b) = true
settled volume_name = true
settled sheet = true
settled ratio = true
settled serials = true
settled wire_serial = true
settled symbol_circle = true
settled nothing = true
settled (opens i) = true
settled (headed i p) = true
settled (either i) = true

-- how many serial numbers stand between commas, where all are such
abbrev pub long_of : Got (List ℕ) → Option ℕ
long_of (got ns) = Some (length ns)
long_of (bad n) = None

unfoldable pub serials_in : List ℕ → Option ℕ
serials_in c = long_of (read_serials (split 44 c))

-- the two partners of a wire, behind its own number
abbrev pub read_ends : List (List ℕ) → Got (List Num)
read_ends [] = bad 10
read_ends (a ∷ []) = bad 10
read_ends (a ∷ b ∷ []) = map_g flat (cons_g (read_partner a) (cons_g (read_partner b) (got [])))
read_ends (a ∷ b ∷ c ∷ s) = bad 10
