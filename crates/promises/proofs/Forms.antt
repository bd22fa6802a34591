-- Lines that are written read as the forms they were written for; what an accepted line says of its own length and bytes.
use Prim.Native.Nat.{ℕ, ◌+◌, ◌-◌, ◌≤◌}
use mathlib.Core.Bool.{Bool, true, false, cond, ◌&&◌, ◌||◌, not, true≢false}
use mathlib.Core.List.{List, [], ◌∷◌, ◌++◌}
use mathlib.Core.Path.{◌≡◌, refl, sym, ◌∙◌, ap}
use native.Mathlib.Omega.{arith}
use lib.Dec.{eqb, leb}
use lib.ListN.{length, take, drop, length-append}
use borrow.Author.Tests.{eqb-true, ne_eqb, not-true, leb-true, le-leb, lt-leb}
use Rattle.rules.specs.Base.{choose, bytes, is_nil, all, same, has_number, within}
use Rattle.rules.specs.Lines.{unindent, single_byte, lead_byte, trail_byte, allowed_from, allowed, Scan, neither, at_equal, at_brace, key_onto, after_colon, scan, Rest, brace, equals, Form, ignored, wrong, close, eof, keyed, with_key, form_from, form_of_rest, form_of}
use Rattle.rules.specs.Numbers.{is_digit, digit_run}
use Rattle.rules.specs.Values.{is_layer_id}
use Rattle.rules.specs.Rows.{Rule}
use Rattle.rules.specs.Blocks.{top_table, file_table, range_table, base_table, elec_table, sym_table, later_table, drawing_table, defines_table, symbol_table, element_table}
use Rattle.rules.specs.Figures.{layer_table, figure_table, point_table, text_table, placed_table, wire_table}
use Rattle.rules.proofs.Chains.{and_left, and_right, and_true, by_cond, same-eq, all_weaken}
use Rattle.promises.specs.PlacesApart.{bare_form}

-- ── tests ──
-- `by_cond` for the lazy choice
pub by-choose : {A : Type 0} (P : A → Type 0) (t : Bool) (f g : Unit {0} → A) → (t ≡ true → P (f tt)) → (t ≡ false → P (g tt)) → P (choose t f g)
by-choose P true f g p q = p refl
by-choose P false f g p q = q refl

-- a byte that passes a test is none that fails it
pub byte-not : (p : ℕ → Bool) (c : ℕ) → p c ≡ false → (b : ℕ) → p b ≡ true → eqb b c ≡ false
byte-not p c n b e = ne_eqb b c (λ q. true≢false (sym e ∙ ap p q ∙ n))

-- one of some numbers passes a test that they all pass
pub number-all : (p : ℕ → Bool) (n : ℕ) (ms : List ℕ) → has_number n ms ≡ true → all p ms ≡ true → p n ≡ true
number-all p n [] h e = absurd (true≢false (sym h))
number-all p n (m ∷ ms) h e = go (eqb n m) refl (λ z. number-all p n ms z (and_right (p m) _ e)) h
  where
    go : (b : Bool) → eqb n m ≡ b → (has_number n ms ≡ true → p n ≡ true) → (b || has_number n ms) ≡ true → p n ≡ true
    go true q ih h = ap p (eqb-true n m q) ∙ and_left (p m) _ e
    go false q ih h = ih h

-- ── keys ──
-- a visible byte of ASCII, neither `=` nor `:`
abbrev pub key_byte : ℕ → Bool
key_byte b = within 33 126 b && (not (eqb b 61) && not (eqb b 58))

-- no line with it is a comment
abbrev pub key_start : List ℕ → Bool
key_start [] = false
key_start (b ∷ k) = not (eqb b 35)

-- a key as the tables have them
abbrev pub key_ok : List ℕ → Bool
key_ok k = key_start k && all key_byte k

-- every key of the tables is such a key
abbrev pub keys_ok : List Rule → Bool
keys_ok t = all (λ r. key_ok r.key) t

pub table-keys : (b : Bool) (p q : ℕ)
    → (keys_ok top_table ≡ true) × (keys_ok file_table ≡ true) × (keys_ok range_table ≡ true) × (keys_ok base_table ≡ true) × (keys_ok elec_table ≡ true) × (keys_ok sym_table ≡ true)
    × (keys_ok later_table ≡ true) × (keys_ok drawing_table ≡ true) × (keys_ok defines_table ≡ true) × (keys_ok symbol_table ≡ true) × (keys_ok element_table ≡ true)
    × (keys_ok wire_table ≡ true) × (keys_ok figure_table ≡ true) × (keys_ok (point_table b) ≡ true) × (keys_ok (text_table b p q) ≡ true) × (keys_ok placed_table ≡ true)
unfolding top_table file_table range_table base_table elec_table sym_table later_table drawing_table defines_table symbol_table element_table wire_table figure_table point_table text_table placed_table
table-keys b p q = (refl, refl, refl, refl, refl, refl, refl, refl, refl, refl, refl, refl, refl, refl, refl, refl)

pub layer-keys : (single wires : Bool) → keys_ok (layer_table single wires) ≡ true
unfolding layer_table
layer-keys single true = refl
layer-keys single false = refl

digit-key : (b : ℕ) → is_digit b ≡ true → key_byte b ≡ true
digit-key b e =
    let lo = leb-true 48 b (and_left (leb 48 b) _ e) in
    let hi = leb-true b 57 (and_right (leb 48 b) _ e) in
    rw (le-leb 33 b (omega arith), le-leb b 126 (omega arith), byte-not is_digit 61 refl b e, byte-not is_digit 58 refl b e)

-- the ids of layers are keys too
pub layer-key : (k : List ℕ) → is_layer_id k ≡ true → key_ok k ≡ true
layer-key [] e = absurd (true≢false (sym e))
layer-key (l ∷ s) e =
    let h = and_left (has_number l (bytes "BAEPM")) _ e in
    rw (number-all (λ n. not (eqb n 35)) l (bytes "BAEPM") h refl, number-all key_byte l (bytes "BAEPM") h refl) (rest s (and_right (has_number l (bytes "BAEPM")) _ e))
  where
    rest : (s : List ℕ) → (same (take 1 s) (bytes "_") && digit_run 3 3 (drop 1 s)) ≡ true → all key_byte s ≡ true
    rest [] e = absurd (true≢false (sym e))
    rest (c ∷ s) e =
        let u = and_left (same (c ∷ []) (bytes "_")) _ e in
        let q = eqb-true c 95 (and_left (eqb c 95) _ u) in
        and_true _ _ (ap key_byte q) (all_weaken is_digit key_byte digit-key s (and_left (all is_digit s) _ (and_right (same (c ∷ []) (bytes "_")) _ e)))

-- ── allowed bytes ──
-- a byte as it may stand behind a lead, or elsewhere
abbrev pub allowed_byte : Bool → ℕ → Bool
allowed_byte lead b = cond lead (trail_byte b) (single_byte b || lead_byte b)

allowed-from : (lead : Bool) (w t : List ℕ) → allowed_from lead w ≡ true → allowed t ≡ true → allowed_from lead (w ++ t) ≡ true
allowed-from true [] t e f = absurd (true≢false (sym e))
allowed-from false [] t e f = f
allowed-from lead (b ∷ w) t e f =
    and_true _ _ (and_left (allowed_byte lead b) _ e) (allowed-from (not lead && lead_byte b) w t (and_right (allowed_byte lead b) _ e) f)

pub allowed-append : (w t : List ℕ) → allowed w ≡ true → allowed t ≡ true → allowed (w ++ t) ≡ true
allowed-append w t e f = allowed-from false w t e f

key-allowed : (k : List ℕ) → all key_byte k ≡ true → allowed k ≡ true
key-allowed [] e = refl
key-allowed (b ∷ k) e =
    let u = and_left (within 33 126 b) _ (and_left (key_byte b) _ e) in
    let lo = leb-true 33 b (and_left (leb 33 b) _ u) in
    let hi = leb-true b 126 (and_right (leb 33 b) _ u) in
    rw (le-leb 32 b (omega arith), le-leb b 126 hi, lt-leb 129 b (omega arith), lt-leb 224 b (omega arith)) (key-allowed k (and_right (key_byte b) _ e))

pub allowed-key : (key t : List ℕ) → key_ok key ≡ true → allowed t ≡ true → allowed (key ++ t) ≡ true
allowed-key key t e f = allowed-append key t (key-allowed key (and_right (key_start key) _ e)) f

pub allowed_equal : (key w : List ℕ) → key_ok key ≡ true → allowed w ≡ true → allowed (key ++ 61 ∷ w) ≡ true
allowed_equal key w e f = allowed-key key (61 ∷ w) e f

pub allowed_open : (w : List ℕ) → allowed w ≡ true → allowed (w ++ bytes ":{") ≡ true
allowed_open w e = allowed-append w (bytes ":{") e refl

-- a byte that may stand within a line of a volume: no CR, 1A or LF
abbrev pub plain_byte : ℕ → Bool
plain_byte b = not (eqb b 13) && (not (eqb b 26) && not (eqb b 10))

abbrev pub plain_line : List ℕ → Bool
plain_line l = all plain_byte l

allowed-plain-from : (lead : Bool) (l : List ℕ) → allowed_from lead l ≡ true → plain_line l ≡ true
allowed-plain-from lead [] e = refl
allowed-plain-from lead (b ∷ l) e =
    and_true _ _ (plain lead (and_left (allowed_byte lead b) _ e)) (allowed-plain-from (not lead && lead_byte b) l (and_right (allowed_byte lead b) _ e))
  where
    none_of : (p : ℕ → Bool) → p 13 ≡ false → p 26 ≡ false → p 10 ≡ false → p b ≡ true → plain_byte b ≡ true
    none_of p x y z e = rw (byte-not p 13 x b e, byte-not p 26 y b e, byte-not p 10 z b e)

    plain : (lead : Bool) → allowed_byte lead b ≡ true → plain_byte b ≡ true
    plain true e = none_of (allowed_byte true) refl refl refl e
    plain false e = none_of (allowed_byte false) refl refl refl e

pub allowed-plain : (l : List ℕ) → allowed l ≡ true → plain_line l ≡ true
allowed-plain l e = allowed-plain-from false l e

-- ── what is written reads as the form it was written for ──
scan_equal : (k w : List ℕ) → all key_byte k ≡ true → scan (k ++ 61 ∷ w) ≡ at_equal k w
scan_equal [] w e = refl
scan_equal (b ∷ k) w e =
    let u = and_left (key_byte b) _ e in
    rw (byte-not key_byte 61 refl b u, byte-not key_byte 58 refl b u, scan_equal k w (and_right (key_byte b) _ e))

scan_open : (k : List ℕ) → all key_byte k ≡ true → scan (k ++ bytes ":{") ≡ at_brace k []
scan_open [] e = refl
scan_open (b ∷ k) e =
    let u = and_left (key_byte b) _ e in
    rw (byte-not key_byte 61 refl b u, byte-not key_byte 58 refl b u, scan_open k (and_right (key_byte b) _ e))

unindent-key : (b : ℕ) (s : List ℕ) → key_byte b ≡ true → unindent (b ∷ s) ≡ b ∷ s
unindent-key b [] e = rw (byte-not key_byte 32 refl b e, byte-not key_byte 9 refl b e)
unindent-key b (c ∷ s) e = rw (byte-not key_byte 32 refl b e, byte-not key_byte 9 refl b e, byte-not key_byte 129 refl b e)

-- a line that begins with a key is read from its first byte on
form-start : (at : ℕ) (b : ℕ) (k t : List ℕ) → key_ok (b ∷ k) ≡ true → allowed t ≡ true
    → form_of at (b ∷ k ++ t) ≡ form_from (b ∷ k ++ t) (at + length (b ∷ k ++ t)) (scan (b ∷ k ++ t))
unfolding form_of
form-start at b k t e f =
    rw (not-true (eqb b 35) (and_left (not (eqb b 35)) _ e), unindent-key b (k ++ t) (and_left (key_byte b) _ (and_right (not (eqb b 35)) _ e)), allowed-key (b ∷ k) t e f)

pub form_equal : (key w : List ℕ) (at : ℕ) → key_ok key ≡ true → allowed w ≡ true → bare_form (form_of at (key ++ 61 ∷ w)) ≡ keyed key (equals 0 w)
form_equal [] w at e f = absurd (true≢false (sym e))
form_equal (b ∷ k) w at e f = rw (form-start at b k (61 ∷ w) e f, scan_equal (b ∷ k) w (and_right (not (eqb b 35)) _ e))

pub form_open : (key : List ℕ) (at : ℕ) → key_ok key ≡ true → bare_form (form_of at (key ++ bytes ":{")) ≡ keyed key brace
form_open [] at e = absurd (true≢false (sym e))
form_open (b ∷ k) at e = rw (form-start at b k (bytes ":{") e refl, scan_open (b ∷ k) (and_right (not (eqb b 35)) _ e))

-- places apart, a line's form is the same wherever it stands
key-place : (k : List ℕ) (p q : ℕ) (c : List ℕ) → bare_form (with_key k (equals p c)) ≡ bare_form (with_key k (equals q c))
key-place [] p q c = refl
key-place (b ∷ k) p q c = refl

from_place : (s : List ℕ) (m n : ℕ) (z : Scan) → bare_form (form_from s m z) ≡ bare_form (form_from s n z)
from_place s m n neither = refl
from_place s m n (at_equal k c) = key-place k (m - length c) (n - length c) c
from_place s m n (at_brace k c) = refl

rest-place : (s : List ℕ) (m n : ℕ) → bare_form (form_of_rest s m) ≡ bare_form (form_of_rest s n)
rest-place [] m n = refl
rest-place (b ∷ s) m n = go (allowed (b ∷ s))
  where
    go : (t : Bool) → bare_form (cond t (form_from (b ∷ s) m (scan (b ∷ s))) (wrong 4)) ≡ bare_form (cond t (form_from (b ∷ s) n (scan (b ∷ s))) (wrong 4))
    go true = from_place (b ∷ s) m n (scan (b ∷ s))
    go false = refl

pub form-place : (at : ℕ) (l : List ℕ) → bare_form (form_of at l) ≡ bare_form (form_of 0 l)
unfolding form_of
form-place at [] = refl
form-place at (b ∷ s) = go (eqb b 35)
  where
    go : (t : Bool) → bare_form (choose t (λ _. ignored) (λ _. form_of_rest (unindent (b ∷ s)) (at + length (b ∷ s))))
        ≡ bare_form (choose t (λ _. ignored) (λ _. form_of_rest (unindent (b ∷ s)) (0 + length (b ∷ s))))
    go true = refl
    go false = rest-place (unindent (b ∷ s)) (at + length (b ∷ s)) (0 + length (b ∷ s))

-- ── what an accepted line says of itself ──
-- what a form tells of a line that has n bytes
abbrev pub Tells : ℕ → Form → Type 0
Tells n ignored = Unit {0}
Tells n (wrong m) = Unit {0}
Tells n close = 1 ≤ n
Tells n eof = 3 ≤ n
Tells n (keyed k brace) = length k + 2 ≤ n
Tells n (keyed k (equals p c)) = (length k + 1 + length c ≤ n) × (allowed c ≡ true)

tells_more : (m n : ℕ) (f : Form) → m ≤ n → Tells m f → Tells n f
tells_more m n ignored h t = tt
tells_more m n (wrong k) h t = tt
tells_more m n close h t = omega arith
tells_more m n eof h t = omega arith
tells_more m n (keyed k brace) h t = omega arith
tells_more m n (keyed k (equals p c)) h t = (omega (arith, t.0), t.1)

-- what a scan tells of what was scanned
abbrev pub Cuts : List ℕ → Scan → Type 0
Cuts s neither = Unit {0}
Cuts s (at_equal k c) = s ≡ k ++ 61 ∷ c
Cuts s (at_brace k c) = s ≡ k ++ 58 ∷ 123 ∷ c

cuts-onto : (b : ℕ) (s : List ℕ) (z : Scan) → Cuts s z → Cuts (b ∷ s) (key_onto b z)
cuts-onto b s neither e = tt
cuts-onto b s (at_equal k c) e = ap (λ t. b ∷ t) e
cuts-onto b s (at_brace k c) e = ap (λ t. b ∷ t) e

cuts-colon : (s : List ℕ) (z : Scan) → Cuts s z → Cuts (58 ∷ s) (after_colon s z)
cuts-colon [] z e = cuts-onto 58 [] z e
cuts-colon (b ∷ s) z e = by_cond (Cuts (58 ∷ b ∷ s)) (eqb b 123) (λ q. ap (λ n. 58 ∷ n ∷ s) (eqb-true b 123 q)) (λ q. cuts-onto 58 (b ∷ s) z e)

pub scan-cuts : (s : List ℕ) → Cuts s (scan s)
scan-cuts [] = tt
scan-cuts (b ∷ s) =
    let i = scan-cuts s in
    by_cond (Cuts (b ∷ s)) (eqb b 61) (λ q. ap (λ n. n ∷ s) (eqb-true b 61 q)) λ _.
    by_cond (Cuts (b ∷ s)) (eqb b 58) (λ q. rw (eqb-true b 58 q) (cuts-colon s (scan s) i)) λ _.
    cuts-onto b s (scan s) i

-- `=` is no trail, so what follows it starts afresh
allowed-behind : (lead : Bool) (k c : List ℕ) → allowed_from lead (k ++ 61 ∷ c) ≡ true → allowed c ≡ true
allowed-behind true [] c e = absurd (true≢false (sym e))
allowed-behind false [] c e = e
allowed-behind lead (b ∷ k) c e = allowed-behind (not lead && lead_byte b) k c (and_right (allowed_byte lead b) _ e)

key-tells : (n : ℕ) (k : List ℕ) (r : Rest) → Tells n (keyed k r) → Tells n (with_key k r)
key-tells n [] r t = tt
key-tells n (b ∷ k) r t = t

from-tells : (s : List ℕ) (end : ℕ) (z : Scan) → Cuts s z → allowed s ≡ true → Tells (length s) (form_from s end z)
from-tells s end neither e a =
    by_cond (Tells (length s)) (same s (bytes "}")) (λ q. omega (arith, ap length (same-eq s (bytes "}") q))) λ _.
    by_cond (Tells (length s)) (same s (bytes "EOF")) (λ q. omega (arith, ap length (same-eq s (bytes "EOF") q))) (λ _. tt)
from-tells s end (at_equal k c) e a =
    key-tells (length s) k (equals (end - length c) c)
    (omega (arith, ap length e, length-append k (61 ∷ c)), allowed-behind false k c (ap allowed (sym e) ∙ a))
from-tells s end (at_brace k c) e a =
    by_cond (Tells (length s)) (is_nil c) (λ _. key-tells (length s) k brace (omega (arith, ap length e, length-append k (58 ∷ 123 ∷ c)))) (λ _. tt)

rest-tells : (s : List ℕ) (end : ℕ) → Tells (length s) (form_of_rest s end)
rest-tells [] end = tt
rest-tells (b ∷ s) end = by_cond (Tells (length (b ∷ s))) (allowed (b ∷ s)) (from-tells (b ∷ s) end (scan (b ∷ s)) (scan-cuts (b ∷ s))) (λ _. tt)

unindent-short : (s : List ℕ) → length (unindent s) ≤ length s
unindent-short [] = omega arith
unindent-short (b ∷ []) = by_cond (λ (l : List ℕ). length l ≤ 1) (eqb b 32 || eqb b 9) (λ _. omega arith) (λ _. omega arith)
unindent-short (b ∷ c ∷ s) =
    let i = unindent-short (c ∷ s) in
    let j = unindent-short s in
    by-choose (λ (l : List ℕ). length l ≤ length (b ∷ c ∷ s)) (eqb b 32 || eqb b 9) _ _ (λ _. omega arith) λ _.
    by-choose (λ (l : List ℕ). length l ≤ length (b ∷ c ∷ s)) (eqb b 129 && eqb c 64) _ _ (λ _. omega arith) (λ _. omega arith)

pub form-tells : (at : ℕ) (l : List ℕ) → Tells (length l) (form_of at l)
unfolding form_of
form-tells at [] = tt
form-tells at (b ∷ s) =
    by-choose (Tells (length (b ∷ s))) (eqb b 35) _ _ (λ _. tt) λ _.
    tells_more (length (unindent (b ∷ s))) (length (b ∷ s)) (form_of_rest (unindent (b ∷ s)) (at + length (b ∷ s))) (unindent-short (b ∷ s))
    (rest-tells (unindent (b ∷ s)) (at + length (b ∷ s)))

-- what a form says of a line of n bytes, and that it has no more of them than a line may have
abbrev pub Told : ℕ → Form → Type 0
Told n f = Tells n f × (n ≤ 512)
