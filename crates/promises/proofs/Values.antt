-- Laws of values: what is written of a content that was read reads as the same value again, is no longer, has only allowed bytes, and opens nothing.
use Rattle.std.specs.Prelude.{Option, Some, None}
use Prim.Native.Nat.{ℕ, suc, ◌+◌, ◌-◌, ◌≤◌}
use mathlib.Core.Bool.{Bool, true, false, cond, ◌&&◌, ◌||◌}
use mathlib.Core.List.{List, [], ◌∷◌, ◌++◌, map}
use mathlib.Core.Path.{◌≡◌, refl, sym, ◌∙◌, ap, ap₂, subst}
use native.Mathlib.Omega.{arith}
use lib.Dec.{eqb, leb, ltb}
use lib.IntN.{pos}
use lib.ListN.{length, get_or, length-append, length-map}
use borrow.Author.Tests.{lt-leb, ltb-true, eqb-true, eq-eqb, ne_eqb}
use Rattle.rules.specs.Base.{map_o, is_nil, all, flat, same, index_of, within, Cut, whole, parts, cut, head_onto, split, join}
use Rattle.rules.specs.RefusalNumbers.{got, unless, map_g, or_bad, keep, cons_g}
use Rattle.rules.specs.Numbers.{is_digit, read_count, read_fixed, is_day, is_clock, read_decimal, fixed_onto, fixed, show_count}
use Rattle.rules.specs.Lines.{allowed, stem}
use Rattle.rules.specs.Values.{Num, num, Value, nums, chars, linked, Known, is_letter, letters_and_digits, byte_in, capital, is_layer_id, in_bound, Part, count, digit, type_digits, range, range_of_symbols, range_of_wires, day, clock, decimal, exactly, symbol_name, layer_id, served_symbols, served_wires, natural, read_part, amount, show_part, read_all, show_all, agree, Kind, values, text, word, volume_name, sheet, ratio, serials, wire_serial, symbol_circle, nothing, opens, headed, either, sheets, two_nums, find_sheet, show_sheet, good_ratio, with_one, ratio_parts, read_counts, read_ratio, show_ratio, most_partners, read_serials, linked_of, show_serials, read_kind, show_content, read_wire_serial, read_partner, show_partner, amount_at, equal_z, arc_of_circle, arc_parts, whole_parts, no_turn, read_circle, show_circle}
use Rattle.rules.proofs.Chains.{map-some, and_left, and_right, and_true, by_cond, clash, same-eq, never, none-some, unless-got, map-got, keep-got, or-got, cons-got, all_weaken, all_append}
use Rattle.promises.specs.PlacesApart.{bare_value}
use Rattle.promises.proofs.Circles.{all-lengths, show-first, circle-whole, circle_arc, arc-turns, whole_turnless}
use Rattle.promises.proofs.Numbers.{within_both, both-within, numeric, free, all-free, free-head, free-tail, cut-none, cut_at, cut_parts, some-full, Again, count-back, fixed_same, decimal-back}
use Rattle.promises.proofs.Stands.{allowed_seam, stem-tail, stem_end, stem_comma, Stands, stands_same, plain, or_cases, plain_bounds, stands_plain, numeric-plain, again-stands}

-- ── one value ──
-- what is written of a value that was read from s
record Written (k : Known) (p : Part) (s : List ℕ) (a : Num) : Type 0 where
  back : read_part k p (show_part k p a) ≡ got a
  stands : Stands s (show_part k p a)
  apart : free 44 s ≡ true → free 44 (show_part k p a) ≡ true

-- a name is written as it was read
pub name-same : (s : List ℕ) (us : List (List ℕ)) (n : ℕ) → index_of s us ≡ Some n → get_or us n [] ≡ s
name-same s [] n e = none-some e
name-same s (u ∷ us) n e = go (same s u) refl (name-same s us) e
  where
    go : (t : Bool) → same s u ≡ t → ((m : ℕ) → index_of s us ≡ Some m → get_or us m [] ≡ s) → cond t (Some 0) (map_o suc (index_of s us)) ≡ Some n
        → get_or (u ∷ us) n [] ≡ s
    go true q ih e = let z : 0 ≡ n = cc in rw (← z) (sym (same-eq s u q))
    go false q ih e = let (m, p, z) = map-some suc (index_of s us) n e in rw (← z) (ih m p)

written_same : (k : Known) (p : Part) (s : List ℕ) (a : Num) → show_part k p a ≡ s → read_part k p s ≡ got a → Written k p s a
written_same k p s a q e =
    record { back = rw q e; stands = rw q (stands_same s); apart = λ f. rw q f }

-- counts and decimals lose their needless zeros
written-again : {A : Type 0} (k : Known) (p : Part) (s : List ℕ) (a : Num) (r : List ℕ → Option A) (x : A) → read_part k p (show_part k p a) ≡ got a → Again r s (show_part k p a) x → Written k p s a
written-again k p s a r x e w =
    record { back = e; stands = again-stands r s (show_part k p a) x w; apart = λ f. all-free numeric 44 refl (show_part k p a) w.plain }

-- fixed digits are written as they were read, under whatever test
digits_same : (w m : ℕ) (test : ℕ → Bool) (s : List ℕ) (a : Num) → natural (keep m test (or_bad 10 (read_fixed w s))) ≡ got a → fixed w (amount a) ≡ s
digits_same w m test s a e =
    let (n, g, q) = map-got (λ n. num (pos n)) (keep m test (or_bad 10 (read_fixed w s))) a e in
    let (o, t) = keep-got m test (or_bad 10 (read_fixed w s)) n g in
    rw (← q) (fixed_same w n s (or-got 10 (read_fixed w s) n o))

part-back : (k : Known) (p : Part) (s : List ℕ) (a : Num) → read_part k p s ≡ got a → Written k p s a
part-back k count s a e =
    let (n, g, q) = map-got (λ n. num (pos n)) (or_bad 10 (read_count 9 s)) a e in
    let w = count-back 9 n s (or-got 10 (read_count 9 s) n g) in
    subst (λ (a : Num). Written k count s a) q (written-again k count s (num (pos n)) (read_count 9) n (rw w.back) w)
part-back k (digit lo hi) s a e = written_same k (digit lo hi) s a (digits_same 1 11 (within lo hi) s a e) e
part-back k type_digits s a e =
    let (n, g, q) = map-got (λ n. num (pos n)) (or_bad 10 (read_fixed 4 s)) a e in
    written_same k type_digits s a (rw (← q) (fixed_same 4 n s (or-got 10 (read_fixed 4 s) n g))) e
part-back k (range lo hi) s a e = written_same k (range lo hi) s a (digits_same 3 12 (within lo hi) s a e) e
part-back k range_of_symbols s a e = written_same k range_of_symbols s a (digits_same 3 12 served_symbols s a e) e
part-back k range_of_wires s a e = written_same k range_of_wires s a (digits_same 3 12 served_wires s a e) e
part-back k day s a e = written_same k day s a (digits_same 8 10 is_day s a e) e
part-back k clock s a e = written_same k clock s a (digits_same 6 10 is_clock s a e) e
part-back k (decimal b) s a e =
    let (z, g, q) = map-got num (keep 11 (in_bound b) (or_bad 10 (read_decimal s))) a e in
    let (o, t) = keep-got 11 (in_bound b) (or_bad 10 (read_decimal s)) z g in
    let w = decimal-back s z (or-got 10 (read_decimal s) z o) in
    subst (λ (a : Num). Written k (decimal b) s a) q (written-again k (decimal b) s (num z) read_decimal z (rw (w.back, t)) w)
part-back k (exactly n) s a e =
    let (z, g, q) = map-got num (keep 10 (equal_z (pos n)) (or_bad 10 (read_decimal s))) a e in
    let (o, t) = keep-got 10 (equal_z (pos n)) (or_bad 10 (read_decimal s)) z g in
    let w = decimal-back s z (or-got 10 (read_decimal s) z o) in
    subst (λ (a : Num). Written k (exactly n) s a) q (written-again k (exactly n) s (num z) read_decimal z (rw (w.back, t)) w)
part-back k symbol_name s a e =
    let (n, g, q) = map-got (λ n. num (pos n)) (or_bad 13 (index_of s k.symbols)) a e in
    written_same k symbol_name s a (rw (← q) (name-same s k.symbols n (or-got 13 (index_of s k.symbols) n g))) e
part-back k layer_id s a e =
    let (i, f) = unless-got (is_layer_id s) 11 (natural (or_bad 14 (index_of s k.layers))) a e in
    let (n, g, q) = map-got (λ n. num (pos n)) (or_bad 14 (index_of s k.layers)) a f in
    written_same k layer_id s a (rw (← q) (name-same s k.layers n (or-got 14 (index_of s k.layers) n g))) e

-- ── values between commas ──
-- the pieces between the c's: some, without c, and joined again the whole
record Between (c : ℕ) (s : List ℕ) (l : List (List ℕ)) : Type 0 where
  full : is_nil l ≡ false
  joined : join c l ≡ s
  apart : all (free c) l ≡ true

between : (c : ℕ) (s : List ℕ) → Between c s (split c s)
between c [] = record { full = refl; joined = refl; apart = refl }
between c (b ∷ s) = go (eqb b c) refl (split c s) (between c s)
  where
    more : (p : List ℕ) (ps : List (List ℕ)) → join c ((b ∷ p) ∷ ps) ≡ b ∷ join c (p ∷ ps)
    more p [] = refl
    more p (q ∷ ps) = refl

    go : (t : Bool) → eqb b c ≡ t → (l : List (List ℕ)) → Between c s l → Between c (b ∷ s) (cond t ([] ∷ l) (head_onto b l))
    go t e [] w = clash refl w.full
    go true e (p ∷ ps) w = record { full = refl; joined = rw (w.joined, eqb-true b c e); apart = w.apart }
    go false e (p ∷ ps) w = record { full = refl; joined = more p ps ∙ ap (λ l. b ∷ l) w.joined; apart = rw e w.apart }

split_one : (c : ℕ) (p : List ℕ) → free c p ≡ true → split c p ≡ p ∷ []
split_one c [] h = refl
split_one c (b ∷ s) h = rw (free-head c b s h, split_one c s (free-tail c b s h))

split-more : (c : ℕ) (p s : List ℕ) → free c p ≡ true → split c (p ++ c ∷ s) ≡ p ∷ split c s
split-more c [] s h = rw (eq-eqb c c refl)
split-more c (b ∷ p) s h = rw (free-head c b p h, split-more c p s (free-tail c b p h))

split-join : (c : ℕ) (p : List ℕ) (ps : List (List ℕ)) → all (free c) (p ∷ ps) ≡ true → split c (join c (p ∷ ps)) ≡ p ∷ ps
split-join c p [] h = split_one c p (and_left (free c p) _ h)
split-join c p (q ∷ ps) h =
    split-more c p (join c (q ∷ ps)) (and_left (free c p) _ h) ∙ ap (λ l. p ∷ l) (split-join c q ps (and_right (free c p) _ h))

-- piece for piece, what may stand for what was read
data Pieces : List (List ℕ) → List (List ℕ) → Type 0 where
  done : Pieces [] []
  piece : {s t : List ℕ} {ss ts : List (List ℕ)} → Stands s t → (free 44 s ≡ true → free 44 t ≡ true) → Pieces ss ts → Pieces (s ∷ ss) (t ∷ ts)

pieces-apart : {ss ts : List (List ℕ)} → Pieces ss ts → all (free 44) ss ≡ true → all (free 44) ts ≡ true
pieces-apart done e = refl
pieces-apart (piece {s = s} {t = t} w f r) e = and_true (free 44 t) _ (f (and_left (free 44 s) _ e)) (pieces-apart r (and_right (free 44 s) _ e))

-- joined by a comma
stands_comma : (s t u v : List ℕ) → Stands s t → Stands u v → Stands (s ++ 44 ∷ u) (t ++ 44 ∷ v)
stands_comma s t u v w x =
    let p = length-append s (44 ∷ u) in
    let q = length-append t (44 ∷ v) in
    record {
      full = λ e. some-full (t ++ 44 ∷ v) (omega arith);
      short = omega (arith, w.short, x.short);
      okay = λ e.
          let h : (allowed s && allowed u) ≡ true = sym (allowed_seam 44 refl refl refl false s u) ∙ e in
          allowed_seam 44 refl refl refl false t v ∙ and_true (allowed t) (allowed v) (w.okay (and_left (allowed s) (allowed u) h)) (x.okay (and_right (allowed s) (allowed u) h));
      shut = λ e. stem_comma t v (x.shut (stem-tail 44 u (stem_end s (44 ∷ u) e)));
    }

pieces_stand : {s t : List ℕ} {ss ts : List (List ℕ)} → Pieces (s ∷ ss) (t ∷ ts) → Stands (join 44 (s ∷ ss)) (join 44 (t ∷ ts))
pieces_stand (piece w f done) = w
pieces_stand (piece {s = s} {t = t} w f (piece {s = u} {t = v} {ss = us} {ts = vs} x g r)) =
    stands_comma s t (join 44 (u ∷ us)) (join 44 (v ∷ vs)) w (pieces_stand (piece x g r))

-- what is written for a content's pieces stands for the content, and splits into what was written
content-stands : (c : List ℕ) (ts : List (List ℕ)) → Pieces (split 44 c) ts → Stands c (join 44 ts) × (split 44 (join 44 ts) ≡ ts)
content-stands c ts w = go (split 44 c) (between 44 c) ts w
  where
    go : (l : List (List ℕ)) → Between 44 c l → (ts : List (List ℕ)) → Pieces l ts → Stands c (join 44 ts) × (split 44 (join 44 ts) ≡ ts)
    go l b ts done = clash refl b.full
    go l b ts (piece {s = p} {t = t} {ss = ps} {ts = us} x f r) =
        (rw b.joined at (pieces_stand (piece x f r)), split-join 44 t us (pieces-apart (piece x f r) b.apart))

all_back : (k : Known) (ps : List Part) (ss : List (List ℕ)) (v : List Num) → read_all k ps ss ≡ got v
    → (read_all k ps (show_all k ps v) ≡ got v) × Pieces ss (show_all k ps v)
all_back k [] [] v e = (e, done)
all_back k [] (s ∷ ss) v e = never e
all_back k (p ∷ ps) [] v e = never e
all_back k (p ∷ ps) (s ∷ ss) v e =
    let (a, u, x, y, q) = cons-got (read_part k p s) (read_all k ps ss) v e in
    let w = part-back k p s a x in
    let (b, r) = all_back k ps ss u y in
    subst (λ (v : List Num). (read_all k (p ∷ ps) (show_all k (p ∷ ps) v) ≡ got v) × Pieces (s ∷ ss) (show_all k (p ∷ ps) v)) q
    (rw (w.back, b), piece w.stands w.apart r)

-- ── a circle of a symbol ──
pieces-length : {ss ts : List (List ℕ)} → Pieces ss ts → length ts ≡ length ss
pieces-length done = refl
pieces-length (piece w f r) = ap suc (pieces-length r)

abbrev CircleBack : Known → List (List ℕ) → List Num → Type 0
CircleBack k ss v = (read_circle k (show_circle k v) ≡ got v) × Pieces ss (show_circle k v)

-- six values are written as six, and read again as a circle whose turn was not written; seven as seven
whole_back : (k : Known) (ss : List (List ℕ)) (u : List Num) → eqb (length ss) 6 ≡ true → read_all k whole_parts ss ≡ got u → CircleBack k ss (u ++ no_turn ∷ [])
whole_back k ss u t e =
    let (b, r) = all_back k whole_parts ss u e in
    let six : length u ≡ 6 = (all-lengths k whole_parts ss u e).1 in
    let z : show_circle k (u ++ no_turn ∷ []) ≡ show_all k whole_parts u =
    ap (λ (t : Bool). show_all k (cond t whole_parts arc_parts) (u ++ no_turn ∷ [])) (whole_turnless u six) ∙ show-first k whole_parts u (no_turn ∷ []) six in
    let n : eqb (length (show_all k whole_parts u)) 6 ≡ true = ap (λ (n : ℕ). eqb n 6) (pieces-length r) ∙ t in
    (ap (read_circle k) z ∙ circle-whole k (show_all k whole_parts u) n ∙ ap (map_g (λ v. v ++ no_turn ∷ [])) b, subst (λ (ts : List (List ℕ)). Pieces ss ts) (sym z) r)

arc-back : (k : Known) (ss : List (List ℕ)) (v : List Num) → eqb (length ss) 6 ≡ false → read_all k arc_parts ss ≡ got v → agree arc_of_circle v ≡ true → CircleBack k ss v
arc-back k ss v t e a =
    let (b, r) = all_back k arc_parts ss v e in
    let z : show_circle k v ≡ show_all k arc_parts v = ap (λ (t : Bool). show_all k (cond t whole_parts arc_parts) v) (arc-turns k ss v e) in
    let n : eqb (length (show_all k arc_parts v)) 6 ≡ false = ap (λ (n : ℕ). eqb n 6) (pieces-length r) ∙ t in
    (ap (read_circle k) z ∙ circle_arc k (show_all k arc_parts v) n ∙ ap (keep 11 (agree arc_of_circle)) b ∙ ap (λ (t : Bool). unless t 11 (got v)) a, subst (λ (ts : List (List ℕ)). Pieces ss ts) (sym z) r)

circle-back : (k : Known) (ss : List (List ℕ)) (v : List Num) → read_circle k ss ≡ got v → CircleBack k ss v
circle-back k ss v e = go (eqb (length ss) 6) refl
  where
    go : (t : Bool) → eqb (length ss) 6 ≡ t → CircleBack k ss v
    go true t =
        let (u, g, q) = map-got (λ v. v ++ no_turn ∷ []) (read_all k whole_parts ss) v (sym (circle-whole k ss t) ∙ e) in
        subst (λ (v : List Num). CircleBack k ss v) q (whole_back k ss u t g)
    go false t =
        let (o, a) = keep-got 11 (agree arc_of_circle) (read_all k arc_parts ss) v (sym (circle_arc k ss t) ∙ e) in
        arc-back k ss v t o a

serials-back : (ss : List (List ℕ)) (ns : List ℕ) → read_serials ss ≡ got ns → (read_serials (show_serials ns) ≡ got ns) × Pieces ss (show_serials ns)
serials-back [] ns e = let q : [] ≡ ns = cc in subst (λ (ns : List ℕ). (read_serials (show_serials ns) ≡ got ns) × Pieces [] (show_serials ns)) q (refl, done)
serials-back (s ∷ ss) ns e =
    let (n, u, x, y, q) = cons-got (or_bad 10 (read_count 10 s)) (read_serials ss) ns e in
    let w = count-back 10 n s (or-got 10 (read_count 10 s) n x) in
    let (b, r) = serials-back ss u y in
    subst (λ (ns : List ℕ). (read_serials (show_serials ns) ≡ got ns) × Pieces (s ∷ ss) (show_serials ns)) q
    (rw (w.back, b), piece (again-stands (read_count 10) s (show_count 10 n) n w) (λ f. all-free numeric 44 refl (show_count 10 n) w.plain) r)

-- ── a wire's serial ──
-- what is written of a partner that was read from s: nothing where it was empty
record Partner (s : List ℕ) (state n : ℕ) : Type 0 where
  back : read_partner (show_partner state n) ≡ got (two_nums state n)
  stands : Stands s (show_partner state n)
  apart : free 44 (show_partner state n) ≡ true

partner-full : (s : List ℕ) → is_nil s ≡ false → read_partner s ≡ map_g (λ n. two_nums 2 n) (or_bad 10 (read_count 10 s))
partner-full [] e = clash refl e
partner-full (b ∷ s) e = refl

partner-back : (s : List ℕ) (v : List Num) → read_partner s ≡ got v → (state : ℕ) × (n : ℕ) × (two_nums state n ≡ v) × Partner s state n
partner-back [] v e = let q : two_nums 1 0 ≡ v = cc in (1, 0, q, record { back = refl; stands = stands_same []; apart = refl })
partner-back (b ∷ s) v e =
    let (n, g, q) = map-got (λ n. two_nums 2 n) (or_bad 10 (read_count 10 (b ∷ s))) v e in
    let w = count-back 10 n (b ∷ s) (or-got 10 (read_count 10 (b ∷ s)) n g) in
    let z = again-stands (read_count 10) (b ∷ s) (show_count 10 n) n w in (
      2,
      n,
      q,
      record {
        back = partner-full (show_count 10 n) (z.full refl) ∙ rw w.back;
        stands = z;
        apart = all-free numeric 44 refl (show_count 10 n) w.plain;
      },
    )

-- an own number and two partners, as they are written
abbrev three_parts : List Num → List (List ℕ)
three_parts v =
    show_count 10 (amount_at (nums v) 0) ∷ show_partner (amount_at (nums v) 1) (amount_at (nums v) 2) ∷ show_partner (amount_at (nums v) 3) (amount_at (nums v) 4) ∷ []

abbrev SerialBack : List (List ℕ) → List Num → Type 0
SerialBack ss v = (read_wire_serial (three_parts v) ≡ got v) × Pieces ss (three_parts v)

three_back : (o a b : List ℕ) (m i p j q : ℕ) → Again (read_count 10) o (show_count 10 m) m → Partner a i p → Partner b j q
    → SerialBack (o ∷ a ∷ b ∷ []) (num (pos m) ∷ two_nums i p ++ (two_nums j q ++ []))
three_back o a b m i p j q w x y = (
  rw (w.back, x.back, y.back),
  piece (again-stands (read_count 10) o (show_count 10 m) m w) (λ f. all-free numeric 44 refl (show_count 10 m) w.plain)
      (piece x.stands (λ f. x.apart) (piece y.stands (λ f. y.apart) done)),
)

wire-serial-back : (ss : List (List ℕ)) (v : List Num) → read_wire_serial ss ≡ got v → SerialBack ss v
wire-serial-back [] v e = never e
wire-serial-back (o ∷ []) v e = never e
wire-serial-back (o ∷ a ∷ []) v e = never e
wire-serial-back (o ∷ a ∷ b ∷ c ∷ ss) v e = never e
wire-serial-back (o ∷ a ∷ b ∷ []) v e =
    let (x, u, gx, gu, q) = cons-got (natural (or_bad 10 (read_count 10 o))) (map_g flat (cons_g (read_partner a) (cons_g (read_partner b) (got [])))) v e in
    let (m, gm, qm) = map-got (λ n. num (pos n)) (or_bad 10 (read_count 10 o)) x gx in
    let (ls, gl, ql) = map-got flat (cons_g (read_partner a) (cons_g (read_partner b) (got []))) u gu in
    let (va, r, ga, gr, qr) = cons-got (read_partner a) (cons_g (read_partner b) (got [])) ls gl in
    let (vb, r', gb, gn, qn) = cons-got (read_partner b) (got []) r gr in
    let (i, p, qa, wa) = partner-back a va ga in
    let (j, y, qb, wb) = partner-back b vb gb in
    let z : ◌≡◌ {A = List (List Num)} (two_nums i p ∷ two_nums j y ∷ []) ls = cc in
    subst (λ (v : List Num). SerialBack (o ∷ a ∷ b ∷ []) v) (ap₂ ◌∷◌ qm (ap flat z ∙ ql) ∙ q)
    (three_back o a b m i p j y (count-back 10 m o (or-got 10 (read_count 10 o) m gm)) wa wb)

-- ── a scale ──
count-got : (s : List ℕ) (x : Num) → natural (or_bad 10 (read_count 9 s)) ≡ got x → (n : ℕ) × (num (pos n) ≡ x) × Again (read_count 9) s (show_count 9 n) n
count-got s x e =
    let (n, g, q) = map-got (λ n. num (pos n)) (or_bad 10 (read_count 9 s)) x e in
    (n, q, count-back 9 n s (or-got 10 (read_count 9 s) n g))

record Scaled (c : List ℕ) (v : List Num) : Type 0 where
  p : ℕ
  q : ℕ
  is : two_nums p q ≡ v
  back : read_ratio (show_ratio p q) ≡ got (two_nums p q)
  stands : Stands c (show_ratio p q)

ratio-one : (c : List ℕ) (u v : List Num) (n : ℕ) → num (pos n) ∷ [] ≡ u → good_ratio u ≡ true → with_one u ≡ v → Again (read_count 9) c (show_count 9 n) n
    → Scaled c v
ratio-one c u v n y g r w =
    record {
      p = n;
      q = 1;
      is = ap with_one y ∙ r;
      back = rw (cut-none 47 (show_count 9 n) (all-free numeric 47 refl (show_count 9 n) w.plain), w.back, ap good_ratio y ∙ g);
      stands = again-stands (read_count 9) c (show_count 9 n) n w;
    }

ratio-two : (c a b : List ℕ) (u v : List Num) (m n : ℕ) → c ≡ a ++ 47 ∷ b → two_nums m n ≡ u → good_ratio u ≡ true → with_one u ≡ v
    → Again (read_count 9) a (show_count 9 m) m → Again (read_count 9) b (show_count 9 n) n → Scaled c v
ratio-two c a b u v m n e y g r w x =
    let good : good_ratio (two_nums m n) ≡ true = ap good_ratio y ∙ g in
    let lo = (within_both 1 99999 m (and_left (within 1 99999 m) _ good)).0 in
    let hi = ltb-true m n (and_right (within 1 99999 n) (ltb m n) (and_right (within 1 99999 m) (within 1 99999 n && ltb m n) good)) in
    let z : eqb n 1 ≡ false = ne_eqb n 1 (omega arith) in
    let t = show_count 9 m ++ 47 ∷ show_count 9 n in
    let l = ap length e ∙ length-append a (47 ∷ b) in
    let k = length-append (show_count 9 m) (47 ∷ show_count 9 n) in
    record {
      p = m;
      q = n;
      is = ap with_one y ∙ r;
      back = rw (z, cut_at 47 (show_count 9 m) (show_count 9 n) (all-free numeric 47 refl (show_count 9 m) w.plain), w.back, x.back, good);
      stands =
          rw z
          (stands_plain c t
          (all_append plain (show_count 9 m) (47 ∷ show_count 9 n) ∙ and_true (all plain (show_count 9 m)) _ (numeric-plain (show_count 9 m) w.plain) (numeric-plain (show_count 9 n) x.plain))
          (some-full t (omega arith)) (omega (arith, w.short, x.short)));
    }

ratio-back : (c : List ℕ) (v : List Num) → read_ratio c ≡ got v → Scaled c v
ratio-back c v e = go (cut 47 c) refl e
  where
    go : (k : Cut) → cut 47 c ≡ k → map_g with_one (keep 11 good_ratio (read_counts (ratio_parts k (c ∷ [])))) ≡ got v → Scaled c v
    go whole k e =
        let (u, g, r) = map-got with_one (keep 11 good_ratio (read_counts (c ∷ []))) v e in
        let (o, t) = keep-got 11 good_ratio (read_counts (c ∷ [])) u g in
        let (x, s, gx, gs, qs) = cons-got (natural (or_bad 10 (read_count 9 c))) (got []) u o in
        let (n, qn, w) = count-got c x gx in
        ratio-one c u v n (cc) t r w
    go (parts a b) k e =
        let (u, g, r) = map-got with_one (keep 11 good_ratio (read_counts (a ∷ b ∷ []))) v e in
        let (o, t) = keep-got 11 good_ratio (read_counts (a ∷ b ∷ [])) u g in
        let (x, s, gx, gs, qs) = cons-got (natural (or_bad 10 (read_count 9 a))) (read_counts (b ∷ [])) u o in
        let (y, s', gy, gs', qs') = cons-got (natural (or_bad 10 (read_count 9 b))) (got []) s gs in
        let (m, qm, w) = count-got a x gx in
        let (n, qn, z) = count-got b y gy in
        ratio-two c a b u v m n (cut_parts 47 c a b k) (cc) t r w z

-- ── a sheet is written as it was read ──
abbrev as_named : List ℕ × ℕ × ℕ → Bool
as_named a = same (show_sheet a.1 a.2) a.0

sheet-same : (c : List ℕ) (t : List (List ℕ × ℕ × ℕ)) → all as_named t ≡ true → (v : List Num) → find_sheet c t ≡ Some v → (n : ℕ) × (a : ℕ) × (two_nums n a ≡ v) × (show_sheet n a ≡ c)
sheet-same c [] o v e = none-some e
sheet-same c (x ∷ t) o v e = go (same c x.0) refl (sheet-same c t (and_right (as_named x) _ o) v) e
  where
    go : (b : Bool) → same c x.0 ≡ b → (find_sheet c t ≡ Some v → (n : ℕ) × (a : ℕ) × (two_nums n a ≡ v) × (show_sheet n a ≡ c))
        → cond b (Some (two_nums x.1 x.2)) (find_sheet c t) ≡ Some v → (n : ℕ) × (a : ℕ) × (two_nums n a ≡ v) × (show_sheet n a ≡ c)
    go true q ih e = (x.1, x.2, cc, same-eq (show_sheet x.1 x.2) x.0 (and_left (as_named x) _ o) ∙ sym (same-eq c x.0 q))
    go false q ih e = ih e

sheets-named : all as_named sheets ≡ true
unfolding sheets fixed_onto
sheets-named = refl

-- ── the name of a volume ──
-- its bytes once they are capitals
abbrev upper : ℕ → Bool
upper b = within 65 90 b || is_digit b

or_right : (a b : Bool) → b ≡ true → (a || b) ≡ true
or_right true b e = refl
or_right false b e = e

capital-upper : (b : ℕ) → byte_in letters_and_digits b ≡ true → upper (capital b) ≡ true
capital-upper b e =
    by_cond (λ x. upper x ≡ true) (within 97 122 b) (λ w. let (l, h) = within_both 97 122 b w in rw (both-within 65 90 (b - 32) (omega arith) (omega arith)))
    (λ w. or_cases (is_letter b) (is_digit b) (or_cases (within 65 90 b) (within 97 122 b) (λ p. rw p) (λ p. clash p w)) (or_right (within 65 90 b) (is_digit b)) e)

upper-plain : (b : ℕ) → upper b ≡ true → plain b ≡ true
upper-plain b e =
    or_cases (within 65 90 b) (is_digit b) (or_right (within 45 57 b) (within 65 90 b)) (λ d. let (l, h) = within_both 48 57 b d in rw (both-within 45 57 b (omega arith) h)) e

upper-known : (b : ℕ) → upper b ≡ true → byte_in letters_and_digits b ≡ true
upper-known b e = or_cases (within 65 90 b) (is_digit b) (λ p. rw p) (or_right (is_letter b) (is_digit b)) e

upper-same : (b : ℕ) → upper b ≡ true → capital b ≡ b
upper-same b e = let (l, h) = plain_bounds b (upper-plain b e) in rw (lt-leb 97 b (omega arith))

capitals : (s : List ℕ) → all (byte_in letters_and_digits) s ≡ true → all upper (map capital s) ≡ true
capitals [] e = refl
capitals (b ∷ s) e = and_true (upper (capital b)) _ (capital-upper b (and_left (byte_in letters_and_digits b) _ e)) (capitals s (and_right (byte_in letters_and_digits b) _ e))

capitals-same : (s : List ℕ) → all upper s ≡ true → map capital s ≡ s
capitals-same [] e = refl
capitals-same (b ∷ s) e = rw (upper-same b (and_left (upper b) _ e), capitals-same s (and_right (upper b) _ e))

map-full : (s : List ℕ) → is_nil s ≡ false → is_nil (map capital s) ≡ false
map-full [] e = e
map-full (b ∷ s) e = refl

-- ── a key's content ──
-- what is written of a value that was read from c
pub record Kept (k : Known) (d : Kind) (c : List ℕ) (v : Value) : Type 0 where
  pub full : is_nil (show_content k d v) ≡ false
  pub back : read_kind k d 0 (show_content k d v) ≡ got (bare_value v)
  pub short : length (show_content k d v) ≤ length c
  pub okay : allowed c ≡ true → allowed (show_content k d v) ≡ true
  pub shut : stem c ≡ None → stem (show_content k d v) ≡ None

kept : (k : Known) (d : Kind) (c : List ℕ) (v : Value) → is_nil c ≡ false → Stands c (show_content k d v) → read_kind k d 0 (show_content k d v) ≡ got (bare_value v) → Kept k d c v
kept k d c v n w b = record { full = w.full n; back = b; short = w.short; okay = w.okay; shut = w.shut }

part-kept : (k : Known) (d : Kind) (p : Part) (c : List ℕ) (v : Value) → is_nil c ≡ false
    → ((s : List ℕ) → read_kind k d 0 s ≡ map_g (λ n. nums (n ∷ [])) (read_part k p s)) → ((a : Num) → show_content k d (nums (a ∷ [])) ≡ show_part k p a)
    → map_g (λ n. nums (n ∷ [])) (read_part k p c) ≡ got v → Kept k d c v
part-kept k d p c v n r s e =
    let (a, g, q) = map-got (λ n. nums (n ∷ [])) (read_part k p c) v e in
    let w = part-back k p c a g in
    subst (λ (v : Value). Kept k d c v) q
    (kept k d c (nums (a ∷ [])) n (rw (s a) w.stands) (rw (s a) (r (show_part k p a) ∙ rw w.back)))

pub kind-back : (k : Known) (d : Kind) (at : ℕ) (c : List ℕ) (v : Value) → is_nil c ≡ false → read_kind k d at c ≡ got v → Kept k d c v
kind-back k (values p ps a) at c v n e =
    let (u, g, q) = map-got nums (keep 11 (agree a) (read_all k (p ∷ ps) (split 44 c))) v e in
    let (o, t) = keep-got 11 (agree a) (read_all k (p ∷ ps) (split 44 c)) u g in
    let (b, r) = all_back k (p ∷ ps) (split 44 c) u o in
    let (w, z) = content-stands c (show_all k (p ∷ ps) u) r in
    subst (λ (v : Value). Kept k (values p ps a) c v) q (kept k (values p ps a) c (nums u) n w (rw (z, b, t)))
kind-back k (text m b) at c v n e =
    let (t, g) = unless-got (all (byte_in b) c && leb (length c) m) 11 (got (chars at c)) v e in
    let q : chars at c ≡ v = cc in
    subst (λ (v : Value). Kept k (text m b) c v) q (kept k (text m b) c (chars at c) n (stands_same c) (rw t))
kind-back k (word m b) at c v n e =
    let (t, g) = unless-got (all (byte_in b) c && leb (length c) m) 11 (got (chars at c)) v e in
    let q : chars at c ≡ v = cc in
    subst (λ (v : Value). Kept k (word m b) c v) q (kept k (word m b) c (chars at c) n (stands_same c) (rw t))
kind-back k volume_name at c v n e =
    let (t, g) = unless-got (all (byte_in letters_and_digits) c) 11 (got (chars at (map capital c))) v e in
    let q : chars at (map capital c) ≡ v = cc in
    let u = capitals c t in
    subst (λ (v : Value). Kept k volume_name c v) q
    (kept k volume_name c (chars at (map capital c)) n
    (stands_plain c (map capital c) (all_weaken upper plain upper-plain (map capital c) u) (map-full c n) (omega (arith, length-map c capital)))
    (rw (all_weaken upper (byte_in letters_and_digits) upper-known (map capital c) u, capitals-same (map capital c) u)))
kind-back k sheet at c v n e =
    let (u, g, q) = map-got nums (or_bad 11 (find_sheet c sheets)) v e in
    let (m, a, z, y) = sheet-same c sheets sheets-named u (or-got 11 (find_sheet c sheets) u g) in
    subst (λ (v : Value). Kept k sheet c v) (ap nums z ∙ q) (kept k sheet c (nums (two_nums m a)) n (rw y (stands_same c)) (rw y (ap (map_g nums) g ∙ ap (λ l. got (nums l)) (sym z))))
kind-back k ratio at c v n e =
    let (u, g, q) = map-got nums (read_ratio c) v e in
    let w = ratio-back c u g in
    subst (λ (v : Value). Kept k ratio c v) (ap nums w.is ∙ q) (kept k ratio c (nums (two_nums w.p w.q)) n w.stands (ap (map_g nums) w.back))
kind-back k serials at c v n e =
    let (u, g, q) = map-got linked_of (keep 11 (λ ns. leb (length ns) (most_partners + 1)) (read_serials (split 44 c))) v e in
    let (o, t) = keep-got 11 (λ ns. leb (length ns) (most_partners + 1)) (read_serials (split 44 c)) u g in
    let (b, r) = serials-back (split 44 c) u o in
    let (w, z) = content-stands c (show_serials u) r in
    subst (λ (v : Value). Kept k serials c v) q (go u t b w z)
  where
    go : (u : List ℕ) → leb (length u) (most_partners + 1) ≡ true → read_serials (show_serials u) ≡ got u → Stands c (join 44 (show_serials u)) → split 44 (join 44 (show_serials u)) ≡ show_serials u
        → Kept k serials c (linked_of u)
    go [] t b w z = clash refl (w.full n)
    go (m ∷ ms) t b w z = kept k serials c (linked m ms) n w (rw (z, b, t))
kind-back k wire_serial at c v n e =
    let (u, g, q) = map-got nums (read_wire_serial (split 44 c)) v e in
    let (b, r) = wire-serial-back (split 44 c) u g in
    let (w, z) = content-stands c (three_parts u) r in
    subst (λ (v : Value). Kept k wire_serial c v) q (kept k wire_serial c (nums u) n w (rw (z, b)))
kind-back k symbol_circle at c v n e =
    let (u, g, q) = map-got nums (read_circle k (split 44 c)) v e in
    let (b, r) = circle-back k (split 44 c) u g in
    let (w, z) = content-stands c (show_circle k u) r in
    subst (λ (v : Value). Kept k symbol_circle c v) q (kept k symbol_circle c (nums u) n w (ap (λ ss. map_g nums (read_circle k ss)) z ∙ ap (map_g nums) b))
kind-back k nothing at c v n e = never e
kind-back k (opens i) at c v n e = never e
kind-back k (headed i p) at c v n e = part-kept k (headed i p) p c v n (λ s. refl) (λ a. refl) e
kind-back k (either i) at c v n e = part-kept k (either i) (range 0 1) c v n (λ s. refl) (λ a. refl) e
