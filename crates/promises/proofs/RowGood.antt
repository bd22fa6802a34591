-- Laws of rows: a line that was read under a row of a table is written back as a line that reads as the same, and is no longer.
use Rattle.std.specs.Prelude.{Option, Some, None}
use Prim.Native.Nat.{ℕ, zero, suc, ◌+◌, ◌≤◌}
use mathlib.Core.Bool.{Bool, true, false, cond, ◌&&◌, ◌||◌, not}
use mathlib.Core.List.{List, [], ◌∷◌, ◌++◌}
use mathlib.Core.Path.{◌≡◌, refl, sym, ◌∙◌, ap, subst}
use native.Mathlib.Omega.{arith}
use lib.Dec.{eqb, leb}
use lib.IntN.{pos}
use lib.ListN.{length, length-append}
use borrow.Author.Tests.{le-leb}
use Rattle.rules.specs.declared.Digits.{Digits}
use Rattle.rules.specs.Base.{bytes, map_o, is_nil, all, same, within}
use Rattle.rules.specs.RefusalNumbers.{got, or_bad, keep}
use Rattle.rules.specs.Numbers.{read_fixed, fixed_onto, fixed}
use Rattle.rules.specs.Lines.{allowed, Rest, brace, equals, keyed, form_of, stem, Shape, opener, no_content, content, opening, formless, by_stem, shape_of, free_shape_of, has_form}
use Rattle.rules.specs.RangeClass.{reaches}
use Rattle.rules.specs.Values.{Num, num, Value, empty, nums, chars, Known, any_bytes, byte_in, is_layer_id, Part, range, read_part, Kind, values, text, word, volume_name, sheet, ratio, serials, wire_serial, symbol_circle, nothing, opens, headed, either, is_free, read_kind, chars_of, show_content}
use Rattle.rules.specs.Rows.{Times, once, up_to, any_number, Rule, is_content, is_empty, fits, shape_for, Act, entry, begin, inner_of, read_shape, not_twice, act_row}
use Rattle.rules.specs.Machine.{layer_value}
use Rattle.rules.specs.FixedForm.{opens_block, behind, line_of}
use Rattle.rules.proofs.Chains.{map-some, and_left, and_false, clash, cond_same, same-eq, never, none-some, unless-got, map-got, keep-got, or-got}
use Rattle.rules.proofs.Rows.{Did, row-did}
use Rattle.promises.specs.PlacesApart.{bare_value, bare_form}
use Rattle.promises.proofs.Numbers.{within_both, fixed_same}
use Rattle.promises.proofs.Values.{kind-back}
use Rattle.promises.proofs.Forms.{key_ok, allowed-key, allowed_equal, allowed_open, form_equal, form_open, Tells}
use Rattle.promises.proofs.Good.{rest_in, written_act, GoodRow, Always, GoodLayer}
use Rattle.promises.proofs.Stands.{allowed_seam}
use Rattle.promises.proofs.Nameless.{nameless, row-nameless}

-- what a line of at most n bytes held, where it was taken
pub record Taken (k : Known) (d : Digits) (r : Rule) (v : Value) (n : ℕ) : Type 0 where
  pub row : GoodRow k d r v
  pub no_longer : length (line_of k r v) ≤ n

-- ── a line of a shape that is read does that where the row is not full ──
twice-not : (t : Times) → not_twice t false ≡ true
twice-not once = refl
twice-not (up_to n) = refl
twice-not any_number = refl

row-does : (k : Known) (d : Digits) (j : ℕ) (r : Rule) (x : Rest) (s : Shape) (a : Act) → shape_for r x ≡ s → has_form s ≡ true → reaches d r.least ≡ true → fits r.holds r.may s ≡ true
    → read_shape k j r s ≡ got a → act_row k d false j r x ≡ a
row-does k d j r x s a q h l f g = rw (q, h, l, f, twice-not r.times, g)

-- ── what a line's rest says of its shape ──
stem-some : (s t : List ℕ) → stem s ≡ Some t → s ≡ t ++ bytes ":{"
stem-some [] t e = none-some e
stem-some (b ∷ s) t e = go (same (b ∷ s) (bytes ":{")) refl (stem-some s) e
  where
    go : (h : Bool) → same (b ∷ s) (bytes ":{") ≡ h → ((u : List ℕ) → stem s ≡ Some u → s ≡ u ++ bytes ":{") → cond h (Some []) (map_o (λ u. b ∷ u) (stem s)) ≡ Some t → b ∷ s ≡ t ++ bytes ":{"
    go true q ih e = let z : [] ≡ t = cc in rw (← z) (same-eq (b ∷ s) (bytes ":{") q)
    go false q ih e = let (u, p, z) = map-some (λ u. b ∷ u) (stem s) t e in rw (← z) (ap (λ l. b ∷ l) (ih u p))

stem_open : (t : List ℕ) → stem (t ++ bytes ":{") ≡ Some t
stem_open [] = refl
stem_open (b ∷ t) = rw (longer t, stem_open t)
  where
    longer : (t : List ℕ) → same (b ∷ t ++ bytes ":{") (bytes ":{") ≡ false
    longer [] = and_false (eqb b 58)
    longer (c ∷ []) = rw (and_false (eqb c 123), and_false (eqb b 58))
    longer (c ∷ u ∷ t) = rw (and_false (eqb c 123), and_false (eqb b 58))

-- a rest and its shape; free text opens nothing
pub data Seen (free : Bool) : Rest → Shape → Type 0 where
  opened : Seen free brace opener
  hollow : {at : ℕ} → Seen free (equals at []) no_content
  filled : {at : ℕ} {c : List ℕ} → is_nil c ≡ false → (free ≡ false → stem c ≡ None) → Seen free (equals at c) (content at c)
  heading : {at : ℕ} {t : List ℕ} → is_nil t ≡ false → Seen free (equals at (t ++ bytes ":{")) (opening at t)
  unformed : {x : Rest} → Seen free x formless

pub seen : (free : Bool) (x : Rest) → Seen free x (cond free (free_shape_of x) (shape_of x))
seen true brace = opened
seen true (equals at []) = hollow
seen true (equals at (b ∷ c)) = filled refl (λ e. clash refl e)
seen false brace = opened
seen false (equals at []) = hollow
seen false (equals at (b ∷ c)) = go (stem (b ∷ c)) refl
  where
    go : (o : Option (List ℕ)) → stem (b ∷ c) ≡ o → Seen false (equals at (b ∷ c)) (by_stem at (b ∷ c) o)
    go None q = filled refl (λ _. q)
    go (Some []) q = unformed
    go (Some (h ∷ t)) q = subst (λ (l : List ℕ). Seen false (equals at l) (opening at (h ∷ t))) (sym (stem-some (b ∷ c) (h ∷ t) q)) (heading refl)

-- the shapes of what is written
shape-content : (free : Bool) (w : List ℕ) → is_nil w ≡ false → (free ≡ false → stem w ≡ None) → cond free (free_shape_of (equals 0 w)) (shape_of (equals 0 w)) ≡ content 0 w
shape-content free [] n e = clash refl n
shape-content true (b ∷ w) n e = refl
shape-content false (b ∷ w) n e = rw (e refl)

pub shape-opening : (w : List ℕ) → is_nil w ≡ false → shape_of (equals 0 (w ++ bytes ":{")) ≡ opening 0 w
shape-opening [] n = clash refl n
shape-opening (b ∷ w) n = rw (stem_open (b ∷ w))

-- ── kinds by what stands behind their keys ──
pub data Sort : Kind → Type 0 where
  -- a content, or nothing where that may be
  plain : {d : Kind} → ((may : Bool) (s : Shape) → fits d may s ≡ (is_content s || (may && is_empty s))) → ((k : Known) (v : Value) → behind k d v ≡ 61 ∷ show_content k d v)
      → ((v : Value) → opens_block d v ≡ false) → Sort d
  empty_only : Sort nothing
  brace_only : {i : ℕ} → Sort (opens i)
  heads : {i : ℕ} {p : Part} → Sort (headed i p)
  switch : {i : ℕ} → Sort (either i)

pub sort : (d : Kind) → Sort d
sort (values p ps a) = plain (λ m s. refl) (λ k v. refl) (λ v. refl)
sort (text n b) = plain (λ m s. refl) (λ k v. refl) (λ v. refl)
sort (word n b) = plain (λ m s. refl) (λ k v. refl) (λ v. refl)
sort volume_name = plain (λ m s. refl) (λ k v. refl) (λ v. refl)
sort sheet = plain (λ m s. refl) (λ k v. refl) (λ v. refl)
sort ratio = plain (λ m s. refl) (λ k v. refl) (λ v. refl)
sort serials = plain (λ m s. refl) (λ k v. refl) (λ v. refl)
sort wire_serial = plain (λ m s. refl) (λ k v. refl) (λ v. refl)
sort symbol_circle = plain (λ m s. refl) (λ k v. refl) (λ v. refl)
sort nothing = empty_only
sort (opens i) = brace_only
sort (headed i p) = heads
sort (either i) = switch

-- kinds that hold numbers alone
abbrev pub numbers_only : Kind → Bool
numbers_only (values p ps a) = true
numbers_only (text n b) = false
numbers_only (word n b) = false
numbers_only volume_name = false
numbers_only sheet = false
numbers_only ratio = false
numbers_only serials = false
numbers_only wire_serial = false
numbers_only symbol_circle = true
numbers_only nothing = false
numbers_only (opens i) = true
numbers_only (headed i p) = false
numbers_only (either i) = false

-- ── `key=000` and `key=001:{` ──
pub either-read : (k : Known) (i at : ℕ) (c : List ℕ) (v : Value) → read_kind k (either i) at c ≡ got v → (m : ℕ) × (m ≤ 1) × (nums (num (pos m) ∷ []) ≡ v) × (fixed 3 m ≡ c)
either-read k i at c v e =
    let (a, g, q) = map-got (λ n. nums (n ∷ [])) (read_part k (range 0 1) c) v e in
    let (m, h, p) = map-got (λ n. num (pos n)) (keep 12 (within 0 1) (or_bad 10 (read_fixed 3 c))) a g in
    let (o, t) = keep-got 12 (within 0 1) (or_bad 10 (read_fixed 3 c)) m h in
    (m, (within_both 0 1 m t).1, ap (λ (b : Num). nums (b ∷ [])) p ∙ q, fixed_same 3 m c (or-got 10 (read_fixed 3 c) m o))

pub either-alone : (m : ℕ) → m ≤ 1 → not (same (fixed 3 m) (bytes "001")) ≡ true → eqb m 1 ≡ false
unfolding fixed_onto
either-alone zero l e = refl
either-alone (suc zero) l e = clash e refl
either-alone (suc (suc m)) l e = absurd (omega arith)

pub either-opened : (m : ℕ) → m ≤ 1 → not (same (fixed 3 m) (bytes "000")) ≡ true → eqb m 1 ≡ true
unfolding fixed_onto
either-opened zero l e = clash e refl
either-opened (suc zero) l e = refl
either-opened (suc (suc m)) l e = absurd (omega arith)

-- ── a line written ──
-- what the line of row j that held v did
abbrev held_act : ℕ → Rule → Value → Act
held_act j r v = cond (opens_block r.holds v) (begin (inner_of r.holds) j v) (entry j v)

module _ (k : Known) (d : Digits) (n : ℕ) (most : n ≤ 512) (r : Rule) (key : key_ok r.key ≡ true) (level : reaches d r.least ≡ true) where
  -- t is what stands behind the key, s the shape that it is read as
  behind-taken : (v : Value) (t : List ℕ) (s : Shape) → behind k r.holds v ≡ t → ((at : ℕ) → bare_form (form_of at (r.key ++ t)) ≡ keyed r.key (rest_in t))
      → allowed (r.key ++ t) ≡ true → length r.key + length t ≤ n → shape_for r (rest_in t) ≡ s → has_form s ≡ true → fits r.holds r.may s ≡ true
      → ((j : ℕ) → read_shape k j r s ≡ got (written_act j r v)) → Taken k d r v n
  behind-taken v t s b form okay len q h f g =
      let l = length-append r.key t in
      record {
        row =
            record {
              level = level;
              form = λ at. rw b (form at);
              again = λ j. ap (λ (c : List ℕ). act_row k d false j r (rest_in c)) b ∙ row-does k d j r (rest_in t) s (written_act j r v) q h level f (g j);
              okay = rw b okay;
              short = rw b (le-leb (length (r.key ++ t)) 512 (omega arith));
            };
        no_longer = rw b (omega arith);
      }

  -- `key=w`
  equal-taken : (v : Value) (w : List ℕ) (s : Shape) → behind k r.holds v ≡ 61 ∷ w → allowed w ≡ true → length r.key + 1 + length w ≤ n
      → shape_for r (equals 0 w) ≡ s → has_form s ≡ true → fits r.holds r.may s ≡ true → ((j : ℕ) → read_shape k j r s ≡ got (written_act j r v)) → Taken k d r v n
  equal-taken v w s b ok len q h f g =
      behind-taken v (61 ∷ w) s b (λ at. form_equal r.key w at key ok) (allowed_equal r.key w key ok) (omega arith) q h f g

  -- `key:{`
  open-taken : (v : Value) → behind k r.holds v ≡ bytes ":{" → opens_block r.holds v ≡ true → bare_value v ≡ nums [] → Tells n (keyed r.key brace)
      → fits r.holds r.may opener ≡ true → Taken k d r v n
  open-taken v b o e t f =
      behind-taken v (bytes ":{") opener b (λ at. form_open r.key at key) (allowed-key r.key (bytes ":{") key refl) t (cond_same (is_free r.holds) opener) refl f (λ j. rw (o, e))

  -- `key=`
  hollow-taken : (at : ℕ) → behind k r.holds empty ≡ 61 ∷ [] → opens_block r.holds empty ≡ false → Tells n (keyed r.key (equals at []))
      → fits r.holds r.may no_content ≡ true → Taken k d r empty n
  hollow-taken at b o t f = equal-taken empty [] no_content b refl t.0 (cond_same (is_free r.holds) no_content) refl f (λ j. rw o)

  -- `key=content`
  filled-taken : (v : Value) (at : ℕ) (c : List ℕ) → is_nil c ≡ false → (is_free r.holds ≡ false → stem c ≡ None) → read_kind k r.holds at c ≡ got v
      → behind k r.holds v ≡ 61 ∷ show_content k r.holds v → opens_block r.holds v ≡ false → Tells n (keyed r.key (equals at c))
      → fits r.holds r.may (content 0 (show_content k r.holds v)) ≡ true → Taken k d r v n
  filled-taken v at c full shut e b o t f =
      let w = kind-back k r.holds at c v full e in
      let l = w.short in
      let m = t.0 in
      let c' = show_content k r.holds v in
      equal-taken v c' (content 0 c') b (w.okay t.1) (omega arith) (shape-content (is_free r.holds) c' w.full (λ z. w.shut (shut z))) refl f (λ j. rw (w.back, o))

  -- `key=content:{`
  heading-taken : (v : Value) (at : ℕ) (c : List ℕ) → is_nil c ≡ false → is_free r.holds ≡ false → read_kind k r.holds at c ≡ got v
      → behind k r.holds v ≡ 61 ∷ show_content k r.holds v ++ bytes ":{" → opens_block r.holds v ≡ true → Tells n (keyed r.key (equals at (c ++ bytes ":{")))
      → fits r.holds r.may (opening 0 (show_content k r.holds v)) ≡ true → Taken k d r v n
  heading-taken v at c full free e b o t f =
      let w = kind-back k r.holds at c v full e in
      let l = w.short in
      let m = t.0 in
      let c' = show_content k r.holds v in
      let p = length-append c (bytes ":{") in
      let q = length-append c' (bytes ":{") in
      -- `:` is neither lead nor trail
      let ok = and_left (allowed c) _ (sym (allowed_seam 58 refl refl refl false c (bytes "{")) ∙ t.1) in
      equal-taken v (c' ++ bytes ":{") (opening 0 c') b (allowed_open c' (w.okay ok)) (omega arith) (rw free (shape-opening c' w.full)) refl f (λ j. rw (w.back, o))

-- ── a line read ──
-- a row of another kind; with the row's own kind it is the row
abbrev holding : Rule → Kind → Rule
holding r c =
    record { key = r.key; holds = c; may = r.may; least = r.least; must = r.must; times = r.times; place = r.place; state = r.state }

-- an act came of a value, whose written line reads as the same
abbrev CameOf : Known → Digits → ℕ → Rule → ℕ → Act → Type 0
CameOf k d j r n a = (v : Value) × (held_act j r v ≡ a) × Taken k d r v n

module _ (k : Known) (d : Digits) (n : ℕ) (most : n ≤ 512) (j : ℕ) (a : Act) (r : Rule) (key : key_ok r.key ≡ true) (level : reaches d r.least ≡ true) where
  by_shape : (c : Kind) (x : Rest) (s : Shape) → Sort c → Seen (is_free c) x s → Tells n (keyed r.key x) → fits c r.may s ≡ true → read_shape k j (holding r c) s ≡ got a
      → CameOf k d j (holding r c) n a
  by_shape c x s (plain p b o) opened t f e = clash f (p r.may opener ∙ and_false r.may)
  by_shape c x s empty_only opened t f e = clash f refl
  by_shape c x s brace_only opened t f e = (nums [], cc, open-taken k d n most (holding r c) key level (nums []) refl refl refl t refl)
  by_shape c x s heads opened t f e = clash f refl
  by_shape c x s switch opened t f e = clash f refl
  by_shape c x s (plain p b o) (hollow {at = at}) t f e =
      (empty, rw (o empty) (cc), hollow-taken k d n most (holding r c) key level at (b k empty) (o empty) t f)
  by_shape c x s empty_only (hollow {at = at}) t f e = (empty, cc, hollow-taken k d n most (holding r c) key level at refl refl t f)
  by_shape c x s brace_only hollow t f e = clash f refl
  by_shape c x s heads hollow t f e = clash f refl
  by_shape c x s switch hollow t f e = clash f refl
  by_shape c x s (plain p b o) (filled {at = at} {c = w} full shut) t f e =
      let (v, g, q) = map-got (entry j) (read_kind k c at w) a e in
      (v, rw (o v) q, filled-taken k d n most (holding r c) key level v at w full shut g (b k v) (o v) t (p r.may (content 0 (show_content k c v))))
  by_shape c x s empty_only (filled full shut) t f e = clash f refl
  by_shape c x s brace_only (filled full shut) t f e = clash f refl
  by_shape c x s heads (filled full shut) t f e = clash f refl
  by_shape c x s switch (filled {at = at} {c = w} full shut) t f e =
      let (v, g, q) = map-got (entry j) (read_kind k c at w) a e in
      let (m, l, y, z) = either-read k (inner_of c) at w v g in
      let f' : not (same (fixed 3 m) (bytes "001")) ≡ true = rw (← z) at f in
      let o = either-alone m l f' in
      let u = nums (num (pos m) ∷ []) in
      (u, rw o (ap (entry j) y ∙ q), filled-taken k d n most (holding r c) key level u at w full shut (g ∙ ap got (sym y)) (rw o) o t f')
  by_shape c x s (plain p b o) (heading full) t f e = clash f (p r.may _ ∙ and_false r.may)
  by_shape c x s empty_only (heading full) t f e = clash f refl
  by_shape c x s brace_only (heading full) t f e = clash f refl
  by_shape c x s heads (heading {at = at} {t = w} full) t f e =
      let (v, g, q) = map-got (begin (inner_of c) j) (read_kind k c at w) a e in
      (v, q, heading-taken k d n most (holding r c) key level v at w full refl g refl refl t refl)
  by_shape c x s switch (heading {at = at} {t = w} full) t f e =
      let (v, g, q) = map-got (begin (inner_of c) j) (read_kind k c at w) a e in
      let (m, l, y, z) = either-read k (inner_of c) at w v g in
      let f' : not (same (fixed 3 m) (bytes "000")) ≡ true = rw (← z) at f in
      let o = either-opened m l f' in
      let u = nums (num (pos m) ∷ []) in
      (u, rw o (ap (begin (inner_of c) j) y ∙ q), heading-taken k d n most (holding r c) key level u at w full refl (g ∙ ap got (sym y)) (rw o) o t f')
  by_shape c x s q unformed t f e = never e

did-held : (k : Known) (d : Digits) (full : Bool) (j : ℕ) (r : Rule) (x : Rest) (n : ℕ) (a : Act) → key_ok r.key ≡ true → Tells n (keyed r.key x) → n ≤ 512
    → Did k d full j r x a → CameOf k d j r n a
did-held k d full j r x n a key t most w =
    by_shape k d n most j a r key w.level r.holds x (shape_for r x) (sort r.holds) (seen (is_free r.holds) x) t w.fit w.read

-- ── what was entered, what was begun ──
pub entry-good : (k : Known) (d : Digits) (full : Bool) (j : ℕ) (r : Rule) (x : Rest) (n j' : ℕ) (v : Value) → key_ok r.key ≡ true → Tells n (keyed r.key x) → n ≤ 512
    → act_row k d full j r x ≡ entry j' v → (j ≡ j') × (opens_block r.holds v ≡ false) × (full ≡ false) × Taken k d r v n
entry-good k d full j r x n j' v key t most e =
    let w = row-did k d full j r x (entry j' v) refl e in
    let (u, q, h) = did-held k d full j r x n (entry j' v) key t most w in
    go u h w.open_yet (opens_block r.holds u) refl q
  where
    go : (u : Value) → Taken k d r u n → full ≡ false → (b : Bool) → opens_block r.holds u ≡ b → cond b (begin (inner_of r.holds) j u) (entry j u) ≡ entry j' v
        → (j ≡ j') × (opens_block r.holds v ≡ false) × (full ≡ false) × Taken k d r v n
    go u h f true o q = absurd (let z : ◌≡◌ {A = ℕ} 0 1 = cc in omega arith)
    go u h f false o q =
        let z : u ≡ v = cc in
        (cc, ap (opens_block r.holds) (sym z) ∙ o, f, subst (λ (v : Value). Taken k d r v n) z h)

pub begin-good : (k : Known) (d : Digits) (full : Bool) (j : ℕ) (r : Rule) (x : Rest) (n i j' : ℕ) (v : Value) → key_ok r.key ≡ true → Tells n (keyed r.key x) → n ≤ 512
    → act_row k d full j r x ≡ begin i j' v → (i ≡ inner_of r.holds) × (j ≡ j') × (opens_block r.holds v ≡ true) × (full ≡ false) × Taken k d r v n
begin-good k d full j r x n i j' v key t most e =
    let w = row-did k d full j r x (begin i j' v) refl e in
    let (u, q, h) = did-held k d full j r x n (begin i j' v) key t most w in
    go u h w.open_yet (opens_block r.holds u) refl q
  where
    go : (u : Value) → Taken k d r u n → full ≡ false → (b : Bool) → opens_block r.holds u ≡ b → cond b (begin (inner_of r.holds) j u) (entry j u) ≡ begin i j' v
        → (i ≡ inner_of r.holds) × (j ≡ j') × (opens_block r.holds v ≡ true) × (full ≡ false) × Taken k d r v n
    go u h f false o q = absurd (let z : ◌≡◌ {A = ℕ} 0 1 = cc in omega arith)
    go u h f true o q =
        let z : u ≡ v = cc in
        (cc, cc, ap (opens_block r.holds) (sym z) ∙ o, f, subst (λ (v : Value). Taken k d r v n) z h)

-- ── rows that name neither symbols nor layers ──
pub entry-always : (k : Known) (d : Digits) (full : Bool) (j : ℕ) (r : Rule) (x : Rest) (n j' : ℕ) (v : Value) → nameless r.holds ≡ true → key_ok r.key ≡ true → Tells n (keyed r.key x) → n ≤ 512
    → act_row k d full j r x ≡ entry j' v
    → (j ≡ j') × (opens_block r.holds v ≡ false) × (full ≡ false) × Always d r v × ((k' : Known) → length (line_of k' r v) ≤ n)
entry-always k d full j r x n j' v free key t most e =
    let w : (k' : Known) → (j ≡ j') × (opens_block r.holds v ≡ false) × (full ≡ false) × Taken k' d r v n =
    λ k'. entry-good k' d full j r x n j' v key t most (row-nameless r free k' k d full j x ∙ e) in
    ((w k).0, (w k).1, (w k).2, λ k'. (w k').3.row, λ k'. (w k').3.no_longer)

pub begin-always : (k : Known) (d : Digits) (full : Bool) (j : ℕ) (r : Rule) (x : Rest) (n i j' : ℕ) (v : Value) → nameless r.holds ≡ true → key_ok r.key ≡ true → Tells n (keyed r.key x) → n ≤ 512
    → act_row k d full j r x ≡ begin i j' v
    → (i ≡ inner_of r.holds) × (j ≡ j') × (opens_block r.holds v ≡ true) × (full ≡ false) × Always d r v × ((k' : Known) → length (line_of k' r v) ≤ n)
begin-always k d full j r x n i j' v free key t most e =
    let w : (k' : Known) → (i ≡ inner_of r.holds) × (j ≡ j') × (opens_block r.holds v ≡ true) × (full ≡ false) × Taken k' d r v n =
    λ k'. begin-good k' d full j r x n i j' v key t most (row-nameless r free k' k d full j x ∙ e) in
    ((w k).0, (w k).1, (w k).2, (w k).3, λ k'. (w k').4.row, λ k'. (w k').4.no_longer)

-- ── a layer's line in layer_name ──
abbrev LayerGood : List ℕ → ℕ → ℕ → Value → Type 0
LayerGood k n m v = GoodLayer (record { line = m; id = k; name = v }) × (length (k ++ 61 ∷ chars_of v) ≤ n)

layer-written : (k : List ℕ) (n m : ℕ) (v : Value) → is_layer_id k ≡ true → n ≤ 512 → Tells n (keyed k (equals 0 (chars_of v)))
    → layer_value k (free_shape_of (equals 0 (chars_of v))) ≡ got (bare_value v) → LayerGood k n m v
layer-written k n m v id most t e =
    let l = length-append k (61 ∷ chars_of v) in
    let h = t.0 in
    (record { named = id; okay = t.1; again = e; short = le-leb (length (k ++ 61 ∷ chars_of v)) 512 (omega arith) }, omega arith)

pub layer-good : (k : List ℕ) (x : Rest) (n m : ℕ) (v : Value) → is_layer_id k ≡ true → Tells n (keyed k x) → n ≤ 512 → layer_value k (free_shape_of x) ≡ got v
    → GoodLayer (record { line = m; id = k; name = v }) × (length (k ++ 61 ∷ chars_of v) ≤ n)
layer-good k brace n m v id t most e = never e
layer-good k (equals at []) n m v id t most e = let q : empty ≡ v = cc in subst (LayerGood k n m) q (layer-written k n m empty id most t refl)
layer-good k (equals at (b ∷ c)) n m v id t most e =
    let (h, g) = unless-got (all (byte_in any_bytes) (b ∷ c) && leb (length (b ∷ c)) 20) 11 (got (chars at (b ∷ c))) v e in
    let q : chars at (b ∷ c) ≡ v = cc in
    subst (LayerGood k n m) q (layer-written k n m (chars at (b ∷ c)) id most t (rw h))
