-- The lines of SYMBOL_DEFINE and of a symbol, by what the code was told of the line.
use Rattle.std.specs.Prelude.{Option, Some, None}
use Prim.Native.Nat.{ℕ, zero, suc, ◌<◌, ◌≤◌}
use mathlib.Core.Bool.{Bool, true, false, cond, ◌&&◌}
use mathlib.Core.List.{List, [], ◌∷◌}
use mathlib.Core.Path.{◌≡◌, refl, sym, ◌∙◌, ap, subst}
use native.Mathlib.Omega.{arith}
use lib.Dec.{leb}
use lib.IntN.{ℤ, pos}
use lib.ListN.{drop, length, get_or, set, length-set, take, length-take}
use lib.Seq.{get_or-set_same, get_or-set_other}
use borrow.Author.Tests.{lt-ltb, leb-true}
use Rattle.rules.specs.declared.Digits.{Digits}
use Rattle.rules.specs.Base.{all}
use Rattle.rules.specs.RefusalNumbers.{got, bad, unless}
use Rattle.rules.specs.Lines.{Rest, brace, equals, Form, ignored, wrong, close, eof, keyed, Shape, opener, no_content, content, opening, formless, has_form, stem, by_stem, shape_of}
use Rattle.rules.specs.Values.{Known, Value, empty, nums, chars, byte_in, letters_and_digits, word, read_kind}
use Rattle.rules.specs.Rows.{Rule, row, Found, absent, found, find, fits, shape_for, Act, stay, entry, begin, shut, refuse, or_refuse, inner_of, read_shape, act_row, act_found, complete, act}
use Rattle.rules.specs.RecordTable.{rule_at}
use Rattle.rules.specs.Blocks.{defines_table, symbol_table}
use Rattle.rules.proofs.Chains.{clash, never, and_right, unless-got, map-got, by_cond}
use Rattle.rules.proofs.Rows.{Row, here, there, found-row, is_refusal, row-did}
use Rattle.tables.specs.Tables.{table_of}
use Rattle.entries.specs.Acts.{roomy, next_of, Entered, Acts}
use Rattle.entries.specs.declared.Inner.{Inner}
use Rattle.entries.specs.declared.Next.{Next}
use Rattle.entries.specs.declared.Next.TheVariants as N
use Rattle.account.specs.declared.Now.{Now}
use Rattle.account.specs.declared.Step.{Step}
use Rattle.account.specs.declared.Step.TheVariants as S
use Rattle.account.specs.declared.Where.{Where}
use Rattle.account.specs.Account.{at_block}
use Rattle.account.specs.SymbolLines.{non_in, non_read, open_symbol, close_defines, SymbolBegun, Untouched, OpenedOr, DefinesLine, is_named, ContentPlaced, symbol_entry, symbol_put, SymbolLine}
use Rattle.account.proofs.RowsTaken.{entry-taken, begin-taken}

-- ── the line's act, from the answer ──
abbrev pub Told : Next → Act → Type 0
Told N.Stay a = a ≡ stay
Told (N.Entry j) a = (v : Value) × (a ≡ entry j v)
Told (N.Begin x) a = (v : Value) × (a ≡ begin x.block x.row v)
Told N.Shut a = a ≡ shut
Told (N.Refuse n) a = a ≡ refuse n

own : (a : Act) → Told (next_of a) a
own stay = refl
own (entry j v) = (v, refl)
own (begin i j v) = (v, refl)
own shut = refl
own (refuse n) = refl

pub told : (a : Act) (x y : Next) → y ≡ next_of a → y ≡ x → Told x a
told a x y e h = subst (λ (z : Next). Told z a) (sym e ∙ h) (own a)

-- ── SYMBOL_DEFINE ──
pub defines-two : 2 ≡ length (table_of 8)
unfolding table_of defines_table
defines-two = refl

pub defines-room : all (roomy 0 1) (table_of 8) ≡ true
unfolding table_of defines_table
defines-room = refl

module _ (n : Now) (count : ℕ) where
  abbrev closed : Bool → Step
  closed b = cond b (S.Go (at_block n 0 3)) (S.Stop 8)

  -- what the opening of a symbol says, where it did P
  abbrev Opening : Type 0 → Step → Type 0
  Opening P r = (r ≡ open_symbol n count) × OpenedOr (non_in n) P

module _ (n : Now) (count : ℕ) (at : Where) (m₀ m₁ : List Bool) (rec₀ rec₁ : List ℤ) (a : Act) (y : Next) (e : y ≡ next_of a) where
  as-defines : (b : Act) (r : Step) → a ≡ b → DefinesLine b n count at m₀ m₁ rec₀ rec₁ r → DefinesLine a n count at m₀ m₁ rec₀ rec₁ r
  as-defines b r q d = subst (λ (x : Act). DefinesLine x n count at m₀ m₁ rec₀ rec₁ r) (sym q) d

  pub defines-stay : y ≡ N.Stay → Untouched m₀ m₁ rec₀ rec₁ → DefinesLine a n count at m₀ m₁ rec₀ rec₁ (S.Go n)
  defines-stay h u = as-defines stay (S.Go n) (told a N.Stay y e h) (record { answer = refl; rec = u })

  pub defines-entry : (j : ℕ) (r : Step) → y ≡ N.Entry j → r ≡ non_read n count → Untouched m₀ m₁ rec₀ rec₁ → DefinesLine a n count at m₀ m₁ rec₀ rec₁ r
  defines-entry j r h q u = let (v, w) = told a (N.Entry j) y e h in as-defines (entry j v) r w (record { answer = q; rec = u })

  pub defines-begin : (x : Inner) (r : Step) → y ≡ N.Begin x → r ≡ open_symbol n count → OpenedOr (non_in n) (SymbolBegun count at m₀ m₁ rec₀ rec₁) → DefinesLine a n count at m₀ m₁ rec₀ rec₁ r
  defines-begin x r h q u = let (v, w) = told a (N.Begin x) y e h in as-defines (begin x.block x.row v) r w (record { answer = q; rec = u })

  pub defines-shut : (r : Step) → y ≡ N.Shut → r ≡ close_defines n count → Untouched m₀ m₁ rec₀ rec₁ → DefinesLine a n count at m₀ m₁ rec₀ rec₁ r
  defines-shut r h q u = as-defines shut r (told a N.Shut y e h) (record { answer = q; rec = u })

  pub defines-refuse : (k : ℕ) → y ≡ N.Refuse k → DefinesLine a n count at m₀ m₁ rec₀ rec₁ (S.Stop k)
  defines-refuse k h = as-defines (refuse k) (S.Stop k) (told a (N.Refuse k) y e h) (record { answer = refl; rec = tt })

-- ── a symbol ──
pub symbol-four : length (table_of 9) ≡ 4
unfolding table_of symbol_table
symbol-four = refl

pub symbol-room : (n : ℕ) → n ≡ 32 → all (roomy 0 n) (table_of 9) ≡ true
unfolding table_of symbol_table
symbol-room n e = rw e

pub four-taken : (m : List Bool) → length m ≡ 28 → length (take 4 m) ≡ 4
four-taken m h = omega (arith, length-take 4 m)

pub seven_in_lem : (n : ℕ) → n ≡ 32 → 7 ≤ n
seven_in_lem n h = omega arith

module _ (s symbols : List ℕ) (n : Now) (m₀ m₁ : List Bool) (rec₀ rec₁ : List ℤ) (a : Act) (y : Next) (acts : Acts (rule_at (table_of 9)) 0 rec₀ a rec₁ y) where
  as-symbol : (b : Act) (r : Step) → a ≡ b → (Entered (rule_at (table_of 9)) 0 rec₀ b rec₁ → SymbolLine b s symbols n m₀ m₁ rec₀ rec₁ r) → SymbolLine a s symbols n m₀ m₁ rec₀ rec₁ r
  as-symbol b r q d =
      subst (λ (x : Act). SymbolLine x s symbols n m₀ m₁ rec₀ rec₁ r) (sym q) (d (subst (λ (x : Act). Entered (rule_at (table_of 9)) 0 rec₀ x rec₁) q acts.entered))

  pub symbol-entry : (j : ℕ) (r : Step) → y ≡ N.Entry j → r ≡ symbol_entry s symbols n j rec₁ → m₁ ≡ set m₀ j true → SymbolLine a s symbols n m₀ m₁ rec₀ rec₁ r
  symbol-entry j r h q u =
      let (v, w) = told a (N.Entry j) y acts.eq h in
      as-symbol (entry j v) r w (λ p. record { answer = q ∙ ap (symbol_entry s symbols n j) p; marks = u; put = p })

-- ── the line of a symbol's name ──
-- its value is what stands behind `=`, with its place
abbrev NameAt : Value → Type 0
NameAt v = (at : ℕ) × (c : List ℕ) × (v ≡ chars at c) × (at < 65536) × (length c ≤ 32)

abbrev Naming : Act → Type 0
Naming stay = Unit {0}
Naming (entry zero v) = NameAt v
Naming (entry (suc j) v) = Unit {0}
Naming (begin i j v) = Unit {0}
Naming shut = Unit {0}
Naming (refuse n) = Unit {0}

abbrev Placed : Shape → Type 0
Placed opener = Unit {0}
Placed no_content = Unit {0}
Placed (content at c) = at < 65536
Placed (opening at c) = Unit {0}
Placed formless = Unit {0}

shape-placed : (key : List ℕ) (x : Rest) → ContentPlaced (keyed key x) → Placed (shape_of x)
shape-placed key brace p = tt
shape-placed key (equals at []) p = tt
shape-placed key (equals at (b ∷ c)) p = go (stem (b ∷ c))
  where
    go : (o : Option (List ℕ)) → Placed (by_stem at (b ∷ c) o)
    go None = p
    go (Some []) = tt
    go (Some (d ∷ t)) = tt

abbrev name_row : Rule
name_row = row "name" (word 32 letters_and_digits) 5

first-row : (k : Known) (s : Shape) (a : Act) → Placed s → fits name_row.holds false s ≡ true → read_shape k 0 name_row s ≡ got a → Naming a
first-row k opener a p f e = clash f refl
first-row k no_content a p f e = clash f refl
first-row k (content at c) a p f e =
    let (v, g, q) = map-got (entry 0) (read_kind k name_row.holds at c) a e in
    let (h, w) = unless-got (all (byte_in letters_and_digits) c && leb (length c) 32) 11 (got (chars at c)) v g in
    let z : v ≡ chars at c = cc in
    subst Naming q (at, c, z, p, leb-true (length c) 32 (and_right (all (byte_in letters_and_digits) c) (leb (length c) 32) h))
first-row k (opening at c) a p f e = clash f refl
first-row k formless a p f e = clash f refl

other_row : (k : Known) (j : ℕ) (r : Rule) (s : Shape) (a : Act) → read_shape k (suc j) r s ≡ got a → Naming a
other_row k j r opener a e = let q : begin (inner_of r.holds) (suc j) (nums []) ≡ a = cc in subst Naming q tt
other_row k j r no_content a e = let q : entry (suc j) empty ≡ a = cc in subst Naming q tt
other_row k j r (content at c) a e = let (v, g, q) = map-got (entry (suc j)) (read_kind k r.holds at c) a e in subst Naming q tt
other_row k j r (opening at c) a e = let (v, g, q) = map-got (begin (inner_of r.holds) (suc j)) (read_kind k r.holds at c) a e in subst Naming q tt
other_row k j r formless a e = never e

any-row : (k : Known) (rs : List Rule) (j : ℕ) (r : Rule) (key : List ℕ) (x : Rest) (a : Act) → Row (name_row ∷ rs) j r → ContentPlaced (keyed key x)
    → fits r.holds r.may (shape_for r x) ≡ true → read_shape k j r (shape_for r x) ≡ got a → Naming a
any-row k rs j r key x a here p f e = first-row k (shape_of x) a (shape-placed key x p) f e
any-row k rs j r key x a (there {i = i} w) p f e = other_row k i r (shape_for r x) a e

refusal_naming : (a : Act) → is_refusal a ≡ true → Naming a
refusal_naming stay e = tt
refusal_naming (entry j v) e = clash e refl
refusal_naming (begin i j v) e = tt
refusal_naming shut e = tt
refusal_naming (refuse n) e = tt

row_naming : (k : Known) (rs : List Rule) (d : Digits) (full : Bool) (j : ℕ) (r : Rule) (key : List ℕ) (x : Rest) → Row (name_row ∷ rs) j r → ContentPlaced (keyed key x) → Naming (act_row k d full j r x)
row_naming k rs d full j r key x w p = go (is_refusal (act_row k d full j r x)) refl
  where
    go : (b : Bool) → is_refusal (act_row k d full j r x) ≡ b → Naming (act_row k d full j r x)
    go true e = refusal_naming (act_row k d full j r x) e
    go false e =
        let a = act_row k d full j r x in
        let did = row-did k d full j r x a e refl in
        any-row k rs j r key x a w p did.fit did.read

act_naming : (k : Known) (rs : List Rule) (d : Digits) (full : List Bool) (f : Form) → ContentPlaced f → Naming (act k (name_row ∷ rs) d full f)
act_naming k rs d full ignored p = tt
act_naming k rs d full (wrong n) p = tt
act_naming k rs d full close p = by_cond Naming (complete d (name_row ∷ rs) full) (λ q. tt) (λ q. tt)
act_naming k rs d full eof p = tt
act_naming k rs d full (keyed key x) p = go (find key (name_row ∷ rs)) refl
  where
    unknown : (b : Bool) → Naming (or_refuse (unless b 5 (bad 6)))
    unknown true = tt
    unknown false = tt

    go : (f : Found) → find key (name_row ∷ rs) ≡ f → Naming (act_found k d full x f)
    go absent e = unknown (has_form (shape_of x))
    go (found j r) e = row_naming k rs d (get_or full j false) j r key x (found-row key (name_row ∷ rs) j r e).0 p

symbol_naming : (k : Known) (d : Digits) (full : List Bool) (f : Form) → ContentPlaced f → Naming (act k (table_of 9) d full f)
unfolding table_of symbol_table
symbol_naming k d full f p = act_naming k (drop 1 symbol_table) d full f p

-- in the record
two-put : (rec : List ℤ) (at n : ℕ) → length rec ≡ 32 → at < 65536 → n < 65536 → is_named (set (set rec 5 (pos at)) 6 (pos n)) ≡ true
two-put rec at n h p q =
    let r₁ = set rec 5 (pos at) in
    let e₅ : get_or (set r₁ 6 (pos n)) 5 (pos 0) ≡ pos at = get_or-set_other r₁ 6 5 (pos n) (pos 0) (λ e. omega (arith, e)) ∙ get_or-set_same rec 5 (pos at) (pos 0) (omega (arith, h)) in
    let e₆ : get_or (set r₁ 6 (pos n)) 6 (pos 0) ≡ pos n = get_or-set_same r₁ 6 (pos n) (pos 0) (omega (arith, h, length-set rec 5 (pos at))) in
    rw (e₅, e₆, lt-ltb at 65536 p, lt-ltb n 65536 q)

put-named : (rec : List ℤ) (v : Value) → length rec ≡ 32 → NameAt v → is_named (symbol_put rec 0 v) ≡ true
unfolding table_of symbol_table
put-named rec v h (at, c, e, p, q) = rw e (two-put rec at (length c) h p (omega (arith, q)))

-- the name just read is one of the spool
pub name-put : (k : Known) (d : Digits) (full : List Bool) (f : Form) (rec : List ℤ) (v : Value) → length rec ≡ 32 → ContentPlaced f → act k (table_of 9) d full f ≡ entry 0 v
    → is_named (symbol_put rec 0 v) ≡ true
name-put k d full f rec v h p e = put-named rec v h (subst Naming e (symbol_naming k d full f p))

module _ (k : Known) (d : Digits) (full : List Bool) (f : Form) (rec₀ rec₁ : List ℤ) (y : Next) (acts : Acts (rule_at (table_of 9)) 0 rec₀ (act k (table_of 9) d full f) rec₁ y) where
  abbrev did : Act
  did = act k (table_of 9) d full f

  pub entry_row : (j : ℕ) → y ≡ N.Entry j → j < 4
  entry_row j h =
      let (v, w) = told did (N.Entry j) y acts.eq h in
      let r = (entry-taken k (table_of 9) d full f j v w).row in omega (arith, r, symbol-four)

  pub begin-row : (x : Inner) → y ≡ N.Begin x → x.row < 4
  begin-row x h =
      let (v, w) = told did (N.Begin x) y acts.eq h in
      let r = (begin-taken k (table_of 9) d full f x.block x.row v w).row in omega (arith, r, symbol-four)

  pub entry_named : (j : ℕ) → y ≡ N.Entry j → length rec₀ ≡ 32 → ContentPlaced f → j ≡ 0 → is_named rec₁ ≡ true
  entry_named j h l p z =
      let (v, w) = told did (N.Entry j) y acts.eq h in
      let w₀ : did ≡ entry 0 v = w ∙ ap (λ (i : ℕ). entry i v) z in
      let e : rec₁ ≡ symbol_put rec₀ 0 v = subst (λ (a : Act). Entered (rule_at (table_of 9)) 0 rec₀ a rec₁) w₀ acts.entered in
      rw e (name-put k d full f rec₀ v l p w₀)
