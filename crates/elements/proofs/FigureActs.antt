-- A line that opens a block; and a line among the figures, from what `act` promises to the line's own contract.
use Prim.Native.Nat.{ℕ, ◌<◌, ◌≤◌}
use mathlib.Core.Bool.{Bool, true, false, cond, not}
use mathlib.Core.List.{List, [], ◌∷◌}
use mathlib.Core.Path.{◌≡◌, refl, sym, ◌∙◌, ap, subst}
use native.Mathlib.Omega.{arith}
use lib.Dec.{eqb, leb}
use lib.IntN.{ℤ}
use lib.ListN.{length, get_or, take, replicate, length-replicate}
use borrow.Author.Tests.{leb-true}
use Rattle.rules.specs.declared.Digits.{Digits}
use Rattle.rules.specs.Base.{all}
use Rattle.rules.specs.RangeClass.{digits_of}
use Rattle.rules.specs.RefusalNumbers.{got, bad, unless, map_g}
use Rattle.rules.specs.Lines.{Rest, Form, ignored, wrong, close, eof, keyed, Shape, opener, no_content, content, opening, formless, has_form, shape_of}
use Rattle.rules.specs.Values.{Known, Value, empty, nums, read_kind}
use Rattle.rules.specs.Rows.{Rule, Found, absent, found, find, fits, shape_for, Act, stay, entry, begin, shut, refuse, or_refuse, inner_of, read_shape, act_row, act_found, complete, act}
use Rattle.rules.specs.RecordTable.{rule_at}
use Rattle.rules.specs.Figures.{layer_table, figure_table}
use Rattle.rules.proofs.Chains.{by_cond, clash, map-got, never}
use Rattle.rules.proofs.Rows.{Row, found-row, is_refusal, row-all, row-did}
use Rattle.tables.specs.Tables.{table_of}
use Rattle.entries.specs.Acts.{roomy, next_of, Entered, Acts}
use Rattle.entries.specs.declared.Inner.{Inner}
use Rattle.entries.specs.declared.Next.{Next}
use Rattle.entries.specs.declared.Next.TheVariants as N
use Rattle.account.specs.declared.Now.{Now}
use Rattle.account.specs.declared.Where.{Where}
use Rattle.account.specs.declared.Step.{Step}
use Rattle.account.specs.declared.Step.TheVariants as S
use Rattle.account.specs.Account.{head_at}
use Rattle.account.specs.FigureLines.{layer_table_number, home_table, home_rows, home_rule, line_kind, block_kind, more_figures, figure_opened, figures_closed, unmarked_if, FigureLine}
use Rattle.elements.proofs.BlocksActs.{told, row_of}

-- ── a line that opens a block: its row, and what it holds ──
pub record Begun (k : Known) (t : List Rule) (i j : ℕ) (v : Value) : Type 0 where
  pub rule : Rule
  pub row : Row t j rule
  pub shape : Shape
  pub fit : fits rule.holds rule.may shape ≡ true
  pub inner : inner_of rule.holds ≡ i
  pub read : read_shape k j rule shape ≡ got (begin i j v)

abbrev Begins : Known → List Rule → Act → Type 0
Begins k t stay = Unit {0}
Begins k t (entry j v) = Unit {0}
Begins k t (begin i j v) = Begun k t i j v
Begins k t shut = Unit {0}
Begins k t (refuse n) = Unit {0}

module _ (k : Known) (t : List Rule) where
  shape-begins : (j : ℕ) (r : Rule) (s : Shape) (a : Act) → Row t j r → fits r.holds r.may s ≡ true → read_shape k j r s ≡ got a → Begins k t a
  shape-begins j r opener a w f e =
      let q : begin (inner_of r.holds) j (nums []) ≡ a = cc in
      subst (Begins k t) q (record { rule = r; row = w; shape = opener; fit = f; inner = refl; read = refl })
  shape-begins j r no_content a w f e = let q : entry j empty ≡ a = cc in subst (Begins k t) q tt
  shape-begins j r (content at c) a w f e = let (v, p, q) = map-got (entry j) (read_kind k r.holds at c) a e in subst (Begins k t) q tt
  shape-begins j r (opening at c) a w f e =
      let (v, p, q) = map-got (begin (inner_of r.holds) j) (read_kind k r.holds at c) a e in
      subst (Begins k t) q (record { rule = r; row = w; shape = opening at c; fit = f; inner = refl; read = ap (map_g (begin (inner_of r.holds) j)) p })
  shape-begins j r formless a w f e = never e

  refusal-begins : (a : Act) → is_refusal a ≡ true → Begins k t a
  refusal-begins stay e = tt
  refusal-begins (entry j v) e = tt
  refusal-begins (begin i j v) e = clash e refl
  refusal-begins shut e = tt
  refusal-begins (refuse n) e = tt

  row-begins : (d : Digits) (full : Bool) (j : ℕ) (r : Rule) (x : Rest) → Row t j r → Begins k t (act_row k d full j r x)
  row-begins d full j r x w = go (is_refusal (act_row k d full j r x)) refl
    where
      go : (b : Bool) → is_refusal (act_row k d full j r x) ≡ b → Begins k t (act_row k d full j r x)
      go true e = refusal-begins (act_row k d full j r x) e
      go false e = let did = row-did k d full j r x (act_row k d full j r x) e refl in shape-begins j r (shape_for r x) (act_row k d full j r x) w did.fit did.read

  act-begins : (d : Digits) (full : List Bool) (f : Form) → Begins k t (act k t d full f)
  act-begins d full ignored = tt
  act-begins d full (wrong n) = tt
  act-begins d full close = by_cond (Begins k t) (complete d t full) (λ q. tt) (λ q. tt)
  act-begins d full eof = tt
  act-begins d full (keyed key x) = go (find key t) refl
    where
      unknown : (b : Bool) → Begins k t (or_refuse (unless b 5 (bad 6)))
      unknown true = tt
      unknown false = tt

      go : (f : Found) → find key t ≡ f → Begins k t (act_found k d full x f)
      go absent e = unknown (has_form (shape_of x))
      go (found j r) e = row-begins d (get_or full j false) j r x (found-row key t j r e).0

  pub act-begun : (d : Digits) (full : List Bool) (f : Form) (i j : ℕ) (v : Value) → act k t d full f ≡ begin i j v → Begun k t i j v
  act-begun d full f i j v e = subst (Begins k t) e (act-begins d full f)

-- ── the tables of figures ──
-- eight rows, of which none is ever full
abbrev pub eight_free : List Bool
eight_free = false ∷ false ∷ false ∷ false ∷ false ∷ false ∷ false ∷ false ∷ []

home-free : (layered : Bool) (wires : ℕ) → take (home_rows layered wires) eight_free ≡ replicate (home_rows layered wires) false
home-free true wires = go (eqb wires 0)
  where
    go : (none : Bool) → take (cond none 7 8) eight_free ≡ replicate (cond none 7 8) false
    go true = refl
    go false = refl
home-free false wires = refl

by_home : (P : ℕ → Type 0) → P 11 → P 12 → P 21 → P 22 → P 13 → (layered : Bool) (range wires : ℕ) → P (home_table layered range wires)
by_home P a b c d e true range wires = go (not (eqb wires 0)) (eqb range 1)
  where
    go : (wired single : Bool) → P (layer_table_number single wired)
    go true true = d
    go true false = c
    go false true = b
    go false false = a
by_home P a b c d e false range wires = e

pub home-long : (layered : Bool) (range wires : ℕ) → length (replicate (home_rows layered wires) false) ≡ length (table_of (home_table layered range wires))
unfolding table_of layer_table figure_table
home-long true range wires = go (eqb wires 0) (eqb range 1)
  where
    go : (none single : Bool) → length (replicate (cond none 7 8) false) ≡ length (table_of (layer_table_number single (not none)))
    go true true = refl
    go true false = refl
    go false true = refl
    go false false = refl
home-long false range wires = refl

pub home-room : (layered : Bool) (range wires table n : ℕ) → table ≡ home_table layered range wires → n ≡ 32 → all (roomy 0 n) (table_of table) ≡ true
unfolding table_of layer_table figure_table
home-room layered range wires table n e h = rw (e, h) (by_home (λ t. all (roomy 0 32) (table_of t) ≡ true) refl refl refl refl refl layered range wires)

home-inner : (layered : Bool) (range wires : ℕ) → all (λ r. leb (inner_of r.holds) 4) (table_of (home_table layered range wires)) ≡ true
unfolding table_of layer_table figure_table
home-inner layered range wires = by_home (λ n. all (λ r. leb (inner_of r.holds) 4) (table_of n) ≡ true) refl refl refl refl refl layered range wires

rows-most : (layered : Bool) (wires : ℕ) → home_rows layered wires ≤ 8
rows-most true wires = go (eqb wires 0)
  where
    go : (none : Bool) → cond none 7 8 ≤ 8
    go true = omega arith
    go false = omega arith
rows-most false wires = omega arith

-- as the code lends it
pub home-rows-most : (layered : Bool) (wires m : ℕ) → m ≡ home_rows layered wires → m ≤ 8
home-rows-most layered wires m e = subst (λ (n : ℕ). n ≤ 8) (sym e) (rows-most layered wires)

pub home-lent : (layered : Bool) (wires m : ℕ) → m ≡ home_rows layered wires → m ≡ length (take m eight_free)
home-lent layered wires m e =
    e ∙ sym (length-replicate (home_rows layered wires) false) ∙ ap length (sym (home-free layered wires)) ∙ ap (λ (n : ℕ). length (take n eight_free)) (sym e)

pub home-lent-long : (layered : Bool) (range wires t m : ℕ) → t ≡ home_table layered range wires → m ≡ home_rows layered wires → length (take m eight_free) ≡ length (table_of t)
home-lent-long layered range wires t m e h = rw (e, h, home-free layered wires) (home-long layered range wires)

pub home-acts : (layered : Bool) (range wires t m : ℕ) (d : Digits) (k : Known) (f : Form) (rec₀ rec₁ : List ℤ) (next : Next)
    → t ≡ home_table layered range wires → m ≡ home_rows layered wires → d ≡ digits_of range → Acts (rule_at (table_of t)) 0 rec₀ (act k (table_of t) d (take m eight_free) f) rec₁ next
    → Acts (home_rule layered range wires) 0 rec₀ (act k (table_of (home_table layered range wires)) (digits_of range) (replicate (home_rows layered wires) false) f) rec₁ next
home-acts layered range wires t m d k f rec₀ rec₁ next e h q x =
    subst (λ (u : List Bool). Acted (home_table layered range wires) (digits_of range) u) (ap (λ (m : ℕ). take m eight_free) h ∙ home-free layered wires)
    (subst (λ (d : Digits). Acted (home_table layered range wires) d (take m eight_free)) q (subst (λ (t : ℕ). Acted t d (take m eight_free)) e x))
  where
    Acted : ℕ → Digits → List Bool → Type 0
    Acted t d u = Acts (rule_at (table_of t)) 0 rec₀ (act k (table_of t) d u f) rec₁ next

module _ (k : Known) (layered : Bool) (range wires : ℕ) (d : Digits) (full : List Bool) (f : Form) where
  abbrev a : Act
  a = act k (table_of (home_table layered range wires)) d full f

  pub entry_row : (j : ℕ) → N.Entry j ≡ next_of a → j < 8
  entry_row j e =
      let w : j < length (table_of (home_table layered range wires)) = row_of k (table_of (home_table layered range wires)) d full f (N.Entry j) e in
      omega (arith, w, home-long layered range wires, length-replicate (home_rows layered wires) false, rows-most layered wires)

  pub begin-block : (b : Inner) → N.Begin b ≡ next_of a → b.block ≤ 4
  begin-block b e =
      let (v, q) = told (N.Begin b) a e in
      let w = act-begun k (table_of (home_table layered range wires)) d full f b.block b.row v q in
      omega (arith, leb-true (inner_of w.rule.holds) 4 (row-all (λ r. leb (inner_of r.holds) 4) w.row (home-inner layered range wires)), w.inner)

-- ── the line ──
module _ (n : Now) (range wires : ℕ) (at : Where) (rec₀ rec₁ : List ℤ) (m₀ i₀ : List Bool) where
  abbrev Line : Act → List ℤ → List Bool → List Bool → Step → Type 0
  Line a rec₂ m i r = FigureLine a n range wires at rec₀ rec₂ m₀ m i₀ i r

  abbrev Put : Act → Type 0
  Put a = Entered (home_rule n.layered range wires) 0 rec₀ a rec₁

  pub figures-stay : (a : Act) → N.Stay ≡ next_of a → Put a → Line a rec₁ m₀ i₀ (S.Go n)
  figures-stay a e = subst (λ (a : Act). Put a → Line a rec₁ m₀ i₀ (S.Go n)) (sym (told N.Stay a e)) λ h. record { answer = refl; rec = h; marks = refl; inner = refl }

  pub figures-entry : (a : Act) (rec₂ : List ℤ) (j : ℕ) (r : Now) → N.Entry j ≡ next_of a → Put a → rec₂ ≡ head_at 0 (line_kind n.layered j) n.owner at rec₁ → r ≡ more_figures n
      → Line a rec₂ m₀ i₀ (S.Go r)
  figures-entry a rec₂ j r e x p q =
      let (v, w) = told (N.Entry j) a e in
      subst (λ (a : Act). Put a → Line a rec₂ m₀ i₀ (S.Go r)) (sym w)
      (λ h. record { answer = ap S.Go q; rec = p ∙ ap (head_at 0 (line_kind n.layered j) n.owner at) h; marks = refl; inner = refl }) x

  pub figures-begin : (a : Act) (b : Inner) (rec₂ : List ℤ) (m₁ i₁ : List Bool) (r : Now) → N.Begin b ≡ next_of a → Put a
      → rec₂ ≡ head_at 0 (block_kind n.layered b.block) n.owner at rec₁ → m₁ ≡ unmarked_if (leb 3 b.block) m₀ → i₁ ≡ unmarked_if (eqb b.block 2) i₀
      → r ≡ figure_opened n b.block → Line a rec₂ m₁ i₁ (S.Go r)
  figures-begin a b rec₂ m₁ i₁ r e x p y z q =
      let (v, w) = told (N.Begin b) a e in
      subst (λ (a : Act). Put a → Line a rec₂ m₁ i₁ (S.Go r)) (sym w)
      (λ h. record { answer = ap S.Go q; rec = p ∙ ap (head_at 0 (block_kind n.layered b.block) n.owner at) h; marks = y; inner = z }) x

  pub figures-shut : (a : Act) (r : Step) → N.Shut ≡ next_of a → Put a → r ≡ figures_closed n → Line a rec₁ m₀ i₀ r
  figures-shut a r e x q = subst (λ (a : Act). Put a → Line a rec₁ m₀ i₀ r) (sym (told N.Shut a e)) (λ h. record { answer = q; rec = h; marks = refl; inner = refl }) x

  pub figures-refuse : (a : Act) (k : ℕ) → N.Refuse k ≡ next_of a → Line a rec₁ m₀ i₀ (S.Stop k)
  figures-refuse a k e = subst (λ (a : Act). Line a rec₁ m₀ i₀ (S.Stop k)) (sym (told (N.Refuse k) a e)) (record { answer = refl; rec = tt; marks = refl; inner = refl })
