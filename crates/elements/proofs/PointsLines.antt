-- A line among points: from what `act` promises to the line's own contract.
use Prim.Native.Nat.{ℕ, ◌<◌, ◌≤◌}
use mathlib.Core.Bool.{Bool, true, false, cond}
use mathlib.Core.List.{List, [], ◌∷◌}
use mathlib.Core.Path.{◌≡◌, refl, sym, ◌∙◌, ap, subst}
use lib.Dec.{leb, ltb}
use lib.IntN.{ℤ}
use lib.ListN.{length, set}
use mir.Syntax.{w64}
use mir.Val.{to_z}
use borrow.Author.Tests.{lt-ltb, le-ltb}
use Rattle.rules.specs.declared.Digits.{Digits}
use Rattle.rules.specs.Base.{all}
use Rattle.rules.specs.Lines.{Form}
use Rattle.rules.specs.RangeClass.{digits}
use Rattle.rules.specs.Values.{Known}
use Rattle.rules.specs.Rows.{rows_at_limit, Act, act}
use Rattle.rules.specs.RecordTable.{rule_at}
use Rattle.rules.specs.Figures.{least_points, point_table}
use Rattle.tables.specs.Tables.{table_of}
use Rattle.entries.specs.Acts.{roomy, Entered, Acts}
use Rattle.entries.specs.declared.Inner.{Inner}
use Rattle.entries.specs.declared.Next.{Next}
use Rattle.entries.specs.declared.Next.TheVariants as N
use Rattle.account.specs.declared.Now.{Now}
use Rattle.account.specs.declared.Where.{Where}
use Rattle.account.specs.declared.Step.{Step}
use Rattle.account.specs.declared.Step.TheVariants as S
use Rattle.leaves.proofs.Ints.{pos-back}
use Rattle.account.specs.Records.{part_at, with_part}
use Rattle.account.specs.Account.{at_block, figure_done, head_at}
use Rattle.account.specs.Points.{point_table_of, chain_kind, more_points, PointRecord, PointLine, chain_end, chain_typed, chain_closed, ChainLine, hide_step, HideLine}
use Rattle.account.proofs.Lent.{with-same}
use Rattle.elements.proofs.BlocksActs.{Told, told}

-- ── the table of points ──
by-points : (P : ℕ → Type 0) → P 14 → P 15 → (b : Bool) (table : ℕ) → table ≡ point_table_of b → P table
by-points P x y true table e = subst P (sym e) x
by-points P x y false table e = subst P (sym e) y

pub points-one : (b : Bool) (table : ℕ) → table ≡ point_table_of b → 1 ≡ length (table_of table)
unfolding table_of point_table
points-one b table e = by-points (λ t. 1 ≡ length (table_of t)) refl refl b table e

pub points-room : (b : Bool) (table n : ℕ) → table ≡ point_table_of b → n ≡ 32 → all (roomy 0 n) (table_of table) ≡ true
unfolding table_of point_table
points-room b table n e h = rw h (by-points (λ t. all (roomy 0 32) (table_of t) ≡ true) refl refl b table e)

-- "block of 3 to 100 point": the code's own mark
points-full : (b : Bool) (table n : ℕ) → table ≡ point_table_of b → leb 100 n ∷ [] ≡ rows_at_limit n (table_of table)
unfolding table_of point_table
points-full b table n e = by-points (λ t. leb 100 n ∷ [] ≡ rows_at_limit n (table_of t)) refl refl b table e

pub point-acts : (b : Bool) (table : ℕ) (d : Digits) (k : Known) (f : Form) (points : ℕ) (rec₀ rec₁ : List ℤ) (x : Next) → table ≡ point_table_of b → d ≡ digits 0 0
    → Acts (rule_at (table_of table)) 0 rec₀ (act k (table_of table) d (leb 100 points ∷ []) f) rec₁ x
    → Acts (rule_at (table_of table)) 0 rec₀ (act k (table_of table) (digits 0 0) (rows_at_limit points (table_of table)) f) rec₁ x
point-acts b table d k f points rec₀ rec₁ x e q m =
    subst (λ (full : List Bool). Acts (rule_at (table_of table)) 0 rec₀ (act k (table_of table) (digits 0 0) full f) rec₁ x) (points-full b table points e)
    (subst (λ (d : Digits). Acts (rule_at (table_of table)) 0 rec₀ (act k (table_of table) d (leb 100 points ∷ []) f) rec₁ x) q m)

-- ── a point ──
module _ (n : Now) (kind table : ℕ) (at : Where) (rec₀ rec₁ : List ℤ) (a : Act) (x : Next) (m : Acts (rule_at (table_of table)) 0 rec₀ a rec₁ x) where
  abbrev Points : List ℤ → Act → Type 0
  Points rec₂ c = Entered (rule_at (table_of table)) 0 rec₀ c rec₁ → PointRecord n kind table at rec₀ rec₂ c

  pub point-stay : x ≡ N.Stay → PointLine a n kind table at rec₀ rec₁ x
  point-stay e = record { answer = m.eq; rec = subst (Points rec₁) (sym (told N.Stay a (sym e ∙ m.eq))) (λ h. h) m.entered }

  pub point-entry : (rec₂ : List ℤ) (j : ℕ) → rec₂ ≡ head_at 0 kind n.owner at rec₁ → x ≡ N.Entry j → PointLine a n kind table at rec₀ rec₂ x
  point-entry rec₂ j g e =
      let (v, q) = told (N.Entry j) a (sym e ∙ m.eq) in
      record { answer = m.eq; rec = subst (Points rec₂) (sym q) (λ h. g ∙ ap (head_at 0 kind n.owner at) h) m.entered }

  pub point-begin : (i : Inner) → x ≡ N.Begin i → PointLine a n kind table at rec₀ rec₁ x
  point-begin i e =
      let (v, q) = told (N.Begin i) a (sym e ∙ m.eq) in record { answer = m.eq; rec = subst (PointRecord n kind table at rec₀ rec₁) (sym q) tt }

  pub point-shut : x ≡ N.Shut → PointLine a n kind table at rec₀ rec₁ x
  point-shut e = record { answer = m.eq; rec = subst (Points rec₁) (sym (told N.Shut a (sym e ∙ m.eq))) (λ h. h) m.entered }

  pub point-refuse : (k : ℕ) → x ≡ N.Refuse k → PointLine a n kind table at rec₀ rec₁ x
  point-refuse k e = record { answer = m.eq; rec = subst (PointRecord n kind table at rec₀ rec₁) (sym (told (N.Refuse k) a (sym e ∙ m.eq))) tt }

-- ── a line in a `successive`, by the answer: the point's record is lent to it behind the chain's own ──
module _ (n : Now) (at : Where) (t₀ rec₁ t₁ : List ℤ) (a : Act) (x : Next)
    (p : PointLine a n (chain_kind n.layered) (point_table_of n.layered) at (part_at 32 t₀) rec₁ x) (l : t₁ ≡ with_part 32 rec₁ t₀) where
  abbrev Chains : List ℤ → Step → Act → Type 0
  Chains t₂ r c = PointRecord n (chain_kind n.layered) (point_table_of n.layered) at (part_at 32 t₀) rec₁ c → ChainLine c n at t₀ t₂ r

  -- where the point's record is as it was
  same-lent : rec₁ ≡ part_at 32 t₀ → t₁ ≡ t₀
  same-lent h = l ∙ ap (λ (u : List ℤ). with_part 32 u t₀) h ∙ with-same 32 t₀

  pub chain-stay : x ≡ N.Stay → ChainLine a n at t₀ t₁ (S.Go n)
  chain-stay e = subst (Chains t₁ (S.Go n)) (sym (told N.Stay a (sym e ∙ p.answer))) (λ h. record { answer = refl; records = same-lent h }) p.rec

  pub chain-entry : (t₂ : List ℤ) (y : Now) (j : ℕ) → t₂ ≡ chain_typed n t₁ → y ≡ more_points n → x ≡ N.Entry j → ChainLine a n at t₀ t₂ (S.Go y)
  chain-entry t₂ y j f r e =
      let (v, q) = told (N.Entry j) a (sym e ∙ p.answer) in
      subst (Chains t₂ (S.Go y)) (sym q)
      (λ h. record { answer = ap (λ (z : Now). S.Go z) r; records = f ∙ ap (chain_typed n) (l ∙ ap (λ (u : List ℤ). with_part 32 u t₀) h) }) p.rec

  pub chain-begin : (t₂ : List ℤ) (i : Inner) → x ≡ N.Begin i → ChainLine a n at t₀ t₂ (S.Stop 5)
  chain-begin t₂ i e =
      let (v, q) = told (N.Begin i) a (sym e ∙ p.answer) in subst (Chains t₂ (S.Stop 5)) (sym q) (λ h. record { answer = refl; records = tt }) p.rec

  pub chain-shut : (t₂ : List ℤ) (r : Step) → r ≡ chain_end n → (ltb n.points least_points ≡ false → t₂ ≡ chain_closed n t₁) → x ≡ N.Shut → ChainLine a n at t₀ t₂ r
  chain-shut t₂ r g f e =
      subst (Chains t₂ r) (sym (told N.Shut a (sym e ∙ p.answer))) (λ h. record { answer = g; records = λ s. f s ∙ ap (chain_closed n) (same-lent h) }) p.rec

  pub chain-refuse : (t₂ : List ℤ) (k : ℕ) → x ≡ N.Refuse k → ChainLine a n at t₀ t₂ (S.Stop k)
  chain-refuse t₂ k e = subst (Chains t₂ (S.Stop k)) (sym (told (N.Refuse k) a (sym e ∙ p.answer))) (λ h. record { answer = refl; records = tt }) p.rec

-- ── a line in a `hide`, by the answer ──
module _ (n : Now) (at : Where) (rec₀ rec₁ : List ℤ) (a : Act) (x : Next) (p : PointLine a n 43 15 at rec₀ rec₁ x) where
  hides : (y : Next) (r : Step) → ((c : Act) → Told y c → r ≡ hide_step n c) → x ≡ y → HideLine a n at rec₀ rec₁ r
  hides y r f e = record { answer = f a (told y a (sym e ∙ p.answer)); rec = p.rec }

  pub hide-stay : x ≡ N.Stay → HideLine a n at rec₀ rec₁ (S.Go n)
  hide-stay = hides N.Stay (S.Go n) (λ c q. sym (ap (hide_step n) q))

  pub hide-entry : (y : Now) (j : ℕ) → y ≡ more_points n → x ≡ N.Entry j → HideLine a n at rec₀ rec₁ (S.Go y)
  hide-entry y j r = hides (N.Entry j) (S.Go y) (λ c q. ap (λ (z : Now). S.Go z) r ∙ sym (ap (hide_step n) q.1))

  pub hide-begin : (i : Inner) → x ≡ N.Begin i → HideLine a n at rec₀ rec₁ (S.Stop 5)
  hide-begin i = hides (N.Begin i) (S.Stop 5) (λ c q. sym (ap (hide_step n) q.1))

  pub hide-shut : (y : Now) → y ≡ at_block n 5 0 → x ≡ N.Shut → HideLine a n at rec₀ rec₁ (S.Go y)
  hide-shut y r = hides N.Shut (S.Go y) (λ c q. ap (λ (z : Now). S.Go z) r ∙ sym (ap (hide_step n) q))

  pub hide-refuse : (k : ℕ) → x ≡ N.Refuse k → HideLine a n at rec₀ rec₁ (S.Stop k)
  hide-refuse k = hides (N.Refuse k) (S.Stop k) (λ c q. sym (ap (hide_step n) q))

-- ── the end of a `successive` ──
pub chain-short : (n : Now) → n.points < least_points → S.Stop 8 ≡ chain_end n
chain-short n h = sym (ap (λ (b : Bool). cond b (S.Stop 8) (S.Go (figure_done n))) (lt-ltb n.points least_points h))

pub chain-long : (n y : Now) → least_points ≤ n.points → y ≡ figure_done n → S.Go y ≡ chain_end n
chain-long n y h e = ap (λ (z : Now). S.Go z) e ∙ sym (ap (λ (b : Bool). cond b (S.Stop 8) (S.Go (figure_done n))) (le-ltb n.points least_points h))

pub chain-counted : (n : Now) (t : List ℤ) → n.points < 100000000000 → set t 5 (to_z w64 n.points) ≡ chain_closed n t
chain-counted n t h = rw (pos-back n.points h)
