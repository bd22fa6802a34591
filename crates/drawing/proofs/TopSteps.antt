-- How the lines at the top level are answered.
use Prim.Native.Nat.{ℕ}
use mathlib.Core.Bool.{Bool, true, false}
use mathlib.Core.Path.{◌≡◌, refl, sym, ◌∙◌, ap, subst}
use lib.ListN.{length, replicate}
use Rattle.rules.specs.declared.Digits.{Digits}
use Rattle.rules.specs.Base.{all}
use Rattle.rules.specs.RefusalNumbers.{Got, got, bad}
use Rattle.rules.specs.Lines.{Form}
use Rattle.rules.specs.RangeClass.{digits}
use Rattle.rules.specs.Values.{Known, Value}
use Rattle.rules.specs.Rows.{Act, stay, begin, act}
use Rattle.rules.specs.Blocks.{top_table}
use Rattle.tables.specs.Tables.{table_of}
use Rattle.entries.specs.Acts.{roomy}
use Rattle.account.specs.declared.Now.{Now}
use Rattle.account.specs.declared.Where.{Where}
use Rattle.account.specs.declared.Step.{Step}
use Rattle.account.specs.declared.Step.TheVariants as S
use Rattle.account.specs.TopLines.{step_of, Unrefused, Answered, TopLent, opened_lent, block_now, key_now, key_lent, top_act}

-- ── answers ──
pub refused-line : (g : Got Now) (k : ℕ) (P : Type 0) → g ≡ bad k → Answered g P (S.Stop k)
refused-line g k P e = record { answer = sym (ap step_of e); lent = subst (λ (x : Got Now). Unrefused x P) (sym e) tt }

-- what is so whether the line is refused or not
pub any-line : (g : Got Now) (P : Type 0) (r : Step) → r ≡ step_of g → P → Answered g P r
any-line (got n) P r e h = record { answer = e; lent = h }
any-line (bad k) P r e h = record { answer = e; lent = tt }

-- ── a line with a key ──
pub top-rows : length (replicate 4 false) ≡ length (table_of 0)
unfolding table_of top_table
top-rows = refl

pub top-room : all (roomy 0 1) (table_of 0) ≡ true
unfolding table_of top_table
top-room = refl

-- the act, by the digits that were asked for
pub digitless : (k : Known) (f : Form) (d : Digits) (a : Act) → d ≡ digits 0 0 → act k (table_of 0) d (replicate 4 false) f ≡ a → top_act k f ≡ a
digitless k f d a e h = sym (ap (λ (x : Digits). act k (table_of 0) x (replicate 4 false) f) e) ∙ h

module _ (first : Bool) (n : Now) (at : Where) (a : Act) where
  pub key-stay : (l : TopLent) → a ≡ stay → Answered (key_now first n a) (l ≡ key_lent first at l a) (S.Go n)
  key-stay l e = subst (λ (x : Act). Answered (key_now first n x) (l ≡ key_lent first at l x) (S.Go n)) (sym e) (any-line (got n) (l ≡ l) (S.Go n) refl refl)

  pub key-refused : (P : Type 0) (k : ℕ) (b : Act) → a ≡ b → key_now first n b ≡ bad k → Answered (key_now first n a) P (S.Stop k)
  key-refused P k b e h = refused-line (key_now first n a) k P (ap (key_now first n) e ∙ h)

  pub key-begin : (i j : ℕ) (v : Value) (l₀ l₁ : TopLent) (r : Step) → a ≡ begin i j v → Answered (block_now first n j) (l₁ ≡ opened_lent first at j l₀) r
      → Answered (key_now first n a) (l₁ ≡ key_lent first at l₀ a) r
  key-begin i j v l₀ l₁ r e h = subst (λ (x : Act). Answered (key_now first n x) (l₁ ≡ key_lent first at l₀ x) r) (sym e) h
