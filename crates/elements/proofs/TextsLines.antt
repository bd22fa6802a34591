-- A line in a text: from what `act` promises to the line's own contract.
use Prim.Native.Nat.{ℕ, ◌<◌}
use mathlib.Core.Bool.{Bool, true, false}
use mathlib.Core.List.{List}
use mathlib.Core.Path.{◌≡◌, refl, sym, ◌∙◌, ap, subst}
use lib.IntN.{ℤ}
use lib.ListN.{length, set}
use Rattle.rules.specs.declared.Digits.{Digits}
use Rattle.rules.specs.Base.{all}
use Rattle.rules.specs.Lines.{Form}
use Rattle.rules.specs.RangeClass.{digits}
use Rattle.rules.specs.Values.{Known}
use Rattle.rules.specs.Rows.{Act, act}
use Rattle.rules.specs.RecordTable.{rule_at}
use Rattle.rules.specs.Figures.{text_table}
use Rattle.tables.specs.Tables.{table_of}
use Rattle.entries.specs.Acts.{roomy, Acts, Entered}
use Rattle.entries.specs.declared.Inner.{Inner}
use Rattle.entries.specs.declared.Next.{Next}
use Rattle.entries.specs.declared.Next.TheVariants as N
use Rattle.account.specs.declared.Now.{Now}
use Rattle.account.specs.declared.Step.{Step}
use Rattle.account.specs.declared.Step.TheVariants as S
use Rattle.account.specs.Account.{figure_done}
use Rattle.account.specs.TextLines.{text_table_of, TextLine}
use Rattle.elements.proofs.BlocksActs.{told, row_of}

-- ── the table of a text ──
pub text-two : (b : Bool) → length (table_of (text_table_of b)) ≡ 2
unfolding table_of text_table
text-two true = refl
text-two false = refl

pub text-room : (b : Bool) (n : ℕ) → n ≡ 32 → all (roomy 0 n) (table_of (text_table_of b)) ≡ true
unfolding table_of text_table
text-room true n e = rw e
text-room false n e = rw e

abbrev pub TextActs : Bool → Known → List Bool → Form → List ℤ → List ℤ → Next → Type 0
TextActs b k full f t₀ t₁ x = Acts (rule_at (table_of (text_table_of b))) 0 t₀ (act k (table_of (text_table_of b)) (digits 0 0) full f) t₁ x

pub text-acts : (b : Bool) (table : ℕ) (d : Digits) (k : Known) (full : List Bool) (f : Form) (t₀ t₁ : List ℤ) (x : Next) → table ≡ text_table_of b → d ≡ digits 0 0
    → Acts (rule_at (table_of table)) 0 t₀ (act k (table_of table) d full f) t₁ x → TextActs b k full f t₀ t₁ x
text-acts b table d k full f t₀ t₁ x e q m =
    subst (λ (d : Digits). Acts (rule_at (table_of (text_table_of b))) 0 t₀ (act k (table_of (text_table_of b)) d full f) t₁ x) q
    (subst (λ (table : ℕ). Acts (rule_at (table_of table)) 0 t₀ (act k (table_of table) d full f) t₁ x) e m)

-- ── by the answer ──
module _ (n : Now) (k : Known) (m₀ : List Bool) (f : Form) (t₀ t₁ : List ℤ) (x : Next) (h : TextActs n.layered k m₀ f t₀ t₁ x) where
  abbrev line : Act
  line = act k (table_of (text_table_of n.layered)) (digits 0 0) m₀ f

  abbrev Texts : List Bool → Step → Act → Type 0
  Texts m₁ r c = Entered (rule_at (table_of (text_table_of n.layered))) 0 t₀ c t₁ → TextLine c n m₀ m₁ t₀ t₁ r

  pub text-row : (j : ℕ) → x ≡ N.Entry j → j < 2
  text-row j e = subst (λ (m : ℕ). j < m) (text-two n.layered) (row_of k (table_of (text_table_of n.layered)) (digits 0 0) m₀ f (N.Entry j) (sym e ∙ h.eq))

  pub text-stay : x ≡ N.Stay → TextLine line n m₀ m₀ t₀ t₁ (S.Go n)
  text-stay e = subst (Texts m₀ (S.Go n)) (sym (told N.Stay line (sym e ∙ h.eq))) (λ w. record { answer = refl; marks = refl; entered = w }) h.entered

  pub text-entry : (j : ℕ) → x ≡ N.Entry j → TextLine line n m₀ (set m₀ j true) t₀ t₁ (S.Go n)
  text-entry j e =
      let (v, q) = told (N.Entry j) line (sym e ∙ h.eq) in
      subst (Texts (set m₀ j true) (S.Go n)) (sym q) (λ w. record { answer = refl; marks = refl; entered = w }) h.entered

  pub text-begin : (i : Inner) → x ≡ N.Begin i → TextLine line n m₀ m₀ t₀ t₁ (S.Stop 5)
  text-begin i e =
      let (v, q) = told (N.Begin i) line (sym e ∙ h.eq) in
      subst (Texts m₀ (S.Stop 5)) (sym q) (λ w. record { answer = refl; marks = refl; entered = w }) h.entered

  pub text-shut : (y : Now) → y ≡ figure_done n → x ≡ N.Shut → TextLine line n m₀ m₀ t₀ t₁ (S.Go y)
  text-shut y r e =
      subst (Texts m₀ (S.Go y)) (sym (told N.Shut line (sym e ∙ h.eq))) (λ w. record { answer = ap (λ (m : Now). S.Go m) r; marks = refl; entered = w }) h.entered

  pub text-refuse : (i : ℕ) → x ≡ N.Refuse i → TextLine line n m₀ m₀ t₀ t₁ (S.Stop i)
  text-refuse i e = subst (Texts m₀ (S.Stop i)) (sym (told (N.Refuse i) line (sym e ∙ h.eq))) (λ w. record { answer = refl; marks = refl; entered = w }) h.entered
