-- Laws of a line's form or flaw: that it stands for the line's form.
use Rattle.std.specs.Prelude.{Ok, Err}
use Prim.Native.Nat.{ℕ, ◌+◌, ◌-◌, ◌<◌}
use mathlib.Core.Path.{◌≡◌, refl, sym}
use mathlib.Core.Bool.{true, false}
use mathlib.Core.List.{List, [], ◌∷◌}
use native.Mathlib.Omega.{arith}
use lib.ListN.{length, get_or, drop}
use Rattle.rules.specs.declared.LineForm.TheVariants as L
use Rattle.lines.specs.LineForms.{opens_here, Blanks, CleanRun, KeyRun}
use Rattle.lines.specs.LineFlaw.{Formed, word_form, bare_form, equal_form, brace_form}
use Rattle.lines.specs.declared.forms.Flaw.TheVariants.{BadBytes}
use Rattle.lines.proofs.LineForms as forms
use Rattle.lines.proofs.LineLook as laws

-- ── a line without a key, as the code tests it ──
pub bare-none : (s : List ℕ) → length s ≡ 0 → bare_form s ≡ Ok L.Ignored
unfolding bare_form
bare-none [] h = refl
bare-none (b ∷ s) h = absurd (omega (arith, h))

pub bare-some : (s : List ℕ) → (length s ≡ 0 → ⊥) → bare_form s ≡ word_form s
unfolding bare_form
bare-some [] h = absurd (h refl)
bare-some (b ∷ s) h = refl

-- ── what is told of a line ──
module _ (at : ℕ) (l : List ℕ) where
  pub told-empty : length l ≡ 0 → Formed at l (Ok L.Ignored)
  told-empty h v n = sym (laws.form-empty v n at l h)

  pub told_comment : (length l ≡ 0 → ⊥) → get_or l 0 0 ≡ 35 → Formed at l (Ok L.Ignored)
  told_comment h e v n = sym (forms.line_comment v n at l h e)

  module _ (n k : ℕ) (b : Blanks l n) (r : KeyRun l n k) (c : get_or l 0 0 ≡ 35 → ⊥) where
    pub told-bare : k ≡ length l → Formed at l (bare_form (drop n l))
    told-bare h v i = sym (laws.form-bare v i at l n k b r c h)

    pub told-wrong : k < length l → (get_or l k 0 ≡ 61 → ⊥) → opens_here (drop k l) ≡ false → Formed at l (Err BadBytes)
    told-wrong h e f v i = sym (laws.form-wrong v i at l n k b r c h e f)

    module _ (j : ℕ) where
      module _ (h : k < length l) (e : get_or l k 0 ≡ 61) (w : CleanRun l (k + 1) j) where
        pub told_equal : j ≡ length l → Formed at l (equal_form (at + n) (k - n) (at + length l))
        told_equal q v i = sym (laws.form_equal v i at l n k b r c j h e w q)

        pub told_equal-wrong : (j ≡ length l → ⊥) → Formed at l (Err BadBytes)
        told_equal-wrong q v i = sym (laws.form_equal-wrong v i at l n k b r c j h e w q)

      module _ (f : opens_here (drop k l) ≡ true) (w : CleanRun l (k + 2) j) where
        pub told-brace : j ≡ length l → Formed at l (brace_form (at + n) (k - n) (at + length l))
        told-brace q v i = sym (laws.form-brace v i at l n k b r c j f w q)

        pub told-brace-wrong : (j ≡ length l → ⊥) → Formed at l (Err BadBytes)
        told-brace-wrong q v i = sym (laws.form-brace-wrong v i at l n k b r c j f w q)
