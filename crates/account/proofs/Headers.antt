-- FILE_FORMAT's records: they are complete where it was open, and their number is the one that was kept.
use Prim.Native.Nat.{ℕ}
use mathlib.Core.Bool.{Bool, true, false, cond, ◌&&◌}
use mathlib.Core.Path.{◌≡◌, refl, sym, ◌∙◌, ap}
use borrow.Author.Tests.{eqb-true}
use lib.Dec.{eqb, ltb}
use Rattle.rules.proofs.Chains.{clash}
use Rattle.account.specs.declared.Now.{Now}
use Rattle.account.specs.declared.Complete.{Complete}
use Rattle.account.specs.declared.Complete.TheVariants as C
use Rattle.account.specs.Putting.{line_place, line_completed, close_completed, completed}

abbrev is_header : Complete → Bool
is_header C.Nothing = false
is_header (C.Record from) = false
is_header C.Header = true
is_header C.Wire = false

module _ (was is : Now) where
  -- a line that leaves its block open makes no header complete
  no_line : is_header (line_completed was is) ≡ false
  no_line = by (eqb was.records is.records) (line_place was.block)
    where
      by : (b : Bool) (from : ℕ) → is_header (cond b C.Nothing (C.Record from)) ≡ false
      by true from = refl
      by false from = refl

  -- another block is open behind it
  other_block : completed was is ≡ C.Header → eqb was.block is.block ≡ false
  other_block q = by (eqb was.block is.block) refl (ap is_header q)
    where
      by : (b : Bool) → eqb was.block is.block ≡ b → is_header (cond b (line_completed was is) (close_completed was is)) ≡ true → eqb was.block is.block ≡ false
      by true e h = clash h no_line
      by false e h = e

  pub header-block : completed was is ≡ C.Header → was.block ≡ 1
  header-block q =
      let h : is_header (close_completed was is) ≡ true = sym (ap (λ (b : Bool). is_header (cond b (line_completed was is) (close_completed was is))) (other_block q)) ∙ ap is_header q in
      eqb-true was.block 1 (is-file (eqb was.block 1)
      (not_record (eqb was.block 2 && eqb is.block 0) 0 _ (not_record (eqb was.block 5 && eqb is.block 4) 0 _ (not-figure (ltb 8 was.block) (eqb was.block 12) _ h))))
    where
      not_record : (b : Bool) (from : ℕ) (other : Complete) → is_header (cond b (C.Record from) other) ≡ true → is_header other ≡ true
      not_record true from other h = clash h refl
      not_record false from other h = h

      not-figure : (b wire : Bool) (other : Complete) → is_header (cond b (cond wire C.Wire (C.Record 32)) other) ≡ true → is_header other ≡ true
      not-figure true true other h = clash h refl
      not-figure true false other h = clash h refl
      not-figure false wire other h = h

      is-file : (b : Bool) → is_header (cond b C.Header C.Nothing) ≡ true → b ≡ true
      is-file true h = refl
      is-file false h = clash h refl
