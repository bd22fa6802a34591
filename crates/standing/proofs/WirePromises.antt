-- What the code does with a line in a wire, as what it promises of any line: by whether the wire is skipped whole, its text is open, or neither.
use Prim.Native.Nat.{ℕ, zero, suc}
use mathlib.Core.Bool.{Bool, true, false}
use mathlib.Core.List.{List}
use mathlib.Core.Path.{◌≡◌, refl, sym, subst}
use native.Mathlib.Omega.{arith}
use lib.Dec.{eqb}
use lib.IntN.{ℤ}
use lib.ListN.{get_or, take}
use Rattle.rules.specs.declared.Class.{Class}
use Rattle.rules.specs.declared.LineForm.{LineForm}
use Rattle.rules.specs.Lines.{form_in}
use Rattle.rules.specs.Values.{Known}
use Rattle.rules.specs.Rows.{Held}
use Rattle.rules.specs.Sets.{Figure, Wire, Set}
use Rattle.rules.specs.Machine.{State, placing, skipping, wire_block, wire_unread}
use Rattle.entries.specs.Names.{known_in}
use Rattle.account.specs.declared.Where.{Where}
use Rattle.account.specs.declared.Step.{Step}
use Rattle.account.specs.PlacedLines.{Lent}
use Rattle.account.specs.WireLines.{WireLine}
use Rattle.standing.specs.Standing.{Desk, part_in, Counted, StepOut}
use Rattle.standing.specs.FileStanding.{InFile}
use Rattle.standing.specs.Reading.{Standing, LinePromise}
use Rattle.standing.proofs.OpenBlocks
use Rattle.standing.proofs.PlacedTables.{lent_of}
use Rattle.standing.proofs.WireRows.{wire_desk}
use Rattle.standing.proofs.WireStanding.{own_line}
use Rattle.standing.proofs.WireTexts.{text-line}
use Rattle.standing.proofs.UnreadStanding.{unread-line}

-- the part that is open in a wire that is read is not that of one skipped whole, and tells whether its text is open
not-skipped : (i : ℕ) (past : Bool) → eqb (part_in i past) 2 ≡ false
not-skipped zero false = refl
not-skipped zero true = refl
not-skipped (suc i) past = refl

no_text : (past : Bool) → eqb (part_in 0 past) 1 ≡ false
no_text false = refl
no_text true = refl

module _ (c : Class) (spool : List ℕ) (k : ℕ) (form : LineForm) (w : Where) (following : List ℕ) (d : Desk) where
  abbrev F : Desk → Set → ℕ → Held → ℕ → Type 0
  F = InFile spool k

  abbrev known₀ : Known
  known₀ = known_in spool (take (get_or d.tally 9 0) d.symbols) (take (get_or d.tally 10 0) d.layers)

  abbrev range₀ : ℕ
  range₀ = get_or d.tally 12 0

  abbrev WireTold : Lent → List ℤ → Step → Bool → Bool → Type 0
  WireTold x₁ t₁ r skipped text = WireLine known₀ c range₀ d.now w (lent_of d) x₁ d.scratch t₁ r skipped text (form_in spool form)

  pub wire_promise : (x₁ : Lent) (t₁ : List ℤ) (r : Step) → d.now.block ≡ 12
      → WireTold x₁ t₁ r (eqb d.now.part 2) (eqb d.now.part 1) → LinePromise c spool k form w d (wire_desk d x₁ t₁) following r
  wire_promise x₁ t₁ r b f own l at to st x q p z y = go st (OpenBlocks.in-wire c spool k d (F d) st z.block b) z y
    where
      -- by the part that is open
      part-is : (i : ℕ) → d.now.part ≡ i → WireTold x₁ t₁ r (eqb i 2) (eqb i 1)
      part-is i e = subst (λ (j : ℕ). WireTold x₁ t₁ r (eqb j 2) (eqb j 1)) e f

      read : (i : ℕ) (past : Bool) → d.now.part ≡ part_in i past → WireTold x₁ t₁ r false (eqb (part_in i past) 1)
      read i past e = subst (λ (t : Bool). WireTold x₁ t₁ r t (eqb (part_in i past) 1)) (not-skipped i past) (part-is (part_in i past) e)

      by_part : (i : ℕ) (s : Set) (m : ℕ) (fs : List Figure) (n : ℕ) (wire : Wire) → Standing c spool k d at (placing s m fs n (wire_block wire) i) → Counted c own d (placing s m fs n (wire_block wire) i)
          → StepOut c spool k F own l to (placing s m fs n (wire_block wire) i) (wire_desk d x₁ t₁) r
      by_part zero s m fs n wire z y =
          own_line c spool k F d at to own l w form x s m fs n wire z y x₁ t₁ p r (subst (λ (t : Bool). WireTold x₁ t₁ r false t) (no_text wire.past) (read 0 wire.past z.block.1.wire.part))
      by_part (suc zero) s m fs n wire z y =
          let g = read 1 wire.past z.block.1.wire.part in
          subst (λ (u : Lent). StepOut c spool k F own l to (placing s m fs n (wire_block wire) 1) (wire_desk d u t₁) r) (sym g.1)
          (text-line c spool k F d at to own l w form x s m fs n wire z x₁.inner t₁ r g.0)
      by_part (suc (suc i)) s m fs n wire z y = absurd (omega (arith, z.block.1.parts))

      go : (st : State) → OpenBlocks.InAWire st → Standing c spool k d at st → Counted c own d st → StepOut c spool k F own l to st (wire_desk d x₁ t₁) r
      go _ (OpenBlocks.here s m fs n wire i) z y = by_part i s m fs n wire z y
      go _ (OpenBlocks.unread s m fs n i) z y =
          let g = part-is 2 z.block.2.part in
          subst (λ (u : Lent). StepOut c spool k F own l to (skipping s m fs n wire_unread i) (wire_desk d u t₁) r) (sym g.1)
          (unread-line c spool k F d at to own l w form x s m fs n i z y t₁ r g.0)
