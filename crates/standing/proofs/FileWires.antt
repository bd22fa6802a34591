-- What the number behind the records that is E_wire's says after a line of the first volume's FILE_FORMAT.
use Rattle.std.specs.Prelude.{Option, Some, None}
use Prim.Native.Nat.{ℕ, ◌+◌, ◌<◌}
use mathlib.Core.Bool.{Bool, true, false}
use mathlib.Core.List.{List, [], ◌∷◌}
use mathlib.Core.Path.{◌≡◌, refl, sym, ◌∙◌, ap, ap₂, subst}
use native.Mathlib.Omega.{arith}
use borrow.Author.Tests.{eqb-true, eqb-false}
use lib.Dec.{eqb}
use lib.IntN.{ℤ, pos, nat_abs}
use lib.ListN.{length, get_or, set}
use lib.Seq.{sets, get_or-set_same}
use Rattle.rules.specs.Base.{all}
use Rattle.rules.specs.Values.{Num, Value, nums, amount_at}
use Rattle.rules.specs.Rows.{Rule, Slots, Held, part_of, enter, rows_there, slot_value, number_of}
use Rattle.rules.specs.RecordTable.{numbers, rule_at}
use Rattle.rules.specs.Blocks.{elec_table, file_tables}
use Rattle.rules.proofs.Chains.{and_left}
use Rattle.entries.specs.Acts.{put_line}
use Rattle.account.specs.Placing.{Shaped}
use Rattle.account.specs.FileLines.{PartOpen, Header, is_count, count_at, kept_in}
use Rattle.account.proofs.RowsTaken.{Taken}
use Rattle.standing.proofs.FileKeeps.{short-put, first-row, wires_else}
use Rattle.standing.proofs.FilePartMarks.{part-number}
use Rattle.standing.proofs.FileNames.{slot_else, kept-number}
use Rattle.standing.proofs.HeldParts.{enter-own, shaped-at}

-- by number of the row
wires-slot : (o : Slots) → number_of "E_wire" elec_table o ≡ amount_at (slot_value (get_or o 1 None)) 0
unfolding elec_table
wires-slot o = refl

-- it has no place of its own
wires-put : (v : Value) (h : List ℤ) → kept_in true 3 1 (put_line (rule_at elec_table 1) 64 v h) ≡ set (sets h 64 (numbers v)) 70 (get_or (sets h 64 (numbers v)) 64 (pos 0))
unfolding elec_table
wires-put v h = refl

module _ (p j : ℕ) (h : Held) (v : Value) (h₀ h₁ : List ℤ) (o : PartOpen true p) (sh : Shaped 0 (file_tables true) h) (tk : Taken (get_or (file_tables true) p []) (rows_there (part_of h p)) j v)
    (g : Header h₀) (c : all is_count (numbers v) ≡ true) (e : h₁ ≡ kept_in true p j (put_line (rule_at (get_or (file_tables true) p []) j) 64 v h₀)) where
  abbrev rows : List Rule
  rows = get_or (file_tables true) p []

  abbrev Kept : Held → List ℤ → Type 0
  Kept h t = count_at t 70 ≡ amount_at (slot_value (get_or (part_of h 3) 1 None)) 0

  there : (p < length h) × (length (part_of h p) ≡ length rows)
  there =
      let w = shaped-at (file_tables true) 0 p h sh (part-number true p o) in
      let z : 0 + p ≡ p = omega arith in
      (omega (arith, w.0), ap (λ (i : ℕ). length (part_of h i)) (sym z) ∙ w.1)

  -- another row
  wires-same : (p ≡ 3 → j ≡ 1 → ⊥) → Kept h h₀ → Kept (enter h p j v) h₁
  wires-same n y =
      ap (λ (t : List ℤ). count_at t 70) e
      ∙ ap nat_abs (wires_else p j (put_line (rule_at rows j) 64 v h₀) n ∙ short-put 66 (rule_at rows j) v h₀ 70 (first-row p j o tk.row) tk.fill (omega arith))
      ∙ y ∙ ap (λ (x : Option Value). amount_at (slot_value x) 0) (sym (slot_else h p 3 j 1 v there.0 (λ z w. n z (sym w))))

  -- its own
  wires-new : (i : Num) → p ≡ 3 → j ≡ 1 → v ≡ nums (i ∷ []) → Kept (enter h p j v) h₁
  wires-new i z w u =
      let is-count : is_count i.value ≡ true = and_left (is_count i.value) _ (subst (λ (x : Value). all is_count (numbers x) ≡ true) u c) in
      let slot : get_or (part_of (enter h p j v) 3) 1 None ≡ Some (nums (i ∷ [])) =
      ap (λ (m : ℕ). get_or (part_of (enter h p j v) m) 1 None) (sym z) ∙ ap (λ (x : Slots). get_or x 1 None) (enter-own h p j v there.0)
      ∙ ap (λ (m : ℕ). get_or (set (part_of h p) j (Some v)) m None) (sym w) ∙ get_or-set_same (part_of h p) j (Some v) None (omega (arith, tk.row, there.1)) ∙ ap Some u in
      ap (λ (t : List ℤ). count_at t 70)
      (e ∙ ap₂ (λ (a b : ℕ). kept_in true a b (put_line (rule_at (get_or (file_tables true) a []) b) 64 v h₀)) z w ∙ wires-put v h₀
      ∙ ap (λ (x : Value). set (sets h₀ 64 (numbers x)) 70 (get_or (sets h₀ 64 (numbers x)) 64 (pos 0))) u)
      ∙ kept-number i h₀ 70 g.long (omega arith) is-count ∙ ap (λ (x : Option Value). amount_at (slot_value x) 0) (sym slot)

  pub wires-on : (p ≡ 3 → j ≡ 1 → (i : Num) × (v ≡ nums (i ∷ []))) → count_at h₀ 70 ≡ number_of "E_wire" elec_table (part_of h 3)
      → count_at h₁ 70 ≡ number_of "E_wire" elec_table (part_of (enter h p j v) 3)
  wires-on y a = go (eqb p 3) refl (eqb j 1) refl ∙ sym (wires-slot (part_of (enter h p j v) 3))
    where
      before : Kept h h₀
      before = a ∙ wires-slot (part_of h 3)

      go : (b : Bool) → eqb p 3 ≡ b → (d : Bool) → eqb j 1 ≡ d → Kept (enter h p j v) h₁
      go true q true r =
          let z = eqb-true p 3 q in
          let w = eqb-true j 1 r in
          let (i, u) = y z w in
          wires-new i z w u
      go true q false r = wires-same (λ _. eqb-false j 1 r) before
      go false q d r = wires-same (λ z _. eqb-false p 3 q z) before
