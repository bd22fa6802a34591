-- The public function of this crate has one answer (as `Unique` in leaves has it: put-key-unique in the contract's own words, put-key-code of
-- the contract as the code has it), and leaves one output behind.
use Rattle.std.specs.Prelude.{Result}
use Prim.Native.Nat.{ℕ}
use mathlib.Core.List.{List}
use mathlib.Core.Path.{◌≡◌, sym, ◌∙◌}
use Rattle.leaves.specs.Writing.{Puts}
use Rattle.leaves.proofs.Unique.{One, paired}
use Rattle.tables.specs.Tables.{table_of}
use Rattle.keywords.specs.Keys.{key_at}
use Rattle.keywords.proofs.put_key as put-key'
use Rattle.leaves.specs.declared.NoRoom.{NoRoom}

pub put-key_unique : (table row : ℕ) (out out₁ out₂ : List ℕ) (r₁ r₂ : Result ℕ NoRoom) → Puts (key_at (table_of table) row) out out₁ r₁ → Puts (key_at (table_of table) row) out out₂ r₂ → (r₁ ≡ r₂) × (out₁ ≡ out₂)
put-key_unique table row out out₁ out₂ r₁ r₂ c₁ c₂ = (c₁.answer ∙ sym c₂.answer, c₁.memory ∙ sym c₂.memory)

put-key-code : One put-key'.Kinds.ps put-key'.Kinds.r put-key'.Reads.Learnt {A = Result ℕ NoRoom × List ℕ} (λ κs r e. (r, e.1.1.0.now))
put-key-code κs x r₁ r₂ e₁ e₂ c₁ c₂ = paired (put-key_unique x.0 x.1.0 x.1.1.0.now e₁.1.1.0.now e₂.1.1.0.now r₁ r₂ c₁ c₂)
