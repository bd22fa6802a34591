-- A block with inner parts: each is blank, open, or closed and complete; and what a line that was read does to it.
use Rattle.std.specs.Prelude.{Option, Some, None}
use Prim.Native.Nat.{ℕ}
use mathlib.Core.Bool.{Bool, true, false}
use mathlib.Core.List.{List}
use mathlib.Core.Path.{◌≡◌, refl, sym, ◌∙◌, ap, subst}
use lib.Dec.{eqb}
use lib.ListN.{get_or, set}
use lib.Seq.{get_or-set_other}
use borrow.Author.Tests.{eqb-true, eqb-false}
use Rattle.rules.specs.declared.Digits.{Digits}
use Rattle.rules.specs.Base.{all, is_some}
use Rattle.rules.specs.Values.{Value, Known, amount_at}
use Rattle.rules.specs.Rows.{Rule, Slots, blank, rows_there, Act, begin, complete, inner_of}
use Rattle.rules.specs.FixedForm.{opens_block}
use Rattle.rules.specs.RecordTable.{rule_at}
use Rattle.rules.proofs.Chains.{clash}
use Rattle.rules.proofs.Rows.{row-all}
use Rattle.promises.proofs.Good.{Always, GoodSlots, Closed, GoodPart, none0, is_one, good-blank}
use Rattle.promises.proofs.InvRows.{Took, good-set, slot-set, unmarked, opened-at, inner-at}
use Rattle.promises.proofs.Nameless.{nameless}

-- ── an inner part, open now or not; where it is not, it was opened or not ──
abbrev pub HeldPart : Bool → Bool → (Rule → Value → Type 0) → List Rule → Slots → Type 0
HeldPart true seen P t s = GoodSlots P t s × (seen ≡ true)
HeldPart false seen P t s = GoodPart seen P none0 t s

pub part-seen : (now : Bool) {a b : Bool} (P : Rule → Value → Type 0) (t : List Rule) (s : Slots) → a ≡ b → HeldPart now a P t s → HeldPart now b P t s
part-seen now P t s e h = subst (λ (x : Bool). HeldPart now x P t s) e h

pub part-shut : (seen : Bool) (P : Rule → Value → Type 0) (t : List Rule) (s : Slots) → HeldPart true seen P t s → complete none0 t (rows_there s) ≡ true → HeldPart false seen P t s
part-shut true P t s h e = record { good = h.0; all = e }
part-shut false P t s h e = clash h.1 refl

-- a part that was not opened is blank, so it opens well
pub part_open : {seen : Bool} (P : Rule → Value → Type 0) (t : List Rule) (s : Slots) → seen ≡ false → HeldPart false seen P t s → GoodSlots P t s
part_open P t s e h = let q : s ≡ blank t = subst (λ (x : Bool). HeldPart false x P t s) e h in rw q (good-blank P t)

pub part-closed : {seen : Bool} (P : Rule → Value → Type 0) (t : List Rule) (s : Slots) → seen ≡ true → HeldPart false seen P t s → Closed P none0 t s
part-closed P t s e h = subst (λ (x : Bool). HeldPart false x P t s) e h

-- what a line entered in the part that is open
abbrev pub all_nameless : List Rule → Bool
all_nameless t = all (λ r. nameless r.holds) t

pub took-set : {k : Known} {t : List Rule} {j : ℕ} {v : Value} {o : Bool} {a : Act} (s : Slots) (d : Digits) → all_nameless t ≡ true → Took k d t (rows_there s) j v o a → GoodSlots (Always d) t s
    → GoodSlots (Always d) t (set s j (Some v))
took-set s d n w g = good-set (Always d) w.row s _ g (w.always (row-all (λ r. nameless r.holds) w.row n))

-- a value that opens nothing leaves it as it was whether a part was opened
pub not-one : (o : Option Value) → is_some o ≡ false → is_one o ≡ false
not-one None e = refl
not-one (Some v) e = clash refl e

pub one_kept : {k : Known} {t : List Rule} {j : ℕ} {v : Value} {a : Act} (s : Slots) (q : ℕ) → Took k none0 t (rows_there s) j v false a → GoodSlots (Always none0) t s
    → (j ≡ q → eqb (amount_at v 0) 1 ≡ false) → is_one (get_or s q None) ≡ is_one (get_or (set s j (Some v)) q None)
one_kept {j = j} {v = v} s q w g f = go (eqb j q) refl
  where
    go : (b : Bool) → eqb j q ≡ b → is_one (get_or s q None) ≡ is_one (get_or (set s j (Some v)) q None)
    go true e =
        subst (λ (q : ℕ). is_one (get_or s q None) ≡ is_one (get_or (set s j (Some v)) q None)) (eqb-true j q e)
        (not-one (get_or s j None) (unmarked s j w.new) ∙ sym (ap is_one (slot-set (Always none0) w.row s (Some v) g) ∙ f (eqb-true j q e)))
    go false e = sym (ap is_one (get_or-set_other s j q (Some v) None (λ x. eqb-false j q e (sym x))))

pub other-kept : (f : Option Value → Bool) (s : Slots) (j q : ℕ) (v : Value) → (j ≡ q → ⊥) → f (get_or s q None) ≡ f (get_or (set s j (Some v)) q None)
other-kept f s j q v n = sym (ap f (get_or-set_other s j q (Some v) None (λ x. n (sym x))))

-- the row of number q of the table, where it is known which row took the value
pub opened-by : {k : Known} {d : Digits} {t : List Rule} {full : List Bool} {j : ℕ} {v : Value} {o : Bool} {a : Act} → Took k d t full j v o a → (q : ℕ) → j ≡ q → opens_block (rule_at t q).holds v ≡ o
opened-by {t = t} {v = v} {o = o} w q e = subst (λ (q : ℕ). opens_block (rule_at t q).holds v ≡ o) e (opened-at w)

pub inner-by : {k : Known} {d : Digits} {t : List Rule} {full : List Bool} {i j : ℕ} {v : Value} {o : Bool} → Took k d t full j v o (begin i j v) → (q : ℕ) → j ≡ q → i ≡ inner_of (rule_at t q).holds
inner-by {t = t} {i = i} w q e = subst (λ (q : ℕ). i ≡ inner_of (rule_at t q).holds) e (inner-at w)

pub was-none : {k : Known} {d : Digits} {t : List Rule} {j : ℕ} {v : Value} {o : Bool} {a : Act} (s : Slots) → Took k d t (rows_there s) j v o a → (q : ℕ) → j ≡ q → is_some (get_or s q None) ≡ false
was-none {j = j} s w q e = subst (λ (q : ℕ). is_some (get_or s q None) ≡ false) e (unmarked s j w.new)

pub now-some : {k : Known} {d : Digits} {t : List Rule} {j : ℕ} {v : Value} {o : Bool} {a : Act} (P : Rule → Value → Type 0) (s : Slots) → Took k d t (rows_there s) j v o a → GoodSlots P t s → (q : ℕ) → j ≡ q
    → get_or (set s j (Some v)) q None ≡ Some v
now-some {j = j} {v = v} P s w g q e = subst (λ (q : ℕ). get_or (set s j (Some v)) q None ≡ Some v) e (slot-set P w.row s (Some v) g)
