-- Steps that the blocks before ELEMENT share.
use Rattle.std.specs.Prelude.{Option, Some, None, Result}
use Prim.Native.Nat.{ℕ, ◌+◌}
use mathlib.Core.Bool.{Bool, true, false, cond}
use mathlib.Core.List.{List, [], ◌∷◌, append-nil}
use mathlib.Core.Path.{◌≡◌, refl, sym, ◌∙◌, ap, subst}
use lib.ListN.{length, get_or, get_or-map}
use Rattle.rules.specs.declared.Digits.{Digits}
use Rattle.rules.specs.Base.{is_some}
use Rattle.rules.specs.RefusalNumbers.{Got, got}
use Rattle.rules.specs.Lines.{close}
use Rattle.rules.specs.Values.{Value, Known, opens}
use Rattle.rules.specs.RecordTable.{rule_at}
use Rattle.rules.specs.Rows.{Rule, row, Slots, rows_there, shut, refuse, complete, act}
use Rattle.rules.specs.Sets.{Set, with_records}
use Rattle.rules.specs.Machine.{Env, State, by_act, room_for, taking}
use Rattle.rules.proofs.Chains.{unless-got, never, clash}
use Rattle.rules.proofs.Rows.{Row, row_at}
use Rattle.pens.specs.declared.Pen.{Pen}
use Rattle.pens.specs.Texts.{ended, line_bytes, Draws}
use Rattle.pens.specs.Standing.{Front}
use Rattle.leaves.specs.declared.NoRoom.{NoRoom}

-- ── taking a line apart ──
-- records that were taken fitted
pub took : (e : Env) (ks : List ℕ) (s : Set) (f : Set → State) (st : State) → taking e ks s f ≡ got st → f (with_records ks s) ≡ st
took e ks s f st q = let w = (unless-got (room_for e.limit (s.taken + length ks)) 19 (got (f (with_records ks s))) st q).1 in cc

-- a `}` that was taken closes the block
pub closed : (here : State) (en : ℕ → Value → Got State) (op : ℕ → ℕ → Value → Got State) (cl : Got State) (k : Known) (t : List Rule) (d : Digits) (full : List Bool) (st : State)
    → by_act here en op (λ _. cl) (act k t d full close) ≡ got st → cl ≡ got st
closed here en op cl k t d full st e = go (complete d t full) e
  where
    go : (b : Bool) → by_act here en op (λ _. cl) (cond b shut (refuse 8)) ≡ got st → cl ≡ got st
    go true e = e
    go false e = never e

-- a row is what its number says
pub row_is : {t : List Rule} {j : ℕ} {r : Rule} → Row t j r → r ≡ rule_at t j
row_is w = sym (row_at w (row "" (opens 0) 0))

-- a row that may be read has not been read
pub unread : (o : Slots) (i : ℕ) → get_or (rows_there o) i false ≡ false → get_or o i None ≡ None
unread o i e = go (get_or o i None) (sym (get_or-map is_some o i None) ∙ e)
  where
    go : (v : Option Value) → is_some v ≡ false → v ≡ None
    go None e = refl
    go (Some v) e = clash refl e

-- ── texts of one line ──
pub line-bytes : (l : List ℕ) → line_bytes (l ∷ []) ≡ ended l
line-bytes l = append-nil (ended l)

pub draws-line : (l : List ℕ) (at : ℕ) (next : Pen) (before after : List ℕ) (d : Result Pen NoRoom) → Draws (ended l) at next before after d → Draws (line_bytes (l ∷ [])) at next before after d
draws-line l at next before after d w = subst (λ (x : List ℕ). Draws x at next before after d) (sym (line-bytes l)) w

pub line-long : (l : List ℕ) → length (ended l) ≡ length (line_bytes (l ∷ []))
line-long l = ap length (sym (line-bytes l))

-- ── nothing is written ──
-- the pen, its block by its number
abbrev pub still : Pen → ℕ → Pen
still p b = record { block = b; part = p.part; layered = p.layered; start = p.start; at = p.at }

-- ── the set ──
-- more records leave all else
pub front-more : (first : Bool) (ks : List ℕ) (s : Set) → Front first s → Front first (with_records ks s)
front-more first ks s f = record { volume = f.volume; alone = f.alone; empty = f.empty; served = f.served }
