-- What a placed symbol holds while it is read, and that it is good when it closes.
use Rattle.std.specs.Prelude.{Some, None}
use Prim.Native.Nat.{ℕ, zero, suc, ◌≤◌}
use mathlib.Core.Bool.{Bool, true, false, true≢false}
use mathlib.Core.List.{List, [], ◌∷◌}
use mathlib.Core.Path.{◌≡◌, refl, sym, ap, subst}
use native.Mathlib.Omega.{arith}
use lib.Dec.{eqb}
use lib.ListN.{get_or, set}
use lib.Seq.{get_or-set_other}
use borrow.Author.Tests.{eqb-true, eqb-false}
use Rattle.rules.specs.declared.Digits.{Digits}
use Rattle.rules.specs.Base.{is_some}
use Rattle.rules.specs.RangeClass.{both}
use Rattle.rules.specs.Values.{Value, Known, serials_of}
use Rattle.rules.specs.Rows.{Rule, Slots, Held, part_of, enter, rows_there, slot_value, held, Act, begin, complete}
use Rattle.rules.specs.Blocks.{around, blank_held}
use Rattle.rules.specs.Figures.{placed_table, placed_tables, text_table}
use Rattle.rules.specs.Sets.{placed, own_serial, figure_serial}
use Rattle.rules.specs.PlacedSymbol.{none_of}
use Rattle.rules.specs.Answers.{full_class}
use Rattle.promises.proofs.Forms.{keys_ok}
use Rattle.promises.proofs.Good.{GoodRow, Always, GoodSlots, none0, GoodPlaced}
use Rattle.promises.proofs.InvRows.{Took, good-set, open_at}
use Rattle.promises.proofs.InvParts.{HeldPart, part-seen, part-shut, part_open, all_nameless, took-set, other-kept, opened-by, inner-by, was-none, now-some}

abbrev pub placed_text : List Rule
placed_text = text_table true 16 24

-- its own serial number, where one was read
abbrev pub serial_in : Slots → List ℕ
serial_in own = own_serial (serials_of (slot_value (held "serial" placed_table own)))

-- used: the serial numbers that were read before
pub record Placing (k : Known) (d : Digits) (used : List ℕ) (p : ℕ) (own text : Slots) : Type 0 where
  pub low : p ≤ 1
  pub own-good : GoodSlots (GoodRow k d) placed_table own
  pub text-good : HeldPart (eqb p 1) (is_some (get_or own 1 None)) (Always none0) placed_text text
  pub serial : none_of (serial_in own) used ≡ true

pub record PlacedInv (k : Known) (d : Digits) (used : List ℕ) (p : ℕ) (h : Held) : Type 0 where
  pub own : Slots
  pub text : Slots
  pub is : h ≡ own ∷ text ∷ []
  pub parts : Placing k d used p own text

both-parts : {k : Known} {d : Digits} {used : List ℕ} {p : ℕ} {own text : Slots} → Placing k d used p own text → PlacedInv k d used p (own ∷ text ∷ [])
both-parts {own = own} {text = text} f = record { own = own; text = text; is = refl; parts = f }

pub placed-start : (k : Known) (d : Digits) (used : List ℕ) → PlacedInv k d used 0 (blank_held placed_tables)
unfolding placed_table text_table
placed-start k d used = both-parts (record { low = omega arith; own-good = tt; text-good = refl; serial = refl })

text-nameless : all_nameless placed_text ≡ true
unfolding text_table
text-nameless = refl

-- the number that stands after a row took a value: that row's, or the one from before
serial-set : {k : Known} {d : Digits} {j : ℕ} {v : Value} {o : Bool} {a : Act} (used : List ℕ) (own : Slots) → Took k d placed_table (rows_there own) j v o a → GoodSlots (GoodRow k d) placed_table own
    → none_of (serial_in own) used ≡ true → (j ≡ 5 → none_of (own_serial (serials_of v)) used ≡ true) → none_of (serial_in (set own j (Some v))) used ≡ true
unfolding placed_table
serial-set {k} {d} {j} {v} used own w g e f = go (eqb j 5) refl
  where
    go : (b : Bool) → eqb j 5 ≡ b → none_of (own_serial (serials_of (slot_value (get_or (set own j (Some v)) 5 None)))) used ≡ true
    go true q = rw (now-some (GoodRow k d) own w g 5 (eqb-true j 5 q)) (f (eqb-true j 5 q))
    go false q = rw (get_or-set_other own j 5 (Some v) None (λ x. eqb-false j 5 q (sym x))) e

pub placed-enter : {k : Known} {d : Digits} {j : ℕ} {v : Value} {a : Act} (used : List ℕ) (h : Held) → PlacedInv k d used 0 h → Took k d placed_table (rows_there (part_of h 0)) j v false a
    → none_of (own_serial (serials_of v)) used ≡ true → PlacedInv k d used 0 (enter h 0 j v)
unfolding placed_table
placed-enter {k} {d} {j} {v} {a} used h f w n =
    (subst (λ (h : Held). Took k d placed_table (rows_there (part_of h 0)) j v false a → PlacedInv k d used 0 (enter h 0 j v)) (sym f.is) (go f.own f.text f.parts)) w
  where
    go : (own text : Slots) → Placing k d used 0 own text → Took k d placed_table (rows_there own) j v false a → PlacedInv k d used 0 (set own j (Some v) ∷ text ∷ [])
    go own text f w =
        both-parts
        (record {
          low = f.low;
          own-good = good-set (GoodRow k d) w.row own v f.own-good w.good;
          text-good = part-seen false (Always none0) placed_text text (other-kept is_some own j 1 v (λ e. true≢false (opened-by w 1 e))) f.text-good;
          serial = serial-set used own w f.own-good f.serial (λ e. n);
        })

pub placed-begin : {k : Known} {d : Digits} {i j : ℕ} {v : Value} (used : List ℕ) (h : Held) → PlacedInv k d used 0 h → Took k d placed_table (rows_there (part_of h 0)) j v true (begin i j v)
    → PlacedInv k d used i (enter h 0 j v)
unfolding placed_table
placed-begin {k} {d} {i} {j} {v} used h f w =
    (subst (λ (h : Held). Took k d placed_table (rows_there (part_of h 0)) j v true (begin i j v) → PlacedInv k d used i (enter h 0 j v)) (sym f.is) (go f.own f.text f.parts)) w
  where
    go : (own text : Slots) → Placing k d used 0 own text → Took k d placed_table (rows_there own) j v true (begin i j v) → PlacedInv k d used i (set own j (Some v) ∷ text ∷ [])
    go own text f w =
        let z = eqb-true j 1 (open_at (λ j. eqb j 1) w refl) in
        rw (inner-by w 1 z)
        (both-parts
        (record {
          low = omega arith;
          own-good = good-set (GoodRow k d) w.row own v f.own-good w.good;
          text-good = (part_open (Always none0) placed_text text (was-none own w 1 z) f.text-good, ap is_some (now-some (GoodRow k d) own w f.own-good 1 z));
          serial = serial-set used own w f.own-good f.serial (λ e. absurd (omega arith));
        }))

-- in its text
pub text-enter : {k k' : Known} {d : Digits} {j : ℕ} {v : Value} {a : Act} (used : List ℕ) (p : ℕ) (h : Held) → PlacedInv k d used (suc p) h
    → Took k' none0 (get_or placed_tables (suc p) []) (rows_there (part_of h (suc p))) j v false a → PlacedInv k d used (suc p) (enter h (suc p) j v)
text-enter {k} {k'} {d} {j} {v} {a} used p h f w =
    (subst (λ (h : Held). Took k' none0 (get_or placed_tables (suc p) []) (rows_there (part_of h (suc p))) j v false a → PlacedInv k d used (suc p) (enter h (suc p) j v)) (sym f.is)
    (go p f.own f.text f.parts)) w
  where
    go : (p : ℕ) (own text : Slots) → Placing k d used (suc p) own text → Took k' none0 (get_or placed_tables (suc p) []) (rows_there (part_of (own ∷ text ∷ []) (suc p))) j v false a
        → PlacedInv k d used (suc p) (enter (own ∷ text ∷ []) (suc p) j v)
    go zero own text f w =
        both-parts
        (record {
          low = f.low;
          own-good = f.own-good;
          text-good = (took-set text none0 text-nameless w f.text-good.0, f.text-good.1);
          serial = f.serial;
        })
    go (suc p) own text f w = absurd (omega (arith, f.low))

pub text-keys : (p : ℕ) → keys_ok (get_or placed_tables (suc p) []) ≡ true
unfolding text_table
text-keys zero = refl
text-keys (suc p) = refl

pub text-opens : {k : Known} {j : ℕ} {v : Value} {a : Act} {full : List Bool} (p : ℕ) → Took k none0 (get_or placed_tables (suc p) []) full j v true a → ⊥
unfolding text_table
text-opens zero w = true≢false (sym (open_at (λ j. false) w refl))
text-opens (suc p) w = true≢false (sym (open_at (λ j. false) w refl))

pub text-shut : {k : Known} {d : Digits} (used : List ℕ) (p : ℕ) (h : Held) → PlacedInv k d used (suc p) h → complete none0 (get_or placed_tables (suc p) []) (rows_there (part_of h (suc p))) ≡ true
    → PlacedInv k d used (around (suc p)) h
text-shut {k} {d} used p h f e =
    (subst (λ (h : Held). complete none0 (get_or placed_tables (suc p) []) (rows_there (part_of h (suc p))) ≡ true → PlacedInv k d used (around (suc p)) h) (sym f.is)
    (go p f.own f.text f.parts)) e
  where
    go : (p : ℕ) (own text : Slots) → Placing k d used (suc p) own text → complete none0 (get_or placed_tables (suc p) []) (rows_there (part_of (own ∷ text ∷ []) (suc p))) ≡ true
        → PlacedInv k d used (around (suc p)) (own ∷ text ∷ [])
    go zero own text f e =
        both-parts (record { low = omega arith; own-good = f.own-good; text-good = part-shut (is_some (get_or own 1 None)) (Always none0) placed_text text f.text-good e; serial = f.serial })
    go (suc p) own text f e = absurd (omega (arith, f.low))

pub placed-good : {k : Known} {d : Digits} (used : List ℕ) (h : Held) (n : ℕ) → PlacedInv k d used 0 h → complete (both full_class.symbols d) placed_table (rows_there (part_of h 0)) ≡ true
    → GoodPlaced k d h × (none_of (figure_serial (placed n h)) used ≡ true)
placed-good {k} {d} used h n f e =
    (subst (λ (h : Held). complete (both full_class.symbols d) placed_table (rows_there (part_of h 0)) ≡ true → GoodPlaced k d h × (none_of (figure_serial (placed n h)) used ≡ true)) (sym f.is)
    (λ e. (record { own = f.own; text = f.text; is = refl; own-good = record { good = f.parts.own-good; all = e }; text-good = f.parts.text-good }, f.parts.serial))) e
