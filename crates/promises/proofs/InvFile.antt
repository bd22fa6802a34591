-- What FILE_FORMAT holds while it is read, and that it is good when it closes.
use Rattle.std.specs.Prelude.{Some, None}
use Prim.Native.Nat.{ℕ, zero, suc, ◌≤◌}
use mathlib.Core.Bool.{Bool, true, false, ◌||◌, not, true≢false}
use mathlib.Core.List.{List, [], ◌∷◌}
use mathlib.Core.Path.{◌≡◌, refl, sym, ◌∙◌, ap, subst}
use native.Mathlib.Omega.{arith}
use lib.Dec.{eqb}
use lib.ListN.{get_or, set}
use borrow.Author.Tests.{eqb-true}
use Rattle.rules.specs.Base.{is_some}
use Rattle.rules.specs.Values.{Value, Known}
use Rattle.rules.specs.Rows.{Rule, Slots, blank, Held, part_of, enter, rows_there, Act, begin, complete}
use Rattle.rules.specs.Blocks.{file_table, range_table, base_table, elec_table, sym_table, later_table, file_tables, around, blank_held}
use Rattle.rules.proofs.Chains.{clash}
use Rattle.promises.proofs.Forms.{keys_ok}
use Rattle.promises.proofs.Good.{Always, GoodSlots, none0, is_one, GoodFile, GoodLater}
use Rattle.promises.proofs.InvRows.{Took, complete-at, open_at}
use Rattle.promises.proofs.InvParts.{HeldPart, part-seen, part-shut, part_open, part-closed, all_nameless, took-set, not-one, one_kept, other-kept, opened-by, inner-by, was-none, now-some}

-- ── FILE_FORMAT of the first volume ──
pub record Parts (p : ℕ) (own range base elec sym : Slots) : Type 0 where
  pub low : p ≤ 4
  pub own-good : GoodSlots (Always none0) file_table own
  pub range-good : HeldPart (not (eqb p 0)) (is_some (get_or own 0 None)) (Always none0) range_table range
  pub base-good : HeldPart (eqb p 2) (is_some (get_or range 0 None)) (Always none0) base_table base
  pub elec-good : HeldPart (eqb p 3) (is_one (get_or range 2 None)) (Always none0) elec_table elec
  pub sym-good : HeldPart (eqb p 4) (is_one (get_or range 5 None)) (Always none0) sym_table sym

pub record FirstInv (p : ℕ) (h : Held) : Type 0 where
  pub own : Slots
  pub range : Slots
  pub base : Slots
  pub elec : Slots
  pub sym : Slots
  pub is : h ≡ own ∷ range ∷ base ∷ elec ∷ sym ∷ []
  pub parts : Parts p own range base elec sym

first : {p : ℕ} {own range base elec sym : Slots} → Parts p own range base elec sym → FirstInv p (own ∷ range ∷ base ∷ elec ∷ sym ∷ [])
first {p} {own} {range} {base} {elec} {sym} f = record { own = own; range = range; base = base; elec = elec; sym = sym; is = refl; parts = f }

pub record LaterInv (p : ℕ) (h : Held) : Type 0 where
  pub own : Slots
  pub is : h ≡ own ∷ []
  pub low : p ≡ 0
  pub own-good : GoodSlots (Always none0) later_table own

abbrev pub FileInv : Bool → ℕ → Held → Type 0
FileInv true p h = FirstInv p h
FileInv false p h = LaterInv p h

abbrev pub FileGood : Bool → Held → Type 0
FileGood true h = GoodFile h
FileGood false h = GoodLater h

abbrev pub part_table : Bool → ℕ → List Rule
part_table b p = get_or (file_tables b) p []

pub file-start : (b : Bool) → FileInv b 0 (blank_held (file_tables b))
unfolding file_table range_table base_table elec_table sym_table later_table
file-start true = first (record { low = omega arith; own-good = tt; range-good = refl; base-good = refl; elec-good = refl; sym-good = refl })
file-start false = record { own = blank later_table; is = refl; low = refl; own-good = tt }

pub file-keys : (b : Bool) (p : ℕ) → keys_ok (part_table b p) ≡ true
unfolding file_table range_table base_table elec_table sym_table later_table
file-keys true zero = refl
file-keys true (suc zero) = refl
file-keys true (suc (suc zero)) = refl
file-keys true (suc (suc (suc zero))) = refl
file-keys true (suc (suc (suc (suc zero)))) = refl
file-keys true (suc (suc (suc (suc (suc p))))) = refl
file-keys false zero = refl
file-keys false (suc p) = refl

file-nameless : (b : Bool) (p : ℕ) → all_nameless (part_table b p) ≡ true
unfolding file_table range_table base_table elec_table sym_table later_table
file-nameless true zero = refl
file-nameless true (suc zero) = refl
file-nameless true (suc (suc zero)) = refl
file-nameless true (suc (suc (suc zero))) = refl
file-nameless true (suc (suc (suc (suc zero)))) = refl
file-nameless true (suc (suc (suc (suc (suc p))))) = refl
file-nameless false zero = refl
file-nameless false (suc p) = refl

parts-enter : {k : Known} {j : ℕ} {v : Value} {a : Act} (p : ℕ) (own range base elec sym : Slots) → Parts p own range base elec sym
    → Took k none0 (part_table true p) (rows_there (part_of (own ∷ range ∷ base ∷ elec ∷ sym ∷ []) p)) j v false a → FirstInv p (enter (own ∷ range ∷ base ∷ elec ∷ sym ∷ []) p j v)
unfolding file_table range_table
parts-enter {j = j} {v = v} zero own range base elec sym f w =
    first
    (record {
      low = omega arith;
      own-good = took-set own none0 (file-nameless true 0) w f.own-good;
      range-good = part-seen false (Always none0) range_table range (other-kept is_some own j 0 v (λ e. true≢false (opened-by w 0 e))) f.range-good;
      base-good = f.base-good;
      elec-good = f.elec-good;
      sym-good = f.sym-good;
    })
parts-enter {j = j} {v = v} (suc zero) own range base elec sym f w =
    first
    (record {
      low = omega arith;
      own-good = f.own-good;
      range-good = (took-set range none0 (file-nameless true 1) w f.range-good.0, f.range-good.1);
      base-good = part-seen false (Always none0) base_table base (other-kept is_some range j 0 v (λ e. true≢false (opened-by w 0 e))) f.base-good;
      elec-good = part-seen false (Always none0) elec_table elec (one_kept range 2 w f.range-good.0 (opened-by w 2)) f.elec-good;
      sym-good = part-seen false (Always none0) sym_table sym (one_kept range 5 w f.range-good.0 (opened-by w 5)) f.sym-good;
    })
parts-enter {j = j} {v = v} (suc (suc zero)) own range base elec sym f w =
    first
    (record {
      low = omega arith;
      own-good = f.own-good;
      range-good = f.range-good;
      base-good = (took-set base none0 (file-nameless true 2) w f.base-good.0, f.base-good.1);
      elec-good = f.elec-good;
      sym-good = f.sym-good;
    })
parts-enter {j = j} {v = v} (suc (suc (suc zero))) own range base elec sym f w =
    first
    (record {
      low = omega arith;
      own-good = f.own-good;
      range-good = f.range-good;
      base-good = f.base-good;
      elec-good = (took-set elec none0 (file-nameless true 3) w f.elec-good.0, f.elec-good.1);
      sym-good = f.sym-good;
    })
parts-enter {j = j} {v = v} (suc (suc (suc (suc zero)))) own range base elec sym f w =
    first
    (record {
      low = omega arith;
      own-good = f.own-good;
      range-good = f.range-good;
      base-good = f.base-good;
      elec-good = f.elec-good;
      sym-good = (took-set sym none0 (file-nameless true 4) w f.sym-good.0, f.sym-good.1);
    })
parts-enter (suc (suc (suc (suc (suc p))))) own range base elec sym f w = absurd (omega (arith, f.low))

parts-begin : {k : Known} {i j : ℕ} {v : Value} (p : ℕ) (own range base elec sym : Slots) → Parts p own range base elec sym
    → Took k none0 (part_table true p) (rows_there (part_of (own ∷ range ∷ base ∷ elec ∷ sym ∷ []) p)) j v true (begin i j v) → FirstInv i (enter (own ∷ range ∷ base ∷ elec ∷ sym ∷ []) p j v)
unfolding file_table range_table base_table elec_table sym_table
parts-begin {k} {i} {j} {v} zero own range base elec sym f w =
    let z = eqb-true j 0 (open_at (λ j. eqb j 0) w refl) in
    rw (inner-by w 0 z)
    (first
    (record {
      low = omega arith;
      own-good = took-set own none0 (file-nameless true 0) w f.own-good;
      range-good = (part_open (Always none0) range_table range (was-none own w 0 z) f.range-good, ap is_some (now-some (Always none0) own w f.own-good 0 z));
      base-good = f.base-good;
      elec-good = f.elec-good;
      sym-good = f.sym-good;
    }))
parts-begin {k} {i} {j} {v} (suc zero) own range base elec sym f w = go (eqb j 0) refl (eqb j 2) refl (eqb j 5) refl (open_at (λ j. eqb j 0 || (eqb j 2 || eqb j 5)) w refl)
  where
    good : GoodSlots (Always none0) range_table (set range j (Some v))
    good = took-set range none0 (file-nameless true 1) w f.range-good.0

    go : (a : Bool) → eqb j 0 ≡ a → (b : Bool) → eqb j 2 ≡ b → (c : Bool) → eqb j 5 ≡ c → (a || (b || c)) ≡ true → FirstInv i (own ∷ set range j (Some v) ∷ base ∷ elec ∷ sym ∷ [])
    go true x b y c q e =
        let z = eqb-true j 0 x in
        rw (inner-by w 0 z)
        (first
        (record {
          low = omega arith;
          own-good = f.own-good;
          range-good = (good, f.range-good.1);
          base-good = (part_open (Always none0) base_table base (was-none range w 0 z) f.base-good, ap is_some (now-some (Always none0) range w f.range-good.0 0 z));
          elec-good = part-seen false (Always none0) elec_table elec (other-kept is_one range j 2 v (λ e. omega arith)) f.elec-good;
          sym-good = part-seen false (Always none0) sym_table sym (other-kept is_one range j 5 v (λ e. omega arith)) f.sym-good;
        }))
    go false x true y c q e =
        let z = eqb-true j 2 y in
        rw (inner-by w 2 z)
        (first
        (record {
          low = omega arith;
          own-good = f.own-good;
          range-good = (good, f.range-good.1);
          base-good = part-seen false (Always none0) base_table base (other-kept is_some range j 0 v (λ e. omega arith)) f.base-good;
          elec-good =
              (part_open (Always none0) elec_table elec (not-one (get_or range 2 None) (was-none range w 2 z)) f.elec-good, ap is_one (now-some (Always none0) range w f.range-good.0 2 z) ∙ opened-by w 2 z);
          sym-good = part-seen false (Always none0) sym_table sym (other-kept is_one range j 5 v (λ e. omega arith)) f.sym-good;
        }))
    go false x false y true q e =
        let z = eqb-true j 5 q in
        rw (inner-by w 5 z)
        (first
        (record {
          low = omega arith;
          own-good = f.own-good;
          range-good = (good, f.range-good.1);
          base-good = part-seen false (Always none0) base_table base (other-kept is_some range j 0 v (λ e. omega arith)) f.base-good;
          elec-good = part-seen false (Always none0) elec_table elec (other-kept is_one range j 2 v (λ e. omega arith)) f.elec-good;
          sym-good =
              (part_open (Always none0) sym_table sym (not-one (get_or range 5 None) (was-none range w 5 z)) f.sym-good, ap is_one (now-some (Always none0) range w f.range-good.0 5 z) ∙ opened-by w 5 z);
        }))
    go false x false y false q e = clash e refl
parts-begin (suc (suc zero)) own range base elec sym f w = clash (open_at (λ j. false) w refl) refl
parts-begin (suc (suc (suc zero))) own range base elec sym f w = clash (open_at (λ j. false) w refl) refl
parts-begin (suc (suc (suc (suc zero)))) own range base elec sym f w = clash (open_at (λ j. false) w refl) refl
parts-begin (suc (suc (suc (suc (suc p))))) own range base elec sym f w = absurd (omega (arith, f.low))

-- an inner part closes
parts-shut : (p : ℕ) (own range base elec sym : Slots) → Parts (suc p) own range base elec sym → complete none0 (part_table true (suc p)) (rows_there (part_of (own ∷ range ∷ base ∷ elec ∷ sym ∷ []) (suc p))) ≡ true
    → Parts (around (suc p)) own range base elec sym
parts-shut zero own range base elec sym f e =
    record {
      low = omega arith;
      own-good = f.own-good;
      range-good = part-shut (is_some (get_or own 0 None)) (Always none0) range_table range f.range-good e;
      base-good = f.base-good;
      elec-good = f.elec-good;
      sym-good = f.sym-good;
    }
parts-shut (suc zero) own range base elec sym f e =
    record {
      low = omega arith;
      own-good = f.own-good;
      range-good = f.range-good;
      base-good = part-shut (is_some (get_or range 0 None)) (Always none0) base_table base f.base-good e;
      elec-good = f.elec-good;
      sym-good = f.sym-good;
    }
parts-shut (suc (suc zero)) own range base elec sym f e =
    record {
      low = omega arith;
      own-good = f.own-good;
      range-good = f.range-good;
      base-good = f.base-good;
      elec-good = part-shut (is_one (get_or range 2 None)) (Always none0) elec_table elec f.elec-good e;
      sym-good = f.sym-good;
    }
parts-shut (suc (suc (suc zero))) own range base elec sym f e =
    record {
      low = omega arith;
      own-good = f.own-good;
      range-good = f.range-good;
      base-good = f.base-good;
      elec-good = f.elec-good;
      sym-good = part-shut (is_one (get_or range 5 None)) (Always none0) sym_table sym f.sym-good e;
    }
parts-shut (suc (suc (suc (suc p)))) own range base elec sym f e = absurd (omega (arith, f.low))

-- all is closed
parts-good : (own range base elec sym : Slots) → Parts 0 own range base elec sym → complete none0 file_table (rows_there own) ≡ true → GoodFile (own ∷ range ∷ base ∷ elec ∷ sym ∷ [])
unfolding file_table range_table
parts-good own range base elec sym f e =
    let closed = part-closed (Always none0) range_table range (complete-at (Always none0) none0 file_table 0 own (omega arith) f.own-good e) f.range-good in
    record {
      own = own;
      range = range;
      base = base;
      elec = elec;
      sym = sym;
      is = refl;
      own-good = record { good = f.own-good; all = e };
      range-good = closed;
      base-good = part-closed (Always none0) base_table base (complete-at (Always none0) none0 range_table 0 range (omega arith) closed.good closed.all) f.base-good;
      elec-good = f.elec-good;
      sym-good = f.sym-good;
    }

-- ── FILE_FORMAT of any volume ──
later-enter : {k : Known} {j : ℕ} {v : Value} {a : Act} (p : ℕ) (own : Slots) → p ≡ 0 → GoodSlots (Always none0) later_table own
    → Took k none0 (part_table false p) (rows_there (part_of (own ∷ []) p)) j v false a → LaterInv p (enter (own ∷ []) p j v)
later-enter {j = j} {v = v} zero own z g w = record { own = set own j (Some v); is = refl; low = refl; own-good = took-set own none0 (file-nameless false 0) w g }
later-enter (suc p) own z g w = absurd (omega arith)

pub file-enter : {k : Known} {j : ℕ} {v : Value} {a : Act} (b : Bool) (p : ℕ) (h : Held) → FileInv b p h → Took k none0 (part_table b p) (rows_there (part_of h p)) j v false a → FileInv b p (enter h p j v)
file-enter {k} {j} {v} {a} true p h f w =
    (subst (λ (h : Held). Took k none0 (part_table true p) (rows_there (part_of h p)) j v false a → FirstInv p (enter h p j v)) (sym f.is)
    (parts-enter p f.own f.range f.base f.elec f.sym f.parts)) w
file-enter {k} {j} {v} {a} false p h f w =
    (subst (λ (h : Held). Took k none0 (part_table false p) (rows_there (part_of h p)) j v false a → LaterInv p (enter h p j v)) (sym f.is)
    (later-enter p f.own f.low f.own-good)) w

later-shut : {k : Known} {j : ℕ} {v : Value} {a : Act} {full : List Bool} (p : ℕ) → p ≡ 0 → Took k none0 (part_table false p) full j v true a → ⊥
unfolding later_table
later-shut zero z w = true≢false (sym (open_at (λ j. false) w refl))
later-shut (suc p) z w = omega arith

pub file-begin : {k : Known} {i j : ℕ} {v : Value} (b : Bool) (p : ℕ) (h : Held) → FileInv b p h → Took k none0 (part_table b p) (rows_there (part_of h p)) j v true (begin i j v) → FileInv b i (enter h p j v)
file-begin {k} {i} {j} {v} true p h f w =
    (subst (λ (h : Held). Took k none0 (part_table true p) (rows_there (part_of h p)) j v true (begin i j v) → FirstInv i (enter h p j v)) (sym f.is)
    (parts-begin p f.own f.range f.base f.elec f.sym f.parts)) w
file-begin false p h f w = absurd (later-shut p f.low w)

pub file-shut_in : (b : Bool) (p : ℕ) (h : Held) → FileInv b (suc p) h → complete none0 (part_table b (suc p)) (rows_there (part_of h (suc p))) ≡ true → FileInv b (around (suc p)) h
file-shut_in true p h f e =
    (subst (λ (h : Held). complete none0 (part_table true (suc p)) (rows_there (part_of h (suc p))) ≡ true → FirstInv (around (suc p)) h) (sym f.is)
    (λ e. first (parts-shut p f.own f.range f.base f.elec f.sym f.parts e))) e
file-shut_in false p h f e = absurd (omega (arith, f.low))

pub file-shut : (b : Bool) (h : Held) → FileInv b 0 h → complete none0 (part_table b 0) (rows_there (part_of h 0)) ≡ true → FileGood b h
file-shut true h f e =
    (subst (λ (h : Held). complete none0 file_table (rows_there (part_of h 0)) ≡ true → GoodFile h) (sym f.is) (parts-good f.own f.range f.base f.elec f.sym f.parts)) e
file-shut false h f e =
    record {
      own = f.own;
      is = f.is;
      own-good = record { good = f.own-good; all = subst (λ (h : Held). complete none0 later_table (rows_there (part_of h 0)) ≡ true) f.is e };
    }
