-- Demand 3, proved.
use Rattle.std.specs.Prelude.{Option, Some, None, Ok, Err}
use Prim.Native.Nat.{ℕ, zero, suc, ◌/◌, ◌%◌, ◌≤◌}
use mathlib.Core.Bool.{Bool, true, false, ◌&&◌, ◌||◌, not}
use mathlib.Core.List.{List, [], ◌∷◌}
use mathlib.Core.Path.{◌≡◌, refl, sym, ◌∙◌, ap, subst}
use native.Mathlib.Omega.{arith}
use lib.Dec.{eqb, leb}
use lib.ListN.{length}
use borrow.Author.Tests.{eqb-true, eqb-false, ne_eqb, leb-true, le-leb}
use Rattle.rules.specs.declared.Class.{Class}
use Rattle.rules.specs.declared.Refusal.{Refusal}
use Rattle.rules.specs.Spool.{Volume, volumes_of}
use Rattle.rules.specs.Base.{within}
use Rattle.rules.specs.RangeClass.{digits_of, is_symbol_part, is_wire_part, class_of, knows_wires, knows_serials}
use Rattle.rules.specs.Sets.{Set, nothing_yet}
use Rattle.rules.specs.Machine.{limited_to, Env, top}
use Rattle.rules.specs.LineByLine.{Outcome, refused, accepted}
use Rattle.rules.specs.RecordTable.{width, records_of}
use Rattle.rules.specs.Answers.{Listed, listed, no_lines, list_volumes, outcome_of_lines, outcome_of_volumes, outcome_of, answer_with, refusal, read_outcome, read_records, read_answer}
use Rattle.rules.proofs.Chains.{and_left, and_right, and_false, clash, cond-some}
use Rattle.rules.proofs.Runs.{not-accepted}
use Rattle.promises.specs.DemandThree.{ClassNotAbove, lowered, LowerAccepts, HigherRefuses}
use Rattle.promises.proofs.Frame.{volumes_inv}
use Rattle.promises.proofs.Lower.{lower_set}
use Rattle.promises.proofs.LowerKinds.{Rows}
use Rattle.promises.proofs.LowerRecords.{Agree, records-lower}
use Rattle.promises.proofs.LowerRun.{not_after, not_after_refl, beside-start, sim-run, refused_too}
use Rattle.promises.proofs.Listing.{lines-whole, lines-proper}

module _ (low high : Class) (le : ClassNotAbove low high) (reads : knows_serials low.wires ≡ true → knows_wires low ≡ true) (m : ℕ) where
  abbrev lo : Env
  lo = limited_to low m

  abbrev hi : Env
  hi = limited_to high m

  abbrev AcceptedToo : Outcome → Set → Type 0
  AcceptedToo o s = (took : ℕ) × (o ≡ accepted (lower_set took low s)) × Rows s

  accepts : (o : Option (List Volume)) (s : Set) → outcome_of_volumes hi o ≡ accepted s → AcceptedToo (outcome_of_volumes lo o) s
  accepts None s e = not-accepted e
  accepts (Some vs) s e = go (list_volumes 1 vs) e
    where
      go : (l : Listed) → outcome_of_lines hi l ≡ accepted s → AcceptedToo (outcome_of_lines lo l) s
      go (listed ls) e = sim-run low high le reads m ls 0 (top nothing_yet 0) s (beside-start low high le reads m) e
      go (no_lines v) e = not-accepted e

  abbrev There : Outcome → ℕ → ℕ → Type 0
  There o v n = (k' : ℕ) × (v' : ℕ) × (n' : ℕ) × (o ≡ refused k' v' n') × (not_after v' n' v n ≡ true)

  -- a refusal that both give
  both : (o : Outcome) (k v n : ℕ) → o ≡ refused k v n → There o v n
  both o k v n e = (k, v, n, e, not_after_refl v n)

  refuses : (spool : List ℕ) (k v n : ℕ) → outcome_of_volumes lo (volumes_of spool) ≡ refused k v n → There (outcome_of_volumes hi (volumes_of spool)) v n
  refuses spool k v n e = go (volumes_of spool) refl e
    where
      by : (vs : List Volume) → volumes_of spool ≡ Some vs → (l : Listed) → list_volumes 1 vs ≡ l → outcome_of_lines lo l ≡ refused k v n → There (outcome_of_lines hi l) v n
      by [] p l q e = absurd (let w = volumes_inv spool [] p in omega (arith, w.one))
      by (u ∷ vs) p (no_lines w) q e = both (refused 3 w 0) k v n e
      by (u ∷ vs) p (listed ls) q e = refused_too low high le reads m ls 0 (top nothing_yet 0) (beside-start low high le reads m) (lines-proper 1 u vs ls q) (lines-whole 0 (u ∷ vs) ls q).sorted k v n e

      go : (o : Option (List Volume)) → volumes_of spool ≡ o → outcome_of_volumes lo o ≡ refused k v n → There (outcome_of_volumes hi o) v n
      go None p e = both (refused 2 0 0) k v n e
      go (Some vs) p e = by vs p (list_volumes 1 vs) refl e

-- ── the answers ──
pub taken : (len : ℕ) (spool : List ℕ) (class wire : ℕ) (c : Class) (s : Set) → class_of class wire ≡ Some c → read_outcome class wire len spool ≡ accepted s
    → (read_records class wire len spool ≡ records_of c s) × (read_answer class wire len spool ≡ Ok (length (records_of c s)))
unfolding read_records read_answer
taken len spool class wire c s p e = (rw (e, p), rw (e, p))

pub outcome-at : (len : ℕ) (spool : List ℕ) (class wire : ℕ) (c : Class) → class_of class wire ≡ Some c
    → read_outcome class wire len spool ≡ outcome_of_volumes (limited_to c (len / width)) (volumes_of spool)
unfolding read_outcome outcome_of
outcome-at len spool class wire c p = rw p

-- a listed class knows wires where its wire part isn't 0: no listed part has the last digit 0 but 0
part-digits : (w : ℕ) → is_wire_part w ≡ true → w % 10 ≡ 0 → w / 10 % 10 ≡ 0
part-digits w e z = go (within 0 8 w) refl (within 11 18 w) refl e
  where
    go : (a : Bool) → within 0 8 w ≡ a → (b : Bool) → within 11 18 w ≡ b → (a || b) ≡ true → w / 10 % 10 ≡ 0
    go true p b q e = let h = leb-true w 8 (and_right (leb 0 w) _ p) in omega (arith, h)
    go false p true q e =
        let h = leb-true 11 w (and_left (leb 11 w) _ q) in
        let i = leb-true w 18 (and_right (leb 11 w) _ q) in
        absurd (omega (arith, h, i, z))
    go false p false q e = clash e refl

digits-agree : (c : Class) → (c.wires.last ≡ 0 → c.wires.middle ≡ 0) → Agree c
digits-agree c h = go (eqb c.wires.last 0) refl
  where
    go : (b : Bool) → eqb c.wires.last 0 ≡ b → Agree c
    go true e =
        let z = eqb-true c.wires.last 0 e in
        rw (z, h z)
    go false e = rw (e, le-leb 0 c.wires.middle (omega arith), le-leb 1 c.wires.last (pos-one c.wires.last (eqb-false c.wires.last 0 e))) (and_false (eqb c.wires.middle 0))
      where
        pos-one : (n : ℕ) → (n ≡ 0 → ⊥) → 1 ≤ n
        pos-one zero f = absurd (f refl)
        pos-one (suc n) f = omega arith

listed-agrees : (class wire : ℕ) (c : Class) → class_of class wire ≡ Some c → Agree c
unfolding class_of
listed-agrees class wire c e =
    let (p, q) = cond-some (is_symbol_part class && is_wire_part wire) (record { symbols = digits_of class; wires = digits_of wire }) c e in
    digits-agree c (subst (λ (k : Class). k.wires.last ≡ 0 → k.wires.middle ≡ 0) q (part-digits wire (and_right (is_symbol_part class) _ p)))

-- so it knows wires where it knows their serials
serials-read : (c : Class) → Agree c → knows_serials c.wires ≡ true → knows_wires c ≡ true
serials-read c agree e = not-not (knows_wires c) (sym agree ∙ rw (ne_eqb c.wires.middle 0 (λ z. let h = leb-true 1 c.wires.middle (and_left (leb 1 c.wires.middle) _ e) in omega (arith, h, z))))
  where
    not-not : (b : Bool) → not b ≡ false → b ≡ true
    not-not true e = refl
    not-not false e = clash refl e

pub lower-accepts : LowerAccepts
lower-accepts lo lo_wire hi hi_wire low high cs len spool set e =
    let m = len / width in
    let agree = listed-agrees lo lo_wire low cs.lower in
    let up = outcome-at len spool hi hi_wire high cs.higher in
    let (took, p, rows) = accepts low high cs.below (serials-read low agree) m (volumes_of spool) set (sym up ∙ e) in
    let down = outcome-at len spool lo lo_wire low cs.lower ∙ p in
    let a = taken len spool hi hi_wire high set cs.higher e in
    let b = taken len spool lo lo_wire low (lower_set took low set) cs.lower down in
    let r = records-lower low high cs.below agree took set rows ∙ ap (lowered low set) (sym a.0) in
    (b.1 ∙ ap (λ rs. Ok (length rs)) r, b.0 ∙ r)

-- an answer that refuses comes of an outcome that refuses
refused_inv : (len : ℕ) (spool : List ℕ) (class wire : ℕ) (r : Refusal) → read_answer class wire len spool ≡ Err r → read_outcome class wire len spool ≡ refused r.number r.volume r.line
unfolding read_answer
refused_inv len spool class wire r e = go (read_outcome class wire len spool) (length (read_records class wire len spool)) e
  where
    go : (o : Outcome) (n : ℕ) → answer_with n o ≡ Err r → o ≡ refused r.number r.volume r.line
    go (refused k v l) n e = let z : record { number = k; volume = v; line = l } ≡ r = cc in ap (λ (q : Refusal). refused q.number q.volume q.line) z
    go (accepted s) n e = absurd (let z : ◌≡◌ {A = ℕ} 0 1 = cc in omega arith)

refused_of : (len : ℕ) (spool : List ℕ) (class wire k v n : ℕ) → read_outcome class wire len spool ≡ refused k v n → read_answer class wire len spool ≡ refusal k v n
unfolding read_answer
refused_of len spool class wire k v n e = rw e

pub higher-refuses : HigherRefuses
higher-refuses lo lo_wire hi hi_wire low high cs len spool r e =
    let m = len / width in
    let down = sym (outcome-at len spool lo lo_wire low cs.lower) ∙ refused_inv len spool lo lo_wire r e in
    let (k, v, n, p, q) = refuses low high cs.below (serials-read low (listed-agrees lo lo_wire low cs.lower)) m spool r.number r.volume r.line down in
    (record { number = k; volume = v; line = n }, refused_of len spool hi hi_wire k v n (outcome-at len spool hi hi_wire high cs.higher ∙ p), q)
