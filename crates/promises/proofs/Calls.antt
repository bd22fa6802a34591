-- Demand 3 of two calls of the reader, proved from its contract and the theorems of the demands.
use Rattle.std.specs.Prelude.{Ok}
use Prim.Native.Nat.{ℕ, ◌*◌, ◌-◌}
use mathlib.Core.List.{List, [], ◌∷◌, ◌++◌, append_assoc}
use mathlib.Core.Path.{◌≡◌, refl, sym, ◌∙◌, ap, ap₂}
use native.Mathlib.Omega.{arith}
use lib.IntN.{ℤ, pos}
use lib.ListN.{length, take, drop, replicate}
use lib.Seq.{take_at, drop_at}
use Rattle.rules.specs.Base.{flat}
use Rattle.rules.specs.Sets.{Set}
use Rattle.rules.specs.LineByLine.{Outcome, refused, accepted}
use Rattle.rules.specs.RecordTable.{width}
use Rattle.rules.specs.Answers.{answer_with, read_outcome, read_records, read_answer, read_table}
use Rattle.promises.specs.DemandOne.{Wide, no_record, one_more}
use Rattle.promises.specs.DemandThree.{lowered}
use Rattle.promises.specs.TableTexts.{first_records}
use Rattle.promises.specs.ReaderCalls.{laid, LowerCallAccepts, HigherCallRefuses}
use Rattle.promises.proofs.Answered.{demand-one}
use Rattle.promises.proofs.TwoClasses.{lower-accepts, higher-refuses}

-- an answer that accepts comes of a set that was read
pub accepted-set : (class wire len : ℕ) (spool : List ℕ) (n : ℕ) → read_answer class wire len spool ≡ Ok n → (s : Set) × (read_outcome class wire len spool ≡ accepted s)
unfolding read_answer
accepted-set class wire len spool n e = go (read_outcome class wire len spool) (length (read_records class wire len spool)) e
  where
    go : (o : Outcome) (k : ℕ) → answer_with k o ≡ Ok n → (s : Set) × (o ≡ accepted s)
    go (refused j v l) k e = absurd (let z : ◌≡◌ {A = ℕ} 0 1 = cc in omega arith)
    go (accepted s) k e = (s, refl)

-- the records of a table are the records that were laid into it
first_flat : (rs : List (List ℤ)) (z : List ℤ) → Wide rs → first_records (length rs) (flat rs ++ z) ≡ rs
first_flat [] z no_record = refl
first_flat (r ∷ rs) z (one_more e w) =
    let seam : flat (r ∷ rs) ++ z ≡ r ++ (flat rs ++ z) = append_assoc r (flat rs) z in
    ap₂ ◌∷◌ (ap (take width) seam ∙ take_at r (flat rs ++ z) width e)
    (ap (first_records (length rs)) (ap (drop width) seam ∙ drop_at r (flat rs ++ z) width e) ∙ first_flat rs z w)

pub table-records : (class wire len : ℕ) (spool : List ℕ) (n : ℕ) → read_answer class wire len spool ≡ Ok n → first_records n (read_table class wire len spool) ≡ read_records class wire len spool
table-records class wire len spool n e =
    let w = (demand-one.reader class wire len spool).when_accepted n e in
    ap₂ first_records (sym w.count) w.stands ∙ first_flat (read_records class wire len spool) _ w.wide

-- the two calls with one spool and one length
pub lower_call-accepts : LowerCallAccepts
lower_call-accepts lower higher two n e =
    let len = length higher.before in
    let s = higher.spool in
    let same = ap₂ (read_answer lower.class lower.wire) two.lengths two.spools in
    let high = sym higher.answers ∙ e in
    let (set, read) = accepted-set higher.class higher.wire len s n high in
    let (a, r) = lower-accepts lower.class lower.wire higher.class higher.wire two.low two.high two.classes len s set read in
    let shown = ap (first_records n) higher.fills ∙ table-records higher.class higher.wire len s n high in
    let size = ap length higher.fills ∙ (demand-one.reader higher.class higher.wire len s).size in
    record {
      set = set;
      reads = read;
      count = length (lowered two.low set (read_records higher.class higher.wire len s));
      counts = ap (λ rs. length (lowered two.low set rs)) (sym shown);
      answer = lower.answers ∙ same ∙ a;
      table =
          lower.fills ∙ ap₂ (read_table lower.class lower.wire) two.lengths two.spools
          ∙ ((demand-one.reader lower.class lower.wire len s).when_accepted _ a).stands
          ∙ ap (λ rs. flat rs ++ replicate (len - length (lowered two.low set (read_records higher.class higher.wire len s)) * width) (pos 0)) r
          ∙ ap₂ (λ m rs. laid m (lowered two.low set rs)) (sym size) (sym shown);
    }

pub higher_call-refuses : HigherCallRefuses
higher_call-refuses lower higher two r e =
    let len = length higher.before in
    let s = higher.spool in
    let low = sym (ap₂ (read_answer lower.class lower.wire) two.lengths two.spools) ∙ sym lower.answers ∙ e in
    let (q, a, p) = higher-refuses lower.class lower.wire higher.class higher.wire two.low two.high two.classes len s r low in
    record {
      refusal = q;
      answer = higher.answers ∙ a;
      place = p;
      table =
          higher.fills ∙ (demand-one.reader higher.class higher.wire len s).when_refused q a
          ∙ sym ((demand-one.reader lower.class lower.wire len s).when_refused r low)
          ∙ sym (lower.fills ∙ ap₂ (read_table lower.class lower.wire) two.lengths two.spools);
    }
