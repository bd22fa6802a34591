-- The host's number taken apart: a refusal's number is below 100 and its volume at most 12.
use Rattle.std.specs.Prelude.{Result, Ok, Err}
use Prim.Native.Nat.{ℕ, ◌+◌, ◌*◌, ◌/◌, ◌%◌, ◌≤◌, ◌<◌}
use mathlib.Core.Bool.{Bool, true, false}
use mathlib.Core.Path.{◌≡◌, refl, sym, ◌∙◌, ap}
use native.Mathlib.Omega.{arith}
use Rattle.rules.specs.declared.Refusal.{Refusal}
use Rattle.rules.specs.Spool.{most_volumes}
use Rattle.rules.specs.RecordTable.{width}
use Rattle.rules.specs.Answers.{read_answer, rewrite_answer, own_records, packed, check_answer}
use Rattle.promises.specs.DemandOne.{by_reader, by_rewriter, of_whole, Located, Answered, accepted_with, refused_with}
use Rattle.promises.specs.TakenApart.{refusal_in, Tells, TakenApart}
use Rattle.promises.proofs.Answered.{demand-one}

few-volumes : {whose : ℕ → Bool} (r : Refusal) → Located whose r → r.volume ≤ most_volumes
few-volumes r w = go (of_whole r.number) refl
  where
    go : (b : Bool) → of_whole r.number ≡ b → r.volume ≤ most_volumes
    go true e = omega (arith, (w.whole e).0)
    go false e = (w.in_volume e).1

-- three parts of a number
parts : (n v l : ℕ) → n < 100 → v < 100 → ◌≡◌ {A = Result ℕ Refusal} (Err (record { number = n; volume = v; line = l })) (Err (refusal_in (n + 100 * v + 10000 * l)))
parts n v l a b =
    let p = n + 100 * v + 10000 * l in
    let e : n ≡ p % 100 = omega arith in
    let hundreds : p / 100 ≡ v + 100 * l = omega arith in
    let f : v ≡ p / 100 % 100 = (let low : v ≡ (v + 100 * l) % 100 = omega arith in low ∙ ap (λ (i : ℕ). i % 100) (sym hundreds)) in
    let g : l ≡ p / 10000 = omega arith in
    ap (λ (i : ℕ). Err (record { number = i; volume = v; line = l })) e
    ∙ ap (λ (i : ℕ). Err (record { number = p % 100; volume = i; line = l })) f
    ∙ ap (λ (i : ℕ). Err (record { number = p % 100; volume = p / 100 % 100; line = i })) g

tells : (whose : ℕ → Bool) (a : Result ℕ Refusal) → Answered whose a → Tells (packed a) a
unfolding packed
tells whose (Ok n) (accepted_with _) = record { accepted = λ _. refl; refused = λ q. absurd (omega arith) }
tells whose (Err r) (refused_with _ w) =
    let v = few-volumes r w in
    record { accepted = λ q. absurd (omega (arith, q, w.least)); refused = λ _. parts r.number r.volume r.line (omega (arith, w.most)) (omega (arith, v)) }

pub taken-apart : TakenApart
unfolding check_answer
taken-apart = record {
  reader = λ class wire len spool. tells by_reader (read_answer class wire len spool) (demand-one.reader class wire len spool).answer;
  rewriter = λ len spool. tells by_rewriter (rewrite_answer len spool) (demand-one.rewriter len spool).answer;
  check = λ class wire spool. tells by_reader (read_answer class wire (own_records * width) spool) (demand-one.reader class wire (own_records * width) spool).answer;
}
