-- The rewriter's answer and the output on return, by what the judging and the writing come to.
use Rattle.std.specs.Prelude.{Result, Ok, Err}
use Prim.Native.Nat.{ℕ, ◌-◌, ◌≤◌}
use mathlib.Core.Bool.{Bool, true, false, cond}
use mathlib.Core.List.{List, ◌++◌}
use mathlib.Core.Path.{◌≡◌, refl, sym, ◌∙◌, ap, ap₂}
use native.Mathlib.Omega.{arith}
use lib.Dec.{leb}
use lib.ListN.{length, take, replicate}
use borrow.Author.Tests.{leb-true}
use Rattle.rules.specs.declared.Refusal.{Refusal}
use Rattle.rules.specs.Spool.{most_bytes}
use Rattle.rules.specs.LineByLine.{Outcome, accepted}
use Rattle.rules.specs.Answers.{answer_with, refusal, rewrite_outcome, written, fit_output, rewrite_answer, rewrite_output}
use Rattle.promises.proofs.Answered.{demand-one}
use Rattle.promises.proofs.Round.{written_back}
use Rattle.lines.proofs.VolumePlaces.{volumes-laid}
use Rattle.volumes.specs.Volumes.{Fronts, SetPromise}
use Rattle.prints.specs.Printing.{Within}
use Rattle.pens.proofs.Behind.{full-not}
use Rattle.volumes.proofs.LentOutput.{lent, back, lent-long, back_is}
use Rattle.volumes.proofs.SetWalk.{accepted-so}
use Rattle.sets.specs.SetReading.{IsAccepted, Judged}
use Rattle.leaves.specs.declared.NoRoom.{NoRoom}
use Rattle.leaves.specs.NoRoom.{no_room}

module _ (len : ℕ) (spool : List ℕ) where
  -- what is answered, and what the output holds
  abbrev pub Rewrites : Result ℕ Refusal → List ℕ → Type 0
  Rewrites a out = (a ≡ rewrite_answer len spool) × (out ≡ rewrite_output len spool)

  answer_of : (o : Outcome) → rewrite_outcome spool ≡ o → rewrite_answer len spool ≡ fit_output len (length (written spool)) (answer_with (length (written spool)) o)
  unfolding rewrite_answer
  answer_of o e = ap (λ (x : Outcome). fit_output len (length (written spool)) (answer_with (length (written spool)) x)) e

  refused-so : (r : Refusal) (out : List ℕ) → rewrite_answer len spool ≡ Err r → out ≡ replicate len 0 → Rewrites (Err r) out
  refused-so r out e h = (sym e, h ∙ sym ((demand-one.rewriter len spool).when_refused r e))

  -- the spool is refused
  pub rewrites-refused : (f : Refusal) (out : List ℕ) → Judged spool (Err f) → out ≡ replicate len 0 → Rewrites (Err f) out
  rewrites-refused f out j h = refused-so f out (answer_of _ j) h

  module _ (yes : IsAccepted spool) where
    accepts : rewrite_answer len spool ≡ cond (leb (length (written spool)) len) (Ok (length (written spool))) (refusal 20 0 0)
    accepts = answer_of (accepted yes.0) yes.1

-- an accepted spool, behind the writing
module _ (spool before after : List ℕ) (r : Result ℕ NoRoom) (yes : IsAccepted spool) (within : Within before after r) (promise : SetPromise spool before after r) where
  abbrev len : ℕ
  len = length before

  abbrev text : List ℕ
  text = written spool

  fronts : Fronts text before after r
  fronts = promise yes.0 yes.1

  -- it does not fit
  pub rewrites-full : r ≡ Err no_room → (out : List ℕ) → out ≡ replicate (length after) 0 → Rewrites len spool (refusal 20 0 0) out
  rewrites-full e out h =
      refused-so len spool _ out (accepts len spool yes ∙ ap (λ (b : Bool). cond b (Ok (length text)) (refusal 20 0 0)) (go (leb (length text) len) (sym e ∙ fronts.answer))) (h ∙ ap (λ (m : ℕ). replicate m 0) within.long)
    where
      go : (b : Bool) → (Err no_room) ≡ cond b (Ok (length text)) (Err no_room) → b ≡ false
      go true q = full-not q
      go false q = refl

  module _ (n : ℕ) (e : r ≡ Ok n) where
    wrote : (leb (length text) len ≡ true) × (n ≡ length text)
    wrote = go (leb (length text) len) (sym e ∙ fronts.answer)
      where
        go : (b : Bool) → Ok n ≡ cond b (Ok (length text)) (Err no_room) → (b ≡ true) × (n ≡ length text)
        go true q = (refl, cc)
        go false q = full-not (sym q)

    pub wrote-inside : n ≤ length after
    wrote-inside = omega (arith, within.within n e, within.long)

    -- the fixed form is no longer than the spool
    pub wrote-few : n ≤ most_bytes
    wrote-few =
        let a = accepted-so spool yes.0 yes.1 in
        omega (arith, wrote.1, (written_back spool yes.0 yes.1).no_longer, (volumes-laid spool a.volumes a.are).spool)

    -- what is behind it is cleared
    pub rewrites-accepted : (rest : List ℕ) → rest ≡ replicate (length (lent n after wrote-inside)) 0 → Rewrites len spool (Ok n) (back n after wrote-inside rest)
    rewrites-accepted rest h =
        let (fits, size) = wrote in
        let is : rewrite_answer len spool ≡ Ok n =
        accepts len spool yes ∙ ap (λ (b : Bool). cond b (Ok (length text)) (refusal 20 0 0)) fits ∙ ap Ok (sym size) in
        let front : take n after ≡ text = ap (λ (m : ℕ). take m after) size ∙ fronts.memory (leb-true (length text) len fits) in
        let zeros : rest ≡ replicate (len - n) 0 = h ∙ ap (λ (m : ℕ). replicate m 0) (lent-long n after wrote-inside ∙ ap (λ (m : ℕ). m - n) within.long) in
        (sym is, back_is n after wrote-inside rest ∙ ap₂ ◌++◌ front zeros ∙ sym ((demand-one.rewriter len spool).when_accepted n is).stands)
