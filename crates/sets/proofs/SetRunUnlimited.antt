-- No spool has so many records as the rewriter counts to: the reading is that without a limit.
use Rattle.std.specs.Prelude.{Option, Some, None, Result, Ok, Err}
use Prim.Native.Nat.{ℕ, zero, suc, ◌+◌, ◌*◌, ◌≤◌}
use mathlib.Core.List.{List, [], ◌∷◌}
use mathlib.Core.Path.{◌≡◌, refl, sym, ◌∙◌, ap}
use native.Mathlib.Omega.{arith}
use lib.IntN.{ℤ}
use lib.ListN.{length}
use Rattle.rules.specs.declared.Class.{Class}
use Rattle.rules.specs.RefusalNumbers.{Got}
use Rattle.rules.specs.Sets.{nothing_yet}
use Rattle.rules.specs.Spool as P
use Rattle.rules.specs.Spool.{volumes_of}
use Rattle.rules.specs.Machine.{Line, State, set_of, top, unlimited, limited_to}
use Rattle.rules.specs.LineByLine.{then_run, run}
use Rattle.rules.specs.Answers.{full_class, outcome_of_volumes, outcome_of, rewrite_outcome}
use Rattle.rules.proofs.Chains.{On}
use Rattle.promises.proofs.Limits.{Alike, refuses, goes, over, alike-step}
use Rattle.lines.specs.VolumePlaces.{layout_of}
use Rattle.lines.specs.LineEnds.{first_unsound}
use Rattle.lines.proofs.VolumePlaces.{volumes-laid}
use Rattle.lines.proofs.VolumesSeen.{lines_over, sound-volumes}
use Rattle.sets.specs.SetReading.{SetOut, most_records, Judged}
use Rattle.sets.proofs.SetRunTaken.{taken_in, Few, few-step}
use Rattle.sets.proofs.SetRunVolumes.{volumes_grow, over-few}
use Rattle.sets.proofs.SetRun.{outcome-is, outcome_unsound, outcome-lined}
use Rattle.rules.specs.declared.Refusal.{Refusal}

-- a limit that leaves each line room for two records is never reached
same-run : (c : Class) (m : ℕ) (st : State) (ls : List Line) → taken_in st + 2 * length ls ≤ m → run (limited_to c m) st ls ≡ run (unlimited c) st ls
same-run c m st [] h = refl
same-run c m st (l ∷ ls) h = go (alike-step c m l st) (few-step (unlimited c) l st) (λ u g. same-run c m u ls g)
  where
    go : {g g' : Got State} → Alike m (set_of st).taken g g' → On (Few (unlimited c) l (set_of st)) g → ((u : State) → taken_in u + 2 * length ls ≤ m → run (limited_to c m) u ls ≡ run (unlimited c) u ls)
        → then_run g' l (λ u. run (limited_to c m) u ls) ≡ then_run g l (λ u. run (unlimited c) u ls)
    go refuses w ih = refl
    go (goes u p r) w ih = ih u (omega (arith, w, h))
    go (over u p r) w ih = absurd (omega (arith, w, h, r))

-- ── a spool ──
judge-same : (c : Class) (spool : List ℕ) → outcome_of (limited_to c most_records) spool ≡ outcome_of (unlimited c) spool
judge-same c spool = by-volumes (volumes_of spool) refl
  where
    by-volumes : (o : Option (List P.Volume)) → volumes_of spool ≡ o → outcome_of (limited_to c most_records) spool ≡ outcome_of (unlimited c) spool
    by-volumes None z =
        outcome-is (limited_to c most_records) spool ∙ ap (outcome_of_volumes (limited_to c most_records)) z ∙ sym (outcome-is (unlimited c) spool ∙ ap (outcome_of_volumes (unlimited c)) z)
    by-volumes (Some vs) z = by-sound (first_unsound spool (layout_of (volumes_of spool))) refl
      where
        by-sound : (n : ℕ) → first_unsound spool (layout_of (volumes_of spool)) ≡ n → outcome_of (limited_to c most_records) spool ≡ outcome_of (unlimited c) spool
        by-sound zero q =
            let h = sound-volumes spool vs z q in
            let y = volumes-laid spool vs z in
            let b : 0 + 2 * length (lines_over 1 vs h) ≤ length spool + 2 * length vs = over-few spool 1 0 vs h y.placed (volumes_grow spool vs z) (omega arith) in
            outcome-lined (limited_to c most_records) spool vs z h ∙ same-run c most_records (top nothing_yet 0) (lines_over 1 vs h) (omega (arith, b, y.few, y.spool)) ∙ sym (outcome-lined (unlimited c) spool vs z h)
        by-sound (suc n) q = outcome_unsound (limited_to c most_records) spool vs z n q ∙ sym (outcome_unsound (unlimited c) spool vs z n q)

pub judge-is : (spool : List ℕ) → rewrite_outcome spool ≡ outcome_of (limited_to full_class most_records) spool
unfolding rewrite_outcome
judge-is spool = sym (judge-same full_class spool)

-- what the reading of the set says of it
pub judged : (spool : List ℕ) (t₀ t₁ : List ℤ) (r : Result ℕ Refusal) → SetOut full_class spool most_records t₀ t₁ r → Judged spool r
judged spool t₀ t₁ (Ok n) o = let (s, p, m, u) = o in (s, judge-is spool ∙ p)
judged spool t₀ t₁ (Err f) o = judge-is spool ∙ o
