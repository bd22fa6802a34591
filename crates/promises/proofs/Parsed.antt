-- A spool that was read: its volumes, their lines, and the run over them.
use Rattle.std.specs.Prelude.{Option, Some, None}
use Prim.Native.Nat.{ℕ}
use mathlib.Core.List.{List}
use mathlib.Core.Path.{◌≡◌, refl, sym, ◌∙◌, ap}
use Rattle.rules.specs.Spool.{Volume, volumes_of}
use Rattle.rules.specs.Sets.{Set, nothing_yet}
use Rattle.rules.specs.Machine.{Env, top}
use Rattle.rules.specs.LineByLine.{accepted, run}
use Rattle.rules.specs.FixedForm.{Text}
use Rattle.rules.specs.Answers.{Listed, listed, no_lines, list_volumes, outcome_of_lines, outcome_of_volumes}
use Rattle.rules.proofs.Runs.{not-accepted}
use Rattle.promises.proofs.Sizes.{listing, Texts, listing_inv, listing_of}

pub record Parsed (e : Env) (spool : List ℕ) (s : Set) : Type 0 where
  pub volumes : List Volume
  pub found : volumes_of spool ≡ Some volumes
  pub texts : List Text
  pub theirs : Texts volumes texts
  pub runs : run e (top nothing_yet 0) (listing 1 volumes texts) ≡ accepted s

pub parsed : (e : Env) (spool : List ℕ) (s : Set) → outcome_of_volumes e (volumes_of spool) ≡ accepted s → Parsed e spool s
parsed e spool s h = go (volumes_of spool) refl h
  where
    by : (vs : List Volume) → volumes_of spool ≡ Some vs → (l : Listed) → list_volumes 1 vs ≡ l → outcome_of_lines e l ≡ accepted s → Parsed e spool s
    by vs p (listed ls) q h =
        let i = listing_inv 1 vs ls q in
        record { volumes = vs; found = p; texts = i.texts; theirs = i.theirs; runs = ap (run e (top nothing_yet 0)) (sym i.are) ∙ h }
    by vs p (no_lines v) q h = not-accepted h

    go : (o : Option (List Volume)) → volumes_of spool ≡ o → outcome_of_volumes e o ≡ accepted s → Parsed e spool s
    go None p h = not-accepted h
    go (Some vs) p h = by vs p (list_volumes 1 vs) refl h

-- a spool with these volumes and texts is read by their listing
pub reading : (e : Env) (spool : List ℕ) (vs : List Volume) (ts : List Text) → volumes_of spool ≡ Some vs → Texts vs ts
    → outcome_of_volumes e (volumes_of spool) ≡ run e (top nothing_yet 0) (listing 1 vs ts)
reading e spool vs ts p h = ap (outcome_of_volumes e) p ∙ ap (outcome_of_lines e) (listing_of 1 vs ts h)
