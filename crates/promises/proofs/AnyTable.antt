-- What is read at class 15 with a table is read without one, and with every other in which the records fit.
use Rattle.std.specs.Prelude.{Option, Some, None}
use Prim.Native.Nat.{ℕ, ◌*◌, ◌/◌, ◌≤◌}
use mathlib.Core.List.{List}
use mathlib.Core.Path.{◌≡◌, refl, sym, ◌∙◌}
use native.Mathlib.Omega.{arith}
use lib.ListN.{length}
use Rattle.rules.specs.Spool.{Volume, volumes_of}
use Rattle.rules.specs.RangeClass.{class_of}
use Rattle.rules.specs.Sets.{Set, nothing_yet}
use Rattle.rules.specs.Machine.{limited_to, Env, top}
use Rattle.rules.specs.LineByLine.{accepted}
use Rattle.rules.specs.RecordTable.{width, records_of}
use Rattle.rules.specs.Answers.{Listed, listed, no_lines, list_volumes, outcome_of_lines, outcome_of_volumes, outcome_of, read_outcome, full_class, rewrite_outcome, full_number, full_wire}
use Rattle.rules.proofs.Runs.{not-accepted}
use Rattle.promises.proofs.BackSlots.{plain_env}
use Rattle.promises.proofs.Limits.{limit-lift, limit-drop, taken-counts}
use Rattle.promises.proofs.TwoClasses.{outcome-at}

pub rewrite-is : (spool : List ℕ) → rewrite_outcome spool ≡ outcome_of_volumes plain_env (volumes_of spool)
unfolding rewrite_outcome outcome_of
rewrite-is spool = refl

pub class15 : class_of full_number full_wire ≡ Some full_class
unfolding class_of
class15 = refl

module _ (m : ℕ) (s : Set) where
  abbrev limited : Env
  limited = limited_to full_class m

  lift-volumes : (o : Option (List Volume)) → outcome_of_volumes plain_env o ≡ accepted s → length (records_of full_class s) ≤ m → outcome_of_volumes limited o ≡ accepted s
  lift-volumes None e h = not-accepted e
  lift-volumes (Some vs) e h = go (list_volumes 1 vs) e
    where
      go : (l : Listed) → outcome_of_lines plain_env l ≡ accepted s → outcome_of_lines limited l ≡ accepted s
      go (listed ls) e = limit-lift full_class m ls (top nothing_yet 0) s e (omega (arith, taken-counts full_class full_class None ls s e, h))
      go (no_lines v) e = not-accepted e

  drop-volumes : (o : Option (List Volume)) → outcome_of_volumes limited o ≡ accepted s → outcome_of_volumes plain_env o ≡ accepted s
  drop-volumes None e = not-accepted e
  drop-volumes (Some vs) e = go (list_volumes 1 vs) e
    where
      go : (l : Listed) → outcome_of_lines limited l ≡ accepted s → outcome_of_lines plain_env l ≡ accepted s
      go (listed ls) e = limit-drop full_class m ls (top nothing_yet 0) s e
      go (no_lines v) e = not-accepted e

-- a set whose records fit a table is read with it
pub fits-table : (len : ℕ) (spool : List ℕ) (s : Set) → rewrite_outcome spool ≡ accepted s → length (records_of full_class s) * width ≤ len → read_outcome full_number full_wire len spool ≡ accepted s
fits-table len spool s e h =
    outcome-at len spool full_number full_wire full_class class15 ∙ lift-volumes (len / width) s (volumes_of spool) (sym (rewrite-is spool) ∙ e) (omega (arith, h))

-- a set that is read with a table is read without
pub any-table : (len : ℕ) (spool : List ℕ) (s : Set) → read_outcome full_number full_wire len spool ≡ accepted s → rewrite_outcome spool ≡ accepted s
any-table len spool s e = rewrite-is spool ∙ drop-volumes (len / width) s (volumes_of spool) (sym (outcome-at len spool full_number full_wire full_class class15) ∙ e)
