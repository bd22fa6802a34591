-- An accepted spool: its class, its records, and what is kept of its figures.
use Rattle.std.specs.Prelude.{Option, Some, None}
use Prim.Native.Nat.{ℕ, ◌/◌}
use mathlib.Core.List.{List}
use mathlib.Core.Path.{◌≡◌, refl, sym, ◌∙◌}
use Rattle.rules.specs.declared.Class.{Class}
use Rattle.rules.specs.RangeClass.{class_of}
use Rattle.rules.specs.Sets.{Set}
use Rattle.rules.specs.Machine.{limited_to}
use Rattle.rules.specs.LineByLine.{accepted}
use Rattle.rules.specs.RecordTable.{width, records_of}
use Rattle.rules.specs.Answers.{read_outcome, read_records}
use Rattle.rules.proofs.Runs.{not-accepted}
use Rattle.promises.proofs.FigureSteps.{Sound, accepted-sound}
use Rattle.promises.proofs.FitSets.{AnyText, FitSet}
use Rattle.promises.proofs.Fits.{accepted_any}
use Rattle.promises.proofs.Parsed.{parsed}
use Rattle.promises.proofs.ShownTexts.{no-class}
use Rattle.promises.proofs.Sizes.{listing}
use Rattle.promises.proofs.TwoClasses.{taken, outcome-at}

pub record ReadSound (class wire len : ℕ) (spool : List ℕ) (s : Set) : Type 0 where
  pub at : Class
  pub listed : class_of class wire ≡ Some at
  pub records : read_records class wire len spool ≡ records_of at s
  pub fits : FitSet AnyText s
  pub sound : Sound (limited_to at (len / width)) s

pub read-sound : (class wire len : ℕ) (spool : List ℕ) (s : Set) → read_outcome class wire len spool ≡ accepted s → ReadSound class wire len spool s
read-sound class wire len spool s e = go (class_of class wire) refl
  where
    go : (o : Option Class) → class_of class wire ≡ o → ReadSound class wire len spool s
    go None p = not-accepted (sym (no-class len spool class wire p) ∙ e)
    go (Some c) p =
        let env = limited_to c (len / width) in
        let h = parsed env spool s (sym (outcome-at len spool class wire c p) ∙ e) in
        let ls = listing 1 h.volumes h.texts in
        record { at = c; listed = p; records = (taken len spool class wire c s p e).0; fits = accepted_any env ls s h.runs; sound = accepted-sound env ls s h.runs }
