-- The records of an accepted spool point at the texts that its set keeps.
use Rattle.std.specs.Prelude.{Option, Some, None}
use Prim.Native.Nat.{ℕ, ◌+◌, ◌/◌}
use mathlib.Core.List.{List, [], ◌∷◌, ◌++◌, map, append_assoc}
use mathlib.Core.Path.{◌≡◌, refl, sym, ◌∙◌, ap, ap₂, subst}
use lib.IntN.{ℤ}
use lib.ListN.{length, take, drop, length-append}
use lib.Seq.{take_at, drop_at}
use Rattle.rules.specs.declared.Class.{Class}
use Rattle.rules.specs.Spool.{volumes_of}
use Rattle.rules.specs.RangeClass.{class_of}
use Rattle.rules.specs.Sets.{Set}
use Rattle.rules.specs.Machine.{Env, limited_to}
use Rattle.rules.specs.LineByLine.{refused, accepted}
use Rattle.rules.specs.RecordTable.{width, records_of}
use Rattle.rules.specs.Answers.{outcome_of_volumes, read_outcome, read_records}
use Rattle.rules.proofs.Runs.{not-accepted}
use Rattle.promises.specs.PlacesApart.{text_places, kind_of}
use Rattle.promises.specs.TableTexts.{amount_of, text_at, texts_of, Shows, ShowsAt, ShowTexts}
use Rattle.promises.specs.TextsKept.{texts_kept, TextsKept, texts_of_wires, WiresStand, WireTexts}
use Rattle.promises.proofs.Fits.{accepted-fit}
use Rattle.promises.proofs.LinePlaces.{listing-fits, volumes_stand}
use Rattle.promises.proofs.Parsed.{parsed}
use Rattle.promises.proofs.SetTexts.{Standing, set-shows, wires_stand}
use Rattle.promises.proofs.Sizes.{listing}
use Rattle.promises.proofs.TwoClasses.{taken, outcome-at}

-- ── what is shown is what stands there ──
module _ (spool : List ℕ) where
  text-is : {a n : ℤ} {c : List ℕ} → Shows spool a n c → take (amount_of n) (drop (amount_of a) spool) ≡ c
  text-is Shows.empty = refl
  text-is (Shows.stands before c after e) =
      let front = before ++ (61 ∷ []) in
      let rest = c ++ (13 ∷ 10 ∷ after) in
      let whole : spool ≡ front ++ rest = e ∙ sym (append_assoc before (61 ∷ []) rest) in
      ap (λ s. take (length c) (drop (length before + 1) s)) whole
      ∙ ap (take (length c)) (drop_at front rest (length before + 1) (length-append before (61 ∷ []))) ∙ take_at c (13 ∷ 10 ∷ after) (length c) refl

  pub shown-texts : (rs : List (List ℤ)) (css : List (List (List ℕ))) → ShowTexts spool rs css → texts_of spool rs ≡ css
  shown-texts [] [] h = refl
  shown-texts [] (cs ∷ css) h = absurd h
  shown-texts (r ∷ rs) [] h = absurd h
  shown-texts (r ∷ rs) (cs ∷ css) h = ap₂ ◌∷◌ (go (text_places (kind_of r)) cs h.0) (shown-texts rs css h.1)
    where
      go : (ps : List ℕ) (cs : List (List ℕ)) → ShowsAt spool r ps cs → map (text_at spool r) ps ≡ cs
      go [] [] h = refl
      go [] (c ∷ cs) h = absurd h
      go (p ∷ ps) [] h = absurd h
      go (p ∷ ps) (c ∷ cs) h = ap₂ ◌∷◌ (text-is h.0) (go ps cs h.1)

-- ── a spool that was read ──
pub read-shows : (e : Env) (c : Class) (spool : List ℕ) (s : Set) → outcome_of_volumes e (volumes_of spool) ≡ accepted s → ShowTexts spool (records_of c s) (texts_kept s)
read-shows e c spool s h =
    let p = parsed e spool s h in
    let lines = listing-fits spool 1 p.volumes p.texts p.theirs (volumes_stand spool p.volumes p.found) in
    set-shows spool c s (accepted-fit (Standing spool) e (listing 1 p.volumes p.texts) s lines p.runs)

-- its wires' texts
pub read-stands : (e : Env) (spool : List ℕ) (s : Set) → outcome_of_volumes e (volumes_of spool) ≡ accepted s → WiresStand spool (texts_of_wires s)
read-stands e spool s h =
    let p = parsed e spool s h in
    let lines = listing-fits spool 1 p.volumes p.texts p.theirs (volumes_stand spool p.volumes p.found) in
    wires_stand spool s (accepted-fit (Standing spool) e (listing 1 p.volumes p.texts) s lines p.runs)

pub no-class : (len : ℕ) (spool : List ℕ) (class wire : ℕ) → class_of class wire ≡ None → read_outcome class wire len spool ≡ refused 1 0 0
unfolding read_outcome
no-class len spool class wire p = rw p

pub texts-kept : TextsKept
texts-kept class wire len spool s e = go (class_of class wire) refl
  where
    go : (o : Option Class) → class_of class wire ≡ o → ShowTexts spool (read_records class wire len spool) (texts_kept s)
    go None p = not-accepted (sym (no-class len spool class wire p) ∙ e)
    go (Some c) p =
        subst (λ rs. ShowTexts spool rs (texts_kept s)) (sym (taken len spool class wire c s p e).0)
        (read-shows (limited_to c (len / width)) c spool s (sym (outcome-at len spool class wire c p) ∙ e))

pub wire-texts : WireTexts
wire-texts class wire len spool s e = go (class_of class wire) refl
  where
    go : (o : Option Class) → class_of class wire ≡ o → WiresStand spool (texts_of_wires s)
    go None p = not-accepted (sym (no-class len spool class wire p) ∙ e)
    go (Some c) p = read-stands (limited_to c (len / width)) spool s (sym (outcome-at len spool class wire c p) ∙ e)
