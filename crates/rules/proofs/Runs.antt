-- Laws of the reading's steps and outcomes, and of the set at hand.
use Prim.Native.Nat.{ℕ}
use mathlib.Core.Bool.{Bool, true, false, true≢false}
use mathlib.Core.Path.{◌≡◌, refl, sym, ap}
use mathlib.Core.List.{List, [], ◌∷◌, ◌++◌}
use Rattle.rules.specs.RefusalNumbers.{Got, map_g}
use Rattle.rules.specs.Values.{Value}
use Rattle.rules.specs.Rows.{Act, stay, entry, begin, shut, refuse}
use Rattle.rules.specs.Sets.{Set, Contents, head_or}
use Rattle.rules.specs.Machine.{State, top, file, drawing, layer_names, defines, symbol, hide, elements, figures, successive, texts, placing, skipping, ended, by_act}
use Rattle.rules.specs.LineByLine.{Outcome, refused, accepted, finish}

-- a function moved through an act
pub map-act : (g : State → State) (st : State) (en : ℕ → Value → Got State) (op : ℕ → ℕ → Value → Got State) (cl : Unit {0} → Got State) (a : Act)
    → map_g g (by_act st en op cl a) ≡ by_act (g st) (λ j v. map_g g (en j v)) (λ i j v. map_g g (op i j v)) (λ u. map_g g (cl u)) a
map-act g st en op cl stay = refl
map-act g st en op cl (entry j v) = refl
map-act g st en op cl (begin i j v) = refl
map-act g st en op cl shut = refl
map-act g st en op cl (refuse n) = refl

-- ── outcomes ──
abbrev is_accepted : Outcome → Bool
is_accepted (refused n v l) = false
is_accepted (accepted s) = true

-- a refusal is no set
pub not-accepted : {P : Type 0} {n v l : ℕ} {s : Set} → refused n v l ≡ accepted s → P
not-accepted e = absurd (true≢false (sym (ap is_accepted e)))

-- only a set that has ended is accepted
pub finish-ended : (st : State) (s : Set) → finish st ≡ accepted s → st ≡ ended s
finish-ended (top s k) a q = not-accepted q
finish-ended (file s n h p) a q = not-accepted q
finish-ended (drawing s d) a q = not-accepted q
finish-ended (layer_names s d) a q = not-accepted q
finish-ended (defines s b) a q = not-accepted q
finish-ended (symbol s y) a q = not-accepted q
finish-ended (hide s y ps) a q = not-accepted q
finish-ended (elements s) a q = not-accepted q
finish-ended (figures s h fs) a q = not-accepted q
finish-ended (successive s h fs n ps) a q = not-accepted q
finish-ended (texts s h fs n o) a q = not-accepted q
finish-ended (placing s h fs n o p) a q = not-accepted q
finish-ended (skipping s h fs n o d) a q = not-accepted q
finish-ended (ended s) a q = cc

-- ── the first volume: where the volume at hand is closed, and its FILE_FORMAT whatever else the volume at hand holds ──
pub head-snoc : (v w : Contents) (vs : List Contents) → head_or v (vs ++ w ∷ []) ≡ head_or w vs
head-snoc v w [] = refl
head-snoc v w (u ∷ us) = refl

pub head-file : (v w : Contents) (vs : List Contents) → v.file ≡ w.file → (head_or v vs).file ≡ (head_or w vs).file
head-file v w [] e = e
head-file v w (u ∷ us) e = refl
