-- Every set that was read at class 15 is a good set.
use Prim.Native.Nat.{ℕ, ◌≤◌}
use mathlib.Core.Bool.{Bool, true, false, cond, ◌&&◌, ◌||◌, true≢false}
use mathlib.Core.List.{List, [], ◌∷◌, ◌++◌, append-nil, append_assoc}
use mathlib.Core.Path.{◌≡◌, refl, ap, subst}
use lib.Dec.{eqb}
use borrow.Author.Tests.{eqb-true}
use Rattle.rules.specs.Base.{is_nil}
use Rattle.rules.specs.RefusalNumbers.{Got, got, bad, map_g, also}
use Rattle.rules.specs.Lines.{Form, ignored, wrong, close, eof, keyed}
use Rattle.rules.specs.Blocks.{element_table}
use Rattle.rules.specs.Sets.{Contents, Set, nothing_yet}
use Rattle.rules.specs.VolumesAndTotals.{counted_here}
use Rattle.rules.specs.Machine.{unlimited, Line, State, top, file, drawing, layer_names, defines, symbol, hide, elements, figures, successive, texts, placing, skipping, ended, on_top, on_elements, wire_block, wire_unread}
use Rattle.rules.specs.LineByLine.{step_in, is_ignored, is_close, is_eof, completes, next_volume, Outcome, refused, accepted, then_run, finish, run}
use Rattle.rules.specs.Answers.{full_class}
use Rattle.rules.specs.Machine.{symbol_block}
use Rattle.rules.proofs.Chains.{or_true, clash, cond_same, On, on-unless, on-map, on-also, or_left}
use Rattle.promises.proofs.Forms.{Tells}
use Rattle.promises.proofs.Good.{GoodSet}
use Rattle.promises.proofs.Sizes.{Tolds}
use Rattle.promises.proofs.InvState.{untaken, TopInv, Over, file_of, Start, Inv}
use Rattle.promises.proofs.InvHead.{full_env, on-top, on-file, on-drawing, on-layers, on-defines, on-symbol, on-hide}
use Rattle.promises.proofs.InvBody.{on-elements, on-figures, on-successive, on_texts_lem, on-placing, on-skipping}
use Rattle.promises.proofs.InvWires.{on-wire}
use Rattle.promises.proofs.OnEof.{on-eof}

-- ── the lines ──
-- the names that follow the volumes, one for each last line
abbrev pub nexts_of : List Line → List (List ℕ)
nexts_of [] = []
nexts_of (l ∷ ls) = cond l.last (l.next ∷ nexts_of ls) (nexts_of ls)

-- a line that is not the last of its volume has the name of the line after it
abbrev pub Steady : List Line → Type 0
Steady [] = Unit {0}
Steady (l ∷ []) = Unit {0}
Steady (l ∷ m ∷ ls) = (l.last ≡ false → l.next ≡ m.next) × Steady (m ∷ ls)

-- ── one line ──
inv_in : (done fin : List (List ℕ)) (l : Line) (n : ℕ) → n ≤ 512 → (l.last ≡ true → fin ≡ done ++ l.next ∷ []) → Tells n l.form → (st : State) → (was : List (List ℕ))
    → Inv done l.next was st → On (Inv done l.next fin) (step_in full_env l st)
inv_in done fin l n fit e t (top s k) was i = on-top done fin l n fit e s k l.form t i
inv_in done fin l n fit e t (file s m h p) was i = on-file done fin l n fit e s m h p t i
inv_in done fin l n fit e t (drawing s d) was i = on-drawing done fin l n fit e s d t i
inv_in done fin l n fit e t (layer_names s d) was i = on-layers done fin l n fit e s d l.form t i
inv_in done fin l n fit e t (defines s b) was i = on-defines done fin l n fit e s b t i
inv_in done fin l n fit e t (symbol s y) was i = on-symbol done fin l n fit e s y t i
inv_in done fin l n fit e t (hide s y ps) was i = on-hide done fin l n fit e s y ps t i
inv_in done fin l n fit e t (elements s) was i = on-elements done fin l n fit s t i
inv_in done fin l n fit e t (figures s h fs) was i = on-figures done fin l n fit s h fs t i
inv_in done fin l n fit e t (successive s h fs m ps) was i = on-successive done fin l n fit s h fs m ps t i
inv_in done fin l n fit e t (texts s h fs m o) was i = on_texts_lem done fin l n fit s h fs m o t i
inv_in done fin l n fit e t (placing s k fs m (symbol_block o) p) was i = on-placing done fin l n fit s k fs m o p t i
inv_in done fin l n fit e t (placing s k fs m (wire_block w) p) was i = on-wire done fin l n fit s k fs m w p t i
inv_in done fin l n fit e t (placing s k fs m wire_unread p) was i = tt
inv_in done fin l n fit e t (skipping s k fs m b d) was i = on-skipping done fin l n fit s k fs m b d l.form i
inv_in done fin l n fit e t (ended s) was i = tt

-- ── the last line of a volume ──
-- ELEMENT is closed, or the set has ended
abbrev Ends : State → Type 0
Ends (top s k) = k ≡ 4
Ends (file s n h p) = ⊥
Ends (drawing s d) = ⊥
Ends (layer_names s d) = ⊥
Ends (defines s b) = ⊥
Ends (symbol s y) = ⊥
Ends (hide s y ps) = ⊥
Ends (elements s) = ⊥
Ends (figures s h fs) = ⊥
Ends (successive s h fs n ps) = ⊥
Ends (texts s h fs n o) = ⊥
Ends (placing s k fs n o p) = ⊥
Ends (skipping s k fs n o d) = ⊥
Ends (ended s) = Unit {0}

ends-elements : (s : Set) (f : Form) → is_close f ≡ true → On Ends (on_elements s f)
unfolding element_table
ends-elements s ignored e = clash e refl
ends-elements s (wrong n) e = clash e refl
ends-elements s close e = on-unless Ends (counted_here s) 17 _ λ _. refl
ends-elements s eof e = clash e refl
ends-elements s (keyed k c) e = clash e refl

ends-top : (l : Line) (s : Set) (k : ℕ) (f : Form) → eqb k 4 ≡ true → (is_eof f || is_ignored f) ≡ true → On Ends (on_top full_env l s k f)
ends-top l s k ignored q e = eqb-true k 4 q
ends-top l s k (wrong n) q e = clash e refl
ends-top l s k close q e = clash e refl
ends-top l s k eof q e = on-eof Ends full_env l s k λ _. tt
ends-top l s k (keyed key c) q e = clash e refl

-- one of two tests, whichever the condition asks
either_true : (b p q : Bool) → cond b p q ≡ true → (p || q) ≡ true
either_true true p q e = rw e
either_true false p q e = rw e (or_true p)

both-and : (k a b : Bool) → ((k && a) || (false || (k && b))) ≡ true → (k ≡ true) × ((a || b) ≡ true)
both-and true a b e = (refl, e)
both-and false a b e = clash e refl

volume-ends : (l : Line) (st : State) → completes l st ≡ true → On Ends (step_in full_env l st)
volume-ends l (top s k) e =
    let (q, f) = both-and (eqb k 4) (is_eof l.form) (is_ignored l.form) (either_true (is_nil l.next) (eqb k 4 && is_eof l.form) (false || (eqb k 4 && is_ignored l.form)) e) in
    ends-top l s k l.form q f
volume-ends l (file s n h p) e = clash e (cond_same (is_nil l.next) false)
volume-ends l (drawing s d) e = clash e (cond_same (is_nil l.next) false)
volume-ends l (layer_names s d) e = clash e (cond_same (is_nil l.next) false)
volume-ends l (defines s b) e = clash e (cond_same (is_nil l.next) false)
volume-ends l (symbol s y) e = clash e (cond_same (is_nil l.next) false)
volume-ends l (hide s y ps) e = clash e (cond_same (is_nil l.next) false)
volume-ends l (elements s) e = ends-elements s l.form (or_left (is_close l.form) false refl (either_true (is_nil l.next) false (is_close l.form || false) e))
volume-ends l (figures s h fs) e = clash e (cond_same (is_nil l.next) false)
volume-ends l (successive s h fs n ps) e = clash e (cond_same (is_nil l.next) false)
volume-ends l (texts s h fs n o) e = clash e (cond_same (is_nil l.next) false)
volume-ends l (placing s k fs n o p) e = clash e (cond_same (is_nil l.next) false)
volume-ends l (skipping s k fs n o d) e = clash e (cond_same (is_nil l.next) false)
volume-ends l (ended s) e = clash e (cond_same (is_nil l.next) false)

-- the volumes that are closed are those before the next
over-start : (nexts : List (List ℕ)) (s : Set) → Over nexts (file_of s) (untaken s) → Start s.volumes nexts (untaken s)
over-start nexts s o = go s.volumes o.before o.latest
  where
    go : (vs before : List Contents) → vs ≡ before ++ s.now ∷ [] → Start vs nexts (untaken s)
    go [] [] e = absurd (true≢false (ap is_nil e))
    go [] (v ∷ b) e = absurd (true≢false (ap is_nil e))
    go (v ∷ vs) b e = o

module _ (done : List (List ℕ)) (cur : List ℕ) where
  abbrev nexts : List (List ℕ)
  nexts = done ++ cur ∷ []

  -- the next volume, whatever follows it
  abbrev Next : State → Type 0
  Next st = (c : List ℕ) → Inv nexts c nexts (next_volume st)

  next-volume : (st : State) → Inv done cur nexts st → Ends st → Next st
  next-volume (top s k) i e c = over-start nexts s (subst (λ (k : ℕ). TopInv done cur k (untaken s)) e i)
  next-volume (file s n h p) i e c = absurd e
  next-volume (drawing s d) i e c = absurd e
  next-volume (layer_names s d) i e c = absurd e
  next-volume (defines s b) i e c = absurd e
  next-volume (symbol s y) i e c = absurd e
  next-volume (hide s y ps) i e c = absurd e
  next-volume (elements s) i e c = absurd e
  next-volume (figures s h fs) i e c = absurd e
  next-volume (successive s h fs n ps) i e c = absurd e
  next-volume (texts s h fs n o) i e c = absurd e
  next-volume (placing s k fs n o p) i e c = absurd e
  next-volume (skipping s k fs n o d) i e c = absurd e
  next-volume (ended s) i e c = i

  on-next : (g : Got State) → On (Inv done cur nexts) g → On Ends g → On Next g
  on-next (got st) i e = next-volume st i e
  on-next (bad n) i e = tt

-- ── all lines ──
abbrev Facing : List (List ℕ) → List Line → State → Type 0
Facing done [] st = (c : List ℕ) × Inv done c done st
Facing done (l ∷ ls) st = Inv done l.next done st

facing_any : (done : List (List ℕ)) (ls : List Line) (st : State) → ((c : List ℕ) → Inv done c done st) → Facing done ls st
facing_any done [] st i = ([], i [])
facing_any done (l ∷ ls) st i = i l.next

facing-same : (done : List (List ℕ)) (l : Line) (ls : List Line) (st : State) → Steady (l ∷ ls) → l.last ≡ false → Inv done l.next done st → Facing done ls st
facing-same done l [] st w e i = (l.next, i)
facing-same done l (m ∷ ls) st w e i = rw (← w.0 e) i

steady-tail : (l : Line) (ls : List Line) → Steady (l ∷ ls) → Steady ls
steady-tail l [] w = tt
steady-tail l (m ∷ ls) w = w.1

-- what holds of the set, where one was accepted
abbrev OnSet : (Set → Type 0) → Outcome → Type 0
OnSet P (refused n v m) = Unit {0}
OnSet P (accepted s) = P s

finish-good : (done : List (List ℕ)) (c : List ℕ) (st : State) → Inv done c done st → OnSet (GoodSet done) (finish st)
finish-good done c (top s k) i = tt
finish-good done c (file s n h p) i = tt
finish-good done c (drawing s d) i = tt
finish-good done c (layer_names s d) i = tt
finish-good done c (defines s b) i = tt
finish-good done c (symbol s y) i = tt
finish-good done c (hide s y ps) i = tt
finish-good done c (elements s) i = tt
finish-good done c (figures s h fs) i = tt
finish-good done c (successive s h fs n ps) i = tt
finish-good done c (texts s h fs n o) i = tt
finish-good done c (placing s k fs n o p) i = tt
finish-good done c (skipping s k fs n o d) i = tt
finish-good done c (ended s) i = i

then-good : (P : State → Type 0) (Q : Set → Type 0) (g : Got State) (l : Line) (f : State → Outcome) → On P g → ((st : State) → P st → OnSet Q (f st)) → OnSet Q (then_run g l f)
then-good P Q (got st) l f p h = h st p
then-good P Q (bad n) l f p h = tt

run-good : (ls : List Line) (ns : List ℕ) (done : List (List ℕ)) (st : State) → Tolds ls ns → Steady ls → Facing done ls st → OnSet (GoodSet (done ++ nexts_of ls)) (run full_env st ls)
run-good [] [] done st z w i = rw (append-nil done) (finish-good done i.0 st i.1)
run-good [] (n ∷ ns) done st z w i = absurd z
run-good (l ∷ ls) [] done st z w i = absurd z
run-good (l ∷ ls) (n ∷ ns) done st z w i = go l.last refl (λ done st. run-good ls ns done st z.1 (steady-tail l ls w))
  where
    go : (b : Bool) → l.last ≡ b → ((done : List (List ℕ)) (st : State) → Facing done ls st → OnSet (GoodSet (done ++ nexts_of ls)) (run full_env st ls))
        → OnSet (GoodSet (done ++ cond b (l.next ∷ nexts_of ls) (nexts_of ls)))
        (then_run (cond b (map_g next_volume (also (completes l st) 9 (step_in full_env l st))) (step_in full_env l st)) l (λ st. run full_env st ls))
    go true e ih =
        let all = done ++ l.next ∷ [] in
        rw (← append_assoc done (l.next ∷ []) (nexts_of ls))
        (then-good (λ st. (c : List ℕ) → Inv all c all st) (GoodSet (all ++ nexts_of ls)) (map_g next_volume (also (completes l st) 9 (step_in full_env l st))) l (λ st. run full_env st ls)
        (on-map (λ st. (c : List ℕ) → Inv all c all st) next_volume (also (completes l st) 9 (step_in full_env l st))
        (on-also (Next done l.next) (completes l st) 9 (step_in full_env l st) λ ends.
        on-next done l.next (step_in full_env l st) (inv_in done all l n z.0.1 (λ _. refl) z.0.0 st done i) (volume-ends l st ends)))
        (λ st j. ih all st (facing_any all ls st j)))
    go false e ih =
        then-good (Inv done l.next done) (GoodSet (done ++ nexts_of ls)) (step_in full_env l st) l (λ st. run full_env st ls)
        (inv_in done done l n z.0.1 (λ last. clash last e) z.0.0 st done i)
        (λ st j. ih done st (facing-same done l ls st w e j))

-- ── every set that was read is good ──
pub read-good : (ls : List Line) (ns : List ℕ) (s : Set) → Tolds ls ns → Steady ls → run (unlimited full_class) (top nothing_yet 0) ls ≡ accepted s → GoodSet (nexts_of ls) s
read-good ls ns s z w e =
    subst (OnSet (GoodSet (nexts_of ls))) e (run-good ls ns [] (top nothing_yet 0) z w (facing_any [] ls (top nothing_yet 0) (λ c. (refl, refl))))
