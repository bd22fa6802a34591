-- The lines of a spool's volumes, as the reading goes over them: in order, ending in the last line of the last volume.
use Rattle.std.specs.Prelude.{Option, Some, None}
use Prim.Native.Nat.{ℕ, suc, ◌+◌, ◌≤◌, ◌<◌}
use mathlib.Core.Bool.{true, cond}
use mathlib.Core.List.{List, [], ◌∷◌, ◌++◌, append-nil}
use mathlib.Core.Path.{◌≡◌, refl}
use native.Mathlib.Omega.{arith}
use lib.Dec.{ltb}
use lib.ListN.{length}
use borrow.Author.Tests.{lt-ltb, eq-eqb}
use Rattle.rules.specs.Spool.{Volume, lines_of}
use Rattle.rules.specs.Machine.{Line}
use Rattle.rules.specs.Answers.{numbered, lines_of_volume, next_name, Listed, listed, no_lines, onto_lines, list_volume, list_volumes}
use Rattle.rules.proofs.Chains.{or_true, clash}
use Rattle.promises.proofs.LowerRun.{before, From, Sorted, proper}

-- ── places ──
later-place : (v n v' n' : ℕ) → v < v' → before v n v' n' ≡ true
later-place v n v' n' h = rw (lt-ltb v v' h)

same_place : (v n n' : ℕ) → n < n' → before v n v n' ≡ true
same_place v n n' h = rw (eq-eqb v v refl, lt-ltb n n' h) (or_true (ltb v v))

-- every line of a list is in a later volume
abbrev Later : ℕ → List Line → Type 0
Later v [] = Unit {0}
Later v (l ∷ ls) = (v < l.volume) × Later v ls

later-from : (v n : ℕ) (ls : List Line) → Later v ls → From v n ls
later-from v n [] h = tt
later-from v n (l ∷ ls) h = (later-place v n l.volume l.line h.0, later-from v n ls h.1)

later_less : (v : ℕ) (ls : List Line) → Later (suc v) ls → Later v ls
later_less v [] h = tt
later_less v (l ∷ ls) h = (omega (arith, h.0), later_less v ls h.1)

-- ── one volume's lines before those of later volumes ──
numbered-from : (v : ℕ) (next : List ℕ) (k n at : ℕ) → k < n → (ls : List (List ℕ)) (more : List Line) → Later v more → From v k (numbered v next n at ls ++ more)
numbered-from v next k n at h [] more f = later-from v k more f
numbered-from v next k n at h (l ∷ ls) more f = (same_place v k n h, numbered-from v next k (suc n) (at + length l + 2) (omega arith) ls more f)

numbered-sorted : (v : ℕ) (next : List ℕ) (n at : ℕ) (ls : List (List ℕ)) (more : List Line) → Later v more → Sorted more → Sorted (numbered v next n at ls ++ more)
numbered-sorted v next n at [] more f s = s
numbered-sorted v next n at (l ∷ ls) more f s =
    (numbered-from v next n (suc n) (at + length l + 2) (omega arith) ls more f, numbered-sorted v next (suc n) (at + length l + 2) ls more f s)

volume-sorted : (v : ℕ) (next : List ℕ) (at : ℕ) (ls : List (List ℕ)) (more : List Line) → Later v more → Sorted more → Sorted (lines_of_volume v next at ls ++ more)
volume-sorted v next at [] more f s = (later-from v 0 more f, s)
volume-sorted v next at (l ∷ ls) more f s = numbered-sorted v next 1 at (l ∷ ls) more f s

numbered-later : (w v : ℕ) (next : List ℕ) (n at : ℕ) → w < v → (ls : List (List ℕ)) (more : List Line) → Later w more → Later w (numbered v next n at ls ++ more)
numbered-later w v next n at h [] more f = f
numbered-later w v next n at h (l ∷ ls) more f = (h, numbered-later w v next (suc n) (at + length l + 2) h ls more f)

volume-later : (w v : ℕ) (next : List ℕ) (at : ℕ) → w < v → (ls : List (List ℕ)) (more : List Line) → Later w more → Later w (lines_of_volume v next at ls ++ more)
volume-later w v next at h [] more f = (h, f)
volume-later w v next at h (l ∷ ls) more f = numbered-later w v next 1 at h (l ∷ ls) more f

-- ── the volumes' numbers ──
-- lines from volume k on: each is in the volume of the line before it, or in the next one where that was the last of its volume
abbrev pub Running : ℕ → List Line → Type 0
Running k [] = Unit {0}
Running k (l ∷ ls) = (l.volume ≡ k) × Running (cond l.last (suc k) k) ls

numbered-running : (v : ℕ) (next : List ℕ) (n at : ℕ) (l : List ℕ) (ls : List (List ℕ)) (more : List Line) → Running (suc v) more → Running v (numbered v next n at (l ∷ ls) ++ more)
numbered-running v next n at l [] more f = (refl, f)
numbered-running v next n at l (m ∷ ls) more f = (refl, numbered-running v next (suc n) (at + length l + 2) m ls more f)

volume-running : (v : ℕ) (next : List ℕ) (at : ℕ) (ls : List (List ℕ)) (more : List Line) → Running (suc v) more → Running v (lines_of_volume v next at ls ++ more)
volume-running v next at [] more f = (refl, f)
volume-running v next at (l ∷ ls) more f = numbered-running v next 1 at l ls more f

-- every line is in one of the volumes from number a to number b
abbrev pub Among : ℕ → ℕ → List Line → Type 0
Among a b [] = Unit {0}
Among a b (l ∷ ls) = (a ≤ l.volume) × (l.volume ≤ b) × Among a b ls

numbered-among : (a b v : ℕ) (next : List ℕ) (n at : ℕ) → a ≤ v → v ≤ b → (ls : List (List ℕ)) (more : List Line) → Among a b more → Among a b (numbered v next n at ls ++ more)
numbered-among a b v next n at h i [] more f = f
numbered-among a b v next n at h i (l ∷ ls) more f = (h, i, numbered-among a b v next (suc n) (at + length l + 2) h i ls more f)

volume-among : (a b v : ℕ) (next : List ℕ) (at : ℕ) → a ≤ v → v ≤ b → (ls : List (List ℕ)) (more : List Line) → Among a b more → Among a b (lines_of_volume v next at ls ++ more)
volume-among a b v next at h i [] more f = (h, i, f)
volume-among a b v next at h i (l ∷ ls) more f = numbered-among a b v next 1 at h i (l ∷ ls) more f

-- ── the last line ──
numbered-proper : (v n at : ℕ) (l : List ℕ) (ls : List (List ℕ)) → proper (numbered v [] n at (l ∷ ls)) ≡ true
numbered-proper v n at l [] = refl
numbered-proper v n at l (m ∷ ls) = numbered-proper v (suc n) (at + length l + 2) m ls

volume-proper : (v at : ℕ) (ls : List (List ℕ)) → proper (lines_of_volume v [] at ls) ≡ true
volume-proper v at [] = refl
volume-proper v at (l ∷ ls) = numbered-proper v 1 at l ls

proper-after : (ls : List Line) (more : List Line) → proper more ≡ true → proper (ls ++ more) ≡ true
proper-after [] more h = h
proper-after (l ∷ []) [] h = clash h refl
proper-after (l ∷ []) (m ∷ more) h = h
proper-after (l ∷ m ∷ ls) more h = proper-after (m ∷ ls) more h

-- ── all volumes ──
pub record Whole (k : ℕ) (ls : List Line) : Type 0 where
  pub sorted : Sorted ls
  pub later : Later k ls
  pub running : Running (suc k) ls

listed-eq : (a b : List Line) → listed a ≡ listed b → a ≡ b
listed-eq a b e = cc

onto_inv : (ls : List Line) (r : Listed) (all : List Line) → onto_lines ls r ≡ listed all → (rest : List Line) × (r ≡ listed rest) × (ls ++ rest ≡ all)
onto_inv ls (listed rest) all e = (rest, refl, listed-eq (ls ++ rest) all e)
onto_inv ls (no_lines v) all e = absurd (let z : ◌≡◌ {A = ℕ} 0 1 = cc in omega arith)

pub lines-whole : (k : ℕ) (vs : List Volume) (ls : List Line) → list_volumes (suc k) vs ≡ listed ls → Whole k ls
lines-whole k [] ls e = let z : [] ≡ ls = cc in rw (← z) (record { sorted = tt; later = tt; running = tt })
lines-whole k (v ∷ vs) ls e = go (lines_of v.body) (lines-whole (suc k) vs) e
  where
    go : (o : Option (List (List ℕ))) → ((rest : List Line) → list_volumes (suc (suc k)) vs ≡ listed rest → Whole (suc k) rest)
        → list_volume (suc k) v vs o (list_volumes (suc (suc k)) vs) ≡ listed ls → Whole k ls
    go None ih e = absurd (let z : ◌≡◌ {A = ℕ} 0 1 = cc in omega arith)
    go (Some ts) ih e =
        let (rest, p, q) = onto_inv (lines_of_volume (suc k) (next_name vs) v.place ts) (list_volumes (suc (suc k)) vs) ls e in
        let w = ih rest p in
        rw (← q)
        (record {
          sorted = volume-sorted (suc k) (next_name vs) v.place ts rest w.later w.sorted;
          later = volume-later k (suc k) (next_name vs) v.place (omega arith) ts rest (later_less k rest w.later);
          running = volume-running (suc k) (next_name vs) v.place ts rest w.running;
        })

pub lines-proper : (k : ℕ) (v : Volume) (vs : List Volume) (ls : List Line) → list_volumes k (v ∷ vs) ≡ listed ls → proper ls ≡ true
lines-proper k v [] ls e = go (lines_of v.body) e
  where
    go : (o : Option (List (List ℕ))) → list_volume k v [] o (listed []) ≡ listed ls → proper ls ≡ true
    go None e = absurd (let z : ◌≡◌ {A = ℕ} 0 1 = cc in omega arith)
    go (Some ts) e = rw (← listed-eq (lines_of_volume k [] v.place ts ++ []) ls e, append-nil (lines_of_volume k [] v.place ts)) (volume-proper k v.place ts)
lines-proper k v (w ∷ vs) ls e = go (lines_of v.body) (lines-proper (suc k) w vs) e
  where
    go : (o : Option (List (List ℕ))) → ((rest : List Line) → list_volumes (suc k) (w ∷ vs) ≡ listed rest → proper rest ≡ true)
        → list_volume k v (w ∷ vs) o (list_volumes (suc k) (w ∷ vs)) ≡ listed ls → proper ls ≡ true
    go None ih e = absurd (let z : ◌≡◌ {A = ℕ} 0 1 = cc in omega arith)
    go (Some ts) ih e =
        let (rest, p, q) = onto_inv (lines_of_volume k w.name v.place ts) (list_volumes (suc k) (w ∷ vs)) ls e in
        rw (← q) (proper-after (lines_of_volume k w.name v.place ts) rest (ih rest p))

-- ── how many volumes ──
-- the volume of each line, or the first without lines, is one of those from number a to number b
abbrev pub Within : ℕ → ℕ → Listed → Type 0
Within a b (listed ls) = Among a b ls
Within a b (no_lines v) = (a ≤ v) × (v ≤ b)

pub listing-within : (a b k : ℕ) (vs : List Volume) → a ≤ suc k → k + length vs ≤ b → Within a b (list_volumes (suc k) vs)
listing-within a b k [] g h = tt
listing-within a b k (v ∷ vs) g h = go (lines_of v.body) (list_volumes (suc (suc k)) vs) (listing-within a b (suc k) vs (omega (arith, g)) (omega (arith, h)))
  where
    go : (o : Option (List (List ℕ))) (r : Listed) → Within a b r → Within a b (list_volume (suc k) v vs o r)
    go None r w = (g, omega (arith, h))
    go (Some ts) (listed ls) w = volume-among a b (suc k) (next_name vs) v.place g (omega (arith, h)) ts ls w
    go (Some ts) (no_lines u) w = w
