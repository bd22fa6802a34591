-- The spool that the fixed form makes: its volumes, their lines, and these as lines of the reading with no places.
use Prim.Native.Nat.{ℕ, suc, ◌+◌}
use mathlib.Core.Bool.{true, not}
use mathlib.Core.List.{List, [], ◌∷◌, ◌++◌, map}
use mathlib.Core.Path.{◌≡◌, refl, ◌∙◌, ap}
use native.Mathlib.Omega.{arith}
use lib.ListN.{length}
use Rattle.rules.specs.Base.{is_nil, all}
use Rattle.rules.specs.Spool.{Volume, names_of, unlines}
use Rattle.rules.specs.Machine.{Line}
use Rattle.rules.specs.FixedForm.{Text}
use Rattle.rules.specs.Answers.{numbered, next_name}
use Rattle.rules.proofs.Chains.{and_left, and_right, and_true, clash}
use Rattle.promises.specs.PlacesApart.{bare_line}
use Rattle.promises.proofs.Forms.{form-place}
use Rattle.promises.proofs.Frame.{laid, is_name, lines-back}
use Rattle.promises.proofs.GoodLines.{fine}
use Rattle.promises.proofs.Sizes.{listing, Texts, nexts_of_volumes, some_lines}
use Rattle.promises.proofs.BackSlots.{lay, lay_all}

-- ── the lines of a listing, with no places ──
numbered-bare : (k : ℕ) (next : List ℕ) (n at : ℕ) (t : Text) (more : List Line) → map bare_line (numbered k next n at t ++ more) ≡ lay next t (map bare_line more)
numbered-bare k next n at [] more = refl
numbered-bare k next n at (l ∷ t) more = rw (form-place at l, numbered-bare k next (suc n) (at + length l + 2) t more)

pub listing-bare : (k : ℕ) (vs : List Volume) (ts : List Text) → Texts vs ts → all some_lines ts ≡ true → map bare_line (listing k vs ts) ≡ lay_all (nexts_of_volumes vs) ts
listing-bare k [] [] h a = refl
listing-bare k [] (t ∷ ts) h a = absurd h
listing-bare k (v ∷ vs) [] h a = absurd h
listing-bare k (v ∷ vs) ([] ∷ ts) h a = clash a refl
listing-bare k (v ∷ vs) ((l ∷ t) ∷ ts) h a =
    numbered-bare k (next_name vs) 1 v.place (l ∷ t) (listing (suc k) vs ts) ∙ ap (lay (next_name vs) (l ∷ t)) (listing-bare (suc k) vs ts h.1 a)

-- ── the volumes that are laid out ──
pub laid-texts : (at : ℕ) (names : List (List ℕ)) (ts : List Text) → length names ≡ length ts → all (all fine) ts ≡ true → Texts (laid at names (map unlines ts)) ts
laid-texts at [] [] e a = tt
laid-texts at [] (t ∷ ts) e a = absurd (let z : 0 ≡ suc (length ts) = e in omega arith)
laid-texts at (n ∷ names) [] e a = absurd (let z : suc (length names) ≡ 0 = e in omega arith)
laid-texts at (n ∷ names) (t ∷ ts) e a = (lines-back t (and_left (all fine t) _ a), laid-texts (at + 12 + length (unlines t)) names ts (let z : suc (length names) ≡ suc (length ts) = e in omega arith) (and_right (all fine t) _ a))

-- the name that follows goes by the names alone
abbrev pub nexts_of_names : List (List ℕ) → List (List ℕ)
nexts_of_names [] = []
nexts_of_names (n ∷ []) = [] ∷ []
nexts_of_names (n ∷ m ∷ ns) = m ∷ nexts_of_names (m ∷ ns)

pub nexts-names : (vs : List Volume) → nexts_of_volumes vs ≡ nexts_of_names (names_of vs)
nexts-names [] = refl
nexts-names (v ∷ []) = refl
nexts-names (v ∷ w ∷ vs) = ap (λ ns. w.name ∷ ns) (nexts-names (w ∷ vs))

-- names are not empty
pub named : (vs : List Volume) → all is_name (names_of vs) ≡ true → all (λ v. not (is_nil v.name)) vs ≡ true
named [] a = refl
named (v ∷ vs) a = and_true _ _ (go v.name (and_left (is_name v.name) _ a)) (named vs (and_right (is_name v.name) _ a))
  where
    go : (n : List ℕ) → is_name n ≡ true → not (is_nil n) ≡ true
    go [] e = clash e refl
    go (b ∷ n) e = refl
