-- Of two records of lines that follow each other the later starts where the former ends, where it says that its join was tested.
use Rattle.std.specs.Prelude.{Some, None}
use Prim.Native.Nat.{ℕ}
use mathlib.Core.Bool.{Bool, true, false}
use mathlib.Core.List.{List, [], ◌∷◌, ◌++◌}
use mathlib.Core.Path.{◌≡◌, sym, ◌∙◌, ap, subst}
use native.Mathlib.Omega.{arith}
use lib.IntN.{ℤ, pos}
use borrow.Author.Tests.{eqb-true}
use Rattle.rules.specs.Base.{within}
use Rattle.rules.proofs.Chains.{and_true, clash}
use Rattle.promises.specs.PlacesApart.{kind_of}
use Rattle.promises.specs.WiresJoined.{is_line, Meets, join_in, Tested, JoinedTo, Elements, is_of_wire, WiresIn, no_record, another, read_wire, skipped_wire, LinesMeet}
use Rattle.promises.proofs.WiresJoined.{wires-joined}

-- ── which records are no lines ──
line-kind : (r : List ℤ) → is_line r ≡ true → kind_of r ≡ 20
line-kind r e = eqb-true (kind_of r) 20 e

other_none : {P : Type 0} (r : List ℤ) → is_of_wire r ≡ false → is_line r ≡ true → P
other_none r e l = clash (ap (within 18 21) (line-kind r l)) e

own-none : {P : Type 0} (r : List ℤ) → kind_of r ≡ 18 → is_line r ≡ true → P
own-none r e l = absurd (omega (arith, e, line-kind r l))

more-none : {P : Type 0} (r : List ℤ) → kind_of r ≡ 19 → is_line r ≡ true → P
more-none r e l = absurd (omega (arith, e, line-kind r l))

-- ── each record and the one behind it ──
abbrev Pair : List ℤ → List ℤ → Type 0
Pair q r = is_line q ≡ true → is_line r ≡ true → join_in r ≡ pos 1 → Meets q r

abbrev Follows : List ℤ → List (List ℤ) → Type 0
Follows q [] = Unit {0}
Follows q (r ∷ rs) = Pair q r × Follows r rs

abbrev Pairs : List (List ℤ) → Type 0
Pairs [] = Unit {0}
Pairs (q ∷ rs) = Follows q rs

untested : {P : Type 0} (r : List ℤ) → join_in r ≡ pos 0 → join_in r ≡ pos 1 → P
untested r a b = let e : pos 0 ≡ pos 1 = sym a ∙ b in absurd (let z : ◌≡◌ {A = ℕ} 0 1 = cc in omega arith)

-- the first of a wire, whatever stands before it, and one behind another
first_pair : (ends : Bool) (q r : List ℤ) → JoinedTo ends None r → Pair q r
first_pair true q r j a b t = untested r j t
first_pair false q r j a b t = untested r j t

next_pair : (ends : Bool) (q r : List ℤ) → JoinedTo ends (Some q) r → Pair q r
next_pair true q r j a b t = (subst (λ (both : Bool). Tested both q r) (and_true (is_line q) (is_line r) a b) j).1
next_pair false q r j a b t = untested r j t

module _ (ends : Bool) (own : List ℤ) (rs : List (List ℤ)) (rest : (q : List ℤ) → Follows q rs) where
  next_follow : (q : List ℤ) (es : List (List ℤ)) → Elements ends own (Some q) es → Follows q (es ++ rs)
  next_follow q [] g = rest q
  next_follow q (r ∷ es) g = (next_pair ends q r g.0.joined, next_follow r es g.1)

  first_follow : (q : List ℤ) (es : List (List ℤ)) → Elements ends own None es → Follows q (es ++ rs)
  first_follow q [] g = rest q
  first_follow q (r ∷ es) g = (first_pair ends q r g.0.joined, next_follow r es g.1)

-- what stands before them is no element of theirs
all_follow : {reads : Bool} {digit : ℕ} {rs : List (List ℤ)} → WiresIn reads digit rs → (q : List ℤ) → Follows q rs
all_follow no_record q = tt
all_follow (another {r = r} e p) q = (λ a b t. other_none r e b, all_follow p r)
all_follow (read_wire {own = own} {more = more} es {rs = rs} k w p) q =
    (λ a b t. own-none own w.kinds.0 b, (λ a b t. more-none more w.kinds.1 b, first_follow _ own rs (λ z. all_follow p z) more es w.joined))
all_follow (skipped_wire {own = own} {more = more} k w p) q =
    (λ a b t. own-none own w.kinds.0 b, (λ a b t. more-none more w.kinds.1 b, all_follow p more))

all_pairs : {reads : Bool} {digit : ℕ} (rs : List (List ℤ)) → WiresIn reads digit rs → Pairs rs
all_pairs [] w = tt
all_pairs (q ∷ rs) w = (all_follow w q).1

-- ── two records in the midst of others ──
pairs-tail : (q : List ℤ) (rs : List (List ℤ)) → Follows q rs → Pairs rs
pairs-tail q [] g = tt
pairs-tail q (r ∷ rs) g = g.1

pair-at : (before : List (List ℤ)) (q r : List ℤ) (after : List (List ℤ)) → Pairs (before ++ q ∷ r ∷ after) → Pair q r
pair-at [] q r after g = g.0
pair-at (b ∷ before) q r after g = pair-at before q r after (pairs-tail b (before ++ q ∷ r ∷ after) g)

pub lines_meet : LinesMeet
lines_meet class wire len spool s e before former r after is a b t =
    pair-at before former r after (subst Pairs is (all_pairs _ (wires-joined class wire len spool s e))) a b t
