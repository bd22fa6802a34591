use Rattle.std.proofs.Common.{ℕ, zero, suc, ◌<◌, ◌≤◌, ◌≡◌, refl, ap, List, [], ◌∷◌, ◌++◌, map, length, get_or, take, drop, set, add-one, arith, rules}
use Rattle.rules.specs.Values.{capital}
use Rattle.prints.proofs.contents.capitals.Goals as goal

one_more : (c o : List ℕ) (i : ℕ) → i < length c → length c ≤ length o → set (map capital (take i c) ++ drop i o) i (capital (get_or c i 0)) ≡ map capital (take (suc i) c) ++ drop (suc i) o
one_more [] o i h k = absurd (omega arith)
one_more (x ∷ c) [] i h k = absurd (omega arith)
one_more (x ∷ c) (y ∷ o) zero h k = refl
one_more (x ∷ c) (y ∷ o) (suc i) h k = ap (λ (l : List ℕ). capital x ∷ l) (one_more c o i (omega arith) (omega arith))

pub loop-i-preserved : goal.loop-i-preserved
loop-i-preserved c = rw (add-one c.loop-i.i, c.loop-i.invariant, c.capital.ensures) (one_more c.args.c.now c.args.out.now c.loop-i.i (search rules) (search rules))
