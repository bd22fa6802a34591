-- From line to line: what `next_line` answers of the lines left.
use Rattle.std.specs.Prelude.{Option, Some, None}
use Prim.Native.Nat.{ℕ, ◌+◌}
use mathlib.Core.Bool.{false}
use mathlib.Core.Path.{◌≡◌, refl, ap, subst}
use mathlib.Core.List.{List, ◌∷◌, ◌++◌}
use native.Mathlib.Omega.{arith}
use lib.ListN.{length}
use Rattle.rules.specs.Base.{is_nil}
use Rattle.rules.specs.Machine.{Line}
use Rattle.rules.specs.Answers.{numbered}
use Rattle.rules.proofs.Chains.{clash}
use Rattle.lines.specs.LineLook.{look_in, lines_in}
use Rattle.lines.specs.declared.Seen.{Seen}
use Rattle.lines.proofs.LinesSeen.{look-line, look-end}
use Rattle.account.specs.declared.Volume.{Volume}
use Rattle.account.specs.declared.Pos.{Pos}
use Rattle.account.specs.Walk.{seen_or, seen_from, At, behind, todo, line_at, Next}

pub next-seen : (s body : List ℕ) (v : Volume) (p : Pos) (ls : List (List ℕ)) → At s body v p ls → is_nil ls ≡ false → Next s body v p ls (seen_from body v p)
next-seen s body v p ls a n = go (look_in v.number (p.line + 1) v.at p.at body) refl
  where
    go : (r : Option Seen) → look_in v.number (p.line + 1) v.at p.at body ≡ r → Next s body v p ls (seen_or p.at r)
    go None e = clash (ap is_nil (look-end v.number (p.line + 1) v.at p.at s body ls a.part a.short a.begun a.here a.lines e)) n
    go (Some f) e =
        let g = look-line v.number (p.line + 1) v.at p.at s body ls a.part a.short a.begun a.here a.lines f e in
        let w = g.follows in
        let x = w.next in
        let y = w.inside in
        let z = a.low in
        record {
          line = g.line;
          others = g.others;
          lines = g.lines;
          form = w.form;
          next = x;
          last = w.last;
          at = record {
            short = a.short;
            part = a.part;
            begun = omega (arith, a.begun);
            here = omega arith;
            lines = subst (λ (q : ℕ). lines_in v.at q body ≡ Some g.others) x w.after;
            low = omega arith;
          };
        }

pub todo-cons : (v : Volume) (next : List ℕ) (p : Pos) (l : List ℕ) (ls : List (List ℕ)) (more : List Line)
    → todo v next p (l ∷ ls) more ≡ line_at v next p l ls ∷ todo v next (behind p l) ls more
todo-cons v next p l ls more = ap (λ (n : ℕ). line_at v next p l ls ∷ (numbered v.number next n (p.at + length l + 2) ls ++ more)) (omega arith)
