-- A line's content stands in the spool: its place and its length are below 65,536.
use Prim.Native.Nat.{ℕ, ◌+◌, ◌-◌, ◌≤◌}
use mathlib.Core.Bool.{Bool, true, false}
use mathlib.Core.List.{List, [], ◌∷◌}
use mathlib.Core.Path.{sym, subst}
use native.Mathlib.Omega.{arith}
use lib.Dec.{eqb}
use lib.ListN.{length, drop, length-take, length-drop}
use Rattle.rules.specs.declared.LineForm.{LineForm}
use Rattle.rules.specs.declared.LineForm.TheVariants as L
use Rattle.rules.specs.declared.Span.{Span}
use Rattle.rules.specs.Base.{choose, is_nil, same, bytes}
use Rattle.rules.specs.Lines.{brace, equals, Form, ignored, wrong, close, eof, keyed, Scan, neither, at_equal, at_brace, scan, unindent, allowed, with_key, form_from, form_of_rest, form_of, form_in, bytes_at}
use Rattle.rules.proofs.Chains.{by_cond}
use Rattle.lines.specs.declared.Seen.{Seen}
use Rattle.account.specs.declared.Volume.{Volume}
use Rattle.account.specs.declared.Pos.{Pos}
use Rattle.account.specs.Walk.{Next}
use Rattle.standing.specs.Reading.{PlacedForm}
use Rattle.standing.proofs.FileHeld.{PlacedForm as FilePlaced}

-- the rest of a line starts no later than the line ends
abbrev Before : ℕ → Form → Type 0
Before end ignored = Unit {0}
Before end (wrong n) = Unit {0}
Before end close = Unit {0}
Before end eof = Unit {0}
Before end (keyed k brace) = Unit {0}
Before end (keyed k (equals at c)) = at ≤ end

with-key : (end : ℕ) (k c : List ℕ) → Before end (with_key k (equals (end - length c) c))
with-key end [] c = tt
with-key end (b ∷ k) c = omega arith

with-brace : (end : ℕ) (k : List ℕ) → Before end (with_key k brace)
with-brace end [] = tt
with-brace end (b ∷ k) = tt

from-scan : (s : List ℕ) (end : ℕ) (r : Scan) → Before end (form_from s end r)
from-scan s end neither = by_cond (Before end) (same s (bytes "}")) (λ _. tt) λ _. by_cond (Before end) (same s (bytes "EOF")) (λ _. tt) (λ _. tt)
from-scan s end (at_equal k c) = with-key end k c
from-scan s end (at_brace k c) = by_cond (Before end) (is_nil c) (λ _. with-brace end k) (λ _. tt)

of-rest : (s : List ℕ) (end : ℕ) → Before end (form_of_rest s end)
of-rest [] end = tt
of-rest (b ∷ s) end = by_cond (Before end) (allowed (b ∷ s)) (λ _. from-scan (b ∷ s) end (scan (b ∷ s))) (λ _. tt)

of-line : (at : ℕ) (l : List ℕ) → Before (at + length l) (form_of at l)
unfolding form_of
of-line at [] = tt
of-line at (b ∷ s) = go (eqb b 35)
  where
    go : (t : Bool) → Before (at + length (b ∷ s)) (choose t (λ _. ignored) (λ _. form_of_rest (unindent (b ∷ s)) (at + length (b ∷ s))))
    go true = tt
    go false = of-rest (unindent (b ∷ s)) (at + length (b ∷ s))

part-short : (s : List ℕ) (p : Span) → length (bytes_at s p) ≤ length s
part-short s p = omega (arith, length-take p.len (drop p.at s), length-drop p.at s)

within : (s : List ℕ) (end : ℕ) (f : LineForm) → length s ≤ 61440 → end ≤ 61440 → Before end (form_in s f) → PlacedForm (form_in s f)
within s end L.Ignored h k b = tt
within s end L.Close h k b = tt
within s end L.Eof h k b = tt
within s end (L.Opens o) h k b = tt
within s end (L.Equals q) h k b = (omega (arith, k, b), omega (arith, h, part-short s q.rest))
within s end (L.Refused r) h k b = tt

-- a line that was seen in a spool
pub line-placed : (s body : List ℕ) (v : Volume) (p : Pos) (ls : List (List ℕ)) (f : Seen) → Next s body v p ls f → PlacedForm (form_in s f.form)
line-placed s body v p ls f n =
    within s (p.at + length n.line) f.form n.at.short (omega (arith, n.at.short, n.at.part.inside, n.at.here))
    (subst (Before (p.at + length n.line)) (sym n.form) (of-line p.at n.line))

-- in FILE_FORMAT's words
pub file-placed : (f : Form) → PlacedForm f → FilePlaced f
file-placed ignored h = tt
file-placed (wrong n) h = tt
file-placed close h = tt
file-placed eof h = tt
file-placed (keyed k brace) h = tt
file-placed (keyed k (equals at c)) h = (omega (arith, h.0), omega (arith, h.1))
