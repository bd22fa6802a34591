-- A line that `next_line` saw, among the lines left: what it is in the code's words, and where the reading stands behind it.
use Rattle.std.specs.Prelude.{Option, Some, None}
use Prim.Native.Nat.{ℕ, suc, ◌+◌, ◌<◌, ◌≤◌}
use mathlib.Core.Bool.{Bool, false}
use mathlib.Core.List.{List, ◌∷◌}
use mathlib.Core.Path.{◌≡◌, refl, sym, ◌∙◌, ap, subst}
use native.Mathlib.Omega.{arith}
use lib.ListN.{length}
use Rattle.rules.specs.Base.{is_nil}
use Rattle.rules.specs.Lines.{Form, form_of, form_in}
use Rattle.rules.specs.Machine.{Line}
use Rattle.rules.proofs.Chains.{clash}
use Rattle.lines.specs.LineLook.{look_in}
use Rattle.lines.specs.declared.Seen.{Seen}
use Rattle.lines.proofs.LinesSeen.{look-forward}
use Rattle.account.specs.declared.Volume.{Volume}
use Rattle.account.specs.declared.Pos.{Pos}
use Rattle.account.specs.Walk.{seen_or, seen_from, end_of, At, todo, line_at, Next}
use Rattle.account.specs.SkippedLines.{Low}
use Rattle.account.proofs.Walked.{next-seen, todo-cons}

-- the reading behind it
abbrev pub past : Pos → Seen → Pos
past p f = record { at = f.next; line = p.line + 1 }

abbrev pub seen_line : List ℕ → Volume → List ℕ → Pos → Seen → Line
seen_line s v next p f = record { volume = v.number; line = p.line + 1; last = f.last; next = next; form = form_in s f.form }

-- the line and those behind it
pub record Passed (s body : List ℕ) (v : Volume) (p : Pos) (ls : List (List ℕ)) (f : Seen) : Type 0 where
  pub others : List (List ℕ)
  pub at : At s body v (past p f) others
  pub last : f.last ≡ is_nil others
  pub cons : (next : List ℕ) (more : List Line) → todo v next p ls more ≡ seen_line s v next p f ∷ todo v next (past p f) others more

pub passed-line : (s body : List ℕ) (v : Volume) (p : Pos) (ls : List (List ℕ)) (f : Seen) → f ≡ seen_from body v p → At s body v p ls → is_nil ls ≡ false → Passed s body v p ls f
passed-line s body v p ls f e a n =
    let x = subst (λ (g : Seen). Next s body v p ls g) (sym e) (next-seen s body v p ls a n) in
    let l = x.line in
    let us = x.others in
    let z : record { at = p.at + length l + 2; line = p.line + 1 } ≡ past p f = ap (λ (m : ℕ). record { at = m; line = p.line + 1 }) (sym x.next) in
    let u : suc p.line ≡ p.line + 1 = omega arith in
    record {
      others = us;
      at = subst (λ (q : Pos). At s body v q us) z x.at;
      last = x.last;
      cons = λ next more.
          ap (λ (ws : List (List ℕ)). todo v next p ws more) x.lines
          ∙ todo-cons v next p l us more
          ∙ ap (λ (q : Pos). line_at v next p l us ∷ todo v next q us more) z
          ∙ ap (λ (m : ℕ). record { volume = v.number; line = m; last = is_nil us; next = next; form = form_of p.at l } ∷ todo v next (past p f) us more) u
          ∙ ap (λ (b : Bool). record { volume = v.number; line = p.line + 1; last = b; next = next; form = form_of p.at l } ∷ todo v next (past p f) us more) (sym x.last)
          ∙ ap (λ (g : Form). record { volume = v.number; line = p.line + 1; last = f.last; next = next; form = g } ∷ todo v next (past p f) us more) (sym x.form);
    }

abbrev pub Forward : List ℕ → Volume → Pos → Seen → Type 0
Forward body v p g = (p.at < g.next) × (g.next ≤ end_of body v + 1) × (g.next ≤ 61441)

-- whatever the bytes: a line that is not the last goes on, and stays in the spool's places
pub seen-forward : (body : List ℕ) (v : Volume) (p : Pos) (f : Seen) → f ≡ seen_from body v p → f.last ≡ false → Forward body v p f
seen-forward body v p f e n = subst (Forward body v p) (sym e) (go (look_in v.number (p.line + 1) v.at p.at body) refl (ap (λ (g : Seen). g.last) (sym e) ∙ n))
  where
    go : (r : Option Seen) → look_in v.number (p.line + 1) v.at p.at body ≡ r → (seen_or p.at r).last ≡ false → Forward body v p (seen_or p.at r)
    go None q h = clash refl h
    go (Some g) q h = look-forward v.number (p.line + 1) v.at p.at body g q

pub low-past : (body : List ℕ) (v : Volume) (p : Pos) (f : Seen) → f ≡ seen_from body v p → f.last ≡ false → Low p → Low (past p f)
low-past body v p f e n h = let m = seen-forward body v p f e n in let a = h.line in record { line = omega (arith, m.0); at = m.2 }
