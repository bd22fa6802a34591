-- A volume's lines walked through: how far the writing has come, and what one more line makes of it.
use Rattle.std.specs.Prelude.{Some, None, Result, Ok, Err}
use Prim.Native.Nat.{ℕ, suc, ◌+◌, ◌<◌}
use mathlib.Core.Bool.{Bool, true, false, cond, not}
use mathlib.Core.List.{List, [], ◌∷◌}
use mathlib.Core.Path.{◌≡◌, refl, sym, ◌∙◌, ap, subst}
use native.Mathlib.Omega.{arith}
use lib.Dec.{eqb}
use lib.ListN.{length}
use Rattle.rules.specs.Base.{is_nil}
use Rattle.rules.specs.RefusalNumbers.{got}
use Rattle.rules.specs.Lines.{Form, form_of}
use Rattle.rules.specs.Values.{Known}
use Rattle.rules.specs.Sets.{Set}
use Rattle.rules.specs.Machine.{Line, Env, State, top}
use Rattle.rules.specs.LineByLine.{step_in}
use Rattle.rules.specs.Answers.{numbered, full_class}
use Rattle.rules.proofs.Chains.{clash, then-got}
use Rattle.lines.specs.LineLook.{look_in}
use Rattle.lines.specs.declared.Seen.{Seen}
use Rattle.lines.proofs.LinesSeen.{look-end}
use Rattle.pens.specs.declared.Pen.{Pen}
use Rattle.pens.specs.Texts.{line_bytes, Safe, SafeAfter}
use Rattle.pens.specs.Shown.{shown}
use Rattle.pens.specs.Passing.{LinesAt, forms_of}
use Rattle.pens.specs.Standing.{Pens, Along}
use Rattle.pens.specs.Drawing.{LineOut, DrawPromise}
use Rattle.volumes.specs.Volumes.{through, Begins}
use Rattle.volumes.proofs.VolumeSound.{Sound}
use Rattle.volumes.proofs.VolumeSteps.{step-goes, through-goes}
use Rattle.volumes.proofs.WireAlong.{along-step}
use Rattle.pens.proofs.LinesLeft.{line-next}
use Rattle.leaves.specs.declared.NoRoom.{NoRoom}
use Rattle.leaves.specs.NoRoom.{no_room}

-- ── how far the writing has come ──
-- a reading of the volume's lines
pub record Reading (spool body : List ℕ) (start : ℕ) (first : Bool) : Type 0 where
  pub known : Known
  pub env : Env
  pub volume : ℕ
  pub name : List ℕ
  pub lines : List (List ℕ)
  pub set : Set
  pub ends : State
  pub class-is : env.class ≡ full_class
  pub all_lines : LinesAt spool body start start lines
  pub begins : Begins first set
  pub goes : through env (top set 0) (numbered volume name 1 start lines) ≡ got ends

-- and its lines that are left
pub record Left (spool body : List ℕ) (start : ℕ) (first : Bool) (x : Reading spool body start first) (p : Pen) (at from : ℕ) (going : Bool) (ns out : List ℕ) : Type 0 where
  pub state : State
  pub number : ℕ
  pub rest : List (List ℕ)
  pub left : LinesAt spool body start at rest
  pub over : going ≡ false → rest ≡ []
  pub sound : Sound first x.set state
  pub pens : Pens x.known spool first p ns out state
  pub along : Along spool body start from (forms_of at rest) state
  pub goes : through x.env state (numbered x.volume x.name number at rest) ≡ got x.ends

pub record Walk (spool body : List ℕ) (start : ℕ) (first : Bool) (before : List ℕ) (p : Pen) (at from : ℕ) (going : Bool) (ns out : List ℕ) : Type 0 where
  pub long : length out ≡ length before
  pub many : length ns ≡ 28
  pub safe : Safe p out
  pub left : (x : Reading spool body start first) → Left spool body start first x p at from going ns out

module _ (spool body : List ℕ) (start : ℕ) (first : Bool) where
  abbrev pub begun : Pen
  begun = record { block = 0; part = 0; layered = false; start = 0; at = 0 }

  pub walk_begins : (ns out : List ℕ) → length ns ≡ 28 → Walk spool body start first out begun start start true ns out
  walk_begins ns out many = record {
    long = refl;
    many = many;
    safe = record { begun = omega arith; within = omega arith };
    left = λ x. record {
      state = top x.set 0;
      number = 1;
      rest = x.lines;
      left = x.all_lines;
      over = λ e. clash refl e;
      sound = record { volumes = refl; drawing = λ _. refl; symbols = λ _. refl };
      pens =
          record {
            at = refl;
            fits = omega arith;
            text = refl;
            many = many;
            here = (refl, (x.begins.volume, x.begins.bare, x.begins.served));
          };
      along = tt;
      goes = x.goes;
    };
  }

  module _ (before : List ℕ) (p : Pen) (at from : ℕ) (going : Bool) (ns out : List ℕ) (w : Walk spool body start first before p at from going ns out) where
    -- no line was seen
    pub walk_ends : look_in 1 1 start at body ≡ None → Walk spool body start first before p at from false ns out
    walk_ends q = record {
      long = w.long;
      many = w.many;
      safe = w.safe;
      left = λ x.
          let y = w.left x in
          let a = y.left in
          record {
            state = y.state;
            number = y.number;
            rest = y.rest;
            left = y.left;
            over = λ _. look-end 1 1 start at spool body y.rest a.part a.short a.begun a.here a.lines q;
            sound = y.sound;
            pens = y.pens;
            along = y.along;
            goes = y.goes;
          };
    }

    -- a line was seen
    module _ (f : Seen) (q : look_in 1 1 start at body ≡ Some f) (ns' out' : List ℕ) (d : Result Pen NoRoom) (promise : DrawPromise spool body start from first f.form p ns ns' out out' d) where
      -- it took the reading on
      pub record Went (x : Reading spool body start first) : Type 0 where
        pub state : State
        pub number : ℕ
        pub others : List (List ℕ)
        pub left : LinesAt spool body start f.next others
        pub last : f.last ≡ is_nil others
        pub sound : Sound first x.set state
        pub out-is : LineOut x.known spool first state ns' out' d
        pub along : Along spool body start (cond (eqb p.block 12) from f.next) (forms_of f.next others) state
        pub goes : through x.env state (numbered x.volume x.name number f.next others) ≡ got x.ends

      pub went : (x : Reading spool body start first) → Went x
      went x =
          let y = w.left x in
          let z = line-next spool body start at y.rest y.left f q in
          let l : Line = record { volume = x.volume; line = y.number; last = is_nil z.others; next = x.name; form = form_of at z.line } in
          let goes : through x.env y.state (l ∷ numbered x.volume x.name (suc y.number) (at + length z.line + 2) z.others) ≡ got x.ends =
          ap (λ (us : List (List ℕ)). through x.env y.state (numbered x.volume x.name y.number at us)) (sym z.lines) ∙ y.goes in
          let (st₁, step, on) = then-got (step_in x.env l y.state) (λ st. through x.env st (numbered x.volume x.name (suc y.number) (at + length z.line + 2) z.others)) x.ends goes in
          let forms : forms_of at y.rest ≡ form_of at z.line ∷ forms_of f.next z.others =
          ap (forms_of at) z.lines ∙ ap (λ (m : ℕ). form_of at z.line ∷ forms_of m z.others) z.next in
          let along : Along spool body start from (l.form ∷ forms_of f.next z.others) y.state = subst (λ (gs : List Form). Along spool body start from gs y.state) forms y.along in
          record {
            state = st₁;
            number = suc y.number;
            others = z.others;
            left = z.left;
            last = z.last;
            sound = (step-goes x.known first x.set x.begins.volume x.env l y.state st₁ y.sound step).sound;
            out-is = promise x.known x.env l (forms_of f.next z.others) y.state st₁ x.class-is z.form z.placed z.fits y.pens along step;
            along = along-step spool body start x.known first p ns from f.next z.others z.left x.env l x.class-is z.fits st₁ y.state y.pens.here along step;
            goes = ap (λ (m : ℕ). through x.env st₁ (numbered x.volume x.name (suc y.number) m z.others)) (sym z.next) ∙ on;
          }

      -- there was no room for it, so there is none for all
      pub walk-short : (x : Reading spool body start first) → d ≡ Err no_room → length out' ≡ length out → length before < length (line_bytes (shown x.known first x.ends))
      walk-short x e size =
          let g = went x in
          let full : length out' < length (line_bytes (shown x.known first g.state)) = subst (LineOut x.known spool first g.state ns' out') e g.out-is in
          let (s, more) =
          through-goes x.known first x.set x.begins.volume x.env (numbered x.volume x.name g.number f.next g.others) g.state x.ends g.sound g.goes in
          omega (arith, full, more, size, w.long)

      pub walk-on : (p' : Pen) → d ≡ Ok p' → length out' ≡ length out → length ns' ≡ 28 → SafeAfter d out' → (from' : ℕ) → from' ≡ cond (eqb p.block 12) from f.next → Walk spool body start first before p' f.next from' (not f.last) ns' out'
      walk-on p' e size many safe from' place = record {
        long = size ∙ w.long;
        many = many;
        safe = subst (λ (u : Result Pen NoRoom). SafeAfter u out') e safe;
        left = λ x.
            let g = went x in
            record {
              state = g.state;
              number = g.number;
              rest = g.others;
              left = g.left;
              over = λ h. none_left g.others f.last g.last h;
              sound = g.sound;
              pens = subst (LineOut x.known spool first g.state ns' out') e g.out-is;
              along = subst (λ (m : ℕ). Along spool body start m (forms_of f.next g.others) g.state) (sym place) g.along;
              goes = g.goes;
            };
      }
        where
          none_left : (us : List (List ℕ)) (b : Bool) → b ≡ is_nil us → not b ≡ false → us ≡ []
          none_left [] b e h = refl
          none_left (u ∷ us) b e h = clash (ap not e) h
