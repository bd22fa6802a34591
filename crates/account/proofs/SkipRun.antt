-- Skipping a block: what one line does to the loop's invariant and to the contract, over plain variables.
use Rattle.std.specs.Prelude.{Result, Ok, Err}
use Prim.Native.Nat.{ℕ, zero, suc, ◌+◌, ◌-◌, ◌<◌, ◌≤◌}
use mathlib.Core.Bool.{Bool, true, false}
use mathlib.Core.List.{List, ◌∷◌}
use mathlib.Core.Path.{◌≡◌, refl, sym, ◌∙◌, ap, subst}
use native.Mathlib.Omega.{arith}
use lib.Dec.{ltb}
use borrow.Author.Tests.{lt-ltb, le-ltb}
use Rattle.rules.specs.declared.Refusal.{Refusal}
use Rattle.rules.specs.Base.{is_nil}
use Rattle.rules.specs.RefusalNumbers.{Got, got, bad, unless}
use Rattle.rules.specs.Lines.{Form, ignored, wrong, close, eof, keyed, form_in}
use Rattle.rules.specs.RangeClass.{Skip, passes, deeper, no_form, skip_of, most_depth}
use Rattle.rules.specs.Sets.{Set, Figure}
use Rattle.rules.specs.Machine.{Line, Env, Owned, symbol_block, wire_block, State, skipping}
use Rattle.rules.specs.PlacedSymbol.{by_skip, skip_deeper, skip_shut, on_skipping}
use Rattle.rules.specs.LineByLine.{step_in, refused, run}
use Rattle.lines.specs.declared.Seen.{Seen}
use Rattle.account.specs.declared.Volume.{Volume}
use Rattle.account.specs.declared.Pos.{Pos}
use Rattle.account.specs.declared.Skipped.{Skipped}
use Rattle.account.specs.declared.Skipped.TheVariants as S
use Rattle.account.specs.Walk.{stop_at, seen_from, At, todo}
use Rattle.account.specs.SkippedLines.{skipped_as, skipped_by, early_skip, InOwned, skipped, unskipped, Skips, in_placed, in_wire, Came, Refused, CameOr, Low, SkipReady, SkipMet}
use Rattle.account.proofs.RunSteps.{early, step-on, step-refused, step-early}
use Rattle.account.proofs.SeenLines.{past, seen_line, Passed, passed-line, seen-forward, low-past}

-- ── a line in a skipped block ──
-- what it does to the machine
abbrev turn : Set → ℕ → List Figure → ℕ → Owned → ℕ → Skipped → Got State
turn t h fs n b d S.Passes = got (skipping t h fs n b d)
turn t h fs n b d S.Deeper = skip_deeper d (skipping t h fs n b (suc d))
turn t h fs n b d S.Shut = skip_shut t h fs n b d
turn t h fs n b d (S.Refuse m) = bad m

turns : (t : Set) (h : ℕ) (fs : List Figure) (n : ℕ) (b : Owned) (d : ℕ) (f : Form) → on_skipping t h fs n b d f ≡ turn t h fs n b d (skipped_by f)
turns t h fs n b d ignored = refl
turns t h fs n b d (wrong m) = refl
turns t h fs n b d close = refl
turns t h fs n b d eof = refl
turns t h fs n b d (keyed k c) = go (skip_of k c)
  where
    go : (x : Skip) → by_skip x (got (skipping t h fs n b d)) (skip_deeper d (skipping t h fs n b (suc d))) ≡ turn t h fs n b d (skipped_as x)
    go passes = refl
    go deeper = refl
    go no_form = refl

shuts : (t : Set) (h : ℕ) (fs : List Figure) (n : ℕ) (b : Owned) (d : ℕ) → 1 ≤ d → turn t h fs n b d S.Shut ≡ got (unskipped d t h fs n b)
shuts t h fs n b zero g = absurd (omega arith)
shuts t h fs n b (suc zero) g = refl
shuts t h fs n b (suc (suc d)) g = refl

-- an inner block has closed
inner-shut : (t : Set) (h : ℕ) (fs : List Figure) (n : ℕ) (b : Owned) (d : ℕ) → 1 ≤ d → unskipped (suc d) t h fs n b ≡ skipped d t h fs n b
inner-shut t h fs n b zero g = absurd (omega arith)
inner-shut t h fs n b (suc d) g = refl

early-turn : (t : Set) (h : ℕ) (fs : List Figure) (n : ℕ) (b : Owned) (d : ℕ) → 1 ≤ d → (did : Skipped) → early (turn t h fs n b d did) ≡ early_skip did
early-turn t h fs n b d g S.Passes = refl
early-turn t h fs n b d g S.Deeper = go (ltb d most_depth)
  where
    go : (x : Bool) → early (unless x 18 (got (skipping t h fs n b (suc d)))) ≡ 9
    go true = refl
    go false = refl
early-turn t h fs n b d g S.Shut = ap early (shuts t h fs n b d g)
early-turn t h fs n b d g (S.Refuse m) = refl

-- ── the loop ──
-- its invariant: the run from p is the run from q
pub record Going (s body : List ℕ) (v : Volume) (left : ℕ) (p q : Pos) : Type 0 where
  pub came : (ls : List (List ℕ)) → At s body v p ls → is_nil ls ≡ false → Came s body v p ls (skipped (5 - left)) (skipped (5 - left)) q
  pub low : Low q
  pub on : p.at ≤ q.at
  pub one : 1 ≤ left
  pub four : left ≤ 4

pub start : (s body : List ℕ) (v : Volume) (left : ℕ) (p : Pos) → SkipReady p left → Going s body v left p p
start s body v left p r =
    record {
      came = λ ls a n. record { rest = ls; at = a; some_left = n; eq = λ e t h fs k b next more. refl };
      low = r.low;
      on = omega arith;
      one = r.one;
      four = r.four;
    }

module _ (s body : List ℕ) (v : Volume) (left : ℕ) (p q : Pos) (g : Going s body v left p q) (f : Seen) (w : f ≡ seen_from body v q) (did : Skipped) (z : did ≡ skipped_by (form_in s f.form)) where
  abbrev d : ℕ
  d = 5 - left

  deep : 1 ≤ d
  deep = let b = g.four in omega arith

  abbrev line_of : List ℕ → Line
  line_of next = seen_line s v next q f

  acts : (e : Env) (t : Set) (h : ℕ) (fs : List Figure) (n : ℕ) (b : Owned) (next : List ℕ) → step_in e (line_of next) (skipped d t h fs n b) ≡ turn t h fs n b d did
  acts e t h fs n b next = turns t h fs n b d (form_in s f.form) ∙ ap (turn t h fs n b d) (sym z)

  -- the run from p is the run from this line
  module _ (ls : List (List ℕ)) (a : At s body v p ls) (n : is_nil ls ≡ false) where
    abbrev here : Came s body v p ls (skipped d) (skipped d) q
    here = g.came ls a n

    abbrev this : Passed s body v q here.rest f
    this = passed-line s body v q here.rest f w here.at here.some_left

    abbrev behind_it : List ℕ → List Line → List Line
    behind_it next more = todo v next (past q f) this.others more

    comes : (e : Env) (t : Set) (h : ℕ) (fs : List Figure) (k : ℕ) (b : Owned) (next : List ℕ) (more : List Line)
        → run e (skipped d t h fs k b) (todo v next p ls more) ≡ run e (skipped d t h fs k b) (line_of next ∷ behind_it next more)
    comes e t h fs k b next more = here.eq e t h fs k b next more ∙ ap (run e (skipped d t h fs k b)) (this.cons next more)

    -- it is not the last: the machine goes on
    goes : f.last ≡ false → (to : InOwned) → ((t : Set) (h : ℕ) (fs : List Figure) (k : ℕ) (b : Owned) → turn t h fs k b d did ≡ got (to t h fs k b)) → Came s body v p ls (skipped d) to (past q f)
    goes l to y =
        record {
          rest = this.others;
          at = this.at;
          some_left = sym this.last ∙ l;
          eq = λ e t h fs k b next more.
              comes e t h fs k b next more ∙ step-on e (skipped d t h fs k b) (line_of next) (behind_it next more) (to t h fs k b) l (acts e t h fs k b next ∙ y t h fs k b);
        }

    -- or it refuses
    stops : f.last ≡ false → (m : ℕ) → ((t : Set) (h : ℕ) (fs : List Figure) (k : ℕ) (b : Owned) → turn t h fs k b d did ≡ bad m) → Refused v p ls (skipped d) (stop_at v (past q f) m)
    stops l m y =
        record {
          eq = λ e t h fs k b next more.
              comes e t h fs k b next more ∙ step-refused e (skipped d t h fs k b) (line_of next) (behind_it next more) m l (acts e t h fs k b next ∙ y t h fs k b);
        }

    -- it is the last of its volume
    ends : f.last ≡ true → (m : ℕ) → m ≡ early_skip did → Refused v p ls (skipped d) (stop_at v (past q f) m)
    ends l m y =
        record {
          eq = λ e t h fs k b next more.
              comes e t h fs k b next more
              ∙ step-early e (skipped d t h fs k b) (line_of next) (behind_it next more) refl l
              ∙ ap (λ (x : ℕ). refused x v.number (q.line + 1)) (ap early (acts e t h fs k b next) ∙ early-turn t h fs k b d deep did ∙ sym y);
        }

  pub at_last : f.last ≡ true → (m : ℕ) → m ≡ early_skip did → SkipMet s body v p left (Err (stop_at v (past q f) m))
  at_last l m y = record { met = λ ls a n. ends ls a n l m y; further = tt }

  module _ (l : f.last ≡ false) where
    onward : (r : Pos) → (past q f).at ≤ r.at → p.at < r.at
    onward r h = let m = seen-forward body v q f w l in let a = g.on in omega (arith, m.0)

    turned-to : S.Shut ≡ did → (t : Set) (h : ℕ) (fs : List Figure) (n : ℕ) (b : Owned) → turn t h fs n b d did ≡ got (unskipped d t h fs n b)
    turned-to y t h fs n b = ap (turn t h fs n b d) (sym y) ∙ shuts t h fs n b d deep

    pub stays : S.Passes ≡ did → Going s body v left p (past q f)
    stays y =
        let m = seen-forward body v q f w l in
        let a = g.on in
        record {
          came = λ ls a n. goes ls a n l (skipped d) (λ t h fs k b. ap (turn t h fs k b d) (sym y));
          low = low-past body v q f w l g.low;
          on = omega (arith, m.0);
          one = g.one;
          four = g.four;
        }

    pub shut : S.Shut ≡ did → SkipMet s body v p left (Ok (past q f))
    shut y =
        let m = seen-forward body v q f w l in
        record { met = λ ls a n. goes ls a n l (unskipped d) (turned-to y); further = (low-past body v q f w l g.low, onward (past q f) (omega arith), m.1) }

    pub refuses : (m : ℕ) → S.Refuse m ≡ did → SkipMet s body v p left (Err (stop_at v (past q f) m))
    refuses m y = record { met = λ ls a n. stops ls a n l m (λ t h fs k b. ap (turn t h fs k b d) (sym y)); further = tt }

    pub too-deep : S.Deeper ≡ did → left ≡ 1 → SkipMet s body v p left (Err (stop_at v (past q f) 18))
    too-deep y h =
        let x : most_depth ≤ d = omega arith in
        record { met = λ ls a n. stops ls a n l 18 (λ t k fs m b. ap (turn t k fs m b d) (sym y) ∙ rw (le-ltb d most_depth x) refl); further = tt }

    -- the inner block
    module _ (y : S.Deeper ≡ did) (h : left ≡ 1 → ⊥) where
      fewer : 2 ≤ left
      fewer = let a = g.one in omega (arith, h)

      deeper-by : 5 - (left - 1) ≡ suc d
      deeper-by = let a = fewer in let b = g.four in omega arith

      pub inner_ready : SkipReady (past q f) (left - 1)
      inner_ready = let a = fewer in let b = g.four in record { low = low-past body v q f w l g.low; one = omega arith; four = omega arith }

      opened : (t : Set) (k : ℕ) (fs : List Figure) (n : ℕ) (b : Owned) → turn t k fs n b d did ≡ got (skipped (suc d) t k fs n b)
      opened t k fs n b = let a = fewer in let x : d < most_depth = omega arith in ap (turn t k fs n b d) (sym y) ∙ rw (lt-ltb d most_depth x) refl

      -- the inner block's contract, one deeper
      inner : (r : Result Pos Refusal) → SkipMet s body v (past q f) (left - 1) r → (us : List (List ℕ)) → At s body v (past q f) us → is_nil us ≡ false → CameOr s body v (past q f) us (skipped (suc d)) (unskipped (suc d)) r
      inner r k us a n = subst (λ (m : ℕ). CameOr s body v (past q f) us (skipped m) (unskipped m) r) deeper-by (k.met us a n)

      pub inner-stops : (x : Refusal) → SkipMet s body v (past q f) (left - 1) (Err x) → SkipMet s body v p left (Err x)
      inner-stops x k =
          record {
            met = λ ls a n.
                let c = goes ls a n l (skipped (suc d)) opened in
                let i = inner (Err x) k c.rest c.at c.some_left in
                record { eq = λ e t h fs m b next more. c.eq e t h fs m b next more ∙ i.eq e t h fs m b next more };
            further = tt;
          }

      pub goes_on : (r : Pos) → SkipMet s body v (past q f) (left - 1) (Ok r) → Going s body v left p r
      goes_on r k =
          let x = k.further in
          let y = x.1 in
          let b = onward r (omega arith) in
          record {
            came = λ ls a n.
                let c = goes ls a n l (skipped (suc d)) opened in
                let i = inner (Ok r) k c.rest c.at c.some_left in
                record {
                  rest = i.rest;
                  at = i.at;
                  some_left = i.some_left;
                  eq = λ e t h fs m b next more.
                      c.eq e t h fs m b next more
                      ∙ i.eq e t h fs m b next more
                      ∙ ap (λ (st : State). run e st (todo v next r i.rest more)) (inner-shut t h fs m b d deep);
                };
            low = x.0;
            on = omega arith;
            one = g.one;
            four = g.four;
          }

-- ── the contract, of a line that opens a block ──
module _ (s body : List ℕ) (v : Volume) (p : Pos) (ls : List (List ℕ)) (a : At s body v p ls) (n : is_nil ls ≡ false) where
  pub skipped-run : (q : Pos) (m : SkipMet s body v p 4 (Ok q)) {inside behind : State} → Skips inside behind → (e : Env) (next : List ℕ) (more : List Line)
      → run e inside (todo v next p ls more) ≡ run e behind (todo v next q (m.met ls a n).rest more)
  skipped-run q m (in_placed t h fs k o) e next more = (m.met ls a n).eq e t h fs k (symbol_block o) next more
  skipped-run q m (in_wire t h fs k w) e next more = (m.met ls a n).eq e t h fs k (wire_block w) next more

  pub skipped-refused : (x : Refusal) → SkipMet s body v p 4 (Err x) → {inside behind : State} → Skips inside behind → (e : Env) (next : List ℕ) (more : List Line)
      → run e inside (todo v next p ls more) ≡ refused x.number x.volume x.line
  skipped-refused x m (in_placed t h fs k o) e next more = (m.met ls a n).eq e t h fs k (symbol_block o) next more
  skipped-refused x m (in_wire t h fs k w) e next more = (m.met ls a n).eq e t h fs k (wire_block w) next more
