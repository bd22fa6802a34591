-- A volume read line by line: how far the reading has come, and what one more line makes of it.
use Rattle.std.specs.Prelude.{Ok, Err}
use Prim.Native.Nat.{ℕ, ◌+◌, ◌≤◌}
use mathlib.Core.Bool.{Bool, true, false, cond, ◌&&◌}
use mathlib.Core.List.{List, [], ◌∷◌, append-nil}
use mathlib.Core.Path.{◌≡◌, refl, sym, ◌∙◌, ap, subst}
use native.Mathlib.Omega.{arith}
use borrow.Author.Tests.{le-leb, lt-leb, ltb-true, ltb-false}
use lib.Dec.{eqb, leb, ltb}
use lib.IntN.{ℤ, pos}
use lib.ListN.{length, replicate}
use Rattle.rules.specs.declared.Class.{Class}
use Rattle.rules.specs.declared.Refusal.{Refusal}
use Rattle.rules.specs.Base.{is_nil}
use Rattle.rules.specs.RefusalNumbers.{Got, got, bad, unless}
use Rattle.rules.specs.Lines.{Form, form_in}
use Rattle.rules.specs.Rows.{Held}
use Rattle.rules.specs.Sets.{Set, is_first}
use Rattle.rules.specs.Machine.{Line, Env, State, top, ended, set_of, unlimited, limited_to}
use Rattle.rules.specs.LineByLine.{step_in, step, refused, then_run, run}
use Rattle.rules.proofs.Chains.{clash}
use Rattle.promises.proofs.Limits.{capped, limited}
use Rattle.lines.specs.declared.Seen.{Seen as SeenLine}
use Rattle.account.specs.declared.Now.{Now}
use Rattle.account.specs.declared.Where.{Where}
use Rattle.account.specs.declared.Step.{Step}
use Rattle.account.specs.declared.Step.TheVariants as S
use Rattle.account.specs.declared.Complete.TheVariants as C
use Rattle.account.specs.declared.Volume.{Volume}
use Rattle.account.specs.declared.Pos.{Pos}
use Rattle.account.specs.Putting.{within_limit, completed, number_for, put_by, cleared_by, own_after}
use Rattle.account.specs.Walk.{seen_from, At, todo, Next}
use Rattle.account.specs.SkippedLines.{Skips, in_placed, in_wire, SkipMet}
use Rattle.steps.specs.VolumeLines.{completes_of, last_step}
use Rattle.standing.specs.Kept.{Scratch, OwnAt}
use Rattle.standing.specs.Standing.{Desk, inside, form_size, Inside, Stands, desk_now, desk_scratch, LineHere, Counted, Goes, StepOut}
use Rattle.standing.specs.FileStanding.{InFile}
use Rattle.standing.specs.Reading.{Standing, PlacedForm, LinePromise, next_state, Kept, volume_desk}
use Rattle.standing.proofs.FormPlaces.{line-placed}
use Rattle.standing.proofs.KeptLaws.{kept-opens}
use Rattle.standing.proofs.OpenBlocks
use Rattle.standing.proofs.OwnKept.{own-kept}
use Rattle.standing.proofs.ScratchKept.{scratch-zeros}
use Rattle.standing.proofs.PutKept.{own_behind_lem, kept_put}
use Rattle.standing.proofs.Standings.{first-volume}
use Rattle.account.proofs.Headers.{header-block}
use Rattle.account.proofs.RunSteps.{step-on, step-refused}
use Rattle.account.proofs.Walked.{next-seen}
use Rattle.account.proofs.SkipRun.{skipped-run, skipped-refused}
use Rattle.account.proofs.SeenLines.{past, seen_line, Passed, passed-line}
use Rattle.steps.proofs.FormSizes.{form-fits}
use Rattle.steps.proofs.VolumeStanding.{completes_of_lem}
use Rattle.steps.proofs.VolumeEnds.{Judged, LastOut, last_out}

-- the same reading at a later place
pub stands-later : (c : Class) (spool : List ℕ) (k : ℕ) (d : Desk) (F : Set → ℕ → Held → ℕ → Type 0) (at to : ℕ) (st : State) → at ≤ to → Stands c spool k d F at st → Stands c spool k d F to st
stands-later c spool k d F at to st h z = record {
  lengths = z.lengths;
  scratch = z.scratch;
  here = z.here;
  this = z.this;
  tally = z.tally;
  symbols = z.symbols;
  layers = z.layers;
  few-layers = z.few-layers;
  serials = z.serials;
  used = z.used;
  used_all = z.used_all;
  counted = omega (arith, z.counted, h);
  named = omega (arith, z.named, h);
  numbered = omega (arith, z.numbered, h);
  block = z.block;
}

-- between two volumes nothing is open: what only a block needs is as good as new, and FILE_FORMAT's part says nothing
pub stands-between : (c : Class) (spool : List ℕ) (k : ℕ) (d : Desk) (F G : Set → ℕ → Held → ℕ → Type 0) (at : ℕ) (b : Bool) (s : Set) → Stands c spool k d F at (next_state b s)
    → Stands c spool k (volume_desk d.now d.tally d.symbols d.layers d.serials d.used_all) G at (next_state b s)
stands-between c spool k d F G at b s z = record {
  lengths = record {
    symbols = z.lengths.symbols;
    layers = z.lengths.layers;
    serials = z.lengths.serials;
    used = refl;
    used_all = z.lengths.used_all;
    marks = refl;
    inner = refl;
    header = refl;
    scratch = refl;
  };
  scratch = zeros b;
  here = z.here;
  this = z.this;
  tally = z.tally;
  symbols = z.symbols;
  layers = z.layers;
  few-layers = z.few-layers;
  serials = z.serials;
  used = λ h. clash h (outside b);
  used_all = z.used_all;
  counted = z.counted;
  named = z.named;
  numbered = z.numbered;
  block = same b z.block;
}
  where
    zeros : (b : Bool) → Scratch (replicate 96 (pos 0)) (next_state b s)
    zeros true = scratch-zeros (ended s) refl refl refl
    zeros false = scratch-zeros (top s 0) refl refl refl

    outside : (b : Bool) → inside (next_state b s) ≡ false
    outside true = refl
    outside false = refl

    same : (b : Bool) → Inside c spool k d F (next_state b s) → Inside c spool k (volume_desk d.now d.tally d.symbols d.layers d.serials d.used_all) G (next_state b s)
    same true h = h
    same false h = h

-- behind a skipped block no own record is open
own-skipped : (c : Class) (own : ℕ) {inside behind : State} → Skips inside behind → OwnAt c own behind
own-skipped c own (in_placed s m fs i o) = tt
own-skipped c own (in_wire s m fs i w) = tt

same-skipped : {inside behind : State} → Skips inside behind → set_of inside ≡ set_of behind
same-skipped (in_placed s m fs i o) = refl
same-skipped (in_wire s m fs i w) = refl

module _ (c : Class) (spool body : List ℕ) (v : Volume) (following : List ℕ) (limit : ℕ) where
  abbrev k : ℕ
  k = v.number

  abbrev env : Env
  env = limited_to c limit

  -- from a volume's first line to p, with this number kept and this table
  pub record Gone (st₀ : State) (p₀ : Pos) (lines : List (List ℕ)) (more : List Line) (p : Pos) (d : Desk) (number : ℕ) (table : List ℤ) : Type 0 where
    pub state : State
    pub rest : List (List ℕ)
    pub at : At spool body v p rest
    pub some : is_nil rest ≡ false
    pub stands : Standing c spool k d p.at state
    pub kept : Kept c limit table d.now.records state
    pub own : OwnAt c number state
    pub eq : run env st₀ (todo v following p₀ lines more) ≡ run env state (todo v following p rest more)

  abbrev pub where_of : Pos → SeenLine → Where
  where_of p f = record { volume = v.number; line = p.line + 1; ends = is_nil following && f.last }

  module _ (st₀ : State) (p₀ : Pos) (lines : List (List ℕ)) (more : List Line) (p : Pos) (d : Desk) (number : ℕ) (table : List ℤ) (g : Gone st₀ p₀ lines more p d number table) (f : SeenLine)
      (q : f ≡ seen_from body v p) where
    abbrev l : Line
    l = seen_line spool v following p f

    -- the next line
    pub passed : Passed spool body v p g.rest f
    passed = passed-line spool body v p g.rest f q g.at g.some

    next-is : Next spool body v p g.rest f
    next-is = subst (λ (y : SeenLine). Next spool body v p g.rest y) (sym q) (next-seen spool body v p g.rest g.at g.some)

    pub line-here : LineHere spool k p.at f.next f.form (where_of p f) l
    line-here =
        let y = next-is in
        let size : form_size (form_in spool f.form) ≤ length y.line = subst (λ (x : Form). form_size x ≤ length y.line) (sym y.form) (form-fits p.at y.line) in
        record {
          volume = refl;
          line = refl;
          ends = refl;
          is = refl;
          bytes = omega (arith, size, y.next);
          most = omega (arith, passed.at.here, passed.at.part.inside, passed.at.short);
        }

    pub line_formed : PlacedForm l.form
    line_formed = line-placed spool body v p g.rest f next-is

    pub todo-on : run env st₀ (todo v following p₀ lines more) ≡ run env g.state (l ∷ todo v following (past p f) passed.others more)
    todo-on = g.eq ∙ ap (run env g.state) (passed.cons following more)

    pub refused-at : (n : ℕ) → step env l g.state ≡ bad n → run env st₀ (todo v following p₀ lines more) ≡ refused n k (p.line + 1)
    refused-at n h = todo-on ∙ ap (λ (y : Got State). then_run y l (λ s. run env s (todo v following (past p f) passed.others more))) h

    -- ── the answer ──
    module _ (d₁ : Desk) (answer : Step) (promise : LinePromise c spool k f.form (where_of p f) d (desk_now d₁ d.now) following answer) where
      abbrev was : Desk
      was = desk_now d₁ d.now

      counted : Counted c number d g.state
      counted = record { taken = g.kept.taken; size = g.kept.size; own = g.own }

      -- with a limit the line is as without one, and 19 where it took a record too many
      with-limit : (x : Got State) → step_in (unlimited c) l g.state ≡ x → step_in env l g.state ≡ capped c limit l x
      with-limit x e = limited c limit l g.state (omega (arith, g.kept.taken, g.kept.fits)) ∙ ap (capped c limit l) e

      room : (st : State) (n : ℕ) → (set_of st).taken ≡ n → capped c limit l (got st) ≡ unless (leb n limit) 19 (got st)
      room st n e = ap (λ (i : ℕ). unless (leb i limit) 19 (got st)) e

      judge : (r : Step) → StepOut c spool k (InFile spool k) number l f.next g.state was r → Judged c spool k (InFile spool k) limit number l f.next g.state was (within_limit limit r)
      judge (S.Go n) x = by (ltb limit n.records) refl
        where
          told : step_in env l g.state ≡ unless (leb n.records limit) 19 (got x.state)
          told = with-limit (got x.state) x.step ∙ room x.state n.records (x.taken ∙ omega (arith, g.kept.taken, x.records))

          by : (b : Bool) → ltb limit n.records ≡ b → Judged c spool k (InFile spool k) limit number l f.next g.state was (cond b (S.Stop 19) (S.Go n))
          by true e = told ∙ ap (λ (y : Bool). unless y 19 (got x.state)) (lt-leb n.records limit (ltb-true limit n.records e))
          by false e =
              let fits : n.records ≤ limit = ltb-false limit n.records e in
              (x, told ∙ ap (λ (y : Bool). unless y 19 (got x.state)) (le-leb n.records limit fits), fits)
      judge (S.Skip n) x =
          let few : (set_of x.inside).taken ≤ limit = omega (arith, ap (λ (s : Set). s.taken) (same-skipped x.skips), x.taken, g.kept.taken, g.kept.fits) in
          (x, with-limit (got x.inside) x.step ∙ room x.inside (set_of x.inside).taken refl ∙ ap (λ (y : Bool). unless y 19 (got x.inside)) (le-leb (set_of x.inside).taken limit few))
      judge (S.Stop m) x = with-limit (bad m) x

      pub judged : Judged c spool k (InFile spool k) limit number l f.next g.state was (within_limit limit answer)
      judged = judge answer (promise number l p.at f.next g.state line-here refl line_formed g.stands counted)

      abbrev r : Step
      r = within_limit limit answer

      abbrev Out : Step → Type 0
      Out y = Judged c spool k (InFile spool k) limit number l f.next g.state was y

      -- ── not the volume's last line ──
      module _ (h : f.last ≡ false) where
        some_left : is_nil passed.others ≡ false
        some_left = sym passed.last ∙ h

        -- what was made complete is in the table, and cleared
        module _ (n : Now) (a : r ≡ S.Go n) (first : Bool) (fv : first ≡ eqb k 1) (scratch₁ table₁ : List ℤ) (cleared : scratch₁ ≡ cleared_by (completed d.now n) d₁.scratch)
            (put : table₁ ≡ put_by (completed d.now n) first (number_for d.now n number) d₁.header d₁.scratch table) where
          went : Out (S.Go n)
          went = subst Out a judged

          abbrev x : Goes c spool k (InFile spool k) number l f.next g.state was n
          x = went.0

          did : step_in env l g.state ≡ got x.state
          did = went.1

          -- the first volume's FILE_FORMAT has two records
          first-file : completed d.now n ≡ C.Header → first ≡ is_first (set_of g.state)
          first-file e = fv ∙ by g.state (OpenBlocks.in-file c spool k d (InFile spool k d) g.state g.stands.block (header-block d.now n e)) g.stands
            where
              by : (st : State) → OpenBlocks.InFileFormat st → Standing c spool k d p.at st → eqb k 1 ≡ is_first (set_of st)
              by _ (OpenBlocks.here s i o j) z = first-volume k s z.block.1.volume

          kept₁ : Kept c limit table₁ n.records x.state
          kept₁ =
              subst (λ (i : ℕ). Kept c limit table₁ i x.state) (sym x.records)
              (kept_put c limit table d.now.records x.more g.state x.state g.kept (x.taken ∙ ap (λ (i : ℕ). i + x.more) g.kept.taken) (omega (arith, went.2, x.records))
              (number_for d.now n number) d₁.scratch d₁.header first (completed d.now n) x.made (omega (arith, x.stands.lengths.header)) first-file table₁ put)

          pub gone-on : Gone st₀ p₀ lines more (past p f) (desk_now (desk_scratch d₁ scratch₁) n) (own_after d.now number) table₁
          gone-on = record {
            state = x.state;
            rest = passed.others;
            at = passed.at;
            some = some_left;
            stands = subst (λ (y : List ℤ). Standing c spool k (desk_now (desk_scratch d₁ y) n) f.next x.state) (sym cleared) x.stands;
            kept = kept₁;
            own =
                subst (λ (i : ℕ). OwnAt c i x.state) (own_behind_lem c spool k d (InFile spool k d) number g.state g.stands.block)
                (own-kept c env l d.now.records number g.state x.state g.own g.kept.size did);
            eq = todo-on ∙ step-on env g.state l (todo v following (past p f) passed.others more) x.state h did;
          }

        pub stopped : (n : ℕ) → r ≡ S.Stop n → run env st₀ (todo v following p₀ lines more) ≡ refused n k (p.line + 1)
        stopped n a = todo-on ∙ step-refused env g.state l (todo v following (past p f) passed.others more) n h (subst Out a judged)

        -- a block was skipped
        pub skipped-on : (n : Now) → r ≡ S.Skip n → (q' : Pos) → SkipMet spool body v (past p f) 4 (Ok q') → Gone st₀ p₀ lines more q' (desk_now d₁ n) number table
        skipped-on n a q' m =
            let (x, did) = subst Out a judged in
            let w = m.met passed.others passed.at some_left in
            let none : n.records ≡ d.now.records + 0 = omega (arith, x.records) in
            record {
              state = x.behind;
              rest = w.rest;
              at = w.at;
              some = w.some_left;
              stands = stands-later c spool k (desk_now d₁ n) (InFile spool k (desk_now d₁ n)) f.next q'.at x.behind (omega (arith, m.further.1)) x.stands;
              kept =
                  subst (λ (i : ℕ). Kept c limit table i x.behind) (sym none)
                  (kept-opens c limit table d.now.records 0 g.state x.behind g.kept (omega (arith, x.taken, g.kept.taken)) (omega (arith, g.kept.fits)) (x.same ∙ sym (append-nil _)));
              own = own-skipped c number x.skips;
              eq =
                  todo-on ∙ step-on env g.state l (todo v following (past p f) passed.others more) x.inside h did
                  ∙ skipped-run spool body v (past p f) passed.others passed.at some_left q' m x.skips env following more;
            }

        pub skip-stopped : (n : Now) → r ≡ S.Skip n → (y : Refusal) → SkipMet spool body v (past p f) 4 (Err y) → run env st₀ (todo v following p₀ lines more) ≡ refused y.number y.volume y.line
        skip-stopped n a y m =
            let (x, did) = subst Out a judged in
            todo-on ∙ step-on env g.state l (todo v following (past p f) passed.others more) x.inside h did
            ∙ skipped-refused spool body v (past p f) passed.others passed.at some_left y m x.skips env following more

      -- ── the volume's last line ──
      module _ (h : f.last ≡ true) where
        none_left : passed.others ≡ []
        none_left = go passed.others refl
          where
            go : (us : List (List ℕ)) → passed.others ≡ us → passed.others ≡ []
            go [] y = y
            go (x ∷ us) y = clash (sym passed.last ∙ h) (ap is_nil y)

        pub last : LastOut c spool k (InFile spool k) limit l f.next g.state was table (last_step (completes_of d.now f.form (is_nil following)) r)
        last =
            last_out c spool k (InFile spool k) limit number l f.next g.state d was table h refl g.stands.block g.kept (completes_of d.now f.form (is_nil following))
            (sym (completes_of_lem spool l f.form refl c k d (InFile spool k d) g.state g.stands.block)) r judged

        pub to-more : todo v following (past p f) passed.others more ≡ more
        to-more = ap (λ (us : List (List ℕ)). todo v following (past p f) us more) none_left
