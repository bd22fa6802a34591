-- A volume read line by line: the loop's invariant, and what the code's answers make of it.
use Rattle.std.specs.Prelude.{Option, None, Ok, Err}
use Prim.Native.Nat.{ℕ, ◌+◌, ◌≤◌}
use mathlib.Core.Bool.{Bool, true, false, cond, ◌||◌}
use mathlib.Core.List.{List, [], ◌∷◌, ◌++◌}
use mathlib.Core.Path.{◌≡◌, refl, sym, ◌∙◌, ap, subst}
use native.Mathlib.Omega.{arith}
use lib.Dec.{eqb}
use lib.IntN.{ℤ}
use lib.ListN.{length}
use Rattle.rules.specs.declared.Class.{Class}
use Rattle.rules.specs.declared.Refusal.{Refusal}
use Rattle.rules.specs.Base.{is_nil}
use Rattle.rules.specs.RefusalNumbers.{Got}
use Rattle.rules.specs.Sets.{Set}
use Rattle.rules.specs.Machine.{Line, State, top, limited_to}
use Rattle.rules.specs.LineByLine.{refused, then_run, run}
use Rattle.rules.specs.Answers.{lines_of_volume}
use Rattle.rules.proofs.Chains.{clash}
use Rattle.lines.specs.LineLook.{look_in}
use Rattle.lines.specs.declared.Seen.{Seen as SeenLine}
use Rattle.lines.proofs.LinesSeen.{look_none}
use Rattle.account.specs.declared.Now.{Now}
use Rattle.account.specs.declared.Step.{Step}
use Rattle.account.specs.declared.Step.TheVariants as S
use Rattle.account.specs.declared.Volume.{Volume}
use Rattle.account.specs.declared.Pos.{Pos}
use Rattle.account.specs.Putting.{within_limit, completed, number_for, put_by, cleared_by, own_after}
use Rattle.account.specs.Walk.{seen_or, seen_from, end_of, At, todo, Next}
use Rattle.account.specs.SkippedLines.{Low, SkipReady, SkipMet}
use Rattle.steps.specs.VolumeLines.{completes_of, last_step}
use Rattle.standing.specs.Standing.{Desk, desk_now, desk_scratch}
use Rattle.standing.specs.FileStanding.{InFile}
use Rattle.standing.specs.Reading.{Standing, LineReady, LinePromise, start_of, next_number, next_state, stop_of, through_of, Kept, volume_desk, VolumeReady, VolumeOut, VolumePromise}
use Rattle.account.proofs.Walked.{next-seen}
use Rattle.account.proofs.SeenLines.{past, seen_line, low-past}
use Rattle.steps.proofs.VolumeEnds.{LastOut}
use Rattle.steps.proofs.VolumeRun.{stands-later, stands-between, Gone, where_of, line-here, line_formed, passed, todo-on, refused-at, gone-on, stopped, skipped-on, skip-stopped, last, to-more}
use Rattle.lines.specs.declared.Seen.{Seen}

-- what a volume gives back of what it was lent
abbrev pub back_desk : Desk → Now → Desk
back_desk d n = volume_desk n d.tally d.symbols d.layers d.serials d.used_all

module _ (c : Class) (spool body : List ℕ) (v : Volume) (following : List ℕ) (limit : ℕ) (d₀ : Desk) (table₀ : List ℤ) where
  abbrev k : ℕ
  k = v.number

  -- at p, with these things lent, this number kept and this table: lines were read, or none is there
  pub record Through-to (p : Pos) (d : Desk) (own : ℕ) (table : List ℤ) : Type 0 where
    pub low : Low p
    pub going : (s : Set) (lines : List (List ℕ)) (more : List Line) → At spool body v (start_of v.at) lines → Standing c spool k d₀ v.at (top s 0) → Kept c limit table₀ d₀.now.records (top s 0)
        → is_nil lines ≡ false → Gone c spool body v following limit (top s 0) (start_of v.at) lines more p d own table
    pub fresh : (lines : List (List ℕ)) → At spool body v (start_of v.at) lines → is_nil lines ≡ true → p ≡ start_of v.at
    pub few : own ≤ limit

  pub begun : v.at ≤ 61441 → Through-to (start_of v.at) d₀ 0 table₀
  begun h = record {
    low = record { line = omega arith; at = h };
    going = λ s lines more a z x n. record { state = top s 0; rest = lines; at = a; some = n; stands = z; kept = x; own = tt; eq = refl };
    fresh = λ lines a n. refl;
    few = omega arith;
  }

  -- what the volume's lines are in the definitions
  lines-todo : (lines : List (List ℕ)) (more : List Line) → is_nil lines ≡ false → lines_of_volume k following v.at lines ++ more ≡ todo v following (start_of v.at) lines more
  lines-todo [] more n = clash refl n
  lines-todo (l ∷ ls) more n = refl

  empty-volume : (s : Set) (lines : List (List ℕ)) (more : List Line) → is_nil lines ≡ true → run (limited_to c limit) (top s 0) (lines_of_volume k following v.at lines ++ more) ≡ refused 9 k 0
  empty-volume s [] more n = by_next (is_nil following) refl
    where
      by_next : (b : Bool) → is_nil following ≡ b → run (limited_to c limit) (top s 0) (lines_of_volume k following v.at [] ++ more) ≡ refused 9 k 0
      by_next true h = rw h
      by_next false h = rw h
  empty-volume s (l ∷ ls) more n = clash n refl

  -- a volume without lines has no next one
  none-next : (p : Pos) (lines : List (List ℕ)) → At spool body v (start_of v.at) lines → is_nil lines ≡ true → p ≡ start_of v.at → (seen_from body v p).next ≡ p.at
  none-next p lines a h e =
      let n : lines ≡ [] = nil lines h in
      let l : look_in v.number 1 v.at v.at body ≡ None = look_none v.number 1 v.at v.at spool body lines a.part a.short a.begun a.here a.lines n in
      subst (λ (y : Pos). (seen_from body v y).next ≡ y.at) (sym e) (ap (λ (y : Option Seen). (seen_or v.at y).next) (ap (λ (m : ℕ). look_in v.number m v.at v.at body) one ∙ l))
    where
      one : 0 + 1 ≡ 1
      one = refl

      nil : (us : List (List ℕ)) → is_nil us ≡ true → us ≡ []
      nil [] h = refl
      nil (u ∷ us) h = clash h refl

  module _ (p : Pos) (d : Desk) (own : ℕ) (table : List ℤ) (i : Through-to p d own table) (f : SeenLine) (q : f ≡ seen_from body v p) where
    -- where the next line is no further, there is none: so the volume has no lines
    module _ (same : f.next ≡ p.at) where
      no_lines : (lines : List (List ℕ)) (s : Set) → At spool body v (start_of v.at) lines → Standing c spool k d₀ v.at (top s 0) → Kept c limit table₀ d₀.now.records (top s 0) → is_nil lines ≡ true
      no_lines lines s a z x = go (is_nil lines) refl
        where
          go : (b : Bool) → is_nil lines ≡ b → is_nil lines ≡ true
          go true h = h
          go false h =
              let g = i.going s lines [] a z x h in
              let n = subst (λ (y : SeenLine). Next spool body v p g.rest y) (sym q) (next-seen spool body v p g.rest g.at g.some) in
              absurd (omega (arith, n.next, same))

      pub ends-empty : (d₁ : Now → Desk) (table₁ : List ℤ) → VolumePromise c spool body v limit following d₀ table₀ d₁ table₁ (stop_of v 9 p.line)
      ends-empty d₁ table₁ s lines more a z x =
          let h = no_lines lines s a z x in empty-volume s lines more h ∙ ap (λ (y : Pos). refused 9 k y.line) (sym (i.fresh lines a h))

    -- where it is further, there are lines
    module _ (apart : (f.next ≡ p.at) → ⊥) where
      some-lines : (lines : List (List ℕ)) → At spool body v (start_of v.at) lines → is_nil lines ≡ false
      some-lines lines a = go (is_nil lines) refl
        where
          go : (b : Bool) → is_nil lines ≡ b → is_nil lines ≡ false
          go true h = absurd (apart (ap (λ (y : SeenLine). y.next) q ∙ none-next p lines a h (i.fresh lines a h)))
          go false h = h

      gone : (s : Set) (lines : List (List ℕ)) (more : List Line) → At spool body v (start_of v.at) lines → Standing c spool k d₀ v.at (top s 0) → Kept c limit table₀ d₀.now.records (top s 0)
          → Gone c spool body v following limit (top s 0) (start_of v.at) lines more p d own table
      gone s lines more a z x = i.going s lines more a z x (some-lines lines a)

      -- the line may be judged
      module _ (y : VolumeReady c spool body v limit d₀ table₀) where
        abbrev here : Gone c spool body v following limit (top y.set 0) (start_of v.at) y.lines [] p d own table
        here = gone y.set y.lines [] y.at y.stands y.kept

        pub line_ready : LineReady c spool k f.form (where_of c spool body v following limit p f) d following
        line_ready = record {
          at = p.at;
          to = f.next;
          state = here.state;
          line = seen_line spool v following p f;
          stands = here.stands;
          here = line-here c spool body v following limit (top y.set 0) (start_of v.at) y.lines [] p d own table here f q;
          next = refl;
          placed = line_formed c spool body v following limit (top y.set 0) (start_of v.at) y.lines [] p d own table here f q;
          early = omega (arith, here.at.here, here.at.part.inside, here.at.short);
          short = here.at.short;
          countable = omega (arith, here.kept.fits, y.countable);
        }

        -- the kept number is one of a record
        pub own-few : own_after d.now own ≤ limit
        own-few = by (eqb d.now.block 0 || eqb d.now.block 4)
          where
            by : (b : Bool) → cond b d.now.records own ≤ limit
            by true = here.kept.fits
            by false = i.few

      module _ (d₁ : Desk) (answer : Step) (promise : LinePromise c spool k f.form (where_of c spool body v following limit p f) d (desk_now d₁ d.now) following answer) where
        abbrev r : Step
        r = within_limit limit answer

        -- not the volume's last line
        module _ (h : f.last ≡ false) where
          pub on_go : VolumeReady c spool body v limit d₀ table₀ → (n : Now) → r ≡ S.Go n → (first : Bool) → first ≡ eqb k 1 → (scratch₁ table₁ : List ℤ) → scratch₁ ≡ cleared_by (completed d.now n) d₁.scratch
              → table₁ ≡ put_by (completed d.now n) first (number_for d.now n own) d₁.header d₁.scratch table
              → Through-to (past p f) (desk_now (desk_scratch d₁ scratch₁) n) (own_after d.now own) table₁
          on_go y n a first fv scratch₁ table₁ cleared put = record {
            low = low-past body v p f q h i.low;
            going = λ s lines more o z x m.
                gone-on c spool body v following limit (top s 0) (start_of v.at) lines more p d own table (gone s lines more o z x) f q d₁ answer promise h n a first fv scratch₁ table₁ cleared put;
            fresh = λ lines o m. clash m (some-lines lines o);
            few = own-few y;
          }

          pub skip_ready : SkipReady (past p f) 4
          skip_ready = record { low = low-past body v p f q h i.low; one = omega arith; four = omega arith }

          pub on_skip : (n : Now) → r ≡ S.Skip n → (q' : Pos) → SkipMet spool body v (past p f) 4 (Ok q') → Through-to q' (desk_now d₁ n) own table
          on_skip n a q' m = record {
            low = m.further.0;
            going = λ s lines more o z x y. skipped-on c spool body v following limit (top s 0) (start_of v.at) lines more p d own table (gone s lines more o z x) f q d₁ answer promise h n a q' m;
            fresh = λ lines o y. clash y (some-lines lines o);
            few = i.few;
          }

          pub ends_skip : (n : Now) → r ≡ S.Skip n → (x : Refusal) → SkipMet spool body v (past p f) 4 (Err x) → (d₂ : Now → Desk) (table₂ : List ℤ)
              → VolumePromise c spool body v limit following d₀ table₀ d₂ table₂ (Err x)
          ends_skip n a x m d₂ table₂ s lines more o z y =
              ap (run (limited_to c limit) (top s 0)) (lines-todo lines more (some-lines lines o))
              ∙ skip-stopped c spool body v following limit (top s 0) (start_of v.at) lines more p d own table (gone s lines more o z y) f q d₁ answer promise h n a x m

          pub ends-stop : (n : ℕ) → r ≡ S.Stop n → (d₂ : Now → Desk) (table₂ : List ℤ) → VolumePromise c spool body v limit following d₀ table₀ d₂ table₂ (stop_of v n (p.line + 1))
          ends-stop n a d₂ table₂ s lines more o z y =
              ap (run (limited_to c limit) (top s 0)) (lines-todo lines more (some-lines lines o))
              ∙ stopped c spool body v following limit (top s 0) (start_of v.at) lines more p d own table (gone s lines more o z y) f q d₁ answer promise h n a

        -- its last line
        module _ (h : f.last ≡ true) where
          abbrev done : Step
          done = last_step (completes_of d.now f.form (is_nil following)) r

          abbrev Last : State → Step → Type 0
          Last st w = LastOut c spool k (InFile spool k) limit (seen_line spool v following p f) f.next st (desk_now d₁ d.now) table w

          by_last : (s : Set) (lines : List (List ℕ)) (more : List Line) (o : At spool body v (start_of v.at) lines) (z : Standing c spool k d₀ v.at (top s 0)) (x : Kept c limit table₀ d₀.now.records (top s 0))
              (w : Step) → done ≡ w → VolumeOut c spool body v (is_nil following) limit (top s 0) (lines_of_volume k following v.at lines) more (back_desk d₁) table (through_of v (p.line + 1) w)
          by_last s lines more o z x (S.Go n) a =
              let g = gone s lines more o z x in
              let (s', e, b, y) = subst (Last g.state) a (last c spool body v following limit (top s 0) (start_of v.at) lines more p d own table g f q d₁ answer promise h) in
              let others = passed c spool body v following limit (top s 0) (start_of v.at) lines more p d own table g f q in (
                s',
                ap (run (limited_to c limit) (top s 0)) (lines-todo lines more (some-lines lines o))
                    ∙ todo-on c spool body v following limit (top s 0) (start_of v.at) lines more p d own table g f q
                    ∙ ap (λ (i : Got State). then_run i (seen_line spool v following p f) (λ i. run (limited_to c limit) i (todo v following (past p f) others.others more))) e
                    ∙ ap (run (limited_to c limit) (next_state (is_nil following) s')) (to-more c spool body v following limit (top s 0) (start_of v.at) lines more p d own table g f q d₁ answer promise h),
                stands-between c spool (next_number (is_nil following) k) (desk_now d₁ n) (InFile spool k (desk_now d₁ n)) (InFile spool (next_number (is_nil following) k) (back_desk d₁ n)) (end_of body v) (is_nil following) s'
                    (stands-later c spool (next_number (is_nil following) k) (desk_now d₁ n) (InFile spool k (desk_now d₁ n)) f.next (end_of body v) (next_state (is_nil following) s') others.at.here b),
                y,
              )
          by_last s lines more o z x (S.Skip n) a =
              let g = gone s lines more o z x in
              absurd (subst (Last g.state) a (last c spool body v following limit (top s 0) (start_of v.at) lines more p d own table g f q d₁ answer promise h))
          by_last s lines more o z x (S.Stop n) a =
              let g = gone s lines more o z x in
              ap (run (limited_to c limit) (top s 0)) (lines-todo lines more (some-lines lines o))
              ∙ refused-at c spool body v following limit (top s 0) (start_of v.at) lines more p d own table g f q n
              (subst (Last g.state) a (last c spool body v following limit (top s 0) (start_of v.at) lines more p d own table g f q d₁ answer promise h))

          pub ends_last : VolumePromise c spool body v limit following d₀ table₀ (back_desk d₁) table (through_of v (p.line + 1) done)
          ends_last s lines more o z x = by_last s lines more o z x done refl

-- every slice keeps its length
pub record SameLengths (d₀ d : Desk) (t₀ t : List ℤ) : Type 0 where
  pub tally : length d.tally ≡ length d₀.tally
  pub symbols : length d.symbols ≡ length d₀.symbols
  pub layers : length d.layers ≡ length d₀.layers
  pub serials : length d.serials ≡ length d₀.serials
  pub used_all : length d.used_all ≡ length d₀.used_all
  pub table : length t ≡ length t₀

-- and so do the arrays that begin anew in each volume
pub record OwnLengths (d : Desk) : Type 0 where
  pub used : length d.used ≡ 64
  pub marks : length d.marks ≡ 28
  pub inner : length d.inner ≡ 2
  pub header : length d.header ≡ 71
  pub scratch : length d.scratch ≡ 96
