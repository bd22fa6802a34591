-- The turns of the loop over a volume's lines, in the words of the code's variables.
use Rattle.std.specs.Prelude.{Result, Ok, Err}
use Prim.Native.Nat.{ℕ, ◌+◌, ◌<◌}
use mathlib.Core.Bool.{Bool, true, false, ◌&&◌}
use mathlib.Core.List.{List, [], ◌∷◌}
use mathlib.Core.Path.{◌≡◌, refl, sym, ◌∙◌, ap, subst}
use native.Mathlib.Omega.{arith}
use lib.IntN.{ℤ}
use lib.ListN.{length}
use lib.Dec.{eqb}
use borrow.Author.Tests.{ne_eqb}
use Rattle.rules.specs.declared.Class.{Class}
use Rattle.rules.specs.declared.Refusal.{Refusal}
use Rattle.rules.specs.Base.{is_nil}
use Rattle.lines.specs.declared.Seen.{Seen}
use Rattle.account.specs.declared.Now.{Now}
use Rattle.account.specs.declared.Step.{Step}
use Rattle.account.specs.declared.Step.TheVariants as S
use Rattle.account.specs.declared.Volume.{Volume}
use Rattle.account.specs.declared.Pos.{Pos}
use Rattle.account.specs.Putting.{within_limit, completed, number_for, put_by, cleared_by, own_after}
use Rattle.account.specs.Walk.{seen_from}
use Rattle.account.specs.SkippedLines.{Further, SkipReady, SkipMet}
use Rattle.steps.specs.VolumeLines.{completes_of, last_step}
use Rattle.standing.specs.Standing.{Desk, desk_now, desk_scratch}
use Rattle.standing.specs.Reading.{LineReady, LinePromise, start_of, stop_of, through_of, VolumeReady, VolumePromise}
use Rattle.account.proofs.SeenLines.{past}
use Rattle.steps.proofs.VolumeRun.{where_of}
use Rattle.steps.proofs.VolumeLoop.{back_desk, Through-to, begun, ends-empty, line_ready, on_go, skip_ready, on_skip, ends_skip, ends-stop, ends_last, SameLengths, OwnLengths}

pub none_following : (f : List ℕ) → eqb (length f) 0 ≡ is_nil f
none_following [] = refl
none_following (x ∷ xs) = ne_eqb (length (x ∷ xs)) 0 (λ e. omega (arith, e))

pub same-lengths : (d : Desk) (t : List ℤ) → SameLengths d d t t
same-lengths d t = record { tally = refl; symbols = refl; layers = refl; serials = refl; used_all = refl; table = refl }

-- s: the scratch, cleared; t₁: the table, with what was put there
pub same-on : (d₀ d d₁ : Desk) (t₀ t t₁ s : List ℤ) (n : Now) → SameLengths d₀ d t₀ t → SameLengths d d₁ t t → length t₁ ≡ length t → SameLengths d₀ (desk_now (desk_scratch d₁ s) n) t₀ t₁
same-on d₀ d d₁ t₀ t t₁ s n a b e = record {
  tally = b.tally ∙ a.tally;
  symbols = b.symbols ∙ a.symbols;
  layers = b.layers ∙ a.layers;
  serials = b.serials ∙ a.serials;
  used_all = b.used_all ∙ a.used_all;
  table = e ∙ a.table;
}

pub own_on : (d₁ : Desk) (s : List ℤ) (n : Now) → OwnLengths d₁ → length s ≡ length d₁.scratch → OwnLengths (desk_now (desk_scratch d₁ s) n)
own_on d₁ s n o e = record { used = o.used; marks = o.marks; inner = o.inner; header = o.header; scratch = e ∙ o.scratch }

-- behind a skipped block the reading is further
pub skipped-further : (spool body : List ℕ) (v : Volume) (p q : Pos) (l : Result Pos Refusal) → SkipMet spool body v p 4 l → l ≡ Ok q → Further body v p (Ok q)
skipped-further spool body v p q l m a = subst (Further body v p) a m.further

module _ (c : Class) (spool body : List ℕ) (v : Volume) (following : List ℕ) (limit : ℕ) (d₀ : Desk) (table₀ : List ℤ) where
  -- the loop's invariant: how far the reading is, what keeps its length, and what the code asked once
  pub record Turn (p : Pos) (d : Desk) (own : ℕ) (table : List ℤ) (first last_volume : Bool) : Type 0 where
    pub through : Through-to c spool body v following limit d₀ table₀ p d own table
    pub lengths : SameLengths d₀ d table₀ table
    pub arrays : OwnLengths d
    pub is-first : first ≡ eqb v.number 1
    pub is_last : last_volume ≡ is_nil following

  pub begins : VolumeReady c spool body v limit d₀ table₀ → OwnLengths d₀ → (last_volume : Bool) → last_volume ≡ is_nil following → Turn (start_of v.at) d₀ 0 table₀ (eqb v.number 1) last_volume
  begins y o last_volume e = record {
    through = begun c spool body v following limit d₀ table₀ (omega (arith, y.at.here, y.at.part.inside, y.at.short));
    lengths = same-lengths d₀ table₀;
    arrays = o;
    is-first = refl;
    is_last = e;
  }

  module _ (first last_volume : Bool) (p : Pos) (d : Desk) (own : ℕ) (table : List ℤ) (i : Turn p d own table first last_volume) (f : Seen) (q : f ≡ seen_from body v p) where
    pub turn-empty : f.next ≡ p.at → (d₁ : Now → Desk) (table₁ : List ℤ) (r : Result Now Refusal) → r ≡ stop_of v 9 p.line → VolumePromise c spool body v limit following d₀ table₀ d₁ table₁ r
    turn-empty same d₁ table₁ r a =
        subst (VolumePromise c spool body v limit following d₀ table₀ d₁ table₁) (sym a) (ends-empty c spool body v following limit d₀ table₀ p d own table i.through f q same d₁ table₁)

    module _ (apart : (f.next ≡ p.at) → ⊥) (ends : Bool) (both : ends ≡ (last_volume && f.last)) where
      ends_so : ends ≡ (is_nil following && f.last)
      ends_so = both ∙ ap (λ (b : Bool). b && f.last) i.is_last

      module _ (y : VolumeReady c spool body v limit d₀ table₀) where
        pub turn_ready : LineReady c spool v.number f.form (record { volume = v.number; line = p.line + 1; ends = ends }) d following
        turn_ready =
            subst (λ (b : Bool). LineReady c spool v.number f.form (record { volume = v.number; line = p.line + 1; ends = b }) d following)
            (sym ends_so) (line_ready c spool body v following limit d₀ table₀ p d own table i.through f q apart y)

        pub turn-own : own < 18446744073709551615
        turn-own = omega (arith, i.through.few, y.countable)

      module _ (d₁ : Desk) (answer : Step) (promise : LinePromise c spool v.number f.form (record { volume = v.number; line = p.line + 1; ends = ends }) d (desk_now d₁ d.now) following answer)
          (r : Step) (limited : r ≡ within_limit limit answer) where
        judged : LinePromise c spool v.number f.form (where_of c spool body v following limit p f) d (desk_now d₁ d.now) following answer
        judged =
            subst (λ (b : Bool). LinePromise c spool v.number f.form (record { volume = v.number; line = p.line + 1; ends = b }) d (desk_now d₁ d.now) following answer) ends_so promise

        module _ (h : f.last ≡ false) where
          pub turn-go : VolumeReady c spool body v limit d₀ table₀ → (n : Now) → r ≡ S.Go n → (scratch₁ table₁ : List ℤ) → scratch₁ ≡ cleared_by (completed d.now n) d₁.scratch
              → table₁ ≡ put_by (completed d.now n) first (number_for d.now n own) d₁.header d₁.scratch table
              → (own₁ : ℕ) → own₁ ≡ own_after d.now own → SameLengths d₀ (desk_now (desk_scratch d₁ scratch₁) n) table₀ table₁ → OwnLengths (desk_now (desk_scratch d₁ scratch₁) n)
              → Turn (past p f) (desk_now (desk_scratch d₁ scratch₁) n) own₁ table₁ first last_volume
          turn-go y n a scratch₁ table₁ cleared put own₁ e kept o = record {
            through =
                subst (λ (o : ℕ). Through-to c spool body v following limit d₀ table₀ (past p f) (desk_now (desk_scratch d₁ scratch₁) n) o table₁) (sym e)
                (on_go c spool body v following limit d₀ table₀ p d own table i.through f q apart d₁ answer judged h y n (sym limited ∙ a) first i.is-first scratch₁ table₁ cleared put);
            lengths = kept;
            arrays = o;
            is-first = i.is-first;
            is_last = i.is_last;
          }

          pub turn-block : SkipReady (past p f) 4
          turn-block = skip_ready c spool body v following limit d₀ table₀ p d own table i.through f q apart d₁ answer judged h

          pub turn_skip : (n : Now) → r ≡ S.Skip n → (l : Result Pos Refusal) → SkipMet spool body v (past p f) 4 l → (q' : Pos) → l ≡ Ok q' → SameLengths d₀ (desk_now d₁ n) table₀ table → OwnLengths (desk_now d₁ n)
              → Turn q' (desk_now d₁ n) own table first last_volume
          turn_skip n a l m q' b kept o = record {
            through = on_skip c spool body v following limit d₀ table₀ p d own table i.through f q apart d₁ answer judged h n (sym limited ∙ a) q' (subst (SkipMet spool body v (past p f) 4) b m);
            lengths = kept;
            arrays = o;
            is-first = i.is-first;
            is_last = i.is_last;
          }

          pub turn-left : (n : Now) → r ≡ S.Skip n → (l : Result Pos Refusal) → SkipMet spool body v (past p f) 4 l → (x : Refusal) → l ≡ Err x → (d₂ : Now → Desk) (table₂ : List ℤ)
              → VolumePromise c spool body v limit following d₀ table₀ d₂ table₂ (Err x)
          turn-left n a l m x b d₂ table₂ =
              ends_skip c spool body v following limit d₀ table₀ p d own table i.through f q apart d₁ answer judged h n (sym limited ∙ a) x (subst (SkipMet spool body v (past p f) 4) b m) d₂ table₂

          pub turn-stop : (n : ℕ) → r ≡ S.Stop n → (d₂ : Now → Desk) (table₂ : List ℤ) (t : Result Now Refusal) → t ≡ stop_of v n (p.line + 1) → VolumePromise c spool body v limit following d₀ table₀ d₂ table₂ t
          turn-stop n a d₂ table₂ t b =
              subst (VolumePromise c spool body v limit following d₀ table₀ d₂ table₂) (sym b)
              (ends-stop c spool body v following limit d₀ table₀ p d own table i.through f q apart d₁ answer judged h n (sym limited ∙ a) d₂ table₂)

        pub turn_last : f.last ≡ true → (complete : Bool) → complete ≡ completes_of d.now f.form last_volume → (done : Step) → done ≡ last_step complete r → (t : Result Now Refusal) → t ≡ through_of v (p.line + 1) done
            → VolumePromise c spool body v limit following d₀ table₀ (back_desk d₁) table t
        turn_last h complete a done b t x =
            subst
            (VolumePromise c spool body v limit following d₀ table₀ (back_desk d₁) table)
            (sym (x ∙ ap (through_of v (p.line + 1)) (b ∙ ap (λ (y : Bool). last_step y r) (a ∙ ap (completes_of d.now f.form) i.is_last) ∙ ap (last_step (completes_of d.now f.form (is_nil following))) limited)))
            (ends_last c spool body v following limit d₀ table₀ p d own table i.through f q apart d₁ answer judged h)
