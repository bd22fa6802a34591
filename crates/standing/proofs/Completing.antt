-- What a line made complete, by what was open before and behind it.
use Prim.Native.Nat.{ℕ, ◌+◌}
use mathlib.Core.Bool.{Bool, cond}
use mathlib.Core.List.{List, append-nil}
use mathlib.Core.Path.{◌≡◌, refl, sym, ◌∙◌, ap, subst}
use native.Mathlib.Omega.{arith}
use borrow.Author.Tests.{eq-eqb, ne_eqb}
use lib.IntN.{ℤ}
use lib.ListN.{length, take, drop}
use Rattle.rules.specs.declared.Class.{Class}
use Rattle.rules.specs.RefusalNumbers.{got}
use Rattle.rules.specs.Rows.{Held}
use Rattle.rules.specs.Sets.{Set, is_first}
use Rattle.rules.specs.Machine.{Line, State, set_of, unlimited}
use Rattle.rules.specs.LineByLine.{step_in}
use Rattle.account.specs.declared.Now.{Now}
use Rattle.account.specs.declared.Complete.{Complete}
use Rattle.account.specs.declared.Complete.TheVariants as C
use Rattle.account.specs.Account.{at_block}
use Rattle.account.specs.Records.{with_part}
use Rattle.account.specs.FileLines.{file_width}
use Rattle.account.specs.Putting.{line_place, line_completed, close_completed, completed, close_number, number_for, cleared_by}
use Rattle.standing.specs.SoFar.{empty_record}
use Rattle.standing.specs.Kept.{shut_so_far, Opens, Fills, FillsAll}
use Rattle.standing.specs.Standing.{Desk, desk_now, desk_scratch, Made, StandsAt, Goes}

-- ── by the numbers of the two blocks ──
-- where these are known, what is said of them is computed
pub completed-by : (was is : Now) (a b : ℕ) → was.block ≡ a → is.block ≡ b → completed was is ≡ completed (at_block was a was.part) (at_block is b is.part)
completed-by was is a b p q =
    ap (λ (x : ℕ). completed (at_block was x was.part) is) p ∙ ap (λ (x : ℕ). completed (at_block was a was.part) (at_block is x is.part)) q

pub number_by : (was is : Now) (own a b : ℕ) → was.block ≡ a → is.block ≡ b → number_for was is own ≡ number_for (at_block was a was.part) (at_block is b is.part) own
number_by was is own a b p q =
    ap (λ (x : ℕ). number_for (at_block was x was.part) is own) p ∙ ap (λ (x : ℕ). number_for (at_block was a was.part) (at_block is x is.part) own) q

-- ── in the same block ──
completed-same : (was is : Now) → was.block ≡ is.block
    → completed was is ≡ line_completed was is
completed-same was is b = ap (λ (x : Bool). cond x (line_completed was is) (close_completed was is)) (eq-eqb was.block is.block b)

pub completed-none : (was is : Now) → was.block ≡ is.block → was.records ≡ is.records → completed was is ≡ C.Nothing
completed-none was is b r = completed-same was is b ∙ ap (λ (x : Bool). cond x C.Nothing (C.Record (line_place was.block))) (eq-eqb was.records is.records r)

completed-more : (was is : Now) → was.block ≡ is.block → is.records ≡ was.records + 1 → completed was is ≡ C.Record (line_place was.block)
completed-more was is b r =
    completed-same was is b
    ∙ ap (λ (x : Bool). cond x C.Nothing (C.Record (line_place was.block))) (ne_eqb was.records is.records (λ q. absurd (omega (arith, q, r))))

-- a record of one line
pub completed-line : (was is : Now) (a from : ℕ) → was.block ≡ a → line_place a ≡ from → is.block ≡ a → is.records ≡ was.records + 1 → completed was is ≡ C.Record from
completed-line was is a from p f q r = completed-more was is (p ∙ sym q) r ∙ ap C.Record (ap line_place p ∙ f)

pub number_same : (was is : Now) (own : ℕ) → was.block ≡ is.block → number_for was is own ≡ was.records
number_same was is own b = ap (λ (x : Bool). cond x was.records (close_number was is own)) (eq-eqb was.block is.block b)

-- ── the step ──
-- what each block has to say of a line that goes on
module _ (c : Class) (spool : List ℕ) (k : ℕ) (FileHere : Desk → Set → ℕ → Held → ℕ → Type 0) (own : ℕ) (l : Line) (to : ℕ) (st : State) (d : Desk) (n : Now) (st' : State)
    (step : step_in (unlimited c) l st ≡ got st') where
  abbrev Behind : List ℤ → Type 0
  Behind t = StandsAt c spool k FileHere (desk_now (desk_scratch d t) n) to st'

  goes_by : (done : Complete) → completed d.now n ≡ done → (number : ℕ) → number_for d.now n own ≡ number → (more : ℕ) → n.records ≡ d.now.records + more
      → (set_of st').taken ≡ (set_of st).taken + more → Made c st st' more number d.scratch d.header done → Behind (cleared_by done d.scratch) → Goes c spool k FileHere own l to st d n
  goes_by done q number p more r t made stands = record {
    state = st';
    step = step;
    more = more;
    records = r;
    taken = t;
    made =
        subst (λ (y : Complete). Made c st st' more (number_for d.now n own) d.scratch d.header y) (sym q)
        (subst (λ (i : ℕ). Made c st st' more i d.scratch d.header done) (sym p) made);
    stands = subst (λ (y : Complete). Behind (cleared_by y d.scratch)) (sym q) stands;
  }

  -- it made none complete, and took so many
  pub goes-opening : completed d.now n ≡ C.Nothing → (more : ℕ) → n.records ≡ d.now.records + more → (set_of st').taken ≡ (set_of st).taken + more → Opens c st st' more
      → Behind d.scratch → Goes c spool k FileHere own l to st d n
  goes-opening q more r t opens stands = goes_by C.Nothing q (number_for d.now n own) refl more r t opens stands

  -- it took none either
  pub goes_entering : completed d.now n ≡ C.Nothing → n.records ≡ d.now.records → (set_of st').taken ≡ (set_of st).taken → shut_so_far c st' ≡ shut_so_far c st
      → Behind d.scratch → Goes c spool k FileHere own l to st d n
  goes_entering q r t same stands =
      goes-opening q 0 (omega (arith, r)) (omega (arith, t)) (same ∙ sym (append-nil (shut_so_far c st))) stands

  -- .. in the block that stays open
  pub goes-still : d.now.block ≡ n.block → n.records ≡ d.now.records → (set_of st').taken ≡ (set_of st).taken → shut_so_far c st' ≡ shut_so_far c st
      → Behind d.scratch → Goes c spool k FileHere own l to st d n
  goes-still b r t same stands = goes_entering (completed-none d.now n b (sym r)) r t same stands

  -- it made the record complete that stands on the scratch at `from`
  pub goes_filling : (from number : ℕ) → completed d.now n ≡ C.Record from → number_for d.now n own ≡ number → (more : ℕ) → n.records ≡ d.now.records + more
      → (set_of st').taken ≡ (set_of st).taken + more → Fills c st st' more from number d.scratch → Behind (with_part from empty_record d.scratch) → Goes c spool k FileHere own l to st d n
  goes_filling from number q p more r t fills stands = goes_by (C.Record from) q number p more r t fills stands

  -- FILE_FORMAT's, which it took when it opened
  pub goes-heading : completed d.now n ≡ C.Header → number_for d.now n own ≡ own → n.records ≡ d.now.records → (set_of st').taken ≡ (set_of st).taken
      → FillsAll c st st' 0 own (take (file_width (is_first (set_of st))) d.header) → Behind d.scratch → Goes c spool k FileHere own l to st d n
  goes-heading q p r t fills stands = goes_by C.Header q own p 0 (omega (arith, r)) (omega (arith, t)) fills stands

  -- a wire's two, which it took when it opened
  pub goes_wiring : (number : ℕ) → completed d.now n ≡ C.Wire → number_for d.now n own ≡ number → n.records ≡ d.now.records → (set_of st').taken ≡ (set_of st).taken
      → length d.scratch ≡ 96 → FillsAll c st st' 0 number (take 64 (drop 32 d.scratch)) → Behind (with_part 64 empty_record (with_part 32 empty_record d.scratch)) → Goes c spool k FileHere own l to st d n
  goes_wiring number q p r t long fills stands = goes_by C.Wire q number p 0 (omega (arith, r)) (omega (arith, t)) (long, fills) stands
