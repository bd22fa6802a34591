-- What a skipped line does, as the code answers it, and what skipping a block promises.
use Rattle.std.specs.Prelude.{ℕ, zero, suc, ◌+◌, ◌-◌, ◌≤◌, ◌<◌, min, false, ◌≡◌, List, Result, Ok, Err}
use Rattle.rules.specs.declared.Refusal.{Refusal}
use Rattle.rules.specs.Base.{is_nil}
use Rattle.rules.specs.Lines.{equals, Form, ignored, wrong, close, eof, keyed, shape_of}
use Rattle.rules.specs.RangeClass.{Skip, passes, deeper, no_form, skip_shape, skip_of}
use Rattle.rules.specs.Sets.{Set, Figure, Wire}
use Rattle.rules.specs.Rows.{Held}
use Rattle.rules.specs.Machine.{Line, Env, Owned, symbol_block, wire_block, State, placing, skipping}
use Rattle.rules.specs.PlacedSymbol.{skip_ended}
use Rattle.rules.specs.LineByLine.{refused, run}
use Rattle.account.specs.declared.Volume.{Volume}
use Rattle.account.specs.declared.Pos.{Pos}
use Rattle.account.specs.declared.Skipped.{Skipped}
use Rattle.account.specs.declared.Skipped.TheVariants as S
use Rattle.account.specs.Walk.{end_of, At, todo}

-- ── one line ──
abbrev pub skipped_as : Skip → Skipped
skipped_as passes = S.Passes
skipped_as deeper = S.Deeper
skipped_as no_form = S.Refuse 5

-- a line `key=` with this content behind it, where the content is not free text; its place does not matter
unfoldable pub skip_content : List ℕ → Skipped
skip_content c = skipped_as (skip_shape (shape_of (equals 0 c)))

abbrev pub skipped_by : Form → Skipped
skipped_by ignored = S.Passes
skipped_by (wrong m) = S.Refuse m
skipped_by close = S.Shut
skipped_by eof = S.Refuse 9
skipped_by (keyed k c) = skipped_as (skip_of k c)

-- a volume's last line: the block has not closed
abbrev pub early_skip : Skipped → ℕ
early_skip S.Passes = 9
early_skip S.Deeper = 9
early_skip S.Shut = 9
early_skip (S.Refuse n) = min n 9

-- ── a block ──
-- a state of the layer's block that is open: its set, its layer, the figures before it, its line, what it holds
abbrev pub InOwned : Type 0
InOwned = Set → ℕ → List Figure → ℕ → Owned → State

-- d skipped blocks are open
abbrev pub skipped : ℕ → InOwned
skipped d s h fs n b = skipping s h fs n b d

-- the last of d skipped blocks has closed
abbrev pub unskipped : ℕ → InOwned
unskipped zero s h fs n b = skip_ended s h fs n b
unskipped (suc zero) s h fs n b = skip_ended s h fs n b
unskipped (suc (suc d)) s h fs n b = skipping s h fs n b (suc d)

-- a line that opens a skipped block in a placed symbol or a wire: behind it the one state, past the block's `}` the other
pub data Skips : State → State → Type 0 where
  in_placed : (s : Set) (h : ℕ) (fs : List Figure) (n : ℕ) (o : Held) → Skips (skipping s h fs n (symbol_block o) 1) (placing s h fs n (symbol_block o) 0)
  in_wire : (s : Set) (h : ℕ) (fs : List Figure) (n : ℕ) (w : Wire) → Skips (skipping s h fs n (wire_block w) 1) (placing s h fs n (wire_block w) 0)

-- from p on these lines are left; the reading came from there, in one state of any such block, to q, in another, and lines are left
pub record Came (s body : List ℕ) (v : Volume) (p : Pos) (ls : List (List ℕ)) (from to : InOwned) (q : Pos) : Type 0 where
  pub rest : List (List ℕ)
  pub at : At s body v q rest
  pub some_left : is_nil rest ≡ false
  pub eq : (e : Env) (t : Set) (h : ℕ) (fs : List Figure) (n : ℕ) (b : Owned) (next : List ℕ) (more : List Line)
      → run e (from t h fs n b) (todo v next p ls more) ≡ run e (to t h fs n b) (todo v next q rest more)

-- or it was refused
pub record Refused (v : Volume) (p : Pos) (ls : List (List ℕ)) (from : InOwned) (f : Refusal) : Type 0 where
  pub eq : (e : Env) (t : Set) (h : ℕ) (fs : List Figure) (n : ℕ) (b : Owned) (next : List ℕ) (more : List Line)
      → run e (from t h fs n b) (todo v next p ls more) ≡ refused f.number f.volume f.line

abbrev pub CameOr : List ℕ → List ℕ → Volume → Pos → List (List ℕ) → InOwned → InOwned → Result Pos Refusal → Type 0
CameOr s body v p ls from to (Ok q) = Came s body v p ls from to q
CameOr s body v p ls from to (Err f) = Refused v p ls from f

-- no line's number is greater than its place, and no place than that behind a spool's last line
pub record Low (p : Pos) : Type 0 where
  pub line : p.line ≤ p.at
  pub at : p.at ≤ 61441

abbrev pub Further : List ℕ → Volume → Pos → Result Pos Refusal → Type 0
Further body v p (Ok q) = Low q × (p.at < q.at) × (q.at ≤ end_of body v + 1)
Further body v p (Err f) = Unit {0}

-- `left` blocks may be open in each other, this one counted
pub record SkipReady (p : Pos) (left : ℕ) : Type 0 where
  pub low : Low p
  pub one : 1 ≤ left
  pub four : left ≤ 4

pub record SkipMet (s body : List ℕ) (v : Volume) (p : Pos) (left : ℕ) (r : Result Pos Refusal) : Type 0 where
  pub met : (ls : List (List ℕ)) → At s body v p ls → is_nil ls ≡ false → CameOr s body v p ls (skipped (5 - left)) (unskipped (5 - left)) r
  pub further : Further body v p r
