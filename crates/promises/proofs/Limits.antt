-- The table's limit changes nothing of a set that fits: with it and without it the same lines give the same set.
use Rattle.std.specs.Prelude.{Option}
use Prim.Native.Nat.{ℕ, zero, suc, ◌+◌, ◌≤◌, ◌<◌}
use mathlib.Core.Bool.{Bool, true, false, cond}
use mathlib.Core.List.{List, [], ◌∷◌}
use mathlib.Core.Path.{◌≡◌, refl, sym, ap, subst}
use native.Mathlib.Nat.{le_refl, le_of_eq, le-add_right}
use native.Mathlib.Omega.{arith}
use lib.Dec.{leb}
use lib.ListN.{length}
use borrow.Author.Tests.{leb-true, leb-false, le-leb, lt-leb}
use Rattle.rules.specs.declared.Class.{Class}
use Rattle.rules.specs.RefusalNumbers.{Got, got, bad, unless, map_g, and_then, also}
use Rattle.rules.specs.Lines.{Rest, Form, ignored, wrong, close, eof, keyed}
use Rattle.rules.specs.RangeClass.{knows_wires, Skip, passes, deeper, no_form}
use Rattle.rules.specs.Values.{Value}
use Rattle.rules.specs.Rows.{Found, absent, found, Held, Act, stay, entry, begin, shut, refuse}
use Rattle.rules.specs.Sets.{Wire, Figure, Symbol, Drawing, Set, nothing_yet}
use Rattle.rules.specs.RecordTable.{records_of}
use Rattle.rules.specs.Machine.{Line, unlimited, limited_to, Home, in_element, in_layer, State, top, file, drawing, layer_names, defines, symbol, hide, elements, figures, successive, texts, placing, skipping, ended, set_of, by_act, open_top, on_top, shut_part, on_layer_names, open_symbol, close_figures, open_placed, open_figure}
use Rattle.rules.specs.PlacedSymbol.{by_skip, on_unknown, on_placed_key, on_placed_own, on_placing, skip_ended, unread_shut, skip_shut, on_skipping}
use Rattle.rules.specs.LineByLine.{step_in, completes, next_volume, step, accepted, then_run, run}
use Rattle.rules.specs.Machine.{symbol_block, wire_block, wire_unread, Owned, begin_wire, open_wire}
use Rattle.rules.specs.Wires.{on_wire_act, on_wire_unknown, on_wire_key, on_wire}
use Rattle.rules.proofs.Chains.{never, On}
use Rattle.rules.proofs.Runs.{not-accepted, finish-ended}
use Rattle.promises.proofs.Count.{count-taken}

-- ── what a line gives without a limit and with the limit m, where n records were taken before ──
-- the same, or without a limit a state with more than m records, and with it 19
pub data Alike (m n : ℕ) : Got State → Got State → Type 0 where
  refuses : {k : ℕ} → Alike m n (bad k) (bad k)
  goes : (st : State) → n ≤ (set_of st).taken → (n ≤ m → (set_of st).taken ≤ m) → Alike m n (got st) (got st)
  over : (st : State) → n ≤ (set_of st).taken → m < (set_of st).taken → Alike m n (got st) (bad 19)

-- the next volume begins with what was taken
same_taken : (st : State) → set_of (next_volume st) ≡ set_of st
same_taken (top s k) = refl
same_taken (file s n h p) = refl
same_taken (drawing s d) = refl
same_taken (layer_names s d) = refl
same_taken (defines s b) = refl
same_taken (symbol s y) = refl
same_taken (hide s y ps) = refl
same_taken (elements s) = refl
same_taken (figures s h fs) = refl
same_taken (successive s h fs n ps) = refl
same_taken (texts s h fs n o) = refl
same_taken (placing s h fs n o p) = refl
same_taken (skipping s h fs n o d) = refl
same_taken (ended s) = refl

module _ {m n : ℕ} where
  alike-unless : (t : Bool) (k : ℕ) (g h : Got State) → Alike m n g h → Alike m n (unless t k g) (unless t k h)
  alike-unless true k g h w = w
  alike-unless false k g h w = refuses

  alike-cond : (t : Bool) (g h g' h' : Got State) → Alike m n g h → Alike m n g' h' → Alike m n (cond t g g') (cond t h h')
  alike-cond true g h g' h' p q = p
  alike-cond false g h g' h' p q = q

  alike_then : {A : Type 0} (x : Got A) (f f' : A → Got State) → ((a : A) → Alike m n (f a) (f' a)) → Alike m n (and_then x f) (and_then x f')
  alike_then (got a) f f' w = w a
  alike_then (bad k) f f' w = refuses

  alike-also : (t : Bool) {g h : Got State} → Alike m n g h → Alike m n (also t 9 g) (also t 9 h)
  alike-also true w = w
  alike-also false refuses = refuses
  alike-also false (goes st p w) = refuses
  alike-also false (over st p q) = refuses

  alike-act : (st : State) (en en' : ℕ → Value → Got State) (op op' : ℕ → ℕ → Value → Got State) (cl cl' : Unit {0} → Got State) (a : Act)
      → n ≤ (set_of st).taken → (n ≤ m → (set_of st).taken ≤ m) → ((j : ℕ) (v : Value) → Alike m n (en j v) (en' j v)) → ((i j : ℕ) (v : Value) → Alike m n (op i j v) (op' i j v)) → Alike m n (cl tt) (cl' tt)
      → Alike m n (by_act st en op cl a) (by_act st en' op' cl' a)
  alike-act st en en' op op' cl cl' stay p i q r w = goes st p i
  alike-act st en en' op op' cl cl' (entry j v) p i q r w = q j v
  alike-act st en en' op op' cl cl' (begin k j v) p i q r w = r k j v
  alike-act st en en' op op' cl cl' shut p i q r w = w
  alike-act st en en' op op' cl cl' (refuse k) p i q r w = refuses

  alike-shut : (p : ℕ) (whole : Got State) (back : ℕ → State) → Alike m n whole whole → ((q : ℕ) → n ≤ (set_of (back q)).taken) → ((q : ℕ) → n ≤ m → (set_of (back q)).taken ≤ m) → Alike m n (shut_part p whole back) (shut_part p whole back)
  alike-shut zero whole back w h g = w
  alike-shut (suc p) whole back w h g = goes _ (h _) (g _)

  alike_skip : (k : Skip) (g h : Got State) → Alike m n g g → Alike m n h h → Alike m n (by_skip k g h) (by_skip k g h)
  alike_skip passes g h p q = p
  alike_skip deeper g h p q = q
  alike_skip no_form g h p q = refuses

  -- the one place that looks at the limit
  alike-room : (k : ℕ) (st : State) → n ≤ k → k ≡ (set_of st).taken → Alike m n (got st) (unless (leb k m) 19 (got st))
  alike-room k st p e = go (leb k m) refl
    where
      go : (t : Bool) → leb k m ≡ t → Alike m n (got st) (unless t 19 (got st))
      go true r = goes st (rw (← e) p) (λ _. rw (← e) (leb-true k m r))
      go false r = over st (rw (← e) p) (rw (← e) (leb-false k m r))

  alike_next : {g h : Got State} → Alike m n g h → Alike m n (map_g next_volume g) (map_g next_volume h)
  alike_next refuses = refuses
  alike_next (goes st p w) = goes (next_volume st) (rw (same_taken st) p) (rw (same_taken st) w)
  alike_next (over st p q) = over (next_volume st) (rw (same_taken st) p) (rw (same_taken st) q)

-- a line that takes none
pub as-was : {m n : ℕ} → n ≤ m → n ≤ m
as-was h = h

ruleset alikes = (refuses, goes, as-was, alike-unless, alike-cond, alike_then, alike-act, alike-shut, alike_skip, alike-room, le_refl, le-add_right)

-- ── one line ──
module _ (c : Class) (m : ℕ) (l : Line) where
  alike_open : (s : Set) (k : ℕ) → Alike m s.taken (open_top (unlimited c) l s k) (open_top (limited_to c m) l s k)
  alike_open s zero = search alikes
  alike_open s (suc zero) = search alikes
  alike_open s (suc (suc zero)) = search alikes
  alike_open s (suc (suc (suc k))) = search alikes

  alike-top : (s : Set) (k : ℕ) (f : Form) → Alike m s.taken (on_top (unlimited c) l s k f) (on_top (limited_to c m) l s k f)
  alike-top s k ignored = search alikes
  alike-top s k (wrong n) = refuses
  alike-top s k close = refuses
  alike-top s k eof = search alikes depth 8
  alike-top s k (keyed key x) = search (alikes, alike_open)

  alike-layers : (s : Set) (d : Drawing) (f : Form) → Alike m s.taken (on_layer_names (unlimited c) l s d f) (on_layer_names (limited_to c m) l s d f)
  alike-layers s d ignored = search alikes
  alike-layers s d (wrong n) = refuses
  alike-layers s d close = search alikes
  alike-layers s d eof = refuses
  alike-layers s d (keyed k x) = search alikes depth 8

  alike-symbol : (s : Set) (y : Symbol) (i : ℕ) → Alike m s.taken (open_symbol s y i) (open_symbol s y i)
  alike-symbol s y zero = refuses
  alike-symbol s y (suc zero) = search alikes
  alike-symbol s y (suc (suc i)) = search alikes

  alike-close : (s : Set) (h : Home) (fs : List Figure) → Alike m s.taken (close_figures s h fs) (close_figures s h fs)
  alike-close s (in_element y) fs = search alikes
  alike-close s (in_layer k) fs = search alikes

  alike-placed : (s : Set) (h : Home) (fs : List Figure) → Alike m s.taken (open_placed (unlimited c) l s h fs) (open_placed (limited_to c m) l s h fs)
  alike-placed s (in_element y) fs = refuses
  alike-placed s (in_layer k) fs = search alikes

  begun-taken : (b : Bool) (s : Set) (k : ℕ) (fs : List Figure) → s.taken ≡ (set_of (begin_wire b s k fs l.line)).taken
  begun-taken true s k fs = refl
  begun-taken false s k fs = refl

  alike-wire : (s : Set) (h : Home) (fs : List Figure) → Alike m s.taken (open_wire (unlimited c) l s h fs) (open_wire (limited_to c m) l s h fs)
  alike-wire s (in_element y) fs = refuses
  alike-wire s (in_layer k) fs = alike-room (s.taken + 2) _ (le-add_right s.taken 2) (begun-taken (knows_wires c) _ k fs)

  alike-figure : (s : Set) (h : Home) (fs : List Figure) (i : ℕ) → Alike m s.taken (open_figure (unlimited c) l s h fs i) (open_figure (limited_to c m) l s h fs i)
  alike-figure s h fs zero = refuses
  alike-figure s h fs (suc zero) = search alikes
  alike-figure s h fs (suc (suc zero)) = search alikes
  alike-figure s h fs (suc (suc (suc zero))) = alike-placed s h fs
  alike-figure s h fs (suc (suc (suc (suc i)))) = alike-wire s h fs

  alike-unknown : (s : Set) (h : ℕ) (fs : List Figure) (n : ℕ) (o : Held) (k : List ℕ) (x : Rest) → Alike m s.taken (on_unknown (unlimited c) s h fs n o k x) (on_unknown (limited_to c m) s h fs n o k x)
  alike-unknown s h fs n o k x = search alikes

  alike-key : (s : Set) (h : ℕ) (fs : List Figure) (n : ℕ) (o : Held) (k : List ℕ) (x : Rest) (f : Found) → Alike m s.taken (on_placed_key (unlimited c) s h fs n o k x f) (on_placed_key (limited_to c m) s h fs n o k x f)
  alike-key s h fs n o k x absent = alike-unknown s h fs n o k x
  alike-key s h fs n o k x (found j r) = search (alikes, alike-unknown)

  alike-own : (s : Set) (h : ℕ) (fs : List Figure) (n : ℕ) (o : Held) (f : Form) → Alike m s.taken (on_placed_own (unlimited c) s h fs n o f) (on_placed_own (limited_to c m) s h fs n o f)
  alike-own s h fs n o ignored = search alikes
  alike-own s h fs n o (wrong k) = refuses
  alike-own s h fs n o close = search alikes
  alike-own s h fs n o eof = refuses
  alike-own s h fs n o (keyed k x) = search alike-key

  alike-placing : (s : Set) (h : ℕ) (fs : List Figure) (n : ℕ) (o : Held) (p : ℕ) (f : Form) → Alike m s.taken (on_placing (unlimited c) s h fs n o p f) (on_placing (limited_to c m) s h fs n o p f)
  alike-placing s h fs n o zero f = alike-own s h fs n o f
  alike-placing s h fs n o (suc p) f = search alikes

  alike-wire-act : (s : Set) (h : ℕ) (fs : List Figure) (n : ℕ) (w : Wire) (a : Act)
      → Alike m s.taken (on_wire_act (unlimited c) l s h fs n w a) (on_wire_act (limited_to c m) l s h fs n w a)
  alike-wire-act s h fs n w a = search alikes depth 8

  alike-wire-unknown : (s : Set) (h : ℕ) (fs : List Figure) (n : ℕ) (w : Wire) (k : List ℕ) (x : Rest)
      → Alike m s.taken (on_wire_unknown (unlimited c) l s h fs n w k x) (on_wire_unknown (limited_to c m) l s h fs n w k x)
  alike-wire-unknown s h fs n w k x = search (alikes, alike-wire-act)

  alike-wire-key : (s : Set) (h : ℕ) (fs : List Figure) (n : ℕ) (w : Wire) (k : List ℕ) (x : Rest) (f : Found)
      → Alike m s.taken (on_wire_key (unlimited c) l s h fs n w k x f) (on_wire_key (limited_to c m) l s h fs n w k x f)
  alike-wire-key s h fs n w k x absent = alike-wire-unknown s h fs n w k x
  alike-wire-key s h fs n w k x (found j r) = search (alike-cond, alike-wire-act, alike-wire-unknown)

  alike_in-wire : (s : Set) (h : ℕ) (fs : List Figure) (n : ℕ) (w : Wire) (p : ℕ) (f : Form) → Alike m s.taken (on_wire (unlimited c) l s h fs n w p f) (on_wire (limited_to c m) l s h fs n w p f)
  alike_in-wire s h fs n w zero ignored = search alikes
  alike_in-wire s h fs n w zero (wrong k) = refuses
  alike_in-wire s h fs n w zero close = search alike-wire-act
  alike_in-wire s h fs n w zero eof = refuses
  alike_in-wire s h fs n w zero (keyed k x) = search alike-wire-key
  alike_in-wire s h fs n w (suc p) f = search alikes

  alike_skip-ended : (s : Set) (h : ℕ) (fs : List Figure) (n : ℕ) (b : Owned) → Alike m s.taken (got (skip_ended s h fs n b)) (got (skip_ended s h fs n b))
  alike_skip-ended s h fs n (symbol_block o) = search alikes
  alike_skip-ended s h fs n (wire_block w) = search alikes
  alike_skip-ended s h fs n wire_unread = search alikes

  alike-unread-shut : (s : Set) (h : ℕ) (fs : List Figure) (n : ℕ) (b : Owned) → Alike m s.taken (unread_shut s h fs n b) (unread_shut s h fs n b)
  alike-unread-shut s h fs n (symbol_block o) = refuses
  alike-unread-shut s h fs n (wire_block w) = refuses
  alike-unread-shut s h fs n wire_unread = search alikes

  alike_skip-shut : (s : Set) (h : ℕ) (fs : List Figure) (n : ℕ) (b : Owned) (d : ℕ) → Alike m s.taken (skip_shut s h fs n b d) (skip_shut s h fs n b d)
  alike_skip-shut s h fs n b zero = alike-unread-shut s h fs n b
  alike_skip-shut s h fs n b (suc zero) = alike_skip-ended s h fs n b
  alike_skip-shut s h fs n b (suc (suc d)) = search alikes

  alike-skipping : (s : Set) (h : ℕ) (fs : List Figure) (n : ℕ) (b : Owned) (d : ℕ) (f : Form) → Alike m s.taken (on_skipping s h fs n b d f) (on_skipping s h fs n b d f)
  alike-skipping s h fs n b d ignored = search alikes
  alike-skipping s h fs n b d (wrong k) = refuses
  alike-skipping s h fs n b d close = alike_skip-shut s h fs n b d
  alike-skipping s h fs n b d eof = refuses
  alike-skipping s h fs n b d (keyed k x) = search alikes

  alike_in : (st : State) → Alike m (set_of st).taken (step_in (unlimited c) l st) (step_in (limited_to c m) l st)
  alike_in (top s k) = alike-top s k l.form
  alike_in (file s n h p) = search alikes
  alike_in (drawing s d) = search alikes
  alike_in (layer_names s d) = alike-layers s d l.form
  alike_in (defines s b) = search alikes
  alike_in (symbol s y) = search (alikes, alike-symbol)
  alike_in (hide s y ps) = search alikes
  alike_in (elements s) = search alikes
  alike_in (figures s h fs) = search (alikes, alike-figure, alike-close)
  alike_in (successive s h fs n ps) = search alikes
  alike_in (texts s h fs n o) = search alikes
  alike_in (placing s h fs n (symbol_block o) p) = alike-placing s h fs n o p l.form
  alike_in (placing s h fs n (wire_block w) p) = alike_in-wire s h fs n w p l.form
  alike_in (placing s h fs n wire_unread p) = refuses
  alike_in (skipping s h fs n b d) = alike-skipping s h fs n b d l.form
  alike_in (ended s) = refuses

  pub alike-step : (st : State) → Alike m (set_of st).taken (step (unlimited c) l st) (step (limited_to c m) l st)
  alike-step st = alike-cond l.last _ _ _ _ (alike_next (alike-also (completes l st) (alike_in st))) (alike_in st)

  -- with a limit a line is as without one, and 19 where more than m records were taken
  abbrev pub capped : Got State → Got State
  capped (got st) = unless (leb (set_of st).taken m) 19 (got st)
  capped (bad k) = bad k

  pub limited : (st : State) → (set_of st).taken ≤ m → step_in (limited_to c m) l st ≡ capped (step_in (unlimited c) l st)
  limited st h = go (alike_in st)
    where
      go : {g g' : Got State} → Alike m (set_of st).taken g g' → g' ≡ capped g
      go refuses = refl
      go (goes st' p w) = sym (ap (λ (t : Bool). unless t 19 (got st')) (le-leb (set_of st').taken m (w h)))
      go (over st' p q) = sym (ap (λ (t : Bool). unless t 19 (got st')) (lt-leb (set_of st').taken m q))

-- what the limit lets through goes on so without it; what goes on without it, with m records at most, the limit lets through
pub goes-unlimited : {m n : ℕ} {g h : Got State} {st : State} → Alike m n g h → h ≡ got st → g ≡ got st
goes-unlimited refuses e = e
goes-unlimited (goes st p w) e = e
goes-unlimited (over st p q) e = never e

pub goes-limited : {m n : ℕ} {g h : Got State} {st : State} → Alike m n g h → g ≡ got st → (set_of st).taken ≤ m → h ≡ got st
goes-limited refuses e f = e
goes-limited (goes st p w) e f = e
goes-limited {m} {st = st'} (over st p q) e f = let z : m < (set_of st').taken = subst (λ g. On (λ u. m < (set_of u).taken) g) e q in absurd (omega (arith, z, f))

-- ── all lines ──
-- without a limit: the count never falls, and a table that holds it in the end changes nothing
lift : (c : Class) (m : ℕ) (ls : List Line) (s : State) (t : Set) → run (unlimited c) s ls ≡ accepted t → ((set_of s).taken ≤ t.taken) × (t.taken ≤ m → run (limited_to c m) s ls ≡ accepted t)
lift c m [] s t q = (le_of_eq (ap (λ st. (set_of st).taken) (finish-ended s t q)), λ _. q)
lift c m (l ∷ ls) s t q = go (alike-step c m l s) (λ st. lift c m ls st t) q
  where
    go : {g h : Got State} → Alike m (set_of s).taken g h
        → ((st : State) → run (unlimited c) st ls ≡ accepted t → ((set_of st).taken ≤ t.taken) × (t.taken ≤ m → run (limited_to c m) st ls ≡ accepted t))
        → then_run g l (λ st. run (unlimited c) st ls) ≡ accepted t
        → ((set_of s).taken ≤ t.taken) × (t.taken ≤ m → then_run h l (λ st. run (limited_to c m) st ls) ≡ accepted t)
    go refuses ih q = not-accepted q
    go (goes st p i) ih q = let w = ih st q in (omega (arith, p, w.0), w.1)
    go (over st p r) ih q = let w = ih st q in (omega (arith, p, w.0), λ f. absurd (omega (arith, f, r, w.0)))

-- a table that holds what was taken in the end accepts, with the same set
pub limit-lift : (c : Class) (m : ℕ) (ls : List Line) (s : State) (t : Set) → run (unlimited c) s ls ≡ accepted t → t.taken ≤ m
    → run (limited_to c m) s ls ≡ accepted t
limit-lift c m ls s t q = (lift c m ls s t q).1

-- what a table accepts is accepted with no limit
pub limit-drop : (c : Class) (m : ℕ) (ls : List Line) (s : State) (t : Set) → run (limited_to c m) s ls ≡ accepted t
    → run (unlimited c) s ls ≡ accepted t
limit-drop c m [] s t q = q
limit-drop c m (l ∷ ls) s t q = go (alike-step c m l s) (λ st. limit-drop c m ls st t) q
  where
    go : {g h : Got State} → Alike m (set_of s).taken g h → ((st : State) → run (limited_to c m) st ls ≡ accepted t → run (unlimited c) st ls ≡ accepted t)
        → then_run h l (λ st. run (limited_to c m) st ls) ≡ accepted t → then_run g l (λ st. run (unlimited c) st ls) ≡ accepted t
    go refuses ih q = not-accepted q
    go (goes st p i) ih q = ih st q
    go (over st p r) ih q = not-accepted q

-- ── what was taken ──
pub taken-fits : (c : Class) (m : ℕ) (ls : List Line) (t : Set) → run (limited_to c m) (top nothing_yet 0) ls ≡ accepted t → t.taken ≤ m
taken-fits c m ls t q = leb-true t.taken m (count-taken (limited_to c m) c ls t q).1

pub taken-counts : (c c' : Class) (l : Option ℕ) (ls : List Line) (t : Set) → run (record { class = c; limit = l }) (top nothing_yet 0) ls ≡ accepted t → length (records_of c' t) ≡ t.taken
taken-counts c c' l ls t q = (count-taken (record { class = c; limit = l }) c' ls t q).0
