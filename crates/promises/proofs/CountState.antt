-- At which lines a state's records were taken, and what else it keeps: the invariant of the count.
use Rattle.std.specs.Prelude.{Option, Some, None}
use Prim.Native.Nat.{ℕ, zero, suc, ◌+◌, ◌<◌}
use mathlib.Core.Bool.{Bool, true, false, true≢false}
use mathlib.Core.List.{List, [], ◌∷◌, ◌++◌, append-nil}
use mathlib.Core.Path.{◌≡◌, refl, sym, ◌∙◌}
use native.Mathlib.Omega.{arith}
use lib.ListN.{length, get_or, set, replicate, length-set, get_or-map}
use lib.Seq.{get_or-set_same}
use borrow.Author.Tests.{not-false}
use Rattle.rules.specs.Base.{is_nil, is_none, is_some}
use Rattle.rules.specs.Values.{Value}
use Rattle.rules.specs.Rows.{Slots, blank, rows_there, inner_of}
use Rattle.rules.specs.Blocks.{symbol_table}
use Rattle.rules.specs.Sets.{Point, Figure, wired, passed, Drawing, Symbol, Contents, Set, is_first}
use Rattle.rules.specs.Machine.{Env, Home, in_element, in_layer, State, top, file, drawing, layer_names, defines, symbol, hide, elements, figures, successive, texts, placing, skipping, ended, set_of, room_for}
use Rattle.rules.specs.RecordTable.{rule_at}
use Rattle.rules.specs.Machine.{file_kinds, Owned, symbol_block, wire_block, wire_unread}
use Rattle.rules.proofs.Chains.{clash}
use Rattle.rules.proofs.Rows.{row_at}
use Rattle.promises.specs.Acceptance.{Place, place}
use Rattle.promises.proofs.RecordLines.{point_places, figure_places, figures_places, symbol_places, drawn_places, head_places, body_places, front_places, set_places}
use Rattle.promises.proofs.CountActs.{Begun}

-- ── the lines at which a state's records were taken ──
-- the number of the volume at hand
abbrev pub number : Set → ℕ
number s = suc (length s.volumes)

-- the volume of a state's lines; once ELEMENT is closed the volume is among the closed ones
abbrev top_volume : Set → ℕ → ℕ
top_volume s zero = number s
top_volume s (suc zero) = number s
top_volume s (suc (suc zero)) = number s
top_volume s (suc (suc (suc zero))) = number s
top_volume s (suc (suc (suc (suc k)))) = length s.volumes

abbrev pub volume_of : State → ℕ
volume_of (top s k) = top_volume s k
volume_of (file s n h p) = number s
volume_of (drawing s d) = number s
volume_of (layer_names s d) = number s
volume_of (defines s b) = number s
volume_of (symbol s y) = number s
volume_of (hide s y ps) = number s
volume_of (elements s) = number s
volume_of (figures s h fs) = number s
volume_of (successive s h fs n ps) = number s
volume_of (texts s h fs n o) = number s
volume_of (placing s h fs n o p) = number s
volume_of (skipping s h fs n o d) = number s
volume_of (ended s) = length s.volumes

-- FILE_FORMAT takes two records in the first volume, one in others
abbrev pub file_places : List Contents → ℕ → List Place
file_places vs n = replicate (length (file_kinds (is_nil vs))) (place (suc (length vs)) n)

-- what stands before a volume's ELEMENT, and what it holds so far
abbrev pub open_places : Drawing → List Symbol → List Contents → Contents → List Place
open_places d ys [] v = front_places 1 d ys v
open_places d ys (u ∷ us) v = set_places d ys (u ∷ us) ++ place (suc (length (u ∷ us))) v.line ∷ []

abbrev pub within : Set → List Place
within s = open_places s.drawing s.symbols s.volumes s.now ++ body_places (number s) s.now

abbrev pub closed : Set → List Place
closed s = set_places s.drawing s.symbols s.volumes

abbrev pub front : Set → List Place
front s = front_places (number s) s.drawing s.symbols s.now

-- a symbol whose `element` is open: only a `hide` that was written before it has points
abbrev home_in : List Place → List Place → ℕ → Home → List Place
home_in before inside n (in_element y) = before ++ (place n y.line ∷ point_places n y.hidden)
home_in before inside n (in_layer k) = inside

abbrev pub home_places : Set → Home → List Place
home_places s h = home_in (front s) (within s) (number s) h

abbrev pub in_figures : Set → Home → List Figure → List Place
in_figures s h fs = home_places s h ++ figures_places (number s) fs

-- a layer's block with attributes, at line n of volume k: a wire has taken what it has so far
abbrev pub owned_places : ℕ → ℕ → Owned → List Place
owned_places k n (symbol_block o) = place k n ∷ []
owned_places k n (wire_block w) = figure_places k (wired n w)
owned_places k n wire_unread = figure_places k (passed n)

-- at the top level, by the block that comes next
abbrev top_places : Set → ℕ → List Place
top_places s zero = closed s
top_places s (suc zero) = head_places (number s) s.now
top_places s (suc (suc zero)) = head_places (number s) s.now ++ drawn_places (number s) s.drawing
top_places s (suc (suc (suc zero))) = within s
top_places s (suc (suc (suc (suc k)))) = closed s

abbrev pub shown : State → List Place
shown (top s k) = top_places s k
shown (file s n h p) = closed s ++ file_places s.volumes n
shown (drawing s d) = head_places (number s) s.now ++ drawn_places (number s) d
shown (layer_names s d) = head_places (number s) s.now ++ drawn_places (number s) d
shown (defines s b) = front s
shown (symbol s y) = front s ++ symbol_places (number s) y
shown (hide s y ps) = front s ++ (place (number s) y.line ∷ (figures_places (number s) y.figures ++ point_places (number s) ps))
shown (elements s) = within s
shown (figures s h fs) = in_figures s h fs
shown (successive s h fs n ps) = in_figures s h fs ++ (place (number s) n ∷ point_places (number s) ps)
shown (texts s h fs n o) = in_figures s h fs ++ place (number s) n ∷ []
shown (placing s k fs n o p) = in_figures s (in_layer k) fs ++ owned_places (number s) n o
shown (skipping s k fs n o d) = in_figures s (in_layer k) fs ++ owned_places (number s) n o
shown (ended s) = closed s

-- ── what else is kept ──
-- a symbol's slots: where `element` or `hide` has not been, there are no figures or no points; and points before `element` are a `hide` before it
pub record Slotted (own : Slots) (shown : List Figure) (hidden : List Point) (hide_first : Bool) : Type 0 where
  pub size : length own ≡ 4
  pub figs : is_none (get_or own 1 None) ≡ true → shown ≡ []
  pub dots : is_none (get_or own 2 None) ≡ true → hidden ≡ []
  pub order : is_none (get_or own 1 None) ≡ true → hide_first ≡ false → hidden ≡ []

-- before the first volume's ELEMENT
abbrev Early : Set → Type 0
Early s = (s.volumes ≡ []) × (s.now.blocks ≡ [])

abbrev Earlier : Set → Type 0
Earlier s = (s.volumes ≡ []) × (s.now.blocks ≡ []) × (s.symbols ≡ [])

-- while `element` is open its slot is taken, whatever figures it will have
abbrev KeptIn : Type 0 → Home → Type 0
KeptIn early (in_element y) = early × ((fs : List Figure) → Slotted y.own fs y.hidden y.hide_first) × (y.hide_first ≡ false → y.hidden ≡ [])
KeptIn early (in_layer k) = Unit {0}

abbrev HomeKept : Set → Home → Type 0
HomeKept s h = KeptIn (Early s) h

abbrev TopKept : Set → ℕ → Type 0
TopKept s zero = is_first s ≡ true → s.symbols ≡ []
TopKept s (suc zero) = Earlier s
TopKept s (suc (suc zero)) = Earlier s
TopKept s (suc (suc (suc zero))) = Unit {0}
TopKept s (suc (suc (suc (suc k)))) = is_first s ≡ false

abbrev pub Kept : State → Type 0
Kept (top s k) = TopKept s k
Kept (file s n h p) = is_first s ≡ true → s.symbols ≡ []
Kept (drawing s d) = Earlier s
Kept (layer_names s d) = Earlier s
Kept (defines s b) = Early s
Kept (symbol s y) = Early s × Slotted y.own y.figures y.hidden y.hide_first
Kept (hide s y ps) = Early s × ((ps : List Point) → Slotted y.own y.figures ps y.hide_first) × (y.hide_first ≡ true → y.figures ≡ [])
Kept (elements s) = Unit {0}
Kept (figures s h fs) = HomeKept s h
Kept (successive s h fs n ps) = HomeKept s h
Kept (texts s h fs n o) = HomeKept s h
Kept (placing s h fs n o p) = Unit {0}
Kept (skipping s h fs n o d) = Unit {0}
Kept (ended s) = Unit {0}

-- the volume of the lines that follow is k; behind the end of a set none follow
abbrev pub Tied : ℕ → State → Type 0
Tied k (top s j) = top_volume s j ≡ k
Tied k (file s n h p) = number s ≡ k
Tied k (drawing s d) = number s ≡ k
Tied k (layer_names s d) = number s ≡ k
Tied k (defines s b) = number s ≡ k
Tied k (symbol s y) = number s ≡ k
Tied k (hide s y ps) = number s ≡ k
Tied k (elements s) = number s ≡ k
Tied k (figures s h fs) = number s ≡ k
Tied k (successive s h fs n ps) = number s ≡ k
Tied k (texts s h fs n o) = number s ≡ k
Tied k (placing s h fs n o p) = number s ≡ k
Tied k (skipping s h fs n o d) = number s ≡ k
Tied k (ended s) = Unit {0}

-- ── the invariant, and what a line adds ──
pub record Holds (limit : Option ℕ) (taken : ℕ) (places : List Place) (more : Type 0) : Type 0 where
  pub counts : taken ≡ length places
  pub room : room_for limit taken ≡ true
  pub kept : more

abbrev pub Inv : Env → State → Type 0
Inv e st = Holds e.limit (set_of st).taken (shown st) (Kept st)

-- records that were taken at one line stand behind those before
pub record Grows (limit : Option ℕ) (taken taken' : ℕ) (places places' : List Place) (here : Place) (more tied : Type 0) : Type 0 where
  pub count : ℕ
  pub counts : taken' ≡ taken + count
  pub shows : places' ≡ places ++ replicate count here
  pub room : room_for limit taken' ≡ true
  pub kept : more
  pub ties : tied

-- from a state, by a line with number n, to a state whose next line is in volume k
abbrev pub Adds : Env → ℕ → ℕ → State → State → Type 0
Adds e n k st st' =
    Grows e.limit (set_of st).taken (set_of st').taken (shown st) (shown st') (place (volume_of st) n) (Kept st') (Tied k st')

-- a line that takes no record, and one that takes n
pub still : {m : Option ℕ} {t : ℕ} {ps ps' : List Place} {here : Place} {A B C : Type 0} → Holds m t ps A → ps' ≡ ps → B → C → Grows m t t ps ps' here B C
still {t} {ps} h e b c = record { count = 0; counts = omega arith; shows = e ∙ sym (append-nil ps); room = h.room; kept = b; ties = c }

pub took : {m : Option ℕ} {t : ℕ} {ps ps' : List Place} {here : Place} {A B C : Type 0} (n : ℕ) → room_for m (t + n) ≡ true → Holds m t ps A → ps' ≡ ps ++ replicate n here → B → C → Grows m t (t + n) ps ps' here B C
took n r h e b c = record { count = n; counts = refl; shows = e; room = r; kept = b; ties = c }

-- ── the slots of a symbol ──
-- a slot that is filled stays filled
set-none : (s : Slots) (j : ℕ) (v : Value) (i : ℕ) → is_none (get_or (set s j (Some v)) i None) ≡ true → is_none (get_or s i None) ≡ true
set-none [] j v i e = e
set-none (o ∷ s) zero v zero e = absurd (true≢false (sym e))
set-none (o ∷ s) zero v (suc i) e = e
set-none (o ∷ s) (suc j) v zero e = e
set-none (o ∷ s) (suc j) v (suc i) e = set-none s j v i e

-- a slot that was just filled
set-some : {P : Type 0} (s : Slots) (j : ℕ) (v : Value) → j < length s → is_none (get_or (set s j (Some v)) j None) ≡ true → P
set-some s j v h e = clash e (rw (get_or-set_same s j (Some v) None h))

pub slotted-set : {own : Slots} {f : List Figure} {h : List Point} {b : Bool} (j : ℕ) (v : Value) → Slotted own f h b → Slotted (set own j (Some v)) f h b
slotted-set {own} j v w = record {
  size = length-set own j (Some v) ∙ w.size;
  figs = λ e. w.figs (set-none own j v 1 e);
  dots = λ e. w.dots (set-none own j v 2 e);
  order = λ e. w.order (set-none own j v 1 e);
}

-- `element` opens, `hide` opens: from here on any number of figures, of points
pub slotted-figs : {own : Slots} {f : List Figure} {h : List Point} {b : Bool} (v : Value) → Slotted own f h b → (fs : List Figure) → Slotted (set own 1 (Some v)) fs h b
slotted-figs {own} v w fs = record {
  size = length-set own 1 (Some v) ∙ w.size;
  figs = λ e. set-some own 1 v (omega (arith, w.size)) e;
  dots = λ e. w.dots (set-none own 1 v 2 e);
  order = λ e. set-some own 1 v (omega (arith, w.size)) e;
}

pub slotted-dots : {own : Slots} {f : List Figure} {h : List Point} {b : Bool} (v : Value) → Slotted own f h b
    → (ps : List Point) → Slotted (set own 2 (Some v)) f ps (is_none (get_or (set own 2 (Some v)) 1 None))
slotted-dots {own} v w ps = record {
  size = length-set own 2 (Some v) ∙ w.size;
  figs = λ e. w.figs (set-none own 2 v 1 e);
  dots = λ e. set-some own 2 v (omega (arith, w.size)) e;
  order = λ e q. clash e q;
}

pub slotted-blank : Slotted (blank symbol_table) [] [] false
unfolding symbol_table
slotted-blank = record { size = refl; figs = λ e. refl; dots = λ e. refl; order = λ e q. refl }

-- inner block 1 is row 1, `element`; any further one is row 2, `hide`
abbrev pub SymbolOpens : ℕ → ℕ → Type 0
SymbolOpens zero j = Unit {0}
SymbolOpens (suc zero) j = j ≡ 1
SymbolOpens (suc (suc i)) j = j ≡ 2

symbol-opens : (j : ℕ) → SymbolOpens (inner_of (rule_at symbol_table j).holds) j
unfolding symbol_table
symbol-opens zero = tt
symbol-opens (suc zero) = refl
symbol-opens (suc (suc zero)) = refl
symbol-opens (suc (suc (suc zero))) = tt
symbol-opens (suc (suc (suc (suc j)))) = tt

-- a block that opens in a symbol is that of its row, and the row's slot was free
pub symbol-begun : (own : Slots) {i j : ℕ} → Begun symbol_table (rows_there own) i j → SymbolOpens i j × (is_none (get_or own j None) ≡ true)
symbol-begun own {i} {j} b =
    let r = b.rule in
    let at : rule_at symbol_table j ≡ r = row_at b.row _ in
    let fits-row : SymbolOpens (inner_of r.holds) j = rw (← at) (symbol-opens j) in
    (rw (← b.inner) fits-row, not-false (is_none (get_or own j None)) (sym (get_or-map is_some own j None) ∙ b.free))
