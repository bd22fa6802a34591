-- What the records point at is what the set keeps, and so what the fixed form writes: record by record, the texts of a set.
use Rattle.std.specs.Prelude.{ℕ, ◌+◌, true, false, Bool, cond, List, [], ◌∷◌, ◌++◌, map, ◌≡◌, ℤ, length, Ok}
use Prim.Native.String as S
use Rattle.rules.specs.Base.{flat}
use Rattle.rules.specs.Values.{chars_of}
use Rattle.rules.specs.Rows.{Rule, Slots, part_of, slot_value, held}
use Rattle.rules.specs.Blocks.{file_table, drawing_table}
use Rattle.rules.specs.Figures.{text_table, placed_table, wire_table, wire_text_table}
use Rattle.rules.specs.Sets.{Point, Figure, plain, chain, lettering, placed, Layer, Drawing, Symbol, LayerBlock, Contents, Set, symbol_name_of, Edge, Wire, wired, passed}
use Rattle.rules.specs.LineByLine.{accepted}
use Rattle.rules.specs.RecordTable.{kind_wire_more, first_text}
use Rattle.rules.specs.Answers.{read_outcome, read_records}
use Rattle.promises.specs.PlacesApart.{text_places}
use Rattle.promises.specs.TableTexts.{first_records, Shows, ShowTexts}
use Rattle.promises.specs.ReaderCalls.{Call}

-- the text of a key
abbrev pub kept_at : S.String → List Rule → Slots → List ℕ
kept_at k t s = chars_of (slot_value (held k t s))

-- the texts of one record
abbrev pub Kept : Type 0
Kept = List (List ℕ)

-- the header's; the volume's record has none
abbrev pub header_kept : Slots → Kept
header_kept s =
    kept_at "cad" file_table s ∷ kept_at "os" file_table s ∷ kept_at "hard" file_table s ∷ kept_at "ver" file_table s
    ∷ kept_at "corp" file_table s ∷ kept_at "make" file_table s ∷ kept_at "tel" file_table s ∷ kept_at "name" file_table s ∷ []

abbrev pub file_kept : Bool → Contents → List Kept
file_kept true v = header_kept (part_of v.file 0) ∷ [] ∷ []
file_kept false v = [] ∷ []

abbrev pub drawing_kept : Drawing → Kept
drawing_kept d = kept_at "project" drawing_table d.own ∷ kept_at "drawname" drawing_table d.own ∷ kept_at "drawer" drawing_table d.own ∷ []

abbrev pub layer_kept : Layer → Kept
layer_kept l = chars_of l.name ∷ []

-- a figure that is one line has none: what places for texts its kind has are empty
abbrev pub no_texts : ℕ → Kept
no_texts kind = map (λ p. []) (text_places kind)

abbrev pub point_kept : Point → Kept
point_kept p = []

abbrev pub edge_kept : Edge → Kept
edge_kept e = []

-- of a wire the first text and the circuit have room in its second record
abbrev pub wire_kept : Wire → Kept
wire_kept w = kept_at "character" wire_text_table (first_text w.texts) ∷ kept_at "circuit" wire_table w.own ∷ []

-- "plus 20 inside a symbol": `more`
abbrev pub figure_kept : ℕ → Figure → List Kept
figure_kept more (plain n j v) = no_texts (10 + more + j) ∷ []
figure_kept more (chain n ps) = [] ∷ map point_kept ps
figure_kept more (lettering n s) = (kept_at "character" (text_table true 4 12) s ∷ []) ∷ []
figure_kept more (placed n h) = (kept_at "circuit" placed_table (part_of h 0) ∷ kept_at "character" (text_table true 16 24) (part_of h 1) ∷ []) ∷ []
figure_kept more (wired n w) = [] ∷ wire_kept w ∷ map edge_kept w.elements
figure_kept more (passed n) = [] ∷ no_texts kind_wire_more ∷ []

-- a symbol's figures and hide points, in the order written
abbrev pub inner_kept : Symbol → List Kept
inner_kept y =
    let shown = flat (map (figure_kept 20) y.figures) in
    let hidden = map point_kept y.hidden in
    cond y.hide_first (hidden ++ shown) (shown ++ hidden)

abbrev pub symbol_kept : Symbol → List Kept
symbol_kept y = (symbol_name_of y ∷ []) ∷ inner_kept y

abbrev pub block_kept : LayerBlock → List Kept
block_kept u = flat (map (figure_kept 0) u.figures)

abbrev pub body_kept : Contents → List Kept
body_kept v = flat (map block_kept v.blocks)

abbrev pub later_kept : Contents → List Kept
later_kept v = file_kept false v ++ body_kept v

abbrev pub kept_from : Set → List Contents → List Kept
kept_from s [] = []
kept_from s (v ∷ vs) =
    file_kept true v ++ (drawing_kept s.drawing ∷ map layer_kept s.drawing.layers) ++ flat (map symbol_kept s.symbols)
    ++ body_kept v ++ flat (map later_kept vs)

-- the texts of an accepted set, in the order of its records
abbrev pub texts_kept : Set → List Kept
texts_kept s = kept_from s s.volumes

-- at every class, with every table: each record points at the whole of each text that the set keeps for it, and at nothing else
abbrev pub TextsKept : Type 0
TextsKept = (class wire len : ℕ) (spool : List ℕ) (s : Set) → read_outcome class wire len spool ≡ accepted s
    → ShowTexts spool (read_records class wire len spool) (texts_kept s)

-- ── all texts of wires ──
-- A wire has any number of texts, and its record room for the first: of each of them the characters, in the order written, and the circuit.
abbrev pub wire_texts : Wire → Kept
wire_texts w = map (kept_at "character" wire_text_table) w.texts ++ kept_at "circuit" wire_table w.own ∷ []

abbrev pub figure_texts : Figure → List Kept
figure_texts (plain n j v) = []
figure_texts (chain n ps) = []
figure_texts (lettering n s) = []
figure_texts (placed n h) = []
figure_texts (wired n w) = wire_texts w ∷ []
figure_texts (passed n) = []

abbrev pub block_texts : LayerBlock → List Kept
block_texts u = flat (map figure_texts u.figures)

abbrev pub volume_texts : Contents → List Kept
volume_texts v = flat (map block_texts v.blocks)

-- wire by wire, in the order written; wires stand in layers alone
abbrev pub texts_of_wires : Set → List Kept
texts_of_wires s = flat (map volume_texts s.volumes)

-- it is empty, or stands in the spool, behind its `=` and to the end of its line
pub record StandsIn (spool text : List ℕ) : Type 0 where
  pub place : ℤ
  pub long : ℤ
  pub shown : Shows spool place long text

abbrev pub AllStand : List ℕ → Kept → Type 0
AllStand spool [] = Unit {0}
AllStand spool (c ∷ cs) = StandsIn spool c × AllStand spool cs

abbrev pub WiresStand : List ℕ → List Kept → Type 0
WiresStand spool [] = Unit {0}
WiresStand spool (cs ∷ css) = AllStand spool cs × WiresStand spool css

-- at every class: no text of a wire that is read is other than what was written
abbrev pub WireTexts : Type 0
WireTexts = (class wire len : ℕ) (spool : List ℕ) (s : Set) → read_outcome class wire len spool ≡ accepted s → WiresStand spool (texts_of_wires s)

-- the same of a call of the reader that is accepted with n records: the first n of its table, and the spool that was lent
pub record Points (call : Call) (n : ℕ) : Type 0 where
  pub set : Set
  pub read : read_outcome call.class call.wire (length call.before) call.spool ≡ accepted set
  pub texts : ShowTexts call.spool (first_records n call.after) (texts_kept set)
  pub wires : WiresStand call.spool (texts_of_wires set)

abbrev pub CallTexts : Type 0
CallTexts = (call : Call) (n : ℕ) → call.answer ≡ Ok n → Points call n
