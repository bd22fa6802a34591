-- "Places apart" (demand 2): document 01, "Fixed form": "Places, in demand 2, are line numbers and byte places of text."
-- What is read, with every place made 0.
use Rattle.std.specs.Prelude.{ℕ, suc, ◌+◌, Bool, cond, ◌||◌, List, [], ◌∷◌, map, eqb, ℤ, pos, negsuc}
use Rattle.rules.specs.Base.{map_o, has_number}
use Rattle.rules.specs.Lines.{Rest, brace, equals, Form, ignored, wrong, close, eof, keyed}
use Rattle.rules.specs.Values.{Value, empty, nums, chars, linked}
use Rattle.rules.specs.Rows.{Slots, Held, Act, stay, entry, begin, shut, refuse}
use Rattle.rules.specs.Sets.{Point, Edge, Wire, Figure, plain, chain, lettering, placed, wired, passed, Layer, Drawing, Symbol, LayerBlock, Contents, Set}
use Rattle.rules.specs.Machine.{Line, Home, in_element, in_layer, State, top, file, drawing, layer_names, defines, symbol, hide, elements, figures, successive}
use Rattle.rules.specs.Machine.{texts, placing, skipping, ended, symbol_block, wire_block, wire_unread, Owned}
use Rattle.rules.specs.LineByLine.{Outcome, refused, accepted}
use Rattle.rules.specs.RecordTable.{kind_header, kind_drawing, kind_symbol, kind_layer, kind_text, kind_placed, kind_wire_more, in_symbol}

-- ── what is kept ──
abbrev pub bare_value : Value → Value
bare_value empty = empty
bare_value (nums v) = nums v
bare_value (chars at c) = chars 0 c
bare_value (linked n ps) = linked n ps

abbrev pub bare_slots : Slots → Slots
bare_slots s = map (map_o bare_value) s

abbrev pub bare_held : Held → Held
bare_held h = map bare_slots h

abbrev pub bare_point : Point → Point
bare_point p = record { line = 0; values = p.values }

abbrev pub bare_edge : Edge → Edge
bare_edge e = record { line = 0; row = e.row; values = e.values; join = e.join }

abbrev pub bare_wire : Wire → Wire
bare_wire w =
    record {
      elements = map bare_edge w.elements;
      groups = w.groups;
      texts = map bare_slots w.texts;
      own = bare_slots w.own;
      writing = bare_slots w.writing;
      past = w.past;
    }

abbrev pub bare_figure : Figure → Figure
bare_figure (plain n j v) = plain 0 j v
bare_figure (chain n ps) = chain 0 (map bare_point ps)
bare_figure (lettering n s) = lettering 0 (bare_slots s)
bare_figure (placed n h) = placed 0 (bare_held h)
bare_figure (wired n w) = wired 0 (bare_wire w)
bare_figure (passed n) = passed 0

abbrev pub bare_layer : Layer → Layer
bare_layer l = record { line = 0; id = l.id; name = bare_value l.name }

abbrev pub bare_drawing : Drawing → Drawing
bare_drawing d = record { line = 0; own = bare_slots d.own; layers = map bare_layer d.layers }

abbrev pub bare_symbol : Symbol → Symbol
bare_symbol y =
    record { line = 0; own = bare_slots y.own; figures = map bare_figure y.figures; hidden = map bare_point y.hidden; hide_first = y.hide_first }

abbrev pub bare_block : LayerBlock → LayerBlock
bare_block u = record { layer = u.layer; figures = map bare_figure u.figures }

abbrev pub bare_contents : Contents → Contents
bare_contents v = record { line = 0; file = bare_held v.file; blocks = map bare_block v.blocks }

abbrev pub bare_set : Set → Set
bare_set s =
    record {
      drawing = bare_drawing s.drawing;
      symbols = map bare_symbol s.symbols;
      volumes = map bare_contents s.volumes;
      now = bare_contents s.now;
      taken = s.taken;
    }

-- ── the reading ──
abbrev pub bare_rest : Rest → Rest
bare_rest brace = brace
bare_rest (equals at c) = equals 0 c

abbrev pub bare_form : Form → Form
bare_form ignored = ignored
bare_form (wrong n) = wrong n
bare_form close = close
bare_form eof = eof
bare_form (keyed k c) = keyed k (bare_rest c)

abbrev pub bare_line : Line → Line
bare_line l = record { volume = 0; line = 0; last = l.last; next = l.next; form = bare_form l.form }

abbrev pub bare_act : Act → Act
bare_act stay = stay
bare_act (entry j v) = entry j (bare_value v)
bare_act (begin i j v) = begin i j (bare_value v)
bare_act shut = shut
bare_act (refuse n) = refuse n

abbrev pub bare_home : Home → Home
bare_home (in_element y) = in_element (bare_symbol y)
bare_home (in_layer k) = in_layer k

abbrev pub bare_owned : Owned → Owned
bare_owned (symbol_block o) = symbol_block (bare_held o)
bare_owned (wire_block w) = wire_block (bare_wire w)
bare_owned wire_unread = wire_unread

abbrev pub bare_state : State → State
bare_state (top s k) = top (bare_set s) k
bare_state (file s n h p) = file (bare_set s) 0 (bare_held h) p
bare_state (drawing s d) = drawing (bare_set s) (bare_drawing d)
bare_state (layer_names s d) = layer_names (bare_set s) (bare_drawing d)
bare_state (defines s b) = defines (bare_set s) b
bare_state (symbol s y) = symbol (bare_set s) (bare_symbol y)
bare_state (hide s y ps) = hide (bare_set s) (bare_symbol y) (map bare_point ps)
bare_state (elements s) = elements (bare_set s)
bare_state (figures s h fs) = figures (bare_set s) (bare_home h) (map bare_figure fs)
bare_state (successive s h fs n ps) = successive (bare_set s) (bare_home h) (map bare_figure fs) 0 (map bare_point ps)
bare_state (texts s h fs n o) = texts (bare_set s) (bare_home h) (map bare_figure fs) 0 (bare_slots o)
bare_state (placing s k fs n b p) = placing (bare_set s) k (map bare_figure fs) 0 (bare_owned b) p
bare_state (skipping s k fs n b d) = skipping (bare_set s) k (map bare_figure fs) 0 (bare_owned b) d
bare_state (ended s) = ended (bare_set s)

-- an outcome with the places made 0
abbrev pub bare_outcome : Outcome → Outcome
bare_outcome (refused n v l) = refused n 0 0
bare_outcome (accepted s) = accepted (bare_set s)

-- ── one record ──
-- where a record of a kind has the byte places of its texts (document 01, "Record table"); of a wire's, 18 to 21, the second has two: of
-- its first text and of its circuit
abbrev pub text_places : ℕ → List ℕ
text_places kind =
    cond (eqb kind kind_header) (16 ∷ 18 ∷ 20 ∷ 22 ∷ 24 ∷ 26 ∷ 28 ∷ 30 ∷ [])
    (cond (eqb kind kind_drawing) (12 ∷ 14 ∷ 16 ∷ [])
    (cond (eqb kind kind_symbol) (5 ∷ [])
    (cond (eqb kind kind_layer) (7 ∷ [])
    (cond (eqb kind kind_text || eqb kind (kind_text + in_symbol)) (12 ∷ [])
    (cond (eqb kind kind_placed) (12 ∷ 24 ∷ [])
    (cond (eqb kind kind_wire_more) (14 ∷ 16 ∷ []) []))))))

abbrev pub kind_of : List ℤ → ℕ
kind_of [] = 0
kind_of (pos k ∷ t) = k
kind_of (negsuc k ∷ t) = 0

-- the numbers whose places pass the test made 0
abbrev pub without : (ℕ → Bool) → List ℤ → List ℤ
without p [] = []
without p (z ∷ t) = cond (p 0) (pos 0) z ∷ without (λ i. p (suc i)) t

-- a record with its line, at 3, and the byte places of its texts made 0
abbrev pub places_apart : List ℤ → List ℤ
places_apart t = without (λ i. has_number i (3 ∷ text_places (kind_of t))) t
