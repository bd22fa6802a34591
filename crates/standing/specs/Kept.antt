-- What stands on the scratch between two lines, and what of it goes to the table: a record is put there when it is complete, and till then
-- its place holds zeros.
use Rattle.std.specs.Prelude.{ℕ, ◌+◌, ◌*◌, true, ◌≡◌, List, [], ◌∷◌, ◌++◌, map, ℤ, length, replicate, take, drop}
use Rattle.rules.specs.declared.Class.{Class}
use Rattle.rules.specs.Base.{flat}
use Rattle.rules.specs.Figures.{placed_tables}
use Rattle.rules.specs.Sets.{Figure, Symbol, Set, is_first}
use Rattle.rules.specs.Machine.{Home, in_element, in_layer, State, top, file, drawing, layer_names, defines, symbol, hide, elements, figures, successive, texts}
use Rattle.rules.specs.Machine.{placing, skipping, ended, Owned, symbol_block, wire_block, wire_unread}
use Rattle.rules.specs.RecordTable.{put_held, start, file_records, drawing_record, layer_records, point_records, text_record, edge_records, wire_start, inner_records}
use Rattle.rules.specs.RecordTable.{width, kind_placed, kind_point, kind_hidden}
use Rattle.account.specs.Records.{part_at}
use Rattle.standing.specs.SoFar.{volume_of, closed_records, front_records, layers_records, own_record, home_owner, home_volume, home_more, home_figure}
use Rattle.standing.specs.SoFar.{chain_so_far, wire_so_far, writing_record, empty_record, empty_records, top_so_far}

-- ── the records that are open ──
abbrev pub home_own : Set → Home → List ℤ
home_own s (in_element y) = own_record (length s.symbols) y
home_own s (in_layer k) = empty_record

-- the open text of a wire
abbrev pub front_open : Owned → List ℤ
front_open (symbol_block o) = empty_record
front_open (wire_block w) = writing_record w
front_open wire_unread = empty_record

-- the drawing's or the symbol's own, as far as it is; a wire's open text; zeros where neither is open
abbrev pub own_open : State → List ℤ
own_open (top s k) = empty_record
own_open (file s n h p) = empty_record
own_open (drawing s d) = drawing_record d
own_open (layer_names s d) = drawing_record d
own_open (defines s b) = empty_record
own_open (symbol s y) = own_record (length s.symbols) y
own_open (hide s y ps) = own_record (length s.symbols) y
own_open (elements s) = empty_record
own_open (figures s h fs) = home_own s h
own_open (successive s h fs n ps) = home_own s h
own_open (texts s h fs n o) = home_own s h
own_open (placing s k fs n o p) = front_open o
own_open (skipping s k fs n o d) = front_open o
own_open (ended s) = empty_record

-- the figure's
abbrev pub figure_open : State → List ℤ
figure_open (top s k) = empty_record
figure_open (file s n h p) = empty_record
figure_open (drawing s d) = empty_record
figure_open (layer_names s d) = empty_record
figure_open (defines s b) = empty_record
figure_open (symbol s y) = empty_record
figure_open (hide s y ps) = empty_record
figure_open (elements s) = empty_record
figure_open (figures s h fs) = empty_record
figure_open (successive s h fs n ps) = chain_so_far s h n ps
figure_open (texts s h fs n o) = text_record (home_more h) (home_owner s h) (home_volume s h) n o
figure_open (placing s k fs n (symbol_block o) p) = put_held placed_tables o (start kind_placed k (volume_of s) n)
figure_open (placing s k fs n (wire_block w) p) = take width (wire_so_far s k n w p)
figure_open (placing s k fs n wire_unread p) = take width (wire_start k (volume_of s) n)
figure_open (skipping s k fs n (symbol_block o) d) = put_held placed_tables o (start kind_placed k (volume_of s) n)
figure_open (skipping s k fs n (wire_block w) d) = take width (wire_so_far s k n w 0)
figure_open (skipping s k fs n wire_unread d) = take width (wire_start k (volume_of s) n)
figure_open (ended s) = empty_record

-- a wire's second
abbrev pub second_in : Set → ℕ → ℕ → Owned → ℕ → List ℤ
second_in s k n (symbol_block o) p = empty_record
second_in s k n (wire_block w) p = drop width (wire_so_far s k n w p)
second_in s k n wire_unread p = drop width (wire_start k (volume_of s) n)

abbrev pub second_open : State → List ℤ
second_open (top s k) = empty_record
second_open (file s n h p) = empty_record
second_open (drawing s d) = empty_record
second_open (layer_names s d) = empty_record
second_open (defines s b) = empty_record
second_open (symbol s y) = empty_record
second_open (hide s y ps) = empty_record
second_open (elements s) = empty_record
second_open (figures s h fs) = empty_record
second_open (successive s h fs n ps) = empty_record
second_open (texts s h fs n o) = empty_record
second_open (placing s k fs n o p) = second_in s k n o p
second_open (skipping s k fs n o d) = second_in s k n o 0
second_open (ended s) = empty_record

-- the first record of the scratch is an element's of a wire, the third a point's, for the length of their lines
pub record Scratch (t : List ℤ) (st : State) : Type 0 where
  pub own : part_at 0 t ≡ own_open st
  pub figure : part_at width t ≡ figure_open st
  pub rest : drop (width + width) t ≡ second_open st

-- ── the table ──
abbrev pub symbol_shut : Set → Symbol → List (List ℤ)
symbol_shut s y = front_records s ++ empty_record ∷ inner_records (length s.symbols) y

abbrev pub home_shut : Class → Set → Home → List (List ℤ)
home_shut c s (in_element y) = symbol_shut s y
home_shut c s (in_layer k) = layers_records c s

abbrev pub figures_shut : Class → Set → Home → List Figure → List (List ℤ)
figures_shut c s h fs = home_shut c s h ++ flat (map (home_figure c s h) fs)

-- of a layer's block with attributes that is open: a wire's elements are complete, its own two are not
abbrev pub owned_shut : Set → ℕ → Owned → List (List ℤ)
owned_shut s k (symbol_block o) = empty_record ∷ []
owned_shut s k (wire_block w) = empty_record ∷ empty_record ∷ edge_records k (volume_of s) w.elements
owned_shut s k wire_unread = empty_record ∷ empty_record ∷ []

-- the records taken so far: those that are complete, and zeros for those that are open
abbrev pub shut_so_far : Class → State → List (List ℤ)
shut_so_far c (top s k) = top_so_far c s k
shut_so_far c (file s n h p) = closed_records c s ++ empty_records (is_first s)
shut_so_far c (drawing s d) = file_records true 1 s.now ++ empty_record ∷ layer_records 0 d.layers
shut_so_far c (layer_names s d) = file_records true 1 s.now ++ empty_record ∷ layer_records 0 d.layers
shut_so_far c (defines s b) = front_records s
shut_so_far c (symbol s y) = symbol_shut s y
shut_so_far c (hide s y ps) = symbol_shut s y ++ point_records kind_hidden (length s.symbols) 1 ps
shut_so_far c (elements s) = layers_records c s
shut_so_far c (figures s h fs) = figures_shut c s h fs
shut_so_far c (successive s h fs n ps) =
    figures_shut c s h fs ++ empty_record ∷ point_records (kind_point + home_more h) (home_owner s h) (home_volume s h) ps
shut_so_far c (texts s h fs n o) = figures_shut c s h fs ++ empty_record ∷ []
shut_so_far c (placing s k fs n o p) = figures_shut c s (in_layer k) fs ++ owned_shut s k o
shut_so_far c (skipping s k fs n o d) = figures_shut c s (in_layer k) fs ++ owned_shut s k o
shut_so_far c (ended s) = closed_records c s

-- ── a line ──
-- t: the scratch behind the block's part of the line. It took so many records, and the one with this number is complete: it stands on the
-- scratch at `from`.
pub record Fills (c : Class) (st st' : State) (more from number : ℕ) (t : List ℤ) : Type 0 where
  pub fore : List (List ℤ)
  pub behind : List (List ℤ)
  pub before : shut_so_far c st ++ replicate more empty_record ≡ fore ++ empty_record ∷ behind
  pub after : shut_so_far c st' ≡ fore ++ part_at from t ∷ behind
  pub size : length (flat fore) ≡ width * number
  pub long : length (part_at from t) ≡ width

-- The same of any number of records that are complete at once, the one with this number and those behind it: `us` are their numbers, one
-- record's behind another's.
pub record FillsAll (c : Class) (st st' : State) (more number : ℕ) (us : List ℤ) : Type 0 where
  pub fore : List (List ℤ)
  pub made : List (List ℤ)
  pub behind : List (List ℤ)
  pub before : shut_so_far c st ++ replicate more empty_record ≡ fore ++ (replicate (length made) empty_record ++ behind)
  pub after : shut_so_far c st' ≡ fore ++ (made ++ behind)
  pub are : flat made ≡ us
  pub size : length (flat fore) ≡ width * number
  pub long : length us ≡ width * length made

-- none is complete
abbrev pub Opens : Class → State → State → ℕ → Type 0
Opens c st st' more = shut_so_far c st' ≡ shut_so_far c st ++ replicate more empty_record

-- .. and this stands on the scratch behind the line
pub record Begins (c : Class) (st st' : State) (more : ℕ) (t : List ℤ) : Type 0 where
  pub opens : Opens c st st' more
  pub scratch : Scratch t st'

-- a line that takes no record and makes none complete: the table's list stays as it is
pub record Enters (c : Class) (st st' : State) (t : List ℤ) : Type 0 where
  pub same : shut_so_far c st' ≡ shut_so_far c st
  pub scratch : Scratch t st'

-- ── the number of the record that is put when a block of the top level or a symbol closes ──
abbrev pub HomeOwnAt : ℕ → Set → Home → Type 0
HomeOwnAt own s (in_element y) = length (flat (front_records s)) ≡ width * own
HomeOwnAt own s (in_layer k) = Unit {0}

-- so many records stand before FILE_FORMAT's, the drawing's, the symbol's that is open; where none is open, nothing is said
abbrev pub OwnAt : Class → ℕ → State → Type 0
OwnAt c own (top s k) = Unit {0}
OwnAt c own (file s n h p) = length (flat (closed_records c s)) ≡ width * own
OwnAt c own (drawing s d) = length (flat (file_records true 1 s.now)) ≡ width * own
OwnAt c own (layer_names s d) = length (flat (file_records true 1 s.now)) ≡ width * own
OwnAt c own (defines s b) = Unit {0}
OwnAt c own (symbol s y) = length (flat (front_records s)) ≡ width * own
OwnAt c own (hide s y ps) = length (flat (front_records s)) ≡ width * own
OwnAt c own (elements s) = Unit {0}
OwnAt c own (figures s h fs) = HomeOwnAt own s h
OwnAt c own (successive s h fs n ps) = HomeOwnAt own s h
OwnAt c own (texts s h fs n o) = HomeOwnAt own s h
OwnAt c own (placing s k fs n o p) = Unit {0}
OwnAt c own (skipping s k fs n o d) = Unit {0}
OwnAt c own (ended s) = Unit {0}

-- the number behind a line in this block: the next record's where such a block may open (the top level, SYMBOL_DEFINE), as it was elsewhere
abbrev pub own_behind : State → ℕ → ℕ → ℕ
own_behind (top s k) records own = records
own_behind (file s n h p) records own = own
own_behind (drawing s d) records own = own
own_behind (layer_names s d) records own = own
own_behind (defines s b) records own = records
own_behind (symbol s y) records own = own
own_behind (hide s y ps) records own = own
own_behind (elements s) records own = own
own_behind (figures s h fs) records own = own
own_behind (successive s h fs n ps) records own = own
own_behind (texts s h fs n o) records own = own
own_behind (placing s k fs n o p) records own = own
own_behind (skipping s k fs n o d) records own = own
own_behind (ended s) records own = own
