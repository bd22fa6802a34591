-- Reading the lines of the fixed form of a good set gives that set again, places apart.
use Prim.Native.Nat.{ℕ, ◌+◌}
use Prim.Native.String as S
use mathlib.Core.Bool.{Bool, true, false, ◌&&◌, ◌||◌, not}
use mathlib.Core.List.{List, [], ◌∷◌, ◌++◌, map, append-nil, append_assoc}
use mathlib.Core.Path.{◌≡◌, refl, sym, ◌∙◌, ap, ap₂, subst, subst₂}
use lib.Dec.{eqb}
use lib.ListN.{length}
use borrow.Author.Tests.{not-true}
use Rattle.rules.specs.Base.{bytes, is_nil, flat}
use Rattle.rules.specs.RefusalNumbers.{got}
use Rattle.rules.specs.Lines.{form_of, eof}
use Rattle.rules.specs.RangeClass.{digits_of}
use Rattle.rules.specs.Values.{Known}
use Rattle.rules.specs.Rows.{Rule, blank, Held, part_of, number_of}
use Rattle.rules.specs.Blocks.{top_table, file_table, range_table, elec_table, sym_table, later_table, file_tables, blank_held, drawing_table, element_table}
use Rattle.rules.specs.Sets.{Contents, Set, no_contents, nothing_yet, with_now, with_drawing, with_volume, is_first, head_or, first_contents, arc_of, range_of, define_range, known_of, serials_of_volume, elements_of}
use Rattle.rules.specs.VolumesAndTotals.{own_table, counted_here, counted_all, layers_used, partners_exist}
use Rattle.rules.specs.Answers.{full_class}
use Rattle.rules.specs.Machine.{tests_partners, Line, top, file, drawing, defines, elements, file_kinds}
use Rattle.rules.specs.LineByLine.{accepted, step_in, run}
use Rattle.rules.specs.FixedForm.{Text, open_line, block, show_held, show_drawing, show_defines, show_blocks, ending, later_lines, volume_lines}
use Rattle.rules.specs.Sets.{layer_table_of}
use Rattle.rules.proofs.Chains.{and_left, and_right, map-append, nil-snoc, flat_append}
use Rattle.rules.proofs.Runs.{head-snoc}
use Rattle.promises.specs.PlacesApart.{bare_form, bare_held, bare_drawing, bare_symbol, bare_contents, bare_set}
use Rattle.promises.proofs.Good.{GoodFile, GoodLater, GoodDrawing, GoodDefines, GoodVolume, GoodLaters, GoodSet, fresh_numbers, ranges_of, layer_rows, ranges_in}
use Rattle.promises.proofs.BackSlots.{line_for, lay, lay_all, plain_env, close-form, retaken, Reads, one_line, ◌and◌}
use Rattle.promises.proofs.BackFile.{read-file, read-later}
use Rattle.promises.proofs.BackDrawing.{taken_layers, read-drawing}
use Rattle.promises.proofs.BackPlaced.{fresh-parts}
use Rattle.promises.proofs.BackSymbols.{taken_symbols, with_symbols, read-defines}
use Rattle.promises.proofs.BackBlocks.{taken_blocks, read-blocks}
use Rattle.promises.proofs.Bare.{part-number, known-bare, volume-serials, elements-bare, all-bare, layers-bare, tests-bare, exist-bare}

-- ── the lines between the blocks ──
opens-file : (next : List ℕ) (S : Set) (n : ℕ) → step_in plain_env (line_for next false (open_line (bytes "FILE_FORMAT"))) (top (retaken n S) 0)
    ≡ got (file (retaken (n + length (file_kinds (is_first S))) S) 0 (blank_held (file_tables (is_first S))) 0)
unfolding form_of top_table
opens-file next S n = refl

opens-drawing : (next : List ℕ) (S : Set) (n : ℕ) → step_in plain_env (line_for next false (open_line (bytes "DRAWING_FORMAT"))) (top (retaken n S) 1)
    ≡ got (drawing (retaken (n + 1) S) (record { line = 0; own = blank drawing_table; layers = [] }))
unfolding form_of top_table
opens-drawing next S n = refl

opens-defines : (next : List ℕ) (S : Set) → step_in plain_env (line_for next false (open_line (bytes "SYMBOL_DEFINE"))) (top S 2) ≡ got (defines S false)
unfolding form_of top_table
opens-defines next S = refl

opens-elements : (next : List ℕ) (S : Set) → step_in plain_env (line_for next false (open_line (bytes "ELEMENT"))) (top S 3) ≡ got (elements S)
unfolding form_of top_table
opens-elements next S = refl

-- ELEMENT's end is the last line of a volume that is not the last ..
end_more : (next : List ℕ) (S : Set) (more : List Line) → is_nil next ≡ false → counted_here S ≡ true → run plain_env (elements S) (lay next (bytes "}" ∷ []) more) ≡ run plain_env (top (with_volume S) 0) more
unfolding element_table
end_more next S more e c = rw (close-form, e, c)

eof-form : bare_form (form_of 0 (bytes "EOF")) ≡ eof
unfolding form_of
eof-form = refl

-- at EOF: every partner is an own number, where that is tested
abbrev partners_met : Set → Bool
partners_met s = not (tests_partners full_class s) || partners_exist s

-- .. and in the last volume EOF follows it
end-last : (next : List ℕ) (S : Set) → is_nil next ≡ true → counted_here S ≡ true → layers_used (with_volume S) ≡ true → counted_all (with_volume S) ≡ true → partners_met (with_volume S) ≡ true
    → run plain_env (elements S) (lay next (bytes "}" ∷ bytes "EOF" ∷ []) []) ≡ accepted (with_volume S)
unfolding element_table
end-last next S e c u a t = rw (close-form, c, eof-form, e, u, a, t)

-- ── a later volume ──
abbrev next_set : Set → Contents → Set
next_set S v =
    record { drawing = S.drawing; symbols = S.symbols; volumes = S.volumes ++ S.now ∷ []; now = bare_contents v; taken = taken_blocks (S.taken + 1) v.blocks }

-- the volume at hand and the later ones closed
abbrev close_all : Set → List Contents → Set
close_all S [] = with_volume S
close_all S (v ∷ vs) = close_all (next_set S v) vs

-- what `dated` says of FILE_FORMAT in the first and in a later volume
abbrev dated_by : Held → Held → Bool
dated_by f h =
    eqb (number_of "date" later_table (part_of h 0)) (number_of "date" file_table (part_of f 0))
    && eqb (number_of "time" later_table (part_of h 0)) (number_of "time" file_table (part_of f 0))

dates-bare : (f h : Held) → dated_by (bare_held f) (bare_held h) ≡ dated_by f h
dates-bare f h = rw (part-number "date" later_table h 0, part-number "date" file_table f 0, part-number "time" later_table h 0, part-number "time" file_table f 0)

serials-snoc : (vs : List Contents) (v : Contents) → flat (map serials_of_volume (vs ++ v ∷ [])) ≡ flat (map serials_of_volume vs) ++ serials_of_volume v
serials-snoc vs v =
    ap flat (map-append serials_of_volume vs (v ∷ [])) ∙ flat_append (map serials_of_volume vs) (serials_of_volume v ∷ [])
    ∙ ap (λ (x : List ℕ). flat (map serials_of_volume vs) ++ x) (append-nil (serials_of_volume v))

counted-bare : (S : Set) (first : Bool) (v : Contents) → S.now ≡ bare_contents v → is_first S ≡ first → eqb (number_of "this_ele" (own_table first) (part_of v.file 0)) (elements_of v) ≡ true → counted_here S ≡ true
counted-bare S first v e f c = rw (e, f, part-number "this_ele" (own_table first) v.file 0, elements-bare v) c

-- the ranges of a FILE_FORMAT, its places made 0
ranges-bare : (f : Held) → ranges_in (bare_held f) ≡ ranges_in f
ranges-bare f = ap₂ (λ (a b : ℕ). record { symbols = a; wires = b }) (part-number "E_sym" elec_table f 3) (part-number "E_wire" elec_table f 3)

module _ (k : Known) (f : Held) where
  read-volume : (next : List ℕ) (S : Set) (v : Contents) → known_of S ≡ k → (first_contents S).file ≡ bare_held f → GoodVolume k (ranges_in f) false next v → GoodLater v.file
      → dated_by f v.file ≡ true → fresh_numbers (flat (map serials_of_volume (S.volumes ++ S.now ∷ []))) (serials_of_volume v) ≡ true
      → Reads next (top (with_volume S) 0) (λ ls. open_line (bytes "FILE_FORMAT") ∷ show_held k (file_tables false) v.file (bytes "}" ∷ open_line (bytes "ELEMENT") ∷ show_blocks k (layer_rows (ranges_in f)) v.blocks ls))
      (elements (next_set S v))
  read-volume next S v p q g h d z =
      one_line next (open_line (bytes "FILE_FORMAT")) (top T 0) (file (retaken (S.taken + 1) T) 0 (blank_held (file_tables false)) 0)
      (opens-file next T S.taken ∙ ap (λ b. got (file (retaken (S.taken + length (file_kinds b)) T) 0 (blank_held (file_tables b)) 0)) later)
      and read-later next k (retaken (S.taken + 1) T) later v.file h g.chain (rw (head-snoc S.now S.now S.volumes, q) (rw (dates-bare f v.file) d))
      and one_line next (open_line (bytes "ELEMENT")) (top (retaken (S.taken + 1) U) 3) (elements (retaken (S.taken + 1) U)) (opens-elements next (retaken (S.taken + 1) U))
      and read-blocks next k (ranges_in f) U (S.taken + 1) v.blocks p
      (ap ranges_in (ap (λ (c : Contents). c.file) (head-snoc U.now S.now S.volumes) ∙ q) ∙ ranges-bare f)
      g.blocks g.once (rw (append-nil (flat (map serials_of_volume (S.volumes ++ S.now ∷ [])))) z)
    where
      T : Set
      T = with_volume S

      U : Set
      U = with_now (record { line = 0; file = bare_held v.file; blocks = [] }) (with_volume S)

      later : is_first (with_volume S) ≡ false
      later = nil-snoc S.volumes S.now

-- the name that follows each volume: something, and nothing after the last
abbrev pub ends_once : List (List ℕ) → Bool
ends_once [] = false
ends_once (n ∷ []) = is_nil n
ends_once (n ∷ m ∷ ns) = not (is_nil n) && ends_once (m ∷ ns)

-- ── from ELEMENT's end on ──
module _ (k : Known) (f : Held) (s : Set) (first-is : (first_contents s).file ≡ f) where
  read-rest : (next : List ℕ) (ns : List (List ℕ)) (S : Set) (vs : List Contents) → GoodLaters k (ranges_in f) s ns vs
      → ends_once (next ∷ ns) ≡ true → known_of S ≡ k → (first_contents S).file ≡ bare_held f → counted_here S ≡ true
      → fresh_numbers (flat (map serials_of_volume (S.volumes ++ S.now ∷ []))) (flat (map serials_of_volume vs)) ≡ true → layers_used (close_all S vs) ≡ true → counted_all (close_all S vs) ≡ true
      → partners_met (close_all S vs) ≡ true
      → run plain_env (elements S) (lay next (bytes "}" ∷ ending vs) (lay_all ns (later_lines k (layer_rows (ranges_in f)) vs))) ≡ accepted (close_all S vs)
  read-rest next [] S [] g e p q c z u a t = end-last next S e c u a t
  read-rest next [] S (v ∷ vs) g e p q c z u a t = absurd g
  read-rest next (n ∷ ns) S [] g e p q c z u a t = absurd g
  read-rest next (n ∷ ns) S (v ∷ vs) g e p q c z u a t =
      let (z₁, z₂) = fresh-parts (flat (map serials_of_volume (S.volumes ++ S.now ∷ []))) (serials_of_volume v) (flat (map serials_of_volume vs)) z in
      let here-read = read-volume k f n S v p q g.0 g.1 (subst (λ (h : Held). dated_by h v.file ≡ true) first-is g.2) z₁ in
      end_more next S (lay_all (n ∷ ns) (later_lines k (layer_rows (ranges_in f)) (v ∷ vs))) (not-true (is_nil next) (and_left (not (is_nil next)) _ e)) c
      ∙ here-read.leads (bytes "}" ∷ ending vs) (lay_all ns (later_lines k (layer_rows (ranges_in f)) vs)) refl
      ∙ read-rest n ns (next_set S v) vs g.3 (and_right (not (is_nil next)) _ e) p
      (ap (λ (c : Contents). c.file) (head-snoc (bare_contents v) S.now S.volumes) ∙ q)
      (counted-bare (next_set S v) false v refl (nil-snoc S.volumes S.now) g.0.count)
      (subst (λ (x : List ℕ). fresh_numbers x (flat (map serials_of_volume vs)) ≡ true)
      (ap (λ (x : List ℕ). flat (map serials_of_volume (S.volumes ++ S.now ∷ [])) ++ x) (sym (volume-serials v)) ∙ sym (serials-snoc (S.volumes ++ S.now ∷ []) (bare_contents v))) z₂)
      u a t

-- ── the set at the end ──
abbrev latest_of : Contents → List Contents → Contents
latest_of v [] = v
latest_of v (w ∷ ws) = latest_of w ws

closed_all : (S : Set) (vs : List Contents) → close_all S vs
    ≡ record { drawing = S.drawing; symbols = S.symbols; volumes = S.volumes ++ S.now ∷ map bare_contents vs; now = latest_of S.now (map bare_contents vs); taken = (close_all S vs).taken }
closed_all S [] = refl
closed_all S (v ∷ vs) =
    closed_all (next_set S v) vs
    ∙ ap (λ (x : List Contents). record { drawing = S.drawing; symbols = S.symbols; volumes = x; now = latest_of (bare_contents v) (map bare_contents vs); taken = (close_all (next_set S v) vs).taken })
    (append_assoc S.volumes (S.now ∷ []) (bare_contents v ∷ map bare_contents vs))

latest-snoc : (d : Contents) (vs : List Contents) (v : Contents) → latest_of d (vs ++ v ∷ []) ≡ v
latest-snoc d [] v = refl
latest-snoc d (w ∷ vs) v = latest-snoc w vs v

latest-bare : (v : Contents) (vs : List Contents) → latest_of (bare_contents v) (map bare_contents vs) ≡ bare_contents (latest_of v vs)
latest-bare v [] = refl
latest-bare v (w ∷ vs) = latest-bare w vs

-- ── the first volume ──
abbrev taken_first : Set → Contents → ℕ
taken_first s v = taken_blocks (taken_symbols (taken_layers 3 s.drawing.layers) s.symbols) v.blocks

abbrev first_set : Set → Contents → Set
first_set s v = record { drawing = bare_drawing s.drawing; symbols = map bare_symbol s.symbols; volumes = []; now = bare_contents v; taken = taken_first s v }

abbrev first_text : Set → Contents → Text → Text
first_text s v ls =
    block (bytes "FILE_FORMAT") (show_held (known_of s) (file_tables true) v.file)
    (block (bytes "DRAWING_FORMAT") (show_drawing (known_of s) s.drawing)
    (block (bytes "SYMBOL_DEFINE") (show_defines (known_of s) s.symbols)
    (open_line (bytes "ELEMENT") ∷ show_blocks (known_of s) (layer_table_of s) v.blocks ls)))

module _ (next : List ℕ) (s : Set) (v : Contents) (v-is : v.file ≡ (first_contents s).file) where
  abbrev k : Known
  k = known_of s

  -- the set after FILE_FORMAT, and after DRAWING_FORMAT
  abbrev filed : Set
  filed = with_now (record { line = 0; file = bare_held v.file; blocks = [] }) (retaken 2 nothing_yet)

  abbrev drawn : Set
  drawn = with_drawing (bare_drawing s.drawing) (retaken (taken_layers 3 s.drawing.layers) filed)

  abbrev named : Set
  named = retaken (taken_symbols (taken_layers 3 s.drawing.layers) s.symbols) (with_symbols (map bare_symbol s.symbols) drawn)

  number_is : (key : S.String) (t : List Rule) (p : ℕ) → number_of key t (part_of (bare_held v.file) p) ≡ number_of key t (part_of (first_contents s).file p)
  number_is key t p = part-number key t v.file p ∙ ap (λ (h : Held). number_of key t (part_of h p)) v-is

  read_first : GoodFile v.file → GoodDrawing (arc_of s) s.drawing → GoodDefines (define_range s) (range_of s) s.symbols → GoodVolume k (ranges_of s) true next v
      → fresh_numbers [] (serials_of_volume v) ≡ true
      → Reads next (top nothing_yet 0) (first_text s v) (elements (first_set s v))
  read_first file-good drawing-good defines-good g z =
      one_line next (open_line (bytes "FILE_FORMAT")) (top nothing_yet 0) (file (retaken 2 nothing_yet) 0 (blank_held (file_tables true)) 0) (opens-file next nothing_yet 0)
      and read-file next k (retaken 2 nothing_yet) refl v.file file-good g.chain
      and one_line next (open_line (bytes "DRAWING_FORMAT")) (top filed 1) (drawing (retaken 3 filed) (record { line = 0; own = blank drawing_table; layers = [] })) (opens-drawing next filed 2)
      and read-drawing next k filed 3 s.drawing (subst (λ (n : ℕ). GoodDrawing n s.drawing) (sym (number_is "arc" range_table 1)) drawing-good)
      and one_line next (open_line (bytes "SYMBOL_DEFINE")) (top drawn 2) (defines drawn false) (opens-defines next drawn)
      and read-defines next k drawn (taken_layers 3 s.drawing.layers) s.symbols refl
      (subst₂ (λ (a b : ℕ). GoodDefines a (digits_of b) s.symbols) (sym (number_is "S_elec" sym_table 4)) (sym (number_is "E_sym" elec_table 3)) defines-good)
      and one_line next (open_line (bytes "ELEMENT")) (top named 3) (elements named) (opens-elements next named)
      and read-blocks next k (ranges_of s) named (taken_symbols (taken_layers 3 s.drawing.layers) s.symbols) v.blocks (known-bare s) (ranges-bare v.file ∙ ap ranges_in v-is) g.blocks g.once z

-- partners are met or not, whatever the places
met-bare : (s : Set) → partners_met (bare_set s) ≡ partners_met s
met-bare s = rw (tests-bare full_class s, exist-bare s)

-- ── the whole set ──
module _ (nexts : List (List ℕ)) (s : Set) (g : GoodSet nexts s) (e : ends_once nexts ≡ true) where
  abbrev last : Set
  last = close_all (first_set s g.first) g.rest

  now-is : latest_of g.first g.rest ≡ s.now
  now-is = ap (latest_of no_contents) (sym g.volumes ∙ g.latest) ∙ latest-snoc no_contents g.before s.now

  last-is : last ≡ retaken last.taken (bare_set s)
  last-is =
      closed_all (first_set s g.first) g.rest
      ∙ ap₂ (λ (vs : List Contents) (v : Contents). record { drawing = bare_drawing s.drawing; symbols = map bare_symbol s.symbols; volumes = vs; now = v; taken = last.taken })
      (ap (map bare_contents) (sym g.volumes)) (latest-bare g.first g.rest ∙ ap bare_contents now-is)

  first-file : g.first.file ≡ (first_contents s).file
  first-file = ap (λ (vs : List Contents). (head_or s.now vs).file) (sym g.volumes)

  set_runs : run plain_env (top nothing_yet 0) (lay_all nexts (volume_lines s s.volumes)) ≡ accepted (retaken last.taken (bare_set s))
  set_runs =
      let (z₁, z₂) = fresh-parts [] (serials_of_volume g.first) (flat (map serials_of_volume g.rest)) (subst (λ (vs : List Contents). fresh_numbers [] (flat (map serials_of_volume vs)) ≡ true) g.volumes g.serials) in
      let more = lay_all g.others (later_lines (known_of s) (layer_table_of s) g.rest) in
      ap₂ (λ (ns : List (List ℕ)) (vs : List Contents). run plain_env (top nothing_yet 0) (lay_all ns (volume_lines s vs))) g.nexts-are g.volumes
      ∙ (read_first g.next s g.first first-file g.file g.drawing g.defines g.volume z₁).leads (bytes "}" ∷ ending g.rest) more refl
      ∙ read-rest (known_of s) (first_contents s).file s refl g.next g.others (first_set s g.first) g.rest g.laters
      (subst (λ (ns : List (List ℕ)). ends_once ns ≡ true) g.nexts-are e) (known-bare s) (ap bare_held first-file)
      (counted-bare (first_set s g.first) true g.first refl refl g.volume.count)
      (subst (λ (x : List ℕ). fresh_numbers x (flat (map serials_of_volume g.rest)) ≡ true) (sym (append-nil (serials_of_volume (bare_contents g.first)) ∙ volume-serials g.first)) z₂)
      (ap layers_used last-is ∙ layers-bare s ∙ g.used) (ap counted_all last-is ∙ all-bare s ∙ g.counted)
      (ap partners_met last-is ∙ met-bare s ∙ g.partners)
      ∙ ap accepted last-is

  -- reading the lines of the fixed form gives the set again, places apart
  pub set_back : (m : ℕ) × (run plain_env (top nothing_yet 0) (lay_all nexts (volume_lines s s.volumes)) ≡ accepted (retaken m (bare_set s)))
  set_back = (last.taken, set_runs)
