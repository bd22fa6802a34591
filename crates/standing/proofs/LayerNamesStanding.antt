-- A line in DRAWING_FORMAT's `layer_name`: from the code's answer to the step that the definitions make.
use Prim.Native.Nat.{ℕ, ◌+◌, ◌≤◌}
use mathlib.Core.Bool.{Bool, true, false, not}
use mathlib.Core.List.{List, [], ◌∷◌, ◌++◌, map}
use mathlib.Core.Path.{◌≡◌, refl, sym, ◌∙◌, ap, subst}
use native.Mathlib.Omega.{arith}
use borrow.Author.Tests.{ltb-true}
use lib.Dec.{ltb}
use lib.IntN.{ℤ, pos}
use lib.ListN.{length, get_or, set, take, drop, length-append, length-take}
use lib.Seq.{sets}
use Rattle.rules.specs.declared.Class.{Class}
use Rattle.rules.specs.declared.LineForm.{LineForm}
use Rattle.rules.specs.Base.{among}
use Rattle.rules.specs.RefusalNumbers.{Got, got, bad, unless, map_g, and_then}
use Rattle.rules.specs.Lines.{Rest, Form, ignored, wrong, close, eof, keyed, free_shape_of, form_in}
use Rattle.rules.specs.Numbers.{value}
use Rattle.rules.specs.Values.{Value, is_layer_id}
use Rattle.rules.specs.Rows.{Held}
use Rattle.rules.specs.Blocks.{most_layers}
use Rattle.rules.specs.Sets.{Layer, Drawing, Set, with_layer, with_records}
use Rattle.rules.specs.Machine.{Line, State, drawing, layer_names, layer_value, on_layer_names, unlimited}
use Rattle.rules.specs.LineByLine.{step_in}
use Rattle.rules.specs.RecordTable.{numbers, padded, layer_record, kind_layer}
use Rattle.rules.proofs.Chains.{unless-got, then-got, map-append}
use Rattle.entries.specs.Names.{names_in}
use Rattle.account.specs.declared.Now.{Now}
use Rattle.account.specs.declared.Where.{Where}
use Rattle.account.specs.declared.Step.{Step}
use Rattle.account.specs.declared.Step.TheVariants as S
use Rattle.account.specs.Records.{part_at, with_part}
use Rattle.account.specs.Account.{at_block}
use Rattle.standing.specs.SoFar.{empty_record}
use Rattle.standing.specs.Kept.{Scratch, Enters}
use Rattle.standing.specs.Standing.{Desk, InDrawing, Stands, LineHere, Counted, StepOut}
use Rattle.account.specs.TopLines.{layers_of}
use Rattle.account.specs.DrawingLines.{layer_taken, layer_put, LayerIn, layer_got, LayerOn, layer_step, names_step, NamesOn, NamesLine}
use Rattle.standing.proofs.LaidTables.{part_of, with-back}
use Rattle.standing.proofs.Standings.{stands_on, stands-still}
use Rattle.standing.proofs.HeadRecords.{head-put}
use Rattle.standing.proofs.OpenRecords.{layer-length}
use Rattle.standing.proofs.ScratchKept.{scratch-long}
use Rattle.standing.proofs.Completing.{completed-by, completed-line, number_same, goes-still, goes_entering, goes_filling}
use Rattle.standing.proofs.EntriesKept.{names-close}
use Rattle.standing.proofs.LinesKept.{layer-fills}
use Rattle.standing.proofs.ClearedKept.{layer-cleared}

-- ── the tests of a layer's line ──
-- a: it is an id; b: one more is allowed; i: it is new
judged : (a : Bool) (g : Got Value) (b i : Bool) (F : Value → State)
    → unless a 6 (and_then g λ v. unless b 11 (unless i 14 (got (F v)))) ≡ map_g F (unless a 6 (and_then g λ v. unless b 11 (unless i 14 (got v))))
judged false g b i F = refl
judged true (bad n) b i F = refl
judged true (got v) false i F = refl
judged true (got v) true false F = refl
judged true (got v) true true F = refl

-- what is so where all are passed
passed : (a : Bool) (g : Got Value) (b i : Bool) (v : Value) → unless a 6 (and_then g λ v. unless b 11 (unless i 14 (got v))) ≡ got v → b ≡ true
passed a g b i v e =
    let (p, q) = unless-got a 6 (and_then g λ v. unless b 11 (unless i 14 (got v))) v e in
    let (y, f, h) = then-got g (λ v. unless b 11 (unless i 14 (got v))) v q in
    (unless-got b 11 (unless i 14 (got y)) v h).0

-- ── a line ──
-- the same things lent, but for the tally, the layers' names and the scratch
abbrev pub desk_names : Desk → List ℕ → List ℕ → List ℤ → Desk
desk_names d tally layers t = record {
  now = d.now;
  tally = tally;
  symbols = d.symbols;
  layers = layers;
  serials = d.serials;
  used = d.used;
  used_all = d.used_all;
  marks = d.marks;
  inner = d.inner;
  header = d.header;
  scratch = t;
}

module _ (c : Class) (spool : List ℕ) (k : ℕ) (FileHere : Desk → Set → ℕ → Held → ℕ → Type 0) (d : Desk) (at to own : ℕ) (l : Line) (w : Where) (form : LineForm)
    (x : LineHere spool k at to form w l) (s : Set) (g : Drawing) (z : Stands c spool k d (FileHere d) at (layer_names s g)) (y : Counted c own d (layer_names s g)) where
  abbrev st : State
  st = layer_names s g

  inw : InDrawing spool k d.now d.marks d.inner s g
  inw = z.block.1

  later : at ≤ to
  later = omega (arith, x.bytes)

  -- how many layers there are
  abbrev count : ℕ
  count = length g.layers

  counted-layers : layers_of d.tally ≡ count
  counted-layers = ap (λ (t : List ℕ). get_or t 10 0) z.tally

  -- tally₁, layers₁, rec₁: the tally, the layers' names and the lent record on return
  module _ (tally₁ layers₁ : List ℕ) (rec₁ : List ℤ) (kept : length layers₁ ≡ length d.layers) where
    abbrev lent : List ℤ
    lent = part_at 32 d.scratch

    abbrev t₁ : List ℤ
    t₁ = with_part 32 rec₁ d.scratch

    abbrev OutOf : List ℕ → List ℕ → List ℤ → Step → Type 0
    OutOf tally layers t r = StepOut c spool k FileHere own l to st (desk_names d tally layers t) r

    abbrev Out : Step → Type 0
    Out r = OutOf tally₁ layers₁ t₁ r

    -- nothing that was lent is changed
    unchanged : (r : Step) → (tally₁ ≡ d.tally) × (layers₁ ≡ d.layers) × (rec₁ ≡ lent) → OutOf d.tally d.layers d.scratch r → Out r
    unchanged r (p, q, h) o =
        subst (λ (a : List ℕ). OutOf a layers₁ t₁ r) (sym p)
        (subst (λ (a : List ℕ). OutOf d.tally a t₁ r) (sym q)
        (subst (λ (a : List ℤ). OutOf d.tally d.layers a r) (sym (with-back 32 rec₁ d.scratch h)) o))

    on-ignored : l.form ≡ ignored → (tally₁ ≡ d.tally) × (layers₁ ≡ d.layers) × (rec₁ ≡ lent) → Out (S.Go d.now)
    on-ignored a q =
        unchanged (S.Go d.now) q
        (goes-still c spool k FileHere own l to st (desk_names d d.tally d.layers d.scratch) d.now st (ap (on_layer_names (unlimited c) l s g) a) refl refl refl refl
        (stands-still c spool k FileHere d at to st z later d.tally d.marks d.inner d.header d.scratch refl refl refl refl refl))

    -- its end
    on-close : l.form ≡ close → (tally₁ ≡ d.tally) × (layers₁ ≡ d.layers) × (rec₁ ≡ lent) → Out (S.Go (at_block d.now 2 0))
    on-close a q =
        let n : Now = at_block d.now 2 0 in
        let closed : Enters c st (drawing s g) d.scratch = names-close c s g d.scratch z.scratch in
        unchanged (S.Go n) q
        (goes_entering c spool k FileHere own l to st (desk_names d d.tally d.layers d.scratch) n (drawing s g) (ap (on_layer_names (unlimited c) l s g) a)
        (completed-by d.now n 3 2 z.block.0 refl) refl refl closed.same
        (stands_on c spool k FileHere d at to st (drawing s g) z n d.marks d.inner d.scratch refl z.lengths.marks z.lengths.inner closed.scratch
        (omega (arith, z.counted, later)) (omega (arith, z.named, later)) (omega (arith, z.numbered, later))
        (refl, record { phase = inw.phase; bare = inw.bare; slots = inw.slots; marked = inw.marked })))

    -- a layer's line
    module _ (id : List ℕ) (rest : Rest) (a : l.form ≡ keyed id rest) where
      abbrev judgement : Got Value
      judgement = layer_got spool d.tally d.layers id rest

      abbrev layer : Value → Layer
      layer v = record { line = l.line; id = id; name = v }

      abbrev next : Value → State
      next v = layer_names (with_records (kind_layer ∷ []) s) (with_layer (layer v) g)

      abbrev names : List (List ℕ)
      names = map (λ (y : Layer). y.id) g.layers

      abbrev tests : ℕ → List (List ℕ) → Got Value
      tests n ns = unless (is_layer_id id) 6 (and_then (layer_value id (free_shape_of rest)) λ v. unless (ltb n most_layers) 11 (unless (not (among id ns)) 14 (got v)))

      -- the code's tests are those of the definitions
      by_tests : judgement ≡ tests count names
      by_tests = ap (λ (n : ℕ). tests n (names_in spool (take n d.layers))) counted-layers ∙ ap (tests count) z.layers

      same_step : step_in (unlimited c) l st ≡ map_g next judgement
      same_step =
          ap (on_layer_names (unlimited c) l s g) a
          ∙ judged (is_layer_id id) (layer_value id (free_shape_of rest)) (ltb count most_layers) (not (among id names)) next
          ∙ ap (map_g next) (sym by_tests)

      on-layer : (v : Value) → judgement ≡ got v → LayerIn spool w id (padded 2 (numbers v)) d.tally tally₁ d.layers layers₁ lent rec₁ → Out (S.Go (layer_taken d.now))
      on-layer v q o =
          let few : ltb (layers_of d.tally) most_layers ≡ true =
          passed (is_layer_id id) (layer_value id (free_shape_of rest)) (ltb (layers_of d.tally) most_layers) (not (among id (names_in spool (take (layers_of d.tally) d.layers)))) v q in
          let more : length (g.layers ++ layer v ∷ []) ≡ count + 1 = length-append g.layers (layer v ∷ []) in
          let up : layers_of d.tally + 1 ≡ length (g.layers ++ layer v ∷ []) = ap (λ (n : ℕ). n + 1) counted-layers ∙ sym more in
          let said : List ℤ = pos (get_or id 0 0) ∷ pos (value (drop 2 id)) ∷ padded 2 (numbers v) in
          let made : rec₁ ≡ layer_record count (layer v) =
          o.rec ∙ ap (λ (n : ℕ). layer_put n w id (padded 2 (numbers v)) lent) counted-layers
          ∙ ap (λ (t : List ℤ). sets t 5 said) (head-put 5 count 1 l.line w lent z.scratch.figure (x.volume ∙ inw.phase.volume) x.line) in
          let long : length rec₁ ≡ 32 = ap length made ∙ layer-length count (layer v) in
          let put : part_at 32 t₁ ≡ layer_record count (layer v) =
          part_of (take 32 d.scratch) rec₁ (drop 64 d.scratch) 32 (omega (arith, length-take 32 d.scratch, z.lengths.scratch)) long ∙ made in
          let cleared : Scratch (with_part 32 empty_record t₁) (next v) = layer-cleared s (kind_layer ∷ []) g (layer v) d.scratch rec₁ long z.scratch in
          let n : Now = layer_taken d.now in
          goes_filling c spool k FileHere own l to st (desk_names d tally₁ layers₁ t₁) n (next v) (same_step ∙ ap (map_g next) q) 32 d.now.records
          (completed-line d.now n 3 32 z.block.0 refl z.block.0 refl) (number_same d.now n own refl) 1 refl refl (layer-fills c s g (layer v) d.now.records y.size t₁ put)
          (record {
            lengths = record {
              symbols = z.lengths.symbols;
              layers = kept ∙ z.lengths.layers;
              serials = z.lengths.serials;
              used = z.lengths.used;
              used_all = z.lengths.used_all;
              marks = z.lengths.marks;
              inner = z.lengths.inner;
              header = z.lengths.header;
              scratch = scratch-long (with_part 32 empty_record t₁) (next v) cleared;
            };
            scratch = cleared;
            here = z.here;
            this = z.this;
            tally =
                o.tally ∙ ap (λ (n : ℕ). set d.tally 10 n) up
                ∙ ap (λ (t : List ℕ). set t 10 (length (g.layers ++ layer v ∷ []))) z.tally;
            symbols = z.symbols;
            layers =
                ap (λ (n : ℕ). names_in spool (take n layers₁)) (sym up) ∙ o.names
                ∙ ap (λ (n : ℕ). names_in spool (take n d.layers) ++ (id ∷ [])) counted-layers
                ∙ ap (λ (ns : List (List ℕ)). ns ++ (id ∷ [])) z.layers ∙ sym (map-append (λ (y : Layer). y.id) g.layers (layer v ∷ []));
            few-layers = omega (arith, more, counted-layers, ltb-true (layers_of d.tally) most_layers few);
            serials = z.serials;
            used = z.used;
            used_all = z.used_all;
            counted = omega (arith, z.counted, later);
            named = omega (arith, z.named, later);
            numbered = omega (arith, z.numbered, later);
            block = (
              z.block.0,
              record {
                phase = record { volume = inw.phase.volume; first = inw.phase.first; blocks = inw.phase.blocks };
                bare = record { layers = inw.bare.layers; symbols = inw.bare.symbols };
                slots = inw.slots;
                marked = inw.marked;
              },
            );
          })

      on-keyed : (j : Got Value) → judgement ≡ j → LayerOn spool w id d.tally tally₁ d.layers layers₁ lent rec₁ j → Out (layer_step d.now j)
      on-keyed (got v) q o = on-layer v q o
      on-keyed (bad m) q o = same_step ∙ ap (map_g next) q

    by_form : (f : Form) → l.form ≡ f → NamesOn spool d.now w d.tally tally₁ d.layers layers₁ lent rec₁ f → Out (names_step spool d.now d.tally d.layers f)
    by_form ignored a o = on-ignored a o
    by_form (wrong m) a o = ap (on_layer_names (unlimited c) l s g) a
    by_form close a o = on-close a o
    by_form eof a o = ap (on_layer_names (unlimited c) l s g) a
    by_form (keyed id rest) a o = on-keyed id rest a (layer_got spool d.tally d.layers id rest) refl o

    pub names-line : (r : Step) → NamesLine spool d.now w (form_in spool form) d.tally tally₁ d.layers layers₁ (part_at 32 d.scratch) rec₁ r → Out r
    names-line r o = subst Out (sym o.answer) (by_form (form_in spool form) x.is o.lent)
