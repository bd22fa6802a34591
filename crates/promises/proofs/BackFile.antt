-- FILE_FORMAT and DRAWING_FORMAT, written and read again.
use Rattle.std.specs.Prelude.{Option, Some, None}
use Prim.Native.Nat.{ℕ, suc}
use mathlib.Core.Bool.{Bool, true, false, cond, ◌&&◌}
use mathlib.Core.List.{List, [], ◌∷◌}
use mathlib.Core.Path.{◌≡◌, refl, sym, ◌∙◌, ap, subst}
use native.Mathlib.Omega.{arith}
use lib.Dec.{eqb}
use lib.ListN.{get_or, set}
use Rattle.rules.specs.declared.Digits.{Digits}
use Rattle.rules.specs.Base.{bytes, all}
use Rattle.rules.specs.RefusalNumbers.{got}
use Rattle.rules.specs.Lines.{form_of}
use Rattle.rules.specs.Values.{Value, Known, either, amount_at}
use Rattle.rules.specs.Rows.{Rule, Slots, blank, Held, part_of, rows_there, inner_of, complete}
use Rattle.rules.specs.Blocks.{file_table, range_table, base_table, elec_table, sym_table, later_table, file_tables, around, blank_held}
use Rattle.rules.specs.Sets.{Set, is_first, known_of, with_now}
use Rattle.rules.specs.VolumesAndTotals.{chained, dated}
use Rattle.rules.specs.Machine.{State, top, file}
use Rattle.rules.specs.LineByLine.{step_in}
use Rattle.rules.specs.FixedForm.{Text, opens_block, line_of, no_inner, show_inner, show_held, show_slots, show_value}
use Rattle.rules.proofs.Chains.{and_left, and_right}
use Rattle.rules.proofs.Rows.{Row, here, there, differ, row-all}
use Rattle.promises.specs.PlacesApart.{bare_value, bare_slots, bare_held}
use Rattle.promises.proofs.Good.{Always, Closed, GoodPart, none0, is_one, GoodFile, GoodLater}
use Rattle.promises.proofs.BackSlots.{line_for, plain_env, Reads, one_line, ◌and◌, Free, free-mark, Takes, read-slots, act-entry, act-begin, opens_in, opens_at, still, filled, unfilled, unmoved, opens-end, calm, calm-row, Enters, entered, opened, read-calm, opens-needed}
use Rattle.promises.proofs.Bare.{marks-bare, blank-bare, chained-bare}
use Rattle.promises.proofs.Nameless.{nameless, line_any}

-- an inner part so far: as written where it was opened, blank where not
abbrev pub inner_slots : Bool → List Rule → Slots → Slots
inner_slots true t s = bare_slots s
inner_slots false t s = blank t

pub inner-whole : (b : Bool) (P : Rule → Value → Type 0) (d : Digits) (t : List Rule) (s : Slots) → GoodPart b P d t s → inner_slots b t s ≡ bare_slots s
inner-whole true P d t s g = refl
inner-whole false P d t s g = rw (g, blank-bare t)

-- ── FILE_FORMAT ──
module _ (next : List ℕ) (k : Known) (S : Set) (t : List Rule) (p : ℕ) (H : Slots → Held)
    (here-is : get_or (file_tables (is_first S)) p [] ≡ t) (keys : differ t ≡ true) (plain : all (λ r. nameless r.holds) t ≡ true)
    (at : (u : Slots) → part_of (H u) p ≡ u) where
  -- a row's line in the part p: what the part's slots are is H's
  enters-file : ((u x : Slots) → ((j : ℕ) → opens_at t x j ≡ opens_at t u j) → set (H u) p x ≡ H x) → Enters next k (Always none0) (λ u. file S 0 (H u) p) t
  enters-file put i r v w g u f o =
      rw (
        here-is,
        at u,
        line_any r (row-all (λ r. nameless r.holds) w plain) k (known_of S) v,
        act-entry (known_of S) none0 t i r v w (g (known_of S)) keys (rows_there u) (free-mark u i f) o,
        put u (set u i (Some (bare_value v))) (still w u f v o),
      )

  opens-file : (i : ℕ) (r : Rule) (v : Value) → Row t i r → Always none0 r v → (u : Slots) → Free u i → opens_block r.holds v ≡ true
      → step_in plain_env (line_for next false (line_of k r v)) (file S 0 (H u) p) ≡ got (file S 0 (set (H u) p (set u i (Some (bare_value v)))) (inner_of r.holds))
  opens-file i r v w g u f o =
      rw (
        here-is,
        at u,
        line_any r (row-all (λ r. nameless r.holds) w plain) k (known_of S) v,
        act-begin (known_of S) none0 t i r v w (g (known_of S)) keys (rows_there u) (free-mark u i f) o,
      )

  -- the end of an inner part
  shuts-part : (q : ℕ) → p ≡ suc q → (s : Slots) → complete none0 t (rows_there s) ≡ true
      → step_in plain_env (line_for next false (bytes "}")) (file S 0 (H (bare_slots s)) p) ≡ got (file S 0 (H (bare_slots s)) (around p))
  unfolding form_of
  shuts-part q e s c = rw (here-is, at (bare_slots s), marks-bare s, c, e)

  -- an inner part no row of which opens anything
  read-part : (q : ℕ) → p ≡ suc q → ((u x : Slots) → set (H u) p x ≡ H x) → calm t ≡ true → (inner : ℕ → Text → Text) (s : Slots) → Closed (Always none0) none0 t s
      → Reads next (file S 0 (H (blank t)) p) (λ ls. show_slots k t s inner (bytes "}" ∷ ls)) (file S 0 (H (bare_slots s)) (around p))
  read-part q e put c inner s g =
      read-calm next k inner (Always none0) (λ u. file S 0 (H u) p) t s c (enters-file (λ u x o. put u x)) g.good
      and one_line next (bytes "}") (file S 0 (H (bare_slots s)) p) (file S 0 (H (bare_slots s)) (around p)) (shuts-part q e s g.all)

shuts-file : (next : List ℕ) (S : Set) (t : List Rule) (h : Held) → get_or (file_tables (is_first S)) 0 [] ≡ t → complete none0 t (rows_there (part_of h 0)) ≡ true
    → chained (is_first S) next h ≡ true → dated S (is_first S) h ≡ true
    → step_in plain_env (line_for next false (bytes "}")) (file S 0 h 0) ≡ got (top (with_now (record { line = 0; file = h; blocks = [] }) S) (cond (is_first S) 1 3))
unfolding form_of
shuts-file next S t h e c ch da = rw (e, c, ch, da)

-- the tables' keys differ, and none of their rows names a symbol or a layer
abbrev pub sound : List Rule → Bool
sound t = differ t && all (λ r. nameless r.holds) t

pub sound-differ : (t : List Rule) → sound t ≡ true → differ t ≡ true
sound-differ t e = and_left (differ t) _ e

pub sound-plain : (t : List Rule) → sound t ≡ true → all (λ r. nameless r.holds) t ≡ true
sound-plain t e = and_right (differ t) _ e

file-sound : (sound file_table ≡ true) × (sound range_table ≡ true) × (sound base_table ≡ true) × (sound elec_table ≡ true) × (sound sym_table ≡ true) × (sound later_table ≡ true)
unfolding file_table range_table base_table elec_table sym_table later_table
file-sound = (refl, refl, refl, refl, refl, refl)

file-calm : (calm base_table ≡ true) × (calm elec_table ≡ true) × (calm sym_table ≡ true) × (calm later_table ≡ true)
unfolding base_table elec_table sym_table later_table
file-calm = (refl, refl, refl, refl)

-- the parts base, elec and sym within range
module _ (next : List ℕ) (k : Known) (S : Set) (first : is_first S ≡ true) (own range base elec sym' : Slots)
    (own-good : Closed (Always none0) none0 file_table own)
    (range-good : Closed (Always none0) none0 range_table range)
    (base-good : Closed (Always none0) none0 base_table base)
    (elec-good : GoodPart (is_one (get_or range 2 None)) (Always none0) none0 elec_table elec)
    (sym-good : GoodPart (is_one (get_or range 5 None)) (Always none0) none0 sym_table sym') where
  abbrev range_held : Slots → Slots → Held
  range_held a u =
      a ∷ u ∷ inner_slots (opens_at range_table u 0) base_table base ∷ inner_slots (opens_at range_table u 2) elec_table elec ∷ inner_slots (opens_at range_table u 5) sym_table sym' ∷ []

  abbrev held : Held
  held = own ∷ range ∷ base ∷ elec ∷ sym' ∷ []

  abbrev in_range : ℕ → Text → Text
  in_range = show_inner k (file_tables true) held no_inner

  table_at : (p : ℕ) (t : List Rule) → get_or (file_tables true) p [] ≡ t → get_or (file_tables (is_first S)) p [] ≡ t
  table_at p t e = rw first e

  -- one of the three
  read-inner : (t : List Rule) (q : ℕ) (H : Slots → Held) → get_or (file_tables true) (suc q) [] ≡ t → sound t ≡ true → calm t ≡ true
      → ((u : Slots) → part_of (H u) (suc q) ≡ u) → ((u x : Slots) → set (H u) (suc q) x ≡ H x) → (s : Slots) → Closed (Always none0) none0 t s
      → Reads next (file S 0 (H (blank t)) (suc q)) (λ ls. show_slots k t s no_inner (bytes "}" ∷ ls)) (file S 0 (H (bare_slots s)) (around (suc q)))
  read-inner t q H e d c at put s g =
      read-part next k S t (suc q) H (table_at (suc q) t e) (sound-differ t d) (sound-plain t d) at q refl put c no_inner s g

  module _ (a : Slots) where
    abbrev inside : Slots → State
    inside u = file S 0 (range_held a u) 1

    enters-range : Enters next k (Always none0) inside range_table
    enters-range =
        enters-file next k S range_table 1 (range_held a) (table_at 1 range_table refl) (sound-differ range_table file-sound.1) (sound-plain range_table file-sound.1) (λ u. refl)
        (λ u x e. rw (e 0, e 2, e 5))

    opens-range : (i : ℕ) (r : Rule) (v : Value) → Row range_table i r → Always none0 r v → (u : Slots) → Free u i → opens_block r.holds v ≡ true
        → step_in plain_env (line_for next false (line_of k r v)) (inside u) ≡ got (file S 0 (set (range_held a u) 1 (set u i (Some (bare_value v)))) (inner_of r.holds))
    opens-range =
        opens-file next k S range_table 1 (range_held a) (table_at 1 range_table refl) (sound-differ range_table file-sound.1) (sound-plain range_table file-sound.1) (λ u. refl)

    module _ (r : Rule) (v : Value) (h : Always none0 r v) (u : Slots) (o : opens_block r.holds v ≡ true) where
      abbrev then_at : ℕ → Slots
      then_at i = set u i (Some (bare_value v))

      takes-base : Row range_table 0 r → Free u 0 → inner_of r.holds ≡ 2 → Reads next (inside u) (show_value k r v in_range) (inside (then_at 0))
      takes-base w f m =
          opened next k in_range r v (inside u) (file S 0 (set (range_held a u) 1 (then_at 0)) (inner_of r.holds)) (inside (then_at 0)) o (opens-range 0 r v w h u f o)
          (rw (m, unfilled range_table u 0 f, filled w u f v o, unmoved range_table u 0 2 (Some (bare_value v)) (λ q. omega arith), unmoved range_table u 0 5 (Some (bare_value v)) (λ q. omega arith))
          (read-inner base_table 1 (λ z. a ∷ then_at 0 ∷ z ∷ inner_slots (opens_at range_table u 2) elec_table elec ∷ inner_slots (opens_at range_table u 5) sym_table sym' ∷ []) refl
          file-sound.2 file-calm.0 (λ z. refl) (λ z y. refl) base base-good))

      takes-elec : Row range_table 2 r → Free u 2 → inner_of r.holds ≡ 3 → Closed (Always none0) none0 elec_table elec → Reads next (inside u) (show_value k r v in_range) (inside (then_at 2))
      takes-elec w f m c =
          opened next k in_range r v (inside u) (file S 0 (set (range_held a u) 1 (then_at 2)) (inner_of r.holds)) (inside (then_at 2)) o (opens-range 2 r v w h u f o)
          (rw (m, unfilled range_table u 2 f, filled w u f v o, unmoved range_table u 2 0 (Some (bare_value v)) (λ q. omega arith), unmoved range_table u 2 5 (Some (bare_value v)) (λ q. omega arith))
          (read-inner elec_table 2 (λ z. a ∷ then_at 2 ∷ inner_slots (opens_at range_table u 0) base_table base ∷ z ∷ inner_slots (opens_at range_table u 5) sym_table sym' ∷ []) refl
          file-sound.3 file-calm.1 (λ z. refl) (λ z y. refl) elec c))

      takes-sym : Row range_table 5 r → Free u 5 → inner_of r.holds ≡ 4 → Closed (Always none0) none0 sym_table sym' → Reads next (inside u) (show_value k r v in_range) (inside (then_at 5))
      takes-sym w f m c =
          opened next k in_range r v (inside u) (file S 0 (set (range_held a u) 1 (then_at 5)) (inner_of r.holds)) (inside (then_at 5)) o (opens-range 5 r v w h u f o)
          (rw (m, unfilled range_table u 5 f, filled w u f v o, unmoved range_table u 5 0 (Some (bare_value v)) (λ q. omega arith), unmoved range_table u 5 2 (Some (bare_value v)) (λ q. omega arith))
          (read-inner sym_table 3 (λ z. a ∷ then_at 5 ∷ inner_slots (opens_at range_table u 0) base_table base ∷ inner_slots (opens_at range_table u 2) elec_table elec ∷ z ∷ []) refl
          file-sound.4 file-calm.2 (λ z. refl) (λ z y. refl) sym' c))

    -- a part that was opened is closed
    part-closed : (t : List Rule) (s : Slots) (x : Option Value) (v : Value) → x ≡ Some v → eqb (amount_at v 0) 1 ≡ true → GoodPart (is_one x) (Always none0) none0 t s
        → Closed (Always none0) none0 t s
    part-closed t s x v e o g = rw (e, o) at g

    enters-one : (i : ℕ) (r : Rule) (v : Value) → Row range_table i r → Always none0 r v → (u : Slots) → Free u i → opens_block r.holds v ≡ false
        → Reads next (inside u) (show_value k r v in_range) (inside (set u i (Some (bare_value v))))
    enters-one i r v w h u f o = entered next k in_range r v (inside u) (inside (set u i (Some (bare_value v)))) o (enters-range i r v w h u f o)

    takes-range : Takes next k in_range (Always none0) inside range_table range
    unfolding range_table
    takes-range i r v here e h u f = takes-base r v h u refl here f refl
    takes-range i r v (there here) e h u f = enters-one i r v (there here) h u f refl
    takes-range i r v (there (there here)) e h u f = go (eqb (amount_at v 0) 1) refl
      where
        go : (b : Bool) → eqb (amount_at v 0) 1 ≡ b → Reads next (inside u) (show_value k r v in_range) (inside (set u 2 (Some (bare_value v))))
        go true o = takes-elec r v h u o (there (there here)) f refl (part-closed elec_table elec (get_or range 2 None) v e o elec-good)
        go false o = enters-one i r v (there (there here)) h u f o
    takes-range i r v (there (there (there here))) e h u f = enters-one i r v (there (there (there here))) h u f refl
    takes-range i r v (there (there (there (there here)))) e h u f = enters-one i r v (there (there (there (there here)))) h u f refl
    takes-range i r v (there (there (there (there (there here))))) e h u f = go (eqb (amount_at v 0) 1) refl
      where
        go : (b : Bool) → eqb (amount_at v 0) 1 ≡ b → Reads next (inside u) (show_value k r v in_range) (inside (set u 5 (Some (bare_value v))))
        go true o = takes-sym r v h u o (there (there (there (there (there here))))) f refl (part-closed sym_table sym' (get_or range 5 None) v e o sym-good)
        go false o = enters-one i r v (there (there (there (there (there here))))) h u f o
    takes-range _ r v (there (there (there (there (there (there w)))))) e h u f = elim w [ ]

    read-range : Reads next (file S 0 (a ∷ blank range_table ∷ blank base_table ∷ blank elec_table ∷ blank sym_table ∷ []) 1) (λ ls. show_slots k range_table range in_range (bytes "}" ∷ ls))
        (file S 0 (a ∷ bare_slots range ∷ bare_slots base ∷ bare_slots elec ∷ bare_slots sym' ∷ []) 0)
    unfolding range_table
    read-range =
        rw (← at-end)
        (read-slots next k in_range (Always none0) inside range_table range range-good.good takes-range
        and one_line next (bytes "}") (inside (bare_slots range)) (file S 0 (range_held a (bare_slots range)) 0)
        (shuts-part next k S range_table 1 (range_held a) (table_at 1 range_table refl) (sound-differ range_table file-sound.1) (sound-plain range_table file-sound.1) (λ u. refl) 0 refl range
        range-good.all))
      where
        is_one_lem : (n : ℕ) (o : Option Value) → opens_in (either n) o ≡ is_one o
        is_one_lem n None = refl
        is_one_lem n (Some v) = refl

        at-end : range_held a (bare_slots range) ≡ a ∷ bare_slots range ∷ bare_slots base ∷ bare_slots elec ∷ bare_slots sym' ∷ []
        at-end =
            rw (
              opens-needed (Always none0) none0 {t = range_table} here range range-good.good range-good.all refl (λ v. refl),
              opens-end (Always none0) {t = range_table} (there (there here)) range range-good.good,
              opens-end (Always none0) {t = range_table} (there (there (there (there (there here))))) range range-good.good,
              is_one_lem 3 (get_or range 2 None),
              is_one_lem 4 (get_or range 5 None),
              inner-whole (is_one (get_or range 2 None)) (Always none0) none0 elec_table elec elec-good,
              inner-whole (is_one (get_or range 5 None)) (Always none0) none0 sym_table sym' sym-good,
            )

  -- FILE_FORMAT's own rows: what stands behind `range`
  abbrev own_parts : Bool → Held
  own_parts true = bare_slots range ∷ bare_slots base ∷ bare_slots elec ∷ bare_slots sym' ∷ []
  own_parts false = blank range_table ∷ blank base_table ∷ blank elec_table ∷ blank sym_table ∷ []

  abbrev own_held : Slots → Held
  own_held u = u ∷ own_parts (opens_at file_table u 0)

  abbrev in_file : ℕ → Text → Text
  in_file = show_inner k (file_tables true) held in_range

  abbrev outside : Slots → State
  outside u = file S 0 (own_held u) 0

  takes-own : Takes next k in_file (Always none0) outside file_table own
  unfolding file_table
  takes-own i r v here e h u f =
      let x = set u 0 (Some (bare_value v)) in
      opened next k in_file r v (outside u) (file S 0 (set (own_held u) 0 x) 1) (outside x) refl
      (opens-file next k S file_table 0 own_held (table_at 0 file_table refl) (sound-differ file_table file-sound.0) (sound-plain file_table file-sound.0) (λ u. refl) 0 r v here h u f refl)
      (rw (unfilled file_table u 0 f, filled {t = file_table} here u f v refl) (read-range x))
  takes-own i r v (there w) e h u f =
      let o = calm-row w refl v in
      entered next k in_file r v (outside u) (outside (set u i (Some (bare_value v)))) o
      (enters-file next k S file_table 0 own_held (table_at 0 file_table refl) (sound-differ file_table file-sound.0) (sound-plain file_table file-sound.0) (λ u. refl) (λ u x e. rw (e 0))
      i r v (there w) h u f o)

  own-end : own_held (bare_slots own) ≡ bare_held held
  unfolding file_table
  own-end = rw (opens-needed (Always none0) none0 {t = file_table} here own own-good.good own-good.all refl (λ v. refl))

  own_shut : chained true next held ≡ true → step_in plain_env (line_for next false (bytes "}")) (file S 0 (bare_held held) 0) ≡ got (top (with_now (record { line = 0; file = bare_held held; blocks = [] }) S) 1)
  own_shut c =
      shuts-file next S file_table (bare_held held) (table_at 0 file_table refl) (rw (marks-bare own) own-good.all) (rw first (rw (chained-bare true next held) c)) (rw first)
      ∙ ap (λ b. got (top (with_now (record { line = 0; file = bare_held held; blocks = [] }) S) (cond b 1 3))) first

  read-own : chained true next held ≡ true
      → Reads next (file S 0 (blank_held (file_tables true)) 0) (λ ls. show_held k (file_tables true) held (bytes "}" ∷ ls)) (top (with_now (record { line = 0; file = bare_held held; blocks = [] }) S) 1)
  unfolding file_table
  read-own c =
      read-slots next k in_file (Always none0) outside file_table own own-good.good takes-own
      and rw own-end (one_line next (bytes "}") (file S 0 (bare_held held) 0) (top (with_now (record { line = 0; file = bare_held held; blocks = [] }) S) 1) (own_shut c))

pub read-file : (next : List ℕ) (k : Known) (S : Set) → is_first S ≡ true → (h : Held) → GoodFile h → chained true next h ≡ true
    → Reads next (file S 0 (blank_held (file_tables true)) 0) (λ ls. show_held k (file_tables true) h (bytes "}" ∷ ls)) (top (with_now (record { line = 0; file = bare_held h; blocks = [] }) S) 1)
read-file next k S first h g c =
    subst (λ (h : Held). chained true next h ≡ true → Reads next (file S 0 (blank_held (file_tables true)) 0) (λ ls. show_held k (file_tables true) h (bytes "}" ∷ ls)) (top (with_now (record { line = 0; file = bare_held h; blocks = [] }) S) 1))
    (sym g.is)
    (read-own next k S first g.own g.range g.base g.elec g.sym g.own-good g.range-good g.base-good g.elec-good g.sym-good)
    c

-- FILE_FORMAT of a later volume
pub read-later : (next : List ℕ) (k : Known) (S : Set) → is_first S ≡ false → (h : Held) → GoodLater h → chained false next h ≡ true → dated S false (bare_held h) ≡ true
    → Reads next (file S 0 (blank_held (file_tables false)) 0) (λ ls. show_held k (file_tables false) h (bytes "}" ∷ ls)) (top (with_now (record { line = 0; file = bare_held h; blocks = [] }) S) 3)
read-later next k S later h g c da =
    subst (λ (h : Held). chained false next h ≡ true → dated S false (bare_held h) ≡ true → Reads next (file S 0 (blank_held (file_tables false)) 0) (λ ls. show_held k (file_tables false) h (bytes "}" ∷ ls)) (top (with_now (record { line = 0; file = bare_held h; blocks = [] }) S) 3))
    (sym g.is) (go g.own g.own-good) c da
  where
    table : get_or (file_tables (is_first S)) 0 [] ≡ later_table
    table = rw later

    go : (o : Slots) → Closed (Always none0) none0 later_table o → chained false next (o ∷ []) ≡ true → dated S false (bare_held (o ∷ [])) ≡ true
        → Reads next (file S 0 (blank_held (file_tables false)) 0) (λ ls. show_held k (file_tables false) (o ∷ []) (bytes "}" ∷ ls)) (top (with_now (record { line = 0; file = bare_held (o ∷ []); blocks = [] }) S) 3)
    go o g c da =
        read-calm next k (show_inner k (file_tables false) (o ∷ []) (show_inner k (file_tables false) (o ∷ []) no_inner)) (Always none0) (λ u. file S 0 (u ∷ []) 0) later_table o file-calm.3
        (enters-file next k S later_table 0 (λ u. u ∷ []) table (sound-differ later_table file-sound.5) (sound-plain later_table file-sound.5) (λ u. refl) (λ u x e. refl)) g.good
        and one_line next (bytes "}") (file S 0 (bare_slots o ∷ []) 0) (top (with_now (record { line = 0; file = bare_held (o ∷ []); blocks = [] }) S) 3)
        (shuts-file next S later_table (bare_held (o ∷ [])) table (rw (marks-bare o) g.all) (rw later (rw (chained-bare false next (o ∷ [])) c)) (rw later da)
        ∙ ap (λ b. got (top (with_now (record { line = 0; file = bare_held (o ∷ []); blocks = [] }) S) (cond b 1 3))) later)
