-- A line with a key that was taken: its row, what it read as, and what it did.
use Prim.Native.Nat.{ℕ}
use mathlib.Core.Bool.{Bool, true, false}
use mathlib.Core.List.{List}
use mathlib.Core.Path.{◌≡◌, refl, sym, ◌∙◌, ap, subst}
use native.Mathlib.Nat.{le_refl}
use lib.ListN.{get_or}
use Rattle.rules.specs.declared.Digits.{Digits}
use Rattle.rules.specs.RefusalNumbers.{Got, got, bad, unless}
use Rattle.rules.specs.Lines.{Rest, brace, equals, keyed, Shape, opener, no_content, content, opening, formless, shape_of, has_form}
use Rattle.rules.specs.Values.{Value, Known, read_kind}
use Rattle.rules.specs.Rows.{Rule, Found, absent, found, find, shape_for, Act, stay, entry, begin, shut, refuse, or_refuse, inner_of, read_shape, act_row, act_found, act}
use Rattle.rules.specs.FixedForm.{opens_block}
use Rattle.rules.specs.Machine.{State, by_act}
use Rattle.rules.proofs.Chains.{On, on-map, on-all, on-got, never, same-eq, clash}
use Rattle.rules.proofs.Rows.{Row, found-row, row-all, row-did}
use Rattle.promises.proofs.Forms.{Told, key_ok, keys_ok}
use Rattle.promises.proofs.RowGood.{entry-good, begin-good}
use Rattle.promises.proofs.Nameless.{nameless, read-nameless}
use Rattle.prints.specs.Reading.{Reads}
use Rattle.pens.specs.Drawing.{FormFits}

-- its form tells how long it is
told : (k : List ℕ) (x : Rest) → FormFits (keyed k x) → Told 512 (keyed k x)
told k brace h = (h, le_refl 512)
told k (equals p c) h = (h, le_refl 512)

-- a shape is entered or begun
abbrev is_taken : Act → Bool
is_taken stay = false
is_taken (entry j v) = true
is_taken (begin i j v) = true
is_taken shut = false
is_taken (refuse n) = false

shape-taken : (k : Known) (j : ℕ) (r : Rule) (s : Shape) → On (λ a. is_taken a ≡ true) (read_shape k j r s)
shape-taken k j r opener = refl
shape-taken k j r no_content = refl
shape-taken k j r (content at c) = on-map (λ a. is_taken a ≡ true) (entry j) (read_kind k r.holds at c) (on-all _ (λ v. refl) (read_kind k r.holds at c))
shape-taken k j r (opening at c) = on-map (λ a. is_taken a ≡ true) (begin (inner_of r.holds) j) (read_kind k r.holds at c) (on-all _ (λ v. refl) (read_kind k r.holds at c))
shape-taken k j r formless = tt

-- what names neither symbols nor layers reads alike, whatever is known
shape_any : (k k' : Known) (j : ℕ) (r : Rule) (s : Shape) → nameless r.holds ≡ true → read_shape k j r s ≡ read_shape k' j r s
shape_any k k' j r opener e = refl
shape_any k k' j r no_content e = refl
shape_any k k' j r (content at c) e = rw (read-nameless r.holds e k k' at c)
shape_any k k' j r (opening at c) e = rw (read-nameless r.holds e k k' at c)
shape_any k k' j r formless e = refl

pub reads_any : (k k' : Known) (r : Rule) (x : Rest) (v : Value) → nameless r.holds ≡ true → Reads k r x v → Reads k' r x v
reads_any k k' r x v e z = record {
  number = z.number;
  act = z.act;
  read = shape_any k' k z.number r (shape_for r x) e ∙ z.read;
  value = z.value;
  fit = z.fit;
}

module _ {P : Type 0} (here : State) (en : ℕ → Value → Got State) (op : ℕ → ℕ → Value → Got State) (cl : Got State) (k : Known) (d : Digits) (st' : State) where
  -- under a row that was found
  pub row-acted : (full : Bool) (j : ℕ) (r : Rule) (x : Rest) → key_ok r.key ≡ true → FormFits (keyed r.key x) → by_act here en op (λ _. cl) (act_row k d full j r x) ≡ got st'
      → ((v : Value) → Reads k r x v → opens_block r.holds v ≡ false → full ≡ false → en j v ≡ got st' → P)
      → ((v : Value) → Reads k r x v → opens_block r.holds v ≡ true → full ≡ false → op (inner_of r.holds) j v ≡ got st' → P)
      → P
  row-acted full j r x key fits e ent beg = go (act_row k d full j r x) refl e
    where
      go : (a : Act) → act_row k d full j r x ≡ a → by_act here en op (λ _. cl) a ≡ got st' → P
      go stay q e = clash (on-got (λ a. is_taken a ≡ true) (read_shape k j r (shape_for r x)) stay (shape-taken k j r (shape_for r x)) (row-did k d full j r x stay refl q).read) refl
      go (entry j' v) q e =
          let t = told r.key x fits in
          let (p, o, f, w) = entry-good k d full j r x 512 j' v key t.0 t.1 q in
          let did = row-did k d full j r x (entry j' v) refl q in
          ent v (record { number = j; act = entry j' v; read = did.read; value = refl; fit = did.fit }) o f (ap (λ (m : ℕ). en m v) p ∙ e)
      go (begin i j' v) q e =
          let t = told r.key x fits in
          let (a, p, o, f, w) = begin-good k d full j r x 512 i j' v key t.0 t.1 q in
          let did = row-did k d full j r x (begin i j' v) refl q in
          beg v (record { number = j; act = begin i j' v; read = did.read; value = refl; fit = did.fit }) o f
          (ap (λ (m : ℕ). op m j v) (sym a) ∙ ap (λ (m : ℕ). op i m v) p ∙ e)
      go shut q e = clash (on-got (λ a. is_taken a ≡ true) (read_shape k j r (shape_for r x)) shut (shape-taken k j r (shape_for r x)) (row-did k d full j r x shut refl q).read) refl
      go (refuse m) q e = never e

  -- in a block of the table t
  pub acted : (t : List Rule) (full : List Bool) (key : List ℕ) (x : Rest) → keys_ok t ≡ true → FormFits (keyed key x) → by_act here en op (λ _. cl) (act k t d full (keyed key x)) ≡ got st'
      → ((j : ℕ) (r : Rule) (v : Value) → find key t ≡ found j r → Row t j r → Reads k r x v → opens_block r.holds v ≡ false → get_or full j false ≡ false → en j v ≡ got st' → P)
      → ((j : ℕ) (r : Rule) (v : Value) → find key t ≡ found j r → Row t j r → Reads k r x v → opens_block r.holds v ≡ true → get_or full j false ≡ false → op (inner_of r.holds) j v ≡ got st' → P)
      → P
  acted t full key x keys fits e ent beg = go (find key t) refl e
    where
      unknown : (b : Bool) → by_act here en op (λ _. cl) (or_refuse (unless b 5 (bad 6))) ≡ got st' → P
      unknown true e = never e
      unknown false e = never e

      go : (g : Found) → find key t ≡ g → by_act here en op (λ _. cl) (act_found k d full x g) ≡ got st' → P
      go absent q e = unknown (has_form (shape_of x)) e
      go (found j r) q e =
          let (w, s) = found-row key t j r q in
          row-acted (get_or full j false) j r x (row-all (λ r. key_ok r.key) w keys) (subst (λ (u : List ℕ). FormFits (keyed u x)) (same-eq key r.key s) fits) e
          (λ v. ent j r v q w) (λ v. beg j r v q w)
