-- The records of an accepted set show the own serial numbers of its figures, and no two the same.
use Rattle.std.specs.Prelude.{Option, Some, None}
use Prim.Native.Nat.{ℕ}
use mathlib.Core.Bool.{Bool, false}
use mathlib.Core.List.{List, [], ◌∷◌, ◌++◌, map}
use mathlib.Core.Path.{◌≡◌, refl, sym, ◌∙◌, ap, subst}
use lib.Dec.{eqb}
use lib.IntN.{ℤ}
use lib.ListN.{length, get_or}
use borrow.Author.Tests.{eq-eqb}
use Rattle.rules.specs.declared.Class.{Class}
use Rattle.rules.specs.Base.{flat, has_number}
use Rattle.rules.specs.RangeClass.{knows_serials, class_of}
use Rattle.rules.specs.Values.{Value, empty, nums, chars, linked, serials_of}
use Rattle.rules.specs.Rows.{part_of, slot_value}
use Rattle.rules.specs.Figures.{placed_table}
use Rattle.rules.specs.Sets.{Figure, plain, chain, lettering, placed, wired, passed, Set, own_serial, own_number, figure_serial, wire_range}
use Rattle.rules.specs.LineByLine.{Outcome, refused, accepted}
use Rattle.rules.specs.Answers.{class_or, read_outcome, records_in, read_records}
use Rattle.rules.proofs.Chains.{clash, map-agree}
use Rattle.promises.specs.TableTexts.{first_records}
use Rattle.promises.specs.OwnNumbers as O
use Rattle.promises.specs.OwnNumbers.{own_numbers, figures_in, serial_row, first_of, OwnNumbersShown, NoneTwice, OwnNumbersDiffer, CallNumbersDiffer}
use Rattle.promises.proofs.Calls.{table-records}
use Rattle.promises.proofs.Distinct.{Differ, or_false, lacks-append, differ-behind}
use Rattle.promises.proofs.FigureState.{closed_serials, IsSerial, KnownSlot, SoundFigure}
use Rattle.promises.proofs.OnWires.{IsNums}
use Rattle.promises.proofs.ReadSound.{ReadSound, read-sound}
use Rattle.promises.proofs.SerialsShown.{own-quiet, symbol_first, wire_first, own-shown}
use Rattle.promises.proofs.ShownNumbers.{of_figure, set-shown}
use Rattle.promises.proofs.VolumeLists.{volumes_list}

-- ── the own number of a figure: as it was compared, and the first of its row ──
symbol-first : (known : Bool) (o : Option Value) → KnownSlot known IsSerial o → own_serial (serials_of (slot_value o)) ≡ first_of o
symbol-first known None g = refl
symbol-first known (Some empty) g = refl
symbol-first known (Some (nums v)) g = absurd g.1
symbol-first known (Some (chars at c)) g = absurd g.1
symbol-first known (Some (linked n ps)) g = refl

wire-first : (known : Bool) (o : Option Value) → KnownSlot known IsNums o → own_number o ≡ first_of o
wire-first known None g = refl
wire-first known (Some empty) g = absurd g.1
wire-first known (Some (nums v)) g = refl
wire-first known (Some (chars at c)) g = absurd g.1
wire-first known (Some (linked n ps)) g = absurd g.1

figure-first : (c : Class) (wires : ℕ) (f : Figure) → SoundFigure c wires f → figure_serial f ≡ first_of (serial_row f)
unfolding placed_table
figure-first c wires (plain n j v) i = refl
figure-first c wires (chain n ps) i = refl
figure-first c wires (lettering n s) i = refl
figure-first c wires (placed n h) i = symbol-first (knows_serials c.symbols) (get_or (part_of h 0) 5 None) i
figure-first c wires (wired n w) i = wire-first (knows_serials c.wires) (get_or w.own 9 None) i.serial
figure-first c wires (passed n) i = refl

-- what the walk over the records takes of a figure
of-first : (f : Figure) → of_figure O.own_number own-quiet symbol_first wire_first f ≡ first_of (serial_row f)
of-first (plain n j v) = refl
of-first (chain n ps) = refl
of-first (lettering n s) = refl
of-first (placed n h) = refl
of-first (wired n w) = refl
of-first (passed n) = refl

-- ── an accepted set ──
module _ (class wire len : ℕ) (spool : List ℕ) (s : Set) (r : ReadSound class wire len spool s) where
  records-shown : own_numbers (read_records class wire len spool) ≡ flat (map (λ f. first_of (serial_row f)) (figures_in s))
  records-shown =
      ap own_numbers r.records ∙ (set-shown O.own_number own-quiet symbol_first wire_first r.at s (own-shown r.at s) r.fits r.sound.figures).are
      ∙ ap flat (map-agree (of_figure O.own_number own-quiet symbol_first wire_first) (λ f. first_of (serial_row f)) of-first (figures_in s))

  -- they are those that were compared
  pub shown_compared : own_numbers (read_records class wire len spool) ≡ closed_serials s
  shown_compared =
      records-shown
      ∙ sym (volumes_list r.at (wire_range s) figure_serial (λ f. first_of (serial_row f)) (figure-first r.at (wire_range s)) s.volumes r.sound.figures)

pub own-numbers-shown : OwnNumbersShown
own-numbers-shown class wire len spool s e = records-shown class wire len spool s (read-sound class wire len spool s e)

none-refused : (class wire len : ℕ) (spool : List ℕ) (n v l : ℕ) → read_outcome class wire len spool ≡ refused n v l → read_records class wire len spool ≡ []
unfolding read_records
none-refused class wire len spool n v l e = ap (records_in (class_or (class_of class wire))) e

records-differ : (class wire len : ℕ) (spool : List ℕ) → Differ (own_numbers (read_records class wire len spool))
records-differ class wire len spool = by (read_outcome class wire len spool) refl
  where
    by : (o : Outcome) → read_outcome class wire len spool ≡ o → Differ (own_numbers (read_records class wire len spool))
    by (refused n v l) e = subst (λ (rs : List (List ℤ)). Differ (own_numbers rs)) (sym (none-refused class wire len spool n v l e)) tt
    by (accepted s) e = let r = read-sound class wire len spool s e in subst Differ (sym (shown_compared class wire len spool s r)) r.sound.differ

-- ── two records, one behind the other ──
later-clash : (between : List (List ℤ)) (later : List ℤ) (after : List (List ℤ)) (n : ℕ) → has_number n (own_numbers (between ++ later ∷ after)) ≡ false → O.own_number later ≡ n ∷ [] → ⊥
later-clash [] later after n e b =
    let f = subst (λ (s : List ℕ). has_number n (s ++ own_numbers after) ≡ false) b e in clash (eq-eqb n n refl) (or_false (eqb n n) (has_number n (own_numbers after)) f).0
later-clash (r ∷ between) later after n e b = later-clash between later after n (lacks-append n (O.own_number r) (own_numbers (between ++ later ∷ after)) e).1 b

two-differ : (before between after : List (List ℤ)) (former later : List ℤ) → Differ (own_numbers (before ++ former ∷ (between ++ later ∷ after)))
    → (n : ℕ) → O.own_number former ≡ n ∷ [] → O.own_number later ≡ n ∷ [] → ⊥
two-differ [] between after former later g n a b =
    later-clash between later after n (subst (λ (s : List ℕ). Differ (s ++ own_numbers (between ++ later ∷ after))) a g).0 b
two-differ (r ∷ before) between after former later g n a b =
    two-differ before between after former later (differ-behind (O.own_number r) (own_numbers (before ++ former ∷ (between ++ later ∷ after))) g) n a b

none-twice : (rs : List (List ℤ)) → Differ (own_numbers rs) → NoneTwice rs
none-twice rs g before between after former later e n a b =
    two-differ before between after former later (subst (λ (rs : List (List ℤ)). Differ (own_numbers rs)) e g) n a b

pub own-numbers-differ : OwnNumbersDiffer
own-numbers-differ class wire len spool = none-twice (read_records class wire len spool) (records-differ class wire len spool)

pub call-numbers-differ : CallNumbersDiffer
call-numbers-differ c n e =
    let len = length c.before in
    let stands = ap (first_records n) c.fills ∙ table-records c.class c.wire len c.spool n (sym c.answers ∙ e) in
    subst NoneTwice (sym stands) (own-numbers-differ c.class c.wire len c.spool)
