-- Every partner of a symbol or wire of an accepted set is an own number that a record shows.
use Rattle.std.specs.Prelude.{Option, Some, None}
use Prim.Native.Nat.{ℕ, ◌%◌}
use mathlib.Core.Bool.{Bool, true, false, ◌&&◌, ◌||◌}
use mathlib.Core.List.{List, [], ◌∷◌, ◌++◌, map}
use mathlib.Core.Path.{◌≡◌, refl, sym, ◌∙◌, ap, subst}
use native.Mathlib.Omega.{arith}
use lib.Dec.{eqb}
use lib.ListN.{length, get_or, drop}
use borrow.Author.Tests.{eqb-true, le-leb}
use Rattle.rules.specs.declared.Class.{Class}
use Rattle.rules.specs.Base.{flat, all, has_number}
use Rattle.rules.specs.RangeClass.{digits_of, knows_serials, is_symbol_part, is_wire_part, class_of}
use Rattle.rules.specs.Values.{Value, empty, nums, chars, linked, serials_of}
use Rattle.rules.specs.Rows.{part_of, slot_value}
use Rattle.rules.specs.Figures.{placed_table}
use Rattle.rules.specs.Sets.{Figure, plain, chain, lettering, placed, wired, passed, Set, wire_range, figure_partners, partners_of_volume}
use Rattle.rules.specs.Sets as S
use Rattle.rules.specs.Machine.{tests_partners}
use Rattle.rules.specs.Answers.{read_records}
use Rattle.rules.proofs.Chains.{and_left, and_right, and_true, clash, cond-some, map-agree}
use Rattle.promises.specs.OwnNumbers.{own_numbers, figures_in, serial_row}
use Rattle.promises.specs.Partners.{has_serials, range_in, tested, partners_of, ends_of, wire_partners, WirePartnersShown, Found, PartnersFound, CallPartnersFound}
use Rattle.promises.specs.TableTexts.{first_records}
use Rattle.promises.proofs.Calls.{accepted-set, table-records}
use Rattle.promises.proofs.FigureState.{closed_serials, IsSerial, KnownSlot, SoundFigure}
use Rattle.promises.proofs.OnWires.{IsNums}
use Rattle.promises.proofs.OwnNumbers.{shown_compared}
use Rattle.promises.proofs.ReadSound.{ReadSound, read-sound}
use Rattle.promises.proofs.SerialsShown.{ends-quiet, no_ends, wire_ends, ends-shown}
use Rattle.promises.proofs.ShownNumbers.{of_figure, set-shown}
use Rattle.promises.proofs.VolumeLists.{volumes_list}

-- ── the partners of a figure: as they were tested, and those of its row ──
symbol-partners : (known : Bool) (o : Option Value) → KnownSlot known IsSerial o → drop 1 (serials_of (slot_value o)) ≡ partners_of o
symbol-partners known None g = refl
symbol-partners known (Some empty) g = refl
symbol-partners known (Some (nums v)) g = absurd g.1
symbol-partners known (Some (chars at c)) g = absurd g.1
symbol-partners known (Some (linked n ps)) g = refl

wire-partners : (known : Bool) (o : Option Value) → KnownSlot known IsNums o → S.wire_partners (slot_value o) ≡ partners_of o
wire-partners known None g = refl
wire-partners known (Some empty) g = absurd g.1
wire-partners known (Some (nums v)) g = refl
wire-partners known (Some (chars at c)) g = absurd g.1
wire-partners known (Some (linked n ps)) g = absurd g.1

figure-partners : (c : Class) (wires : ℕ) (f : Figure) → SoundFigure c wires f → figure_partners f ≡ partners_of (serial_row f)
unfolding placed_table
figure-partners c wires (plain n j v) i = refl
figure-partners c wires (chain n ps) i = refl
figure-partners c wires (lettering n s) i = refl
figure-partners c wires (placed n h) i = symbol-partners (knows_serials c.symbols) (get_or (part_of h 0) 5 None) i
figure-partners c wires (wired n w) i = wire-partners (knows_serials c.wires) (get_or w.own 9 None) i.serial
figure-partners c wires (passed n) i = refl

of-ends : (f : Figure) → of_figure ends_of ends-quiet no_ends wire_ends f ≡ wire_partners f
of-ends (plain n j v) = refl
of-ends (chain n ps) = refl
of-ends (lettering n s) = refl
of-ends (placed n h) = refl
of-ends (wired n w) = refl
of-ends (passed n) = refl

-- ── lists ──
all_has : (p : ℕ → Bool) (ns : List ℕ) (n : ℕ) → all p ns ≡ true → has_number n ns ≡ true → p n ≡ true
all_has p [] n e h = clash h refl
all_has p (m ∷ ns) n e h = go (eqb n m) refl (all_has p ns n (and_right (p m) (all p ns) e)) h
  where
    go : (b : Bool) → eqb n m ≡ b → (has_number n ns ≡ true → p n ≡ true) → (b || has_number n ns) ≡ true → p n ≡ true
    go true q ih h = ap p (eqb-true n m q) ∙ and_left (p m) (all p ns) e
    go false q ih h = ih h

or-either : (b c : Bool) → c ≡ true → (b || c) ≡ true
or-either true c e = refl
or-either false c e = e

has-behind : (n : ℕ) (a b : List ℕ) → has_number n b ≡ true → has_number n (a ++ b) ≡ true
has-behind n [] b h = h
has-behind n (m ∷ a) b h = or-either (eqb n m) (has_number n (a ++ b)) (has-behind n a b h)

-- in one of two lists
has_split : {P : Type 0} (n : ℕ) (a b : List ℕ) → has_number n (a ++ b) ≡ true → (has_number n a ≡ true → P) → (has_number n b ≡ true → P) → P
has_split n [] b h p q = q h
has_split {P} n (m ∷ a) b h p q = go (eqb n m) refl (λ h. has_split n a b h (λ z. p (or-either (eqb n m) (has_number n a) z)) q) h
  where
    go : (t : Bool) → eqb n m ≡ t → (has_number n (a ++ b) ≡ true → P) → (t || has_number n (a ++ b)) ≡ true → P
    go true e ih h = p (rw e)
    go false e ih h = ih h

has-front : (n : ℕ) (a b : List ℕ) → has_number n a ≡ true → has_number n (a ++ b) ≡ true
has-front n [] b h = clash h refl
has-front n (m ∷ a) b h = go (eqb n m) (has-front n a b) h
  where
    go : (t : Bool) → (has_number n a ≡ true → has_number n (a ++ b) ≡ true) → (t || has_number n a) ≡ true → (t || has_number n (a ++ b)) ≡ true
    go true ih h = refl
    go false ih h = ih h

-- a wire's partners are among those of the figures
wires-among : (n : ℕ) (fs : List Figure) → has_number n (flat (map wire_partners fs)) ≡ true → has_number n (flat (map (λ f. partners_of (serial_row f)) fs)) ≡ true
wires-among n [] h = h
wires-among n (f ∷ fs) h =
    has_split n (wire_partners f) (flat (map wire_partners fs)) h (λ z. has-front n (partners_of (serial_row f)) _ (one f z)) (λ z. has-behind n (partners_of (serial_row f)) _ (wires-among n fs z))
  where
    one : (f : Figure) → has_number n (wire_partners f) ≡ true → has_number n (partners_of (serial_row f)) ≡ true
    one (plain k j v) h = clash h refl
    one (chain k ps) h = clash h refl
    one (lettering k s) h = clash h refl
    one (placed k o) h = clash h refl
    one (wired k w) h = h
    one (passed k) h = clash h refl

-- ── where they are tested ──
has-known : (n : ℕ) → has_serials n ≡ true → knows_serials (digits_of n) ≡ true
has-known n e = and_true _ _ e (le-leb 0 (n % 10) (omega arith))

class-digits : (class wire : ℕ) (c : Class) → class_of class wire ≡ Some c → (c.symbols ≡ digits_of class) × (c.wires ≡ digits_of wire)
unfolding class_of
class-digits class wire c e =
    let (t, is) = cond-some (is_symbol_part class && is_wire_part wire) _ c e in
    (ap (λ (d : Class). d.symbols) (sym is), ap (λ (d : Class). d.wires) (sym is))

tests : (class wire : ℕ) (c : Class) (s : Set) → class_of class wire ≡ Some c → tested class wire s ≡ true → tests_partners c s ≡ true
tests class wire c s p t =
    let classes = and_left (has_serials class && has_serials wire) _ t in
    let ranges = and_right (has_serials class && has_serials wire) (has_serials (range_in s).0 && has_serials (range_in s).1) t in
    let d = class-digits class wire c p in
    and_true _ _
    (and_true _ _ (has-known (range_in s).0 (and_left (has_serials (range_in s).0) _ ranges)) (has-known (range_in s).1 (and_right (has_serials (range_in s).0) (has_serials (range_in s).1) ranges)))
    (and_true _ _ (ap knows_serials d.0 ∙ has-known class (and_left (has_serials class) _ classes)) (ap knows_serials d.1 ∙ has-known wire (and_right (has_serials class) (has_serials wire) classes)))

-- ── an accepted set ──
module _ (class wire len : ℕ) (spool : List ℕ) (s : Set) (r : ReadSound class wire len spool s) where
  ends-are : flat (map ends_of (read_records class wire len spool)) ≡ flat (map wire_partners (figures_in s))
  ends-are =
      ap (λ rs. flat (map ends_of rs)) r.records ∙ (set-shown ends_of ends-quiet no_ends wire_ends r.at s (ends-shown r.at s) r.fits r.sound.figures).are
      ∙ ap flat (map-agree (of_figure ends_of ends-quiet no_ends wire_ends) wire_partners of-ends (figures_in s))

  found-figures : tested class wire s ≡ true → (n : ℕ) → has_number n (flat (map (λ f. partners_of (serial_row f)) (figures_in s))) ≡ true
      → has_number n (own_numbers (read_records class wire len spool)) ≡ true
  found-figures t n h =
      let exist = r.sound.partners (tests class wire r.at s r.listed t) in
      let same = volumes_list r.at (wire_range s) figure_partners (λ f. partners_of (serial_row f)) (figure-partners r.at (wire_range s)) s.volumes r.sound.figures in
      let asked = subst (λ ns. has_number n ns ≡ true) (sym same) h in
      subst (λ ns. has_number n ns ≡ true) (sym (shown_compared class wire len spool s r))
      (all_has (λ m. has_number m (closed_serials s)) (flat (map partners_of_volume s.volumes)) n exist asked)

  found : tested class wire s ≡ true → Found s (read_records class wire len spool)
  found t = record { figures = found-figures t; wires = λ n h. found-figures t n (wires-among n (figures_in s) (subst (λ ns. has_number n ns ≡ true) ends-are h)) }

pub wire-partners-shown : WirePartnersShown
wire-partners-shown class wire len spool s e = ends-are class wire len spool s (read-sound class wire len spool s e)

pub partners-found : PartnersFound
partners-found class wire len spool s e = found class wire len spool s (read-sound class wire len spool s e)

pub call-partners-found : CallPartnersFound
call-partners-found c n e =
    let len = length c.before in
    let is = sym c.answers ∙ e in
    let (s, read) = accepted-set c.class c.wire len c.spool n is in
    let stands = ap (first_records n) c.fills ∙ table-records c.class c.wire len c.spool n is in
    record { set = s; reads = read; found = λ t. subst (Found s) (sym stands) (partners-found c.class c.wire len c.spool s read t) }
