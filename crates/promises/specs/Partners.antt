-- What the electrician follows a connection by (document 02, wish 1: "partners must exist by the end of the set"): in an accepted set every
-- partner of every symbol and of every wire is the own number of one that a record shows, where partners are tested: "where file and class
-- both know serials of symbols and of wires". A wire's partners stand in its second record, so of them this is said of the records alone. A
-- symbol's stand in no record (it shows how many there are): of them it is said of what was read.
--
-- When partners are tested is said here again, in numbers: a definition that never tested them, or tested them against fewer own numbers than
-- records show, would not keep this. A reader that forgot a partner would: against that stand `WirePartnersShown`, the reading back of the
-- fixed form (demand 2), and `Witnesses`.
use Rattle.std.specs.Prelude.{ℕ, suc, ◌/◌, ◌%◌, Bool, true, cond, ◌&&◌, List, [], ◌∷◌, ◌++◌, map, ◌≡◌, eqb, leb, ℤ, length, Option, Some, None, Ok}
use Rattle.rules.specs.Base.{flat, has_number}
use Rattle.rules.specs.Values.{Num, Value, empty, nums, chars, linked, amount_at}
use Rattle.rules.specs.Rows.{part_of, number_of}
use Rattle.rules.specs.Blocks.{elec_table}
use Rattle.rules.specs.Sets.{Figure, plain, chain, lettering, placed, wired, passed, Set, first_contents}
use Rattle.rules.specs.LineByLine.{accepted}
use Rattle.rules.specs.Answers.{read_outcome, read_records}
use Rattle.promises.specs.OwnNumbers.{wire_owner, shows, own_numbers, figures_in, serial_row}
use Rattle.promises.specs.ReaderCalls.{Call}
use Rattle.promises.specs.TableTexts.{first_records, number_at, amount_of}

-- ── where they are tested ──
-- serials are known from middle digit 1 on: of a class's two parts, of the file's E_sym and E_wire
abbrev pub has_serials : ℕ → Bool
has_serials n = leb 1 (n / 10 % 10)

abbrev pub range_in : Set → ℕ × ℕ
range_in s = let elec = part_of (first_contents s).file 3 in (number_of "E_sym" elec_table elec, number_of "E_wire" elec_table elec)

abbrev pub tested : ℕ → ℕ → Set → Bool
tested class wire s = (has_serials class && has_serials wire) && (has_serials (range_in s).0 && has_serials (range_in s).1)

-- ── the partners of a figure: behind its own number ──
-- of a wire's end, its state and its number: "1 empty, 2 given"
abbrev pub given_at : List Num → ℕ → List ℕ
given_at v i = cond (eqb (amount_at (nums v) i) 2) (amount_at (nums v) (suc i) ∷ []) []

abbrev pub partners_of : Option Value → List ℕ
partners_of None = []
partners_of (Some empty) = []
partners_of (Some (nums v)) = given_at v 1 ++ given_at v 3
partners_of (Some (chars at c)) = []
partners_of (Some (linked n ps)) = ps

-- ── those that records show: a wire's start and end, at 22 and 23, 24 and 25 of its second record ──
abbrev pub end_at : List ℤ → ℕ → List ℕ
end_at r i = cond (eqb (amount_of (number_at r i)) 2) (amount_of (number_at r (suc i)) ∷ []) []

abbrev pub ends_of : List ℤ → List ℕ
ends_of r = cond (shows wire_owner r) (end_at r 22 ++ end_at r 24) []

-- a symbol's are not among them
abbrev pub wire_partners : Figure → List ℕ
wire_partners (plain n j v) = []
wire_partners (chain n ps) = []
wire_partners (lettering n s) = []
wire_partners (placed n h) = []
wire_partners (wired n w) = partners_of (serial_row (wired n w))
wire_partners (passed n) = []

abbrev pub WirePartnersShown : Type 0
WirePartnersShown = (class wire len : ℕ) (spool : List ℕ) (s : Set) → read_outcome class wire len spool ≡ accepted s
    → flat (map ends_of (read_records class wire len spool)) ≡ flat (map wire_partners (figures_in s))

-- ── each is the own number of one ──
pub record Found (s : Set) (records : List (List ℤ)) : Type 0 where
  pub figures : (n : ℕ) → has_number n (flat (map (λ f. partners_of (serial_row f)) (figures_in s))) ≡ true → has_number n (own_numbers records) ≡ true
  pub wires : (n : ℕ) → has_number n (flat (map ends_of records)) ≡ true → has_number n (own_numbers records) ≡ true

abbrev pub PartnersFound : Type 0
PartnersFound = (class wire len : ℕ) (spool : List ℕ) (s : Set) → read_outcome class wire len spool ≡ accepted s
    → tested class wire s ≡ true → Found s (read_records class wire len spool)

-- of a call of the reader, of which nothing is known but what its contract says: a set was read, and of it and of the records that stand in
-- the table this holds
pub record CallFound (c : Call) (n : ℕ) : Type 0 where
  pub set : Set
  pub reads : read_outcome c.class c.wire (length c.before) c.spool ≡ accepted set
  pub found : tested c.class c.wire set ≡ true → Found set (first_records n c.after)

abbrev pub CallPartnersFound : Type 0
CallPartnersFound = (c : Call) (n : ℕ) → c.answer ≡ Ok n → CallFound c n
