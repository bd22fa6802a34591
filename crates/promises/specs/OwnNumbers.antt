-- What the electrician finds a device by (document 01, 15: "Own numbers differ as numbers over the set"; document 02, wish 1: "A wire's serial
-- must differ from every symbol's and wire's"): no two records of an accepted set show the same own serial number, at every class and with
-- every table. Said of the records and not of what is kept of the set, so that a record that showed another number than the one that was
-- compared would not keep this. The numbers of kinds, rows and places stand here again.
--
-- Alone it would hold too where no record showed an own number, and where records showed numbers that were not read. `OwnNumbersShown` shuts
-- both out: what the records show are the first numbers of the rows `serial` that were read, one after the other, none left out. That these
-- are the numbers that were written, is said by the reading back of the fixed form (demand 2), and of two sets by `Witnesses`.
use Rattle.std.specs.Prelude.{ℕ, Bool, cond, ◌&&◌, List, [], ◌∷◌, ◌++◌, map, ◌≡◌, eqb, ℤ, get_or, Option, Some, None, Ok}
use Rattle.rules.specs.Base.{flat}
use Rattle.rules.specs.Values.{Value, empty, nums, chars, linked, amount_at}
use Rattle.rules.specs.Rows.{part_of}
use Rattle.rules.specs.Sets.{Figure, plain, chain, lettering, placed, wired, passed, Set}
use Rattle.rules.specs.LineByLine.{accepted}
use Rattle.rules.specs.Answers.{read_outcome, read_records}
use Rattle.promises.specs.PlacesApart.{kind_of}
use Rattle.promises.specs.ReaderCalls.{Call}
use Rattle.promises.specs.TableTexts.{first_records, number_at, amount_of}

-- ── which records have an own number ──
-- where the records of a kind have it, and where its state
pub record Owner : Type 0 where
  pub kind : ℕ
  pub number : ℕ
  pub state : ℕ

-- "16 placed symbol"
abbrev pub placed_owner : Owner
placed_owner = record { kind = 16; number = 14; state = 30 }

-- "19, the second record of a wire"
abbrev pub wire_owner : Owner
wire_owner = record { kind = 19; number = 21; state = 29 }

abbrev pub owners : List Owner
owners = placed_owner ∷ wire_owner ∷ []

-- "States: 0 absent, 1 empty, 2 given, 3 unread."
abbrev pub shows : Owner → List ℤ → Bool
shows o r = eqb (kind_of r) o.kind && eqb (amount_of (number_at r o.state)) 2

abbrev pub shown_by : List Owner → List ℤ → List ℕ
shown_by [] r = []
shown_by (o ∷ os) r = cond (shows o r) (amount_of (number_at r o.number) ∷ shown_by os r) (shown_by os r)

-- the own number of a record, nothing where it shows none
abbrev pub own_number : List ℤ → List ℕ
own_number r = shown_by owners r

-- of all of them
abbrev pub own_numbers : List (List ℤ) → List ℕ
own_numbers records = flat (map own_number records)

-- ── which figures have one ──
-- all that stand in layers, in the order written
abbrev pub figures_in : Set → List Figure
figures_in s = flat (map (λ v. flat (map (λ u. u.figures) v.blocks)) s.volumes)

-- what was read behind `serial=`: the sixth row of a placed symbol, the tenth of a wire
abbrev pub serial_row : Figure → Option Value
serial_row (plain n j v) = None
serial_row (chain n ps) = None
serial_row (lettering n s) = None
serial_row (placed n h) = get_or (part_of h 0) 5 None
serial_row (wired n w) = get_or w.own 9 None
serial_row (passed n) = None

-- the first number there
abbrev pub first_of : Option Value → List ℕ
first_of None = []
first_of (Some empty) = []
first_of (Some (nums v)) = amount_at (nums v) 0 ∷ []
first_of (Some (chars at c)) = []
first_of (Some (linked n ps)) = n ∷ []

-- a symbol or wire that was read with a serial shows its number, and no record shows another
abbrev pub OwnNumbersShown : Type 0
OwnNumbersShown = (class wire len : ℕ) (spool : List ℕ) (s : Set) → read_outcome class wire len spool ≡ accepted s
    → own_numbers (read_records class wire len spool) ≡ flat (map (λ f. first_of (serial_row f)) (figures_in s))

-- ── no two records, one behind the other, show the same ──
abbrev pub NoneTwice : List (List ℤ) → Type 0
NoneTwice records = (before between after : List (List ℤ)) (former later : List ℤ) → records ≡ before ++ former ∷ (between ++ later ∷ after)
    → (n : ℕ) → own_number former ≡ n ∷ [] → own_number later ≡ n ∷ [] → ⊥

-- where the reader refuses there is no record
abbrev pub OwnNumbersDiffer : Type 0
OwnNumbersDiffer = (class wire len : ℕ) (spool : List ℕ) → NoneTwice (read_records class wire len spool)

-- of a call of the reader, of which nothing is known but what its contract says: the records that stand in the table
abbrev pub CallNumbersDiffer : Type 0
CallNumbersDiffer = (c : Call) (n : ℕ) → c.answer ≡ Ok n → NoneTwice (first_records n c.after)
