-- Promise 2, its first half: "A set is accepted at a class exactly when it keeps the rules of document 01 for that class and its records
-- fit; otherwise the first broken rule is named."
use Rattle.std.specs.Prelude.{ℕ, ◌*◌, ◌/◌, ◌≤◌, ◌<◌, Bool, true, ◌&&◌, ◌||◌, List, [], map, ◌≡◌, eqb, ltb, ℤ, length, get_or, None, Result, Ok}
use Rattle.rules.specs.Base.{all}
use Rattle.rules.specs.RangeClass.{class_of}
use Rattle.rules.specs.Sets.{Set}
use Rattle.rules.specs.LineByLine.{Outcome, refused, accepted}
use Rattle.rules.specs.RecordTable.{records_of, width}
use Rattle.rules.specs.Answers.{outcome_at, class_or, refusal, read_answer, read_records, full_number, full_wire, written, rewrite_answer}
use Rattle.promises.specs.TableTexts.{number_at, amount_of}
use Rattle.rules.specs.declared.Refusal.{Refusal}

-- ── the rules of a class, given by its number and its wire part, apart from the table ──
-- the reading with room for whatever records there are: every rule of document 01 but 19
abbrev pub ruled : ℕ → ℕ → List ℕ → Outcome
ruled class wire spool = outcome_at (class_of class wire) None spool

-- the records that a set has at a class
abbrev pub records_at : ℕ → ℕ → Set → List (List ℤ)
records_at class wire s = records_of (class_or (class_of class wire)) s

-- the spool keeps the rules of the class, and has n records there
pub record Keeps (class wire : ℕ) (spool : List ℕ) (n : ℕ) : Type 0 where
  pub set : Set
  pub rules : ruled class wire spool ≡ accepted set
  pub count : length (records_at class wire set) ≡ n

-- ── lines of a set ──
pub record Place : Type 0 where
  pub volume : ℕ
  pub line : ℕ

abbrev pub place : ℕ → ℕ → Place
place v l = record { volume = v; line = l }

abbrev pub earlier : Place → Place → Bool
earlier p q = ltb p.volume q.volume || (eqb p.volume q.volume && ltb p.line q.line)

-- the line at which a record was taken: "2 volume from 1, 3 line"
abbrev pub place_of : List ℤ → Place
place_of r = place (amount_of (number_at r 2)) (amount_of (number_at r 3))

-- "19: record doesn't fit the table"
abbrev pub no_room : Place → Result ℕ Refusal
no_room p = refusal 19 p.volume p.line

-- records taken at these lines, one after the other, do not fit a table of len numbers: the line of the first that does not
abbrev pub first_out : ℕ → List Place → Place
first_out len ps = get_or ps (len / width) (place 0 0)

-- ── a set that keeps the rules ──
pub record Fits (class wire : ℕ) (spool : List ℕ) (s : Set) (len : ℕ) : Type 0 where
  pub accepts : length (records_at class wire s) * width ≤ len → read_answer class wire len spool ≡ Ok (length (records_at class wire s))
  -- with the records that it has, whatever the table's length
  pub records : length (records_at class wire s) * width ≤ len → read_records class wire len spool ≡ records_at class wire s
  -- 19 at the line of the first record that does not fit
  pub refuses : len < length (records_at class wire s) * width → read_answer class wire len spool ≡ no_room (first_out len (map place_of (records_at class wire s)))

-- ── one that breaks a rule: number, volume and line of the first that is broken ──
pub record Names (class wire : ℕ) (spool : List ℕ) (number volume line : ℕ) : Type 0 where
  -- the lines of the records before it: one list, whatever the table's length
  pub places : List Place
  pub before : all (λ p. earlier p (place volume line)) places ≡ true
  -- "Order: 1, 2, 3 over all volumes, then line by line"
  pub none_yet : number ≤ 3 → places ≡ []
  -- where they fit, that rule is named
  pub names : (len : ℕ) → length places * width ≤ len → read_answer class wire len spool ≡ refusal number volume line
  -- where they do not, 19 is the first rule that is broken
  pub refuses : (len : ℕ) → len < length places * width → read_answer class wire len spool ≡ no_room (first_out len places)

-- ── the reader ──
pub record Acceptance (class wire : ℕ) (spool : List ℕ) : Type 0 where
  -- "exactly when": accepted, then it keeps the rules and its records fit
  pub only_kept : (len n : ℕ) → read_answer class wire len spool ≡ Ok n → Keeps class wire spool n × (n * width ≤ len)
  -- it keeps the rules: accepted where its records fit
  pub when_kept : (s : Set) → ruled class wire spool ≡ accepted s → (len : ℕ) → Fits class wire spool s len
  pub when_broken : (number volume line : ℕ) → ruled class wire spool ≡ refused number volume line → Names class wire spool number volume line

-- ── the rewriter: "reads at class 15 and has no table limit", with wire part 18; 20 is judged last ──
pub record RewriterAccepts (spool : List ℕ) (len : ℕ) : Type 0 where
  pub when_kept : (s : Set) → ruled full_number full_wire spool ≡ accepted s → length (written spool) ≤ len → rewrite_answer len spool ≡ Ok (length (written spool))
  pub when_short : (s : Set) → ruled full_number full_wire spool ≡ accepted s → len < length (written spool) → rewrite_answer len spool ≡ refusal 20 0 0
  pub when_broken : (number volume line : ℕ) → ruled full_number full_wire spool ≡ refused number volume line → rewrite_answer len spool ≡ refusal number volume line

pub record ExactlyWhen : Type 0 where
  pub reader : (class wire : ℕ) (spool : List ℕ) → Acceptance class wire spool
  pub rewriter : (spool : List ℕ) (len : ℕ) → RewriterAccepts spool len
