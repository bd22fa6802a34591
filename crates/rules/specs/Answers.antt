-- Document 01, "What the base reads" and the last paragraph of "Refusal numbers": the answers of the reader, of the rewriter, of the
-- host's check and of the program, and the lent memory on return.
use Rattle.std.specs.Prelude.{ℕ, suc, ◌+◌, ◌*◌, ◌/◌, true, cond, List, [], ◌∷◌, ◌++◌, map, leb, ℤ, pos, negsuc, length, take, replicate, Option, Some, None, Result, Ok, Err}
use Rattle.rules.specs.declared.Class.{Class}
use Rattle.rules.specs.Base.{is_nil, flat, join}
use Rattle.rules.specs.Spool.{Volume, names_of, volumes_of, lines_of}
use Rattle.rules.specs.Lines.{ignored, form_of}
use Rattle.rules.specs.RangeClass.{digits, class_of}
use Rattle.rules.specs.Numbers.{fixed_onto, show_count}
use Rattle.rules.specs.Blocks.{top_table, file_table, range_table, base_table, elec_table, sym_table, later_table, drawing_table, defines_table, symbol_table}
use Rattle.rules.specs.Blocks.{element_table}
use Rattle.rules.specs.Figures.{layer_table, figure_table, point_table, text_table, placed_table, wire_table}
use Rattle.rules.specs.Values.{sheets}
use Rattle.rules.specs.Sets.{nothing_yet}
use Rattle.rules.specs.Machine.{Line, Env, top}
use Rattle.rules.specs.LineByLine.{Outcome, refused, accepted, run}
use Rattle.rules.specs.RecordTable.{records_of, table_of, width}
use Rattle.rules.specs.FixedForm.{fixed_form}
use Rattle.rules.specs.declared.Refusal.{Refusal}

-- ── the lines of a set ──
-- the lines of a volume, the first of them with number n, at a place of the spool
abbrev pub numbered : ℕ → List ℕ → ℕ → ℕ → List (List ℕ) → List Line
numbered v next n at [] = []
numbered v next n at (l ∷ ls) =
    record { volume = v; line = n; last = is_nil ls; next = next; form = form_of at l } ∷ numbered v next (suc n) (at + length l + 2) ls

-- a volume with no line ends early at line 0: it is read as one ignored line of that number
abbrev pub lines_of_volume : ℕ → List ℕ → ℕ → List (List ℕ) → List Line
lines_of_volume v next at [] = record { volume = v; line = 0; last = true; next = next; form = ignored } ∷ []
lines_of_volume v next at (l ∷ ls) = numbered v next 1 at (l ∷ ls)

abbrev pub next_name : List Volume → List ℕ
next_name [] = []
next_name (v ∷ vs) = v.name

-- "3 over all volumes, then line by line"; "3 the first such volume, line 0"
pub data Listed : Type 0 where
  listed : List Line → Listed
  no_lines : ℕ → Listed

abbrev pub onto_lines : List Line → Listed → Listed
onto_lines ls (listed rest) = listed (ls ++ rest)
onto_lines ls (no_lines v) = no_lines v

abbrev pub list_volume : ℕ → Volume → List Volume → Option (List (List ℕ)) → Listed → Listed
list_volume k v vs None rest = no_lines k
list_volume k v vs (Some ls) rest = onto_lines (lines_of_volume k (next_name vs) v.place ls) rest

-- the volumes from number k on
abbrev pub list_volumes : ℕ → List Volume → Listed
list_volumes k [] = listed []
list_volumes k (v ∷ vs) = list_volume k v vs (lines_of v.body) (list_volumes (suc k) vs)

-- ── the outcome ──
abbrev pub outcome_of_lines : Env → Listed → Outcome
outcome_of_lines e (listed ls) = run e (top nothing_yet 0) ls
outcome_of_lines e (no_lines v) = refused 3 v 0

abbrev pub outcome_of_volumes : Env → Option (List Volume) → Outcome
outcome_of_volumes e None = refused 2 0 0
outcome_of_volumes e (Some vs) = outcome_of_lines e (list_volumes 1 vs)

-- the reading of a spool; to open it is to open every table
unfoldable pub outcome_of : Env → List ℕ → Outcome
unfolding form_of lines_of volumes_of sheets top_table file_table range_table base_table elec_table sym_table later_table drawing_table defines_table
    symbol_table element_table layer_table figure_table point_table text_table placed_table wire_table
outcome_of e s = outcome_of_volumes e (volumes_of s)

-- "Order: 1, 2, 3 over all volumes, then line by line"
abbrev pub outcome_at : Option Class → Option ℕ → List ℕ → Outcome
outcome_at None m s = refused 1 0 0
outcome_at (Some c) m s = outcome_of (record { class = c; limit = m }) s

-- the class, for what is only asked of an accepted set
abbrev pub class_or : Option Class → Class
class_or None = record { symbols = digits 0 0; wires = digits 0 0 }
class_or (Some c) = c

-- ── document 01's number and values of an answer ──
abbrev pub answer_number : Result ℕ Refusal → ℕ
answer_number (Ok n) = 0
answer_number (Err r) = r.number

abbrev pub answer_volume : Result ℕ Refusal → ℕ
answer_volume (Ok n) = 0
answer_volume (Err r) = r.volume

abbrev pub answer_line : Result ℕ Refusal → ℕ
answer_line (Ok n) = 0
answer_line (Err r) = r.line

abbrev pub answer_count : Result ℕ Refusal → ℕ
answer_count (Ok n) = n
answer_count (Err r) = 0

-- number, volume, line
abbrev pub refusal : ℕ → ℕ → ℕ → Result ℕ Refusal
refusal n v l = Err (record { number = n; volume = v; line = l })

-- ── the reader: a class and its wire part, the length of the lent table in numbers, a spool ──
unfoldable pub read_outcome : ℕ → ℕ → ℕ → List ℕ → Outcome
unfolding class_of outcome_of
read_outcome class wire len s = outcome_at (class_of class wire) (Some (len / width)) s

-- the records that are written, none where refused
abbrev pub records_in : Class → Outcome → List (List ℤ)
records_in c (refused n v l) = []
records_in c (accepted set) = records_of c set

abbrev pub answer_with : ℕ → Outcome → Result ℕ Refusal
answer_with count (refused n v l) = refusal n v l
answer_with count (accepted set) = Ok count

unfoldable pub read_records : ℕ → ℕ → ℕ → List ℕ → List (List ℤ)
unfolding read_outcome records_of
read_records class wire len s = records_in (class_or (class_of class wire)) (read_outcome class wire len s)

unfoldable pub read_answer : ℕ → ℕ → ℕ → List ℕ → Result ℕ Refusal
unfolding read_outcome read_records
read_answer class wire len s = answer_with (length (read_records class wire len s)) (read_outcome class wire len s)

-- "Refused: no records, table wholly zero. Accepted: zeros after the last record": the whole table on return
unfoldable pub read_table : ℕ → ℕ → ℕ → List ℕ → List ℤ
unfolding read_records table_of
read_table class wire len s = table_of len (read_records class wire len s)

-- ── the rewriter: the length of the lent output in bytes, a spool; "The rewriter reads at class 15 and has no table limit." ──
-- "Class 15 in demand 2, the rewriter and the program has wire part 18."
abbrev pub full_number : ℕ
full_number = 15

abbrev pub full_wire : ℕ
full_wire = 18

abbrev pub full_class : Class
full_class = record { symbols = digits 1 5; wires = digits 1 8 }

abbrev pub names_in : Option (List Volume) → List (List ℕ)
names_in None = []
names_in (Some vs) = names_of vs

abbrev pub written_in : List (List ℕ) → Outcome → List ℕ
written_in names (refused n v l) = []
written_in names (accepted set) = fixed_form names set

unfoldable pub rewrite_outcome : List ℕ → Outcome
unfolding outcome_of
rewrite_outcome s = outcome_of (record { class = full_class; limit = None }) s

-- the fixed form of a spool that is accepted, nothing where it is refused
unfoldable pub written : List ℕ → List ℕ
unfolding rewrite_outcome fixed_form volumes_of fixed_onto
written s = written_in (names_in (volumes_of s)) (rewrite_outcome s)

-- "20 output shorter than the written set", last
abbrev pub fit_output : ℕ → ℕ → Result ℕ Refusal → Result ℕ Refusal
fit_output len count (Err r) = Err r
fit_output len count (Ok n) = cond (leb count len) (Ok n) (refusal 20 0 0)

unfoldable pub rewrite_answer : ℕ → List ℕ → Result ℕ Refusal
unfolding written
rewrite_answer len s = fit_output len (length (written s)) (answer_with (length (written s)) (rewrite_outcome s))

-- the bytes that are written, none where refused
unfoldable pub rewrite_bytes : ℕ → List ℕ → List ℕ
unfolding written
rewrite_bytes len s = cond (leb (length (written s)) len) (written s) []

-- "Refused: output wholly zero. Accepted: zeros after the last byte": the whole output on return
unfoldable pub rewrite_output : ℕ → List ℕ → List ℕ
unfolding rewrite_bytes
rewrite_output len s = take len (rewrite_bytes len s ++ replicate len 0)

-- ── the host's check: "a table of 256 records of its own"; "answer + 100 × volume + 10,000 × line" ──
abbrev pub own_records : ℕ
own_records = 256

unfoldable pub packed : Result ℕ Refusal → ℕ
packed a = answer_number a + 100 * answer_volume a + 10000 * answer_line a

unfoldable pub check_answer : ℕ → ℕ → List ℕ → ℕ
unfolding packed read_answer
check_answer class wire s = packed (read_answer class wire (own_records * width) s)

-- ── the program: "prints one line `answer volume line records` in decimal, single spaces, newline at the end; if accepted, one line of
-- 32 numbers per record follows" ──
-- a number in decimal; 20 digits are enough for 64 bits
abbrev pub show_number : ℕ → List ℕ
show_number n = show_count 20 n

abbrev pub show_signed : ℤ → List ℕ
show_signed (pos n) = show_number n
show_signed (negsuc n) = 45 ∷ show_number (suc n)

abbrev pub print_line : List ℤ → List ℕ
print_line zs = join 32 (map show_signed zs) ++ 10 ∷ []

abbrev pub first_line : Result ℕ Refusal → List ℤ
first_line a = pos (answer_number a) ∷ pos (answer_volume a) ∷ pos (answer_line a) ∷ pos (answer_count a) ∷ []

unfoldable pub printed : List ℕ → List ℕ
unfolding read_answer read_records fixed_onto
printed s =
    print_line (first_line (read_answer full_number full_wire (own_records * width) s))
    ++ flat (map print_line (read_records full_number full_wire (own_records * width) s))
