-- A placed symbol's record on the scratch, and what a line there that reads no serial number keeps.
use Rattle.std.specs.Prelude.{Option, None}
use Prim.Native.Nat.{ℕ, ◌+◌, ◌*◌, ◌≤◌, ◌<◌}
use mathlib.Core.Bool.{Bool, true}
use mathlib.Core.List.{List, [], ◌++◌}
use mathlib.Core.Path.{◌≡◌, sym, ◌∙◌, ap, subst}
use native.Mathlib.Omega.{arith}
use lib.IntN.{ℤ}
use lib.ListN.{length, get_or, take}
use Rattle.rules.specs.declared.Class.{Class}
use Rattle.rules.specs.RangeClass.{digits_of}
use Rattle.rules.specs.Values.{Value}
use Rattle.rules.specs.Values.{serials_of as numbers_of}
use Rattle.rules.specs.Rows.{Held, part_of, enter, rows_there, slot_value}
use Rattle.rules.specs.Figures.{placed_tables}
use Rattle.rules.specs.Sets.{Figure, Set, range_of}
use Rattle.rules.specs.Machine.{State, placing, symbol_block}
use Rattle.rules.specs.RecordTable.{rule_at}
use Rattle.entries.specs.Acts.{put_line}
use Rattle.account.specs.declared.Now.{Now}
use Rattle.account.specs.Records.{part_at, with_part}
use Rattle.standing.specs.Kept.{Scratch}
use Rattle.account.specs.PlacedLines.{Lent, lent, LentReady}
use Rattle.account.specs.SerialNumbers.{bytes_lent}
use Rattle.standing.specs.Standing.{Desk, symbol_links, links_with, links_of, due_of, owned_bytes, InPlaced, Stands}
use Rattle.account.proofs.RowsTaken.{Taken}
use Rattle.standing.proofs.LaidTables.{with-back}
use Rattle.standing.proofs.EntriesKept.{placed_row, part-close}
use Rattle.standing.proofs.Standings.{sight, desk_with, stands_on}
use Rattle.standing.proofs.PlacedFacts.{figure-serial}
use Rattle.standing.proofs.SerialKept.{serials-count, serials-few, kept-ordered}

-- ── what is lent, and given back ──
abbrev pub lent_of : Desk → Lent
lent_of d = lent d.tally d.serials d.marks d.inner

abbrev pub lent_desk : Desk → Lent → List ℤ → Desk
lent_desk d x u = record {
  now = d.now;
  tally = x.tally;
  symbols = d.symbols;
  layers = d.layers;
  serials = x.serials;
  used = d.used;
  used_all = d.used_all;
  marks = x.marks;
  inner = x.inner;
  header = d.header;
  scratch = with_part 32 u d.scratch;
}

-- what the code needs of it in a block with a serial
pub lent_ready : (c : Class) (spool : List ℕ) (k : ℕ) (d : Desk) (FileHere : Set → ℕ → Held → ℕ → Type 0) (at : ℕ) (st : State) → Stands c spool k d FileHere at st → at ≤ 61440 → LentReady (lent_of d)
lent_ready c spool k d FileHere at st z h =
    let count = serials-count c spool k d FileHere at st z in
    let few = serials-few c spool k d FileHere at st z h in
    record {
      tally = ap length z.tally;
      serials = omega (arith, count, few);
      ordered = kept-ordered c spool k d FileHere at st z;
      count = omega (arith, count, few, z.lengths.serials);
      marks = z.lengths.marks;
      inner = z.lengths.inner;
    }

module _ (c : Class) (spool : List ℕ) (k : ℕ) (FileHere : Desk → Set → ℕ → Held → ℕ → Type 0) (d : Desk) (at to : ℕ) (s : Set) (m : ℕ) (fs : List Figure) (n : ℕ) (o : Held) (p : ℕ)
    (z : Stands c spool k d (FileHere d) at (placing s m fs n (symbol_block o) p)) where
  -- the record that is lent, put back as it was
  pub record-kept : (p' : ℕ) (u : List ℤ) → u ≡ part_at 32 d.scratch → Scratch (with_part 32 u d.scratch) (placing s m fs n (symbol_block o) p')
  record-kept p' u e =
      subst (λ (y : List ℤ). Scratch y (placing s m fs n (symbol_block o) p')) (sym (with-back 32 u d.scratch e)) (part-close c s m fs n o d.scratch p p' z.scratch).scratch

  -- with a line of the part q entered
  pub record-entered : (p' q j : ℕ) (v : Value) (u : List ℤ) → q < 2 → Taken (get_or placed_tables q []) (rows_there (part_of o q)) j v
      → u ≡ put_line (rule_at (get_or placed_tables q []) j) 0 v (part_at 32 d.scratch) → Scratch (with_part 32 u d.scratch) (placing s m fs n (symbol_block (enter o q j v)) p')
  record-entered p' q j v u h w e =
      subst (λ (y : List ℤ). Scratch (with_part 32 y d.scratch) (placing s m fs n (symbol_block (enter o q j v)) p')) (sym e)
      (placed_row c s m fs n o d.scratch p p' q j v z.scratch h z.block.1.shaped w).scratch

  -- the range that the code goes by
  pub range-is : digits_of (get_or d.tally 1 0) ≡ range_of s
  range-is = ap (λ (t : List ℕ). digits_of (get_or t 1 0)) z.tally

  -- a line that reads no serial number
  pub placing-on : (now : Now) (ms is : List Bool) (u : List ℤ) (o' : Held) (p' : ℕ) → at ≤ to → length ms ≡ 28 → length is ≡ 2
      → Scratch (with_part 32 u d.scratch) (placing s m fs n (symbol_block o') p') → get_or (part_of o 0) 5 None ≡ get_or (part_of o' 0) 5 None → now.block ≡ 11 → InPlaced spool k now ms is s m fs o' p'
      → Stands c spool k (desk_with d now ms is (with_part 32 u d.scratch)) (FileHere (desk_with d now ms is (with_part 32 u d.scratch))) to (placing s m fs n (symbol_block o') p')
  placing-on now ms is u o' p' later lm li scratch same b w =
      let st : State = placing s m fs n (symbol_block o) p in
      let st' : State = placing s m fs n (symbol_block o') p' in
      let seen : sight st ≡ sight st' =
      ap (λ (y : List (List ℕ)). record { set = (sight st).set; layers = s.drawing.layers; serials = links_with s fs ++ y; used = (sight st).used; inside = true; counts = true })
      (figure-serial n o ∙ ap (λ (y : Option Value). symbol_links (numbers_of (slot_value y))) same ∙ sym (figure-serial n o')) in
      let few : 27 * length (links_of st) + owned_bytes (symbol_block o') ≤ to + 3 + bytes_lent (take (length (links_of st)) d.serials) = omega (arith, z.numbered, later, ap (due_of 12) same) in
      stands_on c spool k FileHere d at to st st' z now ms is (with_part 32 u d.scratch) seen lm li scratch (omega (arith, z.counted, later)) (omega (arith, z.named, later)) few (b, w)

  -- what the code needs
  pub placed_ready : at ≤ 61440 → LentReady (lent_of d) × (d.now.figures < 4294967295)
  placed_ready h = (lent_ready c spool k d (FileHere d) at (placing s m fs n (symbol_block o) p) z h, omega (arith, z.block.1.figures, z.counted, h))
