-- FILE_FORMAT as it opens: nothing is held yet, and the header kept apart says no more than the head of its records.
use Rattle.std.specs.Prelude.{None}
use Prim.Native.Nat.{ℕ, zero, suc, ◌<◌}
use mathlib.Core.Bool.{Bool, true, false}
use mathlib.Core.List.{List, [], ◌∷◌, map}
use mathlib.Core.Path.{◌≡◌, refl, sym, ◌∙◌, ap, subst}
use native.Mathlib.Omega.{arith}
use borrow.Author.Tests.{lt-ltb}
use lib.IntN.{ℤ, pos}
use lib.ListN.{length, get_or, take, replicate}
use Rattle.rules.specs.Base.{all}
use Rattle.rules.specs.Lines.{span, bytes_at}
use Rattle.rules.specs.Values.{capital, chars_of}
use Rattle.rules.specs.Rows.{Rule, blank, part_of, rows_there, slot_value, held, number_of}
use Rattle.rules.specs.Blocks.{file_table, range_table, base_table, elec_table, sym_table, later_table, file_tables, blank_held}
use Rattle.rules.specs.Sets.{Set, is_first}
use Rattle.rules.specs.VolumesAndTotals.{own_table}
use Rattle.rules.specs.RecordTable.{put_held}
use Rattle.rules.proofs.Chains.{clash}
use Rattle.account.specs.declared.Where.{Where}
use Rattle.account.specs.Placing.{Shaped}
use Rattle.account.specs.Account.{head_at}
use Rattle.standing.specs.SoFar.{volume_of}
use Rattle.standing.specs.Standing.{Desk, Bare}
use Rattle.account.specs.Numbering.{header_length}
use Rattle.account.specs.TopLines.{header_begun}
use Rattle.account.specs.FileLines.{part_marks, Header, is_count, count_at, file_width}
use Rattle.standing.specs.FileStanding.{file_head, is_numbers, InFile}

-- ── the header kept apart ──
abbrev begun : Bool → Where → List ℤ
begun first w = header_begun first w (replicate header_length (pos 0))

-- whatever it held before
pub header-same : (first : Bool) (w : Where) (h : List ℤ) → length h ≡ header_length → header_begun first w h ≡ header_begun first w (replicate header_length (pos 0))
header-same true w h e = ap (λ (n : ℕ). head_at 32 2 0 w (head_at 0 1 0 w (replicate n (pos 0)))) e
header-same false w h e = ap (λ (n : ℕ). head_at 0 2 0 w (replicate n (pos 0))) e

pub begun-long : (w : Where) (first : Bool) → length (begun first w) ≡ header_length
begun-long w true = refl
begun-long w false = refl

begun-counts : (first : Bool) (w : Where) → w.volume < 4294967296 → w.line < 4294967296 → all is_count (begun first w) ≡ true
begun-counts true w a b = rw (lt-ltb w.volume 4294967296 a, lt-ltb w.line 4294967296 b)
begun-counts false w a b = rw (lt-ltb w.volume 4294967296 a, lt-ltb w.line 4294967296 b)

begun-filled : (first : Bool) (w : Where) → take (file_width first) (begun first w) ≡ put_held (file_tables first) (blank_held (file_tables first)) (file_head first w.volume w.line)
unfolding file_table range_table base_table elec_table sym_table later_table
begun-filled true w = refl
begun-filled false w = refl

begun-name : (first : Bool) (w : Where) → (count_at (begun first w) 65 ≡ 0) × (count_at (begun first w) 67 ≡ 0) × (count_at (begun first w) 68 ≡ 0) × (count_at (begun first w) 69 ≡ 0) × (count_at (begun first w) 70 ≡ 0)
begun-name true w = (refl, refl, refl, refl, refl)
begun-name false w = (refl, refl, refl, refl, refl)

-- ── nothing held ──
blank-shaped : (first : Bool) → Shaped 0 (file_tables first) (blank_held (file_tables first))
unfolding file_table range_table base_table elec_table sym_table later_table
blank-shaped true = (omega arith, refl, (omega arith, refl, (omega arith, refl, (omega arith, refl, (omega arith, refl, tt)))))
blank-shaped false = (omega arith, refl, tt)

blank-marked : (first : Bool) (q : ℕ) → q < length (file_tables first) → part_marks first q (replicate 28 false) ≡ rows_there (part_of (blank_held (file_tables first)) q)
unfolding file_table range_table base_table elec_table sym_table later_table
blank-marked true zero l = refl
blank-marked true (suc zero) l = refl
blank-marked true (suc (suc zero)) l = refl
blank-marked true (suc (suc (suc zero))) l = refl
blank-marked true (suc (suc (suc (suc zero)))) l = refl
blank-marked true (suc (suc (suc (suc (suc q))))) l = absurd (omega (arith, l))
blank-marked false zero l = refl
blank-marked false (suc q) l = absurd (omega (arith, l))

blank-slot : (t : List Rule) (j : ℕ) → get_or (blank t) j None ≡ None
blank-slot [] j = refl
blank-slot (r ∷ t) zero = refl
blank-slot (r ∷ t) (suc j) = blank-slot t j

blank-held : (ts : List (List Rule)) (q j : ℕ) → get_or (part_of (blank_held ts) q) j None ≡ None
blank-held [] q j = refl
blank-held (t ∷ ts) zero j = blank-slot t j
blank-held (t ∷ ts) (suc q) j = blank-held ts q j

blank-name : (first : Bool) → chars_of (slot_value (held "next_file" (own_table first) (part_of (blank_held (file_tables first)) 0))) ≡ []
unfolding file_table later_table
blank-name true = refl
blank-name false = refl

blank-dated : (first : Bool) → first ≡ false → (number_of "date" later_table (part_of (blank_held (file_tables first)) 0) ≡ 0) × (number_of "time" later_table (part_of (blank_held (file_tables first)) 0) ≡ 0)
unfolding later_table
blank-dated true e = clash refl e
blank-dated false e = (refl, refl)

blank-wires : (first : Bool) → first ≡ true → number_of "E_wire" elec_table (part_of (blank_held (file_tables first)) 3) ≡ 0
unfolding file_table range_table base_table elec_table sym_table
blank-wires true e = refl
blank-wires false e = clash e refl

-- ── so it stands behind its opening line w ──
pub file-begins : (spool : List ℕ) (k : ℕ) (d : Desk) (s : Set) (w : Where) (line : ℕ) → w.volume ≡ k → w.line ≡ line → w.volume < 4294967296 → w.line < 4294967296
    → k ≡ volume_of s → (is_first s ≡ true → Bare s) → d.now.part ≡ 0 → d.marks ≡ replicate 28 false → d.header ≡ header_begun (is_first s) w (replicate header_length (pos 0))
    → InFile spool k d s line (blank_held (file_tables (is_first s))) 0
file-begins spool k d s w line ew el bv bl ev bare ep em eh =
    let first : Bool = is_first s in
    let zeros = begun-name first w in
    subst (λ (i : ℕ). InFile spool k d s i (blank_held (file_tables first)) 0) el
    (record {
      volume = ev;
      bare = bare;
      part = ep;
      parts = record { five = omega arith; later = λ _. refl };
      header = subst Header (sym eh) (record { long = begun-long w first; counts = begun-counts first w bv bl });
      shaped = blank-shaped first;
      filled = ap (take (file_width first)) eh ∙ begun-filled first w ∙ ap (λ (i : ℕ). put_held (file_tables first) (blank_held (file_tables first)) (file_head first i w.line)) ew;
      marked = λ q l. ap (part_marks first q) em ∙ blank-marked first q l;
      next =
          blank-name first ∙ ap (λ (i : ℕ). map capital (bytes_at spool (span (count_at (begun first w) 66) i))) (sym zeros.1)
          ∙ ap (λ (t : List ℤ). map capital (bytes_at spool (span (count_at t 66) (count_at t 67)))) (sym eh);
      date = λ e. ap (λ (t : List ℤ). count_at t 68) eh ∙ zeros.2 ∙ sym (blank-dated first e).0;
      time = λ e. ap (λ (t : List ℤ). count_at t 69) eh ∙ zeros.3 ∙ sym (blank-dated first e).1;
      wires = λ e. ap (λ (t : List ℤ). count_at t 70) eh ∙ zeros.4 ∙ sym (blank-wires first e);
      counted = λ q j _. ap is_numbers (blank-held (file_tables first) q j);
      unnamed = λ _. ap (λ (t : List ℤ). count_at t 65) eh ∙ zeros.0;
    })
