-- Own serial numbers as they are kept: in ascending order, each with the place and the length of the content that it was read from, where its
-- partners stand.
use Rattle.std.specs.Prelude.{ℕ, zero, suc, ◌+◌, ◌*◌, ◌/◌, ◌%◌, Bool, true, false, cond, ◌&&◌, not, ◌≡◌, List, [], ◌∷◌, ◌++◌, map, eqb, ltb, length, get_or, set, take, drop, Option, Some, None}
use Rattle.rules.specs.declared.Class.{Class}
use Rattle.rules.specs.declared.Span.{Span}
use Rattle.rules.specs.Base.{all, flat, has_number, split}
use Rattle.rules.specs.Lines.{Rest, brace, equals, span, bytes_at}
use Rattle.rules.specs.Numbers.{read_count}
use Rattle.rules.specs.RangeClass.{digits_of, knows_serials}
use Rattle.account.specs.declared.Now.{Now}
use Rattle.account.specs.declared.Step.{Step}
use Rattle.account.specs.declared.Step.TheVariants as S
use Rattle.account.specs.Numbering.{block_ended, tally_serials, tally_symbol_range, tally_wire_range}

-- ── a number that is kept ──
-- no place is so great, and no content of a serial so long
abbrev pub places : ℕ
places = 65536

abbrev pub lengths : ℕ
lengths = 2048

abbrev pub spans : ℕ
spans = 134217728

-- own numbers have up to ten digits
abbrev pub own_numbers : ℕ
own_numbers = 10000000000

abbrev pub kept_number : ℕ → Span → ℕ
kept_number own at = own * spans + (at.at % places * lengths + at.len % lengths)

abbrev pub own_of : ℕ → ℕ
own_of k = k / spans

abbrev pub span_of : ℕ → Span
span_of k = span (k % spans / lengths) (k % lengths)

abbrev pub owns_of : List ℕ → List ℕ
owns_of ks = map own_of ks

-- where the content of a line stands; nowhere for an opener
abbrev pub content_at : Rest → Span
content_at brace = span 0 0
content_at (equals at c) = span at (length c)

-- ── their order ──
abbrev pub ascending : List ℕ → Bool
ascending [] = true
ascending (k ∷ []) = true
ascending (k ∷ l ∷ ks) = ltb (own_of k) (own_of l) && ascending (l ∷ ks)

-- how many stand before an own number
abbrev pub place_for : ℕ → List ℕ → ℕ
place_for own [] = 0
place_for own (k ∷ ks) = cond (ltb (own_of k) own) (suc (place_for own ks)) 0

-- A number of three digits makes its block 27 bytes long at least; one below 100 is lent a byte, one below 10 two. Numbers differ, so at most
-- 110 are lent.
abbrev pub bytes_lent : List ℕ → ℕ
bytes_lent ks = place_for 10 ks + place_for 100 ks

-- one more among them
abbrev pub inserted : ℕ → List ℕ → List ℕ
inserted k [] = k ∷ []
inserted k (l ∷ ks) = cond (ltb (own_of l) (own_of k)) (l ∷ inserted k ks) (k ∷ l ∷ ks)

-- among the first n of what is lent
abbrev pub kept_among : ℕ → ℕ → List ℕ → List ℕ
kept_among n k ks = inserted k (take n ks) ++ drop (suc n) ks

-- ── an own number that is new ──
-- the tally tells how many there are
abbrev pub serial_count : List ℕ → ℕ
serial_count tally = get_or tally tally_serials 0

abbrev pub kept_in : List ℕ → List ℕ → List ℕ
kept_in tally serials = take (serial_count tally) serials

abbrev pub in_use : List ℕ → List ℕ → ℕ → Bool
in_use tally serials n = has_number n (owns_of (kept_in tally serials))

-- "Own numbers differ as numbers over the set" (15): what `keep_own` promises of the number n, whose content stands at `at`
pub record SerialLine (now : Now) (n : ℕ) (at : Span) (tally₀ tally₁ serials₀ serials₁ : List ℕ) (r : Step) : Type 0 where
  pub answer : r ≡ cond (in_use tally₀ serials₀ n) (S.Stop 15) (S.Go now)
  pub tally : in_use tally₀ serials₀ n ≡ false → tally₁ ≡ set tally₀ tally_serials (serial_count tally₀ + 1)
  pub serials : in_use tally₀ serials₀ n ≡ false → serials₁ ≡ kept_among (serial_count tally₀) (kept_number n at) serials₀

-- ── partners ──
abbrev pub number_in : Option ℕ → List ℕ
number_in None = []
number_in (Some n) = n ∷ []

-- the numbers behind the first comma of a serial's content: an empty one is none
abbrev pub partners_in : List ℕ → List ℕ
partners_in c = flat (map (λ p. number_in (read_count 10 p)) (drop 1 (split 44 c)))

-- those of a number that is kept, and of all
abbrev pub partners_at : List ℕ → ℕ → List ℕ
partners_at spool k = partners_in (bytes_at spool (span_of k))

abbrev pub all_partners : List ℕ → List ℕ → List ℕ
all_partners spool ks = flat (map (partners_at spool) ks)

-- every partner is an own number
abbrev pub partners_found : List ℕ → List ℕ → Bool
partners_found spool ks = all (λ n. has_number n (owns_of ks)) (all_partners spool ks)

-- ── EOF: "partners are tested where file and class both know serials of symbols and of wires" ──
abbrev pub tests_for : Class → List ℕ → Bool
tests_for c tally =
    (knows_serials (digits_of (get_or tally tally_symbol_range 0)) && knows_serials (digits_of (get_or tally tally_wire_range 0)))
    && (knows_serials c.symbols && knows_serials c.wires)

-- behind a line of the top level that ended the set: "21, partner not found, at EOF after 17"
abbrev pub partners_met : Class → List ℕ → List ℕ → List ℕ → Step → Step
partners_met c spool tally serials (S.Go n) =
    cond (eqb n.block block_ended && (tests_for c tally && not (partners_found spool (kept_in tally serials)))) (S.Stop 21) (S.Go n)
partners_met c spool tally serials (S.Skip n) = S.Skip n
partners_met c spool tally serials (S.Stop k) = S.Stop k
