-- A table's lines, record by record.
use Prim.Native.Nat.{ℕ, zero, suc, ◌+◌, ◌-◌, ◌*◌}
use mathlib.Core.Path.{◌≡◌, ap, sym, ◌∙◌}
use mathlib.Core.List.{◌++◌, List, append-nil, append_assoc}
use native.Mathlib.Omega.{arith}
use lib.IntN.{ℤ}
use lib.ListN.{take, drop}
use lib.Seq.{drop-drop}
use Rattle.std.proofs.Common.{slice_range}
use Rattle.rules.specs.Answers.{print_line}
use Rattle.promises.specs.Printing.{record_lines}

lines-suc : (i : ℕ) (t : List ℤ) → record_lines (suc i) t ≡ record_lines i t ++ print_line (take 32 (drop (32 * i) t))
lines-suc zero t = append-nil (print_line (take 32 t))
lines-suc (suc i) t =
    let e : 32 + 32 * i ≡ 32 * suc i = omega arith in
    ap (λ (s : List ℕ). print_line (take 32 t) ++ s) (lines-suc i (drop 32 t))
    ∙ ap (λ (r : List ℤ). print_line (take 32 t) ++ (record_lines i (drop 32 t) ++ print_line (take 32 r))) (drop-drop (32 * i) 32 t ∙ ap (λ (k : ℕ). drop k t) e)
    ∙ sym (append_assoc (print_line (take 32 t)) (record_lines i (drop 32 t)) (print_line (take 32 (drop (32 * suc i) t))))

-- one more record
pub lines-more : (i : ℕ) (t : List ℤ) → record_lines i t ++ print_line (slice_range t (32 * i) (32 * i + 32)) ≡ record_lines (i + 1) t
lines-more i t =
    let one : suc i ≡ i + 1 = omega arith in
    let room : 32 * i + 32 - 32 * i ≡ 32 = omega arith in
    ap (λ (k : ℕ). record_lines i t ++ print_line (take k (drop (32 * i) t))) room ∙ sym (lines-suc i t) ∙ ap (λ (k : ℕ). record_lines k t) one
