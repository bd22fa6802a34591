-- A record that one line fills: its numbers put over zeros, and its head before them, are the record that the rules give it.
use Rattle.std.specs.Prelude.{Some, None}
use Prim.Native.Nat.{ℕ, suc, ◌≤◌}
use mathlib.Core.Bool.{true}
use mathlib.Core.List.{List, [], ◌∷◌}
use mathlib.Core.Path.{◌≡◌, refl, sym, ◌∙◌, ap}
use native.Mathlib.Omega.{arith}
use lib.IntN.{ℤ, pos}
use lib.ListN.{length}
use lib.Seq.{sets}
use Rattle.rules.specs.Values.{Value}
use Rattle.rules.specs.Rows.{Rule}
use Rattle.rules.specs.RecordTable.{numbers, given, put_numbers, put_state, put_slot, start}
use Rattle.entries.specs.Acts.{put_line, place_of}
use Rattle.account.specs.Placing.{put_value, fills, clear_row}
use Rattle.standing.specs.SoFar.{empty_record}
use Rattle.standing.proofs.Puts.{runs-low, first-put}

-- the four numbers before a row's places
head_first : (p : ℕ) (zs hs : List ℤ) → 4 ≤ p → length hs ≡ 4 → sets (sets empty_record p zs) 0 hs ≡ sets (sets empty_record 0 hs) p zs
head_first p zs hs h k = runs-low hs zs empty_record 0 p (omega (arith, h, k))

-- a row without a state, of a record that nothing else fills
pub row_record : (r : Rule) (p : ℕ) (v : Value) (kind owner volume line : ℕ) → r.place ≡ suc p → 4 ≤ suc p → r.state ≡ 0 → clear_row r ≡ true
    → put_slot r None (start kind owner volume line) ≡ start kind owner volume line → fills r.holds (numbers v) ≡ true
    → sets (put_line r 0 v empty_record) 0 (pos kind ∷ pos owner ∷ pos volume ∷ pos line ∷ []) ≡ put_slot r (Some v) (start kind owner volume line)
row_record r p v kind owner volume line e h f c b g =
    let hs : List ℤ = pos kind ∷ pos owner ∷ pos volume ∷ pos line ∷ [] in
    let q : put_line r 0 v empty_record ≡ sets empty_record (suc p) (numbers v) =
    ap (λ (m : ℕ). put_state m (given v) (sets empty_record (place_of r.place 0) (numbers v))) f ∙ ap (λ (m : ℕ). sets empty_record (place_of m 0) (numbers v)) e in
    let w : put_value r v (start kind owner volume line) ≡ sets (start kind owner volume line) (suc p) (numbers v) =
    ap (λ (m : ℕ). put_state m (given v) (put_numbers r.place (numbers v) (start kind owner volume line))) f
    ∙ ap (λ (m : ℕ). put_numbers m (numbers v) (start kind owner volume line)) e in
    ap (λ (x : List ℤ). sets x 0 hs) q ∙ head_first (suc p) (numbers v) hs h refl ∙ sym w ∙ ap (put_value r v) (sym b) ∙ first-put r v (start kind owner volume line) g c
