-- A record keeps its length, whatever is put into it.
use Rattle.std.specs.Prelude.{Option}
use Prim.Native.Nat.{ℕ, zero, suc}
use mathlib.Core.List.{List, [], ◌∷◌}
use mathlib.Core.Path.{◌≡◌, refl, ◌∙◌}
use mathlib.Core.Bool.{Bool}
use lib.IntN.{ℤ}
use lib.ListN.{length, length-set}
use lib.Seq.{length-sets}
use Rattle.rules.specs.Values.{Value}
use Rattle.rules.specs.Rows.{Rule, Slots, Held, part_of}
use Rattle.rules.specs.RecordTable.{numbers_of, state_of, columns, padded, put_numbers, put_state, put_slot, first_slot, other_slots, put_slots, put_parts, put_held, unread_state, mark_unread}
use Rattle.rules.specs.RangeClass.{hides}
use Rattle.rules.specs.declared.Digits.{Digits}

pub length-numbers : (p : ℕ) (zs t : List ℤ) → length (put_numbers p zs t) ≡ length t
length-numbers zero zs t = refl
length-numbers (suc p) zs t = length-sets t (suc p) zs

pub length-state : (q : ℕ) (z : ℤ) (t : List ℤ) → length (put_state q z t) ≡ length t
length-state zero z t = refl
length-state (suc q) z t = length-set t (suc q) z

pub length-slot : (r : Rule) (o : Option Value) (t : List ℤ) → length (put_slot r o t) ≡ length t
length-slot r o t =
    length-state r.state (state_of o) (put_numbers r.place (padded (columns r.holds) (numbers_of o)) t) ∙ length-numbers r.place (padded (columns r.holds) (numbers_of o)) t

pub length-slots : (rs : List Rule) (s : Slots) (t : List ℤ) → length (put_slots rs s t) ≡ length t
length-slots [] s t = refl
length-slots (r ∷ rs) s t = length-slot r (first_slot s) (put_slots rs (other_slots s) t) ∙ length-slots rs (other_slots s) t

pub length-parts : (p : ℕ) (ts : List (List Rule)) (h : Held) (t : List ℤ) → length (put_parts p ts h t) ≡ length t
length-parts p [] h t = refl
length-parts p (r ∷ rs) h t = length-slots r (part_of h p) (put_parts (suc p) rs h t) ∙ length-parts (suc p) rs h t

pub length-held : (ts : List (List Rule)) (h : Held) (t : List ℤ) → length (put_held ts h t) ≡ length t
length-held ts h t = length-parts 0 ts h t

-- states of unread attributes are put where there are places for them
state-unread : (q : ℕ) (b : Bool) (t : List ℤ) → length (unread_state q b t) ≡ length t
state-unread zero b t = refl
state-unread (suc q) b t = length-set t (suc q) _

pub length-unread : (c d : Digits) (rs : List Rule) (t : List ℤ) → length (mark_unread c d rs t) ≡ length t
length-unread c d [] t = refl
length-unread c d (r ∷ rs) t = state-unread r.state (hides c d r.least) (mark_unread c d rs t) ∙ length-unread c d rs t
