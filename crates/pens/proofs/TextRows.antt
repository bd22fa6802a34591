-- A text's rows, as they are noted and written.
use Rattle.std.specs.Prelude.{Result}
use Prim.Native.Nat.{ℕ, zero, suc, ◌<◌}
use mathlib.Core.Bool.{Bool, true, false, cond}
use mathlib.Core.List.{List, [], ◌∷◌, ◌++◌}
use mathlib.Core.Path.{◌≡◌, refl, sym, ◌∙◌, ap, subst}
use native.Mathlib.Omega.{arith}
use lib.ListN.{length, get_or}
use Rattle.rules.specs.Base.{bytes, all}
use Rattle.rules.specs.Values.{Known}
use Rattle.rules.specs.Rows.{Slots, part_of}
use Rattle.rules.specs.Figures.{text_table}
use Rattle.rules.specs.FixedForm.{Text, no_inner, show_slots}
use Rattle.prints.specs.Printing.{Prints}
use Rattle.pens.specs.declared.groups.Opened.{Opened}
use Rattle.pens.specs.Texts.{line_bytes}
use Rattle.pens.specs.Noting.{notes_from, NotedRows, tables_of, part_table, NotedParts, show_depth}
use Rattle.pens.specs.Closing.{shut_bytes, rows_bytes}
use Rattle.pens.specs.Writing.{PrintsPart}
use Rattle.pens.specs.Groups.{text_notes, PrintsText}
use Rattle.pens.proofs.Laying.{bytes-append}
use Rattle.pens.proofs.ShownLaws.{opens_nothing, slots-flat, slots-more, none_more}
use Rattle.pens.proofs.PartsNoted.{depth-rows}
use Rattle.pens.proofs.Closings.{tables-some}
use Rattle.leaves.specs.declared.NoRoom.{NoRoom}

pub text-flat : (b : Bool) → all opens_nothing (text_table b 4 12) ≡ true
unfolding text_table
text-flat b = refl

-- a text has no parts but itself
pub text-parts : (spool : List ℕ) (k : Known) (b : Bool) (ns : List ℕ) (o : Slots) → NotedRows spool k (text_table b 4 12) 4 ns o → NotedParts spool k (cond b 16 17) ns (o ∷ [])
text-parts spool k true ns o z = record { parts = go }
  where
    go : (p : ℕ) → p < length (tables_of 16) → NotedRows spool k (get_or (tables_of 16) p []) (notes_from (part_table 16 p)) ns (part_of (o ∷ []) p)
    go zero l = z
    go (suc p) l = absurd (omega (arith, l))
text-parts spool k false ns o z = record { parts = go }
  where
    go : (p : ℕ) → p < length (tables_of 17) → NotedRows spool k (get_or (tables_of 17) p []) (notes_from (part_table 17 p)) ns (part_of (o ∷ []) p)
    go zero l = z
    go (suc p) l = absurd (omega (arith, l))

-- its rows and its `}`
pub text-bytes : (k : Known) (b : Bool) (o : Slots) → rows_bytes k (cond b 16 17) (o ∷ []) ≡ line_bytes (show_slots k (text_table b 4 12) o no_inner (bytes "}" ∷ []))
text-bytes k b o = go b (text-flat b)
  where
    shut : Text
    shut = bytes "}" ∷ []

    rows : (b : Bool) (inner : ℕ → Text → Text) → all opens_nothing (text_table b 4 12) ≡ true
        → line_bytes (show_slots k (text_table b 4 12) o inner []) ++ shut_bytes ≡ line_bytes (show_slots k (text_table b 4 12) o no_inner shut)
    rows b inner f =
        let t = text_table b 4 12 in
        ap (λ (u : Text). line_bytes u ++ shut_bytes) (slots-flat k inner t f o [])
        ∙ sym (bytes-append (show_slots k t o no_inner []) shut)
        ∙ ap line_bytes (sym (slots-more k no_inner (none_more k) t o shut))

    go : (b : Bool) → all opens_nothing (text_table b 4 12) ≡ true → rows_bytes k (cond b 16 17) (o ∷ []) ≡ line_bytes (show_slots k (text_table b 4 12) o no_inner shut)
    go true f = rows true (show_depth k (tables_of 16) (o ∷ []) 2) f
    go false f = rows false (show_depth k (tables_of 17) (o ∷ []) 2) f

-- the text of a wire that is open, with its `}`
pub text-prints : (spool : List ℕ) (o : Opened) (ns before after : List ℕ) (r : Result ℕ NoRoom) → ns ≡ text_notes o → PrintsPart spool 3 16 16 ns before after r → PrintsText spool o before after r
text-prints spool o ns before after r e w k s z =
    let parts : NotedParts spool k 16 ns (s ∷ []) = text-parts spool k true ns s (subst (λ (u : List ℕ). NotedRows spool k (text_table true 4 12) 4 u s) (sym e) z) in
    subst (λ (u : List ℕ). Prints u before after r)
    (ap (λ (u : Text). line_bytes u ++ shut_bytes) (sym (depth-rows k 16 (s ∷ []) 3 0)) ∙ text-bytes k true s) (w.1 refl k (s ∷ []) 0 parts (tables-some 16) refl)
