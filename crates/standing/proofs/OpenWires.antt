-- A wire that is open: the counts of its keys that repeat, as they stand on the scratch, and what the code needs in it.
use Rattle.std.specs.Prelude.{Option, Some, None}
use Prim.Native.Nat.{ℕ, zero, suc, ◌+◌, ◌≤◌, ◌<◌}
use mathlib.Core.List.{List, ◌++◌}
use mathlib.Core.Path.{◌≡◌, refl, sym, ◌∙◌, ap, subst}
use native.Mathlib.Omega.{arith}
use lib.IntN.{ℤ, pos, nat_abs}
use lib.Signed.{non_neg}
use lib.ListN.{length, get_or}
use lib.Seq.{get_or-append-add}
use Rattle.rules.specs.declared.Class.{Class}
use Rattle.rules.specs.Base.{total}
use Rattle.rules.specs.Values.{Num}
use Rattle.rules.specs.Rows.{Slots, Held}
use Rattle.rules.specs.Sets.{Edge, Wire, Figure, Set}
use Rattle.rules.specs.Machine.{placing, skipping, wire_block, wire_unread}
use Rattle.rules.specs.RecordTable.{wire_start}
use Rattle.rules.specs.Wires.{last_edge}
use Rattle.account.specs.WireLines.{CountGiven, ShelvesReady}
use Rattle.standing.specs.SoFar.{volume_of, former_numbers, text_begun, writing_record, empty_record}
use Rattle.standing.specs.Standing.{Desk, InRead, Stands}
use Rattle.standing.proofs.WireCells.{once_of, spelled}
use Rattle.standing.proofs.WireParts.{direcs_of, piends_of, nums_in, slot_of, three-groups, cells_of, so-far-cells}
use Rattle.standing.proofs.WireScratch.{wire-scratch, unread-scratch, writing-long}

-- ── where the counts stand ──
-- behind the front record
behind-front : (f x : List ℤ) (i : ℕ) → length f ≡ 32 → get_or (f ++ x) (32 + i) (pos 0) ≡ get_or x i (pos 0)
behind-front f x i e = ap (λ (n : ℕ). get_or (f ++ x) (n + i) (pos 0)) (sym e) ∙ get_or-append-add f x i (pos 0)

pub record Counts (t : List ℤ) (direcs piends nums texts : ℕ) : Type 0 where
  pub direcs-at : get_or t 6 (pos 0) ≡ pos direcs
  pub piends-at : get_or t 15 (pos 0) ≡ pos piends
  pub nums_at : get_or t 19 (pos 0) ≡ pos nums
  pub texts-at : get_or t 37 (pos 0) ≡ pos texts

-- whatever is known of the last element, and whether a text is open or not
wire-counts : (o : Option Edge) (p : ℕ) (g₀ g₁ g₂ : List (List Num)) (ts : List Slots) (b : List ℤ)
    → Counts (former_numbers o (text_begun p (spelled g₀ g₁ g₂ ts b))) (length g₀) (length g₁) (length g₂) (length ts)
wire-counts None zero g₀ g₁ g₂ ts b = record { direcs-at = refl; piends-at = refl; nums_at = refl; texts-at = refl }
wire-counts None (suc p) g₀ g₁ g₂ ts b = record { direcs-at = refl; piends-at = refl; nums_at = refl; texts-at = refl }
wire-counts (Some e) zero g₀ g₁ g₂ ts b = record { direcs-at = refl; piends-at = refl; nums_at = refl; texts-at = refl }
wire-counts (Some e) (suc p) g₀ g₁ g₂ ts b = record { direcs-at = refl; piends-at = refl; nums_at = refl; texts-at = refl }

start-counts : (k volume n : ℕ) → Counts (wire_start k volume n) 0 0 0 0
start-counts k volume n = record { direcs-at = refl; piends-at = refl; nums_at = refl; texts-at = refl }

-- ── as the code asks for them ──
given : (z : ℤ) (n : ℕ) → z ≡ pos n → n < 4294967295 → CountGiven z
given z n e h = record { positive = ap non_neg e; most = subst (λ (y : ℤ). nat_abs y < 4294967295) (sym e) h }

shelves-by : (t f x : List ℤ) (direcs piends nums texts : ℕ) → t ≡ f ++ x → length f ≡ 32 → length t ≡ 96 → Counts x direcs piends nums texts
    → direcs < 4294967295 → piends < 4294967295 → nums < 4294967295 → texts < 4294967295 → ShelvesReady t
shelves-by t f x direcs piends nums texts e front long c hd hp hn ht =
    let there : (i : ℕ) → get_or t (32 + i) (pos 0) ≡ get_or x i (pos 0) = λ i. ap (λ (u : List ℤ). get_or u (32 + i) (pos 0)) e ∙ behind-front f x i front in
    record {
      scratch = long;
      direcs = given (get_or t 38 (pos 0)) direcs (there 6 ∙ c.direcs-at) hd;
      piends = given (get_or t 47 (pos 0)) piends (there 15 ∙ c.piends-at) hp;
      nums = given (get_or t 51 (pos 0)) nums (there 19 ∙ c.nums_at) hn;
      texts = given (get_or t 69 (pos 0)) texts (there 37 ∙ c.texts-at) ht;
    }

module _ (c : Class) (spool : List ℕ) (k : ℕ) (d : Desk) (FileHere : Set → ℕ → Held → ℕ → Type 0) (at : ℕ) (early : at ≤ 61440) (s : Set) (m : ℕ) (fs : List Figure) (n : ℕ) where
  -- one that is read: its lines were read, so they are few
  pub read-shelves : (w : Wire) (p : ℕ) → Stands c spool k d FileHere at (placing s m fs n (wire_block w) p) → ShelvesReady d.scratch
  read-shelves w p z =
      let i : InRead spool k d.now d.marks d.inner s m fs w p = z.block.1 in
      let groups : total length w.groups ≡ length (direcs_of w) + (length (piends_of w) + (length (nums_in w) + 0)) =
      ap (total length) (three-groups s m n w i.slots i.repeats i.groups) in
      shelves-by d.scratch (writing_record w) (former_numbers (last_edge w.elements) (text_begun p (cells_of s m n w i.slots i.repeats i.groups)))
      (length (direcs_of w)) (length (piends_of w)) (length (nums_in w)) (length w.texts)
      (wire-scratch d.scratch s m fs n w p z.scratch ∙ ap (λ (x : List ℤ). writing_record w ++ x) (so-far-cells s m n w i.slots i.repeats i.groups p))
      (writing-long w) z.lengths.scratch (wire-counts (last_edge w.elements) p (direcs_of w) (piends_of w) (nums_in w) w.texts (once_of m (volume_of s) n (slot_of 6 w) (slot_of 7 w) (slot_of 8 w) (slot_of 9 w)))
      (omega (arith, z.counted, groups, early)) (omega (arith, z.counted, groups, early)) (omega (arith, z.counted, groups, early)) (omega (arith, z.counted, early))

  -- one that is skipped whole has none
  pub unread-shelves : (q : ℕ) → Stands c spool k d FileHere at (skipping s m fs n wire_unread q) → ShelvesReady d.scratch
  unread-shelves q z =
      shelves-by d.scratch empty_record (wire_start m (volume_of s) n) 0 0 0 0 (unread-scratch d.scratch s m fs n q z.scratch) refl z.lengths.scratch (start-counts m (volume_of s) n)
      (omega arith) (omega arith) (omega arith) (omega arith)
