-- All keys of a wire behind its elements, one row after the other.
use Rattle.std.specs.Prelude.{Option, Some, None, Result, Ok, Err}
use Prim.Native.Nat.{ℕ, zero, suc, ◌+◌, ◌-◌, ◌≤◌, ◌<◌}
use mathlib.Core.Bool.{true}
use mathlib.Core.List.{List, [], ◌++◌, append-nil}
use mathlib.Core.Path.{◌≡◌, refl, sym, ◌∙◌, ap, subst}
use native.Mathlib.Omega.{arith}
use borrow.Rule.Slice.PartMut.{put_mid}
use lib.ListN.{length, take, drop, get_or, length-append}
use Rattle.rules.specs.Values.{Value, Known}
use Rattle.rules.specs.Rows.{Rule}
use Rattle.rules.specs.Figures.{wire_table}
use Rattle.rules.specs.RecordTable.{rule_at}
use Rattle.rules.specs.FixedForm.{Text, no_inner, line_of, show_slot}
use Rattle.tables.specs.Tables.{table_of}
use Rattle.prints.specs.Printing.{Prints, Within}
use Rattle.pens.specs.Texts.{ended, line_bytes}
use Rattle.pens.specs.Noting.{Noted}
use Rattle.pens.specs.Closing.{row_bytes}
use Rattle.pens.specs.Writing.{Named, PrintsNoted}
use Rattle.pens.specs.Groups.{PrintsPass, WireKeys, PrintsLines, keys_text, PrintsKeys}
use Rattle.pens.proofs.Laying.{bytes-append, room}
use Rattle.pens.proofs.Behind.{prints-none, prints-full}
use Rattle.pens.proofs.ShownLaws.{opens_nothing, opens_not}
use Rattle.pens.proofs.Writers.{kept-long, room-left}
use Rattle.pens.proofs.PassLaws.{Front, front-more, front-full, front-prints}
use Rattle.leaves.specs.declared.NoRoom.{NoRoom}
use Rattle.leaves.specs.NoRoom.{no_room}

-- ── rows that stand once ──
pub record OnceRow (j : ℕ) : Type 0 where
  pub named : Named 20 j (rule_at wire_table j)
  pub flat : opens_nothing (rule_at wire_table j) ≡ true

pub once-row : (j : ℕ) → 5 < j → j < 10 → OnceRow j
unfolding table_of wire_table
once-row zero l h = absurd (omega (arith, l))
once-row (suc zero) l h = absurd (omega (arith, l))
once-row (suc (suc zero)) l h = absurd (omega (arith, l))
once-row (suc (suc (suc zero))) l h = absurd (omega (arith, l))
once-row (suc (suc (suc (suc zero)))) l h = absurd (omega (arith, l))
once-row (suc (suc (suc (suc (suc zero))))) l h = absurd (omega (arith, l))
once-row (suc (suc (suc (suc (suc (suc zero)))))) l h = record { named = record { key = refl; found-so = refl }; flat = refl }
once-row (suc (suc (suc (suc (suc (suc (suc zero))))))) l h = record { named = record { key = refl; found-so = refl }; flat = refl }
once-row (suc (suc (suc (suc (suc (suc (suc (suc zero)))))))) l h = record { named = record { key = refl; found-so = refl }; flat = refl }
once-row (suc (suc (suc (suc (suc (suc (suc (suc (suc zero))))))))) l h = record { named = record { key = refl; found-so = refl }; flat = refl }
once-row (suc (suc (suc (suc (suc (suc (suc (suc (suc (suc j)))))))))) l h = absurd (omega (arith, h))

slot-bytes : (k : Known) (q : Rule) (o : Option Value) → opens_nothing q ≡ true → line_bytes (show_slot k q o no_inner []) ≡ row_bytes k q o
slot-bytes k q None e = refl
slot-bytes k q (Some v) e = rw (opens_not q v e) (append-nil (ended (line_of k q v)))

-- a row that is not noted
not_there : (spool : List ℕ) (k : Known) (q : Rule) (n : ℕ) (o : Option Value) → Noted spool k q n o → n ≡ 0 → o ≡ None
not_there spool k q n None z e = refl
not_there spool k q n (Some v) z e = absurd (omega (arith, z.0, e))

-- ── the lines of one row ──
module _ (spool body : List ℕ) (start from j : ℕ) (ns : List ℕ) where
  pub lines_none : (note : ℕ) (before : List ℕ) → note ≡ get_or ns (6 + j) 0 → note ≡ 0 → PrintsLines spool body start from j ns before before (Ok 0)
  lines_none note before e z k t lo hi w = room j 5
      (λ le. nothing (w.absent j lo le (sym e ∙ z)))
      (λ lt. nothing (w.once j lt hi ∙ ap (λ (o : Option Value). show_slot k (rule_at wire_table j) o no_inner []) (not_there spool k (rule_at wire_table j) (get_or ns (6 + j) 0) (w.value j) (w.noted j lt hi) (sym e ∙ z))))
    where
      nothing : t j ≡ [] → Prints (line_bytes (t j)) before before (Ok 0)
      nothing q = subst (λ (u : Text). Prints (line_bytes u) before before (Ok 0)) (sym q) (prints-none before)

  pub lines_pass : (before after : List ℕ) (r : Result ℕ NoRoom) → j ≤ 5 → PrintsPass spool body start from j before after r → PrintsLines spool body start from j ns before after r
  lines_pass before after r le p k t lo hi w = p k w.lines (t j) w.there (w.passes j lo le)

  pub lines_noted : (note : ℕ) (before after : List ℕ) (r : Result ℕ NoRoom) → note ≡ get_or ns (6 + j) 0 → 5 < j → PrintsNoted spool 20 j note before after r → PrintsLines spool body start from j ns before after r
  lines_noted note before after r e lt p k t lo hi w =
      let q = rule_at wire_table j in
      let x = once-row j lt hi in
      subst (λ (u : List ℕ). Prints u before after r) (sym (ap line_bytes (w.once j lt hi) ∙ slot-bytes k q (w.value j) x.flat))
      (p k q (w.value j) x.named (subst (λ (n : ℕ). Noted spool k q n (w.value j)) (sym e) (w.noted j lt hi)))

-- ── all rows ──
pub record Keyed (spool body : List ℕ) (start from : ℕ) (ns before : List ℕ) (n j : ℕ) (out : List ℕ) : Type 0 where
  pub long : length out ≡ length before
  pub within : n ≤ length before
  pub low : 2 ≤ j
  pub high : j ≤ 10
  pub front : (k : Known) (t : ℕ → Text) → WireKeys spool body start from k ns t → Front (line_bytes (keys_text t (j - 2))) n before out

module _ (spool body : List ℕ) (start from : ℕ) (ns before : List ℕ) where
  pub keys-begin : Keyed spool body start from ns before 0 2 before
  keys-begin = record {
    long = refl;
    within = omega arith;
    low = omega arith;
    high = omega arith;
    front = λ k t w. record { size = refl; room = omega arith; lies = refl };
  }

  module _ (n j : ℕ) (out : List ℕ) (x : Keyed spool body start from ns before n j out) where
    pub keys-within : Within before out (Ok n)
    keys-within = record { long = x.long; within = λ m e. let z : n ≡ m = cc in omega (arith, z, x.within) }

    pub keys-end : 10 ≤ j → PrintsKeys spool body start from ns before out (Ok n)
    keys-end h k t w =
        let ten : j - 2 ≡ 8 = omega (arith, h, x.high) in
        front-prints (line_bytes (keys_text t 8)) n before out (subst (λ (m : ℕ). Front (line_bytes (keys_text t m)) n before out) ten (x.front k t w))

    module _ (lt : j < 10) (mid : List ℕ) (r : Result ℕ NoRoom) (p : PrintsLines spool body start from j ns (take (length out - n) (drop n out)) mid r) where
      there : n ≤ length out
      there = omega (arith, x.within, x.long)

      next-is : (t : ℕ → Text) → keys_text t (j + 1 - 2) ≡ keys_text t (j - 2) ++ t j
      next-is t =
          let a : j + 1 - 2 ≡ suc (j - 2) = omega (arith, x.low) in
          let b : 2 + (j - 2) ≡ j = omega (arith, x.low) in
          ap (keys_text t) a ∙ ap (λ (m : ℕ). keys_text t (j - 2) ++ t m) b

      pub keys-more : (m : ℕ) → r ≡ Ok m → Within (take (length out - n) (drop n out)) mid r → Keyed spool body start from ns before (n + m) (j + 1) (put_mid n (length out - n) out mid)
      keys-more m e i = record {
        long = kept-long out n there mid r i ∙ x.long;
        within = omega (arith, room-left out n there mid r i m e, x.long);
        low = omega (arith, x.low);
        high = omega (arith, lt);
        front = λ k t w.
            subst (λ (u : List ℕ). Front u (n + m) before (put_mid n (length out - n) out mid))
            (sym (ap line_bytes (next-is t) ∙ bytes-append (keys_text t (j - 2)) (t j)))
            (front-more (line_bytes (keys_text t (j - 2))) n before out there (x.front k t w) (line_bytes (t j)) mid r (p k t x.low lt w) m e);
      }

      -- there is no room for this row, and so none for all
      pub keys-full : r ≡ Err no_room → (after : List ℕ) → PrintsKeys spool body start from ns before after (Err no_room)
      keys-full e after k t w =
          let full = front-full (line_bytes (keys_text t (j - 2))) n before out there (x.front k t w) (line_bytes (t j)) mid r (p k t x.low lt w) e in
          let here : length (line_bytes (keys_text t (j + 1 - 2))) ≡ length (line_bytes (keys_text t (j - 2)) ++ line_bytes (t j)) = ap length (ap line_bytes (next-is t) ∙ bytes-append (keys_text t (j - 2)) (t j)) in
          prints-full (line_bytes (keys_text t 8)) before after (omega (arith, full, here, fewer t (j + 1 - 2) 8 (omega (arith, lt))))
        where
          -- fewer rows are no longer
          longer : (t : ℕ → Text) (a b : ℕ) → length (line_bytes (keys_text t a)) ≤ length (line_bytes (keys_text t (b + a)))
          longer t a zero = let e : 0 + a ≡ a = omega arith in omega (arith, ap (λ (m : ℕ). length (line_bytes (keys_text t m))) e)
          longer t a (suc b) =
              omega (arith, longer t a b, ap length (bytes-append (keys_text t (b + a)) (t (2 + (b + a)))), length-append (line_bytes (keys_text t (b + a))) (line_bytes (t (2 + (b + a)))), ap (λ (m : ℕ). length (line_bytes (keys_text t m))) (suc-sum b a))
            where
              suc-sum : (b a : ℕ) → suc b + a ≡ suc (b + a)
              suc-sum b a = omega arith

          fewer : (t : ℕ → Text) (a b : ℕ) → a ≤ b → length (line_bytes (keys_text t a)) ≤ length (line_bytes (keys_text t b))
          fewer t a b l = let e : b - a + a ≡ b = omega (arith, l) in omega (arith, longer t a (b - a), ap (λ (m : ℕ). length (line_bytes (keys_text t m))) e)
