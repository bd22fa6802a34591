-- A wire: how it begins, its elements and its end, and a line of one that is skipped whole, from what the code tests to the contracts.
use Prim.Native.Nat.{ℕ, suc, ◌+◌, ◌-◌, ◌/◌, ◌≤◌, ◌<◌}
use mathlib.Core.Bool.{Bool, true, false, cond, ◌&&◌}
use mathlib.Core.List.{List, [], ◌∷◌, ◌++◌, append-nil}
use mathlib.Core.Path.{◌≡◌, refl, sym, ◌∙◌, ap, subst}
use native.Mathlib.Omega.{arith}
use lib.Dec.{eqb, leb}
use lib.IntN.{ℤ, pos, negsuc}
use lib.ListN.{length, get_or, set, take, drop, length-set, length-drop}
use lib.Seq.{length-sets, get_or-set_other, take_all, drop-length}
use mir.Syntax.{w64}
use mir.Val.{to_z, of_z, SFits}
use mir.Facts.{to_z-of_z}
use borrow.Author.Tests.{leb-true, lt-ltb, le-ltb, eq-eqb, ne_eqb}
use Rattle.rules.specs.declared.Class.{Class}
use Rattle.rules.specs.declared.Digits.{Digits}
use Rattle.rules.specs.Lines.{Form}
use Rattle.rules.specs.RangeClass.{digits, digits_of, both, hides, most_depth}
use Rattle.rules.specs.Values.{Known, equal_z}
use Rattle.rules.specs.Rows.{complete}
use Rattle.rules.specs.RecordTable.{rule_at, mark_unread}
use Rattle.rules.specs.Figures.{wire_table}
use Rattle.rules.proofs.Chains.{clash}
use Rattle.tables.specs.Tables.{table_of}
use Rattle.leaves.proofs.Ints.{pos-back}
use Rattle.account.specs.declared.Now.{Now}
use Rattle.account.specs.declared.Where.{Where}
use Rattle.account.specs.declared.Step.{Step}
use Rattle.account.specs.declared.Step.TheVariants as S
use Rattle.account.specs.declared.Skipped.{Skipped}
use Rattle.account.specs.declared.Skipped.TheVariants as K
use Rattle.account.specs.Account.{figure_done, head_at}
use Rattle.account.specs.SkippedLines.{skipped_by}
use Rattle.account.specs.PlacedLines.{Lent, hidden_at, with_inner}
use Rattle.account.specs.WireLines.{wire_begun, begun_step, begun_put, both_lines, meets_former, join_holds, join_number, former_kept, element_put, wire_whole, wire_counted, states_marked, WireShut, ReadLine, text_act, TextInWire}
use Rattle.account.specs.WireLines.{open_skipped, marked_unread, SkippedLine, WireLine}
use Rattle.account.proofs.PlacedLaws.{one-marked}

-- ── how it begins ──

module _ (c : Class) (at : Where) (t : List ℤ) (did : Step) where
  abbrev Begun : Step → List ℤ → Type 0
  Begun r t₁ = (r ≡ begun_step c did) × (t₁ ≡ begun_put at did t)

  pub begins-other : (n : Now) → did ≡ S.Go n → (n.block ≡ 12 → ⊥) → Begun (S.Go n) t
  begins-other n e h =
      let q = ne_eqb n.block 12 h in (
        sym (ap (begun_step c) e ∙ ap (λ (b : Bool). cond b (S.Go (wire_begun c n)) (S.Go n)) q),
        sym (ap (λ (d : Step). begun_put at d t) e ∙ ap (λ (b : Bool). cond b (head_at 64 19 n.owner at t) t) q),
      )

  pub begins-wire : (n m : Now) (t₁ : List ℤ) → did ≡ S.Go n → n.block ≡ 12 → t₁ ≡ head_at 64 19 n.owner at t → m ≡ wire_begun c n → Begun (S.Go m) t₁
  begins-wire n m t₁ e h p r =
      let q = eq-eqb n.block 12 h in (
        ap S.Go r ∙ sym (ap (begun_step c) e ∙ ap (λ (b : Bool). cond b (S.Go (wire_begun c n)) (S.Go n)) q),
        p ∙ sym (ap (λ (d : Step). begun_put at d t) e ∙ ap (λ (b : Bool). cond b (head_at 64 19 n.owner at t) t) q),
      )

  pub begins_skip : (n : Now) → did ≡ S.Skip n → Begun (S.Skip n) t
  begins_skip n e = (sym (ap (begun_step c) e), sym (ap (λ (d : Step). begun_put at d t) e))

  pub begins-stop : (k : ℕ) → did ≡ S.Stop k → Begun (S.Stop k) t
  begins-stop k e = (sym (ap (begun_step c) e), sym (ap (λ (d : Step). begun_put at d t) e))

-- ── numbers that are compared, by their bits ──

both_ways : (m n : ℕ) → (m ≡ n → ⊥) → (leb m n && leb n m) ≡ false
both_ways m n h = go (leb m n) (leb n m) refl refl
  where
    go : (x y : Bool) → leb m n ≡ x → leb n m ≡ y → (x && y) ≡ false
    go true true p q = absurd (h (omega (arith, leb-true m n p, leb-true n m q)))
    go true false p q = refl
    go false y p q = refl

equal-apart : (a b : ℤ) → (a ≡ b → ⊥) → equal_z a b ≡ false
equal-apart (pos m) (pos n) h = both_ways m n (λ e. h (ap pos e))
equal-apart (pos m) (negsuc n) h = refl
equal-apart (negsuc m) (pos n) h = refl
equal-apart (negsuc m) (negsuc n) h = both_ways n m (λ e. h (ap negsuc (sym e)))

module _ (a b : ℤ) where
  pub other_bits : (of_z w64 a ≡ of_z w64 b → ⊥) → equal_z a b ≡ false
  other_bits h = equal-apart a b (λ e. h (ap (of_z w64) e))

-- ── the join ──

module _ (ends : Bool) (row : ℕ) (t : List ℤ) where
  tested : (b : Bool) → ends ≡ true → b ≡ both_lines row t → join_holds ends row t ≡ cond b (meets_former t) true
  tested b e q = ap (λ (x : Bool). cond (x && both_lines row t) (meets_former t) true) e ∙ ap (λ (x : Bool). cond x (meets_former t) true) (sym q)

  -- its number
  abbrev between : Bool → ℕ
  between former = cond former 0 (cond (both_lines row t) 1 2)

  numbered : ends ≡ true → join_number ends row t ≡ between (equal_z (get_or t 94 (pos 0)) (pos 0))
  numbered e = ap (λ (x : Bool). cond x (between (equal_z (get_or t 94 (pos 0)) (pos 0))) 0) e

  behind : ends ≡ true → (of_z w64 (get_or t 94 (pos 0)) ≡ 0 → ⊥) → (b : Bool) → b ≡ both_lines row t → pos (join_number ends row t) ≡ pos (cond b 1 2)
  behind e h b q = ap pos (numbered e ∙ ap between (other_bits (get_or t 94 (pos 0)) (pos 0) h) ∙ ap (λ (x : Bool). cond x 1 2) (sym q))

-- ── an element's record ──
pub former-kept : (j : ℕ) (t : List ℤ) → j ≤ 1 → SFits w64 (get_or t 7 (pos 0)) → SFits w64 (get_or (set t 36 (to_z w64 (of_z w64 (get_or t 7 (pos 0))))) 8 (pos 0))
    → (let s = set t 36 (to_z w64 (of_z w64 (get_or t 7 (pos 0)))) in set (set s 68 (to_z w64 (of_z w64 (get_or s 8 (pos 0))))) 94 (to_z w64 (j + 1))) ≡ former_kept j t
former-kept j t h f g =
    let x : ℤ = to_z w64 (of_z w64 (get_or t 7 (pos 0))) in
    let last : to_z w64 (j + 1) ≡ pos (suc j) = pos-back (j + 1) (omega (arith, h)) ∙ ap pos (omega arith) in
    ap (λ (z : ℤ). set (set (set t 36 x) 68 z) 94 (to_z w64 (j + 1))) (to_z-of_z g)
    ∙ ap (λ (z : ℤ). set (set (set t 36 x) 68 z) 94 (to_z w64 (j + 1))) (get_or-set_other t 36 8 x (pos 0) (λ e. absurd (omega (arith, e))))
    ∙ ap (λ (z : ℤ). set (set (set t 36 z) 68 (get_or t 8 (pos 0))) 94 (to_z w64 (j + 1))) (to_z-of_z f)
    ∙ ap (set (set (set t 36 (get_or t 7 (pos 0))) 68 (get_or t 8 (pos 0))) 94) last

-- the scratch with the head and the join put is as long
module _ (kind owner : ℕ) (at : Where) (t s : List ℤ) (e : s ≡ head_at 0 kind owner at t) where
  head-long : length s ≡ length t
  head-long = ap length e ∙ length-sets t 0 (pos kind ∷ pos owner ∷ pos at.volume ∷ pos at.line ∷ [])

  pub put-room : length t ≡ 96 → 11 < length s
  put-room h = omega (arith, head-long, h)

  module _ (z : ℤ) where
    pub put-long : length t ≡ 96 → length (set s 11 z) ≡ 96
    put-long h = length-set s 11 z ∙ head-long ∙ h

    pub put-same-length : (j : ℕ) (u : List ℤ) → u ≡ former_kept j (set s 11 z) → length u ≡ length t
    put-same-length j u q =
        let x : List ℤ = set s 11 z in
        ap length q
        ∙ length-set (set (set x 36 (get_or x 7 (pos 0))) 68 (get_or x 8 (pos 0))) 94 (pos (suc j))
        ∙ length-set (set x 36 (get_or x 7 (pos 0))) 68 (get_or x 8 (pos 0))
        ∙ length-set x 36 (get_or x 7 (pos 0))
        ∙ length-set s 11 z
        ∙ head-long

pub element-put : (ends : Bool) (n : Now) (at : Where) (j : ℕ) (t s u : List ℤ) (z z' : ℤ) → z ≡ pos (join_number ends j t) → z' ≡ z → s ≡ head_at 0 (20 + j) n.owner at t → u ≡ former_kept j (set s 11 z')
    → u ≡ element_put ends n at j t
element-put ends n at j t s u z z' e w p q = q ∙ ap (λ (y : ℤ). former_kept j (set s 11 y)) (w ∙ e) ∙ ap (λ (y : List ℤ). former_kept j (set y 11 (pos (join_number ends j t)))) p

-- ── its end ──
pub closed-room : (t : List ℤ) (x y z e : ℤ) → length t ≡ 96 → 62 < length (set (set (set (set t 36 x) 68 y) 94 z) 37 e)
closed-room t x y z e h =
    omega (arith, length-set (set (set (set t 36 x) 68 y) 94 z) 37 e ∙ length-set (set (set t 36 x) 68 y) 94 z ∙ length-set (set t 36 x) 68 y ∙ length-set t 36 x ∙ h)

pub wire-counted : (range : ℕ) (n : Now) (t : List ℤ) → range < 4294967296 → n.points < 4294967295
    → set (set (set (set (set t 36 (pos 0)) 68 (pos 0)) 94 (pos 0)) 37 (to_z w64 n.points)) 62 (to_z w64 (range / 100)) ≡ wire_counted range n t
wire-counted range n t h k =
    ap (λ (z : ℤ). set (set (set (set (set t 36 (pos 0)) 68 (pos 0)) 94 (pos 0)) 37 z) 62 (to_z w64 (range / 100))) (pos-back n.points (omega (arith, k)))
    ∙ ap (set (set (set (set (set t 36 (pos 0)) 68 (pos 0)) 94 (pos 0)) 37 (pos n.points)) 62) (pos-back (range / 100) (omega (arith, h)))

pub counted-long : (range : ℕ) (n : Now) (t u : List ℤ) → u ≡ wire_counted range n t → length t ≡ 96 → length u ≡ 96
counted-long range n t u e h =
    let a : List ℤ = set t 36 (pos 0) in
    let b : List ℤ = set a 68 (pos 0) in
    let c : List ℤ = set b 94 (pos 0) in
    let d : List ℤ = set c 37 (pos n.points) in
    ap length e ∙ length-set d 62 (pos (range / 100)) ∙ length-set c 37 (pos n.points) ∙ length-set b 94 (pos 0) ∙ length-set a 68 (pos 0) ∙ length-set t 36 (pos 0) ∙ h

-- the states, from the last row on: those of the first rows have none
module _ (c d : Digits) where
  abbrev at : ℕ → ℕ → ℕ → List ℤ → List ℤ
  at m l q t = hidden_at q (hides c d (digits m l)) t

  abbrev from : ℕ → List ℤ → List ℤ
  from i t = mark_unread c d (drop i wire_table) t

  pub states-marked : (t₀ t₁ t₂ t₃ t₄ t₅ t₆ t₇ t₈ : List ℤ) → t₁ ≡ at 1 0 61 t₀ → t₂ ≡ at 0 8 60 t₁ → t₃ ≡ at 0 7 59 t₂ → t₄ ≡ at 0 6 29 t₃ → t₅ ≡ at 0 5 58 t₄ → t₆ ≡ at 0 4 28 t₅
      → t₇ ≡ at 0 3 27 t₆ → t₈ ≡ at 0 2 26 t₇ → t₈ ≡ mark_unread c d wire_table t₀
  unfolding wire_table
  states-marked t₀ t₁ t₂ t₃ t₄ t₅ t₆ t₇ t₈ e₁ e₂ e₃ e₄ e₅ e₆ e₇ e₈ =
      let f₁ : t₁ ≡ from 9 t₀ = one-marked c d (rule_at wire_table 9) [] 60 t₀ t₁ t₀ refl refl e₁ in
      let f₂ : t₂ ≡ from 8 t₀ = one-marked c d (rule_at wire_table 8) (drop 9 wire_table) 59 t₀ t₂ t₁ refl f₁ e₂ in
      let f₃ : t₃ ≡ from 7 t₀ = one-marked c d (rule_at wire_table 7) (drop 8 wire_table) 58 t₀ t₃ t₂ refl f₂ e₃ in
      let f₄ : t₄ ≡ from 6 t₀ = one-marked c d (rule_at wire_table 6) (drop 7 wire_table) 28 t₀ t₄ t₃ refl f₃ e₄ in
      let f₅ : t₅ ≡ from 5 t₀ = one-marked c d (rule_at wire_table 5) (drop 6 wire_table) 57 t₀ t₅ t₄ refl f₄ e₅ in
      let f₆ : t₆ ≡ from 4 t₀ = one-marked c d (rule_at wire_table 4) (drop 5 wire_table) 27 t₀ t₆ t₅ refl f₅ e₆ in
      let f₇ : t₇ ≡ from 3 t₀ = one-marked c d (rule_at wire_table 3) (drop 4 wire_table) 26 t₀ t₇ t₆ refl f₆ e₇ in
      one-marked c d (rule_at wire_table 2) (drop 3 wire_table) 25 t₀ t₈ t₇ refl f₇ e₈

-- the wire's two records as they are lent: all behind the front
module _ (t : List ℤ) (k : ℕ) (e : k ≡ 64) (h : length t ≡ 96) where
  behind-long : k ≡ length (drop 32 t)
  behind-long = e ∙ omega (arith, length-drop 32 t, h)

  pub behind-whole : take k (drop 32 t) ≡ drop 32 t
  behind-whole = take_all k (drop 32 t) (omega (arith, behind-long))

  pub behind-lent : (u : List ℤ) → take 32 t ++ (u ++ drop k (drop 32 t)) ≡ take 32 t ++ u
  behind-lent u =
      ap (λ (y : List ℤ). take 32 t ++ (u ++ y)) (ap (λ (m : ℕ). drop m (drop 32 t)) behind-long ∙ drop-length (drop 32 t))
      ∙ ap (λ (y : List ℤ). take 32 t ++ y) (append-nil u)

  pub states-lent : (wires d : Digits) (range : ℕ) (u : List ℤ) → d ≡ digits_of range → u ≡ mark_unread wires d wire_table (take k (drop 32 t))
      → take 32 t ++ (u ++ drop k (drop 32 t)) ≡ states_marked wires range t
  states-lent wires d range u q m =
      behind-lent u
      ∙ ap (λ (y : List ℤ). take 32 t ++ y) (m ∙ ap (mark_unread wires d wire_table) behind-whole ∙ ap (λ (x : Digits). mark_unread wires x wire_table (drop 32 t)) q)

pub wire-ten : length (table_of 20) ≡ 10
unfolding table_of wire_table
wire-ten = refl

-- "8: something required missing, at the closing line"
module _ (wires : Digits) (range : ℕ) (n : Now) (marks : List Bool) (d : Digits) (b : Bool) (e : d ≡ both wires (digits_of range)) (h : b ≡ complete d (table_of 20) (take 10 marks)) where
  whole : wire_whole wires range marks ≡ b
  whole = ap (λ (x : Digits). complete x (table_of 20) (take 10 marks)) (sym e) ∙ sym h

  pub shut-short : (t₀ t₁ : List ℤ) → b ≡ false → WireShut wires range n marks t₀ t₁ (S.Stop 8)
  shut-short t₀ t₁ q =
      record { answer = ap (λ (x : Bool). cond x (S.Go (figure_done n)) (S.Stop 8)) (sym (whole ∙ q)); records = λ y. clash y (whole ∙ q) }

  pub shut-whole : (t₀ t₁ t₂ : List ℤ) (m : Now) → b ≡ true → t₁ ≡ wire_counted range n t₀ → t₂ ≡ states_marked wires range t₁ → m ≡ figure_done n → WireShut wires range n marks t₀ t₂ (S.Go m)
  shut-whole t₀ t₁ t₂ m q x y z =
      record {
        answer = ap S.Go z ∙ ap (λ (x : Bool). cond x (S.Go (figure_done n)) (S.Stop 8)) (sym (whole ∙ q));
        records = λ w. y ∙ ap (states_marked wires range) x;
      }

-- ── a line that is tested before it is put ──
abbrev pub Tested : Bool → Now → List ℤ → List ℤ → Step → Type 0
Tested b n put t r = (r ≡ cond b (S.Go n) (S.Stop 11)) × (b ≡ true → t ≡ put)

module _ (b a : Bool) (n : Now) (put t : List ℤ) (e : a ≡ b) where
  pub test-fails : a ≡ false → Tested b n put t (S.Stop 11)
  test-fails h = (sym (ap (λ (x : Bool). cond x (S.Go n) (S.Stop 11)) (sym e ∙ h)), λ q. clash q (sym e ∙ h))

  pub test-holds : (m : Now) → a ≡ true → m ≡ n → t ≡ put → Tested b n put t (S.Go m)
  test-holds m h g p = (ap S.Go g ∙ sym (ap (λ (x : Bool). cond x (S.Go n) (S.Stop 11)) (sym e ∙ h)), λ q. p)

-- ── a line of a wire that is skipped whole ──
module _ (range : ℕ) (n : Now) (t : List ℤ) (k s : Skipped) (e : s ≡ k) where
  -- the line, by what it does
  by_skip_lem : (y : Skipped) (t₁ : List ℤ) (r : Step) → s ≡ y → SkippedLine range n y t t₁ r → SkippedLine range n k t t₁ r
  by_skip_lem y t₁ r q h = subst (λ (k : Skipped). SkippedLine range n k t t₁ r) (sym q ∙ e) h

  pub skip-passes : s ≡ K.Passes → SkippedLine range n k t t (S.Go n)
  skip-passes q = by_skip_lem K.Passes t (S.Go n) q (record { answer = refl; records = refl })

  abbrev deeper_step : Bool → Step
  deeper_step b = cond b (S.Go (open_skipped n (n.points + 1))) (S.Stop 18)

  pub skip_deepest : s ≡ K.Deeper → most_depth ≤ n.points → SkippedLine range n k t t (S.Stop 18)
  skip_deepest q h = by_skip_lem K.Deeper t (S.Stop 18) q (record { answer = sym (ap deeper_step (le-ltb n.points most_depth h)); records = refl })

  pub skip-deeper : (m : Now) → s ≡ K.Deeper → n.points < most_depth → m ≡ open_skipped n (n.points + 1) → SkippedLine range n k t t (S.Go m)
  skip-deeper m q h p = by_skip_lem K.Deeper t (S.Go m) q (record { answer = ap S.Go p ∙ sym (ap deeper_step (lt-ltb n.points most_depth h)); records = refl })

  abbrev shut_step : Bool → Step
  shut_step b = cond b (S.Go (figure_done n)) (S.Go (open_skipped n (n.points - 1)))

  abbrev shut_put : Bool → List ℤ
  shut_put b = cond b (marked_unread range t) t

  pub skip-inner : (m : Now) → s ≡ K.Shut → 0 < n.points → m ≡ open_skipped n (n.points - 1) → SkippedLine range n k t t (S.Go m)
  skip-inner m q h p =
      let z : eqb n.points 0 ≡ false = ne_eqb n.points 0 (λ y. absurd (omega (arith, y, h))) in
      by_skip_lem K.Shut t (S.Go m) q (record { answer = ap S.Go p ∙ sym (ap shut_step z); records = sym (ap shut_put z) })

  pub skip-ends : (m : Now) (t₁ : List ℤ) → s ≡ K.Shut → n.points ≤ 0 → t₁ ≡ marked_unread range t → m ≡ figure_done n → SkippedLine range n k t t₁ (S.Go m)
  skip-ends m t₁ q h u p =
      let z : eqb n.points 0 ≡ true = eq-eqb n.points 0 (omega (arith, h)) in
      by_skip_lem K.Shut t₁ (S.Go m) q (record { answer = ap S.Go p ∙ sym (ap shut_step z); records = u ∙ sym (ap shut_put z) })

  pub skip-refuses : (i : ℕ) → s ≡ K.Refuse i → SkippedLine range n k t t (S.Stop i)
  skip-refuses i q = by_skip_lem (K.Refuse i) t (S.Stop i) q (record { answer = refl; records = refl })

-- as its end marks it
pub wire-marked : (range : ℕ) (d e : Digits) (t t₁ u : List ℤ) (k : ℕ) → k ≡ 64 → length t ≡ 96 → d ≡ digits 0 0 → e ≡ digits_of range → u ≡ mark_unread d e wire_table (take k (drop 32 t))
    → t₁ ≡ take 32 t ++ (u ++ drop k (drop 32 t)) → set (set t₁ 63 (pos 3)) 95 (pos 3) ≡ marked_unread range t
wire-marked range d e t t₁ u k l h p q m w =
    ap (λ (y : List ℤ). set (set y 63 (pos 3)) 95 (pos 3))
    (w ∙ states-lent t k l h (digits 0 0) e range u q (m ∙ ap (λ (x : Digits). mark_unread x e wire_table (take k (drop 32 t))) p))

-- ── a line of a wire ──
module _ (known : Known) (c : Class) (range : ℕ) (n : Now) (at : Where) (x₀ x₁ : Lent) (t₀ t₁ : List ℤ) (r : Step) (f : Form) where
  abbrev Wired : Bool → Bool → Type 0
  Wired skips text = WireLine known c range n at x₀ x₁ t₀ t₁ r skips text f

  abbrev wired : Type 0
  wired = Wired (eqb n.part 2) (eqb n.part 1)

  pub wired-skipped : n.part ≡ 2 → SkippedLine range n (skipped_by f) t₀ t₁ r → x₁ ≡ x₀ → wired
  wired-skipped e h q = subst (λ (b : Bool). Wired b (eqb n.part 1)) (sym (eq-eqb n.part 2 e)) (h, q)

  module _ (e : n.part ≡ 2 → ⊥) where
    pub wired-text : n.part ≡ 1 → TextInWire (text_act known x₀.inner f) n x₀.inner x₁.inner t₀ t₁ r → x₁ ≡ with_inner x₁.inner x₀ → wired
    wired-text q h w = subst (λ (b : Bool). Wired b (eqb n.part 1)) (sym (ne_eqb n.part 2 e)) (subst (Wired false) (sym (eq-eqb n.part 1 q)) (h, w))

    pub wired-read : (n.part ≡ 1 → ⊥) → ReadLine known c range n at x₀ x₁ t₀ t₁ r f → wired
    wired-read q h = subst (λ (b : Bool). Wired b (eqb n.part 1)) (sym (ne_eqb n.part 2 e)) (subst (Wired false) (sym (ne_eqb n.part 1 q)) h)
