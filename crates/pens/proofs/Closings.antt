-- What a line `}` does, by the block that is open.
use Rattle.std.specs.Prelude.{Result, Ok, Err}
use Prim.Native.Nat.{ℕ, zero, suc, ◌+◌, ◌≤◌, ◌<◌}
use mathlib.Core.Bool.{Bool, true, false, cond, not, ◌||◌}
use mathlib.Core.List.{List, [], ◌∷◌, ◌++◌}
use mathlib.Core.Path.{◌≡◌, refl, sym, ◌∙◌, ap, subst}
use native.Mathlib.Omega.{arith}
use borrow.Author.Tests.{eqb-true, eq-eqb, ne_eqb}
use lib.Dec.{eqb}
use lib.ListN.{length, take, get_or, length-append}
use Rattle.rules.specs.Values.{Known}
use Rattle.rules.specs.Rows.{Rule, Slots}
use Rattle.rules.specs.Blocks.{drawing_table, symbol_table, around}
use Rattle.rules.specs.RecordTable.{rule_at}
use Rattle.rules.proofs.Chains.{clash, and_false}
use Rattle.tables.specs.Tables.{table_of}
use Rattle.pens.specs.declared.Pen.{Pen}
use Rattle.pens.specs.Texts.{Draws, Safe}
use Rattle.pens.specs.Moves.{moved}
use Rattle.pens.specs.Noting.{NotedRows, tables_of, notes_from, part_table, NotedParts}
use Rattle.pens.specs.Closing.{shut_bytes, Shuts, ShutsRows, ShutsPart, ShutsDrawing, ShutsSymbol, around_block, in_part, part_closed, CloseDone, WireDone}
use Rattle.pens.specs.Writing.{Named, noted_base}
use Rattle.pens.specs.KeyWriting.{Kept}
use Rattle.pens.proofs.Writers.{drawn-none, kept-moved}
use Rattle.pens.proofs.KeyRows.{part_open}
use Rattle.leaves.specs.declared.NoRoom.{NoRoom}
use Rattle.leaves.specs.NoRoom.{no_room}

-- ── the `}` behind what was written ──
-- the pen further on, in another block
abbrev pen_at : Pen → ℕ → ℕ → Pen
pen_at p block at = record { block = block; part = 0; layered = p.layered; start = p.start; at = at }

module _ (pen p : Pen) (n b : ℕ) (e : p ≡ moved pen n b 0) where
  pub shut_at : (m block place : ℕ) (mid last : List ℕ) (d : Result Pen NoRoom) → m ≡ n + 3 → place ≡ pen.at + n → Shuts p block mid last d
      → Draws shut_bytes place (moved pen m block 0) mid last d
  shut_at m block place mid last d s a w =
      subst (λ (k : ℕ). Draws shut_bytes k (moved pen m block 0) mid last d) (sym a)
      (subst (λ (x : Pen). Draws shut_bytes (pen.at + n) x mid last d) (ap (pen_at pen block) (let z : pen.at + n + 3 ≡ pen.at + m = omega (arith, s) in z))
      (subst (λ (x : Pen). Draws shut_bytes x.at (moved x 3 block 0) mid last d) e w))

  pub safe-there : (out : List ℕ) → pen.start ≤ pen.at → pen.at + n ≤ length out → Safe p out
  safe-there out s h = subst (λ (x : Pen). Safe x out) (sym e) record { begun = omega (arith, s); within = h }

-- no room for what comes before the `}`
pub shut_none : (x : List ℕ) (a : ℕ) (next : Pen) (before after : List ℕ) → length before < a + length x → Draws (x ++ shut_bytes) a next before after (Err no_room)
shut_none x a next before after h = drawn-none (x ++ shut_bytes) a next before after (omega (arith, h, length-append x shut_bytes))

-- ── the noted rows ──
some_list : (b : Bool) (x y : List (List Rule)) → 0 < length x → 0 < length y → 0 < length (cond b x y)
some_list true x y h k = h
some_list false x y h k = k

pub tables-some : (b : ℕ) → 0 < length (tables_of b)
tables-some b =
    some_list (eqb b 1) _ _ (omega arith)
    (some_list (eqb b 6) _ _ (omega arith)
    (some_list (eqb b 7) _ _ (omega arith)
    (some_list (eqb b 16) _ _ (omega arith)
    (some_list (eqb b 17) _ _ (omega arith) (omega arith)))))

-- DRAWING_FORMAT has one part alone
pub drawing-part : (spool : List ℕ) (k : Known) (ns : List ℕ) (s : Slots) → NotedRows spool k (take 7 drawing_table) 0 ns s → NotedParts spool k 7 ns (s ∷ [])
drawing-part spool k ns s z = record { parts = λ p h. one p h }
  where
    one : (p : ℕ) → p < 1 → NotedRows spool k (get_or (tables_of 7) p []) (notes_from (part_table 7 p)) ns (get_or (s ∷ []) p [])
    one zero h = z
    one (suc p) h = absurd (omega (arith, h))

-- a symbol's name and `wall`
pub name-row : Named 9 0 (rule_at symbol_table 0)
unfolding table_of symbol_table
name-row = record { key = refl; found-so = refl }

pub wall-row : Named 9 3 (rule_at symbol_table 3)
unfolding table_of symbol_table
wall-row = record { key = refl; found-so = refl }

pub text-base : (b : ℕ) (layered : Bool) → b ≡ cond layered 16 17 → noted_base b ≡ true
text-base b true e = ap noted_base e
text-base b false e = ap noted_base e

pub file-base : (b : ℕ) (first : Bool) → b ≡ cond first 1 6 → noted_base b ≡ true
file-base b true e = ap noted_base e
file-base b false e = ap noted_base e

-- ── by the block that is open ──
module _ (spool : List ℕ) (first : Bool) (p : Pen) (ns before after : List ℕ) (d : Result Pen NoRoom) where
  -- no other block is
  other : {P : Type 0} (a b : ℕ) → eqb a b ≡ false → p.block ≡ a → p.block ≡ b → P
  other a b t h e = clash (eq-eqb a b (sym h ∙ e)) t

  pub done-text : (b : ℕ) → b ≡ cond p.layered 16 17 → p.block ≡ 10 → ShutsRows spool b p 8 ns before after d → CloseDone spool first p ns before after d
  done-text b e h w = record {
    figures = other 10 8 refl h;
    chain = other 10 9 refl h;
    wire-text = other 10 12 refl h;
    text = λ _. subst (λ (x : ℕ). ShutsRows spool x p 8 ns before after d) e w;
    placed = other 10 11 refl h;
    placed-text = other 10 11 refl h;
    file = other 10 1 refl h;
    file-part = other 10 1 refl h;
    drawing = other 10 2 refl h;
    names = other 10 3 refl h;
    defines = other 10 4 refl h;
    symbol = other 10 5 refl h;
    hide = other 10 6 refl h;
    elements = other 10 7 refl h;
  }

  pub done-drawing : p.block ≡ 2 → ShutsDrawing spool p ns before after d → CloseDone spool first p ns before after d
  done-drawing h w = record {
    figures = other 2 8 refl h;
    chain = other 2 9 refl h;
    wire-text = other 2 12 refl h;
    text = other 2 10 refl h;
    placed = other 2 11 refl h;
    placed-text = other 2 11 refl h;
    file = other 2 1 refl h;
    file-part = other 2 1 refl h;
    drawing = λ _. w;
    names = other 2 3 refl h;
    defines = other 2 4 refl h;
    symbol = other 2 5 refl h;
    hide = other 2 6 refl h;
    elements = other 2 7 refl h;
  }

  pub done-symbol : p.block ≡ 5 → ShutsSymbol spool p ns before after d → CloseDone spool first p ns before after d
  done-symbol h w = record {
    figures = other 5 8 refl h;
    chain = other 5 9 refl h;
    wire-text = other 5 12 refl h;
    text = other 5 10 refl h;
    placed = other 5 11 refl h;
    placed-text = other 5 11 refl h;
    file = other 5 1 refl h;
    file-part = other 5 1 refl h;
    drawing = other 5 2 refl h;
    names = other 5 3 refl h;
    defines = other 5 4 refl h;
    symbol = λ _. w;
    hide = other 5 6 refl h;
    elements = other 5 7 refl h;
  }

  -- the block around an inner part is open
  no_part : {P : Type 0} (i : ℕ) → (eqb p.block 1 || (eqb p.block 12 || eqb p.block 11)) ≡ true → in_part p ≡ false → p.part ≡ suc i → P
  no_part i b e h = clash (rw (ne_eqb p.part 0 (λ z. absurd (omega (arith, z, h)))) b) e

  pub done-placed : p.block ≡ 11 → in_part p ≡ false → ShutsRows spool 18 p 8 ns before after d → CloseDone spool first p ns before after d
  done-placed h o w = record {
    figures = other 11 8 refl h;
    chain = other 11 9 refl h;
    wire-text = other 11 12 refl h;
    text = other 11 10 refl h;
    placed = λ _ _. w;
    placed-text = λ _ i e. no_part i (rw h) o e;
    file = other 11 1 refl h;
    file-part = other 11 1 refl h;
    drawing = other 11 2 refl h;
    names = other 11 3 refl h;
    defines = other 11 4 refl h;
    symbol = other 11 5 refl h;
    hide = other 11 6 refl h;
    elements = other 11 7 refl h;
  }

  pub done-file : (b : ℕ) → b ≡ cond first 1 6 → p.block ≡ 1 → in_part p ≡ false → ShutsRows spool b p 0 ns before after d → CloseDone spool first p ns before after d
  done-file b e h o w = record {
    figures = other 1 8 refl h;
    chain = other 1 9 refl h;
    wire-text = other 1 12 refl h;
    text = other 1 10 refl h;
    placed = other 1 11 refl h;
    placed-text = other 1 11 refl h;
    file = λ _ _. subst (λ (x : ℕ). ShutsRows spool x p 0 ns before after d) e w;
    file-part = λ _ i s. no_part i (rw h) o s;
    drawing = other 1 2 refl h;
    names = other 1 3 refl h;
    defines = other 1 4 refl h;
    symbol = other 1 5 refl h;
    hide = other 1 6 refl h;
    elements = other 1 7 refl h;
  }

  pub done-wire : p.block ≡ 12 → in_part p ≡ false → CloseDone spool first p ns before after d
  done-wire h o = record {
    figures = other 12 8 refl h;
    chain = other 12 9 refl h;
    wire-text = λ _ i e. no_part i (rw h) o e;
    text = other 12 10 refl h;
    placed = other 12 11 refl h;
    placed-text = other 12 11 refl h;
    file = other 12 1 refl h;
    file-part = other 12 1 refl h;
    drawing = other 12 2 refl h;
    names = other 12 3 refl h;
    defines = other 12 4 refl h;
    symbol = other 12 5 refl h;
    hide = other 12 6 refl h;
    elements = other 12 7 refl h;
  }

  -- an inner part closes
  none_open : {P : Type 0} → 1 ≤ p.part → p.part ≡ 0 → P
  none_open o e = absurd (omega (arith, o, e))

  pub done-placed-text : p.block ≡ 11 → 1 ≤ p.part → ((i : ℕ) → p.part ≡ suc i → ShutsPart p 11 0 before after d) → CloseDone spool first p ns before after d
  done-placed-text h o w = record {
    figures = other 11 8 refl h;
    chain = other 11 9 refl h;
    wire-text = other 11 12 refl h;
    text = other 11 10 refl h;
    placed = λ _ e. none_open o e;
    placed-text = λ _. w;
    file = other 11 1 refl h;
    file-part = other 11 1 refl h;
    drawing = other 11 2 refl h;
    names = other 11 3 refl h;
    defines = other 11 4 refl h;
    symbol = other 11 5 refl h;
    hide = other 11 6 refl h;
    elements = other 11 7 refl h;
  }

  pub done-wire-text : p.block ≡ 12 → 1 ≤ p.part → ((i : ℕ) → p.part ≡ suc i → ShutsPart p 12 0 before after d) → CloseDone spool first p ns before after d
  done-wire-text h o w = record {
    figures = other 12 8 refl h;
    chain = other 12 9 refl h;
    wire-text = λ _. w;
    text = other 12 10 refl h;
    placed = other 12 11 refl h;
    placed-text = other 12 11 refl h;
    file = other 12 1 refl h;
    file-part = other 12 1 refl h;
    drawing = other 12 2 refl h;
    names = other 12 3 refl h;
    defines = other 12 4 refl h;
    symbol = other 12 5 refl h;
    hide = other 12 6 refl h;
    elements = other 12 7 refl h;
  }

  pub done-file-part : p.block ≡ 1 → 1 ≤ p.part → ((i : ℕ) → p.part ≡ suc i → ShutsPart p 1 (around (suc i)) before after d) → CloseDone spool first p ns before after d
  done-file-part h o w = record {
    figures = other 1 8 refl h;
    chain = other 1 9 refl h;
    wire-text = other 1 12 refl h;
    text = other 1 10 refl h;
    placed = other 1 11 refl h;
    placed-text = other 1 11 refl h;
    file = λ _ e. none_open o e;
    file-part = λ _. w;
    drawing = other 1 2 refl h;
    names = other 1 3 refl h;
    defines = other 1 4 refl h;
    symbol = other 1 5 refl h;
    hide = other 1 6 refl h;
    elements = other 1 7 refl h;
  }

  -- all that is written is the `}`
  pub done-shut : (b : ℕ) → b ≡ around_block p → Shuts p b before after d → (p.block ≡ 10 → ⊥) → (p.block ≡ 11 → ⊥) → (p.block ≡ 12 → ⊥) → (p.block ≡ 1 → ⊥) → (p.block ≡ 2 → ⊥) → (p.block ≡ 5 → ⊥)
      → CloseDone spool first p ns before after d
  done-shut b e w x10 x11 x12 x1 x2 x5 = record {
    figures = λ h. there _ (rw h);
    chain = λ h. there 8 (rw h);
    wire-text = λ h. absurd (x12 h);
    text = λ h. absurd (x10 h);
    placed = λ h. absurd (x11 h);
    placed-text = λ h. absurd (x11 h);
    file = λ h. absurd (x1 h);
    file-part = λ h. absurd (x1 h);
    drawing = λ h. absurd (x2 h);
    names = λ h. there 2 (rw h);
    defines = λ h. there 0 (rw h);
    symbol = λ h. absurd (x5 h);
    hide = λ h. there 5 (rw h);
    elements = λ h. there 0 (rw h);
  }
    where
      there : (x : ℕ) → around_block p ≡ x → Shuts p x before after d
      there x f = subst (λ (y : ℕ). Shuts p y before after d) (e ∙ f) w

-- an inner part of FILE_FORMAT, of a placed symbol or of a wire closes
pub done-part : (spool : List ℕ) (first : Bool) (p q : Pen) (ns out : List ℕ) → in_part p ≡ true → q ≡ part_closed p
    → CloseDone spool first p ns out out (Ok q)
done-part spool first p q ns out o e = go (eqb p.block 1) refl (eqb p.block 12) refl (eqb p.block 11) refl
  where
    some : 1 ≤ p.part
    some = part_open p o

    go : (a : Bool) → eqb p.block 1 ≡ a → (w : Bool) → eqb p.block 12 ≡ w → (b : Bool) → eqb p.block 11 ≡ b → CloseDone spool first p ns out out (Ok q)
    go true f w i b g =
        let h : p.block ≡ 1 = eqb-true p.block 1 f in
        done-file-part spool first p ns out out (Ok q) h some (λ i s. (ap Ok (e ∙ rw h (ap (λ (x : ℕ). moved p 0 1 (around x)) s)), refl))
    go false f true i b g =
        let h : p.block ≡ 12 = eqb-true p.block 12 i in
        done-wire-text spool first p ns out out (Ok q) h some (λ i s. (ap Ok (e ∙ rw h), refl))
    go false f false i true g =
        let h : p.block ≡ 11 = eqb-true p.block 11 g in
        done-placed-text spool first p ns out out (Ok q) h some (λ i s. (ap Ok (e ∙ rw h), refl))
    go false f false i false g = clash o (rw (f, i, g) (and_false (not (eqb p.part 0))))

pub part-kept : (out : List ℕ) (p q : Pen) → Safe p out → q ≡ part_closed p → Kept out out (Ok q)
part-kept out p q s e = go (eqb p.block 1) (eqb p.block 12) e
  where
    go : (b c : Bool) → q ≡ cond b (moved p 0 1 (around p.part)) (cond c (moved p 0 12 0) (moved p 0 11 0)) → Kept out out (Ok q)
    go true c e = kept-moved out p q 1 (around p.part) s e
    go false true e = kept-moved out p q 12 0 s e
    go false false e = kept-moved out p q 11 0 s e

-- ── no wire closes ──
pub no-wire : (spool body : List ℕ) (start from : ℕ) (p : Pen) (ns before after : List ℕ) (d : Result Pen NoRoom) (b : ℕ) → eqb b 12 ≡ false → p.block ≡ b → WireDone spool body start from p ns before after d
no-wire spool body start from p ns before after d b t e h = clash (eq-eqb b 12 (sym e ∙ h)) t

pub not_itself : (spool body : List ℕ) (start from : ℕ) (p : Pen) (ns before after : List ℕ) (d : Result Pen NoRoom) → in_part p ≡ true → WireDone spool body start from p ns before after d
not_itself spool body start from p ns before after d o h z = absurd (omega (arith, part_open p o, z))
