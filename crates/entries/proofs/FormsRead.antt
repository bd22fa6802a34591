-- What the forms chosen for a content stand for: its row's values and the rule across them, or a circle's in a symbol.
use Rattle.std.specs.Prelude.{Result, Ok, Err, ⊤}
use Prim.Native.Nat.{ℕ, suc, ◌+◌, ◌/◌, ◌%◌, ◌<◌, ◌≤◌}
use mathlib.Core.Path.{◌≡◌, refl, ap, sym, ◌∙◌, subst}
use mathlib.Core.Bool.{Bool, true, false, cond}
use mathlib.Core.List.{List, [], ◌∷◌, ◌++◌}
use native.Mathlib.Omega.{arith}
use lib.Dec.{eqb}
use lib.IntN.{ℤ, negsuc}
use lib.ListN.{length, set}
use lib.Seq.{sets}
use Rattle.rules.specs.Base.{split}
use Rattle.rules.specs.RefusalNumbers.{Got, got, bad, map_g, keep}
use Rattle.rules.specs.Values.{Num, Known, Part, nums, Value, Kind, values, symbol_circle, agree, no_turn, read_all, read_kind}
use Rattle.rules.specs.RecordTable.{numbers, columns}
use Rattle.rules.proofs.Chains.{clash}
use Rattle.tables.specs.Rows.{part_of, parts_of, across_of, values_of}
use Rattle.tables.specs.declared.Row.{Row}
use Rattle.entries.specs.Entering.{On, Puts, plainly, covered, settled, agree_from}
use Rattle.entries.specs.Forms.{own_forms, of_arc, of_whole, forms_for}
use Rattle.entries.specs.declared.Forms.{Forms}
use Rattle.entries.proofs.EachValue.{map-long, long-all, parts-long, done-not, across-by}

-- ── the forms by the row ──
abbrev pub parts_in : Forms → List Part
parts_in f = part_of (f.parts % 100) ∷ parts_of f.more (f.parts / 100)

-- what is made of the values
abbrev pub judged : Forms → Got (List Num) → Got Value
judged f g = map_g nums (cond f.turnless (map_g (λ v. v ++ no_turn ∷ []) g) (keep 11 (agree (across_of f.across)) g))

pub forms-read : (k : Known) (row : Row) (c : List ℕ)
    → read_kind k (values_of row) 0 c ≡ judged (forms_for row (length (split 44 c))) (read_all k (parts_in (forms_for row (length (split 44 c)))) (split 44 c))
unfolding parts_of
forms-read k row c = go (eqb row.kind 12) (eqb (length (split 44 c)) 6) refl
  where
    of_values : Kind
    of_values = values (part_of (row.parts % 100)) (parts_of row.count (row.parts / 100)) (across_of row.across)

    go : (t u : Bool) → eqb (length (split 44 c)) 6 ≡ u → read_kind k (cond t symbol_circle of_values) 0 c
        ≡ judged (cond t (cond u of_whole of_arc) (own_forms row)) (read_all k (parts_in (cond t (cond u of_whole of_arc) (own_forms row))) (split 44 c))
    go true true e = rw e
    go true false e = rw e
    go false u e = refl

by_forms : (P : Kind → Forms → Type 0) (row : Row) (n : ℕ) → P symbol_circle of_whole → P symbol_circle of_arc
    → P (values (part_of (row.parts % 100)) (parts_of row.count (row.parts / 100)) (across_of row.across)) (own_forms row) → P (values_of row) (forms_for row n)
by_forms P row n w a o = go (eqb row.kind 12) (eqb n 6)
  where
    go : (t u : Bool) → P (cond t symbol_circle (values (part_of (row.parts % 100)) (parts_of row.count (row.parts / 100)) (across_of row.across))) (cond t (cond u of_whole of_arc) (own_forms row))
    go true true = w
    go true false = a
    go false u = o

module _ (row : Row) (f : Forms) (n : ℕ) (e : f ≡ forms_for row n) where
  of_forms : (P : Kind → Forms → Type 0) → P symbol_circle of_whole → P symbol_circle of_arc
      → P (values (part_of (row.parts % 100)) (parts_of row.count (row.parts / 100)) (across_of row.across)) (own_forms row) → P (values_of row) f
  of_forms P w a o = subst (P (values_of row)) (sym e) (by_forms P row n w a o)

  pub forms-room : (p m : ℕ) → p + columns (values_of row) ≤ m → p + f.more < m
  forms-room p m =
      of_forms (λ d f. p + columns d ≤ m → p + f.more < m) (λ h. omega arith) (λ h. omega arith) (λ h. omega (arith, h, parts-long row.count (row.parts / 100)))

  pub turn-room : (p m : ℕ) → f.turnless ≡ true → p + columns (values_of row) ≤ m → p + 6 < m
  turn-room p m =
      of_forms (λ d f. f.turnless ≡ true → p + columns d ≤ m → p + 6 < m) (λ z h. omega arith) (λ z h. clash z refl) (λ z h. clash z refl)

  six-values : f.turnless ≡ true → f.more ≡ 5
  six-values = of_forms (λ d f. f.turnless ≡ true → f.more ≡ 5) (λ z. refl) (λ z. clash z refl) (λ z. clash z refl)

  pub forms-covered : f.turnless ≡ false → settled (values_of row) ≡ true → covered (across_of f.across) f.more ≡ true
  forms-covered =
      of_forms (λ d f. f.turnless ≡ false → settled d ≡ true → covered (across_of f.across) f.more ≡ true) (λ z h. clash refl z) (λ z h. refl)
      (λ z h. ap (covered (across_of row.across)) (sym (parts-long row.count (row.parts / 100))) ∙ h)

-- ── what is put ──
sets_more : (zs t : List ℤ) (p : ℕ) (z : ℤ) → sets t p (zs ++ z ∷ []) ≡ set (sets t p zs) (p + length zs) z
sets_more [] t p z = let q : p + 0 ≡ p = omega arith in rw q
sets_more (y ∷ zs) t p z = let q : p + suc (length zs) ≡ suc p + length zs = omega arith in sets_more zs (set t p y) (suc p) z ∙ ap (λ (i : ℕ). set (sets (set t p y) (suc p) zs) i z) (sym q)

plainly-more : (v : List Num) → plainly (v ++ no_turn ∷ []) ≡ plainly v ++ negsuc 0 ∷ []
plainly-more [] = refl
plainly-more (n ∷ v) = ap (λ (zs : List ℤ). n.value ∷ zs) (plainly-more v)

turn-put : (g : Got (List Num)) (t t₁ : List ℤ) (p : ℕ) (a : Result ⊤ ℕ) → On (λ v. length v ≡ 6) g → Puts g (λ v. sets t p (plainly v)) t₁ a → a ≡ Ok tt
    → Puts (map_g nums (map_g (λ v. v ++ no_turn ∷ []) g)) (λ v. sets t p (numbers v)) (set t₁ (p + 6) (negsuc 0)) (Ok tt)
turn-put (bad n) t t₁ p a l h d = done-not n (sym d ∙ h.eq)
turn-put (got v) t t₁ p a l h d =
    let six : length (plainly v) ≡ 6 = map-long v ∙ l in
    record {
      eq = refl;
      filled =
          ap (λ (u : List ℤ). set u (p + 6) (negsuc 0)) h.filled ∙ ap (λ (i : ℕ). set (sets t p (plainly v)) (p + i) (negsuc 0)) (sym six)
          ∙ sym (sets_more (plainly v) t p (negsuc 0)) ∙ ap (sets t p) (sym (plainly-more v));
    }

module _ (k : Known) (row : Row) (c : List ℕ) (f : Forms) (e : f ≡ forms_for row (length (split 44 c))) (t t₁ : List ℤ) (p : ℕ) (a : Result ⊤ ℕ)
    (h : Puts (read_all k (parts_in f) (split 44 c)) (λ v. sets t p (plainly v)) t₁ a) where
  is-judged : read_kind k (values_of row) 0 c ≡ judged f (read_all k (parts_in f) (split 44 c))
  is-judged = forms-read k row c ∙ ap (λ (f : Forms). judged f (read_all k (parts_in f) (split 44 c))) (sym e)

  all-long : On (λ v. length v ≡ suc f.more) (read_all k (parts_in f) (split 44 c))
  all-long =
      subst (λ (n : ℕ). On (λ v. length v ≡ suc n) (read_all k (parts_in f) (split 44 c))) (parts-long f.more (f.parts / 100)) (long-all k (parts_in f) (split 44 c))

  pub values-refused : (n : ℕ) → a ≡ Err n → Puts (read_kind k (values_of row) 0 c) (λ v. sets t p (numbers v)) t₁ a
  values-refused n z = rw is-judged (go (read_all k (parts_in f) (split 44 c)) h f.turnless)
    where
      go : (g : Got (List Num)) → Puts g (λ v. sets t p (plainly v)) t₁ a → (b : Bool)
          → Puts (map_g nums (cond b (map_g (λ v. v ++ no_turn ∷ []) g) (keep 11 (agree (across_of f.across)) g))) (λ v. sets t p (numbers v)) t₁ a
      go (got v) x b = done-not n (sym x.eq ∙ z)
      go (bad m) x true = record { eq = x.eq; filled = tt }
      go (bad m) x false = record { eq = x.eq; filled = tt }

  pub values_turnless : f.turnless ≡ true → a ≡ Ok tt → Puts (read_kind k (values_of row) 0 c) (λ v. sets t p (numbers v)) (set t₁ (p + 6) (negsuc 0)) (Ok tt)
  values_turnless z d =
      let six : suc f.more ≡ 6 = ap suc (six-values row f (length (split 44 c)) e z) in
      rw (is-judged, z) (turn-put (read_all k (parts_in f) (split 44 c)) t t₁ p a (subst (λ (n : ℕ). On (λ v. length v ≡ n) (read_all k (parts_in f) (split 44 c))) six all-long) h d)

  pub values-told : (b : Bool) → f.turnless ≡ false → a ≡ Ok tt → settled (values_of row) ≡ true → p + columns (values_of row) ≤ length t → agree_from (across_of f.across) p t₁ ≡ b
      → Puts (read_kind k (values_of row) 0 c) (λ v. sets t p (numbers v)) t₁ (cond b (Ok tt) (Err 11))
  values-told b z d s l x =
      let room = forms-room row f (length (split 44 c)) e p (length t) l in
      rw (is-judged, z)
      (across-by (across_of f.across) t t₁ p (suc f.more) a (read_all k (parts_in f) (split 44 c)) b all-long h d f.more refl
      (forms-covered row f (length (split 44 c)) e z s) (omega (arith, room)) x)
