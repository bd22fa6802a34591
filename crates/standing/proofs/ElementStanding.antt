-- A line in ELEMENT, outside its layers: from the code's answer to the step that the definitions make.
use Prim.Native.Nat.{ℕ, suc, ◌+◌, ◌≤◌, ◌<◌, ◌*◌}
use mathlib.Core.Bool.{Bool, true, false, cond, not}
use mathlib.Core.List.{List, [], ◌∷◌, ◌++◌, map, append-nil, append_assoc}
use mathlib.Core.Path.{◌≡◌, refl, sym, ◌∙◌, ap, subst}
use native.Mathlib.Omega.{arith}
use lib.Dec.{eqb}
use lib.ListN.{length, get_or, set, take, length-append, length-set}
use Rattle.rules.specs.declared.Class.{Class}
use Rattle.rules.specs.declared.LineForm.{LineForm}
use Rattle.rules.specs.Base.{flat, has_number}
use Rattle.rules.specs.RefusalNumbers.{got, unless}
use Rattle.rules.specs.RangeClass.{digits}
use Rattle.rules.specs.Lines.{form_in}
use Rattle.rules.specs.Values.{Known, Value, amount_at}
use Rattle.rules.specs.Rows.{Rule, Held, rows_at_limit, Act, stay, entry, begin, shut, refuse, act}
use Rattle.rules.specs.Blocks.{element_table}
use Rattle.rules.specs.Sets.{Layer, Set, with_volume, known_of, elements_of, used_in}
use Rattle.rules.specs.VolumesAndTotals.{counted_here}
use Rattle.rules.specs.Machine.{Line, in_layer, State, top, elements, figures}
use Rattle.rules.proofs.Chains.{clash, nil-snoc, total-more}
use Rattle.tables.specs.Tables.{table_of}
use Rattle.entries.specs.Names.{known_in}
use Rattle.account.specs.declared.Now.{Now}
use Rattle.account.specs.declared.Where.{Where}
use Rattle.account.specs.declared.Step.{Step}
use Rattle.account.specs.declared.Step.TheVariants as S
use Rattle.account.specs.Account.{at_block}
use Rattle.standing.specs.Kept.{Enters}
use Rattle.account.specs.SerialNumbers.{bytes_lent}
use Rattle.standing.specs.Standing.{Numbers, Desk, closed_links, tally_of, Stands, LineHere, Counted, StepOut, links_in}
use Rattle.account.specs.ElementLines.{layer_opened, agrees, element_step, ElementTally, LayersInUse, ElementLine}
use Rattle.standing.proofs.Openers.{is_entry, no-entry}
use Rattle.standing.proofs.Standings.{known, lengths-kept, stands-still}
use Rattle.standing.proofs.Completing.{completed-by, goes-still, goes_entering}
use Rattle.standing.proofs.OpenersKept.{layer-opens}
use Rattle.standing.proofs.EntriesKept.{elements-close}
use Rattle.standing.proofs.UsedLayers.{element-rows, element-full, element-opens, layer-known, used-more}
use Rattle.standing.proofs.ClosedLayers.{closed-serials, closed-tally, closed-used}
use Rattle.standing.proofs.ClosedActs.{acted}

-- the act that the code goes by
abbrev pub element_act : List ℕ → Desk → LineForm → Act
element_act spool d form = act (known_in spool (take (get_or d.tally 9 0) d.symbols) (take (get_or d.tally 10 0) d.layers)) (table_of 10) (digits 0 0) (false ∷ []) (form_in spool form)

-- the same things lent, but for the tally and the layers in use
abbrev pub element_desk : Desk → List ℕ → List Bool → List Bool → Desk
element_desk d t used all = record {
  now = d.now;
  tally = t;
  symbols = d.symbols;
  layers = d.layers;
  serials = d.serials;
  used = used;
  used_all = all;
  marks = d.marks;
  inner = d.inner;
  header = d.header;
  scratch = d.scratch;
}

module _ (c : Class) (spool : List ℕ) (k : ℕ) (FileHere : Desk → Set → ℕ → Held → ℕ → Type 0) (d : Desk) (at to own : ℕ) (l : Line) (w : Where) (form : LineForm)
    (x : LineHere spool k at to form w l) (s : Set) (z : Stands c spool k d (FileHere d) at (elements s)) (y : Counted c own d (elements s)) where
  abbrev st : State
  st = elements s

  abbrev did : Act
  did = act (known_of s) element_table (digits 0 0) (rows_at_limit 0 element_table) l.form

  -- is the definitions' act
  element-act : element_act spool d form ≡ did
  element-act =
      ap (λ (m : Known). act m (table_of 10) (digits 0 0) (false ∷ []) (form_in spool form)) (known c spool k FileHere d at to st st z refl)
      ∙ ap (λ (t : List Rule). act (known_of s) t (digits 0 0) (false ∷ []) (form_in spool form)) element-rows
      ∙ ap (λ (b : List Bool). act (known_of s) element_table (digits 0 0) b (form_in spool form)) element-full
      ∙ ap (act (known_of s) element_table (digits 0 0) (rows_at_limit 0 element_table)) (sym x.is)

  later : at ≤ to
  later = omega (arith, x.bytes)

  abbrev OutOf : List ℕ → List Bool → List Bool → Step → Type 0
  OutOf t used all r = StepOut c spool k FileHere own l to st (element_desk d t used all) r

  -- ── nothing but the place in the spool ──
  on-stay : did ≡ stay → OutOf d.tally d.used d.used_all (S.Go d.now)
  on-stay a =
      goes-still c spool k FileHere own l to st (element_desk d d.tally d.used d.used_all) d.now st (ap (acted _ _ _ _) a) refl refl refl refl
      (stands-still c spool k FileHere d at to st z later d.tally d.marks d.inner d.header d.scratch refl refl refl refl refl)

  -- ── a layer opens ──
  module _ (i j : ℕ) (v : Value) (a : did ≡ begin i j v) where
    abbrev m : ℕ
    m = amount_at v 0

    abbrev used : List ℕ
    used = used_in s.now

    abbrev st' : State
    st' = figures s (in_layer m) []

    few : m < 64
    few = omega (arith, layer-known (known_of s) (digits 0 0) (rows_at_limit 0 element_table) l.form i j v a, names s.drawing.layers, z.few-layers)
      where
        names : (ls : List Layer) → length (map (λ (y : Layer). y.id) ls) ≡ length ls
        names [] = refl
        names (y ∷ ls) = ap suc (names ls)

    known-used : get_or d.used m false ≡ has_number m used
    known-used = z.used refl m few

    -- "14: layer used twice"
    on-twice : get_or d.used m false ≡ true → (t : List ℕ) (us all : List Bool) → OutOf t us all (S.Stop 14)
    on-twice b t us all = ap (acted _ _ _ _) a ∙ ap (λ (y : Bool). unless (not y) 14 (got st')) (sym known-used ∙ b)

    on-begin : get_or d.used m false ≡ false → OutOf d.tally (set d.used m true) (set d.used_all m true) (S.Go (layer_opened d.now m))
    on-begin b =
        let same : links_in s ≡ links_in s ++ [] = sym (append-nil (links_in s)) in
        let opened : Enters c st st' d.scratch = layer-opens c s m d.scratch z.scratch in
        let now : Now = layer_opened d.now m in
        goes_entering c spool k FileHere own l to st (element_desk d d.tally (set d.used m true) (set d.used_all m true)) now st'
        (ap (acted _ _ _ _) a ∙ ap (λ (y : Bool). unless (not y) 14 (got st')) (sym known-used ∙ b)) (completed-by d.now now 7 8 z.block.0 refl) refl refl opened.same
        (record {
          lengths = record {
            symbols = z.lengths.symbols;
            layers = z.lengths.layers;
            serials = z.lengths.serials;
            used = length-set d.used m true ∙ z.lengths.used;
            used_all = length-set d.used_all m true ∙ z.lengths.used_all;
            marks = z.lengths.marks;
            inner = z.lengths.inner;
            header = z.lengths.header;
            scratch = z.lengths.scratch;
          };
          scratch = opened.scratch;
          here = z.here;
          this = z.this;
          tally = z.tally ∙ ap (λ (n : List (List ℕ)). tally_of s z.here (length s.drawing.layers) (length n)) same;
          symbols = z.symbols;
          layers = z.layers;
          few-layers = z.few-layers;
          serials = subst (λ (n : List (List ℕ)). Numbers spool (take (length n) d.serials) n) same z.serials;
          used = λ h n q. used-more d.used used m (omega (arith, few, z.lengths.used)) n (z.used refl n q);
          used_all = λ n q.
              used-more d.used_all (flat (map used_in s.volumes) ++ used) m (omega (arith, few, z.lengths.used_all)) n (z.used_all n q)
              ∙ ap (has_number n) (append_assoc (flat (map used_in s.volumes)) used (m ∷ []));
          counted = omega (arith, z.counted, later);
          named = omega (arith, z.named, later);
          numbered = subst (λ (n : List (List ℕ)). 27 * length n + 3 ≤ to + 3 + bytes_lent (take (length n) d.serials)) same (omega (arith, z.numbered, later));
          block = (refl, (z.block.1, refl, refl, few), refl);
        })

  -- ── its end ──
  agrees-here : agrees d.tally ≡ counted_here s
  agrees-here = ap agrees z.tally ∙ ap (λ (n : ℕ). eqb n (elements_of s.now)) (z.this refl)

  module _ (a : did ≡ shut) where
    abbrev st'' : State
    st'' = top (with_volume s) 4

    -- "17: this_ele at ELEMENT's close"
    on_miscounted : agrees d.tally ≡ false → (t : List ℕ) (us all : List Bool) → OutOf t us all (S.Stop 17)
    on_miscounted b t us all = ap (acted _ _ _ _) a ∙ ap (λ (y : Bool). unless y 17 (got st'')) (sym agrees-here ∙ b)

    on-shut : agrees d.tally ≡ true → OutOf (set d.tally 8 (get_or d.tally 8 0 + get_or d.tally 7 0)) d.used d.used_all (S.Go (at_block d.now 0 4))
    on-shut b =
        let same : links_in s ≡ closed_links (with_volume s) = sym (closed-serials s) in
        let closed : Enters c st st'' d.scratch = elements-close c s d.scratch z.scratch in
        let tally : List ℕ = set d.tally 8 (get_or d.tally 8 0 + get_or d.tally 7 0) in
        let now : Now = at_block d.now 0 4 in
        goes_entering c spool k FileHere own l to st (element_desk d tally d.used d.used_all) now st'' (ap (acted _ _ _ _) a ∙ ap (λ (y : Bool). unless y 17 (got st'')) (sym agrees-here ∙ b))
        (completed-by d.now now 7 0 z.block.0 refl) refl refl closed.same
        (record {
          lengths = lengths-kept d now tally d.marks d.inner d.header d.scratch z.lengths z.lengths.marks z.lengths.inner z.lengths.header z.lengths.scratch;
          scratch = closed.scratch;
          here = z.here;
          this = λ h. clash h refl;
          tally = ap (λ (t : List ℕ). set t 8 (get_or t 8 0 + get_or t 7 0)) z.tally ∙ sym (closed-tally s z.here (length s.drawing.layers));
          symbols = z.symbols;
          layers = z.layers;
          few-layers = z.few-layers;
          serials = subst (λ (n : List (List ℕ)). Numbers spool (take (length n) d.serials) n) same z.serials;
          used = λ h. clash h refl;
          used_all = λ n q. z.used_all n q ∙ ap (has_number n) (closed-used s);
          counted = omega (arith, z.counted, later, total-more elements_of s.volumes s.now);
          named = omega (arith, z.named, later);
          numbered = subst (λ (n : List (List ℕ)). 27 * length n + 3 ≤ to + 3 + bytes_lent (take (length n) d.serials)) same (omega (arith, z.numbered, later));
          block = (refl, refl, (omega (arith, z.block.1, length-append s.volumes (s.now ∷ [])), refl, nil-snoc s.volumes s.now));
        })

  -- ── by what the code promises ──
  module _ (t₁ : List ℕ) (u₁ a₁ : List Bool) where
    abbrev Out : Step → Type 0
    Out r = OutOf t₁ u₁ a₁ r

    come-back : (t : List ℕ) (us all : List Bool) (r : Step) → t₁ ≡ t → u₁ ≡ us → a₁ ≡ all → OutOf t us all r → Out r
    come-back t us all r p q o y =
        subst (λ (n : List ℕ). OutOf n u₁ a₁ r) (sym p) (subst (λ (n : List Bool). OutOf t n a₁ r) (sym q) (subst (λ (n : List Bool). OutOf t us n r) (sym o) y))

    by_use : (i j : ℕ) (v : Value) → did ≡ begin i j v → (b : Bool) → get_or d.used (amount_at v 0) false ≡ b
        → t₁ ≡ d.tally → (get_or d.used (amount_at v 0) false ≡ false → u₁ ≡ set d.used (amount_at v 0) true) → (get_or d.used (amount_at v 0) false ≡ false → a₁ ≡ set d.used_all (amount_at v 0) true)
        → Out (cond b (S.Stop 14) (S.Go (layer_opened d.now (amount_at v 0))))
    by_use i j v a true b p q o = on-twice i j v a b t₁ u₁ a₁
    by_use i j v a false b p q o =
        let n : ℕ = amount_at v 0 in
        come-back d.tally (set d.used n true) (set d.used_all n true) (S.Go (layer_opened d.now n)) p (q b) (o b) (on-begin i j v a b)

    by_count : did ≡ shut → (b : Bool) → agrees d.tally ≡ b → (agrees d.tally ≡ true → t₁ ≡ set d.tally 8 (get_or d.tally 8 0 + get_or d.tally 7 0)) → u₁ ≡ d.used → a₁ ≡ d.used_all
        → Out (cond b (S.Go (at_block d.now 0 4)) (S.Stop 17))
    by_count a true b p q o = come-back (set d.tally 8 (get_or d.tally 8 0 + get_or d.tally 7 0)) d.used d.used_all (S.Go (at_block d.now 0 4)) (p b) q o (on-shut a b)
    by_count a false b p q o = on_miscounted a b t₁ u₁ a₁

    by-act : (y : Act) → did ≡ y → ElementTally d.tally t₁ y → LayersInUse d.used d.used u₁ y → LayersInUse d.used d.used_all a₁ y → Out (element_step d.now d.tally d.used y)
    by-act stay a p q o = come-back d.tally d.used d.used_all (S.Go d.now) p q o (on-stay a)
    by-act (entry j v) a p q o = clash (ap is_entry a) (no-entry (known_of s) element_table (digits 0 0) (rows_at_limit 0 element_table) l.form element-opens)
    by-act (begin i j v) a p q o = by_use i j v a (get_or d.used (amount_at v 0) false) refl p q o
    by-act shut a p q o = by_count a (agrees d.tally) refl p q o
    by-act (refuse n) a p q o = ap (acted _ _ _ _) a

    pub element-line : (r : Step) → ElementLine (element_act spool d form) d.now d.tally t₁ d.used u₁ d.used_all a₁ r → Out r
    element-line r y =
        subst Out (sym (y.answer ∙ ap (element_step d.now d.tally d.used) element-act))
        (by-act did refl (subst (ElementTally d.tally t₁) element-act y.tally) (subst (LayersInUse d.used d.used u₁) element-act y.used)
        (subst (LayersInUse d.used d.used_all a₁) element-act y.all))
