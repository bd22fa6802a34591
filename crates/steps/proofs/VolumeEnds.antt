-- A volume's last line: the set goes on with the next volume, or has ended.
use Prim.Native.Nat.{ℕ, ◌+◌, ◌≤◌}
use mathlib.Core.Bool.{Bool, true, false, cond, ◌&&◌, ◌||◌, not}
use mathlib.Core.List.{List, []}
use mathlib.Core.Path.{◌≡◌, refl, sym, ◌∙◌, ap, subst}
use native.Mathlib.Omega.{arith}
use borrow.Author.Tests.{eqb-true, eq-eqb}
use lib.Dec.{eqb}
use lib.IntN.{ℤ}
use Rattle.rules.specs.declared.Class.{Class}
use Rattle.rules.specs.Base.{is_nil, has_number}
use Rattle.rules.specs.Values.{amount_at}
use Rattle.rules.specs.RefusalNumbers.{Got, got, bad, map_g, also, unless}
use Rattle.rules.specs.Lines.{Form, ignored, wrong, close, eof, keyed}
use Rattle.rules.specs.RangeClass.{digits}
use Rattle.rules.specs.Rows.{Held, rows_at_limit, shut, refuse, complete}
use Rattle.rules.specs.Blocks.{element_table}
use Rattle.rules.specs.Sets.{Set, with_volume, used_in}
use Rattle.rules.specs.VolumesAndTotals.{layers_used, counted_here, counted_all, partners_exist}
use Rattle.rules.specs.Machine.{Line, Env, State, top, file, drawing, layer_names, defines, symbol, hide, elements, figures, successive, texts, placing, skipping, ended, set_of, in_layer, by_act, on_top, on_elements, limited_to, tests_partners}
use Rattle.rules.specs.LineByLine.{step_in, is_ignored, is_close, is_eof, completes, next_volume, step}
use Rattle.rules.proofs.Chains.{clash, never, unless-got, and_left, and_right, or_left}
use Rattle.account.specs.declared.Now.{Now}
use Rattle.account.specs.declared.Step.{Step}
use Rattle.account.specs.declared.Step.TheVariants as S
use Rattle.account.specs.declared.Complete.{Complete}
use Rattle.account.specs.declared.Complete.TheVariants as C
use Rattle.account.specs.Account.{at_block}
use Rattle.account.specs.Putting.{completed, number_for, cleared_by}
use Rattle.account.specs.SkippedLines.{Skips, in_placed, in_wire}
use Rattle.standing.specs.SoFar.{volume_of}
use Rattle.steps.specs.VolumeLines.{next_now, last_step}
use Rattle.standing.specs.Reading.{next_number, next_state, Kept}
use Rattle.standing.specs.Standing.{Desk, Inside, Stands, desk_now, desk_scratch, Made, Goes, Passes}
use Rattle.standing.proofs.Completing.{completed-by, completed-none}
use Rattle.standing.proofs.EntriesKept.{volume-anew}
use Rattle.standing.proofs.KeptLaws.{kept-opens}

-- ── a step that completes a volume ──
-- in the last volume the set has ended, in others the next block would be a volume's first; so many records were taken as before the line
abbrev pub Ends : Bool → ℕ → State → Type 0
Ends true taken st = (s : Set) × (st ≡ ended s) × (s.taken ≡ taken)
Ends false taken st = (s : Set) × (st ≡ top s 4) × (s.taken ≡ taken)

-- a line that opens a skipped block completes none
never_ends : (b : Bool) (taken : ℕ) {inside behind : State} → Skips inside behind → Ends b taken inside → ⊥
never_ends true taken (in_placed s m fs i o) (s', v, e) = absurd (let x : ◌≡◌ {A = ℕ} 0 1 = cc in omega arith)
never_ends false taken (in_placed s m fs i o) (s', v, e) = absurd (let x : ◌≡◌ {A = ℕ} 0 1 = cc in omega arith)
never_ends true taken (in_wire s m fs i x) (s', v, e) = absurd (let x : ◌≡◌ {A = ℕ} 0 1 = cc in omega arith)
never_ends false taken (in_wire s m fs i x) (s', v, e) = absurd (let x : ◌≡◌ {A = ℕ} 0 1 = cc in omega arith)

form-ignored : (f : Form) → is_ignored f ≡ true → f ≡ ignored
form-ignored ignored h = refl
form-ignored (wrong n) h = clash h refl
form-ignored close h = clash h refl
form-ignored eof h = clash h refl
form-ignored (keyed k r) h = clash h refl

form-close : (f : Form) → is_close f ≡ true → f ≡ close
form-close ignored h = clash h refl
form-close (wrong n) h = clash h refl
form-close close h = refl
form-close eof h = clash h refl
form-close (keyed k r) h = clash h refl

form-eof : (f : Form) → is_eof f ≡ true → f ≡ eof
form-eof ignored h = clash h refl
form-eof (wrong n) h = clash h refl
form-eof close h = clash h refl
form-eof eof h = refl
form-eof (keyed k r) h = clash h refl

got_same : {s t : State} → got s ≡ got t → s ≡ t
got_same {s} {t} e = cc

in_block : (b : Bool) (P : Type 0) → cond b false false ≡ true → P
in_block true P h = clash h refl
in_block false P h = clash h refl

module _ (e : Env) (l : Line) where
  top-ends : (s : Set) (m : ℕ) (st : State) (b : Bool) → is_nil l.next ≡ b → cond b (eqb m 4 && is_eof l.form) ((false && is_close l.form) || (eqb m 4 && is_ignored l.form)) ≡ true
      → step_in e l (top s m) ≡ got st → Ends b s.taken st
  top-ends s m st true n h g =
      let f = form-eof l.form (and_right (eqb m 4) _ h) in
      let z : Got State = unless (eqb m 4 && (is_nil l.next && l.last)) 9 (unless (layers_used s) 14 (unless (counted_all s) 17 (unless (not (tests_partners e.class s) || partners_exist s) 21 (got (ended s))))) in
      let q : z ≡ got st = sym (ap (λ (x : Form). on_top e l s m x) f) ∙ g in
      let (a₁, q₁) = unless-got (eqb m 4 && (is_nil l.next && l.last)) 9 _ st q in
      let (a₂, q₂) = unless-got (layers_used s) 14 _ st q₁ in
      let (a₃, q₃) = unless-got (counted_all s) 17 _ st q₂ in
      let (a₄, q₄) = unless-got (not (tests_partners e.class s) || partners_exist s) 21 _ st q₃ in
      (s, sym (got_same q₄), refl)
  top-ends s m st false n h g =
      let f = form-ignored l.form (and_right (eqb m 4) _ h) in
      let q : got (top s m) ≡ got st = sym (ap (λ (x : Form). on_top e l s m x) f) ∙ g in
      (s, sym (got_same q) ∙ ap (top s) (eqb-true m 4 (and_left (eqb m 4) _ h)), refl)

  element-ends : (s : Set) (st : State) (b : Bool) → is_nil l.next ≡ b → cond b (false && is_eof l.form) ((true && is_close l.form) || (false && is_ignored l.form)) ≡ true
      → step_in e l (elements s) ≡ got st → Ends b s.taken st
  element-ends s st true n h g = clash h refl
  element-ends s st false n h g = go (complete (digits 0 0) element_table (rows_at_limit 0 element_table)) refl
    where
      f : l.form ≡ close
      f = form-close l.form (or_left (is_close l.form) false refl h)

      close_by : Bool → Got State
      close_by x =
          by_act (elements s) (λ j v. bad 5) (λ i j v. unless (not (has_number (amount_at v 0) (used_in s.now))) 14 (got (figures s (in_layer (amount_at v 0)) [])))
          (λ u. unless (counted_here s) 17 (got (top (with_volume s) 4))) (cond x shut (refuse 8))

      closed : close_by (complete (digits 0 0) element_table (rows_at_limit 0 element_table)) ≡ got st
      closed = sym (ap (on_elements s) f) ∙ g

      go : (x : Bool) → complete (digits 0 0) element_table (rows_at_limit 0 element_table) ≡ x → Ends false s.taken st
      go true p = let (a₁, q₁) = unless-got (counted_here s) 17 (got (top (with_volume s) 4)) st (sym (ap close_by p) ∙ closed) in (with_volume s, sym (got_same q₁), refl)
      go false p = never (sym (ap close_by p) ∙ closed)

  pub complete-ends : (st st' : State) → completes l st ≡ true → step_in e l st ≡ got st' → Ends (is_nil l.next) (set_of st).taken st'
  complete-ends (top s m) st' h g = top-ends s m st' (is_nil l.next) refl h g
  complete-ends (file s i o p) st' h g = in_block (is_nil l.next) _ h
  complete-ends (drawing s w) st' h g = in_block (is_nil l.next) _ h
  complete-ends (layer_names s w) st' h g = in_block (is_nil l.next) _ h
  complete-ends (defines s x) st' h g = in_block (is_nil l.next) _ h
  complete-ends (symbol s y) st' h g = in_block (is_nil l.next) _ h
  complete-ends (hide s y ps) st' h g = in_block (is_nil l.next) _ h
  complete-ends (elements s) st' h g = element-ends s st' (is_nil l.next) refl h g
  complete-ends (figures s o fs) st' h g = in_block (is_nil l.next) _ h
  complete-ends (successive s o fs i ps) st' h g = in_block (is_nil l.next) _ h
  complete-ends (texts s o fs i w) st' h g = in_block (is_nil l.next) _ h
  complete-ends (placing s m fs i o p) st' h g = in_block (is_nil l.next) _ h
  complete-ends (skipping s m fs i o p) st' h g = in_block (is_nil l.next) _ h
  complete-ends (ended s) st' h g = in_block (is_nil l.next) _ h

-- ── no record is complete there ──
-- the block before such a line: the top level or ELEMENT
data Before (b : ℕ) : Type 0 where
  on-top : b ≡ 0 → Before b
  in-element : b ≡ 7 → Before b

-- and behind it: the top level, or none
data Behind (b : ℕ) : Type 0 where
  top_again : b ≡ 0 → Behind b
  none_more : b ≡ 15 → Behind b

module _ (c : Class) (spool : List ℕ) (k : ℕ) (l : Line) (d : Desk) (F : Set → ℕ → Held → ℕ → Type 0) where
  ending-block : (st : State) → completes l st ≡ true → Inside c spool k d F st → Before d.now.block
  ending-block (top s m) h i = on-top i.0
  ending-block (file s n o p) h i = in_block (is_nil l.next) _ h
  ending-block (drawing s w) h i = in_block (is_nil l.next) _ h
  ending-block (layer_names s w) h i = in_block (is_nil l.next) _ h
  ending-block (defines s x) h i = in_block (is_nil l.next) _ h
  ending-block (symbol s y) h i = in_block (is_nil l.next) _ h
  ending-block (hide s y ps) h i = in_block (is_nil l.next) _ h
  ending-block (elements s) h i = in-element i.0
  ending-block (figures s o fs) h i = in_block (is_nil l.next) _ h
  ending-block (successive s o fs n ps) h i = in_block (is_nil l.next) _ h
  ending-block (texts s o fs n w) h i = in_block (is_nil l.next) _ h
  ending-block (placing s m fs n o p) h i = in_block (is_nil l.next) _ h
  ending-block (skipping s m fs n o p) h i = in_block (is_nil l.next) _ h
  ending-block (ended s) h i = in_block (is_nil l.next) _ h

-- ── after the last line ──
module _ (c : Class) (spool : List ℕ) (k : ℕ) (FileHere : Desk → Set → ℕ → Held → ℕ → Type 0) (limit : ℕ) where
  abbrev env : Env
  env = limited_to c limit

  -- the answer to a line, with the limit
  abbrev pub Judged : ℕ → Line → ℕ → State → Desk → Step → Type 0
  Judged own l to st d (S.Go n) = (x : Goes c spool k FileHere own l to st d n) × (step_in env l st ≡ got x.state) × (n.records ≤ limit)
  Judged own l to st d (S.Skip n) = (x : Passes c spool k FileHere l to st d n) × (step_in env l st ≡ got x.inside)
  Judged own l to st d (S.Stop m) = step_in env l st ≡ bad m

  abbrev Here : Desk → ℕ → ℕ → State → Type 0
  Here d k at st = Stands c spool k d (FileHere d) at st

  -- what a volume's last line made of the reading
  abbrev pub LastOut : Line → ℕ → State → Desk → List ℤ → Step → Type 0
  LastOut l to st d table (S.Go n) =
      (s : Set) × (step env l st ≡ got (next_state (is_nil l.next) s)) × Here (desk_now d n) (next_number (is_nil l.next) k) to (next_state (is_nil l.next) s)
      × Kept c limit table n.records (next_state (is_nil l.next) s)
  LastOut l to st d table (S.Skip n) = ⊥
  LastOut l to st d table (S.Stop n) = step env l st ≡ bad n

  -- ELEMENT closed: the next volume begins
  begun-anew : (d : Desk) (n : Now) (to : ℕ) (s : Set) → Here (desk_now d n) k to (top s 4) → Here (desk_now d (next_now n)) (k + 1) to (top s 0)
  begun-anew d n to s z = subst (λ (x : Now). Here (desk_now d x) (k + 1) to (top s 0)) (sym (ap (λ (b : Bool). cond b (at_block n 0 0) n) (eq-eqb n.block 0 z.block.0))) (record {
    lengths = record {
      symbols = z.lengths.symbols;
      layers = z.lengths.layers;
      serials = z.lengths.serials;
      used = z.lengths.used;
      used_all = z.lengths.used_all;
      marks = z.lengths.marks;
      inner = z.lengths.inner;
      header = z.lengths.header;
      scratch = z.lengths.scratch;
    };
    scratch = (volume-anew c s d.scratch z.scratch).scratch;
    here = z.here;
    this = λ h. clash h refl;
    tally = z.tally;
    symbols = z.symbols;
    layers = z.layers;
    few-layers = z.few-layers;
    serials = z.serials;
    used = λ h. clash h refl;
    used_all = z.used_all;
    counted = z.counted;
    named = z.named;
    numbered = z.numbered;
    block = (refl, refl, (up, λ h. clash h z.block.2.2));
  })
    where
      up : k + 1 ≡ volume_of s
      up = omega (arith, z.block.2.0)

  kept-anew : (table : List ℤ) (records : ℕ) (s : Set) → Kept c limit table records (top s 4) → Kept c limit table records (top s 0)
  kept-anew table records s x = record { taken = x.taken; fits = x.fits; size = x.size; laid = x.laid }

  -- the next volume's beginning says nothing of the records
  next-records : (n : Now) → n.records ≡ (next_now n).records
  next-records n = by (eqb n.block 0)
    where
      by : (b : Bool) → n.records ≡ (cond b (at_block n 0 0) n).records
      by true = refl
      by false = refl

  -- EOF
  last-ended : (d : Desk) (n : Now) (to : ℕ) (s : Set) → Here (desk_now d n) k to (ended s) → Here (desk_now d (next_now n)) k to (ended s)
  last-ended d n to s z = subst (λ (x : Now). Here (desk_now d x) k to (ended s)) (sym (ap (λ (m : ℕ). cond (eqb m 0) (at_block n 0 0) n) z.block)) z

  gone : (d : Desk) (n : Now) (to taken : ℕ) (table : List ℤ) (st : State) (b : Bool) → Ends b taken st → Here (desk_now d n) k to st → Kept c limit table n.records st
      → (s : Set) × (next_volume st ≡ next_state b s) × Here (desk_now d (next_now n)) (next_number b k) to (next_state b s) × Kept c limit table (next_now n).records (next_state b s)
  gone d n to taken table st true (s, q, e) z x =
      (s, ap next_volume q, last-ended d n to s (subst (Here (desk_now d n) k to) q z), subst (λ (i : ℕ). Kept c limit table i (ended s)) (next-records n) (subst (Kept c limit table n.records) q x))
  gone d n to taken table st false (s, q, e) z x = (
    s,
    ap next_volume q,
    begun-anew d n to s (subst (Here (desk_now d n) k to) q z),
    subst (λ (i : ℕ). Kept c limit table i (top s 0)) (next-records n) (kept-anew table n.records s (subst (Kept c limit table n.records) q x)),
  )

  module _ (number : ℕ) (l : Line) (to : ℕ) (st : State) (d was : Desk) (table : List ℤ) (h : l.last ≡ true) (same : was.now ≡ d.now) (inside : Inside c spool k d (FileHere d) st)
      (kept : Kept c limit table d.now.records st) where
    abbrev lastly : Bool → Got State → Got State
    lastly b g = map_g next_volume (also b 9 g)

    as-last : (b : Bool) (g : Got State) → completes l st ≡ b → step_in env l st ≡ g → step env l st ≡ lastly b g
    as-last b g p q =
        ap (λ (x : Bool). cond x (lastly (completes l st) (step_in env l st)) (step_in env l st)) h ∙ ap (λ (x : Bool). lastly x (step_in env l st)) p ∙ ap (lastly b) q

    -- a line that completes the volume makes no record complete
    module _ (p : completes l st ≡ true) (n : Now) (x : Goes c spool k FileHere number l to st was n) (q : step_in env l st ≡ got x.state) where
      ends : Ends (is_nil l.next) (set_of st).taken x.state
      ends = complete-ends env l st x.state p q

      none-taken : (b : Bool) → Ends b (set_of st).taken x.state → n.records ≡ was.now.records
      none-taken true (s, v, e) = omega (arith, x.records, x.taken, ap (λ (y : State). (set_of y).taken) v, e)
      none-taken false (s, v, e) = omega (arith, x.records, x.taken, ap (λ (y : State). (set_of y).taken) v, e)

      behind-block : (b : Bool) → Ends b (set_of st).taken x.state → Behind n.block
      behind-block true (s, v, e) = none_more (subst (Here (desk_now (desk_scratch was (cleared_by (completed was.now n) was.scratch)) n) k to) v x.stands).block
      behind-block false (s, v, e) = top_again (subst (Here (desk_now (desk_scratch was (cleared_by (completed was.now n) was.scratch)) n) k to) v x.stands).block.0

      nothing : completed was.now n ≡ C.Nothing
      nothing = by (ending-block c spool k l d (FileHere d) st p inside) (behind-block (is_nil l.next) ends)
        where
          from : (b : ℕ) → d.now.block ≡ b → was.now.block ≡ b
          from b e = ap (λ (y : Now). y.block) same ∙ e

          by : Before d.now.block → Behind n.block → completed was.now n ≡ C.Nothing
          by (on-top e) (top_again b) = completed-none was.now n (from 0 e ∙ sym b) (sym (none-taken (is_nil l.next) ends))
          by (on-top e) (none_more b) = completed-by was.now n 0 15 (from 0 e) b
          by (in-element e) (top_again b) = completed-by was.now n 7 0 (from 7 e) b
          by (in-element e) (none_more b) = completed-by was.now n 7 15 (from 7 e) b

      stands-now : Here (desk_now was n) k to x.state
      stands-now = subst (λ (y : Complete). Here (desk_now (desk_scratch was (cleared_by y was.scratch)) n) k to x.state) nothing x.stands

      kept-now : n.records ≤ limit → Kept c limit table n.records x.state
      kept-now f =
          let up : n.records ≡ d.now.records + x.more = x.records ∙ ap (λ (y : Now). y.records + x.more) same in
          subst (λ (i : ℕ). Kept c limit table i x.state) (sym up)
          (kept-opens c limit table d.now.records x.more st x.state kept (x.taken ∙ ap (λ (i : ℕ). i + x.more) kept.taken) (omega (arith, f, up))
          (subst (Made c st x.state x.more (number_for was.now n number) was.scratch was.header) nothing x.made))

    pub last_out : (b : Bool) → completes l st ≡ b → (r : Step) → Judged number l to st was r → LastOut l to st was table (last_step b r)
    last_out true p (S.Go n) (x, q, f) =
        let (s, v, y, w) = gone was n to (set_of st).taken table x.state (is_nil l.next) (ends p n x q) (stands-now p n x q) (kept-now p n x q f) in
        (s, as-last true (got x.state) p q ∙ ap got v, y, w)
    last_out false p (S.Go n) (x, q, f) = as-last false (got x.state) p q
    last_out true p (S.Skip n) (x, q) = absurd (never_ends (is_nil l.next) (set_of st).taken x.skips (complete-ends env l st x.inside p q))
    last_out false p (S.Skip n) (x, q) = as-last false (got x.inside) p q
    last_out true p (S.Stop n) q = as-last true (bad n) p q
    last_out false p (S.Stop n) q = as-last false (bad n) p q
