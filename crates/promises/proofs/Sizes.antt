-- The lines of a spool by their texts: which volume's they are, how long, and that no volume of an accepted set is empty.
use Rattle.std.specs.Prelude.{Option, Some, None}
use Prim.Native.Nat.{ℕ, suc, ◌+◌}
use mathlib.Core.Bool.{Bool, true, false, cond, ◌&&◌, ◌||◌, not}
use mathlib.Core.List.{List, [], ◌∷◌, ◌++◌, map}
use mathlib.Core.Path.{◌≡◌, refl, sym, ◌∙◌, ap}
use native.Mathlib.Omega.{arith}
use lib.Dec.{eqb, leb}
use lib.ListN.{length, length-append}
use borrow.Author.Tests.{not-true, leb-true}
use Rattle.rules.specs.Base.{is_nil, all, total, has_number}
use Rattle.rules.specs.RefusalNumbers.{Got, got, bad, unless, map_g, also}
use Rattle.rules.specs.Spool.{Volume, lines_of, unlines, most_in_line}
use Rattle.rules.specs.Lines.{Form, ignored, wrong, close, eof, keyed, form_of}
use Rattle.rules.specs.RangeClass.{digits}
use Rattle.rules.specs.Values.{amount_at}
use Rattle.rules.specs.Rows.{complete, rows_at_limit, shut, refuse}
use Rattle.rules.specs.Blocks.{element_table}
use Rattle.rules.specs.Sets.{Set, with_volume, used_in}
use Rattle.rules.specs.VolumesAndTotals.{counted_here}
use Rattle.rules.specs.Machine.{Line, Env, by_act, in_layer, State, top, file, drawing, layer_names, defines, symbol, hide, elements, figures, successive, texts, placing, skipping, ended, on_top, on_elements}
use Rattle.rules.specs.LineByLine.{step_in, in_elements, after_elements, is_ignored, is_close, is_eof, completes, next_volume, step, accepted, then_run, run}
use Rattle.rules.specs.FixedForm.{Text}
use Rattle.rules.specs.Answers.{numbered, lines_of_volume, next_name, Listed, listed, no_lines, list_volume, list_volumes}
use Rattle.rules.proofs.Runs.{not-accepted}
use Rattle.rules.proofs.Chains.{and_left, and_right, clash, never, unless-got, map-got, also-got, total-append, cond_true}
use Rattle.promises.proofs.Forms.{Told, form-tells}
use Rattle.promises.proofs.Frame.{lines_inv}
use Rattle.promises.proofs.Weights.{weigh}

-- ── the listing by texts ──
-- the lines of the volumes from number k on, whose texts these are
abbrev pub listing : ℕ → List Volume → List Text → List Line
listing k [] ts = []
listing k (v ∷ vs) [] = []
listing k (v ∷ vs) (t ∷ ts) = lines_of_volume k (next_name vs) v.place t ++ listing (suc k) vs ts

-- each volume's text
abbrev pub Texts : List Volume → List Text → Type 0
Texts [] [] = Unit {0}
Texts [] (t ∷ ts) = ⊥
Texts (v ∷ vs) [] = ⊥
Texts (v ∷ vs) (t ∷ ts) = (lines_of v.body ≡ Some t) × Texts vs ts

listed-eq : {a b : List Line} → listed a ≡ listed b → a ≡ b
listed-eq e = cc

no-listed : {P : Type 0} {v : ℕ} {ls : List Line} → no_lines v ≡ listed ls → P
no-listed e = absurd (let z : ◌≡◌ {A = ℕ} 0 1 = cc in omega arith)

pub record Listing (k : ℕ) (vs : List Volume) (ls : List Line) : Type 0 where
  pub texts : List Text
  pub theirs : Texts vs texts
  pub are : ls ≡ listing k vs texts

pub listing_inv : (k : ℕ) (vs : List Volume) (ls : List Line) → list_volumes k vs ≡ listed ls → Listing k vs ls
listing_inv k [] ls e = record { texts = []; theirs = tt; are = sym (listed-eq e) }
listing_inv k (v ∷ vs) ls e = go (lines_of v.body) refl (list_volumes (suc k) vs) refl (listing_inv (suc k) vs) e
  where
    go : (o : Option Text) → lines_of v.body ≡ o → (r : Listed) → list_volumes (suc k) vs ≡ r → ((rest : List Line) → list_volumes (suc k) vs ≡ listed rest → Listing (suc k) vs rest)
        → list_volume k v vs o r ≡ listed ls → Listing k (v ∷ vs) ls
    go None p r q ih e = no-listed e
    go (Some t) p (no_lines w) q ih e = no-listed e
    go (Some t) p (listed rest) q ih e =
        let i = ih rest q in
        record { texts = t ∷ i.texts; theirs = (p, i.theirs); are = sym (listed-eq e) ∙ ap (λ r. lines_of_volume k (next_name vs) v.place t ++ r) i.are }

pub listing_of : (k : ℕ) (vs : List Volume) (ts : List Text) → Texts vs ts → list_volumes k vs ≡ listed (listing k vs ts)
listing_of k [] [] h = refl
listing_of k [] (t ∷ ts) h = absurd h
listing_of k (v ∷ vs) [] h = absurd h
listing_of k (v ∷ vs) (t ∷ ts) h = rw (h.0, listing_of (suc k) vs ts h.1)

-- ── names that follow ──
abbrev pub nexts_of_volumes : List Volume → List (List ℕ)
nexts_of_volumes [] = []
nexts_of_volumes (v ∷ vs) = next_name vs ∷ nexts_of_volumes vs

-- ── a volume's end ──
-- through the last line of a volume that is not the last, the next volume begins
volume-ends : (e : Env) (l : Line) (s s' : State) → l.last ≡ true → is_nil l.next ≡ false → step e l s ≡ got s' → (t : Set) × (s' ≡ top t 0)
volume-ends e l s s' p q h =
    let (u, a, b) = map-got next_volume (also (completes l s) 9 (step_in e l s)) s' (cond_true l.last (map_g next_volume (also (completes l s) 9 (step_in e l s))) (step_in e l s) (got s') p h) in
    let (c, d) = also-got (completes l s) 9 (step_in e l s) u a in
    let (t, z) = ends s u (other (is_nil l.next) (after_elements s && is_eof l.form) ((in_elements s && is_close l.form) || (after_elements s && is_ignored l.form)) true q c) d in
    (t, sym b ∙ z)
  where
    other : {A : Type 0} (b : Bool) (x y z : A) → b ≡ false → cond b x y ≡ z → y ≡ z
    other true x y z p e = clash refl p
    other false x y z p e = e

    at_top : (s : Set) (k : ℕ) (u : State) (f : Form) → (eqb k 4 && is_ignored f) ≡ true → on_top e l s k f ≡ got u → (t : Set) × (next_volume u ≡ top t 0)
    at_top s k u ignored c d = (s, let z : top s k ≡ u = cc in ap next_volume (sym z))
    at_top s k u (wrong n) c d = clash (and_right (eqb k 4) _ c) refl
    at_top s k u close c d = clash (and_right (eqb k 4) _ c) refl
    at_top s k u eof c d = clash (and_right (eqb k 4) _ c) refl
    at_top s k u (keyed y x) c d = clash (and_right (eqb k 4) _ c) refl

    at-elements : (s : Set) (u : State) (f : Form) → (is_close f || false) ≡ true → on_elements s f ≡ got u → (t : Set) × (next_volume u ≡ top t 0)
    at-elements s u ignored c d = clash c refl
    at-elements s u (wrong n) c d = clash c refl
    at-elements s u close c d = closes (complete (digits 0 0) element_table (rows_at_limit 0 element_table)) d
      where
        closes : (b : Bool) → by_act (elements s) (λ j v. bad 5)
            (λ i j v. unless (not (has_number (amount_at v 0) (used_in s.now))) 14 (got (figures s (in_layer (amount_at v 0)) [])))
            (λ _. unless (counted_here s) 17 (got (top (with_volume s) 4))) (cond b shut (refuse 8)) ≡ got u → (t : Set) × (next_volume u ≡ top t 0)
        closes true d = let w = unless-got (counted_here s) 17 (got (top (with_volume s) 4)) u d in (with_volume s, let z : top (with_volume s) 4 ≡ u = cc in ap next_volume (sym z))
        closes false d = never d
    at-elements s u eof c d = clash c refl
    at-elements s u (keyed y x) c d = clash c refl

    ends : (s u : State) → ((in_elements s && is_close l.form) || (after_elements s && is_ignored l.form)) ≡ true → step_in e l s ≡ got u → (t : Set) × (next_volume u ≡ top t 0)
    ends (top s k) u c d = at_top s k u l.form c d
    ends (file s n h p) u c d = clash c refl
    ends (drawing s v) u c d = clash c refl
    ends (layer_names s v) u c d = clash c refl
    ends (defines s b) u c d = clash c refl
    ends (symbol s y) u c d = clash c refl
    ends (hide s y ps) u c d = clash c refl
    ends (elements s) u c d = at-elements s u l.form c d
    ends (figures s h fs) u c d = clash c refl
    ends (successive s h fs n ps) u c d = clash c refl
    ends (texts s h fs n o) u c d = clash c refl
    ends (placing s k fs n o p) u c d = clash c refl
    ends (skipping s k fs n o w) u c d = clash c refl
    ends (ended s) u c d = clash c refl

-- ── no volume is empty ──
-- a volume with no line, at its turn, is refused
empty-refused : {P : Type 0} (e : Env) (k : ℕ) (next : List ℕ) (s : Set) (more : List Line) (u : Set)
    → run e (top s 0) (record { volume = k; line = 0; last = true; next = next; form = ignored } ∷ more) ≡ accepted u → P
empty-refused e k [] s more u h = not-accepted h
empty-refused e k (b ∷ next) s more u h = not-accepted h

-- the lines of a volume lead to the next volume's beginning
volume-run : (e : Env) (k : ℕ) (next : List ℕ) → is_nil next ≡ false → (n at : ℕ) (l : List ℕ) (ls : Text) (more : List Line) (st : State) (u : Set)
    → run e st (numbered k next n at (l ∷ ls) ++ more) ≡ accepted u → (s : Set) × (run e (top s 0) more ≡ accepted u)
volume-run e k next p n at l [] more st u h = go (step e line st) refl h
  where
    line : Line
    line = record { volume = k; line = n; last = true; next = next; form = form_of at l }

    go : (g : Got State) → step e line st ≡ g → then_run g line (λ s'. run e s' more) ≡ accepted u → (s : Set) × (run e (top s 0) more ≡ accepted u)
    go (got s') q h = let (t, z) = volume-ends e line st s' refl p q in (t, ap (λ s. run e s more) (sym z) ∙ h)
    go (bad j) q h = not-accepted h
volume-run e k next p n at l (m ∷ ls) more st u h = go (step e line st) (λ s'. volume-run e k next p (suc n) (at + length l + 2) m ls more s' u) h
  where
    line : Line
    line = record { volume = k; line = n; last = false; next = next; form = form_of at l }

    go : (g : Got State) → ((s' : State) → run e s' (numbered k next (suc n) (at + length l + 2) (m ∷ ls) ++ more) ≡ accepted u → (s : Set) × (run e (top s 0) more ≡ accepted u))
        → then_run g line (λ s'. run e s' (numbered k next (suc n) (at + length l + 2) (m ∷ ls) ++ more)) ≡ accepted u → (s : Set) × (run e (top s 0) more ≡ accepted u)
    go (got s') ih h = ih s' h
    go (bad j) ih h = not-accepted h

abbrev pub some_lines : Text → Bool
some_lines t = not (is_nil t)

pub none-empty : (e : Env) (k : ℕ) (vs : List Volume) (ts : List Text) → Texts vs ts → all (λ v. not (is_nil v.name)) vs ≡ true → (s : Set) (u : Set)
    → run e (top s 0) (listing k vs ts) ≡ accepted u → all some_lines ts ≡ true
none-empty e k [] [] h a s u r = refl
none-empty e k [] (t ∷ ts) h a s u r = absurd h
none-empty e k (v ∷ vs) [] h a s u r = absurd h
none-empty e k (v ∷ vs) ([] ∷ ts) h a s u r = empty-refused e k (next_name vs) s (listing (suc k) vs ts) u r
none-empty e k (v ∷ []) ((l ∷ ls) ∷ []) h a s u r = refl
none-empty e k (v ∷ []) ((l ∷ ls) ∷ t ∷ ts) h a s u r = absurd h.1
none-empty e k (v ∷ w ∷ vs) ((l ∷ ls) ∷ ts) h a s u r =
    let b = and_right (not (is_nil v.name)) _ a in
    let (s', q) = volume-run e k w.name (not-true (is_nil w.name) (and_left (not (is_nil w.name)) _ b)) 1 v.place l ls (listing (suc k) (w ∷ vs) ts) (top s 0) u r in
    none-empty e (suc k) (w ∷ vs) ts h.1 b s' u q

-- ── how long they are ──
pub unlines-length : (t : Text) → length (unlines t) ≡ weigh t + 1
unlines-length [] = refl
unlines-length (l ∷ t) = length-append l (13 ∷ 10 ∷ unlines t) ∙ omega (arith, unlines-length t)

-- the lengths of all lines
abbrev pub sizes : List Text → List ℕ
sizes [] = []
sizes (t ∷ ts) = map length t ++ sizes ts

text-weight : (t : Text) → total (λ n. n + 2) (map length t) ≡ weigh t
text-weight [] = refl
text-weight (l ∷ t) = let e = text-weight t in omega arith

pub sizes-weight : (ts : List Text) → total (λ n. n + 2) (sizes ts) ≡ total weigh ts
sizes-weight [] = refl
sizes-weight (t ∷ ts) = let a = total-append (λ n. n + 2) (map length t) (sizes ts) in let b = text-weight t in let c = sizes-weight ts in omega arith

-- a spool's volumes, by the weight of their texts: each has twelve bytes before it and one behind its lines
pub volumes-weight : (vs : List Volume) (ts : List Text) → Texts vs ts → total (λ v. 12 + length v.body) vs ≡ total (λ t. 13 + weigh t) ts
volumes-weight [] [] h = refl
volumes-weight [] (t ∷ ts) h = absurd h
volumes-weight (v ∷ vs) [] h = absurd h
volumes-weight (v ∷ vs) (t ∷ ts) h =
    let a = ap length (lines_inv v.body t h.0).0 in
    let b = unlines-length t in
    let c = volumes-weight vs ts h.1 in
    omega arith

-- lines with the lengths of their texts
abbrev pub Tolds : List Line → List ℕ → Type 0
Tolds [] [] = Unit {0}
Tolds [] (n ∷ ns) = ⊥
Tolds (l ∷ ls) [] = ⊥
Tolds (l ∷ ls) (n ∷ ns) = Told n l.form × Tolds ls ns

numbered-told : (k : ℕ) (next : List ℕ) (n at : ℕ) (t : Text) → all (λ l. leb (length l) most_in_line) t ≡ true → (more : List Line) (ns : List ℕ) → Tolds more ns
    → Tolds (numbered k next n at t ++ more) (map length t ++ ns)
numbered-told k next n at [] a more ns h = h
numbered-told k next n at (l ∷ t) a more ns h =
    ((form-tells at l, leb-true (length l) 512 (and_left (leb (length l) most_in_line) _ a)), numbered-told k next (suc n) (at + length l + 2) t (and_right (leb (length l) most_in_line) _ a) more ns h)

pub listing-told : (k : ℕ) (vs : List Volume) (ts : List Text) → Texts vs ts → all some_lines ts ≡ true → Tolds (listing k vs ts) (sizes ts)
listing-told k [] [] h a = tt
listing-told k [] (t ∷ ts) h a = absurd h
listing-told k (v ∷ vs) [] h a = absurd h
listing-told k (v ∷ vs) ([] ∷ ts) h a = clash a refl
listing-told k (v ∷ vs) ((l ∷ t) ∷ ts) h a =
    numbered-told k (next_name vs) 1 v.place (l ∷ t) (lines_inv v.body (l ∷ t) h.0).1 (listing (suc k) vs ts) (sizes ts) (listing-told (suc k) vs ts h.1 a)
