-- Every refusal of the reading has a number from 1 to 19 or 21, from 4 at a line, 1 to 3 before, and a volume of the spool where it has one.
use Rattle.std.specs.Prelude.{Option, Some, None}
use Prim.Native.Nat.{ℕ, zero, suc, ◌+◌, ◌≤◌}
use mathlib.Core.Bool.{Bool, true, false}
use mathlib.Core.List.{List, [], ◌∷◌, ◌++◌}
use mathlib.Core.Path.{◌≡◌, refl, sym, subst}
use native.Mathlib.Omega.{arith}
use lib.Dec.{eqb}
use lib.ListN.{length}
use borrow.Author.Tests.{ne_eqb, not-true}
use Rattle.rules.specs.declared.Class.{Class}
use Rattle.rules.specs.Base.{choose, bytes, is_nil, same}
use Rattle.rules.specs.RefusalNumbers.{Got, got, bad}
use Rattle.rules.specs.Lines.{Rest, Form, ignored, Scan, neither, at_equal, at_brace, with_key, form_from, form_of_rest, form_of, unindent, allowed, scan, brace, Shape, opener, no_content, content, opening, formless}
use Rattle.rules.specs.RangeClass.{digits, both, Skip, passes, deeper, no_form}
use Rattle.rules.specs.Rows.{Found, absent, found, find, Slots, Held, part_of, rows_there, rows_at_limit, Act}
use Rattle.rules.specs.Blocks.{top_table}
use Rattle.rules.specs.Figures.{placed_table, wire_table}
use Rattle.rules.specs.Sets.{Point, Wire, Figure, Drawing, Symbol, Set, nothing_yet, range_of, wires_of, known_of}
use Rattle.rules.specs.Machine.{Line, Env, Home, in_element, in_layer, State, top, file, drawing, layer_names, defines, symbol, hide, elements, figures, successive, texts, placing, skipping, ended, open_top, on_top, shut_part, on_file, on_drawing, layer_value, on_layer_names, open_symbol, on_symbol, on_defines, on_hide, on_elements, close_figures, open_placed, open_figure, on_figures, on_successive, on_texts}
use Rattle.rules.specs.PlacedSymbol.{by_skip, on_unknown, on_placed, on_placed_key, on_placed_own, on_placing, unread_shut, skip_shut, on_skipping}
use Rattle.rules.specs.LineByLine.{step_in, step, Outcome, refused, accepted, then_run, finish, run}
use Rattle.rules.specs.Spool.{Volume, volumes_of, lines_of, most_volumes}
use Rattle.rules.specs.Answers.{numbered, lines_of_volume, next_name, Listed, listed, no_lines, onto_lines, list_volume, list_volumes, outcome_of_lines, outcome_of_volumes, outcome_of, outcome_at}
use Rattle.rules.specs.Machine.{symbol_block, wire_block, wire_unread, Owned, open_wire}
use Rattle.rules.specs.Wires.{on_wire_act, on_wire_unknown, on_wire_key, on_wire}
use Rattle.rules.proofs.Chains.{and_left, and_right, clash, by_cond}
use Rattle.rules.proofs.Runs.{not-accepted}
use Rattle.promises.specs.DemandOne.{of_whole, by_reader, last_number, Located}
use Rattle.promises.proofs.Frame.{volumes_inv}
use Rattle.promises.proofs.LowerRun.{last-ends, proper}
use Rattle.promises.proofs.Listing.{Among, Within, listing-within, lines-proper}
use Rattle.promises.proofs.FineActs.{at-line, Fine, fine-cond, fines, fine-kind, FineAct, FineForm, fine-row, fine-unknown, fine-act, fine-by_act, answers, refuses, passed, broken, closing, ending, keying}

-- ── the contexts ──
fine-shut : (p : ℕ) (whole : Got State) (back : ℕ → State) → Fine whole → Fine (shut_part p whole back)
fine-shut zero whole back w = w
fine-shut (suc p) whole back w = answers

fine_skip : (k : Skip) (st inside : Got State) → Fine st → Fine inside → Fine (by_skip k st inside)
fine_skip passes st inside p q = p
fine_skip deeper st inside p q = q
fine_skip no_form st inside p q = refuses 5 tt

ruleset steps = (fines, fine-by_act, fine-shut, fine_skip, fine-act, fine-unknown, fine-row)

module _ (e : Env) (l : Line) where
  fine_open : (s : Set) (k : ℕ) → Fine (open_top e l s k)
  fine_open s zero = search fines
  fine_open s (suc zero) = search fines
  fine_open s (suc (suc zero)) = answers
  fine_open s (suc (suc (suc k))) = answers

  fine-top : (s : Set) (k : ℕ) {f : Form} → FineForm f → Fine (on_top e l s k f)
  fine-top s k passed = answers
  fine-top s k (broken n h) = refuses n h
  fine-top s k closing = refuses 9 tt
  fine-top s k ending = search fines
  fine-top s k (keying {k = key} {c = c}) = let w = fine-act (known_of s) top_table (digits 0 0) (rows_at_limit 0 top_table) (keying {k = key} {c = c}) in search (steps, fine_open)

  fine-file : (s : Set) (n : ℕ) (h : Held) (p : ℕ) {f : Form} → FineForm f → Fine (on_file l s n h p f)
  fine-file s n h p w = search steps

  fine-drawing : (s : Set) (d : Drawing) {f : Form} → FineForm f → Fine (on_drawing s d f)
  fine-drawing s d w = search steps

  fine-layer-value : (k : List ℕ) (s : Shape) → Fine (layer_value k s)
  fine-layer-value k opener = refuses 5 tt
  fine-layer-value k no_content = answers
  fine-layer-value k (content at c) = search fine-kind
  fine-layer-value k (opening at c) = refuses 5 tt
  fine-layer-value k formless = refuses 5 tt

  fine-layers : (s : Set) (d : Drawing) {f : Form} → FineForm f → Fine (on_layer_names e l s d f)
  fine-layers s d passed = answers
  fine-layers s d (broken n h) = refuses n h
  fine-layers s d closing = answers
  fine-layers s d ending = refuses 9 tt
  fine-layers s d keying = search (fines, fine-layer-value) depth 8

  fine-defines : (s : Set) (b : Bool) {f : Form} → FineForm f → Fine (on_defines e l s b f)
  fine-defines s b w = search steps

  fine_open-symbol : (s : Set) (y : Symbol) (i : ℕ) → Fine (open_symbol s y i)
  fine_open-symbol s y zero = refuses 5 tt
  fine_open-symbol s y (suc zero) = answers
  fine_open-symbol s y (suc (suc i)) = answers

  fine-symbol : (s : Set) (y : Symbol) {f : Form} → FineForm f → Fine (on_symbol s y f)
  fine-symbol s y w = search (steps, fine_open-symbol)

  fine-hide : (s : Set) (y : Symbol) (ps : List Point) {f : Form} → FineForm f → Fine (on_hide e l s y ps f)
  fine-hide s y ps w = search steps

  fine-elements : (s : Set) {f : Form} → FineForm f → Fine (on_elements s f)
  fine-elements s w = search steps

  fine-close-figures : (s : Set) (h : Home) (fs : List Figure) → Fine (close_figures s h fs)
  fine-close-figures s (in_element y) fs = search fines
  fine-close-figures s (in_layer k) fs = answers

  fine_open-placed : (s : Set) (h : Home) (fs : List Figure) → Fine (open_placed e l s h fs)
  fine_open-placed s (in_element y) fs = refuses 6 tt
  fine_open-placed s (in_layer k) fs = search fines

  fine_open-wire : (s : Set) (h : Home) (fs : List Figure) → Fine (open_wire e l s h fs)
  fine_open-wire s (in_element y) fs = refuses 6 tt
  fine_open-wire s (in_layer k) fs = search fines

  fine_open-figure : (s : Set) (h : Home) (fs : List Figure) (i : ℕ) → Fine (open_figure e l s h fs i)
  fine_open-figure s h fs zero = refuses 5 tt
  fine_open-figure s h fs (suc zero) = search fines
  fine_open-figure s h fs (suc (suc zero)) = search fines
  fine_open-figure s h fs (suc (suc (suc zero))) = fine_open-placed s h fs
  fine_open-figure s h fs (suc (suc (suc (suc i)))) = fine_open-wire s h fs

  fine-figures : (s : Set) (h : Home) (fs : List Figure) {f : Form} → FineForm f → Fine (on_figures e l s h fs f)
  fine-figures s h fs w = search (steps, fine-close-figures, fine_open-figure)

  fine-successive : (s : Set) (h : Home) (fs : List Figure) (n : ℕ) (ps : List Point) {f : Form} → FineForm f → Fine (on_successive e l s h fs n ps f)
  fine-successive s h fs n ps w = search steps

  fine-texts : (s : Set) (h : Home) (fs : List Figure) (n : ℕ) (o : Slots) {f : Form} → FineForm f → Fine (on_texts s h fs n o f)
  fine-texts s h fs n o w = search steps

  fine-placed : (s : Set) (k : ℕ) (fs : List Figure) (n : ℕ) (o : Held) (p : ℕ) {a : Act} → FineAct a → Fine (on_placed s k fs n o p a)
  fine-placed s k fs n o p w = search steps

  fine-not-known : (s : Set) (k : ℕ) (fs : List Figure) (n : ℕ) (o : Held) (key : List ℕ) (c : Rest) → Fine (on_unknown e s k fs n o key c)
  fine-not-known s k fs n o key c = search steps

  fine-key : (s : Set) (k : ℕ) (fs : List Figure) (n : ℕ) (o : Held) (key : List ℕ) (c : Rest) (f : Found) → Fine (on_placed_key e s k fs n o key c f)
  fine-key s k fs n o key c absent = fine-not-known s k fs n o key c
  fine-key s k fs n o key c (found j r) = search (fine-cond, fine-placed, fine-row, fine-not-known)

  fine-own : (s : Set) (k : ℕ) (fs : List Figure) (n : ℕ) (o : Held) {f : Form} → FineForm f → Fine (on_placed_own e s k fs n o f)
  fine-own s k fs n o passed = answers
  fine-own s k fs n o (broken m h) = refuses m h
  fine-own s k fs n o closing = fine-placed s k fs n o 0 (fine-act (known_of s) placed_table (both e.class.symbols (range_of s)) (rows_there (part_of o 0)) closing)
  fine-own s k fs n o ending = refuses 9 tt
  fine-own s k fs n o (keying {k = key} {c = c}) = fine-key s k fs n o key c (find key placed_table)

  fine-placing : (s : Set) (k : ℕ) (fs : List Figure) (n : ℕ) (o : Held) (p : ℕ) {f : Form} → FineForm f → Fine (on_placing e s k fs n o p f)
  fine-placing s k fs n o zero w = fine-own s k fs n o w
  fine-placing s k fs n o (suc p) w = search (fine-placed, fine-act)

  fine-wire-act : (s : Set) (k : ℕ) (fs : List Figure) (n : ℕ) (w : Wire) {a : Act} → FineAct a → Fine (on_wire_act e l s k fs n w a)
  fine-wire-act s k fs n w v = search steps depth 8

  fine-wire-unknown : (s : Set) (k : ℕ) (fs : List Figure) (n : ℕ) (w : Wire) (key : List ℕ) (c : Rest) → Fine (on_wire_unknown e l s k fs n w key c)
  fine-wire-unknown s k fs n w key c = search (fines, fine_skip, fine-wire-act, fine-unknown)

  fine-wire-key : (s : Set) (k : ℕ) (fs : List Figure) (n : ℕ) (w : Wire) (key : List ℕ) (c : Rest) (f : Found) → Fine (on_wire_key e l s k fs n w key c f)
  fine-wire-key s k fs n w key c absent = fine-wire-unknown s k fs n w key c
  fine-wire-key s k fs n w key c (found j r) = search (fine-cond, fine-wire-act, fine-row, fine-unknown, fine-wire-unknown)

  fine-wire : (s : Set) (k : ℕ) (fs : List Figure) (n : ℕ) (w : Wire) (p : ℕ) {f : Form} → FineForm f → Fine (on_wire e l s k fs n w p f)
  fine-wire s k fs n w zero passed = answers
  fine-wire s k fs n w zero (broken m h) = refuses m h
  fine-wire s k fs n w zero closing = fine-wire-act s k fs n w (fine-act (known_of s) wire_table (both e.class.wires (wires_of s)) (rows_there w.own) closing)
  fine-wire s k fs n w zero ending = refuses 9 tt
  fine-wire s k fs n w zero (keying {k = key} {c = c}) = fine-wire-key s k fs n w key c (find key wire_table)
  fine-wire s k fs n w (suc p) v = search steps

  fine-unread-shut : (s : Set) (k : ℕ) (fs : List Figure) (n : ℕ) (b : Owned) → Fine (unread_shut s k fs n b)
  fine-unread-shut s k fs n (symbol_block o) = refuses 9 tt
  fine-unread-shut s k fs n (wire_block w) = refuses 9 tt
  fine-unread-shut s k fs n wire_unread = answers

  fine_skip-shut : (s : Set) (k : ℕ) (fs : List Figure) (n : ℕ) (b : Owned) (d : ℕ) → Fine (skip_shut s k fs n b d)
  fine_skip-shut s k fs n b zero = fine-unread-shut s k fs n b
  fine_skip-shut s k fs n b (suc zero) = answers
  fine_skip-shut s k fs n b (suc (suc d)) = answers

  fine-skipping : (s : Set) (k : ℕ) (fs : List Figure) (n : ℕ) (b : Owned) (d : ℕ) {f : Form} → FineForm f → Fine (on_skipping s k fs n b d f)
  fine-skipping s k fs n b d passed = answers
  fine-skipping s k fs n b d (broken m h) = refuses m h
  fine-skipping s k fs n b d closing = fine_skip-shut s k fs n b d
  fine-skipping s k fs n b d ending = refuses 9 tt
  fine-skipping s k fs n b d keying = search steps

  fine_in : (st : State) → FineForm l.form → Fine (step_in e l st)
  fine_in (top s k) w = fine-top s k w
  fine_in (file s n h p) w = fine-file s n h p w
  fine_in (drawing s d) w = fine-drawing s d w
  fine_in (layer_names s d) w = fine-layers s d w
  fine_in (defines s b) w = fine-defines s b w
  fine_in (symbol s y) w = fine-symbol s y w
  fine_in (hide s y ps) w = fine-hide s y ps w
  fine_in (elements s) w = fine-elements s w
  fine_in (figures s h fs) w = fine-figures s h fs w
  fine_in (successive s h fs n ps) w = fine-successive s h fs n ps w
  fine_in (texts s h fs n o) w = fine-texts s h fs n o w
  fine_in (placing s h fs n (symbol_block o) p) w = fine-placing s h fs n o p w
  fine_in (placing s h fs n (wire_block x) p) w = fine-wire s h fs n x p w
  fine_in (placing s h fs n wire_unread p) w = refuses 9 tt
  fine_in (skipping s h fs n b d) w = fine-skipping s h fs n b d w
  fine_in (ended s) w = refuses 9 tt

  fine-step : (st : State) → FineForm l.form → Fine (step e l st)
  fine-step st w = let v = fine_in st w in search fines

-- ── the forms of lines: 4 or 5 ──
fine-with-key : (k : List ℕ) (r : Rest) → FineForm (with_key k r)
fine-with-key [] r = broken 5 tt
fine-with-key (b ∷ k) r = keying

fine-from : (s : List ℕ) (end : ℕ) (c : Scan) → FineForm (form_from s end c)
fine-from s end neither =
    by_cond FineForm (same s (bytes "}")) (λ _. closing) (λ _. by_cond FineForm (same s (bytes "EOF")) (λ _. ending) (λ _. broken 5 tt))
fine-from s end (at_equal k c) = fine-with-key k _
fine-from s end (at_brace k c) = by_cond FineForm (is_nil c) (λ _. fine-with-key k brace) (λ _. broken 5 tt)

fine-rest : (s : List ℕ) (end : ℕ) → FineForm (form_of_rest s end)
fine-rest [] end = passed
fine-rest (b ∷ s) end = by_cond FineForm (allowed (b ∷ s)) (λ _. fine-from (b ∷ s) end (scan (b ∷ s))) (λ _. broken 4 tt)

fine-form : (at : ℕ) (s : List ℕ) → FineForm (form_of at s)
unfolding form_of
fine-form at [] = passed
fine-form at (b ∷ s) = go (eqb b 35) (fine-rest (unindent (b ∷ s)) (at + length (b ∷ s)))
  where
    go : {f : Form} (t : Bool) → FineForm f → FineForm (choose t (λ _. ignored) (λ _. f))
    go true w = passed
    go false w = w

-- ── the lines of a spool ──
data FineLines : List Line → Type 0 where
  no_line : FineLines []
  one_line : {l : Line} {ls : List Line} → FineForm l.form → FineLines ls → FineLines (l ∷ ls)

fine-numbered : (v : ℕ) (next : List ℕ) (n at : ℕ) (ls : List (List ℕ)) → FineLines (numbered v next n at ls)
fine-numbered v next n at [] = no_line
fine-numbered v next n at (l ∷ ls) = one_line (fine-form at l) (fine-numbered v next (suc n) (at + length l + 2) ls)

fine-volume : (v : ℕ) (next : List ℕ) (at : ℕ) (ls : List (List ℕ)) → FineLines (lines_of_volume v next at ls)
fine-volume v next at [] = one_line passed no_line
fine-volume v next at (l ∷ ls) = fine-numbered v next 1 at (l ∷ ls)

fine-append : (a b : List Line) → FineLines a → FineLines b → FineLines (a ++ b)
fine-append [] b no_line q = q
fine-append (l ∷ a) b (one_line w p) q = one_line w (fine-append a b p q)

data FineListed : Listed → Type 0 where
  lines : {ls : List Line} → FineLines ls → FineListed (listed ls)
  none3 : {v : ℕ} → FineListed (no_lines v)

fine-onto : (ls : List Line) (r : Listed) → FineLines ls → FineListed r → FineListed (onto_lines ls r)
fine-onto ls (listed rest) p (lines q) = lines (fine-append ls rest p q)
fine-onto ls (no_lines v) p q = none3

fine_list : (k : ℕ) (v : Volume) (vs : List Volume) (ls : Option (List (List ℕ))) (rest : Listed) → FineListed rest → FineListed (list_volume k v vs ls rest)
fine_list k v vs None rest w = none3
fine_list k v vs (Some ls) rest w = fine-onto _ rest (fine-volume k (next_name vs) v.place ls) w

fine-volumes : (k : ℕ) (vs : List Volume) → FineListed (list_volumes k vs)
fine-volumes k [] = lines no_line
fine-volumes k (v ∷ vs) = fine_list k v vs (lines_of v.body) _ (fine-volumes (suc k) vs)

-- ── a refusal at a line is 4 or more ──
least-finish : (st : State) (k v n : ℕ) → finish st ≡ refused k v n → 4 ≤ k
least-finish (top s j) k v n e = let z : 9 ≡ k = cc in omega arith
least-finish (file s j h p) k v n e = let z : 9 ≡ k = cc in omega arith
least-finish (drawing s d) k v n e = let z : 9 ≡ k = cc in omega arith
least-finish (layer_names s d) k v n e = let z : 9 ≡ k = cc in omega arith
least-finish (defines s b) k v n e = let z : 9 ≡ k = cc in omega arith
least-finish (symbol s y) k v n e = let z : 9 ≡ k = cc in omega arith
least-finish (hide s y ps) k v n e = let z : 9 ≡ k = cc in omega arith
least-finish (elements s) k v n e = let z : 9 ≡ k = cc in omega arith
least-finish (figures s h fs) k v n e = let z : 9 ≡ k = cc in omega arith
least-finish (successive s h fs j ps) k v n e = let z : 9 ≡ k = cc in omega arith
least-finish (texts s h fs j o) k v n e = let z : 9 ≡ k = cc in omega arith
least-finish (placing s h fs j o p) k v n e = let z : 9 ≡ k = cc in omega arith
least-finish (skipping s h fs j o d) k v n e = let z : 9 ≡ k = cc in omega arith
least-finish (ended s) k v n e = not-accepted (sym e)

least-run : (e : Env) (st : State) (ls : List Line) → FineLines ls → (k v n : ℕ) → run e st ls ≡ refused k v n → 4 ≤ k
least-run e st [] w k v n q = least-finish st k v n q
least-run e st (l ∷ ls) (one_line w r) k v n q = go (step e l st) (fine-step e l st w) (λ st'. least-run e st' ls r k v n) q
  where
    go : (g : Got State) → Fine g → ((st' : State) → run e st' ls ≡ refused k v n → 4 ≤ k) → then_run g l (λ st'. run e st' ls) ≡ refused k v n → 4 ≤ k
    go (got st') f ih q = ih st' q
    go (bad j) (refuses _ f) ih q = let z : j ≡ k = cc in omega (arith, (at-line j f).0, z)

pub least-listed : (e : Env) (vs : List Volume) (ls : List Line) → list_volumes 1 vs ≡ listed ls → (k v n : ℕ) → run e (top nothing_yet 0) ls ≡ refused k v n → 4 ≤ k
least-listed e vs ls q k v n = go (subst FineListed q (fine-volumes 1 vs))
  where
    go : FineListed (listed ls) → run e (top nothing_yet 0) ls ≡ refused k v n → 4 ≤ k
    go (lines w) = least-run e (top nothing_yet 0) ls w k v n

-- ── the outcome ──
pub data OutcomeTold : Outcome → Type 0 where
  told_set : {s : Set} → OutcomeTold (accepted s)
  told_number : (n v l : ℕ) → Located by_reader (record { number = n; volume = v; line = l }) → OutcomeTold (refused n v l)

-- a refusal of the spool as a whole, and one in a volume
told-whole : (n : ℕ) → 1 ≤ n → n ≤ 2 → of_whole n ≡ true → OutcomeTold (refused n 0 0)
told-whole n p q w =
    told_number n 0 0 (record { least = p; most = omega (arith, q); known = rw (ne_eqb n 20 (λ e. omega (arith, e, q))); whole = λ _. (refl, refl); in_volume = λ e. clash w e })

not-whole : (n : ℕ) → 3 ≤ n → by_reader n ≡ true → of_whole n ≡ false
not-whole n p q = rw (ne_eqb n 1 (λ e. omega (arith, e, p)), ne_eqb n 2 (λ e. omega (arith, e, p)), not-true (eqb n 20) q)

told_in : (n v l : ℕ) → 3 ≤ n → n ≤ last_number → by_reader n ≡ true → 1 ≤ v → v ≤ most_volumes → OutcomeTold (refused n v l)
told_in n v l p q r a b =
    told_number n v l (record { least = omega (arith, p); most = q; known = r; whole = λ e. clash e (not-whole n p r); in_volume = λ _. (a, b) })

told-step : (g : Got State) (l : Line) (f : State → Outcome) → Fine g → 1 ≤ l.volume → l.volume ≤ most_volumes → ((st : State) → g ≡ got st → OutcomeTold (f st)) → OutcomeTold (then_run g l f)
told-step (got st) l f w a b h = h st refl
told-step (bad n) l f (refuses _ w) a b h = let r = at-line n w in told_in n l.volume l.line (omega (arith, r.0)) r.1 r.2 a b

-- through the last line no set comes but one that has ended
told-run : (e : Env) (st : State) (ls : List Line) → FineLines ls → proper ls ≡ true → Among 1 most_volumes ls → OutcomeTold (run e st ls)
told-run e st [] w p m = clash p refl
told-run e st (l ∷ []) (one_line w r) p m =
    told-step (step e l st) l _ (fine-step e l st w) m.0 m.1 λ st' q.
    let (t, z) = last-ends e l st st' (and_left l.last _ p) (and_right l.last _ p) q in
    rw z told_set
told-run e st (l ∷ x ∷ ls) (one_line w r) p m =
    told-step (step e l st) l _ (fine-step e l st w) m.0 m.1 λ st' _. told-run e st' (x ∷ ls) r p m.2

told-volumes : (e : Env) (spool : List ℕ) → OutcomeTold (outcome_of_volumes e (volumes_of spool))
told-volumes e spool = go (volumes_of spool) refl
  where
    by : (u : Volume) (vs : List Volume) (l : Listed) → list_volumes 1 (u ∷ vs) ≡ l → FineListed l → Within 1 most_volumes l → OutcomeTold (outcome_of_lines e l)
    by u vs (listed ls) q (lines w) m = told-run e (top nothing_yet 0) ls w (lines-proper 1 u vs ls q) m
    by u vs (no_lines v) q w m = told_in 3 v 0 (omega arith) (omega arith) refl m.0 m.1

    go : (o : Option (List Volume)) → volumes_of spool ≡ o → OutcomeTold (outcome_of_volumes e o)
    go None p = told-whole 2 (omega arith) (omega arith) refl
    go (Some []) p = absurd (let w = volumes_inv spool [] p in omega (arith, w.one))
    go (Some (u ∷ vs)) p =
        by u vs (list_volumes 1 (u ∷ vs)) refl (fine-volumes 1 (u ∷ vs))
        (listing-within 1 most_volumes 0 (u ∷ vs) (omega arith) (let w = volumes_inv spool (u ∷ vs) p in omega (arith, w.few)))

pub told-spool : (e : Env) (spool : List ℕ) → OutcomeTold (outcome_of e spool)
unfolding outcome_of
told-spool e spool = told-volumes e spool

pub told_at : (c : Option Class) (m : Option ℕ) (spool : List ℕ) → OutcomeTold (outcome_at c m spool)
told_at None m spool = told-whole 1 (omega arith) (omega arith) refl
told_at (Some c) m spool = told-spool (record { class = c; limit = m }) spool
