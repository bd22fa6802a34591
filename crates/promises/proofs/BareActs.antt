-- What a line does, places apart: its shape, its act, and what the act does.
use Rattle.std.specs.Prelude.{Option, Some, None}
use Prim.Native.Nat.{ℕ}
use mathlib.Core.Bool.{Bool, false, cond}
use mathlib.Core.List.{List, [], ◌∷◌}
use mathlib.Core.Path.{◌≡◌, refl, sym, ◌∙◌, ap}
use lib.ListN.{get_or}
use Rattle.rules.specs.declared.Digits.{Digits}
use Rattle.rules.specs.Base.{bytes, same}
use Rattle.rules.specs.RefusalNumbers.{Got, got, bad, map_g}
use Rattle.rules.specs.Lines.{Rest, brace, equals, Form, ignored, wrong, close, eof, keyed, Shape, opener, no_content, content, opening, formless, by_stem, shape_of, free_shape_of, has_form, stem}
use Rattle.rules.specs.RangeClass.{passes, skip_of, skip_shape}
use Rattle.rules.specs.Values.{Value, Known, Kind, values, text, word, volume_name, sheet, ratio, serials, wire_serial, symbol_circle, nothing, opens, headed, either, is_free, read_kind, linked_of}
use Rattle.rules.specs.Rows.{Rule, Found, absent, found, find, is_content, is_empty, is_opener, is_opening, is_either, fits, shape_for, Act, stay, entry, begin, shut, refuse, or_refuse, read_shape, act_row, act_unknown, act_found, complete, act}
use Rattle.rules.specs.Machine.{State, by_act}
use Rattle.rules.proofs.Chains.{through, ap-cond}
use Rattle.promises.specs.PlacesApart.{bare_value, bare_rest, bare_form, bare_act, bare_state}

-- ── a line's shape ──
abbrev pub bare_shape : Shape → Shape
bare_shape opener = opener
bare_shape no_content = no_content
bare_shape (content at c) = content 0 c
bare_shape (opening at c) = opening 0 c
bare_shape formless = formless

stem-bare : (at : ℕ) (c : List ℕ) (o : Option (List ℕ)) → by_stem 0 c o ≡ bare_shape (by_stem at c o)
stem-bare at c None = refl
stem-bare at c (Some []) = refl
stem-bare at c (Some (b ∷ t)) = refl

shape-bare : (c : Rest) → shape_of (bare_rest c) ≡ bare_shape (shape_of c)
shape-bare brace = refl
shape-bare (equals at []) = refl
shape-bare (equals at (b ∷ c)) = stem-bare at (b ∷ c) (stem (b ∷ c))

pub free-bare : (c : Rest) → free_shape_of (bare_rest c) ≡ bare_shape (free_shape_of c)
free-bare brace = refl
free-bare (equals at []) = refl
free-bare (equals at (b ∷ c)) = refl

for-bare : (r : Rule) (c : Rest) → shape_for r (bare_rest c) ≡ bare_shape (shape_for r c)
for-bare r c = rw (free-bare c, shape-bare c) (sym (ap-cond bare_shape (is_free r.holds) (free_shape_of c) (shape_of c)))

has_form-bare : (s : Shape) → has_form (bare_shape s) ≡ has_form s
has_form-bare opener = refl
has_form-bare no_content = refl
has_form-bare (content at c) = refl
has_form-bare (opening at c) = refl
has_form-bare formless = refl

-- `fits` asks these five tests alone
fits-same : (k : Kind) (may : Bool) (s u : Shape) → is_content s ≡ is_content u → is_empty s ≡ is_empty u → is_opener s ≡ is_opener u → is_opening s ≡ is_opening u → is_either s ≡ is_either u
    → fits k may s ≡ fits k may u
fits-same (values p ps a) may s u a1 a2 a3 a4 a5 = rw (a1, a2)
fits-same (text n b) may s u a1 a2 a3 a4 a5 = rw (a1, a2)
fits-same (word n b) may s u a1 a2 a3 a4 a5 = rw (a1, a2)
fits-same volume_name may s u a1 a2 a3 a4 a5 = rw (a1, a2)
fits-same sheet may s u a1 a2 a3 a4 a5 = rw (a1, a2)
fits-same ratio may s u a1 a2 a3 a4 a5 = rw (a1, a2)
fits-same serials may s u a1 a2 a3 a4 a5 = rw (a1, a2)
fits-same wire_serial may s u a1 a2 a3 a4 a5 = rw (a1, a2)
fits-same symbol_circle may s u a1 a2 a3 a4 a5 = rw (a1, a2)
fits-same nothing may s u a1 a2 a3 a4 a5 = a2
fits-same (opens i) may s u a1 a2 a3 a4 a5 = a3
fits-same (headed i p) may s u a1 a2 a3 a4 a5 = a4
fits-same (either i) may s u a1 a2 a3 a4 a5 = a5

fits-bare : (k : Kind) (may : Bool) (s : Shape) → fits k may (bare_shape s) ≡ fits k may s
fits-bare k may opener = refl
fits-bare k may no_content = refl
fits-bare k may (content at c) = fits-same k may _ _ refl refl refl refl refl
fits-bare k may (opening at c) = fits-same k may _ _ refl refl refl refl refl
fits-bare k may formless = refl

skip-bare : (s : Shape) → skip_shape (bare_shape s) ≡ skip_shape s
skip-bare opener = refl
skip-bare no_content = refl
skip-bare (content at c) = refl
skip-bare (opening at c) = refl
skip-bare formless = refl

pub skipped-bare : (k : List ℕ) (c : Rest) → skip_of k (bare_rest c) ≡ skip_of k c
skipped-bare k brace = refl
skipped-bare k (equals at c) = ap (λ x. cond (same k (bytes "character")) passes x) (ap skip_shape (shape-bare (equals at c)) ∙ skip-bare (shape_of (equals at c)))

-- ── a line's act ──
linked-bare : (ns : List ℕ) → bare_value (linked_of ns) ≡ linked_of ns
linked-bare [] = refl
linked-bare (n ∷ ps) = refl

pub kind-bare : (k : Known) (d : Kind) (at : ℕ) (c : List ℕ) → read_kind k d 0 c ≡ map_g bare_value (read_kind k d at c)
kind-bare k (values p ps a) at c = simp through
kind-bare k (text n b) at c = simp through
kind-bare k (word n b) at c = simp through
kind-bare k volume_name at c = simp through
kind-bare k sheet at c = simp through
kind-bare k ratio at c = simp through
kind-bare k serials at c = simp (through, linked-bare)
kind-bare k wire_serial at c = simp through
kind-bare k symbol_circle at c = simp through
kind-bare k nothing at c = refl
kind-bare k (opens i) at c = refl
kind-bare k (headed i p) at c = simp through
kind-bare k (either i) at c = simp through

read-bare : (k : Known) (j : ℕ) (r : Rule) (s : Shape) → read_shape k j r (bare_shape s) ≡ map_g bare_act (read_shape k j r s)
read-bare k j r opener = refl
read-bare k j r no_content = refl
read-bare k j r (content at c) = rw (kind-bare k r.holds at c) (simp through)
read-bare k j r (opening at c) = rw (kind-bare k r.holds at c) (simp through)
read-bare k j r formless = refl

refuse-bare : (g : Got Act) → bare_act (or_refuse g) ≡ or_refuse (map_g bare_act g)
refuse-bare (got a) = refl
refuse-bare (bad n) = refl

pub row-bare : (k : Known) (d : Digits) (full : Bool) (j : ℕ) (r : Rule) (c : Rest) → act_row k d full j r (bare_rest c) ≡ bare_act (act_row k d full j r c)
row-bare k d full j r c =
    rw (for-bare r c, has_form-bare (shape_for r c), fits-bare r.holds r.may (shape_for r c), read-bare k j r (shape_for r c)) (simp (refuse-bare, through))

pub unknown-bare : (c : Rest) → act_unknown (bare_rest c) ≡ bare_act (act_unknown c)
unknown-bare c = rw (shape-bare c, has_form-bare (shape_of c)) (simp (refuse-bare, through))

pub act-bare : (k : Known) (t : List Rule) (d : Digits) (full : List Bool) (f : Form) → act k t d full (bare_form f) ≡ bare_act (act k t d full f)
act-bare k t d full ignored = refl
act-bare k t d full (wrong n) = refl
act-bare k t d full close = sym (ap-cond bare_act (complete d t full) shut (refuse 8))
act-bare k t d full eof = refl
act-bare k t d full (keyed key c) = go (find key t)
  where
    go : (f : Found) → act_found k d full (bare_rest c) f ≡ bare_act (act_found k d full c f)
    go absent = unknown-bare c
    go (found j r) = row-bare k d (get_or full j false) j r c

-- ── what an act does ──
pub by-act : (here : State) (n n' : ℕ → Value → Got State) (o o' : ℕ → ℕ → Value → Got State) (c c' : Got State) (a : Act)
    → ((j : ℕ) (v : Value) → map_g bare_state (n j v) ≡ n' j (bare_value v)) → ((i j : ℕ) (v : Value) → map_g bare_state (o i j v) ≡ o' i j (bare_value v)) → map_g bare_state c ≡ c'
    → map_g bare_state (by_act here n o (λ _. c) a) ≡ by_act (bare_state here) n' o' (λ _. c') (bare_act a)
by-act here n n' o o' c c' stay en eo ec = refl
by-act here n n' o o' c c' (entry j v) en eo ec = en j v
by-act here n n' o o' c c' (begin i j v) en eo ec = eo i j v
by-act here n n' o o' c c' shut en eo ec = ec
by-act here n n' o o' c c' (refuse m) en eo ec = refl

pub by-line : (k : Known) (t : List Rule) (d : Digits) (full : List Bool) (f : Form) (here : State) (n n' : ℕ → Value → Got State) (o o' : ℕ → ℕ → Value → Got State) (c c' : Got State)
    → ((j : ℕ) (v : Value) → map_g bare_state (n j v) ≡ n' j (bare_value v)) → ((i j : ℕ) (v : Value) → map_g bare_state (o i j v) ≡ o' i j (bare_value v)) → map_g bare_state c ≡ c'
    → map_g bare_state (by_act here n o (λ _. c) (act k t d full f)) ≡ by_act (bare_state here) n' o' (λ _. c') (act k t d full (bare_form f))
by-line k t d full f here n n' o o' c c' en eo ec = rw (act-bare k t d full f) (by-act here n n' o o' c c' (act k t d full f) en eo ec)
