-- From line to line: a line that changes nothing of what the set says keeps what the code remembers of it.
use Prim.Native.Nat.{ℕ, suc, ◌+◌, ◌*◌, ◌≤◌, ◌<◌}
use mathlib.Core.Bool.{Bool, true, false, cond}
use mathlib.Core.List.{List, [], ◌∷◌, ◌++◌, map}
use mathlib.Core.Path.{◌≡◌, refl, ◌∙◌, ap, subst, sym}
use native.Mathlib.Omega.{arith}
use lib.Dec.{eqb}
use lib.IntN.{ℤ}
use lib.ListN.{length, get_or, take}
use borrow.Author.Tests.{ne_eqb}
use Rattle.rules.specs.declared.Class.{Class}
use Rattle.rules.specs.Base.{flat, total, has_number, is_nil}
use Rattle.rules.specs.Values.{Known}
use Rattle.rules.specs.Rows.{Held}
use Rattle.rules.specs.Sets.{Layer, Set, symbol_name_of, elements_of, used_in, known_of, Contents, is_first}
use Rattle.rules.specs.Machine.{State, set_of}
use Rattle.entries.specs.Names.{names_in, known_in}
use Rattle.account.specs.declared.Now.{Now}
use Rattle.account.specs.SerialNumbers.{bytes_lent}
use Rattle.standing.specs.SoFar.{volume_of}
use Rattle.standing.specs.Kept.{Scratch}
use Rattle.standing.specs.Standing.{Desk, Lengths, layers_of, links_of, used_of, Numbers, open_figures, inside, counts, elements_here, this_of, tally_of, name_bytes, serial_bytes, Inside, Stands}
use Rattle.standing.proofs.ScratchKept.{scratch-long}

-- ── counts ──
-- the first volume, by its number and by what the set says
pub first-volume : (k : ℕ) (s : Set) → k ≡ volume_of s → eqb k 1 ≡ is_first s
first-volume k s e = ap (λ (i : ℕ). eqb i 1) e ∙ go s.volumes
  where
    go : (vs : List Contents) → eqb (suc (length vs)) 1 ≡ is_nil vs
    go [] = refl
    go (v ∷ vs) = ne_eqb (suc (suc (length vs))) 1 (λ q. absurd (omega (arith, q)))

pub nil-count : {A : Type 0} (s : List A) → eqb (length s) 0 ≡ is_nil s
nil-count [] = refl
nil-count (a ∷ s) = ne_eqb (suc (length s)) 0 (λ e. absurd (omega (arith, e)))

-- ── what a line leaves alone ──
-- what a state says of the set, the records and their count apart
pub record Sight : Type 0 where
  pub set : Set
  pub layers : List Layer
  pub serials : List (List ℕ)
  pub used : List ℕ
  pub inside : Bool
  pub counts : Bool

abbrev pub sight : State → Sight
sight st =
    let s = set_of st in
    record {
      set = record { drawing = s.drawing; symbols = s.symbols; volumes = s.volumes; now = s.now; taken = 0 };
      layers = layers_of st;
      serials = links_of st;
      used = used_of st;
      inside = inside st;
      counts = counts st;
    }

-- the same names, serial numbers and layers in use
abbrev pub desk_kept : Desk → Now → List ℕ → List Bool → List Bool → List ℤ → List ℤ → Desk
desk_kept d n tally marks inner header t = record {
  now = n;
  tally = tally;
  symbols = d.symbols;
  layers = d.layers;
  serials = d.serials;
  used = d.used;
  used_all = d.used_all;
  marks = marks;
  inner = inner;
  header = header;
  scratch = t;
}

pub lengths-kept : (d : Desk) (n : Now) (tally : List ℕ) (marks inner : List Bool) (header t : List ℤ) → Lengths d → length marks ≡ 28 → length inner ≡ 2 → length header ≡ 71 → length t ≡ 96
    → Lengths (desk_kept d n tally marks inner header t)
lengths-kept d n tally marks inner header t l lm li lh lt = record {
  symbols = l.symbols;
  layers = l.layers;
  serials = l.serials;
  used = l.used;
  used_all = l.used_all;
  marks = lm;
  inner = li;
  header = lh;
  scratch = lt;
}

-- the same things lent, but for the marks of the open block and the scratch
abbrev pub desk_with : Desk → Now → List Bool → List Bool → List ℤ → Desk
desk_with d n marks inner t = desk_kept d n d.tally marks inner d.header t

module _ (c : Class) (spool : List ℕ) (k : ℕ) (FileHere : Desk → Set → ℕ → Held → ℕ → Type 0) (d : Desk) (at to : ℕ) (st st' : State) (z : Stands c spool k d (FileHere d) at st) where
  pub stands-with : (n : Now) (marks inner : List Bool) (header t : List ℤ) → sight st ≡ sight st' → length marks ≡ 28 → length inner ≡ 2 → length header ≡ 71
      → Scratch t st'
      → total elements_of (set_of st).volumes + elements_here st + open_figures st' ≤ to
      → 48 * length (set_of st).symbols + name_bytes st' ≤ to
      → 27 * length (links_of st) + serial_bytes st' ≤ to + 3 + bytes_lent (take (length (links_of st)) d.serials)
      → Inside c spool k (desk_kept d n d.tally marks inner header t) (FileHere (desk_kept d n d.tally marks inner header t)) st'
      → Stands c spool k (desk_kept d n d.tally marks inner header t) (FileHere (desk_kept d n d.tally marks inner header t)) to st'
  stands-with n marks inner header t v lm li lh scratch counted named numbered block = record {
    lengths = lengths-kept d n d.tally marks inner header t z.lengths lm li lh (scratch-long t st' scratch);
    scratch = scratch;
    here = z.here;
    this = subst (λ (x : Sight). x.counts ≡ true → z.here ≡ this_of x.set) v z.this;
    tally = subst (λ (x : Sight). d.tally ≡ tally_of x.set z.here (length x.layers) (length x.serials)) v z.tally;
    symbols = subst (λ (x : Sight). names_in spool (take (length x.set.symbols) d.symbols) ≡ map symbol_name_of x.set.symbols) v z.symbols;
    layers = subst (λ (x : Sight). names_in spool (take (length x.layers) d.layers) ≡ map (λ (l : Layer). l.id) x.layers) v z.layers;
    few-layers = subst (λ (x : Sight). length x.layers ≤ 64) v z.few-layers;
    serials = subst (λ (x : Sight). Numbers spool (take (length x.serials) d.serials) x.serials) v z.serials;
    used = subst (λ (x : Sight). x.inside ≡ true → (j : ℕ) → j < 64 → get_or d.used j false ≡ has_number j x.used) v z.used;
    used_all = subst (λ (x : Sight). (j : ℕ) → j < 64 → get_or d.used_all j false ≡ has_number j (flat (map used_in x.set.volumes) ++ x.used)) v z.used_all;
    counted = subst (λ (x : Sight). total elements_of x.set.volumes + cond x.counts (elements_of x.set.now) 0 + open_figures st' ≤ to) v counted;
    named = subst (λ (x : Sight). 48 * length x.set.symbols + name_bytes st' ≤ to) v named;
    numbered = subst (λ (x : Sight). 27 * length x.serials + serial_bytes st' ≤ to + 3 + bytes_lent (take (length x.serials) d.serials)) v numbered;
    block = block;
  }

  pub stands_on : (n : Now) (marks inner : List Bool) (t : List ℤ) → sight st ≡ sight st' → length marks ≡ 28 → length inner ≡ 2
      → Scratch t st'
      → total elements_of (set_of st).volumes + elements_here st + open_figures st' ≤ to
      → 48 * length (set_of st).symbols + name_bytes st' ≤ to
      → 27 * length (links_of st) + serial_bytes st' ≤ to + 3 + bytes_lent (take (length (links_of st)) d.serials)
      → Inside c spool k (desk_with d n marks inner t) (FileHere (desk_with d n marks inner t)) st'
      → Stands c spool k (desk_with d n marks inner t) (FileHere (desk_with d n marks inner t)) to st'
  stands_on n marks inner t v lm li = stands-with n marks inner d.header t v lm li z.lengths.header

  -- the names that the code knows are those that the set has
  pub known : layers_of st ≡ (set_of st).drawing.layers
      → known_in spool (take (get_or d.tally 9 0) d.symbols) (take (get_or d.tally 10 0) d.layers) ≡ known_of (set_of st)
  known e =
      let a : get_or d.tally 9 0 ≡ length (set_of st).symbols = ap (λ (t : List ℕ). get_or t 9 0) z.tally in
      let b : get_or d.tally 10 0 ≡ length (layers_of st) = ap (λ (t : List ℕ). get_or t 10 0) z.tally in
      let f : List (List ℕ) → List (List ℕ) → Known = λ x y. record { symbols = x; layers = y } in
      ap (λ (m : ℕ). f (names_in spool (take m d.symbols)) (names_in spool (take (get_or d.tally 10 0) d.layers))) a
      ∙ ap (λ (x : List (List ℕ)). f x (names_in spool (take (get_or d.tally 10 0) d.layers))) z.symbols
      ∙ ap (λ (m : ℕ). f (map symbol_name_of (set_of st).symbols) (names_in spool (take m d.layers))) b
      ∙ ap (f (map symbol_name_of (set_of st).symbols)) (z.layers ∙ ap (λ (ls : List Layer). map (λ (l : Layer). l.id) ls) e)

-- a line that changes nothing but the place in the spool
module _ (c : Class) (spool : List ℕ) (k : ℕ) (FileHere : Desk → Set → ℕ → Held → ℕ → Type 0) (d : Desk) (at to : ℕ) (st : State) (z : Stands c spool k d (FileHere d) at st) where
  stands-later : at ≤ to → Stands c spool k d (FileHere d) to st
  stands-later later =
      stands-with c spool k FileHere d at to st st z d.now d.marks d.inner d.header d.scratch refl z.lengths.marks z.lengths.inner z.lengths.header z.scratch
      (omega (arith, z.counted, later)) (omega (arith, z.named, later)) (omega (arith, z.numbered, later)) z.block

  -- all that was lent comes back as it was
  pub stands-still : at ≤ to → (tally : List ℕ) (marks inner : List Bool) (header t : List ℤ) → tally ≡ d.tally → marks ≡ d.marks → inner ≡ d.inner → header ≡ d.header → t ≡ d.scratch
      → Stands c spool k (desk_kept d d.now tally marks inner header t) (FileHere (desk_kept d d.now tally marks inner header t)) to st
  stands-still later tally marks inner header t et em ei eh eq =
      let n : Now = d.now in
      let same : desk_kept d n tally marks inner header t ≡ d =
      ap (λ (y : List ℕ). desk_kept d n y marks inner header t) et ∙ ap (λ (y : List Bool). desk_kept d n d.tally y inner header t) em
      ∙ ap (λ (y : List Bool). desk_kept d n d.tally d.marks y header t) ei ∙ ap (λ (y : List ℤ). desk_kept d n d.tally d.marks d.inner y t) eh
      ∙ ap (desk_kept d n d.tally d.marks d.inner d.header) eq in
      subst (λ (y : Desk). Stands c spool k y (FileHere y) to st) (sym same) (stands-later later)
