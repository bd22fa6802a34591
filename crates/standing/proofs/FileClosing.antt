-- FILE_FORMAT's close: its test, and what the header says of the set.
use Prim.Native.Nat.{ℕ, ◌≤◌}
use mathlib.Core.Bool.{Bool, true, false, ◌&&◌}
use mathlib.Core.List.{List, [], ◌∷◌}
use mathlib.Core.Path.{◌≡◌, refl, sym, ◌∙◌, ap, ap₂}
use native.Mathlib.Omega.{arith}
use lib.Dec.{eqb}
use lib.IntN.{ℤ}
use lib.ListN.{length, get_or}
use Rattle.rules.specs.declared.Class.{Class}
use Rattle.rules.specs.Base.{is_nil, same, total}
use Rattle.rules.specs.Rows.{Held}
use Rattle.rules.specs.Sets.{Drawing, Symbol, Contents, Set, with_now, arc_of, symbol_range, define_range, wire_range, elements_of}
use Rattle.rules.specs.VolumesAndTotals.{chained, dated}
use Rattle.rules.specs.Machine.{Line, top, file}
use Rattle.rules.proofs.Chains.{clash}
use Rattle.account.specs.Account.{at_block}
use Rattle.standing.specs.Standing.{Desk, desk_now, closed_links, this_of, file_number, Stands}
use Rattle.account.specs.FileLines.{count_at, chained_to, dated_as, agrees, first_tally, later_tally}
use Rattle.standing.specs.FileStanding.{InFile}
use Rattle.standing.proofs.FileReadBack.{arc-back, sym-back, elec-back, date-back, time-back, all_back, this-back, later-back}
use Rattle.standing.proofs.Standings.{desk_kept, lengths-kept}
use Rattle.standing.proofs.ClearedKept.{file-cleared}

-- the same things lent, but for the tally, the marks and the header
abbrev pub file_desk : Desk → List ℕ → List Bool → List ℤ → Desk
file_desk d tally marks header = desk_kept d d.now tally marks d.inner header d.scratch

module _ (c : Class) (spool : List ℕ) (k : ℕ) (d : Desk) (at to : ℕ) (dr : Drawing) (sy : List Symbol) (nw : Contents) (taken n : ℕ) (h : Held) (p : ℕ) where
  abbrev pub set_with : List Contents → Set
  set_with vs = record { drawing = dr; symbols = sy; volumes = vs; now = nw; taken = taken }

  abbrev pub headed : List Contents → Set
  headed vs = with_now (record { line = n; file = h; blocks = [] }) (set_with vs)

  abbrev pub Here : List Contents → Type 0
  Here vs = Stands c spool k d (InFile spool k d) at (file (set_with vs) n h p)

  -- ── "16: volume chain, date or time unlike volume 1's" ──
  module _ (l : Line) (following : List ℕ) (nx : l.next ≡ following) where
    chain-is : (vs : List Contents) → Here vs → chained_to spool following d.header ≡ chained (is_nil vs) l.next h
    chain-is vs z = ap₂ same (sym z.block.1.next) (sym nx)

    date-is : (y : Contents) (vs : List Contents) → Here (y ∷ vs) → dated_as d.tally d.header ≡ dated (set_with (y ∷ vs)) false h
    date-is y vs z =
        let f = z.block.1 in
        ap₂ ◌&&◌ (ap₂ eqb (f.date refl) (ap (λ (t : List ℕ). get_or t 3 0) z.tally)) (ap₂ eqb (f.time refl) (ap (λ (t : List ℕ). get_or t 4 0) z.tally))

    pub agree-is : (vs : List Contents) → Here vs → agrees spool following (is_nil vs) d.tally d.header ≡ (chained (is_nil vs) l.next h && dated (set_with vs) (is_nil vs) h)
    agree-is [] z = ap (λ (b : Bool). b && true) (chain-is [] z)
    agree-is (y ∷ vs) z = ap₂ ◌&&◌ (chain-is (y ∷ vs) z) (date-is y vs z)

  -- ── the state behind it ──
  module _ (later : at ≤ to) (tally₁ : List ℕ) (m₁ : List Bool) (h₁ : List ℤ) (em : m₁ ≡ d.marks) (eh : h₁ ≡ d.header) where
    abbrev desk : ℕ → Desk
    desk m = desk_now (file_desk d tally₁ m₁ h₁) (at_block d.now 0 m)

    pub closed-first : (z : Here []) → tally₁ ≡ first_tally d.header d.tally → Stands c spool k (desk 1) (InFile spool k (desk 1)) to (top (headed []) 1)
    closed-first z et =
        let f : InFile spool k d (set_with []) n h p = z.block.1 in
        let hd : List ℤ = d.header in
        let s' : Set = headed [] in
        let one : k ≡ 1 = f.volume in
        let said : ℕ → ℕ → ℕ → ℕ → ℕ → ℕ → ℕ → ℕ → List ℕ = λ a b c d e f g i. a ∷ b ∷ c ∷ d ∷ e ∷ f ∷ g ∷ 0 ∷ 0 ∷ length sy ∷ length dr.layers ∷ 0 ∷ i ∷ [] in
        record {
          lengths = lengths-kept d (at_block d.now 0 1) tally₁ m₁ d.inner h₁ d.scratch z.lengths (ap length em ∙ z.lengths.marks) z.lengths.inner (ap length eh ∙ z.lengths.header) z.lengths.scratch;
          scratch = file-cleared (set_with []) n h p d.scratch z.scratch;
          here = this_of s';
          this = λ _. refl;
          tally =
              et ∙ ap (first_tally hd) z.tally
              ∙ ap₂ (λ (a b : ℕ). said a b (count_at hd 11) (count_at hd 14) (count_at hd 15) (count_at hd 13) (count_at hd 38) (count_at hd 70)) (arc-back k n h hd f.header f.filled f.counted) (sym-back k n h hd f.header f.filled f.counted)
              ∙ ap₂ (λ (a b : ℕ). said (arc_of s') (symbol_range s') a b (count_at hd 15) (count_at hd 13) (count_at hd 38) (count_at hd 70)) (elec-back k n h hd f.header f.filled f.counted) (date-back k n h hd f.header f.filled f.counted)
              ∙ ap₂ (λ (a b : ℕ). said (arc_of s') (symbol_range s') (define_range s') (file_number "date" s') a b (count_at hd 38) (count_at hd 70)) (time-back k n h hd f.header f.filled f.counted) (all_back k n h hd f.header f.filled f.counted)
              ∙ ap₂ (said (arc_of s') (symbol_range s') (define_range s') (file_number "date" s') (file_number "time" s') (file_number "all_ele" s')) (this-back k n h hd f.header f.filled f.counted) (f.wires refl);
          symbols = z.symbols;
          layers = z.layers;
          few-layers = z.few-layers;
          serials = z.serials;
          used = λ e. clash e refl;
          used_all = z.used_all;
          counted = omega (arith, z.counted, later);
          named = omega (arith, z.named, later);
          numbered = omega (arith, z.numbered, later);
          block = (refl, refl, (record { volume = one; first = refl; blocks = refl }, record { layers = (f.bare refl).layers; symbols = (f.bare refl).symbols }));
        }

    pub closed-later : (y : Contents) (vs : List Contents) (z : Here (y ∷ vs)) → tally₁ ≡ later_tally d.header d.tally
        → Stands c spool k (desk 3) (InFile spool k (desk 3)) to (top (headed (y ∷ vs)) 3)
    closed-later y vs z et =
        let f : InFile spool k d (set_with (y ∷ vs)) n h p = z.block.1 in
        let hd : List ℤ = d.header in
        let s' : Set = headed (y ∷ vs) in
        record {
          lengths = lengths-kept d (at_block d.now 0 3) tally₁ m₁ d.inner h₁ d.scratch z.lengths (ap length em ∙ z.lengths.marks) z.lengths.inner (ap length eh ∙ z.lengths.header) z.lengths.scratch;
          scratch = file-cleared (set_with (y ∷ vs)) n h p d.scratch z.scratch;
          here = this_of s';
          this = λ _. refl;
          tally =
              et ∙ ap (later_tally hd) z.tally
              ∙ ap (λ (a : ℕ). arc_of s' ∷ symbol_range s' ∷ define_range s' ∷ file_number "date" s' ∷ file_number "time" s' ∷ file_number "all_ele" s' ∷ a ∷ 0 ∷ total elements_of (y ∷ vs) ∷ length sy ∷ length dr.layers ∷ length (closed_links s') ∷ wire_range s' ∷ []) (later-back k n h hd f.header f.filled f.counted);
          symbols = z.symbols;
          layers = z.layers;
          few-layers = z.few-layers;
          serials = z.serials;
          used = λ e. clash e refl;
          used_all = z.used_all;
          counted = omega (arith, z.counted, later);
          named = omega (arith, z.named, later);
          numbered = omega (arith, z.numbered, later);
          block = (refl, refl, (f.volume, refl));
        }
