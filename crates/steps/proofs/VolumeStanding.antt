-- From line to line of a volume: the step that the code made is the step of the reading.
use Prim.Native.Nat.{ℕ}
use mathlib.Core.Bool.{Bool, true, false, cond, ◌&&◌, ◌||◌}
use mathlib.Core.List.{List}
use mathlib.Core.Path.{◌≡◌, refl, sym, ◌∙◌, ap}
use lib.Dec.{eqb}
use Rattle.rules.specs.declared.Class.{Class}
use Rattle.rules.specs.declared.LineForm.{LineForm}
use Rattle.rules.specs.declared.LineForm.TheVariants as L
use Rattle.rules.specs.Base.{is_nil}
use Rattle.rules.specs.Lines.{form_in}
use Rattle.rules.specs.Rows.{Held}
use Rattle.rules.specs.Sets.{Set}
use Rattle.rules.specs.Machine.{Line, State, top, file, drawing, layer_names, defines, symbol, hide, elements, figures, successive, texts, placing, skipping, ended}
use Rattle.rules.specs.LineByLine.{is_ignored, is_close, is_eof, completes}
use Rattle.rules.specs.Machine.{symbol_block, wire_block, wire_unread}
use Rattle.steps.specs.VolumeLines.{eof_form, close_form, ignored_form, completes_of}
use Rattle.standing.specs.Standing.{Desk, Inside}

-- ── forms ──
eof_in : (s : List ℕ) (f : LineForm) → is_eof (form_in s f) ≡ eof_form f
eof_in s L.Ignored = refl
eof_in s L.Close = refl
eof_in s L.Eof = refl
eof_in s (L.Opens o) = refl
eof_in s (L.Equals q) = refl
eof_in s (L.Refused r) = refl

close_in : (s : List ℕ) (f : LineForm) → is_close (form_in s f) ≡ close_form f
close_in s L.Ignored = refl
close_in s L.Close = refl
close_in s L.Eof = refl
close_in s (L.Opens o) = refl
close_in s (L.Equals q) = refl
close_in s (L.Refused r) = refl

ignored_in : (s : List ℕ) (f : LineForm) → is_ignored (form_in s f) ≡ ignored_form f
ignored_in s L.Ignored = refl
ignored_in s L.Close = refl
ignored_in s L.Eof = refl
ignored_in s (L.Opens o) = refl
ignored_in s (L.Equals q) = refl
ignored_in s (L.Refused r) = refl

-- ── is the volume complete? ──
abbrev completes_as : ℕ → ℕ → LineForm → Bool → Bool
completes_as block part f last = cond last ((eqb block 0 && eqb part 4) && eof_form f) (cond (eqb block 7) (close_form f) ((eqb block 0 && eqb part 4) && ignored_form f))

or_false : (b : Bool) → (b || false) ≡ b
or_false true = refl
or_false false = refl

module _ (spool : List ℕ) (l : Line) (f : LineForm) (e : l.form ≡ form_in spool f) where
  -- by the block's number: at the top level, in ELEMENT, in another block
  at_top : (m : ℕ) (b : Bool) → completes_as 0 m f b ≡ cond b (eqb m 4 && is_eof l.form) ((false && is_close l.form) || (eqb m 4 && is_ignored l.form))
  at_top m true = ap (λ (x : Bool). eqb m 4 && x) (sym (ap is_eof e ∙ eof_in spool f))
  at_top m false = ap (λ (x : Bool). eqb m 4 && x) (sym (ap is_ignored e ∙ ignored_in spool f))

  in-element : (m : ℕ) (b : Bool) → completes_as 7 m f b ≡ cond b (false && is_eof l.form) ((true && is_close l.form) || (false && is_ignored l.form))
  in-element m true = refl
  in-element m false = sym (or_false (is_close l.form) ∙ ap is_close e ∙ close_in spool f)

  elsewhere : (n m : ℕ) (b : Bool) → eqb n 0 ≡ false → eqb n 7 ≡ false → completes_as n m f b ≡ cond b false false
  elsewhere n m true p q = ap (λ (x : Bool). (x && eqb m 4) && eof_form f) p
  elsewhere n m false p q = ap (λ (x : Bool). cond x (close_form f) ((eqb n 0 && eqb m 4) && ignored_form f)) q ∙ ap (λ (x : Bool). (x && eqb m 4) && ignored_form f) p

  module _ (c : Class) (k : ℕ) (d : Desk) (F : Set → ℕ → Held → ℕ → Type 0) where
    abbrev b : Bool
    b = is_nil l.next

    abbrev n : ℕ
    n = d.now.part

    by-block : (j : ℕ) → d.now.block ≡ j → completes_of d.now f b ≡ completes_as j n f b
    by-block j h = ap (λ (i : ℕ). completes_as i n f b) h

    pub completes_of_lem : (st : State) → Inside c spool k d F st → completes_of d.now f b ≡ completes l st
    completes_of_lem (top s m) h = by-block 0 h.0 ∙ ap (λ (i : ℕ). completes_as 0 i f b) h.1 ∙ at_top m b
    completes_of_lem (file s i o p) h = by-block 1 h.0 ∙ elsewhere 1 n b refl refl
    completes_of_lem (drawing s w) h = by-block 2 h.0 ∙ elsewhere 2 n b refl refl
    completes_of_lem (layer_names s w) h = by-block 3 h.0 ∙ elsewhere 3 n b refl refl
    completes_of_lem (defines s x) h = by-block 4 h.0 ∙ elsewhere 4 n b refl refl
    completes_of_lem (symbol s y) h = by-block 5 h.0 ∙ elsewhere 5 n b refl refl
    completes_of_lem (hide s y ps) h = by-block 6 h.0 ∙ elsewhere 6 n b refl refl
    completes_of_lem (elements s) h = by-block 7 h.0 ∙ in-element n b
    completes_of_lem (figures s o fs) h = by-block 8 h.0 ∙ elsewhere 8 n b refl refl
    completes_of_lem (successive s o fs i ps) h = by-block 9 h.0 ∙ elsewhere 9 n b refl refl
    completes_of_lem (texts s o fs i w) h = by-block 10 h.0 ∙ elsewhere 10 n b refl refl
    completes_of_lem (placing s m fs i (symbol_block o) p) h = by-block 11 h.0 ∙ elsewhere 11 n b refl refl
    completes_of_lem (placing s m fs i (wire_block w) p) h = by-block 12 h.0 ∙ elsewhere 12 n b refl refl
    completes_of_lem (placing s m fs i wire_unread p) h = absurd h
    completes_of_lem (skipping s m fs i (symbol_block o) p) h = absurd h
    completes_of_lem (skipping s m fs i (wire_block w) p) h = absurd h
    completes_of_lem (skipping s m fs i wire_unread p) h = by-block 12 h.0 ∙ elsewhere 12 n b refl refl
    completes_of_lem (ended s) h = by-block 15 h ∙ elsewhere 15 n b refl refl
