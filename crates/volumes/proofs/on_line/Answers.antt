use Rattle.std.specs.Prelude.{Ok}
use Prim.Native.Nat.{ℕ}
use mathlib.Core.Bool.{Bool}
use mathlib.Core.List.{List}
use mathlib.Core.Logic.{◌⊎◌, inl, inr}
use mathlib.Core.Path.{◌≡◌, refl}
use lib.ListN.{length}
use Rattle.rules.specs.declared.LineForm.{LineForm}
use Rattle.rules.specs.declared.Refusal.{Refusal}
use Rattle.pens.specs.declared.Pen.{Pen}
use Rattle.pens.specs.Drawing.{DrawPromise}
use Rattle.rules.specs.declared.LineForm.TheVariants.{Ignored, Close, Eof, Opens, Equals, Refused}
use Rattle.volumes.proofs.LineLaws.{line_same}
use Rattle.volumes.proofs.on_line.Goals as goal

-- a line that writes nothing
unwritten : (s body : List ℕ) (start from : ℕ) (first : Bool) (form : LineForm) (pen : Pen) (notes out : List ℕ) → length notes ≡ 28 → (form ≡ Ignored) ⊎ ((x : Refusal) × (form ≡ Refused x))
    → DrawPromise s body start from first form pen notes notes out out (Ok pen)
unwritten s body start from first form pen notes out m (inl e) = line_same s body start from first form Ignored pen notes notes out out (Ok pen) e refl m (refl, refl, refl)
unwritten s body start from first form pen notes out m (inr (x, e)) = line_same s body start from first form (Refused x) pen notes notes out out (Ok pen) e refl m tt

pub returns-in-Ignored : goal.returns-in-Ignored
returns-in-Ignored c =
    let a = c.args in
    (record { safe = c.requires.0; long = refl }, c.requires.1, unwritten a.s.now a.body.now a.start a.from a.first a.form a.pen a.notes.now a.out.now c.requires.1 c.in-Ignored.is)

pub returns-in-Close : goal.returns-in-Close
returns-in-Close c =
    let a = c.args in
    (c.on_close.ensures.0, c.requires.1, line_same a.s.now a.body.now a.start a.from a.first a.form Close a.pen a.notes.now a.notes.now a.out.now _ c.on_close.result c.in-Close.is c.on_close.ensures.0.long c.requires.1 (c.on_close.ensures.1, c.on_close.ensures.2, refl))

pub returns-in-Eof : goal.returns-in-Eof
returns-in-Eof c =
    let a = c.args in
    (c.on_eof.ensures.0, c.requires.1, line_same a.s.now a.body.now a.start a.from a.first a.form Eof a.pen a.notes.now a.notes.now a.out.now _ c.on_eof.result c.in-Eof.is c.on_eof.ensures.0.long c.requires.1 (c.on_eof.ensures.1, refl))

pub returns-in-Opens : goal.returns-in-Opens
returns-in-Opens c =
    let a = c.args in
    (c.on_key.ensures.0, c.on_key.ensures.1, line_same a.s.now a.body.now a.start a.from a.first a.form (Opens _) a.pen a.notes.now _ a.out.now _ c.on_key.result c.in-Opens.is c.on_key.ensures.0.long c.on_key.ensures.1 c.on_key.ensures.2)

pub returns-in-Equals : goal.returns-in-Equals
returns-in-Equals c =
    let a = c.args in
    (c.on_key-in-Equals.ensures.0, c.on_key-in-Equals.ensures.1, line_same a.s.now a.body.now a.start a.from a.first a.form (Equals _) a.pen a.notes.now _ a.out.now _ c.on_key-in-Equals.result c.in-Equals.is c.on_key-in-Equals.ensures.0.long c.on_key-in-Equals.ensures.1 c.on_key-in-Equals.ensures.2)
