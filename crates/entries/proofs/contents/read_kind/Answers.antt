use mathlib.Core.Path.{◌≡◌, refl}
use mathlib.Core.Logic.{◌⊎◌, inl, inr}
use Rattle.std.proofs.Common.{rules}
use Rattle.rules.specs.Values.{read_part}
use Rattle.tables.specs.Rows.{part_of, kind_of, values_of}
use Rattle.entries.specs.Names.{known_of}
use Rattle.entries.proofs.ByKind.{name-put, one-put, puts-values}
use Rattle.entries.proofs.contents.read_kind.Goals as goal

pub returns-in-9 : goal.returns-in-9
returns-in-9 c =
    let a = c.args in
    rw c.in-9.is (one-put (read_part (known_of a.known.now) (part_of a.row.parts) a.c.now) _ a.rec.now _ a.p _ c.single.ensures c.put_value.ensures.0 c.put_value.ensures.1)

pub returns-in-1 : goal.returns-in-1
returns-in-1 c =
    let k = c.args.row.kind in
    let e : (k ≡ 1) ⊎ (k ≡ 2) = search rules in
    let h = rw c.fits.ensures at c.put_text-in-1.ensures in
    elim e [ inl e ↦ rw e h | inr e ↦ rw e h ]

pub returns-in-3 : goal.returns-in-3
returns-in-3 c =
    let a = c.args in
    rw c.in-3.is (name-put _ a.at a.c.now a.rec.now _ a.p _ (rw c.all_in.ensures at c.put_text.ensures))

pub returns-in-7 : goal.returns-in-7
returns-in-7 c =
    let k = c.args.row.kind in
    let e : (k ≡ 7) ⊎ (k ≡ 8) = search rules in
    elim e [ inl e ↦ rw e (record { eq = refl; filled = tt }) | inr e ↦ rw e (record { eq = refl; filled = tt }) ]

pub returns-in_default : goal.returns-in_default
returns-in_default c =
    let a = c.args in
    let e : kind_of a.row ≡ values_of a.row = search rules in
    puts-values a.row e (known_of a.known.now) a.at a.c.now a.rec.now _ a.p _ c.values.ensures

pub returns-in-10 : goal.returns-in-10
returns-in-10 c =
    let a = c.args in
    rw c.in-10.is (one-put (read_part (known_of a.known.now) (part_of 11) a.c.now) _ a.rec.now _ a.p _ c.single-in-10.ensures c.put_value-in-10.ensures.0 c.put_value-in-10.ensures.1)
