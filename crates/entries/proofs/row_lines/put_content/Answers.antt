use Prim.Native.Nat.{◌≤◌}
use mathlib.Core.Path.{◌≡◌, sym, ◌∙◌}
use native.Mathlib.Omega.{arith}
use Rattle.std.proofs.Common.{rules}
use lib.ListN.{length}
use Rattle.std.specs.Prelude.{Ok, Err}
use Rattle.rules.specs.Lines.{bytes_at}
use Rattle.rules.specs.Values.{read_kind}
use Rattle.tables.specs.Rows.{kind_of, rule_of}
use Rattle.entries.specs.Names.{known_of}
use Rattle.entries.proofs.LineActs.{room-place, room_settled, line-bad, line-done, given-kind, part-most}
use Rattle.entries.proofs.row_lines.put_content.Goals as goal

pub read_kind-requires : goal.read_kind-requires
read_kind-requires c =
    let a = c.args in
    let h = c.requires in
    let r = room-place a.dump (length a.rec.now) (rule_of a.row) h in
    let s : length a.known.now.spool.now ≤ 61440 = search rules in
    (part-most a.known.now.spool.now a.p _ c.part.ensures s, omega (arith, r, c.place_of.ensures), room_settled a.dump (length a.rec.now) (rule_of a.row) h)

pub returns-in_err-read_kind : goal.returns-in_err-read_kind
returns-in_err-read_kind c =
    let a = c.args in
    let n = c.in_err-read_kind.field-0.0 in
    let e : c.from_residual.result ≡ Err n = search rules in
    let d : c.read_kind.result ≡ Err n = search rules in
    rw (e ∙ sym d)
    (line-bad (read_kind (known_of a.known.now) (kind_of a.row) a.p.at (bytes_at a.known.now.spool.now a.p)) (rule_of a.row) a.dump a.rec.now _ _ (rw (c.part.ensures, c.place_of.ensures) at c.read_kind.ensures) n d)

pub returns : goal.returns
returns c =
    let a = c.args in
    let d : c.read_kind.result ≡ Ok tt = search rules in
    line-done (read_kind (known_of a.known.now) (kind_of a.row) a.p.at (bytes_at a.known.now.spool.now a.p)) (rule_of a.row) a.dump a.rec.now _ _ (rw (c.part.ensures, c.place_of.ensures) at c.read_kind.ensures) _ (given-kind (known_of a.known.now) (kind_of a.row) a.p.at (bytes_at a.known.now.spool.now a.p)) d c.put_state.ensures
