use mathlib.Core.Path.{◌≡◌, refl}
use mathlib.Core.Bool.{true, false}
use Rattle.std.proofs.Common.{rules}
use lib.Dec.{eqb}
use lib.ListN.{length}
use Rattle.std.specs.List.{list_any}
use Rattle.std.specs.Prelude.{Ok, Err}
use Rattle.leaves.specs.Bytes.{up_to}
use Rattle.entries.proofs.Commas.{comma-some, comma-none}
use Rattle.entries.proofs.WireSerials.{ends-many, ends-bad, ends-put}
use Rattle.entries.proofs.wire_serials.put_both.Goals as goal

pub returns-then-contains : goal.returns-then-contains
returns-then-contains c =
    let a = c.args in
    let h : list_any (λ b. eqb b 44) a.last.now ≡ true = search rules in
    ends-many a.first.now a.last.now a.rec.now a.p (length (up_to 44 a.last.now)) refl _ (comma-some a.last.now h)

pub returns-in_err-put_partner : goal.returns-in_err-put_partner
returns-in_err-put_partner c =
    let a = c.args in
    let h : list_any (λ b. eqb b 44) a.last.now ≡ false = search rules in
    let n = c.in_err-put_partner.field-0.0 in
    let e : c.from_residual.result ≡ Err n = search rules in
    let d : c.put_partner.result ≡ Err n = search rules in
    rw e (ends-bad a.first.now a.last.now a.rec.now a.p (length (up_to 44 a.last.now)) refl _ _ n (comma-none a.last.now h) (rw d at c.put_partner.ensures))

pub returns : goal.returns
returns c =
    let a = c.args in
    let h : list_any (λ b. eqb b 44) a.last.now ≡ false = search rules in
    let e : c.put_partner.result ≡ Ok tt = search rules in
    ends-put a.first.now a.last.now a.rec.now a.p (length (up_to 44 a.last.now)) refl _ _ _ (comma-none a.last.now h) (rw e at c.put_partner.ensures) c.put_partner-2.ensures
