use Rattle.std.proofs.lemmas.Result.{err_from_is_err_and}
use mathlib.Core.Path.{refl, sym, ◌∙◌}
use native.Mathlib.Omega.{arith}
use lib.ListN.{length}
use borrow.Author.Rules.{rules}
use Rattle.standing.specs.Reading.{volume_desk}
use Rattle.sets.proofs.SetRunVolumes.{unsound-few}
use Rattle.sets.proofs.SetRun.{came-none, came_unsound, came-first, count-few, tally-long, volume_ready, stops, goes, accepts, counts-records, lays-records, few-records}
use Rattle.sets.proofs.reader.read_set.Goals as goal

pub returns-then-count-eq0 : goal.returns-then-count-eq0
returns-then-count-eq0 c = came-none c.args.class c.args.s.now c.args.limit (length c.args.t.now) c.volumes-l.result c.volumes-l.ensures c.if-count-eq0.true

pub overflow_cast-result : goal.overflow_cast-result
overflow_cast-result c = omega (arith, unsound-few c.args.s.now c.volumes-l.result c.first_unsound-unsound.result c.first_unsound-unsound.ensures)

pub returns-then-unsound-ne0 : goal.returns-then-unsound-ne0
returns-then-unsound-ne0 c = came_unsound c.args.class c.args.s.now c.args.limit (length c.args.t.now) c.volumes-l.result c.volumes-l.ensures c.if-count-eq0.false c.first_unsound-unsound.result c.first_unsound-unsound.ensures c.if-unsound-ne0.true

pub loop-i-init : goal.loop-i-init
loop-i-init c = came-first c.args.class c.args.s.now c.args.limit (length c.args.t.now) c.volumes-l.result c.volumes-l.ensures c.if-count-eq0.false (sym c.first_unsound-unsound.ensures ∙ c.if-unsound-ne0.false) c.nothing_yet-here.result c.nothing_yet-here.ensures c.args.t.now refl c.requires.0

pub name_behind-following-requires : goal.name_behind-following-requires
name_behind-following-requires c = (count-few c.args.class c.args.s.now c.args.limit (length c.args.t.now) c.volumes-l.result c.loop-i.i (volume_desk c.loop-i.here c.loop-i.tally c.loop-i.symbols c.loop-i.layers c.loop-i.serials c.loop-i.used_all) c.loop-i.t c.loop-i.invariant, c.loop-i-test.true)

pub bounds-places-i : goal.bounds-places-i
bounds-places-i c = omega (arith, count-few c.args.class c.args.s.now c.args.limit (length c.args.t.now) c.volumes-l.result c.loop-i.i (volume_desk c.loop-i.here c.loop-i.tally c.loop-i.symbols c.loop-i.layers c.loop-i.serials c.loop-i.used_all) c.loop-i.t c.loop-i.invariant, c.loop-i-test.true)

pub bounds-lengths-i : goal.bounds-lengths-i
bounds-lengths-i c = omega (arith, count-few c.args.class c.args.s.now c.args.limit (length c.args.t.now) c.volumes-l.result c.loop-i.i (volume_desk c.loop-i.here c.loop-i.tally c.loop-i.symbols c.loop-i.layers c.loop-i.serials c.loop-i.used_all) c.loop-i.t c.loop-i.invariant, c.loop-i-test.true)

pub overflow_cast-v : goal.overflow_cast-v
overflow_cast-v c = omega (arith, count-few c.args.class c.args.s.now c.args.limit (length c.args.t.now) c.volumes-l.result c.loop-i.i (volume_desk c.loop-i.here c.loop-i.tally c.loop-i.symbols c.loop-i.layers c.loop-i.serials c.loop-i.used_all) c.loop-i.t c.loop-i.invariant, c.loop-i-test.true)

pub overflow_add-v : goal.overflow_add-v
overflow_add-v c = omega (arith, count-few c.args.class c.args.s.now c.args.limit (length c.args.t.now) c.volumes-l.result c.loop-i.i (volume_desk c.loop-i.here c.loop-i.tally c.loop-i.symbols c.loop-i.layers c.loop-i.serials c.loop-i.used_all) c.loop-i.t c.loop-i.invariant, c.loop-i-test.true)

pub slice_bounds-read_volume-end : goal.slice_bounds-read_volume-end
slice_bounds-read_volume-end c = search (rules, tally-long c.args.class c.args.s.now c.args.limit (length c.args.t.now) c.volumes-l.result c.loop-i.i (volume_desk c.loop-i.here c.loop-i.tally c.loop-i.symbols c.loop-i.layers c.loop-i.serials c.loop-i.used_all) c.loop-i.t c.loop-i.invariant)

pub read_volume-requires : goal.read_volume-requires
read_volume-requires c = volume_ready c.args.class c.args.s.now c.args.limit (length c.args.t.now) c.volumes-l.result c.loop-i.i (volume_desk c.loop-i.here c.loop-i.tally c.loop-i.symbols c.loop-i.layers c.loop-i.serials c.loop-i.used_all) c.loop-i.t c.loop-i.invariant c.loop-i-test.true c.part-body.result.now c.part-body.ensures c.requires.1

pub returns-in_err-here : goal.returns-in_err-here
returns-in_err-here c =
    let p = err_from_is_err_and c.from_residual.result c.from_residual.ensures.1 in
    rw (p.1, p.2) (stops c.args.class c.args.s.now c.args.limit (length c.args.t.now) c.volumes-l.result c.loop-i.i (volume_desk c.loop-i.here c.loop-i.tally c.loop-i.symbols c.loop-i.layers c.loop-i.serials c.loop-i.used_all) c.loop-i.t c.loop-i.invariant c.loop-i-test.true c.part-body.result.now c.part-body.ensures c.name_behind-following.result.now c.name_behind-following.ensures _ _ c.read_volume.result c.read_volume.ensures c.in_err-here.field-0.0 c.in_err-here.was)

pub loop-i-preserved : goal.loop-i-preserved
loop-i-preserved c = goes c.args.class c.args.s.now c.args.limit (length c.args.t.now) c.volumes-l.result c.loop-i.i (volume_desk c.loop-i.here c.loop-i.tally c.loop-i.symbols c.loop-i.layers c.loop-i.serials c.loop-i.used_all) c.loop-i.t c.loop-i.invariant c.loop-i-test.true c.part-body.result.now c.part-body.ensures c.name_behind-following.result.now c.name_behind-following.ensures _ _ c.read_volume.result c.read_volume.ensures c.in_ok-here.here c.in_ok-here.was c.read_volume.auto.t refl

pub overflow_cast-result-2 : goal.overflow_cast-result-2
overflow_cast-result-2 c = omega (arith, few-records c.args.class c.args.s.now c.args.limit (length c.args.t.now) c.volumes-l.result c.loop-i.i (volume_desk c.loop-i.here c.loop-i.tally c.loop-i.symbols c.loop-i.layers c.loop-i.serials c.loop-i.used_all) c.loop-i.t c.loop-i.invariant c.loop-i-test.false)

pub returns : goal.returns
returns c = (c.loop-i.invariant.set, accepts c.args.class c.args.s.now c.args.limit (length c.args.t.now) c.volumes-l.result c.loop-i.i (volume_desk c.loop-i.here c.loop-i.tally c.loop-i.symbols c.loop-i.layers c.loop-i.serials c.loop-i.used_all) c.loop-i.t c.loop-i.invariant c.loop-i-test.false, counts-records c.args.class c.args.s.now c.args.limit (length c.args.t.now) c.volumes-l.result c.loop-i.i (volume_desk c.loop-i.here c.loop-i.tally c.loop-i.symbols c.loop-i.layers c.loop-i.serials c.loop-i.used_all) c.loop-i.t c.loop-i.invariant c.loop-i-test.false, lays-records c.args.class c.args.s.now c.args.limit (length c.args.t.now) c.volumes-l.result c.loop-i.i (volume_desk c.loop-i.here c.loop-i.tally c.loop-i.symbols c.loop-i.layers c.loop-i.serials c.loop-i.used_all) c.loop-i.t c.loop-i.invariant c.loop-i-test.false)
