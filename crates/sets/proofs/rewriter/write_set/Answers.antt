use native.Mathlib.Omega.{arith}
use Rattle.sets.proofs.Rewritten.{wrote-inside, wrote-few, rewrites-accepted, rewrites-full}
use Rattle.sets.proofs.rewriter.write_set.Goals as goal

pub slice_bounds-clear-count : goal.slice_bounds-clear-count
slice_bounds-clear-count c = wrote-inside c.args.s.now c.args.out.now c.put_set.new.out c.put_set.result c.requires c.put_set.ensures.0 c.put_set.ensures.1 _ c.in-Ok.is

pub slice_bounds-clear-start : goal.slice_bounds-clear-start
slice_bounds-clear-start c = wrote-inside c.args.s.now c.args.out.now c.put_set.new.out c.put_set.result c.requires c.put_set.ensures.0 c.put_set.ensures.1 _ c.in-Ok.is

pub overflow_cast-result : goal.overflow_cast-result
overflow_cast-result c = omega (arith, wrote-few c.args.s.now c.args.out.now c.put_set.new.out c.put_set.result c.requires c.put_set.ensures.0 c.put_set.ensures.1 _ c.in-Ok.is)

pub returns-in-Ok : goal.returns-in-Ok
returns-in-Ok c = rewrites-accepted c.args.s.now c.args.out.now c.put_set.new.out c.put_set.result c.requires c.put_set.ensures.0 c.put_set.ensures.1 _ c.in-Ok.is c.clear.new.out c.clear.ensures

pub returns-in-Err : goal.returns-in-Err
returns-in-Err c = rewrites-full c.args.s.now c.args.out.now c.put_set.new.out c.put_set.result c.requires c.put_set.ensures.0 c.put_set.ensures.1 c.in-Err.is c.clear-in-Err.new.out c.clear-in-Err.ensures
