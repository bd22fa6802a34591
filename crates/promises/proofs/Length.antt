-- The fixed form of a set that was read is never longer than the lines it was read from.
use Prim.Native.Nat.{ℕ, ◌+◌, ◌≤◌}
use mathlib.Core.List.{List, [], ◌∷◌}
use mathlib.Core.Path.{◌≡◌, ap}
use native.Mathlib.Omega.{arith}
use Rattle.rules.specs.Base.{total}
use Rattle.rules.specs.RefusalNumbers.{Got, got, bad, map_g, also}
use Rattle.rules.specs.Values.{Known}
use Rattle.rules.specs.Sets.{Set, nothing_yet, known_of}
use Rattle.rules.specs.Machine.{Line, Env, State, top, file, drawing, layer_names, defines, symbol, hide, elements, figures, successive, texts, placing, skipping, ended, wire_block, wire_unread}
use Rattle.rules.specs.LineByLine.{step_in, completes, next_volume, step, accepted, then_run, run}
use Rattle.rules.specs.FixedForm.{volume_lines}
use Rattle.rules.specs.Machine.{symbol_block}
use Rattle.rules.proofs.Runs.{not-accepted, finish-ended}
use Rattle.rules.proofs.Chains.{On, on-cond, on-map, on-also, on_weaken}
use Rattle.promises.proofs.Forms.{Told}
use Rattle.promises.proofs.Sizes.{Tolds}
use Rattle.promises.proofs.Weights.{weigh, volumes-weight}
use Rattle.promises.proofs.Costs.{cost, closed-least, owed, Ok, Next}
use Rattle.promises.proofs.LengthBlocks.{file-next, top-next, drawing-next, layers-next, defines-next, symbol-next, hide-next}
use Rattle.promises.proofs.LengthFigures.{elements-next, figures-next, successive-next, texts-next, placing-next, skipping-next}
use Rattle.promises.proofs.LengthWires.{wire-next}

in-next : (K : Known) (n : ℕ) (e : Env) (l : Line) (st : State) → Ok st → Told n l.form → On (Next K st n) (step_in e l st)
in-next K n e l (top s k) ok t = top-next K n e l s k l.form ok t
in-next K n e l (file s m h p) ok t = file-next K n l s m h p l.form t
in-next K n e l (drawing s d) ok t = drawing-next K n s d l.form ok t
in-next K n e l (layer_names s d) ok t = layers-next K n e l s d l.form ok t
in-next K n e l (defines s b) ok t = defines-next K n e l s b l.form ok t
in-next K n e l (symbol s y) ok t = symbol-next K n s y l.form ok t
in-next K n e l (hide s y ps) ok t = hide-next K n e l s y ps l.form ok t
in-next K n e l (elements s) ok t = elements-next K n s l.form t
in-next K n e l (figures s h fs) ok t = figures-next K n e l s h fs l.form ok t
in-next K n e l (successive s h fs m ps) ok t = successive-next K n e l s h fs m ps l.form ok t
in-next K n e l (texts s h fs m o) ok t = texts-next K n s h fs m o l.form ok t
in-next K n e l (placing s h fs m (symbol_block o) p) ok t = placing-next K n s h fs m o e p l.form t
in-next K n e l (placing s h fs m (wire_block w) p) ok t = wire-next K n e l s h fs m w p l.form t
in-next K n e l (placing s h fs m wire_unread p) ok t = tt
in-next K n e l (skipping s h fs m b d) ok t = skipping-next K n s h fs m b d l.form t
in-next K n e l (ended s) ok t = tt

-- the next volume begins with no more
volume-next : (K : Known) (st : State) (n : ℕ) (st' : State) → Next K st n st' → Next K st n (next_volume st')
volume-next K st n (top s k) z = (tt, omega (arith, z.1, closed-least K s k))
volume-next K st n (file s m h p) z = z
volume-next K st n (drawing s d) z = z
volume-next K st n (layer_names s d) z = z
volume-next K st n (defines s b) z = z
volume-next K st n (symbol s y) z = z
volume-next K st n (hide s y ps) z = z
volume-next K st n (elements s) z = z
volume-next K st n (figures s h fs) z = z
volume-next K st n (successive s h fs m ps) z = z
volume-next K st n (texts s h fs m o) z = z
volume-next K st n (placing s h fs m o p) z = z
volume-next K st n (skipping s h fs m o d) z = z
volume-next K st n (ended s) z = z

step-next : (K : Known) (n : ℕ) (e : Env) (l : Line) (st : State) → Ok st → Told n l.form → On (Next K st n) (step e l st)
step-next K n e l st ok t =
    let z : On (Next K st n) (step_in e l st) = in-next K n e l st ok t in
    on-cond (Next K st n) l.last (map_g next_volume (also (completes l st) 9 (step_in e l st))) (step_in e l st)
    (λ _. on-map (Next K st n) next_volume (also (completes l st) 9 (step_in e l st))
    (on-also (λ st'. Next K st n (next_volume st')) (completes l st) 9 (step_in e l st) λ _. on_weaken (Next K st n) (λ st'. Next K st n (next_volume st')) (volume-next K st n) (step_in e l st) z))
    (λ _. z)

run-cost : (K : Known) (e : Env) (ls : List Line) (ns : List ℕ) (st : State) (s : Set) → Ok st → Tolds ls ns → run e st ls ≡ accepted s
    → cost K (ended s) + owed st ≤ cost K st + total (λ n. n + 2) ns
run-cost K e [] [] st s ok t q = let p = finish-ended st s q in omega (arith, ap (cost K) p, ap owed p)
run-cost K e [] (n ∷ ns) st s ok t q = absurd t
run-cost K e (l ∷ ls) [] st s ok t q = absurd t
run-cost K e (l ∷ ls) (n ∷ ns) st s ok t q = go (step e l st) (step-next K n e l st ok t.0) (λ st' ok'. run-cost K e ls ns st' s ok' t.1) q
  where
    go : (g : Got State) → On (Next K st n) g → ((st' : State) → Ok st' → run e st' ls ≡ accepted s → cost K (ended s) + owed st' ≤ cost K st' + total (λ n. n + 2) ns)
        → then_run g l (λ st'. run e st' ls) ≡ accepted s → cost K (ended s) + owed st ≤ cost K st + (n + 2 + total (λ n. n + 2) ns)
    go (got st') z ih q = omega (arith, z.1, ih st' z.0 q)
    go (bad m) z ih q = not-accepted q

pub fixed-short : (e : Env) (ls : List Line) (ns : List ℕ) (s : Set) → Tolds ls ns → run e (top nothing_yet 0) ls ≡ accepted s
    → total weigh (volume_lines s s.volumes) ≤ total (λ n. n + 2) ns
fixed-short e ls ns s t q = omega (arith, volumes-weight s s.volumes, run-cost (known_of s) e ls ns (top nothing_yet 0) s tt t q)
