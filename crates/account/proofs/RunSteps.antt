-- One line of the reading: where it is the last of its volume, and where it is not.
use Prim.Native.Nat.{ℕ, min}
use mathlib.Core.Bool.{Bool, true, false, cond}
use mathlib.Core.List.{List, ◌∷◌}
use mathlib.Core.Path.{◌≡◌, refl, ◌∙◌, ap}
use Rattle.rules.specs.Base.{is_nil}
use Rattle.rules.specs.RefusalNumbers.{Got, got, bad, map_g, also}
use Rattle.rules.specs.Machine.{Line, Env, State}
use Rattle.rules.specs.LineByLine.{step_in, within_other, stage_of, completes, next_volume, Outcome, refused, then_run, run}
use Rattle.rules.proofs.Chains.{cond_same}

-- the number that a volume's last line has in a block: the block has not closed
abbrev pub early : Got State → ℕ
early (got s) = 9
early (bad m) = min m 9

early-step : (g : Got State) (l : Line) (f : State → Outcome) → then_run (map_g next_volume (also false 9 g)) l f ≡ refused (early g) l.volume l.line
early-step (got s) l f = refl
early-step (bad m) l f = refl

-- in a block other than ELEMENT no line completes the volume
incomplete : (l : Line) (st : State) → stage_of st ≡ within_other → completes l st ≡ false
incomplete l st h = rw h (cond_same (is_nil l.next) false)

module _ (e : Env) (st : State) (l : Line) (ls : List Line) where
  abbrev after : Got State → Outcome
  after g = then_run g l (λ s'. run e s' ls)

  abbrev as_last : Bool → Bool → Got State
  as_last last done = cond last (map_g next_volume (also done 9 (step_in e l st))) (step_in e l st)

  by_last : (b : Bool) → l.last ≡ b → run e st (l ∷ ls) ≡ after (as_last b (completes l st))
  by_last b h = ap (λ (b : Bool). after (as_last b (completes l st))) h

  -- a line that is not its volume's last
  pub step-on : (st' : State) → l.last ≡ false → step_in e l st ≡ got st' → run e st (l ∷ ls) ≡ run e st' ls
  step-on st' h g = by_last false h ∙ ap after g

  pub step-refused : (n : ℕ) → l.last ≡ false → step_in e l st ≡ bad n → run e st (l ∷ ls) ≡ refused n l.volume l.line
  step-refused n h g = by_last false h ∙ ap after g

  -- one that is, in a block
  pub step-early : stage_of st ≡ within_other → l.last ≡ true → run e st (l ∷ ls) ≡ refused (early (step_in e l st)) l.volume l.line
  step-early i h = by_last true h ∙ ap (λ (b : Bool). after (as_last true b)) (incomplete l st i) ∙ early-step (step_in e l st) l (λ s'. run e s' ls)
