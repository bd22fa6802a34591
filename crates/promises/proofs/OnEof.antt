-- What holds of the state that EOF leads to. Said once, over any property of states.
use Prim.Native.Nat.{ℕ}
use mathlib.Core.Bool.{true, ◌&&◌, ◌||◌, not}
use mathlib.Core.Path.{◌≡◌}
use lib.Dec.{eqb}
use Rattle.rules.specs.Sets.{Set}
use Rattle.rules.specs.VolumesAndTotals.{counted_all, layers_used, partners_exist}
use Rattle.rules.specs.Machine.{Line, in_last_volume, Env, State, past_element, ended, tests_partners, at_eof}
use Rattle.rules.proofs.Chains.{and_left, and_right, On, on-unless}

-- EOF ends the set behind ELEMENT, on the last line of the last volume, where each layer is used, all_ele is as many as there are and the
-- partners that are tested are there
pub record MayEnd (e : Env) (l : Line) (s : Set) (k : ℕ) : Type 0 where
  pub behind : eqb k past_element ≡ true
  pub last : (in_last_volume l && l.last) ≡ true
  pub used : layers_used s ≡ true
  pub counted : counted_all s ≡ true
  pub partners : (not (tests_partners e.class s) || partners_exist s) ≡ true

pub on-eof : (P : State → Type 0) (e : Env) (l : Line) (s : Set) (k : ℕ) → (MayEnd e l s k → P (ended s)) → On P (at_eof e l s k)
on-eof P e l s k h =
    let behind = eqb k past_element in
    let last = in_last_volume l && l.last in
    on-unless P (behind && last) 9 _ λ b.
    on-unless P (layers_used s) 14 _ λ u.
    on-unless P (counted_all s) 17 _ λ c.
    on-unless P (not (tests_partners e.class s) || partners_exist s) 21 _ λ p.
    h (record { behind = and_left behind last b; last = and_right behind last b; used = u; counted = c; partners = p })
