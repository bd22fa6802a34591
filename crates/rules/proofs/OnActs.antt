-- What holds of every state that an act may lead to. Each law is said once, here, over any property of states.
use Prim.Native.Nat.{ℕ, zero, suc, ◌+◌}
use mathlib.Core.Bool.{true, not}
use mathlib.Core.List.{List, [], ◌∷◌, map}
use mathlib.Core.Path.{◌≡◌, refl}
use lib.Dec.{ltb}
use lib.ListN.{length}
use Rattle.rules.specs.Base.{among}
use Rattle.rules.specs.RefusalNumbers.{Got, unless}
use Rattle.rules.specs.Lines.{Form, ignored, wrong, close, eof, keyed, free_shape_of}
use Rattle.rules.specs.RangeClass.{Skip, passes, deeper, no_form}
use Rattle.rules.specs.Values.{Value, is_layer_id}
use Rattle.rules.specs.Rows.{Act, stay, entry, begin, shut, refuse}
use Rattle.rules.specs.Blocks.{most_layers}
use Rattle.rules.specs.Sets.{Drawing, Set, with_records, with_layer}
use Rattle.rules.specs.RecordTable.{kind_layer}
use Rattle.rules.specs.Machine.{Line, Env, State, drawing, layer_names, by_act, room_for, shut_part, layer_value, on_layer_names}
use Rattle.rules.specs.PlacedSymbol.{by_skip}
use Rattle.rules.proofs.Chains.{On, on-unless, on_then}

module _ (P : State → Type 0) where
  pub on-by_act : (now : State) (entered : ℕ → Value → Got State) (opened : ℕ → ℕ → Value → Got State) (closed : Unit {0} → Got State) (a : Act)
      → P now
      → ((j : ℕ) (v : Value) → On P (entered j v))
      → ((i j : ℕ) (v : Value) → a ≡ begin i j v → On P (opened i j v))
      → On P (closed tt)
      → On P (by_act now entered opened closed a)
  on-by_act now entered opened closed stay p q r s = p
  on-by_act now entered opened closed (entry j v) p q r s = q j v
  on-by_act now entered opened closed (begin i j v) p q r s = r i j v refl
  on-by_act now entered opened closed shut p q r s = s
  on-by_act now entered opened closed (refuse n) p q r s = tt

  pub on-taking : (e : Env) (n : ℕ) (s : Set) (g : Got State) → (room_for e.limit (s.taken + n) ≡ true → On P g) → On P (unless (room_for e.limit (s.taken + n)) 19 g)
  on-taking e n s g h = on-unless P (room_for e.limit (s.taken + n)) 19 g h

  pub on-shut : (p : ℕ) (whole : Got State) (back : ℕ → State) → On P whole → ((q : ℕ) → P (back q)) → On P (shut_part p whole back)
  on-shut zero whole back w b = w
  on-shut (suc p) whole back w b = b _

  -- a line in `layer_name`: another layer, where it may be declared and has room
  pub on-layers : (e : Env) (l : Line) (s : Set) (d : Drawing) (f : Form) → P (layer_names s d) → P (drawing s d)
      → ((k : List ℕ) (v : Value) → room_for e.limit (s.taken + 1) ≡ true → P (layer_names (with_records (kind_layer ∷ []) s) (with_layer (record { line = l.line; id = k; name = v }) d)))
      → On P (on_layer_names e l s d f)
  on-layers e l s d ignored p q r = p
  on-layers e l s d (wrong n) p q r = tt
  on-layers e l s d close p q r = q
  on-layers e l s d eof p q r = tt
  on-layers e l s d (keyed k c) p q r =
      on-unless P (is_layer_id k) 6 _ λ _.
      on_then P (layer_value k (free_shape_of c)) _ λ v _.
      on-unless P (ltb (length d.layers) most_layers) 11 _ λ _.
      on-unless P (not (among k (map (λ y. y.id) d.layers))) 14 _ λ _.
      on-taking e 1 s _ λ w. r k v w

  pub on_skip : (k : Skip) (now inside : Got State) → On P now → On P inside → On P (by_skip k now inside)
  on_skip passes now inside p q = p
  on_skip deeper now inside p q = q
  on_skip no_form now inside p q = tt
