-- The state by the number of the block that is open.
use Prim.Native.Nat.{ℕ}
use mathlib.Core.Bool.{Bool}
use mathlib.Core.List.{List, [], ◌∷◌}
use mathlib.Core.Path.{◌≡◌, sym, subst}
use lib.ListN.{get_or}
use Rattle.rules.specs.declared.Class.{Class}
use Rattle.rules.specs.Rows.{Slots, Held}
use Rattle.rules.specs.Sets.{Point, Wire, Figure, Drawing, Symbol, Set}
use Rattle.rules.specs.Machine.{Home, State, top, file, drawing, layer_names, defines, symbol, hide, elements, figures, successive, texts, placing, skipping, ended}
use Rattle.rules.specs.Machine.{symbol_block, wire_block, wire_unread}
use Rattle.standing.specs.Standing.{Desk, Inside}

pub data AtTop : State → Type 0 where
  here : (s : Set) (m : ℕ) → AtTop (top s m)

pub data InFileFormat : State → Type 0 where
  here : (s : Set) (n : ℕ) (h : Held) (p : ℕ) → InFileFormat (file s n h p)

pub data InDrawingFormat : State → Type 0 where
  here : (s : Set) (w : Drawing) → InDrawingFormat (drawing s w)

pub data InLayerNames : State → Type 0 where
  here : (s : Set) (w : Drawing) → InLayerNames (layer_names s w)

pub data InDefines : State → Type 0 where
  here : (s : Set) (b : Bool) → InDefines (defines s b)

pub data InASymbol : State → Type 0 where
  here : (s : Set) (y : Symbol) → InASymbol (symbol s y)

pub data InAHide : State → Type 0 where
  here : (s : Set) (y : Symbol) (ps : List Point) → InAHide (hide s y ps)

pub data InElement : State → Type 0 where
  here : (s : Set) → InElement (elements s)

pub data AmongFigures : State → Type 0 where
  here : (s : Set) (h : Home) (fs : List Figure) → AmongFigures (figures s h fs)

pub data InAChain : State → Type 0 where
  here : (s : Set) (h : Home) (fs : List Figure) (n : ℕ) (ps : List Point) → InAChain (successive s h fs n ps)

pub data InAText : State → Type 0 where
  here : (s : Set) (h : Home) (fs : List Figure) (n : ℕ) (o : Slots) → InAText (texts s h fs n o)

pub data InAPlaced : State → Type 0 where
  here : (s : Set) (m : ℕ) (fs : List Figure) (n : ℕ) (o : Held) (p : ℕ) → InAPlaced (placing s m fs n (symbol_block o) p)

-- read, or skipped whole
pub data InAWire : State → Type 0 where
  here : (s : Set) (m : ℕ) (fs : List Figure) (n : ℕ) (w : Wire) (p : ℕ) → InAWire (placing s m fs n (wire_block w) p)
  unread : (s : Set) (m : ℕ) (fs : List Figure) (n : ℕ) (p : ℕ) → InAWire (skipping s m fs n wire_unread p)

-- the blocks by their numbers; behind EOF none is open
abbrev Open : ℕ → State → Type 0
Open n st = get_or (AtTop st ∷ InFileFormat st ∷ InDrawingFormat st ∷ InLayerNames st ∷ InDefines st ∷ InASymbol st ∷ InAHide st ∷ InElement st ∷ AmongFigures st ∷ InAChain st ∷ InAText st ∷ InAPlaced st ∷ InAWire st ∷ []) n (Unit {0})

module _ (c : Class) (spool : List ℕ) (k : ℕ) (d : Desk) (F : Set → ℕ → Held → ℕ → Type 0) where
  open_block : (st : State) → Inside c spool k d F st → Open d.now.block st
  open_block (top s m) i = subst (λ (block : ℕ). Open block (top s m)) (sym i.0) (here s m)
  open_block (file s n h p) i = subst (λ (block : ℕ). Open block (file s n h p)) (sym i.0) (here s n h p)
  open_block (drawing s w) i = subst (λ (block : ℕ). Open block (drawing s w)) (sym i.0) (here s w)
  open_block (layer_names s w) i = subst (λ (block : ℕ). Open block (layer_names s w)) (sym i.0) (here s w)
  open_block (defines s b) i = subst (λ (block : ℕ). Open block (defines s b)) (sym i.0) (here s b)
  open_block (symbol s y) i = subst (λ (block : ℕ). Open block (symbol s y)) (sym i.0) (here s y)
  open_block (hide s y ps) i = subst (λ (block : ℕ). Open block (hide s y ps)) (sym i.0) (here s y ps)
  open_block (elements s) i = subst (λ (block : ℕ). Open block (elements s)) (sym i.0) (here s)
  open_block (figures s h fs) i = subst (λ (block : ℕ). Open block (figures s h fs)) (sym i.0) (here s h fs)
  open_block (successive s h fs n ps) i = subst (λ (block : ℕ). Open block (successive s h fs n ps)) (sym i.0) (here s h fs n ps)
  open_block (texts s h fs n o) i = subst (λ (block : ℕ). Open block (texts s h fs n o)) (sym i.0) (here s h fs n o)
  open_block (placing s m fs n (symbol_block o) p) i = subst (λ (block : ℕ). Open block (placing s m fs n (symbol_block o) p)) (sym i.0) (here s m fs n o p)
  open_block (placing s m fs n (wire_block w) p) i = subst (λ (block : ℕ). Open block (placing s m fs n (wire_block w) p)) (sym i.0) (here s m fs n w p)
  open_block (placing s m fs n wire_unread p) i = absurd i
  open_block (skipping s m fs n (symbol_block o) p) i = absurd i
  open_block (skipping s m fs n (wire_block w) p) i = absurd i
  open_block (skipping s m fs n wire_unread p) i = subst (λ (block : ℕ). Open block (skipping s m fs n wire_unread p)) (sym i.0) (unread s m fs n p)
  open_block (ended s) i = subst (λ (block : ℕ). Open block (ended s)) (sym i) tt

  pub at_top : (st : State) → Inside c spool k d F st → d.now.block ≡ 0 → AtTop st
  at_top st i q = subst (λ (block : ℕ). Open block st) q (open_block st i)

  pub in-file : (st : State) → Inside c spool k d F st → d.now.block ≡ 1 → InFileFormat st
  in-file st i q = subst (λ (block : ℕ). Open block st) q (open_block st i)

  pub in-drawing : (st : State) → Inside c spool k d F st → d.now.block ≡ 2 → InDrawingFormat st
  in-drawing st i q = subst (λ (block : ℕ). Open block st) q (open_block st i)

  pub in-names : (st : State) → Inside c spool k d F st → d.now.block ≡ 3 → InLayerNames st
  in-names st i q = subst (λ (block : ℕ). Open block st) q (open_block st i)

  pub in-defines : (st : State) → Inside c spool k d F st → d.now.block ≡ 4 → InDefines st
  in-defines st i q = subst (λ (block : ℕ). Open block st) q (open_block st i)

  pub in-symbol : (st : State) → Inside c spool k d F st → d.now.block ≡ 5 → InASymbol st
  in-symbol st i q = subst (λ (block : ℕ). Open block st) q (open_block st i)

  pub in-hide : (st : State) → Inside c spool k d F st → d.now.block ≡ 6 → InAHide st
  in-hide st i q = subst (λ (block : ℕ). Open block st) q (open_block st i)

  pub in-element : (st : State) → Inside c spool k d F st → d.now.block ≡ 7 → InElement st
  in-element st i q = subst (λ (block : ℕ). Open block st) q (open_block st i)

  pub among-figures : (st : State) → Inside c spool k d F st → d.now.block ≡ 8 → AmongFigures st
  among-figures st i q = subst (λ (block : ℕ). Open block st) q (open_block st i)

  pub in-chain : (st : State) → Inside c spool k d F st → d.now.block ≡ 9 → InAChain st
  in-chain st i q = subst (λ (block : ℕ). Open block st) q (open_block st i)

  pub in-text : (st : State) → Inside c spool k d F st → d.now.block ≡ 10 → InAText st
  in-text st i q = subst (λ (block : ℕ). Open block st) q (open_block st i)

  pub in-placed : (st : State) → Inside c spool k d F st → d.now.block ≡ 11 → InAPlaced st
  in-placed st i q = subst (λ (block : ℕ). Open block st) q (open_block st i)

  pub in-wire : (st : State) → Inside c spool k d F st → d.now.block ≡ 12 → InAWire st
  in-wire st i q = subst (λ (block : ℕ). Open block st) q (open_block st i)
