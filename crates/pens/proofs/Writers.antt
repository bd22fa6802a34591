-- Texts written into the rest of the output, one behind the other, and parts of it exchanged.
use Rattle.std.specs.Prelude.{Result, Ok, Err}
use Prim.Native.Nat.{ℕ, ◌+◌, ◌-◌, ◌≤◌, ◌<◌}
use mathlib.Core.Bool.{Bool, true, false, cond}
use mathlib.Core.List.{List, [], ◌++◌, append_assoc, append-nil}
use mathlib.Core.Path.{◌≡◌, refl, sym, ◌∙◌, ap, subst}
use native.Mathlib.Omega.{arith}
use borrow.Author.Tests.{leb-true, leb-false}
use borrow.Rule.Slice.PartMut.{put_mid, same_len_mid}
use lib.Dec.{leb}
use lib.ListN.{length, take, drop, length-append, length-drop, drop_of_length-le, take-append-drop}
use lib.Seq.{take_at, drop_at, drop-drop, drop-append-add, length-take-le, take-add}
use Rattle.leaves.proofs.Scan.{rest_all}
use Rattle.prints.specs.Printing.{Prints, Within}
use Rattle.pens.specs.declared.Pen.{Pen}
use Rattle.pens.specs.Texts.{laid, Draws, Inserts, Safe}
use Rattle.pens.specs.Moves.{moved}
use Rattle.pens.specs.KeyWriting.{Kept}
use Rattle.pens.proofs.Laying.{front_of}
use Rattle.leaves.specs.declared.NoRoom.{NoRoom}
use Rattle.leaves.specs.NoRoom.{no_room}

full-bytes : {P : Type 0} {n : ℕ} → (Err no_room) ≡ Ok n → P
full-bytes e = absurd (let z : ◌≡◌ {A = ℕ} 0 1 = cc in omega arith)

same_bytes : (n m : ℕ) → ◌≡◌ {A = Result ℕ NoRoom} (Ok n) (Ok m) → n ≡ m
same_bytes n m e = cc

-- n bytes were written at a place, and they are x
pub record Lays (x : List ℕ) (n a : ℕ) (before after : List ℕ) : Type 0 where
  pub size : n ≡ length x
  pub room : a + length x ≤ length before
  pub lies : after ≡ laid x a before

-- ── a text in the rest of the output, which was lent ──
module _ (out : List ℕ) (a : ℕ) (h : a ≤ length out) (w : List ℕ) (r : Result ℕ NoRoom) where
  abbrev rest : List ℕ
  rest = take (length out - a) (drop a out)

  abbrev whole : List ℕ
  whole = put_mid a (length out - a) out w

  rest-long : length rest ≡ length out - a
  rest-long = ap (λ (l : List ℕ). length l) (rest_all a out) ∙ length-drop a out

  back : whole ≡ take a out ++ w
  back =
      ap (λ (l : List ℕ). take a out ++ (w ++ l)) (drop_of_length-le (drop a out) {i = length out - a} (omega (arith, length-drop a out)))
      ∙ ap (λ (l : List ℕ). take a out ++ l) (append-nil w)

  -- whatever was written
  module _ (i : Within rest w r) where
    pub kept-long : length whole ≡ length out
    kept-long = same_len_mid a (length out - a) out w i.long

    pub room-left : (n : ℕ) → r ≡ Ok n → a + n ≤ length out
    room-left n e = omega (arith, i.within n e, rest-long, h)

    pub kept-go : (n : ℕ) (next p : Pen) → r ≡ Ok n → p ≡ next → next.start ≤ a + n → next.at ≡ a + n → Kept out whole (Ok p)
    kept-go n next p e q s t =
        subst (λ (x : Pen). Kept out whole (Ok x)) (sym q)
        record { safe = record { begun = omega (arith, s, t); within = omega (arith, t, room-left n e, kept-long) }; long = kept-long }

    pub kept_full : Kept out whole (Err no_room)
    kept_full = record { safe = tt; long = kept-long }

  -- the text x, or there is no room for it
  module _ (x : List ℕ) (i : Prints x rest w r) where
    pub lays : (n : ℕ) → r ≡ Ok n → Lays x n a out whole
    lays n e = go (leb (length x) (length rest)) refl (sym e ∙ i.answer)
      where
        go : (t : Bool) → leb (length x) (length rest) ≡ t → Ok n ≡ cond t (Ok (length x)) (Err no_room) → Lays x n a out whole
        go true f z =
            let l : length x ≤ length rest = leb-true (length x) (length rest) f in
            record {
              size = same_bytes n (length x) z;
              room = omega (arith, l, rest-long, h);
              lies =
                  back
                  ∙ ap (λ (u : List ℕ). take a out ++ u) (i.memory l ∙ ap (λ (u : List ℕ). x ++ u) (ap (drop (length x)) (rest_all a out) ∙ drop-drop (length x) a out));
            }
        go false f z = full-bytes (sym z)

    pub room-lacks : r ≡ Err no_room → length out < a + length x
    room-lacks e = go (leb (length x) (length rest)) refl (sym e ∙ i.answer)
      where
        go : (t : Bool) → leb (length x) (length rest) ≡ t → (Err no_room) ≡ cond t (Ok (length x)) (Err no_room) → length out < a + length x
        go true f z = full-bytes z
        go false f z = let l : length rest < length x = leb-false (length x) (length rest) f in omega (arith, l, rest-long, h)

-- ── what is drawn with it ──
pub drawn-none : (x : List ℕ) (a : ℕ) (next : Pen) (before after : List ℕ) → length before < a + length x → Draws x a next before after (Err no_room)
drawn-none x a next before after h = record { drawn = λ f. absurd (omega (arith, f, h)); full = λ _. refl }

-- nothing
pub drawn-nothing : (a : ℕ) (p : Pen) (out : List ℕ) → a ≤ length out → Draws [] a p out out (Ok p)
drawn-nothing a p out h = record { drawn = λ f. (refl, same); full = λ f. absurd (omega (arith, f, h)) }
  where
    none : a + 0 ≡ a
    none = omega arith

    same : out ≡ laid [] a out
    same = sym (ap (λ (k : ℕ). take a out ++ drop k out) none ∙ take-append-drop a out)

-- a text behind u, which is b long
laid-behind : (u v y : List ℕ) (b : ℕ) → length u ≡ b → laid y b (u ++ v) ≡ u ++ (y ++ drop (length y) v)
laid-behind u v y b e =
    ap (λ (l : List ℕ). l ++ (y ++ drop (b + length y) (u ++ v))) (take_at u v b e)
    ∙ ap (λ (l : List ℕ). u ++ (y ++ l)) (ap (λ (k : ℕ). drop (k + length y) (u ++ v)) (sym e) ∙ drop-append-add u v (length y))

module _ (x : List ℕ) (n a : ℕ) (before after : List ℕ) (l : Lays x n a before after) where
  pub drawn-go : (next : ℕ → Pen) (p : Pen) → p ≡ next n → Draws x a (next (length x)) before after (Ok p)
  drawn-go next p e = record { drawn = λ f. (ap Ok (e ∙ ap next l.size), l.lies); full = λ f. absurd (omega (arith, f, l.room)) }

  abbrev beyond : List ℕ
  beyond = drop (a + length x) before

  front_long : length (take a before) ≡ a
  front_long = length-take-le a before (omega (arith, l.room))

  same-long : length after ≡ length before
  same-long =
      ap (λ (u : List ℕ). length u) l.lies ∙ length-append (take a before) (x ++ beyond)
      ∙ omega (arith, l.room, length-append x beyond, length-drop (a + length x) before, front_long)

  -- another text behind it
  module _ (y last : List ℕ) (next : Pen) (d : Result Pen NoRoom) where
    both_long : a + length (x ++ y) ≡ a + length x + length y
    both_long = omega (arith, length-append x y)

    -- both in the output
    both : laid y (a + n) after ≡ laid (x ++ y) a before
    both =
        ap (laid y (a + n)) (l.lies ∙ sym (append_assoc (take a before) x beyond))
        ∙ laid-behind (take a before ++ x) beyond y (a + n) (length-append (take a before) x ∙ omega (arith, front_long, l.size))
        ∙ append_assoc (take a before) x (y ++ drop (length y) beyond)
        ∙ ap (λ (u : List ℕ). take a before ++ u) (
        sym (append_assoc x y (drop (length y) beyond))
        ∙ ap (λ (u : List ℕ). (x ++ y) ++ u) (drop-drop (length y) (a + length x) before ∙ ap (λ (k : ℕ). drop k before) (sym both_long))
        )

    pub drawn_then : Draws y (a + n) next after last d → Draws (x ++ y) a next before last d
    drawn_then w = record {
      drawn = λ f. let (go, lies) = w.drawn (omega (arith, f, both_long, same-long, l.size)) in (go, lies ∙ both);
      full = λ f. w.full (omega (arith, f, both_long, same-long, l.size));
    }

  -- ── the text exchanged with what stands before it ──
  module _ (start : ℕ) (s : start ≤ a) (part : List ℕ) where
    abbrev inner : List ℕ
    inner = take (a - start) (drop start before)

    abbrev lent : List ℕ
    lent = take (a + n - start) (drop start after)

    abbrev changed : List ℕ
    changed = put_mid start (a + n - start) after part

    start-long : length (take start before) ≡ start
    start-long = length-take-le start before (omega (arith, l.room, s))

    inner-long : length inner ≡ a - start
    inner-long = length-take-le (a - start) (drop start before) (omega (arith, l.room, s, length-drop start before))

    -- what stands before the text
    before_it : take a before ≡ take start before ++ inner
    before_it =
        ap (λ (k : ℕ). take k before) (let e : a ≡ start + (a - start) = omega (arith, s) in e)
        ∙ take-add start (a - start) before

    after_is : after ≡ take start before ++ (inner ++ (x ++ beyond))
    after_is =
        l.lies ∙ ap (λ (u : List ℕ). u ++ (x ++ beyond)) before_it
        ∙ append_assoc (take start before) inner (x ++ beyond)

    from_start : drop start after ≡ inner ++ (x ++ beyond)
    from_start = ap (drop start) after_is ∙ drop_at (take start before) (inner ++ (x ++ beyond)) start start-long

    lent_is : lent ≡ inner ++ x
    lent_is = ap (take (a + n - start)) from_start ∙ front_of inner x beyond (a + n - start) (omega (arith, inner-long, l.size, s))

    module _ (e : part ≡ drop (a - start) lent ++ take (a - start) lent) where
      part-is : part ≡ x ++ inner
      part-is =
          e ∙ ap (λ (u : List ℕ). drop (a - start) u ++ take (a - start) u) lent_is
          ∙ ap (λ (u : List ℕ). u ++ take (a - start) (inner ++ x)) (drop_at inner x (a - start) inner-long)
          ∙ ap (λ (u : List ℕ). x ++ u) (take_at inner x (a - start) inner-long)

      changed-is : changed ≡ (take start before ++ (x ++ inner)) ++ beyond
      changed-is =
          ap (λ (u : List ℕ). u ++ (part ++ drop (a + n - start) (drop start after))) (ap (take start) after_is ∙ take_at (take start before) (inner ++ (x ++ beyond)) start start-long)
          ∙ ap (λ (u : List ℕ). take start before ++ (u ++ drop (a + n - start) (drop start after))) part-is
          ∙ ap (λ (u : List ℕ). take start before ++ ((x ++ inner) ++ u)) (
          ap (drop (a + n - start)) (from_start ∙ sym (append_assoc inner x beyond))
          ∙ drop_at (inner ++ x) beyond (a + n - start) (length-append inner x ∙ omega (arith, inner-long, l.size, s))
          )
          ∙ sym (append_assoc (take start before) (x ++ inner) beyond)

      changed-long : length (take start before ++ (x ++ inner)) ≡ a + n
      changed-long = length-append (take start before) (x ++ inner) ∙ omega (arith, start-long, length-append x inner, inner-long, l.size, s)

      all-long : length changed ≡ length before
      all-long =
          ap (λ (u : List ℕ). length u) changed-is ∙ length-append (take start before ++ (x ++ inner)) beyond
          ∙ omega (arith, changed-long, length-drop (a + length x) before, l.room, l.size)

      -- and a text behind both
      pub inserted : (y last : List ℕ) (next : Pen) (d : Result Pen NoRoom) → Draws y (a + n) next changed last d → Inserts x y start a next before last d
      inserted y last next d w = record {
        drawn = λ f. let (go, lies) = w.drawn (omega (arith, f, all-long, l.size)) in (go, lies ∙ now-there);
        full = λ f. w.full (omega (arith, f, all-long, l.size));
      }
        where
          now-there : laid y (a + n) changed ≡ take start before ++ (x ++ (inner ++ (y ++ drop (a + length x + length y) before)))
          now-there =
              ap (laid y (a + n)) changed-is
              ∙ laid-behind (take start before ++ (x ++ inner)) beyond y (a + n) changed-long
              ∙ ap (λ (u : List ℕ). (take start before ++ (x ++ inner)) ++ (y ++ u)) (drop-drop (length y) (a + length x) before)
              ∙ append_assoc (take start before) (x ++ inner) (y ++ drop (a + length x + length y) before)
              ∙ ap (λ (u : List ℕ). take start before ++ u) (append_assoc x inner (y ++ drop (a + length x + length y) before))

-- there is no room for the text that comes first
pub inserted-none : (x y : List ℕ) (start a : ℕ) (next : Pen) (before after : List ℕ) → length before < a + length x → Inserts x y start a next before after (Err no_room)
inserted-none x y start a next before after h = record { drawn = λ f. absurd (omega (arith, f, h)); full = λ _. refl }

-- two parts exchanged are as long as before
turned-long : (m : ℕ) (l : List ℕ) → length (drop m l ++ take m l) ≡ length l
turned-long m l =
    length-append (drop m l) (take m l)
    ∙ omega (arith, length-append (take m l) (drop m l), ap (λ (u : List ℕ). length u) (take-append-drop m l))

turned-kept : (start to m : ℕ) (before part : List ℕ) → part ≡ drop m (take (to - start) (drop start before)) ++ take m (take (to - start) (drop start before))
    → length (put_mid start (to - start) before part) ≡ length before
turned-kept start to m before part e =
    same_len_mid start (to - start) before part (ap (λ (u : List ℕ). length u) e ∙ turned-long m (take (to - start) (drop start before)))

-- ── whatever was written, exchanged with what stands before it, and whatever is written behind that ──
module _ (out : List ℕ) (a : ℕ) (h : a ≤ length out) (w : List ℕ) (r : Result ℕ NoRoom) (i : Within (take (length out - a) (drop a out)) w r) (n : ℕ) (e : r ≡ Ok n) (start : ℕ) (part : List ℕ) where
  abbrev wrote : List ℕ
  wrote = put_mid a (length out - a) out w

  abbrev turned : List ℕ
  turned = put_mid start (a + n - start) wrote part

  module _ (x : part ≡ drop (a - start) (take (a + n - start) (drop start wrote)) ++ take (a - start) (take (a + n - start) (drop start wrote))) where
    pub turned_same : length turned ≡ length out
    turned_same = turned-kept start (a + n) (a - start) wrote part x ∙ kept-long out a h w r i

    pub turned-room : a + n ≤ length turned
    turned-room = omega (arith, room-left out a h w r i n e, turned_same)

    module _ (w₂ : List ℕ) (r₂ : Result ℕ NoRoom) where
      abbrev second : List ℕ
      second = take (length turned - (a + n)) (drop (a + n) turned)

      abbrev last : List ℕ
      last = put_mid (a + n) (length turned - (a + n)) turned w₂

      pub last-same : Within second w₂ r₂ → length last ≡ length out
      last-same j = kept-long turned (a + n) turned-room w₂ r₂ j ∙ turned_same

      pub last-room : Within second w₂ r₂ → (m : ℕ) → r₂ ≡ Ok m → a + n + m ≤ length out
      last-room j m f = omega (arith, room-left turned (a + n) turned-room w₂ r₂ j m f, turned_same)

      pub last-full : Within second w₂ r₂ → Kept out last (Err no_room)
      last-full j = record { safe = tt; long = last-same j }

      pub last-lays : (y : List ℕ) → Prints y second w₂ r₂ → (m : ℕ) → r₂ ≡ Ok m → Lays y m (a + n) turned last
      last-lays y j m f = lays turned (a + n) turned-room w₂ r₂ y j m f

      pub last_none : (y : List ℕ) → Prints y second w₂ r₂ → r₂ ≡ Err no_room → length turned < a + n + length y
      last_none y j f = room-lacks turned (a + n) turned-room w₂ r₂ y j f

-- ── the pen within the output, step by step ──
pub kept_then : (before mid after : List ℕ) (d : Result Pen NoRoom) → length mid ≡ length before → Kept mid after d → Kept before after d
kept_then before mid after d e k = record { safe = k.safe; long = k.long ∙ e }

-- nothing was written
pub kept-still : (out : List ℕ) (p : Pen) → Safe p out → Kept out out (Ok p)
kept-still out p s = record { safe = s; long = refl }

pub kept-moved : (out : List ℕ) (p q : Pen) (block part : ℕ) → Safe p out → q ≡ moved p 0 block part → Kept out out (Ok q)
kept-moved out p q block part s e =
    subst (λ (x : Pen). Kept out out (Ok x)) (sym e) record { safe = record { begun = omega (arith, s.begun); within = omega (arith, s.within) }; long = refl }
