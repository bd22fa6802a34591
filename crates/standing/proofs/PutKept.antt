-- What a line made complete, put into the table: the table then holds it, and the kept number is right for what is open behind the line.
use Prim.Native.Nat.{ℕ, ◌+◌, ◌*◌, ◌/◌, ◌≤◌, ◌<◌}
use mathlib.Core.Bool.{Bool, true, false, cond}
use mathlib.Core.List.{List, ◌++◌, append_assoc}
use mathlib.Core.Path.{◌≡◌, refl, sym, ◌∙◌, ap, subst}
use native.Mathlib.Omega.{arith}
use borrow.Author.Tests.{lt-ltb, ltb-true}
use lib.Dec.{ltb}
use lib.IntN.{ℤ}
use lib.ListN.{length, take, drop, replicate, length-append, length-take, length-drop}
use lib.Seq.{take_at, drop_at, take-add, drop-drop}
use Rattle.rules.specs.declared.Class.{Class}
use Rattle.rules.specs.Base.{flat}
use Rattle.rules.specs.Rows.{Held}
use Rattle.rules.specs.Sets.{Set, is_first}
use Rattle.rules.specs.Machine.{State, top, file, drawing, layer_names, defines, symbol, hide, elements, figures, successive, texts, placing, skipping, ended, set_of, symbol_block, wire_block, wire_unread}
use Rattle.rules.proofs.Chains.{flat_append}
use Rattle.account.specs.declared.Complete.{Complete}
use Rattle.account.specs.declared.Complete.TheVariants as C
use Rattle.account.specs.Records.{part_at, with_part, with_numbers}
use Rattle.account.specs.FileLines.{file_width}
use Rattle.account.specs.Putting.{put_record, put_header, put_by, own_after}
use Rattle.standing.specs.SoFar.{empty_record}
use Rattle.standing.specs.Kept.{FillsAll, own_behind}
use Rattle.standing.specs.Standing.{Desk, Inside, Made}
use Rattle.standing.specs.Reading.{Kept}
use Rattle.standing.proofs.KeptLaws.{size-empty, fills-all, sized, kept-opens, kept_fills, kept-fills-all}

-- ── the kept number ──
-- it goes by the block that is open
pub own_behind_lem : (c : Class) (spool : List ℕ) (k : ℕ) (d : Desk) (F : Set → ℕ → Held → ℕ → Type 0) (own : ℕ) (st : State) → Inside c spool k d F st → own_behind st d.now.records own ≡ own_after d.now own
own_behind_lem c spool k d F own st h = by st h
  where
    at : (b : ℕ) → d.now.block ≡ b → own_after (record { block = b; part = 0; layered = false; owner = 0; records = d.now.records; figures = 0; points = 0 }) own ≡ own_after d.now own
    at b e = ap (λ (i : ℕ). own_after (record { block = i; part = 0; layered = false; owner = 0; records = d.now.records; figures = 0; points = 0 }) own) (sym e)

    by : (st : State) → Inside c spool k d F st → own_behind st d.now.records own ≡ own_after d.now own
    by (top s m) h = at 0 h.0
    by (file s n o p) h = at 1 h.0
    by (drawing s w) h = at 2 h.0
    by (layer_names s w) h = at 3 h.0
    by (defines s b) h = at 4 h.0
    by (symbol s y) h = at 5 h.0
    by (hide s y ps) h = at 6 h.0
    by (elements s) h = at 7 h.0
    by (figures s o fs) h = at 8 h.0
    by (successive s o fs n ps) h = at 9 h.0
    by (texts s o fs n w) h = at 10 h.0
    by (placing s m fs n (symbol_block o) p) h = at 11 h.0
    by (placing s m fs n (wire_block w) p) h = at 12 h.0
    by (placing s m fs n wire_unread p) h = absurd h
    by (skipping s m fs n (symbol_block o) p) h = absurd h
    by (skipping s m fs n (wire_block w) p) h = absurd h
    by (skipping s m fs n wire_unread p) h = at 12 h.0
    by (ended s) h = at 15 h

-- ── a record put ──
put-there : (number : ℕ) (u t : List ℤ) → number < length t / 32 → put_record number u t ≡ with_part (32 * number) u t
put-there number u t h = ap (λ (b : Bool). cond b (with_part (32 * number) u t) t) (lt-ltb number (length t / 32) h)

with-long : (n : ℕ) (u t : List ℤ) → n + 32 ≤ length t → length u ≡ 32 → length (with_part n u t) ≡ length t
with-long n u t h k =
    omega (arith, length-append (take n t) (u ++ drop (n + 32) t), length-append u (drop (n + 32) t), length-take n t, length-drop (n + 32) t, h, k)

-- a table keeps its length, whether it has the place or not
put-long : (number : ℕ) (u t : List ℤ) → length u ≡ 32 → length (put_record number u t) ≡ length t
put-long number u t k = by (ltb number (length t / 32)) refl
  where
    by : (b : Bool) → ltb number (length t / 32) ≡ b → length (cond b (with_part (32 * number) u t) t) ≡ length t
    by true e = with-long (32 * number) u t (omega (arith, ltb-true number (length t / 32) e)) k
    by false e = refl

-- two of them one behind the other
put_two : (number : ℕ) (h t : List ℤ) → number + 1 < length t / 32 → 64 ≤ length h → put_header true number h t ≡ with_numbers (32 * number) (take 64 h) t
put_two number h t f g =
    let n : ℕ = 32 * number in
    let a : List ℤ = part_at 0 h in
    let b : List ℤ = part_at 32 h in
    let first : length (take n t) ≡ n = omega (arith, length-take n t, f) in
    let la : length a ≡ 32 = omega (arith, length-take 32 h, g) in
    let lb : length b ≡ 32 = omega (arith, length-take 32 (drop 32 h), length-drop 32 h, g) in
    let one : List ℤ = with_part n a t in
    let both : length (take n t ++ a) ≡ n + 32 = omega (arith, length-append (take n t) a, first, la) in
    let split : one ≡ (take n t ++ a) ++ drop (n + 32) t = sym (append_assoc (take n t) a (drop (n + 32) t)) in
    let e : put_record number a t ≡ one = put-there number a t (omega (arith, f)) in
    let long : length one ≡ length t = with-long n a t (omega (arith, f)) la in
    let up : 32 * (number + 1) ≡ n + 32 = omega arith in
    let end : n + 32 + 32 ≡ n + length (take 64 h) = omega (arith, length-take 64 h, g) in
    ap (put_record (number + 1) b) e ∙ put-there (number + 1) b one (omega (arith, f, ap (λ (i : ℕ). i / 32) long))
    ∙ ap (λ (i : ℕ). take i one ++ (b ++ drop (i + 32) one)) up
    ∙ ap (λ (y : List ℤ). y ++ (b ++ drop (n + 32 + 32) one)) (ap (take (n + 32)) split ∙ take_at (take n t ++ a) (drop (n + 32) t) (n + 32) both)
    ∙ ap (λ (y : List ℤ). (take n t ++ a) ++ (b ++ y))
    (sym (drop-drop 32 (n + 32) one) ∙ ap (drop 32) (ap (drop (n + 32)) split ∙ drop_at (take n t ++ a) (drop (n + 32) t) (n + 32) both) ∙ drop-drop 32 (n + 32) t)
    ∙ append_assoc (take n t) a (b ++ drop (n + 32 + 32) t)
    ∙ ap (λ (y : List ℤ). take n t ++ y) (sym (append_assoc a b (drop (n + 32 + 32) t)) ∙ ap (λ (y : List ℤ). y ++ drop (n + 32 + 32) t) (sym (take-add 32 32 h)))
    ∙ ap (λ (i : ℕ). take n t ++ (take 64 h ++ drop i t)) end

-- ── the table behind a line ──
module _ (c : Class) (limit : ℕ) (table : List ℤ) (records more : ℕ) (st st' : State) (k : Kept c limit table records st) (taken : (set_of st').taken ≡ records + more) (fits : records + more ≤ limit) (number : ℕ)
    (scratch header : List ℤ) (first : Bool) where
  -- what is put has its place before the end
  before-end : (us : List ℤ) → FillsAll c st st' more number us → 32 * number + length us ≤ 32 * (records + more)
  before-end us f =
      let zs : List (List ℤ) = replicate (length f.made) empty_record in
      let all : length (flat (f.fore ++ (zs ++ f.behind))) ≡ 32 * (records + more) = ap (λ (rs : List (List ℤ)). length (flat rs)) (sym f.before) ∙ sized c limit table records more st st' k taken fits in
      omega (
        arith,
        all,
        ap length (flat_append f.fore (zs ++ f.behind)),
        length-append (flat f.fore) (flat (zs ++ f.behind)),
        ap length (flat_append zs f.behind),
        length-append (flat zs) (flat f.behind),
        size-empty (length f.made),
        f.size,
        f.long,
      )

  -- two at once, which stand at the front of a list
  kept-two : (h : List ℤ) → 64 ≤ length h → FillsAll c st st' more number (take 64 h) → (table₁ : List ℤ) → table₁ ≡ put_header true number h table → Kept c limit table₁ (records + more) st'
  kept-two h g f table₁ is =
      let one-long : length (part_at 0 h) ≡ 32 = omega (arith, length-take 32 h, g) in
      let two-long : length (part_at 32 h) ≡ 32 = omega (arith, length-take 32 (drop 32 h), length-drop 32 h, g) in
      kept-fills-all c limit table records more st st' k taken fits number (take 64 h) table₁ f
      (ap length is ∙ put-long (number + 1) (part_at 32 h) (put_record number (part_at 0 h) table) two-long ∙ put-long number (part_at 0 h) table one-long)
      (λ full. is ∙ put_two number h table (omega (arith, full, fits, before-end (take 64 h) f, length-take 64 h, g)) g)

  pub kept_put : (done : Complete) → Made c st st' more number scratch header done → 64 ≤ length header → (done ≡ C.Header → first ≡ is_first (set_of st)) → (table₁ : List ℤ)
      → table₁ ≡ put_by done first number header scratch table → Kept c limit table₁ (records + more) st'
  kept_put C.Nothing m g w table₁ e = subst (λ (y : List ℤ). Kept c limit y (records + more) st') (sym e) (kept-opens c limit table records more st st' k taken fits m)
  kept_put (C.Record from) m g w table₁ e =
      let u : List ℤ = part_at from scratch in
      kept_fills c limit table records more st st' k taken fits from number scratch table₁ m (ap length e ∙ put-long number u table m.long)
      (λ full. e ∙ put-there number u table (omega (arith, full, fits, before-end u (fills-all c st st' more from number scratch m), m.long)))
  kept_put C.Header m g w table₁ e = by (is_first (set_of st)) (w refl) m
    where
      one : List ℤ
      one = part_at 0 header

      one-long : length one ≡ 32
      one-long = omega (arith, length-take 32 header, g)

      by : (b : Bool) → first ≡ b → FillsAll c st st' more number (take (file_width b) header) → Kept c limit table₁ (records + more) st'
      by true q f = kept-two header g f table₁ (e ∙ ap (λ (x : Bool). put_header x number header table) q)
      by false q f =
          let is : table₁ ≡ put_record number one table = e ∙ ap (λ (x : Bool). put_header x number header table) q in
          kept-fills-all c limit table records more st st' k taken fits number one table₁ f (ap length is ∙ put-long number one table one-long)
          (λ full. is ∙ put-there number one table (omega (arith, full, fits, before-end one f, one-long))
          ∙ ap (λ (i : ℕ). take (32 * number) table ++ (one ++ drop (32 * number + i) table)) (sym one-long))
  -- a wire's two stand behind the first record of the scratch
  kept_put C.Wire m g w table₁ e =
      kept-two (drop 32 scratch) (omega (arith, length-drop 32 scratch, m.0)) m.1 table₁
      (e ∙ ap (λ (u : List ℤ). put_record (number + 1) (take 32 u) (put_record number (part_at 32 scratch) table)) (sym (drop-drop 32 32 scratch)))
