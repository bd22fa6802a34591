-- Pieces between commas, one after the other.
use Rattle.std.specs.Prelude.{Ok, Err}
use Prim.Native.Nat.{ℕ, ◌+◌, ◌-◌, ◌%◌, ◌<◌, ◌≤◌}
use mathlib.Core.Path.{◌≡◌, refl, ap, sym, subst, ◌∙◌}
use mathlib.Core.Bool.{Bool, true, false, cond}
use mathlib.Core.List.{List, [], ◌∷◌, ◌++◌, append_assoc}
use native.Mathlib.Omega.{arith}
use lib.Dec.{eqb}
use lib.ListN.{length, take, drop, length-drop}
use borrow.Rule.Slice.PartMut.{put_mid}
use Rattle.rules.specs.Base.{split, head_onto, join}
use Rattle.leaves.specs.Bytes.{up_to}
use Rattle.leaves.specs.Writing.{Puts}
use Rattle.leaves.proofs.Scan.{rest_all}
use Rattle.leaves.proofs.Cuts.{split-last, piece-first, piece-more}
use Rattle.prints.specs.Printing.{Lays}
use Rattle.prints.specs.Texts.{piece_text, next_forms, piece_texts, pieces_text}
use Rattle.prints.proofs.Going.{nothing, whole, first_full, second_full, both}
use Rattle.leaves.specs.NoRoom.{no_room}

-- ── joined by commas ──
abbrev Parted : List (List ℕ) → Type 0
Parted ps = (p : List ℕ) × (rest : List (List ℕ)) × (ps ≡ p ∷ rest)

head-some : (b : ℕ) (ps : List (List ℕ)) → Parted (head_onto b ps)
head-some b [] = (b ∷ [], [], refl)
head-some b (p ∷ ps) = (b ∷ p, ps, refl)

split-some : (c : ℕ) (s : List ℕ) → Parted (split c s)
split-some c [] = ([], [], refl)
split-some c (b ∷ s) = go (eqb b c)
  where
    go : (t : Bool) → Parted (cond t ([] ∷ split c s) (head_onto b (split c s)))
    go true = ([], split c s, refl)
    go false = head-some b (split c s)

module _ (forms : ℕ) (alike : Bool) where
  join_more : (t : List ℕ) (ps : List (List ℕ)) → Parted ps → join 44 (t ∷ piece_texts forms alike ps) ≡ (t ++ 44 ∷ []) ++ join 44 (piece_texts forms alike ps)
  join_more t ps (p, rest, e) =
      ap (λ (q : List (List ℕ)). join 44 (t ∷ piece_texts forms alike q)) e
      ∙ sym (append_assoc t (44 ∷ []) (join 44 (piece_texts forms alike (p ∷ rest))))
      ∙ ap (λ (q : List (List ℕ)). (t ++ 44 ∷ []) ++ join 44 (piece_texts forms alike q)) (sym e)

module _ (forms : ℕ) (alike : Bool) (c : List ℕ) (e : ℕ) (f : e ≡ length (up_to 44 c)) where
  last-piece : length c ≤ e → pieces_text forms alike c ≡ piece_text (forms % 100) c
  unfolding pieces_text
  last-piece h = rw (split-last 44 c (rw f at h))

  more-pieces : e < length c → pieces_text forms alike c ≡ (piece_text (forms % 100) (take e c) ++ 44 ∷ []) ++ pieces_text (next_forms forms alike) alike (drop (e + 1) c)
  unfolding pieces_text
  more-pieces h =
      let first = piece_text (forms % 100) (take e c) in
      let texts = piece_texts (next_forms forms alike) alike (split 44 (drop (e + 1) c)) in
      sym
      (sym (join_more (next_forms forms alike) alike first (split 44 (drop (e + 1) c)) (split-some 44 (drop (e + 1) c)))
      ∙ ap (λ (s : List ℕ). join 44 (piece_text (forms % 100) s ∷ texts)) (piece-first 44 c e f)
      ∙ ap (λ (ps : List (List ℕ)). join 44 (piece_texts forms alike ps)) (sym (piece-more 44 c e f h)))

-- ── piece by piece ──
-- the pieces before the rest are written, n bytes
pub record Goes (forms : ℕ) (alike : Bool) (c before out : List ℕ) (left n : ℕ) (rest : List ℕ) : Type 0 where
  pub done : List ℕ
  pub laid : Lays done before out (Ok n)
  pub all : pieces_text forms alike c ≡ done ++ pieces_text left alike rest
  pub within : length rest ≤ length c

module _ (forms : ℕ) (alike : Bool) (c before : List ℕ) where
  pub none_yet : Goes forms alike c before before forms 0 c
  none_yet = record { done = []; laid = nothing before; all = refl; within = omega arith }

  module _ (out : List ℕ) (left n : ℕ) (rest : List ℕ) (g : Goes forms alike c before out left n rest) (e : ℕ) (f : e ≡ length (up_to 44 rest)) where
    pub last_full : length rest ≤ e → (after : List ℕ) → Puts (piece_text (left % 100) rest) (take (length out - n) (drop n out)) after (Err no_room)
        → Lays (pieces_text forms alike c) before (put_mid n (length out - n) out after) (Err no_room)
    last_full h after p =
        subst (λ (t : List ℕ). Lays t before (put_mid n (length out - n) out after) (Err no_room)) (sym (g.all ∙ ap (λ (t : List ℕ). g.done ++ t) (last-piece left alike rest e f h)))
        (second_full g.done (piece_text (left % 100) rest) before out n g.laid after (whole _ _ _ _ p))

    pub last_piece : length rest ≤ e → (after : List ℕ) (m : ℕ) → Puts (piece_text (left % 100) rest) (take (length out - n) (drop n out)) after (Ok m)
        → Lays (pieces_text forms alike c) before (put_mid n (length out - n) out after) (Ok (n + m))
    last_piece h after m p =
        subst (λ (t : List ℕ). Lays t before (put_mid n (length out - n) out after) (Ok (n + m))) (sym (g.all ∙ ap (λ (t : List ℕ). g.done ++ t) (last-piece left alike rest e f h)))
        (both g.done (piece_text (left % 100) rest) before out n g.laid after m (whole _ _ _ _ p))

    module _ (h : e < length rest) where
      more : pieces_text forms alike c ≡ ((g.done ++ piece_text (left % 100) (take e rest)) ++ 44 ∷ []) ++ pieces_text (next_forms left alike) alike (drop (e + 1) rest)
      more =
          let first = piece_text (left % 100) (take e rest) in
          let others = pieces_text (next_forms left alike) alike (drop (e + 1) rest) in
          g.all
          ∙ ap (λ (t : List ℕ). g.done ++ t) (more-pieces left alike rest e f h ∙ append_assoc first (44 ∷ []) others)
          ∙ sym (append_assoc g.done first (44 ∷ others))
          ∙ sym (append_assoc (g.done ++ first) (44 ∷ []) others)

      module _ (b : List ℕ) where
        abbrev first : List ℕ
        first = piece_text (left % 100) (take e rest)

        abbrev others : List ℕ
        others = pieces_text (next_forms left alike) alike (drop (e + 1) rest)

        abbrev there : List ℕ
        there = put_mid n (length out - n) out b

        pub piece_full : Puts (piece_text (left % 100) (take e rest)) (take (length out - n) (drop n out)) b (Err no_room) → Lays (pieces_text forms alike c) before (put_mid n (length out - n) out b) (Err no_room)
        piece_full p =
            rw more
            (first_full ((g.done ++ first) ++ 44 ∷ []) others before there
            (first_full (g.done ++ first) (44 ∷ []) before there (second_full g.done first before out n g.laid b (whole _ _ _ _ p))))

        module _ (m : ℕ) (p : Puts (piece_text (left % 100) (take e rest)) (take (length out - n) (drop n out)) b (Ok m)) (d : List ℕ) where
          front : Lays (g.done ++ first) before there (Ok (n + m))
          front = both g.done first before out n g.laid b m (whole _ _ _ _ p)

          pub comma_full : Puts (44 ∷ []) (take (length there - (n + m)) (drop (n + m) there)) d (Err no_room) → Lays (pieces_text forms alike c) before (put_mid (n + m) (length there - (n + m)) there d) (Err no_room)
          comma_full q =
              rw more
              (first_full ((g.done ++ first) ++ 44 ∷ []) others before (put_mid (n + m) (length there - (n + m)) there d)
              (second_full (g.done ++ first) (44 ∷ []) before there (n + m) front d (whole _ _ _ _ q)))

          pub one_more : (k : ℕ) → Puts (44 ∷ []) (take (length there - (n + m)) (drop (n + m) there)) d (Ok k) → (next : ℕ) → next ≡ next_forms left alike
              → Goes forms alike c before (put_mid (n + m) (length there - (n + m)) there d) next (n + m + k) (take (length rest - (e + 1)) (drop (e + 1) rest))
          one_more k q next f =
              rw (rest_all (e + 1) rest, f)
              (record {
                done = (g.done ++ first) ++ 44 ∷ [];
                laid = both (g.done ++ first) (44 ∷ []) before there (n + m) front d k (whole _ _ _ _ q);
                all = more;
                within = omega (arith, g.within, length-drop (e + 1) rest);
              })
