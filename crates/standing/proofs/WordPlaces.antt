-- What a line holds, by its place: the bytes behind its key are those of the spool there, and so are those of a word.
use Prim.Native.Nat.{ℕ, zero, suc, ◌+◌, ◌*◌, ◌/◌, ◌%◌, ◌≤◌, ◌<◌}
use mathlib.Core.Bool.{Bool, false, ◌&&◌}
use mathlib.Core.List.{List, [], ◌∷◌}
use mathlib.Core.Path.{◌≡◌, refl, sym, ◌∙◌, ap, subst}
use native.Mathlib.Omega.{arith}
use lib.Dec.{leb}
use lib.ListN.{length, take, drop, length-take, length-drop}
use Rattle.rules.specs.declared.Digits.{Digits}
use Rattle.rules.specs.declared.LineForm.{LineForm}
use Rattle.rules.specs.declared.LineForm.TheVariants as L
use Rattle.rules.specs.Base.{all, is_nil}
use Rattle.rules.specs.RefusalNumbers.{got}
use Rattle.rules.specs.Lines.{Rest, brace, equals, Form, ignored, wrong, close, eof, keyed, span, bytes_at, form_in}
use Rattle.rules.specs.Values.{Known, Value, chars, Bytes, byte_in, Kind, word, read_kind}
use Rattle.rules.specs.Rows.{Rule, entry, Act}
use Rattle.rules.proofs.Chains.{clash, unless-got}
use Rattle.entries.specs.Names.{name_in}
use Rattle.standing.specs.Standing.{rest_size}
use Rattle.standing.proofs.LineOrigins.{From, ContentKind, word-content, content-read}

-- ── a name in one number ──
pub name_back : (spool : List ℕ) (at len : ℕ) → at < 65536 → name_in spool (at + 65536 * len) ≡ bytes_at spool (span at len)
name_back spool at len h =
    let p : (at + 65536 * len) % 65536 ≡ at = omega (arith, h) in
    let q : (at + 65536 * len) / 65536 ≡ len = omega (arith, h) in
    ap (λ (n : ℕ). bytes_at spool (span n ((at + 65536 * len) / 65536))) p ∙ ap (λ (n : ℕ). bytes_at spool (span at n)) q

-- ── a line's rest, by its place ──
take_again : (n : ℕ) (l : List ℕ) → take (length (take n l)) l ≡ take n l
take_again zero l = refl
take_again (suc n) [] = refl
take_again (suc n) (b ∷ l) = ap (λ (u : List ℕ). b ∷ u) (take_again n l)

abbrev rest_of : Form → Rest
rest_of ignored = brace
rest_of (wrong n) = brace
rest_of close = brace
rest_of eof = brace
rest_of (keyed k r) = r

module _ (spool : List ℕ) where
  abbrev pub RestHere : Rest → Type 0
  RestHere brace = Unit {0}
  RestHere (equals at c) = c ≡ bytes_at spool (span at (length c))

  form-here : (form : LineForm) → RestHere (rest_of (form_in spool form))
  form-here L.Ignored = tt
  form-here L.Close = tt
  form-here L.Eof = tt
  form-here (L.Opens o) = tt
  form-here (L.Equals q) = sym (take_again q.rest.len (drop q.rest.at spool))
  form-here (L.Refused r) = tt

  -- the rest of a line that a row took
  pub rest-here : (form : LineForm) (k : Known) (t : List Rule) (d : Digits) (full : List Bool) (f : Form) (j : ℕ) (a : Act) (x : From k t d full f j a) → f ≡ form_in spool form → RestHere x.rest
  rest-here form k t d full f j a x e = subst RestHere (ap rest_of (sym e ∙ x.form)) (form-here form)

  -- some bytes at a place of the spool
  within : (at : ℕ) (c : List ℕ) → is_nil c ≡ false → c ≡ bytes_at spool (span at (length c)) → at < length spool
  within at [] h e = clash refl h
  within at (b ∷ c) h e =
      omega (arith, ap length e, length-take (length (b ∷ c)) (drop at spool), length-drop at spool)

-- ── a word ──
-- what a word's line held, and how long the line was behind its key
pub record WordRead (spool : List ℕ) (x : Rest) (v : Value) : Type 0 where
  pub at : ℕ
  pub bytes : List ℕ
  pub is : v ≡ chars at bytes
  pub filled : is_nil bytes ≡ false
  pub here : bytes ≡ bytes_at spool (span at (length bytes))
  pub low : at < length spool
  pub long : 2 ≤ rest_size x

-- a line of a row of words
pub word_read : (spool : List ℕ) (form : LineForm) (k : Known) (t : List Rule) (d : Digits) (full : List Bool) (f : Form) (n : ℕ) (b : Bytes) (j : ℕ) (v : Value)
    (x : From k t d full f j (entry j v)) → f ≡ form_in spool form → x.rule.holds ≡ word n b → x.rule.may ≡ false → WordRead spool x.rest v
word_read spool form k t d full f n b j v x e h m =
    let y = content-read k t d full f j v x (subst ContentKind (sym h) (word-content n b)) m in
    let here : y.bytes ≡ bytes_at spool (span y.at (length y.bytes)) = subst (RestHere spool) y.behind (rest-here spool form k t d full f j (entry j v) x e) in
    let (_, q) = unless-got (all (byte_in b) y.bytes && leb (length y.bytes) n) 11 (got (chars y.at y.bytes)) v (ap (λ (z : Kind). read_kind k z y.at y.bytes) (sym h) ∙ y.read) in
    let is : chars y.at y.bytes ≡ v = cc in
    record { at = y.at; bytes = y.bytes; is = sym is; filled = y.filled; here = here; low = within spool y.at y.bytes y.filled here; long = y.long }
