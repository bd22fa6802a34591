use mathlib.Core.Path.{◌≡◌, sym, ◌∙◌}
use mathlib.Core.Bool.{true, false}
use borrow.Author.Rules.{rules}
use borrow.Author.Tests.{le-leb, lt-leb}
use Rattle.lines.proofs.VolumePlaces as laws
use Rattle.lines.proofs.spool.head_of.Goals as goal
use Rattle.lines.proofs.spool.head_of.Goals.{then-s-lt-HEAD_BYTES-via-then-s-lt-HEAD_BYTES, then-s-lt-HEAD_BYTES-via-else-s-lt-HEAD_BYTES+then-not-starts_with, then-s-lt-HEAD_BYTES-via-else-s-lt-HEAD_BYTES+else-not-starts_with+then-not-good_name}

pub returns-then-s-lt-HEAD_BYTES : goal.returns-then-s-lt-HEAD_BYTES
returns-then-s-lt-HEAD_BYTES c =
    elim c.then-s-lt-HEAD_BYTES.branch [
      | then-s-lt-HEAD_BYTES-via-then-s-lt-HEAD_BYTES w ↦ sym (laws.head-short c.args.s.now w.if-s-lt-HEAD_BYTES.true)
      | then-s-lt-HEAD_BYTES-via-else-s-lt-HEAD_BYTES+then-not-starts_with w ↦
          let m : w.starts_with.result ≡ false = search rules in
          sym (laws.head-is c.args.s.now w.if-s-lt-HEAD_BYTES.false ∙ rw (sym w.starts_with.ensures.value ∙ m))
      | then-s-lt-HEAD_BYTES-via-else-s-lt-HEAD_BYTES+else-not-starts_with+then-not-good_name w ↦
          let m : w.starts_with.result ≡ true = search rules in
          let g : w.good_name.result ≡ false = search rules in
          sym (laws.head-is c.args.s.now w.if-s-lt-HEAD_BYTES.false ∙ rw (sym w.starts_with.ensures.value ∙ m, sym w.good_name.ensures ∙ g))
    ]

pub returns-then-s-n : goal.returns-then-s-n
returns-then-s-n c =
    let m : c.starts_with.result ≡ true = search rules in
    let g : c.good_name.result ≡ true = search rules in
    sym (laws.head-is c.args.s.now c.if-s-lt-HEAD_BYTES.false ∙ rw (sym c.starts_with.ensures.value ∙ m, sym c.good_name.ensures ∙ g, lt-leb _ _ c.if-s-n.true))

pub returns : goal.returns
returns c =
    let m : c.starts_with.result ≡ true = search rules in
    let g : c.good_name.result ≡ true = search rules in
    sym (laws.head-is c.args.s.now c.if-s-lt-HEAD_BYTES.false ∙ rw (sym c.starts_with.ensures.value ∙ m, sym c.good_name.ensures ∙ g, le-leb _ _ c.if-s-n.false))
