-- What the code remembers of the reading between two lines, and how a line changes it.
use Rattle.std.specs.Prelude.{ℕ, ◌+◌, List, [], ◌∷◌, ℤ, pos}
use Rattle.std.proofs.lemmas.List.Edits.{sets}
use Rattle.rules.specs.Rows.{Rule}
use Rattle.rules.specs.Values.{Value}
use Rattle.entries.specs.Acts.{put_line}
use Rattle.account.specs.declared.Now.{Now}
use Rattle.account.specs.declared.Where.{Where}
use Rattle.account.specs.Numbering.{block_figures}

-- ── the place in the set ──
abbrev pub at_block : Now → ℕ → ℕ → Now
at_block n block part =
    record {
      block = block;
      part = part;
      layered = n.layered;
      owner = n.owner;
      records = n.records;
      figures = n.figures;
      points = n.points;
    }

-- one more figure, and the block around it is open again
abbrev pub figure_done : Now → Now
figure_done n =
    record {
      block = block_figures;
      part = 0;
      layered = n.layered;
      owner = n.owner;
      records = n.records;
      figures = n.figures + 1;
      points = 0;
    }

-- ── the record of a line ──
-- "0 kind, 1 owner, 2 volume from 1, 3 line"
abbrev pub head_at : ℕ → ℕ → ℕ → Where → List ℤ → List ℤ
head_at n kind owner at t = sets t n (pos kind ∷ pos owner ∷ pos at.volume ∷ pos at.line ∷ [])

-- its values, and its head before them
abbrev pub record_made : ℕ → Now → Where → Rule → Value → List ℤ → List ℤ
record_made kind n at r v rec = head_at 0 kind n.owner at (put_line r 0 v rec)
