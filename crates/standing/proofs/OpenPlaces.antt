-- What the code asks for that the reading alone tells.
use Prim.Native.Nat.{ℕ, ◌<◌}
use mathlib.Core.Bool.{Bool}
use mathlib.Core.List.{List}
use mathlib.Core.Path.{◌≡◌, sym, ap, subst}
use native.Mathlib.Omega.{arith}
use lib.Dec.{eqb}
use lib.ListN.{length}
use Rattle.rules.specs.declared.Class.{Class}
use Rattle.rules.specs.Sets.{is_first}
use Rattle.rules.specs.Machine.{State}
use Rattle.standing.specs.Standing.{Desk}
use Rattle.standing.specs.FileStanding.{InFile}
use Rattle.standing.specs.Reading.{Standing}
use Rattle.account.specs.FileLines.{PartOpen, FileReady}
use Rattle.standing.proofs.OpenBlocks
use Rattle.standing.proofs.Standings.{first-volume}

module _ (c : Class) (spool : List ℕ) (k : ℕ) (d : Desk) (at : ℕ) (st : State) (z : Standing c spool k d at st) where
  -- ── in every block ──
  pub tally-long : length d.tally ≡ 13
  tally-long = ap length z.tally

  -- ── points ──
  pub chain-points : d.now.block ≡ 9 → d.now.points < 4294967295
  chain-points b = go st (OpenBlocks.in-chain c spool k d (InFile spool k d) st z.block b) z
    where
      go : (st : State) → OpenBlocks.InAChain st → Standing c spool k d at st → d.now.points < 4294967295
      go _ (OpenBlocks.here s h fs n ps) z = omega (arith, z.block.1.points, z.block.1.few)

  pub hide-points : d.now.block ≡ 6 → d.now.points < 4294967295
  hide-points b = go st (OpenBlocks.in-hide c spool k d (InFile spool k d) st z.block b) z
    where
      go : (st : State) → OpenBlocks.InAHide st → Standing c spool k d at st → d.now.points < 4294967295
      go _ (OpenBlocks.here s v ps) z = omega (arith, z.block.1.points, z.block.1.few)

  -- ── FILE_FORMAT ──
  pub file_ready : d.now.block ≡ 1 → FileReady (eqb k 1) d.now d.tally d.marks d.header
  file_ready b = go st (OpenBlocks.in-file c spool k d (InFile spool k d) st z.block b) z
    where
      go : (st : State) → OpenBlocks.InFileFormat st → Standing c spool k d at st → FileReady (eqb k 1) d.now d.tally d.marks d.header
      go _ (OpenBlocks.here s n h p) z =
          let i = z.block.1 in
          let f : is_first s ≡ eqb k 1 = sym (first-volume k s i.volume) in
          record {
            part = subst (λ (x : Bool). PartOpen x d.now.part) f (subst (PartOpen (is_first s)) (sym i.part) i.parts);
            twelve = tally-long;
            marks = z.lengths.marks;
            header = i.header;
          }
