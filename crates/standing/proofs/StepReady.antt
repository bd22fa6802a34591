-- What the code needs of what it remembers, in each block that can be open.
use Prim.Native.Nat.{ℕ, ◌+◌, ◌≤◌, ◌<◌}
use mathlib.Core.Bool.{true}
use mathlib.Core.List.{List}
use mathlib.Core.Path.{◌≡◌, sym, ap, subst}
use native.Mathlib.Omega.{arith}
use lib.Dec.{eqb}
use lib.ListN.{length, get_or}
use Rattle.rules.specs.declared.Class.{Class}
use Rattle.rules.specs.declared.LineForm.{LineForm}
use Rattle.rules.specs.Lines.{brace, equals, Form, ignored, wrong, close, eof, keyed, form_in}
use Rattle.rules.specs.Rows.{shut}
use Rattle.rules.specs.Machine.{State, set_of}
use Rattle.account.specs.declared.Where.{Where}
use Rattle.account.specs.Records.{part_at}
use Rattle.account.specs.PlacedLines.{LentReady}
use Rattle.account.specs.WireLines.{WireReady}
use Rattle.account.specs.SymbolLines.{ContentPlaced, is_named}
use Rattle.standing.specs.LineDone.{symbol_act, SymbolReady, LineFits}
use Rattle.standing.specs.Standing.{Desk, layers_of}
use Rattle.standing.specs.FileStanding.{InFile}
use Rattle.standing.specs.Reading.{Standing, PlacedForm, LineReady}
use Rattle.account.specs.FileLines.{FileReady}
use Rattle.standing.proofs.PlacedTables.{lent_of, lent_ready, placed_ready}
use Rattle.standing.proofs.OpenWires.{read-shelves, unread-shelves}
use Rattle.standing.proofs.SerialKept.{serials-count, serials-few, kept-ordered}
use Rattle.standing.proofs.OpenBlocks
use Rattle.standing.proofs.OpenPlaces as places
use Rattle.standing.proofs.SymbolStanding.{name-at-close}

module _ (c : Class) (spool : List ℕ) (k : ℕ) (form : LineForm) (w : Where) (d : Desk) (following : List ℕ) (y : LineReady c spool k form w d following) where
  abbrev at : ℕ
  at = y.at

  abbrev st : State
  st = y.state

  z : Standing c spool k d at st
  z = y.stands

  early : at ≤ 61440
  early = y.early

  spool-short : length spool ≤ 61440
  spool-short = y.short

  names-are : get_or d.tally 9 0 ≡ length (set_of st).symbols
  names-are = ap (λ (t : List ℕ). get_or t 9 0) z.tally

  ids-are : get_or d.tally 10 0 ≡ length (layers_of st)
  ids-are = ap (λ (t : List ℕ). get_or t 10 0) z.tally

  names-within : get_or d.tally 9 0 ≤ length d.symbols
  names-within = omega (arith, names-are, z.named, early, z.lengths.symbols)

  ids-within : get_or d.tally 10 0 ≤ length d.layers
  ids-within = omega (arith, ids-are, z.few-layers, z.lengths.layers)

  -- ── a `successive` ──
  chain-figures : d.now.block ≡ 9 → d.now.figures < 4294967295
  chain-figures b = go st (OpenBlocks.in-chain c spool k d (InFile spool k d) st z.block b) z
    where
      go : (st : State) → OpenBlocks.InAChain st → Standing c spool k d at st → d.now.figures < 4294967295
      go _ (OpenBlocks.here s h fs n ps) z = omega (arith, z.block.1.figures, z.counted, early)

  -- ── a text ──
  text-figures : d.now.block ≡ 10 → d.now.figures < 4294967295
  text-figures b = go st (OpenBlocks.in-text c spool k d (InFile spool k d) st z.block b) z
    where
      go : (st : State) → OpenBlocks.InAText st → Standing c spool k d at st → d.now.figures < 4294967295
      go _ (OpenBlocks.here s h fs n o) z = omega (arith, z.block.2, z.counted, early)

  -- ── figures ──
  -- of the layers that closed, and of the one that is open
  figures-few : d.now.block ≡ 8 → get_or d.tally 7 0 + d.now.figures < 4294967295
  figures-few b = go st (OpenBlocks.among-figures c spool k d (InFile spool k d) st z.block b) z
    where
      go : (st : State) → OpenBlocks.AmongFigures st → Standing c spool k d at st → get_or d.tally 7 0 + d.now.figures < 4294967295
      go _ (OpenBlocks.here s h fs) z = omega (arith, z.block.2, z.counted, early, ap (λ (t : List ℕ). get_or t 7 0) z.tally)

  -- ── ELEMENT ──
  element-sum : d.now.block ≡ 7 → get_or d.tally 8 0 + get_or d.tally 7 0 ≤ 4294967295
  element-sum b = go st (OpenBlocks.in-element c spool k d (InFile spool k d) st z.block b) z
    where
      go : (st : State) → OpenBlocks.InElement st → Standing c spool k d at st → get_or d.tally 8 0 + get_or d.tally 7 0 ≤ 4294967295
      go _ (OpenBlocks.here s) z = omega (arith, z.counted, early, ap (λ (t : List ℕ). get_or t 7 0) z.tally, ap (λ (t : List ℕ). get_or t 8 0) z.tally)

  -- ── a placed symbol, and a wire ──
  lent-now : LentReady (lent_of d)
  lent-now = lent_ready c spool k d (InFile spool k d) at st z early

  placed-lent : d.now.block ≡ 11 → LentReady (lent_of d) × (d.now.figures < 4294967295)
  placed-lent b = go st (OpenBlocks.in-placed c spool k d (InFile spool k d) st z.block b) z
    where
      go : (st : State) → OpenBlocks.InAPlaced st → Standing c spool k d at st → LentReady (lent_of d) × (d.now.figures < 4294967295)
      go _ (OpenBlocks.here s m fs n o p) z = placed_ready c spool k (InFile spool k) d at at s m fs n o p z early

  -- its elements were read, or a few blocks are open in it
  wire_ready : d.now.block ≡ 12 → WireReady (lent_of d) d.now d.scratch
  wire_ready b = go st (OpenBlocks.in-wire c spool k d (InFile spool k d) st z.block b) z
    where
      few-records : d.now.records < 18446744073709551615
      few-records = omega (arith, y.countable)

      go : (st : State) → OpenBlocks.InAWire st → Standing c spool k d at st → WireReady (lent_of d) d.now d.scratch
      go _ (OpenBlocks.here s m fs n x p) z = record {
        lent = lent-now;
        open-wire = record {
          figures = omega (arith, z.block.1.wire.figures, z.counted, early);
          points = omega (arith, z.block.1.wire.points, z.counted, early);
          records = few-records;
        };
        shelves = read-shelves c spool k d (InFile spool k d) at early s m fs n x p z;
      }
      go _ (OpenBlocks.unread s m fs n p) z = record {
        lent = lent-now;
        open-wire = record {
          figures = omega (arith, z.block.2.figures, z.counted, early);
          points = omega (arith, z.block.2.points, z.block.1);
          records = few-records;
        };
        shelves = unread-shelves c spool k d (InFile spool k d) at early s m fs n p z;
      }

  -- a symbol that closes
  content-placed : ContentPlaced (form_in spool form)
  content-placed = subst ContentPlaced y.here.is (go y.line.form y.placed)
    where
      go : (f : Form) → PlacedForm f → ContentPlaced f
      go ignored h = tt
      go (wrong n) h = tt
      go close h = tt
      go eof h = tt
      go (keyed i brace) h = tt
      go (keyed i (equals a b)) h = h.0

  -- where the line closes it, its record has a name
  symbol-named : d.now.block ≡ 5 → symbol_act spool form d.now d.tally d.symbols d.layers d.marks ≡ shut → is_named (part_at 0 d.scratch) ≡ true
  symbol-named b q = go st (OpenBlocks.in-symbol c spool k d (InFile spool k d) st z.block b) z
    where
      go : (st : State) → OpenBlocks.InASymbol st → Standing c spool k d at st → is_named (part_at 0 d.scratch) ≡ true
      go _ (OpenBlocks.here s g) z = name-at-close c spool spool-short k (InFile spool k) d at y.to y.line w form y.here s g z q

  -- the symbol that is open has taken bytes too
  symbol-room : d.now.block ≡ 5 → get_or d.tally 9 0 < length d.symbols
  symbol-room b = go st (OpenBlocks.in-symbol c spool k d (InFile spool k d) st z.block b) z
    where
      go : (st : State) → OpenBlocks.InASymbol st → Standing c spool k d at st → get_or d.tally 9 0 < length d.symbols
      go _ (OpenBlocks.here s g) z = omega (arith, ap (λ (t : List ℕ). get_or t 9 0) z.tally, z.named, early, z.lengths.symbols)

  symbol_ready : d.now.block ≡ 5 → SymbolReady spool form d.now d.tally d.symbols d.layers d.marks d.scratch
  symbol_ready b = record {
    marks = z.lengths.marks;
    content = content-placed;
    room = symbol-room b;
    name = symbol-named b;
  }

  -- ── any block ──
  pub line-fits : w.volume ≡ k → LineFits spool form w d
  line-fits vk = record {
    short = spool-short;
    named = record {
      twelve = places.tally-long c spool k d at st z;
      names = names-within;
      ids = ids-within;
      few-symbols = omega (arith, z.lengths.symbols);
      few-layers = omega (arith, z.lengths.layers);
    };
    lengths = z.lengths;
    countable = y.countable;
    file = λ b. subst (λ (i : ℕ). FileReady (eqb i 1) d.now d.tally d.marks d.header) (sym vk) (places.file_ready c spool k d at st z b);
    symbol = symbol_ready;
    hide = places.hide-points c spool k d at st z;
    elements = element-sum;
    figures = figures-few;
    chain = λ b. (chain-figures b, places.chain-points c spool k d at st z b);
    text = text-figures;
    placed = placed-lent;
    wire = wire_ready;
    numbers = record {
      count = omega (arith, serials-count c spool k d (InFile spool k d) at st z, serials-few c spool k d (InFile spool k d) at st z early);
      ordered = kept-ordered c spool k d (InFile spool k d) at st z;
    };
  }
