-- Before the first line: what a set's reading begins with stands at the beginning of a set, and a table of zeros holds its records.
use Prim.Native.Nat.{ℕ, zero, suc}
use mathlib.Core.Bool.{false}
use mathlib.Core.List.{List, []}
use mathlib.Core.Path.{◌≡◌, refl, sym, subst}
use native.Mathlib.Omega.{arith}
use lib.IntN.{ℤ, pos}
use lib.ListN.{length, get_or, replicate, length-replicate}
use Rattle.rules.specs.declared.Class.{Class}
use Rattle.rules.specs.Blocks.{file_table, range_table, elec_table, sym_table}
use Rattle.rules.specs.Sets.{nothing_yet}
use Rattle.rules.specs.Machine.{top}
use Rattle.rules.proofs.Chains.{clash}
use Rattle.account.specs.declared.Now.{Now}
use Rattle.account.specs.Numbering.{tally_length, most_symbols, most_serials}
use Rattle.standing.specs.Laid.{Laid}
use Rattle.standing.specs.Standing.{Desk, tally_of}
use Rattle.standing.specs.Reading.{Standing, Kept, volume_desk}
use Rattle.sets.specs.SetReading.{nothing_now}
use Rattle.standing.proofs.LaidTables.{laid_none}

-- what is lent to the first volume
abbrev pub first_desk : Now → Desk
first_desk n = volume_desk n (replicate tally_length 0) (replicate most_symbols 0) (replicate 64 0) (replicate most_serials 0) (replicate 64 false)

no-tally : replicate tally_length 0 ≡ tally_of nothing_yet 0 0 0
unfolding file_table range_table elec_table sym_table
no-tally = refl

-- marks of which none is set
none-used : (n j : ℕ) → get_or (replicate n false) j false ≡ false
none-used zero j = refl
none-used (suc n) zero = refl
none-used (suc n) (suc j) = none-used n j

pub begin-stands : (c : Class) (spool : List ℕ) → Standing c spool 1 (first_desk nothing_now) 0 (top nothing_yet 0)
begin-stands c spool = record {
  lengths = record {
    symbols = length-replicate {A = ℕ} most_symbols 0;
    layers = refl;
    serials = length-replicate {A = ℕ} most_serials 0;
    used = refl;
    used_all = refl;
    marks = refl;
    inner = refl;
    header = refl;
    scratch = refl;
  };
  scratch = record { own = refl; figure = refl; rest = refl };
  here = 0;
  this = λ h. clash h refl;
  tally = no-tally;
  symbols = refl;
  layers = refl;
  few-layers = omega arith;
  serials = record { ordered = refl; owns = λ n. refl; partners = λ found. refl };
  used = λ h. clash h refl;
  used_all = λ j h. none-used 64 j;
  counted = omega arith;
  named = omega arith;
  numbered = omega arith;
  block = (refl, refl, (refl, λ h. record { layers = refl; symbols = refl }));
}

pub begin-kept : (c : Class) (limit : ℕ) (t : List ℤ) → t ≡ replicate (length t) (pos 0) → Kept c limit t 0 (top nothing_yet 0)
begin-kept c limit t z = record { taken = refl; fits = omega arith; size = refl; laid = λ _. subst (λ (u : List ℤ). Laid u [] 0) (sym z) (laid_none (length t)) }
