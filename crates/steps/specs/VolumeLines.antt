-- From line to line of a volume, as the code goes: whether a volume is complete, and what its last line does.
use Rattle.std.specs.Prelude.{min, Bool, true, false, cond, ◌&&◌, eqb}
use Rattle.rules.specs.declared.LineForm.{LineForm}
use Rattle.rules.specs.declared.LineForm.TheVariants as L
use Rattle.account.specs.declared.Now.{Now}
use Rattle.account.specs.declared.Step.{Step}
use Rattle.account.specs.declared.Step.TheVariants as S
use Rattle.account.specs.Account.{at_block}
use Rattle.account.specs.Numbering.{block_top, block_elements, turn_file, turn_eof}

abbrev pub eof_form : LineForm → Bool
eof_form L.Ignored = false
eof_form L.Close = false
eof_form L.Eof = true
eof_form (L.Opens o) = false
eof_form (L.Equals q) = false
eof_form (L.Refused r) = false

abbrev pub close_form : LineForm → Bool
close_form L.Ignored = false
close_form L.Close = true
close_form L.Eof = false
close_form (L.Opens o) = false
close_form (L.Equals q) = false
close_form (L.Refused r) = false

abbrev pub ignored_form : LineForm → Bool
ignored_form L.Ignored = true
ignored_form L.Close = false
ignored_form L.Eof = false
ignored_form (L.Opens o) = false
ignored_form (L.Equals q) = false
ignored_form (L.Refused r) = false

-- ELEMENT is closed
abbrev pub after_element : Now → Bool
after_element n = eqb n.block block_top && eqb n.part turn_eof

-- "The last line of the last volume is `EOF`; other volumes have none": whether the volume is complete after a line, by its structure
abbrev pub completes_of : Now → LineForm → Bool → Bool
completes_of n f last = cond last (after_element n && eof_form f) (cond (eqb n.block block_elements) (close_form f) (after_element n && ignored_form f))

-- the next volume begins anew
abbrev pub next_now : Now → Now
next_now n = cond (eqb n.block block_top) (at_block n block_top turn_file) n

-- a volume's last line: 9 where the volume is not complete, or the line's own number where that is smaller
abbrev pub last_step : Bool → Step → Step
last_step complete (S.Go n) = cond complete (S.Go (next_now n)) (S.Stop 9)
last_step complete (S.Skip n) = S.Stop 9
last_step complete (S.Stop k) = S.Stop (cond complete k (min k 9))
