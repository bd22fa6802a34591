-- The public functions of this crate have one answer each: whatever two answers keep a function's contract, for the same arguments and the
-- same lent memory, they are equal, and so is the memory that comes back.
-- FUNCTION-unique says it in the contract's own words, with `s` for `now s.entry` and `out₁`, `out₂` for `now out.exit`.
-- FUNCTION-code says it of the contract as the code has it: were it worded otherwise, this would not be proved.
use Rattle.std.specs.Prelude.{Option, Result}
use Prim.Native.Nat.{ℕ}
use mathlib.Core.Bool.{Bool, ◌&&◌, ◌||◌}
use mathlib.Core.List.{List}
use mathlib.Core.Path.{◌≡◌, sym, ◌∙◌, ap₂}
use lib.Dec.{leb}
use lib.IntN.{ℤ}
use lib.ListN.{length, get_or, replicate}
use contract.Lifetimes.{Lfts}
use denote.Triple.Clauses.{AtExit}
use borrow.Fn.Kinds.{ParamKind, ResultKind, Out, Dens, res_t, ended_of}
use Rattle.rules.specs.Base.{all, same, within}
use Rattle.rules.specs.Lines.{allowed}
use Rattle.rules.specs.Numbers.{read_count, read_decimal, fixed, show_count, show_size, show_decimal}
use Rattle.rules.specs.Values.{capital, byte_in, is_layer_id, find_sheet, sheets, read_ratio, show_sheet, show_ratio}
use Rattle.leaves.specs.Bytes.{up_to, bytes_of}
use Rattle.leaves.specs.Readings.{reading_of, read_up_to_eight, read_day, read_clock}
use Rattle.leaves.specs.Pieces.{decimal_piece}
use Rattle.leaves.specs.Drawing.{sheet_of, ratio_of}
use Rattle.leaves.specs.Texts.{text_rules, no_text}
use Rattle.leaves.specs.Writing.{Puts, width}
use Rattle.leaves.specs.declared.DecimalPiece.{DecimalPiece}
use Rattle.leaves.specs.declared.TextRule.{TextRule}
use Rattle.leaves.proofs.truth.both as both'
use Rattle.leaves.proofs.truth.either as either'
use Rattle.leaves.proofs.bytes.same as same'
use Rattle.leaves.proofs.bytes.spells as spells'
use Rattle.leaves.proofs.bytes.find as find'
use Rattle.leaves.proofs.bytes.within as within'
use Rattle.leaves.proofs.bytes.allowed as allowed'
use Rattle.leaves.proofs.bytes.capital as capital'
use Rattle.leaves.proofs.bytes.all_in as all-in'
use Rattle.leaves.proofs.bytes.is_layer_id as is-layer-id'
use Rattle.leaves.proofs.numbers.count as count'
use Rattle.leaves.proofs.numbers.serial as serial'
use Rattle.leaves.proofs.numbers.fixed as fixed'
use Rattle.leaves.proofs.numbers.day as day'
use Rattle.leaves.proofs.numbers.clock as clock'
use Rattle.leaves.proofs.numbers.decimal as decimal'
use Rattle.leaves.proofs.pieces.decimal_piece as decimal-piece'
use Rattle.leaves.proofs.sheets.sheet as sheet'
use Rattle.leaves.proofs.sheets.ratio as ratio'
use Rattle.leaves.proofs.texts.text_rule as text-rule'
use Rattle.leaves.proofs.texts.fits as fits'
use Rattle.leaves.proofs.write.clear as clear'
use Rattle.leaves.proofs.write.put as put'
use Rattle.leaves.proofs.write.put_count as put-count'
use Rattle.leaves.proofs.write.put_fixed as put-fixed'
use Rattle.leaves.proofs.write.put_size as put-size'
use Rattle.leaves.proofs.write.put_decimal as put-decimal'
use Rattle.leaves.proofs.write.put_sheet as put-sheet'
use Rattle.leaves.proofs.write.put_ratio as put-ratio'
use Rattle.leaves.specs.declared.Decimal.{Decimal}
use Rattle.leaves.specs.declared.NoRoom.{NoRoom}
use Rattle.leaves.specs.declared.Scale.{Scale}
use Rattle.leaves.specs.declared.SheetSize.{SheetSize}

-- what a contract's callers learn (C), of the arguments, the answer and the lent memory on return, leaves one thing to be seen
abbrev pub One : {n : ℕ} (ps : List (ParamKind n)) (r : ResultKind n) → Out n ps r → {A : Type 0} → ((κs : Lfts n) → (res_t r κs).Denot → AtExit (ended_of n ps r) κs → A) → Type 0
One {n} ps r C seen =
    (κs : Lfts n) (x : Dens κs ps) (r₁ r₂ : (res_t r κs).Denot) (e₁ e₂ : AtExit (ended_of n ps r) κs) → C κs x r₁ e₁ → C κs x r₂ e₂ → seen κs r₁ e₁ ≡ seen κs r₂ e₂

-- an answer and a memory as one
pub paired : {A B : Type 0} {a₁ a₂ : A} {b₁ b₂ : B} → (a₁ ≡ a₂) × (b₁ ≡ b₂) → ◌≡◌ {A = A × B} (a₁, b₁) (a₂, b₂)
paired {A} {B} p = ap₂ {C = A × B} (λ a b. (a, b)) p.0 p.1

-- ── bytes ──
pub same_unique : (a b : List ℕ) (r₁ r₂ : Bool) → r₁ ≡ same a b → r₂ ≡ same a b → r₁ ≡ r₂
same_unique a b r₁ r₂ c₁ c₂ = c₁ ∙ sym c₂

same_code : One same'.Kinds.ps same'.Kinds.r same'.Reads.Learnt (λ κs r e. r)
same_code κs x r₁ r₂ e₁ e₂ = same_unique x.0.now x.1.0.now r₁ r₂

pub spells_unique : (part fixed : List ℕ) (r₁ r₂ : Bool) → r₁ ≡ same part fixed → r₂ ≡ same part fixed → r₁ ≡ r₂
spells_unique part fixed r₁ r₂ c₁ c₂ = c₁ ∙ sym c₂

spells-code : One spells'.Kinds.ps spells'.Kinds.r spells'.Reads.Learnt (λ κs r e. r)
spells-code κs x r₁ r₂ e₁ e₂ = spells_unique x.0.now x.1.0.now r₁ r₂

pub find_unique : (s : List ℕ) (b : ℕ) (r₁ r₂ : ℕ) → r₁ ≡ length (up_to b s) → r₂ ≡ length (up_to b s) → r₁ ≡ r₂
find_unique s b r₁ r₂ c₁ c₂ = c₁ ∙ sym c₂

find-code : One find'.Kinds.ps find'.Kinds.r find'.Reads.Learnt (λ κs r e. r)
find-code κs x r₁ r₂ e₁ e₂ = find_unique x.0.now x.1.0 r₁ r₂

pub within_unique : (lo hi n : ℕ) (r₁ r₂ : Bool) → r₁ ≡ within lo hi n → r₂ ≡ within lo hi n → r₁ ≡ r₂
within_unique lo hi n r₁ r₂ c₁ c₂ = c₁ ∙ sym c₂

within-code : One within'.Kinds.ps within'.Kinds.r within'.Reads.Learnt (λ κs r e. r)
within-code κs x r₁ r₂ e₁ e₂ = within_unique x.0 x.1.0 x.1.1.0 r₁ r₂

pub allowed_unique : (s : List ℕ) (r₁ r₂ : Bool) → r₁ ≡ allowed s → r₂ ≡ allowed s → r₁ ≡ r₂
allowed_unique s r₁ r₂ c₁ c₂ = c₁ ∙ sym c₂

allowed-code : One allowed'.Kinds.ps allowed'.Kinds.r allowed'.Reads.Learnt (λ κs r e. r)
allowed-code κs x r₁ r₂ e₁ e₂ = allowed_unique x.0.now r₁ r₂

pub capital_unique : (b r₁ r₂ : ℕ) → r₁ ≡ capital b → r₂ ≡ capital b → r₁ ≡ r₂
capital_unique b r₁ r₂ c₁ c₂ = c₁ ∙ sym c₂

capital-code : One capital'.Kinds.ps capital'.Kinds.r capital'.Reads.Learnt (λ κs r e. r)
capital-code κs x r₁ r₂ e₁ e₂ = capital_unique x.0 r₁ r₂

pub all_in_unique : (s : List ℕ) (set : ℕ) (r₁ r₂ : Bool) → r₁ ≡ all (byte_in (bytes_of set)) s → r₂ ≡ all (byte_in (bytes_of set)) s → r₁ ≡ r₂
all_in_unique s set r₁ r₂ c₁ c₂ = c₁ ∙ sym c₂

all_in-code : One all-in'.Kinds.ps all-in'.Kinds.r all-in'.Reads.Learnt (λ κs r e. r)
all_in-code κs x r₁ r₂ e₁ e₂ = all_in_unique x.0.now x.1.0 r₁ r₂

pub is-layer-id_unique : (s : List ℕ) (r₁ r₂ : Bool) → r₁ ≡ is_layer_id s → r₂ ≡ is_layer_id s → r₁ ≡ r₂
is-layer-id_unique s r₁ r₂ c₁ c₂ = c₁ ∙ sym c₂

is-layer-id-code : One is-layer-id'.Kinds.ps is-layer-id'.Kinds.r is-layer-id'.Reads.Learnt (λ κs r e. r)
is-layer-id-code κs x r₁ r₂ e₁ e₂ = is-layer-id_unique x.0.now r₁ r₂

-- ── truths ──
pub both_unique : (a b r₁ r₂ : Bool) → r₁ ≡ (a && b) → r₂ ≡ (a && b) → r₁ ≡ r₂
both_unique a b r₁ r₂ c₁ c₂ = c₁ ∙ sym c₂

both_code : One both'.Kinds.ps both'.Kinds.r both'.Reads.Learnt (λ κs r e. r)
both_code κs x r₁ r₂ e₁ e₂ = both_unique x.0 x.1.0 r₁ r₂

pub either_unique : (a b r₁ r₂ : Bool) → r₁ ≡ (a || b) → r₂ ≡ (a || b) → r₁ ≡ r₂
either_unique a b r₁ r₂ c₁ c₂ = c₁ ∙ sym c₂

either-code : One either'.Kinds.ps either'.Kinds.r either'.Reads.Learnt (λ κs r e. r)
either-code κs x r₁ r₂ e₁ e₂ = either_unique x.0 x.1.0 r₁ r₂

-- ── numbers ──
pub count_unique : (s : List ℕ) (r₁ r₂ : Option ℕ) → r₁ ≡ read_count 9 s → r₂ ≡ read_count 9 s → r₁ ≡ r₂
count_unique s r₁ r₂ c₁ c₂ = c₁ ∙ sym c₂

count_code : One count'.Kinds.ps count'.Kinds.r count'.Reads.Learnt (λ κs r e. r)
count_code κs x r₁ r₂ e₁ e₂ = count_unique x.0.now r₁ r₂

pub serial_unique : (s : List ℕ) (r₁ r₂ : Option ℕ) → r₁ ≡ read_count 10 s → r₂ ≡ read_count 10 s → r₁ ≡ r₂
serial_unique s r₁ r₂ c₁ c₂ = c₁ ∙ sym c₂

serial-code : One serial'.Kinds.ps serial'.Kinds.r serial'.Reads.Learnt (λ κs r e. r)
serial-code κs x r₁ r₂ e₁ e₂ = serial_unique x.0.now r₁ r₂

pub fixed_unique : (s : List ℕ) (w : ℕ) (r₁ r₂ : Option ℕ) → r₁ ≡ read_up_to_eight w s → r₂ ≡ read_up_to_eight w s → r₁ ≡ r₂
fixed_unique s w r₁ r₂ c₁ c₂ = c₁ ∙ sym c₂

fixed-code : One fixed'.Kinds.ps fixed'.Kinds.r fixed'.Reads.Learnt (λ κs r e. r)
fixed-code κs x r₁ r₂ e₁ e₂ = fixed_unique x.0.now x.1.0 r₁ r₂

pub day_unique : (s : List ℕ) (r₁ r₂ : Option ℕ) → r₁ ≡ read_day s → r₂ ≡ read_day s → r₁ ≡ r₂
day_unique s r₁ r₂ c₁ c₂ = c₁ ∙ sym c₂

day-code : One day'.Kinds.ps day'.Kinds.r day'.Reads.Learnt (λ κs r e. r)
day-code κs x r₁ r₂ e₁ e₂ = day_unique x.0.now r₁ r₂

pub clock_unique : (s : List ℕ) (r₁ r₂ : Option ℕ) → r₁ ≡ read_clock s → r₂ ≡ read_clock s → r₁ ≡ r₂
clock_unique s r₁ r₂ c₁ c₂ = c₁ ∙ sym c₂

clock-code : One clock'.Kinds.ps clock'.Kinds.r clock'.Reads.Learnt (λ κs r e. r)
clock-code κs x r₁ r₂ e₁ e₂ = clock_unique x.0.now r₁ r₂

pub decimal_unique : (s : List ℕ) (r₁ r₂ : Option Decimal) → r₁ ≡ reading_of (read_decimal s) → r₂ ≡ reading_of (read_decimal s) → r₁ ≡ r₂
decimal_unique s r₁ r₂ c₁ c₂ = c₁ ∙ sym c₂

decimal-code : One decimal'.Kinds.ps decimal'.Kinds.r decimal'.Reads.Learnt (λ κs r e. r)
decimal-code κs x r₁ r₂ e₁ e₂ = decimal_unique x.0.now r₁ r₂

-- ── pieces ──
pub decimal-piece_unique : (s : List ℕ) (r₁ r₂ : DecimalPiece) → r₁ ≡ decimal_piece s → r₂ ≡ decimal_piece s → r₁ ≡ r₂
decimal-piece_unique s r₁ r₂ c₁ c₂ = c₁ ∙ sym c₂

decimal-piece-code : One decimal-piece'.Kinds.ps decimal-piece'.Kinds.r decimal-piece'.Reads.Learnt (λ κs r e. r)
decimal-piece-code κs x r₁ r₂ e₁ e₂ = decimal-piece_unique x.0.now r₁ r₂

-- ── sheets ──
pub sheet_unique : (s : List ℕ) (r₁ r₂ : Option SheetSize) → r₁ ≡ sheet_of (find_sheet s sheets) → r₂ ≡ sheet_of (find_sheet s sheets) → r₁ ≡ r₂
sheet_unique s r₁ r₂ c₁ c₂ = c₁ ∙ sym c₂

sheet-code : One sheet'.Kinds.ps sheet'.Kinds.r sheet'.Reads.Learnt (λ κs r e. r)
sheet-code κs x r₁ r₂ e₁ e₂ = sheet_unique x.0.now r₁ r₂

pub ratio_unique : (s : List ℕ) (r₁ r₂ : Result Scale ℕ) → r₁ ≡ ratio_of (read_ratio s) → r₂ ≡ ratio_of (read_ratio s) → r₁ ≡ r₂
ratio_unique s r₁ r₂ c₁ c₂ = c₁ ∙ sym c₂

ratio-code : One ratio'.Kinds.ps ratio'.Kinds.r ratio'.Reads.Learnt (λ κs r e. r)
ratio-code κs x r₁ r₂ e₁ e₂ = ratio_unique x.0.now r₁ r₂

-- ── texts ──
pub text-rule_unique : (key : ℕ) (r₁ r₂ : TextRule) → r₁ ≡ get_or text_rules key no_text → r₂ ≡ get_or text_rules key no_text → r₁ ≡ r₂
text-rule_unique key r₁ r₂ c₁ c₂ = c₁ ∙ sym c₂

text-rule-code : One text-rule'.Kinds.ps text-rule'.Kinds.r text-rule'.Reads.Learnt (λ κs r e. r)
text-rule-code κs x r₁ r₂ e₁ e₂ = text-rule_unique x.0 r₁ r₂

pub fits_unique : (c : List ℕ) (most set : ℕ) (r₁ r₂ : Bool) → r₁ ≡ (all (byte_in (bytes_of set)) c && leb (length c) most) → r₂ ≡ (all (byte_in (bytes_of set)) c && leb (length c) most) → r₁ ≡ r₂
fits_unique c most set r₁ r₂ c₁ c₂ = c₁ ∙ sym c₂

fits-code : One fits'.Kinds.ps fits'.Kinds.r fits'.Reads.Learnt (λ κs r e. r)
fits-code κs x r₁ r₂ e₁ e₂ = fits_unique x.0.now x.1.0 x.1.1.0 r₁ r₂

-- ── write: the answer, and the output on return ──
both-put : {text out out₁ out₂ : List ℕ} {r₁ r₂ : Result ℕ NoRoom} → Puts text out out₁ r₁ → Puts text out out₂ r₂ → (r₁ ≡ r₂) × (out₁ ≡ out₂)
both-put c₁ c₂ = (c₁.answer ∙ sym c₂.answer, c₁.memory ∙ sym c₂.memory)

pub clear_unique : (out out₁ out₂ : List ℕ) → out₁ ≡ replicate (length out) 0 → out₂ ≡ replicate (length out) 0 → out₁ ≡ out₂
clear_unique out out₁ out₂ c₁ c₂ = c₁ ∙ sym c₂

clear-code : One clear'.Kinds.ps clear'.Kinds.r clear'.Reads.Learnt {A = List ℕ} (λ κs r e. e.0.now)
clear-code κs x r₁ r₂ e₁ e₂ = clear_unique x.0.now e₁.0.now e₂.0.now

pub put_unique : (text out out₁ out₂ : List ℕ) (r₁ r₂ : Result ℕ NoRoom) → Puts text out out₁ r₁ → Puts text out out₂ r₂ → (r₁ ≡ r₂) × (out₁ ≡ out₂)
put_unique text out out₁ out₂ r₁ r₂ c₁ c₂ = both-put c₁ c₂

put-code : One put'.Kinds.ps put'.Kinds.r put'.Reads.Learnt {A = Result ℕ NoRoom × List ℕ} (λ κs r e. (r, e.1.0.now))
put-code κs x r₁ r₂ e₁ e₂ c₁ c₂ = paired (put_unique x.0.now x.1.0.now e₁.1.0.now e₂.1.0.now r₁ r₂ c₁ c₂)

pub put-count_unique : (n : ℕ) (out out₁ out₂ : List ℕ) (r₁ r₂ : Result ℕ NoRoom) → Puts (show_count 20 n) out out₁ r₁ → Puts (show_count 20 n) out out₂ r₂ → (r₁ ≡ r₂) × (out₁ ≡ out₂)
put-count_unique n out out₁ out₂ r₁ r₂ c₁ c₂ = both-put c₁ c₂

put-count-code : One put-count'.Kinds.ps put-count'.Kinds.r put-count'.Reads.Learnt {A = Result ℕ NoRoom × List ℕ} (λ κs r e. (r, e.1.0.now))
put-count-code κs x r₁ r₂ e₁ e₂ c₁ c₂ = paired (put-count_unique x.0 x.1.0.now e₁.1.0.now e₂.1.0.now r₁ r₂ c₁ c₂)

pub put-fixed_unique : (n w : ℕ) (out out₁ out₂ : List ℕ) (r₁ r₂ : Result ℕ NoRoom) → Puts (fixed (width w) n) out out₁ r₁ → Puts (fixed (width w) n) out out₂ r₂ → (r₁ ≡ r₂) × (out₁ ≡ out₂)
put-fixed_unique n w out out₁ out₂ r₁ r₂ c₁ c₂ = both-put c₁ c₂

put-fixed-code : One put-fixed'.Kinds.ps put-fixed'.Kinds.r put-fixed'.Reads.Learnt {A = Result ℕ NoRoom × List ℕ} (λ κs r e. (r, e.1.1.0.now))
put-fixed-code κs x r₁ r₂ e₁ e₂ c₁ c₂ = paired (put-fixed_unique x.0 x.1.0 x.1.1.0.now e₁.1.1.0.now e₂.1.1.0.now r₁ r₂ c₁ c₂)

pub put-size_unique : (m : ℕ) (out out₁ out₂ : List ℕ) (r₁ r₂ : Result ℕ NoRoom) → Puts (show_size m) out out₁ r₁ → Puts (show_size m) out out₂ r₂ → (r₁ ≡ r₂) × (out₁ ≡ out₂)
put-size_unique m out out₁ out₂ r₁ r₂ c₁ c₂ = both-put c₁ c₂

put-size-code : One put-size'.Kinds.ps put-size'.Kinds.r put-size'.Reads.Learnt {A = Result ℕ NoRoom × List ℕ} (λ κs r e. (r, e.1.0.now))
put-size-code κs x r₁ r₂ e₁ e₂ c₁ c₂ = paired (put-size_unique x.0 x.1.0.now e₁.1.0.now e₂.1.0.now r₁ r₂ c₁ c₂)

pub put-decimal_unique : (z : ℤ) (out out₁ out₂ : List ℕ) (r₁ r₂ : Result ℕ NoRoom) → Puts (show_decimal z) out out₁ r₁ → Puts (show_decimal z) out out₂ r₂ → (r₁ ≡ r₂) × (out₁ ≡ out₂)
put-decimal_unique z out out₁ out₂ r₁ r₂ c₁ c₂ = both-put c₁ c₂

put-decimal-code : One put-decimal'.Kinds.ps put-decimal'.Kinds.r put-decimal'.Reads.Learnt {A = Result ℕ NoRoom × List ℕ} (λ κs r e. (r, e.1.0.now))
put-decimal-code κs x r₁ r₂ e₁ e₂ c₁ c₂ = paired (put-decimal_unique x.0 x.1.0.now e₁.1.0.now e₂.1.0.now r₁ r₂ c₁ c₂)

pub put-sheet_unique : (n a : ℕ) (out out₁ out₂ : List ℕ) (r₁ r₂ : Result ℕ NoRoom) → Puts (show_sheet n a) out out₁ r₁ → Puts (show_sheet n a) out out₂ r₂ → (r₁ ≡ r₂) × (out₁ ≡ out₂)
put-sheet_unique n a out out₁ out₂ r₁ r₂ c₁ c₂ = both-put c₁ c₂

put-sheet-code : One put-sheet'.Kinds.ps put-sheet'.Kinds.r put-sheet'.Reads.Learnt {A = Result ℕ NoRoom × List ℕ} (λ κs r e. (r, e.1.1.0.now))
put-sheet-code κs x r₁ r₂ e₁ e₂ c₁ c₂ = paired (put-sheet_unique x.0 x.1.0 x.1.1.0.now e₁.1.1.0.now e₂.1.1.0.now r₁ r₂ c₁ c₂)

pub put-ratio_unique : (p q : ℕ) (out out₁ out₂ : List ℕ) (r₁ r₂ : Result ℕ NoRoom) → Puts (show_ratio p q) out out₁ r₁ → Puts (show_ratio p q) out out₂ r₂ → (r₁ ≡ r₂) × (out₁ ≡ out₂)
put-ratio_unique p q out out₁ out₂ r₁ r₂ c₁ c₂ = both-put c₁ c₂

put-ratio-code : One put-ratio'.Kinds.ps put-ratio'.Kinds.r put-ratio'.Reads.Learnt {A = Result ℕ NoRoom × List ℕ} (λ κs r e. (r, e.1.1.0.now))
put-ratio-code κs x r₁ r₂ e₁ e₂ c₁ c₂ = paired (put-ratio_unique x.0 x.1.0 x.1.1.0.now e₁.1.1.0.now e₂.1.1.0.now r₁ r₂ c₁ c₂)

pub copy_unique : {X : Type 0} (from to₁ to₂ : List X) → to₁ ≡ from → to₂ ≡ from → to₁ ≡ to₂
copy_unique from to₁ to₂ c₁ c₂ = c₁ ∙ sym c₂
