-- Any two outcomes that the contract of a public function allows are identical. The contracts are those of src/, as the checker reads them.
use mathlib.Core.Path.{◌≡◌, refl, sym, ◌∙◌}
use Rattle.laws.specs.Outcomes.{Determined}
use Rattle.hash.proofs.Fnv.new.Kinds as fnv-new-kinds
use Rattle.hash.proofs.Fnv.new.Reads as fnv-new
use Rattle.hash.proofs.Fnv.byte.Kinds as fnv-byte-kinds
use Rattle.hash.proofs.Fnv.byte.Reads as fnv-byte
use Rattle.hash.proofs.Fnv.word.Kinds as fnv-word-kinds
use Rattle.hash.proofs.Fnv.word.Reads as fnv-word
use Rattle.hash.proofs.Fnv.bytes.Kinds as fnv-bytes-kinds
use Rattle.hash.proofs.Fnv.bytes.Reads as fnv-bytes
use Rattle.hash.proofs.after_salt.Kinds as after-salt-kinds
use Rattle.hash.proofs.after_salt.Reads as after-salt
use Rattle.hash.proofs.place.Kinds as place-kinds
use Rattle.hash.proofs.place.Reads as place
use Rattle.hash.proofs.fnv_of_four.Kinds as four-kinds
use Rattle.hash.proofs.fnv_of_four.Reads as four
use Rattle.hash.proofs.Placing.cell_of.Kinds as cell-of-kinds
use Rattle.hash.proofs.Placing.cell_of.Reads as cell-of
use Rattle.hash.proofs.Placing.cells_of.Kinds as cells-of-kinds
use Rattle.hash.proofs.Placing.cells_of.Reads as Cells-of
use Rattle.hash.proofs.Placing.bits_of.Kinds as placing-bits-kinds
use Rattle.hash.proofs.Placing.bits_of.Reads as placing-bits
use Rattle.hash.proofs.bits_of.Kinds as bits-of-kinds
use Rattle.hash.proofs.bits_of.Reads as bits_of
use Rattle.hash.specs.declared.Fnv.{Fnv}
use Rattle.hash.specs.declared.Cells.{Cells}
use Rattle.hash.specs.declared.Bits.{Bits}

-- a struct of one field is that field
state-alone : (x y : Fnv) → x.state ≡ y.state → x ≡ y
state-alone x y e = λ i. record { state = e i }

cells-alone : (x y : Cells) → x.at ≡ y.at → x ≡ y
cells-alone x y e = λ i. record { at = e i }

bits-alone : (x y : Bits) → x.at ≡ y.at → x ≡ y
bits-alone x y e = λ i. record { at = e i }

pub fnv-new-determined : Determined _ fnv-new-kinds.ps fnv-new-kinds.r fnv-new.Asked fnv-new.Learnt
fnv-new-determined κs a p z z' ws ws' e e' = (state-alone z z' (e ∙ sym e'), refl)

pub fnv-byte-determined : Determined _ fnv-byte-kinds.ps fnv-byte-kinds.r fnv-byte.Asked fnv-byte.Learnt
fnv-byte-determined κs a p z z' ws ws' e e' = (state-alone z z' (e ∙ sym e'), refl)

pub fnv-word-determined : Determined _ fnv-word-kinds.ps fnv-word-kinds.r fnv-word.Asked fnv-word.Learnt
fnv-word-determined κs a p z z' ws ws' e e' = (state-alone z z' (e ∙ sym e'), refl)

pub fnv-bytes-determined : Determined _ fnv-bytes-kinds.ps fnv-bytes-kinds.r fnv-bytes.Asked fnv-bytes.Learnt
fnv-bytes-determined κs a p z z' ws ws' e e' = (state-alone z z' (e ∙ sym e'), refl)

pub after-salt-determined : Determined _ after-salt-kinds.ps after-salt-kinds.r after-salt.Asked after-salt.Learnt
after-salt-determined κs a p z z' ws ws' e e' = (e ∙ sym e', refl)

pub place-determined : Determined _ place-kinds.ps place-kinds.r place.Asked place.Learnt
place-determined κs a p z z' ws ws' e e' = (e ∙ sym e', refl)

pub four-determined : Determined _ four-kinds.ps four-kinds.r four.Asked four.Learnt
four-determined κs a p z z' ws ws' e e' = (e ∙ sym e', refl)

pub cell-of-determined : Determined _ cell-of-kinds.ps cell-of-kinds.r cell-of.Asked cell-of.Learnt
cell-of-determined κs a p z z' ws ws' e e' = (e ∙ sym e', refl)

pub cells-of-determined : Determined _ cells-of-kinds.ps cells-of-kinds.r Cells-of.Asked Cells-of.Learnt
cells-of-determined κs a p z z' ws ws' e e' = (cells-alone z z' (e ∙ sym e'), refl)

pub bits-of-determined : Determined _ bits-of-kinds.ps bits-of-kinds.r bits_of.Asked bits_of.Learnt
bits-of-determined κs a p z z' ws ws' e e' = (bits-alone z z' (e ∙ sym e'), refl)

pub placing-bits-determined : Determined _ placing-bits-kinds.ps placing-bits-kinds.r placing-bits.Asked placing-bits.Learnt
placing-bits-determined κs a p z z' ws ws' e e' = (bits-alone z z' (e ∙ sym e'), refl)
