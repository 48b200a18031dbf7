-- Any two outcomes that the contract of a public function allows are identical. The contracts are those of src/, as the checker reads them.
use mathlib.Core.Path.{refl, sym, ap, ◌∙◌}
use Rattle.laws.specs.Outcomes.{Determined}
use Rattle.laws.proofs.Outcomes.{both}
use Rattle.list.proofs.Outcomes.{found-same}
use Rattle.table.proofs.Outcomes.{table-same}
use Rattle.settling.proofs.settle_all.Kinds as settle-all-kinds
use Rattle.settling.proofs.settle_all.Reads as settle-all
use Rattle.settling.specs.Settle.{Settled}

pub settle-all-determined : Determined _ settle-all-kinds.ps settle-all-kinds.r settle-all.Asked settle-all.Learnt
settle-all-determined κs a p z z' ws ws' e e' =
    let f = e.0 ∙ sym e'.0 in (
      ap (λ (x : Settled). x.answer) f,
      both refl (both refl (both (table-same _ _ a.1.1.0.now (ap (λ (x : Settled). x.table) f) e.1.0 e'.1.0)
          (both (ap (λ (x : Settled). x.packets) f)
          (both (found-same _ _ a.1.1.1.1.0.now (ap (λ (x : Settled). x.list) f) e.1.1 e'.1.1) (both (ap (λ (x : Settled). x.seen) f) refl))))),
    )
