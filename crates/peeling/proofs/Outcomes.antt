-- Any two outcomes that the contract of a public function, or of one peel, allows are identical. The contracts are those of src/, as the checker reads them.
use mathlib.Core.Path.{refl, sym, ap, ◌∙◌}
use Rattle.laws.specs.Outcomes.{Determined}
use Rattle.laws.proofs.Outcomes.{both}
use Rattle.peeling.proofs.peel.Kinds as peel-kinds
use Rattle.peeling.proofs.peel.Reads as peel
use Rattle.peeling.proofs.peels.Kinds as peels-kinds
use Rattle.peeling.proofs.peels.Reads as peels
use Rattle.list.proofs.Outcomes.{found-same}
use Rattle.table.proofs.Outcomes.{table-same}
use Rattle.peeling.specs.Peel.{Peeled, Ended}

pub peel-determined : Determined _ peel-kinds.ps peel-kinds.r peel.Asked peel.Learnt
peel-determined κs a p z z' ws ws' e e' =
    let f = e.0 ∙ sym e'.0 in (
      ap (λ (x : Peeled). x.answer) f,
      both refl (both refl (both (table-same _ _ a.1.1.0.now (ap (λ (x : Peeled). x.table) f) e.1.0 e'.1.0)
          (both (found-same _ _ a.1.1.1.0.now (ap (λ (x : Peeled). x.list) f) e.1.1 e'.1.1) (both (ap (λ (x : Peeled). x.seen) f) refl)))),
    )

pub peels-determined : Determined _ peels-kinds.ps peels-kinds.r peels.Asked peels.Learnt
peels-determined κs a p z z' ws ws' e e' =
    let f = e.0 ∙ sym e'.0 in (
      ap (λ (x : Ended). x.answer) f,
      both refl (both refl (both (table-same _ _ a.1.1.0.now (ap (λ (x : Ended). x.table) f) e.1.0 e'.1.0)
          (both (found-same _ _ a.1.1.1.0.now (ap (λ (x : Ended). x.list) f) e.1.1 e'.1.1) (both (ap (λ (x : Ended). x.seen) f) refl)))),
    )
