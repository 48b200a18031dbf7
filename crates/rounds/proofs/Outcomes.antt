-- Any two outcomes that the contract of a public function allows are identical. The contract is that of src/, as the checker reads it.
use Rattle.std.proofs.Common.{refl, sym, ap, ◌∙◌}
use Rattle.laws.specs.Outcomes.{Determined}
use Rattle.laws.proofs.Outcomes.{both}
use Rattle.parts.proofs.Outcomes.{part-same}
use Rattle.rounds.specs.Rounds.{Ended}
use Rattle.rounds.proofs.exchange_sides.Kinds as exchange-sides-kinds
use Rattle.rounds.proofs.exchange_sides.Reads as exchange-sides

pub exchange-sides-determined : Determined _ exchange-sides-kinds.ps exchange-sides-kinds.r exchange-sides.Asked exchange-sides.Learnt
exchange-sides-determined κs a p z z' ws ws' e e' =
    let f = e.0 ∙ sym e'.0 in (
      ap (λ (x : Ended). x.ending) f,
      both (part-same _ _ a.0.now (ap (λ (x : Ended). x.pair.a) f) e.1.0 e'.1.0)
          (both (part-same _ _ a.1.0.now (ap (λ (x : Ended). x.pair.b) f) e.1.1.0 e'.1.1.0) (both (ap (λ (x : Ended). x.pair.twelves) f) refl)),
    )
