-- Any two outcomes that the contract of a public function allows are identical. The contract is that of src/, as the checker reads it.
use Rattle.std.proofs.Common.{refl, sym, ap, ◌∙◌}
use Rattle.laws.specs.Outcomes.{Determined}
use Rattle.laws.proofs.Outcomes.{both}
use Rattle.exchange.specs.Exchange.{Exchanging}
use Rattle.exchange.proofs.ExchangeError.number.Kinds as number-kinds
use Rattle.exchange.proofs.ExchangeError.number.Reads as number
use Rattle.exchange.proofs.exchange_in.Kinds as exchange-in-kinds
use Rattle.exchange.proofs.exchange_in.Reads as exchange-in
use Rattle.exchange.proofs.exchange.Kinds as exchange-kinds
use Rattle.exchange.proofs.exchange.Reads as exchange

pub number-determined : Determined _ number-kinds.ps number-kinds.r number.Asked number.Learnt
number-determined κs a p z z' ws ws' e e' = (e ∙ sym e', refl)

pub exchange-in-determined : Determined _ exchange-in-kinds.ps exchange-in-kinds.r exchange-in.Asked exchange-in.Learnt
exchange-in-determined κs a p z z' ws ws' e e' = let f = e ∙ sym e' in (
  ap (λ (x : Exchanging). x.answer) f,
  both refl (both refl (both refl (both refl (both (ap (λ (x : Exchanging). x.room.table.xors) f) (both (ap (λ (x : Exchanging). x.room.table.flows) f) (both (ap (λ (x : Exchanging). x.room.packets) f) (both (ap (λ (x : Exchanging). x.room.table.unknowns) f) (both (ap (λ (x : Exchanging). x.room.table.positions) f) (both (ap (λ (x : Exchanging). x.room.table.marks) f) (both (ap (λ (x : Exchanging). x.room.list.keys) f) (both (ap (λ (x : Exchanging). x.room.list.counts) f) (both (ap (λ (x : Exchanging). x.room.list.flags) f) refl)))))))))))),
)

pub exchange-determined : Determined _ exchange-kinds.ps exchange-kinds.r exchange.Asked exchange.Learnt
exchange-determined κs a p z z' ws ws' e e' = let f = e ∙ sym e' in (
  ap (λ (x : Exchanging). x.answer) f,
  both refl (both refl (both refl (both (ap (λ (x : Exchanging). x.room.table.xors) f) (both (ap (λ (x : Exchanging). x.room.table.flows) f) (both (ap (λ (x : Exchanging). x.room.packets) f) (both (ap (λ (x : Exchanging). x.room.table.unknowns) f) (both (ap (λ (x : Exchanging). x.room.table.positions) f) (both (ap (λ (x : Exchanging). x.room.table.marks) f) (both (ap (λ (x : Exchanging). x.room.list.keys) f) (both (ap (λ (x : Exchanging). x.room.list.counts) f) (both (ap (λ (x : Exchanging). x.room.list.flags) f) refl))))))))))),
)
