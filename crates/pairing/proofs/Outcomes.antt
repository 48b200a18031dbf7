-- Any two outcomes that the contract of the call allows are identical. The contract is that of src/, as the checker reads it.
use mathlib.Core.Path.{◌≡◌, refl, sym, ap, ◌∙◌}
use Rattle.laws.proofs.Outcomes.{both}
use Rattle.table.specs.Table.{tab}
use Rattle.exchange.specs.Exchange.{Exchanged}
use Rattle.records.specs.Outcomes.{Determines}
use Rattle.calls.specs.Calls.{lent, Called, called}
use Rattle.calls.proofs.Outcomes.{written}
use Rattle.pairing.specs.Pairing.{exchange_records}
use Rattle.pairing.specs.contracts.exchange as exchange

pub exchange-determines : Determines exchange.ended (λ M 𝓤 𝓛. exchange.clauses 𝓛)
exchange-determines = record {
  Learnt = λ κs a z e. called z (lent a.1.1.0.now
      (tab e.1.1.1.0.now e.1.1.1.1.0.now e.1.1.1.1.1.1.0.now e.1.1.1.1.1.1.1.0.now e.1.1.1.1.1.1.1.1.0.now)
      e.1.1.1.1.1.0.now e.1.1.1.1.1.1.1.1.1.0.now)
      ≡ exchange_records a.0 a.1.0 (lent a.1.1.0.now
      (tab a.1.1.1.0.now a.1.1.1.1.0.now a.1.1.1.1.1.1.0.now a.1.1.1.1.1.1.1.0.now a.1.1.1.1.1.1.1.1.0.now)
      a.1.1.1.1.1.0.now a.1.1.1.1.1.1.1.1.1.0.now);
  says = λ M 𝓤 𝓛 mem run κs a g z e. refl;
  determined = λ κs a z z' ws ws' p p'. let q = p ∙ sym p' in (
    ap (λ (x : Called Exchanged). x.answer) q,
    both refl (both refl (both refl (ap (λ (x : Called Exchanged). written x.room) q))),
  );
}
