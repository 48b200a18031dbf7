-- Any two outcomes that the contract of a public function allows are identical. The contracts are those of src/, as the checker reads them.
use mathlib.Core.Path.{◌≡◌, refl, sym, ap, ◌∙◌}
use lib.ListN.{length, set}
use Rattle.laws.specs.Outcomes.{Determined}
use Rattle.laws.proofs.Outcomes.{both}
use Rattle.list.specs.Records.{Records, records}
use Rattle.records.specs.Record.{at, AllFit, apart_upto, together_upto}
use Rattle.records.specs.Outcomes.{Determines}
use Rattle.records.specs.contracts.read as read
use Rattle.records.specs.contracts.put as put
use Rattle.records.specs.contracts.length_of as length-of
use Rattle.records.specs.contracts.take_apart as take-apart
use Rattle.records.specs.contracts.put_back as put_back
use Rattle.records.proofs.key_at.Kinds as key-at-kinds
use Rattle.records.proofs.key_at.Reads as key-at

pub read-determines : Determines read.ended (λ M 𝓤 𝓛. read.clauses 𝓛)
read-determines = record {
  Learnt = λ κs a z e. z ≡ at a.0.now a.1.0;
  says = λ M 𝓤 𝓛 mem run κs a g z e. refl;
  determined = λ κs a z z' ws ws' p p'. (p ∙ sym p', refl);
}

pub put-determines : Determines put.ended (λ M 𝓤 𝓛. put.clauses 𝓛)
put-determines = record {
  Learnt = λ κs a z e. e.0.now ≡ set a.0.now a.1.0 a.1.1.0;
  says = λ M 𝓤 𝓛 mem run κs a g z e. refl;
  determined = λ κs a z z' ws ws' p p'. (refl, both (p ∙ sym p') refl);
}

pub length-of-determines : Determines length-of.ended (λ M 𝓤 𝓛. length-of.clauses 𝓛)
length-of-determines = record {
  Learnt = λ κs a z e. (z ≡ length a.0.now) × AllFit a.0.now;
  says = λ M 𝓤 𝓛 mem run κs a g z e. refl;
  determined = λ κs a z z' ws ws' p p'. (p.0 ∙ sym p'.0, refl);
}

pub take-apart-determines : Determines take-apart.ended (λ M 𝓤 𝓛. take-apart.clauses 𝓛)
take-apart-determines = record {
  Learnt = λ κs a z e. records e.1.1.0.now e.1.1.1.0.now e.1.1.1.1.0.now
      ≡ apart_upto a.1.0 a.0.now (records a.1.1.0.now a.1.1.1.0.now a.1.1.1.1.0.now);
  says = λ M 𝓤 𝓛 mem run κs a g z e. refl;
  determined = λ κs a z z' ws ws' p p'. (refl, ap (λ (x : Records). (tt, (tt, (x.keys, (x.counts, (x.flags, tt)))))) (p ∙ sym p'));
}

pub put-back-determines : Determines put_back.ended (λ M 𝓤 𝓛. put_back.clauses 𝓛)
put-back-determines = record {
  Learnt = λ κs a z e. e.0.now
      ≡ together_upto a.1.0 (records a.1.1.0.now a.1.1.1.0.now a.1.1.1.1.0.now) a.0.now;
  says = λ M 𝓤 𝓛 mem run κs a g z e. refl;
  determined = λ κs a z z' ws ws' p p'. (refl, both (p ∙ sym p') refl);
}

pub key-at-determined : Determined _ key-at-kinds.ps key-at-kinds.r key-at.Asked key-at.Learnt
key-at-determined κs a p z z' ws ws' e e' = (e ∙ sym e', refl)
