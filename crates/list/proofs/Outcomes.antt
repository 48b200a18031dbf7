-- Any two outcomes that the contract of a public function allows are identical. The contracts are those of src/, as the checker reads them.
use mathlib.Core.Path.{◌≡◌, refl, sym, ap, ◌∙◌}
use borrow.Fn.Kinds.{Dens, res_t, ended_of}
use contract.Lifetimes.{Lfts}
use denote.Triple.Clauses.{Lasts, at_exit}
use Rattle.laws.specs.Outcomes.{Determined}
use Rattle.laws.proofs.Outcomes.{both, same_reference}
use Rattle.list.proofs.key_at.Kinds as key-at-kinds
use Rattle.list.proofs.key_at.Reads as key-at
use Rattle.list.proofs.key_is.Kinds as key-is-kinds
use Rattle.list.proofs.key_is.Reads as key-is
use Rattle.list.proofs.Found.key.Kinds as found-key-kinds
use Rattle.list.proofs.Found.key.Reads as found-key
use Rattle.list.proofs.Found.append.Kinds as found-append-kinds
use Rattle.list.proofs.Found.append.Reads as found-append
use Rattle.list.proofs.set_count.Kinds as set-count-kinds
use Rattle.list.proofs.set_count.Reads as set-count
use Rattle.list.specs.Records.{Records}
use Rattle.list.specs.Found.{list_of, FoundKept}
use Rattle.list.specs.declared.Found.{Found}

-- a part that is lent: what it shows
pub key-at-determined : (κs : Lfts 1) (a : Dens κs key-at-kinds.ps) → key-at.Asked κs a → (z z' : (res_t key-at-kinds.r κs).Denot)
    (ws ws' : Lasts (ended_of 1 key-at-kinds.ps key-at-kinds.r) κs a)
    → key-at.Learnt κs a z (at_exit (ended_of 1 key-at-kinds.ps key-at-kinds.r) κs a ws)
    → key-at.Learnt κs a z' (at_exit (ended_of 1 key-at-kinds.ps key-at-kinds.r) κs a ws') → (z.now ≡ z'.now) × (ws ≡ ws')
key-at-determined κs a p z z' ws ws' e e' = (e ∙ sym e', refl)

pub found-key-determined : (κs : Lfts 2) (a : Dens κs found-key-kinds.ps) → found-key.Asked κs a
    → (z z' : (res_t found-key-kinds.r κs).Denot)
    (ws ws' : Lasts (ended_of 2 found-key-kinds.ps found-key-kinds.r) κs a)
    → found-key.Learnt κs a z (at_exit (ended_of 2 found-key-kinds.ps found-key-kinds.r) κs a ws)
    → found-key.Learnt κs a z' (at_exit (ended_of 2 found-key-kinds.ps found-key-kinds.r) κs a ws') → (z.now ≡ z'.now) × (ws ≡ ws')
found-key-determined κs a p z z' ws ws' e e' = (e ∙ sym e', refl)

pub key-is-determined : Determined _ key-is-kinds.ps key-is-kinds.r key-is.Asked key-is.Learnt
key-is-determined κs a p z z' ws ws' e e' = (e ∙ sym e', refl)

-- two values of the found flows that hold the same records on the same loans are one
pub found-same : (p p' q : Found) → list_of p ≡ list_of p' → FoundKept p q → FoundKept p' q → p ≡ p'
found-same p p' q e k k' =
    let keys : p.keys ≡ p'.keys = same_reference (k.3 ∙ sym k'.3) (k.0 ∙ sym k'.0) (ap (λ (x : Records). x.keys) e) in
    let counts : p.counts ≡ p'.counts = same_reference (k.4 ∙ sym k'.4) (k.1 ∙ sym k'.1) (ap (λ (x : Records). x.counts) e) in
    let flags : p.flags ≡ p'.flags = same_reference (k.5 ∙ sym k'.5) (k.2 ∙ sym k'.2) (ap (λ (x : Records). x.flags) e) in
    λ i. record { keys = keys i; counts = counts i; flags = flags i }

pub found-append-determined : Determined _ found-append-kinds.ps found-append-kinds.r found-append.Asked found-append.Learnt
found-append-determined κs a p z z' ws ws' e e' = (refl, both (found-same _ _ a.0.now (e.0 ∙ sym e'.0) e.1 e'.1) refl)

pub set-count-determined : Determined _ set-count-kinds.ps set-count-kinds.r set-count.Asked set-count.Learnt
set-count-determined κs a p z z' ws ws' e e' = (refl, both refl (both refl (both (e.0 ∙ sym e'.0) (both (e.1 ∙ sym e'.1) refl))))
