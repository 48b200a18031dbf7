-- The lines of a session's records are those of its flows, each with its packets taken, where every count is known and right.
use mathlib.Core.Path.{◌≡◌, refl, sym, ap, ap₂, ◌∙◌}
use mathlib.Core.Bool.{Bool, true, false}
use mathlib.Core.List.{List, [], ◌∷◌, ◌++◌, append-nil, append_assoc}
use mathlib.Core.Logic.{inl, inr}
use mathlib.Core.Option.{Option, some, none}
use Prim.Native.Nat.{ℕ, zero, suc}
use Rattle.std.proofs.Common.{Some}
use Rattle.std.specs.Bool.{then_some}
use Rattle.laws.specs.Upto.{join_upto, list_upto}
use Rattle.laws.proofs.Bools.{split, clash}
use Rattle.layout.specs.Sizes.{ipv4_layout}
use Rattle.packet.specs.Key.{key_from}
use Rattle.list.specs.Records.{Records}
use Rattle.lines.specs.Text.{flow_line}
use Rattle.printing.specs.Print.{record_line}
use Rattle.theory.specs.Encode.{Key, same_key, among, Distinct}
use Rattle.theory.specs.Session.{Record, keys_of, keys_where, unknowns_of, count_of}
use Rattle.theory.specs.Invariant.{CountsRight}
use Rattle.theory.proofs.Flow.{same_refl, same-eq}
use Rattle.link.specs.View.{record_at, records_of}
use Rattle.truth.specs.Printed.{flow_lines}
use Rattle.truth.specs.Page.{line_of, lines_of}

lines-append : (rs : List Record) (r : Record) → lines_of (rs ++ (r ∷ [])) ≡ lines_of rs ++ line_of r
unfolding lines_of
lines-append [] r = append-nil (line_of r)
lines-append (x ∷ rs) r = ap (λ s. line_of x ++ s) (lines-append rs r) ∙ sym (append_assoc (line_of x) (lines_of rs) (line_of r))

-- the lines that are printed are those of the records
pub lines-of : (rs : Records) (n : ℕ) → join_upto n (record_line rs) ≡ lines_of (records_of ipv4_layout n rs)
unfolding join_upto list_upto record_line record_at lines_of
lines-of rs zero = refl
lines-of rs (suc n) = ap (λ s. s ++ record_line rs n) (lines-of rs n) ∙ sym (lines-append (records_of ipv4_layout n rs) (record_at ipv4_layout rs n))

-- no count is unknown
all_known : (r : Record) (rs : List Record) → unknowns_of (r ∷ rs) ≡ [] → (r.known ≡ true) × (unknowns_of rs ≡ [])
unfolding keys_where
all_known r rs e = elim (split r.known) [
  | inl k ↦ (k, rw k at e)
  | inr k ↦ absurd (no-cons (rw k at e))
]
  where
    is_none : List Key → Bool
    is_none [] = true
    is_none (x ∷ l) = false

    no-cons : {x : Key} {l : List Key} → (x ∷ l) ≡ [] → ⊥
    no-cons q = clash refl (sym (ap is_none q))

-- a key with a count is listed
count-listed : (rs : List Record) (k : Key) (n : ℕ) → count_of rs k ≡ some n → among k (keys_of rs) ≡ true
unfolding count_of keys_of among
count-listed [] k n e = clash refl (ap is_none e)
  where
    is_none : Option ℕ → Bool
    is_none none = true
    is_none (some n) = false
count-listed (r ∷ rs) k n e = elim (split (same_key k r.key)) [
  | inl s ↦ rw s
  | inr s ↦ rw s (count-listed rs k n (rw s at e))
]

-- where no key is listed twice and each stated count is the flow's, each record's is
pub counts-right : (packets : Key → ℕ) (rs : List Record) → Distinct (keys_of rs) → ((k : Key) (n : ℕ) → count_of rs k ≡ some n → n ≡ packets k)
    → CountsRight packets rs
unfolding CountsRight Distinct keys_of count_of
counts-right packets [] d said = tt
counts-right packets (r ∷ rs) d said = (
  λ known. said r.key r.count (rw (same_refl r.key, known)),
  counts-right packets rs d.1 (λ k n e. said k n (elim (split (same_key k r.key)) [
    | inl s ↦ clash (count-listed rs k n e) (ap (λ x. among x (keys_of rs)) (same-eq k r.key s) ∙ d.0)
    | inr s ↦ rw s e
  ])),
)

pub right-lines : (packets : Key → ℕ) (rs : List Record) → unknowns_of rs ≡ [] → CountsRight packets rs → lines_of rs ≡ flow_lines packets (keys_of rs)
unfolding CountsRight lines_of flow_lines keys_of
right-lines packets [] e right = refl
right-lines packets (r ∷ rs) e right =
    let known = all_known r rs e in
    ap₂ (λ b c. flow_line (key_from r.key) (then_some b c) ++ lines_of rs) known.0 (right.0 known.0)
    ∙ ap (λ s. flow_line (key_from r.key) (Some (packets r.key)) ++ s) (right-lines packets rs known.1 right.1)
