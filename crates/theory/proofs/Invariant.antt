-- The invariant holds of a flowset's own table, and each step keeps it.
use mathlib.Core.Path.{◌≡◌, sym, ap, ◌∙◌, fun_ext}
use mathlib.Core.Logic.{inl, inr}
use mathlib.Core.Bool.{Bool, true, false, not}
use Prim.Native.Nat.{ℕ, ◌+◌}
use native.Mathlib.Omega.{arith}
use lib.ListN.{replicate}
use Rattle.laws.specs.Xor.{xor_bytes}
use Rattle.laws.proofs.Bools.{split, and-t, or-e}
use Rattle.laws.proofs.Xor.{xor_bytes-comm, xor_bytes-assoc, xor_bytes-cancel}
use Rattle.theory.specs.Encode.{Key, same_key, among, Distinct, sum_over, total, count, encode_cell, encode, outside}
use Rattle.theory.specs.Session.{Session, keys_of, keys_where, listed, unknown, counted, take_out, set_count}
use Rattle.theory.specs.HandOver.{Switch}
use Rattle.theory.specs.Invariant.{Counted, received, Holds, CountsRight}
use Rattle.theory.proofs.Flow.{same-eq, among_none, without}
use Rattle.theory.proofs.Sums.{sum-split, xor-sized, total-split}
use Rattle.theory.proofs.Records.{take-distinct, count-distinct, where-listed, listed-take, counted-take, listed-count, counted-count}
use Rattle.theory.proofs.Records.{right-append, right-count, packets-take, flows-told}
use Rattle.theory.proofs.Outside.{outside-make, outside-add, outside-idle, outside-same}

module _ (w : Switch) (e : Counted w) where
  open w use {has}
  open e use {key_length, flows as F, packets, flowset as fs}

  -- a session just opened on the table of the flowset
  pub invariant-opened : Holds w e (received w e)
  unfolding encode encode_cell keys_of keys_where CountsRight Distinct
  invariant-opened = record {
    apart = tt;
    inside = λ k m. among_none k m;
    right = tt;
    xors = λ c. ap (λ P. sum_over xor_bytes (replicate key_length 0) P (λ k. k) F) (all c);
    flows = λ c. ap (λ P. count P F) (all c);
    left = λ c. ap (λ P. total P packets F) (all' c);
  }
    where
      all : (c : ℕ) → (λ k. has k c) ≡ outside has (listed (received w e)) c
      all c = unfold among outside in fun_ext (λ k. sym (and-t (has k c)))

      all' : (c : ℕ) → (λ k. has k c) ≡ outside has (counted (received w e)) c
      all' c = unfold among outside counted in fun_ext (λ k. sym (and-t (has k c)))

  module _ (s : Session) (i : Holds w e s) where
    zeros : Key
    zeros = replicate key_length 0

    -- ---- a flow that is not listed is taken out
    module _ (flag : Bool) (x : Key) (m : among x F ≡ true) (n : listed s x ≡ false) where
      take-xors : (c : ℕ) → ((take_out has flag x s).cells c).flow_xor ≡ sum_over xor_bytes zeros (without x (outside has (listed s) c)) (λ k. k) F
      unfolding take_out zeros
      take-xors c = elim (split (has x c)) [
        | inl h ↦ rw (
          h,
          i.xors c,
          sum-split xor_bytes zeros (λ k. k) xor_bytes-comm xor_bytes-assoc (outside has (listed s) c) x F
              fs.apart m (outside-make has (listed s) c x h n),
        )
            (xor_bytes-cancel key_length x _ (fs.sized x m) (xor-sized key_length _ F fs.sized))
        | inr h ↦ rw (h, outside-idle has (listed s) x c h) (i.xors c)
      ]

      take-flows : (c : ℕ) → ((take_out has flag x s).cells c).flow_count ≡ count (without x (outside has (listed s) c)) F
      unfolding take_out
      take-flows c = elim (split (has x c)) [
        | inl h ↦
            let one = total-split (λ k. 1) (outside has (listed s) c) x F fs.apart m (outside-make has (listed s) c x h n) in
            rw (h, i.flows c, one) (omega arith)
        | inr h ↦ rw (h, outside-idle has (listed s) x c h) (i.flows c)
      ]

      pub invariant-take : Holds w e (take_out has flag x s)
      unfolding zeros
      invariant-take =
          let t = take_out has flag x s in
          let add = outside-add has (listed s) (listed t) x (listed-take has s x flag) in
          record {
            apart = take-distinct has flag x s i.apart n;
            inside = λ k h. elim (or-e (listed s k) (same_key k x) (sym (listed-take has s x flag k) ∙ h)) [
              | inl l ↦ i.inside k l
              | inr e ↦ rw (same-eq k x e) m
            ];
            right = unfold take_out in right-append packets s.list flag x i.right;
            xors = λ c. rw (add c) (take-xors c);
            flows = λ c. rw (add c) (take-flows c);
            left = λ c. rw (outside-same has (counted s) (counted t) (counted-take has s x flag n) c) (packets-take has s x flag c ∙ i.left c);
          }

    -- ---- the count of a listed flow becomes known
    module _ (x : Key) (u : unknown s x ≡ true) where
      unknown-listed : listed s x ≡ true
      unknown-listed = where-listed (λ r. not r.known) s.list x u

      not-counted : counted s x ≡ false
      unfolding counted
      not-counted = rw (u, unknown-listed)

      -- the flow's packets are in each of its cells
      pub count-within : (c : ℕ) → has x c ≡ true → (s.cells c).packet_count ≡ packets x + total (without x (outside has (counted s) c)) packets F
      count-within c h = i.left c ∙ total-split packets (outside has (counted s) c) x F fs.apart (i.inside x unknown-listed)
          (outside-make has (counted s) c x h not-counted)

      count_left : (c : ℕ) → ((set_count has x (packets x) s).cells c).packet_count ≡ total (without x (outside has (counted s) c)) packets F
      unfolding set_count
      count_left c = elim (split (has x c)) [
        | inl h ↦ rw (h, count-within c h) (omega arith)
        | inr h ↦ rw (h, outside-idle has (counted s) x c h) (i.left c)
      ]

      pub invariant-count : Holds w e (set_count has x (packets x) s)
      unfolding zeros
      invariant-count =
          let t = set_count has x (packets x) s in
          let same = outside-same has (listed s) (listed t) (listed-count has s x (packets x)) in
          record {
            apart = count-distinct has x (packets x) s i.apart;
            inside = λ k h. i.inside k (sym (listed-count has s x (packets x) k) ∙ h);
            right = unfold set_count in right-count packets s.list x i.right;
            xors = λ c. rw (same c) ((flows-told has s x (packets x) c).0 ∙ i.xors c);
            flows = λ c. rw (same c) ((flows-told has s x (packets x) c).1 ∙ i.flows c);
            left = λ c. rw (outside-add has (counted s) (counted t) x (counted-count has s x (packets x) unknown-listed) c) (count_left c);
          }
