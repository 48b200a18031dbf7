-- Two lists joined and taken apart are the two taken apart and joined.
use mathlib.Core.Path.{◌≡◌, sym, ap, ap₂, ◌∙◌}
use mathlib.Core.List.{List, [], ◌∷◌, ◌++◌}
use Prim.Native.Nat.{ℕ, ◌+◌, ◌-◌, ◌<◌}
use native.Mathlib.Decide.{dec_lt}
use native.Mathlib.Omega.{arith}
use lib.ListN.{length, length-append, get_or-append}
use lib.Seq.{get_or-append-add}
use Rattle.laws.specs.Upto.{list_upto, join_upto}
use Rattle.laws.proofs.BigEndian.{bytes-append}
use Rattle.laws.proofs.Rows.{join-same, list-join, join-add}
use Rattle.list.specs.Records.{Records, records}
use Rattle.packet.specs.Key.{key_bytes}
use Rattle.rounds.specs.Joined as areas
use Rattle.exchange.specs.Exchange as numbers
use Rattle.records.specs.declared.Record.{Record}
use Rattle.records.specs.Record.{blank, at, flag_byte, keys_upto, counts_upto, flags_upto, apart}
use Rattle.records.proofs.Trip.{Sound}
use Rattle.room.specs.Memory.{memory}
use Rattle.calls.specs.Calls.{Lent, as_numbers}
use Rattle.follows.specs.Exchanges.{joined}

-- ---- what is said of each record, one list after the other
module _ (a b : List Record) where
  first-at : (i : ℕ) → i < length a → at (a ++ b) i ≡ at a i
  first-at i h = get_or-append a b blank i h

  second_at : (i : ℕ) → at (a ++ b) (length a + i) ≡ at b i
  second_at i = get_or-append-add a b i blank

  joins : {A : Type 0} (f : Record → List A)
      → join_upto (length (a ++ b)) (λ i. f (at (a ++ b) i)) ≡ join_upto (length a) (λ i. f (at a i)) ++ join_upto (length b) (λ i. f (at b i))
  joins f =
      ap (λ n. join_upto n (λ i. f (at (a ++ b) i))) (length-append a b) ∙ join-add (length a) (length b) (λ i. f (at (a ++ b) i))
      ∙ ap₂ ◌++◌ (join-same (length a) (λ i. f (at (a ++ b) i)) (λ i. f (at a i)) (λ i h. ap f (first-at i h)))
      (join-same (length b) (λ i. f (at (a ++ b) (length a + i))) (λ i. f (at b i)) (λ i h. ap f (second_at i)))

  lists : {A : Type 0} (f : Record → A)
      → list_upto (length (a ++ b)) (λ i. f (at (a ++ b) i)) ≡ list_upto (length a) (λ i. f (at a i)) ++ list_upto (length b) (λ i. f (at b i))
  lists f =
      list-join (length (a ++ b)) (λ i. f (at (a ++ b) i)) ∙ joins (λ r. f r ∷ [])
      ∙ ap₂ ◌++◌ (sym (list-join (length a) (λ i. f (at a i)))) (sym (list-join (length b) (λ i. f (at b i))))

  pub apart-joined : apart (a ++ b) ≡ areas.joined_list (apart a) (apart b)
  unfolding apart keys_upto counts_upto flags_upto areas.joined_list
  apart-joined =
      let keys = joins (λ r. key_bytes r.key) in
      let counts = lists (λ r. r.count) in
      let flags = lists (λ r. flag_byte r.known r.handed) in
      λ j. records (keys j) (counts j) (flags j)

pub numbers-joined : (a b : Lent) → as_numbers (joined a b) ≡ numbers.joined (as_numbers a) (as_numbers b)
unfolding joined numbers.joined
numbers-joined a b = ap (memory (a.filter ++ b.filter) (areas.joined_table a.table b.table) (a.packets ++ b.packets)) (apart-joined a.list b.list)

-- ---- lists of numbers that records can be, joined, are such lists
pub sound-joined : (m n : ℕ) (rs vs : Records) → Sound m rs → Sound n vs → Sound (m + n) (areas.joined_list rs vs)
unfolding areas.joined_list
sound-joined m n rs vs s t = record {
  room = record {
    keys-fit = length-append rs.keys vs.keys ∙ omega (arith, s.room.keys-fit, t.room.keys-fit);
    counts-fit = length-append rs.counts vs.counts ∙ ap₂ ◌+◌ s.room.counts-fit t.room.counts-fit;
    flags-fit = length-append rs.flags vs.flags ∙ ap₂ ◌+◌ s.room.flags-fit t.room.flags-fit;
  };
  bytes = bytes-append rs.keys vs.keys s.bytes t.bytes;
  two-bits = λ i h. elim (dec_lt i m) [
    | yes l ↦ rw (get_or-append rs.flags vs.flags 0 i (omega (arith, s.room.flags-fit))) (s.two-bits i l)
    | no l ↦
        let after : i ≡ length rs.flags + (i - m) = omega (arith, s.room.flags-fit) in
        rw (after, get_or-append-add rs.flags vs.flags (i - m) 0) (t.two-bits (i - m) (omega arith))
  ];
}
