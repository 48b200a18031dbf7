-- Demands 2 and 3 over records after any sequence of hand-overs, settlings and exchanges: it is a sequence over numbers.
use mathlib.Core.Path.{◌≡◌, sym, ap, subst, ◌∙◌}
use mathlib.Core.List.{List, ◌++◌}
use Prim.Native.Nat.{ℕ, ◌+◌, ◌*◌, ◌≤◌}
use native.Mathlib.Omega.{arith}
use lib.ListN.{length, take, drop, take-append-drop}
use lib.Seq.{length-take-le, take_at, drop_at}
use Rattle.laws.specs.BigEndian.{Bytes}
use Rattle.layout.specs.declared.Sizes.{Sizes}
use Rattle.layout.specs.Sizes.{ipv4_layout, table_cells}
use Rattle.layout.proofs.Ranges.{lays-ipv4}
use Rattle.packet.specs.Key.{key_bytes}
use Rattle.packet.proofs.KeyBytes.{length-key}
use Rattle.list.specs.Records.{Records, records}
use Rattle.room.specs.Memory.{memory}
use Rattle.parts.specs.declared.Place.{Place}
use Rattle.parts.specs.Places.{place_after}
use Rattle.exchange.specs.Exchange.{Exchanging, room_a, room_b}
use Rattle.rounds.specs.Joined.{seam, joined_list}
use Rattle.meaning.specs.Meaning as encoder
use Rattle.theory.specs.Session.{handed_of}
use Rattle.theory.specs.Demands.{Premises}
use Rattle.demands.specs.Calls.{Live, live, with_listed, viewed, Passing}
use Rattle.demands.specs.Demands.{Received, Demand2At, Demand3At}
use Rattle.demands.proofs.Received.{received-passing}
use Rattle.joint.specs.Exchanges as joint
use Rattle.joint.specs.History as history
use Rattle.joint.proofs.Exchanges.{live-a, live-b}
use Rattle.joint.proofs.History as theorems
use Rattle.records.specs.declared.Record.{Record}
use Rattle.records.specs.Record.{apart}
use Rattle.records.proofs.Trip.{apart-sound}
use Rattle.calls.specs.Calls.{Lent, as_numbers}
use Rattle.follows.specs.Calls.{Held, as_live, handing, settling}
use Rattle.follows.specs.Exchanges.{exchange_on, lent_a, lent_b, exchanged_a, exchanged_b}
use Rattle.follows.specs.History.{RecordHistory, opened, handed, settled, exchanged-first, exchanged-second}
use Rattle.follows.proofs.Joined.{apart-joined}
use Rattle.follows.proofs.Joint.{kept, left-sound, exchange-follows}
use Rattle.follows.proofs.Demands.{call-follows, call-bytes}

-- ---- a list cut in two and taken apart is cut in two apart
module _ (n : ℕ) (list : List Record) (fits : n ≤ length list) where
  whole : apart list ≡ joined_list (apart (take n list)) (apart (drop n list))
  whole = ap apart (sym (take-append-drop n list)) ∙ apart-joined (take n list) (drop n list)

  long : length (take n list) ≡ n
  long = length-take-le n list fits

  keys-long : length (apart (take n list)).keys ≡ n * 13
  keys-long = (apart-sound (take n list)).room.keys-fit ∙ ap (λ m. m * 13) long

  counts-long : length (apart (take n list)).counts ≡ n
  counts-long = (apart-sound (take n list)).room.counts-fit ∙ long

  flags_long : length (apart (take n list)).flags ≡ n
  flags_long = (apart-sound (take n list)).room.flags-fit ∙ long

  apart-take : records (take (n * 13) (apart list).keys) (take n (apart list).counts) (take n (apart list).flags) ≡ apart (take n list)
  unfolding joined_list
  apart-take =
      let a = apart (take n list) in
      let b = apart (drop n list) in
      let first : records (take (n * 13) (a.keys ++ b.keys)) (take n (a.counts ++ b.counts)) (take n (a.flags ++ b.flags)) ≡ a
      = λ j. records (take_at a.keys b.keys (n * 13) keys-long j) (take_at a.counts b.counts n counts-long j)
      (take_at a.flags b.flags n flags_long j) in
      ap (λ (r : Records). records (take (n * 13) r.keys) (take n r.counts) (take n r.flags)) whole ∙ first

  apart-drop : records (drop (n * 13) (apart list).keys) (drop n (apart list).counts) (drop n (apart list).flags) ≡ apart (drop n list)
  unfolding joined_list
  apart-drop =
      let a = apart (take n list) in
      let b = apart (drop n list) in
      let second : records (drop (n * 13) (a.keys ++ b.keys)) (drop n (a.counts ++ b.counts)) (drop n (a.flags ++ b.flags)) ≡ b
      = λ j. records (drop_at a.keys b.keys (n * 13) keys-long j) (drop_at a.counts b.counts n counts-long j)
      (drop_at a.flags b.flags n flags_long j) in
      ap (λ (r : Records). records (drop (n * 13) r.keys) (drop n r.counts) (drop n r.flags)) whole ∙ second

module _ (p : Place) (m : Lent) (e : p.keys ≡ p.records * 13) (fits : p.records ≤ length m.list) where
  numbers-a : as_numbers (lent_a p m) ≡ room_a p (as_numbers m)
  unfolding lent_a room_a
  numbers-a =
      let r = room_a p (as_numbers m) in
      let s = apart m.list in
      ap (λ rs. memory r.filter r.table r.packets rs)
      (sym (ap (λ k. records (take k s.keys) (take p.records s.counts) (take p.records s.flags)) e ∙ apart-take p.records m.list fits))

  numbers-b : as_numbers (lent_b p m) ≡ room_b p (as_numbers m)
  unfolding lent_b room_b
  numbers-b =
      let r = room_b p (as_numbers m) in
      let s = apart m.list in
      ap (λ rs. memory r.filter r.table r.packets rs)
      (sym (ap (λ k. records (drop k s.keys) (drop p.records s.counts) (drop p.records s.flags)) e ∙ apart-drop p.records m.list fits))

seam-keys : (z : Sizes) → (seam ipv4_layout z).keys ≡ (seam ipv4_layout z).records * 13
unfolding place_after
seam-keys z = omega arith

seam-records : (z : Sizes) → (seam ipv4_layout z).records ≡ 2 * table_cells ipv4_layout z
unfolding place_after
seam-records z = omega arith

-- ---- what an exchange over records leaves of each session is what the exchange over numbers leaves
module _ (u v : Held) (bytes-u : Bytes u.room.table.xors) (bytes-v : Bytes v.room.table.xors)
    (pu : Passing ipv4_layout (as_live u)) (pv : Passing ipv4_layout (as_live v)) (slots : u.numbers.slot ≡ v.numbers.slot) where
  abbrev p : Place
  p = seam ipv4_layout u.numbers.sizes

  left-long : length (exchange_on u v).room.list ≡ length u.room.list + length v.room.list
  left-long = sym (apart-sound (exchange_on u v).room.list).room.counts-fit
      ∙ ap (λ (x : Exchanging). length x.room.list.counts) (exchange-follows u v bytes-u bytes-v pu pv slots)
      ∙ (left-sound u v bytes-u bytes-v pu pv slots).room.counts-fit

  within : p.records ≤ length (exchange_on u v).room.list
  within = omega (
    arith,
    left-long,
    seam-records u.numbers.sizes,
    pu.lent.room.counts-fit,
    (apart-sound u.room.list).room.counts-fit,
  )

  first-follows : as_live (exchanged_a u v) ≡ joint.exchanged_a ipv4_layout (as_live u) (as_live v)
  first-follows =
      let x = exchange_on u v in
      ap (live (with_listed u.numbers (joint.listed_a x.answer u.numbers.listed))) (numbers-a p x.room (seam-keys u.numbers.sizes) within)
      ∙ ap (joint.after_a ipv4_layout u.numbers) (exchange-follows u v bytes-u bytes-v pu pv slots)

  second-follows : as_live (exchanged_b u v) ≡ joint.exchanged_b ipv4_layout (as_live u) (as_live v)
  second-follows =
      let x = exchange_on u v in
      ap (live (with_listed v.numbers (joint.listed_b x.answer v.numbers.listed))) (numbers-b p x.room (seam-keys u.numbers.sizes) within)
      ∙ ap (joint.after_b ipv4_layout u.numbers v.numbers) (exchange-follows u v bytes-u bytes-v pu pv slots)

  first-bytes : Bytes (exchanged_a u v).room.table.xors
  first-bytes = subst (λ (w : Live). Bytes w.room.table.xors) (sym (first-follows ∙ live-a ipv4_layout (as_live u) (as_live v) pu pv slots))
      (kept u v bytes-u bytes-v pu pv slots).0.0

  second-bytes : Bytes (exchanged_b u v).room.table.xors
  second-bytes = subst (λ (w : Live). Bytes w.room.table.xors) (sym (second-follows ∙ live-b ipv4_layout (as_live u) (as_live v) pu pv slots))
      (kept u v bytes-u bytes-v pu pv slots).1.0

-- ---- what happened over records happened over numbers
module _ (v : Held) (bytes : Bytes v.room.table.xors) (pv : Passing ipv4_layout (as_live v)) where
  abbrev Follows : Held → Type 0
  Follows u = history.History ipv4_layout (as_live v) (as_live u) × Bytes u.room.table.xors

  pub history-follows : {u : Held} → RecordHistory v u → Follows u
  history-follows opened = (history.opened, bytes)
  history-follows (handed {u = u} key h) =
      let b = history-follows h in (
        subst (history.History ipv4_layout (as_live v)) (sym (call-follows (handing key) u b.1)) (history.handed (key_bytes key) (length-key key) b.0),
        call-bytes (handing key) u b.1,
      )
  history-follows (settled {u = u} h) =
      let b = history-follows h in (
        subst (history.History ipv4_layout (as_live v)) (sym (call-follows settling u b.1)) (history.settled b.0),
        call-bytes settling u b.1,
      )
  history-follows (exchanged-first {u = u} t bytes-t pt slots h) =
      let b = history-follows h in
      let pu = theorems.history-passing ipv4_layout (as_live v) pv b.0 in (
        subst (history.History ipv4_layout (as_live v)) (sym (first-follows u t b.1 bytes-t pu pt slots)) (history.exchanged-first (as_live t) pt slots b.0),
        first-bytes u t b.1 bytes-t pu pt slots,
      )
  history-follows (exchanged-second {u = u} t bytes-t pt slots h) =
      let b = history-follows h in
      let pu = theorems.history-passing ipv4_layout (as_live v) pv b.0 in (
        subst (history.History ipv4_layout (as_live v)) (sym (second-follows t u bytes-t b.1 pt pu slots)) (history.exchanged-second (as_live t) pt slots b.0),
        second-bytes t u bytes-t b.1 pt pu slots,
      )

-- packets of IPv4, as the switch takes them from a start; v is what opening over records left
module _ (z : Sizes) (salt slot : ℕ) (packets : List (List ℕ)) (v : Held) (bytes : Bytes v.room.table.xors)
    (rc : Received ipv4_layout z salt slot (encoder.packets_run z salt packets) (as_live v)) (u : Held) (h : RecordHistory v u)
    (premises : Premises (encoder.taken_in z salt packets) (handed_of (viewed ipv4_layout (as_live u)).list)) where
  abbrev there : history.History ipv4_layout (as_live v) (as_live u)
  there = (history-follows v bytes (received-passing ipv4_layout lays-ipv4 z salt slot (encoder.packets_run z salt packets) (as_live v) rc) h).0

  -- Theorem (demand 2) over records, after any hand-overs, settlings and exchanges
  pub sequence-2 : Demand2At ipv4_layout z salt (encoder.taken_in z salt packets) (as_live u)
  sequence-2 = theorems.sequence-2 z salt slot packets (as_live v) rc (as_live u) there premises

  -- Theorem (demand 3) over records, and a settling
  pub sequence-3 : Demand3At ipv4_layout z salt (encoder.taken_in z salt packets) (handed_of (viewed ipv4_layout (as_live u)).list) (as_live u)
  sequence-3 = theorems.sequence-3 z salt slot packets (as_live v) rc (as_live u) there premises
