-- Theorems: what working memory means after a start and any packets.
use mathlib.Core.Path.{◌≡◌, refl, ap, ◌∙◌}
use mathlib.Core.Bool.{false, ◌&&◌, ◌||◌}
use mathlib.Core.Logic.{inl, inr}
use mathlib.Core.List.{List, [], ◌∷◌, ◌++◌}
use Prim.Native.Nat.{ℕ, ◌+◌, ◌*◌}
use borrow.Author.Tests.{eq-eqb}
use lib.Dec.{eqb}
use lib.ListN.{get_or}
use Rattle.laws.proofs.Bools.{split, or-f}
use Rattle.laws.proofs.Upto.{all_yes}
use Rattle.layout.specs.declared.Layout.{Layout}
use Rattle.layout.specs.declared.Sizes.{Sizes}
use Rattle.layout.specs.Sizes.{Lays, Ranged, ipv4_layout, table_cells, cell_bytes}
use Rattle.layout.proofs.Ranges.{lays-ipv4}
use Rattle.filter.specs.Filter.{is_set, is_new, has_bit}
use Rattle.encoder.specs.Encoder.{packet_of}
use Rattle.theory.specs.Encode.{Key, Taken, empty_table, take_packets, NeverRenewed, Sized}
use Rattle.theory.proofs.Flow.{among_none}
use Rattle.theory.proofs.Packets.{flows-set}
use Rattle.theory.proofs.Encode.{taken-encodes, clean-encodes}
use Rattle.meaning.specs.View.{table_of, placement_of}
use Rattle.meaning.specs.Meaning.{Memory, Lent, cleared, Call, leaves, is_taken, taken_by, offer_all, taken_of, new_flow_bit, Sets, TakesKeys, SizedKey, key_call}
use Rattle.meaning.specs.Meaning.{packet_call, packet_key, packets_run, taken_in, Means}
use Rattle.meaning.proofs.Packet.{offer-keeps}
use Rattle.meaning.proofs.Run.{cleared-lent, cleared-table, cleared-bit, sets-none, sets_then, run-ind, run-table, run_lent, run-sets, run-old, run-renewed, run-sized}
use Rattle.meaning.proofs.Run.{refused-memory, refused-taken}
use Rattle.meaning.proofs.Ipv4.{takes-packets, packet-keeps, packet-sets}
use Rattle.laws.proofs.Lists.{zero-at}

-- ---- any call that takes packets by their keys, over any layout
module _ (l : Layout) (z : Sizes) (lays : Lays l) (salt : ℕ) {A : Type 0} (call : Call A) (key_of : A → Key)
    (takes : TakesKeys l z salt call key_of) (offers : List A) where
  abbrev end : Memory
  end = offer_all call offers (cleared l z)

  abbrev taken : List Taken
  taken = taken_of z salt call key_of offers (cleared l z)

  table_is : table_of l z end.cells ≡ take_packets (placement_of l z salt) taken (empty_table l.key)
  table_is =
      run-table l z lays salt call key_of takes offers (cleared l z) (cleared-lent l z)
      ∙ ap (take_packets (placement_of l z salt) taken) (cleared-table l z lays)

  renewed : NeverRenewed taken
  renewed = run-renewed l z lays salt call key_of takes offers (cleared l z) (cleared-lent l z) [] (λ k h. among_none k h)

  sized : Sized l.key taken
  sized = run-sized l z lays salt call key_of takes offers (cleared l z) (cleared-lent l z) []

  sets : Sets l z salt (cleared l z) taken end
  sets = run-sets l z lays salt call key_of takes offers (cleared l z) (cleared-lent l z)

  zero-byte : (c : ℕ) → get_or end.cells (c * l.cell + l.key) 0 ≡ 0
  zero-byte c = sets.zero-stays c ∙ unfold cleared in zero-at (cell_bytes l z) (c * l.cell + l.key)

  -- Theorem: what the memory means after a start and any such calls
  pub calls-mean : Means l z salt end taken
  calls-mean = record {
    memory-holds = λ c. ap (λ t. t c) table_is ∙ taken-encodes l.key (placement_of l z salt) taken c;
    never-renewed = renewed;
    keys-sized = sized;
    clean-memory = λ m. table_is ∙ clean-encodes l.key (placement_of l z salt) taken m renewed;
    filter-holds = λ n. sets.filter-bits n ∙ ap (λ b. b || new_flow_bit z salt taken n) (cleared-bit l z n);
    flowset = flows-set l.key taken sized;
    counted-bits = run-old l z lays salt call key_of takes offers (cleared l z) (cleared-lent l z) [] (λ k h. among_none k h);
    lent = run_lent l z lays salt call key_of takes offers (cleared l z) (cleared-lent l z);
    zero-bytes = all_yes (table_cells l z) (λ c. eqb (get_or end.cells (c * l.cell + l.key) 0) 0)
        (λ c h. eq-eqb (get_or end.cells (c * l.cell + l.key) 0) 0 (zero-byte c));
  }

-- Theorem: keys of the layout's length, offered as they are
pub keys-mean : (l : Layout) (z : Sizes) → Lays l → Ranged z → (salt : ℕ) (keys : List (SizedKey l))
    → Means l z salt (offer_all (key_call l z salt) keys (cleared l z)) (taken_of z salt (key_call l z salt) (λ k. k.bytes) keys (cleared l z))
keys-mean l z lays r salt = calls-mean l z lays salt (key_call l z salt) (λ k. k.bytes) (record {
  keeps = λ k m. offer-keeps l z salt k.bytes m;
  in-range = λ k m t. r;
  offered = λ k m t. refl;
  sized = λ k m t. k.sized;
  are-bytes = λ k m t. k.are-bytes;
})

-- Theorem: packets of IPv4, of any bytes and any length, and any sizes
pub packets-mean : (z : Sizes) (salt : ℕ) (packets : List (List ℕ)) → Means ipv4_layout z salt (packets_run z salt packets) (taken_in z salt packets)
packets-mean z salt = calls-mean ipv4_layout z lays-ipv4 salt (packet_call z salt) packet_key (takes-packets z salt)

-- Theorem: 01 'Taking packets', "may hold any bytes: the rule above says what it then holds": packets from any memory, not only from a start
pub packets-from : (z : Sizes) (salt : ℕ) (packets : List (List ℕ)) (m : Memory) → Lent ipv4_layout z m
    → table_of ipv4_layout z (offer_all (packet_call z salt) packets m).cells
    ≡ take_packets (placement_of ipv4_layout z salt) (taken_of z salt (packet_call z salt) packet_key packets m) (table_of ipv4_layout z m.cells)
packets-from z salt = run-table ipv4_layout z lays-ipv4 salt (packet_call z salt) packet_key (takes-packets z salt)

-- Theorem: 01 'Taking packets', "A new flow sets its bits", about the packet call on any memory: no other bit changes, and the zero bytes stay
pub packets-set : (z : Sizes) (salt : ℕ) (packets : List (List ℕ)) (m : Memory)
    → Sets ipv4_layout z salt m (taken_of z salt (packet_call z salt) packet_key packets m) (offer_all (packet_call z salt) packets m)
packets-set z salt packets m =
    run-ind z salt (packet_call z salt) packet_key (packet-keeps z salt) (λ m. Unit {0}) (λ p m u t. tt)
    (λ m end ts. Sets ipv4_layout z salt m ts end) (λ m u. sets-none ipv4_layout z salt m)
    (λ p m end ts u t h. sets_then ipv4_layout z salt (taken_by z salt m (packet_key p)) ts m (leaves (packet_call z salt p m)) end (packet-sets z salt p m t) h) packets m tt

-- Theorem: one packet call sets the bits of a new flow that it takes, and changes no other bit
pub packet-bits : (z : Sizes) (salt : ℕ) (packet : List ℕ) (m : Memory) (n : ℕ) → is_set (packet_of z salt packet m.filter m.cells).filter n
    ≡ (is_set m.filter n
    || (is_taken (packet_call z salt packet m) && (is_new z salt m.filter (packet_key packet) && has_bit z salt (packet_key packet) n)))
unfolding offer_all taken_of new_flow_bit
packet-bits z salt packet m n =
    let its = is_new z salt m.filter (packet_key packet) && has_bit z salt (packet_key packet) n in
    (packets-set z salt (packet ∷ []) m).filter-bits n
    ∙ ap (λ b. is_set m.filter n || b) (elim (split (is_taken (packet_call z salt packet m))) [ inl t ↦ rw t (or-f its) | inr t ↦ rw t ])

-- Theorem: a packet that is refused changes nothing and is not among those taken
pub refused-nothing : (z : Sizes) (salt : ℕ) (before : List (List ℕ)) (packet : List ℕ) (later : List (List ℕ))
    → is_taken (packet_call z salt packet (packets_run z salt before)) ≡ false
    → (packets_run z salt (before ++ (packet ∷ later)) ≡ packets_run z salt (before ++ later))
    × (taken_in z salt (before ++ (packet ∷ later)) ≡ taken_in z salt (before ++ later))
refused-nothing z salt before packet later refused =
    let keeps = packet-keeps z salt packet (packets_run z salt before) refused in (
      refused-memory z salt (packet_call z salt) packet_key before packet later (cleared ipv4_layout z) refused keeps,
      refused-taken z salt (packet_call z salt) packet_key before packet later (cleared ipv4_layout z) refused keeps,
    )
