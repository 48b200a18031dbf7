-- Starting and taking packets: 01 'Taking packets'.
use Rattle.std.specs.Prelude.{Bool, Option, None, Some, Result, Ok, Err, ⊤, cond, not, ◌&&◌, ◌||◌, List, ℕ, eqb, length, replicate}
use Rattle.laws.specs.Upto.{any_upto, each_upto}
use Rattle.layout.specs.declared.Layout.{Layout}
use Rattle.layout.specs.declared.Sizes.{Sizes}
use Rattle.layout.specs.Sizes.{in_range, ipv4_layout, filter_bytes, cell_bytes}
use Rattle.layout.specs.Numbers.{Returned, only}
use Rattle.hash.specs.Places.{cell_of}
use Rattle.filter.specs.Filter.{is_new, with_flow}
use Rattle.cell.specs.Cell.{flow_count_at, packet_count_at, take_at_place}
use Rattle.packet.specs.declared.Key.{Key}
use Rattle.packet.specs.Packet.{key_of}
use Rattle.packet.specs.Key.{key_bytes}
use Rattle.encoder.specs.declared.StartError.{StartError}
use Rattle.encoder.specs.declared.StartError.TheVariants as start
use Rattle.encoder.specs.declared.TakeError.{TakeError}
use Rattle.encoder.specs.declared.TakeError.TheVariants as take

-- filter and cells are lent in the lengths that the sizes give: else 16
unfoldable pub rooms_fit : Layout → Sizes → ℕ → ℕ → Bool
rooms_fit l z filter cells = eqb filter (filter_bytes z) && eqb cells (cell_bytes l z)

-- ---- starting

pub record Starting : Type 0 where
  pub answer : Result ⊤ StartError
  pub filter : List ℕ
  pub cells : List ℕ

abbrev pub starting : Result ⊤ StartError → List ℕ → List ℕ → Starting
starting answer filter cells = record { answer = answer; filter = filter; cells = cells }

-- 01 'Taking packets': "Starting clears it"
unfoldable pub start_of : Layout → Sizes → List ℕ → List ℕ → Starting
start_of l z filter cells =
    cond (not (in_range z)) (starting (Err start.BadSizes) filter cells)
    (cond (not (rooms_fit l z (length filter) (length cells))) (starting (Err start.BadRoom) filter cells)
    (starting (Ok tt) (replicate (length filter) 0) (replicate (length cells) 0)))

-- 01's number and values for each answer
abbrev pub start_returns : Result ⊤ StartError → Returned
start_returns (Ok done) = only 0
start_returns (Err start.BadSizes) = only 3
start_returns (Err start.BadRoom) = only 16

abbrev pub start_number : Result ⊤ StartError → ℕ
start_number a = (start_returns a).number

-- ---- a packet

pub record Taking : Type 0 where
  pub answer : Result ⊤ TakeError
  pub filter : List ℕ
  pub cells : List ℕ

abbrev pub taking : Result ⊤ TakeError → List ℕ → List ℕ → Taking
taking answer filter cells = record { answer = answer; filter = filter; cells = cells }

-- 01 'Taking packets': "one of the k PacketCounts is 4,294,967,295, or the flow is new and one of its FlowCounts is 65,535"; in cell c
unfoldable pub full_at : Layout → Bool → List ℕ → ℕ → Bool
full_at l new cells c = eqb (packet_count_at l cells c) 4294967295 || (new && eqb (flow_count_at l cells c) 65535)

unfoldable pub is_full : Layout → Sizes → ℕ → Bool → List ℕ → List ℕ → Bool
is_full l z salt new key cells = any_upto z.k (λ i. full_at l new cells (cell_of l z salt key i))

-- 01 'Taking packets': "in each of its k cells"
unfoldable pub take_in : Layout → Sizes → ℕ → Bool → List ℕ → List ℕ → List ℕ
take_in l z salt new key cells = each_upto z.k (λ i t. take_at_place l new key (cell_of l z salt key i) t) cells

-- a packet of a key: taken, or refused with 7 and nothing changed
unfoldable pub offer_key : Layout → Sizes → ℕ → List ℕ → List ℕ → List ℕ → Taking
offer_key l z salt key filter cells =
    let new = is_new z salt filter key in
    cond (is_full l z salt new key cells) (taking (Err take.Full) filter cells)
    (taking (Ok tt) (cond new (with_flow z salt filter key) filter) (take_in l z salt new key cells))

-- 01 'Keys and hashing': "It yields either a key or refusal 6"
unfoldable pub offer : Sizes → ℕ → Option Key → List ℕ → List ℕ → Taking
offer z salt None filter cells = taking (Err take.NoKey) filter cells
offer z salt (Some key) filter cells = offer_key ipv4_layout z salt (key_bytes key) filter cells

-- starting's refusals are the first two of the packet call
abbrev pub take_error : StartError → TakeError
take_error start.BadSizes = take.BadSizes
take_error start.BadRoom = take.BadRoom

-- the packet call: sizes (3), lengths (16), key (6), counters (7)
unfoldable pub packet_of : Sizes → ℕ → List ℕ → List ℕ → List ℕ → Taking
packet_of z salt packet filter cells =
    cond (not (in_range z)) (taking (Err take.BadSizes) filter cells)
    (cond (not (rooms_fit ipv4_layout z (length filter) (length cells))) (taking (Err take.BadRoom) filter cells)
    (offer z salt (key_of packet) filter cells))

-- 01's number and values for each answer
abbrev pub take_returns : Result ⊤ TakeError → Returned
take_returns (Ok done) = only 0
take_returns (Err take.BadSizes) = only 3
take_returns (Err take.BadRoom) = only 16
take_returns (Err take.NoKey) = only 6
take_returns (Err take.Full) = only 7

abbrev pub take_number : Result ⊤ TakeError → ℕ
take_number a = (take_returns a).number
