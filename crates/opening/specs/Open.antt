-- Opening: 01 'A session', "Opening copies the cells and the filter into lent room and zeroes the list".
use Rattle.std.specs.Prelude.{not, cond, List, ℕ, ◌*◌, replicate, Result, Ok, Err}
use Rattle.laws.specs.Upto.{each_upto, list_upto, join_upto}
use Rattle.layout.specs.declared.Layout.{Layout}
use Rattle.layout.specs.declared.Sizes.{Sizes}
use Rattle.layout.specs.Sizes.{table_cells}
use Rattle.layout.specs.Numbers.{Returned, only}
use Rattle.cell.specs.Cell.{flow_xor_at, flow_count_at, packet_count_at}
use Rattle.reading.specs.declared.Image.{Image}
use Rattle.reading.specs.declared.ReadError.{ReadError}
use Rattle.reading.specs.Read.{read_of, filter_in, cells_in, error_returns}
use Rattle.list.specs.Records.{records}
use Rattle.marks.specs.Marks.{words_for, put_mark}
use Rattle.table.specs.Table.{tab, pure_at}
use Rattle.room.specs.Memory.{Memory, memory, room_fits}
use Rattle.room.specs.declared.Session.{Session}
use Rattle.opening.specs.declared.OpenError.{OpenError}
use Rattle.opening.specs.declared.OpenError.TheVariants.{Read, BadRoom}

-- FlowXOR, FlowCount and PacketCount of the cells that an image holds
unfoldable pub xors_in : Layout → Sizes → List ℕ → List ℕ
xors_in l z image = join_upto (table_cells l z) (flow_xor_at l (cells_in l z image))

unfoldable pub flows_in : Layout → Sizes → List ℕ → List ℕ
flows_in l z image = list_upto (table_cells l z) (flow_count_at l (cells_in l z image))

unfoldable pub packets_in : Layout → Sizes → List ℕ → List ℕ
packets_in l z image = list_upto (table_cells l z) (packet_count_at l (cells_in l z image))

-- 01 'A session': "A cell is marked exactly when it is pure"; "bits past N are 0"
unfoldable pub marks_of : Layout → Sizes → ℕ → List ℕ → List ℕ → List ℕ
marks_of l z salt xors flows =
    each_upto (table_cells l z) (λ c s. put_mark s c (pure_at l z salt xors flows c)) (replicate (words_for (table_cells l z)) 0)

-- 01 'A session': "copies the cells and the filter into lent room and zeroes the list"; no flow is listed, so both numbers of each cell are 0
unfoldable pub opened_memory : Layout → Sizes → ℕ → List ℕ → Memory
opened_memory l z salt image =
    let n = table_cells l z in
    let xors = xors_in l z image in
    let flows = flows_in l z image in
    memory (filter_in z image) (tab xors flows (replicate n 0) (replicate n 0) (marks_of l z salt xors flows)) (packets_in l z image)
    (records (replicate (2 * n * l.key) 0) (replicate (2 * n) 0) (replicate (2 * n) 0))

-- what opening answers, and the lent room afterwards
pub record Opening : Type 0 where
  pub answer : Result Session OpenError
  pub room : Memory

abbrev pub opening : Result Session OpenError → Memory → Opening
opening answer m = record { answer = answer; room = m }

-- the session of an image just opened: no flow is listed
abbrev pub opened_session : Sizes → ℕ → ℕ → Session
opened_session z salt slot = record { sizes = z; salt = salt; slot = slot; listed = 0 }

-- 01's table of numbers, 1 to 5: where no image is read, the answer is reading's; an image that is read can be refused for its room alone
abbrev pub refused : Result Image ReadError → Result Session OpenError
refused (Ok i) = Err BadRoom
refused (Err e) = Err (Read e)

-- 01's table of numbers, 16: "in opening, after 1 to 5"; "all kept"
unfoldable pub open_read : Layout → ℕ → List ℕ → Memory → Result Image ReadError → Opening
open_read l slot image m (Ok i) =
    cond (not (room_fits l i.sizes m)) (opening (Err BadRoom) m)
    (opening (Ok (opened_session i.sizes i.salt slot)) (opened_memory l i.sizes i.salt image))
open_read l slot image m (Err e) = opening (Err (Read e)) m

-- opening an image that is wanted of a slot
unfoldable pub open_of : Layout → List ℕ → ℕ → Memory → Opening
open_of l image slot m = open_read l slot image m (read_of l image slot)

-- 01's number and values for each refusal
abbrev pub open_error_returns : OpenError → Returned
open_error_returns (Read e) = error_returns e
open_error_returns BadRoom = only 16

abbrev pub open_error_number : OpenError → ℕ
open_error_number e = (open_error_returns e).number

abbrev pub open_error_block : OpenError → ℕ
open_error_block e = (open_error_returns e).block

-- and for each answer
abbrev pub open_returns : Result Session OpenError → Returned
open_returns (Ok s) = only 0
open_returns (Err e) = open_error_returns e

abbrev pub open_number : Result Session OpenError → ℕ
open_number a = (open_returns a).number

abbrev pub open_block : Result Session OpenError → ℕ
open_block a = (open_returns a).block
