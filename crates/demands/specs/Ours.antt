-- The calls as a collector: the flowsets of one switch, of given sizes, salt and slot, in zeroed room of the right lengths. What it prints is given.
use Rattle.std.specs.Prelude.{List, ℕ, ◌*◌, replicate, Result, Ok, Err}
use Rattle.layout.specs.declared.Layout.{Layout}
use Rattle.layout.specs.declared.Sizes.{Sizes}
use Rattle.layout.specs.Sizes.{ipv4_layout, table_cells, filter_bytes, blocks}
use Rattle.hash.specs.Places.{has_cell}
use Rattle.list.specs.Records.{records}
use Rattle.marks.specs.Marks.{words_for}
use Rattle.table.specs.Table.{tab}
use Rattle.encoder.specs.Encoder.{take_number}
use Rattle.meaning.specs.Meaning as encoder
use Rattle.sealing.specs.Seal.{seal_of, seal_number}
use Rattle.sealing.specs.declared.SealError.{SealError}
use Rattle.room.specs.Memory.{Memory, memory}
use Rattle.opening.specs.Open.{open_of, open_number}
use Rattle.opening.specs.declared.OpenError.{OpenError}
use Rattle.room.specs.declared.Session.{Session}
use Rattle.session.specs.Calls.{hand_over, hand_over_number, settle_of, settle_number, report_on}
use Rattle.theory.specs.Session.{Record}
use Rattle.theory.specs.HandOver.{hand, settling}
use Rattle.theory.specs.Report.{Report}
use Rattle.theory.specs.Collector.{Gives, gives, refuses, Collector, Site}
use Rattle.demands.specs.Calls.{Live, live, call_on, viewed}
use Rattle.demands.specs.Demands.{told_by}

-- what 01 fixes of the switch; packets are bytes
abbrev pub site_of : {Text : Type 0} → Sizes → ℕ → (Report → List Record → Text) → Site (List ℕ) Text
site_of z salt text = record {
  size = table_cells ipv4_layout z;
  key_length = ipv4_layout.key;
  has = has_cell ipv4_layout z salt;
  taken = encoder.taken_in z salt;
  text = text;
}

-- zeroed room for an image, and for a session
abbrev pub image_room : Sizes → List ℕ
image_room z = replicate (blocks z * 512) 0

abbrev pub session_room : Layout → Sizes → Memory
session_room l z =
    let n = table_cells l z in
    memory (replicate (filter_bytes z) 0)
    (tab (replicate (n * l.key) 0) (replicate n 0) (replicate n 0) (replicate n 0) (replicate (words_for n) 0))
    (replicate n 0) (records (replicate (2 * n * l.key) 0) (replicate (2 * n) 0) (replicate (2 * n) 0))

-- what sealing and opening give
abbrev pub image_by : List ℕ → Result Unit SealError → Gives (List ℕ)
image_by image (Ok x) = gives image
image_by image (Err e) = refuses (seal_number (Err e))

abbrev pub live_by : Memory → Result Session OpenError → Gives Live
live_by room (Ok s) = gives (live s room)
live_by room (Err e) = refuses (open_number (Err e))

abbrev pub code : {Text : Type 0} → Sizes → ℕ → ℕ → (List ℕ → Text) → Collector (List ℕ) encoder.Memory (List ℕ) Live Text
code z salt slot print = record {
  cleared = encoder.cleared ipv4_layout z;
  packet = λ p m. let t = encoder.packet_call z salt p m in record { number = take_number t.answer; left = encoder.leaves t };
  seal = λ m. let x = seal_of ipv4_layout z salt slot m.filter m.cells (image_room z) in image_by x.image x.answer;
  opens = λ image. let x = open_of ipv4_layout image slot (session_room ipv4_layout z) in live_by x.room x.answer;
  hand_over = λ x v. record { number = hand_over_number (hand_over ipv4_layout v.numbers x v.room).answer; left = call_on ipv4_layout (hand x) v };
  settle = λ v. record { number = settle_number (settle_of ipv4_layout v.numbers v.room).answer; left = call_on ipv4_layout settling v };
  report = λ v. told_by (report_on ipv4_layout v.numbers v.room);
  print = print;
  seen = viewed ipv4_layout;
}
