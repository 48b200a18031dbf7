-- What is printed of the packets taken: demand 2 without hand-overs, in the words of 01 'Printing program'.
use Rattle.std.specs.Prelude.{◌≡◌, true, not, Some, List, [], ◌∷◌, ◌++◌, ℕ, ◌^◌, ◌<◌, ltb, length, Ok}
use Rattle.laws.specs.Upto.{number_upto}
use Rattle.layout.specs.declared.Sizes.{Sizes}
use Rattle.layout.specs.Sizes.{ipv4_layout, table_cells}
use Rattle.hash.specs.Places.{has_cell}
use Rattle.packet.specs.Key.{key_from}
use Rattle.encoder.specs.Encoder.{start_of, start_number}
use Rattle.meaning.specs.Meaning.{Memory, offer_all, taken_of, packet_call, packet_key}
use Rattle.sealing.specs.Seal.{seal_of, sealing}
use Rattle.summary.specs.declared.Report.{Report}
use Rattle.summary.specs.Report.{state_of}
use Rattle.lines.specs.Text.{head_line, flow_line}
use Rattle.theory.specs.Encode.{Key, among, Distinct, count, Taken, flows_of, packets_of}
use Rattle.theory.specs.Runs.{PeelClosed}
use Rattle.theory.specs.Demands.{keep}

-- ---- the way into an image
-- working memory as a start leaves it
abbrev pub start_leaves : Sizes → List ℕ → List ℕ → Memory
start_leaves z filter cells = let x = start_of ipv4_layout z filter cells in record { filter = x.filter; cells = x.cells }

-- the packets taken since
abbrev pub taken_since : Sizes → ℕ → Memory → List (List ℕ) → List Taken
taken_since z salt m packets = taken_of z salt (packet_call z salt) packet_key packets m

-- start, packets and seal, one after the other, in any lent memory; starting and sealing answer 0
pub record Written (z : Sizes) (salt slot : ℕ) (filter cells : List ℕ) (packets : List (List ℕ)) (image : List ℕ) : Type 0 where
  pub salt-fits : salt < 2 ^ 32
  pub slot-fits : slot < 2 ^ 32
  pub starts : start_number (start_of ipv4_layout z filter cells).answer ≡ 0
  pub image_room : List ℕ
  pub seals : let m = offer_all (packet_call z salt) packets (start_leaves z filter cells) in
      seal_of ipv4_layout z salt slot m.filter m.cells image_room ≡ sealing (Ok tt) image

-- ---- what is printed
-- 01 'Printing program': "per listed flow, in list order: .. count": these flows, each with its packets taken
unfoldable pub flow_lines : (Key → ℕ) → List Key → List ℕ
flow_lines packets [] = []
flow_lines packets (k ∷ later) = flow_line (key_from k) (Some (packets k)) ++ flow_lines packets later

-- 01 'A session', Report: "open (cells with FlowCount above 0)": the cells of the table that have a flow of F that is not listed
unfoldable pub opens_left : Sizes → ℕ → List Key → List Key → ℕ
opens_left z salt F flows =
    number_upto (table_cells ipv4_layout z) (λ c. ltb 0 (count (λ k. has_cell ipv4_layout z salt k c) (keep (λ k. not (among k flows)) F)))

-- 01 'A session', Report: "listed, counted .., open .., and a state", where every listed flow is counted and nothing is left over
abbrev pub report_alone : ℕ → ℕ → Report
report_alone n opens = record { listed = n; counted = n; opens = opens; state = state_of opens 0 true }

-- the text says the truth about the packets taken
pub record Prints (z : Sizes) (salt slot : ℕ) (taken : List Taken) (text : List ℕ) : Type 0 where
  -- the listed flows, in list order; none twice
  pub flows : List Key
  pub once : Distinct flows
  -- mission: "every listed flow was counted here"
  pub counted-here : (k : Key) → among k flows ≡ true → among k (flows_of taken) ≡ true
  -- mission: "Settling stops only when no cell has a single unlisted flow"
  pub at-end : PeelClosed (has_cell ipv4_layout z salt) (flows_of taken) (λ k. among k flows)
  -- a line of slot, salt, listed, counted, open and state; then a line for each listed flow: "every stated count is its packets taken"
  pub lines : text ≡ head_line slot salt (report_alone (length flows) (opens_left z salt (flows_of taken) flows)) ++ flow_lines (packets_of taken) flows
  -- `whole`, no cell open: every flow of which a packet was taken is listed
  pub whole : opens_left z salt (flows_of taken) flows ≡ 0 → (k : Key) → among k (flows_of taken) ≡ true → among k flows ≡ true
