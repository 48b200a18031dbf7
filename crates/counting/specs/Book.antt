-- The lists that counting changes, ready cells, and a flow's packets taken out of its cells: 01 'A session'.
use Rattle.std.specs.Prelude.{◌≡◌, Bool, true, cond, ◌&&◌, List, ℕ, ◌-◌, ◌≤◌, eqb, ltb, length, get_or, set, replicate, Option, Some, None}
use Rattle.std.specs.Int.Bits.{bit_xor}
use Rattle.laws.specs.Upto.{any_upto, each_upto}
use Rattle.layout.specs.declared.Layout.{Layout}
use Rattle.layout.specs.declared.Sizes.{Sizes}
use Rattle.hash.specs.Places.{cell_of}
use Rattle.marks.specs.Marks.{put_mark, first_mark}
use Rattle.counting.specs.declared.Tally.{Tally}

-- PacketCount, the two per-cell numbers, and a bit per ready cell
pub record Book : Type 0 where
  pub packets : List ℕ
  pub unknowns : List ℕ
  pub positions : List ℕ
  pub ready : List ℕ

abbrev pub book : List ℕ → List ℕ → List ℕ → List ℕ → Book
book packets unknowns positions ready = record { packets = packets; unknowns = unknowns; positions = positions; ready = ready }

-- what the lent slices hold, and that the same four are lent, whatever they hold
abbrev pub book_of : Tally → Book
book_of t = book t.packets.now t.unknowns.now t.positions.now t.ready.now

abbrev pub TallyKept : Tally → Tally → Type 0
TallyKept t u =
    (t.packets.ghost_name ≡ u.packets.ghost_name) × (t.unknowns.ghost_name ≡ u.unknowns.ghost_name)
    × (t.positions.ghost_name ≡ u.positions.ghost_name) × (t.ready.ghost_name ≡ u.ready.ghost_name)
    × (t.packets.ref_ptr ≡ u.packets.ref_ptr) × (t.unknowns.ref_ptr ≡ u.unknowns.ref_ptr)
    × (t.positions.ref_ptr ≡ u.positions.ref_ptr) × (t.ready.ref_ptr ≡ u.ready.ref_ptr)

-- lists with an element for each of at most 1,536 cells, and 24 words that hold a bit for each
pub record Spans (n : ℕ) (flows : List ℕ) (b : Book) : Type 0 where
  pub few : n ≤ 1536
  pub flows-fit : length flows ≡ n
  pub packets-fit : length b.packets ≡ n
  pub unknowns-fit : length b.unknowns ≡ n
  pub positions-fit : length b.positions ≡ n
  pub ready-fit : length b.ready ≡ 24

-- 01 'A session': "A cell is ready when FlowCount is 0 and that number is 1"
unfoldable pub ready_at : List ℕ → List ℕ → ℕ → Bool
ready_at flows unknowns c = eqb (get_or flows c 0) 0 && eqb (get_or unknowns c 0) 1

-- the bit of cell c set where the cell is ready
unfoldable pub with_ready : List ℕ → List ℕ → ℕ → List ℕ → List ℕ
with_ready flows unknowns c ready = cond (ready_at flows unknowns c) (put_mark ready c true) ready

-- the ready cells below n, in 24 words
unfoldable pub ready_upto : List ℕ → List ℕ → ℕ → List ℕ
ready_upto flows unknowns n = each_upto n (with_ready flows unknowns) (replicate 24 0)

-- 01 'A session': "the lowest ready cell" of so many, where there is one
unfoldable pub lowest_ready : ℕ → List ℕ → Option ℕ
lowest_ready cells ready = cond (ltb (first_mark ready) cells) (Some (first_mark ready)) None

-- one of the first k places has fewer packets than v
unfoldable pub any_less : List ℕ → ℕ → List ℕ → ℕ → Bool
any_less at k packets v = any_upto k (λ i. ltb (get_or packets (get_or at i 0) 0) v)

-- 01 'A session', Damage: "exceeds PacketCount in one of the flow's cells"
unfoldable pub exceeds : Layout → Sizes → ℕ → List ℕ → ℕ → List ℕ → Bool
exceeds l z salt packets v key = any_upto z.k (λ i. ltb (get_or packets (cell_of l z salt key i) 0) v)

-- the v packets of the flow at a position taken out of cell c: PacketCount, the two per-cell numbers, and readiness renewed
unfoldable pub told_at : ℕ → ℕ → List ℕ → ℕ → Book → Book
told_at v position flows c b = book
    (set b.packets c (get_or b.packets c 0 - v))
    (set b.unknowns c (get_or b.unknowns c 0 - 1))
    (set b.positions c (bit_xor (get_or b.positions c 0) position))
    (put_mark b.ready c (ready_at flows (set b.unknowns c (get_or b.unknowns c 0 - 1)) c))

-- out of the first k places
unfoldable pub told_each : ℕ → ℕ → List ℕ → List ℕ → ℕ → Book → Book
told_each v position flows at k b = each_upto k (λ i. told_at v position flows (get_or at i 0)) b

-- 01 'A session': "is subtracted from that flow's k cells"
unfoldable pub told_out : Layout → Sizes → ℕ → List ℕ → ℕ → ℕ → List ℕ → Book → Book
told_out l z salt key v position flows b = each_upto z.k (λ i. told_at v position flows (cell_of l z salt key i)) b
