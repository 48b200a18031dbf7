-- `exchange::exchange_passed` meets its contract: the areas are split where A's part ends, and put together again.
use Rattle.std.proofs.Common.{refl, ap, ap₂, ◌∙◌, rules}
use Rattle.room.specs.Memory.{Memory, memory}
use Rattle.table.specs.Table.{tab}
use Rattle.list.specs.Records.{records}
use Rattle.parts.specs.Parts.{side_in}
use Rattle.exchange.specs.Exchange.{exchanging, leaves, room_a, room_b}
use Rattle.exchange.specs.Passed.{meet}
use Rattle.exchange.proofs.Passed.{seam-at, reached, put-together, first-filter, second-filter, first-side, second-side, filters-are, ready-meets, sides-are}
use Rattle.exchange.proofs.exchange_passed.Goals as goal

pub split_at-requires : goal.split_at-requires
split_at-requires c = (reached c.args.p c.args.q c.requires.fits c.after-seam.ensures c.origin.ensures).filter-in

pub split_at_mut-xors_a-requires : goal.split_at_mut-xors_a-requires
split_at_mut-xors_a-requires c = (reached c.args.p c.args.q c.requires.fits c.after-seam.ensures c.origin.ensures).xors-in

pub split_at_mut-flows_a-requires : goal.split_at_mut-flows_a-requires
split_at_mut-flows_a-requires c = (reached c.args.p c.args.q c.requires.fits c.after-seam.ensures c.origin.ensures).flows-in

pub split_at_mut-packets_a-requires : goal.split_at_mut-packets_a-requires
split_at_mut-packets_a-requires c = (reached c.args.p c.args.q c.requires.fits c.after-seam.ensures c.origin.ensures).packets-in

pub split_at_mut-unknowns_a-requires : goal.split_at_mut-unknowns_a-requires
split_at_mut-unknowns_a-requires c = (reached c.args.p c.args.q c.requires.fits c.after-seam.ensures c.origin.ensures).unknowns-in

pub split_at_mut-positions_a-requires : goal.split_at_mut-positions_a-requires
split_at_mut-positions_a-requires c = (reached c.args.p c.args.q c.requires.fits c.after-seam.ensures c.origin.ensures).positions-in

pub split_at_mut-marks_a-requires : goal.split_at_mut-marks_a-requires
split_at_mut-marks_a-requires c = (reached c.args.p c.args.q c.requires.fits c.after-seam.ensures c.origin.ensures).marks-in

pub split_at_mut-keys_a-requires : goal.split_at_mut-keys_a-requires
split_at_mut-keys_a-requires c = (reached c.args.p c.args.q c.requires.fits c.after-seam.ensures c.origin.ensures).keys_in

pub split_at_mut-counts_a-requires : goal.split_at_mut-counts_a-requires
split_at_mut-counts_a-requires c = (reached c.args.p c.args.q c.requires.fits c.after-seam.ensures c.origin.ensures).counts-in

pub split_at_mut-flags_a-requires : goal.split_at_mut-flags_a-requires
split_at_mut-flags_a-requires c = (reached c.args.p c.args.q c.requires.fits c.after-seam.ensures c.origin.ensures).flags-in

pub exchange_sides-ending-requires : goal.exchange_sides-ending-requires
exchange_sides-ending-requires c =
    let a = c.args in
    let r : Memory = memory a.filter.now (tab a.xors.now a.flows.now a.unknowns.now a.positions.now a.marks.now) a.packets.now (records a.keys.now a.counts.now a.flags.now) in
    let is = seam-at a.p.shape.layout a.p.shape.sizes c.after-seam.ensures c.origin.ensures in
    let f = first-filter a.p c.after-seam.result is r c.split_at.ensures.front in
    let g = second-filter a.p c.after-seam.result is r c.split_at.ensures.back in
    let x = first-side a.p c.after-seam.result is r a.listed_a a.seen_a.now c.split_at_mut-xors_a.ensures.front c.split_at_mut-flows_a.ensures.front c.split_at_mut-unknowns_a.ensures.front c.split_at_mut-positions_a.ensures.front c.split_at_mut-marks_a.ensures.front c.split_at_mut-packets_a.ensures.front c.split_at_mut-keys_a.ensures.front c.split_at_mut-counts_a.ensures.front c.split_at_mut-flags_a.ensures.front in
    let y = second-side a.p c.after-seam.result is r a.listed_b a.seen_b.now c.split_at_mut-xors_a.ensures.back c.split_at_mut-flows_a.ensures.back c.split_at_mut-unknowns_a.ensures.back c.split_at_mut-positions_a.ensures.back c.split_at_mut-marks_a.ensures.back c.split_at_mut-packets_a.ensures.back c.split_at_mut-keys_a.ensures.back c.split_at_mut-counts_a.ensures.back c.split_at_mut-flags_a.ensures.back in
    ready-meets a.p a.q a.listed_a a.listed_b r a.seen_a.now a.seen_b.now c.requires _ _ refl refl f g x y

pub returns : goal.returns
returns c =
    let a = c.args in
    let r : Memory = memory a.filter.now (tab a.xors.now a.flows.now a.unknowns.now a.positions.now a.marks.now) a.packets.now (records a.keys.now a.counts.now a.flags.now) in
    let is = seam-at a.p.shape.layout a.p.shape.sizes c.after-seam.ensures c.origin.ensures in
    let f = first-filter a.p c.after-seam.result is r c.split_at.ensures.front in
    let g = second-filter a.p c.after-seam.result is r c.split_at.ensures.back in
    let x = first-side a.p c.after-seam.result is r a.listed_a a.seen_a.now c.split_at_mut-xors_a.ensures.front c.split_at_mut-flows_a.ensures.front c.split_at_mut-unknowns_a.ensures.front c.split_at_mut-positions_a.ensures.front c.split_at_mut-marks_a.ensures.front c.split_at_mut-packets_a.ensures.front c.split_at_mut-keys_a.ensures.front c.split_at_mut-counts_a.ensures.front c.split_at_mut-flags_a.ensures.front in
    let y = second-side a.p c.after-seam.result is r a.listed_b a.seen_b.now c.split_at_mut-xors_a.ensures.back c.split_at_mut-flows_a.ensures.back c.split_at_mut-unknowns_a.ensures.back c.split_at_mut-positions_a.ensures.back c.split_at_mut-marks_a.ensures.back c.split_at_mut-packets_a.ensures.back c.split_at_mut-keys_a.ensures.back c.split_at_mut-counts_a.ensures.back c.split_at_mut-flags_a.ensures.back in
    let both = c.exchange_sides-ending.new in
    let one = room_a (meet a.p) r in
    let other = room_b (meet a.p) r in
    ap₂ exchanging c.answer_of.ensures
    (put-together one other (side_in both.a) (side_in both.b) (filters-are a.p c.after-seam.result is r) (search rules) (search rules) (search rules) (search rules)
    (search rules) (search rules) (search rules) (search rules) (search rules))
    ∙ ap (leaves one other) (c.exchange_sides-ending.ensures.value ∙ sides-are a.p a.q a.listed_a a.listed_b r a.seen_a.now a.seen_b.now f g x y)
