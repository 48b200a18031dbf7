-- `exchange::exchange_in` meets its contract.
use Rattle.std.proofs.Common.{◌≡◌, sym, ap, ap₂, ◌∙◌, replicate, ℕ, Err, rules}
use Rattle.room.specs.Seen.{memory_seen}
use Rattle.layout.specs.declared.Layout.{Layout}
use Rattle.list.specs.Records.{records}
use Rattle.table.specs.Table.{tab}
use Rattle.room.specs.Memory.{Memory, memory}
use Rattle.rounds.specs.Joined.{seam}
use Rattle.exchange.specs.Exchange.{seen_in, room_a, room_b, exchanging, exchange_test}
use Rattle.exchange.proofs.Call.{bad-a, bad-b, refused, both-ready, exchanged-is}
use Rattle.exchange.proofs.exchange_in.Goals as goal

pub returns-in_err-p : goal.returns-in_err-p
returns-in_err-p c =
    let a = c.args in
    let m : Memory = memory a.filter.now (tab a.xors.now a.flows.now a.unknowns.now a.positions.now a.marks.now) a.packets.now (records a.keys.now a.counts.now a.flags.now) in
    let is : c.from_residual.result ≡ Err c.in_err-p.field-0.0 = search rules in
    ap (λ o. exchanging o m) (is ∙ ap Err c.in_err-p.ensures.refusal) ∙ refused a.l a.s a.t m (bad-a a.l a.s a.t m (sym c.in_err-p.ensures.test))

pub returns-in_err-q : goal.returns-in_err-q
returns-in_err-q c =
    let a = c.args in
    let m : Memory = memory a.filter.now (tab a.xors.now a.flows.now a.unknowns.now a.positions.now a.marks.now) a.packets.now (records a.keys.now a.counts.now a.flags.now) in
    let is : c.from_residual-in_err-q.result ≡ Err c.in_err-q.field-0.0 = search rules in
    ap (λ o. exchanging o m) (is ∙ ap Err c.in_err-q.ensures.refusal) ∙ refused a.l a.s a.t m (bad-b a.l a.s a.t m (sym c.in_err-q.ensures.test))

pub returns-in_err-test : goal.returns-in_err-test
returns-in_err-test c =
    let a = c.args in
    let m : Memory = memory a.filter.now (tab a.xors.now a.flows.now a.unknowns.now a.positions.now a.marks.now) a.packets.now (records a.keys.now a.counts.now a.flags.now) in
    let is : c.from_residual-in_err-test.result ≡ Err c.in_err-test.field-0.0 = search rules in
    ap (λ o. exchanging o m) is
    ∙ refused a.l a.s a.t m (c.in_err-test.ensures.answer ∙ ap₂ (λ k x. exchange_test k a.s a.t x) c.in_ok-p.ensures.placing.0 (ap memory_seen c.new-room.ensures))

pub exchange_passed-requires : goal.exchange_passed-requires
exchange_passed-requires c =
    let a = c.args in
    let m : Memory = memory a.filter.now (tab a.xors.now a.flows.now a.unknowns.now a.positions.now a.marks.now) a.packets.now (records a.keys.now a.counts.now a.flags.now) in
    let l = c.in_ok-p.ensures.placing.0 in
    let r = (ap memory_seen c.new-room.ensures) in
    both-ready a.l a.s a.t m c.in_ok-p.p c.in_ok-q.q c.in_ok-p.ensures.placing c.in_ok-q.ensures.placing
    (c.in_ok-test.ensures.first ∙ ap₂ (λ (k : Layout) x. seen_in k a.s (room_a (seam k a.s.sizes) x) (replicate {A = ℕ} 11264 0)) l r)
    (c.in_ok-test.ensures.second ∙ ap₂ (λ (k : Layout) x. seen_in k a.t (room_b (seam k a.s.sizes) x) (replicate {A = ℕ} 11264 0)) l r)
    (c.in_ok-test.ensures.answer ∙ ap₂ (λ k x. exchange_test k a.s a.t x) l r) c.requires (λ i. search rules)

pub returns : goal.returns
returns c =
    let a = c.args in
    let m : Memory = memory a.filter.now (tab a.xors.now a.flows.now a.unknowns.now a.positions.now a.marks.now) a.packets.now (records a.keys.now a.counts.now a.flags.now) in
    let l = c.in_ok-p.ensures.placing.0 in
    let r = (ap memory_seen c.new-room.ensures) in
    c.exchange_passed.ensures
    ∙ exchanged-is a.l a.s a.t m c.in_ok-p.p c.in_ok-q.q c.in_ok-p.ensures.placing c.in_ok-q.ensures.placing
    (c.in_ok-test.ensures.first ∙ ap₂ (λ (k : Layout) x. seen_in k a.s (room_a (seam k a.s.sizes) x) (replicate {A = ℕ} 11264 0)) l r)
    (c.in_ok-test.ensures.second ∙ ap₂ (λ (k : Layout) x. seen_in k a.t (room_b (seam k a.s.sizes) x) (replicate {A = ℕ} 11264 0)) l r)
    (c.in_ok-test.ensures.answer ∙ ap₂ (λ k x. exchange_test k a.s a.t x) l r)
