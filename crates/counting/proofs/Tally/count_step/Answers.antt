use Rattle.std.proofs.Common.{sym, ap, ap₂, ◌∙◌, arith, get_or}
use mathlib.Core.Logic.{inl, inr}
use Rattle.hash.proofs.Apart.{places-within}
use Rattle.list.specs.Records.{records}
use Rattle.list.proofs.Laws.{key-inside}
use Rattle.counting.specs.Book.{book_of, lowest_ready, told_each}
use Rattle.counting.proofs.Answers.{count-quiet, count-far, count_none, count_less, count-told}
use Rattle.counting.proofs.Tally.count_step.Goals as goal

pub returns-in_default-clause-value : goal.returns-in_default-clause-value
returns-in_default-clause-value c =
    let a = c.args in
    let s = a.p.shape in
    let first = ap (λ m. lowest_ready m a.self.now.ready.now) (sym c.table_cells.ensures) ∙ sym c.lowest_ready.ensures.value ∙ c.in_default.is in
    count-quiet s.layout s.sizes a.p.salt a.n a.flows.now (book_of a.self.now) (records a.keys.now a.counts.now a.flags.now) c.requires first

pub returns-then-i-n-clause-value : goal.returns-then-i-n-clause-value
returns-then-i-n-clause-value c =
    let a = c.args in
    let s = a.p.shape in
    let first = ap (λ m. lowest_ready m a.self.now.ready.now) (sym c.table_cells.ensures) ∙ sym c.lowest_ready.ensures.value ∙ c.in-Some.is in
    elim c.then-i-n.either [
      | inl h ↦ count-far s.layout s.sizes a.p.salt a.n a.flows.now (book_of a.self.now) (records a.keys.now a.counts.now a.flags.now) c.requires first c.from-i.ensures h
      | inr h ↦ count_none s.layout s.sizes a.p.salt a.n a.flows.now (book_of a.self.now) (records a.keys.now a.counts.now a.flags.now) c.requires first c.from-i.ensures h.0 h.1
    ]

pub key_at-requires : goal.key_at-requires
key_at-requires c = key-inside c.from-i.result c.requires.room (omega (arith, c.requires.listed, c.if-i-n.false))

pub any_less-requires : goal.any_less-requires
any_less-requires c =
    let a = c.args in
    let s = a.p.shape in (
      c.requires.ranged.k-high,
      λ i h. omega (
        arith,
        places-within s.layout s.sizes s.lays s.ranged a.p.salt c.key_at.result.now c.cells_of-at.ensures i h,
        c.requires.cells.packets-fit,
      ),
    )

pub tell_out-requires : goal.tell_out-requires
tell_out-requires c =
    let a = c.args in
    let s = a.p.shape in (
      c.requires.ranged.k-high,
      λ i h. omega (
        arith,
        places-within s.layout s.sizes s.lays s.ranged a.p.salt c.key_at.result.now c.cells_of-at.ensures i h,
        c.requires.cells.flows-fit,
      ),
      rw c.requires.cells.flows-fit c.requires.cells,
    )

pub returns-then-any_less-clause-value : goal.returns-then-any_less-clause-value
returns-then-any_less-clause-value c =
    let a = c.args in
    let s = a.p.shape in
    let first = ap (λ m. lowest_ready m a.self.now.ready.now) (sym c.table_cells.ensures) ∙ sym c.lowest_ready.ensures.value ∙ c.in-Some.is in
    count_less s.layout s.sizes a.p.salt a.n a.flows.now (book_of a.self.now) (records a.keys.now a.counts.now a.flags.now) c.requires first c.from-i.ensures c.if-i-n.false
    c.if-v-eq0.false c.key_at.ensures c.cells_of-at.ensures c.any_less.ensures c.if-any_less.true

pub returns-clause-value : goal.returns-clause-value
returns-clause-value c =
    let a = c.args in
    let s = a.p.shape in
    let first = ap (λ m. lowest_ready m a.self.now.ready.now) (sym c.table_cells.ensures) ∙ sym c.lowest_ready.ensures.value ∙ c.in-Some.is in
    count-told s.layout s.sizes a.p.salt a.n a.flows.now (book_of a.self.now) (records a.keys.now a.counts.now a.flags.now) c.requires first c.from-i.ensures c.if-i-n.false
    c.if-v-eq0.false c.key_at.ensures c.cells_of-at.ensures c.any_less.ensures c.if-any_less.false
    (c.tell_out.ensures.value
    ∙ ap (λ i. told_each (get_or a.self.now.packets.now c.in-Some.c 0) i a.flows.now c.cells_of-at.result.at s.sizes.k (book_of a.self.now)) (sym c.from-i.ensures)) (ap₂ (records a.keys.now) c.set_count.ensures.0 c.set_count.ensures.1)
