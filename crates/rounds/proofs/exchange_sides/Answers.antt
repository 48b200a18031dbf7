use Rattle.std.proofs.Common.{◌≡◌, refl, ap, ap₂, ◌∙◌, ℕ, ◌+◌, ◌*◌, Err, arith, rules}
use Rattle.hash.specs.declared.Placing.{Placing}
use Rattle.layout.specs.Sizes.{table_cells}
use Rattle.layout.proofs.Ranges.{table-high}
use Rattle.rounds.specs.Rounds.{ended}
use Rattle.rounds.specs.Meets.{pair_in}
use Rattle.rounds.proofs.Rounds.{settled-meets, sides-stopped, sides-settled}
use Rattle.rounds.proofs.exchange_sides.Goals as goal

pub returns-in_err-settle_both-clause-value : goal.returns-in_err-settle_both-clause-value
returns-in_err-settle_both-clause-value c =
    let a = c.settle_both.new.a in
    let b = c.settle_both.new.b in
    let is : c.from_residual.result ≡ Err c.in_err-settle_both.field-0.0 = search rules in
    ap (λ o. ended o (pair_in a b 0)) is
    ∙ sides-stopped c.args.a.now c.args.b.now 0 c.requires a b c.settle_both.ensures.kept_a c.settle_both.ensures.kept_b (c.settle_both.ensures.value 0)
    c.in_err-settle_both.was

pub all_rounds-requires : goal.all_rounds-requires
all_rounds-requires c =
    let meets = settled-meets c.args.a.now c.args.b.now 0 c.requires c.settle_both.new.a c.settle_both.new.b c.settle_both.ensures.kept_a c.settle_both.ensures.kept_b
    (c.settle_both.ensures.value 0) in
    let x = c.settle_both.new.a.placing.shape in
    let y = c.settle_both.new.b.placing.shape in
    let t = c.table_cells.ensures in
    let u = c.table_cells-2.ensures in
    (meets, refl, omega (arith, t, u, table-high x.layout x.sizes x.lays x.ranged, table-high y.layout y.sizes y.lays y.ranged))

pub returns-clause-value : goal.returns-clause-value
returns-clause-value c =
    let cells : Placing → ℕ = λ x. table_cells x.shape.layout x.shape.sizes in
    let b = c.args.b.now.placing.shape.sizes in
    let most = ap₂ (λ m n. 2 * m + 2 * n + 1) (c.table_cells.ensures ∙ ap cells c.settle_both.ensures.kept_a.20)
    (c.table_cells-2.ensures ∙ ap cells c.settle_both.ensures.kept_b.20 ∙ ap (λ l. table_cells l b) c.requires.layout-is) in
    sides-settled c.args.a.now c.args.b.now 0 c.requires c.settle_both.new.a c.settle_both.new.b c.settle_both.ensures.kept_a c.settle_both.ensures.kept_b
    (c.settle_both.ensures.value 0) c.in_ok-settle_both.was most c.all_rounds.ensures.value
