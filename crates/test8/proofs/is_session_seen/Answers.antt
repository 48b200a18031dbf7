-- `test8::is_session_seen` meets its contract.
use Rattle.std.proofs.Common.{◌*◌, ◌^◌, ◌<◌, ◌≤◌, ◌∙◌, sym, ap, get_or, mul-le-mul, arith}
use Rattle.laws.proofs.Bools.{clash}
use Rattle.laws.specs.Upto.{each_upto}
use Rattle.layout.specs.Sizes.{table_cells}
use Rattle.layout.proofs.Ranges.{table-high}
use Rattle.list.specs.Seen.{list_seen}
use Rattle.table.specs.Seen.{tab_seen}
use Rattle.test8.specs.Given.{seen_upto}
use Rattle.test8.proofs.Notes.{unknowns-are, positions-are}
use Rattle.test8.proofs.Answers.{refused, decided, over_yes, over_no, seen-in}
use Rattle.test8.proofs.is_session_seen.Goals as goal

pub returns-then-n-cells : goal.returns-then-n-cells
unfolding seen_upto each_upto
returns-then-n-cells c =
    let a = c.args in
    let s = a.p.shape in
    let over = over_yes s.layout s.sizes a.n c.table_cells-cells.ensures c.if-n-cells.true in
    (refused s.layout s.sizes a.p.salt a.n (tab_seen a.table) (list_seen a.list) (λ p. clash over p.listed_in), rw over)

pub note_list-repeat-requires : goal.note_list-repeat-requires
note_list-repeat-requires c =
    let a = c.args in
    let s = a.p.shape in
    let high = table-high s.layout s.sizes s.lays s.ranged in
    let few : a.n ≤ 2 * table_cells s.layout s.sizes = omega (arith, c.table_cells-cells.ensures, c.if-n-cells.false) in
    let p = mul-le-mul {n₁ = a.n} {m₁ = s.layout.key} {m₂ = s.layout.key} few (omega arith) in
    (omega arith, omega (arith, c.requires.1.keys-fit), omega (arith, c.requires.1.flags-fit), c.requires.2)

pub returns-then-not-repeat : goal.returns-then-not-repeat
returns-then-not-repeat c =
    let a = c.args in
    let s = a.p.shape in
    let l = s.layout in
    let z = s.sizes in
    let told = c.note_list-repeat.ensures in
    let noted = c.note_list-repeat.new.numbers in
    let over = over_no l z a.n c.table_cells-cells.ensures c.if-n-cells.false in
    let few : a.n < 2 ^ 16 = omega (arith, table-high l z s.lays s.ranged, c.if-n-cells.false, c.table_cells-cells.ensures) in (
      decided l z a.p.salt a.n (tab_seen a.table) (list_seen a.list) noted.unknowns noted.positions over (sym told.0 ∙ c.if-not-repeat.true)
          (λ d. ap (λ x. get_or x d 0) told.2 ∙ unknowns-are l z s.lays s.ranged a.p.salt a.n (list_seen a.list) few d)
          (λ d. ap (λ x. get_or x d 0) told.3 ∙ positions-are l z s.lays s.ranged a.p.salt a.n (list_seen a.list) d)
          c.rest_right.ensures,
      seen-in l z a.p.salt a.n a.list.keys.now a.seen.now over told.1,
    )

pub returns-else-not-repeat : goal.returns-else-not-repeat
returns-else-not-repeat c =
    let a = c.args in
    let s = a.p.shape in
    let told = c.note_list-repeat.ensures in (
      rw c.if-not-repeat.false (refused s.layout s.sizes a.p.salt a.n (tab_seen a.table) (list_seen a.list)
          (λ p. clash (sym told.0 ∙ c.if-not-repeat.false) p.keys-differ)),
      seen-in s.layout s.sizes a.p.salt a.n a.list.keys.now a.seen.now
          (over_no s.layout s.sizes a.n c.table_cells-cells.ensures c.if-n-cells.false) told.1,
    )
