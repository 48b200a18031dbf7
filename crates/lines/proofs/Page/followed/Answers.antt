-- A number, and the byte after it.
use mathlib.Core.List.{[], ◌∷◌}
use Rattle.lines.specs.Text.{followed}
use Rattle.lines.proofs.Lines.{holds-first, holds-next, adds-then}
use Rattle.lines.proofs.Page.followed.Goals as goal

pub decimal-requires : goal.decimal-requires
unfolding followed
decimal-requires c = holds-first _ _ c.requires

pub byte-requires : goal.byte-requires
unfolding followed
byte-requires c = record { room = (holds-next _ (c.args.mark ∷ []) c.decimal.ensures c.requires).room }

pub returns : goal.returns
unfolding followed
returns c = adds-then c.decimal.ensures c.byte.ensures
