-- The lent slices of the found flows as one value, and what a method leaves of its loans.
use Rattle.std.specs.Prelude.{◌≡◌}
use Rattle.list.specs.declared.Found.{Found}
use Rattle.list.specs.Records.{Records, records}

-- the records that the slices hold
abbrev pub list_of : Found → Records
list_of f = records f.keys.now f.counts.now f.flags.now

-- the same three slices are lent, whatever they hold
abbrev pub FoundKept : Found → Found → Type 0
FoundKept p q =
    (p.keys.ghost_name ≡ q.keys.ghost_name) × (p.counts.ghost_name ≡ q.counts.ghost_name) × (p.flags.ghost_name ≡ q.flags.ghost_name)
    × (p.keys.ref_ptr ≡ q.keys.ref_ptr) × (p.counts.ref_ptr ≡ q.counts.ref_ptr) × (p.flags.ref_ptr ≡ q.flags.ref_ptr)
