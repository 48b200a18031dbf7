-- A known count by the flags is one by the records.
use mathlib.Core.Path.{◌≡◌, refl}
use Prim.Native.Nat.{ℕ}
use Rattle.laws.specs.Upto.{number_upto}
use Rattle.list.specs.Records.{Records, is_known}
use Rattle.summary.specs.Report.{counted_in}

pub counted_is : (n : ℕ) (rs : Records) → counted_in n rs.flags ≡ number_upto n (is_known rs)
unfolding counted_in is_known
counted_is n rs = refl
