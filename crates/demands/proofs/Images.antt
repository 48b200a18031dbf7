-- What users are told of any image that is read, clean, damaged or made up: it opens to a session, and without hand-overs no count stays unknown.
use mathlib.Core.Path.{◌≡◌, refl, sym, ap, ap₂, ◌∙◌}
use mathlib.Core.List.{List, []}
use Prim.Native.Nat.{ℕ}
use native.Mathlib.Omega.{arith}
use lib.ListN.{length}
use Rattle.std.specs.Prelude.{}
use Rattle.laws.specs.BigEndian.{Bytes}
use Rattle.layout.specs.declared.Layout.{Layout}
use Rattle.layout.specs.declared.Sizes.{Sizes}
use Rattle.layout.specs.Sizes.{Lays}
use Rattle.reading.specs.Read.{read_of, filter_in, cells_in}
use Rattle.sealing.specs.Seal.{Sealable}
use Rattle.image.proofs.Back.{read_only}
use Rattle.image.proofs.Blocks.{length-image}
use Rattle.session.specs.Calls.{settle_of, settle_number}
use Rattle.theory.specs.Session.{unknowns_of, opened, Stop, settled, damage, stop_number}
use Rattle.theory.specs.HandOver.{Switch, settling, settle_at}
use Rattle.theory.proofs.Alone.{alone-known}
use Rattle.meaning.specs.View.{table_of, switch_of}
use Rattle.demands.specs.Calls.{Live, call_on, viewed, switch_at, Passing}
use Rattle.demands.proofs.Steps.{settle-follows, settle-number}
use Rattle.demands.proofs.Opened.{opened-viewed, opened-switch}
use Rattle.demands.proofs.Received.{opened_live, opened-passing}
use Rattle.reading.specs.Read.{image_with}

-- 01's number 0 says that settling went through
number-0 : (a : Stop) → stop_number a ≡ 0 → a ≡ settled
number-0 settled e = refl
number-0 (damage c) e = absurd (omega arith)

module _ (l : Layout) (lays : Lays l) (image : List ℕ) (bytes : Bytes image) (slot : ℕ) (z : Sizes) (salt : ℕ) (e : read_of l image slot ≡ image_with z salt) where
  abbrev v : Live
  v = opened_live l z salt slot image

  abbrev w : Switch
  w = switch_of l z salt (filter_in z image)

  abbrev pub sealable : Sealable l z (filter_in z image) (cells_in l z image)
  sealable = (read_only l lays image bytes slot z salt e).1

  -- Theorem: what opening leaves passes the test
  pub image-passing : Passing l v
  image-passing = opened-passing l z lays sealable.sizes salt slot image
      (ap length (read_only l lays image bytes slot z salt e).0 ∙ length-image l z salt slot (filter_in z image) (cells_in l z image) lays)

  -- Theorem: it is the theory's session of the image's cells, at the switch of its sizes, salt and filter
  pub image-viewed : viewed l v ≡ opened (table_of l z (cells_in l z image))
  image-viewed = opened-viewed l z lays image sealable.cells-length salt slot

  pub image-switch : switch_at l v ≡ w
  image-switch = opened-switch l z lays image sealable.cells-length salt slot

  -- Theorem: settled with answer 0 and no hand-over, every listed flow is counted
  pub alone-counted : settle_number (settle_of l v.numbers v.room).answer ≡ 0 → unknowns_of (viewed l (call_on l settling v)).list ≡ []
  alone-counted n =
      let same = settle-number l v image-passing ∙ ap₂ (λ s t. stop_number (settle_at s t).stop) image-switch image-viewed in
      ap (λ s. unknowns_of s.list) ((settle-follows l v image-passing).seen_as ∙ ap₂ (λ s t. (settle_at s t).state) image-switch image-viewed)
      ∙ alone-known w.size w.has (table_of l z (cells_in l z image)) (number-0 _ (sym same ∙ n))
