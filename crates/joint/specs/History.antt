-- What can have happened to a session since it was opened.
use Rattle.std.specs.Prelude.{◌≡◌, length}
use Rattle.layout.specs.declared.Layout.{Layout}
use Rattle.theory.specs.Encode.{Key}
use Rattle.theory.specs.HandOver.{hand, settling}
use Rattle.demands.specs.Calls.{Live, call_on, Passing}
use Rattle.joint.specs.Exchanges.{exchanged_a, exchanged_b}

-- any hand-overs, settlings, and exchanges of one slot with any other sessions that pass the test of 8, as the first or the second of the two;
-- v is what opening left
pub data History (l : Layout) (v : Live) : Live → Type 0 where
  opened : History l v v
  handed : {u : Live} (x : Key) → length x ≡ l.key → History l v u → History l v (call_on l (hand x) u)
  settled : {u : Live} → History l v u → History l v (call_on l settling u)
  exchanged-first : {u : Live} (t : Live) → Passing l t → u.numbers.slot ≡ t.numbers.slot → History l v u → History l v (exchanged_a l u t)
  exchanged-second : {u : Live} (t : Live) → Passing l t → t.numbers.slot ≡ u.numbers.slot → History l v u → History l v (exchanged_b l t u)
