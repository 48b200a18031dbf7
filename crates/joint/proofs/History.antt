-- Demands 2 and 3 after any sequence of hand-overs, settlings and exchanges, from the packets taken on.
use mathlib.Core.Path.{◌≡◌, refl, sym, ap, ap₂, subst, ◌∙◌}
use mathlib.Core.List.{List, [], ◌∷◌, ◌++◌}
use mathlib.Core.Option.{some}
use Prim.Native.Nat.{ℕ}
use Rattle.layout.specs.declared.Layout.{Layout}
use Rattle.layout.specs.declared.Sizes.{Sizes}
use Rattle.layout.specs.Sizes.{Lays, ipv4_layout, table_cells}
use Rattle.layout.proofs.Ranges.{lays-ipv4}
use Rattle.meaning.specs.Meaning as encoder
use Rattle.meaning.proofs.Meaning.{packets-mean}
use Rattle.theory.specs.Encode.{Taken}
use Rattle.theory.specs.Session.{handed_of}
use Rattle.theory.specs.HandOver.{Switch, Call, hand, settling, calls}
use Rattle.theory.specs.Invariant.{Counted}
use Rattle.theory.specs.Report.{stray, Report, report_before}
use Rattle.theory.specs.Demands.{Premises, HandedCounted}
use Rattle.theory.specs.Runs.{Stands}
use Rattle.theory.proofs.HandOver.{calls-append}
use Rattle.theory.proofs.Demands.{stands-calls}
use Rattle.theory.proofs.Exchange.{exchange-calls-a, exchange-calls-b}
use Rattle.theory.proofs.Stray.{demand-unchanged, demand-never-stray}
use Rattle.demands.specs.Calls.{Live, call_on, calls_on, KeysFit, viewed, switch_at, Passing}
use Rattle.demands.specs.Demands.{Received, shown, Demand2At, Demand3At, StandsAt}
use Rattle.demands.proofs.Steps.{Follows, calls-follow}
use Rattle.demands.proofs.Standing.{stands-2, stands-3}
use Rattle.demands.proofs.Demands.{w, F, opened-stands}
use Rattle.joint.specs.History.{History, opened, handed, settled, exchanged-first, exchanged-second}
use Rattle.joint.specs.Exchanges.{exchanged_a, exchanged_b, pair_before}
use Rattle.joint.proofs.Exchanges.{exchanged-a, exchanged-b, passing-a, passing-b, switch-a, switch-b}

-- what is left of v is what these calls of the theory leave of it
abbrev ByCalls : Layout → Live → Live → Type 0
ByCalls l v u = (later : List Call) × Follows l v (calls (switch_at l v) later (viewed l v)) u

-- and then those that a call of the code is
and_then : (l : Layout) (v u t : Live) → (b : ByCalls l v u) → (more : List Call) → viewed l t ≡ calls (switch_at l u) more (viewed l u) → Passing l t
    → switch_at l t ≡ switch_at l u → ByCalls l v t
and_then l v u t b more seen pt same = (
  b.0 ++ more,
  record {
    seen_as = seen ∙ ap₂ (λ w s. calls w more s) b.1.same_switch b.1.seen_as ∙ sym (calls-append (switch_at l v) b.0 more (viewed l v));
    passing = pt;
    same_switch = same ∙ b.1.same_switch;
  },
)

module _ (l : Layout) (v : Live) (pv : Passing l v) where
  by_call : {u : Live} (a : Call) → KeysFit l (a ∷ []) → ByCalls l v u → ByCalls l v (call_on l a u)
  unfolding calls_on
  by_call {u = u} a fits b =
      let f = calls-follow l (a ∷ []) fits u b.1.passing in
      and_then l v u (call_on l a u) b (a ∷ []) f.seen_as f.passing f.same_switch

  -- Theorem: whatever happened to a session, it was some hand-overs and settlings, by the theory's calls; and what is left passes the test
  pub history-follows : {u : Live} → History l v u → ByCalls l v u
  unfolding calls KeysFit
  history-follows opened = ([], record { seen_as = refl; passing = pv; same_switch = refl })
  history-follows (handed x fits h) = by_call (hand x) (fits, tt) (history-follows h)
  history-follows (settled h) = by_call settling tt (history-follows h)
  history-follows (exchanged-first {u = u} t pt slots h) =
      let b = history-follows h in
      let pu = b.1.passing in
      let x = exchange-calls-a (switch_at l u) (switch_at l t) (pair_before l u t) in
      and_then l v u (exchanged_a l u t) b x.0 (exchanged-a l u t pu pt slots ∙ x.1) (passing-a l u t pu pt slots) (switch-a l u t pu pt slots)
  history-follows (exchanged-second {u = u} t pt slots h) =
      let b = history-follows h in
      let pu = b.1.passing in
      let x = exchange-calls-b (switch_at l t) (switch_at l u) (pair_before l t u) in
      and_then l v u (exchanged_b l t u) b x.0 (exchanged-b l t u pt pu slots ∙ x.1) (passing-b l t u pt pu slots) (switch-b l t u pt pu slots)

  pub history-passing : {u : Live} → History l v u → Passing l u
  history-passing h = (history-follows h).1.passing

-- Theorem: where every flow accepted was counted here, what is left is a session of the flowset
pub history-stands : (l : Layout) (A : Switch) (e : Counted A) (v : Live) → StandsAt l A e v → {u : Live} → History l v u
    → HandedCounted e.flows (viewed l u) → StandsAt l A e u
history-stands l A e v st h ours =
    let b = history-follows l v st.passing h in
    let seen = b.1.seen_as ∙ ap (λ w. calls w b.0 (viewed l v)) st.switch-is in
    record {
      switch-is = b.1.same_switch ∙ st.switch-is;
      passing = b.1.passing;
      stands = subst (Stands A e) (sym seen) (stands-calls A e b.0 (viewed l v) st.stands (subst (HandedCounted e.flows) seen ours));
      own = st.own;
    }

-- over any layout, whatever memory the encoder left; u is what stands after the calls, and its list says which flows were accepted
module _ (l : Layout) (lays : Lays l) (z : Sizes) (salt slot : ℕ) (m : encoder.Memory) (taken : List Taken) (means : encoder.Means l z salt m taken)
    (v : Live) (rc : Received l z salt slot m v) (u : Live) (h : History l v u) (premises : Premises taken (handed_of (viewed l u).list)) where
  -- Theorem: it is a session of the flows taken
  pub history-at : StandsAt l (w l lays z salt slot m taken means v rc) (F l lays z salt slot m taken means v rc) u
  history-at = history-stands l (w l lays z salt slot m taken means v rc) (F l lays z salt slot m taken means v rc) v
      (opened-stands l lays z salt slot m taken means v rc premises.clean) h premises.accepted-counted

  -- Theorem (demand 2)
  pub history-2 : Demand2At l z salt taken u
  history-2 = stands-2 l (w l lays z salt slot m taken means v rc) (F l lays z salt slot m taken means v rc) u history-at

  -- Theorem (demand 3)
  pub history-3 : Demand3At l z salt taken (handed_of (viewed l u).list) u
  history-3 = stands-3 l (w l lays z salt slot m taken means v rc) (F l lays z salt slot m taken means v rc) u history-at

-- ---- packets of IPv4, as the switch takes them from a start
module _ (z : Sizes) (salt slot : ℕ) (packets : List (List ℕ)) (v : Live) (rc : Received ipv4_layout z salt slot (encoder.packets_run z salt packets) v)
    (u : Live) (h : History ipv4_layout v u) (premises : Premises (encoder.taken_in z salt packets) (handed_of (viewed ipv4_layout u).list)) where
  -- Theorem (demand 2): from a start, any packets, sealing, reading at its slot, opening, then any hand-overs, settlings and exchanges
  pub sequence-2 : Demand2At ipv4_layout z salt (encoder.taken_in z salt packets) u
  sequence-2 = history-2 ipv4_layout lays-ipv4 z salt slot (encoder.packets_run z salt packets) (encoder.taken_in z salt packets)
      (packets-mean z salt packets) v rc u h premises

  -- Theorem (02 b): "on clean flowsets .. no answer changes": the report is the one without 02 b, and its state never stray
  pub sequence-unchanged : (shown ipv4_layout u).told ≡ some (report_before (table_cells ipv4_layout z) (viewed ipv4_layout u))
  sequence-unchanged = demand-unchanged _ _ _ _ _ (shown ipv4_layout u) sequence-2

  pub sequence-never-stray : (r : Report) → (shown ipv4_layout u).told ≡ some r → r.state ≡ stray → ⊥
  sequence-never-stray = demand-never-stray _ _ _ _ _ (shown ipv4_layout u) sequence-2

  -- Theorem (demand 3): and a settling
  pub sequence-3 : Demand3At ipv4_layout z salt (encoder.taken_in z salt packets) (handed_of (viewed ipv4_layout u).list) u
  sequence-3 = history-3 ipv4_layout lays-ipv4 z salt slot (encoder.packets_run z salt packets) (encoder.taken_in z salt packets)
      (packets-mean z salt packets) v rc u h premises
