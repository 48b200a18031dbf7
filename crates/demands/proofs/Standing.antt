-- A session of the flows that a switch counted meets demands 2 and 3, whatever calls led to it; and calls leave such a session.
use mathlib.Core.Path.{◌≡◌, refl, sym, ap, ap₂, subst, ◌∙◌}
use mathlib.Core.Bool.{cond}
use mathlib.Core.List.{List, [], ◌∷◌, ◌++◌}
use mathlib.Core.Option.{some}
use lib.Dec.{eqb}
use Rattle.layout.specs.declared.Layout.{Layout}
use Rattle.theory.specs.Encode.{Key}
use Rattle.theory.specs.Session.{handed_of, count_of, stop_number}
use Rattle.theory.specs.HandOver.{Switch, Call, hand, settling, calls, settle_at}
use Rattle.theory.specs.HandOver as theory
use Rattle.theory.specs.Report.{report}
use Rattle.theory.specs.Invariant.{Counted, received}
use Rattle.theory.specs.Runs.{Stands}
use Rattle.theory.specs.Demands.{HandedCounted, Truthful, AtEnd, Demand2, reference, Same, Demand3}
use Rattle.theory.proofs.HandOver.{accepted-handed}
use Rattle.theory.proofs.Demands.{stands-calls, stands-settled, settled-rest, answers-0, truthful, rest-ends, counts_alone, settled-alike}
use Rattle.demands.specs.Calls.{Live, call_on, calls_on, accepted, KeysFit, viewed, switch_at, Passing}
use Rattle.demands.specs.Demands.{told_by, shown, StandsAt}
use Rattle.demands.proofs.Steps.{calls-follow, settle-follows, hand-follows, settle-number, hand-over-number}
use Rattle.demands.proofs.Reported.{report-counts}

module _ (l : Layout) (w : Switch) (F : Counted w) where
  module _ (u : Live) (st : StandsAt l w F u) where
    settled-viewed : viewed l (call_on l settling u) ≡ (settle_at w (viewed l u)).state
    settled-viewed = (settle-follows l u st.passing).seen_as ∙ ap (λ s. (settle_at s (viewed l u)).state) st.switch-is

    told_is : (shown l u).told ≡ some (report w.size (viewed l u))
    told_is =
        let r = report-counts l u st.passing in
        ap told_by r.0 ∙ ap some (r.1 ∙ ap (λ (s : Switch). report s.size (viewed l u)) st.switch-is)

    -- Theorem (demand 2)
    pub stands-2 : Demand2 w.size F.key_length w.has F.flows F.packets (shown l u)
    stands-2 =
        let s = viewed l u in
        let t = (settle_at w s).state in
        let settled = stands-settled w F s st.stands in
        record {
          truthful = truthful w F s st.stands;
          reports = told_is;
          answers-0 = settle-number l u st.passing ∙ ap (λ a. stop_number (settle_at a s).stop) st.switch-is
              ∙ ap stop_number (answers-0 w F s st.stands);
          truthful-settled = subst (Truthful F.key_length w.has F.flows F.packets) (sym settled-viewed) (truthful w F t settled);
          at-end = subst (AtEnd w.has F.flows) (sym settled-viewed) (rest-ends w F t settled (settled-rest w F s st.stands));
        }

    -- Theorem (demand 3): the flows accepted are those that the list says were handed over
    pub stands-3 : Demand3 w.size F.key_length w.has F.flows F.packets (handed_of (viewed l u).list) (shown l u)
    stands-3 = subst (λ s. Same s (reference w.size w.has (received w F).cells (handed_of (viewed l u).list))) (sym settled-viewed)
        (settled-alike w F (viewed l u) st.stands)

    -- Theorem: hand-overs never add a count: after a settling they are those that the flowset yields by itself
    pub stands-counts : (k : Key) → count_of (viewed l (call_on l settling u)).list k ≡ count_of (settle_at w (received w F)).state.list k
    stands-counts k = ap (λ s. count_of s.list k) settled-viewed
        ∙ counts_alone w F (settle_at w (viewed l u)).state (stands-settled w F (viewed l u) st.stands) (settled-rest w F (viewed l u) st.stands) k

  -- Theorem: where every flow accepted was counted here, calls leave a session of the flowset
  pub calls-stand : (u : Live) → StandsAt l w F u → (later : List Call) → KeysFit l later → HandedCounted F.flows (viewed l (calls_on l later u))
      → StandsAt l w F (calls_on l later u)
  calls-stand u st later fits ours =
      let f = calls-follow l later fits u st.passing in
      let seen : viewed l (calls_on l later u) ≡ calls w later (viewed l u) = f.seen_as ∙ ap (λ s. calls s later (viewed l u)) st.switch-is in
      record {
        switch-is = f.same_switch ∙ st.switch-is;
        passing = f.passing;
        stands = subst (Stands w F) (sym seen)
            (stands-calls w F later (viewed l u) st.stands (subst (HandedCounted F.flows) seen ours));
        own = st.own;
      }

-- ---- accepted means answered 0
module _ (l : Layout) where
  same-accepted : (later : List Call) → KeysFit l later → (v : Live) → Passing l v
      → accepted l later v ≡ theory.accepted (switch_at l v) later (viewed l v)
  unfolding KeysFit accepted theory.accepted
  same-accepted [] fits v p = refl
  same-accepted (settling ∷ later) fits v p =
      let f = settle-follows l v p in
      same-accepted later fits (call_on l settling v) f.passing
      ∙ ap₂ (λ w s. theory.accepted w later s) f.same_switch f.seen_as
  same-accepted (hand x ∷ later) fits v p =
      let f = hand-follows l v p x fits.0 in
      let rest = same-accepted later fits.1 (call_on l (hand x) v) f.passing
      ∙ ap₂ (λ w s. theory.accepted w later s) f.same_switch f.seen_as in
      ap₂ (λ n r. cond (eqb n 0) (x ∷ r) r) (hand-over-number l v p x fits.0) rest

  -- Theorem: the flows that the list says were handed over are those that it said before, and then the keys of the calls that were answered 0, in order
  pub accepted-are : (later : List Call) → KeysFit l later → (v : Live) → Passing l v
      → handed_of (viewed l (calls_on l later v)).list ≡ handed_of (viewed l v).list ++ accepted l later v
  accepted-are later fits v p =
      ap (λ s. handed_of s.list) (calls-follow l later fits v p).seen_as ∙ accepted-handed (switch_at l v) later (viewed l v)
      ∙ ap (λ a. handed_of (viewed l v).list ++ a) (sym (same-accepted later fits v p))
