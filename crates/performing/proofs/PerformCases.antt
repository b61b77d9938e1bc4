-- A request performed, by what the controller answered: no record, or one in the list.
-- Assumes nothing.
use mathlib.Core.Path.{◌≡◌, ◌∙◌, refl, sym, ap, subst}
use mathlib.Core.Bool.{Bool, true, false}
use mathlib.Core.List.{List}
use Prim.Native.Nat.{ℕ, ◌+◌}
use lib.ListN.{set}
use Rattle.recogniser.specs.declared.Request.{Request}
use Rattle.recogniser.specs.declared.Request.TheVariants.{Nothing, Lv1, Fast, BadFast, Slow}
use Rattle.registers.specs.declared.Model.{Model}
use Rattle.plans.specs.declared.Plan.{Plan}
use Rattle.registers.specs.Registers.{cnt_of}
use Rattle.triggers.specs.declared.Acted.{Acted}
use Rattle.records.specs.declared.Record.{Record}
use Rattle.records.specs.declared.Cycle.TheVariants.{Silent, Recorded}
use Rattle.records.specs.Records.{head_of, is_frame_head}
use Rattle.controller.specs.Commands.{Effect, effect, act_of}
use Rattle.controller.specs.Requests.{request_fits}
use Rattle.controller.proofs.RecordStamps.{Stamp, record_stamp}
use Rattle.controller.proofs.EffectKeeps.{after, cnt_kept}
use Rattle.timing.specs.declared.Earlier.{Earlier}
use Rattle.timing.specs.TooClose.{earlier_of, flagged}
use Rattle.performing.specs.declared.Performed.{Performed}
use Rattle.performing.specs.Perform.{perform_result, cnt_after, perform_of}

-- Only a Slow changes CNT.
module _ (plan : Plan) (m : Model) (time : ℕ) (store : List ℕ) where
  cnt_is : (q : Request) (cnt : ℕ) → cnt ≡ cnt_of plan m → cnt_after plan (after plan m q time store) q cnt ≡ cnt_of plan (after plan m q time store)
  cnt_is Nothing cnt e = e ∙ sym (cnt_kept plan m Nothing time store refl)
  cnt_is (Lv1 position) cnt e = e ∙ sym (cnt_kept plan m (Lv1 position) time store refl)
  cnt_is (Fast body) cnt e = e ∙ sym (cnt_kept plan m (Fast body) time store refl)
  cnt_is (BadFast body) cnt e = e ∙ sym (cnt_kept plan m (BadFast body) time store refl)
  cnt_is (Slow slow) cnt e = refl

module _ (plan : Plan) (from : Performed) (q : Request) (time : ℕ) (store store₁ : List ℕ) (a : Acted)
    (did : effect a store₁ ≡ act_of plan from.model q time store) where
  pub with_stamp : (r : Record) → request_fits q ≡ true → a.cycle ≡ Recorded r → Stamp time r
  with_stamp r fits e = record_stamp plan from.model time store q r fits (sym (ap (λ (f : Effect). f.acted.cycle) did) ∙ e)

  pub present_cnt : (cnt : ℕ) → from.cnt ≡ cnt_of plan from.model → cnt ≡ cnt_after plan a.model q from.cnt → cnt ≡ cnt_of plan a.model
  present_cnt cnt before now =
      now ∙ subst (λ (f : Effect). cnt_after plan f.acted.model q from.cnt ≡ cnt_of plan f.acted.model) (sym did)
      (cnt_is plan from.model time store q from.cnt before)

  module _ (cnt : ℕ) (list : List ℕ) (present : cnt ≡ cnt_of plan a.model) where
    pub silently : a.cycle ≡ Silent
        → perform_result (record { model = a.model; cnt = cnt; earlier = from.earlier; at = from.at; stops = false }) store₁ list
        ≡ perform_of plan from q time store list
    unfolding perform_of
    silently e = rw (← did, e, present)

    module _ (r told : Record) (earlier : Earlier) (close : told ≡ flagged from.earlier from.cnt r) (now : earlier ≡ earlier_of told) where
      pub recorded : (stops : Bool) (list₁ : List ℕ) → a.cycle ≡ Recorded r → stops ≡ is_frame_head (head_of told)
          → list₁ ≡ set (set list from.at (head_of told)) (from.at + 1) told.value
          → perform_result (record { model = a.model; cnt = cnt; earlier = earlier; at = from.at + 2; stops = stops }) store₁ list₁
          ≡ perform_of plan from q time store list
      unfolding perform_of
      recorded stops list₁ e s w = rw (← did, e, present, s, w, now, close)
