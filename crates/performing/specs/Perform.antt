-- A request performed within a taking call: its effect, and its record in the list.
-- Assumes nothing.
use Rattle.std.specs.Prelude.{Bool, false, List, ℕ, ◌+◌, set}
use Rattle.limits.specs.Limits.{list_unit}
use Rattle.recogniser.specs.declared.Request.{Request}
use Rattle.recogniser.specs.declared.Request.TheVariants.{Nothing, Lv1, Fast, BadFast, Slow}
use Rattle.plans.specs.declared.Plan.{Plan}
use Rattle.registers.specs.declared.Model.{Model}
use Rattle.registers.specs.Registers.{cnt_of}
use Rattle.records.specs.declared.Cycle.{Cycle}
use Rattle.records.specs.declared.Cycle.TheVariants.{Silent, Recorded}
use Rattle.records.specs.Records.{head_of, is_frame_head}
use Rattle.controller.specs.Commands.{Effect, act_of}
use Rattle.timing.specs.declared.Earlier.{Earlier}
use Rattle.timing.specs.TooClose.{earlier_of, flagged_cycle}
use Rattle.performing.specs.declared.Performed.{Performed}

-- What `perform` answers, and the store's and the list's later contents.
pub record PerformResult : Type 0 where
  pub performed : Performed
  pub store : List ℕ
  pub list : List ℕ

abbrev pub perform_result : Performed → List ℕ → List ℕ → PerformResult
perform_result performed store list = record { performed = performed; store = store; list = list }

-- The model with its CNT, the earlier record, the next free word of the list, and whether the call stops here.
abbrev pub performed_with : Plan → Model → Earlier → ℕ → Bool → Performed
performed_with plan m earlier at stops = record { model = m; cnt = cnt_of plan m; earlier = earlier; at = at; stops = stops }

-- CNT after a request, by what it was ahead of it: only a Slow changes a register.
abbrev pub cnt_after : Plan → Model → Request → ℕ → ℕ
cnt_after plan m Nothing cnt = cnt
cnt_after plan m (Lv1 position) cnt = cnt
cnt_after plan m (Fast body) cnt = cnt
cnt_after plan m (BadFast body) cnt = cnt
cnt_after plan m (Slow slow) cnt = cnt_of plan m

-- What a cycle answers, in the list from a word on.
abbrev pub recorded_at : Plan → Model → Earlier → Cycle → List ℕ → List ℕ → ℕ → PerformResult
recorded_at plan m earlier Silent store list at = perform_result (performed_with plan m earlier at false) store list
recorded_at plan m earlier (Recorded r) store list at =
    perform_result (performed_with plan m (earlier_of r) (at + list_unit) (is_frame_head (head_of r))) store (set (set list at (head_of r)) (at + 1) r.value)

abbrev pub after_effect : Plan → Performed → Effect → List ℕ → PerformResult
after_effect plan from e list =
    let answer = flagged_cycle from.earlier from.cnt e.acted.cycle in
    recorded_at plan e.acted.model from.earlier answer e.store list from.at

unfoldable pub perform_of : Plan → Performed → Request → ℕ → List ℕ → List ℕ → PerformResult
perform_of plan from q time store list = after_effect plan from (act_of plan from.model q time store) list
