-- One cycle of the whole reader: the recogniser takes the bit, and the machine behind it responds to what it asks for.
-- Assumes nothing.
use Rattle.std.specs.Prelude.{List, ℕ, ◌+◌}
use Rattle.recogniser.specs.declared.Request.{Request}
use Rattle.recogniser.specs.declared.Event.{Event}
use Rattle.recogniser.specs.declared.Recogniser.{Recogniser}
use Rattle.recogniser.specs.declared.Transition.{Transition}
use Rattle.recogniser.specs.Step.{step_of}
use Rattle.frames.specs.Tray.{tray_of}
use Rattle.plans.specs.declared.Plan.{Plan}
use Rattle.registers.specs.declared.Model.{Model}
use Rattle.registers.specs.Registers.{cnt_of}
use Rattle.records.specs.declared.Cycle.{Cycle}
use Rattle.controller.specs.Commands.{Effect, act_of}
use Rattle.timing.specs.declared.Earlier.{Earlier}
use Rattle.timing.specs.TooClose.{flagged_cycle, earlier_after}
use Rattle.decoder.specs.declared.Decoder.{Decoder}
use Rattle.calls.specs.Run.{Turned}

-- All that an event reads or changes: the plan, the number of the next cycle, the model, the earlier record, the store and the tray.
pub record Machine : Type 0 where
  pub plan : Plan
  pub next : ℕ
  pub model : Model
  pub earlier : Earlier
  pub store : List ℕ
  pub tray : List ℕ

-- The recogniser, and the machine behind it.
pub record System : Type 0 where
  pub recogniser : Recogniser
  pub machine : Machine

-- A decoder with the store and the tray that it is lent, and back.
abbrev pub system_of : Decoder → List ℕ → List ℕ → System
system_of d store tray = record {
  recogniser = d.recogniser;
  machine = record { plan = d.plan; next = d.next; model = d.model; earlier = d.earlier; store = store; tray = tray };
}

abbrev pub decoder_of : System → Decoder
decoder_of s =
    let m = s.machine in
    record { plan = m.plan; next = m.next; recogniser = s.recogniser; model = m.model; earlier = m.earlier }

-- CNT as it stands.
abbrev pub cnt_at : Machine → ℕ
cnt_at m = cnt_of m.plan m.model

-- What a request does at a cycle.
abbrev pub effect_at : Machine → Request → ℕ → Effect
effect_at m request time = act_of m.plan m.model request time m.store

-- What the cycle answers: its record with the flag of one too close to the earlier record, by CNT as it stood ahead of the record's effect (document 02, F-5).
abbrev pub answer_by : Machine → Effect → Cycle
answer_by m e = flagged_cycle m.earlier (cnt_at m) e.acted.cycle

-- The machine after an event, given what its request did and the number of the next cycle. The record becomes the earlier one, GlobalResetMCC's too.
abbrev pub respond_by : Machine → Event → ℕ → Effect → Turned Machine
respond_by m event next e = record {
  state = record {
    plan = m.plan;
    next = next;
    model = e.acted.model;
    earlier = earlier_after m.earlier (answer_by m e);
    store = e.store;
    tray = tray_of m.tray event.frame;
  };
  cycle = answer_by m e;
}

-- "Each bit takes the next number. .. A record's time is the cycle of its command's last bit."
abbrev pub respond_of : Machine → Event → Turned Machine
respond_of m event = respond_by m event (m.next + 1) (effect_at m event.request m.next)

-- The recogniser's transition, and the machine's response to its event.
abbrev pub turn_by : Transition → Turned Machine → Turned System
turn_by t r = record { state = record { recogniser = t.next; machine = r.state }; cycle = r.cycle }

abbrev pub transition_of : System → ℕ → Transition
transition_of s bit = step_of s.recogniser bit (cnt_at s.machine)

unfoldable pub turn_of : System → ℕ → Turned System
turn_of s bit = turn_by (transition_of s bit) (respond_of s.machine (transition_of s bit).event)
