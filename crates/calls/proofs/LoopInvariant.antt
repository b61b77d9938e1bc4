-- What the taking loop keeps, and what each way through its body does to that.
-- Assumes nothing.
use mathlib.Core.Path.{◌≡◌, ◌∙◌, refl, sym, ap}
use mathlib.Core.Bool.{Bool, true, false, cond}
use mathlib.Core.List.{List, ◌∷◌}
use Prim.Native.Nat.{ℕ, suc, ◌+◌, ◌-◌, ◌/◌, ◌<◌, ◌≤◌}
use native.Mathlib.Nat.{add-zero}
use native.Mathlib.Omega.{arith}
use borrow.Author.Tests.{lt-ltb}
use lib.ListN.{length, set, drop, length-set}
use lib.Seq.{sets}
use Rattle.bits.specs.Bits.{bit_of, bits_of}
use Rattle.bits.proofs.BitRanges.{first_bit, drop_bits}
pub use Rattle.bits.proofs.BitRanges.{length_bits}
use Rattle.bits.proofs.Truth.{clash}
use Rattle.recogniser.specs.declared.Request.TheVariants as request
use Rattle.recogniser.specs.declared.Recogniser.{Recogniser}
use Rattle.stretches.specs.declared.Stretch.{Stretch}
use Rattle.stretches.specs.Stretch.{stretch_of}
use Rattle.stretches.proofs.SingleCycles.{Passes, ends, last, more, passes_some, passes_within, stretch_passes}
use Rattle.frames.specs.Tray.{tray_of}
use Rattle.plans.specs.declared.Plan.{Plan}
use Rattle.registers.specs.declared.Model.{Model}
use Rattle.registers.specs.Registers.{cnt_of}
use Rattle.records.specs.declared.Cycle.{Cycle}
use Rattle.records.specs.declared.Cycle.TheVariants.{Silent, Recorded}
use Rattle.records.specs.declared.Record.{Record}
use Rattle.records.specs.Records.{head_of, is_frame_head}
use Rattle.controller.specs.Commands.{Effect, act_of}
use Rattle.controller.specs.Requests.{request_fits}
use Rattle.controller.proofs.RequestsFit.{step_request_fits}
use Rattle.controller.proofs.RecordStamps.{Stamped, stamped}
use Rattle.timing.specs.declared.Earlier.{Earlier}
use Rattle.timing.specs.TooClose.{earlier_of, earlier_below, flagged_cycle, earlier_after}
use Rattle.timing.proofs.Flagged.{below_later, below_next}
use Rattle.decoder.specs.declared.Decoder.{Decoder}
use Rattle.calls.specs.declared.Ending.{Ending}
use Rattle.calls.specs.declared.Ending.TheVariants.{Done, Frame, ListFull}
use Rattle.performing.specs.declared.Performed.{Performed}
use Rattle.performing.specs.Perform.{PerformResult, performed_with, recorded_at, perform_of}
use Rattle.calls.specs.Run.{Run, ended, one_bit, one_record, after_cycle, run_of}
use Rattle.calls.specs.Turn.{System, decoder_of, turn_of}
use Rattle.calls.specs.Take.{Call, CallResult, call_result, taken_with, finished, taken_of}
use Rattle.calls.proofs.RunStretch.{landed, bits_ahead, run_stretch}

-- The system that the loop's locals make up, and the bits that are left.
abbrev pub system_at : Decoder → List ℕ → List ℕ → Recogniser → Model → Earlier → ℕ → System
system_at d store tray r m earlier taken =
    record { recogniser = r; machine = record { plan = d.plan; next = d.next + taken; model = m; earlier = earlier; store = store; tray = tray } }

abbrev pub stands_at : Decoder → List ℕ → List ℕ → Recogniser → Performed → ℕ → System
stands_at d store tray r p taken = system_at d store tray r p.model p.earlier taken

abbrev pub left : Call → ℕ → List ℕ
left c taken = bits_of c.input (c.first + taken) (c.count - taken)

-- The answer at an end of the loop.
abbrev pub answered : Call → System → ℕ → ℕ → Ending → List ℕ → CallResult
answered c s taken at ending list =
    call_result (taken_with (decoder_of s) taken ((at - c.free) / 2) ending) s.machine.store s.machine.tray list

-- The run that is left, finished onto what is taken and written so far, is the whole call. The earlier record has a time below the next cycle.
pub record Invariant (d : Decoder) (c : Call) (store tray list : List ℕ) (r : Recogniser) (p : Performed) (taken : ℕ) : Type 0 where
  pub low : taken ≤ c.count
  pub below : earlier_below p.earlier (d.next + taken) ≡ true
  pub from : c.free ≤ p.at
  pub fits : p.at ≤ length list
  pub same : length list ≡ length c.list
  pub long : length store ≡ length c.store
  pub wide : length tray ≡ length c.tray
  pub cnt_is : p.cnt ≡ cnt_of d.plan p.model
  pub rest : finished taken ((p.at - c.free) / 2) list p.at (run_of turn_of (left c taken) (stands_at d store tray r p taken) (length list - p.at))
      ≡ taken_of d c

pub initially : (d : Decoder) (c : Call) → c.free ≤ length c.list → earlier_below d.earlier d.next ≡ true
    → Invariant d c c.store c.tray c.list d.recogniser (performed_with d.plan d.model d.earlier c.free false) 0
unfolding taken_of
initially d c h below =
    let a : c.first + 0 ≡ c.first = omega arith in
    let b : d.next + 0 ≡ d.next = omega arith in
    let s : c.count - 0 ≡ c.count = omega arith in
    let z : (c.free - c.free) / 2 ≡ 0 = omega arith in
    record {
      low = omega arith;
      below = rw b below;
      from = omega arith;
      fits = h;
      same = refl;
      long = refl;
      wide = refl;
      cnt_is = refl;
      rest = rw (a, b, s, z);
    }

-- an end of the run
ending : (c : Call) (w : System) (e : Ending) (taken at : ℕ) (list : List ℕ)
    → answered c w taken at e list ≡ finished taken ((at - c.free) / 2) list at (ended w e)
ending c w e taken at list = simp add-zero

-- no room for a record: no bit is taken
no_room : (w : System) (bit : ℕ) (bits : List ℕ) (room : ℕ) → room < 2 → run_of turn_of (bit ∷ bits) w room ≡ ended w ListFull
no_room w bit bits room h =
    ap (λ b. cond b (ended w ListFull) (one_bit (after_cycle (run_of turn_of bits) (turn_of w bit).state (turn_of w bit).cycle room))) (lt-ltb room 2 h)

-- a run with a record ahead of it, finished
wrote_one : (taken at free : ℕ) (x : Record) (list : List ℕ) (r : Run System) → free ≤ at
    → finished taken ((at - free) / 2) list at (one_record x r)
    ≡ finished taken ((at + 2 - free) / 2) (set (set list at (head_of x)) (at + 1) x.value) (at + 2) r
wrote_one taken at free x list r h =
    let n : (at - free) / 2 + suc (suc (length r.words)) / 2 ≡ (at + 2 - free) / 2 + length r.words / 2 = omega arith in
    let a : suc at ≡ at + 1 = omega arith in
    let b : suc (suc at) ≡ at + 2 = omega arith in
    λ i. call_result (taken_with (decoder_of r.state) (taken + r.bits) (n i) r.ending) r.state.machine.store r.state.machine.tray
    (sets (set (set list at (head_of x)) (a i) x.value) (b i) r.words)

-- Once a request is performed, the call goes on, or it stops at a frame's record.
pub record AfterRequest (d : Decoder) (c : Call) (tray : List ℕ) (r : Recogniser) (taken : ℕ) (p : PerformResult) : Type 0 where
  pub from : c.free ≤ p.performed.at
  pub onwards : p.performed.stops ≡ false → Invariant d c p.store tray p.list r p.performed taken
  pub stopped : p.performed.stops ≡ true
      → answered c (stands_at d p.store tray r p.performed taken) taken p.performed.at Frame p.list ≡ taken_of d c

-- a record leaves the store
same_store : (plan : Plan) (m : Model) (e : Earlier) (y : Cycle) (store list : List ℕ) (at : ℕ)
    → length (recorded_at plan m e y store list at).store ≡ length store
same_store plan m e Silent store list at = refl
same_store plan m e (Recorded x) store list at = refl

passes_fit : {cnt : ℕ} {r : Recogniser} {bits : List ℕ} {s : Stretch} → Passes cnt r bits s → request_fits s.event.request ≡ true
passes_fit (ends r) = refl
passes_fit {cnt} (last r bit bits) = step_request_fits r bit cnt
passes_fit (more r bit bits s no_event p) = passes_fit p

module _ {d : Decoder} {c : Call} {store tray list : List ℕ} {r : Recogniser} {p : Performed} {taken : ℕ}
    (g : Invariant d c store tray list r p taken) where
  abbrev at : ℕ
  at = p.at

  abbrev here : System
  here = stands_at d store tray r p taken

  pub done : c.count ≤ taken → answered c here taken at Done list ≡ taken_of d c
  done h =
      let e : c.count - taken ≡ 0 = omega arith in
      ending c here Done taken at list ∙ (rw e at g.rest)

  module _ (more : taken < c.count) where
    -- the bit that comes next, and those behind it
    abbrev next_bit : ℕ
    next_bit = bit_of c.input (c.first + taken)

    abbrev behind : List ℕ
    behind = bits_of c.input (c.first + taken + 1) (c.count - taken - 1)

    first : left c taken ≡ next_bit ∷ behind
    first = first_bit c.input (c.first + taken) (c.count - taken) (omega arith)

    pub full : length list - at < 2 → answered c here taken at ListFull list ≡ taken_of d c
    full h =
        ending c here ListFull taken at list
        ∙ ap (finished taken ((at - c.free) / 2) list at) (sym (no_room here next_bit behind (length list - at) h))
        ∙ (rw first at g.rest)

    -- a stretch of the input that is left, as single cycles
    pub stretch_walks : (s : Stretch) → s ≡ stretch_of r p.cnt (left c taken) → Passes p.cnt r (left c taken) s
    stretch_walks s walked = rw (walked, first) (stretch_passes r p.cnt _ _)

    -- after single cycles of which only the last asks for anything, however far they go
    module _ (room : 2 ≤ length list - at) (s : Stretch) (passes : Passes p.cnt r (left c taken) s) where
      abbrev on : ℕ
      on = taken + s.taken

      long_left : length (left c taken) ≡ c.count - taken
      long_left = length_bits c.input (c.first + taken) (c.count - taken)

      within : s.taken ≤ c.count - taken
      within = rw long_left at (passes_within passes)

      pub moved : (1 ≤ s.taken) × (on ≤ c.count)
      moved = (passes_some passes (omega (arith, long_left)), let h = within in omega arith)

      -- what the last cycle of a stretch asks for has a record that fits
      pub stretched_fits : request_fits s.event.request ≡ true
      stretched_fits = passes_fit passes

      after : drop s.taken (left c taken) ≡ left c on
      after =
          let e : c.first + taken + s.taken ≡ c.first + on = omega arith in
          let f : c.count - taken - s.taken ≡ c.count - on = omega arith in
          drop_bits c.input (c.first + taken) (c.count - taken) s.taken within ∙ (λ i. bits_of c.input (e i) (f i))

      -- the cycle of the stretch's last bit
      time : d.next + taken + s.taken - 1 ≡ d.next + on - 1
      time = omega arith

      module _ (tray₁ : List ℕ) (put : tray₁ ≡ tray_of tray s.event.frame) (kept_tray : length tray₁ ≡ length tray) where
        module _ (f : Effect) (did : f ≡ act_of d.plan p.model s.event.request (d.next + on - 1) store)
            (kept : length f.store ≡ length store) where
          -- what the cycle answers, and the earlier record then
          abbrev answer : Cycle
          answer = flagged_cycle p.earlier p.cnt f.acted.cycle

          abbrev there : System
          there = system_at d f.store tray₁ s.next f.acted.model (earlier_after p.earlier answer) on

          below_there : earlier_below (earlier_after p.earlier answer) (d.next + on) ≡ true
          below_there =
              let last : d.next + on - 1 + 1 ≡ d.next + on = omega (arith, moved.0) in
              let stamp : Stamped (d.next + on - 1) f.acted.cycle = rw did (stamped d.plan p.model (d.next + on - 1) store _ stretched_fits) in
              let before = below_later p.earlier (d.next + taken) (d.next + on - 1) (omega (arith, moved.0)) g.below in
              rw last at (below_next p.earlier p.cnt (d.next + on - 1) f.acted.cycle stamp before)

          lands : landed here s ≡ record { state = there; cycle = answer }
          lands =
              let e : d.next + taken + s.taken ≡ d.next + on = omega arith in
              rw (time, e, ← did, put, g.cnt_is)

          onward : finished on ((at - c.free) / 2) list at (after_cycle (run_of turn_of (left c on)) there answer (length list - at)) ≡ taken_of d c
          onward =
              let e : (n : ℕ) → on + n ≡ taken + (s.taken + n) = λ n. omega arith in
              let k : cnt_of d.plan p.model ≡ p.cnt = sym g.cnt_is in
              let run : Run System = after_cycle (run_of turn_of (left c on)) there answer (length list - at) in
              let to : run_of turn_of (left c taken) here (length list - at) ≡ bits_ahead s.taken run =
              run_stretch p.cnt (length list - at) room passes here refl k
              ∙ (λ i. bits_ahead s.taken (after_cycle (run_of turn_of (after i)) (lands i).state (lands i).cycle (length list - at))) in
              rw (e run.bits) (ap (finished taken ((at - c.free) / 2) list at) (sym to) ∙ g.rest)

          goes : (y : Cycle) → answer ≡ y → AfterRequest d c tray₁ s.next on (recorded_at d.plan f.acted.model p.earlier y f.store list at)
          goes Silent e = record {
            from = g.from;
            onwards = λ _. record {
              low = moved.1;
              below = rw e at below_there;
              from = g.from;
              fits = g.fits;
              same = g.same;
              long = kept ∙ g.long;
              wide = kept_tray ∙ g.wide;
              cnt_is = refl;
              rest = rw e at onward;
            };
            stopped = λ t. clash t refl;
          }
          goes (Recorded x) e =
              let list₁ : List ℕ = set (set list at (head_of x)) (at + 1) x.value in
              let same_list : length list₁ ≡ length list = simp length-set in
              let low : c.free ≤ at + 2 = omega (arith, g.from) in
              let then : System = system_at d f.store tray₁ s.next f.acted.model (earlier_of x) on in
              let next : Bool → Run System = λ b. cond b (ended then Frame) (run_of turn_of (left c on) then (length list - at - 2)) in
              let recorded : finished on ((at + 2 - c.free) / 2) list₁ (at + 2) (next (is_frame_head (head_of x))) ≡ taken_of d c =
              sym (wrote_one on at c.free x list (next (is_frame_head (head_of x))) g.from) ∙ (rw e at onward) in
              record {
                from = low;
                onwards = λ h.
                    let n : length list - at - 2 ≡ length list₁ - (at + 2) = omega (arith, same_list) in
                    record {
                      low = moved.1;
                      below = rw e at below_there;
                      from = low;
                      fits = omega (arith, same_list);
                      same = same_list ∙ g.same;
                      long = kept ∙ g.long;
                      wide = kept_tray ∙ g.wide;
                      cnt_is = refl;
                      rest = rw n at (rw h at recorded);
                    };
                stopped = λ h. ending c then Frame on (at + 2) list₁ ∙ (rw h at recorded);
              }

        -- a stretch that asks nothing of the controller
        pub quiet : s.event.request ≡ request.Nothing → Invariant d c store tray₁ list s.next p on
        unfolding act_of
        quiet e =
            let f : Effect = record { acted = record { model = p.model; cycle = Silent }; store = store } in
            let k = (goes f (rw e) refl Silent refl).onwards refl in
            record {
              low = k.low;
              below = k.below;
              from = k.from;
              fits = k.fits;
              same = k.same;
              long = k.long;
              wide = k.wide;
              cnt_is = g.cnt_is;
              rest = k.rest;
            }

        -- a stretch whose request is performed
        pub performed : (q : PerformResult) → q ≡ perform_of d.plan p s.event.request (d.next + on - 1) store list → length q.store ≡ length store
            → AfterRequest d c tray₁ s.next on q
        unfolding perform_of
        performed q e kept =
            let f : Effect = act_of d.plan p.model s.event.request (d.next + on - 1) store in
            let y : Cycle = flagged_cycle p.earlier p.cnt f.acted.cycle in
            let same : length q.store ≡ length f.store =
            ap (λ (q : PerformResult). length q.store) e ∙ same_store d.plan f.acted.model p.earlier y f.store list at in
            let k : length f.store ≡ length store = sym same ∙ kept in
            rw e (goes f refl k y refl)
