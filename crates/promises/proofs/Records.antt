-- The second demand, proved.
-- Assumes nothing.
use mathlib.Core.Path.{◌≡◌, ◌∙◌, sym, ap, subst}
use mathlib.Core.List.{List, [], ◌∷◌, ◌++◌}
use Prim.Native.Nat.{ℕ, ◌+◌, ◌-◌}
use native.Mathlib.Omega.{arith}
use lib.ListN.{length, length-append}
use Rattle.decoder.specs.declared.Decoder.{Decoder}
use Rattle.calls.specs.Run.{Run, NoFrames, run_of, state_after, words_after}
use Rattle.calls.specs.Turn.{System, turn_of}
use Rattle.calls.specs.Take.{Call, offered, lent, taken_of}
use Rattle.calls.proofs.RunFaithful.{run_faithful}
use Rattle.calls.proofs.RunEndings.{run_ended}
use Rattle.calls.proofs.CallLists.{call_kept, carried_words_lem, carried_system_lem}
use Rattle.calls.proofs.LoopInvariant.{length_bits}
use Rattle.calls.proofs.SoundnessKept.{start_sound, take_sound}
use Rattle.calls.proofs.RecordsFit.{words_fit}
use Rattle.promises.proofs.Frames.{frames, steady_vote, empty_frame}
use Rattle.promises.proofs.ListParts.{same_parts}
use Rattle.promises.proofs.RunGoesOn.{run_goes_on, run_last_bit}
use Rattle.promises.proofs.RecordLines.{lines_tell}
use Rattle.promises.specs.Records.{Exact, Ends, Cuts, SecondDemand}

-- the first parts of two lists that each have two words behind
two_behind : (xs ys : List ℕ) (a b a' b' : ℕ) → xs ++ (a ∷ b ∷ []) ≡ ys ++ (a' ∷ b' ∷ []) → xs ≡ ys
two_behind xs ys a b a' b' e =
    let n : length xs + 2 ≡ length ys + 2 = sym (length-append xs (a ∷ b ∷ [])) ∙ ap length e ∙ length-append ys (a' ∷ b' ∷ []) in
    (same_parts xs ys (a ∷ b ∷ []) (a' ∷ b' ∷ []) (omega arith) e).first

exact : (d : Decoder) (c : Call) → Exact d c
exact d c = let k = call_kept d c in record { state = k.system; words = k.words }

module _ (d : Decoder) (c : Call) where
  run : Run System
  run = run_of turn_of (offered c) (lent d c) (length c.list - c.free)

  pub ends : Ends d c
  unfolding taken_of run
  ends =
      let e = run_ended turn_of (offered c) (lent d c) (length c.list - c.free) in
      let f = run_faithful turn_of (offered c) (lent d c) (length c.list - c.free) in
      let n : length (offered c) ≡ c.count = length_bits c.input c.first c.count in
      let z : 0 + run.bits ≡ run.bits = omega arith in
      record {
        done = λ h. let g = e.done h in omega arith;
        full = λ h. let g = e.full h in let w = f.whole in (omega arith, omega arith);
        frame = λ h.
            let g = e.framed h in
            let l = run_last_bit turn_of (offered c) (lent d c) (length c.list - c.free) h in
            let parts = sym f.words ∙ g.parts in
            record {
              last_record = record { before = g.before; head = g.head; value = g.value; parts = rw z parts; frame = g.frame; earlier = g.earlier };
              ahead = l.ahead;
              last_bit = z ∙ l.last;
              by_last_bit = two_behind g.before _ _ _ _ _ (sym parts ∙ l.parts);
            };
        no_frame = λ h. rw z (subst NoFrames f.words (e.unframed h));
        at_once = λ n h. run_goes_on turn_of (offered c) (lent d c) (length c.list - c.free) n (rw (← z) h);
      }

cuts : (s : System) → Cuts s
cuts s ps qs e = (
  carried_words_lem s ps ∙ ap (words_after turn_of s) e ∙ sym (carried_words_lem s qs),
  carried_system_lem s ps ∙ ap (state_after turn_of s) e ∙ sym (carried_system_lem s qs),
)

pub second_demand : SecondDemand
second_demand = record {
  exact = exact;
  ends = ends;
  cuts = cuts;
  frames = frames;
  steady_vote = steady_vote;
  empty_frame = empty_frame;
  opens_sound = start_sound;
  stays_sound = take_sound;
  fits = λ d cs. words_fit cs d;
  lines_tell = lines_tell;
}
