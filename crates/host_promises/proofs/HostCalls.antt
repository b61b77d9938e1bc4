-- A list of the library's calls is a list of taking calls on the state.
-- Assumes nothing.
use mathlib.Core.Path.{◌≡◌, ◌∙◌, refl, sym, ap, ap₂, subst}
use mathlib.Core.Bool.{Bool, true, false, cond, and-false}
use mathlib.Core.List.{List, [], ◌∷◌, ◌++◌}
use Prim.Native.Nat.{ℕ, suc, ◌*◌}
use native.Mathlib.Omega.{arith}
use lib.Dec.{eqb}
use lib.ListN.{length, take, drop}
use borrow.Author.Tests.{lt-leb, eqb-true}
use Rattle.limits.specs.Limits.{list_unit}
use Rattle.decoder.specs.declared.Decoder.{Decoder}
use Rattle.decoder.specs.Sound.{sound_of}
use Rattle.calls.specs.declared.Ending.{Ending}
use Rattle.calls.specs.declared.Ending.TheVariants.{Unsound, WrongBuffers}
use Rattle.calls.specs.Turn.{System, decoder_of}
use Rattle.calls.specs.Take.{Call, CallResult, call, offered, refused, take_of, ending_number}
use Rattle.calls.specs.Calls.{all_bits, all_words, state_left, Part, call_of, carried_bits, carried_words, carried_system, system_after, result_of}
use Rattle.calls.proofs.Refusals.{buffers, unsound, wrong_buffers}
use Rattle.image_fields.specs.Image.{image_of, state_of, image_fits, Widths}
use Rattle.image_fields.proofs.RoundTrip.{image_fits_lem, read_back}
use Rattle.host_results.specs.Take.{TakeResult, result_length, refused_call, answered, take_result_of}
use Rattle.kernelstill.proofs.WidthsKept.{widths_kept}
use Rattle.promises.specs.ManyHits.{made}
use Rattle.host_promises.specs.HostCalls.{HostCall, left, told, image_bits, image_words, image_left, host_made}
use Rattle.host_promises.specs.HostCalls.{Carried, HostPart, host_call, carried_on, next, host_bits, host_words, host_left}
use Rattle.promises.proofs.Refusals.{first_demand}
use Rattle.host_promises.proofs.Hosts.{host_promise}

-- The taking call that a call on an image is. One whose result has no three words is one whose first free word is past the list's end: number 4 both.
abbrev pub lent_by : Bool → Call → Call
lent_by fit c = call c.input c.first c.count c.store c.tray c.list (cond fit c.free (suc (length c.list)))

abbrev pub state_call : HostCall → Call
state_call h = lent_by (eqb (length h.result) result_length) h.lent

-- What a call on an image answers, beside what the call on its state answers.
record Agrees (c c' : Call) (r : TakeResult) (l : CallResult) : Type 0 where
  image : r.image ≡ image_of l.taken.decoder
  store : r.store ≡ l.store
  tray : r.tray ≡ l.tray
  bits : told r 0 ≡ l.taken.report.bits
  words : take (list_unit * told r 1) (drop c.free r.list) ≡ take (list_unit * l.taken.report.records) (drop c'.free l.list)

module _ (d : Decoder) (result : List ℕ) (c : Call) where
  -- both refused, and both through
  agree_refused : (fit : Bool) (n : ℕ) (e : Ending) → eqb n 0 ≡ false
      → Agrees c (lent_by fit c) (refused_call n (image_of d) result c) (refused d (lent_by fit c) e)
  agree_refused fit n e some = record { image = refl; store = refl; tray = refl; bits = rw some; words = rw some }

  agree_through : (l : CallResult) → eqb (ending_number l.taken.report.ending) 0 ≡ true → Agrees c c (answered (image_of d) result l) l
  agree_through l fit = record { image = rw fit; store = refl; tray = refl; bits = rw fit; words = rw fit }

  -- by the call on the state, where the result has three words
  agree_by : (number : Bool) → eqb (ending_number (take_of d c).taken.report.ending) 0 ≡ number
      → Agrees c c (answered (image_of d) result (take_of d c)) (take_of d c)
  agree_by true e = agree_through (take_of d c) e
  agree_by false e =
      let takes = first_demand.takes d c in
      let rejected = takes.rejected (ap (λ n. eqb n 0) (sym takes.number) ∙ e) in
      let some : eqb (ending_number rejected.0) 0 ≡ false =
      ap (λ (l : CallResult). eqb (ending_number l.taken.report.ending) 0) (sym rejected.1) ∙ e in
      subst (λ (l : CallResult). Agrees c c (answered (image_of d) result l) l) (sym rejected.1)
      (record { image = rw some; store = refl; tray = refl; bits = rw some; words = rw some })

  -- and by the state's soundness, where it has not
  refused_by : (sound : Bool) → sound_of d ≡ sound → Widths d → eqb (length result) result_length ≡ false
      → Agrees c (lent_by false c) (take_result_of (image_of d) result c) (take_of d (lent_by false c))
  unfolding take_result_of
  refused_by false s w e =
      rw (image_fits_lem d w, read_back d w, s, unsound d (lent_by false c) s) (agree_refused false 3 Unsound refl)
  refused_by true s w e =
      rw (image_fits_lem d w, read_back d w, s, e, wrong_buffers d (lent_by false c) s past) (agree_refused false 4 WrongBuffers refl)
    where
      past : buffers (lent_by false c) ≡ false
      past = rw (lt-leb (suc (length c.list)) (length c.list) (omega arith), and-false, and-false)

  agrees : (fit : Bool) → eqb (length result) result_length ≡ fit → Widths d
      → Agrees c (lent_by fit c) (take_result_of (image_of d) result c) (take_of d (lent_by fit c))
  agrees true e w =
      rw (host_promise.same_call d w result (eqb-true (length result) result_length e) c)
      (agree_by (eqb (ending_number (take_of d c).taken.report.ending) 0) refl)
  agrees false e w = refused_by (sound_of d) refl w e

same : (d : Decoder) (h : HostCall) → Widths d → Agrees h.lent (state_call h) (left (image_of d) h) (take_of d (state_call h))
same d h w = agrees d h.result h.lent (eqb (length h.result) result_length) refl w

-- Lists of calls, any buffers at each.
abbrev pub state_calls : List HostCall → List Call
state_calls [] = []
state_calls (h ∷ hs) = state_call h ∷ state_calls hs

record SameCalls (d : Decoder) (hs : List HostCall) : Type 0 where
  bits : image_bits (image_of d) hs ≡ all_bits d (state_calls hs)
  words : image_words (image_of d) hs ≡ all_words d (state_calls hs)
  left_over : image_left (image_of d) hs ≡ image_of (state_left d (state_calls hs))
  widths : Widths (state_left d (state_calls hs))

same_calls : (hs : List HostCall) (d : Decoder) → Widths d → SameCalls d hs
unfolding image_bits image_words image_left all_bits all_words state_left
same_calls [] d w = record { bits = refl; words = refl; left_over = refl; widths = w }
same_calls (h ∷ hs) d w =
    let a = same d h w in
    let rest = same_calls hs (take_of d (state_call h)).taken.decoder (widths_kept d (state_call h) w) in
    record {
      bits = ap₂ ◌++◌ (ap (λ n. take n (offered h.lent)) a.bits) (ap (λ i. image_bits i hs) a.image ∙ rest.bits);
      words = ap₂ ◌++◌ a.words (ap (λ i. image_words i hs) a.image ∙ rest.words);
      left_over = ap (λ i. image_left i hs) a.image ∙ rest.left_over;
      widths = rest.widths;
    }

pub same_made : (hs : List HostCall) (d : Decoder) → Widths d → host_made (image_of d) hs ≡ made d (state_calls hs)
same_made hs d w =
    let s = same_calls hs d w in
    let left : Decoder = state_left d (state_calls hs) in
    let state : state_of (image_left (image_of d) hs) ≡ left = ap state_of s.left_over ∙ read_back left s.widths in
    λ i. record { bits = s.bits i; words = s.words i; state = state i }

-- Lists of calls, store and tray carried over.
abbrev pub state_part : HostPart → Part
state_part p = record {
  input = p.part.input;
  first = p.part.first;
  count = p.part.count;
  list = p.part.list;
  free = cond (eqb (length p.result) result_length) p.part.free (suc (length p.part.list));
}

abbrev pub state_parts : List HostPart → List Part
state_parts [] = []
state_parts (p ∷ ps) = state_part p ∷ state_parts ps

abbrev pub imaged : System → Carried
imaged s = record { image = image_of (decoder_of s); store = s.machine.store; tray = s.machine.tray }

pub record SameCarried (s : System) (ps : List HostPart) : Type 0 where
  pub bits : host_bits (imaged s) ps ≡ carried_bits s (state_parts ps)
  pub words : host_words (imaged s) ps ≡ carried_words s (state_parts ps)
  pub left_over : host_left (imaged s) ps ≡ imaged (carried_system s (state_parts ps))
  pub widths : Widths (decoder_of (carried_system s (state_parts ps)))

pub same_carried : (ps : List HostPart) (s : System) → Widths (decoder_of s) → SameCarried s ps
unfolding host_bits host_words host_left carried_bits carried_words carried_system
same_carried [] s w = record { bits = refl; words = refl; left_over = refl; widths = w }
same_carried (p ∷ ps) s w =
    let a = same (decoder_of s) (host_call (imaged s) p) w in
    let after : System = system_after (result_of s (state_part p)) in
    let on : next (imaged s) p ≡ imaged after = λ i. record { image = a.image i; store = a.store i; tray = a.tray i } in
    let rest = same_carried ps after (widths_kept (decoder_of s) (call_of s (state_part p)) w) in
    record {
      bits = ap₂ ◌++◌ (ap (λ n. take n (offered (host_call (imaged s) p).lent)) a.bits) (ap (λ k. host_bits k ps) on ∙ rest.bits);
      words = ap₂ ◌++◌ a.words (ap (λ k. host_words k ps) on ∙ rest.words);
      left_over = ap (λ k. host_left k ps) on ∙ rest.left_over;
      widths = rest.widths;
    }

-- A call on malformed words takes nothing and changes nothing.
malformed : (image : List ℕ) (h : HostCall) → image_fits image ≡ false → left image h ≡ refused_call 3 image h.result h.lent
unfolding take_result_of
malformed image h e = rw e

pub nothing_made : (image : List ℕ) → image_fits image ≡ false → (hs : List HostCall)
    → host_made image hs ≡ record { bits = []; words = []; state = state_of image }
unfolding image_bits image_words image_left
nothing_made image e [] = refl
nothing_made image e (h ∷ hs) =
    ap
    (λ (r : TakeResult). record {
      bits = take (told r 0) (offered h.lent) ++ image_bits r.image hs;
      words = take (list_unit * told r 1) (drop h.lent.free r.list) ++ image_words r.image hs;
      state = state_of (image_left r.image hs);
    })
    (malformed image h e)
    ∙ nothing_made image e hs

pub record Nothing (k : Carried) (ps : List HostPart) : Type 0 where
  pub bits : host_bits k ps ≡ []
  pub words : host_words k ps ≡ []
  pub left_over : host_left k ps ≡ k

pub nothing : (k : Carried) → image_fits k.image ≡ false → (ps : List HostPart) → Nothing k ps
unfolding host_bits host_words host_left
nothing k e [] = record { bits = refl; words = refl; left_over = refl }
nothing k e (p ∷ ps) =
    let rest = nothing k e ps in
    let m = malformed k.image (host_call k p) e in
    record {
      bits = ap (λ (r : TakeResult). take (told r 0) (offered (host_call k p).lent) ++ host_bits (carried_on r) ps) m ∙ rest.bits;
      words = ap (λ (r : TakeResult). take (list_unit * told r 1) (drop p.part.free r.list) ++ host_words (carried_on r) ps) m ∙ rest.words;
      left_over = ap (λ (r : TakeResult). host_left (carried_on r) ps) m ∙ rest.left_over;
    }
