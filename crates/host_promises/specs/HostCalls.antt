-- The second and the third demand and the fourth promise for lists of the library's own calls: a host hands each call the image as the call before left it.
-- Assumes nothing.
use Rattle.std.specs.Prelude.{◌≡◌, true, cond, List, [], ◌∷◌, ◌++◌, ℕ, ◌+◌, ◌*◌, ◌<◌, ◌≤◌, eqb, length, get_or, take, drop}
use Rattle.limits.specs.Limits.{clock_limit, list_unit}
use Rattle.controller.specs.Widths.{WordsFit}
use Rattle.calls.specs.Run.{state_after, words_after}
use Rattle.calls.specs.Turn.{System, system_of, turn_of}
use Rattle.calls.specs.Take.{Call, call, offered, taken_of}
use Rattle.calls.specs.Calls.{Part}
use Rattle.image_fields.specs.Image.{state_of, image_fits}
use Rattle.host_results.specs.Take.{TakeResult, result_words, take_result_of}
use Rattle.clean_streams.specs.CleanStreams.{Item, stream_bits}
use Rattle.damage.specs.Hits.{HitCycles, Apart}
use Rattle.promises.specs.Records.{Ends}
use Rattle.promises.specs.Frames.{Receives, HandsBack}
use Rattle.promises.specs.Damage.{Stream, Runs, Wrote}
use Rattle.promises.specs.ManyHits.{Made, HitRuns, HitsWrote}

-- What a call is lent beside the image: the buffer of its result, and what any taking call is lent.
pub record HostCall : Type 0 where
  pub result : List ℕ
  pub lent : Call

-- What a call on an image answers and leaves; and a word of its result, where its number is 0. A refused call took no bits and wrote no records.
abbrev pub left : List ℕ → HostCall → TakeResult
left image h = take_result_of image h.result h.lent

abbrev pub told : TakeResult → ℕ → ℕ
told after word = cond (eqb after.number 0) (get_or after.result word 0) 0

-- The bits that a call answers as taken, and the words of the records that it answers as written, as they stand when it returns.
abbrev pub bits_told : List ℕ → HostCall → List ℕ
bits_told image h = take (told (left image h) 0) (offered h.lent)

abbrev pub words_told : List ℕ → HostCall → List ℕ
words_told image h = take (list_unit * told (left image h) 1) (drop h.lent.free (left image h).list)

-- "Nobody else writes the state between calls"; all other buffers "may be others at each call".
unfoldable pub image_bits : List ℕ → List HostCall → List ℕ
image_bits image [] = []
image_bits image (h ∷ hs) = bits_told image h ++ image_bits (left image h).image hs

unfoldable pub image_words : List ℕ → List HostCall → List ℕ
image_words image [] = []
image_words image (h ∷ hs) = words_told image h ++ image_words (left image h).image hs

-- The image that the last of them leaves.
unfoldable pub image_left : List ℕ → List HostCall → List ℕ
image_left image [] = image
image_left image (h ∷ hs) = image_left (left image h).image hs

-- What a list of them has taken and written, and the state that it leaves.
abbrev pub host_made : List ℕ → List HostCall → Made
host_made image hs = record { bits = image_bits image hs; words = image_words image hs; state = state_of (image_left image hs) }

-- "Across cuts, state, store and tray are carried over unchanged": what a host carries over, and what it lends each call of its own.
pub record Carried : Type 0 where
  pub image : List ℕ
  pub store : List ℕ
  pub tray : List ℕ

pub record HostPart : Type 0 where
  pub result : List ℕ
  pub part : Part

abbrev pub host_call : Carried → HostPart → HostCall
host_call k p = record {
  result = p.result;
  lent = call p.part.input p.part.first p.part.count k.store k.tray p.part.list p.part.free;
}

abbrev pub carried_on : TakeResult → Carried
carried_on after = record { image = after.image; store = after.store; tray = after.tray }

abbrev pub next : Carried → HostPart → Carried
next k p = carried_on (left k.image (host_call k p))

unfoldable pub host_bits : Carried → List HostPart → List ℕ
host_bits k [] = []
host_bits k (p ∷ ps) = bits_told k.image (host_call k p) ++ host_bits (next k p) ps

unfoldable pub host_words : Carried → List HostPart → List ℕ
host_words k [] = []
host_words k (p ∷ ps) = words_told k.image (host_call k p) ++ host_words (next k p) ps

unfoldable pub host_left : Carried → List HostPart → Carried
host_left k [] = k
host_left k (p ∷ ps) = host_left (next k p) ps

-- What it carries over stands for a state, with store and tray.
abbrev pub stands_for : Carried → System
stands_for k = system_of (state_of k.image) k.store k.tray

-- The second demand, whatever words the image has. A list of calls leaves and writes what its bits say, cycle by cycle: none missing and none added.
pub record HostExact (k : Carried) (ps : List HostPart) : Type 0 where
  pub state : stands_for (host_left k ps) ≡ state_after turn_of (stands_for k) (host_bits k ps)
  pub words : host_words k ps ≡ words_after turn_of (stands_for k) (host_bits k ps)

-- Where the bits taken join to the same stream, so do the records; image, store and tray at the end are the same.
abbrev pub HostCuts : Carried → Type 0
HostCuts k =
    (ps qs : List HostPart) → host_bits k ps ≡ host_bits k qs → (host_words k ps ≡ host_words k qs) × (host_left k ps ≡ host_left k qs)

-- A call that answers 0 tells the bits, the records and the ending of the taking call on its state, each ending at its condition.
pub record HostEnds (image : List ℕ) (h : HostCall) : Type 0 where
  pub result : (left image h).result ≡ result_words (taken_of (state_of image) h.lent).taken.report
  pub ends : Ends (state_of image) h.lent

-- The part of the tray handed back holds a frame's bits.
abbrev pub HostFrames : Type 0
HostFrames =
    (k : Carried) (ps : List HostPart) (command address : ℕ) (before field : List ℕ)
    → Receives (stands_for k) (host_bits k ps) command address before field
    → HandsBack (stands_for k) (host_words k ps) (host_left k ps).tray command before field

-- A call that answers 0 leaves an image that the next call does not turn away as unsound.
abbrev pub HostSound : Type 0
HostSound = (image : List ℕ) (h after : HostCall) → (left image h).number ≡ 0 → (left (left image h).image after).number ≡ 3 → ⊥

-- The third demand, any buffers at each call, and that its premises can be met where the words are an image.
abbrev pub HostDamage : Type 0
HostDamage =
    (image : List ℕ) (clean damaged : List HostCall) (items : List Item) (trailing k : ℕ)
    → Runs (state_of image) (image_bits image clean) (image_bits image damaged) items trailing k
    → Wrote (state_of image) (image_words image clean) (image_words image damaged) items k

pub record HostMet (image : List ℕ) (items : List Item) (trailing k : ℕ) : Type 0 where
  pub clean : List HostCall
  pub damaged : List HostCall
  pub runs : Runs (state_of image) (image_bits image clean) (image_bits image damaged) items trailing k

abbrev pub HostDamageMet : Type 0
HostDamageMet =
    (image : List ℕ) (items : List Item) (trailing k : ℕ) → image_fits image ≡ true → Stream (state_of image) items
    → k < length (stream_bits items trailing) → (state_of image).next + length (stream_bits items trailing) ≤ clock_limit → HostMet image items trailing k

-- The fourth promise, likewise.
abbrev pub HostHits : Type 0
HostHits =
    (image : List ℕ) (clean damaged : List HostCall) (hits : HitCycles) (items : List Item) (trailing : ℕ)
    → HitRuns (state_of image) (host_made image clean) (host_made image damaged) hits items trailing
    → HitsWrote (state_of image) (host_made image clean) (host_made image damaged) hits items

pub record HostHitMet (image : List ℕ) (hits : HitCycles) (items : List Item) (trailing : ℕ) : Type 0 where
  pub clean : List HostCall
  pub damaged : List HostCall
  pub runs : HitRuns (state_of image) (host_made image clean) (host_made image damaged) hits items trailing

abbrev pub HostHitsMet : Type 0
HostHitsMet =
    (image : List ℕ) (hits : HitCycles) (items : List Item) (trailing : ℕ) → image_fits image ≡ true → Stream (state_of image) items
    → Apart hits (state_of image).next items trailing → (state_of image).next + length (stream_bits items trailing) ≤ clock_limit
    → HostHitMet image hits items trailing

pub record HostDemands : Type 0 where
  pub exact : (k : Carried) (ps : List HostPart) → HostExact k ps
  pub ends : (image : List ℕ) (h : HostCall) → (left image h).number ≡ 0 → HostEnds image h
  pub cuts : (k : Carried) → HostCuts k
  pub frames : HostFrames
  pub sound : HostSound
  -- Each record has its time below 2^48 and "a value below 2^32".
  pub fits : (image : List ℕ) (hs : List HostCall) → WordsFit (image_words image hs)
  pub damage : HostDamage
  pub met : HostDamageMet
  pub hits : HostHits
  pub hits_met : HostHitsMet
