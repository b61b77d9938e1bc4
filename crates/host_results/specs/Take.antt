-- A taking call on an image: the call on the state that the image reads as.
-- Assumes nothing.
use Rattle.std.specs.Prelude.{cond, List, [], ◌∷◌, ℕ, eqb, length}
use Rattle.decoder.specs.declared.Decoder.{Decoder}
use Rattle.calls.specs.declared.Ending.{Ending}
use Rattle.calls.specs.declared.Ending.TheVariants.{Done, Frame, ListFull, Unsound, WrongBuffers, WrongRange, ClockOver}
use Rattle.calls.specs.declared.Report.{Report}
use Rattle.calls.specs.Take.{Call, CallResult, take_of, ending_number}
use Rattle.image_fields.specs.Image.{image_of, state_of}
use Rattle.host_opening.specs.Holding.{sound_image}

-- A refusal number, 0 for none, and each buffer's later contents.
pub record TakeResult : Type 0 where
  pub number : ℕ
  pub image : List ℕ
  pub result : List ℕ
  pub store : List ℕ
  pub tray : List ℕ
  pub list : List ℕ

abbrev pub take_result : ℕ → List ℕ → List ℕ → List ℕ → List ℕ → List ℕ → TakeResult
take_result number image result store tray list =
    record { number = number; image = image; result = result; store = store; tray = tray; list = list }

-- The three endings of a call that is not refused; a refusal has its number instead.
abbrev pub ending_code : Ending → ℕ
ending_code Done = 0
ending_code Frame = 1
ending_code ListFull = 2
ending_code Unsound = 0
ending_code WrongBuffers = 0
ending_code WrongRange = 0
ending_code ClockOver = 0

abbrev pub result_length : ℕ
result_length = 3

-- The result: "bits taken, records written, and one ending".
abbrev pub result_words : Report → List ℕ
result_words t = t.bits ∷ t.records ∷ ending_code t.ending ∷ []

-- A refused call: every buffer as it was lent.
abbrev pub refused_call : ℕ → List ℕ → List ℕ → Call → TakeResult
refused_call number image result c = take_result number image result c.store c.tray c.list

-- What a call on the state leaves: where it is not refused, the next state as an image, and the result.
abbrev pub answered : List ℕ → List ℕ → CallResult → TakeResult
answered image result l =
    let number = ending_number l.taken.report.ending in
    let fit = eqb number 0 in
    take_result number (cond fit (image_of l.taken.decoder) image) (cond fit (result_words l.taken.report) result)
    l.store l.tray l.list

-- Number 3 also for an image that is malformed, number 4 also where the result has no three words. The call on the state is a parameter here, so that a
-- promise can speak of another.
abbrev pub take_result_by : (Decoder → Call → CallResult) → List ℕ → List ℕ → Call → TakeResult
take_result_by take image result c =
    cond (sound_image image)
    (cond (eqb (length result) result_length) (answered image result (take (state_of image) c))
    (refused_call 4 image result c))
    (refused_call 3 image result c)

-- On the taking call.
unfoldable pub take_result_of : List ℕ → List ℕ → Call → TakeResult
take_result_of = take_result_by take_of
